use Rattle.std.proofs.Common.{◌<◌, ◌≤◌, map, sym, ap, refl, ◌∙◌, length, arith}
use Rattle.std.proofs.lemmas.List.{get_or-map, length-map, map-set}
use Rattle.cert_form.specs.Rows.{as_told, changed_at, with_potential}
use Rattle.cert_form.proofs.ChangedLemmas.{changed_past, set_changed}
use Rattle.cert_form.proofs.rows.Rows.set_potential.Goals as goal

pub returns-then-number-len : goal.returns-then-number-len
returns-then-number-len c =
    let rows = c.self.inside.rows.items in
    let told = as_told c.self.inside.shapes c.self.inside.parts in
    let row = c.index_mut.result.now in
    let within : c.args.number < length rows = omega arith in
    map-set told rows c.args.number _
    ∙ set_changed (with_potential c.args.potential) (map told rows) c.args.number (told row) _ (omega (arith, length-map rows told))
    (ap told c.index_mut.ensures.value ∙ sym (get_or-map told rows c.args.number row (told row) within)) refl
    ∙ ap (changed_at (with_potential c.args.potential) c.args.number) c.self.view_is

pub returns-else-number-len : goal.returns-else-number-len
returns-else-number-len c =
    let rows = c.self.inside.rows.items in
    let past : length rows ≤ c.args.number = omega arith in
    sym (changed_past (with_potential c.args.potential) c.args.number c.args.self.now
    (omega (arith, past, ap length c.self.view_is, length-map rows (as_told c.self.inside.shapes c.self.inside.parts))))
