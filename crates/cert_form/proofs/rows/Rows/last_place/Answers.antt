use Rattle.std.proofs.Common.{map, refl, sym, ap, ◌∙◌}
use Rattle.std.proofs.lemmas.List.{map_push}
use Rattle.cert_form.specs.Rows.{as_told}
use Rattle.cert_form.proofs.LastLemmas.{split_last}
use Rattle.cert_form.proofs.rows.Rows.last_place.Goals as goal

pub returns : goal.returns
returns c =
    let told = as_told c.self.inside.shapes c.self.inside.parts in
    let last = c.in_ok-last.last.now in
    let split = split_last c.deref.result.now last (sym c.in_ok-last.ensures.value) in (
      map told split.before,
      told last,
      sym c.self.view_is ∙ ap (map told) (sym c.deref.ensures.value ∙ split.whole) ∙ map_push told split.before last,
      refl,
      refl,
    )
