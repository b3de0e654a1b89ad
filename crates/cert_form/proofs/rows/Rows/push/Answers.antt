use Rattle.std.proofs.Common.{◌∷◌, [], ◌++◌, map, ap, ◌∙◌}
use Rattle.std.proofs.lemmas.Result.{err_from_is_err_and}
use Rattle.cert_form.specs.Rows.{as_told}
use Rattle.cert_form.proofs.RowLemmas.{keeps, numbered_push, rows_push, same_rows, still_numbered}
use Rattle.cert_form.proofs.rows.Rows.push.Goals as goal

pub returns-in_err-parts_number-clause-err : goal.returns-in_err-parts_number-clause-err
returns-in_err-parts_number-clause-err c =
    let p = err_from_is_err_and c.from_residual-in_err-parts_number.result c.from_residual-in_err-parts_number.ensures.1 in
    let shapes = keeps c.self.inside.shapes c.number_of.new.self c.in_ok-shape_number.ensures.longer c.in_ok-shape_number.ensures.kept in
    let parts = keeps c.self.inside.parts c.number_of-2.new.self c.in_err-parts_number.ensures.longer c.in_err-parts_number.ensures.kept in
    rw p.1
    (same_rows c.self.inside.shapes c.number_of.new.self c.self.inside.parts c.number_of-2.new.self shapes parts c.self.inside.rows.items c.self.invariant
    ∙ c.self.view_is)

pub invariant_of-self-in_err-push : goal.invariant_of-self-in_err-push
invariant_of-self-in_err-push c =
    let shapes = keeps c.self.inside.shapes c.number_of.new.self c.in_ok-shape_number.ensures.longer c.in_ok-shape_number.ensures.kept in
    let parts = keeps c.self.inside.parts c.number_of-2.new.self c.in_ok-parts_number.ensures.longer c.in_ok-parts_number.ensures.kept in
    rw (c.in_err-push.ensures {u = tt}).items
    (still_numbered c.self.inside.shapes c.number_of.new.self c.self.inside.parts c.number_of-2.new.self shapes parts c.self.inside.rows.items c.self.invariant)

pub returns-in_err-push-clause-err : goal.returns-in_err-push-clause-err
returns-in_err-push-clause-err c =
    let p = err_from_is_err_and c.from_residual-in_err-push.result c.from_residual-in_err-push.ensures.1 in
    let shapes = keeps c.self.inside.shapes c.number_of.new.self c.in_ok-shape_number.ensures.longer c.in_ok-shape_number.ensures.kept in
    let parts = keeps c.self.inside.parts c.number_of-2.new.self c.in_ok-parts_number.ensures.longer c.in_ok-parts_number.ensures.kept in
    rw p.1
    (ap (map (as_told c.number_of.new.self c.number_of-2.new.self)) (c.in_err-push.ensures {u = tt}).items
    ∙ same_rows c.self.inside.shapes c.number_of.new.self c.self.inside.parts c.number_of-2.new.self shapes parts c.self.inside.rows.items c.self.invariant
    ∙ c.self.view_is)

pub invariant_of-self-2 : goal.invariant_of-self-2
invariant_of-self-2 c =
    let shapes = keeps c.self.inside.shapes c.number_of.new.self c.in_ok-shape_number.ensures.longer c.in_ok-shape_number.ensures.kept in
    let parts = keeps c.self.inside.parts c.number_of-2.new.self c.in_ok-parts_number.ensures.longer c.in_ok-parts_number.ensures.kept in
    rw c.in_ok-push.ensures.items
    (numbered_push c.self.inside.shapes c.number_of.new.self c.self.inside.parts c.number_of-2.new.self shapes parts c.self.inside.rows.items _ _ _ c.self.invariant
    c.in_ok-shape_number.ensures.stored c.in_ok-parts_number.ensures.stored)

pub returns-clause-pushed : goal.returns-clause-pushed
returns-clause-pushed c =
    let shapes = keeps c.self.inside.shapes c.number_of.new.self c.in_ok-shape_number.ensures.longer c.in_ok-shape_number.ensures.kept in
    let parts = keeps c.self.inside.parts c.number_of-2.new.self c.in_ok-parts_number.ensures.longer c.in_ok-parts_number.ensures.kept in
    rw c.in_ok-push.ensures.items
    (rows_push c.self.inside.shapes c.number_of.new.self c.self.inside.parts c.number_of-2.new.self shapes parts c.self.inside.rows.items _ _ _ c.self.invariant
    c.in_ok-shape_number.ensures.stored c.in_ok-parts_number.ensures.stored
    ∙ ap (λ rows. rows ++ c.args.row ∷ []) c.self.view_is)
