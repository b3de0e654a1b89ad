use Rattle.std.proofs.Common.{rules, of_calls, ◌≡◌, ◌∙◌, map, ap, sym, subst, slice_get}
use Rattle.std.proofs.lemmas.Fn.{always_returns_same}
use Rattle.std.proofs.lemmas.List.Sorted.{IsPartitionedBy-ltb}
use Rattle.cert_form.specs.Form.{RisePlaces, place_number}
use Rattle.cert_form.specs.Rows.{as_told}
use Rattle.cert_form.specs.declared.rows.NumberedRow.{NumberedRow}
use Rattle.cert_form.proofs.RowLemmas.{PartsRows, in_order, rows_above, rows_below, stands_before}
use Rattle.cert_form.proofs.rows.Rows.before.Goals as goal
use Rattle.cert_form.proofs.rows.Rows.before.Goals.{After-partition_point}

-- the rows that are searched mean the rows of the view
said : (c : After-partition_point) → map (as_told c.self.inside.shapes c.self.inside.parts) c.as_slice.result.now ≡ c.args.self.now
said c = ap (map (as_told c.self.inside.shapes c.self.inside.parts)) c.as_slice.ensures.value ∙ c.self.view_is

parted : (c : After-partition_point) → PartsRows (place_number c.args.proc c.args.address) c.as_slice.result.now c.partition_point.result
parted c =
    let number = place_number c.args.proc c.args.address in
    let rise : RisePlaces (map (as_told c.self.inside.shapes c.self.inside.parts) c.as_slice.result.now) = subst RisePlaces (sym (said c)) c.requires in
    c.partition_point.ensures.partitioned (stands_before number) (always_returns_same _ _ _ (λ a r f k. search (rules, of_calls)))
    (IsPartitionedBy-ltb (λ (r : NumberedRow). place_number r.proc r.address) c.as_slice.result.now number
    (in_order c.self.inside.shapes c.self.inside.parts c.as_slice.result.now rise))

pub returns-clause-below : goal.returns-clause-below
returns-clause-below c = λ k row is below.
    rows_below _ c.self.inside.shapes c.self.inside.parts c.as_slice.result.now _ k row (parted c) (ap (λ rows. slice_get rows k) (said c) ∙ is) below

pub returns-clause-from : goal.returns-clause-from
returns-clause-from c = λ k row is above.
    rows_above _ c.self.inside.shapes c.self.inside.parts c.as_slice.result.now _ k row (parted c) (ap (λ rows. slice_get rows k) (said c) ∙ is) above
