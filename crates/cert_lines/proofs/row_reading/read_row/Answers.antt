use Rattle.std.proofs.Common.{rules, ◌≡◌, ◌++◌, ap, sym, ◌∙◌, arith}
use Rattle.abs_state.specs.declared.mode.Mode.TheVariants.{Unset}
use Rattle.cert_lines.proofs.RowLemmas.{behind_pairs, behind_place, last_form, made_form, made_reads, mode_told, parts_row, row_parts, same_shapes, unset_empty}
use Rattle.cert_lines.specs.Read.{row_with}
use Rattle.cert_lines.specs.Row.{last_fields, last_of, pair_fields, place_fields, place_of}
use Rattle.cert_lines.proofs.row_reading.read_row.Goals as goal
use Rattle.cert_lines.proofs.row_reading.read_row.Goals.{else-eq-via-then-eq+else-last-gt0, else-eq-via-else-eq}

pub returns-in_err-place : goal.returns-in_err-place
returns-in_err-place c =
    rw c.from_residual.ensures (λ row form same.
    c.in_err-place.ensures (place_of row) (pair_fields row.state.pairs ++ last_fields c.args.version row) form.place (row_parts _ row _ same))

pub returns-in_err-pairs : goal.returns-in_err-pairs
returns-in_err-pairs c =
    rw c.from_residual-in_err-pairs.ensures (λ row form same.
    c.in_err-pairs.ensures row.state.pairs (last_fields c.args.version row) form.pairs
    (behind_place c.args.version c.in_ok-place.place (place_of row) _ _ (sym c.in_ok-place.ensures.1 ∙ row_parts _ row _ same)))

pub returns-in_err-last : goal.returns-in_err-last
returns-in_err-last c =
    rw c.from_residual-in_err-last.ensures (λ row form same.
    let behind = behind_place c.args.version c.in_ok-place.place (place_of row) _ _ (sym c.in_ok-place.ensures.1 ∙ row_parts _ row _ same) in
    c.in_err-last.ensures (last_of row) (last_form _ row form) (behind_pairs c.in_ok-pairs.pairs row.state.pairs _ _ (sym c.in_ok-pairs.ensures.1 ∙ behind)))

pub returns-then-last-gt0 : goal.returns-then-last-gt0
returns-then-last-gt0 c row form same =
    let (last, last_is, told, text) = c.in_ok-last.ensures in
    let whole = sym c.in_ok-place.ensures.1 ∙ row_parts _ row _ same in
    let behind = behind_place c.args.version c.in_ok-place.place (place_of row) _ _ whole in
    let ends = behind_pairs c.in_ok-pairs.pairs row.state.pairs _ _ (sym c.in_ok-pairs.ensures.1 ∙ behind) in
    let slots = same_shapes c.args.version last (last_of row) last_is (last_form _ row form) (sym text ∙ ends) in
    let is : c.in_ok-place.place.mode ≡ Unset = search (rules, c.if-eq.ensures) in
    let empty = unset_empty c.args.version row form (sym (mode_told c.args.version c.in_ok-place.place (place_of row) _ _ whole) ∙ is) in
    omega (arith, told.count, slots, empty, c.if-last-gt0.true)

pub returns : goal.returns
returns c =
    let (last, last_is, told, text) = c.in_ok-last.ensures in
    let row = row_with c.in_ok-place.place c.in_ok-pairs.pairs last in
    let form = made_form c.args.version c.in_ok-place.place c.in_ok-pairs.pairs last c.in_ok-place.ensures.0 c.in_ok-pairs.ensures.0 last_is
    (λ unset some. elim c.else-eq.branch [
      | else-eq-via-then-eq+else-last-gt0 w ↦ omega (arith, told.count, some, w.if-last-gt0.false)
      | else-eq-via-else-eq w ↦ search (rules, unset, w.if-eq.ensures)
    ]) in
    let whole = parts_row c.args.version row c.args.fields (c.in_ok-place.ensures.1 ∙ ap (λ xs. place_fields c.args.version c.in_ok-place.place ++ xs)
    (c.in_ok-pairs.ensures.1 ∙ ap (λ xs. pair_fields c.in_ok-pairs.pairs ++ xs) text)) in
    made_reads c.args.version row c.args.fields c.row_of.result form whole (c.row_of.ensures last told)
