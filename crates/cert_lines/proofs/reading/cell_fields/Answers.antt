use Rattle.std.proofs.Common.{sym, ◌∙◌, refl}
use Rattle.cert_lines.proofs.FieldLemmas.{cell_order, more, out_of_order}
use Rattle.cert_lines.proofs.reading.cell_fields.Goals as goal

pub returns-in_err-range : goal.returns-in_err-range
returns-in_err-range c =
    let seen = more _ _ _ _ _ c.in_ok-next.ensures refl (more _ _ _ _ _ c.in_ok-next-2.ensures refl (more _ _ _ _ _ c.in_ok-next-3.ensures refl refl)) in
    rw c.from_residual-in_err-range.ensures (λ x form same.
    out_of_order c.in_ok-low.low c.in_ok-high.high (sym c.new.ensures ∙ c.in_err-range.was)
    (cell_order _ _ _ c.in_ok-low.low c.in_ok-high.high _ x form.1 c.in_ok-low.ensures.1 c.in_ok-high.ensures.1 (sym seen ∙ same)))
