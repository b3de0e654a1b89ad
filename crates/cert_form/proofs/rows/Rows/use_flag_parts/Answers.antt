use Rattle.std.proofs.Common.{length, sym, ap, subst, arith}
use Rattle.std.proofs.lemmas.List.{with_items_is}
use Rattle.cert_form.specs.Rows.{HaveNumbers}
use Rattle.cert_form.proofs.rows.Rows.use_flag_parts.Goals as goal

pub invariant_of-self : goal.invariant_of-self
invariant_of-self c =
    let rows = c.self.inside.rows in
    let shapes = c.self.inside.shapes in
    rw (with_items_is rows c.use_flag_parts.new.rows (omega (arith, c.use_flag_parts.auto.rows, ap length c.as_mut_slice.ensures.value)))
    (c.use_flag_parts.ensures.numbered shapes
    (subst (HaveNumbers shapes c.self.inside.parts) (sym c.as_mut_slice.ensures.value) c.self.invariant))
