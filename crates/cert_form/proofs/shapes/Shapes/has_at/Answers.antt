use Rattle.std.proofs.Common.{Some, ap, sym, ◌∙◌}
use Rattle.cert_form.proofs.ShapeLemmas.{same_slots}
use Rattle.cert_form.proofs.shapes.Shapes.has_at.Goals as goal

pub returns-in-Some : goal.returns-in-Some
returns-in-Some c e = sym c.in-Some.ensures ∙ ap Some (same_slots _ _ (sym c.eq.ensures ∙ e))
