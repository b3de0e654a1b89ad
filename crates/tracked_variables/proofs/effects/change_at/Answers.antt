use Rattle.std.proofs.Common.{sym, ap, ◌∙◌, arith}
use Rattle.loop_bounds.specs.Effect.{change_of}
use Rattle.loop_bounds.proofs.VariableLemmas.{same_from_rank}
use Rattle.tracked_variables.proofs.effects.change_at.Goals as goal

pub returns-in-Some : goal.returns-in-Some
returns-in-Some c = λ _ v same. c.change.ensures ∙ ap (change_of c.args.effect.now) (same_from_rank c.in-Some.variable v (c.in-Some.ensures ∙ sym same))

pub returns-in-None : goal.returns-in-None
returns-in-None c = λ low. absurd (omega (arith, low, c.in-None.ensures))
