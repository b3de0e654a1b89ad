use Rattle.std.proofs.Common.{take}
use Rattle.loop_bounds.proofs.SoFar.{HasAddedScaled}
use Rattle.loop_bounds.proofs.form.Form.add_scaled_terms.Given as goal

abbrev pub invariant-loop-term : goal.invariant-loop-term
invariant-loop-term l = HasAddedScaled l.initial.self l.self l.fn.factor (take l.term-index l.terms) l.term-index
