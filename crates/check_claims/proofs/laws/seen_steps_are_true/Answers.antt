use Rattle.check_claims.proofs.SeenLemmas.{seen_agrees, seen_ones}
use Rattle.check_claims.proofs.laws.seen_steps_are_true.Goals as goal

pub returns-clause-values : goal.returns-clause-values
returns-clause-values c = λ s cells entry old new regs holds facts becomes.
    record { bytes = seen_agrees old; ones = seen_ones s.before cells entry old regs holds; facts = facts; becomes = becomes }

pub returns-clause-conditions : goal.returns-clause-conditions
returns-clause-conditions c = λ s after cells entry old new regs holds before told come.
    record { bytes = seen_agrees new; ones = seen_ones after cells entry new regs holds; holds_before = before; holds_after = told; come = come }
