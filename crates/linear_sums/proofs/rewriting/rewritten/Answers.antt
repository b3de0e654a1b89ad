use Rattle.std.proofs.Common.{◌∙◌, ◌+◌, ◌*◌, arith}
use Rattle.linear_sums.proofs.SumLemmas.{made_wider}
use Rattle.linear_sums.proofs.RewritingLemmas.{rewritten_value, goes_on, all_done}
use Rattle.linear_sums.proofs.rewriting.rewritten.Goals as goal

pub loop-term-preserved : goal.loop-term-preserved
loop-term-preserved c = record {
  exact = c.loop-term.invariant.exact ∙ goes_on c.args.effect.now c.args.linear_change.now c.terms-term-items.result.now c.loop-term.term-index c.term-item.result c.loop-term.sum c.loop-term-test.true c.term-item.is c.add_after.new.self c.if-not-add_after.ensures.exact;
  room = made_wider c.add_after.new.self (1 + 4 * c.loop-term.term-index + 4) (1 + 4 * (c.loop-term.term-index + 1)) (omega arith) (c.if-not-add_after.ensures.room (1 + 4 * c.loop-term.term-index) c.loop-term.invariant.room);
}

pub returns-clause-true_before : goal.returns-clause-true_before
returns-clause-true_before c = λ before after h.
    rewritten_value c.args.effect.now c.args.linear_change.now before after c.args.linear.now c.loop-term.sum
    (c.loop-term.invariant.exact ∙ all_done c.args.effect.now c.args.linear_change.now c.terms-term-items.result.now c.loop-term.term-index c.loop-term.sum c.loop-term-test.false) h
