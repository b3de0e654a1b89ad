use Rattle.cert_fields.specs.Linear.{IsBelow}
use Rattle.cert_fields.proofs.LinearForm.{sum_from_linear}
use Rattle.cert_fields.proofs.ValueLemmas.{all_next, all_seen}
use Rattle.cert_fields.proofs.linear_values.is_linear.Goals as goal

pub loop-term-preserved : goal.loop-term-preserved
loop-term-preserved c =
    all_next (λ t. IsBelow 64 t.variable) c.terms-term-items.result.now c.loop-term.term-index c.term-item.result c.loop-term-test.true c.term-item.is c.loop-term.invariant c.is_held.ensures

pub returns-clause-form : goal.returns-clause-form
returns-clause-form c =
    sum_from_linear 64 c.args.linear.now c.terms-term-items.ensures.linear
    (all_seen (λ t. IsBelow 64 t.variable) c.terms-term-items.result.now c.args.linear.now.terms c.loop-term.term-index c.terms-term-items.ensures.value c.loop-term-test.false c.loop-term.invariant)

pub returns-clause-short : goal.returns-clause-short
returns-clause-short c = record {
  count = c.terms-term-items.ensures.linear.count;
  numbers = all_seen (λ t. IsBelow 64 t.variable) c.terms-term-items.result.now c.args.linear.now.terms c.loop-term.term-index c.terms-term-items.ensures.value c.loop-term-test.false c.loop-term.invariant;
}
