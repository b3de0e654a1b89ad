use Rattle.std.proofs.Common.{ap, length, arith}
use Rattle.std.proofs.lemmas.List.Elements.{recursion_from_All}
use Rattle.cert_fields.specs.Linear.{IsSum, IsShort}
use Rattle.cert_fields.proofs.ValueLemmas.{all_next, all_seen}
use Rattle.cert_fields.proofs.row_values.are_facts.Goals as goal

pub loop-fact-preserved : goal.loop-fact-preserved
loop-fact-preserved c = (
  all_next (IsSum 64) c.as_slice-fact-items.result.now c.loop-fact.fact-index c.fact-item.result c.loop-fact-test.true c.fact-item.is c.loop-fact.invariant.0 c.is_linear.ensures.form,
  all_next IsShort c.as_slice-fact-items.result.now c.loop-fact.fact-index c.fact-item.result c.loop-fact-test.true c.fact-item.is c.loop-fact.invariant.1 c.is_linear.ensures.short,
)

pub returns-clause-form : goal.returns-clause-form
returns-clause-form c =
    recursion_from_All (IsSum 64) c.args.facts.now
    (all_seen (IsSum 64) c.as_slice-fact-items.result.now c.args.facts.now c.loop-fact.fact-index c.as_slice-fact-items.ensures.value c.loop-fact-test.false c.loop-fact.invariant.0)

pub returns-clause-few : goal.returns-clause-few
returns-clause-few c =
    let within = c.as_slice-fact-items.ensures.within in
    record {
      count = omega (arith, ap length c.as_slice-fact-items.ensures.value);
      short = recursion_from_All IsShort c.args.facts.now
          (all_seen IsShort c.as_slice-fact-items.result.now c.args.facts.now c.loop-fact.fact-index c.as_slice-fact-items.ensures.value c.loop-fact-test.false c.loop-fact.invariant.1);
    }
