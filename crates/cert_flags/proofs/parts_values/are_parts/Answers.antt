use Rattle.std.proofs.Common.{ap, length, arith}
use Rattle.std.proofs.lemmas.List.Elements.{recursion_from_All}
use Rattle.cert_fields.proofs.ValueLemmas.{all_next, all_seen}
use Rattle.cert_flags.specs.Parts.{IsFlagPart, IsShortPart}
use Rattle.cert_flags.proofs.parts_values.are_parts.Goals as goal

pub loop-part-preserved : goal.loop-part-preserved
loop-part-preserved c = (
  all_next (IsFlagPart 64) c.parts-part-items.result.now c.loop-part.part-index c.part-item.result c.loop-part-test.true c.part-item.is c.loop-part.invariant.0 c.is_linear.ensures.form,
  all_next IsShortPart c.parts-part-items.result.now c.loop-part.part-index c.part-item.result c.loop-part-test.true c.part-item.is c.loop-part.invariant.1 c.is_linear.ensures.short,
)

pub returns-clause-form : goal.returns-clause-form
returns-clause-form c =
    recursion_from_All (IsFlagPart 64) c.args.parts.now
    (all_seen (IsFlagPart 64) c.parts-part-items.result.now c.args.parts.now c.loop-part.part-index c.parts-part-items.ensures.value c.loop-part-test.false c.loop-part.invariant.0)

pub returns-clause-few : goal.returns-clause-few
returns-clause-few c =
    let within = c.parts-part-items.ensures.within in
    record {
      count = omega (arith, ap length c.parts-part-items.ensures.value);
      short = recursion_from_All IsShortPart c.args.parts.now
          (all_seen IsShortPart c.parts-part-items.result.now c.args.parts.now c.loop-part.part-index c.parts-part-items.ensures.value c.loop-part-test.false c.loop-part.invariant.1);
    }
