use Rattle.std.proofs.Common.{◌≡◌, codes, rules}
use Rattle.cert_fields.proofs.FactsLemmas.{no_facts, facts_stop, facts_more, facts_fit, facts_many}
use Rattle.cert_fields.proofs.facts.facts_field.Goals as goal

pub returns-then-eq : goal.returns-then-eq
returns-then-eq c =
    let dash : c.args.field.now ≡ codes "-" = search rules in
    rw c.none.ensures (no_facts c.args.slots c.args.field.now dash)

pub returns-in_err-fact : goal.returns-in_err-fact
returns-in_err-fact c =
    let other : c.args.field.now ≡ codes "-" → ⊥ = search rules in
    rw c.from_residual.ensures
    (facts_stop c.args.slots c.ranges.slots.fits c.args.field.now c.loop-part.fields c.loop-part.kept c.loop-part.invariant _ _ other c.in-Some.ensures c.in_err-fact.ensures)

pub loop-part-preserved : goal.loop-part-preserved
loop-part-preserved c =
    facts_more c.args.slots c.ranges.slots.fits c.args.field.now c.loop-part.fields c.loop-part.kept c.loop-part.invariant _ _ _ c.in_ok-fact.fact c.in-Some.ensures c.in_ok-fact.ensures c.with_fact-kept.ensures

pub returns-in-Some-kept : goal.returns-in-Some-kept
returns-in-Some-kept c =
    facts_fit c.args.slots c.ranges.slots.fits c.args.field.now c.loop-part.fields c.loop-part.kept c.loop-part.invariant _ c.in_default.ensures.0 c.in-Some-kept.is

pub returns-in-None : goal.returns-in-None
returns-in-None c =
    facts_many c.args.slots c.ranges.slots.fits c.args.field.now c.loop-part.fields c.loop-part.kept c.loop-part.invariant c.in_default.ensures.0 c.in-None.is
