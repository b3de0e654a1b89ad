use Rattle.std.proofs.Common.{◌≡◌, codes, rules}
use Rattle.cert_flags.proofs.PartsLemmas.{no_parts, parts_stop, parts_more, parts_fit, parts_many}
use Rattle.cert_flags.proofs.parts.parts_field.Goals as goal

pub returns-then-eq : goal.returns-then-eq
returns-then-eq c =
    let dash : c.args.field.now ≡ codes "-" = search rules in
    rw c.empty.ensures (no_parts c.args.slots c.args.field.now dash)

pub returns-in_err-part : goal.returns-in_err-part
returns-in_err-part c =
    let other : c.args.field.now ≡ codes "-" → ⊥ = search rules in
    rw c.from_residual.ensures
    (parts_stop c.args.slots c.ranges.slots.fits c.args.field.now c.loop-text.fields c.loop-text.kept c.loop-text.invariant _ _ other c.in-Some.ensures c.in_err-part.ensures)

pub loop-text-preserved : goal.loop-text-preserved
loop-text-preserved c =
    parts_more c.args.slots c.ranges.slots.fits c.args.field.now c.loop-text.fields c.loop-text.kept c.loop-text.invariant _ _ _ c.in_ok-part.part c.in-Some.ensures c.in_ok-part.ensures c.with_part-kept.ensures

pub returns-in-Some-kept : goal.returns-in-Some-kept
returns-in-Some-kept c =
    parts_fit c.args.slots c.ranges.slots.fits c.args.field.now c.loop-text.fields c.loop-text.kept c.loop-text.invariant _ c.in_default.ensures.0 c.in-Some-kept.is

pub returns-in-None : goal.returns-in-None
returns-in-None c =
    parts_many c.args.slots c.ranges.slots.fits c.args.field.now c.loop-text.fields c.loop-text.kept c.loop-text.invariant c.in_default.ensures.0 c.in-None.is
