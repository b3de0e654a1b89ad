use Rattle.std.proofs.Common.{◌+◌, ap, ◌∙◌, drop}
use Rattle.intervals.specs.Range.{RangeView, hull}
use Rattle.abs_draft.specs.Ground.{least_of, greatest_of}
use Rattle.abs_draft.proofs.SpanLemmas.{least_step, greatest_step}
use Rattle.abs_draft.proofs.ground.hull_with.Goals as goal

pub loop-byte-preserved : goal.loop-byte-preserved
loop-byte-preserved c =
    let next = drop (c.loop-byte.byte-index + 1) c.args.bytes.now in
    let joined = c.join-wide.ensures ∙ ap (hull c.loop-byte.wide) c.single.ensures in (
      ap (λ (r : RangeView). least_of r.low next) joined
          ∙ least_step c.loop-byte.wide.low c.args.bytes.now c.loop-byte.byte-index c.loop-byte-test.true ∙ c.loop-byte.invariant.0,
      ap (λ (r : RangeView). greatest_of r.high next) joined
          ∙ greatest_step c.loop-byte.wide.high c.args.bytes.now c.loop-byte.byte-index c.loop-byte-test.true ∙ c.loop-byte.invariant.1,
    )
