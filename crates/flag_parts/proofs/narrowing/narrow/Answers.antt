use Rattle.std.proofs.Common.{◌∙◌, rules}
use Rattle.abs_state.specs.Variables.{value_in}
use Rattle.z80_alu.specs.Flags.{flags_of}
use Rattle.flag_parts.proofs.NarrowingLemmas.{goes_on, part_held}
use Rattle.flag_parts.proofs.narrowing.narrow.Goals as goal

pub loop-part-preserved : goal.loop-part-preserved
loop-part-preserved c = record {
  exact = c.loop-part.invariant.exact ∙ goes_on c.args.condition c.parts-part-items.result.now c.loop-part.part-index c.part-item.result c.loop-part.state c.loop-part-test.true c.part-item.is c.narrow_by_part.new.state c.if-not-narrow_by_part.ensures.exact;
  holds = λ cells entry m i h seen met.
      let before = c.loop-part.invariant.holds cells entry m i h seen met in
      let both = c.if-not-narrow_by_part.ensures.holds cells entry m i before (part_held c.args.parts.now c.parts-part-items.result.now c.loop-part.part-index c.part-item.result (flags_of m.regs.main.f) (value_in m) c.parts-part-items.ensures.value c.loop-part-test.true c.part-item.is seen) met in
      both.1;
}

pub returns-then-not-narrow_by_part-clause-holds : goal.returns-then-not-narrow_by_part-clause-holds
returns-then-not-narrow_by_part-clause-holds c = λ cells entry m i h seen met.
    let before = c.loop-part.invariant.holds cells entry m i h seen met in
    c.if-not-narrow_by_part.ensures.holds cells entry m i before (part_held c.args.parts.now c.parts-part-items.result.now c.loop-part.part-index c.part-item.result (flags_of m.regs.main.f) (value_in m) c.parts-part-items.ensures.value c.loop-part-test.true c.part-item.is seen) met

pub returns-clause-holds : goal.returns-clause-holds
returns-clause-holds c = λ cells entry m i h seen met. (search rules, c.loop-part.invariant.holds cells entry m i h seen met)
