use Rattle.std.proofs.Common.{sym, ◌∙◌}
use Rattle.z80_moves.specs.declared.moves.Move.TheVariants.{SetByte}
use Rattle.z80_moves.specs.declared.registers.ByteRegister.TheVariants.{A}
use Rattle.z80_draft.proofs.DraftLemmas.{made_more, room_for_writes, room_for_stack, room_after_write, room_after_stack, split_at}
use Rattle.z80_draft.proofs.draft.Draft.make_all.Goals as goal

pub make-requires-clause-writes : goal.make-requires-clause-writes
make-requires-clause-writes g c =
    room_for_writes c.as_slice-step-items.result.now c.loop-step.step-index _ _ (split_at c.as_slice-step-items.result.now c.loop-step.step-index (SetByte A 0) c.loop-step-test.true) c.loop-step.invariant.writes

pub make-requires-clause-stack : goal.make-requires-clause-stack
make-requires-clause-stack g c =
    room_for_stack c.as_slice-step-items.result.now c.loop-step.step-index _ _ (split_at c.as_slice-step-items.result.now c.loop-step.step-index (SetByte A 0) c.loop-step-test.true) c.loop-step.invariant.stack

pub loop-step-preserved : goal.loop-step-preserved
loop-step-preserved g c =
    let split = split_at c.as_slice-step-items.result.now c.loop-step.step-index (SetByte A 0) c.loop-step-test.true in
    record {
      rest = made_more _ _ _ _ _ _ _ split c.make.ensures (sym c.goes_on.ensures ∙ c.if-not-goes_on.false) c.loop-step.invariant.rest;
      writes = room_after_write _ c.as_slice-step-items.result.now c.loop-step.step-index _ _ _ split c.make.ensures c.loop-step.invariant.writes;
      stack = room_after_stack _ c.as_slice-step-items.result.now c.loop-step.step-index _ _ _ split c.make.ensures c.loop-step.invariant.stack;
    }
