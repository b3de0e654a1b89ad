-- The successors of a row, and why it is refused for itself (docs/CHECKER.md, "The abstract step").
use Rattle.std.specs.Prelude.{ℕ, ◌==◌, ◌&&◌, ◌||◌, not, Bool, true, false, if◌then◌else◌, List, [], ◌∷◌, ◌++◌, length, Option, Some, None, Result, Ok, Err}
use Rattle.intervals.specs.Logic.{is_single}
use Rattle.intervals.specs.Range.{RangeView, full}
use Rattle.intervals.specs.declared.pair.Pair.{Pair}
use Rattle.loop_bounds.specs.Effect.{unchanged}
use Rattle.stack_shape.specs.declared.slot.Slot.{Slot}
use Rattle.t_states.specs.Costs.{cost_of}
use Rattle.t_states.specs.Io.{is_io}
use Rattle.z80_actions.specs.Known.{returns_if_taken}
use Rattle.z80_decode.specs.declared.fault.DecodeFault.{DecodeFault}
use Rattle.z80_decode.specs.declared.instr.Instr.{Instr}
use Rattle.z80_decode.specs.declared.instr.Instr.TheVariants.{LoadPair, Push, Pop, ExchangeStack, JumpTo, Call, CallIf, Restart}
use Rattle.z80_decode.specs.declared.operands.Pointer.{Pointer}
use Rattle.z80_decode.specs.declared.operands.Pointer.TheVariants as pointers
use Rattle.z80_decode.specs.declared.operands.Register16.TheVariants.{Sp}
use Rattle.z80_moves.specs.Moves.{moves_of}
use Rattle.z80_moves.specs.declared.moves.Test.{Test}
use Rattle.abs_state.specs.Entries.{main_entry}
use Rattle.abs_state.specs.Mode.{is_unset}
use Rattle.abs_state.specs.declared.mode.Mode.{Mode}
use Rattle.abs_state.specs.declared.mode.Mode.TheVariants.{Unset, Set, Nmi}
use Rattle.abs_state.specs.declared.state.AbsState.{AbsState}
use Rattle.abs_draft.specs.Ground.{GroundView}
use Rattle.abs_draft.specs.AbsDraft.{last_slot}
use Rattle.abs_draft.specs.Outcomes.{tested, before_test, test_of, behind_test, after_moves, known_before, known_at_test, settled}
use Rattle.abs_draft.specs.declared.draft.AbsDraft.{AbsDraft}
use Rattle.abs_draft.specs.declared.data_write.DataWrite.{DataWrite}
use Rattle.abs_step.specs.declared.next.Next.{Next}
use Rattle.abs_step.specs.declared.next.NextKind.{NextKind}
use Rattle.abs_step.specs.declared.next.NextKind.TheVariants as kinds
use Rattle.abs_step.specs.declared.reason.Reason.{Reason}
use Rattle.abs_step.specs.declared.reason.Reason.TheVariants as reasons

-- ---- kinds of instruction

abbrev pub is_call : Instr → Bool
is_call (Call nn) = true
is_call (CallIf cc nn) = true
is_call (Restart p) = true
is_call _ = false

abbrev pub pushes_word : Instr → Bool
pushes_word (Push qq) = true
pushes_word _ = false

-- pops or exchanges the top word of the stack; a return does not count
abbrev pub pops_word : Instr → Bool
pops_word (Pop qq) = true
pops_word (ExchangeStack pointer) = true
pops_word _ = false

abbrev pub uses_stack : Instr → Bool
uses_stack instr = (is_call instr || returns_if_taken instr) || (pushes_word instr || pops_word instr)

abbrev pub is_empty : List Slot → Bool
is_empty [] = true
is_empty (slot ∷ slots) = false

-- ---- reasons

-- main returns from an empty shape, or a return goes to a slot with more than one word
abbrev pub returns_nowhere : Bool → List Slot → Bool
returns_nowhere main shape = if is_empty shape then main else not (is_single (last_slot shape).pair.word)

-- a 65th slot, a pop from an empty shape, or a return without a single address
abbrev pub has_no_shape : Bool → Bool → Instr → List Slot → Bool
has_no_shape main inline instr shape =
    (length shape == 64 && (pushes_word instr || (is_call instr && inline)))
    || ((pops_word instr && is_empty shape)
    || (returns_if_taken instr && returns_nowhere main shape))

-- the pair through which a computed jump goes
abbrev pub jump_pair : Pointer → AbsState → Pair
jump_pair pointers.Hl s = s.pairs.hl
jump_pair pointers.Ix s = s.pairs.ix
jump_pair pointers.Iy s = s.pairs.iy

-- a computed jump through a pair with more than one word
abbrev pub jumps_anywhere : Instr → AbsState → Bool
jumps_anywhere (JumpTo pointer) s = not (is_single (jump_pair pointer s).word)
jumps_anywhere _ s = false

-- the lowest reason that refuses a row at this instruction for itself
abbrev pub refusal : Bool → Bool → Instr → AbsState → Option Reason
refusal main inline instr s =
    if is_io instr then Some reasons.IoSpace
    else if uses_stack instr && is_unset s.mode then Some reasons.StackUnset
    else if has_no_shape main inline instr s.shape then Some reasons.StackShape
    else if jumps_anywhere instr s then Some reasons.NotCovered
    else None

-- ---- successors

-- the kind of the successor where the instruction is taken
abbrev pub next_kind_of : Bool → Instr → List Slot → NextKind
next_kind_of inline instr shape =
    if is_call instr && not inline then kinds.Call
    else if returns_if_taken instr && is_empty shape then kinds.Exit
    else kinds.Jump

abbrev pub mode_set : Mode → Mode
mode_set Unset = Set
mode_set Set = Set
mode_set Nmi = Nmi

-- LD SP,nn of main makes the shape empty and turns mode u into s
abbrev pub stack_set : Bool → Instr → AbsState → AbsState
stack_set true (LoadPair Sp nn) s = record s { mode = mode_set s.mode; shape = [] }
stack_set _ _ s = s

-- an exit has no address
abbrev pub address_of : NextKind → ℕ → ℕ
address_of kinds.Jump address = address
address_of kinds.Call address = address
address_of kinds.Exit address = 0

-- the successor made of what is known after all moves
abbrev pub next_of : Bool → Instr → Bool → NextKind → AbsDraft → Next
next_of main instr taken kind k = record {
  address = address_of kind k.pc.low;
  state = stack_set main instr k.state;
  effect = settled k.state k.effect;
  moved = k.effect;
  cost = cost_of instr taken;
  kind = kind;
  taken = taken;
}

-- the successor for one outcome of the test; none where that outcome is infeasible
abbrev pub way_on : Option AbsDraft → (AbsDraft → Next) → List Next
way_on None next = []
way_on (Some k) next = next k ∷ []

-- the successor where the test held, and where it did not; without a test it did not
abbrev pub way_by : GroundView → Bool → Bool → Instr → NextKind → Option Test → AbsDraft → Bool → List Next
way_by g main inline instr kind None k true = []
way_by g main inline instr kind None k false = next_of main instr false kind k ∷ []
way_by g main inline instr kind (Some test) k true =
    way_on (tested test true k) (λ taken. next_of main instr true kind (after_moves g inline (behind_test (moves_of instr)) taken))
way_by g main inline instr kind (Some test) k false =
    way_on (tested test false k) (λ left. next_of main instr false kinds.Jump left)

-- the successors: one without a test; with a test one where it is taken and one where it is not
abbrev pub ways_on : GroundView → Bool → Bool → Instr → NextKind → Option Test → AbsDraft → List Next
ways_on g main inline instr kind test k = way_by g main inline instr kind test k true ++ way_by g main inline instr kind test k false

-- the successors, from what is known before the first move
abbrev pub ways_from : GroundView → Bool → Bool → Instr → NextKind → AbsDraft → List Next
ways_from g main inline instr kind k =
    ways_on g main inline instr kind (test_of (moves_of instr)) (after_moves g inline (before_test (moves_of instr)) k)

-- the successors of a row at an instruction
abbrev pub nexts_of : GroundView → ℕ → Bool → Bool → Instr → AbsState → List Next
nexts_of g address main inline instr s = ways_from g main inline instr (next_kind_of inline instr s.shape) (known_before address instr s)

-- those of one outcome of its test; an instruction without a test has that of a test that did not hold
abbrev pub nexts_by : GroundView → ℕ → Bool → Bool → Instr → AbsState → Bool → List Next
nexts_by g address main inline instr s =
    way_by g main inline instr (next_kind_of inline instr s.shape) (test_of (moves_of instr)) (known_at_test g address inline instr s)

-- a placeholder
abbrev pub no_next : Next
no_next = record {
  address = 0;
  state = main_entry;
  effect = unchanged;
  moved = unchanged;
  cost = 0;
  kind = kinds.Exit;
  taken = false;
}

-- ---- the byte in work

-- the range of the byte in work at the end of an instruction; full where it has a test
abbrev pub operand_by : Option Test → RangeView → RangeView
operand_by None operand = operand
operand_by (Some test) operand = full 256

abbrev pub operand_of : GroundView → ℕ → Bool → AbsState → Instr → RangeView
operand_of g address inline s instr = operand_by (test_of (moves_of instr)) (known_at_test g address inline instr s).operand

-- ---- answers

abbrev pub answer_by : Option Reason → List Next → Result (List Next) Reason
answer_by (Some reason) nexts = Err reason
answer_by None nexts = Ok nexts

-- the successors of a row or its lowest reason, by the decoded bytes at its address
abbrev pub answer_of : GroundView → ℕ → Bool → Bool → AbsState → Result Instr DecodeFault → Result (List Next) Reason
answer_of g address main inline s (Err fault) = Err (reasons.Decode fault)
answer_of g address main inline s (Ok instr) = answer_by (refusal main inline instr s) (nexts_of g address main inline instr s)

-- The data writes of a row, by the decoded bytes at its address. There are none without an instruction, nor for one of
-- the I/O group.
abbrev pub writes_of : GroundView → ℕ → AbsState → Result Instr DecodeFault → List DataWrite
writes_of g address s (Err fault) = []
writes_of g address s (Ok instr) = if is_io instr then [] else (known_at_test g address true instr s).writes.items
