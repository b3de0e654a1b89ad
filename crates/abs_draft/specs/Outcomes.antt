-- The moves of an instruction, and the two outcomes of its test.
use Rattle.std.specs.Prelude.{ℕ, ◌+◌, ◌%◌, ◌==◌, Bool, true, false, not, if◌then◌else◌, List, [], ◌∷◌, length, get_or, Option, Some, None, option_map}
use Rattle.intervals.specs.Range.{RangeView, single}
use Rattle.intervals.specs.declared.reg_pair.RegPair.TheVariants.{Bc}
use Rattle.loop_bounds.specs.declared.effect.Change.{Change}
use Rattle.loop_bounds.specs.declared.effect.Change.TheVariants.{Constant}
use Rattle.loop_bounds.specs.declared.effect.Effect.{Effect}
use Rattle.loop_bounds.specs.declared.effect.SlotChange.{SlotChange}
use Rattle.stack_shape.specs.declared.slot.Slot.{Slot}
use Rattle.z80_decode.specs.Spelling.{spelling}
use Rattle.z80_decode.specs.declared.instr.Instr.{Instr}
use Rattle.z80_decode.specs.declared.operands.Register8.TheVariants as registers
use Rattle.z80_moves.specs.Moves.{moves_of}
use Rattle.z80_moves.specs.declared.moves.Move.{Move}
use Rattle.z80_moves.specs.declared.moves.Move.TheVariants.{OnlyIf}
use Rattle.z80_moves.specs.declared.moves.Test.{Test}
use Rattle.z80_moves.specs.declared.moves.Test.TheVariants as tests
use Rattle.abs_state.specs.Restricting.{byte_is, word_is, condition_is}
use Rattle.abs_state.specs.Variables.{full_slot}
use Rattle.abs_state.specs.declared.state.AbsState.{AbsState}
use Rattle.abs_draft.specs.AfterMove.{after_move}
use Rattle.abs_draft.specs.Ground.{GroundView}
use Rattle.loop_bounds.specs.Effect.{unchanged}
use Rattle.abs_draft.specs.declared.draft.AbsDraft.{AbsDraft}

-- the state where a test held, and where it did not; none if that is infeasible
abbrev pub state_tested : Test → Bool → AbsState → Option AbsState
state_tested (tests.Flag condition) held s = condition_is held condition s
state_tested tests.BNotZero held s = byte_is (not held) registers.B 0 s
state_tested tests.BcNotZero held s = word_is (not held) Bc 0 s
state_tested tests.SearchGoesOn true s = word_is false Bc 0 s
state_tested tests.SearchGoesOn false s = Some s

abbrev pub tested : Test → Bool → AbsDraft → Option AbsDraft
tested test held k = option_map (λ s. record k { state = s }) (state_tested test held k.state)

-- the test, if the move is one
abbrev pub test_in : Move → Option Test
test_in (OnlyIf test) = Some test
test_in _ = None

-- the moves up to the test of a list, the test, and the moves after it
abbrev pub moves_to : Option Test → Move → List Move → List Move
moves_to (Some test) m ms = []
moves_to None m ms = m ∷ ms

abbrev pub test_or : Option Test → Option Test → Option Test
test_or (Some test) later = Some test
test_or None later = later

abbrev pub moves_behind : Option Test → List Move → List Move → List Move
moves_behind (Some test) here later = here
moves_behind None here later = later

unfoldable pub before_test : List Move → List Move
before_test [] = []
before_test (m ∷ ms) = moves_to (test_in m) m (before_test ms)

unfoldable pub test_of : List Move → Option Test
test_of [] = None
test_of (m ∷ ms) = test_or (test_in m) (test_of ms)

unfoldable pub behind_test : List Move → List Move
behind_test [] = []
behind_test (m ∷ ms) = moves_behind (test_in m) ms (behind_test ms)

-- what is known after these moves
unfoldable pub after_moves : GroundView → Bool → List Move → AbsDraft → AbsDraft
after_moves g inline [] k = k
after_moves g inline (m ∷ ms) k = after_moves g inline ms (after_move g inline m k)

-- What is known before the first move. The program counter is already after the instruction.
abbrev pub known_before : ℕ → Instr → AbsState → AbsDraft
known_before address instr s = record {
  state = s;
  readable = s.armed;
  operand = single 0;
  pointer = single 0;
  pc = single ((address + length (spelling instr)) % 65536);
  effect = unchanged;
  writes = record { items = [] };
}

-- what is known at the test of an instruction, or at its end if it has none
abbrev pub known_at_test : GroundView → ℕ → Bool → Instr → AbsState → AbsDraft
known_at_test g address inline instr s = after_moves g inline (before_test (moves_of instr)) (known_before address instr s)

-- ---- constants

-- constants have priority, where the range after the step has one value
abbrev pub constant_first : RangeView → Change → Change
constant_first range change = if range.low == range.high then Constant range.low else change

abbrev pub settled_slot : List Slot → SlotChange → SlotChange
settled_slot shape c = record c {
  word = constant_first (get_or shape c.number full_slot).pair.word c.word;
  high = constant_first (get_or shape c.number full_slot).pair.high c.high;
  low = constant_first (get_or shape c.number full_slot).pair.low c.low;
}

-- the effect with priority for constants: a variable whose range in the state after the step has one value is that
-- constant
abbrev pub settled : AbsState → Effect → Effect
settled s e = record {
  a = constant_first s.pairs.af.high e.a;
  b = constant_first s.pairs.bc.high e.b;
  c = constant_first s.pairs.bc.low e.c;
  d = constant_first s.pairs.de.high e.d;
  e = constant_first s.pairs.de.low e.e;
  h = constant_first s.pairs.hl.high e.h;
  l = constant_first s.pairs.hl.low e.l;
  bc = constant_first s.pairs.bc.word e.bc;
  de = constant_first s.pairs.de.word e.de;
  hl = constant_first s.pairs.hl.word e.hl;
  ix = constant_first s.pairs.ix.word e.ix;
  iy = constant_first s.pairs.iy.word e.iy;
  slot = option_map (settled_slot s.shape) e.slot;
}
