-- The moves of each instruction have at most one test, and at most two data writes before it.
use Rattle.std.proofs.Common.{◌≡◌, ◌≤◌, refl, arith, List, [], ◌∷◌, None}
use Rattle.z80_decode.specs.declared.instr.Instr.{Instr}
use Rattle.z80_decode.specs.declared.instr.Instr.TheVariants as instrs
use Rattle.z80_decode.specs.declared.kinds.BlockKind.TheVariants as blocks
use Rattle.z80_decode.specs.declared.operands.Address.TheVariants as addresses
use Rattle.z80_decode.specs.declared.operands.Memory.{Memory}
use Rattle.z80_decode.specs.declared.operands.Memory.TheVariants as memories
use Rattle.z80_decode.specs.declared.operands.Operand.TheVariants as operands
use Rattle.z80_decode.specs.declared.operands.Place.{Place}
use Rattle.z80_decode.specs.declared.operands.Place.TheVariants as places
use Rattle.z80_decode.specs.declared.operands.Special.TheVariants as specials
use Rattle.z80_draft.specs.Room.{writes_by}
use Rattle.z80_moves.specs.Moves.{at_memory, changing, moves_of, reading}
use Rattle.z80_moves.specs.declared.moves.Move.{Move}
use Rattle.abs_draft.specs.Outcomes.{behind_test, test_in, test_of}
use Rattle.abs_laws.specs.Lists.{IsShortList}

-- one more move in front, which is no test and no write
one_before : (m : Move) (ms : List Move) → writes_by m ≡ 0 → test_in m ≡ None → IsShortList ms → IsShortList (m ∷ ms)
unfolding test_of behind_test
one_before m ms w t h =
    let few = h.writes in
    let none = h.writes_first in
    record { writes = omega arith; once = rw t h.once; writes_first = rw t h.writes_first }

memory_short : (m : Memory) (then : List Move) → IsShortList then → IsShortList (at_memory m then)
memory_short memories.AtHl then h = one_before _ then refl refl h
memory_short (memories.At index d) then h = one_before _ _ refl refl (one_before _ then refl refl h)

nothing_short : IsShortList []
unfolding test_of behind_test
nothing_short = record { writes = omega arith; once = refl; writes_first = refl }

one_short : (m : Move) → writes_by m ≡ 0 → test_in m ≡ None → IsShortList (m ∷ [])
one_short m w t = one_before m [] w t nothing_short

write_short : (m : Move) → writes_by m ≤ 2 → test_in m ≡ None → IsShortList (m ∷ [])
unfolding test_of behind_test
write_short m w t = record { writes = omega arith; once = rw t refl; writes_first = rw t refl }

reading_short : (p : Place) (m : Move) → writes_by m ≡ 0 → test_in m ≡ None → IsShortList (reading p m)
reading_short (places.Register r) m w t = one_short m w t
reading_short (places.Memory memory) m w t = memory_short memory _ (one_before _ _ refl refl (one_short m w t))

changing_short : (p : Place) (m : Move) → writes_by m ≡ 0 → test_in m ≡ None → IsShortList (changing p m)
changing_short (places.Register r) m w t = one_short m w t
changing_short (places.Memory memory) m w t = memory_short memory _ (one_before _ _ refl refl (one_before m _ w t (write_short _ (omega arith) refl)))

pub short : (instr : Instr) → IsShortList (moves_of instr)
unfolding test_of behind_test
short (instrs.LoadRegister r (places.Register s)) = one_short _ refl refl
short (instrs.LoadRegister r (places.Memory m)) = memory_short m _ (one_short _ refl refl)
short (instrs.LoadImmediate (places.Register r) n) = one_short _ refl refl
short (instrs.LoadImmediate (places.Memory m) n) = memory_short m _ (one_before _ _ refl refl (write_short _ (omega arith) refl))
short (instrs.Store m r) = memory_short m _ (write_short _ (omega arith) refl)
short (instrs.LoadA addresses.Bc) = one_short _ refl refl
short (instrs.LoadA addresses.De) = one_short _ refl refl
short (instrs.LoadA (addresses.Direct nn)) = one_before _ _ refl refl (one_short _ refl refl)
short (instrs.StoreA addresses.Bc) = write_short _ (omega arith) refl
short (instrs.StoreA addresses.De) = write_short _ (omega arith) refl
short (instrs.StoreA (addresses.Direct nn)) = one_before _ _ refl refl (write_short _ (omega arith) refl)
short (instrs.StoreASpecial specials.I) = one_short _ refl refl
short (instrs.StoreASpecial specials.R) = nothing_short
short (instrs.BlockLoad blocks.Increment) = record { writes = omega arith; once = refl; writes_first = refl }
short (instrs.BlockLoad blocks.Decrement) = record { writes = omega arith; once = refl; writes_first = refl }
short (instrs.BlockLoad blocks.IncrementRepeat) = record { writes = omega arith; once = refl; writes_first = refl }
short (instrs.BlockLoad blocks.DecrementRepeat) = record { writes = omega arith; once = refl; writes_first = refl }
short (instrs.BlockCompare blocks.Increment) = record { writes = omega arith; once = refl; writes_first = refl }
short (instrs.BlockCompare blocks.Decrement) = record { writes = omega arith; once = refl; writes_first = refl }
short (instrs.BlockCompare blocks.IncrementRepeat) = record { writes = omega arith; once = refl; writes_first = refl }
short (instrs.BlockCompare blocks.DecrementRepeat) = record { writes = omega arith; once = refl; writes_first = refl }
short (instrs.Arithmetic kind (operands.Place p)) = reading_short p _ refl refl
short (instrs.Arithmetic kind (operands.Immediate n)) = one_before _ _ refl refl (one_short _ refl refl)
short (instrs.Increment p) = changing_short p _ refl refl
short (instrs.Decrement p) = changing_short p _ refl refl
short (instrs.Shift kind p) = changing_short p _ refl refl
short (instrs.TestBit b p) = reading_short p _ refl refl
short (instrs.SetBit b p) = changing_short p _ refl refl
short (instrs.ResetBit b p) = changing_short p _ refl refl
short _ = record { writes = omega arith; once = refl; writes_first = refl }
