-- When what is known between the moves of an instruction describes what the machine has done so far.
use Rattle.std.specs.Prelude.{ℕ, ◌≡◌, ◌<◌, Bool, List, [], ◌∷◌, length, false, pos}
use Rattle.std.specs.List.{AllZip}
use Rattle.intervals.specs.Domain.{Entry}
use Rattle.intervals.specs.Range.{RangeView, Within}
use Rattle.loop_bounds.specs.Effect.{Valuation, changed, change_of}
use Rattle.loop_bounds.specs.declared.effect.Change.{Change}
use Rattle.loop_bounds.specs.declared.variable.Variable.{Variable}
use Rattle.loop_bounds.specs.declared.variable.Variable.TheVariants.{Slot}
use Rattle.stack_shape.specs.Shape.{HoldsShape}
use Rattle.z80_draft.specs.Draft.{DraftView}
use Rattle.z80_draft.specs.Outside.{Outside}
use Rattle.z80_draft.specs.Registers.{IsRegs}
use Rattle.z80_draft.specs.declared.access.Write.{Write}
use Rattle.z80_moves.specs.declared.moves.Move.{Move}
use Rattle.z80_moves.specs.declared.moves.Move.TheVariants.{SetByte, SetWord}
use Rattle.abs_state.specs.Fact.{HoldsFact}
use Rattle.abs_state.specs.Pairs.{HoldsPairs}
use Rattle.abs_state.specs.Seen.{Seen}
use Rattle.abs_state.specs.Variables.{value_in}
use Rattle.abs_state.specs.declared.state.AbsState.{AbsState}
use Rattle.abs_draft.specs.Ground.{GroundView, read_range}
use Rattle.abs_draft.specs.AbsDraft.{written_state}
use Rattle.abs_draft.specs.declared.data_write.DataWrite.{DataWrite}
use Rattle.abs_draft.specs.declared.draft.AbsDraft.{AbsDraft}

-- A value is what the change makes of the values before. An unknown change allows any value.
abbrev pub FollowsChange : Change → Valuation → ℕ → Type 0
FollowsChange change before n = changed change before (pos n) ≡ pos n

-- the variables of a machine with this many words on its stack
abbrev pub IsThere : ℕ → Variable → Type 0
IsThere count (Slot number part) = number < count
IsThere count _ = Unit {0}

-- the machine after a draft, with these words; only its registers matter
abbrev pub seen_by_draft : DraftView → List ℕ → Seen
seen_by_draft d words = record { regs = d.regs; words = words; cells = []; enable = false; line = false; latched = false }

-- a write goes to a known address with a known byte
abbrev pub WriteLiesIn : DataWrite → Write → Type 0
WriteLiesIn known write = Within known.at write.at × Within known.byte write.byte

-- a state after data writes, which change only the mode and the number of armed cells
abbrev pub state_after_writes : GroundView → List DataWrite → AbsState → AbsState
state_after_writes g [] s = s
state_after_writes g (w ∷ ws) s = state_after_writes g ws (written_state g w s)

-- the constants of a move are a byte or a word
abbrev pub IsInRange : Move → Type 0
IsInRange (SetByte r n) = n < 256
IsInRange (SetWord w nn) = nn < 65536
IsInRange _ = Unit {0}

-- the constants of each move are
unfoldable pub AreInRange : List Move → Type 0
AreInRange [] = Unit {0}
AreInRange (m ∷ ms) = IsInRange m × AreInRange ms

-- the abstract draft `k`, made from a row's state `start`, describes a draft and the words on the stack, given the
-- values of the pairs at the activation's entry and of the variables before the instruction
pub record Fits (g : GroundView) (start : AbsState) (k : AbsDraft) (entry : Entry) (before : Valuation) (d : DraftView) (words : List ℕ) : Type 0 where
  -- the draft's numbers are in range
  pub regs : IsRegs d.regs
  pub operand_byte : d.operand < 256
  pub pointer_word : d.pointer < 65536
  -- the state holds of the draft's registers and of the words
  pub pairs : HoldsPairs k.state.pairs entry d.regs
  pub flag : HoldsFact k.state.flag d.regs
  pub shape : HoldsShape k.state.shape entry words
  pub operand : Within k.operand d.operand
  pub pointer : Within k.pointer d.pointer
  pub pc : Within k.pc d.regs.pc
  -- each variable comes from those before as the effect says
  pub follows : (v : Variable) → IsThere (length words) v → FollowsChange (change_of k.effect v) before (value_in (seen_by_draft d words) v)
  -- each data write lies in the known one at its place, and the known ones give the mode and the number of armed cells
  pub writes : AllZip WriteLiesIn k.writes.items d.writes
  pub mode : k.state.mode ≡ (state_after_writes g k.writes.items start).mode
  pub armed : k.state.armed ≡ (state_after_writes g k.writes.items start).armed
  pub readable : k.readable ≡ start.armed

-- each read finds a byte in its known range, given the number of cells that reads use
pub record ReadsFit (g : GroundView) (o : Outside) (readable : ℕ) : Type 0 where
  pub bytes : (later : Bool) (at : ℕ) → o.read later at < 256
  pub noise : o.noise < 256
  pub r : o.r < 256
  pub found : (range : RangeView) (later : Bool) (at : ℕ) → at < 65536 → Within range at → Within (read_range g readable range) (o.read later at)
