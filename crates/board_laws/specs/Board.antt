-- Helper: the words on the stack of a board, before an event and after its draft.
use Rattle.std.specs.Prelude.{ℕ, ◌≡◌, List, false, None, length}
use Rattle.address_map.specs.AddressMap.{MapView}
use Rattle.address_map.specs.RamKind.{size_of}
use Rattle.address_map.specs.declared.cell.RamKind.TheVariants.{Work}
use Rattle.address_map.specs.declared.region.Region.{Region}
use Rattle.z80_decode.specs.declared.instr.Instr.{Instr}
use Rattle.z80_draft.specs.Draft.{DraftView}
use Rattle.board_step.specs.Context.{ContextView}
use Rattle.board_step.specs.State.{BoardView}
use Rattle.board_step.specs.Step.{committed, done}
use Rattle.board_step.specs.Trap.{some_outside, trap_of_instr}
use Rattle.board_laws.specs.Region.{IsStackRegion, HasRoom}
use Rattle.board_laws.specs.Words.{Lays}

-- exactly these words lie on the stack, from SP to the region's top, all in the region
pub record HasWords (map : MapView) (region : Region) (s : BoardView) (words : List ℕ) : Type 0 where
  pub is_region : IsStackRegion map region
  pub work : length s.work ≡ size_of Work
  pub room : HasRoom region (length words)
  pub laid : Lays s s.regs.sp region.top words

-- on the board that a draft has reached, exactly these words lie on the stack, all in the region, and no stack access
-- of the draft is outside the region
pub record LeavesWords (map : MapView) (region : Region) (draft : DraftView) (s : BoardView) (words : List ℕ) : Type 0 where
  pub is_region : IsStackRegion map region
  pub work : length s.work ≡ size_of Work
  pub room : HasRoom region (length words)
  pub inside : some_outside region draft.stack ≡ false
  pub laid : Lays (committed map draft s) draft.regs.sp region.top words

-- On the board that a draft has reached, the registers and the halt are the draft's. The rest, apart from bytes of RAM
-- and the NMI enable, is as it was.
pub record ReachesBoard (map : MapView) (draft : DraftView) (s : BoardView) : Type 0 where
  pub regs : (committed map draft s).regs ≡ draft.regs
  pub halted : (committed map draft s).halted ≡ draft.halts
  pub work : length (committed map draft s).work ≡ length s.work
  pub phase : (committed map draft s).phase ≡ s.phase
  pub line : (committed map draft s).line ≡ s.line
  pub latched : (committed map draft s).latched ≡ s.latched

-- an instruction does not trap, and leaves exactly these words on the stack
pub record IsDoneWith (c : ContextView) (region : Region) (instr : Instr) (words : List ℕ) : Type 0 where
  pub trap : trap_of_instr region c instr ≡ None
  pub has : HasWords c.hardware.map region (done c instr) words
