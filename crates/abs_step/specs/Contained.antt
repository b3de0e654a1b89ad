-- What an instruction does to a board that a row describes, where no reason applies to the row (docs/CHECKER.md, "What
-- a step keeps").
use Rattle.std.specs.Prelude.{ℕ, ◌+◌, ◌%◌, ◌≤◌, ◌<◌, ◌≡◌, ◌≢◌, Bool, true, false, None, Ok, List, [], ◌∷◌, length}
use Rattle.std.specs.List.{All, AllZip, Contains}
use Rattle.address_map.specs.AddressMap.{MapView}
use Rattle.address_map.specs.declared.region.Region.{Region}
use Rattle.intervals.specs.Domain.{Entry}
use Rattle.intervals.specs.Range.{Within}
use Rattle.loop_bounds.specs.Effect.{change_of}
use Rattle.loop_bounds.specs.declared.effect.Effect.{Effect}
use Rattle.loop_bounds.specs.declared.variable.Variable.{Variable}
use Rattle.z80_alu.specs.declared.regs.Regs.{Regs}
use Rattle.z80_decode.specs.Spelling.{spelling}
use Rattle.z80_decode.specs.declared.instr.Instr.{Instr}
use Rattle.z80_decode.specs.declared.instr.Instr.TheVariants as instrs
use Rattle.z80_decode.specs.declared.operands.Register16.TheVariants.{Sp}
use Rattle.z80_decode.specs.declared.operands.Special.TheVariants as specials
use Rattle.z80_draft.specs.Registers.{IsRegs}
use Rattle.board_step.specs.Context.{ContextView}
use Rattle.board_step.specs.Env.{IsEnv}
use Rattle.board_step.specs.Hardware.{hardware_of}
use Rattle.z80_actions.specs.Returns.{is_return}
use Rattle.board_step.specs.State.{BoardView, AreBytes, IsState}
use Rattle.board_step.specs.Step.{done, instr_draft, t_of}
use Rattle.board_step.specs.Trap.{trap_of_instr}
use Rattle.board_laws.specs.Board.{HasWords}
use Rattle.board_laws.specs.Region.{IsStackRegion, HasRoom}
use Rattle.board_laws.specs.Uses.{sets_sp}
use Rattle.board_laws.specs.Words.{on_top}
use Rattle.abs_state.specs.Holds.{Holds}
use Rattle.abs_state.specs.Pairs.{HoldsPairs}
use Rattle.abs_state.specs.Seen.{Seen}
use Rattle.abs_state.specs.Variables.{value_in}
use Rattle.abs_state.specs.declared.cell.KeptCell.{KeptCell}
use Rattle.abs_state.specs.declared.mode.Mode.TheVariants.{Unset, Nmi}
use Rattle.abs_state.specs.declared.state.AbsState.{AbsState}
use Rattle.abs_draft.specs.Ground.{GroundView}
use Rattle.abs_draft.specs.declared.data_write.DataWrite.{DataWrite}
use Rattle.abs_laws.specs.Cells.{bytes_of_cells}
use Rattle.abs_laws.specs.Fits.{FollowsChange, IsThere, WriteLiesIn}
use Rattle.abs_laws.specs.Writes.{AllKeep, IsPlaced, MissesRegion, NeverEnables, TakesData}
use Rattle.abs_step.specs.Successors.{operand_of, writes_of}
use Rattle.abs_step.specs.declared.next.Next.{Next}
use Rattle.abs_step.specs.declared.next.NextKind.{NextKind}
use Rattle.abs_step.specs.declared.next.NextKind.TheVariants as kinds

-- ---- what an activation sees of the board

-- what an activation with these words on the stack sees of the board
abbrev pub seen_of : List KeptCell → List ℕ → BoardView → Seen
seen_of cells words s = record {
  regs = s.regs;
  words = words;
  cells = bytes_of_cells cells s;
  enable = s.enable;
  line = s.line;
  latched = s.latched;
}

-- the running activation: whether it is main code's, the values of the pairs at its entry, its words on the stack, and
-- all words under them
pub record Running : Type 0 where
  pub main : Bool
  pub entry : Entry
  pub words : List ℕ
  pub under : List ℕ

-- Nothing lies under main code's words. Under those of any other activation lies at least its return address.
abbrev pub IsUnder : Bool → List ℕ → Type 0
IsUnder true [] = Unit {0}
IsUnder true (word ∷ words) = ⊥
IsUnder false [] = ⊥
IsUnder false (word ∷ words) = Unit {0}

-- once SP is set, the stack holds exactly the activation's words and those under them, with room for them
abbrev pub Lies : MapView → Region → Running → AbsState → List ℕ → BoardView → Type 0
Lies map region running a words s = (a.mode ≢ Unset) → HasWords map region s (on_top words running.under)

-- ---- what the rules require of a row, apart from those that `successors` decides

-- LD SP,nn of main code with the region's top
abbrev pub SetsTop : Bool → Region → Instr → Type 0
SetsTop main region instr = (main ≡ true) × (instr ≡ instrs.LoadPair Sp region.top)

-- No reason that the certificate decides applies to the instruction. No data write goes to the region, except by main
-- code without slots. None enables NMIs before SP is set. SP is set only to the top. Armed cells keep their ranges. The
-- stack has room for the words of each successor, except at a call that no registers can make.
pub record IsInOrder (g : GroundView) (region : Region) (running : Running) (a : AbsState) (instr : Instr) (ws : List DataWrite) (nexts : List Next) : Type 0 where
  pub overwrites : (running.main ≡ true → a.shape ≢ []) → All (MissesRegion g.map region) ws
  pub enables : a.mode ≡ Unset → All (NeverEnables g.map) ws
  pub sets : sets_sp instr ≡ true → SetsTop running.main region instr
  pub keeps : AllKeep g a.armed ws
  pub jumps : All (λ n. n.kind ≡ kinds.Jump → HasRoom region (length n.state.shape + length running.under)) nexts
  pub calls : All (λ n. n.kind ≡ kinds.Call → (regs : Regs) → IsRegs regs → HoldsPairs n.state.pairs running.entry regs → HasRoom region (1 + (length n.state.shape + length running.under))) nexts

-- ---- before the instruction

-- the row holds of the running activation, and its words lie on the stack
pub record Before (cells : List KeptCell) (region : Region) (running : Running) (a : AbsState) (c : ContextView) : Type 0 where
  pub numbers : IsState c.state
  pub env : IsEnv c.env
  pub rom : AreBytes c.hardware.rom
  pub rom_len : c.hardware.map.rom_len ≡ length c.hardware.rom
  pub is_region : IsStackRegion c.hardware.map region
  pub kept : All (IsPlaced c.hardware.map region) cells
  pub under : IsUnder running.main running.under
  pub holds : Holds a cells running.entry (seen_of cells running.words c.state)
  pub laid : Lies c.hardware.map region running a running.words c.state

-- ---- after it

-- the registers that neither a call nor a return changes
pub record SameRegs (old new : Regs) : Type 0 where
  pub main : new.main ≡ old.main
  pub alternate : new.alternate ≡ old.alternate
  pub ix : new.ix ≡ old.ix
  pub iy : new.iy ≡ old.iy
  pub i : new.i ≡ old.i

-- each variable comes from the variables before as the effect says
abbrev pub Through : Effect → Seen → Seen → Type 0
Through effect old new = (v : Variable) → IsThere (length new.words) v → FollowsChange (change_of effect v) (value_in old) (value_in new v)

-- the activation goes on at the successor's address, with these words
pub record Went (cells : List KeptCell) (region : Region) (running : Running) (c : ContextView) (n : Next) (new : BoardView) : Type 0 where
  pub words : List ℕ
  pub pc : new.regs.pc ≡ n.address
  pub holds : Holds n.state cells running.entry (seen_of cells words new)
  pub laid : Lies c.hardware.map region running n.state words new
  pub through : Through n.effect (seen_of cells running.words c.state) (seen_of cells words new)
  pub moved : Through n.moved (seen_of cells running.words c.state) (seen_of cells words new)

-- The callee begins, with its return address on top of the words. The caller's state, restricted by the condition, holds.
pub record Called (cells : List KeptCell) (region : Region) (running : Running) (instr : Instr) (c : ContextView) (n : Next) (new : BoardView) : Type 0 where
  pub set : n.state.mode ≢ Unset
  pub pc : new.regs.pc ≡ n.address
  pub same : SameRegs c.state.regs new.regs
  pub enable : new.enable ≡ c.state.enable
  pub holds : Holds n.state cells running.entry (seen_of cells running.words new)
  pub through : Through n.effect (seen_of cells running.words c.state) (seen_of cells running.words new)
  pub moved : Through n.moved (seen_of cells running.words c.state) (seen_of cells running.words new)
  pub laid : HasWords c.hardware.map region new ((c.state.regs.pc + length (spelling instr)) % 65536 ∷ on_top running.words running.under)

-- the activation ends and takes its return address, which lay under its words
pub record Ended (cells : List KeptCell) (region : Region) (running : Running) (instr : Instr) (c : ContextView) (n : Next) (new : BoardView) : Type 0 where
  pub set : n.state.mode ≢ Unset
  pub main : running.main ≡ false
  pub none : running.words ≡ []
  pub rest : List ℕ
  pub under : running.under ≡ new.regs.pc ∷ rest
  pub same : SameRegs c.state.regs new.regs
  pub enable : new.enable ≡ c.state.enable
  pub returns : is_return instr (instr_draft c instr).taken ≡ true
  pub holds : Holds n.state cells running.entry (seen_of cells [] new)
  pub laid : HasWords c.hardware.map region new rest

-- what a successor of each kind means on the board
abbrev pub GoesBy : NextKind → List KeptCell → Region → Running → Instr → ContextView → Next → Type 0
GoesBy kinds.Jump cells region running instr c n = Went cells region running c n (done c instr)
GoesBy kinds.Call cells region running instr c n = Called cells region running instr c n (done c instr)
GoesBy kinds.Exit cells region running instr c n = Ended cells region running instr c n (done c instr)

-- The instruction does what one of its successors says, at its T-states, and that successor is of the test's outcome.
-- Mode `n` stays, and armed cells stay armed.
pub record Goes (cells : List KeptCell) (region : Region) (running : Running) (a : AbsState) (instr : Instr) (nexts : List Next) (c : ContextView) : Type 0 where
  pub next : Next
  pub listed : Contains nexts next
  pub cost : t_of c instr ≡ next.cost
  pub takes : next.taken ≡ (instr_draft c instr).taken
  pub stays : a.mode ≡ Nmi → next.state.mode ≡ Nmi
  pub arms : a.armed ≤ next.state.armed
  pub goes : GoesBy next.kind cells region running instr c next

-- What an instruction does before its T-states pass. It does not trap where its data writes go to places that take
-- data. A clear NMI enable stays clear where no data write may set it. Only LD I,A changes I, and only HALT halts.
pub record After (cells : List KeptCell) (region : Region) (running : Running) (a : AbsState) (instr : Instr) (ws : List DataWrite) (nexts : List Next) (c : ContextView) : Type 0 where
  pub goes : Goes cells region running a instr nexts c
  pub safe : All (TakesData c.hardware.map) ws → trap_of_instr region c instr ≡ None
  pub clear : All (NeverEnables c.hardware.map) ws → c.state.enable ≡ false → (done c instr).enable ≡ false
  pub keeps_i : instr ≢ instrs.StoreASpecial specials.I → (done c instr).regs.i ≡ c.state.regs.i
  pub halts : (done c instr).halted ≡ true → instr ≡ instrs.Halt

-- on every board that the row describes, each data write of the instruction lies in the known data write at its place,
-- whatever other reasons apply
abbrev pub WritesAsKnown : GroundView → ℕ → AbsState → Instr → Type 0
WritesAsKnown g address a instr =
    (region : Region) (running : Running) (c : ContextView) → c.hardware ≡ hardware_of g.rom g.map → c.state.regs.pc ≡ address
    → Before g.cells region running a c → AllZip WriteLiesIn (writes_of g address a (Ok instr)) (instr_draft c instr).writes

-- on every board that the row describes, the instruction does what `After` says, where no reason applies
abbrev pub Keeps : GroundView → ℕ → Bool → AbsState → Instr → List Next → Type 0
Keeps g address main a instr nexts =
    (region : Region) (running : Running) (c : ContextView) → c.hardware ≡ hardware_of g.rom g.map → c.state.regs.pc ≡ address
    → running.main ≡ main → Before g.cells region running a c → IsInOrder g region running a instr (writes_of g address a (Ok instr)) nexts
    → After g.cells region running a instr (writes_of g address a (Ok instr)) nexts c

-- The same with the successors of each outcome of the test apart: of these, only those of the outcome need be in order,
-- and the instruction does what one of them says.
abbrev pub KeepsByOutcome : GroundView → ℕ → Bool → AbsState → Instr → (Bool → List Next) → Type 0
KeepsByOutcome g address main a instr nexts =
    (region : Region) (running : Running) (c : ContextView) → c.hardware ≡ hardware_of g.rom g.map → c.state.regs.pc ≡ address
    → running.main ≡ main → Before g.cells region running a c
    → IsInOrder g region running a instr (writes_of g address a (Ok instr)) (nexts (instr_draft c instr).taken)
    → After g.cells region running a instr (writes_of g address a (Ok instr)) (nexts (instr_draft c instr).taken) c

-- on every board that the row describes, the byte in work at the end of the instruction is a byte of the known range
abbrev pub OperandAsKnown : GroundView → ℕ → Bool → AbsState → Instr → Type 0
OperandAsKnown g address inline a instr =
    (region : Region) (running : Running) (c : ContextView) → c.hardware ≡ hardware_of g.rom g.map → c.state.regs.pc ≡ address
    → Before g.cells region running a c
    → ((instr_draft c instr).operand < 256) × Within (operand_of g address inline a instr) (instr_draft c instr).operand
