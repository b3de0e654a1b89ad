-- The table of reasons: what passes each of them (docs/CHECKER.md, "The table of reasons").
use Rattle.std.specs.Prelude.{ℕ, ◌+◌, ◌*◌, ◌<◌, ◌≤◌, ◌≡◌, ◌≢◌, ◌⊎◌, true, [], length, None, IsSome, Result, Ok, Err, Contains}
use Rattle.std.specs.List.{All}
use Rattle.abs_draft.specs.declared.data_write.DataWrite.{DataWrite}
use Rattle.abs_laws.specs.Writes.{AllKeep, MissesRegion, NeverEnables}
use Rattle.abs_state.specs.declared.mode.Mode.TheVariants.{Unset}
use Rattle.abs_state.specs.declared.state.AbsState.{AbsState}
use Rattle.abs_step.specs.Contained.{SetsTop}
use Rattle.abs_step.specs.Reason.{number_of}
use Rattle.abs_step.specs.declared.next.Next.{Next}
use Rattle.abs_step.specs.declared.next.NextKind.TheVariants.{Exit}
use Rattle.abs_step.specs.declared.reason.Reason.{Reason}
use Rattle.abs_step.specs.declared.reason.Reason.TheVariants as reasons
use Rattle.abs_step.specs.declared.reason.Saved.TheVariants as saved
use Rattle.address_map.specs.declared.map.WriteClass.TheVariants as writes
use Rattle.check_cover.specs.Program.{ground_for, is_main}
use Rattle.cert_form.specs.Contents.{map_of_board}
use Rattle.check_cover.specs.declared.program.Callee.{Callee}
use Rattle.cert_lines.specs.declared.proc.Proc.{Proc}
use Rattle.cert_lines.specs.declared.proc.ProcKind.{ProcKind}
use Rattle.cert_lines.specs.declared.proc.ProcKind.TheVariants.{Main, Nmi, Sub}
use Rattle.check_ways.specs.Pays.{Pays}
use Rattle.check_ways.specs.Ways.{CallsCallee, GoesOn, SubjectView, nexts_from, restarts, step_of, writes_from}
use Rattle.check_writes.specs.Writes.{FindsArmed, MissesClass}
use Rattle.nmi_saves.specs.Lost.{IsFirstLost}
use Rattle.board_laws.specs.Uses.{sets_sp}
use Rattle.z80_decode.specs.declared.instr.Instr.{Instr}
use Rattle.z80_decode.specs.declared.instr.Instr.TheVariants as instrs
use Rattle.z80_decode.specs.declared.operands.Special.TheVariants as specials

-- ---- what a row may do

-- each data write of a row has the property
abbrev pub AllWrites : SubjectView → (DataWrite → Type 0) → Type 0
AllWrites s Passes = All Passes (writes_from s)

-- the row is main's, and its shape is empty
pub record HasNoStack (s : SubjectView) : Type 0 where
  pub main : is_main s.row.proc ≡ true
  pub empty : s.row.state.shape ≡ []

-- the abstract step does not refuse the row for this reason
abbrev pub IsNotRefused : SubjectView → Reason → Type 0
IsNotRefused s reason = step_of s ≢ Err reason

-- the instruction at the row's address is not this one
abbrev pub IsNotAt : SubjectView → Instr → Type 0
IsNotAt s instr = s.decoded ≢ Ok instr

-- the procedure has a time
abbrev pub IsTimed : Proc → Type 0
IsTimed proc = IsSome proc.time

-- ---- the stack

-- the bytes of an activation that are on the stack at its entry: its return address, which main does not have
abbrev pub entry_bytes : ProcKind → ℕ
entry_bytes Main = 0
entry_bytes Nmi = 2
entry_bytes Sub = 2

-- the bytes that an activation of the row's procedure has on the stack in a state
abbrev pub bytes_in : SubjectView → AbsState → ℕ
bytes_in s state = entry_bytes s.proc.kind + 2 * length state.shape

-- the depth of the row's procedure has room for the row, for each successor, and for each callee
pub record FitsDepth (s : SubjectView) : Type 0 where
  pub row : bytes_in s s.row.state ≤ s.proc.depth
  pub nexts : (next : Next) → Contains (nexts_from s) next → bytes_in s next.state ≤ s.proc.depth
  pub calls : (next : Next) (callee : Callee) → CallsCallee s next callee → bytes_in s next.state + callee.proc.depth ≤ s.proc.depth

-- each callee's rank is below the caller's
abbrev pub RanksFall : SubjectView → Type 0
RanksFall s = (next : Next) (callee : Callee) → CallsCallee s next callee → callee.proc.rank < s.proc.rank

-- a restart by LD SP,nn with the region's top
abbrev pub RestartsAtTop : SubjectView → Instr → Type 0
RestartsAtTop s instr = (restarts s ≡ true) × SetsTop true s.cert.region instr

-- an instruction that sets SP is main's LD SP,nn with the region's top, or a restart by it
abbrev pub SetsTopAlone : SubjectView → Type 0
SetsTopAlone s = (instr : Instr) → s.decoded ≡ Ok instr → sets_sp instr ≡ true → SetsTop (is_main s.row.proc) s.cert.region instr ⊎ RestartsAtTop s instr

-- ---- the NMI

-- no exit of the NMI routine loses the pair first
abbrev pub GivesBackPairs : SubjectView → (AbsState → Type 0) → Type 0
GivesBackPairs s IsLost = s.proc.kind ≡ Nmi → (next : Next) → Contains (nexts_from s) next → next.kind ≡ Exit → IsLost next.state → ⊥

-- ---- the table

-- When a row passes a reason. The reasons 1, 2, 3 and 18 are about the whole certificate; each row passes them.
abbrev pub Passes : SubjectView → Reason → Type 0
Passes s (reasons.Decode fault) = s.decoded ≢ Err fault
Passes s reasons.IoSpace = IsNotRefused s reasons.IoSpace
Passes s reasons.WriteRom = AllWrites s (MissesClass (map_of_board s.cert) writes.Rom)
Passes s reasons.WriteUnmapped = AllWrites s (MissesClass (map_of_board s.cert) writes.Unmapped)
Passes s reasons.StackOverwrite = HasNoStack s ⊎ AllWrites s (MissesRegion (map_of_board s.cert) s.cert.region)
Passes s reasons.StackUnset = IsNotRefused s reasons.StackUnset
Passes s reasons.StackShape = IsNotRefused s reasons.StackShape
Passes s reasons.StackDepth = FitsDepth s
Passes s reasons.NotCovered = GoesOn s
Passes s reasons.Rank = RanksFall s
Passes s (reasons.SavedRegister (saved.Pair pair)) = GivesBackPairs s (λ state. IsFirstLost state pair)
Passes s (reasons.SavedRegister saved.I) = IsTimed s.proc → IsNotAt s (instrs.StoreASpecial specials.I)
Passes s reasons.NmiBeforeStack = s.row.state.mode ≡ Unset → AllWrites s (NeverEnables (map_of_board s.cert))
Passes s reasons.NmiMissing = s.cert.budget ≡ None → AllWrites s (NeverEnables (map_of_board s.cert))
Passes s reasons.Time = IsTimed s.proc → Pays s
Passes s reasons.HaltInNmi = IsTimed s.proc → IsNotAt s instrs.Halt
Passes s reasons.SpWrite = SetsTopAlone s
Passes s reasons.CellRange = AllKeep (ground_for s.rom s.cert) s.row.state.armed (writes_from s)
Passes s reasons.CellUnarmed = FindsArmed (ground_for s.rom s.cert) s.row.state.armed (writes_from s)
Passes s _ = Unit {0}

-- no reason applies to a row
abbrev pub IsConsistent : SubjectView → Type 0
IsConsistent s = (reason : Reason) → Passes s reason

-- no reason with a lower number applies to a row
abbrev pub PassesBelow : SubjectView → ℕ → Type 0
PassesBelow s number = (other : Reason) → number_of other < number → Passes s other

-- a reason applies to a row, and none with a lower number does
pub record IsLowest (s : SubjectView) (reason : Reason) : Type 0 where
  pub applies : Passes s reason → ⊥
  pub lowest : PassesBelow s (number_of reason)

-- what was found of the reasons below a number: none applies to the row, or this one is the lowest
abbrev pub TellsLowest : {T : Type 0} → SubjectView → ℕ → Result T Reason → Type 0
TellsLowest s number (Ok _) = PassesBelow s number
TellsLowest s number (Err reason) = IsLowest s reason
