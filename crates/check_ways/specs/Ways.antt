-- Where a row leads to, through calls and back from them (docs/CHECKER.md, "Successors, calls and exits").
use Rattle.std.specs.Prelude.{ℕ, ◌+◌, ◌%◌, ◌≡◌, ◌≢◌, ◌⊎◌, Bool, if◌then◌else◌, List, [], length, slice_get, Option, Some, None, Result, Ok, Err, Contains, unwrap_or}
use Rattle.abs_draft.specs.Outcomes.{settled}
use Rattle.abs_draft.specs.declared.data_write.DataWrite.{DataWrite}
use Rattle.abs_state.specs.Entries.{callee_entry, after_call}
use Rattle.abs_state.specs.declared.state.AbsState.{AbsState}
use Rattle.abs_step.specs.Successors.{answer_of, writes_of}
use Rattle.abs_step.specs.declared.next.Next.{Next}
use Rattle.abs_step.specs.declared.next.NextKind.TheVariants.{Jump, Call, Exit}
use Rattle.abs_step.specs.declared.reason.Reason.{Reason}
use Rattle.abs_step.specs.declared.reason.Reason.TheVariants.{NotCovered}
use Rattle.board_fetch.specs.Decoded.{StandsAt}
use Rattle.check_cover.specs.Arrival.{ArrivalView}
use Rattle.check_cover.specs.Covering.{Covered}
use Rattle.check_cover.specs.Program.{callee_at, ground_for, is_inline, is_main}
use Rattle.check_cover.specs.declared.program.Callee.{Callee}
use Rattle.cert_lines.specs.declared.proc.Proc.{Proc}
use Rattle.cert_lines.specs.declared.row.Row.{Row}
use Rattle.cert_lines.specs.declared.version.Version.{Version}
use Rattle.cert_lines.specs.declared.version.Version.TheVariants.{One, Two, Three}
use Rattle.cert_form.specs.Contents.{CertificateView}
use Rattle.z80_decode.specs.Spelling.{spelling}
use Rattle.z80_decode.specs.declared.fault.DecodeFault.{DecodeFault}
use Rattle.z80_decode.specs.declared.instr.Instr.{Instr}
use Rattle.refined_step.specs.Refined.{refined_answer, step_told}
use Rattle.refined_step.specs.Told.{StepToldView, untold}
use Rattle.check_steps.specs.Restarts.{restarted, restarts_by}
use Rattle.check_steps.specs.Returned.{effect_back}
use Rattle.check_steps.specs.Told.{refinement_by}

-- ---- rows

-- a row of a certificate for a ROM, its procedure, and what is decoded at its address
pub record SubjectView : Type 0 where
  pub rom : List ℕ
  pub cert : CertificateView
  pub row : Row
  pub proc : Proc
  pub decoded : Result Instr DecodeFault

-- the certificate has the row, with this procedure, and this is decoded at its address
pub record IsSubject (s : SubjectView) : Type 0 where
  pub listed : Contains s.cert.rows s.row
  pub procedure : slice_get s.cert.procs s.row.proc ≡ Some s.proc
  pub stands : StandsAt s.rom s.row.address s.decoded

-- the row with this number, of a certificate for a ROM
pub record IsNumbered (rom : List ℕ) (cert : CertificateView) (number : ℕ) (s : SubjectView) : Type 0 where
  pub is_subject : IsSubject s
  pub same : (s.rom ≡ rom) × (s.cert ≡ cert)
  pub at : slice_get cert.rows number ≡ Some s.row

-- what the step of a version answers for an instruction of a row: in version 3 the refined step, else the abstract step
abbrev pub step_by : Version → SubjectView → Instr → Result (List Next) Reason
step_by One s instr = answer_of (ground_for s.rom s.cert) s.row.address (is_main s.row.proc) (is_inline s.cert s.row.address) s.row.state (Ok instr)
step_by Two s instr = answer_of (ground_for s.rom s.cert) s.row.address (is_main s.row.proc) (is_inline s.cert s.row.address) s.row.state (Ok instr)
step_by Three s instr =
    refined_answer (ground_for s.rom s.cert) s.row.address (is_main s.row.proc) (is_inline s.cert s.row.address) instr s.row.parts s.row.state

-- what the step answers for what is decoded at a row
abbrev pub step_for : SubjectView → Result Instr DecodeFault → Result (List Next) Reason
step_for s (Ok instr) = step_by s.cert.version s instr
step_for s (Err fault) =
    answer_of (ground_for s.rom s.cert) s.row.address (is_main s.row.proc) (is_inline s.cert s.row.address) s.row.state (Err fault)

-- what the step answers for a row
abbrev pub step_of : SubjectView → Result (List Next) Reason
step_of s = step_for s s.decoded

-- what the refined step says of what is decoded at a row
abbrev pub told_of : SubjectView → Result Instr DecodeFault → StepToldView
told_of s (Ok instr) =
    step_told (ground_for s.rom s.cert) s.row.address (is_inline s.cert s.row.address) instr s.row.parts s.row.state
told_of s (Err fault) = untold

-- this is what the step says of the row; before version 3 anything is
abbrev pub IsTold : SubjectView → StepToldView → Type 0
IsTold s told = s.cert.version ≡ Three → told ≡ told_of s s.decoded

-- the data writes of a row
abbrev pub writes_from : SubjectView → List DataWrite
writes_from s = writes_of (ground_for s.rom s.cert) s.row.address s.row.state s.decoded

abbrev pub nexts_in : Result (List Next) Reason → List Next
nexts_in (Ok nexts) = nexts
nexts_in (Err _) = []

-- the successors of a row; a row that the abstract step refuses has none
abbrev pub nexts_from : SubjectView → List Next
nexts_from s = nexts_in (step_of s)

-- ---- exits

-- some row of a procedure has an exit in this state
pub record IsExit (rom : List ℕ) (cert : CertificateView) (proc : ℕ) (exit : AbsState) : Type 0 where
  pub subject : SubjectView
  pub is_subject : IsSubject subject
  pub same : (subject.rom ≡ rom) × (subject.cert ≡ cert)
  pub of : subject.row.proc ≡ proc
  pub next : Next
  pub leads : Contains (nexts_from subject) next
  pub kind : next.kind ≡ Exit
  pub state : exit ≡ next.state

-- ---- ways

-- a way: where it arrives, in which state, and its cost in T-states
pub record WayView : Type 0 where
  pub arrival : ArrivalView
  pub state : AbsState
  pub cost : ℕ

-- ---- restarts

abbrev pub restarts : SubjectView → Bool
restarts s = restarts_by s.cert.version s.proc s.decoded

-- the procedure and the state in which a jump arrives
abbrev pub proc_after : SubjectView → ℕ
proc_after s = if restarts s then 0 else s.row.proc

abbrev pub state_after : SubjectView → AbsState → AbsState
state_after s state = if restarts s then restarted state else state

-- ---- the ways of each kind

-- a jump that arrives in this procedure and this state
abbrev pub jump_to : SubjectView → Next → ℕ → AbsState → WayView
jump_to s next proc state = record {
  arrival = record {
    proc = proc;
    address = next.address;
    facts = s.row.facts;
    before = s.row.state;
    effect = next.effect;
    refined = refinement_by s.cert.version (told_of s s.decoded) next.moved;
  };
  state = state;
  cost = next.cost;
}

-- the way of a jump; going on to the next address is one too, and a restart
abbrev pub jump_way : SubjectView → Next → WayView
jump_way s next = jump_to s next (proc_after s) (state_after s next.state)

-- the arrival at a callee's entry
abbrev pub arrival_at_entry : SubjectView → Next → Callee → ArrivalView
arrival_at_entry s next callee = record {
  proc = callee.number;
  address = next.address;
  facts = s.row.facts;
  before = s.row.state;
  effect = next.effect;
  refined = refinement_by s.cert.version untold next.moved;
}

-- the address after what stands at a row's address
abbrev pub behind_of : Result Instr DecodeFault → ℕ → ℕ
behind_of (Ok instr) address = (address + length (spelling instr)) % 65536
behind_of (Err fault) address = address

-- the T-states of a call and its callee's time; a callee without a time adds none
abbrev pub call_cost : Next → Callee → ℕ
call_cost next callee = next.cost + unwrap_or callee.proc.time 0

-- the way back from a callee that leaves in this state
abbrev pub return_way : SubjectView → Next → Callee → AbsState → WayView
return_way s next callee exit = record {
  arrival = record {
    proc = s.row.proc;
    address = behind_of s.decoded s.row.address;
    facts = s.row.facts;
    before = s.row.state;
    effect = settled (after_call next.state exit) (effect_back s.cert.version next.effect exit);
    refined = refinement_by s.cert.version untold (effect_back s.cert.version next.moved exit);
  };
  state = after_call next.state exit;
  cost = call_cost next callee;
}

pub record IsJump (s : SubjectView) (way : WayView) : Type 0 where
  pub next : Next
  pub leads : Contains (nexts_from s) next
  pub kind : next.kind ≡ Jump
  pub is : way ≡ jump_way s next

-- a successor is a call of a procedure
pub record CallsCallee (s : SubjectView) (next : Next) (callee : Callee) : Type 0 where
  pub leads : Contains (nexts_from s) next
  pub kind : next.kind ≡ Call
  pub called : callee_at s.cert next.address ≡ Some callee

pub record IsReturn (s : SubjectView) (way : WayView) : Type 0 where
  pub next : Next
  pub callee : Callee
  pub calls : CallsCallee s next callee
  pub exit : AbsState
  pub exits : IsExit s.rom s.cert callee.number exit
  pub is : way ≡ return_way s next callee exit

-- a way of a row: by a jump, or through a call and back
abbrev pub IsWay : SubjectView → WayView → Type 0
IsWay s way = IsJump s way ⊎ IsReturn s way

-- ---- going on

-- a call enters a called procedure in a covered state
abbrev pub EntersCallee : SubjectView → Next → Option Callee → Type 0
EntersCallee s next None = ⊥
EntersCallee s next (Some callee) = Covered s.cert (arrival_at_entry s next callee) (callee_entry next.state)

-- each way of a row is covered, and so is each entry of a callee; no computed jump is through a pair that is not one
-- word
pub record GoesOn (s : SubjectView) : Type 0 where
  pub jumps : step_of s ≢ Err NotCovered
  pub ways : (way : WayView) → IsWay s way → Covered s.cert way.arrival way.state
  pub entries : (next : Next) → Contains (nexts_from s) next → next.kind ≡ Call → EntersCallee s next (callee_at s.cert next.address)
