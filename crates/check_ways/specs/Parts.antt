-- The parts of going on, of paying and of walks: what one successor needs, and one row of a callee.
use Rattle.std.specs.Prelude.{ℕ, ℤ, ◌≡◌, ◌≢◌, ◌≤◌, ◌<◌, ◌↔◌, ◌⊎◌, ◌&&◌, Bool, false, List, [], Option, Some, None, Result, Ok, Err, Contains, IsSome, max, slice_get}
use Rattle.abs_state.specs.Entries.{after_call, callee_entry}
use Rattle.abs_state.specs.Variables.{range_of}
use Rattle.abs_state.specs.declared.state.AbsState.{AbsState}
use Rattle.z80_actions.specs.Known.{returns_if_taken}
use Rattle.abs_step.specs.Successors.{is_empty}
use Rattle.abs_step.specs.declared.next.Next.{Next}
use Rattle.abs_step.specs.declared.next.NextKind.{NextKind}
use Rattle.abs_step.specs.declared.next.NextKind.TheVariants.{Jump, Call, Exit}
use Rattle.check_cover.specs.Arrival.{ArrivalView}
use Rattle.check_cover.specs.Covering.{Covered}
use Rattle.check_cover.specs.Plainly.{CoversPlainly}
use Rattle.check_cover.specs.Whole.{CoversWhole}
use Rattle.check_cover.specs.Program.{IsRowAt, callee_at}
use Rattle.check_cover.specs.declared.program.Callee.{Callee}
use Rattle.cert_lines.specs.declared.row.Row.{Row}
use Rattle.cert_lines.specs.declared.version.Version.TheVariants.{Three}
use Rattle.cert_form.specs.Contents.{CertificateView}
use Rattle.check_ways.specs.Pays.{IsAsked, Lands, PaysCall, PaysOut, PaysTo, potential_of}
use Rattle.check_ways.specs.Ways.{SubjectView, IsNumbered, IsExit, WayView, behind_of, call_cost, arrival_at_entry, jump_way, nexts_from, return_way}
use Rattle.check_steps.specs.Returned.{effect_back}
use Rattle.check_steps.specs.Told.{refinement_by}
use Rattle.check_tables.specs.Lefts.{state_of}
use Rattle.check_tables.specs.Tables.{IsTop}
use Rattle.check_tables.specs.declared.left.Left.{Left}
use Rattle.loop_bounds.specs.Bounds.{Decreases}
use Rattle.loop_bounds.specs.Effect.{unchanged}
use Rattle.loop_bounds.specs.Linear.{LinearView}
use Rattle.refined_step.specs.Told.{untold}
use Rattle.z80_decode.specs.declared.fault.DecodeFault.{DecodeFault}
use Rattle.z80_decode.specs.declared.instr.Instr.{Instr}

-- ---- exits

-- some exit among the successors leaves in this state
pub record IsExitIn (nexts : List Next) (exit : AbsState) : Type 0 where
  pub next : Next
  pub leads : Contains nexts next
  pub kind : next.kind ≡ Exit
  pub state : exit ≡ next.state

-- the row with this number has an exit in this state
pub record IsExitAt (rom : List ℕ) (cert : CertificateView) (number : ℕ) (exit : AbsState) : Type 0 where
  pub subject : SubjectView
  pub is : IsNumbered rom cert number subject
  pub leaves : IsExitIn (nexts_from subject) exit

-- the exits among these successors are those of the row with this number
abbrev pub AreExitsOf : List ℕ → CertificateView → ℕ → List Next → Type 0
AreExitsOf rom cert number nexts = (exit : AbsState) → IsExitAt rom cert number exit ↔ IsExitIn nexts exit

-- the row with this number has no exit
abbrev pub HasNoExit : List ℕ → CertificateView → ℕ → Type 0
HasNoExit rom cert number = (exit : AbsState) → IsExitAt rom cert number exit → ⊥

-- the row with this number, in the certificate of a subject, has only this exit, or none
pub record IsOnlyExit (s : SubjectView) (number : ℕ) (only : Option AbsState) : Type 0 where
  pub is : (exit : AbsState) → IsExitAt s.rom s.cert number exit ↔ (only ≡ Some exit)

-- a row may have an exit only if its shape is empty and a return stands at its address
abbrev pub may_leave : AbsState → Result Instr DecodeFault → Bool
may_leave state (Ok instr) = is_empty state.shape && returns_if_taken instr
may_leave state (Err fault) = false

-- the property holds of each exit of the row with this number, in the certificate of a subject
pub record AtEachExit (s : SubjectView) (number : ℕ) (Holds : AbsState → Type 0) : Type 0 where
  pub each : (exit : AbsState) → IsExitAt s.rom s.cert number exit → Holds exit

-- the property holds of each exit of a procedure, in the certificate of a subject
pub record OnEachExit (s : SubjectView) (proc : ℕ) (Holds : AbsState → Type 0) : Type 0 where
  pub each : (exit : AbsState) → IsExit s.rom s.cert proc exit → Holds exit

-- the property holds of some exit of the row with this number
pub record AtSomeExit (s : SubjectView) (number : ℕ) (Holds : AbsState → Type 0) : Type 0 where
  pub exit : AbsState
  pub at : IsExitAt s.rom s.cert number exit
  pub holds : Holds exit

-- the property holds of some exit of a procedure
pub record OnSomeExit (s : SubjectView) (proc : ℕ) (Holds : AbsState → Type 0) : Type 0 where
  pub exit : AbsState
  pub of : IsExit s.rom s.cert proc exit
  pub holds : Holds exit

-- the property holds of the state of each of these
pub record OnEachLeft (lefts : List Left) (Holds : AbsState → Type 0) : Type 0 where
  pub each : (left : Left) → Contains lefts left → Holds (state_of left)

-- every exit has this property
abbrev pub AnyExit : AbsState → Type 0
AnyExit exit = Unit {0}

-- ---- going on

-- the state that arrives by a way is covered
abbrev pub IsCoveredWay : CertificateView → WayView → Type 0
IsCoveredWay cert way = Covered cert way.arrival way.state

-- a call comes back in a covered state from this exit of its callee
abbrev pub ReturnCovered : CertificateView → SubjectView → Next → Callee → AbsState → Type 0
ReturnCovered cert s next callee exit = IsCoveredWay cert (return_way s next callee exit)

-- the arrival back from a call, where only what the callee's exit leaves of origins is known of the variables
abbrev pub bare_arrival : SubjectView → Next → AbsState → ArrivalView
bare_arrival s next exit = record {
  proc = s.row.proc;
  address = behind_of s.decoded s.row.address;
  facts = s.row.facts;
  before = s.row.state;
  effect = effect_back Three next.moved exit;
  refined = refinement_by Three untold (effect_back Three next.moved exit);
}

-- in version 3 a call comes back from an exit in a state that is covered whole, with claims that are known without
-- constants
pub record WideCoveredWhole (cert : CertificateView) (s : SubjectView) (next : Next) (exit : AbsState) : Type 0 where
  pub version : s.cert.version ≡ Three
  pub whole : CoversWhole cert (bare_arrival s next exit) (after_call next.state exit)

-- a call comes back from an exit in a state that one row covers, which does so from each smaller exit
abbrev pub WideCovered : CertificateView → SubjectView → Next → AbsState → Type 0
WideCovered cert s next exit =
    CoversPlainly cert s.row.proc (behind_of s.decoded s.row.address) (after_call next.state exit) ⊎ WideCoveredWhole cert s next exit

-- there is at least one of these exits, and a call comes back covered from each of them
pub record WidesCovered (cert : CertificateView) (s : SubjectView) (next : Next) (wides : List AbsState) : Type 0 where
  pub some : wides ≢ []
  pub each : (wide : AbsState) → Contains wides wide → WideCovered cert s next wide

-- a call enters its callee in a covered state and comes back in one from each exit; a call of no procedure does not go
-- on
abbrev pub CallGoesOn : CertificateView → SubjectView → Next → Option Callee → Type 0
CallGoesOn cert s next None = ⊥
CallGoesOn cert s next (Some callee) =
    Covered cert (arrival_at_entry s next callee) (callee_entry next.state) × OnEachExit s callee.number (ReturnCovered cert s next callee)

-- what a successor of each kind needs for a row to go on
abbrev pub KindGoesOn : CertificateView → SubjectView → Next → NextKind → Type 0
KindGoesOn cert s next Jump = IsCoveredWay cert (jump_way s next)
KindGoesOn cert s next Call = CallGoesOn cert s next (callee_at s.cert next.address)
KindGoesOn cert s next Exit = Unit {0}

abbrev pub NextGoesOn : CertificateView → SubjectView → Next → Type 0
NextGoesOn cert s next = KindGoesOn cert s next next.kind

-- ---- paying

-- a row pays for a way, to each row that is asked where it arrives
pub record PaysWay (s : SubjectView) (way : WayView) : Type 0 where
  pub each : (target : Row) → Lands s.cert way target → PaysTo s.row way.cost way.arrival target

-- a row pays for a way to the row with this number, if that row is asked
pub record PaysToRow (s : SubjectView) (way : WayView) (number : ℕ) : Type 0 where
  pub asked : (row : Row) → slice_get s.cert.rows number ≡ Some row → IsAsked s.cert way row → PaysTo s.row way.cost way.arrival row

-- exactly the rows at an address have these numbers
abbrev pub AreNumbersAt : CertificateView → ArrivalView → ℕ → ℕ → Type 0
AreNumbersAt cert a start end =
    (k : ℕ) (row : Row) → slice_get cert.rows k ≡ Some row → ((start ≤ k) × (k < end)) ↔ ((row.proc ≡ a.proc) × (row.address ≡ a.address))

-- a constant that is at least each potential of the rows with these numbers
pub record IsTopOf (cert : CertificateView) (start end : ℕ) (sum : LinearView) : Type 0 where
  pub number : ℤ
  pub is : sum ≡ record { constant = number; terms = [] }
  pub top : IsTop cert (record { start = start; end = end; potential = number })

-- over its ranges a row's potential pays the cost and leaves a constant
abbrev pub PaysNumber : Row → ℕ → LinearView → Type 0
PaysNumber row cost top = Decreases (potential_of row) top cost unchanged (range_of row.state) (range_of row.state)

-- a row pays the cost to each row with these numbers, by any effect
pub record PaysAll (s : SubjectView) (start end cost : ℕ) : Type 0 where
  pub each : (k : ℕ) (target : Row) (a : ArrivalView) → start ≤ k → k < end → slice_get s.cert.rows k ≡ Some target → PaysTo s.row cost a target

-- a row pays the cost to each row at an address of a procedure, by any effect
pub record PaysPlace (s : SubjectView) (proc address cost : ℕ) : Type 0 where
  pub each : (target : Row) (a : ArrivalView) → IsRowAt s.cert proc address target → PaysTo s.row cost a target

-- a row pays for the way back from a call, from this exit of its callee
abbrev pub PaysReturn : SubjectView → Next → Callee → AbsState → Type 0
PaysReturn s next callee exit = PaysWay s (return_way s next callee exit)

-- a row pays for a call and for each way back from it; a call of no procedure needs nothing
abbrev pub CallPays : SubjectView → Next → Option Callee → Type 0
CallPays s next None = Unit {0}
CallPays s next (Some callee) = PaysCall s next callee × OnEachExit s callee.number (PaysReturn s next callee)

-- what a successor of each kind needs for a row to pay
abbrev pub KindPays : SubjectView → Next → NextKind → Type 0
KindPays s next Jump = PaysWay s (jump_way s next)
KindPays s next Call = CallPays s next (callee_at s.cert next.address)
KindPays s next Exit = PaysOut s.row next.cost

abbrev pub NextPays : SubjectView → Next → Type 0
NextPays s next = KindPays s next next.kind

-- ---- walks

-- the greater of two numbers, or the only one
abbrev pub greater : Option ℕ → Option ℕ → Option ℕ
greater (Some a) (Some b) = Some (max a b)
greater (Some a) None = Some a
greater None b = b

-- a call comes back to this row from this exit of its callee, and the row is asked
abbrev pub ReturnLands : SubjectView → Next → Callee → Row → AbsState → Type 0
ReturnLands s next callee target exit = Lands s.cert (return_way s next callee exit) target

-- a call of a procedure leads from a row to another at this cost; a call of no procedure leads nowhere
abbrev pub LiesByCall : SubjectView → Next → Row → Option Callee → ℕ → Type 0
LiesByCall s next target None cost = ⊥
LiesByCall s next target (Some callee) cost = OnSomeExit s callee.number (ReturnLands s next callee target) × (cost ≡ call_cost next callee)

-- a successor of a kind leads from a row to another at this cost
abbrev pub LiesByKind : SubjectView → Next → Row → NextKind → ℕ → Type 0
LiesByKind s next target Jump cost = Lands s.cert (jump_way s next) target × (cost ≡ next.cost)
LiesByKind s next target Call cost = LiesByCall s next target (callee_at s.cert next.address) cost
LiesByKind s next target Exit cost = ⊥

-- a successor leads from a row to another at this cost
abbrev pub LiesBy : SubjectView → Row → Next → ℕ → Type 0
LiesBy s target next cost = LiesByKind s next target next.kind cost

-- a successor is an exit, with this cost
pub record CostsExit (next : Next) (cost : ℕ) : Type 0 where
  pub kind : next.kind ≡ Exit
  pub is : cost ≡ next.cost

-- one of the successors has this cost
pub record IsAmong (nexts : List Next) (Tells : Next → ℕ → Type 0) (cost : ℕ) : Type 0 where
  pub next : Next
  pub leads : Contains nexts next
  pub tells : Tells next cost

-- if a procedure is called, it has a time
abbrev pub IsTimedCall : Option Callee → Type 0
IsTimedCall None = Unit {0}
IsTimedCall (Some callee) = IsSome callee.proc.time

-- if a successor is a call of a procedure, that has a time
abbrev pub OnCall : SubjectView → Next → Type 0
OnCall s next = next.kind ≡ Call → IsTimedCall (callee_at s.cert next.address)
