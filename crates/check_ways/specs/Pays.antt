-- What a row of a timed procedure pays, and the T-states between rows of a walk (docs/CHECKER.md, "Paying").
use Rattle.std.specs.Prelude.{ℕ, List, ◌≡◌, ◌≤◌, ◌⊎◌, pos, [], slice_get, Option, Some, None, IsSome, Contains, unwrap_or}
use Rattle.abs_state.specs.Covers.{OverlapsState}
use Rattle.abs_state.specs.Variables.{range_of}
use Rattle.abs_state.specs.declared.state.AbsState.{AbsState}
use Rattle.abs_step.specs.declared.next.Next.{Next}
use Rattle.abs_step.specs.declared.next.NextKind.TheVariants.{Exit}
use Rattle.check_cover.specs.Arrival.{ArrivalView, RefinementView}
use Rattle.check_cover.specs.Program.{IsRowAt, split_at}
use Rattle.check_payments.specs.Paying.{PaysEitherWay}
use Rattle.check_cover.specs.declared.program.Callee.{Callee}
use Rattle.cert_lines.specs.declared.proc.Proc.{Proc}
use Rattle.cert_lines.specs.declared.proc.ProcKind.{ProcKind}
use Rattle.cert_lines.specs.declared.proc.ProcKind.TheVariants.{Main, Nmi, Sub}
use Rattle.cert_lines.specs.declared.row.Row.{Row}
use Rattle.cert_form.specs.Contents.{CertificateView}
use Rattle.loop_bounds.specs.Bounds.{Decreases}
use Rattle.loop_bounds.specs.Effect.{unchanged}
use Rattle.loop_bounds.specs.Linear.{LinearView}
use Rattle.loop_bounds.specs.declared.effect.Effect.{Effect}
use Rattle.check_ways.specs.Ways.{SubjectView, IsNumbered, WayView, IsWay, IsExit, CallsCallee, call_cost, nexts_from}

abbrev pub constant_sum : ℕ → LinearView
constant_sum constant = record { constant = pos constant; terms = [] }

-- a row's potential; a row without one counts as 0 for the others
abbrev pub potential_of : Row → LinearView
potential_of row = unwrap_or row.potential (constant_sum 0)

-- ---- which rows are asked

-- at most one row is at an address of a procedure
abbrev pub AreOne : CertificateView → (proc address : ℕ) → Type 0
AreOne cert proc address = (i j : ℕ) (row other : Row) → slice_get cert.rows i ≡ Some row → (row.proc ≡ proc) × (row.address ≡ address)
    → slice_get cert.rows j ≡ Some other → (other.proc ≡ proc) × (other.address ≡ address) → i ≡ j

-- at most one row is at the address, and no split
abbrev pub IsLone : CertificateView → (proc address : ℕ) → Type 0
IsLone cert proc address = (split_at cert proc address ≡ None) × AreOne cert proc address

-- a row is asked if it is the only one there and there is no split, or if its state overlaps the one that arrives
abbrev pub IsAsked : CertificateView → WayView → Row → Type 0
IsAsked cert way row = IsLone cert way.arrival.proc way.arrival.address ⊎ OverlapsState row.state way.state

-- a way arrives at this row, and the row is asked
pub record Lands (cert : CertificateView) (way : WayView) (target : Row) : Type 0 where
  pub at : IsRowAt cert way.arrival.proc way.arrival.address target
  pub asked : IsAsked cert way target

-- a way of the subject's row leads to this row, so their potentials are compared
pub record LeadsToRow (s : SubjectView) (way : WayView) (target : Row) : Type 0 where
  pub is_way : IsWay s way
  pub lands : Lands s.cert way target

-- ---- paying

-- over its ranges a row's potential pays the cost and leaves another row's potential, rewritten by the effect; in
-- version 3 rewritten with constants first or with variables first
abbrev pub PaysBy : Row → ℕ → Effect → Option RefinementView → Row → Type 0
PaysBy row cost effect None target = Decreases (potential_of row) (potential_of target) cost effect (range_of row.state) (range_of target.state)
PaysBy row cost effect (Some r) target =
    PaysEitherWay (potential_of row) (potential_of target) cost effect r.moved r.linear (range_of row.state) (range_of target.state)

-- the same for a way that arrives so
abbrev pub PaysTo : Row → ℕ → ArrivalView → Row → Type 0
PaysTo row cost a target = PaysBy row cost a.effect a.refined target

-- over its ranges a row's potential pays the cost
abbrev pub PaysOut : Row → ℕ → Type 0
PaysOut row cost = Decreases (potential_of row) (constant_sum 0) cost unchanged (range_of row.state) (range_of row.state)

-- a callee has a time; where it has no exit, the row pays for the call and that time
pub record PaysCall (s : SubjectView) (next : Next) (callee : Callee) : Type 0 where
  pub timed : IsSome callee.proc.time
  pub endless : ((exit : AbsState) → IsExit s.rom s.cert callee.number exit → ⊥) → PaysOut s.row (call_cost next callee)

-- the T-states before the entry of a procedure: those of the acceptance for the NMI routine
abbrev pub cost_before : ProcKind → ℕ
cost_before Main = 0
cost_before Nmi = 11
cost_before Sub = 0

-- over its ranges a row's potential and the T-states before the entry are within the procedure's time
abbrev pub IsWithinTime : Proc → Row → Type 0
IsWithinTime proc row = Decreases (constant_sum (unwrap_or proc.time 0)) (potential_of row) (cost_before proc.kind) unchanged (range_of row.state) (range_of row.state)

-- a row of a timed procedure pays
pub record Pays (s : SubjectView) : Type 0 where
  pub owns : IsSome s.row.potential
  pub ways : (way : WayView) (target : Row) → LeadsToRow s way target → PaysTo s.row way.cost way.arrival target
  pub calls : (next : Next) (callee : Callee) → CallsCallee s next callee → PaysCall s next callee
  pub exits : (next : Next) → Contains (nexts_from s) next → next.kind ≡ Exit → PaysOut s.row next.cost
  pub entry : s.row.address ≡ s.proc.entry → IsWithinTime s.proc s.row

-- ---- walks

-- a row of a timed procedure that calls only procedures with a time
pub record IsWalked (s : SubjectView) : Type 0 where
  pub timed : IsSome s.proc.time
  pub calls : (next : Next) (callee : Callee) → CallsCallee s next callee → IsSome callee.proc.time

-- a walk may go from a row to this one next, at this cost
pub record LiesBetween (s : SubjectView) (target : Row) (cost : ℕ) : Type 0 where
  pub walked : IsWalked s
  pub way : WayView
  pub leads : LeadsToRow s way target
  pub is : cost ≡ way.cost

-- a row has an exit with this cost
pub record IsExitCost (s : SubjectView) (cost : ℕ) : Type 0 where
  pub next : Next
  pub leads : Contains (nexts_from s) next
  pub kind : next.kind ≡ Exit
  pub is : cost ≡ next.cost

-- a walk may go from one row to the next, given by their numbers, at this cost
pub record LieBetween (rom : List ℕ) (cert : CertificateView) (from to cost : ℕ) : Type 0 where
  pub subject : SubjectView
  pub is_from : IsNumbered rom cert from subject
  pub target : Row
  pub is_to : slice_get cert.rows to ≡ Some target
  pub lies : LiesBetween subject target cost

-- the row with this number has an exit with this cost
pub record LeavesAt (rom : List ℕ) (cert : CertificateView) (number cost : ℕ) : Type 0 where
  pub subject : SubjectView
  pub is_from : IsNumbered rom cert number subject
  pub leaves : IsExitCost subject cost

-- the greatest number with a property, or there is none
abbrev pub IsGreatest : (ℕ → Type 0) → Option ℕ → Type 0
IsGreatest Is None = (n : ℕ) → Is n → ⊥
IsGreatest Is (Some greatest) = Is greatest × ((n : ℕ) → Is n → n ≤ greatest)
