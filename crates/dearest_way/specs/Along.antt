-- The parts of a way, and what each of them costs (docs/CHECKER.md, "Walks").
use Rattle.std.specs.Prelude.{ℕ, zero, suc, ◌+◌, ◌≤◌, ◌≡◌, List, [], ◌∷◌, Option, Some, None, option_map, slice_get, unwrap_or}
use Rattle.cert_lines.specs.declared.proc.Proc.{Proc}
use Rattle.cert_form.specs.Contents.{CertificateView}
use Rattle.check_ways.specs.Pays.{cost_before}
use Rattle.path_time.specs.Walks.{AreApart, BelongsAt, CostsToLeave, MayComeNext}
use Rattle.dearest_way.specs.Worth.{IsWorth}
use Rattle.dearest_way.specs.declared.parts.WayPart.{WayPart}
use Rattle.dearest_way.specs.declared.parts.UntimedPart.{UntimedPart}

-- the row from which a part goes on: the row itself or, of a loop, the row by which it is left
abbrev pub last_row_of : ℕ → Option ℕ → ℕ
last_row_of row left_by = unwrap_or left_by row

-- the row from which the way comes to a place of a route
abbrev pub before_at : List UntimedPart → ℕ → Option ℕ
before_at route zero = None
before_at route (suc place) = option_map (λ stage. last_row_of stage.row stage.left_by) (slice_get route place)

-- a row outside of loops costs what it costs on a walk: the T-states to the next row, or those of its exit
abbrev pub IsRowCost : List ℕ → CertificateView → ℕ → Option ℕ → ℕ → Type 0
IsRowCost rom cert row None cost = CostsToLeave rom cert row cost
IsRowCost rom cert row (Some next) cost = AreApart rom cert row next cost

-- the row by which a loop is left leads to the next row, if there is one
abbrev pub IsLeftFor : List ℕ → CertificateView → ℕ → Option ℕ → Type 0
IsLeftFor rom cert last None = Unit {0}
IsLeftFor rom cert last (Some next) = MayComeNext rom cert last next

-- a loop costs what its potential comes to where the way enters it, less the T-states of what follows
pub record IsLoop (rom : List ℕ) (cert : CertificateView) (before next : Option ℕ) (rest last : ℕ) (part : WayPart) : Type 0 where
  pub worth : IsWorth rom cert before part.row (part.cost + rest) part.turns
  pub left : IsLeftFor rom cert last next

-- a part is entered from the row `before`; the next one begins with the row `next`, and those from there on come to
-- `rest` T-states
abbrev pub IsWayPartBy : List ℕ → CertificateView → Option ℕ → Option ℕ → ℕ → Option ℕ → WayPart → Type 0
IsWayPartBy rom cert before next rest None part = IsRowCost rom cert part.row next part.cost
IsWayPartBy rom cert before next rest (Some last) part = IsLoop rom cert before next rest last part

abbrev pub IsWayPart : List ℕ → CertificateView → Option ℕ → Option ℕ → ℕ → WayPart → Type 0
IsWayPart rom cert before next rest part = IsWayPartBy rom cert before next rest part.left_by part

-- the row with which parts begin
abbrev pub first_row : List WayPart → Option ℕ
first_row [] = None
first_row (part ∷ parts) = Some part.row

-- parts that follow one another, the first entered from the row `before`, and the sum of their T-states
abbrev pub IsAlong : List ℕ → CertificateView → Option ℕ → List WayPart → ℕ → Type 0
IsAlong rom cert before [] sum = sum ≡ 0
IsAlong rom cert before (part ∷ parts) sum =
    (rest : ℕ) × (sum ≡ part.cost + rest) × IsWayPart rom cert before (first_row parts) rest part × IsAlong rom cert (Some (last_row_of part.row part.left_by)) parts rest

-- the first part begins with a row of a procedure at an address
abbrev pub BeginsAt : CertificateView → ℕ → ℕ → List WayPart → Type 0
BeginsAt cert proc address [] = ⊥
BeginsAt cert proc address (part ∷ parts) = BelongsAt cert proc address part.row

-- a way from the entry of a procedure to an exit or into a loop from which no row leads; the sum includes the T-states of
-- the acceptance for the NMI routine, and is at most the procedure's time
pub record IsDearestWay (rom : List ℕ) (cert : CertificateView) (proc : ℕ) (parts : List WayPart) (sum : ℕ) : Type 0 where
  pub procedure : Proc
  pub is : slice_get cert.procs proc ≡ Some procedure
  pub begins : BeginsAt cert proc procedure.entry parts
  pub rest : ℕ
  pub along : IsAlong rom cert None parts rest
  pub sum_is : sum ≡ cost_before procedure.kind + rest
  pub within : sum ≤ unwrap_or procedure.time 0
