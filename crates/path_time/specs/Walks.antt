-- Walks of a procedure, from its entry to an exit, and the longest of them (docs/CHECKER.md, "Walks").
use Rattle.std.specs.Prelude.{ℕ, ◌+◌, ◌-◌, ◌<◌, ◌≤◌, ◌≡◌, List, [], ◌∷◌, length, min, slice_get, slice_index, Some, None}
use Rattle.cert_lines.specs.declared.proc.Proc.{Proc}
use Rattle.cert_lines.specs.declared.row.Row.{Row}
use Rattle.cert_form.specs.Contents.{CertificateView}
use Rattle.check_ways.specs.Pays.{IsGreatest, LeavesAt, LieBetween, cost_before}

-- ---- rows

-- the row with this number is one of a procedure
pub record Belongs (cert : CertificateView) (proc number : ℕ) : Type 0 where
  pub row : Row
  pub is : slice_get cert.rows number ≡ Some row
  pub of : row.proc ≡ proc

-- and it is at this address
pub record BelongsAt (cert : CertificateView) (proc address number : ℕ) : Type 0 where
  pub row : Row
  pub is : slice_get cert.rows number ≡ Some row
  pub of : row.proc ≡ proc
  pub at : row.address ≡ address

-- the T-states between two rows, by their numbers: the most, if several ways lead from the first to the second
abbrev pub AreApart : List ℕ → CertificateView → ℕ → ℕ → ℕ → Type 0
AreApart rom cert from to cost = IsGreatest (LieBetween rom cert from to) (Some cost)

-- the T-states of a row's exit
abbrev pub CostsToLeave : List ℕ → CertificateView → ℕ → ℕ → Type 0
CostsToLeave rom cert row cost = IsGreatest (LeavesAt rom cert row) (Some cost)

-- ---- walks

-- a row comes next after another, and the sum is their cost plus the sum from there on
pub record GoesOnTo (rom : List ℕ) (cert : CertificateView) (row next : ℕ) (FromThere : ℕ → Type 0) (sum : ℕ) : Type 0 where
  pub cost : ℕ
  pub apart : AreApart rom cert row next cost
  pub rest : ℕ
  pub goes_on : FromThere rest
  pub sum_is : sum ≡ cost + rest

-- from a row of a procedure these rows follow, each coming next after the one before; the last has an exit. The sum
-- adds the costs between them and the cost of that exit
abbrev pub GoesOut : List ℕ → CertificateView → ℕ → ℕ → List ℕ → ℕ → Type 0
GoesOut rom cert proc row [] sum = Belongs cert proc row × CostsToLeave rom cert row sum
GoesOut rom cert proc row (next ∷ rows) sum = Belongs cert proc row × GoesOnTo rom cert row next (GoesOut rom cert proc next rows) sum

-- rows of a procedure from its entry to an exit; for the NMI routine the sum includes the T-states of the acceptance
pub record IsWalk (rom : List ℕ) (cert : CertificateView) (proc : ℕ) (rows : List ℕ) (sum : ℕ) : Type 0 where
  pub procedure : Proc
  pub is : slice_get cert.procs proc ≡ Some procedure
  pub first : ℕ
  pub others : List ℕ
  pub rows_are : rows ≡ first ∷ others
  pub entry : BelongsAt cert proc procedure.entry first
  pub rest : ℕ
  pub goes_out : GoesOut rom cert proc first others rest
  pub sum_is : sum ≡ cost_before procedure.kind + rest

-- no walk has a greater sum than this one; a sum above 4,294,967,295 is given as that number
pub record IsLongestWalk (rom : List ℕ) (cert : CertificateView) (proc told : ℕ) (rows : List ℕ) : Type 0 where
  pub sum : ℕ
  pub walk : IsWalk rom cert proc rows sum
  pub greatest : (others : List ℕ) (other : ℕ) → IsWalk rom cert proc others other → other ≤ sum
  pub told_is : told ≡ min sum 4294967295

-- 0 and no rows, if there is no walk
pub record HasNoWalk (rom : List ℕ) (cert : CertificateView) (proc told : ℕ) : Type 0 where
  pub zero : told ≡ 0
  pub none : (rows : List ℕ) (sum : ℕ) → IsWalk rom cert proc rows sum → ⊥

abbrev pub IsLongest : List ℕ → CertificateView → ℕ → ℕ → List ℕ → Type 0
IsLongest rom cert proc told [] = HasNoWalk rom cert proc told
IsLongest rom cert proc told (first ∷ others) = IsLongestWalk rom cert proc told (first ∷ others)

-- ---- why there is none

pub record HasNoTime (cert : CertificateView) (proc : ℕ) : Type 0 where
  pub procedure : Proc
  pub is : slice_get cert.procs proc ≡ Some procedure
  pub none : procedure.time ≡ None

-- a row may come next after another
pub record MayComeNext (rom : List ℕ) (cert : CertificateView) (from to : ℕ) : Type 0 where
  pub cost : ℕ
  pub lie : LieBetween rom cert from to cost

-- a cycle of rows of a procedure: each may come next after the one before, and the first after the last
pub record GoesRound (rom : List ℕ) (cert : CertificateView) (proc : ℕ) (rows : List ℕ) : Type 0 where
  pub some : 0 < length rows
  pub of : (k : ℕ) → k < length rows → Belongs cert proc (slice_index rows k)
  pub next : (k : ℕ) → k + 1 < length rows → MayComeNext rom cert (slice_index rows k) (slice_index rows (k + 1))
  pub back : MayComeNext rom cert (slice_index rows (length rows - 1)) (slice_index rows 0)

-- a row at an address of a procedure is on a cycle; it does not matter whether the entry leads there
pub record IsOnRound (rom : List ℕ) (cert : CertificateView) (proc address : ℕ) : Type 0 where
  pub rows : List ℕ
  pub round : GoesRound rom cert proc rows
  pub place : ℕ
  pub inside : place < length rows
  pub at : BelongsAt cert proc address (slice_index rows place)

-- the lowest address of a row of a procedure that is on a cycle
pub record IsLowestOnRound (rom : List ℕ) (cert : CertificateView) (proc address : ℕ) : Type 0 where
  pub on : IsOnRound rom cert proc address
  pub lowest : (other : ℕ) → IsOnRound rom cert proc other → address ≤ other
