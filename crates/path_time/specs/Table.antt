-- The table of longest paths, and the invariants while it is filled.
use Rattle.std.specs.Prelude.{ℕ, ◌+◌, ◌*◌, ◌^◌, ◌<◌, ◌≤◌, ◌≡◌, ◌≢◌, ◌⊎◌, if◌then◌else◌, nat_lt, List, [], ◌∷◌, length, Option, Some, None, Contains, slice_get, slice_index, slice_index_or}
use Rattle.call_graph.specs.Calls.{IsLowestCycle}
use Rattle.call_graph.specs.declared.edge.Edge.{Edge}
use Rattle.cert_lines.specs.declared.row.Row.{Row}
use Rattle.cert_form.specs.Contents.{CertificateView}
use Rattle.check_ways.specs.Pays.{LeavesAt}
use Rattle.path_time.specs.Walks.{AreApart, Belongs, CostsToLeave, GoesOut, IsLowestOnRound}
use Rattle.path_time.specs.declared.ahead.Ahead.{Ahead}
use Rattle.path_time.specs.declared.fault.TimeFault.{TimeFault}
use Rattle.path_time.specs.declared.fault.TimeFault.TheVariants.{Cycle, Untimed, NoMemory}
use Rattle.path_time.specs.declared.links.Link.{Link}

-- the path from the row with this number
abbrev pub ahead_at : List (Option Ahead) → ℕ → Option Ahead
ahead_at table row = slice_index_or table row None

-- a sum is at most the sum of the path
abbrev pub IsUpTo : ℕ → Option Ahead → Type 0
IsUpTo sum None = ⊥
IsUpTo sum (Some ahead) = sum ≤ ahead.sum

-- the same path with one more edge before it, to the row `row`, at this cost
abbrev pub one_more : ℕ → ℕ → Option Ahead → Option Ahead
one_more row cost None = None
one_more row cost (Some ahead) = Some (record { sum = ahead.sum + cost; next = Some row; behind = ahead.behind + 1 })

-- the path with the greater sum
abbrev pub longer : Option Ahead → Option Ahead → Option Ahead
longer (Some one) (Some other) = if nat_lt one.sum other.sum then Some other else Some one
longer (Some one) None = Some one
longer None other = other

-- the sums and counts are far from the limits of their types
pub record AreSmall (table : List (Option Ahead)) : Type 0 where
  pub each : (row : ℕ) (ahead : Ahead) → ahead_at table row ≡ Some ahead → (ahead.sum < 2 ^ 63) × (ahead.behind < 2 ^ 31)

-- ---- one row

-- by one of these links
pub record IsByLink (links : List Link) (table : List (Option Ahead)) (best : Option Ahead) : Type 0 where
  pub link : Link
  pub among : Contains links link
  pub low : link.cost < 4294967296
  pub is : best ≡ one_more link.to link.cost (ahead_at table link.to)

-- the best of the paths by these links and of the one before; the table has the paths from the rows to which they lead
pub record IsBest (links : List Link) (table : List (Option Ahead)) (before best : Option Ahead) : Type 0 where
  pub own : (ahead : Ahead) → before ≡ Some ahead → IsUpTo ahead.sum best
  pub each : (link : Link) → Contains links link → (ahead : Ahead) → one_more link.to link.cost (ahead_at table link.to) ≡ Some ahead → IsUpTo ahead.sum best
  pub by : (best ≡ before) ⊎ IsByLink links table best

-- the links from a row
pub record AreLinksFrom (links : List Link) (row : ℕ) (some : List Link) : Type 0 where
  pub only : (link : Link) → Contains some link → Contains links link × (link.from ≡ row)
  pub all : (link : Link) → Contains links link → link.from ≡ row → Contains some link

-- ---- the table

-- the exit of a row, if it has one
abbrev pub IsOwnExit : List ℕ → CertificateView → ℕ → Option Ahead → Type 0
IsOwnExit rom cert row None = (cost : ℕ) → LeavesAt rom cert row cost → ⊥
IsOwnExit rom cert row (Some ahead) = CostsToLeave rom cert row ahead.sum × (ahead.next ≡ None)

-- the table at first: the exits of the rows of a procedure
pub record HasExits (rom : List ℕ) (cert : CertificateView) (proc : ℕ) (table : List (Option Ahead)) : Type 0 where
  pub room : length table ≡ length cert.rows
  pub each : (row : ℕ) → Belongs cert proc row → IsOwnExit rom cert row (ahead_at table row)
  pub only : (row : ℕ) (ahead : Ahead) → ahead_at table row ≡ Some ahead → Belongs cert proc row
  pub low : (row : ℕ) (ahead : Ahead) → ahead_at table row ≡ Some ahead → (ahead.sum < 4294967296) × (ahead.behind ≡ 0)

-- the path from a row leads through another row, whose path is in the table
pub record LeadsThrough (rom : List ℕ) (cert : CertificateView) (table : List (Option Ahead)) (row : ℕ) (ahead : Ahead) : Type 0 where
  pub next : ℕ
  pub next_is : ahead.next ≡ Some next
  pub cost : ℕ
  pub apart : AreApart rom cert row next cost
  pub there : Ahead
  pub there_is : ahead_at table next ≡ Some there
  pub sum_is : ahead.sum ≡ there.sum + cost
  pub behind_is : ahead.behind ≡ there.behind + 1

-- the table has the longest path from a row to an exit
pub record IsAhead (rom : List ℕ) (cert : CertificateView) (proc : ℕ) (table : List (Option Ahead)) (row : ℕ) : Type 0 where
  pub greatest : (rows : List ℕ) (sum : ℕ) → GoesOut rom cert proc row rows sum → IsUpTo sum (ahead_at table row)
  pub leads : (ahead : Ahead) → ahead_at table row ≡ Some ahead → IsOwnExit rom cert row (Some ahead) ⊎ LeadsThrough rom cert table row ahead

-- and from each row of a procedure
pub record IsTable (rom : List ℕ) (cert : CertificateView) (proc : ℕ) (table : List (Option Ahead)) : Type 0 where
  pub room : length table ≡ length cert.rows
  pub each : (row : ℕ) → Belongs cert proc row → IsAhead rom cert proc table row
  pub only : (row : ℕ) (ahead : Ahead) → ahead_at table row ≡ Some ahead → Belongs cert proc row
  pub small : AreSmall table

-- and from each row before this place in the order; the other rows of the procedure have their exits
pub record IsFilled (rom : List ℕ) (cert : CertificateView) (proc : ℕ) (order : List ℕ) (place : ℕ) (table : List (Option Ahead)) : Type 0 where
  pub room : length table ≡ length cert.rows
  pub done : (k : ℕ) → k < place → IsAhead rom cert proc table (slice_index order k)
  pub rest : (row : ℕ) → Belongs cert proc row → ((k : ℕ) → k < place → slice_index order k ≢ row) → IsOwnExit rom cert row (ahead_at table row)
  pub only : (row : ℕ) (ahead : Ahead) → ahead_at table row ≡ Some ahead → Belongs cert proc row
  pub low : (row : ℕ) (ahead : Ahead) → ahead_at table row ≡ Some ahead → (ahead.sum < 4294967296 * (place + 1)) × (ahead.behind ≤ place)

-- ---- along the table

-- these are the rows of a path, as the table has it
abbrev pub FollowsTable : List (Option Ahead) → Option Ahead → List ℕ → Type 0
FollowsTable table None rows = ⊥
FollowsTable table (Some ahead) [] = ahead.next ≡ None
FollowsTable table (Some ahead) (row ∷ rows) = (ahead.next ≡ Some row) × FollowsTable table (ahead_at table row) rows

-- the next row has a path with fewer rows
pub record HasFewer (table : List (Option Ahead)) (row count : ℕ) : Type 0 where
  pub there : Ahead
  pub is : ahead_at table row ≡ Some there
  pub fewer : there.behind < count

-- following the table from here on ends
pub record Ends (table : List (Option Ahead)) (ahead : Ahead) : Type 0 where
  pub first : (row : ℕ) → ahead.next ≡ Some row → HasFewer table row ahead.behind
  pub each : (number : ℕ) (other : Ahead) → ahead_at table number ≡ Some other → (row : ℕ) → other.next ≡ Some row → HasFewer table row other.behind

-- the best of the rows at a procedure's entry, with the T-states before added
pub record IsAheadOfEntry (table : List (Option Ahead)) (start end before : ℕ) (best : Option Ahead) : Type 0 where
  pub each : (row : ℕ) → start ≤ row → row < end → (ahead : Ahead) → one_more row before (ahead_at table row) ≡ Some ahead → IsUpTo ahead.sum best
  pub by : (ahead : Ahead) → best ≡ Some ahead → (row : ℕ) × (start ≤ row) × (row < end) × (Some ahead ≡ one_more row before (ahead_at table row))

-- ---- cycles of rows

-- the address of the lowest row on a cycle of these edges
pub record IsLowestOfEdges (cert : CertificateView) (edges : List Edge) (address : ℕ) : Type 0 where
  pub list : List ℕ
  pub lowest : IsLowestCycle edges list
  pub row : Row
  pub is : slice_get cert.rows (slice_index list 0) ≡ Some row
  pub at : row.address ≡ address

-- why there is no order of the rows
abbrev pub IsOrderFault : CertificateView → List Edge → TimeFault → Type 0
IsOrderFault cert edges (Cycle address) = IsLowestOfEdges cert edges address
IsOrderFault cert edges Untimed = ⊥
IsOrderFault cert edges NoMemory = Unit {0}

-- why there is no table
abbrev pub IsTableFault : List ℕ → CertificateView → ℕ → TimeFault → Type 0
IsTableFault rom cert proc (Cycle address) = IsLowestOnRound rom cert proc address
IsTableFault rom cert proc Untimed = ⊥
IsTableFault rom cert proc NoMemory = Unit {0}
