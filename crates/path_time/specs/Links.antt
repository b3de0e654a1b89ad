-- The links between the rows of a procedure, and how they are gathered.
use Rattle.std.specs.Prelude.{ℕ, ◌<◌, ◌≤◌, ◌≡◌, ◌⊎◌, List, Option, Some, None, Contains, length, slice_get}
use Rattle.abs_step.specs.declared.next.Next.{Next}
use Rattle.abs_step.specs.declared.next.NextKind.{NextKind}
use Rattle.abs_step.specs.declared.next.NextKind.TheVariants.{Jump, Call, Exit}
use Rattle.call_graph.specs.declared.edge.Edge.{Edge}
use Rattle.cert_lines.specs.declared.row.Row.{Row}
use Rattle.cert_form.specs.Contents.{CertificateView}
use Rattle.check_ways.specs.Ways.{SubjectView, behind_of}
use Rattle.path_time.specs.Walks.{AreApart, Belongs, MayComeNext}
use Rattle.path_time.specs.declared.links.Link.{Link}

-- a link leads from a row to another
abbrev pub HasLink : List Link → ℕ → ℕ → Type 0
HasLink links from to = (cost : ℕ) × Contains links (record { from = from; to = to; cost = cost })

-- a link has the T-states between its rows
abbrev pub IsLink : List ℕ → CertificateView → Link → Type 0
IsLink rom cert link = AreApart rom cert link.from link.to link.cost

-- the links from the rows of a procedure: at least one from each row to each that may come next
pub record AreLinks (rom : List ℕ) (cert : CertificateView) (proc : ℕ) (links : List Link) : Type 0 where
  pub only : (link : Link) → Contains links link → Belongs cert proc link.from × IsLink rom cert link
  pub all : (from to : ℕ) → Belongs cert proc from → MayComeNext rom cert from to → HasLink links from to

-- links lead from rows of the certificate
pub record HaveRows (cert : CertificateView) (links : List Link) : Type 0 where
  pub each : (link : Link) → Contains links link → link.from < length cert.rows

-- links from a row were added: at least one to each of those rows that may come next
pub record Added (rom : List ℕ) (cert : CertificateView) (from : ℕ) (Among : ℕ → Type 0) (old new : List Link) : Type 0 where
  pub kept : (link : Link) → Contains old link → Contains new link
  pub only : (link : Link) → Contains new link → Contains old link ⊎ ((link.from ≡ from) × IsLink rom cert link)
  pub all : (to : ℕ) → Among to → MayComeNext rom cert from to → HasLink new from to

-- the rows from `start` to below `end`
abbrev pub IsWithin : ℕ → ℕ → ℕ → Type 0
IsWithin start end number = (start ≤ number) × (number < end)

-- where a successor leads within its procedure; for a call that is the address after it
abbrev pub arrival_by : SubjectView → Next → NextKind → Option ℕ
arrival_by s next Jump = Some next.address
arrival_by s next Call = Some (behind_of s.decoded s.row.address)
arrival_by s next Exit = None

abbrev pub arrival_of : SubjectView → Next → Option ℕ
arrival_of s next = arrival_by s next next.kind

-- a row is where a successor leads
pub record IsArrival (s : SubjectView) (next : Next) (number : ℕ) : Type 0 where
  pub row : Row
  pub is : slice_get s.cert.rows number ≡ Some row
  pub of : row.proc ≡ s.row.proc
  pub at : arrival_of s next ≡ Some row.address

-- a row is where one of the successors leads
pub record IsArrivalOfSome (s : SubjectView) (nexts : List Next) (number : ℕ) : Type 0 where
  pub next : Next
  pub among : Contains nexts next
  pub is : IsArrival s next number

-- every row has this property
abbrev pub IsAny : ℕ → Type 0
IsAny number = Unit {0}

-- the link without its cost
abbrev pub edge_of_link : Link → Edge
edge_of_link link = record { caller = link.from; callee = link.to }
