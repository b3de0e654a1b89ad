-- Invariants of the walk along the calls.
use Rattle.std.specs.Prelude.{◌≡◌, ◌≢◌, ℕ, ◌+◌, ◌-◌, ◌<◌, ◌≤◌, ◌⊎◌, List, length, sum_by, slice_index, slice_index_or, vec_len}
use Rattle.std.specs.List.Sorted.{IsNonDecreasingBy}
use Rattle.call_graph.specs.Calls.{Occurs, Reaches}
use Rattle.call_graph.specs.declared.edge.Edge.{Edge}
use Rattle.call_graph.specs.declared.walk.Visit.{Visit}
use Rattle.call_graph.specs.declared.walk.Walk.{Walk}
use Rattle.call_graph.specs.declared.walk.Mark.{Mark}
use Rattle.call_graph.specs.declared.walk.Mark.TheVariants.{Unseen, Met, Done}

-- the caller and the callee of a call, by its index
abbrev pub caller_at : List Edge → ℕ → ℕ
caller_at edges i = (slice_index_or edges i (record { caller = 0; callee = 0 })).caller

abbrev pub callee_of_edge : List Edge → ℕ → ℕ
callee_of_edge edges i = (slice_index_or edges i (record { caller = 0; callee = 0 })).callee

-- the calls are sorted by caller
abbrev pub ByCaller : List Edge → Type 0
ByCaller edges = IsNonDecreasingBy (λ e. e.caller) edges

-- the calls are sorted by caller, then by callee
pub record ByCall (edges : List Edge) : Type 0 where
  pub by_caller : ByCaller edges
  pub by_callee : (i j : ℕ) → i ≤ j → j < length edges → caller_at edges i ≡ caller_at edges j → callee_of_edge edges i ≤ callee_of_edge edges j

abbrev pub mark_at : List Mark → ℕ → Mark
mark_at marks p = slice_index_or marks p Unseen

abbrev pub frame_at : List Visit → ℕ → Visit
frame_at path k = slice_index_or path k (record { place = 0; next = 0; low = 0 })

-- the state of the walk: the marks; the procedures that are met and not in order; the path; the order
pub record WalkState : Type 0 where
  pub mark : ℕ → Mark
  pub size : ℕ
  pub met : ℕ → ℕ
  pub depth : ℕ
  pub frame : ℕ → Visit
  pub done : ℕ
  pub order : ℕ → ℕ

-- q is in order, or met at this place or later
abbrev pub Settled : (ℕ → Mark) → ℕ → ℕ → Type 0
Settled mark low q = ((a : ℕ) × (mark q ≡ Done a)) ⊎ ((j : ℕ) × (mark q ≡ Met j) × (low ≤ j))

-- the procedure met at j belongs with the procedure at depth k of the path: it was met at that one's place or later,
-- and before the next one on the path
pub record StandsWith (s : WalkState) (k j : ℕ) : Type 0 where
  pub on : k < s.depth
  pub from : (s.frame k).place ≤ j
  pub inside : j < s.size
  pub below : k + 1 < s.depth → j < (s.frame (k + 1)).place

-- The marks agree with what is met, and each procedure on the path calls the next. No call already followed from it, or
-- from those that belong with it, leads to a procedure met before its low place.
pub record Stands (edges : List Edge) (s : WalkState) : Type 0 where
  pub known : (p : ℕ) → (s.mark p ≡ Unseen) ⊎ Occurs edges p
  pub met_at : (i : ℕ) → i < s.size → s.mark (s.met i) ≡ Met i
  pub met_is : (p i : ℕ) → s.mark p ≡ Met i → (i < s.size) × (s.met i ≡ p)
  pub root : 0 < s.depth → (s.frame 0).place ≡ 0
  pub none : s.depth ≡ 0 → s.size ≡ 0
  pub placed : (k : ℕ) → k < s.depth → (s.frame k).place < s.size
  pub rising : (k : ℕ) → k + 1 < s.depth → (s.frame k).place < (s.frame (k + 1)).place
  pub lower : (k : ℕ) → k < s.depth → (s.frame k).low ≤ (s.frame k).place
  pub in_range : (k : ℕ) → k < s.depth → (s.frame k).next ≤ length edges
  pub calls : (k : ℕ) → k + 1 < s.depth →
      ((s.frame k).next < length edges) × (caller_at edges (s.frame k).next ≡ s.met (s.frame k).place) × (callee_of_edge edges (s.frame k).next ≡ s.met (s.frame (k + 1)).place)
  pub ahead : (k i : ℕ) → k < s.depth → (s.frame k).next ≤ i → i < length edges → s.met (s.frame k).place ≤ caller_at edges i
  pub behind : (k i : ℕ) → k < s.depth → i < (s.frame k).next → caller_at edges i ≡ s.met (s.frame k).place → Settled s.mark (s.frame k).low (callee_of_edge edges i)
  pub shut : (k j i : ℕ) → StandsWith s k j → (s.frame k).place < j → i < length edges → caller_at edges i ≡ s.met j → Settled s.mark (s.frame k).low (callee_of_edge edges i)

-- calls lead from a procedure on the path to those that belong with it and back, and to the one at its low place
pub record Leads (edges : List Edge) (s : WalkState) : Type 0 where
  pub forth : (k j : ℕ) → StandsWith s k j → Reaches edges (s.met (s.frame k).place) (s.met j)
  pub round : (k j : ℕ) → StandsWith s k j → Reaches edges (s.met j) (s.met (s.frame k).place)
  pub back : (k : ℕ) → k < s.depth → Reaches edges (s.met (s.frame k).place) (s.met (s.frame k).low)

-- The order has the procedures with a group, each once, by rising groups. No call leads to a higher group. Calls lead
-- from each procedure of a group to each other one.
pub record Ordered (edges : List Edge) (mark : ℕ → Mark) (done : ℕ) (order : ℕ → ℕ) : Type 0 where
  pub below : (p a : ℕ) → mark p ≡ Done a → a < done
  pub listed : (p a : ℕ) → mark p ≡ Done a → (k : ℕ) × (k < done) × (order k ≡ p)
  pub listed_at : (k : ℕ) → k < done → (a : ℕ) × (mark (order k) ≡ Done a)
  pub once : (i j : ℕ) → i < j → j < done → order i ≢ order j
  pub upward : (i j a b : ℕ) → i ≤ j → j < done → mark (order i) ≡ Done a → mark (order j) ≡ Done b → a ≤ b
  pub falls : (i a : ℕ) → i < length edges → mark (caller_at edges i) ≡ Done a → (b : ℕ) × (mark (callee_of_edge edges i) ≡ Done b) × (b ≤ a)
  pub joined : (p q a : ℕ) → mark p ≡ Done a → mark q ≡ Done a → Reaches edges p q

pub record Kept (edges : List Edge) (s : WalkState) : Type 0 where
  pub stands : Stands edges s
  pub leads : Leads edges s
  pub ordered : Ordered edges s.mark s.done s.order

abbrev pub walk_state_of : List Mark → List ℕ → List Visit → List ℕ → WalkState
walk_state_of marks met path order = record {
  mark = mark_at marks;
  size = length met;
  met = slice_index met;
  depth = length path;
  frame = frame_at path;
  done = length order;
  order = slice_index order;
}

-- the invariants of a walk along these calls, with a mark for each of the 65,536 numbers
pub record IsWalkOf (edges : List Edge) (w : Walk) : Type 0 where
  pub kept : Kept edges (walk_state_of w.marks.items w.met.items w.path.items w.order.items)
  pub room : vec_len w.marks ≡ 65536

-- a bound on the work left, which falls with each step: an unseen procedure may lengthen the path by one, and each
-- procedure on the path has calls left
abbrev pub mark_work : ℕ → Mark → ℕ
mark_work count Unseen = count + 2
mark_work count (Met k) = 0
mark_work count (Done k) = 0

abbrev pub frame_work : ℕ → Visit → ℕ
frame_work count f = (count + 1) - f.next

abbrev pub work : List Edge → Walk → ℕ
work edges w = sum_by (mark_work (length edges)) w.marks.items + sum_by (frame_work (length edges)) w.path.items

-- what was seen stays seen
abbrev pub StaysSeen : Walk → Walk → Type 0
StaysSeen v w = (p : ℕ) → mark_at v.marks.items p ≢ Unseen → mark_at w.marks.items p ≢ Unseen

-- the call with this index stays within a group
abbrev pub IsInGroup : List Edge → List Mark → ℕ → Type 0
IsInGroup edges marks i = (a : ℕ) × (mark_at marks (caller_at edges i) ≡ Done a) × (mark_at marks (callee_of_edge edges i) ≡ Done a)

-- the walk has ended and has seen each caller
pub record AreGrouped (edges : List Edge) (w : Walk) : Type 0 where
  pub holds : IsWalkOf edges w
  pub empty : length w.path.items ≡ 0
  pub seen : (i : ℕ) → i < length edges → mark_at w.marks.items (caller_at edges i) ≢ Unseen
