-- A walk that has seen every caller has an order, or finds the lowest procedure on a cycle. An order excludes cycles.
-- Both depend only on which calls there are.
use Rattle.std.proofs.Common.{◌≡◌, ◌≢◌, ℕ, ◌+◌, ◌-◌, ◌<◌, ◌≤◌, ◌⊎◌, inl, inr, sym, ◌∙◌, ap, arith, zero, suc, List, length, get_or, refl}
use Rattle.std.specs.List.{Contains}
use Rattle.std.specs.List.Sorted.{IsPermutation}
use Rattle.std.proofs.lemmas.Bool.{cases_lt}
use Rattle.std.proofs.lemmas.List.{get_or_default}
use Rattle.std.proofs.lemmas.List.Sorted.{Contains-permutation, IsPermutation-sym}
use Rattle.call_graph.specs.Calls.{Calls, Occurs, CallPath, Reaches, IsCallOrder, IsCycle, IsFaultOf}
use Rattle.call_graph.specs.Cycle.{IsLowestStart}
use Rattle.call_graph.specs.Walk.{WalkState, Kept, ByCaller, IsInGroup, walk_state_of, mark_at, caller_at, callee_of_edge}
use Rattle.call_graph.proofs.CallLemmas.{calls_at, numbered, on_cycle, returns_of}
use Rattle.call_graph.specs.declared.edge.Edge.{Edge}
use Rattle.call_graph.specs.declared.fault.GraphFault.{GraphFault}
use Rattle.call_graph.specs.declared.fault.GraphFault.TheVariants.{Cycle, NoMemory}
use Rattle.call_graph.specs.declared.walk.Visit.{Visit}
use Rattle.call_graph.specs.declared.walk.Mark.{Mark}
use Rattle.call_graph.specs.declared.walk.Mark.TheVariants.{Unseen, Met, Done}

-- the cases of a mark
mark_cases : (m : Mark) → (m ≡ Unseen) ⊎ (((k : ℕ) × (m ≡ Met k)) ⊎ ((k : ℕ) × (m ≡ Done k)))
mark_cases Unseen = inl refl
mark_cases (Met k) = inr (inl (k, refl))
mark_cases (Done k) = inr (inr (k, refl))

-- a number at a place of a list is in the list
pub contains_at : (list : List ℕ) (k p : ℕ) → k < length list → get_or list k 0 ≡ p → Contains list p
contains_at list k p h is = (k, h, get_or_default list k p 0 h ∙ is)

pub place_in : (list : List ℕ) (p : ℕ) → Contains list p → (k : ℕ) × (k < length list) × (get_or list k 0 ≡ p)
place_in list p c = (c.0, c.1, get_or_default list c.0 0 p c.1 ∙ c.2)

-- after the walk every procedure that was seen is in order
in_order : (edges : List Edge) (s : WalkState) → Kept edges s → s.depth ≡ 0 → (p : ℕ) → s.mark p ≢ Unseen → (a : ℕ) × (s.mark p ≡ Done a)
in_order edges s kept empty p seen = elim (mark_cases (s.mark p)) [
  | inl u ↦ absurd (seen u)
  | inr x ↦ elim x [
    | inl y ↦ let z : y.0 < s.size = (kept.stands.met_is p y.0 y.1).0 in let none : s.size ≡ 0 = kept.stands.none empty in absurd (omega arith)
    | inr y ↦ y
  ]
]

-- each caller has a group
caller_group : (edges : List Edge) (s : WalkState) → Kept edges s → s.depth ≡ 0 → ((i : ℕ) → i < length edges → s.mark (caller_at edges i) ≢ Unseen) → (p q : ℕ) → Calls edges p q → (a : ℕ) × (s.mark p ≡ Done a)
caller_group edges s kept empty seen p q call = let e = numbered edges p q call in
    in_order edges s kept empty p (λ u. seen e.at e.inside (ap s.mark e.caller ∙ u))

-- a callee has the same group or an earlier one
callee_group : (edges : List Edge) (s : WalkState) → Kept edges s → (p q a : ℕ) → Calls edges p q → s.mark p ≡ Done a → (b : ℕ) × (s.mark q ≡ Done b) × (b ≤ a)
callee_group edges s kept p q a call is = let e = numbered edges p q call in
    let z = kept.ordered.falls e.at a e.inside (ap s.mark e.caller ∙ is) in
    (z.0, ap s.mark (sym e.callee) ∙ z.1, z.2)

way_group : (edges : List Edge) (s : WalkState) → Kept edges s → (p q a n : ℕ) → CallPath edges p q n → s.mark p ≡ Done a → (b : ℕ) × (s.mark q ≡ Done b) × (b ≤ a)
way_group edges s kept p q a zero way is = (a, ap s.mark (sym way) ∙ is, omega arith)
way_group edges s kept p q a (suc n) way is =
    let z = way_group edges s kept p way.0 a n way.1 is in
    let y = callee_group edges s kept way.0 q z.0 way.2 z.1 in
    let first : z.0 ≤ a = z.2 in let last : y.0 ≤ z.0 = y.2 in (y.0, y.1, omega arith)

-- if no call stays within a group, the order of the groups orders the procedures
pub order_of : (edges : List Edge) (marks : List Mark) (met : List ℕ) (path : List Visit) (order : List ℕ) → Kept edges (walk_state_of marks met path order) → length path ≡ 0 →
    ((i : ℕ) → i < length edges → mark_at marks (caller_at edges i) ≢ Unseen) → ((i : ℕ) → i < length edges → IsInGroup edges marks i → ⊥) → IsCallOrder edges order
order_of edges marks met path order kept empty seen none =
    let s : WalkState = walk_state_of marks met path order in
    let old = kept.ordered in
    let listed : (p a : ℕ) → mark_at marks p ≡ Done a → Contains order p = λ p a is. let z = old.listed p a is in contains_at order z.0 p z.1 z.2 in
    record {
      listed = λ p occurs. elim occurs.1 [
        | inl call ↦ let z = caller_group edges s kept empty seen p occurs.0 call in listed p z.0 z.1
        | inr call ↦ let z = caller_group edges s kept empty seen occurs.0 p call in let y = callee_group edges s kept occurs.0 p z.0 call z.1 in listed p y.0 y.1
      ];
      only = λ p c. let z = place_in order p c in
          let at = old.listed_at z.0 z.1 in
          let is : mark_at marks p ≡ Done at.0 = ap (mark_at marks) (sym z.2) ∙ at.1 in
          elim (kept.stands.known p) [ inl u ↦ absurd cc | inr k ↦ k ];
      once = old.once;
      callees_first = λ i j h l call.
          let p : ℕ = get_or order i 0 in let q : ℕ = get_or order j 0 in
          let a = old.listed_at i h in
          let b = callee_group edges s kept p q a.0 call a.1 in
          let falls : b.0 ≤ a.0 = b.2 in
          elim (cases_lt j i) [
            | inl x ↦ x
            | inr x ↦ let rises : a.0 ≤ b.0 = old.upward i j a.0 b.0 x l a.1 b.1 in
                let same : b.0 ≡ a.0 = omega arith in
                let e = numbered edges p q call in
                absurd (none e.at e.inside (a.0, ap (mark_at marks) e.caller ∙ a.1, ap (mark_at marks) e.callee ∙ (b.1 ∙ ap Done same)))
          ];
    }

-- the caller of the first call that stays within a group is the lowest procedure on a cycle
pub lowest_start : (edges : List Edge) (marks : List Mark) (met : List ℕ) (path : List Visit) (order : List ℕ) (p i : ℕ) → Kept edges (walk_state_of marks met path order) → length path ≡ 0 →
    ((i : ℕ) → i < length edges → mark_at marks (caller_at edges i) ≢ Unseen) → ByCaller edges → i < length edges → caller_at edges i ≡ p → IsInGroup edges marks i →
    ((j : ℕ) → j < i → IsInGroup edges marks j → ⊥) → IsLowestStart edges p
lowest_start edges marks met path order p i kept empty seen rising inside is within before =
    let s : WalkState = walk_state_of marks met path order in
    let q : ℕ = callee_of_edge edges i in
    let back : Reaches edges q p = rw (← is) (kept.ordered.joined q (caller_at edges i) within.0 within.2 within.1) in
    record {
      returns = returns_of edges p q back.0 (calls_at edges i p q inside is refl) back.1;
      lowest = λ list cycle k h.
          let r : ℕ = get_or list k 0 in
          let z = on_cycle edges list cycle k h in
          let a = caller_group edges s kept empty seen r z.0 z.1 in
          let b = callee_group edges s kept r z.0 a.0 z.1 a.1 in
          let c = way_group edges s kept z.0 r b.0 z.2.0 z.2.1 b.1 in
          let one : mark_at marks r ≡ Done a.0 = a.1 in
          let other : mark_at marks r ≡ Done c.0 = c.1 in
          let equal : a.0 ≡ c.0 = cc in
          let falls : b.0 ≤ a.0 = b.2 in let more : c.0 ≤ b.0 = c.2 in
          let same : b.0 ≡ a.0 = omega arith in
          let e = numbered edges r z.0 z.1 in
          let stays : IsInGroup edges marks e.at = (a.0, ap (mark_at marks) e.caller ∙ a.1, ap (mark_at marks) e.callee ∙ (b.1 ∙ ap Done same)) in
          elim (cases_lt e.at i) [
            | inl l ↦ absurd (before e.at l stays)
            | inr l ↦ let up : caller_at edges i ≤ caller_at edges e.at = rising i e.at (record { caller = 0; callee = 0 }) l e.inside in
                let caller : caller_at edges e.at ≡ r = e.caller in omega arith
          ];
    }

-- the same calls in another list
occurs_same : (edges others : List Edge) → ((p q : ℕ) → Calls edges p q → Calls others p q) → (p : ℕ) → Occurs edges p → Occurs others p
occurs_same edges others to p occurs = (occurs.0, elim occurs.1 [ inl call ↦ inl (to p occurs.0 call) | inr call ↦ inr (to occurs.0 p call) ])

pub order_same : (edges others : List Edge) (list : List ℕ) → IsPermutation edges others → IsCallOrder others list → IsCallOrder edges list
order_same edges others list moved order =
    let to : (p q : ℕ) → Calls edges p q → Calls others p q = λ p q call. Contains-permutation edges others (record { caller = p; callee = q }) moved call in
    let from : (p q : ℕ) → Calls others p q → Calls edges p q = λ p q call. Contains-permutation others edges (record { caller = p; callee = q }) (IsPermutation-sym edges others moved) call in
    record {
      listed = λ p occurs. order.listed p (occurs_same edges others to p occurs);
      only = λ p c. occurs_same others edges from p (order.only p c);
      once = order.once;
      callees_first = λ i j h l call. order.callees_first i j h l (to (get_or list i 0) (get_or list j 0) call);
    }

cycle_same : (edges others : List Edge) (list : List ℕ) → IsPermutation edges others → IsCycle edges list → IsCycle others list
cycle_same edges others list moved cycle =
    let to : (p q : ℕ) → Calls edges p q → Calls others p q = λ p q call. Contains-permutation edges others (record { caller = p; callee = q }) moved call in
    record { some = cycle.some; next = λ i h. to _ _ (cycle.next i h); back = to _ _ cycle.back }

pub fault_same : (edges others : List Edge) → IsPermutation edges others → (fault : GraphFault) → IsFaultOf others fault → IsFaultOf edges fault
fault_same edges others moved (Cycle list) fault = record {
  cycle = cycle_same others edges list.items (IsPermutation-sym edges others moved) fault.cycle;
  lowest = λ other cycle. fault.lowest other (cycle_same edges others other moved cycle);
  shortest = λ other cycle. fault.shortest other (cycle_same edges others other moved cycle);
  lowest_read = λ other cycle. fault.lowest_read other (cycle_same edges others other moved cycle);
}
fault_same edges others moved NoMemory h = tt

-- along a cycle the places in an order would fall
descends : (edges : List Edge) (list procs : List ℕ) → IsCallOrder edges list → IsCycle edges procs → (first : ℕ) → first < length list → get_or list first 0 ≡ get_or procs 0 0 →
    (i : ℕ) → i < length procs → (k : ℕ) × (k < length list) × (get_or list k 0 ≡ get_or procs i 0) × (k + i ≤ first)
descends edges list procs order cycle first inside is zero h = (first, inside, is, omega arith)
descends edges list procs order cycle first inside is (suc i) h =
    let before = descends edges list procs order cycle first inside is i (omega arith) in
    let step : i + 1 ≡ suc i = omega arith in
    let call : Calls edges (get_or procs i 0) (get_or procs (suc i) 0) = rw step at (cycle.next i (omega arith)) in
    let place = place_in list (get_or procs (suc i) 0) (order.listed (get_or procs (suc i) 0) (get_or procs i 0, inr call)) in
    let lower : place.0 < before.0 = order.callees_first before.0 place.0 before.1 place.1 (rw (before.2, place.2) call) in
    let far : before.0 + i ≤ first = before.3 in
    (place.0, place.1, place.2, omega arith)

pub no_cycle : (edges : List Edge) (list procs : List ℕ) → IsCallOrder edges list → IsCycle edges procs → ⊥
no_cycle edges list procs order cycle =
    let some : 0 < length procs = cycle.some in
    let last : ℕ = length procs - 1 in
    let place = place_in list (get_or procs 0 0) (order.listed (get_or procs 0 0) (get_or procs last 0, inr cycle.back)) in
    let end = descends edges list procs order cycle place.0 place.1 place.2 last (omega arith) in
    let lower : place.0 < end.0 = order.callees_first end.0 place.0 end.1 place.1 (rw (end.2, place.2) cycle.back) in
    let far : end.0 + last ≤ place.0 = end.3 in
    omega arith
