-- Calls by index, ways of calls, and cycles.
use Rattle.std.proofs.Common.{◌≡◌, ℕ, zero, suc, ◌+◌, ◌-◌, ◌<◌, ◌≤◌, inl, inr, sym, ◌∙◌, ap, arith, refl, subst, List, length, get_or}
use Rattle.std.proofs.lemmas.Bool.{cases_eq}
use Rattle.std.proofs.lemmas.List.{get_or_default}
use Rattle.call_graph.specs.Calls.{Calls, CallPath, Reaches, IsCycle, IsLowestCycle}
use Rattle.call_graph.specs.Cycle.{Returns, IsShortestFrom}
use Rattle.call_graph.specs.Walk.{caller_at, callee_of_edge}
use Rattle.call_graph.specs.declared.edge.Edge.{Edge}

-- the call at an index is a call
pub calls_at : (edges : List Edge) (k p q : ℕ) → k < length edges → caller_at edges k ≡ p → callee_of_edge edges k ≡ q → Calls edges p q
calls_at edges k p q h caller callee = (
  k,
  h,
  get_or_default edges k (record { caller = p; callee = q }) (record { caller = 0; callee = 0 }) h
      ∙ (ap (λ v. record { caller = v; callee = callee_of_edge edges k }) caller ∙ ap (λ v. record { caller = p; callee = v }) callee),
)

-- the index of a call
pub record Numbered (edges : List Edge) (p q : ℕ) : Type 0 where
  pub at : ℕ
  pub inside : at < length edges
  pub caller : caller_at edges at ≡ p
  pub callee : callee_of_edge edges at ≡ q

pub numbered : (edges : List Edge) (p q : ℕ) → Calls edges p q → Numbered edges p q
numbered edges p q call =
    let e : Edge = record { caller = p; callee = q } in
    let same : get_or edges call.0 (record { caller = 0; callee = 0 }) ≡ e = get_or_default edges call.0 (record { caller = 0; callee = 0 }) e call.1 ∙ call.2 in
    record { at = call.0; inside = call.1; caller = ap (λ x. x.caller) same; callee = ap (λ x. x.callee) same }

pub reaches_self : (edges : List Edge) (p : ℕ) → Reaches edges p p
reaches_self edges p = (0, refl)

pub reaches_call : (edges : List Edge) (p q : ℕ) → Calls edges p q → Reaches edges p q
reaches_call edges p q call = (1, (p, refl, call))

-- along a cycle, calls lead from each procedure to each later one
pub way_along : (edges : List Edge) (list : List ℕ) → IsCycle edges list → (i n j : ℕ) → i + n ≡ j → j < length list → CallPath edges (get_or list i 0) (get_or list j 0) n
way_along edges list cycle i zero j is h = ap (λ k. get_or list k 0) (let same : i ≡ j = omega arith in same)
way_along edges list cycle i (suc n) j is h =
    let last : (i + n) + 1 ≡ j = omega arith in
    let call : Calls edges (get_or list (i + n) 0) (get_or list j 0) = subst (λ k. Calls edges (get_or list (i + n) 0) (get_or list k 0)) last (cycle.next (i + n) (omega arith)) in
    (get_or list (i + n) 0, way_along edges list cycle i n (i + n) refl (omega arith), call)

-- a cycle leads back to its first procedure
pub cycle_returns : (edges : List Edge) (list : List ℕ) → IsCycle edges list → Returns edges (get_or list 0 0) (length list - 1)
cycle_returns edges list cycle =
    let some : 0 < length list = cycle.some in
    let last : ℕ = length list - 1 in
    (get_or list last 0, way_along edges list cycle 0 last last (omega arith) (omega arith), cycle.back)

-- ways can be joined
pub way_join : (edges : List Edge) (p q r m n : ℕ) → CallPath edges p q m → CallPath edges q r n → (k : ℕ) × CallPath edges p r k
way_join edges p q r m zero a b = (m, subst (λ x. CallPath edges p x m) b a)
way_join edges p q r m (suc n) a b = let z = way_join edges p q b.0 m n a b.1 in (suc z.0, (b.0, z.1, b.2))

pub reaches_join : (edges : List Edge) (p q r : ℕ) → Reaches edges p q → Reaches edges q r → Reaches edges p r
reaches_join edges p q r a b = way_join edges p q r a.0 b.0 a.1 b.1

-- each procedure of a cycle calls one from which calls lead back
pub on_cycle : (edges : List Edge) (list : List ℕ) → IsCycle edges list → (i : ℕ) → i < length list →
    (x : ℕ) × Calls edges (get_or list i 0) x × Reaches edges x (get_or list i 0)
on_cycle edges list cycle i h =
    let some : 0 < length list = cycle.some in
    let last : ℕ = length list - 1 in
    let below : last < length list = omega arith in
    let start : CallPath edges (get_or list 0 0) (get_or list i 0) i = way_along edges list cycle 0 i i (omega arith) h in
    elim (cases_eq i last) [
      | inl e ↦ (get_or list 0 0, subst (λ k. Calls edges (get_or list k 0) (get_or list 0 0)) (sym e) cycle.back, (i, start))
      | inr ne ↦
          let more : i + 1 < length list = omega arith in
          let rest : CallPath edges (get_or list (i + 1) 0) (get_or list last 0) (last - (i + 1)) = way_along edges list cycle (i + 1) (last - (i + 1)) last (omega arith) below in
          let round : CallPath edges (get_or list (i + 1) 0) (get_or list 0 0) (suc (last - (i + 1))) = (get_or list last 0, rest, cycle.back) in
          (get_or list (i + 1) 0, cycle.next i more, way_join edges (get_or list (i + 1) 0) (get_or list 0 0) (get_or list i 0) (suc (last - (i + 1))) i round start)
    ]

-- if p calls one from which calls lead to p, calls lead from p back to p
pub returns_of : (edges : List Edge) (p x n : ℕ) → Calls edges p x → CallPath edges x p n → (m : ℕ) × Returns edges p m
returns_of edges p x zero call way = (0, (p, refl, subst (λ y. Calls edges p y) way call))
returns_of edges p x (suc n) call way =
    let first : CallPath edges p x 1 = (p, refl, call) in
    let z = way_join edges p x way.0 1 n first way.1 in
    (z.0, (way.0, z.1, way.2))

-- a shortest cycle through the lowest procedure on any cycle
pub lowest_of : (edges : List Edge) (start : ℕ) (list : List ℕ) → IsShortestFrom edges start list →
    ((other : List ℕ) → IsCycle edges other → (i : ℕ) → i < length other → start ≤ get_or other i 0) → IsLowestCycle edges list
lowest_of edges start list s lowest = record {
  cycle = s.cycle;
  lowest = λ other cycle i h. rw s.first (lowest other cycle i h);
  shortest = λ other cycle same.
      let some : 0 < length other = cycle.some in
      let back : Returns edges start (length other - 1) = subst (λ p. Returns edges p (length other - 1)) (same ∙ s.first) (cycle_returns edges other cycle) in
      let short : length list ≤ (length other - 1) + 1 = s.shortest (length other - 1) back in omega arith;
  lowest_read = λ other cycle same long. s.lowest other cycle (same ∙ s.first) long;
}
