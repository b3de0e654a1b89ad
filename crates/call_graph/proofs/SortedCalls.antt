-- Sorted calls are sorted by caller, then by callee.
use Rattle.std.proofs.Common.{◌≡◌, ℕ, zero, suc, ◌+◌, ◌-◌, ◌<◌, ◌≤◌, Bool, true, false, cond, ltb, eqb, List, length, get_or, arith, refl, ap, sym, ◌∙◌, is_lt, nat_cmp}
use Rattle.std.specs.Ordering.{ordering_then}
use Rattle.std.specs.declared.cmp.Ordering.TheVariants.{Less, Equal, Greater}
use Rattle.std.proofs.lemmas.Bool.Decides.{nat_tests}
use Rattle.std.proofs.lemmas.List.Sorted.{IsNonDecreasingBy-from_all_adjacent}
use Rattle.call_graph.specs.Walk.{ByCaller, ByCall, caller_at, callee_of_edge}
use Rattle.call_graph.specs.declared.edge.Edge.{Edge}

-- no call is below the one before it
abbrev pub IsSortedCalls : List Edge → Type 0
IsSortedCalls edges = (k : ℕ) (d : Edge) → 0 ≤ k → k + 1 < length edges →
    is_lt (ordering_then (nat_cmp (get_or edges (k + 1) d).caller (get_or edges k d).caller) (nat_cmp (get_or edges (k + 1) d).callee (get_or edges k d).callee)) ≡ false

caller_rises : (a b c d : ℕ) → is_lt (ordering_then (nat_cmp a b) (nat_cmp c d)) ≡ false → b ≤ a
caller_rises a b c d h =
    let at : (t : Bool) → ltb a b ≡ t → is_lt (ordering_then (cond t Less (cond (eqb a b) Equal Greater)) (nat_cmp c d)) ≡ false → b ≤ a = elim [
      | true ↦ λ e k. cc
      | false ↦ λ e k. grind (arith, nat_tests)
    ] in
    at (ltb a b) refl h

callee_rises : (a b c d : ℕ) → is_lt (ordering_then (nat_cmp a b) (nat_cmp c d)) ≡ false → a ≡ b → d ≤ c
callee_rises a b c d h same =
    let at : (s t u : Bool) → ltb a b ≡ s → eqb a b ≡ t → ltb c d ≡ u → is_lt (ordering_then (cond s Less (cond t Equal Greater)) (cond u Less (cond (eqb c d) Equal Greater))) ≡ false → d ≤ c = elim [
      | true ↦ λ t u e f g k. absurd (grind (arith, nat_tests))
      | false ↦ elim [
        | true ↦ elim [
          | true ↦ λ e f g k. cc
          | false ↦ λ e f g k. grind (arith, nat_tests)
        ]
        | false ↦ λ u e f g k. absurd (grind (arith, nat_tests))
      ]
    ] in
    at (ltb a b) (eqb a b) (ltb c d) refl refl refl h

module _ (edges : List Edge) (up : IsSortedCalls edges) where
  callers : ByCaller edges
  callers = IsNonDecreasingBy-from_all_adjacent (λ (e : Edge). e.caller) edges (λ k d h. caller_rises (get_or edges (k + 1) d).caller (get_or edges k d).caller (get_or edges (k + 1) d).callee (get_or edges k d).callee (up k d (omega arith) h))

  callees : (i m : ℕ) → i + m < length edges → caller_at edges i ≡ caller_at edges (i + m) → callee_of_edge edges i ≤ callee_of_edge edges (i + m)
  callees i zero h same = let at : i + 0 ≡ i = omega arith in omega (arith, ap (callee_of_edge edges) at)
  callees i (suc m) h same =
      let none : Edge = record { caller = 0; callee = 0 } in
      let at : i + suc m ≡ i + m + 1 = omega arith in
      let low : caller_at edges i ≤ caller_at edges (i + m) = callers i (i + m) none (omega arith) (omega arith) in
      let high : caller_at edges (i + m) ≤ caller_at edges (i + suc m) = callers (i + m) (i + suc m) none (omega arith) h in
      let before : caller_at edges i ≡ caller_at edges (i + m) = omega arith in
      let last : caller_at edges (i + m + 1) ≡ caller_at edges (i + m) = ap (caller_at edges) (sym at) ∙ sym same ∙ before in
      let rest : callee_of_edge edges i ≤ callee_of_edge edges (i + m) = callees i m (omega arith) before in
      let step : callee_of_edge edges (i + m) ≤ callee_of_edge edges (i + m + 1) = callee_rises (caller_at edges (i + m + 1)) (caller_at edges (i + m)) (callee_of_edge edges (i + m + 1)) (callee_of_edge edges (i + m)) (up (i + m) none (omega arith) (omega arith)) last in
      omega (arith, ap (callee_of_edge edges) at)

  pub sorted_calls : ByCall edges
  sorted_calls = record {
    by_caller = callers;
    by_callee = λ i j le h same.
        let at : i + (j - i) ≡ j = omega arith in
        omega (arith, ap (callee_of_edge edges) at, callees i (j - i) (omega arith) (same ∙ ap (caller_at edges) (sym at)));
  }
