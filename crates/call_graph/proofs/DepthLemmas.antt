-- The loop of the depths, and their definition by calls and by indices.
use Rattle.std.proofs.Common.{◌≡◌, ◌≢◌, ℕ, ◌+◌, ◌*◌, ◌<◌, ◌≤◌, inl, inr, sym, ◌∙◌, ap, arith, subst, suc, below_more, List, [], ◌∷◌, length, get_or, set, slice_index, map, true, false, get_or-set_same, get_or-set_other, length-set}
use Rattle.std.specs.List.{Contains, IsDistinct, AllByRecursion, list_any}
use Rattle.std.specs.List.Sorted.{IsPermutation}
use Rattle.std.proofs.lemmas.List.{get_or_default, get_or-map, length-map}
use Rattle.std.proofs.lemmas.List.Sorted.{Contains-permutation, IsPermutation-sym}
use Rattle.std.proofs.lemmas.Map.Steps.{length-le_from_distinct_below}
use Rattle.std.proofs.lemmas.Bool.{cases_order, cases_eq, ne_eqb, eqb-true, or_cases}
use lib.Dec.{eqb}
use Rattle.call_graph.specs.Calls.{Calls, IsCallOrder}
use Rattle.call_graph.specs.Depths.{ByCaller, Orders, Suffices, AreDepths, HaveBytes, edge_of_call, call_at}
use Rattle.call_graph.specs.declared.depth.Held.{Held}
use Rattle.call_graph.specs.declared.edge.Edge.{Edge}
use Rattle.call_graph.proofs.OrderLemmas.{place_in}

-- distinct numbers below n are at most n
none : (x : ℕ) (xs : List ℕ) → ((j : ℕ) → j < length xs → x ≢ get_or xs j 0) → AllByRecursion (λ y. eqb x y ≡ false) xs
none x [] h = tt
none x (y ∷ ys) h = (ne_eqb x y (h 0 (omega arith)), none x ys (λ j l. h (suc j) (omega arith)))

distinct_list : (xs : List ℕ) → ((i j : ℕ) → i < j → j < length xs → get_or xs i 0 ≢ get_or xs j 0) → IsDistinct eqb xs
unfolding IsDistinct
distinct_list [] h = tt
distinct_list (x ∷ xs) h = (none x xs (λ j l. h 0 (suc j) (omega arith) (omega arith)), distinct_list xs (λ i j l m. h (suc i) (suc j) (omega arith) (omega arith)))

below_list : (n : ℕ) (xs : List ℕ) → ((j : ℕ) → j < length xs → get_or xs j 0 < n) → (q : ℕ) → list_any (eqb q) xs ≡ true → q < n
below_list n [] h q e = absurd cc
below_list n (x ∷ xs) h q e = elim (or_cases (eqb q x) (list_any (eqb q) xs) e) [
  | inl a ↦ let b : x < n = h 0 (omega arith) in let c : q ≡ x = eqb-true q x a in omega arith
  | inr a ↦ below_list n xs (λ j l. h (suc j) (omega arith)) q a
]

pub few : (n : ℕ) (xs : List ℕ) → ((i j : ℕ) → i < j → j < length xs → get_or xs i 0 ≢ get_or xs j 0) → ((j : ℕ) → j < length xs → get_or xs j 0 < n) → length xs ≤ n
few n xs once below = length-le_from_distinct_below xs n (distinct_list xs once) (below_list n xs below)

-- a procedure has one place
pub one_place : (list : List ℕ) (a b : ℕ) → ((i j : ℕ) → i < j → j < length list → slice_index list i ≢ slice_index list j) →
    a < length list → b < length list → slice_index list a ≡ slice_index list b → a ≡ b
one_place list a b once ha hb same = elim (cases_order a b) [
  | inl e ↦ e
  | inr x ↦ elim x [ inl l ↦ absurd (once a b l hb same) | inr l ↦ absurd (once b a l ha (sym same)) ]
]

-- after a call of another caller there is none of this one
pub rest_is_above : (calls : List Held) (proc at : ℕ) → ByCaller calls → at < length calls → proc ≤ (call_at calls at).caller → (call_at calls at).caller ≢ proc →
    (i : ℕ) → at ≤ i → i < length calls → (call_at calls i).caller ≢ proc
rest_is_above calls proc at rising inside low other i l h same =
    let up : (call_at calls at).caller ≤ (call_at calls i).caller = rising at i (record { caller = 0; callee = 0; held = 0 }) l h in
    let differs : (call_at calls at).caller ≢ proc = other in
    omega arith

-- a callee comes before its caller
pub callee_place : (own : List ℕ) (calls : List Held) (list : List ℕ) → Orders own calls list → (k i : ℕ) → k < length list → i < length calls →
    slice_index list k ≡ (call_at calls i).caller → (j : ℕ) × (j < k) × (slice_index list j ≡ (call_at calls i).callee)
callee_place own calls list orders k i hk hi is =
    let z = orders.callees_first i hi in
    let place = z.1.0 in
    let before : z.0 < place = z.1.1.0 in
    let inside : place < length list = z.1.1.1 in
    let callee : slice_index list z.0 ≡ (call_at calls i).callee = z.1.1.2 in
    let caller : slice_index list place ≡ (call_at calls i).caller = z.1.1.3 in
    let same : place ≡ k = one_place list place k orders.once inside hk (caller ∙ sym is) in
    (z.0, omega arith, callee)

-- the call at an index is one of the calls
call_in : (calls : List Held) (i : ℕ) → i < length calls → Contains calls (call_at calls i)
call_in calls i h = (i, h, get_or_default calls i (call_at calls i) (record { caller = 0; callee = 0; held = 0 }) h)

-- the invariant of the loop over the order
pub record Settled (own : List ℕ) (calls : List Held) (list : List ℕ) (index : ℕ) (depths : List ℕ) : Type 0 where
  pub each : length depths ≡ length own
  pub own_bytes : (p : ℕ) → p < length own → slice_index own p ≤ slice_index depths p
  pub held_bytes : (k i : ℕ) → k < index → i < length calls → slice_index list k ≡ (call_at calls i).caller →
      (call_at calls i).held + slice_index depths (call_at calls i).callee ≤ slice_index depths (call_at calls i).caller
  pub least : (depth : ℕ → ℕ) → Suffices own calls depth → (p : ℕ) → p < length own → slice_index depths p ≤ depth p
  pub low : (k : ℕ) → k < index → slice_index depths (slice_index list k) ≤ 4294967296 * (k + 1)

pub settle : (own : List ℕ) (calls : List Held) (list : List ℕ) (index : ℕ) (depths : List ℕ) (p v : ℕ) → Orders own calls list → Settled own calls list index depths →
    index < length list → slice_index list index ≡ p → slice_index own p ≤ v →
    ((i : ℕ) → i < length calls → (call_at calls i).caller ≡ p → (call_at calls i).held + slice_index depths (call_at calls i).callee ≤ v) →
    ((most : ℕ) → slice_index own p ≤ most → ((i : ℕ) → i < length calls → (call_at calls i).caller ≡ p → (call_at calls i).held + slice_index depths (call_at calls i).callee ≤ most) → v ≤ most) →
    ((most : ℕ) → ((i : ℕ) → i < length calls → (call_at calls i).caller ≡ p → slice_index depths (call_at calls i).callee ≤ most) → v ≤ most + 4294967296) →
    Settled own calls list (index + 1) (set depths p v)
settle own calls list index depths p v orders settled inside is own_fits held least low =
    let numbered : p < length own = subst (λ x. x < length own) is (orders.numbered index inside) in
    let room : p < length depths = rw settled.each numbered in
    let same : slice_index (set depths p v) p ≡ v = get_or-set_same depths p v 0 room in
    let other : (q : ℕ) → q ≢ p → slice_index (set depths p v) q ≡ slice_index depths q = λ q ne. get_or-set_other depths p q v 0 ne in
    let earlier : (k : ℕ) → k < index → slice_index list k ≢ p = λ k h e. orders.once k index h inside (e ∙ sym is) in
    record {
      each = length-set depths p v ∙ settled.each;
      own_bytes = λ q h. elim (cases_eq q p) [
        | inl e ↦ rw (e, same) own_fits
        | inr ne ↦ rw (other q ne) (settled.own_bytes q h)
      ];
      held_bytes = λ k i h hi e.
          let in_list : k < length list = omega arith in
          let z = callee_place own calls list orders k i in_list hi e in
          let lower : z.0 < k = z.1 in
          let callee_earlier : (call_at calls i).callee ≢ p = λ x. earlier z.0 (omega arith) (z.2 ∙ x) in
          rw (other (call_at calls i).callee callee_earlier)
          (elim (cases_eq k index) [
            | inl x ↦ let caller : (call_at calls i).caller ≡ p = sym e ∙ (ap (slice_index list) x ∙ is) in rw (caller, same) (held i hi caller)
            | inr ne ↦ let old : k < index = omega arith in rw (other (call_at calls i).caller (λ x. earlier k old (e ∙ x))) (settled.held_bytes k i old hi e)
          ]);
      least = λ depth suffices q h. elim (cases_eq q p) [
        | inl e ↦ rw (e, same) (least (depth p) (suffices.own_bytes p numbered) (λ i hi caller.
            let a : slice_index depths (call_at calls i).callee ≤ depth (call_at calls i).callee = settled.least depth suffices (call_at calls i).callee (orders.callees i hi) in
            let b : (call_at calls i).held + depth (call_at calls i).callee ≤ depth p = subst (λ x. (call_at calls i).held + depth (call_at calls i).callee ≤ depth x) caller (suffices.held_bytes (call_at calls i) (call_in calls i hi)) in
            omega arith))
        | inr ne ↦ rw (other q ne) (settled.least depth suffices q h)
      ];
      low = below_more (λ k. slice_index (set depths p v) (slice_index list k) ≤ 4294967296 * (k + 1)) index
          (λ k h. rw (other (slice_index list k) (earlier k h)) (settled.low k h))
          (rw (is, same) (let x : v ≤ 4294967296 * index + 4294967296 = low (4294967296 * index) (λ i hi caller.
          let z = callee_place own calls list orders index i inside hi (is ∙ sym caller) in
          let lower : z.0 < index = z.1 in
          let y : slice_index depths (slice_index list z.0) ≤ 4294967296 * (z.0 + 1) = settled.low z.0 lower in
          rw (← z.2) (omega arith)) in omega arith));
    }

contains_edge : (calls : List Held) (call : Held) → Contains calls call → Contains (map edge_of_call calls) (edge_of_call call)
contains_edge calls call c = (c.0, rw (length-map calls edge_of_call) c.1, get_or-map edge_of_call calls c.0 call (edge_of_call call) c.1 ∙ ap edge_of_call c.2)

held_at : (calls : List Held) (e : Edge) → Contains (map edge_of_call calls) e → (call : Held) × (Contains calls call × (edge_of_call call ≡ e))
held_at calls e c =
    let none_held : Held = record { caller = 0; callee = 0; held = 0 } in
    let inside : c.0 < length calls = rw (length-map calls edge_of_call) at c.1 in
    let call : Held = get_or calls c.0 none_held in
    (call, ((c.0, inside, get_or_default calls c.0 call none_held inside), sym (get_or-map edge_of_call calls c.0 none_held e inside) ∙ c.2))

-- an order of the edges also orders the calls, which are sorted otherwise
pub orders_from : (own : List ℕ) (calls sorted : List Held) (list : List ℕ) → HaveBytes own calls → IsPermutation calls sorted → IsCallOrder (map edge_of_call calls) list → Orders own sorted list
orders_from own calls sorted list numbered moved order =
    let none_held : Held = record { caller = 0; callee = 0; held = 0 } in
    let call_at : (i : ℕ) → i < length sorted → Contains calls (get_or sorted i none_held) =
    λ i h. Contains-permutation sorted calls (get_or sorted i none_held) (IsPermutation-sym calls sorted moved)
    (i, h, get_or_default sorted i (get_or sorted i none_held) none_held h) in
    record {
      once = order.once;
      numbered = λ k h.
          let occurs = order.only (get_or list k 0) (k, h, get_or_default list k (get_or list k 0) 0 h) in
          elim occurs.1 [
            | inl call ↦ let x = held_at calls _ call in let y = numbered x.0 x.1.0 in
                subst (λ q. q < length own) (ap (λ e. e.caller) x.1.1) y.0
            | inr call ↦ let x = held_at calls _ call in let y = numbered x.0 x.1.0 in
                subst (λ q. q < length own) (ap (λ e. e.callee) x.1.1) y.1
          ];
      callees = λ i h. (numbered (get_or sorted i none_held) (call_at i h)).1;
      callees_first = λ i h.
          let call = get_or sorted i none_held in
          let edge : Calls (map edge_of_call calls) call.caller call.callee = contains_edge calls call (call_at i h) in
          let caller = place_in list call.caller (order.listed call.caller (call.callee, inl edge)) in
          let callee = place_in list call.callee (order.listed call.callee (call.caller, inr edge)) in
          (callee.0, (caller.0, (order.callees_first caller.0 callee.0 caller.1 callee.1 (rw (caller.2, callee.2) edge), caller.1, callee.2, caller.2)));
    }

-- after the last procedure all depths are known
pub settled_all : (own : List ℕ) (calls : List Held) (list : List ℕ) (index : ℕ) (depths : List ℕ) → Orders own calls list → Settled own calls list index depths → length list ≡ index → AreDepths own calls depths
settled_all own calls list index depths orders settled all = record {
  each = settled.each;
  suffice = record {
    own_bytes = settled.own_bytes;
    held_bytes = λ call c.
        let z = orders.callees_first c.0 c.1 in
        let inside : z.1.0 < length list = z.1.1.1 in
        let same : call_at calls c.0 ≡ call = get_or_default calls c.0 (record { caller = 0; callee = 0; held = 0 }) call c.1 ∙ c.2 in
        subst (λ x. x.held + slice_index depths x.callee ≤ slice_index depths x.caller) same (settled.held_bytes z.1.0 c.0 (omega arith) c.1 z.1.1.3);
  };
  least = settled.least;
}

-- depths suffice for the calls in any order
suffices_same : (own : List ℕ) (calls others : List Held) (depth : ℕ → ℕ) → IsPermutation calls others → Suffices own others depth → Suffices own calls depth
suffices_same own calls others depth moved s = record { own_bytes = s.own_bytes; held_bytes = λ call c. s.held_bytes call (Contains-permutation calls others call moved c) }

pub depths_same : (own : List ℕ) (calls sorted : List Held) (list : List ℕ) → IsPermutation calls sorted → AreDepths own sorted list → AreDepths own calls list
depths_same own calls sorted list moved are = record {
  each = are.each;
  suffice = suffices_same own calls sorted (slice_index list) moved are.suffice;
  least = λ depth s. are.least depth (suffices_same own sorted calls depth (IsPermutation-sym calls sorted moved) s);
}
