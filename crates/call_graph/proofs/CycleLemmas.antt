-- Ways of calls, cycles, and the search along the calls.
use Rattle.std.proofs.Common.{◌≡◌, ◌≢◌, ℕ, zero, suc, ◌+◌, ◌-◌, ◌<◌, ◌≤◌, ◌⊎◌, take, inl, inr, sym, ◌∙◌, ap, arith, refl, subst, below_more, List, [], ◌∷◌, ◌++◌, length, get_or, set, true, false, Bool, sum_by, length-append, length-set, get_or-set_other}
use Rattle.std.proofs.Math.ListN.{get_or-append}
use Rattle.std.proofs.Math.Seq.{get_or-append_seam, take-suc}
use Rattle.std.proofs.lemmas.List.{get_or-set_same, take_all}
use Rattle.std.proofs.lemmas.Bool.{cases_eq, cases_lt}
use Rattle.std.proofs.lemmas.List.Sums.{sum_by-set}
use Rattle.call_graph.specs.Calls.{Calls, CallPath, IsCycle, IsLower}
use Rattle.call_graph.specs.Cycle.{Returns, IsShortestFrom, path_to, Traced, PlaceInCycle, Searched, step_proc, step_from, step_far, seen_at, unseen_one, left}
use Rattle.call_graph.specs.Walk.{caller_at, callee_of_edge}
use Rattle.call_graph.proofs.CallLemmas.{numbered}
use Rattle.call_graph.specs.declared.cycle.SearchStep.{SearchStep}
use Rattle.call_graph.specs.declared.edge.Edge.{Edge}

-- p calls the first of the list, each calls the next, and the last is q. For the empty list p is q.
abbrev pub Trail : List Edge → ℕ → List ℕ → ℕ → Type 0
Trail edges p [] q = p ≡ q
Trail edges p (x ∷ xs) q = Calls edges p x × Trail edges x xs q

trail_next : (edges : List Edge) (p : ℕ) (xs : List ℕ) (q : ℕ) → Trail edges p xs q → (i : ℕ) → i < length xs → Calls edges (get_or (p ∷ xs) i 0) (get_or (p ∷ xs) (suc i) 0)
trail_next edges p [] q trail i h = absurd (omega arith)
trail_next edges p (x ∷ xs) q trail zero h = trail.0
trail_next edges p (x ∷ xs) q trail (suc i) h = trail_next edges x xs q trail.1 i (omega arith)

trail_last : (edges : List Edge) (p : ℕ) (xs : List ℕ) (q : ℕ) → Trail edges p xs q → get_or (p ∷ xs) (length xs) 0 ≡ q
trail_last edges p [] q trail = trail
trail_last edges p (x ∷ xs) q trail = trail_last edges x xs q trail.1

-- a trail whose end calls its beginning is a cycle
pub trail_cycle : (edges : List Edge) (p : ℕ) (xs : List ℕ) (q : ℕ) → Trail edges p xs q → Calls edges q p → IsCycle edges (p ∷ xs)
trail_cycle edges p xs q trail call = record {
  some = omega arith;
  next = λ i h. let more : i + 1 ≡ suc i = omega arith in rw more (trail_next edges p xs q trail i (omega arith));
  back = let last : length (p ∷ xs) - 1 ≡ length xs = omega arith in rw (last, trail_last edges p xs q trail) call;
}

-- if all steps up to a distance are done, calls of that number from the start lead to a step that is done
done_way : (edges : List Edge) (start : ℕ) (seen : List Bool) (steps : List SearchStep) (done : ℕ) → Searched edges start seen steps done → (q n : ℕ) →
    ((j : ℕ) → j < length steps → step_far steps j ≤ n → j < done) → CallPath edges start q n → (i : ℕ) × (i < done) × (step_proc steps i ≡ q) × (step_far steps i ≤ n)
done_way edges start seen steps done s q zero all way =
    let near : step_far steps 0 ≡ 0 = s.traced.near in
    (0, all 0 s.traced.some (omega arith), s.traced.start_is ∙ way, omega arith)
done_way edges start seen steps done s q (suc n) all way =
    let z = done_way edges start seen steps done s way.0 n (λ j h l. all j h (omega arith)) way.1 in
    let place = (s.spread z.0 q z.1 (subst (λ x. Calls edges x q) (sym z.2) way.2)).1 in
    let near : step_far steps place.at ≤ step_far steps z.0 + 1 = place.near in
    let before : step_far steps z.0 ≤ n = z.3 in
    let most : step_far steps place.at ≤ suc n = omega arith in
    (place.at, all place.at place.inside most, place.is, most)

-- so no call from such a step leads back to the start
no_return : (edges : List Edge) (start : ℕ) (seen : List Bool) (steps : List SearchStep) (done : ℕ) → Searched edges start seen steps done → (n : ℕ) →
    ((j : ℕ) → j < length steps → step_far steps j ≤ n → j < done) → Returns edges start n → ⊥
no_return edges start seen steps done s n all back =
    let z = done_way edges start seen steps done s back.0 n all back.1 in
    (s.spread z.0 start z.1 (subst (λ x. Calls edges x start) (sym z.2) back.2)).0 refl

-- a search with all steps done found no cycle through the start
pub search_none : (edges : List Edge) (start : ℕ) (seen : List Bool) (steps : List SearchStep) (done : ℕ) → Searched edges start seen steps done → length steps ≤ done →
    (n : ℕ) → Returns edges start n → ⊥
search_none edges start seen steps done s all n back = no_return edges start seen steps done s n (λ j h l. omega arith) back

-- ---- of the shortest cycles, the search finds the lowest
lower_front : (xs ys a b : List ℕ) → IsLower xs ys → IsLower (xs ++ a) (ys ++ b)
lower_front [] ys a b h = absurd h
lower_front (x ∷ xs) [] a b h = absurd h
lower_front (x ∷ xs) (y ∷ ys) a b h = elim h [ inl l ↦ inl l | inr r ↦ inr (r.0, lower_front xs ys a b r.1) ]

lower_last : (xs : List ℕ) (x y : ℕ) → x < y → IsLower (xs ++ x ∷ []) (xs ++ y ∷ [])
lower_last [] x y h = inl h
lower_last (z ∷ xs) x y h = inr (refl, lower_last xs x y h)

-- the way to a step compared with other procedures, the last of which has a place at or after that step
abbrev Compared : List SearchStep → ℕ → ℕ → ℕ → List ℕ → Type 0
Compared steps n i j ws = IsLower (path_to steps n i) ws ⊎ ((path_to steps n i ≡ ws) × (i ≡ j))

-- a procedure of another cycle has a place, and no way to an earlier step at that distance is above the cycle so far
record Reached (steps : List SearchStep) (o : ℕ) (ws : List ℕ) (k : ℕ) : Type 0 where
  at : ℕ
  inside : at < length steps
  is : step_proc steps at ≡ get_or (o ∷ ws) k 0
  near : step_far steps at ≤ k
  compared : (i : ℕ) → i < length steps → i ≤ at → step_far steps i ≡ k → Compared steps k i at (take k ws)

module _ (edges : List Edge) (start : ℕ) (seen : List Bool) (steps : List SearchStep) (done : ℕ) (s : Searched edges start seen steps done) (next : done < length steps) (o : ℕ) (ws : List ℕ) (cycle : IsCycle edges (o ∷ ws)) (first : o ≡ start) (long : length ws ≡ step_far steps done) where
  compared_more : (k i j j' : ℕ) → k < length ws → i < length steps → 0 < i → i ≤ j → j < length steps → step_from steps j ≤ j' → step_proc steps j ≡ get_or ws k 0 → Compared steps k (step_from steps i) j' (take k ws) → Compared steps (suc k) i j (take (suc k) ws)
  compared_more k i j j' short here some upto inside from is old =
      let split = take-suc ws k 0 short in
      let turn : step_from steps i ≤ step_from steps j = s.in_turn i j some upto inside in
      elim old [
        | inl lower ↦ inl (rw split (lower_front (path_to steps k (step_from steps i)) (take k ws) (step_proc steps i ∷ []) (get_or ws k 0 ∷ []) lower))
        | inr same ↦ let at : step_from steps i ≡ j' = same.1 in elim (cases_eq i j) [
          | inl e ↦ inr (
            ap (λ (xs : List ℕ). xs ++ step_proc steps i ∷ []) same.0
                ∙ ap (λ x. take k ws ++ x ∷ []) (ap (step_proc steps) e ∙ is) ∙ sym split,
            e,
          )
          | inr ne ↦
              let less : step_proc steps i < step_proc steps j = s.by_number i j some (omega arith) inside (omega arith) in
              let below : step_proc steps i < get_or ws k 0 = subst (λ x. step_proc steps i < x) is less in
              inl (rw (split, same.0) (lower_last (take k ws) (step_proc steps i) (get_or ws k 0) below))
        ]
      ]

  reached : (k : ℕ) → k ≤ length ws → Reached steps o ws k
  reached zero h = record {
    at = 0;
    inside = s.traced.some;
    is = s.traced.start_is ∙ sym first;
    near = let near : step_far steps 0 ≡ 0 = s.traced.near in omega arith;
    compared = λ i here upto e. inr (refl, let zero_is : i ≡ 0 = omega arith in zero_is);
  }
  reached (suc k) h =
      let before = reached k (omega arith) in
      let near : step_far steps before.at ≤ k = before.near in
      let before_done : before.at < done = elim (cases_lt before.at done) [
        | inl l ↦ l
        | inr l ↦ let up : step_far steps done ≤ step_far steps before.at = s.rising done before.at l before.inside in absurd (omega arith)
      ] in
      let one : k + 1 ≡ suc k = omega arith in
      let call : Calls edges (get_or (o ∷ ws) k 0) (get_or (o ∷ ws) (suc k) 0) = subst (λ m. Calls edges (get_or (o ∷ ws) k 0) (get_or (o ∷ ws) m 0)) one (cycle.next k (omega arith)) in
      let z = s.spread before.at (get_or (o ∷ ws) (suc k) 0) before_done (subst (λ x. Calls edges x (get_or (o ∷ ws) (suc k) 0)) (sym before.is) call) in
      let place = z.1 in
      let closer : step_far steps place.at ≤ step_far steps before.at + 1 = place.near in
      record {
        at = place.at;
        inside = place.inside;
        is = place.is;
        near = omega arith;
        compared = λ i here upto e.
            let some : 0 < i = elim (cases_eq i 0) [
              | inl none ↦ let far : step_far steps 0 ≡ 0 = s.traced.near in let same : step_far steps i ≡ step_far steps 0 = ap (step_far steps) none in absurd (omega arith)
              | inr ne ↦ omega arith
            ] in
            let far : step_far steps i ≡ step_far steps (step_from steps i) + 1 = s.traced.farther i some here in
            let lower : step_from steps i < i = s.traced.earlier i some here in
            let turn : step_from steps i ≤ step_from steps place.at = s.in_turn i place.at some upto place.inside in
            let from : step_from steps place.at ≤ before.at = place.from in
            let so_far : step_far steps (step_from steps i) ≡ k = omega arith in
            compared_more k i place.at before.at (omega arith) here some upto place.inside from place.is
            (before.compared (step_from steps i) (omega arith) (omega arith) so_far);
      }

  lowest_than : (start ∷ path_to steps (step_far steps done) done ≡ o ∷ ws) ⊎ IsLower (start ∷ path_to steps (step_far steps done) done) (o ∷ ws)
  lowest_than =
      let last = reached (length ws) (omega arith) in
      let end : length (o ∷ ws) - 1 ≡ length ws = omega arith in
      let back : Calls edges (step_proc steps last.at) start =
      rw (last.is, sym first) (subst (λ m. Calls edges (get_or (o ∷ ws) m 0) o) end cycle.back) in
      let late : done ≤ last.at = elim (cases_lt last.at done) [
        | inl l ↦ absurd ((s.spread last.at start l back).0 refl)
        | inr l ↦ l
      ] in
      let z = last.compared done next late (sym long) in
      let all : take (length ws) ws ≡ ws = take_all (length ws) ws (omega arith) in
      rw (← long, first) (elim z [
        | inl lower ↦ inr (inr (refl, rw all at lower))
        | inr same ↦ inl (ap (λ xs. start ∷ xs) (same.0 ∙ all))
      ])

search_lowest : (edges : List Edge) (start : ℕ) (seen : List Bool) (steps : List SearchStep) (done : ℕ) → Searched edges start seen steps done → done < length steps → (other : List ℕ) → IsCycle edges other → get_or other 0 0 ≡ start → length other ≡ step_far steps done + 1 →
    (start ∷ path_to steps (step_far steps done) done ≡ other) ⊎ IsLower (start ∷ path_to steps (step_far steps done) done) other
search_lowest edges start seen steps done s next [] cycle first long = absurd (omega (arith, cycle.some))
search_lowest edges start seen steps done s next (o ∷ ws) cycle first long = lowest_than edges start seen steps done s next o ws cycle first (omega arith)

-- the cycle of the first step that calls the start is a shortest one, and the lowest of those
pub search_shortest : (edges : List Edge) (start : ℕ) (seen : List Bool) (steps : List SearchStep) (done : ℕ) (list : List ℕ) → Searched edges start seen steps done →
    done < length steps → IsCycle edges list → get_or list 0 0 ≡ start → length list ≡ step_far steps done + 1 → list ≡ start ∷ path_to steps (step_far steps done) done → IsShortestFrom edges start list
search_shortest edges start seen steps done list s inside cycle first long path = record {
  cycle = cycle;
  first = first;
  lowest = λ other cycle begins same.
      let z = search_lowest edges start seen steps done s inside other cycle begins (same ∙ long) in
      rw path z;
  shortest = λ n back. elim (cases_lt n (step_far steps done)) [
    | inl l ↦ absurd (no_return edges start seen steps done s n (λ j h near. elim (cases_lt j done) [
      | inl x ↦ x
      | inr x ↦ let up : step_far steps done ≤ step_far steps j = s.rising done j x h in absurd (omega arith)
    ]) back)
    | inr l ↦ omega arith
  ];
}

-- the search before its first call
pub search_begun : (edges : List Edge) (start : ℕ) (seen : List Bool) (s : SearchStep) → length seen ≡ 65536 → s.proc ≡ start → s.far ≡ 0 → s.from ≡ 0 →
    ((p : ℕ) → seen_at seen p ≡ true → p ≡ start) → seen_at seen start ≡ true → Searched edges start seen (s ∷ []) 0
search_begun edges start seen s room proc far from only start_seen = record {
  room = room;
  traced = record {
    some = omega arith;
    start_is = proc;
    near = far;
    earlier = λ i a h. absurd (omega arith);
    called = λ i a h. absurd (omega arith);
    low = λ i h. let a : i ≡ 0 = omega arith in rw (a, far) (omega arith);
    farther = λ i a h. absurd (omega arith);
  };
  rising = λ i j l h. let a : i ≡ 0 = omega arith in let b : j ≡ 0 = omega arith in rw (a, b) (omega arith);
  within = λ j h d. let b : j ≡ 0 = omega arith in rw b (omega arith);
  placed = λ p yes. (0, omega arith, proc ∙ sym (only p yes));
  spread = λ i p h. absurd (omega arith);
  marked = λ i h. let a : i ≡ 0 = omega arith in rw (a, proc) start_seen;
  behind = λ i h. let a : i ≡ 0 = omega arith in rw (a, from) (omega arith);
  in_turn = λ i j a l h. absurd (omega arith);
  by_number = λ i j a l h. absurd (omega arith);
}

-- one more step, to p, called from the next step
record Pushed (steps more : List SearchStep) (p done : ℕ) : Type 0 where
  longer : length more ≡ length steps + 1
  old_proc : (i : ℕ) → i < length steps → step_proc more i ≡ step_proc steps i
  old_from : (i : ℕ) → i < length steps → step_from more i ≡ step_from steps i
  old_far : (i : ℕ) → i < length steps → step_far more i ≡ step_far steps i
  new_proc : (i : ℕ) → i ≡ length steps → step_proc more i ≡ p
  new_from : (i : ℕ) → i ≡ length steps → step_from more i ≡ done
  new_far : (i : ℕ) → i ≡ length steps → step_far more i ≡ step_far steps done + 1

pushed : (steps : List SearchStep) (p done : ℕ) → Pushed steps (steps ++ (record { proc = p; from = done; far = step_far steps done + 1 }) ∷ []) p done
pushed steps p done =
    let start : SearchStep = record { proc = 0; from = 0; far = 0 } in
    let s : SearchStep = record { proc = p; from = done; far = step_far steps done + 1 } in
    let old : (i : ℕ) → i < length steps → get_or (steps ++ s ∷ []) i start ≡ get_or steps i start = λ i h. get_or-append steps (s ∷ []) start i h in
    let new : (i : ℕ) → i ≡ length steps → get_or (steps ++ s ∷ []) i start ≡ s = λ i e. ap (λ k. get_or (steps ++ s ∷ []) k start) e ∙ get_or-append_seam steps s [] start in
    record {
      longer = length-append steps (s ∷ []);
      old_proc = λ i h. ap (λ v. v.proc) (old i h);
      old_from = λ i h. ap (λ v. v.from) (old i h);
      old_far = λ i h. ap (λ v. v.far) (old i h);
      new_proc = λ i e. ap (λ v. v.proc) (new i e);
      new_from = λ i e. ap (λ v. v.from) (new i e);
      new_far = λ i e. ap (λ v. v.far) (new i e);
    }

place_stays : (steps more : List SearchStep) (p done q most caller : ℕ) → Pushed steps more p done → PlaceInCycle steps q most caller → PlaceInCycle more q most caller
place_stays steps more p done q most caller add place =
    let longer : length more ≡ length steps + 1 = add.longer in
    let inside : place.at < length steps = place.inside in
    let near : step_far steps place.at ≤ most = place.near in
    let far : step_far more place.at ≡ step_far steps place.at = add.old_far place.at inside in
    let first : step_from steps place.at ≤ caller = place.from in
    let from : step_from more place.at ≡ step_from steps place.at = add.old_from place.at inside in
    record { at = place.at; inside = omega arith; is = add.old_proc place.at inside ∙ place.is; near = omega arith; from = omega arith }

more_traced : (edges : List Edge) (start : ℕ) (steps more : List SearchStep) (p done : ℕ) → Pushed steps more p done → Traced edges start steps → done < length steps →
    Calls edges (step_proc steps done) p → Traced edges start more
more_traced edges start steps more p done add old inside call =
    let longer : length more ≡ length steps + 1 = add.longer in
    let some : 0 < length steps = old.some in
    record {
      some = omega arith;
      start_is = add.old_proc 0 some ∙ old.start_is;
      near = add.old_far 0 some ∙ old.near;
      earlier = λ i a h. elim (cases_eq i (length steps)) [
        | inl e ↦ let from : step_from more i ≡ done = add.new_from i e in omega arith
        | inr ne ↦ let here : i < length steps = omega arith in
            let from : step_from more i ≡ step_from steps i = add.old_from i here in
            let lower : step_from steps i < i = old.earlier i a here in omega arith
      ];
      called = λ i a h. elim (cases_eq i (length steps)) [
        | inl e ↦ rw (add.new_from i e, add.old_proc done inside, add.new_proc i e) call
        | inr ne ↦ let here : i < length steps = omega arith in
            let lower : step_from steps i < i = old.earlier i a here in
            rw (add.old_from i here, add.old_proc (step_from steps i) (omega arith), add.old_proc i here) (old.called i a here)
      ];
      low = λ i h. elim (cases_eq i (length steps)) [
        | inl e ↦ let far : step_far more i ≡ step_far steps done + 1 = add.new_far i e in let low : step_far steps done ≤ done = old.low done inside in omega arith
        | inr ne ↦ let here : i < length steps = omega arith in
            let far : step_far more i ≡ step_far steps i = add.old_far i here in let low : step_far steps i ≤ i = old.low i here in omega arith
      ];
      farther = λ i a h. elim (cases_eq i (length steps)) [
        | inl e ↦ rw (add.new_from i e, add.old_far done inside) (add.new_far i e)
        | inr ne ↦ let here : i < length steps = omega arith in
            let lower : step_from steps i < i = old.earlier i a here in
            rw (add.old_from i here, add.old_far (step_from steps i) (omega arith), add.old_far i here) (old.farther i a here)
      ];
    }

kept_mark : (seen : List Bool) (p q : ℕ) → p < length seen → seen_at seen q ≡ true → seen_at (set seen p true) q ≡ true
kept_mark seen p q inside marked = elim (cases_eq q p) [
  | inl e ↦ rw e (get_or-set_same seen p true false inside)
  | inr ne ↦ get_or-set_other seen p q true false ne ∙ marked
]

more_searched : (edges : List Edge) (start : ℕ) (seen : List Bool) (steps more : List SearchStep) (p done : ℕ) → Pushed steps more p done → Searched edges start seen steps done →
    done < length steps → p < 65536 → Calls edges (step_proc steps done) p →
    ((i : ℕ) → 0 < i → i < length steps → step_from steps i ≡ done → step_proc steps i < p) → Searched edges start (set seen p true) more done
more_searched edges start seen steps more p done add old inside fits call others =
    let longer : length more ≡ length steps + 1 = add.longer in
    let next : step_far more done ≡ step_far steps done = add.old_far done inside in
    let far : (i : ℕ) → i < length more → step_far more i ≤ step_far more done + 1 = λ i h. elim (cases_eq i (length steps)) [
      | inl e ↦ let x : step_far more i ≡ step_far steps done + 1 = add.new_far i e in omega arith
      | inr ne ↦ let here : i < length steps = omega arith in
          let x : step_far more i ≡ step_far steps i = add.old_far i here in
          let y : step_far steps i ≤ step_far steps done + 1 = old.within i here inside in omega arith
    ] in
    let from : (i : ℕ) → i < length more → step_from more i ≤ done = λ i h. elim (cases_eq i (length steps)) [
      | inl e ↦ let x : step_from more i ≡ done = add.new_from i e in omega arith
      | inr ne ↦ let here : i < length steps = omega arith in
          let x : step_from more i ≡ step_from steps i = add.old_from i here in
          let y : step_from steps i ≤ done = old.behind i here in omega arith
    ] in
    record {
      room = length-set seen p true ∙ old.room;
      traced = more_traced edges start steps more p done add old.traced inside call;
      rising = λ i j l h. elim (cases_eq j (length steps)) [
        | inl e ↦ let x : step_far more j ≡ step_far steps done + 1 = add.new_far j e in
            let y : step_far more i ≤ step_far more done + 1 = far i (omega arith) in omega arith
        | inr ne ↦ let here : j < length steps = omega arith in
            let x : step_far more j ≡ step_far steps j = add.old_far j here in
            let y : step_far more i ≡ step_far steps i = add.old_far i (omega arith) in
            let z : step_far steps i ≤ step_far steps j = old.rising i j l here in omega arith
      ];
      within = λ j h d. far j h;
      placed = λ q yes. elim (cases_eq q p) [
        | inl e ↦ (length steps, omega arith, add.new_proc (length steps) refl ∙ sym e)
        | inr ne ↦ let z = old.placed q (sym (get_or-set_other seen p q true false ne) ∙ yes) in
            let here : z.0 < length steps = z.1 in (z.0, omega arith, add.old_proc z.0 here ∙ z.2)
      ];
      spread = λ i q l c.
          let here : i < length steps = omega arith in
          let z = old.spread i q l (subst (λ x. Calls edges x q) (add.old_proc i here) c) in
          (z.0, place_stays steps more p done q (step_far more i + 1) i add (rw (add.old_far i here) z.1));
      marked = λ i h. elim (cases_eq i (length steps)) [
        | inl e ↦ rw (add.new_proc i e) (get_or-set_same seen p true false (let room : length seen ≡ 65536 = old.room in omega arith))
        | inr ne ↦ let here : i < length steps = omega arith in
            rw (add.old_proc i here) (kept_mark seen p (step_proc steps i) (let room : length seen ≡ 65536 = old.room in omega arith) (old.marked i here))
      ];
      behind = from;
      in_turn = λ i j a l h. elim (cases_eq j (length steps)) [
        | inl e ↦ let x : step_from more j ≡ done = add.new_from j e in
            let y : step_from more i ≤ done = from i (omega arith) in omega arith
        | inr ne ↦ let here : j < length steps = omega arith in
            let x : step_from more j ≡ step_from steps j = add.old_from j here in
            let y : step_from more i ≡ step_from steps i = add.old_from i (omega arith) in
            let z : step_from steps i ≤ step_from steps j = old.in_turn i j a l here in omega arith
      ];
      by_number = λ i j a l h same. elim (cases_eq j (length steps)) [
        | inl e ↦ let x : step_from more j ≡ done = add.new_from j e in
            let here : i < length steps = omega arith in
            let y : step_from more i ≡ step_from steps i = add.old_from i here in
            let z : step_proc steps i < p = others i a here (omega arith) in
            rw (add.old_proc i here, add.new_proc j e) z
        | inr ne ↦ let here : j < length steps = omega arith in
            let first : i < length steps = omega arith in
            let x : step_from more j ≡ step_from steps j = add.old_from j here in
            let y : step_from more i ≡ step_from steps i = add.old_from i first in
            let z : step_proc steps i < step_proc steps j = old.by_number i j a l here (omega arith) in
            rw (add.old_proc i first, add.old_proc j here) z
      ];
    }

-- the search goes on to p
pub search_more : (edges : List Edge) (start : ℕ) (seen : List Bool) (steps : List SearchStep) (p done : ℕ) → Searched edges start seen steps done →
    done < length steps → p < 65536 → Calls edges (step_proc steps done) p →
    ((i : ℕ) → 0 < i → i < length steps → step_from steps i ≡ done → step_proc steps i < p) →
    Searched edges start (set seen p true) (steps ++ (record { proc = p; from = done; far = step_far steps done + 1 }) ∷ []) done
search_more edges start seen steps p done old inside fits call others =
    more_searched edges start seen steps (steps ++ (record { proc = p; from = done; far = step_far steps done + 1 }) ∷ []) p done (pushed steps p done) old inside fits call others

pub place_more : (steps : List SearchStep) (p done q most caller : ℕ) → PlaceInCycle steps q most caller → PlaceInCycle (steps ++ (record { proc = p; from = done; far = step_far steps done + 1 }) ∷ []) q most caller
place_more steps p done q most caller place = place_stays steps (steps ++ (record { proc = p; from = done; far = step_far steps done + 1 }) ∷ []) p done q most caller (pushed steps p done) place

pub place_new : (steps : List SearchStep) (p done : ℕ) → PlaceInCycle (steps ++ (record { proc = p; from = done; far = step_far steps done + 1 }) ∷ []) p (step_far steps done + 1) done
place_new steps p done =
    let add = pushed steps p done in
    let far = add.new_far (length steps) refl in
    let longer = add.longer in
    record { at = length steps; inside = rw longer (omega arith); is = add.new_proc (length steps) refl; near = rw far (omega arith); from = rw (add.new_from (length steps) refl) (omega arith) }

-- the next step is done
pub search_done : (edges : List Edge) (start : ℕ) (seen : List Bool) (steps : List SearchStep) (done : ℕ) → Searched edges start seen steps done → done < length steps →
    ((p : ℕ) → Calls edges (step_proc steps done) p → (p ≢ start) × PlaceInCycle steps p (step_far steps done + 1) done) → Searched edges start seen steps (done + 1)
search_done edges start seen steps done old inside all = record {
  room = old.room;
  traced = old.traced;
  rising = old.rising;
  within = λ j h d.
      let x : step_far steps j ≤ step_far steps done + 1 = old.within j h inside in
      let y : step_far steps done ≤ step_far steps (done + 1) = old.rising done (done + 1) (omega arith) d in omega arith;
  placed = old.placed;
  spread = λ i p l c. below_more (λ i. (p : ℕ) → Calls edges (step_proc steps i) p → (p ≢ start) × PlaceInCycle steps p (step_far steps i + 1) i) done (λ i l p c. old.spread i p l c) all i l p c;
  marked = old.marked;
  behind = λ i h. let x : step_from steps i ≤ done = old.behind i h in omega arith;
  in_turn = old.in_turn;
  by_number = old.by_number;
}

-- the same by the indices of the calls: those below this index, and none from it on
pub search_passed : (edges : List Edge) (start : ℕ) (seen : List Bool) (steps : List SearchStep) (done number : ℕ) → Searched edges start seen steps done → done < length steps →
    ((i : ℕ) → i < number → i < length edges → caller_at edges i ≡ step_proc steps done → (callee_of_edge edges i ≢ start) × PlaceInCycle steps (callee_of_edge edges i) (step_far steps done + 1) done) →
    ((i : ℕ) → number ≤ i → i < length edges → caller_at edges i ≢ step_proc steps done) → Searched edges start seen steps (done + 1)
search_passed edges start seen steps done number old inside before from =
    search_done edges start seen steps done old inside (λ p call.
    let e = numbered edges (step_proc steps done) p call in
    elim (cases_lt e.at number) [
      | inl l ↦ subst (λ x. (x ≢ start) × PlaceInCycle steps x (step_far steps done + 1) done) e.callee (before e.at l e.inside e.caller)
      | inr l ↦ absurd (from e.at l e.inside e.caller)
    ])

pub left_more : (seen : List Bool) (steps : List SearchStep) (p : ℕ) (s : SearchStep) → p < length seen → seen_at seen p ≡ false → left (set seen p true) (steps ++ s ∷ []) ≡ left seen steps
left_more seen steps p s inside unseen =
    let written : sum_by unseen_one (set seen p true) + unseen_one (seen_at seen p) ≡ sum_by unseen_one seen + 0 = sum_by-set unseen_one seen p true false inside in
    let one : unseen_one (seen_at seen p) ≡ 1 = ap unseen_one unseen in
    let longer : length (steps ++ s ∷ []) ≡ length steps + 1 = length-append steps (s ∷ []) in
    omega arith
