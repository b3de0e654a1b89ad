-- A procedure leaves the path: it joins the one before it, or it is put in order as a group.
use Rattle.std.proofs.Common.{◌≡◌, ◌≢◌, ℕ, suc, zero, ◌+◌, ◌-◌, ◌<◌, ◌≤◌, ◌⊎◌, min, inl, inr, sym, ◌∙◌, ap, arith, subst, List, length}
use Rattle.std.proofs.lemmas.Bool.{cases_eq, cases_lt}
use Rattle.call_graph.specs.Calls.{Reaches}
use Rattle.call_graph.specs.Walk.{WalkState, Settled, StandsWith, Stands, Ordered, Kept, caller_at, callee_of_edge}
use Rattle.call_graph.specs.declared.edge.Edge.{Edge}
use Rattle.call_graph.specs.declared.walk.Visit.{Visit}
use Rattle.call_graph.specs.declared.walk.Mark.TheVariants.{Met, Done}
use Rattle.call_graph.proofs.CallLemmas.{calls_at, reaches_call, reaches_join}
use Rattle.call_graph.proofs.WalkLemmas.{settled_low}

-- a procedure on the path calls the next
path_call : (edges : List Edge) (s : WalkState) → Kept edges s → (k : ℕ) → k + 1 < s.depth → Reaches edges (s.met (s.frame k).place) (s.met (s.frame (k + 1)).place)
path_call edges s kept k h = let z = kept.stands.calls k h in reaches_call edges _ _ (calls_at edges (s.frame k).next _ _ z.0 z.1 z.2)

-- calls lead from each procedure met before the next one on the path to this one
reach_up : (edges : List Edge) (s : WalkState) → Kept edges s → (k j : ℕ) → k < s.depth → j < s.size → (k + 1 < s.depth → j < (s.frame (k + 1)).place) →
    Reaches edges (s.met j) (s.met (s.frame k).place)
reach_up edges s kept zero j h inside below =
    let root : (s.frame 0).place ≡ 0 = kept.stands.root h in
    kept.leads.round 0 j (record { on = h; from = omega arith; inside = inside; below = below })
reach_up edges s kept (suc k) j h inside below =
    let next : k + 1 ≡ suc k = omega arith in
    let same : (s.frame (k + 1)).place ≡ (s.frame (suc k)).place = ap (λ x. (s.frame x).place) next in
    elim (cases_lt j (s.frame (suc k)).place) [
      | inl l ↦ let first = reach_up edges s kept k j (omega arith) inside (λ m. omega arith) in
          reaches_join edges (s.met j) (s.met (s.frame k).place) (s.met (s.frame (suc k)).place) first
          (subst (λ x. Reaches edges (s.met (s.frame k).place) (s.met (s.frame x).place)) next (path_call edges s kept k (omega arith)))
      | inr l ↦ kept.leads.round (suc k) j (record { on = h; from = l; inside = inside; below = below })
    ]

-- the last procedure on the path joins the one before it, which gets the lower of both low places
pub merge_kept : (edges : List Edge) (s : WalkState) (n m : ℕ) (frame' : ℕ → Visit) → Kept edges s → n + 1 ≡ s.depth → m + 1 ≡ n →
    ((i : ℕ) → i < length edges → caller_at edges i ≡ s.met (s.frame n).place → i < (s.frame n).next) → (s.frame n).low < (s.frame n).place →
    ((k : ℕ) → k < m → frame' k ≡ s.frame k) →
    frame' m ≡ record { place = (s.frame m).place; next = (s.frame m).next; low = min (s.frame m).low (s.frame n).low } → Kept edges (record s { depth = n; frame = frame' })
merge_kept edges s n m frame' kept last before_last done low other new =
    let t : WalkState = record s { depth = n; frame = frame' } in
    let here : n < s.depth = omega arith in
    let up : (s.frame (m + 1)).place ≡ (s.frame n).place = ap (λ x. (s.frame x).place) before_last in
    let rises : (s.frame m).place < (s.frame n).place = (let x : (s.frame m).place < (s.frame (m + 1)).place = kept.stands.rising m (omega arith) in omega arith) in
    let cases : (k : ℕ) → k < n → (k ≡ m) ⊎ (k < m) = λ k h. elim (cases_eq k m) [ inl e ↦ inl e | inr ne ↦ inr (omega arith) ] in
    let place : (k : ℕ) → k < n → (frame' k).place ≡ (s.frame k).place = λ k h. elim (cases k h) [
      | inl e ↦ ap (λ x. (frame' x).place) e ∙ (ap (λ f. f.place) new ∙ ap (λ x. (s.frame x).place) (sym e))
      | inr l ↦ ap (λ f. f.place) (other k l)
    ] in
    let next : (k : ℕ) → k < n → (frame' k).next ≡ (s.frame k).next = λ k h. elim (cases k h) [
      | inl e ↦ ap (λ x. (frame' x).next) e ∙ (ap (λ f. f.next) new ∙ ap (λ x. (s.frame x).next) (sym e))
      | inr l ↦ ap (λ f. f.next) (other k l)
    ] in
    let low_new : (k : ℕ) → k ≡ m → (frame' k).low ≡ min (s.frame m).low (s.frame n).low = λ k e. ap (λ x. (frame' x).low) e ∙ ap (λ f. f.low) new in
    let low_old : (k : ℕ) → k < m → (frame' k).low ≡ (s.frame k).low = λ k l. ap (λ f. f.low) (other k l) in
    let under : (k : ℕ) → k < n → (frame' k).low ≤ (s.frame k).low = λ k h. elim (cases k h) [
      | inl e ↦ let x : (frame' k).low ≡ min (s.frame m).low (s.frame n).low = low_new k e in let y : (s.frame k).low ≡ (s.frame m).low = ap (λ x. (s.frame x).low) e in omega arith
      | inr l ↦ let x : (frame' k).low ≡ (s.frame k).low = low_old k l in omega arith
    ] in
    let under_last : (k : ℕ) → k ≡ m → (frame' k).low ≤ (s.frame n).low = λ k e. let x : (frame' k).low ≡ min (s.frame m).low (s.frame n).low = low_new k e in omega arith in
    let weak : (k q : ℕ) → k < n → Settled s.mark (s.frame k).low q → Settled s.mark (frame' k).low q = λ k q h x. settled_low s.mark (s.frame k).low (frame' k).low q (under k h) x in
    let weak_last : (k q : ℕ) → k ≡ m → Settled s.mark (s.frame n).low q → Settled s.mark (frame' k).low q = λ k q e x. settled_low s.mark (s.frame n).low (frame' k).low q (under_last k e) x in
    let proc : (k : ℕ) → k < n → s.met (frame' k).place ≡ s.met (s.frame k).place = λ k h. ap s.met (place k h) in
    let covers : (k j : ℕ) → StandsWith t k j → (k ≡ m → j < (s.frame n).place) → StandsWith s k j = λ k j c small.
    let on : k < n = c.on in
    let x : (frame' k).place ≡ (s.frame k).place = place k on in
    let y : (frame' k).place ≤ j = c.from in
    record {
      on = omega arith;
      from = omega arith;
      inside = c.inside;
      below = λ l. elim (cases k on) [
        | inl e ↦ let z : (s.frame (k + 1)).place ≡ (s.frame (m + 1)).place = ap (λ x. (s.frame (x + 1)).place) e in let w : j < (s.frame n).place = small e in omega arith
        | inr l ↦ let more : k + 1 < n = omega arith in
            let z : (frame' (k + 1)).place ≡ (s.frame (k + 1)).place = place (k + 1) more in let w : j < (frame' (k + 1)).place = c.below more in omega arith
      ];
    } in
    let covers_last : (j : ℕ) → (s.frame n).place ≤ j → j < s.size → StandsWith s n j = λ j from inside. record { on = here; from = from; inside = inside; below = λ l. absurd (omega arith) } in
    let down : Reaches edges (s.met (s.frame m).place) (s.met (s.frame n).place) =
    subst (λ x. Reaches edges (s.met (s.frame m).place) (s.met (s.frame x).place)) before_last (path_call edges s kept m (omega arith)) in
    let placed_last : (s.frame n).place < s.size = kept.stands.placed n here in
    let low_up : Reaches edges (s.met (s.frame n).low) (s.met (s.frame m).place) = reach_up edges s kept m (s.frame n).low (omega arith) (omega arith) (λ l. omega arith) in
    let up_again : Reaches edges (s.met (s.frame n).place) (s.met (s.frame m).place) = reaches_join edges _ _ _ (kept.leads.back n here) low_up in
    record {
      stands = record {
        known = kept.stands.known;
        met_at = kept.stands.met_at;
        met_is = kept.stands.met_is;
        root = λ h. place 0 h ∙ kept.stands.root (omega arith);
        none = λ e. absurd (omega arith);
        placed = λ k h. let x : (frame' k).place ≡ (s.frame k).place = place k h in let y : (s.frame k).place < s.size = kept.stands.placed k (omega arith) in omega arith;
        rising = λ k h. let x : (frame' k).place ≡ (s.frame k).place = place k (omega arith) in let y : (frame' (k + 1)).place ≡ (s.frame (k + 1)).place = place (k + 1) h in
            let z : (s.frame k).place < (s.frame (k + 1)).place = kept.stands.rising k (omega arith) in omega arith;
        lower = λ k h. let x : (frame' k).place ≡ (s.frame k).place = place k h in let y : (frame' k).low ≤ (s.frame k).low = under k h in
            let z : (s.frame k).low ≤ (s.frame k).place = kept.stands.lower k (omega arith) in omega arith;
        in_range = λ k h. let x : (frame' k).next ≡ (s.frame k).next = next k h in let y : (s.frame k).next ≤ length edges = kept.stands.in_range k (omega arith) in omega arith;
        calls = λ k h. let l : k < n = omega arith in let z = kept.stands.calls k (omega arith) in rw (next k l, proc k l, proc (k + 1) h) z;
        ahead = λ k i h l is. let x : (frame' k).next ≡ (s.frame k).next = next k h in let y : s.met (frame' k).place ≡ s.met (s.frame k).place = proc k h in
            let a : (s.frame k).next ≤ i = omega arith in let z : s.met (s.frame k).place ≤ caller_at edges i = kept.stands.ahead k i (omega arith) a is in omega arith;
        behind = λ k i h l is. let x : (frame' k).next ≡ (s.frame k).next = next k h in let a : i < (s.frame k).next = omega arith in
            weak k (callee_of_edge edges i) h (kept.stands.behind k i (omega arith) a (is ∙ proc k h));
        shut = λ k j i c h l is. let on : k < n = c.on in let x : (frame' k).place ≡ (s.frame k).place = place k on in let a : (s.frame k).place < j = omega arith in
            elim (cases k on) [
              | inr less ↦ weak k (callee_of_edge edges i) on (kept.stands.shut k j i (covers k j c (λ e. absurd (omega arith))) a l is)
              | inl e ↦ elim (cases_lt j (s.frame n).place) [
                | inl small ↦ weak k (callee_of_edge edges i) on (kept.stands.shut k j i (covers k j c (λ e. small)) a l is)
                | inr big ↦ elim (cases_eq j (s.frame n).place) [
                  | inl same ↦ let caller : caller_at edges i ≡ s.met (s.frame n).place = is ∙ ap s.met same in
                      weak_last k (callee_of_edge edges i) e (kept.stands.behind n i here (done i l caller) caller)
                  | inr ne ↦ weak_last k (callee_of_edge edges i) e (kept.stands.shut n j i (covers_last j big c.inside) (omega arith) l is)
                ]
              ]
            ];
      };
      leads = record {
        forth = λ k j c. let on : k < n = c.on in elim (cases k on) [
          | inr less ↦ rw (proc k on) (kept.leads.forth k j (covers k j c (λ e. absurd (omega arith))))
          | inl e ↦ elim (cases_lt j (s.frame n).place) [
            | inl small ↦ rw (proc k on) (kept.leads.forth k j (covers k j c (λ e. small)))
            | inr big ↦ rw (proc k on) (subst (λ x. Reaches edges (s.met (s.frame x).place) (s.met j)) (sym e)
                (reaches_join edges _ _ _ down (kept.leads.forth n j (covers_last j big c.inside))))
          ]
        ];
        round = λ k j c. let on : k < n = c.on in elim (cases k on) [
          | inr less ↦ rw (proc k on) (kept.leads.round k j (covers k j c (λ e. absurd (omega arith))))
          | inl e ↦ elim (cases_lt j (s.frame n).place) [
            | inl small ↦ rw (proc k on) (kept.leads.round k j (covers k j c (λ e. small)))
            | inr big ↦ rw (proc k on) (subst (λ x. Reaches edges (s.met j) (s.met (s.frame x).place)) (sym e)
                (reaches_join edges _ _ _ (kept.leads.round n j (covers_last j big c.inside)) up_again))
          ]
        ];
        back = λ k h. elim (cases k h) [
          | inr less ↦ rw (proc k h, low_old k less) (kept.leads.back k (omega arith))
          | inl e ↦ elim (cases_lt (s.frame m).low (s.frame n).low) [
            | inl l ↦ let x : (frame' k).low ≡ (s.frame k).low = (let y : (frame' k).low ≡ min (s.frame m).low (s.frame n).low = low_new k e in
                let z : (s.frame k).low ≡ (s.frame m).low = ap (λ x. (s.frame x).low) e in omega arith) in rw (proc k h, x) (kept.leads.back k (omega arith))
            | inr l ↦ let x : (frame' k).low ≡ (s.frame n).low = (let y : (frame' k).low ≡ min (s.frame m).low (s.frame n).low = low_new k e in omega arith) in
                rw (proc k h, x) (subst (λ x. Reaches edges (s.met (s.frame x).place) (s.met (s.frame n).low)) (sym e)
                (reaches_join edges _ _ _ down (kept.leads.back n here)))
          ]
        ];
      };
      ordered = kept.ordered;
    }

rises : (edges : List Edge) (s : WalkState) → Stands edges s → (k j : ℕ) → k < j → j < s.depth → (s.frame k).place < (s.frame j).place
rises edges s stands k zero l h = absurd (omega arith)
rises edges s stands k (suc j) l h =
    let next : j + 1 ≡ suc j = omega arith in
    let same : (s.frame (j + 1)).place ≡ (s.frame (suc j)).place = ap (λ x. (s.frame x).place) next in
    let step : (s.frame j).place < (s.frame (j + 1)).place = stands.rising j (omega arith) in
    elim (cases_eq k j) [
      | inl e ↦ let x : (s.frame k).place ≡ (s.frame j).place = ap (λ x. (s.frame x).place) e in omega arith
      | inr ne ↦ let x : (s.frame k).place < (s.frame j).place = rises edges s stands k j (omega arith) (omega arith) in omega arith
    ]

-- the procedures met at this place or later are put in order, in a group
pub record Closed (s t : WalkState) (n place : ℕ) : Type 0 where
  pub marks : (q : ℕ) → ((i : ℕ) × (place ≤ i) × (i < s.size) × (s.met i ≡ q) × (t.mark q ≡ Done s.done)) ⊎ ((t.mark q ≡ s.mark q) × ((i : ℕ) → place ≤ i → i < s.size → s.met i ≢ q))
  pub size : t.size ≡ place
  pub met : (i : ℕ) → i < place → t.met i ≡ s.met i
  pub depth : t.depth ≡ n
  pub frame : (k : ℕ) → k < n → t.frame k ≡ s.frame k
  pub done : t.done + place ≡ s.done + s.size
  pub order_old : (k : ℕ) → k < s.done → t.order k ≡ s.order k
  pub order_new : (k i : ℕ) → s.done ≤ k → k + place ≡ s.done + i → i < s.size → t.order k ≡ s.met i

-- the marks before
record Was (s t : WalkState) (place : ℕ) : Type 0 where
  done_mark : (q a : ℕ) → s.mark q ≡ Done a → t.mark q ≡ Done a
  met_mark : (q i : ℕ) → s.mark q ≡ Met i → i < place → t.mark q ≡ Met i
  gone : (q i : ℕ) → s.mark q ≡ Met i → place ≤ i → t.mark q ≡ Done s.done
  was_met : (q i : ℕ) → t.mark q ≡ Met i → (s.mark q ≡ Met i) × (i < place)
  was_done : (q a : ℕ) → t.mark q ≡ Done a → (s.mark q ≡ Done a) ⊎ ((i : ℕ) × (place ≤ i) × (i < s.size) × (s.met i ≡ q) × (a ≡ s.done))

was : (edges : List Edge) (s t : WalkState) (n place : ℕ) → Stands edges s → Closed s t n place → Was s t place
was edges s t n place stands c =
    let met : (q i : ℕ) → i < s.size → s.met i ≡ q → s.mark q ≡ Met i = λ q i h is. ap s.mark (sym is) ∙ stands.met_at i h in
    record {
      done_mark = λ q a is. elim (c.marks q) [ inl z ↦ let x = met q z.0 z.2 z.3 in absurd cc | inr z ↦ z.0 ∙ is ];
      met_mark = λ q i is h. elim (c.marks q) [
        | inl z ↦ let x = met q z.0 z.2 z.3 in let same : z.0 ≡ i = cc in let y : place ≤ z.0 = z.1 in absurd (omega arith)
        | inr z ↦ z.0 ∙ is
      ];
      gone = λ q i is h. elim (c.marks q) [ inl z ↦ z.4 | inr z ↦ let y = stands.met_is q i is in absurd (z.1 i h y.0 y.1) ];
      was_met = λ q i is. elim (c.marks q) [
        | inl z ↦ let x = z.4 in absurd cc
        | inr z ↦ let old : s.mark q ≡ Met i = sym z.0 ∙ is in let y = stands.met_is q i old in
            (old, elim (cases_lt i place) [ inl l ↦ l | inr l ↦ absurd (z.1 i l y.0 y.1) ])
      ];
      was_done = λ q a is. elim (c.marks q) [ inl z ↦ let x = z.4 in inr (z.0, z.1, z.2, z.3, cc) | inr z ↦ inl (sym z.0 ∙ is) ];
    }

close_ordered : (edges : List Edge) (s t : WalkState) (n : ℕ) → Kept edges s → Closed s t n (s.frame n).place → n + 1 ≡ s.depth →
    ((i : ℕ) → i < length edges → caller_at edges i ≡ s.met (s.frame n).place → i < (s.frame n).next) → (s.frame n).place ≤ (s.frame n).low → Ordered edges t.mark t.done t.order
close_ordered edges s t n kept c last followed low =
    let place : ℕ = (s.frame n).place in
    let old = kept.ordered in
    let w = was edges s t n place kept.stands c in
    let here : n < s.depth = omega arith in
    let some : place < s.size = kept.stands.placed n here in
    let long : t.done + place ≡ s.done + s.size = c.done in
    let covers : (j : ℕ) → place ≤ j → j < s.size → StandsWith s n j = λ j from inside. record { on = here; from = from; inside = inside; below = λ l. absurd (omega arith) } in
    let into_group : (q : ℕ) → Settled s.mark (s.frame n).low q → (b : ℕ) × (t.mark q ≡ Done b) × (b ≤ s.done) = λ q x. elim x [
      | inl d ↦ let y : d.0 < s.done = old.below q d.0 d.1 in (d.0, w.done_mark q d.0 d.1, omega arith)
      | inr m ↦ let y : (s.frame n).low ≤ m.0 = m.2 in (s.done, w.gone q m.0 m.1 (omega arith), omega arith)
    ] in
    let in_order : (k : ℕ) → k < s.done → (a : ℕ) × (s.mark (s.order k) ≡ Done a) × (t.mark (t.order k) ≡ Done a) =
    λ k h. let z = old.listed_at k h in (z.0, z.1, ap t.mark (c.order_old k h) ∙ w.done_mark (s.order k) z.0 z.1) in
    let at : (k : ℕ) → s.done ≤ k → k < t.done → (i : ℕ) × (place ≤ i) × (i < s.size) × (t.order k ≡ s.met i) × (k + place ≡ s.done + i) = λ k from h.
    let i : ℕ = (k + place) - s.done in
    let is : k + place ≡ s.done + i = omega arith in
    (i, omega arith, omega arith, c.order_new k i from is (omega arith), is) in
    let in_group : (k : ℕ) → s.done ≤ k → k < t.done → t.mark (t.order k) ≡ Done s.done = λ k from h.
    let z = at k from h in ap t.mark z.3 ∙ w.gone (s.met z.0) z.0 (kept.stands.met_at z.0 z.2) z.1 in
    record {
      below = λ p a is. elim (w.was_done p a is) [ inl z ↦ let x : a < s.done = old.below p a z in omega arith | inr z ↦ let x : a ≡ s.done = z.4 in omega arith ];
      listed = λ p a is. elim (w.was_done p a is) [
        | inl z ↦ let x = old.listed p a z in let y : x.0 < s.done = x.1 in (x.0, omega arith, c.order_old x.0 y ∙ x.2)
        | inr z ↦ let x : place ≤ z.0 = z.1 in let y : z.0 < s.size = z.2 in
            (s.done + (z.0 - place), omega arith, c.order_new (s.done + (z.0 - place)) z.0 (omega arith) (omega arith) y ∙ z.3)
      ];
      listed_at = λ k h. elim (cases_lt k s.done) [
        | inl l ↦ let z = in_order k l in (z.0, z.2)
        | inr l ↦ (s.done, in_group k l h)
      ];
      once = λ i j l h same. elim (cases_lt j s.done) [
        | inl x ↦ old.once i j l x (sym (c.order_old i (omega arith)) ∙ (same ∙ c.order_old j x))
        | inr x ↦ let z = at j x h in let b : s.mark (s.met z.0) ≡ Met z.0 = kept.stands.met_at z.0 z.2 in
            elim (cases_lt i s.done) [
              | inl y ↦ let a = old.listed_at i y in
                  let both : s.mark (s.order i) ≡ s.mark (s.met z.0) = ap s.mark (sym (c.order_old i y) ∙ (same ∙ z.3)) in
                  let one : s.mark (s.order i) ≡ Done a.0 = a.1 in cc
              | inr y ↦ let v = at i y (omega arith) in let a : s.mark (s.met v.0) ≡ Met v.0 = kept.stands.met_at v.0 v.2 in
                  let both : s.mark (s.met v.0) ≡ s.mark (s.met z.0) = ap s.mark (sym v.3 ∙ (same ∙ z.3)) in
                  let equal : v.0 ≡ z.0 = cc in let m : i + place ≡ s.done + v.0 = v.4 in let n : j + place ≡ s.done + z.0 = z.4 in omega arith
            ]
      ];
      upward = λ i j a b l h is is'. elim (cases_lt j s.done) [
        | inl x ↦ let y : i < s.done = omega arith in let u = in_order i y in let v = in_order j x in
            let ua : t.mark (t.order i) ≡ Done u.0 = u.2 in let vb : t.mark (t.order j) ≡ Done v.0 = v.2 in
            let p : u.0 ≡ a = cc in let q : v.0 ≡ b = cc in let r : u.0 ≤ v.0 = old.upward i j u.0 v.0 l x u.1 v.1 in omega arith
        | inr x ↦ let vb : t.mark (t.order j) ≡ Done s.done = in_group j x h in let q : s.done ≡ b = cc in
            elim (cases_lt i s.done) [
              | inl y ↦ let u = in_order i y in let ua : t.mark (t.order i) ≡ Done u.0 = u.2 in let p : u.0 ≡ a = cc in let r : u.0 < s.done = old.below (s.order i) u.0 u.1 in omega arith
              | inr y ↦ let ua : t.mark (t.order i) ≡ Done s.done = in_group i y (omega arith) in let p : s.done ≡ a = cc in omega arith
            ]
      ];
      falls = λ i a h is. elim (w.was_done (caller_at edges i) a is) [
        | inl z ↦ let x = old.falls i a h z in (x.0, w.done_mark (callee_of_edge edges i) x.0 x.1, x.2)
        | inr z ↦ let x : place ≤ z.0 = z.1 in
            let settled : Settled s.mark (s.frame n).low (callee_of_edge edges i) = elim (cases_eq z.0 place) [
              | inl same ↦ let caller : caller_at edges i ≡ s.met place = sym z.3 ∙ ap s.met same in kept.stands.behind n i here (followed i h caller) caller
              | inr ne ↦ kept.stands.shut n z.0 i (covers z.0 x z.2) (omega arith) h (sym z.3)
            ] in
            let y = into_group (callee_of_edge edges i) settled in
            let b : y.0 ≤ s.done = y.2 in let a_is : a ≡ s.done = z.4 in (y.0, y.1, omega arith)
      ];
      joined = λ p q a is is'. elim (w.was_done p a is) [
        | inl x ↦ elim (w.was_done q a is') [
          | inl y ↦ old.joined p q a x y
          | inr y ↦ let u : a < s.done = old.below p a x in let v : a ≡ s.done = y.4 in absurd (omega arith)
        ]
        | inr x ↦ elim (w.was_done q a is') [
          | inl y ↦ let u : a < s.done = old.below q a y in let v : a ≡ s.done = x.4 in absurd (omega arith)
          | inr y ↦ rw (← x.3, ← y.3) (reaches_join edges (s.met x.0) (s.met place) (s.met y.0) (kept.leads.round n x.0 (covers x.0 x.1 x.2)) (kept.leads.forth n y.0 (covers y.0 y.1 y.2)))
        ]
      ];
    }

pub close_kept : (edges : List Edge) (s t : WalkState) (n : ℕ) → Kept edges s → Closed s t n (s.frame n).place → n + 1 ≡ s.depth →
    ((i : ℕ) → i < length edges → caller_at edges i ≡ s.met (s.frame n).place → i < (s.frame n).next) → (s.frame n).place ≤ (s.frame n).low → Kept edges t
close_kept edges s t n kept c last followed high =
    let l : ℕ = (s.frame n).place in
    let w = was edges s t n l kept.stands c in
    let here : n < s.depth = omega arith in
    let some : l < s.size = kept.stands.placed n here in
    let size : t.size ≡ l = c.size in
    let depth : t.depth ≡ n = c.depth in
    let settled : (low q : ℕ) → Settled s.mark low q → Settled t.mark low q = λ low q x. elim x [
      | inl d ↦ inl (d.0, w.done_mark q d.0 d.1)
      | inr m ↦ elim (cases_lt m.0 l) [ inl y ↦ inr (m.0, w.met_mark q m.0 m.1 y, m.2) | inr y ↦ inl (s.done, w.gone q m.0 m.1 y) ]
    ] in
    let place : (k : ℕ) → k < n → (t.frame k).place ≡ (s.frame k).place = λ k h. ap (λ f. f.place) (c.frame k h) in
    let next : (k : ℕ) → k < n → (t.frame k).next ≡ (s.frame k).next = λ k h. ap (λ f. f.next) (c.frame k h) in
    let low : (k : ℕ) → k < n → (t.frame k).low ≡ (s.frame k).low = λ k h. ap (λ f. f.low) (c.frame k h) in
    let short : (k : ℕ) → k < n → (s.frame k).place < l = λ k h. rises edges s kept.stands k n h here in
    let proc : (k : ℕ) → k < n → t.met (t.frame k).place ≡ s.met (s.frame k).place = λ k h. ap t.met (place k h) ∙ c.met (s.frame k).place (short k h) in
    let covers : (k j : ℕ) → k < n → StandsWith t k j → StandsWith s k j = λ k j h v.
    let x : (t.frame k).place ≡ (s.frame k).place = place k h in let y : (t.frame k).place ≤ j = v.from in let z : j < t.size = v.inside in
    record {
      on = omega arith;
      from = omega arith;
      inside = omega arith;
      below = λ m. elim (cases_eq (k + 1) n) [
        | inl e ↦ let u : (s.frame (k + 1)).place ≡ l = ap (λ x. (s.frame x).place) e in omega arith
        | inr ne ↦ let more : k + 1 < n = omega arith in let u : (t.frame (k + 1)).place ≡ (s.frame (k + 1)).place = place (k + 1) more in
            let b : j < (t.frame (k + 1)).place = v.below (omega arith) in omega arith
      ];
    } in
    let met : (k j : ℕ) → StandsWith t k j → t.met j ≡ s.met j = λ k j v. c.met j (let z : j < t.size = v.inside in omega arith) in
    record {
      stands = record {
        known = λ q. elim (c.marks q) [
          | inl z ↦ elim (kept.stands.known q) [ inl u ↦ let x = ap s.mark z.3 in let y = kept.stands.met_at z.0 z.2 in absurd cc | inr k ↦ inr k ]
          | inr z ↦ elim (kept.stands.known q) [ inl u ↦ inl (z.0 ∙ u) | inr k ↦ inr k ]
        ];
        met_at = λ i h. let x : i < l = omega arith in ap t.mark (c.met i x) ∙ w.met_mark (s.met i) i (kept.stands.met_at i (omega arith)) x;
        met_is = λ q i is. let z = w.was_met q i is in let y = kept.stands.met_is q i z.0 in let x : i < l = z.1 in (omega arith, c.met i x ∙ y.1);
        root = λ h. let x : 0 < n = omega arith in place 0 x ∙ kept.stands.root (omega arith);
        none = λ e. let x : n ≡ 0 = omega arith in size ∙ (ap (λ k. (s.frame k).place) x ∙ kept.stands.root (omega arith));
        placed = λ k h. let x : k < n = omega arith in let y : (t.frame k).place ≡ (s.frame k).place = place k x in let z : (s.frame k).place < l = short k x in omega arith;
        rising = λ k h. let x : k < n = omega arith in let m : k + 1 < n = omega arith in
            let y : (t.frame k).place ≡ (s.frame k).place = place k x in let z : (t.frame (k + 1)).place ≡ (s.frame (k + 1)).place = place (k + 1) m in
            let u : (s.frame k).place < (s.frame (k + 1)).place = kept.stands.rising k (omega arith) in omega arith;
        lower = λ k h. let x : k < n = omega arith in let y : (t.frame k).place ≡ (s.frame k).place = place k x in let z : (t.frame k).low ≡ (s.frame k).low = low k x in
            let u : (s.frame k).low ≤ (s.frame k).place = kept.stands.lower k (omega arith) in omega arith;
        in_range = λ k h. let x : k < n = omega arith in let y : (t.frame k).next ≡ (s.frame k).next = next k x in let u : (s.frame k).next ≤ length edges = kept.stands.in_range k (omega arith) in omega arith;
        calls = λ k h. let x : k < n = omega arith in let m : k + 1 < n = omega arith in let z = kept.stands.calls k (omega arith) in rw (next k x, proc k x, proc (k + 1) m) z;
        ahead = λ k i h a m. let x : k < n = omega arith in let y : (t.frame k).next ≡ (s.frame k).next = next k x in
            let z : t.met (t.frame k).place ≡ s.met (s.frame k).place = proc k x in let b : (s.frame k).next ≤ i = omega arith in
            let u : s.met (s.frame k).place ≤ caller_at edges i = kept.stands.ahead k i (omega arith) b m in omega arith;
        behind = λ k i h a is. let x : k < n = omega arith in let y : (t.frame k).next ≡ (s.frame k).next = next k x in let b : i < (s.frame k).next = omega arith in
            rw (low k x) (settled (s.frame k).low (callee_of_edge edges i) (kept.stands.behind k i (omega arith) b (is ∙ proc k x)));
        shut = λ k j i v a m is. let on : k < t.depth = v.on in let x : k < n = omega arith in let y : (t.frame k).place ≡ (s.frame k).place = place k x in let b : (s.frame k).place < j = omega arith in
            rw (low k x) (settled (s.frame k).low (callee_of_edge edges i) (kept.stands.shut k j i (covers k j x v) b m (is ∙ met k j v)));
      };
      leads = record {
        forth = λ k j v. let on : k < t.depth = v.on in let x : k < n = omega arith in rw (proc k x, met k j v) (kept.leads.forth k j (covers k j x v));
        round = λ k j v. let on : k < t.depth = v.on in let x : k < n = omega arith in rw (proc k x, met k j v) (kept.leads.round k j (covers k j x v));
        back = λ k h. let x : k < n = omega arith in let y : (s.frame k).low ≤ (s.frame k).place = kept.stands.lower k (omega arith) in let z : (s.frame k).place < l = short k x in
            let m : t.met (t.frame k).low ≡ s.met (s.frame k).low = ap t.met (low k x) ∙ c.met (s.frame k).low (omega arith) in
            rw (proc k x, m) (kept.leads.back k (omega arith));
      };
      ordered = close_ordered edges s t n kept c last followed high;
    }
