-- Each step of the walk preserves `Kept`.
use Rattle.std.proofs.Common.{◌≡◌, ◌≢◌, ℕ, ◌+◌, ◌<◌, ◌≤◌, min, inl, inr, sym, ◌∙◌, ap, arith, subst, List, length}
use Rattle.std.proofs.lemmas.Bool.{cases_eq, cases_lt}
use Rattle.call_graph.specs.Calls.{Occurs, Reaches}
use Rattle.call_graph.specs.Walk.{WalkState, Settled, StandsWith, Ordered, Kept, caller_at, callee_of_edge}
use Rattle.call_graph.specs.declared.edge.Edge.{Edge}
use Rattle.call_graph.specs.declared.walk.Visit.{Visit}
use Rattle.call_graph.specs.declared.walk.Mark.{Mark}
use Rattle.call_graph.specs.declared.walk.Mark.TheVariants.{Unseen, Met, Done}
use Rattle.call_graph.proofs.CallLemmas.{reaches_self}

-- what is settled stays so for a lower place and under other marks
pub settled_low : (mark : ℕ → Mark) (low low' q : ℕ) → low' ≤ low → Settled mark low q → Settled mark low' q
settled_low mark low low' q h x = elim x [ inl d ↦ inl d | inr m ↦ let y : low ≤ m.0 = m.2 in inr (m.0, m.1, omega arith) ]

-- an order whose procedures keep their marks
ordered_same : (edges : List Edge) (mark mark' : ℕ → Mark) (done : ℕ) (order : ℕ → ℕ) → ((q a : ℕ) → mark q ≡ Done a → mark' q ≡ Done a) →
    ((q a : ℕ) → mark' q ≡ Done a → mark q ≡ Done a) → Ordered edges mark done order → Ordered edges mark' done order
ordered_same edges mark mark' done order to from old = record {
  below = λ p a is. old.below p a (from p a is);
  listed = λ p a is. old.listed p a (from p a is);
  listed_at = λ k h. let z = old.listed_at k h in (z.0, to (order k) z.0 z.1);
  once = old.once;
  upward = λ i j a b l h is is'. old.upward i j a b l h (from (order i) a is) (from (order j) b is');
  falls = λ i a h is. let z = old.falls i a h (from (caller_at edges i) a is) in (z.0, to (callee_of_edge edges i) z.0 z.1, z.2);
  joined = λ p q a is is'. old.joined p q a (from p a is) (from q a is');
}

-- one more procedure is met and put on the path
pub record Entered (s t : WalkState) (p b : ℕ) : Type 0 where
  pub mark_new : t.mark p ≡ Met s.size
  pub mark_old : (q : ℕ) → q ≢ p → t.mark q ≡ s.mark q
  pub size : t.size ≡ s.size + 1
  pub met_new : (i : ℕ) → i ≡ s.size → t.met i ≡ p
  pub met_old : (i : ℕ) → i < s.size → t.met i ≡ s.met i
  pub depth : t.depth ≡ s.depth + 1
  pub frame_new : (k : ℕ) → k ≡ s.depth → t.frame k ≡ record { place = s.size; next = b; low = s.size }
  pub frame_old : (k : ℕ) → k < s.depth → t.frame k ≡ s.frame k
  pub done : t.done ≡ s.done
  pub order : t.order ≡ s.order

pub enter_kept : (edges : List Edge) (s t : WalkState) (p b : ℕ) → Kept edges s → Entered s t p b → s.mark p ≡ Unseen → Occurs edges p →
    ((k : ℕ) → k + 1 ≡ s.depth → ((s.frame k).next < length edges) × (caller_at edges (s.frame k).next ≡ s.met (s.frame k).place) × (callee_of_edge edges (s.frame k).next ≡ p)) →
    b ≤ length edges → ((i : ℕ) → i < b → caller_at edges i < p) → ((i : ℕ) → b ≤ i → i < length edges → p ≤ caller_at edges i) → Kept edges t
enter_kept edges s t p b kept e unseen known called fits before from =
    let size : t.size ≡ s.size + 1 = e.size in
    let depth : t.depth ≡ s.depth + 1 = e.depth in
    let met_mark : (q i : ℕ) → s.mark q ≡ Met i → t.mark q ≡ Met i = λ q i is. e.mark_old q (λ same. let x = ap s.mark same in cc) ∙ is in
    let done_mark : (q a : ℕ) → s.mark q ≡ Done a → t.mark q ≡ Done a = λ q a is. e.mark_old q (λ same. let x = ap s.mark same in cc) ∙ is in
    let was_done : (q a : ℕ) → t.mark q ≡ Done a → s.mark q ≡ Done a =
    λ q a is. elim (cases_eq q p) [ inl same ↦ absurd (let x = ap t.mark same in let y = e.mark_new in cc) | inr ne ↦ sym (e.mark_old q ne) ∙ is ] in
    let settled : (low q : ℕ) → Settled s.mark low q → Settled t.mark low q =
    λ low q x. elim x [ inl d ↦ inl (d.0, done_mark q d.0 d.1) | inr m ↦ inr (m.0, met_mark q m.0 m.1, m.2) ] in
    let place : (k : ℕ) → k < s.depth → (t.frame k).place ≡ (s.frame k).place = λ k h. ap (λ f. f.place) (e.frame_old k h) in
    let next : (k : ℕ) → k < s.depth → (t.frame k).next ≡ (s.frame k).next = λ k h. ap (λ f. f.next) (e.frame_old k h) in
    let low : (k : ℕ) → k < s.depth → (t.frame k).low ≡ (s.frame k).low = λ k h. ap (λ f. f.low) (e.frame_old k h) in
    let proc : (k : ℕ) → k < s.depth → t.met (t.frame k).place ≡ s.met (s.frame k).place =
    λ k h. ap t.met (place k h) ∙ e.met_old (s.frame k).place (kept.stands.placed k h) in
    let place_new : (k : ℕ) → k ≡ s.depth → (t.frame k).place ≡ s.size = λ k h. ap (λ f. f.place) (e.frame_new k h) in
    let next_new : (k : ℕ) → k ≡ s.depth → (t.frame k).next ≡ b = λ k h. ap (λ f. f.next) (e.frame_new k h) in
    let low_new : (k : ℕ) → k ≡ s.depth → (t.frame k).low ≡ s.size = λ k h. ap (λ f. f.low) (e.frame_new k h) in
    let proc_new : (k : ℕ) → k ≡ s.depth → t.met (t.frame k).place ≡ p = λ k h. e.met_new (t.frame k).place (place_new k h) in
    let covers : (k j : ℕ) → k < s.depth → StandsWith t k j → StandsWith s k j = λ k j h c.
    let a : (t.frame k).place ≡ (s.frame k).place = place k h in
    let f : (t.frame k).place ≤ j = c.from in
    let below : k + 1 < s.depth → j < (s.frame (k + 1)).place =
    λ l. let x : (t.frame (k + 1)).place ≡ (s.frame (k + 1)).place = place (k + 1) l in let y : j < (t.frame (k + 1)).place = c.below (omega arith) in omega arith in
    record {
      on = h;
      from = omega arith;
      inside = elim (cases_eq (k + 1) s.depth) [
        | inl same ↦ let x : (t.frame (k + 1)).place ≡ s.size = place_new (k + 1) same in let y : j < (t.frame (k + 1)).place = c.below (omega arith) in omega arith
        | inr ne ↦ let more : k + 1 < s.depth = omega arith in
            let x : j < (s.frame (k + 1)).place = below more in
            let y : (s.frame (k + 1)).place < s.size = kept.stands.placed (k + 1) more in omega arith
      ];
      below = below;
    } in
    let covers_new : (k j : ℕ) → k ≡ s.depth → StandsWith t k j → j ≡ s.size = λ k j h c.
    let x : (t.frame k).place ≡ s.size = place_new k h in let y : (t.frame k).place ≤ j = c.from in let z : j < t.size = c.inside in omega arith in
    let met_same : (k j : ℕ) → (h : k < s.depth) → StandsWith t k j → t.met j ≡ s.met j = λ k j h c. e.met_old j (covers k j h c).inside in
    record {
      stands = record {
        known = λ q. elim (cases_eq q p) [ inl same ↦ inr (subst (Occurs edges) (sym same) known) | inr ne ↦ elim (kept.stands.known q) [ inl u ↦ inl (e.mark_old q ne ∙ u) | inr k ↦ inr k ] ];
        met_at = λ i h. elim (cases_eq i s.size) [
          | inl same ↦ ap t.mark (e.met_new i same) ∙ (e.mark_new ∙ ap Met (sym same))
          | inr ne ↦ let l : i < s.size = omega arith in ap t.mark (e.met_old i l) ∙ met_mark (s.met i) i (kept.stands.met_at i l)
        ];
        met_is = λ q i is. elim (cases_eq q p) [
          | inl same ↦ let at : i ≡ s.size = (let x = ap t.mark same in let y = e.mark_new in cc) in (omega arith, e.met_new i at ∙ sym same)
          | inr ne ↦ let z = kept.stands.met_is q i (sym (e.mark_old q ne) ∙ is) in let l : i < s.size = z.0 in (omega arith, e.met_old i l ∙ z.1)
        ];
        root = λ some. elim (cases_eq 0 s.depth) [
          | inl same ↦ place_new 0 same ∙ kept.stands.none (sym same)
          | inr ne ↦ let l : 0 < s.depth = omega arith in place 0 l ∙ kept.stands.root l
        ];
        none = λ x. absurd (omega arith);
        placed = λ k h. elim (cases_eq k s.depth) [
          | inl same ↦ let x : (t.frame k).place ≡ s.size = place_new k same in omega arith
          | inr ne ↦ let l : k < s.depth = omega arith in let x : (t.frame k).place ≡ (s.frame k).place = place k l in let y : (s.frame k).place < s.size = kept.stands.placed k l in omega arith
        ];
        rising = λ k h. let l : k < s.depth = omega arith in
            let x : (t.frame k).place ≡ (s.frame k).place = place k l in
            elim (cases_eq (k + 1) s.depth) [
              | inl same ↦ let y : (t.frame (k + 1)).place ≡ s.size = place_new (k + 1) same in let z : (s.frame k).place < s.size = kept.stands.placed k l in omega arith
              | inr ne ↦ let m : k + 1 < s.depth = omega arith in
                  let y : (t.frame (k + 1)).place ≡ (s.frame (k + 1)).place = place (k + 1) m in let z : (s.frame k).place < (s.frame (k + 1)).place = kept.stands.rising k m in omega arith
            ];
        lower = λ k h. elim (cases_eq k s.depth) [
          | inl same ↦ let x : (t.frame k).place ≡ s.size = place_new k same in let y : (t.frame k).low ≡ s.size = low_new k same in omega arith
          | inr ne ↦ let l : k < s.depth = omega arith in
              let x : (t.frame k).place ≡ (s.frame k).place = place k l in let y : (t.frame k).low ≡ (s.frame k).low = low k l in
              let z : (s.frame k).low ≤ (s.frame k).place = kept.stands.lower k l in omega arith
        ];
        in_range = λ k h. elim (cases_eq k s.depth) [
          | inl same ↦ let x : (t.frame k).next ≡ b = next_new k same in omega arith
          | inr ne ↦ let l : k < s.depth = omega arith in let x : (t.frame k).next ≡ (s.frame k).next = next k l in let y : (s.frame k).next ≤ length edges = kept.stands.in_range k l in omega arith
        ];
        calls = λ k h. let l : k < s.depth = omega arith in
            elim (cases_eq (k + 1) s.depth) [
              | inl same ↦ let z = called k same in rw (next k l) (z.0, z.1 ∙ sym (proc k l), z.2 ∙ sym (proc_new (k + 1) same))
              | inr ne ↦ let m : k + 1 < s.depth = omega arith in let z = kept.stands.calls k m in rw (next k l) (z.0, z.1 ∙ sym (proc k l), z.2 ∙ sym (proc (k + 1) m))
            ];
        ahead = λ k i h l m. elim (cases_eq k s.depth) [
          | inl same ↦ let x : (t.frame k).next ≡ b = next_new k same in let y : t.met (t.frame k).place ≡ p = proc_new k same in
              let a : b ≤ i = omega arith in let z : p ≤ caller_at edges i = from i a m in omega arith
          | inr ne ↦ let n : k < s.depth = omega arith in let x : (t.frame k).next ≡ (s.frame k).next = next k n in
              let y : t.met (t.frame k).place ≡ s.met (s.frame k).place = proc k n in
              let a : (s.frame k).next ≤ i = omega arith in let z : s.met (s.frame k).place ≤ caller_at edges i = kept.stands.ahead k i n a m in omega arith
        ];
        behind = λ k i h l is. elim (cases_eq k s.depth) [
          | inl same ↦ let x : (t.frame k).next ≡ b = next_new k same in let a : i < b = omega arith in
              let y : caller_at edges i ≡ p = is ∙ proc_new k same in let z : caller_at edges i < p = before i a in absurd (omega arith)
          | inr ne ↦ let n : k < s.depth = omega arith in let x : (t.frame k).next ≡ (s.frame k).next = next k n in let a : i < (s.frame k).next = omega arith in
              rw (low k n) (settled (s.frame k).low (callee_of_edge edges i) (kept.stands.behind k i n a (is ∙ proc k n)))
        ];
        shut = λ k j i c h l is. elim (cases_eq k s.depth) [
          | inl same ↦ let x : j ≡ s.size = covers_new k j same c in let y : (t.frame k).place ≡ s.size = place_new k same in absurd (omega arith)
          | inr ne ↦ let on : k < t.depth = c.on in let n : k < s.depth = omega arith in let x : (t.frame k).place ≡ (s.frame k).place = place k n in let a : (s.frame k).place < j = omega arith in
              rw (low k n) (settled (s.frame k).low (callee_of_edge edges i) (kept.stands.shut k j i (covers k j n c) a l (is ∙ met_same k j n c)))
        ];
      };
      leads = record {
        forth = λ k j c. elim (cases_eq k s.depth) [
          | inl same ↦ let x : j ≡ (t.frame k).place = covers_new k j same c ∙ sym (place_new k same) in subst (λ y. Reaches edges (t.met (t.frame k).place) (t.met y)) (sym x) (reaches_self edges (t.met (t.frame k).place))
          | inr ne ↦ let on : k < t.depth = c.on in let n : k < s.depth = omega arith in rw (proc k n, met_same k j n c) (kept.leads.forth k j (covers k j n c))
        ];
        round = λ k j c. elim (cases_eq k s.depth) [
          | inl same ↦ let x : j ≡ (t.frame k).place = covers_new k j same c ∙ sym (place_new k same) in subst (λ y. Reaches edges (t.met y) (t.met (t.frame k).place)) (sym x) (reaches_self edges (t.met (t.frame k).place))
          | inr ne ↦ let on : k < t.depth = c.on in let n : k < s.depth = omega arith in rw (proc k n, met_same k j n c) (kept.leads.round k j (covers k j n c))
        ];
        back = λ k h. elim (cases_eq k s.depth) [
          | inl same ↦ let x : (t.frame k).low ≡ (t.frame k).place = low_new k same ∙ sym (place_new k same) in subst (λ y. Reaches edges (t.met (t.frame k).place) (t.met y)) (sym x) (reaches_self edges (t.met (t.frame k).place))
          | inr ne ↦ let n : k < s.depth = omega arith in
              let lower : (s.frame k).low ≤ (s.frame k).place = kept.stands.lower k n in let placed : (s.frame k).place < s.size = kept.stands.placed k n in
              let same_low : t.met (t.frame k).low ≡ s.met (s.frame k).low = ap t.met (low k n) ∙ e.met_old (s.frame k).low (omega arith) in
              rw (proc k n, same_low) (kept.leads.back k n)
        ];
      };
      ordered = rw (e.done, e.order) (ordered_same edges s.mark t.mark s.done s.order done_mark was_done kept.ordered);
    }

-- the last frame on the path finishes its call
pub advance_kept : (edges : List Edge) (s : WalkState) (n to : ℕ) (frame' : ℕ → Visit) → Kept edges s → n + 1 ≡ s.depth → (s.frame n).next < length edges →
    Settled s.mark to (callee_of_edge edges (s.frame n).next) → Reaches edges (s.met (s.frame n).place) (s.met to) → ((k : ℕ) → k ≢ n → frame' k ≡ s.frame k) →
    frame' n ≡ record { place = (s.frame n).place; next = (s.frame n).next + 1; low = min (s.frame n).low to } → Kept edges (record s { frame = frame' })
advance_kept edges s n to frame' kept last edge settled reaches other new =
    let t : WalkState = record s { frame = frame' } in
    let place : (k : ℕ) → (frame' k).place ≡ (s.frame k).place = λ k. elim (cases_eq k n) [
      | inl e ↦ ap (λ x. (frame' x).place) e ∙ (ap (λ f. f.place) new ∙ ap (λ x. (s.frame x).place) (sym e))
      | inr ne ↦ ap (λ f. f.place) (other k ne)
    ] in
    let next_new : (k : ℕ) → k ≡ n → (frame' k).next ≡ (s.frame k).next + 1 = λ k e. ap (λ x. (frame' x).next) e ∙ (ap (λ f. f.next) new ∙ ap (λ x. (s.frame x).next + 1) (sym e)) in
    let next_old : (k : ℕ) → k ≢ n → (frame' k).next ≡ (s.frame k).next = λ k ne. ap (λ f. f.next) (other k ne) in
    let low_new : (k : ℕ) → k ≡ n → (frame' k).low ≡ min (s.frame k).low to = λ k e. ap (λ x. (frame' x).low) e ∙ (ap (λ f. f.low) new ∙ ap (λ x. min (s.frame x).low to) (sym e)) in
    let low_old : (k : ℕ) → k ≢ n → (frame' k).low ≡ (s.frame k).low = λ k ne. ap (λ f. f.low) (other k ne) in
    let under : (k : ℕ) → (frame' k).low ≤ (s.frame k).low = λ k. elim (cases_eq k n) [
      | inl e ↦ let x : (frame' k).low ≡ min (s.frame k).low to = low_new k e in omega arith
      | inr ne ↦ let x : (frame' k).low ≡ (s.frame k).low = low_old k ne in omega arith
    ] in
    let weak : (k q : ℕ) → Settled s.mark (s.frame k).low q → Settled s.mark (frame' k).low q = λ k q x. settled_low s.mark (s.frame k).low (frame' k).low q (under k) x in
    let covers : (k j : ℕ) → StandsWith t k j → StandsWith s k j = λ k j c. record {
      on = c.on;
      from = let x : (frame' k).place ≡ (s.frame k).place = place k in let y : (frame' k).place ≤ j = c.from in omega arith;
      inside = c.inside;
      below = λ l. let x : (frame' (k + 1)).place ≡ (s.frame (k + 1)).place = place (k + 1) in let y : j < (frame' (k + 1)).place = c.below l in omega arith;
    } in
    let proc : (k : ℕ) → s.met (frame' k).place ≡ s.met (s.frame k).place = λ k. ap s.met (place k) in
    record {
      stands = record {
        known = kept.stands.known;
        met_at = kept.stands.met_at;
        met_is = kept.stands.met_is;
        root = λ h. place 0 ∙ kept.stands.root h;
        none = kept.stands.none;
        placed = λ k h. let x : (frame' k).place ≡ (s.frame k).place = place k in let y : (s.frame k).place < s.size = kept.stands.placed k h in omega arith;
        rising = λ k h. let x : (frame' k).place ≡ (s.frame k).place = place k in let y : (frame' (k + 1)).place ≡ (s.frame (k + 1)).place = place (k + 1) in
            let z : (s.frame k).place < (s.frame (k + 1)).place = kept.stands.rising k h in omega arith;
        lower = λ k h. let x : (frame' k).place ≡ (s.frame k).place = place k in let y : (frame' k).low ≤ (s.frame k).low = under k in
            let z : (s.frame k).low ≤ (s.frame k).place = kept.stands.lower k h in omega arith;
        in_range = λ k h. elim (cases_eq k n) [
          | inl e ↦ let x : (frame' k).next ≡ (s.frame k).next + 1 = next_new k e in let y : (s.frame k).next ≡ (s.frame n).next = ap (λ x. (s.frame x).next) e in omega arith
          | inr ne ↦ let x : (frame' k).next ≡ (s.frame k).next = next_old k ne in let y : (s.frame k).next ≤ length edges = kept.stands.in_range k h in omega arith
        ];
        calls = λ k h. let ne : k ≢ n = omega arith in let z = kept.stands.calls k h in rw (next_old k ne, proc k, proc (k + 1)) z;
        ahead = λ k i h l m. let x : s.met (frame' k).place ≡ s.met (s.frame k).place = proc k in
            let y : (s.frame k).next ≤ i = elim (cases_eq k n) [
              | inl e ↦ let z : (frame' k).next ≡ (s.frame k).next + 1 = next_new k e in omega arith
              | inr ne ↦ let z : (frame' k).next ≡ (s.frame k).next = next_old k ne in omega arith
            ] in
            let z : s.met (s.frame k).place ≤ caller_at edges i = kept.stands.ahead k i h y m in omega arith;
        behind = λ k i h l is. elim (cases_eq k n) [
          | inl e ↦ let x : (frame' k).next ≡ (s.frame k).next + 1 = next_new k e in
              elim (cases_eq i (s.frame k).next) [
                | inl same ↦ let y : (frame' k).low ≡ min (s.frame k).low to = low_new k e in
                    let at : i ≡ (s.frame n).next = same ∙ ap (λ x. (s.frame x).next) e in
                    settled_low s.mark to (frame' k).low (callee_of_edge edges i) (omega arith) (subst (λ x. Settled s.mark to (callee_of_edge edges x)) (sym at) settled)
                | inr ne ↦ weak k (callee_of_edge edges i) (kept.stands.behind k i h (omega arith) (is ∙ proc k))
              ]
          | inr ne ↦ let x : (frame' k).next ≡ (s.frame k).next = next_old k ne in weak k (callee_of_edge edges i) (kept.stands.behind k i h (omega arith) (is ∙ proc k))
        ];
        shut = λ k j i c h l is. let x : (frame' k).place ≡ (s.frame k).place = place k in weak k (callee_of_edge edges i) (kept.stands.shut k j i (covers k j c) (omega arith) l is);
      };
      leads = record {
        forth = λ k j c. rw (proc k) (kept.leads.forth k j (covers k j c));
        round = λ k j c. rw (proc k) (kept.leads.round k j (covers k j c));
        back = λ k h. elim (cases_eq k n) [
          | inl e ↦ elim (cases_lt (s.frame k).low to) [
            | inl l ↦ let x : (frame' k).low ≡ (s.frame k).low = (let y : (frame' k).low ≡ min (s.frame k).low to = low_new k e in omega arith) in rw (proc k, x) (kept.leads.back k h)
            | inr l ↦ let x : (frame' k).low ≡ to = (let y : (frame' k).low ≡ min (s.frame k).low to = low_new k e in omega arith) in
                rw (proc k, x) (subst (λ y. Reaches edges (s.met (s.frame y).place) (s.met to)) (sym e) reaches)
          ]
          | inr ne ↦ rw (proc k, low_old k ne) (kept.leads.back k h)
        ];
      };
      ordered = kept.ordered;
    }
