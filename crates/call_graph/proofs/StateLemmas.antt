-- The steps of the walk, on its lists.
use Rattle.std.proofs.Common.{◌≡◌, ◌≢◌, ℕ, ◌+◌, ◌-◌, ◌<◌, ◌≤◌, ◌⊎◌, min, inl, inr, sym, ◌∙◌, ap, arith, refl, List, [], ◌∷◌, ◌++◌, length, set, take, drop, get_or, slice_index, length-append, length-set, get_or-set_same, get_or-set_other}
use Rattle.std.proofs.lemmas.List.{get_or-take, length-take-le, get_or-drop, length-drop, get_or-append_right, get_or_default}
use Rattle.std.proofs.Math.ListN.{get_or-append}
use Rattle.std.proofs.Math.Seq.{get_or-append_seam}
use Rattle.call_graph.specs.Calls.{Occurs, Reaches}
use Rattle.call_graph.specs.Walk.{Settled, Kept, walk_state_of, mark_at, frame_at, caller_at, callee_of_edge}
use Rattle.call_graph.specs.declared.edge.Edge.{Edge}
use Rattle.call_graph.specs.declared.walk.Visit.{Visit}
use Rattle.call_graph.specs.declared.walk.Mark.{Mark}
use Rattle.call_graph.specs.declared.walk.Mark.TheVariants.{Unseen, Met, Done}
use Rattle.call_graph.proofs.WalkLemmas.{Entered, enter_kept, advance_kept}
use Rattle.call_graph.proofs.GroupLemmas.{Closed, merge_kept, close_kept}

abbrev nowhere : Visit
nowhere = record { place = 0; next = 0; low = 0 }

entered : (marks : List Mark) (met : List ℕ) (path : List Visit) (order : List ℕ) (p b : ℕ) → p < length marks →
    Entered (walk_state_of marks met path order)
    (walk_state_of (set marks p (Met (length met))) (met ++ p ∷ []) (path ++ (record { place = length met; next = b; low = length met }) ∷ []) order) p b
entered marks met path order p b h =
    let f : Visit = record { place = length met; next = b; low = length met } in
    record {
      mark_new = get_or-set_same marks p (Met (length met)) Unseen h;
      mark_old = λ q ne. get_or-set_other marks p q (Met (length met)) Unseen ne;
      size = length-append met (p ∷ []);
      met_new = λ i e. ap (λ k. get_or (met ++ p ∷ []) k 0) e ∙ get_or-append_seam met p [] 0;
      met_old = λ i l. get_or-append met (p ∷ []) 0 i l;
      depth = length-append path (f ∷ []);
      frame_new = λ k e. ap (λ x. get_or (path ++ f ∷ []) x nowhere) e ∙ get_or-append_seam path f [] nowhere;
      frame_old = λ k l. get_or-append path (f ∷ []) nowhere k l;
      done = refl;
      order = refl;
    }

pub enter_lists : (edges : List Edge) (marks : List Mark) (met : List ℕ) (path : List Visit) (order : List ℕ) (p b : ℕ) →
    Kept edges (walk_state_of marks met path order) → p < length marks → mark_at marks p ≡ Unseen → Occurs edges p →
    ((k : ℕ) → k + 1 ≡ length path → ((frame_at path k).next < length edges) × (caller_at edges (frame_at path k).next ≡ slice_index met (frame_at path k).place) × (callee_of_edge edges (frame_at path k).next ≡ p)) →
    b ≤ length edges → ((i : ℕ) → i < b → caller_at edges i < p) → ((i : ℕ) → b ≤ i → i < length edges → p ≤ caller_at edges i) →
    Kept edges (walk_state_of (set marks p (Met (length met))) (met ++ p ∷ []) (path ++ (record { place = length met; next = b; low = length met }) ∷ []) order)
enter_lists edges marks met path order p b kept h unseen known called fits before from =
    enter_kept edges (walk_state_of marks met path order)
    (walk_state_of (set marks p (Met (length met))) (met ++ p ∷ []) (path ++ (record { place = length met; next = b; low = length met }) ∷ []) order) p b
    kept (entered marks met path order p b h) unseen known called fits before from

pub advance_lists : (edges : List Edge) (marks : List Mark) (met : List ℕ) (path : List Visit) (order : List ℕ) (n to : ℕ) (f : Visit) →
    Kept edges (walk_state_of marks met path order) → n + 1 ≡ length path → (frame_at path n).next < length edges → Settled (mark_at marks) to (callee_of_edge edges (frame_at path n).next) →
    Reaches edges (slice_index met (frame_at path n).place) (slice_index met to) → f ≡ record { place = (frame_at path n).place; next = (frame_at path n).next + 1; low = min (frame_at path n).low to } →
    Kept edges (walk_state_of marks met (set path n f) order)
advance_lists edges marks met path order n to f kept last edge settled reaches is =
    rw length-set (advance_kept edges (walk_state_of marks met path order) n to (frame_at (set path n f)) kept last edge settled reaches
    (λ k ne. get_or-set_other path n k f nowhere ne) (get_or-set_same path n f nowhere (omega arith) ∙ is))

pub merge_lists : (edges : List Edge) (marks : List Mark) (met : List ℕ) (path : List Visit) (order : List ℕ) (n m : ℕ) (f : Visit) →
    Kept edges (walk_state_of marks met path order) → n + 1 ≡ length path → m + 1 ≡ n →
    ((i : ℕ) → i < length edges → caller_at edges i ≡ slice_index met (frame_at path n).place → i < (frame_at path n).next) → (frame_at path n).low < (frame_at path n).place →
    f ≡ record { place = (frame_at path m).place; next = (frame_at path m).next; low = min (frame_at path m).low (frame_at path n).low } →
    Kept edges (walk_state_of marks met (set (take n path) m f) order)
merge_lists edges marks met path order n m f kept last before done low is =
    let shorter : length (take n path) ≡ n = length-take-le n path (omega arith) in
    rw (length-set, shorter) (merge_kept edges (walk_state_of marks met path order) n m (frame_at (set (take n path) m f)) kept last before done low
    (λ k l. get_or-set_other (take n path) m k f nowhere (λ e. omega arith) ∙ get_or-take n path k nowhere (omega arith))
    (get_or-set_same (take n path) m f nowhere (omega arith) ∙ is))

-- the marks after a group was marked
abbrev pub Grouped : List Mark → List Mark → List ℕ → ℕ → Type 0
Grouped marks marks' procs group = (p : ℕ) →
    ((i : ℕ) × (i < length procs) × (slice_index procs i ≡ p) × (mark_at marks' p ≡ Done group)) ⊎ ((mark_at marks' p ≡ mark_at marks p) × ((i : ℕ) → i < length procs → slice_index procs i ≢ p))

closed : (marks marks' : List Mark) (met : List ℕ) (path : List Visit) (order : List ℕ) (n place : ℕ) → n ≤ length path → place ≤ length met →
    Grouped marks marks' (drop place met) (length order) →
    Closed (walk_state_of marks met path order) (walk_state_of marks' (take place met) (take n path) (order ++ drop place met)) n place
closed marks marks' met path order n place shorter inside each =
    let rest : length (drop place met) ≡ length met - place = length-drop place met in
    let longer : length (order ++ drop place met) ≡ length order + length (drop place met) = length-append order (drop place met) in
    record {
      marks = λ q. elim (each q) [
        | inl z ↦ let l : z.0 < length (drop place met) = z.1 in inl (place + z.0, omega arith, omega arith, sym (get_or-drop place met z.0 0) ∙ z.2, z.3)
        | inr z ↦ inr (z.0, λ i from h is. z.1 (i - place) (omega arith) (get_or-drop place met (i - place) 0 ∙ (ap (λ k. get_or met k 0) (omega arith) ∙ is)))
      ];
      size = length-take-le place met inside;
      met = λ i h. get_or-take place met i 0 h;
      depth = length-take-le n path shorter;
      frame = λ k h. get_or-take n path k nowhere h;
      done = omega arith;
      order_old = λ k h. get_or-append order (drop place met) 0 k h;
      order_new = λ k i from is h. get_or-append_right order (drop place met) (length order) k 0 refl from
          ∙ (get_or-drop place met (k - length order) 0 ∙ ap (λ j. get_or met j 0) (omega arith));
    }

pub close_lists : (edges : List Edge) (marks marks' : List Mark) (met : List ℕ) (path : List Visit) (order : List ℕ) (n : ℕ) →
    Kept edges (walk_state_of marks met path order) → n + 1 ≡ length path →
    ((i : ℕ) → i < length edges → caller_at edges i ≡ slice_index met (frame_at path n).place → i < (frame_at path n).next) → (frame_at path n).place ≤ (frame_at path n).low →
    Grouped marks marks' (drop (frame_at path n).place met) (length order) →
    Kept edges (walk_state_of marks' (take (frame_at path n).place met) (take n path) (order ++ drop (frame_at path n).place met))
close_lists edges marks marks' met path order n kept last followed low each =
    let place : ℕ = (frame_at path n).place in
    let inside : place < length met = kept.stands.placed n (omega arith) in
    close_kept edges (walk_state_of marks met path order) (walk_state_of marks' (take place met) (take n path) (order ++ drop place met)) n kept
    (closed marks marks' met path order n place (omega arith) (omega arith) each) last followed low

-- the frame read at the end of the path
pub frame_read : (path : List Visit) (n at : ℕ) (x : Visit) → at ≡ n → n < length path → x ≡ get_or path at x → x ≡ frame_at path n
frame_read path n at x same inside read = read ∙ (ap (λ k. get_or path k x) same ∙ get_or_default path n x nowhere inside)
