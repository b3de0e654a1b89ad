-- One more term at the end of a linear.
use Rattle.std.proofs.Common.{◌≡◌, ◌≢◌, ℕ, suc, ◌+◌, ◌-◌, ◌<◌, ◌≤◌, List, [], ◌∷◌, ◌++◌, length, get_or, take, set, replicate, ℤ, refl, sym, subst, ap, ◌∙◌, arith, append_assoc, length-append, All, unsigned_abs}
use Rattle.std.proofs.Math.Seq.{set-append_seam}
use Rattle.std.proofs.lemmas.List.{take_more_set, get_or_append_left}
use Rattle.std.proofs.lemmas.List.Elements.{All-push}
use Rattle.std.proofs.lemmas.List.Quantifiers.{all_pairs_push}
use Rattle.loop_bounds.specs.declared.linear.Term.{Term}
use Rattle.loop_bounds.specs.Variable.{rank_of}
use Rattle.loop_bounds.specs.Linear.{LinearView, IsLinear, IsStored, extended, padding, padded}
use Rattle.loop_bounds.specs.LinearLaws.{length-stored, length-front}

set_padded : (xs : List Term) (t : Term) (k : ℕ) → set (xs ++ replicate (suc k) padding) (length xs) t ≡ (xs ++ t ∷ []) ++ replicate k padding
set_padded xs t k = set-append_seam xs padding (replicate k padding) t ∙ sym (append_assoc xs (t ∷ []) (replicate k padding))

set_in_padded : (xs ys : List Term) (t : Term) → length xs < 3 → ys ≡ padded xs → set ys (length xs) t ≡ padded (xs ++ t ∷ [])
set_in_padded xs ys t h e =
    let k = 2 - length xs in
    let before : 3 - length xs ≡ suc k = omega arith in
    let after : 3 - length (xs ++ t ∷ []) ≡ k = omega (arith, length-append xs (t ∷ [])) in
    ap (λ zs. set zs (length xs) t) e
    ∙ ap (λ n. set (xs ++ replicate n padding) (length xs) t) before
    ∙ set_padded xs t k
    ∙ ap (λ n. (xs ++ t ∷ []) ++ replicate n padding) (sym after)

pub stored_more : (c : ℤ) (terms : List Term) (count : ℕ) (t : Term) → IsStored c terms count → IsLinear (extended (record { constant = c; terms = take count terms }) t) → IsStored c (set terms count t) (count + 1)
stored_more c terms count t h l =
    let three = length-stored c terms count h in
    let front = length-front c terms count h in
    let room : count < 3 = omega (arith, length-append (take count terms) (t ∷ []), l.count) in
    let more = take_more_set terms count t (omega arith) in
    record {
      linear = rw more l;
      rest = rw more (subst (λ n. set terms n t ≡ padded (take count terms ++ t ∷ [])) front (set_in_padded (take count terms) terms t (omega arith) h.rest));
      within = omega arith;
    }

abbrev IsBefore : Term → Term → Type 0
IsBefore t u = rank_of t.variable < rank_of u.variable

abbrev IsSmall : Term → Type 0
IsSmall t = (0 < unsigned_abs t.coefficient) × (unsigned_abs t.coefficient ≤ 1000000)

pub extended_from : (s : LinearView) (t : Term) → IsLinear s → length s.terms < 3 → IsSmall t → All (λ u. IsBefore u t) s.terms → IsLinear (extended s t)
extended_from s t h room small before = record {
  constant = h.constant;
  count = omega (arith, length-append s.terms (t ∷ []));
  coefficients = All-push IsSmall s.terms t h.coefficients small;
  rising = all_pairs_push IsBefore s.terms t h.rising before;
}

pub at_end : (ts : List Term) (t d : Term) → get_or (ts ++ t ∷ []) (length ts) d ≡ t
at_end [] t d = refl
at_end (x ∷ ts) t d = at_end ts t d

at_front : (ts : List Term) (t d : Term) (k : ℕ) → k < length ts → get_or (ts ++ t ∷ []) k d ≡ get_or ts k d
at_front ts t d k h = get_or_append_left ts (t ∷ []) d k h

pub extended_gives : (s : LinearView) (t : Term) → IsLinear (extended s t) → (length s.terms < 3) × IsSmall t × All (λ u. IsBefore u t) s.terms
extended_gives s t h =
    let longer = length-append s.terms (t ∷ []) in
    let small = h.coefficients (length s.terms) t (omega arith) in (
      omega (arith, h.count),
      subst IsSmall (at_end s.terms t t) small,
      λ k d p. subst (λ u. IsBefore u t) (at_front s.terms t d k p)
          (subst (λ u. IsBefore (get_or (s.terms ++ t ∷ []) k d) u) (at_end s.terms t d) (h.rising k (length s.terms) d p (omega arith))),
    )

pub room_below : (s : LinearView) (c : ℤ) (terms : List Term) (count : ℕ) → IsStored c terms count → ◌≡◌ {A = LinearView} (record { constant = c; terms = take count terms }) s → count ≢ 3 → length s.terms < 3
room_below s c terms count h e other =
    let front = length-front c terms count h in
    let same : length (take count terms) ≡ length s.terms = ap (λ (t : LinearView). length t.terms) e in
    omega (arith, h.within)
