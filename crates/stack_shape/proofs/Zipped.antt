-- Statements about two lists, place by place.
use Rattle.std.proofs.Common.{◌≡◌, ℕ, zero, suc, ◌<◌, Bool, true, false, List, [], ◌∷◌, ◌++◌, length, set, ◌≤◌, arith, rules, IsTrue, ◌↔◌}
use Rattle.std.specs.Prelude.{MatchBool}
use Rattle.std.specs.List.{AllZip, AllWithin, HoldsAt, zip}

module _ {A B : Type 0} (R : A → B → Type 0) where
  -- the last places, and those before them
  pub AllZip-last : (xs : List A) (ys : List B) (x : A) (y : B) → AllZip R (xs ++ x ∷ []) (ys ++ y ∷ []) → AllZip R xs ys × R x y
  AllZip-last [] [] x y h = (tt, h.0)
  AllZip-last [] (b ∷ []) x y h = absurd h.1
  AllZip-last [] (b ∷ c ∷ ys) x y h = absurd h.1
  AllZip-last (a ∷ []) [] x y h = absurd h.1
  AllZip-last (a ∷ c ∷ xs) [] x y h = absurd h.1
  AllZip-last (a ∷ xs) (b ∷ ys) x y h = let k = AllZip-last xs ys x y h.1 in ((h.0, k.0), k.1)

  -- one place is replaced in both lists
  pub AllZip-set : (xs : List A) (ys : List B) (k : ℕ) (x : A) (y : B) → AllZip R xs ys → R x y → AllZip R (set xs k x) (set ys k y)
  AllZip-set [] [] k x y h r = tt
  AllZip-set [] (b ∷ ys) k x y h r = absurd h
  AllZip-set (a ∷ xs) [] k x y h r = absurd h
  AllZip-set (a ∷ xs) (b ∷ ys) zero x y h r = (r, h.1)
  AllZip-set (a ∷ xs) (b ∷ ys) (suc k) x y h r = (h.0, AllZip-set xs ys k x y h.1 r)

  -- a place past the ends is not replaced
  pub AllZip-past : (xs : List A) (ys : List B) (k : ℕ) (y : B) → length xs ≤ k → AllZip R xs ys → AllZip R xs (set ys k y)
  AllZip-past [] [] k y l h = tt
  AllZip-past [] (b ∷ ys) k y l h = absurd h
  AllZip-past (a ∷ xs) [] k y l h = absurd h
  AllZip-past (a ∷ xs) (b ∷ ys) zero y l h = absurd (omega arith)
  AllZip-past (a ∷ xs) (b ∷ ys) (suc k) y l h = (h.0, AllZip-past xs ys k y (omega arith) h.1)

  -- a relation at each place relates the lists
  each_zipped : (xs : List A) (ys : List B) → length xs ≡ length ys → AllWithin (λ p. R p.0 p.1) (zip xs ys) 0 (length (zip xs ys)) → AllZip R xs ys
  each_zipped [] [] e h = tt
  each_zipped [] (y ∷ ys) e h = absurd (omega arith)
  each_zipped (x ∷ xs) [] e h = absurd (omega arith)
  each_zipped (x ∷ xs) (y ∷ ys) e h =
      (h 0 (x, y) (omega arith) (omega arith), each_zipped xs ys (omega arith) (λ k d p q. h (suc k) d (omega arith) (omega arith)))

  none_zipped : (xs : List A) (ys : List B) (k : ℕ) → k < length (zip xs ys) → HoldsAt (λ p. R p.0 p.1 → ⊥) (zip xs ys) k → AllZip R xs ys → ⊥
  none_zipped [] ys k l h z = omega arith
  none_zipped (x ∷ xs) [] k l h z = z
  none_zipped (x ∷ xs) (y ∷ ys) zero l h z = h (x, y) z.0
  none_zipped (x ∷ xs) (y ∷ ys) (suc k) l h z = none_zipped xs ys k (omega arith) h z.1

  -- a test at each place decides whether the lists are related
  pub tested : (xs : List A) (ys : List B) (r : Bool) → length xs ≡ length ys → MatchBool r (AllWithin (λ p. R p.0 p.1) (zip xs ys) 0 (length (zip xs ys))) ((k : ℕ) × (k < length (zip xs ys)) × HoldsAt (λ p. R p.0 p.1 → ⊥) (zip xs ys) k) → IsTrue r ↔ AllZip R xs ys
  tested xs ys true e h = (λ t. each_zipped xs ys e h, λ z. search rules)
  tested xs ys false e h = (λ t. absurd (search rules), λ z. absurd (none_zipped xs ys h.0 h.1 h.2 z))

-- a reflexive relation relates a list to itself
pub AllZip-itself : {A : Type 0} (R : A → A → Type 0) → ((x : A) → R x x) → (xs : List A) → AllZip R xs xs
AllZip-itself R r [] = tt
AllZip-itself R r (x ∷ xs) = (r x, AllZip-itself R r xs)

-- two relations compose along three lists
pub AllZip-along : {A B C : Type 0} (R : A → B → Type 0) (S : B → C → Type 0) (T : A → C → Type 0) → ((x : A) (y : B) (z : C) → R x y → S y z → T x z) → (xs : List A) (ys : List B) (zs : List C) → AllZip R xs ys → AllZip S ys zs → AllZip T xs zs
AllZip-along R S T t [] [] [] h k = tt
AllZip-along R S T t [] [] (z ∷ zs) h k = absurd k
AllZip-along R S T t [] (y ∷ ys) zs h k = absurd h
AllZip-along R S T t (x ∷ xs) [] zs h k = absurd h
AllZip-along R S T t (x ∷ xs) (y ∷ ys) [] h k = absurd k
AllZip-along R S T t (x ∷ xs) (y ∷ ys) (z ∷ zs) h k = (t x y z h.0 k.0, AllZip-along R S T t xs ys zs h.1 k.1)
