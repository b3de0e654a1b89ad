-- Texts that are cut at the first byte of a kind.
use Rattle.std.proofs.Common.{◌≡◌, ◌==◌, ℕ, true, false, not, List, [], ◌∷◌, ◌++◌, length, refl, sym, ap, ◌∙◌, arith}
use Rattle.std.proofs.lemmas.Bool.{and_parts, not-true, both_ways, eq-eqb}
use Rattle.std.proofs.lemmas.List.{append_cancel_left}
use Rattle.std.proofs.lemmas.List.Elements.{All-from_recursion}
use Rattle.std.proofs.lemmas.List.Splits.{slice_split_at, length-slice_split}
use Rattle.std.specs.List.{AllByRecursion, list_all, slice_split}

-- no byte of the text is this one
abbrev pub Lacks : ℕ → List ℕ → Type 0
Lacks m text = AllByRecursion (λ b. (b == m) ≡ false) text

pub lacks_from_test : (m : ℕ) (text : List ℕ) → list_all (λ b. not (b == m)) text ≡ true → Lacks m text
lacks_from_test m [] test = tt
lacks_from_test m (b ∷ text) test =
    let parts = and_parts _ _ test in
    (not-true _ parts.0, lacks_from_test m text parts.1)

pub lacks_append : (m : ℕ) (a b : List ℕ) → Lacks m a → Lacks m b → Lacks m (a ++ b)
lacks_append m [] b h k = k
lacks_append m (x ∷ a) b h k = (h.0, lacks_append m a b h.1 k)

pub lacks_none : (m : ℕ) (a b : List ℕ) → Lacks m (a ++ m ∷ b) → ⊥
lacks_none m [] b h = both_ways _ h.0 (eq-eqb m m refl)
lacks_none m (x ∷ a) b h = lacks_none m a b h.1

cons_head : (x y : List ℕ) (xs ys : List (List ℕ)) → x ∷ xs ≡ y ∷ ys → x ≡ y
cons_head x y xs ys e = cc

cons_two : (x y : List ℕ) (ys : List (List ℕ)) → (x ∷ []) ≡ y ∷ ys → ys ≡ []
cons_two x y ys e = cc

-- a text with such a byte, cut there
module _ (m : ℕ) (text front behind : List ℕ) (lacks : Lacks m front) (is : text ≡ front ++ m ∷ behind) where
  parts_there : slice_split (λ b. b == m) text ≡ front ∷ slice_split (λ b. b == m) behind
  parts_there = ap (λ xs. slice_split (λ b. b == m) xs) is ∙ slice_split_at (λ b. b == m) front m behind (All-from_recursion _ front lacks) (eq-eqb m m refl)

  -- the cut is the one at the first such byte
  pub cut_front : (x : List ℕ) (rest : List (List ℕ)) → slice_split (λ b. b == m) text ≡ x ∷ rest → x ≡ front
  cut_front x rest parts = cons_head _ _ _ _ (sym parts ∙ parts_there)

  pub cut_behind : (x y : List ℕ) (rest : List (List ℕ)) → text ≡ x ++ m ∷ y → slice_split (λ b. b == m) text ≡ x ∷ rest → y ≡ behind
  cut_behind x y rest cut parts =
      let same = cut_front x rest parts in
      let whole : front ++ m ∷ y ≡ front ++ m ∷ behind = ap (λ z. z ++ m ∷ y) (sym same) ∙ sym cut ∙ is in
      let left = append_cancel_left front _ _ whole in
      cc

  -- and there is one
  pub cut_somewhere : slice_split (λ b. b == m) text ≡ text ∷ [] → ⊥
  cut_somewhere whole =
      let none : slice_split (λ b. b == m) behind ≡ [] = cons_two _ _ _ (sym whole ∙ parts_there) in
      absurd (omega (arith, length-slice_split (λ b. b == m) behind, ap length none))

-- two texts that are cut at the first such byte are cut alike
module _ (m : ℕ) (a b c d : List ℕ) (lacks : Lacks m a) (too : Lacks m c) (same : a ++ m ∷ b ≡ c ++ m ∷ d) where
  pub same_front : a ≡ c
  same_front = cut_front m (a ++ m ∷ b) c d too same a (slice_split (λ x. x == m) b) (parts_there m (a ++ m ∷ b) a b lacks refl)

  pub same_behind : b ≡ d
  same_behind =
      let left = append_cancel_left c (m ∷ b) (m ∷ d) (ap (λ x. x ++ m ∷ b) (sym same_front) ∙ same) in
      cc
