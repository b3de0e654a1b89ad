-- Lists whose texts have commas between them.
use Rattle.std.proofs.Common.{◌≡◌, ◌==◌, ◌+◌, ◌<◌, ◌≤◌, ℕ, List, [], ◌∷◌, ◌++◌, length, map, codes, refl, sym, ap, ◌∙◌, inl, inr, arith, append_assoc}
use Rattle.std.proofs.lemmas.Bool.{cases_Bool}
use Rattle.std.proofs.lemmas.List.{append-nil, map-append}
use Rattle.std.proofs.lemmas.List.Elements.{All-from_recursion}
use Rattle.std.proofs.lemmas.List.Splits.{slice_split-cons_yes, slice_split-cons_no, slice_split_none, slice_split_at, length-slice_split, join_with_byte-slice_split}
use Rattle.std.specs.List.{AllByRecursion, join_with_byte, onto_first}
use Rattle.texts.specs.Fields.{parts_of}
use Rattle.cert_fields.specs.Facts.{list_text}
use Rattle.cert_fields.proofs.CutLemmas.{Lacks}

-- the parts of texts that are joined by commas
join_parts : (first : List ℕ) (others : List (List ℕ)) → AllByRecursion (Lacks 44) (first ∷ others) → parts_of 44 (join_with_byte 44 (first ∷ others)) ≡ first ∷ others
join_parts first [] lack = slice_split_none (λ b. b == 44) first (All-from_recursion _ first lack.0)
join_parts first (next ∷ others) lack =
    slice_split_at (λ b. b == 44) first 44 (join_with_byte 44 (next ∷ others)) (All-from_recursion _ first lack.0) refl
    ∙ ap (λ rest. first ∷ rest) (join_parts next others lack.1)

cons_both : (x y : List ℕ) (xs ys : List (List ℕ)) → x ∷ xs ≡ y ∷ ys → (x ≡ y) × (xs ≡ ys)
cons_both x y xs ys e = (cc, cc)

nil_not_cons : (x : List ℕ) (xs : List (List ℕ)) → [] ≡ x ∷ xs → ⊥
nil_not_cons x xs e = cc

pub all_more : {X : Type 0} (P : X → Type 0) (done : List X) (x : X) → AllByRecursion P done → P x → AllByRecursion P (done ++ x ∷ [])
all_more P [] x all here = (here, tt)
all_more P (d ∷ done) x all here = (all.0, all_more P done x all.1 here)

onto_some_keeps : (b : ℕ) (parts : List (List ℕ)) → 0 < length parts → length (onto_first b parts) ≡ length parts
onto_some_keeps b [] some = absurd (omega arith)
onto_some_keeps b (part ∷ parts) some = refl

-- a text has at most one more part than it has bytes
parts_at_most : (field : List ℕ) → length (parts_of 44 field) ≤ length field + 1
parts_at_most [] = omega arith
parts_at_most (b ∷ field) =
    let some = length-slice_split (λ x. x == 44) field in
    let less = parts_at_most field in
    elim (cases_Bool (b == 44)) [
      | inl comma ↦ omega (arith, ap length (slice_split-cons_yes (λ x. x == 44) b field comma))
      | inr other ↦ omega (arith, ap length (slice_split-cons_no (λ x. x == 44) b field other), onto_some_keeps b (parts_of 44 field) (omega arith))
    ]

-- and at most as many where the first is not empty
pub parts_bound : (field first : List ℕ) (others : List (List ℕ)) → parts_of 44 field ≡ first ∷ others → 0 < length first → length others < length field
parts_bound [] first others parts some = absurd (omega (arith, ap length (cons_both _ _ _ _ parts).0))
parts_bound (b ∷ field) first others parts some =
    let filled = length-slice_split (λ x. x == 44) field in
    let less = parts_at_most field in
    elim (cases_Bool (b == 44)) [
      | inl comma ↦ absurd (omega (arith, ap length (cons_both _ _ _ _ (sym (slice_split-cons_yes (λ x. x == 44) b field comma) ∙ parts)).0))
      | inr other ↦ omega (arith, ap length parts, ap length (slice_split-cons_no (λ x. x == 44) b field other), onto_some_keeps b (parts_of 44 field) (omega arith))
    ]

module _ {X : Type 0} (text : X → List ℕ) (InForm : X → Type 0) (lacks : (x : X) → InForm x → Lacks 44 (text x)) where
  all_lack : (xs : List X) → AllByRecursion InForm xs → AllByRecursion (Lacks 44) (map text xs)
  all_lack [] form = tt
  all_lack (x ∷ xs) form = (lacks x form.0, all_lack xs form.1)

  pub list_parts : (x : X) (xs : List X) → AllByRecursion InForm (x ∷ xs) → parts_of 44 (list_text (map text (x ∷ xs))) ≡ map text (x ∷ xs)
  list_parts x xs form = join_parts (text x) (map text xs) (all_lack (x ∷ xs) form)

  part_among : (xs : List X) (front : List (List ℕ)) (part : List ℕ) (left : List (List ℕ)) → AllByRecursion InForm xs → map text xs ≡ front ++ part ∷ left → (x : X) × InForm x × (part ≡ text x)
  part_among [] [] part left form e = absurd (nil_not_cons _ _ e)
  part_among [] (f ∷ front) part left form e = absurd (nil_not_cons _ _ e)
  part_among (x ∷ xs) [] part left form e = (x, form.0, sym (cons_both _ _ _ _ e).0)
  part_among (x ∷ xs) (f ∷ front) part left form e = part_among xs front part left form.1 (cons_both _ _ _ _ e).1

  -- a list one of whose parts is the text of no value in form
  pub list_stops : (field part : List ℕ) (front left : List (List ℕ)) → (field ≡ codes "-" → ⊥) → parts_of 44 field ≡ front ++ part ∷ left → ((x : X) → InForm x → part ≡ text x → ⊥) → (xs : List X) → AllByRecursion InForm xs → field ≡ list_text (map text xs) → ⊥
  list_stops field part front left other parts no_text [] form is = other is
  list_stops field part front left other parts no_text (x ∷ xs) form is =
      let (y, good, same) = part_among (x ∷ xs) front part left form (sym (list_parts x xs form) ∙ ap (λ f. parts_of 44 f) (sym is) ∙ parts) in
      no_text y good same

  -- a list all of whose parts were read
  pub list_ends : (field : List ℕ) (done : List X) → parts_of 44 field ≡ map text done ++ [] → field ≡ list_text (map text done)
  list_ends field [] parts = absurd (omega (arith, length-slice_split (λ b. b == 44) field, ap length parts))
  list_ends field (x ∷ done) parts =
      sym (join_with_byte-slice_split 44 field) ∙ ap (λ fields. join_with_byte 44 fields) (parts ∙ append-nil (map text (x ∷ done)))

  -- one more part
  pub list_more : (field : List ℕ) (old left : List (List ℕ)) (done : List X) (x : X) (part : List ℕ) → parts_of 44 field ≡ map text done ++ old → old ≡ part ∷ left → part ≡ text x → parts_of 44 field ≡ map text (done ++ x ∷ []) ++ left
  list_more field old left done x part parts taken is =
      parts ∙ ap (λ f. map text done ++ f) (taken ∙ ap (λ p. p ∷ left) is)
      ∙ sym (append_assoc (map text done) (text x ∷ []) left)
      ∙ ap (λ f. f ++ left) (sym (map-append text done (x ∷ [])))

  -- the values of a list's text
  module _ (no_dash : (x : X) → InForm x → text x ≡ codes "-" → ⊥) (injective : (x y : X) → InForm x → InForm y → text x ≡ text y → x ≡ y) where
    map_injective : (xs ys : List X) → AllByRecursion InForm xs → AllByRecursion InForm ys → map text xs ≡ map text ys → xs ≡ ys
    map_injective [] [] form too e = refl
    map_injective [] (y ∷ ys) form too e = absurd (nil_not_cons _ _ e)
    map_injective (x ∷ xs) [] form too e = absurd (nil_not_cons _ _ (sym e))
    map_injective (x ∷ xs) (y ∷ ys) form too e =
        let (first, others) = cons_both _ _ _ _ e in
        ap (λ z. z ∷ xs) (injective x y form.0 too.0 first) ∙ ap (λ zs. y ∷ zs) (map_injective xs ys form.1 too.1 others)

    dash_is_none : (x : X) (xs : List X) → AllByRecursion InForm (x ∷ xs) → codes "-" ≡ list_text (map text (x ∷ xs)) → ⊥
    dash_is_none x xs form e =
        let parts : (45 ∷ []) ∷ [] ≡ map text (x ∷ xs) = ap (λ f. parts_of 44 f) e ∙ list_parts x xs form in
        no_dash x form.0 (sym (cons_both _ _ _ _ parts).0)

    pub list_injective : (xs ys : List X) → AllByRecursion InForm xs → AllByRecursion InForm ys → list_text (map text xs) ≡ list_text (map text ys) → xs ≡ ys
    list_injective [] [] form too e = refl
    list_injective [] (y ∷ ys) form too e = absurd (dash_is_none y ys too e)
    list_injective (x ∷ xs) [] form too e = absurd (dash_is_none x xs form (sym e))
    list_injective (x ∷ xs) (y ∷ ys) form too e =
        map_injective (x ∷ xs) (y ∷ ys) form too (sym (list_parts x xs form) ∙ ap (λ f. parts_of 44 f) e ∙ list_parts y ys too)
