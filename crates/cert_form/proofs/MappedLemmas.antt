-- Lists in which the first elements, or all, are changed.
use Rattle.std.proofs.Common.{◌≡◌, ◌<◌, ◌≤◌, ℕ, zero, suc, List, [], ◌∷◌, length, map, get_or, set, refl, sym, ap, subst, ◌∙◌, arith}
use Rattle.std.specs.List.{AllByRecursion}
use Rattle.std.proofs.lemmas.List.{get_or-map, length-map, map-set}
use Rattle.cert_form.specs.Form.{Follow}
use Rattle.cert_form.specs.Migrated.{row_with_parts}
use Rattle.cert_form.specs.Rows.{HasNumbers, HaveNumbers, KeepsNumbers, as_told}
use Rattle.cert_form.specs.declared.rows.NumberedRow.{NumberedRow}
use Rattle.cert_form.proofs.Lists.{same_cons}
use Rattle.cert_form.proofs.RowLemmas.{keeps_itself, same_rows, still_numbered}
use Rattle.flag_letters.specs.declared.part.FlagPart.{FlagPart}
use Rattle.stack_shape.specs.declared.slot.Slot.{Slot}

-- a list whose first elements, so many of them, are changed
abbrev pub first_changed : {X : Type 0} → (X → X) → ℕ → List X → List X
first_changed change zero xs = xs
first_changed change (suc n) [] = []
first_changed change (suc n) (x ∷ xs) = change x ∷ first_changed change n xs

pub length_first : {X : Type 0} (change : X → X) (n : ℕ) (xs : List X) → length (first_changed change n xs) ≡ length xs
length_first change zero xs = refl
length_first change (suc n) [] = refl
length_first change (suc n) (x ∷ xs) = ap suc (length_first change n xs)

-- a write of the next changed element changes one more
pub one_more_changed : {X : Type 0} (change : X → X) (xs : List X) (n : ℕ) (old new : X) → n < length xs →
    old ≡ get_or (first_changed change n xs) n old → new ≡ change old →
    set (first_changed change n xs) n new ≡ first_changed change (suc n) xs
one_more_changed change [] n old new within at same = absurd (omega (arith, within))
one_more_changed change (x ∷ xs) zero old new within at same = same_cons new (change x) _ _ (same ∙ ap change at) refl
one_more_changed change (x ∷ xs) (suc n) old new within at same =
    same_cons (change x) (change x) _ _ refl (one_more_changed change xs n old new (omega (arith, within)) at same)

-- all are changed
pub all_are_changed : {X : Type 0} (change : X → X) (n : ℕ) (xs : List X) → length xs ≤ n → first_changed change n xs ≡ map change xs
all_are_changed change zero [] past = refl
all_are_changed change zero (x ∷ xs) past = absurd (omega (arith, past))
all_are_changed change (suc n) [] past = refl
all_are_changed change (suc n) (x ∷ xs) past = same_cons (change x) (change x) _ _ refl (all_are_changed change n xs (omega (arith, past)))

-- a change that keeps each relation to a neighbour keeps the order
pub follow_map : {X Y : Type 0} (R : X → X → Type 0) (S : Y → Y → Type 0) (change : X → Y) →
    ((x y : X) → R x y → S (change x) (change y)) → (xs : List X) → Follow R xs → Follow S (map change xs)
follow_map R S change kept [] follow = tt
follow_map R S change kept (x ∷ []) follow = tt
follow_map R S change kept (x ∷ y ∷ xs) follow = (kept x y follow.0, follow_map R S change kept (y ∷ xs) follow.1)

-- ---- rows whose flag facts are written as flag parts

-- the first n rows have flag parts in place of flag facts
pub record Told (shapes : List (List Slot)) (before after : List (List FlagPart)) (old new : List NumberedRow) (n : ℕ) : Type 0 where
  pub numbered : HaveNumbers shapes after new
  pub told : map (as_told shapes after) new ≡ first_changed row_with_parts n (map (as_told shapes before) old)

-- a list in which one element is written has what each has
all_set : {X : Type 0} (P : X → Type 0) (xs : List X) (n : ℕ) (x : X) → AllByRecursion P xs → P x → AllByRecursion P (set xs n x)
all_set P [] n x all one = tt
all_set P (y ∷ xs) zero x all one = (one, all.1)
all_set P (y ∷ xs) (suc n) x all one = (all.0, all_set P xs n x all.1 one)

all_get : {X : Type 0} (P : X → Type 0) (xs : List X) (n : ℕ) (d : X) → AllByRecursion P xs → n < length xs → P (get_or xs n d)
all_get P [] n d all within = absurd (omega (arith, within))
all_get P (x ∷ xs) zero d all within = all.0
all_get P (x ∷ xs) (suc n) d all within = all_get P xs n d all.1 (omega (arith, within))

-- the number of rows stays
same_count : (shapes : List (List Slot)) (before after : List (List FlagPart)) (old new : List NumberedRow) (n : ℕ) →
    Told shapes before after old new n → length new ≡ length old
same_count shapes before after old new n t =
    omega (
      arith,
      length-map new (as_told shapes after),
      ap length t.told,
      length_first row_with_parts n (map (as_told shapes before) old),
      length-map old (as_told shapes before),
    )

-- one more row is written, and maybe more flag parts are stored
module _ (shapes : List (List Slot)) (before after more : List (List FlagPart)) (old new : List NumberedRow) (n : ℕ)
    (row written : NumberedRow) (within : n < length old) (at : row ≡ get_or new n row) (kept : KeepsNumbers after more)
    (numbered : HasNumbers shapes after row → HasNumbers shapes more written) (t : Told shapes before after old new n) where
  in_new : n < length new
  in_new = omega (arith, within, same_count shapes before after old new n t)

  has : HasNumbers shapes after row
  has = subst (HasNumbers shapes after) (sym at) (all_get (HasNumbers shapes after) new n row t.numbered in_new)

  -- then all still have numbers
  pub write_numbered : HaveNumbers shapes more (set new n written)
  write_numbered =
      all_set (HasNumbers shapes more) new n written
      (still_numbered shapes shapes after more (keeps_itself shapes) kept new t.numbered) (numbered has)

  -- and one more row is told by flag parts
  pub one_more_told : (HasNumbers shapes after row → as_told shapes more written ≡ row_with_parts (as_told shapes after row)) →
      Told shapes before more old (set new n written) (suc n)
  one_more_told changed = record {
    numbered = write_numbered;
    told =
        map-set (as_told shapes more) new n written
        ∙ ap (λ rows. set rows n (as_told shapes more written))
        (same_rows shapes shapes after more (keeps_itself shapes) kept new t.numbered ∙ t.told)
        ∙ one_more_changed row_with_parts (map (as_told shapes before) old) n (as_told shapes after row) (as_told shapes more written)
        (omega (arith, within, length-map old (as_told shapes before)))
        (ap (as_told shapes after) at ∙ sym (get_or-map (as_told shapes after) new n row (as_told shapes after row) in_new)
        ∙ ap (λ rows. get_or rows n (as_told shapes after row)) t.told)
        (changed has);
  }

-- in the end all rows are
pub all_told : (shapes : List (List Slot)) (before after : List (List FlagPart)) (old new : List NumberedRow) (n : ℕ) → length old ≤ n →
    Told shapes before after old new n → map (as_told shapes after) new ≡ map row_with_parts (map (as_told shapes before) old)
all_told shapes before after old new n past t =
    t.told ∙ all_are_changed row_with_parts n (map (as_told shapes before) old) (omega (arith, past, length-map old (as_told shapes before)))
