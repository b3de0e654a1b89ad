-- Rows whose shapes and flag parts are stored by number: what they say once more are stored, and their order.
use Rattle.std.proofs.Common.{◌≡◌, ◌<◌, ◌≤◌, Bool, true, false, nat_lt, ℕ, zero, suc, List, [], ◌∷◌, ◌++◌, length, map, get_or, slice_get, Some, unwrap_or, refl, sym, ap, subst, ◌∙◌, arith}
use Rattle.std.specs.List.{slice_index_or}
use Rattle.std.specs.List.Sorted.{IsNonDecreasingBy, IsPartitionPoint}
use Rattle.std.proofs.lemmas.List.{map_push}
use Rattle.std.proofs.lemmas.Option.{none-some, same_Some, slice_get_within, get_or_from_slice_get, unwrap_or-slice_get}
use borrow.Author.Tests.{ltb-true, ltb-false}
use Rattle.cert_lines.specs.declared.row.Row.{Row}
use Rattle.cert_form.specs.Form.{RisePlaces, place_number}
use Rattle.cert_form.proofs.Lists.{all_push, same_cons}
use Rattle.cert_form.specs.Rows.{HaveNumbers, HasNumbers, KeepsNumbers, as_told, told_row}
use Rattle.cert_form.specs.declared.rows.NumberedRow.{NumberedRow}
use Rattle.flag_letters.specs.declared.part.FlagPart.{FlagPart}
use Rattle.stack_shape.specs.declared.slot.Slot.{Slot}

-- what is stored keeps its numbers
pub keeps : {X : Type 0} (old new : List X) → length old ≤ length new →
    ((n : ℕ) → n < length old → slice_get new n ≡ slice_get old n) → KeepsNumbers old new
keeps old new longer kept = record { longer = longer; kept = kept }

pub keeps_itself : {X : Type 0} (xs : List X) → KeepsNumbers xs xs
keeps_itself xs = record { longer = omega arith; kept = λ n within. refl }

-- what has a number that is kept
same_item : {X : Type 0} (old new : List (List X)) (n : ℕ) → slice_get new n ≡ slice_get old n →
    slice_index_or new n [] ≡ slice_index_or old n []
same_item old new n same =
    sym (unwrap_or-slice_get new n []) ∙ ap (λ o. unwrap_or o []) same ∙ unwrap_or-slice_get old n []

-- more shapes and more flag parts are stored, and all keep their numbers
module _ (old new : List (List Slot)) (before after : List (List FlagPart)) (shapes : KeepsNumbers old new)
    (parts : KeepsNumbers before after) where
  -- a row says the same
  pub same_row : (row : NumberedRow) → HasNumbers old before row → as_told new after row ≡ as_told old before row
  same_row row has =
      ap (λ shape. told_row row shape (slice_index_or after row.parts [])) (same_item old new row.shape (shapes.kept row.shape has.0))
      ∙ ap (told_row row (slice_index_or old row.shape [])) (same_item before after row.parts (parts.kept row.parts has.1))

  -- and so do rows
  pub same_rows : (rows : List NumberedRow) → HaveNumbers old before rows → map (as_told new after) rows ≡ map (as_told old before) rows
  same_rows [] have = refl
  same_rows (row ∷ rows) have =
      same_cons (as_told new after row) (as_told old before row) _ _ (same_row row have.0) (same_rows rows have.1)

  -- their numbers are still numbers
  pub still_numbered : (rows : List NumberedRow) → HaveNumbers old before rows → HaveNumbers new after rows
  still_numbered [] have = tt
  still_numbered (row ∷ rows) have =
      ((omega (arith, shapes.longer, have.0.0), omega (arith, parts.longer, have.0.1)), still_numbered rows have.1)

  -- one more row has numbers, of a shape and flag parts that are stored
  module _ (rows : List NumberedRow) (row : NumberedRow) (shape : List Slot) (told : List FlagPart)
      (have : HaveNumbers old before rows) (has_shape : slice_get new row.shape ≡ Some shape)
      (has_parts : slice_get after row.parts ≡ Some told) where
    pub numbered_push : HaveNumbers new after (rows ++ row ∷ [])
    numbered_push =
        all_push (HasNumbers new after) rows row (still_numbered rows have)
        (slice_get_within new row.shape shape has_shape, slice_get_within after row.parts told has_parts)

    -- and is told with them
    pub rows_push : map (as_told new after) (rows ++ row ∷ []) ≡ map (as_told old before) rows ++ told_row row shape told ∷ []
    rows_push =
        map_push (as_told new after) rows row
        ∙ ap (λ all. all ++ as_told new after row ∷ []) (same_rows rows have)
        ∙ ap (λ one. map (as_told old before) rows ++ told_row row one (slice_index_or after row.parts []) ∷ [])
        (get_or_from_slice_get new row.shape shape [] has_shape)
        ∙ ap (λ one. map (as_told old before) rows ++ told_row row shape one ∷ [])
        (get_or_from_slice_get after row.parts told [] has_parts)

-- the rows after the first rise too
rising_tail : (shapes : List (List Slot)) (parts : List (List FlagPart)) (row : NumberedRow) (rows : List NumberedRow) →
    RisePlaces (map (as_told shapes parts) (row ∷ rows)) → RisePlaces (map (as_told shapes parts) rows)
rising_tail shapes parts row [] rise = tt
rising_tail shapes parts row (next ∷ rows) rise = rise.1

-- if rows rise, none is before the first
first_is_least : (shapes : List (List Slot)) (parts : List (List FlagPart)) (row : NumberedRow) (rows : List NumberedRow) →
    RisePlaces (map (as_told shapes parts) (row ∷ rows)) → (k : ℕ) (d : NumberedRow) → k < length rows →
    place_number row.proc row.address ≤ place_number (get_or rows k d).proc (get_or rows k d).address
first_is_least shapes parts row [] rise k d within = absurd (omega (arith, within))
first_is_least shapes parts row (next ∷ rows) rise zero d within = rise.0
first_is_least shapes parts row (next ∷ rows) rise (suc k) d within =
    omega (arith, rise.0, first_is_least shapes parts next rows rise.1 k d (omega (arith, within)))

-- rows that rise are ordered by the numbers of their places
pub in_order : (shapes : List (List Slot)) (parts : List (List FlagPart)) (rows : List NumberedRow) → RisePlaces (map (as_told shapes parts) rows) →
    IsNonDecreasingBy (λ row. place_number row.proc row.address) rows
in_order shapes parts [] rise i j d order within = absurd (omega (arith, within))
in_order shapes parts (row ∷ rows) rise zero zero d order within = omega arith
in_order shapes parts (row ∷ rows) rise zero (suc j) d order within = first_is_least shapes parts row rows rise j d (omega (arith, within))
in_order shapes parts (row ∷ rows) rise (suc i) zero d order within = absurd (omega (arith, order))
in_order shapes parts (row ∷ rows) rise (suc i) (suc j) d order within =
    in_order shapes parts rows (rising_tail shapes parts row rows rise) i j d (omega (arith, order)) (omega (arith, within))

-- a row is the numbered row with the same number, and has its place
pub numbered_at : (shapes : List (List Slot)) (parts : List (List FlagPart)) (rows : List NumberedRow) (k : ℕ) (row : Row) →
    slice_get (map (as_told shapes parts) rows) k ≡ Some row → (numbered : NumberedRow) × (k < length rows)
    × (place_number (get_or rows k numbered).proc (get_or rows k numbered).address ≡ place_number row.proc row.address)
numbered_at shapes parts [] k row e = absurd (none-some row e)
numbered_at shapes parts (numbered ∷ rows) zero row e =
    (numbered, omega arith, ap (λ (r : Row). place_number r.proc r.address) (same_Some (as_told shapes parts numbered) row e))
numbered_at shapes parts (first ∷ rows) (suc k) row e =
    let (numbered, within, same) = numbered_at shapes parts rows k row e in
    (numbered, omega (arith, within), same)

-- whether a row is before the place with this number
abbrev pub stands_before : ℕ → NumberedRow → Bool
stands_before number row = nat_lt (place_number row.proc row.address) number

-- exactly the first `count` rows are before the place with this number
abbrev pub PartsRows : ℕ → List NumberedRow → ℕ → Type 0
PartsRows number rows count = IsPartitionPoint (λ r. stands_before number r ≡ true) (λ r. stands_before number r ≡ false) rows count

-- a row with a number below that count is before the place
pub rows_below : (number : ℕ) (shapes : List (List Slot)) (parts : List (List FlagPart)) (rows : List NumberedRow) (count k : ℕ) (row : Row) →
    PartsRows number rows count → slice_get (map (as_told shapes parts) rows) k ≡ Some row → k < count →
    place_number row.proc row.address < number
rows_below number shapes parts rows count k row parted is below =
    let (numbered, within, same) = numbered_at shapes parts rows k row is in
    subst (λ n. n < number) same (ltb-true _ _ (parted.0 k numbered (omega arith) below))

-- the others do not
pub rows_above : (number : ℕ) (shapes : List (List Slot)) (parts : List (List FlagPart)) (rows : List NumberedRow) (count k : ℕ) (row : Row) →
    PartsRows number rows count → slice_get (map (as_told shapes parts) rows) k ≡ Some row → count ≤ k →
    number ≤ place_number row.proc row.address
rows_above number shapes parts rows count k row parted is above =
    let (numbered, within, same) = numbered_at shapes parts rows k row is in
    subst (λ n. number ≤ n) same (ltb-false _ _ (parted.1 k numbered above within))
