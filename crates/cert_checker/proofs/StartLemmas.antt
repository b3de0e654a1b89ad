-- The addresses of a certificate's rows, gathered row by row.
use Rattle.std.proofs.Common.{◌≡◌, ◌≢◌, ◌+◌, ◌==◌, ◌||◌, inl, inr, ℕ, Bool, true, false, List, take, get_or, slice_get, Some, None, refl, sym, ap, ◌∙◌, arith}
use Rattle.std.proofs.lemmas.Bool.{cases_eq}
use Rattle.std.proofs.lemmas.Option.{slice_get_cases, slice_get_within, get_or_from_slice_get}
use Rattle.std.proofs.lemmas.Grind.{common_steps}
use Rattle.std.proofs.lemmas.List.{take_all}
use Rattle.std.proofs.lemmas.List.Folds.{list_any_more}
use Rattle.cert_lines.specs.declared.row.Row.{Row}
use Rattle.check_laws.specs.Profile.{has_row}

-- whether a row stands at an address
abbrev stands_at : ℕ → Row → Bool
stands_at address row = row.address == address

-- if there is no row with the next number, one more row taken is no change
pub none_taken : (rows : List Row) (n : ℕ) → slice_get rows n ≡ None → take (n + 1) rows ≡ take n rows
none_taken rows n none =
    elim (slice_get_cases rows n).1 [
      | inl (row, within, some, is) ↦ cc
      | inr (past, is) ↦ take_all (n + 1) rows (omega arith) ∙ sym (take_all n rows past)
    ]

stands_there : (row : Row) (address : ℕ) → address ≡ row.address → stands_at address row ≡ true
stands_there row address e = grind (arith, common_steps)

stands_elsewhere : (row : Row) (address : ℕ) → address ≢ row.address → stands_at address row ≡ false
stands_elsewhere row address ne = grind (arith, common_steps)

or_true : (b : Bool) → (b || true) ≡ true
or_true true = refl
or_true false = refl

or_false : (b : Bool) → (b || false) ≡ b
or_false true = refl
or_false false = refl

-- one more address among the starts
pub more_starts : (rows : List Row) (n : ℕ) (row : Row) (at : ℕ) (old new : ℕ → Bool) → slice_get rows n ≡ Some row → at ≡ row.address →
    ((address : ℕ) → old address ≡ has_row (take n rows) address) → new at ≡ true → ((other : ℕ) → other ≢ at → new other ≡ old other) →
    (address : ℕ) → new address ≡ has_row (take (n + 1) rows) address
more_starts rows n row at old new is stands so_far added others address =
    let here : get_or rows n row ≡ row = get_or_from_slice_get rows n row row is in
    let split : has_row (take (n + 1) rows) address ≡ (has_row (take n rows) address || stands_at address row) =
    list_any_more (stands_at address) rows n row (slice_get_within rows n row is) ∙ ap (λ (r : Row). has_row (take n rows) address || stands_at address r) here in
    elim (cases_eq address at) [
      | inl same ↦
          ap new same ∙ added ∙ sym (split ∙ ap (λ (b : Bool). has_row (take n rows) address || b) (stands_there row address (same ∙ stands)) ∙ or_true (has_row (take n rows) address))
      | inr other ↦
          others address other ∙ so_far address ∙
          sym (split ∙ ap (λ (b : Bool). has_row (take n rows) address || b) (stands_elsewhere row address (λ e. other (e ∙ sym stands))) ∙ or_false (has_row (take n rows) address))
    ]
