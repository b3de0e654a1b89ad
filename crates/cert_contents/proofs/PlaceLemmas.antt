-- The rows of a procedure and of one of its addresses, by the order of places.
use Rattle.std.proofs.Common.{◌≡◌, ◌<◌, ◌≤◌, ◌↔◌, ◌⊎◌, inl, inr, ℕ, zero, suc, List, [], ◌∷◌, Some, slice_get, subst, arith}
use Rattle.std.proofs.lemmas.Bool.{cases_lt}
use Rattle.std.specs.List.{AllByRecursion}
use Rattle.cert_lines.specs.Row.{IsPlace, place_of}
use Rattle.cert_lines.specs.declared.row.Row.{Row}
use Rattle.cert_form.specs.Contents.{CertificateView}
use Rattle.cert_form.specs.Form.{IsInForm, IsRowOf, place_number}

-- what holds of each element holds of the one with a number
all_get : {X : Type 0} (P : X → Type 0) (xs : List X) (k : ℕ) (x : X) → AllByRecursion P xs → slice_get xs k ≡ Some x → P x
all_get P [] k x h e = cc
all_get P (y ∷ ys) zero x h e = let same : y ≡ x = cc in subst P same h.0
all_get P (y ∷ ys) (suc k) x h e = all_get P ys k x h.1 e

-- the procedure and the address of a row are words
pub place_in_form : (c : CertificateView) → IsInForm c → (k : ℕ) (row : Row) → slice_get c.rows k ≡ Some row → IsPlace c.version (place_of row)
place_in_form c form k row is = (all_get (IsRowOf c.version _ _) c.rows k row form.certificate.rows.each is).form.place

-- places from one place to itself are that place
pub one_place : (from behind k proc address row_proc row_address : ℕ) → address ≤ 65535 → row_address ≤ 65535 →
    (k < from → place_number row_proc row_address < place_number proc address) → (from ≤ k → place_number proc address ≤ place_number row_proc row_address) →
    (k < behind → place_number row_proc row_address ≤ place_number proc address) → (behind ≤ k → place_number proc address < place_number row_proc row_address) →
    ((from ≤ k) × (k < behind)) ↔ ((row_proc ≡ proc) × (row_address ≡ address))
one_place from behind k proc address row_proc row_address a b below above upto past = (there, inside)
  where
    there : (from ≤ k) × (k < behind) → (row_proc ≡ proc) × (row_address ≡ address)
    there h = let low = above h.0 in let high = upto h.1 in (omega (arith, low, high, a, b), omega (arith, low, high, a, b))

    not_below : (row_proc ≡ proc) × (row_address ≡ address) → (k < from) ⊎ (from ≤ k) → from ≤ k
    not_below e (inl low) = let p = below low in absurd (omega (arith, p, e.0, e.1))
    not_below e (inr high) = high

    not_behind : (row_proc ≡ proc) × (row_address ≡ address) → (k < behind) ⊎ (behind ≤ k) → k < behind
    not_behind e (inl low) = low
    not_behind e (inr high) = let p = past high in absurd (omega (arith, p, e.0, e.1))

    inside : (row_proc ≡ proc) × (row_address ≡ address) → (from ≤ k) × (k < behind)
    inside e = (not_below e (cases_lt k from), not_behind e (cases_lt k behind))

-- places from a procedure's first to its last are of that procedure
pub one_proc : (from behind k proc row_proc row_address : ℕ) → row_address ≤ 65535 →
    (k < from → place_number row_proc row_address < place_number proc 0) → (from ≤ k → place_number proc 0 ≤ place_number row_proc row_address) →
    (k < behind → place_number row_proc row_address ≤ place_number proc 65535) → (behind ≤ k → place_number proc 65535 < place_number row_proc row_address) →
    ((from ≤ k) × (k < behind)) ↔ (row_proc ≡ proc)
one_proc from behind k proc row_proc row_address b below above upto past = (there, inside)
  where
    there : (from ≤ k) × (k < behind) → row_proc ≡ proc
    there h = let low = above h.0 in let high = upto h.1 in omega (arith, low, high, b)

    not_below : row_proc ≡ proc → (k < from) ⊎ (from ≤ k) → from ≤ k
    not_below e (inl low) = let p = below low in absurd (omega (arith, p, e))
    not_below e (inr high) = high

    not_behind : row_proc ≡ proc → (k < behind) ⊎ (behind ≤ k) → k < behind
    not_behind e (inl low) = low
    not_behind e (inr high) = let p = past high in absurd (omega (arith, p, e, b))

    inside : row_proc ≡ proc → (from ≤ k) × (k < behind)
    inside e = (not_below e (cases_lt k from), not_behind e (cases_lt k behind))
