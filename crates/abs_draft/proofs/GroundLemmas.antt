-- Whether some address of a range passes a test, computed over its addresses and stated.
use Rattle.std.proofs.Common.{◌≡◌, ◌≤◌, ◌<◌, ◌+◌, ◌-◌, ℕ, suc, Bool, true, false, refl, sym, ◌∙◌, arith, rules, inl, inr, List, [], ◌∷◌, length, get_or, IsTrue, ◌↔◌}
use Rattle.std.specs.List.{list_any, range_with_len}
use Rattle.std.proofs.lemmas.Bool.{cases_Bool}
use Rattle.std.proofs.lemmas.List.Folds.{list_any_at}
use Rattle.std.proofs.lemmas.List.FromFn.{length-range_with_len, get_or-range_with_len}
use Rattle.intervals.specs.Range.{RangeView, Within}
use Rattle.address_map.specs.AddressMap.{MapView}
use Rattle.address_map.specs.Class.{class_of}
use Rattle.address_map.specs.Ranges.{SomeWrite}
use Rattle.address_map.specs.declared.map.WriteClass.{WriteClass}
use Rattle.address_map.specs.declared.map.WriteClass.TheVariants as writes
use Rattle.abs_draft.specs.Ground.{any_address, is_enable}

-- an element that passes, if there is one
one_in : (test : ℕ → Bool) (xs : List ℕ) → list_any test xs ≡ true → (i : ℕ) × (i < length xs) × (test (get_or xs i 0) ≡ true)
one_in test [] h = absurd (search rules)
one_in test (x ∷ xs) h = elim (cases_Bool (test x)) [
  | inl t ↦ (0, omega arith, t)
  | inr f ↦ let h' : list_any test xs ≡ true = rw f at h in let k = one_in test xs h' in (suc k.0, let l = k.1 in omega arith, k.2)
]

pub any_is : (test : ℕ → Bool) (range : RangeView) (address : ℕ) → Within range address → test address ≡ true → any_address test range ≡ true
any_is test range address h t =
    let n = range.high + 1 - range.low in
    let i = address - range.low in
    let inside : i < n = omega arith in
    let there : get_or (range_with_len range.low n) i 0 ≡ address = get_or-range_with_len range.low n i 0 inside ∙ (omega arith) in
    list_any_at test (range_with_len range.low n) i 0 (rw (length-range_with_len range.low n) inside) (rw there t)

pub is_any : (test : ℕ → Bool) (range : RangeView) → range.low ≤ range.high → any_address test range ≡ true → (address : ℕ) × Within range address × (test address ≡ true)
is_any test range order h =
    let n = range.high + 1 - range.low in
    let k = one_in test (range_with_len range.low n) h in
    let inside : k.0 < n = omega (arith, k.1, length-range_with_len range.low n) in
    let there : get_or (range_with_len range.low n) k.0 0 ≡ range.low + k.0 = get_or-range_with_len range.low n k.0 0 inside in
    (range.low + k.0, omega arith, rw (← there) k.2)

enable_is : (class : WriteClass) → is_enable class ≡ true → class ≡ writes.NmiEnable
enable_is writes.NmiEnable e = refl
enable_is writes.Rom e = absurd (search rules)
enable_is (writes.Ram ram) e = absurd (search rules)
enable_is (writes.Latch number) e = absurd (search rules)
enable_is writes.Pitch e = absurd (search rules)
enable_is writes.Unmapped e = absurd (search rules)

-- the search over zones answers for the addresses
pub enable_told : (map : MapView) (range : RangeView) (result : Bool) → range.low ≤ range.high → IsTrue result ↔ SomeWrite map range writes.NmiEnable → result ≡ any_address (λ address. is_enable (class_of map address).write) range
enable_told map range true order h =
    let some = h.0 (search rules) in
    sym (any_is (λ address. is_enable (class_of map address).write) range some.0 some.1 (rw some.2 refl))
enable_told map range false order h = elim (cases_Bool (any_address (λ address. is_enable (class_of map address).write) range)) [
  | inl t ↦ let some = is_any (λ address. is_enable (class_of map address).write) range order t in
      absurd (search (rules, h.1 (some.0, some.1, enable_is _ some.2)))
  | inr f ↦ sym f
]
