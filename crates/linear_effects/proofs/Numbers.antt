-- Windows, and bits that are apart.
use Rattle.std.proofs.Common.{◌≡◌, ◌∙◌, ℕ, ◌+◌, ◌*◌, ◌/◌, ◌%◌, ◌^◌, ◌<◌, ◌≤◌, Bool, true, false, cond, eqb, leb, List, [], ◌∷◌, Option, Some, None, refl, sym, ap, arith, div-add-mod', mod-eq_of_lt, bit_and, bit_or, bit_xor, find, unwrap_or}
use Rattle.std.specs.Prelude.{◌&&◌, IfSome, option_map, pos, ◌-ℤ◌}
use Rattle.std.proofs.lemmas.Bool.{eqb-true}
use Rattle.std.proofs.lemmas.Bool.Decides.{nat_tests}
use Rattle.std.proofs.lemmas.Int.{ints}
use Rattle.std.proofs.lemmas.Nat.{and_assoc, and_comm, and_mask, or_comm, or_shifted}
use lib.Bits.{or_add_and, xor_add_and}
use Rattle.intervals.specs.Logic.{is_single, ones_from}
use Rattle.intervals.specs.Range.{RangeView, Within}
use Rattle.linear_effects.specs.Bits.{is_above, has_all}
use Rattle.linear_effects.specs.Windows.{window_number}

-- ---- options

pub map_some : {X Y : Type 0} (f : X → Y) (w : Option X) (Q : Y → Type 0) → IfSome w (λ x. Q (f x)) → IfSome (option_map f w) Q
map_some f None Q h = tt
map_some f (Some x) Q h = h

pub if_window : (size low high : ℕ) (P : ℕ → Type 0) → (low / size ≡ high / size → P (low / size)) → IfSome (window_number size low high) P
if_window size low high P h =
    let at : (t : Bool) → eqb (low / size) (high / size) ≡ t → IfSome (cond t (Some (low / size)) None) P =
    elim [ true ↦ λ e. h (eqb-true _ _ e) | false ↦ λ e. tt ] in
    at (eqb (low / size) (high / size)) refl

pub if_true : {X : Type 0} (b : Bool) (x : X) (P : X → Type 0) → (b ≡ true → P x) → IfSome (cond b (Some x) None) P
if_true true x P h = h refl
if_true false x P h = tt

-- ---- windows

-- a number modulo 256, or 65,536, is that number less the start of its window
pub in_window_of_bytes : (low high s : ℕ) → low / 256 ≡ high / 256 → low ≤ s → s ≤ high → pos (s % 256) ≡ pos s -ℤ pos (256 * (low / 256))
in_window_of_bytes low high s e h k = omega (arith, ints)

pub in_window_of_words : (low high s : ℕ) → low / 65536 ≡ high / 65536 → low ≤ s → s ≤ high → pos (s % 65536) ≡ pos s -ℤ pos (65536 * (low / 65536))
in_window_of_words low high s e h k = omega (arith, ints)

-- ---- ones

abbrev IsOnes : ℕ → Type 0
IsOnes m = (k : ℕ) × (m + 1 ≡ 2 ^ k)

abbrev AllOnes : List ℕ → Type 0
AllOnes [] = Unit {0}
AllOnes (x ∷ xs) = IsOnes x × AllOnes xs

first_ones : (p : ℕ → Bool) (xs : List ℕ) → AllOnes xs → IsOnes (unwrap_or (find p xs) 255)
first_ones p [] h = (8, refl)
first_ones p (x ∷ xs) h =
    elim (p x) as (λ t. IsOnes (unwrap_or (cond t (Some x) (find p xs)) 255)) [ true ↦ h.0 | false ↦ first_ones p xs h.1 ]

ones_are : (n : ℕ) → IsOnes (ones_from n)
ones_are n =
    first_ones (λ ones. leb n ones) (0 ∷ 1 ∷ 3 ∷ 7 ∷ 15 ∷ 31 ∷ 63 ∷ 127 ∷ [])
    ((0, refl), ((1, refl), ((2, refl), ((3, refl), ((4, refl), ((5, refl), ((6, refl), ((7, refl), tt))))))))

ones_above : (n a : ℕ) → a ≤ n → a ≤ 255 → a ≤ ones_from n
ones_above n a h p = grind (arith, nat_tests)

small_mod : (a m : ℕ) → a < m → a % m ≡ a
small_mod a m h = mod-eq_of_lt h

whole_part : (n m : ℕ) → n % m ≡ 0 → n / m * m ≡ n
whole_part n m e = omega (arith, div-add-mod' n m)

-- ---- bytes with bits apart

apart : (a n k : ℕ) → a < 2 ^ k → n % 2 ^ k ≡ 0 → bit_or a n ≡ a + n
apart a n k h e =
    let is : n / 2 ^ k * 2 ^ k ≡ n = whole_part n (2 ^ k) e in
    let joined : bit_or (n / 2 ^ k * 2 ^ k) a ≡ n / 2 ^ k * 2 ^ k + a = or_shifted (n / 2 ^ k) k a h in
    let first : bit_or (n / 2 ^ k * 2 ^ k) a ≡ bit_or n a = ap (λ (j : ℕ). bit_or j a) is in
    or_comm a n ∙ sym first ∙ joined ∙ (omega arith)

pub or_above : (top a n : ℕ) → a ≤ top → a ≤ 255 → n % (ones_from top + 1) ≡ 0 → bit_or a n ≡ a + n
or_above top a n h small e =
    let ones = ones_are top in
    let under = ones_above top a h small in
    let below : a < 2 ^ ones.0 = omega (arith, ones.1) in
    apart a n ones.0 below (ap (λ (m : ℕ). n % m) (sym ones.1) ∙ e)

pub xor_above : (top a n : ℕ) → a ≤ top → a ≤ 255 → n % (ones_from top + 1) ≡ 0 → bit_xor a n ≡ a + n
xor_above top a n h small e =
    let joined = or_above top a n h small e in
    let first = or_add_and a n in
    let second = xor_add_and a n in
    omega arith

-- ---- bytes whose bits are kept

kept : (a n m k : ℕ) → m + 1 ≡ 2 ^ k → a ≤ m → bit_and n m ≡ m → bit_and a n ≡ a
kept a n m k e h f =
    let mask : bit_and a m ≡ a = ap (bit_and a) (omega arith) ∙ and_mask a k ∙ small_mod a (2 ^ k) (omega arith) in
    ap (λ (j : ℕ). bit_and j n) (sym mask) ∙ and_assoc n a m ∙ ap (bit_and a) (and_comm m n ∙ f) ∙ mask

pub and_kept : (top a n : ℕ) → a ≤ top → a ≤ 255 → bit_and n (ones_from top) ≡ ones_from top → bit_and a n ≡ a
and_kept top a n h small e = let ones = ones_are top in kept a n (ones_from top) ones.0 ones.1 (ones_above top a h small) e

-- ---- tests

both : (p q : Bool) → (p && q) ≡ true → (p ≡ true) × (q ≡ true)
both true q e = (refl, e)
both false q e = cc

single_is : (b : RangeView) (n : ℕ) → is_single b ≡ true → Within b n → n ≡ b.low
single_is b n e w = let one : b.low ≡ b.high = eqb-true _ _ e in omega arith

pub above_facts : (a b : RangeView) (n : ℕ) → is_above a b ≡ true → Within b n → (n ≡ b.low) × (n % (ones_from a.high + 1) ≡ 0)
above_facts a b n e w =
    let parts = both (is_single b) (eqb (b.low % (ones_from a.high + 1)) 0) e in
    let same = single_is b n parts.0 w in
    (same, ap (λ (j : ℕ). j % (ones_from a.high + 1)) same ∙ eqb-true _ _ parts.1)

pub all_facts : (a b : RangeView) (n : ℕ) → has_all a b ≡ true → Within b n → bit_and n (ones_from a.high) ≡ ones_from a.high
all_facts a b n e w =
    let parts = both (is_single b) (eqb (bit_and b.low (ones_from a.high)) (ones_from a.high)) e in
    ap (λ (j : ℕ). bit_and j (ones_from a.high)) (single_is b n parts.0 w) ∙ eqb-true _ _ parts.1
