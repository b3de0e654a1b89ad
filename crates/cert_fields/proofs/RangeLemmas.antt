-- What a range's text says of the range, and what the text of three ranges says of them.
use Rattle.std.proofs.Common.{◌≡◌, ◌≤◌, ◌==◌, ◌++◌, ◌∷◌, [], ℕ, List, Some, None, Bool, true, false, refl, sym, ◌∙◌, arith, leb, cond}
use Rattle.std.proofs.lemmas.Bool.{leb-true, leb-false}
use Rattle.std.specs.List.{slice_split}
use Rattle.intervals.specs.Range.{RangeView, between}
use Rattle.intervals.specs.declared.pair.Pair.{Pair}
use Rattle.texts.specs.Numbers.{Reads, hex2, hex4}
use Rattle.cert_fields.specs.Pair.{IsRange, range_text, ranges_text}
use Rattle.cert_fields.proofs.CutLemmas.{Lacks, lacks_append, same_front, same_behind, cut_front, cut_behind, cut_somewhere}
use Rattle.cert_fields.proofs.HexLemmas.{IsNoDigit, hex2_injective, hex4_injective, hex2_lacks, hex4_lacks, dash_is_none, colon_is_none}

-- the bounds of a range are those of its text
pub one_word_range : (text : List ℕ) (low high : ℕ) → text ≡ hex4 low ++ 45 ∷ hex4 high → (r : RangeView) → text ≡ range_text hex4 r → (r.low ≡ low) × (r.high ≡ high)
one_word_range text low high is r same =
    let lacks = hex4_lacks 45 r.low dash_is_none in
    let both = sym same ∙ is in (
      hex4_injective _ _ (same_front 45 (hex4 r.low) (hex4 r.high) (hex4 low) (hex4 high) lacks (hex4_lacks 45 low dash_is_none) both),
      hex4_injective _ _ (same_behind 45 (hex4 r.low) (hex4 r.high) (hex4 low) (hex4 high) lacks (hex4_lacks 45 low dash_is_none) both),
    )

pub one_byte_range : (text : List ℕ) (low high : ℕ) → text ≡ hex2 low ++ 45 ∷ hex2 high → (r : RangeView) → text ≡ range_text hex2 r → (r.low ≡ low) × (r.high ≡ high)
one_byte_range text low high is r same =
    let lacks = hex2_lacks 45 r.low dash_is_none in
    let both = sym same ∙ is in (
      hex2_injective _ _ (same_front 45 (hex2 r.low) (hex2 r.high) (hex2 low) (hex2 high) lacks (hex2_lacks 45 low dash_is_none) both),
      hex2_injective _ _ (same_behind 45 (hex2 r.low) (hex2 r.high) (hex2 low) (hex2 high) lacks (hex2_lacks 45 low dash_is_none) both),
    )

-- a range has no mark but its dash
pub word_range_lacks : (m : ℕ) (r : RangeView) → IsNoDigit m → (45 == m) ≡ false → Lacks m (range_text hex4 r)
word_range_lacks m r none dash = lacks_append m (hex4 r.low) _ (hex4_lacks m r.low none) (dash, hex4_lacks m r.high none)

pub byte_range_lacks : (m : ℕ) (r : RangeView) → IsNoDigit m → (45 == m) ≡ false → Lacks m (range_text hex2 r)
byte_range_lacks m r none dash = lacks_append m (hex2 r.low) _ (hex2_lacks m r.low none) (dash, hex2_lacks m r.high none)

abbrev pub bytes_text : Pair → List ℕ
bytes_text p = range_text hex2 p.high ++ 58 ∷ range_text hex2 p.low

-- the parts of the text of three ranges
module _ (p : Pair) (text : List ℕ) (is : text ≡ ranges_text p) where
  cut_ranges : text ≡ range_text hex4 p.word ++ 58 ∷ bytes_text p
  unfolding ranges_text
  cut_ranges = is

  no_colon : Lacks 58 (range_text hex4 p.word)
  no_colon = word_range_lacks 58 p.word colon_is_none refl

  no_colon_high : Lacks 58 (range_text hex2 p.high)
  no_colon_high = byte_range_lacks 58 p.high colon_is_none refl

  pub colon_somewhere : slice_split (λ b. b == 58) text ≡ text ∷ [] → ⊥
  colon_somewhere = cut_somewhere 58 text (range_text hex4 p.word) (bytes_text p) no_colon cut_ranges

  pub word_first : (x : List ℕ) (rest : List (List ℕ)) → slice_split (λ b. b == 58) text ≡ x ∷ rest → x ≡ range_text hex4 p.word
  word_first = cut_front 58 text (range_text hex4 p.word) (bytes_text p) no_colon cut_ranges

  -- and of the text after the first colon
  module _ (x y : List ℕ) (rest : List (List ℕ)) (cut : text ≡ x ++ 58 ∷ y) (parts : slice_split (λ b. b == 58) text ≡ x ∷ rest) where
    bytes_there : y ≡ bytes_text p
    bytes_there = cut_behind 58 text (range_text hex4 p.word) (bytes_text p) no_colon cut_ranges x y rest cut parts

    pub second_colon : slice_split (λ b. b == 58) y ≡ y ∷ [] → ⊥
    second_colon = cut_somewhere 58 y (range_text hex2 p.high) (range_text hex2 p.low) no_colon_high bytes_there

    pub high_next : (z : List ℕ) (more : List (List ℕ)) → slice_split (λ b. b == 58) y ≡ z ∷ more → z ≡ range_text hex2 p.high
    high_next = cut_front 58 y (range_text hex2 p.high) (range_text hex2 p.low) no_colon_high bytes_there

    pub low_last : (z w : List ℕ) (more : List (List ℕ)) → y ≡ z ++ 58 ∷ w → slice_split (λ b. b == 58) y ≡ z ∷ more → w ≡ range_text hex2 p.low
    low_last = cut_behind 58 y (range_text hex2 p.high) (range_text hex2 p.low) no_colon_high bytes_there

-- a range with these bounds, if the first is not above the second, is the one range with this text
module _ (spelled : ℕ → List ℕ) (greatest : ℕ) (text : List ℕ) (low high : ℕ)
    (low_within : low ≤ greatest) (high_within : high ≤ greatest) (is : text ≡ spelled low ++ 45 ∷ spelled high)
    (one : (r : RangeView) → text ≡ range_text spelled r → (r.low ≡ low) × (r.high ≡ high)) where
  by_order : (b : Bool) → leb low high ≡ b → Reads (range_text spelled) (IsRange greatest) text (cond b (Some (let r : RangeView = record { low = low; high = high } in r)) None)
  by_order true order = (record { order = leb-true _ _ order; within = high_within }, is)
  by_order false order = λ r range same.
      let bounds = one r same in
      absurd (omega (arith, leb-false _ _ order, range.order, bounds.0, bounds.1))

  pub reads_range : Reads (range_text spelled) (IsRange greatest) text (between low high)
  reads_range = by_order (leb low high) refl
