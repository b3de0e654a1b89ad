-- What a pair's text says of the pair.
use Rattle.std.proofs.Common.{◌≡◌, ◌==◌, ◌++◌, ◌∷◌, [], ℕ, List, length, Option, Some, None, IfSome, true, false, codes, refl, sym, ap, subst, ◌∙◌, inl, inr, arith}
use Rattle.std.proofs.lemmas.Bool.{cases_Bool, cond-true, cond-false}
use Rattle.std.proofs.lemmas.List.{append-nil}
use Rattle.std.specs.List.{slice_split}
use Rattle.intervals.specs.Range.{RangeView}
use Rattle.intervals.specs.Pair.{full_pair}
use Rattle.intervals.specs.RegPair.{name_of}
use Rattle.intervals.specs.declared.pair.Pair.{Pair}
use Rattle.intervals.specs.declared.reg_pair.RegPair.{RegPair}
use Rattle.texts.specs.Numbers.{Reads, hex2, hex4}
use Rattle.cert_fields.specs.Pair.{IsPair, is_full, range_text, ranges_text, known_text, origin_text, pair_text}
use Rattle.cert_fields.proofs.CutLemmas.{Lacks, lacks_append, lacks_none, same_front, same_behind, cut_front, cut_behind, cut_somewhere}
use Rattle.cert_fields.proofs.HexLemmas.{colon_is_none, at_is_none}
use Rattle.cert_fields.proofs.RangeLemmas.{one_word_range, one_byte_range, word_range_lacks, byte_range_lacks, bytes_text}

same_bounds : (r s : RangeView) → (r.low ≡ s.low) × (r.high ≡ s.high) → r ≡ s
same_bounds r s bounds =
    ap (λ low. let i : RangeView = record { low = low; high = r.high } in i) bounds.0
    ∙ ap (λ high. let i : RangeView = record { low = s.low; high = high } in i) bounds.1

pub word_range_injective : (r s : RangeView) → range_text hex4 r ≡ range_text hex4 s → r ≡ s
word_range_injective r s same = same_bounds r s (one_word_range (range_text hex4 r) s.low s.high same r refl)

pub byte_range_injective : (r s : RangeView) → range_text hex2 r ≡ range_text hex2 s → r ≡ s
byte_range_injective r s same = same_bounds r s (one_byte_range (range_text hex2 r) s.low s.high same r refl)

-- the same text, the same ranges
module _ (p q : Pair) (same : ranges_text p ≡ ranges_text q) where
  opened : range_text hex4 p.word ++ 58 ∷ bytes_text p ≡ range_text hex4 q.word ++ 58 ∷ bytes_text q
  unfolding ranges_text
  opened = same

  word_lacks : (r : RangeView) → Lacks 58 (range_text hex4 r)
  word_lacks r = word_range_lacks 58 r colon_is_none refl

  byte_lacks : (r : RangeView) → Lacks 58 (range_text hex2 r)
  byte_lacks r = byte_range_lacks 58 r colon_is_none refl

  same_bytes : bytes_text p ≡ bytes_text q
  same_bytes = same_behind 58 (range_text hex4 p.word) (bytes_text p) (range_text hex4 q.word) (bytes_text q) (word_lacks p.word) (word_lacks q.word) opened

  pub same_word : p.word ≡ q.word
  same_word = word_range_injective _ _ (same_front 58 (range_text hex4 p.word) (bytes_text p) (range_text hex4 q.word) (bytes_text q) (word_lacks p.word) (word_lacks q.word) opened)

  pub same_high : p.high ≡ q.high
  same_high = byte_range_injective _ _ (same_front 58 (range_text hex2 p.high) (range_text hex2 p.low) (range_text hex2 q.high) (range_text hex2 q.low) (byte_lacks p.high) (byte_lacks q.high) same_bytes)

  pub same_low : p.low ≡ q.low
  same_low = byte_range_injective _ _ (same_behind 58 (range_text hex2 p.high) (range_text hex2 p.low) (range_text hex2 q.high) (range_text hex2 q.low) (byte_lacks p.high) (byte_lacks q.high) same_bytes)

  pub same_full : is_full p ≡ is_full q
  same_full = cc (same_word, same_high, same_low)

pub known_star : (p : Pair) → is_full p ≡ true → known_text p ≡ codes "*"
unfolding known_text
known_star p full = cond-true (is_full p) (codes "*") (ranges_text p) full

pub known_ranges : (p : Pair) → is_full p ≡ false → known_text p ≡ ranges_text p
unfolding known_text
known_ranges p part = cond-false (is_full p) (codes "*") (ranges_text p) part

-- a text that is no star is that of ranges that are not all full
pub no_star : (p : Pair) (text : List ℕ) → (text ≡ codes "*" → ⊥) → text ≡ known_text p → (is_full p ≡ false) × (text ≡ ranges_text p)
no_star p text other is = elim (cases_Bool (is_full p)) [
  | inl full ↦ absurd (other (is ∙ known_star p full))
  | inr part ↦ (part, is ∙ known_ranges p part)
]

-- three ranges are 21 bytes
pub ranges_length : (p : Pair) → length (ranges_text p) ≡ 21
unfolding ranges_text hex2 hex4
ranges_length p = refl

pub full_is_pair : IsPair full_pair
full_is_pair = record {
  word = record { order = omega arith; within = omega arith };
  high = record { order = omega arith; within = omega arith };
  low = record { order = omega arith; within = omega arith };
}

-- the ranges' text has no mark but dashes and colons
ranges_lack_at : (p : Pair) → Lacks 64 (ranges_text p)
unfolding ranges_text
ranges_lack_at p =
    lacks_append 64 (range_text hex4 p.word) _ (word_range_lacks 64 p.word at_is_none refl)
    (refl, lacks_append 64 (range_text hex2 p.high) _ (byte_range_lacks 64 p.high at_is_none refl) (refl, byte_range_lacks 64 p.low at_is_none refl))

pub known_lacks_at : (p : Pair) → Lacks 64 (known_text p)
known_lacks_at p = elim (cases_Bool (is_full p)) [
  | inl full ↦ subst (λ text. Lacks 64 text) (sym (known_star p full)) (refl, tt)
  | inr part ↦ subst (λ text. Lacks 64 text) (sym (known_ranges p part)) (ranges_lack_at p)
]

-- the origin comes after the first `@`, if there is one
module _ (p : Pair) (text : List ℕ) (is : text ≡ pair_text p) where
  at_origin : (o : Option RegPair) → p.origin ≡ o → text ≡ known_text p ++ origin_text o
  unfolding pair_text
  at_origin o e = is ∙ ap (λ x. known_text p ++ origin_text x) e

  module _ (x y : List ℕ) (rest : List (List ℕ)) (cut : text ≡ x ++ 64 ∷ y) (parts : slice_split (λ b. b == 64) text ≡ x ∷ rest) where
    parts_at : (o : Option RegPair) → p.origin ≡ o → (x ≡ known_text p) × ((origin : RegPair) × (p.origin ≡ Some origin) × (y ≡ name_of origin))
    parts_at None e = absurd (lacks_none 64 x y (subst (λ t. Lacks 64 t) (sym (at_origin None e ∙ append-nil (known_text p)) ∙ cut) (known_lacks_at p)))
    parts_at (Some origin) e = (
      cut_front 64 text (known_text p) (name_of origin) (known_lacks_at p) (at_origin (Some origin) e) x rest parts,
      (origin, e, cut_behind 64 text (known_text p) (name_of origin) (known_lacks_at p) (at_origin (Some origin) e) x y rest cut parts),
    )

    pub before_at : x ≡ known_text p
    before_at = (parts_at p.origin refl).0

    pub behind_at : (origin : RegPair) × (p.origin ≡ Some origin) × (y ≡ name_of origin)
    behind_at = (parts_at p.origin refl).1

  uncut : (o : Option RegPair) → p.origin ≡ o → slice_split (λ b. b == 64) text ≡ text ∷ [] → text ≡ known_text p
  uncut None e whole = at_origin None e ∙ append-nil (known_text p)
  uncut (Some origin) e whole = absurd (cut_somewhere 64 text (known_text p) (name_of origin) (known_lacks_at p) (at_origin (Some origin) e) whole)

  pub without_at : slice_split (λ b. b == 64) text ≡ text ∷ [] → text ≡ known_text p
  without_at whole = uncut p.origin refl whole

-- a text without an `@` has no origin
pub reads_without : (text : List ℕ) (r : Option Pair) → slice_split (λ b. b == 64) text ≡ text ∷ [] → Reads known_text IsPair text r → IfSome r (λ p. p.origin ≡ None) → Reads pair_text IsPair text r
unfolding pair_text
reads_without text None whole reads origin = λ p form is. reads p form (without_at p text is whole)
reads_without text (Some p) whole reads origin =
    (reads.0, reads.1 ∙ sym (ap (λ o. known_text p ++ origin_text o) origin ∙ append-nil (known_text p)))
