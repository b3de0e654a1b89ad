-- What is known of a register pair (docs/CHECKER.md, "Ranges and their normal form").
use Rattle.std.specs.Prelude.{◌≡◌, ℕ, ◌+◌, ◌*◌, ◌/◌, ◌%◌, ◌==◌, if◌then◌else◌, Option, Some, None, option_and_then, unwrap_or, IfSome}
use Rattle.intervals.specs.declared.pair.Pair.{Pair}
use Rattle.intervals.specs.declared.reg_pair.RegPair.{RegPair}
use Rattle.intervals.specs.Domain.{Entry}
use Rattle.intervals.specs.RegPair.{place_of_pair}
use Rattle.intervals.specs.Range.{RangeView, Within, Covers, Overlaps, hull, full, intersection}

-- The word and its two bytes lie in their ranges. With an origin, the word is what that pair was at the entry.
pub record HoldsPair (p : Pair) (entry : Entry) (v : ℕ) : Type 0 where
  pub word : Within p.word v
  pub high : Within p.high (v / 256)
  pub low : Within p.low (v % 256)
  pub origin : IfSome p.origin (λ r. v ≡ entry r)

-- each range covers the other's, and an origin of the first is also the second's
pub record CoversPair (a b : Pair) : Type 0 where
  pub word : Covers a.word b.word
  pub high : Covers a.high b.high
  pub low : Covers a.low b.low
  pub origin : IfSome a.origin (λ r. b.origin ≡ Some r)

-- the words share a value, the high bytes do, and the low bytes do
pub record OverlapsPair (a b : Pair) : Type 0 where
  pub word : Overlaps a.word b.word
  pub high : Overlaps a.high b.high
  pub low : Overlaps a.low b.low

-- the origin if both have the same
abbrev pub shared_origin : Option RegPair → Option RegPair → Option RegPair
shared_origin None b = None
shared_origin (Some r) None = None
shared_origin (Some r) (Some s) = if place_of_pair r == place_of_pair s then Some r else None

-- the hull of each range, not put in normal form again
abbrev pub hull_of_pairs : Pair → Pair → Pair
hull_of_pairs a b = record {
  word = hull a.word b.word;
  high = hull a.high b.high;
  low = hull a.low b.low;
  origin = shared_origin a.origin b.origin;
}

-- the words made of the lower bounds and of the upper bounds
abbrev pub words_of : RangeView → RangeView → RangeView
words_of high low = record { low = high.low * 256 + low.low; high = high.high * 256 + low.high }

-- the high bytes of the ends of a word range
abbrev pub high_bytes : RangeView → RangeView
high_bytes word = record { low = word.low / 256; high = word.high / 256 }

-- the low bytes of the ends of a word range, if the ends have the same high byte
abbrev pub low_bytes : RangeView → Option RangeView
low_bytes word =
    if word.low / 256 == word.high / 256 then Some (record { low = word.low % 256; high = word.high % 256 }) else None

-- a range cut to another, if there is another
abbrev pub cut_if_some : RangeView → Option RangeView → Option RangeView
cut_if_some a None = Some a
cut_if_some a (Some b) = intersection a b

-- three cuts, once each and in this order: the high range to the high bytes of the word's ends; the low range to their
-- low bytes, if the ends have the same high byte; the word to the words made of the bytes' ends
abbrev pub normal_form : Pair → Option Pair
normal_form p = option_and_then (λ high.
    option_and_then (λ low.
    option_and_then (λ word. Some (record p { word = word; high = high; low = low }))
    (intersection p.word (words_of high low)))
    (cut_if_some p.low (low_bytes p.word)))
    (intersection p.high (high_bytes p.word))

-- nothing is known
abbrev pub full_pair : Pair
full_pair = record { word = full 65536; high = full 256; low = full 256; origin = None }

-- the pair after a word was written: the bytes get what its ends leave of them
abbrev pub written_word : RangeView → Pair
written_word word = record {
  word = word;
  high = high_bytes word;
  low = unwrap_or (low_bytes word) (full 256);
  origin = None;
}

-- the pair after both bytes were written: they make the word
abbrev pub written_bytes : RangeView → RangeView → Pair
written_bytes high low = record { word = words_of high low; high = high; low = low; origin = None }

-- a cut of one range keeps the others; the normal form follows
abbrev pub with_word_cut : Pair → Option RangeView → Option Pair
with_word_cut p cut = option_and_then (λ word. normal_form (record p { word = word })) cut

abbrev pub with_high_cut : Pair → Option RangeView → Option Pair
with_high_cut p cut = option_and_then (λ high. normal_form (record p { high = high })) cut

abbrev pub with_low_cut : Pair → Option RangeView → Option Pair
with_low_cut p cut = option_and_then (λ low. normal_form (record p { low = low })) cut
