-- A pair's text: its ranges and its origin (docs/CERTIFICATE.md, "Pairs").
use Rattle.std.specs.Prelude.{ℕ, ◌≤◌, ◌==◌, ◌&&◌, if◌then◌else◌, Bool, List, [], ◌++◌, codes, Option, Some, None}
use Rattle.intervals.specs.Range.{RangeView}
use Rattle.intervals.specs.RegPair.{name_of}
use Rattle.intervals.specs.declared.pair.Pair.{Pair}
use Rattle.intervals.specs.declared.reg_pair.RegPair.{RegPair}
use Rattle.texts.specs.Numbers.{hex2, hex4}

-- a range of values up to `greatest`, whose low bound is not above the high one
pub record IsRange (greatest : ℕ) (r : RangeView) : Type 0 where
  pub order : r.low ≤ r.high
  pub within : r.high ≤ greatest

-- a pair's ranges are ranges of words and of bytes; they may contradict one another
pub record IsPair (p : Pair) : Type 0 where
  pub word : IsRange 65535 p.word
  pub high : IsRange 255 p.high
  pub low : IsRange 255 p.low

-- whether a range has all values up to the greatest
abbrev pub is_all : ℕ → RangeView → Bool
is_all greatest r = (r.low == 0) && (r.high == greatest)

-- two hexadecimal bounds with a dash between them
abbrev pub range_text : (ℕ → List ℕ) → RangeView → List ℕ
range_text spelled r = spelled r.low ++ (codes "-" ++ spelled r.high)

-- the ranges of the word, of the high byte and of the low byte
unfoldable pub ranges_text : Pair → List ℕ
ranges_text p = range_text hex4 p.word ++ (codes ":" ++ (range_text hex2 p.high ++ (codes ":" ++ range_text hex2 p.low)))

-- whether all three ranges are full
abbrev pub is_full : Pair → Bool
is_full p = is_all 65535 p.word && is_all 255 p.high && is_all 255 p.low

-- the ranges; a star if all three are full
unfoldable pub known_text : Pair → List ℕ
known_text p = if is_full p then codes "*" else ranges_text p

-- the name of the pair whose value at the entry of the activation it still is, if that is known
abbrev pub origin_text : Option RegPair → List ℕ
origin_text None = []
origin_text (Some origin) = codes "@" ++ name_of origin

-- the text of a pair: its ranges and its origin
unfoldable pub pair_text : Pair → List ℕ
pair_text p = known_text p ++ origin_text p.origin
