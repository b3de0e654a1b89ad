-- The bytes of pairs: none is a space, a comma or a lower byte.
use Rattle.cert_fields.proofs.LinearPartLemmas.{IsPartByte, IsPart, part_test, part_append, no_comma}
use Rattle.std.proofs.Common.{◌≤◌, ℕ, List, ◌++◌, codes, Option, Some, None, refl, sym, subst, inl, inr, arith}
use Rattle.std.proofs.lemmas.Bool.{cases_Bool}
use Rattle.std.proofs.lemmas.Bool.Decides.{nat_tests}
use Rattle.intervals.specs.Range.{RangeView}
use Rattle.intervals.specs.RegPair.{name_of}
use Rattle.intervals.specs.declared.pair.Pair.{Pair}
use Rattle.intervals.specs.declared.reg_pair.RegPair.{RegPair}
use Rattle.intervals.specs.declared.reg_pair.RegPair.TheVariants.{Af, AlternateAf, AlternateBc, AlternateDe, AlternateHl}
use Rattle.intervals.specs.declared.reg_pair.RegPair.TheVariants as pairs
use Rattle.texts.specs.Numbers.{hex_digit, hex2, hex4}
use Rattle.cert_fields.specs.Pair.{is_full, range_text, ranges_text, known_text, origin_text, pair_text}
use Rattle.cert_fields.proofs.PairLemmas.{known_star, known_ranges}

part_hex_digit : (n : ℕ) → IsPartByte (hex_digit n)
part_hex_digit n = (high, no_comma _ digit)
  where
    digit : 48 ≤ hex_digit n
    digit = grind (arith, nat_tests)

    high : 33 ≤ hex_digit n
    high = omega (arith, digit)

pub part_hex2 : (n : ℕ) → IsPart (hex2 n)
unfolding hex2
part_hex2 n = (part_hex_digit _, (part_hex_digit _, tt))

pub part_hex4 : (n : ℕ) → IsPart (hex4 n)
unfolding hex4
part_hex4 n = (part_hex_digit _, (part_hex_digit _, (part_hex_digit _, (part_hex_digit _, tt))))

part_range : (spelled : ℕ → List ℕ) (r : RangeView) → ((n : ℕ) → IsPart (spelled n)) → IsPart (range_text spelled r)
part_range spelled r part = part_append (spelled r.low) (codes "-" ++ spelled r.high) (part r.low) (part_append (codes "-") (spelled r.high) (part_test (codes "-") refl) (part r.high))

part_ranges : (p : Pair) → IsPart (ranges_text p)
unfolding ranges_text
part_ranges p =
    part_append (range_text hex4 p.word) _ (part_range hex4 p.word part_hex4)
    (part_append (codes ":") _ (part_test (codes ":") refl)
    (part_append (range_text hex2 p.high) _ (part_range hex2 p.high part_hex2)
    (part_append (codes ":") _ (part_test (codes ":") refl) (part_range hex2 p.low part_hex2))))

part_known : (p : Pair) → IsPart (known_text p)
part_known p = elim (cases_Bool (is_full p)) [
  | inl full ↦ subst IsPart (sym (known_star p full)) (part_test (codes "*") refl)
  | inr some ↦ subst IsPart (sym (known_ranges p some)) (part_ranges p)
]

part_name : (r : RegPair) → IsPart (name_of r)
part_name Af = part_test (codes "AF") refl
part_name pairs.Bc = part_test (codes "BC") refl
part_name pairs.De = part_test (codes "DE") refl
part_name pairs.Hl = part_test (codes "HL") refl
part_name pairs.Ix = part_test (codes "IX") refl
part_name pairs.Iy = part_test (codes "IY") refl
part_name AlternateAf = part_test (codes "AF'") refl
part_name AlternateBc = part_test (codes "BC'") refl
part_name AlternateDe = part_test (codes "DE'") refl
part_name AlternateHl = part_test (codes "HL'") refl

part_origin : (o : Option RegPair) → IsPart (origin_text o)
part_origin None = tt
part_origin (Some r) = part_append (codes "@") (name_of r) (part_test (codes "@") refl) (part_name r)

pub part_pair : (p : Pair) → IsPart (pair_text p)
unfolding pair_text
part_pair p = part_append (known_text p) (origin_text p.origin) (part_known p) (part_origin p.origin)
