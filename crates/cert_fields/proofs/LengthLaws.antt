-- The most bytes of the fields of a row.
use Rattle.cert_fields.proofs.LinearLengthLaws.{length_linear}
use Rattle.std.proofs.Common.{◌≡◌, ◌≤◌, ◌+◌, ◌*◌, ℕ, List, [], ◌∷◌, length, map, Option, Some, None, refl, ap, inl, inr, arith, length-append}
use Rattle.std.proofs.lemmas.Bool.{cases_Bool}
use Rattle.std.proofs.lemmas.List.{length-map}
use Rattle.std.specs.List.{AllByRecursion, join_with_byte}
use Rattle.abs_state.specs.declared.fact.FlagFact.{FlagFact}
use Rattle.abs_state.specs.declared.fact.FlagFact.TheVariants.{Zero, Compared}
use Rattle.intervals.specs.RegPair.{name_of}
use Rattle.intervals.specs.declared.pair.Pair.{Pair}
use Rattle.intervals.specs.declared.reg_pair.RegPair.{RegPair}
use Rattle.intervals.specs.declared.reg_pair.RegPair.TheVariants as pairs
use Rattle.loop_bounds.specs.Linear.{LinearView}
use Rattle.stack_shape.specs.declared.slot.Slot.{Slot}
use Rattle.z80_decode.specs.declared.operands.Register8.{Register8}
use Rattle.z80_decode.specs.declared.operands.Register8.TheVariants as registers
use Rattle.texts.proofs.NumberLemmas.{length_hex2}
use Rattle.cert_fields.specs.Facts.{AreFacts, AreFewFacts, list_text, facts_text}
use Rattle.cert_fields.specs.Flag.{flag_text}
use Rattle.cert_fields.specs.Linear.{IsShort, linear_text}
use Rattle.cert_fields.specs.Names.{register_letter}
use Rattle.cert_fields.specs.Pair.{is_full, known_text, origin_text, pair_text}
use Rattle.cert_fields.specs.Shape.{shape_text}
use Rattle.cert_fields.proofs.PairLemmas.{known_star, known_ranges, ranges_length}
use Rattle.cert_fields.proofs.ShapeLemmas.{slot_text}

length_register : (r : Register8) → length (register_letter r) ≡ 1
length_register registers.A = refl
length_register registers.B = refl
length_register registers.C = refl
length_register registers.D = refl
length_register registers.E = refl
length_register registers.H = refl
length_register registers.L = refl

length_known : (p : Pair) → length (known_text p) ≤ 21
length_known p = elim (cases_Bool (is_full p)) [
  | inl full ↦ omega (arith, ap length (known_star p full))
  | inr part ↦ omega (arith, ap length (known_ranges p part), ranges_length p)
]

length_name : (r : RegPair) → length (name_of r) ≤ 3
length_name pairs.Af = omega arith
length_name pairs.Bc = omega arith
length_name pairs.De = omega arith
length_name pairs.Hl = omega arith
length_name pairs.Ix = omega arith
length_name pairs.Iy = omega arith
length_name pairs.AlternateAf = omega arith
length_name pairs.AlternateBc = omega arith
length_name pairs.AlternateDe = omega arith
length_name pairs.AlternateHl = omega arith

length_origin : (o : Option RegPair) → length (origin_text o) ≤ 4
length_origin None = omega arith
length_origin (Some r) = omega (arith, length_name r)

pub length_pair : (p : Pair) → length (pair_text p) ≤ 25
unfolding pair_text
length_pair p = omega (arith, length-append (known_text p) (origin_text p.origin), length_known p, length_origin p.origin)

pub length_flag_fact : (f : Option FlagFact) → length (flag_text f) ≤ 3
length_flag_fact None = omega arith
length_flag_fact (Some (Zero r)) = omega (arith, length_register r)
length_flag_fact (Some (Compared b)) = omega (arith, length_hex2 b)

-- texts with commas between them
length_join : (most : ℕ) (first : List ℕ) (others : List (List ℕ)) → AllByRecursion (λ t. length t ≤ most) (first ∷ others) → length (join_with_byte 44 (first ∷ others)) ≤ most + (most + 1) * length others
length_join most first [] short = omega (arith, short.0)
length_join most first (next ∷ others) short =
    omega (arith, length-append first (44 ∷ join_with_byte 44 (next ∷ others)), short.0, length_join most next others short.1)

short_linears : (slots : ℕ) (facts : List LinearView) → AreFacts slots facts → AllByRecursion IsShort facts → AllByRecursion (λ t. length t ≤ 50) (map linear_text facts)
short_linears slots [] form short = tt
short_linears slots (s ∷ facts) form short = (length_linear slots s form.0 short.0, short_linears slots facts form.1 short.1)

length_some_facts : (slots : ℕ) (facts : List LinearView) → AreFacts slots facts → AreFewFacts facts → length (list_text (map linear_text facts)) ≤ 203
length_some_facts slots [] form few = omega arith
length_some_facts slots (s ∷ facts) form few =
    let count = few.count in
    omega (arith, length_join 50 (linear_text s) (map linear_text facts) (short_linears slots (s ∷ facts) form few.short), length-map facts linear_text)

pub length_facts : (slots : ℕ) (facts : List LinearView) → AreFacts slots facts → AreFewFacts facts → length (facts_text facts) ≤ 203
unfolding facts_text
length_facts slots facts form few = length_some_facts slots facts form few

short_slots : (slots : List Slot) → AllByRecursion (λ t. length t ≤ 25) (map slot_text slots)
short_slots [] = tt
short_slots (s ∷ slots) = (length_pair s.pair, short_slots slots)

length_some_slots : (slots : List Slot) → length slots ≤ 64 → length (list_text (map slot_text slots)) ≤ 1663
length_some_slots [] few = omega arith
length_some_slots (s ∷ slots) few = omega (arith, length_join 25 (slot_text s) (map slot_text slots) (short_slots (s ∷ slots)), length-map slots slot_text)

pub length_shape : (slots : List Slot) → length slots ≤ 64 → length (shape_text slots) ≤ 1663
unfolding shape_text
length_shape slots few = length_some_slots slots few
