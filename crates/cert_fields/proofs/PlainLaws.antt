-- Each byte of a row's fields is above the space.
use Rattle.cert_fields.proofs.LinearPlainLaws.{plain_linear}
use Rattle.std.proofs.Common.{ℕ, ◌<◌, ◌^◌, List, [], ◌∷◌, ◌++◌, map, codes, Option, Some, None, refl, arith}
use Rattle.std.specs.List.{AllByRecursion, join_with_byte}
use Rattle.abs_state.specs.declared.fact.FlagFact.{FlagFact}
use Rattle.abs_state.specs.declared.fact.FlagFact.TheVariants.{Zero, Compared}
use Rattle.abs_state.specs.declared.mode.Mode.{Mode}
use Rattle.abs_state.specs.declared.mode.Mode.TheVariants.{Unset, Set, Nmi}
use Rattle.intervals.specs.declared.pair.Pair.{Pair}
use Rattle.loop_bounds.specs.Linear.{LinearView}
use Rattle.stack_shape.specs.declared.slot.Slot.{Slot}
use Rattle.z80_decode.specs.declared.operands.Register8.{Register8}
use Rattle.z80_decode.specs.declared.operands.Register8.TheVariants.{A, B, C, D, E, H, L}
use Rattle.texts.proofs.PlainLemmas.{IsPlain, plain_from_test, plain_hex2}
use Rattle.cert_fields.specs.Facts.{AreFacts, list_text, facts_text}
use Rattle.cert_fields.specs.Flag.{flag_text}
use Rattle.cert_fields.specs.Linear.{linear_text}
use Rattle.cert_fields.specs.Names.{register_letter, mode_letter}
use Rattle.cert_fields.specs.Pair.{pair_text}
use Rattle.cert_fields.specs.Shape.{shape_text}
use Rattle.cert_fields.proofs.LinearPartLemmas.{part_is_plain}
use Rattle.cert_fields.proofs.PartLemmas.{part_pair}
use Rattle.cert_fields.proofs.ShapeLemmas.{slot_text}

plain_append : (a b : List ℕ) → IsPlain a → IsPlain b → IsPlain (a ++ b)
plain_append [] b h k = k
plain_append (x ∷ a) b h k = (h.0, plain_append a b h.1 k)

plain_join : (first : List ℕ) (others : List (List ℕ)) → AllByRecursion IsPlain (first ∷ others) → IsPlain (join_with_byte 44 (first ∷ others))
plain_join first [] plain = plain.0
plain_join first (next ∷ others) plain = plain_append first (44 ∷ join_with_byte 44 (next ∷ others)) plain.0 (omega arith, plain_join next others plain.1)

plain_list : (texts : List (List ℕ)) → AllByRecursion IsPlain texts → IsPlain (list_text texts)
plain_list [] plain = plain_from_test (codes "-") refl
plain_list (first ∷ others) plain = plain_join first others plain

pub plain_register : (r : Register8) → IsPlain (register_letter r)
plain_register A = plain_from_test (codes "A") refl
plain_register B = plain_from_test (codes "B") refl
plain_register C = plain_from_test (codes "C") refl
plain_register D = plain_from_test (codes "D") refl
plain_register E = plain_from_test (codes "E") refl
plain_register H = plain_from_test (codes "H") refl
plain_register L = plain_from_test (codes "L") refl

pub plain_mode : (m : Mode) → IsPlain (mode_letter m)
plain_mode Unset = plain_from_test (codes "u") refl
plain_mode Set = plain_from_test (codes "s") refl
plain_mode Nmi = plain_from_test (codes "n") refl

pub plain_pair : (p : Pair) → IsPlain (pair_text p)
plain_pair p = part_is_plain (pair_text p) (part_pair p)

pub plain_flag_fact : (f : Option FlagFact) → IsPlain (flag_text f)
plain_flag_fact None = plain_from_test (codes "-") refl
plain_flag_fact (Some (Zero r)) = plain_append (codes "z") (register_letter r) (plain_from_test (codes "z") refl) (plain_register r)
plain_flag_fact (Some (Compared b)) = plain_append (codes "c") _ (plain_from_test (codes "c") refl) (plain_hex2 b)

plain_linears : (slots : ℕ) (facts : List LinearView) → slots < 2 ^ 64 → AreFacts slots facts → AllByRecursion IsPlain (map linear_text facts)
plain_linears slots [] small form = tt
plain_linears slots (s ∷ facts) small form = (plain_linear slots s small form.0, plain_linears slots facts small form.1)

pub plain_facts : (slots : ℕ) (facts : List LinearView) → slots < 2 ^ 64 → AreFacts slots facts → IsPlain (facts_text facts)
unfolding facts_text
plain_facts slots facts small form = plain_list (map linear_text facts) (plain_linears slots facts small form)

plain_slots : (slots : List Slot) → AllByRecursion IsPlain (map slot_text slots)
plain_slots [] = tt
plain_slots (s ∷ slots) = (plain_pair s.pair, plain_slots slots)

pub plain_shape : (slots : List Slot) → IsPlain (shape_text slots)
unfolding shape_text
plain_shape slots = plain_list (map slot_text slots) (plain_slots slots)
