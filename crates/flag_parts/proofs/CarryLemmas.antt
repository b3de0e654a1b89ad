-- The carry that parts tell is the machine's.
use Rattle.std.proofs.Common.{ℕ, suc, ◌+◌, ◌<◌, length, get_or, drop, add-one, drop-cons, ◌≡◌, Bool, true, false, List, [], ◌∷◌, ℤ, pos, ◌≤ℤ◌, ◌<ℤ◌, Option, Some, None, sym, ap, ◌∙◌, arith, rules, IsTrue}
use Rattle.std.specs.Prelude.{IfSome, ◌↔◌}
use Rattle.std.proofs.lemmas.Int.{ints}
use Rattle.std.proofs.lemmas.List.Elements.{All-head, All-tail}
use Rattle.linear_limits.proofs.SpanLemmas.{LiesWithin, above_least_value, below_greatest_value}
use Rattle.linear_limits.specs.Extremes.{least_value, greatest_value}
use Rattle.loop_bounds.specs.Effect.{Valuation, whole}
use Rattle.loop_bounds.specs.Linear.{value}
use Rattle.loop_bounds.specs.Ranges.{Box}
use Rattle.z80_alu.specs.declared.flags.Flags.{Flags}
use Rattle.flag_parts.specs.Carry.{told_sign, carry_from, told_carry, or_else, known_carry}
use Rattle.flag_parts.specs.Parts.{flag_of, IsSetAt, HoldsPart, HoldsParts}
use Rattle.flag_letters.specs.declared.letter.Letter.{Letter}
use Rattle.flag_letters.specs.declared.letter.Letter.TheVariants.{Zero, ZeroIfBelow, CarryIfBelow, SignIfBelow}
use Rattle.flag_letters.specs.declared.part.FlagPart.{FlagPart}

sign_told : (carry : Bool) (n least greatest : ℤ) → least ≤ℤ n → n ≤ℤ greatest → (IsTrue carry ↔ n <ℤ pos 0) → IfSome (told_sign least greatest) (λ b. carry ≡ b)
sign_told true n least greatest p q h =
    let below : n <ℤ pos 0 = h.0 (search rules) in
    grind (arith, ints)
sign_told false n least greatest p q h =
    let not_below : n <ℤ pos 0 → ⊥ = λ b. let t = h.1 b in search rules in
    grind (arith, ints)

letter_told : (letter : Letter) (flags : Flags) (n least greatest : ℤ) → least ≤ℤ n → n ≤ℤ greatest → (IsTrue (flag_of letter flags) ↔ IsSetAt letter n) → IfSome (carry_from letter least greatest) (λ b. flags.carry ≡ b)
letter_told Zero flags n least greatest p q h = tt
letter_told ZeroIfBelow flags n least greatest p q h = tt
letter_told SignIfBelow flags n least greatest p q h = tt
letter_told CarryIfBelow flags n least greatest p q h = sign_told flags.carry n least greatest p q h

module _ (box : Box) (flags : Flags) (x : Valuation) (within : LiesWithin box x) where
  pub carry_told : (part : FlagPart) → HoldsPart part flags x → IfSome (told_carry box part) (λ b. flags.carry ≡ b)
  carry_told part h =
      letter_told part.letter flags (value (whole x) part.linear) (least_value box part.linear) (greatest_value box part.linear)
      (above_least_value box part.linear x within) (below_greatest_value box part.linear x within) h

  first_told : (first rest : Option Bool) → IfSome first (λ b. flags.carry ≡ b) → IfSome rest (λ b. flags.carry ≡ b) → IfSome (or_else first rest) (λ b. flags.carry ≡ b)
  first_told None rest p q = q
  first_told (Some b) rest p q = p

  pub carry_known : (parts : List FlagPart) → HoldsParts parts flags x → IfSome (known_carry box parts) (λ b. flags.carry ≡ b)
  carry_known [] h = tt
  carry_known (part ∷ parts) h =
      first_told (told_carry box part) (known_carry box parts)
      (carry_told part (All-head (λ (p : FlagPart). HoldsPart p flags x) part parts h))
      (carry_known parts (All-tail (λ (p : FlagPart). HoldsPart p flags x) part parts h))

-- ---- the loop

module _ (box : Box) (items : List FlagPart) (k : ℕ) where
  pub first_here : (part : FlagPart) (carry : Bool) → k < length items → part ≡ get_or items k part → told_carry box part ≡ Some carry → known_carry box (drop k items) ≡ Some carry
  first_here part carry inside at e =
      let here : drop k items ≡ part ∷ drop (suc k) items = rw (drop-cons items k part) (ap (λ (p : FlagPart). p ∷ drop (suc k) items) (sym at)) in
      ap (known_carry box) here ∙ ap (λ o. or_else o (known_carry box (drop (suc k) items))) e

  pub none_here : (part : FlagPart) → k < length items → part ≡ get_or items k part → told_carry box part ≡ None → known_carry box (drop k items) ≡ known_carry box (drop (k + 1) items)
  none_here part inside at e =
      let here : drop k items ≡ part ∷ drop (suc k) items = rw (drop-cons items k part) (ap (λ (p : FlagPart). p ∷ drop (suc k) items) (sym at)) in
      rw add-one (ap (known_carry box) here ∙ ap (λ o. or_else o (known_carry box (drop (suc k) items))) e)
