-- The parts in their order.
use Rattle.std.proofs.Common.{◌≡◌, ℕ, suc, ◌+◌, ◌<◌, List, ◌∷◌, length, get_or, drop, Some, None, refl, sym, subst, ap, ◌∙◌, Bool, true, false, IsTrue, not, ℤ, pos, ◌+ℤ◌, ◌≤ℤ◌, ◌<ℤ◌, arith, rules, add-one, drop-cons}
use Rattle.std.specs.Prelude.{◌↔◌}
use Rattle.std.proofs.lemmas.Int.{ints, by_lt_z}
use Rattle.z80_alu.specs.declared.flags.Flags.{Flags}
use Rattle.z80_decode.specs.declared.kinds.Condition.{Condition}
use Rattle.z80_decode.specs.declared.kinds.Condition.TheVariants as conditions
use Rattle.z80_draft.specs.Arithmetic.{holds}
use Rattle.linear_limits.specs.declared.limiting.SideOfZero.TheVariants.{Below, NotBelow}
use Rattle.abs_state.specs.declared.state.AbsState.{AbsState}
use Rattle.flag_parts.specs.Narrowing.{said, IsAsSaid, narrowed_by_part, narrowed}
use Rattle.loop_bounds.specs.Effect.{Valuation}
use Rattle.flag_parts.specs.Parts.{flag_of, IsSetAt, HoldsPart, HoldsParts}
use Rattle.flag_letters.specs.declared.letter.Letter.{Letter}
use Rattle.flag_letters.specs.declared.letter.Letter.TheVariants as letters
use Rattle.flag_parts.specs.declared.narrowing.ZeroTest.{ZeroTest}
use Rattle.flag_parts.specs.declared.narrowing.ZeroTest.TheVariants.{IsZero, IsNotZero, LiesOn}
use Rattle.flag_letters.specs.declared.part.FlagPart.{FlagPart}

-- ---- what a met condition says is true

set_below : (b : Bool) (n : ℤ) → (IsTrue b ↔ n <ℤ pos 0) → IsTrue b → (n +ℤ pos 1) ≤ℤ pos 0
set_below b n h t = let below = h.0 t in omega (arith, ints)

clear_not_below : (b : Bool) (n : ℤ) → (IsTrue b ↔ n <ℤ pos 0) → IsTrue (not b) → pos 0 ≤ℤ n
clear_not_below true n h t = absurd (search rules)
clear_not_below false n h t = by_lt_z n (pos 0) (λ below. let u = h.1 below in absurd (search rules)) (λ above. above)

clear_not_zero : (b : Bool) (n : ℤ) → (IsTrue b ↔ n ≡ pos 0) → IsTrue (not b) → n ≡ pos 0 → ⊥
clear_not_zero true n h t e = search rules
clear_not_zero false n h t e = let u = h.1 e in search rules

pub as_said : (letter : Letter) (condition : Condition) (flags : Flags) (n : ℤ) (what : ZeroTest) → said letter condition ≡ Some what → (IsTrue (flag_of letter flags) ↔ IsSetAt letter n) → IsTrue (holds condition flags) → IsAsSaid what n
as_said letters.Zero conditions.Zero flags n IsZero e h t = h.0 t
as_said letters.Zero conditions.NotZero flags n IsNotZero e h t = clear_not_zero flags.zero n h t
as_said letters.ZeroIfBelow conditions.Zero flags n (LiesOn Below) e h t = set_below flags.zero n h t
as_said letters.ZeroIfBelow conditions.NotZero flags n (LiesOn NotBelow) e h t = clear_not_below flags.zero n h t
as_said letters.CarryIfBelow conditions.Carry flags n (LiesOn Below) e h t = set_below flags.carry n h t
as_said letters.CarryIfBelow conditions.NotCarry flags n (LiesOn NotBelow) e h t = clear_not_below flags.carry n h t
as_said letters.SignIfBelow conditions.Minus flags n (LiesOn Below) e h t = set_below flags.sign n h t
as_said letters.SignIfBelow conditions.Plus flags n (LiesOn NotBelow) e h t = clear_not_below flags.sign n h t
as_said _ _ flags n what e h t = cc

-- ---- the loop

module _ (condition : Condition) (items : List FlagPart) (k : ℕ) (part : FlagPart) (s : AbsState) (inside : k < length items) (at : part ≡ get_or items k part) where
  rest_is : narrowed condition (drop k items) s ≡ narrowed condition (part ∷ drop (k + 1) items) s
  rest_is =
      let here : drop k items ≡ part ∷ drop (k + 1) items = rw (add-one, drop-cons items k part) (ap (λ (p : FlagPart). p ∷ drop (suc k) items) (sym at)) in
      ap (λ (ps : List FlagPart). narrowed condition ps s) here

  pub goes_on : (next : AbsState) → narrowed_by_part condition part s ≡ Some next → narrowed condition (drop k items) s ≡ narrowed condition (drop (k + 1) items) next
  goes_on next e = rest_is ∙ rw e refl

  pub nothing_left : narrowed_by_part condition part s ≡ None → narrowed condition (drop k items) s ≡ None
  nothing_left e = rest_is ∙ rw e refl

pub part_held : (parts items : List FlagPart) (k : ℕ) (part : FlagPart) (flags : Flags) (x : Valuation) → items ≡ parts → k < length items → part ≡ get_or items k part → HoldsParts parts flags x → HoldsPart part flags x
part_held parts items k part flags x same inside at h =
    let there : HoldsParts items flags x = subst (λ (ps : List FlagPart). HoldsParts ps flags x) (sym same) h in
    subst (λ (p : FlagPart). HoldsPart p flags x) (sym at) (there k part inside)
