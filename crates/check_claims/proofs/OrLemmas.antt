-- An effect that takes another one's place where it is unknown.
use Rattle.std.proofs.Common.{◌≡◌, ℕ, eqb, true, refl, ap, sym, inl, inr, rules, List, [], ◌∷◌, ℤ, Option, Some, None, IsSomeAnd}
use Rattle.std.specs.Prelude.{option_and_then}
use Rattle.std.proofs.lemmas.Bool.{cases_Bool, eqb-true}
use Rattle.linear_sums.specs.Rewriting.{plus_after, plus_change, plus_each_after, rewritten}
use Rattle.loop_bounds.specs.Effect.{change_of, part_change, slot_change}
use Rattle.loop_bounds.specs.Linear.{LinearView}
use Rattle.loop_bounds.specs.declared.effect.Change.{Change}
use Rattle.loop_bounds.specs.declared.effect.Change.TheVariants.{Old, Raised, Lowered, Constant, Unknown}
use Rattle.loop_bounds.specs.declared.effect.Effect.{Effect}
use Rattle.loop_bounds.specs.declared.effect.SlotChange.{SlotChange}
use Rattle.loop_bounds.specs.declared.linear.Term.{Term}
use Rattle.loop_bounds.specs.declared.variable.Part.{Part}
use Rattle.loop_bounds.specs.declared.variable.Part.TheVariants.{Word, High, Low}
use Rattle.loop_bounds.specs.declared.variable.Variable.{Variable}
use Rattle.loop_bounds.specs.declared.variable.Variable.TheVariants as variables
use Rattle.check_claims.specs.Rewritings.{change_or, effect_or, slot_or}

-- ---- with itself

with_itself : (c : Change) → change_or c c ≡ c
with_itself (Old v) = refl
with_itself (Raised v) = refl
with_itself (Lowered v) = refl
with_itself (Constant n) = refl
with_itself Unknown = refl

same_number : (n : ℕ) → eqb n n ≡ true
same_number n = search rules

slot_with_itself : (slot : Option SlotChange) (e : Effect) → e.slot ≡ slot → slot_or slot e ≡ slot
slot_with_itself None e is = refl
slot_with_itself (Some c) e is =
    rw (is, same_number c.number, with_itself c.word, with_itself c.high, with_itself c.low) refl

pub same_effect : (e : Effect) → effect_or e e ≡ e
same_effect e =
    rw (with_itself e.a, with_itself e.b, with_itself e.c, with_itself e.d, with_itself e.e, with_itself e.h, with_itself e.l, with_itself e.bc, with_itself e.de, with_itself e.hl, with_itself e.ix, with_itself e.iy, slot_with_itself e.slot e refl) refl

-- ---- what it knows stays

-- a change that can be added can be added with another one in the place of unknown
or_known : (c other : Change) (s : LinearView) (k : ℤ) (t : LinearView) → plus_change s k c ≡ Some t → plus_change s k (change_or c other) ≡ Some t
or_known (Old v) other s k t e = e
or_known (Raised v) other s k t e = e
or_known (Lowered v) other s k t e = e
or_known (Constant n) other s k t e = e
or_known Unknown other s k t e = cc

module _ (effect other : Effect) (s : LinearView) (k : ℤ) (t : LinearView) where
  part_known : (c : SlotChange) (part : Part) → plus_change s k (part_change c part) ≡ Some t
      → plus_change s k (part_change (let d : SlotChange = record { number = c.number; word = change_or c.word (change_of other (variables.Slot c.number Word)); high = change_or c.high (change_of other (variables.Slot c.number High)); low = change_or c.low (change_of other (variables.Slot c.number Low)) } in d) part) ≡ Some t
  part_known c Word e = or_known c.word _ s k t e
  part_known c High e = or_known c.high _ s k t e
  part_known c Low e = or_known c.low _ s k t e

  slot_known : (slot : Option SlotChange) (number : ℕ) (part : Part) → plus_change s k (slot_change slot number part) ≡ Some t → plus_change s k (slot_change (slot_or slot other) number part) ≡ Some t
  slot_known None number part e = e
  slot_known (Some c) number part e = elim (cases_Bool (eqb c.number number)) [
    | inl same ↦ let there = rw same at e in rw same (part_known c part there)
    | inr apart ↦ let there = rw apart at e in rw apart there
  ]

  variable_known : (v : Variable) → plus_change s k (change_of effect v) ≡ Some t → plus_change s k (change_of (effect_or effect other) v) ≡ Some t
  variable_known variables.A e = or_known effect.a other.a s k t e
  variable_known variables.B e = or_known effect.b other.b s k t e
  variable_known variables.C e = or_known effect.c other.c s k t e
  variable_known variables.D e = or_known effect.d other.d s k t e
  variable_known variables.E e = or_known effect.e other.e s k t e
  variable_known variables.H e = or_known effect.h other.h s k t e
  variable_known variables.L e = or_known effect.l other.l s k t e
  variable_known variables.Bc e = or_known effect.bc other.bc s k t e
  variable_known variables.De e = or_known effect.de other.de s k t e
  variable_known variables.Hl e = or_known effect.hl other.hl s k t e
  variable_known variables.Ix e = or_known effect.ix other.ix s k t e
  variable_known variables.Iy e = or_known effect.iy other.iy s k t e
  variable_known (variables.Slot number part) e = slot_known effect.slot number part e

next_known : (f g : LinearView → Option LinearView) (a b : Option LinearView) (t : LinearView) → ((x : LinearView) → a ≡ Some x → b ≡ Some x) → ((x y : LinearView) → f x ≡ Some y → g x ≡ Some y) →
    option_and_then f a ≡ Some t → option_and_then g b ≡ Some t
next_known f g None b t h k e = cc
next_known f g (Some x) b t h k e = rw (h x refl) (k x t e)

each_known : (effect other : Effect) (ts : List Term) (s t : LinearView) → plus_each_after effect None ts s ≡ Some t → plus_each_after (effect_or effect other) None ts s ≡ Some t
each_known effect other [] s t e = e
each_known effect other (u ∷ us) s t e =
    next_known (plus_each_after effect None us) (plus_each_after (effect_or effect other) None us) (plus_after effect None s u) (plus_after (effect_or effect other) None s u) t
    (λ x is. variable_known effect other s u.coefficient x u.variable is) (λ x y is. each_known effect other us x y is) e

some_known : (a b : Option LinearView) (P : LinearView → Type 0) → ((t : LinearView) → a ≡ Some t → b ≡ Some t) → IsSomeAnd a P → IsSomeAnd b P
some_known None b P h k = absurd k
some_known (Some t) b P h k = rw (h t refl) k

-- a linear that an effect rewrites is rewritten to the same one
pub rewritten_or : (effect other : Effect) (fact : LinearView) (P : LinearView → Type 0) → IsSomeAnd (rewritten effect None fact) P → IsSomeAnd (rewritten (effect_or effect other) None fact) P
rewritten_or effect other fact P h =
    some_known (rewritten effect None fact) (rewritten (effect_or effect other) None fact) P
    (λ t is. each_known effect other fact.terms (record { constant = fact.constant; terms = [] }) t is) h
