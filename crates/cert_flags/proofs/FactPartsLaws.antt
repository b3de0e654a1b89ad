-- The flag parts that say what a flag fact says are in form, and few.
use Rattle.std.proofs.Common.{rules, ◌≤◌, ℕ, List, [], ◌∷◌, Option, Some, None, ℤ, pos, ◌-ℤ◌, unsigned_abs, refl, arith}
use Rattle.std.proofs.lemmas.List.Elements.{All-from_recursion}
use Rattle.loop_bounds.specs.declared.linear.Term.{Term}
use Rattle.loop_bounds.specs.declared.variable.Variable.{Variable}
use Rattle.loop_bounds.specs.declared.variable.Variable.TheVariants as variables
use Rattle.z80_decode.specs.declared.operands.Register8.{Register8}
use Rattle.z80_decode.specs.declared.operands.Register8.TheVariants as registers
use Rattle.abs_state.specs.declared.fact.FlagFact.{FlagFact}
use Rattle.abs_state.specs.declared.fact.FlagFact.TheVariants.{Zero, Compared}
use Rattle.cert_fields.specs.Flag.{IsFlag}
use Rattle.cert_fields.specs.Linear.{IsBelow, IsCoefficient}
use Rattle.flag_letters.specs.declared.letter.Letter.{Letter}
use Rattle.flag_letters.specs.declared.letter.Letter.TheVariants as letters
use Rattle.flag_letters.specs.declared.part.FlagPart.{FlagPart}
use Rattle.cert_flags.specs.FactParts.{part_of_variable, parts_of_fact, register_variable, told_by_parts}
use Rattle.cert_flags.specs.Flags.{AreFlags, flags_with}
use Rattle.cert_flags.specs.Parts.{AreFewParts, AreFlagParts, IsFlagPart, IsShortPart}
use Rattle.cert_flags.specs.declared.form.FlagForm.{FlagForm}
use Rattle.cert_flags.specs.declared.form.FlagForm.TheVariants.{Fact, Parts}

-- a register is no slot
register_below : (slots : ℕ) (r : Register8) → IsBelow slots (register_variable r)
register_below slots registers.B = tt
register_below slots registers.C = tt
register_below slots registers.D = tt
register_below slots registers.E = tt
register_below slots registers.H = tt
register_below slots registers.L = tt
register_below slots registers.A = tt

module _ (letter : Letter) (constant : ℤ) (variable : Variable) where
  abbrev terms : List Term
  terms = record { coefficient = pos 1; variable = variable } ∷ []

  form_of_one : (slots : ℕ) → unsigned_abs constant ≤ 1000000000 → IsBelow slots variable → IsFlagPart slots (part_of_variable letter constant variable)
  form_of_one slots small below = record {
    constant = small;
    coefficients = All-from_recursion (λ (t : Term). IsCoefficient t.coefficient) terms ((omega arith, omega arith), tt);
    rising = search rules;
    within_shape = All-from_recursion (λ (t : Term). IsBelow slots t.variable) terms (below, tt);
  }

  short_one : IsBelow 64 variable → IsShortPart (part_of_variable letter constant variable)
  short_one below = record {
    count = omega arith;
    numbers = All-from_recursion (λ (t : Term). IsBelow 64 t.variable) terms (below, tt);
  }

-- a byte taken from 0 is small
small_byte : (byte : ℕ) → byte ≤ 255 → unsigned_abs (pos 0 -ℤ pos byte) ≤ 1000000000
small_byte byte is = search (rules, is)

pub fact_form : (slots : ℕ) (fact : FlagFact) → IsFlag (Some fact) → AreFlagParts slots (parts_of_fact fact)
fact_form slots (Zero r) is = (form_of_one letters.Zero (pos 0) (register_variable r) slots (omega arith) (register_below slots r), tt)
fact_form slots (Compared byte) is =
    let small = small_byte byte is in (
      form_of_one letters.CarryIfBelow (pos 0 -ℤ pos byte) variables.A slots small tt,
      (form_of_one letters.Zero (pos 0 -ℤ pos byte) variables.A slots small tt, tt),
    )

pub fact_few : (fact : FlagFact) → AreFewParts (parts_of_fact fact)
fact_few (Zero r) = record { count = omega arith; short = (short_one letters.Zero (pos 0) (register_variable r) (register_below 64 r), tt) }
fact_few (Compared byte) = record {
  count = omega arith;
  short = (short_one letters.CarryIfBelow (pos 0 -ℤ pos byte) variables.A tt, (short_one letters.Zero (pos 0 -ℤ pos byte) variables.A tt, tt));
}

-- what a row says of the flags is in form by flag parts alone
pub told_form : (form : FlagForm) (slots : ℕ) (fact : Option FlagFact) (parts : List FlagPart) → AreFlags form slots (flags_with fact parts) →
    AreFlags Parts slots (flags_with None (told_by_parts fact parts))
told_form Fact slots None parts are = let none = are.1 in (refl, rw none tt)
told_form Fact slots (Some fact) parts are = (refl, fact_form slots fact are.0)
told_form Parts slots None parts are = (refl, are.1)
told_form Parts slots (Some fact) parts are = (refl, absurd (search (rules, are.0)))

-- and within the limits
pub told_few : (fact : Option FlagFact) (parts : List FlagPart) → AreFewParts parts → AreFewParts (told_by_parts fact parts)
told_few None parts few = few
told_few (Some fact) parts few = fact_few fact
