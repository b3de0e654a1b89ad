-- The two ways to rewrite a linear over the variables after a step (docs/CHECKER.md, "Claims").
use Rattle.std.specs.Prelude.{Bool, if◌then◌else◌, nat_le, unsigned_abs, Option, Some, None}
use Rattle.std.specs.List.{list_all}
use Rattle.linear_effects.specs.declared.variable_effect.LinearEffect.{LinearEffect}
use Rattle.linear_sums.specs.declared.rewriting.LinearChange.{LinearChange}
use Rattle.loop_bounds.specs.Effect.{change_of}
use Rattle.loop_bounds.specs.Linear.{LinearView}
use Rattle.loop_bounds.specs.declared.effect.Change.{Change}
use Rattle.loop_bounds.specs.declared.effect.Change.TheVariants.{Old, Raised, Lowered, Constant, Unknown}
use Rattle.loop_bounds.specs.declared.effect.Effect.{Effect}
use Rattle.loop_bounds.specs.declared.effect.SlotChange.{SlotChange}
use Rattle.loop_bounds.specs.declared.variable.Part.TheVariants.{Word, High, Low}
use Rattle.loop_bounds.specs.declared.variable.Variable.TheVariants.{Slot}
use Rattle.check_claims.specs.declared.rewritings.Rewriting.{Rewriting}

-- ---- the linear effect

-- each coefficient is at most 256 in size
abbrev pub is_slight : LinearView → Bool
is_slight s = list_all (λ t. nat_le (unsigned_abs t.coefficient) 256) s.terms

-- the linear effect as a change of its variable; that of every instruction is slight
abbrev pub change_if_slight : LinearEffect → Bool → Option LinearChange
change_if_slight e slight = if slight then Some (record { variable = e.variable; value = e.linear }) else None

abbrev pub slight_change : Option LinearEffect → Option LinearChange
slight_change None = None
slight_change (Some e) = change_if_slight e (is_slight e.linear)

-- ---- constants first

-- a linear change of a variable that is a constant is left out
abbrev pub change_beside : Change → LinearChange → Option LinearChange
change_beside (Old v) c = Some c
change_beside (Raised v) c = Some c
change_beside (Lowered v) c = Some c
change_beside (Constant n) c = None
change_beside Unknown c = Some c

abbrev pub unless_constant : Effect → Option LinearChange → Option LinearChange
unless_constant effect None = None
unless_constant effect (Some c) = change_beside (change_of effect c.variable) c

-- constants have priority, then the linear, then variables
abbrev pub constants_first : Effect → Option LinearEffect → Rewriting
constants_first settled linear = record {
  effect = settled;
  change = unless_constant settled (slight_change linear);
}

-- ---- variables first

-- the change, or another one where it is unknown
abbrev pub change_or : Change → Change → Change
change_or (Old v) other = Old v
change_or (Raised v) other = Raised v
change_or (Lowered v) other = Lowered v
change_or (Constant n) other = Constant n
change_or Unknown other = other

-- the change of a slot, or what an effect leaves in that slot where it is unknown
abbrev pub slot_or : Option SlotChange → Effect → Option SlotChange
slot_or None other = None
slot_or (Some c) other = Some (record {
  number = c.number;
  word = change_or c.word (change_of other (Slot c.number Word));
  high = change_or c.high (change_of other (Slot c.number High));
  low = change_or c.low (change_of other (Slot c.number Low));
})

-- the effect, or another one where it is unknown; a slot that the first does not write is known
abbrev pub effect_or : Effect → Effect → Effect
effect_or effect other = record {
  a = change_or effect.a other.a;
  b = change_or effect.b other.b;
  c = change_or effect.c other.c;
  d = change_or effect.d other.d;
  e = change_or effect.e other.e;
  h = change_or effect.h other.h;
  l = change_or effect.l other.l;
  bc = change_or effect.bc other.bc;
  de = change_or effect.de other.de;
  hl = change_or effect.hl other.hl;
  ix = change_or effect.ix other.ix;
  iy = change_or effect.iy other.iy;
  slot = slot_or effect.slot other;
}

-- the linear has priority, then variables, then constants
abbrev pub variables_first : Effect → Effect → Option LinearEffect → Rewriting
variables_first settled moved linear = record {
  effect = effect_or moved settled;
  change = slight_change linear;
}
