-- Effects: what a step leaves in the variables (docs/CHECKER.md, "Linear bounds, effects and tightening").
use Rattle.std.specs.Prelude.{◌≢◌, ℕ, ◌==◌, if◌then◌else◌, ℤ, pos, ◌+ℤ◌, ◌-ℤ◌, All, Option, Some, None}
use Rattle.intervals.specs.Logic.{is_single}
use Rattle.intervals.specs.Range.{RangeView, full}
use Rattle.loop_bounds.specs.declared.effect.Change.{Change}
use Rattle.loop_bounds.specs.declared.effect.Change.TheVariants.{Old, Raised, Lowered, Constant, Unknown}
use Rattle.loop_bounds.specs.declared.effect.Effect.{Effect}
use Rattle.loop_bounds.specs.declared.effect.SlotChange.{SlotChange}
use Rattle.loop_bounds.specs.declared.variable.Variable.{Variable}
use Rattle.loop_bounds.specs.declared.variable.Variable.TheVariants.{A, B, C, D, E, H, L, Bc, De, Hl, Ix, Iy, Slot}
use Rattle.loop_bounds.specs.declared.variable.Part.{Part}
use Rattle.loop_bounds.specs.declared.variable.Part.TheVariants.{Word, High, Low}
use Rattle.loop_bounds.specs.Linear.{LinearView}
use Rattle.loop_bounds.specs.Ranges.{Box}

-- each variable as it was
abbrev pub unchanged : Effect
unchanged = record {
  a = Old A;
  b = Old B;
  c = Old C;
  d = Old D;
  e = Old E;
  h = Old H;
  l = Old L;
  bc = Old Bc;
  de = Old De;
  hl = Old Hl;
  ix = Old Ix;
  iy = Old Iy;
  slot = None;
}

-- what the step leaves in a part of the slot that it writes
abbrev pub part_change : SlotChange → Part → Change
part_change s Word = s.word
part_change s High = s.high
part_change s Low = s.low

-- what the step leaves in a slot; one that it does not write keeps its value
abbrev pub slot_change : Option SlotChange → ℕ → Part → Change
slot_change None number part = Old (Slot number part)
slot_change (Some s) number part = if s.number == number then part_change s part else Old (Slot number part)

-- what the step leaves in a variable
abbrev pub change_of : Effect → Variable → Change
change_of e A = e.a
change_of e B = e.b
change_of e C = e.c
change_of e D = e.d
change_of e E = e.e
change_of e H = e.h
change_of e L = e.l
change_of e Bc = e.bc
change_of e De = e.de
change_of e Hl = e.hl
change_of e Ix = e.ix
change_of e Iy = e.iy
change_of e (Slot number part) = slot_change e.slot number part

-- a value for each variable
abbrev pub Valuation : Type 0
Valuation = Variable → ℕ

-- the values as integers
abbrev pub whole : Valuation → Variable → ℤ
whole x v = pos (x v)

-- The value after a step, from the values before it. The last argument is the value of an unknown variable.
abbrev pub changed : Change → Valuation → ℤ → ℤ
changed (Old w) before free = pos (before w)
changed (Raised w) before free = pos (before w) +ℤ pos 1
changed (Lowered w) before free = pos (before w) -ℤ pos 1
changed (Constant k) before free = pos k
changed Unknown before free = free

-- The values after a step. The unknown ones are free.
abbrev pub after : Effect → Valuation → Valuation → Variable → ℤ
after e before free v = changed (change_of e v) before (pos (free v))

-- the source range of an unchanged variable; full for any other change
abbrev pub old_range : Box → Change → RangeView
old_range source (Old v) = source v
old_range source _ = full 65536

-- constants have priority: an unchanged variable with one value before the step is a constant
abbrev pub constant_before : Box → Change → Change
constant_before source change = if is_single (old_range source change) then Constant (old_range source change).low else change

-- The values after a step from a source box. The unknown ones are free.
abbrev pub after_from : Box → Effect → Valuation → Valuation → Variable → ℤ
after_from source e before free v = changed (constant_before source (change_of e v)) before (pos (free v))

-- no variable of the linear is unknown after the step
abbrev pub HasNoUnknown : Effect → LinearView → Type 0
HasNoUnknown e s = All (λ t. change_of e t.variable ≢ Unknown) s.terms
