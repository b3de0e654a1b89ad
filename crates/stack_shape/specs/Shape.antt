-- Shapes of the stack, each the list of its slots, first pushed first (docs/SHAPES.md).
use Rattle.std.specs.Prelude.{ℕ, List, map}
use Rattle.std.specs.List.{AllZip, zip}
use Rattle.stack_shape.specs.declared.slot.Slot.{Slot}
use Rattle.intervals.specs.Domain.{Entry}
use Rattle.stack_shape.specs.Slot.{HoldsSlot, CoversSlot, OverlapsSlot, hull_of_slots}

-- there are as many words as slots, and each slot holds of the word at its place
abbrev pub HoldsShape : List Slot → Entry → List ℕ → Type 0
HoldsShape slots entry words = AllZip (λ slot word. HoldsSlot slot entry word) slots words

-- the shapes have one length, and each slot of the first covers the slot at its place in the second
abbrev pub CoversShape : List Slot → List Slot → Type 0
CoversShape = AllZip CoversSlot

-- the shapes have one length, and the slots overlap, place by place
abbrev pub OverlapsShape : List Slot → List Slot → Type 0
OverlapsShape = AllZip OverlapsSlot

-- the joins of the slots, place by place
abbrev pub hull_of_shapes : List Slot → List Slot → List Slot
hull_of_shapes a b = map (λ p. hull_of_slots p.0 p.1) (zip a b)
