-- What is known of a word on the stack (docs/SHAPES.md): what is known of a pair.
use Rattle.std.specs.Prelude.{ℕ}
use Rattle.stack_shape.specs.declared.slot.Slot.{Slot}
use Rattle.intervals.specs.Domain.{Entry}
use Rattle.intervals.specs.Pair.{HoldsPair, CoversPair, OverlapsPair, hull_of_pairs}

-- the word is in the slot's pair
abbrev pub HoldsSlot : Slot → Entry → ℕ → Type 0
HoldsSlot slot entry word = HoldsPair slot.pair entry word

-- the pair of the first covers the pair of the second
abbrev pub CoversSlot : Slot → Slot → Type 0
CoversSlot a b = CoversPair a.pair b.pair

-- the ranges of the two pairs share a value each
abbrev pub OverlapsSlot : Slot → Slot → Type 0
OverlapsSlot a b = OverlapsPair a.pair b.pair

-- the join of the two pairs
abbrev pub hull_of_slots : Slot → Slot → Slot
hull_of_slots a b = record { pair = hull_of_pairs a.pair b.pair }
