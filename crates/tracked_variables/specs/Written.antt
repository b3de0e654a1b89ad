-- Which variables an effect writes.
use Rattle.std.specs.Prelude.{ℕ, ◌+◌, ◌*◌, min, Option, Some, None}
use Rattle.loop_bounds.specs.declared.effect.SlotChange.{SlotChange}

-- the lowest rank of the slot that a step writes
abbrev pub first_written : Option SlotChange → ℕ
first_written None = 48
first_written (Some s) = min (12 + 3 * s.number) 48
