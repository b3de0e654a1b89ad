-- Vectors over the tracked variables.
use Rattle.std.specs.Prelude.{ℕ, ℤ, pos, slice_index_or}
use Rattle.tracked_variables.specs.declared.vector.Vector.{Vector}

-- the entry at a rank
abbrev pub entry_at : Vector → ℕ → ℤ
entry_at v rank = slice_index_or v.entries rank (pos 0)
