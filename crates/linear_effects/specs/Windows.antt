-- The window of a result that is computed modulo a size (docs/CHECKER.md, "Linear effects").
use Rattle.std.specs.Prelude.{ℕ, ◌/◌, ◌==◌, if◌then◌else◌, Option, Some, None}

-- the number of the window in which all whole numbers from low to high lie: the one that begins at so many sizes
abbrev pub window_number : ℕ → ℕ → ℕ → Option ℕ
window_number size low high = if low / size == high / size then Some (low / size) else None
