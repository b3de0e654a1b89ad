-- Modes of rows, and which covers which (docs/CHECKER.md, "Rows").
use Rattle.std.specs.Prelude.{Bool, true, false, Option, Some, None}
use Rattle.abs_state.specs.declared.mode.Mode.{Mode}
use Rattle.abs_state.specs.declared.mode.Mode.TheVariants.{Unset, Set, Nmi}

-- SP may be unset
abbrev pub is_unset : Mode → Bool
is_unset Unset = true
is_unset Set = false
is_unset Nmi = false

-- a row of the first mode covers a state of the second
abbrev pub covers_mode : Mode → Mode → Bool
covers_mode Unset Unset = true
covers_mode Unset Set = true
covers_mode Unset Nmi = false
covers_mode Set Unset = false
covers_mode Set Set = true
covers_mode Set Nmi = false
covers_mode Nmi Unset = false
covers_mode Nmi Set = true
covers_mode Nmi Nmi = true

-- the mode that covers both; none for u and n
abbrev pub hull_of_modes : Mode → Mode → Option Mode
hull_of_modes Unset Unset = Some Unset
hull_of_modes Unset Set = Some Unset
hull_of_modes Unset Nmi = None
hull_of_modes Set Unset = Some Unset
hull_of_modes Set Set = Some Set
hull_of_modes Set Nmi = Some Nmi
hull_of_modes Nmi Unset = None
hull_of_modes Nmi Set = Some Nmi
hull_of_modes Nmi Nmi = Some Nmi
