-- Helper: the greatest budget of the NMI routine.
use Rattle.std.specs.Prelude.{ℕ}

-- the most T-states that the NMI routine may take, its acceptance included
abbrev pub max_budget : ℕ
max_budget = 50665
