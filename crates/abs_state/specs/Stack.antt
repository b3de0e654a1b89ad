-- Pushes on an abstract state (docs/CHECKER.md, "What a row knows").
use Rattle.std.specs.Prelude.{ℕ, [], ◌∷◌, ◌++◌}
use Rattle.intervals.specs.declared.pair.Pair.{Pair}
use Rattle.abs_state.specs.Seen.{Seen}
use Rattle.abs_state.specs.declared.state.AbsState.{AbsState}

-- a pair is pushed: ranges and origin
abbrev pub pushed : Pair → AbsState → AbsState
pushed pair s = record s { shape = s.shape ++ record { pair = pair } ∷ [] }

-- the machine with one more word on the stack
abbrev pub with_pushed : ℕ → Seen → Seen
with_pushed word m = record m { words = m.words ++ word ∷ [] }
