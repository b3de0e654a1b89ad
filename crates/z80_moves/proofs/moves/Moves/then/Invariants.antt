use Rattle.std.proofs.Common.{◌≡◌, ◌++◌, take}
use Rattle.z80_moves.proofs.moves.Moves.then.Given as goal

-- the moves so far follow those that were there
abbrev pub invariant-loop-step : goal.invariant-loop-step
invariant-loop-step l = l.self-inside.items.items ≡ l.initial.self-inside.items.items ++ take l.step-index l.moves
