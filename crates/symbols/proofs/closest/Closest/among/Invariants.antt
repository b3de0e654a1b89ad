use Rattle.std.proofs.Common.{◌≡◌, length}
use Rattle.symbols.proofs.closest.Closest.among.Given as goal

abbrev pub invariant-loop-name-2 : goal.invariant-loop-name-2
invariant-loop-name-2 l = length l.closest.items ≡ l.name-index
