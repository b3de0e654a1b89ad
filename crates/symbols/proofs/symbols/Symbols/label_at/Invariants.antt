use Rattle.std.proofs.Common.{◌≡◌, ◌<◌, ◌-◌, ℕ, None}
use Rattle.symbols.proofs.symbols.Symbols.label_at.Given as goal
use Rattle.symbols.specs.Names.{shown_name}

abbrev pub invariant-loop-offset : goal.invariant-loop-offset
invariant-loop-offset l = (k : ℕ) → k < l.offset → shown_name l.self (l.address - k) ≡ None
