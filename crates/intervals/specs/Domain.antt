-- The values of the register pairs at an activation's entry.
use Rattle.std.specs.Prelude.{ℕ}
use Rattle.intervals.specs.declared.reg_pair.RegPair.{RegPair}

-- what each of the ten pairs held at the activation's entry
abbrev pub Entry : Type 0
Entry = RegPair → ℕ
