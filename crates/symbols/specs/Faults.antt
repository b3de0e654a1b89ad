-- What a fault says of symbols.
use Rattle.std.specs.Prelude.{◌≡◌, ℕ, List, None}
use Rattle.std.specs.String.{string_bytes}
use Rattle.symbols.specs.declared.fault.ResolveFault.{ResolveFault}
use Rattle.symbols.specs.declared.fault.ResolveFault.TheVariants.{Unknown, Form, Range, NoMemory}
use Rattle.symbols.specs.Names.{value_of_name}

-- a name that is told unknown has no value
abbrev pub NamesUnknown : List (List ℕ × ℕ) → ResolveFault → Type 0
NamesUnknown symbols (Unknown name closest) = value_of_name symbols (string_bytes name) ≡ None
NamesUnknown symbols Form = Unit {0}
NamesUnknown symbols Range = Unit {0}
NamesUnknown symbols NoMemory = Unit {0}
