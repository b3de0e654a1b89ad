-- The exit statuses of a command whose command line is in form (docs/PROGRAM.md, "Statuses").
use Rattle.std.specs.Prelude.{ℕ, ◌≡◌, ◌⊎◌}
use Rattle.command_parts.specs.declared.exit_status.ExitStatus.{ExitStatus}
use Rattle.command_parts.specs.declared.exit_status.ExitStatus.TheVariants.{Done, Refused, Usage, Device, OutOfMemory}

-- the number of a status
abbrev pub code_of : ExitStatus → ℕ
code_of Done = 0
code_of Refused = 1
code_of Usage = 2
code_of Device = 3
code_of OutOfMemory = 4

-- refused, a device failed, or memory was refused
abbrev pub IsFailing : ℕ → Type 0
IsFailing status = (status ≡ 1) ⊎ ((status ≡ 3) ⊎ (status ≡ 4))

-- one of these, or done
abbrev pub IsStatus : ℕ → Type 0
IsStatus status = (status ≡ 0) ⊎ IsFailing status
