-- The exit statuses of the command that shows a procedure (docs/PROGRAM.md, "Statuses").
use Rattle.std.specs.Prelude.{ℕ, ◌≡◌, ◌⊎◌}
use Rattle.command_parts.specs.Status.{IsStatus}

-- a status, or that of an unknown procedure
abbrev pub IsViewStatus : ℕ → Type 0
IsViewStatus status = (status ≡ 2) ⊎ IsStatus status
