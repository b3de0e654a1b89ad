use Rattle.std.proofs.Common.{◌≡◌, ℕ, take}
use Rattle.address_map.specs.Starts.{is_start}
use Rattle.check_laws.specs.Profile.{has_row}
use Rattle.cert_checker.proofs.accepted.starts_of.Given as goal

-- the starts are the addresses of the rows so far
abbrev pub invariant-loop-id : goal.invariant-loop-id
invariant-loop-id l = (address : ℕ) → is_start l.starts address ≡ has_row (take l.id l.certificate.rows) address
