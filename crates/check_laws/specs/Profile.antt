-- Trusted: the profile and the NMI time of a certificate (docs/THEOREM.md).
use Rattle.std.specs.Prelude.{ℕ, ◌==◌, Bool, List, Option, option_and_then}
use Rattle.std.specs.List.{list_any}
use Rattle.board_step.specs.Profile.{ProfileView, profile_of}
use Rattle.cert_lines.specs.declared.proc.Proc.{Proc}
use Rattle.cert_lines.specs.declared.row.Row.{Row}
use Rattle.cert_form.specs.Contents.{CertificateView, nmi_of}
use Rattle.check_laws.specs.Board.{board_of}

-- whether a row is at an address
abbrev pub has_row : List Row → ℕ → Bool
has_row rows address = list_any (λ (row : Row). row.address == address) rows

-- what a certificate's runs are tested against: its ROM and map, the addresses of its rows, and its stack region
abbrev pub certified_profile : List ℕ → CertificateView → ProfileView
certified_profile rom cert = profile_of (board_of rom cert) (has_row cert.rows) cert.region

-- the T-states that a certificate's NMI routine may take; none if there is no routine
abbrev pub nmi_time : CertificateView → Option ℕ
nmi_time cert = option_and_then (λ (proc : Proc). proc.time) (nmi_of cert)
