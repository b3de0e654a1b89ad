-- Helper: what acceptance means for the runs and the instructions of a ROM.
use Rattle.std.specs.Prelude.{ℕ, ◌<◌, ◌≡◌, List, Bool}
use Rattle.std.specs.List.{All}
use Rattle.address_map.specs.Starts.{is_start}
use Rattle.board_step.specs.Safe.{Safe}
use Rattle.cert_lines.specs.declared.row.Row.{Row}
use Rattle.cert_form.specs.Contents.{CertificateView}
use Rattle.code_map.specs.Code.{AllStand}
use Rattle.check_laws.specs.Bounded.{KeepsTimes}
use Rattle.check_laws.specs.Layout.{RunsAreLaidOut}
use Rattle.check_laws.specs.Profile.{certified_profile, has_row, nmi_time}

-- every run is safe; activations keep their time and are laid out on the board; an instruction stands at each row,
-- inside the ROM
pub record Means (rom : List ℕ) (cert : CertificateView) : Type 0 where
  pub safe : Safe (certified_profile rom cert) (nmi_time cert)
  pub bounded : KeepsTimes rom cert
  pub laid : RunsAreLaidOut rom cert
  pub inside : All (λ (row : Row). row.address < 16384) cert.rows
  pub stand : (starts : List Bool) → ((address : ℕ) → is_start starts address ≡ has_row cert.rows address) → AllStand rom starts
