-- Trusted: what a certificate says (docs/CERTIFICATE.md).
use Rattle.std.specs.Prelude.{ℕ, List, ◌∷◌, Option, Some, None}
use Rattle.abs_state.specs.declared.cell.KeptCell.{KeptCell}
use Rattle.address_map.specs.declared.region.Region.{Region}
use Rattle.cert_lines.specs.declared.proc.Proc.{Proc}
use Rattle.cert_lines.specs.declared.row.Row.{Row}
use Rattle.cert_lines.specs.declared.split.Split.{Split}
use Rattle.cert_lines.specs.declared.version.BoardMap.{BoardMap}
use Rattle.cert_lines.specs.declared.version.Version.{Version}
use Rattle.address_map.specs.AddressMap.{MapView}
use Rattle.cert_lines.specs.BoardMaps.{map_named}

-- what a certificate says
pub record CertificateView : Type 0 where
  pub version : Version
  pub rom_len : ℕ
  pub board : BoardMap
  pub region : Region
  pub budget : Option ℕ
  pub procs : List Proc
  pub splits : List Split
  pub inlines : List ℕ
  pub cells : List KeptCell
  pub rows : List Row

-- the address map of the board that a certificate names
abbrev pub map_of_board : CertificateView → MapView
map_of_board cert = map_named cert.board cert.rom_len

-- the NMI routine, if there is one: the second procedure
abbrev pub nmi_among : List Proc → Option ℕ → Option Proc
nmi_among (main ∷ nmi ∷ subs) (Some budget) = Some nmi
nmi_among _ _ = None

abbrev pub nmi_of : CertificateView → Option Proc
nmi_of cert = nmi_among cert.procs cert.budget
