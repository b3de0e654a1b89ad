-- The names of versions and of boards in a certificate's text, and what each version has (docs/CERTIFICATE.md).
use Rattle.std.specs.Prelude.{ℕ, List, codes, Bool, true, false}
use Rattle.cert_lines.specs.declared.version.BoardMap.{BoardMap}
use Rattle.cert_lines.specs.declared.version.BoardMap.TheVariants.{Galaxian, Raised}
use Rattle.cert_lines.specs.declared.version.Version.{Version}
use Rattle.cert_lines.specs.declared.version.Version.TheVariants.{One, Two, Three}
use Rattle.cert_flags.specs.declared.form.FlagForm.{FlagForm}
use Rattle.cert_flags.specs.declared.form.FlagForm.TheVariants.{Fact, Parts}

abbrev pub version_digit : Version → List ℕ
version_digit One = codes "1"
version_digit Two = codes "2"
version_digit Three = codes "3"

-- whether a version names the board's map; it then may have kept cells, and each row says how many are armed
abbrev pub names_board : Version → Bool
names_board One = false
names_board Two = true
names_board Three = true

-- the form of the FLAG field in a version's rows
abbrev pub flag_form : Version → FlagForm
flag_form One = Fact
flag_form Two = Fact
flag_form Three = Parts

abbrev pub board_name : BoardMap → List ℕ
board_name Galaxian = codes "galaxian"
board_name Raised = codes "raised"

-- the first address of a board's work RAM
abbrev pub work_start_of : BoardMap → ℕ
work_start_of Galaxian = 16384
work_start_of Raised = 32768
