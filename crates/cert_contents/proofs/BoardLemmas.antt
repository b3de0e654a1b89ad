-- The line of the board's map in a certificate: how many there are, and which.
use Rattle.std.proofs.Common.{◌≡◌, false, [], ◌∷◌, length, refl, sym, ap}
use Rattle.std.proofs.lemmas.Bool.{false≢true}
use Rattle.std.specs.Int.{from_bool}
use Rattle.cert_lines.specs.Version.{names_board}
use Rattle.cert_lines.specs.declared.line.Line.TheVariants as lines
use Rattle.cert_lines.specs.declared.version.BoardMap.{BoardMap}
use Rattle.cert_lines.specs.declared.version.BoardMap.TheVariants.{Galaxian, Raised}
use Rattle.cert_lines.specs.declared.version.Version.{Version}
use Rattle.cert_lines.specs.declared.version.Version.TheVariants.{One, Two, Three}
use Rattle.cert_form.specs.Contents.{CertificateView}
use Rattle.cert_form.specs.Form.{SuitsVersion}
use Rattle.cert_form.specs.Text.{board_lines}

-- one if the version names the board, else none
pub board_line_count : (v : Version) (c : CertificateView) → SuitsVersion v c →
    length (board_lines v c.board) ≡ from_bool (names_board v)
board_line_count One c old = ap (λ b. length (board_lines One b)) old.board
board_line_count Two c any = refl
board_line_count Three c any = refl

-- a version that does not name the board is for the Galaxian one
pub no_board_line : (v : Version) (b : BoardMap) → names_board v ≡ false → b ≡ Galaxian → board_lines v b ≡ []
no_board_line One b other is = rw is refl
no_board_line Two b other is = absurd (false≢true (sym other))
no_board_line Three b other is = absurd (false≢true (sym other))

-- another board has a line, which is a bad one where the version does not name the board
pub raised_board_line : (v : Version) (b : BoardMap) → b ≡ Raised → board_lines v b ≡ lines.Board b ∷ []
raised_board_line One b is = rw is refl
raised_board_line Two b is = refl
raised_board_line Three b is = refl
