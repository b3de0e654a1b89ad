-- The text of a certificate, and the faults of other bytes (docs/CERTIFICATE.md).
use Rattle.std.specs.Prelude.{ℕ, ◌-◌, ◌≤◌, ◌<◌, ◌≡◌, List, [], ◌∷◌, ◌++◌, map, length, take}
use Rattle.std.specs.List.{flat_map, AllByRecursion}
use Rattle.cert_lines.specs.Line.{line_text}
use Rattle.cert_lines.specs.declared.line.Line.{Line}
use Rattle.cert_lines.specs.declared.line.Line.TheVariants as lines
use Rattle.cert_lines.specs.declared.version.BoardMap.{BoardMap}
use Rattle.cert_lines.specs.declared.version.BoardMap.TheVariants.{Galaxian, Raised}
use Rattle.cert_lines.specs.declared.version.Version.{Version}
use Rattle.cert_lines.specs.declared.version.Version.TheVariants.{One, Two, Three}
use Rattle.cert_form.specs.Contents.{CertificateView}
use Rattle.cert_form.specs.Form.{IsCertificate, IsInForm}

-- the bytes of lines, each with its line feed
unfoldable pub text_of_lines : Version → List Line → List ℕ
text_of_lines version lines = flat_map (λ line. line_text version line ++ 10 ∷ []) lines

-- the line of the board's map; version 1 has none and is for the Galaxian board
abbrev pub board_lines : Version → BoardMap → List Line
board_lines One Galaxian = []
board_lines One Raised = lines.Board Raised ∷ []
board_lines Two board = lines.Board board ∷ []
board_lines Three board = lines.Board board ∷ []

-- the lines before the procedures
abbrev pub head_lines : CertificateView → List Line
head_lines c = lines.Header c.version ∷ lines.Rom c.rom_len ∷ (board_lines c.version c.board ++ (lines.Stack c.region ∷ lines.Budget c.budget ∷ []))

-- the lines of the lists, one after another
abbrev pub list_lines : CertificateView → List Line
list_lines c = map lines.Proc c.procs ++ (map lines.Split c.splits ++ (map lines.Inline c.inlines ++ (map lines.Cell c.cells ++ map lines.Row c.rows)))

-- the lines of a certificate
abbrev pub lines_of : CertificateView → List Line
lines_of c = head_lines c ++ (list_lines c ++ lines.End ∷ [])

-- the text of a certificate
abbrev pub text_of : CertificateView → List ℕ
text_of c = text_of_lines c.version (lines_of c)

-- a line is judged at its 1,048,576th byte; with its line feed it has no more
abbrev pub LINE_LIMIT : ℕ
LINE_LIMIT = 1048576

abbrev pub IsShortText : Version → Line → Type 0
IsShortText version line = length (line_text version line) < LINE_LIMIT

-- a certificate in form, except that its counts may be above their limits, with lines that can be read
pub record IsReadable (c : CertificateView) : Type 0 where
  pub certificate : IsCertificate c
  pub short : AllByRecursion (IsShortText c.version) (lines_of c)

-- the bytes begin with the first n lines of a certificate of this form
pub record BeginsWith (Form : CertificateView → Type 0) (n : ℕ) (bytes : List ℕ) : Type 0 where
  pub certificate : CertificateView
  pub form : Form certificate
  pub within : n ≤ length (lines_of certificate)
  pub rest : List ℕ
  pub begins : bytes ≡ text_of_lines certificate.version (take n (lines_of certificate)) ++ rest

-- line n, counted from 1, is the first bad one: the lines before it begin a certificate in form, and with it they begin
-- none, even if counts above their limits are allowed
pub record IsFirstBadLine (n : ℕ) (bytes : List ℕ) : Type 0 where
  pub before : BeginsWith IsInForm (n - 1) bytes
  pub bad : BeginsWith IsReadable n bytes → ⊥

-- the first line with which the bytes begin no certificate in form is bad only because a count is above its limit
pub record HasTooMany (bytes : List ℕ) : Type 0 where
  pub number : ℕ
  pub before : BeginsWith IsInForm (number - 1) bytes
  pub readable : BeginsWith IsReadable number bytes
  pub many : BeginsWith IsInForm number bytes → ⊥

-- the bytes begin with the lines of a certificate in form up to its budget; after it come the lists, which take memory
pub record HasHead (bytes : List ℕ) : Type 0 where
  pub number : ℕ
  pub begins : BeginsWith IsInForm number bytes
  pub head : length (head_lines begins.certificate) ≤ number
