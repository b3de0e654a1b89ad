-- The lines of a certificate, each as its fields (docs/CERTIFICATE.md).
use Rattle.std.specs.Prelude.{ℕ, List, [], ◌∷◌, ◌++◌, codes, IfSome}
use Rattle.std.specs.Fmt.{decimal}
use Rattle.std.specs.List.{join_with_byte}
use Rattle.cert_lines.specs.Proc.{IsProc, decimal_or_dash, proc_fields}
use Rattle.cert_lines.specs.Row.{IsRow, IsShortRow, fields_of_row}
use Rattle.cert_lines.specs.Version.{board_name, version_digit}
use Rattle.cert_lines.specs.declared.line.Line.{Line}
use Rattle.cert_lines.specs.declared.line.Line.TheVariants as lines
use Rattle.cert_lines.specs.declared.version.Version.{Version}
use Rattle.cert_fields.specs.Names.{register_letter}
use Rattle.cert_fields.specs.Pair.{IsRange}
use Rattle.texts.specs.Numbers.{IsWord, hex2, hex4}

-- the fields of each kind of line; those of a row depend on the version
unfoldable pub fields_of : Version → Line → List (List ℕ)
fields_of version (lines.Header v) = codes "galcert" ∷ version_digit v ∷ []
fields_of version (lines.Rom len) = codes "rom" ∷ decimal len ∷ []
fields_of version (lines.Board board) = codes "map" ∷ board_name board ∷ []
fields_of version (lines.Stack region) = codes "stack" ∷ hex4 region.low ∷ hex4 region.top ∷ []
fields_of version (lines.Budget budget) = codes "budget" ∷ decimal_or_dash budget ∷ []
fields_of version (lines.Proc proc) = codes "proc" ∷ proc_fields proc
fields_of version (lines.Split split) = codes "split" ∷ decimal split.proc ∷ hex4 split.address ∷ register_letter split.register ∷ []
fields_of version (lines.Inline address) = codes "inline" ∷ hex4 address ∷ []
fields_of version (lines.Cell cell) = codes "cell" ∷ hex4 cell.at ∷ hex2 cell.range.low ∷ hex2 cell.range.high ∷ []
fields_of version (lines.Row row) = codes "row" ∷ fields_of_row version row
fields_of version lines.End = codes "end" ∷ []

-- a line's text without its line feed: its fields with single spaces between them
abbrev pub line_text : Version → Line → List ℕ
line_text version line = join_with_byte 32 (fields_of version line)

-- and with its line feed
abbrev pub fed_line : Version → Line → List ℕ
fed_line version line = line_text version line ++ 10 ∷ []

-- a line in form by itself, except that a row may have too many slots, flag parts, facts or terms
abbrev pub IsLine : Version → Line → Type 0
IsLine version (lines.Header v) = Unit {0}
IsLine version (lines.Rom len) = IsWord len
IsLine version (lines.Board board) = Unit {0}
IsLine version (lines.Stack region) = IsWord region.low × IsWord region.top
IsLine version (lines.Budget budget) = IfSome budget IsWord
IsLine version (lines.Proc proc) = IsProc proc
IsLine version (lines.Split split) = IsWord split.proc × IsWord split.address
IsLine version (lines.Inline address) = IsWord address
IsLine version (lines.Cell cell) = IsWord cell.at × IsRange 255 cell.range
IsLine version (lines.Row row) = IsRow version row
IsLine version lines.End = Unit {0}

-- a row's slots, flag parts, facts and terms are within their limits; other lines have no such counts
abbrev pub IsShortLine : Line → Type 0
IsShortLine (lines.Row row) = IsShortRow row
IsShortLine _ = Unit {0}
