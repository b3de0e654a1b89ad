-- A line with counts within their limits is short enough to be read.
use Rattle.std.proofs.Common.{ℕ, ◌<◌, ◌≤◌, ◌*◌, List, [], ◌∷◌, ◌++◌, length, map, Option, Some, None, IfSome, arith, length-append}
use Rattle.std.specs.Fmt.{decimal}
use Rattle.std.specs.List.{AllByRecursion, join_with_byte}
use Rattle.abs_state.specs.declared.pairs.Pairs.{Pairs}
use Rattle.abs_state.specs.declared.mode.Mode.{Mode}
use Rattle.abs_state.specs.declared.mode.Mode.TheVariants as modes
use Rattle.z80_decode.specs.declared.operands.Register8.{Register8}
use Rattle.z80_decode.specs.declared.operands.Register8.TheVariants as registers
use Rattle.cert_lines.proofs.RowLists.{every_append, pairs_in}
use Rattle.cert_lines.specs.Line.{IsLine, IsShortLine, fields_of, line_text}
use Rattle.cert_lines.specs.Proc.{decimal_or_dash, kind_word}
use Rattle.cert_lines.specs.Row.{IsArmed, IsPlace, IsRow, IsShortRow, armed_field, fields_of_row, last_fields, pair_fields, place_fields, place_of, row_flags}
use Rattle.cert_lines.specs.Version.{board_name, flag_form, version_digit}
use Rattle.cert_lines.specs.declared.line.Line.{Line}
use Rattle.cert_lines.specs.declared.line.Line.TheVariants as lines
use Rattle.cert_lines.specs.declared.proc.ProcKind.{ProcKind}
use Rattle.cert_lines.specs.declared.proc.ProcKind.TheVariants as kinds
use Rattle.cert_lines.specs.declared.row.RowPlace.{RowPlace}
use Rattle.cert_lines.specs.declared.row.Row.{Row}
use Rattle.cert_lines.specs.declared.version.BoardMap.{BoardMap}
use Rattle.cert_lines.specs.declared.version.BoardMap.TheVariants.{Galaxian, Raised}
use Rattle.cert_lines.specs.declared.version.Version.{Version}
use Rattle.cert_lines.specs.declared.version.Version.TheVariants.{One, Two, Three}
use Rattle.cert_fields.proofs.LinearLengthLaws.{length_potential}
use Rattle.cert_fields.proofs.LengthLaws.{length_facts, length_pair, length_shape}
use Rattle.cert_flags.proofs.FlagsLaws.{length_flags}
use Rattle.intervals.specs.declared.pair.Pair.{Pair}
use Rattle.cert_fields.specs.Names.{mode_letter, register_letter}
use Rattle.cert_fields.specs.Pair.{pair_text}
use Rattle.texts.proofs.NumberLemmas.{length_decimal_32, length_decimal_word, length_hex2, length_hex4}
use Rattle.texts.specs.Numbers.{IsWord, hex2, hex4}

-- no field is longer than a shape
abbrev IsBrief : List ℕ → Type 0
IsBrief field = length field ≤ 1663

abbrev AreBrief : List (List ℕ) → Type 0
AreBrief fields = AllByRecursion IsBrief fields

length_join : (fields : List (List ℕ)) → AreBrief fields → length (join_with_byte 32 fields) ≤ 1664 * length fields
length_join [] brief = omega arith
length_join (field ∷ []) brief = omega (arith, brief.0)
length_join (field ∷ next ∷ fields) brief =
    omega (arith, length-append field (32 ∷ join_with_byte 32 (next ∷ fields)), brief.0, length_join (next ∷ fields) brief.1)

brief_version : (v : Version) → IsBrief (version_digit v)
brief_version One = omega arith
brief_version Two = omega arith
brief_version Three = omega arith

brief_board : (b : BoardMap) → IsBrief (board_name b)
brief_board Galaxian = omega arith
brief_board Raised = omega arith

brief_kind : (k : ProcKind) → IsBrief (kind_word k)
brief_kind kinds.Main = omega arith
brief_kind kinds.Nmi = omega arith
brief_kind kinds.Sub = omega arith

brief_register : (r : Register8) → IsBrief (register_letter r)
brief_register registers.A = omega arith
brief_register registers.B = omega arith
brief_register registers.C = omega arith
brief_register registers.D = omega arith
brief_register registers.E = omega arith
brief_register registers.H = omega arith
brief_register registers.L = omega arith

brief_mode : (m : Mode) → IsBrief (mode_letter m)
brief_mode modes.Unset = omega arith
brief_mode modes.Set = omega arith
brief_mode modes.Nmi = omega arith

brief_word : (n : ℕ) → IsWord n → IsBrief (decimal n)
brief_word n small = omega (arith, length_decimal_word n small)

brief_hex4 : (n : ℕ) → IsBrief (hex4 n)
brief_hex4 n = omega (arith, length_hex4 n)

brief_hex2 : (n : ℕ) → IsBrief (hex2 n)
brief_hex2 n = omega (arith, length_hex2 n)

brief_budget : (n : Option ℕ) → IfSome n IsWord → IsBrief (decimal_or_dash n)
brief_budget None small = omega arith
brief_budget (Some n) small = brief_word n small

brief_time : (n : Option ℕ) → IfSome n (λ t. t ≤ 1000000000) → IsBrief (decimal_or_dash n)
brief_time None small = omega arith
brief_time (Some n) small = omega (arith, length_decimal_32 n (omega (arith, small)))

brief_armed : (v : Version) (armed : ℕ) → IsArmed v armed → AreBrief (armed_field v armed)
brief_armed One armed form = tt
brief_armed Two armed form = (brief_word armed form, tt)
brief_armed Three armed form = (brief_word armed form, tt)

brief_place : (v : Version) (place : RowPlace) → IsPlace v place → AreBrief (place_fields v place)
brief_place v place form = (
  brief_word place.proc form.proc,
  (
    brief_hex4 place.address,
    (brief_mode place.mode, brief_armed v place.armed form.armed),
  ),
)

brief_texts : (ps : List Pair) → AreBrief (map pair_text ps)
brief_texts [] = tt
brief_texts (p ∷ ps) = (omega (arith, length_pair p), brief_texts ps)

brief_pairs : (p : Pairs) → AreBrief (pair_fields p)
brief_pairs p = brief_texts (pairs_in p)

brief_last : (v : Version) (row : Row) → IsRow v row → IsShortRow row → AreBrief (last_fields v row)
brief_last v row form few = (
  omega (arith, length_flags (flag_form v) (length row.state.shape) (row_flags row) form.flags few.parts),
  (
    omega (arith, length_facts _ row.facts form.facts few.facts),
    (
      length_shape row.state.shape few.shape,
      (omega (arith, length_potential _ row.potential form.potential few.potential), tt),
    ),
  ),
)

length_armed : (v : Version) (armed : ℕ) → length (armed_field v armed) ≤ 1
length_armed One armed = omega arith
length_armed Two armed = omega arith
length_armed Three armed = omega arith

brief_row : (v : Version) (row : Row) → IsRow v row → IsShortRow row → AreBrief (fields_of_row v row)
unfolding fields_of_row
brief_row v row form few =
    every_append IsBrief (place_fields v (place_of row)) _ (brief_place v (place_of row) form.place)
    (every_append IsBrief (pair_fields row.state.pairs) (last_fields v row) (brief_pairs row.state.pairs)
    (brief_last v row form few))

count_row : (v : Version) (row : Row) → length (fields_of_row v row) ≤ 18
unfolding fields_of_row
count_row v row =
    let behind = pair_fields row.state.pairs ++ last_fields v row in
    omega (arith, length-append (place_fields v (place_of row)) behind, length_armed v row.state.armed)

brief : (v : Version) (line : Line) → IsLine v line → IsShortLine line → AreBrief (fields_of v line)
unfolding fields_of
brief v (lines.Header w) form few = (omega arith, (brief_version w, tt))
brief v (lines.Rom len) form few = (omega arith, (brief_word len form, tt))
brief v (lines.Board board) form few = (omega arith, (brief_board board, tt))
brief v (lines.Stack region) form few = (omega arith, (brief_hex4 region.low, (brief_hex4 region.top, tt)))
brief v (lines.Budget budget) form few = (omega arith, (brief_budget budget form, tt))
brief v (lines.Proc p) form few = (
  omega arith,
  (
    brief_kind p.kind,
    (
      brief_hex4 p.entry,
      (
        brief_word p.rank form.rank,
        (brief_word p.depth form.depth, (brief_time p.time form.time, tt)),
      ),
    ),
  ),
)
brief v (lines.Split s) form few =
    (omega arith, (brief_word s.proc form.0, (brief_hex4 s.address, (brief_register s.register, tt))))
brief v (lines.Inline address) form few = (omega arith, (brief_hex4 address, tt))
brief v (lines.Cell cell) form few =
    (omega arith, (brief_hex4 cell.at, (brief_hex2 cell.range.low, (brief_hex2 cell.range.high, tt))))
brief v (lines.Row row) form few = (omega arith, brief_row v row form few)
brief v lines.End form few = (omega arith, tt)

count : (v : Version) (line : Line) → length (fields_of v line) ≤ 19
unfolding fields_of
count v (lines.Header w) = omega arith
count v (lines.Rom len) = omega arith
count v (lines.Board board) = omega arith
count v (lines.Stack region) = omega arith
count v (lines.Budget budget) = omega arith
count v (lines.Proc p) = omega arith
count v (lines.Split s) = omega arith
count v (lines.Inline address) = omega arith
count v (lines.Cell cell) = omega arith
count v (lines.Row row) = omega (arith, count_row v row)
count v lines.End = omega arith

pub short : (v : Version) (line : Line) → IsLine v line → IsShortLine line → length (line_text v line) < 1048576
short v line form few = omega (arith, length_join (fields_of v line) (brief v line form few), count v line)
