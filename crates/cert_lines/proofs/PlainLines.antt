-- Each byte of a line's fields is above the space.
use Rattle.std.proofs.Common.{ℕ, ◌≤◌, List, [], ◌∷◌, codes, length, map, Option, Some, None, IfSome, refl, arith}
use Rattle.std.specs.Fmt.{decimal}
use Rattle.abs_state.specs.declared.pairs.Pairs.{Pairs}
use Rattle.cert_lines.proofs.RowLists.{every_append, pairs_in}
use Rattle.cert_lines.specs.Line.{IsLine, fields_of}
use Rattle.cert_lines.specs.Proc.{IsProc, decimal_or_dash, kind_word, proc_fields}
use Rattle.cert_lines.specs.Row.{IsArmed, IsPlace, IsRow, armed_field, fields_of_row, last_fields, pair_fields, place_fields, place_of, row_flags}
use Rattle.cert_lines.specs.Version.{board_name, flag_form, version_digit}
use Rattle.cert_lines.specs.declared.line.Line.{Line}
use Rattle.cert_lines.specs.declared.line.Line.TheVariants as lines
use Rattle.cert_lines.specs.declared.proc.Proc.{Proc}
use Rattle.cert_lines.specs.declared.proc.ProcKind.{ProcKind}
use Rattle.cert_lines.specs.declared.proc.ProcKind.TheVariants as kinds
use Rattle.cert_lines.specs.declared.row.RowPlace.{RowPlace}
use Rattle.cert_lines.specs.declared.row.Row.{Row}
use Rattle.cert_lines.specs.declared.version.BoardMap.{BoardMap}
use Rattle.cert_lines.specs.declared.version.BoardMap.TheVariants.{Galaxian, Raised}
use Rattle.cert_lines.specs.declared.version.Version.{Version}
use Rattle.cert_lines.specs.declared.version.Version.TheVariants.{One, Two, Three}
use Rattle.intervals.specs.declared.pair.Pair.{Pair}
use Rattle.cert_fields.proofs.LinearPlainLaws.{plain_potential}
use Rattle.cert_fields.proofs.PlainLaws.{plain_facts, plain_mode, plain_pair, plain_register, plain_shape}
use Rattle.cert_fields.specs.Pair.{pair_text}
use Rattle.cert_flags.proofs.FlagsLaws.{plain_flags}
use Rattle.texts.proofs.PlainLemmas.{ArePlain, IsPlain, plain_decimal, plain_from_test, plain_hex2, plain_hex4}
use Rattle.texts.specs.Numbers.{IsWord}

plain_word : (n : ℕ) → IsWord n → IsPlain (decimal n)
plain_word n small = plain_decimal n (omega (arith, small))

plain_version : (v : Version) → IsPlain (version_digit v)
plain_version One = plain_from_test (codes "1") refl
plain_version Two = plain_from_test (codes "2") refl
plain_version Three = plain_from_test (codes "3") refl

plain_board : (b : BoardMap) → IsPlain (board_name b)
plain_board Galaxian = plain_from_test (codes "galaxian") refl
plain_board Raised = plain_from_test (codes "raised") refl

plain_kind : (k : ProcKind) → IsPlain (kind_word k)
plain_kind kinds.Main = plain_from_test (codes "main") refl
plain_kind kinds.Nmi = plain_from_test (codes "nmi") refl
plain_kind kinds.Sub = plain_from_test (codes "sub") refl

plain_budget : (n : Option ℕ) → IfSome n IsWord → IsPlain (decimal_or_dash n)
plain_budget None small = plain_from_test (codes "-") refl
plain_budget (Some n) small = plain_word n small

plain_time : (n : Option ℕ) → IfSome n (λ t. t ≤ 1000000000) → IsPlain (decimal_or_dash n)
plain_time None small = plain_from_test (codes "-") refl
plain_time (Some n) small = plain_decimal n (omega (arith, small))

plain_proc : (p : Proc) → IsProc p → ArePlain (proc_fields p)
plain_proc p form = (
  plain_kind p.kind,
  (
    plain_hex4 p.entry,
    (
      plain_word p.rank form.rank,
      (plain_word p.depth form.depth, (plain_time p.time form.time, tt)),
    ),
  ),
)

plain_armed : (v : Version) (armed : ℕ) → IsArmed v armed → ArePlain (armed_field v armed)
plain_armed One armed form = tt
plain_armed Two armed form = (plain_word armed form, tt)
plain_armed Three armed form = (plain_word armed form, tt)

plain_place : (v : Version) (place : RowPlace) → IsPlace v place → ArePlain (place_fields v place)
plain_place v place form = (
  plain_word place.proc form.proc,
  (
    plain_hex4 place.address,
    (plain_mode place.mode, plain_armed v place.armed form.armed),
  ),
)

plain_texts : (ps : List Pair) → ArePlain (map pair_text ps)
plain_texts [] = tt
plain_texts (p ∷ ps) = (plain_pair p, plain_texts ps)

plain_pairs : (p : Pairs) → ArePlain (pair_fields p)
plain_pairs p = plain_texts (pairs_in p)

plain_last : (v : Version) (row : Row) → IsRow v row → ArePlain (last_fields v row)
plain_last v row form =
    let slots = form.slots in (
      plain_flags (flag_form v) (length row.state.shape) (row_flags row) (omega arith) form.flags,
      (
        plain_facts _ row.facts (omega arith) form.facts,
        (plain_shape row.state.shape, (plain_potential _ row.potential (omega arith) form.potential, tt)),
      ),
    )

plain_row : (v : Version) (row : Row) → IsRow v row → ArePlain (fields_of_row v row)
unfolding fields_of_row
plain_row v row form =
    every_append IsPlain (place_fields v (place_of row)) _ (plain_place v (place_of row) form.place)
    (every_append IsPlain (pair_fields row.state.pairs) (last_fields v row) (plain_pairs row.state.pairs)
    (plain_last v row form))

pub plain : (v : Version) (line : Line) → IsLine v line → ArePlain (fields_of v line)
unfolding fields_of
plain v (lines.Header w) form = (plain_from_test (codes "galcert") refl, (plain_version w, tt))
plain v (lines.Rom len) form = (plain_from_test (codes "rom") refl, (plain_word len form, tt))
plain v (lines.Board board) form = (plain_from_test (codes "map") refl, (plain_board board, tt))
plain v (lines.Stack region) form =
    (plain_from_test (codes "stack") refl, (plain_hex4 region.low, (plain_hex4 region.top, tt)))
plain v (lines.Budget budget) form = (plain_from_test (codes "budget") refl, (plain_budget budget form, tt))
plain v (lines.Proc proc) form = (plain_from_test (codes "proc") refl, plain_proc proc form)
plain v (lines.Split split) form = (
  plain_from_test (codes "split") refl,
  (
    plain_word split.proc form.0,
    (
      plain_hex4 split.address,
      (plain_register split.register, tt),
    ),
  ),
)
plain v (lines.Inline address) form = (plain_from_test (codes "inline") refl, (plain_hex4 address, tt))
plain v (lines.Cell cell) form = (
  plain_from_test (codes "cell") refl,
  (
    plain_hex4 cell.at,
    (
      plain_hex2 cell.range.low,
      (plain_hex2 cell.range.high, tt),
    ),
  ),
)
plain v (lines.Row row) form = (plain_from_test (codes "row") refl, plain_row v row form)
plain v lines.End form = (plain_from_test (codes "end") refl, tt)
