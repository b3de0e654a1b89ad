-- What reading a line of a list does to a reader: it has one more line, and is still in form.
use Rattle.std.proofs.Common.{◌≡◌, ◌≤◌, ℕ, ◌∷◌, [], ◌++◌, List, length, map, refl, sym, ap, subst, ◌∙◌, arith, append_assoc, append-nil}
use Rattle.std.proofs.lemmas.List.{length_push, map_push}
use Rattle.abs_state.specs.declared.cell.KeptCell.{KeptCell}
use Rattle.cert_lines.specs.Line.{IsLine, IsShortLine}
use Rattle.cert_lines.specs.Proc.{IsProc}
use Rattle.cert_lines.specs.Row.{IsShortRow}
use Rattle.cert_lines.specs.declared.line.Line.{Line}
use Rattle.cert_lines.specs.declared.line.Line.TheVariants as lines
use Rattle.cert_lines.specs.declared.proc.Proc.{Proc}
use Rattle.cert_lines.specs.declared.row.Row.{Row}
use Rattle.cert_lines.specs.declared.split.Split.{Split}
use Rattle.cert_form.specs.Contents.{CertificateView}
use Rattle.cert_form.specs.Form.{AreSplits, AreRows}
use Rattle.cert_form.specs.Text.{head_lines, list_lines}
use Rattle.cert_form.specs.Reader.{ReaderView, IsProgress, MayFollow, HasRoomFor, stage_rank, lines_before, lines_read}
use Rattle.cert_form.specs.declared.stage.Stage.{Stage}
use Rattle.cert_form.specs.declared.stage.Stage.TheVariants as stages
use Rattle.cert_form.proofs.Lists.{all_push}
use Rattle.cert_form.proofs.Order.{Adds, IsOrdered, Orders, ordered, within_limits, behind_proc, behind_split, behind_inline, behind_cell, behind_row, behind_end, suits_again, named_suits}

-- the lines that were read at the stages of the lists
pub at_lists : (s : Stage) (d : CertificateView) → 5 ≤ stage_rank s → stage_rank s ≤ 9 →
    lines_before s d ≡ head_lines d ++ list_lines d
at_lists stages.Header d from to = absurd (omega arith)
at_lists stages.Rom d from to = absurd (omega arith)
at_lists stages.Board d from to = absurd (omega arith)
at_lists stages.Stack d from to = absurd (omega arith)
at_lists stages.Budget d from to = absurd (omega arith)
at_lists stages.Nothing d from to = absurd (omega arith)
at_lists _ d from to = refl

-- one more element of a list, with no lines after the list
push_last : {X : Type 0} (F : X → Line) (xs : List X) (x : X) (after : List Line) → after ≡ [] →
    map F (xs ++ x ∷ []) ++ after ≡ (map F xs ++ after) ++ F x ∷ []
push_last F xs x after none =
    ap (λ ls. map F (xs ++ x ∷ []) ++ ls) none ∙ append-nil (map F (xs ++ x ∷ [])) ∙ map_push F xs x
    ∙ ap (λ ls. ls ++ F x ∷ []) (sym (append-nil (map F xs)) ∙ ap (λ ls. map F xs ++ ls) (sym none))

-- and after other lines
push_under : (before longer shorter : List Line) (line : Line) → longer ≡ shorter ++ line ∷ [] →
    before ++ longer ≡ (before ++ shorter) ++ line ∷ []
push_under before longer shorter line e = ap (λ ls. before ++ ls) e ∙ sym (append_assoc before shorter (line ∷ []))

at_end : (p : ReaderView) (line : Line) (longer : List Line) → 5 ≤ stage_rank p.stage → stage_rank p.stage ≤ 9 →
    longer ≡ list_lines p.contents ++ line ∷ [] →
    head_lines p.contents ++ longer ≡ lines_read p ++ line ∷ []
at_end p line longer from to e =
    push_under (head_lines p.contents) longer (list_lines p.contents) line e
    ∙ ap (λ ls. ls ++ line ∷ []) (sym (at_lists p.stage p.contents from to))

pub order_proc : (p : ReaderView) (proc : Proc) → IsOrdered p → IsLine p.contents.version (lines.Proc proc) →
    MayFollow p (lines.Proc proc) → Orders p (lines.Proc proc) (behind_proc p proc)
order_proc p proc h line may =
    let d = p.contents in
    let new = (behind_proc p proc).contents in
    let rank : stage_rank p.stage ≡ 5 = ap stage_rank may.0 in
    let splits : d.splits ≡ [] = h.no_splits (omega arith) in
    let inlines : d.inlines ≡ [] = h.no_inlines (omega arith) in
    let cells : d.cells ≡ [] = h.no_cells (omega arith) in
    let rows : d.rows ≡ [] = h.no_rows (omega arith) in (
      at_end p (lines.Proc proc) (list_lines new) (omega arith) (omega arith)
          (push_last lines.Proc d.procs proc
          (map lines.Split d.splits ++
          (map lines.Inline d.inlines ++ (map lines.Cell d.cells ++ map lines.Row d.rows))) (rw
          (splits, inlines, cells, rows) refl)),
      record {
        version = suits_again d.version d new refl refl h.version;
        stage = tt;
        rom_len = h.rom_len;
        region = h.region;
        budget = h.budget;
        procs = all_push IsProc d.procs proc h.procs line;
        first_procs = may.1;
        splits = subst (AreSplits (length new.procs)) (sym splits) record { each = tt; rising = tt };
        inlines = h.inlines;
        cells = h.cells;
        rows = subst (AreRows d.version (length new.procs) (length d.cells)) (sym rows) record { each = tt; rising = tt };
        no_board = λ early. absurd (omega arith);
        no_procs = λ early. absurd (omega arith);
        no_splits = λ _. splits;
        no_inlines = λ _. inlines;
        no_cells = λ _. cells;
        no_rows = λ _. rows;
        all_procs = λ late. absurd (omega arith);
      },
    )

pub after_proc : (p : ReaderView) (proc : Proc) → IsProgress p → IsLine p.contents.version (lines.Proc proc) →
    MayFollow p (lines.Proc proc) → HasRoomFor p.contents (lines.Proc proc) → Adds p (lines.Proc proc) (behind_proc p proc)
after_proc p proc h line may room =
    let d = p.contents in
    let order = order_proc p proc (ordered p h) line may in (
      order.0,
      within_limits (behind_proc p proc) order.1 record {
        procs = omega (arith, length_push d.procs proc, room);
        splits = h.limits.splits;
        inlines = h.limits.inlines;
        cells = h.limits.cells;
        rows = h.limits.rows;
        short = h.limits.short;
      },
    )

pub order_split : (p : ReaderView) (split : Split) → IsOrdered p → MayFollow p (lines.Split split) →
    Orders p (lines.Split split) (behind_split p split)
order_split p split h may =
    let d = p.contents in
    let new = (behind_split p split).contents in
    let open_to = may.0 in
    let inlines : d.inlines ≡ [] = h.no_inlines (omega arith) in
    let cells : d.cells ≡ [] = h.no_cells (omega arith) in
    let rows : d.rows ≡ [] = h.no_rows (omega arith) in (
      at_end p (lines.Split split) (list_lines new) open_to.from (omega arith)
          (push_under (map lines.Proc d.procs) _ _ (lines.Split split)
          (push_last lines.Split d.splits split
          (map lines.Inline d.inlines ++ (map lines.Cell d.cells ++ map lines.Row d.rows))
          (rw (inlines, cells, rows) refl))),
      record {
        version = suits_again d.version d new refl refl h.version;
        stage = omega (arith, length_push d.splits split);
        rom_len = h.rom_len;
        region = h.region;
        budget = h.budget;
        procs = h.procs;
        first_procs = h.first_procs;
        splits = may.1;
        inlines = h.inlines;
        cells = h.cells;
        rows = h.rows;
        no_board = λ early. absurd (omega arith);
        no_procs = λ early. absurd (omega arith);
        no_splits = λ early. absurd (omega arith);
        no_inlines = λ _. inlines;
        no_cells = λ _. cells;
        no_rows = λ _. rows;
        all_procs = λ _. open_to.procs;
      },
    )

pub after_split : (p : ReaderView) (split : Split) → IsProgress p → MayFollow p (lines.Split split) →
    HasRoomFor p.contents (lines.Split split) → Adds p (lines.Split split) (behind_split p split)
after_split p split h may room =
    let d = p.contents in
    let order = order_split p split (ordered p h) may in (
      order.0,
      within_limits (behind_split p split) order.1 record {
        procs = h.limits.procs;
        splits = omega (arith, length_push d.splits split, room);
        inlines = h.limits.inlines;
        cells = h.limits.cells;
        rows = h.limits.rows;
        short = h.limits.short;
      },
    )

pub order_inline : (p : ReaderView) (address : ℕ) → IsOrdered p → MayFollow p (lines.Inline address) →
    Orders p (lines.Inline address) (behind_inline p address)
order_inline p address h may =
    let d = p.contents in
    let new = (behind_inline p address).contents in
    let open_to = may.0 in
    let cells : d.cells ≡ [] = h.no_cells (omega arith) in
    let rows : d.rows ≡ [] = h.no_rows (omega arith) in (
      at_end p (lines.Inline address) (list_lines new) open_to.from (omega arith)
          (push_under (map lines.Proc d.procs) _ _ (lines.Inline address)
          (push_under (map lines.Split d.splits) _ _ (lines.Inline address)
          (push_last lines.Inline d.inlines address (map lines.Cell d.cells ++ map lines.Row d.rows)
          (rw (cells, rows) refl)))),
      record {
        version = suits_again d.version d new refl refl h.version;
        stage = omega (arith, length_push d.inlines address);
        rom_len = h.rom_len;
        region = h.region;
        budget = h.budget;
        procs = h.procs;
        first_procs = h.first_procs;
        splits = h.splits;
        inlines = may.1;
        cells = h.cells;
        rows = h.rows;
        no_board = λ early. absurd (omega arith);
        no_procs = λ early. absurd (omega arith);
        no_splits = λ early. absurd (omega arith);
        no_inlines = λ early. absurd (omega arith);
        no_cells = λ _. cells;
        no_rows = λ _. rows;
        all_procs = λ _. open_to.procs;
      },
    )

pub after_inline : (p : ReaderView) (address : ℕ) → IsProgress p → MayFollow p (lines.Inline address) →
    HasRoomFor p.contents (lines.Inline address) → Adds p (lines.Inline address) (behind_inline p address)
after_inline p address h may room =
    let d = p.contents in
    let order = order_inline p address (ordered p h) may in (
      order.0,
      within_limits (behind_inline p address) order.1 record {
        procs = h.limits.procs;
        splits = h.limits.splits;
        inlines = omega (arith, length_push d.inlines address, room);
        cells = h.limits.cells;
        rows = h.limits.rows;
        short = h.limits.short;
      },
    )

pub order_cell : (p : ReaderView) (cell : KeptCell) → IsOrdered p → MayFollow p (lines.Cell cell) →
    Orders p (lines.Cell cell) (behind_cell p cell)
order_cell p cell h may =
    let d = p.contents in
    let new = (behind_cell p cell).contents in
    let open_to = may.0 in
    let rows : d.rows ≡ [] = h.no_rows (omega arith) in (
      at_end p (lines.Cell cell) (list_lines new) open_to.from (omega arith)
          (push_under (map lines.Proc d.procs) _ _ (lines.Cell cell)
          (push_under (map lines.Split d.splits) _ _ (lines.Cell cell)
          (push_under (map lines.Inline d.inlines) _ _ (lines.Cell cell)
          (push_last lines.Cell d.cells cell (map lines.Row d.rows) (rw rows refl))))),
      record {
        version = named_suits d.version new may.1;
        stage = omega (arith, length_push d.cells cell);
        rom_len = h.rom_len;
        region = h.region;
        budget = h.budget;
        procs = h.procs;
        first_procs = h.first_procs;
        splits = h.splits;
        inlines = h.inlines;
        cells = may.2;
        rows = subst (AreRows d.version (length d.procs) (length new.cells)) (sym rows) record { each = tt; rising = tt };
        no_board = λ early. absurd (omega arith);
        no_procs = λ early. absurd (omega arith);
        no_splits = λ early. absurd (omega arith);
        no_inlines = λ early. absurd (omega arith);
        no_cells = λ early. absurd (omega arith);
        no_rows = λ _. rows;
        all_procs = λ _. open_to.procs;
      },
    )

pub after_cell : (p : ReaderView) (cell : KeptCell) → IsProgress p → MayFollow p (lines.Cell cell) →
    HasRoomFor p.contents (lines.Cell cell) → Adds p (lines.Cell cell) (behind_cell p cell)
after_cell p cell h may room =
    let d = p.contents in
    let order = order_cell p cell (ordered p h) may in (
      order.0,
      within_limits (behind_cell p cell) order.1 record {
        procs = h.limits.procs;
        splits = h.limits.splits;
        inlines = h.limits.inlines;
        cells = omega (arith, length_push d.cells cell, room);
        rows = h.limits.rows;
        short = h.limits.short;
      },
    )

pub order_row : (p : ReaderView) (row : Row) → IsOrdered p → MayFollow p (lines.Row row) →
    Orders p (lines.Row row) (behind_row p row)
order_row p row h may =
    let d = p.contents in
    let new = (behind_row p row).contents in
    let open_to = may.0 in (
      at_end p (lines.Row row) (list_lines new) open_to.from open_to.to
          (push_under (map lines.Proc d.procs) _ _ (lines.Row row)
          (push_under (map lines.Split d.splits) _ _ (lines.Row row)
          (push_under (map lines.Inline d.inlines) _ _ (lines.Row row)
          (push_under (map lines.Cell d.cells) _ _ (lines.Row row) (map_push lines.Row d.rows row))))),
      record {
        version = suits_again d.version d new refl refl h.version;
        stage = omega (arith, length_push d.rows row);
        rom_len = h.rom_len;
        region = h.region;
        budget = h.budget;
        procs = h.procs;
        first_procs = h.first_procs;
        splits = h.splits;
        inlines = h.inlines;
        cells = h.cells;
        rows = may.1;
        no_board = λ early. absurd (omega arith);
        no_procs = λ early. absurd (omega arith);
        no_splits = λ early. absurd (omega arith);
        no_inlines = λ early. absurd (omega arith);
        no_cells = λ early. absurd (omega arith);
        no_rows = λ early. absurd (omega arith);
        all_procs = λ _. open_to.procs;
      },
    )

pub after_row : (p : ReaderView) (row : Row) → IsProgress p → MayFollow p (lines.Row row) →
    HasRoomFor p.contents (lines.Row row) → IsShortLine (lines.Row row) → Adds p (lines.Row row) (behind_row p row)
after_row p row h may room short =
    let d = p.contents in
    let order = order_row p row (ordered p h) may in (
      order.0,
      within_limits (behind_row p row) order.1 record {
        procs = h.limits.procs;
        splits = h.limits.splits;
        inlines = h.limits.inlines;
        cells = h.limits.cells;
        rows = omega (arith, length_push d.rows row, room);
        short = all_push IsShortRow d.rows row h.limits.short short;
      },
    )

pub order_end : (p : ReaderView) → IsOrdered p → MayFollow p lines.End → Orders p lines.End (behind_end p)
order_end p h may =
    let d = p.contents in (
      at_end p lines.End (list_lines d ++ lines.End ∷ []) may.from may.to refl,
      record {
        version = h.version;
        stage = tt;
        rom_len = h.rom_len;
        region = h.region;
        budget = h.budget;
        procs = h.procs;
        first_procs = h.first_procs;
        splits = h.splits;
        inlines = h.inlines;
        cells = h.cells;
        rows = h.rows;
        no_board = λ early. absurd (omega arith);
        no_procs = λ early. absurd (omega arith);
        no_splits = λ early. absurd (omega arith);
        no_inlines = λ early. absurd (omega arith);
        no_cells = λ early. absurd (omega arith);
        no_rows = λ early. absurd (omega arith);
        all_procs = λ _. may.procs;
      },
    )

pub after_end : (p : ReaderView) → IsProgress p → MayFollow p lines.End → Adds p lines.End (behind_end p)
after_end p h may =
    let order = order_end p (ordered p h) may in
    (order.0, within_limits (behind_end p) order.1 h.limits)
