-- Two certificates whose lines agree as far as those of one of them go.
use Rattle.std.proofs.Common.{◌≡◌, ◌∷◌, [], ◌++◌, List, map, drop, refl, sym, ap, subst, ◌∙◌, inl, inr, arith, append_assoc}
use Rattle.address_map.specs.declared.region.Region.{Region}
use Rattle.cert_lines.specs.declared.line.Line.{Line}
use Rattle.cert_lines.specs.declared.line.Line.TheVariants as lines
use Rattle.cert_lines.specs.declared.version.BoardMap.{BoardMap}
use Rattle.cert_lines.specs.declared.version.BoardMap.TheVariants.{Galaxian, Raised}
use Rattle.cert_lines.specs.declared.version.Version.{Version}
use Rattle.cert_lines.specs.declared.version.Version.TheVariants.{One, Two, Three}
use Rattle.cert_form.specs.Contents.{CertificateView}
use Rattle.cert_form.specs.Text.{board_lines, head_lines, list_lines, lines_of}
use Rattle.cert_form.proofs.Lists.{Longer, BeginsFrom, begins_earlier, begins_map, peel, skip, with_tail}

-- the lines of d's lists begin those of c's lists, and then the tail begins: with the next element of one list, after
-- which d's lists are empty, or with the end
pub data GoesOn (c d : CertificateView) (tail : List Line) : Type 0 where
  by_proc : Longer lines.Proc c.procs d.procs tail → d.splits ≡ [] → d.inlines ≡ [] → d.cells ≡ [] → d.rows ≡ [] →
      GoesOn c d tail
  by_split : c.procs ≡ d.procs → Longer lines.Split c.splits d.splits tail → d.inlines ≡ [] → d.cells ≡ [] → d.rows ≡ [] →
      GoesOn c d tail
  by_inline : c.procs ≡ d.procs → c.splits ≡ d.splits → Longer lines.Inline c.inlines d.inlines tail → d.cells ≡ [] →
      d.rows ≡ [] → GoesOn c d tail
  by_cell : c.procs ≡ d.procs → c.splits ≡ d.splits → c.inlines ≡ d.inlines → Longer lines.Cell c.cells d.cells tail →
      d.rows ≡ [] → GoesOn c d tail
  by_row : c.procs ≡ d.procs → c.splits ≡ d.splits → c.inlines ≡ d.inlines → c.cells ≡ d.cells →
      Longer lines.Row c.rows d.rows tail → GoesOn c d tail
  by_end : c.procs ≡ d.procs → c.splits ≡ d.splits → c.inlines ≡ d.inlines → c.cells ≡ d.cells → c.rows ≡ d.rows →
      tail ≡ lines.End ∷ [] → GoesOn c d tail

-- the lines of the lists after the procedures, and so on
abbrev behind_cells : CertificateView → List Line → List Line
behind_cells c tail = map lines.Row c.rows ++ tail

abbrev behind_inlines : CertificateView → List Line → List Line
behind_inlines c tail = map lines.Cell c.cells ++ behind_cells c tail

abbrev behind_splits : CertificateView → List Line → List Line
behind_splits c tail = map lines.Inline c.inlines ++ behind_inlines c tail

abbrev behind_procs : CertificateView → List Line → List Line
behind_procs c tail = map lines.Split c.splits ++ behind_splits c tail

abbrev the_end : List Line
the_end = lines.End ∷ []

cells_begin : (c : CertificateView) → BeginsFrom 9 (behind_cells c the_end)
cells_begin c = begins_map lines.Row 9 (λ x. omega arith) c.rows the_end (omega arith)

inlines_begin : (c : CertificateView) → BeginsFrom 8 (behind_inlines c the_end)
inlines_begin c = begins_map lines.Cell 8 (λ x. omega arith) c.cells (behind_cells c the_end)
    (begins_earlier 8 9 _ (omega arith) (cells_begin c))

splits_begin : (c : CertificateView) → BeginsFrom 7 (behind_splits c the_end)
splits_begin c = begins_map lines.Inline 7 (λ x. omega arith) c.inlines (behind_inlines c the_end)
    (begins_earlier 7 8 _ (omega arith) (inlines_begin c))

procs_begin : (c : CertificateView) → BeginsFrom 6 (behind_procs c the_end)
procs_begin c = begins_map lines.Split 6 (λ x. omega arith) c.splits (behind_splits c the_end)
    (begins_earlier 6 7 _ (omega arith) (splits_begin c))

from_rows : (c d : CertificateView) (tail : List Line) → c.procs ≡ d.procs → c.splits ≡ d.splits → c.inlines ≡ d.inlines →
    c.cells ≡ d.cells →
    behind_cells c the_end ≡ behind_cells d tail → GoesOn c d tail
from_rows c d tail procs splits inlines cells e =
    elim (peel lines.Row 10 (λ x y f. cc) (λ x. omega arith) c.rows d.rows the_end tail (omega arith) e) [
      | inl both ↦ by_end procs splits inlines cells both.0 (sym both.1)
      | inr l ↦ by_row procs splits inlines cells l
    ]

from_cells : (c d : CertificateView) (tail : List Line) → c.procs ≡ d.procs → c.splits ≡ d.splits → c.inlines ≡ d.inlines →
    behind_inlines c the_end ≡ behind_inlines d tail → GoesOn c d tail
from_cells c d tail procs splits inlines e =
    elim (peel lines.Cell 9 (λ x y f. cc) (λ x. omega arith) c.cells d.cells (behind_cells c the_end) (behind_cells d tail)
    (cells_begin c) e) [
      | inl both ↦ from_rows c d tail procs splits inlines both.0 both.1
      | inr l ↦
          let rows = skip lines.Row (lines.Cell l.next) (λ x f. cc) d.rows tail l.rest l.begins in
          by_cell procs splits inlines (with_tail lines.Cell c.cells d.cells _ tail l rows.1) rows.0
    ]

from_inlines : (c d : CertificateView) (tail : List Line) → c.procs ≡ d.procs → c.splits ≡ d.splits →
    behind_splits c the_end ≡ behind_splits d tail → GoesOn c d tail
from_inlines c d tail procs splits e =
    elim (peel lines.Inline 8 (λ x y f. cc) (λ x. omega arith) c.inlines d.inlines (behind_inlines c the_end)
    (behind_inlines d tail) (inlines_begin c) e) [
      | inl both ↦ from_cells c d tail procs splits both.0 both.1
      | inr l ↦
          let cells = skip lines.Cell (lines.Inline l.next) (λ x f. cc) d.cells (behind_cells d tail) l.rest l.begins in
          let rows = skip lines.Row (lines.Inline l.next) (λ x f. cc) d.rows tail l.rest cells.1 in
          by_inline procs splits (with_tail lines.Inline c.inlines d.inlines _ tail l rows.1) cells.0 rows.0
    ]

from_splits : (c d : CertificateView) (tail : List Line) → c.procs ≡ d.procs → behind_procs c the_end ≡ behind_procs d tail →
    GoesOn c d tail
from_splits c d tail procs e =
    elim (peel lines.Split 7 (λ x y f. cc) (λ x. omega arith) c.splits d.splits (behind_splits c the_end)
    (behind_splits d tail) (splits_begin c) e) [
      | inl both ↦ from_inlines c d tail procs both.0 both.1
      | inr l ↦
          let inlines = skip lines.Inline (lines.Split l.next) (λ x f. cc) d.inlines
          (behind_inlines d tail) l.rest l.begins in
          let cells = skip lines.Cell (lines.Split l.next) (λ x f. cc) d.cells (behind_cells d tail) l.rest inlines.1 in
          let rows = skip lines.Row (lines.Split l.next) (λ x f. cc) d.rows tail l.rest cells.1 in
          by_split procs (with_tail lines.Split c.splits d.splits _ tail l rows.1) inlines.0 cells.0 rows.0
    ]

from_procs : (c d : CertificateView) (tail : List Line) →
    map lines.Proc c.procs ++ behind_procs c the_end ≡ map lines.Proc d.procs ++ behind_procs d tail → GoesOn c d tail
from_procs c d tail e =
    elim (peel lines.Proc 6 (λ x y f. cc) (λ x. omega arith) c.procs d.procs (behind_procs c the_end) (behind_procs d tail)
    (procs_begin c) e) [
      | inl both ↦ from_splits c d tail both.0 both.1
      | inr l ↦
          let splits = skip lines.Split (lines.Proc l.next) (λ x f. cc) d.splits (behind_splits d tail) l.rest l.begins in
          let inlines = skip lines.Inline (lines.Proc l.next) (λ x f. cc) d.inlines
          (behind_inlines d tail) l.rest splits.1 in
          let cells = skip lines.Cell (lines.Proc l.next) (λ x f. cc) d.cells (behind_cells d tail) l.rest inlines.1 in
          let rows = skip lines.Row (lines.Proc l.next) (λ x f. cc) d.rows tail l.rest cells.1 in
          by_proc (with_tail lines.Proc c.procs d.procs _ tail l rows.1) splits.0 inlines.0 cells.0 rows.0
    ]

lists_then : (c : CertificateView) (tail : List Line) → list_lines c ++ tail ≡ map lines.Proc c.procs ++ behind_procs c tail
lists_then c tail = simp append_assoc

pub lists_go_on : (c d : CertificateView) (tail : List Line) → list_lines c ++ the_end ≡ list_lines d ++ tail → GoesOn c d tail
lists_go_on c d tail e = from_procs c d tail (sym (lists_then c the_end) ∙ e ∙ lists_then d tail)

-- what comes before the procedures is the same
pub record SameHead (c d : CertificateView) : Type 0 where
  pub version : c.version ≡ d.version
  pub rom_len : c.rom_len ≡ d.rom_len
  pub board : c.board ≡ d.board
  pub region : c.region ≡ d.region
  pub budget : c.budget ≡ d.budget

-- lines of boards followed by the line of the stack
pub same_board : (v : Version) (b e : BoardMap) (r s : Region) (xs ys : List Line) →
    board_lines v b ++ lines.Stack r ∷ xs ≡ board_lines v e ++ lines.Stack s ∷ ys →
    (b ≡ e) × (lines.Stack r ∷ xs ≡ lines.Stack s ∷ ys)
same_board One Galaxian Galaxian r s xs ys same = (refl, same)
same_board One Raised Raised r s xs ys same = (refl, ap (drop 1) same)
same_board One Galaxian Raised r s xs ys same = cc
same_board One Raised Galaxian r s xs ys same = cc
same_board Two b e r s xs ys same = (cc, ap (drop 1) same)
same_board Three b e r s xs ys same = (cc, ap (drop 1) same)

pub head_then : (c : CertificateView) (tail : List Line) →
    head_lines c ++ tail ≡ lines.Header c.version ∷ lines.Rom c.rom_len ∷
    (board_lines c.version c.board ++ lines.Stack c.region ∷ lines.Budget c.budget ∷ tail)
head_then c tail = simp append_assoc

pub same_head : (c d : CertificateView) (xs ys : List Line) → head_lines c ++ xs ≡ head_lines d ++ ys → SameHead c d × (xs ≡ ys)
same_head c d xs ys e =
    let whole = sym (head_then c xs) ∙ e ∙ head_then d ys in
    let version : c.version ≡ d.version = cc in
    let rom_len : c.rom_len ≡ d.rom_len = cc in
    let Boards : Version →
    Type 0 = λ v. board_lines c.version c.board ++ lines.Stack c.region ∷ lines.Budget c.budget ∷ xs
    ≡ board_lines v d.board ++ lines.Stack d.region ∷ lines.Budget d.budget ∷ ys in
    let boards = same_board c.version c.board d.board c.region d.region _ _
    (subst Boards (sym version) (ap (drop 2) whole)) in
    let others = boards.1 in
    (record { version = version; rom_len = rom_len; board = boards.0; region = cc; budget = cc }, ap (drop 2) others)

-- two contents have the same head, and the lists of one continue those of the other
pub contents_go_on : (c d : CertificateView) (tail : List Line) → lines_of c ≡ (head_lines d ++ list_lines d) ++ tail →
    SameHead c d × GoesOn c d tail
contents_go_on c d tail e =
    let both = same_head c d (list_lines c ++ the_end) (list_lines d ++ tail)
    (e ∙ append_assoc (head_lines d) (list_lines d) tail) in
    (both.0, lists_go_on c d tail both.1)
