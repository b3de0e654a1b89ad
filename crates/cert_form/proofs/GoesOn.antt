-- A line with which a certificate continues after the lines that were read may come next.
use Rattle.std.proofs.Common.{◌≡◌, ◌≢◌, ◌≤◌, ◌<◌, ℕ, suc, true, ◌∷◌, [], ◌++◌, List, length, take, drop, Option, Some, None, refl, sym, ap, subst, subst₂, ◌∙◌, inl, inr, arith, append_assoc, take-append-drop}
use Rattle.std.specs.List.{AllByRecursion}
use Rattle.std.proofs.lemmas.Bool.{cases_lt, false≢true}
use Rattle.abs_state.specs.declared.cell.KeptCell.{KeptCell}
use Rattle.address_map.specs.declared.region.Region.{Region}
use Rattle.cert_lines.specs.Line.{IsLine, IsShortLine, fields_of}
use Rattle.cert_lines.specs.Row.{IsShortRow}
use Rattle.cert_lines.specs.declared.line.Line.{Line}
use Rattle.cert_lines.specs.declared.line.Line.TheVariants as lines
use Rattle.cert_lines.specs.declared.proc.Proc.{Proc}
use Rattle.cert_lines.specs.declared.version.BoardMap.{BoardMap}
use Rattle.cert_lines.specs.declared.version.BoardMap.TheVariants.{Galaxian, Raised}
use Rattle.cert_lines.specs.declared.version.Version.{Version}
use Rattle.cert_lines.specs.declared.version.Version.TheVariants.{One, Two, Three}
use Rattle.cert_lines.specs.Version.{names_board}
use Rattle.cert_form.specs.Contents.{CertificateView}
use Rattle.cert_form.specs.Form.{IsCertificate, IsWithinLimits, SuitsVersion, AreSubs, AreInOrder, AreSplits, AreInlines, AreCells, AreRows, IsSplit, IsCell, IsRowOf}
use Rattle.cert_form.specs.Text.{board_lines, head_lines, list_lines, lines_of}
use Rattle.cert_form.specs.Reader.{ReaderView, IsProgress, SuitsStage, AreFirstProcs, MayFollow, HasRoomFor, NoneGoesOn, stage_rank, lines_before, lines_read}
use Rattle.cert_form.specs.declared.stage.Stage.{Stage}
use Rattle.cert_form.specs.declared.stage.Stage.TheVariants as stages
use Rattle.cert_form.proofs.Agreement.{GoesOn, GoesOn.by_proc, GoesOn.by_split, GoesOn.by_inline, GoesOn.by_cell, GoesOn.by_row, GoesOn.by_end, SameHead, same_board, head_then, contents_go_on}
use Rattle.cert_form.proofs.Lists.{longer_length, all_append, all_front, all_at, all_map, follow_front}
use Rattle.cert_form.proofs.OrderOfLists.{at_lists}

-- the line for which a stage before the lists waits
abbrev head_line : Stage → CertificateView → Line
head_line stages.Header c = lines.Header c.version
head_line stages.Rom c = lines.Rom c.rom_len
head_line stages.Board c = lines.Board c.board
head_line stages.Stack c = lines.Stack c.region
head_line _ c = lines.Budget c.budget

front_subs : (xs ys : List Proc) → AreSubs (xs ++ ys) → AreSubs xs
front_subs xs ys subs = record { kind = all_front _ xs ys subs.kind; rising = follow_front _ xs ys subs.rising }

-- procedures with which those of a certificate begin
pub first_procs : (budget : Option ℕ) (xs ys : List Proc) → AreInOrder budget (xs ++ ys) → AreFirstProcs budget xs
first_procs budget [] ys order = tt
first_procs None (main ∷ xs) ys order = (order.0, front_subs xs ys order.1)
first_procs (Some n) (main ∷ []) [] order = absurd order
first_procs (Some n) (main ∷ []) (y ∷ ys) order = order.0
first_procs (Some n) (main ∷ nmi ∷ xs) ys order = (order.0, order.1, front_subs xs ys order.2)

procs_stage : (s : Stage) → stage_rank s ≡ 5 → s ≡ stages.Procs
procs_stage stages.Procs rank = refl
procs_stage _ rank = absurd (omega arith)

-- the list of a stage has begun
not_splits : (s : Stage) (d : CertificateView) → SuitsStage s d → d.splits ≡ [] → stage_rank s ≢ 6
not_splits stages.Splits d some none e = absurd (omega (arith, ap length none))
not_splits _ d some none e = absurd (omega arith)

not_inlines : (s : Stage) (d : CertificateView) → SuitsStage s d → d.inlines ≡ [] → stage_rank s ≢ 7
not_inlines stages.Inlines d some none e = absurd (omega (arith, ap length none))
not_inlines _ d some none e = absurd (omega arith)

not_cells : (s : Stage) (d : CertificateView) → SuitsStage s d → d.cells ≡ [] → stage_rank s ≢ 8
not_cells stages.Cells d some none e = absurd (omega (arith, ap length none))
not_cells _ d some none e = absurd (omega arith)

not_rows : (s : Stage) (d : CertificateView) → SuitsStage s d → d.rows ≡ [] → stage_rank s ≢ 9
not_rows stages.Rows d some none e = absurd (omega (arith, ap length none))
not_rows _ d some none e = absurd (omega arith)

has_board : (v : Version) (c : CertificateView) → SuitsVersion v c → 0 < length c.cells → names_board v ≡ true
has_board One c suits some = absurd (omega (arith, ap length suits.cells))
has_board Two c suits some = refl
has_board Three c suits some = refl

first_line : (line other : Line) (more rest : List Line) → line ∷ more ≡ other ∷ rest → other ≡ line
first_line line other more rest e = cc

module _ (p : ReaderView) (c : CertificateView) (line : Line) (more : List Line) (h : IsProgress p) (form : IsCertificate c)
    (from : 5 ≤ stage_rank p.stage) (to : stage_rank p.stage ≤ 9) (head : SameHead c p.contents) where
  complete_procs : c.procs ≡ p.contents.procs → AreInOrder p.contents.budget p.contents.procs
  complete_procs procs = subst₂ AreInOrder head.budget procs form.order

  may_from : GoesOn c p.contents (line ∷ more) → MayFollow p line
  may_from (by_proc l splits inlines cells rows) =
      let a : stage_rank p.stage ≢ 6 = not_splits p.stage p.contents h.stage splits in
      let b : stage_rank p.stage ≢ 7 = not_inlines p.stage p.contents h.stage inlines in
      let d : stage_rank p.stage ≢ 8 = not_cells p.stage p.contents h.stage cells in
      let e : stage_rank p.stage ≢ 9 = not_rows p.stage p.contents h.stage rows in
      let at : stage_rank p.stage ≡ 5 = omega arith in
      subst (MayFollow p) (first_line line (lines.Proc l.next) more l.rest l.begins) (
        procs_stage p.stage at,
        first_procs p.contents.budget (p.contents.procs ++ l.next ∷ []) l.more
            (subst₂ AreInOrder head.budget l.longer form.order),
      )
  may_from (by_split procs l inlines cells rows) =
      let b : stage_rank p.stage ≢ 7 = not_inlines p.stage p.contents h.stage inlines in
      let d : stage_rank p.stage ≢ 8 = not_cells p.stage p.contents h.stage cells in
      let e : stage_rank p.stage ≢ 9 = not_rows p.stage p.contents h.stage rows in
      let are = subst₂ (λ ps xs. AreSplits (length ps) xs) procs l.longer form.splits in
      subst (MayFollow p) (first_line line (lines.Split l.next) more l.rest l.begins) (
        record { from = from; to = omega arith; procs = complete_procs procs },
        record { each = all_front _ _ l.more are.each; rising = follow_front _ _ l.more are.rising },
      )
  may_from (by_inline procs splits l cells rows) =
      let d : stage_rank p.stage ≢ 8 = not_cells p.stage p.contents h.stage cells in
      let e : stage_rank p.stage ≢ 9 = not_rows p.stage p.contents h.stage rows in
      let are = subst AreInlines l.longer form.inlines in
      subst (MayFollow p) (first_line line (lines.Inline l.next) more l.rest l.begins) (
        record { from = from; to = omega arith; procs = complete_procs procs },
        record { each = all_front _ _ l.more are.each; rising = follow_front _ _ l.more are.rising },
      )
  may_from (by_cell procs splits inlines l rows) =
      let e : stage_rank p.stage ≢ 9 = not_rows p.stage p.contents h.stage rows in
      let are = subst₂ AreCells head.board l.longer form.cells in
      let some = longer_length lines.Cell c.cells p.contents.cells (line ∷ more) l in
      subst (MayFollow p) (first_line line (lines.Cell l.next) more l.rest l.begins) (
        record { from = from; to = omega arith; procs = complete_procs procs },
        ap names_board (sym head.version) ∙ has_board c.version c form.version (omega arith),
        record { each = all_front _ _ l.more are.each; rising = follow_front _ _ l.more are.rising },
      )
  may_from (by_row procs splits inlines cells l) =
      let counted = subst₂ (λ ps cs. AreRows c.version (length ps) (length cs) c.rows) procs cells form.rows in
      let are = subst₂
      (λ v rs. AreRows v (length p.contents.procs) (length p.contents.cells) rs) head.version l.longer counted in
      subst (MayFollow p) (first_line line (lines.Row l.next) more l.rest l.begins) (
        record { from = from; to = to; procs = complete_procs procs },
        record { each = all_front _ _ l.more are.each; rising = follow_front _ _ l.more are.rising },
      )
  may_from (by_end procs splits inlines cells rows last) =
      subst (MayFollow p)
      (first_line line lines.End more [] last) record { from = from; to = to; procs = complete_procs procs }

old_board : (v : Version) (c : CertificateView) → SuitsVersion v c → v ≡ One → c.board ≡ Galaxian
old_board One c suits e = suits.board
old_board Two c suits e = cc
old_board Three c suits e = cc

-- after the line of the board, if there is one, comes the stack's
board_then : (v : Version) (b e : BoardMap) (r : Region) (xs : List Line) (line : Line) (more : List Line) →
    (v ≡ One → b ≡ Galaxian) →
    board_lines v b ++ lines.Stack r ∷ xs ≡ board_lines v e ++ line ∷ more → lines.Stack r ≡ line
board_then One Galaxian Galaxian r xs line more old same = cc
board_then One Galaxian Raised r xs line more old same = cc
board_then One Raised e r xs line more old same = let no : Raised ≡ Galaxian = old refl in cc
board_then Two b e r xs line more old same = cc
board_then Three b e r xs line more old same = cc

-- a version that names the board has its line first
board_first : (v : Version) (b : BoardMap) (xs : List Line) (line : Line) (more : List Line) → names_board v ≡ true →
    board_lines v b ++ xs ≡ line ∷ more → lines.Board b ≡ line
board_first One b xs line more named same = absurd (false≢true named)
board_first Two b xs line more named same = cc
board_first Three b xs line more named same = cc

first_version : (v w : Version) (xs ys : List Line) → lines.Header v ∷ xs ≡ lines.Header w ∷ ys → v ≡ w
first_version v w xs ys e = cc

-- before the lists, the next line is the one for which the stage waits
at_head : (s : Stage) (c d : CertificateView) (line : Line) (more : List Line) → stage_rank s < 5 → SuitsVersion c.version c →
    SuitsStage s d → lines_of c ≡ lines_before s d ++ line ∷ more →
    head_line s c ≡ line
at_head stages.Header c d line more early suits stage e = cc
at_head stages.Rom c d line more early suits stage e = cc
at_head stages.Board c d line more early suits stage e =
    let whole = sym (head_then c (list_lines c ++ lines.End ∷ [])) ∙ e in
    let named = ap names_board (first_version c.version d.version _ _ whole) ∙ stage in
    let behind = lines.Stack c.region ∷ lines.Budget c.budget ∷ (list_lines c ++ lines.End ∷ []) in
    let boards : board_lines c.version c.board ++ behind ≡ line ∷ more = ap (drop 2) whole in
    board_first c.version c.board behind line more named boards
at_head stages.Stack c d line more early suits stage e =
    let whole = sym (head_then c (list_lines c ++ lines.End ∷ [])) ∙ e in
    let version = first_version c.version d.version _ _ whole in
    let Boards : Version → Type 0 =
    λ v. board_lines c.version c.board ++ lines.Stack c.region ∷ lines.Budget c.budget ∷
    (list_lines c ++ lines.End ∷ []) ≡ board_lines v d.board ++ line ∷ more in
    board_then c.version c.board d.board c.region _ line more (old_board c.version c suits)
    (subst Boards (sym version) (ap (drop 2) whole))
at_head stages.Budget c d line more early suits stage e =
    let whole = sym (head_then c (list_lines c ++ lines.End ∷ [])) ∙ e in
    let version = first_version c.version d.version _ _ whole in
    let Boards : Version → Type 0 =
    λ v. board_lines c.version c.board ++ lines.Stack c.region ∷ lines.Budget c.budget ∷
    (list_lines c ++ lines.End ∷ []) ≡ board_lines v d.board ++ lines.Stack d.region ∷ line ∷ more in
    let others = (same_board c.version c.board d.board c.region d.region _ _
    (subst Boards (sym version)
    (ap (drop 2) whole ∙ append_assoc (board_lines d.version d.board) (lines.Stack d.region ∷ []) (line ∷ more)))).1 in
    cc
at_head _ c d line more early suits stage e = absurd (omega arith)

may_at_head : (s : Stage) (c d : CertificateView) → stage_rank s < 5 →
    MayFollow (record { stage = s; contents = d }) (head_line s c) × HasRoomFor d (head_line s c) × IsShortLine
    (head_line s c)
may_at_head stages.Header c d early = (refl, tt, tt)
may_at_head stages.Rom c d early = (refl, tt, tt)
may_at_head stages.Board c d early = (refl, tt, tt)
may_at_head stages.Stack c d early = (refl, tt, tt)
may_at_head stages.Budget c d early = (refl, tt, tt)
may_at_head _ c d early = absurd (omega arith)

cell_is_line : (board : BoardMap) (v : Version) (cell : KeptCell) → IsCell board cell → IsLine v (lines.Cell cell)
cell_is_line Galaxian v cell is = (omega (arith, is.below), is.range)
cell_is_line Raised v cell is = (omega (arith, is.below), is.range)

board_is_line : (v w : Version) (b : BoardMap) → AllByRecursion (IsLine w) (board_lines v b)
board_is_line One w Galaxian = tt
board_is_line One w Raised = (tt, tt)
board_is_line Two w b = (tt, tt)
board_is_line Three w b = (tt, tt)

-- each line of a certificate is in form
pub lines_in_form : (c : CertificateView) → IsCertificate c → AllByRecursion (IsLine c.version) (lines_of c)
lines_in_form c form =
    let Is : Line → Type 0 = IsLine c.version in
    let procs = all_map _ Is lines.Proc (λ x is. is) c.procs form.procs in
    let splits = all_map (IsSplit (length c.procs)) Is lines.Split
    (λ x is. (is.proc_within, is.address)) c.splits form.splits.each in
    let inlines = all_map _ Is lines.Inline (λ x is. is) c.inlines form.inlines.each in
    let cells = all_map (IsCell c.board) Is lines.Cell (cell_is_line c.board c.version) c.cells form.cells.each in
    let rows = all_map (IsRowOf c.version (length c.procs) (length c.cells)) Is lines.Row
    (λ x is. is.form) c.rows form.rows.each in
    let lists = all_append Is _ _ procs
    (all_append Is _ _ splits (all_append Is _ _ inlines (all_append Is _ _ cells rows))) in
    let head = all_append Is _ (lines.Stack c.region ∷ lines.Budget c.budget ∷ [])
    (board_is_line c.version c.version c.board) (form.region, (form.budget, tt)) in
    all_append Is (head_lines c) _ (tt, (form.rom_len, head)) (all_append Is (list_lines c) (lines.End ∷ []) lists (tt, tt))

-- a certificate within the limits has room for the next element of a list
has_room : (c d : CertificateView) (line : Line) (more : List Line) → IsWithinLimits c → GoesOn c d (line ∷ more) →
    HasRoomFor d line × IsShortLine line
has_room c d line more limits (by_proc l splits inlines cells rows) =
    let longer = longer_length lines.Proc c.procs d.procs (line ∷ more) l in
    subst (λ l. HasRoomFor d l × IsShortLine l) (first_line line (lines.Proc l.next) more l.rest l.begins)
    (omega (arith, limits.procs), tt)
has_room c d line more limits (by_split procs l inlines cells rows) =
    let longer = longer_length lines.Split c.splits d.splits (line ∷ more) l in
    subst (λ l. HasRoomFor d l × IsShortLine l) (first_line line (lines.Split l.next) more l.rest l.begins)
    (omega (arith, limits.splits), tt)
has_room c d line more limits (by_inline procs splits l cells rows) =
    let longer = longer_length lines.Inline c.inlines d.inlines (line ∷ more) l in
    subst (λ l. HasRoomFor d l × IsShortLine l) (first_line line (lines.Inline l.next) more l.rest l.begins)
    (omega (arith, limits.inlines), tt)
has_room c d line more limits (by_cell procs splits inlines l rows) =
    let longer = longer_length lines.Cell c.cells d.cells (line ∷ more) l in
    subst (λ l. HasRoomFor d l × IsShortLine l) (first_line line (lines.Cell l.next) more l.rest l.begins)
    (omega (arith, limits.cells), tt)
has_room c d line more limits (by_row procs splits inlines cells l) =
    let longer = longer_length lines.Row c.rows d.rows (line ∷ more) l in
    let short = all_at IsShortRow d.rows l.next []
    (all_front IsShortRow (d.rows ++ l.next ∷ []) l.more (subst (AllByRecursion IsShortRow) l.longer limits.short)) in
    subst (λ l. HasRoomFor d l × IsShortLine l) (first_line line (lines.Row l.next) more l.rest l.begins)
    (omega (arith, limits.rows), short)
has_room c d line more limits (by_end procs splits inlines cells rows last) =
    subst (λ l. HasRoomFor d l × IsShortLine l) (first_line line lines.End more [] last) (tt, tt)

nothing_goes_on : (c d : CertificateView) (line : Line) (more : List Line) → GoesOn c d (lines.End ∷ line ∷ more) → ⊥
nothing_goes_on c d line more (by_proc l splits inlines cells rows) = let e = l.begins in cc
nothing_goes_on c d line more (by_split procs l inlines cells rows) = let e = l.begins in cc
nothing_goes_on c d line more (by_inline procs splits l cells rows) = let e = l.begins in cc
nothing_goes_on c d line more (by_cell procs splits inlines l rows) = let e = l.begins in cc
nothing_goes_on c d line more (by_row procs splits inlines cells l) = let e = l.begins in cc
nothing_goes_on c d line more (by_end procs splits inlines cells rows last) = cc

pub header_stage : (s : Stage) → stage_rank s ≤ 0 → s ≡ stages.Header
header_stage stages.Header early = refl
header_stage _ early = absurd (omega arith)

pub nothing_stage : (s : Stage) → 10 ≤ stage_rank s → s ≡ stages.Nothing
nothing_stage stages.Nothing late = refl
nothing_stage _ late = absurd (omega arith)

pub header_first : (s : Stage) (d : CertificateView) → 0 < stage_rank s →
    (rest : List Line) × (lines_before s d ≡ lines.Header d.version ∷ rest)
header_first stages.Header d late = absurd (omega arith)
header_first stages.Rom d late = (_, refl)
header_first stages.Board d late = (_, refl)
header_first stages.Stack d late = (_, refl)
header_first stages.Budget d late = (_, refl)
header_first stages.Nothing d late = (_, refl)
header_first stages.Procs d late = (_, refl)
header_first stages.Splits d late = (_, refl)
header_first stages.Inlines d late = (_, refl)
header_first stages.Cells d late = (_, refl)
header_first stages.Rows d late = (_, refl)

-- the version of the lines that were read is that of a certificate that begins with them
pub same_version : (p : ReaderView) (c : CertificateView) (tail : List Line) → 0 < stage_rank p.stage →
    lines_of c ≡ lines_read p ++ tail → c.version ≡ p.contents.version
same_version p c tail late e =
    let first = header_first p.stage p.contents late in
    first_version c.version p.contents.version _ _ (e ∙ ap (λ ls. ls ++ tail) first.1)

header_here : (v w u : Version) → IsLine v (lines.Header u) × (fields_of w (lines.Header u) ≡ fields_of v (lines.Header u))
unfolding fields_of
header_here v w u = (tt, refl)

-- at the first stage each header is in form and has the same fields; after it the versions are the same
form_here : (p : ReaderView) (c : CertificateView) (line : Line) (more : List Line) → IsCertificate c →
    lines_of c ≡ lines_read p ++ line ∷ more → IsLine c.version line →
    IsLine p.contents.version line × (fields_of c.version line ≡ fields_of p.contents.version line)
form_here p c line more form e is =
    elim (cases_lt 0 (stage_rank p.stage)) [
      | inl late ↦
          let version = same_version p c (line ∷ more) late e in
          (subst (λ v. IsLine v line) version is, ap (λ v. fields_of v line) version)
      | inr early ↦
          let Lines : Stage → Type 0 = λ s. lines_of c ≡ lines_before s p.contents ++ line ∷ more in
          let whole : Lines stages.Header = subst Lines (header_stage p.stage early) e in
          subst (λ l. IsLine p.contents.version l × (fields_of c.version l ≡ fields_of p.contents.version l))
          (at_head stages.Header c p.contents line more (omega arith) form.version tt whole)
          (header_here p.contents.version c.version c.version)
    ]

-- the line with which a certificate continues after the lines that were read
pub record IsNext (p : ReaderView) (c : CertificateView) (line : Line) : Type 0 where
  pub form : IsLine c.version line
  pub form_here : IsLine p.contents.version line
  pub fields : fields_of c.version line ≡ fields_of p.contents.version line
  pub may_follow : MayFollow p line
  pub version : 0 < stage_rank p.stage → c.version ≡ p.contents.version
  pub room : IsWithinLimits c → HasRoomFor p.contents line × IsShortLine line

-- it may come next, and a certificate within the limits has room for it
pub goes_on_with : (p : ReaderView) (c : CertificateView) (line : Line) (more : List Line) → IsProgress p → IsCertificate c →
    lines_of c ≡ lines_read p ++ line ∷ more → IsNext p c line
goes_on_with p c line more h form e =
    let d = p.contents in
    let is_line = all_at (IsLine c.version) (lines_read p) line more
    (subst (AllByRecursion (IsLine c.version)) e (lines_in_form c form)) in
    let here = form_here p c line more form e is_line in
    let version : 0 < stage_rank p.stage → c.version ≡ d.version = λ late. same_version p c (line ∷ more) late e in
    elim (cases_lt (stage_rank p.stage) 5) [
      | inl early ↦
          let is = at_head p.stage c d line more early form.version h.stage e in
          let may = may_at_head p.stage c d early in
          record {
            form = is_line;
            form_here = here.0;
            fields = here.1;
            may_follow = subst (MayFollow p) is may.0;
            version = version;
            room = λ _. subst (λ l. HasRoomFor d l × IsShortLine l) is (may.1, may.2);
          }
      | inr from ↦ elim (cases_lt (stage_rank p.stage) 10) [
        | inl to ↦
            let both = contents_go_on c d (line ∷ more)
            (e ∙ ap (λ ls. ls ++ line ∷ more) (at_lists p.stage d from (omega arith))) in
            record {
              form = is_line;
              form_here = here.0;
              fields = here.1;
              may_follow = may_from p c line more h form from (omega arith) both.0 both.1;
              version = version;
              room = λ limits. has_room c d line more limits both.1;
            }
        | inr late ↦
            let Lines : Stage → Type 0 = λ s. lines_of c ≡ lines_before s d ++ line ∷ more in
            let whole : Lines stages.Nothing = subst Lines (nothing_stage p.stage late) e in
            let tail = whole ∙ append_assoc (head_lines d) (list_lines d ++ lines.End ∷ []) (line ∷ more)
            ∙ ap (λ ls. head_lines d ++ ls) (append_assoc (list_lines d) (lines.End ∷ []) (line ∷ more))
            ∙ sym (append_assoc (head_lines d) (list_lines d) (lines.End ∷ line ∷ more)) in
            absurd (nothing_goes_on c d line more (contents_go_on c d (lines.End ∷ line ∷ more) tail).1)
      ]
    ]

pub goes_on : (p : ReaderView) (c : CertificateView) (line : Line) → IsProgress p → IsCertificate c →
    take (suc (length (lines_read p))) (lines_of c) ≡ lines_read p ++ line ∷ [] → IsNext p c line
goes_on p c line h form e =
    let n = suc (length (lines_read p)) in
    goes_on_with p c line (drop n (lines_of c)) h form
    (sym (take-append-drop n (lines_of c)) ∙ ap (λ ls. ls ++ drop n (lines_of c)) e
    ∙ append_assoc (lines_read p) (line ∷ []) (drop n (lines_of c)))

-- a line that may not come next continues no certificate
pub none_goes_on : (p : ReaderView) (line : Line) → IsProgress p → (IsLine p.contents.version line → MayFollow p line → ⊥) →
    NoneGoesOn (lines_read p) line
none_goes_on p line h bad c readable e =
    let next = goes_on p c line h readable.certificate e in
    bad next.form_here next.may_follow
