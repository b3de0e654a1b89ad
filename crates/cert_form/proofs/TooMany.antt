-- A line that is one too many, or has too many parts.
use Rattle.std.proofs.Common.{◌≡◌, ◌<◌, ℕ, suc, ◌∷◌, [], ◌++◌, List, length, take, refl, sym, ap, subst, ◌∙◌, arith, length-append}
use Rattle.std.specs.List.{AllByRecursion, join_with_byte}
use Rattle.std.proofs.lemmas.List.{take_at}
use Rattle.std.proofs.lemmas.List.Splits.{join_with_byte-slice_split}
use Rattle.cert_lines.specs.Line.{IsLine, IsShortLine, fields_of, line_text}
use Rattle.cert_lines.specs.Row.{IsShortRow}
use Rattle.cert_lines.specs.declared.line.Line.{Line}
use Rattle.cert_lines.specs.declared.line.Line.TheVariants as lines
use Rattle.cert_lines.specs.declared.row.Row.{Row}
use Rattle.cert_lines.specs.declared.version.BoardMap.{BoardMap}
use Rattle.cert_lines.specs.declared.version.BoardMap.TheVariants.{Galaxian, Raised}
use Rattle.cert_lines.specs.declared.version.Version.{Version}
use Rattle.cert_lines.specs.declared.version.Version.TheVariants.{One, Two, Three}
use Rattle.cert_form.specs.Contents.{CertificateView}
use Rattle.cert_form.specs.Form.{IsCertificate, IsInForm, IsRowOf}
use Rattle.cert_form.specs.Text.{BeginsWith, HasTooMany, IsReadable, IsShortText, LINE_LIMIT, board_lines, head_lines, list_lines, lines_of, text_of_lines}
use Rattle.cert_form.specs.Reader.{ReaderView, IsProgress, MayFollow, HasRoomFor, lines_read}
use Rattle.cert_form.proofs.BadLines.{begins_before_next, next_fields}
use Rattle.cert_form.proofs.Completes.{completes}
use Rattle.cert_form.proofs.Cuts.{LinesAreTold, text_push}
use Rattle.cert_form.proofs.GoesOn.{lines_in_form}
use Rattle.cert_form.proofs.Lists.{all_append, all_both, all_every, all_map, all_push}
use Rattle.cert_form.proofs.Order.{Orders, behind_proc, behind_split, behind_inline, behind_cell, behind_row, ordered}
use Rattle.cert_form.proofs.OrderOfLists.{order_proc, order_split, order_inline, order_cell, order_row}
use Rattle.cert_form.proofs.Texts.{HasLine, Stands, next_line}
use Rattle.texts.specs.Fields.{fields_in}

-- a line in form has a text that is not too long
TellsShort : Version → Line → Type 0
TellsShort v line = IsLine v line → IsShortText v line

board_tells_short : LinesAreTold → (v w : Version) (b : BoardMap) → AllByRecursion (TellsShort v) (board_lines w b)
unfolding TellsShort
board_tells_short told v One Galaxian = tt
board_tells_short told v One Raised = (λ form. told.short v (lines.Board Raised) form tt, tt)
board_tells_short told v Two b = (λ form. told.short v (lines.Board b) form tt, tt)
board_tells_short told v Three b = (λ form. told.short v (lines.Board b) form tt, tt)

-- a certificate can be read if its rows can
pub readable_with_rows : LinesAreTold → (c : CertificateView) → IsCertificate c →
    AllByRecursion (λ row. IsShortText c.version (lines.Row row)) c.rows → IsReadable c
unfolding TellsShort
readable_with_rows told c form rows =
    let v = c.version in
    let Tells : Line → Type 0 = TellsShort v in
    let tells : (line : Line) → IsShortLine line → Tells line = λ line short is. told.short v line is short in
    let lists = all_append Tells _ _ (all_every Tells lines.Proc (λ x. tells (lines.Proc x) tt) c.procs)
    (all_append Tells _ _ (all_every Tells lines.Split (λ x. tells (lines.Split x) tt) c.splits)
    (all_append Tells _ _ (all_every Tells lines.Inline (λ x. tells (lines.Inline x) tt) c.inlines)
    (all_append Tells _ _ (all_every Tells lines.Cell (λ x. tells (lines.Cell x) tt) c.cells)
    (all_map (λ row. IsShortText v (lines.Row row)) Tells lines.Row (λ row short _. short) c.rows rows)))) in
    let head = all_append Tells _ (lines.Stack c.region ∷ lines.Budget c.budget ∷ []) (board_tells_short told v v c.board)
    (tells (lines.Stack c.region) tt, (tells (lines.Budget c.budget) tt, tt)) in
    let all = all_append Tells (head_lines c) _ (tells (lines.Header v) tt, (tells (lines.Rom c.rom_len) tt, head))
    (all_append Tells (list_lines c) (lines.End ∷ []) lists (tells lines.End tt, tt)) in
    record {
      certificate = form;
      short = all_both (IsLine v) Tells (IsShortText v) (λ line is short. short is) (lines_of c)
          (lines_in_form c form) all;
    }

short_rows : LinesAreTold → (v : Version) (procs cells : ℕ) (rows : List Row) →
    AllByRecursion (IsRowOf v procs cells) rows → AllByRecursion IsShortRow rows →
    AllByRecursion (λ row. IsShortText v (lines.Row row)) rows
short_rows told v procs cells rows forms short = all_both _ _ _
    (λ row form few. told.short v (lines.Row row) form.form few) rows forms short

-- a certificate in form can be read
pub readable_in_form : LinesAreTold → (c : CertificateView) → IsInForm c → IsReadable c
readable_in_form told c form =
    readable_with_rows told c form.certificate
    (short_rows told c.version _ _ c.rows form.certificate.rows.each form.limits.short)

-- a certificate that can be read and begins with these lines
record IsReadOn (v : Version) (front : List Line) (c : CertificateView) : Type 0 where
  readable : IsReadable c
  version : c.version ≡ v
  rest : List Line
  lines : lines_of c ≡ front ++ rest

read_on_from : LinesAreTold → (p new : ReaderView) (line : Line) → new.contents.version ≡ p.contents.version →
    Orders p line new →
    AllByRecursion (λ row. IsShortText p.contents.version (lines.Row row)) new.contents.rows →
    (c : CertificateView) × IsReadOn p.contents.version (lines_read p ++ line ∷ []) c
read_on_from told p new line version order rows =
    let whole = completes new order.1 in
    let c = whole.0 in
    let same : c.version ≡ p.contents.version = whole.1.version ∙ version in
    let rows_of_c = subst (AllByRecursion (λ row. IsShortText p.contents.version (lines.Row row)))
    (sym whole.1.rows) rows in (
      c,
      record {
        readable = readable_with_rows told c whole.1.certificate
            (subst (λ v. AllByRecursion (λ row. IsShortText v (lines.Row row)) c.rows) (sym same) rows_of_c);
        version = same;
        rest = whole.1.rest;
        lines = whole.1.lines ∙ ap (λ ls. ls ++ whole.1.rest) order.0;
      },
    )

-- a line that is one too many, or has too many parts, is still the next one of some certificate
read_on : LinesAreTold → (p : ReaderView) (line : Line) → IsProgress p → IsLine p.contents.version line → MayFollow p line →
    (IsShortLine line × HasRoomFor p.contents line → ⊥) →
    IsShortText p.contents.version line → (c : CertificateView) × IsReadOn p.contents.version (lines_read p ++ line ∷ []) c
read_on told p (lines.Header v) h form may many short = absurd (many (tt, tt))
read_on told p (lines.Rom len) h form may many short = absurd (many (tt, tt))
read_on told p (lines.Board board) h form may many short = absurd (many (tt, tt))
read_on told p (lines.Stack region) h form may many short = absurd (many (tt, tt))
read_on told p (lines.Budget budget) h form may many short = absurd (many (tt, tt))
read_on told p lines.End h form may many short = absurd (many (tt, tt))
read_on told p (lines.Proc proc) h form may many short =
    read_on_from told p (behind_proc p proc) (lines.Proc proc) refl (order_proc p proc (ordered p h) form may)
    (short_rows told _ _ _ p.contents.rows h.rows.each h.limits.short)
read_on told p (lines.Split split) h form may many short =
    read_on_from told p (behind_split p split) (lines.Split split) refl (order_split p split (ordered p h) may)
    (short_rows told _ _ _ p.contents.rows h.rows.each h.limits.short)
read_on told p (lines.Inline address) h form may many short =
    read_on_from told p (behind_inline p address) (lines.Inline address) refl (order_inline p address (ordered p h) may)
    (short_rows told _ _ _ p.contents.rows h.rows.each h.limits.short)
read_on told p (lines.Cell cell) h form may many short =
    read_on_from told p (behind_cell p cell) (lines.Cell cell) refl (order_cell p cell (ordered p h) may)
    (short_rows told _ _ _ p.contents.rows h.rows.each h.limits.short)
read_on told p (lines.Row row) h form may many short =
    read_on_from told p (behind_row p row) (lines.Row row) refl (order_row p row (ordered p h) may)
    (all_push _ p.contents.rows row (short_rows told _ _ _ p.contents.rows h.rows.each h.limits.short) short)

-- no certificate in form has this line next
pub none_in_form : LinesAreTold → (bytes : List ℕ) (p : ReaderView) (rest text after : List ℕ) (line : Line) →
    Stands bytes p rest → HasLine rest text after → IsLine p.contents.version line →
    fields_in text ≡ fields_of p.contents.version line → (IsShortLine line × HasRoomFor p.contents line → ⊥) →
    BeginsWith IsInForm (suc (length (lines_read p))) bytes → ⊥
none_in_form told bytes p rest text after line stands next form fields many begins =
    let has = next_line told bytes p rest IsInForm (λ c in_form. in_form.certificate) stands begins in
    let c = begins.certificate in
    let same : has.next ≡ line = told.injective p.contents.version has.next line has.is_next.form_here form
    (sym (next_fields told p c rest text after next has) ∙ fields) in
    let room = subst (λ l. HasRoomFor p.contents l × IsShortLine l) same (has.is_next.room begins.form.limits) in
    many (room.1, room.0)

-- a line in form that may come next, but has no room or too many parts
pub too_many : LinesAreTold → (bytes : List ℕ) (p : ReaderView) (rest text after : List ℕ) (line : Line) →
    Stands bytes p rest → HasLine rest text after → length text < LINE_LIMIT →
    IsLine p.contents.version line → fields_in text ≡ fields_of p.contents.version line → MayFollow p line →
    (IsShortLine line × HasRoomFor p.contents line → ⊥) → HasTooMany bytes
too_many told bytes p rest text after line stands next short form fields may many =
    let v = p.contents.version in
    let joined : text ≡ line_text v line = sym (join_with_byte-slice_split 32 text) ∙ ap (join_with_byte 32) fields in
    let on = read_on told p line stands.form form may many (subst (λ t. length t < LINE_LIMIT) joined short) in
    let front = lines_read p ++ line ∷ [] in
    let count : length front ≡ suc (length (lines_read p)) = omega (arith, length-append (lines_read p) (line ∷ [])) in
    let first : take (suc (length (lines_read p))) (lines_of on.0) ≡ front = ap
    (take (suc (length (lines_read p)))) on.1.lines ∙ take_at front on.1.rest _ count in
    record {
      number = suc (length (lines_read p));
      before = begins_before_next bytes p rest stands;
      readable = record {
        certificate = on.0;
        form = on.1.readable;
        within = omega (arith, count, ap length on.1.lines, length-append front on.1.rest);
        rest = after;
        begins =
            stands.text ∙ ap (λ more. text_of_lines v (lines_read p) ++ more) next.text
            ∙ sym (text_push v (lines_read p) line text after fields)
            ∙ ap (λ ls. text_of_lines v ls ++ after) (sym first)
            ∙ ap (λ w. text_of_lines w (take (suc (length (lines_read p))) (lines_of on.0)) ++ after)
            (sym on.1.version);
      };
      many = none_in_form told bytes p rest text after line stands next form fields many;
    }
