-- How the lines of parts are read one after another, and the fault of the first that is refused.
use Rattle.std.proofs.Common.{◌≡◌, ◌<◌, ◌≤◌, ◌-◌, ℕ, suc, ◌∷◌, [], ◌++◌, List, length, map, take, drop, get_or, Option, Result, Ok, Err, IfOk, IsOkUnless, refl, sym, ap, subst, ◌∙◌, arith, append_assoc, append-nil, length-append, drop-cons}
use Rattle.std.proofs.lemmas.List.{take_at, map-append, take-append-drop}
use Rattle.abs_state.specs.declared.cell.KeptCell.{KeptCell}
use Rattle.address_map.specs.declared.region.Region.{Region}
use Rattle.cert_lines.specs.Line.{IsLine, IsShortLine}
use Rattle.cert_lines.specs.declared.line.Line.{Line}
use Rattle.cert_lines.specs.declared.line.Line.TheVariants as lines
use Rattle.cert_lines.specs.declared.proc.Proc.{Proc}
use Rattle.cert_lines.specs.declared.row.Row.{Row}
use Rattle.cert_lines.specs.declared.split.Split.{Split}
use Rattle.cert_lines.specs.declared.version.BoardMap.{BoardMap}
use Rattle.cert_lines.specs.declared.version.Version.{Version}
use Rattle.cert_form.specs.Contents.{CertificateView}
use Rattle.cert_form.specs.Form.{IsCertificate, IsInForm}
use Rattle.cert_form.specs.Text.{board_lines, lines_of}
use Rattle.cert_form.specs.Reader.{EndsReading, HasRoomFor, IsProgress, MayFollow, ReaderView, TakesLine, lines_read}
use Rattle.cert_form.specs.declared.fault.CertFault.{CertFault}
use Rattle.cert_form.specs.declared.fault.CertFault.TheVariants as faults
use Rattle.cert_form.proofs.Completes.{completes, completion_begins, completion_in_form, whole_in_form}
use Rattle.cert_form.proofs.GoesOn.{IsNext, goes_on}
use Rattle.cert_form.proofs.Order.{Orders, behind_cell, behind_inline, behind_proc, behind_row, behind_split, ordered}
use Rattle.cert_form.proofs.OrderOfLists.{order_cell, order_inline, order_proc, order_row, order_split}
use Rattle.cert_form.proofs.Whole.{ends_at, ends_with}
use Rattle.cert_contents.specs.Parts.{BeginsAs, HasTooManyParts, IsFirstBadPart, StopsAt, TakesLines}

-- what holds of a refused line depends only on the fault
same_refusal : (S T : Type 0) (p new : ReaderView) (line : Line) (fault : CertFault) → TakesLine {T = S} p line (Err fault) new →
    TakesLine {T = T} p line (Err fault) p
same_refusal S T p new line (faults.Line n) takes = takes
same_refusal S T p new line faults.Limit takes = takes
same_refusal S T p new line faults.NoMemory takes = takes

-- lines were read, and the next one was refused
pub stops_at : (T : Type 0) (old now new : ReaderView) (before after : List Line) (line : Line) (fault : CertFault) →
    lines_read now ≡ lines_read old ++ before → IsProgress now → TakesLine {T = T} now line (Err fault) new →
    StopsAt old (before ++ line ∷ after) fault
stops_at T old now new before after line fault read form takes = record {
  before = before;
  line = line;
  after = after;
  parts = refl;
  at = now;
  read = read;
  form = form;
  refused = same_refusal T (Unit {0}) now new line fault takes;
}

-- the first line was refused
pub stops_first : (T : Type 0) (old new : ReaderView) (line : Line) (rest : List Line) (fault : CertFault) → IsProgress old →
    TakesLine {T = T} old line (Err fault) new → StopsAt old (line ∷ rest) fault
stops_first T old new line rest fault form takes =
    stops_at T old old new [] rest line fault (sym (append-nil (lines_read old))) form takes

-- one of the first lines was refused
pub stops_before : (old : ReaderView) (xs ys : List Line) (fault : CertFault) → StopsAt old xs fault → StopsAt old (xs ++ ys) fault
stops_before old xs ys fault stops = record {
  before = stops.before;
  line = stops.line;
  after = stops.after ++ ys;
  parts = ap (λ ls. ls ++ ys) stops.parts ∙ append_assoc stops.before (stops.line ∷ stops.after) ys;
  at = stops.at;
  read = stops.read;
  form = stops.form;
  refused = stops.refused;
}

-- lines were read, and a later one was refused
pub stops_then : (old mid : ReaderView) (xs ys : List Line) (fault : CertFault) → lines_read mid ≡ lines_read old ++ xs →
    StopsAt mid ys fault → StopsAt old (xs ++ ys) fault
stops_then old mid xs ys fault read stops = record {
  before = xs ++ stops.before;
  line = stops.line;
  after = stops.after;
  parts = ap (λ ls. xs ++ ls) stops.parts ∙ sym (append_assoc xs stops.before (stops.line ∷ stops.after));
  at = stops.at;
  read = stops.read ∙ ap (λ ls. ls ++ stops.before) read ∙ append_assoc (lines_read old) xs stops.before;
  form = stops.form;
  refused = stops.refused;
}

-- one line is read, or refused
pub takes_one : (T : Type 0) (old new : ReaderView) (line : Line) (r : Result T CertFault) → IsProgress old →
    TakesLine old line r new → TakesLines old (line ∷ []) r new
takes_one T old new line (Ok x) form takes = takes
takes_one T old new line (Err fault) form takes = stops_first T old new line [] fault form takes

-- lines were read, and then others are
pub takes_then : (T : Type 0) (old mid new : ReaderView) (xs ys : List Line) (r : Result T CertFault) →
    lines_read mid ≡ lines_read old ++ xs → TakesLines mid ys r new → TakesLines old (xs ++ ys) r new
takes_then T old mid new xs ys (Ok x) read takes =
    (takes.0 ∙ ap (λ ls. ls ++ ys) read ∙ append_assoc (lines_read old) xs ys, takes.1)
takes_then T old mid new xs ys (Err fault) read stops = stops_then old mid xs ys fault read stops

-- the lines before the procedures are read
pub takes_head : (T : Type 0) (old a b d e new : ReaderView) (v : Version) (rom_len : ℕ) (board : BoardMap) (region : Region)
    (budget : Option ℕ) (r : Result T CertFault) → lines_read a ≡ lines_read old ++ lines.Header v ∷ [] →
    lines_read b ≡ lines_read a ++ lines.Rom rom_len ∷ [] → lines_read d ≡ lines_read b ++ board_lines v board →
    lines_read e ≡ lines_read d ++ lines.Stack region ∷ [] → IsProgress e → TakesLine e (lines.Budget budget) r new →
    TakesLines old
    (lines.Header v ∷ lines.Rom rom_len ∷ (board_lines v board ++ (lines.Stack region ∷ lines.Budget budget ∷ []))) r new
takes_head T old a b d e new v rom_len board region budget r to_a to_b to_d to_e form takes =
    let behind_e : List Line = lines.Budget budget ∷ [] in
    let behind_d : List Line = lines.Stack region ∷ behind_e in
    let behind_b : List Line = board_lines v board ++ behind_d in
    takes_then T old a new (lines.Header v ∷ []) (lines.Rom rom_len ∷ behind_b) r to_a
    (takes_then T a b new (lines.Rom rom_len ∷ []) behind_b r to_b
    (takes_then T b d new (board_lines v board) behind_d r to_d
    (takes_then T d e new (lines.Stack region ∷ []) behind_e r to_e
    (takes_one T e new (lines.Budget budget) r form takes))))

-- the lines of the lists are read
pub takes_lists : (T : Type 0) (old a b d e new : ReaderView) (procs : List Proc) (splits : List Split) (inlines : List ℕ)
    (cells : List KeptCell) (rows : List Row) (r : Result T CertFault) → lines_read a ≡ lines_read old ++ map lines.Proc procs →
    lines_read b ≡ lines_read a ++ map lines.Split splits → lines_read d ≡ lines_read b ++ map lines.Inline inlines →
    lines_read e ≡ lines_read d ++ map lines.Cell cells → TakesLines e (map lines.Row rows) r new →
    TakesLines old
    (map lines.Proc procs ++ (map lines.Split splits ++ (map lines.Inline inlines ++ (map lines.Cell cells ++ map lines.Row rows))))
    r new
takes_lists T old a b d e new procs splits inlines cells rows r to_a to_b to_d to_e takes =
    let behind_d : List Line = map lines.Cell cells ++ map lines.Row rows in
    let behind_b : List Line = map lines.Inline inlines ++ behind_d in
    let behind_a : List Line = map lines.Split splits ++ behind_b in
    takes_then T old a new (map lines.Proc procs) behind_a r to_a
    (takes_then T a b new (map lines.Split splits) behind_b r to_b
    (takes_then T b d new (map lines.Inline inlines) behind_d r to_d
    (takes_then T d e new (map lines.Cell cells) (map lines.Row rows) r to_e takes)))

-- after the first elements of a list, the next one was refused
pub stops_behind : {X : Type 0} (F : X → Line) (T : Type 0) (xs before after : List X) (x : X) (old now new : ReaderView)
    (fault : CertFault) → xs ≡ before ++ x ∷ after → lines_read now ≡ lines_read old ++ map F before → IsProgress now →
    TakesLine {T = T} now (F x) (Err fault) new → StopsAt old (map F xs) fault
stops_behind F T xs before after x old now new fault parts read form takes =
    subst (λ ls. StopsAt old ls fault) (sym (ap (map F) parts ∙ map-append F before (x ∷ after)))
    (stops_at T old now new (map F before) (map F after) (F x) fault read form takes)

-- the same by its place
pub stops_in : {X : Type 0} (F : X → Line) (T : Type 0) (xs : List X) (i : ℕ) (d x : X) (old now new : ReaderView)
    (fault : CertFault) → i < length xs → get_or xs i d ≡ x → lines_read now ≡ lines_read old ++ map F (take i xs) →
    IsProgress now → TakesLine {T = T} now (F x) (Err fault) new → StopsAt old (map F xs) fault
stops_in F T xs i d x old now new fault within is read form takes =
    let parts = sym (take-append-drop i xs)
    ∙ ap (λ ys. take i xs ++ ys) (drop-cons xs i d within ∙ ap (λ y. y ∷ drop (suc i) xs) is) in
    stops_behind F T xs (take i xs) (drop (suc i) xs) x old now new fault parts read form takes

-- a line that is one too many, or has too many parts, is the next one of some certificate if counts may be above their
-- limits
order_next : (p : ReaderView) (line : Line) → IsProgress p → IsLine p.contents.version line → MayFollow p line →
    (IsShortLine line × HasRoomFor p.contents line → ⊥) → (new : ReaderView) × Orders p line new
order_next p (lines.Proc proc) h form may many = (behind_proc p proc, order_proc p proc (ordered p h) form may)
order_next p (lines.Split split) h form may many = (behind_split p split, order_split p split (ordered p h) may)
order_next p (lines.Inline address) h form may many = (behind_inline p address, order_inline p address (ordered p h) may)
order_next p (lines.Cell cell) h form may many = (behind_cell p cell, order_cell p cell (ordered p h) may)
order_next p (lines.Row row) h form may many = (behind_row p row, order_row p row (ordered p h) may)
order_next p (lines.Header v) h form may many = absurd (many (tt, tt))
order_next p (lines.Rom len) h form may many = absurd (many (tt, tt))
order_next p (lines.Board board) h form may many = absurd (many (tt, tt))
order_next p (lines.Stack region) h form may many = absurd (many (tt, tt))
order_next p (lines.Budget budget) h form may many = absurd (many (tt, tt))
order_next p lines.End h form may many = absurd (many (tt, tt))

-- the answer to parts: the certificate that has them, or why none has; nothing is known if memory was refused
abbrev pub IsPartsAnswer : CertificateView → Result CertificateView CertFault → Type 0
IsPartsAnswer parts (Ok c) = (c ≡ parts) × IsInForm c
IsPartsAnswer parts (Err (faults.Line n)) = IsFirstBadPart n parts
IsPartsAnswer parts (Err faults.Limit) = HasTooManyParts parts
IsPartsAnswer parts (Err faults.NoMemory) = Unit {0}

-- the lines of the parts up to the next one, which is refused
module _ (parts : CertificateView) (p : ReaderView) (line : Line) (after : List Line) (form : IsProgress p)
    (whole : lines_of parts ≡ lines_read p ++ line ∷ after) where
  within_parts : suc (length (lines_read p)) ≤ length (lines_of parts)
  within_parts = omega (arith, ap length whole, length-append (lines_read p) (line ∷ after))

  -- the first lines are those that were read and this one
  first_parts : take (suc (length (lines_read p))) (lines_of parts) ≡ lines_read p ++ line ∷ []
  first_parts = ap (take (suc (length (lines_read p)))) (whole ∙ sym (append_assoc (lines_read p) (line ∷ []) after))
      ∙ take_at (lines_read p ++ line ∷ []) after (suc (length (lines_read p)))
      (omega (arith, length-append (lines_read p) (line ∷ [])))

  -- the lines that were read begin a certificate in form
  parts_before : BeginsAs IsInForm (suc (length (lines_read p)) - 1) parts
  parts_before =
      let c = completes p (ordered p form) in
      let count : length (lines_read p) ≡ suc (length (lines_read p)) - 1 = omega arith in
      subst (λ n. BeginsAs IsInForm n parts) count record {
        certificate = c.0;
        form = completion_in_form p c.0 form c.1;
        within = omega (arith, within_parts);
        begins = completion_begins p c.0 c.1
            ∙ sym (ap (take (length (lines_read p))) whole ∙ take_at (lines_read p) (line ∷ after) (length (lines_read p)) refl);
      }

  -- this line is the next one of each certificate that begins so
  next_part : (c : CertificateView) → IsCertificate c →
      take (suc (length (lines_read p))) (lines_of c) ≡ take (suc (length (lines_read p))) (lines_of parts) → IsNext p c line
  next_part c certificate begins = goes_on p c line form certificate (begins ∙ first_parts)

  bad_part : (IsLine p.contents.version line → MayFollow p line → ⊥) → IsFirstBadPart (suc (length (lines_read p))) parts
  bad_part bad = record {
    before = parts_before;
    within = within_parts;
    bad = λ begins.
        let next = next_part begins.certificate begins.form begins.begins in
        bad next.form_here next.may_follow;
  }

  too_many_parts : IsLine p.contents.version line → MayFollow p line → (IsShortLine line × HasRoomFor p.contents line → ⊥) →
      HasTooManyParts parts
  too_many_parts is may many =
      let order = order_next p line form is may many in
      let c = completes order.0 order.1.1 in
      let front = lines_read p ++ line ∷ [] in
      record {
        number = suc (length (lines_read p));
        before = parts_before;
        form = record {
          certificate = c.0;
          form = c.1.certificate;
          within = within_parts;
          begins = ap (take (suc (length (lines_read p)))) (c.1.lines ∙ ap (λ ls. ls ++ c.1.rest) order.1.0)
              ∙ take_at front c.1.rest (suc (length (lines_read p))) (omega (arith, length-append (lines_read p) (line ∷ [])))
              ∙ sym first_parts;
        };
        many = λ begins.
            let next = next_part begins.certificate begins.form.certificate begins.begins in
            let room = next.room begins.form.limits in
            many (room.1, room.0);
      }

  refused_here : (fault : CertFault) → TakesLine {T = Unit {0}} p line (Err fault) p → IsPartsAnswer parts (Err fault)
  refused_here (faults.Line n) takes = subst (λ m. IsFirstBadPart m parts) (sym takes.0) (bad_part takes.1)
  refused_here faults.Limit takes = too_many_parts takes.0 takes.1 takes.2
  refused_here faults.NoMemory takes = tt

-- one of the lines of the parts was refused
pub refused_part : (parts : CertificateView) (first : ReaderView) (fault : CertFault) → lines_read first ≡ [] →
    StopsAt first (lines_of parts) fault → IsPartsAnswer parts (Err fault)
refused_part parts first fault none stops =
    let read : stops.before ≡ lines_read stops.at = sym (stops.read ∙ ap (λ ls. ls ++ stops.before) none) in
    refused_here parts stops.at stops.line stops.after stops.form
    (stops.parts ∙ ap (λ ls. ls ++ stops.line ∷ stops.after) read) fault stops.refused

-- all of them were read
pub all_parts_read : (parts : CertificateView) (first p : ReaderView) (r : Result CertificateView CertFault) → lines_read first ≡ [] →
    lines_read p ≡ lines_read first ++ lines_of parts → IsProgress p → EndsReading p r → IsPartsAnswer parts r
all_parts_read parts first p (Ok c) none read form ends =
    let whole = sym (read ∙ ap (λ ls. ls ++ lines_of parts) none) in
    (ends.1 ∙ ends_with p parts whole, subst IsInForm (sym ends.1) (whole_in_form p form ends.0))
all_parts_read parts first p (Err fault) none read form ends =
    let whole = sym (read ∙ ap (λ ls. ls ++ lines_of parts) none) in
    absurd (ends.1 (ends_at p parts whole))

-- what an answer means
pub parts_ok : (parts : CertificateView) (r : Result CertificateView CertFault) → IsPartsAnswer parts r →
    IfOk r (λ c. (c ≡ parts) × IsInForm c)
parts_ok parts (Ok c) is = is
parts_ok parts (Err fault) is = tt

pub parts_only : (parts : CertificateView) (r : Result CertificateView CertFault) → IsPartsAnswer parts r → IsInForm parts →
    IsOkUnless r faults.NoMemory
parts_only parts (Ok c) is form = tt
parts_only parts (Err (faults.Line n)) is form =
    absurd (is.bad record { certificate = parts; form = form.certificate; within = is.within; begins = refl })
parts_only parts (Err faults.Limit) is form =
    absurd (is.many record { certificate = parts; form = form; within = is.form.within; begins = refl })
parts_only parts (Err faults.NoMemory) is form = refl

pub parts_line : (parts : CertificateView) (r : Result CertificateView CertFault) → IsPartsAnswer parts r → (n : ℕ) →
    r ≡ Err (faults.Line n) → IsFirstBadPart n parts
parts_line parts r is n e = subst (IsPartsAnswer parts) e is

pub parts_limit : (parts : CertificateView) (r : Result CertificateView CertFault) → IsPartsAnswer parts r → r ≡ Err faults.Limit →
    HasTooManyParts parts
parts_limit parts r is e = subst (IsPartsAnswer parts) e is
