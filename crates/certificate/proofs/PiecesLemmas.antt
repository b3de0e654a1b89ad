-- The text that a source gives in pieces, and the answer to it.
use Rattle.std.proofs.Common.{◌≡◌, ◌≢◌, ◌<◌, ◌≤◌, ◌==◌, ◌+◌, ◌⊎◌, inl, inr, ℕ, suc, Bool, true, false, IsTrue, if◌then◌else◌, ◌∷◌, [], ◌++◌, List, length, Option, Some, None, IfSome, IsSome, Result, Ok, Err, refl, sym, ap, subst, ◌∙◌, arith, append_assoc, append-nil, length-append}
use Rattle.std.specs.List.{AllByRecursion, slice_split}
use Rattle.std.proofs.lemmas.Bool.{ne_eqb}
use Rattle.std.proofs.lemmas.List.{length-map}
use Rattle.std.proofs.lemmas.List.Elements.{All-from_recursion}
use Rattle.std.proofs.lemmas.List.Splits.{slice_split_at, slice_split_none}
use Rattle.cert_lines.specs.Line.{fields_of}
use Rattle.cert_lines.specs.declared.line.Line.{Line}
use Rattle.cert_lines.specs.declared.version.BoardMap.{BoardMap}
use Rattle.cert_lines.specs.declared.version.BoardMap.TheVariants.{Galaxian, Raised}
use Rattle.cert_lines.specs.declared.version.Version.{Version}
use Rattle.cert_lines.specs.declared.version.Version.TheVariants.{One, Two, Three}
use Rattle.cert_form.specs.Contents.{CertificateView}
use Rattle.cert_form.specs.Form.{IsInForm}
use Rattle.cert_form.specs.Text.{HasTooMany, IsFirstBadLine, board_lines, lines_of, text_of, text_of_lines}
use Rattle.cert_form.specs.Reader.{EndsReading, IsProgress, ReaderView, TakesText, lines_before, lines_read}
use Rattle.cert_form.specs.declared.fault.CertFault.{CertFault}
use Rattle.cert_form.specs.declared.fault.CertFault.TheVariants as text_faults
use Rattle.cert_form.proofs.Cuts.{text_none}
use Rattle.cert_form.proofs.Completes.{completes, completion_within}
use Rattle.cert_form.proofs.Order.{ordered}
use Rattle.cert_form.proofs.Texts.{HasLine, Stands, stands_next}
use Rattle.certificate.specs.Pieces.{GivesAll, GivesSome, IsReadUnless, OfBytes, read_fault}
use Rattle.certificate.specs.declared.pieces.ReadFault.TheVariants as faults
use Rattle.certificate.proofs.ReadingLemmas.{IsAnswer, answer_only, ended, refused, too_long, unended}
use Rattle.texts.specs.Device.{DeviceState, Gives, GivesBytes, IsAtEnd}
use Rattle.texts.specs.Fields.{fields_in}
use Rattle.texts.specs.Incoming.{EndsWell, HasNoFeed, IsLineTaken, IsTooLong, IsUnended, TakesNone, IncomingView, left_bytes, unread_of}
use Rattle.texts.proofs.DeviceLemmas.{gives_both, gives_none}

-- a source gave the text of the lines that were read, and these are in form
pub record HasGiven (first : DeviceState) (p : ReaderView) (now : DeviceState) : Type 0 where
  pub given : Gives first (text_of_lines p.contents.version (lines_read p)) now
  pub form : IsProgress p

no_feed_tests : (text : List ℕ) → HasNoFeed text → AllByRecursion (λ b. (b == 10) ≡ false) text
no_feed_tests [] none = tt
no_feed_tests (b ∷ text) none = (ne_eqb b 10 none.0, no_feed_tests text none.1)

-- bytes without a line feed are before one
has_line : (rest text after : List ℕ) → HasNoFeed text → rest ≡ text ++ 10 ∷ after → HasLine rest text after
has_line rest text after none e = record {
  text = e;
  parts = ap (slice_split (λ b. b == 10)) e
      ∙ slice_split_at (λ b. b == 10) text 10 after (All-from_recursion _ _ (no_feed_tests text none)) refl;
}

-- without a line feed a text is one part
one_part : (text : List ℕ) → HasNoFeed text → slice_split (λ b. b == 10) text ≡ text ∷ []
one_part text none = slice_split_none (λ b. b == 10) text (All-from_recursion _ _ (no_feed_tests text none))

-- no line was read yet
pub gave_none : (first now : DeviceState) (p : ReaderView) → lines_read p ≡ [] → IsProgress p → now ≡ first →
    HasGiven first p now
gave_none first now p none form same =
    let v = p.contents.version in
    let empty : text_of_lines v (lines_read p) ≡ [] = ap (text_of_lines v) none ∙ sym (append-nil (text_of_lines v []))
    ∙ text_none v [] in
    record {
      given = subst (λ (s : DeviceState). Gives first (text_of_lines v (lines_read p)) s) (sym same)
          (subst (λ (t : List ℕ). Gives first t first) (sym empty) (gives_none first));
      form = form;
    }

-- one more line was read
pub gave_line : (longest : ℕ) (first mid after : DeviceState) (old new : ReaderView) (text : List ℕ) (line : Line) →
    HasGiven first old mid → IsLineTaken longest mid text after →
    fields_in text ≡ fields_of old.contents.version line → lines_read new ≡ lines_read old ++ line ∷ [] → IsProgress new →
    HasGiven first new after
gave_line longest first mid after old new text line has next same e form =
    let before = text_of_lines old.contents.version (lines_read old) in
    let stands : Stands (before ++ (text ++ 10 ∷ [])) old (text ++ 10 ∷ []) = record { text = refl; form = has.form } in
    let more = stands_next (before ++ (text ++ 10 ∷ [])) (text ++ 10 ∷ []) text [] old new line stands
    (has_line (text ++ 10 ∷ []) text [] next.no_feed refl) same e form in
    record {
      given = subst (λ (t : List ℕ). Gives first t after) (more.text ∙ append-nil (text_of_lines new.contents.version (lines_read new)))
          (gives_both first mid after before (text ++ 10 ∷ []) has.given next.given);
      form = form;
    }

-- if the lines that were read are followed by such a rest, and the property then holds, it holds of the source's bytes
of_bytes : (first now : DeviceState) (p : ReaderView) (Rest P : List ℕ → Type 0) → HasGiven first p now →
    ((bytes rest : List ℕ) → Rest rest → Stands bytes p rest → P bytes) →
    (some : List ℕ) → Rest some → ((rest : List ℕ) → now.bytes ≡ Some rest → Rest rest) → OfBytes first.bytes P
of_bytes first now p Rest P has holds some is each = by_bytes first.bytes now.bytes has.given.given each
  where
    by_bytes : (all left : Option (List ℕ)) → GivesBytes all (text_of_lines p.contents.version (lines_read p)) left →
        ((rest : List ℕ) → left ≡ Some rest → Rest rest) → OfBytes all P
    by_bytes None left given each =
        let bytes = text_of_lines p.contents.version (lines_read p) ++ some in
        (bytes, holds bytes some is record { text = refl; form = has.form })
    by_bytes (Some bytes) left (rest, same, parts) each =
        holds bytes rest (each rest same) record { text = parts; form = has.form }

-- this is the answer to the bytes of a source
abbrev pub IsSourceAnswer : DeviceState → Result CertificateView CertFault → Type 0
IsSourceAnswer first r = OfBytes first.bytes (λ bytes. IsAnswer bytes r)

-- what the source had before it gave these bytes
rest_of : (left : Option (List ℕ)) (bytes : List ℕ) (after : Option (List ℕ)) → GivesBytes left bytes after → (rest : List ℕ) →
    left ≡ Some rest → (more : List ℕ) × (rest ≡ bytes ++ more)
rest_of left bytes after given rest is =
    let (more, _, parts) = subst (λ (o : Option (List ℕ)). GivesBytes o bytes after) is given in
    (more, parts)

-- a list that ends in another one is at least as long
no_fewer : (more text rest : List ℕ) → rest ≡ text ++ more → 0 < length text → 0 < length rest
no_fewer more text rest parts some = omega (arith, some, ap length parts, length-append text more)

no_bytes : (text rest : List ℕ) → 0 < length rest → text ++ rest ≡ [] → ⊥
no_bytes text rest some none = omega (arith, some, ap length none, length-append text rest)

-- a source that gave some bytes after the lines that were read has bytes
pub source_some : (first mid after : DeviceState) (p : ReaderView) (text : List ℕ) → HasGiven first p mid → Gives mid text after →
    0 < length text → OfBytes first.bytes (λ bytes. bytes ≢ [])
source_some first mid after p text has next some =
    of_bytes first mid p (λ rest. 0 < length rest) (λ bytes. bytes ≢ []) has
    (λ bytes rest more stands none.
    no_bytes (text_of_lines p.contents.version (lines_read p)) rest more (sym stands.text ∙ none))
    text some
    (λ rest is.
    let (more, parts) = rest_of mid.bytes text after.bytes next.given rest is in
    no_fewer more text rest parts some)

-- the next line was refused
pub refused_line : (T : Type 0) (first mid after : DeviceState) (p new : ReaderView) (text : List ℕ) (fault : CertFault) →
    HasGiven first p mid → IsLineTaken 1048575 mid text after → TakesText {T = T} p text (Err fault) new →
    IsSourceAnswer first (Err fault)
refused_line T first mid after p new text fault has next takes =
    of_bytes first mid p (λ rest. (more : List ℕ) × (rest ≡ (text ++ 10 ∷ []) ++ more)) (λ bytes. IsAnswer bytes (Err fault)) has
    (λ bytes rest parts stands.
    refused T bytes p new rest text parts.0 fault stands
    (has_line rest text parts.0 next.no_feed (parts.1 ∙ append_assoc text (10 ∷ []) parts.0))
    (omega (arith, next.short)) takes)
    (text ++ 10 ∷ []) ([], sym (append-nil (text ++ 10 ∷ [])))
    (rest_of mid.bytes (text ++ 10 ∷ []) after.bytes next.given.given)

-- no fault of a text is one of reading
pub never_read : (fault : CertFault) → read_fault fault ≡ faults.Read → ⊥
never_read (text_faults.Line n) same = cc
never_read text_faults.Limit same = cc
never_read text_faults.NoMemory same = cc

-- the next line is too long, or it is the last one and lacks its line feed
pub bad_end : (first mid after : DeviceState) (p : ReaderView) (fault : CertFault) →
    HasGiven first p mid → IsTooLong 1048575 mid after ⊎ IsUnended 1048575 mid after →
    fault ≡ text_faults.Line (suc (length (lines_read p))) → IsSourceAnswer first (Err fault)
bad_end first mid after p fault has (inl long) same =
    of_bytes first mid p (λ rest. (more : List ℕ) × (rest ≡ long.text ++ more)) (λ bytes. IsAnswer bytes (Err fault)) has
    (λ bytes rest parts stands.
    too_long bytes p rest fault stands
    record {
      part = long.text;
      others = parts.0;
      text = parts.1;
      long = omega (arith, long.long);
      no_lf = no_feed_tests long.text long.no_feed;
    }
    same)
    long.text ([], sym (append-nil long.text)) (rest_of mid.bytes long.text after.bytes long.given.given)
bad_end first mid after p fault has (inr last) same =
    of_bytes first mid p (λ rest. last.text ≡ rest) (λ bytes. IsAnswer bytes (Err fault)) has
    (λ bytes rest all stands.
    unended bytes p rest fault stands
    (subst (λ (t : List ℕ). slice_split (λ b. b == 10) t ≡ t ∷ []) all (one_part last.text last.no_feed))
    (λ none. omega (arith, last.some, ap length (all ∙ none))) same)
    last.text refl (λ rest is. subst (λ (o : Option (List ℕ)). IfSome o (λ b. last.text ≡ b)) is last.all)

-- no line is left
pub all_read : (first mid after : DeviceState) (p : ReaderView) (r : Result CertificateView CertFault) →
    HasGiven first p mid → TakesNone mid after → EndsReading p r → IsSourceAnswer first r
all_read first mid after p r has none ends =
    of_bytes first mid p (λ rest. rest ≡ []) (λ bytes. IsAnswer bytes r) has
    (λ bytes rest no_rest stands. ended bytes p rest r stands no_rest ends)
    [] refl (λ rest is. subst (λ (o : Option (List ℕ)). IfSome o (λ b. b ≡ [])) is none.1)

-- where the source has the text of a certificate, the answer is the one to this text
at_text : (first : DeviceState) (r : Result CertificateView CertFault) → IsSourceAnswer first r → (c : CertificateView) →
    first.bytes ≡ Some (text_of c) → IsAnswer (text_of c) r
at_text first r is c same = subst (λ (o : Option (List ℕ)). OfBytes o (λ bytes. IsAnswer bytes r)) same is

-- a certificate in form whose text the source has is read, unless memory runs out
pub source_only : (first : DeviceState) (fault : CertFault) → IsSourceAnswer first (Err fault) → (c : CertificateView) → IsInForm c →
    first.bytes ≡ Some (text_of c) → IsReadUnless (Err (read_fault fault)) c
source_only first fault is c form same = by_fault fault (at_text first (Err fault) is c same)
  where
    by_fault : (fault : CertFault) → IsAnswer (text_of c) (Err fault) → IsReadUnless (Err (read_fault fault)) c
    by_fault (text_faults.Line n) is = is.1 c form refl
    by_fault text_faults.Limit is = is.1 c form refl
    by_fault text_faults.NoMemory is = tt

-- and as this certificate
pub source_same : (first : DeviceState) (d : CertificateView) → IsSourceAnswer first (Ok d) → (c : CertificateView) → IsInForm c →
    first.bytes ≡ Some (text_of c) → d ≡ c
source_same first d is c form same = (answer_only (text_of c) (Ok d) (at_text first (Ok d) is c same) c form refl).1

of_weaker : (o : Option (List ℕ)) (P Q : List ℕ → Type 0) → ((bytes : List ℕ) → P bytes → Q bytes) → OfBytes o P → OfBytes o Q
of_weaker None P Q weaker is = (is.0, weaker is.0 is.1)
of_weaker (Some bytes) P Q weaker is = weaker bytes is

-- the fault has the number of the first bad line
pub source_line : (first : DeviceState) (fault : CertFault) → IsSourceAnswer first (Err fault) → (n : ℕ) →
    read_fault fault ≡ faults.Line n → OfBytes first.bytes (IsFirstBadLine n)
source_line first (text_faults.Line m) is n same =
    let number : m ≡ n = cc in
    of_weaker first.bytes _ _ (λ bytes told. subst (λ k. IsFirstBadLine k bytes) number told.0) is
source_line first text_faults.Limit is n same = absurd (cc)
source_line first text_faults.NoMemory is n same = absurd (cc)

-- the fault is the first line that has or is one too many
pub source_limit : (first : DeviceState) (fault : CertFault) → IsSourceAnswer first (Err fault) →
    read_fault fault ≡ faults.Limit → OfBytes first.bytes HasTooMany
source_limit first (text_faults.Line m) is same = absurd (cc)
source_limit first text_faults.Limit is same = of_weaker first.bytes _ _ (λ bytes told. told.0) is
source_limit first text_faults.NoMemory is same = absurd (cc)

no_parts : (xs ys : List ℕ) → xs ++ ys ≡ [] → ys ≡ []
no_parts [] ys e = e
no_parts (x ∷ xs) ys e = cc

-- if no bytes are left, unused or in the source, the source has none
none_left : (unused : List ℕ) (over : Bool) (rest : List ℕ) → (IsTrue over → rest ≡ []) →
    unused ++ (if over then [] else rest) ≡ [] → rest ≡ []
none_left unused true rest at_end none = at_end refl
none_left unused false rest at_end none = no_parts unused rest none

all_used : (unused : IncomingView) (left : Option (List ℕ)) → (IsTrue unused.ended → IfSome left (λ rest. rest ≡ [])) →
    left_bytes unused left ≡ Some [] → left ≡ Some []
all_used unused None at_end none = cc
all_used unused (Some rest) at_end none =
    let parts : unused.bytes ++ (if unused.ended then [] else rest) ≡ [] = cc in
    ap Some (none_left unused.bytes unused.ended rest at_end parts)

-- if nothing is left of the unused bytes and of the source, what it gave is all that it had
gave_bytes : (all mid : Option (List ℕ)) (source : DeviceState) (unused : IncomingView) (text : List ℕ) → GivesBytes all text mid →
    GivesBytes mid [] (left_bytes unused source.bytes) → IfSome mid (λ rest. rest ≡ []) →
    (IsSome all → EndsWell unused source) → GivesBytes all text source.bytes × (IsSome all → IsAtEnd source)
gave_bytes None mid source unused text given none at_end well = (tt, λ (told : IsSome {T = List ℕ} None). absurd (cc))
gave_bytes (Some bytes) mid source unused text (rest, is, parts) none at_end well =
    let no_rest : rest ≡ [] = subst (λ (o : Option (List ℕ)). IfSome o (λ b. b ≡ [])) is at_end in
    let (left, same, split) = subst (λ (o : Option (List ℕ)). GivesBytes o [] (left_bytes unused source.bytes)) is none in
    let ended = all_used unused source.bytes (well refl).at_end (same ∙ ap Some (sym split ∙ no_rest)) in (
      ([], ended, parts ∙ ap (λ b. text ++ b) no_rest),
      λ _. subst (λ (o : Option (List ℕ)). IfSome o (λ b. b ≡ [])) (sym ended) refl,
    )

-- the source gave the whole text of the certificate that was read
pub gave_all : (first mid source : DeviceState) (unused : IncomingView) (p : ReaderView) (c : CertificateView) → HasGiven first p mid →
    TakesNone mid (unread_of unused source) → (IsSome first.bytes → EndsWell unused source) → EndsReading p (Ok c) →
    GivesAll first (text_of c) source
gave_all first mid source unused p c has none well ends =
    let text : text_of_lines p.contents.version (lines_read p) ≡ text_of c =
    ap (λ s. text_of_lines p.contents.version (lines_before s p.contents)) ends.0 ∙ ap text_of (sym ends.1) in
    let given = gave_bytes first.bytes mid.bytes source unused (text_of c)
    (subst (λ (t : List ℕ). GivesBytes first.bytes t mid.bytes) text has.given.given) none.0.given none.1 well in
    record { given = record { given = given.0; quiet = none.0.quiet ∙ has.given.quiet }; all = given.1 }

-- what is left after the unused bytes, if nothing is left once the end was read
what_is_left : (ended : Bool) (rest : List ℕ) → (IsTrue ended → rest ≡ []) → (if ended then [] else rest) ≡ rest
what_is_left true rest at_end = sym (at_end refl)
what_is_left false rest at_end = refl

-- the unused bytes were given too
with_unused : (bytes left text : List ℕ) (unused : IncomingView) → bytes ≡ text ++ left → (o : Option (List ℕ)) → IsSome o →
    (IsTrue unused.ended → IfSome o (λ rest. rest ≡ [])) → left_bytes unused o ≡ Some left →
    GivesBytes (Some bytes) (text ++ unused.bytes) o
with_unused bytes left text unused parts None told at_end is = absurd (cc)
with_unused bytes left text unused parts (Some rest) told at_end is =
    let same : unused.bytes ++ (if unused.ended then [] else rest) ≡ left = cc in
    let all = ap (λ r. unused.bytes ++ r) (what_is_left unused.ended rest at_end) in
    (rest, refl, parts ∙ ap (λ b. text ++ b) (sym same ∙ all) ∙ sym (append_assoc text unused.bytes rest))

gave_part : (all : Option (List ℕ)) (source : DeviceState) (unused : IncomingView) (text : List ℕ) →
    GivesBytes all text (left_bytes unused source.bytes) → (IsSome all → EndsWell unused source) →
    GivesBytes all (text ++ unused.bytes) source.bytes
gave_part None source unused text given well = tt
gave_part (Some bytes) source unused text (left, is, parts) well =
    with_unused bytes left text unused parts source.bytes (well refl).told (well refl).at_end is

-- the source gave the lines that were read, these bytes, and those that are unused
pub gave_some : (first mid source : DeviceState) (unused : IncomingView) (p : ReaderView) (text : List ℕ) → HasGiven first p mid →
    Gives mid text (unread_of unused source) → (IsSome first.bytes → EndsWell unused source) → GivesSome first source
gave_some first mid source unused p text has next well =
    let lines = text_of_lines p.contents.version (lines_read p) in
    let both = gives_both first mid (unread_of unused source) lines text has.given next in (
      (lines ++ text) ++ unused.bytes,
      record { given = gave_part first.bytes source unused (lines ++ text) both.given well; quiet = both.quiet },
    )

length-board_lines : (v : Version) (b : BoardMap) → length (board_lines v b) ≤ 1
length-board_lines One Galaxian = omega arith
length-board_lines One Raised = omega arith
length-board_lines Two b = omega arith
length-board_lines Three b = omega arith

-- a certificate has at most six lines besides those of its lists
length-lines_of : (c : CertificateView) → length (lines_of c)
    ≤ 6 + (length c.procs + (length c.splits + (length c.inlines + (length c.cells + length c.rows))))
length-lines_of c = simp (length-append, length-map) (omega (arith, length-board_lines c.version c.board))

-- a certificate in form has few lines, so the loop ends even for a source without an end
pub few_lines : (p : ReaderView) → IsProgress p → length (lines_read p) < 70000
few_lines p form =
    let whole = completes p (ordered p form) in
    let c = whole.0 in
    let limits = whole.1.limits form.limits in
    omega (
      arith,
      completion_within p c whole.1,
      length-lines_of c,
      limits.procs,
      limits.splits,
      limits.inlines,
      limits.cells,
      limits.rows,
    )
