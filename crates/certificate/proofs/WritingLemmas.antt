-- Lines that are written one after another are written as one text, or a prefix of it is.
use Rattle.std.proofs.Common.{arith, ◌≡◌, ◌<◌, ◌+◌, false, ℕ, zero, suc, length, List, [], ◌∷◌, ◌++◌, map, take, drop, get_or, slice_get, Option, Some, None, Result, Ok, Err, refl, sym, ap, subst, ◌∙◌, append_assoc, append-nil}
use Rattle.std.specs.List.{flat_map}
use Rattle.std.proofs.lemmas.Bool.{false≢true}
use Rattle.std.proofs.lemmas.List.{flat_map_more, take-append-drop, take_more}
use Rattle.std.proofs.lemmas.List.Concat.{flat_map-append}
use Rattle.std.proofs.lemmas.Option.{get_or_from_slice_get, slice_get_within}
use Rattle.cert_lines.specs.Line.{fed_line, fields_of}
use Rattle.cert_lines.specs.declared.line.Line.{Line}
use Rattle.cert_lines.specs.declared.line.Line.TheVariants as lines
use Rattle.cert_lines.specs.declared.version.Version.{Version}
use Rattle.cert_lines.specs.declared.version.Version.TheVariants.{One, Two, Three}
use Rattle.cert_lines.specs.Version.{names_board}
use Rattle.cert_form.specs.Contents.{CertificateView}
use Rattle.cert_form.specs.Form.{SuitsVersion}
use Rattle.cert_form.specs.Text.{board_lines, text_of_lines}
use Rattle.cert_form.proofs.Cuts.{text_append}
use Rattle.texts.specs.Device.{DeviceState, FailsAmid, HasGrown, Puts, Takes, TakesBytes, TakesPart}
use Rattle.texts.proofs.DeviceLemmas.{takes_both}

-- a line that no version spells in its own way
abbrev pub IsNoRow : Line → Type 0
IsNoRow (lines.Row row) = ⊥
IsNoRow _ = Unit {0}

-- the text of such a line is the same in each version
pub same_text : (v w : Version) (line : Line) → IsNoRow line → fed_line v line ≡ fed_line w line
unfolding fields_of
same_text v w (lines.Header version) no_row = refl
same_text v w (lines.Rom len) no_row = refl
same_text v w (lines.Board board) no_row = refl
same_text v w (lines.Stack region) no_row = refl
same_text v w (lines.Budget budget) no_row = refl
same_text v w (lines.Proc proc) no_row = refl
same_text v w (lines.Split split) no_row = refl
same_text v w (lines.Inline address) no_row = refl
same_text v w (lines.Cell cell) no_row = refl
same_text v w (lines.Row row) no_row = absurd no_row
same_text v w lines.End no_row = refl

-- the sink took the first bytes and a prefix of the second ones
part_behind : (a b c : Option (List ℕ)) (xs ys : List ℕ) → TakesBytes a xs b → TakesPart b ys c → TakesPart a (xs ++ ys) c
part_behind None b c xs ys first second = tt
part_behind (Some old) b c xs ys first second =
    let (part, rest, taken, parts) = subst (λ o. TakesPart o ys c) first second in (
      xs ++ part,
      rest,
      taken ∙ ap (λ bytes. Some bytes) (append_assoc old xs part),
      ap (λ bytes. xs ++ bytes) parts ∙ sym (append_assoc xs part rest),
    )

-- a prefix of the first bytes is a prefix of all of them
part_before : (a b : Option (List ℕ)) (xs ys : List ℕ) → TakesPart a xs b → TakesPart a (xs ++ ys) b
part_before None b xs ys first = tt
part_before (Some old) b xs ys (part, rest, taken, parts) =
    (part, rest ++ ys, taken, ap (λ bytes. bytes ++ ys) parts ∙ append_assoc part rest ys)

-- a sink took the first bytes and failed inside the second ones
pub fails_behind : (a b c : DeviceState) (xs ys : List ℕ) → Takes a xs b → FailsAmid b ys c → FailsAmid a (xs ++ ys) c
fails_behind a b c xs ys first second = record {
  part = part_behind a.bytes b.bytes c.bytes xs ys first.taken second.part;
  failed = subst (λ n. HasGrown n c.failures) first.quiet second.failed;
}

-- the first bytes were taken, and the second ones were put
pub puts_behind : {T E : Type 0} (a b c : DeviceState) (xs ys : List ℕ) (r : Result T E) → Takes a xs b → Puts b ys r c →
    Puts a (xs ++ ys) r c
puts_behind a b c xs ys (Ok x) first second = takes_both a b c xs ys first second
puts_behind a b c xs ys (Err e) first second = fails_behind a b c xs ys first second

-- a sink that failed inside the first bytes failed inside all of them
pub fails_before : (a b : DeviceState) (xs ys : List ℕ) → FailsAmid a xs b → FailsAmid a (xs ++ ys) b
fails_before a b xs ys first =
    record { part = part_before a.bytes b.bytes xs ys first.part; failed = first.failed }

-- the first lines were taken, and the second ones were put
pub lines_then : {T E : Type 0} (v : Version) (a b c : DeviceState) (xs ys : List Line) (r : Result T E) →
    Takes a (text_of_lines v xs) b → Puts b (text_of_lines v ys) r c → Puts a (text_of_lines v (xs ++ ys)) r c
lines_then v a b c xs ys r first second =
    subst (λ text. Puts a text r c) (sym (text_append v xs ys)) (puts_behind a b c _ _ r first second)

-- a sink took the first lines and failed inside the second ones
pub lines_then_fail : (v : Version) (a b c : DeviceState) (xs ys : List Line) → Takes a (text_of_lines v xs) b →
    FailsAmid b (text_of_lines v ys) c → FailsAmid a (text_of_lines v (xs ++ ys)) c
lines_then_fail v a b c xs ys first second =
    subst (λ text. FailsAmid a text c) (sym (text_append v xs ys)) (fails_behind a b c _ _ first second)

-- a sink that failed inside the first lines failed inside all of them
pub lines_fail : (v : Version) (a b : DeviceState) (xs ys : List Line) → FailsAmid a (text_of_lines v xs) b →
    FailsAmid a (text_of_lines v (xs ++ ys)) b
lines_fail v a b xs ys first =
    subst (λ text. FailsAmid a text b) (sym (text_append v xs ys)) (fails_before a b _ _ first)

-- the text of one line
line_alone : (v : Version) (line : Line) → fed_line v line ≡ text_of_lines v (line ∷ [])
unfolding text_of_lines
line_alone v line = sym (append-nil (fed_line v line))

-- one line was put
pub puts_line : {T E : Type 0} (v : Version) (a b : DeviceState) (line : Line) (bytes : List ℕ) (r : Result T E) →
    bytes ≡ fed_line v line → Puts a bytes r b → Puts a (text_of_lines v (line ∷ [])) r b
puts_line v a b line bytes r is put = subst (λ text. Puts a text r b) (is ∙ line_alone v line) put

-- no byte was put
pub takes_none : (a : DeviceState) → Takes a [] a
takes_none a = record { taken = no_bytes a.bytes; quiet = refl }
  where
    no_bytes : (a : Option (List ℕ)) → TakesBytes a [] a
    no_bytes None = tt
    no_bytes (Some old) = ap (λ bytes. Some bytes) (sym (append-nil old))

-- no line was put
pub puts_nothing : (v : Version) (a : DeviceState) → Takes a (text_of_lines v []) a
unfolding text_of_lines
puts_nothing v a = takes_none a

-- version 1 has no line of the board's map
pub no_board_line : (v : Version) (c : CertificateView) → SuitsVersion v c → names_board v ≡ false → [] ≡ board_lines v c.board
no_board_line One c old other = ap (board_lines One) (sym old.board)
no_board_line Two c any other = absurd (false≢true (sym other))
no_board_line Three c any other = absurd (false≢true (sym other))

-- the texts of the elements up to this one are those before it, and its own
pub one_more : {X : Type 0} (text : X → List ℕ) (xs : List X) (i : ℕ) (x : X) → slice_get xs i ≡ Some x →
    flat_map text (take i xs) ++ text x ≡ flat_map text (take (i + 1) xs)
one_more text xs i x at =
    ap (λ y. flat_map text (take i xs) ++ text y) (sym (get_or_from_slice_get xs i x x at))
    ∙ flat_map_more text [] (take i xs) (get_or xs i x)
    ∙ ap (flat_map text) (sym (take_more xs i x (slice_get_within xs i x at)))

-- the text of one more element was put
pub takes_more : {X : Type 0} (text : X → List ℕ) (xs : List X) (i : ℕ) (x : X) (bytes : List ℕ) (a b c : DeviceState) →
    slice_get xs i ≡ Some x → bytes ≡ text x → Takes a (flat_map text (take i xs)) b → Takes b bytes c →
    Takes a (flat_map text (take (i + 1) xs)) c
takes_more text xs i x bytes a b c at is first second =
    subst (λ all. Takes a all c) (ap (λ one. flat_map text (take i xs) ++ one) is ∙ one_more text xs i x at)
    (takes_both a b c _ bytes first second)

-- a sink that failed inside the text of one more element failed inside the texts of all
pub fails_at : {X : Type 0} (text : X → List ℕ) (xs : List X) (i : ℕ) (x : X) (bytes : List ℕ) (a b c : DeviceState) →
    slice_get xs i ≡ Some x → bytes ≡ text x → Takes a (flat_map text (take i xs)) b → FailsAmid b bytes c →
    FailsAmid a (flat_map text xs) c
fails_at text xs i x bytes a b c at is first second =
    let here = subst (λ all. FailsAmid a all c) (ap (λ one. flat_map text (take i xs) ++ one) is ∙ one_more text xs i x at)
    (fails_behind a b c _ bytes first second) in
    subst (λ all. FailsAmid a all c)
    (sym (flat_map-append text (take (i + 1) xs) (drop (i + 1) xs)) ∙ ap (flat_map text) (take-append-drop (i + 1) xs))
    (fails_before a c _ _ here)

-- where there is an element, it is not missing
pub none_missing : {X : Type 0} (xs : List X) (i : ℕ) → None ≡ slice_get xs i → i < length xs → ⊥
none_missing [] i none within = omega (arith, within)
none_missing (x ∷ xs) zero none within = cc
none_missing (x ∷ xs) (suc i) none within = none_missing xs i none (omega (arith, within))

-- the lines of the elements of a list are a text, whatever the version that spells them
pub list_text : {X : Type 0} (v w : Version) (line_of : X → Line) (xs : List X) →
    ((x : X) → fed_line v (line_of x) ≡ fed_line w (line_of x)) →
    flat_map (λ x. fed_line v (line_of x)) xs ≡ text_of_lines w (map line_of xs)
unfolding text_of_lines
list_text v w line_of [] same = refl
list_text v w line_of (x ∷ xs) same =
    ap (λ bytes. bytes ++ flat_map (λ x. fed_line v (line_of x)) xs) (same x)
    ∙ ap (λ bytes. fed_line w (line_of x) ++ bytes) (list_text v w line_of xs same)

-- the lines of the elements of a list were put
pub puts_list : {X T E : Type 0} (v w : Version) (line_of : X → Line) (xs ys : List X) (a b : DeviceState) (r : Result T E) →
    ((x : X) → fed_line v (line_of x) ≡ fed_line w (line_of x)) → ys ≡ xs →
    Puts a (flat_map (λ x. fed_line v (line_of x)) ys) r b → Puts a (text_of_lines w (map line_of xs)) r b
puts_list v w line_of xs ys a b r same are put = subst (λ text. Puts a text r b)
    (ap (flat_map (λ x. fed_line v (line_of x))) are ∙ list_text v w line_of xs same) put
