-- A line is judged when enough of it was read.
use Rattle.std.proofs.Common.{◌≡◌, ◌+◌, inl, inr, ℕ, Bool, true, false, IsTrue, IfSome, if◌then◌else◌, List, [], ◌∷◌, ◌++◌, Option, Some, None, IsSome, length, map, refl, sym, ap, subst, ◌∙◌, append_assoc, arith, length-append}
use Rattle.std.specs.List.{AllByRecursion}
use Rattle.texts.specs.Device.{DeviceState, GivesBytes}
use Rattle.runner.specs.Input.{IsResetLine, IsEnvLine, reset_text, env_text}
use Rattle.texts.specs.Incoming.{IncomingView, EndsWell, HasNoFeed, IsEnough, TakesEnough, left_bytes, unread_of}
use Rattle.runner.specs.Playing.{WasJudged, env_lines_text, with_feeds}
use Rattle.runner.specs.declared.input.EnvLine.{EnvLine}
use Rattle.runner.specs.declared.input.ResetLine.{ResetLine}
use Rattle.runner.proofs.InputLemmas.{no_feed_env, no_feed_reset}

-- ---- all that was read

nothing : (xs ys : List ℕ) → xs ++ ys ≡ [] → ys ≡ []
nothing xs [] e = refl
nothing xs (y ∷ ys) e = absurd (omega (arith, ap length e, length-append xs (y ∷ ys)))

-- what is left of an input is what was read and not used, and what the source still has
left_is : (bytes rest : List ℕ) (ended : Bool) → (IsTrue ended → rest ≡ []) → bytes ++ (if ended then [] else rest) ≡ bytes ++ rest
left_is bytes rest true none = ap (λ (r : List ℕ). bytes ++ r) (sym (none refl))
left_is bytes rest false none = refl

unread_in : (all text : List ℕ) (unused : IncomingView) (rest : Option (List ℕ)) (left : List ℕ) → left_bytes unused rest ≡ Some left → all ≡ text ++ left → (IsTrue unused.ended → IfSome rest (λ b. b ≡ [])) →
    GivesBytes (Some all) (text ++ unused.bytes) rest
unread_in all text unused None left kept parts ended = cc
unread_in all text unused (Some rest) left kept parts ended =
    let same : unused.bytes ++ (if unused.ended then [] else rest) ≡ left = inner _ _ kept in
    let both : unused.bytes ++ rest ≡ left = sym (left_is unused.bytes rest unused.ended ended) ∙ same in
    (rest, refl, parts ∙ ap (λ (l : List ℕ). text ++ l) (sym both) ∙ sym (append_assoc text unused.bytes rest))
  where
    inner : (a b : List ℕ) → (let o : Option (List ℕ) = Some a in o) ≡ Some b → a ≡ b
    inner a b e = cc

-- all that a source gave is what was used and what was not
pub given_in_all : (old : Option (List ℕ)) (text : List ℕ) (unused : IncomingView) (source : DeviceState) → GivesBytes old text (unread_of unused source).bytes → (IsSome old → EndsWell unused source) →
    GivesBytes old (text ++ unused.bytes) source.bytes
given_in_all None text unused source given ends = tt
given_in_all (Some all) text unused source (left, kept, parts) ends = unread_in all text unused source.bytes left kept parts (ends refl).at_end

more_enough : (line unused rest left : List ℕ) → unused ++ rest ≡ left → IsEnough 30 line (left ≡ []) → IsEnough 30 (line ++ unused) (rest ≡ [])
more_enough line unused rest left e (inl (text, more, is)) =
    inl (text, more ++ unused, ap (λ (l : List ℕ). l ++ unused) is ∙ append_assoc text (10 ∷ more) unused)
more_enough line unused rest left e (inr (inl long)) = inr (inl (omega (arith, long, length-append line unused)))
more_enough line unused rest left e (inr (inr none)) = inr (inr (nothing unused rest (e ∙ none)))

judged_in : (number : ℕ) (all : List ℕ) (lines : List (List ℕ)) (unused : IncomingView) (rest : Option (List ℕ)) (line left bytes : List ℕ) → all ≡ with_feeds lines ++ bytes → AllByRecursion HasNoFeed lines →
    number ≡ length lines + 1 → bytes ≡ line ++ left → left_bytes unused rest ≡ Some left → (IsTrue unused.ended → IfSome rest (λ b. b ≡ [])) → IsEnough 30 line (left ≡ []) → WasJudged number (Some all) rest
judged_in number all lines unused None line left bytes whole each is parts kept ended enough = cc
judged_in number all lines unused (Some rest) line left bytes whole each is parts kept ended enough =
    let same : unused.bytes ++ (if unused.ended then [] else rest) ≡ left = inner _ _ kept in
    let both : unused.bytes ++ rest ≡ left = sym (left_is unused.bytes rest unused.ended ended) ∙ same in (
      rest,
      refl,
      record {
        lines = lines;
        line = line ++ unused.bytes;
        each = each;
        number_is = is;
        parts =
            whole ∙ ap (λ (b : List ℕ). with_feeds lines ++ b) (parts ∙ ap (λ (l : List ℕ). line ++ l) (sym both) ∙ sym (append_assoc line unused.bytes rest))
            ∙ sym (append_assoc (with_feeds lines) (line ++ unused.bytes) rest);
        enough = more_enough line unused.bytes rest left both enough;
      },
    )
  where
    inner : (a b : List ℕ) → (let o : Option (List ℕ) = Some a in o) ≡ Some b → a ≡ b
    inner a b e = cc

-- where nothing is left, everything was read
all_taken : (line left bytes : List ℕ) → bytes ≡ line ++ left → IsEnough 30 line (line ≡ bytes) → IsEnough 30 line (left ≡ [])
all_taken line left bytes parts (inl feed) = inl feed
all_taken line left bytes parts (inr (inl long)) = inr (inl long)
all_taken line left bytes parts (inr (inr all)) = inr (inr (no_more line left (all ∙ parts)))
  where
    no_more : (xs ys : List ℕ) → xs ≡ xs ++ ys → ys ≡ []
    no_more xs [] e = refl
    no_more xs (y ∷ ys) e = absurd (omega (arith, ap length e, length-append xs (y ∷ ys)))

judged_from : (number : ℕ) (all bytes : List ℕ) (lines : List (List ℕ)) (unused : IncomingView) (rest : Option (List ℕ)) (line : List ℕ) → all ≡ with_feeds lines ++ bytes → AllByRecursion HasNoFeed lines →
    number ≡ length lines + 1 → GivesBytes (Some bytes) line (left_bytes unused rest) → IsEnough 30 line (line ≡ bytes) → (IsTrue unused.ended → IfSome rest (λ b. b ≡ [])) → WasJudged number (Some all) rest
judged_from number all bytes lines unused rest line whole each is (left, kept, parts) enough ended =
    judged_in number all lines unused rest line left bytes whole each is parts kept ended (all_taken line left bytes parts enough)

-- a line after others was judged
pub judged : (number : ℕ) (old : Option (List ℕ)) (mid : DeviceState) (lines : List (List ℕ)) (unused : IncomingView) (source : DeviceState) → GivesBytes old (with_feeds lines) mid.bytes → AllByRecursion HasNoFeed lines →
    number ≡ length lines + 1 → TakesEnough 30 mid (unread_of unused source) → (IsSome old → EndsWell unused source) → WasJudged number old source.bytes
judged number None mid lines unused source given each is takes ends = tt
judged number (Some all) mid lines unused source (bytes, mid_is, whole) each is takes ends =
    judged_from number all bytes lines unused source.bytes takes.line whole each is
    (subst (λ (o : Option (List ℕ)). GivesBytes o takes.line (left_bytes unused source.bytes)) mid_is takes.given.given)
    (subst (λ (o : Option (List ℕ)). IsEnough 30 takes.line (IfSome o (λ b. takes.line ≡ b))) mid_is takes.enough)
    (ends refl).at_end

-- ---- the lines that were played

texts_are : (lines : List EnvLine) → with_feeds (map (λ line. env_text line) lines) ≡ env_lines_text lines
texts_are [] = refl
texts_are (l ∷ lines) = ap (λ (rest : List ℕ). (env_text l ++ 10 ∷ []) ++ rest) (texts_are lines)

texts_feedless : (lines : List EnvLine) → AllByRecursion IsEnvLine lines → AllByRecursion HasNoFeed (map (λ line. env_text line) lines)
texts_feedless [] form = tt
texts_feedless (l ∷ lines) form = (no_feed_env l form.0, texts_feedless lines form.1)

texts_count : (lines : List EnvLine) → length (map (λ line. env_text line) lines) ≡ length lines
texts_count [] = refl
texts_count (l ∷ lines) = omega (arith, texts_count lines)

-- a line after a reset line and lines of environments was judged
pub judged_later : (number : ℕ) (old : Option (List ℕ)) (mid : DeviceState) (reset : ResetLine) (lines : List EnvLine) (unused : IncomingView) (source : DeviceState) → GivesBytes old (reset_text reset ++ 10 ∷ env_lines_text lines) mid.bytes →
    IsResetLine reset → AllByRecursion IsEnvLine lines → number ≡ length lines + 2 → TakesEnough 30 mid (unread_of unused source) → (IsSome old → EndsWell unused source) → WasJudged number old source.bytes
judged_later number old mid reset lines unused source given reset_form form is takes ends =
    let all = reset_text reset ∷ map (λ line. env_text line) lines in
    let text : reset_text reset ++ 10 ∷ env_lines_text lines ≡ with_feeds all =
    sym (append_assoc (reset_text reset) (10 ∷ []) (env_lines_text lines)) ∙ ap (λ (t : List ℕ). (reset_text reset ++ 10 ∷ []) ++ t) (sym (texts_are lines)) in
    judged number old mid all unused source (subst (λ (t : List ℕ). GivesBytes old t mid.bytes) text given) (no_feed_reset reset reset_form, texts_feedless lines form)
    (omega (arith, is, texts_count lines)) takes ends
