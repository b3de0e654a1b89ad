-- Lines that are gathered one after another.
use Rattle.std.proofs.Common.{◌≡◌, ◌+◌, ℕ, List, [], ◌++◌, take, drop, slice_get, Some, Result, refl, sym, ap, subst, ◌∙◌, append_assoc, append-nil}
use Rattle.std.specs.List.{flat_map}
use Rattle.std.proofs.lemmas.List.{take-append-drop}
use Rattle.std.proofs.lemmas.List.Concat.{flat_map-append}
use Rattle.certificate.proofs.WritingLemmas.{fails_before, fails_behind, one_more, puts_behind, takes_none}
use Rattle.texts.specs.Device.{DeviceState, FailsAmid, Puts}
use Rattle.texts.proofs.DeviceLemmas.{takes_both}
use Rattle.command_verdicts.specs.Gathered.{Gathered}

-- nothing was written yet
pub gathered_alone : (a : DeviceState) (text : List ℕ) → Gathered a text a text
gathered_alone a text = record { gone = []; taken = takes_none a; all = refl }

-- no more bytes
pub gathered_nothing : (a : DeviceState) (before : List ℕ) → Gathered a (before ++ []) a before
gathered_nothing a before = subst (λ text. Gathered a text a before) (sym (append-nil before)) (gathered_alone a before)

-- three texts in a row, and the first two as they were written
regrouped : (before xs ys gone left : List ℕ) → before ++ xs ≡ gone ++ left → gone ++ (left ++ ys) ≡ before ++ (xs ++ ys)
regrouped before xs ys gone left all =
    sym (append_assoc gone left ys) ∙ ap (λ text. text ++ ys) (sym all) ∙ append_assoc before xs ys

-- bytes were gathered after others
pub gathered_then : (a b c : DeviceState) (before xs between ys after : List ℕ) → Gathered a (before ++ xs) b between →
    Gathered b (between ++ ys) c after → Gathered a (before ++ (xs ++ ys)) c after
gathered_then a b c before xs between ys after first second = record {
  gone = first.gone ++ second.gone;
  taken = takes_both a b c first.gone second.gone first.taken second.taken;
  all = sym (regrouped before xs ys first.gone between first.all)
      ∙ ap (λ text. first.gone ++ text) second.all ∙ sym (append_assoc first.gone second.gone after);
}

-- the sink failed inside bytes after those that were gathered
pub gathered_then_fails : (a b c : DeviceState) (before xs between ys : List ℕ) → Gathered a (before ++ xs) b between →
    FailsAmid b (between ++ ys) c → FailsAmid a (before ++ (xs ++ ys)) c
gathered_then_fails a b c before xs between ys first failed =
    subst (λ text. FailsAmid a text c) (regrouped before xs ys first.gone between first.all)
    (fails_behind a b c first.gone (between ++ ys) first.taken failed)

-- the sink failed inside the first bytes
pub fails_first : (a b : DeviceState) (before xs ys : List ℕ) → FailsAmid a (before ++ xs) b → FailsAmid a (before ++ (xs ++ ys)) b
fails_first a b before xs ys failed =
    subst (λ text. FailsAmid a text b) (append_assoc before xs ys) (fails_before a b (before ++ xs) ys failed)

-- what was still gathered was written
pub put_at_last : {T E : Type 0} (a b c : DeviceState) (text left : List ℕ) (r : Result T E) → Gathered a text b left →
    Puts b left r c → Puts a text r c
put_at_last a b c text left r gathered put =
    subst (λ all. Puts a all r c) (sym gathered.all) (puts_behind a b c gathered.gone left r gathered.taken put)

-- the text of one more element was gathered
pub gathered_more : {X : Type 0} (text : X → List ℕ) (xs : List X) (i : ℕ) (x : X) (bytes : List ℕ) (a b c : DeviceState) (before between after : List ℕ) →
    slice_get xs i ≡ Some x → bytes ≡ text x → Gathered a (before ++ flat_map text (take i xs)) b between →
    Gathered b (between ++ bytes) c after → Gathered a (before ++ flat_map text (take (i + 1) xs)) c after
gathered_more text xs i x bytes a b c before between after at is first second =
    subst (λ all. Gathered a (before ++ all) c after) (ap (λ one. flat_map text (take i xs) ++ one) is ∙ one_more text xs i x at)
    (gathered_then a b c before (flat_map text (take i xs)) between bytes after first second)

-- the sink failed inside the text of one more element, and so inside those of all
pub fails_at_more : {X : Type 0} (text : X → List ℕ) (xs : List X) (i : ℕ) (x : X) (bytes : List ℕ) (a b c : DeviceState) (before between : List ℕ) →
    slice_get xs i ≡ Some x → bytes ≡ text x → Gathered a (before ++ flat_map text (take i xs)) b between →
    FailsAmid b (between ++ bytes) c → FailsAmid a (before ++ flat_map text xs) c
fails_at_more text xs i x bytes a b c before between at is first failed =
    let here = subst (λ all. FailsAmid a (before ++ all) c) (ap (λ one. flat_map text (take i xs) ++ one) is ∙ one_more text xs i x at)
    (gathered_then_fails a b c before (flat_map text (take i xs)) between bytes first failed) in
    subst (λ all. FailsAmid a (before ++ all) c)
    (sym (flat_map-append text (take (i + 1) xs) (drop (i + 1) xs)) ∙ ap (flat_map text) (take-append-drop (i + 1) xs))
    (fails_first a c before (flat_map text (take (i + 1) xs)) (flat_map text (drop (i + 1) xs)) here)
