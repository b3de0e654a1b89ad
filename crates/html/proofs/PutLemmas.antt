-- Texts that are put one after another are put as one text, or a prefix of it is.
use Rattle.std.proofs.Common.{◌≡◌, ◌+◌, ℕ, List, [], ◌++◌, take, drop, get_or, slice_get, Option, Some, None, Result, Ok, Err, refl, sym, ap, subst, ◌∙◌, append_assoc, append-nil}
use Rattle.std.specs.List.{flat_map}
use Rattle.std.proofs.lemmas.List.{flat_map_more, take-append-drop, take_more}
use Rattle.std.proofs.lemmas.List.Concat.{flat_map-append}
use Rattle.std.proofs.lemmas.Option.{get_or_from_slice_get, slice_get_within}
use Rattle.texts.specs.Device.{DeviceState, FailsAmid, HasGrown, Puts, Takes, TakesBytes, TakesPart}
use Rattle.texts.proofs.DeviceLemmas.{takes_both}

-- the sink took the first bytes and a prefix of the second ones
part_behind : (a b c : Option (List ℕ)) (xs ys : List ℕ) → TakesBytes a xs b → TakesPart b ys c → TakesPart a (xs ++ ys) c
part_behind None b c xs ys first second = tt
part_behind (Some old) b c xs ys first second =
    let (part, rest, taken, parts) = subst (λ o. TakesPart o ys c) first second in (
      xs ++ part,
      rest,
      taken ∙ ap (λ bytes. Some bytes) (append_assoc old xs part),
      ap (λ bytes. xs ++ bytes) parts ∙ sym (append_assoc xs part rest),
    )

-- a prefix of the first bytes is a prefix of all of them
part_before : (a b : Option (List ℕ)) (xs ys : List ℕ) → TakesPart a xs b → TakesPart a (xs ++ ys) b
part_before None b xs ys first = tt
part_before (Some old) b xs ys (part, rest, taken, parts) =
    (part, rest ++ ys, taken, ap (λ bytes. bytes ++ ys) parts ∙ append_assoc part rest ys)

-- a sink took the first bytes and failed inside the second ones
pub fails_behind : (a b c : DeviceState) (xs ys : List ℕ) → Takes a xs b → FailsAmid b ys c → FailsAmid a (xs ++ ys) c
fails_behind a b c xs ys first second = record {
  part = part_behind a.bytes b.bytes c.bytes xs ys first.taken second.part;
  failed = subst (λ n. HasGrown n c.failures) first.quiet second.failed;
}

-- the first bytes were taken, and the second ones were put
pub puts_behind : {T E : Type 0} (a b c : DeviceState) (xs ys : List ℕ) (r : Result T E) → Takes a xs b → Puts b ys r c →
    Puts a (xs ++ ys) r c
puts_behind a b c xs ys (Ok x) first second = takes_both a b c xs ys first second
puts_behind a b c xs ys (Err e) first second = fails_behind a b c xs ys first second

-- a sink that failed inside the first bytes failed inside all of them
pub fails_before : (a b : DeviceState) (xs ys : List ℕ) → FailsAmid a xs b → FailsAmid a (xs ++ ys) b
fails_before a b xs ys first =
    record { part = part_before a.bytes b.bytes xs ys first.part; failed = first.failed }

-- no byte was put
pub takes_none : (a : DeviceState) → Takes a [] a
takes_none a = record { taken = no_bytes a.bytes; quiet = refl }
  where
    no_bytes : (a : Option (List ℕ)) → TakesBytes a [] a
    no_bytes None = tt
    no_bytes (Some old) = ap (λ bytes. Some bytes) (sym (append-nil old))

-- the texts of the elements up to this one are those before it, and its own
one_more : {X : Type 0} (text : X → List ℕ) (xs : List X) (i : ℕ) (x : X) → slice_get xs i ≡ Some x →
    flat_map text (take i xs) ++ text x ≡ flat_map text (take (i + 1) xs)
one_more text xs i x at =
    ap (λ y. flat_map text (take i xs) ++ text y) (sym (get_or_from_slice_get xs i x x at))
    ∙ flat_map_more text [] (take i xs) (get_or xs i x)
    ∙ ap (flat_map text) (sym (take_more xs i x (slice_get_within xs i x at)))

-- the text of one more element was put
pub takes_more : {X : Type 0} (text : X → List ℕ) (xs : List X) (i : ℕ) (x : X) (bytes : List ℕ) (a b c : DeviceState) →
    slice_get xs i ≡ Some x → bytes ≡ text x → Takes a (flat_map text (take i xs)) b → Takes b bytes c →
    Takes a (flat_map text (take (i + 1) xs)) c
takes_more text xs i x bytes a b c at is first second =
    subst (λ all. Takes a all c) (ap (λ one. flat_map text (take i xs) ++ one) is ∙ one_more text xs i x at)
    (takes_both a b c _ bytes first second)

-- a sink that failed inside the text of one more element failed inside the texts of all
pub fails_at : {X : Type 0} (text : X → List ℕ) (xs : List X) (i : ℕ) (x : X) (bytes : List ℕ) (a b c : DeviceState) →
    slice_get xs i ≡ Some x → bytes ≡ text x → Takes a (flat_map text (take i xs)) b → FailsAmid b bytes c →
    FailsAmid a (flat_map text xs) c
fails_at text xs i x bytes a b c at is first second =
    let here = subst (λ all. FailsAmid a all c) (ap (λ one. flat_map text (take i xs) ++ one) is ∙ one_more text xs i x at)
    (fails_behind a b c _ bytes first second) in
    subst (λ all. FailsAmid a all c)
    (sym (flat_map-append text (take (i + 1) xs) (drop (i + 1) xs)) ∙ ap (flat_map text) (take-append-drop (i + 1) xs))
    (fails_before a c _ _ here)
