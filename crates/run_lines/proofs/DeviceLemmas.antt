-- One text written after another.
use Rattle.std.proofs.Common.{ℕ, List, [], ◌++◌, Option, Some, None, Result, Ok, Err, refl, sym, ap, subst, ◌∙◌, append_assoc}
use Rattle.std.proofs.lemmas.List.{append-nil}
use Rattle.texts.specs.Device.{DeviceState, FailsAmid, HasGrown, Puts, Takes, TakesBytes, TakesPart}
use Rattle.texts.proofs.DeviceLemmas.{takes_both}

taken_none : (a : Option (List ℕ)) → TakesBytes a [] a
taken_none None = tt
taken_none (Some old) = ap (λ (bytes : List ℕ). Some bytes) (sym (append-nil old))

-- if nothing is written, nothing is taken
pub takes_none : (a : DeviceState) → Takes a [] a
takes_none a = record { taken = taken_none a.bytes; quiet = refl }

part_behind : (a b c : Option (List ℕ)) (xs ys : List ℕ) → TakesBytes a xs b → TakesPart b ys c → TakesPart a (xs ++ ys) c
part_behind None b c xs ys p q = tt
part_behind (Some old) b c xs ys p q =
    let (part, rest, is, parts) = subst (λ (o : Option (List ℕ)). TakesPart o ys c) p q in
    (xs ++ part, rest, is ∙ ap (λ (bytes : List ℕ). Some bytes) (append_assoc old xs part), ap (λ (bytes : List ℕ). xs ++ bytes) parts ∙ sym (append_assoc xs part rest))

-- a text was written, and one after it was, or the sink failed inside it
pub fails_behind : (a b c : DeviceState) (xs ys : List ℕ) → Takes a xs b → FailsAmid b ys c → FailsAmid a (xs ++ ys) c
fails_behind a b c xs ys p q = record { part = part_behind a.bytes b.bytes c.bytes xs ys p.taken q.part; failed = subst (λ (n : ℕ). HasGrown n c.failures) p.quiet q.failed }

pub puts_behind : {T E : Type 0} (a b c : DeviceState) (xs ys : List ℕ) (r : Result T E) → Takes a xs b → Puts b ys r c → Puts a (xs ++ ys) r c
puts_behind a b c xs ys (Ok x) p q = takes_both a b c xs ys p q
puts_behind a b c xs ys (Err x) p q = fails_behind a b c xs ys p q
