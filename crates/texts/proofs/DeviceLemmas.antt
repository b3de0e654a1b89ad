use Rattle.std.proofs.Common.{◌≡◌, ℕ, List, [], ◌++◌, IfSome, Option, Some, None, refl, sym, ap, subst, ◌∙◌, append_assoc}
use Rattle.std.proofs.lemmas.List.{append-nil}
use Rattle.texts.specs.Device.{DeviceState, Gives, GivesBytes, IsAtEnd, Takes, TakesBytes, TakesPart}

takes_bytes : (a b c : Option (List ℕ)) (xs ys : List ℕ) → TakesBytes a xs b → TakesBytes b ys c → TakesBytes a (xs ++ ys) c
takes_bytes None b c xs ys p q = tt
takes_bytes (Some old) b c xs ys p q =
    let after : TakesBytes (Some (old ++ xs)) ys c = subst (λ (o : Option (List ℕ)). TakesBytes o ys c) p q in
    after ∙ ap (λ (bytes : List ℕ). Some bytes) (append_assoc old xs ys)

-- two writes in a row are one
pub takes_both : (a b c : DeviceState) (xs ys : List ℕ) → Takes a xs b → Takes b ys c → Takes a (xs ++ ys) c
takes_both a b c xs ys p q = record { taken = takes_bytes a.bytes b.bytes c.bytes xs ys p.taken q.taken; quiet = q.quiet ∙ p.quiet }

pub gives_bytes : (a b c : Option (List ℕ)) (xs ys : List ℕ) → GivesBytes a xs b → GivesBytes b ys c → GivesBytes a (xs ++ ys) c
gives_bytes None b c xs ys p q = tt
gives_bytes (Some old) b c xs ys (left, is, parts) q =
    let (last, ends, more) = subst (λ (o : Option (List ℕ)). GivesBytes o ys c) is q in
    (last, ends, parts ∙ ap (λ (bytes : List ℕ). xs ++ bytes) more ∙ sym (append_assoc xs ys last))

-- two reads in a row are one
pub gives_both : (a b c : DeviceState) (xs ys : List ℕ) → Gives a xs b → Gives b ys c → Gives a (xs ++ ys) c
gives_both a b c xs ys p q = record { given = gives_bytes a.bytes b.bytes c.bytes xs ys p.given q.given; quiet = q.quiet ∙ p.quiet }

gives_no_bytes : (a : Option (List ℕ)) → GivesBytes a [] a
gives_no_bytes None = tt
gives_no_bytes (Some old) = (old, refl, refl)

-- if nothing was read, no byte was given
pub gives_none : (a : DeviceState) → Gives a [] a
gives_none a = record { given = gives_no_bytes a.bytes; quiet = refl }

all_bytes : (a b : Option (List ℕ)) (xs : List ℕ) → GivesBytes a xs b → IfSome b (λ left. left ≡ []) → IfSome a (λ all. xs ≡ all)
all_bytes None b xs p e = tt
all_bytes (Some old) b xs (left, is, parts) e =
    let none : left ≡ [] = subst (λ (o : Option (List ℕ)). IfSome o (λ l. l ≡ [])) is e in
    sym (parts ∙ ap (λ (l : List ℕ). xs ++ l) none ∙ append-nil xs)

-- what a source gave before it was empty is all that it had
pub gives_all : (a b : DeviceState) (xs : List ℕ) → Gives a xs b → IsAtEnd b → IfSome a.bytes (λ all. xs ≡ all)
gives_all a b xs p e = all_bytes a.bytes b.bytes xs p.given e

part_bytes : (a b c : Option (List ℕ)) (xs ys : List ℕ) → TakesBytes a xs b → TakesPart b ys c → TakesPart a (xs ++ ys) c
part_bytes None b c xs ys p q = tt
part_bytes (Some old) b c xs ys p q =
    let (part, rest, is, parts) = subst (λ (o : Option (List ℕ)). TakesPart o ys c) p q in
    (xs ++ part, rest, is ∙ ap (λ (bytes : List ℕ). Some bytes) (append_assoc old xs part), ap (λ (bytes : List ℕ). xs ++ bytes) parts ∙ sym (append_assoc xs part rest))
