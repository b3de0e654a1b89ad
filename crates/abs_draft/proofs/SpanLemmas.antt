-- The least and the greatest of some bytes, in any order.
use Rattle.std.proofs.Common.{◌≡◌, ℕ, ◌+◌, ◌<◌, List, [], ◌∷◌, drop, length, get_or, min, max, arith, sym, ◌∙◌, ap}
use Rattle.std.proofs.lemmas.List.{drop_more}
use Rattle.abs_draft.specs.Ground.{least_of, greatest_of}

least_past : (least byte : ℕ) (bytes : List ℕ) → least_of (min least byte) bytes ≡ min byte (least_of least bytes)
unfolding least_of
least_past least byte [] = omega arith
least_past least byte (next ∷ bytes) = omega (arith, least_past least byte bytes)

greatest_past : (greatest byte : ℕ) (bytes : List ℕ) → greatest_of (max greatest byte) bytes ≡ max byte (greatest_of greatest bytes)
unfolding greatest_of
greatest_past greatest byte [] = omega arith
greatest_past greatest byte (next ∷ bytes) = omega (arith, greatest_past greatest byte bytes)

pub least_step : (least : ℕ) (bytes : List ℕ) (place : ℕ) → place < length bytes → least_of (min least (get_or bytes place 0)) (drop (place + 1) bytes) ≡ least_of least (drop place bytes)
unfolding least_of
least_step least bytes place inside =
    least_past least (get_or bytes place 0) (drop (place + 1) bytes) ∙ sym (ap (least_of least) (drop_more bytes place 0 inside))

pub greatest_step : (greatest : ℕ) (bytes : List ℕ) (place : ℕ) → place < length bytes → greatest_of (max greatest (get_or bytes place 0)) (drop (place + 1) bytes) ≡ greatest_of greatest (drop place bytes)
unfolding greatest_of
greatest_step greatest bytes place inside =
    greatest_past greatest (get_or bytes place 0) (drop (place + 1) bytes) ∙ sym (ap (greatest_of greatest) (drop_more bytes place 0 inside))
