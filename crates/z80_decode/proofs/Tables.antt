-- Two functions with equal tables are equal at each entry.
use Rattle.std.proofs.Common.{◌≡◌, ℕ, ◌<◌, sym, ◌∙◌, ap, map, get_or, arith}
use Rattle.std.specs.List.{range_with_len}
use Rattle.std.proofs.lemmas.List.FromFn.{get_or-map-range_with_len}

-- at each number below n
pub each_below : {X : Type 0} (f g : ℕ → X) (n : ℕ) → map f (range_with_len 0 n) ≡ map g (range_with_len 0 n) → (k : ℕ) → k < n → f k ≡ g k
each_below f g n same k below =
    sym (get_or-map-range_with_len f 0 n k k (f k) below (omega arith))
    ∙ ap (λ xs. get_or xs k (f k)) same
    ∙ get_or-map-range_with_len g 0 n k k (f k) below (omega arith)
