-- The terms of a linear determine its three places.
use Rattle.std.specs.Prelude.{◌≡◌, ℕ, ◌-◌, ◌≤◌, List, length, take, replicate, ℤ}
use Rattle.std.proofs.Common.{arith, sym, ◌∙◌, ap, length-append}
use Rattle.std.proofs.Math.ListN.{length-replicate, length-take}
use Rattle.loop_bounds.specs.declared.linear.Term.{Term}
use Rattle.loop_bounds.specs.declared.linear.Linear.TheInside.{Inside}
use Rattle.loop_bounds.specs.Linear.{IsStored, padded, padding}

length-padded : (ts : List Term) → length ts ≤ 3 → length (padded ts) ≡ 3
length-padded ts h = omega (arith, length-append ts (replicate (3 - length ts) padding), length-replicate (3 - length ts) padding)

pub length-stored : (c : ℤ) (terms : List Term) (count : ℕ) → IsStored c terms count → length terms ≡ 3
length-stored c terms count h = ap length h.rest ∙ length-padded (take count terms) h.linear.count

pub length-front : (c : ℤ) (terms : List Term) (count : ℕ) → IsStored c terms count → length (take count terms) ≡ count
length-front c terms count h = omega (arith, length-take count terms, length-stored c terms count h, h.within)

pub padded_again : (c : ℤ) (terms : List Term) (count : ℕ) → IsStored c terms count → (let again : Inside = record { constant = c; terms = padded (take count terms); count = length (take count terms) } in again) ≡ record { constant = c; terms = terms; count = count }
padded_again c terms count h =
    ap (λ (ts : List Term). let i : Inside = record { constant = c; terms = ts; count = length (take count terms) } in i) (sym h.rest)
    ∙ ap (λ (n : ℕ). let i : Inside = record { constant = c; terms = terms; count = n } in i) (length-front c terms count h)
