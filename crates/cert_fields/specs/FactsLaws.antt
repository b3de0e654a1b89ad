-- The four places for facts are determined by the facts.
use Rattle.std.specs.Prelude.{◌≡◌, ℕ, ◌-◌, ◌≤◌, List, length, take, replicate}
use Rattle.std.proofs.Common.{arith, sym, ◌∙◌, ap, length-append}
use Rattle.std.proofs.Math.ListN.{length-replicate, length-take}
use Rattle.loop_bounds.specs.Linear.{LinearView}
use Rattle.cert_fields.specs.declared.facts.Facts.TheInside.{Inside}
use Rattle.cert_fields.specs.Facts.{AreStored, padded_facts, padding_fact}

length-padded-facts : (facts : List LinearView) → length facts ≤ 4 → length (padded_facts facts) ≡ 4
length-padded-facts facts h =
    omega (arith, length-append facts (replicate (4 - length facts) padding_fact), length-replicate (4 - length facts) padding_fact)

pub length-facts-front : (facts : List LinearView) (count : ℕ) → AreStored facts count → length (take count facts) ≡ count
length-facts-front facts count h =
    let short = length-take count facts in
    let four = ap length h.rest ∙ length-padded-facts (take count facts) (omega (arith, short, h.within)) in
    omega (arith, short, four, h.within)

pub length-stored-facts : (facts : List LinearView) (count : ℕ) → AreStored facts count → length facts ≡ 4
length-stored-facts facts count h =
    ap length h.rest ∙ length-padded-facts (take count facts) (omega (arith, length-facts-front facts count h, h.within))

abbrev inside : List LinearView → ℕ → Inside
inside facts count = record { facts = facts; count = count }

pub padded_facts_again : (facts : List LinearView) (count : ℕ) → AreStored facts count
    → inside (padded_facts (take count facts)) (length (take count facts)) ≡ inside facts count
padded_facts_again facts count h =
    ap (λ fs. inside fs (length (take count facts))) (sym h.rest) ∙ ap (λ n. inside facts n) (length-facts-front facts count h)
