use Rattle.std.proofs.Common.{rules, ◌≡◌, ℕ, [], ◌∷◌, true, false, set, inl, inr, arith, sym, ◌∙◌, ap, length, refl, length-set, get_or-set_other}
use Rattle.std.proofs.lemmas.List.{get_or-set_same}
use Rattle.std.proofs.lemmas.Bool.{cases_eq}
use Rattle.std.proofs.lemmas.Grind.{common_steps}
use Rattle.call_graph.specs.Cycle.{seen_at}
use Rattle.call_graph.proofs.CycleLemmas.{search_begun}
use Rattle.call_graph.proofs.cycle.begin.Goals as goal

pub returns-clause-searched : goal.returns-clause-searched
returns-clause-searched c = λ calls.
    let start : ℕ = c.args.start in
    let seen = c.in_ok-seen.seen.items in
    let pushed : c.push.new.self.items ≡ (record { proc = start; from = 0; far = 0 }) ∷ [] = grind (arith, common_steps) in
    let written : (p : ℕ) → seen_at (set seen start true) p ≡ true → p ≡ start =
    λ p yes. elim (cases_eq p start) [
      | inl e ↦ e
      | inr ne ↦ absurd (let x = sym (get_or-set_other seen start p true false ne) ∙ yes in let y = c.in_ok-seen.ensures.none p in cc)
    ] in
    rw (c.from.ensures, pushed) (search_begun calls start (set seen start true) (record { proc = start; from = 0; far = 0 })
    (length-set seen start true ∙ search rules) refl refl refl written (get_or-set_same seen start true false (search rules)))

pub returns-clause-first : goal.returns-clause-first
returns-clause-first c = λ i some inside.
    let start : ℕ = c.args.start in
    let pushed : c.push.new.self.items ≡ (record { proc = start; from = 0; far = 0 }) ∷ [] = grind (arith, common_steps) in
    let long : length c.push.new.self.items ≡ 1 = ap length pushed in
    absurd (omega arith)
