use Rattle.std.proofs.Common.{rules, ◌≡◌, [], ◌∷◌, List, get_or, refl, ap, subst, ◌∙◌, inl, inr, arith}
use Rattle.std.proofs.lemmas.Bool.{cases_lt}
use Rattle.intervals.specs.declared.reg_pair.RegPair.{RegPair as Name}
use Rattle.intervals.specs.declared.reg_pair.RegPair.TheVariants.{Af, Bc, De, Hl, Ix, Iy, AlternateAf, AlternateBc, AlternateDe, AlternateHl}
use Rattle.intervals.specs.RegPair.{place_of_pair}
use Rattle.nmi_saves.specs.Lost.{IsRestored}
use Rattle.nmi_saves.proofs.restores.Goals as goal

-- the pairs in their order
abbrev pairs : List Name
pairs = Af ∷ Bc ∷ De ∷ Hl ∷ Ix ∷ Iy ∷ AlternateAf ∷ AlternateBc ∷ AlternateDe ∷ AlternateHl ∷ []

-- each pair is at its place
at_place : (pair : Name) → get_or pairs (place_of_pair pair) Af ≡ pair
at_place Af = refl
at_place Bc = refl
at_place De = refl
at_place Hl = refl
at_place Ix = refl
at_place Iy = refl
at_place AlternateAf = refl
at_place AlternateBc = refl
at_place AlternateDe = refl
at_place AlternateHl = refl

pub loop-pair-preserved : goal.loop-pair-preserved
loop-pair-preserved c pair low =
    elim (cases_lt (place_of_pair pair) c.loop-pair.pair-index) [
      | inl before ↦ c.loop-pair.invariant pair before
      | inr after ↦
          let same : c.loop-pair.pair-index ≡ place_of_pair pair = omega arith in
          let here : get_or pairs c.loop-pair.pair-index Af ≡ pair = ap (λ n. get_or pairs n Af) same ∙ at_place pair in
          subst (IsRestored c.args.state.now) here (c.is_restored.ensures.0 (search (rules, c.if-not-is_restored.false)))
    ]
