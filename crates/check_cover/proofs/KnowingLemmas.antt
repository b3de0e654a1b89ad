-- What the tests on facts and flag parts say of an arrival, by its version.
use Rattle.std.proofs.Common.{◌≡◌, ◌↔◌, ◌∙◌, Bool, IsTrue, List, [], ◌∷◌, Option, Some, None, refl, sym, subst, arith}
use Rattle.std.specs.List.{All}
use Rattle.abs_state.specs.declared.state.AbsState.{AbsState}
use Rattle.check_claims.specs.Claims.{IsClaimedFact, IsClaimedPart}
use Rattle.check_claims.specs.Source.{StepSourceView}
use Rattle.check_cover.specs.Arrival.{ArrivalView, RefinementView, source_of}
use Rattle.check_cover.specs.Covering.{IsKnownFact, KnowsFact, KnowsPart}
use Rattle.flag_letters.specs.declared.part.FlagPart.{FlagPart}
use Rattle.loop_bounds.specs.Linear.{LinearView}

module _ (a self : ArrivalView) (told : Bool) (is : a ≡ self) where
  of_self : (facts : List LinearView) → (IsTrue told ↔ All (KnowsFact a a.refined) facts) → IsTrue told ↔ All (KnowsFact self self.refined) facts
  of_self facts h = subst (λ (b : ArrivalView). IsTrue told ↔ All (KnowsFact b b.refined) facts) is h

  -- before version 3
  pub facts_before : (facts known : List LinearView) → a.refined ≡ None → known ≡ facts → (IsTrue told ↔ All (IsKnownFact a.facts a.before a.effect) known) →
      IsTrue told ↔ All (KnowsFact self self.refined) facts
  facts_before facts known none same h =
      of_self facts
      (subst (λ (o : Option RefinementView). IsTrue told ↔ All (KnowsFact a o) facts) (sym none)
      (subst (λ (fs : List LinearView). IsTrue told ↔ All (IsKnownFact a.facts a.before a.effect) fs) same h))

  -- in version 3
  pub facts_claimed : (r : RefinementView) (s : StepSourceView) (facts known : List LinearView) → a.refined ≡ Some r → s ≡ source_of self r → known ≡ facts → (IsTrue told ↔ All (IsClaimedFact s) known) →
      IsTrue told ↔ All (KnowsFact self self.refined) facts
  facts_claimed r s facts known some source same h =
      subst (λ (o : Option RefinementView). IsTrue told ↔ All (KnowsFact self o) facts) (sym some ∙ refined_is)
      (subst (λ (t : StepSourceView). IsTrue told ↔ All (IsClaimedFact t) facts) source
      (subst (λ (fs : List LinearView). IsTrue told ↔ All (IsClaimedFact s) fs) same h))
    where
      refined_is : a.refined ≡ self.refined
      refined_is = subst (λ (b : ArrivalView). a.refined ≡ b.refined) is refl

  pub parts_claimed : (r : RefinementView) (s : StepSourceView) (state : AbsState) (parts known : List FlagPart) → a.refined ≡ Some r → s ≡ source_of self r → known ≡ parts → (IsTrue told ↔ All (IsClaimedPart s state) known) →
      IsTrue told ↔ All (KnowsPart self self.refined state) parts
  parts_claimed r s state parts known some source same h =
      subst (λ (o : Option RefinementView). IsTrue told ↔ All (KnowsPart self o state) parts) (sym some ∙ refined_is)
      (subst (λ (t : StepSourceView). IsTrue told ↔ All (IsClaimedPart t state) parts) source
      (subst (λ (ps : List FlagPart). IsTrue told ↔ All (IsClaimedPart s state) ps) same h))
    where
      refined_is : a.refined ≡ self.refined
      refined_is = subst (λ (b : ArrivalView). a.refined ≡ b.refined) is refl

  -- in version 3, whatever the state
  pub parts_told : (r : RefinementView) (s : StepSourceView) (parts known : List FlagPart) → a.refined ≡ Some r → s ≡ source_of self r → known ≡ parts → (state : AbsState) → All (IsClaimedPart s state) known →
      All (KnowsPart self self.refined state) parts
  parts_told r s parts known some source same state h =
      subst (λ (o : Option RefinementView). All (KnowsPart self o state) parts) (sym some ∙ refined_is)
      (subst (λ (t : StepSourceView). All (IsClaimedPart t state) parts) source
      (subst (λ (ps : List FlagPart). All (IsClaimedPart s state) ps) same h))
    where
      refined_is : a.refined ≡ self.refined
      refined_is = subst (λ (b : ArrivalView). a.refined ≡ b.refined) is refl

  -- before version 3 no part is known
  no_part : (state : AbsState) (parts : List FlagPart) → All (KnowsPart a None state) parts → parts ≡ []
  no_part state [] h = refl
  no_part state (p ∷ ps) h = absurd (h 0 p (omega arith))

  pub parts_before : (state : AbsState) (parts known : List FlagPart) → a.refined ≡ None → known ≡ parts → (IsTrue told ↔ (known ≡ [])) →
      IsTrue told ↔ All (KnowsPart self self.refined state) parts
  parts_before state parts known none same h =
      subst (λ (b : ArrivalView). IsTrue told ↔ All (KnowsPart b b.refined state) parts) is
      (subst (λ (o : Option RefinementView). IsTrue told ↔ All (KnowsPart a o state) parts) (sym none) (
        (λ t. subst (All (KnowsPart a None state)) (sym (h.0 t) ∙ same) (λ k d within. absurd (omega (arith, within)))),
        λ all. h.1 (same ∙ no_part state parts all),
      ))
