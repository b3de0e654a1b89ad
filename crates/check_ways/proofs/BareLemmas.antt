-- In version 3 claims that are known back from a call without constants are known back from each exit with the same origins.
use Rattle.std.proofs.Common.{◌≡◌, ℕ, Bool, List, [], ◌∷◌, get_or, Option, Some, None, IfSome, IsSomeAnd, inl, inr, refl, sym, subst, arith}
use Rattle.std.specs.List.{All}
use Rattle.abs_draft.specs.Outcomes.{settled}
use Rattle.abs_state.specs.Entries.{after_call}
use Rattle.abs_state.specs.Variables.{range_of}
use Rattle.abs_state.specs.declared.state.AbsState.{AbsState}
use Rattle.abs_step.specs.declared.next.Next.{Next}
use Rattle.cert_lines.specs.declared.row.Row.{Row}
use Rattle.cert_lines.specs.declared.version.Version.{Version}
use Rattle.cert_lines.specs.declared.version.Version.TheVariants.{Three}
use Rattle.check_claims.proofs.OrLemmas.{rewritten_or, same_effect}
use Rattle.check_claims.specs.Claims.{BecomesZeroEitherWay, IsConveyed}
use Rattle.check_claims.specs.Zeros.{IsZeroBy}
use Rattle.check_cover.proofs.WholeLemmas.{HandsOn}
use Rattle.check_cover.specs.Arrival.{ArrivalView}
use Rattle.check_cover.specs.Covering.{KnowsPart}
use Rattle.check_cover.specs.Whole.{KnowsClaims}
use Rattle.check_cover.specs.declared.program.Callee.{Callee}
use Rattle.check_steps.specs.Returned.{effect_back, effect_by_origins}
use Rattle.check_steps.specs.Told.{refinement_by}
use Rattle.check_tables.specs.Lefts.{HaveOrigins}
use Rattle.check_ways.specs.Parts.{bare_arrival}
use Rattle.check_ways.specs.Ways.{SubjectView, behind_of, return_way}
use Rattle.flag_letters.specs.declared.letter.Letter.{Letter}
use Rattle.flag_letters.specs.declared.part.FlagPart.{FlagPart}
use Rattle.intervals.specs.declared.reg_pair.RegPair.{RegPair}
use Rattle.linear_sums.specs.Rewriting.{rewritten}
use Rattle.loop_bounds.specs.Linear.{LinearView}
use Rattle.loop_bounds.specs.declared.effect.Effect.{Effect}
use Rattle.refined_step.specs.Told.{untold}

-- ---- the same origins

same_origin : (o p : Option RegPair) → IfSome o (λ of. p ≡ Some of) → IfSome p (λ of. o ≡ Some of) → o ≡ p
same_origin None None h k = refl
same_origin None (Some r) h k = k
same_origin (Some r) p h k = sym h

by_origins : (e : Effect) (w x : AbsState) → HaveOrigins w x → effect_by_origins e w ≡ effect_by_origins e x
by_origins e w x h =
    let af = same_origin w.pairs.af.origin x.pairs.af.origin h.0.af h.1.af in
    let bc = same_origin w.pairs.bc.origin x.pairs.bc.origin h.0.bc h.1.bc in
    let de = same_origin w.pairs.de.origin x.pairs.de.origin h.0.de h.1.de in
    let hl = same_origin w.pairs.hl.origin x.pairs.hl.origin h.0.hl h.1.hl in
    let ix = same_origin w.pairs.ix.origin x.pairs.ix.origin h.0.ix h.1.ix in
    let iy = same_origin w.pairs.iy.origin x.pairs.iy.origin h.0.iy h.1.iy in
    rw (af, bc, de, hl, ix, iy) refl

-- ---- facts

-- known by the effect alone, a fact is known with variables first, whatever the constants
fact_back : (facts : List LinearView) (before : AbsState) (settled moved : Effect) (fact : LinearView) → BecomesZeroEitherWay facts (range_of before) moved moved None fact →
    BecomesZeroEitherWay facts (range_of before) settled moved None fact
fact_back facts before settled moved fact (inl h) = inr (rewritten_or moved settled fact (IsZeroBy facts (range_of before)) h)
fact_back facts before settled moved fact (inr h) =
    inr (rewritten_or moved settled fact (IsZeroBy facts (range_of before))
    (subst (λ (e : Effect). IsSomeAnd (rewritten e None fact) (IsZeroBy facts (range_of before))) (same_effect moved) h))

-- ---- flag parts

none_conveys : (letter : Letter) (Tells : Bool → LinearView → Type 0) → IsConveyed letter Tells [] → ⊥
none_conveys letter Tells h = let (k, below, is) = h.listed in omega (arith, below)

-- a step without conditions tells none
no_part : (a : ArrivalView) (moved : Effect) (after : AbsState) (part : FlagPart) → KnowsPart a (refinement_by Three untold moved) after part → ⊥
no_part a moved after part (inl (inl h)) = none_conveys _ _ h
no_part a moved after part (inl (inr h)) = none_conveys _ _ h
no_part a moved after part (inr (inl h)) = none_conveys _ _ h
no_part a moved after part (inr (inr h)) = none_conveys _ _ h

no_parts : (a : ArrivalView) (moved : Effect) (after : AbsState) (parts : List FlagPart) → All (KnowsPart a (refinement_by Three untold moved) after) parts → parts ≡ []
no_parts a moved after [] h = refl
no_parts a moved after (part ∷ parts) h = absurd (no_part a moved after part (h 0 part (omega arith)))

-- ---- arrivals

-- the arrival back from an exit in a version
abbrev back_at : SubjectView → Next → Version → AbsState → ArrivalView
back_at s next version exit = record {
  proc = s.row.proc;
  address = behind_of s.decoded s.row.address;
  facts = s.row.facts;
  before = s.row.state;
  effect = settled (after_call next.state exit) (effect_back version next.effect exit);
  refined = refinement_by version untold (effect_back version next.moved exit);
}

claims_back : (s : SubjectView) (next : Next) (w x : AbsState) (row : Row) → HaveOrigins w x → KnowsClaims (bare_arrival s next w) row → KnowsClaims (back_at s next Three x) row
claims_back s next w x row origins knows =
    let moved = effect_by_origins next.moved x in
    let same : effect_by_origins next.moved w ≡ moved = by_origins next.moved w x origins in
    let none : row.parts ≡ [] = no_parts (bare_arrival s next w) (effect_by_origins next.moved w) w row.parts (knows.parts w) in
    record {
      facts = λ k fact within.
          fact_back s.row.facts s.row.state (settled (after_call next.state x) (effect_back Three next.effect x)) moved (get_or row.facts k fact)
          (subst (λ (e : Effect). BecomesZeroEitherWay s.row.facts (range_of s.row.state) e e None (get_or row.facts k fact)) same (knows.facts k fact within));
      parts = λ state.
          subst (λ (parts : List FlagPart). All (KnowsPart (back_at s next Three x) (refinement_by Three untold moved) state) parts) (sym none)
          (λ k part within. absurd (omega (arith, within)));
    }

pub hands_back : (s : SubjectView) (next : Next) (callee : Callee) (w x : AbsState) → s.cert.version ≡ Three → HaveOrigins w x → HandsOn (bare_arrival s next w) (return_way s next callee x).arrival
hands_back s next callee w x three origins =
    subst (λ (version : Version). HandsOn (bare_arrival s next w) (back_at s next version x)) (sym three)
    (record { proc = refl; address = refl; claims = λ row knows. claims_back s next w x row origins knows })
