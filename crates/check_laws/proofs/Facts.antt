-- The facts of a row that covers what arrives are 0, its flag parts are seen, and tightening by the facts cuts nothing
-- that is there.
use Rattle.std.proofs.Common.{◌≡◌, ◌∙◌, ℕ, Bool, true, false, cond, eqb, List, [], ◌∷◌, length, get_or, Option, Some, None, pos, neg_ℤ, Contains, inl, inr, ◌⊎◌, refl, sym, ap, subst, arith}
use Rattle.std.specs.Prelude.{◌+ℤ◌, IsSomeAnd, option_and_then}
use Rattle.std.specs.List.{AllByRecursion}
use Rattle.std.proofs.lemmas.Bool.{eqb-true}
use Rattle.std.proofs.lemmas.List.Elements.{All-head, All-tail}
use Rattle.intervals.specs.Domain.{Entry}
use Rattle.intervals.specs.Range.{Within}
use Rattle.cert_fields.specs.Linear.{IsBelow, IsShort, IsSum, HasSlotsBelow}
use Rattle.loop_bounds.specs.Bounds.{Becomes, BecomesNegation}
use Rattle.loop_bounds.specs.Effect.{Valuation, after_from, change_of, changed, constant_before, whole}
use Rattle.loop_bounds.specs.Linear.{IsLinear, LinearView, value}
use Rattle.loop_bounds.specs.Ranges.{Box}
use Rattle.loop_bounds.specs.Tighten.{tightened}
use Rattle.loop_bounds.specs.declared.effect.Change.{Change}
use Rattle.loop_bounds.specs.declared.effect.Change.TheVariants.{Old, Raised, Lowered, Constant, Unknown}
use Rattle.loop_bounds.specs.declared.variable.Variable.{Variable}
use Rattle.loop_bounds.specs.declared.variable.Variable.TheVariants.{Slot}
use Rattle.loop_bounds.proofs.Boxes.{total_agree}
use Rattle.z80_draft.specs.Registers.{IsRegs}
use Rattle.abs_laws.specs.Fits.{FollowsChange, IsThere}
use Rattle.abs_state.specs.CutLaws.{variable_lies}
use Rattle.abs_state.specs.Holds.{Holds}
use Rattle.abs_state.specs.Seen.{Seen}
use Rattle.abs_state.specs.Variables.{cut_to, range_of, value_in}
use Rattle.abs_state.specs.declared.cell.KeptCell.{KeptCell}
use Rattle.abs_state.specs.declared.state.AbsState.{AbsState}
use Rattle.abs_state.proofs.TightenHolds.{tightened_holds}
use Rattle.check_claims.proofs.SeenLemmas.{seen_agrees, seen_ones}
use Rattle.check_claims.proofs.TruthLemmas.{fact_true, part_true}
use Rattle.check_claims.specs.Claims.{IsClaimedFact, IsClaimedPart}
use Rattle.check_claims.specs.RegisterLaws.{IsRegister, NamesRegisters}
use Rattle.check_claims.specs.Source.{StepSourceView}
use Rattle.check_claims.specs.Truth.{AreTrueConditions, ComeBoth, ComesBoth, IsTrueSource}
use Rattle.check_cover.specs.Arrival.{ArrivalView, RefinementView, source_of}
use Rattle.check_cover.specs.Covering.{IsKnownFact, KnowsFact, KnowsPart, tightened_by}
use Rattle.flag_letters.specs.declared.part.FlagPart.{FlagPart}
use Rattle.flag_parts.specs.Parts.{HoldsPart}
use Rattle.z80_alu.specs.Flags.{flags_of}
use Rattle.check_laws.specs.Comes.{CameRefined, CameRefinedIfSome, Comes}
use Rattle.check_laws.specs.RowHolds.{AreZeroAt, value_at}

-- ---- variables that exist

pub below_there : (count : ℕ) (v : Variable) → IsBelow count v → IsThere count v
below_there count (Slot number part) h = h
below_there count v h = tt

-- a register is there, however many words there are
register_there : (count : ℕ) (v : Variable) → IsRegister v → IsThere count v
register_there count (Slot number part) h = absurd h
register_there count v h = tt

-- a constant with priority changes no value
pub constant_kept : (source : Box) (before : Valuation) (change : Change) (n : ℕ) → ((v : Variable) → Within (source v) (before v)) → FollowsChange change before n
    → changed (constant_before source change) before (pos n) ≡ pos n
constant_kept source before (Old v) n lies f = at (eqb (source v).low (source v).high) refl
  where
    at : (one : Bool) → eqb (source v).low (source v).high ≡ one → changed (cond one (Constant (source v).low) (Old v)) before (pos n) ≡ pos n
    at true e =
        let same : (source v).low ≡ (source v).high = eqb-true _ _ e in
        let w = lies v in
        let is : (source v).low ≡ before v = omega (arith, same, w.0, w.1) in
        ap pos is ∙ f
    at false e = f
constant_kept source before (Raised v) n lies f = f
constant_kept source before (Lowered v) n lies f = f
constant_kept source before (Constant k) n lies f = f
constant_kept source before Unknown n lies f = f

-- ---- facts

module _ (cells : List KeptCell) (a : ArrivalView) (now : Seen) (c : Comes a cells now) where
  after_is : (v : Variable) → IsThere (length now.words) v → after_from (range_of a.before) a.effect (value_in c.before) (value_in now) v ≡ whole (value_in now) v
  after_is v there = constant_kept (range_of a.before) (value_in c.before) (change_of a.effect v) (value_in now v) (variable_lies a.before cells c.entry c.before c.numbers c.held) (c.came v there)

  value_is : (fact : LinearView) → HasSlotsBelow (length now.words) fact → value (after_from (range_of a.before) a.effect (value_in c.before) (value_in now)) fact ≡ value_at now fact
  value_is fact within =
      ap (λ z. fact.constant +ℤ z)
      (total_agree (after_from (range_of a.before) a.effect (value_in c.before) (value_in now)) (whole (value_in now)) fact.terms
      (λ k d p. after_is (get_or fact.terms k d).variable (below_there (length now.words) (get_or fact.terms k d).variable (within k d p))))

  given_zero : (given : LinearView) → Contains a.facts given → value_at c.before given ≡ pos 0
  given_zero given (k, within, is) = subst (λ (f : LinearView). value_at c.before f ≡ pos 0) is (c.facts k given within)

  -- before version 3 a fact that is known to hold is 0
  plain_zero : (fact : LinearView) → HasSlotsBelow (length now.words) fact → IsKnownFact a.facts a.before a.effect fact → value_at now fact ≡ pos 0
  plain_zero fact within (inl vanishes) = sym (value_is fact within) ∙ vanishes.1 (value_in c.before) (value_in now)
  plain_zero fact within (inr from) = by from.is
    where
      by : Becomes fact a.effect (range_of a.before) from.given ⊎ BecomesNegation fact a.effect (range_of a.before) from.given → value_at now fact ≡ pos 0
      by (inl same) = sym (value_is fact within) ∙ same.1 (value_in c.before) (value_in now) ∙ given_zero from.given from.known
      by (inr negated) = sym (value_is fact within) ∙ negated.1 (value_in c.before) (value_in now) ∙ ap neg_ℤ (given_zero from.given from.known)

  -- ---- version 3

  module _ (r : RefinementView) (refined : CameRefined r c.before now) where
    abbrev source : StepSourceView
    source = source_of a r

    is_true : IsTrueSource source (value_in c.before) (value_in now)
    is_true = record { bytes = seen_agrees c.before; ones = seen_ones a.before cells c.entry c.before c.numbers c.held; facts = c.facts; becomes = refined.becomes }

    comes_both : (v : Variable) → IsThere (length now.words) v → ComesBoth source (value_in c.before) (value_in now) v
    comes_both v there = record { settled = c.came v there; moved = refined.moved v there }

    come_both : (linear : LinearView) → HasSlotsBelow (length now.words) linear → ComeBoth source (value_in c.before) (value_in now) linear
    come_both linear within = λ k d p. comes_both (get_or linear.terms k d).variable (below_there (length now.words) (get_or linear.terms k d).variable (within k d p))

    registers_come : (linear : LinearView) → NamesRegisters linear → ComeBoth source (value_in c.before) (value_in now) linear
    registers_come linear named = λ k d p. comes_both (get_or linear.terms k d).variable (register_there (length now.words) (get_or linear.terms k d).variable (named k d p))

    claimed_zero : (fact : LinearView) → HasSlotsBelow (length now.words) fact → IsClaimedFact source fact → value_at now fact ≡ pos 0
    claimed_zero fact within claimed = fact_true source (value_in c.before) (value_in now) is_true fact claimed (come_both fact within)

    claimed_seen : (state : AbsState) (entry : Entry) → IsRegs now.regs → Holds state cells entry now → (part : FlagPart) → HasSlotsBelow (length now.words) part.linear → IsClaimedPart source state part
        → HoldsPart part (flags_of now.regs.main.f) (value_in now)
    claimed_seen state entry i h part within claimed =
        let told : AreTrueConditions source state (flags_of now.regs.main.f) (value_in c.before) (value_in now) = record {
          bytes = seen_agrees now;
          ones = seen_ones state cells entry now i h;
          holds_before = refined.told_before;
          holds_after = refined.told_after;
          come = λ k d p. registers_come (get_or r.conditions.after k d).linear (refined.registers k d p);
        } in
        part_true source (value_in c.before) (value_in now) is_true state (flags_of now.regs.main.f) told part claimed (come_both part.linear within)

  known_by : (o : Option RefinementView) → CameRefinedIfSome o c.before now → (fact : LinearView) → HasSlotsBelow (length now.words) fact → KnowsFact a o fact → value_at now fact ≡ pos 0
  known_by None refined fact within known = plain_zero fact within known
  known_by (Some r) refined fact within known = claimed_zero r refined fact within known

  seen_by : (o : Option RefinementView) → CameRefinedIfSome o c.before now → (state : AbsState) (entry : Entry) → IsRegs now.regs → Holds state cells entry now → (part : FlagPart) → HasSlotsBelow (length now.words) part.linear
      → KnowsPart a o state part → HoldsPart part (flags_of now.regs.main.f) (value_in now)
  seen_by None refined state entry i h part within known = absurd known
  seen_by (Some r) refined state entry i h part within known = claimed_seen r refined state entry i h part within known

  -- a fact that is known to hold is 0
  pub known_zero : (fact : LinearView) → HasSlotsBelow (length now.words) fact → KnowsFact a a.refined fact → value_at now fact ≡ pos 0
  known_zero = known_by a.refined c.refined

  -- a flag part that is known to hold is seen
  pub known_seen : (state : AbsState) (entry : Entry) → IsRegs now.regs → Holds state cells entry now → (part : FlagPart) → HasSlotsBelow (length now.words) part.linear → KnowsPart a a.refined state part
      → HoldsPart part (flags_of now.regs.main.f) (value_in now)
  known_seen = seen_by a.refined c.refined

-- ---- tightening

-- a linear of a row
pub is_linear : (slots : ℕ) (s : LinearView) → IsSum slots s → IsShort s → IsLinear s
is_linear slots s h k = record { constant = h.constant; count = k.count; coefficients = h.coefficients; rising = h.rising }

pub are_linear : (slots : ℕ) (facts : List LinearView) → AllByRecursion (IsSum slots) facts → AllByRecursion IsShort facts → AllByRecursion IsLinear facts
are_linear slots [] h k = tt
are_linear slots (fact ∷ facts) h k = (is_linear slots fact h.0 k.0, are_linear slots facts h.1 k.1)

pub goes_through : {X Y : Type 0} (o : Option X) (f : X → Option Y) (P : X → Type 0) (Q : Y → Type 0) → IsSomeAnd o P → ((x : X) → P x → IsSomeAnd (f x) Q) → IsSomeAnd (option_and_then f o) Q
goes_through None f P Q h g = h
goes_through (Some x) f P Q h g = g x h

pub all_tightened : (cells : List KeptCell) (entry : Entry) (m : Seen) → IsRegs m.regs → (facts : List LinearView) → AllByRecursion IsLinear facts → AreZeroAt m facts → (s : AbsState) → Holds s cells entry m
    → IsSomeAnd (tightened_by facts s) (λ t. Holds t cells entry m)
unfolding tightened_by
all_tightened cells entry m i [] linear zero s h = h
all_tightened cells entry m i (fact ∷ facts) linear zero s h =
    let Zero : LinearView → Type 0 = λ f. value_at m f ≡ pos 0 in
    goes_through (tightened range_of cut_to fact s) (tightened_by facts) (λ t. Holds t cells entry m) (λ t. Holds t cells entry m)
    (tightened_holds cells entry m i fact linear.0 (All-head Zero fact facts zero) s h)
    (λ t held. all_tightened cells entry m i facts linear.1 (All-tail Zero fact facts zero) t held)
