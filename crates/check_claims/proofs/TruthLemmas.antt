-- What is claimed after a step is true.
use Rattle.std.proofs.Common.{◌≡◌, ◌↔◌, ◌∙◌, ℕ, Bool, true, false, eqb, List, get_or, All, Contains, ℤ, pos, neg_ℤ, Option, Some, None, IfSome, IsSomeAnd, inl, inr, IsTrue, refl, sym, ap, subst, arith}
use Rattle.std.proofs.lemmas.Int.{ints}
use Rattle.abs_state.specs.Variables.{range_of}
use Rattle.abs_state.specs.declared.state.AbsState.{AbsState}
use Rattle.flag_letters.specs.declared.letter.Letter.{Letter}
use Rattle.flag_letters.specs.declared.letter.Letter.TheVariants.{Zero, ZeroIfBelow, CarryIfBelow, SignIfBelow}
use Rattle.flag_letters.specs.declared.part.FlagPart.{FlagPart}
use Rattle.flag_parts.specs.Parts.{HoldsPart, HoldsParts, IsSetAt, flag_of}
use Rattle.linear_effects.specs.declared.variable_effect.LinearEffect.{LinearEffect}
use Rattle.linear_sums.proofs.CanonLemmas.{value_of_zero}
use Rattle.linear_sums.proofs.MultipleLemmas.{multiple_value}
use Rattle.linear_sums.proofs.Products.{minus_once, one_times}
use Rattle.linear_sums.proofs.RewritingLemmas.{rewritten_value}
use Rattle.linear_sums.proofs.SumLemmas.{value_plus_multiple}
use Rattle.linear_sums.specs.Bytes.{AgreesWithBytes}
use Rattle.linear_sums.specs.Canon.{HasOneValues, IsZeroIn}
use Rattle.linear_sums.specs.Rewriting.{rewritten, FollowsEffect}
use Rattle.linear_sums.specs.Sum.{sign}
use Rattle.linear_sums.specs.declared.rewriting.LinearChange.{LinearChange}
use Rattle.std.proofs.lemmas.Bool.{cases_Bool, eqb-true}
use Rattle.loop_bounds.specs.Effect.{Valuation, change_of, changed, part_change, slot_change, whole}
use Rattle.loop_bounds.specs.declared.variable.Part.{Part}
use Rattle.loop_bounds.specs.declared.variable.Part.TheVariants.{Word, High, Low}
use Rattle.loop_bounds.specs.Linear.{LinearView, value}
use Rattle.loop_bounds.specs.Ranges.{Box}
use Rattle.loop_bounds.specs.declared.effect.Change.{Change}
use Rattle.loop_bounds.specs.declared.effect.Change.TheVariants.{Old, Raised, Lowered, Constant, Unknown}
use Rattle.loop_bounds.specs.declared.effect.Effect.{Effect}
use Rattle.loop_bounds.specs.declared.effect.SlotChange.{SlotChange}
use Rattle.loop_bounds.specs.declared.variable.Variable.{Variable}
use Rattle.loop_bounds.specs.declared.variable.Variable.TheVariants as variables
use Rattle.z80_alu.specs.declared.flags.Flags.{Flags}
use Rattle.check_claims.specs.Claims.{AtSign, IsClaimedFact, IsClaimedPart, IsConveyed, IsToldBefore}
use Rattle.check_claims.specs.Rewritings.{change_if_slight, change_or, change_beside, constants_first, effect_or, is_slight, slight_change, slot_or, unless_constant, variables_first}
use Rattle.check_claims.specs.Source.{StepSourceView}
use Rattle.check_claims.specs.Truth.{AreTrueConditions, ComeBoth, ComesBoth, IsTrueSource}
use Rattle.check_claims.specs.Zeros.{less, IsZeroBy}
use Rattle.check_claims.specs.declared.rewritings.Rewriting.{Rewriting}

-- ---- sums that are 0 by facts

pub zero_value : (facts : List LinearView) (box : Box) (x : Valuation) → AgreesWithBytes x → HasOneValues box x → All (λ fact. value (whole x) fact ≡ pos 0) facts →
    (s : LinearView) → IsZeroBy facts box s → value (whole x) s ≡ pos 0
zero_value facts box x bytes ones zero s (inl none) = value_of_zero box x bytes ones s none
zero_value facts box x bytes ones zero s (inr from) =
    let (k, within, is) = from.known in
    multiple_value box s from.given from.is x bytes ones (subst (λ (fact : LinearView). value (whole x) fact ≡ pos 0) is (zero k from.given within))

-- the value, or its negation
abbrev pub turned : Bool → ℤ → ℤ
turned true n = neg_ℤ n
turned false n = n

pub no_difference : (x : Variable → ℤ) (s : LinearView) (negated : Bool) (t : LinearView) → value x (less s negated t) ≡ pos 0 → value x s ≡ turned negated (value x t)
no_difference x s true t e =
    let sum = value_plus_multiple x s (sign false) t in
    let once = one_times (value x t) in
    omega (arith, ints, e, sum, once)
no_difference x s false t e =
    let sum = value_plus_multiple x s (sign true) t in
    let minus = minus_once (value x t) in
    omega (arith, ints, e, sum, minus)

-- ---- both rewritings are true

module _ (s : StepSourceView) (x y : Valuation) (t : IsTrueSource s x y) where
  -- the value of the linear effect's variable
  slight_true : (e : LinearEffect) (slight : Bool) → pos (y e.variable) ≡ value (whole x) e.linear → IfSome (change_if_slight e slight) (λ c. pos (y c.variable) ≡ value (whole x) c.value)
  slight_true e true h = h
  slight_true e false h = tt

  change_true : (linear : Option LinearEffect) → IfSome linear (λ e. pos (y e.variable) ≡ value (whole x) e.linear) → IfSome (slight_change linear) (λ c. pos (y c.variable) ≡ value (whole x) c.value)
  change_true None h = tt
  change_true (Some e) h = slight_true e (is_slight e.linear) h

  beside_true : (change : Change) (c : LinearChange) → pos (y c.variable) ≡ value (whole x) c.value → IfSome (change_beside change c) (λ d. pos (y d.variable) ≡ value (whole x) d.value)
  beside_true (Old v) c h = h
  beside_true (Raised v) c h = h
  beside_true (Lowered v) c h = h
  beside_true (Constant n) c h = tt
  beside_true Unknown c h = h

  unless_true : (effect : Effect) (o : Option LinearChange) → IfSome o (λ c. pos (y c.variable) ≡ value (whole x) c.value) → IfSome (unless_constant effect o) (λ c. pos (y c.variable) ≡ value (whole x) c.value)
  unless_true effect None h = tt
  unless_true effect (Some c) h = beside_true (change_of effect c.variable) c h

  -- an effect that is true of a variable is so beside a true linear
  follows : (effect : Effect) (o : Option LinearChange) (v : Variable) → IfSome o (λ c. pos (y c.variable) ≡ value (whole x) c.value) → changed (change_of effect v) x (pos (y v)) ≡ pos (y v) → FollowsEffect effect o x v (y v)
  follows effect None v h e = e
  follows effect (Some c) v h e = ((λ is. subst (λ (w : Variable). pos (y w) ≡ value (whole x) c.value) (sym is) h), λ apart. e)

  -- ---- the effect that is known where one of the two is

  or_true : (change other : Change) (n : ℤ) → changed change x n ≡ n → changed other x n ≡ n → changed (change_or change other) x n ≡ n
  or_true (Old v) other n h k = h
  or_true (Raised v) other n h k = h
  or_true (Lowered v) other n h k = h
  or_true (Constant m) other n h k = h
  or_true Unknown other n h k = k

  both_true : (v : Variable) → ComesBoth s x y v → changed (change_of (effect_or s.moved s.settled) v) x (pos (y v)) ≡ pos (y v)
  both_true variables.A h = or_true s.moved.a s.settled.a _ h.moved h.settled
  both_true variables.B h = or_true s.moved.b s.settled.b _ h.moved h.settled
  both_true variables.C h = or_true s.moved.c s.settled.c _ h.moved h.settled
  both_true variables.D h = or_true s.moved.d s.settled.d _ h.moved h.settled
  both_true variables.E h = or_true s.moved.e s.settled.e _ h.moved h.settled
  both_true variables.H h = or_true s.moved.h s.settled.h _ h.moved h.settled
  both_true variables.L h = or_true s.moved.l s.settled.l _ h.moved h.settled
  both_true variables.Bc h = or_true s.moved.bc s.settled.bc _ h.moved h.settled
  both_true variables.De h = or_true s.moved.de s.settled.de _ h.moved h.settled
  both_true variables.Hl h = or_true s.moved.hl s.settled.hl _ h.moved h.settled
  both_true variables.Ix h = or_true s.moved.ix s.settled.ix _ h.moved h.settled
  both_true variables.Iy h = or_true s.moved.iy s.settled.iy _ h.moved h.settled
  both_true (variables.Slot number part) h = slot_true s.moved.slot number part h.moved h.settled
    where
      part_true : (c : SlotChange) (part : Part) → changed (part_change c part) x (pos (y (variables.Slot c.number part))) ≡ pos (y (variables.Slot c.number part)) → changed (change_of s.settled (variables.Slot c.number part)) x (pos (y (variables.Slot c.number part))) ≡ pos (y (variables.Slot c.number part))
          → changed (part_change (let d : SlotChange = record { number = c.number; word = change_or c.word (change_of s.settled (variables.Slot c.number Word)); high = change_or c.high (change_of s.settled (variables.Slot c.number High)); low = change_or c.low (change_of s.settled (variables.Slot c.number Low)) } in d) part) x (pos (y (variables.Slot c.number part))) ≡ pos (y (variables.Slot c.number part))
      part_true c Word h k = or_true c.word _ _ h k
      part_true c High h k = or_true c.high _ _ h k
      part_true c Low h k = or_true c.low _ _ h k

      slot_true : (slot : Option SlotChange) (number : ℕ) (part : Part) → changed (slot_change slot number part) x (pos (y (variables.Slot number part))) ≡ pos (y (variables.Slot number part)) → changed (change_of s.settled (variables.Slot number part)) x (pos (y (variables.Slot number part))) ≡ pos (y (variables.Slot number part)) → changed (slot_change (slot_or slot s.settled) number part) x (pos (y (variables.Slot number part))) ≡ pos (y (variables.Slot number part))
      slot_true None number part h k = h
      slot_true (Some c) number part h k = elim (cases_Bool (eqb c.number number)) [
        | inl same ↦
            let is : c.number ≡ number = eqb-true _ _ same in
            let there = rw same at h in
            rw same (rw (sym is) (part_true c part (rw is there) (rw is k)))
        | inr other ↦ let there = rw other at h in rw other there
      ]

  -- ---- the two rewritings

  -- each variable that comes by both effects comes by the rewriting
  abbrev pub IsTrueRewriting : Rewriting → Type 0
  IsTrueRewriting r = (v : Variable) → ComesBoth s x y v → FollowsEffect r.effect r.change x v (y v)

  pub first_true : IsTrueRewriting (constants_first s.settled s.linear)
  first_true v h = follows s.settled (unless_constant s.settled (slight_change s.linear)) v (unless_true s.settled (slight_change s.linear) (change_true s.linear t.becomes)) h.settled

  pub second_true : IsTrueRewriting (variables_first s.settled s.moved s.linear)
  second_true v h = follows (effect_or s.moved s.settled) (slight_change s.linear) v (change_true s.linear t.becomes) (both_true v h)

  pub rewriting_value : (r : Rewriting) → IsTrueRewriting r → (linear u : LinearView) → ComeBoth s x y linear → rewritten r.effect r.change linear ≡ Some u → value (whole y) linear ≡ value (whole x) u
  rewriting_value r true_of linear u come e = rewritten_value r.effect r.change x y linear u e (λ k d p. true_of (get_or linear.terms k d).variable (come k d p))

  pub zero_before : (u : LinearView) → IsZeroBy s.facts (range_of s.before) u → value (whole x) u ≡ pos 0
  zero_before u h = zero_value s.facts (range_of s.before) x t.bytes t.ones t.facts u h

  -- ---- facts

  becomes_true : (r : Rewriting) → IsTrueRewriting r → (fact : LinearView) → ComeBoth s x y fact → (o : Option LinearView) → rewritten r.effect r.change fact ≡ o → IsSomeAnd o (IsZeroBy s.facts (range_of s.before)) → value (whole y) fact ≡ pos 0
  becomes_true r true_of fact come None e h = absurd h
  becomes_true r true_of fact come (Some u) e h = rewriting_value r true_of fact u come e ∙ zero_before u h

  pub fact_true : (fact : LinearView) → IsClaimedFact s fact → ComeBoth s x y fact → value (whole y) fact ≡ pos 0
  fact_true fact (inl h) come = becomes_true (constants_first s.settled s.linear) first_true fact come _ refl h
  fact_true fact (inr h) come = becomes_true (variables_first s.settled s.moved s.linear) second_true fact come _ refl h

-- ---- flag parts

-- a letter says the same of an integer and of what it equals, and a letter of 0 of its negation too
told_at : (letter : Letter) (flags : Flags) (m n : ℤ) (Tells : Bool → Type 0) → ((negated : Bool) → Tells negated → n ≡ turned negated m) → AtSign letter Tells →
    (IsTrue (flag_of letter flags) ↔ IsSetAt letter m) → IsTrue (flag_of letter flags) ↔ IsSetAt letter n
told_at Zero flags m n Tells same (inl h) held = subst (λ (k : ℤ). IsTrue (flag_of Zero flags) ↔ IsSetAt Zero k) (sym (same false h)) held
told_at Zero flags m n Tells same (inr h) held = let e = same true h in (
  (λ f. let z : m ≡ pos 0 = held.0 f in let w : n ≡ pos 0 = omega (arith, ints, e, z) in w),
  λ w. held.1 (let q : n ≡ pos 0 = w in let z : m ≡ pos 0 = omega (arith, ints, e, q) in z),
)
told_at ZeroIfBelow flags m n Tells same h held = subst (λ (k : ℤ). IsTrue (flag_of ZeroIfBelow flags) ↔ IsSetAt ZeroIfBelow k) (sym (same false h)) held
told_at CarryIfBelow flags m n Tells same h held = subst (λ (k : ℤ). IsTrue (flag_of CarryIfBelow flags) ↔ IsSetAt CarryIfBelow k) (sym (same false h)) held
told_at SignIfBelow flags m n Tells same h held = subst (λ (k : ℤ). IsTrue (flag_of SignIfBelow flags) ↔ IsSetAt SignIfBelow k) (sym (same false h)) held

-- a part that a condition tells holds
conveyed_true : (part : FlagPart) (Tells : Bool → LinearView → Type 0) (conditions : List FlagPart) (flags : Flags) (z y : Valuation) →
    ((negated : Bool) (condition : FlagPart) → Contains conditions condition → Tells negated condition.linear → value (whole y) part.linear ≡ turned negated (value (whole z) condition.linear)) →
    HoldsParts conditions flags z → IsConveyed part.letter Tells conditions → HoldsPart part flags y
conveyed_true part Tells conditions flags z y same holds h =
    let (k, within, is) = h.listed in
    let held : HoldsPart h.condition flags z = subst (λ (p : FlagPart). HoldsPart p flags z) is (holds k h.condition within) in
    told_at part.letter flags (value (whole z) h.condition.linear) (value (whole y) part.linear) (λ negated. Tells negated h.condition.linear)
    (λ negated tells. same negated h.condition h.listed tells) h.by.1
    (subst (λ (l : Letter). IsTrue (flag_of l flags) ↔ IsSetAt l (value (whole z) h.condition.linear)) h.by.0 held)

module _ (s : StepSourceView) (x y : Valuation) (t : IsTrueSource s x y) (after : AbsState) (flags : Flags) (c : AreTrueConditions s after flags x y) where
  listed_comes : (condition : FlagPart) → Contains s.conditions.after condition → ComeBoth s x y condition.linear
  listed_comes condition (k, within, is) = subst (λ (p : FlagPart). ComeBoth s x y p.linear) is (c.come k condition within)

  equal_before : (r : Rewriting) → IsTrueRewriting s x y t r → (linear : LinearView) → ComeBoth s x y linear → (negated : Bool) (told : LinearView) → (o : Option LinearView) → rewritten r.effect r.change linear ≡ o →
      IsSomeAnd o (λ u. IsZeroBy s.facts (range_of s.before) (less u negated told)) → value (whole y) linear ≡ turned negated (value (whole x) told)
  equal_before r true_of linear come negated told None e h = absurd h
  equal_before r true_of linear come negated told (Some u) e h =
      rewriting_value s x y t r true_of linear u come e ∙ no_difference (whole x) u negated told (zero_before s x y t (less u negated told) h)

  equal_back : (r : Rewriting) → IsTrueRewriting s x y t r → (linear : LinearView) → ComeBoth s x y linear → (negated : Bool) (told : LinearView) → ComeBoth s x y told → (o p : Option LinearView) → rewritten r.effect r.change linear ≡ o → rewritten r.effect r.change told ≡ p →
      IsSomeAnd o (λ u. IsSomeAnd p (λ w. IsZeroBy s.facts (range_of s.before) (less u negated w))) → value (whole y) linear ≡ turned negated (value (whole y) told)
  equal_back r true_of linear come negated told come_told None p e f h = absurd h
  equal_back r true_of linear come negated told come_told (Some u) None e f h = absurd h
  equal_back r true_of linear come negated told come_told (Some u) (Some w) e f h =
      rewriting_value s x y t r true_of linear u come e
      ∙ no_difference (whole x) u negated w (zero_before s x y t (less u negated w) h)
      ∙ ap (turned negated) (sym (rewriting_value s x y t r true_of told w come_told f))

  equal_after : (linear : LinearView) (negated : Bool) (told : LinearView) → IsZeroIn (range_of after) (less linear negated told) → value (whole y) linear ≡ turned negated (value (whole y) told)
  equal_after linear negated told h = no_difference (whole y) linear negated told (value_of_zero (range_of after) y c.bytes c.ones (less linear negated told) h)

  told_before : (r : Rewriting) → IsTrueRewriting s x y t r → (part : FlagPart) → ComeBoth s x y part.linear → IsToldBefore s.facts (range_of s.before) r part s.conditions.before → HoldsPart part flags y
  told_before r true_of part come h =
      conveyed_true part _ s.conditions.before flags x y
      (λ negated condition listed tells. equal_before r true_of part.linear come negated condition.linear _ refl tells) c.holds_before h

  pub part_true : (part : FlagPart) → IsClaimedPart s after part → ComeBoth s x y part.linear → HoldsPart part flags y
  part_true part (inl (inl h)) come = told_before (constants_first s.settled s.linear) (first_true s x y t) part come h
  part_true part (inl (inr h)) come = told_before (variables_first s.settled s.moved s.linear) (second_true s x y t) part come h
  part_true part (inr (inl h)) come =
      conveyed_true part _ s.conditions.after flags y y
      (λ negated condition listed tells. equal_after part.linear negated condition.linear tells) c.holds_after h
  part_true part (inr (inr h)) come =
      conveyed_true part _ s.conditions.after flags y y
      (λ negated condition listed tells. equal_back (variables_first s.settled s.moved s.linear) (second_true s x y t) part.linear come negated condition.linear (listed_comes condition listed) _ _ refl refl tells)
      c.holds_after h
