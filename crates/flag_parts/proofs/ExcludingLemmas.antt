-- Where a linear is not 0: the free terms, and the value that is cut.
use Rattle.std.proofs.Common.{◌≡◌, ◌≢◌, ℕ, ◌+◌, ◌/◌, ◌<◌, ◌≤◌, ◌^◌, ◌&&◌, Bool, true, false, cond, List, [], ◌∷◌, ◌++◌, length, get_or, take, filter, ℤ, pos, ◌+ℤ◌, ◌*ℤ◌, Option, Some, None, refl, sym, subst, ap, ◌∙◌, arith, All, unsigned_abs, IsSomeAnd}
use Rattle.std.specs.Prelude.{nat_le}
use Rattle.std.proofs.Math.IntN.{*ℤ-zero}
use Rattle.std.proofs.lemmas.Bool.{eqb-true}
use Rattle.std.proofs.lemmas.Int.{ints}
use Rattle.std.proofs.lemmas.List.{take_more}
use Rattle.std.proofs.lemmas.List.Elements.{filter-append, All-head, All-tail}
use Rattle.std.proofs.lemmas.List.Sums.{sum_by-take-le}
use Rattle.intervals.specs.Domain.{Entry}
use Rattle.linear_sums.proofs.Loops.{IsTotalSoFar, total_whole}
use Rattle.loop_bounds.proofs.BoundsLemmas.{small_terms}
use Rattle.loop_bounds.proofs.TightenLemmas.{light_terms}
use Rattle.loop_bounds.specs.Form.{weight}
use Rattle.intervals.specs.Logic.{is_single}
use Rattle.loop_bounds.specs.Effect.{Valuation, whole}
use Rattle.loop_bounds.specs.Linear.{LinearView, IsLinear, total, value}
use Rattle.loop_bounds.specs.Ranges.{Box}
use Rattle.loop_bounds.specs.declared.linear.Term.{Term}
use Rattle.loop_bounds.specs.declared.variable.Variable.{Variable}
use Rattle.z80_draft.specs.Registers.{IsRegs}
use Rattle.abs_state.specs.CutLaws.{variable_lies}
use Rattle.abs_state.specs.Holds.{Holds}
use Rattle.abs_state.specs.Seen.{Seen}
use Rattle.abs_state.specs.Variables.{range_of, value_in}
use Rattle.abs_state.specs.declared.cell.KeptCell.{KeptCell}
use Rattle.abs_state.specs.declared.state.AbsState.{AbsState}
use Rattle.flag_parts.specs.declared.excluding.FreeTerms.{FreeTerms}
use Rattle.flag_parts.specs.declared.excluding.FreeTerms.TheVariants.{Nothing, One, More}
use Rattle.flag_parts.specs.Excluding.{known_part, known_value, is_free, with_free, with_term, counted, free_terms, is_none, balance, without_word, not_zero_by, only_term, not_zero_if, not_zero}
use Rattle.flag_parts.proofs.Held.{without_holds}

-- ---- the loop over the terms

counted_push : (ts : List Term) (t : Term) → counted (ts ++ t ∷ []) ≡ with_free (counted ts) t
counted_push [] t = refl
counted_push (u ∷ []) t = refl
counted_push (u ∷ v ∷ ts) t = refl

filter_push : (box : Box) (ts : List Term) (t : Term) → counted (filter (is_free box) (ts ++ t ∷ [])) ≡ with_term box (counted (filter (is_free box) ts)) t
filter_push box ts t = ap counted (filter-append (is_free box) ts (t ∷ [])) ∙ last (is_free box t) refl
  where
    last : (b : Bool) → is_free box t ≡ b → counted (filter (is_free box) ts ++ filter (is_free box) (t ∷ [])) ≡ with_term box (counted (filter (is_free box) ts)) t
    last true e = rw e (counted_push (filter (is_free box) ts) t)
    last false e = rw e (ap counted (append_nothing (filter (is_free box) ts)))
      where
        append_nothing : (us : List Term) → us ++ [] ≡ us
        append_nothing [] = refl
        append_nothing (u ∷ us) = ap (λ vs. u ∷ vs) (append_nothing us)

pub free_more : (box : Box) (ts : List Term) (k : ℕ) (t : Term) (free : FreeTerms) → free ≡ free_terms box (take k ts) → k < length ts → t ≡ get_or ts k t → with_term box free t ≡ free_terms box (take (k + 1) ts)
free_more box ts k t free e inside at =
    let more : take (k + 1) ts ≡ take k ts ++ t ∷ [] = take_more ts k t inside ∙ ap (λ (u : Term). take k ts ++ u ∷ []) (sym at) in
    ap (λ f. with_term box f t) e ∙ sym (ap (free_terms box) more ∙ filter_push box (take k ts) t)

-- ---- the value by the free terms

module _ (box : Box) (x : Valuation) (known : (v : Variable) → is_single (box v) ≡ true → x v ≡ (box v).low) where
  total_by_free : (ts : List Term) → total (whole x) ts ≡ total (known_part box) ts +ℤ total (whole x) (filter (is_free box) ts)
  total_by_free [] = refl
  total_by_free (t ∷ ts) = at (is_single (box t.variable)) refl (total_by_free ts)
    where
      at : (b : Bool) → is_single (box t.variable) ≡ b → total (whole x) ts ≡ total (known_part box) ts +ℤ total (whole x) (filter (is_free box) ts) → total (whole x) (t ∷ ts) ≡ total (known_part box) (t ∷ ts) +ℤ total (whole x) (filter (is_free box) (t ∷ ts))
      at true e rest =
          let same : pos (x t.variable) ≡ pos (box t.variable).low = ap pos (known t.variable e) in
          let product = ap (λ n. t.coefficient *ℤ n) same in
          rw e (omega (arith, ints, product, rest))
      at false e rest =
          let none = *ℤ-zero t.coefficient in
          rw e (omega (arith, ints, none, rest))

  pub value_by_free : (s : LinearView) → value (whole x) s ≡ known_value box s +ℤ total (whole x) (filter (is_free box) s.terms)
  value_by_free s = omega (arith, ints, total_by_free s.terms)

one_counted : (ts : List Term) (t : Term) → counted ts ≡ One t → ts ≡ t ∷ []
one_counted [] t e = cc
one_counted (u ∷ []) t e = let same : u ≡ t = cc in ap (λ w. w ∷ []) same
one_counted (u ∷ v ∷ ts) t e = cc

only_is : (ts : List Term) (t : Term) → only_term ts ≡ Some t → ts ≡ t ∷ []
only_is [] t e = cc
only_is (u ∷ []) t e = let same : u ≡ t = cc in ap (λ w. w ∷ []) same
only_is (u ∷ v ∷ ts) t e = cc

none_counted : (ts : List Term) → counted ts ≡ Nothing → ts ≡ []
none_counted [] e = refl
none_counted (u ∷ []) e = cc
none_counted (u ∷ v ∷ ts) e = cc

-- ---- the balancing word

zero_if_none : (z : ℤ) → is_none z ≡ true → z ≡ pos 0
zero_if_none z e = let none : unsigned_abs z ≡ 0 = eqb-true _ _ e in omega (arith, ints)

none_if_zero : (z : ℤ) → z ≡ pos 0 → is_none z ≡ true
none_if_zero z e = ap is_none e

second : (a b : Bool) → (a && b) ≡ true → b ≡ true
second true b e = e
second false b e = cc

balanced_if : (coefficient constant : ℤ) (word n : ℕ) (b : Bool) → (nat_le word 65535 && is_none (coefficient *ℤ pos word +ℤ constant)) ≡ b → cond b (Some word) None ≡ Some n → coefficient *ℤ pos n +ℤ constant ≡ pos 0
balanced_if coefficient constant word n true t e =
    let same : word ≡ n = cc in
    subst (λ (k : ℕ). coefficient *ℤ pos k +ℤ constant ≡ pos 0) same (zero_if_none _ (second _ _ t))
balanced_if coefficient constant word n false t e = cc

balanced : (coefficient constant : ℤ) (n : ℕ) → balance coefficient constant ≡ Some n → coefficient *ℤ pos n +ℤ constant ≡ pos 0
balanced coefficient constant n e =
    balanced_if coefficient constant (unsigned_abs constant / unsigned_abs coefficient) n _ refl e

-- ---- the state

module _ (cells : List KeptCell) (entry : Entry) (m : Seen) (i : IsRegs m.regs) (s : AbsState) (h : Holds s cells entry m) (linear : LinearView) (other : value (whole (value_in m)) linear ≢ pos 0) where
  known_there : (v : Variable) → is_single (range_of s v) ≡ true → value_in m v ≡ (range_of s v).low
  known_there v e =
      let same : (range_of s v).low ≡ (range_of s v).high = eqb-true _ _ e in
      let lies = variable_lies s cells entry m i h v in
      omega (arith, same, lies.0, lies.1)

  word_holds : (t : Term) (constant : ℤ) → value (whole (value_in m)) linear ≡ constant +ℤ t.coefficient *ℤ pos (value_in m t.variable) → (o : Option ℕ) → balance t.coefficient constant ≡ o → IsSomeAnd (without_word s t.variable o) (λ u. Holds u cells entry m)
  word_holds t constant is None e = h
  word_holds t constant is (Some n) e =
      without_holds cells entry m i s h t.variable n (λ same.
      let zero = balanced t.coefficient constant n e in
      let product = ap (λ (k : ℕ). t.coefficient *ℤ pos k) same in
      other (omega (arith, ints, is, zero, product)))

  constant_holds : free_terms (range_of s) linear.terms ≡ Nothing → (b : Bool) → is_none (known_value (range_of s) linear) ≡ b → IsSomeAnd (cond b None (Some s)) (λ u. Holds u cells entry m)
  constant_holds e true t =
      let none = none_counted (filter (is_free (range_of s)) linear.terms) e in
      let rest : total (whole (value_in m)) (filter (is_free (range_of s)) linear.terms) ≡ pos 0 = ap (total (whole (value_in m))) none in
      let is = value_by_free (range_of s) (value_in m) known_there linear in
      let zero = zero_if_none (known_value (range_of s) linear) t in
      absurd (other (omega (arith, ints, is, rest, zero)))
  constant_holds e false t = h

  by_free : (free : FreeTerms) → free_terms (range_of s) linear.terms ≡ free → IsSomeAnd (not_zero_by free (known_value (range_of s) linear) s) (λ u. Holds u cells entry m)
  by_free Nothing e = constant_holds e (is_none (known_value (range_of s) linear)) refl
  by_free (One t) e =
      let one = one_counted (filter (is_free (range_of s)) linear.terms) t e in
      let rest : total (whole (value_in m)) (filter (is_free (range_of s)) linear.terms) ≡ t.coefficient *ℤ pos (value_in m t.variable) +ℤ pos 0 = ap (total (whole (value_in m))) one in
      let is = value_by_free (range_of s) (value_in m) known_there linear in
      word_holds t (known_value (range_of s) linear) (omega (arith, ints, is, rest)) (balance t.coefficient (known_value (range_of s) linear)) refl
  by_free More e = h

  by_only : (o : Option Term) → only_term linear.terms ≡ o → IsSomeAnd (not_zero_if o linear s) (λ u. Holds u cells entry m)
  by_only None e = by_free (free_terms (range_of s) linear.terms) refl
  by_only (Some t) e =
      let all : total (whole (value_in m)) linear.terms ≡ t.coefficient *ℤ pos (value_in m t.variable) +ℤ pos 0 = ap (total (whole (value_in m))) (only_is linear.terms t e) in
      word_holds t linear.constant (omega (arith, ints, all)) (balance t.coefficient linear.constant) refl

  pub not_zero_holds : IsSomeAnd (not_zero linear s) (λ u. Holds u cells entry m)
  not_zero_holds = by_only (only_term linear.terms) refl

-- ---- the loop of the known value

pub known_small : (z : Variable → ℤ) (sum : ℤ) (s : LinearView) (ts : List Term) (k : ℕ) → IsTotalSoFar z s.constant sum (take k ts) → ts ≡ s.terms → IsLinear s → unsigned_abs sum < 2 ^ 57
known_small z sum s ts k h same linear =
    let part = sum_by-take-le (λ (u : Term). unsigned_abs u.coefficient) ts k in
    let whole_weight : weight ts ≡ weight s.terms = ap weight same in
    let light = light_terms s.terms linear.count (small_terms s linear) in
    omega (arith, h.size, part, whole_weight, light, linear.constant)

pub known_whole : (z : Variable → ℤ) (sum : ℤ) (s : LinearView) (ts : List Term) (k : ℕ) → IsTotalSoFar z s.constant sum (take k ts) → ts ≡ s.terms → length ts ≤ k → sum ≡ value z s
known_whole z sum s ts k h same all = total_whole z s.constant sum s ts k h same all

-- ---- the only free term is one of the terms

filter_head : (Q : Term → Type 0) (p : Term → Bool) (ts : List Term) (t : Term) (us : List Term) → filter p ts ≡ t ∷ us → All Q ts → Q t
filter_head Q p [] t us e h = cc
filter_head Q p (v ∷ ts) t us e h = by_test (p v) refl (filter_head Q p ts t us)
  where
    by_test : (b : Bool) → p v ≡ b → (filter p ts ≡ t ∷ us → All Q ts → Q t) → Q t
    by_test true f rest = let here = rw f at e in let same : v ≡ t = cc in subst Q same (All-head Q v ts h)
    by_test false f rest = let here = rw f at e in rest here (All-tail Q v ts h)

pub one_of : (Q : Term → Type 0) (box : Box) (ts : List Term) (t : Term) → free_terms box ts ≡ One t → All Q ts → Q t
one_of Q box ts t e h = filter_head Q (is_free box) ts t [] (one_counted (filter (is_free box) ts) t e) h

pub free_coefficient : (box : Box) (s : LinearView) (ts : List Term) (t : Term) → ts ≡ s.terms → IsLinear s → free_terms box ts ≡ One t → 0 < unsigned_abs t.coefficient
free_coefficient box s ts t same linear e =
    let there : free_terms box s.terms ≡ One t = subst (λ (us : List Term). free_terms box us ≡ One t) same e in
    let both = one_of (λ (u : Term). (0 < unsigned_abs u.coefficient) × (unsigned_abs u.coefficient ≤ 1000000)) box s.terms t there linear.coefficients in
    both.0
