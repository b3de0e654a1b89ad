use Rattle.std.proofs.Common.{◌≡◌, ◌∙◌, ◌+◌, ◌<◌, ℕ, List, ◌∷◌, [], drop, length, get_or, Option, Some, None, sym, ap, subst, arith, option_and_then}
use Rattle.std.proofs.lemmas.List.{at_drop_more, drop_all}
use Rattle.abs_state.specs.Variables.{range_of, cut_to}
use Rattle.abs_state.specs.declared.state.AbsState.{AbsState}
use Rattle.loop_bounds.specs.Linear.{LinearView}
use Rattle.loop_bounds.specs.Tighten.{tightened}
use Rattle.check_cover.specs.Covering.{tightened_by}
use Rattle.check_cover.proofs.knowing.tightened.Goals as goal

-- the facts that are left, applied to a state, after one step
one_step : (facts : List LinearView) (n : ℕ) (fact : LinearView) (state : AbsState) (next : Option AbsState) → n < length facts → fact ≡ get_or facts n fact →
    tightened range_of cut_to fact state ≡ next → tightened_by (drop n facts) state ≡ option_and_then (tightened_by (drop (n + 1) facts)) next
unfolding tightened_by
one_step facts n fact state next within is e =
    at_drop_more (λ (fs : List LinearView). tightened_by fs state) facts n fact within
    ∙ ap (λ (f : LinearView). tightened_by (f ∷ drop (n + 1) facts) state) (sym is)
    ∙ ap (λ (o : Option AbsState). option_and_then (tightened_by (drop (n + 1) facts)) o) e

pub returns-then-not-tighten : goal.returns-then-not-tighten
returns-then-not-tighten c =
    sym (c.loop-fact.invariant ∙ one_step c.args.facts.now c.loop-fact.fact-index c.fact-item.result c.loop-fact.left None c.loop-fact-test.true c.fact-item.is c.if-not-tighten.ensures.exact)

pub loop-fact-preserved : goal.loop-fact-preserved
loop-fact-preserved c =
    c.loop-fact.invariant ∙ one_step c.args.facts.now c.loop-fact.fact-index c.fact-item.result c.loop-fact.left (Some c.tighten.new.self) c.loop-fact-test.true c.fact-item.is c.if-not-tighten.ensures.exact

-- once each fact was applied, the state is what is left
at_end : (facts : List LinearView) (n : ℕ) (state : AbsState) → length facts ≡ n → tightened_by (drop n facts) state ≡ Some state
unfolding tightened_by
at_end facts n state e = ap (λ (fs : List LinearView). tightened_by fs state) (subst (λ m. drop m facts ≡ []) e (drop_all (length facts) facts (omega arith)))

pub returns : goal.returns
returns c = sym (c.loop-fact.invariant ∙ at_end c.args.facts.now c.loop-fact.fact-index c.loop-fact.left (omega (arith, c.loop-fact-test.false, c.loop-fact.auto.fact-index-end)))
