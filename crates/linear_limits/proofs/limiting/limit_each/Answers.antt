use Rattle.std.proofs.Common.{◌≡◌, ◌∙◌, sym, Some, arith}
use Rattle.intervals.specs.Range.{RangeView, Within}
use Rattle.loop_bounds.proofs.TightenLemmas.{kept_some, kept_none}
use Rattle.linear_limits.specs.Limit.{limit_left}
use Rattle.linear_limits.proofs.LimitLemmas.{limit_kept, coefficient_small, goes_on, nothing_left, nothing_cut}
use Rattle.linear_limits.proofs.limiting.limit_each.Goals as goal

pub limit_left-requires : goal.limit_left-requires
limit_left-requires g c =
    let both = coefficient_small c.args.linear.now _ c.loop-term.term-index c.term-item.result c.terms-term-items.ensures.value c.terms-term-items.ensures.linear c.loop-term-test.true c.term-item.is in
    record { coefficient = both.0; small = omega arith }

pub returns-in_default-clause-exact : goal.returns-in_default-clause-exact
returns-in_default-clause-exact g c =
    c.loop-term.invariant.exact ∙ nothing_left g.S.Ranges.range_of g.S.Tightenable.cut_to c.args.side c.args.linear.now c.terms-term-items.result.now c.loop-term.term-index c.term-item.result c.loop-term.state c.loop-term-test.true c.term-item.is (sym c.limit_left.ensures ∙ c.in_default.is)

pub returns-then-not-cut-clause-exact : goal.returns-then-not-cut-clause-exact
returns-then-not-cut-clause-exact g c =
    c.loop-term.invariant.exact ∙ nothing_cut g.S.Ranges.range_of g.S.Tightenable.cut_to c.args.side c.args.linear.now c.terms-term-items.result.now c.loop-term.term-index c.term-item.result c.loop-term.state c.loop-term-test.true c.term-item.is c.in-Some.left (sym c.in-Some.ensures) c.if-not-cut.ensures.exact

pub returns-in_default-clause-keeps : goal.returns-in_default-clause-keeps
returns-in_default-clause-keeps g c = λ x h on.
    let t = c.term-item.result in
    let s = c.loop-term.state in
    let held = c.loop-term.invariant.keeps x h on in
    let kept = limit_kept (g.S.Ranges.range_of s) c.args.linear.now _ c.loop-term.term-index t x c.terms-term-items.ensures.value c.terms-term-items.ensures.linear c.loop-term-test.true c.term-item.is (λ v. g.met.S.Tightenable.in_ranges s x v held) c.args.side on in
    absurd (kept_none _ (λ (q : RangeView). Within q (x t.variable)) (sym c.limit_left.ensures ∙ c.in_default.is) kept)

pub returns-then-not-cut-clause-keeps : goal.returns-then-not-cut-clause-keeps
returns-then-not-cut-clause-keeps g c = λ x h on.
    let t = c.term-item.result in
    let s = c.loop-term.state in
    let held = c.loop-term.invariant.keeps x h on in
    let kept = limit_kept (g.S.Ranges.range_of s) c.args.linear.now _ c.loop-term.term-index t x c.terms-term-items.ensures.value c.terms-term-items.ensures.linear c.loop-term-test.true c.term-item.is (λ v. g.met.S.Tightenable.in_ranges s x v held) c.args.side on in
    let share : limit_left c.args.side c.args.linear.now (g.S.Ranges.range_of s) t ≡ Some c.in-Some.left = sym c.in-Some.ensures in
    let inside = kept_some _ c.in-Some.left (λ (q : RangeView). Within q (x t.variable)) share kept in
    let next = g.met.S.Tightenable.keeps s x t.variable c.in-Some.left held inside in
    absurd (kept_none _ (λ u. g.S.Tightenable.holds u x) c.if-not-cut.ensures.exact next)

pub loop-term-preserved : goal.loop-term-preserved
loop-term-preserved g c =
    let t = c.term-item.result in
    let s = c.loop-term.state in
    let share : limit_left c.args.side c.args.linear.now (g.S.Ranges.range_of s) t ≡ Some c.in-Some.left = sym c.in-Some.ensures in
    record {
      exact = c.loop-term.invariant.exact ∙ goes_on g.S.Ranges.range_of g.S.Tightenable.cut_to c.args.side c.args.linear.now c.terms-term-items.result.now c.loop-term.term-index t s c.loop-term-test.true c.term-item.is c.in-Some.left c.cut.new.self share c.if-not-cut.ensures.exact;
      keeps = λ x h on.
          let held = c.loop-term.invariant.keeps x h on in
          let kept = limit_kept (g.S.Ranges.range_of s) c.args.linear.now _ c.loop-term.term-index t x c.terms-term-items.ensures.value c.terms-term-items.ensures.linear c.loop-term-test.true c.term-item.is (λ v. g.met.S.Tightenable.in_ranges s x v held) c.args.side on in
          let inside = kept_some _ c.in-Some.left (λ (q : RangeView). Within q (x t.variable)) share kept in
          kept_some _ c.cut.new.self (λ u. g.S.Tightenable.holds u x) c.if-not-cut.ensures.exact (g.met.S.Tightenable.keeps s x t.variable c.in-Some.left held inside);
    }
