use Rattle.std.proofs.Common.{◌≡◌, ◌∙◌, sym, Some}
use Rattle.intervals.specs.Range.{RangeView, Within}
use Rattle.loop_bounds.specs.Tighten.{share_left}
use Rattle.loop_bounds.proofs.TightenLemmas.{share_kept, kept_some, kept_none, goes_on, goes_after, no_share_after, no_cut_after}
use Rattle.loop_bounds.proofs.tightening.tighten.Goals as goal

pub returns-in_default-clause-keeps : goal.returns-in_default-clause-keeps
returns-in_default-clause-keeps g c = λ x h z.
    let t = c.term-item.result in
    let s = c.loop-place.state in
    let held = c.loop-place.invariant.1 x h z in
    let kept = share_kept (g.S.Ranges.range_of s) c.args.fact.now _ c.loop-place.place t x c.terms-term-items.ensures.value c.terms-term-items.ensures.linear c.loop-place-test.true c.term-item.is (λ v. g.met.S.Tightenable.in_ranges s x v held) z in
    absurd (kept_none _ (λ (q : RangeView). Within q (x t.variable)) (sym c.share_left.ensures ∙ c.in_default.is) kept)

pub returns-then-not-cut-clause-keeps : goal.returns-then-not-cut-clause-keeps
returns-then-not-cut-clause-keeps g c = λ x h z.
    let t = c.term-item.result in
    let s = c.loop-place.state in
    let held = c.loop-place.invariant.1 x h z in
    let kept = share_kept (g.S.Ranges.range_of s) c.args.fact.now _ c.loop-place.place t x c.terms-term-items.ensures.value c.terms-term-items.ensures.linear c.loop-place-test.true c.term-item.is (λ v. g.met.S.Tightenable.in_ranges s x v held) z in
    let share : share_left c.args.fact.now (g.S.Ranges.range_of s) c.loop-place.place t ≡ Some c.in-Some.left = sym c.in-Some.ensures in
    let inside = kept_some _ c.in-Some.left (λ (q : RangeView). Within q (x t.variable)) share kept in
    let next = g.met.S.Tightenable.keeps s x t.variable c.in-Some.left held inside in
    absurd (kept_none _ (λ u. g.S.Tightenable.holds u x) c.if-not-cut.ensures.exact next)

pub loop-place-preserved : goal.loop-place-preserved
loop-place-preserved g c =
    let t = c.term-item.result in
    let s = c.loop-place.state in
    let share : share_left c.args.fact.now (g.S.Ranges.range_of s) c.loop-place.place t ≡ Some c.in-Some.left = sym c.in-Some.ensures in
    let on = goes_on g.S.Ranges.range_of g.S.Tightenable.cut_to c.args.fact.now c.terms-term-items.result.now c.loop-place.place t s c.loop-place-test.true c.term-item.is c.in-Some.left c.cut.new.self share c.if-not-cut.ensures.exact in (
      c.loop-place.invariant.0 ∙ on,
      λ x h z.
          let held = c.loop-place.invariant.1 x h z in
          let kept = share_kept (g.S.Ranges.range_of s) c.args.fact.now _ c.loop-place.place t x c.terms-term-items.ensures.value c.terms-term-items.ensures.linear c.loop-place-test.true c.term-item.is (λ v. g.met.S.Tightenable.in_ranges s x v held) z in
          let inside = kept_some _ c.in-Some.left (λ (q : RangeView). Within q (x t.variable)) share kept in
          kept_some _ c.cut.new.self (λ u. g.S.Tightenable.holds u x) c.if-not-cut.ensures.exact (g.met.S.Tightenable.keeps s x t.variable c.in-Some.left held inside),
      c.loop-place.invariant.2 ∙ goes_after g.S.Ranges.range_of g.S.Tightenable.cut_to c.args.fact.now c.terms-term-items.result.now c.loop-place.place t s c.loop-place-test.true c.term-item.is c.in-Some.left c.cut.new.self share c.if-not-cut.ensures.exact,
    )

pub returns-in_default-clause-stopped : goal.returns-in_default-clause-stopped
returns-in_default-clause-stopped g c =
    sym (c.loop-place.invariant.2 ∙ no_share_after g.S.Ranges.range_of g.S.Tightenable.cut_to c.args.fact.now c.terms-term-items.result.now c.loop-place.place c.term-item.result c.loop-place.state c.loop-place-test.true c.term-item.is (sym c.share_left.ensures ∙ c.in_default.is))

pub returns-then-not-cut-clause-stopped : goal.returns-then-not-cut-clause-stopped
returns-then-not-cut-clause-stopped g c =
    c.if-not-cut.ensures.unchanged
    ∙ sym (c.loop-place.invariant.2 ∙ no_cut_after g.S.Ranges.range_of g.S.Tightenable.cut_to c.args.fact.now c.terms-term-items.result.now c.loop-place.place c.term-item.result c.loop-place.state c.loop-place-test.true c.term-item.is c.in-Some.left (sym c.in-Some.ensures) c.if-not-cut.ensures.exact)
