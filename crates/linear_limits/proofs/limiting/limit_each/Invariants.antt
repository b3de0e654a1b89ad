use Rattle.std.proofs.Common.{◌≡◌, drop}
use Rattle.loop_bounds.specs.Effect.{Valuation, whole}
use Rattle.loop_bounds.specs.Linear.{value}
use Rattle.linear_limits.specs.Limit.{IsOnSide, limited_by}
use Rattle.linear_limits.proofs.limiting.limit_each.Given as goal

abbrev pub invariant-loop-term : goal.invariant-loop-term
invariant-loop-term g l =
    let by = limited_by g.S.Ranges.range_of g.S.Tightenable.cut_to l.side l.linear in
    record {
      exact : by l.linear.terms l.initial.state ≡ by (drop l.term-index l.term-items) l.state;
      keeps : (x : Valuation) → g.S.Tightenable.holds l.initial.state x → IsOnSide l.side (value (whole x) l.linear) → g.S.Tightenable.holds l.state x;
    }
