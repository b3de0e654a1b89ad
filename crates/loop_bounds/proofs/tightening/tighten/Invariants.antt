use Rattle.std.proofs.Common.{◌≡◌, drop, pos}
use Rattle.loop_bounds.specs.Linear.{value}
use Rattle.loop_bounds.specs.Effect.{Valuation, whole}
use Rattle.loop_bounds.specs.Tighten.{tightened, tightened_from, after_last_cut, after_last_cut_from}
use Rattle.loop_bounds.proofs.tightening.tighten.Given as goal

abbrev pub invariant-loop-place : goal.invariant-loop-place
invariant-loop-place g l =
    let range_of = g.S.Ranges.range_of in
    let cut_to = g.S.Tightenable.cut_to in
    (tightened range_of cut_to l.fact l.initial.state ≡ tightened_from range_of cut_to l.fact l.place (drop l.place l.term-items) l.state)
    × ((x : Valuation) → g.S.Tightenable.holds l.initial.state x → value (whole x) l.fact ≡ pos 0 → g.S.Tightenable.holds l.state x)
    × (after_last_cut range_of cut_to l.fact l.initial.state ≡ after_last_cut_from range_of cut_to l.fact l.place (drop l.place l.term-items) l.state)
