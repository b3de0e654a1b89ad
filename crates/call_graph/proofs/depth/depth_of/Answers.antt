use Rattle.std.proofs.Common.{rules, ◌≡◌, ◌+◌, ◌<◌, ◌≤◌, length, slice_index, max, arith, inl, inr}
use Rattle.std.proofs.lemmas.Bool.{cases_lt, cases_eq}
use Rattle.call_graph.specs.Depths.{call_at}
use Rattle.call_graph.proofs.DepthLemmas.{rest_is_above}
use Rattle.call_graph.proofs.depth.depth_of.Goals as goal

pub returns-then-call-proc-clause-held : goal.returns-then-call-proc-clause-held
returns-then-call-proc-clause-held c = λ i h is. elim (cases_lt i c.loop-at.at) [
  | inl l ↦ c.loop-at.invariant.held_bytes i l h is
  | inr l ↦ absurd (rest_is_above c.args.calls.now c.args.proc c.loop-at.at c.requires.rising (omega arith)
      (c.first_call-at.ensures.from c.loop-at.at (record { caller = 0; callee = 0; held = 0 }) (omega arith) (omega arith)) c.if-call-proc.true i l h is)
]

pub loop-at-preserved : goal.loop-at-preserved
loop-at-preserved c =
    let kept = c.loop-at.invariant in
    let at = c.loop-at.at in
    let inside : at < length c.args.calls.now = omega arith in
    let value : c.max-depth.result ≡ max c.loop-at.depth ((call_at c.args.calls.now at).held + slice_index c.args.depths.now (call_at c.args.calls.now at).callee) =
    rw (c.from.ensures, c.from-in-loop-at.ensures) at c.max-depth.ensures in
    let small : (call_at c.args.calls.now at).held < 4294967296 = search rules in
    record {
      own_bytes = (let old : c.args.own ≤ c.loop-at.depth = kept.own_bytes in omega arith);
      held_bytes = λ i l h is. elim (cases_eq i at) [
        | inl e ↦ rw e (omega arith)
        | inr ne ↦ let old : (call_at c.args.calls.now i).held + slice_index c.args.depths.now (call_at c.args.calls.now i).callee ≤ c.loop-at.depth = kept.held_bytes i (omega arith) h is in omega arith
      ];
      least = λ most own all. let old : c.loop-at.depth ≤ most = kept.least most own all in let new = all at inside c.if-call-proc.false in omega arith;
      low = λ most all. let old : c.loop-at.depth ≤ most + 4294967296 = kept.low most all in let new = all at inside c.if-call-proc.false in omega arith;
    }
