use Rattle.std.proofs.Common.{subst}
use Rattle.check_ways.proofs.TopLemmas.{pays_a_way}
use Rattle.check_ways.specs.Parts.{AreNumbersAt, PaysAll}
use Rattle.check_ways.specs.Ways.{SubjectView, WayView}
use Rattle.check_ways.proofs.paying.pays_way.Goals as goal

pub returns-then-pays_top : goal.returns-then-pays_top
returns-then-pays_top c = (
  (λ yes.
      pays_a_way c.args.subject.now c.args.way.now c.rows-rows.result.start c.rows-rows.result.end
      (subst (λ (s : SubjectView). AreNumbersAt s.cert c.args.way.now.arrival c.rows-rows.result.start c.rows-rows.result.end) c.subject.view_is c.rows-rows.ensures.at)
      (subst (λ (w : WayView). PaysAll c.args.subject.now c.rows-rows.result.start c.rows-rows.result.end w.cost) c.way.view_is
      (c.pays_top.ensures c.if-pays_top.true))),
  (λ all. c.if-pays_top.true),
)
