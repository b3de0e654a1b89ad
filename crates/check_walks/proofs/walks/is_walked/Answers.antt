use Rattle.std.proofs.Common.{IsSome, sym, subst}
use Rattle.check_ways.specs.Ways.{SubjectView}
use Rattle.check_walks.proofs.WalkLemmas.{walked}
use Rattle.check_walks.proofs.walks.is_walked.Goals as goal

pub returns-then-is_some : goal.returns-then-is_some
returns-then-is_some c =
    let timed = subst (λ (s : SubjectView). IsSome s.proc.time) c.subject.view_is (sym (c.if-is_some.ensures {u = tt})) in
    let whole = walked c.args.subject.now c.args.nexts.now c.requires timed in
    ((λ told. whole.0 (c.calls_are_timed.ensures.0 told)), (λ walks. c.calls_are_timed.ensures.1 (whole.1 walks)))
