use Rattle.std.proofs.Common.{sym, ◌∙◌}
use Rattle.std.proofs.lemmas.Bool.{false≢true}
use Rattle.check_ways.proofs.PayingLemmas.{all_pay}
use Rattle.check_ways.proofs.paying.pays.Goals as goal

pub returns : goal.returns
returns c =
    let whole =
    all_pay c.args.subject.now c.args.nexts.now c.requires.step (c.has_potential.ensures.0 c.if-not-has_potential.false) (c.overlaps_entry.ensures.0 c.if-not-overlaps_entry.false) in
    ((λ told. whole.0 (c.nexts_pay.ensures.0 told)), (λ pays. c.nexts_pay.ensures.1 (whole.1 pays)))

pub returns-then-not-overlaps_entry : goal.returns-then-not-overlaps_entry
returns-then-not-overlaps_entry c = (
  (λ told. absurd (false≢true told)),
  (λ pays. sym c.if-not-overlaps_entry.true ∙ c.overlaps_entry.ensures.1 pays.entry),
)
