use Rattle.std.proofs.Common.{◌∙◌, ap, take_all}
use Rattle.flag_parts.specs.Excluding.{free_terms}
use Rattle.flag_parts.proofs.ExcludingLemmas.{free_more}
use Rattle.flag_parts.proofs.excluding.free_terms.Goals as goal

pub loop-term-preserved : goal.loop-term-preserved
loop-term-preserved g c =
    c.with_term-free.ensures ∙ free_more (g.R.Ranges.range_of c.args.ranges.now) c.args.terms.now c.loop-term.term-index c.term-item.result c.loop-term.free c.loop-term.invariant c.loop-term-test.true c.term-item.is

pub returns : goal.returns
returns g c =
    c.loop-term.invariant ∙ ap (free_terms (g.R.Ranges.range_of c.args.ranges.now)) (take_all c.loop-term.term-index c.args.terms.now c.loop-term-test.false)
