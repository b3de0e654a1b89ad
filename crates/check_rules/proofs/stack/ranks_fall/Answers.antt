use Rattle.check_rules.proofs.WaysOn.{each_rank_falls, ranks_fall}
use Rattle.check_rules.proofs.stack.ranks_fall.Goals as goal

pub returns : goal.returns
returns c = (
  λ e. ranks_fall c.args.subject.now c.args.nexts.now c.requires (c.all_ranks_fall.ensures.0 e),
  λ all. c.all_ranks_fall.ensures.1 (each_rank_falls c.args.subject.now c.args.nexts.now c.requires all),
)
