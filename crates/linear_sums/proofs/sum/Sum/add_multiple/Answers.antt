use Rattle.std.proofs.Common.{◌+◌, arith}
use Rattle.linear_sums.proofs.SumLemmas.{made_wider}
use Rattle.linear_sums.proofs.sum.Sum.add_multiple.Goals as goal

pub returns-clause-room : goal.returns-clause-room
returns-clause-room c = λ count h.
    made_wider c.add_terms.new.self (count + 1 + 3) (count + 4) (omega arith) (c.add_terms.ensures.room (count + 1) (c.raise.ensures.room count h))
