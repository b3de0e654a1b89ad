use Rattle.check_payments.proofs.PayingLemmas.{first_way, second_way}
use Rattle.check_payments.proofs.paying.pays_either_way.Goals as goal

pub returns-then-pays_rewritten : goal.returns-then-pays_rewritten
returns-then-pays_rewritten g c =
    first_way _ _ c.pays_rewritten.result c.if-pays_rewritten.true (rw c.constants_first.ensures.exact at c.pays_rewritten.ensures)

pub returns-else-pays_rewritten : goal.returns-else-pays_rewritten
returns-else-pays_rewritten g c =
    let other = c.pays_rewritten-else-pays_rewritten in
    second_way _ _ c.pays_rewritten.result other.result c.if-pays_rewritten.false (rw c.constants_first.ensures.exact at c.pays_rewritten.ensures) (rw c.variables_first.ensures.exact at other.ensures)
