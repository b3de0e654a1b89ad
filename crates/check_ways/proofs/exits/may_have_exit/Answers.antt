use Rattle.std.proofs.Common.{sym, ◌∙◌}
use Rattle.check_ways.proofs.ExitLemmas.{may_leave_only}
use Rattle.check_ways.proofs.exits.may_have_exit.Goals as goal

pub returns-in-Some : goal.returns-in-Some
returns-in-Some c =
    λ none.
    may_leave_only c.args.rom.now c.args.certificate.now c.args.id c.in-Some.row (sym (c.in-Some.ensures {u = tt}))
    (λ decoded stands. sym none ∙ c.may_leave.ensures decoded stands)
