use Rattle.refined_step.proofs.Answered.{three_ok}
use Rattle.refined_step.proofs.Assembled.{answered_keeps}
use Rattle.refined_step.proofs.refined.refined_step.Goals as goal

pub returns-clause-keeps : goal.returns-clause-keeps
returns-clause-keeps c =
    three_ok c.refined_answer-refined.result _ _ _ _ c.refined_answer-refined.ensures.fits c.refined_answer-refined.ensures.ok c.refined_answer-refined.ensures.narrows
    (λ nexts fits answer narrows stands.
    answered_keeps c.args.ground.now c.args.address c.args.main c.args.inline c.args.state.now c.args.instr.now c.args.parts.now nexts.items _ c.known_carry-carry.result c.conditions-found.result c.linear_effect-linear.result c.carried_range-carried.result
    c.row_step-writes.ensures.operand c.known_carry-carry.ensures.exact c.conditions-found.ensures.exact c.linear_effect-linear.ensures.exact c.carried_range-carried.ensures.exact
    fits answer c.known_carry-carry.ensures.holds c.conditions-found.ensures.of_machines c.linear_effect-linear.ensures.of_machines c.carried_range-carried.ensures.of_machines narrows stands)
