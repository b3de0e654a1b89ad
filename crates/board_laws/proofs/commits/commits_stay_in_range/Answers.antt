use Rattle.board_step.proofs.StateRangeLemmas.{accepted_keeps, done_keeps}
use Rattle.board_laws.proofs.commits.commits_stay_in_range.Goals as goal

pub returns-clause-instruction : goal.returns-clause-instruction
returns-clause-instruction c = λ c instr bytes state env stands. done_keeps c instr (record { rom = bytes; state = state; env = env }) stands

pub returns-clause-acceptance : goal.returns-clause-acceptance
returns-clause-acceptance c = λ c bytes state env. accepted_keeps c (record { rom = bytes; state = state; env = env })
