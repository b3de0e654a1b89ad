use Rattle.check_claims.proofs.RegisterLemmas.{after_named}
use Rattle.check_claims.proofs.laws.conditions_name_registers.Goals as goal

pub returns : goal.returns
returns c = λ instr byte parts carry. after_named instr byte carry
