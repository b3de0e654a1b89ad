use Rattle.std.proofs.Common.{◌≡◌, ◌∙◌, sym, ap, subst, Option, Bool}
use Rattle.std.specs.Prelude.{IfSome}
use Rattle.abs_state.specs.CutLaws.{variable_lies}
use Rattle.abs_state.specs.Variables.{range_of, value_in}
use Rattle.z80_alu.specs.Flags.{flags_of}
use Rattle.flag_parts.specs.Carry.{known_carry}
use Rattle.flag_parts.proofs.CarryLemmas.{carry_known}
use Rattle.flag_parts.proofs.carry.known_carry.Goals as goal

pub returns-clause-holds : goal.returns-clause-holds
returns-clause-holds c = λ cells entry m i h seen.
    let exact = c.first_told.ensures ∙ ap (known_carry (range_of c.args.state.now)) c.parts.ensures.value in
    subst (λ (o : Option Bool). IfSome o (λ carry. (flags_of m.regs.main.f).carry ≡ carry)) (sym exact)
    (carry_known (range_of c.args.state.now) (flags_of m.regs.main.f) (value_in m) (variable_lies c.args.state.now cells entry m i h) c.args.parts.now seen)
