use Rattle.std.proofs.Common.{sym}
use Rattle.loop_bounds.specs.Effect.{whole}
use Rattle.loop_bounds.specs.Linear.{value}
use Rattle.abs_state.specs.Variables.{value_in}
use Rattle.z80_alu.specs.Flags.{flags_of}
use Rattle.flag_parts.proofs.NarrowingLemmas.{as_said}
use Rattle.flag_parts.proofs.narrowing.narrow_by_part.Goals as goal

pub returns-in-Some-clause-holds : goal.returns-in-Some-clause-holds
returns-in-Some-clause-holds c = λ cells entry m i h part met.
    c.narrow_by.ensures.holds cells entry m i h (as_said c.args.part.now.letter c.args.condition (flags_of m.regs.main.f) (value (whole (value_in m)) c.args.part.now.linear) c.in-Some.said (sym c.in-Some.ensures) part met)
