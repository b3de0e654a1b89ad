-- What is seen of a machine before and after a step is as a source says: the contract of `seen_steps_are_true`.
use Rattle.std.specs.Prelude.{◌≡◌, pos, IfSome, List}
use Rattle.std.specs.List.{All}
use Rattle.intervals.specs.Domain.{Entry}
use Rattle.abs_state.specs.Holds.{Holds}
use Rattle.abs_state.specs.Seen.{Seen}
use Rattle.abs_state.specs.Variables.{value_in}
use Rattle.abs_state.specs.declared.cell.KeptCell.{KeptCell}
use Rattle.abs_state.specs.declared.state.AbsState.{AbsState}
use Rattle.flag_parts.specs.Parts.{AreSeen, HoldsParts}
use Rattle.loop_bounds.specs.Effect.{whole}
use Rattle.loop_bounds.specs.Linear.{value}
use Rattle.z80_alu.specs.Flags.{flags_of}
use Rattle.z80_draft.specs.Registers.{IsRegs}
use Rattle.check_claims.specs.Source.{StepSourceView}
use Rattle.check_claims.specs.Truth.{AreTrueConditions, ComeBoth, IsTrueSource}

-- the state before the step holds of a machine, the facts are 0, and the linear effect is true of what it becomes
abbrev pub SeenValuesAreTrue : Type 0
SeenValuesAreTrue =
    (s : StepSourceView) (cells : List KeptCell) (entry : Entry) (old new : Seen) → IsRegs old.regs → Holds s.before cells entry old
    → All (λ fact. value (whole (value_in old)) fact ≡ pos 0) s.facts
    → IfSome s.linear (λ e. pos (value_in new e.variable) ≡ value (whole (value_in old)) e.linear)
    → IsTrueSource s (value_in old) (value_in new)

-- the state after the step holds of what the machine becomes, and the conditions are true of its flags
abbrev pub SeenConditionsAreTrue : Type 0
SeenConditionsAreTrue =
    (s : StepSourceView) (after : AbsState) (cells : List KeptCell) (entry : Entry) (old new : Seen) → IsRegs new.regs
    → Holds after cells entry new → HoldsParts s.conditions.before (flags_of new.regs.main.f) (value_in old)
    → AreSeen s.conditions.after new
    → All (λ condition. ComeBoth s (value_in old) (value_in new) condition.linear) s.conditions.after
    → AreTrueConditions s after (flags_of new.regs.main.f) (value_in old) (value_in new)
