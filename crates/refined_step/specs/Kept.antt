-- What a refined step keeps (docs/CHECKER.md, "The refined step").
use Rattle.std.specs.Prelude.{◌≡◌, ℕ, Bool, List, Option, Ok, IfSome, pos}
use Rattle.address_map.specs.declared.region.Region.{Region}
use Rattle.loop_bounds.specs.Effect.{whole}
use Rattle.loop_bounds.specs.Linear.{value}
use Rattle.z80_alu.specs.Flags.{flags_of}
use Rattle.z80_alu.specs.declared.regs.Regs.{Regs}
use Rattle.z80_decode.specs.declared.instr.Instr.{Instr}
use Rattle.board_step.specs.Context.{ContextView}
use Rattle.board_step.specs.Hardware.{hardware_of}
use Rattle.board_step.specs.Step.{done}
use Rattle.abs_state.specs.Seen.{Seen}
use Rattle.abs_state.specs.Variables.{value_in}
use Rattle.abs_state.specs.declared.state.AbsState.{AbsState}
use Rattle.abs_draft.specs.Ground.{GroundView}
use Rattle.abs_step.specs.Contained.{After, Before, IsInOrder, Running, seen_of}
use Rattle.abs_step.specs.Successors.{writes_of}
use Rattle.abs_step.specs.declared.next.Next.{Next}
use Rattle.flag_parts.specs.Parts.{AreSeen, HoldsParts}
use Rattle.flag_letters.specs.declared.part.FlagPart.{FlagPart}
use Rattle.flag_conditions.specs.Conditions.{StepConditionsView}
use Rattle.linear_effects.specs.declared.variable_effect.LinearEffect.{LinearEffect}

-- Each condition is true of F after the step: one before at the values before, one after at the values after. The
-- linear effect is true of the values before and after.
pub record AreTrueOfStep (conditions : StepConditionsView) (effect : Option LinearEffect) (old : Seen) (new : Regs) : Type 0 where
  pub before : HoldsParts conditions.before (flags_of new.main.f) (value_in old)
  pub after : (n : Seen) → n.regs ≡ new → AreSeen conditions.after n
  pub becomes : IfSome effect (λ e. (n : Seen) → n.regs ≡ new → pos (value_in n e.variable) ≡ value (whole (value_in old)) e.linear)

-- on every board of which the row and its parts hold, the instruction does what `After` says, where no reason applies,
-- and its conditions and its linear effect are true
abbrev pub KeepsRefined : GroundView → ℕ → Bool → AbsState → Instr → List FlagPart → List Next → StepConditionsView → Option LinearEffect → Type 0
KeepsRefined g address main a instr parts nexts conditions effect =
    (region : Region) (running : Running) (c : ContextView) → c.hardware ≡ hardware_of g.rom g.map → c.state.regs.pc ≡ address
    → running.main ≡ main → Before g.cells region running a c → AreSeen parts (seen_of g.cells running.words c.state)
    → IsInOrder g region running a instr (writes_of g address a (Ok instr)) nexts
    → After g.cells region running a instr (writes_of g address a (Ok instr)) nexts c
    × AreTrueOfStep conditions effect (seen_of g.cells running.words c.state) (done c instr).regs
