-- What the laws of src/machine.rt say: each is the contract of the function with its name.
use Rattle.board_step.specs.State.{AreBytes, BoardView, IsState}
use Rattle.board_step.specs.Env.{IsEnv}
use Rattle.board_step.specs.Hardware.{Hardware}
use Rattle.board_step.specs.Step.{Step}
use Rattle.board_step.specs.declared.env.Env.{Env}
use Rattle.board_step.specs.declared.event.Event.{Event}
use Rattle.board_step.specs.Reached.{Reached}
use Rattle.std.specs.Prelude.{◌≤◌, ◌≡◌, Option}
use Rattle.board_step.specs.Profile.{ProfileView}
use Rattle.board_step.specs.Trap.{Traps}
use Rattle.board_step.specs.declared.profile.Trap.{Trap}

abbrev pub StatesStayInRangeStep : Type 0
StatesStayInRangeStep =
    (hardware : Hardware) (old new : BoardView) (env : Env) (event : Event) → AreBytes hardware.rom → IsState old
    → IsEnv env → Step hardware old env event new → IsState new

abbrev pub StatesStayInRangeReached : Type 0
StatesStayInRangeReached =
    (hardware : Hardware) (s : BoardView) → AreBytes hardware.rom → Reached hardware s → IsState s

abbrev pub EventsTakeTime : Type 0
EventsTakeTime =
    (hardware : Hardware) (old new : BoardView) (env : Env) (event : Event) → Step hardware old env event new
    → (4 ≤ event.t) × (event.t ≤ 23)

abbrev pub StepsAreSingleEvent : Type 0
StepsAreSingleEvent =
    (hardware : Hardware) (old first second : BoardView) (env : Env) (one other : Event)
    → Step hardware old env one first → Step hardware old env other second → one ≡ other

abbrev pub StepsAreSingleState : Type 0
StepsAreSingleState =
    (hardware : Hardware) (old first second : BoardView) (env : Env) (one other : Event)
    → Step hardware old env one first → Step hardware old env other second → first ≡ second

abbrev pub StepsAreSingleTrap : Type 0
StepsAreSingleTrap =
    (profile : ProfileView) (s : BoardView) (env : Env) (one other : Option Trap) → Traps profile s env one
    → Traps profile s env other → one ≡ other
