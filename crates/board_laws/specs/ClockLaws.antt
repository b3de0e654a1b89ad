-- What the laws of src/clock.rt say: each is the contract of the function with its name.
use Rattle.std.specs.Prelude.{ℕ, ◌≡◌, false, ◌+◌, ◌%◌, ◌<◌, ◌≤◌, ◌↔◌, true}
use Rattle.board_step.specs.State.{BoardView}
use Rattle.board_step.specs.Step.{ticked, Step}
use Rattle.board_step.specs.declared.env.Env.{Env}
use Rattle.board_laws.specs.Clock.{OnlyTime, Clocked, since, BeginsClear}
use Rattle.board_step.specs.Hardware.{Hardware}
use Rattle.board_step.specs.declared.event.Event.{Event}
use Rattle.t_states.specs.Frame.{frame}
use Rattle.board_step.specs.Run.{Run, AcceptsAt}
use Rattle.t_states.specs.Budget.{max_budget}

abbrev pub TimeChangesTheClockAlone : Type 0
TimeChangesTheClockAlone =
    (before after : BoardView) (t : ℕ) (env : Env) → OnlyTime after (ticked before after t env)

abbrev pub EventsMoveTheClockClock : Type 0
EventsMoveTheClockClock =
    (hardware : Hardware) (old new : BoardView) (env : Env) (event : Event) → Step hardware old env event new
    → Clocked old new event.t

abbrev pub EventsMoveTheClockClear : Type 0
EventsMoveTheClockClear =
    (hardware : Hardware) (old new : BoardView) (env : Env) (event : Event) → Step hardware old env event new
    → old.enable ≡ false → new.enable ≡ false → old.latched ≡ false → (new.line ≡ false) × (new.latched ≡ false)

abbrev pub PhasesFollowTheTime : Type 0
PhasesFollowTheTime =
    (hardware : Hardware) (run : Run hardware) (i n : ℕ) → (run.state_at 0).phase < frame → i ≤ n → n ≤ run.count
    → (run.state_at n).phase ≡ ((run.state_at i).phase + since run i n) % frame

abbrev pub AcceptancesBeginEarlyLatched : Type 0
AcceptancesBeginEarlyLatched =
    (hardware : Hardware) (run : Run hardware) (n : ℕ) → n < run.count
    → AcceptsAt run n ↔ ((run.state_at n).latched ≡ true)

abbrev pub AcceptancesBeginEarlyEarly : Type 0
AcceptancesBeginEarlyEarly =
    (hardware : Hardware) (run : Run hardware) (i : ℕ) → BeginsClear run → AcceptsAt run i → (run.state_at i).phase ≤ 22

abbrev pub AcceptancesBeginEarlyUnlatched : Type 0
AcceptancesBeginEarlyUnlatched =
    (hardware : Hardware) (run : Run hardware) (i n : ℕ) → BeginsClear run → AcceptsAt run i → i < n → n ≤ run.count
    → since run i n ≤ max_budget → (run.state_at n).latched ≡ false
