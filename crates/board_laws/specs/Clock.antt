-- Helper: what an event does to the phase and the flip-flop, and the time between events of a run.
use Rattle.std.specs.Prelude.{ℕ, ◌+◌, ◌-◌, ◌%◌, ◌<◌, ◌≤◌, ◌≡◌, true, false}
use Rattle.t_states.specs.Frame.{frame}
use Rattle.board_step.specs.Hardware.{Hardware}
use Rattle.board_step.specs.Run.{Run, time_before}
use Rattle.board_step.specs.State.{BoardView}

-- an event of t T-states advances the phase by them, and an NMI is latched after it only if a vertical blank began in
-- it
pub record Clocked (old new : BoardView) (t : ℕ) : Type 0 where
  pub phase : new.phase ≡ (old.phase + t) % frame
  pub blank : new.latched ≡ true → frame ≤ old.phase + t

-- two states that differ only in the phase and the flip-flop
pub record OnlyTime (old new : BoardView) : Type 0 where
  pub regs : new.regs ≡ old.regs
  pub work : new.work ≡ old.work
  pub video : new.video ≡ old.video
  pub object : new.object ≡ old.object
  pub enable : new.enable ≡ old.enable
  pub halted : new.halted ≡ old.halted

-- a run begins with a phase below 50,688 and no NMI latched, as a run from a reset does
pub record BeginsClear {hardware : Hardware} (run : Run hardware) : Type 0 where
  pub phase : (run.state_at 0).phase < frame
  pub latched : (run.state_at 0).latched ≡ false

-- the T-states of a run from before event i to before event n
abbrev pub since : {hardware : Hardware} → Run hardware → ℕ → ℕ → ℕ
since run i n = time_before run n - time_before run i
