-- Trusted: what "safe" means (docs/THEOREM.md).
use Rattle.std.specs.Prelude.{ℕ, ◌<◌, ◌≤◌, Option, Some, None}
use Rattle.board_step.specs.declared.env.Env.{Env}
use Rattle.board_step.specs.Env.{IsEnv}
use Rattle.board_step.specs.Profile.{ProfileView}
use Rattle.board_step.specs.Reset.{IsReset}
use Rattle.board_step.specs.Run.{Run, AcceptsAt, EndsAt, GivesBack, spent}
use Rattle.board_step.specs.Trap.{Traps}

-- No step of the run traps. Nor would a step after its last event, in any environment.
abbrev pub NeverTraps : (profile : ProfileView) → Run profile.hardware → Type 0
NeverTraps profile run = (i : ℕ) → i ≤ run.count → (env : Env) → IsEnv env → Traps profile (run.state_at i) env None

-- what a run keeps where there is an NMI routine that may take `time` T-states
pub record KeepsWithin (profile : ProfileView) (time : ℕ) (run : Run profile.hardware) : Type 0 where
  -- no step traps
  pub never_traps : NeverTraps profile run
  -- NMI routines never nest: between two acceptances the earlier routine ends
  pub never_nested : (i k : ℕ) → i < k → AcceptsAt run i → AcceptsAt run k → (j : ℕ) × (j < k) × EndsAt run i j
  -- a routine gives back what it interrupted
  pub gives_back : (i j : ℕ) → EndsAt run i j → GivesBack run profile.region i j
  -- a routine takes at most `time` T-states
  pub in_time : (i j : ℕ) → EndsAt run i j → spent run i j ≤ time
  -- where more than `time` T-states passed since an acceptance, the routine has ended
  pub returns : (i k : ℕ) → AcceptsAt run i → k < run.count → time < spent run i k → (j : ℕ) × (j ≤ k) × EndsAt run i j

-- what a run keeps where there is no NMI routine: no trap, and no acceptance
pub record KeepsWithout (profile : ProfileView) (run : Run profile.hardware) : Type 0 where
  pub never_traps : NeverTraps profile run
  pub never_accepts : (i : ℕ) → AcceptsAt run i → ⊥

-- Safety of a ROM, with the T-states that its NMI routine may take; None where there is no routine. It quantifies over
-- all runs from a reset: every reset state and all environments, and so every time at which the blank may fall.
abbrev pub Safe : ProfileView → Option ℕ → Type 0
Safe profile (Some time) = (run : Run profile.hardware) → IsReset (run.state_at 0) → KeepsWithin profile time run
Safe profile None = (run : Run profile.hardware) → IsReset (run.state_at 0) → KeepsWithout profile run
