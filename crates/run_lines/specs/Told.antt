-- The lines of a run's NMI routines (docs/PROGRAM.md, "A run's lines").
use Rattle.std.specs.Prelude.{ℕ, zero, suc, ◌<◌, ◌≡◌, List, [], ◌++◌}
use Rattle.board_step.specs.Hardware.{Hardware}
use Rattle.board_step.specs.Run.{AcceptsAt, EndsAt, Run, spent}
use Rattle.run_lines.specs.Lines.{acceptance_line, return_line}

-- the line of an event: an acceptance has one, the end of an NMI routine has one, and other events have none
pub data Tells {hardware : Hardware} (run : Run hardware) (i : ℕ) (line : List ℕ) : Type 0 where
  begins : AcceptsAt run i → line ≡ acceptance_line i (run.state_at i).regs.pc → Tells run i line
  ends : (from : ℕ) → EndsAt run from i → line ≡ return_line i (spent run from i) → Tells run i line
  nothing : (AcceptsAt run i → ⊥) → ((from : ℕ) → EndsAt run from i → ⊥) → line ≡ [] → Tells run i line

-- one more line after a text
pub record OneMore {hardware : Hardware} (run : Run hardware) (i : ℕ) (before text : List ℕ) : Type 0 where
  pub line : List ℕ
  pub tells : Tells run i line
  pub is : text ≡ before ++ line

-- the lines of the events before this one, in order
unfoldable pub TellsUpTo : {hardware : Hardware} → Run hardware → ℕ → List ℕ → Type 0
TellsUpTo run zero text = text ≡ []
TellsUpTo run (suc i) text = (before : List ℕ) × TellsUpTo run i before × OneMore run i before text

-- between two acceptances of a run the earlier routine ends
abbrev pub NeverNests : {hardware : Hardware} → Run hardware → Type 0
NeverNests run = (i k : ℕ) → i < k → AcceptsAt run i → AcceptsAt run k → (j : ℕ) × (j < k) × EndsAt run i j
