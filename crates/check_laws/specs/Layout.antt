-- The activations that are laid out on the board before an event of a run (docs/CHECKER.md, "Activations").
use Rattle.std.specs.Prelude.{ℕ, ◌<◌, ◌≤◌, ◌⊎◌, List, [], ◌∷◌}
use Rattle.board_step.specs.Reset.{IsReset}
use Rattle.board_step.specs.Run.{AcceptsAt, Run}
use Rattle.board_step.specs.State.{BoardView}
use Rattle.board_laws.specs.Words.{on_top}
use Rattle.check_cover.specs.declared.program.Callee.{Callee}
use Rattle.cert_lines.specs.declared.proc.Proc.{Proc}
use Rattle.cert_form.specs.Contents.{CertificateView}
use Rattle.check_laws.specs.Chain.{Has, waiting_words}
use Rattle.check_laws.specs.Placed.{Activations, ArePlaced}
use Rattle.check_laws.specs.Board.{board_of}

-- a procedure with its number
abbrev pub numbered : ℕ → Proc → Callee
numbered number proc = record { number = number; proc = proc }

-- Only main code has activations. The running one is at a row that holds. Once SP is set, their words are exactly what
-- lies on the stack, the lowest's up to the region's top.
pub record MainIsLaid (rom : List ℕ) (cert : CertificateView) (s : BoardView) : Type 0 where
  pub main : Proc
  pub has : Has cert (numbered 0 main)
  pub chain : Activations
  pub placed : ArePlaced rom cert (numbered 0 main) [] chain s

-- the words of main code's activations, from SP upwards
abbrev pub main_words : {rom : List ℕ} {cert : CertificateView} {s : BoardView} → MainIsLaid rom cert s → List ℕ
main_words m = on_top m.chain.words (waiting_words m.chain.waiting)

-- The NMI routine has activations, over the address at which it interrupted main code, and over main code's words then.
pub record NmiIsLaid (rom : List ℕ) (cert : CertificateView) (interrupted s : BoardView) : Type 0 where
  pub main : MainIsLaid rom cert interrupted
  pub nmi : Proc
  pub has : Has cert (numbered 1 nmi)
  pub chain : Activations
  pub placed : ArePlaced rom cert (numbered 1 nmi) (interrupted.regs.pc ∷ main_words main) chain s

-- only main code's activations are on the board, or the NMI routine's over those that an earlier event interrupted
abbrev pub IsLaidOut : (rom : List ℕ) (cert : CertificateView) → Run (board_of rom cert) → ℕ → Type 0
IsLaidOut rom cert run i =
    MainIsLaid rom cert (run.state_at i) ⊎ ((from : ℕ) × (from < i) × AcceptsAt run from × NmiIsLaid rom cert (run.state_at from) (run.state_at i))

-- this is so before each event of a run from a reset, and after its last event
abbrev pub RunsAreLaidOut : List ℕ → CertificateView → Type 0
RunsAreLaidOut rom cert = (run : Run (board_of rom cert)) → IsReset (run.state_at 0) → (i : ℕ) → i ≤ run.count → IsLaidOut rom cert run i
