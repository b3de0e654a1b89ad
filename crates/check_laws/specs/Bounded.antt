-- The time of an activation while no NMI comes (docs/CHECKER.md, "Activations").
use Rattle.std.specs.Prelude.{ℕ, suc, ◌≤◌, ◌<◌, ◌≡◌, false, List, [], ◌∷◌, ◌⊎◌, ℤ, pos, ◌+ℤ◌, ◌≤ℤ◌, unwrap_or}
use Rattle.board_step.specs.Run.{Run, spent}
use Rattle.board_step.specs.State.{IsState, BoardView}
use Rattle.board_laws.specs.Clock.{since}
use Rattle.board_laws.specs.Board.{HasWords}
use Rattle.check_cover.specs.declared.program.Callee.{Callee}
use Rattle.cert_form.specs.Contents.{CertificateView, map_of_board}
use Rattle.check_rules.specs.Table.{IsTimed}
use Rattle.check_ways.specs.Pays.{cost_before}
use Rattle.check_laws.specs.Placed.{Activations, ArePlaced, Under, owed}
use Rattle.check_laws.specs.Board.{board_of}

-- no NMI is latched before the events from `i` to below `n`
abbrev pub Unlatched : (rom : List ℕ) (cert : CertificateView) → Run (board_of rom cert) → ℕ → ℕ → Type 0
Unlatched rom cert run i n = (k : ℕ) → i ≤ k → k < n → (run.state_at k).latched ≡ false

-- the chain is still on the board, and the time since event `i` and what it now owes are within `most` T-states
pub record RunsOn (rom : List ℕ) (cert : CertificateView) (lowest : Callee) (under : List ℕ) (run : Run (board_of rom cert)) (i n : ℕ) (most : ℤ) : Type 0 where
  pub chain : Activations
  pub placed : ArePlaced rom cert lowest under chain (run.state_at n)
  pub in_time : pos (since run i n) ≤ℤ most
  pub pays : (pos (since run i n) +ℤ owed cert chain (run.state_at n)) ≤ℤ most

-- its lowest activation has left by an event, within `most` T-states, to the address under the chain
pub record HasLeft (rom : List ℕ) (cert : CertificateView) (under : List ℕ) (run : Run (board_of rom cert)) (i n : ℕ) (most : ℤ) : Type 0 where
  pub at : ℕ
  pub from : i ≤ at
  pub before : at < n
  pub rest : List ℕ
  pub under_is : under ≡ (run.state_at (suc at)).regs.pc ∷ rest
  pub laid : HasWords (map_of_board cert) cert.region (run.state_at (suc at)) rest
  pub in_time : pos (spent run i at) ≤ℤ most

-- the chain is still there or has left
abbrev pub KeepsTime : (rom : List ℕ) (cert : CertificateView) → Callee → List ℕ → Run (board_of rom cert) → ℕ → ℕ → ℤ → Type 0
KeepsTime rom cert lowest under run i n most = RunsOn rom cert lowest under run i n most ⊎ HasLeft rom cert under run i n most

-- Take a chain of activations with a time, on the board of a run before one of its events. As long as no NMI is latched
-- from then on, it leaves within what it owes, or is still there and has used no more. At its procedure's entry it owes
-- at most the procedure's time, less the T-states before the entry.
pub record KeepsTimes (rom : List ℕ) (cert : CertificateView) : Type 0 where
  pub keeps : (lowest : Callee) (under : List ℕ) (run : Run (board_of rom cert)) (i n : ℕ) (c : Activations) → Under cert lowest under → IsTimed lowest.proc → IsState (run.state_at i)
      → (run.state_at i).halted ≡ false → ArePlaced rom cert lowest under c (run.state_at i) → i ≤ n → n ≤ run.count → Unlatched rom cert run i n
      → KeepsTime rom cert lowest under run i n (owed cert c (run.state_at i))
  pub entry : (lowest : Callee) (under : List ℕ) (c : Activations) (s : BoardView) → IsTimed lowest.proc → IsState s → ArePlaced rom cert lowest under c s → c.waiting ≡ []
      → c.row.address ≡ lowest.proc.entry → (pos (cost_before lowest.proc.kind) +ℤ owed cert c s) ≤ℤ pos (unwrap_or lowest.proc.time 0)
