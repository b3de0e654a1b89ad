-- The chain of activations on a board (docs/CHECKER.md, "Activations").
use Rattle.std.specs.Prelude.{ℕ, ◌+◌, ◌-◌, ◌*◌, ◌≤◌, ◌≡◌, ◌≢◌, ◌⊎◌, true, List, ◌++◌, length, Contains, ℤ, ◌+ℤ◌}
use Rattle.intervals.specs.Domain.{Entry}
use Rattle.board_step.specs.State.{BoardView}
use Rattle.board_laws.specs.Board.{HasWords}
use Rattle.board_laws.specs.Words.{on_top}
use Rattle.abs_state.specs.Seen.{Seen}
use Rattle.abs_state.specs.declared.mode.Mode.TheVariants.{Unset}
use Rattle.abs_step.specs.Contained.{IsUnder, seen_of}
use Rattle.check_cover.specs.Program.{is_main}
use Rattle.check_cover.specs.declared.program.Callee.{Callee}
use Rattle.cert_lines.specs.declared.row.Row.{Row}
use Rattle.cert_form.specs.Contents.{CertificateView, map_of_board}
use Rattle.check_rules.specs.Table.{IsTimed, entry_bytes}
use Rattle.check_laws.specs.RowHolds.{RowHolds, worth}
use Rattle.check_laws.specs.Chain.{Chain, Has, Waiting, later_all, waiting_words}

-- a chain of calls: the running activation, at a row of its procedure, and those that wait for it, the nearest first
pub record Activations : Type 0 where
  pub row : Row
  pub of : Callee
  -- the values of the pairs at the entry of the running one
  pub entry : Entry
  -- its words on the stack, first pushed first
  pub words : List ℕ
  pub waiting : List Waiting
  -- the values of the pairs at the entry of the lowest one
  pub first : Entry

-- what the running activation sees of a board
abbrev pub seen_by : CertificateView → Activations → BoardView → Seen
seen_by cert c s = seen_of cert.cells c.words s

-- A chain is on a board: the board is at the running activation's row, which holds. Once SP is set, the chain's words,
-- over those under it, are exactly what lies on the stack. Each activation waits for the one above it.
pub record ArePlaced (rom : List ℕ) (cert : CertificateView) (lowest : Callee) (under : List ℕ) (c : Activations) (s : BoardView) : Type 0 where
  pub pc : s.regs.pc ≡ c.row.address
  pub listed : Contains cert.rows c.row
  pub is_of : c.row.proc ≡ c.of.number
  pub has : Has cert c.of
  pub holds : RowHolds c.row cert.cells c.entry (seen_by cert c s)
  pub laid : c.row.state.mode ≢ Unset → HasWords (map_of_board cert) cert.region s (on_top c.words (waiting_words c.waiting ++ under))
  pub chain : Chain rom cert lowest c.first c.of c.entry c.waiting

-- nothing lies under main code's chain, and a return address under any other; the region has room for the lowest
-- activation's depth
pub record Under (cert : CertificateView) (lowest : Callee) (under : List ℕ) : Type 0 where
  pub lowest_is : IsUnder (is_main lowest.number) under
  pub room : 2 * length under + lowest.proc.depth ≤ (cert.region.top - cert.region.low) + entry_bytes lowest.proc.kind

-- The lowest activation of a chain is main's, or has a time. A restart goes on in main; where the lowest has a time, so
-- have all that it called, and no activation of the chain restarts.
abbrev pub IsMainOrTimed : Callee → Type 0
IsMainOrTimed lowest = (is_main lowest.number ≡ true) ⊎ IsTimed lowest.proc

-- the T-states that a chain may still take
abbrev pub owed : CertificateView → Activations → BoardView → ℤ
owed cert c s = worth c.row (seen_by cert c s) +ℤ later_all c.waiting
