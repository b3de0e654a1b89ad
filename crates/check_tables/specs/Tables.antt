-- Tables of a certificate for a ROM (docs/CHECKER.md, "How long judging takes").
use Rattle.std.specs.Prelude.{ℕ, ℤ, pos, ◌≡◌, ◌≤◌, ◌<◌, ◌≤ℤ◌, ◌⊎◌, List, [], Option, Some, None, slice_get}
use Rattle.std.specs.List.{All}
use Rattle.abs_state.specs.declared.state.AbsState.{AbsState}
use Rattle.cert_lines.specs.declared.row.Row.{Row}
use Rattle.cert_form.specs.Contents.{CertificateView}
use Rattle.loop_bounds.specs.Linear.{LinearView}
use Rattle.check_tables.specs.Lefts.{AreLeft, WidensEach}
use Rattle.check_tables.specs.declared.left.Left.{Left}
use Rattle.check_tables.specs.declared.tops.Top.{Top}

-- what the exits of a procedure leave, and states that cover them with the same origins
pub record ProcExitsView : Type 0 where
  pub proc : ℕ
  pub lefts : List Left
  pub wides : List AbsState

-- each is covered by one of these states, or there are none
pub record AreExits (rom : List ℕ) (cert : CertificateView) (g : ProcExitsView) : Type 0 where
  pub left : AreLeft rom cert g.proc g.lefts
  pub wides : (g.wides ≡ []) ⊎ WidensEach g.lefts g.wides

-- a potential, if there is one, has no variable and is at most this number
abbrev pub IsAtMost : ℤ → Option LinearView → Type 0
IsAtMost top None = Unit {0}
IsAtMost top (Some sum) = (sum.terms ≡ []) × (sum.constant ≤ℤ top)

-- a number that is at least 0 and at least each potential of the rows from `start` to below `end`
pub record IsTop (cert : CertificateView) (top : Top) : Type 0 where
  pub least : pos 0 ≤ℤ top.potential
  pub each : (k : ℕ) (row : Row) → top.start ≤ k → k < top.end → slice_get cert.rows k ≡ Some row → IsAtMost top.potential row.potential

pub record TablesView : Type 0 where
  pub rom : List ℕ
  pub cert : CertificateView
  pub exits : List ProcExitsView
  pub tops : List Top

-- what the tables say is true of the certificate for the ROM
pub record AreTables (t : TablesView) : Type 0 where
  pub exits : All (AreExits t.rom t.cert) t.exits
  pub tops : All (IsTop t.cert) t.tops
