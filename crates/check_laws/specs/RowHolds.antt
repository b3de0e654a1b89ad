-- When a row of a certificate holds: its state holds, its facts are 0 and its flag parts are true (docs/CHECKER.md,
-- "What a row knows").
use Rattle.std.specs.Prelude.{ℕ, ◌≡◌, true, List, ℤ, pos}
use Rattle.std.specs.List.{All}
use Rattle.intervals.specs.Domain.{Entry}
use Rattle.loop_bounds.specs.Effect.{whole}
use Rattle.loop_bounds.specs.Linear.{LinearView, value}
use Rattle.abs_state.specs.Covers.{OverlapsState}
use Rattle.abs_state.specs.Holds.{Holds}
use Rattle.abs_state.specs.Mode.{covers_mode}
use Rattle.abs_state.specs.Seen.{Seen}
use Rattle.abs_state.specs.Variables.{value_in}
use Rattle.abs_state.specs.declared.cell.KeptCell.{KeptCell}
use Rattle.abs_state.specs.declared.state.AbsState.{AbsState}
use Rattle.check_cover.specs.Program.{IsRowAt}
use Rattle.cert_lines.specs.declared.row.Row.{Row}
use Rattle.flag_parts.specs.Parts.{AreSeen}
use Rattle.cert_form.specs.Contents.{CertificateView}
use Rattle.check_ways.specs.Pays.{potential_of}

-- the value of a linear at the values that an activation sees
abbrev pub value_at : Seen → LinearView → ℤ
value_at m linear = value (whole (value_in m)) linear

-- each of the linears is 0 there
abbrev pub AreZeroAt : Seen → List LinearView → Type 0
AreZeroAt m facts = All (λ fact. value_at m fact ≡ pos 0) facts

-- the row's state holds of what an activation sees, its facts are 0 there, and its flag parts are true of it
pub record RowHolds (row : Row) (cells : List KeptCell) (entry : Entry) (m : Seen) : Type 0 where
  pub state : Holds row.state cells entry m
  pub facts : AreZeroAt m row.facts
  pub parts : AreSeen row.parts m

-- the value of a row's potential there, in T-states; it may be negative
abbrev pub worth : Row → Seen → ℤ
worth row m = value_at m (potential_of row)

-- Some row at an address of a procedure holds of what an activation sees. Its mode covers that of the arriving state,
-- and its ranges share values with the state's.
pub record IsHeld (cert : CertificateView) (proc address : ℕ) (state : AbsState) (entry : Entry) (m : Seen) : Type 0 where
  pub row : Row
  pub at : IsRowAt cert proc address row
  pub holds : RowHolds row cert.cells entry m
  pub mode : covers_mode row.state.mode state.mode ≡ true
  pub overlaps : OverlapsState row.state state
