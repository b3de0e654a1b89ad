-- What the laws of src/paying.rt say: each is the contract of the function with its name.
use Rattle.std.specs.Prelude.{ℕ, pos, ◌+ℤ◌, ◌≤ℤ◌, Contains, List, unwrap_or}
use Rattle.intervals.specs.Domain.{Entry}
use Rattle.z80_draft.specs.Registers.{IsRegs}
use Rattle.abs_state.specs.Holds.{Holds}
use Rattle.abs_state.specs.Seen.{Seen}
use Rattle.check_laws.specs.Comes.{CameBy, CameRefinedIfSome}
use Rattle.check_laws.specs.RowHolds.{worth}
use Rattle.cert_lines.specs.declared.row.Row.{Row}
use Rattle.cert_form.specs.Contents.{CertificateView}
use Rattle.cert_form.specs.Form.{IsInForm}
use Rattle.check_cover.specs.Arrival.{ArrivalView}
use Rattle.check_ways.specs.Pays.{PaysTo, PaysOut, IsWithinTime, cost_before}
use Rattle.abs_state.specs.declared.cell.KeptCell.{KeptCell}
use Rattle.cert_lines.specs.declared.proc.Proc.{Proc}

abbrev pub WaysArePaid : Type 0
WaysArePaid =
    (cert : CertificateView) (row target : Row) (cost : ℕ) (a : ArrivalView) (entry later : Entry) (before now : Seen)
    → IsInForm cert → Contains cert.rows target → IsRegs before.regs → IsRegs now.regs
    → Holds row.state cert.cells entry before → Holds target.state cert.cells later now → CameBy a.effect before now
    → CameRefinedIfSome a.refined before now → PaysTo row cost a target → (pos cost +ℤ worth target now) ≤ℤ worth row before

abbrev pub ExitsArePaid : Type 0
ExitsArePaid =
    (row : Row) (cost : ℕ) (cells : List KeptCell) (entry : Entry) (m : Seen) → IsRegs m.regs
    → Holds row.state cells entry m → PaysOut row cost → pos cost ≤ℤ worth row m

abbrev pub EntriesAreInTime : Type 0
EntriesAreInTime =
    (proc : Proc) (row : Row) (cells : List KeptCell) (entry : Entry) (m : Seen) → IsRegs m.regs
    → Holds row.state cells entry m → IsWithinTime proc row
    → (pos (cost_before proc.kind) +ℤ worth row m) ≤ℤ pos (unwrap_or proc.time 0)

abbrev pub WorthIsBounded : Type 0
WorthIsBounded =
    (cert : CertificateView) (row : Row) (entry : Entry) (m : Seen) → IsInForm cert → Contains cert.rows row
    → IsRegs m.regs → Holds row.state cert.cells entry m → pos 0 ≤ℤ (worth row m +ℤ pos 197605000000)
