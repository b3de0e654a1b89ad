-- What the laws of src/landing.rt say: each is the contract of the function with its name.
use Rattle.intervals.specs.Domain.{Entry}
use Rattle.z80_draft.specs.Registers.{IsRegs}
use Rattle.abs_state.specs.Holds.{Holds}
use Rattle.abs_state.specs.Seen.{Seen}
use Rattle.abs_state.specs.declared.state.AbsState.{AbsState}
use Rattle.check_cover.specs.Arrival.{ArrivalView}
use Rattle.check_cover.specs.Covering.{Covered}
use Rattle.check_laws.specs.Comes.{Comes}
use Rattle.check_laws.specs.RowHolds.{IsHeld}
use Rattle.cert_form.specs.Contents.{CertificateView}
use Rattle.cert_form.specs.Form.{IsInForm}
use Rattle.z80_alu.specs.declared.regs.Regs.{Regs}
use Rattle.abs_state.specs.Pairs.{HoldsPairs}
use Rattle.check_cover.specs.Program.{IsRowAt}
use Rattle.cert_lines.specs.declared.row.Row.{Row}

abbrev pub CoveredStatesLand : Type 0
CoveredStatesLand =
    (cert : CertificateView) (a : ArrivalView) (state : AbsState) (entry : Entry) (now : Seen) → IsInForm cert
    → IsRegs now.regs → Comes a cert.cells now → Holds state cert.cells entry now → Covered cert a state
    → IsHeld cert a.proc a.address state entry now

abbrev pub CoveredAddressesHaveRows : Type 0
CoveredAddressesHaveRows =
    (cert : CertificateView) (a : ArrivalView) (state : AbsState) (entry : Entry) (regs : Regs) → IsRegs regs
    → HoldsPairs state.pairs entry regs → Covered cert a state → (row : Row) × IsRowAt cert a.proc a.address row
