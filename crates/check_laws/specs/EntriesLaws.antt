-- What the laws of src/entries.rt say: each is the contract of the function with its name.
use Rattle.std.specs.Prelude.{◌≡◌, [], length}
use Rattle.intervals.specs.Domain.{Entry}
use Rattle.z80_draft.specs.Registers.{IsRegs}
use Rattle.abs_state.specs.Entries.{main_entry, nmi_entry, callee_entry}
use Rattle.abs_state.specs.Holds.{IsQuiet}
use Rattle.abs_state.specs.Seen.{Seen}
use Rattle.check_cover.specs.Covering.{CoversMain, CoversNmi, Covered}
use Rattle.check_laws.specs.RowHolds.{IsHeld}
use Rattle.cert_form.specs.Contents.{CertificateView}
use Rattle.cert_form.specs.Form.{IsInForm}
use Rattle.abs_state.specs.Cell.{HoldsCells}
use Rattle.abs_state.specs.Pairs.{entry_of}
use Rattle.abs_step.specs.declared.next.Next.{Next}
use Rattle.check_cover.specs.declared.program.Callee.{Callee}
use Rattle.check_laws.specs.Comes.{Steps, entered}
use Rattle.check_ways.specs.Ways.{SubjectView, arrival_at_entry as entry_arrival}

abbrev pub MainBeginsAtARow : Type 0
MainBeginsAtARow =
    (cert : CertificateView) (entry : Entry) (m : Seen) → IsInForm cert → IsRegs m.regs
    → IsQuiet m.enable m.line m.latched → m.words ≡ [] → CoversMain cert → IsHeld cert 0 0 main_entry entry m

abbrev pub NmiBeginsAtARow : Type 0
NmiBeginsAtARow =
    (cert : CertificateView) (m : Seen) → IsInForm cert → IsRegs m.regs → m.words ≡ []
    → HoldsCells (length cert.cells) cert.cells m.cells → CoversNmi cert
    → IsHeld cert 1 102 (nmi_entry (length cert.cells)) (entry_of m.regs) m

abbrev pub CalleesBeginAtARow : Type 0
CalleesBeginAtARow =
    (s : SubjectView) (next : Next) (callee : Callee) (entry : Entry) (before now : Seen) → IsInForm s.cert
    → Steps s next entry before now → Covered s.cert (entry_arrival s next callee) (callee_entry next.state)
    → IsHeld s.cert callee.number next.address (callee_entry next.state) (entry_of now.regs) (entered now)
