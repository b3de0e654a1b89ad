-- What the laws of src/returns.rt say: each is the contract of the function with its name.
use Rattle.std.specs.Prelude.{◌≡◌, false, true}
use Rattle.intervals.specs.Domain.{Entry}
use Rattle.abs_state.specs.Seen.{Seen}
use Rattle.abs_step.specs.declared.next.Next.{Next}
use Rattle.check_cover.specs.Covering.{Covered}
use Rattle.check_laws.specs.Comes.{Steps, CameBy, Exits, entered, resumed}
use Rattle.check_laws.specs.RowHolds.{IsHeld}
use Rattle.cert_form.specs.Form.{IsInForm}
use Rattle.check_steps.specs.Restarts.{restarted}
use Rattle.check_ways.specs.Ways.{SubjectView, jump_way, restarts, return_way, behind_of}
use Rattle.abs_state.specs.declared.state.AbsState.{AbsState}
use Rattle.check_cover.specs.declared.program.Callee.{Callee}
use Rattle.abs_state.specs.Entries.{after_call}

abbrev pub WaysLeadToARow : Type 0
WaysLeadToARow =
    (s : SubjectView) (next : Next) (entry : Entry) (before now : Seen) → IsInForm s.cert → restarts s ≡ false
    → Steps s next entry before now → Covered s.cert (jump_way s next).arrival (jump_way s next).state
    → IsHeld s.cert s.row.proc next.address next.state entry now

abbrev pub RestartsLeadToMain : Type 0
RestartsLeadToMain =
    (s : SubjectView) (next : Next) (entry later : Entry) (before now : Seen) → IsInForm s.cert → restarts s ≡ true
    → Steps s next entry before now → Covered s.cert (jump_way s next).arrival (jump_way s next).state
    → IsHeld s.cert 0 next.address (restarted next.state) later (entered now)

abbrev pub CallsComeBackCame : Type 0
CallsComeBackCame =
    (s : SubjectView) (next : Next) (callee : Callee) (exit : AbsState) (entry : Entry) (before at now : Seen)
    → Steps s next entry before at → Exits s exit at now
    → CameBy (return_way s next callee exit).arrival.effect before (resumed at now)

abbrev pub CallsComeBackLands : Type 0
CallsComeBackLands =
    (s : SubjectView) (next : Next) (callee : Callee) (exit : AbsState) (entry : Entry) (before at now : Seen)
    → IsInForm s.cert → Steps s next entry before at → Exits s exit at now
    → Covered s.cert (return_way s next callee exit).arrival (after_call next.state exit)
    → IsHeld s.cert s.row.proc (behind_of s.decoded s.row.address) (after_call next.state exit) entry (resumed at now)
