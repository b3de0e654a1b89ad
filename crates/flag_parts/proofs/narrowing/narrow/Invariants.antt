use Rattle.std.proofs.Common.{◌≡◌, drop, List, IsTrue}
use Rattle.intervals.specs.Domain.{Entry}
use Rattle.z80_alu.specs.Flags.{flags_of}
use Rattle.z80_draft.specs.Arithmetic.{holds}
use Rattle.z80_draft.specs.Registers.{IsRegs}
use Rattle.abs_state.specs.Holds.{Holds}
use Rattle.abs_state.specs.Seen.{Seen}
use Rattle.abs_state.specs.declared.cell.KeptCell.{KeptCell}
use Rattle.flag_parts.specs.Narrowing.{narrowed}
use Rattle.flag_parts.specs.Parts.{AreSeen}
use Rattle.flag_parts.proofs.narrowing.narrow.Given as goal

abbrev pub invariant-loop-part : goal.invariant-loop-part
invariant-loop-part l = record {
  exact : narrowed l.condition l.parts l.initial.state ≡ narrowed l.condition (drop l.part-index l.part-items) l.state;
  holds : (cells : List KeptCell) (entry : Entry) (m : Seen) → IsRegs m.regs → Holds l.initial.state cells entry m → AreSeen l.parts m → IsTrue (holds l.condition (flags_of m.regs.main.f)) → Holds l.state cells entry m;
}
