-- How the machine arrives at a row, from what was seen before a step (docs/CHECKER.md, "Covering").
use Rattle.std.specs.Prelude.{◌≡◌, IfSome, List, [], length, Option, pos}
use Rattle.std.specs.List.{All}
use Rattle.intervals.specs.Domain.{Entry}
use Rattle.flag_parts.specs.Parts.{AreSeen, HoldsParts}
use Rattle.loop_bounds.specs.Effect.{change_of}
use Rattle.loop_bounds.specs.declared.effect.Effect.{Effect}
use Rattle.loop_bounds.specs.declared.variable.Variable.{Variable}
use Rattle.z80_alu.specs.Flags.{flags_of}
use Rattle.z80_draft.specs.Registers.{IsRegs}
use Rattle.abs_laws.specs.Fits.{FollowsChange, IsThere}
use Rattle.abs_state.specs.Holds.{Holds}
use Rattle.abs_state.specs.Pairs.{entry_of}
use Rattle.abs_state.specs.Seen.{Seen}
use Rattle.abs_state.specs.Variables.{value_in}
use Rattle.abs_state.specs.declared.cell.KeptCell.{KeptCell}
use Rattle.abs_state.specs.declared.state.AbsState.{AbsState}
use Rattle.abs_step.specs.declared.next.Next.{Next}
use Rattle.check_claims.specs.RegisterLaws.{NamesRegisters}
use Rattle.check_cover.specs.Arrival.{ArrivalView, RefinementView}
use Rattle.check_ways.specs.Ways.{SubjectView, jump_way}
use Rattle.check_laws.specs.RowHolds.{AreZeroAt, RowHolds, value_at}

-- each variable that exists comes from the ones before by the effect
abbrev pub CameBy : Effect → Seen → Seen → Type 0
CameBy effect before now = (v : Variable) → IsThere (length now.words) v → FollowsChange (change_of effect v) (value_in before) (value_in now v)

-- What version 3 adds to a step is true. The values came by the effect without priority for constants too, and the
-- linear effect is true of them. The conditions before hold of the flags now and the values before, those after are seen
-- now; they name registers alone.
pub record CameRefined (r : RefinementView) (before now : Seen) : Type 0 where
  pub moved : CameBy r.moved before now
  pub becomes : IfSome r.linear (λ e. pos (value_in now e.variable) ≡ value_at before e.linear)
  pub told_before : HoldsParts r.conditions.before (flags_of now.regs.main.f) (value_in before)
  pub told_after : AreSeen r.conditions.after now
  pub registers : All (λ condition. NamesRegisters condition.linear) r.conditions.after

-- so is what an arrival has of it, if anything
abbrev pub CameRefinedIfSome : Option RefinementView → Seen → Seen → Type 0
CameRefinedIfSome refined before now = IfSome refined (λ r. CameRefined r before now)

-- What was seen before an arrival, in any activation: the state before held, its facts were 0, and the effect made what
-- is seen now.
pub record Comes (a : ArrivalView) (cells : List KeptCell) (now : Seen) : Type 0 where
  pub entry : Entry
  pub before : Seen
  pub numbers : IsRegs before.regs
  pub held : Holds a.before cells entry before
  pub facts : AreZeroAt before a.facts
  pub came : CameBy a.effect before now
  pub refined : CameRefinedIfSome a.refined before now

-- A row held of an activation before a step; one of its successors holds after the step, which has the successor's
-- effects. In version 3 what the step tells is true.
pub record Steps (s : SubjectView) (next : Next) (entry : Entry) (before now : Seen) : Type 0 where
  pub numbers : IsRegs before.regs
  pub held : RowHolds s.row s.cert.cells entry before
  pub numbers_now : IsRegs now.regs
  pub holds : Holds next.state s.cert.cells entry now
  pub came : CameBy next.effect before now
  pub moved : CameBy next.moved before now
  pub refined : CameRefinedIfSome (jump_way s next).arrival.refined before now

-- what a callee sees at its entry, without words of its own
abbrev pub entered : Seen → Seen
entered m = record m { words = [] }

-- what a caller sees after a call, with the words that it had at the call
abbrev pub resumed : Seen → Seen → Seen
resumed at m = record m { words = at.words }

-- the state at an exit of a callee, which was entered there, holds of what the callee sees
pub record Exits (s : SubjectView) (exit : AbsState) (at now : Seen) : Type 0 where
  pub numbers : IsRegs now.regs
  pub holds : Holds exit s.cert.cells (entry_of at.regs) now
