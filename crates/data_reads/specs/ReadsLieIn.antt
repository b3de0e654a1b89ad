-- What it means that an instruction reads data from some ranges alone.
use Rattle.std.specs.Prelude.{◌≡◌, ◌⊎◌, ℕ, List, Option, IsSomeAnd, Bool, true, false, Any}
use Rattle.intervals.specs.Domain.{Entry}
use Rattle.intervals.specs.Range.{RangeView, Within}
use Rattle.z80_alu.specs.Flags.{flags_of}
use Rattle.z80_alu.specs.declared.regs.Regs.{Regs}
use Rattle.z80_decode.specs.declared.instr.Instr.{Instr}
use Rattle.z80_decode.specs.declared.instr.Instr.TheVariants.{Pop, ExchangeStack, Return, ReturnIf, ReturnFromInterrupt, ReturnFromNonMaskable}
use Rattle.z80_draft.specs.Arithmetic.{holds}
use Rattle.z80_draft.specs.Draft.{above, draft_of}
use Rattle.z80_draft.specs.Outside.{Outside}
use Rattle.abs_state.specs.Pairs.{HoldsPairs}
use Rattle.abs_state.specs.declared.pairs.Pairs.{Pairs}
use Rattle.board_step.specs.Context.{ContextView}
use Rattle.board_step.specs.Reads.{outside_of}
use Rattle.board_step.specs.Step.{instr_draft}

-- whether the instruction reads the word at SP: it pops, exchanges or returns; RET cc only where cc holds
abbrev pub reads_at_sp : Regs → Instr → Bool
reads_at_sp regs (Pop qq) = true
reads_at_sp regs (ExchangeStack pointer) = true
reads_at_sp regs Return = true
reads_at_sp regs (ReturnIf cc) = holds cc (flags_of regs.main.f)
reads_at_sp regs ReturnFromInterrupt = true
reads_at_sp regs ReturnFromNonMaskable = true
reads_at_sp regs _ = false

-- the address lies in one of the ranges
abbrev pub LiesInSome : List (Option RangeView) → ℕ → Type 0
LiesInSome ranges at = Any (λ slot. IsSomeAnd slot (λ range. Within range at)) ranges

-- An address that the instruction may read: it lies in one of the ranges, or a byte of the word at SP is there and the
-- instruction reads that word.
abbrev pub MayRead : List (Option RangeView) → Regs → Instr → ℕ → Type 0
MayRead ranges regs instr at =
    LiesInSome ranges at ⊎ ((reads_at_sp regs instr ≡ true) × ((at ≡ regs.sp) ⊎ (at ≡ above regs.sp 1)))

-- two outsides that differ at most in what reads of other addresses find
pub record AgreesAt (IsRead : ℕ → Type 0) (o p : Outside) : Type 0 where
  pub read : (is_later : Bool) (at : ℕ) → IsRead at → o.read is_later at ≡ p.read is_later at
  pub noise : o.noise ≡ p.noise
  pub r : o.r ≡ p.r

-- The instruction reads data from these ranges alone, apart from the word at SP, wherever the pairs describe the
-- registers: no byte at another address changes anything that it does.
unfoldable pub ReadsLieIn : List (Option RangeView) → Pairs → Instr → Type 0
ReadsLieIn ranges pairs instr =
    (entry : Entry) (regs : Regs) (o p : Outside) → HoldsPairs pairs entry regs → AgreesAt (MayRead ranges regs instr) o p
    → draft_of o regs instr ≡ draft_of p regs instr

-- The same of boards with these registers: an instruction does the same on two boards that differ at most in what reads
-- of other addresses find.
unfoldable pub BoardReadsLieIn : List (Option RangeView) → Pairs → Instr → Type 0
BoardReadsLieIn ranges pairs instr =
    (entry : Entry) (c d : ContextView) → HoldsPairs pairs entry c.state.regs → c.state.regs ≡ d.state.regs
    → AgreesAt (MayRead ranges c.state.regs instr) (outside_of c) (outside_of d)
    → instr_draft c instr ≡ instr_draft d instr
