-- What is known before the first move describes the machine at a row.
use Rattle.std.proofs.Common.{◌≡◌, ◌<◌, ◌+◌, ◌%◌, ℕ, refl, ap, arith, length}
use Rattle.intervals.specs.Domain.{Entry}
use Rattle.intervals.specs.Range.{Within, single}
use Rattle.loop_bounds.specs.Effect.{change_of, unchanged}
use Rattle.loop_bounds.specs.declared.variable.Variable.{Variable}
use Rattle.loop_bounds.specs.declared.variable.Variable.TheVariants as variables
use Rattle.stack_shape.specs.Shape.{HoldsShape}
use Rattle.z80_decode.specs.Spelling.{spelling}
use Rattle.z80_decode.specs.declared.instr.Instr.{Instr}
use Rattle.z80_draft.specs.Draft.{draft_on, past}
use Rattle.z80_draft.specs.Registers.{IsRegs}
use Rattle.abs_state.specs.Fact.{HoldsFact}
use Rattle.abs_state.specs.Pairs.{HoldsPairs}
use Rattle.abs_state.specs.Seen.{Seen}
use Rattle.abs_state.specs.Variables.{value_in}
use Rattle.abs_state.specs.declared.state.AbsState.{AbsState}
use Rattle.abs_draft.specs.Ground.{GroundView}
use Rattle.abs_draft.specs.Outcomes.{known_before}
use Rattle.abs_laws.specs.Fits.{Fits, FollowsChange, seen_by_draft}
use Rattle.abs_laws.proofs.Parts.{same_fact}

behind_small : (n : ℕ) → n % 65536 < 65536
behind_small n = omega arith

at_behind : (address pc len : ℕ) → pc ≡ address → Within (single ((address + len) % 65536)) ((pc + len) % 65536)
at_behind address pc len e = omega (arith, ap (λ (n : ℕ). (n + len) % 65536) e)

as_it_was : (m : Seen) (len : ℕ) (v : Variable) → FollowsChange (change_of unchanged v) (value_in m) (value_in (seen_by_draft (draft_on (past len m.regs)) m.words) v)
as_it_was m len variables.A = refl
as_it_was m len v = refl

pub first_fits : (g : GroundView) (s : AbsState) (address : ℕ) (instr : Instr) (entry : Entry) (m : Seen) → IsRegs m.regs → m.regs.pc ≡ address
    → HoldsPairs s.pairs entry m.regs → HoldsFact s.flag m.regs → HoldsShape s.shape entry m.words
    → Fits g s (known_before address instr s) entry (value_in m) (draft_on (past (length (spelling instr)) m.regs)) m.words
first_fits g s address instr entry m r at pairs fact shape =
    let len = length (spelling instr) in
    let new = past len m.regs in
    let small = behind_small (m.regs.pc + len) in
    record {
      regs = record { main = r.main; alternate = r.alternate; ix = r.ix; iy = r.iy; sp = r.sp; pc = small; i = r.i; r = r.r };
      operand_byte = omega arith;
      pointer_word = omega arith;
      pairs = record { af = pairs.af; bc = pairs.bc; de = pairs.de; hl = pairs.hl; ix = pairs.ix; iy = pairs.iy; alternate_af = pairs.alternate_af; alternate_bc = pairs.alternate_bc; alternate_de = pairs.alternate_de; alternate_hl = pairs.alternate_hl };
      flag = same_fact s.flag m.regs new refl fact;
      shape = shape;
      operand = omega arith;
      pointer = omega arith;
      pc = at_behind address m.regs.pc len at;
      follows = λ v i. as_it_was m len v;
      writes = tt;
      mode = refl;
      armed = refl;
      readable = refl;
    }
