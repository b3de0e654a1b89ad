-- Instructions with a condition, and instructions with a linear effect.
use Rattle.std.proofs.Common.{◌≡◌, ◌<◌, ◌∙◌, ℕ, Bool, true, false, cond, List, [], length, Option, Some, None, Ok, refl, sym, ap, subst, arith}
use Rattle.std.proofs.lemmas.Option.{same_Some}
use Rattle.intervals.specs.Range.{RangeView}
use Rattle.loop_bounds.specs.Linear.{LinearView}
use Rattle.loop_bounds.specs.declared.variable.Variable.{Variable}
use Rattle.loop_bounds.specs.declared.variable.Variable.TheVariants as variables
use Rattle.t_states.specs.Io.{is_io}
use Rattle.z80_alu.specs.Flags.{flags_of}
use Rattle.z80_decode.specs.Spelling.{spelling}
use Rattle.z80_decode.specs.declared.instr.Instr.{Instr}
use Rattle.z80_decode.specs.declared.instr.Instr.TheVariants as instrs
use Rattle.z80_decode.specs.declared.kinds.Condition.{Condition}
use Rattle.z80_decode.specs.declared.operands.Index.TheVariants as indexes
use Rattle.z80_decode.specs.declared.operands.Memory.TheVariants as memories
use Rattle.z80_decode.specs.declared.operands.Operand.TheVariants as operands
use Rattle.z80_decode.specs.declared.operands.Place.TheVariants as places
use Rattle.z80_draft.specs.Arithmetic.{holds}
use Rattle.z80_draft.specs.Draft.{draft_on, drafted, past, test_holds}
use Rattle.z80_draft.specs.Registers.{IsRegs}
use Rattle.z80_moves.specs.Moves.{moves_of}
use Rattle.z80_moves.specs.Operands.{long_condition}
use Rattle.z80_moves.specs.declared.moves.Move.{Move}
use Rattle.z80_moves.specs.declared.moves.Test.TheVariants as tests
use Rattle.board_step.specs.Context.{ContextView}
use Rattle.board_step.specs.Reads.{outside_of}
use Rattle.board_step.specs.Step.{instr_draft}
use Rattle.abs_state.specs.Seen.{Seen}
use Rattle.abs_state.specs.Variables.{value_in}
use Rattle.abs_state.specs.declared.pairs.Pairs.{Pairs}
use Rattle.abs_state.specs.declared.state.AbsState.{AbsState}
use Rattle.abs_draft.specs.Ground.{GroundView}
use Rattle.abs_draft.specs.Outcomes.{after_moves, before_test, known_before, test_of}
use Rattle.abs_draft.specs.declared.data_write.DataWrite.{DataWrite}
use Rattle.abs_laws.proofs.Short.{short}
use Rattle.abs_laws.proofs.Ways.{taken_is}
use Rattle.abs_step.specs.Successors.{jumps_anywhere, uses_stack, writes_of}
use Rattle.linear_effects.specs.ByteEffects.{complemented}
use Rattle.linear_effects.specs.Carried.{carried_range}
use Rattle.linear_effects.specs.Effects.{becoming, effect_of}
use Rattle.linear_effects.specs.declared.variable_effect.LinearEffect.{LinearEffect}
use Rattle.refined_step.specs.Conditionals.{tested_condition}

-- ---- with a condition

pub record IsConditional (instr : Instr) (condition : Condition) : Type 0 where
  pub test : test_of (moves_of instr) ≡ Some (tests.Flag condition)
  pub first : before_test (moves_of instr) ≡ []
  pub jumps : (s : AbsState) → jumps_anywhere instr s ≡ false

no_condition : (P : Type 0) (condition : Condition) → (let o : Option Condition = None in o) ≡ Some condition → P
no_condition P condition e = absurd (cc)

pub conditional : (instr : Instr) (condition : Condition) → tested_condition instr ≡ Some condition → IsConditional instr condition
unfolding test_of before_test
conditional (instrs.JumpIf given nn) condition e = subst (IsConditional (instrs.JumpIf given nn)) (same_Some given condition e) (record { test = refl; first = refl; jumps = λ s. refl })
conditional (instrs.JumpRelativeIf given by) condition e = subst (IsConditional (instrs.JumpRelativeIf given by)) (same_Some (long_condition given) condition e) (record { test = refl; first = refl; jumps = λ s. refl })
conditional (instrs.CallIf given nn) condition e = subst (IsConditional (instrs.CallIf given nn)) (same_Some given condition e) (record { test = refl; first = refl; jumps = λ s. refl })
conditional (instrs.ReturnIf given) condition e = subst (IsConditional (instrs.ReturnIf given)) (same_Some given condition e) (record { test = refl; first = refl; jumps = λ s. refl })
conditional _ condition e = no_condition _ condition e

-- the outcome of a machine is whether the condition holds of its flags
pub outcome_tells : (c : ContextView) (instr : Instr) (condition : Condition) → IsConditional instr condition → holds condition (flags_of c.state.regs.main.f) ≡ (instr_draft c instr).taken
unfolding drafted
outcome_tells c instr condition k =
    let o = outside_of c in
    let first = draft_on (past (length (spelling instr)) c.state.regs) in
    let told : (instr_draft c instr).taken ≡ test_holds (tests.Flag condition) (drafted o (before_test (moves_of instr)) first) = taken_is o (moves_of instr) (tests.Flag condition) first k.test (short instr).once in
    let start : test_holds (tests.Flag condition) (drafted o (before_test (moves_of instr)) first) ≡ holds condition (flags_of c.state.regs.main.f) =
    ap (λ (ms : List Move). test_holds (tests.Flag condition) (drafted o ms first)) k.first in
    sym (told ∙ start)

-- it makes no data writes
nothing_either : (b : Bool) (ws : List DataWrite) → ws ≡ [] → cond b [] ws ≡ []
nothing_either true ws e = refl
nothing_either false ws e = e

pub no_known_writes : (g : GroundView) (address : ℕ) (s : AbsState) (instr : Instr) (condition : Condition) → IsConditional instr condition → writes_of g address s (Ok instr) ≡ []
unfolding after_moves
no_known_writes g address s instr condition k =
    nothing_either (is_io instr) _ (ap (λ (ms : List Move). (after_moves g true ms (known_before address instr s)).writes.items) k.first)

-- ---- with a linear effect

abbrev pub is_register : Variable → Bool
is_register (variables.Slot number part) = false
is_register v = true

pub record IsPlain (instr : Instr) (v : Variable) : Type 0 where
  pub test : test_of (moves_of instr) ≡ None
  pub stack : uses_stack instr ≡ false
  pub register : is_register v ≡ true

becoming_variable : (v : Variable) (o : Option LinearView) (e : LinearEffect) → becoming v o ≡ Some e → v ≡ e.variable
becoming_variable v None e h = absurd (cc)
becoming_variable v (Some s) e h = ap (λ (x : LinearEffect). x.variable) (same_Some _ e h)

no_effect : (P : Type 0) (e : LinearEffect) → (let o : Option LinearEffect = None in o) ≡ Some e → P
no_effect P e h = absurd (cc)

plain_for : (instr : Instr) (v : Variable) (o : Option LinearView) (e : LinearEffect) → IsPlain instr v → becoming v o ≡ Some e → IsPlain instr e.variable
plain_for instr v o e k h = subst (IsPlain instr) (becoming_variable v o e h) k

pub plain : (instr : Instr) (pairs : Pairs) (byte : RangeView) (carry : Option Bool) (e : LinearEffect) → effect_of instr pairs byte carry ≡ Some e → IsPlain instr e.variable
unfolding effect_of test_of
plain (instrs.Arithmetic kind (operands.Immediate n)) pairs byte carry e h = plain_for _ variables.A _ e (record { test = refl; stack = refl; register = refl }) h
plain (instrs.Arithmetic kind (operands.Place (places.Register r))) pairs byte carry e h = plain_for _ variables.A _ e (record { test = refl; stack = refl; register = refl }) h
plain (instrs.Arithmetic kind (operands.Place (places.Memory memories.AtHl))) pairs byte carry e h = plain_for _ variables.A _ e (record { test = refl; stack = refl; register = refl }) h
plain (instrs.Arithmetic kind (operands.Place (places.Memory (memories.At index d)))) pairs byte carry e h = plain_for _ variables.A _ e (record { test = refl; stack = refl; register = refl }) h
plain instrs.Complement pairs byte carry e h = plain_for _ variables.A (Some complemented) e (record { test = refl; stack = refl; register = refl }) h
plain instrs.Negate pairs byte carry e h = plain_for _ variables.A _ e (record { test = refl; stack = refl; register = refl }) h
plain (instrs.AddHl ss) pairs byte carry e h = plain_for _ variables.Hl _ e (record { test = refl; stack = refl; register = refl }) h
plain (instrs.AdcHl ss) pairs byte carry e h = plain_for _ variables.Hl _ e (record { test = refl; stack = refl; register = refl }) h
plain (instrs.SbcHl ss) pairs byte carry e h = plain_for _ variables.Hl _ e (record { test = refl; stack = refl; register = refl }) h
plain (instrs.AddIndex indexes.Ix pp) pairs byte carry e h = plain_for _ variables.Ix _ e (record { test = refl; stack = refl; register = refl }) h
plain (instrs.AddIndex indexes.Iy pp) pairs byte carry e h = plain_for _ variables.Iy _ e (record { test = refl; stack = refl; register = refl }) h
plain _ pairs byte carry e h = no_effect _ e h

no_range : (P : Type 0) (r : RangeView) → (let o : Option RangeView = None in o) ≡ Some r → P
no_range P r h = absurd (cc)

pub plain_carried : (instr : Instr) (pairs : Pairs) (byte : RangeView) (carry : Option Bool) (r : RangeView) → carried_range instr pairs byte carry ≡ Some r → IsPlain instr variables.A
unfolding carried_range test_of
plain_carried (instrs.Arithmetic kind (operands.Immediate n)) pairs byte carry r h = record { test = refl; stack = refl; register = refl }
plain_carried (instrs.Arithmetic kind (operands.Place (places.Register s))) pairs byte carry r h = record { test = refl; stack = refl; register = refl }
plain_carried (instrs.Arithmetic kind (operands.Place (places.Memory memories.AtHl))) pairs byte carry r h = record { test = refl; stack = refl; register = refl }
plain_carried (instrs.Arithmetic kind (operands.Place (places.Memory (memories.At index d)))) pairs byte carry r h = record { test = refl; stack = refl; register = refl }
plain_carried _ pairs byte carry r h = no_range _ r h

-- a register or a pair holds a word
pub register_small : (v : Variable) (m : Seen) → IsRegs m.regs → is_register v ≡ true → value_in m v < 65536
register_small variables.A m h r = let k = h.main.a in omega arith
register_small variables.B m h r = let k = h.main.b in omega arith
register_small variables.C m h r = let k = h.main.c in omega arith
register_small variables.D m h r = let k = h.main.d in omega arith
register_small variables.E m h r = let k = h.main.e in omega arith
register_small variables.H m h r = let k = h.main.h in omega arith
register_small variables.L m h r = let k = h.main.l in omega arith
register_small variables.Bc m h r = let k = h.main.b in let j = h.main.c in omega arith
register_small variables.De m h r = let k = h.main.d in let j = h.main.e in omega arith
register_small variables.Hl m h r = let k = h.main.h in let j = h.main.l in omega arith
register_small variables.Ix m h r = h.ix
register_small variables.Iy m h r = h.iy
register_small (variables.Slot number part) m h r = absurd (cc)
