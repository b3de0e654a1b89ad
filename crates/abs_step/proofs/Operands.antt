-- The byte in work at the end of an instruction lies in its known range.
use Rattle.std.proofs.Common.{◌≡◌, ◌<◌, ◌+◌, ℕ, Bool, true, false, cond, length, Option, Some, None, Ok, refl, sym, subst, arith, inl, inr}
use Rattle.std.specs.Prelude.{nat_lt}
use Rattle.std.proofs.lemmas.Bool.{cases_Bool}
use Rattle.intervals.specs.Range.{RangeView, Within, single}
use Rattle.intervals.specs.declared.pair.Pair.{Pair}
use Rattle.loop_bounds.specs.declared.effect.Change.{Change}
use Rattle.z80_decode.specs.Spelling.{spelling}
use Rattle.z80_decode.specs.declared.instr.Instr.{Instr}
use Rattle.z80_decode.specs.declared.instr.Instr.TheVariants as instrs
use Rattle.z80_decode.specs.declared.operands.Pointer.TheVariants as pointers
use Rattle.z80_decode.specs.declared.operands.StackPair.TheVariants as stack_pairs
use Rattle.z80_moves.proofs.Fits.{moves_fit}
use Rattle.z80_moves.specs.Moves.{moves_of}
use Rattle.z80_moves.specs.Operands.{pointer_register, stack_register}
use Rattle.z80_moves.specs.declared.moves.Move.TheVariants.{Push, Pop, ExchangeStack}
use Rattle.z80_moves.specs.declared.moves.Test.{Test}
use Rattle.z80_moves.specs.declared.registers.WordRegister.{WordRegister}
use Rattle.z80_moves.specs.declared.registers.WordRegister.TheVariants as words
use Rattle.z80_draft.proofs.RangeLemmas.{IsDraft, drafted_in_range}
use Rattle.z80_draft.specs.Draft.{DraftView, draft_on, drafted, moved, past}
use Rattle.z80_draft.specs.Room.{accesses_in}
use Rattle.address_map.specs.declared.region.Region.{Region}
use Rattle.board_fetch.specs.Decoded.{StandsAt}
use Rattle.board_step.proofs.RangeLemmas.{IsContext, outside_is_in_range, spelled_fits}
use Rattle.board_step.proofs.StateRangeLemmas.{begins_past}
use Rattle.board_step.specs.Context.{ContextView}
use Rattle.board_step.specs.Reads.{outside_of}
use Rattle.board_step.specs.State.{BoardView}
use Rattle.board_step.specs.Step.{instr_draft}
use Rattle.board_step.specs.declared.env.Env.{Env}
use Rattle.abs_state.specs.Variables.{value_in}
use Rattle.abs_state.specs.declared.state.AbsState.{AbsState}
use Rattle.abs_draft.specs.AbsDraft.{push_pair, put_known_pair}
use Rattle.abs_draft.specs.AfterMove.{after_move}
use Rattle.abs_draft.specs.Ground.{GroundView}
use Rattle.abs_draft.specs.Outcomes.{after_moves, before_test, behind_test, known_at_test, known_before, test_of}
use Rattle.abs_draft.specs.declared.draft.AbsDraft.{AbsDraft}
use Rattle.abs_laws.specs.Fits.{Fits}
use Rattle.abs_laws.proofs.Lists.{parts_of_list, without_test}
use Rattle.abs_laws.proofs.Ways.{test_met}
use Rattle.abs_step.specs.Contained.{Before, Running, seen_of}
use Rattle.abs_step.specs.Successors.{operand_by, operand_of, uses_stack}
use Rattle.abs_step.proofs.Here.{begun, here}
use Rattle.abs_step.proofs.Scenes.{no_accesses}

missing : (P : Type 0) → (let b : Bool = false in b) ≡ true → P
missing P e = absurd (cc)

-- ---- it is a byte

pub draft_is_small : (c : ContextView) (instr : Instr) → IsContext c → StandsAt c.hardware.rom c.state.regs.pc (Ok instr) → (instr_draft c instr).operand < 256
draft_is_small c instr k stands =
    let d : IsDraft (instr_draft c instr) = drafted_in_range _ _ _ (outside_is_in_range c k) (moves_fit instr (spelled_fits c.hardware.rom c.state.regs.pc instr k.rom stands)) (begins_past c.state _ k.state) in
    d.operand

-- ---- moves on the stack leave it

either_operand : (b : Bool) (x y k : AbsDraft) → x.operand ≡ k.operand → y.operand ≡ k.operand → (cond b x y).operand ≡ k.operand
either_operand true x y k p q = p
either_operand false x y k p q = q

pushed_operand : (pair : Pair) (word high low : Change) (k : AbsDraft) → (push_pair pair (record { word = word; high = high; low = low }) k).operand ≡ k.operand
pushed_operand pair word high low k = either_operand (nat_lt (length k.state.shape) 64) _ _ k refl refl

push_operand : (g : GroundView) (inline : Bool) (w : WordRegister) (k : AbsDraft) → (after_move g inline (Push w) k).operand ≡ k.operand
unfolding after_move
push_operand g inline words.Pc k = either_operand inline _ k k (pushed_operand _ _ _ _ k) refl
push_operand g inline words.Sp k = pushed_operand _ _ _ _ k
push_operand g inline words.Pointer k = pushed_operand _ _ _ _ k
push_operand g inline _ k = pushed_operand _ _ _ _ k

pair_operand : (w : WordRegister) (pair : Pair) (word high low : Change) (k : AbsDraft) → (put_known_pair w pair (record { word = word; high = high; low = low }) k).operand ≡ k.operand
pair_operand words.Pc pair word high low k = refl
pair_operand words.Sp pair word high low k = refl
pair_operand words.Pointer pair word high low k = refl
pair_operand _ pair word high low k = refl

pop_operand : (g : GroundView) (inline : Bool) (w : WordRegister) (k : AbsDraft) → (after_move g inline (Pop w) k).operand ≡ k.operand
unfolding after_move
pop_operand g inline w k = pair_operand w _ _ _ _ k

exchange_operand : (g : GroundView) (inline : Bool) (w : WordRegister) (k : AbsDraft) → (after_move g inline (ExchangeStack w) k).operand ≡ k.operand
unfolding after_move
exchange_operand g inline w k = pair_operand w _ _ _ _ k

-- ---- instructions

module _ (g : GroundView) (address : ℕ) (inline : Bool) (a : AbsState) where
  abbrev At : Instr → RangeView
  At instr = (known_at_test g address inline instr a).operand

  stack_known : (instr : Instr) → uses_stack instr ≡ true → test_of (moves_of instr) ≡ None → At instr ≡ single 0
  unfolding before_test test_of after_moves after_move
  stack_known (instrs.Push qq) u t = push_operand g inline (stack_register qq) (known_before address (instrs.Push qq) a)
  stack_known (instrs.Pop qq) u t = pop_operand g inline (stack_register qq) (known_before address (instrs.Pop qq) a)
  stack_known (instrs.ExchangeStack p) u t = exchange_operand g inline (pointer_register p) (known_before address (instrs.ExchangeStack p) a)
  stack_known (instrs.Call nn) u t = push_operand g inline words.Pc (known_before address (instrs.Call nn) a)
  stack_known (instrs.Restart p) u t = push_operand g inline words.Pc (known_before address (instrs.Restart p) a)
  stack_known instrs.Return u t = refl
  stack_known instrs.ReturnFromInterrupt u t = refl
  stack_known instrs.ReturnFromNonMaskable u t = refl
  stack_known (instrs.CallIf condition nn) u t = absurd (cc)
  stack_known (instrs.ReturnIf condition) u t = absurd (cc)
  stack_known _ u t = missing _ u

stack_found : (c : ContextView) (instr : Instr) → uses_stack instr ≡ true → test_of (moves_of instr) ≡ None → (instr_draft c instr).operand ≡ 0
unfolding drafted moved test_of
stack_found c (instrs.Push qq) u t = refl
stack_found c (instrs.Pop stack_pairs.Bc) u t = refl
stack_found c (instrs.Pop stack_pairs.De) u t = refl
stack_found c (instrs.Pop stack_pairs.Hl) u t = refl
stack_found c (instrs.Pop stack_pairs.Af) u t = refl
stack_found c (instrs.Pop stack_pairs.Ix) u t = refl
stack_found c (instrs.Pop stack_pairs.Iy) u t = refl
stack_found c (instrs.ExchangeStack pointers.Hl) u t = refl
stack_found c (instrs.ExchangeStack pointers.Ix) u t = refl
stack_found c (instrs.ExchangeStack pointers.Iy) u t = refl
stack_found c (instrs.Call nn) u t = refl
stack_found c (instrs.Restart p) u t = refl
stack_found c instrs.Return u t = refl
stack_found c instrs.ReturnFromInterrupt u t = refl
stack_found c instrs.ReturnFromNonMaskable u t = refl
stack_found c (instrs.CallIf condition nn) u t = absurd (cc)
stack_found c (instrs.ReturnIf condition) u t = absurd (cc)
stack_found c _ u t = missing _ u

zero_lies : (range : RangeView) (n : ℕ) → range ≡ single 0 → n ≡ 0 → Within range n
zero_lies range n e f = subst (λ (r : RangeView). Within r n) (sym e) (omega (arith, f))

module _ (g : GroundView) (address : ℕ) (inline : Bool) (a : AbsState) (instr : Instr) (region : Region) (running : Running) (s : BoardView) (env : Env) (at : s.regs.pc ≡ address) (stands : StandsAt g.rom address (Ok instr)) (b : Before g.cells region running a (here g s env)) where
  aside_lies : uses_stack instr ≡ false → test_of (moves_of instr) ≡ None → Within (known_at_test g address inline instr a).operand (instr_draft (here g s env) instr).operand
  aside_lies u none =
      let o = outside_of (here g s env) in
      let start = begun g address a instr region running s env at stands b in
      let parts = parts_of_list (moves_of instr) in
      let all : accesses_in (moves_of instr) ≡ 0 = no_accesses instr u in
      let both : accesses_in (before_test (moves_of instr)) + accesses_in (behind_test (moves_of instr)) ≡ accesses_in (moves_of instr) = parts.accesses in
      let first = draft_on (past (length (spelling instr)) s.regs) in
      let f : Fits g a (known_at_test g address inline instr a) running.entry (value_in (seen_of g.cells running.words s)) (drafted o (before_test (moves_of instr)) first) running.words =
      test_met g a o inline (moves_of instr) (known_before address instr a) running.entry (value_in (seen_of g.cells running.words s)) first running.words start.run start.start (omega arith) in
      subst (λ (d : DraftView). Within (known_at_test g address inline instr a).operand d.operand) (sym (without_test o (moves_of instr) first none)) f.operand

  within_byte : (n : ℕ) → n < 256 → Within (let r : RangeView = record { low = 0; high = 255 } in r) n
  within_byte n h = omega (arith, h)

  pub operand_lies : (instr_draft (here g s env) instr).operand < 256 → Within (operand_of g address inline a instr) (instr_draft (here g s env) instr).operand
  operand_lies small = by (test_of (moves_of instr)) refl
    where
      by : (o : Option Test) → test_of (moves_of instr) ≡ o → Within (operand_by o (known_at_test g address inline instr a).operand) (instr_draft (here g s env) instr).operand
      by (Some test) is = within_byte _ small
      by None is =
          elim (cases_Bool (uses_stack instr)) [
            | inl u ↦ zero_lies _ _ (stack_known g address inline a instr u is) (stack_found (here g s env) instr u is)
            | inr u ↦ aside_lies u is
          ]
