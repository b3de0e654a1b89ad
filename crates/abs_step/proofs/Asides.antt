-- An instruction that does not use the stack: what is known at its end holds of its draft and is that of one of its
-- successors.
use Rattle.std.proofs.Common.{inl, inr, ◌≡◌, ◌≢◌, ◌+◌, ◌∙◌, ℕ, Bool, true, false, not, List, length, Option, Some, None, Ok, IsSomeAnd, refl, sym, ap, subst, arith}
use Rattle.std.specs.Prelude.{◌||◌, ◌&&◌, option_map, if◌then◌else◌}
use Rattle.std.specs.List.{Contains}
use Rattle.std.proofs.lemmas.Bool.{cases_Bool}
use Rattle.intervals.specs.Domain.{Entry}
use Rattle.loop_bounds.specs.Effect.{Valuation}
use Rattle.stack_shape.specs.declared.slot.Slot.{Slot}
use Rattle.t_states.specs.Costs.{cost_of}
use Rattle.t_states.specs.Io.{is_io}
use Rattle.z80_decode.specs.Spelling.{spelling}
use Rattle.z80_decode.specs.declared.instr.Instr.{Instr}
use Rattle.z80_draft.specs.Draft.{draft_on, past}
use Rattle.z80_draft.specs.Room.{accesses_in}
use Rattle.z80_moves.specs.Moves.{moves_of}
use Rattle.z80_moves.specs.declared.moves.Test.{Test}
use Rattle.board_step.specs.Context.{ContextView}
use Rattle.board_step.specs.Reads.{outside_of}
use Rattle.board_step.specs.Step.{instr_draft, t_of}
use Rattle.abs_state.specs.declared.state.AbsState.{AbsState}
use Rattle.abs_draft.specs.Ground.{GroundView}
use Rattle.abs_draft.specs.Outcomes.{after_moves, before_test, behind_test, known_before, state_tested, test_of, tested}
use Rattle.abs_draft.specs.declared.data_write.DataWrite.{DataWrite}
use Rattle.abs_draft.specs.declared.draft.AbsDraft.{AbsDraft}
use Rattle.abs_laws.specs.Fits.{Fits}
use Rattle.abs_laws.specs.Lists.{MayRun}
use Rattle.abs_laws.proofs.Lists.{parts_of_list}
use Rattle.abs_laws.proofs.Short.{short}
use Rattle.abs_laws.proofs.Ways.{goes_left, goes_straight, goes_taken, moves_keep_taken}
use Rattle.z80_actions.specs.Known.{returns_if_taken}
use Rattle.abs_step.specs.Successors.{is_call, is_empty, pops_word, pushes_word, next_kind_of, next_of, uses_stack, way_by, way_on, writes_of}
use Rattle.abs_step.specs.declared.next.Next.{Next}
use Rattle.abs_step.specs.declared.next.NextKind.{NextKind}
use Rattle.abs_step.specs.declared.next.NextKind.TheVariants as kinds
use Rattle.abs_step.proofs.KnownWrites.{inline_alikes, moves_writes}
use Rattle.abs_step.proofs.TameInstructions.{IsTame}
use Rattle.abs_step.proofs.TameMoves.{IsOne, are_tame, moves_pc, tame}

-- what is known at the end of an instruction, which holds of its draft, and the successor made of it
pub record End (g : GroundView) (c : ContextView) (a : AbsState) (instr : Instr) (main : Bool) (kind : NextKind) (entry : Entry) (before : Valuation) (words : List ℕ) (ws : List DataWrite) (ways : Bool → List Next) : Type 0 where
  pub known : AbsDraft
  pub fits : Fits g a known entry before (instr_draft c instr) words
  pub taken : Bool
  pub takes : (instr_draft c instr).taken ≡ taken
  pub listed : Contains (ways taken) (next_of main instr taken kind known)
  -- an exit has no address
  pub one : (kind ≢ kinds.Exit) → IsOne known.pc
  pub writes : known.writes.items ≡ ws

-- its T-states, and its place among the successors of the outcome
pub end_costs : (g : GroundView) (c : ContextView) (a : AbsState) (instr : Instr) (main : Bool) (kind : NextKind) (entry : Entry) (before : Valuation) (words : List ℕ) (ws : List DataWrite) (ways : Bool → List Next)
    → (e : End g c a instr main kind entry before words ws ways) → t_of c instr ≡ cost_of instr e.taken
end_costs g c a instr main kind entry before words ws ways e = ap (cost_of instr) e.takes

pub end_listed : (g : GroundView) (c : ContextView) (a : AbsState) (instr : Instr) (main : Bool) (kind : NextKind) (entry : Entry) (before : Valuation) (words : List ℕ) (ws : List DataWrite) (ways : Bool → List Next)
    → (e : End g c a instr main kind entry before words ws ways) → Contains (ways (instr_draft c instr).taken) (next_of main instr e.taken kind e.known)
end_listed g c a instr main kind entry before words ws ways e =
    subst (λ (b : Bool). Contains (ways b) (next_of main instr e.taken kind e.known)) (sym e.takes) e.listed

-- ---- small facts

pub record Some_of (o : Option AbsDraft) (P : AbsDraft → Type 0) : Type 0 where
  pub known : AbsDraft
  pub is : o ≡ Some known
  pub holds : P known

pub some_of : (o : Option AbsDraft) (P : AbsDraft → Type 0) → IsSomeAnd o P → Some_of o P
some_of None P h = absurd h
some_of (Some n) P h = record { known = n; is = refl; holds = h }

-- a test changes neither the program counter nor the data writes
pub record Left (old new : AbsDraft) : Type 0 where
  pub pc : new.pc ≡ old.pc
  pub writes : new.writes ≡ old.writes

left_by : (o : Option AbsState) (k n : AbsDraft) → option_map (λ s. record k { state = s }) o ≡ Some n → Left k n
left_by None k n e = absurd (cc)
left_by (Some s) k n e =
    let some : Option AbsDraft → AbsDraft = λ o. elim o as (λ _. AbsDraft) [ Some x ↦ x | None ↦ n ] in
    let is : record k { state = s } ≡ n = ap some e in
    record { pc = sym (ap (λ (x : AbsDraft). x.pc) is); writes = sym (ap (λ (x : AbsDraft). x.writes) is) }

pub tested_leaves : (test : Test) (held : Bool) (k n : AbsDraft) → tested test held k ≡ Some n → Left k n
tested_leaves test held k n e = left_by (state_tested test held k.state) k n e

or_false : (x y : Bool) → (x || y) ≡ false → (x ≡ false) × (y ≡ false)
or_false true y e = absurd (cc)
or_false false y e = (refl, e)

jumps : (x y : Bool) (z : NextKind) → x ≡ false → y ≡ false → (inline empty : Bool) → (if (x && not inline) then kinds.Call else if (y && empty) then kinds.Exit else z) ≡ z
jumps x y z p q inline empty = rw p (rw q refl)

-- the successor of an instruction that does not use the stack is a jump
pub jump_kind : (inline : Bool) (instr : Instr) (shape : List Slot) → uses_stack instr ≡ false → next_kind_of inline instr shape ≡ kinds.Jump
jump_kind inline instr shape u =
    let p = or_false (is_call instr || returns_if_taken instr) (pushes_word instr || pops_word instr) u in
    let q = or_false (is_call instr) (returns_if_taken instr) p.0 in
    jumps (is_call instr) (returns_if_taken instr) kinds.Jump q.0 q.1 inline (is_empty shape)

-- the successor of an outcome
pub only_way : (n : AbsDraft) (f : AbsDraft → Next) → Contains (way_on (Some n) f) (f n)
only_way n f = (0, omega arith, refl)

-- ---- the successors

module _ (g : GroundView) (c : ContextView) (a : AbsState) (instr : Instr) (main inline : Bool) (entry : Entry) (before : Valuation) (words : List ℕ) (address : ℕ) (io : is_io instr ≡ false) (start : Fits g a (known_before address instr a) entry before (draft_on (past (length (spelling instr)) c.state.regs)) words) (run : MayRun g (outside_of c) (known_before address instr a) (draft_on (past (length (spelling instr)) c.state.regs)) (moves_of instr)) where
  abbrev Ends : NextKind → Type 0
  Ends kind = End g c a instr main kind entry before words (writes_of g address a (Ok instr)) (way_by g main inline instr kind (test_of (moves_of instr)) (after_moves g inline (before_test (moves_of instr)) (known_before address instr a)))

  abbrev at_test : AbsDraft
  at_test = after_moves g inline (before_test (moves_of instr)) (known_before address instr a)

  -- the data writes are those known at the test
  writes_at : (alike : at_test ≡ after_moves g true (before_test (moves_of instr)) (known_before address instr a)) → at_test.writes.items ≡ writes_of g address a (Ok instr)
  writes_at alike = rw io (ap (λ (k : AbsDraft). k.writes.items) alike)

  pub straight_end : (kind : NextKind) → accesses_in (moves_of instr) ≡ 0 → test_of (moves_of instr) ≡ None → IsOne at_test.pc → at_test ≡ after_moves g true (before_test (moves_of instr)) (known_before address instr a) → Ends kind
  straight_end kind accesses none one alike = record {
    known = at_test;
    fits = goes_straight g a (outside_of c) inline (moves_of instr) (known_before address instr a) entry before _ words run start accesses none;
    taken = false;
    takes = moves_keep_taken (outside_of c) (moves_of instr) (draft_on (past (length (spelling instr)) c.state.regs)) none;
    listed = subst (λ (o : Option Test). Contains (way_by g main inline instr kind o at_test false) (next_of main instr false kind at_test)) (sym none) (0, omega arith, refl);
    one = λ on. one;
    writes = writes_at alike;
  }

  -- the successors of one outcome of a test
  with_test : (kind : NextKind) (test : Test) (taken : Bool) (n : Next) → test_of (moves_of instr) ≡ Some test → Contains (way_by g main inline instr kind (Some test) at_test taken) n
      → Contains (way_by g main inline instr kind (test_of (moves_of instr)) at_test taken) n
  with_test kind test taken n is h = subst (λ (o : Option Test). Contains (way_by g main inline instr kind o at_test taken) n) (sym is) h

  -- where the test did not hold
  pub left_end : (kind : NextKind) (test : Test) → test_of (moves_of instr) ≡ Some test → accesses_in (before_test (moves_of instr)) ≡ 0 → IsOne at_test.pc → at_test ≡ after_moves g true (before_test (moves_of instr)) (known_before address instr a)
      → (instr_draft c instr).taken ≡ false → End g c a instr main kinds.Jump entry before words (writes_of g address a (Ok instr)) (way_by g main inline instr kind (test_of (moves_of instr)) at_test)
  left_end kind test is accesses one alike out =
      let left_way : AbsDraft → Next = λ left. next_of main instr false kinds.Jump left in
      let n = some_of _ _ (goes_left g a (outside_of c) inline (moves_of instr) (known_before address instr a) entry before _ words run start test is accesses out) in
      let rest = tested_leaves test false at_test n.known n.is in
      record {
        known = n.known;
        fits = n.holds;
        taken = false;
        takes = out;
        listed = with_test kind test false _ is (subst (λ (o : Option AbsDraft). Contains (way_on o left_way) (next_of main instr false kinds.Jump n.known)) (sym n.is) (only_way n.known left_way));
        one = λ on. subst IsOne (sym rest.pc) one;
        writes = ap (λ w. w.items) rest.writes ∙ writes_at alike;
      }

  -- where the test held
  pub taken_end : (kind : NextKind) (test : Test) → test_of (moves_of instr) ≡ Some test → accesses_in (moves_of instr) ≡ 0 → are_tame (behind_test (moves_of instr)) ≡ true → IsOne at_test.pc → at_test ≡ after_moves g true (before_test (moves_of instr)) (known_before address instr a)
      → (instr_draft c instr).taken ≡ true → Ends kind
  taken_end kind test is accesses behind one alike out =
      let held_way : AbsDraft → Next = λ taken. next_of main instr true kind (after_moves g inline (behind_test (moves_of instr)) taken) in
      let n = some_of _ _ (goes_taken g a (outside_of c) inline (moves_of instr) (known_before address instr a) entry before _ words run start test is accesses out) in
      let rest = tested_leaves test true at_test n.known n.is in
      record {
        known = after_moves g inline (behind_test (moves_of instr)) n.known;
        fits = n.holds;
        taken = true;
        takes = out;
        listed = with_test kind test true _ is (subst (λ (o : Option AbsDraft). Contains (way_on o held_way) (next_of main instr true kind (after_moves g inline (behind_test (moves_of instr)) n.known))) (sym n.is) (only_way n.known held_way));
        one = λ on. moves_pc g inline (behind_test (moves_of instr)) n.known behind (subst IsOne (sym rest.pc) one);
        writes = ap (λ w. w.items) (moves_writes g inline (behind_test (moves_of instr)) n.known (short instr).writes_first ∙ rest.writes) ∙ writes_at alike;
      }

  by_outcome : (kind : NextKind) (test : Test) → test_of (moves_of instr) ≡ Some test → accesses_in (moves_of instr) ≡ 0 → IsTame instr → IsOne at_test.pc → at_test ≡ after_moves g true (before_test (moves_of instr)) (known_before address instr a) → Ends kinds.Jump
  by_outcome kind test is accesses t one alike =
      let parts = parts_of_list (moves_of instr) in
      let before_none : accesses_in (before_test (moves_of instr)) ≡ 0 = (tame _ t.before).accesses in
      elim (cases_Bool (instr_draft c instr).taken) [
        | inl out ↦ taken_end kinds.Jump test is accesses t.behind one alike out
        | inr out ↦ left_end kinds.Jump test is before_none one alike out
      ]

  -- an instruction with tame moves
  pub tame_end : IsTame instr → Ends kinds.Jump
  tame_end t =
      let parts = parts_of_list (moves_of instr) in
      let first : accesses_in (before_test (moves_of instr)) ≡ 0 = (tame _ t.before).accesses in
      let second : accesses_in (behind_test (moves_of instr)) ≡ 0 = (tame _ t.behind).accesses in
      let both : accesses_in (before_test (moves_of instr)) + accesses_in (behind_test (moves_of instr)) ≡ accesses_in (moves_of instr) = parts.accesses in
      let accesses : accesses_in (moves_of instr) ≡ 0 = omega arith in
      let one : IsOne at_test.pc = moves_pc g inline (before_test (moves_of instr)) (known_before address instr a) t.before refl in
      let alike = inline_alikes g inline (before_test (moves_of instr)) (known_before address instr a) t.before in
      by (test_of (moves_of instr)) refl accesses one alike
    where
      by : (o : Option Test) → test_of (moves_of instr) ≡ o → accesses_in (moves_of instr) ≡ 0 → IsOne at_test.pc → at_test ≡ after_moves g true (before_test (moves_of instr)) (known_before address instr a) → Ends kinds.Jump
      by None is accesses one alike = straight_end kinds.Jump accesses is one alike
      by (Some test) is accesses one alike = by_outcome kinds.Jump test is accesses t one alike
