-- A row that is not refused is not refused after narrowing.
use Rattle.std.proofs.Common.{◌≡◌, ℕ, Bool, true, false, cond, not, List, [], ◌∷◌, length, Option, Some, None, refl, sym, subst, arith}
use Rattle.std.specs.Prelude.{◌&&◌, ◌||◌, ◌==◌}
use Rattle.intervals.specs.Logic.{is_single}
use Rattle.stack_shape.specs.declared.slot.Slot.{Slot}
use Rattle.t_states.specs.Io.{is_io}
use Rattle.z80_actions.specs.Known.{returns_if_taken}
use Rattle.z80_decode.specs.declared.instr.Instr.{Instr}
use Rattle.abs_state.specs.Mode.{is_unset}
use Rattle.abs_state.specs.declared.mode.Mode.{Mode}
use Rattle.abs_state.specs.declared.state.AbsState.{AbsState}
use Rattle.abs_draft.specs.AbsDraft.{last_slot}
use Rattle.abs_step.specs.Successors.{has_no_shape, is_call, is_empty, jumps_anywhere, pops_word, pushes_word, refusal, returns_nowhere, uses_stack}
use Rattle.abs_step.specs.declared.reason.Reason.{Reason}
use Rattle.refined_step.proofs.NarrowedStack.{KeepsStack}

or_false : (x y : Bool) → (x || y) ≡ false → (x ≡ false) × (y ≡ false)
or_false true y e = absurd (cc)
or_false false y e = (refl, e)

not_first : (b : Bool) (r : Reason) (rest : Option Reason) → cond b (Some r) rest ≡ None → (b ≡ false) × (rest ≡ None)
not_first true r rest e = absurd (cc)
not_first false r rest e = (refl, e)

and_kept : (u a b : Bool) → (a ≡ false → b ≡ false) → (u && a) ≡ false → (u && b) ≡ false
and_kept true a b f h = f h
and_kept false a b f h = refl

empty_same : (a b : List Slot) → length b ≡ length a → is_empty b ≡ is_empty a
empty_same [] [] e = refl
empty_same (x ∷ xs) (y ∷ ys) e = refl
empty_same [] (y ∷ ys) e = absurd (omega (arith, e))
empty_same (x ∷ xs) [] e = absurd (omega (arith, e))

nowhere_by : (main empty x y : Bool) → (x ≡ true → y ≡ true) → cond empty main (not x) ≡ false → cond empty main (not y) ≡ false
nowhere_by main true x y f h = h
nowhere_by main false true y f h = let one : y ≡ true = f refl in rw one refl
nowhere_by main false false y f h = absurd (cc)

shape_kept : (main inline : Bool) (instr : Instr) (s t : AbsState) → KeepsStack s t → has_no_shape main inline instr s.shape ≡ false → has_no_shape main inline instr t.shape ≡ false
shape_kept main inline instr s t k h =
    let p = or_false (length s.shape == 64 && (pushes_word instr || (is_call instr && inline))) _ h in
    let q = or_false (pops_word instr && is_empty s.shape) (returns_if_taken instr && returns_nowhere main s.shape) p.1 in
    let empty : is_empty t.shape ≡ is_empty s.shape = empty_same s.shape t.shape k.long in
    let nowhere : returns_nowhere main s.shape ≡ false → returns_nowhere main t.shape ≡ false = λ none.
    subst (λ (e : Bool). cond e main (not (is_single (last_slot t.shape).pair.word)) ≡ false) (sym empty)
    (nowhere_by main (is_empty s.shape) (is_single (last_slot s.shape).pair.word) (is_single (last_slot t.shape).pair.word) k.single none) in
    let first : (length t.shape == 64 && (pushes_word instr || (is_call instr && inline))) ≡ false =
    subst (λ (n : ℕ). (n == 64 && (pushes_word instr || (is_call instr && inline))) ≡ false) (sym k.long) p.0 in
    let second : (pops_word instr && is_empty t.shape) ≡ false = subst (λ (b : Bool). (pops_word instr && b) ≡ false) (sym empty) q.0 in
    let third : (returns_if_taken instr && returns_nowhere main t.shape) ≡ false =
    and_kept (returns_if_taken instr) (returns_nowhere main s.shape) (returns_nowhere main t.shape) nowhere q.1 in
    all_false _ _ _ first second third
  where
    all_false : (x y z : Bool) → x ≡ false → y ≡ false → z ≡ false → (x || (y || z)) ≡ false
    all_false true y z p q r = absurd (cc)
    all_false false true z p q r = absurd (cc)
    all_false false false z p q r = r

none_of : (x y z u : Bool) (p q r v : Reason) → x ≡ false → y ≡ false → z ≡ false → u ≡ false → cond x (Some p) (cond y (Some q) (cond z (Some r) (cond u (Some v) None))) ≡ None
none_of x y z u p q r v e f h i = rw e (rw f (rw h (rw i refl)))

pub refusal_kept : (main inline : Bool) (instr : Instr) (s t : AbsState) → ((state : AbsState) → jumps_anywhere instr state ≡ false) → KeepsStack s t → refusal main inline instr s ≡ None → refusal main inline instr t ≡ None
refusal_kept main inline instr s t jumps k none =
    let p = not_first (is_io instr) _ _ none in
    let q = not_first (uses_stack instr && is_unset s.mode) _ _ p.1 in
    let r = not_first (has_no_shape main inline instr s.shape) _ _ q.1 in
    let set : (uses_stack instr && is_unset t.mode) ≡ false = subst (λ (m : Mode). (uses_stack instr && is_unset m) ≡ false) (sym k.mode) q.0 in
    none_of _ _ _ _ _ _ _ _ p.0 set (shape_kept main inline instr s t k r.0) (jumps t)
