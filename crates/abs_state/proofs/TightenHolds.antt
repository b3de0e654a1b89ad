-- A fact that is 0 cuts no actual value.
use Rattle.std.proofs.Common.{◌≡◌, ℕ, refl, sym, subst, pos, Option, Some, None, IsSomeAnd}
use Rattle.intervals.specs.Domain.{Entry}
use Rattle.intervals.specs.Range.{RangeView, Within}
use Rattle.loop_bounds.specs.Effect.{whole}
use Rattle.loop_bounds.specs.Linear.{LinearView, IsLinear, value}
use Rattle.loop_bounds.specs.Tighten.{tightened}
use Rattle.loop_bounds.specs.declared.variable.Variable.{Variable}
use Rattle.loop_bounds.proofs.TightenLemmas.{tightened_keeps}
use Rattle.std.specs.Prelude.{List}
use Rattle.z80_draft.specs.Registers.{IsRegs}
use Rattle.abs_state.specs.CutLaws.{variable_lies, variable_cut}
use Rattle.abs_state.specs.Holds.{Holds}
use Rattle.abs_state.specs.Seen.{Seen}
use Rattle.abs_state.specs.Variables.{range_of, cut_to, value_in}
use Rattle.abs_state.specs.declared.cell.KeptCell.{KeptCell}
use Rattle.abs_state.specs.declared.state.AbsState.{AbsState}

module _ (cells : List KeptCell) (entry : Entry) (m : Seen) (i : IsRegs m.regs) where
  -- the state holds, and the values are those of the machine
  abbrev HoldsAt : AbsState → (Variable → ℕ) → Type 0
  HoldsAt s x = Holds s cells entry m × ((v : Variable) → x v ≡ value_in m v)

  lies_in : (s : AbsState) (x : Variable → ℕ) (v : Variable) → HoldsAt s x → Within (range_of s v) (x v)
  lies_in s x v h = subst (λ (n : ℕ). Within (range_of s v) n) (sym (h.1 v)) (variable_lies s cells entry m i h.0 v)

  held_at : (x : Variable → ℕ) → ((v : Variable) → x v ≡ value_in m v) → (o : Option AbsState) → IsSomeAnd o (λ t. Holds t cells entry m) → IsSomeAnd o (λ t. HoldsAt t x)
  held_at x e None h = h
  held_at x e (Some t) h = (h, e)

  keeps_at : (s : AbsState) (x : Variable → ℕ) (v : Variable) (to : RangeView) → HoldsAt s x → Within to (x v) → IsSomeAnd (cut_to s v to) (λ t. HoldsAt t x)
  keeps_at s x v to h w = held_at x h.1 (cut_to s v to) (variable_cut s cells entry m i h.0 v to (subst (λ (n : ℕ). Within to n) (h.1 v) w))

  first_of : (x : Variable → ℕ) (o : Option AbsState) → IsSomeAnd o (λ t. HoldsAt t x) → IsSomeAnd o (λ t. Holds t cells entry m)
  first_of x None h = h
  first_of x (Some t) h = h.0

  pub tightened_holds : (fact : LinearView) → IsLinear fact → value (whole (value_in m)) fact ≡ pos 0 → (s : AbsState) → Holds s cells entry m → IsSomeAnd (tightened range_of cut_to fact s) (λ t. Holds t cells entry m)
  tightened_holds fact linear none s h =
      first_of (value_in m) (tightened range_of cut_to fact s)
      (tightened_keeps range_of cut_to HoldsAt lies_in keeps_at fact linear (value_in m) none s (h, λ v. refl))
