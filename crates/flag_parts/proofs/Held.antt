-- Cuts that lose no actual value, for one machine.
use Rattle.std.proofs.Common.{◌≡◌, ◌≢◌, ℕ, refl, sym, subst, Option, Some, None, IsSomeAnd}
use Rattle.std.specs.Prelude.{List}
use Rattle.intervals.proofs.Laws.{without_keeps}
use Rattle.intervals.proofs.PairChanges.{kept_through}
use Rattle.intervals.specs.Domain.{Entry}
use Rattle.intervals.specs.Range.{RangeView, Within, without}
use Rattle.linear_limits.proofs.LimitLemmas.{limited_keeps}
use Rattle.linear_limits.specs.Limit.{IsOnSide, limited}
use Rattle.linear_limits.specs.declared.limiting.SideOfZero.{SideOfZero}
use Rattle.loop_bounds.specs.Effect.{whole}
use Rattle.loop_bounds.specs.Linear.{LinearView, IsLinear, value}
use Rattle.loop_bounds.specs.declared.variable.Variable.{Variable}
use Rattle.z80_draft.specs.Registers.{IsRegs}
use Rattle.abs_state.specs.CutLaws.{variable_lies, variable_cut}
use Rattle.abs_state.specs.Holds.{Holds}
use Rattle.abs_state.specs.Seen.{Seen}
use Rattle.abs_state.specs.Variables.{range_of, cut_to, value_in}
use Rattle.abs_state.specs.declared.cell.KeptCell.{KeptCell}
use Rattle.abs_state.specs.declared.state.AbsState.{AbsState}
use Rattle.flag_parts.specs.Excluding.{without_value}

module _ (cells : List KeptCell) (entry : Entry) (m : Seen) (i : IsRegs m.regs) where
  -- the state holds, and the values are those of the machine
  abbrev HoldsAt : AbsState → (Variable → ℕ) → Type 0
  HoldsAt s x = Holds s cells entry m × ((v : Variable) → x v ≡ value_in m v)

  lies_in : (s : AbsState) (x : Variable → ℕ) (v : Variable) → HoldsAt s x → Within (range_of s v) (x v)
  lies_in s x v h = subst (λ (n : ℕ). Within (range_of s v) n) (sym (h.1 v)) (variable_lies s cells entry m i h.0 v)

  held_at : (x : Variable → ℕ) → ((v : Variable) → x v ≡ value_in m v) → (o : Option AbsState) → IsSomeAnd o (λ t. Holds t cells entry m) → IsSomeAnd o (λ t. HoldsAt t x)
  held_at x e None h = h
  held_at x e (Some t) h = (h, e)

  keeps_at : (s : AbsState) (x : Variable → ℕ) (v : Variable) (to : RangeView) → HoldsAt s x → Within to (x v) → IsSomeAnd (cut_to s v to) (λ t. HoldsAt t x)
  keeps_at s x v to h w = held_at x h.1 (cut_to s v to) (variable_cut s cells entry m i h.0 v to (subst (λ (n : ℕ). Within to n) (h.1 v) w))

  first_of : (x : Variable → ℕ) (o : Option AbsState) → IsSomeAnd o (λ t. HoldsAt t x) → IsSomeAnd o (λ t. Holds t cells entry m)
  first_of x None h = h
  first_of x (Some t) h = h.0

  pub limited_holds : (side : SideOfZero) (linear : LinearView) → IsLinear linear → IsOnSide side (value (whole (value_in m)) linear) → (s : AbsState) → Holds s cells entry m → IsSomeAnd (limited range_of cut_to side linear s) (λ t. Holds t cells entry m)
  limited_holds side linear is on s h =
      first_of (value_in m) (limited range_of cut_to side linear s)
      (limited_keeps range_of cut_to HoldsAt lies_in keeps_at side linear is (value_in m) on s (h, λ v. refl))

  -- one value that is not the machine's is cut
  pub without_holds : (s : AbsState) → Holds s cells entry m → (v : Variable) (n : ℕ) → value_in m v ≢ n → IsSomeAnd (without_value s v n) (λ t. Holds t cells entry m)
  without_holds s h v n other =
      kept_through (without (range_of s v) n) (λ (q : RangeView). Within q (value_in m v)) (cut_to s v) (λ t. Holds t cells entry m)
      (without_keeps (range_of s v) (value_in m v) (variable_lies s cells entry m i h v) n other)
      (λ left inside. variable_cut s cells entry m i h v left inside)
