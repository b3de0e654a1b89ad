-- The effect of a step, with priority for constants, gives the values after it.
use Rattle.std.proofs.Common.{◌≡◌, ℕ, Bool, true, false, cond, eqb, refl, ap, arith, List, [], length, get_or, Option, Some, None, pos}
use Rattle.std.specs.Prelude.{option_map}
use Rattle.std.proofs.lemmas.Bool.{eqb-true}
use Rattle.intervals.specs.Domain.{Entry}
use Rattle.intervals.specs.Range.{RangeView, Within}
use Rattle.loop_bounds.specs.Effect.{Valuation, change_of, part_change, slot_change}
use Rattle.loop_bounds.specs.declared.effect.Change.{Change}
use Rattle.loop_bounds.specs.declared.effect.Change.TheVariants.{Constant, Old}
use Rattle.loop_bounds.specs.declared.effect.SlotChange.{SlotChange}
use Rattle.loop_bounds.specs.declared.variable.Part.{Part}
use Rattle.loop_bounds.specs.declared.variable.Part.TheVariants.{Word, High, Low}
use Rattle.loop_bounds.specs.declared.variable.Variable.{Variable}
use Rattle.loop_bounds.specs.declared.variable.Variable.TheVariants.{Slot}
use Rattle.stack_shape.specs.declared.slot.Slot.{Slot as ShapeSlot}
use Rattle.z80_draft.specs.Draft.{DraftView}
use Rattle.abs_state.specs.CutLaws.{variable_lies}
use Rattle.abs_state.specs.Variables.{full_slot, part_range, range_of, value_in}
use Rattle.abs_state.specs.declared.state.AbsState.{AbsState}
use Rattle.abs_draft.specs.Ground.{GroundView}
use Rattle.abs_draft.specs.Outcomes.{constant_first, settled, settled_slot}
use Rattle.abs_draft.specs.declared.draft.AbsDraft.{AbsDraft}
use Rattle.abs_laws.specs.Fits.{Fits, FollowsChange, IsThere, seen_by_draft}
use Rattle.abs_laws.proofs.Parts.{held}

constant_follows : (range : RangeView) (change : Change) (before : Valuation) (n : ℕ) → Within range n → FollowsChange change before n → FollowsChange (constant_first range change) before n
constant_follows range change before n w f =
    let at : (t : Bool) → eqb range.low range.high ≡ t → FollowsChange (cond t (Constant range.low) change) before n =
    elim [
      | true ↦ λ e. let one : range.low ≡ range.high = eqb-true _ _ e in let same : range.low ≡ n = omega arith in ap pos same
      | false ↦ λ e. f
    ] in
    at (eqb range.low range.high) refl

part_follows : (shape : List ShapeSlot) (c : SlotChange) (part : Part) (before : Valuation) (n : ℕ) → Within (part_range part (get_or shape c.number full_slot).pair) n → FollowsChange (part_change c part) before n
    → FollowsChange (part_change (settled_slot shape c) part) before n
part_follows shape c Word before n w f = constant_follows _ c.word before n w f
part_follows shape c High before n w f = constant_follows _ c.high before n w f
part_follows shape c Low before n w f = constant_follows _ c.low before n w f

slot_follows : (shape : List ShapeSlot) (slot : Option SlotChange) (number : ℕ) (part : Part) (before : Valuation) (n : ℕ) → Within (part_range part (get_or shape number full_slot).pair) n
    → FollowsChange (slot_change slot number part) before n → FollowsChange (slot_change (option_map (settled_slot shape) slot) number part) before n
slot_follows shape None number part before n w f = f
slot_follows shape (Some c) number part before n w f =
    let at : (t : Bool) → eqb c.number number ≡ t → FollowsChange (cond t (part_change c part) (Old (Slot number part))) before n → FollowsChange (cond t (part_change (settled_slot shape c) part) (Old (Slot number part))) before n =
    elim [
      | true ↦ λ e h. let same : c.number ≡ number = eqb-true _ _ e in part_follows shape c part before n (rw same w) h
      | false ↦ λ e h. h
    ] in
    at (eqb c.number number) refl f

pub settled_follows : (g : GroundView) (start : AbsState) (k : AbsDraft) (entry : Entry) (before : Valuation) (d : DraftView) (stack : List ℕ) → Fits g start k entry before d stack
    → (v : Variable) → IsThere (length stack) v → FollowsChange (change_of (settled k.state k.effect) v) before (value_in (seen_by_draft d stack) v)
settled_follows g start k entry before d stack f (Slot number part) i =
    slot_follows k.state.shape k.effect.slot number part before _ (variable_lies k.state [] entry (seen_by_draft d stack) f.regs (held f) (Slot number part)) (f.follows (Slot number part) i)
settled_follows g start k entry before d stack f v i =
    constant_follows (range_of k.state v) (change_of k.effect v) before (value_in (seen_by_draft d stack) v) (variable_lies k.state [] entry (seen_by_draft d stack) f.regs (held f) v) (f.follows v i)
