-- A successor that is cut to the values of a linear effect.
use Rattle.std.proofs.Common.{◌≡◌, ◌≤◌, ◌<◌, ◌∙◌, ℕ, Bool, true, false, cond, eqb, List, get_or, Option, Some, None, IsSomeAnd, refl, ap, subst, sym, arith, pos, negsuc, ℤ, ◌≤ℤ◌}
use Rattle.std.specs.Prelude.{IfSome, min, option_map, option_and_then}
use Rattle.std.proofs.Math.Nat.{le-min, min-le_left}
use Rattle.std.proofs.lemmas.Bool.{eqb-true}
use Rattle.std.proofs.lemmas.Bool.Decides.{nat_tests}
use Rattle.std.proofs.lemmas.Int.{ints}
use Rattle.address_map.specs.declared.region.Region.{Region}
use Rattle.intervals.proofs.PairChanges.{kept_through}
use Rattle.intervals.specs.Domain.{Entry}
use Rattle.intervals.specs.Range.{RangeView, Within, between}
use Rattle.linear_limits.proofs.SpanLemmas.{LiesWithin, above_least_value, below_greatest_value}
use Rattle.linear_limits.specs.Extremes.{least_value, greatest_value}
use Rattle.loop_bounds.specs.Effect.{Valuation, change_of, part_change, slot_change, whole}
use Rattle.loop_bounds.specs.Linear.{LinearView, value}
use Rattle.loop_bounds.specs.Ranges.{Box}
use Rattle.loop_bounds.specs.declared.effect.Change.{Change}
use Rattle.loop_bounds.specs.declared.effect.Change.TheVariants.{Constant, Old}
use Rattle.loop_bounds.specs.declared.effect.Effect.{Effect}
use Rattle.loop_bounds.specs.declared.effect.SlotChange.{SlotChange}
use Rattle.loop_bounds.specs.declared.variable.Part.{Part}
use Rattle.loop_bounds.specs.declared.variable.Part.TheVariants.{Word, High, Low}
use Rattle.loop_bounds.specs.declared.variable.Variable.{Variable}
use Rattle.loop_bounds.specs.declared.variable.Variable.TheVariants.{Slot}
use Rattle.stack_shape.specs.declared.slot.Slot.{Slot as ShapeSlot}
use Rattle.z80_draft.specs.Registers.{IsRegs}
use Rattle.board_step.specs.Context.{ContextView}
use Rattle.board_step.specs.State.{BoardView}
use Rattle.abs_state.specs.CutLaws.{variable_cut, variable_lies}
use Rattle.abs_state.specs.Holds.{Holds}
use Rattle.abs_state.specs.Seen.{Seen}
use Rattle.abs_state.specs.Variables.{cut_to, full_slot, part_range, range_of, value_in}
use Rattle.abs_state.specs.declared.cell.KeptCell.{KeptCell}
use Rattle.abs_state.specs.declared.state.AbsState.{AbsState}
use Rattle.abs_draft.specs.Outcomes.{constant_first, settled, settled_slot}
use Rattle.abs_laws.specs.Fits.{FollowsChange}
use Rattle.abs_step.specs.Contained.{Running, Through, Went, seen_of}
use Rattle.abs_step.specs.declared.next.Next.{Next}
use Rattle.refined_step.specs.Sharpening.{to_word, value_range, with_cut_state}
use Rattle.refined_step.proofs.NarrowedStack.{KeepsStack}

-- ---- the values of a linear

least_word : (n : ℤ) (k : ℕ) → n ≤ℤ pos k → to_word n ≤ k
least_word (pos n) k h = let p : n ≤ k = omega (arith, ints) in let q : min n 65535 ≤ n = min-le_left n 65535 in omega (arith, p, q)
least_word (negsuc n) k h = omega arith

greatest_word : (n : ℤ) (k : ℕ) → pos k ≤ℤ n → k < 65536 → k ≤ to_word n
greatest_word (pos n) k h small = let p : k ≤ n = omega (arith, ints) in le-min p (omega (arith, small))
greatest_word (negsuc n) k h small = absurd (omega (arith, ints))

between_holds : (low high k : ℕ) → low ≤ k → k ≤ high → IsSomeAnd (between low high) (λ r. Within r k)
between_holds low high k p q = grind (arith, nat_tests)

pub value_within : (box : Box) (linear : LinearView) (x : Valuation) (k : ℕ) → LiesWithin box x → pos k ≡ value (whole x) linear → k < 65536 → IsSomeAnd (value_range box linear) (λ r. Within r k)
value_within box linear x k w e small =
    let low : least_value box linear ≤ℤ pos k = subst (λ (n : ℤ). least_value box linear ≤ℤ n) (sym e) (above_least_value box linear x w) in
    let high : pos k ≤ℤ greatest_value box linear = subst (λ (n : ℤ). n ≤ℤ greatest_value box linear) (sym e) (below_greatest_value box linear x w) in
    between_holds (to_word (least_value box linear)) (to_word (greatest_value box linear)) k (least_word (least_value box linear) k low) (greatest_word (greatest_value box linear) k high small)

-- ---- constants by the state after the cut

constant_follows : (range : RangeView) (change : Change) (before : Valuation) (n : ℕ) → Within range n → FollowsChange change before n → FollowsChange (constant_first range change) before n
constant_follows range change before n w f =
    let at : (t : Bool) → eqb range.low range.high ≡ t → FollowsChange (cond t (Constant range.low) change) before n =
    elim [
      | true ↦ λ e. let one : range.low ≡ range.high = eqb-true _ _ e in let same : range.low ≡ n = omega arith in ap pos same
      | false ↦ λ e. f
    ] in
    at (eqb range.low range.high) refl

part_follows : (shape : List ShapeSlot) (c : SlotChange) (part : Part) (before : Valuation) (n : ℕ) → Within (part_range part (get_or shape c.number full_slot).pair) n → FollowsChange (part_change c part) before n
    → FollowsChange (part_change (settled_slot shape c) part) before n
part_follows shape c Word before n w f = constant_follows _ c.word before n w f
part_follows shape c High before n w f = constant_follows _ c.high before n w f
part_follows shape c Low before n w f = constant_follows _ c.low before n w f

slot_follows : (shape : List ShapeSlot) (slot : Option SlotChange) (number : ℕ) (part : Part) (before : Valuation) (n : ℕ) → Within (part_range part (get_or shape number full_slot).pair) n
    → FollowsChange (slot_change slot number part) before n → FollowsChange (slot_change (option_map (settled_slot shape) slot) number part) before n
slot_follows shape None number part before n w f = f
slot_follows shape (Some c) number part before n w f =
    let at : (t : Bool) → eqb c.number number ≡ t → FollowsChange (cond t (part_change c part) (Old (Slot number part))) before n → FollowsChange (cond t (part_change (settled_slot shape c) part) (Old (Slot number part))) before n =
    elim [
      | true ↦ λ e h. let same : c.number ≡ number = eqb-true _ _ e in part_follows shape c part before n (rw same w) h
      | false ↦ λ e h. h
    ] in
    at (eqb c.number number) refl f

settled_through : (t : AbsState) (moved : Effect) (cells : List KeptCell) (entry : Entry) (old new : Seen) → IsRegs new.regs → Holds t cells entry new → Through moved old new → Through (settled t moved) old new
settled_through t moved cells entry old new i h f (Slot number part) there =
    slot_follows t.shape moved.slot number part (value_in old) (value_in new (Slot number part)) (variable_lies t cells entry new i h (Slot number part)) (f (Slot number part) there)
settled_through t moved cells entry old new i h f v there =
    constant_follows (range_of t v) (change_of moved v) (value_in old) (value_in new v) (variable_lies t cells entry new i h v) (f v there)

-- ---- the successor

-- but for its state and its effect, it is the same
pub record IsAlike (n m : Next) : Type 0 where
  pub kind : m.kind ≡ n.kind
  pub cost : m.cost ≡ n.cost
  pub taken : m.taken ≡ n.taken
  pub stack : KeepsStack n.state m.state

pub alike : (n : Next) (o : Option AbsState) → IfSome o (KeepsStack n.state) → IsAlike n (with_cut_state n o)
alike n None k = record { kind = refl; cost = refl; taken = refl; stack = record { mode = refl; armed = refl; long = refl; single = λ one. one } }
alike n (Some t) k = record { kind = refl; cost = refl; taken = refl; stack = k }

module _ (cells : List KeptCell) (region : Region) (running : Running) (c : ContextView) (n : Next) (new : BoardView) (regs : IsRegs new.regs) (w : Went cells region running c n new) where
  pub cut_went : (o : Option AbsState) → IfSome o (KeepsStack n.state) → IsSomeAnd o (λ t. Holds t cells running.entry (seen_of cells w.words new)) → Went cells region running c (with_cut_state n o) new
  cut_went None k h = w
  cut_went (Some t) k h = record {
    words = w.words;
    pc = w.pc;
    holds = h;
    laid = λ set. w.laid (λ unset. set (k.mode ∙ unset));
    through = settled_through t n.moved cells running.entry (seen_of cells running.words c.state) (seen_of cells w.words new) regs h w.moved;
    moved = w.moved;
  }

-- the state that is left holds of a machine whose variable lies in the range
pub cut_holds : (state : AbsState) (kept : List KeptCell) (entry : Entry) (new : Seen) (v : Variable) (range : Option RangeView) → IsRegs new.regs → Holds state kept entry new → IsSomeAnd range (λ r. Within r (value_in new v))
    → IsSomeAnd (option_and_then (cut_to state v) range) (λ t. Holds t kept entry new)
cut_holds state kept entry new v range j k lies =
    kept_through range (λ r. Within r (value_in new v)) (cut_to state v) (λ t. Holds t kept entry new) lies
    (λ r within. variable_cut state kept entry new j k v r within)

-- a variable with the value of a linear lies in the range of its values
pub linear_lies : (row : AbsState) (cells : List KeptCell) (entry : Entry) (old new : Seen) (v : Variable) (linear : LinearView) → IsRegs old.regs → Holds row cells entry old → pos (value_in new v) ≡ value (whole (value_in old)) linear → value_in new v < 65536
    → IsSomeAnd (value_range (range_of row) linear) (λ r. Within r (value_in new v))
linear_lies row cells entry old new v linear i h e small =
    value_within (range_of row) linear (value_in old) (value_in new v) (variable_lies row cells entry old i h) e small
