-- What rows pay, at the values that activations see.
use Rattle.std.proofs.Common.{◌≡◌, ◌≤◌, ◌∙◌, ℕ, zero, suc, Bool, true, false, cond, eqb, inl, inr, List, [], ◌∷◌, length, get_or, Option, Some, None, ℤ, pos, negsuc, ◌+ℤ◌, ◌-ℤ◌, ◌≤ℤ◌, Contains, refl, sym, ap, subst, arith}
use Rattle.std.specs.Prelude.{◌*◌, ◌*ℤ◌, unsigned_abs, unwrap_or}
use Rattle.std.specs.List.{All}
use Rattle.std.proofs.lemmas.Bool.{eqb-true}
use Rattle.std.proofs.lemmas.Int.{ints, unsigned_abs-mul}
use Rattle.std.proofs.lemmas.List.Elements.{All-head, All-tail}
use Rattle.intervals.specs.Domain.{Entry}
use Rattle.cert_fields.specs.Linear.{IsCoefficient, IsPotential, IsShortPotential, HasSlotsBelow}
use Rattle.loop_bounds.specs.Effect.{Valuation, after, unchanged, whole}
use Rattle.loop_bounds.specs.Linear.{LinearView, total, value}
use Rattle.loop_bounds.specs.declared.effect.Effect.{Effect}
use Rattle.loop_bounds.specs.declared.linear.Term.{Term}
use Rattle.loop_bounds.specs.declared.variable.Variable.{Variable}
use Rattle.loop_bounds.specs.declared.variable.Variable.TheVariants as variables
use Rattle.loop_bounds.specs.declared.variable.Part.{Part}
use Rattle.loop_bounds.specs.declared.variable.Part.TheVariants.{Word, High, Low}
use Rattle.loop_bounds.proofs.Boxes.{total_agree}
use Rattle.loop_bounds.proofs.VariableLemmas.{same_from_rank}
use Rattle.loop_bounds.specs.Variable.{rank_of}
use Rattle.cert_fields.specs.Pair.{IsPair}
use Rattle.cert_fields.specs.Shape.{IsShape}
use Rattle.stack_shape.specs.declared.slot.Slot.{Slot as ShapeSlot}
use Rattle.z80_draft.specs.Registers.{IsRegs}
use Rattle.abs_laws.specs.Fits.{IsThere}
use Rattle.abs_state.specs.CutLaws.{variable_lies}
use Rattle.abs_state.specs.Holds.{Holds}
use Rattle.abs_state.specs.Seen.{Seen}
use Rattle.abs_state.specs.Variables.{full_slot, part_range, range_of, value_in}
use Rattle.abs_state.specs.declared.cell.KeptCell.{KeptCell}
use Rattle.abs_step.proofs.GoesStack.{as_many}
use Rattle.cert_lines.specs.declared.proc.Proc.{Proc}
use Rattle.cert_lines.specs.declared.row.Row.{Row}
use Rattle.cert_form.specs.Contents.{CertificateView}
use Rattle.cert_form.specs.Form.{IsInForm}
use Rattle.check_claims.proofs.SeenLemmas.{seen_agrees, seen_ones}
use Rattle.check_claims.proofs.TruthLemmas.{first_true, second_true}
use Rattle.check_claims.specs.Rewritings.{constants_first, variables_first}
use Rattle.check_claims.specs.Source.{StepSourceView}
use Rattle.check_claims.specs.Truth.{ComesBoth, IsTrueSource}
use Rattle.check_claims.specs.declared.rewritings.Rewriting.{Rewriting}
use Rattle.check_cover.specs.Arrival.{ArrivalView, RefinementView}
use Rattle.check_payments.specs.Paying.{PaysRewritten, after_with}
use Rattle.check_ways.specs.Pays.{IsWithinTime, PaysBy, PaysOut, PaysTo, constant_sum, cost_before, potential_of}
use Rattle.linear_sums.specs.Rewriting.{FollowsEffect}
use Rattle.linear_sums.specs.declared.rewriting.LinearChange.{LinearChange}
use Rattle.check_laws.specs.Comes.{CameBy, CameRefined, CameRefinedIfSome}
use Rattle.check_laws.specs.RowHolds.{value_at, worth}
use Rattle.check_laws.proofs.EntryLemmas.{word_small}
use Rattle.check_laws.proofs.Facts.{below_there}
use Rattle.check_laws.proofs.InForm.{row_in_form}
use Rattle.check_laws.proofs.LandingLemmas.{byte_small}
use Rattle.intervals.specs.declared.reg_pair.RegPair.TheVariants as pairs
use Rattle.z80_decode.specs.declared.operands.Register8.TheVariants as registers

-- ---- what is left of a value

-- no term of a row's potential is a slot beyond the row's shape
potential_within : (slots : ℕ) (potential : Option LinearView) → IsPotential slots potential → HasSlotsBelow slots (unwrap_or potential (constant_sum 0))
potential_within slots None h = λ k d p. absurd (omega arith)
potential_within slots (Some s) h = h.within_shape

came_value : (effect : Effect) (before now : Seen) (s : LinearView) → CameBy effect before now → HasSlotsBelow (length now.words) s → value (after effect (value_in before) (value_in now)) s ≡ value_at now s
came_value effect before now s came within =
    ap (λ z. s.constant +ℤ z)
    (total_agree (after effect (value_in before) (value_in now)) (whole (value_in now)) s.terms
    (λ k d p. came (get_or s.terms k d).variable (below_there (length now.words) (get_or s.terms k d).variable (within k d p))))

left_over : (a b z : ℤ) (cost : ℕ) → pos 0 ≤ℤ (a -ℤ pos cost -ℤ z) → z ≡ b → (pos cost +ℤ b) ≤ℤ a
left_over a b z cost h e = omega (arith, ints, h, e)

-- ---- version 3

one_rank : (n : ℕ) → true ≡ eqb n n
one_rank n = search arith

-- what an effect beside a linear change makes of the values before is the value that came
with_is : (effect : Effect) (change : Option LinearChange) (before now : Valuation) (v : Variable) → FollowsEffect effect change before v (now v) → after_with effect change before now v ≡ pos (now v)
with_is effect None before now v f = f
with_is effect (Some c) before now v f = at (eqb (rank_of c.variable) (rank_of v)) refl
  where
    at : (b : Bool) → eqb (rank_of c.variable) (rank_of v) ≡ b → cond b (value (whole before) c.value) (after effect before now v) ≡ pos (now v)
    at true e = sym (f.0 (sym (same_from_rank c.variable v (eqb-true _ _ e))))
    at false e = f.1 (λ same. let both : false ≡ true = sym e ∙ ap (λ (w : Variable). eqb (rank_of c.variable) (rank_of w)) same ∙ sym (one_rank (rank_of c.variable)) in cc)

module _ (row target : Row) (cost : ℕ) (cells : List KeptCell) (entry later : Entry) (before now : Seen) (i : IsRegs before.regs) (j : IsRegs now.regs) (h : Holds row.state cells entry before) (k : Holds target.state cells later now) (within : HasSlotsBelow (length now.words) (potential_of target)) where
  abbrev IsPaid : Type 0
  IsPaid = (pos cost +ℤ worth target now) ≤ℤ worth row before

  plain_paid : (effect : Effect) → CameBy effect before now → PaysBy row cost effect None target → IsPaid
  plain_paid effect came pays =
      let paid : pos 0 ≤ℤ (worth row before -ℤ pos cost -ℤ value (after effect (value_in before) (value_in now)) (potential_of target)) =
      pays (value_in before) (value_in now) (λ v some. variable_lies row.state cells entry before i h v) (λ v some. variable_lies target.state cells later now j k v) in
      left_over (worth row before) (worth target now) (value (after effect (value_in before) (value_in now)) (potential_of target)) cost paid (came_value effect before now (potential_of target) came within)

  rewritten_paid : (r : Rewriting) → ((v : Variable) → IsThere (length now.words) v → FollowsEffect r.effect r.change (value_in before) v (value_in now v))
      → PaysRewritten (potential_of row) (potential_of target) cost r (range_of row.state) (range_of target.state) → IsPaid
  rewritten_paid r follows pays =
      let paid : pos 0 ≤ℤ (worth row before -ℤ pos cost -ℤ value (after_with r.effect r.change (value_in before) (value_in now)) (potential_of target)) =
      pays (value_in before) (value_in now) (λ v some. variable_lies row.state cells entry before i h v) (λ v some. variable_lies target.state cells later now j k v) in
      let same : value (after_with r.effect r.change (value_in before) (value_in now)) (potential_of target) ≡ worth target now =
      ap (λ z. (potential_of target).constant +ℤ z)
      (total_agree (after_with r.effect r.change (value_in before) (value_in now)) (whole (value_in now)) (potential_of target).terms
      (λ n d p.
      let v = (get_or (potential_of target).terms n d).variable in
      with_is r.effect r.change (value_in before) (value_in now) v (follows v (below_there (length now.words) v (within n d p))))) in
      left_over (worth row before) (worth target now) (value (after_with r.effect r.change (value_in before) (value_in now)) (potential_of target)) cost paid same

  refined_paid : (effect : Effect) (r : RefinementView) → CameBy effect before now → CameRefined r before now → PaysBy row cost effect (Some r) target → IsPaid
  refined_paid effect r came refined pays = by pays
    where
      source : StepSourceView
      source = record { facts = []; before = row.state; settled = effect; moved = r.moved; linear = r.linear; conditions = r.conditions }

      is_true : IsTrueSource source (value_in before) (value_in now)
      is_true = record { bytes = seen_agrees before; ones = seen_ones row.state cells entry before i h; facts = λ n d p. absurd (omega arith); becomes = refined.becomes }

      both : (v : Variable) → IsThere (length now.words) v → ComesBoth source (value_in before) (value_in now) v
      both v there = record { settled = came v there; moved = refined.moved v there }

      by : PaysBy row cost effect (Some r) target → IsPaid
      by (inl p) = rewritten_paid (constants_first effect r.linear) (λ v there. first_true source (value_in before) (value_in now) is_true v (both v there)) p
      by (inr p) = rewritten_paid (variables_first effect r.moved r.linear) (λ v there. second_true source (value_in before) (value_in now) is_true v (both v there)) p

  by_refinement : (effect : Effect) (o : Option RefinementView) → CameBy effect before now → CameRefinedIfSome o before now → PaysBy row cost effect o target → IsPaid
  by_refinement effect None came refined pays = plain_paid effect came pays
  by_refinement effect (Some r) came refined pays = refined_paid effect r came refined pays

pub way_paid : (cert : CertificateView) (row target : Row) (cost : ℕ) (a : ArrivalView) (entry later : Entry) (before now : Seen) → IsInForm cert → Contains cert.rows target → IsRegs before.regs → IsRegs now.regs
    → Holds row.state cert.cells entry before → Holds target.state cert.cells later now → CameBy a.effect before now → CameRefinedIfSome a.refined before now → PaysTo row cost a target → (pos cost +ℤ worth target now) ≤ℤ worth row before
way_paid cert row target cost a entry later before now form listed i j h k came refined pays =
    let f = row_in_form cert form target listed in
    let within : HasSlotsBelow (length now.words) (potential_of target) = subst (λ (n : ℕ). HasSlotsBelow n (potential_of target)) (sym (as_many target.state.shape later now.words k.shape)) (potential_within (length target.state.shape) target.potential f.of.form.potential) in
    by_refinement row target cost cert.cells entry later before now i j h k within a.effect a.refined came refined pays

module _ (row : Row) (cells : List KeptCell) (entry : Entry) (m : Seen) (i : IsRegs m.regs) (h : Holds row.state cells entry m) where
  pub exit_paid : (cost : ℕ) → PaysOut row cost → pos cost ≤ℤ worth row m
  exit_paid cost pays =
      let paid : pos 0 ≤ℤ (worth row m -ℤ pos cost -ℤ (pos 0 +ℤ pos 0)) = pays (value_in m) (value_in m) (λ v some. variable_lies row.state cells entry m i h v) (λ v some. variable_lies row.state cells entry m i h v) in
      done (worth row m) cost paid
    where
      done : (a : ℤ) (cost : ℕ) → pos 0 ≤ℤ (a -ℤ pos cost -ℤ (pos 0 +ℤ pos 0)) → pos cost ≤ℤ a
      done a cost h = omega (arith, ints, h)

-- a variable is no slot, or one of the shape's slots
unchanged_value : (m : Seen) (s : LinearView) → value (after unchanged (value_in m) (value_in m)) s ≡ value_at m s
unchanged_value m s = ap (λ z. s.constant +ℤ z) (total_agree (after unchanged (value_in m) (value_in m)) (whole (value_in m)) s.terms (λ k d p. is (get_or s.terms k d).variable))
  where
    is : (v : Variable) → after unchanged (value_in m) (value_in m) v ≡ whole (value_in m) v
    is (variables.Slot number part) = refl
    is v = refl

pub entry_in_time : (proc : Proc) (row : Row) (cells : List KeptCell) (entry : Entry) (m : Seen) → IsRegs m.regs → Holds row.state cells entry m → IsWithinTime proc row → (pos (cost_before proc.kind) +ℤ worth row m) ≤ℤ pos (unwrap_or proc.time 0)
entry_in_time proc row cells entry m i h within =
    let time = unwrap_or proc.time 0 in
    let cost = cost_before proc.kind in
    let paid : pos 0 ≤ℤ ((pos time +ℤ pos 0) -ℤ pos cost -ℤ value (after unchanged (value_in m) (value_in m)) (potential_of row)) =
    within (value_in m) (value_in m) (λ v some. variable_lies row.state cells entry m i h v) (λ v some. variable_lies row.state cells entry m i h v) in
    done time cost (worth row m) (value (after unchanged (value_in m) (value_in m)) (potential_of row)) paid (unchanged_value m (potential_of row))
  where
    done : (time cost : ℕ) (b z : ℤ) → pos 0 ≤ℤ ((pos time +ℤ pos 0) -ℤ pos cost -ℤ z) → z ≡ b → (pos cost +ℤ b) ≤ℤ pos time
    done time cost b z h e = omega (arith, ints, h, e)

-- ---- the least worth

slot_pair : (slots : List ShapeSlot) (n : ℕ) → IsShape slots → IsPair (get_or slots n full_slot).pair
slot_pair [] n h = record { word = record { order = omega arith; within = omega arith }; high = record { order = omega arith; within = omega arith }; low = record { order = omega arith; within = omega arith } }
slot_pair (slot ∷ slots) zero h = h.0
slot_pair (slot ∷ slots) (suc n) h = slot_pair slots n h.1

part_small : (part : Part) (slot : ShapeSlot) → IsPair slot.pair → (part_range part slot.pair).high ≤ 65535
part_small Word slot h = h.word.within
part_small High slot h = omega (arith, h.high.within)
part_small Low slot h = omega (arith, h.low.within)

value_small : (row : Row) (cells : List KeptCell) (entry : Entry) (m : Seen) → IsShape row.state.shape → IsRegs m.regs → Holds row.state cells entry m → (v : Variable) → value_in m v ≤ 65535
value_small row cells entry m shape i h variables.A = omega (arith, byte_small registers.A m.regs i)
value_small row cells entry m shape i h variables.B = omega (arith, byte_small registers.B m.regs i)
value_small row cells entry m shape i h variables.C = omega (arith, byte_small registers.C m.regs i)
value_small row cells entry m shape i h variables.D = omega (arith, byte_small registers.D m.regs i)
value_small row cells entry m shape i h variables.E = omega (arith, byte_small registers.E m.regs i)
value_small row cells entry m shape i h variables.H = omega (arith, byte_small registers.H m.regs i)
value_small row cells entry m shape i h variables.L = omega (arith, byte_small registers.L m.regs i)
value_small row cells entry m shape i h variables.Bc = omega (arith, word_small pairs.Bc m.regs i)
value_small row cells entry m shape i h variables.De = omega (arith, word_small pairs.De m.regs i)
value_small row cells entry m shape i h variables.Hl = omega (arith, word_small pairs.Hl m.regs i)
value_small row cells entry m shape i h variables.Ix = omega (arith, word_small pairs.Ix m.regs i)
value_small row cells entry m shape i h variables.Iy = omega (arith, word_small pairs.Iy m.regs i)
value_small row cells entry m shape i h (variables.Slot number part) =
    let w = variable_lies row.state cells entry m i h (variables.Slot number part) in
    let s = part_small part (get_or row.state.shape number full_slot) (slot_pair row.state.shape number shape) in
    omega (arith, w.1, s)

-- the greatest size of a term
abbrev most : ℕ
most = 65535000000

least_of : (z : ℤ) (n : ℕ) → unsigned_abs z ≤ n → pos 0 ≤ℤ (z +ℤ pos n)
least_of (pos m) n h = omega (arith, ints)
least_of (negsuc m) n h = omega (arith, ints)

product_within : (a b m n : ℕ) → a ≤ m → b ≤ n → a * b ≤ m * n
product_within a b m n p q = grind arith

term_low : (k : ℤ) (x : ℕ) → unsigned_abs k ≤ 1000000 → x ≤ 65535 → pos 0 ≤ℤ ((k *ℤ pos x) +ℤ pos most)
term_low k x p q =
    let h : unsigned_abs k * x ≤ 1000000 * 65535 = product_within _ _ _ _ p q in
    let e : unsigned_abs (k *ℤ pos x) ≡ unsigned_abs k * x = unsigned_abs-mul k (pos x) in
    least_of (k *ℤ pos x) most (omega (arith, e, h))

total_low : (x : Valuation) → ((v : Variable) → x v ≤ 65535) → (ts : List Term) → All (λ t. IsCoefficient t.coefficient) ts → pos 0 ≤ℤ (total (whole x) ts +ℤ pos (most * length ts))
total_low x w [] h = omega (arith, ints)
total_low x w (t ∷ ts) h =
    let first = All-head (λ (u : Term). IsCoefficient u.coefficient) t ts h in
    let a = term_low t.coefficient (x t.variable) first.1 (w t.variable) in
    let b = total_low x w ts (All-tail (λ (u : Term). IsCoefficient u.coefficient) t ts h) in
    omega (arith, ints, a, b)

potential_low : (slots : ℕ) (x : Valuation) (potential : Option LinearView) → ((v : Variable) → x v ≤ 65535) → IsPotential slots potential → IsShortPotential potential → pos 0 ≤ℤ (value (whole x) (unwrap_or potential (constant_sum 0)) +ℤ pos 197605000000)
potential_low slots x None w h k = omega (arith, ints)
potential_low slots x (Some s) w h k =
    let a = total_low x w s.terms h.coefficients in
    let b = least_of s.constant 1000000000 h.constant in
    let n : length s.terms ≤ 3 = k.count in
    omega (arith, ints, a, b, n)

pub worth_low : (cert : CertificateView) (row : Row) (entry : Entry) (m : Seen) → IsInForm cert → Contains cert.rows row → IsRegs m.regs → Holds row.state cert.cells entry m → pos 0 ≤ℤ (worth row m +ℤ pos 197605000000)
worth_low cert row entry m form listed i h =
    let f = row_in_form cert form row listed in
    potential_low (length row.state.shape) (value_in m) row.potential (value_small row cert.cells entry m f.of.form.shape i h) f.of.form.potential f.short.potential
