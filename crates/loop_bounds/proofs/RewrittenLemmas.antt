-- A rewritten sum after one more rewritten term.
use Rattle.std.proofs.Common.{Bool, true, false, List, [], ◌∷◌, ◌++◌, take, get_or, subst, All, neg_ℤ, length-append, ◌≢◌, ◌≡◌, if◌then◌else◌, ℕ, ◌+◌, ◌≤◌, ◌<◌, length, ℤ, pos, ◌+ℤ◌, ◌-ℤ◌, ◌*ℤ◌, sym, ap, ◌∙◌, arith, unsigned_abs}
use Rattle.std.proofs.lemmas.Int.{ints}
use Rattle.std.proofs.Math.IntN.{+ℤ_invl, +ℤ_assoc, zero-*ℤ}
use Rattle.std.proofs.lemmas.List.{take_more, get_or_append_left}
use Rattle.intervals.specs.Logic.{is_single}
use Rattle.loop_bounds.proofs.SoFar.{HasAdded}
use Rattle.loop_bounds.specs.declared.variable.Variable.{Variable}
use Rattle.loop_bounds.specs.declared.linear.Term.{Term}
use Rattle.loop_bounds.specs.declared.effect.Effect.{Effect}
use Rattle.loop_bounds.specs.declared.effect.Change.{Change}
use Rattle.loop_bounds.specs.declared.effect.Change.TheVariants.{Constant, Unknown}
use Rattle.loop_bounds.specs.Signed.{signed}
use Rattle.loop_bounds.proofs.LinearLemmas.{at_end}
use Rattle.loop_bounds.specs.declared.rewritten.Rewritten.{Rewritten}
use Rattle.loop_bounds.specs.Linear.{LinearView, total, value}
use Rattle.loop_bounds.specs.Effect.{Valuation, whole, after_from, changed, old_range, constant_before, change_of}
use Rattle.loop_bounds.specs.Ranges.{Box}
use Rattle.loop_bounds.specs.Form.{weight}
use Rattle.loop_bounds.specs.Rewritten.{IsWithinRoom, IsLight, value_of_both}
use Rattle.loop_bounds.proofs.FormLemmas.{raised_product, lowered_product, abs_sum, total_push, product_of_sum}
use Rattle.loop_bounds.proofs.Boxes.{multiple_size}

known_value : (x y : Variable → ℤ) (old new unknown : LinearView) (more by : ℤ) → total x new.terms ≡ total x old.terms +ℤ more → new.constant ≡ old.constant +ℤ by → value x new +ℤ value y unknown ≡ (value x old +ℤ value y unknown) +ℤ (more +ℤ by)
known_value x y old new unknown more by t c = omega (arith, ints, t, c)

module _ (before free : Valuation) (old new unknown : LinearView) (c : ℤ) where
  pub old_value : (v : Variable) → total (whole before) new.terms ≡ total (whole before) old.terms +ℤ c *ℤ whole before v → new.constant ≡ old.constant → value (whole before) new +ℤ value (whole free) unknown ≡ (value (whole before) old +ℤ value (whole free) unknown) +ℤ c *ℤ pos (before v)
  old_value v t k =
      let all = known_value (whole before) (whole free) old new unknown (c *ℤ pos (before v)) (pos 0) t (omega (arith, ints, k)) in
      omega (arith, ints, all)

  pub unknown_value : (v : Variable) → total (whole free) new.terms ≡ total (whole free) old.terms +ℤ c *ℤ whole free v → new.constant ≡ old.constant → value (whole before) unknown +ℤ value (whole free) new ≡ (value (whole before) unknown +ℤ value (whole free) old) +ℤ c *ℤ pos (free v)
  unknown_value v t k =
      let all = known_value (whole free) (whole before) old new unknown (c *ℤ pos (free v)) (pos 0) t (omega (arith, ints, k)) in
      omega (arith, ints, all)

  pub raised_value : (v : Variable) (added : LinearView) (m : ℤ) → total (whole before) added.terms ≡ total (whole before) old.terms +ℤ c *ℤ whole before v → added.constant ≡ old.constant → new ≡ record { constant = added.constant +ℤ m; terms = added.terms } → m ≡ c → value (whole before) new +ℤ value (whole free) unknown ≡ (value (whole before) old +ℤ value (whole free) unknown) +ℤ c *ℤ (pos (before v) +ℤ pos 1)
  raised_value v added m t k e is =
      let terms = ap (λ (s : LinearView). total (whole before) s.terms) e in
      let constant = ap (λ (s : LinearView). s.constant) e in
      let product = raised_product c (before v) in
      let all = known_value (whole before) (whole free) old new unknown (c *ℤ pos (before v)) c (terms ∙ t) (omega (arith, ints, constant, k, is)) in
      omega (arith, ints, all, product)

  pub lowered_value : (v : Variable) (added : LinearView) (m : ℤ) → total (whole before) added.terms ≡ total (whole before) old.terms +ℤ c *ℤ whole before v → added.constant ≡ old.constant → new ≡ record { constant = added.constant +ℤ m; terms = added.terms } → m ≡ pos 0 -ℤ c → value (whole before) new +ℤ value (whole free) unknown ≡ (value (whole before) old +ℤ value (whole free) unknown) +ℤ c *ℤ (pos (before v) -ℤ pos 1)
  lowered_value v added m t k e is =
      let terms = ap (λ (s : LinearView). total (whole before) s.terms) e in
      let constant = ap (λ (s : LinearView). s.constant) e in
      let product = lowered_product c (before v) in
      let all = known_value (whole before) (whole free) old new unknown (c *ℤ pos (before v)) (pos 0 -ℤ c) (terms ∙ t) (omega (arith, ints, constant, k, is)) in
      omega (arith, ints, all, product)

  pub constant_value : (n : ℕ) (m : ℤ) → new ≡ record { constant = old.constant +ℤ m; terms = old.terms } → m ≡ c *ℤ pos n → value (whole before) new +ℤ value (whole free) unknown ≡ (value (whole before) old +ℤ value (whole free) unknown) +ℤ c *ℤ pos n
  constant_value n m e is =
      let terms = ap (λ (s : LinearView). total (whole before) s.terms) e in
      let constant = ap (λ (s : LinearView). s.constant) e in
      let all = known_value (whole before) (whole free) old new unknown (pos 0) (c *ℤ pos n) (omega (arith, ints, terms)) (omega (arith, ints, constant, is)) in
      omega (arith, ints, all)

pub constant_room : (old : Rewritten) (new : LinearView) (c m : ℤ) (n : ℕ) → unsigned_abs c ≤ 1000000 → n ≤ 65535 → new ≡ record { constant = old.known.constant +ℤ m; terms = old.known.terms } → m ≡ c *ℤ pos n → (used : ℕ) → IsWithinRoom used old → IsWithinRoom (used + 1) (record old { known = new })
constant_room old new c m n small low e is used h =
    let terms = ap (λ (s : LinearView). length s.terms) e in
    let heavy = ap (λ (s : LinearView). weight s.terms) e in
    let constant = ap (λ (s : LinearView). unsigned_abs s.constant) e in
    let size = multiple_size c n low in
    let same = ap unsigned_abs is in
    let sum = abs_sum old.known.constant m in
    record {
      known_terms = omega (arith, h.known_terms, terms);
      unknown_terms = omega (arith, h.unknown_terms);
      known_weight = omega (arith, h.known_weight, heavy);
      unknown_weight = omega (arith, h.unknown_weight);
      constant = omega (arith, h.constant, constant, size, same, sum);
      unknown_constant = h.unknown_constant;
    }

pub room_wider : (r : Rewritten) (used more : ℕ) → used ≤ more → IsWithinRoom used r → IsWithinRoom more r
room_wider r used more h room = record {
  known_terms = omega (arith, room.known_terms);
  unknown_terms = omega (arith, room.unknown_terms);
  known_weight = omega (arith, room.known_weight);
  unknown_weight = omega (arith, room.unknown_weight);
  constant = omega (arith, room.constant);
  unknown_constant = room.unknown_constant;
}

pub neg_product : (c y : ℤ) → neg_ℤ c *ℤ y ≡ neg_ℤ (c *ℤ y)
neg_product c y =
    let split = product_of_sum (neg_ℤ c) c y in
    let gone = ap (λ z. z *ℤ y) (+ℤ_invl c) in
    omega (arith, ints, split, gone, zero-*ℤ y)

signed_push : (n : Bool) (x : Variable → ℤ) (ts : List Term) (t : Term) → signed n (total x (ts ++ t ∷ [])) ≡ signed n (total x ts) +ℤ signed n t.coefficient *ℤ x t.variable
signed_push true x ts t =
    let push = total_push x ts t in
    let product = neg_product t.coefficient (x t.variable) in
    omega (arith, ints, push, product)
signed_push false x ts t = total_push x ts t

choice_known : (b : Bool) (n : ℕ) (c : Change) → c ≢ Unknown → (if b then Constant n else c) ≢ Unknown
choice_known true n c h e = cc
choice_known false n c h e = h e

-- a constant in the place of a known variable is known
constant_known : (source : Box) (c : Change) → c ≢ Unknown → constant_before source c ≢ Unknown
constant_known source c h = choice_known (is_single (old_range source c)) (old_range source c).low c h

module _ (old mid new : Rewritten) (source : Box) (effect : Effect) (n : Bool) (ts : List Term) (k : ℕ) (t : Term) (c : ℤ) (change : Change) (so_far : HasAdded old mid source effect n (take k ts) k) (inside : k < length ts) (at : t ≡ get_or ts k t) (c_is : c ≡ signed n t.coefficient) (change_is : change ≡ constant_before source (change_of effect t.variable)) where
  front_more : take (k + 1) ts ≡ take k ts ++ t ∷ []
  front_more = take_more ts k t inside ∙ ap (λ (u : Term). take k ts ++ u ∷ []) (sym at)

  pub added_more : ((before free : Valuation) → value_of_both before free new ≡ value_of_both before free mid +ℤ c *ℤ changed change before (pos (free t.variable))) → ((used : ℕ) → IsWithinRoom used mid → IsWithinRoom (used + 1) new) → (change ≢ Unknown → new.unknown ≡ mid.unknown) → HasAdded old new source effect n (take (k + 1) ts) (k + 1)
  added_more value room no_unknown = record {
    value = λ before free.
        let step = value before free in
        let past = so_far.value before free in
        let push = signed_push n (after_from source effect before free) (take k ts) t in
        let same = ap (λ (us : List Term). signed n (total (after_from source effect before free) us)) front_more in
        let product = ap (λ z. z *ℤ changed change before (pos (free t.variable))) c_is ∙ ap (λ (h : Change). signed n t.coefficient *ℤ changed h before (pos (free t.variable))) change_is in
        step ∙ ap (λ z. z +ℤ c *ℤ changed change before (pos (free t.variable))) past
        ∙ ap (λ z. value_of_both before free old +ℤ signed n (total (after_from source effect before free) (take k ts)) +ℤ z) product
        ∙ +ℤ_assoc (value_of_both before free old) (signed n (total (after_from source effect before free) (take k ts))) _
        ∙ ap (λ z. value_of_both before free old +ℤ z) (sym push ∙ sym same);
    room = λ used h.
        let next = room (used + k) (so_far.room used h) in
        subst (λ m. IsWithinRoom m new) (let e : used + k + 1 ≡ used + (k + 1) = omega arith in e) next;
    no_unknown = λ all.
        let here : All (λ u. change_of effect u.variable ≢ Unknown) (take k ts ++ t ∷ []) = rw front_more at all in
        let front : All (λ u. change_of effect u.variable ≢ Unknown) (take k ts) = λ i d p. subst (λ (u : Term). change_of effect u.variable ≢ Unknown) (get_or_append_left (take k ts) (t ∷ []) d i p) (here i d (omega (arith, length-append (take k ts) (t ∷ [])))) in
        let last : change_of effect t.variable ≢ Unknown = subst (λ (u : Term). change_of effect u.variable ≢ Unknown) (at_end (take k ts) t t) (here (length (take k ts)) t (omega (arith, length-append (take k ts) (t ∷ [])))) in
        no_unknown (λ e. constant_known source (change_of effect t.variable) last (sym change_is ∙ e)) ∙ so_far.no_unknown front;
  }

-- with room for six terms the least value can be computed
pub room_light : (r : Rewritten) → IsWithinRoom 6 r → IsLight r
room_light r room =
    let zero = ap unsigned_abs room.unknown_constant in
    record {
      known = omega (arith, room.known_weight);
      unknown = omega (arith, room.unknown_weight);
      constant = omega (arith, room.constant);
      unknown_constant = omega (arith, zero);
    }
