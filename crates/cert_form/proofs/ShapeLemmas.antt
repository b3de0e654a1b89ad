-- Shapes that compare equal are equal; the first elements of a longer list.
use Rattle.std.proofs.Common.{rules, arith, ◌≡◌, ◌<◌, ◌==◌, ◌&&◌, ℕ, zero, suc, Bool, true, List, [], ◌∷◌, ◌++◌, length, slice_get, Option, Some, None, ap, sym, ◌∙◌, refl}
use Rattle.std.proofs.lemmas.Bool.{and_parts, eqb-true}
use Rattle.intervals.specs.declared.pair.Pair.{Pair}
use Rattle.intervals.specs.Range.{RangeView}
use Rattle.intervals.specs.declared.reg_pair.RegPair.{RegPair}
use Rattle.std.specs.Option.{option_eq}
use Rattle.intervals.specs.contracts.reg_pair.RegPairPartialEq as reg_pair_eq
use Rattle.intervals.specs.contracts.reg_pair.RegPair as reg_pair
use Rattle.stack_shape.specs.declared.slot.Slot.{Slot}
use denote.Enum.Bare.{same_true}
use lib.Pointwise.{pointwise}
use Rattle.intervals.specs.contracts.pair.PairPartialEq as pair_eq

abbrev range_eq : RangeView → RangeView → Bool
range_eq r s = (r.low == s.low) && (r.high == s.high)

abbrev name_eq : RegPair → RegPair → Bool
name_eq a b = (reg_pair_eq.TheImpl.ghosts).eq a b

-- a derived comparison of pairs, part by part
split_pair : (p q : Pair) → (pair_eq.TheImpl.ghosts).eq p q
    ≡ (range_eq p.word q.word && (range_eq p.high q.high && (range_eq p.low q.low && option_eq name_eq p.origin q.origin)))
split_pair p q = refl

-- what compares equal is equal: names of pairs, origins, ranges and pairs
same_name : (a b : RegPair) → name_eq a b ≡ true → a ≡ b
same_name a b e = same_true reg_pair.the_type (search rules) a b e

same_origin : (a b : Option RegPair) → option_eq name_eq a b ≡ true → a ≡ b
same_origin None None e = refl
same_origin None (Some b) e = cc
same_origin (Some a) None e = cc
same_origin (Some a) (Some b) e = ap Some (same_name a b e)

abbrev range_of : ℕ → ℕ → RangeView
range_of low high = record { low = low; high = high }

same_range : (r s : RangeView) → range_eq r s ≡ true → r ≡ s
same_range r s e =
    let parts = and_parts (r.low == s.low) (r.high == s.high) e in
    let low = eqb-true _ _ parts.0 in
    let high = eqb-true _ _ parts.1 in
    ap (λ n. range_of n r.high) low ∙ ap (range_of s.low) high

abbrev pair_of : RangeView → RangeView → RangeView → Option RegPair → Pair
pair_of w h l o = record { word = w; high = h; low = l; origin = o }

same_pair : (p q : Pair) → (pair_eq.TheImpl.ghosts).eq p q ≡ true → p ≡ q
same_pair p q e =
    let word = and_parts (range_eq p.word q.word) _ (sym (split_pair p q) ∙ e) in
    let high = and_parts (range_eq p.high q.high) _ word.1 in
    let low = and_parts (range_eq p.low q.low) _ high.1 in
    let a = same_range p.word q.word word.0 in
    let b = same_range p.high q.high high.0 in
    let c = same_range p.low q.low low.0 in
    let d = same_origin p.origin q.origin low.1 in
    ap (λ w. pair_of w p.high p.low p.origin) a ∙ ap (λ h. pair_of q.word h p.low p.origin) b
    ∙ ap (λ l. pair_of q.word q.high l p.origin) c ∙ ap (pair_of q.word q.high q.low) d

abbrev pub slot_eq : Slot → Slot → Bool
slot_eq a b = (pair_eq.TheImpl.ghosts).eq a.pair b.pair

abbrev slot_of : Pair → Slot
slot_of p = record { pair = p }

-- slots that compare equal are equal
pub same_slots : (xs ys : List Slot) → pointwise slot_eq xs ys ≡ true → xs ≡ ys
same_slots [] [] e = refl
same_slots [] (y ∷ ys) e = cc
same_slots (x ∷ xs) [] e = cc
same_slots (x ∷ xs) (y ∷ ys) e =
    let parts = and_parts (slot_eq x y) (pointwise slot_eq xs ys) e in
    let first = same_pair x.pair y.pair parts.0 in
    let others = same_slots xs ys parts.1 in
    ap (λ p. slot_of p ∷ xs) first ∙ ap (λ zs. y ∷ zs) others

-- one of the first elements
pub get_front : {X : Type 0} (xs ys : List X) (n : ℕ) → n < length xs → slice_get (xs ++ ys) n ≡ slice_get xs n
get_front [] ys n low = absurd (omega (arith, low))
get_front (x ∷ xs) ys zero low = refl
get_front (x ∷ xs) ys (suc n) low = get_front xs ys n (omega (arith, low))
