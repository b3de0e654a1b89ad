-- A state that covers another still covers it when both are tightened by facts.
use Rattle.std.proofs.Common.{◌≡◌, ℕ, zero, suc, ◌+◌, ◌<◌, Bool, true, false, ltb, inl, inr, refl, sym, ap, subst, arith, List, [], ◌∷◌, length, get_or, Option, Some, None}
use Rattle.std.specs.Prelude.{nat_lt, option_map, option_and_then, slice_set, if◌then◌else◌}
use Rattle.std.specs.List.{AllZip}
use Rattle.intervals.specs.Pair.{CoversPair}
use Rattle.intervals.specs.PairLaws.{covers_itself}
use Rattle.intervals.specs.Range.{Covers, RangeView}
use Rattle.intervals.specs.declared.pair.Pair.{Pair}
use Rattle.intervals.specs.declared.reg_pair.RegPair.{RegPair}
use Rattle.intervals.specs.declared.reg_pair.RegPair.TheVariants.{Af, Bc, De, Hl, Ix, Iy, AlternateAf, AlternateBc, AlternateDe, AlternateHl}
use Rattle.loop_bounds.specs.Linear.{LinearView}
use Rattle.loop_bounds.specs.Tighten.{tightened}
use Rattle.loop_bounds.specs.declared.variable.Part.{Part}
use Rattle.loop_bounds.specs.declared.variable.Part.TheVariants.{Word, High, Low}
use Rattle.loop_bounds.specs.declared.variable.Variable.{Variable}
use Rattle.loop_bounds.specs.declared.variable.Variable.TheVariants as variables
use Rattle.stack_shape.specs.Shape.{CoversShape}
use Rattle.stack_shape.specs.declared.slot.Slot.{Slot}
use Rattle.abs_state.specs.Covers.{CoversState}
use Rattle.abs_state.specs.Pairs.{CoversPairs, with_pair}
use Rattle.abs_state.specs.Restricting.{with_cut_pair}
use Rattle.abs_state.specs.Variables.{cut_part, cut_slot, cut_to, full_slot, part_range, range_of, with_slot}
use Rattle.abs_state.specs.declared.pairs.Pairs.{Pairs}
use Rattle.abs_state.specs.declared.state.AbsState.{AbsState}
use Rattle.check_cover.proofs.CutsStill.{Still, still_then, word_cut_still, high_cut_still, low_cut_still}
use Rattle.check_cover.proofs.TightenStill.{tightened_still}

-- ---- slots

pub same_length : (a b : List Slot) → CoversShape a b → length a ≡ length b
same_length [] [] h = refl
same_length [] (t ∷ ts) h = absurd h
same_length (s ∷ ss) [] h = absurd h
same_length (s ∷ ss) (t ∷ ts) h = ap suc (same_length ss ts h.1)

slot_still : (a b : List Slot) (n : ℕ) → CoversShape a b → CoversPair (get_or a n full_slot).pair (get_or b n full_slot).pair
slot_still [] [] n h = covers_itself full_slot.pair
slot_still [] (t ∷ ts) n h = absurd h
slot_still (s ∷ ss) [] n h = absurd h
slot_still (s ∷ ss) (t ∷ ts) zero h = h.0
slot_still (s ∷ ss) (t ∷ ts) (suc n) h = slot_still ss ts n h.1

set_still : (a b : List Slot) (n : ℕ) (x y : Slot) → CoversShape a b → CoversPair x.pair y.pair → CoversShape (slice_set a n x) (slice_set b n y)
set_still [] [] n x y h k = tt
set_still [] (t ∷ ts) n x y h k = absurd h
set_still (s ∷ ss) [] n x y h k = absurd h
set_still (s ∷ ss) (t ∷ ts) zero x y h k = (k, h.1)
set_still (s ∷ ss) (t ∷ ts) (suc n) x y h k = (h.0, set_still ss ts n x y h.1 k)

-- ---- pairs

pair_still : (r : RegPair) (p q : Pairs) (x y : Pair) → CoversPairs p q → CoversPair x y → CoversPairs (with_pair r x p) (with_pair r y q)
pair_still Af p q x y h k = (record { af = k; bc = h.0.bc; de = h.0.de; hl = h.0.hl; ix = h.0.ix; iy = h.0.iy }, record { alternate_af = h.1.alternate_af; alternate_bc = h.1.alternate_bc; alternate_de = h.1.alternate_de; alternate_hl = h.1.alternate_hl })
pair_still Bc p q x y h k = (record { af = h.0.af; bc = k; de = h.0.de; hl = h.0.hl; ix = h.0.ix; iy = h.0.iy }, record { alternate_af = h.1.alternate_af; alternate_bc = h.1.alternate_bc; alternate_de = h.1.alternate_de; alternate_hl = h.1.alternate_hl })
pair_still De p q x y h k = (record { af = h.0.af; bc = h.0.bc; de = k; hl = h.0.hl; ix = h.0.ix; iy = h.0.iy }, record { alternate_af = h.1.alternate_af; alternate_bc = h.1.alternate_bc; alternate_de = h.1.alternate_de; alternate_hl = h.1.alternate_hl })
pair_still Hl p q x y h k = (record { af = h.0.af; bc = h.0.bc; de = h.0.de; hl = k; ix = h.0.ix; iy = h.0.iy }, record { alternate_af = h.1.alternate_af; alternate_bc = h.1.alternate_bc; alternate_de = h.1.alternate_de; alternate_hl = h.1.alternate_hl })
pair_still Ix p q x y h k = (record { af = h.0.af; bc = h.0.bc; de = h.0.de; hl = h.0.hl; ix = k; iy = h.0.iy }, record { alternate_af = h.1.alternate_af; alternate_bc = h.1.alternate_bc; alternate_de = h.1.alternate_de; alternate_hl = h.1.alternate_hl })
pair_still Iy p q x y h k = (record { af = h.0.af; bc = h.0.bc; de = h.0.de; hl = h.0.hl; ix = h.0.ix; iy = k }, record { alternate_af = h.1.alternate_af; alternate_bc = h.1.alternate_bc; alternate_de = h.1.alternate_de; alternate_hl = h.1.alternate_hl })
pair_still AlternateAf p q x y h k = (record { af = h.0.af; bc = h.0.bc; de = h.0.de; hl = h.0.hl; ix = h.0.ix; iy = h.0.iy }, record { alternate_af = k; alternate_bc = h.1.alternate_bc; alternate_de = h.1.alternate_de; alternate_hl = h.1.alternate_hl })
pair_still AlternateBc p q x y h k = (record { af = h.0.af; bc = h.0.bc; de = h.0.de; hl = h.0.hl; ix = h.0.ix; iy = h.0.iy }, record { alternate_af = h.1.alternate_af; alternate_bc = k; alternate_de = h.1.alternate_de; alternate_hl = h.1.alternate_hl })
pair_still AlternateDe p q x y h k = (record { af = h.0.af; bc = h.0.bc; de = h.0.de; hl = h.0.hl; ix = h.0.ix; iy = h.0.iy }, record { alternate_af = h.1.alternate_af; alternate_bc = h.1.alternate_bc; alternate_de = k; alternate_hl = h.1.alternate_hl })
pair_still AlternateHl p q x y h k = (record { af = h.0.af; bc = h.0.bc; de = h.0.de; hl = h.0.hl; ix = h.0.ix; iy = h.0.iy }, record { alternate_af = h.1.alternate_af; alternate_bc = h.1.alternate_bc; alternate_de = h.1.alternate_de; alternate_hl = k })

cut_pair_still : (r : RegPair) (a b : Option Pair) (s t : AbsState) → CoversState s t → Still CoversPair a b → Still CoversState (with_cut_pair r a s) (with_cut_pair r b t)
cut_pair_still r a None s t h k = tt
cut_pair_still r None (Some y) s t h k = absurd k
cut_pair_still r (Some x) (Some y) s t h k =
    record { mode = h.mode; armed = h.armed; pairs = pair_still r s.pairs t.pairs x y h.pairs k; flag = h.flag; shape = h.shape }

-- ---- states

part_still : (part : Part) (p q : Pair) (a b : RangeView) → CoversPair p q → Covers a b → Still CoversPair (cut_part part a p) (cut_part part b q)
part_still Word p q a b h k = word_cut_still p q a b h k
part_still High p q a b h k = high_cut_still p q a b h k
part_still Low p q a b h k = low_cut_still p q a b h k

slot_cut_still : (n : ℕ) (a b : Option Pair) (s t : AbsState) → CoversState s t → Still CoversPair a b → Still CoversState (option_map (with_slot n s) a) (option_map (with_slot n t) b)
slot_cut_still n a None s t h k = tt
slot_cut_still n None (Some y) s t h k = absurd k
slot_cut_still n (Some x) (Some y) s t h k =
    record { mode = h.mode; armed = h.armed; pairs = h.pairs; flag = h.flag; shape = set_still s.shape t.shape n (record { pair = x }) (record { pair = y }) h.shape k }

if_within : (u : Bool) (a b : Option AbsState) (s t : AbsState) → Still CoversState a b → CoversState s t → Still CoversState (if u then a else Some s) (if u then b else Some t)
if_within true a b s t h k = h
if_within false a b s t h k = k

slot_to_still : (n : ℕ) (part : Part) (s t : AbsState) (a b : RangeView) → CoversState s t → Covers a b → Still CoversState (cut_slot n part a s) (cut_slot n part b t)
slot_to_still n part s t a b h k =
    let one = same_length s.shape t.shape h.shape in
    subst (λ (m : ℕ). Still CoversState (cut_slot n part a s)
    (if nat_lt n m then option_map (with_slot n t) (cut_part part b (get_or t.shape n full_slot).pair) else Some t)) one
    (if_within (nat_lt n (length s.shape)) _ _ s t
    (slot_cut_still n _ _ s t h (part_still part _ _ a b (slot_still s.shape t.shape n h.shape) k)) h)

cut_to_still : (s t : AbsState) (v : Variable) (a b : RangeView) → CoversState s t → Covers a b → Still CoversState (cut_to s v a) (cut_to t v b)
cut_to_still s t variables.A a b h k = cut_pair_still Af _ _ s t h (high_cut_still s.pairs.af t.pairs.af a b h.pairs.0.af k)
cut_to_still s t variables.B a b h k = cut_pair_still Bc _ _ s t h (high_cut_still s.pairs.bc t.pairs.bc a b h.pairs.0.bc k)
cut_to_still s t variables.C a b h k = cut_pair_still Bc _ _ s t h (low_cut_still s.pairs.bc t.pairs.bc a b h.pairs.0.bc k)
cut_to_still s t variables.D a b h k = cut_pair_still De _ _ s t h (high_cut_still s.pairs.de t.pairs.de a b h.pairs.0.de k)
cut_to_still s t variables.E a b h k = cut_pair_still De _ _ s t h (low_cut_still s.pairs.de t.pairs.de a b h.pairs.0.de k)
cut_to_still s t variables.H a b h k = cut_pair_still Hl _ _ s t h (high_cut_still s.pairs.hl t.pairs.hl a b h.pairs.0.hl k)
cut_to_still s t variables.L a b h k = cut_pair_still Hl _ _ s t h (low_cut_still s.pairs.hl t.pairs.hl a b h.pairs.0.hl k)
cut_to_still s t variables.Bc a b h k = cut_pair_still Bc _ _ s t h (word_cut_still s.pairs.bc t.pairs.bc a b h.pairs.0.bc k)
cut_to_still s t variables.De a b h k = cut_pair_still De _ _ s t h (word_cut_still s.pairs.de t.pairs.de a b h.pairs.0.de k)
cut_to_still s t variables.Hl a b h k = cut_pair_still Hl _ _ s t h (word_cut_still s.pairs.hl t.pairs.hl a b h.pairs.0.hl k)
cut_to_still s t variables.Ix a b h k = cut_pair_still Ix _ _ s t h (word_cut_still s.pairs.ix t.pairs.ix a b h.pairs.0.ix k)
cut_to_still s t variables.Iy a b h k = cut_pair_still Iy _ _ s t h (word_cut_still s.pairs.iy t.pairs.iy a b h.pairs.0.iy k)
cut_to_still s t (variables.Slot n part) a b h k = slot_to_still n part s t a b h k

part_range_still : (part : Part) (p q : Pair) → CoversPair p q → Covers (part_range part p) (part_range part q)
part_range_still Word p q h = h.word
part_range_still High p q h = h.high
part_range_still Low p q h = h.low

range_still : (s t : AbsState) → CoversState s t → (v : Variable) → Covers (range_of s v) (range_of t v)
range_still s t h variables.A = h.pairs.0.af.high
range_still s t h variables.B = h.pairs.0.bc.high
range_still s t h variables.C = h.pairs.0.bc.low
range_still s t h variables.D = h.pairs.0.de.high
range_still s t h variables.E = h.pairs.0.de.low
range_still s t h variables.H = h.pairs.0.hl.high
range_still s t h variables.L = h.pairs.0.hl.low
range_still s t h variables.Bc = h.pairs.0.bc.word
range_still s t h variables.De = h.pairs.0.de.word
range_still s t h variables.Hl = h.pairs.0.hl.word
range_still s t h variables.Ix = h.pairs.0.ix.word
range_still s t h variables.Iy = h.pairs.0.iy.word
range_still s t h (variables.Slot n part) = part_range_still part _ _ (slot_still s.shape t.shape n h.shape)

pub state_still : (fact : LinearView) (s t : AbsState) → CoversState s t → Still CoversState (tightened range_of cut_to fact s) (tightened range_of cut_to fact t)
state_still fact s t h = tightened_still range_of cut_to CoversState range_still cut_to_still fact s t h
