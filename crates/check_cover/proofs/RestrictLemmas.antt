-- A state covers what is left of it if a register is cut to one byte.
use Rattle.std.proofs.Common.{◌≡◌, ℕ, true, false, Bool, if◌then◌else◌, max, min, nat_le, Option, Some, None, IfSome, option_and_then, refl, subst, arith}
use Rattle.std.proofs.lemmas.Option.{same_Some}
use Rattle.abs_state.proofs.CoverLemmas.{state_covers_itself}
use Rattle.abs_state.specs.Covers.{CoversState}
use Rattle.abs_state.specs.Restricting.{byte_is, with_cut_pair}
use Rattle.abs_state.specs.Pairs.{CoversPairs, with_pair}
use Rattle.abs_state.specs.declared.state.AbsState.{AbsState}
use Rattle.abs_state.specs.declared.pairs.Pairs.{Pairs}
use Rattle.intervals.specs.PairLaws.{covers_itself}
use Rattle.intervals.specs.Pair.{CoversPair, cut_if_some, high_bytes, low_bytes, normal_form, with_high_cut, with_low_cut, words_of}
use Rattle.intervals.specs.Range.{Covers, RangeView, intersection, single}
use Rattle.intervals.specs.declared.pair.Pair.{Pair}
use Rattle.intervals.specs.declared.reg_pair.RegPair.{RegPair}
use Rattle.intervals.specs.declared.reg_pair.RegPair.TheVariants as names
use Rattle.z80_decode.specs.declared.operands.Register8.{Register8}
use Rattle.z80_decode.specs.declared.operands.Register8.TheVariants as registers

-- what a chain of options gives
then_some : {X Y : Type 0} (f : X → Option Y) (o : Option X) (y : Y) → option_and_then f o ≡ Some y → (x : X) × (o ≡ Some x) × (f x ≡ Some y)
then_some f None y e = cc
then_some f (Some x) y e = (x, refl, e)

-- ---- ranges

between_is : (low high : ℕ) (b : Bool) (r : RangeView) → (if b then Some (record { low = low; high = high }) else None) ≡ Some r →
    record { low = low; high = high } ≡ r
between_is low high true r e = same_Some (record { low = low; high = high }) r e
between_is low high false r e = cc

cut_within : (a b r : RangeView) → intersection a b ≡ Some r → Covers a r
cut_within a b r e =
    subst (λ (x : RangeView). Covers a x) (between_is (max a.low b.low) (min a.high b.high) (nat_le (max a.low b.low) (min a.high b.high)) r e)
    (omega arith, omega arith)

some_within : (a : RangeView) (b : Option RangeView) (r : RangeView) → cut_if_some a b ≡ Some r → Covers a r
some_within a None r e = subst (λ (x : RangeView). Covers a x) (same_Some a r e) (omega arith, omega arith)
some_within a (Some b) r e = cut_within a b r e

-- ---- pairs

own_origin : (o : Option RegPair) → IfSome o (λ r. o ≡ Some r)
own_origin None = tt
own_origin (Some r) = refl

normal_within : (p q : Pair) → normal_form p ≡ Some q → CoversPair p q
normal_within p q e =
    let (high, is_high, left_high) = then_some
    (λ high. option_and_then (λ low. option_and_then (λ word. Some (record p { word = word; high = high; low = low }))
    (intersection p.word (words_of high low))) (cut_if_some p.low (low_bytes p.word)))
    (intersection p.high (high_bytes p.word)) q e in
    let (low, is_low, left_low) = then_some
    (λ low. option_and_then (λ word. Some (record p { word = word; high = high; low = low })) (intersection p.word (words_of high low)))
    (cut_if_some p.low (low_bytes p.word)) q left_high in
    let (word, is_word, is) = then_some (λ word. Some (record p { word = word; high = high; low = low })) (intersection p.word (words_of high low)) q left_low in
    subst (λ (x : Pair). CoversPair p x) {x = record p { word = word; high = high; low = low }} (same_Some (record p { word = word; high = high; low = low }) q is) record {
      word = cut_within p.word (words_of high low) word is_word;
      high = cut_within p.high (high_bytes p.word) high is_high;
      low = some_within p.low (low_bytes p.word) low is_low;
      origin = own_origin p.origin;
    }

high_within : (p q : Pair) (to : RangeView) → with_high_cut p (intersection p.high to) ≡ Some q → CoversPair p q
high_within p q to e =
    let (high, is, left) = then_some (λ high. normal_form (record p { high = high })) (intersection p.high to) q e in
    let cut = cut_within p.high to high is in
    let normal = normal_within (record p { high = high }) q left in
    record {
      word = normal.word;
      high = (omega (arith, cut.0, normal.high.0), omega (arith, cut.1, normal.high.1));
      low = normal.low;
      origin = normal.origin;
    }

low_within : (p q : Pair) (to : RangeView) → with_low_cut p (intersection p.low to) ≡ Some q → CoversPair p q
low_within p q to e =
    let (low, is, left) = then_some (λ low. normal_form (record p { low = low })) (intersection p.low to) q e in
    let cut = cut_within p.low to low is in
    let normal = normal_within (record p { low = low }) q left in
    record {
      word = normal.word;
      high = normal.high;
      low = (omega (arith, cut.0, normal.low.0), omega (arith, cut.1, normal.low.1));
      origin = normal.origin;
    }

-- ---- states

pairs_cover : (p : Pairs) (af bc de hl : Pair) → CoversPair p.af af → CoversPair p.bc bc → CoversPair p.de de → CoversPair p.hl hl →
    CoversPairs p (record p { af = af; bc = bc; de = de; hl = hl })
pairs_cover p af bc de hl a b d h = (
  record { af = a; bc = b; de = d; hl = h; ix = covers_itself p.ix; iy = covers_itself p.iy },
  record {
    alternate_af = covers_itself p.alternate_af;
    alternate_bc = covers_itself p.alternate_bc;
    alternate_de = covers_itself p.alternate_de;
    alternate_hl = covers_itself p.alternate_hl;
  },
)

with_covers : (s : AbsState) (pairs : Pairs) → CoversPairs s.pairs pairs → CoversState s (record s { pairs = pairs })
with_covers s pairs h =
    let own = state_covers_itself s s refl in
    record { mode = own.mode; armed = own.armed; pairs = h; flag = own.flag; shape = own.shape }

-- one of four pairs was cut
abbrev IsWithin : RegPair → Pairs → Pair → Type 0
IsWithin r p q = CoversPairs p (with_pair r q p)

cut_covers : (s : AbsState) (r : RegPair) (cut : Option Pair) (part : AbsState) → ((q : Pair) → cut ≡ Some q → IsWithin r s.pairs q) →
    with_cut_pair r cut s ≡ Some part → CoversState s part
cut_covers s r None part within e = cc
cut_covers s r (Some q) part within e =
    subst (λ (x : AbsState). CoversState s x) (same_Some (record s { pairs = with_pair r q s.pairs }) part e)
    (with_covers s (with_pair r q s.pairs) (within q refl))

in_af : (p : Pairs) (q : Pair) → CoversPair p.af q → IsWithin names.Af p q
in_af p q h = pairs_cover p q p.bc p.de p.hl h (covers_itself p.bc) (covers_itself p.de) (covers_itself p.hl)

in_bc : (p : Pairs) (q : Pair) → CoversPair p.bc q → IsWithin names.Bc p q
in_bc p q h = pairs_cover p p.af q p.de p.hl (covers_itself p.af) h (covers_itself p.de) (covers_itself p.hl)

in_de : (p : Pairs) (q : Pair) → CoversPair p.de q → IsWithin names.De p q
in_de p q h = pairs_cover p p.af p.bc q p.hl (covers_itself p.af) (covers_itself p.bc) h (covers_itself p.hl)

in_hl : (p : Pairs) (q : Pair) → CoversPair p.hl q → IsWithin names.Hl p q
in_hl p q h = pairs_cover p p.af p.bc p.de q (covers_itself p.af) (covers_itself p.bc) (covers_itself p.de) h

pub covers_part : (s : AbsState) (r : Register8) (byte : ℕ) (part : AbsState) → byte_is true r byte s ≡ Some part → CoversState s part
covers_part s registers.A byte part e = cut_covers s names.Af _ part (λ q is. in_af s.pairs q (high_within s.pairs.af q (single byte) is)) e
covers_part s registers.B byte part e = cut_covers s names.Bc _ part (λ q is. in_bc s.pairs q (high_within s.pairs.bc q (single byte) is)) e
covers_part s registers.C byte part e = cut_covers s names.Bc _ part (λ q is. in_bc s.pairs q (low_within s.pairs.bc q (single byte) is)) e
covers_part s registers.D byte part e = cut_covers s names.De _ part (λ q is. in_de s.pairs q (high_within s.pairs.de q (single byte) is)) e
covers_part s registers.E byte part e = cut_covers s names.De _ part (λ q is. in_de s.pairs q (low_within s.pairs.de q (single byte) is)) e
covers_part s registers.H byte part e = cut_covers s names.Hl _ part (λ q is. in_hl s.pairs q (high_within s.pairs.hl q (single byte) is)) e
covers_part s registers.L byte part e = cut_covers s names.Hl _ part (λ q is. in_hl s.pairs q (low_within s.pairs.hl q (single byte) is)) e
