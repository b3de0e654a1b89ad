-- Pairs that cover each other are equal, and rows with equal parts.
use Rattle.std.proofs.Common.{◌≡◌, ◌∙◌, ◌<◌, ◌+◌, ◌-◌, ℕ, Option, Some, None, IfSome, List, slice_get, inl, inr, refl, sym, ap, arith}
use Rattle.std.proofs.lemmas.Bool.{cases_lt}
use Rattle.abs_state.specs.Pairs.{CoversPairs}
use Rattle.abs_state.specs.declared.pairs.Pairs.{Pairs}
use Rattle.check_rules.specs.Acceptance.{AreConsistent}
use Rattle.cert_form.specs.Contents.{CertificateView}
use Rattle.intervals.specs.Pair.{CoversPair}
use Rattle.intervals.specs.Range.{Covers, RangeView}
use Rattle.intervals.specs.declared.pair.Pair.{Pair}
use Rattle.intervals.specs.declared.reg_pair.RegPair.{RegPair}

abbrev range_of : ℕ → ℕ → RangeView
range_of low high = record { low = low; high = high }

same_range : (r s : RangeView) → Covers r s → Covers s r → r ≡ s
same_range r s h k =
    let low : r.low ≡ s.low = omega (arith, h.0, k.0) in
    let high : r.high ≡ s.high = omega (arith, h.1, k.1) in
    ap (λ n. range_of n r.high) low ∙ ap (range_of s.low) high

same_origin : (o p : Option RegPair) → IfSome o (λ of. p ≡ Some of) → IfSome p (λ of. o ≡ Some of) → o ≡ p
same_origin None None h k = refl
same_origin None (Some r) h k = k
same_origin (Some r) p h k = sym h

abbrev pair_of : RangeView → RangeView → RangeView → Option RegPair → Pair
pair_of w h l o = record { word = w; high = h; low = l; origin = o }

same_pair : (p q : Pair) → CoversPair p q → CoversPair q p → p ≡ q
same_pair p q h k =
    ap (λ w. pair_of w p.high p.low p.origin) (same_range p.word q.word h.word k.word)
    ∙ ap (λ b. pair_of q.word b p.low p.origin) (same_range p.high q.high h.high k.high)
    ∙ ap (λ b. pair_of q.word q.high b p.origin) (same_range p.low q.low h.low k.low)
    ∙ ap (pair_of q.word q.high q.low) (same_origin p.origin q.origin h.origin k.origin)

abbrev pairs_of : Pair → Pair → Pair → Pair → Pair → Pair → Pair → Pair → Pair → Pair → Pairs
pairs_of a b d h x y e f g i = record {
  af = a;
  bc = b;
  de = d;
  hl = h;
  ix = x;
  iy = y;
  alternate_af = e;
  alternate_bc = f;
  alternate_de = g;
  alternate_hl = i;
}

pub same_pairs : (p q : Pairs) → CoversPairs p q → CoversPairs q p → p ≡ q
same_pairs p q h k =
    ap (λ (z : Pair). pairs_of z p.bc p.de p.hl p.ix p.iy p.alternate_af p.alternate_bc p.alternate_de p.alternate_hl) (same_pair p.af q.af h.0.af k.0.af)
    ∙ ap (λ (z : Pair). pairs_of q.af z p.de p.hl p.ix p.iy p.alternate_af p.alternate_bc p.alternate_de p.alternate_hl) (same_pair p.bc q.bc h.0.bc k.0.bc)
    ∙ ap (λ (z : Pair). pairs_of q.af q.bc z p.hl p.ix p.iy p.alternate_af p.alternate_bc p.alternate_de p.alternate_hl) (same_pair p.de q.de h.0.de k.0.de)
    ∙ ap (λ (z : Pair). pairs_of q.af q.bc q.de z p.ix p.iy p.alternate_af p.alternate_bc p.alternate_de p.alternate_hl) (same_pair p.hl q.hl h.0.hl k.0.hl)
    ∙ ap (λ (z : Pair). pairs_of q.af q.bc q.de q.hl z p.iy p.alternate_af p.alternate_bc p.alternate_de p.alternate_hl) (same_pair p.ix q.ix h.0.ix k.0.ix)
    ∙ ap (λ (z : Pair). pairs_of q.af q.bc q.de q.hl q.ix z p.alternate_af p.alternate_bc p.alternate_de p.alternate_hl) (same_pair p.iy q.iy h.0.iy k.0.iy)
    ∙ ap (λ (z : Pair). pairs_of q.af q.bc q.de q.hl q.ix q.iy z p.alternate_bc p.alternate_de p.alternate_hl) (same_pair p.alternate_af q.alternate_af h.1.alternate_af k.1.alternate_af)
    ∙ ap (λ (z : Pair). pairs_of q.af q.bc q.de q.hl q.ix q.iy q.alternate_af z p.alternate_de p.alternate_hl) (same_pair p.alternate_bc q.alternate_bc h.1.alternate_bc k.1.alternate_bc)
    ∙ ap (λ (z : Pair). pairs_of q.af q.bc q.de q.hl q.ix q.iy q.alternate_af q.alternate_bc z p.alternate_hl) (same_pair p.alternate_de q.alternate_de h.1.alternate_de k.1.alternate_de)
    ∙ ap (λ (z : Pair). pairs_of q.af q.bc q.de q.hl q.ix q.iy q.alternate_af q.alternate_bc q.alternate_de z) (same_pair p.alternate_hl q.alternate_hl h.1.alternate_hl k.1.alternate_hl)

-- a row that is equal to the one before it is consistent where that one is
pub one_more_repeated : (rom : List ℕ) (cert : CertificateView) (id : ℕ) → AreConsistent rom cert id → 0 < id → slice_get cert.rows (id - 1) ≡ slice_get cert.rows id → AreConsistent rom cert (id + 1)
one_more_repeated rom cert id before some same number s below is at subject =
    elim (cases_lt number id) [
      | inl earlier ↦ before number s earlier is at subject
      | inr here ↦
          let equal : number ≡ id = omega (arith, below, here) in
          before (id - 1) s (omega (arith, some)) is (same ∙ sym (ap (λ (n : ℕ). slice_get cert.rows n) equal) ∙ at) subject
    ]
