-- A call that comes back covered from an exit that covers each of its callee's comes back covered from each.
use Rattle.std.proofs.Common.{◌≡◌, ◌⊎◌, List, [], ℕ, Option, Some, None, IfSome, inl, inr, refl, sym, subst, ap}
use Rattle.abs_state.proofs.CoverLemmas.{state_covers_itself}
use Rattle.abs_state.specs.Covers.{CoversState}
use Rattle.abs_state.specs.Entries.{after_call, returned_pair}
use Rattle.abs_state.specs.Pairs.{KeepsPair, pair_of}
use Rattle.abs_state.specs.declared.pairs.Pairs.{Pairs}
use Rattle.abs_state.specs.declared.state.AbsState.{AbsState}
use Rattle.abs_step.specs.declared.next.Next.{Next}
use Rattle.check_cover.proofs.PlainLemmas.{covered_plain}
use Rattle.check_cover.proofs.WholeLemmas.{covered_whole}
use Rattle.check_cover.specs.declared.program.Callee.{Callee}
use Rattle.check_ways.proofs.BareLemmas.{hands_back}
use Rattle.check_ways.proofs.KeptLemmas.{bare, is_left, left_bare}
use Rattle.check_ways.specs.Parts.{OnEachExit, ReturnCovered, WideCovered, WidesCovered, bare_arrival}
use Rattle.check_ways.specs.Ways.{SubjectView, return_way}
use Rattle.check_tables.specs.Lefts.{AreLeft, IsWidened, Widens, WidensEach, left_of}
use Rattle.cert_form.specs.Contents.{CertificateView}
use Rattle.cert_form.specs.Form.{IsInForm}
use Rattle.check_tables.specs.Tables.{AreExits, ProcExitsView}
use Rattle.check_tables.specs.declared.left.Left.{Left}
use Rattle.intervals.specs.Pair.{CoversPair}
use Rattle.intervals.specs.PairLaws.{covers_itself}
use Rattle.intervals.specs.declared.pair.Pair.{Pair}
use Rattle.intervals.specs.declared.reg_pair.RegPair.{RegPair}

-- a pair after a call, by its origin at the exit
abbrev returned : Pairs → Option RegPair → Pair → Pair
returned caller None x = x
returned caller (Some r) x = pair_of r caller

by_origin : (caller : Pairs) (o p : Option RegPair) (w e : Pair) → IfSome o (λ of. p ≡ Some of) → IfSome p (λ of. o ≡ Some of) → CoversPair w e →
    CoversPair (returned caller o w) (returned caller p e)
by_origin caller None None w e a b h = h
by_origin caller None (Some r) w e a b h = cc
by_origin caller (Some r) p w e a b h =
    subst (λ (x : Option RegPair). CoversPair (pair_of r caller) (returned caller x e)) (sym a) (covers_itself (pair_of r caller))

same_returned : (caller : Pairs) (x : Pair) (o : Option RegPair) → x.origin ≡ o → returned_pair caller x ≡ returned caller o x
same_returned caller x None is = ap (λ (o : Option RegPair). elim o as (λ _. Pair) [ Some r ↦ pair_of r caller | None ↦ x ]) is
same_returned caller x (Some r) is = ap (λ (o : Option RegPair). elim o as (λ _. Pair) [ Some r ↦ pair_of r caller | None ↦ x ]) is

pair_returned : (caller : Pairs) (w e : Pair) → KeepsPair w e → KeepsPair e w → CoversPair w e → CoversPair (returned_pair caller w) (returned_pair caller e)
pair_returned caller w e we ew h =
    subst (λ (x : Pair). CoversPair x (returned_pair caller e)) (sym (same_returned caller w w.origin refl))
    (subst (λ (x : Pair). CoversPair (returned caller w.origin w) x) (sym (same_returned caller e e.origin refl))
    (by_origin caller w.origin e.origin w e we ew h))

after_covers : (caller w e : AbsState) → Widens w e → CoversState (after_call caller w) (after_call caller e)
after_covers caller w e h =
    let own = state_covers_itself (after_call caller e) (after_call caller e) refl in
    let there = h.1.0 in
    let back = h.1.1 in
    let main = h.0.pairs.0 in
    let other = h.0.pairs.1 in
    let c = caller.pairs in
    record {
      mode = h.0.mode;
      armed = h.0.armed;
      pairs = (
        record {
          af = pair_returned c w.pairs.af e.pairs.af there.af back.af main.af;
          bc = pair_returned c w.pairs.bc e.pairs.bc there.bc back.bc main.bc;
          de = pair_returned c w.pairs.de e.pairs.de there.de back.de main.de;
          hl = pair_returned c w.pairs.hl e.pairs.hl there.hl back.hl main.hl;
          ix = pair_returned c w.pairs.ix e.pairs.ix there.ix back.ix main.ix;
          iy = pair_returned c w.pairs.iy e.pairs.iy there.iy back.iy main.iy;
        },
        record {
          alternate_af = pair_returned c w.pairs.alternate_af e.pairs.alternate_af there.alternate_af back.alternate_af other.alternate_af;
          alternate_bc = pair_returned c w.pairs.alternate_bc e.pairs.alternate_bc there.alternate_bc back.alternate_bc other.alternate_bc;
          alternate_de = pair_returned c w.pairs.alternate_de e.pairs.alternate_de there.alternate_de back.alternate_de other.alternate_de;
          alternate_hl = pair_returned c w.pairs.alternate_hl e.pairs.alternate_hl there.alternate_hl back.alternate_hl other.alternate_hl;
        },
      );
      flag = own.flag;
      shape = own.shape;
    }

-- by a row without claims, or by one whose claims are known back from each exit
one_wide : (cert : CertificateView) (s : SubjectView) (next : Next) (callee : Callee) (wide exit : AbsState) → Widens wide (bare exit) → WideCovered cert s next wide → ReturnCovered cert s next callee exit
one_wide cert s next callee wide exit over (inl plain) =
    covered_plain cert (return_way s next callee exit).arrival (after_call next.state wide) (after_call next.state exit) plain (after_covers next.state wide (bare exit) over)
one_wide cert s next callee wide exit over (inr whole) =
    covered_whole cert (bare_arrival s next wide) (return_way s next callee exit).arrival (after_call next.state wide) (after_call next.state exit)
    (hands_back s next callee wide exit whole.version over.1) whole.whole (after_covers next.state wide (bare exit) over)

wide_each : (cert : CertificateView) (s : SubjectView) (next : Next) (callee : Callee) (lefts : List Left) (wides : List AbsState) →
    IsInForm s.cert → AreLeft s.rom s.cert callee.number lefts → WidensEach lefts wides → WidesCovered cert s next wides → OnEachExit s callee.number (ReturnCovered cert s next callee)
wide_each cert s next callee lefts wides form left widens covered = record {
  each = λ exit leaves.
      let listed = left.each (left_of exit) (is_left s.rom s.cert callee.number exit form leaves) in
      let widened : IsWidened wides (bare exit) = subst (λ (e : AbsState). IsWidened wides e) (left_bare exit) (widens.each (left_of exit) listed) in
      one_wide cert s next callee widened.wide exit widened.over (covered.each widened.wide widened.listed);
}

by_wides : (cert : CertificateView) (s : SubjectView) (next : Next) (callee : Callee) (lefts : List Left) (wides : List AbsState) →
    IsInForm s.cert → AreLeft s.rom s.cert callee.number lefts → (wides ≡ []) ⊎ WidensEach lefts wides → WidesCovered cert s next wides →
    OnEachExit s callee.number (ReturnCovered cert s next callee)
by_wides cert s next callee lefts wides form left (inl none) covered = absurd (covered.some none)
by_wides cert s next callee lefts wides form left (inr widens) covered = wide_each cert s next callee lefts wides form left widens covered

-- if the callee's tables have such states
pub wides_cover : (cert : CertificateView) (s : SubjectView) (next : Next) (callee : Callee) (g : ProcExitsView) → IsInForm s.cert → g.proc ≡ callee.number → AreExits s.rom s.cert g →
    WidesCovered cert s next g.wides → OnEachExit s callee.number (ReturnCovered cert s next callee)
wides_cover cert s next callee g form of are covered =
    by_wides cert s next callee g.lefts g.wides form (subst (λ (n : ℕ). AreLeft s.rom s.cert n g.lefts) of are.left) are.wides covered
