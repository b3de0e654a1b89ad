use Rattle.std.proofs.Common.{◌≡◌, ◌≤◌, ◌<◌, ◌==◌, ◌∙◌, ℕ, Bool, false, List, [], length, get_or, subst, arith}
use Rattle.abs_state.specs.declared.state.AbsState.{AbsState}
use Rattle.check_cover.proofs.Lists.{one_more}
use Rattle.abs_step.specs.declared.next.Next.{Next}
use Rattle.cert_form.specs.Contents.{CertificateView}
use Rattle.check_ways.specs.Parts.{WideCovered, WidesCovered}
use Rattle.check_ways.specs.Ways.{SubjectView}
use Rattle.check_ways.proofs.going.wides_are_covered.Goals as goal

pub loop-wide-preserved : goal.loop-wide-preserved
loop-wide-preserved c =
    let same = c.loop-wide.invariant.0 in (
      c.wide_is_covered.ensures.same ∙ same,
      one_more (WideCovered c.args.coverer.now c.args.subject.now c.args.next.now) c.wides-wides.result.now c.loop-wide.wide-index c.wide-item.result c.loop-wide.invariant.1
          c.loop-wide-test.true c.wide-item.is
          (subst (λ (cert : CertificateView). WideCovered cert c.args.subject.now c.args.next.now c.wide-item.result) same (c.wide_is_covered.ensures.found c.if-not-wide_is_covered.false)),
    )

nonempty : (xs : List AbsState) (t : Bool) → t ≡ (length xs == 0) → t ≡ false → xs ≡ [] → ⊥
nonempty xs t is off none = let on = subst (λ (ys : List AbsState). t ≡ (length ys == 0)) none is in cc

all_covered : (cert : CertificateView) (s : SubjectView) (next : Next) (wides : List AbsState) (count : ℕ) → (wides ≡ [] → ⊥) → length wides ≤ count →
    ((k : ℕ) (wide : AbsState) → k < count → WideCovered cert s next (get_or wides k wide)) → WidesCovered cert s next wides
all_covered cert s next wides count some all each = record {
  some = some;
  each = λ wide listed.
      let (k, within, is) = listed in
      subst (λ (x : AbsState). WideCovered cert s next x) is (each k wide (omega (arith, all, within)));
}

pub returns-clause-found : goal.returns-clause-found
returns-clause-found c = λ yes.
    let s = c.args.subject.now in
    let next = c.args.next.now in
    subst (λ (wides : List AbsState). WidesCovered c.args.coverer.now s next wides) c.wides-wides.ensures
    (all_covered c.args.coverer.now s next c.wides-wides.result.now c.loop-wide.wide-index
    (nonempty c.wides-wides.result.now c.is_empty.result c.is_empty.ensures c.if-is_empty.false)
    (let end = c.loop-wide-test.false in omega arith) c.loop-wide.invariant.1)
