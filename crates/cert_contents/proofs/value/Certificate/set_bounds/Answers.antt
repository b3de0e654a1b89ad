use Rattle.std.proofs.Common.{sym, subst, rules}
use Rattle.std.proofs.lemmas.Option.{slice_get_within}
use Rattle.cert_form.specs.Contents.{CertificateView}
use Rattle.cert_form.specs.Form.{IsInForm}
use Rattle.cert_contents.specs.Bounds.{with_bounds_at}
use Rattle.cert_contents.proofs.BoundsLemmas.{bounds_in_form, bounds_of_form}
use Rattle.cert_contents.proofs.value.Certificate.set_bounds.Goals as goal
use Rattle.cert_contents.proofs.value.Certificate.set_bounds.Goals.{After-set_bounds}

pub returns-then-not-is_in_form-clause-takes : goal.returns-then-not-is_in_form-clause-takes
returns-then-not-is_in_form-clause-takes c = (
  λ no. search rules,
  λ takes. (c.if-not-is_in_form.ensures {u = tt}).1
      (bounds_of_form c.args.self.now c.args.id c.args.depth c.args.time c.in-Some.proc (sym (c.in-Some.ensures {u = tt})) takes.form),
)

-- the certificate with these bounds
in_form : (c : After-set_bounds) → IsInForm (with_bounds_at c.args.self.now c.args.id c.args.depth c.args.time)
in_form c =
    bounds_in_form c.args.self.now c.args.id c.args.depth c.args.time c.in-Some.proc (subst (λ (d : CertificateView). IsInForm d) c.self.view_is c.self.invariant)
    (sym (c.in-Some.ensures {u = tt})) ((c.if-not-is_in_form.ensures {u = tt}).0 (search rules))

pub invariant_of-self : goal.invariant_of-self
invariant_of-self c =
    rw c.set_bounds.ensures
    (subst (λ (d : CertificateView). IsInForm (with_bounds_at d c.args.id c.args.depth c.args.time)) (sym c.self.view_is) (in_form c))

pub returns-clause-takes : goal.returns-clause-takes
returns-clause-takes c = (
  λ yes. record {
    within = slice_get_within c.args.self.now.procs c.args.id c.in-Some.proc (sym (c.in-Some.ensures {u = tt}));
    form = in_form c;
  },
  λ takes. search rules,
)
