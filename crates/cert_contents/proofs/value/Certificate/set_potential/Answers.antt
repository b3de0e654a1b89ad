use Rattle.std.proofs.Common.{◌∙◌, ℕ, length, sym, subst, ap, rules}
use Rattle.std.proofs.lemmas.Option.{slice_get_within}
use Rattle.cert_fields.specs.Linear.{HasSlotsBelow}
use Rattle.cert_lines.specs.declared.row.Row.{Row}
use Rattle.cert_form.specs.Contents.{CertificateView}
use Rattle.cert_form.specs.Form.{IsInForm}
use Rattle.cert_contents.specs.Bounds.{with_potential_at}
use Rattle.cert_contents.proofs.BoundsLemmas.{potential_in_form, potential_of_form}
use Rattle.cert_contents.proofs.value.Certificate.set_potential.Goals as goal
use Rattle.cert_contents.proofs.value.Certificate.set_potential.Goals.{After-set_potential}

pub returns-then-not-stays_within-clause-takes : goal.returns-then-not-stays_within-clause-takes
returns-then-not-stays_within-clause-takes c =
    let slots = c.len.ensures.value ∙ ap (λ (row : Row). length row.state.shape) c.row-2.view_is in (
      λ no. search rules,
      λ takes. c.if-not-stays_within.ensures.1 (subst (λ (n : ℕ). HasSlotsBelow n c.args.potential) (sym slots)
          (potential_of_form c.args.self.now c.args.id c.args.potential c.in-Some.row (sym (c.in-Some.ensures {u = tt})) takes.form)),
    )

-- the certificate with this potential
in_form : (c : After-set_potential) → IsInForm (with_potential_at c.args.self.now c.args.id c.args.potential)
in_form c =
    let slots = c.len.ensures.value ∙ ap (λ (row : Row). length row.state.shape) c.row-2.view_is in
    potential_in_form c.args.self.now c.args.id c.args.potential c.in-Some.row 64 (subst (λ (d : CertificateView). IsInForm d) c.self.view_is c.self.invariant)
    (sym (c.in-Some.ensures {u = tt})) c.is_linear.ensures.form c.is_linear.ensures.short
    (subst (λ (n : ℕ). HasSlotsBelow n c.args.potential) slots (c.if-not-stays_within.ensures.0 (search rules)))

pub invariant_of-self : goal.invariant_of-self
invariant_of-self c =
    rw c.set_potential.ensures
    (subst (λ (d : CertificateView). IsInForm (with_potential_at d c.args.id c.args.potential)) (sym c.self.view_is) (in_form c))

pub returns-clause-takes : goal.returns-clause-takes
returns-clause-takes c = (
  λ yes. record {
    within = slice_get_within c.args.self.now.rows c.args.id c.in-Some.row (sym (c.in-Some.ensures {u = tt}));
    form = in_form c;
  },
  λ takes. search rules,
)
