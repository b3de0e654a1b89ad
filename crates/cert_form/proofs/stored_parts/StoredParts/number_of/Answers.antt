use Rattle.std.proofs.Common.{◌<◌, [], Some, length, slice_get, ap, sym, ◌∙◌, subst, arith}
use Rattle.cert_form.proofs.StoredLemmas.{kept_before, stored_behind}
use Rattle.cert_form.proofs.stored_parts.StoredParts.number_of.Goals as goal

pub returns-then-is_empty-clause-stored : goal.returns-then-is_empty-clause-stored
returns-then-is_empty-clause-stored c =
    ap (λ all. slice_get all 0) (sym c.self.view_is) ∙ ap Some (sym (c.is_empty.ensures.0 c.if-is_empty.true))

pub returns-clause-stored : goal.returns-clause-stored
returns-clause-stored c =
    stored_behind [] c.self.inside.others.items c.push.new.self.items c.args.parts _ c.in_ok-push.ensures.items
    (omega (arith, c.len-next.ensures))

pub returns-clause-kept : goal.returns-clause-kept
returns-clause-kept c = λ n low.
    kept_before [] c.self.inside.others.items c.push.new.self.items c.args.parts c.in_ok-push.ensures.items n
    (subst (λ all. n < length all) (sym c.self.view_is) low)
    ∙ ap (λ all. slice_get all n) c.self.view_is
