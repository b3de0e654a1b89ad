use Rattle.std.proofs.Common.{None, Some, sym, subst, ◌∙◌, arith}
use Rattle.std.proofs.lemmas.Bool.{false≢true}
use Rattle.abs_step.specs.declared.next.NextKind.TheVariants.{Call, Jump}
use Rattle.check_ways.specs.Pays.{Lands}
use Rattle.check_ways.specs.Ways.{WayView}
use Rattle.check_ways.proofs.RestartLemmas.{own_jump}
use Rattle.check_walks.proofs.WalkLemmas.{by_kind}
use Rattle.check_walks.proofs.walks.cost_by.Goals as goal

pub returns-then-jump_lands : goal.returns-then-jump_lands
returns-then-jump_lands c =
    let s = c.args.subject.now in
    by_kind s c.args.next.now c.args.target.now Jump (Some c.from.result) c.in-Jump.is (
      (subst (λ (w : WayView). Lands s.cert w c.args.target.now) (own_jump s c.args.next.now c.requires.stays) (c.jump_lands.ensures.0 c.if-jump_lands.true), c.from.ensures),
      (λ n lies. let same = lies.1 in omega (arith, same, c.from.ensures)),
    )

pub returns-else-jump_lands : goal.returns-else-jump_lands
returns-else-jump_lands c =
    let s = c.args.subject.now in
    by_kind s c.args.next.now c.args.target.now Jump None c.in-Jump.is
    (λ n lies.
    false≢true (sym c.if-jump_lands.false
    ∙ c.jump_lands.ensures.1 (subst (λ (w : WayView). Lands s.cert w c.args.target.now) (sym (own_jump s c.args.next.now c.requires.stays)) lies.0)))

pub returns-in-Call : goal.returns-in-Call
returns-in-Call c = by_kind c.args.subject.now c.args.next.now c.args.target.now Call c.cost_by_call.result c.in-Call.is c.cost_by_call.ensures
