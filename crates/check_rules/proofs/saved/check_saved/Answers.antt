use Rattle.std.proofs.Common.{List, Contains, refl, subst}
use Rattle.std.proofs.lemmas.List.Elements.{All-contains}
use Rattle.abs_step.specs.declared.next.Next.{Next}
use Rattle.abs_step.specs.declared.reason.Reason.TheVariants as reasons
use Rattle.abs_step.specs.declared.reason.Saved.{Saved}
use Rattle.abs_step.specs.declared.reason.Saved.TheVariants as saved
use Rattle.check_writes.specs.Saved.{GivesAllBack}
use Rattle.check_rules.specs.Table.{Passes}
use Rattle.check_rules.proofs.Order.{saved_passes}
use Rattle.check_rules.proofs.WaysOn.{ways_on}
use Rattle.check_rules.proofs.saved.check_saved.Goals as goal

pub returns : goal.returns
returns c = saved_passes c.args.subject.now c.requires.below each
  where
    each : (detail : Saved) → Passes c.args.subject.now (reasons.SavedRegister detail)
    each (saved.Pair pair) = λ kind next leads exit.
        let listed = subst (λ (ns : List Next). Contains ns next) (ways_on c.args.subject.now c.args.nexts.now c.requires.step) leads in
        All-contains GivesAllBack c.args.nexts.now next (c.in_default.ensures kind) listed exit pair
    each saved.I = c.if-not-keeps_i.ensures.0 refl
