use Rattle.std.proofs.Common.{rules, tests}
use Rattle.std.proofs.lemmas.Iterator.{YieldsList-from_slice, YieldsList-from_zip, cases_from_all}
use Rattle.std.proofs.lemmas.List.Elements.{length_all_zip}
use Rattle.stack_shape.specs.Slot.{OverlapsSlot}
use Rattle.stack_shape.proofs.Zipped.{tested}
use Rattle.stack_shape.proofs.shape.Shape.overlaps.Goals as goal

pub returns-then-mine-theirs : goal.returns-then-mine-theirs
returns-then-mine-theirs c =
    tested OverlapsSlot c.args.self.now c.args.other.now c.all.result (search rules)
    (cases_from_all c.all.new.self _ _ (λ p. OverlapsSlot p.0 p.1) (λ p. OverlapsSlot p.0 p.1 → ⊥) c.all.ensures.ran
    (YieldsList-from_zip (YieldsList-from_slice c.args.self.now cc) (YieldsList-from_slice c.args.other.now cc))
    (λ x q k. search (rules, tests)) (λ x q k. search (rules, tests)))

pub returns-else-mine-theirs : goal.returns-else-mine-theirs
returns-else-mine-theirs c =
    (λ t. absurd (search (rules, tests)), λ z. let same = length_all_zip OverlapsSlot c.args.self.now c.args.other.now z in absurd (search rules))
