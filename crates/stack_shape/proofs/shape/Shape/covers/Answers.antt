use Rattle.std.proofs.Common.{rules, tests}
use Rattle.std.proofs.lemmas.Iterator.{YieldsList-from_slice, YieldsList-from_zip, cases_from_all}
use Rattle.std.proofs.lemmas.List.Elements.{length_all_zip}
use Rattle.stack_shape.specs.Slot.{CoversSlot}
use Rattle.stack_shape.proofs.Zipped.{tested}
use Rattle.stack_shape.proofs.ShapeLemmas.{shape_covers_along, shape_holds_wider}
use Rattle.stack_shape.proofs.shape.Shape.covers.Goals as goal

pub returns-then-mine-theirs-clause-exact : goal.returns-then-mine-theirs-clause-exact
returns-then-mine-theirs-clause-exact c =
    tested CoversSlot c.args.self.now c.args.other.now c.all.result (search rules)
    (cases_from_all c.all.new.self _ _ (λ p. CoversSlot p.0 p.1) (λ p. CoversSlot p.0 p.1 → ⊥) c.all.ensures.ran
    (YieldsList-from_zip (YieldsList-from_slice c.args.self.now cc) (YieldsList-from_slice c.args.other.now cc))
    (λ x q k. search (rules, tests)) (λ x q k. search (rules, tests)))

pub returns-then-mine-theirs-clause-transitive : goal.returns-then-mine-theirs-clause-transitive
returns-then-mine-theirs-clause-transitive c = λ t third h.
    shape_covers_along c.args.self.now c.args.other.now third ((returns-then-mine-theirs-clause-exact c).0 t) h

pub returns-then-mine-theirs-clause-widens : goal.returns-then-mine-theirs-clause-widens
returns-then-mine-theirs-clause-widens c = λ t entry words h.
    shape_holds_wider c.args.self.now c.args.other.now entry words ((returns-then-mine-theirs-clause-exact c).0 t) h

pub returns-else-mine-theirs-clause-exact : goal.returns-else-mine-theirs-clause-exact
returns-else-mine-theirs-clause-exact c =
    (λ t. absurd (search (rules, tests)), λ z. let same = length_all_zip CoversSlot c.args.self.now c.args.other.now z in absurd (search rules))
