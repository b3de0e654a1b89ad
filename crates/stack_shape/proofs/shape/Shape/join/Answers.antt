use Rattle.std.proofs.Common.{inl, inr, rules, ◌≡◌, length}
use Rattle.std.proofs.lemmas.Iterator.{empty_from_Zip}
use Rattle.stack_shape.specs.Shape.{hull_of_shapes}
use Rattle.stack_shape.proofs.ShapeLemmas.{hull_covers_first_shape, hull_covers_second_shape, shape_holds_wider}
use Rattle.stack_shape.proofs.shape.Shape.join.Goals as goal

pub returns-clause-covers : goal.returns-clause-covers
returns-clause-covers c =
    let spent = empty_from_Zip _ c.next.new.self _ c.in-None.is c.next.ensures.steps (search rules) in
    let whole : c.loop-a.slots.items ≡ hull_of_shapes c.args.self.now c.args.other.now = search rules in
    let same : length c.args.self.now ≡ length c.args.other.now = search rules in
    rw whole (hull_covers_first_shape c.args.self.now c.args.other.now same, hull_covers_second_shape c.args.self.now c.args.other.now same)

pub returns-clause-holds : goal.returns-clause-holds
returns-clause-holds c = λ entry words.
    let both = returns-clause-covers c in
    elim [
      | inl h ↦ shape_holds_wider c.loop-a.slots.items c.args.self.now entry words both.0 h
      | inr h ↦ shape_holds_wider c.loop-a.slots.items c.args.other.now entry words both.1 h
    ]
