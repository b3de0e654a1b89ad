use Rattle.std.proofs.Common.{rules, ◌≡◌, ◌++◌, ◌∷◌, []}
use Rattle.stack_shape.proofs.ShapeLemmas.{holds_pushed, holds_popped}
use Rattle.stack_shape.proofs.shape.Shape.exchange.Goals as goal

pub returns-clause-holds : goal.returns-clause-holds
returns-clause-holds c = λ entry words old new held top.
    let popped : c.args.self.now ≡ c.pop.new.self.items ++ c.in_ok-top.top ∷ [] = search rules in
    let parts = holds_popped c.pop.new.self.items _ c.in_ok-top.top entry words old popped held in
    (parts.0, holds_pushed c.pop.new.self.items _ c.args.slot entry words new c.push.ensures.items parts.1 top)
