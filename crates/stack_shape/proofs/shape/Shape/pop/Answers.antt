use Rattle.std.proofs.Common.{rules, ◌≡◌, IfOk, ◌++◌, ◌∷◌, []}
use Rattle.std.proofs.lemmas.Result.{IfOk-weaker}
use Rattle.stack_shape.specs.Slot.{HoldsSlot}
use Rattle.stack_shape.specs.Shape.{HoldsShape}
use Rattle.stack_shape.specs.declared.slot.Slot.{Slot}
use Rattle.stack_shape.proofs.ShapeLemmas.{holds_popped}
use Rattle.stack_shape.proofs.shape.Shape.pop.Goals as goal

pub returns-clause-holds : goal.returns-clause-holds
returns-clause-holds c = λ entry words word held.
    let popped : IfOk c.ok_or.result (λ (slot : Slot). c.args.self.now ≡ c.pop.new.self.items ++ slot ∷ []) = search rules in
    IfOk-weaker c.ok_or.result _ (λ (slot : Slot). HoldsSlot slot entry word × HoldsShape c.pop.new.self.items entry words) (λ slot e. holds_popped _ _ slot entry words word e held) popped
