use Rattle.std.proofs.Common.{rules, ◌≡◌, OnOk, ◌++◌, ◌∷◌, []}
use Rattle.std.proofs.lemmas.Result.{on_ok_weaker}
use Rattle.stack_shape.proofs.ShapeLemmas.{holds_pushed}
use Rattle.stack_shape.proofs.shape.Shape.push.Goals as goal

pub returns-clause-holds : goal.returns-clause-holds
returns-clause-holds c = λ entry words word held top.
    let pushed : OnOk c.map_err.result (c.try_push.new.self.items ≡ c.args.self.now ++ c.args.slot ∷ []) = search rules in
    on_ok_weaker c.map_err.result (λ e. holds_pushed _ _ c.args.slot entry words word e held top) pushed
