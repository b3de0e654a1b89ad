use Rattle.std.proofs.Common.{rules, ◌≡◌, ◌≤◌, length}
use Rattle.stack_shape.specs.Slot.{HoldsSlot}
use Rattle.stack_shape.proofs.Zipped.{AllZip-set, AllZip-past}
use Rattle.stack_shape.proofs.shape.Shape.replace.Goals as goal

pub returns-in_err-there-clause-holds : goal.returns-in_err-there-clause-holds
returns-in_err-there-clause-holds c = λ entry words word held slot.
    let same : c.self.inside.slots.items ≡ c.args.self.now = c.self.view_is in
    let past : length c.args.self.now ≤ c.args.place = search rules in
    rw same (AllZip-past (λ s w. HoldsSlot s entry w) c.args.self.now words c.args.place word past held)

pub returns-clause-holds : goal.returns-clause-holds
returns-clause-holds c = λ entry words word held slot.
    let same : c.self.inside.slots.items ≡ c.args.self.now = c.self.view_is in
    rw same (AllZip-set (λ s w. HoldsSlot s entry w) c.args.self.now words c.args.place c.args.slot word held slot)
