use Rattle.std.proofs.Common.{rules, arith, FitsSigned}
use Rattle.std.specs.Int.{w32, w128}
use Rattle.std.proofs.lemmas.Int.{ints, to_z-of_z}
use Rattle.loop_bounds.specs.Effect.{whole}
use Rattle.loop_bounds.proofs.RewrittenLemmas.{old_value, unknown_value, raised_value, lowered_value, constant_value, constant_room}
use Rattle.loop_bounds.proofs.rewritten.Rewritten.add.Goals as goal

pub returns-in-Old-clause-value : goal.returns-in-Old-clause-value
returns-in-Old-clause-value c = λ before free.
    let fits : FitsSigned w32 c.args.term.coefficient = search rules in
    let t = simp to_z-of_z at (c.add.ensures.total (whole before)) in
    rw c.in-Old.is (old_value before free c.args.self.now.known c.add.new.self c.args.self.now.unknown c.args.term.coefficient c.in-Old.variable t c.add.ensures.constant)

pub returns-in-Raised-clause-value : goal.returns-in-Raised-clause-value
returns-in-Raised-clause-value c = λ before free.
    let fits : FitsSigned w32 c.args.term.coefficient = search rules in
    let wide : FitsSigned w128 c.from.result = search rules in
    let t = simp to_z-of_z at (c.add-in-Raised.ensures.total (whole before)) in
    let r = simp to_z-of_z at c.raise.ensures in
    let f = simp to_z-of_z at c.from.ensures in
    rw c.in-Raised.is (raised_value before free c.args.self.now.known c.raise.new.self c.args.self.now.unknown c.args.term.coefficient c.in-Raised.variable c.add-in-Raised.new.self _ t c.add-in-Raised.ensures.constant r f)

pub returns-in-Lowered-clause-value : goal.returns-in-Lowered-clause-value
returns-in-Lowered-clause-value c = λ before free.
    let fits : FitsSigned w32 c.args.term.coefficient = search rules in
    let wide : FitsSigned w128 c.from-in-Lowered.result = search rules in
    let t = simp to_z-of_z at (c.add-in-Lowered.ensures.total (whole before)) in
    rw c.in-Lowered.is (lowered_value before free c.args.self.now.known c.raise-in-Lowered.new.self c.args.self.now.unknown c.args.term.coefficient c.in-Lowered.variable c.add-in-Lowered.new.self _ t c.add-in-Lowered.ensures.constant c.raise-in-Lowered.ensures (omega (arith, ints)))

pub returns-in-Constant-clause-value : goal.returns-in-Constant-clause-value
returns-in-Constant-clause-value c = λ before free.
    let fits : FitsSigned w32 c.args.term.coefficient = search rules in
    rw c.in-Constant.is (constant_value before free c.args.self.now.known c.raise-in-Constant.new.self c.args.self.now.unknown c.args.term.coefficient c.in-Constant.value _ c.raise-in-Constant.ensures (let m = simp to_z-of_z at c.multiple.ensures.value in let wide : FitsSigned w128 c.multiple.result = search rules in rw to_z-of_z m))

pub returns-in-Unknown-clause-value : goal.returns-in-Unknown-clause-value
returns-in-Unknown-clause-value c = λ before free.
    let t = c.add-in-Unknown.ensures.total (whole free) in
    rw c.in-Unknown.is (unknown_value before free c.args.self.now.unknown c.add-in-Unknown.new.self c.args.self.now.known c.args.term.coefficient c.args.term.variable t c.add-in-Unknown.ensures.constant)

pub returns-in-Constant-clause-room : goal.returns-in-Constant-clause-room
returns-in-Constant-clause-room c =
    let fits : FitsSigned w32 c.args.term.coefficient = search rules in
    let wide : FitsSigned w128 c.multiple.result = search rules in
    let m = simp to_z-of_z at c.multiple.ensures.value in
    constant_room c.args.self.now c.raise-in-Constant.new.self c.args.term.coefficient _ c.in-Constant.value c.requires.small (search rules) c.raise-in-Constant.ensures (rw to_z-of_z m)
