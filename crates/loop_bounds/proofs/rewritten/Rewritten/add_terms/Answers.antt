use Rattle.std.proofs.Common.{◌+◌, rules, arith, FitsSigned}
use Rattle.std.specs.Int.{w32}
use Rattle.std.proofs.lemmas.Int.{to_z-of_z}
use Rattle.loop_bounds.proofs.RewrittenLemmas.{room_wider, added_more}
use Rattle.loop_bounds.proofs.rewritten.Rewritten.add_terms.Goals as goal

pub add-requires-clause-room : goal.add-requires-clause-room
add-requires-clause-room g c =
    room_wider c.loop-term.self (3 + c.loop-term.term-index) 5 (omega arith) (c.loop-term.invariant.room 3 c.requires.room)

pub loop-term-preserved : goal.loop-term-preserved
loop-term-preserved g c =
    let fits : FitsSigned w32 c.term-item.result.coefficient = search rules in
    let small : FitsSigned w32 c.negated_if.result = search rules in
    let is = simp to_z-of_z at c.negated_if.ensures.value in
    let value = simp to_z-of_z at c.add.ensures.value in
    added_more c.args.self.now c.loop-term.self c.add.new.self (g.S.Ranges.range_of c.args.source.now) c.args.effect.now c.args.negated c.args.terms.now c.loop-term.term-index
    c.term-item.result c.negated_if.result c.constant_before-change.result c.loop-term.invariant c.loop-term-test.true c.term-item.is is (search rules)
    value c.add.ensures.room c.add.ensures.no_unknown

pub returns-clause-room : goal.returns-clause-room
returns-clause-room g c = λ used h.
    room_wider c.loop-term.self (used + c.loop-term.term-index) (used + 3) (omega arith) (c.loop-term.invariant.room used h)
