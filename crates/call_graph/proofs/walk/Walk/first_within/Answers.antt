use Rattle.std.proofs.Common.{rules, ◌≡◌, length, below_more, refl}
use Rattle.std.proofs.lemmas.Bool.{both_ways}
use Rattle.call_graph.specs.Walk.{IsInGroup}
use Rattle.call_graph.proofs.walk.Walk.first_within.Goals as goal

pub returns-then-is_within-clause-some : goal.returns-then-is_within-clause-some
returns-then-is_within-clause-some c =
    let within : IsInGroup c.args.calls.now c.args.self.now.marks.items c.loop-edge.edge-index = (rw c.deref.ensures.value at c.is_within.ensures.0) c.if-is_within.true in
    (c.loop-edge.edge-index, c.loop-edge-test.true, refl, within, c.loop-edge.invariant)

pub loop-edge-preserved : goal.loop-edge-preserved
loop-edge-preserved c = below_more (λ j. IsInGroup c.args.calls.now c.args.self.now.marks.items j → ⊥) c.loop-edge.edge-index c.loop-edge.invariant
    (λ within. both_ways c.is_within.result c.if-is_within.false ((rw c.deref.ensures.value at c.is_within.ensures.1) within))

pub returns-clause-none : goal.returns-clause-none
returns-clause-none c =
    let all : length c.args.calls.now ≡ c.loop-edge.edge-index = search rules in
    rw all c.loop-edge.invariant
