use Rattle.std.proofs.Common.{◌≡◌, ◌≢◌, rules, FitsSigned}
use Rattle.std.specs.Int.{w32}
use Rattle.std.proofs.lemmas.Int.{to_z-of_z}
use Rattle.loop_bounds.proofs.ApartLemmas.{apart_none, apart_here, apart_other, longer_linear, apart_all}
use Rattle.loop_bounds.proofs.linear.Linear.apart.Goals as goal
use Rattle.loop_bounds.proofs.linear.Linear.apart.Goals.{then-eq, else-eq}

pub loop-term-init : goal.loop-term-init
loop-term-init c = rw c.without_terms-rest.ensures (apart_none c.args.self.now c.args.variable c.terms-term-items.ensures.linear)

pub longer-rest-requires : goal.longer-rest-requires
longer-rest-requires c =
    let terms = c.terms-term-items.ensures.value in
    longer_linear c.args.self.now c.args.variable c.loop-term.term-index c.loop-term.rest _ c.term-item.result c.terms-term-items.ensures.linear
    c.loop-term.invariant (rw terms at c.loop-term-test.true) (rw terms at c.term-item.is)

pub loop-term-preserved : goal.loop-term-preserved
loop-term-preserved c =
    let terms = c.terms-term-items.ensures.value in
    let linear = c.terms-term-items.ensures.linear in
    let inside = rw terms at c.loop-term-test.true in
    let here = rw terms at c.term-item.is in
    elim c.if-eq.branch [
      | then-eq w ↦
          let same : c.term-item.result.variable ≡ c.args.variable = search rules in
          let fits : FitsSigned w32 c.term-item.result.coefficient = search rules in
          let is = simp to_z-of_z at w.coefficient-is in
          rw (is, w.rest-is) (apart_here c.args.self.now c.args.variable c.loop-term.term-index c.loop-term.rest _ c.term-item.result linear c.loop-term.invariant inside here same)
      | else-eq w ↦
          let other : c.term-item.result.variable ≢ c.args.variable = search rules in
          rw (w.coefficient-is, w.rest-is, w.longer-rest.ensures) (apart_other c.args.self.now c.args.variable c.loop-term.term-index c.loop-term.rest _ c.term-item.result linear c.loop-term.invariant inside here other)
    ]

pub returns-clause-value : goal.returns-clause-value
returns-clause-value c = λ x.
    apart_all c.args.self.now c.args.variable c.loop-term.term-index c.loop-term.rest _ c.loop-term.invariant (rw c.terms-term-items.ensures.value at c.loop-term-test.false) x

pub returns-clause-absent : goal.returns-clause-absent
returns-clause-absent c = c.loop-term.invariant.absent

pub returns-clause-size : goal.returns-clause-size
returns-clause-size c = c.loop-term.invariant.size
