use Rattle.std.proofs.Common.{ℤ, ap, ◌∙◌, ◌≡◌, ◌*ℤ◌, ◌+◌, rules, arith, FitsSigned, to_z, of_z}
use Rattle.std.specs.Int.{w32, w128}
use Rattle.std.proofs.lemmas.Int.{to_z-of_z}
use Rattle.linear_sums.proofs.SumLemmas.{made_wider, with_one_more, with_none}
use Rattle.linear_sums.proofs.sum.Sum.add_terms.Goals as goal

pub loop-term-init : goal.loop-term-init
loop-term-init c =
    record {
      exact = with_none c.args.self.now (to_z w32 (of_z w32 c.args.factor));
      room = λ count h. made_wider c.args.self.now count (count + 0) (omega arith) h;
    }

pub push-requires-clause-room : goal.push-requires-clause-room
push-requires-clause-room c =
    made_wider c.loop-term.self (29 + c.loop-term.term-index) 31 (omega arith) (c.loop-term.invariant.room 29 c.requires.room)

pub loop-term-preserved : goal.loop-term-preserved
loop-term-preserved c =
    let t = c.term-item.result in
    let f1 : FitsSigned w32 c.args.factor = search rules in
    let f2 : FitsSigned w32 t.coefficient = search rules in
    let f3 : FitsSigned w128 c.times.result = search rules in
    let f4 : FitsSigned w128 c.from.result = search rules in
    let f5 : FitsSigned w128 c.from-in-loop-term.result = search rules in
    let sum = simp to_z-of_z at c.times.ensures.value in
    let first = simp to_z-of_z at c.from.ensures in
    let second = simp to_z-of_z at c.from-in-loop-term.ensures in
    let product : c.times.result ≡ c.args.factor *ℤ t.coefficient = sum ∙ ap (λ (z : ℤ). z *ℤ c.from-in-loop-term.result) first ∙ ap (λ (z : ℤ). c.args.factor *ℤ z) second in
    let before = simp to_z-of_z at c.loop-term.invariant.exact in
    let pushed = simp to_z-of_z at c.push.ensures.exact in
    record {
      exact = simp to_z-of_z (with_one_more c.args.self.now c.loop-term.self c.push.new.self c.args.factor c.args.terms.now c.loop-term.term-index t c.times.result before c.loop-term-test.true c.term-item.is product pushed);
      room = λ count h. made_wider c.push.new.self (count + c.loop-term.term-index + 1) (count + (c.loop-term.term-index + 1)) (omega arith) (c.push.ensures.room (count + c.loop-term.term-index) (c.loop-term.invariant.room count h));
    }

pub returns-clause-room : goal.returns-clause-room
returns-clause-room c = λ count h.
    made_wider c.loop-term.self (count + c.loop-term.term-index) (count + 3) (omega arith) (c.loop-term.invariant.room count h)
