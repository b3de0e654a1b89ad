use Rattle.std.proofs.Common.{◌≡◌, ℕ, ◌+ℤ◌, rules, subst}
use Rattle.loop_bounds.specs.Variable.{rank_of}
use Rattle.affine.specs.Space.{KnowsAt, coordinate_at, coefficient_at}
use Rattle.affine.specs.Step.{IsMoved}
use Rattle.affine.proofs.space.Space.copy.Goals as goal

pub returns-then-unsigned_abs-le-GREATEST_COORDINATE-clause-taken : goal.returns-then-unsigned_abs-le-GREATEST_COORDINATE-clause-taken
returns-then-unsigned_abs-le-GREATEST_COORDINATE-clause-taken c = λ _.
    let from = c.args.from.now in
    let new = c.set.new.self in
    let source = c.from-source.result in
    let same : source ≡ rank_of c.args.source = search rules in
    let known : KnowsAt from source = search rules in
    let sum : coordinate_at new c.args.rank ≡ coordinate_at from source +ℤ c.args.by = search rules in
    let column : (i : ℕ) → coefficient_at new c.args.rank i ≡ coefficient_at from source i = search rules in
    let moved : IsMoved from new c.args.rank source c.args.by = record { known = known; coordinate = sum; column = column } in
    subst (λ (r : ℕ). IsMoved from new c.args.rank r c.args.by) same moved
