use Rattle.std.proofs.Common.{◌≡◌, ◌≢◌, ℕ, FitsSigned, IsTrue, rules, slice_index_or, pos, subst}
use Rattle.std.specs.Int.{w32}
use Rattle.std.proofs.lemmas.Int.{to_z-of_z}
use Rattle.loop_bounds.specs.Variable.{rank_of}
use Rattle.affine.specs.Space.{KnowsAt, coefficient_at}
use Rattle.affine.proofs.SpanLemmas.{only_value}
use Rattle.affine.proofs.ValueLemmas.{unknown_varies, moving_varies}
use Rattle.affine.proofs.space.Space.constant.Goals as goal
use Rattle.affine.proofs.space.Space.constant.Goals.{else-knows-via-then-knows+else-not-moves, else-knows-via-else-knows}

pub returns-then-not-moves : goal.returns-then-not-moves
returns-then-not-moves c = λ x on.
    let s = c.args.self.now in
    let rank = c.from-rank.result in
    let same : rank ≡ rank_of c.args.variable = search rules in
    let known : KnowsAt s rank = search rules in
    let fits : FitsSigned w32 (slice_index_or s.point rank (pos 0)) = search rules in
    rw (to_z-of_z w32 (slice_index_or s.point rank (pos 0)) fits) (only_value s c.args.variable rank same known (c.moves.ensures.still known c.if-not-moves.true) x on)

pub returns-else-knows : goal.returns-else-knows
returns-else-knows c =
    let s = c.args.self.now in
    let rank = c.from-rank.result in
    let same : rank ≡ rank_of c.args.variable = search rules in
    elim c.else-knows.branch [
      | else-knows-via-then-knows+else-not-moves w ↦
          let yes : IsTrue w.moves.result = search rules in
          let moved = w.moves.ensures.changed yes in
          moving_varies s c.args.variable moved.0 moved.1 (subst (λ (r : ℕ). coefficient_at s r moved.0 ≢ pos 0) same moved.2)
      | else-knows-via-else-knows w ↦
          let unknown : ¬ KnowsAt s rank = search rules in
          unknown_varies s c.args.variable (subst (λ (r : ℕ). ¬ KnowsAt s r) same unknown)
    ]
