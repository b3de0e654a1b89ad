use Rattle.std.proofs.Common.{◌≡◌, ◌<◌, ◌^◌, ◌-ℤ◌, bit_and, IsTrue, rules}
use Rattle.std.specs.Int.{bit_not, w64}
use Rattle.loop_bounds.specs.Variable.{rank_of}
use Rattle.affine.specs.Space.{coordinate_at}
use Rattle.tracked_variables.specs.Vector.{entry_at}
use Rattle.affine.proofs.Masks.{bit_within}
use Rattle.affine.proofs.SpanLemmas.{spanned_same, covering}
use Rattle.affine.proofs.space.Space.covers.Goals as goal

pub returns-then-spans : goal.returns-then-spans
returns-then-spans c = λ yes x on.
    let s = c.args.self.now in
    let other = c.args.other.now in
    let fits : other.known < 2 ^ 64 = search rules in
    let apart : bit_and s.known (bit_not w64 other.known) ≡ 0 = c.if-self-other-ne0.false in
    let d = c.in-Some.difference in
    let spanned : IsTrue c.spans.result = search rules in
    let difference = spanned_same s (λ v. entry_at d (rank_of v)) (λ v. coordinate_at other (rank_of v) -ℤ coordinate_at s (rank_of v)) (λ v k. c.in-Some.ensures (rank_of v) k.0) (c.spans.ensures spanned) in
    covering s other (λ v k. (k.0, bit_within s.known other.known (rank_of v) fits k.0 apart k.1)) (c.spans_directions.ensures yes) difference x on
