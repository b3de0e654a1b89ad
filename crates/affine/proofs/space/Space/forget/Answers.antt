use Rattle.std.proofs.Common.{List, [], ℤ, pos, slice_index_or, arith, ap}
use Rattle.std.specs.Int.{w64}
use Rattle.std.proofs.lemmas.List.{get_or-set_other}
use Rattle.std.proofs.lemmas.Nat.Bits.{bit_at_clear_same, bit_at_clear_other}
use Rattle.affine.proofs.space.Space.forget.Goals as goal

pub returns-clause-unknown : goal.returns-clause-unknown
returns-clause-unknown c = λ k.
    let clear = bit_at_clear_same w64 c.args.self.now.known c.args.rank (omega arith) in
    absurd (omega (arith, clear, k.1))

pub returns-clause-others : goal.returns-clause-others
returns-clause-others c = λ r low other. record {
  known = bit_at_clear_other w64 c.args.self.now.known c.args.rank (omega arith) r (omega arith) other;
  coordinate = get_or-set_other c.args.self.now.point c.args.rank r _ _ other;
  column = λ i. ap (λ (col : List ℤ). slice_index_or col i (pos 0)) (get_or-set_other c.args.self.now.columns c.args.rank r _ [] other);
}
