-- What the answer of a cut says about the change.
use Rattle.std.proofs.Common.{◌≡◌, Bool, true, false, ap, arith, rules, IsTrue, Option, Some, None, IsSomeAnd, Result, Ok, Err}
use Rattle.std.specs.Prelude.{MatchBool, OnOk}
use Rattle.std.proofs.lemmas.Bool.Decides.{nat_tests}
use Rattle.intervals.specs.Pair.{with_high_cut, with_low_cut}
use Rattle.intervals.specs.Range.{RangeView, intersection}
use Rattle.intervals.specs.declared.reg_pair.RegPair.TheVariants.{Af, Bc, De, Hl}
use Rattle.z80_decode.specs.declared.operands.Register8.{Register8}
use Rattle.z80_decode.specs.declared.operands.Register8.TheVariants.{A, B, C, D, E, H, L}
use Rattle.loop_bounds.proofs.TightenLemmas.{kept_some, kept_none}
use Rattle.abs_state.specs.Restricting.{to_range, with_cut_pair, cut_byte}
use Rattle.abs_state.specs.Registers.{byte_of}
use Rattle.abs_state.specs.declared.state.AbsState.{AbsState}

-- something is left, and it is the new state
pub told : {X : Type 0} (result : Bool) (o : Option X) (new : X) (P : X → Type 0) → MatchBool result (o ≡ Some new) (o ≡ None) → IsSomeAnd o P → IsTrue result × P new
told true o new P e h = (search rules, kept_some o new P e h)
told false o new P e h = absurd (kept_none o P e h)

pub on_ok : {X Y : Type 0} (r : Result X Y) (P Q : Type 0) → OnOk r P → (P → Q) → OnOk r Q
on_ok (Ok x) P Q h f = f h
on_ok (Err y) P Q h f = tt

-- a range that was cut already
cut_twice : (a to b : RangeView) → intersection a to ≡ Some b → intersection a b ≡ intersection a to
cut_twice a to b e = grind (arith, nat_tests)

pub cut_byte_twice : (r : Register8) (s : AbsState) (to b : RangeView) → intersection (byte_of r s.pairs) to ≡ Some b → cut_byte r (to_range b) s ≡ cut_byte r (to_range to) s
cut_byte_twice A s to b e = ap (λ cut. with_cut_pair Af (with_high_cut s.pairs.af cut) s) (cut_twice s.pairs.af.high to b e)
cut_byte_twice B s to b e = ap (λ cut. with_cut_pair Bc (with_high_cut s.pairs.bc cut) s) (cut_twice s.pairs.bc.high to b e)
cut_byte_twice C s to b e = ap (λ cut. with_cut_pair Bc (with_low_cut s.pairs.bc cut) s) (cut_twice s.pairs.bc.low to b e)
cut_byte_twice D s to b e = ap (λ cut. with_cut_pair De (with_high_cut s.pairs.de cut) s) (cut_twice s.pairs.de.high to b e)
cut_byte_twice E s to b e = ap (λ cut. with_cut_pair De (with_low_cut s.pairs.de cut) s) (cut_twice s.pairs.de.low to b e)
cut_byte_twice H s to b e = ap (λ cut. with_cut_pair Hl (with_high_cut s.pairs.hl cut) s) (cut_twice s.pairs.hl.high to b e)
cut_byte_twice L s to b e = ap (λ cut. with_cut_pair Hl (with_low_cut s.pairs.hl cut) s) (cut_twice s.pairs.hl.low to b e)
