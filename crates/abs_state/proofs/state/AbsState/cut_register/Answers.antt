use Rattle.std.proofs.Common.{◌≡◌, sym, ◌∙◌, subst, Option, Some, None}
use Rattle.std.specs.Prelude.{MatchBool}
use Rattle.intervals.specs.Range.{intersection}
use Rattle.abs_state.specs.Registers.{byte_of}
use Rattle.abs_state.specs.declared.state.AbsState.{AbsState}
use Rattle.abs_state.proofs.Told.{cut_byte_twice}
use Rattle.abs_state.proofs.state.AbsState.cut_register.Goals as goal

pub returns-in-Some-clause-exact : goal.returns-in-Some-clause-exact
returns-in-Some-clause-exact c =
    let left : intersection (byte_of c.args.register c.args.self.now.pairs) c.args.to ≡ Some c.in-Some.bytes = rw (← c.byte.ensures.exact) (sym c.shared_bytes.ensures ∙ c.in-Some.is) in
    subst (λ (o : Option AbsState). MatchBool c.cut_byte.result (o ≡ Some c.cut_byte.new.self) (o ≡ None))
    (cut_byte_twice c.args.register c.args.self.now c.args.to c.in-Some.bytes left) c.cut_byte.ensures.exact
