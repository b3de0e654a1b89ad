use Rattle.std.proofs.Common.{arith, ◌≡◌, sym, ◌∙◌, false, subst, Option, Some, None}
use Rattle.abs_state.specs.Holds.{Holds}
use Rattle.abs_state.specs.declared.state.AbsState.{AbsState}
use Rattle.abs_state.proofs.Told.{told}
use Rattle.abs_state.specs.Pairs.{word_in}
use Rattle.abs_state.specs.CutLaws.{pair_put, word_known}
use Rattle.abs_state.specs.Restricting.{with_cut_pair}
use Rattle.intervals.specs.declared.pair.Pair.{Pair}
use Rattle.std.specs.Prelude.{MatchBool}
use Rattle.std.proofs.lemmas.Bool.{eqb-true}
use Rattle.abs_state.proofs.state.AbsState.restrict_word.Goals as goal

pub returns-then-is-clause-holds : goal.returns-then-is-clause-holds
returns-then-is-clause-holds c cells entry m h e =
    let same : word_in c.args.of m.regs ≡ c.args.word = eqb-true _ _ (sym e ∙ c.if-is.true) in
    told c.put_cut.result _ c.put_cut.new.self (λ (t : AbsState). Holds t cells entry m) c.put_cut.ensures.exact
    (pair_put c.args.self.now cells entry m h c.args.of c.cut_word.result (c.cut_word.ensures.keeps entry _ (c.pair.ensures.holds cells entry m h) (rw c.single.ensures (omega arith))))

pub returns-else-is-clause-holds : goal.returns-else-is-clause-holds
returns-else-is-clause-holds c cells entry m h e =
    told c.put_cut-else-is.result _ c.put_cut-else-is.new.self (λ (t : AbsState). Holds t cells entry m)
    (subst (λ (o : Option Pair). MatchBool c.put_cut-else-is.result (with_cut_pair c.args.of o c.args.self.now ≡ Some c.put_cut-else-is.new.self) (with_cut_pair c.args.of o c.args.self.now ≡ None)) c.without_word.ensures.exact c.put_cut-else-is.ensures.exact)
    (rw c.pair-else-is.ensures.exact (word_known c.args.self.now cells entry m h false c.args.of c.args.word (sym c.if-is.false ∙ e)))
