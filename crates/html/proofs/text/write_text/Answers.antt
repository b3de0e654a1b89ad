use Rattle.std.proofs.Common.{arith, get_or, length, subst, sym, take, ap, ◌∙◌}
use Rattle.std.specs.List.{flat_map}
use Rattle.std.proofs.lemmas.Iterator.Consumers.{YieldsList-end, YieldsList-from_first, YieldsList-turn}
use Rattle.std.proofs.lemmas.List.{length_push, take_all}
use Rattle.std.proofs.lemmas.Option.{slice_get-get_or}
use Rattle.std.proofs.lemmas.Result.{err_from_is_err_and}
use Rattle.bstr.specs.Utf8.{lossy_chars}
use Rattle.texts.specs.Device.{Takes}
use Rattle.html.specs.Markup.{html_char}
use Rattle.html.proofs.PutLemmas.{fails_at, takes_more, takes_none}
use Rattle.html.proofs.text.write_text.Goals as goal

pub loop-character-init : goal.loop-character-init
loop-character-init g c = takes_none (g.W.Sink.state c.args.out.now)

pub loop-character-preserved : goal.loop-character-preserved
loop-character-preserved g c =
    let all = lossy_chars c.args.text.now in
    let index = length c.loop-character.yielded in
    let turn = YieldsList-turn (YieldsList-from_first (λ x. x) (λ rest. rest) all cc) c.loop-character.yielded _ c.loop-character.yielded_by _ _ c.in-Some.character
    c.in-Some.is c.next.ensures.steps in
    subst (λ n. Takes (g.W.Sink.state c.args.out.now) (flat_map html_char (take n all)) (g.W.Sink.state c.put.new.out))
    (sym (length_push c.loop-character.yielded c.in-Some.character))
    (takes_more html_char all index (get_or all index c.in-Some.character) _ _ _ _ (slice_get-get_or all index c.in-Some.character turn.0)
    (c.as_slice.ensures.value ∙ c.html_char.ensures ∙ ap html_char turn.1) c.loop-character.invariant c.in_ok-put.ensures)

pub returns-in_err-put : goal.returns-in_err-put
returns-in_err-put g c =
    let p = err_from_is_err_and c.from_residual.result c.from_residual.ensures.1 in
    let all = lossy_chars c.args.text.now in
    let index = length c.loop-character.yielded in
    let turn = YieldsList-turn (YieldsList-from_first (λ x. x) (λ rest. rest) all cc) c.loop-character.yielded _ c.loop-character.yielded_by _ _ c.in-Some.character
    c.in-Some.is c.next.ensures.steps in
    rw p.1
    (fails_at html_char all index (get_or all index c.in-Some.character) _ _ _ _ (slice_get-get_or all index c.in-Some.character turn.0)
    (c.as_slice.ensures.value ∙ c.html_char.ensures ∙ ap html_char turn.1) c.loop-character.invariant c.in_err-put.ensures)

pub returns : goal.returns
returns g c =
    let all = lossy_chars c.args.text.now in
    let turn = YieldsList-end (YieldsList-from_first (λ x. x) (λ rest. rest) all cc) c.loop-character.yielded _ c.loop-character.yielded_by _ _ c.in-None.is c.next.ensures.steps in
    subst (λ xs. Takes (g.W.Sink.state c.args.out.now) (flat_map html_char xs) (g.W.Sink.state c.loop-character.out))
    (take_all (length c.loop-character.yielded) all (omega (arith, turn.1))) c.loop-character.invariant
