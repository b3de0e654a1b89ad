use Rattle.std.proofs.Common.{◌≡◌, ◌+◌, ◌++◌, arith, get_or, length, subst, sym, take, ap, ◌∙◌}
use Rattle.std.specs.List.{flat_map}
use Rattle.std.specs.Str.{chars}
use Rattle.std.proofs.lemmas.Iterator.{YieldsList-from_chars}
use Rattle.std.proofs.lemmas.Iterator.Consumers.{YieldsList-end, YieldsList-turn}
use Rattle.std.proofs.lemmas.List.{length_push, take_all}
use Rattle.std.proofs.lemmas.Option.{slice_get-get_or}
use Rattle.std.proofs.lemmas.Result.{err_from_is_err_and}
use Rattle.command_verdicts.specs.Gathered.{Gathered}
use Rattle.command_verdicts.specs.WriterRefusals.{escaped_char}
use Rattle.command_verdicts.proofs.GatheringLemmas.{fails_at_more, gathered_more, gathered_nothing}
use Rattle.command_verdicts.proofs.escapes.gather_escaped.Goals as goal

pub loop-character-init : goal.loop-character-init
loop-character-init g c = gathered_nothing (g.W.Sink.state c.args.out.now) c.args.gathered.now

pub returns-in_err-gather : goal.returns-in_err-gather
returns-in_err-gather g c =
    let p = err_from_is_err_and c.from_residual.result c.from_residual.ensures.1 in
    let all = chars c.args.text.now in
    let index = length c.loop-character.yielded in
    let turn = YieldsList-turn (YieldsList-from_chars c.args.text.now c.utf8.text cc) c.loop-character.yielded _ c.loop-character.yielded_by _ _ c.in-Some.character
    c.in-Some.is c.next.ensures.steps in
    rw p.1
    (fails_at_more escaped_char all index (get_or all index c.in-Some.character) _ _ _ _ _ _ (slice_get-get_or all index c.in-Some.character turn.0)
    (c.escape.ensures ∙ ap escaped_char turn.1) c.loop-character.invariant c.in_err-gather.ensures)

pub loop-character-preserved : goal.loop-character-preserved
loop-character-preserved g c =
    let all = chars c.args.text.now in
    let index = length c.loop-character.yielded in
    let turn = YieldsList-turn (YieldsList-from_chars c.args.text.now c.utf8.text cc) c.loop-character.yielded _ c.loop-character.yielded_by _ _ c.in-Some.character
    c.in-Some.is c.next.ensures.steps in
    subst (λ n. Gathered (g.W.Sink.state c.args.out.now) (c.args.gathered.now ++ flat_map escaped_char (take n all)) (g.W.Sink.state c.gather.new.out) c.gather.new.gathered)
    (sym (length_push c.loop-character.yielded c.in-Some.character))
    (gathered_more escaped_char all index (get_or all index c.in-Some.character) _ _ _ _ _ _ _ (slice_get-get_or all index c.in-Some.character turn.0)
    (c.escape.ensures ∙ ap escaped_char turn.1) c.loop-character.invariant c.in_ok-gather.ensures)

pub returns : goal.returns
returns g c =
    let all = chars c.args.text.now in
    let turn = YieldsList-end (YieldsList-from_chars c.args.text.now c.utf8.text cc) c.loop-character.yielded _ c.loop-character.yielded_by _ _ c.in-None.is c.next.ensures.steps in
    subst (λ xs. Gathered (g.W.Sink.state c.args.out.now) (c.args.gathered.now ++ flat_map escaped_char xs) (g.W.Sink.state c.loop-character.out) c.loop-character.gathered)
    (take_all (length c.loop-character.yielded) all (omega (arith, turn.1))) c.loop-character.invariant
