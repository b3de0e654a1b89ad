use Rattle.std.proofs.Common.{◌∷◌, [], ◌++◌}
use Rattle.std.proofs.lemmas.Result.{err_from_is_err_and}
use Rattle.cert_lines.specs.declared.line.Line.TheVariants as lines
use Rattle.cert_form.specs.Text.{head_lines, list_lines}
use Rattle.cert_contents.proofs.PartsLemmas.{stops_before, stops_then, takes_one, takes_then}
use Rattle.cert_contents.proofs.reader.Reader.take_parts.Goals as goal

pub returns-in_err-take_head : goal.returns-in_err-take_head
returns-in_err-take_head c =
    let p = err_from_is_err_and c.from_residual.result c.from_residual.ensures.1 in
    let parts = c.args.parts in
    rw (p.1, p.2) (stops_before _ (head_lines parts) (list_lines parts ++ lines.End ∷ []) _ c.in_err-take_head.ensures)

pub returns-in_err-take_lists : goal.returns-in_err-take_lists
returns-in_err-take_lists c =
    let p = err_from_is_err_and c.from_residual-in_err-take_lists.result c.from_residual-in_err-take_lists.ensures.1 in
    let parts = c.args.parts in
    rw (p.1, p.2)
    (stops_then _ c.take_head.new.self (head_lines parts) (list_lines parts ++ lines.End ∷ []) _ c.in_ok-take_head.ensures.0
    (stops_before _ (list_lines parts) (lines.End ∷ []) _ c.in_err-take_lists.ensures))

pub returns : goal.returns
returns c =
    let parts = c.args.parts in
    let lists = c.in_ok-take_lists.ensures in
    takes_then (Unit {0}) c.args.self.now c.take_head.new.self c.take.new.self (head_lines parts) (list_lines parts ++ lines.End ∷ [])
    c.take.result c.in_ok-take_head.ensures.0
    (takes_then (Unit {0}) c.take_head.new.self c.take_lists.new.self c.take.new.self (list_lines parts) (lines.End ∷ []) c.take.result
    lists.0 (takes_one (Unit {0}) c.take_lists.new.self c.take.new.self lines.End c.take.result lists.1 c.take.ensures.line))
