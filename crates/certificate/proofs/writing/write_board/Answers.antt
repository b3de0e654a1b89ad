use Rattle.std.proofs.Common.{ap, subst, sym, ◌∙◌}
use Rattle.cert_lines.specs.Line.{fed_line}
use Rattle.cert_lines.specs.Version.{names_board}
use Rattle.cert_lines.specs.declared.line.Line.TheVariants as lines
use Rattle.cert_lines.specs.declared.version.Version.TheVariants.{Two}
use Rattle.cert_form.specs.Text.{text_of_lines}
use Rattle.cert_form.proofs.Order.{named_board}
use Rattle.texts.specs.Device.{Puts, Takes}
use Rattle.certificate.proofs.WritingLemmas.{no_board_line, puts_line, puts_nothing, same_text}
use Rattle.certificate.proofs.writing.write_board.Goals as goal

pub returns-then-names_board : goal.returns-then-names_board
returns-then-names_board g c =
    let certificate = c.args.certificate.now in
    let line = lines.Board certificate.board in
    let old = g.W.Sink.state c.args.out.now in
    let new = g.W.Sink.state c.put.new.out in
    let named = ap names_board (sym c.version.ensures) ∙ sym c.names_board.ensures ∙ c.if-names_board.true in
    subst (λ ls. Puts old (text_of_lines certificate.version ls) c.put.result new)
    (sym (named_board certificate.version certificate.board named))
    (puts_line certificate.version old new line c.bytes.result.now c.put.result
    (c.bytes.ensures.value ∙ c.board_line.ensures ∙ ap (λ b. fed_line Two (lines.Board b)) c.board.ensures
    ∙ same_text Two certificate.version line tt) c.put.ensures)

pub returns-else-names_board : goal.returns-else-names_board
returns-else-names_board g c =
    let certificate = c.args.certificate.now in
    let state = g.W.Sink.state c.args.out.now in
    let other = ap names_board (sym c.version.ensures) ∙ sym c.names_board.ensures ∙ c.if-names_board.false in
    let none = no_board_line certificate.version certificate c.is_in_form.ensures.certificate.version other in
    subst (λ ls. Takes state (text_of_lines certificate.version ls) state) none (puts_nothing certificate.version state)
