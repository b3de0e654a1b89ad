use Rattle.std.proofs.Common.{subst}
use Rattle.std.proofs.lemmas.Result.{err_from_is_err_and}
use Rattle.cert_form.specs.Contents.{CertificateView}
use Rattle.cert_form.specs.Text.{head_lines}
use Rattle.cert_contents.specs.Parts.{TakesLines}
use Rattle.cert_contents.proofs.PartsLemmas.{stops_before, stops_first, stops_then, takes_head}
use Rattle.cert_contents.proofs.reader.Reader.take_head.Goals as goal

pub returns-in_err-take-2 : goal.returns-in_err-take-2
returns-in_err-take-2 c =
    let p = err_from_is_err_and c.from_residual-in_err-take-2.result c.from_residual-in_err-take-2.ensures.1 in
    let header = c.in_ok-take.ensures.line in
    rw (p.1, p.2, ← c.parts.view_is)
    (stops_then _ c.take.new.self _ _ _ header.0 (stops_first (Unit {0}) _ c.take-2.new.self _ _ _ header.1 c.in_err-take-2.ensures.line))

pub returns-in_err-take_board_lines : goal.returns-in_err-take_board_lines
returns-in_err-take_board_lines c =
    let p = err_from_is_err_and c.from_residual-in_err-take_board_lines.result c.from_residual-in_err-take_board_lines.ensures.1 in
    let header = c.in_ok-take.ensures.line in
    let rom = c.in_ok-take-2.ensures.line in
    rw (p.1, p.2, ← c.parts.view_is)
    (stops_then _ c.take.new.self _ _ _ header.0 (stops_then _ c.take-2.new.self _ _ _ rom.0 (stops_before _ _ _ _ c.in_err-take_board_lines.ensures)))

pub returns-in_err-take-3 : goal.returns-in_err-take-3
returns-in_err-take-3 c =
    let p = err_from_is_err_and c.from_residual-in_err-take-3.result c.from_residual-in_err-take-3.ensures.1 in
    let header = c.in_ok-take.ensures.line in
    let rom = c.in_ok-take-2.ensures.line in
    let board = c.in_ok-take_board_lines.ensures in
    rw (p.1, p.2, ← c.parts.view_is)
    (stops_then _ c.take.new.self _ _ _ header.0 (stops_then _ c.take-2.new.self _ _ _ rom.0
    (stops_then _ c.take_board_lines.new.self _ _ _ board.0 (stops_first (Unit {0}) _ c.take-3.new.self _ _ _ board.1 c.in_err-take-3.ensures.line))))

pub returns : goal.returns
returns c =
    let head = c.parts.inside in
    let stack = c.in_ok-take-3.ensures.line in
    subst (λ (parts : CertificateView). TakesLines c.args.self.now (head_lines parts) c.take-4.result c.take-4.new.self) c.parts.view_is
    (takes_head (Unit {0}) c.args.self.now c.take.new.self c.take-2.new.self c.take_board_lines.new.self c.take-3.new.self
    c.take-4.new.self head.version head.rom_len head.board head.region head.budget c.take-4.result c.in_ok-take.ensures.line.0
    c.in_ok-take-2.ensures.line.0 c.in_ok-take_board_lines.ensures.0 stack.0 stack.1 c.take-4.ensures.line)
