use Rattle.std.proofs.lemmas.Result.{err_from_is_err_and}
use Rattle.certificate.proofs.WritingLemmas.{lines_fail, lines_then, lines_then_fail}
use Rattle.certificate.proofs.writing.write_head.Goals as goal

pub returns-in_err-write_header : goal.returns-in_err-write_header
returns-in_err-write_header g c =
    let p = err_from_is_err_and c.from_residual.result c.from_residual.ensures.1 in
    rw p.1 (lines_fail _ _ _ _ _ c.in_err-write_header.ensures)

pub returns-in_err-write_rom : goal.returns-in_err-write_rom
returns-in_err-write_rom g c =
    let p = err_from_is_err_and c.from_residual-in_err-write_rom.result c.from_residual-in_err-write_rom.ensures.1 in
    rw p.1
    (lines_then_fail _ _ _ _ _ _ c.in_ok-write_header.ensures
    (lines_fail _ _ _ _ _ c.in_err-write_rom.ensures))

pub returns-in_err-write_board : goal.returns-in_err-write_board
returns-in_err-write_board g c =
    let p = err_from_is_err_and c.from_residual-in_err-write_board.result c.from_residual-in_err-write_board.ensures.1 in
    rw p.1
    (lines_then_fail _ _ _ _ _ _ c.in_ok-write_header.ensures
    (lines_then_fail _ _ _ _ _ _ c.in_ok-write_rom.ensures
    (lines_fail _ _ _ _ _ c.in_err-write_board.ensures)))

pub returns-in_err-write_stack : goal.returns-in_err-write_stack
returns-in_err-write_stack g c =
    let p = err_from_is_err_and c.from_residual-in_err-write_stack.result c.from_residual-in_err-write_stack.ensures.1 in
    rw p.1
    (lines_then_fail _ _ _ _ _ _ c.in_ok-write_header.ensures
    (lines_then_fail _ _ _ _ _ _ c.in_ok-write_rom.ensures
    (lines_then_fail _ _ _ _ _ _ c.in_ok-write_board.ensures
    (lines_fail _ _ _ _ _ c.in_err-write_stack.ensures))))

pub returns : goal.returns
returns g c =
    lines_then _ _ _ _ _ _ _ c.in_ok-write_header.ensures
    (lines_then _ _ _ _ _ _ _ c.in_ok-write_rom.ensures
    (lines_then _ _ _ _ _ _ _ c.in_ok-write_board.ensures
    (lines_then _ _ _ _ _ _ _ c.in_ok-write_stack.ensures c.write_budget.ensures)))
