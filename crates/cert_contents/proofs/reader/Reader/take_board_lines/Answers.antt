use Rattle.std.proofs.Common.{sym, ◌∙◌, append-nil}
use Rattle.cert_lines.specs.declared.line.Line.TheVariants as lines
use Rattle.cert_form.proofs.Order.{named_board}
use Rattle.cert_form.specs.Reader.{lines_read}
use Rattle.cert_contents.proofs.BoardLemmas.{no_board_line, raised_board_line}
use Rattle.cert_contents.proofs.PartsLemmas.{takes_one}
use Rattle.cert_contents.proofs.reader.Reader.take_board_lines.Goals as goal

pub returns-then-names_board : goal.returns-then-names_board
returns-then-names_board c =
    rw (named_board c.args.version c.args.board (sym c.names_board.ensures ∙ c.if-names_board.true))
    (takes_one (Unit {0}) c.args.self.now c.take.new.self (lines.Board c.args.board) c.take.result c.requires c.take.ensures.line)

pub returns-in-Galaxian : goal.returns-in-Galaxian
returns-in-Galaxian c =
    rw (no_board_line c.args.version c.args.board (sym c.names_board.ensures ∙ c.if-names_board.false) c.in-Galaxian.is)
    (sym (append-nil (lines_read c.args.self.now)), c.requires)

pub returns-in-Raised : goal.returns-in-Raised
returns-in-Raised c =
    rw (raised_board_line c.args.version c.args.board c.in-Raised.is)
    (takes_one (Unit {0}) c.args.self.now c.take-in-Raised.new.self (lines.Board c.args.board) c.take-in-Raised.result c.requires c.take-in-Raised.ensures.line)
