use Rattle.std.proofs.Common.{◌≡◌, ◌++◌, map, take}
use Rattle.cert_lines.specs.declared.line.Line.TheVariants as lines
use Rattle.cert_form.specs.Reader.{IsProgress, lines_read}
use Rattle.cert_contents.proofs.reader.Reader.take_cells.Given as goal

-- the cells so far were read
abbrev pub invariant-loop-cell : goal.invariant-loop-cell
invariant-loop-cell l = record {
  read : lines_read l.self ≡ lines_read l.fn.self ++ map lines.Cell (take l.cell-index l.cells);
  form : IsProgress l.self;
}
