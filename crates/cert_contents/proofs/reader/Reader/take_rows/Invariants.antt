use Rattle.std.proofs.Common.{◌≡◌, ◌++◌, map}
use Rattle.cert_lines.specs.declared.line.Line.TheVariants as lines
use Rattle.cert_form.specs.Reader.{IsProgress, lines_read}
use Rattle.cert_contents.proofs.reader.Reader.take_rows.Given as goal

-- the rows so far were read
abbrev pub invariant-loop-row : goal.invariant-loop-row
invariant-loop-row l = record {
  left : l.fn.rows.items ≡ l.yielded ++ l.row-iterator.rest.items;
  read : lines_read l.self ≡ lines_read l.fn.self ++ map lines.Row l.yielded;
  form : IsProgress l.self;
}
