use Rattle.std.proofs.Common.{◌≡◌, ◌++◌, map, take}
use Rattle.cert_lines.specs.declared.line.Line.TheVariants as lines
use Rattle.cert_form.specs.Reader.{IsProgress, lines_read}
use Rattle.cert_contents.proofs.reader.Reader.take_inlines.Given as goal

-- the inline calls so far were read
abbrev pub invariant-loop-inline : goal.invariant-loop-inline
invariant-loop-inline l = record {
  read : lines_read l.self ≡ lines_read l.fn.self ++ map lines.Inline (take l.inline-index l.inlines);
  form : IsProgress l.self;
}
