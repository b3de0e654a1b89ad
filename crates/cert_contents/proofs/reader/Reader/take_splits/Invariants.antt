use Rattle.std.proofs.Common.{◌≡◌, ◌++◌, map, take}
use Rattle.cert_lines.specs.declared.line.Line.TheVariants as lines
use Rattle.cert_form.specs.Reader.{IsProgress, lines_read}
use Rattle.cert_contents.proofs.reader.Reader.take_splits.Given as goal

-- the splits so far were read
abbrev pub invariant-loop-split : goal.invariant-loop-split
invariant-loop-split l = record {
  read : lines_read l.self ≡ lines_read l.fn.self ++ map lines.Split (take l.split-index l.splits);
  form : IsProgress l.self;
}
