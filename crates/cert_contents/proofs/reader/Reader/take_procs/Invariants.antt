use Rattle.std.proofs.Common.{◌≡◌, ◌++◌, map, take}
use Rattle.cert_lines.specs.declared.line.Line.TheVariants as lines
use Rattle.cert_form.specs.Reader.{IsProgress, lines_read}
use Rattle.cert_contents.proofs.reader.Reader.take_procs.Given as goal

-- the procedures so far were read
abbrev pub invariant-loop-proc : goal.invariant-loop-proc
invariant-loop-proc l = record {
  read : lines_read l.self ≡ lines_read l.fn.self ++ map lines.Proc (take l.proc-index l.procs);
  form : IsProgress l.self;
}
