use Rattle.std.proofs.Common.{take}
use Rattle.std.specs.List.{flat_map}
use Rattle.cert_lines.specs.Line.{fed_line}
use Rattle.cert_lines.specs.declared.line.Line.TheVariants as lines
use Rattle.texts.specs.Device.{Takes}
use Rattle.certificate.proofs.writing.write_rows.Given as goal

-- the rows before this one were written
abbrev pub invariant-loop-id : goal.invariant-loop-id
invariant-loop-id g l =
    Takes (g.W.Sink.state l.fn.out) (flat_map (λ row. fed_line l.certificate.version (lines.Row row)) (take l.id l.certificate.rows))
    (g.W.Sink.state l.out)
