use Rattle.std.proofs.Common.{◌++◌, length, take}
use Rattle.std.specs.List.{flat_map}
use Rattle.std.specs.Str.{chars}
use Rattle.command_verdicts.specs.Gathered.{Gathered}
use Rattle.command_verdicts.specs.WriterRefusals.{escaped_char}
use Rattle.command_verdicts.proofs.escapes.gather_escaped.Given as goal

-- the characters before this one were gathered, escaped
abbrev pub invariant-loop-character : goal.invariant-loop-character
invariant-loop-character g l =
    Gathered (g.W.Sink.state l.fn.out) (l.fn.gathered ++ flat_map escaped_char (take (length l.yielded) (chars l.text))) (g.W.Sink.state l.out) l.gathered
