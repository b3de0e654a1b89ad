use Rattle.std.proofs.Common.{length, take}
use Rattle.std.specs.List.{flat_map}
use Rattle.bstr.specs.Utf8.{lossy_chars}
use Rattle.texts.specs.Device.{Takes}
use Rattle.html.specs.Markup.{html_char}
use Rattle.html.proofs.text.write_text.Given as goal

-- the characters before this one were written
abbrev pub invariant-loop-character : goal.invariant-loop-character
invariant-loop-character g l =
    Takes (g.W.Sink.state l.fn.out) (flat_map html_char (take (length l.yielded) (lossy_chars l.fn.text))) (g.W.Sink.state l.out)
