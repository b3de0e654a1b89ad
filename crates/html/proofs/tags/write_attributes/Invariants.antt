use Rattle.std.proofs.Common.{take}
use Rattle.std.specs.List.{flat_map}
use Rattle.texts.specs.Device.{Takes}
use Rattle.html.specs.Markup.{attribute_text}
use Rattle.html.proofs.tags.write_attributes.Given as goal

-- the attributes before this one were written
abbrev pub invariant-loop-attribute : goal.invariant-loop-attribute
invariant-loop-attribute g l =
    Takes (g.W.Sink.state l.fn.out) (flat_map attribute_text (take l.attribute-index l.attributes)) (g.W.Sink.state l.out)
