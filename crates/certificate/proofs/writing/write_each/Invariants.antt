use Rattle.std.proofs.Common.{ℕ, List, take}
use Rattle.std.specs.List.{flat_map}
use Rattle.texts.specs.Device.{Takes}
use Rattle.certificate.specs.Writing.{GivesTexts}
use Rattle.certificate.proofs.writing.write_each.Given as goal

-- the lines of the elements before this one were written
abbrev pub invariant-loop-item : goal.invariant-loop-item
invariant-loop-item g l =
    (text : g.row.T.Denot → List ℕ) → GivesTexts g.F.Fn l.line_of text →
    Takes (g.W.Sink.state l.fn.out) (flat_map text (take l.item-index l.items)) (g.W.Sink.state l.out)
