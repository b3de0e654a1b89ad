use Rattle.std.proofs.Common.{◌≡◌, refl, ◌∙◌, rules}
use Rattle.command_verdicts.specs.WriterRefusals.{escaped_char}
use Rattle.command_verdicts.proofs.escapes.escape.Goals as goal

pub returns-in-8 : goal.returns-in-8
returns-in-8 c = c.add.ensures.value ∙ rw (c.new-line.ensures, c.in-8.is) refl

pub returns-in-9 : goal.returns-in-9
returns-in-9 c = c.add-in-9.ensures.value ∙ rw (c.new-line.ensures, c.in-9.is) refl

pub returns-in-10 : goal.returns-in-10
returns-in-10 c = c.add-in-10.ensures.value ∙ rw (c.new-line.ensures, c.in-10.is) refl

pub returns-in-12 : goal.returns-in-12
returns-in-12 c = c.add-in-12.ensures.value ∙ rw (c.new-line.ensures, c.in-12.is) refl

pub returns-in-13 : goal.returns-in-13
returns-in-13 c = c.add-in-13.ensures.value ∙ rw (c.new-line.ensures, c.in-13.is) refl

pub returns-in_default : goal.returns-in_default
returns-in_default c = search rules

pub returns-in_default-2 : goal.returns-in_default-2
returns-in_default-2 c = search rules
