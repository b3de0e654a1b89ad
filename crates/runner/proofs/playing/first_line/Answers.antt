use Rattle.std.proofs.Common.{◌⊎◌, None, refl}
use Rattle.texts.specs.Incoming.{IsLineTaken, IsTooLong, IsUnended, unread_of}
use Rattle.texts.specs.Numbers.{Reads}
use Rattle.texts.specs.declared.incoming.LineEnd.TheVariants.{Feed, Bad}
use Rattle.texts.proofs.IncomingLemmas.{enough}
use Rattle.runner.specs.Input.{IsResetLine, reset_text}
use Rattle.runner.proofs.FeedLemmas.{no_line, no_line_bad}
use Rattle.runner.proofs.InputLemmas.{no_feed_reset, short_reset}
use Rattle.runner.proofs.playing.first_line.Goals as goal

pub returns-in-None-clause-line : goal.returns-in-None-clause-line
returns-in-None-clause-line g c =
    let old = unread_of c.args.incoming.now (g.R.Source.state c.args.input.now) in
    let new = unread_of c.next_line.new.self (g.R.Source.state c.next_line.new.input) in
    let text = c.next_line.new.line.items in
    let line : IsLineTaken 30 old text new = rw c.in-Ok-Feed.field-0-is at c.in-Ok-Feed.ensures.line in
    let none : Reads reset_text IsResetLine text None = rw c.as_slice.ensures.value at c.in-None.ensures in
    (refl, no_line reset_text IsResetLine no_feed_reset old new text line none, enough 30 old new text Feed line)

pub returns-in-Ok-Bad-clause-line : goal.returns-in-Ok-Bad-clause-line
returns-in-Ok-Bad-clause-line g c =
    let old = unread_of c.args.incoming.now (g.R.Source.state c.args.input.now) in
    let new = unread_of c.next_line.new.self (g.R.Source.state c.next_line.new.input) in
    let bad : IsTooLong 30 old new ⊎ IsUnended 30 old new = rw c.in-Ok-Bad.field-0-is at c.in-Ok-Bad.ensures.line in
    (refl, no_line_bad reset_text IsResetLine short_reset old new bad, enough 30 old new c.next_line.new.line.items Bad bad)
