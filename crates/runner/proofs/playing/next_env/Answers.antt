use Rattle.std.proofs.Common.{◌⊎◌, None, refl}
use Rattle.texts.specs.Incoming.{IsLineTaken, IsTooLong, IsUnended, unread_of}
use Rattle.texts.specs.Numbers.{Reads}
use Rattle.texts.specs.declared.incoming.LineEnd.TheVariants.{Feed, Bad}
use Rattle.texts.proofs.IncomingLemmas.{enough}
use Rattle.runner.specs.Input.{IsEnvLine, env_text}
use Rattle.runner.proofs.FeedLemmas.{both, bad_some, line_some, no_line, no_line_bad}
use Rattle.runner.proofs.InputLemmas.{no_feed_env, short_env}
use Rattle.runner.proofs.playing.next_env.Goals as goal

pub returns-in-None-clause-line : goal.returns-in-None-clause-line
returns-in-None-clause-line g c =
    let old = unread_of c.args.incoming.now (g.R.Source.state c.args.input.now) in
    let new = unread_of c.next_line.new.self (g.R.Source.state c.next_line.new.input) in
    let text = c.next_line.new.line.items in
    let line : IsLineTaken 30 old text new = rw c.in-Ok-Feed.field-0-is at c.in-Ok-Feed.ensures.line in
    let none : Reads env_text IsEnvLine text None = rw c.as_slice.ensures.value at c.in-None.ensures in
    (refl, both (unread_of c.args.incoming.now (g.R.Source.state c.args.input.now)).bytes _ _ (line_some old new text line) (no_line env_text IsEnvLine no_feed_env old new text line none), enough 30 old new text Feed line)

pub returns-in-Ok-Bad-clause-line : goal.returns-in-Ok-Bad-clause-line
returns-in-Ok-Bad-clause-line g c =
    let old = unread_of c.args.incoming.now (g.R.Source.state c.args.input.now) in
    let new = unread_of c.next_line.new.self (g.R.Source.state c.next_line.new.input) in
    let bad : IsTooLong 30 old new ⊎ IsUnended 30 old new = rw c.in-Ok-Bad.field-0-is at c.in-Ok-Bad.ensures.line in
    (refl, both (unread_of c.args.incoming.now (g.R.Source.state c.args.input.now)).bytes _ _ (bad_some old new bad) (no_line_bad env_text IsEnvLine short_env old new bad), enough 30 old new c.next_line.new.line.items Bad bad)
