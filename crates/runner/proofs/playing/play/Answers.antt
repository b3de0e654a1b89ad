use Rattle.std.proofs.Common.{◌≡◌, ◌∙◌, inr, ℕ, List, Ok, subst}
use Rattle.cert_checker.specs.Certified.{hardware_on}
use Rattle.run_lines.proofs.DeviceLemmas.{fails_behind}
use Rattle.texts.specs.Device.{FailsAmid}
use Rattle.runner.specs.Output.{summary_text}
use Rattle.runner.specs.Playing.{PlaysInput}
use Rattle.runner.proofs.playing.play.Goals as goal

pub returns-in-Err-put : goal.returns-in-Err-put
returns-in-Err-put g c =
    let before = g.W.Sink.state c.args.out.now in
    let mid = g.W.Sink.state c.play_input.new.out in
    let after = g.W.Sink.state c.put.new.out in
    let summary = c.in-Ok.summary in
    let played : PlaysInput (hardware_on c.args.accepted.now) c.args.steps (g.R.Source.state c.args.input.now) (g.R.Source.state c.play_input.new.input) (Ok summary) before mid = rw c.in-Ok.is at c.play_input.ensures in
    let text : c.bytes.result.now ≡ summary_text summary = c.bytes.ensures.value ∙ c.summary_lines.ensures in
    let fails : FailsAmid mid c.bytes.result.now after = rw c.in-Err-put.is at c.put.ensures in
    inr (summary, played.0, played.1, fails_behind before mid after played.0 (summary_text summary) played.2 (subst (λ (bytes : List ℕ). FailsAmid mid bytes after) text fails))
