-- From the end of a play to what was written.
use Rattle.std.proofs.Common.{◌≡◌, ◌⊎◌, inl, inr, ℕ, List, codes, Result, Err, subst}
use Rattle.board_step.specs.Hardware.{Hardware}
use Rattle.certificate.proofs.WritingLemmas.{fails_behind}
use Rattle.commands.specs.Running.{PlaysPart, PlaysTo, PlaysToBadLine}
use Rattle.runner.specs.Playing.{FailsAmidText, Plays}
use Rattle.runner.specs.declared.fault.PlayFault.{PlayFault}
use Rattle.runner.specs.declared.fault.PlayFault.TheVariants.{Line, Read, Write}
use Rattle.runner.specs.declared.machine.Summary.{Summary}
use Rattle.texts.proofs.DeviceLemmas.{takes_both}
use Rattle.texts.specs.Device.{DeviceState, FailsAmid, HasFailed, CountsNoFailure, Takes}
use Rattle.command_verdicts.specs.Verdict.{bad_line_text}

-- the bad line's number was written after the lines of the events before it
pub bad_line_written : (hardware : Hardware) (steps line : ℕ) (old new before mid after : DeviceState) (bytes : List ℕ) (r : Result Summary PlayFault) → Plays hardware steps old new r before mid → r ≡ Err (Line line) → bytes ≡ bad_line_text (codes "bad input") line →
    Takes mid bytes after → PlaysToBadLine Takes hardware steps old.bytes before after
bad_line_written hardware steps line old new before mid after bytes r plays ends is takes =
    let (told, stops, took) = subst (λ x. Plays hardware steps old new x before mid) ends plays in
    (line, told, stops.bad, takes_both before mid after told _ took (subst (λ text. Takes mid text after) is takes))

-- the output failed inside the line
pub bad_line_fails : (hardware : Hardware) (steps line : ℕ) (old new before mid after : DeviceState) (bytes : List ℕ) (r : Result Summary PlayFault) → Plays hardware steps old new r before mid → r ≡ Err (Line line) → bytes ≡ bad_line_text (codes "bad input") line →
    FailsAmid mid bytes after → PlaysToBadLine FailsAmid hardware steps old.bytes before after
bad_line_fails hardware steps line old new before mid after bytes r plays ends is fails =
    let (told, stops, took) = subst (λ x. Plays hardware steps old new x before mid) ends plays in
    (line, told, stops.bad, fails_behind before mid after told _ took (subst (λ text. FailsAmid mid text after) is fails))

-- the input failed, and the lines of the events so far were written
pub part_read : (hardware : Hardware) (steps : ℕ) (old new before after : DeviceState) (r : Result Summary PlayFault) → Plays hardware steps old new r before after → r ≡ Err Read → PlaysPart Takes hardware steps old new before after
part_read hardware steps old new before after r plays ends =
    let (told, stops, took) = subst (λ x. Plays hardware steps old new x before after) ends plays in
    (told, record { read = stops.read; given = stops.given; begins = stops.begins }, took)

-- the output failed inside the lines of the events, or inside the whole text
pub write_fails : (hardware : Hardware) (steps : ℕ) (old new before after : DeviceState) (r : Result Summary PlayFault) → Plays hardware steps old new r before after → r ≡ Err Write →
    (PlaysPart FailsAmid hardware steps old new before after ⊎ PlaysTo FailsAmid hardware steps old.bytes before after) × HasFailed before after × CountsNoFailure old new
write_fails hardware steps old new before after r plays ends = by (subst (λ x. Plays hardware steps old new x before after) ends plays)
  where
    by : FailsAmidText hardware steps old new before after → (PlaysPart FailsAmid hardware steps old new before after ⊎ PlaysTo FailsAmid hardware steps old.bytes before after) × HasFailed before after × CountsNoFailure old new
    by (inl (told, stops, fails)) =
        (inl (told, record { read = stops.read; given = stops.given.given; begins = stops.begins }, fails), fails.failed, stops.given.quiet)
    by (inr (summary, told, played, fails)) = (inr (summary, told, played.played, fails), fails.failed, played.quiet)
