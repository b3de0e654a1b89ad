-- A play that ends at a line out of form, or where a device fails.
use Rattle.std.proofs.Common.{◌≡◌, ◌≢◌, ◌<◌, ◌≤◌, ◌+◌, inl, inr, ℕ, List, [], ◌∷◌, ◌++◌, Option, Some, None, IfSome, IsSome, Err, length, take, replicate, refl, sym, ap, subst, ◌∙◌, append_assoc, arith, length-append}
use Rattle.std.proofs.lemmas.List.{length-replicate, take-replicate, take_all}
use lib.Seq.{take-append-add}
use Rattle.board_step.specs.Hardware.{Hardware}
use Rattle.board_step.specs.Reset.{IsReset}
use Rattle.board_step.specs.ResetState.{reset_state}
use Rattle.board_step.specs.Run.{Run}
use Rattle.board_step.specs.declared.env.Env.{Env}
use Rattle.certificate.specs.Pieces.{OfBytes}
use Rattle.run_lines.specs.Follows.{HasTold}
use Rattle.run_lines.specs.Told.{NeverNests}
use Rattle.run_lines.proofs.DeviceLemmas.{fails_behind, takes_none}
use Rattle.texts.specs.Device.{DeviceState, FailsAmid, GivesBytes, HasGrown, CountsNoFailure, Takes}
use Rattle.texts.specs.Incoming.{IncomingView, EndsWell, FailsAmidLine, unread_of}
use Rattle.texts.proofs.DeviceLemmas.{gives_bytes, gives_none}
use Rattle.runner.specs.Input.{env_of, env_text, reset_of, reset_text}
use Rattle.runner.specs.Player.{PlaysEvents}
use Rattle.runner.specs.Playing.{BeginsEach, HasNoEnv, HasNoReset, IsBadLine, LONGEST, PlaysInput, ReadsInputLine, StopsWriting, TakesEnv, TakesReset, envs_of, env_lines_text}
use Rattle.runner.specs.declared.fault.PlayFault.{PlayFault}
use Rattle.runner.specs.declared.fault.PlayFault.TheVariants.{Line, Read, Write}
use Rattle.runner.specs.declared.input.EnvLine.{EnvLine}
use Rattle.runner.specs.declared.player.Player.{Player}
use Rattle.runner.proofs.BeginLemmas.{begins_each, begins_longer, none_begins}
use Rattle.runner.proofs.FeedLemmas.{first_holds, second_holds}
use Rattle.runner.proofs.JudgedLemmas.{given_in_all, judged, judged_later}
use Rattle.runner.proofs.PlayLemmas.{Sofar, all_form, envs_push, sofar_bad, text_push}

-- ---- the lines so far

-- the lines of the events so far are a prefix of the text of each input that begins with the lines read so far
sofar_begins : (hardware : Hardware) → ((run : Run hardware) → IsReset (run.state_at 0) → NeverNests run) → (steps : ℕ) (old now : Option (List ℕ)) (number left : ℕ) (player : Player) (told : List ℕ) →
    (far : Sofar hardware steps old now number left player told) → 0 < left → BeginsEach hardware steps (reset_text far.reset ++ 10 ∷ env_lines_text far.lines) told
sofar_begins hardware never steps old now number left player told far some =
    let all = envs_of far.lines in
    let within : length all ≤ steps = omega (arith, some, far.covered) in
    let whole : take steps all ≡ take (length all) all = take_all steps all within ∙ sym (take_all (length all) all (omega arith)) in
    begins_each hardware never steps (length all) far.reset far.reset_form far.lines far.lines_form far.starts within (omega arith) told player.machine.state player.teller
    (subst (λ (envs : List Env). HasTold hardware (reset_state (reset_of far.reset)) envs told player.machine.state player.teller) whole far.has)

-- so are these with the lines of some more events of the next line; the input gave all these lines and what was not
-- used
sofar_more_begins : (hardware : Hardware) → ((run : Run hardware) → IsReset (run.state_at 0) → NeverNests run) → (steps : ℕ) (old mid : DeviceState) (unused : IncomingView) (source : DeviceState) (number left : ℕ) (player new : Player) (told more : List ℕ) (line : EnvLine) (done : ℕ) →
    Sofar hardware steps old.bytes mid.bytes number left player told → 0 < left → TakesEnv mid (Some line) (unread_of unused source) → CountsNoFailure old source → (IsSome old.bytes → EndsWell unused source) → done ≤ line.count → done ≤ left →
    PlaysEvents hardware player (env_of line) done more new → StopsWriting hardware steps (told ++ more) old source
sofar_more_begins hardware never steps old mid unused source number left player new told more line done far some takes quiet ends few within plays =
    let start = reset_state (reset_of far.reset) in
    let all = envs_of far.lines in
    let lines = far.lines ++ line ∷ [] in
    let room : length all + done ≤ steps = omega (arith, some, far.covered) in
    let text : (reset_text far.reset ++ 10 ∷ env_lines_text far.lines) ++ (env_text line ++ 10 ∷ []) ≡ reset_text far.reset ++ 10 ∷ env_lines_text lines =
    append_assoc (reset_text far.reset) (10 ∷ env_lines_text far.lines) (env_text line ++ 10 ∷ []) ∙ ap (λ (rest : List ℕ). reset_text far.reset ++ 10 ∷ rest) (sym (text_push far.lines line)) in
    let now = unread_of unused source in
    let given = subst (λ (bytes : List ℕ). GivesBytes old.bytes bytes now.bytes) text (gives_bytes old.bytes mid.bytes now.bytes _ _ far.given takes.1.given) in
    let fewer : length all + done ≤ length (envs_of lines) = omega (arith, few, ap length (envs_push far.lines line), length-append all (replicate line.count (env_of line)), length-replicate line.count (env_of line)) in
    let envs : take steps all ++ replicate done (env_of line) ≡ take (length all + done) (envs_of lines) =
    ap (λ (es : List Env). es ++ replicate done (env_of line)) (take_all steps all (omega arith))
    ∙ ap (λ (es : List Env). all ++ es) (sym (take-replicate done line.count (env_of line) few))
    ∙ sym (take-append-add all (replicate line.count (env_of line)) done)
    ∙ ap (take (length all + done)) (sym (envs_push far.lines line)) in
    let begins = begins_each hardware never steps (length all + done) far.reset far.reset_form lines (all_form far.lines line far.lines_form takes.0) far.starts room fewer (told ++ more) new.machine.state new.teller
    (subst (λ (es : List Env). HasTold hardware start es (told ++ more) new.machine.state new.teller) envs (plays.more start (take steps all) told far.starts far.has)) in
    let used = reset_text far.reset ++ 10 ∷ env_lines_text lines in
    record {
      read = used ++ unused.bytes;
      given = record { given = given_in_all old.bytes used unused source given ends; quiet = quiet };
      begins = begins_longer hardware steps used unused.bytes (told ++ more) begins;
    }

-- ---- where a play stops

first_bad : (hardware : Hardware) (steps number : ℕ) (old : Option (List ℕ)) → number ≡ 1 → IfSome old HasNoReset → OfBytes old (IsBadLine hardware steps number [])
first_bad hardware steps number None is bad =
    ([], inl record { first = is; bad = λ line rest form e. absurd (omega (arith, ap length e, length-append (reset_text line) (10 ∷ rest))); none = refl })
first_bad hardware steps number (Some bytes) is bad = inl record { first = is; bad = bad; none = refl }

-- the first line is bad, or could not be read
pub stops_first : (hardware : Hardware) (steps : ℕ) (old : DeviceState) (unused : IncomingView) (source : DeviceState) (fault : PlayFault) (out : DeviceState) →
    ReadsInputLine TakesReset HasNoReset 1 old (Err fault) (unread_of unused source) → (fault ≢ Read → IsSome old.bytes → EndsWell unused source) → (fault ≡ Read → FailsAmidLine LONGEST old source) →
    PlaysInput hardware steps old source (Err fault) out out
stops_first hardware steps old unused source (Line number) out (is, bad, takes) ends amid = (
  [],
  record {
    bad = first_bad hardware steps number old.bytes is bad;
    judged = judged number old.bytes old [] unused source (gives_none old).given tt (omega (arith, is)) takes (ends (λ e. cc));
    quiet = takes.given.quiet;
  },
  takes_none out,
)
stops_first hardware steps old unused source Read out failed ends amid =
    let a = amid refl in
    ([], record { failed = failed; read = a.line; given = a.given; needed = inl (record { no_feed = a.no_feed; short = a.short }); begins = none_begins hardware steps a.line }, takes_none out)
stops_first hardware steps old unused source Write out never ends amid = absurd never

-- a later line is
pub stops_later : (hardware : Hardware) → ((run : Run hardware) → IsReset (run.state_at 0) → NeverNests run) → (steps : ℕ) (old start : DeviceState) (before unused : IncomingView) (source : DeviceState) (number left : ℕ) (player : Player) (told : List ℕ) (fault : PlayFault) (first last : DeviceState) →
    Sofar hardware steps old.bytes (unread_of before start).bytes number left player told → 0 < left → CountsNoFailure old start → Takes first told last →
    ReadsInputLine TakesEnv HasNoEnv (number + 1) (unread_of before start) (Err fault) (unread_of unused source) → (fault ≢ Read → IsSome old.bytes → EndsWell unused source) →
    (fault ≡ Read → FailsAmidLine LONGEST (unread_of before start) source) → PlaysInput hardware steps old source (Err fault) first last
stops_later hardware never steps old start before unused source number left player told (Line n) first last far some quiet wrote (is, bad, takes) ends amid =
    let now = unread_of before start in (
      told,
      record {
        bad = sofar_bad hardware steps old.bytes now.bytes number left player told n far some is (first_holds now.bytes _ _ bad) (second_holds now.bytes _ _ bad);
        judged = judged_later n old.bytes now far.reset far.lines unused source far.given far.reset_form far.lines_form (omega (arith, is, far.number_is)) takes (ends (λ e. cc));
        quiet = takes.given.quiet ∙ quiet;
      },
      wrote,
    )
stops_later hardware never steps old start before unused source number left player told Read first last far some quiet wrote failed ends amid =
    let mid = unread_of before start in
    let used = reset_text far.reset ++ 10 ∷ env_lines_text far.lines in
    let a = amid refl in (
      told,
      record {
        failed = subst (λ (n : ℕ). HasGrown n source.failures) quiet failed;
        read = used ++ a.line;
        given = gives_bytes old.bytes mid.bytes source.bytes used a.line far.given a.given;
        needed = inr (record {
          reset = far.reset;
          lines = far.lines;
          line = a.line;
          begins = record { reset_form = far.reset_form; lines_form = far.lines_form; parts = refl };
          needed = omega (arith, some, far.covered);
          unjudged = record { no_feed = a.no_feed; short = a.short };
        });
        begins = begins_longer hardware steps used a.line told (sofar_begins hardware never steps old.bytes mid.bytes number left player told far some);
      },
      wrote,
    )
stops_later hardware never steps old start before unused source number left player told Write first last far some quiet wrote failed ends amid = absurd failed

-- the output fails inside the lines of the events of a line
pub stops_writing : (hardware : Hardware) → ((run : Run hardware) → IsReset (run.state_at 0) → NeverNests run) → (steps : ℕ) (old mid : DeviceState) (unused : IncomingView) (source : DeviceState) (number left : ℕ) (player new : Player) (told more : List ℕ) (line : EnvLine) (done : ℕ) (first last after : DeviceState) →
    Sofar hardware steps old.bytes mid.bytes number left player told → 0 < left → TakesEnv mid (Some line) (unread_of unused source) → CountsNoFailure old source → (IsSome old.bytes → EndsWell unused source) → done ≤ line.count → done ≤ left →
    PlaysEvents hardware player (env_of line) done more new → Takes first told last → FailsAmid last more after → PlaysInput hardware steps old source (Err Write) first after
stops_writing hardware never steps old mid unused source number left player new told more line done first last after far some takes quiet ends few within plays wrote fails =
    (told ++ more, sofar_more_begins hardware never steps old mid unused source number left player new told more line done far some takes quiet ends few within plays, fails_behind first last after told more wrote fails)
