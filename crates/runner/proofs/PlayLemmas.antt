-- A play, line by line.
use Rattle.std.proofs.Common.{◌≡◌, ◌≢◌, ◌<◌, ◌≤◌, ◌+◌, ◌-◌, ◌⊎◌, inl, inr, min, ℕ, List, [], ◌∷◌, ◌++◌, Option, Some, None, IfSome, length, take, replicate, refl, sym, ap, subst, ◌∙◌, append_assoc, arith, length-append}
use Rattle.std.specs.List.{AllByRecursion}
use Rattle.std.proofs.lemmas.Bool.{cases_lt}
use Rattle.std.proofs.lemmas.Grind.{flat_map-append}
use Rattle.std.proofs.lemmas.List.{append-nil, take_all, take-replicate, length-replicate}
use lib.Seq.{take-append-add}
use Rattle.board_step.specs.Hardware.{Hardware}
use Rattle.board_step.specs.Reset.{IsReset}
use Rattle.board_step.specs.ResetState.{reset_state}
use Rattle.board_step.specs.Run.{Run}
use Rattle.board_step.specs.State.{BoardView}
use Rattle.board_step.specs.declared.env.Env.{Env}
use Rattle.board_step.specs.declared.event.Event.{Event}
use Rattle.certificate.specs.Pieces.{OfBytes}
use Rattle.run_lines.specs.Follows.{HasTold, RunsFrom}
use Rattle.run_lines.specs.Told.{TellsUpTo}
use Rattle.run_lines.specs.declared.teller.Teller.{Teller}
use Rattle.texts.specs.Device.{DeviceState, GivesBytes}
use Rattle.texts.proofs.DeviceLemmas.{gives_bytes}
use Rattle.runner.specs.Input.{IsResetLine, IsEnvLine, reset_of, reset_text, env_text, env_of}
use Rattle.runner.specs.Leads.{LeadsTo, time_of}
use Rattle.runner.specs.Machine.{IsOver, RunsTo, Summarizes}
use Rattle.runner.specs.Player.{PlaysEvents}
use Rattle.runner.specs.Playing.{BeginsWithNo, IsBadLine, Played, TakesEnv, TakesReset, ToldOver, envs_of, env_lines_text}
use Rattle.runner.specs.declared.input.EnvLine.{EnvLine}
use Rattle.runner.specs.declared.input.ResetLine.{ResetLine}
use Rattle.runner.specs.declared.machine.Summary.{Summary}
use Rattle.runner.specs.declared.player.Player.{Player}
use Rattle.runner.proofs.FeedLemmas.{none_in_line}
use Rattle.runner.proofs.LeadsLemmas.{leads_both, one_each, run_of, runs_to, time_of-append}
use Rattle.runner.proofs.InputLemmas.{no_feed_env, env_some}

-- a play so far: what was read of the input, the run over its lines, and the lines of the run
pub record Sofar (hardware : Hardware) (steps : ℕ) (old now : Option (List ℕ)) (number left : ℕ) (player : Player) (told : List ℕ) : Type 0 where
  pub reset : ResetLine
  pub reset_form : IsResetLine reset
  pub lines : List EnvLine
  pub lines_form : AllByRecursion IsEnvLine lines
  pub given : GivesBytes old (reset_text reset ++ 10 ∷ env_lines_text lines) now
  pub number_is : number ≡ length lines + 1
  pub starts : IsReset (reset_state (reset_of reset))
  pub events : List Event
  pub leads : LeadsTo hardware (reset_state (reset_of reset)) (take steps (envs_of lines)) events player.machine.state
  pub count : left + length events ≡ steps
  pub covered : left ≡ steps - length (envs_of lines)
  pub counted : player.teller.events ≡ length events
  pub timed : player.teller.time ≡ time_of events
  pub has : HasTold hardware (reset_state (reset_of reset)) (take steps (envs_of lines)) told player.machine.state player.teller

-- only the first line was read
pub sofar_start : (hardware : Hardware) (steps : ℕ) (old now : DeviceState) (reset : ResetLine) (player : Player) → TakesReset old reset now → player.machine.state ≡ reset_state (reset_of reset) →
    IsReset (reset_state (reset_of reset)) → player.teller.events ≡ 0 → player.teller.time ≡ 0 → HasTold hardware (reset_state (reset_of reset)) [] [] (reset_state (reset_of reset)) player.teller →
    Sofar hardware steps old.bytes now.bytes 1 steps player []
sofar_start hardware steps old now reset player takes state starts events time has =
    let start = reset_state (reset_of reset) in
    let none : (let envs : List Env = [] in envs) ≡ take steps [] = sym (take_all steps [] (omega arith)) in
    record {
      reset = reset;
      reset_form = takes.0;
      lines = [];
      lines_form = tt;
      given = takes.1.given;
      number_is = refl;
      starts = starts;
      events = [];
      leads = subst (λ (envs : List Env). LeadsTo hardware start envs [] player.machine.state) none (sym state);
      count = omega arith;
      covered = omega arith;
      counted = events;
      timed = time;
      has = subst (λ (s : BoardView). HasTold hardware start (take steps []) [] s player.teller) (sym state) (subst (λ (envs : List Env). HasTold hardware start envs [] start player.teller) none has);
    }

pub all_form : (lines : List EnvLine) (line : EnvLine) → AllByRecursion IsEnvLine lines → IsEnvLine line → AllByRecursion IsEnvLine (lines ++ line ∷ [])
all_form [] line all form = (form, tt)
all_form (l ∷ lines) line all form = (all.0, all_form lines line all.1 form)

pub text_push : (lines : List EnvLine) (line : EnvLine) → env_lines_text (lines ++ line ∷ []) ≡ env_lines_text lines ++ (env_text line ++ 10 ∷ [])
text_push lines line = flat_map-append (λ (l : EnvLine). env_text l ++ 10 ∷ []) lines (line ∷ []) ∙ ap (λ (t : List ℕ). env_lines_text lines ++ t) (append-nil _)

pub envs_push : (lines : List EnvLine) (line : EnvLine) → envs_of (lines ++ line ∷ []) ≡ envs_of lines ++ replicate line.count (env_of line)
envs_push lines line = flat_map-append (λ (l : EnvLine). replicate l.count (env_of l)) lines (line ∷ []) ∙ ap (λ (es : List Env). envs_of lines ++ es) (append-nil _)

take_of_copies : (m n : ℕ) (env : Env) → take m (replicate n env) ≡ replicate (min n m) env
take_of_copies m n env =
    elim (cases_lt n m) [
      | inl less ↦
          let same : n ≡ min n m = omega arith in
          take_all m (replicate n env) (omega (arith, length-replicate n env)) ∙ ap (λ (k : ℕ). replicate k env) same
      | inr more ↦
          let same : m ≡ min n m = omega arith in
          take-replicate m n env more ∙ ap (λ (k : ℕ). replicate k env) same
    ]

-- the environments of one more line, of which as many are taken as are left
take_push : (steps left n : ℕ) (envs : List Env) (env : Env) → 0 < left → left ≡ steps - length envs → take steps (envs ++ replicate n env) ≡ take steps envs ++ replicate (min n left) env
take_push steps left n envs env some is =
    let whole : steps ≡ length envs + left = omega (arith, some, is) in
    ap (λ (k : ℕ). take k (envs ++ replicate n env)) whole
    ∙ take-append-add envs (replicate n env) left
    ∙ ap (λ (es : List Env). envs ++ es) (take_of_copies left n env)
    ∙ ap (λ (es : List Env). es ++ replicate (min n left) env) (sym (take_all steps envs (omega (arith, whole))))

-- one more line was read, and its events were executed
pub sofar_more : (hardware : Hardware) (steps : ℕ) (old : Option (List ℕ)) (mid now : DeviceState) (number left : ℕ) (player new : Player) (told more : List ℕ) (line : EnvLine) (count : ℕ) →
    Sofar hardware steps old mid.bytes number left player told → 0 < left → TakesEnv mid (Some line) now → count ≡ min line.count left → PlaysEvents hardware player (env_of line) count more new →
    Sofar hardware steps old now.bytes (number + 1) (left - count) new (told ++ more)
sofar_more hardware steps old mid now number left player new told more line count far some takes is plays =
    let start = reset_state (reset_of far.reset) in
    let copies = replicate count (env_of line) in
    let ran = plays.takes in
    let envs : take steps (envs_of (far.lines ++ line ∷ [])) ≡ take steps (envs_of far.lines) ++ copies =
    ap (take steps) (envs_push far.lines line) ∙ take_push steps left line.count (envs_of far.lines) (env_of line) some far.covered
    ∙ ap (λ (k : ℕ). take steps (envs_of far.lines) ++ replicate k (env_of line)) (sym is) in
    let both = leads_both hardware start player.machine.state new.machine.state (take steps (envs_of far.lines)) copies far.events ran.events far.leads ran.leads in
    let text : (reset_text far.reset ++ 10 ∷ env_lines_text far.lines) ++ (env_text line ++ 10 ∷ []) ≡ reset_text far.reset ++ 10 ∷ env_lines_text (far.lines ++ line ∷ []) =
    append_assoc (reset_text far.reset) (10 ∷ env_lines_text far.lines) (env_text line ++ 10 ∷ []) ∙ ap (λ (rest : List ℕ). reset_text far.reset ++ 10 ∷ rest) (sym (text_push far.lines line)) in
    let many : length ran.events ≡ count = one_each hardware player.machine.state new.machine.state copies ran.events ran.leads ∙ length-replicate count (env_of line) in
    let event_count = plays.events in
    let spent = plays.time in
    record {
      reset = far.reset;
      reset_form = far.reset_form;
      lines = far.lines ++ line ∷ [];
      lines_form = all_form far.lines line far.lines_form takes.0;
      given = subst (λ (bytes : List ℕ). GivesBytes old bytes now.bytes) text (gives_bytes old mid.bytes now.bytes _ _ far.given takes.1.given);
      number_is = omega (arith, far.number_is, length-append far.lines (line ∷ []));
      starts = far.starts;
      events = far.events ++ ran.events;
      leads = subst (λ (es : List Env). LeadsTo hardware start es (far.events ++ ran.events) new.machine.state) (sym envs) both;
      count = omega (arith, far.count, is, many, length-append far.events ran.events);
      covered = omega (arith, far.covered, is, some, ap length (envs_push far.lines line), length-append (envs_of far.lines) (replicate line.count (env_of line)), length-replicate line.count (env_of line));
      counted = omega (arith, far.counted, event_count, many, length-append far.events ran.events);
      timed = omega (arith, far.timed, spent, ran.time_is, time_of-append far.events ran.events);
      has = subst (λ (es : List Env). HasTold hardware start es (told ++ more) new.machine.state new.teller) (sym envs) (plays.more start (take steps (envs_of far.lines)) told far.starts far.has);
    }

-- ---- the lines

passes_over : (hardware : Hardware) (run : Run hardware) (start last : BoardView) (envs : List Env) → IsOver run start envs last → RunsFrom run start envs
passes_over hardware run start last envs over = let many = over.count in record { starts = over.starts; count = omega arith; envs_are = over.envs_are }

pub told_of_run : (hardware : Hardware) (run : Run hardware) (start last : BoardView) (envs : List Env) (told : List ℕ) (s : BoardView) (teller : Teller) → HasTold hardware start envs told s teller → IsOver run start envs last → TellsUpTo run run.count told
told_of_run hardware run start last envs told s teller has over =
    subst (λ (n : ℕ). TellsUpTo run n told) (sym over.count) (has.on run (passes_over hardware run start last envs over)).told

told_over : (hardware : Hardware) (start last : BoardView) (envs : List Env) (events : List Event) (told : List ℕ) (teller : Teller) → LeadsTo hardware start envs events last → HasTold hardware start envs told last teller → ToldOver hardware start envs told
told_over hardware start last envs events told teller leads has =
    let r = run_of hardware start last envs events leads in
    record { run = r.run; last = last; over = r.over; told_is = told_of_run hardware r.run start last envs told last teller has r.over }

-- ---- where a play ends

-- the play ends at the end of the input, or where no event is left
pub sofar_ends : (hardware : Hardware) (steps : ℕ) (old now : Option (List ℕ)) (number left : ℕ) (player : Player) (told : List ℕ) (summary : Summary) → Sofar hardware steps old now number left player told →
    IfSome now (λ bytes. bytes ≡ []) ⊎ (left ≡ 0) → Summarizes player.teller.events player.teller.time player.machine.state summary → OfBytes old (Played hardware steps summary told)
sofar_ends hardware steps old now number left player told summary far ends sums = by old now far.given ends
  where
    runs : RunsTo hardware (reset_state (reset_of far.reset)) (take steps (envs_of far.lines)) summary player.machine.state
    runs = runs_to hardware (reset_state (reset_of far.reset)) (take steps (envs_of far.lines)) far.events player.machine.state summary far.leads
        (subst (λ (n : ℕ). Summarizes n (time_of far.events) player.machine.state summary) far.counted (subst (λ (t : ℕ). Summarizes player.teller.events t player.machine.state summary) far.timed sums))

    played : (rest bytes : List ℕ) → bytes ≡ (reset_text far.reset ++ 10 ∷ env_lines_text far.lines) ++ rest → (rest ≡ []) ⊎ (steps ≤ length (envs_of far.lines)) → Played hardware steps summary told bytes
    played rest bytes parts enough = record {
      reset = far.reset;
      lines = far.lines;
      rest = rest;
      begins = record { reset_form = far.reset_form; lines_form = far.lines_form; parts = parts };
      enough = enough;
      last = player.machine.state;
      runs = runs;
      told_is = told_of_run hardware runs.run (reset_state (reset_of far.reset)) player.machine.state (take steps (envs_of far.lines)) told player.machine.state player.teller far.has runs.over;
    }

    by : (old now : Option (List ℕ)) → GivesBytes old (reset_text far.reset ++ 10 ∷ env_lines_text far.lines) now → IfSome now (λ bytes. bytes ≡ []) ⊎ (left ≡ 0) → OfBytes old (Played hardware steps summary told)
    by None now given ends = ((reset_text far.reset ++ 10 ∷ env_lines_text far.lines) ++ [], played [] _ refl (inl refl))
    by (Some bytes) now (rest, rest_is, parts) ends = played rest bytes parts (elim ends [
      | inl empty ↦ inl (subst (λ (o : Option (List ℕ)). IfSome o (λ bytes. bytes ≡ [])) rest_is empty)
      | inr none ↦ inr (omega (arith, none, far.covered))
    ])

-- a single line feed is no line of environments
no_env_at_feed : BeginsWithNo env_text IsEnvLine (10 ∷ [])
no_env_at_feed = none_in_line env_text IsEnvLine no_feed_env (10 ∷ []) [] [] tt refl
    (λ line form e. absurd (omega (arith, env_some line form, ap length e)))

-- the next line is needed and out of form
pub sofar_bad : (hardware : Hardware) (steps : ℕ) (old now : Option (List ℕ)) (number left : ℕ) (player : Player) (told : List ℕ) (n : ℕ) → Sofar hardware steps old now number left player told →
    0 < left → n ≡ number + 1 → IfSome now (λ bytes. bytes ≢ []) → IfSome now (BeginsWithNo env_text IsEnvLine) → OfBytes old (IsBadLine hardware steps n told)
sofar_bad hardware steps old now number left player told n far some is left_some bad = by old now far.given left_some bad
  where
    whole : take steps (envs_of far.lines) ≡ envs_of far.lines
    whole = take_all steps (envs_of far.lines) (omega (arith, some, far.covered))

    over : ToldOver hardware (reset_state (reset_of far.reset)) (envs_of far.lines) told
    over = subst (λ (envs : List Env). ToldOver hardware (reset_state (reset_of far.reset)) envs told) whole
        (told_over hardware (reset_state (reset_of far.reset)) player.machine.state (take steps (envs_of far.lines)) far.events told player.teller far.leads far.has)

    later : (rest bytes : List ℕ) → bytes ≡ (reset_text far.reset ++ 10 ∷ env_lines_text far.lines) ++ rest → rest ≢ [] → BeginsWithNo env_text IsEnvLine rest → IsBadLine hardware steps n told bytes
    later rest bytes parts some_left bad = inr record {
      reset = far.reset;
      lines = far.lines;
      rest = rest;
      begins = record { reset_form = far.reset_form; lines_form = far.lines_form; parts = parts };
      needed = omega (arith, some, far.covered);
      some = some_left;
      bad = bad;
      number_is = omega (arith, is, far.number_is);
      told_is = over;
    }

    by : (old now : Option (List ℕ)) → GivesBytes old (reset_text far.reset ++ 10 ∷ env_lines_text far.lines) now → IfSome now (λ bytes. bytes ≢ []) → IfSome now (BeginsWithNo env_text IsEnvLine) → OfBytes old (IsBadLine hardware steps n told)
    by None now given left_some bad = (_, later (10 ∷ []) _ refl (λ e. absurd (omega (arith, ap length e))) no_env_at_feed)
    by (Some bytes) now (rest, rest_is, parts) left_some bad =
        later rest bytes parts (subst (λ (o : Option (List ℕ)). IfSome o (λ bytes. bytes ≢ [])) rest_is left_some) (subst (λ (o : Option (List ℕ)). IfSome o (BeginsWithNo env_text IsEnvLine)) rest_is bad)
