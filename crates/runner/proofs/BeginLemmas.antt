-- The lines so far are a prefix of the text of each input that begins with the bytes so far.
use Rattle.std.proofs.Common.{◌≡◌, ◌<◌, ◌≤◌, ◌+◌, ◌-◌, ◌⊎◌, inl, inr, ℕ, Bool, true, false, List, [], ◌∷◌, ◌++◌, Option, Some, None, length, take, drop, get_or, slice_get, refl, sym, ap, subst, ◌∙◌, append_assoc, arith, length-append}
use Rattle.std.specs.List.{AllByRecursion}
use Rattle.std.proofs.lemmas.Bool.{cases_lt}
use Rattle.std.proofs.lemmas.Fmt.{decimal_injective}
use Rattle.std.proofs.lemmas.Grind.{flat_map-append}
use Rattle.std.proofs.lemmas.List.{append-nil, get_or_append_left, length-take-le, take-append-drop, take-append-le, take_all}
use Rattle.std.proofs.lemmas.Option.{get_or_from_slice_get, slice_get-get_or, slice_get_within}
use Rattle.board_step.specs.Hardware.{Hardware}
use Rattle.board_step.specs.Reset.{IsReset}
use Rattle.board_step.specs.ResetState.{reset_state}
use Rattle.board_step.specs.Run.{Run}
use Rattle.board_step.specs.State.{BoardView}
use Rattle.board_step.specs.declared.env.Env.{Env}
use Rattle.board_step.specs.declared.env.Inputs.{Inputs}
use Rattle.certificate.specs.Pieces.{OfBytes}
use Rattle.run_lines.specs.Follows.{HasTold, RunsFrom}
use Rattle.run_lines.specs.Told.{NeverNests, TellsUpTo}
use Rattle.run_lines.specs.declared.teller.Teller.{Teller}
use Rattle.run_lines.proofs.ToldLemmas.{begins_alike}
use Rattle.texts.specs.Device.{GivesBytes}
use Rattle.texts.specs.Fields.{fields_in}
use Rattle.texts.specs.Numbers.{flag_digit}
use Rattle.texts.proofs.NumberLemmas.{hex2_injective}
use Rattle.runner.specs.Input.{IsResetLine, IsEnvLine, env_fields, env_text, reset_fields, reset_of, reset_text}
use Rattle.runner.specs.Machine.{IsOver}
use Rattle.runner.specs.Output.{summary_text}
use Rattle.runner.specs.Playing.{BeginsEach, InputBegins, IsPart, IsTextOf, envs_of, env_lines_text}
use Rattle.runner.specs.declared.input.EnvLine.{EnvLine}
use Rattle.runner.specs.declared.input.ResetLine.{ResetLine}
use Rattle.runner.proofs.FeedLemmas.{first_feed}
use Rattle.runner.proofs.InputLemmas.{env_fields_kept, no_feed_env, no_feed_reset, reset_fields_kept}

-- ---- a text has one line

flag_once : (a b : Bool) → flag_digit a ≡ flag_digit b → a ≡ b
flag_once false false e = refl
flag_once true true e = refl
flag_once false true e = absurd (omega (arith, ap (λ (l : List ℕ). get_or l 0 0) e))
flag_once true false e = absurd (omega (arith, ap (λ (l : List ℕ). get_or l 0 0) e))

abbrev reset_with : ℕ → ℕ → ResetLine
reset_with phase fill = record { phase = phase; fill = fill }

reset_once : (a b : ResetLine) → IsResetLine a → IsResetLine b → reset_text a ≡ reset_text b → a ≡ b
reset_once a b form_a form_b e =
    let fields : reset_fields a ≡ reset_fields b = sym (reset_fields_kept a form_a) ∙ ap fields_in e ∙ reset_fields_kept b form_b in
    let phase : a.phase ≡ b.phase = decimal_injective a.phase b.phase (omega (arith, form_a.phase)) (omega (arith, form_b.phase)) (ap (λ (l : List (List ℕ)). get_or l 1 []) fields) in
    let fill : a.fill ≡ b.fill = hex2_injective a.fill b.fill form_a.fill form_b.fill (ap (λ (l : List (List ℕ)). get_or l 2 []) fields) in
    ap (λ (n : ℕ). reset_with n a.fill) phase ∙ ap (reset_with b.phase) fill

abbrev inputs_with : ℕ → ℕ → ℕ → ℕ → Inputs
inputs_with in0 in1 in2 bus = record { in0 = in0; in1 = in1; in2 = in2; bus = bus }

abbrev env_with : ℕ → Inputs → ℕ → ℕ → Bool → EnvLine
env_with count inputs noise r latch = record { count = count; inputs = inputs; noise = noise; r = r; latch = latch }

env_once : (a b : EnvLine) → IsEnvLine a → IsEnvLine b → env_text a ≡ env_text b → a ≡ b
env_once a b form_a form_b e =
    let fields : env_fields a ≡ env_fields b = sym (env_fields_kept a form_a) ∙ ap fields_in e ∙ env_fields_kept b form_b in
    let at : (k : ℕ) → get_or (env_fields a) k [] ≡ get_or (env_fields b) k [] = λ k. ap (λ (l : List (List ℕ)). get_or l k []) fields in
    let count : a.count ≡ b.count = decimal_injective a.count b.count (omega (arith, form_a.most)) (omega (arith, form_b.most)) (at 0) in
    let in0 : a.inputs.in0 ≡ b.inputs.in0 = hex2_injective a.inputs.in0 b.inputs.in0 form_a.in0 form_b.in0 (at 1) in
    let in1 : a.inputs.in1 ≡ b.inputs.in1 = hex2_injective a.inputs.in1 b.inputs.in1 form_a.in1 form_b.in1 (at 2) in
    let in2 : a.inputs.in2 ≡ b.inputs.in2 = hex2_injective a.inputs.in2 b.inputs.in2 form_a.in2 form_b.in2 (at 3) in
    let bus : a.inputs.bus ≡ b.inputs.bus = hex2_injective a.inputs.bus b.inputs.bus form_a.bus form_b.bus (at 4) in
    let noise : a.noise ≡ b.noise = hex2_injective a.noise b.noise form_a.noise form_b.noise (at 5) in
    let r : a.r ≡ b.r = hex2_injective a.r b.r form_a.r form_b.r (at 6) in
    let latch : a.latch ≡ b.latch = flag_once a.latch b.latch (at 7) in
    let inputs : a.inputs ≡ b.inputs =
    ap (λ (n : ℕ). inputs_with n a.inputs.in1 a.inputs.in2 a.inputs.bus) in0 ∙ ap (λ (n : ℕ). inputs_with b.inputs.in0 n a.inputs.in2 a.inputs.bus) in1
    ∙ ap (λ (n : ℕ). inputs_with b.inputs.in0 b.inputs.in1 n a.inputs.bus) in2 ∙ ap (inputs_with b.inputs.in0 b.inputs.in1 b.inputs.in2) bus in
    ap (λ (n : ℕ). env_with n a.inputs a.noise a.r a.latch) count ∙ ap (λ (i : Inputs). env_with b.count i a.noise a.r a.latch) inputs ∙ ap (λ (n : ℕ). env_with b.count b.inputs n a.r a.latch) noise
    ∙ ap (λ (n : ℕ). env_with b.count b.inputs b.noise n a.latch) r ∙ ap (env_with b.count b.inputs b.noise b.r) latch

-- ---- two readings of the same bytes

tails_same : (a x y : List ℕ) → a ++ x ≡ a ++ y → x ≡ y
tails_same [] x y e = e
tails_same (b ∷ a) x y e = tails_same a x y (ap (drop 1) e)

-- after two equal texts, before the first line feed of the same bytes
behind_feed : (a b x y : List ℕ) → a ≡ b → a ++ 10 ∷ x ≡ b ++ 10 ∷ y → x ≡ y
behind_feed a b x y same e = ap (drop 1) (tails_same a (10 ∷ x) (10 ∷ y) (e ∙ ap (λ (t : List ℕ). t ++ 10 ∷ y) (sym same)))

-- one of two readings has the other's lines and perhaps more; or it has fewer, and a line in form begins what it left
record Fewer (lines others : List EnvLine) (rest : List ℕ) : Type 0 where
  next : EnvLine
  form : IsEnvLine next
  behind : List EnvLine
  more : List ℕ
  lines_are : lines ≡ others ++ next ∷ behind
  rest_is : rest ≡ env_text next ++ 10 ∷ more

abbrev Alike : List EnvLine → List EnvLine → List ℕ → Type 0
Alike lines others rest = ((behind : List EnvLine) × (others ≡ lines ++ behind)) ⊎ Fewer lines others rest

line_apart : (line : EnvLine) (lines : List EnvLine) (x : List ℕ) → env_lines_text (line ∷ lines) ++ x ≡ env_text line ++ 10 ∷ (env_lines_text lines ++ x)
line_apart line lines x = append_assoc (env_text line ++ 10 ∷ []) (env_lines_text lines) x ∙ append_assoc (env_text line) (10 ∷ []) (env_lines_text lines ++ x)

one_more : (line : EnvLine) (lines others : List EnvLine) (rest : List ℕ) → Alike lines others rest → Alike (line ∷ lines) (line ∷ others) rest
one_more line lines others rest (inl (behind, is)) = inl (behind, ap (λ (ls : List EnvLine). line ∷ ls) is)
one_more line lines others rest (inr f) =
    inr record { next = f.next; form = f.form; behind = f.behind; more = f.more; lines_are = ap (λ (ls : List EnvLine). line ∷ ls) f.lines_are; rest_is = f.rest_is }

alike : (lines others : List EnvLine) (more rest : List ℕ) → AllByRecursion IsEnvLine lines → AllByRecursion IsEnvLine others → env_lines_text lines ++ more ≡ env_lines_text others ++ rest → Alike lines others rest
alike [] others more rest form_a form_b e = inl (others, refl)
alike (line ∷ lines) [] more rest form_a form_b e =
    inr record { next = line; form = form_a.0; behind = lines; more = env_lines_text lines ++ more; lines_are = refl; rest_is = sym e ∙ line_apart line lines more }
alike (line ∷ lines) (other ∷ others) more rest form_a form_b e =
    let apart : env_text line ++ 10 ∷ (env_lines_text lines ++ more) ≡ env_text other ++ 10 ∷ (env_lines_text others ++ rest) = sym (line_apart line lines more) ∙ e ∙ line_apart other others rest in
    let text : env_text line ≡ env_text other = first_feed (env_text line) (env_text other) (env_lines_text lines ++ more) (env_lines_text others ++ rest) (no_feed_env line form_a.0) (no_feed_env other form_b.0) apart in
    let same : line ≡ other = env_once line other form_a.0 form_b.0 text in
    let behind : env_lines_text lines ++ more ≡ env_lines_text others ++ rest = behind_feed (env_text line) (env_text other) (env_lines_text lines ++ more) (env_lines_text others ++ rest) text apart in
    subst (λ (l : EnvLine). Alike (line ∷ lines) (l ∷ others) rest) same (one_more line lines others rest (alike lines others more rest form_a.1 form_b.1 behind))

-- ---- environments

envs_both : (lines others : List EnvLine) → envs_of (lines ++ others) ≡ envs_of lines ++ envs_of others
envs_both lines others = flat_map-append _ lines others

record Taken (steps done : ℕ) (envs : List Env) : Type 0 where
  most : done ≤ length (take steps envs)
  same : take done (take steps envs) ≡ take done envs

-- the first of some are the first of those
taken : (steps done : ℕ) (envs : List Env) → done ≤ steps → done ≤ length envs → Taken steps done envs
taken steps done envs within fewer = elim (cases_lt (length envs) steps) [
  | inl less ↦
      let whole : take steps envs ≡ envs = take_all steps envs (omega arith) in
      record { most = omega (arith, ap length whole); same = ap (take done) whole }
  | inr more ↦
      let many : length (take steps envs) ≡ steps = length-take-le steps envs more in
      let most : done ≤ length (take steps envs) = omega arith in
      record { most = most; same = sym (take-append-le done (take steps envs) (drop steps envs) most) ∙ ap (take done) (take-append-drop steps envs) }
]

got : (xs ys : List Env) (i : ℕ) (x : Env) → slice_get xs i ≡ Some x → slice_get (xs ++ ys) i ≡ Some x
got xs ys i x h =
    let within = slice_get_within xs i x h in
    let more : i < length (xs ++ ys) = omega (arith, within, length-append xs ys) in
    slice_get-get_or (xs ++ ys) i x more ∙ ap (λ (z : Env). Some z) (get_or_append_left xs ys x i within ∙ get_or_from_slice_get xs i x x h)

-- a run over environments passes through the first of them
passes_first : (hardware : Hardware) (run : Run hardware) (start last : BoardView) (envs : List Env) (done : ℕ) → done ≤ length envs → IsOver run start envs last → RunsFrom run start (take done envs)
passes_first hardware run start last envs done most over =
    let many : length (take done envs) ≡ done = length-take-le done envs most in
    let all = over.count in
    record {
      starts = over.starts;
      count = omega arith;
      envs_are = λ i env h. over.envs_are i env (subst (λ (es : List Env). slice_get es i ≡ Some env) (take-append-drop done envs) (got (take done envs) (drop done envs) i env h));
    }

-- ---- the lines

module _ (hardware : Hardware) (never : (run : Run hardware) → IsReset (run.state_at 0) → NeverNests run) (steps done : ℕ) (reset : ResetLine) (reset_form : IsResetLine reset) (lines : List EnvLine) (lines_form : AllByRecursion IsEnvLine lines)
    (starts : IsReset (reset_state (reset_of reset))) (within : done ≤ steps) (fewer : done ≤ length (envs_of lines)) (told : List ℕ) (s : BoardView) (teller : Teller)
    (has : HasTold hardware (reset_state (reset_of reset)) (take done (envs_of lines)) told s teller) where
  abbrev read : List ℕ
  read = reset_text reset ++ 10 ∷ env_lines_text lines

  -- another reading of an input that begins so
  record Reading (other : ResetLine) (others : List EnvLine) (rest : List ℕ) : Type 0 where
    same : other ≡ reset
    alike_is : Alike lines others rest

  reading : (more : List ℕ) (other : ResetLine) (others : List EnvLine) (rest : List ℕ) → InputBegins other others rest (read ++ more) → Reading other others rest
  reading more other others rest b =
      let apart : reset_text reset ++ 10 ∷ (env_lines_text lines ++ more) ≡ reset_text other ++ 10 ∷ (env_lines_text others ++ rest) =
      sym (append_assoc (reset_text reset) (10 ∷ env_lines_text lines) more) ∙ b.parts ∙ append_assoc (reset_text other) (10 ∷ env_lines_text others) rest in
      let text : reset_text reset ≡ reset_text other = first_feed (reset_text reset) (reset_text other) (env_lines_text lines ++ more) (env_lines_text others ++ rest) (no_feed_reset reset reset_form) (no_feed_reset other b.reset_form) apart in
      record {
        same = sym (reset_once reset other reset_form b.reset_form text);
        alike_is = alike lines others more rest lines_form b.lines_form (behind_feed (reset_text reset) (reset_text other) (env_lines_text lines ++ more) (env_lines_text others ++ rest) text apart);
      }

  record Covers (others : List EnvLine) : Type 0 where
    most : done ≤ length (envs_of others)
    first : take done (envs_of others) ≡ take done (envs_of lines)

  -- it has the executed events
  covers : (others : List EnvLine) (rest : List ℕ) → Alike lines others rest → (Fewer lines others rest → steps ≤ length (envs_of others)) → Covers others
  covers others rest (inl (behind, is)) enough =
      let envs : envs_of others ≡ envs_of lines ++ envs_of behind = ap envs_of is ∙ envs_both lines behind in
      record {
        most = omega (arith, fewer, ap length envs, length-append (envs_of lines) (envs_of behind));
        first = ap (take done) envs ∙ take-append-le done (envs_of lines) (envs_of behind) fewer;
      }
  covers others rest (inr f) enough =
      let many = enough f in
      let most : done ≤ length (envs_of others) = omega arith in
      let envs : envs_of lines ≡ envs_of others ++ envs_of (f.next ∷ f.behind) = ap envs_of f.lines_are ∙ envs_both others (f.next ∷ f.behind) in
      record {
        most = most;
        first = sym (ap (take done) envs ∙ take-append-le done (envs_of others) (envs_of (f.next ∷ f.behind)) most);
      }

  -- so the lines of its run begin with these lines
  told_first : (run : Run hardware) (other : ResetLine) (last : BoardView) (envs : List Env) (whole : List ℕ) → other ≡ reset → done ≤ length envs → take done envs ≡ take done (envs_of lines) →
      IsOver run (reset_state (reset_of other)) envs last → TellsUpTo run run.count whole → (rest : List ℕ) × (whole ≡ told ++ rest)
  told_first run other last envs whole same most first over upto =
      let start : reset_state (reset_of other) ≡ reset_state (reset_of reset) = ap (λ (r : ResetLine). reset_state (reset_of r)) same in
      let over_here : IsOver run (reset_state (reset_of reset)) envs last = subst (λ (x : BoardView). IsOver run x envs last) start over in
      let passes : RunsFrom run (reset_state (reset_of reset)) (take done (envs_of lines)) =
      subst (λ (es : List Env). RunsFrom run (reset_state (reset_of reset)) es) first (passes_first hardware run (reset_state (reset_of reset)) last envs done most over_here) in
      let n = length (take done (envs_of lines)) in
      let fits = passes.count in
      let all : n + (run.count - n) ≡ run.count = omega arith in
      begins_alike hardware run (never run (subst IsReset (sym over_here.starts) starts)) n (run.count - n) told whole (has.on run passes).told (subst (λ (k : ℕ). TellsUpTo run k whole) (sym all) upto)

  some_rest : (others : List EnvLine) (rest : List ℕ) → (rest ≡ []) ⊎ (steps ≤ length (envs_of others)) → Fewer lines others rest → steps ≤ length (envs_of others)
  some_rest others rest (inl none) f = absurd (omega (arith, ap length (sym none ∙ f.rest_is), length-append (env_text f.next) (10 ∷ f.more)))
  some_rest others rest (inr enough) f = enough

  begins : (more whole : List ℕ) → IsTextOf hardware steps (read ++ more) whole → (rest : List ℕ) × (whole ≡ told ++ rest)
  begins more whole (inl (summary, text, p, is)) =
      let r = reading more p.reset p.lines p.rest p.begins in
      let c = covers p.lines p.rest r.alike_is (some_rest p.lines p.rest p.enough) in
      let t = taken steps done (envs_of p.lines) within c.most in
      let (rest, text_is) = told_first p.runs.run p.reset p.last (take steps (envs_of p.lines)) text r.same t.most (t.same ∙ c.first) p.runs.over p.told_is in
      (rest ++ summary_text summary, is ∙ ap (λ (x : List ℕ). x ++ summary_text summary) text_is ∙ append_assoc told rest (summary_text summary))
  begins more whole (inr (number, inl b)) = absurd (b.bad reset (env_lines_text lines ++ more) reset_form (append_assoc (reset_text reset) (10 ∷ env_lines_text lines) more))
  begins more whole (inr (number, inr b)) =
      let r = reading more b.reset b.lines b.rest b.begins in
      let c = covers b.lines b.rest r.alike_is (λ f. absurd (b.bad f.next f.more f.form f.rest_is)) in
      told_first b.told_is.run b.reset b.told_is.last (envs_of b.lines) whole r.same c.most c.first b.told_is.over b.told_is.told_is

  pub begins_each : BeginsEach hardware steps (reset_text reset ++ 10 ∷ env_lines_text lines) told
  begins_each = record { each = begins }

-- a prefix of each text of inputs that begin with some bytes is one for inputs that begin with more
pub begins_longer : (hardware : Hardware) (steps : ℕ) (read more told : List ℕ) → BeginsEach hardware steps read told → BeginsEach hardware steps (read ++ more) told
begins_longer hardware steps read more told begins =
    record { each = λ rest whole is. begins.each (more ++ rest) whole (subst (λ (bytes : List ℕ). IsTextOf hardware steps bytes whole) (append_assoc read more rest) is) }

-- the empty text is a prefix of each text
pub none_begins : (hardware : Hardware) (steps : ℕ) (read : List ℕ) → BeginsEach hardware steps read []
none_begins hardware steps read = record { each = λ more whole is. (whole, refl) }

-- what was read is a part of an input
pub is_part : (hardware : Hardware) (steps : ℕ) (old now : Option (List ℕ)) (read told : List ℕ) → GivesBytes old read now → BeginsEach hardware steps read told → OfBytes old (IsPart hardware steps told)
is_part hardware steps None now read told given begins = (read, record { read = read; more = []; parts = sym (append-nil read); begins = begins })
is_part hardware steps (Some bytes) now read told (left, is, parts) begins = record { read = read; more = left; parts = parts; begins = begins }
