-- One more event.
use Rattle.std.proofs.Common.{Result, Ok, ◌≡◌, ◌≢◌, ◌<◌, ◌+◌, ◌-◌, inl, inr, ℕ, suc, Bool, true, false, List, drop, [], ◌∷◌, ◌++◌, length, length-append, slice_get, Option, Some, None, refl, sym, ap, subst, ◌∙◌, arith, is_some}
use Rattle.std.proofs.lemmas.Bool.{cases_eq, cases_lt, false≢true}
use Rattle.board_step.specs.Context.{context_of}
use Rattle.board_step.specs.Hardware.{Hardware}
use Rattle.board_step.specs.Kind.{kind_of}
use Rattle.z80_actions.specs.Known.{IsKnownAt}
use Rattle.z80_actions.specs.declared.known.Known.{Known}
use Rattle.board_fetch.proofs.DecodedLemmas.{decoded_once}
use Rattle.t_states.specs.Costs.{cost_of}
use Rattle.z80_decode.specs.declared.fault.DecodeFault.{DecodeFault}
use Rattle.z80_actions.specs.Action.{instr_of}
use Rattle.z80_decode.specs.declared.instr.Instr.{Instr}
use Rattle.z80_decode.specs.declared.instr.Instr.TheVariants.{Return, ReturnIf, ReturnFromInterrupt, ReturnFromNonMaskable}
use Rattle.board_step.specs.Run.{AcceptsAt, EndsAt, ReturnsTo, Run, spent, time_before}
use Rattle.z80_actions.specs.Returns.{is_return}
use Rattle.board_step.specs.State.{BoardView}
use Rattle.board_step.specs.Step.{Step, instr_draft, t_of}
use Rattle.board_step.specs.declared.env.Env.{Env}
use Rattle.board_step.specs.declared.event.Event.{Event}
use Rattle.board_step.specs.declared.event.Kind.{Kind}
use Rattle.board_step.specs.declared.event.Kind.TheVariants as kinds
use Rattle.board_step.proofs.SingleLemmas.{one_event, one_state}
use Rattle.run_lines.specs.Follows.{AllReturned, Follows, HasTold, IsOpen, Knows, RunsFrom, SaysReturned, StandsAfter, begins, ends, goes_on, line_of_note, stays}
use Rattle.run_lines.specs.Lines.{return_line}
use Rattle.run_lines.specs.Told.{NeverNests, Tells, TellsUpTo, begins as tells_begin, ends as tells_end, nothing}
use Rattle.std.proofs.lemmas.Option.{slice_get-get_or, slice_get_within, get_or_from_slice_get}
use Rattle.std.proofs.Math.Seq.{get_or-append_seam}
use Rattle.std.proofs.lemmas.List.{get_or_append_left}
use Rattle.run_lines.specs.declared.teller.Moment.{Moment}
use Rattle.run_lines.specs.declared.teller.Note.{Note}
use Rattle.run_lines.specs.declared.teller.Note.TheVariants as notes
use Rattle.run_lines.specs.declared.teller.Teller.{Teller}

clash : (k : Kind) → k ≡ kinds.Accept → k ≡ kinds.Instr → ⊥
clash k p q = cc

-- ---- whether an event returns

same_instr : (i j : Instr) → (let r : Result Instr DecodeFault = Ok i in r) ≡ Ok j → i ≡ j
same_instr i j e = cc

pub says_some : (hardware : Hardware) (s new : BoardView) (env : Env) (event : Event) (known : Known) (returned : Bool) → kind_of s ≡ kinds.Instr → IsKnownAt hardware.rom s.regs.pc known → Step hardware s env event new →
    ((rom : List ℕ) (at : ℕ) (taken : Bool) → IsKnownAt rom at known → event.t ≡ cost_of (instr_of known.action) taken → returned ≡ is_return (instr_of known.action) taken) → SaysReturned hardware s env returned
says_some hardware s new env event known returned kind is step told =
    let c = context_of hardware s env in
    let x = step.executes kind in
    let done : x.instr ≡ (instr_of known.action) = same_instr x.instr (instr_of known.action) (decoded_once (drop s.regs.pc hardware.rom) (Ok x.instr) (Ok (instr_of known.action)) x.stands is.stands) in
    let here = told hardware.rom s.regs.pc (instr_draft c (instr_of known.action)).taken is (x.t ∙ ap (t_of c) done) in
    record {
      is = λ k instr stands.
          here ∙ ap (λ (i : Instr). is_return i (instr_draft c i).taken) (same_instr (instr_of known.action) instr (decoded_once (drop s.regs.pc hardware.rom) (Ok (instr_of known.action)) (Ok instr) is.stands stands));
      none = λ on. kind;
    }

pub says_none : (hardware : Hardware) (s : BoardView) (env : Env) → (kind_of s ≡ kinds.Instr → ⊥) → SaysReturned hardware s env false
says_none hardware s env none = record { is = λ kind instr stands. absurd (none kind); none = λ on. absurd (false≢true on) }

-- the instruction at the program counter decides whether the event returns
pub says_known : (hardware : Hardware) (s : BoardView) (env : Env) (known : Known) → kind_of s ≡ kinds.Instr → IsKnownAt hardware.rom s.regs.pc known →
    SaysReturned hardware s env (is_return (instr_of known.action) (instr_draft (context_of hardware s env) (instr_of known.action)).taken)
says_known hardware s env known kind is =
    let c = context_of hardware s env in
    record {
      is = λ k instr stands.
          ap (λ (i : Instr). is_return i (instr_draft c i).taken) (same_instr (instr_of known.action) instr (decoded_once (drop s.regs.pc hardware.rom) (Ok (instr_of known.action)) (Ok instr) is.stands stands));
      none = λ on. kind;
    }

-- an instruction that may not return does not
pub returns_never : (instr : Instr) (taken : Bool) → is_return instr true ≡ false → is_return instr taken ≡ false
returns_never Return taken e = e
returns_never (ReturnIf condition) true e = e
returns_never (ReturnIf condition) false e = refl
returns_never ReturnFromInterrupt taken e = e
returns_never ReturnFromNonMaskable taken e = e
returns_never _ taken e = e

-- an instruction is not reported if no routine runs or if it does not return
pub follows_quietly : (running : Option Moment) (kind : Kind) (before after : Moment) (returned : Bool) → kind ≢ kinds.Accept → (is_some running ≡ true → returned ≡ false) →
    Follows running kind before after returned notes.Nothing running
follows_quietly (Some began) kind before after returned other none = goes_on began other refl (λ on. absurd (false≢true (sym (none refl) ∙ on))) refl refl
follows_quietly None kind before after returned other none = stays other refl refl refl

-- ---- an event of a run

module _ (hardware : Hardware) (run : Run hardware) (never : NeverNests run) (n : ℕ) (within : n < run.count) (returned : Bool) (says : SaysReturned hardware (run.state_at n) (run.env_at n) returned) (before after : Moment)
    (before_sp : before.sp ≡ (run.state_at n).regs.sp) (before_time : before.time ≡ time_before run n) (after_sp : after.sp ≡ (run.state_at (suc n)).regs.sp) (after_time : after.time ≡ time_before run (suc n)) where
  abbrev step : Step hardware (run.state_at n) (run.env_at n) (run.event_at n) (run.state_at (suc n))
  step = run.steps n within

  returns_to : (from : ℕ) → from < n → returned ≡ true → after.sp ≡ (run.state_at from).regs.sp → ReturnsTo run from n
  returns_to from earlier on sp =
      let kind = says.none on in
      let x = step.executes kind in
      record {
        later = earlier;
        within = within;
        kind = step.kind ∙ kind;
        instr = x.instr;
        stands = x.stands;
        returns = sym (says.is kind x.instr x.stands) ∙ on;
        sp = sym after_sp ∙ sp;
      }

  returned_by : (from : ℕ) → ReturnsTo run from n → returned ≡ true
  returned_by from r = says.is (sym step.kind ∙ r.kind) r.instr r.stands ∙ r.returns

  module _ (began : Moment) (o : IsOpen run n began) where
    -- no other event before this one began a routine that still runs
    ended_before : (from : ℕ) → from < n → from ≢ o.from → AcceptsAt run from → (j : ℕ) × (j < n) × ReturnsTo run from j
    ended_before from earlier other a =
        elim (cases_lt from o.from) [
          | inl less ↦
              let e = never from o.from less a o.accepts in
              let first = e.1 in
              let lt = o.earlier in
              (e.0, omega arith, e.2.returns)
          | inr more ↦ elim (cases_lt o.from from) [
            | inl less ↦
                let e = never o.from from less o.accepts a in
                let first = e.1 in
                absurd (o.unended e.0 (omega arith) e.2.returns)
            | inr same ↦ let e : from ≡ o.from = omega arith in absurd (other e)
          ]
        ]

    only_one : (P : Type 0) (from : ℕ) → (from ≡ o.from → P) → (from ≢ o.from → P) → P
    only_one P from here there = elim (cases_eq from o.from) [
      | inl same ↦ here same
      | inr other ↦ there other
    ]

    -- the routine ends here
    ended : (kind : (run.event_at n).kind ≢ kinds.Accept) → returned ≡ true → after.sp ≡ began.sp → EndsAt run o.from n × AllReturned run (suc n)
    ended kind on sp =
        let back = returns_to o.from o.earlier on (sp ∙ o.sp) in
        (record { accepts = o.accepts; returns = back; first = o.unended }, record { each = each back })
      where
        each : ReturnsTo run o.from n → (from : ℕ) → from < suc n → AcceptsAt run from → (j : ℕ) × (j < suc n) × ReturnsTo run from j
        each back from earlier a = elim (cases_lt from n) [
          | inl less ↦ only_one ((j : ℕ) × (j < suc n) × ReturnsTo run from j) from
              (λ same. (n, omega arith, subst (λ (k : ℕ). ReturnsTo run k n) (sym same) back))
              (λ other. let e = ended_before from less other a in let before = e.1 in (e.0, omega arith, e.2))
          | inr more ↦ let here : from ≡ n = omega arith in absurd (kind (subst (λ (k : ℕ). (run.event_at k).kind ≡ kinds.Accept) here a.accepts))
        ]

    -- or it runs on, and no other ends here
    no_return : (returned ≡ true → after.sp ≢ began.sp) → ReturnsTo run o.from n → ⊥
    no_return not r = not (returned_by o.from r) (after_sp ∙ r.sp ∙ sym o.sp)

    none_ends : (returned ≡ true → after.sp ≢ began.sp) → (from : ℕ) → EndsAt run from n → ⊥
    none_ends not from e = only_one ⊥ from
        (λ same. no_return not (subst (λ (k : ℕ). ReturnsTo run k n) same e.returns))
        (λ other. let b = ended_before from e.returns.later other e.accepts in e.first b.0 b.1 b.2)

    runs_on : (returned ≡ true → after.sp ≢ began.sp) → IsOpen run (suc n) began
    runs_on not = record {
      from = o.from;
      accepts = o.accepts;
      earlier = let lt = o.earlier in omega arith;
      unended = λ j lt r. elim (cases_lt j n) [
        | inl less ↦ o.unended j less r
        | inr more ↦ let here : j ≡ n = omega arith in no_return not (subst (λ (k : ℕ). ReturnsTo run o.from k) here r)
      ];
      sp = o.sp;
      time = o.time;
    }

  -- no routine runs, and none ends here
  none_ends_here : AllReturned run n → (from : ℕ) → EndsAt run from n → ⊥
  none_ends_here all from e = let b = all.each from e.returns.later e.accepts in e.first b.0 b.1 b.2

  all_returned : (run.event_at n).kind ≢ kinds.Accept → AllReturned run n → AllReturned run (suc n)
  all_returned kind all = record {
    each = λ from earlier a. elim (cases_lt from n) [
      | inl less ↦ let b = all.each from less a in let before = b.1 in (b.0, omega arith, b.2)
      | inr more ↦ let here : from ≡ n = omega arith in absurd (kind (subst (λ (k : ℕ). (run.event_at k).kind ≡ kinds.Accept) here a.accepts))
    ];
  }

  just_begun : AcceptsAt run n → IsOpen run (suc n) before
  just_begun a = record {
    from = n;
    accepts = a;
    earlier = omega arith;
    unended = λ j lt r. let later = r.later in absurd (omega arith);
    sp = before_sp;
    time = before_time;
  }

  -- the report of an event, and what is known after it
  pub followed : (running next : Option Moment) (note : Note) → Knows run n running → Follows running (run.event_at n).kind before after returned note next →
      Tells run n (line_of_note n (run.state_at n).regs.pc note) × Knows run (suc n) next
  followed running next note knows (begins kind told is) =
      let a : AcceptsAt run n = record { within = within; accepts = kind } in
      (tells_begin a (ap (line_of_note n (run.state_at n).regs.pc) told), subst (Knows run (suc n)) (sym is) (just_begun a))
  followed running next note knows (ends began kind was on sp told is) =
      let o : IsOpen run n began = subst (Knows run n) was knows in
      let e = ended began o kind on sp in
      let time : after.time - began.time ≡ spent run o.from n = ap (λ (t : ℕ). t - began.time) after_time ∙ ap (λ (t : ℕ). time_before run (suc n) - t) o.time in
      (tells_end o.from e.0 (ap (line_of_note n (run.state_at n).regs.pc) told ∙ ap (return_line n) time), subst (Knows run (suc n)) (sym is) e.1)
  followed running next note knows (goes_on began kind was not told is) =
      let o : IsOpen run n began = subst (Knows run n) was knows in
      (nothing (λ a. kind a.accepts) (none_ends began o not) (ap (line_of_note n (run.state_at n).regs.pc) told), subst (Knows run (suc n)) (sym (is ∙ was)) (runs_on began o not))
  followed running next note knows (stays kind was told is) =
      let all : AllReturned run n = subst (Knows run n) was knows in
      (nothing (λ a. kind a.accepts) (none_ends_here all) (ap (line_of_note n (run.state_at n).regs.pc) told), subst (Knows run (suc n)) (sym (is ∙ was)) (all_returned kind all))

-- ---- all runs that begin the same way

got : {X : Type 0} (xs : List X) (x y : X) (i : ℕ) → slice_get xs i ≡ Some y → slice_get (xs ++ x ∷ []) i ≡ Some y
got {X = X} xs x y i h =
    let within = slice_get_within xs i y h in
    let more : i < length (xs ++ x ∷ []) = omega (arith, within, length-append xs (x ∷ [])) in
    slice_get-get_or (xs ++ x ∷ []) i y more ∙ ap (λ (z : X). Some z) (get_or_append_left xs (x ∷ []) y i within ∙ get_or_from_slice_get xs i y y h)

got_last : {X : Type 0} (xs : List X) (x : X) → slice_get (xs ++ x ∷ []) (length xs) ≡ Some x
got_last {X = X} xs x =
    let more : length xs < length (xs ++ x ∷ []) = omega (arith, length-append xs (x ∷ [])) in
    slice_get-get_or (xs ++ x ∷ []) (length xs) x more ∙ ap (λ (z : X). Some z) (get_or-append_seam xs x [] x)

-- at the beginning
pub told_none : (hardware : Hardware) (start : BoardView) → HasTold hardware start [] [] start (record { events = 0; time = 0; running = None })
unfolding TellsUpTo
told_none hardware start = record { on = λ run p. record { state = p.starts; told = refl; knows = record { each = λ from earlier a. absurd (omega arith) }; time = refl; events = refl } }

-- one more event
pub told_more : (hardware : Hardware) (start : BoardView) → ((run : Run hardware) → run.state_at 0 ≡ start → NeverNests run) → (envs : List Env) (text : List ℕ) (s new : BoardView) (env : Env) (event : Event) (teller next : Teller) (note : Note) (returned : Bool) →
    HasTold hardware start envs text s teller → Step hardware s env event new → SaysReturned hardware s env returned → next.events ≡ teller.events + 1 → next.time ≡ teller.time + event.t →
    Follows teller.running event.kind (record { sp = s.regs.sp; time = teller.time }) (record { sp = new.regs.sp; time = next.time }) returned note next.running →
    HasTold hardware start (envs ++ env ∷ []) (text ++ line_of_note teller.events event.at note) new next
unfolding TellsUpTo
told_more hardware start never envs text s new env event teller next note returned told stepped says events time follows = record { on = on }
  where
    on : (run : Run hardware) → RunsFrom run start (envs ++ env ∷ []) → StandsAfter run (length (envs ++ env ∷ [])) (text ++ line_of_note teller.events event.at note) new next
    on run p =
        let n = length envs in
        let count : n + 1 ≡ length (envs ++ env ∷ []) = omega (arith, length-append envs (env ∷ [])) in
        let suc_n : suc n ≡ length (envs ++ env ∷ []) = omega arith in
        let many = p.count in
        let within : n < run.count = omega arith in
        let so_far = told.on run (record { starts = p.starts; count = omega arith; envs_are = λ i e h. p.envs_are i e (got envs env e i h) }) in
        let same_env : run.env_at n ≡ env = p.envs_are n env (got_last envs env) in
        let here : Step hardware s env (run.event_at n) (run.state_at (suc n)) =
        subst (λ (x : BoardView). Step hardware x env (run.event_at n) (run.state_at (suc n))) so_far.state (subst (λ (x : Env). Step hardware (run.state_at n) x (run.event_at n) (run.state_at (suc n))) same_env (run.steps n within)) in
        let same_event : run.event_at n ≡ event = one_event hardware s (run.state_at (suc n)) new env (run.event_at n) event here stepped in
        let same_state : run.state_at (suc n) ≡ new = one_state hardware s (run.state_at (suc n)) new env (run.event_at n) event here stepped in
        let says_there : SaysReturned hardware (run.state_at n) (run.env_at n) returned =
        subst (λ (x : BoardView). SaysReturned hardware x (run.env_at n) returned) (sym so_far.state) (subst (λ (x : Env). SaysReturned hardware s x returned) (sym same_env) says) in
        let t : time_before run (suc n) ≡ next.time = ap (λ (v : Event). time_before run n + v.t) same_event ∙ ap (λ (x : ℕ). x + event.t) so_far.time ∙ sym time in
        let f = followed hardware run (never run p.starts) n within returned says_there (record { sp = s.regs.sp; time = teller.time }) (record { sp = new.regs.sp; time = next.time })
        (ap (λ (x : BoardView). x.regs.sp) (sym so_far.state)) (sym so_far.time) (ap (λ (x : BoardView). x.regs.sp) (sym same_state)) (sym t)
        teller.running next.running note so_far.knows (subst (λ (v : Event). Follows teller.running v.kind (record { sp = s.regs.sp; time = teller.time }) (record { sp = new.regs.sp; time = next.time }) returned note next.running) (sym same_event) follows) in
        let at : (run.state_at n).regs.pc ≡ event.at = ap (λ (x : BoardView). x.regs.pc) so_far.state ∙ sym stepped.at in
        let line : line_of_note n (run.state_at n).regs.pc note ≡ line_of_note teller.events event.at note =
        ap (λ (pc : ℕ). line_of_note n pc note) at ∙ ap (λ (k : ℕ). line_of_note k event.at note) so_far.events in
        subst (λ (k : ℕ). StandsAfter run k (text ++ line_of_note teller.events event.at note) new next) suc_n (record {
          state = same_state;
          told = (text, so_far.told, record { line = line_of_note teller.events event.at note; tells = subst (Tells run n) line f.0; is = refl });
          knows = f.1;
          time = t;
          events = let e = so_far.events in omega arith;
        })
