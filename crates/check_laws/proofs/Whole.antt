-- What is accepted is safe.
use Rattle.std.proofs.Common.{◌≡◌, ◌≤◌, ◌+◌, ◌∙◌, ℕ, Bool, true, false, List, [], ◌∷◌, ◌<◌, inl, inr, slice_get, Option, Some, None, refl, sym, ap, subst, arith}
use Rattle.std.proofs.lemmas.List.{append-nil}
use Rattle.t_states.specs.Frame.{nmi_cost}
use Rattle.board_step.specs.Env.{IsEnv}
use Rattle.board_step.specs.Kind.{kind_of}
use Rattle.board_step.specs.Reset.{IsReset}
use Rattle.board_step.specs.Hardware.{Hardware}
use Rattle.board_step.specs.Run.{AcceptsAt, Run}
use Rattle.z80_actions.specs.Returns.{is_return}
use Rattle.board_step.specs.Safe.{KeepsWithout, Safe}
use Rattle.board_step.specs.State.{IsState, BoardView}
use Rattle.board_step.specs.Step.{Step, accepted, done, instr_draft, t_of}
use Rattle.board_step.specs.Trap.{Traps}
use Rattle.board_step.specs.declared.env.Env.{Env}
use Rattle.board_step.specs.declared.event.Event.{Event}
use Rattle.board_step.specs.declared.event.Kind.TheVariants as kinds
use Rattle.board_step.proofs.StepLemmas.{traps_accepting}
use Rattle.board_laws.proofs.Clocks.{accepts_by}
use Rattle.check_cover.specs.declared.program.Callee.{Callee}
use Rattle.cert_lines.specs.declared.proc.Proc.{Proc}
use Rattle.cert_form.specs.Contents.{CertificateView, nmi_among}
use Rattle.std.specs.Prelude.{IsSome, option_and_then}
use Rattle.check_rules.specs.Table.{IsTimed}
use Rattle.board_laws.specs.Words.{on_top}
use Rattle.check_laws.specs.Chain.{AcceptsInForm, waiting_words}
use Rattle.check_laws.specs.Placed.{Activations, ArePlaced, Under}
use Rattle.check_laws.specs.Board.{board_of}
use Rattle.check_laws.specs.Steps.{Executed, TakesInstruction, at_board, leaves, stays}
use Rattle.check_laws.proofs.Depth.{chain_timed}
use Rattle.check_laws.proofs.ExecutingLemmas.{executing}
use Rattle.check_laws.specs.Layout.{IsLaidOut, MainIsLaid, NmiIsLaid, RunsAreLaidOut, numbered}
use Rattle.check_laws.specs.Profile.{certified_profile, nmi_time}
use Rattle.check_laws.proofs.Accepting.{accepts, no_trap}
use Rattle.check_laws.proofs.Events.{same_board}
use Rattle.check_laws.proofs.Keeper.{Frame, Keeper, Move, begins as move_begins, begun_at, config_at, ends, inside, keeps, outside, safe_by, stands_at}
use Rattle.check_laws.proofs.MainEvents.{Taken, awake_executes, eventful, latched_accepts, main_goes, main_never, never_both, no_accept_instr, numbers_on, taken, takes_no_trap}
use Rattle.check_laws.proofs.Roles.{IsMainOf, IsNmiOf, main_of, nmi_is}
use Rattle.check_laws.proofs.Standing.{Config, Stands, Suspended, frame_of, main_callee, nmi_callee, under_nmi, under_words, words_of}
use Rattle.check_laws.proofs.Stepping.{alone, begins, inside_ends, inside_on, spent_within, within}

-- the frame of a configuration
frame_in : Option Suspended → Option Frame
frame_in None = None
frame_in (Some u) = Some (frame_of u)

-- ---- what is laid out

-- an event of a run began the routine that runs
record Began {hardware : Hardware} (run : Run hardware) (i : ℕ) (u : Frame) : Type 0 where
  from : ℕ
  before : from < i
  accepts : AcceptsAt run from
  at : u.at ≡ run.state_at from

main_laid : (rom : List ℕ) (cert : CertificateView) (main : Proc) → slice_get cert.procs 0 ≡ Some main → (c : Activations) (s : BoardView) → ArePlaced rom cert (numbered 0 main) [] c s → MainIsLaid rom cert s
main_laid rom cert main has c s placed = record { main = main; has = has; chain = c; placed = placed }

nmi_laid : (rom : List ℕ) (cert : CertificateView) (main nmi : Proc) → slice_get cert.procs 0 ≡ Some main → slice_get cert.procs 1 ≡ Some nmi → (c d : Activations) (s t : BoardView)
    → ArePlaced rom cert (numbered 0 main) [] c s → ArePlaced rom cert (numbered 1 nmi) (s.regs.pc ∷ words_of c) d t → NmiIsLaid rom cert s t
unfolding main_laid
nmi_laid rom cert main nmi has_main has c d s t under placed = record {
  main = main_laid rom cert main has_main c s under;
  nmi = nmi;
  has = has;
  chain = d;
  placed = subst (λ (words : List ℕ). ArePlaced rom cert (numbered 1 nmi) (s.regs.pc ∷ on_top c.words words) d t) (append-nil (waiting_words c.waiting)) placed;
}

module _ (rom : List ℕ) (cert : CertificateView) (acc : AcceptsInForm rom cert) (main : Proc) (is_main : IsMainOf cert main) where
  abbrev MainIs : Callee
  MainIs = main_callee rom cert acc main is_main

  -- ---- with an NMI routine

  module _ (nmi : Proc) (time b : ℕ) (budget : cert.budget ≡ Some b) (is_nmi : IsNmiOf cert main nmi time) where
    abbrev NmiIs : Callee
    NmiIs = nmi_callee rom cert acc main is_main nmi time is_nmi

    abbrev StandsAs : Config → BoardView → Type 0
    StandsAs g s = Stands rom cert MainIs NmiIs time g s

    abbrev with_under : Activations → Option Suspended → Config
    with_under c u = record { now = c; under = u }

    module _ (c : Activations) (u : Suspended) (s : BoardView) (st : StandsAs (with_under c (Some u)) s) (env : Env) (is_env : IsEnv env) where
      under_here : Under cert NmiIs (under_words (Some u))
      under_here = under_nmi rom cert acc main is_main nmi time is_nmi u st.inside.context

      taking : Executed rom cert NmiIs (under_words (Some u)) c s env
      taking = executing rom cert NmiIs (under_words (Some u)) c s env acc under_here (inr (subst (λ (o : Option ℕ). IsSome o) (sym is_nmi.time_is) refl)) st.numbers is_env st.placed

      kind_here : kind_of s ≡ kinds.Instr
      kind_here = awake_executes s st.inside.unlatched st.inside.awake

      inside_never : Traps (certified_profile rom cert) s env None
      inside_never = takes_no_trap rom cert acc NmiIs (under_words (Some u)) c s env kind_here st.placed taking

      timed_here : IsTimed c.of.proc
      timed_here = chain_timed rom cert NmiIs c.first c.of c.entry c.waiting st.placed.chain (subst (λ (o : Option ℕ). IsSome o) (sym is_nmi.time_is) refl)

    never : (g : Config) (s : BoardView) (env : Env) → StandsAs g s → IsEnv env → Traps (certified_profile rom cert) s env None
    never g s env st is_env = by g.under st
      where
        alone_by : (l : Bool) → s.latched ≡ l → StandsAs (with_under g.now None) s → Traps (certified_profile rom cert) s env None
        alone_by true on st = traps_accepting (certified_profile rom cert) s env None (latched_accepts s on) (no_trap rom cert acc main is_main nmi time b budget is_nmi g.now s env is_env st on)
        alone_by false off st = main_never rom cert acc main is_main NmiIs time g.now s st off env is_env

        by : (u : Option Suspended) → StandsAs (with_under g.now u) s → Traps (certified_profile rom cert) s env None
        by None st = alone_by s.latched refl st
        by (Some u) st = inside_never g.now u s st env is_env

    abbrev Next : Option Suspended → BoardView → Env → Event → BoardView → Type 0
    Next u s env event new = (h : Config) × StandsAs h new × Move (certified_profile rom cert) time (frame_in u) (frame_in h.under) s env event new

    next : (g : Config) (s new : BoardView) (env : Env) (event : Event) → StandsAs g s → IsEnv env → Step (board_of rom cert) s env event new → Next g.under s env event new
    unfolding frame_in
    next g s new env event st is_env step = by g.under st
      where
        alone_by : (l : Bool) → s.latched ≡ l → StandsAs (with_under g.now None) s → Next None s env event new
        alone_by true on st =
            let kind = latched_accepts s on in
            let x = step.accepts kind in
            let e = accepts rom cert acc main is_main nmi time b budget is_nmi g.now s env is_env st on new (numbers_on rom cert acc s new env event st.numbers is_env step)
            (same_board cert s (accepted (at_board rom cert s env)) new nmi_cost env x.new_is) (eventful rom cert acc s new env event nmi_cost st.numbers step x.t) in
            (with_under e.next (Some (record { context = g.now; at = s; spent = 11 })), e.stands, move_begins (step.kind ∙ kind) refl (ap (λ (n : ℕ). let f : Frame = record { at = s; spent = n } in Some f) (sym x.t)) e.sp)
        alone_by false off st =
            let m = main_goes rom cert acc main is_main NmiIs time g.now s st off new env event is_env step in
            (with_under m.next None, m.stands, outside m.no_accept refl refl)

        within_by : (u : Suspended) → (st : StandsAs (with_under g.now (Some u)) s) → Next (Some u) s env event new
        within_by u st = takes x.takes
          where
            x : Executed rom cert NmiIs (under_words (Some u)) g.now s env
            x = taking g.now u s st env is_env

            kind : kind_of s ≡ kinds.Instr
            kind = kind_here g.now u s st env is_env

            w : Taken rom cert acc s new env event x.instr
            w = taken rom cert acc s new env event x.instr st.numbers is_env step kind x.stands

            timed : IsTimed g.now.of.proc
            timed = timed_here g.now u s st env is_env

            numbers : IsState new
            numbers = numbers_on rom cert acc s new env event st.numbers is_env step

            takes : TakesInstruction rom cert NmiIs (under_words (Some u)) g.now s (done (at_board rom cert s env) x.instr) (t_of (at_board rom cert s env) x.instr) (is_return x.instr (instr_draft (at_board rom cert s env) x.instr).taken) → Next (Some u) s env event new
            takes (stays n) =
                let e = inside_on rom cert acc main is_main nmi time b budget is_nmi g.now u s (done (at_board rom cert s env) x.instr) new (t_of (at_board rom cert s env) x.instr) st w.numbers numbers w.board (eventful rom cert acc s new env event (t_of (at_board rom cert s env) x.instr) st.numbers step w.t) (x.halts timed) (x.keeps_i timed) n in
                (within rom cert acc main is_main nmi time b budget is_nmi e.next (record u { spent = u.spent + t_of (at_board rom cert s env) x.instr }), e.stands, inside (frame_of u) (no_accept_instr event.kind (step.kind ∙ kind)) refl (ap (λ (n : ℕ). let f : Frame = record { at = u.at; spent = u.spent + n } in Some f) (sym w.t)) e.sp)
            takes (leaves l) =
                let e = inside_ends rom cert acc main is_main nmi time b budget is_nmi g.now u s (done (at_board rom cert s env) x.instr) new (t_of (at_board rom cert s env) x.instr) (is_return x.instr (instr_draft (at_board rom cert s env) x.instr).taken) st w.numbers numbers w.board (eventful rom cert acc s new env event (t_of (at_board rom cert s env) x.instr) st.numbers step w.t) (x.keeps_i timed) l in
                (with_under u.context None, e.stands, ends (frame_of u) (step.kind ∙ kind) refl refl (record { instr = x.instr; stands = x.stands; returns = l.returns }) e.back (subst (λ (n : ℕ). u.spent + n ≤ time) (sym w.t) e.time_is))

        by : (u : Option Suspended) → StandsAs (with_under g.now u) s → Next u s env event new
        by None st = alone_by s.latched refl st
        by (Some u) st = within_by u st

    one_frame : (f g : Frame) → Some f ≡ Some g → f ≡ g
    one_frame f g e = cc

    no_frame : (P : Type 0) (f : Frame) → (let o : Option Frame = None in o) ≡ Some f → P
    no_frame P f e = absurd (cc)

    never_longer : (g : Config) (s : BoardView) (f : Frame) → StandsAs g s → frame_in g.under ≡ Some f → f.spent ≤ time
    unfolding frame_in
    never_longer g s f st e = by g.under st e
      where
        by : (u : Option Suspended) → StandsAs (with_under g.now u) s → frame_in u ≡ Some f → f.spent ≤ time
        by None st e = no_frame _ f e
        by (Some u) st e = subst (λ (k : Frame). k.spent ≤ time) (one_frame (frame_of u) f e) (spent_within rom cert acc main is_main nmi time b budget is_nmi g.now u s st)

    keeper : Keeper (certified_profile rom cert) time
    unfolding frame_in
    keeper = record {
      C = Config;
      Stands = StandsAs;
      frame = λ g. frame_in g.under;
      first = λ s r. let f = begins rom cert acc main is_main NmiIs time s r in (alone rom cert acc main is_main f.0, f.1);
      none_first = λ s r. refl;
      never = never;
      next = next;
      within = never_longer;
    }

    pub safe_with : Safe (certified_profile rom cert) (nmi_time cert)
    safe_with = subst (λ (o : Option ℕ). Safe (certified_profile rom cert) o) (sym is_nmi.told) (safe_by (certified_profile rom cert) time keeper)

    laid_by : (run : Run (board_of rom cert)) (i : ℕ) (g : Config) → StandsAs g (run.state_at i) → ((f : Frame) → frame_in g.under ≡ Some f → Began run i f) → IsLaidOut rom cert run i
    unfolding frame_in
    laid_by run i g st began = by g.under st began
      where
        by : (u : Option Suspended) → StandsAs (with_under g.now u) (run.state_at i) → ((f : Frame) → frame_in u ≡ Some f → Began run i f) → IsLaidOut rom cert run i
        by None st began = inl (main_laid rom cert main is_main.at g.now (run.state_at i) st.placed)
        by (Some u) st began =
            let b = began (frame_of u) refl in
            inr (
              b.from,
              b.before,
              b.accepts,
              subst (λ (s : BoardView). NmiIsLaid rom cert s (run.state_at i)) b.at
                  (nmi_laid rom cert main nmi is_main.at is_nmi.at u.context g.now u.at (run.state_at i) st.inside.context st.placed),
            )

    pub laid_with : RunsAreLaidOut rom cert
    unfolding keeper
    laid_with run starts i le =
        let profile = certified_profile rom cert in
        laid_by run i (config_at profile time keeper run starts i) (stands_at profile time keeper run starts i le)
        (λ f is. let b = begun_at profile time keeper run starts i le f is in record { from = b.from; before = b.before; accepts = b.accepts; at = b.at })

  -- ---- without one

  module _ (none : cert.budget ≡ None) where
    abbrev StandsAlone : Activations → BoardView → Type 0
    StandsAlone c s = Stands rom cert MainIs MainIs 0 (alone rom cert acc main is_main c) s

    no_frame_now : (P : Type 0) (f : Frame) → (let o : Option Frame = None in o) ≡ Some f → P
    no_frame_now P f e = absurd (cc)

    keeper_alone : Keeper (certified_profile rom cert) 0
    keeper_alone = record {
      C = Activations;
      Stands = StandsAlone;
      frame = λ c. None;
      first = λ s r. begins rom cert acc main is_main MainIs 0 s r;
      none_first = λ s r. refl;
      never = λ c s env st is_env. main_never rom cert acc main is_main MainIs 0 c s st (st.quiet none).no_latch env is_env;
      next = λ c s new env event st is_env step.
          let m = main_goes rom cert acc main is_main MainIs 0 c s st (st.quiet none).no_latch new env event is_env step in
          (m.next, m.stands, outside m.no_accept refl refl);
      within = λ c s f st e. no_frame_now _ f e;
    }

    keeps_alone : (run : Run (board_of rom cert)) → IsReset (run.state_at 0) → KeepsWithout (certified_profile rom cert) run
    unfolding keeper_alone
    keeps_alone run starts = record {
      never_traps = (keeps (certified_profile rom cert) 0 keeper_alone run starts).never_traps;
      never_accepts = λ i a.
          let st = stands_at (certified_profile rom cert) 0 keeper_alone run starts i (omega (arith, a.within)) in
          let s = run.state_at i in
          let kind = (run.steps i a.within).kind in
          let on = accepts_by s.latched s.halted (sym kind ∙ a.accepts) in
          never_both ⊥ s.latched on (st.quiet none).no_latch;
    }

    pub laid_without : RunsAreLaidOut rom cert
    unfolding keeper_alone
    laid_without run starts i le =
        let profile = certified_profile rom cert in
        inl (main_laid rom cert main is_main.at (config_at profile 0 keeper_alone run starts i) (run.state_at i) (stands_at profile 0 keeper_alone run starts i le).placed)

    no_routine : (procs : List Proc) → nmi_among procs None ≡ None
    no_routine [] = refl
    no_routine (main ∷ []) = refl
    no_routine (main ∷ nmi ∷ subs) = refl

    no_time : nmi_time cert ≡ None
    no_time = ap (option_and_then (λ (proc : Proc). proc.time)) (ap (nmi_among cert.procs) none ∙ no_routine cert.procs)

    pub safe_without : Safe (certified_profile rom cert) (nmi_time cert)
    safe_without = subst (λ (o : Option ℕ). Safe (certified_profile rom cert) o) (sym no_time) keeps_alone

-- what is accepted is safe
pub safe : (rom : List ℕ) (cert : CertificateView) → AcceptsInForm rom cert → Safe (certified_profile rom cert) (nmi_time cert)
safe rom cert acc = by cert.budget refl
  where
    role : (main : Proc) × IsMainOf cert main
    role = main_of rom cert acc

    by : (o : Option ℕ) → cert.budget ≡ o → Safe (certified_profile rom cert) (nmi_time cert)
    by None e = safe_without rom cert acc role.0 role.1 e
    by (Some b) e =
        let n = nmi_is rom cert acc role.0 role.1 b e in
        safe_with rom cert acc role.0 role.1 n.0 n.1 b e n.2

-- and activations are laid out on the board of each of its runs
pub laid_out : (rom : List ℕ) (cert : CertificateView) → AcceptsInForm rom cert → RunsAreLaidOut rom cert
laid_out rom cert acc = by cert.budget refl
  where
    role : (main : Proc) × IsMainOf cert main
    role = main_of rom cert acc

    by : (o : Option ℕ) → cert.budget ≡ o → RunsAreLaidOut rom cert
    by None e = laid_without rom cert acc role.0 role.1 e
    by (Some b) e =
        let n = nmi_is rom cert acc role.0 role.1 b e in
        laid_with rom cert acc role.0 role.1 n.0 n.1 b e n.2
