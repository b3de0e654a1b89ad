-- Events while only main code has activations.
use Rattle.std.proofs.Common.{◌≡◌, ◌≢◌, ◌≤◌, ◌∙◌, ℕ, Bool, true, false, cond, List, [], drop, inl, None, Result, Ok, refl, sym, ap, subst}
use Rattle.z80_decode.specs.declared.instr.Instr.{Instr}
use Rattle.z80_decode.specs.declared.fault.DecodeFault.{DecodeFault}
use Rattle.t_states.specs.Frame.{idle_cost}
use Rattle.board_fetch.specs.Decoded.{StandsAt}
use Rattle.board_step.specs.Env.{IsEnv}
use Rattle.board_step.specs.Kind.{kind_of}
use Rattle.board_step.specs.State.{IsState, BoardView}
use Rattle.board_step.specs.Step.{Step, done, t_of, ticked}
use Rattle.board_step.specs.Trap.{Traps}
use Rattle.board_step.specs.declared.env.Env.{Env}
use Rattle.board_step.specs.declared.event.Event.{Event}
use Rattle.board_step.specs.declared.event.Kind.{Kind}
use Rattle.board_step.specs.declared.event.Kind.TheVariants as kinds
use Rattle.board_fetch.proofs.DecodedLemmas.{decoded_once}
use Rattle.board_step.proofs.SingleLemmas.{takes_time}
use Rattle.board_step.proofs.StateRangeLemmas.{done_keeps, step_keeps}
use Rattle.board_step.proofs.StepLemmas.{traps_executing, traps_idling}
use Rattle.board_laws.proofs.Clocks.{cleared, clocked}
use Rattle.board_laws.specs.Clock.{Clocked}
use Rattle.check_cover.specs.declared.program.Callee.{Callee}
use Rattle.cert_lines.specs.declared.proc.Proc.{Proc}
use Rattle.cert_form.specs.Contents.{CertificateView}
use Rattle.check_laws.specs.Chain.{AcceptsInForm}
use Rattle.check_laws.specs.Placed.{Activations, ArePlaced}
use Rattle.check_laws.specs.Board.{board_of}
use Rattle.check_laws.specs.Steps.{Executed, TakesInstruction, at_board, leaves, stays}
use Rattle.check_laws.proofs.ExecutingLemmas.{executing}
use Rattle.check_laws.specs.Profile.{certified_profile, has_row}
use Rattle.check_laws.proofs.Events.{Eventful, same_board}
use Rattle.check_laws.proofs.Roles.{IsMainOf, starts_here}
use Rattle.check_laws.proofs.Standing.{SameBoard, Stands, main_callee, under_main}
use Rattle.check_laws.proofs.Stepping.{alone, idle_on, main_on}

-- ---- kinds of events

pub latched_accepts : (s : BoardView) → s.latched ≡ true → kind_of s ≡ kinds.Accept
latched_accepts s e = ap (λ (b : Bool). cond b kinds.Accept (cond s.halted kinds.Idle kinds.Instr)) e

pub halted_idles : (s : BoardView) → s.latched ≡ false → s.halted ≡ true → kind_of s ≡ kinds.Idle
halted_idles s e h = ap (λ (b : Bool). cond b kinds.Accept (cond s.halted kinds.Idle kinds.Instr)) e ∙ ap (λ (b : Bool). cond b kinds.Idle kinds.Instr) h

pub awake_executes : (s : BoardView) → s.latched ≡ false → s.halted ≡ false → kind_of s ≡ kinds.Instr
awake_executes s e h = ap (λ (b : Bool). cond b kinds.Accept (cond s.halted kinds.Idle kinds.Instr)) e ∙ ap (λ (b : Bool). cond b kinds.Idle kinds.Instr) h

pub no_accept_idle : (k : Kind) → k ≡ kinds.Idle → k ≢ kinds.Accept
no_accept_idle k e f = let both : kinds.Idle ≡ kinds.Accept = sym e ∙ f in cc

pub no_accept_instr : (k : Kind) → k ≡ kinds.Instr → k ≢ kinds.Accept
no_accept_instr k e f = let both : kinds.Instr ≡ kinds.Accept = sym e ∙ f in cc

pub never_both : (P : Type 0) (b : Bool) → b ≡ true → b ≡ false → P
never_both P b e f = let both : true ≡ false = sym e ∙ f in absurd (cc)

same_instr : (i j : Instr) → (let x : Result Instr DecodeFault = Ok i in x) ≡ Ok j → i ≡ j
same_instr i j e = cc

module _ (rom : List ℕ) (cert : CertificateView) (acc : AcceptsInForm rom cert) where
  pub eventful : (s new : BoardView) (env : Env) (event : Event) (t : ℕ) → IsState s → Step (board_of rom cert) s env event new → event.t ≡ t → Eventful s new t
  eventful s new env event t numbers step e = record {
    clock = subst (Clocked s new) e (clocked (board_of rom cert) s new env event step);
    clear = λ p q r. let c = cleared (board_of rom cert) s new env event step p q r in (c.line, c.latched);
    small = subst (λ (n : ℕ). n ≤ 23) e (takes_time (board_of rom cert) s new env event step).1;
    begins = numbers.phase;
  }

  pub numbers_on : (s new : BoardView) (env : Env) (event : Event) → IsState s → IsEnv env → Step (board_of rom cert) s env event new → IsState new
  numbers_on s new env event numbers is_env step = step_keeps (board_of rom cert) s new env event acc.bytes numbers is_env step

  -- the instruction of an event is the one that a chain takes
  pub record Taken (s new : BoardView) (env : Env) (event : Event) (instr : Instr) : Type 0 where
    pub t : event.t ≡ t_of (at_board rom cert s env) instr
    pub board : SameBoard cert (done (at_board rom cert s env) instr) new
    pub numbers : IsState (done (at_board rom cert s env) instr)

  pub taken : (s new : BoardView) (env : Env) (event : Event) (instr : Instr) → IsState s → IsEnv env → Step (board_of rom cert) s env event new → kind_of s ≡ kinds.Instr → StandsAt rom s.regs.pc (Ok instr) → Taken s new env event instr
  taken s new env event instr numbers is_env step kind stands =
      let x = step.executes kind in
      let same : x.instr ≡ instr = same_instr x.instr instr (decoded_once (drop s.regs.pc rom) (Ok x.instr) (Ok instr) x.stands stands) in
      let t : event.t ≡ t_of (at_board rom cert s env) instr = x.t ∙ ap (t_of (at_board rom cert s env)) same in
      let is : new ≡ ticked s (done (at_board rom cert s env) instr) (t_of (at_board rom cert s env) instr) env = x.new_is ∙ ap (λ (i : Instr). ticked s (done (at_board rom cert s env) i) (t_of (at_board rom cert s env) i) env) same in
      record {
        t = t;
        board = same_board cert s (done (at_board rom cert s env) instr) new (t_of (at_board rom cert s env) instr) env is;
        numbers = done_keeps (at_board rom cert s env) instr (record { rom = acc.bytes; state = numbers; env = is_env }) stands;
      }

  -- an instruction that a chain takes meets no trap
  pub takes_no_trap : (lowest : Callee) (under : List ℕ) (c : Activations) (s : BoardView) (env : Env) → kind_of s ≡ kinds.Instr → ArePlaced rom cert lowest under c s → Executed rom cert lowest under c s env → Traps (certified_profile rom cert) s env None
  takes_no_trap lowest under c s env kind p x =
      traps_executing (certified_profile rom cert) s env (Ok x.instr) None kind (subst (λ (at : ℕ). has_row cert.rows at ≡ true) (sym p.pc) (starts_here cert.rows c.row p.listed)) x.stands x.safe

  module _ (main : Proc) (is_main : IsMainOf cert main) where
    abbrev MainIs : Callee
    MainIs = main_callee rom cert acc main is_main

    module _ (nmi : Callee) (time : ℕ) (c : Activations) (s : BoardView) (st : Stands rom cert MainIs nmi time (alone rom cert acc main is_main c) s) (unlatched : s.latched ≡ false) where
      executed : (env : Env) → IsEnv env → Executed rom cert MainIs [] c s env
      executed env is_env = executing rom cert MainIs [] c s env acc (under_main rom cert acc main is_main) (inl refl) st.numbers is_env st.placed

      -- main code meets no trap
      pub main_never : (env : Env) → IsEnv env → Traps (certified_profile rom cert) s env None
      main_never env is_env = by s.halted refl
        where
          by : (b : Bool) → s.halted ≡ b → Traps (certified_profile rom cert) s env None
          by true h = traps_idling (certified_profile rom cert) s env (halted_idles s unlatched h)
          by false h = takes_no_trap MainIs [] c s env (awake_executes s unlatched h) st.placed (executed env is_env)

      -- and continues
      pub record MainOn (new : BoardView) (kind : Kind) : Type 0 where
        pub next : Activations
        pub stands : Stands rom cert MainIs nmi time (alone rom cert acc main is_main next) new
        pub no_accept : kind ≢ kinds.Accept

      pub main_goes : (new : BoardView) (env : Env) (event : Event) → IsEnv env → Step (board_of rom cert) s env event new → MainOn new event.kind
      main_goes new env event is_env step = by s.halted refl
        where
          numbers : IsState new
          numbers = numbers_on s new env event st.numbers is_env step

          by : (b : Bool) → s.halted ≡ b → MainOn new event.kind
          by true h =
              let kind = halted_idles s unlatched h in
              let x = step.idles kind in
              record {
                next = c;
                stands = idle_on rom cert acc main is_main nmi time c s new idle_cost st numbers (same_board cert s s new idle_cost env x.new_is) (eventful s new env event idle_cost st.numbers step x.t);
                no_accept = no_accept_idle event.kind (step.kind ∙ kind);
              }
          by false h = takes x.takes
            where
              kind : kind_of s ≡ kinds.Instr
              kind = awake_executes s unlatched h

              x : Executed rom cert MainIs [] c s env
              x = executed env is_env

              w : Taken s new env event x.instr
              w = taken s new env event x.instr st.numbers is_env step kind x.stands

              takes : {r : Bool} → TakesInstruction rom cert MainIs [] c s (done (at_board rom cert s env) x.instr) (t_of (at_board rom cert s env) x.instr) r → MainOn new event.kind
              takes (leaves l) = never_both _ _ refl l.not_main
              takes (stays n) = record {
                next = n.next;
                stands = main_on rom cert acc main is_main nmi time c s (done (at_board rom cert s env) x.instr) new (t_of (at_board rom cert s env) x.instr) st numbers w.board (eventful s new env event (t_of (at_board rom cert s env) x.instr) st.numbers step w.t)
                    (λ none. x.clear none (st.quiet none).no_enable) n;
                no_accept = no_accept_instr event.kind (step.kind ∙ kind);
              }
