-- The phase and the flip-flop over one event.
use Rattle.std.proofs.Common.{◌≡◌, ℕ, ◌+◌, ◌%◌, ◌≤◌, Bool, true, false, ◌&&◌, ◌||◌, not, refl, sym, ap, subst, ◌∙◌, arith, nat_le}
use Rattle.std.proofs.Math.Bool.{cond}
use Rattle.std.proofs.lemmas.Bool.{leb-true}
use Rattle.t_states.specs.Frame.{frame, idle_cost, nmi_cost}
use Rattle.board_step.specs.Context.{context_of}
use Rattle.board_step.specs.Hardware.{Hardware}
use Rattle.board_step.specs.Kind.{kind_of}
use Rattle.board_step.specs.State.{BoardView}
use Rattle.board_step.specs.Step.{Step, accepted, blanks, done, enable_met, instr_draft, nmi_draft, sets_line, t_of, ticked}
use Rattle.board_step.specs.declared.env.Env.{Env}
use Rattle.board_step.specs.declared.event.Event.{Event}
use Rattle.board_step.specs.declared.event.Kind.{Kind}
use Rattle.board_step.specs.declared.event.Kind.TheVariants as kinds
use Rattle.board_step.proofs.SingleLemmas.{by_kind}
use Rattle.board_laws.proofs.Brought.{reaches}
use Rattle.board_laws.specs.Clock.{Clocked, OnlyTime}

-- ---- the T-states pass

rise : (blank met line latched : Bool) → latched ≡ false → (((blank && met) && not line) || latched) ≡ true → blank ≡ true
rise true met line latched p q = refl
rise false met line latched p q = let h : false ≡ true = sym p ∙ q in absurd (cc)

pub ticked_clock : (before old mid : BoardView) (t : ℕ) (env : Env) → mid.phase ≡ old.phase → mid.latched ≡ false → Clocked old (ticked before mid t env) t
unfolding ticked
ticked_clock before old mid t env p q = record {
  phase = ap (λ (n : ℕ). (n + t) % frame) p;
  blank = λ h.
      let b : nat_le frame (mid.phase + t) ≡ true = rise _ _ mid.line mid.latched q h in
      let past : frame ≤ mid.phase + t = leb-true frame (mid.phase + t) b in
      omega arith;
}

-- if the enable is clear before and after, nothing rises
no_rise : (blank before after latch line latched : Bool) → before ≡ false → after ≡ false → latched ≡ false → (((blank && enable_met before after latch) && not line) || latched) ≡ false
no_rise true false false latch line false p q r = refl
no_rise false false false latch line false p q r = refl
no_rise _ true _ latch line latched p q r = absurd (cc)
no_rise _ _ true latch line latched p q r = absurd (cc)
no_rise _ _ _ latch line true p q r = absurd (cc)

-- the event leaves the line clear and no NMI latched
pub record Clear (new : BoardView) : Type 0 where
  pub line : new.line ≡ false
  pub latched : new.latched ≡ false

pub ticked_clear : (before mid : BoardView) (t : ℕ) (env : Env) → before.enable ≡ false → mid.enable ≡ false → mid.latched ≡ false → Clear (ticked before mid t env)
unfolding ticked
ticked_clear before mid t env p q r = record {
  line = ap (λ (b : Bool). b && (mid.line || sets_line before mid t env)) q;
  latched = no_rise (blanks mid t) before.enable mid.enable env.latch mid.line mid.latched p q r;
}

-- nothing else changes
pub only_time : (before after : BoardView) (t : ℕ) (env : Env) → OnlyTime after (ticked before after t env)
unfolding ticked
only_time before after t env = record { regs = refl; work = refl; video = refl; object = refl; enable = refl; halted = refl }

-- ---- the kinds of events

-- the kind of the next event, from latch and halt
abbrev pub kind_by : Bool → Bool → Kind
kind_by latched halted = cond latched kinds.Accept (cond halted kinds.Idle kinds.Instr)

pub accepts_by : (latched halted : Bool) → kind_by latched halted ≡ kinds.Accept → latched ≡ true
accepts_by true halted e = refl
accepts_by false true e = cc
accepts_by false false e = cc

pub latched_by : (latched halted : Bool) → latched ≡ true → kind_by latched halted ≡ kinds.Accept
latched_by true halted e = refl
latched_by false halted e = absurd (cc)

idles_by : (latched halted : Bool) → kind_by latched halted ≡ kinds.Idle → latched ≡ false
idles_by false halted e = refl
idles_by true halted e = cc

executes_by : (latched halted : Bool) → kind_by latched halted ≡ kinds.Instr → latched ≡ false
executes_by false halted e = refl
executes_by true halted e = cc

-- ---- one event

clocked_as : (old new mid : BoardView) (event : Event) (t : ℕ) → event.t ≡ t → new ≡ mid → Clocked old mid t → Clocked old new event.t
clocked_as old new mid event t e n k = subst (Clocked old new) (sym e) (subst (λ (s : BoardView). Clocked old s t) (sym n) k)

pub clocked : (hardware : Hardware) (old new : BoardView) (env : Env) (event : Event) → Step hardware old env event new → Clocked old new event.t
clocked hardware old new env event step =
    let c = context_of hardware old env in
    by_kind (Clocked old new event.t) (kind_of old)
    (λ k. let x = step.accepts k in
    clocked_as old new _ event nmi_cost x.t x.new_is (ticked_clock old old (accepted c) nmi_cost env (reaches hardware.map (nmi_draft c) old).phase refl))
    (λ k. let x = step.idles k in
    clocked_as old new _ event idle_cost x.t x.new_is (ticked_clock old old old idle_cost env refl (idles_by old.latched old.halted k)))
    (λ k. let x = step.executes k in
    let r = reaches hardware.map (instr_draft c x.instr) old in
    clocked_as old new _ event (t_of c x.instr) x.t x.new_is (ticked_clock old old (done c x.instr) (t_of c x.instr) env r.phase (r.latched ∙ executes_by old.latched old.halted k)))

clear_as : (before new mid : BoardView) (t : ℕ) (env : Env) → new ≡ ticked before mid t env → before.enable ≡ false → new.enable ≡ false → mid.latched ≡ false → Clear new
clear_as before new mid t env is p q r =
    let after : mid.enable ≡ false = sym (only_time before mid t env).enable ∙ sym (ap (λ (s : BoardView). s.enable) is) ∙ q in
    subst Clear (sym is) (ticked_clear before mid t env p after r)

pub cleared : (hardware : Hardware) (old new : BoardView) (env : Env) (event : Event) → Step hardware old env event new → old.enable ≡ false → new.enable ≡ false → old.latched ≡ false → Clear new
cleared hardware old new env event step p q r =
    let c = context_of hardware old env in
    by_kind (Clear new) (kind_of old)
    (λ k. clear_as old new (accepted c) nmi_cost env (step.accepts k).new_is p q refl)
    (λ k. clear_as old new old idle_cost env (step.idles k).new_is p q r)
    (λ k. let x = step.executes k in
    clear_as old new (done c x.instr) (t_of c x.instr) env x.new_is p q ((reaches hardware.map (instr_draft c x.instr) old).latched ∙ r))
