-- The phase along a run, and when an NMI can be latched.
use Rattle.std.proofs.Common.{◌≡◌, ◌↔◌, ℕ, zero, suc, ◌+◌, ◌%◌, ◌<◌, ◌≤◌, true, false, inl, inr, refl, sym, subst, ◌∙◌, arith}
use Rattle.std.proofs.lemmas.Bool.{cases_Bool, cases_lt}
use Rattle.t_states.specs.Frame.{frame}
use Rattle.t_states.specs.Budget.{max_budget}
use Rattle.board_step.specs.Hardware.{Hardware}
use Rattle.board_step.specs.Run.{AcceptsAt, Run, time_before}
use Rattle.board_step.proofs.SingleLemmas.{takes_time}
use Rattle.board_laws.specs.Clock.{BeginsClear, Clocked, since}
use Rattle.board_laws.proofs.Clocks.{accepts_by, clocked, latched_by}

-- an event accepts exactly where an NMI is latched
pub accepts_latched : (hardware : Hardware) (run : Run hardware) (n : ℕ) → n < run.count → AcceptsAt run n ↔ ((run.state_at n).latched ≡ true)
accepts_latched hardware run n h =
    let k = (run.steps n h).kind in (
      λ a. accepts_by (run.state_at n).latched (run.state_at n).halted (sym k ∙ a.accepts),
      λ up. record { within = h; accepts = k ∙ latched_by (run.state_at n).latched (run.state_at n).halted up },
    )

module _ (hardware : Hardware) (run : Run hardware) where
  clock_at : (n : ℕ) → n < run.count → Clocked (run.state_at n) (run.state_at (suc n)) (run.event_at n).t
  clock_at n h = clocked hardware (run.state_at n) (run.state_at (suc n)) (run.env_at n) (run.event_at n) (run.steps n h)

  -- time does not run backwards
  time_grows : (i n : ℕ) → i ≤ n → time_before run i ≤ time_before run n
  time_grows i zero low = let e : i ≡ 0 = omega arith in subst (λ (k : ℕ). time_before run k ≤ time_before run 0) (sym e) (omega arith)
  time_grows i (suc n) low = elim (cases_lt n i) [
    | inl here ↦ let e : i ≡ suc n = omega arith in subst (λ (k : ℕ). time_before run k ≤ time_before run (suc n)) (sym e) (omega arith)
    | inr later ↦ let before = time_grows i n later in let more : time_before run (suc n) ≡ time_before run n + (run.event_at n).t = refl in omega (arith, before, more)
  ]

  phase_small : (n : ℕ) → (run.state_at 0).phase < frame → n ≤ run.count → (run.state_at n).phase < frame
  phase_small zero first h = first
  phase_small (suc n) first h = let p = (clock_at n h).phase in omega (arith, p)

  -- the phase advances by the T-states
  pub phase_along : (i n : ℕ) → (run.state_at 0).phase < frame → i ≤ n → n ≤ run.count → (run.state_at n).phase ≡ ((run.state_at i).phase + since run i n) % frame
  phase_along i zero first low h =
      let e : i ≡ 0 = omega arith in
      subst (λ (k : ℕ). (run.state_at 0).phase ≡ ((run.state_at k).phase + since run k 0) % frame) (sym e) (omega (arith, first))
  phase_along i (suc n) first low h = elim (cases_lt n i) [
    | inl here ↦
        let e : i ≡ suc n = omega arith in
        let p = phase_small (suc n) first h in
        subst (λ (k : ℕ). (run.state_at (suc n)).phase ≡ ((run.state_at k).phase + since run k (suc n)) % frame) (sym e) (omega (arith, p))
    | inr later ↦
        let before = phase_along i n first later (omega arith) in
        let p = (clock_at n h).phase in
        let grows = time_grows i n later in
        let more : time_before run (suc n) ≡ time_before run n + (run.event_at n).t = refl in
        omega (arith, before, p, grows, more)
  ]

  -- an acceptance begins at a phase of 22 at most
  pub early : (i : ℕ) → BeginsClear run → AcceptsAt run i → (run.state_at i).phase ≤ 22
  early zero begins a = let up = (accepts_latched hardware run 0 a.within).0 a in let down = begins.latched in absurd (cc)
  early (suc n) begins a =
      let h : suc n < run.count = a.within in
      let c = clock_at n (omega arith) in
      let b = c.blank ((accepts_latched hardware run (suc n) a.within).0 a) in
      let p = c.phase in
      let small = phase_small n begins.phase (omega arith) in
      let most = (takes_time hardware (run.state_at n) (run.state_at (suc n)) (run.env_at n) (run.event_at n) (run.steps n (omega arith))).1 in
      omega (arith, b, p, small, most)

  -- no NMI is latched within the greatest budget
  pub unlatched_since : (i n : ℕ) → BeginsClear run → AcceptsAt run i → i < n → n ≤ run.count → since run i n ≤ max_budget → (run.state_at n).latched ≡ false
  unlatched_since i zero begins a later h low = absurd (omega arith)
  unlatched_since i (suc n) begins a later h low = elim (cases_Bool (run.state_at (suc n)).latched) [
    | inl up ↦
        let b = (clock_at n h).blank up in
        let along = phase_along i n begins.phase (omega arith) (omega arith) in
        let first = early i begins a in
        let grows = time_grows i n (omega arith) in
        let more : time_before run (suc n) ≡ time_before run n + (run.event_at n).t = refl in
        absurd (omega (arith, b, along, first, grows, more, low))
    | inr down ↦ down
  ]
