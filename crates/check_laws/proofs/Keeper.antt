-- From an invariant that each step keeps to safety by event numbers. The invariant has configurations; it says for
-- which states they stand, and what each remembers of a running NMI routine: the state before its acceptance, and the
-- T-states since.
use Rattle.std.proofs.Common.{◌⊎◌, ◌≡◌, ◌≢◌, ◌<◌, ◌≤◌, ◌+◌, ◌-◌, ◌%◌, inl, inr, ℕ, zero, suc, drop, slice_index, Option, Some, None, IsTrue, refl, sym, ap, subst, ◌∙◌, arith}
use Rattle.std.proofs.lemmas.Bool.{cases_lt}
use Rattle.address_map.specs.declared.region.Region.{Region}
use Rattle.board_step.specs.Context.{context_of}
use Rattle.board_fetch.specs.Decoded.{Spells}
use Rattle.board_step.specs.Env.{IsEnv}
use Rattle.board_step.specs.Reset.{IsReset}
use Rattle.board_step.specs.Run.{Run, time_before, AcceptsAt, ReturnsTo, EndsAt, GivesBack}
use Rattle.z80_actions.specs.Returns.{is_return}
use Rattle.board_step.specs.Safe.{KeepsWithin, Safe}
use Rattle.board_step.specs.State.{BoardView}
use Rattle.board_step.specs.Step.{Step, instr_draft}
use Rattle.board_step.specs.Hardware.{Hardware}
use Rattle.board_step.specs.Profile.{ProfileView}
use Rattle.board_step.specs.Trap.{Traps}
use Rattle.board_step.specs.declared.env.Env.{Env}
use Rattle.board_step.specs.declared.event.Event.{Event}
use Rattle.board_step.specs.declared.event.Kind.{Kind}
use Rattle.board_step.specs.declared.event.Kind.TheVariants as kinds
use Rattle.z80_decode.specs.declared.instr.Instr.{Instr}

-- an NMI routine that runs: the state before its acceptance, and the T-states since
pub record Frame : Type 0 where
  pub at : BoardView
  pub spent : ℕ

-- an instruction returns
pub record Returning (hardware : Hardware) (s : BoardView) (env : Env) : Type 0 where
  pub instr : Instr
  pub stands : Spells (drop s.regs.pc hardware.rom) instr
  pub returns : IsTrue (is_return instr (instr_draft (context_of hardware s env) instr).taken)

-- what a routine gives back
pub record Back (region : Region) (old new : BoardView) : Type 0 where
  pub pc : new.regs.pc ≡ old.regs.pc
  pub main : new.regs.main ≡ old.regs.main
  pub alternate : new.regs.alternate ≡ old.regs.alternate
  pub ix : new.regs.ix ≡ old.regs.ix
  pub iy : new.regs.iy ≡ old.regs.iy
  pub sp : new.regs.sp ≡ old.regs.sp
  pub i_register : new.regs.i ≡ old.regs.i
  pub stack : (at : ℕ) → old.regs.sp ≤ at → at < region.top → slice_index new.work (at % 1024) ≡ slice_index old.work (at % 1024)

-- what an event does to the frame
pub data Move (profile : ProfileView) (budget : ℕ) (a b : Option Frame) (s : BoardView) (env : Env) (event : Event) (new : BoardView) : Type 0 where
  outside : event.kind ≢ kinds.Accept → a ≡ None → b ≡ None → Move profile budget a b s env event new
  begins : event.kind ≡ kinds.Accept → a ≡ None → b ≡ Some (record { at = s; spent = event.t }) → new.regs.sp < s.regs.sp → Move profile budget a b s env event new
  inside : (u : Frame) → event.kind ≢ kinds.Accept → a ≡ Some u → b ≡ Some (record u { spent = u.spent + event.t }) → new.regs.sp < u.at.regs.sp → Move profile budget a b s env event new
  ends : (u : Frame) → event.kind ≡ kinds.Instr → a ≡ Some u → b ≡ None → Returning profile.hardware s env → Back profile.region u.at new → u.spent + event.t ≤ budget → Move profile budget a b s env event new

clash : {k : Kind} → k ≡ kinds.Instr → k ≡ kinds.Accept → ⊥
clash p q = cc

not_both : {u : Frame} {o : Option Frame} → o ≡ Some u → o ≡ None → ⊥
not_both p q = cc

same_frame : {u v : Frame} {o : Option Frame} → o ≡ Some u → o ≡ Some v → u ≡ v
same_frame p q = cc

-- what keeps a board safe
pub record Keeper (profile : ProfileView) (budget : ℕ) : Type 1 where
  pub C : Type 0
  pub Stands : C → BoardView → Type 0
  pub frame : C → Option Frame
  pub first : (s : BoardView) → IsReset s → (g : C) × Stands g s
  pub none_first : (s : BoardView) (r : IsReset s) → frame (first s r).0 ≡ None
  pub never : (g : C) (s : BoardView) (env : Env) → Stands g s → IsEnv env → Traps profile s env None
  pub next : (g : C) (s new : BoardView) (env : Env) (event : Event) → Stands g s → IsEnv env → Step profile.hardware s env event new → (h : C) × Stands h new × Move profile budget (frame g) (frame h) s env event new
  pub within : (g : C) (s : BoardView) (u : Frame) → Stands g s → frame g ≡ Some u → u.spent ≤ budget

module _ (profile : ProfileView) (budget : ℕ) (k : Keeper profile budget) (run : Run profile.hardware) (starts : IsReset (run.state_at 0)) where
  -- a configuration at each event; after the last event any one
  abbrev Point : ℕ → Type 0
  Point i = (g : k.C) × (i ≤ run.count → k.Stands g (run.state_at i))

  -- what the invariant's step gives
  stepped : (i : ℕ) (p : Point i) → (lt : i < run.count) → (h : k.C) × k.Stands h (run.state_at (suc i)) × Move profile budget (k.frame p.0) (k.frame h) (run.state_at i) (run.env_at i) (run.event_at i) (run.state_at (suc i))
  stepped i p lt = k.next p.0 (run.state_at i) (run.state_at (suc i)) (run.env_at i) (run.event_at i) (p.1 (omega arith)) (run.in_range i lt) (run.steps i lt)

  next_by : (i : ℕ) → Point i → (i < run.count) ⊎ (run.count ≤ i) → Point (suc i)
  next_by i p (inl lt) = let n = stepped i p lt in (n.0, λ h. n.1)
  next_by i p (inr ge) = (p.0, λ h. absurd (omega arith))

  pub point_at : (i : ℕ) → Point i
  point_at zero = let f = k.first (run.state_at 0) starts in (f.0, λ h. f.1)
  point_at (suc i) = next_by i (point_at i) (cases_lt i run.count)

  abbrev pub config_at : ℕ → k.C
  config_at i = (point_at i).0

  abbrev frame_at : ℕ → Option Frame
  frame_at i = k.frame (config_at i)

  pub stands_at : (i : ℕ) → i ≤ run.count → k.Stands (config_at i) (run.state_at i)
  stands_at i le = (point_at i).1 le

  abbrev MoveAt : ℕ → Type 0
  MoveAt i = Move profile budget (frame_at i) (frame_at (suc i)) (run.state_at i) (run.env_at i) (run.event_at i) (run.state_at (suc i))

  move_at : (i : ℕ) → i < run.count → MoveAt i
  unfolding point_at next_by
  move_at i lt = by (cases_lt i run.count)
    where
      by : (c : (i < run.count) ⊎ (run.count ≤ i)) → Move profile budget (k.frame (point_at i).0) (k.frame (next_by i (point_at i) c).0) (run.state_at i) (run.env_at i) (run.event_at i) (run.state_at (suc i))
      by (inl lt) = (stepped i (point_at i) lt).2
      by (inr ge) = absurd (omega arith)

  -- an event began the routine that runs
  pub record BegunAt (n : ℕ) (u : Frame) : Type 0 where
    pub from : ℕ
    pub before : from < n
    pub accepts : AcceptsAt run from
    pub at : u.at ≡ run.state_at from

  begun_on : (n : ℕ) → n < run.count → (u : Frame) → frame_at (suc n) ≡ Some u → ((v : Frame) → frame_at n ≡ Some v → BegunAt n v) → MoveAt n → BegunAt (suc n) u
  begun_on n lt u is so_far (outside off p q) = absurd (not_both is q)
  begun_on n lt u is so_far (begins on p q sp) =
      record { from = n; before = omega arith; accepts = record { within = lt; accepts = on }; at = ap (λ (f : Frame). f.at) (same_frame is q) }
  begun_on n lt u is so_far (inside v off p q sp) =
      let b = so_far v p in
      let before = b.before in
      record { from = b.from; before = omega arith; accepts = b.accepts; at = ap (λ (f : Frame). f.at) (same_frame is q) ∙ b.at }
  begun_on n lt u is so_far (ends v on p q r b t) = absurd (not_both is q)

  pub begun_at : (n : ℕ) → n ≤ run.count → (u : Frame) → k.frame (config_at n) ≡ Some u → BegunAt n u
  unfolding point_at
  begun_at zero le u is = absurd (not_both is (k.none_first (run.state_at 0) starts))
  begun_at (suc n) le u is = begun_on n (omega arith) u is (λ v e. begun_at n (omega arith) v e) (move_at n (omega arith))

  -- inside the routine that an event began
  record InsideAt (i n : ℕ) : Type 0 where
    frame : Frame
    is : frame_at n ≡ Some frame
    at : frame.at ≡ run.state_at i
    time : time_before run n ≡ time_before run i + frame.spent
    sp : (run.state_at n).regs.sp < (run.state_at i).regs.sp

  abbrev Since : ℕ → ℕ → Type 0
  Since i n = (m : ℕ) → i < m → m ≤ n → InsideAt i m

  record EndedAt (i j : ℕ) : Type 0 where
    later : i < j
    within : j < run.count
    since : Since i j
    kind : (run.event_at j).kind ≡ kinds.Instr
    returning : Returning profile.hardware (run.state_at j) (run.env_at j)
    back : Back profile.region (run.state_at i) (run.state_at (suc j))
    time : time_before run (suc j) ≤ time_before run i + budget

  enters : (i : ℕ) → (run.event_at i).kind ≡ kinds.Accept → MoveAt i → InsideAt i (suc i)
  enters i a (outside off p q) = absurd (off a)
  enters i a (inside u off p q sp) = absurd (off a)
  enters i a (ends u on p q r b t) = absurd (clash on a)
  enters i a (begins on p q sp) = record { frame = record { at = run.state_at i; spent = (run.event_at i).t }; is = q; at = refl; time = refl; sp = sp }

  goes_by : (i n : ℕ) → i < n → n < run.count → Since i n → InsideAt i n → MoveAt n → InsideAt i (suc n) ⊎ EndedAt i n
  goes_by i n lt within since x (outside off p q) = absurd (not_both x.is p)
  goes_by i n lt within since x (begins on p q sp) = absurd (not_both x.is p)
  goes_by i n lt within since x (inside u off p q sp) =
      let same : x.frame ≡ u = same_frame x.is p in
      let at : u.at ≡ run.state_at i = ap (λ (v : Frame). v.at) (sym same) ∙ x.at in
      inl (record {
        frame = record u { spent = u.spent + (run.event_at n).t };
        is = q;
        at = at;
        time = let e : x.frame.spent ≡ u.spent = ap (λ (v : Frame). v.spent) same in omega (arith, x.time);
        sp = subst (λ (s : BoardView). (run.state_at (suc n)).regs.sp < s.regs.sp) at sp;
      })
  goes_by i n lt within since x (ends u on p q r b t) =
      let same : x.frame ≡ u = same_frame x.is p in
      let at : u.at ≡ run.state_at i = ap (λ (v : Frame). v.at) (sym same) ∙ x.at in
      inr (record {
        later = lt;
        within = within;
        since = since;
        kind = on;
        returning = r;
        back = subst (λ (s : BoardView). Back profile.region s (run.state_at (suc n))) at b;
        time = let e : x.frame.spent ≡ u.spent = ap (λ (v : Frame). v.spent) same in omega (arith, x.time);
      })

  one_since : (i : ℕ) → InsideAt i (suc i) → Since i (suc i)
  one_since i x m lo hi = let e : suc i ≡ m = omega arith in subst (InsideAt i) e x

  more_since : (i n : ℕ) → Since i n → InsideAt i (suc n) → Since i (suc n)
  more_since i n s x m lo hi =
      elim (cases_lt m (suc n)) [
        | inl low ↦ s m lo (omega arith)
        | inr high ↦ let e : suc n ≡ m = omega arith in subst (InsideAt i) e x
      ]

  record EndedBy (i n : ℕ) : Type 0 where
    at : ℕ
    before : at < n
    ended : EndedAt i at

  since_or_ended : (i : ℕ) → AcceptsAt run i → (n : ℕ) → suc (i + n) ≤ run.count → Since i (suc (i + n)) ⊎ EndedBy i (suc (i + n))
  since_or_ended i a zero le =
      let e : i ≡ i + 0 = omega arith in
      subst (λ (m : ℕ). Since i (suc m) ⊎ EndedBy i (suc m)) e (inl (one_since i (enters i a.accepts (move_at i a.within))))
  since_or_ended i a (suc n) le =
      let e : suc (i + n) ≡ i + suc n = omega arith in
      subst (λ (m : ℕ). Since i (suc m) ⊎ EndedBy i (suc m)) e
      (elim (since_or_ended i a n (omega arith)) [
        | inl s ↦
            elim (goes_by i (suc (i + n)) (omega arith) (omega arith) s (s (suc (i + n)) (omega arith) (omega arith)) (move_at (suc (i + n)) (omega arith))) [
              | inl more ↦ inl (more_since i (suc (i + n)) s more)
              | inr end ↦ inr (record { at = suc (i + n); before = omega arith; ended = end })
            ]
        | inr d ↦ let h = d.before in inr (record { at = d.at; before = omega arith; ended = d.ended })
      ])

  up_to : (i n : ℕ) → AcceptsAt run i → i < n → n ≤ run.count → Since i n ⊎ EndedBy i n
  up_to i n a lt le =
      let e : suc (i + (n - suc i)) ≡ n = omega arith in
      subst (λ (m : ℕ). Since i m ⊎ EndedBy i m) e (since_or_ended i a (n - suc i) (omega arith))

  not_before : (i j n : ℕ) → Since i j → n < j → ReturnsTo run i n → ⊥
  not_before i j n s lt r =
      let lower = (s (suc n) (omega (arith, r.later)) (omega arith)).sp in
      omega (arith, r.sp)

  ends_at : (i j : ℕ) → AcceptsAt run i → EndedAt i j → EndsAt run i j
  ends_at i j a e = record {
    accepts = a;
    returns = record { later = e.later; within = e.within; kind = e.kind; instr = e.returning.instr; stands = e.returning.stands; returns = e.returning.returns; sp = e.back.sp };
    first = λ n lt r. not_before i j n e.since lt r;
  }

  ended_at : (i j : ℕ) → EndsAt run i j → EndedAt i j
  ended_at i j e =
      let lt = e.returns.later in
      let in_run = e.returns.within in
      elim (up_to i (suc j) e.accepts (omega arith) (omega arith)) [
        | inl s ↦ absurd (not_before i (suc j) j s (omega arith) e.returns)
        | inr d ↦
            let before = d.before in
            elim (cases_lt d.at j) [
              | inl less ↦ absurd (e.first d.at less (ends_at i d.at e.accepts d.ended).returns)
              | inr high ↦ let same : d.at ≡ j = omega arith in subst (EndedAt i) same d.ended
            ]
      ]

  given_back : (i j : ℕ) → Back profile.region (run.state_at i) (run.state_at (suc j)) → GivesBack run profile.region i j
  given_back i j b = record { pc = b.pc; main = b.main; alternate = b.alternate; ix = b.ix; iy = b.iy; sp = b.sp; i_register = b.i_register; stack = b.stack }

  time_rises : (n m : ℕ) → time_before run m ≤ time_before run (m + n)
  time_rises zero m = let e : m ≡ m + 0 = omega arith in subst (λ (x : ℕ). time_before run m ≤ time_before run x) e (omega arith)
  time_rises (suc n) m =
      let h = time_rises n m in
      let e : suc (m + n) ≡ m + suc n = omega arith in
      subst (λ (x : ℕ). time_before run m ≤ time_before run x) e (omega (arith, h))

  -- an event inside is no acceptance
  no_acceptance : (i n : ℕ) → InsideAt i n → MoveAt n → (run.event_at n).kind ≡ kinds.Accept → ⊥
  no_acceptance i n x (outside off p q) a = off a
  no_acceptance i n x (begins on p q sp) a = not_both x.is p
  no_acceptance i n x (inside u off p q sp) a = off a
  no_acceptance i n x (ends u on p q r b t) a = clash on a

  pub keeps : KeepsWithin profile budget run
  keeps = record {
    never_traps = λ i le env range. k.never (config_at i) (run.state_at i) env (stands_at i le) range;
    never_nested = λ i n lt a b.
        let last = b.within in
        elim (up_to i n a lt (omega arith)) [
          | inl s ↦ absurd (no_acceptance i n (s n lt (omega arith)) (move_at n last) b.accepts)
          | inr d ↦ (d.at, d.before, ends_at i d.at a d.ended)
        ];
    gives_back = λ i j e. given_back i j (ended_at i j e).back;
    in_time = λ i j e. let d = ended_at i j e in omega (arith, d.time);
    returns = λ i n a last over.
        elim (cases_lt n i) [
          | inl before ↦
              let at : suc n + (i - suc n) ≡ i = omega arith in
              let rises : time_before run (suc n) ≤ time_before run i = subst (λ (m : ℕ). time_before run (suc n) ≤ time_before run m) at (time_rises (i - suc n) (suc n)) in
              absurd (omega arith)
          | inr after ↦ elim (up_to i (suc n) a (omega arith) (omega arith)) [
            | inl s ↦
                let x = s (suc n) (omega arith) (omega arith) in
                let less = k.within (config_at (suc n)) (run.state_at (suc n)) x.frame (stands_at (suc n) (omega arith)) x.is in
                absurd (omega (arith, x.time, less))
            | inr d ↦ (d.at, omega (arith, d.before), ends_at i d.at a d.ended)
          ]
        ];
  }

-- what has a keeper is safe
pub safe_by : (profile : ProfileView) (budget : ℕ) → Keeper profile budget → Safe profile (Some budget)
safe_by profile budget k run starts = keeps profile budget k run starts
