-- An activation with a time keeps within it while no NMI comes.
use Rattle.std.proofs.Common.{◌≡◌, ◌≤◌, ◌<◌, ◌+◌, ◌-◌, ◌∙◌, ◌⊎◌, inl, inr, ℕ, zero, suc, false, List, [], ◌∷◌, ℤ, pos, ◌+ℤ◌, ◌≤ℤ◌, sym, ap, subst, arith}
use Rattle.std.proofs.lemmas.Int.{ints}
use Rattle.board_step.specs.Hardware.{Hardware}
use Rattle.board_step.specs.Run.{Run, spent, time_before}
use Rattle.z80_actions.specs.Returns.{is_return}
use Rattle.board_step.specs.State.{IsState, BoardView}
use Rattle.board_step.specs.Step.{Step, done, instr_draft, t_of}
use Rattle.board_laws.specs.Clock.{since}
use Rattle.z80_alu.specs.declared.regs.Regs.{Regs}
use Rattle.check_cover.specs.declared.program.Callee.{Callee}
use Rattle.cert_form.specs.Contents.{CertificateView}
use Rattle.check_rules.specs.Table.{IsTimed}
use Rattle.std.specs.Prelude.{Some, slice_get, unwrap_or}
use Rattle.abs_step.specs.declared.reason.Reason.TheVariants as reasons
use Rattle.check_ways.specs.Pays.{Pays, cost_before}
use Rattle.check_laws.specs.RowHolds.{worth}
use Rattle.check_laws.proofs.PayLemmas.{entry_in_time}
use Rattle.check_laws.proofs.Judging.{judge, subject_of}
use Rattle.check_laws.specs.Chain.{Chain, AcceptsInForm, Waiting, later_all}
use Rattle.check_laws.specs.Placed.{Activations, ArePlaced, Under, owed, seen_by}
use Rattle.check_laws.specs.Board.{board_of}
use Rattle.check_laws.specs.Steps.{Executed, TakesInstruction, at_board, leaves, stays}
use Rattle.check_laws.proofs.Depth.{chain_timed}
use Rattle.check_laws.proofs.ExecutingLemmas.{executing}
use Rattle.check_laws.proofs.OwingLemmas.{owes}
use Rattle.check_laws.specs.Bounded.{HasLeft, KeepsTime, KeepsTimes, Unlatched}
use Rattle.check_laws.proofs.Events.{Eventful, mode_on}
use Rattle.check_laws.proofs.MainEvents.{Taken, awake_executes, eventful, numbers_on, taken}
use Rattle.check_laws.proofs.Standing.{same_owed, same_placed}

rises : (hardware : Hardware) (run : Run hardware) (i k : ℕ) → time_before run i ≤ time_before run (i + k)
rises hardware run i zero = let e : i ≡ i + 0 = omega arith in subst (λ (m : ℕ). time_before run i ≤ time_before run m) e (omega arith)
rises hardware run i (suc k) =
    let h = rises hardware run i k in
    let e : suc (i + k) ≡ i + suc k = omega arith in
    subst (λ (m : ℕ). time_before run i ≤ time_before run m) e (omega (arith, h))

still_less : (n : ℕ) (a b m : ℤ) → pos 0 ≤ℤ b → (pos n +ℤ b) ≤ℤ m → pos n ≤ℤ m
still_less n a b m p q = omega (arith, ints, p, q)

none_gone : (n : ℕ) (a : ℤ) → n ≡ 0 → (pos n +ℤ a) ≤ℤ a
none_gone n a e = omega (arith, ints, e)

more_gone : (n t k : ℕ) (a b m : ℤ) → k ≡ n + t → (pos t +ℤ b) ≤ℤ a → (pos n +ℤ a) ≤ℤ m → (pos k +ℤ b) ≤ℤ m
more_gone n t k a b m e p q = omega (arith, ints, e, p, q)

all_gone : (n t k : ℕ) (a m : ℤ) → k ≡ n + t → pos t ≤ℤ a → (pos n +ℤ a) ≤ℤ m → pos k ≤ℤ m
all_gone n t k a m e p q = omega (arith, ints, e, p, q)

module _ (rom : List ℕ) (cert : CertificateView) (acc : AcceptsInForm rom cert) (lowest : Callee) (under : List ℕ) (u : Under cert lowest under) (timed : IsTimed lowest.proc) (run : Run (board_of rom cert)) (i : ℕ) (c : Activations) (numbers : IsState (run.state_at i)) (awake : (run.state_at i).halted ≡ false) (p : ArePlaced rom cert lowest under c (run.state_at i)) where
  abbrev most : ℤ
  most = owed cert c (run.state_at i)

  -- the chain after `k` more events
  record Point (k : ℕ) : Type 0 where
    chain : Activations
    placed : ArePlaced rom cert lowest under chain (run.state_at (i + k))
    numbers_at : IsState (run.state_at (i + k))
    awake_at : (run.state_at (i + k)).halted ≡ false
    pays : (pos (since run i (i + k)) +ℤ owed cert chain (run.state_at (i + k))) ≤ℤ most

  first : Point 0
  first =
      let e : i ≡ i + 0 = omega arith in
      record {
        chain = c;
        placed = subst (λ (m : ℕ). ArePlaced rom cert lowest under c (run.state_at m)) e p;
        numbers_at = subst (λ (m : ℕ). IsState (run.state_at m)) e numbers;
        awake_at = subst (λ (m : ℕ). (run.state_at m).halted ≡ false) e awake;
        pays = subst (λ (m : ℕ). (pos (since run i m) +ℤ owed cert c (run.state_at m)) ≤ℤ most) e (none_gone (since run i i) most (omega arith));
      }

  on : (k : ℕ) → Point k → i + k < run.count → (run.state_at (i + k)).latched ≡ false → Point (suc k) ⊎ HasLeft rom cert under run i (suc (i + k)) most
  on k q within unlatched = takes x.takes
    where
      n : ℕ
      n = i + k

      s : BoardView
      s = run.state_at (i + k)

      new : BoardView
      new = run.state_at (suc (i + k))

      step : Step (board_of rom cert) (run.state_at (i + k)) (run.env_at (i + k)) (run.event_at (i + k)) (run.state_at (suc (i + k)))
      step = run.steps (i + k) within

      x : Executed rom cert lowest under q.chain (run.state_at (i + k)) (run.env_at (i + k))
      x = executing rom cert lowest under q.chain (run.state_at (i + k)) (run.env_at (i + k)) acc u (inr timed) q.numbers_at (run.in_range (i + k) within) q.placed

      w : Taken rom cert acc (run.state_at (i + k)) (run.state_at (suc (i + k))) (run.env_at (i + k)) (run.event_at (i + k)) x.instr
      w = taken rom cert acc (run.state_at (i + k)) (run.state_at (suc (i + k))) (run.env_at (i + k)) (run.event_at (i + k)) x.instr q.numbers_at (run.in_range (i + k) within) step (awake_executes (run.state_at (i + k)) unlatched q.awake_at) x.stands

      t : ℕ
      t = t_of (at_board rom cert (run.state_at (i + k)) (run.env_at (i + k))) x.instr

      v : Eventful (run.state_at (i + k)) (run.state_at (suc (i + k))) (t_of (at_board rom cert (run.state_at (i + k)) (run.env_at (i + k))) x.instr)
      v = eventful rom cert acc (run.state_at (i + k)) (run.state_at (suc (i + k))) (run.env_at (i + k)) (run.event_at (i + k)) (t_of (at_board rom cert (run.state_at (i + k)) (run.env_at (i + k))) x.instr) q.numbers_at step w.t

      mid : BoardView
      mid = done (at_board rom cert (run.state_at (i + k)) (run.env_at (i + k))) x.instr

      later : since run i (suc (i + k)) ≡ since run i (i + k) + (run.event_at (i + k)).t
      later = let h = rises (board_of rom cert) run i k in omega (arith, h)

      e : suc (i + k) ≡ i + suc k
      e = omega arith

      takes : TakesInstruction rom cert lowest under q.chain (run.state_at (i + k)) (done (at_board rom cert (run.state_at (i + k)) (run.env_at (i + k))) x.instr) (t_of (at_board rom cert (run.state_at (i + k)) (run.env_at (i + k))) x.instr) (is_return x.instr (instr_draft (at_board rom cert (run.state_at (i + k)) (run.env_at (i + k))) x.instr).taken)
          → Point (suc k) ⊎ HasLeft rom cert under run i (suc (i + k)) most
      takes (stays m) =
          let board = w.board in
          let mode = mode_on (run.state_at (i + k)) (done (at_board rom cert (run.state_at (i + k)) (run.env_at (i + k))) x.instr) (run.state_at (suc (i + k))) _ q.chain.row.state.mode m.next.row.state.mode v board.only.enable m.nmi q.placed.holds.state.mode m.placed.holds.state.mode in
          let owes_same = same_owed cert m.next (done (at_board rom cert (run.state_at (i + k)) (run.env_at (i + k))) x.instr) (run.state_at (suc (i + k))) board in
          inl (record {
            chain = m.next;
            placed = subst (λ (m' : ℕ). ArePlaced rom cert lowest under m.next (run.state_at m')) e (same_placed rom cert lowest under m.next _ (run.state_at (suc (i + k))) board mode m.placed);
            numbers_at = subst (λ (m' : ℕ). IsState (run.state_at m')) e (numbers_on rom cert acc (run.state_at (i + k)) (run.state_at (suc (i + k))) (run.env_at (i + k)) (run.event_at (i + k)) q.numbers_at (run.in_range (i + k) within) step);
            awake_at = subst (λ (m' : ℕ). (run.state_at m').halted ≡ false) e (board.only.halted ∙ x.halts (chain_timed rom cert lowest q.chain.first q.chain.of q.chain.entry q.chain.waiting q.placed.chain timed));
            pays = subst (λ (m' : ℕ). (pos (since run i m') +ℤ owed cert m.next (run.state_at m')) ≤ℤ most) e
                (subst (λ (z : ℤ). (pos (since run i (suc (i + k))) +ℤ z) ≤ℤ most) (sym owes_same)
                (more_gone (since run i (i + k)) (t_of (at_board rom cert (run.state_at (i + k)) (run.env_at (i + k))) x.instr) (since run i (suc (i + k))) (owed cert q.chain (run.state_at (i + k))) _ most (later ∙ ap (λ (z : ℕ). since run i (i + k) + z) w.t) (m.pays timed) q.pays));
          })
      takes (leaves l) =
          let board = w.board in
          inr (record {
            at = i + k;
            from = omega arith;
            before = omega arith;
            rest = l.rest;
            under_is = l.under_is ∙ ap (λ (z : ℕ). z ∷ l.rest) (sym (ap (λ (r : Regs). r.pc) board.only.regs));
            laid = board.words l.rest l.laid;
            in_time = all_gone (since run i (i + k)) (t_of (at_board rom cert (run.state_at (i + k)) (run.env_at (i + k))) x.instr) (spent run i (i + k)) (owed cert q.chain (run.state_at (i + k))) most (later ∙ ap (λ (z : ℕ). since run i (i + k) + z) w.t) (l.pays timed) q.pays;
          })

  Reaches : ℕ → Type 0
  Reaches k = Point k ⊎ HasLeft rom cert under run i (i + k) most

  reaches : (k : ℕ) → i + k ≤ run.count → Unlatched rom cert run i (i + k) → Reaches k
  unfolding Reaches
  reaches zero within none = inl first
  reaches (suc k) within none =
      let e : suc (i + k) ≡ i + suc k = omega arith in
      elim (reaches k (omega arith) (λ j from before. none j from (omega arith))) [
        | inl q ↦ elim (on k q (omega arith) (none (i + k) (omega arith) (omega arith))) [
          | inl more ↦ inl more
          | inr left ↦ inr (subst (λ (m : ℕ). HasLeft rom cert under run i m most) e left)
        ]
        | inr left ↦ let b = left.before in inr (record { at = left.at; from = left.from; before = omega arith; rest = left.rest; under_is = left.under_is; laid = left.laid; in_time = left.in_time })
      ]

  pub keeps_time : (n : ℕ) → i ≤ n → n ≤ run.count → Unlatched rom cert run i n → KeepsTime rom cert lowest under run i n most
  unfolding Reaches
  keeps_time n from within none =
      let e : i + (n - i) ≡ n = omega arith in
      subst (λ (m : ℕ). KeepsTime rom cert lowest under run i m most) e
      (elim (reaches (n - i) (omega arith) (subst (λ (m : ℕ). Unlatched rom cert run i m) (sym e) none)) [
        | inl q ↦ inl (record {
          chain = q.chain;
          placed = q.placed;
          in_time = still_less (since run i (i + (n - i))) most (owed cert q.chain (run.state_at (i + (n - i)))) most (owes rom cert acc lowest under u timed q.chain (run.state_at (i + (n - i))) q.numbers_at q.placed) q.pays;
          pays = q.pays;
        })
        | inr left ↦ inr left
      ])

-- ---- at an entry

plus_none : (n t : ℕ) (a : ℤ) → (pos n +ℤ a) ≤ℤ pos t → (pos n +ℤ (a +ℤ pos 0)) ≤ℤ pos t
plus_none n t a h = omega (arith, ints, h)

-- at the entry of its lowest activation a chain owes no more than the procedure's time
pub entry_owes : (rom : List ℕ) (cert : CertificateView) (lowest : Callee) (under : List ℕ) (c : Activations) (s : BoardView) → AcceptsInForm rom cert → IsTimed lowest.proc → IsState s → ArePlaced rom cert lowest under c s → c.waiting ≡ [] → c.row.address ≡ lowest.proc.entry
    → (pos (cost_before lowest.proc.kind) +ℤ owed cert c s) ≤ℤ pos (unwrap_or lowest.proc.time 0)
unfolding Chain later_all
entry_owes rom cert lowest under c s acc timed numbers p none at =
    let chain : (c.of ≡ lowest) × (c.entry ≡ c.first) = subst (Chain rom cert lowest c.first c.of c.entry) none p.chain in
    let has : slice_get cert.procs c.row.proc ≡ Some lowest.proc = ap (slice_get cert.procs) p.is_of ∙ subst (λ (q : Callee). slice_get cert.procs c.of.number ≡ Some q.proc) chain.0 p.has in
    let j = judge rom cert c.row lowest.proc acc p.listed has in
    let pays : Pays (subject_of rom cert c.row lowest.proc j.instr) = j.consistent reasons.Time timed in
    let most = entry_in_time lowest.proc c.row cert.cells c.entry (seen_by cert c s) numbers.regs p.holds.state (pays.entry at) in
    subst (λ (ws : List Waiting). (pos (cost_before lowest.proc.kind) +ℤ (worth c.row (seen_by cert c s) +ℤ later_all ws)) ≤ℤ pos (unwrap_or lowest.proc.time 0)) (sym none)
    (plus_none (cost_before lowest.proc.kind) (unwrap_or lowest.proc.time 0) (worth c.row (seen_by cert c s)) most)

-- so activations keep their time
pub keeps_times : (rom : List ℕ) (cert : CertificateView) → AcceptsInForm rom cert → KeepsTimes rom cert
keeps_times rom cert acc = record {
  keeps = λ lowest under run i n c u timed numbers awake p from within none. keeps_time rom cert acc lowest under u timed run i c numbers awake p n from within none;
  entry = λ lowest under c s timed numbers p none at. entry_owes rom cert lowest under c s acc timed numbers p none at;
}
