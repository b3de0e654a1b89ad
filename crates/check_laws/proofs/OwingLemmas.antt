-- No chain of activations with a time owes less than 0: its lowest activation leaves in the end, and an exit pays.
use Rattle.std.proofs.Common.{◌≡◌, ◌≤◌, ◌+◌, ◌⊎◌, inl, inr, ℕ, zero, suc, Bool, false, List, [], ◌∷◌, length, ℤ, pos, negsuc, ◌+ℤ◌, ◌≤ℤ◌, refl, arith}
use Rattle.std.specs.List.{All}
use Rattle.std.proofs.lemmas.Int.{ints}
use Rattle.intervals.specs.Domain.{Entry}
use Rattle.t_states.proofs.CostLemmas.{cost_least}
use Rattle.board_step.specs.Env.{IsEnv, IsInputs}
use Rattle.board_step.specs.Reads.{no_inputs}
use Rattle.board_step.specs.State.{IsState, BoardView}
use Rattle.board_step.specs.Step.{done, instr_draft, t_of}
use Rattle.board_step.specs.declared.env.Env.{Env}
use Rattle.board_step.proofs.StateRangeLemmas.{done_keeps}
use Rattle.board_laws.specs.Words.{on_top}
use Rattle.board_laws.proofs.WordLaws.{on_top-length}
use Rattle.check_cover.specs.declared.program.Callee.{Callee}
use Rattle.cert_lines.specs.declared.proc.ProcKind.{ProcKind}
use Rattle.cert_lines.specs.declared.proc.ProcKind.TheVariants.{Main, Nmi, Sub}
use Rattle.cert_form.specs.Contents.{CertificateView}
use Rattle.check_rules.specs.Table.{IsTimed, entry_bytes}
use Rattle.check_laws.specs.RowHolds.{worth}
use Rattle.check_laws.proofs.PayLemmas.{worth_low}
use Rattle.check_laws.specs.Chain.{Chain, AcceptsInForm, Waiting, later_all, slack, waiting_words}
use Rattle.check_laws.specs.Placed.{Activations, ArePlaced, Under, owed, seen_by}
use Rattle.check_laws.specs.Steps.{Executed, TakesInstruction, at_board, leaves, stays}
use Rattle.check_laws.proofs.Depth.{chain_depth, chain_timed}
use Rattle.check_laws.proofs.ExecutingLemmas.{executing}

shorter : (ws : List Waiting) → length ws ≤ length (waiting_words ws)
unfolding waiting_words
shorter [] = omega arith
shorter (w ∷ ws) =
    let h = shorter ws in
    let count : length (on_top w.saw.words (waiting_words ws)) ≡ length w.saw.words + length (waiting_words ws) = on_top-length w.saw.words (waiting_words ws) in
    omega arith

entry_small : (k : ProcKind) → entry_bytes k ≤ 2
entry_small Main = omega arith
entry_small Nmi = omega arith
entry_small Sub = omega arith

two_low : (a b : ℤ) (x y z : ℕ) → z ≡ x + y → pos 0 ≤ℤ (a +ℤ pos x) → pos 0 ≤ℤ (b +ℤ pos y) → pos 0 ≤ℤ ((a +ℤ b) +ℤ pos z)
two_low a b x y z e p q = omega (arith, ints, e, p, q)

-- a multiple of a number
times : ℕ → ℕ → ℕ
times zero n = 0
times (suc k) n = n + times k n

none_low : (n : ℕ) → pos 0 ≤ℤ (pos 0 +ℤ pos n)
none_low n = omega (arith, ints)

module _ (rom : List ℕ) (cert : CertificateView) (lowest : Callee) (first : Entry) (timed : IsTimed lowest.proc) where
  -- what the waiting ones keep is bounded below
  later_low : (running : Callee) (entry : Entry) (ws : List Waiting) (n : ℕ) → Chain rom cert lowest first running entry ws → length ws ≤ n → pos 0 ≤ℤ (later_all ws +ℤ pos (times n slack))
  unfolding Chain later_all times
  later_low running entry [] n c h = none_low (times n slack)
  later_low running entry (w ∷ ws) zero c h = absurd (omega arith)
  later_low running entry (w ∷ ws) (suc n) c h =
      two_low w.later (later_all ws) slack (times n slack) (slack + times n slack) refl (c.0.least (chain_timed rom cert lowest first w.of w.entry ws c.1 timed)) (later_low w.of w.entry ws n c.1 (omega arith))

-- the bound of a chain
floor : Callee → ℕ
floor lowest = 197605000000 + times (1 + lowest.proc.depth) slack

module _ (rom : List ℕ) (cert : CertificateView) (acc : AcceptsInForm rom cert) (lowest : Callee) (under : List ℕ) (u : Under cert lowest under) (timed : IsTimed lowest.proc) where
  owed_low : (c : Activations) (s : BoardView) → IsState s → ArePlaced rom cert lowest under c s → pos 0 ≤ℤ (owed cert c s +ℤ pos (floor lowest))
  unfolding floor
  owed_low c s numbers p =
      let deep = chain_depth rom cert lowest c.first c.of c.entry c.waiting p.chain in
      let short = shorter c.waiting in
      let small = entry_small c.of.proc.kind in
      let few : length c.waiting ≤ 1 + lowest.proc.depth = omega arith in
      two_low (worth c.row (seen_by cert c s)) (later_all c.waiting) 197605000000 (times (1 + lowest.proc.depth) slack) (197605000000 + times (1 + lowest.proc.depth) slack) refl
      (worth_low cert c.row c.entry (seen_by cert c s) acc.form p.listed numbers.regs p.holds.state)
      (later_low rom cert lowest c.first timed c.of c.entry c.waiting (1 + lowest.proc.depth) p.chain few)

  any_env : Env
  any_env = record { latch = false; inputs = no_inputs ∷ no_inputs ∷ []; noise = 0; r = 0 }

  no_inputs_are : IsInputs no_inputs
  no_inputs_are = record { in0 = omega arith; in1 = omega arith; in2 = omega arith; bus = omega arith }

  both_sets : All IsInputs (no_inputs ∷ no_inputs ∷ [])
  both_sets zero d h = no_inputs_are
  both_sets (suc zero) d h = no_inputs_are
  both_sets (suc (suc k)) d h = absurd (omega arith)

  is_env : IsEnv any_env
  unfolding any_env
  is_env = record { sets = refl; inputs = both_sets; noise = omega arith; r = omega arith }

  -- the chain after one more instruction, owing at least 4 less
  record Ahead (c : Activations) (s : BoardView) : Type 0 where
    next : Activations
    state : BoardView
    numbers : IsState state
    placed : ArePlaced rom cert lowest under next state
    less : (pos 4 +ℤ owed cert next state) ≤ℤ owed cert c s

  ended : (t : ℕ) (a : ℤ) → pos t ≤ℤ a → pos 0 ≤ℤ a
  ended t a h = omega (arith, ints, h)

  four : (t : ℕ) (a b : ℤ) → 4 ≤ t → (pos t +ℤ b) ≤ℤ a → (pos 4 +ℤ b) ≤ℤ a
  four t a b p q = omega (arith, ints, p, q)

  ahead : (c : Activations) (s : BoardView) → IsState s → ArePlaced rom cert lowest under c s → (pos 0 ≤ℤ owed cert c s) ⊎ Ahead c s
  ahead c s numbers p = by x.takes
    where
      x : Executed rom cert lowest under c s any_env
      x = executing rom cert lowest under c s any_env acc u (inr timed) numbers is_env p

      keeps : IsState (done (at_board rom cert s any_env) x.instr)
      keeps = done_keeps (at_board rom cert s any_env) x.instr (record { rom = acc.bytes; state = numbers; env = is_env }) x.stands

      t : ℕ
      t = t_of (at_board rom cert s any_env) x.instr

      by : {r : Bool} → TakesInstruction rom cert lowest under c s (done (at_board rom cert s any_env) x.instr) (t_of (at_board rom cert s any_env) x.instr) r → (pos 0 ≤ℤ owed cert c s) ⊎ Ahead c s
      by (stays n) = inr (record { next = n.next; state = done (at_board rom cert s any_env) x.instr; numbers = keeps; placed = n.placed; less = four _ (owed cert c s) (owed cert n.next (done (at_board rom cert s any_env) x.instr)) (cost_least x.instr (instr_draft (at_board rom cert s any_env) x.instr).taken) (n.pays timed) })
      by (leaves n) = inl (ended _ (owed cert c s) (n.pays timed))

  none_left : (f : ℕ) (a b : ℤ) → (pos 4 +ℤ b) ≤ℤ a → pos 0 ≤ℤ (b +ℤ pos f) → (a +ℤ pos f) ≤ℤ pos 0 → ⊥
  none_left f a b q r w = omega (arith, ints, q, r, w)

  less_left : (f n : ℕ) (a b : ℤ) → (pos 4 +ℤ b) ≤ℤ a → (a +ℤ pos f) ≤ℤ pos (suc n) → (b +ℤ pos f) ≤ℤ pos n
  less_left f n a b q r = omega (arith, ints, q, r)

  back : (a b : ℤ) → (pos 4 +ℤ b) ≤ℤ a → pos 0 ≤ℤ b → pos 0 ≤ℤ a
  back a b p q = omega (arith, ints, p, q)

  -- by what it owes and its bound: each instruction costs at least 4
  owes_by : (fuel : ℕ) (c : Activations) (s : BoardView) → IsState s → ArePlaced rom cert lowest under c s → (owed cert c s +ℤ pos (floor lowest)) ≤ℤ pos fuel → pos 0 ≤ℤ owed cert c s
  owes_by zero c s numbers p most =
      elim (ahead c s numbers p) [
        | inl h ↦ h
        | inr a ↦ absurd (none_left (floor lowest) (owed cert c s) (owed cert a.next a.state) a.less (owed_low a.next a.state a.numbers a.placed) most)
      ]
  owes_by (suc fuel) c s numbers p most =
      elim (ahead c s numbers p) [
        | inl h ↦ h
        | inr a ↦ back (owed cert c s) (owed cert a.next a.state) a.less (owes_by fuel a.next a.state a.numbers a.placed (less_left (floor lowest) fuel (owed cert c s) (owed cert a.next a.state) a.less most))
      ]

  fuel_for : (z : ℤ) → (n : ℕ) × (z ≤ℤ pos n)
  fuel_for (pos n) = (n, omega (arith, ints))
  fuel_for (negsuc n) = (0, omega (arith, ints))

  pub owes : (c : Activations) (s : BoardView) → IsState s → ArePlaced rom cert lowest under c s → pos 0 ≤ℤ owed cert c s
  owes c s numbers p = let (n, most) = fuel_for (owed cert c s +ℤ pos (floor lowest)) in owes_by n c s numbers p most
