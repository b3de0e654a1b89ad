-- A chain of activations takes its instruction: it goes on, calls, returns, or leaves.
use Rattle.std.proofs.Common.{◌≡◌, ◌≤◌, ◌+◌, ◌*◌, ◌∙◌, inl, inr, ℕ, Bool, true, false, cond, List, [], ◌∷◌, ◌++◌, length, slice_get, Contains, Option, Some, None, Ok, ℤ, pos, ◌+ℤ◌, ◌-ℤ◌, ◌≤ℤ◌, refl, sym, ap, subst, arith}
use Rattle.std.specs.Prelude.{◌%◌, IfSome, unwrap_or}
use Rattle.std.specs.List.{All}
use Rattle.std.proofs.lemmas.Int.{ints}
use Rattle.std.proofs.lemmas.Option.{get_or_from_slice_get, slice_get_within}
use Rattle.z80_decode.specs.Spelling.{spelling}
use Rattle.z80_decode.specs.declared.instr.Instr.TheVariants.{Halt}
use Rattle.z80_alu.specs.Word.{word_of}
use Rattle.z80_alu.specs.declared.regs.RegisterSet.{RegisterSet}
use Rattle.z80_alu.specs.declared.regs.Regs.{Regs}
use Rattle.intervals.specs.Domain.{Entry}
use Rattle.intervals.specs.declared.reg_pair.RegPair.{RegPair}
use Rattle.intervals.specs.declared.reg_pair.RegPair.TheVariants as pairs
use Rattle.t_states.proofs.CostLemmas.{cost_greatest}
use Rattle.board_step.specs.Context.{ContextView}
use Rattle.board_step.specs.Env.{IsEnv}
use Rattle.z80_actions.specs.Returns.{is_return}
use Rattle.board_step.specs.State.{IsState, BoardView}
use Rattle.board_step.specs.Step.{done, instr_draft, t_of}
use Rattle.board_step.specs.declared.env.Env.{Env}
use Rattle.board_laws.specs.Board.{HasWords}
use Rattle.board_laws.specs.Words.{on_top}
use Rattle.board_laws.proofs.WordLaws.{on_top-under}
use Rattle.abs_laws.specs.Writes.{TakesData}
use Rattle.abs_state.specs.Entries.{callee_entry}
use Rattle.abs_state.specs.Holds.{Holds}
use Rattle.abs_state.specs.Pairs.{entry_of}
use Rattle.abs_state.specs.Seen.{Seen}
use Rattle.abs_state.specs.declared.mode.Mode.TheVariants.{Nmi}
use Rattle.abs_step.specs.Contained.{Called, Ended, GoesBy, Running, SameRegs, Went, seen_of}
use Rattle.abs_step.specs.declared.next.Next.{Next}
use Rattle.abs_step.specs.declared.next.NextKind.{NextKind}
use Rattle.abs_step.specs.declared.next.NextKind.TheVariants as kinds
use Rattle.abs_step.specs.declared.reason.Reason.TheVariants as reasons
use Rattle.abs_step.specs.declared.reason.Saved.TheVariants as saved
use Rattle.abs_step.proofs.GoesStack.{as_many}
use Rattle.abs_state.specs.Covers.{OverlapsState}
use Rattle.check_cover.specs.Program.{IsRowAt, is_main}
use Rattle.check_cover.specs.declared.program.Callee.{Callee}
use Rattle.cert_lines.specs.Proc.{IsProc}
use Rattle.cert_lines.specs.declared.proc.Proc.{Proc}
use Rattle.cert_lines.specs.declared.row.Row.{Row}
use Rattle.cert_form.specs.Contents.{CertificateView, map_of_board}
use Rattle.check_rules.specs.Table.{FitsDepth, IsTimed, entry_bytes}
use Rattle.check_ways.specs.Pays.{IsWithinTime, Lands, Pays, cost_before}
use Rattle.check_steps.specs.Restarts.{restarted}
use Rattle.check_ways.specs.Ways.{GoesOn, IsExit, IsWay, SubjectView, behind_of, call_cost, jump_way, nexts_from, restarts, return_way, writes_from}
use Rattle.check_laws.specs.Comes.{CameBy, Exits, Steps, resumed}
use Rattle.check_laws.specs.RowHolds.{IsHeld, worth}
use Rattle.check_laws.proofs.EntryLemmas.{callee_begins}
use Rattle.check_laws.proofs.InForm.{each_or}
use Rattle.check_laws.proofs.PayLemmas.{entry_in_time, exit_paid, way_paid, worth_low}
use Rattle.check_laws.proofs.ReturnLemmas.{call_comes_back, return_came, return_refined, way_leads}
use Rattle.check_laws.specs.Chain.{Awaits, Chain, Has, AcceptsInForm, Waiting, later_all, slack, waiting_words}
use Rattle.check_laws.specs.Placed.{Activations, ArePlaced, IsMainOrTimed, Under, seen_by}
use Rattle.check_laws.specs.Steps.{Executed, Leaves, Stays, TakesInstruction, at_board, leaves, stays}
use Rattle.check_laws.proofs.Depth.{chain_timed}
use Rattle.check_laws.proofs.Going.{Entering, IsTrueOfStep, after, deep, entering, goes, numbers_after, running, stands, told_came}
use Rattle.check_laws.proofs.Judging.{Judged, judge, subject_of}
use Rattle.check_laws.proofs.Procs.{nmi_covered, set_covered, sub_not_main}
use Rattle.check_laws.proofs.RestartLemmas.{restart_executes}

-- ---- numbers

more_waits : (t n : ℕ) (a b d : ℤ) → t ≡ n → (pos n +ℤ b) ≤ℤ a → (pos t +ℤ (b +ℤ d)) ≤ℤ (a +ℤ d)
more_waits t n a b d e h = omega (arith, ints, e, h)

-- what is kept for the time after a call
later_of : ℕ → ℤ → ℤ
later_of cost owes = owes -ℤ pos cost

kept_less : (n : ℕ) (a b : ℤ) → (pos n +ℤ b) ≤ℤ a → b ≤ℤ later_of n a
unfolding later_of
kept_less n a b h = omega (arith, ints, h)

call_waits : (t n time : ℕ) (entry a d : ℤ) → t ≡ n → (pos 0 +ℤ entry) ≤ℤ pos time → (pos t +ℤ (entry +ℤ (later_of (n + time) a +ℤ d))) ≤ℤ (a +ℤ d)
unfolding later_of
call_waits t n time entry a d e h = omega (arith, ints, e, h)

kept_low : (n time : ℕ) (a : ℤ) → n ≤ 23 → time ≤ 1000000000 → pos 0 ≤ℤ (a +ℤ pos 197605000000) → pos 0 ≤ℤ (later_of (n + time) a +ℤ pos slack)
unfolding later_of
kept_low n time a p q h = omega (arith, ints, p, q, h)

return_waits : (t n : ℕ) (b later a d : ℤ) → t ≡ n → b ≤ℤ later → pos n ≤ℤ a → (pos t +ℤ (b +ℤ d)) ≤ℤ (a +ℤ (later +ℤ d))
return_waits t n b later a d e h k = omega (arith, ints, e, h, k)

out_waits : (t n : ℕ) (a : ℤ) → t ≡ n → pos n ≤ℤ a → pos t ≤ℤ (a +ℤ pos 0)
out_waits t n a e h = omega (arith, ints, e, h)

time_small : (time : Option ℕ) → IfSome time (λ t. t ≤ 1000000000) → unwrap_or time 0 ≤ 1000000000
time_small None h = omega arith
time_small (Some t) h = h

heads : {a b : ℕ} {xs ys : List ℕ} → a ∷ xs ≡ b ∷ ys → (a ≡ b) × (xs ≡ ys)
heads e = (cc, cc)

-- registers that a call leaves unchanged make the same pairs
same_pairs : (old new : Regs) → SameRegs old new → (pair : RegPair) → entry_of new pair ≡ entry_of old pair
same_pairs old new same pairs.Af = ap (λ (r : RegisterSet). word_of r.a r.f) same.main
same_pairs old new same pairs.Bc = ap (λ (r : RegisterSet). word_of r.b r.c) same.main
same_pairs old new same pairs.De = ap (λ (r : RegisterSet). word_of r.d r.e) same.main
same_pairs old new same pairs.Hl = ap (λ (r : RegisterSet). word_of r.h r.l) same.main
same_pairs old new same pairs.Ix = same.ix
same_pairs old new same pairs.Iy = same.iy
same_pairs old new same pairs.AlternateAf = ap (λ (r : RegisterSet). word_of r.a r.f) same.alternate
same_pairs old new same pairs.AlternateBc = ap (λ (r : RegisterSet). word_of r.b r.c) same.alternate
same_pairs old new same pairs.AlternateDe = ap (λ (r : RegisterSet). word_of r.d r.e) same.alternate
same_pairs old new same pairs.AlternateHl = ap (λ (r : RegisterSet). word_of r.h r.l) same.alternate

module _ (rom : List ℕ) (cert : CertificateView) (acc : AcceptsInForm rom cert) (lowest : Callee) (under : List ℕ) (u : Under cert lowest under) (c : Activations) (s : BoardView) (env : Env) (numbers : IsState s) (is_env : IsEnv env) (p : ArePlaced rom cert lowest under c s) (j : Judged rom cert c.row c.of.proc) where
  abbrev ctx : ContextView
  ctx = at_board rom cert s env

  abbrev new : BoardView
  new = done ctx j.instr

  abbrev t : ℕ
  t = t_of ctx j.instr

  abbrev here : SubjectView
  here = subject_of rom cert c.row c.of.proc j.instr

  abbrev old_seen : Seen
  old_seen = seen_by cert c s

  abbrev StaysNow : Type 0
  StaysNow = Stays rom cert lowest under c s new t

  abbrev LeavesNow : Type 0
  LeavesNow = Leaves rom cert lowest under c s new t (is_return j.instr (instr_draft ctx j.instr).taken)

  abbrev Going : Type 0
  Going = TakesInstruction rom cert lowest under c s new t (is_return j.instr (instr_draft ctx j.instr).taken)

  abbrev running_here : Running
  running_here = running rom cert acc lowest under u c s env numbers is_env p j

  goes_here : GoesOn here
  goes_here = goes rom cert acc lowest under u c s env numbers is_env p j

  deep_here : FitsDepth here
  deep_here = deep rom cert acc lowest under u c s env numbers is_env p j

  after_numbers : IsState new
  after_numbers = numbers_after rom cert acc lowest under u c s env numbers is_env p j

  timed_here : IsTimed lowest.proc → IsTimed c.of.proc
  timed_here b = chain_timed rom cert lowest c.first c.of c.entry c.waiting p.chain b

  pays_here : IsTimed c.of.proc → Pays here
  pays_here b = j.consistent reasons.Time b

  abbrev ToldHere : Type 0
  ToldHere = IsTrueOfStep rom cert acc lowest under u c s env numbers is_env p j cert.version

  steps : (n : Next) (words : List ℕ) → Holds n.state cert.cells c.entry (seen_of cert.cells words new) → CameBy n.effect old_seen (seen_of cert.cells words new) → CameBy n.moved old_seen (seen_of cert.cells words new) → ToldHere
      → Steps here n c.entry old_seen (seen_of cert.cells words new)
  steps n words holds came moved told = record {
    numbers = numbers.regs;
    held = p.holds;
    numbers_now = after_numbers.regs;
    holds = holds;
    came = came;
    moved = moved;
    refined = told_came rom cert acc lowest under u c s env numbers is_env p j cert.version told n.moved words moved;
  }

  -- ---- jumps

  -- without a restart a jump arrives in the row's procedure
  lands_plain : restarts here ≡ false → (n : Next) (row : Row) → IsRowAt cert c.row.proc n.address row → OverlapsState row.state n.state → Lands cert (jump_way here n) row
  lands_plain plain n row at overlaps =
      let way = jump_way here n in
      subst (λ (b : Bool). Lands cert (record way { arrival = record way.arrival { proc = cond b 0 c.row.proc }; state = cond b (restarted n.state) n.state }) row) (sym plain) (record { at = at; asked = inr overlaps })

  went_on : restarts here ≡ false → ToldHere → (n : Next) → Contains (nexts_from here) n → n.kind ≡ kinds.Jump → t ≡ n.cost → (c.row.state.mode ≡ Nmi → n.state.mode ≡ Nmi) → Went cert.cells cert.region running_here ctx n new → StaysNow
  went_on plain told n listed kind cost nmi w =
      let x = steps n w.words w.holds w.through w.moved told in
      let way : IsWay here (jump_way here n) = inl (record { next = n; leads = listed; kind = kind; is = refl }) in
      let l = way_leads here n c.entry old_seen (seen_of cert.cells w.words new) acc.form plain x (goes_here.ways (jump_way here n) way) in
      record {
        next = record { row = l.row; of = c.of; entry = c.entry; words = w.words; waiting = c.waiting; first = c.first };
        placed = record {
          pc = w.pc ∙ sym l.at.at;
          listed = l.at.listed;
          is_of = l.at.of ∙ p.is_of;
          has = p.has;
          holds = l.holds;
          laid = λ set. w.laid (set_covered l.row.state.mode n.state.mode l.mode set);
          chain = p.chain;
        };
        first = refl;
        nmi = λ m. nmi_covered l.row.state.mode n.state.mode l.mode (nmi m);
        pays = λ b.
            let paid = way_paid cert c.row l.row n.cost (jump_way here n).arrival c.entry c.entry old_seen (seen_of cert.cells w.words new) acc.form l.at.listed numbers.regs after_numbers.regs p.holds.state l.holds.state w.through x.refined
            ((pays_here (timed_here b)).ways (jump_way here n) l.row (record { is_way = way; lands = lands_plain plain n l.row l.at l.overlaps })) in
            more_waits t n.cost (worth c.row old_seen) (worth l.row (seen_of cert.cells w.words new)) (later_all c.waiting) cost paid;
      }

  -- ---- calls

  abbrev waits_for : Next → Callee → Waiting
  waits_for n callee = record {
    of = c.of;
    entry = c.entry;
    row = c.row;
    saw = old_seen;
    resume = behind_of (Ok j.instr) c.row.address;
    later = later_of (call_cost n callee) (worth c.row old_seen);
  }

  procs_small : (q : Callee) → Has cert q → unwrap_or q.proc.time 0 ≤ 1000000000
  procs_small q has =
      let is : IsProc q.proc = subst IsProc (get_or_from_slice_get cert.procs q.number q.proc q.proc has) (each_or IsProc cert.procs q.number q.proc acc.form.certificate.procs (slice_get_within cert.procs q.number q.proc has)) in
      time_small q.proc.time is.time

  awaits : ToldHere → (n : Next) → (e : Entering here n) → t ≡ n.cost → (w : Called cert.cells cert.region running_here j.instr ctx n new) → Awaits rom cert e.callee (entry_of new.regs) (waits_for n e.callee)
  awaits told n e cost w =
      let at = seen_of cert.cells c.words new in
      let x = steps n c.words w.holds w.through w.moved told in
      let callee = e.callee in
      let regs : SameRegs s.regs new.regs = w.same in
      record {
        at = record {
          instr = j.instr;
          is_subject = j.is_subject;
          is_of = p.is_of;
          numbers = numbers.regs;
          holds = p.holds;
          next = n;
          calls = e.calls;
          enters = same_pairs s.regs new.regs regs;
          resumes = refl;
        };
        sub = e.found.sub;
        not_main = sub_not_main cert callee acc.form e.found.has e.found.sub;
        has = p.has;
        deep = subst (λ (k : ℕ). entry_bytes c.of.proc.kind + 2 * k + callee.proc.depth ≤ c.of.proc.depth) (sym (as_many n.state.shape c.entry c.words w.holds.shape)) (deep_here.calls n callee e.calls);
        back = λ exit m i is h.
            let y : Exits here exit at m = record { numbers = i; holds = h } in
            let back = return_way here n callee exit in
            let way : IsWay here back = inr (record { next = n; callee = callee; calls = e.calls; exit = exit; exits = is; is = refl }) in
            let l = call_comes_back here n callee exit c.entry old_seen at m acc.form x y (goes_here.ways back way) in
            record {
              row = l.row;
              at = record { listed = l.at.listed; of = l.at.of ∙ p.is_of; at = l.at.at };
              holds = l.holds;
              mode_is = l.mode;
              owes = λ b.
                  let paid = way_paid cert c.row l.row (call_cost n callee) back.arrival c.entry c.entry old_seen (resumed at m) acc.form l.at.listed numbers.regs i p.holds.state l.holds.state
                  (return_came here n callee exit c.entry old_seen at m x y) (return_refined here n callee exit c.entry old_seen at m x y)
                  ((pays_here b).ways back l.row (record { is_way = way; lands = record { at = l.at; asked = inr l.overlaps } })) in
                  kept_less (call_cost n callee) (worth c.row old_seen) (worth l.row (resumed at m)) paid;
            };
        timed = λ b. ((pays_here b).calls n callee e.calls).timed;
        least = λ b.
            kept_low n.cost (unwrap_or callee.proc.time 0) (worth c.row old_seen)
            (subst (λ (k : ℕ). k ≤ 23) cost (cost_greatest j.instr (instr_draft ctx j.instr).taken)) (procs_small callee e.found.has)
            (worth_low cert c.row c.entry old_seen acc.form p.listed numbers.regs p.holds.state);
      }

  calls_on : ToldHere → (n : Next) → Contains (nexts_from here) n → n.kind ≡ kinds.Call → t ≡ n.cost → (c.row.state.mode ≡ Nmi → n.state.mode ≡ Nmi) → Called cert.cells cert.region running_here j.instr ctx n new → StaysNow
  unfolding Chain waiting_words later_all on_top
  calls_on told n listed kind cost nmi w =
      let e = entering here goes_here n listed kind in
      let callee = e.callee in
      let at = seen_of cert.cells c.words new in
      let x = steps n c.words w.holds w.through w.moved told in
      let l : IsHeld cert callee.number n.address (callee_entry n.state) (entry_of new.regs) (seen_of cert.cells [] new) = callee_begins here n callee c.entry old_seen at acc.form x e.covered in
      let wait = waits_for n callee in
      let resume : (s.regs.pc + length (spelling j.instr)) % 65536 ≡ wait.resume = ap (λ (k : ℕ). (k + length (spelling j.instr)) % 65536) p.pc in
      record {
        next = record { row = l.row; of = callee; entry = entry_of new.regs; words = []; waiting = wait ∷ c.waiting; first = c.first };
        placed = record {
          pc = w.pc ∙ sym l.at.at;
          listed = l.at.listed;
          is_of = l.at.of;
          has = e.found.has;
          holds = l.holds;
          laid = λ set. subst (λ (ws : List ℕ). HasWords (map_of_board cert) cert.region new ws) (ap (λ (k : ℕ). k ∷ on_top c.words (waiting_words c.waiting ++ under)) resume ∙ ap (λ (ws : List ℕ). wait.resume ∷ ws) (on_top-under c.words (waiting_words c.waiting) under)) w.laid;
          chain = (awaits told n e cost w, p.chain);
        };
        first = refl;
        nmi = λ m. nmi_covered l.row.state.mode n.state.mode l.mode (nmi m);
        pays = λ b.
            let timed = ((pays_here (timed_here b)).calls n callee e.calls).timed in
            let k = judge rom cert l.row callee.proc acc l.at.listed (ap (slice_get cert.procs) l.at.of ∙ e.found.has) in
            let in_time : IsWithinTime callee.proc l.row = (pays_at k timed).entry (l.at.at ∙ sym e.found.entry_is) in
            let none : cost_before callee.proc.kind ≡ 0 = ap cost_before e.found.sub in
            let most = entry_in_time callee.proc l.row cert.cells (entry_of new.regs) (seen_of cert.cells [] new) after_numbers.regs l.holds.state in_time in
            call_waits t n.cost (unwrap_or callee.proc.time 0) (worth l.row (seen_of cert.cells [] new)) (worth c.row old_seen) (later_all c.waiting) cost
            (subst (λ (z : ℕ). (pos z +ℤ worth l.row (seen_of cert.cells [] new)) ≤ℤ pos (unwrap_or callee.proc.time 0)) none most);
      }
    where
      pays_at : {row : Row} {proc : Proc} → (k : Judged rom cert row proc) → IsTimed proc → Pays (subject_of rom cert row proc k.instr)
      pays_at k timed = k.consistent reasons.Time timed

  -- ---- ends

  exit_here : (n : Next) → Contains (nexts_from here) n → n.kind ≡ kinds.Exit → IsExit rom cert c.of.number n.state
  exit_here n listed kind = record { subject = here; is_subject = j.is_subject; same = (refl, refl); of = p.is_of; next = n; leads = listed; kind = kind; state = refl }

  exit_pays : (n : Next) → Contains (nexts_from here) n → n.kind ≡ kinds.Exit → IsTimed lowest.proc → pos n.cost ≤ℤ worth c.row old_seen
  exit_pays n listed kind b = exit_paid c.row cert.cells c.entry old_seen numbers.regs p.holds.state n.cost ((pays_here (timed_here b)).exits n listed kind)

  returns_on : (n : Next) → Contains (nexts_from here) n → n.kind ≡ kinds.Exit → t ≡ n.cost → (c.row.state.mode ≡ Nmi → n.state.mode ≡ Nmi) → Ended cert.cells cert.region running_here j.instr ctx n new
      → (w : Waiting) (ws : List Waiting) → c.waiting ≡ w ∷ ws → StaysNow
  unfolding Chain waiting_words later_all
  returns_on n listed kind cost nmi e w ws is =
      let chain : Chain rom cert lowest c.first c.of c.entry (w ∷ ws) = subst (Chain rom cert lowest c.first c.of c.entry) is p.chain in
      let m = seen_of cert.cells [] new in
      let r = chain.0.back n.state m after_numbers.regs (exit_here n listed kind) e.holds in
      let words : (w.resume ≡ new.regs.pc) × (on_top w.saw.words (waiting_words ws) ++ under ≡ e.rest) = heads (ap (λ (v : List Waiting). waiting_words v ++ under) (sym is) ∙ e.under) in
      record {
        next = record { row = r.row; of = w.of; entry = w.entry; words = w.saw.words; waiting = ws; first = c.first };
        placed = record {
          pc = sym words.0 ∙ sym r.at.at;
          listed = r.at.listed;
          is_of = r.at.of;
          has = chain.0.has;
          holds = r.holds;
          laid = λ set. subst (λ (xs : List ℕ). HasWords (map_of_board cert) cert.region new xs) (sym words.1 ∙ sym (on_top-under w.saw.words (waiting_words ws) under)) e.laid;
          chain = chain.1;
        };
        first = refl;
        nmi = λ q. nmi_covered r.row.state.mode n.state.mode r.mode_is (nmi q);
        pays = λ b.
            let caller : IsTimed w.of.proc = chain_timed rom cert lowest c.first w.of w.entry ws chain.1 b in
            subst (λ (z : ℤ). (pos t +ℤ (worth r.row (resumed w.saw m) +ℤ later_all ws)) ≤ℤ (worth c.row old_seen +ℤ z)) (sym (ap later_all is))
            (return_waits t n.cost (worth r.row (resumed w.saw m)) w.later (worth c.row old_seen) (later_all ws) cost (r.owes caller) (exit_pays n listed kind b));
      }

  out : (n : Next) → Contains (nexts_from here) n → n.kind ≡ kinds.Exit → t ≡ n.cost → (c.row.state.mode ≡ Nmi → n.state.mode ≡ Nmi) → c.row.state.armed ≤ n.state.armed → Ended cert.cells cert.region running_here j.instr ctx n new → c.waiting ≡ [] → LeavesNow
  unfolding Chain waiting_words later_all
  out n listed kind cost nmi arms e is =
      let chain : (c.of ≡ lowest) × (c.entry ≡ c.first) = subst (Chain rom cert lowest c.first c.of c.entry) is p.chain in
      record {
        returns = e.returns;
        exit = n.state;
        is = subst (λ (q : Callee). IsExit rom cert q.number n.state) chain.0 (exit_here n listed kind);
        not_main = subst (λ (q : Callee). is_main q.number ≡ false) chain.0 (ap is_main (sym p.is_of) ∙ e.main);
        holds = subst (λ (entry : Entry). Holds n.state cert.cells entry (seen_of cert.cells [] new)) chain.1 e.holds;
        nmi = nmi;
        arms = arms;
        rest = e.rest;
        under_is = ap (λ (v : List Waiting). waiting_words v ++ under) (sym is) ∙ e.under;
        laid = e.laid;
        same = e.same;
        enable = e.enable;
        pays = λ b. subst (λ (z : ℤ). pos t ≤ℤ (worth c.row old_seen +ℤ z)) (sym (ap later_all is)) (out_waits t n.cost (worth c.row old_seen) cost (exit_pays n listed kind b));
      }

  leaving : (n : Next) → Contains (nexts_from here) n → n.kind ≡ kinds.Exit → t ≡ n.cost → (c.row.state.mode ≡ Nmi → n.state.mode ≡ Nmi) → c.row.state.armed ≤ n.state.armed → Ended cert.cells cert.region running_here j.instr ctx n new → (ws : List Waiting) → c.waiting ≡ ws → Going
  leaving n listed kind cost nmi arms e [] is = leaves (out n listed kind cost nmi arms e is)
  leaving n listed kind cost nmi arms e (w ∷ ws) is = stays (returns_on n listed kind cost nmi e w ws is)

  by_kind : restarts here ≡ false → ToldHere → (n : Next) (k : NextKind) → n.kind ≡ k → Contains (nexts_from here) n → t ≡ n.cost → (c.row.state.mode ≡ Nmi → n.state.mode ≡ Nmi) → c.row.state.armed ≤ n.state.armed → GoesBy k cert.cells cert.region running_here j.instr ctx n → Going
  by_kind plain told n kinds.Jump kind listed cost nmi arms g = stays (went_on plain told n listed kind cost nmi g)
  by_kind plain told n kinds.Call kind listed cost nmi arms g = stays (calls_on told n listed kind cost nmi g)
  by_kind plain told n kinds.Exit kind listed cost nmi arms g = leaving n listed kind cost nmi arms g c.waiting refl

  -- ---- the rest

  takes_data : All (TakesData (map_of_board cert)) (writes_from here)
  takes_data k d within at inside = (λ rom_at. j.consistent reasons.WriteRom k d within (at, inside, rom_at), λ gap. j.consistent reasons.WriteUnmapped k d within (at, inside, gap))

  never_halts : (new.halted ≡ true → j.instr ≡ Halt) → IsTimed c.of.proc → (b : Bool) → new.halted ≡ b → new.halted ≡ false
  never_halts halts timed false e = e
  never_halts halts timed true e = absurd (j.consistent reasons.HaltInNmi timed (ap (λ i. Ok i) (halts e)))

  executes_on : restarts here ≡ false → Executed rom cert lowest under c s env
  executes_on plain =
      let both = after rom cert acc lowest under u c s env numbers is_env p j plain in
      let a = both.0 in
      record {
        instr = j.instr;
        stands = stands rom cert acc lowest under u c s env numbers is_env p j;
        safe = a.safe takes_data;
        takes = by_kind plain both.1 a.goes.next a.goes.next.kind refl a.goes.listed a.goes.cost a.goes.stays a.goes.arms a.goes.goes;
        clear = λ none. a.clear (j.consistent reasons.NmiMissing none);
        halts = λ timed. never_halts a.halts timed new.halted refl;
        keeps_i = λ timed. a.keeps_i (λ e. j.consistent (reasons.SavedRegister saved.I) timed (ap (λ i. Ok i) e));
      }

  executes : IsMainOrTimed lowest → Executed rom cert lowest under c s env
  executes root = by (restarts here) refl
    where
      by : (b : Bool) → restarts here ≡ b → Executed rom cert lowest under c s env
      by true restart = restart_executes rom cert acc lowest under u c s env numbers is_env p j root restart
      by false plain = executes_on plain

-- a chain on a board executes its instruction
pub executing : (rom : List ℕ) (cert : CertificateView) (lowest : Callee) (under : List ℕ) (c : Activations) (s : BoardView) (env : Env) → AcceptsInForm rom cert → Under cert lowest under → IsMainOrTimed lowest → IsState s → IsEnv env → ArePlaced rom cert lowest under c s
    → Executed rom cert lowest under c s env
executing rom cert lowest under c s env acc u root numbers is_env p =
    executes rom cert acc lowest under u c s env numbers is_env p (judge rom cert c.row c.of.proc acc p.listed (ap (slice_get cert.procs) p.is_of ∙ p.has)) root
