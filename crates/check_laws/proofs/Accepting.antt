-- An NMI is accepted: its routine begins over the chain that it interrupts.
use Rattle.std.proofs.Common.{◌≡◌, ◌≤◌, ◌<◌, ◌+◌, ◌*◌, ◌∙◌, ℕ, Bool, true, false, cond, List, [], ◌∷◌, length, slice_get, Option, Some, None, ℤ, pos, ◌+ℤ◌, ◌≤ℤ◌, refl, sym, ap, subst, arith}
use Rattle.std.specs.Prelude.{IsSome, unwrap_or}
use Rattle.std.specs.List.{AllZip}
use Rattle.address_map.specs.AddressMap.{MapView}
use Rattle.address_map.specs.declared.region.Region.{Region}
use Rattle.intervals.specs.declared.reg_pair.RegPair.{RegPair}
use Rattle.intervals.specs.declared.reg_pair.RegPair.TheVariants as pairs
use Rattle.z80_alu.specs.Word.{word_of}
use Rattle.z80_alu.specs.declared.regs.Regs.{Regs}
use Rattle.z80_alu.specs.declared.regs.RegisterSet.{RegisterSet}
use Rattle.z80_draft.specs.Draft.{DraftView, drafted, moved}
use Rattle.board_step.specs.Context.{ContextView}
use Rattle.board_step.specs.Env.{IsEnv}
use Rattle.board_step.specs.State.{IsState, BoardView}
use Rattle.board_step.specs.Step.{accepted, nmi_draft}
use Rattle.board_step.specs.Trap.{is_rom, is_unmapped, some_outside, some_write, trap_of_draft}
use Rattle.board_step.specs.declared.env.Env.{Env}
use Rattle.board_step.specs.declared.profile.Trap.{Trap}
use Rattle.board_step.proofs.StateRangeLemmas.{accepted_keeps}
use Rattle.board_laws.specs.Board.{HasWords}
use Rattle.board_laws.specs.Region.{HasRoom}
use Rattle.board_laws.specs.Words.{on_top}
use Rattle.board_laws.proofs.Brought.{reaches}
use Rattle.board_laws.proofs.EachInstruction.{acceptance_done}
use Rattle.abs_laws.specs.Cells.{bytes_of_cells}
use Rattle.abs_laws.specs.Fits.{WriteLiesIn}
use Rattle.abs_laws.specs.Writes.{AllKeep}
use Rattle.abs_laws.proofs.CellsAfter.{cells_hold}
use Rattle.abs_state.specs.Cell.{HoldsCells}
use Rattle.abs_state.specs.Holds.{HoldsMode}
use Rattle.abs_state.specs.Pairs.{entry_of, word_in}
use Rattle.abs_state.specs.declared.mode.Mode.{Mode}
use Rattle.abs_state.specs.declared.mode.Mode.TheVariants.{Nmi, Set, Unset}
use Rattle.abs_step.specs.Contained.{seen_of}
use Rattle.abs_step.specs.declared.reason.Reason.TheVariants as reasons
use Rattle.check_cover.specs.Program.{IsRowAt, ground_for}
use Rattle.check_cover.specs.declared.program.Callee.{Callee}
use Rattle.cert_lines.specs.declared.proc.Proc.{Proc}
use Rattle.cert_lines.specs.declared.row.Row.{Row}
use Rattle.cert_form.specs.Contents.{CertificateView, map_of_board}
use Rattle.check_rules.specs.Table.{FitsDepth, IsTimed, entry_bytes}
use Rattle.check_ways.specs.Pays.{IsWithinTime, Pays, cost_before}
use Rattle.check_laws.specs.RowHolds.{worth}
use Rattle.check_laws.proofs.EntryLemmas.{nmi_begins}
use Rattle.check_laws.proofs.InForm.{row_in_form}
use Rattle.check_laws.proofs.PayLemmas.{entry_in_time}
use Rattle.check_laws.specs.Chain.{Chain, AcceptsInForm, later_all, waiting_words}
use Rattle.check_laws.specs.Placed.{Activations, ArePlaced}
use Rattle.check_laws.specs.Steps.{at_board}
use Rattle.check_laws.proofs.Boards.{are_placed, is_region}
use Rattle.check_laws.proofs.Judging.{Judged, judge, subject_of}
use Rattle.check_laws.proofs.Procs.{nmi_covered}
use Rattle.check_laws.proofs.Events.{Eventful, latch_early, lower, phase_on, still_unlatched}
use Rattle.check_laws.proofs.Roles.{IsMainOf, IsNmiOf}
use Rattle.check_laws.proofs.Standing.{SameBoard, Stands, Suspended, main_callee, main_words, nmi_callee, same_owed, same_placed, words_of}
use Rattle.check_laws.proofs.Stepping.{armed_all, first_spent, not_unset, remode_nmi}

-- a mode in which an NMI is latched
latched_mode : (m : Mode) (enable line latched : Bool) → HoldsMode m enable line latched → latched ≡ true → m ≡ Nmi
latched_mode Unset enable line latched h on = let both : false ≡ true = sym h.no_latch ∙ on in absurd (cc)
latched_mode Set enable line latched h on = let both : false ≡ true = sym h.no_latch ∙ on in absurd (cc)
latched_mode Nmi enable line latched h on = refl

last_of_three : (x y z : Bool) (p q r : Trap) → cond x (Some p) (cond y (Some q) (cond z (Some r) None)) ≡ None → z ≡ false
last_of_three true y z p q r e = absurd (cc)
last_of_three false true z p q r e = absurd (cc)
last_of_three false false true p q r e = absurd (cc)
last_of_three false false false p q r e = refl

draft_inside : (map : MapView) (region : Region) (d : DraftView) → trap_of_draft map region d ≡ None → some_outside region d.stack ≡ false
unfolding trap_of_draft
draft_inside map region d e = last_of_three (some_write map is_rom d.writes) (some_write map is_unmapped d.writes) (some_outside region d.stack) _ _ _ e

-- what an acceptance leaves
record AcceptedIs (c : ContextView) : Type 0 where
  pc : (accepted c).regs.pc ≡ 102
  main : (accepted c).regs.main ≡ c.state.regs.main
  alternate : (accepted c).regs.alternate ≡ c.state.regs.alternate
  ix : (accepted c).regs.ix ≡ c.state.regs.ix
  iy : (accepted c).regs.iy ≡ c.state.regs.iy
  i : (accepted c).regs.i ≡ c.state.regs.i
  halted : (accepted c).halted ≡ false
  writes : (nmi_draft c).writes ≡ []

accepted_is : (c : ContextView) → AcceptedIs c
unfolding drafted moved
accepted_is c =
    let r = reaches c.hardware.map (nmi_draft c) c.state in
    record {
      pc = ap (λ (x : Regs). x.pc) r.regs;
      main = ap (λ (x : Regs). x.main) r.regs;
      alternate = ap (λ (x : Regs). x.alternate) r.regs;
      ix = ap (λ (x : Regs). x.ix) r.regs;
      iy = ap (λ (x : Regs). x.iy) r.regs;
      i = ap (λ (x : Regs). x.i) r.regs;
      halted = r.halted;
      writes = refl;
    }

same_word : (c : ContextView) → AcceptedIs c → (r : RegPair) → word_in r (accepted c).regs ≡ word_in r c.state.regs
same_word c a pairs.Af = ap (λ (k : RegisterSet). word_of k.a k.f) a.main
same_word c a pairs.Bc = ap (λ (k : RegisterSet). word_of k.b k.c) a.main
same_word c a pairs.De = ap (λ (k : RegisterSet). word_of k.d k.e) a.main
same_word c a pairs.Hl = ap (λ (k : RegisterSet). word_of k.h k.l) a.main
same_word c a pairs.Ix = a.ix
same_word c a pairs.Iy = a.iy
same_word c a pairs.AlternateAf = ap (λ (k : RegisterSet). word_of k.a k.f) a.alternate
same_word c a pairs.AlternateBc = ap (λ (k : RegisterSet). word_of k.b k.c) a.alternate
same_word c a pairs.AlternateDe = ap (λ (k : RegisterSet). word_of k.d k.e) a.alternate
same_word c a pairs.AlternateHl = ap (λ (k : RegisterSet). word_of k.h k.l) a.alternate

module _ (rom : List ℕ) (cert : CertificateView) (acc : AcceptsInForm rom cert) (main : Proc) (is_main : IsMainOf cert main) (nmi : Proc) (time b : ℕ) (budget : cert.budget ≡ Some b) (is_nmi : IsNmiOf cert main nmi time) where
  abbrev MainIs : Callee
  MainIs = main_callee rom cert acc main is_main

  abbrev NmiIs : Callee
  NmiIs = nmi_callee rom cert acc main is_main nmi time is_nmi

  -- by a row at the routine's entry, the routine's depth has room for its return address
  nmi_deep : (row : Row) → IsRowAt cert 1 102 row → 2 ≤ nmi.depth
  nmi_deep row at =
      let j = judge rom cert row nmi acc at.listed (ap (slice_get cert.procs) at.of ∙ is_nmi.at) in
      let deep : FitsDepth (subject_of rom cert row nmi j.instr) = j.consistent reasons.StackDepth in
      let fits : entry_bytes nmi.kind + 2 * length row.state.shape ≤ nmi.depth = deep.row in
      let two : entry_bytes nmi.kind ≡ 2 = ap entry_bytes is_nmi.kind in
      omega arith

  module _ (c : Activations) (s : BoardView) (env : Env) (is_env : IsEnv env) (st : Stands rom cert MainIs NmiIs time (record { now = c; under = None }) s) (on : s.latched ≡ true) where
    abbrev ctx : ContextView
    ctx = at_board rom cert s env

    abbrev mid : BoardView
    mid = accepted ctx

    mode : c.row.state.mode ≡ Nmi
    mode = latched_mode c.row.state.mode s.enable s.line s.latched st.placed.holds.state.mode on

    all : c.row.state.armed ≡ length cert.cells
    all = armed_all (length cert.cells) c.row.state.mode c.row.state.armed mode (row_in_form cert acc.form c.row st.placed.listed).of.armed

    words : HasWords (map_of_board cert) cert.region s (words_of c)
    words = st.placed.laid (not_unset c.row.state.mode mode)

    room : HasRoom cert.region (1 + length (words_of c))
    room =
        let l = nmi_begins cert (seen_of cert.cells [] s) acc.form st.numbers.regs refl (subst (λ (n : ℕ). HoldsCells n cert.cells (bytes_of_cells cert.cells s)) all st.placed.holds.state.cells_hold) is_nmi.covers in
        let two = nmi_deep l.row l.at in
        let few = main_words rom cert acc main is_main c s st.placed in
        let fits = is_nmi.fits in
        omega arith

    laid : (trap_of_draft (map_of_board cert) cert.region (nmi_draft ctx) ≡ None) × HasWords (map_of_board cert) cert.region mid (s.regs.pc ∷ words_of c)
    laid = acceptance_done ctx cert.region (words_of c) words room

    -- no trap is met
    pub no_trap : trap_of_draft (map_of_board cert) cert.region (nmi_draft ctx) ≡ None
    no_trap = laid.0

    numbers_mid : IsState mid
    numbers_mid = accepted_keeps ctx (record { rom = acc.bytes; state = st.numbers; env = is_env })

    cells_mid : HoldsCells (length cert.cells) cert.cells (bytes_of_cells cert.cells mid)
    unfolding AllKeep
    cells_mid =
        let inside = draft_inside (map_of_board cert) cert.region (nmi_draft ctx) laid.0 in
        let held = cells_hold (ground_for rom cert) cert.region (nmi_draft ctx) s c.row.state [] (is_region rom cert acc) st.numbers.work.size (are_placed rom cert acc) (subst (λ ws. AllZip WriteLiesIn [] ws) (sym (accepted_is ctx).writes) tt) inside tt st.placed.holds.state.cells_hold in
        subst (λ (n : ℕ). HoldsCells n cert.cells (bytes_of_cells cert.cells mid)) all held

    pub record Begins (new : BoardView) : Type 0 where
      pub next : Activations
      pub stands : Stands rom cert MainIs NmiIs time (record { now = next; under = Some (record { context = c; at = s; spent = 11 }) }) new
      pub sp : new.regs.sp < s.regs.sp

    pub accepts : (new : BoardView) → IsState new → SameBoard cert mid new → Eventful s new 11 → Begins new
    unfolding Chain waiting_words later_all on_top
    accepts new numbers k v =
        let is = accepted_is ctx in
        let l = nmi_begins cert (seen_of cert.cells [] mid) acc.form numbers_mid.regs refl cells_mid is_nmi.covers in
        let next : Activations = record { row = l.row; of = NmiIs; entry = entry_of mid.regs; words = []; waiting = []; first = entry_of mid.regs } in
        let u : Suspended = record { context = c; at = s; spent = 11 } in
        let now : l.row.state.mode ≡ Nmi = nmi_covered l.row.state.mode Nmi l.mode refl in
        let placed : ArePlaced rom cert NmiIs (s.regs.pc ∷ words_of c) next mid = record {
          pc = is.pc ∙ sym l.at.at;
          listed = l.at.listed;
          is_of = l.at.of;
          has = is_nmi.at;
          holds = l.holds;
          laid = λ set. laid.1;
          chain = (refl, refl);
        } in
        let early = st.latch on in
        let before : s.phase + 11 < 50688 = omega arith in
        let j = judge rom cert l.row nmi acc l.at.listed (ap (slice_get cert.procs) l.at.of ∙ is_nmi.at) in
        let timed : IsTimed nmi = subst (λ (o : Option ℕ). IsSome o) (sym is_nmi.time_is) refl in
        let in_time : IsWithinTime nmi l.row = (pays_at j timed).entry (l.at.at ∙ sym is_nmi.entry) in
        let cost : cost_before nmi.kind ≡ 11 = ap cost_before is_nmi.kind in
        let most = entry_in_time nmi l.row cert.cells (entry_of mid.regs) (seen_of cert.cells [] mid) numbers_mid.regs l.holds.state in_time in
        let whole : unwrap_or nmi.time 0 ≡ time = ap (λ (o : Option ℕ). unwrap_or o 0) is_nmi.time_is in
        let pays : (pos 11 +ℤ worth l.row (seen_of cert.cells [] mid)) ≤ℤ pos time =
        subst (λ (n : ℕ). (pos 11 +ℤ worth l.row (seen_of cert.cells [] mid)) ≤ℤ pos n) whole (subst (λ (n : ℕ). (pos n +ℤ worth l.row (seen_of cert.cells [] mid)) ≤ℤ pos (unwrap_or nmi.time 0)) cost most) in
        record {
          next = next;
          stands = record {
            numbers = numbers;
            placed = same_placed rom cert NmiIs (s.regs.pc ∷ words_of c) next mid new k (remode_nmi l.row.state.mode new.enable new.line new.latched now) placed;
            latch = latch_early s new 11 v;
            quiet = λ none. absurd (let both : Some b ≡ None = sym budget ∙ none in cc);
            inside = record {
              numbers = st.numbers;
              context = st.placed;
              was = mode;
              first = same_word ctx is;
              mode = now;
              i = ap (λ (x : Regs). x.i) k.only.regs ∙ is.i;
              awake = k.only.halted ∙ is.halted;
              unlatched = still_unlatched s new 11 v before;
              phase = phase_on s new 11 v before;
              began = early;
              pays = subst (λ (z : ℤ). (pos 11 +ℤ z) ≤ℤ pos time) (sym (same_owed cert next mid new k)) (first_spent time (worth l.row (seen_of cert.cells [] mid)) pays);
            };
          };
          sp = lower cert new s (s.regs.pc ∷ words_of c) (words_of c) (k.words _ laid.1) words (omega arith);
        }
      where
        pays_at : {row : Row} {proc : Proc} → (k : Judged rom cert row proc) → IsTimed proc → Pays (subject_of rom cert row proc k.instr)
        pays_at k timed = k.consistent reasons.Time timed
