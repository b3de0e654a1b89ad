-- What an event does to a state that stands for a configuration.
use Rattle.std.proofs.Common.{◌≡◌, ◌≢◌, ◌≤◌, ◌<◌, ◌+◌, ◌∙◌, ℕ, suc, Bool, true, false, List, [], ◌∷◌, ◌++◌, length, length-append, get_or, slice_get, Option, Some, None, ℤ, pos, ◌+ℤ◌, ◌≤ℤ◌, refl, sym, ap, subst, arith}
use Rattle.std.specs.Prelude.{IsSome}
use Rattle.std.proofs.lemmas.Int.{ints}
use Rattle.std.proofs.lemmas.Option.{slice_get_read}
use Rattle.intervals.specs.Domain.{Entry}
use Rattle.intervals.specs.declared.reg_pair.RegPair.{RegPair}
use Rattle.board_step.specs.Reset.{IsReset}
use Rattle.board_step.specs.State.{IsState, BoardView}
use Rattle.board_laws.specs.Board.{HasWords}
use Rattle.board_laws.specs.Words.{Lays}
use Rattle.z80_alu.specs.declared.regs.Regs.{Regs}
use Rattle.board_laws.proofs.WordLaws.{lays-same, on_top-length}
use Rattle.abs_laws.specs.Cells.{bytes_of_cells}
use Rattle.abs_state.specs.Holds.{HoldsMode, IsQuiet}
use Rattle.abs_state.specs.Pairs.{entry_of}
use Rattle.abs_state.specs.declared.mode.Mode.{Mode}
use Rattle.abs_state.specs.declared.mode.Mode.TheVariants.{Nmi, Unset}
use Rattle.abs_state.specs.declared.state.AbsState.{AbsState}
use Rattle.abs_step.specs.Contained.{seen_of}
use Rattle.abs_step.specs.declared.reason.Reason.TheVariants as reasons
use Rattle.abs_step.specs.declared.reason.Saved.TheVariants as saved
use Rattle.check_cover.specs.declared.program.Callee.{Callee}
use Rattle.cert_lines.specs.declared.proc.Proc.{Proc}
use Rattle.cert_lines.specs.declared.proc.ProcKind.TheVariants as proc_kinds
use Rattle.cert_form.specs.Contents.{CertificateView, map_of_board}
use Rattle.cert_form.specs.Form.{MayArm}
use Rattle.check_rules.specs.Table.{IsConsistent, IsTimed}
use Rattle.check_ways.specs.Ways.{IsExit}
use Rattle.nmi_saves.specs.Lost.{IsFirstLost}
use Rattle.check_laws.proofs.EntryLemmas.{main_begins}
use Rattle.check_laws.proofs.InForm.{row_in_form}
use Rattle.check_laws.specs.Chain.{Chain, AcceptsInForm, waiting_words}
use Rattle.check_laws.specs.Placed.{Activations, ArePlaced, Under, owed, seen_by}
use Rattle.check_laws.specs.Steps.{Leaves, Stays}
use Rattle.check_laws.proofs.OwingLemmas.{owes}
use Rattle.check_laws.proofs.Procs.{set_covered}
use Rattle.check_laws.proofs.Events.{Eventful, latch_early, lower, mode_on, phase_on, quiet_on, same_sp, still_unlatched}
use Rattle.check_laws.proofs.Keeper.{Back}
use Rattle.check_laws.proofs.Restored.{alternate_back, ix_back, iy_back, main_back}
use Rattle.check_laws.proofs.Roles.{IsMainOf, IsNmiOf}
use Rattle.check_laws.proofs.Seens.{fewer_hold, still_holds}
use Rattle.check_laws.proofs.Standing.{Config, SameBoard, Stands, Suspended, main_callee, nmi_callee, same_owed, same_placed, under_nmi, under_words, words_of}

-- ---- numbers

spent_less : (spent t time : ℕ) (a b : ℤ) → (pos t +ℤ b) ≤ℤ a → pos 0 ≤ℤ b → (pos spent +ℤ a) ≤ℤ pos time → spent + t ≤ time
spent_less spent t time a b p q r = omega (arith, ints, p, q, r)

spent_more : (spent t time : ℕ) (a b : ℤ) → (pos t +ℤ b) ≤ℤ a → (pos spent +ℤ a) ≤ℤ pos time → (pos (spent + t) +ℤ b) ≤ℤ pos time
spent_more spent t time a b p r = omega (arith, ints, p, r)

spent_out : (spent t time : ℕ) (a : ℤ) → pos t ≤ℤ a → (pos spent +ℤ a) ≤ℤ pos time → spent + t ≤ time
spent_out spent t time a p r = omega (arith, ints, p, r)

spent_now : (spent time : ℕ) (a : ℤ) → pos 0 ≤ℤ a → (pos spent +ℤ a) ≤ℤ pos time → spent ≤ time
spent_now spent time a p r = omega (arith, ints, p, r)

pub first_spent : (time : ℕ) (a : ℤ) → (pos 11 +ℤ a) ≤ℤ pos time → (pos 11 +ℤ (a +ℤ pos 0)) ≤ℤ pos time
first_spent time a h = omega (arith, ints, h)

heads : {a b : ℕ} {xs ys : List ℕ} → a ∷ xs ≡ b ∷ ys → (a ≡ b) × (xs ≡ ys)
heads e = (cc, cc)

pub not_unset : (m : Mode) → m ≡ Nmi → m ≢ Unset
not_unset m e f = let both : Nmi ≡ Unset = sym e ∙ f in cc

pub remode_nmi : (m : Mode) (enable line latched : Bool) → m ≡ Nmi → HoldsMode m enable line latched
remode_nmi m enable line latched e = subst (λ (k : Mode). HoldsMode k enable line latched) (sym e) tt

pub armed_all : (count : ℕ) (m : Mode) (armed : ℕ) → m ≡ Nmi → MayArm count m armed → armed ≡ count
armed_all count m armed e h = subst (λ (k : Mode). MayArm count k armed) e h

module _ (rom : List ℕ) (cert : CertificateView) (acc : AcceptsInForm rom cert) (main : Proc) (is_main : IsMainOf cert main) where
  abbrev MainIs : Callee
  MainIs = main_callee rom cert acc main is_main

  -- ---- main code

  abbrev pub alone : Activations → Config
  alone c = record { now = c; under = None }

  pub begins : (nmi : Callee) (time : ℕ) (s : BoardView) → IsReset s → (c : Activations) × Stands rom cert MainIs nmi time (alone c) s
  unfolding Chain waiting_words
  begins nmi time s r =
      let quiet : IsQuiet s.enable s.line s.latched = record { no_enable = r.enable; no_line = r.line; no_latch = r.latched } in
      let l = main_begins cert (entry_of s.regs) (seen_of cert.cells [] s) acc.form r.in_range.regs quiet refl acc.accepts.entries.main in (
        record { row = l.row; of = MainIs; entry = entry_of s.regs; words = []; waiting = []; first = entry_of s.regs },
        record {
          numbers = r.in_range;
          placed = record {
            pc = r.pc ∙ sym l.at.at;
            listed = l.at.listed;
            is_of = l.at.of;
            has = is_main.at;
            holds = l.holds;
            laid = λ set. absurd (set_covered l.row.state.mode Unset l.mode set refl);
            chain = (refl, refl);
          };
          latch = λ on. absurd (let both : false ≡ true = sym r.latched ∙ on in cc);
          quiet = λ none. quiet;
          inside = tt;
        },
      )

  pub main_on : (nmi : Callee) (time : ℕ) (c : Activations) (s mid new : BoardView) (t : ℕ) → Stands rom cert MainIs nmi time (alone c) s → IsState new → SameBoard cert mid new → Eventful s new t → (cert.budget ≡ None → mid.enable ≡ false)
      → (n : Stays rom cert MainIs [] c s mid t) → Stands rom cert MainIs nmi time (alone n.next) new
  main_on nmi time c s mid new t st numbers k v clear n = record {
    numbers = numbers;
    placed = same_placed rom cert MainIs [] n.next mid new k (mode_on s mid new t c.row.state.mode n.next.row.state.mode v k.only.enable n.nmi st.placed.holds.state.mode n.placed.holds.state.mode) n.placed;
    latch = latch_early s new t v;
    quiet = λ none. quiet_on s new t v (st.quiet none) (k.only.enable ∙ clear none);
    inside = tt;
  }

  pub idle_on : (nmi : Callee) (time : ℕ) (c : Activations) (s new : BoardView) (t : ℕ) → Stands rom cert MainIs nmi time (alone c) s → IsState new → SameBoard cert s new → Eventful s new t → Stands rom cert MainIs nmi time (alone c) new
  idle_on nmi time c s new t st numbers k v = record {
    numbers = numbers;
    placed = same_placed rom cert MainIs [] c s new k (mode_on s s new t c.row.state.mode c.row.state.mode v k.only.enable (λ e. e) st.placed.holds.state.mode st.placed.holds.state.mode) st.placed;
    latch = latch_early s new t v;
    quiet = λ none. quiet_on s new t v (st.quiet none) (k.only.enable ∙ (st.quiet none).no_enable);
    inside = tt;
  }

  module _ (nmi : Proc) (time b : ℕ) (budget : cert.budget ≡ Some b) (is_nmi : IsNmiOf cert main nmi time) where
    abbrev NmiIs : Callee
    NmiIs = nmi_callee rom cert acc main is_main nmi time is_nmi

    abbrev pub within : Activations → Suspended → Config
    within c u = record { now = c; under = Some u }

    abbrev StandsIn : Config → BoardView → Type 0
    StandsIn g s = Stands rom cert MainIs NmiIs time g s

    some_budget : cert.budget ≡ None → ⊥
    some_budget e = let both : Some b ≡ None = sym budget ∙ e in cc

    timed : IsTimed nmi
    timed = subst (λ (o : Option ℕ). IsSome o) (sym is_nmi.time_is) refl

    abbrev under_of : (u : Suspended) → ArePlaced rom cert MainIs [] u.context u.at → Under cert NmiIs (under_words (Some u))
    under_of u p = under_nmi rom cert acc main is_main nmi time is_nmi u p

    owes_in : (c : Activations) (u : Suspended) (s : BoardView) → IsState s → ArePlaced rom cert MainIs [] u.context u.at → ArePlaced rom cert NmiIs (under_words (Some u)) c s → pos 0 ≤ℤ owed cert c s
    owes_in c u s numbers context p = owes rom cert acc NmiIs (under_words (Some u)) (under_of u context) timed c s numbers p

    pub spent_within : (c : Activations) (u : Suspended) (s : BoardView) → StandsIn (within c u) s → u.spent ≤ time
    spent_within c u s st = spent_now u.spent time (owed cert c s) (owes_in c u s st.numbers st.inside.context st.placed) st.inside.pays

    -- the words of the interrupted chain lie on its board
    interrupted_words : (u : Suspended) → ArePlaced rom cert MainIs [] u.context u.at → u.context.row.state.mode ≡ Nmi → HasWords (map_of_board cert) cert.region u.at (words_of u.context)
    interrupted_words u p was = p.laid (not_unset u.context.row.state.mode was)

    -- ---- inside the routine

    pub record GoesOn (c : Activations) (u : Suspended) (new : BoardView) (t : ℕ) : Type 0 where
      pub next : Activations
      pub stands : StandsIn (within next (record u { spent = u.spent + t })) new
      pub sp : new.regs.sp < u.at.regs.sp

    pub inside_on : (c : Activations) (u : Suspended) (s mid new : BoardView) (t : ℕ) → StandsIn (within c u) s → IsState mid → IsState new → SameBoard cert mid new → Eventful s new t → mid.halted ≡ false → mid.regs.i ≡ s.regs.i
        → Stays rom cert NmiIs (under_words (Some u)) c s mid t → GoesOn c u new t
    inside_on c u s mid new t st numbers_mid numbers k v awake i n =
        let was = st.inside in
        let pays = n.pays timed in
        let none = owes_in n.next u mid numbers_mid was.context n.placed in
        let less = spent_less u.spent t time (owed cert c s) (owed cert n.next mid) pays none was.pays in
        let small = is_nmi.small in
        let phase = was.phase in
        let began = was.began in
        let early : s.phase + t < 50688 = omega arith in
        let mode : n.next.row.state.mode ≡ Nmi = n.nmi was.mode in
        let placed = same_placed rom cert NmiIs (under_words (Some u)) n.next mid new k (remode_nmi n.next.row.state.mode new.enable new.line new.latched mode) n.placed in
        let on = phase_on s new t v early in
        let count = on_top-length n.next.words (waiting_words n.next.waiting ++ under_words (Some u)) in
        let more : length (waiting_words n.next.waiting ++ under_words (Some u)) ≡ length (waiting_words n.next.waiting) + suc (length (words_of u.context)) = length-append (waiting_words n.next.waiting) (under_words (Some u)) in
        record {
          next = n.next;
          stands = record {
            numbers = numbers;
            placed = placed;
            latch = latch_early s new t v;
            quiet = λ e. absurd (some_budget e);
            inside = record {
              numbers = was.numbers;
              context = was.context;
              was = was.was;
              first = λ r. ap (λ (e : Entry). e r) n.first ∙ was.first r;
              mode = mode;
              i = ap (λ (r : Regs). r.i) k.only.regs ∙ i ∙ was.i;
              awake = k.only.halted ∙ awake;
              unlatched = still_unlatched s new t v early;
              phase = omega arith;
              began = was.began;
              pays = subst (λ (z : ℤ). (pos (u.spent + t) +ℤ z) ≤ℤ pos time) (sym (same_owed cert n.next mid new k)) (spent_more u.spent t time (owed cert c s) (owed cert n.next mid) pays was.pays);
            };
          };
          sp = lower cert new u.at _ (words_of u.context) (placed.laid (not_unset n.next.row.state.mode mode)) (interrupted_words u was.context was.was) (omega arith);
        }

    -- ---- the end of the routine

    -- no exit of the routine loses a pair
    loses_none : (exit : AbsState) → IsExit rom cert 1 exit → (pair : RegPair) → IsFirstLost exit pair → ⊥
    loses_none exit x pair lost =
        let (k, inside, is) = x.is_subject.listed in
        let rows : k < length cert.rows = subst (λ (q : CertificateView). k < length q.rows) x.same.1 inside in
        let at : slice_get cert.rows k ≡ Some x.subject.row = slice_get_read cert.rows _ k x.subject.row refl rows (sym (subst (λ (q : CertificateView). get_or q.rows k x.subject.row ≡ x.subject.row) x.same.1 is)) in
        let ok : IsConsistent x.subject = acc.accepts.rows k x.subject rows x.same at x.is_subject in
        let has : slice_get cert.procs 1 ≡ Some x.subject.proc = ap (slice_get cert.procs) (sym x.of) ∙ subst (λ (q : CertificateView). slice_get q.procs x.subject.row.proc ≡ Some x.subject.proc) x.same.1 x.is_subject.procedure in
        let proc : nmi ≡ x.subject.proc = one nmi x.subject.proc (sym is_nmi.at ∙ has) in
        let kind : x.subject.proc.kind ≡ proc_kinds.Nmi = ap (λ (p : Proc). p.kind) (sym proc) ∙ is_nmi.kind in
        ok (reasons.SavedRegister (saved.Pair pair)) kind x.next x.leads x.kind (subst (λ (a : AbsState). IsFirstLost a pair) x.state lost)
      where
        one : (x y : Proc) → Some x ≡ Some y → x ≡ y
        one x y e = cc

    pub record Ends (u : Suspended) (new : BoardView) (t : ℕ) : Type 0 where
      pub stands : StandsIn (alone u.context) new
      pub back : Back cert.region u.at new
      pub time_is : u.spent + t ≤ time

    pub inside_ends : (c : Activations) (u : Suspended) (s mid new : BoardView) (t : ℕ) (returning : Bool) → StandsIn (within c u) s → IsState mid → IsState new → SameBoard cert mid new → Eventful s new t → mid.regs.i ≡ s.regs.i
        → Leaves rom cert NmiIs (under_words (Some u)) c s mid t returning → Ends u new t
    inside_ends c u s mid new t returning st numbers_mid numbers k v i l =
        let was = st.inside in
        let words = heads l.under_is in
        let none = loses_none l.exit l.is in
        let held = l.holds in
        let main_same : mid.regs.main ≡ u.at.regs.main = main_back l.exit none c.first u.at.regs mid.regs was.first was.numbers.regs numbers_mid.regs held.pairs in
        let alternate_same : mid.regs.alternate ≡ u.at.regs.alternate = alternate_back l.exit none c.first u.at.regs mid.regs was.first was.numbers.regs numbers_mid.regs held.pairs in
        let ix_same : mid.regs.ix ≡ u.at.regs.ix = ix_back l.exit none c.first u.at.regs mid.regs was.first was.numbers.regs numbers_mid.regs held.pairs in
        let iy_same : mid.regs.iy ≡ u.at.regs.iy = iy_back l.exit none c.first u.at.regs mid.regs was.first was.numbers.regs numbers_mid.regs held.pairs in
        let row = u.context.row in
        let inner = row_in_form cert acc.form c.row st.placed.listed in
        let outer = row_in_form cert acc.form row was.context.listed in
        let all_inner = armed_all (length cert.cells) c.row.state.mode c.row.state.armed was.mode inner.of.armed in
        let all_outer = armed_all (length cert.cells) row.state.mode row.state.armed was.was outer.of.armed in
        let arms = l.arms in
        let cells = fewer_hold row.state.armed l.exit.armed cert.cells (bytes_of_cells cert.cells mid) (omega arith) held.cells_hold in
        let holds = still_holds row cert.cells u.context.entry (seen_by cert u.context u.at) (seen_by cert u.context mid) (record { main = main_same; alternate = alternate_same; ix = ix_same; iy = iy_same; words = refl })
        (remode_nmi row.state.mode mid.enable mid.line mid.latched was.was) cells was.context.holds in
        let laid : HasWords (map_of_board cert) cert.region mid (words_of u.context) = subst (λ (ws : List ℕ). HasWords (map_of_board cert) cert.region mid ws) (sym words.1) l.laid in
        let placed : ArePlaced rom cert MainIs [] u.context mid = record {
          pc = sym words.0 ∙ was.context.pc;
          listed = was.context.listed;
          is_of = was.context.is_of;
          has = was.context.has;
          holds = holds;
          laid = λ set. laid;
          chain = was.context.chain;
        } in
        let now = k.words (words_of u.context) laid in
        let then = interrupted_words u was.context was.was in
        let sp : new.regs.sp ≡ u.at.regs.sp = same_sp cert new u.at (words_of u.context) now then in
        record {
          stands = record {
            numbers = numbers;
            placed = same_placed rom cert MainIs [] u.context mid new k (remode_nmi row.state.mode new.enable new.line new.latched was.was) placed;
            latch = latch_early s new t v;
            quiet = λ e. absurd (some_budget e);
            inside = tt;
          };
          back = record {
            pc = ap (λ (r : Regs). r.pc) k.only.regs ∙ sym words.0;
            main = ap (λ (r : Regs). r.main) k.only.regs ∙ main_same;
            alternate = ap (λ (r : Regs). r.alternate) k.only.regs ∙ alternate_same;
            ix = ap (λ (r : Regs). r.ix) k.only.regs ∙ ix_same;
            iy = ap (λ (r : Regs). r.iy) k.only.regs ∙ iy_same;
            sp = sp;
            i_register = ap (λ (r : Regs). r.i) k.only.regs ∙ i ∙ was.i;
            stack = λ at from to. lays-same u.at new u.at.regs.sp cert.region.top (words_of u.context) then.laid (subst (λ (n : ℕ). Lays new n cert.region.top (words_of u.context)) sp now.laid) at from to;
          };
          time_is = spent_out u.spent t time (owed cert c s) (l.pays timed) was.pays;
        }
