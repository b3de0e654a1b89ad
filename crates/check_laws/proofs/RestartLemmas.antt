-- A restart: a called procedure without a time sets SP to the region's top, and the machine goes on in main alone.
use Rattle.std.proofs.Common.{◌≡◌, ◌∙◌, ◌++◌, inl, inr, ℕ, Bool, true, false, List, [], ◌∷◌, Contains, Option, None, Ok, refl, sym, ap, subst}
use Rattle.std.specs.List.{All}
use Rattle.std.proofs.lemmas.Bool.{eqb-true}
use Rattle.std.proofs.lemmas.List.Elements.{Contains-append_left, Contains-append_right}
use Rattle.address_map.specs.declared.region.Region.{Region}
use Rattle.intervals.specs.Domain.{Entry}
use Rattle.intervals.specs.Range.{RangeView}
use Rattle.z80_alu.specs.declared.regs.Regs.{Regs}
use Rattle.z80_decode.specs.declared.instr.Instr.{Instr}
use Rattle.z80_decode.specs.declared.instr.Instr.TheVariants as instrs
use Rattle.z80_decode.specs.declared.operands.Register16.TheVariants as registers
use Rattle.z80_draft.specs.Draft.{draft_of}
use Rattle.z80_draft.specs.Outside.{Outside}
use Rattle.board_step.specs.Context.{ContextView}
use Rattle.board_step.specs.Env.{IsEnv}
use Rattle.board_step.specs.State.{IsState, BoardView}
use Rattle.board_step.specs.Step.{done, instr_draft, t_of}
use Rattle.board_step.specs.Reads.{outside_of}
use Rattle.board_step.specs.Trap.{trap_of_instr}
use Rattle.board_step.specs.declared.env.Env.{Env}
use Rattle.board_laws.specs.Board.{HasWords}
use Rattle.board_laws.specs.Words.{on_top}
use Rattle.board_laws.proofs.Brought.{reaches}
use Rattle.board_laws.proofs.EachInstruction.{load_sp_done}
use Rattle.board_laws.proofs.Traps.{no_trap}
use Rattle.abs_state.specs.Cell.{HoldsCells}
use Rattle.abs_state.specs.Holds.{Holds, HoldsMode}
use Rattle.abs_state.specs.Seen.{Seen}
use Rattle.abs_state.specs.Variables.{range_of, value_in}
use Rattle.abs_state.specs.declared.mode.Mode.TheVariants.{Nmi, Unset}
use Rattle.abs_state.specs.declared.state.AbsState.{AbsState}
use Rattle.abs_draft.specs.Ground.{GroundView}
use Rattle.abs_laws.specs.Cells.{bytes_of_cells}
use Rattle.abs_laws.specs.Fits.{state_after_writes}
use Rattle.abs_laws.specs.Writes.{AllKeep, NeverEnables, TakesData}
use Rattle.abs_laws.proofs.CellsAfter.{cells_hold}
use Rattle.abs_laws.proofs.Enables.{enable_stays_clear, mode_holds, nmi_stays}
use Rattle.abs_laws.proofs.KnownWrites.{known_taken}
use Rattle.abs_step.specs.Contained.{IsUnder, Running, Through, seen_of}
use Rattle.t_states.specs.Io.{is_io}
use Rattle.abs_step.specs.Successors.{jumps_anywhere, next_of, nexts_by, nexts_of, operand_of, refusal, stack_set, writes_of}
use Rattle.abs_step.specs.declared.next.Next.{Next}
use Rattle.abs_step.specs.declared.next.NextKind.TheVariants as kinds
use Rattle.abs_step.specs.declared.reason.Reason.TheVariants as reasons
use Rattle.abs_step.proofs.Asides.{End}
use Rattle.abs_step.proofs.Here.{address_after, here, holds_after, moved_after, through_after}
use Rattle.abs_step.proofs.Keeps.{operand_as_known}
use Rattle.abs_step.proofs.KeepsAside.{aside_end, known_zip}
use Rattle.abs_step.proofs.Scenes.{Stage, aside_inside}
use Rattle.flag_conditions.proofs.True.{conditions_true}
use Rattle.flag_conditions.specs.Conditions.{AreTrue, AreTrueOf, IsAsKnown, StepConditionsView}
use Rattle.flag_letters.specs.declared.part.FlagPart.{FlagPart}
use Rattle.flag_parts.specs.Carry.{known_carry}
use Rattle.linear_effects.specs.Carried.{carried_range}
use Rattle.linear_effects.specs.Effects.{effect_of}
use Rattle.linear_effects.specs.declared.variable_effect.LinearEffect.{LinearEffect}
use Rattle.refined_step.proofs.Answered.{told}
use Rattle.refined_step.specs.Kept.{AreTrueOfStep}
use Rattle.refined_step.specs.Refined.{refined_nexts, step_effect}
use Rattle.check_cover.specs.Program.{ground_for, is_inline, is_main}
use Rattle.check_cover.specs.declared.program.Callee.{Callee}
use Rattle.cert_lines.specs.declared.version.Version.{Version}
use Rattle.cert_lines.specs.declared.version.Version.TheVariants.{Three}
use Rattle.cert_form.specs.Contents.{CertificateView, map_of_board}
use Rattle.board_laws.specs.Uses.{sets_sp}
use Rattle.check_rules.specs.Table.{IsTimed}
use Rattle.check_steps.specs.Restarts.{restarted}
use Rattle.check_ways.specs.Ways.{IsWay, SubjectView, jump_way, nexts_from, restarts, step_by, told_of, writes_from}
use Rattle.check_laws.proofs.Depth.{chain_timed}
use Rattle.check_laws.proofs.Going.{IsTrueOfStep, goes, is_before, numbers_after, running, stands, told_came}
use Rattle.check_laws.proofs.Judging.{Judged, subject_of}
use Rattle.check_laws.proofs.Narrowing.{tells_carry}
use Rattle.check_laws.proofs.Procs.{nmi_covered, sub_not_main}
use Rattle.check_laws.proofs.Restarts.{IsRestart, IsRestartBy, restart_at_top, restart_is}
use Rattle.check_laws.proofs.ReturnLemmas.{restart_leads}
use Rattle.check_laws.specs.Chain.{AcceptsInForm, Chain, Has, Waiting, waiting_words}
use Rattle.check_laws.specs.Comes.{Steps}
use Rattle.check_laws.specs.Placed.{Activations, ArePlaced, IsMainOrTimed, Under, seen_by}
use Rattle.check_laws.specs.RowHolds.{IsHeld}
use Rattle.check_laws.specs.Steps.{Executed, Stays, at_board, stays}

-- ---- LD SP with the region's top, outside main

-- the successor of such an instruction, and what it leaves
record Loaded (g : GroundView) (address : ℕ) (main inline : Bool) (a : AbsState) (instr : Instr) (region : Region) (running : Running) (s : BoardView) (env : Env) : Type 0 where
  next : Next
  listed : Contains (nexts_of g address main inline instr a) next
  kind : next.kind ≡ kinds.Jump
  pc : (done (here g s env) instr).regs.pc ≡ next.address
  nmi : a.mode ≡ Nmi → next.state.mode ≡ Nmi
  holds : Holds next.state g.cells running.entry (seen_of g.cells running.words (done (here g s env) instr))
  through : Through next.effect (seen_of g.cells running.words s) (seen_of g.cells running.words (done (here g s env) instr))
  moved : Through next.moved (seen_of g.cells running.words s) (seen_of g.cells running.words (done (here g s env) instr))
  safe : All (TakesData g.map) (writes_of g address a (Ok instr)) → trap_of_instr region (here g s env) instr ≡ None
  clear : All (NeverEnables g.map) (writes_of g address a (Ok instr)) → s.enable ≡ false → (done (here g s env) instr).enable ≡ false
  laid : HasWords g.map region (done (here g s env) instr) []

in_ways : (ways : Bool → List Next) (taken : Bool) (n : Next) → Contains (ways taken) n → Contains (ways true ++ ways false) n
in_ways ways true n h = Contains-append_left (ways true) (ways false) n h
in_ways ways false n h = Contains-append_right (ways true) (ways false) n h

module _ (g : GroundView) (address : ℕ) (main inline : Bool) (a : AbsState) (region : Region) (running : Running) (s : BoardView) (env : Env) where
  abbrev Loads : Instr → Type 0
  Loads instr =
      Stage g address a instr region running s env → (a.mode ≡ Unset → All (NeverEnables g.map) (writes_of g address a (Ok instr))) → AllKeep g a.armed (writes_of g address a (Ok instr))
      → Loaded g address main inline a instr region running s env

  loads_top_at : main ≡ false → Loads (instrs.LoadPair registers.Sp region.top)
  loads_top_at other x enables keeps =
      let instr = instrs.LoadPair registers.Sp region.top in
      let new = done (here g s env) instr in
      let ws = writes_of g address a (Ok instr) in
      let d = instr_draft (here g s env) instr in
      let e : End g (here g s env) a instr main kinds.Jump running.entry (value_in (seen_of g.cells running.words s)) running.words (writes_of g address a (Ok instr)) (nexts_by g address main inline instr a) = aside_end g address main inline a region running s env instr refl x in
      let zip = known_zip g address main inline a region running s env instr kinds.Jump running.words e in
      let inside = aside_inside region (here g s env) instr refl in
      let f = e.fits in
      let same : stack_set main instr e.known.state ≡ e.known.state = ap (λ (b : Bool). stack_set b instr e.known.state) other in
      let mode : HoldsMode (state_after_writes g e.known.writes.items a).mode new.enable new.line new.latched =
      subst (λ xs. HoldsMode (state_after_writes g xs a).mode new.enable new.line new.latched) (sym e.writes) (mode_holds g region d s a ws x.before.is_region zip inside x.before.holds.mode enables) in
      let cells : HoldsCells (state_after_writes g e.known.writes.items a).armed g.cells (bytes_of_cells g.cells new) =
      subst (λ xs. HoldsCells (state_after_writes g xs a).armed g.cells (bytes_of_cells g.cells new)) (sym e.writes) (cells_hold g region d s a ws x.before.is_region x.before.numbers.work.size x.before.kept zip inside keeps x.before.holds.cells_hold) in
      let h = holds_after g s env a instr running e.known _ running.words f mode cells in
      record {
        next = next_of main instr e.taken kinds.Jump e.known;
        listed = in_ways (nexts_by g address main inline instr a) e.taken _ e.listed;
        kind = refl;
        pc = address_after g s env a instr running e.known _ running.words f (e.one (λ same. absurd (cc)));
        nmi = λ n. ap (λ (y : AbsState). y.mode) same ∙ (f.mode ∙ (ap (λ xs. (state_after_writes g xs a).mode) e.writes ∙ nmi_stays g ws a n));
        holds = subst (λ y. Holds y g.cells running.entry (seen_of g.cells running.words new)) (sym same) h;
        through = through_after g s env a instr running e.known running.words f;
        moved = moved_after g s env a instr running e.known running.words f;
        safe = λ takes. no_trap g.map region d (known_taken g.map _ _ takes zip) inside;
        clear = λ never_enables clear. enable_stays_clear g.map region d s ws x.before.is_region zip inside never_enables clear;
        laid = load_sp_done (here g s env) region x.before.is_region x.before.numbers.work.size;
      }

  loaded : (instr : Instr) → instr ≡ instrs.LoadPair registers.Sp region.top → main ≡ false → Loads instr
  loaded instr e other = subst Loads (sym e) (loads_top_at other)

-- it has no linear effect, and the refined step leaves its successors alone
no_effect : (g : GroundView) (address : ℕ) (inline : Bool) (instr : Instr) (parts : List FlagPart) (a : AbsState) (nn : ℕ) → instr ≡ instrs.LoadPair registers.Sp nn → step_effect g address inline instr parts a ≡ None
unfolding effect_of
no_effect g address inline instr parts a nn e = subst (λ (i : Instr). step_effect g address inline i parts a ≡ None) (sym e) refl

same_nexts : (g : GroundView) (address : ℕ) (main inline : Bool) (instr : Instr) (parts : List FlagPart) (a : AbsState) (nn : ℕ) → instr ≡ instrs.LoadPair registers.Sp nn → nexts_of g address main inline instr a ≡ refined_nexts g address main inline instr parts a
unfolding effect_of carried_range
same_nexts g address main inline instr parts a nn e = subst (λ (i : Instr). nexts_of g address main inline i a ≡ refined_nexts g address main inline i parts a) (sym e) refl

step_told : (conditions : StepConditionsView) (instr : Instr) (byte : RangeView) (parts : List FlagPart) (carry : Option Bool) (o : Outside) (m : Seen) → AreTrue conditions instr byte parts carry → IsAsKnown instr byte parts carry o m
    → AreTrueOf conditions m (draft_of o m.regs instr)
unfolding AreTrue
step_told conditions instr byte parts carry o m h k = h o m k

-- ---- the lowest activation

none_under : (main : Bool) (under : List ℕ) → main ≡ true → IsUnder main under → under ≡ []
none_under true [] e h = refl
none_under true (word ∷ words) e h = absurd h
none_under false under e h = absurd (cc)

-- the lowest procedure of a chain is one of the certificate's
lowest_has : (rom : List ℕ) (cert : CertificateView) (lowest : Callee) (first : Entry) (now : Callee) (entry : Entry) (ws : List Waiting) → Chain rom cert lowest first now entry ws → Has cert now → Has cert lowest
unfolding Chain
lowest_has rom cert lowest first now entry [] c has = subst (λ (q : Callee). Has cert q) c.0 has
lowest_has rom cert lowest first now entry (w ∷ ws) c has = lowest_has rom cert lowest first w.of w.entry ws c.1 c.0.has

module _ (rom : List ℕ) (cert : CertificateView) (acc : AcceptsInForm rom cert) (lowest : Callee) (under : List ℕ) (u : Under cert lowest under) (c : Activations) (s : BoardView) (env : Env) (numbers : IsState s) (is_env : IsEnv env) (p : ArePlaced rom cert lowest under c s) (j : Judged rom cert c.row c.of.proc) where
  abbrev ctx : ContextView
  ctx = at_board rom cert s env

  abbrev new : BoardView
  new = done ctx j.instr

  abbrev here_subject : SubjectView
  here_subject = subject_of rom cert c.row c.of.proc j.instr

  abbrev old_seen : Seen
  old_seen = seen_by cert c s

  abbrev ground : GroundView
  ground = ground_for rom cert

  abbrev inline_here : Bool
  inline_here = is_inline cert c.row.address

  abbrev running_here : Running
  running_here = running rom cert acc lowest under u c s env numbers is_env p j

  takes_data : All (TakesData (map_of_board cert)) (writes_from here_subject)
  takes_data k d within at inside = (λ rom_at. j.consistent reasons.WriteRom k d within (at, inside, rom_at), λ gap. j.consistent reasons.WriteUnmapped k d within (at, inside, gap))

  module _ (root : IsMainOrTimed lowest) (r : IsRestart cert.version c.of.proc cert.region.top j.instr) (on : restarts here_subject ≡ true) where
    not_main : is_main c.row.proc ≡ false
    not_main = ap is_main p.is_of ∙ sub_not_main cert c.of acc.form p.has r.sub

    not_timed : IsTimed lowest.proc → ⊥
    not_timed timed = r.untimed (chain_timed rom cert lowest c.first c.of c.entry c.waiting p.chain timed)

    lowest_main : is_main lowest.number ≡ true
    lowest_main = elim root [ inl main ↦ main | inr timed ↦ absurd (not_timed timed) ]

    lowest_zero : lowest.number ≡ 0
    lowest_zero = eqb-true lowest.number 0 lowest_main

    nothing_under : under ≡ []
    nothing_under = none_under (is_main lowest.number) under lowest_main u.lowest_is

    stage : Stage ground c.row.address c.row.state j.instr cert.region running_here s env
    stage = record {
      at = p.pc;
      stands = j.stands;
      before = is_before rom cert acc lowest under u c s env numbers is_env p j;
      io = subst (λ (i : Instr). is_io i ≡ false) (sym r.loads) refl;
      jumps = subst (λ (i : Instr). jumps_anywhere i c.row.state ≡ false) (sym r.loads) refl;
    }

    load : Loaded ground c.row.address (is_main c.row.proc) inline_here c.row.state j.instr cert.region running_here s env
    load = loaded ground c.row.address (is_main c.row.proc) inline_here c.row.state cert.region running_here s env j.instr r.loads not_main stage (j.consistent reasons.NmiBeforeStack) (j.consistent reasons.CellRange)

    nexts_are : refined_nexts ground c.row.address (is_main c.row.proc) inline_here j.instr c.row.parts c.row.state ≡ nexts_from here_subject
    nexts_are =
        let step : step_by Three here_subject j.instr ≡ Ok (nexts_from here_subject) = subst (λ (v : Version). step_by v here_subject j.instr ≡ Ok (nexts_from here_subject)) r.version_is j.step in
        (told (refusal (is_main c.row.proc) inline_here j.instr c.row.state) (refined_nexts ground c.row.address (is_main c.row.proc) inline_here j.instr c.row.parts c.row.state) (nexts_from here_subject) step).1

    listed : Contains (nexts_from here_subject) load.next
    listed =
        subst (λ (ns : List Next). Contains ns load.next)
        (same_nexts ground c.row.address (is_main c.row.proc) inline_here j.instr c.row.parts c.row.state cert.region.top r.loads ∙ nexts_are) load.listed

    truths : AreTrueOfStep (told_of here_subject (Ok j.instr)).conditions (told_of here_subject (Ok j.instr)).linear old_seen new.regs
    truths =
        let byte = operand_of ground c.row.address inline_here c.row.state j.instr in
        let carry = known_carry (range_of c.row.state) c.row.parts in
        let op = operand_as_known ground c.row.address inline_here c.row.state j.instr j.stands cert.region running_here ctx refl p.pc (is_before rom cert acc lowest under u c s env numbers is_env p j) in
        let known : IsAsKnown j.instr byte c.row.parts carry (outside_of ctx) old_seen = record {
          regs = numbers.regs;
          parts_hold = p.holds.parts;
          carry_is = tells_carry c.row.parts c.row.state cert.cells c.entry old_seen numbers.regs p.holds.state p.holds.parts;
          operand_byte = op.0;
          operand_within = op.1;
        } in
        let t = step_told (told_of here_subject (Ok j.instr)).conditions j.instr byte c.row.parts carry (outside_of ctx) old_seen (conditions_true j.instr byte c.row.parts carry) known in
        let same : new.regs ≡ (instr_draft ctx j.instr).regs = (reaches ctx.hardware.map (instr_draft ctx j.instr) s).regs in
        let at_draft : AreTrueOfStep (told_of here_subject (Ok j.instr)).conditions None old_seen (instr_draft ctx j.instr).regs = record { before = t.before; after = t.after; becomes = tt } in
        subst (λ (o : Option LinearEffect). AreTrueOfStep (told_of here_subject (Ok j.instr)).conditions o old_seen new.regs) (sym (no_effect ground c.row.address inline_here j.instr c.row.parts c.row.state cert.region.top r.loads))
        (subst (λ (q : Regs). AreTrueOfStep (told_of here_subject (Ok j.instr)).conditions None old_seen q) (sym same) at_draft)

    is_told : IsTrueOfStep rom cert acc lowest under u c s env numbers is_env p j cert.version
    is_told = subst (λ (v : Version). IsTrueOfStep rom cert acc lowest under u c s env numbers is_env p j v) (sym r.version_is) truths

    abbrev after : Seen
    after = seen_of cert.cells c.words new

    steps : Steps here_subject load.next c.entry old_seen after
    steps =
        let then = numbers_after rom cert acc lowest under u c s env numbers is_env p j in
        record {
          numbers = numbers.regs;
          held = p.holds;
          numbers_now = then.regs;
          holds = load.holds;
          came = load.through;
          moved = load.moved;
          refined = told_came rom cert acc lowest under u c s env numbers is_env p j cert.version is_told load.next.moved c.words load.moved;
        }

    held : IsHeld cert 0 load.next.address (restarted load.next.state) c.first (seen_of cert.cells [] new)
    held =
        let way = jump_way here_subject load.next in
        let is_way : IsWay here_subject way = inl (record { next = load.next; leads = listed; kind = load.kind; is = refl }) in
        restart_leads here_subject load.next c.entry c.first old_seen after acc.form on steps ((goes rom cert acc lowest under u c s env numbers is_env p j).ways way is_way)

    stays_main : Stays rom cert lowest under c s new (t_of ctx j.instr)
    unfolding Chain waiting_words on_top
    stays_main =
        let l = held in
        let next : Activations = record { row = l.row; of = lowest; entry = c.first; words = []; waiting = []; first = c.first } in
        record {
          next = next;
          placed = record {
            pc = load.pc ∙ sym l.at.at;
            listed = l.at.listed;
            is_of = l.at.of ∙ sym lowest_zero;
            has = lowest_has rom cert lowest c.first c.of c.entry c.waiting p.chain p.has;
            holds = l.holds;
            laid = λ set. subst (λ (ws : List ℕ). HasWords (map_of_board cert) cert.region new ws) (sym nothing_under) load.laid;
            chain = (refl, refl);
          };
          first = refl;
          nmi = λ m. nmi_covered l.row.state.mode load.next.state.mode l.mode (load.nmi m);
          pays = λ timed. absurd (not_timed timed);
        }

  -- reason 20 does not apply to the row, so SP is set to the region's top
  at_top : IsRestartBy cert.version c.of.proc j.instr → IsRestart cert.version c.of.proc cert.region.top j.instr
  at_top r =
      let sets : sets_sp j.instr ≡ true = subst (λ (i : Instr). sets_sp i ≡ true) (sym r.loads) refl in
      elim (j.consistent reasons.SpWrite j.instr refl sets) [
        | inl own ↦ restart_at_top cert.version c.of.proc (is_main c.row.proc) cert.region j.instr r own
        | inr both ↦ restart_at_top cert.version c.of.proc true cert.region j.instr r both.1
      ]

  pub restart_executes : IsMainOrTimed lowest → restarts here_subject ≡ true → Executed rom cert lowest under c s env
  restart_executes root on =
      let r = at_top (restart_is cert.version c.of.proc j.instr on) in
      let load_here = load root r on in
      record {
        instr = j.instr;
        stands = stands rom cert acc lowest under u c s env numbers is_env p j;
        safe = load_here.safe takes_data;
        takes = stays (stays_main root r on);
        clear = λ none. load_here.clear (j.consistent reasons.NmiMissing none);
        halts = λ timed. absurd (r.untimed timed);
        keeps_i = λ timed. absurd (r.untimed timed);
      }
