-- What each call and each return keeps.
use Rattle.std.proofs.Common.{◌≡◌, ◌<◌, ◌+◌, ◌∙◌, ℕ, Bool, true, false, not, cond, List, [], ◌∷◌, ◌++◌, length, length-append, Ok, refl, sym, ap, subst, arith, inl, inr}
use Rattle.std.specs.Prelude.{◌&&◌, ◌||◌, ◌==◌, ◌%◌, ◌*◌}
use Rattle.std.proofs.lemmas.Bool.{cases_Bool, eqb-true}
use Rattle.intervals.specs.Logic.{is_single}
use Rattle.z80_decode.specs.Kinds.{restart}
use Rattle.z80_decode.specs.Spelling.{spelling}
use Rattle.z80_decode.specs.declared.instr.Instr.{Instr}
use Rattle.z80_decode.specs.declared.instr.Instr.TheVariants as instrs
use Rattle.z80_decode.specs.declared.kinds.Condition.{Condition}
use Rattle.z80_decode.specs.declared.kinds.RestartAddress.{RestartAddress}
use Rattle.z80_draft.specs.Draft.{DraftView, draft_on, drafted, moved, past, test_holds, word_read}
use Rattle.z80_moves.specs.Moves.{moves_of}
use Rattle.z80_moves.specs.declared.moves.Move.TheVariants as moves
use Rattle.z80_moves.specs.declared.moves.Test.TheVariants as tests
use Rattle.z80_moves.specs.declared.registers.WordRegister.TheVariants as registers
use Rattle.address_map.specs.declared.region.Region.{Region}
use Rattle.board_step.specs.Reads.{outside_of}
use Rattle.z80_actions.specs.Returns.{is_return}
use Rattle.board_step.specs.State.{BoardView}
use Rattle.board_step.specs.Step.{instr_draft}
use Rattle.board_step.specs.Trap.{some_outside}
use Rattle.board_step.specs.declared.env.Env.{Env}
use Rattle.board_laws.specs.Board.{IsDoneWith}
use Rattle.board_laws.specs.Region.{HasRoom}
use Rattle.board_laws.specs.Uses.{is_aside, is_pop, is_push, popped_into, pushed_word, sets_sp}
use Rattle.board_laws.specs.Words.{on_top}
use Rattle.board_laws.proofs.EachInstruction.{aside_done, pop_done, push_done}
use Rattle.board_laws.proofs.WordLaws.{on_top-length, on_top-push}
use Rattle.abs_state.specs.Variables.{value_in}
use Rattle.abs_state.specs.declared.state.AbsState.{AbsState}
use Rattle.abs_draft.specs.AfterMove.{after_move}
use Rattle.abs_draft.specs.Ground.{GroundView}
use Rattle.abs_draft.specs.AbsDraft.{last_slot}
use Rattle.abs_draft.specs.Outcomes.{after_moves, before_test, known_before, test_of}
use Rattle.abs_draft.specs.declared.draft.AbsDraft.{AbsDraft}
use Rattle.abs_laws.specs.Fits.{AreInRange, Fits, ReadsFit}
use Rattle.abs_laws.specs.Lists.{marked}
use Rattle.abs_laws.proofs.AccessFreeMoves.{access_free_fits}
use Rattle.abs_laws.proofs.KnownWrites.{known_miss}
use Rattle.abs_laws.proofs.Reading.{word_is_read}
use Rattle.abs_laws.proofs.StackMoves.{pop_fits, return_fits}
use Rattle.abs_step.specs.Contained.{Running, seen_of}
use Rattle.abs_step.specs.Successors.{is_empty, next_kind_of, nexts_by, returns_nowhere, uses_stack, way_by, writes_of}
use Rattle.abs_step.specs.declared.next.NextKind.{NextKind}
use Rattle.abs_step.specs.declared.next.NextKind.TheVariants as kinds
use Rattle.abs_step.proofs.Asides.{End, left_end}
use Rattle.abs_step.proofs.GoesAside.{goes_on, misses_used}
use Rattle.abs_step.proofs.GoesStack.{call_end, call_if_end, called_fits, from_interrupt_end, from_non_maskable_end, inlined_fits, no_words, restart_end, return_end, return_if_end}
use Rattle.abs_step.proofs.Here.{begun, here}
use Rattle.abs_step.proofs.KeepsAside.{known_zip}
use Rattle.abs_step.proofs.KeepsCalls.{Spared, called_goes, ended_goes}
use Rattle.abs_step.proofs.KeepsStack.{and_true, has_room, is_set, jump_room, or_false, stack_goes, tops}
use Rattle.abs_step.proofs.Scenes.{Done, Scene, keeps_board}

last_or : (p q r : Bool) → (p || (q || r)) ≡ false → r ≡ false
last_or p q r e = (or_false q r (or_false p (q || r) e).1).1

module _ (g : GroundView) (address : ℕ) (main : Bool) (a : AbsState) (region : Region) (running : Running) (s : BoardView) (env : Env) where
  abbrev Scene_of : Bool → Instr → Type 0
  Scene_of inline instr = Scene g address main inline a instr region running s env

  abbrev GoesAt : Bool → Instr → Type 0
  GoesAt inline instr = Done g address main inline a instr region running s env

  -- ---- CALL and RST

  pub call_goes : (nn : ℕ) → Scene_of false (instrs.Call nn) → GoesAt false (instrs.Call nn)
  unfolding AreInRange drafted moved
  call_goes nn x =
      let instr = instrs.Call nn in
      let b = begun g address a instr region running s env x.at x.stands x.before in
      let fits = called_fits g a (outside_of (here g s env)) (known_before address instr a) running.entry (value_in (seen_of g.cells running.words s)) (draft_on (past (length (spelling instr)) s.regs)) running.words nn b.run.in_range.1.0 (omega arith) b.run.reads b.start in
      called_goes g address main false a region running s env instr refl refl x (call_end g (here g s env) a main false running.entry _ running.words address nn kinds.Call running.words fits) refl refl
      (record { same = record { main = refl; alternate = refl; ix = refl; iy = refl; i = refl }; writes = refl })

  pub restart_goes : (p : RestartAddress) → Scene_of false (instrs.Restart p) → GoesAt false (instrs.Restart p)
  unfolding AreInRange drafted moved
  restart_goes p x =
      let instr = instrs.Restart p in
      let b = begun g address a instr region running s env x.at x.stands x.before in
      let fits = called_fits g a (outside_of (here g s env)) (known_before address instr a) running.entry (value_in (seen_of g.cells running.words s)) (draft_on (past (length (spelling instr)) s.regs)) running.words (8 * restart p) b.run.in_range.1.0 (omega arith) b.run.reads b.start in
      called_goes g address main false a region running s env instr refl refl x (restart_end g (here g s env) a main false running.entry _ running.words address p kinds.Call running.words fits) refl refl
      (record { same = record { main = refl; alternate = refl; ix = refl; iy = refl; i = refl }; writes = refl })

  -- an inline call pushes a word of the activation's own
  inline_goes : (instr : Instr) (word : ℕ) → sets_sp instr ≡ false → uses_stack instr ≡ true → (x : Scene_of true instr)
      → (e : End g (here g s env) a instr main kinds.Jump running.entry (value_in (seen_of g.cells running.words s)) (running.words ++ word ∷ []) (writes_of g address a (Ok instr)) (nexts_by g address main true instr a))
      → is_push instr (instr_draft (here g s env) instr).taken ≡ true → pushed_word s.regs instr ≡ word → GoesAt true instr
  inline_goes instr word sets u x e pushes is =
      let h = x.before.laid (is_set a (uses_stack instr) u x.set) in
      let room : HasRoom region (length (running.words ++ word ∷ []) + length running.under) = jump_room g address main true a region running s env instr _ sets x e in
      let long = length-append running.words (word ∷ []) in
      let count = on_top-length running.words running.under in
      let d = push_done (here g s env) region instr (on_top running.words running.under) h (omega (arith, room, long, count)) pushes in
      let same : pushed_word s.regs instr ∷ on_top running.words running.under ≡ on_top (running.words ++ word ∷ []) running.under = ap (λ w. w ∷ on_top running.words running.under) is ∙ sym (on_top-push running.words word running.under) in
      stack_goes g address main true a region running s env instr (running.words ++ word ∷ []) sets x e (subst (IsDoneWith (here g s env) region instr) same d)

  pub inline_call_goes : (nn : ℕ) → Scene_of true (instrs.Call nn) → GoesAt true (instrs.Call nn)
  unfolding AreInRange drafted
  inline_call_goes nn x =
      let instr = instrs.Call nn in
      let b = begun g address a instr region running s env x.at x.stands x.before in
      let few : length a.shape < 64 = has_room (length a.shape) x.fits (and_true _ (or_false _ _ x.shape).0) in
      let fits = inlined_fits g a (outside_of (here g s env)) (known_before address instr a) running.entry (value_in (seen_of g.cells running.words s)) (draft_on (past (length (spelling instr)) s.regs)) running.words nn b.run.in_range.1.0 (omega arith) b.run.reads b.start refl few in
      inline_goes instr ((s.regs.pc + length (spelling instr)) % 65536) refl refl x (call_end g (here g s env) a main true running.entry _ running.words address nn kinds.Jump _ fits) refl refl

  pub inline_restart_goes : (p : RestartAddress) → Scene_of true (instrs.Restart p) → GoesAt true (instrs.Restart p)
  unfolding AreInRange drafted
  inline_restart_goes p x =
      let instr = instrs.Restart p in
      let b = begun g address a instr region running s env x.at x.stands x.before in
      let few : length a.shape < 64 = has_room (length a.shape) x.fits (and_true _ (or_false _ _ x.shape).0) in
      let fits = inlined_fits g a (outside_of (here g s env)) (known_before address instr a) running.entry (value_in (seen_of g.cells running.words s)) (draft_on (past (length (spelling instr)) s.regs)) running.words (8 * restart p) b.run.in_range.1.0 (omega arith) b.run.reads b.start refl few in
      inline_goes instr ((s.regs.pc + length (spelling instr)) % 65536) refl refl x (restart_end g (here g s env) a main true running.entry _ running.words address p kinds.Jump _ fits) refl refl

  -- ---- CALL cc

  spared_either : (P : DraftView → Type 0) (b : Bool) (x y : DraftView) → P x → P y → P (cond b x y)
  spared_either P true x y p q = p
  spared_either P false x y p q = q

  call_if_spares : (condition : Condition) (nn : ℕ) → Spared (here g s env) (instr_draft (here g s env) (instrs.CallIf condition nn))
  unfolding drafted moved
  call_if_spares condition nn = spared_either (Spared (here g s env)) (test_holds (tests.Flag condition) (draft_on (past (length (spelling (instrs.CallIf condition nn))) s.regs))) _ _
      (record { same = record { main = refl; alternate = refl; ix = refl; iy = refl; i = refl }; writes = refl })
      (record { same = record { main = refl; alternate = refl; ix = refl; iy = refl; i = refl }; writes = refl })

  pub call_if_goes : (condition : Condition) (nn : ℕ) → Scene_of false (instrs.CallIf condition nn) → (instr_draft (here g s env) (instrs.CallIf condition nn)).taken ≡ true → GoesAt false (instrs.CallIf condition nn)
  unfolding AreInRange
  call_if_goes condition nn x out =
      let instr = instrs.CallIf condition nn in
      let b = begun g address a instr region running s env x.at x.stands x.before in
      let e : End g (here g s env) a instr main kinds.Call running.entry (value_in (seen_of g.cells running.words s)) running.words (writes_of g address a (Ok instr)) (nexts_by g address main false instr a) =
      call_if_end g (here g s env) a main false running.entry (value_in (seen_of g.cells running.words s)) running.words address condition nn kinds.Call running.words b.run b.start out
      (λ n readable kept f. called_fits g a (outside_of (here g s env)) n running.entry (value_in (seen_of g.cells running.words s)) _ running.words nn b.run.in_range.1.1.0 (omega arith) (subst (ReadsFit g (outside_of (here g s env))) (sym readable) b.run.reads) f) in
      called_goes g address main false a region running s env instr refl refl x e out refl (call_if_spares condition nn)

  pub inline_call_if_goes : (condition : Condition) (nn : ℕ) → Scene_of true (instrs.CallIf condition nn) → (instr_draft (here g s env) (instrs.CallIf condition nn)).taken ≡ true → GoesAt true (instrs.CallIf condition nn)
  unfolding AreInRange
  inline_call_if_goes condition nn x out =
      let instr = instrs.CallIf condition nn in
      let b = begun g address a instr region running s env x.at x.stands x.before in
      let few : length a.shape < 64 = has_room (length a.shape) x.fits (and_true _ (or_false _ _ x.shape).0) in
      let word = (s.regs.pc + length (spelling instr)) % 65536 in
      let e : End g (here g s env) a instr main kinds.Jump running.entry (value_in (seen_of g.cells running.words s)) (running.words ++ word ∷ []) (writes_of g address a (Ok instr)) (nexts_by g address main true instr a) =
      call_if_end g (here g s env) a main true running.entry (value_in (seen_of g.cells running.words s)) running.words address condition nn kinds.Jump (running.words ++ word ∷ []) b.run b.start out
      (λ n readable kept f. inlined_fits g a (outside_of (here g s env)) n running.entry (value_in (seen_of g.cells running.words s)) _ running.words nn b.run.in_range.1.1.0 (omega arith) (subst (ReadsFit g (outside_of (here g s env))) (sym readable) b.run.reads) f (ap (λ y. y.slot) kept.0) (subst (λ slots. length slots < 64) (sym kept.1) few)) in
      inline_goes instr word refl refl x e out refl

  -- CALL cc and RET cc, not taken: the words stay
  pub not_taken_goes : (inline : Bool) (instr : Instr) → sets_sp instr ≡ false → uses_stack instr ≡ true → is_aside instr (instr_draft (here g s env) instr).taken ≡ true → (x : Scene_of inline instr)
      → End g (here g s env) a instr main kinds.Jump running.entry (value_in (seen_of g.cells running.words s)) running.words (writes_of g address a (Ok instr)) (nexts_by g address main inline instr a) → GoesAt inline instr
  not_taken_goes inline instr sets u aside x e =
      let zip = known_zip g address main inline a region running s env instr kinds.Jump running.words e in
      let h = x.before.laid (is_set a (uses_stack instr) u x.set) in
      let misses = misses_used g.map region s (instr_draft (here g s env) instr).writes running.main a.shape running.entry running.words running.under h x.before.holds.shape x.before.under (λ not. known_miss g.map region _ _ (x.order.overwrites not) zip) in
      let d = aside_done (here g s env) region instr (on_top running.words running.under) h misses aside in
      let inside : some_outside region (instr_draft (here g s env) instr).stack ≡ false = ap (some_outside region) d.0 in
      (goes_on g s env a instr main region running (writes_of g address a (Ok instr)) (nexts_by g address main inline instr a) running.words sets (keeps_board g address main inline a instr region running s env x zip inside) (λ set. d.1) e, record { zip = zip; inside = inside })

  pub call_if_not_taken : (inline : Bool) (condition : Condition) (nn : ℕ) → Scene_of inline (instrs.CallIf condition nn) → (instr_draft (here g s env) (instrs.CallIf condition nn)).taken ≡ false → GoesAt inline (instrs.CallIf condition nn)
  unfolding before_test test_of after_moves
  call_if_not_taken inline condition nn x out =
      let instr = instrs.CallIf condition nn in
      let b = begun g address a instr region running s env x.at x.stands x.before in
      not_taken_goes inline instr refl refl (ap not out) x (left_end g (here g s env) a instr main inline running.entry (value_in (seen_of g.cells running.words s)) running.words address x.io b.start b.run (next_kind_of inline instr a.shape) (tests.Flag condition) refl refl refl refl out)

  pub return_if_not_taken : (inline : Bool) (condition : Condition) → Scene_of inline (instrs.ReturnIf condition) → (instr_draft (here g s env) (instrs.ReturnIf condition)).taken ≡ false → GoesAt inline (instrs.ReturnIf condition)
  unfolding before_test test_of after_moves
  return_if_not_taken inline condition x out =
      let instr = instrs.ReturnIf condition in
      let b = begun g address a instr region running s env x.at x.stands x.before in
      not_taken_goes inline instr refl refl (ap not out) x (left_end g (here g s env) a instr main inline running.entry (value_in (seen_of g.cells running.words s)) running.words address x.io b.start b.run (next_kind_of inline instr a.shape) (tests.Flag condition) refl refl refl refl out)

  -- ---- returns

  -- the end of a return, among its successors
  abbrev Ending : Bool → Instr → NextKind → NextKind → List ℕ → Type 0
  Ending inline instr among kind words = End g (here g s env) a instr main kind running.entry (value_in (seen_of g.cells running.words s)) words (writes_of g address a (Ok instr)) (way_by g main inline instr among (test_of (moves_of instr)) (after_moves g inline (before_test (moves_of instr)) (known_before address instr a)))

  -- what a return needs: its kind by the shape, and its two ends
  pub record Returns (inline : Bool) (instr : Instr) : Type 0 where
    pub sets : sets_sp instr ≡ false
    pub uses : uses_stack instr ≡ true
    pub kind : (b : Bool) → is_empty a.shape ≡ b → next_kind_of inline instr a.shape ≡ cond b kinds.Exit kinds.Jump
    pub nowhere : returns_nowhere main a.shape ≡ false
    pub into : popped_into instr ≡ registers.Pc
    pub pops : is_pop instr (instr_draft (here g s env) instr).taken ≡ true
    pub returns : is_return instr (instr_draft (here g s env) instr).taken ≡ true
    pub spared : Spared (here g s env) (instr_draft (here g s env) instr)
    pub slot : (rest : List ℕ) (word : ℕ) → running.words ≡ rest ++ word ∷ [] → word < 65536 → word_read (outside_of (here g s env)) false s.regs.sp ≡ word → is_single (last_slot a.shape).pair.word ≡ true → Ending inline instr kinds.Jump kinds.Jump rest
    pub out : running.words ≡ [] → Ending inline instr kinds.Exit kinds.Exit []

  single_slot : (b : Bool) (x : Bool) → b ≡ false → (cond b main (not x)) ≡ false → x ≡ true
  single_slot true x e h = absurd (cc)
  single_slot false true e h = refl
  single_slot false false e h = absurd (cc)

  main_not : (b : Bool) (x : Bool) → b ≡ true → (cond b main x) ≡ false → main ≡ false
  main_not true x e h = h
  main_not false x e h = absurd (cc)

  pub returns_goes : (inline : Bool) (instr : Instr) → Scene_of inline instr → Returns inline instr → GoesAt inline instr
  returns_goes inline instr x r =
      let b = begun g address a instr region running s env x.at x.stands x.before in
      elim (cases_Bool (is_empty a.shape)) [
        | inl empty ↦
            let none = no_words a.shape running.entry running.words empty x.before.holds.shape in
            let not_main : main ≡ false = main_not (is_empty a.shape) _ empty r.nowhere in
            let e : Ending inline instr (next_kind_of inline instr a.shape) kinds.Exit [] = subst (λ k. Ending inline instr k kinds.Exit []) (sym (r.kind true empty)) (r.out none) in
            ended_goes g address main inline a region running s env instr r.sets r.uses x e r.into r.pops r.returns not_main none r.spared
        | inr some ↦
            let t = tops g address main inline a region running s env instr r.uses some x b in
            let single : is_single (last_slot a.shape).pair.word ≡ true = single_slot (is_empty a.shape) _ some r.nowhere in
            let e : Ending inline instr (next_kind_of inline instr a.shape) kinds.Jump t.ends.rest = subst (λ k. Ending inline instr k kinds.Jump t.ends.rest) (sym (r.kind false some)) (r.slot t.ends.rest t.ends.word t.ends.is t.small t.found single) in
            stack_goes g address main inline a region running s env instr t.ends.rest r.sets x e (pop_done (here g s env) region instr t.ends.word (on_top t.ends.rest running.under) t.has r.pops).0
      ]

  abbrev StartsWith : Instr → List ℕ → Type 0
  StartsWith instr words = Fits g a (known_before address instr a) running.entry (value_in (seen_of g.cells running.words s)) (draft_on (past (length (spelling instr)) s.regs)) words

  pub return_is : (inline : Bool) → Scene_of inline instrs.Return → Returns inline instrs.Return
  unfolding drafted moved
  return_is inline x =
      let instr = instrs.Return in
      let o = outside_of (here g s env) in
      let b = begun g address a instr region running s env x.at x.stands x.before in
      let k = known_before address instr a in
      let d = draft_on (past (length (spelling instr)) s.regs) in
      record {
        sets = refl;
        uses = refl;
        kind = λ empty e. ap (λ (y : Bool). cond y kinds.Exit kinds.Jump) e;
        nowhere = last_or (length a.shape == 64 && false) false (returns_nowhere main a.shape) x.shape;
        into = refl;
        pops = refl;
        returns = refl;
        spared = record { same = record { main = refl; alternate = refl; ix = refl; iy = refl; i = refl }; writes = refl };
        slot = λ rest word is small found single. return_end g (here g s env) a main inline running.entry (value_in (seen_of g.cells running.words s)) running.words address kinds.Jump rest (pop_fits g a o k running.entry (value_in (seen_of g.cells running.words s)) d inline rest word registers.Pc small found (subst (StartsWith instr) is b.start)) (λ on. eqb-true _ _ single);
        out = λ none. return_end g (here g s env) a main inline running.entry (value_in (seen_of g.cells running.words s)) running.words address kinds.Exit [] (return_fits g a o inline k running.entry (value_in (seen_of g.cells running.words s)) d (word_is_read g o a.armed false s.regs.sp b.run.reads) (subst (StartsWith instr) none b.start)) (λ on. absurd (on refl));
      }

  pub from_interrupt_is : (inline : Bool) → Scene_of inline instrs.ReturnFromInterrupt → Returns inline instrs.ReturnFromInterrupt
  unfolding drafted moved
  from_interrupt_is inline x =
      let instr = instrs.ReturnFromInterrupt in
      let o = outside_of (here g s env) in
      let b = begun g address a instr region running s env x.at x.stands x.before in
      let k = known_before address instr a in
      let d = draft_on (past (length (spelling instr)) s.regs) in
      record {
        sets = refl;
        uses = refl;
        kind = λ empty e. ap (λ (y : Bool). cond y kinds.Exit kinds.Jump) e;
        nowhere = last_or (length a.shape == 64 && false) false (returns_nowhere main a.shape) x.shape;
        into = refl;
        pops = refl;
        returns = refl;
        spared = record { same = record { main = refl; alternate = refl; ix = refl; iy = refl; i = refl }; writes = refl };
        slot = λ rest word is small found single. from_interrupt_end g (here g s env) a main inline running.entry (value_in (seen_of g.cells running.words s)) running.words address kinds.Jump rest (pop_fits g a o k running.entry (value_in (seen_of g.cells running.words s)) d inline rest word registers.Pc small found (subst (StartsWith instr) is b.start)) (λ on. eqb-true _ _ single);
        out = λ none. from_interrupt_end g (here g s env) a main inline running.entry (value_in (seen_of g.cells running.words s)) running.words address kinds.Exit [] (return_fits g a o inline k running.entry (value_in (seen_of g.cells running.words s)) d (word_is_read g o a.armed false s.regs.sp b.run.reads) (subst (StartsWith instr) none b.start)) (λ on. absurd (on refl));
      }

  -- RETN also copies IFF2
  restored : (inline : Bool) (k : AbsDraft) (d : DraftView) (after : List ℕ) → d.writes ≡ [] → ReadsFit g (outside_of (here g s env)) k.readable → Fits g a (after_move g inline (moves.Pop registers.Pc) k) running.entry (value_in (seen_of g.cells running.words s)) (moved (outside_of (here g s env)) (moves.Pop registers.Pc) d) after
      → Fits g a (after_move g inline (moves.Pop registers.Pc) k) running.entry (value_in (seen_of g.cells running.words s)) (moved (outside_of (here g s env)) moves.RestoreIff1 (moved (outside_of (here g s env)) (moves.Pop registers.Pc) d)) after
  unfolding after_move moved
  restored inline k d after none reads f =
      let few : length d.writes ≡ 0 = ap length none in
      access_free_fits g a (outside_of (here g s env)) inline (after_move g inline (moves.Pop registers.Pc) k) running.entry (value_in (seen_of g.cells running.words s)) (moved (outside_of (here g s env)) (moves.Pop registers.Pc) d) after reads f moves.RestoreIff1 refl tt (omega (arith, few))

  pub from_non_maskable_is : (inline : Bool) → Scene_of inline instrs.ReturnFromNonMaskable → Returns inline instrs.ReturnFromNonMaskable
  unfolding drafted moved
  from_non_maskable_is inline x =
      let instr = instrs.ReturnFromNonMaskable in
      let o = outside_of (here g s env) in
      let b = begun g address a instr region running s env x.at x.stands x.before in
      let k = known_before address instr a in
      let d = draft_on (past (length (spelling instr)) s.regs) in
      record {
        sets = refl;
        uses = refl;
        kind = λ empty e. ap (λ (y : Bool). cond y kinds.Exit kinds.Jump) e;
        nowhere = last_or (length a.shape == 64 && false) false (returns_nowhere main a.shape) x.shape;
        into = refl;
        pops = refl;
        returns = refl;
        spared = record { same = record { main = refl; alternate = refl; ix = refl; iy = refl; i = refl }; writes = refl };
        slot = λ rest word is small found single. from_non_maskable_end g (here g s env) a main inline running.entry (value_in (seen_of g.cells running.words s)) running.words address kinds.Jump rest (restored inline k d rest refl b.run.reads (pop_fits g a o k running.entry (value_in (seen_of g.cells running.words s)) d inline rest word registers.Pc small found (subst (StartsWith instr) is b.start))) (λ on. eqb-true _ _ single);
        out = λ none. from_non_maskable_end g (here g s env) a main inline running.entry (value_in (seen_of g.cells running.words s)) running.words address kinds.Exit [] (restored inline k d [] refl b.run.reads (return_fits g a o inline k running.entry (value_in (seen_of g.cells running.words s)) d (word_is_read g o a.armed false s.regs.sp b.run.reads) (subst (StartsWith instr) none b.start))) (λ on. absurd (on refl));
      }

  return_if_spares : (condition : Condition) → Spared (here g s env) (instr_draft (here g s env) (instrs.ReturnIf condition))
  unfolding drafted moved
  return_if_spares condition = spared_either (Spared (here g s env)) (test_holds (tests.Flag condition) (draft_on (past (length (spelling (instrs.ReturnIf condition))) s.regs))) _ _
      (record { same = record { main = refl; alternate = refl; ix = refl; iy = refl; i = refl }; writes = refl })
      (record { same = record { main = refl; alternate = refl; ix = refl; iy = refl; i = refl }; writes = refl })

  pub return_if_is : (inline : Bool) (condition : Condition) → Scene_of inline (instrs.ReturnIf condition) → (instr_draft (here g s env) (instrs.ReturnIf condition)).taken ≡ true → Returns inline (instrs.ReturnIf condition)
  unfolding drafted
  return_if_is inline condition x taken =
      let instr = instrs.ReturnIf condition in
      let o = outside_of (here g s env) in
      let b = begun g address a instr region running s env x.at x.stands x.before in
      let d = marked (tests.Flag condition) (draft_on (past (length (spelling instr)) s.regs)) in
      record {
        sets = refl;
        uses = refl;
        kind = λ empty e. ap (λ (y : Bool). cond y kinds.Exit kinds.Jump) e;
        nowhere = last_or (length a.shape == 64 && false) false (returns_nowhere main a.shape) x.shape;
        into = refl;
        pops = taken;
        returns = taken;
        spared = return_if_spares condition;
        slot = λ rest word is small found single. return_if_end g (here g s env) a main inline running.entry (value_in (seen_of g.cells running.words s)) running.words address condition kinds.Jump rest b.run b.start taken
            (λ n f. pop_fits g a o n running.entry (value_in (seen_of g.cells running.words s)) d inline rest word registers.Pc small found (subst (λ ws. Fits g a n running.entry (value_in (seen_of g.cells running.words s)) d ws) is f)) (λ on. single);
        out = λ none. return_if_end g (here g s env) a main inline running.entry (value_in (seen_of g.cells running.words s)) running.words address condition kinds.Exit [] b.run b.start taken
            (λ n f. return_fits g a o inline n running.entry (value_in (seen_of g.cells running.words s)) d (word_is_read g o a.armed false s.regs.sp b.run.reads) (subst (λ ws. Fits g a n running.entry (value_in (seen_of g.cells running.words s)) d ws) none f)) (λ on. absurd (on refl));
      }
