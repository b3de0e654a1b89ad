-- What calls and returns keep.
use Rattle.std.proofs.Common.{◌≡◌, ◌≢◌, ◌≤◌, ◌+◌, ◌∙◌, ℕ, Bool, true, false, List, [], ◌∷◌, length, Ok, refl, sym, ap, subst, arith}
use Rattle.std.specs.Prelude.{◌%◌}
use Rattle.z80_decode.specs.Spelling.{spelling}
use Rattle.z80_decode.specs.declared.instr.Instr.{Instr}
use Rattle.z80_alu.specs.declared.regs.Regs.{Regs}
use Rattle.z80_draft.specs.Draft.{DraftView, draft_word}
use Rattle.z80_draft.specs.Registers.{IsRegs}
use Rattle.z80_moves.specs.declared.registers.WordRegister.TheVariants as registers
use Rattle.address_map.specs.declared.region.Region.{Region}
use Rattle.board_step.specs.Context.{ContextView}
use Rattle.z80_actions.specs.Returns.{is_return}
use Rattle.board_step.specs.State.{BoardView}
use Rattle.board_step.specs.Step.{done, instr_draft}
use Rattle.board_step.specs.Trap.{some_outside}
use Rattle.board_step.specs.declared.env.Env.{Env}
use Rattle.board_laws.specs.Board.{HasWords}
use Rattle.board_laws.specs.Region.{HasRoom}
use Rattle.board_laws.specs.Uses.{is_pop, is_push, popped_into, pushed_word, sets_sp}
use Rattle.board_laws.specs.Words.{on_top}
use Rattle.board_laws.proofs.Brought.{reaches}
use Rattle.board_laws.proofs.EachInstruction.{pop_done, push_done}
use Rattle.board_laws.proofs.WordLaws.{on_top-length}
use Rattle.abs_state.specs.Cell.{HoldsCells}
use Rattle.abs_state.specs.Holds.{Holds, HoldsMode}
use Rattle.abs_state.specs.Pairs.{HoldsPairs}
use Rattle.abs_state.specs.Variables.{value_in}
use Rattle.abs_state.specs.declared.mode.Mode.TheVariants.{Unset, Nmi}
use Rattle.abs_state.specs.declared.state.AbsState.{AbsState}
use Rattle.abs_draft.specs.Ground.{GroundView}
use Rattle.abs_laws.specs.Cells.{bytes_of_cells}
use Rattle.abs_laws.specs.Fits.{state_after_writes}
use Rattle.abs_laws.proofs.Enables.{enable_stays, set_stays}
use Rattle.abs_step.specs.Contained.{IsUnder, Running, SameRegs, seen_of}
use Rattle.abs_step.specs.Successors.{next_of, nexts_by, stack_set, uses_stack, writes_of}
use Rattle.abs_step.specs.declared.next.NextKind.{NextKind}
use Rattle.abs_step.specs.declared.next.NextKind.TheVariants as kinds
use Rattle.abs_step.proofs.Asides.{End, end_costs, end_listed}
use Rattle.abs_step.proofs.GoesStack.{as_many}
use Rattle.abs_step.proofs.Here.{address_after, armed_after_all, here, holds_after, moved_after, through_after}
use Rattle.abs_step.proofs.KeepsAside.{known_zip}
use Rattle.abs_step.proofs.KeepsStack.{is_set}
use Rattle.abs_step.proofs.Scenes.{Done, Scene, all_at, keeps_board, trap_inside}
use Rattle.abs_step.proofs.Uses.{stack_same}

-- a call or a return changes no other register and makes no data write
pub record Spared (c : ContextView) (d : DraftView) : Type 0 where
  pub same : SameRegs c.state.regs d.regs
  pub writes : d.writes ≡ []

-- what lies under an activation that is not main code's
pub record UnderIs (under : List ℕ) : Type 0 where
  pub word : ℕ
  pub rest : List ℕ
  pub is : under ≡ word ∷ rest

under_is : (main : Bool) (under : List ℕ) → main ≡ false → IsUnder main under → UnderIs under
under_is false (word ∷ rest) e h = record { word = word; rest = rest; is = refl }
under_is false [] e h = absurd h
under_is true under e h = absurd (cc)

module _ (g : GroundView) (address : ℕ) (main inline : Bool) (a : AbsState) (region : Region) (running : Running) (s : BoardView) (env : Env) where
  abbrev Ends : Instr → NextKind → List ℕ → Type 0
  Ends instr kind words = End g (here g s env) a instr main kind running.entry (value_in (seen_of g.cells running.words s)) words (writes_of g address a (Ok instr)) (nexts_by g address main inline instr a)

  -- the mode and the state of a successor that neither sets SP nor writes data
  pub record Kept (instr : Instr) (kind : NextKind) (words : List ℕ) (e : Ends instr kind words) : Type 0 where
    pub state : stack_set main instr e.known.state ≡ e.known.state
    pub holds : Holds (stack_set main instr e.known.state) g.cells running.entry (seen_of g.cells words (done (here g s env) instr))
    pub set : a.mode ≢ Unset → (stack_set main instr e.known.state).mode ≢ Unset
    pub nmi : a.mode ≡ Nmi → (stack_set main instr e.known.state).mode ≡ Nmi
    pub arms : a.armed ≤ (stack_set main instr e.known.state).armed
    pub same : SameRegs s.regs (done (here g s env) instr).regs
    pub enable : (done (here g s env) instr).enable ≡ s.enable

  pub kept : (instr : Instr) (kind : NextKind) (words : List ℕ) → sets_sp instr ≡ false → Scene g address main inline a instr region running s env → (e : Ends instr kind words)
      → some_outside region (instr_draft (here g s env) instr).stack ≡ false → Spared (here g s env) (instr_draft (here g s env) instr) → Kept instr kind words e
  kept instr kind words sets x e inside spared =
      let new = done (here g s env) instr in
      let d = instr_draft (here g s env) instr in
      let f = e.fits in
      let zip = known_zip g address main inline a region running s env instr kind words e in
      let k = keeps_board g address main inline a instr region running s env x zip inside in
      let r = reaches g.map d s in
      let mode : HoldsMode (state_after_writes g e.known.writes.items a).mode new.enable new.line new.latched = subst (λ ws. HoldsMode (state_after_writes g ws a).mode new.enable new.line new.latched) (sym e.writes) k.mode in
      let cells : HoldsCells (state_after_writes g e.known.writes.items a).armed g.cells (bytes_of_cells g.cells new) = subst (λ ws. HoldsCells (state_after_writes g ws a).armed g.cells (bytes_of_cells g.cells new)) (sym e.writes) k.cells in
      let same : stack_set main instr e.known.state ≡ e.known.state = stack_same main instr e.known.state sets in
      let mode_is : (stack_set main instr e.known.state).mode ≡ (state_after_writes g (writes_of g address a (Ok instr)) a).mode = ap (λ (y : AbsState). y.mode) same ∙ (f.mode ∙ ap (λ ws. (state_after_writes g ws a).mode) e.writes) in
      let regs : SameRegs s.regs d.regs = spared.same in
      record {
        state = same;
        holds = subst (λ y. Holds y g.cells running.entry (seen_of g.cells words new)) (sym same) (holds_after g s env a instr running e.known _ words f mode cells);
        set = λ set unset. set_stays g (writes_of g address a (Ok instr)) a set (sym mode_is ∙ unset);
        nmi = λ n. mode_is ∙ k.nmi n;
        arms = subst (λ (y : AbsState). a.armed ≤ y.armed) (sym same) (armed_after_all g a e.known f.armed);
        same = subst (λ y. SameRegs s.regs y) (sym r.regs) regs;
        enable = enable_stays g.map region d s x.before.is_region spared.writes inside;
      }

  -- a call that is not inline
  pub called_goes : (instr : Instr) → sets_sp instr ≡ false → (uses_stack instr ≡ true) → Scene g address main inline a instr region running s env → (e : Ends instr kinds.Call running.words)
      → is_push instr (instr_draft (here g s env) instr).taken ≡ true → pushed_word s.regs instr ≡ (s.regs.pc + length (spelling instr)) % 65536
      → Spared (here g s env) (instr_draft (here g s env) instr) → Done g address main inline a instr region running s env
  called_goes instr sets u x e pushes word spared =
      let n = next_of main instr e.taken kinds.Call e.known in
      let set = is_set a (uses_stack instr) u x.set in
      let h = x.before.laid set in
      let room : HasRoom region (1 + (length n.state.shape + length running.under)) = all_at (λ n. n.kind ≡ kinds.Call → (regs : Regs) → IsRegs regs → HoldsPairs n.state.pairs running.entry regs → HasRoom region (1 + (length n.state.shape + length running.under))) _ n x.order.calls (end_listed g (here g s env) a instr main kinds.Call running.entry _ running.words _ (nexts_by g address main inline instr a) e) refl
      (instr_draft (here g s env) instr).regs e.fits.regs (subst (λ (y : AbsState). HoldsPairs y.pairs running.entry (instr_draft (here g s env) instr).regs) (sym (stack_same main instr e.known.state sets)) e.fits.pairs) in
      let shape : length n.state.shape ≡ length e.known.state.shape = ap (λ (y : AbsState). length y.shape) (stack_same main instr e.known.state sets) in
      let many : length running.words ≡ length e.known.state.shape = as_many _ _ _ e.fits.shape in
      let count = on_top-length running.words running.under in
      let d = push_done (here g s env) region instr (on_top running.words running.under) h (omega (arith, room, shape, many, count)) pushes in
      let k = kept instr kinds.Call running.words sets x e (trap_inside region (here g s env) instr x.io d.trap) spared in (
        record {
          next = n;
          listed = end_listed g (here g s env) a instr main kinds.Call running.entry _ running.words _ (nexts_by g address main inline instr a) e;
          cost = end_costs g (here g s env) a instr main kinds.Call running.entry _ running.words _ (nexts_by g address main inline instr a) e;
          takes = sym e.takes;
          stays = k.nmi;
          arms = k.arms;
          goes = record {
            set = k.set set;
            pc = address_after g s env a instr running e.known _ running.words e.fits (e.one (λ same. absurd (cc)));
            same = k.same;
            enable = k.enable;
            holds = k.holds;
            through = through_after g s env a instr running e.known running.words e.fits;
            moved = moved_after g s env a instr running e.known running.words e.fits;
            laid = subst (λ w. HasWords g.map region (done (here g s env) instr) (w ∷ on_top running.words running.under)) word d.has;
          };
        },
        record { zip = known_zip g address main inline a region running s env instr _ _ e; inside = trap_inside region (here g s env) instr x.io d.trap },
      )

  -- a return on an empty shape
  pub ended_goes : (instr : Instr) → sets_sp instr ≡ false → (uses_stack instr ≡ true) → Scene g address main inline a instr region running s env → (e : Ends instr kinds.Exit [])
      → popped_into instr ≡ registers.Pc → is_pop instr (instr_draft (here g s env) instr).taken ≡ true → is_return instr (instr_draft (here g s env) instr).taken ≡ true
      → main ≡ false → running.words ≡ [] → Spared (here g s env) (instr_draft (here g s env) instr) → Done g address main inline a instr region running s env
  unfolding on_top
  ended_goes instr sets u x e into pops returns not_main none spared =
      let set = is_set a (uses_stack instr) u x.set in
      let low = under_is running.main running.under (x.is_main ∙ not_main) x.before.under in
      let lies : HasWords g.map region s (low.word ∷ low.rest) = subst (λ ws. HasWords g.map region s ws) (ap (λ ws. on_top ws running.under) none ∙ low.is) (x.before.laid set) in
      let p = pop_done (here g s env) region instr low.word low.rest lies pops in
      let d = instr_draft (here g s env) instr in
      let k = kept instr kinds.Exit [] sets x e (trap_inside region (here g s env) instr x.io p.0.trap) spared in
      let r = reaches g.map d s in
      let popped : d.regs.pc ≡ low.word = ap (λ w. draft_word w d) (sym into) ∙ p.1 in
      let pc : (done (here g s env) instr).regs.pc ≡ low.word = ap (λ y. y.pc) r.regs ∙ popped in (
        record {
          next = next_of main instr e.taken kinds.Exit e.known;
          listed = end_listed g (here g s env) a instr main kinds.Exit running.entry _ [] _ (nexts_by g address main inline instr a) e;
          cost = end_costs g (here g s env) a instr main kinds.Exit running.entry _ [] _ (nexts_by g address main inline instr a) e;
          takes = sym e.takes;
          stays = k.nmi;
          arms = k.arms;
          goes = record {
            set = k.set set;
            main = x.is_main ∙ not_main;
            none = none;
            rest = low.rest;
            under = low.is ∙ ap (λ w. w ∷ low.rest) (sym pc);
            same = k.same;
            enable = k.enable;
            returns = returns;
            holds = k.holds;
            laid = p.0.has;
          };
        },
        record { zip = known_zip g address main inline a region running s env instr _ _ e; inside = trap_inside region (here g s env) instr x.io p.0.trap },
      )
