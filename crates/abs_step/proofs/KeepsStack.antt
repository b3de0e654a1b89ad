-- What LD SP, PUSH, POP and EX (SP) keep.
use Rattle.std.proofs.Common.{◌≡◌, ◌≢◌, ◌≤◌, ◌<◌, ◌+◌, ◌∙◌, ℕ, Bool, true, false, List, [], ◌∷◌, ◌++◌, length, length-append, Ok, refl, sym, ap, subst, arith}
use Rattle.std.specs.Prelude.{◌&&◌, ◌||◌, ◌==◌}
use Rattle.std.proofs.lemmas.Grind.{common_steps}
use Rattle.loop_bounds.specs.Effect.{Valuation, change_of}
use Rattle.loop_bounds.specs.declared.effect.Effect.{Effect}
use Rattle.loop_bounds.specs.declared.variable.Variable.{Variable}
use Rattle.loop_bounds.specs.declared.variable.Variable.TheVariants as variables
use Rattle.z80_decode.specs.Spelling.{spelling}
use Rattle.z80_decode.specs.declared.instr.Instr.{Instr}
use Rattle.z80_decode.specs.declared.instr.Instr.TheVariants as instrs
use Rattle.z80_decode.specs.declared.operands.Pointer.{Pointer}
use Rattle.z80_decode.specs.declared.operands.Pointer.TheVariants as pointers
use Rattle.z80_decode.specs.declared.operands.Register16.TheVariants.{Sp}
use Rattle.z80_decode.specs.declared.operands.StackPair.{StackPair}
use Rattle.z80_decode.specs.declared.operands.StackPair.TheVariants as stack_pairs
use Rattle.z80_alu.specs.declared.regs.Regs.{Regs}
use Rattle.z80_draft.specs.Draft.{draft_on, past, draft_word, word_read}
use Rattle.z80_moves.specs.Operands.{pointer_register, stack_register}
use Rattle.address_map.specs.declared.region.Region.{Region}
use Rattle.board_step.specs.Reads.{outside_of}
use Rattle.board_step.specs.State.{BoardView}
use Rattle.board_step.specs.Step.{done}
use Rattle.board_step.specs.declared.env.Env.{Env}
use Rattle.board_laws.specs.Board.{HasWords, IsDoneWith}
use Rattle.board_laws.specs.Region.{HasRoom}
use Rattle.board_laws.specs.Uses.{pushed_word, sets_sp}
use Rattle.board_laws.specs.Words.{on_top}
use Rattle.board_laws.proofs.EachInstruction.{exchange_done, load_sp_done, pop_done, push_done}
use Rattle.board_laws.proofs.Laid.{word_found}
use Rattle.board_laws.proofs.WordLaws.{on_top-length, on_top-push}
use Rattle.abs_state.specs.Cell.{HoldsCells}
use Rattle.abs_state.specs.Holds.{Holds, HoldsMode}
use Rattle.abs_state.specs.Mode.{is_unset}
use Rattle.abs_state.specs.Seen.{Seen}
use Rattle.abs_state.specs.Variables.{value_in}
use Rattle.abs_state.specs.declared.mode.Mode.{Mode}
use Rattle.abs_state.specs.declared.mode.Mode.TheVariants.{Unset, Set, Nmi}
use Rattle.abs_state.specs.declared.state.AbsState.{AbsState}
use Rattle.abs_draft.specs.Ground.{GroundView}
use Rattle.abs_draft.specs.Outcomes.{known_before, settled}
use Rattle.abs_laws.specs.Cells.{bytes_of_cells}
use Rattle.abs_laws.specs.Fits.{Fits, FollowsChange, IsThere, state_after_writes}
use Rattle.abs_laws.proofs.Reading.{word_is_read}
use Rattle.abs_step.specs.Contained.{IsUnder, Running, seen_of}
use Rattle.abs_step.specs.Successors.{is_empty, mode_set, next_of, nexts_by, stack_set, uses_stack, writes_of}
use Rattle.abs_step.specs.declared.next.NextKind.{NextKind}
use Rattle.abs_step.specs.declared.next.NextKind.TheVariants as kinds
use Rattle.abs_step.proofs.Asides.{End, end_costs, end_listed}
use Rattle.abs_step.proofs.GoesAside.{goes_on}
use Rattle.abs_step.proofs.GoesStack.{EndsIn, as_many, ends_in, exchange_end, pop_end, push_end}
use Rattle.abs_step.proofs.Here.{IsBegun, address_after, armed_after_all, begun, here, holds_after, moved_after, through_after}
use Rattle.abs_step.proofs.KeepsAside.{aside_end, known_zip}
use Rattle.abs_step.proofs.Scenes.{Done, Scene, all_at, aside_inside, keeps_board, stage_of, trap_inside}
use Rattle.abs_step.proofs.Uses.{stack_same}

-- ---- LD SP

set_holds : (m : Mode) (enable line latched : Bool) → HoldsMode m enable line latched → HoldsMode (mode_set m) enable line latched
set_holds Unset enable line latched h = h
set_holds Set enable line latched h = h
set_holds Nmi enable line latched h = h

set_nmi : (m : Mode) → m ≡ Nmi → mode_set m ≡ Nmi
set_nmi m e = ap mode_set e

none_under : (main : Bool) (under : List ℕ) → main ≡ true → IsUnder main under → under ≡ []
none_under true [] e h = refl
none_under true (word ∷ words) e h = absurd h
none_under false under e h = absurd (cc)

-- without words on the stack only the registers have variables
by_registers : (effect : Effect) (before : Valuation) (m n : Seen) (count : ℕ) → n.regs ≡ m.regs → ((v : Variable) → IsThere count v → FollowsChange (change_of effect v) before (value_in m v)) → (v : Variable) → IsThere 0 v → FollowsChange (change_of effect v) before (value_in n v)
by_registers effect before m n count e h variables.A there = rw e (h variables.A tt)
by_registers effect before m n count e h variables.B there = rw e (h variables.B tt)
by_registers effect before m n count e h variables.C there = rw e (h variables.C tt)
by_registers effect before m n count e h variables.D there = rw e (h variables.D tt)
by_registers effect before m n count e h variables.E there = rw e (h variables.E tt)
by_registers effect before m n count e h variables.H there = rw e (h variables.H tt)
by_registers effect before m n count e h variables.L there = rw e (h variables.L tt)
by_registers effect before m n count e h variables.Bc there = rw e (h variables.Bc tt)
by_registers effect before m n count e h variables.De there = rw e (h variables.De tt)
by_registers effect before m n count e h variables.Hl there = rw e (h variables.Hl tt)
by_registers effect before m n count e h variables.Ix there = rw e (h variables.Ix tt)
by_registers effect before m n count e h variables.Iy there = rw e (h variables.Iy tt)
by_registers effect before m n count e h (variables.Slot number part) there = absurd (omega arith)

module _ (g : GroundView) (address : ℕ) (main inline : Bool) (a : AbsState) (region : Region) (running : Running) (s : BoardView) (env : Env) where
  pub load_sp_goes : main ≡ true → Scene g address main inline a (instrs.LoadPair Sp region.top) region running s env → Done g address main inline a (instrs.LoadPair Sp region.top) region running s env
  unfolding on_top
  load_sp_goes is_main x =
      let instr = instrs.LoadPair Sp region.top in
      let new = done (here g s env) instr in
      let e : End g (here g s env) a instr main kinds.Jump running.entry (value_in (seen_of g.cells running.words s)) running.words (writes_of g address a (Ok instr)) (nexts_by g address main inline instr a) = aside_end g address main inline a region running s env instr refl (stage_of g address main inline a instr region running s env x) in
      let zip = known_zip g address main inline a region running s env instr kinds.Jump running.words e in
      let k = keeps_board g address main inline a instr region running s env x zip (aside_inside region (here g s env) instr refl) in
      let f = e.fits in
      let set : stack_set main instr e.known.state ≡ record e.known.state { mode = mode_set e.known.state.mode; shape = [] } = ap (λ (b : Bool). stack_set b instr e.known.state) is_main in
      let mode : HoldsMode (state_after_writes g e.known.writes.items a).mode new.enable new.line new.latched = subst (λ ws. HoldsMode (state_after_writes g ws a).mode new.enable new.line new.latched) (sym e.writes) k.mode in
      let cells = subst (λ ws. HoldsCells (state_after_writes g ws a).armed g.cells (bytes_of_cells g.cells new)) (sym e.writes) k.cells in
      let h = holds_after g s env a instr running e.known _ running.words f mode cells in
      let under : running.under ≡ [] = none_under running.main running.under (x.is_main ∙ is_main) x.before.under in
      let held : Holds (record e.known.state { mode = mode_set e.known.state.mode; shape = [] }) g.cells running.entry (seen_of g.cells [] new) =
      record { mode = set_holds e.known.state.mode new.enable new.line new.latched h.mode; cells_hold = h.cells_hold; pairs = h.pairs; flag = h.flag; shape = tt } in (
        record {
          next = next_of main instr e.taken kinds.Jump e.known;
          listed = end_listed g (here g s env) a instr main kinds.Jump running.entry _ running.words _ (nexts_by g address main inline instr a) e;
          cost = end_costs g (here g s env) a instr main kinds.Jump running.entry _ running.words _ (nexts_by g address main inline instr a) e;
          takes = sym e.takes;
          stays = λ n. ap (λ (y : AbsState). y.mode) set ∙ set_nmi e.known.state.mode (f.mode ∙ (ap (λ ws. (state_after_writes g ws a).mode) e.writes ∙ k.nmi n));
          arms = subst (λ (y : AbsState). a.armed ≤ y.armed) (sym set) (armed_after_all g a e.known f.armed);
          goes = record {
            words = [];
            pc = address_after g s env a instr running e.known _ running.words f (e.one (λ same. absurd (cc)));
            holds = subst (λ y. Holds y g.cells running.entry (seen_of g.cells [] new)) (sym set) held;
            laid = λ is_set. subst (λ ws. HasWords g.map region new ws) (sym under) (load_sp_done (here g s env) region x.before.is_region x.before.numbers.work.size);
            through = by_registers (settled e.known.state e.known.effect) (value_in (seen_of g.cells running.words s)) (seen_of g.cells running.words new) (seen_of g.cells [] new) (length running.words) refl (through_after g s env a instr running e.known running.words f);
            moved = by_registers e.known.effect (value_in (seen_of g.cells running.words s)) (seen_of g.cells running.words new) (seen_of g.cells [] new) (length running.words) refl (moved_after g s env a instr running e.known running.words f);
          };
        },
        record { zip = zip; inside = aside_inside region (here g s env) instr refl },
      )

-- ---- PUSH, POP and EX (SP)

pub or_false : (x y : Bool) → (x || y) ≡ false → (x ≡ false) × (y ≡ false)
or_false true y e = absurd (cc)
or_false false y e = (refl, e)

-- a row at an instruction that uses the stack has SP set, if it is not refused
pub is_set : (a : AbsState) (u : Bool) → u ≡ true → (u && is_unset a.mode) ≡ false → a.mode ≢ Unset
is_set a true e h unset = let t : is_unset a.mode ≡ true = ap is_unset unset in absurd (cc)
is_set a false e h unset = absurd (cc)

pub and_true : (b : Bool) → (b && true) ≡ false → b ≡ false
and_true true e = e
and_true false e = refl

-- a shape that has not 64 slots has room for one more
pub has_room : (n : ℕ) → n ≤ 64 → (n == 64) ≡ false → n < 64
has_room n le ne = grind (arith, common_steps)

-- the words on top of others, with the last one apart
pub top_word : (region : Region) (g : GroundView) (s : BoardView) (words rest under : List ℕ) (word : ℕ) → words ≡ rest ++ word ∷ [] → HasWords g.map region s (on_top words under) → HasWords g.map region s (word ∷ on_top rest under)
top_word region g s words rest under word e h = subst (λ ws. HasWords g.map region s ws) (ap (λ ws. on_top ws under) e ∙ on_top-push rest word under) h

-- the word of a stack pair does not depend on the program counter
pair_word : (qq : StackPair) (n : ℕ) (regs : Regs) → draft_word (stack_register qq) (draft_on (past n regs)) ≡ draft_word (stack_register qq) (draft_on regs)
pair_word stack_pairs.Bc n regs = refl
pair_word stack_pairs.De n regs = refl
pair_word stack_pairs.Hl n regs = refl
pair_word stack_pairs.Af n regs = refl
pair_word stack_pairs.Ix n regs = refl
pair_word stack_pairs.Iy n regs = refl

pointer_word : (p : Pointer) (n : ℕ) (regs : Regs) → draft_word (pointer_register p) (draft_on (past n regs)) ≡ draft_word (pointer_register p) (draft_on regs)
pointer_word pointers.Hl n regs = refl
pointer_word pointers.Ix n regs = refl
pointer_word pointers.Iy n regs = refl

module _ (g : GroundView) (address : ℕ) (main inline : Bool) (a : AbsState) (region : Region) (running : Running) (s : BoardView) (env : Env) where
  abbrev Ends : Instr → NextKind → List ℕ → Type 0
  Ends instr kind words = End g (here g s env) a instr main kind running.entry (value_in (seen_of g.cells running.words s)) words (writes_of g address a (Ok instr)) (nexts_by g address main inline instr a)

  -- what is known before the first move holds, with these words on the stack
  abbrev StartsWith : Instr → List ℕ → Type 0
  StartsWith instr words = Fits g a (known_before address instr a) running.entry (value_in (seen_of g.cells running.words s)) (draft_on (past (length (spelling instr)) s.regs)) words

  abbrev Has : List ℕ → BoardView → Type 0
  Has words new = HasWords g.map region new words

  -- a jump has room for its words
  pub jump_room : (instr : Instr) (words : List ℕ) → sets_sp instr ≡ false → Scene g address main inline a instr region running s env → Ends instr kinds.Jump words → HasRoom region (length words + length running.under)
  jump_room instr words sets x e =
      let n = next_of main instr e.taken kinds.Jump e.known in
      let room : HasRoom region (length n.state.shape + length running.under) = all_at (λ n. n.kind ≡ kinds.Jump → HasRoom region (length n.state.shape + length running.under)) _ n x.order.jumps (end_listed g (here g s env) a instr main kinds.Jump running.entry _ words _ (nexts_by g address main inline instr a) e) refl in
      let same : length n.state.shape ≡ length e.known.state.shape = ap (λ (y : AbsState). length y.shape) (stack_same main instr e.known.state sets) in
      let many : length words ≡ length e.known.state.shape = as_many _ _ _ e.fits.shape in
      subst (λ (k : ℕ). HasRoom region (k + length running.under)) (same ∙ sym many) room

  -- a jump that leaves these words goes on with them
  pub stack_goes : (instr : Instr) (words : List ℕ) → sets_sp instr ≡ false → Scene g address main inline a instr region running s env → (e : Ends instr kinds.Jump words) → IsDoneWith (here g s env) region instr (on_top words running.under) → Done g address main inline a instr region running s env
  stack_goes instr words sets x e d =
      let zip = known_zip g address main inline a region running s env instr kinds.Jump words e in
      let inside = trap_inside region (here g s env) instr x.io d.trap in
      (goes_on g s env a instr main region running (writes_of g address a (Ok instr)) (nexts_by g address main inline instr a) words sets (keeps_board g address main inline a instr region running s env x zip inside) (λ set. d.has) e, record { zip = zip; inside = inside })

  pub push_goes : (qq : StackPair) → Scene g address main inline a (instrs.Push qq) region running s env → Done g address main inline a (instrs.Push qq) region running s env
  push_goes qq x =
      let instr = instrs.Push qq in
      let b = begun g address a instr region running s env x.at x.stands x.before in
      let full : ((length a.shape == 64) && true) ≡ false = (or_false _ _ x.shape).0 in
      let word = draft_word (stack_register qq) (draft_on (past (length (spelling instr)) s.regs)) in
      let few : length a.shape < 64 = has_room (length a.shape) x.fits (and_true _ full) in
      let e : Ends instr kinds.Jump (running.words ++ word ∷ []) = push_end g (here g s env) a main inline running.entry _ running.words address qq few b.start in
      let h = x.before.laid (is_set a true refl x.set) in
      let room : HasRoom region (length (running.words ++ word ∷ []) + length running.under) = jump_room instr _ refl x e in
      let long = length-append running.words (word ∷ []) in
      let count = on_top-length running.words running.under in
      let done_with = push_done (here g s env) region instr (on_top running.words running.under) h (omega (arith, room, long, count)) refl in
      let same : pushed_word s.regs instr ∷ on_top running.words running.under ≡ on_top (running.words ++ word ∷ []) running.under = ap (λ w. w ∷ on_top running.words running.under) (sym (pair_word qq _ s.regs)) ∙ sym (on_top-push running.words word running.under) in
      stack_goes instr (running.words ++ word ∷ []) refl x e (subst (IsDoneWith (here g s env) region instr) same done_with)

  -- the top word, as it is read
  pub record Tops (instr : Instr) : Type 0 where
    pub ends : EndsIn running.words
    pub has : Has (ends.word ∷ on_top ends.rest running.under) s
    pub found : word_read (outside_of (here g s env)) false s.regs.sp ≡ ends.word
    pub small : ends.word < 65536

  pub tops : (instr : Instr) → uses_stack instr ≡ true → is_empty a.shape ≡ false → Scene g address main inline a instr region running s env → IsBegun g address a instr running s env → Tops instr
  tops instr u some x b =
      let e = ends_in a.shape running.entry running.words some x.before.holds.shape in
      let h : Has (e.word ∷ on_top e.rest running.under) s = top_word region g s running.words e.rest running.under e.word e.is (x.before.laid (is_set a (uses_stack instr) u x.set)) in
      let found : word_read (outside_of (here g s env)) false s.regs.sp ≡ e.word = word_found (here g s env) region false s.regs.sp e.word (on_top e.rest running.under) h.is_region (omega (arith, h.room)) h.laid in
      record { ends = e; has = h; found = found; small = subst (λ (n : ℕ). n < 65536) found (word_is_read g (outside_of (here g s env)) a.armed false s.regs.sp b.run.reads) }

  pub pop_goes : (qq : StackPair) → Scene g address main inline a (instrs.Pop qq) region running s env → Done g address main inline a (instrs.Pop qq) region running s env
  pop_goes qq x =
      let instr = instrs.Pop qq in
      let b = begun g address a instr region running s env x.at x.stands x.before in
      let some : is_empty a.shape ≡ false = (or_false _ _ (or_false _ _ x.shape).1).0 in
      let t = tops instr refl some x b in
      let e : Ends instr kinds.Jump t.ends.rest = pop_end g (here g s env) a main inline running.entry _ running.words address qq t.ends.rest t.ends.word t.small t.found (subst (StartsWith instr) t.ends.is b.start) in
      stack_goes instr t.ends.rest refl x e (pop_done (here g s env) region instr t.ends.word (on_top t.ends.rest running.under) t.has refl).0

  pub exchange_goes : (p : Pointer) → Scene g address main inline a (instrs.ExchangeStack p) region running s env → Done g address main inline a (instrs.ExchangeStack p) region running s env
  exchange_goes p x =
      let instr = instrs.ExchangeStack p in
      let b = begun g address a instr region running s env x.at x.stands x.before in
      let some : is_empty a.shape ≡ false = (or_false _ _ (or_false _ _ x.shape).1).0 in
      let t = tops instr refl some x b in
      let word = draft_word (pointer_register p) (draft_on (past (length (spelling instr)) s.regs)) in
      let e : Ends instr kinds.Jump (t.ends.rest ++ word ∷ []) = exchange_end g (here g s env) a main inline running.entry _ running.words address p t.ends.rest t.ends.word t.small t.found (subst (StartsWith instr) t.ends.is b.start) in
      let same : draft_word (pointer_register p) (draft_on s.regs) ∷ on_top t.ends.rest running.under ≡ on_top (t.ends.rest ++ word ∷ []) running.under = ap (λ w. w ∷ on_top t.ends.rest running.under) (sym (pointer_word p _ s.regs)) ∙ sym (on_top-push t.ends.rest word running.under) in
      stack_goes instr (t.ends.rest ++ word ∷ []) refl x e (subst (IsDoneWith (here g s env) region instr) same (exchange_done (here g s env) region p t.ends.word (on_top t.ends.rest running.under) t.has).0)
