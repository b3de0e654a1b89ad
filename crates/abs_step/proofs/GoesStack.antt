-- The successors of PUSH, POP and EX (SP), and what calls and returns leave of what is known.
use Rattle.std.proofs.Common.{◌≡◌, ◌≢◌, ◌≤◌, ◌<◌, ◌+◌, ◌∙◌, ℕ, suc, Bool, true, false, List, [], ◌∷◌, ◌++◌, length, Option, None, Ok, refl, sym, ap, subst, arith}
use Rattle.std.specs.List.{Contains}
use Rattle.std.specs.Prelude.{◌*◌, IsSomeAnd}
use Rattle.std.proofs.lemmas.Bool.{eqb-true}
use Rattle.intervals.specs.Logic.{is_single}
use Rattle.z80_decode.specs.Kinds.{restart}
use Rattle.z80_decode.specs.declared.kinds.Condition.{Condition}
use Rattle.z80_decode.specs.declared.kinds.RestartAddress.{RestartAddress}
use Rattle.abs_draft.specs.AbsDraft.{last_slot}
use Rattle.abs_laws.specs.Lists.{KeepsEffectAndShape, MayRun, marked}
use Rattle.abs_laws.proofs.Ways.{goes_held, moves_keep_taken}
use Rattle.abs_step.specs.declared.next.NextKind.{NextKind}
use Rattle.z80_moves.specs.declared.moves.Test.TheVariants as tests
use Rattle.intervals.specs.Domain.{Entry}
use Rattle.loop_bounds.specs.Effect.{Valuation}
use Rattle.stack_shape.specs.Shape.{HoldsShape}
use Rattle.stack_shape.specs.declared.slot.Slot.{Slot}
use Rattle.z80_decode.specs.Spelling.{spelling}
use Rattle.z80_decode.specs.declared.instr.Instr.{Instr}
use Rattle.z80_decode.specs.declared.instr.Instr.TheVariants as instrs
use Rattle.z80_decode.specs.declared.operands.Pointer.{Pointer}
use Rattle.z80_decode.specs.declared.operands.Pointer.TheVariants as pointers
use Rattle.z80_decode.specs.declared.operands.StackPair.{StackPair}
use Rattle.z80_decode.specs.declared.operands.StackPair.TheVariants as stack_pairs
use Rattle.z80_draft.specs.Draft.{DraftView, draft_on, drafted, moved, past, draft_word, word_read}
use Rattle.z80_draft.specs.Outside.{Outside}
use Rattle.z80_moves.specs.Moves.{moves_of}
use Rattle.z80_moves.specs.Operands.{pointer_register, stack_register}
use Rattle.z80_moves.specs.declared.registers.WordRegister.{WordRegister}
use Rattle.z80_moves.specs.declared.registers.WordRegister.TheVariants as registers
use Rattle.z80_moves.specs.declared.moves.Move.{Move}
use Rattle.z80_moves.specs.declared.moves.Move.TheVariants as moves
use Rattle.board_step.specs.Context.{ContextView}
use Rattle.board_step.specs.Reads.{outside_of}
use Rattle.board_step.specs.Step.{instr_draft}
use Rattle.abs_state.specs.declared.state.AbsState.{AbsState}
use Rattle.abs_draft.specs.Ground.{GroundView}
use Rattle.abs_draft.specs.AfterMove.{after_move}
use Rattle.abs_draft.specs.Outcomes.{after_moves, before_test, behind_test, known_before, test_of}
use Rattle.abs_draft.specs.declared.draft.AbsDraft.{AbsDraft}
use Rattle.abs_laws.specs.Fits.{Fits, ReadsFit}
use Rattle.abs_laws.proofs.AccessFreeMoves.{access_free_fits}
use Rattle.abs_laws.proofs.StackMoves.{call_fits, exchange_fits, pop_fits, push_fits}
use Rattle.abs_step.specs.Successors.{is_empty, next_of, way_by, way_on, writes_of}
use Rattle.abs_step.specs.declared.next.Next.{Next}
use Rattle.abs_step.specs.declared.next.NextKind.TheVariants as kinds
use Rattle.abs_step.proofs.Asides.{End, Some_of, only_way, some_of, tested_leaves}
use Rattle.abs_step.proofs.KnownWrites.{move_writes, moves_writes, push_writes}
use Rattle.abs_step.proofs.TameMoves.{IsOne, exchange_pc, is_pc, pop_pc, push_pc}

-- ---- words

-- a list that is not empty ends in a word
pub record EndsIn (words : List ℕ) : Type 0 where
  pub rest : List ℕ
  pub word : ℕ
  pub is : words ≡ rest ++ word ∷ []

pub last_word : (word : ℕ) (words : List ℕ) → EndsIn (word ∷ words)
last_word w [] = record { rest = []; word = w; is = refl }
last_word w (v ∷ ws) = let e = last_word v ws in record { rest = w ∷ e.rest; word = e.word; is = ap (λ (xs : List ℕ). w ∷ xs) e.is }

-- the words of a shape that is not empty end in a word
pub ends_in : (shape : List Slot) (entry : Entry) (words : List ℕ) → is_empty shape ≡ false → HoldsShape shape entry words → EndsIn words
ends_in [] entry words e h = absurd (cc)
ends_in (slot ∷ slots) entry [] e h = absurd h
ends_in (slot ∷ slots) entry (w ∷ ws) e h = last_word w ws

-- a shape has as many slots as there are words
pub as_many : (shape : List Slot) (entry : Entry) (words : List ℕ) → HoldsShape shape entry words → length words ≡ length shape
as_many [] entry [] h = refl
as_many [] entry (w ∷ ws) h = absurd h
as_many (slot ∷ slots) entry [] h = absurd h
as_many (slot ∷ slots) entry (w ∷ ws) h = ap suc (as_many slots entry ws h.1)

pub no_words : (shape : List Slot) (entry : Entry) (words : List ℕ) → is_empty shape ≡ true → HoldsShape shape entry words → words ≡ []
no_words [] entry [] e h = refl
no_words [] entry (w ∷ ws) e h = absurd h
no_words (slot ∷ slots) entry words e h = absurd (cc)

not_pc : (qq : StackPair) → is_pc (stack_register qq) ≡ false
not_pc stack_pairs.Bc = refl
not_pc stack_pairs.De = refl
not_pc stack_pairs.Hl = refl
not_pc stack_pairs.Af = refl
not_pc stack_pairs.Ix = refl
not_pc stack_pairs.Iy = refl

pointer_not_pc : (p : Pointer) → is_pc (pointer_register p) ≡ false
pointer_not_pc pointers.Hl = refl
pointer_not_pc pointers.Ix = refl
pointer_not_pc pointers.Iy = refl

apart : (w : WordRegister) (P : Type 0) → is_pc w ≡ false → w ≡ registers.Pc → P
apart w P h e = let same : is_pc w ≡ true = ap is_pc e in absurd (cc)

-- ---- PUSH, POP and EX (SP)

module _ (g : GroundView) (c : ContextView) (a : AbsState) (main inline : Bool) (entry : Entry) (before : Valuation) (words : List ℕ) (address : ℕ) where
  abbrev begin : Instr → DraftView
  begin instr = draft_on (past (length (spelling instr)) c.state.regs)

  abbrev Ending : Instr → List ℕ → Type 0
  Ending instr after = End g c a instr main kinds.Jump entry before after (writes_of g address a (Ok instr)) (way_by g main inline instr kinds.Jump (test_of (moves_of instr)) (after_moves g inline (before_test (moves_of instr)) (known_before address instr a)))

  pub push_end : (qq : StackPair) → length a.shape < 64 → Fits g a (known_before address (instrs.Push qq) a) entry before (begin (instrs.Push qq)) words → Ending (instrs.Push qq) (words ++ draft_word (stack_register qq) (begin (instrs.Push qq)) ∷ [])
  unfolding drafted test_of before_test after_moves
  push_end qq room f =
      let w = stack_register qq in
      let k = known_before address (instrs.Push qq) a in
      record {
        known = after_move g inline (moves.Push w) k;
        fits = push_fits g a (outside_of c) k entry before (begin (instrs.Push qq)) inline words w (λ e. apart w _ (not_pc qq) e) refl room f;
        taken = false;
        takes = moves_keep_taken (outside_of c) (moves_of (instrs.Push qq)) (begin (instrs.Push qq)) refl;
        listed = (0, omega arith, refl);
        one = λ on. subst IsOne (sym (push_pc g inline w k)) refl;
        writes = ap (λ ws. ws.items) (move_writes g inline (moves.Push w) k refl ∙ sym (move_writes g true (moves.Push w) k refl));
      }

  pub pop_end : (qq : StackPair) (rest : List ℕ) (word : ℕ) → word < 65536 → word_read (outside_of c) false c.state.regs.sp ≡ word → Fits g a (known_before address (instrs.Pop qq) a) entry before (begin (instrs.Pop qq)) (rest ++ word ∷ []) → Ending (instrs.Pop qq) rest
  unfolding drafted test_of before_test after_moves
  pop_end qq rest word small found f =
      let w = stack_register qq in
      let k = known_before address (instrs.Pop qq) a in
      record {
        known = after_move g inline (moves.Pop w) k;
        fits = pop_fits g a (outside_of c) k entry before (begin (instrs.Pop qq)) inline rest word w small found f;
        taken = false;
        takes = moves_keep_taken (outside_of c) (moves_of (instrs.Pop qq)) (begin (instrs.Pop qq)) refl;
        listed = (0, omega arith, refl);
        one = λ on. subst IsOne (sym (pop_pc g inline w k (not_pc qq))) refl;
        writes = ap (λ ws. ws.items) (move_writes g inline (moves.Pop w) k refl ∙ sym (move_writes g true (moves.Pop w) k refl));
      }

  pub exchange_end : (p : Pointer) (rest : List ℕ) (word : ℕ) → word < 65536 → word_read (outside_of c) false c.state.regs.sp ≡ word → Fits g a (known_before address (instrs.ExchangeStack p) a) entry before (begin (instrs.ExchangeStack p)) (rest ++ word ∷ [])
      → Ending (instrs.ExchangeStack p) (rest ++ draft_word (pointer_register p) (begin (instrs.ExchangeStack p)) ∷ [])
  unfolding drafted test_of before_test after_moves
  exchange_end p rest word small found f =
      let w = pointer_register p in
      let k = known_before address (instrs.ExchangeStack p) a in
      record {
        known = after_move g inline (moves.ExchangeStack w) k;
        fits = exchange_fits g a (outside_of c) k entry before (begin (instrs.ExchangeStack p)) inline rest word w small found refl f;
        taken = false;
        takes = moves_keep_taken (outside_of c) (moves_of (instrs.ExchangeStack p)) (begin (instrs.ExchangeStack p)) refl;
        listed = (0, omega arith, refl);
        one = λ on. subst IsOne (sym (exchange_pc g inline w k (pointer_not_pc p))) refl;
        writes = ap (λ ws. ws.items) (move_writes g inline (moves.ExchangeStack w) k refl ∙ sym (move_writes g true (moves.ExchangeStack w) k refl));
      }

-- ---- calls

-- a call's two moves: it pushes its return address and sets the program counter to the callee
abbrev pub call_moves : ℕ → List Move
call_moves nn = moves.Push registers.Pc ∷ moves.SetWord registers.Pc nn ∷ []

still_few : (o : Outside) (d : DraftView) → length d.writes ≤ 2 → length (moved o (moves.Push registers.Pc) d).writes + 0 ≤ 2
unfolding moved
still_few o d h = omega (arith, h)

module _ (g : GroundView) (a : AbsState) (o : Outside) (k : AbsDraft) (entry : Entry) (before : Valuation) (d : DraftView) (stack : List ℕ) (nn : ℕ) (small : nn < 65536) (room : length d.writes ≤ 2) (reads : ReadsFit g o k.readable) (f : Fits g a k entry before d stack) where
  -- not inline: the words stay
  pub called_fits : Fits g a (after_moves g false (call_moves nn) k) entry before (drafted o (call_moves nn) d) stack
  unfolding after_moves after_move drafted moved
  called_fits = access_free_fits g a o false (after_move g false (moves.Push registers.Pc) k) entry before (moved o (moves.Push registers.Pc) d) stack reads (call_fits g a o k entry before d stack f) (moves.SetWord registers.Pc nn) refl small (omega (arith, room))

  -- Inline: the return address is a word of the activation
  pub inlined_fits : k.effect.slot ≡ None → length k.state.shape < 64 → Fits g a (after_moves g true (call_moves nn) k) entry before (drafted o (call_moves nn) d) (stack ++ d.regs.pc ∷ [])
  unfolding after_moves drafted
  inlined_fits none fits =
      let pushed = push_fits g a o k entry before d true stack registers.Pc (λ e. refl) none fits f in
      let same : k.readable ≡ (after_move g true (moves.Push registers.Pc) k).readable = f.readable ∙ sym pushed.readable in
      access_free_fits g a o true (after_move g true (moves.Push registers.Pc) k) entry before (moved o (moves.Push registers.Pc) d) (stack ++ d.regs.pc ∷ []) (subst (ReadsFit g o) same reads) pushed (moves.SetWord registers.Pc nn) refl small (still_few o d room)

-- where the outcome of a test is feasible
both : (o : Option AbsDraft) (P Q : AbsDraft → Type 0) → IsSomeAnd o (λ n. P n × Q n) → Some_of o (λ n. P n × Q n)
both o P Q h = some_of o _ h

-- the last slot has one word
slot_one : (shape other : List Slot) → other ≡ shape → is_single (last_slot shape).pair.word ≡ true → IsOne (last_slot other).pair.word
slot_one shape other e h = subst (λ (x : List Slot). IsOne (last_slot x).pair.word) (sym e) (eqb-true _ _ h)

module _ (g : GroundView) (c : ContextView) (a : AbsState) (main inline : Bool) (entry : Entry) (before : Valuation) (words : List ℕ) (address : ℕ) where
  abbrev first : Instr → DraftView
  first instr = draft_on (past (length (spelling instr)) c.state.regs)

  abbrev Known_of : Instr → AbsDraft
  Known_of instr = known_before address instr a

  abbrev Out : Instr → NextKind → List ℕ → Type 0
  Out instr kind after = End g c a instr main kind entry before after (writes_of g address a (Ok instr)) (way_by g main inline instr kind (test_of (moves_of instr)) (after_moves g inline (before_test (moves_of instr)) (known_before address instr a)))

  abbrev Begun : Instr → Type 0
  Begun instr = Fits g a (known_before address instr a) entry before (first instr) words

  abbrev Runs : Instr → Type 0
  Runs instr = MayRun g (outside_of c) (known_before address instr a) (first instr) (moves_of instr)

  -- ---- CALL and RST

  pub call_end : (nn : ℕ) (kind : NextKind) (after : List ℕ) → Fits g a (after_moves g inline (call_moves nn) (Known_of (instrs.Call nn))) entry before (drafted (outside_of c) (call_moves nn) (first (instrs.Call nn))) after → Out (instrs.Call nn) kind after
  unfolding test_of before_test after_moves after_move
  call_end nn kind after f =
      record { known = after_moves g inline (call_moves nn) (Known_of (instrs.Call nn)); fits = f; taken = false; takes = moves_keep_taken (outside_of c) (moves_of (instrs.Call nn)) (first (instrs.Call nn)) refl; listed = (0, omega arith, refl); one = λ on. refl; writes = ap (λ ws. ws.items) (push_writes g inline registers.Pc (Known_of (instrs.Call nn)) ∙ sym (push_writes g true registers.Pc (Known_of (instrs.Call nn)))) }

  pub restart_end : (p : RestartAddress) (kind : NextKind) (after : List ℕ) → Fits g a (after_moves g inline (call_moves (8 * restart p)) (Known_of (instrs.Restart p))) entry before (drafted (outside_of c) (call_moves (8 * restart p)) (first (instrs.Restart p))) after → Out (instrs.Restart p) kind after
  unfolding test_of before_test after_moves after_move
  restart_end p kind after f =
      record { known = after_moves g inline (call_moves (8 * restart p)) (Known_of (instrs.Restart p)); fits = f; taken = false; takes = moves_keep_taken (outside_of c) (moves_of (instrs.Restart p)) (first (instrs.Restart p)) refl; listed = (0, omega arith, refl); one = λ on. refl; writes = ap (λ ws. ws.items) (push_writes g inline registers.Pc (Known_of (instrs.Restart p)) ∙ sym (push_writes g true registers.Pc (Known_of (instrs.Restart p)))) }

  -- CALL cc, taken
  pub call_if_end : (condition : Condition) (nn : ℕ) (kind : NextKind) (after : List ℕ) → Runs (instrs.CallIf condition nn) → Begun (instrs.CallIf condition nn) → (instr_draft c (instrs.CallIf condition nn)).taken ≡ true
      → ((n : AbsDraft) → n.readable ≡ a.armed → KeepsEffectAndShape (Known_of (instrs.CallIf condition nn)) n → Fits g a n entry before (marked (tests.Flag condition) (first (instrs.CallIf condition nn))) words
      → Fits g a (after_moves g inline (call_moves nn) n) entry before (drafted (outside_of c) (call_moves nn) (marked (tests.Flag condition) (first (instrs.CallIf condition nn)))) after)
      → Out (instrs.CallIf condition nn) kind after
  unfolding test_of before_test behind_test after_moves after_move drafted
  call_if_end condition nn kind after run start out go =
      let instr = instrs.CallIf condition nn in
      let h = goes_held g a (outside_of c) inline (moves_of instr) (Known_of instr) entry before (first instr) words run start (tests.Flag condition) refl refl out in
      let n = some_of _ _ h.0 in
      let rest = tested_leaves (tests.Flag condition) true (Known_of instr) n.known n.is in
      let held_way : AbsDraft → Next = λ taken. next_of main instr true kind (after_moves g inline (call_moves nn) taken) in
      record {
        known = after_moves g inline (call_moves nn) n.known;
        fits = subst (λ (x : DraftView). Fits g a (after_moves g inline (call_moves nn) n.known) entry before x after) (sym h.1) (go n.known n.holds.0.readable n.holds.1 n.holds.0);
        taken = true;
        takes = out;
        listed = subst (λ (o : Option AbsDraft). Contains (way_on o held_way) (next_of main instr true kind (after_moves g inline (call_moves nn) n.known))) (sym n.is) (only_way n.known held_way);
        one = λ on. refl;
        writes = ap (λ ws. ws.items) (moves_writes g inline (call_moves nn) n.known refl ∙ rest.writes);
      }

  -- ---- returns

  pub return_end : (kind : NextKind) (after : List ℕ) → Fits g a (after_move g inline (moves.Pop registers.Pc) (Known_of instrs.Return)) entry before (instr_draft c instrs.Return) after → ((kind ≢ kinds.Exit) → IsOne (last_slot a.shape).pair.word) → Out instrs.Return kind after
  unfolding test_of before_test after_moves after_move
  return_end kind after f one =
      record { known = after_move g inline (moves.Pop registers.Pc) (Known_of instrs.Return); fits = f; taken = false; takes = moves_keep_taken (outside_of c) (moves_of instrs.Return) (first instrs.Return) refl; listed = (0, omega arith, refl); one = one; writes = refl }

  pub from_interrupt_end : (kind : NextKind) (after : List ℕ) → Fits g a (after_move g inline (moves.Pop registers.Pc) (Known_of instrs.ReturnFromInterrupt)) entry before (instr_draft c instrs.ReturnFromInterrupt) after → ((kind ≢ kinds.Exit) → IsOne (last_slot a.shape).pair.word) → Out instrs.ReturnFromInterrupt kind after
  unfolding test_of before_test after_moves after_move
  from_interrupt_end kind after f one =
      record { known = after_move g inline (moves.Pop registers.Pc) (Known_of instrs.ReturnFromInterrupt); fits = f; taken = false; takes = moves_keep_taken (outside_of c) (moves_of instrs.ReturnFromInterrupt) (first instrs.ReturnFromInterrupt) refl; listed = (0, omega arith, refl); one = one; writes = refl }

  pub from_non_maskable_end : (kind : NextKind) (after : List ℕ) → Fits g a (after_move g inline (moves.Pop registers.Pc) (Known_of instrs.ReturnFromNonMaskable)) entry before (instr_draft c instrs.ReturnFromNonMaskable) after → ((kind ≢ kinds.Exit) → IsOne (last_slot a.shape).pair.word) → Out instrs.ReturnFromNonMaskable kind after
  unfolding test_of before_test after_moves after_move
  from_non_maskable_end kind after f one =
      record { known = after_move g inline (moves.Pop registers.Pc) (Known_of instrs.ReturnFromNonMaskable); fits = f; taken = false; takes = moves_keep_taken (outside_of c) (moves_of instrs.ReturnFromNonMaskable) (first instrs.ReturnFromNonMaskable) refl; listed = (0, omega arith, refl); one = one; writes = refl }

  -- RET cc, taken
  pub return_if_end : (condition : Condition) (kind : NextKind) (after : List ℕ) → Runs (instrs.ReturnIf condition) → Begun (instrs.ReturnIf condition) → (instr_draft c (instrs.ReturnIf condition)).taken ≡ true
      → ((n : AbsDraft) → Fits g a n entry before (marked (tests.Flag condition) (first (instrs.ReturnIf condition))) words
      → Fits g a (after_move g inline (moves.Pop registers.Pc) n) entry before (drafted (outside_of c) (moves.Pop registers.Pc ∷ []) (marked (tests.Flag condition) (first (instrs.ReturnIf condition)))) after)
      → ((kind ≢ kinds.Exit) → is_single (last_slot a.shape).pair.word ≡ true)
      → Out (instrs.ReturnIf condition) kind after
  unfolding test_of before_test behind_test after_moves after_move drafted
  return_if_end condition kind after run start out go single =
      let instr = instrs.ReturnIf condition in
      let h = goes_held g a (outside_of c) inline (moves_of instr) (Known_of instr) entry before (first instr) words run start (tests.Flag condition) refl refl out in
      let n = some_of _ _ h.0 in
      let rest = tested_leaves (tests.Flag condition) true (Known_of instr) n.known n.is in
      let held_way : AbsDraft → Next = λ taken. next_of main instr true kind (after_move g inline (moves.Pop registers.Pc) taken) in
      record {
        known = after_move g inline (moves.Pop registers.Pc) n.known;
        fits = subst (λ (x : DraftView). Fits g a (after_move g inline (moves.Pop registers.Pc) n.known) entry before x after) (sym h.1) (go n.known n.holds.0);
        taken = true;
        takes = out;
        listed = subst (λ (o : Option AbsDraft). Contains (way_on o held_way) (next_of main instr true kind (after_move g inline (moves.Pop registers.Pc) n.known))) (sym n.is) (only_way n.known held_way);
        one = λ on. slot_one a.shape n.known.state.shape n.holds.1.1 (single on);
        writes = ap (λ ws. ws.items) (move_writes g inline (moves.Pop registers.Pc) n.known refl ∙ rest.writes);
      }
