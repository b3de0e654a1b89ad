-- What each instruction, and the acceptance of an NMI, leaves on the stack.
use Rattle.std.proofs.Common.{◌≡◌, ◌+◌, ◌*◌, ℕ, Bool, true, false, not, List, [], ◌∷◌, length, None, refl, sym, ap, subst, ◌∙◌, arith}
use Rattle.std.proofs.Math.Bool.{cond}
use Rattle.address_map.specs.AddressMap.{MapView}
use Rattle.address_map.specs.declared.region.Region.{Region}
use Rattle.z80_alu.specs.declared.regs.Regs.{Regs}
use Rattle.z80_decode.specs.Kinds.{restart}
use Rattle.z80_decode.specs.Spelling.{spelling}
use Rattle.z80_decode.specs.declared.instr.Instr.{Instr}
use Rattle.z80_decode.specs.declared.instr.Instr.TheVariants as instrs
use Rattle.z80_decode.specs.declared.kinds.Condition.{Condition}
use Rattle.z80_decode.specs.declared.kinds.RestartAddress.{RestartAddress}
use Rattle.z80_decode.specs.declared.operands.Pointer.{Pointer}
use Rattle.z80_decode.specs.declared.operands.Pointer.TheVariants as pointers
use Rattle.z80_decode.specs.declared.operands.StackPair.{StackPair}
use Rattle.z80_decode.specs.declared.operands.StackPair.TheVariants as pairs
use Rattle.z80_decode.specs.declared.operands.Register16.TheVariants.{Sp}
use Rattle.z80_draft.proofs.DraftLemmas.{word_keeps}
use Rattle.z80_draft.specs.Draft.{DraftView, draft_on, drafted, moved, past, draft_word}
use Rattle.z80_moves.specs.Moves.{moves_of}
use Rattle.z80_moves.specs.Operands.{pointer_register, stack_register}
use Rattle.z80_moves.specs.declared.moves.Move.TheVariants.{OnlyIf, Pop, Push, SetWord}
use Rattle.z80_moves.specs.declared.moves.Test.TheVariants.{Flag}
use Rattle.z80_moves.specs.declared.registers.WordRegister.{WordRegister}
use Rattle.z80_moves.specs.declared.registers.WordRegister.TheVariants.{Pc}
use Rattle.board_step.specs.Context.{ContextView}
use Rattle.board_step.specs.Memory.{stored_all, stacked_all}
use Rattle.board_step.specs.Reads.{outside_of}
use Rattle.board_step.specs.State.{BoardView}
use Rattle.board_step.specs.Step.{accepted, committed, done, instr_draft, nmi_draft}
use Rattle.board_step.specs.Trap.{trap_of_draft, trap_of_instr}
use Rattle.board_laws.specs.Board.{HasWords, IsDoneWith, LeavesWords}
use Rattle.board_laws.specs.Stackless.{are_stackless, is_sp}
use Rattle.board_laws.specs.Region.{AllTaken, HasRoom, IsStackRegion, Misses, used}
use Rattle.board_laws.specs.Uses.{is_aside, is_pop, is_push, popped_into, pushed_word}
use Rattle.board_laws.specs.Words.{Lays}
use Rattle.board_laws.proofs.StacklessMoves.{moves_are_stackless}
use Rattle.board_laws.proofs.Traps.{no_trap}
use Rattle.board_laws.proofs.WordLaws.{lays-kept}
use Rattle.board_laws.proofs.EachMove.{aside_leaves, begun, exchange_gives, exchange_leaves, leaves_alike, left, pop_gives, pop_leaves, push_leaves}

-- ---- traps

-- a draft without data writes that leaves words
record Quiet (map : MapView) (region : Region) (draft : DraftView) (s : BoardView) (words : List ℕ) : Type 0 where
  leaves : LeavesWords map region draft s words
  writes : draft.writes ≡ []

free_of_traps : (map : MapView) (region : Region) (draft : DraftView) (s : BoardView) (words : List ℕ) → Quiet map region draft s words → trap_of_draft map region draft ≡ None
free_of_traps map region draft s words q =
    no_trap map region draft (subst (AllTaken map) (sym q.writes) (λ i d h. absurd (omega arith))) q.leaves.inside

alike : (map : MapView) (region : Region) (old new : DraftView) (s : BoardView) (words : List ℕ) → new.stack ≡ old.stack → new.writes ≡ old.writes → new.regs.sp ≡ old.regs.sp
    → Quiet map region old s words → Quiet map region new s words
alike map region old new s words stack writes sp q = record { leaves = leaves_alike map region old new s words stack writes sp q.leaves; writes = writes ∙ q.writes }

-- the registers before an instruction, with PC after it, and its test decided
start : ContextView → Instr → Bool → DraftView
start c instr taken = record (draft_on (past (length (spelling instr)) c.state.regs)) { taken = taken }

starts : (c : ContextView) (region : Region) (instr : Instr) (taken : Bool) (words : List ℕ) → HasWords c.hardware.map region c.state words → LeavesWords c.hardware.map region (start c instr taken) c.state words
unfolding start
starts c region instr taken words h = begun c.hardware.map region (start c instr taken) c.state words refl refl refl h

-- ---- tests

test_held : (b : Bool) (x y : DraftView) → y.taken ≡ b → (cond b x y).taken ≡ true → b ≡ true
test_held true x y e h = refl
test_held false x y e h = sym e ∙ h

test_failed : (b : Bool) (x y : DraftView) → x.taken ≡ b → (cond b x y).taken ≡ false → b ≡ false
test_failed true x y e h = sym e ∙ h
test_failed false x y e h = refl

never : (P : Type 0) → (let b : Bool = false in b) ≡ true → P
never P e = absurd (cc)

-- ---- pushes

pushes : (c : ContextView) (region : Region) (instr : Instr) (taken : Bool) (words : List ℕ) (w : WordRegister) → HasWords c.hardware.map region c.state words → HasRoom region (1 + length words)
    → Quiet c.hardware.map region (moved (outside_of c) (Push w) (start c instr taken)) c.state (draft_word w (start c instr taken) ∷ words)
unfolding moved start
pushes c region instr taken words w h room = record {
  leaves = push_leaves c.hardware.map region (outside_of c) w (start c instr taken) c.state words room (starts c region instr taken words h);
  writes = refl;
}

-- a call: its return address, and the jump
calls : (c : ContextView) (region : Region) (instr : Instr) (taken : Bool) (words : List ℕ) (nn : ℕ) → HasWords c.hardware.map region c.state words → HasRoom region (1 + length words)
    → Quiet c.hardware.map region (drafted (outside_of c) (Push Pc ∷ SetWord Pc nn ∷ []) (start c instr taken)) c.state ((past (length (spelling instr)) c.state.regs).pc ∷ words)
unfolding drafted moved start
calls c region instr taken words nn h room =
    alike c.hardware.map region (moved (outside_of c) (Push Pc) (start c instr taken)) _ c.state _ refl refl refl (pushes c region instr taken words Pc h room)

pushed_pair : (qq : StackPair) (len : ℕ) (regs : Regs) → draft_word (stack_register qq) (draft_on (past len regs)) ≡ draft_word (stack_register qq) (draft_on regs)
pushed_pair pairs.Bc len regs = refl
pushed_pair pairs.De len regs = refl
pushed_pair pairs.Hl len regs = refl
pushed_pair pairs.Af len regs = refl
pushed_pair pairs.Ix len regs = refl
pushed_pair pairs.Iy len regs = refl

push_pair : (c : ContextView) (region : Region) (qq : StackPair) (words : List ℕ) → HasWords c.hardware.map region c.state words → HasRoom region (1 + length words)
    → Quiet c.hardware.map region (instr_draft c (instrs.Push qq)) c.state (pushed_word c.state.regs (instrs.Push qq) ∷ words)
unfolding drafted start
push_pair c region qq words h room =
    subst (λ (word : ℕ). Quiet c.hardware.map region (instr_draft c (instrs.Push qq)) c.state (word ∷ words)) (pushed_pair qq (length (spelling (instrs.Push qq))) c.state.regs)
    (pushes c region (instrs.Push qq) false words (stack_register qq) h room)

call : (c : ContextView) (region : Region) (nn : ℕ) (words : List ℕ) → HasWords c.hardware.map region c.state words → HasRoom region (1 + length words)
    → Quiet c.hardware.map region (instr_draft c (instrs.Call nn)) c.state (pushed_word c.state.regs (instrs.Call nn) ∷ words)
unfolding start
call c region nn words h room = calls c region (instrs.Call nn) false words nn h room

restart_call : (c : ContextView) (region : Region) (p : RestartAddress) (words : List ℕ) → HasWords c.hardware.map region c.state words → HasRoom region (1 + length words)
    → Quiet c.hardware.map region (instr_draft c (instrs.Restart p)) c.state (pushed_word c.state.regs (instrs.Restart p) ∷ words)
unfolding start
restart_call c region p words h room = calls c region (instrs.Restart p) false words (8 * restart p) h room

-- CALL cc and RET cc are taken if the test held
call_if_held : (c : ContextView) (cc : Condition) (nn : ℕ) → (instr_draft c (instrs.CallIf cc nn)).taken ≡ true
    → instr_draft c (instrs.CallIf cc nn) ≡ drafted (outside_of c) (Push Pc ∷ SetWord Pc nn ∷ []) (start c (instrs.CallIf cc nn) true)
unfolding drafted moved start
call_if_held c cc' nn h =
    let o = outside_of c in
    let e = moved o (OnlyIf (Flag cc')) (draft_on (past (length (spelling (instrs.CallIf cc' nn))) c.state.regs)) in
    let held : e.taken ≡ true = test_held e.taken (drafted o (Push Pc ∷ SetWord Pc nn ∷ []) e) e refl h in
    ap (λ (b : Bool). cond b (drafted o (Push Pc ∷ SetWord Pc nn ∷ []) e) e) held
    ∙ ap (λ (b : Bool). drafted o (Push Pc ∷ SetWord Pc nn ∷ []) (record e { taken = b })) held

call_if : (c : ContextView) (region : Region) (cc : Condition) (nn : ℕ) (words : List ℕ) → HasWords c.hardware.map region c.state words → HasRoom region (1 + length words)
    → (instr_draft c (instrs.CallIf cc nn)).taken ≡ true → Quiet c.hardware.map region (instr_draft c (instrs.CallIf cc nn)) c.state (pushed_word c.state.regs (instrs.CallIf cc nn) ∷ words)
call_if c region cc' nn words h room taken =
    subst (λ (d : DraftView). Quiet c.hardware.map region d c.state (pushed_word c.state.regs (instrs.CallIf cc' nn) ∷ words)) (sym (call_if_held c cc' nn taken))
    (calls c region (instrs.CallIf cc' nn) true words nn h room)

done_with : (c : ContextView) (region : Region) (instr : Instr) (words : List ℕ) → trap_of_instr region c instr ≡ trap_of_draft c.hardware.map region (instr_draft c instr)
    → Quiet c.hardware.map region (instr_draft c instr) c.state words → IsDoneWith c region instr words
done_with c region instr words no_io q = record {
  trap = no_io ∙ free_of_traps c.hardware.map region (instr_draft c instr) c.state words q;
  has = left c.hardware.map region (instr_draft c instr) c.state words q.leaves;
}

pub push_done : (c : ContextView) (region : Region) (instr : Instr) (words : List ℕ) → HasWords c.hardware.map region c.state words → HasRoom region (1 + length words)
    → is_push instr (instr_draft c instr).taken ≡ true → IsDoneWith c region instr (pushed_word c.state.regs instr ∷ words)
push_done c region (instrs.Push qq) words h room is = done_with c region (instrs.Push qq) _ refl (push_pair c region qq words h room)
push_done c region (instrs.Call nn) words h room is = done_with c region (instrs.Call nn) _ refl (call c region nn words h room)
push_done c region (instrs.CallIf cc' nn) words h room is = done_with c region (instrs.CallIf cc' nn) _ refl (call_if c region cc' nn words h room is)
push_done c region (instrs.Restart p) words h room is = done_with c region (instrs.Restart p) _ refl (restart_call c region p words h room)
push_done c region _ words h room is = never _ is

-- ---- pops

-- a word is popped into the register
record Popped (c : ContextView) (region : Region) (draft : DraftView) (w : WordRegister) (word : ℕ) (words : List ℕ) : Type 0 where
  quiet : Quiet c.hardware.map region draft c.state words
  gives : draft_word w draft ≡ word

pops : (c : ContextView) (region : Region) (instr : Instr) (taken : Bool) (word : ℕ) (words : List ℕ) (w : WordRegister) → is_sp w ≡ false → HasWords c.hardware.map region c.state (word ∷ words)
    → Popped c region (moved (outside_of c) (Pop w) (start c instr taken)) w word words
unfolding moved start
pops c region instr taken word words w other h = record {
  quiet = record {
    leaves = pop_leaves c.hardware.map region (outside_of c) w (start c instr taken) c.state word words other (starts c region instr taken (word ∷ words) h);
    writes = (word_keeps w _ _).writes;
  };
  gives = pop_gives c region w (start c instr taken) word words h.is_region (omega (arith, h.room)) h.laid;
}

stack_pair_other : (qq : StackPair) → is_sp (stack_register qq) ≡ false
stack_pair_other pairs.Bc = refl
stack_pair_other pairs.De = refl
stack_pair_other pairs.Hl = refl
stack_pair_other pairs.Af = refl
stack_pair_other pairs.Ix = refl
stack_pair_other pairs.Iy = refl

pop_pair : (c : ContextView) (region : Region) (qq : StackPair) (word : ℕ) (words : List ℕ) → HasWords c.hardware.map region c.state (word ∷ words)
    → Popped c region (instr_draft c (instrs.Pop qq)) (stack_register qq) word words
unfolding drafted start
pop_pair c region qq word words h = pops c region (instrs.Pop qq) false word words (stack_register qq) (stack_pair_other qq) h

return : (c : ContextView) (region : Region) (word : ℕ) (words : List ℕ) → HasWords c.hardware.map region c.state (word ∷ words) → Popped c region (instr_draft c instrs.Return) Pc word words
unfolding drafted start
return c region word words h = pops c region instrs.Return false word words Pc refl h

return_from_interrupt : (c : ContextView) (region : Region) (word : ℕ) (words : List ℕ) → HasWords c.hardware.map region c.state (word ∷ words)
    → Popped c region (instr_draft c instrs.ReturnFromInterrupt) Pc word words
unfolding drafted start
return_from_interrupt c region word words h = pops c region instrs.ReturnFromInterrupt false word words Pc refl h

return_from_non_maskable : (c : ContextView) (region : Region) (word : ℕ) (words : List ℕ) → HasWords c.hardware.map region c.state (word ∷ words)
    → Popped c region (instr_draft c instrs.ReturnFromNonMaskable) Pc word words
unfolding drafted moved start
return_from_non_maskable c region word words h =
    let p = pops c region instrs.ReturnFromNonMaskable false word words Pc refl h in
    record {
      quiet = alike c.hardware.map region (moved (outside_of c) (Pop Pc) (start c instrs.ReturnFromNonMaskable false)) _ c.state words refl refl refl p.quiet;
      gives = p.gives;
    }

return_if_held : (c : ContextView) (cc : Condition) → (instr_draft c (instrs.ReturnIf cc)).taken ≡ true
    → instr_draft c (instrs.ReturnIf cc) ≡ moved (outside_of c) (Pop Pc) (start c (instrs.ReturnIf cc) true)
unfolding drafted moved start
return_if_held c cc' h =
    let o = outside_of c in
    let e = moved o (OnlyIf (Flag cc')) (draft_on (past (length (spelling (instrs.ReturnIf cc'))) c.state.regs)) in
    let held : e.taken ≡ true = test_held e.taken (moved o (Pop Pc) e) e refl h in
    ap (λ (b : Bool). cond b (moved o (Pop Pc) e) e) held ∙ ap (λ (b : Bool). moved o (Pop Pc) (record e { taken = b })) held

return_if : (c : ContextView) (region : Region) (cc : Condition) (word : ℕ) (words : List ℕ) → HasWords c.hardware.map region c.state (word ∷ words)
    → (instr_draft c (instrs.ReturnIf cc)).taken ≡ true → Popped c region (instr_draft c (instrs.ReturnIf cc)) Pc word words
return_if c region cc' word words h taken =
    subst (λ (d : DraftView). Popped c region d Pc word words) (sym (return_if_held c cc' taken)) (pops c region (instrs.ReturnIf cc') true word words Pc refl h)

popped_with : (c : ContextView) (region : Region) (instr : Instr) (word : ℕ) (words : List ℕ) → trap_of_instr region c instr ≡ trap_of_draft c.hardware.map region (instr_draft c instr)
    → Popped c region (instr_draft c instr) (popped_into instr) word words → IsDoneWith c region instr words × (draft_word (popped_into instr) (instr_draft c instr) ≡ word)
popped_with c region instr word words no_io p = (done_with c region instr words no_io p.quiet, p.gives)

pub pop_done : (c : ContextView) (region : Region) (instr : Instr) (word : ℕ) (words : List ℕ) → HasWords c.hardware.map region c.state (word ∷ words) → is_pop instr (instr_draft c instr).taken ≡ true
    → IsDoneWith c region instr words × (draft_word (popped_into instr) (instr_draft c instr) ≡ word)
pop_done c region (instrs.Pop qq) word words h is = popped_with c region (instrs.Pop qq) word words refl (pop_pair c region qq word words h)
pop_done c region instrs.Return word words h is = popped_with c region instrs.Return word words refl (return c region word words h)
pop_done c region (instrs.ReturnIf cc') word words h is = popped_with c region (instrs.ReturnIf cc') word words refl (return_if c region cc' word words h is)
pop_done c region instrs.ReturnFromInterrupt word words h is = popped_with c region instrs.ReturnFromInterrupt word words refl (return_from_interrupt c region word words h)
pop_done c region instrs.ReturnFromNonMaskable word words h is = popped_with c region instrs.ReturnFromNonMaskable word words refl (return_from_non_maskable c region word words h)
pop_done c region _ word words h is = never _ is

-- ---- EX (SP)

pointer_other : (p : Pointer) → is_sp (pointer_register p) ≡ false
pointer_other pointers.Hl = refl
pointer_other pointers.Ix = refl
pointer_other pointers.Iy = refl

pointed : (p : Pointer) (len : ℕ) (regs : Regs) → draft_word (pointer_register p) (draft_on (past len regs)) ≡ draft_word (pointer_register p) (draft_on regs)
pointed pointers.Hl len regs = refl
pointed pointers.Ix len regs = refl
pointed pointers.Iy len regs = refl

exchange_quiet : (c : ContextView) (region : Region) (p : Pointer) (word : ℕ) (words : List ℕ) → HasWords c.hardware.map region c.state (word ∷ words)
    → Quiet c.hardware.map region (instr_draft c (instrs.ExchangeStack p)) c.state (draft_word (pointer_register p) (draft_on c.state.regs) ∷ words)
unfolding drafted moved start
exchange_quiet c region p word words h =
    let e = start c (instrs.ExchangeStack p) false in
    subst (λ (n : ℕ). Quiet c.hardware.map region (instr_draft c (instrs.ExchangeStack p)) c.state (n ∷ words)) (pointed p (length (spelling (instrs.ExchangeStack p))) c.state.regs)
    (record {
      leaves = exchange_leaves c.hardware.map region (outside_of c) (pointer_register p) e c.state word words (pointer_other p) (starts c region (instrs.ExchangeStack p) false (word ∷ words) h);
      writes = (word_keeps (pointer_register p) _ _).writes;
    })

exchange_takes : (c : ContextView) (region : Region) (p : Pointer) (word : ℕ) (words : List ℕ) → HasWords c.hardware.map region c.state (word ∷ words)
    → draft_word (pointer_register p) (instr_draft c (instrs.ExchangeStack p)) ≡ word
unfolding drafted start
exchange_takes c region p word words h =
    exchange_gives c region (pointer_register p) (start c (instrs.ExchangeStack p) false) word words h.is_region (omega (arith, h.room)) h.laid

pub exchange_done : (c : ContextView) (region : Region) (p : Pointer) (word : ℕ) (words : List ℕ) → HasWords c.hardware.map region c.state (word ∷ words)
    → IsDoneWith c region (instrs.ExchangeStack p) (draft_word (pointer_register p) (draft_on c.state.regs) ∷ words) × (draft_word (pointer_register p) (instr_draft c (instrs.ExchangeStack p)) ≡ word)
exchange_done c region p word words h =
    (done_with c region (instrs.ExchangeStack p) _ refl (exchange_quiet c region p word words h), exchange_takes c region p word words h)

-- ---- the acceptance of an NMI

acceptance_quiet : (c : ContextView) (region : Region) (words : List ℕ) → HasWords c.hardware.map region c.state words → HasRoom region (1 + length words)
    → Quiet c.hardware.map region (nmi_draft c) c.state (c.state.regs.pc ∷ words)
unfolding drafted moved
acceptance_quiet c region words h room =
    let e = draft_on c.state.regs in
    alike c.hardware.map region (moved (outside_of c) (Push Pc) e) (nmi_draft c) c.state (c.state.regs.pc ∷ words) refl refl refl
    (record { leaves = push_leaves c.hardware.map region (outside_of c) Pc e c.state words room (begun c.hardware.map region e c.state words refl refl refl h); writes = refl })

pub acceptance_done : (c : ContextView) (region : Region) (words : List ℕ) → HasWords c.hardware.map region c.state words → HasRoom region (1 + length words)
    → (trap_of_draft c.hardware.map region (nmi_draft c) ≡ None) × HasWords c.hardware.map region (accepted c) (c.state.regs.pc ∷ words)
acceptance_done c region words h room =
    let q = acceptance_quiet c region words h room in
    let new = left c.hardware.map region (nmi_draft c) c.state (c.state.regs.pc ∷ words) q.leaves in (
      free_of_traps c.hardware.map region (nmi_draft c) c.state (c.state.regs.pc ∷ words) q,
      record {
        is_region = new.is_region;
        work = new.work;
        room = new.room;
        laid = lays-kept (committed c.hardware.map (nmi_draft c) c.state) (accepted c) _ region.top (c.state.regs.pc ∷ words) (λ x a b. refl) new.laid;
      },
    )

-- ---- instructions that leave the stack alone

-- a draft that makes no stack access and keeps SP
record Aside (c : ContextView) (draft : DraftView) : Type 0 where
  stack : draft.stack ≡ []
  sp : draft.regs.sp ≡ c.state.regs.sp

stackless_aside : (c : ContextView) (instr : Instr) → are_stackless (moves_of instr) ≡ true → Aside c (instr_draft c instr)
stackless_aside c instr stackless =
    let k = moves_are_stackless (outside_of c) (moves_of instr) (draft_on (past (length (spelling instr)) c.state.regs)) stackless in
    record { stack = k.stack; sp = k.sp }

call_if_aside : (c : ContextView) (cc : Condition) (nn : ℕ) → (instr_draft c (instrs.CallIf cc nn)).taken ≡ false → Aside c (instr_draft c (instrs.CallIf cc nn))
unfolding drafted moved
call_if_aside c cc' nn h =
    let o = outside_of c in
    let e = moved o (OnlyIf (Flag cc')) (draft_on (past (length (spelling (instrs.CallIf cc' nn))) c.state.regs)) in
    let failed : e.taken ≡ false = test_failed e.taken (drafted o (Push Pc ∷ SetWord Pc nn ∷ []) e) e refl h in
    subst (Aside c) (ap (λ (b : Bool). cond b (drafted o (Push Pc ∷ SetWord Pc nn ∷ []) e) e) (sym failed)) (record { stack = refl; sp = refl })

return_if_aside : (c : ContextView) (cc : Condition) → (instr_draft c (instrs.ReturnIf cc)).taken ≡ false → Aside c (instr_draft c (instrs.ReturnIf cc))
unfolding drafted moved
return_if_aside c cc' h =
    let o = outside_of c in
    let e = moved o (OnlyIf (Flag cc')) (draft_on (past (length (spelling (instrs.ReturnIf cc'))) c.state.regs)) in
    let failed : e.taken ≡ false = test_failed e.taken (moved o (Pop Pc) e) e refl h in
    subst (Aside c) (ap (λ (b : Bool). cond b (moved o (Pop Pc) e) e) (sym failed)) (record { stack = refl; sp = refl })

not_taken : (b : Bool) → not b ≡ true → b ≡ false
not_taken false h = refl
not_taken true h = never _ h

is_left_aside : (c : ContextView) (instr : Instr) → is_aside instr (instr_draft c instr).taken ≡ true → Aside c (instr_draft c instr)
is_left_aside c (instrs.CallIf cc' nn) h = call_if_aside c cc' nn (not_taken _ h)
is_left_aside c (instrs.ReturnIf cc') h = return_if_aside c cc' (not_taken _ h)
is_left_aside c instr h = stackless_aside c instr h

pub aside_done : (c : ContextView) (region : Region) (instr : Instr) (words : List ℕ) → HasWords c.hardware.map region c.state words → Misses c.hardware.map (used region c.state) (instr_draft c instr).writes
    → is_aside instr (instr_draft c instr).taken ≡ true → ((instr_draft c instr).stack ≡ []) × HasWords c.hardware.map region (done c instr) words
aside_done c region instr words h misses aside =
    let a = is_left_aside c instr aside in
    (a.stack, left c.hardware.map region (instr_draft c instr) c.state words (aside_leaves c.hardware.map region (instr_draft c instr) c.state words a.stack a.sp misses h))

-- ---- LD SP,nn

pub load_sp_done : (c : ContextView) (region : Region) → IsStackRegion c.hardware.map region → length c.state.work ≡ 0x400 → HasWords c.hardware.map region (done c (instrs.LoadPair Sp region.top)) []
unfolding committed drafted moved stored_all stacked_all Lays
load_sp_done c region r size = record { is_region = r; work = size; room = omega arith; laid = refl }
