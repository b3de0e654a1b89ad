-- The instruction at a row does what `After` says.
use Rattle.std.proofs.Common.{◌≡◌, ◌≢◌, ◌≤◌, ◌<◌, ◌+◌, ◌++◌, ◌∙◌, ℕ, Bool, true, false, cond, List, [], length, Option, Some, None, Ok, refl, sym, ap, subst, inl, inr}
use Rattle.std.specs.Prelude.{◌&&◌}
use Rattle.std.specs.List.{All, AllZip, Contains}
use Rattle.std.proofs.lemmas.List.Elements.{All-contains, All-contains_itself, Contains-append_left, Contains-append_right}
use Rattle.std.proofs.lemmas.Bool.{cases_Bool}
use Rattle.z80_decode.specs.Spelling.{spelling}
use Rattle.z80_decode.specs.declared.instr.Instr.{Instr}
use Rattle.z80_decode.specs.declared.instr.Instr.TheVariants as instrs
use Rattle.z80_decode.specs.declared.operands.Pointer.TheVariants as pointers
use Rattle.z80_decode.specs.declared.operands.StackPair.TheVariants as stack_pairs
use Rattle.z80_decode.specs.declared.operands.Special.TheVariants as specials
use Rattle.z80_draft.specs.Draft.{DraftView, draft_on, drafted, moved, past, test_holds}
use Rattle.z80_draft.specs.declared.access.Write.{Write}
use Rattle.z80_moves.specs.Moves.{moves_of}
use Rattle.z80_moves.specs.declared.moves.Test.TheVariants as tests
use Rattle.address_map.specs.declared.region.Region.{Region}
use Rattle.board_step.specs.Context.{ContextView, context_of}
use Rattle.board_fetch.specs.Decoded.{StandsAt}
use Rattle.board_step.specs.Hardware.{Hardware, hardware_of}
use Rattle.board_step.specs.State.{BoardView}
use Rattle.board_step.specs.Step.{instr_draft}
use Rattle.board_step.specs.declared.env.Env.{Env}
use Rattle.board_laws.specs.Region.{HasRoom}
use Rattle.board_laws.specs.Uses.{sets_sp}
use Rattle.abs_state.specs.Pairs.{HoldsPairs}
use Rattle.z80_alu.specs.declared.regs.Regs.{Regs}
use Rattle.z80_draft.specs.Registers.{IsRegs}
use Rattle.board_laws.proofs.Brought.{reaches}
use Rattle.abs_state.specs.Mode.{is_unset}
use Rattle.abs_state.specs.declared.cell.KeptCell.{KeptCell}
use Rattle.abs_state.specs.declared.state.AbsState.{AbsState}
use Rattle.intervals.specs.Range.{Within}
use Rattle.abs_draft.specs.Ground.{GroundView}
use Rattle.abs_draft.specs.Outcomes.{before_test, known_before}
use Rattle.abs_draft.specs.declared.data_write.DataWrite.{DataWrite}
use Rattle.abs_laws.specs.Fits.{WriteLiesIn}
use Rattle.abs_step.specs.Contained.{After, Before, IsInOrder, Keeps, KeepsByOutcome, OperandAsKnown, Running, WritesAsKnown}
use Rattle.abs_step.specs.Successors.{answer_by, answer_of, has_no_shape, jumps_anywhere, nexts_by, nexts_of, operand_of, refusal, uses_stack, writes_of}
use Rattle.abs_step.specs.declared.next.Next.{Next}
use Rattle.abs_step.specs.declared.next.NextKind.TheVariants as kinds
use Rattle.abs_step.specs.declared.reason.Reason.{Reason}
use Rattle.t_states.specs.Io.{is_io}
use Rattle.abs_step.proofs.Here.{here}
use Rattle.abs_step.proofs.KeepsAside.{aside_end, aside_goes, known_zip}
use Rattle.abs_step.proofs.KeepsEach.{call_goes, call_if_goes, call_if_not_taken, from_interrupt_is, from_non_maskable_is, inline_call_goes, inline_call_if_goes, inline_restart_goes, restart_goes, return_if_is, return_if_not_taken, return_is, returns_goes}
use Rattle.abs_step.proofs.KeepsStack.{exchange_goes, load_sp_goes, pop_goes, push_goes}
use Rattle.abs_step.proofs.KnownWrites.{moves_writes}
use Rattle.abs_step.proofs.Operands.{draft_is_small, operand_lies}
use Rattle.abs_step.proofs.Scenes.{Done, Scene, Stage, is_clear, is_safe, tame_rest}
use Rattle.abs_step.proofs.TameInstructions.{is_apart, tame_instr}
use Rattle.abs_step.proofs.WritesAlike.{no_writes}

missing : (P : Type 0) → (let b : Bool = false in b) ≡ true → P
missing P e = absurd (cc)

module _ (g : GroundView) (address : ℕ) (main : Bool) (a : AbsState) (region : Region) (running : Running) (s : BoardView) (env : Env) where
  abbrev At : Bool → Instr → Type 0
  At inline instr = Scene g address main inline a instr region running s env

  abbrev DoneAt : Bool → Instr → Type 0
  DoneAt inline instr = Done g address main inline a instr region running s env

  stack_done : (inline : Bool) (instr : Instr) → uses_stack instr ≡ true → At inline instr → DoneAt inline instr
  stack_done inline (instrs.Push qq) u x = push_goes g address main inline a region running s env qq x
  stack_done inline (instrs.Pop qq) u x = pop_goes g address main inline a region running s env qq x
  stack_done inline (instrs.ExchangeStack p) u x = exchange_goes g address main inline a region running s env p x
  stack_done false (instrs.Call nn) u x = call_goes g address main a region running s env nn x
  stack_done true (instrs.Call nn) u x = inline_call_goes g address main a region running s env nn x
  stack_done false (instrs.Restart p) u x = restart_goes g address main a region running s env p x
  stack_done true (instrs.Restart p) u x = inline_restart_goes g address main a region running s env p x
  stack_done false (instrs.CallIf condition nn) u x =
      elim (cases_Bool (instr_draft (here g s env) (instrs.CallIf condition nn)).taken) [
        | inl out ↦ call_if_goes g address main a region running s env condition nn x out
        | inr out ↦ call_if_not_taken g address main a region running s env false condition nn x out
      ]
  stack_done true (instrs.CallIf condition nn) u x =
      elim (cases_Bool (instr_draft (here g s env) (instrs.CallIf condition nn)).taken) [
        | inl out ↦ inline_call_if_goes g address main a region running s env condition nn x out
        | inr out ↦ call_if_not_taken g address main a region running s env true condition nn x out
      ]
  stack_done inline instrs.Return u x = returns_goes g address main a region running s env inline instrs.Return x (return_is g address main a region running s env inline x)
  stack_done inline instrs.ReturnFromInterrupt u x = returns_goes g address main a region running s env inline instrs.ReturnFromInterrupt x (from_interrupt_is g address main a region running s env inline x)
  stack_done inline instrs.ReturnFromNonMaskable u x = returns_goes g address main a region running s env inline instrs.ReturnFromNonMaskable x (from_non_maskable_is g address main a region running s env inline x)
  stack_done inline (instrs.ReturnIf condition) u x =
      elim (cases_Bool (instr_draft (here g s env) (instrs.ReturnIf condition)).taken) [
        | inl out ↦ returns_goes g address main a region running s env inline (instrs.ReturnIf condition) x (return_if_is g address main a region running s env inline condition x out)
        | inr out ↦ return_if_not_taken g address main a region running s env inline condition x out
      ]
  stack_done inline _ u x = missing _ u

  other_done : (inline : Bool) (instr : Instr) → uses_stack instr ≡ false → At inline instr → DoneAt inline instr
  other_done inline instr u x =
      elim (cases_Bool (sets_sp instr)) [
        | inl sets ↦
            let t = x.order.sets sets in
            subst (λ i. At inline i → DoneAt inline i) (sym t.1) (load_sp_goes g address main inline a region running s env (sym x.is_main ∙ t.0)) x
        | inr sets ↦ aside_goes g address main inline a region running s env instr u sets x
      ]

  pub each_done : (inline : Bool) (instr : Instr) → At inline instr → DoneAt inline instr
  each_done inline instr x = elim (cases_Bool (uses_stack instr)) [ inl u ↦ stack_done inline instr u x | inr u ↦ other_done inline instr u x ]

-- ---- I, and the halt

either : (P : DraftView → Type 0) (b : Bool) (x y : DraftView) → P x → P y → P (cond b x y)
either P true x y p q = p
either P false x y p q = q

pub record Runs (c : ContextView) (d : DraftView) : Type 0 where
  pub i : d.regs.i ≡ c.state.regs.i
  pub halts : d.halts ≡ false
  pub writes : d.writes ≡ []

stack_runs : (c : ContextView) (instr : Instr) → uses_stack instr ≡ true → Runs c (instr_draft c instr)
unfolding drafted moved
stack_runs c (instrs.Push qq) u = record { i = refl; halts = refl; writes = refl }
stack_runs c (instrs.Pop stack_pairs.Bc) u = record { i = refl; halts = refl; writes = refl }
stack_runs c (instrs.Pop stack_pairs.De) u = record { i = refl; halts = refl; writes = refl }
stack_runs c (instrs.Pop stack_pairs.Hl) u = record { i = refl; halts = refl; writes = refl }
stack_runs c (instrs.Pop stack_pairs.Af) u = record { i = refl; halts = refl; writes = refl }
stack_runs c (instrs.Pop stack_pairs.Ix) u = record { i = refl; halts = refl; writes = refl }
stack_runs c (instrs.Pop stack_pairs.Iy) u = record { i = refl; halts = refl; writes = refl }
stack_runs c (instrs.ExchangeStack pointers.Hl) u = record { i = refl; halts = refl; writes = refl }
stack_runs c (instrs.ExchangeStack pointers.Ix) u = record { i = refl; halts = refl; writes = refl }
stack_runs c (instrs.ExchangeStack pointers.Iy) u = record { i = refl; halts = refl; writes = refl }
stack_runs c (instrs.Call nn) u = record { i = refl; halts = refl; writes = refl }
stack_runs c (instrs.Restart p) u = record { i = refl; halts = refl; writes = refl }
stack_runs c (instrs.CallIf condition nn) u = either (Runs c) (test_holds (tests.Flag condition) (draft_on (past (length (spelling (instrs.CallIf condition nn))) c.state.regs))) _ _ (record { i = refl; halts = refl; writes = refl }) (record { i = refl; halts = refl; writes = refl })
stack_runs c instrs.Return u = record { i = refl; halts = refl; writes = refl }
stack_runs c instrs.ReturnFromInterrupt u = record { i = refl; halts = refl; writes = refl }
stack_runs c instrs.ReturnFromNonMaskable u = record { i = refl; halts = refl; writes = refl }
stack_runs c (instrs.ReturnIf condition) u = either (Runs c) (test_holds (tests.Flag condition) (draft_on (past (length (spelling (instrs.ReturnIf condition))) c.state.regs))) _ _ (record { i = refl; halts = refl; writes = refl }) (record { i = refl; halts = refl; writes = refl })
stack_runs c _ u = missing _ u

apart_i : (c : ContextView) (instr : Instr) → is_apart instr ≡ true → instr ≢ instrs.StoreASpecial specials.I → (instr_draft c instr).regs.i ≡ c.state.regs.i
unfolding drafted moved
apart_i c (instrs.JumpTo pointer) e n = refl
apart_i c instrs.Halt e n = refl
apart_i c (instrs.StoreASpecial specials.I) e n = absurd (n refl)
apart_i c (instrs.StoreASpecial specials.R) e n = missing _ e
apart_i c _ e n = missing _ e

apart_halts : (c : ContextView) (instr : Instr) → is_apart instr ≡ true → (instr_draft c instr).halts ≡ true → instr ≡ instrs.Halt
unfolding drafted moved
apart_halts c (instrs.JumpTo pointer) e h = absurd (cc)
apart_halts c instrs.Halt e h = refl
apart_halts c (instrs.StoreASpecial specials.I) e h = absurd (cc)
apart_halts c (instrs.StoreASpecial specials.R) e h = missing _ e
apart_halts c _ e h = missing _ e

never : (P : Type 0) (b : Bool) → b ≡ true → b ≡ false → P
never P b e f = absurd (cc)

i_kept : (c : ContextView) (instr : Instr) → instr ≢ instrs.StoreASpecial specials.I → (instr_draft c instr).regs.i ≡ c.state.regs.i
i_kept c instr n =
    elim (cases_Bool (uses_stack instr)) [
      | inl u ↦ (stack_runs c instr u).i
      | inr u ↦ elim (cases_Bool (is_apart instr)) [
        | inl e ↦ apart_i c instr e n
        | inr e ↦ (tame_rest c instr (tame_instr instr u e)).i
      ]
    ]

halt_alone : (c : ContextView) (instr : Instr) → (instr_draft c instr).halts ≡ true → instr ≡ instrs.Halt
halt_alone c instr h =
    elim (cases_Bool (uses_stack instr)) [
      | inl u ↦ never _ _ h (stack_runs c instr u).halts
      | inr u ↦ elim (cases_Bool (is_apart instr)) [
        | inl e ↦ apart_halts c instr e h
        | inr e ↦ never _ _ h (tame_rest c instr (tame_instr instr u e)).halts
      ]
    ]

-- ---- data writes, whatever other reasons apply

module _ (g : GroundView) (address : ℕ) (a : AbsState) (instr : Instr) (region : Region) (running : Running) (s : BoardView) (env : Env) (x : Stage g address a instr region running s env) where
  abbrev known_writes : List DataWrite
  known_writes = writes_of g address a (Ok instr)

  none_known : uses_stack instr ≡ true → known_writes ≡ []
  none_known u = rw x.io (ap (λ w. w.items) (moves_writes g true (before_test (moves_of instr)) (known_before address instr a) (no_writes instr u)))

  writes_known : AllZip WriteLiesIn known_writes (instr_draft (here g s env) instr).writes
  writes_known = elim (cases_Bool (uses_stack instr)) [
    | inl u ↦
        let none : AllZip WriteLiesIn known_writes [] = subst (λ (ws : List DataWrite). AllZip WriteLiesIn ws []) (sym (none_known u)) tt in
        subst (λ (ws : List Write). AllZip WriteLiesIn known_writes ws) (sym (stack_runs (here g s env) instr u).writes) none
    | inr u ↦ known_zip g address true true a region running s env instr kinds.Jump running.words (aside_end g address true true a region running s env instr u x)
  ]

-- ---- what an instruction keeps

pub after_here : (g : GroundView) (address : ℕ) (main inline : Bool) (a : AbsState) (instr : Instr) (region : Region) (running : Running) (s : BoardView) (env : Env) → Scene g address main inline a instr region running s env
    → After g.cells region running a instr (writes_of g address a (Ok instr)) (nexts_by g address main inline instr a (instr_draft (here g s env) instr).taken) (here g s env)
after_here g address main inline a instr region running s env x =
    let d = each_done g address main a region running s env inline instr x in
    let r = reaches g.map (instr_draft (here g s env) instr) s in
    record {
      goes = d.0;
      safe = is_safe g address main inline a instr region running s env x d.1.zip d.1.inside;
      clear = is_clear g address main inline a instr region running s env x d.1.zip d.1.inside;
      keeps_i = λ n. ap (λ regs. regs.i) r.regs ∙ i_kept (here g s env) instr n;
      halts = λ h. halt_alone (here g s env) instr (sym r.halted ∙ h);
    }

-- what `successors` answers with, and what it did not refuse
pub record Answered (main inline : Bool) (a : AbsState) (instr : Instr) (found nexts : List Next) : Type 0 where
  pub same : found ≡ nexts
  pub io : is_io instr ≡ false
  pub set : (uses_stack instr && is_unset a.mode) ≡ false
  pub shape : has_no_shape main inline instr a.shape ≡ false
  pub jumps : jumps_anywhere instr a ≡ false

not_first : (b : Bool) (r : Reason) (rest : Option Reason) → cond b (Some r) rest ≡ None → (b ≡ false) × (rest ≡ None)
not_first true r rest e = absurd (cc)
not_first false r rest e = (refl, e)

ok_same : (found nexts : List Next) → answer_by None found ≡ Ok nexts → found ≡ nexts
ok_same found nexts e = cc

told : (o : Option Reason) (found nexts : List Next) → answer_by o found ≡ Ok nexts → (o ≡ None) × (found ≡ nexts)
told None found nexts e = (refl, ok_same found nexts e)
told (Some r) found nexts e = absurd (cc)

answered : (main inline : Bool) (a : AbsState) (instr : Instr) (found nexts : List Next) → answer_by (refusal main inline instr a) found ≡ Ok nexts → Answered main inline a instr found nexts
answered main inline a instr found nexts e =
    let t = told (refusal main inline instr a) found nexts e in
    let p = not_first (is_io instr) _ _ t.0 in
    let q = not_first (uses_stack instr && is_unset a.mode) _ _ p.1 in
    let r = not_first (has_no_shape main inline instr a.shape) _ _ q.1 in
    let u = not_first (jumps_anywhere instr a) _ _ r.1 in
    record { same = t.1; io = p.0; set = q.0; shape = r.0; jumps = u.0 }

-- a row that is not refused keeps what it says, by the successors of the outcome alone
pub keeps_by_outcome : (g : GroundView) (address : ℕ) (main inline : Bool) (a : AbsState) (instr : Instr) → length a.shape ≤ 64 → StandsAt g.rom address (Ok instr) → refusal main inline instr a ≡ None
    → KeepsByOutcome g address main a instr (nexts_by g address main inline instr a)
keeps_by_outcome g address main inline a instr fits stands none region running c hardware at is_main before order =
    let found = nexts_of g address main inline instr a in
    let t = answered main inline a instr found found (ap (λ (o : Option Reason). answer_by o found) none) in
    let ways = nexts_by g address main inline instr a in
    let ws = writes_of g address a (Ok instr) in
    let all : (h : Hardware) → h ≡ hardware_of g.rom g.map → Before g.cells region running a (context_of h c.state c.env) → IsInOrder g region running a instr ws (ways (instr_draft (context_of h c.state c.env) instr).taken)
    → After g.cells region running a instr ws (ways (instr_draft (context_of h c.state c.env) instr).taken) (context_of h c.state c.env) = λ h is.
    subst (λ k. Before g.cells region running a (context_of k c.state c.env) → IsInOrder g region running a instr ws (ways (instr_draft (context_of k c.state c.env) instr).taken)
    → After g.cells region running a instr ws (ways (instr_draft (context_of k c.state c.env) instr).taken) (context_of k c.state c.env)) (sym is) (λ b o.
    after_here g address main inline a instr region running c.state c.env (record {
      at = at;
      is_main = is_main;
      stands = stands;
      before = b;
      order = o;
      fits = fits;
      io = t.io;
      set = t.set;
      shape = t.shape;
      jumps = t.jumps;
    })) in
    all c.hardware hardware before order

-- ---- the successors of both outcomes

all_by : {X : Type 0} (P : X → Type 0) (xs : List X) → ((x : X) → Contains xs x → P x) → All P xs
all_by P xs f = λ k x within. f _ (All-contains_itself xs k x within)

-- what holds of all successors holds of those of one outcome
of_one : (P : Next → Type 0) (ways : Bool → List Next) (taken : Bool) → All P (ways true ++ ways false) → All P (ways taken)
of_one P ways true h = all_by P (ways true) (λ n listed. All-contains P (ways true ++ ways false) n h (Contains-append_left (ways true) (ways false) n listed))
of_one P ways false h = all_by P (ways false) (λ n listed. All-contains P (ways true ++ ways false) n h (Contains-append_right (ways true) (ways false) n listed))

in_both : (ways : Bool → List Next) (taken : Bool) (n : Next) → Contains (ways taken) n → Contains (ways true ++ ways false) n
in_both ways true n h = Contains-append_left (ways true) (ways false) n h
in_both ways false n h = Contains-append_right (ways true) (ways false) n h

pub order_of_one : (g : GroundView) (region : Region) (running : Running) (a : AbsState) (instr : Instr) (ws : List DataWrite) (ways : Bool → List Next) (taken : Bool)
    → IsInOrder g region running a instr ws (ways true ++ ways false) → IsInOrder g region running a instr ws (ways taken)
order_of_one g region running a instr ws ways taken o = record {
  overwrites = o.overwrites;
  enables = o.enables;
  sets = o.sets;
  keeps = o.keeps;
  jumps = of_one (λ (n : Next). n.kind ≡ kinds.Jump → HasRoom region (length n.state.shape + length running.under)) ways taken o.jumps;
  calls = of_one (λ (n : Next). n.kind ≡ kinds.Call → (regs : Regs) → IsRegs regs → HoldsPairs n.state.pairs running.entry regs → HasRoom region (1 + (length n.state.shape + length running.under))) ways taken o.calls;
}

pub after_both : (cells : List KeptCell) (region : Region) (running : Running) (a : AbsState) (instr : Instr) (ws : List DataWrite) (ways : Bool → List Next) (taken : Bool) (c : ContextView)
    → After cells region running a instr ws (ways taken) c → After cells region running a instr ws (ways true ++ ways false) c
after_both cells region running a instr ws ways taken c h =
    let w = h.goes in
    record {
      goes = record { next = w.next; listed = in_both ways taken w.next w.listed; cost = w.cost; takes = w.takes; stays = w.stays; arms = w.arms; goes = w.goes };
      safe = h.safe;
      clear = h.clear;
      keeps_i = h.keeps_i;
      halts = h.halts;
    }

pub keeps : (g : GroundView) (address : ℕ) (main inline : Bool) (a : AbsState) (instr : Instr) (nexts : List Next) → length a.shape ≤ 64 → StandsAt g.rom address (Ok instr) → answer_of g address main inline a (Ok instr) ≡ Ok nexts → Keeps g address main a instr nexts
keeps g address main inline a instr nexts fits stands e region running c hardware at is_main before order =
    let ways = nexts_by g address main inline instr a in
    let ws = writes_of g address a (Ok instr) in
    let taken = (instr_draft c instr).taken in
    let t = told (refusal main inline instr a) (nexts_of g address main inline instr a) nexts e in
    let whole : IsInOrder g region running a instr ws (ways true ++ ways false) = subst (λ (ns : List Next). IsInOrder g region running a instr ws ns) (sym t.1) order in
    let one = keeps_by_outcome g address main inline a instr fits stands t.0 region running c hardware at is_main before (order_of_one g region running a instr ws ways taken whole) in
    subst (λ (ns : List Next). After g.cells region running a instr ws ns c) t.1 (after_both g.cells region running a instr ws ways taken c one)

pub writes_as_known : (g : GroundView) (address : ℕ) (main inline : Bool) (a : AbsState) (instr : Instr) (nexts : List Next) → StandsAt g.rom address (Ok instr) → answer_of g address main inline a (Ok instr) ≡ Ok nexts → WritesAsKnown g address a instr
writes_as_known g address main inline a instr nexts stands e region running c hardware at before =
    let t = answered main inline a instr (nexts_of g address main inline instr a) nexts e in
    let all : (h : Hardware) → h ≡ hardware_of g.rom g.map → Before g.cells region running a (context_of h c.state c.env) → AllZip WriteLiesIn (writes_of g address a (Ok instr)) (instr_draft (context_of h c.state c.env) instr).writes = λ h is.
    subst (λ k. Before g.cells region running a (context_of k c.state c.env) → AllZip WriteLiesIn (writes_of g address a (Ok instr)) (instr_draft (context_of k c.state c.env) instr).writes) (sym is) (λ b.
    writes_known g address a instr region running c.state c.env (record { at = at; stands = stands; before = b; io = t.io; jumps = t.jumps })) in
    all c.hardware hardware before

pub operand_as_known : (g : GroundView) (address : ℕ) (inline : Bool) (a : AbsState) (instr : Instr) → StandsAt g.rom address (Ok instr) → OperandAsKnown g address inline a instr
operand_as_known g address inline a instr stands region running c hardware at before =
    let all : (h : Hardware) → h ≡ hardware_of g.rom g.map → Before g.cells region running a (context_of h c.state c.env)
    → ((instr_draft (context_of h c.state c.env) instr).operand < 256) × Within (operand_of g address inline a instr) (instr_draft (context_of h c.state c.env) instr).operand = λ h is.
    subst (λ k. Before g.cells region running a (context_of k c.state c.env)
    → ((instr_draft (context_of k c.state c.env) instr).operand < 256) × Within (operand_of g address inline a instr) (instr_draft (context_of k c.state c.env) instr).operand) (sym is) (λ b.
    let there : StandsAt g.rom c.state.regs.pc (Ok instr) = subst (λ (n : ℕ). StandsAt g.rom n (Ok instr)) (sym at) stands in
    let small = draft_is_small (here g c.state c.env) instr (record { rom = b.rom; state = b.numbers; env = b.env }) there in
    (small, operand_lies g address inline a instr region running c.state c.env at stands b small)) in
    all c.hardware hardware before
