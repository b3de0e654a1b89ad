-- The refined step keeps what a row says.
use Rattle.std.proofs.Common.{◌≡◌, ◌≤◌, ◌∙◌, ℕ, Bool, true, false, List, [], ◌∷◌, ◌++◌, length, Option, Some, None, IsSomeAnd, Ok, refl, sym, ap, subst}
use Rattle.std.specs.Prelude.{IfSome, map, option_and_then}
use Rattle.std.proofs.lemmas.List.Elements.{All-nil}
use Rattle.address_map.specs.declared.region.Region.{Region}
use Rattle.intervals.specs.Domain.{Entry}
use Rattle.intervals.specs.Range.{RangeView, Within}
use Rattle.loop_bounds.specs.declared.variable.Variable.{Variable}
use Rattle.loop_bounds.specs.declared.variable.Variable.TheVariants as variables
use Rattle.z80_alu.specs.Flags.{flags_of}
use Rattle.z80_alu.specs.declared.regs.Regs.{Regs}
use Rattle.z80_decode.specs.Spelling.{spelling}
use Rattle.z80_decode.specs.declared.instr.Instr.{Instr}
use Rattle.z80_decode.specs.declared.kinds.Condition.{Condition}
use Rattle.z80_draft.specs.Draft.{DraftView, draft_of, draft_on, past}
use Rattle.z80_draft.specs.Outside.{Outside}
use Rattle.z80_draft.specs.Registers.{IsRegs}
use Rattle.z80_moves.specs.Moves.{moves_of}
use Rattle.z80_moves.specs.declared.moves.Test.{Test}
use Rattle.board_fetch.specs.Decoded.{StandsAt}
use Rattle.board_step.proofs.StateRangeLemmas.{done_keeps}
use Rattle.board_step.specs.Context.{ContextView}
use Rattle.board_step.specs.Hardware.{Hardware, hardware_of}
use Rattle.board_step.specs.Reads.{outside_of}
use Rattle.board_step.specs.Step.{done, instr_draft}
use Rattle.board_laws.proofs.Brought.{reaches}
use Rattle.abs_state.specs.Holds.{Holds}
use Rattle.abs_state.specs.Seen.{Seen}
use Rattle.abs_state.specs.Variables.{cut_to, range_of, value_in}
use Rattle.abs_state.specs.declared.cell.KeptCell.{KeptCell}
use Rattle.abs_state.specs.declared.pairs.Pairs.{Pairs}
use Rattle.abs_state.specs.declared.state.AbsState.{AbsState}
use Rattle.abs_draft.specs.Ground.{GroundView}
use Rattle.abs_draft.specs.Outcomes.{known_at_test, test_of}
use Rattle.abs_draft.specs.declared.data_write.DataWrite.{DataWrite}
use Rattle.abs_laws.specs.Writes.{AllKeep, MissesRegion, NeverEnables}
use Rattle.abs_laws.proofs.Ways.{moves_keep_taken}
use Rattle.abs_step.specs.Contained.{After, Before, IsInOrder, Running, seen_of}
use Rattle.abs_step.specs.Successors.{next_of, nexts_by, operand_of, refusal, way_by, writes_of}
use Rattle.abs_step.specs.declared.next.Next.{Next}
use Rattle.abs_step.specs.declared.next.NextKind.{NextKind}
use Rattle.abs_step.specs.declared.next.NextKind.TheVariants as kinds
use Rattle.abs_step.proofs.Asides.{jump_kind}
use Rattle.abs_step.proofs.Keeps.{after_both, keeps_by_outcome, operand_as_known, order_of_one}
use Rattle.flag_parts.specs.Carry.{known_carry}
use Rattle.flag_parts.specs.Narrowing.{narrowed}
use Rattle.flag_parts.specs.Parts.{AreSeen}
use Rattle.flag_letters.specs.declared.part.FlagPart.{FlagPart}
use Rattle.flag_conditions.specs.Conditions.{AreTrue, AreTrueOf, IsAsKnown, StepConditionsView, conditions_of}
use Rattle.linear_effects.specs.Carried.{IsTrueRange, carried_range}
use Rattle.linear_effects.specs.Effects.{BecomesSo, IsDescribed, IsTrueEffect, effect_of}
use Rattle.linear_effects.specs.declared.variable_effect.LinearEffect.{LinearEffect}
use Rattle.refined_step.specs.Conditionals.{NarrowsSoundly, tested_condition, conditional_nexts, conditional_way, from_narrowed, met}
use Rattle.refined_step.specs.Kept.{AreTrueOfStep, KeepsRefined}
use Rattle.refined_step.specs.Refined.{refined_answer, refined_by, refined_nexts, sharpened_nexts, step_carried, step_conditions, step_effect}
use Rattle.refined_step.specs.Sharpening.{cut_successor, sharpened, value_range}
use Rattle.refined_step.proofs.Answered.{told}
use Rattle.refined_step.proofs.Instructions.{IsPlain, conditional, no_known_writes, outcome_tells, plain, plain_carried, register_small}
use Rattle.refined_step.proofs.NarrowedStack.{KeepsStack, cut_some, narrowed_kept}
use Rattle.refined_step.proofs.OneNext.{after_other, order_of_own}
use Rattle.refined_step.proofs.Refusals.{refusal_kept}
use Rattle.refined_step.proofs.Sharpened.{IsAlike, alike, cut_holds, cut_went, linear_lies}

-- ---- small facts

record Left (o : Option AbsState) (P : AbsState → Type 0) : Type 0 where
  state : AbsState
  is : o ≡ Some state
  holds : P state

left_of : (o : Option AbsState) (P : AbsState → Type 0) → IsSomeAnd o P → Left o P
left_of None P h = absurd h
left_of (Some t) P h = record { state = t; is = refl; holds = h }

at_some : (o : Option AbsState) (P : AbsState → Type 0) (t : AbsState) → o ≡ Some t → IfSome o P → P t
at_some o P t e h = subst (λ (x : Option AbsState). IfSome x P) e h

keeps_none : (g : GroundView) (armed : ℕ) → AllKeep g armed []
unfolding AllKeep
keeps_none g armed = tt

-- ---- from a narrowed state to the row's

order_at : (g : GroundView) (region : Region) (running : Running) (a t : AbsState) (instr : Instr) (ws : List DataWrite) (nexts : List Next) → IsInOrder g region running a instr ws nexts → IsInOrder g region running t instr [] nexts
order_at g region running a t instr ws nexts o = record {
  overwrites = λ not. All-nil (MissesRegion g.map region);
  enables = λ unset. All-nil (NeverEnables g.map);
  sets = o.sets;
  keeps = keeps_none g t.armed;
  jumps = o.jumps;
  calls = o.calls;
}

after_at : (cells : List KeptCell) (region : Region) (running : Running) (a t : AbsState) (instr : Instr) (nexts : List Next) (c : ContextView) → KeepsStack a t → After cells region running t instr [] nexts c → After cells region running a instr [] nexts c
after_at cells region running a t instr nexts c k h =
    let w = h.goes in
    record {
      goes = record {
        next = w.next;
        listed = w.listed;
        cost = w.cost;
        takes = w.takes;
        stays = λ n. w.stays (k.mode ∙ n);
        arms = subst (λ (m : ℕ). m ≤ w.next.state.armed) k.armed w.arms;
        goes = w.goes;
      };
      safe = h.safe;
      clear = h.clear;
      keeps_i = h.keeps_i;
      halts = h.halts;
    }

module _ (g : GroundView) (address : ℕ) (main inline : Bool) (a : AbsState) (instr : Instr) (parts : List FlagPart) (fits : length a.shape ≤ 64) (stands : StandsAt g.rom address (Ok instr)) (none : refusal main inline instr a ≡ None) (region : Region) (running : Running) (c : ContextView) (hardware : c.hardware ≡ hardware_of g.rom g.map) (at : c.state.regs.pc ≡ address) (is_main : running.main ≡ main) (before : Before g.cells region running a c) where
  abbrev ws : List DataWrite
  ws = writes_of g address a (Ok instr)

  abbrev m : Seen
  m = seen_of g.cells running.words c.state

  abbrev taken : Bool
  taken = (instr_draft c instr).taken

  -- ---- with a condition

  after_narrowed : (condition : Condition) → tested_condition instr ≡ Some condition → NarrowsSoundly condition parts a → AreSeen parts m → IsInOrder g region running a instr ws (conditional_nexts g address main inline instr condition parts a)
      → After g.cells region running a instr ws (conditional_nexts g address main inline instr condition parts a) c
  after_narrowed condition is narrows seen order =
      let k = conditional instr condition is in
      let ways : Bool → List Next = conditional_way g address main inline instr condition parts a in
      let left = left_of (narrowed (met condition taken) parts a) (λ t. Holds t g.cells running.entry m) (narrows taken g.cells running.entry m before.numbers.regs before.holds seen (outcome_tells c instr condition k)) in
      let t : AbsState = left.state in
      let kept : KeepsStack a t = at_some (narrowed (met condition taken) parts a) (KeepsStack a) t left.is (narrowed_kept (met condition taken) parts a) in
      let one : ways taken ≡ nexts_by g address main inline instr t taken = ap (λ (o : Option AbsState). from_narrowed g address main inline instr o taken) left.is in
      let none_row : ws ≡ [] = no_known_writes g address a instr condition k in
      let none_left : writes_of g address t (Ok instr) ≡ [] = no_known_writes g address t instr condition k in
      let o : IsInOrder g region running a instr ws (nexts_by g address main inline instr t taken) = subst (λ (ns : List Next). IsInOrder g region running a instr ws ns) one (order_of_one g region running a instr ws ways taken order) in
      let order_left : IsInOrder g region running t instr (writes_of g address t (Ok instr)) (nexts_by g address main inline instr t taken) =
      subst (λ (xs : List DataWrite). IsInOrder g region running t instr xs (nexts_by g address main inline instr t taken)) (sym none_left) (order_at g region running a t instr ws (nexts_by g address main inline instr t taken) o) in
      let before_left : Before g.cells region running t c = record {
        numbers = before.numbers;
        env = before.env;
        rom = before.rom;
        rom_len = before.rom_len;
        is_region = before.is_region;
        kept = before.kept;
        under = before.under;
        holds = left.holds;
        laid = λ set. before.laid (λ unset. set (kept.mode ∙ unset));
      } in
      let h = keeps_by_outcome g address main inline t instr (subst (λ (n : ℕ). n ≤ 64) (sym kept.long) fits) stands (refusal_kept main inline instr a t k.jumps kept none) region running c hardware at is_main before_left order_left in
      let bare : After g.cells region running t instr [] (nexts_by g address main inline instr t taken) c = subst (λ (xs : List DataWrite). After g.cells region running t instr xs (nexts_by g address main inline instr t taken) c) none_left h in
      let row : After g.cells region running a instr [] (nexts_by g address main inline instr t taken) c = after_at g.cells region running a t instr (nexts_by g address main inline instr t taken) c kept bare in
      let full : After g.cells region running a instr ws (nexts_by g address main inline instr t taken) c = subst (λ (xs : List DataWrite). After g.cells region running a instr xs (nexts_by g address main inline instr t taken) c) (sym none_row) row in
      after_both g.cells region running a instr ws ways taken c (subst (λ (ns : List Next). After g.cells region running a instr ws ns c) (sym one) full)

  -- ---- without a condition or a linear effect

  after_own : IsInOrder g region running a instr ws (nexts_by g address main inline instr a true ++ nexts_by g address main inline instr a false)
      → After g.cells region running a instr ws (nexts_by g address main inline instr a true ++ nexts_by g address main inline instr a false) c
  after_own order =
      let ways : Bool → List Next = nexts_by g address main inline instr a in
      after_both g.cells region running a instr ws ways taken c
      (keeps_by_outcome g address main inline a instr fits stands none region running c hardware at is_main before (order_of_one g region running a instr ws ways taken order))

  -- ---- with a variable cut

  abbrev own : Next
  own = next_of main instr false kinds.Jump (known_at_test g address inline instr a)

  after_cut : (v : Variable) (range : Option RangeView) → IsPlain instr v → ((q : Seen) → q.regs ≡ (instr_draft c instr).regs → IsSomeAnd range (λ r. Within r (value_in q v))) → IsRegs (done c instr).regs → (done c instr).regs ≡ (instr_draft c instr).regs
      → IsInOrder g region running a instr ws (map (cut_successor v range) (nexts_by g address main inline instr a false))
      → After g.cells region running a instr ws (map (cut_successor v range) (nexts_by g address main inline instr a false)) c
  after_cut v range p lies regs same order =
      let left : taken ≡ false = moves_keep_taken (outside_of c) (moves_of instr) (draft_on (past (length (spelling instr)) c.state.regs)) p.test in
      let known = known_at_test g address inline instr a in
      let only : nexts_by g address main inline instr a false ≡ own ∷ [] =
      ap (λ (q : NextKind). way_by g main inline instr q (test_of (moves_of instr)) known false) (jump_kind inline instr a.shape p.stack)
      ∙ ap (λ (o : Option Test). way_by g main inline instr kinds.Jump o known false) p.test in
      let by_outcome : nexts_by g address main inline instr a taken ≡ own ∷ [] = ap (nexts_by g address main inline instr a) left ∙ only in
      let cut : Option AbsState = option_and_then (cut_to own.state v) range in
      let stack : IfSome cut (KeepsStack own.state) = cut_some range own.state v in
      let like : IsAlike own (cut_successor v range own) = alike own cut stack in
      let o : IsInOrder g region running a instr ws (cut_successor v range own ∷ []) = subst (λ (ns : List Next). IsInOrder g region running a instr ws (map (cut_successor v range) ns)) only order in
      let order_own : IsInOrder g region running a instr ws (own ∷ []) = order_of_own g region running a instr ws c own (cut_successor v range own) like refl o in
      let h = keeps_by_outcome g address main inline a instr fits stands none region running c hardware at is_main before (subst (λ (ns : List Next). IsInOrder g region running a instr ws ns) (sym by_outcome) order_own) in
      let bare : After g.cells region running a instr ws (own ∷ []) c = subst (λ (ns : List Next). After g.cells region running a instr ws ns c) by_outcome h in
      let there : After g.cells region running a instr ws (cut_successor v range own ∷ []) c =
      after_other g region running a instr ws c own (cut_successor v range own) like refl bare
      (λ w. cut_went g.cells region running c own (done c instr) regs w cut stack
      (cut_holds own.state g.cells running.entry (seen_of g.cells w.words (done c instr)) v range regs w.holds (lies (seen_of g.cells w.words (done c instr)) same))) in
      subst (λ (ns : List Next). After g.cells region running a instr ws (map (cut_successor v range) ns) c) (sym only) there

  -- the registers after the draft are in range
  small_after : IsRegs (done c instr).regs → (done c instr).regs ≡ (instr_draft c instr).regs → (q : Seen) → q.regs ≡ (instr_draft c instr).regs → IsRegs q.regs
  small_after regs same q e = subst IsRegs (sym e) (subst IsRegs same regs)

  after_sharpened : (e : LinearEffect) (byte : RangeView) (carry : Option Bool) → effect_of instr a.pairs byte carry ≡ Some e → BecomesSo e m (instr_draft c instr) → IsRegs (done c instr).regs → (done c instr).regs ≡ (instr_draft c instr).regs
      → IsInOrder g region running a instr ws (map (sharpened a e) (nexts_by g address main inline instr a false))
      → After g.cells region running a instr ws (map (sharpened a e) (nexts_by g address main inline instr a false)) c
  after_sharpened e byte carry is becomes regs same =
      let p = plain instr a.pairs byte carry e is in
      after_cut e.variable (value_range (range_of a) e.linear) p
      (λ q at. linear_lies a g.cells running.entry m q e.variable e.linear before.numbers.regs before.holds (becomes q at) (register_small e.variable q (small_after regs same q at) p.register))
      regs same

-- ---- the truths of a step

effect_told : (effect : Option LinearEffect) (instr : Instr) (pairs : Pairs) (byte : RangeView) (carry : Option Bool) (o : Outside) (entry : Entry) (m : Seen) → IsTrueEffect effect instr pairs byte carry → IsDescribed instr pairs byte carry o entry m
    → IfSome effect (λ e. BecomesSo e m (draft_of o m.regs instr))
unfolding IsTrueEffect
effect_told None instr pairs byte carry o entry m h d = tt
effect_told (Some e) instr pairs byte carry o entry m h d = h o entry m d

-- what the known carry says of A
abbrev LiesSo : RangeView → DraftView → Type 0
LiesSo r d = (n : Seen) → n.regs ≡ d.regs → Within r (value_in n variables.A)

range_told : (range : Option RangeView) (instr : Instr) (pairs : Pairs) (byte : RangeView) (carry : Option Bool) (o : Outside) (entry : Entry) (m : Seen) → IsTrueRange range instr pairs byte carry → IsDescribed instr pairs byte carry o entry m
    → IfSome range (λ r. LiesSo r (draft_of o m.regs instr))
unfolding IsTrueRange
range_told None instr pairs byte carry o entry m h d = tt
range_told (Some r) instr pairs byte carry o entry m h d = h o entry m d

conditions_told : (conditions : StepConditionsView) (instr : Instr) (byte : RangeView) (parts : List FlagPart) (carry : Option Bool) (o : Outside) (m : Seen) → AreTrue conditions instr byte parts carry → IsAsKnown instr byte parts carry o m
    → AreTrueOf conditions m (draft_of o m.regs instr)
unfolding AreTrue
conditions_told conditions instr byte parts carry o m h k = h o m k

step_truths : (conditions : StepConditionsView) (effect : Option LinearEffect) (m : Seen) (d : DraftView) → AreTrueOf conditions m d → IfSome effect (λ e. BecomesSo e m d) → AreTrueOfStep conditions effect m d.regs
step_truths conditions effect m d t e = record { before = t.before; after = t.after; becomes = e }

-- what the carry that is known says of each machine
abbrev pub TellsCarry : Option Bool → List FlagPart → AbsState → Type 0
TellsCarry carry parts a =
    (cells : List KeptCell) (entry : Entry) (m : Seen) → IsRegs m.regs → Holds a cells entry m → AreSeen parts m → IfSome carry (λ k. (flags_of m.regs.main.f).carry ≡ k)

-- ---- all together

pub refined_keeps : (g : GroundView) (address : ℕ) (main inline : Bool) (a : AbsState) (instr : Instr) (parts : List FlagPart) → length a.shape ≤ 64 → StandsAt g.rom address (Ok instr) → refusal main inline instr a ≡ None
    → TellsCarry (known_carry (range_of a) parts) parts a
    → AreTrue (step_conditions g address inline instr parts a) instr (operand_of g address inline a instr) parts (known_carry (range_of a) parts)
    → IsTrueEffect (step_effect g address inline instr parts a) instr a.pairs (operand_of g address inline a instr) (known_carry (range_of a) parts)
    → IsTrueRange (step_carried g address inline instr parts a) instr a.pairs (operand_of g address inline a instr) (known_carry (range_of a) parts)
    → ((condition : Condition) → tested_condition instr ≡ Some condition → NarrowsSoundly condition parts a)
    → KeepsRefined g address main a instr parts (refined_nexts g address main inline instr parts a) (step_conditions g address inline instr parts a) (step_effect g address inline instr parts a)
refined_keeps g address main inline a instr parts fits stands none tells conditions_true effect_true range_true narrows region running c hardware at is_main before seen order =
    (after (tested_condition instr) refl order, truths)
  where
    m : Seen
    m = seen_of g.cells running.words c.state

    carry : Option Bool
    carry = known_carry (range_of a) parts

    byte : RangeView
    byte = operand_of g address inline a instr

    effect : Option LinearEffect
    effect = step_effect g address inline instr parts a

    conditions : StepConditionsView
    conditions = step_conditions g address inline instr parts a

    carry_is : IfSome carry (λ k. (flags_of m.regs.main.f).carry ≡ k)
    carry_is = tells g.cells running.entry m before.numbers.regs before.holds seen

    same : (done c instr).regs ≡ (instr_draft c instr).regs
    same = (reaches c.hardware.map (instr_draft c instr) c.state).regs

    regs : IsRegs (done c instr).regs
    regs =
        let there : StandsAt c.hardware.rom c.state.regs.pc (Ok instr) = subst (λ (rom : List ℕ). StandsAt rom c.state.regs.pc (Ok instr)) (sym (ap (λ (h : Hardware). h.rom) hardware)) (subst (λ (n : ℕ). StandsAt g.rom n (Ok instr)) (sym at) stands) in
        let k = done_keeps c instr (record { rom = before.rom; state = before.numbers; env = before.env }) there in
        k.regs

    carried : Option RangeView
    carried = step_carried g address inline instr parts a

    described : IsDescribed instr a.pairs byte carry (outside_of c) running.entry m
    described =
        let op = operand_as_known g address inline a instr stands region running c hardware at before in
        record { regs = before.numbers.regs; pairs_hold = before.holds.pairs; carry_is = carry_is; operand_byte = op.0; operand_within = op.1 }

    becomes : IfSome effect (λ e. BecomesSo e m (instr_draft c instr))
    becomes = effect_told effect instr a.pairs byte carry (outside_of c) running.entry m effect_true described

    lies : IfSome carried (λ r. LiesSo r (instr_draft c instr))
    lies = range_told carried instr a.pairs byte carry (outside_of c) running.entry m range_true described

    truths : AreTrueOfStep conditions effect m (done c instr).regs
    truths =
        let op = operand_as_known g address inline a instr stands region running c hardware at before in
        let t = conditions_told conditions instr byte parts carry (outside_of c) m conditions_true
        (record { regs = before.numbers.regs; parts_hold = seen; carry_is = carry_is; operand_byte = op.0; operand_within = op.1 }) in
        subst (λ (r : Regs). AreTrueOfStep conditions effect m r) (sym same) (step_truths conditions effect m (instr_draft c instr) t becomes)

    unconditional : (o : Option LinearEffect) → effect ≡ o → (r : Option RangeView) → carried ≡ r → IsInOrder g region running a instr (writes_of g address a (Ok instr)) (sharpened_nexts g address main inline instr o r a)
        → After g.cells region running a instr (writes_of g address a (Ok instr)) (sharpened_nexts g address main inline instr o r a) c
    unconditional None is None cut ordered = after_own g address main inline a instr parts fits stands none region running c hardware at is_main before ordered
    unconditional None is (Some r) cut ordered =
        let found : LiesSo r (instr_draft c instr) = subst (λ (o : Option RangeView). IfSome o (λ x. LiesSo x (instr_draft c instr))) cut lies in
        after_cut g address main inline a instr parts fits stands none region running c hardware at is_main before variables.A (Some r) (plain_carried instr a.pairs byte carry r cut) found regs same ordered
    unconditional (Some e) is r cut ordered =
        let found : BecomesSo e m (instr_draft c instr) = subst (λ (o : Option LinearEffect). IfSome o (λ x. BecomesSo x m (instr_draft c instr))) is becomes in
        after_sharpened g address main inline a instr parts fits stands none region running c hardware at is_main before e byte carry is found regs same ordered

    after : (o : Option Condition) → tested_condition instr ≡ o → IsInOrder g region running a instr (writes_of g address a (Ok instr)) (refined_by o g address main inline instr parts a)
        → After g.cells region running a instr (writes_of g address a (Ok instr)) (refined_by o g address main inline instr parts a) c
    after (Some condition) is ordered = after_narrowed g address main inline a instr parts fits stands none region running c hardware at is_main before condition is (narrows condition is) seen ordered
    after None is ordered = unconditional effect refl carried refl ordered

-- ---- by the answer

module _ (g : GroundView) (address : ℕ) (main inline : Bool) (a : AbsState) (instr : Instr) (parts : List FlagPart) where
  abbrev Keeping : RangeView → Option Bool → StepConditionsView → Option LinearEffect → Option RangeView → Type 0
  Keeping b k s e r =
      TellsCarry k parts a → AreTrue s instr b parts k → IsTrueEffect e instr a.pairs b k → IsTrueRange r instr a.pairs b k → KeepsRefined g address main a instr parts (refined_nexts g address main inline instr parts a) s e

  -- the same for an answer, given what the calls before it answered
  pub answered_keeps : (nexts : List Next) (byte : RangeView) (carry : Option Bool) (conditions : StepConditionsView) (effect : Option LinearEffect) (carried : Option RangeView)
      → byte ≡ operand_of g address inline a instr → carry ≡ known_carry (range_of a) parts → conditions ≡ conditions_of instr byte parts carry → effect ≡ effect_of instr a.pairs byte carry → carried ≡ carried_range instr a.pairs byte carry
      → length a.shape ≤ 64 → refined_answer g address main inline instr parts a ≡ Ok nexts → TellsCarry carry parts a → AreTrue conditions instr byte parts carry → IsTrueEffect effect instr a.pairs byte carry → IsTrueRange carried instr a.pairs byte carry
      → ((condition : Condition) → tested_condition instr ≡ Some condition → NarrowsSoundly condition parts a) → StandsAt g.rom address (Ok instr) → KeepsRefined g address main a instr parts nexts conditions effect
  answered_keeps nexts byte carry conditions effect carried is_byte is_carry is_conditions is_effect is_carried fits answer tells conditions_true effect_true range_true narrows stands =
      let t = told (refusal main inline instr a) (refined_nexts g address main inline instr parts a) nexts answer in
      let byte_is : RangeView = operand_of g address inline a instr in
      let carry_is : Option Bool = known_carry (range_of a) parts in
      let start : Keeping byte_is carry_is (conditions_of instr byte_is parts carry_is) (effect_of instr a.pairs byte_is carry_is) (carried_range instr a.pairs byte_is carry_is) = λ tells_it conditions_hold effect_holds range_holds.
      refined_keeps g address main inline a instr parts fits stands t.0 tells_it conditions_hold effect_holds range_holds narrows in
      let by_byte = subst (λ (b : RangeView). Keeping b carry_is (conditions_of instr b parts carry_is) (effect_of instr a.pairs b carry_is) (carried_range instr a.pairs b carry_is)) (sym is_byte) start in
      let by_carry = subst (λ (k : Option Bool). Keeping byte k (conditions_of instr byte parts k) (effect_of instr a.pairs byte k) (carried_range instr a.pairs byte k)) (sym is_carry) by_byte in
      let by_conditions = subst (λ (s : StepConditionsView). Keeping byte carry s (effect_of instr a.pairs byte carry) (carried_range instr a.pairs byte carry)) (sym is_conditions) by_carry in
      let by_effect = subst (λ (e : Option LinearEffect). Keeping byte carry conditions e (carried_range instr a.pairs byte carry)) (sym is_effect) by_conditions in
      let all : Keeping byte carry conditions effect carried = subst (λ (r : Option RangeView). Keeping byte carry conditions effect r) (sym is_carried) by_effect in
      subst (λ (ns : List Next). KeepsRefined g address main a instr parts ns conditions effect) t.1 (all tells conditions_true effect_true range_true)
