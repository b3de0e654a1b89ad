-- A jump leads to a row, and a call comes back to one.
use Rattle.std.proofs.Common.{◌≡◌, ◌<◌, ℕ, Bool, true, false, cond, eqb, List, get_or, Option, Some, None, Result, Ok, Err, pos, refl, sym, ap, subst, arith}
use Rattle.std.specs.Prelude.{IfSome, option_map}
use Rattle.std.proofs.lemmas.Bool.{eqb-true}
use Rattle.intervals.specs.Domain.{Entry}
use Rattle.intervals.specs.Pair.{HoldsPair}
use Rattle.intervals.specs.Range.{RangeView, Within}
use Rattle.intervals.specs.declared.pair.Pair.{Pair}
use Rattle.intervals.specs.declared.reg_pair.RegPair.{RegPair}
use Rattle.intervals.specs.declared.reg_pair.RegPair.TheVariants.{Af, Bc, De, Hl, Ix, Iy}
use Rattle.loop_bounds.specs.Effect.{Valuation, change_of, part_change, slot_change}
use Rattle.loop_bounds.specs.declared.effect.Change.{Change}
use Rattle.loop_bounds.specs.declared.effect.Change.TheVariants.{Constant, Old}
use Rattle.loop_bounds.specs.declared.effect.Effect.{Effect}
use Rattle.loop_bounds.specs.declared.effect.SlotChange.{SlotChange}
use Rattle.loop_bounds.specs.declared.variable.Part.{Part}
use Rattle.loop_bounds.specs.declared.variable.Part.TheVariants.{Word, High, Low}
use Rattle.loop_bounds.specs.declared.variable.Variable.TheVariants as variables
use Rattle.stack_shape.specs.declared.slot.Slot.{Slot as ShapeSlot}
use Rattle.z80_alu.specs.Word.{word_of}
use Rattle.z80_draft.specs.Registers.{IsRegs}
use Rattle.abs_draft.specs.Outcomes.{constant_first, settled, settled_slot}
use Rattle.abs_laws.specs.Fits.{FollowsChange}
use Rattle.abs_state.specs.CutLaws.{variable_lies}
use Rattle.abs_state.specs.Entries.{after_call}
use Rattle.abs_state.specs.Holds.{Holds}
use Rattle.abs_state.specs.Pairs.{HoldsPairs, entry_of}
use Rattle.abs_state.specs.Seen.{Seen}
use Rattle.abs_state.specs.Variables.{full_slot, part_range, range_of, value_in}
use Rattle.abs_state.specs.declared.cell.KeptCell.{KeptCell}
use Rattle.abs_state.specs.declared.state.AbsState.{AbsState}
use Rattle.abs_state.proofs.ChangeLemmas.{call_returned}
use Rattle.abs_step.specs.declared.next.Next.{Next}
use Rattle.cert_lines.specs.declared.version.Version.{Version}
use Rattle.cert_lines.specs.declared.version.Version.TheVariants.{One, Two, Three}
use Rattle.check_cover.specs.Arrival.{ArrivalView, RefinementView}
use Rattle.flag_conditions.specs.NewConditions.{new_after}
use Rattle.linear_effects.specs.Effects.{effect_of}
use Rattle.z80_decode.specs.declared.fault.DecodeFault.{DecodeFault}
use Rattle.z80_decode.specs.declared.instr.Instr.{Instr}
use Rattle.z80_decode.specs.declared.instr.Instr.TheVariants as instrs
use Rattle.z80_decode.specs.declared.operands.Register16.TheVariants as registers
use Rattle.check_cover.specs.Covering.{Covered}
use Rattle.check_cover.specs.declared.program.Callee.{Callee}
use Rattle.cert_form.specs.Form.{IsInForm}
use Rattle.check_steps.specs.Restarts.{restarted, restarts_by}
use Rattle.check_steps.specs.Returned.{effect_back, effect_by_origins, effect_of_call, high_by_origin, low_by_origin, returned_change, word_by_origin}
use Rattle.check_steps.specs.Told.{refinement_by}
use Rattle.check_ways.specs.Ways.{SubjectView, behind_of, jump_way, restarts, return_way, told_of}
use Rattle.check_laws.specs.Comes.{CameBy, CameRefined, CameRefinedIfSome, Exits, Steps, entered, resumed}
use Rattle.check_laws.specs.RowHolds.{IsHeld}
use Rattle.check_laws.proofs.EntryLemmas.{entered_values, untold_came}
use Rattle.check_laws.proofs.LandingLemmas.{lands}
use Rattle.check_laws.proofs.Restarts.{missing, restart_is}

-- ---- constants with priority

constant_follows : (range : RangeView) (change : Change) (before : Valuation) (n : ℕ) → Within range n → FollowsChange change before n → FollowsChange (constant_first range change) before n
constant_follows range change before n w f = at (eqb range.low range.high) refl
  where
    at : (t : Bool) → eqb range.low range.high ≡ t → FollowsChange (cond t (Constant range.low) change) before n
    at true e = let one : range.low ≡ range.high = eqb-true _ _ e in let same : range.low ≡ n = omega (arith, one, w.0, w.1) in ap pos same
    at false e = f

part_follows : (shape : List ShapeSlot) (c : SlotChange) (part : Part) (before : Valuation) (n : ℕ) → Within (part_range part (get_or shape c.number full_slot).pair) n → FollowsChange (part_change c part) before n
    → FollowsChange (part_change (settled_slot shape c) part) before n
part_follows shape c Word before n w f = constant_follows _ c.word before n w f
part_follows shape c High before n w f = constant_follows _ c.high before n w f
part_follows shape c Low before n w f = constant_follows _ c.low before n w f

slot_follows : (shape : List ShapeSlot) (slot : Option SlotChange) (number : ℕ) (part : Part) (before : Valuation) (n : ℕ) → Within (part_range part (get_or shape number full_slot).pair) n
    → FollowsChange (slot_change slot number part) before n → FollowsChange (slot_change (option_map (settled_slot shape) slot) number part) before n
slot_follows shape None number part before n w f = f
slot_follows shape (Some c) number part before n w f = at (eqb c.number number) refl f
  where
    at : (t : Bool) → eqb c.number number ≡ t → FollowsChange (cond t (part_change c part) (Old (variables.Slot number part))) before n → FollowsChange (cond t (part_change (settled_slot shape c) part) (Old (variables.Slot number part))) before n
    at true e h = let same : c.number ≡ number = eqb-true _ _ e in part_follows shape c part before n (subst (λ (k : ℕ). Within (part_range part (get_or shape k full_slot).pair) n) (sym same) w) h
    at false e h = h

settled_came : (s : AbsState) (cells : List KeptCell) (entry : Entry) (effect : Effect) (before now : Seen) → IsRegs now.regs → Holds s cells entry now → CameBy effect before now → CameBy (settled s effect) before now
settled_came s cells entry effect before now i h came (variables.Slot number part) there =
    slot_follows s.shape effect.slot number part (value_in before) _ (variable_lies s cells entry now i h (variables.Slot number part)) (came (variables.Slot number part) there)
settled_came s cells entry effect before now i h came v there =
    constant_follows (range_of s v) (change_of effect v) (value_in before) (value_in now v) (variable_lies s cells entry now i h v) (came v there)

-- ---- a call with the callee's run, before version 3

-- the value of a pair at the call, if it is its own origin
returned_follows : (r : RegPair) (origin : Option RegPair) (change : Change) (before : Valuation) (at now : ℕ) → (origin ≡ Some r → at ≡ now) → FollowsChange change before at → FollowsChange (returned_change r origin change) before now
returned_follows Af (Some Af) change before at now same f = subst (FollowsChange change before) (same refl) f
returned_follows Bc (Some Bc) change before at now same f = subst (FollowsChange change before) (same refl) f
returned_follows De (Some De) change before at now same f = subst (FollowsChange change before) (same refl) f
returned_follows Hl (Some Hl) change before at now same f = subst (FollowsChange change before) (same refl) f
returned_follows Ix (Some Ix) change before at now same f = subst (FollowsChange change before) (same refl) f
returned_follows Iy (Some Iy) change before at now same f = subst (FollowsChange change before) (same refl) f
returned_follows r origin change before at now same f = refl

own_origin : (p : Pair) (entry : Entry) (n : ℕ) (r : RegPair) → HoldsPair p entry n → p.origin ≡ Some r → n ≡ entry r
own_origin p entry n r h e = subst (λ (o : Option RegPair). IfSome o (λ r. n ≡ entry r)) e h.origin

same_high : (h l k m : ℕ) → l < 256 → m < 256 → word_of h l ≡ word_of k m → k ≡ h
same_high h l k m p q e = omega (arith, e)

same_low : (h l k m : ℕ) → l < 256 → m < 256 → word_of h l ≡ word_of k m → m ≡ l
same_low h l k m p q e = omega (arith, e)

module _ (e : Effect) (exit : AbsState) (before at now : Seen) (came : CameBy e before at) (i : IsRegs at.regs) (j : IsRegs now.regs) (h : HoldsPairs exit.pairs (entry_of at.regs) now.regs) where
  call_came : CameBy (effect_of_call e exit) before (resumed at now)
  call_came variables.A there = returned_follows Af exit.pairs.af.origin e.a _ _ _ (λ o. same_high _ _ _ _ j.main.f i.main.f (own_origin exit.pairs.af (entry_of at.regs) _ Af h.af o)) (came variables.A tt)
  call_came variables.B there = returned_follows Bc exit.pairs.bc.origin e.b _ _ _ (λ o. same_high _ _ _ _ j.main.c i.main.c (own_origin exit.pairs.bc (entry_of at.regs) _ Bc h.bc o)) (came variables.B tt)
  call_came variables.C there = returned_follows Bc exit.pairs.bc.origin e.c _ _ _ (λ o. same_low _ _ _ _ j.main.c i.main.c (own_origin exit.pairs.bc (entry_of at.regs) _ Bc h.bc o)) (came variables.C tt)
  call_came variables.D there = returned_follows De exit.pairs.de.origin e.d _ _ _ (λ o. same_high _ _ _ _ j.main.e i.main.e (own_origin exit.pairs.de (entry_of at.regs) _ De h.de o)) (came variables.D tt)
  call_came variables.E there = returned_follows De exit.pairs.de.origin e.e _ _ _ (λ o. same_low _ _ _ _ j.main.e i.main.e (own_origin exit.pairs.de (entry_of at.regs) _ De h.de o)) (came variables.E tt)
  call_came variables.H there = returned_follows Hl exit.pairs.hl.origin e.h _ _ _ (λ o. same_high _ _ _ _ j.main.l i.main.l (own_origin exit.pairs.hl (entry_of at.regs) _ Hl h.hl o)) (came variables.H tt)
  call_came variables.L there = returned_follows Hl exit.pairs.hl.origin e.l _ _ _ (λ o. same_low _ _ _ _ j.main.l i.main.l (own_origin exit.pairs.hl (entry_of at.regs) _ Hl h.hl o)) (came variables.L tt)
  call_came variables.Bc there = returned_follows Bc exit.pairs.bc.origin e.bc _ _ _ (λ o. sym (own_origin exit.pairs.bc (entry_of at.regs) _ Bc h.bc o)) (came variables.Bc tt)
  call_came variables.De there = returned_follows De exit.pairs.de.origin e.de _ _ _ (λ o. sym (own_origin exit.pairs.de (entry_of at.regs) _ De h.de o)) (came variables.De tt)
  call_came variables.Hl there = returned_follows Hl exit.pairs.hl.origin e.hl _ _ _ (λ o. sym (own_origin exit.pairs.hl (entry_of at.regs) _ Hl h.hl o)) (came variables.Hl tt)
  call_came variables.Ix there = returned_follows Ix exit.pairs.ix.origin e.ix _ _ _ (λ o. sym (own_origin exit.pairs.ix (entry_of at.regs) _ Ix h.ix o)) (came variables.Ix tt)
  call_came variables.Iy there = returned_follows Iy exit.pairs.iy.origin e.iy _ _ _ (λ o. sym (own_origin exit.pairs.iy (entry_of at.regs) _ Iy h.iy o)) (came variables.Iy tt)
  call_came (variables.Slot number part) there = came (variables.Slot number part) there

-- ---- in version 3

-- a pair's value at the exit is that of its origin at the call
module _ (e : Effect) (before at : Seen) (came : CameBy e before at) (i : IsRegs at.regs) where
  word_came : (o : Option RegPair) (n : ℕ) → IfSome o (λ r. n ≡ entry_of at.regs r) → FollowsChange (word_by_origin e o) (value_in before) n
  word_came (Some Bc) n h = subst (FollowsChange e.bc (value_in before)) (sym h) (came variables.Bc tt)
  word_came (Some De) n h = subst (FollowsChange e.de (value_in before)) (sym h) (came variables.De tt)
  word_came (Some Hl) n h = subst (FollowsChange e.hl (value_in before)) (sym h) (came variables.Hl tt)
  word_came (Some Ix) n h = subst (FollowsChange e.ix (value_in before)) (sym h) (came variables.Ix tt)
  word_came (Some Iy) n h = subst (FollowsChange e.iy (value_in before)) (sym h) (came variables.Iy tt)
  word_came _ n h = refl

  high_came : (o : Option RegPair) (high low : ℕ) → low < 256 → IfSome o (λ r. word_of high low ≡ entry_of at.regs r) → FollowsChange (high_by_origin e o) (value_in before) high
  high_came (Some Af) high low small h = subst (FollowsChange e.a (value_in before)) (same_high _ _ _ _ small i.main.f h) (came variables.A tt)
  high_came (Some Bc) high low small h = subst (FollowsChange e.b (value_in before)) (same_high _ _ _ _ small i.main.c h) (came variables.B tt)
  high_came (Some De) high low small h = subst (FollowsChange e.d (value_in before)) (same_high _ _ _ _ small i.main.e h) (came variables.D tt)
  high_came (Some Hl) high low small h = subst (FollowsChange e.h (value_in before)) (same_high _ _ _ _ small i.main.l h) (came variables.H tt)
  high_came _ high low small h = refl

  low_came : (o : Option RegPair) (high low : ℕ) → low < 256 → IfSome o (λ r. word_of high low ≡ entry_of at.regs r) → FollowsChange (low_by_origin e o) (value_in before) low
  low_came (Some Bc) high low small h = subst (FollowsChange e.c (value_in before)) (same_low _ _ _ _ small i.main.c h) (came variables.C tt)
  low_came (Some De) high low small h = subst (FollowsChange e.e (value_in before)) (same_low _ _ _ _ small i.main.e h) (came variables.E tt)
  low_came (Some Hl) high low small h = subst (FollowsChange e.l (value_in before)) (same_low _ _ _ _ small i.main.l h) (came variables.L tt)
  low_came _ high low small h = refl

module _ (e : Effect) (exit : AbsState) (before at now : Seen) (came : CameBy e before at) (i : IsRegs at.regs) (j : IsRegs now.regs) (h : HoldsPairs exit.pairs (entry_of at.regs) now.regs) where
  origins_came : CameBy (effect_by_origins e exit) before (resumed at now)
  origins_came variables.A there = high_came e before at came i exit.pairs.af.origin _ _ j.main.f h.af.origin
  origins_came variables.B there = high_came e before at came i exit.pairs.bc.origin _ _ j.main.c h.bc.origin
  origins_came variables.C there = low_came e before at came i exit.pairs.bc.origin _ _ j.main.c h.bc.origin
  origins_came variables.D there = high_came e before at came i exit.pairs.de.origin _ _ j.main.e h.de.origin
  origins_came variables.E there = low_came e before at came i exit.pairs.de.origin _ _ j.main.e h.de.origin
  origins_came variables.H there = high_came e before at came i exit.pairs.hl.origin _ _ j.main.l h.hl.origin
  origins_came variables.L there = low_came e before at came i exit.pairs.hl.origin _ _ j.main.l h.hl.origin
  origins_came variables.Bc there = word_came e before at came i exit.pairs.bc.origin _ h.bc.origin
  origins_came variables.De there = word_came e before at came i exit.pairs.de.origin _ h.de.origin
  origins_came variables.Hl there = word_came e before at came i exit.pairs.hl.origin _ h.hl.origin
  origins_came variables.Ix there = word_came e before at came i exit.pairs.ix.origin _ h.ix.origin
  origins_came variables.Iy there = word_came e before at came i exit.pairs.iy.origin _ h.iy.origin
  origins_came (variables.Slot number part) there = came (variables.Slot number part) there

-- ---- without origins

freed : (p : Pair) (entry later : Entry) (n : ℕ) → HoldsPair p entry n → HoldsPair (record p { origin = None }) later n
freed p entry later n h = record { word = h.word; high = h.high; low = h.low; origin = tt }

freed_holds : (state : AbsState) (cells : List KeptCell) (entry later : Entry) (m : Seen) → Holds state cells entry m → Holds (restarted state) cells later (entered m)
freed_holds state cells entry later m h = record {
  mode = h.mode;
  cells_hold = h.cells_hold;
  pairs = record {
    af = freed state.pairs.af entry later _ h.pairs.af;
    bc = freed state.pairs.bc entry later _ h.pairs.bc;
    de = freed state.pairs.de entry later _ h.pairs.de;
    hl = freed state.pairs.hl entry later _ h.pairs.hl;
    ix = freed state.pairs.ix entry later _ h.pairs.ix;
    iy = freed state.pairs.iy entry later _ h.pairs.iy;
    alternate_af = freed state.pairs.alternate_af entry later _ h.pairs.alternate_af;
    alternate_bc = freed state.pairs.alternate_bc entry later _ h.pairs.alternate_bc;
    alternate_de = freed state.pairs.alternate_de entry later _ h.pairs.alternate_de;
    alternate_hl = freed state.pairs.alternate_hl entry later _ h.pairs.alternate_hl;
  };
  flag = tt;
  shape = tt;
}

-- ---- ways

pub way_leads : (s : SubjectView) (next : Next) (entry : Entry) (before now : Seen) → IsInForm s.cert → restarts s ≡ false → Steps s next entry before now → Covered s.cert (jump_way s next).arrival (jump_way s next).state
    → IsHeld s.cert s.row.proc next.address next.state entry now
way_leads s next entry before now form on x covers =
    let arrival : ArrivalView = record (jump_way s next).arrival { proc = s.row.proc } in
    let same : Covered s.cert arrival next.state = subst (λ (b : Bool). Covered s.cert (record arrival { proc = cond b 0 s.row.proc }) (cond b (restarted next.state) next.state)) on covers in
    lands s.cert form arrival entry now x.numbers_now
    (record { entry = entry; before = before; numbers = x.numbers; held = x.held.state; facts = x.held.facts; came = x.came; refined = x.refined })
    next.state x.holds same

-- what version 3 adds to an instruction's step
abbrev adds : SubjectView → Effect → Instr → RefinementView
adds s moved instr = record { moved = moved; linear = (told_of s (Ok instr)).linear; conditions = (told_of s (Ok instr)).conditions }

-- LD SP,nn has no linear effect and no conditions after, so its words don't matter
load_refined : (s : SubjectView) (moved : Effect) (nn : ℕ) (before now : Seen) → CameRefined (adds s moved (instrs.LoadPair registers.Sp nn)) before now → CameRefined (adds s moved (instrs.LoadPair registers.Sp nn)) before (entered now)
unfolding effect_of new_after
load_refined s moved nn before now h = record {
  moved = entered_values moved before now h.moved;
  becomes = tt;
  told_before = h.told_before;
  told_after = λ k d p. absurd (omega arith);
  registers = h.registers;
}

restart_refined : (s : SubjectView) (moved : Effect) (before now : Seen) (version : Version) (decoded : Result Instr DecodeFault) → restarts_by version s.proc decoded ≡ true → CameRefinedIfSome (refinement_by version (told_of s decoded) moved) before now
    → CameRefinedIfSome (refinement_by version (told_of s decoded) moved) before (entered now)
restart_refined s moved before now One decoded e h = tt
restart_refined s moved before now Two decoded e h = tt
restart_refined s moved before now Three (Err fault) e h = missing _ e
restart_refined s moved before now Three (Ok instr) e h =
    let r = restart_is Three s.proc instr e in
    let at : CameRefined (adds s moved instr) before now → CameRefined (adds s moved instr) before (entered now) =
    subst (λ (i : Instr). CameRefined (adds s moved i) before now → CameRefined (adds s moved i) before (entered now)) (sym r.loads) (λ k. load_refined s moved r.word before now k) in
    at h

pub restart_leads : (s : SubjectView) (next : Next) (entry later : Entry) (before now : Seen) → IsInForm s.cert → restarts s ≡ true → Steps s next entry before now → Covered s.cert (jump_way s next).arrival (jump_way s next).state
    → IsHeld s.cert 0 next.address (restarted next.state) later (entered now)
restart_leads s next entry later before now form on x covers =
    let arrival : ArrivalView = record (jump_way s next).arrival { proc = 0 } in
    let same : Covered s.cert arrival (restarted next.state) = subst (λ (b : Bool). Covered s.cert (record arrival { proc = cond b 0 s.row.proc }) (cond b (restarted next.state) next.state)) on covers in
    lands s.cert form arrival later (entered now) x.numbers_now
    (record {
      entry = entry;
      before = before;
      numbers = x.numbers;
      held = x.held.state;
      facts = x.held.facts;
      came = entered_values next.effect before now x.came;
      refined = restart_refined s next.moved before now s.cert.version s.decoded on x.refined;
    })
    (restarted next.state) (freed_holds next.state s.cert.cells entry later now x.holds) same

resumed_holds : (s : SubjectView) (next : Next) (exit : AbsState) (entry : Entry) (before at now : Seen) → Steps s next entry before at → Exits s exit at now → Holds (after_call next.state exit) s.cert.cells entry (resumed at now)
resumed_holds s next exit entry before at now x y = call_returned next.state exit s.cert.cells entry at now x.holds y.holds

-- the effect of a call with the callee's run, of either of its effects
back_came : (version : Version) (e : Effect) (s : SubjectView) (next : Next) (exit : AbsState) (entry : Entry) (before at now : Seen) → Steps s next entry before at → Exits s exit at now → CameBy e before at → CameBy (effect_back version e exit) before (resumed at now)
back_came One e s next exit entry before at now x y came = call_came e exit before at now came x.numbers_now y.numbers y.holds.pairs
back_came Two e s next exit entry before at now x y came = call_came e exit before at now came x.numbers_now y.numbers y.holds.pairs
back_came Three e s next exit entry before at now x y came = origins_came e exit before at now came x.numbers_now y.numbers y.holds.pairs

pub return_came : (s : SubjectView) (next : Next) (callee : Callee) (exit : AbsState) (entry : Entry) (before at now : Seen) → Steps s next entry before at → Exits s exit at now
    → CameBy (return_way s next callee exit).arrival.effect before (resumed at now)
return_came s next callee exit entry before at now x y =
    settled_came (after_call next.state exit) s.cert.cells entry (effect_back s.cert.version next.effect exit) before (resumed at now) y.numbers (resumed_holds s next exit entry before at now x y)
    (back_came s.cert.version next.effect s next exit entry before at now x y x.came)

-- what version 3 adds to it
pub return_refined : (s : SubjectView) (next : Next) (callee : Callee) (exit : AbsState) (entry : Entry) (before at now : Seen) → Steps s next entry before at → Exits s exit at now
    → CameRefinedIfSome (return_way s next callee exit).arrival.refined before (resumed at now)
return_refined s next callee exit entry before at now x y =
    untold_came s.cert.version (effect_back s.cert.version next.moved exit) before (resumed at now) (back_came s.cert.version next.moved s next exit entry before at now x y x.moved)

pub call_comes_back : (s : SubjectView) (next : Next) (callee : Callee) (exit : AbsState) (entry : Entry) (before at now : Seen) → IsInForm s.cert → Steps s next entry before at → Exits s exit at now
    → Covered s.cert (return_way s next callee exit).arrival (after_call next.state exit)
    → IsHeld s.cert s.row.proc (behind_of s.decoded s.row.address) (after_call next.state exit) entry (resumed at now)
call_comes_back s next callee exit entry before at now form x y covers =
    lands s.cert form (return_way s next callee exit).arrival entry (resumed at now) y.numbers
    (record {
      entry = entry;
      before = before;
      numbers = x.numbers;
      held = x.held.state;
      facts = x.held.facts;
      came = return_came s next callee exit entry before at now x y;
      refined = return_refined s next callee exit entry before at now x y;
    })
    (after_call next.state exit) (resumed_holds s next exit entry before at now x y) covers
