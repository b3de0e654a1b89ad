-- Laws of cuts: a state that holds still holds after a cut that keeps the actual value. They are the laws of
-- `Tightenable` and the lemmas for them.
use Rattle.std.proofs.Common.{◌≡◌, ◌≢◌, ◌<◌, ◌≤◌, ◌+◌, ◌-◌, ◌*◌, ◌/◌, ◌%◌, ℕ, zero, suc, Bool, true, false, cond, not, eqb, ltb, refl, sym, ◌∙◌, ap, subst, arith, rules, List, [], ◌∷◌, length, set, get_or, Option, Some, None, IsSomeAnd, inl, inr}
use Rattle.std.specs.Prelude.{option_map, nat_lt, slice_index}
use Rattle.std.proofs.lemmas.Bool.{cases_Bool, eqb-true}
use Rattle.intervals.specs.Domain.{Entry}
use Rattle.intervals.specs.Pair.{HoldsPair, full_pair}
use Rattle.intervals.specs.Range.{RangeView, Within, single}
use Rattle.intervals.specs.declared.pair.Pair.{Pair}
use Rattle.intervals.specs.declared.reg_pair.RegPair.{RegPair}
use Rattle.intervals.specs.declared.reg_pair.RegPair.TheVariants.{Af, Bc, De, Hl, Ix, Iy, AlternateAf, AlternateBc, AlternateDe, AlternateHl}
use Rattle.intervals.proofs.Laws.{intersection_keeps, without_keeps}
use Rattle.intervals.proofs.PairChanges.{word_cut_keeps, high_cut_keeps, low_cut_keeps}
use Rattle.loop_bounds.specs.declared.variable.Part.{Part}
use Rattle.loop_bounds.specs.declared.variable.Part.TheVariants.{Word, High, Low}
use Rattle.loop_bounds.specs.declared.variable.Variable.{Variable}
use Rattle.loop_bounds.specs.declared.variable.Variable.TheVariants as variables
use Rattle.stack_shape.specs.Shape.{HoldsShape}
use Rattle.stack_shape.specs.declared.slot.Slot.{Slot}
use Rattle.z80_decode.specs.declared.kinds.Condition.{Condition}
use Rattle.z80_decode.specs.declared.kinds.Condition.TheVariants as conditions
use Rattle.z80_decode.specs.declared.operands.Register8.{Register8}
use Rattle.z80_decode.specs.declared.operands.Register8.TheVariants.{A, B, C, D, E, H, L}
use Rattle.z80_alu.specs.Flags.{flags_of}
use Rattle.z80_draft.specs.Arithmetic.{holds}
use Rattle.z80_draft.specs.Registers.{IsRegs}
use Rattle.abs_state.specs.Fact.{byte_in, HoldsFact}
use Rattle.abs_state.specs.Holds.{Holds}
use Rattle.abs_state.specs.Restricting.{Cut, to_range, to_all_but, with_cut_pair, cut_byte, cut_word, byte_is, word_is, a_is_below, zero_is, carry_is, condition_is}
use Rattle.abs_state.specs.Pairs.{pair_of, word_in}
use Rattle.abs_state.specs.Registers.{byte_of}
use Rattle.abs_state.specs.Seen.{Seen}
use Rattle.abs_state.specs.Variables.{part_range, part_of, full_slot, range_of, cut_part, cut_slot, cut_to, value_in, with_slot, HoldsValues}
use Rattle.abs_state.specs.declared.cell.KeptCell.{KeptCell}
use Rattle.abs_state.specs.declared.fact.FlagFact.{FlagFact}
use Rattle.abs_state.specs.declared.fact.FlagFact.TheVariants.{Zero, Compared}
use Rattle.abs_state.specs.declared.state.AbsState.{AbsState}

-- ---- a pair and its parts

part_lies : (part : Part) (p : Pair) (entry : Entry) (word : ℕ) → HoldsPair p entry word → Within (part_range part p) (part_of part word)
part_lies Word p entry word h = h.word
part_lies High p entry word h = h.high
part_lies Low p entry word h = h.low

part_cut : (part : Part) (to : RangeView) (p : Pair) (entry : Entry) (word : ℕ) → HoldsPair p entry word → Within to (part_of part word) → IsSomeAnd (cut_part part to p) (λ q. HoldsPair q entry word)
part_cut Word to p entry word h w = word_cut_keeps p entry word h _ (intersection_keeps p.word word h.word to w)
part_cut High to p entry word h w = high_cut_keeps p entry word h _ (intersection_keeps p.high (word / 256) h.high to w)
part_cut Low to p entry word h w = low_cut_keeps p entry word h _ (intersection_keeps p.low (word % 256) h.low to w)

-- ---- slots

nothing_known : (entry : Entry) → HoldsPair full_pair entry 0
nothing_known entry = record { word = omega arith; high = omega arith; low = omega arith; origin = tt }

pub slot_held : (slots : List Slot) (entry : Entry) (words : List ℕ) (n : ℕ) → HoldsShape slots entry words → HoldsPair (get_or slots n full_slot).pair entry (get_or words n 0)
slot_held [] entry [] n h = nothing_known entry
slot_held [] entry (w ∷ ws) n h = absurd h
slot_held (s ∷ ss) entry [] n h = absurd h
slot_held (s ∷ ss) entry (w ∷ ws) zero h = h.0
slot_held (s ∷ ss) entry (w ∷ ws) (suc n) h = slot_held ss entry ws n h.1

slot_put : (slots : List Slot) (entry : Entry) (words : List ℕ) (n : ℕ) (p : Pair) → HoldsShape slots entry words → HoldsPair p entry (get_or words n 0) → HoldsShape (set slots n (let s : Slot = record { pair = p } in s)) entry words
slot_put [] entry [] n p h k = tt
slot_put [] entry (w ∷ ws) n p h k = absurd h
slot_put (s ∷ ss) entry [] n p h k = absurd h
slot_put (s ∷ ss) entry (w ∷ ws) zero p h k = (k, h.1)
slot_put (s ∷ ss) entry (w ∷ ws) (suc n) p h k = (h.0, slot_put ss entry ws n p h.1 k)

-- ---- bytes of words

high_again : (x y : ℕ) → y < 256 → (x * 256 + y) / 256 ≡ x
high_again x y h = omega arith

low_again : (x y : ℕ) → y < 256 → (x * 256 + y) % 256 ≡ y
low_again x y h = omega arith

twice : (b : Bool) → not (not b) ≡ b
twice true = refl
twice false = refl

turned : (t b : Bool) → t ≡ not b → not t ≡ b
turned t b e = ap not e ∙ twice b

abbrev HoldsIn : List KeptCell → Entry → Seen → Option AbsState → Type 0
HoldsIn cells entry m o = IsSomeAnd o (λ t. Holds t cells entry m)

module _ (s : AbsState) (cells : List KeptCell) (entry : Entry) (m : Seen) (h : Holds s cells entry m) where
  pub pair_held : (pair : RegPair) → HoldsPair (pair_of pair s.pairs) entry (word_in pair m.regs)
  pair_held Af = h.pairs.af
  pair_held Bc = h.pairs.bc
  pair_held De = h.pairs.de
  pair_held Hl = h.pairs.hl
  pair_held Ix = h.pairs.ix
  pair_held Iy = h.pairs.iy
  pair_held AlternateAf = h.pairs.alternate_af
  pair_held AlternateBc = h.pairs.alternate_bc
  pair_held AlternateDe = h.pairs.alternate_de
  pair_held AlternateHl = h.pairs.alternate_hl

  pub pair_put : (pair : RegPair) (cut : Option Pair) → IsSomeAnd cut (λ p. HoldsPair p entry (word_in pair m.regs)) → HoldsIn cells entry m (with_cut_pair pair cut s)
  pair_put pair None k = k
  pair_put Af (Some q) k = let p = h.pairs in record { mode = h.mode; cells_hold = h.cells_hold; pairs = record { af = k; bc = p.bc; de = p.de; hl = p.hl; ix = p.ix; iy = p.iy; alternate_af = p.alternate_af; alternate_bc = p.alternate_bc; alternate_de = p.alternate_de; alternate_hl = p.alternate_hl }; flag = h.flag; shape = h.shape }
  pair_put Bc (Some q) k = let p = h.pairs in record { mode = h.mode; cells_hold = h.cells_hold; pairs = record { af = p.af; bc = k; de = p.de; hl = p.hl; ix = p.ix; iy = p.iy; alternate_af = p.alternate_af; alternate_bc = p.alternate_bc; alternate_de = p.alternate_de; alternate_hl = p.alternate_hl }; flag = h.flag; shape = h.shape }
  pair_put De (Some q) k = let p = h.pairs in record { mode = h.mode; cells_hold = h.cells_hold; pairs = record { af = p.af; bc = p.bc; de = k; hl = p.hl; ix = p.ix; iy = p.iy; alternate_af = p.alternate_af; alternate_bc = p.alternate_bc; alternate_de = p.alternate_de; alternate_hl = p.alternate_hl }; flag = h.flag; shape = h.shape }
  pair_put Hl (Some q) k = let p = h.pairs in record { mode = h.mode; cells_hold = h.cells_hold; pairs = record { af = p.af; bc = p.bc; de = p.de; hl = k; ix = p.ix; iy = p.iy; alternate_af = p.alternate_af; alternate_bc = p.alternate_bc; alternate_de = p.alternate_de; alternate_hl = p.alternate_hl }; flag = h.flag; shape = h.shape }
  pair_put Ix (Some q) k = let p = h.pairs in record { mode = h.mode; cells_hold = h.cells_hold; pairs = record { af = p.af; bc = p.bc; de = p.de; hl = p.hl; ix = k; iy = p.iy; alternate_af = p.alternate_af; alternate_bc = p.alternate_bc; alternate_de = p.alternate_de; alternate_hl = p.alternate_hl }; flag = h.flag; shape = h.shape }
  pair_put Iy (Some q) k = let p = h.pairs in record { mode = h.mode; cells_hold = h.cells_hold; pairs = record { af = p.af; bc = p.bc; de = p.de; hl = p.hl; ix = p.ix; iy = k; alternate_af = p.alternate_af; alternate_bc = p.alternate_bc; alternate_de = p.alternate_de; alternate_hl = p.alternate_hl }; flag = h.flag; shape = h.shape }
  pair_put AlternateAf (Some q) k = let p = h.pairs in record { mode = h.mode; cells_hold = h.cells_hold; pairs = record { af = p.af; bc = p.bc; de = p.de; hl = p.hl; ix = p.ix; iy = p.iy; alternate_af = k; alternate_bc = p.alternate_bc; alternate_de = p.alternate_de; alternate_hl = p.alternate_hl }; flag = h.flag; shape = h.shape }
  pair_put AlternateBc (Some q) k = let p = h.pairs in record { mode = h.mode; cells_hold = h.cells_hold; pairs = record { af = p.af; bc = p.bc; de = p.de; hl = p.hl; ix = p.ix; iy = p.iy; alternate_af = p.alternate_af; alternate_bc = k; alternate_de = p.alternate_de; alternate_hl = p.alternate_hl }; flag = h.flag; shape = h.shape }
  pair_put AlternateDe (Some q) k = let p = h.pairs in record { mode = h.mode; cells_hold = h.cells_hold; pairs = record { af = p.af; bc = p.bc; de = p.de; hl = p.hl; ix = p.ix; iy = p.iy; alternate_af = p.alternate_af; alternate_bc = p.alternate_bc; alternate_de = k; alternate_hl = p.alternate_hl }; flag = h.flag; shape = h.shape }
  pair_put AlternateHl (Some q) k = let p = h.pairs in record { mode = h.mode; cells_hold = h.cells_hold; pairs = record { af = p.af; bc = p.bc; de = p.de; hl = p.hl; ix = p.ix; iy = p.iy; alternate_af = p.alternate_af; alternate_bc = p.alternate_bc; alternate_de = p.alternate_de; alternate_hl = k }; flag = h.flag; shape = h.shape }

  pub word_cut : (pair : RegPair) (cut : Cut) → IsSomeAnd (cut (pair_of pair s.pairs).word) (λ range. Within range (word_in pair m.regs)) → HoldsIn cells entry m (cut_word pair cut s)
  word_cut pair cut w = pair_put pair _ (word_cut_keeps (pair_of pair s.pairs) entry _ (pair_held pair) _ w)

  pub word_cut_to : (pair : RegPair) (to : RangeView) → Within to (word_in pair m.regs) → HoldsIn cells entry m (cut_word pair (to_range to) s)
  word_cut_to pair to w = word_cut pair (to_range to) (intersection_keeps (pair_of pair s.pairs).word (word_in pair m.regs) (pair_held pair).word to w)

  pub word_known : (is : Bool) (pair : RegPair) (n : ℕ) → is ≡ eqb (word_in pair m.regs) n → HoldsIn cells entry m (word_is is pair n s)
  word_known true pair n e = let same : word_in pair m.regs ≡ n = eqb-true _ _ (sym e) in word_cut_to pair (single n) (omega arith)
  word_known false pair n e =
      let other : word_in pair m.regs ≢ n = search rules in
      word_cut pair (to_all_but n) (without_keeps (pair_of pair s.pairs).word (word_in pair m.regs) (pair_held pair).word n other)

  slot_lies : (n : ℕ) (part : Part) → Within (part_range part (get_or s.shape n full_slot).pair) (part_of part (slice_index m.words n))
  slot_lies n part = part_lies part _ entry _ (slot_held s.shape entry m.words n h.shape)

  slot_cut : (n : ℕ) (part : Part) (to : RangeView) → Within to (part_of part (slice_index m.words n)) → HoldsIn cells entry m (cut_slot n part to s)
  slot_cut n part to w =
      let put : (cut : Option Pair) → IsSomeAnd cut (λ q. HoldsPair q entry (slice_index m.words n)) → HoldsIn cells entry m (option_map (with_slot n s) cut) = elim [
        | None ↦ λ k. k
        | Some p ↦ λ k. record { mode = h.mode; cells_hold = h.cells_hold; pairs = h.pairs; flag = h.flag; shape = slot_put s.shape entry m.words n p h.shape k }
      ] in
      elim (cases_Bool (nat_lt n (length s.shape))) [
        | inl t ↦ rw t (put (cut_part part to (get_or s.shape n full_slot).pair) (part_cut part to _ entry _ (slot_held s.shape entry m.words n h.shape) w))
        | inr f ↦ rw f h
      ]

module _ (s : AbsState) (cells : List KeptCell) (entry : Entry) (m : Seen) (r : IsRegs m.regs) (h : Holds s cells entry m) where
  pub byte_lies : (register : Register8) → Within (byte_of register s.pairs) (byte_in register m.regs)
  byte_lies A = let low = r.main.f in let p = h.pairs.af.high in omega arith
  byte_lies B = let low = r.main.c in let p = h.pairs.bc.high in omega arith
  byte_lies C = let low = r.main.c in let p = h.pairs.bc.low in omega arith
  byte_lies D = let low = r.main.e in let p = h.pairs.de.high in omega arith
  byte_lies E = let low = r.main.e in let p = h.pairs.de.low in omega arith
  byte_lies H = let low = r.main.l in let p = h.pairs.hl.high in omega arith
  byte_lies L = let low = r.main.l in let p = h.pairs.hl.low in omega arith

  pub byte_cut : (register : Register8) (cut : Cut) → IsSomeAnd (cut (byte_of register s.pairs)) (λ range. Within range (byte_in register m.regs)) → HoldsIn cells entry m (cut_byte register cut s)
  byte_cut A cut w = pair_put s cells entry m h Af _ (high_cut_keeps s.pairs.af entry _ h.pairs.af _ (subst (λ (n : ℕ). IsSomeAnd (cut s.pairs.af.high) (λ range. Within range n)) (sym (high_again m.regs.main.a m.regs.main.f r.main.f)) w))
  byte_cut B cut w = pair_put s cells entry m h Bc _ (high_cut_keeps s.pairs.bc entry _ h.pairs.bc _ (subst (λ (n : ℕ). IsSomeAnd (cut s.pairs.bc.high) (λ range. Within range n)) (sym (high_again m.regs.main.b m.regs.main.c r.main.c)) w))
  byte_cut C cut w = pair_put s cells entry m h Bc _ (low_cut_keeps s.pairs.bc entry _ h.pairs.bc _ (subst (λ (n : ℕ). IsSomeAnd (cut s.pairs.bc.low) (λ range. Within range n)) (sym (low_again m.regs.main.b m.regs.main.c r.main.c)) w))
  byte_cut D cut w = pair_put s cells entry m h De _ (high_cut_keeps s.pairs.de entry _ h.pairs.de _ (subst (λ (n : ℕ). IsSomeAnd (cut s.pairs.de.high) (λ range. Within range n)) (sym (high_again m.regs.main.d m.regs.main.e r.main.e)) w))
  byte_cut E cut w = pair_put s cells entry m h De _ (low_cut_keeps s.pairs.de entry _ h.pairs.de _ (subst (λ (n : ℕ). IsSomeAnd (cut s.pairs.de.low) (λ range. Within range n)) (sym (low_again m.regs.main.d m.regs.main.e r.main.e)) w))
  byte_cut H cut w = pair_put s cells entry m h Hl _ (high_cut_keeps s.pairs.hl entry _ h.pairs.hl _ (subst (λ (n : ℕ). IsSomeAnd (cut s.pairs.hl.high) (λ range. Within range n)) (sym (high_again m.regs.main.h m.regs.main.l r.main.l)) w))
  byte_cut L cut w = pair_put s cells entry m h Hl _ (low_cut_keeps s.pairs.hl entry _ h.pairs.hl _ (subst (λ (n : ℕ). IsSomeAnd (cut s.pairs.hl.low) (λ range. Within range n)) (sym (low_again m.regs.main.h m.regs.main.l r.main.l)) w))

  pub byte_cut_to : (register : Register8) (to : RangeView) → Within to (byte_in register m.regs) → HoldsIn cells entry m (cut_byte register (to_range to) s)
  byte_cut_to register to w = byte_cut register (to_range to) (intersection_keeps (byte_of register s.pairs) (byte_in register m.regs) (byte_lies register) to w)

  -- ---- what a test says

  pub byte_known : (is : Bool) (register : Register8) (n : ℕ) → is ≡ eqb (byte_in register m.regs) n → HoldsIn cells entry m (byte_is is register n s)
  byte_known true register n e = let same : byte_in register m.regs ≡ n = eqb-true _ _ (sym e) in byte_cut_to register (single n) (omega arith)
  byte_known false register n e =
      let other : byte_in register m.regs ≢ n = search rules in
      byte_cut register (to_all_but n) (without_keeps (byte_of register s.pairs) (byte_in register m.regs) (byte_lies register) n other)

  below_known : (is : Bool) (n : ℕ) → is ≡ ltb m.regs.main.a n → HoldsIn cells entry m (a_is_below is n s)
  below_known true n e =
      let below : m.regs.main.a < n = search rules in
      let at : (t : Bool) → eqb n 0 ≡ t → HoldsIn cells entry m (cond t None (cut_byte A (to_range (let range : RangeView = record { low = 0; high = n - 1 } in range)) s)) =
      elim [
        | true ↦ λ q. let zero : n ≡ 0 = eqb-true _ _ q in absurd (omega arith)
        | false ↦ λ q. byte_cut_to A (record { low = 0; high = n - 1 }) (omega arith)
      ] in at (eqb n 0) refl
  below_known false n e =
      let not_below : n ≤ m.regs.main.a = search rules in
      let small = r.main.a in
      byte_cut_to A (record { low = n; high = 255 }) (omega arith)

  zero_known : (is : Bool) (fact : Option FlagFact) → HoldsFact fact m.regs → is ≡ (flags_of m.regs.main.f).zero → HoldsIn cells entry m (zero_is is fact s)
  zero_known is None told e = h
  zero_known is (Some (Zero register)) told e = byte_known is register 0 (e ∙ told)
  zero_known is (Some (Compared n)) told e = byte_known is A n (e ∙ told.1)

  carry_known : (is : Bool) (fact : Option FlagFact) → HoldsFact fact m.regs → is ≡ (flags_of m.regs.main.f).carry → HoldsIn cells entry m (carry_is is fact s)
  carry_known is None told e = h
  carry_known is (Some (Zero register)) told e = h
  carry_known is (Some (Compared n)) told e = below_known is n (e ∙ told.0)

  pub condition_known : (met : Bool) (condition : Condition) → met ≡ holds condition (flags_of m.regs.main.f) → HoldsIn cells entry m (condition_is met condition s)
  condition_known met conditions.Zero e = zero_known met s.flag h.flag e
  condition_known met conditions.NotZero e = zero_known (not met) s.flag h.flag (turned met _ e)
  condition_known met conditions.Carry e = carry_known met s.flag h.flag e
  condition_known met conditions.NotCarry e = carry_known (not met) s.flag h.flag (turned met _ e)
  condition_known met conditions.ParityOdd e = h
  condition_known met conditions.ParityEven e = h
  condition_known met conditions.Plus e = h
  condition_known met conditions.Minus e = h

  -- ---- variables

  pub variable_lies : (v : Variable) → Within (range_of s v) (value_in m v)
  variable_lies variables.A = byte_lies A
  variable_lies variables.B = byte_lies B
  variable_lies variables.C = byte_lies C
  variable_lies variables.D = byte_lies D
  variable_lies variables.E = byte_lies E
  variable_lies variables.H = byte_lies H
  variable_lies variables.L = byte_lies L
  variable_lies variables.Bc = h.pairs.bc.word
  variable_lies variables.De = h.pairs.de.word
  variable_lies variables.Hl = h.pairs.hl.word
  variable_lies variables.Ix = h.pairs.ix.word
  variable_lies variables.Iy = h.pairs.iy.word
  variable_lies (variables.Slot n part) = slot_lies s cells entry m h n part

  pub variable_cut : (v : Variable) (to : RangeView) → Within to (value_in m v) → HoldsIn cells entry m (cut_to s v to)
  variable_cut variables.A to w = byte_cut_to A to w
  variable_cut variables.B to w = byte_cut_to B to w
  variable_cut variables.C to w = byte_cut_to C to w
  variable_cut variables.D to w = byte_cut_to D to w
  variable_cut variables.E to w = byte_cut_to E to w
  variable_cut variables.H to w = byte_cut_to H to w
  variable_cut variables.L to w = byte_cut_to L to w
  variable_cut variables.Bc to w = word_cut_to s cells entry m h Bc to w
  variable_cut variables.De to w = word_cut_to s cells entry m h De to w
  variable_cut variables.Hl to w = word_cut_to s cells entry m h Hl to w
  variable_cut variables.Ix to w = word_cut_to s cells entry m h Ix to w
  variable_cut variables.Iy to w = word_cut_to s cells entry m h Iy to w
  variable_cut (variables.Slot n part) to w = slot_cut s cells entry m h n part to w

pub values_lie_in : (s : AbsState) (x : Variable → ℕ) (v : Variable) → HoldsValues s x → Within (range_of s v) (x v)
values_lie_in s x v h = subst (λ (n : ℕ). Within (range_of s v) n) (sym (h.values v)) (variable_lies s h.cells h.entry h.seen h.regs h.holds v)

pub cut_keeps_values : (s : AbsState) (x : Variable → ℕ) (v : Variable) (to : RangeView) → HoldsValues s x → Within to (x v) → IsSomeAnd (cut_to s v to) (λ t. HoldsValues t x)
cut_keeps_values s x v to h w =
    held (cut_to s v to) (variable_cut s h.cells h.entry h.seen h.regs h.holds v to (subst (λ (n : ℕ). Within to n) (h.values v) w))
  where
    held : (o : Option AbsState) → IsSomeAnd o (λ t. Holds t h.cells h.entry h.seen) → IsSomeAnd o (λ t. HoldsValues t x)
    held None k = k
    held (Some t) k = record { cells = h.cells; entry = h.entry; seen = h.seen; regs = h.regs; holds = k; values = h.values }
