-- The new conditions of each instruction are true of its draft.
use Rattle.std.proofs.Common.{◌≡◌, ◌∙◌, ℕ, ◌+◌, ◌/◌, ◌%◌, ◌<◌, Bool, true, false, not, eqb, ltb, leb, cond, List, [], ◌∷◌, Option, Some, None, refl, sym, ap, subst, arith}
use Rattle.std.specs.Prelude.{IfSome, pos, negsuc}
use Rattle.std.proofs.lemmas.Bool.{agree_below_at, eqb-true}
use Rattle.std.proofs.lemmas.Bool.Decides.{nat_tests}
use Rattle.std.proofs.lemmas.Int.{ints}
use Rattle.intervals.specs.Logic.{is_single}
use Rattle.intervals.specs.Range.{RangeView, Within}
use Rattle.loop_bounds.specs.Effect.{Valuation}
use Rattle.loop_bounds.specs.declared.variable.Variable.{Variable}
use Rattle.loop_bounds.specs.declared.variable.Variable.TheVariants as variables
use Rattle.z80_alu.proofs.FlagsLemmas.{flags_of-flags_byte}
use Rattle.z80_alu.specs.Add.{difference8, sum8_flags, difference8_flags, increment8_flags, decrement8_flags}
use Rattle.z80_alu.specs.Bits.{test_bit_flags}
use Rattle.z80_alu.specs.Digits.{daa_flags, rotate_digit_flags}
use Rattle.z80_alu.specs.Flags.{flags_byte, flags_of, has_bit}
use Rattle.z80_alu.specs.Load.{load_a_flags}
use Rattle.z80_alu.specs.Logic.{scf_flags}
use Rattle.z80_alu.specs.Rotate.{shift8_flags, rotate_a_flags}
use Rattle.z80_alu.specs.Shift.{shifted_out}
use Rattle.z80_alu.specs.Word.{word_of}
use Rattle.z80_alu.specs.Words.{sum16, difference16, sum16_flags, carried_sum16_flags, carried_difference16_flags}
use Rattle.z80_alu.specs.declared.flags.Flags.{Flags}
use Rattle.z80_alu.specs.declared.regs.Regs.{Regs}
use Rattle.z80_decode.specs.declared.instr.Instr.{Instr}
use Rattle.z80_decode.specs.declared.instr.Instr.TheVariants.{LoadASpecial, Arithmetic, Increment, Decrement, DecimalAdjust, Negate, SetCarry, AddHl, AdcHl, SbcHl, AddIndex, RotateA, Shift, RotateDigitsLeft, RotateDigitsRight, TestBit}
use Rattle.z80_decode.specs.declared.kinds.AccumulatorRotate.{AccumulatorRotate}
use Rattle.z80_decode.specs.declared.kinds.AccumulatorRotate.TheVariants as rotates
use Rattle.z80_decode.specs.declared.kinds.ArithmeticKind.{ArithmeticKind}
use Rattle.z80_decode.specs.Kinds.{bit}
use Rattle.z80_decode.specs.declared.kinds.Bit.{Bit}
use Rattle.z80_decode.specs.declared.kinds.Bit.TheVariants as bits
use Rattle.z80_decode.specs.declared.kinds.ShiftKind.{ShiftKind}
use Rattle.z80_decode.specs.declared.kinds.ShiftKind.TheVariants as shifts
use Rattle.z80_decode.specs.declared.operands.Index.{Index}
use Rattle.z80_decode.specs.declared.operands.Index.TheVariants as indexes
use Rattle.z80_decode.specs.declared.operands.IndexPair.{IndexPair}
use Rattle.z80_decode.specs.declared.operands.IndexPair.TheVariants as index_pairs
use Rattle.z80_decode.specs.declared.operands.Operand.{Operand}
use Rattle.z80_decode.specs.declared.operands.Operand.TheVariants as operands
use Rattle.z80_decode.specs.declared.operands.OperandPair.{OperandPair}
use Rattle.z80_decode.specs.declared.operands.OperandPair.TheVariants as operand_pairs
use Rattle.z80_decode.specs.declared.operands.Place.TheVariants as places
use Rattle.z80_decode.specs.declared.operands.Register8.{Register8}
use Rattle.z80_decode.specs.declared.operands.Register8.TheVariants as registers
use Rattle.z80_draft.specs.Arithmetic.{value_of, flags_after, rotation_named, shift_named}
use Rattle.z80_draft.specs.Draft.{DraftView, draft_byte, draft_on, draft_word, drafted, moved, past, with_result}
use Rattle.z80_draft.specs.Outside.{Outside}
use Rattle.z80_draft.specs.Registers.{IsRegs}
use Rattle.z80_moves.specs.Moves.{moves_of}
use Rattle.z80_moves.specs.Operands.{byte_register, index_pair_register, index_register, pair_register}
use Rattle.z80_moves.specs.declared.moves.Move.TheVariants as moves
use Rattle.z80_moves.specs.declared.moves.Move.TheVariants.{ReadByte}
use Rattle.z80_moves.specs.declared.registers.ByteRegister.TheVariants as bytes
use Rattle.z80_moves.specs.declared.registers.WordRegister.TheVariants as words
use Rattle.abs_state.specs.Seen.{Seen}
use Rattle.abs_state.specs.Variables.{value_in}
use Rattle.flag_parts.specs.Parts.{HoldsParts}
use Rattle.flag_letters.specs.declared.part.FlagPart.{FlagPart}
use Rattle.flag_conditions.specs.Linears.{one_term, no_terms, only, left_of_127, above_128}
use Rattle.flag_conditions.specs.NewConditions.{zero, zero_if_below, of_byte, of_hl, carry_if_below, word_sum_before, word_difference_before, rotate_before, shift_before, test_before, arithmetic_before, arithmetic_after, word_sum_after, new_before, new_after}
use Rattle.flag_conditions.specs.OperandTerm.{operand_term_of, term_of_memory, term_of_register, register_variable_of, variable_of_index, variable_of_other, word_of_index_pair, word_of_pair}
use Rattle.flag_conditions.specs.declared.byte_operand.OperandTerm.TheVariants.{Number}
use Rattle.flag_conditions.specs.declared.byte_operand.OtherRegister.{OtherRegister}
use Rattle.flag_conditions.specs.declared.byte_operand.OtherRegister.TheVariants as others
use Rattle.flag_conditions.specs.declared.word_operand.OperandWord.{OperandWord}
use Rattle.flag_conditions.specs.declared.word_operand.OperandWord.TheVariants as operand_words
use Rattle.flag_conditions.proofs.KeptFlags.{at_any}
use Rattle.flag_conditions.proofs.Operations.{none_hold, one_holds, two_hold, byte_holds, told_before, told_after}
use Rattle.flag_conditions.proofs.Values.{amount, below_at, zero_at, only_value, left_of_127_value, above_128_value, word_amount}
use Rattle.flag_conditions.proofs.WordOperations.{hl_told, sum_with_bc, sum_with_de, word_difference_told, word_sum_told, words_equal}

-- ---- numbers and flags

-- parts that hold of flags hold of equal flags
told_by : (parts : List FlagPart) (f g : Flags) (x : Valuation) → g ≡ f → HoldsParts parts f x → HoldsParts parts g x
told_by parts f g x e h = subst (λ (flags : Flags). HoldsParts parts flags x) (sym e) h

-- F is the byte of its flags
told_in_f : (parts : List FlagPart) (f : Flags) (x : Valuation) → HoldsParts parts f x → HoldsParts parts (flags_of (flags_byte f)) x
told_in_f parts f x h = told_by parts f (flags_of (flags_byte f)) x (flags_of-flags_byte f) h

-- of a machine whose F is that byte
told_in : (parts : List FlagPart) (f : Flags) (q : Seen) → q.regs.main.f ≡ flags_byte f → HoldsParts parts f (value_in q) → HoldsParts parts (flags_of q.regs.main.f) (value_in q)
told_in parts f q e h = told_by parts f (flags_of q.regs.main.f) (value_in q) (ap flags_of e ∙ flags_of-flags_byte f) h

-- C of a rotate or shift to the left
left_told : (v : Variable) (flags : Flags) (x : Valuation) → flags.carry ≡ ltb 127 (x v) → HoldsParts (carry_if_below (left_of_127 v) ∷ []) (flags_of (flags_byte flags)) x
left_told v flags x e =
    told_in_f (carry_if_below (left_of_127 v) ∷ []) flags x
    (one_holds flags x (carry_if_below (left_of_127 v)) (below_at flags.carry _ 127 (x v) e (left_of_127_value v x)))

bit_7 : (a : ℕ) → a < 256 → has_bit a 7 ≡ ltb 127 a
bit_7 a h = agree_below_at (λ n. has_bit n 7) (λ n. ltb 127 n) 256 a refl h

no_bit_7 : (a : ℕ) → a < 256 → not (has_bit a 7) ≡ ltb a 128
no_bit_7 a h = agree_below_at (λ n. not (has_bit n 7)) (λ n. ltb n 128) 256 a refl h

negation_zero : (a : ℕ) → a < 256 → eqb (difference8 0 a false) 0 ≡ eqb a 0
negation_zero a h = grind (arith, nat_tests)

rejoined : (s : ℕ) → word_of (s / 256) (s % 256) ≡ s
rejoined s = omega arith

-- a byte in memory whose range has one value
memory_operand : (byte : RangeView) (n : ℕ) (x : Valuation) → Within byte n → IfSome (term_of_memory byte) (λ z. amount z x ≡ n)
memory_operand byte n x w =
    let at : (t : Bool) → is_single byte ≡ t → IfSome (cond t (Some (Number byte.low)) None) (λ z. amount z x ≡ n) =
    elim [ true ↦ λ e. let one : byte.low ≡ byte.high = eqb-true _ _ e in omega arith | false ↦ λ e. tt ] in
    at (is_single byte) refl

-- ---- the values of a result

-- a register that got a byte, with new flags
value_after : (r : Register8) (v : ℕ) (flags : Flags) (e : DraftView) (q : Seen) → q.regs ≡ (with_result (byte_register r) v flags e).regs → value_in q (register_variable_of r) ≡ v
value_after registers.B v flags e q h = ap (λ (s : Regs). s.main.b) h
value_after registers.C v flags e q h = ap (λ (s : Regs). s.main.c) h
value_after registers.D v flags e q h = ap (λ (s : Regs). s.main.d) h
value_after registers.E v flags e q h = ap (λ (s : Regs). s.main.e) h
value_after registers.H v flags e q h = ap (λ (s : Regs). s.main.h) h
value_after registers.L v flags e q h = ap (λ (s : Regs). s.main.l) h
value_after registers.A v flags e q h = ap (λ (s : Regs). s.main.a) h

result_told : (r : Register8) (v : ℕ) (flags : Flags) (e : DraftView) (q : Seen) → q.regs ≡ (with_result (byte_register r) v flags e).regs → flags.zero ≡ eqb v 0 → flags.sign ≡ leb 128 v
    → HoldsParts (of_byte (register_variable_of r)) (flags_of q.regs.main.f) (value_in q)
result_told r v flags e q h z s =
    let is = value_after r v flags e q h in
    told_in (of_byte (register_variable_of r)) flags q (ap (λ (t : Regs). t.main.f) h)
    (byte_holds flags (value_in q) (register_variable_of r) (z ∙ ap (λ (n : ℕ). eqb n 0) (sym is)) (s ∙ ap (leb 128) (sym is)))

module _ (o : Outside) (m : Seen) (h : IsRegs m.regs) (byte : RangeView) (carry : Option Bool) (carry_is : IfSome carry (λ c. (flags_of m.regs.main.f).carry ≡ c)) (len : ℕ) where
  abbrev start : DraftView
  start = draft_on (past len m.regs)

  abbrev c : Bool
  c = (flags_of m.regs.main.f).carry

  abbrev x : Valuation
  x = value_in m

  -- the registers with another A and other flags
  abbrev with_a : ℕ → Flags → Regs
  with_a a flags = record (past len m.regs) { main = record m.regs.main { a = a; f = flags_byte flags } }

  -- ---- registers as operands

  register_small : (r : Register8) → draft_byte (byte_register r) start < 256
  register_small registers.B = h.main.b
  register_small registers.C = h.main.c
  register_small registers.D = h.main.d
  register_small registers.E = h.main.e
  register_small registers.H = h.main.h
  register_small registers.L = h.main.l
  register_small registers.A = h.main.a

  register_value : (r : Register8) → x (register_variable_of r) ≡ draft_byte (byte_register r) start
  register_value registers.B = refl
  register_value registers.C = refl
  register_value registers.D = refl
  register_value registers.E = refl
  register_value registers.H = refl
  register_value registers.L = refl
  register_value registers.A = refl

  register_amount : (r : Register8) → amount (term_of_register r) x ≡ draft_byte (byte_register r) start
  register_amount registers.B = refl
  register_amount registers.C = refl
  register_amount registers.D = refl
  register_amount registers.E = refl
  register_amount registers.H = refl
  register_amount registers.L = refl
  register_amount registers.A = refl

  pair_small : (ss : OperandPair) → draft_word (pair_register ss) start < 65536
  pair_small operand_pairs.Bc = let p = h.main.b in let q = h.main.c in omega arith
  pair_small operand_pairs.De = let p = h.main.d in let q = h.main.e in omega arith
  pair_small operand_pairs.Hl = let p = h.main.h in let q = h.main.l in omega arith
  pair_small operand_pairs.Sp = h.sp

  pair_amount : (ss : OperandPair) → IfSome (word_of_pair ss) (λ y. word_amount y variables.Hl x ≡ draft_word (pair_register ss) start)
  pair_amount operand_pairs.Bc = refl
  pair_amount operand_pairs.De = refl
  pair_amount operand_pairs.Hl = refl
  pair_amount operand_pairs.Sp = tt

  hl_small : x variables.Hl < 65536
  hl_small = pair_small operand_pairs.Hl

  index_pair_amount : (index : Index) (pp : IndexPair) → IfSome (word_of_index_pair pp) (λ y. word_amount y (variable_of_index index) x ≡ draft_word (index_pair_register index pp) start)
  index_pair_amount index index_pairs.Bc = refl
  index_pair_amount index index_pairs.De = refl
  index_pair_amount indexes.Ix index_pairs.Own = refl
  index_pair_amount indexes.Iy index_pairs.Own = refl
  index_pair_amount index index_pairs.Sp = tt

  index_value : (index : Index) → x (variable_of_index index) ≡ draft_word (index_register index) start
  index_value indexes.Ix = refl
  index_value indexes.Iy = refl

  -- ---- 8-bit arithmetic and logic

  arithmetic_told : (kind : ArithmeticKind) (s : Operand) (n : ℕ) → n < 256 → IfSome (operand_term_of s byte) (λ z. amount z x ≡ n)
      → HoldsParts (arithmetic_before kind s (operand_term_of s byte) carry) (flags_of (flags_byte (flags_after kind m.regs.main.a n c o.noise))) x
  arithmetic_told kind s n small is =
      told_in_f (arithmetic_before kind s (operand_term_of s byte) carry) (flags_after kind m.regs.main.a n c o.noise) x
      (told_before x n o.noise h.main.a small kind s byte c carry is carry_is)

  others_stay : (a : ℕ) (flags : Flags) (q : Seen) → q.regs ≡ with_a a flags → (r : OtherRegister) → value_in q (variable_of_other r) ≡ x (variable_of_other r)
  others_stay a flags q e others.B = ap (λ (s : Regs). s.main.b) e
  others_stay a flags q e others.C = ap (λ (s : Regs). s.main.c) e
  others_stay a flags q e others.D = ap (λ (s : Regs). s.main.d) e
  others_stay a flags q e others.E = ap (λ (s : Regs). s.main.e) e
  others_stay a flags q e others.H = ap (λ (s : Regs). s.main.h) e
  others_stay a flags q e others.L = ap (λ (s : Regs). s.main.l) e

  arithmetic_told_after : (kind : ArithmeticKind) (s : Operand) (n : ℕ) → n < 256 → IfSome (operand_term_of s byte) (λ z. amount z x ≡ n)
      → (q : Seen) → q.regs ≡ with_a (value_of kind m.regs.main.a n c) (flags_after kind m.regs.main.a n c o.noise)
      → HoldsParts (arithmetic_after kind (operand_term_of s byte) carry) (flags_of q.regs.main.f) (value_in q)
  arithmetic_told_after kind s n small is q e =
      told_in (arithmetic_after kind (operand_term_of s byte) carry) (flags_after kind m.regs.main.a n c o.noise) q (ap (λ (t : Regs). t.main.f) e)
      (told_after x n o.noise h.main.a small (value_in q) (others_stay (value_of kind m.regs.main.a n c) (flags_after kind m.regs.main.a n c o.noise) q e) kind (operand_term_of s byte) c carry is carry_is
      (ap (λ (t : Regs). t.main.a) e))

  -- ---- rotates and shifts

  rotate_told : (kind : AccumulatorRotate) → HoldsParts (rotate_before kind) (flags_of (flags_byte (rotate_a_flags (rotation_named kind) m.regs.main.a m.regs.main.f o.noise))) x
  unfolding rotate_a_flags shifted_out
  rotate_told rotates.Rlca = left_told variables.A (rotate_a_flags (rotation_named rotates.Rlca) m.regs.main.a m.regs.main.f o.noise) x (bit_7 _ h.main.a)
  rotate_told rotates.Rrca = none_hold _ x
  rotate_told rotates.Rla = left_told variables.A (rotate_a_flags (rotation_named rotates.Rla) m.regs.main.a m.regs.main.f o.noise) x (bit_7 _ h.main.a)
  rotate_told rotates.Rra = none_hold _ x

  -- the flags after a shift of a register
  abbrev shift_flags : ShiftKind → Register8 → Flags
  shift_flags kind r = shift8_flags (shift_named kind) (draft_byte (byte_register r) start) c o.noise

  left_shift_told : (r : Register8) (flags : Flags) → flags.carry ≡ has_bit (draft_byte (byte_register r) start) 7 → HoldsParts (carry_if_below (left_of_127 (register_variable_of r)) ∷ []) (flags_of (flags_byte flags)) x
  left_shift_told r flags e = left_told (register_variable_of r) flags x (e ∙ bit_7 _ (register_small r) ∙ ap (ltb 127) (sym (register_value r)))

  shift_told : (kind : ShiftKind) (r : Register8) → HoldsParts (shift_before kind r) (flags_of (flags_byte (shift_flags kind r))) x
  unfolding shift8_flags shifted_out
  shift_told shifts.Rlc r = left_shift_told r (shift_flags shifts.Rlc r) refl
  shift_told shifts.Rrc r = none_hold _ x
  shift_told shifts.Rl r = left_shift_told r (shift_flags shifts.Rl r) refl
  shift_told shifts.Rr r = none_hold _ x
  shift_told shifts.Sla r = left_shift_told r (shift_flags shifts.Sla r) refl
  shift_told shifts.Sra r = none_hold _ x
  shift_told shifts.Srl r = none_hold _ x

  -- ---- words

  abbrev sum_flags : ℕ → ℕ → Flags
  sum_flags a b = sum16_flags a b m.regs.main.f o.noise

  add_told : (v : Variable) (b : ℕ) (y : Option OperandWord) → IfSome y (λ z. word_amount z v x ≡ b) → HoldsParts (word_sum_before v y (Some false)) (flags_of (flags_byte (sum_flags (x v) b))) x
  unfolding sum16_flags
  add_told v b y is =
      told_in_f (word_sum_before v y (Some false)) (sum_flags (x v) b) x
      (word_sum_told (sum_flags (x v) b) x v b false y (Some false) is refl (ap (leb 65536) (omega arith)))

  adc_told : (ss : OperandPair) → HoldsParts (word_sum_before variables.Hl (word_of_pair ss) carry) (flags_of (flags_byte (carried_sum16_flags (x variables.Hl) (draft_word (pair_register ss) start) c o.noise))) x
  unfolding carried_sum16_flags
  adc_told ss =
      told_in_f (word_sum_before variables.Hl (word_of_pair ss) carry) (carried_sum16_flags (x variables.Hl) (draft_word (pair_register ss) start) c o.noise) x
      (word_sum_told (carried_sum16_flags (x variables.Hl) (draft_word (pair_register ss) start) c o.noise) x variables.Hl (draft_word (pair_register ss) start) c (word_of_pair ss) carry (pair_amount ss) carry_is refl)

  sbc_told : (ss : OperandPair) → HoldsParts (word_difference_before variables.Hl (word_of_pair ss) carry) (flags_of (flags_byte (carried_difference16_flags (x variables.Hl) (draft_word (pair_register ss) start) c o.noise))) x
  unfolding carried_difference16_flags
  sbc_told ss =
      told_in_f (word_difference_before variables.Hl (word_of_pair ss) carry) (carried_difference16_flags (x variables.Hl) (draft_word (pair_register ss) start) c o.noise) x
      (word_difference_told (carried_difference16_flags (x variables.Hl) (draft_word (pair_register ss) start) c o.noise) x variables.Hl (draft_word (pair_register ss) start) c (word_of_pair ss) carry (pair_amount ss) carry_is refl
      (λ e. ap (λ (t : Bool). eqb (difference16 (x variables.Hl) (draft_word (pair_register ss) start) t) 0) e ∙ words_equal (x variables.Hl) (draft_word (pair_register ss) start) hl_small (pair_small ss)))

  -- ---- others

  negated_told : HoldsParts (carry_if_below (one_term (pos 0) (negsuc 0) variables.A) ∷ zero (only variables.A) ∷ []) (flags_of (flags_byte (difference8_flags 0 m.regs.main.a false o.noise))) x
  unfolding difference8_flags
  negated_told =
      told_in_f (carry_if_below (one_term (pos 0) (negsuc 0) variables.A) ∷ zero (only variables.A) ∷ []) (difference8_flags 0 m.regs.main.a false o.noise) x
      (two_hold (difference8_flags 0 m.regs.main.a false o.noise) x (carry_if_below (one_term (pos 0) (negsuc 0) variables.A)) (zero (only variables.A))
      (below_at _ _ 0 (m.regs.main.a + 0) refl (omega (arith, ints))) (zero_at _ _ m.regs.main.a 0 (negation_zero _ h.main.a) (only_value variables.A x)))

  set_told : HoldsParts (carry_if_below (no_terms (negsuc 0)) ∷ []) (flags_of (flags_byte (scf_flags m.regs.main.f o.noise))) x
  unfolding scf_flags
  set_told =
      told_in_f (carry_if_below (no_terms (negsuc 0)) ∷ []) (scf_flags m.regs.main.f o.noise) x
      (one_holds (scf_flags m.regs.main.f o.noise) x (carry_if_below (no_terms (negsuc 0))) (below_at true _ 0 1 refl refl))

  tested_told : (r : Register8) → HoldsParts (zero_if_below (above_128 (register_variable_of r)) ∷ []) (flags_of (flags_byte (test_bit_flags 7 (draft_byte (byte_register r) start) m.regs.main.f o.noise))) x
  unfolding test_bit_flags
  tested_told r =
      told_in_f (zero_if_below (above_128 (register_variable_of r)) ∷ []) (test_bit_flags 7 (draft_byte (byte_register r) start) m.regs.main.f o.noise) x
      (one_holds (test_bit_flags 7 (draft_byte (byte_register r) start) m.regs.main.f o.noise) x (zero_if_below (above_128 (register_variable_of r)))
      (below_at _ _ (x (register_variable_of r)) 128 (no_bit_7 _ (register_small r) ∙ ap (λ (n : ℕ). ltb n 128) (sym (register_value r))) (above_128_value (register_variable_of r) x)))

  test_told : (b : Bit) (r : Register8) → HoldsParts (test_before b r) (flags_of (flags_byte (test_bit_flags (bit b) (draft_byte (byte_register r) start) m.regs.main.f o.noise))) x
  test_told bits.Seven r = tested_told r
  test_told _ r = none_hold _ x

  -- ---- each instruction, over the variables before

  abbrev IsTold : Instr → DraftView → Type 0
  IsTold instr d = d.operand < 256 → Within byte d.operand → HoldsParts (new_before instr byte carry) (flags_of d.regs.main.f) x

  pub each_before : (instr : Instr) → IsTold instr (drafted o (moves_of instr) start)
  unfolding new_before drafted moved
  each_before (Arithmetic kind (operands.Immediate n)) small w = arithmetic_told kind (operands.Immediate n) n small refl
  each_before (Arithmetic kind (operands.Place (places.Register r))) small w =
      arithmetic_told kind (operands.Place (places.Register r)) (draft_byte (byte_register r) start) (register_small r) (register_amount r)
  each_before (Arithmetic kind (operands.Place (places.Memory place))) small w =
      at_any o (IsTold (Arithmetic kind (operands.Place (places.Memory place)))) place (ReadByte bytes.Operand words.Pointer ∷ moves.Arithmetic kind bytes.Operand ∷ []) start
      (λ at few v. arithmetic_told kind (operands.Place (places.Memory place)) _ few (memory_operand byte _ x v)) small w
  each_before Negate small w = negated_told
  each_before SetCarry small w = set_told
  each_before (AddHl ss) small w = add_told variables.Hl (draft_word (pair_register ss) start) (word_of_pair ss) (pair_amount ss)
  each_before (AdcHl ss) small w = adc_told ss
  each_before (SbcHl ss) small w = sbc_told ss
  each_before (AddIndex indexes.Ix pp) small w =
      add_told variables.Ix (draft_word (index_pair_register indexes.Ix pp) start) (word_of_index_pair pp) (index_pair_amount indexes.Ix pp)
  each_before (AddIndex indexes.Iy pp) small w =
      add_told variables.Iy (draft_word (index_pair_register indexes.Iy pp) start) (word_of_index_pair pp) (index_pair_amount indexes.Iy pp)
  each_before (RotateA kind) small w = rotate_told kind
  each_before (Shift kind (places.Register r)) small w = shift_told kind r
  each_before (TestBit b (places.Register r)) small w = test_told b r
  each_before _ small w = none_hold _ x

  -- ---- over the variables after

  abbrev IsToldAfter : Instr → DraftView → Type 0
  IsToldAfter instr d = d.operand < 256 → Within byte d.operand → (q : Seen) → q.regs ≡ d.regs → HoldsParts (new_after instr byte carry) (flags_of q.regs.main.f) (value_in q)

  -- HL after ADC and SBC
  hl_after : (s : ℕ) (flags : Flags) (q : Seen) → q.regs.main.h ≡ s / 256 → q.regs.main.l ≡ s % 256 → q.regs.main.f ≡ flags_byte flags → flags.zero ≡ eqb s 0 → flags.sign ≡ leb 32768 s → HoldsParts of_hl (flags_of q.regs.main.f) (value_in q)
  hl_after s flags q e f g z n =
      told_in of_hl flags q g (hl_told flags (value_in q) s (ap (λ (j : ℕ). word_of j q.regs.main.l) e ∙ ap (word_of (s / 256)) f ∙ rejoined s) e z n)

  -- a word after ADD
  bc_after : (v : Variable) (q : Seen) → x v < 65536 → q.regs.main.f ≡ flags_byte (sum_flags (x v) (x variables.Bc)) → value_in q v ≡ sum16 (x v) (x variables.Bc) false → value_in q variables.Bc ≡ x variables.Bc
      → HoldsParts (word_sum_after v (Some operand_words.Bc)) (flags_of q.regs.main.f) (value_in q)
  unfolding sum16_flags
  bc_after v q small f e g =
      told_in (word_sum_after v (Some operand_words.Bc)) (sum_flags (x v) (x variables.Bc)) q f
      (sum_with_bc (sum_flags (x v) (x variables.Bc)) (value_in q) v (x v) (x variables.Bc) small (pair_small operand_pairs.Bc) e refl g)

  de_after : (v : Variable) (q : Seen) → x v < 65536 → q.regs.main.f ≡ flags_byte (sum_flags (x v) (x variables.De)) → value_in q v ≡ sum16 (x v) (x variables.De) false → value_in q variables.De ≡ x variables.De
      → HoldsParts (word_sum_after v (Some operand_words.De)) (flags_of q.regs.main.f) (value_in q)
  unfolding sum16_flags
  de_after v q small f e g =
      told_in (word_sum_after v (Some operand_words.De)) (sum_flags (x v) (x variables.De)) q f
      (sum_with_de (sum_flags (x v) (x variables.De)) (value_in q) v (x v) (x variables.De) small (pair_small operand_pairs.De) e refl g)

  add_hl_after : (ss : OperandPair) (q : Seen) → q.regs ≡ (drafted o (moves_of (AddHl ss)) start).regs → HoldsParts (word_sum_after variables.Hl (word_of_pair ss)) (flags_of q.regs.main.f) (value_in q)
  unfolding drafted moved
  add_hl_after operand_pairs.Bc q e =
      bc_after variables.Hl q hl_small (ap (λ (t : Regs). t.main.f) e) (ap (λ (t : Regs). word_of t.main.h t.main.l) e ∙ rejoined _) (ap (λ (t : Regs). word_of t.main.b t.main.c) e)
  add_hl_after operand_pairs.De q e =
      de_after variables.Hl q hl_small (ap (λ (t : Regs). t.main.f) e) (ap (λ (t : Regs). word_of t.main.h t.main.l) e ∙ rejoined _) (ap (λ (t : Regs). word_of t.main.d t.main.e) e)
  add_hl_after operand_pairs.Hl q e = none_hold _ (value_in q)
  add_hl_after operand_pairs.Sp q e = none_hold _ (value_in q)

  add_index_after : (index : Index) (pp : IndexPair) (q : Seen) → q.regs ≡ (drafted o (moves_of (AddIndex index pp)) start).regs
      → HoldsParts (word_sum_after (variable_of_index index) (word_of_index_pair pp)) (flags_of q.regs.main.f) (value_in q)
  unfolding drafted moved
  add_index_after indexes.Ix index_pairs.Bc q e =
      bc_after variables.Ix q h.ix (ap (λ (t : Regs). t.main.f) e) (ap (λ (t : Regs). t.ix) e) (ap (λ (t : Regs). word_of t.main.b t.main.c) e)
  add_index_after indexes.Ix index_pairs.De q e =
      de_after variables.Ix q h.ix (ap (λ (t : Regs). t.main.f) e) (ap (λ (t : Regs). t.ix) e) (ap (λ (t : Regs). word_of t.main.d t.main.e) e)
  add_index_after indexes.Iy index_pairs.Bc q e =
      bc_after variables.Iy q h.iy (ap (λ (t : Regs). t.main.f) e) (ap (λ (t : Regs). t.iy) e) (ap (λ (t : Regs). word_of t.main.b t.main.c) e)
  add_index_after indexes.Iy index_pairs.De q e =
      de_after variables.Iy q h.iy (ap (λ (t : Regs). t.main.f) e) (ap (λ (t : Regs). t.iy) e) (ap (λ (t : Regs). word_of t.main.d t.main.e) e)
  add_index_after index index_pairs.Own q e = none_hold _ (value_in q)
  add_index_after index index_pairs.Sp q e = none_hold _ (value_in q)

  pub each_after : (instr : Instr) → IsToldAfter instr (drafted o (moves_of instr) start)
  unfolding new_after drafted moved sum8_flags difference8_flags increment8_flags decrement8_flags daa_flags rotate_digit_flags load_a_flags shift8_flags carried_sum16_flags carried_difference16_flags
  each_after (LoadASpecial special) small w q e = result_told registers.A _ _ start q e refl refl
  each_after (Arithmetic kind (operands.Immediate n)) small w q e = arithmetic_told_after kind (operands.Immediate n) n small refl q e
  each_after (Arithmetic kind (operands.Place (places.Register r))) small w q e =
      arithmetic_told_after kind (operands.Place (places.Register r)) (draft_byte (byte_register r) start) (register_small r) (register_amount r) q e
  each_after (Arithmetic kind (operands.Place (places.Memory place))) small w q e =
      at_any o (IsToldAfter (Arithmetic kind (operands.Place (places.Memory place)))) place (ReadByte bytes.Operand words.Pointer ∷ moves.Arithmetic kind bytes.Operand ∷ []) start
      (λ at few v s f. arithmetic_told_after kind (operands.Place (places.Memory place)) _ few (memory_operand byte _ x v) s f) small w q e
  each_after (Increment (places.Register r)) small w q e = result_told r _ _ start q e refl refl
  each_after (Decrement (places.Register r)) small w q e = result_told r _ _ start q e refl refl
  each_after DecimalAdjust small w q e = result_told registers.A _ _ start q e refl refl
  each_after Negate small w q e = result_told registers.A _ _ start q e refl refl
  each_after (AddHl ss) small w q e = add_hl_after ss q e
  each_after (AdcHl ss) small w q e =
      hl_after (sum16 (x variables.Hl) (draft_word (pair_register ss) start) c) (carried_sum16_flags (x variables.Hl) (draft_word (pair_register ss) start) c o.noise) q
      (ap (λ (t : Regs). t.main.h) e) (ap (λ (t : Regs). t.main.l) e) (ap (λ (t : Regs). t.main.f) e) refl refl
  each_after (SbcHl ss) small w q e =
      hl_after (difference16 (x variables.Hl) (draft_word (pair_register ss) start) c) (carried_difference16_flags (x variables.Hl) (draft_word (pair_register ss) start) c o.noise) q
      (ap (λ (t : Regs). t.main.h) e) (ap (λ (t : Regs). t.main.l) e) (ap (λ (t : Regs). t.main.f) e) refl refl
  each_after (AddIndex index pp) small w q e = add_index_after index pp q e
  each_after (Shift kind (places.Register r)) small w q e = result_told r _ _ start q e refl refl
  each_after RotateDigitsLeft small w q e = result_told registers.A _ _ start q e refl refl
  each_after RotateDigitsRight small w q e = result_told registers.A _ _ start q e refl refl
  each_after _ small w q e = none_hold _ (value_in q)
