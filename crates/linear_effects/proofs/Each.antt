-- The linear effect of each instruction is true of its draft.
use Rattle.std.proofs.Common.{◌≡◌, ◌∙◌, ℕ, ◌-◌, ◌/◌, ◌%◌, ◌<◌, Bool, false, [], ◌∷◌, Option, Some, None, length, refl, sym, ap, subst, arith}
use Rattle.std.specs.Prelude.{IfSome, pos}
use Rattle.intervals.specs.Domain.{Entry}
use Rattle.intervals.specs.Range.{RangeView, Within}
use Rattle.loop_bounds.specs.Effect.{Valuation, whole}
use Rattle.loop_bounds.specs.Linear.{LinearView, value}
use Rattle.loop_bounds.specs.declared.variable.Variable.{Variable}
use Rattle.loop_bounds.specs.declared.variable.Variable.TheVariants as variables
use Rattle.z80_alu.specs.Flags.{flags_of}
use Rattle.z80_alu.specs.Add.{difference8}
use Rattle.z80_alu.specs.Word.{word_of}
use Rattle.z80_alu.specs.Words.{sum16, difference16}
use Rattle.z80_alu.specs.declared.regs.Regs.{Regs}
use Rattle.z80_decode.specs.Spelling.{spelling}
use Rattle.z80_decode.specs.declared.instr.Instr.{Instr}
use Rattle.z80_decode.specs.declared.instr.Instr.TheVariants.{Arithmetic, Complement, Negate, AddHl, AdcHl, SbcHl, AddIndex}
use Rattle.z80_decode.specs.declared.kinds.ArithmeticKind.{ArithmeticKind}
use Rattle.z80_decode.specs.declared.operands.Index.{Index}
use Rattle.z80_decode.specs.declared.operands.Index.TheVariants as indexes
use Rattle.z80_decode.specs.declared.operands.IndexPair.{IndexPair}
use Rattle.z80_decode.specs.declared.operands.IndexPair.TheVariants as index_pairs
use Rattle.z80_decode.specs.declared.operands.Operand.{Operand}
use Rattle.z80_decode.specs.declared.operands.Operand.TheVariants as operands
use Rattle.z80_decode.specs.declared.operands.OperandPair.{OperandPair}
use Rattle.z80_decode.specs.declared.operands.OperandPair.TheVariants as operand_pairs
use Rattle.z80_decode.specs.declared.operands.Place.TheVariants as places
use Rattle.z80_decode.specs.declared.operands.Register8.{Register8}
use Rattle.z80_decode.specs.declared.operands.Register8.TheVariants as registers
use Rattle.z80_draft.specs.Arithmetic.{value_of}
use Rattle.z80_draft.specs.Draft.{DraftView, draft_byte, draft_of, draft_on, draft_word, drafted, moved, past}
use Rattle.z80_draft.specs.Outside.{Outside}
use Rattle.z80_draft.specs.Registers.{IsRegs}
use Rattle.z80_moves.specs.Moves.{moves_of}
use Rattle.z80_moves.specs.Operands.{byte_register, index_pair_register, pair_register}
use Rattle.z80_moves.specs.declared.moves.Move.TheVariants as moves
use Rattle.z80_moves.specs.declared.moves.Move.TheVariants.{ReadByte}
use Rattle.z80_moves.specs.declared.registers.ByteRegister.TheVariants as bytes
use Rattle.z80_moves.specs.declared.registers.WordRegister.TheVariants as words
use Rattle.abs_state.specs.Pairs.{HoldsPairs}
use Rattle.abs_state.specs.Registers.{byte_of}
use Rattle.abs_state.specs.Seen.{Seen}
use Rattle.abs_state.specs.Variables.{value_in}
use Rattle.abs_state.specs.declared.pairs.Pairs.{Pairs}
use Rattle.flag_conditions.specs.OperandTerm.{operand_term_of, term_of_memory, term_of_register, word_of_index_pair, word_of_pair}
use Rattle.flag_conditions.specs.declared.byte_operand.OperandTerm.TheVariants.{Number}
use Rattle.linear_effects.specs.ByteEffects.{operand_range, arithmetic_effect, negate_effect, complemented}
use Rattle.linear_effects.specs.Carried.{carried_if, carried_range}
use Rattle.linear_effects.specs.Effects.{BecomesSo, IsDescribed, IsTrueEffect, effect_of, becoming}
use Rattle.linear_effects.specs.WordEffects.{word_sum_effect, word_difference_effect}
use Rattle.linear_effects.specs.declared.variable_effect.LinearEffect.{LinearEffect}
use Rattle.linear_effects.proofs.Bytes.{worth, operation_is, negation_is, complement_is}
use Rattle.linear_effects.proofs.CarriedValues.{carried_is}
use Rattle.linear_effects.proofs.Numbers.{if_true}
use Rattle.linear_effects.proofs.Words.{IsKnownWord, word_sum_is, word_difference_is}
use Rattle.intervals.specs.Logic.{is_single}
use Rattle.std.proofs.lemmas.Bool.{eqb-true}
use Rattle.flag_conditions.proofs.KeptFlags.{at_any}

rejoined : (s : ℕ) → word_of (s / 256) (s % 256) ≡ s
rejoined s = omega arith

-- a byte in memory whose range has one value
memory_worth : (byte : RangeView) (n : ℕ) (x : Valuation) → Within byte n → IfSome (term_of_memory byte) (λ z. worth z x ≡ n)
memory_worth byte n x w =
    if_true (is_single byte) (Number byte.low) (λ z. worth z x ≡ n) (λ e. let one : byte.low ≡ byte.high = eqb-true _ _ e in omega arith)

module _ (o : Outside) (m : Seen) (h : IsRegs m.regs) (pairs : Pairs) (entry : Entry) (p : HoldsPairs pairs entry m.regs) (byte : RangeView) (carry : Option Bool) (carry_is : IfSome carry (λ c. (flags_of m.regs.main.f).carry ≡ c)) (len : ℕ) where
  abbrev start : DraftView
  start = draft_on (past len m.regs)

  abbrev c : Bool
  c = (flags_of m.regs.main.f).carry

  abbrev x : Valuation
  x = value_in m

  -- a variable of the machine with these registers has the value of the linear
  abbrev Becomes : Regs → LinearEffect → Type 0
  Becomes regs e = (q : Seen) → q.regs ≡ regs → pos (value_in q e.variable) ≡ value (whole x) e.linear

  abbrev IsShown : Instr → DraftView → Type 0
  IsShown instr d = d.operand < 256 → Within byte d.operand → IfSome (effect_of instr pairs byte carry) (Becomes d.regs)

  -- a number that is the value of the linear, and that the variable has after the draft
  shown : (v : Variable) (s : Option LinearView) (r : ℕ) (regs : Regs) → ((q : Seen) → q.regs ≡ regs → value_in q v ≡ r) → IfSome s (λ t. pos r ≡ value (whole x) t) → IfSome (becoming v s) (Becomes regs)
  shown v None r regs e k = tt
  shown v (Some t) r regs e k = λ q f. ap pos (e q f) ∙ k

  -- ---- operands

  high_part : (a b : ℕ) → b < 256 → word_of a b / 256 ≡ a
  high_part a b f = omega arith

  low_part : (a b : ℕ) → b < 256 → word_of a b % 256 ≡ b
  low_part a b f = omega arith

  register_within : (r : Register8) → Within (byte_of r pairs) (draft_byte (byte_register r) start)
  register_within registers.B = subst (Within pairs.bc.high) (high_part _ _ h.main.c) p.bc.high
  register_within registers.C = subst (Within pairs.bc.low) (low_part _ _ h.main.c) p.bc.low
  register_within registers.D = subst (Within pairs.de.high) (high_part _ _ h.main.e) p.de.high
  register_within registers.E = subst (Within pairs.de.low) (low_part _ _ h.main.e) p.de.low
  register_within registers.H = subst (Within pairs.hl.high) (high_part _ _ h.main.l) p.hl.high
  register_within registers.L = subst (Within pairs.hl.low) (low_part _ _ h.main.l) p.hl.low
  register_within registers.A = subst (Within pairs.af.high) (high_part _ _ h.main.f) p.af.high

  register_small : (r : Register8) → draft_byte (byte_register r) start < 256
  register_small registers.B = h.main.b
  register_small registers.C = h.main.c
  register_small registers.D = h.main.d
  register_small registers.E = h.main.e
  register_small registers.H = h.main.h
  register_small registers.L = h.main.l
  register_small registers.A = h.main.a

  register_worth : (r : Register8) → worth (term_of_register r) x ≡ draft_byte (byte_register r) start
  register_worth registers.B = refl
  register_worth registers.C = refl
  register_worth registers.D = refl
  register_worth registers.E = refl
  register_worth registers.H = refl
  register_worth registers.L = refl
  register_worth registers.A = refl

  bc_small : x variables.Bc < 65536
  bc_small = let f = h.main.b in let g = h.main.c in omega arith

  de_small : x variables.De < 65536
  de_small = let f = h.main.d in let g = h.main.e in omega arith

  hl_small : x variables.Hl < 65536
  hl_small = let f = h.main.h in let g = h.main.l in omega arith

  pair_small : (ss : OperandPair) → draft_word (pair_register ss) start < 65536
  pair_small operand_pairs.Bc = bc_small
  pair_small operand_pairs.De = de_small
  pair_small operand_pairs.Hl = hl_small
  pair_small operand_pairs.Sp = h.sp

  pair_known : (ss : OperandPair) → IfSome (word_of_pair ss) (IsKnownWord x variables.Hl (draft_word (pair_register ss) start) pairs.hl.word pairs)
  pair_known operand_pairs.Bc = record { is = refl; within = p.bc.word }
  pair_known operand_pairs.De = record { is = refl; within = p.de.word }
  pair_known operand_pairs.Hl = record { is = refl; within = p.hl.word }
  pair_known operand_pairs.Sp = tt

  index_pair_small : (index : Index) (pp : IndexPair) → draft_word (index_pair_register index pp) start < 65536
  index_pair_small index index_pairs.Bc = bc_small
  index_pair_small index index_pairs.De = de_small
  index_pair_small indexes.Ix index_pairs.Own = h.ix
  index_pair_small indexes.Iy index_pairs.Own = h.iy
  index_pair_small index index_pairs.Sp = h.sp

  ix_known : (pp : IndexPair) → IfSome (word_of_index_pair pp) (IsKnownWord x variables.Ix (draft_word (index_pair_register indexes.Ix pp) start) pairs.ix.word pairs)
  ix_known index_pairs.Bc = record { is = refl; within = p.bc.word }
  ix_known index_pairs.De = record { is = refl; within = p.de.word }
  ix_known index_pairs.Own = record { is = refl; within = p.ix.word }
  ix_known index_pairs.Sp = tt

  iy_known : (pp : IndexPair) → IfSome (word_of_index_pair pp) (IsKnownWord x variables.Iy (draft_word (index_pair_register indexes.Iy pp) start) pairs.iy.word pairs)
  iy_known index_pairs.Bc = record { is = refl; within = p.bc.word }
  iy_known index_pairs.De = record { is = refl; within = p.de.word }
  iy_known index_pairs.Own = record { is = refl; within = p.iy.word }
  iy_known index_pairs.Sp = tt

  -- ---- each instruction

  arithmetic_is : (s : Operand) (n : ℕ) → n < 256 → Within (operand_range s pairs byte) n → IfSome (operand_term_of s byte) (λ z. worth z x ≡ n)
      → (kind : ArithmeticKind) → IfSome (arithmetic_effect kind (operand_term_of s byte) carry pairs.af.high (operand_range s pairs byte)) (λ t. pos (value_of kind m.regs.main.a n c) ≡ value (whole x) t)
  arithmetic_is s n small w is kind = operation_is x n pairs.af.high (operand_range s pairs byte) h.main.a small (register_within registers.A) w kind (operand_term_of s byte) c carry is carry_is

  -- A after an operation
  a_shown : (kind : ArithmeticKind) (s : Operand) (n : ℕ) (regs : Regs) → regs.main.a ≡ value_of kind m.regs.main.a n c → n < 256 → Within (operand_range s pairs byte) n → IfSome (operand_term_of s byte) (λ z. worth z x ≡ n)
      → IfSome (becoming variables.A (arithmetic_effect kind (operand_term_of s byte) carry pairs.af.high (operand_range s pairs byte))) (Becomes regs)
  a_shown kind s n regs is small w known =
      shown variables.A (arithmetic_effect kind (operand_term_of s byte) carry pairs.af.high (operand_range s pairs byte)) (value_of kind m.regs.main.a n c) regs
      (λ q e. ap (λ (t : Regs). t.main.a) e ∙ is) (arithmetic_is s n small w known kind)

  -- HL after an operation
  hl_shown : (s : Option LinearView) (r : ℕ) (regs : Regs) → regs.main.h ≡ r / 256 → regs.main.l ≡ r % 256 → IfSome s (λ t. pos r ≡ value (whole x) t) → IfSome (becoming variables.Hl s) (Becomes regs)
  hl_shown s r regs e f k =
      shown variables.Hl s r regs
      (λ q g. ap (λ (t : Regs). word_of t.main.h t.main.l) g ∙ ap (λ (j : ℕ). word_of j regs.main.l) e ∙ ap (word_of (r / 256)) f ∙ rejoined r) k

  pub each_shown : (instr : Instr) → IsShown instr (drafted o (moves_of instr) start)
  unfolding effect_of drafted moved
  each_shown (Arithmetic kind (operands.Immediate n)) small w = a_shown kind (operands.Immediate n) n _ refl small (omega arith) refl
  each_shown (Arithmetic kind (operands.Place (places.Register r))) small w =
      a_shown kind (operands.Place (places.Register r)) (draft_byte (byte_register r) start) _ refl (register_small r) (register_within r) (register_worth r)
  each_shown (Arithmetic kind (operands.Place (places.Memory place))) small w =
      at_any o (IsShown (Arithmetic kind (operands.Place (places.Memory place)))) place (ReadByte bytes.Operand words.Pointer ∷ moves.Arithmetic kind bytes.Operand ∷ []) start
      (λ at few v. a_shown kind (operands.Place (places.Memory place)) (o.read false at) _ refl few v (memory_worth byte (o.read false at) x v)) small w
  each_shown Complement small w =
      shown variables.A (Some complemented) (255 - m.regs.main.a) _ (λ q e. ap (λ (t : Regs). t.main.a) e) (complement_is x pairs.af.high h.main.a (register_within registers.A))
  each_shown Negate small w =
      shown variables.A (negate_effect pairs.af.high) (difference8 0 m.regs.main.a false) _ (λ q e. ap (λ (t : Regs). t.main.a) e) (negation_is x pairs.af.high h.main.a (register_within registers.A))
  each_shown (AddHl ss) small w =
      hl_shown (word_sum_effect variables.Hl pairs.hl.word (word_of_pair ss) (Some false) pairs) (sum16 (x variables.Hl) (draft_word (pair_register ss) start) false) _ refl refl
      (word_sum_is x variables.Hl (draft_word (pair_register ss) start) pairs.hl.word pairs hl_small (pair_small ss) p.hl.word false (word_of_pair ss) (Some false) (pair_known ss) refl)
  each_shown (AdcHl ss) small w =
      hl_shown (word_sum_effect variables.Hl pairs.hl.word (word_of_pair ss) carry pairs) (sum16 (x variables.Hl) (draft_word (pair_register ss) start) c) _ refl refl
      (word_sum_is x variables.Hl (draft_word (pair_register ss) start) pairs.hl.word pairs hl_small (pair_small ss) p.hl.word c (word_of_pair ss) carry (pair_known ss) carry_is)
  each_shown (SbcHl ss) small w =
      hl_shown (word_difference_effect variables.Hl pairs.hl.word (word_of_pair ss) carry pairs) (difference16 (x variables.Hl) (draft_word (pair_register ss) start) c) _ refl refl
      (word_difference_is x variables.Hl (draft_word (pair_register ss) start) pairs.hl.word pairs hl_small (pair_small ss) p.hl.word c (word_of_pair ss) carry (pair_known ss) carry_is)
  each_shown (AddIndex indexes.Ix pp) small w =
      shown variables.Ix (word_sum_effect variables.Ix pairs.ix.word (word_of_index_pair pp) (Some false) pairs) (sum16 m.regs.ix (draft_word (index_pair_register indexes.Ix pp) start) false) _ (λ q e. ap (λ (t : Regs). t.ix) e)
      (word_sum_is x variables.Ix (draft_word (index_pair_register indexes.Ix pp) start) pairs.ix.word pairs h.ix (index_pair_small indexes.Ix pp) p.ix.word false (word_of_index_pair pp) (Some false) (ix_known pp) refl)
  each_shown (AddIndex indexes.Iy pp) small w =
      shown variables.Iy (word_sum_effect variables.Iy pairs.iy.word (word_of_index_pair pp) (Some false) pairs) (sum16 m.regs.iy (draft_word (index_pair_register indexes.Iy pp) start) false) _ (λ q e. ap (λ (t : Regs). t.iy) e)
      (word_sum_is x variables.Iy (draft_word (index_pair_register indexes.Iy pp) start) pairs.iy.word pairs h.iy (index_pair_small indexes.Iy pp) p.iy.word false (word_of_index_pair pp) (Some false) (iy_known pp) refl)
  each_shown _ small w = tt

  -- ---- A after ADC and SBC

  abbrev IsRanged : Instr → DraftView → Type 0
  IsRanged instr d = d.operand < 256 → Within byte d.operand → IfSome (carried_range instr pairs byte carry) (λ r. (q : Seen) → q.regs ≡ d.regs → Within r (value_in q variables.A))

  a_ranged : (kind : ArithmeticKind) (s : Operand) (n : ℕ) (regs : Regs) → regs.main.a ≡ value_of kind m.regs.main.a n c → n < 256 → Within (operand_range s pairs byte) n
      → IfSome (carried_if kind pairs.af.high (operand_range s pairs byte) carry) (λ r. (q : Seen) → q.regs ≡ regs → Within r (value_in q variables.A))
  a_ranged kind s n regs is small w =
      there (carried_if kind pairs.af.high (operand_range s pairs byte) carry) (carried_is kind pairs.af.high (operand_range s pairs byte) m.regs.main.a n c carry h.main.a small (register_within registers.A) w carry_is)
    where
      there : (range : Option RangeView) → IfSome range (λ r. Within r (value_of kind m.regs.main.a n c)) → IfSome range (λ r. (q : Seen) → q.regs ≡ regs → Within r (value_in q variables.A))
      there None k = tt
      there (Some r) k = λ q e. subst (Within r) (sym (ap (λ (t : Regs). t.main.a) e ∙ is)) k

  pub each_ranged : (instr : Instr) → IsRanged instr (drafted o (moves_of instr) start)
  unfolding carried_range drafted moved
  each_ranged (Arithmetic kind (operands.Immediate n)) small w = a_ranged kind (operands.Immediate n) n _ refl small (omega arith)
  each_ranged (Arithmetic kind (operands.Place (places.Register r))) small w =
      a_ranged kind (operands.Place (places.Register r)) (draft_byte (byte_register r) start) _ refl (register_small r) (register_within r)
  each_ranged (Arithmetic kind (operands.Place (places.Memory place))) small w =
      at_any o (IsRanged (Arithmetic kind (operands.Place (places.Memory place)))) place (ReadByte bytes.Operand words.Pointer ∷ moves.Arithmetic kind bytes.Operand ∷ []) start
      (λ at few v. a_ranged kind (operands.Place (places.Memory place)) (o.read false at) _ refl few v) small w
  each_ranged _ small w = tt

-- an effect that is true of each machine by itself
pub gather : {X Y : Type 0} (effect : Option X) (Q : Y → X → Type 0) → ((y : Y) → IfSome effect (Q y)) → IfSome effect (λ e. (y : Y) → Q y e)
gather None Q h = tt
gather (Some e) Q h = λ y. h y

-- a machine that is as described, with what is outside it
pub record Described (instr : Instr) (pairs : Pairs) (byte : RangeView) (carry : Option Bool) : Type 0 where
  pub o : Outside
  pub entry : Entry
  pub m : Seen
  pub described : IsDescribed instr pairs byte carry o entry m

opened : (effect : Option LinearEffect) (instr : Instr) (pairs : Pairs) (byte : RangeView) (carry : Option Bool) → IfSome effect (λ e. (y : Described instr pairs byte carry) → BecomesSo e y.m (draft_of y.o y.m.regs instr))
    → IsTrueEffect effect instr pairs byte carry
unfolding IsTrueEffect
opened None instr pairs byte carry h = tt
opened (Some e) instr pairs byte carry h = λ o entry m d. h (record { o = o; entry = entry; m = m; described = d })

pub effects_true : (instr : Instr) (pairs : Pairs) (byte : RangeView) (carry : Option Bool) → IsTrueEffect (effect_of instr pairs byte carry) instr pairs byte carry
unfolding IsTrueEffect
effects_true instr pairs byte carry =
    let all : IfSome (effect_of instr pairs byte carry) (λ e. (y : Described instr pairs byte carry) → BecomesSo e y.m (draft_of y.o y.m.regs instr)) =
    gather {X = LinearEffect} {Y = Described instr pairs byte carry} (effect_of instr pairs byte carry) (λ y e. BecomesSo e y.m (draft_of y.o y.m.regs instr))
    (λ y. each_shown y.o y.m y.described.regs pairs y.entry y.described.pairs_hold byte carry y.described.carry_is (length (spelling instr)) instr y.described.operand_byte y.described.operand_within) in
    opened (effect_of instr pairs byte carry) instr pairs byte carry all

-- effects that are those of the table
pub table_effects_true : (effect : Option LinearEffect) (instr : Instr) (pairs : Pairs) (byte : RangeView) (carry : Option Bool) → effect ≡ effect_of instr pairs byte carry → IsTrueEffect effect instr pairs byte carry
table_effects_true effect instr pairs byte carry e = subst (λ (f : Option LinearEffect). IsTrueEffect f instr pairs byte carry) (sym e) (effects_true instr pairs byte carry)
