-- The coefficients of linear effects are small.
use Rattle.std.proofs.Common.{◌≡◌, ◌≤◌, ℕ, Bool, true, false, cond, List, [], ◌∷◌, All, Option, Some, None, arith, sym, subst, unsigned_abs}
use Rattle.std.specs.Prelude.{IfSome, option_map}
use Rattle.std.proofs.lemmas.List.Elements.{All-cons, All-nil}
use Rattle.intervals.specs.Range.{RangeView}
use Rattle.loop_bounds.specs.Linear.{LinearView}
use Rattle.loop_bounds.specs.declared.linear.Term.{Term}
use Rattle.loop_bounds.specs.declared.variable.Variable.{Variable}
use Rattle.loop_bounds.specs.declared.variable.Variable.TheVariants as variables
use Rattle.z80_decode.specs.declared.instr.Instr.{Instr}
use Rattle.z80_decode.specs.declared.instr.Instr.TheVariants.{Arithmetic, Complement, Negate, AddHl, AdcHl, SbcHl, AddIndex}
use Rattle.z80_decode.specs.declared.kinds.ArithmeticKind.{ArithmeticKind}
use Rattle.z80_decode.specs.declared.kinds.ArithmeticKind.TheVariants as operations
use Rattle.abs_state.specs.declared.pairs.Pairs.{Pairs}
use Rattle.flag_conditions.specs.OperandTerm.{operand_term_of, variable_of_index, word_of_index_pair, word_of_pair}
use Rattle.flag_conditions.specs.declared.byte_operand.OperandTerm.{OperandTerm}
use Rattle.flag_conditions.specs.declared.byte_operand.OperandTerm.TheVariants.{A, Other, Number}
use Rattle.flag_conditions.specs.declared.word_operand.OperandWord.{OperandWord}
use Rattle.flag_conditions.specs.declared.word_operand.OperandWord.TheVariants.{Bc, De, Own}
use Rattle.linear_effects.specs.Bits.{has_all, is_above}
use Rattle.linear_effects.specs.ByteEffects.{above_effect, and_effect, arithmetic_effect, byte_difference, byte_sum, complemented, difference_effect, negate_effect, operand_range, or_effect, sum_effect, xor_effect}
use Rattle.linear_effects.specs.Effects.{HasSlightTerms, becoming, effect_of}
use Rattle.linear_effects.specs.WordEffects.{index_range, word_difference, word_difference_effect, word_sum, word_sum_effect}
use Rattle.linear_effects.specs.declared.variable_effect.LinearEffect.{LinearEffect}

-- ---- terms

abbrev AreSlight : List Term → Type 0
AreSlight ts = All (λ t. unsigned_abs t.coefficient ≤ 256) ts

abbrev IsSlight : LinearView → Type 0
IsSlight s = AreSlight s.terms

no_terms_slight : AreSlight []
no_terms_slight = All-nil (λ t. unsigned_abs t.coefficient ≤ 256)

one_slight : (t : Term) → unsigned_abs t.coefficient ≤ 256 → AreSlight (t ∷ [])
one_slight t h = All-cons (λ t. unsigned_abs t.coefficient ≤ 256) t [] h no_terms_slight

two_slight : (t u : Term) → unsigned_abs t.coefficient ≤ 256 → unsigned_abs u.coefficient ≤ 256 → AreSlight (t ∷ u ∷ [])
two_slight t u h k = All-cons (λ t. unsigned_abs t.coefficient ≤ 256) t (u ∷ []) h (one_slight u k)

-- ---- options

mapped : {X : Type 0} (o : Option X) (f : X → LinearView) → ((x : X) → IsSlight (f x)) → IfSome (option_map f o) IsSlight
mapped None f h = tt
mapped (Some x) f h = h x

chosen : (b : Bool) (s : LinearView) → IsSlight s → IfSome (cond b (Some s) None) IsSlight
chosen true s h = h
chosen false s h = tt

becoming_slight : (v : Variable) (o : Option LinearView) → IfSome o IsSlight → IfSome (becoming v o) HasSlightTerms
becoming_slight v None h = tt
becoming_slight v (Some s) h = h

-- ---- bytes

byte_sum_slight : (k : Bool) (x : OperandTerm) (q : ℕ) → IsSlight (byte_sum k x q)
byte_sum_slight k A q = one_slight _ (omega arith)
byte_sum_slight k (Other r) q = two_slight _ _ (omega arith) (omega arith)
byte_sum_slight k (Number n) q = one_slight _ (omega arith)

byte_difference_slight : (k : Bool) (x : OperandTerm) (q : ℕ) → IsSlight (byte_difference k x q)
byte_difference_slight k A q = no_terms_slight
byte_difference_slight k (Other r) q = two_slight _ _ (omega arith) (omega arith)
byte_difference_slight k (Number n) q = one_slight _ (omega arith)

sum_slight : (x : Option OperandTerm) (carry : Option Bool) (a b : RangeView) → IfSome (sum_effect x carry a b) IsSlight
sum_slight (Some x) (Some k) a b = mapped _ (byte_sum k x) (byte_sum_slight k x)
sum_slight (Some x) None a b = tt
sum_slight None carry a b = tt

difference_slight : (x : Option OperandTerm) (carry : Option Bool) (a b : RangeView) → IfSome (difference_effect x carry a b) IsSlight
difference_slight (Some A) (Some k) a b = no_terms_slight
difference_slight (Some (Other r)) (Some k) a b = mapped _ (byte_difference k (Other r)) (byte_difference_slight k (Other r))
difference_slight (Some (Number n)) (Some k) a b = mapped _ (byte_difference k (Number n)) (byte_difference_slight k (Number n))
difference_slight (Some A) None a b = tt
difference_slight (Some (Other r)) None a b = tt
difference_slight (Some (Number n)) None a b = tt
difference_slight None carry a b = tt

above_slight : (a b : RangeView) → IfSome (above_effect a b) IsSlight
above_slight a b = chosen (is_above a b) _ (one_slight _ (omega arith))

all_slight : (a b : RangeView) → IfSome (and_effect None a b) IsSlight
all_slight a b = chosen (has_all a b) _ (one_slight _ (omega arith))

and_slight : (x : Option OperandTerm) (a b : RangeView) → IfSome (and_effect x a b) IsSlight
and_slight (Some A) a b = one_slight _ (omega arith)
and_slight (Some (Other r)) a b = all_slight a b
and_slight (Some (Number n)) a b = all_slight a b
and_slight None a b = all_slight a b

or_slight : (x : Option OperandTerm) (a b : RangeView) → IfSome (or_effect x a b) IsSlight
or_slight (Some A) a b = one_slight _ (omega arith)
or_slight (Some (Other r)) a b = above_slight a b
or_slight (Some (Number n)) a b = above_slight a b
or_slight None a b = above_slight a b

xor_slight : (x : Option OperandTerm) (a b : RangeView) → IfSome (xor_effect x a b) IsSlight
xor_slight (Some A) a b = tt
xor_slight (Some (Other r)) a b = above_slight a b
xor_slight (Some (Number n)) a b = above_slight a b
xor_slight None a b = above_slight a b

arithmetic_slight : (kind : ArithmeticKind) (x : Option OperandTerm) (carry : Option Bool) (a b : RangeView) → IfSome (arithmetic_effect kind x carry a b) IsSlight
arithmetic_slight operations.Add x carry a b = sum_slight x (Some false) a b
arithmetic_slight operations.Adc x carry a b = sum_slight x carry a b
arithmetic_slight operations.Sub x carry a b = difference_slight x (Some false) a b
arithmetic_slight operations.Sbc x carry a b = difference_slight x carry a b
arithmetic_slight operations.And x carry a b = and_slight x a b
arithmetic_slight operations.Xor x carry a b = xor_slight x a b
arithmetic_slight operations.Or x carry a b = or_slight x a b
arithmetic_slight operations.Compare x carry a b = tt

negate_slight : (a : RangeView) → IfSome (negate_effect a) IsSlight
negate_slight a = mapped _ _ (λ q. one_slight _ (omega arith))

-- ---- words

word_sum_terms : (k : Bool) (v : Variable) (x : OperandWord) (q : ℕ) → IsSlight (word_sum k v x q)
word_sum_terms k v Bc q = two_slight _ _ (omega arith) (omega arith)
word_sum_terms k v De q = two_slight _ _ (omega arith) (omega arith)
word_sum_terms k v Own q = one_slight _ (omega arith)

word_difference_terms : (k : Bool) (v : Variable) (x : OperandWord) (q : ℕ) → IsSlight (word_difference k v x q)
word_difference_terms k v Bc q = two_slight _ _ (omega arith) (omega arith)
word_difference_terms k v De q = two_slight _ _ (omega arith) (omega arith)
word_difference_terms k v Own q = no_terms_slight

word_sum_slight : (v : Variable) (own : RangeView) (x : Option OperandWord) (carry : Option Bool) (pairs : Pairs) → IfSome (word_sum_effect v own x carry pairs) IsSlight
word_sum_slight v own (Some x) (Some k) pairs = mapped _ (word_sum k v x) (word_sum_terms k v x)
word_sum_slight v own (Some x) None pairs = tt
word_sum_slight v own None carry pairs = tt

word_difference_slight : (v : Variable) (own : RangeView) (x : Option OperandWord) (carry : Option Bool) (pairs : Pairs) → IfSome (word_difference_effect v own x carry pairs) IsSlight
word_difference_slight v own (Some Bc) (Some k) pairs = mapped _ (word_difference k v Bc) (word_difference_terms k v Bc)
word_difference_slight v own (Some De) (Some k) pairs = mapped _ (word_difference k v De) (word_difference_terms k v De)
word_difference_slight v own (Some Own) (Some k) pairs = no_terms_slight
word_difference_slight v own (Some Bc) None pairs = tt
word_difference_slight v own (Some De) None pairs = tt
word_difference_slight v own (Some Own) None pairs = tt
word_difference_slight v own None carry pairs = tt

-- ---- each instruction

each_slight : (instr : Instr) (pairs : Pairs) (byte : RangeView) (carry : Option Bool) → IfSome (effect_of instr pairs byte carry) HasSlightTerms
unfolding effect_of
each_slight (Arithmetic kind s) pairs byte carry =
    becoming_slight variables.A _ (arithmetic_slight kind (operand_term_of s byte) carry pairs.af.high (operand_range s pairs byte))
each_slight Complement pairs byte carry = becoming_slight variables.A (Some complemented) (one_slight _ (omega arith))
each_slight Negate pairs byte carry = becoming_slight variables.A _ (negate_slight pairs.af.high)
each_slight (AddHl ss) pairs byte carry = becoming_slight variables.Hl _ (word_sum_slight variables.Hl pairs.hl.word (word_of_pair ss) (Some false) pairs)
each_slight (AdcHl ss) pairs byte carry = becoming_slight variables.Hl _ (word_sum_slight variables.Hl pairs.hl.word (word_of_pair ss) carry pairs)
each_slight (SbcHl ss) pairs byte carry = becoming_slight variables.Hl _ (word_difference_slight variables.Hl pairs.hl.word (word_of_pair ss) carry pairs)
each_slight (AddIndex index pp) pairs byte carry =
    becoming_slight (variable_of_index index) _ (word_sum_slight (variable_of_index index) (index_range index pairs) (word_of_index_pair pp) (Some false) pairs)
each_slight _ pairs byte carry = tt

-- effects that are those of the table
pub table_slight : (effect : Option LinearEffect) (instr : Instr) (pairs : Pairs) (byte : RangeView) (carry : Option Bool) → effect ≡ effect_of instr pairs byte carry → IfSome effect HasSlightTerms
table_slight effect instr pairs byte carry e = subst (λ (f : Option LinearEffect). IfSome f HasSlightTerms) (sym e) (each_slight instr pairs byte carry)

-- the effect of 8-bit arithmetic and logic
pub arithmetic_told : (effect : Option LinearEffect) (linear : Option LinearView) (kind : ArithmeticKind) (x : Option OperandTerm) (carry : Option Bool) (a b : RangeView) → linear ≡ arithmetic_effect kind x carry a b → effect ≡ becoming variables.A linear
    → IfSome effect HasSlightTerms
arithmetic_told effect linear kind x carry a b e f =
    let slight : IfSome linear IsSlight = subst (λ (o : Option LinearView). IfSome o IsSlight) (sym e) (arithmetic_slight kind x carry a b) in
    subst (λ (o : Option LinearEffect). IfSome o HasSlightTerms) (sym f) (becoming_slight variables.A linear slight)
