-- Two functions with equal tables over an operand type are equal.
use Rattle.std.proofs.Common.{◌≡◌, ℕ, List, [], ◌∷◌, ap, map, get_or}
use Rattle.z80_decode.specs.declared.operands.Register8.{Register8}
use Rattle.z80_decode.specs.declared.operands.Register8.TheVariants as registers
use Rattle.z80_decode.specs.declared.operands.Register16.{Register16}
use Rattle.z80_decode.specs.declared.operands.Register16.TheVariants as words
use Rattle.z80_decode.specs.declared.operands.StackPair.{StackPair}
use Rattle.z80_decode.specs.declared.operands.StackPair.TheVariants as stack_pairs
use Rattle.z80_decode.specs.declared.operands.OperandPair.{OperandPair}
use Rattle.z80_decode.specs.declared.operands.OperandPair.TheVariants as pairs
use Rattle.z80_decode.specs.declared.operands.IndexPair.{IndexPair}
use Rattle.z80_decode.specs.declared.operands.IndexPair.TheVariants as index_pairs
use Rattle.z80_decode.specs.declared.operands.Pointer.{Pointer}
use Rattle.z80_decode.specs.declared.operands.Pointer.TheVariants as pointers
use Rattle.z80_decode.specs.declared.operands.Index.{Index}
use Rattle.z80_decode.specs.declared.operands.Index.TheVariants as indexes
use Rattle.z80_decode.specs.declared.operands.Special.{Special}
use Rattle.z80_decode.specs.declared.operands.Special.TheVariants as specials
use Rattle.z80_decode.specs.declared.kinds.Condition.{Condition}
use Rattle.z80_decode.specs.declared.kinds.Condition.TheVariants as conditions
use Rattle.z80_decode.specs.declared.kinds.ShortCondition.{ShortCondition}
use Rattle.z80_decode.specs.declared.kinds.ShortCondition.TheVariants as short_conditions
use Rattle.z80_decode.specs.declared.kinds.ArithmeticKind.{ArithmeticKind}
use Rattle.z80_decode.specs.declared.kinds.ArithmeticKind.TheVariants as operations
use Rattle.z80_decode.specs.declared.kinds.ShiftKind.{ShiftKind}
use Rattle.z80_decode.specs.declared.kinds.ShiftKind.TheVariants as shifts
use Rattle.z80_decode.specs.declared.kinds.AccumulatorRotate.{AccumulatorRotate}
use Rattle.z80_decode.specs.declared.kinds.AccumulatorRotate.TheVariants as rotates
use Rattle.z80_decode.specs.declared.kinds.BlockKind.{BlockKind}
use Rattle.z80_decode.specs.declared.kinds.BlockKind.TheVariants as blocks
use Rattle.z80_decode.specs.declared.kinds.Bit.{Bit}
use Rattle.z80_decode.specs.declared.kinds.Bit.TheVariants as bits
use Rattle.z80_decode.specs.declared.kinds.RestartAddress.{RestartAddress}
use Rattle.z80_decode.specs.declared.kinds.RestartAddress.TheVariants as restarts
use Rattle.z80_decode.specs.declared.kinds.MaskableMode.{MaskableMode}
use Rattle.z80_decode.specs.declared.kinds.MaskableMode.TheVariants as modes
use Rattle.z80_decode.specs.declared.operands.Memory.{Memory}
use Rattle.z80_decode.specs.declared.operands.Memory.TheVariants as memories
use Rattle.z80_decode.specs.declared.operands.Place.{Place}
use Rattle.z80_decode.specs.declared.operands.Place.TheVariants as places
use Rattle.z80_decode.specs.declared.operands.Direct.{Direct}
use Rattle.z80_decode.specs.declared.operands.Direct.TheVariants as directs

abbrev pub registers_all : List Register8
registers_all = registers.B ∷ registers.C ∷ registers.D ∷ registers.E ∷ registers.H ∷ registers.L ∷ registers.A ∷ []

pub each_register : {X : Type 0} (f g : Register8 → X) → map f registers_all ≡ map g registers_all → (x : Register8) → f x ≡ g x
each_register f g same registers.B = ap (λ xs. get_or xs 0 (f registers.B)) same
each_register f g same registers.C = ap (λ xs. get_or xs 1 (f registers.C)) same
each_register f g same registers.D = ap (λ xs. get_or xs 2 (f registers.D)) same
each_register f g same registers.E = ap (λ xs. get_or xs 3 (f registers.E)) same
each_register f g same registers.H = ap (λ xs. get_or xs 4 (f registers.H)) same
each_register f g same registers.L = ap (λ xs. get_or xs 5 (f registers.L)) same
each_register f g same registers.A = ap (λ xs. get_or xs 6 (f registers.A)) same

abbrev pub words_all : List Register16
words_all = words.Bc ∷ words.De ∷ words.Hl ∷ words.Sp ∷ words.Ix ∷ words.Iy ∷ []

pub each_word_pair : {X : Type 0} (f g : Register16 → X) → map f words_all ≡ map g words_all → (x : Register16) → f x ≡ g x
each_word_pair f g same words.Bc = ap (λ xs. get_or xs 0 (f words.Bc)) same
each_word_pair f g same words.De = ap (λ xs. get_or xs 1 (f words.De)) same
each_word_pair f g same words.Hl = ap (λ xs. get_or xs 2 (f words.Hl)) same
each_word_pair f g same words.Sp = ap (λ xs. get_or xs 3 (f words.Sp)) same
each_word_pair f g same words.Ix = ap (λ xs. get_or xs 4 (f words.Ix)) same
each_word_pair f g same words.Iy = ap (λ xs. get_or xs 5 (f words.Iy)) same

abbrev pub stack_pairs_all : List StackPair
stack_pairs_all = stack_pairs.Bc ∷ stack_pairs.De ∷ stack_pairs.Hl ∷ stack_pairs.Af ∷ stack_pairs.Ix ∷ stack_pairs.Iy ∷ []

pub each_stack_pair : {X : Type 0} (f g : StackPair → X) → map f stack_pairs_all ≡ map g stack_pairs_all → (x : StackPair) → f x ≡ g x
each_stack_pair f g same stack_pairs.Bc = ap (λ xs. get_or xs 0 (f stack_pairs.Bc)) same
each_stack_pair f g same stack_pairs.De = ap (λ xs. get_or xs 1 (f stack_pairs.De)) same
each_stack_pair f g same stack_pairs.Hl = ap (λ xs. get_or xs 2 (f stack_pairs.Hl)) same
each_stack_pair f g same stack_pairs.Af = ap (λ xs. get_or xs 3 (f stack_pairs.Af)) same
each_stack_pair f g same stack_pairs.Ix = ap (λ xs. get_or xs 4 (f stack_pairs.Ix)) same
each_stack_pair f g same stack_pairs.Iy = ap (λ xs. get_or xs 5 (f stack_pairs.Iy)) same

abbrev pub pairs_all : List OperandPair
pairs_all = pairs.Bc ∷ pairs.De ∷ pairs.Hl ∷ pairs.Sp ∷ []

pub each_pair : {X : Type 0} (f g : OperandPair → X) → map f pairs_all ≡ map g pairs_all → (x : OperandPair) → f x ≡ g x
each_pair f g same pairs.Bc = ap (λ xs. get_or xs 0 (f pairs.Bc)) same
each_pair f g same pairs.De = ap (λ xs. get_or xs 1 (f pairs.De)) same
each_pair f g same pairs.Hl = ap (λ xs. get_or xs 2 (f pairs.Hl)) same
each_pair f g same pairs.Sp = ap (λ xs. get_or xs 3 (f pairs.Sp)) same

abbrev pub index_pairs_all : List IndexPair
index_pairs_all = index_pairs.Bc ∷ index_pairs.De ∷ index_pairs.Own ∷ index_pairs.Sp ∷ []

pub each_index_pair : {X : Type 0} (f g : IndexPair → X) → map f index_pairs_all ≡ map g index_pairs_all → (x : IndexPair) → f x ≡ g x
each_index_pair f g same index_pairs.Bc = ap (λ xs. get_or xs 0 (f index_pairs.Bc)) same
each_index_pair f g same index_pairs.De = ap (λ xs. get_or xs 1 (f index_pairs.De)) same
each_index_pair f g same index_pairs.Own = ap (λ xs. get_or xs 2 (f index_pairs.Own)) same
each_index_pair f g same index_pairs.Sp = ap (λ xs. get_or xs 3 (f index_pairs.Sp)) same

abbrev pub pointers_all : List Pointer
pointers_all = pointers.Hl ∷ pointers.Ix ∷ pointers.Iy ∷ []

pub each_pointer : {X : Type 0} (f g : Pointer → X) → map f pointers_all ≡ map g pointers_all → (x : Pointer) → f x ≡ g x
each_pointer f g same pointers.Hl = ap (λ xs. get_or xs 0 (f pointers.Hl)) same
each_pointer f g same pointers.Ix = ap (λ xs. get_or xs 1 (f pointers.Ix)) same
each_pointer f g same pointers.Iy = ap (λ xs. get_or xs 2 (f pointers.Iy)) same

abbrev pub indexes_all : List Index
indexes_all = indexes.Ix ∷ indexes.Iy ∷ []

pub each_index : {X : Type 0} (f g : Index → X) → map f indexes_all ≡ map g indexes_all → (x : Index) → f x ≡ g x
each_index f g same indexes.Ix = ap (λ xs. get_or xs 0 (f indexes.Ix)) same
each_index f g same indexes.Iy = ap (λ xs. get_or xs 1 (f indexes.Iy)) same

abbrev pub specials_all : List Special
specials_all = specials.I ∷ specials.R ∷ []

pub each_special : {X : Type 0} (f g : Special → X) → map f specials_all ≡ map g specials_all → (x : Special) → f x ≡ g x
each_special f g same specials.I = ap (λ xs. get_or xs 0 (f specials.I)) same
each_special f g same specials.R = ap (λ xs. get_or xs 1 (f specials.R)) same

abbrev pub conditions_all : List Condition
conditions_all = conditions.NotZero ∷ conditions.Zero ∷ conditions.NotCarry ∷ conditions.Carry ∷ conditions.ParityOdd ∷ conditions.ParityEven ∷ conditions.Plus ∷ conditions.Minus ∷ []

pub each_condition : {X : Type 0} (f g : Condition → X) → map f conditions_all ≡ map g conditions_all → (x : Condition) → f x ≡ g x
each_condition f g same conditions.NotZero = ap (λ xs. get_or xs 0 (f conditions.NotZero)) same
each_condition f g same conditions.Zero = ap (λ xs. get_or xs 1 (f conditions.Zero)) same
each_condition f g same conditions.NotCarry = ap (λ xs. get_or xs 2 (f conditions.NotCarry)) same
each_condition f g same conditions.Carry = ap (λ xs. get_or xs 3 (f conditions.Carry)) same
each_condition f g same conditions.ParityOdd = ap (λ xs. get_or xs 4 (f conditions.ParityOdd)) same
each_condition f g same conditions.ParityEven = ap (λ xs. get_or xs 5 (f conditions.ParityEven)) same
each_condition f g same conditions.Plus = ap (λ xs. get_or xs 6 (f conditions.Plus)) same
each_condition f g same conditions.Minus = ap (λ xs. get_or xs 7 (f conditions.Minus)) same

abbrev pub short_conditions_all : List ShortCondition
short_conditions_all = short_conditions.NotZero ∷ short_conditions.Zero ∷ short_conditions.NotCarry ∷ short_conditions.Carry ∷ []

pub each_short_condition : {X : Type 0} (f g : ShortCondition → X) → map f short_conditions_all ≡ map g short_conditions_all → (x : ShortCondition) → f x ≡ g x
each_short_condition f g same short_conditions.NotZero = ap (λ xs. get_or xs 0 (f short_conditions.NotZero)) same
each_short_condition f g same short_conditions.Zero = ap (λ xs. get_or xs 1 (f short_conditions.Zero)) same
each_short_condition f g same short_conditions.NotCarry = ap (λ xs. get_or xs 2 (f short_conditions.NotCarry)) same
each_short_condition f g same short_conditions.Carry = ap (λ xs. get_or xs 3 (f short_conditions.Carry)) same

abbrev pub operations_all : List ArithmeticKind
operations_all = operations.Add ∷ operations.Adc ∷ operations.Sub ∷ operations.Sbc ∷ operations.And ∷ operations.Xor ∷ operations.Or ∷ operations.Compare ∷ []

pub each_operation : {X : Type 0} (f g : ArithmeticKind → X) → map f operations_all ≡ map g operations_all → (x : ArithmeticKind) → f x ≡ g x
each_operation f g same operations.Add = ap (λ xs. get_or xs 0 (f operations.Add)) same
each_operation f g same operations.Adc = ap (λ xs. get_or xs 1 (f operations.Adc)) same
each_operation f g same operations.Sub = ap (λ xs. get_or xs 2 (f operations.Sub)) same
each_operation f g same operations.Sbc = ap (λ xs. get_or xs 3 (f operations.Sbc)) same
each_operation f g same operations.And = ap (λ xs. get_or xs 4 (f operations.And)) same
each_operation f g same operations.Xor = ap (λ xs. get_or xs 5 (f operations.Xor)) same
each_operation f g same operations.Or = ap (λ xs. get_or xs 6 (f operations.Or)) same
each_operation f g same operations.Compare = ap (λ xs. get_or xs 7 (f operations.Compare)) same

abbrev pub shifts_all : List ShiftKind
shifts_all = shifts.Rlc ∷ shifts.Rrc ∷ shifts.Rl ∷ shifts.Rr ∷ shifts.Sla ∷ shifts.Sra ∷ shifts.Srl ∷ []

pub each_shift : {X : Type 0} (f g : ShiftKind → X) → map f shifts_all ≡ map g shifts_all → (x : ShiftKind) → f x ≡ g x
each_shift f g same shifts.Rlc = ap (λ xs. get_or xs 0 (f shifts.Rlc)) same
each_shift f g same shifts.Rrc = ap (λ xs. get_or xs 1 (f shifts.Rrc)) same
each_shift f g same shifts.Rl = ap (λ xs. get_or xs 2 (f shifts.Rl)) same
each_shift f g same shifts.Rr = ap (λ xs. get_or xs 3 (f shifts.Rr)) same
each_shift f g same shifts.Sla = ap (λ xs. get_or xs 4 (f shifts.Sla)) same
each_shift f g same shifts.Sra = ap (λ xs. get_or xs 5 (f shifts.Sra)) same
each_shift f g same shifts.Srl = ap (λ xs. get_or xs 6 (f shifts.Srl)) same

abbrev pub rotates_all : List AccumulatorRotate
rotates_all = rotates.Rlca ∷ rotates.Rrca ∷ rotates.Rla ∷ rotates.Rra ∷ []

pub each_rotate : {X : Type 0} (f g : AccumulatorRotate → X) → map f rotates_all ≡ map g rotates_all → (x : AccumulatorRotate) → f x ≡ g x
each_rotate f g same rotates.Rlca = ap (λ xs. get_or xs 0 (f rotates.Rlca)) same
each_rotate f g same rotates.Rrca = ap (λ xs. get_or xs 1 (f rotates.Rrca)) same
each_rotate f g same rotates.Rla = ap (λ xs. get_or xs 2 (f rotates.Rla)) same
each_rotate f g same rotates.Rra = ap (λ xs. get_or xs 3 (f rotates.Rra)) same

abbrev pub blocks_all : List BlockKind
blocks_all = blocks.Increment ∷ blocks.Decrement ∷ blocks.IncrementRepeat ∷ blocks.DecrementRepeat ∷ []

pub each_block : {X : Type 0} (f g : BlockKind → X) → map f blocks_all ≡ map g blocks_all → (x : BlockKind) → f x ≡ g x
each_block f g same blocks.Increment = ap (λ xs. get_or xs 0 (f blocks.Increment)) same
each_block f g same blocks.Decrement = ap (λ xs. get_or xs 1 (f blocks.Decrement)) same
each_block f g same blocks.IncrementRepeat = ap (λ xs. get_or xs 2 (f blocks.IncrementRepeat)) same
each_block f g same blocks.DecrementRepeat = ap (λ xs. get_or xs 3 (f blocks.DecrementRepeat)) same

abbrev pub bits_all : List Bit
bits_all = bits.Zero ∷ bits.One ∷ bits.Two ∷ bits.Three ∷ bits.Four ∷ bits.Five ∷ bits.Six ∷ bits.Seven ∷ []

pub each_bit : {X : Type 0} (f g : Bit → X) → map f bits_all ≡ map g bits_all → (x : Bit) → f x ≡ g x
each_bit f g same bits.Zero = ap (λ xs. get_or xs 0 (f bits.Zero)) same
each_bit f g same bits.One = ap (λ xs. get_or xs 1 (f bits.One)) same
each_bit f g same bits.Two = ap (λ xs. get_or xs 2 (f bits.Two)) same
each_bit f g same bits.Three = ap (λ xs. get_or xs 3 (f bits.Three)) same
each_bit f g same bits.Four = ap (λ xs. get_or xs 4 (f bits.Four)) same
each_bit f g same bits.Five = ap (λ xs. get_or xs 5 (f bits.Five)) same
each_bit f g same bits.Six = ap (λ xs. get_or xs 6 (f bits.Six)) same
each_bit f g same bits.Seven = ap (λ xs. get_or xs 7 (f bits.Seven)) same

abbrev pub restarts_all : List RestartAddress
restarts_all = restarts.At00 ∷ restarts.At08 ∷ restarts.At10 ∷ restarts.At18 ∷ restarts.At20 ∷ restarts.At28 ∷ restarts.At30 ∷ restarts.At38 ∷ []

pub each_restart : {X : Type 0} (f g : RestartAddress → X) → map f restarts_all ≡ map g restarts_all → (x : RestartAddress) → f x ≡ g x
each_restart f g same restarts.At00 = ap (λ xs. get_or xs 0 (f restarts.At00)) same
each_restart f g same restarts.At08 = ap (λ xs. get_or xs 1 (f restarts.At08)) same
each_restart f g same restarts.At10 = ap (λ xs. get_or xs 2 (f restarts.At10)) same
each_restart f g same restarts.At18 = ap (λ xs. get_or xs 3 (f restarts.At18)) same
each_restart f g same restarts.At20 = ap (λ xs. get_or xs 4 (f restarts.At20)) same
each_restart f g same restarts.At28 = ap (λ xs. get_or xs 5 (f restarts.At28)) same
each_restart f g same restarts.At30 = ap (λ xs. get_or xs 6 (f restarts.At30)) same
each_restart f g same restarts.At38 = ap (λ xs. get_or xs 7 (f restarts.At38)) same

abbrev pub modes_all : List MaskableMode
modes_all = modes.Zero ∷ modes.One ∷ modes.Two ∷ []

pub each_mode : {X : Type 0} (f g : MaskableMode → X) → map f modes_all ≡ map g modes_all → (x : MaskableMode) → f x ≡ g x
each_mode f g same modes.Zero = ap (λ xs. get_or xs 0 (f modes.Zero)) same
each_mode f g same modes.One = ap (λ xs. get_or xs 1 (f modes.One)) same
each_mode f g same modes.Two = ap (λ xs. get_or xs 2 (f modes.Two)) same

-- memory: (HL), and the index registers at each displacement
pub each_memory : {X : Type 0} (f g : Memory → X) → f memories.AtHl ≡ g memories.AtHl → ((d : ℕ) → map (λ i. f (memories.At i d)) indexes_all ≡ map (λ i. g (memories.At i d)) indexes_all) → (x : Memory) → f x ≡ g x
each_memory f g at_hl at memories.AtHl = at_hl
each_memory f g at_hl at (memories.At i d) = each_index (λ j. f (memories.At j d)) (λ j. g (memories.At j d)) (at d) i

pub each_place : {X : Type 0} (f g : Place → X) → map (λ r. f (places.Register r)) registers_all ≡ map (λ r. g (places.Register r)) registers_all → f (places.Memory memories.AtHl) ≡ g (places.Memory memories.AtHl) → ((d : ℕ) → map (λ i. f (places.Memory (memories.At i d))) indexes_all ≡ map (λ i. g (places.Memory (memories.At i d))) indexes_all) → (x : Place) → f x ≡ g x
each_place f g registers at_hl at (places.Register r) = each_register (λ s. f (places.Register s)) (λ s. g (places.Register s)) registers r
each_place f g registers at_hl at (places.Memory m) = each_memory (λ n. f (places.Memory n)) (λ n. g (places.Memory n)) at_hl at m

pub each_direct : {X : Type 0} (f g : Direct → X) → f directs.ShortHl ≡ g directs.ShortHl → map (λ p. f (directs.Pair p)) words_all ≡ map (λ p. g (directs.Pair p)) words_all → (x : Direct) → f x ≡ g x
each_direct f g short pairs directs.ShortHl = short
each_direct f g short pairs (directs.Pair p) = each_word_pair (λ q. f (directs.Pair q)) (λ q. g (directs.Pair q)) pairs p
