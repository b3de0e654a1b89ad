-- The constants of an instruction are in range because its bytes are.
use Rattle.std.proofs.Common.{◌<◌, ◌*◌, ◌/◌, ℕ, List, [], ◌∷◌, arith, lit<}
use Rattle.z80_decode.specs.Kinds.{restart}
use Rattle.z80_decode.specs.Spelling.{spelling}
use Rattle.z80_decode.specs.declared.instr.Instr.{Instr}
use Rattle.z80_decode.specs.declared.instr.Instr.TheVariants.{Nop, Halt, DisableInterrupts, EnableInterrupts, InterruptMode, LoadRegister, LoadImmediate, Store, LoadA, StoreA, LoadASpecial, StoreASpecial, LoadPair, LoadPairDirect, StorePairDirect, LoadSp, Push, Pop, ExchangeDeHl, ExchangeAf, ExchangeSets, ExchangeStack, BlockLoad, BlockCompare, BlockInput, BlockOutput, Arithmetic, Increment, Decrement, DecimalAdjust, Complement, Negate, ComplementCarry, SetCarry, AddHl, AdcHl, SbcHl, AddIndex, IncrementPair, DecrementPair, RotateA, Shift, RotateDigitsLeft, RotateDigitsRight, TestBit, SetBit, ResetBit, Jump, JumpIf, JumpRelative, JumpRelativeIf, JumpTo, DecrementJump, Call, CallIf, Restart, Return, ReturnIf, ReturnFromInterrupt, ReturnFromNonMaskable, InputImmediate, InputRegister, OutputImmediate, OutputRegister}
use Rattle.z80_decode.specs.declared.kinds.BlockKind.{BlockKind}
use Rattle.z80_decode.specs.declared.kinds.BlockKind.TheVariants as blocks
use Rattle.z80_decode.specs.declared.kinds.RestartAddress.{RestartAddress}
use Rattle.z80_decode.specs.declared.kinds.RestartAddress.TheVariants as restarts
use Rattle.z80_decode.specs.declared.operands.Address.TheVariants as addresses
use Rattle.z80_decode.specs.declared.operands.Direct.{Direct}
use Rattle.z80_decode.specs.declared.operands.Direct.TheVariants as directs
use Rattle.z80_decode.specs.declared.operands.Memory.{Memory}
use Rattle.z80_decode.specs.declared.operands.Memory.TheVariants as memories
use Rattle.z80_decode.specs.declared.operands.Operand.TheVariants as operands
use Rattle.z80_decode.specs.declared.operands.Place.{Place}
use Rattle.z80_decode.specs.declared.operands.Place.TheVariants as places
use Rattle.z80_decode.specs.declared.operands.Register16.{Register16}
use Rattle.z80_decode.specs.declared.operands.Register16.TheVariants as register16
use Rattle.z80_decode.specs.declared.operands.Special.TheVariants as specials
use Rattle.z80_moves.specs.Moves.{moves_of, acceptance_moves, at_memory, reading, changing, block_load, block_compare}
use Rattle.z80_moves.specs.declared.moves.Move.{Move}
use Rattle.z80_moves.specs.declared.moves.Move.TheVariants.{SetByte, SetWord}

-- the constants of a move are in range
unfoldable pub MoveFits : Move → Type 0
MoveFits (SetByte r n) = n < 256
MoveFits (SetWord w nn) = nn < 65536
MoveFits _ = Unit {0}

unfoldable pub MovesFit : List Move → Type 0
MovesFit [] = Unit {0}
MovesFit (m ∷ ms) = MoveFits m × MovesFit ms

-- each of these is a byte
abbrev pub BytesFit : List ℕ → Type 0
BytesFit [] = Unit {0}
BytesFit (b ∷ bs) = (b < 256) × BytesFit bs

word_fits : (nn : ℕ) → nn / 256 < 256 → nn < 65536
word_fits nn h = omega arith

at_memory_fits : (m : Memory) (ms : List Move) → MovesFit ms → MovesFit (at_memory m ms)
unfolding MovesFit MoveFits
at_memory_fits memories.AtHl ms h = (tt, h)
at_memory_fits (memories.At index d) ms h = (tt, (tt, h))

reading_fits : (m : Place) (move : Move) → MoveFits move → MovesFit (reading m move)
unfolding MovesFit MoveFits
reading_fits (places.Register r) move h = (h, tt)
reading_fits (places.Memory m) move h = at_memory_fits m _ (tt, (h, tt))

changing_fits : (m : Place) (move : Move) → MoveFits move → MovesFit (changing m move)
unfolding MovesFit MoveFits
changing_fits (places.Register r) move h = (h, tt)
changing_fits (places.Memory m) move h = at_memory_fits m _ (tt, (h, (tt, tt)))

block_load_fits : (kind : BlockKind) → MovesFit (block_load kind)
unfolding MovesFit MoveFits
block_load_fits blocks.Increment = (tt, (tt, (tt, (tt, (tt, (tt, tt))))))
block_load_fits blocks.Decrement = (tt, (tt, (tt, (tt, (tt, (tt, tt))))))
block_load_fits blocks.IncrementRepeat = (tt, (tt, (tt, (tt, (tt, (tt, (tt, (tt, tt))))))))
block_load_fits blocks.DecrementRepeat = (tt, (tt, (tt, (tt, (tt, (tt, (tt, (tt, tt))))))))

block_compare_fits : (kind : BlockKind) → MovesFit (block_compare kind)
unfolding MovesFit MoveFits
block_compare_fits blocks.Increment = (tt, (tt, (tt, (tt, tt))))
block_compare_fits blocks.Decrement = (tt, (tt, (tt, (tt, tt))))
block_compare_fits blocks.IncrementRepeat = (tt, (tt, (tt, (tt, (tt, (tt, tt))))))
block_compare_fits blocks.DecrementRepeat = (tt, (tt, (tt, (tt, (tt, (tt, tt))))))

restart_fits : (p : RestartAddress) → 8 * restart p < 65536
restart_fits restarts.At00 = lit< tt
restart_fits restarts.At08 = lit< tt
restart_fits restarts.At10 = lit< tt
restart_fits restarts.At18 = lit< tt
restart_fits restarts.At20 = lit< tt
restart_fits restarts.At28 = lit< tt
restart_fits restarts.At30 = lit< tt
restart_fits restarts.At38 = lit< tt

-- nn of LD dd,nn
pair_fits : (dd : Register16) (nn : ℕ) → BytesFit (spelling (LoadPair dd nn)) → nn < 65536
pair_fits register16.Bc nn h = word_fits nn h.1.1.0
pair_fits register16.De nn h = word_fits nn h.1.1.0
pair_fits register16.Hl nn h = word_fits nn h.1.1.0
pair_fits register16.Sp nn h = word_fits nn h.1.1.0
pair_fits register16.Ix nn h = word_fits nn h.1.1.1.0
pair_fits register16.Iy nn h = word_fits nn h.1.1.1.0

-- nn of LD dd,(nn)
loaded_fits : (dd : Direct) (nn : ℕ) → BytesFit (spelling (LoadPairDirect dd nn)) → nn < 65536
loaded_fits directs.ShortHl nn h = word_fits nn h.1.1.0
loaded_fits (directs.Pair register16.Bc) nn h = word_fits nn h.1.1.1.0
loaded_fits (directs.Pair register16.De) nn h = word_fits nn h.1.1.1.0
loaded_fits (directs.Pair register16.Hl) nn h = word_fits nn h.1.1.1.0
loaded_fits (directs.Pair register16.Sp) nn h = word_fits nn h.1.1.1.0
loaded_fits (directs.Pair register16.Ix) nn h = word_fits nn h.1.1.1.0
loaded_fits (directs.Pair register16.Iy) nn h = word_fits nn h.1.1.1.0

-- nn of LD (nn),dd
stored_fits : (dd : Direct) (nn : ℕ) → BytesFit (spelling (StorePairDirect dd nn)) → nn < 65536
stored_fits directs.ShortHl nn h = word_fits nn h.1.1.0
stored_fits (directs.Pair register16.Bc) nn h = word_fits nn h.1.1.1.0
stored_fits (directs.Pair register16.De) nn h = word_fits nn h.1.1.1.0
stored_fits (directs.Pair register16.Hl) nn h = word_fits nn h.1.1.1.0
stored_fits (directs.Pair register16.Sp) nn h = word_fits nn h.1.1.1.0
stored_fits (directs.Pair register16.Ix) nn h = word_fits nn h.1.1.1.0
stored_fits (directs.Pair register16.Iy) nn h = word_fits nn h.1.1.1.0

pub moves_fit : (instr : Instr) → BytesFit (spelling instr) → MovesFit (moves_of instr)
unfolding MovesFit MoveFits
moves_fit (LoadRegister r (places.Register s)) h = (tt, tt)
moves_fit (LoadRegister r (places.Memory m)) h = at_memory_fits m _ (tt, tt)
moves_fit (LoadImmediate (places.Register r) n) h = (h.1.0, tt)
moves_fit (LoadImmediate (places.Memory memories.AtHl) n) h = (tt, (h.1.0, (tt, tt)))
moves_fit (LoadImmediate (places.Memory (memories.At index d)) n) h = (tt, (tt, (h.1.1.1.0, (tt, tt))))
moves_fit (Store m r) h = at_memory_fits m _ (tt, tt)
moves_fit (LoadA addresses.Bc) h = (tt, tt)
moves_fit (LoadA addresses.De) h = (tt, tt)
moves_fit (LoadA (addresses.Direct nn)) h = (word_fits nn h.1.1.0, (tt, tt))
moves_fit (StoreA addresses.Bc) h = (tt, tt)
moves_fit (StoreA addresses.De) h = (tt, tt)
moves_fit (StoreA (addresses.Direct nn)) h = (word_fits nn h.1.1.0, (tt, tt))
moves_fit (LoadASpecial special) h = (tt, tt)
moves_fit (StoreASpecial specials.I) h = (tt, tt)
moves_fit (StoreASpecial specials.R) h = tt
moves_fit (LoadPair dd nn) h = (pair_fits dd nn h, tt)
moves_fit (LoadPairDirect dd nn) h = (loaded_fits dd nn h, (tt, tt))
moves_fit (StorePairDirect dd nn) h = (stored_fits dd nn h, (tt, tt))
moves_fit (LoadSp pointer) h = (tt, tt)
moves_fit (Push qq) h = (tt, tt)
moves_fit (Pop qq) h = (tt, tt)
moves_fit ExchangeDeHl h = (tt, tt)
moves_fit ExchangeAf h = (tt, tt)
moves_fit ExchangeSets h = (tt, tt)
moves_fit (ExchangeStack pointer) h = (tt, tt)
moves_fit (BlockLoad kind) h = block_load_fits kind
moves_fit (BlockCompare kind) h = block_compare_fits kind
moves_fit (Arithmetic kind (operands.Place s)) h = reading_fits s _ tt
moves_fit (Arithmetic kind (operands.Immediate n)) h = (h.1.0, (tt, tt))
moves_fit (Increment m) h = changing_fits m _ tt
moves_fit (Decrement m) h = changing_fits m _ tt
moves_fit DecimalAdjust h = (tt, tt)
moves_fit Complement h = (tt, tt)
moves_fit Negate h = (tt, tt)
moves_fit ComplementCarry h = (tt, tt)
moves_fit SetCarry h = (tt, tt)
moves_fit Nop h = tt
moves_fit Halt h = (tt, tt)
moves_fit DisableInterrupts h = (tt, tt)
moves_fit EnableInterrupts h = (tt, tt)
moves_fit (InterruptMode m) h = tt
moves_fit (AddHl ss) h = (tt, tt)
moves_fit (AdcHl ss) h = (tt, tt)
moves_fit (SbcHl ss) h = (tt, tt)
moves_fit (AddIndex index pp) h = (tt, tt)
moves_fit (IncrementPair ss) h = (tt, tt)
moves_fit (DecrementPair ss) h = (tt, tt)
moves_fit (RotateA kind) h = (tt, tt)
moves_fit (Shift kind m) h = changing_fits m _ tt
moves_fit RotateDigitsLeft h = (tt, (tt, (tt, (tt, tt))))
moves_fit RotateDigitsRight h = (tt, (tt, (tt, (tt, tt))))
moves_fit (TestBit b m) h = reading_fits m _ tt
moves_fit (SetBit b m) h = changing_fits m _ tt
moves_fit (ResetBit b m) h = changing_fits m _ tt
moves_fit (Jump nn) h = (word_fits nn h.1.1.0, tt)
moves_fit (JumpIf cc nn) h = (tt, (word_fits nn h.1.1.0, tt))
moves_fit (JumpRelative e) h = (tt, tt)
moves_fit (JumpRelativeIf cc e) h = (tt, (tt, tt))
moves_fit (JumpTo pointer) h = (tt, tt)
moves_fit (DecrementJump e) h = (tt, (tt, (tt, tt)))
moves_fit (Call nn) h = (tt, (word_fits nn h.1.1.0, tt))
moves_fit (CallIf cc nn) h = (tt, (tt, (word_fits nn h.1.1.0, tt)))
moves_fit Return h = (tt, tt)
moves_fit (ReturnIf cc) h = (tt, (tt, tt))
moves_fit ReturnFromInterrupt h = (tt, tt)
moves_fit ReturnFromNonMaskable h = (tt, (tt, tt))
moves_fit (Restart p) h = (tt, (restart_fits p, tt))
moves_fit (InputImmediate n) h = tt
moves_fit (InputRegister r) h = tt
moves_fit (BlockInput kind) h = tt
moves_fit (OutputImmediate n) h = tt
moves_fit (OutputRegister r) h = tt
moves_fit (BlockOutput kind) h = tt

pub acceptance_fits : MovesFit acceptance_moves
unfolding MovesFit MoveFits
acceptance_fits = (tt, (tt, (lit< tt, tt)))
