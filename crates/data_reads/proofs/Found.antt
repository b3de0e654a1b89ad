-- Where an instruction reads, both outsides find the same bytes.
use Rattle.std.proofs.Common.{◌≡◌, ◌+◌, ◌%◌, ℕ, Bool, true, List, ◌∷◌, Option, Some, refl, subst, sym, arith}
use Rattle.std.proofs.lemmas.Bool.Decides.{nat_tests}
use Rattle.intervals.proofs.Laws.{displacement_of_words}
use Rattle.intervals.specs.Domain.{Entry}
use Rattle.intervals.specs.Range.{RangeView, Within, single}
use Rattle.intervals.specs.Sums.{displacement, displacement_of}
use Rattle.z80_alu.specs.declared.regs.Regs.{Regs}
use Rattle.z80_decode.specs.declared.instr.Instr.{Instr}
use Rattle.z80_decode.specs.declared.instr.Instr.TheVariants.{LoadRegister, LoadImmediate, Store, LoadA, StoreA, StoreASpecial, LoadPairDirect, Pop, ExchangeStack, BlockLoad, BlockCompare, Arithmetic, Increment, Decrement, Shift, RotateDigitsLeft, RotateDigitsRight, TestBit, SetBit, ResetBit, JumpIf, JumpRelativeIf, DecrementJump, CallIf, Return, ReturnIf, ReturnFromInterrupt, ReturnFromNonMaskable}
use Rattle.z80_decode.specs.declared.kinds.BlockKind.TheVariants as blocks
use Rattle.z80_decode.specs.declared.operands.Address.TheVariants as addresses
use Rattle.z80_decode.specs.declared.operands.Index.TheVariants as indexes
use Rattle.z80_decode.specs.declared.operands.Memory.{Memory}
use Rattle.z80_decode.specs.declared.operands.Memory.TheVariants as memories
use Rattle.z80_decode.specs.declared.operands.Operand.TheVariants as operands
use Rattle.z80_decode.specs.declared.operands.Place.TheVariants as places
use Rattle.z80_decode.specs.declared.operands.Special.TheVariants as specials
use Rattle.z80_draft.specs.Draft.{DraftView, above, displaced, draft_on, moved, past}
use Rattle.z80_draft.specs.Outside.{Outside}
use Rattle.z80_moves.specs.Moves.{at_memory, moves_of}
use Rattle.z80_moves.specs.declared.moves.Move.{Move}
use Rattle.z80_moves.specs.declared.moves.Move.TheVariants.{ReadByte}
use Rattle.z80_moves.specs.declared.registers.ByteRegister.{ByteRegister}
use Rattle.z80_moves.specs.declared.registers.WordRegister.TheVariants as words
use Rattle.abs_state.specs.Pairs.{HoldsPairs, word_in}
use Rattle.intervals.specs.declared.reg_pair.RegPair.TheVariants.{Hl}
use Rattle.abs_state.specs.declared.pairs.Pairs.{Pairs}
use Rattle.data_reads.specs.Reads.{memory_addresses, reads_of, one_range, two_ranges}
use Rattle.data_reads.specs.ReadsLieIn.{LiesInSome, reads_at_sp}
use Rattle.data_reads.proofs.Moves.{AreSame, SameAt, SameWordAt}

-- ---- the ranges have the addresses

displaced_is : (x d : ℕ) → displaced x d ≡ (x + displacement_of d) % 65536
displaced_is x d = grind (arith, nat_tests)

displaced_within : (range : RangeView) (x d : ℕ) → Within range x → Within (displacement range d) (displaced x d)
displaced_within range x d h =
    subst (Within (displacement range d)) (sym (displaced_is x d)) (displacement_of_words range x h d)

-- the address of (HL), (IX+d), (IY+d)
abbrev address_of : Memory → Regs → ℕ
address_of memories.AtHl regs = word_in Hl regs
address_of (memories.At indexes.Ix d) regs = displaced regs.ix d
address_of (memories.At indexes.Iy d) regs = displaced regs.iy d

memory_within : (m : Memory) (pairs : Pairs) (entry : Entry) (regs : Regs) → HoldsPairs pairs entry regs → Within (memory_addresses m pairs) (address_of m regs)
memory_within memories.AtHl pairs entry regs h = h.hl.word
memory_within (memories.At indexes.Ix d) pairs entry regs h = displaced_within pairs.ix.word regs.ix d h.ix.word
memory_within (memories.At indexes.Iy d) pairs entry regs h = displaced_within pairs.iy.word regs.iy d h.iy.word

-- ---- moves on a byte in memory

memory_same : (o : Outside) (find : Bool → ℕ → ℕ) (m : Memory) (b : ByteRegister) (rest : List Move) (n : ℕ) (regs : Regs) → SameAt o find (address_of m regs) → ((e : DraftView) → AreSame o find rest e)
    → AreSame o find (at_memory m (ReadByte b words.Pointer ∷ rest)) (draft_on (past n regs))
unfolding moved
memory_same o find memories.AtHl b rest n regs h k = (h, k _)
memory_same o find (memories.At indexes.Ix d) b rest n regs h k = (h, k _)
memory_same o find (memories.At indexes.Iy d) b rest n regs h k = (h, k _)

-- ---- each instruction

module _ (o : Outside) (find : Bool → ℕ → ℕ) (pairs : Pairs) (entry : Entry) (regs : Regs) (h : HoldsPairs pairs entry regs) (n : ℕ) where
  -- reads of these addresses find the same bytes
  abbrev AreFound : List (Option RangeView) → Type 0
  AreFound ranges = (at : ℕ) → LiesInSome ranges at → SameAt o find at

  -- the byte of the only range
  one_same : (range : RangeView) (at : ℕ) → AreFound (one_range range) → Within range at → SameAt o find at
  one_same range at found w = found at (0, Some range, omega arith, refl, w)

  -- the bytes of two ranges
  two_same : (low high : RangeView) (at : ℕ) → AreFound (two_ranges low high) → Within low at → Within high (above at 1) → SameWordAt o find at
  two_same low high at found v w = (found at (0, Some low, omega arith, refl, v), found (above at 1) (1, Some high, omega arith, refl, w))

  -- a byte in memory, before other moves
  place_same : (m : Memory) (b : ByteRegister) (rest : List Move) → AreFound (one_range (memory_addresses m pairs)) → ((e : DraftView) → AreSame o find rest e)
      → AreSame o find (at_memory m (ReadByte b words.Pointer ∷ rest)) (draft_on (past n regs))
  place_same m b rest found k =
      memory_same o find m b rest n regs (one_same (memory_addresses m pairs) (address_of m regs) found (memory_within m pairs entry regs h)) k

  pub all_found : (instr : Instr) → AreFound (reads_of instr pairs) → (reads_at_sp regs instr ≡ true → SameWordAt o find regs.sp)
      → AreSame o find (moves_of instr) (draft_on (past n regs))
  unfolding moved reads_of
  all_found (LoadRegister r (places.Register s)) found top = tt
  all_found (LoadRegister r (places.Memory m)) found top = place_same m _ _ found (λ e. tt)
  all_found (LoadImmediate (places.Register r) v) found top = tt
  all_found (LoadImmediate (places.Memory memories.AtHl) v) found top = tt
  all_found (LoadImmediate (places.Memory (memories.At index d)) v) found top = tt
  all_found (Store memories.AtHl r) found top = tt
  all_found (Store (memories.At index d) r) found top = tt
  all_found (LoadA addresses.Bc) found top = (one_same pairs.bc.word _ found h.bc.word, tt)
  all_found (LoadA addresses.De) found top = (one_same pairs.de.word _ found h.de.word, tt)
  all_found (LoadA (addresses.Direct nn)) found top = (one_same (single nn) nn found (omega arith), tt)
  all_found (StoreA addresses.Bc) found top = tt
  all_found (StoreA addresses.De) found top = tt
  all_found (StoreA (addresses.Direct nn)) found top = tt
  all_found (StoreASpecial specials.I) found top = tt
  all_found (StoreASpecial specials.R) found top = tt
  all_found (LoadPairDirect dd nn) found top =
      (two_same (single nn) (single (above nn 1)) nn found (omega arith) (omega arith), tt)
  all_found (Pop qq) found top = (top refl, tt)
  all_found (ExchangeStack pointer) found top = (top refl, tt)
  all_found (BlockLoad blocks.Increment) found top = (one_same pairs.hl.word _ found h.hl.word, tt)
  all_found (BlockLoad blocks.Decrement) found top = (one_same pairs.hl.word _ found h.hl.word, tt)
  all_found (BlockLoad blocks.IncrementRepeat) found top = (one_same pairs.hl.word _ found h.hl.word, λ goes. tt)
  all_found (BlockLoad blocks.DecrementRepeat) found top = (one_same pairs.hl.word _ found h.hl.word, λ goes. tt)
  all_found (BlockCompare blocks.Increment) found top = (one_same pairs.hl.word _ found h.hl.word, tt)
  all_found (BlockCompare blocks.Decrement) found top = (one_same pairs.hl.word _ found h.hl.word, tt)
  all_found (BlockCompare blocks.IncrementRepeat) found top = (one_same pairs.hl.word _ found h.hl.word, λ goes. tt)
  all_found (BlockCompare blocks.DecrementRepeat) found top = (one_same pairs.hl.word _ found h.hl.word, λ goes. tt)
  all_found (Arithmetic kind (operands.Place (places.Register s))) found top = tt
  all_found (Arithmetic kind (operands.Place (places.Memory m))) found top = place_same m _ _ found (λ e. tt)
  all_found (Arithmetic kind (operands.Immediate v)) found top = tt
  all_found (Increment (places.Register r)) found top = tt
  all_found (Increment (places.Memory m)) found top = place_same m _ _ found (λ e. tt)
  all_found (Decrement (places.Register r)) found top = tt
  all_found (Decrement (places.Memory m)) found top = place_same m _ _ found (λ e. tt)
  all_found (Shift kind (places.Register r)) found top = tt
  all_found (Shift kind (places.Memory m)) found top = place_same m _ _ found (λ e. tt)
  all_found RotateDigitsLeft found top = (one_same pairs.hl.word _ found h.hl.word, tt)
  all_found RotateDigitsRight found top = (one_same pairs.hl.word _ found h.hl.word, tt)
  all_found (TestBit b (places.Register r)) found top = tt
  all_found (TestBit b (places.Memory m)) found top = place_same m _ _ found (λ e. tt)
  all_found (SetBit b (places.Register r)) found top = tt
  all_found (SetBit b (places.Memory m)) found top = place_same m _ _ found (λ e. tt)
  all_found (ResetBit b (places.Register r)) found top = tt
  all_found (ResetBit b (places.Memory m)) found top = place_same m _ _ found (λ e. tt)
  all_found (JumpIf condition nn) found top = λ goes. tt
  all_found (JumpRelativeIf condition e) found top = λ goes. tt
  all_found (DecrementJump e) found top = λ goes. tt
  all_found (CallIf condition nn) found top = λ goes. tt
  all_found Return found top = (top refl, tt)
  all_found (ReturnIf condition) found top = λ goes. (top goes, tt)
  all_found ReturnFromInterrupt found top = (top refl, tt)
  all_found ReturnFromNonMaskable found top = (top refl, tt)
  all_found _ found top = tt
