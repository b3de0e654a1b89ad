-- Soundness, one kind of move at a time.
use Rattle.std.proofs.Common.{◌≡◌, ℕ, ◌+◌, ◌*◌, ◌/◌, ◌%◌, ◌<◌, Bool, true, false, cond, eqb, refl, arith, ◌∙◌, ap, List, length, length-append, Some, None}
use Rattle.std.specs.Int.Bits.{and_lt, xor_self}
use Rattle.std.proofs.lemmas.Nat.{or_lt, xor_lt}
use Rattle.std.proofs.lemmas.Bool.{eqb-true}
use Rattle.z80_alu.proofs.FlagsLemmas.{flags_of-flags_byte, zero_of_increment8, zero_of_decrement8, zero_of_sum8, zero_of_difference8, zero_of_and8, zero_of_or8, zero_of_xor8, carry_of_compare8, zero_of_compare8}
use Rattle.z80_alu.specs.Add.{difference8, difference8_flags}
use Rattle.z80_alu.specs.Flags.{flags_byte, flags_of}
use Rattle.z80_alu.specs.declared.flags.Flags.{Flags}
use Rattle.z80_alu.specs.declared.regs.Regs.{Regs}
use Rattle.z80_decode.specs.declared.kinds.ArithmeticKind.{ArithmeticKind}
use Rattle.z80_decode.specs.declared.kinds.ArithmeticKind.TheVariants as operations
use Rattle.z80_decode.specs.declared.operands.Register8.TheVariants as registers
use Rattle.z80_draft.specs.Arithmetic.{value_of}
use Rattle.z80_draft.specs.Draft.{DraftView, draft_byte, draft_word, with_byte, with_word, with_flags, with_result, above, word_read, written, de_hl_exchanged, af_exchanged, sets_exchanged, moved}
use Rattle.z80_draft.specs.Outside.{Outside}
use Rattle.z80_moves.specs.declared.moves.Move.TheVariants.{Displace, ReadByte, WriteByte, ReadWord, WriteWord, Arithmetic, Increment, Decrement, CountDown, IncrementWord, DecrementWord}
use Rattle.z80_moves.specs.declared.registers.ByteRegister.{ByteRegister}
use Rattle.z80_moves.specs.declared.registers.ByteRegister.TheVariants as bytes
use Rattle.z80_moves.specs.declared.registers.WordRegister.{WordRegister}
use Rattle.intervals.specs.Domain.{Entry}
use Rattle.intervals.specs.Logic.{is_single}
use Rattle.intervals.specs.Pair.{written_bytes}
use Rattle.intervals.specs.Range.{RangeView, Within}
use Rattle.intervals.specs.Sums.{increment}
use Rattle.intervals.proofs.Laws.{conjunction_holds, disjunction_holds, exclusive_disjunction_holds, increment_of_words}
use Rattle.intervals.proofs.PairChanges.{written_bytes_holds}
use Rattle.loop_bounds.specs.Effect.{Valuation, change_of}
use Rattle.loop_bounds.specs.declared.effect.Change.TheVariants.{Unknown}
use Rattle.loop_bounds.specs.declared.variable.Variable.{Variable}
use Rattle.loop_bounds.specs.declared.variable.Variable.TheVariants as variables
use Rattle.abs_state.proofs.ChangeLemmas.{fact_kept}
use Rattle.abs_state.specs.Fact.{HoldsFact}
use Rattle.abs_state.specs.Seen.{regs_with_byte as with_register}
use Rattle.abs_state.specs.Variables.{value_in}
use Rattle.abs_state.specs.declared.fact.FlagFact.TheVariants.{Zero, Compared}
use Rattle.abs_state.specs.declared.state.AbsState.{AbsState}
use Rattle.abs_draft.specs.AfterMove.{after_move, changed_byte, exchanged_de_hl, exchanged_af, exchanged_sets}
use Rattle.abs_draft.specs.Ground.{GroundView, read_range}
use Rattle.abs_draft.specs.AbsDraft.{known_byte, known_word, known_pair, byte_change, word_change, put_known_byte, put_known_flags}
use Rattle.abs_draft.specs.Results.{arithmetic_range, zero_fact, compare_fact}
use Rattle.abs_draft.specs.declared.draft.AbsDraft.{AbsDraft}
use Rattle.abs_laws.specs.Fits.{Fits, FollowsChange, IsThere, ReadsFit, seen_by_draft}
use Rattle.abs_laws.proofs.Numbers.{wraps_byte, wraps_word, byte_sum, byte_sum_with_carry, byte_difference, byte_difference_with_carry, byte_increment, byte_decrement, word_increment, word_decrement, displaced_small, displaced_within, byte_raised, byte_lowered, word_raised, word_lowered}
use Rattle.abs_laws.proofs.Parts.{byte_small, word_small, byte_within, pair_holds, byte_follows, word_follows, held, same_fact, changed_so, rest_changed}
use Rattle.abs_laws.proofs.Puts.{byte_done, word_done, pair_done, result_done, flags_done}
use Rattle.abs_laws.proofs.Results.{at_most_byte}
use Rattle.abs_laws.proofs.Writes.{write_done}

-- ---- flag facts of operations

-- Z of the new flags is Z in F
zero_told : (flags : Flags) (n : ℕ) → flags.zero ≡ eqb n 0 → (flags_of (flags_byte flags)).zero ≡ eqb n 0
zero_told flags n h = ap (λ (f : Flags). f.zero) (flags_of-flags_byte flags) ∙ h

-- INC and DEC: Z is set if the result is 0
counted_fact : (r : ByteRegister) (n : ℕ) (flags : Flags) (d : DraftView) → flags.zero ≡ eqb n 0 → HoldsFact (zero_fact r) (with_result r n flags d).regs
counted_fact bytes.F n flags d h = tt
counted_fact bytes.I n flags d h = tt
counted_fact bytes.Operand n flags d h = tt
counted_fact _ n flags d h = zero_told flags n h

-- CP with one value: C is set if A is below it, and Z if A equals it
compared_fact : (range : RangeView) (byte noise : ℕ) (d : DraftView) → d.regs.main.a < 256 → byte < 256 → Within range byte → HoldsFact (compare_fact range) (with_flags (difference8_flags d.regs.main.a byte false noise) d).regs
compared_fact range byte noise d a small w =
    let at : (t : Bool) → is_single range ≡ t → HoldsFact (cond t (Some (Compared range.low)) None) (with_flags (difference8_flags d.regs.main.a byte false noise) d).regs =
    elim [
      | true ↦ λ e.
          let one : range.low ≡ range.high = eqb-true _ _ e in
          let same : byte ≡ range.low = omega arith in
          rw (← same) (ap (λ (x : Flags). x.carry) (flags_of-flags_byte _) ∙ carry_of_compare8 _ _ _, ap (λ (x : Flags). x.zero) (flags_of-flags_byte _) ∙ zero_of_compare8 _ _ _ a small)
      | false ↦ λ e. tt
    ] in
    at (is_single range) refl

word_of_bytes : (high low : ℕ) → high < 256 → low < 256 → high * 256 + low < 65536
word_of_bytes high low h l = omega arith

-- ---- each kind

module _ (g : GroundView) (start : AbsState) (o : Outside) (inline : Bool) (k : AbsDraft) (entry : Entry) (before : Valuation) (d : DraftView) (stack : List ℕ) (f : Fits g start k entry before d stack) where
  small : (r : ByteRegister) → draft_byte r d < 256
  small = byte_small g start k entry before d stack f

  within : (r : ByteRegister) → Within (known_byte r k) (draft_byte r d)
  within = byte_within g start k entry before d stack f

  follows : (r : ByteRegister) → FollowsChange (byte_change r k.effect) before (draft_byte r d)
  follows = byte_follows g start k entry before d stack f

  word_is_small : (w : WordRegister) → draft_word w d < 65536
  word_is_small = word_small g start k entry before d stack f

  word_within : (w : WordRegister) → Within (known_word w k) (draft_word w d)
  word_within w = (pair_holds g start k entry before d stack f w).word

  word_change_follows : (w : WordRegister) → FollowsChange (word_change w k.effect) before (draft_word w d)
  word_change_follows = word_follows g start k entry before d stack f

  -- A and its flags
  pub a_done : (range : RangeView) (n : ℕ) (flags : Flags) → n < 256 → Within range n → flags.zero ≡ eqb n 0
      → Fits g start (put_known_flags (Some (Zero registers.A)) (put_known_byte bytes.A range Unknown k)) entry before (with_result bytes.A n flags d) stack
  a_done range n flags h w z = result_done bytes.A range Unknown n (Some (Zero registers.A)) flags h w refl (zero_told flags n z) f

  -- a byte whose flags give no fact
  pub changed_done : (r : ByteRegister) (range : RangeView) (n : ℕ) (flags : Flags) → n < 256 → Within range n → Fits g start (changed_byte r range k) entry before (with_result r n flags d) stack
  changed_done r range n flags h w = result_done r range Unknown n None flags h w refl tt f

  pub count_down : (r : ByteRegister) → Fits g start (after_move g inline (CountDown r) k) entry before (moved o (CountDown r) d) stack
  unfolding after_move moved
  count_down r = byte_done r _ _ (difference8 (draft_byte r d) 1 false) (wraps_byte _) (byte_decrement _ _ (within r)) (byte_lowered _ _ before _ (small r) (within r) (follows r)) f

  pub counted_up : (r : ByteRegister) → Fits g start (after_move g inline (Increment r) k) entry before (moved o (Increment r) d) stack
  unfolding after_move moved
  counted_up r = result_done r _ _ _ (zero_fact r) _ (wraps_byte _) (byte_increment _ _ (within r)) (byte_raised _ _ before _ (within r) (follows r)) (counted_fact r _ _ d (zero_of_increment8 _ _ _)) f

  pub decrement_done : (r : ByteRegister) → Fits g start (after_move g inline (Decrement r) k) entry before (moved o (Decrement r) d) stack
  unfolding after_move moved
  decrement_done r = result_done r _ _ _ (zero_fact r) _ (wraps_byte _) (byte_decrement _ _ (within r)) (byte_lowered _ _ before _ (small r) (within r) (follows r)) (counted_fact r _ _ d (zero_of_decrement8 _ _ _)) f

  -- ---- A and a byte

  subtracted : (r : ByteRegister) → Within (arithmetic_range operations.Sub r k) (difference8 d.regs.main.a (draft_byte r d) false)
  subtracted bytes.A = let zero : difference8 d.regs.main.a d.regs.main.a false ≡ 0 = omega arith in omega arith
  subtracted r = byte_difference _ _ _ _ false (within bytes.A) (within r)

  exclusive : (r : ByteRegister) → Within (arithmetic_range operations.Xor r k) (value_of operations.Xor d.regs.main.a (draft_byte r d) false)
  exclusive bytes.A = rw (xor_self d.regs.main.a) (omega arith)
  exclusive r = exclusive_disjunction_holds _ _ _ _ (within bytes.A) (within r) (at_most_byte _ (small bytes.A)) (at_most_byte _ (small r))

  pub arithmetic_done : (kind : ArithmeticKind) (r : ByteRegister) → Fits g start (after_move g inline (Arithmetic kind r) k) entry before (moved o (Arithmetic kind r) d) stack
  unfolding after_move moved
  arithmetic_done operations.Add r = a_done _ _ _ (wraps_byte _) (byte_sum _ _ _ _ false (within bytes.A) (within r)) (zero_of_sum8 _ _ _ _)
  arithmetic_done operations.Adc r = a_done _ _ _ (wraps_byte _) (byte_sum_with_carry _ _ _ _ _ (within bytes.A) (within r)) (zero_of_sum8 _ _ _ _)
  arithmetic_done operations.Sub r = a_done _ _ _ (wraps_byte _) (subtracted r) (zero_of_difference8 _ _ _ _)
  arithmetic_done operations.Sbc r = a_done _ _ _ (wraps_byte _) (byte_difference_with_carry _ _ _ _ _ (within bytes.A) (within r)) (zero_of_difference8 _ _ _ _)
  arithmetic_done operations.And r = a_done _ _ _ (and_lt 8 _ _ (small bytes.A) (small r)) (conjunction_holds _ _ _ _ (within bytes.A) (within r)) (zero_of_and8 _ _ _)
  arithmetic_done operations.Xor r = a_done _ _ _ (xor_lt 8 _ _ (small bytes.A) (small r)) (exclusive r) (zero_of_xor8 _ _ _)
  arithmetic_done operations.Or r = a_done _ _ _ (or_lt 8 _ _ (small bytes.A) (small r)) (disjunction_holds _ _ _ _ (within bytes.A) (within r) (at_most_byte _ (small bytes.A)) (at_most_byte _ (small r))) (zero_of_or8 _ _ _)
  arithmetic_done operations.Compare r = flags_done (compare_fact (known_byte r k)) _ (compared_fact (known_byte r k) (draft_byte r d) o.noise d (small bytes.A) (small r) (within r)) f

  -- ---- words

  pub displace_done : (w : WordRegister) (by : ℕ) → Fits g start (after_move g inline (Displace w by) k) entry before (moved o (Displace w by) d) stack
  unfolding after_move moved
  displace_done w by = word_done w _ Unknown _ (displaced_small _ by) (displaced_within _ _ by (word_within w)) refl f

  pub increment_word : (w : WordRegister) → Fits g start (after_move g inline (IncrementWord w) k) entry before (moved o (IncrementWord w) d) stack
  unfolding after_move moved
  increment_word w = word_done w _ _ _ (wraps_word _) (word_increment _ _ (word_within w)) (word_raised _ _ before _ (word_within w) (word_change_follows w)) f

  pub decrement_word : (w : WordRegister) → Fits g start (after_move g inline (DecrementWord w) k) entry before (moved o (DecrementWord w) d) stack
  unfolding after_move moved
  decrement_word w = word_done w _ _ _ (wraps_word _) (word_decrement _ _ (word_within w)) (word_lowered _ _ before _ (word_is_small w) (word_within w) (word_change_follows w)) f

  -- ---- reads

  module _ (reads : ReadsFit g o k.readable) where
    pub read_done : (r : ByteRegister) (at : WordRegister) → Fits g start (after_move g inline (ReadByte r at) k) entry before (moved o (ReadByte r at) d) stack
    unfolding after_move moved
    read_done r at =
        let e = with_byte r (o.read d.has_read (draft_word at d)) d in
        rest_changed (byte_done r (read_range g k.readable (known_word at k)) Unknown (o.read d.has_read (draft_word at d)) (reads.bytes _ _) (reads.found _ d.has_read _ (word_is_small at) (word_within at)) refl f)
        true e.taken e.halts e.stack

    pub read_word_done : (w at : WordRegister) → Fits g start (after_move g inline (ReadWord w at) k) entry before (moved o (ReadWord w at) d) stack
    unfolding after_move moved
    read_word_done w at =
        let n = word_read o d.has_read (draft_word at d) in
        let e = with_word w n d in
        let low = reads.found (known_word at k) d.has_read (draft_word at d) (word_is_small at) (word_within at) in
        let high = reads.found (increment 65536 (known_word at k)) true (above (draft_word at d) 1) (wraps_word _) (increment_of_words _ _ (word_within at)) in
        let low_byte = reads.bytes d.has_read (draft_word at d) in
        let high_byte = reads.bytes true (above (draft_word at d) 1) in
        rest_changed (pair_done g start k entry before d stack
        (written_bytes (read_range g k.readable (increment 65536 (known_word at k))) (read_range g k.readable (known_word at k))) Unknown Unknown Unknown n
        (word_of_bytes _ _ high_byte low_byte) (written_bytes_holds _ _ entry _ _ (at_most_byte _ low_byte) high low) (record { of_word = refl; of_high = refl; of_low = refl }) f w)
        true e.taken e.halts e.stack

  -- ---- data writes

  pub write_one : (at : WordRegister) (r : ByteRegister) → length d.writes < 2 → Fits g start (after_move g inline (WriteByte at r) k) entry before (moved o (WriteByte at r) d) stack
  unfolding after_move moved
  write_one at r room = write_done (known_word at k) (known_byte r k) _ _ (word_within at) (within r) room f

  pub write_two : (at w : WordRegister) → length d.writes < 1 → Fits g start (after_move g inline (WriteWord at w) k) entry before (moved o (WriteWord at w) d) stack
  unfolding after_move moved
  write_two at w room =
      let pair = pair_holds g start k entry before d stack f w in
      let one = write_done (known_word at k) (known_pair w k).low (draft_word at d) (draft_word w d % 256) (word_within at) pair.low (omega arith) f in
      let count : length (written (draft_word at d) (draft_word w d % 256) d).writes ≡ length d.writes + 1 = length-append d.writes _ in
      write_done (increment 65536 (known_word at k)) (known_pair w k).high (above (draft_word at d) 1) (draft_word w d / 256) (increment_of_words _ _ (word_within at)) pair.high (omega arith) one

  -- ---- exchanges

  pub de_hl_done : Fits g start (exchanged_de_hl k) entry before (de_hl_exchanged d) stack
  de_hl_done =
      let main = d.regs.main in
      let l = with_register registers.L main.e d.regs in
      let h = with_register registers.H main.d l in
      let e = with_register registers.E main.l h in
      let fact = fact_kept registers.D main.h _ e (fact_kept registers.E main.l _ h (fact_kept registers.H main.d _ l (fact_kept registers.L main.e k.state.flag d.regs f.flag))) in
      changed_so f (record {
        in_range = assumption;
        pc = refl;
        holds = record {
          mode = (held f).mode;
          cells_hold = (held f).cells_hold;
          pairs = record { af = f.pairs.af; bc = f.pairs.bc; de = f.pairs.hl; hl = f.pairs.de; ix = f.pairs.ix; iy = f.pairs.iy; alternate_af = f.pairs.alternate_af; alternate_bc = f.pairs.alternate_bc; alternate_de = f.pairs.alternate_de; alternate_hl = f.pairs.alternate_hl };
          flag = fact;
          shape = f.shape;
        };
        mode = refl;
        armed = refl;
        follows = de_hl_follow;
      })
    where
      de_hl_follow : (v : Variable) → IsThere (length stack) v → FollowsChange (change_of (exchanged_de_hl k).effect v) before (value_in (seen_by_draft (de_hl_exchanged d) stack) v)
      de_hl_follow variables.D i = f.follows variables.H i
      de_hl_follow variables.E i = f.follows variables.L i
      de_hl_follow variables.De i = f.follows variables.Hl i
      de_hl_follow variables.H i = f.follows variables.D i
      de_hl_follow variables.L i = f.follows variables.E i
      de_hl_follow variables.Hl i = f.follows variables.De i
      de_hl_follow v i = f.follows v i

  pub af_done : Fits g start (exchanged_af k) entry before (af_exchanged d) stack
  af_done =
      changed_so f (record {
        in_range = assumption;
        pc = refl;
        holds = record {
          mode = (held f).mode;
          cells_hold = (held f).cells_hold;
          pairs = record { af = f.pairs.alternate_af; bc = f.pairs.bc; de = f.pairs.de; hl = f.pairs.hl; ix = f.pairs.ix; iy = f.pairs.iy; alternate_af = f.pairs.af; alternate_bc = f.pairs.alternate_bc; alternate_de = f.pairs.alternate_de; alternate_hl = f.pairs.alternate_hl };
          flag = tt;
          shape = f.shape;
        };
        mode = refl;
        armed = refl;
        follows = af_follow;
      })
    where
      af_follow : (v : Variable) → IsThere (length stack) v → FollowsChange (change_of (exchanged_af k).effect v) before (value_in (seen_by_draft (af_exchanged d) stack) v)
      af_follow variables.A i = refl
      af_follow v i = f.follows v i

  pub sets_done : Fits g start (exchanged_sets k) entry before (sets_exchanged d) stack
  sets_done =
      let other = d.regs.alternate in
      let l = with_register registers.L other.l d.regs in
      let h = with_register registers.H other.h l in
      let e = with_register registers.E other.e h in
      let de = with_register registers.D other.d e in
      let c = with_register registers.C other.c de in
      let bc = with_register registers.B other.b c in
      let fact = fact_kept registers.B other.b _ c (fact_kept registers.C other.c _ de (fact_kept registers.D other.d _ e (fact_kept registers.E other.e _ h (fact_kept registers.H other.h _ l (fact_kept registers.L other.l k.state.flag d.regs f.flag))))) in
      changed_so f (record {
        in_range = assumption;
        pc = refl;
        holds = record {
          mode = (held f).mode;
          cells_hold = (held f).cells_hold;
          pairs = record { af = f.pairs.af; bc = f.pairs.alternate_bc; de = f.pairs.alternate_de; hl = f.pairs.alternate_hl; ix = f.pairs.ix; iy = f.pairs.iy; alternate_af = f.pairs.alternate_af; alternate_bc = f.pairs.bc; alternate_de = f.pairs.de; alternate_hl = f.pairs.hl };
          flag = same_fact _ bc (sets_exchanged d).regs refl fact;
          shape = f.shape;
        };
        mode = refl;
        armed = refl;
        follows = sets_follow;
      })
    where
      sets_follow : (v : Variable) → IsThere (length stack) v → FollowsChange (change_of (exchanged_sets k).effect v) before (value_in (seen_by_draft (sets_exchanged d) stack) v)
      sets_follow variables.B i = refl
      sets_follow variables.C i = refl
      sets_follow variables.D i = refl
      sets_follow variables.E i = refl
      sets_follow variables.H i = refl
      sets_follow variables.L i = refl
      sets_follow variables.Bc i = refl
      sets_follow variables.De i = refl
      sets_follow variables.Hl i = refl
      sets_follow v i = f.follows v i

  -- ---- the latches

  pub latches_done : (iff1 iff2 : Bool) → Fits g start k entry before (record d { regs = record d.regs { iff1 = iff1; iff2 = iff2 } }) stack
  latches_done iff1 iff2 =
      let new : Regs = record d.regs { iff1 = iff1; iff2 = iff2 } in
      let fact = same_fact k.state.flag d.regs new refl f.flag in
      let follow : (v : Variable) → IsThere (length stack) v → FollowsChange (change_of k.effect v) before (value_in (record (seen_by_draft d stack) { regs = new }) v) = latches_follow in
      assumption
    where
      latches_follow : (v : Variable) → IsThere (length stack) v → FollowsChange (change_of k.effect v) before (value_in (record (seen_by_draft d stack) { regs = record d.regs { iff1 = iff1; iff2 = iff2 } }) v)
      latches_follow variables.A i = f.follows variables.A i
      latches_follow v i = f.follows v i
