-- A written register keeps the abstract draft true.
use Rattle.std.proofs.Common.{◌≡◌, ◌<◌, ◌+◌, ◌*◌, ◌/◌, ◌%◌, ℕ, refl, sym, subst, arith, List, [], length, Option, None}
use Rattle.intervals.specs.Domain.{Entry}
use Rattle.intervals.specs.Pair.{HoldsPair, written_bytes, written_word}
use Rattle.intervals.specs.Range.{RangeView, Within, full}
use Rattle.intervals.specs.declared.pair.Pair.{Pair}
use Rattle.intervals.specs.declared.reg_pair.RegPair.{RegPair}
use Rattle.intervals.specs.declared.reg_pair.RegPair.TheVariants as pairs
use Rattle.intervals.proofs.PairChanges.{written_bytes_holds, written_word_holds}
use Rattle.loop_bounds.specs.Effect.{Valuation, change_of}
use Rattle.loop_bounds.specs.declared.effect.Change.{Change}
use Rattle.loop_bounds.specs.declared.effect.Change.TheVariants.{Unknown}
use Rattle.loop_bounds.specs.declared.effect.Effect.{Effect}
use Rattle.loop_bounds.specs.declared.variable.Variable.{Variable}
use Rattle.loop_bounds.specs.declared.variable.Variable.TheVariants as variables
use Rattle.z80_alu.proofs.FlagsLemmas.{flags_byte-lt}
use Rattle.z80_alu.specs.Flags.{flags_byte}
use Rattle.z80_alu.specs.declared.flags.Flags.{Flags}
use Rattle.z80_alu.specs.declared.regs.Regs.{Regs}
use Rattle.z80_decode.specs.declared.operands.Register8.{Register8}
use Rattle.z80_decode.specs.declared.operands.Register8.TheVariants as registers
use Rattle.z80_draft.specs.Draft.{DraftView, with_byte, with_word, with_flags, with_result, with_word_result}
use Rattle.z80_draft.specs.Registers.{IsRegs}
use Rattle.z80_moves.specs.declared.registers.ByteRegister.{ByteRegister}
use Rattle.z80_moves.specs.declared.registers.ByteRegister.TheVariants as bytes
use Rattle.z80_moves.specs.declared.registers.WordRegister.{WordRegister}
use Rattle.z80_moves.specs.declared.registers.WordRegister.TheVariants as words
use Rattle.abs_state.proofs.ChangeLemmas.{byte_put as state_byte_put, pair_put as state_pair_put}
use Rattle.abs_state.specs.Fact.{HoldsFact}
use Rattle.abs_state.specs.Seen.{Seen, regs_with_byte as with_register, regs_with_word as with_pair_word, regs_with_flags as with_flags_byte}
use Rattle.abs_state.specs.Variables.{value_in}
use Rattle.abs_state.specs.declared.fact.FlagFact.{FlagFact}
use Rattle.abs_state.specs.declared.state.AbsState.{AbsState}
use Rattle.abs_draft.specs.Ground.{GroundView}
use Rattle.abs_draft.specs.AbsDraft.{with_byte_change, with_parts, set_byte, set_pair, put_known_byte, put_known_pair, put_known_word, put_known_flags}
use Rattle.abs_draft.specs.declared.draft.AbsDraft.{AbsDraft}
use Rattle.abs_laws.specs.Fits.{Fits, FollowsChange, IsThere, seen_by_draft}
use Rattle.abs_laws.proofs.Parts.{PartsFollow, changed_so, held, high_small, low_small, same_fact}

-- ---- a byte register

register_fits : (r : Register8) (n : ℕ) (regs : Regs) → n < 256 → IsRegs regs → IsRegs (with_register r n regs)
register_fits registers.A n regs small h = assumption
register_fits registers.B n regs small h = assumption
register_fits registers.C n regs small h = assumption
register_fits registers.D n regs small h = assumption
register_fits registers.E n regs small h = assumption
register_fits registers.H n regs small h = assumption
register_fits registers.L n regs small h = assumption

pc_stays : (r : Register8) (n : ℕ) (regs : Regs) → (with_register r n regs).pc ≡ regs.pc
pc_stays registers.A n regs = refl
pc_stays _ n regs = refl

register_followed : (effect : Effect) (before : Valuation) (m : Seen) (r : Register8) (change : Change) (n : ℕ) → FollowsChange change before n
    → ((v : Variable) → IsThere (length m.words) v → FollowsChange (change_of effect v) before (value_in m v))
    → (v : Variable) → IsThere (length m.words) v → FollowsChange (change_of (with_byte_change r change effect) v) before (value_in (record m { regs = with_register r n m.regs }) v)
register_followed effect before m registers.A change n c f variables.A i = c
register_followed effect before m registers.A change n c f v i = f v i
register_followed effect before m registers.B change n c f variables.B i = c
register_followed effect before m registers.B change n c f variables.Bc i = refl
register_followed effect before m registers.B change n c f v i = f v i
register_followed effect before m registers.C change n c f variables.C i = c
register_followed effect before m registers.C change n c f variables.Bc i = refl
register_followed effect before m registers.C change n c f v i = f v i
register_followed effect before m registers.D change n c f variables.D i = c
register_followed effect before m registers.D change n c f variables.De i = refl
register_followed effect before m registers.D change n c f v i = f v i
register_followed effect before m registers.E change n c f variables.E i = c
register_followed effect before m registers.E change n c f variables.De i = refl
register_followed effect before m registers.E change n c f v i = f v i
register_followed effect before m registers.H change n c f variables.H i = c
register_followed effect before m registers.H change n c f variables.Hl i = refl
register_followed effect before m registers.H change n c f v i = f v i
register_followed effect before m registers.L change n c f variables.L i = c
register_followed effect before m registers.L change n c f variables.Hl i = refl
register_followed effect before m registers.L change n c f v i = f v i

register_done : {g : GroundView} {start : AbsState} {k : AbsDraft} {entry : Entry} {before : Valuation} {d : DraftView} {stack : List ℕ} (r : Register8) (range : RangeView) (change : Change) (n : ℕ)
    → n < 256 → Within range n → FollowsChange change before n → Fits g start k entry before d stack → Fits g start (set_byte r range change k) entry before (record d { regs = with_register r n d.regs }) stack
register_done {k = k} {entry = entry} {before = before} {d = d} {stack = stack} r range change n small w c f = changed_so f (record {
  in_range = register_fits r n d.regs small f.regs;
  pc = pc_stays r n d.regs;
  holds = state_byte_put r range n k.state [] entry (seen_by_draft d stack) small f.regs w (held f);
  mode = refl;
  armed = refl;
  follows = register_followed k.effect before (seen_by_draft d stack) r change n c f.follows;
})

-- ---- F

-- F is written, and the fact holds of it
pub flags_byte_done : {g : GroundView} {start : AbsState} {k : AbsDraft} {entry : Entry} {before : Valuation} {d : DraftView} {stack : List ℕ} (fact : Option FlagFact) (n : ℕ)
    → n < 256 → HoldsFact fact (with_flags_byte n d.regs) → Fits g start k entry before d stack → Fits g start (put_known_flags fact k) entry before (with_byte bytes.F n d) stack
flags_byte_done {k = k} {entry = entry} {before = before} {d = d} {stack = stack} fact n small h f =
    let high = f.pairs.af.high in
    let low = f.regs.main.f in
    let af : HoldsPair (written_bytes k.state.pairs.af.high (full 256)) entry (d.regs.main.a * 256 + n) = written_bytes_holds k.state.pairs.af.high (full 256) entry d.regs.main.a n (omega arith) (omega arith) (omega arith) in
    let p = f.pairs in
    let main = f.regs.main in
    changed_so f (record {
      in_range = record { main = record { a = main.a; f = small; b = main.b; c = main.c; d = main.d; e = main.e; h = main.h; l = main.l }; alternate = f.regs.alternate; ix = f.regs.ix; iy = f.regs.iy; sp = f.regs.sp; pc = f.regs.pc; i = f.regs.i; r = f.regs.r };
      pc = refl;
      holds = record {
        mode = (held f).mode;
        cells_hold = (held f).cells_hold;
        pairs = record { af = af; bc = p.bc; de = p.de; hl = p.hl; ix = p.ix; iy = p.iy; alternate_af = p.alternate_af; alternate_bc = p.alternate_bc; alternate_de = p.alternate_de; alternate_hl = p.alternate_hl };
        flag = h;
        shape = f.shape;
      };
      mode = refl;
      armed = refl;
      follows = flags_followed k.effect before (seen_by_draft d stack) n f.follows;
    })
  where
    flags_followed : (effect : Effect) (before : Valuation) (m : Seen) (n : ℕ) → ((v : Variable) → IsThere (length m.words) v → FollowsChange (change_of effect v) before (value_in m v))
        → (v : Variable) → IsThere (length m.words) v → FollowsChange (change_of effect v) before (value_in (record m { regs = with_flags_byte n m.regs }) v)
    flags_followed effect before m n f variables.A i = f variables.A i
    flags_followed effect before m n f v i = f v i

-- new flags
pub flags_done : {g : GroundView} {start : AbsState} {k : AbsDraft} {entry : Entry} {before : Valuation} {d : DraftView} {stack : List ℕ} (fact : Option FlagFact) (flags : Flags)
    → HoldsFact fact (with_flags flags d).regs → Fits g start k entry before d stack → Fits g start (put_known_flags fact k) entry before (with_flags flags d) stack
flags_done fact flags h f = flags_byte_done fact (flags_byte flags) (flags_byte-lt flags) h f

-- ---- any byte

pub byte_done : {g : GroundView} {start : AbsState} {k : AbsDraft} {entry : Entry} {before : Valuation} {d : DraftView} {stack : List ℕ} (r : ByteRegister) (range : RangeView) (change : Change) (n : ℕ)
    → n < 256 → Within range n → FollowsChange change before n → Fits g start k entry before d stack → Fits g start (put_known_byte r range change k) entry before (with_byte r n d) stack
byte_done bytes.A range change n small w c f = register_done registers.A range change n small w c f
byte_done bytes.F range change n small w c f = flags_byte_done None n small tt f
byte_done bytes.B range change n small w c f = register_done registers.B range change n small w c f
byte_done bytes.C range change n small w c f = register_done registers.C range change n small w c f
byte_done bytes.D range change n small w c f = register_done registers.D range change n small w c f
byte_done bytes.E range change n small w c f = register_done registers.E range change n small w c f
byte_done bytes.H range change n small w c f = register_done registers.H range change n small w c f
byte_done bytes.L range change n small w c f = register_done registers.L range change n small w c f
byte_done {k = k} {d = d} bytes.I range change n small w c f =
    let fact = same_fact k.state.flag d.regs (with_byte bytes.I n d).regs refl f.flag in
    assumption
byte_done bytes.Operand range change n small w c f = assumption

-- a byte and its flags
pub result_done : {g : GroundView} {start : AbsState} {k : AbsDraft} {entry : Entry} {before : Valuation} {d : DraftView} {stack : List ℕ} (r : ByteRegister) (range : RangeView) (change : Change) (n : ℕ) (fact : Option FlagFact) (flags : Flags)
    → n < 256 → Within range n → FollowsChange change before n → HoldsFact fact (with_result r n flags d).regs → Fits g start k entry before d stack → Fits g start (put_known_flags fact (put_known_byte r range change k)) entry before (with_result r n flags d) stack
result_done r range change n fact flags small w c h f = flags_done fact flags h (byte_done r range change n small w c f)

-- ---- a word

whole_again : (n : ℕ) → n / 256 * 256 + n % 256 ≡ n
whole_again n = omega arith

whole_followed : (change : Change) (before : Valuation) (n : ℕ) → FollowsChange change before n → FollowsChange change before (n / 256 * 256 + n % 256)
whole_followed change before n h = subst (λ (x : ℕ). FollowsChange change before x) (sym (whole_again n)) h

word_fits : (w : WordRegister) (n : ℕ) (d : DraftView) → n < 65536 → IsRegs d.regs → IsRegs (with_word w n d).regs
word_fits words.Af n d small h = let high = high_small n small in let low = low_small n in assumption
word_fits words.Bc n d small h = let high = high_small n small in let low = low_small n in assumption
word_fits words.De n d small h = let high = high_small n small in let low = low_small n in assumption
word_fits words.Hl n d small h = let high = high_small n small in let low = low_small n in assumption
word_fits words.Ix n d small h = assumption
word_fits words.Iy n d small h = assumption
word_fits words.Sp n d small h = assumption
word_fits words.Pc n d small h = assumption
word_fits words.Pointer n d small h = h

word_followed : (effect : Effect) (before : Valuation) (d : DraftView) (stack : List ℕ) (w : WordRegister) (word high low : Change) (n : ℕ) → PartsFollow word high low before n
    → ((v : Variable) → IsThere (length stack) v → FollowsChange (change_of effect v) before (value_in (seen_by_draft d stack) v))
    → (v : Variable) → IsThere (length stack) v → FollowsChange (change_of (with_parts w (record { word = word; high = high; low = low }) effect) v) before (value_in (seen_by_draft (with_word w n d) stack) v)
word_followed effect before d stack words.Af word high low n p f variables.A i = p.of_high
word_followed effect before d stack words.Af word high low n p f v i = f v i
word_followed effect before d stack words.Bc word high low n p f variables.Bc i = whole_followed word before n p.of_word
word_followed effect before d stack words.Bc word high low n p f variables.B i = p.of_high
word_followed effect before d stack words.Bc word high low n p f variables.C i = p.of_low
word_followed effect before d stack words.Bc word high low n p f v i = f v i
word_followed effect before d stack words.De word high low n p f variables.De i = whole_followed word before n p.of_word
word_followed effect before d stack words.De word high low n p f variables.D i = p.of_high
word_followed effect before d stack words.De word high low n p f variables.E i = p.of_low
word_followed effect before d stack words.De word high low n p f v i = f v i
word_followed effect before d stack words.Hl word high low n p f variables.Hl i = whole_followed word before n p.of_word
word_followed effect before d stack words.Hl word high low n p f variables.H i = p.of_high
word_followed effect before d stack words.Hl word high low n p f variables.L i = p.of_low
word_followed effect before d stack words.Hl word high low n p f v i = f v i
word_followed effect before d stack words.Ix word high low n p f variables.Ix i = p.of_word
word_followed effect before d stack words.Ix word high low n p f v i = f v i
word_followed effect before d stack words.Iy word high low n p f variables.Iy i = p.of_word
word_followed effect before d stack words.Iy word high low n p f v i = f v i
word_followed effect before d stack words.Sp word high low n p f variables.A i = f variables.A i
word_followed effect before d stack words.Sp word high low n p f v i = f v i
word_followed effect before d stack words.Pc word high low n p f variables.A i = f variables.A i
word_followed effect before d stack words.Pc word high low n p f v i = f v i
word_followed effect before d stack words.Pointer word high low n p f v i = f v i

module _ (g : GroundView) (start : AbsState) (k : AbsDraft) (entry : Entry) (before : Valuation) (d : DraftView) (stack : List ℕ) (pair : Pair) (word high low : Change) (n : ℕ) (small : n < 65536) (h : HoldsPair pair entry n) (p : PartsFollow word high low before n) (f : Fits g start k entry before d stack) where
  -- a word register that is a pair of the state
  set_pair_done : (r : RegPair) (w : WordRegister) → (with_word w n d).regs ≡ with_pair_word r n d.regs → (with_word w n d).regs.pc ≡ d.regs.pc
      → Fits g start (set_pair r w pair (record { word = word; high = high; low = low }) k) entry before (record d { regs = (with_word w n d).regs }) stack
  set_pair_done r w e pc = changed_so f (record {
    in_range = word_fits w n d small f.regs;
    pc = pc;
    holds = rw e (state_pair_put r pair n k.state [] entry (seen_by_draft d stack) h (held f));
    mode = refl;
    armed = refl;
    follows = word_followed k.effect before d stack w word high low n p f.follows;
  })

  pub pair_done : (w : WordRegister) → Fits g start (put_known_pair w pair (record { word = word; high = high; low = low }) k) entry before (with_word w n d) stack
  pair_done words.Af = set_pair_done pairs.Af words.Af refl refl
  pair_done words.Bc = set_pair_done pairs.Bc words.Bc refl refl
  pair_done words.De = set_pair_done pairs.De words.De refl refl
  pair_done words.Hl = set_pair_done pairs.Hl words.Hl refl refl
  pair_done words.Ix = set_pair_done pairs.Ix words.Ix refl refl
  pair_done words.Iy = set_pair_done pairs.Iy words.Iy refl refl
  pair_done words.Sp =
      let fact = same_fact k.state.flag d.regs (with_word words.Sp n d).regs refl f.flag in
      let regs = word_fits words.Sp n d small f.regs in
      let follows = word_followed k.effect before d stack words.Sp word high low n p f.follows in
      assumption
  pair_done words.Pc =
      let fact = same_fact k.state.flag d.regs (with_word words.Pc n d).regs refl f.flag in
      let regs = word_fits words.Pc n d small f.regs in
      let follows = word_followed k.effect before d stack words.Pc word high low n p f.follows in
      let inside = h.word in
      assumption
  pair_done words.Pointer = let inside = h.word in assumption

-- a written word
pub word_done : {g : GroundView} {start : AbsState} {k : AbsDraft} {entry : Entry} {before : Valuation} {d : DraftView} {stack : List ℕ} (w : WordRegister) (range : RangeView) (change : Change) (n : ℕ)
    → n < 65536 → Within range n → FollowsChange change before n → Fits g start k entry before d stack → Fits g start (put_known_word w range change k) entry before (with_word w n d) stack
word_done {g = g} {start = start} {k = k} {entry = entry} {before = before} {d = d} {stack = stack} w range change n small i c f =
    pair_done g start k entry before d stack (written_word range) change Unknown Unknown n small (written_word_holds range entry n i) (record { of_word = c; of_high = refl; of_low = refl }) f w

-- a word and its flags
pub word_result_done : {g : GroundView} {start : AbsState} {k : AbsDraft} {entry : Entry} {before : Valuation} {d : DraftView} {stack : List ℕ} (w : WordRegister) (range : RangeView) (n : ℕ) (flags : Flags)
    → n < 65536 → Within range n → Fits g start k entry before d stack → Fits g start (put_known_flags None (put_known_word w range Unknown k)) entry before (with_word_result w n flags d) stack
word_result_done w range n flags small i f = flags_done None flags tt (word_done w range Unknown n small i refl f)
