-- What is known of a draft, register by register, and how it stays true when registers and state change.
use Rattle.std.proofs.Common.{◌≡◌, ◌<◌, ◌+◌, ◌*◌, ◌/◌, ◌%◌, ℕ, zero, suc, Bool, false, refl, sym, ◌∙◌, subst, arith, List, [], length, Option, Some, None}
use Rattle.intervals.specs.Domain.{Entry}
use Rattle.intervals.specs.Pair.{HoldsPair}
use Rattle.intervals.specs.Range.{Within}
use Rattle.intervals.proofs.PairChanges.{written_word_holds}
use Rattle.loop_bounds.specs.Effect.{Valuation, change_of}
use Rattle.loop_bounds.specs.declared.effect.Change.{Change}
use Rattle.loop_bounds.specs.declared.effect.Effect.{Effect}
use Rattle.loop_bounds.specs.declared.variable.Variable.{Variable}
use Rattle.loop_bounds.specs.declared.variable.Variable.TheVariants as variables
use Rattle.z80_alu.specs.declared.regs.Regs.{Regs}
use Rattle.z80_decode.specs.declared.operands.Register8.TheVariants as registers
use Rattle.z80_draft.specs.Draft.{DraftView, draft_byte, draft_word}
use Rattle.z80_draft.specs.Registers.{IsRegs}
use Rattle.z80_draft.specs.declared.access.StackAccess.{StackAccess}
use Rattle.z80_moves.specs.declared.registers.ByteRegister.{ByteRegister}
use Rattle.z80_moves.specs.declared.registers.ByteRegister.TheVariants as bytes
use Rattle.z80_moves.specs.declared.registers.WordRegister.{WordRegister}
use Rattle.z80_moves.specs.declared.registers.WordRegister.TheVariants as words
use Rattle.abs_state.specs.Cell.{HoldsCells}
use Rattle.abs_state.specs.CutLaws.{byte_lies}
use Rattle.abs_state.specs.Fact.{HoldsFact}
use Rattle.abs_state.specs.Holds.{Holds, HoldsMode}
use Rattle.abs_state.specs.Variables.{value_in}
use Rattle.abs_state.specs.declared.fact.FlagFact.{FlagFact}
use Rattle.abs_state.specs.declared.fact.FlagFact.TheVariants.{Zero, Compared}
use Rattle.abs_state.specs.declared.mode.Mode.{Mode}
use Rattle.abs_state.specs.declared.mode.Mode.TheVariants.{Unset, Set, Nmi}
use Rattle.abs_state.specs.declared.state.AbsState.{AbsState}
use Rattle.abs_draft.specs.Ground.{GroundView}
use Rattle.abs_draft.specs.AbsDraft.{known_byte, known_pair, byte_change, word_change, known_parts_of}
use Rattle.abs_draft.specs.declared.draft.AbsDraft.{AbsDraft}
use Rattle.abs_laws.specs.Fits.{Fits, FollowsChange, IsThere, seen_by_draft}

-- ---- as a state that holds

no_cells : (armed : ℕ) → HoldsCells armed [] []
no_cells zero = tt
no_cells (suc n) = tt

quiet : (mode : Mode) → HoldsMode mode false false false
quiet Unset = record { no_enable = refl; no_line = refl; no_latch = refl }
quiet Set = record { no_enable = refl; no_line = refl; no_latch = refl }
quiet Nmi = tt

-- without cells and latches, the known state holds of the draft's registers and the stack
pub held : {g : GroundView} {start : AbsState} {k : AbsDraft} {entry : Entry} {before : Valuation} {d : DraftView} {stack : List ℕ} → Fits g start k entry before d stack → Holds k.state [] entry (seen_by_draft d stack)
held {k = k} f = record { mode = quiet k.state.mode; cells_hold = no_cells k.state.armed; pairs = f.pairs; flag = f.flag; shape = f.shape }

-- ---- numbers in range

pub high_small : (n : ℕ) → n < 65536 → n / 256 < 256
high_small n h = omega arith

pub low_small : (n : ℕ) → n % 256 < 256
low_small n = omega arith

module _ (g : GroundView) (start : AbsState) (k : AbsDraft) (entry : Entry) (before : Valuation) (d : DraftView) (stack : List ℕ) (f : Fits g start k entry before d stack) where
  pub byte_small : (r : ByteRegister) → draft_byte r d < 256
  byte_small bytes.A = f.regs.main.a
  byte_small bytes.F = f.regs.main.f
  byte_small bytes.B = f.regs.main.b
  byte_small bytes.C = f.regs.main.c
  byte_small bytes.D = f.regs.main.d
  byte_small bytes.E = f.regs.main.e
  byte_small bytes.H = f.regs.main.h
  byte_small bytes.L = f.regs.main.l
  byte_small bytes.I = f.regs.i
  byte_small bytes.Operand = f.operand_byte

  pub word_small : (w : WordRegister) → draft_word w d < 65536
  word_small words.Af = let p = f.regs.main.a in let q = f.regs.main.f in omega arith
  word_small words.Bc = let p = f.regs.main.b in let q = f.regs.main.c in omega arith
  word_small words.De = let p = f.regs.main.d in let q = f.regs.main.e in omega arith
  word_small words.Hl = let p = f.regs.main.h in let q = f.regs.main.l in omega arith
  word_small words.Ix = f.regs.ix
  word_small words.Iy = f.regs.iy
  word_small words.Sp = f.regs.sp
  word_small words.Pc = f.regs.pc
  word_small words.Pointer = f.pointer_word

  -- ---- ranges

  pub byte_within : (r : ByteRegister) → Within (known_byte r k) (draft_byte r d)
  byte_within bytes.A = byte_lies k.state [] entry (seen_by_draft d stack) f.regs (held f) registers.A
  byte_within bytes.F = let low = f.regs.main.f in let p = f.pairs.af.low in omega arith
  byte_within bytes.B = byte_lies k.state [] entry (seen_by_draft d stack) f.regs (held f) registers.B
  byte_within bytes.C = byte_lies k.state [] entry (seen_by_draft d stack) f.regs (held f) registers.C
  byte_within bytes.D = byte_lies k.state [] entry (seen_by_draft d stack) f.regs (held f) registers.D
  byte_within bytes.E = byte_lies k.state [] entry (seen_by_draft d stack) f.regs (held f) registers.E
  byte_within bytes.H = byte_lies k.state [] entry (seen_by_draft d stack) f.regs (held f) registers.H
  byte_within bytes.L = byte_lies k.state [] entry (seen_by_draft d stack) f.regs (held f) registers.L
  byte_within bytes.I = let small = f.regs.i in omega arith
  byte_within bytes.Operand = f.operand

  pub pair_holds : (w : WordRegister) → HoldsPair (known_pair w k) entry (draft_word w d)
  pair_holds words.Af = f.pairs.af
  pair_holds words.Bc = f.pairs.bc
  pair_holds words.De = f.pairs.de
  pair_holds words.Hl = f.pairs.hl
  pair_holds words.Ix = f.pairs.ix
  pair_holds words.Iy = f.pairs.iy
  pair_holds words.Sp = let small = f.regs.sp in record { word = omega arith; high = omega arith; low = omega arith; origin = tt }
  pair_holds words.Pc = written_word_holds k.pc entry d.regs.pc f.pc
  pair_holds words.Pointer = written_word_holds k.pointer entry d.pointer f.pointer

  -- ---- changes

  pub byte_follows : (r : ByteRegister) → FollowsChange (byte_change r k.effect) before (draft_byte r d)
  byte_follows bytes.A = f.follows variables.A tt
  byte_follows bytes.F = refl
  byte_follows bytes.B = f.follows variables.B tt
  byte_follows bytes.C = f.follows variables.C tt
  byte_follows bytes.D = f.follows variables.D tt
  byte_follows bytes.E = f.follows variables.E tt
  byte_follows bytes.H = f.follows variables.H tt
  byte_follows bytes.L = f.follows variables.L tt
  byte_follows bytes.I = refl
  byte_follows bytes.Operand = refl

  pub word_follows : (w : WordRegister) → FollowsChange (word_change w k.effect) before (draft_word w d)
  word_follows words.Af = refl
  word_follows words.Bc = f.follows variables.Bc tt
  word_follows words.De = f.follows variables.De tt
  word_follows words.Hl = f.follows variables.Hl tt
  word_follows words.Ix = f.follows variables.Ix tt
  word_follows words.Iy = f.follows variables.Iy tt
  word_follows words.Sp = refl
  word_follows words.Pc = refl
  word_follows words.Pointer = refl

-- a word and its bytes are what three changes make of the variables before
pub record PartsFollow (word high low : Change) (before : Valuation) (n : ℕ) : Type 0 where
  pub of_word : FollowsChange word before n
  pub of_high : FollowsChange high before (n / 256)
  pub of_low : FollowsChange low before (n % 256)

high_again : (x y : ℕ) → y < 256 → (x * 256 + y) / 256 ≡ x
high_again x y h = omega arith

low_again : (x y : ℕ) → y < 256 → (x * 256 + y) % 256 ≡ y
low_again x y h = omega arith

of_bytes : (word high low : Change) (before : Valuation) (x y : ℕ) → y < 256 → FollowsChange word before (x * 256 + y) → FollowsChange high before x → FollowsChange low before y → PartsFollow word high low before (x * 256 + y)
of_bytes word high low before x y small w h l = record {
  of_word = w;
  of_high = subst (λ (n : ℕ). FollowsChange high before n) (sym (high_again x y small)) h;
  of_low = subst (λ (n : ℕ). FollowsChange low before n) (sym (low_again x y small)) l;
}

module _ (g : GroundView) (start : AbsState) (k : AbsDraft) (entry : Entry) (before : Valuation) (d : DraftView) (stack : List ℕ) (f : Fits g start k entry before d stack) where
  pub parts_follow : (w : WordRegister) → PartsFollow (known_parts_of w k.effect).word (known_parts_of w k.effect).high (known_parts_of w k.effect).low before (draft_word w d)
  parts_follow words.Af = of_bytes _ _ _ before d.regs.main.a d.regs.main.f f.regs.main.f refl (f.follows variables.A tt) refl
  parts_follow words.Bc = of_bytes _ _ _ before d.regs.main.b d.regs.main.c f.regs.main.c (f.follows variables.Bc tt) (f.follows variables.B tt) (f.follows variables.C tt)
  parts_follow words.De = of_bytes _ _ _ before d.regs.main.d d.regs.main.e f.regs.main.e (f.follows variables.De tt) (f.follows variables.D tt) (f.follows variables.E tt)
  parts_follow words.Hl = of_bytes _ _ _ before d.regs.main.h d.regs.main.l f.regs.main.l (f.follows variables.Hl tt) (f.follows variables.H tt) (f.follows variables.L tt)
  parts_follow words.Ix = record { of_word = f.follows variables.Ix tt; of_high = refl; of_low = refl }
  parts_follow words.Iy = record { of_word = f.follows variables.Iy tt; of_high = refl; of_low = refl }
  parts_follow words.Sp = record { of_word = refl; of_high = refl; of_low = refl }
  parts_follow words.Pc = record { of_word = refl; of_high = refl; of_low = refl }
  parts_follow words.Pointer = record { of_word = refl; of_high = refl; of_low = refl }

-- ---- flag facts

-- a fact depends only on the main set
pub same_fact : (fact : Option FlagFact) (regs new : Regs) → new.main ≡ regs.main → HoldsFact fact regs → HoldsFact fact new
same_fact None regs new e h = tt
same_fact (Some (Compared byte)) regs new e h = rw e h
same_fact (Some (Zero registers.A)) regs new e h = rw e h
same_fact (Some (Zero registers.B)) regs new e h = rw e h
same_fact (Some (Zero registers.C)) regs new e h = rw e h
same_fact (Some (Zero registers.D)) regs new e h = rw e h
same_fact (Some (Zero registers.E)) regs new e h = rw e h
same_fact (Some (Zero registers.H)) regs new e h = rw e h
same_fact (Some (Zero registers.L)) regs new e h = rw e h

-- ---- other registers, and another state

-- registers, state and effect change, and the program counter stays
pub record IsChange (k : AbsDraft) (entry : Entry) (before : Valuation) (d : DraftView) (stack : List ℕ) (s : AbsState) (effect : Effect) (new : Regs) : Type 0 where
  pub in_range : IsRegs new
  pub pc : new.pc ≡ d.regs.pc
  pub holds : Holds s [] entry (record (seen_by_draft d stack) { regs = new })
  pub mode : s.mode ≡ k.state.mode
  pub armed : s.armed ≡ k.state.armed
  pub follows : (v : Variable) → IsThere (length stack) v → FollowsChange (change_of effect v) before (value_in (record (seen_by_draft d stack) { regs = new }) v)

pub changed_so : {g : GroundView} {start : AbsState} {k : AbsDraft} {entry : Entry} {before : Valuation} {d : DraftView} {stack : List ℕ} {s : AbsState} {effect : Effect} {new : Regs}
    → Fits g start k entry before d stack → IsChange k entry before d stack s effect new → Fits g start (record k { state = s; effect = effect }) entry before (record d { regs = new }) stack
changed_so {k = k} f c = record {
  regs = c.in_range;
  operand_byte = f.operand_byte;
  pointer_word = f.pointer_word;
  pairs = c.holds.pairs;
  flag = c.holds.flag;
  shape = c.holds.shape;
  operand = f.operand;
  pointer = f.pointer;
  pc = subst (λ (n : ℕ). Within k.pc n) (sym c.pc) f.pc;
  follows = c.follows;
  writes = f.writes;
  mode = c.mode ∙ f.mode;
  armed = c.armed ∙ f.armed;
  readable = f.readable;
}

-- nothing is known of the rest of a draft
pub rest_changed : {g : GroundView} {start : AbsState} {k : AbsDraft} {entry : Entry} {before : Valuation} {d : DraftView} {stack : List ℕ} → Fits g start k entry before d stack
    → (has_read taken halts : Bool) (accesses : List StackAccess) → Fits g start k entry before (record d { has_read = has_read; stack = accesses; taken = taken; halts = halts }) stack
rest_changed f has_read taken halts accesses = record {
  regs = f.regs;
  operand_byte = f.operand_byte;
  pointer_word = f.pointer_word;
  pairs = f.pairs;
  flag = f.flag;
  shape = f.shape;
  operand = f.operand;
  pointer = f.pointer;
  pc = f.pc;
  follows = f.follows;
  writes = f.writes;
  mode = f.mode;
  armed = f.armed;
  readable = f.readable;
}
