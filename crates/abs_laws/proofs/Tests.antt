-- What a test leaves is true for its actual outcome.
use Rattle.std.proofs.Common.{◌≡◌, ◌-◌, ℕ, Bool, true, false, not, eqb, refl, sym, ap, List, [], Option, Some, None, IsSomeAnd, IfSome, rules, cond}
use Rattle.std.specs.Prelude.{option_map, ◌&&◌}
use Rattle.intervals.specs.Domain.{Entry}
use Rattle.intervals.specs.Range.{single}
use Rattle.intervals.specs.declared.pair.Pair.{Pair}
use Rattle.intervals.specs.declared.reg_pair.RegPair.{RegPair}
use Rattle.intervals.specs.declared.reg_pair.RegPair.TheVariants.{Af, Bc, De, Hl}
use Rattle.loop_bounds.specs.Effect.{Valuation}
use Rattle.z80_decode.specs.declared.kinds.Condition.{Condition}
use Rattle.z80_decode.specs.declared.kinds.Condition.TheVariants as conditions
use Rattle.z80_decode.specs.declared.operands.Register8.{Register8}
use Rattle.z80_decode.specs.declared.operands.Register8.TheVariants as registers
use Rattle.z80_draft.specs.Draft.{DraftView, draft_word, test_holds}
use Rattle.z80_moves.specs.declared.moves.Test.{Test}
use Rattle.z80_moves.specs.declared.moves.Test.TheVariants as tests
use Rattle.z80_moves.specs.declared.registers.WordRegister.TheVariants as words
use Rattle.abs_state.specs.CutLaws.{byte_known, word_known, condition_known}
use Rattle.abs_state.specs.Holds.{Holds}
use Rattle.abs_state.specs.Restricting.{Cut, to_range, to_all_but, with_cut_pair, cut_byte, byte_is, word_is, a_is_below, zero_is, carry_is, condition_is}
use Rattle.abs_state.specs.declared.fact.FlagFact.{FlagFact}
use Rattle.abs_state.specs.declared.fact.FlagFact.TheVariants.{Zero, Compared}
use Rattle.abs_state.specs.declared.state.AbsState.{AbsState}
use Rattle.abs_draft.specs.Ground.{GroundView}
use Rattle.abs_draft.specs.Outcomes.{state_tested, tested}
use Rattle.abs_draft.specs.declared.draft.AbsDraft.{AbsDraft}
use Rattle.abs_laws.specs.Fits.{Fits, seen_by_draft}
use Rattle.abs_laws.specs.Lists.{KeepsEffectAndShape}
use Rattle.abs_laws.proofs.Parts.{changed_so, held, rest_changed}

-- ---- a cut keeps the mode, the armed cells and the shape

abbrev Keeps : AbsState → Option AbsState → Type 0
Keeps s o = IfSome o (λ t. (t.mode ≡ s.mode) × (t.armed ≡ s.armed) × (t.shape ≡ s.shape))

pair_keeps : (r : RegPair) (cut : Option Pair) (s : AbsState) → Keeps s (with_cut_pair r cut s)
pair_keeps r None s = tt
pair_keeps r (Some p) s = (refl, refl, refl)

byte_keeps : (r : Register8) (cut : Cut) (s : AbsState) → Keeps s (cut_byte r cut s)
byte_keeps registers.A cut s = pair_keeps Af _ s
byte_keeps registers.B cut s = pair_keeps Bc _ s
byte_keeps registers.C cut s = pair_keeps Bc _ s
byte_keeps registers.D cut s = pair_keeps De _ s
byte_keeps registers.E cut s = pair_keeps De _ s
byte_keeps registers.H cut s = pair_keeps Hl _ s
byte_keeps registers.L cut s = pair_keeps Hl _ s

byte_is_keeps : (is : Bool) (r : Register8) (n : ℕ) (s : AbsState) → Keeps s (byte_is is r n s)
byte_is_keeps true r n s = byte_keeps r (to_range (single n)) s
byte_is_keeps false r n s = byte_keeps r (to_all_but n) s

word_is_keeps : (is : Bool) (r : RegPair) (n : ℕ) (s : AbsState) → Keeps s (word_is is r n s)
word_is_keeps true r n s = pair_keeps r _ s
word_is_keeps false r n s = pair_keeps r _ s

none_or : (b : Bool) (o : Option AbsState) (s : AbsState) → Keeps s o → Keeps s (cond b None o)
none_or true o s h = tt
none_or false o s h = h

below_keeps : (is : Bool) (n : ℕ) (s : AbsState) → Keeps s (a_is_below is n s)
below_keeps true n s = none_or (eqb n 0) _ s (byte_keeps registers.A (to_range (record { low = 0; high = n - 1 })) s)
below_keeps false n s = byte_keeps registers.A (to_range (record { low = n; high = 255 })) s

zero_keeps : (is : Bool) (fact : Option FlagFact) (s : AbsState) → Keeps s (zero_is is fact s)
zero_keeps is None s = (refl, refl, refl)
zero_keeps is (Some (Zero r)) s = byte_is_keeps is r 0 s
zero_keeps is (Some (Compared n)) s = byte_is_keeps is registers.A n s

carry_keeps : (is : Bool) (fact : Option FlagFact) (s : AbsState) → Keeps s (carry_is is fact s)
carry_keeps is None s = (refl, refl, refl)
carry_keeps is (Some (Zero r)) s = (refl, refl, refl)
carry_keeps is (Some (Compared n)) s = below_keeps is n s

condition_keeps : (met : Bool) (cc : Condition) (s : AbsState) → Keeps s (condition_is met cc s)
condition_keeps met conditions.Zero s = zero_keeps met s.flag s
condition_keeps met conditions.NotZero s = zero_keeps (not met) s.flag s
condition_keeps met conditions.Carry s = carry_keeps met s.flag s
condition_keeps met conditions.NotCarry s = carry_keeps (not met) s.flag s
condition_keeps met conditions.ParityOdd s = (refl, refl, refl)
condition_keeps met conditions.ParityEven s = (refl, refl, refl)
condition_keeps met conditions.Plus s = (refl, refl, refl)
condition_keeps met conditions.Minus s = (refl, refl, refl)

test_keeps : (test : Test) (is : Bool) (s : AbsState) → Keeps s (state_tested test is s)
test_keeps (tests.Flag cc) is s = condition_keeps is cc s
test_keeps tests.BNotZero is s = byte_is_keeps (not is) registers.B 0 s
test_keeps tests.BcNotZero is s = word_is_keeps (not is) Bc 0 s
test_keeps tests.SearchGoesOn true s = word_is_keeps false Bc 0 s
test_keeps tests.SearchGoesOn false s = (refl, refl, refl)

-- ---- what a test says about the state

turned : (t b : Bool) → not t ≡ b → not b ≡ t
turned true b e = ap not (sym e)
turned false b e = ap not (sym e)

not_zero : (t b : Bool) → (not t && b) ≡ true → false ≡ t
not_zero false b e = refl
not_zero true b e = absurd (search rules)

abbrev HoldsIn : Entry → DraftView → List ℕ → Option AbsState → Type 0
HoldsIn entry d stack o = IsSomeAnd o (λ t. Holds t [] entry (seen_by_draft d stack))

test_told : (g : GroundView) (start : AbsState) (k : AbsDraft) (entry : Entry) (before : Valuation) (d : DraftView) (stack : List ℕ) (test : Test) (is : Bool) → test_holds test d ≡ is → Fits g start k entry before d stack
    → HoldsIn entry d stack (state_tested test is k.state)
test_told g start k entry before d stack (tests.Flag cc) is e f = condition_known k.state [] entry (seen_by_draft d stack) f.regs (held f) is cc (sym e)
test_told g start k entry before d stack tests.BNotZero is e f = byte_known k.state [] entry (seen_by_draft d stack) f.regs (held f) (not is) registers.B 0 (turned (eqb d.regs.main.b 0) is e)
test_told g start k entry before d stack tests.BcNotZero is e f = word_known k.state [] entry (seen_by_draft d stack) (held f) (not is) Bc 0 (turned (eqb (draft_word words.Bc d) 0) is e)
test_told g start k entry before d stack tests.SearchGoesOn true e f = word_known k.state [] entry (seen_by_draft d stack) (held f) false Bc 0 (not_zero (eqb (draft_word words.Bc d) 0) _ e)
test_told g start k entry before d stack tests.SearchGoesOn false e f = held f

state_fits : {g : GroundView} {start : AbsState} {k : AbsDraft} {entry : Entry} {before : Valuation} {d : DraftView} {stack : List ℕ} (t : AbsState) → Holds t [] entry (seen_by_draft d stack) → t.mode ≡ k.state.mode → t.armed ≡ k.state.armed
    → Fits g start k entry before d stack → Fits g start (record k { state = t }) entry before d stack
state_fits t h mode armed f = changed_so f (record { in_range = f.regs; pc = refl; holds = h; mode = mode; armed = armed; follows = f.follows })

known_fits : (g : GroundView) (start : AbsState) (k : AbsDraft) (entry : Entry) (before : Valuation) (d : DraftView) (stack : List ℕ) (o : Option AbsState) → HoldsIn entry d stack o → Keeps k.state o → Fits g start k entry before d stack
    → IsSomeAnd (option_map (λ s. let n : AbsDraft = record k { state = s } in n) o) (λ n. Fits g start n entry before d stack)
known_fits g start k entry before d stack None h kept f = h
known_fits g start k entry before d stack (Some t) h kept f = state_fits t h kept.0 kept.1 f

pub test_fits : (g : GroundView) (start : AbsState) (test : Test) (is : Bool) (k : AbsDraft) (entry : Entry) (before : Valuation) (d : DraftView) (stack : List ℕ) → test_holds test d ≡ is → Fits g start k entry before d stack
    → IsSomeAnd (tested test is k) (λ n. Fits g start n entry before d stack)
test_fits g start test is k entry before d stack e f = known_fits g start k entry before d stack (state_tested test is k.state) (test_told g start k entry before d stack test is e f) (test_keeps test is k.state) f

-- the draft itself has the outcome of the test
pub taken_fits : (g : GroundView) (start : AbsState) (k : AbsDraft) (entry : Entry) (before : Valuation) (d : DraftView) (stack : List ℕ) (taken : Bool) → Fits g start k entry before d stack → Fits g start k entry before (record d { taken = taken }) stack
taken_fits g start k entry before d stack taken f = rest_changed f d.has_read taken d.halts d.stack

pub each_some : {X : Type 0} (o : Option X) (P Q : X → Type 0) → ((x : X) → P x → Q x) → IsSomeAnd o P → IsSomeAnd o Q
each_some None P Q h k = k
each_some (Some x) P Q h k = h x k

pub test_fits_taken : (g : GroundView) (start : AbsState) (test : Test) (is taken : Bool) (k : AbsDraft) (entry : Entry) (before : Valuation) (d : DraftView) (stack : List ℕ) → test_holds test d ≡ is → Fits g start k entry before d stack
    → IsSomeAnd (tested test is k) (λ n. Fits g start n entry before (record d { taken = taken }) stack)
test_fits_taken g start test is taken k entry before d stack e f =
    each_some (tested test is k) (λ n. Fits g start n entry before d stack) (λ n. Fits g start n entry before (record d { taken = taken }) stack) (λ n h. taken_fits g start n entry before d stack taken h)
    (test_fits g start test is k entry before d stack e f)

-- a test changes neither the effect nor the shape
tells_the_same : (k : AbsDraft) (o : Option AbsState) → Keeps k.state o → IfSome (option_map (λ s. let n : AbsDraft = record k { state = s } in n) o) (KeepsEffectAndShape k)
tells_the_same k None h = tt
tells_the_same k (Some t) h = (refl, h.2)

pub test_tells_the_same : (test : Test) (is : Bool) (k : AbsDraft) → IfSome (tested test is k) (KeepsEffectAndShape k)
test_tells_the_same test is k = tells_the_same k (state_tested test is k.state) (test_keeps test is k.state)

pub both_some : {X : Type 0} (o : Option X) (P Q : X → Type 0) → IsSomeAnd o P → IfSome o Q → IsSomeAnd o (λ x. P x × Q x)
both_some None P Q h k = h
both_some (Some x) P Q h k = (h, k)
