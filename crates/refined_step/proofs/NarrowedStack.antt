-- What narrowing keeps: mode, armed cells, how many slots there are, and that the last slot has one word.
use Rattle.std.proofs.Common.{◌≡◌, ◌≤◌, ◌<◌, ◌-◌, ◌∙◌, ℕ, Bool, true, false, cond, eqb, ltb, List, length, get_or, set, Option, Some, None, refl, sym, subst, arith}
use Rattle.std.specs.Prelude.{leb, max, min, IfSome, option_and_then, option_map}
use Rattle.std.proofs.Math.Nat.{le-max_left, min-le_left}
use Rattle.std.proofs.lemmas.Bool.{eq-eqb, eqb-true, leb-true, ltb-true}
use Rattle.std.proofs.lemmas.Grind.{get_or-set_at}
use Rattle.std.proofs.lemmas.List.{get_or-set_other, length-set}
use Rattle.intervals.specs.Logic.{is_single}
use Rattle.intervals.specs.Pair.{cut_if_some, high_bytes, low_bytes, normal_form, words_of}
use Rattle.intervals.specs.Range.{RangeView, between, intersection}
use Rattle.intervals.specs.declared.pair.Pair.{Pair}
use Rattle.intervals.specs.declared.reg_pair.RegPair.{RegPair}
use Rattle.intervals.specs.declared.reg_pair.RegPair.TheVariants.{Af, Bc, De, Hl, Ix, Iy}
use Rattle.loop_bounds.specs.declared.variable.Part.{Part}
use Rattle.loop_bounds.specs.declared.variable.Part.TheVariants.{Word, High, Low}
use Rattle.loop_bounds.specs.declared.variable.Variable.{Variable}
use Rattle.loop_bounds.specs.declared.variable.Variable.TheVariants as variables
use Rattle.stack_shape.specs.declared.slot.Slot.{Slot}
use Rattle.z80_decode.specs.declared.kinds.Condition.{Condition}
use Rattle.abs_state.specs.Restricting.{with_cut_pair}
use Rattle.abs_state.specs.Variables.{cut_part, cut_slot, cut_to, full_slot, with_slot}
use Rattle.abs_state.specs.declared.state.AbsState.{AbsState}
use Rattle.abs_draft.specs.AbsDraft.{last_slot}
use Rattle.flag_parts.proofs.KeptByCuts.{each_some, kept_by_cuts, on_some, through_some}
use Rattle.flag_parts.specs.Narrowing.{narrowed}
use Rattle.flag_letters.specs.declared.part.FlagPart.{FlagPart}

never : (P : Type 0) (b : Bool) → b ≡ true → b ≡ false → P
never P b e f = absurd (cc)

-- ---- a range of one value stays one

abbrev StaysSingle : RangeView → RangeView → Type 0
StaysSingle r w = is_single r ≡ true → is_single w ≡ true

between_single : (a : RangeView) (low high : ℕ) → a.low ≤ low → high ≤ a.high → IfSome (between low high) (StaysSingle a)
between_single a low high p q =
    let at : (t : Bool) → leb low high ≡ t → IfSome (cond t (Some (let r : RangeView = record { low = low; high = high } in r)) None) (StaysSingle a) =
    elim [
      | true ↦ λ e one.
          let le : low ≤ high = leb-true low high e in
          let same : a.low ≡ a.high = eqb-true _ _ one in
          eq-eqb low high (omega arith)
      | false ↦ λ e. tt
    ] in
    at (leb low high) refl

intersection_single : (a b : RangeView) → IfSome (intersection a b) (StaysSingle a)
intersection_single a b = between_single a (max a.low b.low) (min a.high b.high) (le-max_left a.low b.low) (min-le_left a.high b.high)

normal_single : (p : Pair) → IfSome (normal_form p) (λ q. StaysSingle p.word q.word)
normal_single p =
    on_some (intersection p.high (high_bytes p.word)) _ (λ q. StaysSingle p.word q.word) (λ high.
    on_some (cut_if_some p.low (low_bytes p.word)) _ (λ q. StaysSingle p.word q.word) (λ low.
    through_some (intersection p.word (words_of high low)) (StaysSingle p.word) _ (λ q. StaysSingle p.word q.word)
    (intersection_single p.word (words_of high low)) (λ word one. one)))

part_single : (part : Part) (to : RangeView) (p : Pair) → IfSome (cut_part part to p) (λ q. StaysSingle p.word q.word)
part_single Word to p =
    through_some (intersection p.word to) (StaysSingle p.word) _ (λ q. StaysSingle p.word q.word) (intersection_single p.word to)
    (λ word one. each_some (normal_form (record p { word = word })) (λ q. StaysSingle word q.word) (λ q. StaysSingle p.word q.word)
    (normal_single (record p { word = word })) (λ q stays first. stays (one first)))
part_single High to p = on_some (intersection p.high to) _ (λ q. StaysSingle p.word q.word) (λ high. normal_single (record p { high = high }))
part_single Low to p = on_some (intersection p.low to) _ (λ q. StaysSingle p.word q.word) (λ low. normal_single (record p { low = low }))

-- ---- states

pub record KeepsStack (s t : AbsState) : Type 0 where
  pub mode : t.mode ≡ s.mode
  pub armed : t.armed ≡ s.armed
  pub long : length t.shape ≡ length s.shape
  pub single : is_single (last_slot s.shape).pair.word ≡ true → is_single (last_slot t.shape).pair.word ≡ true

same : (s : AbsState) → KeepsStack s s
same s = record { mode = refl; armed = refl; long = refl; single = λ one. one }

along : (s t u : AbsState) → KeepsStack s t → KeepsStack t u → KeepsStack s u
along s t u p q = record { mode = q.mode ∙ p.mode; armed = q.armed ∙ p.armed; long = q.long ∙ p.long; single = λ one. q.single (p.single one) }

-- ---- cuts

pair_kept : (r : RegPair) (cut : Option Pair) (s : AbsState) → IfSome (with_cut_pair r cut s) (KeepsStack s)
pair_kept r None s = tt
pair_kept r (Some p) s = record { mode = refl; armed = refl; long = refl; single = λ one. one }

last_single : (slots : List Slot) (number : ℕ) (x : Slot) → number < length slots → StaysSingle (get_or slots number full_slot).pair.word x.pair.word → is_single (last_slot slots).pair.word ≡ true → is_single (last_slot (set slots number x)).pair.word ≡ true
last_single slots number x inside keep one =
    let place : ℕ = length slots - 1 in
    let at : (t : Bool) → eqb place number ≡ t → is_single (get_or (set slots number x) place full_slot).pair.word ≡ true =
    elim [
      | true ↦ λ e.
          let here : place ≡ number = eqb-true _ _ e in
          subst (λ (y : Slot). is_single y.pair.word ≡ true) (sym (get_or-set_at slots number place x full_slot here inside))
          (keep (subst (λ (k : ℕ). is_single (get_or slots k full_slot).pair.word ≡ true) here one))
      | false ↦ λ e.
          subst (λ (y : Slot). is_single y.pair.word ≡ true) (sym (get_or-set_other slots number place x full_slot (λ here. never _ (eqb place number) (eq-eqb place number here) e))) one
    ] in
    subst (λ (n : ℕ). is_single (get_or (set slots number x) (n - 1) full_slot).pair.word ≡ true) (sym (length-set slots number x)) (at (eqb place number) refl)

replaced : (s : AbsState) (number : ℕ) (cut : Option Pair) → number < length s.shape → IfSome cut (λ q. StaysSingle (get_or s.shape number full_slot).pair.word q.word) → IfSome (option_map (with_slot number s) cut) (KeepsStack s)
replaced s number None inside h = tt
replaced s number (Some q) inside h =
    let x : Slot = record { pair = q } in
    record { mode = refl; armed = refl; long = length-set s.shape number x; single = last_single s.shape number x inside h }

slot_kept : (s : AbsState) (number : ℕ) (part : Part) (to : RangeView) → IfSome (cut_slot number part to s) (KeepsStack s)
slot_kept s number part to =
    let cut : Option Pair = cut_part part to (get_or s.shape number full_slot).pair in
    let at : (t : Bool) → ltb number (length s.shape) ≡ t → IfSome (cond t (option_map (with_slot number s) cut) (Some s)) (KeepsStack s) =
    elim [
      | true ↦ λ e. replaced s number cut (ltb-true _ _ e) (part_single part to (get_or s.shape number full_slot).pair)
      | false ↦ λ e. same s
    ] in
    at (ltb number (length s.shape)) refl

pub cut_kept : (s : AbsState) (v : Variable) (to : RangeView) → IfSome (cut_to s v to) (KeepsStack s)
cut_kept s variables.A to = pair_kept Af _ s
cut_kept s variables.B to = pair_kept Bc _ s
cut_kept s variables.C to = pair_kept Bc _ s
cut_kept s variables.D to = pair_kept De _ s
cut_kept s variables.E to = pair_kept De _ s
cut_kept s variables.H to = pair_kept Hl _ s
cut_kept s variables.L to = pair_kept Hl _ s
cut_kept s variables.Bc to = pair_kept Bc _ s
cut_kept s variables.De to = pair_kept De _ s
cut_kept s variables.Hl to = pair_kept Hl _ s
cut_kept s variables.Ix to = pair_kept Ix _ s
cut_kept s variables.Iy to = pair_kept Iy _ s
cut_kept s (variables.Slot number part) to = slot_kept s number part to

pub cut_some : (o : Option RangeView) (s : AbsState) (v : Variable) → IfSome (option_and_then (cut_to s v) o) (KeepsStack s)
cut_some o s v = on_some o (cut_to s v) (KeepsStack s) (λ left. cut_kept s v left)

pub narrowed_kept : (condition : Condition) (parts : List FlagPart) (s : AbsState) → IfSome (narrowed condition parts s) (KeepsStack s)
narrowed_kept condition parts s = kept_by_cuts KeepsStack same along cut_kept condition parts s
