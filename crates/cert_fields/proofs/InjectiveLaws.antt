-- No two values in form have the same text.
use Rattle.cert_fields.proofs.LinearInjectiveLaws.{linear_text_injective, dash_is_no_linear}
use Rattle.std.proofs.Common.{◌≡◌, ◌==◌, ◌<◌, ◌^◌, ℕ, true, List, [], ◌∷◌, ◌++◌, length, get_or, codes, Option, Some, None, refl, sym, ap, subst, ◌∙◌, inl, inr, arith, length-append}
use Rattle.std.proofs.lemmas.Bool.{and_parts, cases_Bool, eqb-true}
use Rattle.std.proofs.lemmas.List.{append-nil}
use Rattle.std.specs.List.{position_or_len}
use Rattle.abs_state.specs.declared.fact.FlagFact.{FlagFact}
use Rattle.abs_state.specs.declared.fact.FlagFact.TheVariants.{Zero, Compared}
use Rattle.abs_state.specs.declared.mode.Mode.{Mode}
use Rattle.abs_state.specs.declared.mode.Mode.TheVariants.{Unset, Set, Nmi}
use Rattle.intervals.specs.Range.{RangeView}
use Rattle.intervals.specs.RegPair.{name_of}
use Rattle.intervals.specs.declared.pair.Pair.{Pair}
use Rattle.intervals.specs.declared.reg_pair.RegPair.{RegPair}
use Rattle.intervals.specs.declared.reg_pair.RegPair.TheVariants.{Af, Bc, De, Hl, Ix, Iy, AlternateAf, AlternateBc, AlternateDe, AlternateHl}
use Rattle.loop_bounds.specs.Linear.{LinearView}
use Rattle.stack_shape.specs.declared.slot.Slot.{Slot}
use Rattle.z80_decode.specs.declared.operands.Register8.{Register8}
use Rattle.z80_decode.specs.declared.operands.Register8.TheVariants.{A, B, C, D, E, H, L}
use Rattle.cert_fields.specs.Facts.{AreFacts, facts_text}
use Rattle.cert_fields.specs.Flag.{flag_text}
use Rattle.cert_fields.specs.Linear.{IsSum, linear_text}
use Rattle.cert_fields.specs.Names.{register_letter, mode_letter}
use Rattle.cert_fields.specs.Pair.{IsPair, is_all, is_full, ranges_text, known_text, origin_text, pair_text}
use Rattle.cert_fields.specs.Shape.{IsShape, shape_text}
use Rattle.cert_fields.proofs.ConstantLemmas.{cons_head, cons_tail}
use Rattle.cert_fields.proofs.CutLemmas.{Lacks, lacks_none, same_front, same_behind}
use Rattle.cert_fields.proofs.FactsLemmas.{linear_lacks}
use Rattle.cert_fields.proofs.HexLemmas.{hex2_injective}
use Rattle.cert_fields.proofs.NameLemmas.{code}
use Rattle.cert_fields.proofs.PairLemmas.{known_star, known_ranges, known_lacks_at, ranges_length, same_word, same_high, same_low}
use Rattle.cert_fields.proofs.PartsLemmas.{list_injective}
use Rattle.cert_fields.proofs.ShapeLemmas.{slot_text, slot_lacks}

abbrev registers : List Register8
registers = A ∷ B ∷ C ∷ D ∷ E ∷ H ∷ L ∷ []

abbrev register_named : List ℕ → Register8
register_named name = get_or registers (position_or_len (λ r. code (register_letter r) == code name) registers) A

register_again : (r : Register8) → register_named (register_letter r) ≡ r
register_again A = refl
register_again B = refl
register_again C = refl
register_again D = refl
register_again E = refl
register_again H = refl
register_again L = refl

pub register_letter_injective : (r s : Register8) → register_letter r ≡ register_letter s → r ≡ s
register_letter_injective r s e = sym (register_again r) ∙ ap register_named e ∙ register_again s

abbrev modes : List Mode
modes = Unset ∷ Set ∷ Nmi ∷ []

abbrev mode_named : List ℕ → Mode
mode_named name = get_or modes (position_or_len (λ m. code (mode_letter m) == code name) modes) Unset

mode_again : (m : Mode) → mode_named (mode_letter m) ≡ m
mode_again Unset = refl
mode_again Set = refl
mode_again Nmi = refl

pub mode_letter_injective : (m n : Mode) → mode_letter m ≡ mode_letter n → m ≡ n
mode_letter_injective m n e = sym (mode_again m) ∙ ap mode_named e ∙ mode_again n

abbrev reg_pairs : List RegPair
reg_pairs = Af ∷ Bc ∷ De ∷ Hl ∷ Ix ∷ Iy ∷ AlternateAf ∷ AlternateBc ∷ AlternateDe ∷ AlternateHl ∷ []

abbrev reg_pair_named : List ℕ → RegPair
reg_pair_named name = get_or reg_pairs (position_or_len (λ r. code (name_of r) == code name) reg_pairs) Af

reg_pair_again : (r : RegPair) → reg_pair_named (name_of r) ≡ r
reg_pair_again Af = refl
reg_pair_again Bc = refl
reg_pair_again De = refl
reg_pair_again Hl = refl
reg_pair_again Ix = refl
reg_pair_again Iy = refl
reg_pair_again AlternateAf = refl
reg_pair_again AlternateBc = refl
reg_pair_again AlternateDe = refl
reg_pair_again AlternateHl = refl

reg_pair_injective : (r s : RegPair) → name_of r ≡ name_of s → r ≡ s
reg_pair_injective r s e = sym (reg_pair_again r) ∙ ap reg_pair_named e ∙ reg_pair_again s

-- flag facts: the first byte determines the kind
pub flag_text_injective : (f g : Option FlagFact) → flag_text f ≡ flag_text g → f ≡ g
flag_text_injective None None e = refl
flag_text_injective None (Some (Zero r)) e = absurd (omega (arith, cons_head _ _ _ _ e))
flag_text_injective None (Some (Compared b)) e = absurd (omega (arith, cons_head _ _ _ _ e))
flag_text_injective (Some (Zero r)) None e = absurd (omega (arith, cons_head _ _ _ _ e))
flag_text_injective (Some (Zero r)) (Some (Zero s)) e = ap (λ x. Some (Zero x)) (register_letter_injective r s (cons_tail _ _ _ _ e))
flag_text_injective (Some (Zero r)) (Some (Compared b)) e = absurd (omega (arith, cons_head _ _ _ _ e))
flag_text_injective (Some (Compared a)) None e = absurd (omega (arith, cons_head _ _ _ _ e))
flag_text_injective (Some (Compared a)) (Some (Zero r)) e = absurd (omega (arith, cons_head _ _ _ _ e))
flag_text_injective (Some (Compared a)) (Some (Compared b)) e = ap (λ x. Some (Compared x)) (hex2_injective a b (cons_tail _ _ _ _ e))

-- pairs
same_interval : (greatest : ℕ) (r s : RangeView) → is_all greatest r ≡ true → is_all greatest s ≡ true → r ≡ s
same_interval greatest r s full also =
    let (low, high) = and_parts _ _ full in
    let (too, both) = and_parts _ _ also in
    ap (λ x. let i : RangeView = record { low = x; high = r.high } in i) (eqb-true _ _ low ∙ sym (eqb-true _ _ too))
    ∙ ap (λ x. let i : RangeView = record { low = s.low; high = x } in i) (eqb-true _ _ high ∙ sym (eqb-true _ _ both))

same_ranges : (p q : Pair) → p.word ≡ q.word → p.high ≡ q.high → p.low ≡ q.low → p.origin ≡ q.origin → p ≡ q
same_ranges p q word high low origin =
    ap (λ x. let r : Pair = record { word = x; high = p.high; low = p.low; origin = p.origin } in r) word
    ∙ ap (λ x. let r : Pair = record { word = q.word; high = x; low = p.low; origin = p.origin } in r) high
    ∙ ap (λ x. let r : Pair = record { word = q.word; high = q.high; low = x; origin = p.origin } in r) low
    ∙ ap (λ x. let r : Pair = record { word = q.word; high = q.high; low = q.low; origin = x } in r) origin

star_is_no_range : (p : Pair) → codes "*" ≡ ranges_text p → ⊥
star_is_no_range p e = omega (arith, ap length e, ranges_length p)

both_full : (p q : Pair) → is_full p ≡ true → is_full q ≡ true → (p.word ≡ q.word) × (p.high ≡ q.high) × (p.low ≡ q.low)
both_full p q full also =
    let (first, low) = and_parts _ _ full in
    let (word, high) = and_parts _ _ first in
    let (second, too) = and_parts _ _ also in
    let (words, highs) = and_parts _ _ second in
    (same_interval 65535 p.word q.word word words, same_interval 255 p.high q.high high highs, same_interval 255 p.low q.low low too)

known_same : (p q : Pair) → known_text p ≡ known_text q → (p.word ≡ q.word) × (p.high ≡ q.high) × (p.low ≡ q.low)
known_same p q e = elim (cases_Bool (is_full p)) [
  | inl full ↦ elim (cases_Bool (is_full q)) [
    | inl also ↦ both_full p q full also
    | inr part ↦ absurd (star_is_no_range q (sym (known_star p full) ∙ e ∙ known_ranges q part))
  ]
  | inr some ↦ elim (cases_Bool (is_full q)) [
    | inl also ↦ absurd (star_is_no_range p (sym (known_star q also) ∙ sym e ∙ known_ranges p some))
    | inr part ↦
        let same : ranges_text p ≡ ranges_text q = sym (known_ranges p some) ∙ e ∙ known_ranges q part in
        (same_word p q same, same_high p q same, same_low p q same)
  ]
]

by_origin : (p q : Pair) (o u : Option RegPair) → known_text p ++ origin_text o ≡ known_text q ++ origin_text u → (known_text p ≡ known_text q) × (o ≡ u)
by_origin p q None None e = (sym (append-nil (known_text p)) ∙ e ∙ append-nil (known_text q), refl)
by_origin p q None (Some s) e = absurd (lacks_none 64 (known_text q) (name_of s) (subst (λ t. Lacks 64 t) (sym (append-nil (known_text p)) ∙ e) (known_lacks_at p)))
by_origin p q (Some r) None e = absurd (lacks_none 64 (known_text p) (name_of r) (subst (λ t. Lacks 64 t) (sym (append-nil (known_text q)) ∙ sym e) (known_lacks_at q)))
by_origin p q (Some r) (Some s) e = (
  same_front 64 (known_text p) (name_of r) (known_text q) (name_of s) (known_lacks_at p) (known_lacks_at q) e,
  ap (λ x. Some x) (reg_pair_injective r s (same_behind 64 (known_text p) (name_of r) (known_text q) (name_of s) (known_lacks_at p) (known_lacks_at q) e)),
)

pub pair_text_injective : (p q : Pair) → pair_text p ≡ pair_text q → p ≡ q
unfolding pair_text
pair_text_injective p q e =
    let (known, origin) = by_origin p q p.origin q.origin e in
    let (word, high, low) = known_same p q known in
    same_ranges p q word high low origin

-- facts and shapes
pub facts_text_injective : (slots : ℕ) → slots < 2 ^ 64 → (f g : List LinearView) → AreFacts slots f → AreFacts slots g → facts_text f ≡ facts_text g → f ≡ g
unfolding facts_text
facts_text_injective slots small f g form too e =
    list_injective linear_text (IsSum slots) (linear_lacks slots small) (dash_is_no_linear slots) (linear_text_injective slots small) f g form too e

pair_is_no_dash : (p : Pair) → pair_text p ≡ codes "-" → ⊥
unfolding pair_text
pair_is_no_dash p e = elim (cases_Bool (is_full p)) [
  | inl full ↦ absurd (omega (arith, cons_head 42 45 (origin_text p.origin) [] (ap (λ t. t ++ origin_text p.origin) (sym (known_star p full)) ∙ e)))
  | inr part ↦ absurd (omega (arith, ap length e, length-append (known_text p) (origin_text p.origin), ap length (known_ranges p part), ranges_length p))
]

pub shape_text_injective : (s t : List Slot) → IsShape s → IsShape t → shape_text s ≡ shape_text t → s ≡ t
unfolding shape_text
shape_text_injective s t form too e =
    list_injective slot_text (λ x. IsPair x.pair) slot_lacks (λ x good. pair_is_no_dash x.pair)
    (λ x y good also same. ap (λ p. let slot : Slot = record { pair = p } in slot) (pair_text_injective x.pair y.pair same)) s t form too e
