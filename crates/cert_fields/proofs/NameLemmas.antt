-- No two variables have the same name.
use Rattle.std.proofs.Common.{◌≡◌, ◌≢◌, ◌<◌, ◌^◌, ◌==◌, ◌+◌, ◌*◌, ◌⊎◌, ℕ, List, [], ◌∷◌, ◌++◌, get_or, refl, sym, ap, subst, ◌∙◌, inl, inr, arith}
use Rattle.std.proofs.lemmas.Fmt.{decimal_injective}
use Rattle.std.proofs.lemmas.List.{append-nil}
use Rattle.std.specs.Fmt.{decimal}
use Rattle.std.specs.Prelude.{Option, Some, None, MatchOption}
use Rattle.std.specs.List.{position_or_len}
use Rattle.texts.specs.Numbers.{Reads}
use Rattle.loop_bounds.specs.declared.variable.Part.{Part}
use Rattle.loop_bounds.specs.declared.variable.Part.TheVariants as parts
use Rattle.loop_bounds.specs.declared.variable.Variable.{Variable}
use Rattle.loop_bounds.specs.declared.variable.Variable.TheVariants.{A, B, C, D, E, H, L, Bc, De, Hl, Ix, Iy, Slot}
use Rattle.cert_fields.specs.Linear.{IsBelow}
use Rattle.cert_fields.specs.VariableNames.{part_letter, variable_name}
use Rattle.cert_fields.specs.Terms.{IsNoSlot}
use Rattle.cert_fields.proofs.ConstantLemmas.{cons_head, cons_tail}
use Rattle.cert_fields.proofs.VariableLemmas.{only_high, only_low}

-- a text as one number
abbrev pub code : List ℕ → ℕ
code [] = 0
code (x ∷ xs) = x + 256 * code xs

abbrev plain_variables : List Variable
plain_variables = A ∷ B ∷ C ∷ D ∷ E ∷ H ∷ L ∷ Bc ∷ De ∷ Hl ∷ Ix ∷ Iy ∷ []

-- the variable of a name, if it is no slot
abbrev variable_named : List ℕ → Variable
variable_named name = get_or plain_variables (position_or_len (λ v. code (variable_name v) == code name) plain_variables) A

named_again : (v : Variable) → IsNoSlot v → variable_named (variable_name v) ≡ v
named_again A other = refl
named_again B other = refl
named_again C other = refl
named_again D other = refl
named_again E other = refl
named_again H other = refl
named_again L other = refl
named_again Bc other = refl
named_again De other = refl
named_again Hl other = refl
named_again Ix other = refl
named_again Iy other = refl
named_again (Slot number part) other = absurd other

head_is_s : (b : ℕ) (bs rest : List ℕ) → b ∷ bs ≡ 115 ∷ rest → b ≡ 115
head_is_s b bs rest e = cons_head b 115 bs rest e

plain_begins : (v : Variable) (rest : List ℕ) → IsNoSlot v → variable_name v ≡ 115 ∷ rest → ⊥
plain_begins A rest other e = absurd (omega (arith, head_is_s _ _ _ e))
plain_begins B rest other e = absurd (omega (arith, head_is_s _ _ _ e))
plain_begins C rest other e = absurd (omega (arith, head_is_s _ _ _ e))
plain_begins D rest other e = absurd (omega (arith, head_is_s _ _ _ e))
plain_begins E rest other e = absurd (omega (arith, head_is_s _ _ _ e))
plain_begins H rest other e = absurd (omega (arith, head_is_s _ _ _ e))
plain_begins L rest other e = absurd (omega (arith, head_is_s _ _ _ e))
plain_begins Bc rest other e = absurd (omega (arith, head_is_s _ _ _ e))
plain_begins De rest other e = absurd (omega (arith, head_is_s _ _ _ e))
plain_begins Hl rest other e = absurd (omega (arith, head_is_s _ _ _ e))
plain_begins Ix rest other e = absurd (omega (arith, head_is_s _ _ _ e))
plain_begins Iy rest other e = absurd (omega (arith, head_is_s _ _ _ e))
plain_begins (Slot number part) rest other e = other

pub plain_or_slot : (v : Variable) → IsNoSlot v ⊎ ((number : ℕ) × (part : Part) × (v ≡ Slot number part))
plain_or_slot (Slot number part) = inr (number, part, refl)
plain_or_slot _ = inl tt

-- two names of slots
same_slot : (n m : ℕ) (p q : Part) → n < 2 ^ 64 → m < 2 ^ 64 → decimal n ++ part_letter p ≡ decimal m ++ part_letter q → (decimal n ≡ decimal m) × (p ≡ q)
same_slot n m parts.High q small too e = only_high m too (decimal n ++ 104 ∷ []) (decimal n) q refl e
same_slot n m parts.Low q small too e = only_low m too (decimal n ++ 108 ∷ []) (decimal n) q refl e
same_slot n m parts.Word parts.Word small too e = (sym (append-nil (decimal n)) ∙ e ∙ append-nil (decimal m), refl)
same_slot n m parts.Word parts.High small too e =
    let other = only_high n small (decimal m ++ 104 ∷ []) (decimal m) parts.Word refl (sym e) in (sym other.0, sym other.1)
same_slot n m parts.Word parts.Low small too e =
    let other = only_low n small (decimal m ++ 108 ∷ []) (decimal m) parts.Word refl (sym e) in (sym other.0, sym other.1)

slots_same : (n m : ℕ) (p q : Part) → n < 2 ^ 64 → m < 2 ^ 64 → variable_name (Slot n p) ≡ variable_name (Slot m q) → Slot n p ≡ Slot m q
slots_same n m p q small too e =
    let (number, part) = same_slot n m p q small too (cons_tail 115 115 (decimal n ++ part_letter p) (decimal m ++ part_letter q) e) in
    ap (λ x. Slot x p) (decimal_injective n m small too number) ∙ ap (λ y. Slot m y) part

by_kind : (v w : Variable) → IsBelow (2 ^ 64) v → IsBelow (2 ^ 64) w → variable_name v ≡ variable_name w → IsNoSlot v ⊎ ((n : ℕ) × (p : Part) × (v ≡ Slot n p)) → IsNoSlot w ⊎ ((m : ℕ) × (q : Part) × (w ≡ Slot m q)) → v ≡ w
by_kind v w small too e (inl plain) (inl other) = sym (named_again v plain) ∙ ap variable_named e ∙ named_again w other
by_kind v w small too e (inl plain) (inr (m, q, is)) = absurd (plain_begins v _ plain (e ∙ ap variable_name is))
by_kind v w small too e (inr (n, p, is)) (inl other) = absurd (plain_begins w _ other (sym e ∙ ap variable_name is))
by_kind v w small too e (inr (n, p, is)) (inr (m, q, also)) =
    let same : variable_name (Slot n p) ≡ variable_name (Slot m q) = ap variable_name (sym is) ∙ e ∙ ap variable_name also in
    is ∙ slots_same n m p q (subst (λ x. IsBelow (2 ^ 64) x) is small) (subst (λ x. IsBelow (2 ^ 64) x) also too) same ∙ sym also

pub variable_name_injective : (v w : Variable) → IsBelow (2 ^ 64) v → IsBelow (2 ^ 64) w → variable_name v ≡ variable_name w → v ≡ w
variable_name_injective v w small too e = by_kind v w small too e (plain_or_slot v) (plain_or_slot w)

below_wider : (v : Variable) → IsBelow 64 v → IsBelow (2 ^ 64) v
below_wider (Slot number part) small = omega (arith, small)
below_wider _ small = tt

-- a text that names a slot beyond a shape names no other variable
pub names_no_other : (field : List ℕ) (named : Variable) → IsBelow (2 ^ 64) named → field ≡ variable_name named →
    (IsBelow 64 named → ⊥) → (v : Variable) → IsBelow 64 v → field ≢ variable_name v
names_no_other field named small is beyond v within also =
    beyond (subst (IsBelow 64) (variable_name_injective v named (below_wider v within) small (sym also ∙ is)) within)

-- the variable with a name, if its slot is within the shapes
pub reads_in_shape : (field : List ℕ) (named : Variable) (result : Option Variable) →
    Reads variable_name (IsBelow (2 ^ 64)) field (Some named) →
    MatchOption result (¬ IsBelow 64 named) (λ v. (v ≡ named) × IsBelow 64 v) → Reads variable_name (IsBelow 64) field result
reads_in_shape field named None reads beyond = λ v within. names_no_other field named reads.0 reads.1 beyond v within
reads_in_shape field named (Some v) reads is = (is.1, reads.1 ∙ ap variable_name (sym is.0))
