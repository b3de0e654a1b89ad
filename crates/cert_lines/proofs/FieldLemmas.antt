-- The fields of a line determine what it says.
use Rattle.std.proofs.Common.{◌≡◌, ◌==◌, ◌<◌, ◌≤◌, ◌^◌, ℕ, List, [], ◌∷◌, get_or, length, codes, Option, Some, None, IfSome, refl, sym, ap, subst, ◌∙◌, inl, arith, Bool, true, false, if◌then◌else◌, nat_le}
use Rattle.std.proofs.lemmas.Bool.{false≢true, leb-false}
use Rattle.intervals.specs.Range.{RangeView, between}
use Rattle.std.specs.Fmt.{decimal}
use Rattle.std.proofs.lemmas.Fmt.{decimal_injective}
use Rattle.cert_lines.specs.Proc.{IsOfKind, IsProc, decimal_or_dash, kind_word, proc_fields}
use Rattle.cert_lines.specs.declared.proc.Proc.{Proc}
use Rattle.cert_lines.specs.declared.proc.ProcKind.{ProcKind}
use Rattle.cert_lines.specs.declared.proc.ProcKind.TheVariants.{Main, Nmi, Sub}
use Rattle.cert_fields.proofs.CutLemmas.{Lacks}
use Rattle.cert_fields.proofs.DecimalLemmas.{decimal_lacks}
use Rattle.cert_fields.proofs.HexLemmas.{hex2_injective, hex4_injective}
use Rattle.cert_fields.specs.Pair.{IsRange}
use Rattle.abs_state.specs.declared.cell.KeptCell.{KeptCell}
use Rattle.texts.specs.Numbers.{IsWord, hex2, hex4}

abbrev first : List ℕ → ℕ
first text = get_or text 0 0

pub kind_word_injective : (a b : ProcKind) → kind_word a ≡ kind_word b → a ≡ b
kind_word_injective Main Main e = refl
kind_word_injective Main Nmi e = absurd (omega (arith, ap first e))
kind_word_injective Main Sub e = absurd (omega (arith, ap first e))
kind_word_injective Nmi Main e = absurd (omega (arith, ap first e))
kind_word_injective Nmi Nmi e = refl
kind_word_injective Nmi Sub e = absurd (omega (arith, ap first e))
kind_word_injective Sub Main e = absurd (omega (arith, ap first e))
kind_word_injective Sub Nmi e = absurd (omega (arith, ap first e))
kind_word_injective Sub Sub e = refl

-- no decimal is a dash
dash_apart : (n : ℕ) (text : List ℕ) → Lacks 45 text → codes "-" ≡ text → ⊥
dash_apart n [] lacks e = absurd (omega (arith, ap length e))
dash_apart n (b ∷ text) lacks e =
    let dash : 45 ≡ b = ap first e in
    false≢true (sym lacks.0 ∙ ap (λ x. x == 45) (sym dash))

pub decimal_or_dash_injective : (m n : Option ℕ) → IfSome m (λ k. k < 2 ^ 64) → IfSome n (λ k. k < 2 ^ 64) → decimal_or_dash m ≡ decimal_or_dash n → m ≡ n
decimal_or_dash_injective None None small_m small_n e = refl
decimal_or_dash_injective None (Some n) small_m small_n e = absurd (dash_apart n (decimal n) (decimal_lacks 45 n (inl (omega arith)) small_n) e)
decimal_or_dash_injective (Some m) None small_m small_n e = absurd (dash_apart m (decimal m) (decimal_lacks 45 m (inl (omega arith)) small_m) (sym e))
decimal_or_dash_injective (Some m) (Some n) small_m small_n e = ap Some (decimal_injective m n (omega (arith, small_m)) (omega (arith, small_n)) e)

pub same_first : {X : Type 0} (x y : X) (xs ys : List X) → x ∷ xs ≡ y ∷ ys → x ≡ y
same_first x y xs ys e = cc

pub same_others : {X : Type 0} (x y : X) (xs ys : List X) → x ∷ xs ≡ y ∷ ys → xs ≡ ys
same_others x y xs ys e = cc

pub some_left : {X : Type 0} (xs ys : List X) → xs ≡ [] → ys ≡ xs → ys ≡ []
some_left xs ys e f = f ∙ e

within_64 : (n : Option ℕ) → IfSome n (λ k. k ≤ 1000000000) → IfSome n (λ k. k < 2 ^ 64)
within_64 None small = tt
within_64 (Some k) small = omega (arith, small)

-- a procedure with these fields has this kind, entry and time, and no field is left
module _ (kind : ProcKind) (entry : ℕ) (rank depth : List ℕ) (time : Option ℕ) (rest : List (List ℕ)) (p : Proc) (form : IsProc p) (word : IsWord entry)
    (small : IfSome time (λ k. k ≤ 1000000000)) (same : kind_word kind ∷ hex4 entry ∷ rank ∷ depth ∷ decimal_or_dash time ∷ rest ≡ proc_fields p) where
  others1 : hex4 entry ∷ rank ∷ depth ∷ decimal_or_dash time ∷ rest ≡ hex4 p.entry ∷ decimal p.rank ∷ decimal p.depth ∷ decimal_or_dash p.time ∷ []
  others1 = same_others _ _ _ _ same

  others2 : rank ∷ depth ∷ decimal_or_dash time ∷ rest ≡ decimal p.rank ∷ decimal p.depth ∷ decimal_or_dash p.time ∷ []
  others2 = same_others _ _ _ _ others1

  others4 : decimal_or_dash time ∷ rest ≡ decimal_or_dash p.time ∷ []
  others4 = same_others _ _ _ _ (same_others _ _ _ _ others2)

  pub proc_ends : rest ≡ []
  proc_ends = same_others _ _ _ _ others4

  kind_is : kind ≡ p.kind
  kind_is = kind_word_injective kind p.kind (same_first _ _ _ _ same)

  entry_is : entry ≡ p.entry
  entry_is = hex4_injective entry p.entry (same_first _ _ _ _ others1)

  time_is : time ≡ p.time
  time_is = decimal_or_dash_injective time p.time (within_64 time small) (within_64 p.time form.time) (same_first _ _ _ _ others4)

  pub proc_of_kind : IsOfKind kind entry time
  proc_of_kind =
      subst (λ k. IsOfKind k entry time) (sym kind_is) (subst (λ a. IsOfKind p.kind a time) (sym entry_is) (subst (λ t. IsOfKind p.kind p.entry t) (sym time_is) form.kind))

-- one field was read, and the rest begins so
pub more : (old mid rest : List (List ℕ)) (field text : List ℕ) → old ≡ field ∷ mid → field ≡ text → mid ≡ rest → old ≡ text ∷ rest
more old mid rest field text e f g = e ∙ ap (λ x. x ∷ mid) f ∙ ap (λ xs. text ∷ xs) g

-- a range with the bounds of a cell's line has its lower bound first
pub cell_order : (at low high : List ℕ) (l h : ℕ) (rest : List (List ℕ)) (c : KeptCell) → IsRange 255 c.range → low ≡ hex2 l → high ≡ hex2 h →
    at ∷ low ∷ high ∷ rest ≡ hex4 c.at ∷ hex2 c.range.low ∷ hex2 c.range.high ∷ [] → l ≤ h
cell_order at low high l h rest c range e f same =
    let others = same_others _ _ _ _ same in
    let least : l ≡ c.range.low = hex2_injective l c.range.low (sym e ∙ same_first _ _ _ _ others) in
    let greatest : h ≡ c.range.high = hex2_injective h c.range.high (sym f ∙ same_first _ _ _ _ (same_others _ _ _ _ others)) in
    omega (arith, range.order, least, greatest)

some_no_none : (r : RangeView) → Some r ≡ None → ⊥
some_no_none r e = cc

none_from : (b : Bool) (r : RangeView) → (if b then Some r else None) ≡ None → b ≡ false
none_from true r e = absurd (some_no_none r e)
none_from false r e = refl

-- bounds that make no range are out of order
pub out_of_order : (low high : ℕ) → between low high ≡ None → low ≤ high → ⊥
out_of_order low high e order =
    let above = leb-false low high (none_from (nat_le low high) _ e) in
    absurd (omega (arith, above, order))
