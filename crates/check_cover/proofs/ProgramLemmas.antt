-- What a certificate says about an address or a call is found in its ordered lists.
use Rattle.std.proofs.Common.{◌≡◌, ◌<◌, ◌≤◌, ◌+◌, ◌==◌, ◌||◌, Bool, true, false, ℕ, zero, suc, List, [], ◌∷◌, slice_get, Option, Some, None, refl, ap, ◌∙◌, arith}
use Rattle.std.specs.List.{AllByRecursion, list_any}
use Rattle.std.specs.List.Sorted.{IsNonDecreasingBy}
use Rattle.std.proofs.lemmas.Bool.{and_from, and_parts, eqb-true, eq-eqb, ne_eqb, false_from_ne_true}
use Rattle.std.proofs.lemmas.Option.{same_Some}
use Rattle.check_cover.specs.Program.{call_number, callee_among, is_called_at, split_among, splits_at}
use Rattle.check_cover.specs.declared.program.Callee.{Callee}
use Rattle.check_cover.proofs.OrderedLists.{IsFirst, NoneHas, follow_weaker, in_order}
use Rattle.cert_lines.specs.declared.proc.Proc.{Proc}
use Rattle.cert_lines.specs.declared.proc.ProcKind.{ProcKind}
use Rattle.cert_lines.specs.declared.proc.ProcKind.TheVariants.{Main, Nmi, Sub}
use Rattle.cert_lines.specs.declared.split.Split.{Split}
use Rattle.cert_form.specs.Contents.{CertificateView}
use Rattle.cert_form.specs.Form.{AreInOrder, Follow, IsInForm, IsSplit, place_number}

-- ---- inline calls

abbrev pub itself : ℕ → ℕ
itself n = n

pub inlines_in_order : (c : CertificateView) → IsInForm c → IsNonDecreasingBy itself c.inlines
inlines_in_order c form =
    in_order itself c.inlines (follow_weaker (λ a b. a < b) (λ a b. a ≤ b) (λ a b less. omega (arith, less)) c.inlines form.certificate.inlines.rising)

pub no_inline : (address : ℕ) (xs : List ℕ) → NoneHas itself address xs → list_any (λ at. at == address) xs ≡ false
no_inline address [] none = refl
no_inline address (x ∷ xs) none =
    rw (ne_eqb x address (none 0 x refl)) (no_inline address xs (λ k y. none (suc k) y))

pub an_inline : (address : ℕ) (xs : List ℕ) (k x : ℕ) → slice_get xs k ≡ Some x → x ≡ address → list_any (λ at. at == address) xs ≡ true
an_inline address [] k x at is = cc
an_inline address (y ∷ xs) zero x at is = rw (eq-eqb y address (same_Some y x at ∙ is)) refl
an_inline address (y ∷ xs) (suc k) x at is = rw (an_inline address xs k x at is) (any_or (y == address))
  where
    any_or : (b : Bool) → (b || true) ≡ true
    any_or true = refl
    any_or false = refl

-- ---- splits

abbrev pub split_number : Split → ℕ
split_number split = place_number split.proc split.address

pub splits_in_order : (c : CertificateView) → IsInForm c → IsNonDecreasingBy split_number c.splits
splits_in_order c form =
    in_order split_number c.splits
    (follow_weaker (λ a b. split_number a < split_number b) (λ a b. split_number a ≤ split_number b) (λ a b less. omega (arith, less)) c.splits
    form.certificate.splits.rising)

-- only a split at this place has its number
other_place : (proc address : ℕ) (split : Split) → (split_number split ≡ place_number proc address → ⊥) → splits_at proc address split ≡ false
other_place proc address split other =
    false_from_ne_true (splits_at proc address split) (λ e.
    let parts = and_parts (split.proc == proc) (split.address == address) e in
    let p = eqb-true _ _ parts.0 in
    let a = eqb-true _ _ parts.1 in
    other (omega (arith, p, a)))

same_place : (proc address : ℕ) (split : Split) → address ≤ 65535 → split.address ≤ 65535 → split_number split ≡ place_number proc address →
    splits_at proc address split ≡ true
same_place proc address split word word_there is =
    and_from (split.proc == proc) (split.address == address) (eq-eqb _ _ (omega (arith, is, word, word_there))) (eq-eqb _ _ (omega (arith, is, word, word_there)))

pub no_split : (proc address : ℕ) (xs : List Split) → NoneHas split_number (place_number proc address) xs → split_among proc address xs ≡ None
unfolding split_among
no_split proc address [] none = refl
no_split proc address (x ∷ xs) none =
    rw (other_place proc address x (none 0 x refl)) (no_split proc address xs (λ k y. none (suc k) y))

pub a_split : (count proc address : ℕ) (xs : List Split) (k : ℕ) (x : Split) → address ≤ 65535 → AllByRecursion (IsSplit count) xs →
    IsFirst split_number (place_number proc address) xs k x → split_among proc address xs ≡ Some x.register
unfolding split_among
a_split count proc address [] k x word words first = let e = first.at in cc
a_split count proc address (y ∷ xs) zero x word words first =
    let e = same_Some y x first.at in
    rw (same_place proc address y word words.0.address (ap split_number e ∙ first.has)) (ap (λ (s : Split). Some s.register) e)
a_split count proc address (y ∷ xs) (suc k) x word words first =
    rw (other_place proc address y (first.before 0 y (omega arith) refl))
    (a_split count proc address xs k x word words.1
    record { at = first.at; has = first.has; before = λ j z low. first.before (suc j) z (omega (arith, low)) })

-- ---- callees

-- only the called procedure with this entry has the number of the call
not_called : (entry : ℕ) (proc : Proc) → (call_number proc ≡ suc entry → ⊥) → is_called_at entry proc ≡ false
not_called entry proc other = by_kind proc.kind other
  where
    by_kind : (kind : ProcKind) → ((elim kind as (λ _. ℕ) [ Main ↦ 0 | Nmi ↦ 0 | Sub ↦ suc proc.entry ]) ≡ suc entry → ⊥) →
        (elim kind as (λ _. Bool) [ Main ↦ false | Nmi ↦ false | Sub ↦ proc.entry == entry ]) ≡ false
    by_kind Main o = refl
    by_kind Nmi o = refl
    by_kind Sub o = ne_eqb proc.entry entry (λ e. o (ap suc e))

called : (entry : ℕ) (proc : Proc) → call_number proc ≡ suc entry → is_called_at entry proc ≡ true
called entry proc is = by_kind proc.kind is
  where
    by_kind : (kind : ProcKind) → (elim kind as (λ _. ℕ) [ Main ↦ 0 | Nmi ↦ 0 | Sub ↦ suc proc.entry ]) ≡ suc entry →
        (elim kind as (λ _. Bool) [ Main ↦ false | Nmi ↦ false | Sub ↦ proc.entry == entry ]) ≡ true
    by_kind Main e = absurd (omega (arith, e))
    by_kind Nmi e = absurd (omega (arith, e))
    by_kind Sub e = eq-eqb proc.entry entry (omega (arith, e))

pub no_callee : (from entry : ℕ) (xs : List Proc) → NoneHas call_number (suc entry) xs → callee_among from entry xs ≡ None
unfolding callee_among
no_callee from entry [] none = refl
no_callee from entry (x ∷ xs) none =
    rw (not_called entry x (none 0 x refl)) (no_callee (suc from) entry xs (λ k y. none (suc k) y))

abbrev pub numbered : ℕ → Proc → Callee
numbered number proc = record { number = number; proc = proc }

a_callee : (from entry : ℕ) (xs : List Proc) (k : ℕ) (x : Proc) → IsFirst call_number (suc entry) xs k x →
    callee_among from entry xs ≡ Some (numbered (from + k) x)
unfolding callee_among
a_callee from entry [] k x first = let e = first.at in cc
a_callee from entry (y ∷ xs) zero x first =
    let e = same_Some y x first.at in
    rw (called entry y (ap call_number e ∙ first.has))
    (ap (λ p. Some (numbered from p)) e ∙ ap (λ n. Some (numbered n x)) (omega arith))
a_callee from entry (y ∷ xs) (suc k) x first =
    rw (not_called entry y (first.before 0 y (omega arith) refl))
    (a_callee (suc from) entry xs k x
    record { at = first.at; has = first.has; before = λ j z low. first.before (suc j) z (omega (arith, low)) }
    ∙ ap (λ n. Some (numbered n x)) (omega arith))

pub first_callee : (entry : ℕ) (xs : List Proc) (k : ℕ) (x : Proc) → IsFirst call_number (suc entry) xs k x →
    callee_among 0 entry xs ≡ Some (numbered k x)
first_callee entry xs k x first = a_callee 0 entry xs k x first ∙ ap (λ n. Some (numbered n x)) (omega arith)

-- ---- the order of procedures by their call numbers

abbrev pub CallsRise : List Proc → Type 0
CallsRise procs = Follow (λ p q. call_number p ≤ call_number q) procs

-- the call number of a called procedure comes from its entry
sub_number : (proc : Proc) → proc.kind ≡ Sub → call_number proc ≡ suc proc.entry
sub_number proc sub = ap (λ kind. elim kind as (λ _. ℕ) [ Main ↦ 0 | Nmi ↦ 0 | Sub ↦ suc proc.entry ]) sub

subs_rise : (procs : List Proc) → AllByRecursion (λ p. p.kind ≡ Sub) procs → Follow (λ p q. p.entry < q.entry) procs → CallsRise procs
subs_rise [] kinds up = tt
subs_rise (p ∷ []) kinds up = tt
subs_rise (p ∷ q ∷ procs) kinds up =
    (omega (arith, sub_number p kinds.0, sub_number q kinds.1.0, up.0), subs_rise (q ∷ procs) kinds.1 up.1)

-- a procedure that is never called is before the others
before_calls : (proc : Proc) (procs : List Proc) → call_number proc ≡ 0 → CallsRise procs → CallsRise (proc ∷ procs)
before_calls proc [] none up = tt
before_calls proc (q ∷ procs) none up = (omega (arith, none), up)

main_number : (proc : Proc) → proc.kind ≡ Main → call_number proc ≡ 0
main_number proc e = ap (λ kind. elim kind as (λ _. ℕ) [ Main ↦ 0 | Nmi ↦ 0 | Sub ↦ suc proc.entry ]) e

nmi_number : (proc : Proc) → proc.kind ≡ Nmi → call_number proc ≡ 0
nmi_number proc e = ap (λ kind. elim kind as (λ _. ℕ) [ Main ↦ 0 | Nmi ↦ 0 | Sub ↦ suc proc.entry ]) e

calls_rise : (budget : Option ℕ) (procs : List Proc) → AreInOrder budget procs → CallsRise procs
calls_rise None [] o = absurd o
calls_rise None (main ∷ subs) o = before_calls main subs (main_number main o.0) (subs_rise subs o.1.kind o.1.rising)
calls_rise (Some budget) [] o = absurd o
calls_rise (Some budget) (main ∷ []) o = absurd o
calls_rise (Some budget) (main ∷ nmi ∷ subs) o =
    before_calls main (nmi ∷ subs) (main_number main o.0) (before_calls nmi subs (nmi_number nmi o.1) (subs_rise subs o.2.kind o.2.rising))

pub calls_in_order : (c : CertificateView) → IsInForm c → IsNonDecreasingBy call_number c.procs
calls_in_order c form = in_order call_number c.procs (calls_rise c.budget c.procs form.certificate.order)
