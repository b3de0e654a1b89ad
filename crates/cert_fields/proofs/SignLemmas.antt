-- Texts that are cut at the first sign.
use Rattle.std.proofs.Common.{◌≡◌, ◌<◌, ◌≤◌, ℕ, zero, suc, Bool, true, false, List, [], ◌∷◌, ◌++◌, length, get_or, take, drop, Some, None, cond, refl, sym, subst, arith, ltb-false}
use Rattle.std.proofs.lemmas.Bool.{both_ways}
use Rattle.std.proofs.lemmas.List.{take-append-drop, append-nil}
use Rattle.std.proofs.lemmas.List.Quantifiers.{position-Some}
use Rattle.std.proofs.lemmas.List.Sums.{fails_before_first}
use Rattle.std.specs.List.{position}
use Rattle.cert_fields.specs.Terms.{is_sign, HasNoSign, BeginsWithSign, IsCutAtSign}

no_sign_before : (text : List ℕ) (at : ℕ) → ((k : ℕ) → k < at → is_sign (get_or text k 0) ≡ false) → at ≤ length text → HasNoSign (take at text)
no_sign_before text zero none within = tt
no_sign_before [] (suc at) none within = tt
no_sign_before (b ∷ text) (suc at) none within = (none 0 (omega arith), no_sign_before text at (λ k l. none (suc k) (omega arith)) (omega arith))

sign_there : (text : List ℕ) (at : ℕ) → at < length text → is_sign (get_or text at 0) ≡ true → BeginsWithSign (drop at text)
sign_there [] at within sign = absurd (omega arith)
sign_there (b ∷ text) zero within sign = sign
sign_there (b ∷ text) (suc at) within sign = sign_there text at (omega arith) sign

pub cut_at_position : (text : List ℕ) (at : ℕ) → position is_sign text ≡ Some at → IsCutAtSign text (take at text) (drop at text)
cut_at_position text at found =
    let (within, sign, before) = position-Some is_sign text at 0 found in
    record {
      whole = sym (take-append-drop at text);
      plain = no_sign_before text at before (omega arith);
      sign = sign_there text at within sign;
    }

-- there is one way to cut a text so
pub sign_cut : (a b c d : List ℕ) → HasNoSign a → BeginsWithSign b → HasNoSign c → BeginsWithSign d → a ++ b ≡ c ++ d → (a ≡ c) × (b ≡ d)
sign_cut [] b [] d plain sign other too e = (refl, e)
sign_cut [] b (y ∷ c) d plain sign other too e = absurd (both_ways (is_sign y) other.0 (subst BeginsWithSign e sign))
sign_cut (x ∷ a) b [] d plain sign other too e = absurd (both_ways (is_sign x) plain.0 (subst BeginsWithSign (sym e) too))
sign_cut (x ∷ a) b (y ∷ c) d plain sign other too e =
    let head : x ≡ y = cc in
    let rest : a ++ b ≡ c ++ d = cc in
    let parts = sign_cut a b c d plain.1 sign other.1 too rest in
    (cc (head, parts.0), parts.1)

fails_everywhere : (text : List ℕ) → ((k : ℕ) → k < length text → is_sign (get_or text k 0) ≡ false) → HasNoSign text
fails_everywhere [] none = tt
fails_everywhere (b ∷ text) none = (none 0 (omega arith), fails_everywhere text (λ k l. none (suc k) (omega arith)))

some_not_none : (n : ℕ) → Some n ≡ None → ⊥
some_not_none n e = cc

cond_none : (b : Bool) (n : ℕ) → cond b (Some n) None ≡ None → b ≡ false
cond_none true n e = absurd (some_not_none n e)
cond_none false n e = refl

pub uncut : (text : List ℕ) → position is_sign text ≡ None → IsCutAtSign text text []
uncut text none =
    let past = ltb-false _ _ (cond_none _ _ none) in
    record {
      whole = sym (append-nil text);
      plain = fails_everywhere text (λ k l. fails_before_first is_sign text k 0 (omega arith));
      sign = tt;
    }
