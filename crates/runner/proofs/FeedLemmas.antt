use Rattle.std.proofs.Common.{◌≡◌, ◌≢◌, ◌<◌, ◌≤◌, ◌⊎◌, inl, inr, ℕ, List, [], ◌∷◌, ◌++◌, Option, Some, None, IfSome, length, get_or, drop, refl, sym, ap, ◌∙◌, arith, length-append, append_assoc}
use Rattle.std.proofs.lemmas.List.{append-nil}
use Rattle.texts.specs.Numbers.{Reads}
use Rattle.runner.specs.Playing.{BeginsWithNo}
use Rattle.texts.specs.Device.{DeviceState, GivesBytes}
use Rattle.texts.specs.Incoming.{HasNoFeed, IsLineTaken, IsTooLong, IsUnended}

heads_same : (x y : ℕ) (xs ys : List ℕ) → x ∷ xs ≡ y ∷ ys → x ≡ y
heads_same x y xs ys e = ap (λ (l : List ℕ). get_or l 0 0) e

-- two texts without a line feed, each before the first line feed of the same bytes, are equal
pub first_feed : (a b x y : List ℕ) → HasNoFeed a → HasNoFeed b → a ++ 10 ∷ x ≡ b ++ 10 ∷ y → a ≡ b
first_feed [] [] x y none_a none_b e = refl
first_feed [] (c ∷ b) x y none_a none_b e = absurd (none_b.0 (sym (heads_same 10 c x (b ++ 10 ∷ y) e)))
first_feed (c ∷ a) [] x y none_a none_b e = absurd (none_a.0 (heads_same c 10 (a ++ 10 ∷ x) y e))
first_feed (c ∷ a) (d ∷ b) x y none_a none_b e =
    ap (λ (h : ℕ). h ∷ a) (heads_same c d (a ++ 10 ∷ x) (b ++ 10 ∷ y) e) ∙ ap (λ (l : List ℕ). d ∷ l) (first_feed a b x y none_a.1 none_b.1 (ap (drop 1) e))

-- bytes without a line feed have none inside
feed_within : (a b x y : List ℕ) → HasNoFeed a → length b < length a → a ++ x ≡ b ++ 10 ∷ y → ⊥
feed_within [] b x y none less e = absurd (omega (arith, less))
feed_within (c ∷ a) [] x y none less e = none.0 (heads_same c 10 (a ++ x) y e)
feed_within (c ∷ a) (d ∷ b) x y none less e = feed_within a b x y none.1 (omega (arith, less)) (ap (drop 1) e)

module _ {X : Type 0} (text : X → List ℕ) (InForm : X → Type 0) where
  -- a line that reads as none of a kind begins the bytes, so no line of this kind does
  pub none_in_line : ((x : X) → InForm x → HasNoFeed (text x)) → (bytes line left : List ℕ) → HasNoFeed line → bytes ≡ (line ++ 10 ∷ []) ++ left → Reads text InForm line None → BeginsWithNo text InForm bytes
  none_in_line feedless bytes line left no_feed parts none = λ x rest form e.
      none x form (first_feed line (text x) left rest no_feed (feedless x form) (sym (parts ∙ append_assoc line (10 ∷ []) left) ∙ e))

  in_line : ((x : X) → InForm x → HasNoFeed (text x)) → (old new : Option (List ℕ)) (line : List ℕ) → HasNoFeed line → GivesBytes old (line ++ 10 ∷ []) new → Reads text InForm line None →
      IfSome old (BeginsWithNo text InForm)
  in_line feedless None new line no_feed given none = tt
  in_line feedless (Some bytes) new line no_feed (left, is, parts) none = none_in_line feedless bytes line left no_feed parts none

  pub no_line : ((x : X) → InForm x → HasNoFeed (text x)) → (old new : DeviceState) (line : List ℕ) → IsLineTaken 30 old line new → Reads text InForm line None → IfSome old.bytes (BeginsWithNo text InForm)
  no_line feedless old new line is none = in_line feedless old.bytes new.bytes line is.no_feed is.given.given none

  -- nor does one begin a text that is too long
  in_long : ((x : X) → InForm x → length (text x) ≤ 30) → (old new : Option (List ℕ)) (line : List ℕ) → length line ≡ 31 → HasNoFeed line → GivesBytes old line new → IfSome old (BeginsWithNo text InForm)
  in_long short None new line long no_feed given = tt
  in_long short (Some bytes) new line long no_feed (left, is, parts) = λ x rest form e.
      feed_within line (text x) left rest no_feed (omega (arith, short x form, long)) (sym parts ∙ e)

  -- nor one that no line feed ends
  in_unended : (old : Option (List ℕ)) (line : List ℕ) → HasNoFeed line → IfSome old (λ bytes. line ≡ bytes) → IfSome old (BeginsWithNo text InForm)
  in_unended None line no_feed all = tt
  in_unended (Some bytes) line no_feed all = λ x rest form e.
      feed_within line (text x) [] rest no_feed (omega (arith, ap length (all ∙ e), length-append (text x) (10 ∷ rest))) (append-nil line ∙ all ∙ e)

  pub no_line_bad : ((x : X) → InForm x → length (text x) ≤ 30) → (old new : DeviceState) → IsTooLong 30 old new ⊎ IsUnended 30 old new → IfSome old.bytes (BeginsWithNo text InForm)
  no_line_bad short old new (inl bad) = in_long short old.bytes new.bytes bad.text bad.long bad.no_feed bad.given.given
  no_line_bad short old new (inr bad) = in_unended old.bytes bad.text bad.no_feed bad.all

given_some : (old new : Option (List ℕ)) (line : List ℕ) → 0 < length line → GivesBytes old line new → IfSome old (λ bytes. bytes ≢ [])
given_some None new line some given = tt
given_some (Some bytes) new line some (left, is, parts) = λ empty. absurd (omega (arith, some, ap length (sym empty ∙ parts), length-append line left))

-- where a line is, something is left
pub line_some : (old new : DeviceState) (line : List ℕ) → IsLineTaken 30 old line new → IfSome old.bytes (λ bytes. bytes ≢ [])
line_some old new line is = given_some old.bytes new.bytes (line ++ 10 ∷ []) (omega (arith, length-append line (10 ∷ []))) is.given.given

pub bad_some : (old new : DeviceState) → IsTooLong 30 old new ⊎ IsUnended 30 old new → IfSome old.bytes (λ bytes. bytes ≢ [])
bad_some old new (inl bad) = given_some old.bytes new.bytes bad.text (omega (arith, bad.long)) bad.given.given
bad_some old new (inr bad) = given_some old.bytes new.bytes bad.text bad.some bad.given.given

-- both hold of a source's bytes
pub both : (o : Option (List ℕ)) (P Q : List ℕ → Type 0) → IfSome o P → IfSome o Q → IfSome o (λ bytes. P bytes × Q bytes)
both None P Q p q = tt
both (Some bytes) P Q p q = (p, q)

pub first_holds : (o : Option (List ℕ)) (P Q : List ℕ → Type 0) → IfSome o (λ bytes. P bytes × Q bytes) → IfSome o P
first_holds None P Q p = tt
first_holds (Some bytes) P Q p = p.0

pub second_holds : (o : Option (List ℕ)) (P Q : List ℕ → Type 0) → IfSome o (λ bytes. P bytes × Q bytes) → IfSome o Q
second_holds None P Q p = tt
second_holds (Some bytes) P Q p = p.1
