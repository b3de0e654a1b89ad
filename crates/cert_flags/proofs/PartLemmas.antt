-- The texts of single flag parts.
use Rattle.std.proofs.Common.{◌≡◌, ◌<◌, ◌≤◌, ◌^◌, ◌==◌, ℕ, List, [], ◌∷◌, ◌++◌, get_or, length, codes, refl, sym, ap, ◌∙◌, arith, length-append}
use Rattle.std.specs.List.{position_or_len}
use Rattle.loop_bounds.specs.Linear.{LinearView}
use Rattle.flag_letters.specs.declared.letter.Letter.{Letter}
use Rattle.flag_letters.specs.declared.letter.Letter.TheVariants.{Zero, ZeroIfBelow, CarryIfBelow, SignIfBelow}
use Rattle.flag_letters.specs.declared.part.FlagPart.{FlagPart}
use Rattle.cert_fields.specs.Linear.{IsSum, linear_text}
use Rattle.cert_fields.proofs.ConstantLemmas.{cons_head, cons_tail}
use Rattle.cert_fields.proofs.CutLemmas.{Lacks}
use Rattle.cert_fields.proofs.LinearInjectiveLaws.{linear_text_injective}
use Rattle.cert_fields.proofs.LinearLengthLaws.{length_linear}
use Rattle.cert_fields.proofs.LinearPartLemmas.{IsPart, part_append, part_lacks, part_linear, part_test}
use Rattle.cert_flags.specs.Parts.{IsFlagPart, IsShortPart, letter_text, part_text}

-- the byte of a letter
abbrev pub letter_code : Letter → ℕ
letter_code Zero = 122
letter_code ZeroIfBelow = 98
letter_code CarryIfBelow = 99
letter_code SignIfBelow = 115

letter_then : (l : Letter) (text : List ℕ) → letter_text l ++ text ≡ letter_code l ∷ text
letter_then Zero text = refl
letter_then ZeroIfBelow text = refl
letter_then CarryIfBelow text = refl
letter_then SignIfBelow text = refl

letter_alone : (l : Letter) → letter_text l ≡ letter_code l ∷ []
letter_alone Zero = refl
letter_alone ZeroIfBelow = refl
letter_alone CarryIfBelow = refl
letter_alone SignIfBelow = refl

abbrev letters : List Letter
letters = Zero ∷ ZeroIfBelow ∷ CarryIfBelow ∷ SignIfBelow ∷ []

-- the letter that a byte spells, if it spells one
abbrev letter_coded : ℕ → Letter
letter_coded byte = get_or letters (position_or_len (λ l. letter_code l == byte) letters) Zero

letter_again : (l : Letter) → letter_coded (letter_code l) ≡ l
letter_again Zero = refl
letter_again ZeroIfBelow = refl
letter_again CarryIfBelow = refl
letter_again SignIfBelow = refl

letter_code_injective : (l m : Letter) → letter_code l ≡ letter_code m → l ≡ m
letter_code_injective l m e = sym (letter_again l) ∙ ap letter_coded e ∙ letter_again m

-- the text of a flag part: the byte of its letter, and its linear
pub part_is : (p : FlagPart) → part_text p ≡ letter_code p.letter ∷ linear_text p.linear
unfolding part_text
part_is p = letter_then p.letter (linear_text p.linear)

same_part : (p q : FlagPart) → p.letter ≡ q.letter → p.linear ≡ q.linear → p ≡ q
same_part p q letter linear =
    ap (λ l. let r : FlagPart = record { letter = l; linear = p.linear } in r) letter
    ∙ ap (λ s. let r : FlagPart = record { letter = q.letter; linear = s } in r) linear

-- no two flag parts in form have the same text
pub part_text_injective : (slots : ℕ) → slots < 2 ^ 64 → (p q : FlagPart) → IsFlagPart slots p → IsFlagPart slots q →
    part_text p ≡ part_text q → p ≡ q
part_text_injective slots small p q form too e =
    let whole = sym (part_is p) ∙ e ∙ part_is q in
    same_part p q (letter_code_injective p.letter q.letter (cons_head _ _ _ _ whole))
    (linear_text_injective slots small p.linear q.linear form too (cons_tail _ _ _ _ whole))

-- no byte of a flag part is a comma, a space or a lower byte
part_letter : (l : Letter) → IsPart (letter_text l)
part_letter Zero = part_test (codes "z") refl
part_letter ZeroIfBelow = part_test (codes "b") refl
part_letter CarryIfBelow = part_test (codes "c") refl
part_letter SignIfBelow = part_test (codes "s") refl

pub part_of_text : (slots : ℕ) → slots < 2 ^ 64 → (p : FlagPart) → IsFlagPart slots p → IsPart (part_text p)
unfolding part_text
part_of_text slots small p form =
    part_append (letter_text p.letter) (linear_text p.linear) (part_letter p.letter) (part_linear slots p.linear small form)

pub flag_part_lacks : (slots : ℕ) → slots < 2 ^ 64 → (p : FlagPart) → IsFlagPart slots p → Lacks 44 (part_text p)
flag_part_lacks slots small p form = part_lacks (part_text p) (part_of_text slots small p form)

-- a dash is no flag part
no_dash : (l : Letter) → letter_code l ≡ 45 → ⊥
no_dash Zero e = omega (arith, e)
no_dash ZeroIfBelow e = omega (arith, e)
no_dash CarryIfBelow e = omega (arith, e)
no_dash SignIfBelow e = omega (arith, e)

pub dash_is_no_part : (slots : ℕ) (p : FlagPart) → IsFlagPart slots p → part_text p ≡ codes "-" → ⊥
dash_is_no_part slots p form e = no_dash p.letter (cons_head _ 45 _ [] (sym (part_is p) ∙ e))

-- a flag part is at most a letter and a linear of 50 bytes
length_letter : (l : Letter) → length (letter_text l) ≡ 1
length_letter Zero = refl
length_letter ZeroIfBelow = refl
length_letter CarryIfBelow = refl
length_letter SignIfBelow = refl

pub length_part : (slots : ℕ) (p : FlagPart) → IsFlagPart slots p → IsShortPart p → length (part_text p) ≤ 51
unfolding part_text
length_part slots p form short =
    omega (arith, length-append (letter_text p.letter) (linear_text p.linear), length_letter p.letter, length_linear slots p.linear form short)

-- ---- what is read of a field

-- a field without bytes
pub no_part : (field : List ℕ) (p : FlagPart) → length field ≡ 0 → field ≡ part_text p → ⊥
no_part field p none e = omega (arith, none, ap length (e ∙ part_is p))

module _ (field behind : List ℕ) (first : ℕ) (cut : field ≡ first ∷ behind) where
  -- a field whose first byte spells no letter
  pub no_letter : ((l : Letter) → Unit {0} → first ∷ [] ≡ letter_text l → ⊥) → (p : FlagPart) → field ≡ part_text p → ⊥
  no_letter none p e =
      none p.letter tt (ap (λ b. b ∷ []) (cons_head _ _ _ _ (sym cut ∙ e ∙ part_is p)) ∙ sym (letter_alone p.letter))

  -- a field with no linear after its first byte
  pub no_linear : (slots : ℕ) → ((s : LinearView) → IsSum slots s → behind ≡ linear_text s → ⊥) → (p : FlagPart) → IsFlagPart slots p →
      field ≡ part_text p → ⊥
  no_linear slots none p form e = none p.linear form (cons_tail _ _ _ _ (sym cut ∙ e ∙ part_is p))

  -- a field with a letter and a linear
  pub part_read : (p : FlagPart) → first ∷ [] ≡ letter_text p.letter → behind ≡ linear_text p.linear → field ≡ part_text p
  part_read p letter linear =
      cut ∙ ap (λ b. b ∷ behind) (cons_head _ _ _ _ (letter ∙ letter_alone p.letter))
      ∙ ap (λ text. letter_code p.letter ∷ text) linear ∙ sym (part_is p)
