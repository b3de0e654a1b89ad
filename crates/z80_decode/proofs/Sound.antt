-- What the decoder finds in a window is spelled by the window's first bytes.
use Rattle.std.proofs.Common.{◌≡◌, ℕ, ◌/◌, ◌%◌, ◌<◌, List, [], ◌∷◌, length, take, refl, sym, arith, Option, Some, None, Bool, true, false, cond, subst, nat_eq}
use Rattle.std.proofs.lemmas.Bool.{eqb-true}
use Rattle.z80_decode.specs.declared.operands.Index.{Index}
use Rattle.z80_decode.specs.declared.operands.Index.TheVariants as indexes
use Rattle.z80_decode.specs.declared.instr.Instr.{Instr}
use Rattle.z80_decode.specs.Operands.{prefix}
use Rattle.z80_decode.specs.Codes.{place_coded}
use Rattle.z80_decode.specs.Spelling.{spelling}
use Rattle.z80_decode.specs.UnprefixedPage.{unprefixed}
use Rattle.z80_decode.specs.CbPage.{behind_cb}
use Rattle.z80_decode.specs.EdPage.{behind_ed}
use Rattle.z80_decode.specs.IndexPage.{behind_index}
use Rattle.z80_decode.specs.Decoding.{decoded, indexed, word_from}
use Rattle.z80_decode.proofs.Tables.{each_below}

-- the spelling of what was found, and as many bytes of the window
abbrev pub spelled : Option Instr → List ℕ
spelled None = []
spelled (Some i) = spelling i

abbrev pub cut : List ℕ → Option Instr → List ℕ
cut window None = []
cut window (Some i) = take (length (spelling i)) window

-- the window begins with the spelling of the instruction, if there is one
abbrev pub IsSound : List ℕ → Option Instr → Type 0
IsSound window found = spelled found ≡ cut window found

-- ---- the pages, each opcode in turn

unprefixed_sound : (w d op : ℕ) → op < 256 → spelled (unprefixed op (w % 256) w) ≡ cut (op ∷ w % 256 ∷ w / 256 ∷ d ∷ []) (unprefixed op (w % 256) w)
unprefixed_sound w d = each_below (λ op. spelled (unprefixed op (w % 256) w)) (λ op. cut (op ∷ w % 256 ∷ w / 256 ∷ d ∷ []) (unprefixed op (w % 256) w)) 256 refl

cb_sound : (c d op : ℕ) → op < 256 → spelled (behind_cb op (place_coded (op % 8))) ≡ cut (0xCB ∷ op ∷ c ∷ d ∷ []) (behind_cb op (place_coded (op % 8)))
cb_sound c d = each_below (λ op. spelled (behind_cb op (place_coded (op % 8)))) (λ op. cut (0xCB ∷ op ∷ c ∷ d ∷ []) (behind_cb op (place_coded (op % 8)))) 256 refl

ed_sound : (w op : ℕ) → op < 256 → spelled (behind_ed op w) ≡ cut (0xED ∷ op ∷ w % 256 ∷ w / 256 ∷ []) (behind_ed op w)
ed_sound w = each_below (λ op. spelled (behind_ed op w)) (λ op. cut (0xED ∷ op ∷ w % 256 ∷ w / 256 ∷ []) (behind_ed op w)) 256 refl

index_sound : (index : Index) (w op : ℕ) → op < 256 → spelled (behind_index index op (w % 256) (w / 256) w) ≡ cut (prefix index ∷ op ∷ w % 256 ∷ w / 256 ∷ []) (behind_index index op (w % 256) (w / 256) w)
index_sound indexes.Ix w = each_below (λ op. spelled (behind_index indexes.Ix op (w % 256) (w / 256) w)) (λ op. cut (0xDD ∷ op ∷ w % 256 ∷ w / 256 ∷ []) (behind_index indexes.Ix op (w % 256) (w / 256) w)) 256 refl
index_sound indexes.Iy w = each_below (λ op. spelled (behind_index indexes.Iy op (w % 256) (w / 256) w)) (λ op. cut (0xFD ∷ op ∷ w % 256 ∷ w / 256 ∷ []) (behind_index indexes.Iy op (w % 256) (w / 256) w)) 256 refl

indexed_cb_sound : (index : Index) (d op : ℕ) → op < 256 → spelled (indexed index 0xCB d op) ≡ cut (prefix index ∷ 0xCB ∷ d ∷ op ∷ []) (indexed index 0xCB d op)
indexed_cb_sound index d = each_below (λ op. spelled (indexed index 0xCB d op)) (λ op. cut (prefix index ∷ 0xCB ∷ d ∷ op ∷ []) (indexed index 0xCB d op)) 256 refl

-- ---- the window

low_of-word_from : (low high : ℕ) → low < 256 → word_from low high % 256 ≡ low
low_of-word_from low high h = omega arith

high_of-word_from : (low high : ℕ) → low < 256 → word_from low high / 256 ≡ high
high_of-word_from low high h = omega arith

-- what holds of the bytes of a word holds of the bytes that make it
at_word : (P : ℕ → ℕ → Type 0) (low high : ℕ) → low < 256 → P (word_from low high % 256) (word_from low high / 256) → P low high
at_word P low high h p = subst (λ x. P x high) (low_of-word_from low high h) (subst (λ y. P (word_from low high % 256) y) (high_of-word_from low high h) p)

if_sound : (test : Bool) (window : List ℕ) (x y : Option Instr) → (test ≡ true → IsSound window x) → (test ≡ false → IsSound window y) → IsSound window (cond test x y)
if_sound true window x y p q = p refl
if_sound false window x y p q = q refl

-- the first byte is a prefix
under : (a prefix_byte : ℕ) (rest : List ℕ) (x : Option Instr) → IsSound (prefix_byte ∷ rest) x → nat_eq a prefix_byte ≡ true → IsSound (a ∷ rest) x
under a prefix_byte rest x p e = subst (λ v. IsSound (v ∷ rest) x) (sym (eqb-true a prefix_byte e)) p

indexed_sound : (index : Index) (b c d : ℕ) → b < 256 → c < 256 → d < 256 → IsSound (prefix index ∷ b ∷ c ∷ d ∷ []) (indexed index b c d)
indexed_sound index b c d hb hc hd =
    if_sound (nat_eq b 0xCB) _ _ _
    (λ e. subst (λ v. IsSound (prefix index ∷ v ∷ c ∷ d ∷ []) (indexed index 0xCB c d)) (sym (eqb-true b 0xCB e)) (indexed_cb_sound index c d hd))
    (λ _. at_word (λ x y. IsSound (prefix index ∷ b ∷ x ∷ y ∷ []) (behind_index index b x y (word_from c d))) c d hc (index_sound index (word_from c d) b hb))

pub sound : (a b c d : ℕ) → a < 256 → b < 256 → c < 256 → d < 256 → IsSound (a ∷ b ∷ c ∷ d ∷ []) (decoded a b c d)
sound a b c d ha hb hc hd =
    if_sound (nat_eq a 0xCB) _ _ _ (under a 0xCB _ _ (cb_sound c d b hb)) (λ _.
    if_sound (nat_eq a 0xDD) _ _ _ (under a 0xDD _ _ (indexed_sound indexes.Ix b c d hb hc hd)) (λ _.
    if_sound (nat_eq a 0xED) _ _ _ (under a 0xED _ _ (at_word (λ x y. IsSound (0xED ∷ b ∷ x ∷ y ∷ []) (behind_ed b (word_from c d))) c d hc (ed_sound (word_from c d) b hb))) (λ _.
    if_sound (nat_eq a 0xFD) _ _ _ (under a 0xFD _ _ (indexed_sound indexes.Iy b c d hb hc hd)) (λ _.
    at_word (λ x y. IsSound (a ∷ x ∷ y ∷ d ∷ []) (unprefixed a x (word_from b c))) b c hb (unprefixed_sound (word_from b c) d a ha)))))
