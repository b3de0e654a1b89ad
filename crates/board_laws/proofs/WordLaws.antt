-- Words on the stack, and their order.
use Rattle.std.proofs.Common.{◌≡◌, ◌<◌, ◌≤◌, ◌+◌, ◌*◌, inl, inr, ℕ, List, [], ◌∷◌, ◌++◌, length, reverse, refl, sym, ap, ◌∙◌, arith}
use Rattle.std.specs.List.{AllZip}
use Rattle.std.proofs.lemmas.Bool.{cases_lt, cases_eq}
use Rattle.std.proofs.lemmas.List.{append_assoc, reverse-append}
use Rattle.z80_alu.specs.Word.{high_of, low_of, word_of}
use Rattle.board_step.specs.State.{BoardView}
use Rattle.board_laws.specs.Words.{work_byte, Lays, on_top}

-- ---- words on the stack

pub lays-sp : (s : BoardView) (sp top : ℕ) (words : List ℕ) → Lays s sp top words → sp + 2 * length words ≡ top
unfolding Lays
lays-sp s sp top [] l = omega arith
lays-sp s sp top (w ∷ ws) l = let h = lays-sp s (sp + 2) top ws l.2 in omega arith

-- two states with the same bytes lay the same words
pub lays-kept : (old new : BoardView) (sp top : ℕ) (words : List ℕ) → ((at : ℕ) → sp ≤ at → at < top → work_byte new at ≡ work_byte old at)
    → Lays old sp top words → Lays new sp top words
unfolding Lays
lays-kept old new sp top [] same l = l
lays-kept old new sp top (w ∷ ws) same l =
    let h = lays-sp old (sp + 2) top ws l.2 in
    (same sp (omega arith) (omega arith) ∙ l.0, same (sp + 1) (omega arith) (omega arith) ∙ l.1, lays-kept old new (sp + 2) top ws (λ x a b. same x (omega arith) b) l.2)

-- two states that lay the same words have the same bytes
pub lays-same : (old new : BoardView) (sp top : ℕ) (words : List ℕ) → Lays old sp top words → Lays new sp top words
    → (at : ℕ) → sp ≤ at → at < top → work_byte new at ≡ work_byte old at
unfolding Lays
lays-same old new sp top [] a b x from to = absurd (omega arith)
lays-same old new sp top (w ∷ ws) a b x from to =
    elim (cases_lt x (sp + 2)) [
      | inr after ↦ lays-same old new (sp + 2) top ws a.2 b.2 x after to
      | inl before ↦ elim (cases_eq x sp) [
        | inl at ↦ ap (work_byte new) at ∙ b.0 ∙ sym a.0 ∙ ap (work_byte old) (sym at)
        | inr other ↦ let next : x ≡ sp + 1 = omega arith in ap (work_byte new) next ∙ b.1 ∙ sym a.1 ∙ ap (work_byte old) (sym next)
      ]
    ]

pub halves : (word : ℕ) → word_of (high_of word) (low_of word) ≡ word
halves word = omega arith

-- a word is determined by its bytes
one_word : (word other : ℕ) → low_of word ≡ low_of other → high_of word ≡ high_of other → word ≡ other
one_word word other low high = omega arith

pub lays-one : (s : BoardView) (sp top : ℕ) (words others : List ℕ) → Lays s sp top words → Lays s sp top others → words ≡ others
unfolding Lays
lays-one s sp top [] [] a b = refl
lays-one s sp top [] (v ∷ vs) a b = let h = lays-sp s (sp + 2) top vs b.2 in absurd (omega arith)
lays-one s sp top (w ∷ ws) [] a b = let h = lays-sp s (sp + 2) top ws a.2 in absurd (omega arith)
lays-one s sp top (w ∷ ws) (v ∷ vs) a b =
    let first : w ≡ v = one_word w v (sym a.0 ∙ b.0) (sym a.1 ∙ b.1) in
    let rest : ws ≡ vs = lays-one s (sp + 2) top ws vs a.2 b.2 in
    ap (λ (n : ℕ). n ∷ ws) first ∙ ap (λ (ns : List ℕ). v ∷ ns) rest

-- ---- their order

pub on_top-is : (words under : List ℕ) → on_top words under ≡ reverse words ++ under
unfolding on_top
on_top-is [] under = refl
on_top-is (w ∷ ws) under =
    on_top-is ws (w ∷ under) ∙ sym (append_assoc (reverse ws) (w ∷ []) under) ∙ ap (λ (xs : List ℕ). xs ++ under) (sym (reverse-append (w ∷ []) ws))

pub on_top-push : (words : List ℕ) (word : ℕ) (under : List ℕ) → on_top (words ++ word ∷ []) under ≡ word ∷ on_top words under
unfolding on_top
on_top-push [] word under = refl
on_top-push (w ∷ ws) word under = on_top-push ws word (w ∷ under)

pub on_top-length : (words under : List ℕ) → length (on_top words under) ≡ length words + length under
unfolding on_top
on_top-length [] under = omega arith
on_top-length (w ∷ ws) under = let h = on_top-length ws (w ∷ under) in omega arith

pub on_top-under : (words under more : List ℕ) → on_top words (under ++ more) ≡ on_top words under ++ more
unfolding on_top
on_top-under [] under more = refl
on_top-under (w ∷ ws) under more = on_top-under ws (w ∷ under) more

-- if slots fit words one by one, the last slot fits the last word
pub record Last {A : Type 0} (R : A → ℕ → Type 0) (slots : List A) (slot : A) (words : List ℕ) : Type 0 where
  pub word : ℕ
  pub rest : List ℕ
  pub is : words ≡ rest ++ word ∷ []
  pub within : R slot word
  pub others : AllZip R slots rest

pub last_of : {A : Type 0} (R : A → ℕ → Type 0) (slots : List A) (slot : A) (words : List ℕ) → AllZip R (slots ++ slot ∷ []) words → Last R slots slot words
last_of R [] slot [] h = absurd h
last_of R [] slot (w ∷ []) h = record { word = w; rest = []; is = refl; within = h.0; others = tt }
last_of R [] slot (w ∷ v ∷ ws) h = absurd h.1
last_of R (a ∷ slots) slot [] h = absurd h
last_of R (a ∷ slots) slot (w ∷ ws) h =
    let l = last_of R slots slot ws h.1 in
    record { word = l.word; rest = w ∷ l.rest; is = ap (λ (v : List ℕ). w ∷ v) l.is; within = l.within; others = (h.0, l.others) }
