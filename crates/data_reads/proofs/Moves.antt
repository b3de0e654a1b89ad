-- The moves of a list do the same where both outsides find the same bytes.
use Rattle.std.proofs.Common.{◌≡◌, ℕ, Bool, true, false, cond, List, [], ◌∷◌, refl, ap, ◌∙◌}
use Rattle.z80_alu.specs.Word.{word_of, high_of, low_of}
use Rattle.z80_draft.specs.Draft.{DraftView, above, draft_word, drafted, goes_on, moved, stack_read, stack_written, test_holds, with_byte, with_word, word_read}
use Rattle.z80_draft.specs.Outside.{Outside}
use Rattle.z80_moves.specs.declared.registers.WordRegister.TheVariants as words
use Rattle.z80_moves.specs.declared.moves.Move.{Move}
use Rattle.z80_moves.specs.declared.moves.Move.TheVariants.{ReadByte, ReadWord, Pop, ExchangeStack, OnlyIf}

module _ (o : Outside) (find : Bool → ℕ → ℕ) where
  -- the second outside: only its reads differ
  abbrev pub other : Outside
  other = record o { read = find }

  -- a read of the address finds the same byte
  abbrev pub SameAt : ℕ → Type 0
  SameAt at = (is_later : Bool) → o.read is_later at ≡ find is_later at

  -- so do reads of the address and the next
  abbrev pub SameWordAt : ℕ → Type 0
  SameWordAt at = SameAt at × SameAt (above at 1)

  -- each read of the moves finds the same bytes
  abbrev pub AreSame : List Move → DraftView → Type 0
  AreSame [] e = Unit {0}
  AreSame (ReadByte r at ∷ ms) e = SameAt (draft_word at e) × AreSame ms (moved o (ReadByte r at) e)
  AreSame (ReadWord w at ∷ ms) e = SameWordAt (draft_word at e) × AreSame ms (moved o (ReadWord w at) e)
  AreSame (Pop w ∷ ms) e = SameWordAt e.regs.sp × AreSame ms (moved o (Pop w) e)
  AreSame (ExchangeStack w ∷ ms) e = SameWordAt e.regs.sp × AreSame ms (moved o (ExchangeStack w) e)
  AreSame (OnlyIf test ∷ ms) e = test_holds test e ≡ true → AreSame ms (moved o (OnlyIf test) e)
  AreSame (m ∷ ms) e = AreSame ms (moved o m e)

  same_word : (is_later : Bool) (at : ℕ) → SameWordAt at → word_read o is_later at ≡ word_read other is_later at
  same_word is_later at h =
      ap (λ (n : ℕ). word_of n (o.read is_later at)) (h.1 true) ∙ ap (λ (n : ℕ). word_of (find true (above at 1)) n) (h.0 is_later)

  move_same : (m : Move) (ms : List Move) (e : DraftView) → AreSame (m ∷ ms) e → moved o m e ≡ moved other m e
  unfolding moved
  move_same (ReadByte r at) ms e h = ap (λ (n : ℕ). record (with_byte r n e) { has_read = true }) (h.0 e.has_read)
  move_same (ReadWord w at) ms e h =
      ap (λ (n : ℕ). record (with_word w n e) { has_read = true }) (same_word e.has_read (draft_word at e) h.0)
  move_same (Pop w) ms e h =
      ap (λ (n : ℕ). record (with_word w n (with_word words.Sp (above e.regs.sp 2) (stack_read (above e.regs.sp 1) (stack_read e.regs.sp e)))) { has_read = true })
      (same_word e.has_read e.regs.sp h.0)
  move_same (ExchangeStack w) ms e h =
      ap (λ (n : ℕ). record (with_word w n (stack_written (above e.regs.sp 1) (high_of (draft_word w e)) (stack_written e.regs.sp (low_of (draft_word w e)) e))) { has_read = true })
      (same_word e.has_read e.regs.sp h.0)
  move_same _ ms e h = refl

  rest_same : (m : Move) (ms : List Move) (e : DraftView) → AreSame (m ∷ ms) e → goes_on m (moved o m e) ≡ true → AreSame ms (moved o m e)
  unfolding moved
  rest_same (ReadByte r at) ms e h g = h.1
  rest_same (ReadWord w at) ms e h g = h.1
  rest_same (Pop w) ms e h g = h.1
  rest_same (ExchangeStack w) ms e h g = h.1
  rest_same (OnlyIf test) ms e h g = h g
  rest_same _ ms e h g = h

  all_same : (ms : List Move) (e : DraftView) → AreSame ms e → drafted o ms e ≡ drafted other ms e
  unfolding drafted
  all_same [] e h = refl
  all_same (m ∷ ms) e h =
      let new : DraftView = moved o m e in
      let at : (b : Bool) → goes_on m new ≡ b → cond b (drafted o ms new) new ≡ cond b (drafted other ms new) new =
      elim [ true ↦ λ g. all_same ms new (rest_same m ms e h g) | false ↦ λ g. refl ] in
      at (goes_on m new) refl
      ∙ ap (λ (x : DraftView). cond (goes_on m x) (drafted other ms x) x) (move_same m ms e h)

-- two outsides with the same noise and the same r
pub lists_same : (o p : Outside) (ms : List Move) (e : DraftView) → o.noise ≡ p.noise → o.r ≡ p.r → AreSame o p.read ms e → drafted o ms e ≡ drafted p ms e
lists_same o p ms e noise r h =
    all_same o p.read ms e h
    ∙ ap (λ (n : ℕ). drafted (record { read = p.read; noise = n; r = o.r }) ms e) noise
    ∙ ap (λ (n : ℕ). drafted (record { read = p.read; noise = p.noise; r = n }) ms e) r
