-- Covering and joins of shapes, by the laws of pairs.
use Rattle.std.proofs.Common.{◌≡◌, ℕ, List, [], ◌∷◌, ◌++◌, length, arith}
use Rattle.std.proofs.lemmas.Slice.Zip.{all_zipped_more}
use Rattle.intervals.specs.Domain.{Entry}
use Rattle.intervals.specs.PairLaws.{covers_itself, covers_along, holds_wider, hull_covers_first, hull_covers_second}
use Rattle.stack_shape.specs.declared.slot.Slot.{Slot}
use Rattle.stack_shape.specs.Slot.{HoldsSlot, CoversSlot}
use Rattle.stack_shape.specs.Shape.{HoldsShape, CoversShape, hull_of_shapes}
use Rattle.stack_shape.proofs.Zipped.{AllZip-itself, AllZip-along, AllZip-last}

-- covering is a preorder that widens
pub shape_covers_itself : (a : List Slot) → CoversShape a a
shape_covers_itself a = AllZip-itself CoversSlot (λ s. covers_itself s.pair) a

pub shape_covers_along : (a b c : List Slot) → CoversShape a b → CoversShape b c → CoversShape a c
shape_covers_along a b c h k =
    AllZip-along CoversSlot CoversSlot CoversSlot (λ s t u. covers_along s.pair t.pair u.pair) a b c h k

pub shape_holds_wider : (a b : List Slot) (entry : Entry) (words : List ℕ) → CoversShape a b → HoldsShape b entry words → HoldsShape a entry words
shape_holds_wider a b entry words h k =
    let Held : Slot → ℕ → Type 0 = λ s w. HoldsSlot s entry w in
    AllZip-along CoversSlot Held Held (λ s t w. holds_wider s.pair t.pair entry w) a b words h k

-- a join covers both
pub hull_covers_first_shape : (a b : List Slot) → length a ≡ length b → CoversShape (hull_of_shapes a b) a
hull_covers_first_shape [] [] e = tt
hull_covers_first_shape [] (t ∷ b) e = absurd (omega arith)
hull_covers_first_shape (s ∷ a) [] e = absurd (omega arith)
hull_covers_first_shape (s ∷ a) (t ∷ b) e =
    (hull_covers_first s.pair t.pair, hull_covers_first_shape a b (omega arith))

pub hull_covers_second_shape : (a b : List Slot) → length a ≡ length b → CoversShape (hull_of_shapes a b) b
hull_covers_second_shape [] [] e = tt
hull_covers_second_shape [] (t ∷ b) e = absurd (omega arith)
hull_covers_second_shape (s ∷ a) [] e = absurd (omega arith)
hull_covers_second_shape (s ∷ a) (t ∷ b) e =
    (hull_covers_second s.pair t.pair, hull_covers_second_shape a b (omega arith))

-- a word more on top, and one less
module _ (below whole : List Slot) (slot : Slot) (entry : Entry) (words : List ℕ) (word : ℕ) where
  pub holds_pushed : whole ≡ below ++ slot ∷ [] → HoldsShape below entry words → HoldsSlot slot entry word → HoldsShape whole entry (words ++ word ∷ [])
  holds_pushed e h k = rw e (all_zipped_more (λ s w. HoldsSlot s entry w) below words slot word h k)

  pub holds_popped : whole ≡ below ++ slot ∷ [] → HoldsShape whole entry (words ++ word ∷ []) → HoldsSlot slot entry word × HoldsShape below entry words
  holds_popped e h =
      let k = AllZip-last (λ s w. HoldsSlot s entry w) below words slot word (rw e at h) in (k.1, k.0)
