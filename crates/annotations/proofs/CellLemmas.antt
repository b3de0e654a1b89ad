-- The cells that the tables of an array give, one table after another.
use Rattle.std.proofs.Common.{◌≡◌, ℕ, ◌+◌, ◌<◌, Bool, true, nat_lt, List, [], ◌∷◌, ◌++◌, Bor, length, get_or, take, sym, subst, subst₂}
use Rattle.std.proofs.lemmas.Fn.{always_returns_same}
use Rattle.std.proofs.lemmas.List.{take_more}
use Rattle.std.specs.Fn.{Called, ComputesOnPairs}
use Rattle.std.specs.List.{AllAdjacentBelow, IsAllAdjacentAnswer}
use borrow.Author.Tests.{ltb-true}
use denote.Param.Members.{Mut}
use Rattle.abs_state.specs.declared.cell.KeptCell.{KeptCell}
use Rattle.annotations.specs.Said.{SayEach, SaysCell}
use Rattle.toml.specs.View.{items_view, view}
use Rattle.toml.specs.declared.value.Value.{Value}

-- one more table gives one more cell
say_each-push : (values : List Value) (value : Value) (cells : List KeptCell) (cell : KeptCell) → SayEach (items_view values) cells → SaysCell (view value) cell →
    SayEach (items_view (values ++ value ∷ [])) (cells ++ cell ∷ [])
say_each-push [] value [] cell before here = (here, tt)
say_each-push [] value (c ∷ cells) cell before here = absurd before
say_each-push (v ∷ values) value [] cell before here = absurd before
say_each-push (v ∷ values) value (c ∷ cells) cell before here = (before.0, say_each-push values value cells cell before.1 here)

-- the tables up to this one, and this one
pub say_each-more : (values : List Value) (i : ℕ) (value : Value) (cells : List KeptCell) (cell : KeptCell) → i < length values → value ≡ get_or values i value →
    SayEach (items_view (take i values)) cells → SaysCell (view value) cell → SayEach (items_view (take (i + 1) values)) (cells ++ cell ∷ [])
say_each-more values i value cells cell within is before here =
    subst (λ (list : List Value). SayEach (items_view list) (cells ++ cell ∷ []))
    (sym (take_more values i value within))
    (say_each-push (take i values) (get_or values i value) cells cell before (subst (λ (v : Value). SaysCell (view v) cell) is here))

-- cells in which each was found below the next one
pub rising_from : {F : Type 0} {g : Mut F (Bor KeptCell × (Bor KeptCell × Unit {0})) Bool} {f : F} (list cells : List KeptCell) (answer : Bool) →
    ((e : KeptCell → KeptCell → Bool) → ComputesOnPairs g e f → IsAllAdjacentAnswer (λ x y b. b ≡ e x y) list answer) →
    ((a : Bor KeptCell × (Bor KeptCell × Unit {0})) (r : Bool) (f' : F) → Called g f a r f' → (r ≡ nat_lt a.0.now.at a.1.0.now.at) × (f' ≡ f)) →
    list ≡ cells → answer ≡ true → AllAdjacentBelow (λ a b. a.at < b.at) cells (length cells)
rising_from {g = g} {f = f} list cells answer cases calls same passed =
    let found : IsAllAdjacentAnswer (λ x y b. b ≡ nat_lt x.at y.at) list answer =
    cases (λ x y. nat_lt x.at y.at) (always_returns_same g (λ a r. r ≡ nat_lt a.0.now.at a.1.0.now.at) f calls) in
    let each : IsAllAdjacentAnswer (λ x y b. b ≡ nat_lt x.at y.at) cells true =
    subst₂ (λ (l : List KeptCell) (b : Bool). IsAllAdjacentAnswer (λ x y t. t ≡ nat_lt x.at y.at) l b) same passed found in
    λ k d within. let here = each k d within in ltb-true _ _ (sym here)
