use Rattle.std.proofs.Common.{◌≡◌, ◌≢◌, ℕ, zero, suc, ◌<◌, List, [], ◌∷◌, ℤ, pos, slice_index_or, refl, ap, ◌∙◌, rules, arith}
use Rattle.std.specs.Int.{bit_at}
use Rattle.std.proofs.lemmas.List.{get_or-set_same, get_or-set_other}
use Rattle.loop_bounds.specs.Variable.{rank_of}
use Rattle.affine.specs.Space.{coefficient_at}
use Rattle.affine.proofs.Releasing.{released}
use Rattle.affine.proofs.space.Space.release.Goals as goal

abbrev zeros : List ℤ
zeros = pos 0 ∷ pos 0 ∷ pos 0 ∷ pos 0 ∷ pos 0 ∷ pos 0 ∷ pos 0 ∷ pos 0 ∷ []

zeros_at : (i : ℕ) → slice_index_or zeros i (pos 0) ≡ pos 0
zeros_at zero = refl
zeros_at (suc zero) = refl
zeros_at (suc (suc zero)) = refl
zeros_at (suc (suc (suc zero))) = refl
zeros_at (suc (suc (suc (suc zero)))) = refl
zeros_at (suc (suc (suc (suc (suc zero))))) = refl
zeros_at (suc (suc (suc (suc (suc (suc zero)))))) = refl
zeros_at (suc (suc (suc (suc (suc (suc (suc zero))))))) = refl
zeros_at (suc (suc (suc (suc (suc (suc (suc (suc i)))))))) = refl

pub returns-then-rank-lt-TRACKED : goal.returns-then-rank-lt-TRACKED
returns-then-rank-lt-TRACKED c = λ x on.
    let old = c.args.self.now in
    let mid = c.empty.new.self in
    let set = c.set.new.self in
    let index = old.count in
    let rank = c.from-rank.result in
    let is : rank ≡ rank_of c.args.variable.now = search rules in
    let unit : coefficient_at set rank index ≡ pos 1 = c.set.ensures.column index ∙ get_or-set_same zeros index (pos 1) (pos 0) c.if-index-lt-DIRECTIONS.true in
    let others : (i : ℕ) → i < index → coefficient_at set rank i ≡ pos 0 = λ i h. let other : i ≢ index = omega arith in c.set.ensures.column i ∙ get_or-set_other zeros index i (pos 1) (pos 0) other ∙ zeros_at i in
    released old _ c.args.variable.now rank is refl c.set.ensures.value unit others
    (λ r h n. (c.set.ensures.others r h n).known ∙ ap (λ (k : ℕ). bit_at k r) c.empty.ensures.known)
    (λ r h n. (c.set.ensures.others r h n).coordinate ∙ ap (λ (ps : List ℤ). slice_index_or ps r (pos 0)) c.empty.ensures.point)
    (λ r h n i low. let other : i ≢ index = omega arith in (c.set.ensures.others r h n).column i ∙ c.empty.ensures.others r i other)
    (λ r h n. (c.set.ensures.others r h n).column index ∙ c.empty.ensures.emptied r h)
    x on
