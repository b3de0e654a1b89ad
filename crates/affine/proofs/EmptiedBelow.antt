-- The columns are emptied one after another.
use Rattle.std.proofs.Common.{◌≡◌, ◌≢◌, ℕ, ◌<◌, pos}
use Rattle.affine.specs.declared.space.Space.{Space}
use Rattle.affine.specs.Space.{coefficient_at}

pub record EmptiedBelow (old new : Space) (index rank : ℕ) : Type 0 where
  pub known : new.known ≡ old.known
  pub point : new.point ≡ old.point
  pub count : new.count ≡ old.count
  pub emptied : (r : ℕ) → r < rank → coefficient_at new r index ≡ pos 0
  pub others : (r i : ℕ) → i ≢ index → coefficient_at new r i ≡ coefficient_at old r i
