use Rattle.std.proofs.Common.{◌≡◌, ℕ, false, zero, suc, refl}
use Rattle.std.proofs.Math.ListN.{get_or, replicate}
use Rattle.address_map.proofs.starts.Starts.new.Goals as goal

none_of : (n i : ℕ) → get_or (replicate n false) i false ≡ false
none_of zero i = refl
none_of (suc n) zero = refl
none_of (suc n) (suc i) = none_of n i

pub returns : goal.returns
returns c address = none_of 0x4000 address
