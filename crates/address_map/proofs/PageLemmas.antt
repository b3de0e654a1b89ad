-- The page table: if its zone contains the address, no zone before it does.
use Rattle.std.proofs.Common.{◌≡◌, ◌<◌, ◌/◌, ℕ, get_or, true, false, inl, inr, List, [], ◌∷◌, refl, arith}
use Rattle.std.proofs.lemmas.Bool.{cases_Bool}
use Rattle.std.proofs.lemmas.Bool.Decides.{nat_tests}
use Rattle.address_map.specs.Pages.{ArePages}
use Rattle.address_map.specs.Zone.{in_zone, first_zone, no_zone}
use Rattle.address_map.specs.ZoneUse.{reaches}
use Rattle.address_map.specs.declared.zone.Zone.{Zone}

not_reached : (z : Zone) (a : ℕ) → reaches (a / 0x100) z ≡ false → in_zone a z ≡ false
not_reached z a h = grind (arith, nat_tests)

-- if the first zone that may contain an address does contain it, it is the first that does
pub first_of_page : (zs : List Zone) (a : ℕ) → in_zone a (first_zone (reaches (a / 0x100)) zs) ≡ true → first_zone (in_zone a) zs ≡ first_zone (reaches (a / 0x100)) zs
first_of_page [] a h = refl
first_of_page (z ∷ zs) a h = elim (cases_Bool (reaches (a / 0x100) z)) [
  | inl t ↦ let h' : in_zone a z ≡ true = rw t at h in rw t (rw h' refl)
  | inr f ↦ let h' : in_zone a (first_zone (reaches (a / 0x100)) zs) ≡ true = rw f at h in let out = not_reached z a f in rw f (rw out (first_of_page zs a h'))
]

pub table_says : (zs : List Zone) (pages : List Zone) (page : ℕ) → ArePages zs pages → page < 0x100 → get_or pages page no_zone ≡ first_zone (reaches page) zs
table_says zs pages page t lt = t.first page lt
