-- Trusted: the addresses of a zone and their class.
use Rattle.std.specs.Prelude.{ℕ, ◌%◌, Bool, ◌&&◌, nat_le, ◌==◌, if◌then◌else◌, List, [], ◌∷◌}
use Rattle.address_map.specs.declared.map.Class.{Class}
use Rattle.address_map.specs.declared.map.ReadClass.TheVariants as reads
use Rattle.address_map.specs.declared.map.WriteClass.{WriteClass}
use Rattle.address_map.specs.declared.map.WriteClass.TheVariants as writes
use Rattle.address_map.specs.declared.zone.WriteUse.{WriteUse}
use Rattle.address_map.specs.declared.zone.WriteUse.TheVariants as uses
use Rattle.address_map.specs.declared.zone.Zone.{Zone}

-- whether an address lies in the zone
abbrev pub in_zone : ℕ → Zone → Bool
in_zone address z = nat_le z.first address && nat_le address z.last

-- the latch with this number, 0 to 7, in a zone with the NMI enable, which is number 1
abbrev pub upper_latch : ℕ → WriteClass
upper_latch number = if number == 1 then writes.NmiEnable else writes.Latch number

-- the class of an address for writing, in a zone with this use
abbrev pub write_class : WriteUse → ℕ → WriteClass
write_class uses.Rom address = writes.Rom
write_class (uses.Ram ram) address = writes.Ram ram
write_class uses.Latch address = writes.Latch (address % 8)
write_class uses.LatchWithEnable address = upper_latch (address % 8)
write_class uses.Pitch address = writes.Pitch
write_class uses.Open address = writes.Unmapped

-- the class of an address of the zone
abbrev pub class_in : Zone → ℕ → Class
class_in z address = record { read = z.read; write = write_class z.write address }

-- an empty, open zone
abbrev pub no_zone : Zone
no_zone = record { first = 1; last = 0; read = reads.Open; write = uses.Open }

-- the first zone that passes a test, or an empty zone
abbrev pub first_zone : (Zone → Bool) → List Zone → Zone
first_zone test [] = no_zone
first_zone test (z ∷ zs) = if test z then z else first_zone test zs
