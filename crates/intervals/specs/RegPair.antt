-- The order of the register pairs, and their names.
use Rattle.std.specs.Prelude.{ℕ, List, codes}
use Rattle.intervals.specs.declared.reg_pair.RegPair.{RegPair}
use Rattle.intervals.specs.declared.reg_pair.RegPair.TheVariants.{Af, Bc, De, Hl, Ix, Iy, AlternateAf, AlternateBc, AlternateDe, AlternateHl}

-- the place of a pair in the order AF BC DE HL IX IY AF' BC' DE' HL', from 0
abbrev pub place_of_pair : RegPair → ℕ
place_of_pair Af = 0
place_of_pair Bc = 1
place_of_pair De = 2
place_of_pair Hl = 3
place_of_pair Ix = 4
place_of_pair Iy = 5
place_of_pair AlternateAf = 6
place_of_pair AlternateBc = 7
place_of_pair AlternateDe = 8
place_of_pair AlternateHl = 9

-- the name of a pair (UM0080, "CPU Registers")
abbrev pub name_of : RegPair → List ℕ
name_of Af = codes "AF"
name_of Bc = codes "BC"
name_of De = codes "DE"
name_of Hl = codes "HL"
name_of Ix = codes "IX"
name_of Iy = codes "IY"
name_of AlternateAf = codes "AF'"
name_of AlternateBc = codes "BC'"
name_of AlternateDe = codes "DE'"
name_of AlternateHl = codes "HL'"
