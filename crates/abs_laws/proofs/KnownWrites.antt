-- What is known of data writes is true of each of them.
use Rattle.std.proofs.Common.{◌≢◌, List, [], ◌∷◌}
use Rattle.std.specs.List.{All, AllZip}
use Rattle.std.proofs.lemmas.List.Elements.{All-cons, All-head, All-nil, All-tail}
use Rattle.address_map.specs.AddressMap.{MapView}
use Rattle.address_map.specs.Class.{class_of}
use Rattle.address_map.specs.Ranges.{FoldsInto}
use Rattle.address_map.specs.declared.map.WriteClass.TheVariants as writes
use Rattle.address_map.specs.declared.region.Region.{Region}
use Rattle.board_laws.specs.Region.{AllTaken, Misses}
use Rattle.z80_draft.specs.declared.access.Write.{Write}
use Rattle.abs_draft.specs.declared.data_write.DataWrite.{DataWrite}
use Rattle.abs_laws.specs.Fits.{WriteLiesIn}
use Rattle.abs_laws.specs.Writes.{MissesRegion, TakesData}

-- a property of each known data write gives a property of each write
pub each_known : (P : DataWrite → Type 0) (Q : Write → Type 0) → ((w : DataWrite) (v : Write) → WriteLiesIn w v → P w → Q v)
    → (ws : List DataWrite) (vs : List Write) → All P ws → AllZip WriteLiesIn ws vs → All Q vs
each_known P Q tells [] [] all zip = All-nil Q
each_known P Q tells [] (v ∷ vs) all zip = absurd zip
each_known P Q tells (w ∷ ws) [] all zip = absurd zip
each_known P Q tells (w ∷ ws) (v ∷ vs) all zip =
    All-cons Q v vs (tells w v zip.0 (All-head P w ws all)) (each_known P Q tells ws vs (All-tail P w ws all) zip.1)

pub known_miss : (map : MapView) (region : Region) (ws : List DataWrite) (vs : List Write) → All (MissesRegion map region) ws → AllZip WriteLiesIn ws vs → Misses map region vs
known_miss map region ws vs all zip =
    each_known (MissesRegion map region) (λ (v : Write). FoldsInto map region v.at → ⊥) (λ w v lies misses. misses v.at lies.0) ws vs all zip

pub known_taken : (map : MapView) (ws : List DataWrite) (vs : List Write) → All (TakesData map) ws → AllZip WriteLiesIn ws vs → AllTaken map vs
known_taken map ws vs all zip =
    each_known (TakesData map) (λ (v : Write). ((class_of map v.at).write ≢ writes.Rom) × ((class_of map v.at).write ≢ writes.Unmapped))
    (λ w v lies takes. takes v.at lies.0) ws vs all zip
