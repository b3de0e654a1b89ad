-- What is decided for a list of data writes is decided for those of a row.
use Rattle.std.proofs.Common.{◌≡◌, ◌↔◌, Bool, true, List, subst}
use Rattle.std.specs.List.{All}
use Rattle.abs_draft.specs.declared.data_write.DataWrite.{DataWrite}
use Rattle.address_map.specs.AddressMap.{MapView}
use Rattle.cert_form.specs.Contents.{map_of_board}
use Rattle.check_rules.specs.Table.{AllWrites}
use Rattle.check_ways.specs.Ways.{SubjectView, writes_from}

pub of_row : (s : SubjectView) (P : MapView → DataWrite → Type 0) (map : MapView) (writes : List DataWrite) (b : Bool) → map ≡ map_of_board s.cert → writes ≡ writes_from s →
    ((b ≡ true) ↔ All (P map) writes) → ((b ≡ true) ↔ AllWrites s (P (map_of_board s.cert)))
of_row s P map writes b same all decided =
    subst (λ (ws : List DataWrite). (b ≡ true) ↔ All (P (map_of_board s.cert)) ws) all
    (subst (λ (m : MapView). (b ≡ true) ↔ All (P m) writes) same decided)
