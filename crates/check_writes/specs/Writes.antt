-- What the data writes of a row may do (docs/CHECKER.md, "The table of reasons").
use Rattle.std.specs.Prelude.{ℕ, ◌≤◌, ◌≡◌, true, List, [], ◌∷◌, length}
use Rattle.abs_draft.specs.Ground.{may_enable, armed_after, GroundView}
use Rattle.abs_draft.specs.declared.data_write.DataWrite.{DataWrite}
use Rattle.address_map.specs.AddressMap.{MapView}
use Rattle.address_map.specs.Ranges.{SomeWrite}
use Rattle.address_map.specs.declared.map.WriteClass.{WriteClass}

-- no address of a data write is of the class
abbrev pub MissesClass : MapView → WriteClass → DataWrite → Type 0
MissesClass map class w = SomeWrite map w.at class → ⊥

-- all cells are armed before each write that may enable the NMI
unfoldable pub FindsArmed : GroundView → ℕ → List DataWrite → Type 0
FindsArmed g armed [] = Unit {0}
FindsArmed g armed (w ∷ ws) = (may_enable g.map w ≡ true → length g.cells ≤ armed) × FindsArmed g (armed_after g w armed) ws
