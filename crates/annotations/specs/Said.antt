-- What annotations say about the whole ROM and its kept cells, and how a TOML text says it (docs/ANNOTATIONS.md).
use Rattle.std.specs.Prelude.{ℕ, ◌<◌, ◌≤◌, ◌≡◌, ◌⊎◌, pos, Bool, true, false, List, [], ◌∷◌, length, codes, Contains, Option, Some, None, IsSome}
use Rattle.std.specs.String.{string_bytes}
use Rattle.annotations.specs.declared.fault.AnnotationFault.{AnnotationFault}
use Rattle.annotations.specs.declared.fault.AnnotationFault.TheVariants.{Key}
use Rattle.std.specs.List.{AllAdjacentBelow}
use Rattle.std.specs.List.Sorted.{IsPermutation}
use Rattle.abs_state.specs.declared.cell.KeptCell.{KeptCell}
use Rattle.address_map.specs.declared.region.Region.{Region}
use Rattle.cert_lines.specs.Version.{board_name}
use Rattle.cert_lines.specs.declared.version.BoardMap.{BoardMap}
use Rattle.cert_lines.specs.declared.version.BoardMap.TheVariants.{Galaxian}
use Rattle.toml.specs.Data.{Data, Items, Members, as_array, as_bool, get_member, integer, item, no_items, string, table}
use Rattle.toml.specs.Parse.{parse_document}

-- what annotations say about the whole ROM, and the kept cells
pub record AnnotationsView : Type 0 where
  pub region : Region
  pub budget : Option ℕ
  pub board : BoardMap
  pub cells : List KeptCell

-- whether there is an NMI routine; there is none if the key is missing
abbrev pub nmi_said : Option Data → Option Bool
nmi_said None = Some false
nmi_said (Some value) = as_bool value

-- an NMI routine has a budget of at most 50,665 T-states; without a routine there is none
abbrev pub SaysBudget : Members → Option ℕ → Type 0
SaysBudget members (Some budget) =
    (nmi_said (get_member (codes "nmi") members) ≡ Some true) × (get_member (codes "budget") members ≡ Some (integer (pos budget))) × (budget ≤ 50665)
SaysBudget members None = (nmi_said (get_member (codes "nmi") members) ≡ Some false) × (get_member (codes "budget") members ≡ None)

-- the map that is named; without a name it is the Galaxian one
abbrev pub SaysBoard : Members → BoardMap → Type 0
SaysBoard members board =
    (get_member (codes "map") members ≡ Some (string (board_name board))) ⊎ ((board ≡ Galaxian) × (get_member (codes "map") members ≡ None))

-- the array of a key; an empty one if the key is missing
abbrev pub array_said : Option Data → Option Items
array_said None = Some no_items
array_said (Some value) = as_array value

-- a table gives a kept cell: its address, and the least and the greatest byte that it may hold
pub record SaysCell (value : Data) (cell : KeptCell) : Type 0 where
  pub members : Members
  pub is_table : value ≡ table members
  pub at : get_member (codes "at") members ≡ Some (integer (pos cell.at))
  pub lo : get_member (codes "lo") members ≡ Some (integer (pos cell.range.low))
  pub hi : get_member (codes "hi") members ≡ Some (integer (pos cell.range.high))

-- each table of an array gives one of the cells, in this order
abbrev pub SayEach : Items → List KeptCell → Type 0
SayEach no_items [] = Unit {0}
SayEach (item value rest) (cell ∷ cells) = SaysCell value cell × SayEach rest cells
SayEach _ _ = ⊥

-- the tables of the key give these cells, no two at one address; the list is sorted by address
pub record SaysCells (members : Members) (cells : List KeptCell) : Type 0 where
  pub items : Items
  pub written : List KeptCell
  pub array : array_said (get_member (codes "cell") members) ≡ Some items
  pub each : SayEach items written
  pub same : IsPermutation written cells
  pub rising : AllAdjacentBelow (λ a b. a.at < b.at) cells (length cells)

-- a document says this about the whole ROM and has these cells
pub record Says (members : Members) (said : AnnotationsView) : Type 0 where
  pub low : get_member (codes "low") members ≡ Some (integer (pos said.region.low))
  pub top : get_member (codes "top") members ≡ Some (integer (pos said.region.top))
  pub budget : SaysBudget members said.budget
  pub board : SaysBoard members said.board
  pub cells : SaysCells members said.cells

-- the keys of annotations, in the order in which they are judged
abbrev pub known_keys : List (List ℕ)
known_keys = codes "low" ∷ codes "top" ∷ codes "nmi" ∷ codes "budget" ∷ codes "inline" ∷ codes "split" ∷ codes "fact" ∷ codes "loop"
    ∷ codes "cell" ∷ codes "map" ∷ []

-- a key that can be bad: one that annotations have, which may be missing, or one of the document
abbrev pub CanBeBad : Members → List ℕ → Type 0
CanBeBad members key = Contains known_keys key ⊎ IsSome (get_member key members)

-- if a fault names a key, that key can be bad
abbrev pub NamesKeyOf : Members → AnnotationFault → Type 0
NamesKeyOf members (Key key) = CanBeBad members (string_bytes key)
NamesKeyOf _ _ = Unit {0}

-- if a fault names a key, the text is a document and the key can be bad in it
abbrev pub NamesKeyIn : List ℕ → AnnotationFault → Type 0
NamesKeyIn text (Key key) = (members : Members) × (parse_document text ≡ Some members) × CanBeBad members (string_bytes key)
NamesKeyIn text _ = Unit {0}

-- the fault names no key but this one
abbrev pub NamesOnly : List ℕ → AnnotationFault → Type 0
NamesOnly name (Key key) = string_bytes key ≡ name
NamesOnly name _ = Unit {0}
