-- Names with their values: what contracts see of symbols. A name is the list of its bytes.
use Rattle.std.specs.Prelude.{ℕ, ◌+◌, ◌<◌, ◌≤◌, ◌⊎◌, List, Bool, ◌||◌, Option, ◌==◌, codes, filter, find, nat_eq, not}
use Rattle.std.specs.List.{starts_with}
use Rattle.std.specs.Map.{keys_of, lookup}
use Rattle.std.specs.Str.{bytes_eq}

-- the value of a name
abbrev pub value_of_name : List (List ℕ × ℕ) → List ℕ → Option ℕ
value_of_name symbols name = lookup (bytes_eq name) symbols

-- the names that have a value, in their order
abbrev pub names_of : List (List ℕ × ℕ) → ℕ → List (List ℕ)
names_of symbols value = keys_of (filter (λ symbol. symbol.1 == value) symbols)

-- whether a name is shown at its address: those of sections and lengths are not
abbrev pub is_shown_name : List ℕ → Bool
is_shown_name name =
    not (starts_with nat_eq name (codes ".") || starts_with nat_eq name (codes "l__") || starts_with nat_eq name (codes "s__") || starts_with nat_eq name (codes "_sizeof_"))

-- the name that is shown for a value
abbrev pub shown_name : List (List ℕ × ℕ) → ℕ → Option (List ℕ)
shown_name symbols value = find is_shown_name (names_of symbols value)

-- a name at a place may label an address: it is not above the address, at most 255 bytes below it, and on the same side of
-- 4000, the first address above the ROM's zone
abbrev pub MayLabel : ℕ → ℕ → Type 0
MayLabel place address = (place ≤ address) × (address ≤ place + 255) × ((address < 16384) ⊎ (16384 ≤ place))
