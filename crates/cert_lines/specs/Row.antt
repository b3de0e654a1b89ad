-- Rows, and the fields of their lines (docs/CERTIFICATE.md, "Rows").
use Rattle.std.specs.Prelude.{ℕ, ◌<◌, ◌≡◌, List, [], ◌∷◌, ◌++◌, length, Option}
use Rattle.std.specs.Fmt.{decimal}
use Rattle.abs_state.specs.declared.mode.Mode.TheVariants.{Unset}
use Rattle.abs_state.specs.declared.pairs.Pairs.{Pairs}
use Rattle.loop_bounds.specs.Linear.{LinearView}
use Rattle.stack_shape.specs.declared.slot.Slot.{Slot}
use Rattle.cert_lines.specs.declared.row.RowPlace.{RowPlace}
use Rattle.cert_lines.specs.declared.row.Row.{Row}
use Rattle.cert_lines.specs.declared.version.Version.{Version}
use Rattle.cert_lines.specs.declared.version.Version.TheVariants.{One, Two, Three}
use Rattle.cert_lines.specs.Version.{flag_form}
use Rattle.cert_flags.specs.Flags.{AreFlags, flags_text, flags_with}
use Rattle.cert_flags.specs.Parts.{AreFewParts}
use Rattle.cert_flags.specs.declared.flags.RowFlags.{RowFlags}
use Rattle.cert_fields.specs.Facts.{AreFacts, AreFewFacts, facts_text}
use Rattle.cert_fields.specs.Linear.{IsPotential, IsShortPotential, potential_text}
use Rattle.cert_fields.specs.Names.{mode_letter}
use Rattle.cert_fields.specs.Pair.{IsPair, pair_text}
use Rattle.cert_fields.specs.Shape.{IsShape, IsShortShape, shape_text}
use Rattle.texts.specs.Numbers.{IsWord, hex4}

-- the ten pairs in their order
abbrev pub pair_fields : Pairs → List (List ℕ)
pair_fields p =
    pair_text p.af ∷ pair_text p.bc ∷ pair_text p.de ∷ pair_text p.hl ∷ pair_text p.ix ∷ pair_text p.iy ∷
    pair_text p.alternate_af ∷ pair_text p.alternate_bc ∷ pair_text p.alternate_de ∷ pair_text p.alternate_hl ∷ []

-- the number of armed cells, which version 1 does not have
abbrev pub armed_field : Version → ℕ → List (List ℕ)
armed_field One armed = []
armed_field Two armed = decimal armed ∷ []
armed_field Three armed = decimal armed ∷ []

-- the fields of a row's place, mode and armed cells
abbrev pub place_fields : Version → RowPlace → List (List ℕ)
place_fields version place = decimal place.proc ∷ hex4 place.address ∷ mode_letter place.mode ∷ armed_field version place.armed

-- a row's place, mode and armed cells
abbrev pub place_of : Row → RowPlace
place_of row = record { proc = row.proc; address = row.address; mode = row.state.mode; armed = row.state.armed }

-- what a row says of the flags
abbrev pub row_flags : Row → RowFlags
row_flags row = flags_with row.state.flag row.parts

-- the values of a row's last fields: what it says of the flags, the facts, the shape and the potential
pub record Last : Type 0 where
  pub flags : RowFlags
  pub facts : List LinearView
  pub shape : List Slot
  pub potential : Option LinearView

abbrev pub last_of : Row → Last
last_of row = record { flags = row_flags row; facts = row.facts; shape = row.state.shape; potential = row.potential }

abbrev pub last_texts : Version → Last → List (List ℕ)
last_texts version last =
    flags_text (flag_form version) last.flags ∷ facts_text last.facts ∷ shape_text last.shape ∷ potential_text last.potential ∷ []

abbrev pub last_fields : Version → Row → List (List ℕ)
last_fields version row = last_texts version (last_of row)

-- the fields after `row`
unfoldable pub fields_of_row : Version → Row → List (List ℕ)
fields_of_row version row = place_fields version (place_of row) ++ (pair_fields row.state.pairs ++ last_fields version row)

pub record ArePairs (p : Pairs) : Type 0 where
  pub af : IsPair p.af
  pub bc : IsPair p.bc
  pub de : IsPair p.de
  pub hl : IsPair p.hl
  pub ix : IsPair p.ix
  pub iy : IsPair p.iy
  pub alternate_af : IsPair p.alternate_af
  pub alternate_bc : IsPair p.alternate_bc
  pub alternate_de : IsPair p.alternate_de
  pub alternate_hl : IsPair p.alternate_hl

-- version 1 arms no cell
abbrev pub IsArmed : Version → ℕ → Type 0
IsArmed One armed = armed ≡ 0
IsArmed Two armed = IsWord armed
IsArmed Three armed = IsWord armed

-- the numbers of a row's place are in form
pub record IsPlace (version : Version) (place : RowPlace) : Type 0 where
  pub proc : IsWord place.proc
  pub address : IsWord place.address
  pub armed : IsArmed version place.armed

-- a row in form, except that it may have too many slots, flag parts, facts or terms: no flag part, fact or potential
-- names a slot beyond the shape, and in mode `u` the shape is empty. It says of the flags what its version has. It has
-- fewer slots than a line may have bytes.
pub record IsRow (version : Version) (row : Row) : Type 0 where
  pub place : IsPlace version (place_of row)
  pub pairs : ArePairs row.state.pairs
  pub flags : AreFlags (flag_form version) (length row.state.shape) (row_flags row)
  pub facts : AreFacts (length row.state.shape) row.facts
  pub shape : IsShape row.state.shape
  pub slots : length row.state.shape < 1048576
  pub unset : row.state.mode ≡ Unset → row.state.shape ≡ []
  pub potential : IsPotential (length row.state.shape) row.potential

-- a row's slots, flag parts, facts and terms are within their limits
pub record IsShortRow (row : Row) : Type 0 where
  pub shape : IsShortShape row.state.shape
  pub parts : AreFewParts row.parts
  pub facts : AreFewFacts row.facts
  pub potential : IsShortPotential row.potential
