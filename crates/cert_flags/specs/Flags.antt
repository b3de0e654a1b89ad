-- What a row says of the flags, and the text of its FLAG field (docs/CERTIFICATE.md, "Rows").
use Rattle.std.specs.Prelude.{ℕ, ◌≡◌, List, [], Option, None}
use Rattle.abs_state.specs.declared.fact.FlagFact.{FlagFact}
use Rattle.cert_fields.specs.Flag.{IsFlag, flag_text}
use Rattle.flag_letters.specs.declared.part.FlagPart.{FlagPart}
use Rattle.cert_flags.specs.Parts.{AreFewParts, AreFlagParts, parts_text}
use Rattle.cert_flags.specs.declared.form.FlagForm.{FlagForm}
use Rattle.cert_flags.specs.declared.form.FlagForm.TheVariants.{Fact, Parts}
use Rattle.cert_flags.specs.declared.flags.RowFlags.{RowFlags}

-- the text of what a row says of the flags
abbrev pub flags_text : FlagForm → RowFlags → List ℕ
flags_text Fact flags = flag_text flags.fact
flags_text Parts flags = parts_text flags.parts

-- a row with this many slots may say this: it has no flag parts where its form is a flag fact, and no flag fact where
-- its form is flag parts
abbrev pub AreFlags : FlagForm → ℕ → RowFlags → Type 0
AreFlags Fact slots flags = IsFlag flags.fact × (flags.parts ≡ [])
AreFlags Parts slots flags = (flags.fact ≡ None) × AreFlagParts slots flags.parts

-- its flag parts are within their limits
abbrev pub AreFewFlags : RowFlags → Type 0
AreFewFlags flags = AreFewParts flags.parts

-- a flag fact and flag parts together
abbrev pub flags_with : Option FlagFact → List FlagPart → RowFlags
flags_with fact parts = record { fact = fact; parts = parts }
