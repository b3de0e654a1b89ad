-- What annotations say about the whole ROM, and what is printed for bad ones (docs/PROGRAM.md).
use Rattle.std.specs.Prelude.{ℕ, ◌≡◌, ◌⊎◌, List, Option, None, Some, codes, IsUtf8}
use Rattle.annotations.specs.Said.{CanBeBad, AnnotationsView, Says}
use Rattle.certificate.specs.Pieces.{OfBytes}
use Rattle.texts.specs.Device.{DeviceState}
use Rattle.toml.specs.Data.{Members}
use Rattle.toml.specs.Parse.{parse_document}
use Rattle.command_verdicts.specs.WriterRefusals.{bad_key_text}

-- the text is a TOML document that says this about the whole ROM
pub record SaysOfWhole (text : List ℕ) (said : AnnotationsView) : Type 0 where
  pub members : Members
  pub parsed : parse_document text ≡ Some members
  pub says : Says members said

-- the text is a TOML document that says something about the whole ROM
abbrev pub IsAnnotations : List ℕ → Type 0
IsAnnotations text = (said : AnnotationsView) × SaysOfWhole text said

-- the text is no TOML document, and this is printed for it
pub record PrintsBadText (text printed : List ℕ) : Type 0 where
  pub none : IsUtf8 text → parse_document text ≡ None
  pub printed_is : printed ≡ codes "bad annotation text\n"

-- a key is bad: one that annotations have, or one of the document; this is printed for it
pub record PrintsBadKey (text printed : List ℕ) : Type 0 where
  pub members : Members
  pub parsed : parse_document text ≡ Some members
  pub key : List ℕ
  pub can : CanBeBad members key
  pub printed_is : printed ≡ bad_key_text key

-- what is printed for bad annotations
abbrev pub PrintsBadAnnotation : List ℕ → List ℕ → Type 0
PrintsBadAnnotation text printed = PrintsBadText text printed ⊎ PrintsBadKey text printed

-- a source had bad annotations, and the line for them was written: the sink took it whole (`Takes`), or it failed
-- inside it (`FailsAmid`)
abbrev pub WritesBadAnnotation : (DeviceState → List ℕ → DeviceState → Type 0) → Option (List ℕ) → DeviceState → DeviceState → Type 0
WritesBadAnnotation Writes text old new = OfBytes text (λ lines. (printed : List ℕ) × Writes old printed new × PrintsBadAnnotation lines printed)
