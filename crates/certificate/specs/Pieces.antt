-- The answer for a certificate that is read from a source in pieces.
use Rattle.std.specs.Prelude.{ℕ, ◌≡◌, List, IsSome, Option, Some, None, Result, Ok, Err}
use Rattle.cert_form.specs.Contents.{CertificateView}
use Rattle.cert_form.specs.declared.fault.CertFault.{CertFault}
use Rattle.cert_form.specs.declared.fault.CertFault.TheVariants as text_faults
use Rattle.certificate.specs.declared.pieces.ReadFault.{ReadFault}
use Rattle.certificate.specs.declared.pieces.ReadFault.TheVariants as faults
use Rattle.texts.specs.Device.{DeviceState, Gives, IsAtEnd}

-- the fault of a text, as a fault of reading the source
abbrev pub read_fault : CertFault → ReadFault
read_fault (text_faults.Line n) = faults.Line n
read_fault text_faults.Limit = faults.Limit
read_fault text_faults.NoMemory = faults.NoMemory

-- this certificate was read, unless memory was refused or the source failed
abbrev pub IsReadUnless : Result CertificateView ReadFault → CertificateView → Type 0
IsReadUnless (Ok read) c = read ≡ c
IsReadUnless (Err faults.NoMemory) c = Unit {0}
IsReadUnless (Err faults.Read) c = Unit {0}
IsReadUnless (Err _) c = ⊥

-- a source gave these bytes without a failure; if its bytes are known, none is left
pub record GivesAll (old : DeviceState) (bytes : List ℕ) (new : DeviceState) : Type 0 where
  pub given : Gives old bytes new
  pub all : IsSome old.bytes → IsAtEnd new

-- a source gave some bytes without a failure; if its bytes are known, it still has exactly the rest
abbrev pub GivesSome : DeviceState → DeviceState → Type 0
GivesSome old new = (bytes : List ℕ) × Gives old bytes new

-- the property holds of the source's bytes if they are known, else of some bytes
abbrev pub OfBytes : Option (List ℕ) → (List ℕ → Type 0) → Type 0
OfBytes (Some bytes) Holds = Holds bytes
OfBytes None Holds = (bytes : List ℕ) × Holds bytes
