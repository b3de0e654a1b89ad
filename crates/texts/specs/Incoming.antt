-- The bytes that were read from a source and not used, and the next line.
use Rattle.std.specs.Prelude.{ℕ, ◌+◌, ◌<◌, ◌≤◌, ◌≡◌, ◌≢◌, ◌⊎◌, if◌then◌else◌, Bool, List, [], ◌∷◌, ◌++◌, length, Option, Some, None, IfSome, IsSome, IsTrue}
use Rattle.std.specs.List.{AllByRecursion}
use Rattle.texts.specs.Device.{DeviceState, Gives, GivesBytes, HasFailed, IsAtEnd}
use Rattle.texts.specs.declared.incoming.LineEnd.{LineEnd}
use Rattle.texts.specs.declared.incoming.LineEnd.TheVariants.{Feed, Bad, Nothing}
use Rattle.texts.specs.declared.incoming.LineFault.{LineFault}
use Rattle.texts.specs.declared.incoming.LineFault.TheVariants.{Read, NoMemory}
use Rattle.texts.specs.declared.incoming.NextByte.{NextByte}
use Rattle.texts.specs.declared.incoming.NextByte.TheVariants.{Byte, Ended}

-- the bytes that were read and not used, and whether the end was read
pub record IncomingView : Type 0 where
  pub bytes : List ℕ
  pub ended : Bool

-- what is left: the unused bytes, then what the source has unless its end was read
abbrev pub left_bytes : IncomingView → Option (List ℕ) → Option (List ℕ)
left_bytes unused (Some rest) = Some (unused.bytes ++ (if unused.ended then [] else rest))
left_bytes unused None = None

-- the unused bytes and the source, as one source
abbrev pub unread_of : IncomingView → DeviceState → DeviceState
unread_of unused source = record { bytes = left_bytes unused source.bytes; failures = source.failures }

-- the source has bytes in its contract, and none left if its end was read
pub record EndsWell (unused : IncomingView) (source : DeviceState) : Type 0 where
  pub told : IsSome source.bytes
  pub at_end : IsTrue unused.ended → IsAtEnd source

-- no byte was taken, and none is left
abbrev pub TakesNone : DeviceState → DeviceState → Type 0
TakesNone old new = Gives old [] new × IsAtEnd old

-- the next byte was read already, or the end was
abbrev pub KnowsNext : IncomingView → Type 0
KnowsNext unused = (0 < length unused.bytes) ⊎ IsTrue unused.ended

-- the next byte was taken, or none is left
abbrev pub TakesByte : DeviceState → Option ℕ → DeviceState → Type 0
TakesByte old (Some byte) new = Gives old (byte ∷ []) new
TakesByte old None new = TakesNone old new

-- these bytes have no line feed
abbrev pub HasNoFeed : List ℕ → Type 0
HasNoFeed bytes = AllByRecursion (λ byte. byte ≢ 10) bytes

-- a line of at most `longest` bytes was taken, with its line feed
pub record IsLineTaken (longest : ℕ) (old : DeviceState) (text : List ℕ) (new : DeviceState) : Type 0 where
  pub short : length text ≤ longest
  pub no_feed : HasNoFeed text
  pub given : Gives old (text ++ 10 ∷ []) new

-- one byte more than a line may have was taken, without a line feed
pub record IsTooLong (longest : ℕ) (old new : DeviceState) : Type 0 where
  pub text : List ℕ
  pub long : length text ≡ longest + 1
  pub no_feed : HasNoFeed text
  pub given : Gives old text new

-- a last line without a line feed was taken: all that was left
pub record IsUnended (longest : ℕ) (old new : DeviceState) : Type 0 where
  pub text : List ℕ
  pub some : 0 < length text
  pub short : length text ≤ longest
  pub no_feed : HasNoFeed text
  pub given : Gives old text new
  pub all : IfSome old.bytes (λ bytes. text ≡ bytes)

-- the next line was taken; how it ended
abbrev pub GivesLine : ℕ → DeviceState → List ℕ → LineEnd → DeviceState → Type 0
GivesLine longest old text Feed new = IsLineTaken longest old text new
GivesLine longest old text Bad new = IsTooLong longest old new ⊎ IsUnended longest old new
GivesLine longest old text Nothing new = TakesNone old new

-- a beginning of a line was taken, at least one byte
pub record IsAmid (longest : ℕ) (old new : DeviceState) : Type 0 where
  pub text : List ℕ
  pub some : 0 < length text
  pub short : length text ≤ longest
  pub no_feed : HasNoFeed text
  pub given : Gives old text new

-- A source failed in the middle of a line. What it gave ends with a beginning of the line that does not decide its end.
-- The new state is the source's own, since no unused byte is left.
pub record FailsAmidLine (longest : ℕ) (old new : DeviceState) : Type 0 where
  pub line : List ℕ
  pub short : length line ≤ longest
  pub no_feed : HasNoFeed line
  pub given : GivesBytes old.bytes line new.bytes

-- a line was not read to its end: the source failed, or memory for a byte of the line was refused
abbrev pub StopsFor : ℕ → LineFault → DeviceState → DeviceState → Type 0
StopsFor longest Read old new = HasFailed old new
StopsFor longest NoMemory old new = IsAmid longest old new

-- the next byte of a line with `len` bytes, and what it means for the line
abbrev pub TakesNext : ℕ → ℕ → DeviceState → NextByte → DeviceState → Type 0
TakesNext longest len old (Byte byte) new = (len < longest) × (byte ≢ 10) × Gives old (byte ∷ []) new
TakesNext longest len old (Ended Feed) new = Gives old (10 ∷ []) new
TakesNext longest len old (Ended Bad) new = ((longest ≤ len) × (byte : ℕ) × (byte ≢ 10) × Gives old (byte ∷ []) new) ⊎ ((0 < len) × TakesNone old new)
TakesNext longest len old (Ended Nothing) new = (len ≡ 0) × TakesNone old new

-- the next of these bytes belongs to the line
abbrev pub UsesByte : List ℕ → NextByte → List ℕ → Type 0
UsesByte old (Byte byte) new = old ≡ byte ∷ new
UsesByte old (Ended end) new = Unit {0}

-- these bytes have a line feed
abbrev pub HasFeed : List ℕ → Type 0
HasFeed bytes = (text : List ℕ) × (more : List ℕ) × (bytes ≡ text ++ 10 ∷ more)

-- what was read decides the end of the line: a line feed, one byte more than it may have, or all there is
abbrev pub IsEnough : ℕ → List ℕ → Type 0 → Type 0
IsEnough longest line is_all = HasFeed line ⊎ ((longest + 1 ≤ length line) ⊎ is_all)

-- enough of a line was taken to decide its end
pub record TakesEnough (longest : ℕ) (old new : DeviceState) : Type 0 where
  pub line : List ℕ
  pub given : Gives old line new
  pub enough : IsEnough longest line (IfSome old.bytes (λ bytes. line ≡ bytes))
