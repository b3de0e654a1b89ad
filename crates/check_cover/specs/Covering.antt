-- Which rows cover a state that arrives at their address (docs/CHECKER.md, "Covering").
use Rattle.std.specs.Prelude.{ℕ, ◌≡◌, ◌≤◌, ◌⊎◌, true, List, [], ◌∷◌, length, Option, Some, None, IfSome, Contains, option_and_then, slice_get}
use Rattle.std.specs.List.{All}
use Rattle.abs_state.specs.Covers.{CoversState, KeepsState}
use Rattle.abs_state.specs.Entries.{main_entry, nmi_entry}
use Rattle.abs_state.specs.Mode.{covers_mode}
use Rattle.abs_state.specs.Restricting.{byte_is}
use Rattle.abs_state.specs.Variables.{range_of, cut_to}
use Rattle.abs_state.specs.declared.state.AbsState.{AbsState}
use Rattle.cert_lines.specs.declared.row.Row.{Row}
use Rattle.cert_form.specs.Contents.{CertificateView}
use Rattle.flag_letters.specs.declared.part.FlagPart.{FlagPart}
use Rattle.loop_bounds.specs.Bounds.{Vanishes, Becomes, BecomesNegation}
use Rattle.loop_bounds.specs.Linear.{LinearView}
use Rattle.loop_bounds.specs.Tighten.{tightened}
use Rattle.loop_bounds.specs.declared.effect.Effect.{Effect}
use Rattle.z80_decode.specs.declared.operands.Register8.{Register8}
use Rattle.check_claims.specs.Claims.{IsClaimedFact, IsClaimedPart}
use Rattle.check_cover.specs.Arrival.{ArrivalView, RefinementView, first_arrival, source_of}
use Rattle.check_cover.specs.Program.{IsRowAt, split_at}

-- rewritten by the effect, a fact is one that was known before the step, or the negation of one
pub record ComesFrom (facts : List LinearView) (before : AbsState) (effect : Effect) (fact : LinearView) : Type 0 where
  pub given : LinearView
  pub known : Contains facts given
  pub is : Becomes fact effect (range_of before) given ⊎ BecomesNegation fact effect (range_of before) given

-- a fact is known to hold after a step: rewritten by the effect it is the constant 0, or comes from a fact before
abbrev pub IsKnownFact : List LinearView → AbsState → Effect → LinearView → Type 0
IsKnownFact facts before effect fact = Vanishes fact effect (range_of before) ⊎ ComesFrom facts before effect fact

-- a state tightened by facts, each once and in their order; None if nothing is left
unfoldable pub tightened_by : List LinearView → AbsState → Option AbsState
tightened_by [] state = Some state
tightened_by (fact ∷ facts) state = option_and_then (tightened_by facts) (tightened range_of cut_to fact state)

-- the shapes have one length, the row's mode covers the state's, and the row has no more armed cells
pub record Suits (row : Row) (state : AbsState) : Type 0 where
  pub slots : length row.state.shape ≡ length state.shape
  pub mode : covers_mode row.state.mode state.mode ≡ true
  pub armed : row.state.armed ≤ state.armed

-- the row covers the state tightened by the row's facts, or nothing is left of it
abbrev pub CoversTightened : Row → AbsState → Type 0
CoversTightened row state = IfSome (tightened_by row.facts state) (CoversState row.state)

-- a fact is known where a state arrives: in version 3 by a claim, and before it as above
abbrev pub KnowsFact : ArrivalView → Option RefinementView → LinearView → Type 0
KnowsFact a None fact = IsKnownFact a.facts a.before a.effect fact
KnowsFact a (Some r) fact = IsClaimedFact (source_of a r) fact

-- a flag part is known where a state arrives; none is before version 3
abbrev pub KnowsPart : ArrivalView → Option RefinementView → AbsState → FlagPart → Type 0
KnowsPart a None state part = ⊥
KnowsPart a (Some r) state part = IsClaimedPart (source_of a r) state part

-- a row covers a state that arrives: it suits the state, its origins and its flag fact are the state's, each of its
-- facts and its flag parts is known to hold, and it covers what these facts leave of the state
pub record CoversArrival (a : ArrivalView) (state : AbsState) (row : Row) : Type 0 where
  pub suits : Suits row state
  pub kept : KeepsState row.state state
  pub facts : All (KnowsFact a a.refined) row.facts
  pub parts : All (KnowsPart a a.refined state) row.parts
  pub tightened : CoversTightened row state

-- the row with this number covers the state that arrives
pub record RowCovers (cert : CertificateView) (a : ArrivalView) (state : AbsState) (number : ℕ) : Type 0 where
  pub row : Row
  pub at : slice_get cert.rows number ≡ Some row
  pub covers : CoversArrival a state row

-- some row at the address covers the state that arrives
pub record SomeCovers (cert : CertificateView) (a : ArrivalView) (state : AbsState) : Type 0 where
  pub row : Row
  pub at : IsRowAt cert a.proc a.address row
  pub covers : CoversArrival a state row

-- without a split some row covers the state; with one, some row does for each value of the register, or the state cut
-- to that value is empty
abbrev pub CoveredBy : CertificateView → ArrivalView → AbsState → Option Register8 → Type 0
CoveredBy cert a state None = SomeCovers cert a state
CoveredBy cert a state (Some register) = (value : ℕ) → value ≤ 255 → IfSome (byte_is true register value state) (SomeCovers cert a)

-- a state that arrives is covered
abbrev pub Covered : CertificateView → ArrivalView → AbsState → Type 0
Covered cert a state = CoveredBy cert a state (split_at cert a.proc a.address)

-- the state at the entry of main, 0000, is covered
abbrev pub CoversMain : CertificateView → Type 0
CoversMain cert = Covered cert (first_arrival cert.version 0 0 main_entry) main_entry

-- the state at the entry of the NMI routine, 0066, is covered; it is the second procedure
abbrev pub CoversNmi : CertificateView → Type 0
CoversNmi cert = Covered cert (first_arrival cert.version 1 102 (nmi_entry (length cert.cells))) (nmi_entry (length cert.cells))
