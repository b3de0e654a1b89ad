-- Rows whose claims are known however much is known of the state that arrives (docs/CHECKER.md, "How long judging takes").
use Rattle.std.specs.Prelude.{ℕ, ◌≡◌, Option, Some, None, IfSome, slice_get}
use Rattle.std.specs.List.{All}
use Rattle.abs_state.specs.declared.state.AbsState.{AbsState}
use Rattle.cert_lines.specs.declared.row.Row.{Row}
use Rattle.cert_form.specs.Contents.{CertificateView}
use Rattle.check_cover.specs.Arrival.{ArrivalView}
use Rattle.abs_state.specs.Covers.{KeepsState}
use Rattle.check_cover.specs.Covering.{CoversArrival, CoversTightened, KnowsFact, KnowsPart, Suits}
use Rattle.check_cover.specs.Program.{IsRowAt}

-- the parts of covering that say nothing of claims: a row suits the state, keeps its origins, and covers what its facts
-- leave of it
pub record FitsState (row : Row) (state : AbsState) : Type 0 where
  pub suits : Suits row state
  pub kept : KeepsState row.state state
  pub tightened : CoversTightened row state

-- each fact and each flag part of a row is known where a state arrives
pub record HasClaims (a : ArrivalView) (state : AbsState) (row : Row) : Type 0 where
  pub facts : All (KnowsFact a a.refined) row.facts
  pub parts : All (KnowsPart a a.refined state) row.parts

-- each fact and each flag part of a row is known where something arrives, whichever state it is
pub record KnowsClaims (a : ArrivalView) (row : Row) : Type 0 where
  pub facts : All (KnowsFact a a.refined) row.facts
  pub parts : (state : AbsState) → All (KnowsPart a a.refined state) row.parts

-- some row at the address where a state arrives covers it, and its claims are known whichever state arrives there
pub record CoversWhole (cert : CertificateView) (a : ArrivalView) (state : AbsState) : Type 0 where
  pub row : Row
  pub at : IsRowAt cert a.proc a.address row
  pub knows : KnowsClaims a row
  pub covers : CoversArrival a state row

-- the claims of the row with this number, if there is one, are known where something arrives
abbrev pub KnowsClaimsOf : CertificateView → ArrivalView → ℕ → Type 0
KnowsClaimsOf cert a number = IfSome (slice_get cert.rows number) (KnowsClaims a)

-- those of a row that was remembered, if one was
abbrev pub IsRemembered : CertificateView → ArrivalView → Option ℕ → Type 0
IsRemembered cert a known = IfSome known (KnowsClaimsOf cert a)
