-- The states in which one row leads to another.
use Rattle.std.specs.Prelude.{ℕ, ◌≡◌, List, Some, slice_get}
use Rattle.abs_state.specs.declared.state.AbsState.{AbsState}
use Rattle.abs_step.specs.declared.next.Next.{Next}
use Rattle.abs_step.specs.declared.next.NextKind.{NextKind}
use Rattle.abs_step.specs.declared.next.NextKind.TheVariants.{Jump, Call, Exit}
use Rattle.cert_lines.specs.declared.row.Row.{Row}
use Rattle.cert_form.specs.Contents.{CertificateView}
use Rattle.check_cover.specs.Program.{callee_at}
use Rattle.check_cover.specs.declared.program.Callee.{Callee}
use Rattle.check_ways.specs.Parts.{OnSomeExit}
use Rattle.check_ways.specs.Pays.{Lands, LeadsToRow}
use Rattle.check_ways.specs.Ways.{IsNumbered, SubjectView, WayView, jump_way, return_way}

-- a way of the subject's row leads to a row, and this state arrives
pub record ArrivesAt (s : SubjectView) (target : Row) (state : AbsState) : Type 0 where
  pub way : WayView
  pub leads : LeadsToRow s way target
  pub state_is : state ≡ way.state

-- a way of one row leads to another, given by their numbers, and this state arrives
pub record ArrivesFrom (rom : List ℕ) (cert : CertificateView) (from to : ℕ) (state : AbsState) : Type 0 where
  pub subject : SubjectView
  pub is_from : IsNumbered rom cert from subject
  pub target : Row
  pub is_to : slice_get cert.rows to ≡ Some target
  pub arrives : ArrivesAt subject target state

-- the way back from this exit of a callee lands at a row in this state
pub record ReturnsIn (s : SubjectView) (target : Row) (next : Next) (callee : Callee) (state exit : AbsState) : Type 0 where
  pub lands : Lands s.cert (return_way s next callee exit) target
  pub state_is : state ≡ (return_way s next callee exit).state

-- a call of this procedure comes back to a row in this state
abbrev pub ArrivesByCall : SubjectView → Row → Next → Callee → AbsState → Type 0
ArrivesByCall s target next callee state = OnSomeExit s callee.number (ReturnsIn s target next callee state)

-- a call of some procedure does
pub record ArrivesByCallee (s : SubjectView) (target : Row) (next : Next) (state : AbsState) : Type 0 where
  pub callee : Callee
  pub called : callee_at s.cert next.address ≡ Some callee
  pub returns : ArrivesByCall s target next callee state

-- a jump leads to a row, and its state arrives
pub record ArrivesByJump (s : SubjectView) (target : Row) (next : Next) (state : AbsState) : Type 0 where
  pub lands : Lands s.cert (jump_way s next) target
  pub state_is : state ≡ (jump_way s next).state

-- a successor of this kind leads to a row, and this state arrives
abbrev pub ArrivesByKind : SubjectView → Row → Next → NextKind → AbsState → Type 0
ArrivesByKind s target next Jump state = ArrivesByJump s target next state
ArrivesByKind s target next Call state = ArrivesByCallee s target next state
ArrivesByKind s target next Exit state = ⊥

abbrev pub ArrivesBy : SubjectView → Row → Next → AbsState → Type 0
ArrivesBy s target next state = ArrivesByKind s target next next.kind state
