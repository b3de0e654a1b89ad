-- How one row leads to another by one of its successors.
use Rattle.std.proofs.Common.{◌≡◌, ◌≤◌, ◌<◌, ℕ, List, Ok, Option, None, Some, IfSome, inl, inr, refl, sym, subst, ap}
use Rattle.std.specs.List.{Contains}
use Rattle.abs_state.specs.declared.state.AbsState.{AbsState}
use Rattle.abs_step.specs.declared.next.Next.{Next}
use Rattle.abs_step.specs.declared.next.NextKind.{NextKind}
use Rattle.abs_step.specs.declared.next.NextKind.TheVariants.{Jump, Call, Exit}
use Rattle.cert_lines.specs.declared.row.Row.{Row}
use Rattle.check_cover.specs.declared.program.Callee.{Callee}
use Rattle.check_ways.specs.Parts.{AtSomeExit, IsOnlyExit, OnSomeExit}
use Rattle.check_ways.specs.Pays.{Lands}
use Rattle.check_ways.specs.Ways.{SubjectView, WayView, jump_way, nexts_from, nexts_in, return_way, step_of}
use Rattle.check_ways.proofs.ExitLemmas.{AreRowsOf, is_exit}
use Rattle.dearest_way.specs.Arrivals.{ArrivesAt, ArrivesBy, ArrivesByKind, ReturnsIn}

-- by a successor of one kind
pub arrives_by : (s : SubjectView) (target : Row) (next : Next) (kind : NextKind) (state : AbsState) → next.kind ≡ kind → ArrivesByKind s target next kind state →
    ArrivesBy s target next state
arrives_by s target next kind state is arrives = subst (λ (k : NextKind). ArrivesByKind s target next k state) (sym is) arrives

arrives_kind : (s : SubjectView) (target : Row) (next : Next) (state : AbsState) → Contains (nexts_from s) next → (kind : NextKind) → next.kind ≡ kind →
    ArrivesByKind s target next kind state → ArrivesAt s target state
arrives_kind s target next state leads Jump is arrives = record {
  way = jump_way s next;
  leads = record {
    is_way = inl record { next = next; leads = leads; kind = is; is = refl };
    lands = arrives.lands;
  };
  state_is = arrives.state_is;
}
arrives_kind s target next state leads Call is arrives = record {
  way = return_way s next arrives.callee arrives.returns.exit;
  leads = record {
    is_way = inr record {
      next = next;
      callee = arrives.callee;
      calls = record { leads = leads; kind = is; called = arrives.called };
      exit = arrives.returns.exit;
      exits = arrives.returns.of;
      is = refl;
    };
    lands = arrives.returns.holds.lands;
  };
  state_is = arrives.returns.holds.state_is;
}
arrives_kind s target next state leads Exit is arrives = absurd arrives

-- by one of the successors
pub arrives_at : (s : SubjectView) (target : Row) (nexts : List Next) (next : Next) (state : AbsState) → step_of s ≡ Ok nexts → Contains nexts next →
    ArrivesBy s target next state → ArrivesAt s target state
arrives_at s target nexts next state step listed arrives =
    arrives_kind s target next state (subst (λ (ns : List Next). Contains ns next) (sym (ap nexts_in step)) listed) next.kind refl arrives

-- ---- what may not be there

pub if_some : {A : Type 0} (P Q : A → Type 0) (o : Option A) → ((a : A) → P a → Q a) → IfSome o P → IfSome o Q
if_some P Q None follows holds = tt
if_some P Q (Some a) follows holds = follows a holds

pub if_some_is : {A : Type 0} (P Q : A → Type 0) (o p : Option A) → p ≡ o → ((a : A) → P a → Q a) → IfSome o P → IfSome p Q
if_some_is P Q o p same follows holds = subst (λ (x : Option _). IfSome x Q) (sym same) (if_some P Q o follows holds)

-- ---- exits

pub back_from : (s : SubjectView) (target : Row) (next : Next) (callee : Callee) (id : ℕ) (exit : AbsState) (way : WayView) (state : AbsState) →
    IsOnlyExit s id (Some exit) → way ≡ return_way s next callee exit → Lands s.cert way target → state ≡ way.state →
    AtSomeExit s id (ReturnsIn s target next callee state)
back_from s target next callee id exit way state only is lands state_is = record {
  exit = exit;
  at = (only.is exit).1 refl;
  holds = record {
    lands = subst (λ (w : WayView). Lands s.cert w target) is lands;
    state_is = subst (λ (w : WayView). state ≡ w.state) is state_is;
  };
}

pub on_some_exit : (s : SubjectView) (proc start end k : ℕ) (P : AbsState → Type 0) → AreRowsOf s.cert proc start end → start ≤ k → k < end →
    AtSomeExit s k P → OnSomeExit s proc P
on_some_exit s proc start end k P rows from below some =
    record { exit = some.exit; of = is_exit s.rom s.cert proc start end k some.exit rows from below some.at; holds = some.holds }
