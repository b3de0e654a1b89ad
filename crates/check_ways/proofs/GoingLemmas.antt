-- A row goes on exactly where it goes on by each of its successors.
use Rattle.std.proofs.Common.{◌≡◌, ◌↔◌, List, get_or, Option, Some, None, Result, Ok, Err, inl, inr, refl, sym, subst, ap}
use Rattle.std.specs.List.{All, Contains}
use Rattle.std.proofs.lemmas.List.Elements.{All-contains, Contains-get_or}
use Rattle.abs_step.specs.declared.next.Next.{Next}
use Rattle.abs_step.specs.declared.next.NextKind.{NextKind}
use Rattle.abs_step.specs.declared.next.NextKind.TheVariants.{Jump, Call, Exit}
use Rattle.abs_step.specs.declared.reason.Reason.{Reason}
use Rattle.abs_step.specs.declared.reason.Reason.TheVariants.{NotCovered}
use Rattle.check_cover.specs.Program.{callee_at}
use Rattle.check_cover.specs.declared.program.Callee.{Callee}
use Rattle.check_ways.specs.Parts.{CallGoesOn, IsCoveredWay, KindGoesOn, NextGoesOn}
use Rattle.check_ways.specs.Ways.{SubjectView, EntersCallee, GoesOn, IsJump, IsReturn, IsWay, WayView, jump_way, nexts_from, nexts_in, return_way, step_of}

-- ---- from each successor

-- a jump is covered
jump_covered : (s : SubjectView) (nexts : List Next) → nexts_from s ≡ nexts → All (NextGoesOn s.cert s) nexts → (way : WayView) → IsJump s way → IsCoveredWay s.cert way
jump_covered s nexts same all way is =
    let listed = subst (λ (ns : List Next). Contains ns is.next) same is.leads in
    let goes = All-contains (NextGoesOn s.cert s) nexts is.next all listed in
    subst (λ (w : WayView). IsCoveredWay s.cert w) (sym is.is) (subst (λ (k : NextKind). KindGoesOn s.cert s is.next k) is.kind goes)

-- a call goes on, by what it calls
call_goes : (s : SubjectView) (nexts : List Next) → nexts_from s ≡ nexts → All (NextGoesOn s.cert s) nexts → (next : Next) → Contains (nexts_from s) next →
    next.kind ≡ Call → CallGoesOn s.cert s next (callee_at s.cert next.address)
call_goes s nexts same all next leads kind =
    let listed = subst (λ (ns : List Next). Contains ns next) same leads in
    subst (λ (k : NextKind). KindGoesOn s.cert s next k) kind (All-contains (NextGoesOn s.cert s) nexts next all listed)

-- a way back from a call is covered
return_covered : (s : SubjectView) (nexts : List Next) → nexts_from s ≡ nexts → All (NextGoesOn s.cert s) nexts → (way : WayView) → IsReturn s way →
    IsCoveredWay s.cert way
return_covered s nexts same all way is =
    let calls = is.calls in
    let goes = subst (λ (o : Option Callee). CallGoesOn s.cert s is.next o) calls.called (call_goes s nexts same all is.next calls.leads calls.kind) in
    subst (λ (w : WayView). IsCoveredWay s.cert w) (sym is.is) (goes.1.each is.exit is.exits)

way_covered : (s : SubjectView) (nexts : List Next) → nexts_from s ≡ nexts → All (NextGoesOn s.cert s) nexts → (way : WayView) → IsWay s way → IsCoveredWay s.cert way
way_covered s nexts same all way (inl is) = jump_covered s nexts same all way is
way_covered s nexts same all way (inr is) = return_covered s nexts same all way is

-- a call that goes on enters its callee
enters : (s : SubjectView) (next : Next) (called : Option Callee) → CallGoesOn s.cert s next called → EntersCallee s next called
enters s next None goes = goes
enters s next (Some callee) goes = goes.0

not_computed : (answer : Result (List Next) Reason) (nexts : List Next) → answer ≡ Ok nexts → answer ≡ Err NotCovered → ⊥
not_computed answer nexts is other = cc

-- ---- to each successor

-- where a row goes on, a call of it does
call_of : (s : SubjectView) (next : Next) → GoesOn s → Contains (nexts_from s) next → next.kind ≡ Call → (called : Option Callee) →
    callee_at s.cert next.address ≡ called → CallGoesOn s.cert s next called
call_of s next goes leads kind None none = subst (λ (o : Option Callee). EntersCallee s next o) none (goes.entries next leads kind)
call_of s next goes leads kind (Some callee) is = (
  subst (λ (o : Option Callee). EntersCallee s next o) is (goes.entries next leads kind),
  record {
    each = λ exit exits.
        goes.ways (return_way s next callee exit)
        (inr record {
          next = next;
          callee = callee;
          calls = record { leads = leads; kind = kind; called = is };
          exit = exit;
          exits = exits;
          is = refl;
        });
  },
)

-- a row that goes on does so by a successor of each kind
kind_of : (s : SubjectView) (next : Next) → GoesOn s → Contains (nexts_from s) next → (kind : NextKind) → next.kind ≡ kind → KindGoesOn s.cert s next kind
kind_of s next goes leads Jump is = goes.ways (jump_way s next) (inl record { next = next; leads = leads; kind = is; is = refl })
kind_of s next goes leads Call is = call_of s next goes leads is (callee_at s.cert next.address) refl
kind_of s next goes leads Exit is = tt

-- ---- both

pub all_go_on : (s : SubjectView) (nexts : List Next) → step_of s ≡ Ok nexts → All (NextGoesOn s.cert s) nexts ↔ GoesOn s
all_go_on s nexts step =
    let same : nexts_from s ≡ nexts = ap nexts_in step in (
      (λ all. record {
        jumps = not_computed (step_of s) nexts step;
        ways = way_covered s nexts same all;
        entries = λ next leads kind. enters s next (callee_at s.cert next.address) (call_goes s nexts same all next leads kind);
      }),
      (λ goes k d within.
          let next = get_or nexts k d in
          let leads = subst (λ (ns : List Next). Contains ns next) (sym same) (Contains-get_or nexts k d within) in
          kind_of s next goes leads next.kind refl),
    )
