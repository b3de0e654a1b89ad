-- A row pays exactly where it pays for each of its successors, has a potential, and keeps its time at the entry.
use Rattle.std.proofs.Common.{◌≡◌, ◌<◌, ◌≤◌, ◌+◌, ◌↔◌, ◌⊎◌, ℕ, Bool, true, false, IsTrue, IsSome, List, length, get_or, slice_get, Option, Some, None, Ok, inl, inr, refl, sym, subst, ap, ◌∙◌, arith}
use Rattle.std.specs.List.{All, Contains}
use Rattle.std.proofs.lemmas.Bool.{cases_lt, false≢true}
use Rattle.std.proofs.lemmas.List.Elements.{All-contains, Contains-get_or}
use Rattle.std.proofs.lemmas.Option.{get_or_from_slice_get, same_Some, slice_get_read, slice_get_within}
use Rattle.abs_state.specs.Covers.{OverlapsState}
use Rattle.abs_step.specs.declared.next.Next.{Next}
use Rattle.abs_step.specs.declared.next.NextKind.{NextKind}
use Rattle.abs_step.specs.declared.next.NextKind.TheVariants.{Jump, Call, Exit}
use Rattle.check_cover.proofs.CoveringLemmas.{AreRowsAt}
use Rattle.check_cover.specs.Program.{IsRowAt, callee_at}
use Rattle.check_cover.specs.declared.program.Callee.{Callee}
use Rattle.cert_lines.specs.declared.row.Row.{Row}
use Rattle.check_ways.specs.Parts.{AnyExit, CallPays, KindPays, NextPays, OnSomeExit, PaysToRow, PaysWay}
use Rattle.check_ways.specs.Pays.{IsAsked, IsLone, IsWithinTime, Pays, PaysCall, PaysOut, PaysTo}
use Rattle.check_ways.specs.Ways.{SubjectView, CallsCallee, IsJump, IsWay, WayView, call_cost, jump_way, nexts_from, nexts_in, return_way, step_of}

-- ---- the rows where a way arrives

-- the number of a row where a way arrives
at_number : (s : SubjectView) (way : WayView) (start end k : ℕ) (row : Row) → AreRowsAt s.cert way.arrival start end → start ≤ k → k < end →
    slice_get s.cert.rows k ≡ Some row → IsRowAt s.cert way.arrival.proc way.arrival.address row
at_number s way start end k row rows from below at =
    let place = (rows k row at).0 (from, below) in
    record { listed = (k, slice_get_within s.cert.rows k row at, get_or_from_slice_get s.cert.rows k row row at); of = place.0; at = place.1 }

-- if a way to one of the rows is not paid, the way is not
pub pays_not : (s : SubjectView) (way : WayView) (start end k : ℕ) (answer : Bool) → AreRowsAt s.cert way.arrival start end → start ≤ k → k < end →
    answer ≡ false → (IsTrue answer ↔ PaysToRow s way k) → IsTrue false ↔ PaysWay s way
pays_not s way start end k answer rows from below refused exact = (
  (λ told. absurd (false≢true told)),
  (λ pays.
      sym refused
      ∙ exact.1 record {
        asked = λ row at asked. pays.each row record { at = at_number s way start end k row rows from below at; asked = asked };
      }),
)

-- if a way to each of the rows where it arrives is paid, the way is
pub pays_each : (s : SubjectView) (way : WayView) (start end : ℕ) → AreRowsAt s.cert way.arrival start end →
    ((k : ℕ) → start ≤ k → k < end → PaysToRow s way k) → IsTrue true ↔ PaysWay s way
pays_each s way start end rows each = (
  (λ told. record {
    each = λ row lands.
        let (k, within, is) = lands.at.listed in
        let at : slice_get s.cert.rows k ≡ Some row = slice_get_read s.cert.rows (length s.cert.rows) k row refl within (sym is) in
        let number = (rows k row at).1 (lands.at.of, lands.at.at) in
        (each k number.0 number.1).asked row at lands.asked;
  }),
  (λ pays. refl),
)

-- one more row to which the way is paid
pub pays_more : (s : SubjectView) (way : WayView) (start k : ℕ) (answer : Bool) → answer ≡ true → (IsTrue answer ↔ PaysToRow s way k) →
    ((n : ℕ) → start ≤ n → n < k → PaysToRow s way n) → (n : ℕ) → start ≤ n → n < k + 1 → PaysToRow s way n
pays_more s way start k answer found exact each n from below =
    elim (cases_lt n k) [
      | inl before ↦ each n from before
      | inr behind ↦
          let same : k ≡ n = omega (arith, below, behind) in
          subst (λ (m : ℕ). PaysToRow s way m) same (exact.0 found)
    ]

-- a row that is asked is paid exactly where the potentials say so
pub row_paid : (s : SubjectView) (way : WayView) (k : ℕ) (row : Row) (lone answer : Bool) → slice_get s.cert.rows k ≡ Some row → (IsTrue lone ↔ IsLone s.cert way.arrival.proc way.arrival.address) →
    IsTrue lone ⊎ OverlapsState row.state way.state → (IsTrue answer ↔ PaysTo s.row way.cost way.arrival row) → IsTrue answer ↔ PaysToRow s way k
row_paid s way k row lone answer at alone asks exact = (
  (λ told. record {
    asked = λ other at_other asked.
        subst (λ (r : Row). PaysTo s.row way.cost way.arrival r) (same_Some row other (sym at ∙ at_other)) (exact.0 told);
  }),
  (λ pays. exact.1 (pays.asked row at (asked_by asks))),
)
  where
    asked_by : IsTrue lone ⊎ OverlapsState row.state way.state → IsAsked s.cert way row
    asked_by (inl one) = inl (alone.0 one)
    asked_by (inr overlaps) = inr overlaps

-- ---- calls

-- a call of a procedure with a time and an exit needs nothing more
pub paid_with_exit : (s : SubjectView) (next : Next) (callee : Callee) → IsSome callee.proc.time → OnSomeExit s callee.number AnyExit →
    IsTrue true ↔ PaysCall s next callee
paid_with_exit s next callee timed some = (
  (λ told. record { timed = timed; endless = λ none. absurd (none some.exit some.of) }),
  (λ pays. refl),
)

-- a call of a procedure with a time and without an exit is paid where its cost is
pub paid_without : (s : SubjectView) (next : Next) (callee : Callee) (leaves answer : Bool) → IsSome callee.proc.time → leaves ≡ false →
    (IsTrue leaves ↔ OnSomeExit s callee.number AnyExit) → (IsTrue answer ↔ PaysOut s.row (call_cost next callee)) → IsTrue answer ↔ PaysCall s next callee
paid_without s next callee leaves answer timed never some exact = (
  (λ told. record { timed = timed; endless = λ none. exact.0 told }),
  (λ pays.
      exact.1 (pays.endless (λ exit at. false≢true (sym never ∙ some.1 record { exit = exit; of = at; holds = tt })))),
)

-- ---- from each successor

jump_paid : (s : SubjectView) (nexts : List Next) → nexts_from s ≡ nexts → All (NextPays s) nexts → (way : WayView) → IsJump s way → PaysWay s way
jump_paid s nexts same all way is =
    let listed = subst (λ (ns : List Next). Contains ns is.next) same is.leads in
    let pays = All-contains (NextPays s) nexts is.next all listed in
    subst (λ (w : WayView). PaysWay s w) (sym is.is) (subst (λ (k : NextKind). KindPays s is.next k) is.kind pays)

call_pays : (s : SubjectView) (nexts : List Next) → nexts_from s ≡ nexts → All (NextPays s) nexts → (next : Next) (callee : Callee) → CallsCallee s next callee →
    CallPays s next (Some callee)
call_pays s nexts same all next callee calls =
    let listed = subst (λ (ns : List Next). Contains ns next) same calls.leads in
    let pays = subst (λ (k : NextKind). KindPays s next k) calls.kind (All-contains (NextPays s) nexts next all listed) in
    subst (λ (o : Option Callee). CallPays s next o) calls.called pays

exit_pays : (s : SubjectView) (nexts : List Next) → nexts_from s ≡ nexts → All (NextPays s) nexts → (next : Next) → Contains (nexts_from s) next →
    next.kind ≡ Exit → PaysOut s.row next.cost
exit_pays s nexts same all next leads kind =
    let listed = subst (λ (ns : List Next). Contains ns next) same leads in
    subst (λ (k : NextKind). KindPays s next k) kind (All-contains (NextPays s) nexts next all listed)

way_paid : (s : SubjectView) (nexts : List Next) → nexts_from s ≡ nexts → All (NextPays s) nexts → (way : WayView) → IsWay s way → PaysWay s way
way_paid s nexts same all way (inl is) = jump_paid s nexts same all way is
way_paid s nexts same all way (inr is) =
    subst (λ (w : WayView). PaysWay s w) (sym is.is) ((call_pays s nexts same all is.next is.callee is.calls).1.each is.exit is.exits)

-- ---- to each successor

call_of : (s : SubjectView) (next : Next) → Pays s → Contains (nexts_from s) next → next.kind ≡ Call → (called : Option Callee) →
    callee_at s.cert next.address ≡ called → CallPays s next called
call_of s next pays leads kind None none = tt
call_of s next pays leads kind (Some callee) is =
    let calls : CallsCallee s next callee = record { leads = leads; kind = kind; called = is } in (
      pays.calls next callee calls,
      record {
        each = λ exit exits. record {
          each = λ target lands.
              pays.ways (return_way s next callee exit) target
              record { is_way = inr record { next = next; callee = callee; calls = calls; exit = exit; exits = exits; is = refl }; lands = lands };
        };
      },
    )

kind_of : (s : SubjectView) (next : Next) → Pays s → Contains (nexts_from s) next → (kind : NextKind) → next.kind ≡ kind → KindPays s next kind
kind_of s next pays leads Jump is = record {
  each = λ target lands. pays.ways (jump_way s next) target record { is_way = inl record { next = next; leads = leads; kind = is; is = refl }; lands = lands };
}
kind_of s next pays leads Call is = call_of s next pays leads is (callee_at s.cert next.address) refl
kind_of s next pays leads Exit is = pays.exits next leads is

-- ---- both

pub all_pay : (s : SubjectView) (nexts : List Next) → step_of s ≡ Ok nexts → IsSome s.row.potential → (s.row.address ≡ s.proc.entry → IsWithinTime s.proc s.row) →
    All (NextPays s) nexts ↔ Pays s
all_pay s nexts step owns entry =
    let same : nexts_from s ≡ nexts = ap nexts_in step in (
      (λ all. record {
        owns = owns;
        ways = λ way target leads. (way_paid s nexts same all way leads.is_way).each target leads.lands;
        calls = λ next callee calls. (call_pays s nexts same all next callee calls).0;
        exits = exit_pays s nexts same all;
        entry = entry;
      }),
      (λ pays k d within.
          let next = get_or nexts k d in
          let leads = subst (λ (ns : List Next). Contains ns next) (sym same) (Contains-get_or nexts k d within) in
          kind_of s next pays leads next.kind refl),
    )
