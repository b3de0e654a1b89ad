-- What pays for the greatest of some potentials without variables pays for each.
use Rattle.std.proofs.Common.{◌≡◌, ◌≤◌, ◌<◌, ◌↔◌, ◌≤ℤ◌, ◌+ℤ◌, ◌-ℤ◌, ℕ, ℤ, pos, [], length, slice_get, unwrap_or, Option, Some, None, inl, refl, sym, subst, ap, ◌∙◌, arith}
use Rattle.std.proofs.lemmas.Int.{ints}
use Rattle.std.proofs.lemmas.Option.{slice_get_read}
use Rattle.abs_state.specs.Variables.{range_of}
use Rattle.abs_step.specs.declared.next.Next.{Next}
use Rattle.check_cover.specs.Arrival.{ArrivalView, RefinementView}
use Rattle.check_cover.specs.Program.{IsRowAt}
use Rattle.check_cover.specs.declared.program.Callee.{Callee}
use Rattle.cert_lines.specs.declared.row.Row.{Row}
use Rattle.cert_form.specs.Contents.{CertificateView}
use Rattle.check_ways.specs.Parts.{AreNumbersAt, IsTopOf, OnEachExit, PaysAll, PaysNumber, PaysPlace, PaysReturn, PaysWay}
use Rattle.check_payments.specs.Paying.{PaysEitherWay}
use Rattle.check_ways.specs.Pays.{PaysBy, PaysTo, constant_sum, potential_of}
use Rattle.check_ways.specs.Ways.{SubjectView, WayView, behind_of, call_cost, return_way}
use Rattle.check_tables.specs.Tables.{IsAtMost}
use Rattle.loop_bounds.specs.Bounds.{Decreases}
use Rattle.loop_bounds.specs.Effect.{unchanged, whole}
use Rattle.loop_bounds.specs.Linear.{LinearView, value}
use Rattle.loop_bounds.specs.Ranges.{Box}
use Rattle.loop_bounds.specs.declared.effect.Effect.{Effect}

abbrev constant : ℤ → LinearView
constant n = record { constant = n; terms = [] }

less_left : (from cost one other : ℤ) → one ≤ℤ other → pos 0 ≤ℤ (from -ℤ cost -ℤ (other +ℤ pos 0)) → pos 0 ≤ℤ (from -ℤ cost -ℤ (one +ℤ pos 0))
less_left from cost one other least left = omega (arith, ints, least, left)

-- what a sum pays for another one, by version
abbrev PaysSum : LinearView → LinearView → ℕ → Effect → Option RefinementView → Box → Box → Type 0
PaysSum from to cost effect None source target = Decreases from to cost effect source target
PaysSum from to cost effect (Some r) source target = PaysEitherWay from to cost effect r.moved r.linear source target

-- what pays for a number pays for a smaller one, by any effect and to any ranges, and in version 3 too
pays_less : (from : LinearView) (one other : ℤ) (cost : ℕ) (effect : Effect) (refined : Option RefinementView) (source target : Box) → one ≤ℤ other →
    Decreases from (constant other) cost unchanged source source → PaysSum from (constant one) cost effect refined source target
pays_less from one other cost effect None source target least pays =
    λ before free lies lies_free. less_left (value (whole before) from) (pos cost) one other least (pays before before lies lies)
pays_less from one other cost effect (Some r) source target least pays =
    inl (λ before free lies lies_free. less_left (value (whole before) from) (pos cost) one other least (pays before before lies lies))

same_sum : (sum : LinearView) → sum.terms ≡ [] → sum ≡ constant sum.constant
same_sum sum none = ap (λ ts. record { constant = sum.constant; terms = ts }) none

-- by the potentials of two rows
of_rows : (row target : Row) (cost : ℕ) (effect : Effect) (refined : Option RefinementView) →
    PaysSum (potential_of row) (potential_of target) cost effect refined (range_of row.state) (range_of target.state) → PaysBy row cost effect refined target
of_rows row target cost effect None pays = pays
of_rows row target cost effect (Some r) pays = pays

-- what pays for the greatest potential pays for that of each row
to_row : (s : SubjectView) (cost : ℕ) (a : ArrivalView) (target : Row) (top : ℤ) (potential : Option LinearView) → target.potential ≡ potential → pos 0 ≤ℤ top →
    IsAtMost top potential → PaysNumber s.row cost (constant top) → PaysTo s.row cost a target
to_row s cost a target top None is least most pays =
    of_rows s.row target cost a.effect a.refined
    (subst (λ (p : LinearView). PaysSum (potential_of s.row) p cost a.effect a.refined (range_of s.row.state) (range_of target.state))
    (sym (ap (λ (o : Option LinearView). unwrap_or o (constant_sum 0)) is))
    (pays_less (potential_of s.row) (pos 0) top cost a.effect a.refined (range_of s.row.state) (range_of target.state) least pays))
to_row s cost a target top (Some sum) is least most pays =
    of_rows s.row target cost a.effect a.refined
    (subst (λ (p : LinearView). PaysSum (potential_of s.row) p cost a.effect a.refined (range_of s.row.state) (range_of target.state))
    (sym (ap (λ (o : Option LinearView). unwrap_or o (constant_sum 0)) is ∙ same_sum sum most.0))
    (pays_less (potential_of s.row) sum.constant top cost a.effect a.refined (range_of s.row.state) (range_of target.state) most.1 pays))

pub pays_all : (s : SubjectView) (start end cost : ℕ) (top : LinearView) → IsTopOf s.cert start end top → PaysNumber s.row cost top → PaysAll s start end cost
pays_all s start end cost top is pays = record {
  each = λ k target a from below at.
      to_row s cost a target is.number target.potential refl is.top.least (is.top.each k target from below at)
      (subst (λ (t : LinearView). PaysNumber s.row cost t) is.is pays);
}

-- a row at an address has one of the numbers there
pub pays_at : (s : SubjectView) (start end cost proc address : ℕ) (a : ArrivalView) (target : Row) →
    ((k : ℕ) (row : Row) → slice_get s.cert.rows k ≡ Some row → ((start ≤ k) × (k < end)) ↔ ((row.proc ≡ proc) × (row.address ≡ address))) →
    PaysAll s start end cost → IsRowAt s.cert proc address target → PaysTo s.row cost a target
pays_at s start end cost proc address a target rows pays is =
    let (k, within, same) = is.listed in
    let at : slice_get s.cert.rows k ≡ Some target = slice_get_read s.cert.rows (length s.cert.rows) k target refl within (sym same) in
    let number = (rows k target at).1 (is.of, is.at) in
    pays.each k target a number.0 number.1 at

pub pays_a_way : (s : SubjectView) (way : WayView) (start end : ℕ) → AreNumbersAt s.cert way.arrival start end → PaysAll s start end way.cost → PaysWay s way
pays_a_way s way start end rows pays = record {
  each = λ target lands. pays_at s start end way.cost way.arrival.proc way.arrival.address way.arrival target rows pays lands.at;
}

pub pays_each_return : (s : SubjectView) (next : Next) (callee : Callee) → PaysPlace s s.row.proc (behind_of s.decoded s.row.address) (call_cost next callee) →
    OnEachExit s callee.number (PaysReturn s next callee)
pays_each_return s next callee pays = record {
  each = λ exit leaves. record { each = λ target lands. pays.each target (return_way s next callee exit).arrival lands.at };
}

-- exactly the rows at an address have these numbers
abbrev pub AreRowsHere : CertificateView → (proc address start end : ℕ) → Type 0
AreRowsHere cert proc address start end =
    (k : ℕ) (row : Row) → slice_get cert.rows k ≡ Some row → ((start ≤ k) × (k < end)) ↔ ((row.proc ≡ proc) × (row.address ≡ address))

pub pays_place : (s : SubjectView) (start end cost proc address : ℕ) → AreRowsHere s.cert proc address start end → PaysAll s start end cost →
    PaysPlace s proc address cost
pays_place s start end cost proc address rows pays = record {
  each = λ target a is. pays_at s start end cost proc address a target rows pays is;
}
