-- Walks along the table, and which of them is longest.
use Rattle.std.proofs.Common.{◌≡◌, ◌<◌, ◌≤◌, ◌+◌, ◌↔◌, ◌∙◌, ℕ, zero, suc, List, [], ◌∷◌, Option, Some, None, Result, Ok, Err, IfOk, length, min, slice_get, inl, inr, sym, ap, subst, refl, arith}
use Rattle.std.proofs.lemmas.Option.{none-some, same_Some, slice_get_cases}
use Rattle.cert_lines.specs.declared.proc.Proc.{Proc}
use Rattle.cert_lines.specs.declared.row.Row.{Row}
use Rattle.cert_form.specs.Contents.{CertificateView}
use Rattle.check_ways.specs.Pays.{cost_before}
use Rattle.path_time.proofs.EdgeLemmas.{next_belongs}
use Rattle.path_time.proofs.TableLemmas.{upto_less}
use Rattle.path_time.specs.Table.{Ends, FollowsTable, HasFewer, IsAheadOfEntry, IsTable, IsUpTo, ahead_at, one_more}
use Rattle.path_time.specs.Walks.{AreApart, Belongs, BelongsAt, GoesOut, HasNoWalk, IsLongest, IsWalk}
use Rattle.path_time.specs.declared.ahead.Ahead.{Ahead}

-- ---- along the table

-- a row with a path has a place in the table
pub there_within : (table : List (Option Ahead)) (row : ℕ) (ahead : Ahead) → ahead_at table row ≡ Some ahead → row < length table
there_within [] row ahead at = absurd (none-some ahead at)
there_within (x ∷ xs) zero ahead at = omega arith
there_within (x ∷ xs) (suc row) ahead at = let rest = there_within xs row ahead at in omega (arith, rest)

pub none_if : (o : Option ℕ) → ((n : ℕ) → o ≡ Some n → ⊥) → o ≡ None
none_if None never = refl
none_if (Some n) never = absurd (never n refl)

-- the rows that follow an entry of the table are a path to an exit
pub follows_out : (rom : List ℕ) (cert : CertificateView) (proc : ℕ) (table : List (Option Ahead)) (row : ℕ) (ahead : Ahead) (rows : List ℕ) → IsTable rom cert proc table →
    Belongs cert proc row → ahead_at table row ≡ Some ahead → FollowsTable table (Some ahead) rows → GoesOut rom cert proc row rows ahead.sum
follows_out rom cert proc table row ahead [] is belongs at follows =
    elim ((is.each row belongs).leads ahead at) [
      | inl exit ↦ (belongs, exit.0)
      | inr t ↦ absurd (none-some t.next (sym follows ∙ t.next_is))
    ]
follows_out rom cert proc table row ahead (next ∷ rows) is belongs at follows =
    elim ((is.each row belongs).leads ahead at) [
      | inl exit ↦ absurd (none-some next (sym exit.1 ∙ follows.0))
      | inr t ↦
          let same : t.next ≡ next = same_Some t.next next (sym t.next_is ∙ follows.0) in
          let there_is : ahead_at table next ≡ Some t.there = subst (λ (n : ℕ). ahead_at table n ≡ Some t.there) same t.there_is in
          let apart = subst (λ (n : ℕ). AreApart rom cert row n t.cost) same t.apart in
          let on : Belongs cert proc next = next_belongs rom cert proc row next t.cost belongs apart.0 in (
            belongs,
            record {
              cost = t.cost;
              apart = apart;
              rest = t.there.sum;
              goes_on = follows_out rom cert proc table next t.there rows is on there_is (subst (λ (o : Option Ahead). FollowsTable table o rows) there_is follows.1);
              sum_is = (let sum = t.sum_is in omega (arith, sum));
            },
          )
    ]

-- following the table ends
pub table_ends : (rom : List ℕ) (cert : CertificateView) (proc : ℕ) (table : List (Option Ahead)) (number : ℕ) (ahead : Ahead) → IsTable rom cert proc table →
    ahead_at table number ≡ Some ahead → (row : ℕ) → ahead.next ≡ Some row → HasFewer table row ahead.behind
table_ends rom cert proc table number ahead is at row next =
    elim ((is.each number (is.only number ahead at)).leads ahead at) [
      | inl exit ↦ absurd (none-some row (sym exit.1 ∙ next))
      | inr t ↦
          let same : t.next ≡ row = same_Some t.next row (sym t.next_is ∙ next) in
          record {
            there = t.there;
            is = subst (λ (n : ℕ). ahead_at table n ≡ Some t.there) same t.there_is;
            fewer = (let behind = t.behind_is in omega (arith, behind));
          }
    ]

-- ---- at the entry

-- one more edge before a path
pub record InFront (table : List (Option Ahead)) (row before : ℕ) (ahead : Ahead) : Type 0 where
  pub there : Ahead
  pub is : ahead_at table row ≡ Some there
  pub sum_is : ahead.sum ≡ there.sum + before
  pub next_is : ahead.next ≡ Some row
  pub behind_is : ahead.behind ≡ there.behind + 1

pub in_front : (table : List (Option Ahead)) (row before : ℕ) (ahead : Ahead) → Some ahead ≡ one_more row before (ahead_at table row) →
    InFront table row before ahead
in_front table row before ahead is = go (ahead_at table row) refl
  where
    go : (there : Option Ahead) → ahead_at table row ≡ there → InFront table row before ahead
    go None there_is = absurd (none-some ahead (sym (is ∙ ap (one_more row before) there_is)))
    go (Some there) there_is =
        let more : Ahead = record { sum = there.sum + before; next = Some row; behind = there.behind + 1 } in
        let same : ahead ≡ more = same_Some ahead more (is ∙ ap (one_more row before) there_is) in
        record {
          there = there;
          is = there_is;
          sum_is = ap (λ (a : Ahead). a.sum) same;
          next_is = ap (λ (a : Ahead). a.next) same;
          behind_is = ap (λ (a : Ahead). a.behind) same;
        }

-- following the path from the entry ends too
pub entry_ends : (rom : List ℕ) (cert : CertificateView) (proc : ℕ) (table : List (Option Ahead)) (start end before : ℕ) (ahead : Ahead) → IsTable rom cert proc table →
    IsAheadOfEntry table start end before (Some ahead) → Ends table ahead
entry_ends rom cert proc table start end before ahead is entry =
    let by = entry.by ahead refl in
    let front = in_front table by.0 before ahead by.3 in
    record {
      first = λ row next.
          let same : by.0 ≡ row = same_Some by.0 row (sym front.next_is ∙ next) in
          record {
            there = front.there;
            is = subst (λ (n : ℕ). ahead_at table n ≡ Some front.there) same front.is;
            fewer = (let behind = front.behind_is in omega (arith, behind));
          };
      each = λ number other at row next. table_ends rom cert proc table number other is at row next;
    }

-- a row at the entry, by its number, exists
entry_there : (cert : CertificateView) (proc address start end number : ℕ) →
    ((k : ℕ) (row : Row) → slice_get cert.rows k ≡ Some row → ((start ≤ k) × (k < end)) ↔ ((row.proc ≡ proc) × (row.address ≡ address))) →
    end ≤ length cert.rows → start ≤ number → number < end → BelongsAt cert proc address number
entry_there cert proc address start end number rows within from below =
    elim (slice_get_cases cert.rows number).1 [
      | inl there ↦
          let is = (rows number there.0 there.2).0 (from, below) in
          record { row = there.0; is = there.2; of = is.0; at = is.1 }
      | inr past ↦ absurd (omega (arith, past.0, within, below))
    ]

-- a walk's sum is at most the sum of the path from the entry
pub walk_upto : (rom : List ℕ) (cert : CertificateView) (proc : ℕ) (procedure : Proc) (table : List (Option Ahead)) (start end : ℕ) (best : Option Ahead) →
    slice_get cert.procs proc ≡ Some procedure → IsTable rom cert proc table →
    ((k : ℕ) (row : Row) → slice_get cert.rows k ≡ Some row → ((start ≤ k) × (k < end)) ↔ ((row.proc ≡ proc) × (row.address ≡ procedure.entry))) →
    IsAheadOfEntry table start end (cost_before procedure.kind) best → (rows : List ℕ) (sum : ℕ) → IsWalk rom cert proc rows sum → IsUpTo sum best
walk_upto rom cert proc procedure table start end best at is rows_at entry rows sum walk =
    let same : walk.procedure ≡ procedure = same_Some walk.procedure procedure (sym walk.is ∙ at) in
    let entry_at = subst (λ (p : Proc). BelongsAt cert proc p.entry walk.first) same walk.entry in
    let sum_is = subst (λ (p : Proc). sum ≡ cost_before p.kind + walk.rest) same walk.sum_is in
    let place = (rows_at walk.first entry_at.row entry_at.is).1 (entry_at.of, entry_at.at) in
    let belongs : Belongs cert proc walk.first = record { row = entry_at.row; is = entry_at.is; of = entry_at.of } in
    go (ahead_at table walk.first) refl place sum_is ((is.each walk.first belongs).greatest walk.others walk.rest walk.goes_out)
  where
    go : (there : Option Ahead) → ahead_at table walk.first ≡ there → (start ≤ walk.first) × (walk.first < end) → sum ≡ cost_before procedure.kind + walk.rest →
        IsUpTo walk.rest there → IsUpTo sum best
    go None there_is place sum_is upto = absurd upto
    go (Some there) there_is place sum_is upto =
        let before = cost_before procedure.kind in
        let more : Ahead = record { sum = there.sum + before; next = Some walk.first; behind = there.behind + 1 } in
        upto_less sum more.sum best (omega (arith, sum_is, upto)) (entry.each walk.first place.0 place.1 more (ap (one_more walk.first before) there_is))

-- the walk from the entry by the table is a longest one
pub longest_walk : (rom : List ℕ) (cert : CertificateView) (proc : ℕ) (procedure : Proc) (table : List (Option Ahead)) (start end : ℕ) (ahead : Ahead) (told : ℕ) (rows : List ℕ) →
    slice_get cert.procs proc ≡ Some procedure → IsTable rom cert proc table → end ≤ length cert.rows →
    ((k : ℕ) (row : Row) → slice_get cert.rows k ≡ Some row → ((start ≤ k) × (k < end)) ↔ ((row.proc ≡ proc) × (row.address ≡ procedure.entry))) →
    IsAheadOfEntry table start end (cost_before procedure.kind) (Some ahead) → told ≡ min ahead.sum 4294967295 → FollowsTable table (Some ahead) rows →
    IsLongest rom cert proc told rows
longest_walk rom cert proc procedure table start end ahead told [] at is within rows_at entry told_is follows =
    let by = entry.by ahead refl in
    let front = in_front table by.0 (cost_before procedure.kind) ahead by.3 in
    absurd (none-some by.0 (sym follows ∙ front.next_is))
longest_walk rom cert proc procedure table start end ahead told (first ∷ others) at is within rows_at entry told_is follows =
    let by = entry.by ahead refl in
    let before = cost_before procedure.kind in
    let front = in_front table by.0 before ahead by.3 in
    let same : by.0 ≡ first = same_Some by.0 first (sym front.next_is ∙ follows.0) in
    let there_is : ahead_at table first ≡ Some front.there = subst (λ (n : ℕ). ahead_at table n ≡ Some front.there) same front.is in
    let from : start ≤ first = subst (λ (n : ℕ). start ≤ n) same by.1 in
    let below : first < end = subst (λ (n : ℕ). n < end) same by.2 in
    let entry_at : BelongsAt cert proc procedure.entry first = entry_there cert proc procedure.entry start end first rows_at within from below in
    let belongs : Belongs cert proc first = record { row = entry_at.row; is = entry_at.is; of = entry_at.of } in
    record {
      sum = ahead.sum;
      walk = record {
        procedure = procedure;
        is = at;
        first = first;
        others = others;
        rows_are = refl;
        entry = entry_at;
        rest = front.there.sum;
        goes_out = follows_out rom cert proc table first front.there others is belongs there_is (subst (λ (o : Option Ahead). FollowsTable table o others) there_is follows.1);
        sum_is = (let sum = front.sum_is in omega (arith, sum));
      };
      greatest = λ rows sum walk. walk_upto rom cert proc procedure table start end (Some ahead) at is rows_at entry rows sum walk;
      told_is = told_is;
    }

-- if the entry has no path, there is no walk
pub no_walk : (rom : List ℕ) (cert : CertificateView) (proc : ℕ) (procedure : Proc) (table : List (Option Ahead)) (start end : ℕ) → slice_get cert.procs proc ≡ Some procedure →
    IsTable rom cert proc table →
    ((k : ℕ) (row : Row) → slice_get cert.rows k ≡ Some row → ((start ≤ k) × (k < end)) ↔ ((row.proc ≡ proc) × (row.address ≡ procedure.entry))) →
    IsAheadOfEntry table start end (cost_before procedure.kind) None → HasNoWalk rom cert proc 0
no_walk rom cert proc procedure table start end at is rows_at entry = record {
  zero = refl;
  none = λ rows sum walk. walk_upto rom cert proc procedure table start end None at is rows_at entry rows sum walk;
}

-- two clauses about an answer imply a third
pub if_ok_both : {T E : Type 0} (P Q S : T → Type 0) (answer : Result T E) → ((found : T) → P found → Q found → S found) → IfOk answer P → IfOk answer Q →
    IfOk answer S
if_ok_both P Q S (Ok found) both one other = both found one other
if_ok_both P Q S (Err fault) both one other = tt
