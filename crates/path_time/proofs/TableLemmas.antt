-- How the table of longest paths is filled, and what it has in the end.
use Rattle.std.proofs.Common.{◌≡◌, ◌<◌, ◌≤◌, ◌+◌, ◌⊎◌, ◌↔◌, ◌∙◌, ◌++◌, ℕ, List, [], ◌∷◌, Option, Some, None, Contains, IfSome, length, get_or, map, set, take, slice_get, slice_index, inl, inr, sym, ap, subst, refl, arith, ltb, get_or-set_same, get_or-set_other, length-set}
use Rattle.std.proofs.lemmas.Bool.{cases_eq, cases_lt, cond_both, ltb-false, ltb-true}
use Rattle.std.proofs.lemmas.List.{take_more}
use Rattle.std.proofs.lemmas.List.Elements.{Contains-append_left, Contains-push, Contains-push_cases}
use Rattle.std.proofs.lemmas.Option.{none-some, same_Some, slice_get_within}
use Rattle.call_graph.proofs.DepthLemmas.{few}
use Rattle.call_graph.proofs.OrderLemmas.{place_in}
use Rattle.call_graph.specs.declared.edge.Edge.{Edge}
use Rattle.call_graph.specs.Calls.{Calls, IsCallOrder}
use Rattle.cert_form.specs.Contents.{CertificateView}
use Rattle.cert_lines.specs.declared.row.Row.{Row}
use Rattle.path_time.proofs.LinkLemmas.{row_there}
use Rattle.path_time.proofs.EdgeLemmas.{in_list, leads_earlier, link_calls, next_calls, order_belongs}
use Rattle.path_time.specs.Links.{AreLinks, edge_of_link}
use Rattle.path_time.specs.Table.{AreLinksFrom, AreSmall, HasExits, IsAhead, IsBest, IsByLink, IsFilled, IsOwnExit, IsTable, IsUpTo, ahead_at, longer, one_more}
use Rattle.path_time.specs.Walks.{AreApart, Belongs, GoesOut, MayComeNext}
use Rattle.path_time.specs.declared.ahead.Ahead.{Ahead}
use Rattle.path_time.specs.declared.links.Link.{Link}

-- ---- the greater of two

pub upto_less : (m n : ℕ) (best : Option Ahead) → m ≤ n → IsUpTo n best → IsUpTo m best
upto_less m n None less upto = upto
upto_less m n (Some best) less upto = omega (arith, less, upto)

pub upto_first : (n : ℕ) (one other : Option Ahead) → IsUpTo n one → IsUpTo n (longer one other)
upto_first n None other upto = absurd upto
upto_first n (Some a) None upto = upto
upto_first n (Some a) (Some b) upto =
    cond_both (ltb a.sum b.sum) (Some b) (Some a) (λ (o : Option Ahead). IsUpTo n o)
    (λ less. let above : a.sum < b.sum = ltb-true a.sum b.sum less in omega (arith, upto, above))
    (λ not. upto)

pub upto_second : (n : ℕ) (one other : Option Ahead) → IsUpTo n other → IsUpTo n (longer one other)
upto_second n None other upto = upto
upto_second n (Some a) None upto = absurd upto
upto_second n (Some a) (Some b) upto =
    cond_both (ltb a.sum b.sum) (Some b) (Some a) (λ (o : Option Ahead). IsUpTo n o)
    (λ less. upto)
    (λ not. let above : b.sum ≤ a.sum = ltb-false a.sum b.sum not in omega (arith, upto, above))

pub longer_is : (one other : Option Ahead) → (longer one other ≡ one) ⊎ (longer one other ≡ other)
longer_is None other = inr refl
longer_is (Some a) None = inl refl
longer_is (Some a) (Some b) =
    cond_both (ltb a.sum b.sum) (Some b) (Some a) (λ (o : Option Ahead). (o ≡ Some a) ⊎ (o ≡ Some b)) (λ less. inr refl) (λ not. inl refl)

upto_itself : (best : Option Ahead) (ahead : Ahead) → best ≡ Some ahead → IsUpTo ahead.sum best
upto_itself best ahead is = subst (λ (o : Option Ahead). IsUpTo ahead.sum o) (sym is) (omega arith)

-- ---- the best by some links

-- one more link
pub best_more : (links : List Link) (table : List (Option Ahead)) (before best : Option Ahead) (k : ℕ) (item : Link) → item ≡ get_or links k item →
    k < length links → item.cost < 4294967296 → IsBest (take k links) table before best →
    IsBest (take (k + 1) links) table before (longer best (one_more item.to item.cost (ahead_at table item.to)))
best_more links table before best k item is within low so_far =
    let there = one_more item.to item.cost (ahead_at table item.to) in
    let whole : take (k + 1) links ≡ take k links ++ item ∷ [] = take_more links k item within ∙ ap (λ (l : Link). take k links ++ l ∷ []) (sym is) in
    subst (λ (ls : List Link). IsBest ls table before (longer best there)) (sym whole)
    record {
      own = λ ahead own. upto_first ahead.sum best there (so_far.own ahead own);
      each = λ link listed ahead leads.
          elim (Contains-push_cases (take k links) item link listed) [
            | inl old ↦ upto_first ahead.sum best there (so_far.each link old ahead leads)
            | inr same ↦
                upto_second ahead.sum best there
                (upto_itself there ahead (ap (λ (l : Link). one_more l.to l.cost (ahead_at table l.to)) same ∙ leads))
          ];
      by = elim (longer_is best there) [
        | inl stays ↦
            elim so_far.by [
              | inl own ↦ inl (stays ∙ own)
              | inr z ↦
                  inr record {
                    link = z.link;
                    among = Contains-append_left (take k links) (item ∷ []) z.link z.among;
                    low = z.low;
                    is = stays ∙ z.is;
                  }
            ]
        | inr new ↦ inr record { link = item; among = Contains-push (take k links) item; low = low; is = new }
      ];
    }

-- the best of the rows from `start` to below `upto`
pub record IsBestUpto (table : List (Option Ahead)) (start upto end before : ℕ) (best : Option Ahead) : Type 0 where
  pub each : (row : ℕ) → start ≤ row → row < upto → (ahead : Ahead) → one_more row before (ahead_at table row) ≡ Some ahead → IsUpTo ahead.sum best
  pub by : (ahead : Ahead) → best ≡ Some ahead → (row : ℕ) × (start ≤ row) × (row < end) × (Some ahead ≡ one_more row before (ahead_at table row))

pub best_upto_more : (table : List (Option Ahead)) (start row end before : ℕ) (best : Option Ahead) → start ≤ row → row < end →
    IsBestUpto table start row end before best → IsBestUpto table start (row + 1) end before (longer best (one_more row before (ahead_at table row)))
best_upto_more table start row end before best from below so_far =
    let there = one_more row before (ahead_at table row) in
    record {
      each = λ q low high ahead is.
          elim (cases_eq q row) [
            | inl e ↦
                upto_second ahead.sum best there
                (upto_itself there ahead (ap (λ (n : ℕ). one_more n before (ahead_at table n)) (sym e) ∙ is))
            | inr ne ↦ upto_first ahead.sum best there (so_far.each q low (omega (arith, high, ne)) ahead is)
          ];
      by = λ ahead is.
          elim (longer_is best there) [
            | inl stays ↦ so_far.by ahead (sym stays ∙ is)
            | inr new ↦ (row, from, below, sym is ∙ new)
          ];
    }

-- ---- the table while it gets the exits

-- the exits of the rows from `start` to below `upto`
pub record HasExitsOf (rom : List ℕ) (cert : CertificateView) (start upto end : ℕ) (table : List (Option Ahead)) : Type 0 where
  pub room : length table ≡ length cert.rows
  pub each : (row : ℕ) → start ≤ row → row < upto → IsOwnExit rom cert row (ahead_at table row)
  pub only : (row : ℕ) (ahead : Ahead) → ahead_at table row ≡ Some ahead → (start ≤ row) × (row < end)
  pub low : (row : ℕ) (ahead : Ahead) → ahead_at table row ≡ Some ahead → (ahead.sum < 4294967296) × (ahead.behind ≡ 0)

if_some : (P : Ahead → Type 0) (o : Option Ahead) (ahead : Ahead) → IfSome o P → o ≡ Some ahead → P ahead
if_some P o ahead holds is = subst (λ (x : Option Ahead). IfSome x P) is holds

pub exits_more : (rom : List ℕ) (cert : CertificateView) (start row end : ℕ) (table : List (Option Ahead)) (exit : Option Ahead) → end ≤ length cert.rows →
    start ≤ row → row < end → IsOwnExit rom cert row exit → IfSome exit (λ ahead. (ahead.sum < 4294967296) × (ahead.behind ≡ 0)) →
    HasExitsOf rom cert start row end table → HasExitsOf rom cert start (row + 1) end (set table row exit)
exits_more rom cert start row end table exit within from below own low so_far =
    let room = so_far.room in
    let inside : row < length table = omega (arith, room, within, below) in
    let same : ahead_at (set table row exit) row ≡ exit = get_or-set_same table row exit None inside in
    let other : (q : ℕ) → (q ≡ row → ⊥) → ahead_at (set table row exit) q ≡ ahead_at table q = λ q ne. get_or-set_other table row q exit None ne in
    record {
      room = length-set table row exit ∙ room;
      each = λ q low_q high_q.
          elim (cases_eq q row) [
            | inl e ↦
                subst (λ (n : ℕ). IsOwnExit rom cert n (ahead_at (set table row exit) n)) (sym e)
                (subst (λ (o : Option Ahead). IsOwnExit rom cert row o) (sym same) own)
            | inr ne ↦
                subst (λ (o : Option Ahead). IsOwnExit rom cert q o) (sym (other q ne))
                (so_far.each q low_q (omega (arith, high_q, ne)))
          ];
      only = λ q ahead is.
          elim (cases_eq q row) [
            | inl e ↦ (omega (arith, e, from), omega (arith, e, below))
            | inr ne ↦ so_far.only q ahead (sym (other q ne) ∙ is)
          ];
      low = λ q ahead is.
          elim (cases_eq q row) [
            | inl e ↦ if_some (λ (a : Ahead). (a.sum < 4294967296) × (a.behind ≡ 0)) exit ahead low (sym same ∙ ap (ahead_at (set table row exit)) (sym e) ∙ is)
            | inr ne ↦ so_far.low q ahead (sym (other q ne) ∙ is)
          ];
    }

-- the exits of all rows of a procedure
pub exits_all : (rom : List ℕ) (cert : CertificateView) (proc start upto end : ℕ) (table : List (Option Ahead)) →
    ((k : ℕ) (row : Row) → slice_get cert.rows k ≡ Some row → ((start ≤ k) × (k < end)) ↔ (row.proc ≡ proc)) → end ≤ length cert.rows → end ≤ upto →
    HasExitsOf rom cert start upto end table → HasExits rom cert proc table
exits_all rom cert proc start upto end table rows within behind so_far = record {
  room = so_far.room;
  each = λ row belongs.
      let place = (rows row belongs.row belongs.is).1 belongs.of in
      so_far.each row place.0 (omega (arith, place.1, behind));
  only = λ row ahead is.
      let place = so_far.only row ahead is in
      row_there cert proc start end row rows within place.0 place.1;
  low = so_far.low;
}

-- ---- the table while it is filled

-- the path of a row that was done is kept when a later row is set
ahead_kept : (rom : List ℕ) (cert : CertificateView) (proc : ℕ) (links : List Link) (order : List ℕ) (table : List (Option Ahead)) (index k row : ℕ) (best : Option Ahead) →
    AreLinks rom cert proc links → IsCallOrder (map edge_of_link links) order → k < index → index < length order → slice_index order index ≡ row →
    IsAhead rom cert proc table (slice_index order k) → IsAhead rom cert proc (set table row best) (slice_index order k)
ahead_kept rom cert proc links order table index k row best are is before inside row_is done =
    let here = slice_index order k in
    let new = set table row best in
    let other : (q : ℕ) → (q ≡ row → ⊥) → ahead_at new q ≡ ahead_at table q = λ q ne. get_or-set_other table row q best None ne in
    let not_row : (j : ℕ) → j < index → slice_index order j ≡ row → ⊥ = λ j less e. is.once j index less inside (e ∙ sym row_is) in
    let same : ahead_at new here ≡ ahead_at table here = other here (not_row k before) in
    let within : k < length order = omega (arith, before, inside) in
    let belongs = order_belongs rom cert proc links order k are is within in
    record {
      greatest = λ rows sum goes. subst (λ (o : Option Ahead). IsUpTo sum o) (sym same) (done.greatest rows sum goes);
      leads = λ ahead at.
          elim (done.leads ahead (sym same ∙ at)) [
            | inl exit ↦ inl exit
            | inr t ↦
                let next : MayComeNext rom cert here t.next = record { cost = t.cost; lie = t.apart.0 } in
                let z = leads_earlier (map edge_of_link links) order k t.next is within (next_calls rom cert proc links here t.next are belongs next) in
                let early = z.before in
                let stays : t.next ≡ row → ⊥ = λ e. not_row z.at (omega (arith, early, before)) (z.is ∙ e) in
                inr record {
                  next = t.next;
                  next_is = t.next_is;
                  cost = t.cost;
                  apart = t.apart;
                  there = t.there;
                  there_is = other t.next stays ∙ t.there_is;
                  sum_is = t.sum_is;
                  behind_is = t.behind_is;
                }
          ];
    }

-- if no row comes next, a path is the row's exit
ends_here : (rom : List ℕ) (cert : CertificateView) (proc row : ℕ) (own : Option Ahead) → IsOwnExit rom cert row own → ((to : ℕ) → MayComeNext rom cert row to → ⊥) →
    (rows : List ℕ) (sum : ℕ) → GoesOut rom cert proc row rows sum → IsUpTo sum own
ends_here rom cert proc row None none alone [] sum goes = absurd (none sum goes.1.0)
ends_here rom cert proc row (Some ahead) leaves alone [] sum goes = leaves.0.1 sum goes.1.0
ends_here rom cert proc row own exit alone (next ∷ rest) sum goes =
    let follows : MayComeNext rom cert row next = record { cost = goes.1.cost; lie = goes.1.apart.0 } in
    absurd (alone next follows)

-- the path from the next row in the order
best_ahead : (rom : List ℕ) (cert : CertificateView) (proc : ℕ) (links some : List Link) (order : List ℕ) (table : List (Option Ahead)) (index row : ℕ) (best : Option Ahead) →
    AreLinks rom cert proc links → IsCallOrder (map edge_of_link links) order → index < length order → slice_index order index ≡ row → Belongs cert proc row →
    IsFilled rom cert proc order index table → AreLinksFrom links row some → IsBest some table (ahead_at table row) best → IsOwnExit rom cert row (ahead_at table row) →
    (rows : List ℕ) (sum : ℕ) → GoesOut rom cert proc row rows sum → IsUpTo sum best
best_ahead rom cert proc links some order table index row best are is inside row_is belongs filled from is_best exit [] sum goes =
    by_exit (ahead_at table row) exit refl
  where
    by_exit : (own : Option Ahead) → IsOwnExit rom cert row own → ahead_at table row ≡ own → IsUpTo sum best
    by_exit None none own_is = absurd (none sum goes.1.0)
    by_exit (Some ahead) leaves own_is = upto_less sum ahead.sum best (leaves.0.1 sum goes.1.0) (is_best.own ahead own_is)
best_ahead rom cert proc links some order table index row best are is inside row_is belongs filled from is_best exit (next ∷ rest) sum goes =
    let on = goes.1 in
    let follows : MayComeNext rom cert row next = record { cost = on.cost; lie = on.apart.0 } in
    let has = are.all row next belongs follows in
    let link : Link = record { from = row; to = next; cost = has.0 } in
    let apart : AreApart rom cert row next has.0 = (are.only link has.1).1 in
    let same : has.0 ≡ on.cost = omega (arith, apart.1 on.cost on.apart.0, on.apart.1 has.0 apart.0) in
    let calls = subst (λ (n : ℕ). Calls (map edge_of_link links) n next) (sym row_is) (link_calls links link has.1) in
    let z = leads_earlier (map edge_of_link links) order index next is inside calls in
    let ahead_of_next : IsAhead rom cert proc table next = subst (λ (n : ℕ). IsAhead rom cert proc table n) z.is (filled.done z.at z.before) in
    by_next (ahead_at table next) link (from.all link has.1 refl) on.rest (omega (arith, on.sum_is, same)) refl (ahead_of_next.greatest rest on.rest on.goes_on)
  where
    by_next : (there : Option Ahead) (link : Link) → Contains some link → (after : ℕ) → sum ≡ link.cost + after → ahead_at table link.to ≡ there →
        IsUpTo after there → IsUpTo sum best
    by_next None link listed after sum_is there_is upto = absurd upto
    by_next (Some ahead) link listed after sum_is there_is upto =
        let more : Ahead = record { sum = ahead.sum + link.cost; next = Some link.to; behind = ahead.behind + 1 } in
        upto_less sum more.sum best (omega (arith, sum_is, upto)) (is_best.each link listed more (ap (one_more link.to link.cost) there_is))

-- by a link of the next row in the order
pub record LinkAhead (links : List Link) (table : List (Option Ahead)) (row : ℕ) (ahead : Ahead) : Type 0 where
  pub link : Link
  pub listed : Contains links link
  pub from_is : link.from ≡ row
  pub low : link.cost < 4294967296
  pub there : Ahead
  pub there_is : ahead_at table link.to ≡ Some there
  pub sum_is : ahead.sum ≡ there.sum + link.cost
  pub next_is : ahead.next ≡ Some link.to
  pub behind_is : ahead.behind ≡ there.behind + 1

by_link : (links some : List Link) (table : List (Option Ahead)) (row : ℕ) (best : Option Ahead) (ahead : Ahead) → AreLinksFrom links row some →
    IsByLink some table best → best ≡ Some ahead → LinkAhead links table row ahead
by_link links some table row best ahead from z is = go (ahead_at table z.link.to) refl
  where
    go : (there : Option Ahead) → ahead_at table z.link.to ≡ there → LinkAhead links table row ahead
    go None there_is =
        let nothing : None ≡ Some ahead = sym (ap (one_more z.link.to z.link.cost) there_is) ∙ sym z.is ∙ is in
        absurd (none-some ahead nothing)
    go (Some there) there_is =
        let more : Ahead = record { sum = there.sum + z.link.cost; next = Some z.link.to; behind = there.behind + 1 } in
        let same : more ≡ ahead = same_Some more ahead (sym (ap (one_more z.link.to z.link.cost) there_is) ∙ sym z.is ∙ is) in
        let of = from.only z.link z.among in
        record {
          link = z.link;
          listed = of.0;
          from_is = of.1;
          low = z.low;
          there = there;
          there_is = there_is;
          sum_is = ap (λ (a : Ahead). a.sum) (sym same);
          next_is = ap (λ (a : Ahead). a.next) (sym same);
          behind_is = ap (λ (a : Ahead). a.behind) (sym same);
        }

-- one more row in the order
pub fill : (rom : List ℕ) (cert : CertificateView) (proc : ℕ) (links some : List Link) (order : List ℕ) (table : List (Option Ahead)) (index row : ℕ) (best : Option Ahead) →
    AreLinks rom cert proc links → IsCallOrder (map edge_of_link links) order →
    index < length order → slice_index order index ≡ row → IsFilled rom cert proc order index table → AreLinksFrom links row some →
    IsBest some table (ahead_at table row) best → IsFilled rom cert proc order (index + 1) (set table row best)
fill rom cert proc links some order table index row best are is inside row_is filled from is_best =
    let new = set table row best in
    let belongs : Belongs cert proc row = subst (λ (n : ℕ). Belongs cert proc n) row_is (order_belongs rom cert proc links order index are is inside) in
    let within = slice_get_within cert.rows row belongs.row belongs.is in
    let room : row < length table = let all = filled.room in omega (arith, within, all) in
    let same : ahead_at new row ≡ best = get_or-set_same table row best None room in
    let other : (q : ℕ) → (q ≡ row → ⊥) → ahead_at new q ≡ ahead_at table q = λ q ne. get_or-set_other table row q best None ne in
    let not_row : (j : ℕ) → j < index → slice_index order j ≡ row → ⊥ = λ j less e. is.once j index less inside (e ∙ sym row_is) in
    let exit = filled.rest row belongs not_row in
    let led : (ahead : Ahead) → best ≡ Some ahead → (ahead_at table row ≡ Some ahead) ⊎ LinkAhead links table row ahead =
    λ ahead best_is. elim is_best.by [ inl own ↦ inl (sym own ∙ best_is) | inr z ↦ inr (by_link links some table row best ahead from z best_is) ] in
    record {
      room = length-set table row best ∙ filled.room;
      done = λ k less.
          elim (cases_lt k index) [
            | inl before ↦ ahead_kept rom cert proc links order table index k row best are is before inside row_is (filled.done k before)
            | inr not ↦
                let here : k ≡ index = omega (arith, less, not) in
                let ahead : IsAhead rom cert proc new row = record {
                  greatest = λ rows sum goes.
                      subst (λ (o : Option Ahead). IsUpTo sum o) (sym same)
                      (best_ahead rom cert proc links some order table index row best are is inside row_is belongs filled from is_best exit rows sum goes);
                  leads = λ ahead at.
                      elim (led ahead (sym same ∙ at)) [
                        | inl own ↦ inl (subst (λ (o : Option Ahead). IsOwnExit rom cert row o) own exit)
                        | inr z ↦
                            let calls = subst (λ (n : ℕ). Calls (map edge_of_link links) n z.link.to) (z.from_is ∙ sym row_is) (link_calls links z.link z.listed) in
                            let early = leads_earlier (map edge_of_link links) order index z.link.to is inside calls in
                            inr record {
                              next = z.link.to;
                              next_is = z.next_is;
                              cost = z.link.cost;
                              apart = subst (λ (n : ℕ). AreApart rom cert n z.link.to z.link.cost) z.from_is (are.only z.link z.listed).1;
                              there = z.there;
                              there_is = other z.link.to (λ e. not_row early.at early.before (early.is ∙ e)) ∙ z.there_is;
                              sum_is = z.sum_is;
                              behind_is = z.behind_is;
                            }
                      ];
                } in
                subst (λ (n : ℕ). IsAhead rom cert proc new n) (sym (ap (slice_index order) here ∙ row_is)) ahead
          ];
      rest = λ q of none.
          let ne : q ≡ row → ⊥ = λ e. none index (omega arith) (row_is ∙ sym e) in
          subst (λ (o : Option Ahead). IsOwnExit rom cert q o) (sym (other q ne)) (filled.rest q of (λ k less. none k (omega (arith, less))));
      only = λ q ahead at.
          elim (cases_eq q row) [
            | inl e ↦ subst (λ (n : ℕ). Belongs cert proc n) (sym e) belongs
            | inr ne ↦ filled.only q ahead (sym (other q ne) ∙ at)
          ];
      low = λ q ahead at.
          elim (cases_eq q row) [
            | inl e ↦
                elim (led ahead (sym same ∙ ap (ahead_at new) (sym e) ∙ at)) [
                  | inl own ↦
                      let low = filled.low row ahead own in
                      (omega (arith, low.0), omega (arith, low.1))
                  | inr z ↦
                      let low = filled.low z.link.to z.there z.there_is in
                      let cost = z.low in
                      (omega (arith, low.0, cost, z.sum_is), omega (arith, low.1, z.behind_is))
                ]
            | inr ne ↦
                let low = filled.low q ahead (sym (other q ne) ∙ at) in
                (omega (arith, low.0), omega (arith, low.1))
          ];
    }

-- before the first row of the order
pub fill_none : (rom : List ℕ) (cert : CertificateView) (proc : ℕ) (order : List ℕ) (table : List (Option Ahead)) → HasExits rom cert proc table →
    IsFilled rom cert proc order 0 table
fill_none rom cert proc order table has = record {
  room = has.room;
  done = λ k less. absurd (omega (arith, less));
  rest = λ row belongs none. has.each row belongs;
  only = has.only;
  low = λ row ahead at.
      let low = has.low row ahead at in
      (omega (arith, low.0), omega (arith, low.1));
}

-- an order has at most 65,536 rows
pub few_rows : (edges : List Edge) (order : List ℕ) → IsCallOrder edges order → ((k : ℕ) → k < length order → slice_index order k < 65536) → length order ≤ 65536
few_rows edges order is fits = few 65536 order is.once fits

pub small_so_far : (rom : List ℕ) (cert : CertificateView) (proc : ℕ) (order : List ℕ) (place : ℕ) (table : List (Option Ahead)) → place ≤ 65536 →
    IsFilled rom cert proc order place table → AreSmall table
small_so_far rom cert proc order place table few filled = record {
  each = λ row ahead at.
      let low = filled.low row ahead at in
      (omega (arith, low.0, few), omega (arith, low.1, few));
}

-- after the last row of the order
pub fill_all : (rom : List ℕ) (cert : CertificateView) (proc : ℕ) (links : List Link) (order : List ℕ) (table : List (Option Ahead)) (place : ℕ) →
    AreLinks rom cert proc links → IsCallOrder (map edge_of_link links) order → length order ≤ 65536 → length order ≡ place →
    IsFilled rom cert proc order place table → IsTable rom cert proc table
fill_all rom cert proc links order table place are is few all filled = record {
  room = filled.room;
  each = λ row belongs.
      elim (in_list order row) [
        | inl z ↦ let before = z.before in subst (λ (n : ℕ). IsAhead rom cert proc table n) z.is (filled.done z.at (omega (arith, before, all)))
        | inr none ↦
            let exit = filled.rest row belongs (λ k less. none k (omega (arith, less, all))) in
            let alone : (to : ℕ) → MayComeNext rom cert row to → ⊥ = λ to next.
            let z = place_in order row (is.listed row (to, inl (next_calls rom cert proc links row to are belongs next))) in none z.0 z.1 z.2 in
            record {
              greatest = λ rows sum goes. ends_here rom cert proc row (ahead_at table row) exit alone rows sum goes;
              leads = λ ahead at. inl (subst (λ (o : Option Ahead). IsOwnExit rom cert row o) at exit);
            }
      ];
  only = filled.only;
  small = small_so_far rom cert proc order place table (omega (arith, few, all)) filled;
}

-- a row of the procedure has a place in the table
pub row_within : (rom : List ℕ) (cert : CertificateView) (proc : ℕ) (order : List ℕ) (place : ℕ) (table : List (Option Ahead)) → IsFilled rom cert proc order place table →
    {row : ℕ} → Belongs cert proc row → row < length table
row_within rom cert proc order place table filled {row} belongs =
    let within = slice_get_within cert.rows row belongs.row belongs.is in
    let room = filled.room in omega (arith, within, room)
