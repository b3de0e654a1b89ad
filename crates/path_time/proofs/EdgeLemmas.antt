-- Links as edges: the rows of links in their order.
use Rattle.std.proofs.Common.{◌≡◌, ◌≢◌, ◌<◌, ◌⊎◌, ◌∙◌, ℕ, zero, suc, List, [], ◌∷◌, Contains, length, get_or, map, slice_index, inl, inr, sym, ap, subst, arith}
use Rattle.std.proofs.lemmas.Bool.{cases_eq}
use Rattle.std.proofs.lemmas.List.{get_or_default, get_or-map, length-map}
use Rattle.std.proofs.lemmas.Option.{same_Some}
use Rattle.call_graph.proofs.OrderLemmas.{place_in}
use Rattle.call_graph.specs.Calls.{Calls, IsCallOrder, Occurs}
use Rattle.call_graph.specs.declared.edge.Edge.{Edge}
use Rattle.cert_lines.specs.declared.row.Row.{Row}
use Rattle.cert_form.specs.Contents.{CertificateView}
use Rattle.check_ways.proofs.RestartLemmas.{own_jump, timed_stays}
use Rattle.check_ways.specs.Pays.{IsWalked, Lands, LieBetween}
use Rattle.check_ways.specs.Ways.{IsWay, SubjectView, WayView}
use Rattle.path_time.specs.Links.{AreLinks, edge_of_link}
use Rattle.path_time.specs.Walks.{Belongs, MayComeNext}
use Rattle.path_time.specs.declared.links.Link.{Link}

-- ---- links and edges

pub link_calls : (links : List Link) (link : Link) → Contains links link → Calls (map edge_of_link links) link.from link.to
link_calls links link listed =
    (listed.0, rw (length-map links edge_of_link) listed.1, get_or-map edge_of_link links listed.0 link (edge_of_link link) listed.1 ∙ ap edge_of_link listed.2)

-- a link of an edge
pub record LinkOf (links : List Link) (from to : ℕ) : Type 0 where
  pub link : Link
  pub listed : Contains links link
  pub from_is : link.from ≡ from
  pub to_is : link.to ≡ to

pub link_of : (links : List Link) (from to : ℕ) → Calls (map edge_of_link links) from to → LinkOf links from to
link_of links from to calls =
    let none : Link = record { from = 0; to = 0; cost = 0 } in
    let edge : Edge = record { caller = from; callee = to } in
    let inside : calls.0 < length links = rw (length-map links edge_of_link) at calls.1 in
    let link : Link = get_or links calls.0 none in
    let is : edge_of_link link ≡ edge = sym (get_or-map edge_of_link links calls.0 none edge inside) ∙ calls.2 in
    record {
      link = link;
      listed = (calls.0, inside, get_or_default links calls.0 link none inside);
      from_is = ap (λ (e : Edge). e.caller) is;
      to_is = ap (λ (e : Edge). e.callee) is;
    }

-- a row that may come next has a link to it
pub next_calls : (rom : List ℕ) (cert : CertificateView) (proc : ℕ) (links : List Link) (from to : ℕ) → AreLinks rom cert proc links → Belongs cert proc from →
    MayComeNext rom cert from to → Calls (map edge_of_link links) from to
next_calls rom cert proc links from to are belongs next =
    let has = are.all from to belongs next in
    link_calls links (record { from = from; to = to; cost = has.0 }) has.1

-- ---- rows of the procedure

landed_of : (s : SubjectView) (way : WayView) (target : Row) → IsWalked s → IsWay s way → Lands s.cert way target → target.proc ≡ s.row.proc
landed_of s way target walked (inl jump) lands =
    lands.at.of ∙ ap (λ (w : WayView). w.arrival.proc) (jump.is ∙ sym (own_jump s jump.next (timed_stays s walked.timed)))
landed_of s way target walked (inr back) lands = lands.at.of ∙ ap (λ (w : WayView). w.arrival.proc) back.is

-- a row that may come next is of the same procedure
pub next_belongs : (rom : List ℕ) (cert : CertificateView) (proc from to cost : ℕ) → Belongs cert proc from → LieBetween rom cert from to cost → Belongs cert proc to
next_belongs rom cert proc from to cost belongs lie =
    let same : lie.subject.row ≡ belongs.row = same_Some lie.subject.row belongs.row (sym lie.is_from.at ∙ belongs.is) in
    record {
      row = lie.target;
      is = lie.is_to;
      of = landed_of lie.subject lie.lies.way lie.target lie.lies.walked lie.lies.leads.is_way lie.lies.leads.lands ∙ ap (λ (r : Row). r.proc) same ∙ belongs.of;
    }

pub link_belongs : (rom : List ℕ) (cert : CertificateView) (proc : ℕ) (links : List Link) (link : Link) → AreLinks rom cert proc links → Contains links link →
    Belongs cert proc link.to
link_belongs rom cert proc links link are listed =
    let is = are.only link listed in
    next_belongs rom cert proc link.from link.to link.cost is.0 is.1.0

occurs_belongs : (rom : List ℕ) (cert : CertificateView) (proc : ℕ) (links : List Link) (row : ℕ) → AreLinks rom cert proc links → Occurs (map edge_of_link links) row →
    Belongs cert proc row
occurs_belongs rom cert proc links row are occurs =
    elim occurs.1 [
      | inl calls ↦
          let z = link_of links row occurs.0 calls in
          subst (λ (n : ℕ). Belongs cert proc n) z.from_is (are.only z.link z.listed).0
      | inr called ↦
          let z = link_of links occurs.0 row called in
          subst (λ (n : ℕ). Belongs cert proc n) z.to_is (link_belongs rom cert proc links z.link are z.listed)
    ]

-- ---- the order

contains_index : (list : List ℕ) (k : ℕ) → k < length list → Contains list (slice_index list k)
contains_index list k within = (k, within, get_or_default list k (slice_index list k) 0 within)

pub order_belongs : (rom : List ℕ) (cert : CertificateView) (proc : ℕ) (links : List Link) (order : List ℕ) (k : ℕ) → AreLinks rom cert proc links →
    IsCallOrder (map edge_of_link links) order → k < length order → Belongs cert proc (slice_index order k)
order_belongs rom cert proc links order k are is within =
    occurs_belongs rom cert proc links (slice_index order k) are (is.only (slice_index order k) (contains_index order k within))

-- an earlier place in an order, with this row
pub record Earlier (order : List ℕ) (place row : ℕ) : Type 0 where
  pub at : ℕ
  pub before : at < place
  pub is : slice_index order at ≡ row

-- the row to which a link leads comes before the one from which it leads
pub leads_earlier : (edges : List Edge) (order : List ℕ) (place to : ℕ) → IsCallOrder edges order → place < length order →
    Calls edges (slice_index order place) to → Earlier order place to
leads_earlier edges order place to is within calls =
    let z = place_in order to (is.listed to (slice_index order place, inr calls)) in
    let edge = subst (λ (n : ℕ). Calls edges (slice_index order place) n) (sym z.2) calls in
    record { at = z.0; before = is.callees_first place z.0 within z.1 edge; is = z.2 }

-- a row is in a list or not
pub in_list : (list : List ℕ) (row : ℕ) → Earlier list (length list) row ⊎ ((k : ℕ) → k < length list → slice_index list k ≢ row)
in_list [] row = inr (λ k within. absurd (omega (arith, within)))
in_list (x ∷ xs) row =
    elim (cases_eq x row) [
      | inl same ↦ inl record { at = 0; before = omega arith; is = same }
      | inr other ↦
          elim (in_list xs row) [
            | inl z ↦ let before = z.before in inl record { at = suc z.at; before = omega (arith, before); is = z.is }
            | inr none ↦ inr (beyond x xs row other none)
          ]
    ]
  where
    beyond : (y : ℕ) (ys : List ℕ) (r : ℕ) → (y ≡ r → ⊥) → ((k : ℕ) → k < length ys → slice_index ys k ≢ r) → (k : ℕ) → k < length (y ∷ ys) →
        slice_index (y ∷ ys) k ≢ r
    beyond y ys r other none zero within = other
    beyond y ys r other none (suc k) within = none k (omega (arith, within))
