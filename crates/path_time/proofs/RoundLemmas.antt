-- Cycles of rows, and cycles of edges.
use Rattle.std.proofs.Common.{◌≡◌, ◌<◌, ◌≤◌, ◌+◌, ◌-◌, ◌∙◌, ℕ, List, length, map, slice_index, inl, inr, sym, ap, subst, arith}
use Rattle.std.proofs.lemmas.Bool.{cases_lt}
use Rattle.std.proofs.lemmas.Option.{get_or_from_slice_get, same_Some, slice_get_within}
use Rattle.call_graph.specs.Calls.{Calls, IsCycle}
use Rattle.call_graph.specs.declared.edge.Edge.{Edge}
use Rattle.check_cover.proofs.OrderedLists.{in_order}
use Rattle.cert_lines.specs.declared.row.Row.{Row}
use Rattle.cert_form.specs.Contents.{CertificateView}
use Rattle.cert_form.specs.Form.{IsInForm, place_number}
use Rattle.path_time.proofs.EdgeLemmas.{link_of, next_calls}
use Rattle.path_time.specs.Links.{AreLinks, HaveRows, edge_of_link}
use Rattle.path_time.specs.Table.{IsOrderFault, IsTableFault}
use Rattle.path_time.specs.Walks.{Belongs, BelongsAt, GoesRound, MayComeNext}
use Rattle.path_time.specs.declared.fault.TimeFault.{TimeFault}
use Rattle.path_time.specs.declared.fault.TimeFault.TheVariants.{Cycle, Untimed, NoMemory}
use Rattle.path_time.specs.declared.links.Link.{Link}

-- a cycle of rows is a cycle of edges
pub round_cycle : (rom : List ℕ) (cert : CertificateView) (proc : ℕ) (links : List Link) (rows : List ℕ) → AreLinks rom cert proc links →
    GoesRound rom cert proc rows → IsCycle (map edge_of_link links) rows
round_cycle rom cert proc links rows are round =
    let some = round.some in record {
      some = some;
      next = λ k within.
          next_calls rom cert proc links (slice_index rows k) (slice_index rows (k + 1)) are (round.of k (omega (arith, within))) (round.next k within);
      back = next_calls rom cert proc links (slice_index rows (length rows - 1)) (slice_index rows 0) are (round.of (length rows - 1) (omega (arith, some))) round.back;
    }

-- an edge leads from a row of the procedure to one that may come next
calls_belongs : (rom : List ℕ) (cert : CertificateView) (proc : ℕ) (links : List Link) (from to : ℕ) → AreLinks rom cert proc links → Calls (map edge_of_link links) from to →
    Belongs cert proc from
calls_belongs rom cert proc links from to are calls =
    let z = link_of links from to calls in
    subst (λ (n : ℕ). Belongs cert proc n) z.from_is (are.only z.link z.listed).0

calls_next : (rom : List ℕ) (cert : CertificateView) (proc : ℕ) (links : List Link) (from to : ℕ) → AreLinks rom cert proc links → Calls (map edge_of_link links) from to →
    MayComeNext rom cert from to
calls_next rom cert proc links from to are calls =
    let z = link_of links from to calls in
    let next : MayComeNext rom cert z.link.from z.link.to = record { cost = z.link.cost; lie = (are.only z.link z.listed).1.0 } in
    subst (λ (n : ℕ). MayComeNext rom cert from n) z.to_is (subst (λ (n : ℕ). MayComeNext rom cert n z.link.to) z.from_is next)

-- a cycle of edges is a cycle of rows
pub cycle_round : (rom : List ℕ) (cert : CertificateView) (proc : ℕ) (links : List Link) (rows : List ℕ) → AreLinks rom cert proc links →
    IsCycle (map edge_of_link links) rows → GoesRound rom cert proc rows
cycle_round rom cert proc links rows are cycle =
    let some = cycle.some in record {
      some = some;
      of = λ k within.
          elim (cases_lt (k + 1) (length rows)) [
            | inl more ↦ calls_belongs rom cert proc links (slice_index rows k) (slice_index rows (k + 1)) are (cycle.next k more)
            | inr last ↦
                let same : length rows - 1 ≡ k = omega (arith, within, last) in
                subst (λ (n : ℕ). Belongs cert proc (slice_index rows n)) same
                (calls_belongs rom cert proc links (slice_index rows (length rows - 1)) (slice_index rows 0) are cycle.back)
          ];
      next = λ k within. calls_next rom cert proc links (slice_index rows k) (slice_index rows (k + 1)) are (cycle.next k within);
      back = calls_next rom cert proc links (slice_index rows (length rows - 1)) (slice_index rows 0) are cycle.back;
    }

-- the first row of a cycle leads on
first_calls : (edges : List Edge) (rows : List ℕ) → IsCycle edges rows → (to : ℕ) × Calls edges (slice_index rows 0) to
first_calls edges rows cycle =
    elim (cases_lt 1 (length rows)) [
      | inl more ↦ (slice_index rows 1, cycle.next 0 more)
      | inr one ↦
          let some = cycle.some in
          let same : length rows - 1 ≡ 0 = omega (arith, some, one) in
          (slice_index rows 0, subst (λ (n : ℕ). Calls edges (slice_index rows n) (slice_index rows 0)) same cycle.back)
    ]

-- so it exists
pub first_there : (cert : CertificateView) (links : List Link) (rows : List ℕ) → HaveRows cert links → IsCycle (map edge_of_link links) rows →
    slice_index rows 0 < length cert.rows
first_there cert links rows have cycle =
    let calls = first_calls (map edge_of_link links) rows cycle in
    let z = link_of links (slice_index rows 0) calls.0 calls.1 in
    subst (λ (n : ℕ). n < length cert.rows) z.from_is (have.each z.link z.listed)

-- of two rows of a procedure the lower number has an address that is lower or equal
lower_address : (cert : CertificateView) (proc low high a b : ℕ) → IsInForm cert → BelongsAt cert proc a low → BelongsAt cert proc b high → low ≤ high → a ≤ b
lower_address cert proc low high a b form one other order =
    let key : Row → ℕ = λ r. place_number r.proc r.address in
    let rise = in_order key cert.rows form.certificate.rows.rising low high one.row order (slice_get_within cert.rows high other.row other.is) in
    let first = ap key (get_or_from_slice_get cert.rows low one.row one.row one.is) in
    let second = ap key (get_or_from_slice_get cert.rows high other.row one.row other.is) in
    omega (arith, rise, first, second, one.of, one.at, other.of, other.at)

-- the reason for which there is no order is the one for which there is no table
pub order_table_fault : (rom : List ℕ) (cert : CertificateView) (proc : ℕ) (links : List Link) (fault : TimeFault) → IsInForm cert → AreLinks rom cert proc links →
    IsOrderFault cert (map edge_of_link links) fault → IsTableFault rom cert proc fault
order_table_fault rom cert proc links Untimed form are told = told
order_table_fault rom cert proc links NoMemory form are told = tt
order_table_fault rom cert proc links (Cycle address) form are told =
    let round = cycle_round rom cert proc links told.list are told.lowest.cycle in
    let belongs = round.of 0 round.some in
    let same : belongs.row ≡ told.row = same_Some belongs.row told.row (sym belongs.is ∙ told.is) in
    let at : BelongsAt cert proc address (slice_index told.list 0) =
    record { row = told.row; is = told.is; of = sym (ap (λ (r : Row). r.proc) same) ∙ belongs.of; at = told.at } in
    record {
      on = record { rows = told.list; round = round; place = 0; inside = round.some; at = at };
      lowest = λ other on.
          lower_address cert proc (slice_index told.list 0) (slice_index on.rows on.place) address other form at on.at
          (told.lowest.lowest on.rows (round_cycle rom cert proc links on.rows are on.round) on.place on.inside);
    }
