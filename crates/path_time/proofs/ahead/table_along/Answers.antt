use Rattle.std.proofs.Common.{◌≡◌, ◌<◌, ◌∙◌, ℕ, List, None, Option, length, map, slice_index, arith, rules, subst, sym}
use Rattle.std.proofs.lemmas.List.{get_or_default}
use Rattle.path_time.specs.Links.{edge_of_link}
use Rattle.path_time.specs.Table.{AreLinksFrom, IsBest, ahead_at}
use Rattle.path_time.specs.declared.ahead.Ahead.{Ahead}
use Rattle.path_time.proofs.EdgeLemmas.{link_belongs, order_belongs}
use Rattle.path_time.proofs.TableLemmas.{few_rows, fill, fill_all, row_within, small_so_far}
use Rattle.path_time.proofs.ahead.table_along.Goals as goal

pub index-requires : goal.index-requires
index-requires c =
    let inside = row_within c.args.rom.now c.args.certificate.now c.args.proc c.args.order.now c.loop-row.row-index c.loop-row.table.items c.loop-row.invariant
    (order_belongs c.args.rom.now c.args.certificate.now c.args.proc c.args.links.now c.args.order.now c.loop-row.row-index c.requires.links c.requires.order c.loop-row-test.true) in
    omega (arith, inside, c.from-at.ensures, c.loop-row.table.ok.0)

pub index_mut-requires : goal.index_mut-requires
index_mut-requires c =
    let inside = row_within c.args.rom.now c.args.certificate.now c.args.proc c.args.order.now c.loop-row.row-index c.loop-row.table.items c.loop-row.invariant
    (order_belongs c.args.rom.now c.args.certificate.now c.args.proc c.args.links.now c.args.order.now c.loop-row.row-index c.requires.links c.requires.order c.loop-row-test.true) in
    omega (arith, inside, c.from-at.ensures, c.loop-row.table.ok.0)

pub best_by-requires-clause-within : goal.best_by-requires-clause-within
best_by-requires-clause-within c = λ link listed.
    let whole = (c.links_from.ensures.only link listed).0 in
    rw c.deref.ensures.value
    (row_within c.args.rom.now c.args.certificate.now c.args.proc c.args.order.now c.loop-row.row-index c.loop-row.table.items c.loop-row.invariant
    (link_belongs c.args.rom.now c.args.certificate.now c.args.proc c.args.links.now link c.requires.links whole))

pub best_by-requires-clause-small : goal.best_by-requires-clause-small
best_by-requires-clause-small c =
    let fits : (k : ℕ) → k < length c.args.order.now → slice_index c.args.order.now k < 65536 = λ k within. search (rules, c.type_inv.order k) in
    let few = few_rows (map edge_of_link c.args.links.now) c.args.order.now c.requires.order fits in
    rw c.deref.ensures.value
    (small_so_far c.args.rom.now c.args.certificate.now c.args.proc c.args.order.now c.loop-row.row-index c.loop-row.table.items
    (omega (arith, few, c.loop-row-test.true)) c.loop-row.invariant)

pub loop-row-preserved : goal.loop-row-preserved
loop-row-preserved c =
    let rom = c.args.rom.now in
    let cert = c.args.certificate.now in
    let links = c.args.links.now in
    let order = c.args.order.now in
    let index = c.loop-row.row-index in
    let table = c.loop-row.table.items in
    let row = c.from-at.result in
    let some = c.links_from.result.now in
    let best = c.best_by.result in
    let belongs = order_belongs rom cert c.args.proc links order index c.requires.links c.requires.order c.loop-row-test.true in
    let inside : row < length table =
    rw c.from-at.ensures (row_within rom cert c.args.proc order index table c.loop-row.invariant belongs) in
    let before : c.index.result.now ≡ ahead_at table row = c.index.ensures ∙ get_or_default table row c.index.result.now None inside in
    fill rom cert c.args.proc links some order table index row best c.requires.links c.requires.order c.loop-row-test.true (sym c.from-at.ensures)
    c.loop-row.invariant (subst (λ (n : ℕ). AreLinksFrom links n some) (sym c.from-at.ensures) c.links_from.ensures)
    (subst (λ (o : Option Ahead). IsBest some table o best) before (subst (λ (t : List (Option Ahead)). IsBest some t c.index.result.now best) c.deref.ensures.value c.best_by.ensures))

pub returns : goal.returns
returns c =
    let fits : (k : ℕ) → k < length c.args.order.now → slice_index c.args.order.now k < 65536 = λ k within. search (rules, c.type_inv.order k) in
    let few = few_rows (map edge_of_link c.args.links.now) c.args.order.now c.requires.order fits in
    fill_all c.args.rom.now c.args.certificate.now c.args.proc c.args.links.now c.args.order.now c.loop-row.table.items c.loop-row.row-index c.requires.links
    c.requires.order few (search rules) c.loop-row.invariant
