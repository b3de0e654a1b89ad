use Rattle.std.proofs.Common.{◌≡◌, ◌<◌, ◌≤◌, ◌↔◌, ℕ, Some, slice_get}
use Rattle.std.specs.Result.{OnOk}
use Rattle.std.proofs.lemmas.Result.{on_ok_weaker}
use Rattle.cert_lines.specs.declared.row.Row.{Row}
use Rattle.path_time.specs.Links.{Added, IsArrival, IsWithin}
use Rattle.path_time.proofs.LinkLemmas.{added_fewer, within_if_arrival}
use Rattle.path_time.proofs.links.add_links_by.Goals as goal

pub returns-in-Some : goal.returns-in-Some
returns-in-Some c =
    let s = c.args.subject.now in
    let next = c.args.next.now in
    let address = c.in-Some.address in
    let start = c.rows_at-rows.result.start in
    let end = c.rows_at-rows.result.end in
    let old = c.args.links.now.items in
    let new = c.add_links_to.new.links.items in
    let view = c.subject.view_is in
    let inside = c.subject-inside.view_is in
    let added : OnOk c.add_links_to.result (Added s.rom s.cert c.args.from (IsWithin start end) old new) = c.add_links_to.ensures in
    let rows : (k : ℕ) (row : Row) → slice_get s.cert.rows k ≡ Some row → ((start ≤ k) × (k < end)) ↔ ((row.proc ≡ s.row.proc) × (row.address ≡ address)) =
    rw (← view, ← inside) c.rows_at-rows.ensures.at in
    on_ok_weaker c.add_links_to.result
    (added_fewer s.rom s.cert c.args.from (IsWithin start end) (IsArrival s next) old new
    (λ to arrival next_is. within_if_arrival s next address start end (c.in-Some.ensures {u = tt}) rows to arrival))
    added
