use Rattle.std.proofs.Common.{rules, arith, ◌≡◌, ◌+◌, ◌-◌, ℕ, suc, List, Option, Some, reverse, subst, sym}
use Rattle.dearest_way.specs.Along.{IsAlong, IsWayPart, before_at, first_row, last_row_of}
use Rattle.dearest_way.specs.declared.parts.WayPart.{WayPart}
use Rattle.dearest_way.proofs.AlongLemmas.{along_more, first_more}
use Rattle.dearest_way.proofs.parts.parts_along.Goals as goal

pub loop-place-preserved : goal.loop-place-preserved
loop-place-preserved c =
    let route = c.args.route.now in
    let place = c.loop-place.place in
    let parts = c.loop-place.parts.items in
    let sum = c.loop-place.sum in
    let part = c.in-Some.part in
    let more = c.in-Some-checked_add.more in
    let is = c.loop-place.invariant in
    let of = c.in-Some.ensures {u = tt} in
    let items = (c.in_ok-push.ensures {u = tt}).items in
    let more_is : more ≡ part.cost + sum = search rules in
    let back : suc (place - 1) ≡ place = omega (arith, c.loop-place-test.true) in
    let from = subst (λ (n : ℕ). before_at route n ≡ Some (last_row_of part.row part.left_by)) back of.from in
    let is_part = subst (λ (o : Option ℕ). IsWayPart c.args.rom.now c.args.certificate.now (before_at route (place - 1)) o sum part) is.next of.part in
    record {
      within = omega (arith, is.within);
      along = subst (λ (ps : List WayPart). IsAlong c.args.rom.now c.args.certificate.now (before_at route (place - 1)) (reverse ps) more) (sym items)
          (along_more c.args.rom.now c.args.certificate.now (before_at route (place - 1)) (before_at route place) parts part sum more is.along from is_part more_is);
      next = subst (λ (ps : List WayPart). Some part.row ≡ first_row (reverse ps)) (sym items) (first_more parts part);
    }
