use Rattle.std.proofs.Common.{◌≡◌, ◌≤◌, ◌<◌, arith, rules, subst}
use Rattle.std.proofs.lemmas.Bool.{leb-true, leb-false}
use Rattle.address_map.proofs.Laws.{is_work, work_interval}
use Rattle.address_map.specs.AddressMap.{map_of}
use Rattle.address_map.specs.WorkRam.{work_start, work_last}
use Rattle.address_map.proofs.map.Map.is_work.Goals as goal

pub returns-then-self-address-clause-work : goal.returns-then-self-address-clause-work
returns-then-self-address-clause-work c last =
    let m = map_of c.self.inside.zones.items c.self.inside.rom_len in
    let low : c.self.inside.work_start ≤ c.args.address = c.if-self-address.true in
    let high : c.args.address ≤ c.self.inside.work_last = leb-true _ _ last in
    let start : c.self.inside.work_start ≡ work_start m = c.self.invariant.2.start in
    let end : c.self.inside.work_last ≡ work_last m = c.self.invariant.2.last in
    rw (← c.self.view_is) (is_work m c.self.invariant.0 c.args.address (omega arith) (omega arith))

pub returns-then-self-address-clause-other : goal.returns-then-self-address-clause-other
returns-then-self-address-clause-other c past written =
    let m = map_of c.self.inside.zones.items c.self.inside.rom_len in
    let high : c.self.inside.work_last < c.args.address = leb-false _ _ past in
    let end : c.self.inside.work_last ≡ work_last m = c.self.invariant.2.last in
    let inside = work_interval m c.self.invariant.0 c.args.address (rw c.self.view_is written) in
    let within : c.args.address ≤ work_last m = inside.1 in
    omega arith

pub returns-else-self-address-clause-other : goal.returns-else-self-address-clause-other
returns-else-self-address-clause-other c before written =
    let m = map_of c.self.inside.zones.items c.self.inside.rom_len in
    let low : c.args.address < c.self.inside.work_start = c.if-self-address.false in
    let start : c.self.inside.work_start ≡ work_start m = c.self.invariant.2.start in
    let inside = work_interval m c.self.invariant.0 c.args.address (rw c.self.view_is written) in
    let within : work_start m ≤ c.args.address = inside.0 in
    omega arith
