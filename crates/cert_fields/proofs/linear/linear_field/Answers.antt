use Rattle.std.proofs.Common.{◌≡◌, [], SFits, w32, rules, subst}
use Rattle.std.proofs.lemmas.Int.{to_z-of_z}
use Rattle.cert_fields.specs.Terms.{IsKept}
use Rattle.cert_fields.proofs.LinearLemmas.{no_constant, reading_begins, reading_more, reading_shorter, reading_stops}
use Rattle.cert_fields.proofs.linear.linear_field.Goals as goal

pub returns-in_err-constant : goal.returns-in_err-constant
returns-in_err-constant c = rw c.from_residual.ensures (no_constant c.args.slots c.args.field.now c.in_err-constant.ensures)

pub loop-rest-init : goal.loop-rest-init
loop-rest-init c =
    let fits : SFits w32 c.in_ok-constant.constant = search rules in
    let read = c.in_ok-constant.ensures in
    let begins = subst (λ z. IsKept c.args.slots (record { constant = z; terms = [] }) c.of_constant-so_far.result) (to_z-of_z w32 c.in_ok-constant.constant fits) (c.of_constant-so_far.ensures c.args.slots) in
    reading_begins c.args.slots c.args.field.now c.in_ok-constant.rest.now c.of_constant-so_far.result c.in_ok-constant.constant begins read.1 read.2

pub returns-in_err-rest : goal.returns-in_err-rest
returns-in_err-rest c =
    let some : c.loop-rest.rest.now ≡ [] → ⊥ = search rules in
    let reading = c.loop-rest.invariant in
    rw c.from_residual-in_err-rest.ensures
    (reading_stops c.args.slots c.args.field.now c.loop-rest.rest.now c.loop-rest.so_far reading c.add_first.new.self c.ranges.slots.fits some (c.in_err-rest.ensures reading.done reading.keeps))

pub loop-rest-smaller : goal.loop-rest-smaller
loop-rest-smaller c =
    let reading = c.loop-rest.invariant in
    reading_shorter c.args.slots c.args.field.now c.loop-rest.rest.now c.loop-rest.so_far reading c.add_first.new.self c.in_ok-rest.rest (c.in_ok-rest.ensures reading.done reading.keeps)

pub loop-rest-preserved : goal.loop-rest-preserved
loop-rest-preserved c =
    let reading = c.loop-rest.invariant in
    reading_more c.args.slots c.args.field.now c.loop-rest.rest.now c.loop-rest.so_far reading c.add_first.new.self c.in_ok-rest.rest (c.in_ok-rest.ensures reading.done reading.keeps)
