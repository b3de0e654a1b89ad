use Rattle.std.proofs.Common.{◌≡◌, ◌<◌, ◌++◌, ◌∷◌, [], length, codes, rules, arith}
use Rattle.cert_fields.proofs.ShapeLemmas.{no_slots, shape_stops, shape_more, shape_fits, shape_long, count_below}
use Rattle.cert_fields.proofs.shape.shape_field.Goals as goal

pub returns-then-eq : goal.returns-then-eq
returns-then-eq c =
    let dash : c.args.field.now ≡ codes "-" = search rules in
    rw c.empty-shape.ensures (no_slots c.args.field.now dash)

pub returns-in_err-pair : goal.returns-in_err-pair
returns-in_err-pair c =
    let other : c.args.field.now ≡ codes "-" → ⊥ = search rules in
    rw c.from_residual.ensures
    (shape_stops c.args.field.now c.loop-part.fields c.loop-part.shape c.loop-part.count c.loop-part.invariant _ _ other c.in-Some.ensures c.in_err-pair.ensures)

pub loop-part-preserved : goal.loop-part-preserved
loop-part-preserved c =
    let pushed : length c.loop-part.shape < 64 → c.push-fits.new.self ≡ c.loop-part.shape ++ (record { pair = c.in_ok-pair.pair }) ∷ [] = λ room. search rules in
    shape_more _ c.loop-part.fields c.loop-part.shape c.loop-part.count c.loop-part.invariant _ _ _ c.in_ok-pair.pair c.in-Some.ensures c.in_ok-pair.ensures pushed

pub returns-then-count-gt-SLOTS : goal.returns-then-count-gt-SLOTS
returns-then-count-gt-SLOTS c =
    shape_long c.args.field.now c.loop-part.fields c.loop-part.shape c.loop-part.count c.loop-part.invariant c.in_default.ensures.0 c.if-count-gt-SLOTS.true

pub returns : goal.returns
returns c =
    shape_fits c.args.field.now c.loop-part.fields c.loop-part.shape c.loop-part.count c.loop-part.invariant c.in_default.ensures.0 c.if-count-gt-SLOTS.false

pub prove-unreachable-requires : goal.prove-unreachable-requires
prove-unreachable-requires c =
    let below = count_below c.args.field.now c.loop-part.fields c.loop-part.shape c.loop-part.count c.loop-part.invariant _ _ c.in_ok-pair.pair c.in-Some.ensures c.in_ok-pair.ensures.1 in
    omega (arith, below)
