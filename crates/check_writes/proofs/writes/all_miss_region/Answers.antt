use Rattle.std.proofs.Common.{◌≡◌, true, false, refl, sym, subst, arith}
use Rattle.abs_laws.specs.Writes.{MissesRegion}
use Rattle.check_cover.proofs.Lists.{one_more}
use Rattle.check_writes.proofs.writes.all_miss_region.Goals as goal

never : false ≡ true → ⊥
never e = cc

pub loop-write-preserved : goal.loop-write-preserved
loop-write-preserved c =
    one_more (MissesRegion c.args.map.now c.args.region) c.args.writes.now c.loop-write.write-index c.write-item.result
    c.loop-write.invariant c.loop-write-test.true c.write-item.is (c.if-not-misses_region.ensures.0 refl)

pub returns-then-not-misses_region : goal.returns-then-not-misses_region
returns-then-not-misses_region c = (
  (λ e. absurd (never e)),
  λ all. absurd (never (c.if-not-misses_region.ensures.1 (subst (MissesRegion c.args.map.now c.args.region) (sym c.write-item.is) (all c.loop-write.write-index c.write-item.result c.loop-write-test.true)))),
)

pub returns : goal.returns
returns c = ((λ e k d within. c.loop-write.invariant k d (omega (arith, c.loop-write-test.false, within))), λ all. refl)
