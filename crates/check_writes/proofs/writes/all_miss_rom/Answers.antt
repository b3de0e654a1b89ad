use Rattle.std.proofs.Common.{◌≡◌, true, false, refl, sym, subst, arith}
use Rattle.address_map.specs.declared.map.WriteClass.TheVariants as classes
use Rattle.check_cover.proofs.Lists.{one_more}
use Rattle.check_writes.specs.Writes.{MissesClass}
use Rattle.check_writes.proofs.writes.all_miss_rom.Goals as goal

never : false ≡ true → ⊥
never e = cc

pub loop-write-preserved : goal.loop-write-preserved
loop-write-preserved c =
    one_more (MissesClass c.args.map.now classes.Rom) c.args.writes.now c.loop-write.write-index c.write-item.result
    c.loop-write.invariant c.loop-write-test.true c.write-item.is (c.if-not-misses_rom_zone.ensures.0 refl)

pub returns-then-not-misses_rom_zone : goal.returns-then-not-misses_rom_zone
returns-then-not-misses_rom_zone c = (
  (λ e. absurd (never e)),
  λ all. absurd (never (c.if-not-misses_rom_zone.ensures.1 (subst (MissesClass c.args.map.now classes.Rom) (sym c.write-item.is) (all c.loop-write.write-index c.write-item.result c.loop-write-test.true)))),
)

pub returns : goal.returns
returns c = ((λ e k d within. c.loop-write.invariant k d (omega (arith, c.loop-write-test.false, within))), λ all. refl)
