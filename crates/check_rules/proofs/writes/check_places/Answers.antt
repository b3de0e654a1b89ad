use Rattle.std.proofs.Common.{◌≡◌, true, false, refl}
use Rattle.abs_step.specs.declared.reason.Reason.TheVariants as reasons
use Rattle.check_rules.proofs.Order.{passes}
use Rattle.check_rules.proofs.writes.check_places.Goals as goal

never : false ≡ true → ⊥
never e = cc

pub returns-then-not-misses_unmapped : goal.returns-then-not-misses_unmapped
returns-then-not-misses_unmapped c = record {
  applies = λ pass. never (c.if-not-misses_unmapped.ensures.1 pass);
  lowest = passes c.args.subject.now reasons.WriteRom 7 refl refl c.requires.below (c.if-not-misses_rom.ensures.0 refl);
}

pub returns-then-not-misses_stack : goal.returns-then-not-misses_stack
returns-then-not-misses_stack c = record {
  applies = λ pass. never (c.if-not-misses_stack.ensures.1 pass);
  lowest =
      passes c.args.subject.now reasons.WriteUnmapped 8 refl refl
      (passes c.args.subject.now reasons.WriteRom 7 refl refl c.requires.below (c.if-not-misses_rom.ensures.0 refl))
      (c.if-not-misses_unmapped.ensures.0 refl);
}

pub returns : goal.returns
returns c =
    passes c.args.subject.now reasons.StackOverwrite 9 refl refl
    (passes c.args.subject.now reasons.WriteUnmapped 8 refl refl
    (passes c.args.subject.now reasons.WriteRom 7 refl refl c.requires.below (c.if-not-misses_rom.ensures.0 refl))
    (c.if-not-misses_unmapped.ensures.0 refl)) (c.if-not-misses_stack.ensures.0 refl)
