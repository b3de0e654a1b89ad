use Rattle.std.proofs.Common.{[], pos, arith}
use Rattle.std.proofs.lemmas.List.{ext_get_or}
use Rattle.flag_letters.specs.declared.part.FlagPart.{FlagPart}
use Rattle.flag_letters.specs.declared.letter.Letter.TheVariants.{Zero}
use Rattle.check_cover.proofs.claims.are_same_parts.Goals as goal

pub returns : goal.returns
returns c = λ e. ext_get_or (record { letter = Zero; linear = record { constant = pos 0; terms = [] } }) c.args.parts.now c.args.other.now (omega arith) (λ k within. c.loop-at.invariant k (record { letter = Zero; linear = record { constant = pos 0; terms = [] } }) (omega (arith, within, c.loop-at-test.false)))
