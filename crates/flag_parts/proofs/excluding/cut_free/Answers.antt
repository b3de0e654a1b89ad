use Rattle.std.proofs.Common.{◌∙◌, sym}
use Rattle.abs_state.specs.Variables.{range_of}
use Rattle.flag_parts.proofs.ExcludingLemmas.{free_coefficient}
use Rattle.flag_parts.proofs.excluding.cut_free.Goals as goal

pub cut_balance-requires-clause-coefficient : goal.cut_balance-requires-clause-coefficient
cut_balance-requires-clause-coefficient c =
    free_coefficient (range_of c.args.state.now) c.args.linear.now c.terms.result.now _ c.terms.ensures.value c.terms.ensures.linear (sym c.free_terms-free.ensures ∙ c.in-One.is)
