use Rattle.std.proofs.Common.{ap, sym, ◌∙◌, find, Some}
use Rattle.std.specs.Option.{option_map}
use Rattle.std.specs.String.{string_bytes}
use Rattle.symbols.proofs.NameLemmas.{find-map}
use Rattle.symbols.proofs.symbols.Symbols.shown_at.Goals as goal
use Rattle.symbols.specs.Names.{is_shown_name}

pub returns-in-Some : goal.returns-in-Some
returns-in-Some c =
    ap Some c.as_str.ensures.value ∙ (ap (option_map string_bytes) c.in-Some.ensures ∙ (sym (find-map string_bytes is_shown_name c.names_at.result.now) ∙ ap (find is_shown_name) c.names_at.ensures))

pub returns-in-None : goal.returns-in-None
returns-in-None c = ap (option_map string_bytes) c.in-None.ensures ∙ (sym (find-map string_bytes is_shown_name c.names_at.result.now) ∙ ap (find is_shown_name) c.names_at.ensures)
