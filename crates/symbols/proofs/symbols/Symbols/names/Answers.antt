use Rattle.std.proofs.Common.{ap, sym, ◌∙◌, map}
use Rattle.std.specs.Map.{keys_of}
use Rattle.std.specs.String.{string_bytes}
use Rattle.symbols.proofs.NameLemmas.{keys_of-named}
use Rattle.symbols.proofs.symbols.Symbols.names.Goals as goal

pub returns : goal.returns
returns c = ap (map string_bytes) (c.as_slice.ensures ∙ c.keys.ensures.rest) ∙ sym (keys_of-named string_bytes (λ d. d.value) _) ∙ ap keys_of c.self.view_is
