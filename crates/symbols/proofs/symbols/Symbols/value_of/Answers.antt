use Rattle.std.proofs.Common.{ap, sym, ◌∙◌, ◌≡◌, Some}
use Rattle.std.specs.Option.{option_map}
use Rattle.std.specs.Str.{bytes_eq}
use Rattle.std.specs.String.{string_bytes}
use Rattle.symbols.proofs.NameLemmas.{Contains-names_of, lookup-named}
use Rattle.symbols.proofs.symbols.Symbols.value_of.Goals as goal
use Rattle.symbols.specs.Names.{value_of_name}

-- the value that the map has
found : (c : goal.In-Some) → Some c.in-Some.definition.now.value ≡ value_of_name c.args.self.now c.args.name.now
found c =
    ap (option_map (λ d. d.value)) c.in-Some.ensures.value
    ∙ (sym (lookup-named string_bytes (λ d. d.value) (bytes_eq c.args.name.now) c.self.inside.definitions.entries) ∙ ap (λ s. value_of_name s c.args.name.now) c.self.view_is)

pub returns-in-Some-clause-value : goal.returns-in-Some-clause-value
returns-in-Some-clause-value c = found c

pub returns-in-Some-clause-listed : goal.returns-in-Some-clause-listed
returns-in-Some-clause-listed c = Contains-names_of _ _ _ (sym (found c))

pub returns-in-None-clause-value : goal.returns-in-None-clause-value
returns-in-None-clause-value c =
    ap (option_map (λ d. d.value)) c.in-None.ensures.value
    ∙ (sym (lookup-named string_bytes (λ d. d.value) (bytes_eq c.args.name.now) c.self.inside.definitions.entries) ∙ ap (λ s. value_of_name s c.args.name.now) c.self.view_is)
