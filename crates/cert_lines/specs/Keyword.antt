-- The first field of each kind of line.
use Rattle.std.specs.Prelude.{ℕ, List, codes}
use Rattle.cert_lines.specs.declared.reading.Keyword.{Keyword}
use Rattle.cert_lines.specs.declared.reading.Keyword.TheVariants as keywords

abbrev pub keyword_text : Keyword → List ℕ
keyword_text keywords.Galcert = codes "galcert"
keyword_text keywords.Rom = codes "rom"
keyword_text keywords.Map = codes "map"
keyword_text keywords.Stack = codes "stack"
keyword_text keywords.Budget = codes "budget"
keyword_text keywords.Proc = codes "proc"
keyword_text keywords.Split = codes "split"
keyword_text keywords.Inline = codes "inline"
keyword_text keywords.Cell = codes "cell"
keyword_text keywords.Row = codes "row"
keyword_text keywords.End = codes "end"

-- the lines that a certificate has once
abbrev pub StandsOnce : Keyword → Type 0
StandsOnce keywords.Proc = ⊥
StandsOnce keywords.Split = ⊥
StandsOnce keywords.Inline = ⊥
StandsOnce keywords.Cell = ⊥
StandsOnce keywords.Row = ⊥
StandsOnce _ = Unit {0}
