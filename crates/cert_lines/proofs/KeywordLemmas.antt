-- A line's first field is its keyword.
use Rattle.std.proofs.Common.{◌≡◌, ℕ, List, ◌∷◌, refl, ◌∙◌}
use Rattle.cert_lines.specs.Keyword.{keyword_text}
use Rattle.cert_lines.specs.Line.{fields_of}
use Rattle.cert_lines.specs.declared.line.Line.{Line}
use Rattle.cert_lines.specs.declared.line.Line.TheVariants as lines
use Rattle.cert_lines.specs.declared.reading.Keyword.{Keyword}
use Rattle.cert_lines.specs.declared.reading.Keyword.TheVariants as keywords
use Rattle.cert_lines.specs.declared.version.Version.{Version}

fields_begin : (v : Version) (line : Line) → (k : Keyword) × (rest : List (List ℕ)) × (fields_of v line ≡ keyword_text k ∷ rest)
unfolding fields_of
fields_begin v (lines.Header version) = (keywords.Galcert, _, refl)
fields_begin v (lines.Rom len) = (keywords.Rom, _, refl)
fields_begin v (lines.Board board) = (keywords.Map, _, refl)
fields_begin v (lines.Stack region) = (keywords.Stack, _, refl)
fields_begin v (lines.Budget budget) = (keywords.Budget, _, refl)
fields_begin v (lines.Proc proc) = (keywords.Proc, _, refl)
fields_begin v (lines.Split split) = (keywords.Split, _, refl)
fields_begin v (lines.Inline address) = (keywords.Inline, _, refl)
fields_begin v (lines.Cell cell) = (keywords.Cell, _, refl)
fields_begin v (lines.Row row) = (keywords.Row, _, refl)
fields_begin v lines.End = (keywords.End, _, refl)

head_same : (x y : List ℕ) (xs ys zs : List (List ℕ)) → zs ≡ x ∷ xs → zs ≡ y ∷ ys → x ≡ y
head_same x y xs ys zs e f = cc

-- so fields whose first one is no keyword are the fields of no line
pub no_keyword : (v : Version) (fields rest : List (List ℕ)) (field : List ℕ) → fields ≡ field ∷ rest → ((k : Keyword) → Unit {0} → field ≡ keyword_text k → ⊥) →
    (line : Line) → fields ≡ fields_of v line → ⊥
no_keyword v fields rest field e none line same =
    let first = fields_begin v line in
    none first.0 tt (head_same _ _ _ _ fields e (same ∙ first.2))
