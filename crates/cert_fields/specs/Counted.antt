-- The answer of a reader of a field with a count.
use Rattle.std.specs.Prelude.{◌≡◌, ◌≢◌, Option, Some, None}
use Rattle.cert_fields.specs.declared.counted.Counted.{Counted}
use Rattle.cert_fields.specs.declared.counted.Counted.TheVariants.{Fits, TooMany}

-- the answer to a text: a value in form with this text and counts within their limits; or the text is that of a value
-- in form, except that a count is above its limit; or None, and no value in form has the text
abbrev pub ReadsCounted : {X T : Type 0} → (X → T) → (X → Type 0) → (X → Type 0) → T → Option (Counted X) → Type 0
ReadsCounted text InForm Few seen (Some (Fits x)) = InForm x × Few x × (seen ≡ text x)
ReadsCounted {X} text InForm Few seen (Some TooMany) = (x : X) × InForm x × (Few x → ⊥) × (seen ≡ text x)
ReadsCounted {X} text InForm Few seen None = (x : X) → InForm x → seen ≢ text x
