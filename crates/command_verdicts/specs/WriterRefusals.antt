-- The lines that say why no certificate was made (docs/PROGRAM.md).
use Rattle.std.specs.Prelude.{ℕ, ◌==◌, List, [], ◌∷◌, ◌++◌, codes, if◌then◌else◌}
use Rattle.std.specs.Char.{encode_utf8, is_control}
use Rattle.std.specs.List.{concat, flat_map}
use Rattle.std.specs.Str.{chars}
use Rattle.texts.specs.Numbers.{hex2, hex4}

-- an entry after a space
abbrev pub entry_text : ℕ → List ℕ
entry_text entry = codes " " ++ hex4 entry

-- procedures that call one another in a cycle, by their entries along it
abbrev pub recursion_text : List ℕ → List ℕ
recursion_text entries = codes "recursion" ++ (flat_map entry_text entries ++ codes "\n")

-- a cycle of rows that no counter bounds, by its lowest address
abbrev pub unbounded_text : ℕ → List ℕ
unbounded_text address = concat (codes "unbounded " ∷ hex4 address ∷ codes "\n" ∷ [])

-- a character as TOML escapes it: a control character by its letter or number, any other unchanged
abbrev pub escaped_char : ℕ → List ℕ
escaped_char c =
    if c == 8 then codes "\\b"
    else if c == 9 then codes "\\t"
    else if c == 10 then codes "\\n"
    else if c == 12 then codes "\\f"
    else if c == 13 then codes "\\r"
    else if is_control c then codes "\\u00" ++ hex2 c
    else encode_utf8 c

-- a text on one line, with each character escaped
abbrev pub escaped : List ℕ → List ℕ
escaped text = flat_map escaped_char (chars text)

-- a key of annotations that is missing, unknown, or has a value of a wrong form
abbrev pub bad_key_text : List ℕ → List ℕ
bad_key_text key = codes "bad annotation " ++ (escaped key ++ codes "\n")
