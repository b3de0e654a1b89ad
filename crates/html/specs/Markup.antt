-- Text, attributes and tags of HTML (HTML Living Standard, "Writing HTML documents").
use Rattle.std.specs.Prelude.{ℕ, ◌==◌, ◌≤◌, ◌≢◌, ◌||◌, nat_lt, List, ◌++◌, codes, if◌then◌else◌}
use Rattle.std.specs.Char.{encode_utf8}
use Rattle.std.specs.List.{flat_map}
use Rattle.bstr.specs.Utf8.{lossy_chars}
use Rattle.html.specs.declared.tags.Attribute.{Attribute}

-- a character as text: the signs of markup by their names, a control character (00 to 1F, 7F) as `?`, any other in UTF-8
abbrev pub html_char : ℕ → List ℕ
html_char c =
    if c == 38 then codes "&amp;"
    else if c == 60 then codes "&lt;"
    else if c == 62 then codes "&gt;"
    else if c == 34 then codes "&quot;"
    else if c == 39 then codes "&#39;"
    else if nat_lt c 32 || c == 127 then codes "?"
    else encode_utf8 c

-- bytes as text: what is no UTF-8 counts as U+FFFD
abbrev pub html_text : List ℕ → List ℕ
html_text bytes = flat_map html_char (lossy_chars bytes)

-- a byte that ends no text: none of `<`, `>`, `"` and `'`, and no control character of ASCII
pub record IsNoMarkup (byte : ℕ) : Type 0 where
  pub no_tag : byte ≢ 60
  pub no_end : byte ≢ 62
  pub no_quote : byte ≢ 34
  pub no_apostrophe : byte ≢ 39
  pub no_control : 32 ≤ byte
  pub no_delete : byte ≢ 127

-- an attribute after a blank
abbrev pub attribute_text : Attribute → List ℕ
attribute_text a = codes " " ++ (a.name.now ++ (codes "=\"" ++ (html_text a.value.now ++ codes "\"")))

-- an opening tag
abbrev pub html_open : List ℕ → List Attribute → List ℕ
html_open element attributes = codes "<" ++ (element ++ (flat_map attribute_text attributes ++ codes ">"))

-- a closing tag
abbrev pub html_close : List ℕ → List ℕ
html_close element = codes "</" ++ (element ++ codes ">")
