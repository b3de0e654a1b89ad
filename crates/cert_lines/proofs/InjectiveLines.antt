-- No two lines in form have the same fields.
use Rattle.std.proofs.Common.{◌≡◌, ◌==◌, ◌<◌, ◌≤◌, ◌^◌, ℕ, List, [], ◌∷◌, get_or, Option, Some, None, IfSome, refl, sym, ap, subst, ◌∙◌, arith}
use Rattle.std.specs.Fmt.{decimal}
use Rattle.std.specs.List.{position_or_len}
use Rattle.abs_state.specs.declared.cell.KeptCell.{KeptCell}
use Rattle.address_map.specs.declared.region.Region.{Region}
use Rattle.cert_lines.proofs.FieldLemmas.{decimal_or_dash_injective, kind_word_injective, same_others}
use Rattle.cert_lines.proofs.InjectiveRows.{field, row_injective, word_injective}
use Rattle.cert_lines.specs.Keyword.{keyword_text}
use Rattle.cert_lines.specs.Line.{IsLine, fields_of}
use Rattle.cert_lines.specs.Proc.{IsProc, proc_fields}
use Rattle.cert_lines.specs.Version.{board_name, version_digit}
use Rattle.cert_lines.specs.declared.line.Line.{Line}
use Rattle.cert_lines.specs.declared.line.Line.TheVariants as lines
use Rattle.cert_lines.specs.declared.proc.Proc.{Proc}
use Rattle.cert_lines.specs.declared.reading.Keyword.{Keyword}
use Rattle.cert_lines.specs.declared.reading.Keyword.TheVariants as keywords
use Rattle.cert_lines.specs.declared.row.Row.{Row}
use Rattle.cert_lines.specs.declared.split.Split.{Split}
use Rattle.cert_lines.specs.declared.version.BoardMap.{BoardMap}
use Rattle.cert_lines.specs.declared.version.BoardMap.TheVariants.{Galaxian, Raised}
use Rattle.cert_lines.specs.declared.version.Version.{Version}
use Rattle.cert_lines.specs.declared.version.Version.TheVariants.{One, Two, Three}
use Rattle.cert_fields.proofs.InjectiveLaws.{register_letter_injective}
use Rattle.cert_fields.proofs.NameLemmas.{code}
use Rattle.cert_fields.specs.Names.{register_letter}
use Rattle.cert_fields.specs.Pair.{IsRange}
use Rattle.texts.proofs.NumberLemmas.{hex2_injective, hex4_injective}
use Rattle.texts.specs.Numbers.{IsWord, hex2, hex4}

abbrev all_keywords : List Keyword
all_keywords =
    keywords.Galcert ∷ keywords.Rom ∷ keywords.Map ∷ keywords.Stack ∷ keywords.Budget ∷ keywords.Proc ∷ keywords.Split ∷
    keywords.Inline ∷ keywords.Cell ∷ keywords.Row ∷ keywords.End ∷ []

abbrev keyword_named : List ℕ → Keyword
keyword_named name =
    get_or all_keywords (position_or_len (λ k. code (keyword_text k) == code name) all_keywords) keywords.End

keyword_again : (k : Keyword) → keyword_named (keyword_text k) ≡ k
keyword_again keywords.Galcert = refl
keyword_again keywords.Rom = refl
keyword_again keywords.Map = refl
keyword_again keywords.Stack = refl
keyword_again keywords.Budget = refl
keyword_again keywords.Proc = refl
keyword_again keywords.Split = refl
keyword_again keywords.Inline = refl
keyword_again keywords.Cell = refl
keyword_again keywords.Row = refl
keyword_again keywords.End = refl

pub keyword_text_injective : (j k : Keyword) → keyword_text j ≡ keyword_text k → j ≡ k
keyword_text_injective j k e = sym (keyword_again j) ∙ ap keyword_named e ∙ keyword_again k

-- what a line of each kind says
abbrev Says : Keyword → Type 0
Says keywords.Galcert = Version
Says keywords.Rom = ℕ
Says keywords.Map = BoardMap
Says keywords.Stack = Region
Says keywords.Budget = Option ℕ
Says keywords.Proc = Proc
Says keywords.Split = Split
Says keywords.Inline = ℕ
Says keywords.Cell = KeptCell
Says keywords.Row = Row
Says keywords.End = Unit {0}

abbrev line_of : (k : Keyword) → Says k → Line
line_of keywords.Galcert x = lines.Header x
line_of keywords.Rom x = lines.Rom x
line_of keywords.Map x = lines.Board x
line_of keywords.Stack x = lines.Stack x
line_of keywords.Budget x = lines.Budget x
line_of keywords.Proc x = lines.Proc x
line_of keywords.Split x = lines.Split x
line_of keywords.Inline x = lines.Inline x
line_of keywords.Cell x = lines.Cell x
line_of keywords.Row x = lines.Row x
line_of keywords.End x = lines.End

-- a line of a kind, and its keyword
record IsOf (v : Version) (line : Line) : Type 0 where
  kind : Keyword
  says : Says kind
  made : line ≡ line_of kind says
  first : field 0 (fields_of v line) ≡ keyword_text kind

kind_of : (v : Version) (line : Line) → IsOf v line
unfolding fields_of
kind_of v (lines.Header x) = record { kind = keywords.Galcert; says = x; made = refl; first = refl }
kind_of v (lines.Rom x) = record { kind = keywords.Rom; says = x; made = refl; first = refl }
kind_of v (lines.Board x) = record { kind = keywords.Map; says = x; made = refl; first = refl }
kind_of v (lines.Stack x) = record { kind = keywords.Stack; says = x; made = refl; first = refl }
kind_of v (lines.Budget x) = record { kind = keywords.Budget; says = x; made = refl; first = refl }
kind_of v (lines.Proc x) = record { kind = keywords.Proc; says = x; made = refl; first = refl }
kind_of v (lines.Split x) = record { kind = keywords.Split; says = x; made = refl; first = refl }
kind_of v (lines.Inline x) = record { kind = keywords.Inline; says = x; made = refl; first = refl }
kind_of v (lines.Cell x) = record { kind = keywords.Cell; says = x; made = refl; first = refl }
kind_of v (lines.Row x) = record { kind = keywords.Row; says = x; made = refl; first = refl }
kind_of v lines.End = record { kind = keywords.End; says = tt; made = refl; first = refl }

as_kind : (line : Line) (j k : Keyword) (x : Says j) → line ≡ line_of j x → j ≡ k → (y : Says k) × (line ≡ line_of k y)
as_kind line j k x made e = subst (λ i. (y : Says i) × (line ≡ line_of i y)) e (x, made)

version_injective : (v w : Version) → version_digit v ≡ version_digit w → v ≡ w
version_injective One One e = refl
version_injective One Two e = absurd (omega (arith, ap code e))
version_injective Two One e = absurd (omega (arith, ap code e))
version_injective Two Two e = refl
version_injective One Three e = absurd (omega (arith, ap code e))
version_injective Two Three e = absurd (omega (arith, ap code e))
version_injective Three One e = absurd (omega (arith, ap code e))
version_injective Three Two e = absurd (omega (arith, ap code e))
version_injective Three Three e = refl

board_injective : (b c : BoardMap) → board_name b ≡ board_name c → b ≡ c
board_injective Galaxian Galaxian e = refl
board_injective Galaxian Raised e = absurd (omega (arith, ap code e))
board_injective Raised Galaxian e = absurd (omega (arith, ap code e))
board_injective Raised Raised e = refl

small_word : (n : Option ℕ) → IfSome n IsWord → IfSome n (λ k. k < 2 ^ 64)
small_word None small = tt
small_word (Some k) small = omega (arith, small)

small_time : (n : Option ℕ) → IfSome n (λ k. k ≤ 1000000000) → IfSome n (λ k. k < 2 ^ 64)
small_time None small = tt
small_time (Some k) small = omega (arith, small)

same_region : (r s : Region) → IsWord r.low × IsWord r.top → IsWord s.low × IsWord s.top → hex4 r.low ≡ hex4 s.low →
    hex4 r.top ≡ hex4 s.top → r ≡ s
same_region r s form too low top =
    ap (λ n. let x : Region = record { low = n; top = r.top } in x) (hex4_injective r.low s.low form.0 too.0 low)
    ∙ ap (λ n. let x : Region = record { low = s.low; top = n } in x) (hex4_injective r.top s.top form.1 too.1 top)

same_proc : (p q : Proc) → IsProc p → IsProc q → proc_fields p ≡ proc_fields q → p ≡ q
same_proc p q form too e =
    ap (λ k. let x : Proc = record { kind = k; entry = p.entry; rank = p.rank; depth = p.depth; time = p.time } in x)
    (kind_word_injective p.kind q.kind (ap (field 0) e))
    ∙ ap (λ n. let x : Proc = record { kind = q.kind; entry = n; rank = p.rank; depth = p.depth; time = p.time } in x)
    (hex4_injective p.entry q.entry form.entry too.entry (ap (field 1) e))
    ∙ ap (λ n. let x : Proc = record { kind = q.kind; entry = q.entry; rank = n; depth = p.depth; time = p.time } in x)
    (word_injective p.rank q.rank form.rank too.rank (ap (field 2) e))
    ∙ ap (λ n. let x : Proc = record { kind = q.kind; entry = q.entry; rank = q.rank; depth = n; time = p.time } in x)
    (word_injective p.depth q.depth form.depth too.depth (ap (field 3) e))
    ∙ ap (λ t. let x : Proc = record { kind = q.kind; entry = q.entry; rank = q.rank; depth = q.depth; time = t } in x)
    (decimal_or_dash_injective p.time q.time (small_time p.time form.time) (small_time q.time too.time) (ap (field 4) e))

module _ (s t : Split) (form : IsWord s.proc × IsWord s.address) (too : IsWord t.proc × IsWord t.address) where
  same_split : decimal s.proc ≡ decimal t.proc → hex4 s.address ≡ hex4 t.address →
      register_letter s.register ≡ register_letter t.register → s ≡ t
  same_split proc address register =
      ap (λ n. let x : Split = record { proc = n; address = s.address; register = s.register } in x)
      (word_injective s.proc t.proc form.0 too.0 proc)
      ∙ ap (λ n. let x : Split = record { proc = t.proc; address = n; register = s.register } in x)
      (hex4_injective s.address t.address form.1 too.1 address)
      ∙ ap (λ r. let x : Split = record { proc = t.proc; address = t.address; register = r } in x)
      (register_letter_injective s.register t.register register)

module _ (c d : KeptCell) (form : IsWord c.at × IsRange 255 c.range) (too : IsWord d.at × IsRange 255 d.range) where
  same_cell : hex4 c.at ≡ hex4 d.at → hex2 c.range.low ≡ hex2 d.range.low → hex2 c.range.high ≡ hex2 d.range.high → c ≡ d
  same_cell at low high =
      let order = form.1.order in
      let orders = too.1.order in
      let within = form.1.within in
      let also = too.1.within in
      ap (λ n. let x : KeptCell = record { at = n; range = c.range } in x) (hex4_injective c.at d.at form.0 too.0 at)
      ∙ ap (λ n. let x : KeptCell = record { at = d.at; range = record { low = n; high = c.range.high } } in x)
      (hex2_injective c.range.low d.range.low (omega (arith, order, within)) (omega (arith, orders, also)) low)
      ∙ ap (λ n. let x : KeptCell = record { at = d.at; range = record { low = d.range.low; high = n } } in x)
      (hex2_injective c.range.high d.range.high (omega (arith, within)) (omega (arith, also)) high)

same_kind : (v : Version) (k : Keyword) (x y : Says k) → IsLine v (line_of k x) → IsLine v (line_of k y) →
    fields_of v (line_of k x) ≡ fields_of v (line_of k y) → line_of k x ≡ line_of k y
unfolding fields_of
same_kind v keywords.Galcert x y form too e = ap lines.Header (version_injective x y (ap (field 1) e))
same_kind v keywords.Rom x y form too e = ap lines.Rom (word_injective x y form too (ap (field 1) e))
same_kind v keywords.Map x y form too e = ap lines.Board (board_injective x y (ap (field 1) e))
same_kind v keywords.Stack x y form too e = ap lines.Stack (same_region x y form too (ap (field 1) e) (ap (field 2) e))
same_kind v keywords.Budget x y form too e =
    ap lines.Budget (decimal_or_dash_injective x y (small_word x form) (small_word y too) (ap (field 1) e))
same_kind v keywords.Proc x y form too e = ap lines.Proc (same_proc x y form too (same_others _ _ _ _ e))
same_kind v keywords.Split x y form too e =
    ap lines.Split (same_split x y form too (ap (field 1) e) (ap (field 2) e) (ap (field 3) e))
same_kind v keywords.Inline x y form too e = ap lines.Inline (hex4_injective x y form too (ap (field 1) e))
same_kind v keywords.Cell x y form too e =
    ap lines.Cell (same_cell x y form too (ap (field 1) e) (ap (field 2) e) (ap (field 3) e))
same_kind v keywords.Row x y form too e = ap lines.Row (row_injective v x y form too (same_others _ _ _ _ e))
same_kind v keywords.End x y form too e = refl

pub injective : (v : Version) (a b : Line) → IsLine v a → IsLine v b → fields_of v a ≡ fields_of v b → a ≡ b
injective v a b form too e =
    let first = kind_of v a in
    let second = kind_of v b in
    let kinds = keyword_text_injective second.kind first.kind (sym second.first ∙ ap (field 0) (sym e) ∙ first.first) in
    let (says, made) = as_kind b second.kind first.kind second.says second.made kinds in
    first.made
    ∙ same_kind v first.kind first.says says (subst (IsLine v) first.made form) (subst (IsLine v) made too)
    (ap (fields_of v) (sym first.made) ∙ e ∙ ap (fields_of v) made)
    ∙ sym made
