-- A certificate of version 1 says the same in version 2.
use Rattle.std.proofs.Common.{◌≡◌, ℕ, List, [], ◌∷◌, length, map, refl, sym, ap, subst, ◌∙◌, arith}
use Rattle.std.specs.List.{AllByRecursion}
use Rattle.cert_lines.specs.Row.{IsRow}
use Rattle.cert_lines.specs.declared.row.Row.{Row}
use Rattle.cert_lines.specs.declared.version.Version.{Version}
use Rattle.cert_lines.specs.declared.version.Version.TheVariants.{One, Two, Three}
use Rattle.cert_form.specs.Contents.{CertificateView}
use Rattle.cert_form.specs.Migrated.{migrated, migrated_board, migrated_cells, migrated_row, migrated_version}
use Rattle.cert_form.specs.Form.{IsInForm, IsRowOf, SuitsVersion}
use Rattle.cert_form.proofs.Lists.{same_cons}

-- what a certificate says, in another version
abbrev pub in_version : Version → CertificateView → CertificateView
in_version v c = record c { version = v }

-- a row of version 1 is one of version 2, which arms no cell
row_migrated : (v : Version) (row : Row) → IsRow v row → IsRow (migrated_version v) row
row_migrated One row form =
    let none = form.place.armed in
    record {
      place = record { proc = form.place.proc; address = form.place.address; armed = omega (arith, none) };
      pairs = form.pairs;
      flags = form.flags;
      facts = form.facts;
      shape = form.shape;
      slots = form.slots;
      unset = form.unset;
      potential = form.potential;
    }
row_migrated Two row form = form
row_migrated Three row form = form

rows_migrated : (v : Version) (procs cells : ℕ) (rows : List Row) → AllByRecursion (IsRowOf v procs cells) rows →
    AllByRecursion (IsRowOf (migrated_version v) procs cells) rows
rows_migrated v procs cells [] all = tt
rows_migrated v procs cells (row ∷ rows) all = (
  record { form = row_migrated v row all.0.form; proc = all.0.proc; armed = all.0.armed },
  rows_migrated v procs cells rows all.1,
)

suits_migrated : (v : Version) (c d : CertificateView) → SuitsVersion (migrated_version v) d
suits_migrated One c d = tt
suits_migrated Two c d = tt
suits_migrated Three c d = tt

-- what is in form in some version is in form in the migrated one
form_migrated : (c : CertificateView) → IsInForm c → IsInForm (in_version (migrated_version c.version) c)
form_migrated c form =
    let whole = form.certificate in
    record {
      certificate = record {
        version = suits_migrated c.version c (in_version (migrated_version c.version) c);
        rom_len = whole.rom_len;
        region = whole.region;
        budget = whole.budget;
        procs = whole.procs;
        order = whole.order;
        splits = whole.splits;
        inlines = whole.inlines;
        cells = whole.cells;
        rows = record {
          each = rows_migrated c.version (length c.procs) (length c.cells) c.rows whole.rows.each;
          rising = whole.rows.rising;
        };
      };
      limits = record {
        procs = form.limits.procs;
        splits = form.limits.splits;
        inlines = form.limits.inlines;
        cells = form.limits.cells;
        rows = form.limits.rows;
        short = form.limits.short;
      };
    }

same_board : (v : Version) (c : CertificateView) → SuitsVersion v c → c.board ≡ migrated_board v c.board
same_board One c old = old.board
same_board Two c any = refl
same_board Three c any = refl

same_cells : (v : Version) (c : CertificateView) → SuitsVersion v c → c.cells ≡ migrated_cells v c.cells
same_cells One c old = old.cells
same_cells Two c any = refl
same_cells Three c any = refl

same_row : (v : Version) (row : Row) → IsRow v row → row ≡ migrated_row v row
same_row One row form = ap (λ armed. record row { state = record (row.state) { armed = armed } }) form.place.armed
same_row Two row form = refl
same_row Three row form = refl

same_rows : (v : Version) (procs cells : ℕ) (rows : List Row) → AllByRecursion (IsRowOf v procs cells) rows →
    rows ≡ map (migrated_row v) rows
same_rows v procs cells [] all = refl
same_rows v procs cells (row ∷ rows) all =
    same_cons row (migrated_row v row) rows (map (migrated_row v) rows) (same_row v row all.0.form)
    (same_rows v procs cells rows all.1)

-- the board, the cells and the rows of a certificate in form are those that the migrated one has
pub same_migrated : (c : CertificateView) → IsInForm c → in_version (migrated_version c.version) c ≡ migrated c
same_migrated c form =
    let whole = form.certificate in
    let version = migrated_version c.version in
    ap (λ board. record c { version = version; board = board }) (same_board c.version c whole.version)
    ∙ ap (λ cells. record c { version = version; board = migrated_board c.version c.board; cells = cells })
    (same_cells c.version c whole.version)
    ∙ ap (λ rows. record c {
      version = version;
      board = migrated_board c.version c.board;
      cells = migrated_cells c.version c.cells;
      rows = rows;
    }) (same_rows c.version (length c.procs) (length c.cells) c.rows whole.rows.each)

-- the same for what a draft says, in the version that a call gave
module _ (said c : CertificateView) (v : Version) (same : said ≡ c) (is : v ≡ migrated_version said.version) where
  pub migrated_in_form : IsInForm c → IsInForm (in_version v said)
  migrated_in_form form =
      subst (λ w. IsInForm (in_version w said)) (sym is)
      (subst (λ d. IsInForm (in_version (migrated_version d.version) d)) (sym same) (form_migrated c form))

  pub is_migrated : IsInForm c → in_version v said ≡ migrated c
  is_migrated form =
      ap (λ w. in_version w said) is ∙ ap (λ d. in_version (migrated_version d.version) d) same ∙ same_migrated c form
