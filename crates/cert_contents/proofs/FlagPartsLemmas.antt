-- A certificate in form is in form with flag parts in place of its flag facts.
use Rattle.std.proofs.Common.{◌≡◌, ◌≤◌, ℕ, List, length, map, sym, subst, arith}
use Rattle.std.proofs.lemmas.List.{length-map}
use Rattle.cert_lines.specs.Row.{IsArmed, IsRow, IsShortRow}
use Rattle.cert_lines.specs.Version.{flag_form}
use Rattle.cert_lines.specs.declared.row.Row.{Row}
use Rattle.cert_lines.specs.declared.version.Version.{Version}
use Rattle.cert_lines.specs.declared.version.Version.TheVariants.{One, Two, Three}
use Rattle.cert_flags.proofs.FactPartsLaws.{told_few, told_form}
use Rattle.cert_form.specs.Contents.{CertificateView}
use Rattle.cert_form.specs.Form.{IsInForm, IsRowOf, place_number}
use Rattle.cert_form.specs.Migrated.{row_with_parts, with_flag_parts}
use Rattle.cert_form.proofs.Lists.{all_map}
use Rattle.cert_form.proofs.MappedLemmas.{follow_map}

-- how many cells a row of any version arms is a word
armed_word : (v : Version) (armed : ℕ) → IsArmed v armed → IsArmed Three armed
armed_word One armed none = omega (arith, none)
armed_word Two armed word = word
armed_word Three armed word = word

row_form_with_parts : (v : Version) (row : Row) → IsRow v row → IsRow Three (row_with_parts row)
row_form_with_parts v row form = record {
  place = record { proc = form.place.proc; address = form.place.address; armed = armed_word v row.state.armed form.place.armed };
  pairs = form.pairs;
  flags = told_form (flag_form v) (length row.state.shape) row.state.flag row.parts form.flags;
  facts = form.facts;
  shape = form.shape;
  slots = form.slots;
  unset = form.unset;
  potential = form.potential;
}

row_of_with_parts : (v : Version) (procs cells : ℕ) (row : Row) → IsRowOf v procs cells row → IsRowOf Three procs cells (row_with_parts row)
row_of_with_parts v procs cells row is = record { form = row_form_with_parts v row is.form; proc = is.proc; armed = is.armed }

short_with_parts : (row : Row) → IsShortRow row → IsShortRow (row_with_parts row)
short_with_parts row short = record {
  shape = short.shape;
  parts = told_few row.state.flag row.parts short.parts;
  facts = short.facts;
  potential = short.potential;
}

pub form_with_parts : (c : CertificateView) → IsInForm c → IsInForm (with_flag_parts c)
form_with_parts c form =
    let whole = form.certificate in
    let limits = form.limits in
    let procs = length c.procs in
    let cells = length c.cells in
    record {
      certificate = record {
        version = tt;
        rom_len = whole.rom_len;
        region = whole.region;
        budget = whole.budget;
        procs = whole.procs;
        order = whole.order;
        splits = whole.splits;
        inlines = whole.inlines;
        cells = whole.cells;
        rows = record {
          each = all_map (IsRowOf c.version procs cells) (IsRowOf Three procs cells) row_with_parts (row_of_with_parts c.version procs cells) c.rows whole.rows.each;
          rising = follow_map (λ (a b : Row). place_number a.proc a.address ≤ place_number b.proc b.address)
              (λ (a b : Row). place_number a.proc a.address ≤ place_number b.proc b.address) row_with_parts (λ x y below. below) c.rows whole.rows.rising;
        };
      };
      limits = record {
        procs = limits.procs;
        splits = limits.splits;
        inlines = limits.inlines;
        cells = limits.cells;
        rows = omega (arith, limits.rows, length-map c.rows row_with_parts);
        short = all_map IsShortRow IsShortRow row_with_parts short_with_parts c.rows limits.short;
      };
    }

-- the same for what a draft says, with the rows that a call gave
pub told_in_form : (said c : CertificateView) (rows : List Row) → said ≡ c → rows ≡ map row_with_parts said.rows → IsInForm c →
    IsInForm (record said { version = Three; rows = rows })
told_in_form said c rows same are form =
    subst (λ (rs : List Row). IsInForm (record said { version = Three; rows = rs })) (sym are)
    (subst (λ (d : CertificateView). IsInForm (with_flag_parts d)) (sym same) (form_with_parts c form))
