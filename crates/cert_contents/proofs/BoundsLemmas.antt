-- A certificate with other bounds is in form if the changed procedure, or the changed row, is.
use Rattle.std.proofs.Common.{◌≡◌, ◌<◌, ◌≤◌, ℕ, zero, suc, List, [], ◌∷◌, length, slice_get, Option, Some, None, refl, sym, subst, ◌∙◌, arith}
use Rattle.std.proofs.lemmas.Option.{same_Some}
use Rattle.cert_fields.specs.Linear.{HasSlotsBelow, IsShort, IsSum}
use Rattle.cert_lines.specs.Proc.{IsProc}
use Rattle.cert_lines.specs.Row.{IsRow, IsShortRow}
use Rattle.cert_lines.specs.declared.proc.Proc.{Proc}
use Rattle.cert_lines.specs.declared.proc.ProcKind.TheVariants.{Sub}
use Rattle.cert_lines.specs.declared.row.Row.{Row}
use Rattle.cert_lines.specs.declared.version.Version.{Version}
use Rattle.cert_lines.specs.declared.version.Version.TheVariants.{One, Two, Three}
use Rattle.loop_bounds.specs.Linear.{LinearView}
use Rattle.cert_form.specs.Contents.{CertificateView}
use Rattle.cert_form.specs.Form.{AreInOrder, AreRows, AreSplits, AreSubs, IsInForm, IsRowOf, SuitsVersion, place_number}
use Rattle.cert_form.specs.Rows.{changed_at, with_potential}
use Rattle.cert_form.proofs.ChangedLemmas.{all_changed, at_changed, follow_changed, length_changed}
use Rattle.cert_contents.specs.Bounds.{with_bounds_at, with_potential_at, with_bounds}

-- the version suits a certificate with this board and these cells
suits : (v : Version) (c d : CertificateView) → d.board ≡ c.board → d.cells ≡ c.cells → SuitsVersion v c → SuitsVersion v d
suits One c d board cells old = record { board = board ∙ old.board; cells = cells ∙ old.cells }
suits Two c d board cells any = tt
suits Three c d board cells any = tt

-- ---- a procedure

subs_bounded : (depth : ℕ) (time : Option ℕ) (i : ℕ) (subs : List Proc) → AreSubs subs → AreSubs (changed_at (with_bounds depth time) i subs)
subs_bounded depth time i subs are = record {
  kind = all_changed (λ p. p.kind ≡ Sub) (with_bounds depth time) i subs are.kind (λ p at is. is);
  rising = follow_changed (λ p q. p.entry < q.entry) (with_bounds depth time) (λ p q less. less) (λ p q less. less) i subs are.rising;
}

-- bounds change no kind and no entry, so the procedures are still in order
order_bounded : (depth : ℕ) (time : Option ℕ) (budget : Option ℕ) (i : ℕ) (procs : List Proc) → AreInOrder budget procs →
    AreInOrder budget (changed_at (with_bounds depth time) i procs)
order_bounded depth time None i [] order = absurd order
order_bounded depth time None zero (main ∷ subs) order = order
order_bounded depth time None (suc i) (main ∷ subs) order = (order.0, subs_bounded depth time i subs order.1)
order_bounded depth time (Some budget) i [] order = absurd order
order_bounded depth time (Some budget) i (main ∷ []) order = absurd order
order_bounded depth time (Some budget) zero (main ∷ nmi ∷ subs) order = order
order_bounded depth time (Some budget) (suc zero) (main ∷ nmi ∷ subs) order = order
order_bounded depth time (Some budget) (suc (suc i)) (main ∷ nmi ∷ subs) order = (order.0, order.1, subs_bounded depth time i subs order.2)

pub bounds_in_form : (c : CertificateView) (id depth : ℕ) (time : Option ℕ) (proc : Proc) → IsInForm c → slice_get c.procs id ≡ Some proc →
    IsProc (with_bounds depth time proc) → IsInForm (with_bounds_at c id depth time)
bounds_in_form c id depth time proc form at is =
    let whole = form.certificate in
    let same : length (changed_at (with_bounds depth time) id c.procs) ≡ length c.procs = length_changed (with_bounds depth time) id c.procs in
    record {
      certificate = record {
        version = suits c.version c (with_bounds_at c id depth time) refl refl whole.version;
        rom_len = whole.rom_len;
        region = whole.region;
        budget = whole.budget;
        procs = all_changed IsProc (with_bounds depth time) id c.procs whole.procs
            (λ other there _. subst (λ p. IsProc (with_bounds depth time p)) (same_Some proc other (sym at ∙ there)) is);
        order = order_bounded depth time c.budget id c.procs whole.order;
        splits = subst (λ n. AreSplits n c.splits) (sym same) whole.splits;
        inlines = whole.inlines;
        cells = whole.cells;
        rows = subst (λ n. AreRows c.version n (length c.cells) c.rows) (sym same) whole.rows;
      };
      limits = record {
        procs = omega (arith, same, form.limits.procs);
        splits = form.limits.splits;
        inlines = form.limits.inlines;
        cells = form.limits.cells;
        rows = form.limits.rows;
        short = form.limits.short;
      };
    }

-- and the changed procedure of a certificate in form is in form
pub bounds_of_form : (c : CertificateView) (id depth : ℕ) (time : Option ℕ) (proc : Proc) → slice_get c.procs id ≡ Some proc →
    IsInForm (with_bounds_at c id depth time) → IsProc (with_bounds depth time proc)
bounds_of_form c id depth time proc at form = at_changed IsProc (with_bounds depth time) id c.procs proc at form.certificate.procs

-- ---- a row

row_with_potential : (v : Version) (row : Row) (potential : LinearView) → IsRow v row → IsSum (length row.state.shape) potential → IsRow v (with_potential potential row)
row_with_potential v row potential form sum = record {
  place = form.place;
  pairs = form.pairs;
  flags = form.flags;
  facts = form.facts;
  shape = form.shape;
  slots = form.slots;
  unset = form.unset;
  potential = sum;
}

-- a linear is in form in a row whose shape has the slots that it names
sum_below : (many slots : ℕ) (potential : LinearView) → IsSum many potential → HasSlotsBelow slots potential → IsSum slots potential
sum_below many slots potential sum below =
    record { constant = sum.constant; coefficients = sum.coefficients; rising = sum.rising; within_shape = below }

pub potential_in_form : (c : CertificateView) (id : ℕ) (potential : LinearView) (row : Row) (many : ℕ) → IsInForm c → slice_get c.rows id ≡ Some row →
    IsSum many potential → IsShort potential → HasSlotsBelow (length row.state.shape) potential → IsInForm (with_potential_at c id potential)
potential_in_form c id potential row many form at any short below =
    let whole = form.certificate in
    let sum = sum_below many (length row.state.shape) potential any below in
    record {
      certificate = record {
        version = suits c.version c (with_potential_at c id potential) refl refl whole.version;
        rom_len = whole.rom_len;
        region = whole.region;
        budget = whole.budget;
        procs = whole.procs;
        order = whole.order;
        splits = whole.splits;
        inlines = whole.inlines;
        cells = whole.cells;
        rows = record {
          each = all_changed (IsRowOf c.version (length c.procs) (length c.cells)) (with_potential potential) id c.rows whole.rows.each
              (λ other there of. record {
                form = row_with_potential c.version other potential of.form
                    (subst (λ r. IsSum (length r.state.shape) potential) (same_Some row other (sym at ∙ there)) sum);
                proc = of.proc;
                armed = of.armed;
              });
          rising = follow_changed (λ a b. place_number a.proc a.address ≤ place_number b.proc b.address) (with_potential potential)
              (λ a b rise. rise) (λ a b rise. rise) id c.rows whole.rows.rising;
        };
      };
      limits = record {
        procs = form.limits.procs;
        splits = form.limits.splits;
        inlines = form.limits.inlines;
        cells = form.limits.cells;
        rows = omega (arith, length_changed (with_potential potential) id c.rows, form.limits.rows);
        short = all_changed IsShortRow (with_potential potential) id c.rows form.limits.short
            (λ other there is. record { shape = is.shape; parts = is.parts; facts = is.facts; potential = short });
      };
    }

-- the potential of a row of a certificate in form names only slots of the row's shape
pub potential_of_form : (c : CertificateView) (id : ℕ) (potential : LinearView) (row : Row) → slice_get c.rows id ≡ Some row →
    IsInForm (with_potential_at c id potential) → HasSlotsBelow (length row.state.shape) potential
potential_of_form c id potential row at form =
    let of = at_changed (IsRowOf c.version (length c.procs) (length c.cells)) (with_potential potential) id c.rows row at form.certificate.rows.each in
    of.form.potential.within_shape
