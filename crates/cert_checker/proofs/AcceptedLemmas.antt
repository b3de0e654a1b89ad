-- What acceptance gives: an instruction at each row, and safety.
use Rattle.std.proofs.Common.{◌≡◌, ◌<◌, ◌==◌, ◌||◌, ◌∙◌, ℕ, zero, suc, Bool, true, false, List, [], ◌∷◌, length, get_or, slice_get, Some, Ok, refl, ap, subst, sym, inl, inr, arith}
use Rattle.std.proofs.lemmas.Grind.{common_steps}
use Rattle.std.proofs.lemmas.Option.{slice_get_cases, slice_get_within, get_or_from_slice_get}
use Rattle.std.specs.List.{All, Contains}
use Rattle.address_map.specs.Starts.{is_start}
use Rattle.board_fetch.specs.Decoded.{StandsAt}
use Rattle.board_step.specs.State.{AreBytes}
use Rattle.cert_lines.specs.declared.proc.Proc.{Proc}
use Rattle.cert_lines.specs.declared.row.Row.{Row}
use Rattle.check_laws.proofs.InForm.{each_of}
use Rattle.cert_form.specs.Contents.{CertificateView}
use Rattle.cert_form.specs.Form.{IsInForm, IsRowOf}
use Rattle.check_laws.specs.Acceptance.{Accepts}
use Rattle.code_map.specs.Code.{AllStand}
use Rattle.check_laws.specs.Chain.{AcceptsInForm}
use Rattle.check_laws.proofs.Judging.{judge, listed_at}
use Rattle.board_fetch.proofs.DecodedLemmas.{inside}
use Rattle.check_laws.specs.Profile.{has_row}
use Rattle.check_laws.proofs.BoundedLemmas.{keeps_times}
use Rattle.check_laws.proofs.Whole.{laid_out, safe}
use Rattle.cert_checker.specs.Means.{Means}
use Rattle.z80_decode.specs.declared.instr.Instr.{Instr}

is_accepted : (rom : List ℕ) (cert : CertificateView) → Accepts rom cert → IsInForm cert → AreBytes rom → AcceptsInForm rom cert
is_accepted rom cert accepts form bytes = record { accepts = accepts; form = form; bytes = bytes }

-- a row that stands at an address
record RowThere (rows : List Row) (address : ℕ) : Type 0 where
  row : Row
  listed : Contains rows row
  at : row.address ≡ address

same_address : (a b : ℕ) → (a == b) ≡ true → a ≡ b
same_address a b e = grind (arith, common_steps)

here_or_behind : (row : Row) (rows : List Row) (address : ℕ) → (has_row rows address ≡ true → RowThere rows address) → (b : Bool) → (row.address == address) ≡ b →
    has_row (row ∷ rows) address ≡ true → RowThere (row ∷ rows) address
here_or_behind row rows address behind true is has = record { row = row; listed = (zero, omega arith, refl); at = same_address row.address address is }
here_or_behind row rows address behind false is has =
    let rest = behind (sym (ap (λ (b : Bool). b || has_row rows address) is) ∙ has) in
    let (k, within, same) = rest.listed in
    record { row = rest.row; listed = (suc k, omega (arith, within), same); at = rest.at }

row_there : (rows : List Row) (address : ℕ) → has_row rows address ≡ true → RowThere rows address
row_there [] address has = cc
row_there (row ∷ rows) address has = here_or_behind row rows address (row_there rows address) (row.address == address) refl has

-- the procedure of a row
proc_of : (cert : CertificateView) (row : Row) → IsInForm cert → Contains cert.rows row → (proc : Proc) × (slice_get cert.procs row.proc ≡ Some proc)
proc_of cert row form listed =
    let of : IsRowOf cert.version (length cert.procs) (length cert.cells) row = each_of (IsRowOf cert.version (length cert.procs) (length cert.cells)) cert.rows row form.certificate.rows.each listed in
    elim (slice_get_cases cert.procs row.proc).1 [
      | inl (proc, within, is, same) ↦ (proc, is)
      | inr (past, is) ↦ absurd (omega (arith, past, of.proc))
    ]

-- an instruction stands at each row
row_stands : (rom : List ℕ) (cert : CertificateView) → AcceptsInForm rom cert → (row : Row) → Contains cert.rows row → (instr : Instr) × StandsAt rom row.address (Ok instr)
row_stands rom cert acc row listed =
    let of = proc_of cert row acc.form listed in
    let judged = judge rom cert row of.0 acc listed of.1 in
    (judged.instr, judged.stands)

-- so an instruction stands at each start
all_stand : (rom : List ℕ) (cert : CertificateView) (starts : List Bool) → Accepts rom cert → IsInForm cert → AreBytes rom →
    ((address : ℕ) → is_start starts address ≡ has_row cert.rows address) → AllStand rom starts
all_stand rom cert starts accepts form bytes same address on =
    let there = row_there cert.rows address (sym (same address) ∙ on) in
    subst (λ (at : ℕ). (instr : Instr) × StandsAt rom at (Ok instr)) there.at (row_stands rom cert (is_accepted rom cert accepts form bytes) there.row there.listed)

-- each row lies in the ROM
rows_inside : (rom : List ℕ) (cert : CertificateView) → Accepts rom cert → IsInForm cert → AreBytes rom → All (λ (row : Row). row.address < 16384) cert.rows
rows_inside rom cert accepts form bytes k d within =
    let stands = row_stands rom cert (is_accepted rom cert accepts form bytes) (get_or cert.rows k d) (listed_at cert.rows k d within) in
    omega (arith, inside rom _ stands.0 stands.1, accepts.fits_rom.fits)

-- what acceptance means
pub means : (rom : List ℕ) (cert : CertificateView) → Accepts rom cert → IsInForm cert → AreBytes rom → Means rom cert
means rom cert accepts form bytes =
    let acc = is_accepted rom cert accepts form bytes in
    record {
      safe = safe rom cert acc;
      bounded = keeps_times rom cert acc;
      laid = laid_out rom cert acc;
      inside = rows_inside rom cert accepts form bytes;
      stand = λ starts same. all_stand rom cert starts accepts form bytes same;
    }

-- a row with a number is one of the rows
pub row_inside : (rows : List Row) (k : ℕ) (row : Row) → All (λ (r : Row). r.address < 16384) rows → slice_get rows k ≡ Some row → row.address < 16384
row_inside rows k row all at =
    subst (λ (r : Row). r.address < 16384) (get_or_from_slice_get rows k row row at) (all k row (slice_get_within rows k row at))
