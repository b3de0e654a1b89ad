-- The rows of a certificate in form, one by one.
use Rattle.std.proofs.Common.{◌<◌, ℕ, zero, suc, List, [], ◌∷◌, length, get_or, Contains, Option, sym, subst, arith}
use Rattle.std.specs.List.{AllByRecursion}
use Rattle.abs_state.specs.declared.fact.FlagFact.{FlagFact}
use Rattle.cert_flags.specs.Flags.{AreFlags, flags_with}
use Rattle.cert_flags.specs.Parts.{IsFlagPart}
use Rattle.cert_flags.specs.declared.form.FlagForm.{FlagForm}
use Rattle.cert_flags.specs.declared.form.FlagForm.TheVariants.{Fact, Parts}
use Rattle.cert_lines.specs.Row.{IsRow, IsShortRow}
use Rattle.cert_lines.specs.Version.{flag_form}
use Rattle.cert_lines.specs.declared.version.Version.{Version}
use Rattle.flag_letters.specs.declared.part.FlagPart.{FlagPart}
use Rattle.cert_lines.specs.declared.row.Row.{Row}
use Rattle.cert_form.specs.Contents.{CertificateView}
use Rattle.cert_form.specs.Form.{IsInForm, IsRowOf}

-- what holds of each element holds of the one with a number
pub each_or : {X : Type 0} (P : X → Type 0) (xs : List X) (k : ℕ) (d : X) → AllByRecursion P xs → k < length xs → P (get_or xs k d)
each_or P [] k d all p = absurd (omega arith)
each_or P (x ∷ xs) zero d all p = all.0
each_or P (x ∷ xs) (suc k) d all p = each_or P xs k d all.1 (omega arith)

-- and of a listed one
pub each_of : {X : Type 0} (P : X → Type 0) (xs : List X) (x : X) → AllByRecursion P xs → Contains xs x → P x
each_of P xs x all (k, within, is) = subst P is (each_or P xs k x all within)

-- ---- flag parts

told_parts : (form : FlagForm) (slots : ℕ) (fact : Option FlagFact) (parts : List FlagPart) → AreFlags form slots (flags_with fact parts) → AllByRecursion (IsFlagPart slots) parts
told_parts Fact slots fact parts h = subst (λ (ps : List FlagPart). AllByRecursion (IsFlagPart slots) ps) (sym h.1) tt
told_parts Parts slots fact parts h = h.1

-- the flag parts of a row in form are in form
pub parts_in_form : (version : Version) (row : Row) → IsRow version row → AllByRecursion (IsFlagPart (length row.state.shape)) row.parts
parts_in_form version row h = told_parts (flag_form version) (length row.state.shape) row.state.flag row.parts h.flags

-- ---- rows

-- a listed row is in form
pub record RowInForm (cert : CertificateView) (row : Row) : Type 0 where
  pub of : IsRowOf cert.version (length cert.procs) (length cert.cells) row
  pub short : IsShortRow row

pub row_in_form : (cert : CertificateView) → IsInForm cert → (row : Row) → Contains cert.rows row → RowInForm cert row
row_in_form cert form row listed = record {
  of = each_of (IsRowOf cert.version (length cert.procs) (length cert.cells)) cert.rows row form.certificate.rows.each listed;
  short = each_of IsShortRow cert.rows row form.limits.short listed;
}
