-- The procedure of each row of a certificate in form exists.
use Rattle.std.proofs.Common.{◌≡◌, ◌≤◌, ℕ, zero, suc, Bool, if◌then◌else◌, List, [], ◌∷◌, length, slice_get, Option, Some, None, IfSome, Result, unwrap_or, inl, inr, sym, subst, ap, ◌∙◌, arith}
use Rattle.std.specs.List.{AllByRecursion}
use Rattle.std.proofs.lemmas.Bool.{cases_Bool}
use Rattle.std.proofs.lemmas.Option.{get_or_from_slice_get, none-some, same_Some, slice_get-get_or, slice_get_within}
use Rattle.abs_draft.specs.Ground.{GroundView}
use Rattle.abs_state.specs.declared.state.AbsState.{AbsState}
use Rattle.board_fetch.specs.Decoded.{StandsAt}
use Rattle.check_cover.specs.Program.{callee_among, callee_at, is_called_at}
use Rattle.check_cover.specs.declared.program.Callee.{Callee}
use Rattle.cert_lines.specs.Proc.{IsProc}
use Rattle.cert_lines.specs.declared.proc.Proc.{Proc}
use Rattle.cert_lines.specs.declared.proc.ProcKind.TheVariants.{Main}
use Rattle.cert_lines.specs.declared.row.Row.{Row}
use Rattle.cert_form.specs.Contents.{CertificateView}
use Rattle.cert_form.specs.Form.{IsInForm, IsRowOf}
use Rattle.check_ways.specs.Ways.{IsSubject}
use Rattle.flag_letters.specs.declared.part.FlagPart.{FlagPart}
use Rattle.z80_decode.specs.declared.fault.DecodeFault.{DecodeFault}
use Rattle.z80_decode.specs.declared.instr.Instr.{Instr}

-- what holds of each element holds of the one with a number
pub each_at : {X : Type 0} (P : X → Type 0) (xs : List X) (k : ℕ) (x : X) → AllByRecursion P xs → slice_get xs k ≡ Some x → P x
each_at P [] k x all at = cc
each_at P (y ∷ xs) zero x all at = let same : y ≡ x = cc in subst P same all.0
each_at P (y ∷ xs) (suc k) x all at = each_at P xs k x all.1 at

pub row_has_proc : (c : CertificateView) → IsInForm c → (k : ℕ) (row : Row) → slice_get c.rows k ≡ Some row → slice_get c.procs row.proc ≡ None → ⊥
row_has_proc c form k row at none =
    let within = (each_at (IsRowOf c.version (length c.procs) (length c.cells)) c.rows k row form.certificate.rows.each at).proc in
    let default : Proc = record { kind = Main; entry = 0; rank = 0; depth = 0; time = None } in
    none-some _ (sym none ∙ slice_get-get_or c.procs row.proc default within)

-- a row by its number, its procedure and its instruction
pub subject_at : (rom : List ℕ) (c : CertificateView) (k : ℕ) (row : Row) (proc : Proc) (decoded : Result Instr DecodeFault) → slice_get c.rows k ≡ Some row →
    slice_get c.procs row.proc ≡ Some proc → StandsAt rom row.address decoded →
    IsSubject (record { rom = rom; cert = c; row = row; proc = proc; decoded = decoded })
subject_at rom c k row proc decoded at procedure stands = record {
  listed = (k, slice_get_within c.rows k row at, get_or_from_slice_get c.rows k row row at);
  procedure = procedure;
  stands = stands;
}

-- ---- times

-- a time is at most 1,000,000,000, or there is none
pub time_fits : (time : Option ℕ) → IfSome time (λ t. t ≤ 1000000000) → unwrap_or time 0 ≤ 1000000000
time_fits None fits = omega arith
time_fits (Some t) fits = fits

-- the time of a procedure of a certificate in form
pub proc_time_fits : (c : CertificateView) → IsInForm c → (k : ℕ) (proc : Proc) → slice_get c.procs k ≡ Some proc → unwrap_or proc.time 0 ≤ 1000000000
proc_time_fits c form k proc at = time_fits proc.time (each_at IsProc c.procs k proc form.certificate.procs at).time

-- what holds of each procedure holds of one that is called
each_callee : (P : Proc → Type 0) (number entry : ℕ) (procs : List Proc) (callee : Callee) → AllByRecursion P procs →
    callee_among number entry procs ≡ Some callee → P callee.proc
unfolding callee_among
each_callee P number entry [] callee all called = cc
each_callee P number entry (p ∷ ps) callee all called =
    elim (cases_Bool (is_called_at entry p)) [
      | inl here ↦
          let first : Some (record { number = number; proc = p }) ≡ Some callee = sym (ap (λ (b : Bool). among b) here) ∙ called in
          let same : record { number = number; proc = p } ≡ callee = same_Some (record { number = number; proc = p }) callee first in
          subst P (ap (λ (x : Callee). x.proc) same) all.0
      | inr other ↦ each_callee P (suc number) entry ps callee all.1 (sym (ap (λ (b : Bool). among b) other) ∙ called)
    ]
  where
    among : Bool → Option Callee
    among b = if b then Some (record { number = number; proc = p }) else callee_among (suc number) entry ps

-- the time of a procedure that is called
pub callee_time_fits : (c : CertificateView) → IsInForm c → (entry : ℕ) (callee : Callee) → callee_at c entry ≡ Some callee →
    unwrap_or callee.proc.time 0 ≤ 1000000000
callee_time_fits c form entry callee called = time_fits callee.proc.time (each_callee IsProc 0 entry c.procs callee form.certificate.procs called).time

-- ---- the step of a row

-- the conditions and linear effects of a step depend on the row alone
pub same_step : {X : Type 0} (f : GroundView → ℕ → Bool → Instr → List FlagPart → AbsState → X) (g h : GroundView) (a b : ℕ) (i j : Bool) (instr : Instr)
    (p q : List FlagPart) (s t : AbsState) → g ≡ h → a ≡ b → i ≡ j → p ≡ q → s ≡ t → f g a i instr p s ≡ f h b j instr q t
same_step f g h a b i j instr p q s t same_ground same_address same_inline same_parts same_state =
    ap (λ (x : GroundView). f x a i instr p s) same_ground ∙ ap (λ (x : ℕ). f h x i instr p s) same_address
    ∙ ap (λ (x : Bool). f h b x instr p s) same_inline ∙ ap (λ (x : List FlagPart). f h b j instr x s) same_parts
    ∙ ap (λ (x : AbsState). f h b j instr q x) same_state
