-- A certificate with other bounds: the depth and the time of a procedure, or the potential of a row.
use Rattle.std.specs.Prelude.{ℕ, ◌<◌, Option, length}
use Rattle.cert_form.specs.Contents.{CertificateView}
use Rattle.cert_form.specs.Form.{IsInForm}
use Rattle.cert_form.specs.Rows.{changed_at, with_potential}
use Rattle.cert_lines.specs.declared.proc.Proc.{Proc}
use Rattle.loop_bounds.specs.Linear.{LinearView}

-- a procedure with this depth and this time
abbrev pub with_bounds : ℕ → Option ℕ → Proc → Proc
with_bounds depth time proc = record proc { depth = depth; time = time }

-- a certificate in which the procedure with this number, if there is one, has these bounds
abbrev pub with_bounds_at : CertificateView → ℕ → ℕ → Option ℕ → CertificateView
with_bounds_at c id depth time = record c { procs = changed_at (with_bounds depth time) id c.procs }

-- a certificate in which the row with this number, if there is one, has this potential
abbrev pub with_potential_at : CertificateView → ℕ → LinearView → CertificateView
with_potential_at c id potential = record c { rows = changed_at (with_potential potential) id c.rows }

-- there is a procedure with this number, and with these bounds of it the certificate is in form
pub record TakesBounds (c : CertificateView) (id depth : ℕ) (time : Option ℕ) : Type 0 where
  pub within : id < length c.procs
  pub form : IsInForm (with_bounds_at c id depth time)

-- there is a row with this number, and with this potential of it the certificate is in form
pub record TakesPotential (c : CertificateView) (id : ℕ) (potential : LinearView) : Type 0 where
  pub within : id < length c.rows
  pub form : IsInForm (with_potential_at c id potential)
