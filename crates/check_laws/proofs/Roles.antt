-- Main and the NMI routine of an accepted certificate.
use Rattle.std.proofs.Common.{◌≡◌, ◌≤◌, ◌<◌, ◌+◌, ◌-◌, ◌∙◌, ℕ, zero, suc, Bool, true, false, eqb, List, [], ◌∷◌, length, get_or, slice_get, Contains, Option, Some, None, refl, sym, ap, subst, arith}
use Rattle.std.specs.Prelude.{◌||◌, IfSome, IsSome, option_and_then}
use Rattle.std.proofs.lemmas.Option.{get_or_from_slice_get, slice_get_within}
use Rattle.check_cover.specs.Covering.{CoversNmi}
use Rattle.cert_lines.specs.Proc.{IsOfKind, IsProc}
use Rattle.cert_lines.specs.declared.proc.Proc.{Proc}
use Rattle.cert_lines.specs.declared.proc.ProcKind.{ProcKind}
use Rattle.cert_lines.specs.declared.proc.ProcKind.TheVariants.{Main, Nmi}
use Rattle.cert_lines.specs.declared.row.Row.{Row}
use Rattle.cert_form.specs.Contents.{CertificateView, nmi_among, nmi_of}
use Rattle.cert_form.specs.Form.{AreInOrder}
use Rattle.check_rules.specs.Acceptance.{IsWithinBudget, depth_of, main_depth}
use Rattle.check_laws.proofs.InForm.{each_or}
use Rattle.check_laws.specs.Chain.{AcceptsInForm}
use Rattle.check_laws.specs.Profile.{has_row, nmi_time}

record First (procs : List Proc) : Type 0 where
  proc : Proc
  at : slice_get procs 0 ≡ Some proc
  kind : proc.kind ≡ Main
  deep : main_depth procs ≡ proc.depth

first : (budget : Option ℕ) (procs : List Proc) → AreInOrder budget procs → First procs
first None [] h = absurd h
first None (main ∷ subs) h = record { proc = main; at = refl; kind = h.0; deep = refl }
first (Some b) [] h = absurd h
first (Some b) (main ∷ []) h = absurd h
first (Some b) (main ∷ nmi ∷ subs) h = record { proc = main; at = refl; kind = h.0; deep = refl }

record Second (procs : List Proc) (b : ℕ) : Type 0 where
  proc : Proc
  at : slice_get procs 1 ≡ Some proc
  kind : proc.kind ≡ Nmi
  is : nmi_among procs (Some b) ≡ Some proc

second : (b : ℕ) (procs : List Proc) → AreInOrder (Some b) procs → Second procs b
second b [] h = absurd h
second b (main ∷ []) h = absurd h
second b (main ∷ nmi ∷ subs) h = record { proc = nmi; at = refl; kind = h.1; is = refl }

-- main
pub record IsMainOf (cert : CertificateView) (main : Proc) : Type 0 where
  pub at : slice_get cert.procs 0 ≡ Some main
  pub kind : main.kind ≡ Main
  pub fits : main.depth ≤ cert.region.top - cert.region.low

pub main_of : (rom : List ℕ) (cert : CertificateView) → AcceptsInForm rom cert → (main : Proc) × IsMainOf cert main
main_of rom cert acc =
    let f = first cert.budget cert.procs acc.form.certificate.order in
    let depth = acc.accepts.depth in
    let same = f.deep in
    (f.proc, record { at = f.at; kind = f.kind; fits = omega arith })

-- the NMI routine
pub record IsNmiOf (cert : CertificateView) (main nmi : Proc) (time : ℕ) : Type 0 where
  pub at : slice_get cert.procs 1 ≡ Some nmi
  pub kind : nmi.kind ≡ Nmi
  pub time_is : nmi.time ≡ Some time
  pub entry : nmi.entry ≡ 102
  pub small : time ≤ 50665
  pub fits : main.depth + nmi.depth ≤ cert.region.top - cert.region.low
  pub covers : CoversNmi cert
  pub told : nmi_time cert ≡ Some time

timed_by : (time : Option ℕ) → IsSome time → (t : ℕ) × (time ≡ Some t)
timed_by None h = absurd (cc)
timed_by (Some t) h = (t, refl)

of_nmi : (kind : ProcKind) (entry : ℕ) (time : Option ℕ) → kind ≡ Nmi → IsOfKind kind entry time → (entry ≡ 102) × IsSome time
of_nmi kind entry time e h = subst (λ (k : ProcKind). IsOfKind k entry time) e h

pub nmi_is : (rom : List ℕ) (cert : CertificateView) → AcceptsInForm rom cert → (main : Proc) → IsMainOf cert main → (b : ℕ) → cert.budget ≡ Some b → (nmi : Proc) × (time : ℕ) × IsNmiOf cert main nmi time
nmi_is rom cert acc main is b e =
    let s = second b cert.procs (subst (λ (o : Option ℕ). AreInOrder o cert.procs) e acc.form.certificate.order) in
    let found : nmi_of cert ≡ Some s.proc = ap (nmi_among cert.procs) e ∙ s.is in
    let proc : IsProc s.proc = subst IsProc (get_or_from_slice_get cert.procs 1 s.proc s.proc s.at) (each_or IsProc cert.procs 1 s.proc acc.form.certificate.procs (slice_get_within cert.procs 1 s.proc s.at)) in
    let kind = of_nmi s.proc.kind s.proc.entry s.proc.time s.kind proc.kind in
    let t = timed_by s.proc.time kind.1 in
    let within : IsWithinBudget b (nmi_of cert) = subst (λ (o : Option ℕ). IfSome o (λ budget. IsWithinBudget budget (nmi_of cert))) e acc.accepts.budget in
    let time : t.0 ≤ b = subst (λ (o : Option ℕ). IfSome o (λ time. time ≤ b)) t.1 (subst (λ (o : Option Proc). IfSome o (λ proc. IfSome proc.time (λ time. time ≤ b))) found within.time) in
    let least = within.least in
    let f = first cert.budget cert.procs acc.form.certificate.order in
    let same : f.proc ≡ main = one f.proc main (sym f.at ∙ is.at) in
    let deep : main_depth cert.procs ≡ main.depth = f.deep ∙ ap (λ (p : Proc). p.depth) same in
    let other : depth_of (nmi_of cert) ≡ s.proc.depth = ap depth_of found in
    let depth = acc.accepts.depth in (
      s.proc,
      t.0,
      record {
        at = s.at;
        kind = s.kind;
        time_is = t.1;
        entry = kind.0;
        small = omega arith;
        fits = omega arith;
        covers = subst (λ (o : Option ℕ). IfSome o (λ budget. CoversNmi cert)) e acc.accepts.entries.nmi;
        told = ap (option_and_then (λ (proc : Proc). proc.time)) found ∙ t.1;
      },
    )
  where
    one : (x y : Proc) → Some x ≡ Some y → x ≡ y
    one x y e = cc

-- ---- row addresses

itself : (n : ℕ) → eqb n n ≡ true
itself n = search arith

rows_have : (rows : List Row) (k : ℕ) (d : Row) → k < length rows → has_row rows (get_or rows k d).address ≡ true
rows_have [] k d p = absurd (omega arith)
rows_have (row ∷ rows) zero d p = ap (λ (b : Bool). b || has_row rows row.address) (itself row.address)
rows_have (row ∷ rows) (suc k) d p = last (eqb row.address (get_or rows k d).address) (has_row rows (get_or rows k d).address) (rows_have rows k d (omega arith))
  where
    last : (a b : Bool) → b ≡ true → (a || b) ≡ true
    last true b e = refl
    last false b e = e

-- instructions may start at a row's address
pub starts_here : (rows : List Row) (row : Row) → Contains rows row → has_row rows row.address ≡ true
starts_here rows row (k, within, is) = subst (λ (r : Row). has_row rows r.address ≡ true) is (rows_have rows k row within)
