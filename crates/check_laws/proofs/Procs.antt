-- Procedures that are called, and modes that cover.
use Rattle.std.proofs.Common.{◌≡◌, ◌≢◌, ◌+◌, ◌∙◌, ℕ, zero, suc, Bool, true, false, cond, eqb, List, [], ◌∷◌, slice_get, Option, Some, None, refl, sym, ap, subst, arith, rules}
use Rattle.std.proofs.lemmas.Bool.{eqb-true}
use Rattle.abs_state.specs.Mode.{covers_mode}
use Rattle.abs_state.specs.declared.mode.Mode.{Mode}
use Rattle.abs_state.specs.declared.mode.Mode.TheVariants.{Unset, Set, Nmi}
use Rattle.check_cover.specs.Program.{callee_among, callee_at, is_called_at, is_main}
use Rattle.check_cover.specs.declared.program.Callee.{Callee}
use Rattle.cert_lines.specs.declared.proc.Proc.{Proc}
use Rattle.cert_lines.specs.declared.proc.ProcKind.{ProcKind}
use Rattle.cert_lines.specs.declared.proc.ProcKind.TheVariants as proc_kinds
use Rattle.cert_form.specs.Contents.{CertificateView}
use Rattle.cert_form.specs.Form.{AreInOrder, IsInForm}
use Rattle.check_laws.specs.Chain.{Has}

-- what is known of a procedure that a call of an address calls
pub record IsFound (cert : CertificateView) (entry : ℕ) (callee : Callee) : Type 0 where
  pub has : Has cert callee
  pub sub : callee.proc.kind ≡ proc_kinds.Sub
  pub entry_is : callee.proc.entry ≡ entry

record FoundFrom (from entry : ℕ) (procs : List Proc) (callee : Callee) : Type 0 where
  place : ℕ
  number : callee.number ≡ from + place
  at : slice_get procs place ≡ Some callee.proc
  sub : callee.proc.kind ≡ proc_kinds.Sub
  entry_is : callee.proc.entry ≡ entry

called_sub : (entry : ℕ) (proc : Proc) (kind : ProcKind) → proc.kind ≡ kind → is_called_at entry proc ≡ true → (proc.kind ≡ proc_kinds.Sub) × (proc.entry ≡ entry)
called_sub entry proc proc_kinds.Main k e = let f : is_called_at entry proc ≡ false = ap (λ (x : ProcKind). elim x as (λ _. Bool) [ proc_kinds.Main ↦ false | proc_kinds.Nmi ↦ false | proc_kinds.Sub ↦ eqb proc.entry entry ]) k in absurd (cc)
called_sub entry proc proc_kinds.Nmi k e = let f : is_called_at entry proc ≡ false = ap (λ (x : ProcKind). elim x as (λ _. Bool) [ proc_kinds.Main ↦ false | proc_kinds.Nmi ↦ false | proc_kinds.Sub ↦ eqb proc.entry entry ]) k in absurd (cc)
called_sub entry proc proc_kinds.Sub k e = let f : is_called_at entry proc ≡ eqb proc.entry entry = ap (λ (x : ProcKind). elim x as (λ _. Bool) [ proc_kinds.Main ↦ false | proc_kinds.Nmi ↦ false | proc_kinds.Sub ↦ eqb proc.entry entry ]) k in (k, eqb-true _ _ (sym f ∙ e))

one_of : {X : Type 0} (x y : X) → Some x ≡ Some y → x ≡ y
one_of x y e = cc

found_from : (from entry : ℕ) (procs : List Proc) (callee : Callee) → callee_among from entry procs ≡ Some callee → FoundFrom from entry procs callee
unfolding callee_among
found_from from entry [] callee e = absurd (cc)
found_from from entry (proc ∷ procs) callee e = by (is_called_at entry proc) refl (λ f. found_from (suc from) entry procs callee f)
  where
    here : Callee
    here = record { number = from; proc = proc }

    by : (b : Bool) → is_called_at entry proc ≡ b → (callee_among (suc from) entry procs ≡ Some callee → FoundFrom (suc from) entry procs callee) → FoundFrom from entry (proc ∷ procs) callee
    by true is rest =
        let got : Some here ≡ Some callee = ap (λ (b : Bool). cond b (Some here) (callee_among (suc from) entry procs)) (sym is) ∙ e in
        let t = called_sub entry proc proc.kind refl is in
        subst (λ (x : Callee). FoundFrom from entry (proc ∷ procs) x) (one_of here callee got) (record { place = 0; number = omega arith; at = refl; sub = t.0; entry_is = t.1 })
    by false is rest =
        let f = rest (ap (λ (b : Bool). cond b (Some here) (callee_among (suc from) entry procs)) (sym is) ∙ e) in
        let n = f.number in
        record { place = suc f.place; number = omega arith; at = f.at; sub = f.sub; entry_is = f.entry_is }

pub found : (cert : CertificateView) (entry : ℕ) (callee : Callee) → callee_at cert entry ≡ Some callee → IsFound cert entry callee
found cert entry callee e =
    let f = found_from 0 entry cert.procs callee e in
    let n = f.number in
    let same : f.place ≡ callee.number = omega arith in
    record { has = subst (λ (k : ℕ). slice_get cert.procs k ≡ Some callee.proc) same f.at; sub = f.sub; entry_is = f.entry_is }

first_is_main : (budget : Option ℕ) (procs : List Proc) (p : Proc) → AreInOrder budget procs → slice_get procs 0 ≡ Some p → p.kind ≡ proc_kinds.Main
first_is_main None [] p h e = absurd h
first_is_main None (main ∷ subs) p h e = subst (λ (x : Proc). x.kind ≡ proc_kinds.Main) (one_of main p e) h.0
first_is_main (Some b) [] p h e = absurd h
first_is_main (Some b) (main ∷ []) p h e = absurd h
first_is_main (Some b) (main ∷ nmi ∷ subs) p h e = subst (λ (x : Proc). x.kind ≡ proc_kinds.Main) (one_of main p e) h.0

-- a procedure that is called is not main
pub sub_not_main : (cert : CertificateView) (p : Callee) → IsInForm cert → Has cert p → p.proc.kind ≡ proc_kinds.Sub → is_main p.number ≡ false
sub_not_main cert p form has sub = by p.number refl
  where
    by : (n : ℕ) → p.number ≡ n → is_main p.number ≡ false
    by zero e =
        let main = first_is_main cert.budget cert.procs p.proc form.certificate.order (ap (slice_get cert.procs) (sym e) ∙ has) in
        let both : proc_kinds.Main ≡ proc_kinds.Sub = sym main ∙ sub in
        absurd (cc)
    by (suc n) e = let z : is_main (suc n) ≡ false = search arith in ap is_main e ∙ z

-- ---- modes

pub set_covered : (a b : Mode) → covers_mode a b ≡ true → a ≢ Unset → b ≢ Unset
set_covered Unset b c n e = n refl
set_covered Set Unset c n e = cc
set_covered Set Set c n e = cc
set_covered Set Nmi c n e = cc
set_covered Nmi Unset c n e = cc
set_covered Nmi Set c n e = cc
set_covered Nmi Nmi c n e = cc

pub nmi_covered : (a b : Mode) → covers_mode a b ≡ true → b ≡ Nmi → a ≡ Nmi
nmi_covered Nmi b c e = refl
nmi_covered Unset Unset c e = cc
nmi_covered Unset Set c e = cc
nmi_covered Unset Nmi c e = absurd (search rules)
nmi_covered Set Unset c e = cc
nmi_covered Set Set c e = cc
nmi_covered Set Nmi c e = absurd (search rules)
