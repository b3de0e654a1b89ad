-- Which procedure may come after others.
use Rattle.std.proofs.Common.{◌≡◌, ◌<◌, ◌↔◌, ◌-◌, ℕ, List, [], ◌∷◌, ◌++◌, length, slice_get, Option, Some, None, refl, sym, ap, subst, ◌∙◌}
use Rattle.cert_lines.specs.declared.proc.Proc.{Proc}
use Rattle.cert_lines.specs.declared.proc.ProcKind.TheVariants.{Sub}
use Rattle.cert_form.specs.Form.{AreSubs}
use Rattle.cert_form.specs.Reader.{AreFirstProcs}
use Rattle.cert_form.proofs.Lists.{all_at, all_push}
use Rattle.cert_form.proofs.LastLemmas.{follow_push, split_last, stands_to_last}

-- a procedure is a called one, with a higher entry than the last one if that is called too
abbrev pub IsCalledBehind : Proc → Proc → Type 0
IsCalledBehind last proc = (proc.kind ≡ Sub) × (last.kind ≡ Sub → last.entry < proc.entry)

-- the first called one
first_sub : (last proc : Proc) → (last.kind ≡ Sub → ⊥) → IsCalledBehind last proc ↔ AreSubs (proc ∷ [])
first_sub last proc other = (
  λ is. record { kind = (is.0, tt); rising = tt },
  λ are. (are.kind.0, λ sub. absurd (other sub)),
)

-- one after another called one
next_sub : (before : List Proc) (last proc : Proc) → AreSubs (before ++ last ∷ []) →
    IsCalledBehind last proc ↔ AreSubs ((before ++ last ∷ []) ++ proc ∷ [])
next_sub before last proc subs = (
  λ is. record {
    kind = all_push (λ p. p.kind ≡ Sub) (before ++ last ∷ []) proc subs.kind is.0;
    rising = follow_push (λ p q. p.entry < q.entry) before last proc subs.rising
        (is.1 (all_at (λ p. p.kind ≡ Sub) before last [] subs.kind));
  },
  λ are. (
    all_at (λ p. p.kind ≡ Sub) (before ++ last ∷ []) proc [] are.kind,
    λ _. stands_to_last (λ p q. p.entry < q.entry) before last proc are.rising,
  ),
)

-- after main, and after the NMI routine if there is a budget, come the called ones
sub_stands : (budget : Option ℕ) (before : List Proc) (last proc : Proc) → AreFirstProcs budget (before ++ last ∷ []) →
    (before ≡ [] → budget ≡ None) → IsCalledBehind last proc ↔ AreFirstProcs budget ((before ++ last ∷ []) ++ proc ∷ [])
sub_stands None [] last proc first _ =
    let subs = first_sub last proc (λ sub. cc) in
    (λ is. (first.0, subs.0 is), λ are. subs.1 are.1)
sub_stands None (main ∷ before) last proc first _ =
    let subs = next_sub before last proc first.1 in
    (λ is. (first.0, subs.0 is), λ are. subs.1 are.1)
sub_stands (Some budget) [] last proc first none = let no : Some budget ≡ None = none refl in cc
sub_stands (Some budget) (main ∷ []) last proc first _ =
    let subs = first_sub last proc (λ sub. cc) in
    (λ is. (first.0, first.1, subs.0 is), λ are. subs.1 are.2)
sub_stands (Some budget) (main ∷ nmi ∷ before) last proc first _ =
    let subs = next_sub before last proc first.2 in
    (λ is. (first.0, first.1, subs.0 is), λ are. subs.1 are.2)

-- the same, with the last procedure by its place in the list
pub called_stands : (budget : Option ℕ) (procs : List Proc) (last proc : Proc) → AreFirstProcs budget procs →
    slice_get procs (length procs - 1) ≡ Some last → (length procs ≡ 1 → budget ≡ None) →
    IsCalledBehind last proc ↔ AreFirstProcs budget (procs ++ proc ∷ [])
called_stands budget procs last proc first at alone =
    let cut = split_last procs last at in
    let stands = sub_stands budget cut.before last proc (subst (AreFirstProcs budget) cut.whole first)
    (λ none. alone (ap length cut.whole ∙ ap (λ before. length (before ++ last ∷ [])) none)) in (
      λ is. subst (λ ps. AreFirstProcs budget (ps ++ proc ∷ [])) (sym cut.whole) (stands.0 is),
      λ longer. stands.1 (subst (λ ps. AreFirstProcs budget (ps ++ proc ∷ [])) cut.whole longer),
    )
