-- A certificate in form has an NMI routine exactly where it has a budget.
use Rattle.std.proofs.Common.{◌≡◌, ◌↔◌, ℕ, zero, suc, List, [], ◌∷◌, Option, Some, None, IsSome, slice_get, refl, sym, ◌∙◌, subst, rules}
use Rattle.std.specs.List.{AllByRecursion}
use Rattle.std.proofs.lemmas.Option.{same_Some}
use Rattle.cert_lines.specs.declared.proc.Proc.{Proc}
use Rattle.cert_lines.specs.declared.proc.ProcKind.TheVariants.{Main, Nmi, Sub}
use Rattle.cert_form.specs.Form.{AreInOrder}
use Rattle.cert_writer.specs.Routine.{HasRoutine}

-- none of the called procedures is one
no_routine : (subs : List Proc) (number : ℕ) (proc : Proc) → AllByRecursion (λ p. p.kind ≡ Sub) subs → slice_get subs number ≡ Some proc → proc.kind ≡ Nmi → ⊥
no_routine [] number proc each at kind = search rules
no_routine (sub ∷ subs) zero proc each at kind =
    let same : sub ≡ proc = same_Some _ _ at in
    let here : proc.kind ≡ Sub = subst (λ (p : Proc). p.kind ≡ Sub) same each.0 in
    let both : Sub ≡ Nmi = sym here ∙ kind in
    search rules
no_routine (sub ∷ subs) (suc number) proc each at kind = no_routine subs number proc each.1 at kind

-- nor is main
none_without : (procs : List Proc) → AreInOrder None procs → HasRoutine procs → ⊥
none_without [] order has = absurd order
none_without (main ∷ subs) order has = none_at main subs order.0 order.1.kind has.number has.proc has.at has.kind where
  none_at : (main : Proc) (subs : List Proc) → main.kind ≡ Main → AllByRecursion (λ p. p.kind ≡ Sub) subs → (number : ℕ) (proc : Proc) → slice_get (main ∷ subs) number ≡ Some proc → proc.kind ≡ Nmi → ⊥
  none_at main subs first each zero proc at kind =
      let same : main ≡ proc = same_Some _ _ at in
      let here : proc.kind ≡ Main = subst (λ (p : Proc). p.kind ≡ Main) same first in
      let both : Main ≡ Nmi = sym here ∙ kind in
      search rules
  none_at main subs first each (suc number) proc at kind = no_routine subs number proc each at kind

-- the second procedure is it
one_with : (budget : ℕ) (procs : List Proc) → AreInOrder (Some budget) procs → HasRoutine procs
one_with budget [] order = absurd order
one_with budget (main ∷ []) order = absurd order
one_with budget (main ∷ nmi ∷ subs) order = record { number = 1; proc = nmi; at = refl; kind = order.1 }

-- both ways, for the budget that was asked for
pub routine_of : (asked budget : Option ℕ) (procs : List Proc) → budget ≡ asked → AreInOrder budget procs → IsSome asked ↔ HasRoutine procs
routine_of asked budget procs same order = routine_by asked procs (subst (λ (b : Option ℕ). AreInOrder b procs) same order) where
  routine_by : (asked : Option ℕ) (procs : List Proc) → AreInOrder asked procs → IsSome asked ↔ HasRoutine procs
  routine_by None procs order = ((λ some. search rules), (λ has. absurd (none_without procs order has)))
  routine_by (Some b) procs order = ((λ some. one_with b procs order), (λ has. refl))
