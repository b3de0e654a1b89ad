-- What holds of a value that is there.
use Rattle.std.proofs.Common.{◌≡◌, ◌↔◌, Option, Some, IsSomeAnd, sym, subst}

-- what is told of the value is told of the option
pub told_of_some : {X : Type 0} (P : X → Type 0) (o : Option X) (x : X) (b : Type 0) → o ≡ Some x → (b ↔ P x) → b ↔ IsSomeAnd o P
told_of_some P o x b is h = subst (λ (p : Option _). b ↔ IsSomeAnd p P) (sym is) h
