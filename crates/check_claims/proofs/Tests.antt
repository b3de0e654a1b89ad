-- Tests one after the other.
use Rattle.std.proofs.Common.{◌≡◌, ◌↔◌, ◌⊎◌, inl, inr, Bool, true, false, IsTrue, sym, subst, rules}

never : IsTrue false → ⊥
never e = search rules

-- the first test holds
pub by_first : (P Q : Type 0) (first : Bool) → first ≡ true → (IsTrue first ↔ P) → IsTrue true ↔ (P ⊎ Q)
by_first P Q first e h = (λ t. inl (h.0 (subst IsTrue (sym e) t)), λ both. subst IsTrue e (subst IsTrue (sym e) (search rules)))

-- the first does not hold, so the second decides
pub by_second : (P Q : Type 0) (first second : Bool) → first ≡ false → (IsTrue first ↔ P) → (IsTrue second ↔ Q) → IsTrue second ↔ (P ⊎ Q)
by_second P Q first second e h k = (λ t. inr (k.0 t), decided)
  where
    decided : P ⊎ Q → IsTrue second
    decided (inl p) = absurd (never (subst IsTrue e (h.1 p)))
    decided (inr q) = k.1 q

-- the first does not hold, and the second is the first
pub by_neither : (P Q : Type 0) (first : Bool) → first ≡ false → (IsTrue first ↔ P) → (Q → P) → IsTrue false ↔ (P ⊎ Q)
by_neither P Q first e h k = (λ t. absurd (never t), refused)
  where
    refused : P ⊎ Q → IsTrue false
    refused (inl p) = subst IsTrue e (h.1 p)
    refused (inr q) = subst IsTrue e (h.1 (k q))
