-- Two variables of the same rank are equal.
use Rattle.std.proofs.Common.{◌≡◌, ◌≢◌, ℕ, ◌+◌, ◌-◌, ◌*◌, ◌/◌, ◌%◌, ◌==◌, cond, eqb, refl, sym, ap, ◌∙◌, arith}
use Rattle.std.proofs.lemmas.Bool.Decides.{nat_tests}
use Rattle.loop_bounds.specs.declared.variable.Variable.{Variable}
use Rattle.loop_bounds.specs.declared.variable.Variable.TheVariants.{A, B, C, D, E, H, L, Bc, De, Hl, Ix, Iy, Slot}
use Rattle.loop_bounds.specs.declared.variable.Part.{Part}
use Rattle.loop_bounds.specs.declared.variable.Part.TheVariants.{Word, High, Low}
use Rattle.loop_bounds.specs.Variable.{rank_of, part_rank}

part_at : ℕ → Part
part_at n = cond (n == 0) Word (cond (n == 1) High Low)

slot_at : ℕ → Variable
slot_at n = Slot (n / 3) (part_at (n % 3))

variable_at : ℕ → Variable
variable_at n = cond (n == 0) A (cond (n == 1) B (cond (n == 2) C (cond (n == 3) D (cond (n == 4) E (cond (n == 5) H
    (cond (n == 6) L (cond (n == 7) Bc (cond (n == 8) De (cond (n == 9) Hl (cond (n == 10) Ix (cond (n == 11) Iy
    (slot_at (n - 12)))))))))))))

beyond : (n : ℕ) → variable_at (12 + n) ≡ slot_at n
unfolding variable_at
beyond n = grind (arith, nat_tests)

slot_again : (n : ℕ) (p : Part) → slot_at (3 * n + part_rank p) ≡ Slot n p
unfolding slot_at part_at
slot_again n Word =
    let q : (3 * n + 0) / 3 ≡ n = omega arith in
    let r : (3 * n + 0) % 3 ≡ 0 = omega arith in
    rw (q, r) refl
slot_again n High =
    let q : (3 * n + 1) / 3 ≡ n = omega arith in
    let r : (3 * n + 1) % 3 ≡ 1 = omega arith in
    rw (q, r) refl
slot_again n Low =
    let q : (3 * n + 2) / 3 ≡ n = omega arith in
    let r : (3 * n + 2) % 3 ≡ 2 = omega arith in
    rw (q, r) refl

variable_at-rank : (v : Variable) → variable_at (rank_of v) ≡ v
unfolding variable_at
variable_at-rank A = refl
variable_at-rank B = refl
variable_at-rank C = refl
variable_at-rank D = refl
variable_at-rank E = refl
variable_at-rank H = refl
variable_at-rank L = refl
variable_at-rank Bc = refl
variable_at-rank De = refl
variable_at-rank Hl = refl
variable_at-rank Ix = refl
variable_at-rank Iy = refl
variable_at-rank (Slot n p) =
    let e : 12 + 3 * n + part_rank p ≡ 12 + (3 * n + part_rank p) = omega arith in
    ap variable_at e ∙ beyond (3 * n + part_rank p) ∙ slot_again n p

pub same_from_rank : (v w : Variable) → rank_of v ≡ rank_of w → v ≡ w
same_from_rank v w e = sym (variable_at-rank v) ∙ ap variable_at e ∙ variable_at-rank w

-- a choice by whether two variables are equal
pub choice_same : {X : Type 0} (v w : Variable) (a b : X) → v ≡ w → cond (eqb (rank_of v) (rank_of w)) a b ≡ a
choice_same v w a b e =
    let same : rank_of v ≡ rank_of w = ap rank_of e in
    grind (arith, nat_tests)

pub choice_other : {X : Type 0} (v w : Variable) (a b : X) → v ≢ w → cond (eqb (rank_of v) (rank_of w)) a b ≡ b
choice_other v w a b ne =
    let other : rank_of v ≢ rank_of w = λ e. ne (same_from_rank v w e) in
    grind (arith, nat_tests)
