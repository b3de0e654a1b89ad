-- A after ADC and SBC lies in the range of the results over the whole numbers.
use Rattle.std.proofs.Common.{◌≡◌, ℕ, ◌+◌, ◌-◌, ◌/◌, ◌%◌, ◌<◌, ◌≤◌, Bool, true, false, cond, eqb, Option, Some, None, refl, sym, subst, arith}
use Rattle.std.specs.Prelude.{IfSome, leb}
use Rattle.std.specs.Int.{from_bool}
use Rattle.std.proofs.lemmas.Bool.{eqb-true}
use Rattle.intervals.specs.Range.{RangeView, Within, between}
use Rattle.z80_decode.specs.declared.kinds.ArithmeticKind.{ArithmeticKind}
use Rattle.z80_decode.specs.declared.kinds.ArithmeticKind.TheVariants as operations
use Rattle.z80_draft.specs.Arithmetic.{value_of}
use Rattle.linear_effects.specs.Carried.{carried_by, carried_if, residues}

between_holds : (low high n : ℕ) → low ≤ n → n ≤ high → IfSome (between low high) (λ r. Within r n)
between_holds low high n h k =
    elim (leb low high) as (λ t. IfSome (cond t (Some (let r : RangeView = record { low = low; high = high } in r)) None) (λ r. Within r n)) [ true ↦ (h, k) | false ↦ tt ]

residues_hold : (low high n : ℕ) → low ≤ n → n ≤ high → IfSome (residues low high) (λ r. Within r (n % 256))
residues_hold low high n h k =
    let at : (t : Bool) → eqb (low / 256) (high / 256) ≡ t → IfSome (cond t (between (low % 256) (high % 256)) None) (λ r. Within r (n % 256)) =
    elim [ true ↦ λ e. let one : low / 256 ≡ high / 256 = eqb-true _ _ e in between_holds (low % 256) (high % 256) (n % 256) (omega arith) (omega arith) | false ↦ λ e. tt ] in
    at (eqb (low / 256) (high / 256)) refl

by_is : (kind : ArithmeticKind) (a b : RangeView) (x n : ℕ) (k : Bool) → x < 256 → n < 256 → Within a x → Within b n → IfSome (carried_by kind a b k) (λ r. Within r (value_of kind x n k))
by_is operations.Add a b x n k small few h w = tt
by_is operations.Adc a b x n k small few h w = residues_hold (a.low + b.low + from_bool k) (a.high + b.high + from_bool k) (x + n + from_bool k) (omega arith) (omega arith)
by_is operations.Sub a b x n k small few h w = tt
by_is operations.Sbc a b x n k small few h w = residues_hold (256 + a.low - b.high - from_bool k) (256 + a.high - b.low - from_bool k) (256 + x - n - from_bool k) (omega arith) (omega arith)
by_is operations.And a b x n k small few h w = tt
by_is operations.Xor a b x n k small few h w = tt
by_is operations.Or a b x n k small few h w = tt
by_is operations.Compare a b x n k small few h w = tt

pub carried_is : (kind : ArithmeticKind) (a b : RangeView) (x n : ℕ) (c : Bool) (carry : Option Bool) → x < 256 → n < 256 → Within a x → Within b n → IfSome carry (λ k. c ≡ k) → IfSome (carried_if kind a b carry) (λ r. Within r (value_of kind x n c))
carried_is kind a b x n c None small few h w e = tt
carried_is kind a b x n c (Some k) small few h w e = subst (λ (q : Bool). IfSome (carried_by kind a b k) (λ r. Within r (value_of kind x n q))) (sym e) (by_is kind a b x n k small few h w)
