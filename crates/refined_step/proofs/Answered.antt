-- What an answer says of the reason and of the successors.
use Rattle.std.proofs.Common.{◌≡◌, List, Option, Some, None, Ok, refl, subst}
use Rattle.std.specs.Prelude.{IfOk, IfErr, Result, Err}
use Rattle.abs_step.specs.Successors.{answer_by}
use Rattle.abs_step.specs.declared.next.Next.{Next}
use Rattle.abs_step.specs.declared.reason.Reason.{Reason}

-- ---- results

ok_same : {X Y : Type 0} (x y : X) → (let r : Result X Y = Ok x in r) ≡ Ok y → x ≡ y
ok_same x y e = cc

err_same : {X Y : Type 0} (x y : Y) → (let r : Result X Y = Err x in r) ≡ Err y → x ≡ y
err_same x y e = cc

pub at_ok : {X Y : Type 0} (r : Result X Y) (P : X → Type 0) (x : X) → r ≡ Ok x → IfOk r P → P x
at_ok (Ok y) P x e p = subst P (ok_same y x e) p
at_ok (Err y) P x e p = absurd (cc)

pub at_err : {X Y : Type 0} (r : Result X Y) (P : Y → Type 0) (y : Y) → r ≡ Err y → IfErr r P → P y
at_err (Ok x) P y e p = absurd (cc)
at_err (Err x) P y e p = subst P (err_same x y e) p

pub three_ok : {X Y : Type 0} (r : Result X Y) (P Q R S : X → Type 0) → IfOk r P → IfOk r Q → IfOk r R → ((x : X) → P x → Q x → R x → S x) → IfOk r S
three_ok (Ok x) P Q R S p q r f = f x p q r
three_ok (Err y) P Q R S p q r f = tt

-- ---- answers

same_nexts : (found nexts : List Next) → answer_by None found ≡ Ok nexts → found ≡ nexts
same_nexts found nexts e = cc

-- an answer without a reason
pub told : (o : Option Reason) (found nexts : List Next) → answer_by o found ≡ Ok nexts → (o ≡ None) × (found ≡ nexts)
told None found nexts e = (refl, same_nexts found nexts e)
told (Some r) found nexts e = absurd (cc)

-- the same reason, whatever the successors are
pub same_reason : (o : Option Reason) (found other : List Next) (r : Reason) → answer_by o found ≡ Err r → answer_by o other ≡ Err r
same_reason None found other r e = absurd (cc)
same_reason (Some s) found other r e = e
