use Rattle.std.proofs.Common.{◌≡◌, ◌∷◌, rules}
use Rattle.cert_fields.proofs.ConstantLemmas.{constant_some, size_of_negative, size_of_positive}
use Rattle.cert_fields.proofs.linear.constant_before.Goals as goal

pub returns-in_err-first : goal.returns-in_err-first
returns-in_err-first c = rw c.from_residual.ensures (λ z behind small sign is. constant_some _ behind z small is c.in_err-first.ensures.cases)

pub returns-in_err-size : goal.returns-in_err-size
returns-in_err-size c =
    let cut : c.args.text.now ≡ 45 ∷ c.in_ok-first.behind.now = search rules in
    rw c.from_residual-in_err-size.ensures (λ z behind small sign is.
    let (n, within, size) = size_of_negative behind _ _ sign _ _ z small is cut c.split_at_sign.ensures in
    c.in_err-size.ensures n within size)

pub returns-in_err-size-2 : goal.returns-in_err-size-2
returns-in_err-size-2 c =
    let cut : c.args.text.now ≡ c.in_ok-first.first.now ∷ c.in_ok-first.behind.now = search rules in
    rw c.from_residual-in_err-size-2.ensures (λ z behind small sign is.
    let (n, within, size) = size_of_positive behind _ _ sign _ _ _ z small is cut c.if-first-eq45.false c.split_at_sign-2.ensures in
    c.in_err-size-2.ensures n within size)
