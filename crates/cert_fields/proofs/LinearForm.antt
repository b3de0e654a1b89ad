-- A linear that a row may have is one that the type `Linear` can hold.
use Rattle.std.proofs.Common.{ℕ, ◌≤◌, length}
use Rattle.loop_bounds.specs.Linear.{LinearView, IsLinear}
use Rattle.cert_fields.specs.Linear.{IsSum, HasSlotsBelow}

pub linear_from_sum : (slots : ℕ) (s : LinearView) → IsSum slots s → length s.terms ≤ 3 → IsLinear s
linear_from_sum slots s form few = record { constant = form.constant; count = few; coefficients = form.coefficients; rising = form.rising }

pub sum_from_linear : (slots : ℕ) (s : LinearView) → IsLinear s → HasSlotsBelow slots s → IsSum slots s
sum_from_linear slots s linear within = record { constant = linear.constant; coefficients = linear.coefficients; rising = linear.rising; within_shape = within }

-- a linear in form in a row with some slots is in form in one with others, if it has none beyond these
pub sum_within : (slots others : ℕ) (s : LinearView) → IsSum slots s → HasSlotsBelow others s → IsSum others s
sum_within slots others s form within = record { constant = form.constant; coefficients = form.coefficients; rising = form.rising; within_shape = within }
