-- Each byte of linears is above the space.
use Rattle.std.proofs.Common.{ℕ, ◌<◌, ◌^◌, codes, Option, Some, None, refl}
use Rattle.loop_bounds.specs.Linear.{LinearView}
use Rattle.texts.proofs.PlainLemmas.{IsPlain, plain_from_test}
use Rattle.cert_fields.specs.Linear.{IsSum, IsPotential, linear_text, potential_text}
use Rattle.cert_fields.proofs.LinearPartLemmas.{part_is_plain, part_linear}

pub plain_linear : (slots : ℕ) (s : LinearView) → slots < 2 ^ 64 → IsSum slots s → IsPlain (linear_text s)
plain_linear slots s small form = part_is_plain (linear_text s) (part_linear slots s small form)

pub plain_potential : (slots : ℕ) (p : Option LinearView) → slots < 2 ^ 64 → IsPotential slots p → IsPlain (potential_text p)
plain_potential slots None small form = plain_from_test (codes "-") refl
plain_potential slots (Some s) small form = plain_linear slots s small form
