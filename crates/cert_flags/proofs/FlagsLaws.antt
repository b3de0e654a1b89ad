-- The laws of the FLAG field's text, in each form.
use Rattle.std.proofs.Common.{◌≡◌, ◌<◌, ◌≤◌, ◌^◌, ℕ, length, sym, ap, ◌∙◌, arith}
use Rattle.texts.proofs.PlainLemmas.{IsPlain}
use Rattle.cert_fields.proofs.InjectiveLaws.{flag_text_injective}
use Rattle.cert_fields.proofs.LengthLaws.{length_flag_fact}
use Rattle.cert_fields.proofs.PlainLaws.{plain_flag_fact}
use Rattle.cert_flags.specs.Flags.{AreFewFlags, AreFlags, flags_text, flags_with}
use Rattle.cert_flags.specs.declared.flags.RowFlags.{RowFlags}
use Rattle.cert_flags.specs.declared.form.FlagForm.{FlagForm}
use Rattle.cert_flags.specs.declared.form.FlagForm.TheVariants.{Fact, Parts}
use Rattle.cert_flags.proofs.PartsLemmas.{length_parts, parts_text_injective, plain_parts}

same_flags : (f g : RowFlags) → f.fact ≡ g.fact → f.parts ≡ g.parts → f ≡ g
same_flags f g fact parts = ap (λ x. flags_with x f.parts) fact ∙ ap (λ x. flags_with g.fact x) parts

-- in one form, no two rows say different things by the same text
pub flags_text_injective : (form : FlagForm) (slots : ℕ) → slots < 2 ^ 64 → (f g : RowFlags) → AreFlags form slots f → AreFlags form slots g →
    flags_text form f ≡ flags_text form g → f ≡ g
flags_text_injective Fact slots small f g are too e = same_flags f g (flag_text_injective f.fact g.fact e) (are.1 ∙ sym too.1)
flags_text_injective Parts slots small f g are too e =
    same_flags f g (are.0 ∙ sym too.0) (parts_text_injective slots small f.parts g.parts are.1 too.1 e)

-- each byte is above the space
pub plain_flags : (form : FlagForm) (slots : ℕ) (f : RowFlags) → slots < 2 ^ 64 → AreFlags form slots f → IsPlain (flags_text form f)
plain_flags Fact slots f small are = plain_flag_fact f.fact
plain_flags Parts slots f small are = plain_parts slots f.parts small are.1

-- the most bytes
pub length_flags : (form : FlagForm) (slots : ℕ) (f : RowFlags) → AreFlags form slots f → AreFewFlags f → length (flags_text form f) ≤ 415
length_flags Fact slots f are few = omega (arith, length_flag_fact f.fact)
length_flags Parts slots f are few = length_parts slots f.parts are.1 few
