use Rattle.std.proofs.Common.{◌≡◌, ◌<◌, ◌≤◌, ◌==◌, ◌+◌, ℕ, Bool, true, false, List, [], ◌∷◌, codes, Option, Some, None, length, suc, refl, sym, ap, ◌∙◌, arith, length-append, eq-eqb}
use Rattle.std.specs.Fmt.{decimal}
use Rattle.std.specs.List.{join_with_byte, AllByRecursion}
use Rattle.std.proofs.lemmas.Bool.{false≢true}
use Rattle.std.proofs.lemmas.List.Splits.{join_with_byte-slice_split}
use Rattle.std.proofs.lemmas.Fmt.{length-decimal-le, decimal_nonempty}
use Rattle.texts.specs.Fields.{fields_in}
use Rattle.texts.specs.Numbers.{Reads, hex2, flag_digit}
use Rattle.texts.proofs.NumberLemmas.{length_hex2}
use Rattle.texts.proofs.PlainLemmas.{ArePlain, plain_from_test, plain_decimal, plain_hex2, plain_flag, fields_in_line, no_lf_in_join}
use Rattle.runner.specs.Input.{IsResetLine, IsEnvLine, reset_fields, reset_text, env_fields, env_text}
use Rattle.texts.specs.Incoming.{HasNoFeed}
use Rattle.runner.specs.declared.input.EnvLine.{EnvLine}
use Rattle.runner.specs.declared.input.ResetLine.{ResetLine}

-- a line is determined by its fields, so reading the fields is reading the line
pub reads_joined : {X : Type 0} (fields : X → List (List ℕ)) (InForm : X → Type 0) → ((x : X) → InForm x → fields_in (join_with_byte 32 (fields x)) ≡ fields x) → (line : List ℕ) (r : Option X) →
    Reads fields InForm (fields_in line) r → Reads (λ x. join_with_byte 32 (fields x)) InForm line r
reads_joined fields InForm kept line (Some x) (form, same) = (form, sym (join_with_byte-slice_split 32 line) ∙ ap (join_with_byte 32) same)
reads_joined fields InForm kept line None none = λ x form same. none x form (ap fields_in same ∙ kept x form)

plain_reset : (line : ResetLine) → IsResetLine line → ArePlain (reset_fields line)
plain_reset line form = (plain_from_test (codes "reset") refl, (plain_decimal line.phase (omega (arith, form.phase)), (plain_hex2 line.fill, tt)))

plain_env : (line : EnvLine) → IsEnvLine line → ArePlain (env_fields line)
plain_env line form =
    (plain_decimal line.count (omega (arith, form.most)), (plain_hex2 _, (plain_hex2 _, (plain_hex2 _, (plain_hex2 _, (plain_hex2 _, (plain_hex2 _, (plain_flag line.latch, tt))))))))

pub reset_fields_kept : (line : ResetLine) → IsResetLine line → fields_in (reset_text line) ≡ reset_fields line
reset_fields_kept line form = fields_in_line _ (plain_reset line form) _ _ refl

pub env_fields_kept : (line : EnvLine) → IsEnvLine line → fields_in (env_text line) ≡ env_fields line
env_fields_kept line form = fields_in_line _ (plain_env line form) _ _ refl

no_feed_from_test : (bytes : List ℕ) → AllByRecursion (λ b. (b == 10) ≡ false) bytes → HasNoFeed bytes
no_feed_from_test [] none = tt
no_feed_from_test (b ∷ bytes) none = (λ e. false≢true (sym none.0 ∙ eq-eqb b 10 e), no_feed_from_test bytes none.1)

-- no line in form has a line feed
pub no_feed_reset : (line : ResetLine) → IsResetLine line → HasNoFeed (reset_text line)
no_feed_reset line form = no_feed_from_test (reset_text line) (no_lf_in_join (reset_fields line) (plain_reset line form))

pub no_feed_env : (line : EnvLine) → IsEnvLine line → HasNoFeed (env_text line)
no_feed_env line form = no_feed_from_test (env_text line) (no_lf_in_join (env_fields line) (plain_env line form))

-- the lengths of fields, each with one more byte
abbrev widths : List (List ℕ) → ℕ
widths [] = 0
widths (field ∷ fields) = length field + 1 + widths fields

length_joined : (field : List ℕ) (fields : List (List ℕ)) → length (join_with_byte 32 (field ∷ fields)) + 1 ≡ widths (field ∷ fields)
length_joined field [] = omega arith
length_joined field (next ∷ fields) =
    let rest = join_with_byte 32 (next ∷ fields) in
    let split : length (join_with_byte 32 (field ∷ next ∷ fields)) ≡ length field + length (32 ∷ rest) = length-append field (32 ∷ rest) in
    let one : length (32 ∷ rest) ≡ suc (length rest) = refl in
    let sum : widths (field ∷ next ∷ fields) ≡ length field + 1 + widths (next ∷ fields) = refl in
    omega (arith, split, one, sum, length_joined next fields)

length_flag : (b : Bool) → length (flag_digit b) ≡ 1
length_flag false = refl
length_flag true = refl

-- and each has at most 30 bytes
pub short_reset : (line : ResetLine) → IsResetLine line → length (reset_text line) ≤ 30
short_reset line form =
    let joined = length_joined (codes "reset") (decimal line.phase ∷ hex2 line.fill ∷ []) in
    let sum : widths (reset_fields line) ≡ 6 + (length (decimal line.phase) + 1 + (length (hex2 line.fill) + 1 + 0)) = omega arith in
    let phase = length-decimal-le 5 line.phase (omega arith) (omega (arith, form.phase)) (omega (arith, form.phase)) in
    omega (arith, joined, sum, phase, length_hex2 line.fill)

pub short_env : (line : EnvLine) → IsEnvLine line → length (env_text line) ≤ 30
short_env line form =
    let joined = length_joined (decimal line.count) (hex2 line.inputs.in0 ∷ hex2 line.inputs.in1 ∷ hex2 line.inputs.in2 ∷ hex2 line.inputs.bus ∷ hex2 line.noise ∷ hex2 line.r ∷ flag_digit line.latch ∷ []) in
    let sum : widths (env_fields line) ≡ length (decimal line.count) + 1 + (length (hex2 line.inputs.in0) + 1 + (length (hex2 line.inputs.in1) + 1 + (length (hex2 line.inputs.in2) + 1 + (length (hex2 line.inputs.bus) + 1 + (length (hex2 line.noise) + 1 + (length (hex2 line.r) + 1 + (length (flag_digit line.latch) + 1 + 0))))))) = refl in
    let count = length-decimal-le 10 line.count (omega arith) (omega (arith, form.most)) (omega (arith, form.most)) in
    omega (arith, joined, sum, count, length_hex2 line.inputs.in0, length_hex2 line.inputs.in1, length_hex2 line.inputs.in2, length_hex2 line.inputs.bus, length_hex2 line.noise, length_hex2 line.r, length_flag line.latch)

-- a line of environments has at least one byte
pub env_some : (line : EnvLine) → IsEnvLine line → 0 < length (env_text line)
env_some line form =
    let joined = length_joined (decimal line.count) (hex2 line.inputs.in0 ∷ hex2 line.inputs.in1 ∷ hex2 line.inputs.in2 ∷ hex2 line.inputs.bus ∷ hex2 line.noise ∷ hex2 line.r ∷ flag_digit line.latch ∷ []) in
    let sum : widths (env_fields line) ≡ length (decimal line.count) + 1 + widths (hex2 line.inputs.in0 ∷ hex2 line.inputs.in1 ∷ hex2 line.inputs.in2 ∷ hex2 line.inputs.bus ∷ hex2 line.noise ∷ hex2 line.r ∷ flag_digit line.latch ∷ []) = refl in
    omega (arith, joined, sum, decimal_nonempty line.count (omega (arith, form.most)))
