use Rattle.std.proofs.Common.{refl, sym, subst, ◌∙◌, arith}
use Rattle.std.proofs.lemmas.Bool.{false≢true}
use Rattle.cert_lines.proofs.FieldLemmas.{more}
use Rattle.cert_lines.proofs.RowLemmas.{count_is, counted_value, facts_is, flags_is, none_left, potential_is, shape_is, slots_value}
use Rattle.cert_lines.specs.Row.{Last}
use Rattle.cert_lines.specs.Version.{flag_form}
use Rattle.cert_fields.specs.Facts.{AreFacts, AreFewFacts, facts_text}
use Rattle.cert_fields.specs.Linear.{IsPotential, IsShortPotential, potential_text}
use Rattle.cert_flags.specs.Flags.{AreFewFlags, AreFlags, flags_text}
use Rattle.cert_lines.proofs.row_reading.read_last.Goals as goal
use Rattle.cert_lines.proofs.row_reading.read_last.Goals.{then-not-is_empty-via-then-not-is_empty, then-not-is_empty-via-else-not-is_empty+then-count-ge-SLOT_BOUND}

pub returns-in_err-flags : goal.returns-in_err-flags
returns-in_err-flags c =
    rw c.from_residual-in_err-flags.ensures (λ last form same.
    let seen = more _ _ _ _ _ c.in_ok-flag_text.ensures refl (more _ _ _ _ _ c.in_ok-facts_text.ensures refl (more _ _ _ _ _ c.in_ok-next.ensures refl refl)) in
    let same_text = sym seen ∙ same in
    let count = count_is _ _ _ c.in_ok-count.ensures last.shape form.shape (shape_is c.args.version _ _ _ _ last same_text) in
    c.in_err-flags.ensures last.flags (subst (λ n. AreFlags (flag_form c.args.version) n last.flags) (sym count) form.flags) (flags_is c.args.version _ _ last same_text))

pub returns-in_err-facts : goal.returns-in_err-facts
returns-in_err-facts c =
    rw c.from_residual-in_err-facts.ensures (λ last form same.
    let seen = more _ _ _ _ _ c.in_ok-flag_text.ensures refl (more _ _ _ _ _ c.in_ok-facts_text.ensures refl (more _ _ _ _ _ c.in_ok-next.ensures refl refl)) in
    let same_text = sym seen ∙ same in
    let count = count_is _ _ _ c.in_ok-count.ensures last.shape form.shape (shape_is c.args.version _ _ _ _ last same_text) in
    c.in_err-facts.ensures last.facts (subst (λ n. AreFacts n last.facts) (sym count) form.facts) (facts_is c.args.version _ _ _ last same_text))

pub returns-in_err-potential : goal.returns-in_err-potential
returns-in_err-potential c =
    rw c.from_residual-in_err-potential.ensures (λ last form same.
    let seen = more _ _ _ _ _ c.in_ok-flag_text.ensures refl (more _ _ _ _ _ c.in_ok-facts_text.ensures refl (more _ _ _ _ _ c.in_ok-next.ensures refl
    (more _ _ _ _ _ c.in_ok-next-2.ensures refl refl))) in
    let same_text = sym seen ∙ same in
    let count = count_is _ _ _ c.in_ok-count.ensures last.shape form.shape (shape_is c.args.version _ _ _ _ last same_text) in
    c.in_err-potential.ensures last.potential (subst (λ n. IsPotential n last.potential) (sym count) form.potential) (potential_is c.args.version _ _ _ _ _ last same_text))

pub returns-then-not-is_empty : goal.returns-then-not-is_empty
returns-then-not-is_empty c last form same =
    let seen = more _ _ _ _ _ c.in_ok-flag_text.ensures refl (more _ _ _ _ _ c.in_ok-facts_text.ensures refl (more _ _ _ _ _ c.in_ok-next.ensures refl
    (more _ _ _ _ _ c.in_ok-next-2.ensures refl refl))) in
    let same_text = sym seen ∙ same in
    elim c.then-not-is_empty.branch [
      | then-not-is_empty-via-then-not-is_empty w ↦
          false≢true (w.if-not-is_empty.ensures.1 (none_left c.args.version _ _ _ _ _ last same_text))
      | then-not-is_empty-via-else-not-is_empty+then-count-ge-SLOT_BOUND w ↦
          let count = count_is _ _ _ c.in_ok-count.ensures last.shape form.shape (shape_is c.args.version _ _ _ _ last same_text) in
          omega (arith, count, form.slots, w.if-count-ge-SLOT_BOUND.true)
    ]

pub returns : goal.returns
returns c =
    let form = flag_form c.args.version in
    let (slots, slots_form, slots_told, count, slots_text) = slots_value _ _ _ c.in_ok-count.ensures in
    let (flags, flags_form, flags_told, flags_same) =
    counted_value (flags_text form) (AreFlags form c.in_ok-count.field-0.count) AreFewFlags c.in_ok-flag_text.flag_text.now c.in_ok-flags.flags c.in_ok-flags.ensures in
    let (facts, facts_form, facts_told, facts_same) = counted_value facts_text (AreFacts c.in_ok-count.field-0.count) AreFewFacts c.in_ok-facts_text.facts_text.now c.in_ok-facts.facts c.in_ok-facts.ensures in
    let (potential, potential_form, potential_told, potential_same) =
    counted_value potential_text (IsPotential c.in_ok-count.field-0.count) IsShortPotential c.in_ok-next-2.field-0.now c.in_ok-potential.potential c.in_ok-potential.ensures in
    let last : Last = record { flags = flags; facts = facts; shape = slots; potential = potential } in (
      last,
      record {
        flags = subst (λ n. AreFlags form n flags) count flags_form;
        facts = subst (λ n. AreFacts n facts) count facts_form;
        shape = slots_form;
        slots = omega (arith, count, c.if-count-ge-SLOT_BOUND.false);
        potential = subst (λ n. IsPotential n potential) count potential_form;
      },
      record { flags = flags_told; count = count; shape = slots_told; facts = facts_told; potential = potential_told },
      more _ _ _ _ _ c.in_ok-flag_text.ensures flags_same (more _ _ _ _ _ c.in_ok-facts_text.ensures facts_same (more _ _ _ _ _ c.in_ok-next.ensures slots_text
          (more _ _ _ _ _ c.in_ok-next-2.ensures potential_same (c.if-not-is_empty.ensures.0 refl)))),
    )
