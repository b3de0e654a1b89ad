use Rattle.std.proofs.Common.{refl}
use Rattle.cert_lines.proofs.FieldLemmas.{more}
use Rattle.cert_lines.proofs.row_reading.take_pairs.Goals as goal

pub returns : goal.returns
returns c = (
  record { af = c.in_ok-pair_field.ensures.0; bc = c.in_ok-pair_field-2.ensures.0; de = c.in_ok-pair_field-3.ensures.0; hl = c.in_ok-pair_field-4.ensures.0; ix = c.in_ok-pair_field-5.ensures.0; iy = c.in_ok-pair_field-6.ensures.0; alternate_af = c.in_ok-pair_field-7.ensures.0; alternate_bc = c.in_ok-pair_field-8.ensures.0; alternate_de = c.in_ok-pair_field-9.ensures.0; alternate_hl = c.in_ok-pair_field-10.ensures.0 },
  more _ _ _ _ _ c.in_ok-next.ensures c.in_ok-pair_field.ensures.1
      (more _ _ _ _ _ c.in_ok-next-2.ensures c.in_ok-pair_field-2.ensures.1
      (more _ _ _ _ _ c.in_ok-next-3.ensures c.in_ok-pair_field-3.ensures.1
      (more _ _ _ _ _ c.in_ok-next-4.ensures c.in_ok-pair_field-4.ensures.1
      (more _ _ _ _ _ c.in_ok-next-5.ensures c.in_ok-pair_field-5.ensures.1
      (more _ _ _ _ _ c.in_ok-next-6.ensures c.in_ok-pair_field-6.ensures.1
      (more _ _ _ _ _ c.in_ok-next-7.ensures c.in_ok-pair_field-7.ensures.1
      (more _ _ _ _ _ c.in_ok-next-8.ensures c.in_ok-pair_field-8.ensures.1
      (more _ _ _ _ _ c.in_ok-next-9.ensures c.in_ok-pair_field-9.ensures.1
      (more _ _ _ _ _ c.in_ok-next-10.ensures c.in_ok-pair_field-10.ensures.1 refl))))))))),
)
