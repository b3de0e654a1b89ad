use Rattle.std.proofs.Common.{◌≡◌, ◌↔◌, ◌∙◌, true, false, inl, inr, ap, subst}
use Rattle.abs_laws.specs.Writes.{MissesRegion}
use Rattle.address_map.specs.AddressMap.{MapView}
use Rattle.address_map.specs.declared.region.Region.{Region}
use Rattle.cert_form.specs.Contents.{map_of_board}
use Rattle.check_rules.specs.Table.{AllWrites}
use Rattle.check_rules.proofs.Judged.{of_row}
use Rattle.check_ways.specs.Ways.{SubjectView}
use Rattle.check_rules.proofs.writes.misses_stack.Goals as goal

never : false ≡ true → ⊥
never e = cc

pub returns-else-has_no_stack : goal.returns-else-has_no_stack
returns-else-has_no_stack c =
    let decided =
    of_row c.args.subject.now (λ (map : MapView). MissesRegion map c.region.result) c.subject.inside.map.now c.args.writes.now c.all_miss_region.result
    (c.subject.invariant.1 ∙ ap (λ (s : SubjectView). map_of_board s.cert) c.subject.view_is) c.requires c.all_miss_region.ensures in
    let told =
    subst (λ (r : Region). (c.all_miss_region.result ≡ true) ↔ AllWrites c.args.subject.now (MissesRegion (map_of_board c.args.subject.now.cert) r))
    (c.region.ensures ∙ ap (λ (s : SubjectView). s.cert.region) c.subject.view_is) decided in (
      (λ e. inr (told.0 e)),
      λ stack. elim stack [
        | inl none ↦ absurd (never (c.if-has_no_stack.ensures.1 none))
        | inr all ↦ told.1 all
      ],
    )
