use Rattle.std.proofs.Common.{◌∙◌, ap}
use Rattle.address_map.specs.AddressMap.{MapView}
use Rattle.cert_form.specs.Contents.{map_of_board}
use Rattle.check_ways.specs.Ways.{SubjectView}
use Rattle.address_map.specs.declared.map.WriteClass.TheVariants as classes
use Rattle.check_writes.specs.Writes.{MissesClass}
use Rattle.check_rules.proofs.Judged.{of_row}
use Rattle.check_rules.proofs.writes.misses_rom.Goals as goal

pub returns : goal.returns
returns c =
    of_row c.args.subject.now (λ (map : MapView). MissesClass map classes.Rom) c.subject.inside.map.now c.args.writes.now c.all_miss_rom.result
    (c.subject.invariant.1 ∙ ap (λ (s : SubjectView). map_of_board s.cert) c.subject.view_is) c.requires
    c.all_miss_rom.ensures
