use Rattle.std.proofs.Common.{refl, ap, ◌∙◌}
use Rattle.address_map.proofs.BoardLemmas.{raised_is_map}
use Rattle.address_map.specs.AddressMap.{MapView}
use Rattle.address_map.specs.Boards.{raised}
use Rattle.address_map.proofs.map.Map.raised.Goals as goal

pub made-requires : goal.made-requires
unfolding raised
made-requires c =
    rw (c.with_rom.ensures, c.raised_zones.ensures) (raised_is_map c.args.rom_len c.requires.some c.requires.fits)

pub returns-clause-value : goal.returns-clause-value
unfolding raised
returns-clause-value c =
    c.made.ensures ∙ rw (c.with_rom.ensures, c.raised_zones.ensures) refl

pub returns-clause-length : goal.returns-clause-length
returns-clause-length c = ap (λ (m : MapView). m.rom_len) c.made.ensures
