use Rattle.std.proofs.Common.{refl, ap, ◌∙◌}
use Rattle.address_map.proofs.BoardLemmas.{galaxian_is_map}
use Rattle.address_map.specs.AddressMap.{MapView}
use Rattle.address_map.specs.Boards.{galaxian}
use Rattle.address_map.proofs.map.Map.galaxian.Goals as goal

pub made-requires : goal.made-requires
unfolding galaxian
made-requires c =
    rw (c.with_rom.ensures, c.galaxian_zones.ensures) (galaxian_is_map c.args.rom_len c.requires.some c.requires.fits)

pub returns-clause-value : goal.returns-clause-value
unfolding galaxian
returns-clause-value c =
    c.made.ensures ∙ rw (c.with_rom.ensures, c.galaxian_zones.ensures) refl

pub returns-clause-length : goal.returns-clause-length
returns-clause-length c = ap (λ (m : MapView). m.rom_len) c.made.ensures
