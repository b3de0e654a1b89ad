use Rattle.std.proofs.Common.{◌≡◌, take}
use Rattle.address_map.specs.Boards.{with_rom}
use Rattle.address_map.proofs.boards.with_rom.Given as goal

abbrev pub invariant-loop-zone : goal.invariant-loop-zone
invariant-loop-zone l = l.zones.items ≡ with_rom l.rom_len (take l.zone-index l.behind)
