use Rattle.std.proofs.Common.{◌≡◌, ◌||◌, drop}
use Rattle.board_step.specs.Trap.{is_rom, is_unmapped, some_write}
use Rattle.board_step.proofs.trap.trap_of_writes.Given as goal

abbrev pub invariant-loop-write : goal.invariant-loop-write
invariant-loop-write l =
    (some_write l.map is_rom l.writes ≡ some_write l.map is_rom (drop l.write-index l.writes))
    × (some_write l.map is_unmapped l.writes ≡ (l.unmapped || some_write l.map is_unmapped (drop l.write-index l.writes)))
