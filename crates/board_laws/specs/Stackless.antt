-- Helper: moves that do not use the stack and do not write SP.
use Rattle.std.specs.Prelude.{List, [], ◌∷◌, Bool, true, false, not, ◌&&◌, ◌==◌}
use Rattle.z80_draft.specs.Room.{accesses_by}
use Rattle.z80_moves.specs.declared.registers.WordRegister.{WordRegister}
use Rattle.z80_moves.specs.declared.registers.WordRegister.TheVariants.{Sp}
use Rattle.z80_moves.specs.declared.moves.Move.{Move}
use Rattle.z80_moves.specs.declared.moves.Move.TheVariants.{SetWord, CopyWord, Displace, ReadWord, Push, Pop, ExchangeStack, AddWord, AddCarryWord, SubtractCarryWord, IncrementWord, DecrementWord}

abbrev pub is_sp : WordRegister → Bool
is_sp Sp = true
is_sp _ = false

-- whether a move writes SP: it pushes or pops, or its target is SP
abbrev pub writes_sp : Move → Bool
writes_sp (Push w) = true
writes_sp (Pop w) = true
writes_sp (ExchangeStack w) = is_sp w
writes_sp (SetWord w nn) = is_sp w
writes_sp (CopyWord to from) = is_sp to
writes_sp (Displace w d) = is_sp w
writes_sp (ReadWord w at) = is_sp w
writes_sp (AddWord to w) = is_sp to
writes_sp (AddCarryWord to w) = is_sp to
writes_sp (SubtractCarryWord to w) = is_sp to
writes_sp (IncrementWord w) = is_sp w
writes_sp (DecrementWord w) = is_sp w
writes_sp _ = false

-- whether a move makes no stack access and does not write SP
abbrev pub is_stackless : Move → Bool
is_stackless m = accesses_by m == 0 && not (writes_sp m)

unfoldable pub are_stackless : List Move → Bool
are_stackless [] = true
are_stackless (m ∷ ms) = is_stackless m && are_stackless ms
