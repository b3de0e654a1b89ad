-- The machine as an activation sees it, which is what an abstract state describes.
use Rattle.std.specs.Prelude.{ℕ, List, Bool}
use Rattle.z80_alu.specs.Word.{high_of, low_of}
use Rattle.z80_alu.specs.declared.regs.Regs.{Regs}
use Rattle.z80_decode.specs.declared.operands.Register8.{Register8}
use Rattle.z80_decode.specs.declared.operands.Register8.TheVariants.{A, B, C, D, E, H, L}
use Rattle.intervals.specs.declared.reg_pair.RegPair.{RegPair}
use Rattle.intervals.specs.declared.reg_pair.RegPair.TheVariants.{Af, Bc, De, Hl, Ix, Iy, AlternateAf, AlternateBc, AlternateDe, AlternateHl}

-- what an activation sees of the machine
pub record Seen : Type 0 where
  pub regs : Regs
  -- the words of the activation on the stack, first pushed first
  pub words : List ℕ
  -- the bytes of the kept cells, in the order of the cells
  pub cells : List ℕ
  pub enable : Bool
  pub line : Bool
  pub latched : Bool

-- the registers after a write of a byte to one of them
abbrev pub regs_with_byte : Register8 → ℕ → Regs → Regs
regs_with_byte A n regs = record regs { main = record regs.main { a = n } }
regs_with_byte B n regs = record regs { main = record regs.main { b = n } }
regs_with_byte C n regs = record regs { main = record regs.main { c = n } }
regs_with_byte D n regs = record regs { main = record regs.main { d = n } }
regs_with_byte E n regs = record regs { main = record regs.main { e = n } }
regs_with_byte H n regs = record regs { main = record regs.main { h = n } }
regs_with_byte L n regs = record regs { main = record regs.main { l = n } }

-- the registers after the flags changed
abbrev pub regs_with_flags : ℕ → Regs → Regs
regs_with_flags n regs = record regs { main = record regs.main { f = n } }

-- the registers after a write of a word to a pair
abbrev pub regs_with_word : RegPair → ℕ → Regs → Regs
regs_with_word Af v regs = record regs { main = record regs.main { a = high_of v; f = low_of v } }
regs_with_word Bc v regs = record regs { main = record regs.main { b = high_of v; c = low_of v } }
regs_with_word De v regs = record regs { main = record regs.main { d = high_of v; e = low_of v } }
regs_with_word Hl v regs = record regs { main = record regs.main { h = high_of v; l = low_of v } }
regs_with_word Ix v regs = record regs { ix = v }
regs_with_word Iy v regs = record regs { iy = v }
regs_with_word AlternateAf v regs = record regs { alternate = record regs.alternate { a = high_of v; f = low_of v } }
regs_with_word AlternateBc v regs = record regs { alternate = record regs.alternate { b = high_of v; c = low_of v } }
regs_with_word AlternateDe v regs = record regs { alternate = record regs.alternate { d = high_of v; e = low_of v } }
regs_with_word AlternateHl v regs = record regs { alternate = record regs.alternate { h = high_of v; l = low_of v } }

-- EX DE,HL
abbrev pub with_de_hl_exchanged : Regs → Regs
with_de_hl_exchanged regs = record regs {
  main = record regs.main { d = regs.main.h; e = regs.main.l; h = regs.main.d; l = regs.main.e };
}

-- EX AF,AF'
abbrev pub with_af_exchanged : Regs → Regs
with_af_exchanged regs = record regs {
  main = record regs.main { a = regs.alternate.a; f = regs.alternate.f };
  alternate = record regs.alternate { a = regs.main.a; f = regs.main.f };
}

-- EXX
abbrev pub with_sets_exchanged : Regs → Regs
with_sets_exchanged regs = record regs {
  main = record regs.alternate { a = regs.main.a; f = regs.main.f };
  alternate = record regs.main { a = regs.alternate.a; f = regs.alternate.f };
}
