-- Flag facts (docs/CHECKER.md, "What a row knows").
use Rattle.std.specs.Prelude.{ℕ, ◌==◌, ◌≡◌, nat_lt, Bool, true, false, if◌then◌else◌, Option, Some, None}
use Rattle.z80_alu.specs.Flags.{flags_of}
use Rattle.z80_alu.specs.declared.regs.Regs.{Regs}
use Rattle.z80_decode.specs.declared.operands.Register8.{Register8}
use Rattle.z80_decode.specs.declared.operands.Register8.TheVariants.{A, B, C, D, E, H, L}
use Rattle.abs_state.specs.declared.fact.FlagFact.{FlagFact}
use Rattle.abs_state.specs.declared.fact.FlagFact.TheVariants.{Zero, Compared}

-- the byte in a register
abbrev pub byte_in : Register8 → Regs → ℕ
byte_in A regs = regs.main.a
byte_in B regs = regs.main.b
byte_in C regs = regs.main.c
byte_in D regs = regs.main.d
byte_in E regs = regs.main.e
byte_in H regs = regs.main.h
byte_in L regs = regs.main.l

-- F agrees with the fact
abbrev pub HoldsFact : Option FlagFact → Regs → Type 0
HoldsFact None regs = Unit {0}
HoldsFact (Some (Zero register)) regs = (flags_of regs.main.f).zero ≡ (byte_in register regs == 0)
HoldsFact (Some (Compared byte)) regs = ((flags_of regs.main.f).carry ≡ nat_lt regs.main.a byte) × ((flags_of regs.main.f).zero ≡ (regs.main.a == byte))

-- the code of a register
abbrev pub place_of_byte : Register8 → ℕ
place_of_byte B = 0
place_of_byte C = 1
place_of_byte D = 2
place_of_byte E = 3
place_of_byte H = 4
place_of_byte L = 5
place_of_byte A = 7

abbrev pub is_same_byte : Register8 → Register8 → Bool
is_same_byte r s = place_of_byte r == place_of_byte s

abbrev pub is_same_fact : FlagFact → FlagFact → Bool
is_same_fact (Zero r) (Zero s) = is_same_byte r s
is_same_fact (Compared n) (Compared m) = n == m
is_same_fact _ _ = false

-- the fact after a write to a register
abbrev pub fact_without : Register8 → Option FlagFact → Option FlagFact
fact_without r None = None
fact_without r (Some (Zero s)) = if is_same_byte r s then None else Some (Zero s)
fact_without r (Some (Compared n)) = if is_same_byte r A then None else Some (Compared n)

-- the row's fact is the state's, or the row has none
abbrev pub covers_fact : Option FlagFact → Option FlagFact → Bool
covers_fact None b = true
covers_fact (Some f) None = false
covers_fact (Some f) (Some g) = is_same_fact f g

-- the fact if both have the same
abbrev pub hull_of_facts : Option FlagFact → Option FlagFact → Option FlagFact
hull_of_facts a b = if covers_fact a b then a else None
