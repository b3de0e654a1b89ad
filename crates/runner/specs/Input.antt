-- The lines of an input.
use Rattle.std.specs.Prelude.{ℕ, ◌<◌, ◌≤◌, false, List, [], ◌∷◌, codes, replicate}
use Rattle.std.specs.Fmt.{decimal}
use Rattle.std.specs.List.{join_with_byte}
use Rattle.board_step.specs.declared.board.Reset.{Reset}
use Rattle.board_step.specs.declared.env.Env.{Env}
use Rattle.texts.specs.Numbers.{IsByte, flag_digit, hex2}
use Rattle.runner.specs.declared.input.EnvLine.{EnvLine}
use Rattle.runner.specs.declared.input.ResetLine.{ResetLine}
use Rattle.t_states.specs.Frame.{frame}
use Rattle.z80_alu.specs.Word.{word_of}
use Rattle.z80_alu.specs.declared.regs.RegisterSet.{RegisterSet}
use Rattle.z80_alu.specs.declared.regs.Regs.{Regs}

-- the fields of an input's first line, and the line without its line feed (docs/PROGRAM.md, "INPUT")
abbrev pub reset_fields : ResetLine → List (List ℕ)
reset_fields line = codes "reset" ∷ decimal line.phase ∷ hex2 line.fill ∷ []

abbrev pub reset_text : ResetLine → List ℕ
reset_text line = join_with_byte 32 (reset_fields line)

pub record IsResetLine (line : ResetLine) : Type 0 where
  pub phase : line.phase < frame
  pub fill : IsByte line.fill

-- a register set whose bytes are all the same
abbrev pub filled_set : ℕ → RegisterSet
filled_set fill = record { a = fill; f = fill; b = fill; c = fill; d = fill; e = fill; h = fill; l = fill }

-- registers after a reset: each byte that a reset leaves open is this one
abbrev pub regs_of : ℕ → Regs
regs_of fill = record {
  main = filled_set fill;
  alternate = filled_set fill;
  ix = word_of fill fill;
  iy = word_of fill fill;
  sp = word_of fill fill;
  pc = 0;
  i = 0;
  r = 0;
  iff1 = false;
  iff2 = false;
}

-- the values that a reset leaves open, as the first line of an input gives them
abbrev pub reset_of : ResetLine → Reset
reset_of line = record {
  work = replicate 1024 line.fill;
  video = replicate 1024 line.fill;
  object = replicate 256 line.fill;
  regs = regs_of line.fill;
  phase = line.phase;
}

-- the fields of any other line, and the line without its line feed
abbrev pub env_fields : EnvLine → List (List ℕ)
env_fields line =
    decimal line.count ∷ hex2 line.inputs.in0 ∷ hex2 line.inputs.in1 ∷ hex2 line.inputs.in2 ∷ hex2 line.inputs.bus ∷ hex2 line.noise ∷ hex2 line.r ∷ flag_digit line.latch ∷ []

abbrev pub env_text : EnvLine → List ℕ
env_text line = join_with_byte 32 (env_fields line)

pub record IsEnvLine (line : EnvLine) : Type 0 where
  pub least : 1 ≤ line.count
  pub most : line.count ≤ 4294967295
  pub in0 : IsByte line.inputs.in0
  pub in1 : IsByte line.inputs.in1
  pub in2 : IsByte line.inputs.in2
  pub bus : IsByte line.inputs.bus
  pub noise : IsByte line.noise
  pub r : IsByte line.r

-- the environment of each event of a line: both reads of an event find the same inputs
abbrev pub env_of : EnvLine → Env
env_of line = record { inputs = line.inputs ∷ line.inputs ∷ []; noise = line.noise; r = line.r; latch = line.latch }
