-- When an instruction restarts the program, and the state after it (docs/CHECKER.md, "Restarts").
use Rattle.std.specs.Prelude.{◌&&◌, Bool, true, false, [], None, Result, Ok, is_some, not}
use Rattle.abs_state.specs.declared.pairs.Pairs.{Pairs}
use Rattle.abs_state.specs.declared.state.AbsState.{AbsState}
use Rattle.cert_lines.specs.declared.proc.Proc.{Proc}
use Rattle.cert_lines.specs.declared.proc.ProcKind.{ProcKind}
use Rattle.cert_lines.specs.declared.proc.ProcKind.TheVariants.{Main, Nmi, Sub}
use Rattle.cert_lines.specs.declared.version.Version.{Version}
use Rattle.cert_lines.specs.declared.version.Version.TheVariants.{Three}
use Rattle.intervals.specs.declared.pair.Pair.{Pair}
use Rattle.z80_decode.specs.declared.fault.DecodeFault.{DecodeFault}
use Rattle.z80_decode.specs.declared.instr.Instr.{Instr}
use Rattle.z80_decode.specs.declared.instr.Instr.TheVariants.{LoadPair}
use Rattle.z80_decode.specs.declared.operands.Register16.TheVariants as words

abbrev pub is_sub : ProcKind → Bool
is_sub Main = false
is_sub Nmi = false
is_sub Sub = true

-- LD SP,nn
abbrev pub loads_sp : Instr → Bool
loads_sp (LoadPair words.Sp nn) = true
loads_sp _ = false

-- a called procedure without a time sets SP, in version 3: the machine goes on in main (reason 20 asks for the top of
-- the region)
abbrev pub restarts_by : Version → Proc → Result Instr DecodeFault → Bool
restarts_by Three proc (Ok instr) = is_sub proc.kind && (not (is_some proc.time) && loads_sp instr)
restarts_by _ proc decoded = false

abbrev pub without_origin : Pair → Pair
without_origin pair = record pair { origin = None }

abbrev pub without_origins : Pairs → Pairs
without_origins p = record {
  af = without_origin p.af;
  bc = without_origin p.bc;
  de = without_origin p.de;
  hl = without_origin p.hl;
  ix = without_origin p.ix;
  iy = without_origin p.iy;
  alternate_af = without_origin p.alternate_af;
  alternate_bc = without_origin p.alternate_bc;
  alternate_de = without_origin p.alternate_de;
  alternate_hl = without_origin p.alternate_hl;
}

-- no origins, no words on the stack, and no flag fact
abbrev pub restarted : AbsState → AbsState
restarted s = record s { pairs = without_origins s.pairs; flag = None; shape = [] }
