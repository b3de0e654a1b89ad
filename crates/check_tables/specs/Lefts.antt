-- What the exits of a procedure leave (docs/CHECKER.md, "How long judging takes").
use Rattle.std.specs.Prelude.{ℕ, zero, suc, ◌≡◌, ◌⊎◌, List, [], Some, None, Result, Contains, slice_get}
use Rattle.abs_state.specs.Covers.{CoversState}
use Rattle.abs_state.specs.Pairs.{KeepsPairs}
use Rattle.abs_state.specs.declared.mode.Mode.{Mode}
use Rattle.abs_state.specs.declared.mode.Mode.TheVariants.{Unset, Set, Nmi}
use Rattle.abs_state.specs.declared.state.AbsState.{AbsState}
use Rattle.check_cover.specs.Program.{is_main}
use Rattle.cert_lines.specs.declared.row.Row.{Row}
use Rattle.cert_form.specs.Contents.{CertificateView}
use Rattle.board_fetch.specs.Decoded.{StandsAt}
use Rattle.z80_decode.specs.declared.fault.DecodeFault.{DecodeFault}
use Rattle.z80_decode.specs.declared.instr.Instr.{Instr}
use Rattle.check_tables.specs.Exits.{exit_by}
use Rattle.check_tables.specs.declared.left.Left.{Left}

-- modes as numbers
abbrev pub mode_number : Mode → ℕ
mode_number Unset = 0
mode_number Set = 1
mode_number Nmi = 2

abbrev pub numbered_mode : ℕ → Mode
numbered_mode zero = Unset
numbered_mode (suc zero) = Set
numbered_mode (suc (suc n)) = Nmi

-- what counts of an exit's state after the call
abbrev pub left_of : AbsState → Left
left_of s = record {
  mode = mode_number s.mode;
  armed = s.armed;
  af = s.pairs.af;
  bc = s.pairs.bc;
  de = s.pairs.de;
  hl = s.pairs.hl;
  ix = s.pairs.ix;
  iy = s.pairs.iy;
  alternate_af = s.pairs.alternate_af;
  alternate_bc = s.pairs.alternate_bc;
  alternate_de = s.pairs.alternate_de;
  alternate_hl = s.pairs.alternate_hl;
}

-- a state at an exit that leaves this
abbrev pub state_of : Left → AbsState
state_of l = record {
  mode = numbered_mode l.mode;
  armed = l.armed;
  pairs = record {
    af = l.af;
    bc = l.bc;
    de = l.de;
    hl = l.hl;
    ix = l.ix;
    iy = l.iy;
    alternate_af = l.alternate_af;
    alternate_bc = l.alternate_bc;
    alternate_de = l.alternate_de;
    alternate_hl = l.alternate_hl;
  };
  flag = None;
  shape = [];
}

-- the exit of the row with this number leaves this
pub record IsLeftAt (rom : List ℕ) (cert : CertificateView) (number : ℕ) (left : Left) : Type 0 where
  pub row : Row
  pub at : slice_get cert.rows number ≡ Some row
  pub decoded : Result Instr DecodeFault
  pub stands : StandsAt rom row.address decoded
  pub exit : AbsState
  pub leaves : exit_by (is_main row.proc) row.parts row.state decoded ≡ Some exit
  pub is : left ≡ left_of exit

-- the exit of some row of a procedure leaves this
pub record IsLeft (rom : List ℕ) (cert : CertificateView) (proc : ℕ) (left : Left) : Type 0 where
  pub number : ℕ
  pub here : IsLeftAt rom cert number left
  pub of : here.row.proc ≡ proc

-- what the exit of the row with this number leaves, if it has one, is added, and nothing else
pub record AddsExit (rom : List ℕ) (cert : CertificateView) (number : ℕ) (old new : List Left) : Type 0 where
  pub exit : (left : Left) → IsLeftAt rom cert number left → Contains new left
  pub kept : (left : Left) → Contains old left → Contains new left
  pub only : (left : Left) → Contains new left → Contains old left ⊎ IsLeftAt rom cert number left

-- this is exactly what the exits of a procedure leave
pub record AreLeft (rom : List ℕ) (cert : CertificateView) (proc : ℕ) (lefts : List Left) : Type 0 where
  pub each : (left : Left) → IsLeft rom cert proc left → Contains lefts left
  pub only : (left : Left) → Contains lefts left → IsLeft rom cert proc left

-- the pairs of two states have the same origins
abbrev pub HaveOrigins : AbsState → AbsState → Type 0
HaveOrigins a b = KeepsPairs a.pairs b.pairs × KeepsPairs b.pairs a.pairs

-- a state covers another and has the same origins
abbrev pub Widens : AbsState → AbsState → Type 0
Widens wide s = CoversState wide s × HaveOrigins wide s

-- one of these states covers a state and has the same origins
pub record IsWidened (wides : List AbsState) (s : AbsState) : Type 0 where
  pub wide : AbsState
  pub listed : Contains wides wide
  pub over : Widens wide s

-- one of these states covers each of what exits leave, with the same origins
pub record WidensEach (lefts : List Left) (wides : List AbsState) : Type 0 where
  pub each : (left : Left) → Contains lefts left → IsWidened wides (state_of left)
