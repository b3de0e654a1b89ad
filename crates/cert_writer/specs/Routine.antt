-- Whether one of the procedures is an NMI routine (docs/ANALYSIS.md).
use Rattle.std.specs.Prelude.{ℕ, ◌≡◌, List, slice_get, Some}
use Rattle.cert_lines.specs.declared.proc.Proc.{Proc}
use Rattle.cert_lines.specs.declared.proc.ProcKind.TheVariants.{Nmi}

-- one of the procedures is an NMI routine
pub record HasRoutine (procs : List Proc) : Type 0 where
  pub number : ℕ
  pub proc : Proc
  pub at : slice_get procs number ≡ Some proc
  pub kind : proc.kind ≡ Nmi
