-- What a certificate says about its ROM's addresses and its procedures (docs/CHECKER.md, "Covering").
use Rattle.std.specs.Prelude.{ℕ, ◌==◌, ◌&&◌, ◌≡◌, suc, if◌then◌else◌, Bool, false, List, [], ◌∷◌, Option, Some, None, Contains}
use Rattle.std.specs.List.{list_any}
use Rattle.abs_draft.specs.Ground.{GroundView, ground_of}
use Rattle.cert_lines.specs.declared.proc.Proc.{Proc}
use Rattle.cert_lines.specs.declared.proc.ProcKind.TheVariants.{Main, Nmi, Sub}
use Rattle.cert_lines.specs.declared.row.Row.{Row}
use Rattle.cert_lines.specs.declared.split.Split.{Split}
use Rattle.check_cover.specs.declared.program.Callee.{Callee}
use Rattle.z80_decode.specs.declared.operands.Register8.{Register8}
use Rattle.cert_form.specs.Contents.{CertificateView, map_of_board}

-- the ROM, the map and the kept cells of a certificate, which are the same for all rows
abbrev pub ground_for : List ℕ → CertificateView → GroundView
ground_for rom cert = ground_of rom (map_of_board cert) cert.cells

-- whether the procedure with this number is main
abbrev pub is_main : ℕ → Bool
is_main proc = proc == 0

-- whether the call at an address is marked inline
abbrev pub is_inline : CertificateView → ℕ → Bool
is_inline cert address = list_any (λ at. at == address) cert.inlines

-- whether a split is at an address of a procedure
abbrev pub splits_at : ℕ → ℕ → Split → Bool
splits_at proc address split = (split.proc == proc) && (split.address == address)

-- the register of the split at an address of a procedure, if there is one
unfoldable pub split_among : ℕ → ℕ → List Split → Option Register8
split_among proc address [] = None
split_among proc address (split ∷ splits) = if splits_at proc address split then Some split.register else split_among proc address splits

abbrev pub split_at : CertificateView → ℕ → ℕ → Option Register8
split_at cert proc address = split_among proc address cert.splits

-- whether a procedure is called and has this entry; main and the NMI routine are never called
abbrev pub is_called_at : ℕ → Proc → Bool
is_called_at entry proc = elim proc.kind as (λ _. Bool) [ Main ↦ false | Nmi ↦ false | Sub ↦ proc.entry == entry ]

-- procedures are ordered by this number: the entry plus 1 for called ones, 0 for main and the NMI routine
abbrev pub call_number : Proc → ℕ
call_number proc = elim proc.kind as (λ _. ℕ) [ Main ↦ 0 | Nmi ↦ 0 | Sub ↦ suc proc.entry ]

-- the first called procedure with this entry; the numbers count up from `number`
unfoldable pub callee_among : ℕ → ℕ → List Proc → Option Callee
callee_among number entry [] = None
callee_among number entry (proc ∷ procs) =
    if is_called_at entry proc then Some (record { number = number; proc = proc }) else callee_among (suc number) entry procs

-- the procedure that a call of an address calls, if there is one
abbrev pub callee_at : CertificateView → ℕ → Option Callee
callee_at cert entry = callee_among 0 entry cert.procs

-- a row of the certificate at an address of a procedure
pub record IsRowAt (cert : CertificateView) (proc address : ℕ) (row : Row) : Type 0 where
  pub listed : Contains cert.rows row
  pub of : row.proc ≡ proc
  pub at : row.address ≡ address
