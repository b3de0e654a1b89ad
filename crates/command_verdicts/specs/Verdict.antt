-- The lines of a verdict (docs/PROGRAM.md).
use Rattle.std.specs.Prelude.{ℕ, ◌+◌, ◌-◌, List, [], ◌∷◌, ◌++◌, length, codes, replicate, Option, Some, None, option_and_then, unwrap_or}
use Rattle.std.specs.Fmt.{decimal}
use Rattle.std.specs.List.{concat, flat_map}
use Rattle.abs_step.specs.Reason.{number_of, reason_name, saved_name_of}
use Rattle.abs_step.specs.declared.reason.Reason.{Reason}
use Rattle.abs_step.specs.declared.reason.Reason.TheVariants as reasons
use Rattle.cert_lines.specs.declared.proc.Proc.{Proc}
use Rattle.cert_lines.specs.declared.proc.ProcKind.{ProcKind}
use Rattle.cert_lines.specs.declared.proc.ProcKind.TheVariants.{Main, Nmi, Sub}
use Rattle.cert_form.specs.Contents.{CertificateView, nmi_of}
use Rattle.check_rules.specs.Acceptance.{depth_of, main_depth}
pub use Rattle.check_rules.specs.declared.refused.Refused.{Refused}
use Rattle.texts.specs.Numbers.{hex4}
use Rattle.z80_decode.specs.declared.fault.DecodeFault.TheVariants as decoding

-- ---- the table of an accepted certificate

-- a text, right-aligned in a number of places
abbrev pub right_in : ℕ → List ℕ → List ℕ
right_in places text = replicate (places - length text) 32 ++ text

-- the word for a kind of procedure, left-aligned in four places
abbrev pub kind_column : ProcKind → List ℕ
kind_column Main = codes "main"
kind_column Nmi = codes "nmi "
kind_column Sub = codes "sub "

-- the T-states of a procedure, or `-` if it has no time
abbrev pub time_word : Option ℕ → List ℕ
time_word None = codes "-"
time_word (Some time) = decimal time

-- the line of a procedure
abbrev pub proc_text : Proc → List ℕ
proc_text proc = concat (
    kind_column proc.kind ∷ codes " " ∷ hex4 proc.entry ∷ codes " depth " ∷ right_in 5 (decimal proc.depth) ∷
    codes " time " ∷ right_in 6 (time_word proc.time) ∷ codes "\n" ∷ [])

-- the used bytes of the stack and the size of the region
abbrev pub stack_text : CertificateView → List ℕ
stack_text c = concat (
    codes "stack " ∷ decimal (main_depth c.procs + depth_of (nmi_of c)) ∷ codes " of " ∷ decimal (c.region.top - c.region.low) ∷ codes "\n" ∷ [])

-- the T-states of the NMI routine; 0 without one
abbrev pub nmi_time_or_zero : CertificateView → ℕ
nmi_time_or_zero c = unwrap_or (option_and_then (λ (proc : Proc). proc.time) (nmi_of c)) 0

-- the NMI routine's T-states and the budget, or that there is no routine
abbrev pub nmi_text_for : Option ℕ → ℕ → List ℕ
nmi_text_for None time = codes "nmi none\n"
nmi_text_for (Some budget) time = concat (codes "nmi " ∷ decimal time ∷ codes " of " ∷ decimal budget ∷ codes "\n" ∷ [])

abbrev pub nmi_text : CertificateView → List ℕ
nmi_text c = nmi_text_for c.budget (nmi_time_or_zero c)

-- the table: the verdict, a line for each procedure in the certificate's order, and the lines of the stack and the NMI
abbrev pub accepted_text : CertificateView → List ℕ
accepted_text c = codes "accepted\n" ++ (flat_map proc_text c.procs ++ (stack_text c ++ nmi_text c))

-- ---- the line of a refused certificate

-- what is printed after a reason's name
abbrev pub detail_of : Reason → List ℕ
detail_of (reasons.Decode decoding.Truncated) = codes "Truncated"
detail_of (reasons.Decode decoding.Undocumented) = codes "Undocumented"
detail_of (reasons.SavedRegister saved) = saved_name_of saved
detail_of _ = []

-- the space before a word, if there is one
abbrev pub gap_before : List ℕ → List ℕ
gap_before [] = []
gap_before (letter ∷ letters) = codes " "

-- the line of a refused certificate
abbrev pub refused_text : Refused → List ℕ
refused_text r = concat (
    codes "refused " ∷ hex4 r.address ∷ codes " " ∷ decimal (number_of r.reason) ∷ codes " " ∷ reason_name r.reason ∷
    gap_before (detail_of r.reason) ∷ detail_of r.reason ∷ codes "\n" ∷ [])

-- ---- the line of a text out of form

-- a line that ends in a line's number
abbrev pub bad_line_text : List ℕ → ℕ → List ℕ
bad_line_text what line = concat (what ∷ codes " line " ∷ decimal line ∷ codes "\n" ∷ [])
