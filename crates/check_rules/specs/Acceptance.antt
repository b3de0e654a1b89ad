-- When a certificate is accepted for a ROM, and what is reported otherwise (docs/CHECKER.md, "The table of reasons").
use Rattle.std.specs.Prelude.{ℕ, ◌<◌, ◌≤◌, ◌+◌, ◌-◌, ◌≡◌, ◌⊎◌, List, [], ◌∷◌, length, slice_get, Option, Some, None, IfSome}
use Rattle.std.specs.List.{All}
use Rattle.abs_state.specs.declared.cell.KeptCell.{KeptCell}
use Rattle.abs_step.specs.declared.reason.Reason.{Reason}
use Rattle.abs_step.specs.declared.reason.Reason.TheVariants as reasons
use Rattle.address_map.specs.WorkRam.{work_start}
use Rattle.address_map.specs.declared.region.Region.{Region}
use Rattle.check_cover.specs.Covering.{CoversMain, CoversNmi}
use Rattle.cert_lines.specs.declared.proc.Proc.{Proc}
use Rattle.check_rules.specs.Table.{IsConsistent, IsLowest}
use Rattle.check_ways.specs.Ways.{IsSubject, SubjectView}
use Rattle.t_states.specs.Budget.{max_budget}
use Rattle.cert_form.specs.Contents.{CertificateView, map_of_board, nmi_of}

-- ---- of the whole, before the rows

-- 1: the ROM has 1 to 16,384 bytes, as many as the certificate says
pub record FitsRom (rom : List ℕ) (cert : CertificateView) : Type 0 where
  pub some : 1 ≤ length rom
  pub fits : length rom ≤ 16384
  pub same : cert.rom_len ≡ length rom

-- a kept cell is outside the stack region
abbrev pub LiesOutside : Region → KeptCell → Type 0
LiesOutside region cell = region.low ≤ cell.at → cell.at < region.top → ⊥

-- a stack region is not empty, lies in the first 400h addresses from this start of work RAM, and has no kept cell in it
pub record RegionFits (start : ℕ) (region : Region) (kept : List KeptCell) : Type 0 where
  pub low : start ≤ region.low
  pub some : region.low < region.top
  pub top : region.top ≤ start + 1024
  pub cells : All (LiesOutside region) kept

-- 2: the stack region fits, with the kept cells, in work RAM
abbrev pub FitsWorkRam : CertificateView → Type 0
FitsWorkRam cert = RegionFits (work_start (map_of_board cert)) cert.region cert.cells

-- 3: the state at the entry of main is covered, and so is that of the NMI routine if there is one
pub record CoversEntries (cert : CertificateView) : Type 0 where
  pub main : CoversMain cert
  pub nmi : IfSome cert.budget (λ budget. CoversNmi cert)

-- ---- of the whole, after the rows

-- the bytes of stack that main needs; main is the first procedure
abbrev pub main_depth : List Proc → ℕ
main_depth [] = 0
main_depth (main ∷ others) = main.depth

abbrev pub depth_of : Option Proc → ℕ
depth_of None = 0
depth_of (Some proc) = proc.depth

-- 11: the region has room for main and, on top of it, the NMI routine
abbrev pub HasDepth : CertificateView → Type 0
HasDepth cert = main_depth cert.procs + depth_of (nmi_of cert) ≤ cert.region.top - cert.region.low

-- 18: the NMI routine's time is at most the budget, and the budget at most 50,665 T-states
pub record IsWithinBudget (budget : ℕ) (nmi : Option Proc) : Type 0 where
  pub time : IfSome nmi (λ proc. IfSome proc.time (λ time. time ≤ budget))
  pub least : budget ≤ max_budget

abbrev pub HasBudget : CertificateView → Type 0
HasBudget cert = IfSome cert.budget (λ budget. IsWithinBudget budget (nmi_of cert))

-- ---- acceptance

-- no reason applies to the rows with numbers below `upto`
abbrev pub AreConsistent : List ℕ → CertificateView → ℕ → Type 0
AreConsistent rom cert upto = (number : ℕ) (s : SubjectView) → number < upto → (s.rom ≡ rom) × (s.cert ≡ cert) → slice_get cert.rows number ≡ Some s.row → IsSubject s → IsConsistent s

-- a certificate is accepted for a ROM: no reason of the table applies
pub record Accepts (rom : List ℕ) (cert : CertificateView) : Type 0 where
  pub fits_rom : FitsRom rom cert
  pub fits_work_ram : FitsWorkRam cert
  pub entries : CoversEntries cert
  pub rows : AreConsistent rom cert (length cert.rows)
  pub depth : HasDepth cert
  pub budget : HasBudget cert

-- ---- refusal

-- the address at which 11 of the whole is reported: the NMI routine's entry, if there is one
abbrev pub depth_address : Option ℕ → ℕ
depth_address None = 0
depth_address (Some budget) = 102

-- 3 is reported at the entry of main, or at the NMI routine's where only that one is not covered
abbrev pub EntryFails : CertificateView → ℕ → Type 0
EntryFails cert address =
    ((address ≡ 0) × (CoversMain cert → ⊥))
    ⊎ ((address ≡ 102) × CoversMain cert × (CoversEntries cert → ⊥))

-- 1, 2 and 3 do not apply
pub record Begins (rom : List ℕ) (cert : CertificateView) : Type 0 where
  pub fits_rom : FitsRom rom cert
  pub fits_work_ram : FitsWorkRam cert
  pub entries : CoversEntries cert

-- a reason of the whole applies, with the address at which it is reported, and no earlier reason applies
abbrev pub WholeRefused : List ℕ → CertificateView → ℕ → Reason → Type 0
WholeRefused rom cert address reasons.Rom = (address ≡ 0) × (FitsRom rom cert → ⊥)
WholeRefused rom cert address reasons.Region = (address ≡ 0) × FitsRom rom cert × (FitsWorkRam cert → ⊥)
WholeRefused rom cert address reasons.Entry = EntryFails cert address × FitsRom rom cert × FitsWorkRam cert
WholeRefused rom cert address reasons.StackDepth =
    (address ≡ depth_address cert.budget) × Begins rom cert × AreConsistent rom cert (length cert.rows) × (HasDepth cert → ⊥)
WholeRefused rom cert address reasons.Budget =
    (address ≡ 102) × Begins rom cert × AreConsistent rom cert (length cert.rows) × HasDepth cert × (HasBudget cert → ⊥)
WholeRefused rom cert address _ = ⊥

-- a reason applies to a row and is its lowest, no reason applies to the rows before it, and the address is the row's
pub record RowRefused (rom : List ℕ) (cert : CertificateView) (number address : ℕ) (reason : Reason) : Type 0 where
  pub begins : Begins rom cert
  pub before : AreConsistent rom cert number
  pub subject : SubjectView
  pub is_subject : IsSubject subject
  pub same : (subject.rom ≡ rom) × (subject.cert ≡ cert)
  pub row : slice_get cert.rows number ≡ Some subject.row
  pub at : address ≡ subject.row.address
  pub lowest : IsLowest subject reason

-- what is reported of a certificate that is not accepted: the first reason that applies
abbrev pub IsRefused : List ℕ → CertificateView → Option ℕ → ℕ → Reason → Type 0
IsRefused rom cert None address reason = WholeRefused rom cert address reason
IsRefused rom cert (Some number) address reason = RowRefused rom cert number address reason
