-- Helper: when a certificate is in form (docs/CERTIFICATE.md).
use Rattle.std.specs.Prelude.{ℕ, ◌+◌, ◌*◌, ◌<◌, ◌≤◌, ◌≡◌, List, [], ◌∷◌, length, Option, Some, None, IfSome}
use Rattle.std.specs.List.{AllByRecursion}
use Rattle.abs_state.specs.declared.cell.KeptCell.{KeptCell}
use Rattle.abs_state.specs.declared.mode.Mode.{Mode}
use Rattle.abs_state.specs.declared.mode.Mode.TheVariants.{Nmi as MayInterrupt}
use Rattle.cert_lines.specs.Proc.{IsProc}
use Rattle.cert_lines.specs.Row.{IsRow, IsShortRow}
use Rattle.cert_lines.specs.Version.{work_start_of}
use Rattle.cert_lines.specs.declared.proc.Proc.{Proc}
use Rattle.cert_lines.specs.declared.proc.ProcKind.TheVariants.{Main, Nmi, Sub}
use Rattle.cert_lines.specs.declared.row.Row.{Row}
use Rattle.cert_lines.specs.declared.split.Split.{Split}
use Rattle.cert_lines.specs.declared.version.BoardMap.{BoardMap}
use Rattle.cert_lines.specs.declared.version.BoardMap.TheVariants.{Galaxian}
use Rattle.cert_lines.specs.declared.version.Version.{Version}
use Rattle.cert_lines.specs.declared.version.Version.TheVariants.{One, Two, Three}
use Rattle.cert_fields.specs.Pair.{IsRange}
use Rattle.texts.specs.Numbers.{IsWord}
use Rattle.cert_form.specs.Contents.{CertificateView}

-- what a certificate says before any of its lines is read
abbrev pub nothing_said : CertificateView
nothing_said = record {
  version = One;
  rom_len = 0;
  board = Galaxian;
  region = record { low = 0; top = 0 };
  budget = None;
  procs = [];
  splits = [];
  inlines = [];
  cells = [];
  rows = [];
}

-- each element but the first has this relation to the one before it
abbrev pub Follow : {X : Type 0} → (X → X → Type 0) → List X → Type 0
Follow Stands [] = Unit {0}
Follow Stands (x ∷ []) = Unit {0}
Follow Stands (x ∷ y ∷ rest) = Stands x y × Follow Stands (y ∷ rest)

-- a place as one number: places are ordered by procedure and then address
abbrev pub place_number : ℕ → ℕ → ℕ
place_number proc address = proc * 65536 + address

-- called procedures, by rising entry
pub record AreSubs (procs : List Proc) : Type 0 where
  pub kind : AllByRecursion (λ p. p.kind ≡ Sub) procs
  pub rising : Follow (λ p q. p.entry < q.entry) procs

-- main first, then the NMI routine exactly if there is a budget, then the called ones
abbrev pub AreInOrder : Option ℕ → List Proc → Type 0
AreInOrder None (main ∷ subs) = (main.kind ≡ Main) × AreSubs subs
AreInOrder (Some budget) (main ∷ nmi ∷ subs) = (main.kind ≡ Main) × (nmi.kind ≡ Nmi) × AreSubs subs
AreInOrder _ _ = ⊥

-- a split of one of `procs` procedures
pub record IsSplit (procs : ℕ) (split : Split) : Type 0 where
  pub proc : split.proc < procs
  pub proc_within : IsWord split.proc
  pub address : IsWord split.address

-- splits by rising procedure and then address, at most one for each place
pub record AreSplits (procs : ℕ) (splits : List Split) : Type 0 where
  pub each : AllByRecursion (IsSplit procs) splits
  pub rising : Follow (λ a b. place_number a.proc a.address < place_number b.proc b.address) splits

-- rising addresses
pub record AreInlines (inlines : List ℕ) : Type 0 where
  pub each : AllByRecursion IsWord inlines
  pub rising : Follow (λ a b. a < b) inlines

-- a cell in the first 400h addresses of work RAM
pub record IsCell (board : BoardMap) (cell : KeptCell) : Type 0 where
  pub from : work_start_of board ≤ cell.at
  pub below : cell.at < work_start_of board + 1024
  pub range : IsRange 255 cell.range

-- cells by rising address
pub record AreCells (board : BoardMap) (cells : List KeptCell) : Type 0 where
  pub each : AllByRecursion (IsCell board) cells
  pub rising : Follow (λ a b. a.at < b.at) cells

-- this many cells may be armed in this mode; where an NMI may come, it has to be all of them
abbrev pub MayArm : ℕ → Mode → ℕ → Type 0
MayArm cells MayInterrupt armed = armed ≡ cells
MayArm cells _ armed = armed ≤ cells

-- a row of one of `procs` procedures, with this many cells
pub record IsRowOf (version : Version) (procs cells : ℕ) (row : Row) : Type 0 where
  pub form : IsRow version row
  pub proc : row.proc < procs
  pub armed : MayArm cells row.state.mode row.state.armed

-- no row is before the previous one
abbrev pub RisePlaces : List Row → Type 0
RisePlaces rows = Follow (λ a b. place_number a.proc a.address ≤ place_number b.proc b.address) rows

-- rows by procedure and then address; several may share a place
pub record AreRows (version : Version) (procs cells : ℕ) (rows : List Row) : Type 0 where
  pub each : AllByRecursion (IsRowOf version procs cells) rows
  pub rising : RisePlaces rows

-- version 1 is for the Galaxian board and has no cells
pub record IsOld (c : CertificateView) : Type 0 where
  pub board : c.board ≡ Galaxian
  pub cells : c.cells ≡ []

abbrev pub SuitsVersion : Version → CertificateView → Type 0
SuitsVersion One c = IsOld c
SuitsVersion Two c = Unit {0}
SuitsVersion Three c = Unit {0}

-- a certificate in form, except that its counts may be above their limits
pub record IsCertificate (c : CertificateView) : Type 0 where
  pub version : SuitsVersion c.version c
  pub rom_len : IsWord c.rom_len
  pub region : IsWord c.region.low × IsWord c.region.top
  pub budget : IfSome c.budget IsWord
  pub procs : AllByRecursion IsProc c.procs
  pub order : AreInOrder c.budget c.procs
  pub splits : AreSplits (length c.procs) c.splits
  pub inlines : AreInlines c.inlines
  pub cells : AreCells c.board c.cells
  pub rows : AreRows c.version (length c.procs) (length c.cells) c.rows

-- the limits of the counts
abbrev pub PROC_LIMIT : ℕ
PROC_LIMIT = 1024

abbrev pub SPLIT_LIMIT : ℕ
SPLIT_LIMIT = 1024

abbrev pub INLINE_LIMIT : ℕ
INLINE_LIMIT = 1024

abbrev pub CELL_LIMIT : ℕ
CELL_LIMIT = 256

abbrev pub ROW_LIMIT : ℕ
ROW_LIMIT = 65535

-- each count is within its limit
pub record IsWithinLimits (c : CertificateView) : Type 0 where
  pub procs : length c.procs ≤ PROC_LIMIT
  pub splits : length c.splits ≤ SPLIT_LIMIT
  pub inlines : length c.inlines ≤ INLINE_LIMIT
  pub cells : length c.cells ≤ CELL_LIMIT
  pub rows : length c.rows ≤ ROW_LIMIT
  pub short : AllByRecursion IsShortRow c.rows

-- a certificate in form
pub record IsInForm (c : CertificateView) : Type 0 where
  pub certificate : IsCertificate c
  pub limits : IsWithinLimits c
