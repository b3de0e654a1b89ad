-- How much of a certificate was read, and which line may come next.
use Rattle.std.specs.Prelude.{ℕ, ◌<◌, ◌≤◌, ◌≡◌, ◌≢◌, suc, true, List, [], ◌∷◌, ◌++◌, length, take, slice_get, Option, Some, None, IfSome, Result, Ok, Err}
use Rattle.std.specs.List.{AllByRecursion}
use Rattle.cert_lines.specs.Line.{IsLine, IsShortLine, fields_of}
use Rattle.cert_lines.specs.Proc.{IsProc}
use Rattle.cert_lines.specs.declared.line.Line.{Line}
use Rattle.cert_lines.specs.declared.line.Line.TheVariants as lines
use Rattle.cert_lines.specs.declared.row.RowPlace.{RowPlace}
use Rattle.cert_lines.specs.declared.row.Row.{Row}
use Rattle.texts.specs.Fields.{fields_in}
use Rattle.cert_lines.specs.declared.proc.Proc.{Proc}
use Rattle.cert_lines.specs.declared.proc.ProcKind.TheVariants.{Main, Nmi}
use Rattle.cert_lines.specs.declared.version.BoardMap.TheVariants.{Galaxian}
use Rattle.cert_lines.specs.Version.{names_board}
use Rattle.cert_form.specs.Contents.{CertificateView}
use Rattle.cert_form.specs.Form.{IsWithinLimits, SuitsVersion, AreSubs, AreInOrder, AreSplits, AreInlines, AreCells, AreRows, MayArm, place_number}
use Rattle.cert_form.specs.Text.{IsReadable, head_lines, board_lines, list_lines, lines_of}
use Rattle.cert_form.specs.declared.fault.CertFault.{CertFault}
use Rattle.cert_form.specs.declared.fault.CertFault.TheVariants as faults
use Rattle.cert_form.specs.declared.stage.Stage.{Stage}
use Rattle.cert_form.specs.declared.stage.Stage.TheVariants as stages
use Rattle.texts.specs.Numbers.{IsWord}

-- which line comes next, and what was read; the rest is as in a new reader
pub record ReaderView : Type 0 where
  pub stage : Stage
  pub contents : CertificateView

-- the stages in their order
abbrev pub stage_rank : Stage → ℕ
stage_rank stages.Header = 0
stage_rank stages.Rom = 1
stage_rank stages.Board = 2
stage_rank stages.Stack = 3
stage_rank stages.Budget = 4
stage_rank stages.Procs = 5
stage_rank stages.Splits = 6
stage_rank stages.Inlines = 7
stage_rank stages.Cells = 8
stage_rank stages.Rows = 9
stage_rank stages.Nothing = 10

-- the lines that were read before a stage
abbrev pub lines_before : Stage → CertificateView → List Line
lines_before stages.Header c = []
lines_before stages.Rom c = lines.Header c.version ∷ []
lines_before stages.Board c = lines.Header c.version ∷ lines.Rom c.rom_len ∷ []
lines_before stages.Stack c = lines.Header c.version ∷ lines.Rom c.rom_len ∷ board_lines c.version c.board
lines_before stages.Budget c = lines.Header c.version ∷ lines.Rom c.rom_len ∷ (board_lines c.version c.board ++ lines.Stack c.region ∷ [])
lines_before stages.Nothing c = lines_of c
lines_before _ c = head_lines c ++ list_lines c

abbrev pub lines_read : ReaderView → List Line
lines_read p = lines_before p.stage p.contents

-- the first procedures of a certificate with this budget, or all of them
abbrev pub AreFirstProcs : Option ℕ → List Proc → Type 0
AreFirstProcs budget [] = Unit {0}
AreFirstProcs None (main ∷ subs) = (main.kind ≡ Main) × AreSubs subs
AreFirstProcs (Some budget) (main ∷ []) = main.kind ≡ Main
AreFirstProcs (Some budget) (main ∷ nmi ∷ subs) = (main.kind ≡ Main) × (nmi.kind ≡ Nmi) × AreSubs subs

-- only a version that names the board waits for its line; the stage of a list begins after its first line
abbrev pub SuitsStage : Stage → CertificateView → Type 0
SuitsStage stages.Board c = names_board c.version ≡ true
SuitsStage stages.Splits c = 0 < length c.splits
SuitsStage stages.Inlines c = 0 < length c.inlines
SuitsStage stages.Cells c = 0 < length c.cells
SuitsStage stages.Rows c = 0 < length c.rows
SuitsStage _ c = Unit {0}

-- what was read is in form. Before its line the board is as in a new reader; the lists of later stages are empty; after
-- the stage of the procedures these are complete
pub record IsProgress (p : ReaderView) : Type 0 where
  pub version : SuitsVersion p.contents.version p.contents
  pub stage : SuitsStage p.stage p.contents
  pub rom_len : IsWord p.contents.rom_len
  pub region : IsWord p.contents.region.low × IsWord p.contents.region.top
  pub budget : IfSome p.contents.budget IsWord
  pub procs : AllByRecursion IsProc p.contents.procs
  pub first_procs : AreFirstProcs p.contents.budget p.contents.procs
  pub splits : AreSplits (length p.contents.procs) p.contents.splits
  pub inlines : AreInlines p.contents.inlines
  pub cells : AreCells p.contents.board p.contents.cells
  pub rows : AreRows p.contents.version (length p.contents.procs) (length p.contents.cells) p.contents.rows
  pub limits : IsWithinLimits p.contents
  pub no_board : stage_rank p.stage < 3 → p.contents.board ≡ Galaxian
  pub no_procs : stage_rank p.stage < 5 → p.contents.procs ≡ []
  pub no_splits : stage_rank p.stage < 6 → p.contents.splits ≡ []
  pub no_inlines : stage_rank p.stage < 7 → p.contents.inlines ≡ []
  pub no_cells : stage_rank p.stage < 8 → p.contents.cells ≡ []
  pub no_rows : stage_rank p.stage < 9 → p.contents.rows ≡ []
  pub all_procs : 5 < stage_rank p.stage → AreInOrder p.contents.budget p.contents.procs

-- a line of a list may come up to its stage, once the procedures are complete
pub record IsOpenTo (rank : ℕ) (p : ReaderView) : Type 0 where
  pub from : 5 ≤ stage_rank p.stage
  pub to : stage_rank p.stage ≤ rank
  pub procs : AreInOrder p.contents.budget p.contents.procs

-- this line, if it is in form, may come next
abbrev pub MayFollow : ReaderView → Line → Type 0
MayFollow p (lines.Header version) = p.stage ≡ stages.Header
MayFollow p (lines.Rom len) = p.stage ≡ stages.Rom
MayFollow p (lines.Board board) = p.stage ≡ stages.Board
MayFollow p (lines.Stack region) = p.stage ≡ stages.Stack
MayFollow p (lines.Budget budget) = p.stage ≡ stages.Budget
MayFollow p (lines.Proc proc) = (p.stage ≡ stages.Procs) × AreFirstProcs p.contents.budget (p.contents.procs ++ proc ∷ [])
MayFollow p (lines.Split split) = IsOpenTo 6 p × AreSplits (length p.contents.procs) (p.contents.splits ++ split ∷ [])
MayFollow p (lines.Inline address) = IsOpenTo 7 p × AreInlines (p.contents.inlines ++ address ∷ [])
MayFollow p (lines.Cell cell) = IsOpenTo 8 p × (names_board p.contents.version ≡ true) × AreCells p.contents.board (p.contents.cells ++ cell ∷ [])
MayFollow p (lines.Row row) = IsOpenTo 9 p × AreRows p.contents.version (length p.contents.procs) (length p.contents.cells) (p.contents.rows ++ row ∷ [])
MayFollow p lines.End = IsOpenTo 9 p

-- the list of a line has room for one more
abbrev pub HasRoomFor : CertificateView → Line → Type 0
HasRoomFor c (lines.Proc proc) = length c.procs < 1024
HasRoomFor c (lines.Split split) = length c.splits < 1024
HasRoomFor c (lines.Inline address) = length c.inlines < 1024
HasRoomFor c (lines.Cell cell) = length c.cells < 256
HasRoomFor c (lines.Row row) = length c.rows < 65535
HasRoomFor c _ = Unit {0}

-- the line belongs to a list, for which memory is taken
abbrev pub IsListed : Line → Type 0
IsListed (lines.Proc proc) = Unit {0}
IsListed (lines.Split split) = Unit {0}
IsListed (lines.Inline address) = Unit {0}
IsListed (lines.Cell cell) = Unit {0}
IsListed (lines.Row row) = Unit {0}
IsListed _ = ⊥

-- no certificate has this line after these lines
abbrev pub NoneGoesOn : List Line → Line → Type 0
NoneGoesOn before line = (c : CertificateView) → IsReadable c → take (suc (length before)) (lines_of c) ≢ before ++ line ∷ []

-- one more line was read; or it may not come next, or there is no room for it, or memory was refused
abbrev pub TakesLine : {T : Type 0} → ReaderView → Line → Result T CertFault → ReaderView → Type 0
TakesLine old line (Ok _) new = (lines_read new ≡ lines_read old ++ line ∷ []) × IsProgress new
TakesLine old line (Err (faults.Line n)) new = (n ≡ suc (length (lines_read old))) × (IsLine old.contents.version line → MayFollow old line → ⊥)
TakesLine old line (Err faults.Limit) new = IsLine old.contents.version line × MayFollow old line × ((IsShortLine line × HasRoomFor old.contents line) → ⊥)
TakesLine old line (Err faults.NoMemory) new =
    IsLine old.contents.version line × MayFollow old line × IsShortLine line × HasRoomFor old.contents line × IsListed line

-- a row in form may be at this place: its procedure and its armed cells exist, and the last row is not after it
pub record MayStandAt (p : ReaderView) (place : RowPlace) : Type 0 where
  pub stage : IsOpenTo 9 p
  pub proc : place.proc < length p.contents.procs
  pub armed : MayArm (length p.contents.cells) place.mode place.armed
  pub above : (i : ℕ) (row : Row) → slice_get p.contents.rows i ≡ Some row → place_number row.proc row.address ≤ place_number place.proc place.address

-- the fault of a row with too many slots, flag parts, facts or terms
abbrev pub TellsCrowded : ReaderView → RowPlace → CertFault → Type 0
TellsCrowded p place (faults.Line n) = (n ≡ suc (length (lines_read p))) × (MayStandAt p place → ⊥)
TellsCrowded p place faults.Limit = MayStandAt p place
TellsCrowded p place faults.NoMemory = ⊥

-- one more line was read from its text, or why it was not
abbrev pub TakesText : {T : Type 0} → ReaderView → List ℕ → Result T CertFault → ReaderView → Type 0
TakesText old text (Ok _) new = (line : Line) × IsLine old.contents.version line × (fields_in text ≡ fields_of old.contents.version line)
    × (lines_read new ≡ lines_read old ++ line ∷ []) × IsProgress new
TakesText old text (Err (faults.Line n)) new = (n ≡ suc (length (lines_read old)))
    × ((line : Line) → IsLine old.contents.version line → fields_in text ≡ fields_of old.contents.version line → MayFollow old line → ⊥)
TakesText old text (Err faults.Limit) new = (line : Line) × IsLine old.contents.version line × (fields_in text ≡ fields_of old.contents.version line)
    × MayFollow old line × ((IsShortLine line × HasRoomFor old.contents line) → ⊥)
TakesText old text (Err faults.NoMemory) new = (line : Line) × IsLine old.contents.version line × (fields_in text ≡ fields_of old.contents.version line)
    × MayFollow old line × IsShortLine line × HasRoomFor old.contents line × IsListed line

-- the certificate of the lines that were read, or the fault of a missing line
abbrev pub EndsReading : ReaderView → Result CertificateView CertFault → Type 0
EndsReading p (Ok c) = (p.stage ≡ stages.Nothing) × (c ≡ p.contents)
EndsReading p (Err fault) = (fault ≡ faults.Line (suc (length (lines_read p)))) × (p.stage ≢ stages.Nothing)
