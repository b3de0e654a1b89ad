-- What reading a line does to a reader: it has one more line, and is still in form.
use Rattle.std.proofs.Common.{◌≡◌, ◌≤◌, ◌<◌, ℕ, true, ◌∷◌, [], ◌++◌, length, Option, None, IfSome, refl, sym, ap, subst, ◌∙◌, arith, append_assoc, append-nil}
use Rattle.std.specs.List.{AllByRecursion}
use Rattle.std.proofs.lemmas.Bool.{false≢true}
use Rattle.abs_state.specs.declared.cell.KeptCell.{KeptCell}
use Rattle.address_map.specs.declared.region.Region.{Region}
use Rattle.cert_lines.specs.Line.{IsLine}
use Rattle.cert_lines.specs.Proc.{IsProc}
use Rattle.cert_lines.specs.Row.{IsShortRow}
use Rattle.cert_lines.specs.declared.line.Line.{Line}
use Rattle.cert_lines.specs.declared.line.Line.TheVariants as lines
use Rattle.cert_lines.specs.declared.proc.Proc.{Proc}
use Rattle.cert_lines.specs.declared.row.Row.{Row}
use Rattle.cert_lines.specs.declared.split.Split.{Split}
use Rattle.cert_lines.specs.declared.version.BoardMap.{BoardMap}
use Rattle.cert_lines.specs.declared.version.BoardMap.TheVariants.{Galaxian}
use Rattle.cert_lines.specs.declared.version.Version.{Version}
use Rattle.cert_lines.specs.declared.version.Version.TheVariants.{One, Two, Three}
use Rattle.cert_lines.specs.Version.{names_board}
use Rattle.cert_form.specs.Contents.{CertificateView}
use Rattle.cert_form.specs.Form.{SuitsVersion, IsWithinLimits, AreInOrder, AreSplits, AreInlines, AreCells, AreRows}
use Rattle.cert_form.specs.Text.{board_lines, head_lines, list_lines}
use Rattle.cert_form.specs.Reader.{ReaderView, IsProgress, SuitsStage, AreFirstProcs, MayFollow, stage_rank, lines_before, lines_read}
use Rattle.cert_form.specs.declared.stage.Stage.{Stage}
use Rattle.cert_form.specs.declared.stage.Stage.TheVariants as stages
use Rattle.texts.specs.Numbers.{IsWord}

-- exactly this line was read in addition, and what was read is in form
abbrev pub Adds : ReaderView → Line → ReaderView → Type 0
Adds old line new = (lines_read new ≡ lines_read old ++ line ∷ []) × IsProgress new

-- what was read is in form, except that its counts may be above their limits
pub record IsOrdered (p : ReaderView) : Type 0 where
  pub version : SuitsVersion p.contents.version p.contents
  pub stage : SuitsStage p.stage p.contents
  pub rom_len : IsWord p.contents.rom_len
  pub region : IsWord p.contents.region.low × IsWord p.contents.region.top
  pub budget : IfSome p.contents.budget IsWord
  pub procs : AllByRecursion IsProc p.contents.procs
  pub first_procs : AreFirstProcs p.contents.budget p.contents.procs
  pub splits : AreSplits (length p.contents.procs) p.contents.splits
  pub inlines : AreInlines p.contents.inlines
  pub cells : AreCells p.contents.board p.contents.cells
  pub rows : AreRows p.contents.version (length p.contents.procs) (length p.contents.cells) p.contents.rows
  pub no_board : stage_rank p.stage < 3 → p.contents.board ≡ Galaxian
  pub no_procs : stage_rank p.stage < 5 → p.contents.procs ≡ []
  pub no_splits : stage_rank p.stage < 6 → p.contents.splits ≡ []
  pub no_inlines : stage_rank p.stage < 7 → p.contents.inlines ≡ []
  pub no_cells : stage_rank p.stage < 8 → p.contents.cells ≡ []
  pub no_rows : stage_rank p.stage < 9 → p.contents.rows ≡ []
  pub all_procs : 5 < stage_rank p.stage → AreInOrder p.contents.budget p.contents.procs

pub ordered : (p : ReaderView) → IsProgress p → IsOrdered p
ordered p h = record {
  version = h.version;
  stage = h.stage;
  rom_len = h.rom_len;
  region = h.region;
  budget = h.budget;
  procs = h.procs;
  first_procs = h.first_procs;
  splits = h.splits;
  inlines = h.inlines;
  cells = h.cells;
  rows = h.rows;
  no_board = h.no_board;
  no_procs = h.no_procs;
  no_splits = h.no_splits;
  no_inlines = h.no_inlines;
  no_cells = h.no_cells;
  no_rows = h.no_rows;
  all_procs = h.all_procs;
}

pub within_limits : (p : ReaderView) → IsOrdered p → IsWithinLimits p.contents → IsProgress p
within_limits p h limits = record {
  version = h.version;
  stage = h.stage;
  rom_len = h.rom_len;
  region = h.region;
  budget = h.budget;
  procs = h.procs;
  first_procs = h.first_procs;
  splits = h.splits;
  inlines = h.inlines;
  cells = h.cells;
  rows = h.rows;
  limits = limits;
  no_board = h.no_board;
  no_procs = h.no_procs;
  no_splits = h.no_splits;
  no_inlines = h.no_inlines;
  no_cells = h.no_cells;
  no_rows = h.no_rows;
  all_procs = h.all_procs;
}

-- exactly this line was read in addition, and what was read is in form, except for counts above their limits
abbrev pub Orders : ReaderView → Line → ReaderView → Type 0
Orders old line new = (lines_read new ≡ lines_read old ++ line ∷ []) × IsOrdered new

-- a new reader
abbrev pub new_progress : ReaderView
new_progress = record {
  stage = stages.Header;
  contents = record {
    version = One;
    rom_len = 0;
    board = Galaxian;
    region = record { low = 0; top = 0 };
    budget = None;
    procs = [];
    splits = [];
    inlines = [];
    cells = [];
    rows = [];
  };
}

abbrev pub behind_header : ReaderView → Version → ReaderView
behind_header p version = record { stage = stages.Rom; contents = record (p.contents) { version = version } }

-- version 1 has no line for the board
abbrev pub stage_behind_rom : Version → Stage
stage_behind_rom One = stages.Stack
stage_behind_rom Two = stages.Board
stage_behind_rom Three = stages.Board

abbrev pub behind_rom : ReaderView → ℕ → ReaderView
behind_rom p len = record { stage = stage_behind_rom p.contents.version; contents = record (p.contents) { rom_len = len } }

abbrev pub behind_board : ReaderView → BoardMap → ReaderView
behind_board p board = record { stage = stages.Stack; contents = record (p.contents) { board = board } }

abbrev pub behind_stack : ReaderView → Region → ReaderView
behind_stack p region = record { stage = stages.Budget; contents = record (p.contents) { region = region } }

abbrev pub behind_budget : ReaderView → Option ℕ → ReaderView
behind_budget p budget = record { stage = stages.Procs; contents = record (p.contents) { budget = budget } }

abbrev pub behind_proc : ReaderView → Proc → ReaderView
behind_proc p proc = record {
  stage = stages.Procs;
  contents = record
      (p.contents) { procs = p.contents.procs ++ proc ∷ [] };
}

abbrev pub behind_split : ReaderView → Split → ReaderView
behind_split p split = record {
  stage = stages.Splits;
  contents = record
      (p.contents) { splits = p.contents.splits ++ split ∷ [] };
}

abbrev pub behind_inline : ReaderView → ℕ → ReaderView
behind_inline p address = record {
  stage = stages.Inlines;
  contents = record
      (p.contents) { inlines = p.contents.inlines ++ address ∷ [] };
}

abbrev pub behind_cell : ReaderView → KeptCell → ReaderView
behind_cell p cell = record {
  stage = stages.Cells;
  contents = record
      (p.contents) { cells = p.contents.cells ++ cell ∷ [] };
}

abbrev pub behind_row : ReaderView → Row → ReaderView
behind_row p row = record { stage = stages.Rows; contents = record (p.contents) { rows = p.contents.rows ++ row ∷ [] } }

abbrev pub behind_end : ReaderView → ReaderView
behind_end p = record { stage = stages.Nothing; contents = p.contents }

-- no list has begun
abbrev pub IsEmpty : CertificateView → Type 0
IsEmpty d = (d.procs ≡ []) × (d.splits ≡ []) × (d.inlines ≡ []) × (d.cells ≡ []) × (d.rows ≡ [])

pub empty_before : (p : ReaderView) → IsProgress p → stage_rank p.stage < 5 → IsEmpty p.contents
empty_before p h early = (
  h.no_procs early,
  h.no_splits (omega arith),
  h.no_inlines (omega arith),
  h.no_cells (omega arith),
  h.no_rows
      (omega arith),
)

pub no_list_lines : (d : CertificateView) → IsEmpty d → list_lines d ≡ []
no_list_lines d (procs, splits, inlines, cells, rows) = rw (procs, splits, inlines, cells, rows) refl

-- a reader whose lists have not begun
head_progress : (s : Stage) (d : CertificateView) → stage_rank s ≤ 5 → SuitsVersion d.version d → SuitsStage s d →
    IsWord d.rom_len → IsWord d.region.low × IsWord d.region.top →
    IfSome d.budget IsWord → (stage_rank s < 3 → d.board ≡ Galaxian) → IsEmpty d →
    IsProgress (record { stage = s; contents = d })
head_progress s d early version stage rom_len region budget board (procs, splits, inlines, cells, rows) = record {
  version = version;
  stage = stage;
  rom_len = rom_len;
  region = region;
  budget = budget;
  procs = subst (AllByRecursion IsProc) (sym procs) tt;
  first_procs = subst (AreFirstProcs d.budget) (sym procs) tt;
  splits = subst (AreSplits (length d.procs)) (sym splits) record { each = tt; rising = tt };
  inlines = rw inlines record { each = tt; rising = tt };
  cells = rw cells record { each = tt; rising = tt };
  rows = subst (AreRows d.version (length d.procs) (length d.cells)) (sym rows) record { each = tt; rising = tt };
  limits = record {
    procs = omega (arith, ap length procs);
    splits = omega (arith, ap length splits);
    inlines = omega (arith, ap length inlines);
    cells = omega (arith, ap length cells);
    rows = omega (arith, ap length rows);
    short = subst (AllByRecursion IsShortRow) (sym rows) tt;
  };
  no_board = board;
  no_procs = λ _. procs;
  no_splits = λ _. splits;
  no_inlines = λ _. inlines;
  no_cells = λ _. cells;
  no_rows = λ _. rows;
  all_procs = λ late. absurd (omega arith);
}

pub new_is_progress : IsProgress new_progress
new_is_progress = head_progress stages.Header new_progress.contents (omega arith) record { board = refl; cells = refl } tt
    (omega arith) (omega arith, omega arith) tt (λ _. refl) (refl, refl, refl, refl, refl)

-- what a version asks depends only on the board and the cells
suits_with : (v : Version) (d : CertificateView) → d.board ≡ Galaxian → d.cells ≡ [] → SuitsVersion v d
suits_with One d board cells = record { board = board; cells = cells }
suits_with Two d board cells = tt
suits_with Three d board cells = tt

pub suits_again : (v : Version) (c d : CertificateView) → d.board ≡ c.board → d.cells ≡ c.cells → SuitsVersion v c →
    SuitsVersion v d
suits_again One c d board cells suits = record { board = board ∙ suits.board; cells = cells ∙ suits.cells }
suits_again Two c d board cells suits = tt
suits_again Three c d board cells suits = tt

pub after_header : (p : ReaderView) (version : Version) → IsProgress p → MayFollow p (lines.Header version) →
    Adds p (lines.Header version) (behind_header p version)
after_header p version h at =
    let rank : stage_rank p.stage ≡ 0 = ap stage_rank at in
    let empty = empty_before p h (omega arith) in (
      sym (ap (λ s. lines_before s p.contents ++ lines.Header version ∷ []) at),
      head_progress stages.Rom (behind_header p version).contents (omega arith)
          (suits_with version (behind_header p version).contents (h.no_board (omega arith)) empty.3)
          tt h.rom_len h.region h.budget (λ _. h.no_board (omega arith)) empty,
    )

rom_suits_stage : (v : Version) (d : CertificateView) → d.version ≡ v → SuitsStage (stage_behind_rom v) d
rom_suits_stage One d is = tt
rom_suits_stage Two d is = ap names_board is
rom_suits_stage Three d is = ap names_board is

rom_rank : (v : Version) → stage_rank (stage_behind_rom v) ≤ 5
rom_rank One = omega arith
rom_rank Two = omega arith
rom_rank Three = omega arith

rom_lines : (v : Version) (d : CertificateView) → d.version ≡ v → SuitsVersion v d →
    lines_before (stage_behind_rom v) d ≡ lines.Header d.version ∷ lines.Rom d.rom_len ∷ []
rom_lines One d is suits = rw (is, suits.board) refl
rom_lines Two d is suits = refl
rom_lines Three d is suits = refl

pub after_rom : (p : ReaderView) (len : ℕ) → IsProgress p → IsLine p.contents.version (lines.Rom len) →
    MayFollow p (lines.Rom len) → Adds p (lines.Rom len) (behind_rom p len)
after_rom p len h word at =
    let rank : stage_rank p.stage ≡ 1 = ap stage_rank at in
    let new = (behind_rom p len).contents in
    let suits = suits_again p.contents.version p.contents new refl refl h.version in (
      rom_lines p.contents.version new refl suits ∙ sym (ap (λ s. lines_before s p.contents ++ lines.Rom len ∷ []) at),
      head_progress (stage_behind_rom p.contents.version) new (rom_rank p.contents.version) suits
          (rom_suits_stage p.contents.version new refl)
          word h.region h.budget (λ _. h.no_board (omega arith)) (empty_before p h (omega arith)),
    )

-- a version that names the board has its line
pub named_board : (v : Version) (board : BoardMap) → names_board v ≡ true → board_lines v board ≡ lines.Board board ∷ []
named_board One board named = absurd (false≢true named)
named_board Two board named = refl
named_board Three board named = refl

-- and may have cells
pub named_suits : (v : Version) (d : CertificateView) → names_board v ≡ true → SuitsVersion v d
named_suits One d named = absurd (false≢true named)
named_suits Two d named = tt
named_suits Three d named = tt

pub after_board : (p : ReaderView) (board : BoardMap) → IsProgress p → MayFollow p (lines.Board board) →
    Adds p (lines.Board board) (behind_board p board)
after_board p board h at =
    let rank : stage_rank p.stage ≡ 2 = ap stage_rank at in
    let new = (behind_board p board).contents in
    let named : names_board p.contents.version ≡ true = subst (λ s. SuitsStage s p.contents) at h.stage in (
      ap (λ ls. lines.Header p.contents.version ∷ lines.Rom p.contents.rom_len ∷ ls) (named_board p.contents.version board named)
          ∙ sym (ap (λ s. lines_before s p.contents ++ lines.Board board ∷ []) at),
      head_progress stages.Stack new (omega arith) (named_suits p.contents.version new named) tt
          h.rom_len h.region h.budget (λ early. absurd (omega arith)) (empty_before p h (omega arith)),
    )

pub after_stack : (p : ReaderView) (region : Region) → IsProgress p → IsLine p.contents.version (lines.Stack region) →
    MayFollow p (lines.Stack region) →
    Adds p (lines.Stack region) (behind_stack p region)
after_stack p region h words at =
    let rank : stage_rank p.stage ≡ 3 = ap stage_rank at in
    let new = (behind_stack p region).contents in (
      sym (ap (λ s. lines_before s p.contents ++ lines.Stack region ∷ []) at),
      head_progress stages.Budget new (omega arith) (suits_again p.contents.version p.contents new refl refl h.version) tt
          h.rom_len words h.budget (λ early. absurd (omega arith)) (empty_before p h (omega arith)),
    )

pub after_budget : (p : ReaderView) (budget : Option ℕ) → IsProgress p → IsLine p.contents.version (lines.Budget budget) →
    MayFollow p (lines.Budget budget) →
    Adds p (lines.Budget budget) (behind_budget p budget)
after_budget p budget h word at =
    let rank : stage_rank p.stage ≡ 4 = ap stage_rank at in
    let d = p.contents in
    let new = (behind_budget p budget).contents in
    let empty = empty_before p h (omega arith) in (
      ap (λ ls. head_lines new ++ ls) (no_list_lines new empty) ∙ append-nil (head_lines new)
          ∙ ap (λ ls. lines.Header d.version ∷ lines.Rom d.rom_len ∷ ls)
          (sym (append_assoc (board_lines d.version d.board) (lines.Stack d.region ∷ []) (lines.Budget budget ∷ [])))
          ∙ sym (ap (λ s. lines_before s p.contents ++ lines.Budget budget ∷ []) at),
      head_progress stages.Procs new (omega arith) (suits_again p.contents.version p.contents new refl refl h.version) tt
          h.rom_len h.region word (λ early. absurd (omega arith)) empty,
    )
