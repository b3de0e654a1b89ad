-- The lines of a certificate determine it, and only after its end were all of them read.
use Rattle.std.proofs.Common.{◌≡◌, ◌≤◌, ◌<◌, ℕ, ◌∷◌, [], ◌++◌, List, length, Option, sym, ap, ◌∙◌, inl, inr, arith, append_assoc, append-nil, length-append}
use Rattle.std.proofs.lemmas.Bool.{cases_lt}
use Rattle.abs_state.specs.declared.cell.KeptCell.{KeptCell}
use Rattle.address_map.specs.declared.region.Region.{Region}
use Rattle.cert_lines.specs.declared.line.Line.TheVariants as lines
use Rattle.cert_lines.specs.declared.proc.Proc.{Proc}
use Rattle.cert_lines.specs.declared.row.Row.{Row}
use Rattle.cert_lines.specs.declared.split.Split.{Split}
use Rattle.cert_lines.specs.declared.version.BoardMap.{BoardMap}
use Rattle.cert_lines.specs.declared.version.BoardMap.TheVariants.{Galaxian, Raised}
use Rattle.cert_lines.specs.declared.version.Version.{Version}
use Rattle.cert_lines.specs.declared.version.Version.TheVariants.{One, Two, Three}
use Rattle.cert_form.specs.Contents.{CertificateView}
use Rattle.cert_form.specs.Text.{board_lines, head_lines, list_lines, lines_of}
use Rattle.cert_form.specs.Reader.{ReaderView, stage_rank, lines_before, lines_read}
use Rattle.cert_form.specs.declared.stage.Stage.{Stage}
use Rattle.cert_form.specs.declared.stage.Stage.TheVariants as stages
use Rattle.cert_form.proofs.Agreement.{GoesOn, GoesOn.by_proc, GoesOn.by_split, GoesOn.by_inline, GoesOn.by_cell, GoesOn.by_row, GoesOn.by_end, SameHead, contents_go_on}
use Rattle.cert_form.proofs.GoesOn.{nothing_stage}
use Rattle.cert_form.proofs.OrderOfLists.{at_lists}

unfoldable contents_of : Version → ℕ → BoardMap → Region → Option ℕ → List Proc → List Split → List ℕ → List KeptCell →
    List Row → CertificateView
contents_of version rom_len board region budget procs splits inlines cells rows = record {
  version = version;
  rom_len = rom_len;
  board = board;
  region = region;
  budget = budget;
  procs = procs;
  splits = splits;
  inlines = inlines;
  cells = cells;
  rows = rows;
}

same_parts : (c d : CertificateView) → SameHead c d → c.procs ≡ d.procs → c.splits ≡ d.splits → c.inlines ≡ d.inlines →
    c.cells ≡ d.cells → c.rows ≡ d.rows →
    contents_of c.version c.rom_len c.board c.region c.budget c.procs c.splits c.inlines c.cells c.rows
    ≡ contents_of d.version d.rom_len d.board d.region d.budget d.procs d.splits d.inlines d.cells d.rows
same_parts c d head procs splits inlines cells rows = cc

same_fields : (c d : CertificateView) → SameHead c d → c.procs ≡ d.procs → c.splits ≡ d.splits → c.inlines ≡ d.inlines →
    c.cells ≡ d.cells → c.rows ≡ d.rows → c ≡ d
unfolding contents_of
same_fields c d head procs splits inlines cells rows = same_parts c d head procs splits inlines cells rows

same_lists : (c d : CertificateView) → SameHead c d → GoesOn c d (lines.End ∷ []) → c ≡ d
same_lists c d head (by_proc l splits inlines cells rows) = let e = l.begins in cc
same_lists c d head (by_split procs l inlines cells rows) = let e = l.begins in cc
same_lists c d head (by_inline procs splits l cells rows) = let e = l.begins in cc
same_lists c d head (by_cell procs splits inlines l rows) = let e = l.begins in cc
same_lists c d head (by_row procs splits inlines cells l) = let e = l.begins in cc
same_lists c d head (by_end procs splits inlines cells rows last) = same_fields c d head procs splits inlines cells rows

-- two contents with the same lines are equal
pub same_contents : (c d : CertificateView) → lines_of c ≡ lines_of d → c ≡ d
same_contents c d e =
    let both = contents_go_on c d (lines.End ∷ []) (e ∙ sym (append_assoc (head_lines d) (list_lines d) (lines.End ∷ []))) in
    same_lists c d both.0 both.1

never_ends : (c d : CertificateView) → GoesOn c d [] → ⊥
never_ends c d (by_proc l splits inlines cells rows) = let e = l.begins in cc
never_ends c d (by_split procs l inlines cells rows) = let e = l.begins in cc
never_ends c d (by_inline procs splits l cells rows) = let e = l.begins in cc
never_ends c d (by_cell procs splits inlines l rows) = let e = l.begins in cc
never_ends c d (by_row procs splits inlines cells l) = let e = l.begins in cc
never_ends c d (by_end procs splits inlines cells rows last) = cc

length-board_lines : (v : Version) (b : BoardMap) → length (board_lines v b) ≤ 1
length-board_lines One Galaxian = omega arith
length-board_lines One Raised = omega arith
length-board_lines Two b = omega arith
length-board_lines Three b = omega arith

short_before : (s : Stage) (d : CertificateView) → stage_rank s < 5 → length (lines_before s d) ≤ 4
short_before stages.Header d early = omega arith
short_before stages.Rom d early = omega arith
short_before stages.Board d early = omega arith
short_before stages.Stack d early = omega (arith, length-board_lines d.version d.board)
short_before stages.Budget d early = omega (
  arith,
  length-append (board_lines d.version d.board)
      (lines.Stack d.region ∷ []),
  length-board_lines d.version d.board,
)
short_before _ d early = absurd (omega arith)

pub length-lines_of : (c : CertificateView) → 5 ≤ length (lines_of c)
length-lines_of c = omega (
  arith,
  length-append (board_lines c.version c.board ++ lines.Stack c.region ∷ lines.Budget c.budget ∷ [])
      (list_lines c ++ lines.End ∷ []),
  length-append (board_lines c.version c.board) (lines.Stack c.region ∷ lines.Budget c.budget ∷ []),
  length-append (list_lines c) (lines.End ∷ []),
)

-- the lines that were read are all lines of a certificate only after its end
pub ends_at : (p : ReaderView) (c : CertificateView) → lines_of c ≡ lines_read p → p.stage ≡ stages.Nothing
ends_at p c e =
    let d = p.contents in
    elim (cases_lt (stage_rank p.stage) 5) [
      | inl early ↦ absurd (omega (arith, ap length e, length-lines_of c, short_before p.stage d early))
      | inr from ↦ elim (cases_lt (stage_rank p.stage) 10) [
        | inl to ↦ absurd
            (never_ends c d
            (contents_go_on c d []
            (e ∙ at_lists p.stage d from (omega arith) ∙ sym (append-nil (head_lines d ++ list_lines d)))).1)
        | inr late ↦ nothing_stage p.stage late
      ]
    ]

-- and they are that certificate
pub ends_with : (p : ReaderView) (c : CertificateView) → lines_of c ≡ lines_read p → p.contents ≡ c
ends_with p c e = sym (same_contents c p.contents (e ∙ ap (λ s. lines_before s p.contents) (ends_at p c e)))
