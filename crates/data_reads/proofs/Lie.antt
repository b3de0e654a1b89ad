-- An instruction reads data from the ranges of the table alone.
use Rattle.std.proofs.Common.{◌≡◌, ◌∙◌, List, Option, ap, inl, inr, length, refl, subst, sym}
use Rattle.intervals.specs.Range.{RangeView}
use Rattle.z80_alu.specs.declared.regs.Regs.{Regs}
use Rattle.z80_decode.specs.Spelling.{spelling}
use Rattle.z80_decode.specs.declared.instr.Instr.{Instr}
use Rattle.z80_draft.specs.Draft.{above, draft_of, draft_on, past}
use Rattle.z80_moves.specs.Moves.{moves_of}
use Rattle.abs_state.specs.declared.pairs.Pairs.{Pairs}
use Rattle.board_step.specs.Reads.{outside_of}
use Rattle.data_reads.specs.Reads.{reads_of}
use Rattle.data_reads.specs.ReadsLieIn.{ReadsLieIn, BoardReadsLieIn}
use Rattle.data_reads.proofs.Moves.{lists_same}
use Rattle.data_reads.proofs.Found.{all_found}

pub reads_lie : (instr : Instr) (pairs : Pairs) → ReadsLieIn (reads_of instr pairs) pairs instr
unfolding ReadsLieIn
reads_lie instr pairs entry regs o p h a =
    lists_same o p (moves_of instr) (draft_on (past (length (spelling instr)) regs)) a.noise a.r
    (all_found o p.read pairs entry regs h (length (spelling instr)) instr
    (λ at lies later. a.read later at (inl lies))
    (λ reads. (λ later. a.read later regs.sp (inr (reads, inl refl)), λ later. a.read later (above regs.sp 1) (inr (reads, inr refl)))))

-- ranges that are those of the table
pub table_lies : (ranges : List (Option RangeView)) (pairs : Pairs) (instr : Instr) → ranges ≡ reads_of instr pairs → ReadsLieIn ranges pairs instr
table_lies ranges pairs instr e = subst (λ (x : List (Option RangeView)). ReadsLieIn x pairs instr) (sym e) (reads_lie instr pairs)

-- what boards find is an outside
pub table_lies_on_boards : (ranges : List (Option RangeView)) (pairs : Pairs) (instr : Instr) → ranges ≡ reads_of instr pairs → BoardReadsLieIn ranges pairs instr
unfolding ReadsLieIn BoardReadsLieIn
table_lies_on_boards ranges pairs instr e entry c d h same a =
    table_lies ranges pairs instr e entry c.state.regs (outside_of c) (outside_of d) h a
    ∙ ap (λ (x : Regs). draft_of (outside_of d) x instr) same
