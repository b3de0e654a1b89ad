-- The text of a summary.
use Rattle.std.specs.Prelude.{ℕ, List, [], ◌∷◌, ◌++◌, codes, map}
use Rattle.std.specs.Fmt.{decimal}
use Rattle.run_lines.specs.Lines.{line_of}
use Rattle.texts.specs.Numbers.{hex4}
use Rattle.runner.specs.declared.machine.Summary.{Summary}

-- the lines of a summary (docs/PROGRAM.md, "A run's lines")
unfoldable pub done_line : Summary → List ℕ
done_line s = line_of (codes "done" ∷ decimal s.events ∷ decimal s.time ∷ hex4 s.pc ∷ hex4 s.sp ∷ [])

unfoldable pub regs_line : List ℕ → List ℕ
regs_line pairs = line_of (codes "regs" ∷ map hex4 pairs)

unfoldable pub sum_line : List ℕ → List ℕ
sum_line sums = line_of (codes "sum" ∷ map decimal sums)

-- the text of a summary
abbrev pub summary_text : Summary → List ℕ
summary_text s = done_line s ++ regs_line s.pairs ++ sum_line s.sums
