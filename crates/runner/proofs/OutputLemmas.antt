-- The lines of a summary, from the pieces that they are made of.
use Rattle.std.proofs.Common.{◌≡◌, ◌∷◌, length, get_or, arith, ℕ, List, [], ◌++◌, codes, map, refl, ap, decimal}
use Rattle.texts.specs.Numbers.{hex4}
use Rattle.run_lines.proofs.LineLemmas.{line_added}
use Rattle.runner.specs.Output.{done_line, regs_line, sum_line}
use Rattle.runner.specs.declared.machine.Summary.{Summary}

pub done_whole : (old : List ℕ) (s : Summary) → (((((old ++ codes "done") ++ 32 ∷ decimal s.events) ++ 32 ∷ decimal s.time) ++ 32 ∷ hex4 s.pc) ++ 32 ∷ hex4 s.sp) ++ 10 ∷ [] ≡ old ++ done_line s
unfolding done_line
done_whole old s = line_added old (codes "done") (decimal s.events ∷ decimal s.time ∷ hex4 s.pc ∷ hex4 s.sp ∷ [])

pub regs_whole : (old : List ℕ) (a b c d e f : ℕ) → (((((((old ++ codes "regs") ++ 32 ∷ hex4 a) ++ 32 ∷ hex4 b) ++ 32 ∷ hex4 c) ++ 32 ∷ hex4 d) ++ 32 ∷ hex4 e) ++ 32 ∷ hex4 f) ++ 10 ∷ [] ≡
    old ++ regs_line (a ∷ b ∷ c ∷ d ∷ e ∷ f ∷ [])
unfolding regs_line
regs_whole old a b c d e f = line_added old (codes "regs") (map hex4 (a ∷ b ∷ c ∷ d ∷ e ∷ f ∷ []))

pub sums_whole : (old : List ℕ) (a b c : ℕ) → ((((old ++ codes "sum") ++ 32 ∷ decimal a) ++ 32 ∷ decimal b) ++ 32 ∷ decimal c) ++ 10 ∷ [] ≡ old ++ sum_line (a ∷ b ∷ c ∷ [])
unfolding sum_line
sums_whole old a b c = line_added old (codes "sum") (map decimal (a ∷ b ∷ c ∷ []))

-- a list of three items, and one of six, by their places
pub three : (xs : List ℕ) → length xs ≡ 3 → get_or xs 0 0 ∷ get_or xs 1 0 ∷ get_or xs 2 0 ∷ [] ≡ xs
three [] e = absurd (omega (arith, e))
three (a ∷ []) e = absurd (omega (arith, e))
three (a ∷ b ∷ []) e = absurd (omega (arith, e))
three (a ∷ b ∷ c ∷ []) e = refl
three (a ∷ b ∷ c ∷ d ∷ xs) e = absurd (omega (arith, e))

pub six : (xs : List ℕ) → length xs ≡ 6 → get_or xs 0 0 ∷ get_or xs 1 0 ∷ get_or xs 2 0 ∷ get_or xs 3 0 ∷ get_or xs 4 0 ∷ get_or xs 5 0 ∷ [] ≡ xs
six (a ∷ b ∷ c ∷ xs) e = ap (λ (rest : List ℕ). a ∷ b ∷ c ∷ rest) (three xs (omega (arith, e)))
six [] e = absurd (omega (arith, e))
six (a ∷ []) e = absurd (omega (arith, e))
six (a ∷ b ∷ []) e = absurd (omega (arith, e))
