-- Reasons by their numbers, and rows to which no reason below a number applies.
use Rattle.std.proofs.Common.{◌≡◌, ◌==◌, ◌||◌, ◌∙◌, inl, inr, if◌then◌else◌, ℕ, suc, Bool, false, Result, Ok, Err, OnOk, refl, sym, ap, subst, arith}
use Rattle.std.proofs.lemmas.Bool.{cases_lt}
use Rattle.abs_step.specs.Reason.{number_of}
use Rattle.abs_step.specs.declared.reason.Reason.{Reason}
use Rattle.abs_step.specs.declared.reason.Reason.TheVariants as reasons
use Rattle.abs_step.specs.declared.reason.Saved.{Saved}
use Rattle.check_rules.specs.Table.{IsConsistent, Passes, PassesBelow, TellsLowest}
use Rattle.check_ways.specs.Ways.{SubjectView}
use Rattle.z80_decode.specs.declared.fault.DecodeFault.{DecodeFault}

-- the reasons with these numbers have a detail
abbrev has_detail : ℕ → Bool
has_detail n = (n == 4) || (n == 14)

-- the reason of a number that has no detail
abbrev numbered : ℕ → Reason
numbered n =
    if n == 1 then reasons.Rom
    else if n == 2 then reasons.Region
    else if n == 3 then reasons.Entry
    else if n == 5 then reasons.IoSpace
    else if n == 6 then reasons.WriteRom
    else if n == 7 then reasons.WriteUnmapped
    else if n == 8 then reasons.StackOverwrite
    else if n == 9 then reasons.StackUnset
    else if n == 10 then reasons.StackShape
    else if n == 11 then reasons.StackDepth
    else if n == 12 then reasons.NotCovered
    else if n == 13 then reasons.Rank
    else if n == 15 then reasons.NmiBeforeStack
    else if n == 16 then reasons.NmiMissing
    else if n == 17 then reasons.Time
    else if n == 18 then reasons.Budget
    else if n == 19 then reasons.HaltInNmi
    else if n == 20 then reasons.SpWrite
    else if n == 21 then reasons.CellRange
    else reasons.CellUnarmed

-- a reason without a detail is determined by its number
abbrev IsNumbered : Reason → Type 0
IsNumbered r = (has_detail (number_of r) ≡ false → numbered (number_of r) ≡ r)

is_numbered : (r : Reason) → IsNumbered r
is_numbered reasons.Rom e = refl
is_numbered reasons.Region e = refl
is_numbered reasons.Entry e = refl
is_numbered (reasons.Decode detail) e = cc
is_numbered reasons.IoSpace e = refl
is_numbered reasons.WriteRom e = refl
is_numbered reasons.WriteUnmapped e = refl
is_numbered reasons.StackOverwrite e = refl
is_numbered reasons.StackUnset e = refl
is_numbered reasons.StackShape e = refl
is_numbered reasons.StackDepth e = refl
is_numbered reasons.NotCovered e = refl
is_numbered reasons.Rank e = refl
is_numbered (reasons.SavedRegister detail) e = cc
is_numbered reasons.NmiBeforeStack e = refl
is_numbered reasons.NmiMissing e = refl
is_numbered reasons.Time e = refl
is_numbered reasons.Budget e = refl
is_numbered reasons.HaltInNmi e = refl
is_numbered reasons.SpWrite e = refl
is_numbered reasons.CellRange e = refl
is_numbered reasons.CellUnarmed e = refl

-- there is one reason of a number that has no detail
one_reason : (r other : Reason) → has_detail (number_of r) ≡ false → number_of other ≡ number_of r → r ≡ other
one_reason r other plain same =
    sym (is_numbered r plain) ∙ ap numbered (sym same) ∙ is_numbered other (ap has_detail same ∙ plain)

-- no reason up to this number applies to the row
one_more : (s : SubjectView) (number : ℕ) → PassesBelow s number → ((other : Reason) → number_of other ≡ number → Passes s other) → PassesBelow s (suc number)
one_more s number below here other low =
    elim (cases_lt (number_of other) number) [
      | inl less ↦ below other less
      | inr not ↦ here other (omega (arith, low, not))
    ]

-- no reason applies up to one without a detail
pub passes : (s : SubjectView) (r : Reason) (next : ℕ) → has_detail (number_of r) ≡ false → next ≡ suc (number_of r) → PassesBelow s (number_of r) → Passes s r → PassesBelow s next
passes s r next plain is below here =
    subst (PassesBelow s) (sym is)
    (one_more s (number_of r) below (λ other same. subst (Passes s) (one_reason r other plain same) here))

-- 4 has the fault as its detail
pub decode_passes : (s : SubjectView) → PassesBelow s 4 → ((detail : DecodeFault) → Passes s (reasons.Decode detail)) → PassesBelow s 5
decode_passes s below all = one_more s 4 below here
  where
    here : (other : Reason) → number_of other ≡ 4 → Passes s other
    here reasons.Rom e = absurd (omega (arith, e))
    here reasons.Region e = absurd (omega (arith, e))
    here reasons.Entry e = absurd (omega (arith, e))
    here (reasons.Decode detail) e = all detail
    here reasons.IoSpace e = absurd (omega (arith, e))
    here reasons.WriteRom e = absurd (omega (arith, e))
    here reasons.WriteUnmapped e = absurd (omega (arith, e))
    here reasons.StackOverwrite e = absurd (omega (arith, e))
    here reasons.StackUnset e = absurd (omega (arith, e))
    here reasons.StackShape e = absurd (omega (arith, e))
    here reasons.StackDepth e = absurd (omega (arith, e))
    here reasons.NotCovered e = absurd (omega (arith, e))
    here reasons.Rank e = absurd (omega (arith, e))
    here (reasons.SavedRegister detail) e = absurd (omega (arith, e))
    here reasons.NmiBeforeStack e = absurd (omega (arith, e))
    here reasons.NmiMissing e = absurd (omega (arith, e))
    here reasons.Time e = absurd (omega (arith, e))
    here reasons.Budget e = absurd (omega (arith, e))
    here reasons.HaltInNmi e = absurd (omega (arith, e))
    here reasons.SpWrite e = absurd (omega (arith, e))
    here reasons.CellRange e = absurd (omega (arith, e))
    here reasons.CellUnarmed e = absurd (omega (arith, e))

-- 14 has two details: a pair, and I
pub saved_passes : (s : SubjectView) → PassesBelow s 14 → ((detail : Saved) → Passes s (reasons.SavedRegister detail)) → PassesBelow s 15
saved_passes s below all = one_more s 14 below here
  where
    here : (other : Reason) → number_of other ≡ 14 → Passes s other
    here reasons.Rom e = absurd (omega (arith, e))
    here reasons.Region e = absurd (omega (arith, e))
    here reasons.Entry e = absurd (omega (arith, e))
    here (reasons.Decode detail) e = absurd (omega (arith, e))
    here reasons.IoSpace e = absurd (omega (arith, e))
    here reasons.WriteRom e = absurd (omega (arith, e))
    here reasons.WriteUnmapped e = absurd (omega (arith, e))
    here reasons.StackOverwrite e = absurd (omega (arith, e))
    here reasons.StackUnset e = absurd (omega (arith, e))
    here reasons.StackShape e = absurd (omega (arith, e))
    here reasons.StackDepth e = absurd (omega (arith, e))
    here reasons.NotCovered e = absurd (omega (arith, e))
    here reasons.Rank e = absurd (omega (arith, e))
    here (reasons.SavedRegister detail) e = all detail
    here reasons.NmiBeforeStack e = absurd (omega (arith, e))
    here reasons.NmiMissing e = absurd (omega (arith, e))
    here reasons.Time e = absurd (omega (arith, e))
    here reasons.Budget e = absurd (omega (arith, e))
    here reasons.HaltInNmi e = absurd (omega (arith, e))
    here reasons.SpWrite e = absurd (omega (arith, e))
    here reasons.CellRange e = absurd (omega (arith, e))
    here reasons.CellUnarmed e = absurd (omega (arith, e))

-- the reasons of the whole apply to no row
pub begins : (s : SubjectView) → PassesBelow s 4
begins s reasons.Rom low = tt
begins s reasons.Region low = tt
begins s reasons.Entry low = tt
begins s (reasons.Decode detail) low = absurd (omega (arith, low))
begins s reasons.IoSpace low = absurd (omega (arith, low))
begins s reasons.WriteRom low = absurd (omega (arith, low))
begins s reasons.WriteUnmapped low = absurd (omega (arith, low))
begins s reasons.StackOverwrite low = absurd (omega (arith, low))
begins s reasons.StackUnset low = absurd (omega (arith, low))
begins s reasons.StackShape low = absurd (omega (arith, low))
begins s reasons.StackDepth low = absurd (omega (arith, low))
begins s reasons.NotCovered low = absurd (omega (arith, low))
begins s reasons.Rank low = absurd (omega (arith, low))
begins s (reasons.SavedRegister detail) low = absurd (omega (arith, low))
begins s reasons.NmiBeforeStack low = absurd (omega (arith, low))
begins s reasons.NmiMissing low = absurd (omega (arith, low))
begins s reasons.Time low = absurd (omega (arith, low))
begins s reasons.Budget low = absurd (omega (arith, low))
begins s reasons.HaltInNmi low = absurd (omega (arith, low))
begins s reasons.SpWrite low = absurd (omega (arith, low))
begins s reasons.CellRange low = absurd (omega (arith, low))
begins s reasons.CellUnarmed low = absurd (omega (arith, low))

-- each reason has a number up to 22
pub all_pass : (s : SubjectView) → PassesBelow s 23 → IsConsistent s
all_pass s below reasons.Rom = below reasons.Rom (omega arith)
all_pass s below reasons.Region = below reasons.Region (omega arith)
all_pass s below reasons.Entry = below reasons.Entry (omega arith)
all_pass s below (reasons.Decode detail) = below (reasons.Decode detail) (omega arith)
all_pass s below reasons.IoSpace = below reasons.IoSpace (omega arith)
all_pass s below reasons.WriteRom = below reasons.WriteRom (omega arith)
all_pass s below reasons.WriteUnmapped = below reasons.WriteUnmapped (omega arith)
all_pass s below reasons.StackOverwrite = below reasons.StackOverwrite (omega arith)
all_pass s below reasons.StackUnset = below reasons.StackUnset (omega arith)
all_pass s below reasons.StackShape = below reasons.StackShape (omega arith)
all_pass s below reasons.StackDepth = below reasons.StackDepth (omega arith)
all_pass s below reasons.NotCovered = below reasons.NotCovered (omega arith)
all_pass s below reasons.Rank = below reasons.Rank (omega arith)
all_pass s below (reasons.SavedRegister detail) = below (reasons.SavedRegister detail) (omega arith)
all_pass s below reasons.NmiBeforeStack = below reasons.NmiBeforeStack (omega arith)
all_pass s below reasons.NmiMissing = below reasons.NmiMissing (omega arith)
all_pass s below reasons.Time = below reasons.Time (omega arith)
all_pass s below reasons.Budget = below reasons.Budget (omega arith)
all_pass s below reasons.HaltInNmi = below reasons.HaltInNmi (omega arith)
all_pass s below reasons.SpWrite = below reasons.SpWrite (omega arith)
all_pass s below reasons.CellRange = below reasons.CellRange (omega arith)
all_pass s below reasons.CellUnarmed = below reasons.CellUnarmed (omega arith)

-- what was found of all reasons
pub told_ok : {T : Type 0} (s : SubjectView) (found : Result T Reason) → TellsLowest s 23 found → OnOk found (IsConsistent s)
told_ok s (Ok _) below = all_pass s below
told_ok s (Err _) lowest = tt
