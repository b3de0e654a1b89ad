-- The table of reasons: numbers and names.
use Rattle.std.specs.Prelude.{ℕ, List, codes}
use Rattle.intervals.specs.RegPair.{name_of as pair_name_of}
use Rattle.abs_step.specs.declared.reason.Reason.{Reason}
use Rattle.abs_step.specs.declared.reason.Reason.TheVariants as reasons
use Rattle.abs_step.specs.declared.reason.Saved.{Saved}
use Rattle.abs_step.specs.declared.reason.Saved.TheVariants as saved

-- the numbers of the reasons (docs/CHECKER.md, "The table of reasons")
abbrev pub number_of : Reason → ℕ
number_of reasons.Rom = 1
number_of reasons.Region = 2
number_of reasons.Entry = 3
number_of (reasons.Decode detail) = 4
number_of reasons.IoSpace = 5
number_of reasons.WriteRom = 6
number_of reasons.WriteUnmapped = 7
number_of reasons.StackOverwrite = 8
number_of reasons.StackUnset = 9
number_of reasons.StackShape = 10
number_of reasons.StackDepth = 11
number_of reasons.NotCovered = 12
number_of reasons.Rank = 13
number_of (reasons.SavedRegister detail) = 14
number_of reasons.NmiBeforeStack = 15
number_of reasons.NmiMissing = 16
number_of reasons.Time = 17
number_of reasons.Budget = 18
number_of reasons.HaltInNmi = 19
number_of reasons.SpWrite = 20
number_of reasons.CellRange = 21
number_of reasons.CellUnarmed = 22

-- the names of the reasons
abbrev pub reason_name : Reason → List ℕ
reason_name reasons.Rom = codes "Rom"
reason_name reasons.Region = codes "Region"
reason_name reasons.Entry = codes "Entry"
reason_name (reasons.Decode detail) = codes "Decode"
reason_name reasons.IoSpace = codes "IoSpace"
reason_name reasons.WriteRom = codes "WriteRom"
reason_name reasons.WriteUnmapped = codes "WriteUnmapped"
reason_name reasons.StackOverwrite = codes "StackOverwrite"
reason_name reasons.StackUnset = codes "StackUnset"
reason_name reasons.StackShape = codes "StackShape"
reason_name reasons.StackDepth = codes "StackDepth"
reason_name reasons.NotCovered = codes "NotCovered"
reason_name reasons.Rank = codes "Rank"
reason_name (reasons.SavedRegister detail) = codes "SavedRegister"
reason_name reasons.NmiBeforeStack = codes "NmiBeforeStack"
reason_name reasons.NmiMissing = codes "NmiMissing"
reason_name reasons.Time = codes "Time"
reason_name reasons.Budget = codes "Budget"
reason_name reasons.HaltInNmi = codes "HaltInNmi"
reason_name reasons.SpWrite = codes "SpWrite"
reason_name reasons.CellRange = codes "CellRange"
reason_name reasons.CellUnarmed = codes "CellUnarmed"

-- the name of what a routine has to restore
abbrev pub saved_name_of : Saved → List ℕ
saved_name_of (saved.Pair pair) = pair_name_of pair
saved_name_of saved.I = codes "I"
