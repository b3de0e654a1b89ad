-- The text of an instruction: what stands before the number that a label may stand for, that number, and what stands after it.
use Rattle.std.specs.Prelude.{ℕ, List, Option}
use Rattle.disassembly.specs.declared.reference.Reference.{Reference}

pub record InstrTextView : Type 0 where
  pub before : List ℕ
  pub reference : Option Reference
  pub after : List ℕ
