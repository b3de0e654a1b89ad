-- What the laws of src/instructions.rt say: each is the contract of the function with its name.
use Rattle.std.specs.Prelude.{ℕ, ◌+◌, ◌≡◌, true, List, ◌∷◌, length, None, [], Bool, false}
use Rattle.address_map.specs.declared.region.Region.{Region}
use Rattle.z80_decode.specs.declared.instr.Instr.{Instr}
use Rattle.board_step.specs.Context.{ContextView}
use Rattle.board_step.specs.Step.{instr_draft, accepted, nmi_draft, done}
use Rattle.board_laws.specs.Board.{HasWords, IsDoneWith}
use Rattle.board_laws.specs.Region.{HasRoom, IsStackRegion, Misses, used}
use Rattle.board_laws.specs.Uses.{is_push, pushed_word, is_pop, popped_into, is_aside, is_exchange, sets_sp}
use Rattle.z80_draft.specs.Draft.{draft_word, draft_on}
use Rattle.z80_decode.specs.declared.instr.Instr.TheVariants.{ExchangeStack, LoadPair}
use Rattle.z80_decode.specs.declared.operands.Pointer.{Pointer}
use Rattle.z80_moves.specs.Operands.{pointer_register}
use Rattle.board_step.specs.Trap.{trap_of_draft}
use Rattle.address_map.specs.RamKind.{size_of}
use Rattle.address_map.specs.declared.cell.RamKind.TheVariants.{Work}
use Rattle.z80_decode.specs.declared.operands.Register16.TheVariants.{Sp}

abbrev pub PushesLayWords : Type 0
PushesLayWords =
    (c : ContextView) (region : Region) (instr : Instr) (words : List ℕ) → HasWords c.hardware.map region c.state words
    → HasRoom region (1 + length words) → is_push instr (instr_draft c instr).taken ≡ true
    → IsDoneWith c region instr (pushed_word c.state.regs instr ∷ words)

abbrev pub PopsTakeWords : Type 0
PopsTakeWords =
    (c : ContextView) (region : Region) (instr : Instr) (word : ℕ) (words : List ℕ)
    → HasWords c.hardware.map region c.state (word ∷ words) → is_pop instr (instr_draft c instr).taken ≡ true
    → IsDoneWith c region instr words × (draft_word (popped_into instr) (instr_draft c instr) ≡ word)

abbrev pub ExchangesSwapWords : Type 0
ExchangesSwapWords =
    (c : ContextView) (region : Region) (pointer : Pointer) (word : ℕ) (words : List ℕ)
    → HasWords c.hardware.map region c.state (word ∷ words)
    → IsDoneWith c region (ExchangeStack pointer) (draft_word (pointer_register pointer) (draft_on c.state.regs) ∷ words) × (draft_word (pointer_register pointer) (instr_draft c (ExchangeStack pointer)) ≡ word)

abbrev pub AcceptancesLayWords : Type 0
AcceptancesLayWords =
    (c : ContextView) (region : Region) (words : List ℕ) → HasWords c.hardware.map region c.state words
    → HasRoom region (1 + length words)
    → (trap_of_draft c.hardware.map region (nmi_draft c) ≡ None) × HasWords c.hardware.map region (accepted c) (c.state.regs.pc ∷ words)

abbrev pub LoadsOfSpBeginAStack : Type 0
LoadsOfSpBeginAStack =
    (c : ContextView) (region : Region) → IsStackRegion c.hardware.map region → length c.state.work ≡ size_of Work
    → HasWords c.hardware.map region (done c (LoadPair Sp region.top)) []

abbrev pub OtherInstructionsKeepWords : Type 0
OtherInstructionsKeepWords =
    (c : ContextView) (region : Region) (instr : Instr) (words : List ℕ) → HasWords c.hardware.map region c.state words
    → Misses c.hardware.map (used region c.state) (instr_draft c instr).writes
    → is_aside instr (instr_draft c instr).taken ≡ true
    → ((instr_draft c instr).stack ≡ []) × HasWords c.hardware.map region (done c instr) words

abbrev pub InstructionsAreToldApartAside : Type 0
InstructionsAreToldApartAside =
    (instr : Instr) (taken : Bool) → is_push instr taken ≡ false → is_pop instr taken ≡ false
    → is_exchange instr ≡ false → sets_sp instr ≡ false → is_aside instr taken ≡ true

abbrev pub InstructionsAreToldApartSets : Type 0
InstructionsAreToldApartSets =
    (c : ContextView) (instr : Instr) → sets_sp instr ≡ true → (instr_draft c instr).stack ≡ []
