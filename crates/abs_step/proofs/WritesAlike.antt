-- The data writes at the test of an instruction are the same whether its address is that of an inline call or not.
use Rattle.std.proofs.Common.{◌≡◌, ◌∙◌, ℕ, Bool, true, false, List, refl, sym, ap, inl, inr}
use Rattle.std.proofs.lemmas.Bool.{cases_Bool}
use Rattle.z80_decode.specs.declared.instr.Instr.{Instr}
use Rattle.z80_decode.specs.declared.instr.Instr.TheVariants as instrs
use Rattle.z80_decode.specs.declared.operands.Pointer.TheVariants as pointers
use Rattle.z80_decode.specs.declared.operands.Special.TheVariants as specials
use Rattle.z80_draft.specs.Room.{writes_in}
use Rattle.z80_moves.specs.Moves.{moves_of}
use Rattle.z80_moves.specs.declared.moves.Move.{Move}
use Rattle.abs_state.specs.declared.state.AbsState.{AbsState}
use Rattle.abs_draft.specs.AfterMove.{after_move}
use Rattle.abs_draft.specs.Ground.{GroundView}
use Rattle.abs_draft.specs.declared.draft.AbsDraft.{AbsDraft}
use Rattle.abs_draft.specs.Outcomes.{after_moves, before_test, known_at_test, known_before}
use Rattle.abs_step.specs.Successors.{uses_stack}
use Rattle.abs_step.proofs.KnownWrites.{inline_alikes, moves_writes}
use Rattle.abs_step.proofs.TameInstructions.{is_apart, tame_instr}

missing : (P : Type 0) → (let b : Bool = false in b) ≡ true → P
missing P e = absurd (cc)

-- an instruction that uses the stack makes no data writes
pub no_writes : (instr : Instr) → uses_stack instr ≡ true → writes_in (before_test (moves_of instr)) ≡ 0
unfolding before_test
no_writes (instrs.Push qq) u = refl
no_writes (instrs.Pop qq) u = refl
no_writes (instrs.ExchangeStack p) u = refl
no_writes (instrs.Call nn) u = refl
no_writes (instrs.CallIf condition nn) u = refl
no_writes (instrs.Restart p) u = refl
no_writes instrs.Return u = refl
no_writes instrs.ReturnFromInterrupt u = refl
no_writes instrs.ReturnFromNonMaskable u = refl
no_writes (instrs.ReturnIf condition) u = refl
no_writes _ u = missing _ u

apart_alike : (g : GroundView) (address : ℕ) (inline : Bool) (instr : Instr) (a : AbsState) → is_apart instr ≡ true → known_at_test g address inline instr a ≡ known_at_test g address true instr a
unfolding before_test after_moves after_move
apart_alike g address inline (instrs.JumpTo pointers.Hl) a h = refl
apart_alike g address inline (instrs.JumpTo pointers.Ix) a h = refl
apart_alike g address inline (instrs.JumpTo pointers.Iy) a h = refl
apart_alike g address inline instrs.Halt a h = refl
apart_alike g address inline (instrs.StoreASpecial specials.I) a h = refl
apart_alike g address inline (instrs.StoreASpecial specials.R) a h = missing _ h
apart_alike g address inline _ a h = missing _ h

pub writes_alike : (g : GroundView) (address : ℕ) (inline : Bool) (instr : Instr) (a : AbsState) → (known_at_test g address inline instr a).writes ≡ (known_at_test g address true instr a).writes
writes_alike g address inline instr a =
    let ms = before_test (moves_of instr) in
    let k = known_before address instr a in
    elim (cases_Bool (uses_stack instr)) [
      | inl u ↦ let none = no_writes instr u in moves_writes g inline ms k none ∙ sym (moves_writes g true ms k none)
      | inr u ↦ elim (cases_Bool (is_apart instr)) [
        | inl e ↦ ap (λ d. d.writes) (apart_alike g address inline instr a e)
        | inr e ↦ ap (λ d. d.writes) (inline_alikes g inline ms k (tame_instr instr u e).before)
      ]
    ]

-- what is known at the test, by equal moves from an equal beginning
pub at_test : (g : GroundView) (inline : Bool) (made moves : List Move) (known begin before : AbsDraft) → known ≡ after_moves g inline (before_test made) begin → made ≡ moves → begin ≡ before → known ≡ after_moves g inline (before_test moves) before
at_test g inline made moves known begin before e m b = e ∙ ap (λ ms. after_moves g inline (before_test ms) begin) m ∙ ap (after_moves g inline (before_test moves)) b
