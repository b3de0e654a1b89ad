-- What an instruction that does not use the stack keeps.
use Rattle.std.proofs.Common.{◌≡◌, ℕ, Bool, true, false, not, List, Ok, refl, sym, subst, inl, inr}
use Rattle.std.specs.List.{AllZip}
use Rattle.std.proofs.lemmas.Bool.{cases_Bool, eqb-true}
use Rattle.z80_decode.specs.declared.instr.Instr.{Instr}
use Rattle.z80_decode.specs.declared.instr.Instr.TheVariants as instrs
use Rattle.z80_decode.specs.declared.operands.Pointer.TheVariants as pointers
use Rattle.z80_decode.specs.declared.operands.Special.TheVariants as specials
use Rattle.z80_moves.specs.Moves.{moves_of}
use Rattle.address_map.specs.declared.region.Region.{Region}
use Rattle.board_step.specs.State.{BoardView}
use Rattle.board_step.specs.Step.{instr_draft}
use Rattle.board_step.specs.declared.env.Env.{Env}
use Rattle.board_laws.specs.Uses.{sets_sp}
use Rattle.abs_state.specs.Variables.{value_in}
use Rattle.abs_state.specs.declared.state.AbsState.{AbsState}
use Rattle.abs_draft.specs.Ground.{GroundView}
use Rattle.abs_draft.specs.AfterMove.{after_move}
use Rattle.abs_draft.specs.Outcomes.{after_moves, before_test, known_before, test_of}
use Rattle.abs_laws.specs.Fits.{WriteLiesIn}
use Rattle.abs_laws.proofs.KnownWrites.{known_miss}
use Rattle.abs_step.specs.Contained.{Running, seen_of}
use Rattle.abs_step.specs.Successors.{next_kind_of, nexts_by, uses_stack, way_by, writes_of}
use Rattle.abs_step.specs.declared.next.NextKind.{NextKind}
use Rattle.abs_step.specs.declared.next.NextKind.TheVariants as kinds
use Rattle.abs_step.proofs.Asides.{End, jump_kind, straight_end, tame_end}
use Rattle.abs_step.proofs.GoesAside.{aside_keeps, goes_on}
use Rattle.abs_step.proofs.Here.{begun, here}
use Rattle.abs_step.proofs.Scenes.{Done, Scene, Stage, aside_inside, keeps_board, stage_of}
use Rattle.abs_step.proofs.TameInstructions.{is_apart, tame_instr}

never : (P : Type 0) (b : Bool) → b ≡ true → b ≡ false → P
never P b e f = absurd (cc)

missing : (P : Type 0) → (let b : Bool = false in b) ≡ true → P
missing P e = absurd (cc)

not_not : (b : Bool) → not b ≡ false → b ≡ true
not_not true e = refl
not_not false e = absurd (cc)

module _ (g : GroundView) (address : ℕ) (main inline : Bool) (a : AbsState) (region : Region) (running : Running) (s : BoardView) (env : Env) where
  -- the end, among the successors of an instruction of this kind
  abbrev AtEnd : Instr → NextKind → Type 0
  AtEnd instr kind = End g (here g s env) a instr main kinds.Jump running.entry (value_in (seen_of g.cells running.words s)) running.words (writes_of g address a (Ok instr)) (way_by g main inline instr kind (test_of (moves_of instr)) (after_moves g inline (before_test (moves_of instr)) (known_before address instr a)))

  apart_end : (instr : Instr) → is_apart instr ≡ true → Stage g address a instr region running s env → AtEnd instr kinds.Jump
  unfolding before_test test_of after_moves after_move
  apart_end (instrs.JumpTo pointers.Hl) h x =
      let b = begun g address a (instrs.JumpTo pointers.Hl) region running s env x.at x.stands x.before in
      straight_end g (here g s env) a (instrs.JumpTo pointers.Hl) main inline running.entry _ running.words address x.io b.start b.run kinds.Jump refl refl (eqb-true _ _ (not_not _ x.jumps)) refl
  apart_end (instrs.JumpTo pointers.Ix) h x =
      let b = begun g address a (instrs.JumpTo pointers.Ix) region running s env x.at x.stands x.before in
      straight_end g (here g s env) a (instrs.JumpTo pointers.Ix) main inline running.entry _ running.words address x.io b.start b.run kinds.Jump refl refl (eqb-true _ _ (not_not _ x.jumps)) refl
  apart_end (instrs.JumpTo pointers.Iy) h x =
      let b = begun g address a (instrs.JumpTo pointers.Iy) region running s env x.at x.stands x.before in
      straight_end g (here g s env) a (instrs.JumpTo pointers.Iy) main inline running.entry _ running.words address x.io b.start b.run kinds.Jump refl refl (eqb-true _ _ (not_not _ x.jumps)) refl
  apart_end instrs.Halt h x =
      let b = begun g address a instrs.Halt region running s env x.at x.stands x.before in
      straight_end g (here g s env) a instrs.Halt main inline running.entry _ running.words address x.io b.start b.run kinds.Jump refl refl refl refl
  apart_end (instrs.StoreASpecial specials.I) h x =
      let b = begun g address a (instrs.StoreASpecial specials.I) region running s env x.at x.stands x.before in
      straight_end g (here g s env) a (instrs.StoreASpecial specials.I) main inline running.entry _ running.words address x.io b.start b.run kinds.Jump refl refl refl refl
  apart_end (instrs.StoreASpecial specials.R) h x = missing _ h
  apart_end _ h x = missing _ h

  pub aside_end : (instr : Instr) → uses_stack instr ≡ false → Stage g address a instr region running s env → AtEnd instr (next_kind_of inline instr a.shape)
  aside_end instr u x =
      let b = begun g address a instr region running s env x.at x.stands x.before in
      let jumping : AtEnd instr kinds.Jump = elim (cases_Bool (is_apart instr)) [
        | inl e ↦ apart_end instr e x
        | inr e ↦ tame_end g (here g s env) a instr main inline running.entry _ running.words address x.io b.start b.run (tame_instr instr u e)
      ] in
      subst (AtEnd instr) (sym (jump_kind inline instr a.shape u)) jumping

  -- the data writes lie in the known ones
  pub known_zip : (instr : Instr) (kind : NextKind) (words : List ℕ) → End g (here g s env) a instr main kind running.entry (value_in (seen_of g.cells running.words s)) words (writes_of g address a (Ok instr)) (nexts_by g address main inline instr a)
      → AllZip WriteLiesIn (writes_of g address a (Ok instr)) (instr_draft (here g s env) instr).writes
  known_zip instr kind words e = subst (λ ws. AllZip WriteLiesIn ws (instr_draft (here g s env) instr).writes) e.writes e.fits.writes

  -- an instruction that leaves SP and the stack alone
  pub aside_goes : (instr : Instr) → uses_stack instr ≡ false → sets_sp instr ≡ false → Scene g address main inline a instr region running s env → Done g address main inline a instr region running s env
  aside_goes instr u sets x =
      let e = aside_end instr u (stage_of g address main inline a instr region running s env x) in
      let zip = known_zip instr kinds.Jump running.words e in
      let inside = aside_inside region (here g s env) instr u in (
        goes_on g s env a instr main region running (writes_of g address a (Ok instr)) (nexts_by g address main inline instr a) running.words sets (keeps_board g address main inline a instr region running s env x zip inside)
            (λ set. aside_keeps g s env a instr region running u sets x.before.holds.shape x.before.under (λ not. known_miss g.map region _ _ (x.order.overwrites not) zip) (x.before.laid set)) e,
        record { zip = zip; inside = inside },
      )
