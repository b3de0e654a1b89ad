-- A row with a board that it describes: what its data writes leave, and that it does not trap.
use Rattle.std.proofs.Common.{◌≡◌, ◌≤◌, ◌+◌, ◌∙◌, ℕ, Bool, true, false, cond, List, length, Option, Some, None, Ok, refl, ap, subst, arith, inl, inr}
use Rattle.std.specs.Prelude.{◌&&◌}
use Rattle.std.specs.List.{All, AllZip, Contains}
use Rattle.std.proofs.lemmas.Bool.{cases_Bool}
use Rattle.t_states.specs.Io.{is_io}
use Rattle.z80_decode.specs.Spelling.{spelling}
use Rattle.z80_decode.specs.declared.instr.Instr.{Instr}
use Rattle.z80_decode.specs.declared.instr.Instr.TheVariants as instrs
use Rattle.z80_decode.specs.declared.operands.Special.TheVariants as specials
use Rattle.z80_draft.specs.Draft.{DraftView, draft_on, drafted, past, test_holds}
use Rattle.z80_draft.specs.Room.{accesses_in}
use Rattle.z80_moves.specs.Moves.{moves_of}
use Rattle.z80_moves.specs.declared.moves.Test.{Test}
use Rattle.address_map.specs.declared.region.Region.{Region}
use Rattle.board_step.specs.Context.{ContextView}
use Rattle.board_fetch.specs.Decoded.{StandsAt}
use Rattle.board_step.specs.Reads.{outside_of}
use Rattle.board_step.specs.State.{BoardView}
use Rattle.board_step.specs.Step.{done, instr_draft}
use Rattle.board_step.specs.Trap.{is_rom, is_unmapped, some_outside, some_write, trap_of_draft, trap_of_instr}
use Rattle.board_step.specs.declared.env.Env.{Env}
use Rattle.board_step.specs.declared.profile.Trap.{Trap}
use Rattle.board_step.specs.declared.profile.Trap.TheVariants.{IoSpace}
use Rattle.board_laws.proofs.StacklessMoves.{moves_keep_accesses}
use Rattle.board_laws.proofs.Traps.{no_trap}
use Rattle.abs_state.specs.Mode.{is_unset}
use Rattle.abs_state.specs.declared.state.AbsState.{AbsState}
use Rattle.abs_draft.specs.Ground.{GroundView}
use Rattle.abs_draft.specs.Outcomes.{before_test, behind_test, test_of}
use Rattle.abs_laws.specs.Fits.{WriteLiesIn}
use Rattle.abs_laws.specs.Lists.{marked}
use Rattle.abs_laws.specs.Writes.{NeverEnables, TakesData}
use Rattle.abs_laws.proofs.CellsAfter.{cells_hold}
use Rattle.abs_laws.proofs.Enables.{enable_stays_clear, mode_holds, nmi_stays, unset_stays}
use Rattle.abs_laws.proofs.KnownWrites.{known_taken}
use Rattle.abs_laws.proofs.Lists.{parts_of_list, with_test, without_test}
use Rattle.abs_step.specs.Contained.{Before, Goes, IsInOrder, Running}
use Rattle.abs_step.specs.Successors.{has_no_shape, jumps_anywhere, nexts_by, uses_stack, writes_of}
use Rattle.abs_step.proofs.GoesAside.{KeepsBoard}
use Rattle.abs_step.proofs.Here.{here}
use Rattle.abs_step.proofs.TameInstructions.{IsTame, is_apart, tame_instr}
use Rattle.abs_step.proofs.TameMoves.{Rest, moves_rest, tame}

-- a row that `successors` does not refuse and to which no other reason applies, with a board that it describes
pub record Scene (g : GroundView) (address : ℕ) (main inline : Bool) (a : AbsState) (instr : Instr) (region : Region) (running : Running) (s : BoardView) (env : Env) : Type 0 where
  pub at : s.regs.pc ≡ address
  pub is_main : running.main ≡ main
  pub stands : StandsAt g.rom address (Ok instr)
  pub before : Before g.cells region running a (here g s env)
  pub order : IsInOrder g region running a instr (writes_of g address a (Ok instr)) (nexts_by g address main inline instr a (instr_draft (here g s env) instr).taken)
  pub fits : length a.shape ≤ 64
  pub io : is_io instr ≡ false
  pub set : (uses_stack instr && is_unset a.mode) ≡ false
  pub shape : has_no_shape main inline instr a.shape ≡ false
  pub jumps : jumps_anywhere instr a ≡ false

-- the same without the reasons that the certificate decides: an instruction at the address, with one address to go on
-- at
pub record Stage (g : GroundView) (address : ℕ) (a : AbsState) (instr : Instr) (region : Region) (running : Running) (s : BoardView) (env : Env) : Type 0 where
  pub at : s.regs.pc ≡ address
  pub stands : StandsAt g.rom address (Ok instr)
  pub before : Before g.cells region running a (here g s env)
  pub io : is_io instr ≡ false
  pub jumps : jumps_anywhere instr a ≡ false

pub stage_of : (g : GroundView) (address : ℕ) (main inline : Bool) (a : AbsState) (instr : Instr) (region : Region) (running : Running) (s : BoardView) (env : Env) → Scene g address main inline a instr region running s env → Stage g address a instr region running s env
stage_of g address main inline a instr region running s env x = record { at = x.at; stands = x.stands; before = x.before; io = x.io; jumps = x.jumps }

-- the data writes lie in the known ones, and the stack accesses in the region
pub record Reaches (g : GroundView) (address : ℕ) (a : AbsState) (instr : Instr) (region : Region) (s : BoardView) (env : Env) : Type 0 where
  pub zip : AllZip WriteLiesIn (writes_of g address a (Ok instr)) (instr_draft (here g s env) instr).writes
  pub inside : some_outside region (instr_draft (here g s env) instr).stack ≡ false

-- the instruction does what one of its successors says, and its draft reaches the board
abbrev pub Done : GroundView → ℕ → Bool → Bool → AbsState → Instr → Region → Running → BoardView → Env → Type 0
Done g address main inline a instr region running s env =
    Goes g.cells region running a instr (nexts_by g address main inline instr a (instr_draft (here g s env) instr).taken) (here g s env) × Reaches g address a instr region s env

-- what holds of all members of a list holds of each
pub all_at : {X : Type 0} (P : X → Type 0) (xs : List X) (x : X) → All P xs → Contains xs x → P x
all_at P xs x h (k, within, is) = subst P is (h k x within)

-- ---- accesses of the stack

never : (P : Type 0) (b : Bool) → b ≡ true → b ≡ false → P
never P b e f = absurd (cc)

missing : (P : Type 0) → (let b : Bool = false in b) ≡ true → P
missing P e = absurd (cc)

apart_accesses : (instr : Instr) → is_apart instr ≡ true → accesses_in (moves_of instr) ≡ 0
apart_accesses (instrs.JumpTo pointer) h = refl
apart_accesses instrs.Halt h = refl
apart_accesses (instrs.StoreASpecial specials.I) h = refl
apart_accesses (instrs.StoreASpecial specials.R) h = refl
apart_accesses _ h = missing _ h

pub no_accesses : (instr : Instr) → uses_stack instr ≡ false → accesses_in (moves_of instr) ≡ 0
no_accesses instr u =
    elim (cases_Bool (is_apart instr)) [
      | inl e ↦ apart_accesses instr e
      | inr e ↦
          let t = tame_instr instr u e in
          let parts = parts_of_list (moves_of instr) in
          let first : accesses_in (before_test (moves_of instr)) ≡ 0 = (tame _ t.before).accesses in
          let second : accesses_in (behind_test (moves_of instr)) ≡ 0 = (tame _ t.behind).accesses in
          let both : accesses_in (before_test (moves_of instr)) + accesses_in (behind_test (moves_of instr)) ≡ accesses_in (moves_of instr) = parts.accesses in
          omega arith
    ]

pub aside_inside : (region : Region) (c : ContextView) (instr : Instr) → uses_stack instr ≡ false → some_outside region (instr_draft c instr).stack ≡ false
aside_inside region c instr u = ap (some_outside region) (moves_keep_accesses (outside_of c) (moves_of instr) _ (no_accesses instr u))

last_of_three : (x y z : Bool) (p q r : Trap) → cond x (Some p) (cond y (Some q) (cond z (Some r) None)) ≡ None → z ≡ false
last_of_three true y z p q r e = absurd (cc)
last_of_three false true z p q r e = absurd (cc)
last_of_three false false true p q r e = absurd (cc)
last_of_three false false false p q r e = refl

-- no trap means no access outside the region
pub trap_inside : (region : Region) (c : ContextView) (instr : Instr) → is_io instr ≡ false → trap_of_instr region c instr ≡ None → some_outside region (instr_draft c instr).stack ≡ false
unfolding trap_of_draft
trap_inside region c instr io e =
    let d = instr_draft c instr in
    let plain : trap_of_draft c.hardware.map region d ≡ None = subst (λ (b : Bool). cond b (Some IoSpace) (trap_of_draft c.hardware.map region d) ≡ None) io e in
    last_of_three (some_write c.hardware.map is_rom d.writes) (some_write c.hardware.map is_unmapped d.writes) (some_outside region d.stack) _ _ _ plain

-- ---- what the data writes leave

module _ (g : GroundView) (address : ℕ) (main inline : Bool) (a : AbsState) (instr : Instr) (region : Region) (running : Running) (s : BoardView) (env : Env) (x : Scene g address main inline a instr region running s env) (zip : AllZip WriteLiesIn (writes_of g address a (Ok instr)) (instr_draft (here g s env) instr).writes) (inside : some_outside region (instr_draft (here g s env) instr).stack ≡ false) where
  pub keeps_board : KeepsBoard g a (writes_of g address a (Ok instr)) (done (here g s env) instr)
  keeps_board =
      let ws = writes_of g address a (Ok instr) in
      let d = instr_draft (here g s env) instr in
      record {
        mode = mode_holds g region d s a ws x.before.is_region zip inside x.before.holds.mode x.order.enables;
        cells = cells_hold g region d s a ws x.before.is_region x.before.numbers.work.size x.before.kept zip inside x.order.keeps x.before.holds.cells_hold;
        unset = unset_stays g ws a;
        nmi = nmi_stays g ws a;
      }

  pub is_safe : All (TakesData g.map) (writes_of g address a (Ok instr)) → trap_of_instr region (here g s env) instr ≡ None
  is_safe takes = rw x.io (no_trap g.map region (instr_draft (here g s env) instr) (known_taken g.map _ _ takes zip) inside)

  pub is_clear : All (NeverEnables g.map) (writes_of g address a (Ok instr)) → s.enable ≡ false → (done (here g s env) instr).enable ≡ false
  is_clear never_enables clear = enable_stays_clear g.map region (instr_draft (here g s env) instr) s (writes_of g address a (Ok instr)) x.before.is_region zip inside never_enables clear

-- ---- I, and the halt

pub record StillRuns (c : ContextView) (instr : Instr) : Type 0 where
  pub i : (instr_draft c instr).regs.i ≡ c.state.regs.i
  pub halts : (instr_draft c instr).halts ≡ false

either : (P : DraftView → Type 0) (b : Bool) (x y : DraftView) → P x → P y → P (cond b x y)
either P true x y p q = p
either P false x y p q = q

pub tame_rest : (c : ContextView) (instr : Instr) → IsTame instr → StillRuns c instr
tame_rest c instr t = by (test_of (moves_of instr)) refl
  where
    begin : DraftView
    begin = draft_on (past (length (spelling instr)) c.state.regs)

    P : DraftView → Type 0
    P d = (d.regs.i ≡ c.state.regs.i) × (d.halts ≡ false)

    first : Rest begin (drafted (outside_of c) (before_test (moves_of instr)) begin)
    first = moves_rest (outside_of c) (before_test (moves_of instr)) begin t.before

    by : (o : Option Test) → test_of (moves_of instr) ≡ o → StillRuns c instr
    by None is =
        let e = without_test (outside_of c) (moves_of instr) begin is in
        record { i = ap (λ (d : DraftView). d.regs.i) e ∙ first.i; halts = ap (λ (d : DraftView). d.halts) e ∙ first.halts }
    by (Some test) is =
        let e = with_test (outside_of c) (moves_of instr) test begin is in
        let at = drafted (outside_of c) (before_test (moves_of instr)) begin in
        let second = moves_rest (outside_of c) (behind_test (moves_of instr)) (marked test at) t.behind in
        let p : P (cond (test_holds test at) (drafted (outside_of c) (behind_test (moves_of instr)) (marked test at)) (marked test at)) = either P (test_holds test at) _ _ (second.i ∙ first.i, second.halts ∙ first.halts) (first.i, first.halts) in
        record { i = ap (λ (d : DraftView). d.regs.i) e ∙ p.0; halts = ap (λ (d : DraftView). d.halts) e ∙ p.1 }
