-- An instruction that leaves SP and the stack alone does what its successor says.
use Rattle.std.proofs.Common.{◌≡◌, ◌≢◌, ◌≤◌, ◌∙◌, ℕ, Bool, true, false, List, [], ◌∷◌, sym, ap, subst}
use Rattle.intervals.specs.Domain.{Entry}
use Rattle.stack_shape.specs.Shape.{HoldsShape}
use Rattle.stack_shape.specs.declared.slot.Slot.{Slot}
use Rattle.z80_decode.specs.declared.instr.Instr.{Instr}
use Rattle.z80_draft.specs.declared.access.Write.{Write}
use Rattle.address_map.specs.AddressMap.{MapView}
use Rattle.address_map.specs.declared.region.Region.{Region}
use Rattle.board_step.specs.State.{BoardView}
use Rattle.board_step.specs.Step.{done, instr_draft}
use Rattle.board_step.specs.declared.env.Env.{Env}
use Rattle.board_laws.specs.Board.{HasWords}
use Rattle.board_laws.specs.Region.{Misses, used}
use Rattle.board_laws.specs.Uses.{is_aside, sets_sp}
use Rattle.board_laws.specs.Words.{on_top}
use Rattle.board_laws.proofs.Bytes.{unused_missed, used_missed}
use Rattle.board_laws.proofs.EachInstruction.{aside_done}
use Rattle.board_laws.proofs.EachUse.{told_apart}
use Rattle.board_laws.proofs.Laid.{placed}
use Rattle.abs_state.specs.Cell.{HoldsCells}
use Rattle.abs_state.specs.Holds.{Holds, HoldsMode}
use Rattle.abs_state.specs.Variables.{value_in}
use Rattle.abs_state.specs.declared.mode.Mode.TheVariants.{Unset, Nmi}
use Rattle.abs_state.specs.declared.state.AbsState.{AbsState}
use Rattle.abs_draft.specs.Ground.{GroundView}
use Rattle.abs_draft.specs.declared.data_write.DataWrite.{DataWrite}
use Rattle.abs_laws.specs.Cells.{bytes_of_cells}
use Rattle.abs_laws.specs.Fits.{state_after_writes}
use Rattle.abs_step.specs.Contained.{Goes, IsUnder, Running, seen_of}
use Rattle.abs_step.specs.Successors.{next_of, stack_set, uses_stack}
use Rattle.abs_step.specs.declared.next.Next.{Next}
use Rattle.abs_step.specs.declared.next.NextKind.TheVariants as kinds
use Rattle.abs_step.proofs.Asides.{End, end_costs, end_listed}
use Rattle.abs_step.proofs.Here.{address_after, armed_after_all, here, holds_after, moved_after, through_after}
use Rattle.abs_step.proofs.Uses.{no_exchange, no_pop, no_push, stack_same}

-- the mode and the armed cells after the known data writes hold of the board
pub record KeepsBoard (g : GroundView) (a : AbsState) (ws : List DataWrite) (new : BoardView) : Type 0 where
  pub mode : HoldsMode (state_after_writes g ws a).mode new.enable new.line new.latched
  pub cells : HoldsCells (state_after_writes g ws a).armed g.cells (bytes_of_cells g.cells new)
  pub unset : a.mode ≡ Unset → (state_after_writes g ws a).mode ≡ Unset
  pub nmi : a.mode ≡ Nmi → (state_after_writes g ws a).mode ≡ Nmi

-- ---- the part of the region that is in use

in_region : (map : MapView) (region : Region) (s : BoardView) (words : List ℕ) → HasWords map region s words → region.low ≤ s.regs.sp
in_region map region s words h = (placed map region s s.regs.sp words h.is_region h.room h.laid).low

pub misses_used : (map : MapView) (region : Region) (s : BoardView) (ws : List Write) (main : Bool) (shape : List Slot) (entry : Entry) (words under : List ℕ) → HasWords map region s (on_top words under) → HoldsShape shape entry words → IsUnder main under
    → ((main ≡ true → shape ≢ []) → Misses map region ws) → Misses map (used region s) ws
unfolding on_top
misses_used map region s ws false shape entry words under h holds low m = used_missed map region ws s (in_region map region s _ h) (m (λ e. absurd (cc)))
misses_used map region s ws true (slot ∷ slots) entry words under h holds low m = used_missed map region ws s (in_region map region s _ h) (m (λ e same. absurd (cc)))
misses_used map region s ws true [] entry [] [] h holds low m = unused_missed map region ws s h
misses_used map region s ws true [] entry [] (word ∷ under) h holds low m = absurd low
misses_used map region s ws true [] entry (word ∷ words) under h holds low m = absurd holds

-- ---- how it goes

module _ (g : GroundView) (s : BoardView) (env : Env) (a : AbsState) (instr : Instr) (main : Bool) (region : Region) (running : Running) (ws : List DataWrite) (ways : Bool → List Next) (words : List ℕ) (sets : sets_sp instr ≡ false) (k : KeepsBoard g a ws (done (here g s env) instr)) (keeps : (a.mode ≢ Unset) → HasWords g.map region (done (here g s env) instr) (on_top words running.under)) where
  pub goes_on : End g (here g s env) a instr main kinds.Jump running.entry (value_in (seen_of g.cells running.words s)) words ws ways → Goes g.cells region running a instr (ways (instr_draft (here g s env) instr).taken) (here g s env)
  goes_on e =
      let f = e.fits in
      let mode : HoldsMode (state_after_writes g e.known.writes.items a).mode (done (here g s env) instr).enable (done (here g s env) instr).line (done (here g s env) instr).latched =
      subst (λ xs. HoldsMode (state_after_writes g xs a).mode (done (here g s env) instr).enable (done (here g s env) instr).line (done (here g s env) instr).latched) (sym e.writes) k.mode in
      let cells : HoldsCells (state_after_writes g e.known.writes.items a).armed g.cells (bytes_of_cells g.cells (done (here g s env) instr)) =
      subst (λ xs. HoldsCells (state_after_writes g xs a).armed g.cells (bytes_of_cells g.cells (done (here g s env) instr))) (sym e.writes) k.cells in
      let same : stack_set main instr e.known.state ≡ e.known.state = stack_same main instr e.known.state sets in
      let mode_is : (stack_set main instr e.known.state).mode ≡ (state_after_writes g ws a).mode = ap (λ (x : AbsState). x.mode) same ∙ (f.mode ∙ ap (λ xs. (state_after_writes g xs a).mode) e.writes) in
      record {
        next = next_of main instr e.taken kinds.Jump e.known;
        listed = end_listed g (here g s env) a instr main kinds.Jump running.entry _ words ws ways e;
        cost = end_costs g (here g s env) a instr main kinds.Jump running.entry _ words ws ways e;
        takes = sym e.takes;
        stays = λ n. mode_is ∙ k.nmi n;
        arms = subst (λ (x : AbsState). a.armed ≤ x.armed) (sym same) (armed_after_all g a e.known f.armed);
        goes = record {
          words = words;
          pc = address_after g s env a instr running e.known _ words f (e.one (λ same. absurd (cc)));
          holds = subst (λ x. Holds x g.cells running.entry (seen_of g.cells words (done (here g s env) instr))) (sym same) (holds_after g s env a instr running e.known _ words f mode cells);
          laid = λ set. keeps (λ unset. set (mode_is ∙ k.unset unset));
          through = through_after g s env a instr running e.known words f;
          moved = moved_after g s env a instr running e.known words f;
        };
      }

-- an instruction that leaves the stack alone keeps the words
pub aside_keeps : (g : GroundView) (s : BoardView) (env : Env) (a : AbsState) (instr : Instr) (region : Region) (running : Running) → uses_stack instr ≡ false → sets_sp instr ≡ false
    → HoldsShape a.shape running.entry running.words → IsUnder running.main running.under
    → ((running.main ≡ true → a.shape ≢ []) → Misses g.map region (instr_draft (here g s env) instr).writes)
    → HasWords g.map region s (on_top running.words running.under) → HasWords g.map region (done (here g s env) instr) (on_top running.words running.under)
aside_keeps g s env a instr region running u sets holds under misses h =
    let taken = (instr_draft (here g s env) instr).taken in
    let aside : is_aside instr taken ≡ true = told_apart instr taken (no_push instr taken u) (no_pop instr taken u) (no_exchange instr u) sets in
    (aside_done (here g s env) region instr (on_top running.words running.under) h (misses_used g.map region s _ running.main a.shape running.entry running.words running.under h holds under misses) aside).1
