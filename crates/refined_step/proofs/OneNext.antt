-- A step with one successor, and another successor that differs from it in its state and its effect alone.
use Rattle.std.proofs.Common.{◌≡◌, ◌≤◌, ◌+◌, ◌∙◌, ℕ, zero, suc, List, [], ◌∷◌, length, refl, sym, ap, subst, arith}
use Rattle.std.specs.List.{Contains}
use Rattle.std.proofs.lemmas.List.Elements.{All-cons, All-head, All-nil}
use Rattle.address_map.specs.declared.region.Region.{Region}
use Rattle.z80_alu.specs.declared.regs.Regs.{Regs}
use Rattle.z80_decode.specs.declared.instr.Instr.{Instr}
use Rattle.z80_draft.specs.Registers.{IsRegs}
use Rattle.board_step.specs.Context.{ContextView}
use Rattle.board_step.specs.Step.{done}
use Rattle.board_laws.specs.Region.{HasRoom}
use Rattle.abs_state.specs.Pairs.{HoldsPairs}
use Rattle.abs_state.specs.declared.state.AbsState.{AbsState}
use Rattle.abs_draft.specs.Ground.{GroundView}
use Rattle.abs_draft.specs.declared.data_write.DataWrite.{DataWrite}
use Rattle.abs_step.specs.Contained.{After, GoesBy, IsInOrder, Running, Went}
use Rattle.abs_step.specs.declared.next.Next.{Next}
use Rattle.abs_step.specs.declared.next.NextKind.{NextKind}
use Rattle.abs_step.specs.declared.next.NextKind.TheVariants as kinds
use Rattle.refined_step.proofs.Sharpened.{IsAlike}

in_one : (x n : Next) → Contains (x ∷ []) n → x ≡ n
in_one x n (zero, within, is) = is
in_one x n (suc k, within, is) = absurd (omega (arith, within))

not_called : (P : Type 0) → kinds.Jump ≡ kinds.Call → P
not_called P e = absurd (cc)

module _ (g : GroundView) (region : Region) (running : Running) (a : AbsState) (instr : Instr) (ws : List DataWrite) (c : ContextView) (own other : Next) (like : IsAlike own other) (jump : own.kind ≡ kinds.Jump) where
  abbrev HasRoomAt : Next → Type 0
  HasRoomAt n = n.kind ≡ kinds.Jump → HasRoom region (length n.state.shape + length running.under)

  abbrev HasRoomToCall : Next → Type 0
  HasRoomToCall n = n.kind ≡ kinds.Call → (r : Regs) → IsRegs r → HoldsPairs n.state.pairs running.entry r → HasRoom region (1 + (length n.state.shape + length running.under))

  room : HasRoomAt other → HasRoomAt own
  room h is = subst (λ (k : ℕ). HasRoom region (k + length running.under)) like.stack.long (h (like.kind ∙ is))

  pub order_of_own : IsInOrder g region running a instr ws (other ∷ []) → IsInOrder g region running a instr ws (own ∷ [])
  order_of_own o = record {
    overwrites = o.overwrites;
    enables = o.enables;
    sets = o.sets;
    keeps = o.keeps;
    jumps = All-cons HasRoomAt own [] (room (All-head HasRoomAt other [] o.jumps)) (All-nil HasRoomAt);
    calls = All-cons HasRoomToCall own [] (λ call. not_called _ (sym jump ∙ call)) (All-nil HasRoomToCall);
  }

  pub after_other : After g.cells region running a instr ws (own ∷ []) c → (Went g.cells region running c own (done c instr) → Went g.cells region running c other (done c instr)) → After g.cells region running a instr ws (other ∷ []) c
  after_other h f =
      let w = h.goes in
      let is : own ≡ w.next = in_one own w.next w.listed in
      let there : GoesBy own.kind g.cells region running instr c own = subst (λ (n : Next). GoesBy n.kind g.cells region running instr c n) (sym is) w.goes in
      let went : Went g.cells region running c own (done c instr) = subst (λ (k : NextKind). GoesBy k g.cells region running instr c own) jump there in
      record {
        goes = record {
          next = other;
          listed = (0, omega arith, refl);
          cost = w.cost ∙ (ap (λ (n : Next). n.cost) (sym is) ∙ sym like.cost);
          takes = like.taken ∙ (ap (λ (n : Next). n.taken) is ∙ w.takes);
          stays = λ n. like.stack.mode ∙ (ap (λ (x : Next). x.state.mode) is ∙ w.stays n);
          arms = subst (λ (k : ℕ). a.armed ≤ k) (ap (λ (x : Next). x.state.armed) (sym is) ∙ sym like.stack.armed) w.arms;
          goes = subst (λ (k : NextKind). GoesBy k g.cells region running instr c other) (sym (like.kind ∙ jump)) (f went);
        };
        safe = h.safe;
        clear = h.clear;
        keeps_i = h.keeps_i;
        halts = h.halts;
      }
