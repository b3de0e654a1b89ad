-- A data write keeps the abstract draft true.
use Rattle.std.proofs.Common.{◌≡◌, ◌<◌, ℕ, true, ltb, refl, sym, ◌∙◌, ap, subst, arith, rules, List, [], ◌∷◌, ◌++◌, length}
use Rattle.std.specs.List.{AllZip}
use Rattle.std.proofs.lemmas.Slice.Zip.{all_zipped_more}
use Rattle.intervals.specs.Domain.{Entry}
use Rattle.intervals.specs.Range.{RangeView, Within}
use Rattle.loop_bounds.specs.Effect.{Valuation}
use Rattle.z80_draft.specs.Draft.{DraftView, written}
use Rattle.z80_draft.specs.declared.access.Write.{Write}
use Rattle.abs_state.specs.declared.state.AbsState.{AbsState}
use Rattle.abs_draft.specs.Ground.{GroundView, may_enable, mode_after, armed_after}
use Rattle.abs_draft.specs.AbsDraft.{one_more_write, write_byte, written_state}
use Rattle.abs_draft.specs.declared.data_write.DataWrite.{DataWrite}
use Rattle.abs_draft.specs.declared.draft.AbsDraft.{AbsDraft}
use Rattle.abs_laws.specs.Fits.{Fits, WriteLiesIn, state_after_writes}

as_many : (known : List DataWrite) (writes : List Write) → AllZip WriteLiesIn known writes → length known ≡ length writes
as_many [] [] h = refl
as_many [] (w ∷ ws) h = absurd h
as_many (k ∷ ks) [] h = absurd h
as_many (k ∷ ks) (w ∷ ws) h = let rest = as_many ks ws h.1 in omega arith

-- the last write is applied last
pub last_write : (g : GroundView) (ws : List DataWrite) (w : DataWrite) (s : AbsState) → state_after_writes g (ws ++ w ∷ []) s ≡ written_state g w (state_after_writes g ws s)
last_write g [] w s = refl
last_write g (v ∷ ws) w s = last_write g ws w (written_state g v s)

has_room : (ws : List DataWrite) (w : DataWrite) → length ws < 2 → one_more_write ws w ≡ ws ++ w ∷ []
has_room ws w h = let room : ltb (length ws) 2 ≡ true = search rules in rw room refl

pub write_done : {g : GroundView} {start : AbsState} {k : AbsDraft} {entry : Entry} {before : Valuation} {d : DraftView} {stack : List ℕ} (at byte : RangeView) (address n : ℕ)
    → Within at address → Within byte n → length d.writes < 2 → Fits g start k entry before d stack → Fits g start (write_byte g at byte k) entry before (written address n d) stack
write_done {g = g} {start = start} {k = k} {d = d} at byte address n i j room f =
    let w : DataWrite = record { at = at; byte = byte } in
    let write : Write = record { at = address; byte = n } in
    let count = as_many k.writes.items d.writes f.writes in
    let all = has_room k.writes.items w (omega arith) in
    let after : state_after_writes g (one_more_write k.writes.items w) start ≡ written_state g w (state_after_writes g k.writes.items start) =
    ap (λ (ws : List DataWrite). state_after_writes g ws start) all ∙ last_write g k.writes.items w start in
    record {
      regs = f.regs;
      operand_byte = f.operand_byte;
      pointer_word = f.pointer_word;
      pairs = f.pairs;
      flag = f.flag;
      shape = f.shape;
      operand = f.operand;
      pointer = f.pointer;
      pc = f.pc;
      follows = f.follows;
      writes = subst (λ (ws : List DataWrite). AllZip WriteLiesIn ws (d.writes ++ write ∷ [])) (sym all) (all_zipped_more WriteLiesIn k.writes.items d.writes w write f.writes (i, j));
      mode = ap (mode_after (may_enable g.map w)) f.mode ∙ sym (ap (λ (s : AbsState). s.mode) after);
      armed = ap (armed_after g w) f.armed ∙ sym (ap (λ (s : AbsState). s.armed) after);
      readable = f.readable;
    }
