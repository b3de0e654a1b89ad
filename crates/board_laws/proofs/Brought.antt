-- What a draft brings to the board: its written bytes, its registers and its halt.
use Rattle.std.proofs.Common.{◌≡◌, ◌≢◌, ◌<◌, ◌≤◌, ◌||◌, ℕ, Bool, false, List, [], ◌∷◌, ◌++◌, length, Option, Some, None, refl, sym, ap, ◌∙◌, nat_le, nat_lt}
use Rattle.std.proofs.lemmas.Bool.{or_parts, ltb-false, leb-false}
use Rattle.std.proofs.lemmas.List.Elements.{All-head, All-tail}
use Rattle.address_map.specs.AddressMap.{MapView}
use Rattle.address_map.specs.Class.{class_of}
use Rattle.address_map.specs.declared.cell.RamKind.TheVariants.{Work, Video, Object}
use Rattle.address_map.specs.declared.map.WriteClass.{WriteClass}
use Rattle.address_map.specs.declared.map.WriteClass.TheVariants as writes
use Rattle.address_map.specs.declared.region.Region.{Region}
use Rattle.z80_alu.specs.declared.regs.Regs.{Regs}
use Rattle.z80_draft.specs.Draft.{DraftView}
use Rattle.z80_draft.specs.declared.access.Write.{Write}
use Rattle.z80_draft.specs.declared.access.StackAccess.{StackAccess}
use Rattle.board_step.specs.Memory.{stored, stored_in, stored_all, stacked_all, stacked_one}
use Rattle.board_step.specs.State.{BoardView}
use Rattle.board_step.specs.Step.{committed}
use Rattle.board_step.specs.Trap.{some_outside}
use Rattle.board_laws.specs.Board.{ReachesBoard}
use Rattle.board_laws.specs.Region.{IsStackRegion, Misses, NoneEnables}
use Rattle.board_laws.specs.Words.{work_byte, Lays}
use Rattle.board_laws.proofs.Bytes.{region_class, both_same, all_missed}
use Rattle.board_laws.proofs.WordLaws.{lays-kept}

-- a state with other registers and another halt
abbrev pub with_rest : Regs → Bool → BoardView → BoardView
with_rest regs halted s = record s { regs = regs; halted = halted }

-- a state with the bytes of a draft written
abbrev pub brought : MapView → DraftView → BoardView → BoardView
brought map draft s = stacked_all map draft.stack (stored_all map draft.writes s)

-- ---- the bytes do not depend on the registers

stored_in_rest : (c : WriteClass) (at byte : ℕ) (regs : Regs) (halted : Bool) (s : BoardView) → stored_in c at byte (with_rest regs halted s) ≡ with_rest regs halted (stored_in c at byte s)
stored_in_rest (writes.Ram Work) at byte regs halted s = refl
stored_in_rest (writes.Ram Video) at byte regs halted s = refl
stored_in_rest (writes.Ram Object) at byte regs halted s = refl
stored_in_rest _ at byte regs halted s = refl

stored_rest : (map : MapView) (at byte : ℕ) (regs : Regs) (halted : Bool) (s : BoardView) → stored map at byte (with_rest regs halted s) ≡ with_rest regs halted (stored map at byte s)
unfolding stored
stored_rest map at byte regs halted s = stored_in_rest (class_of map at).write at byte regs halted s

stored_all_rest : (map : MapView) (ws : List Write) (regs : Regs) (halted : Bool) (s : BoardView) → stored_all map ws (with_rest regs halted s) ≡ with_rest regs halted (stored_all map ws s)
unfolding stored_all
stored_all_rest map [] regs halted s = refl
stored_all_rest map (w ∷ ws) regs halted s =
    ap (stored_all map ws) (stored_rest map w.at w.byte regs halted s) ∙ stored_all_rest map ws regs halted (stored map w.at w.byte s)

stacked_one_rest : (map : MapView) (at : ℕ) (byte : Option ℕ) (regs : Regs) (halted : Bool) (s : BoardView)
    → stacked_one map at byte (with_rest regs halted s) ≡ with_rest regs halted (stacked_one map at byte s)
stacked_one_rest map at (Some byte) regs halted s = stored_rest map at byte regs halted s
stacked_one_rest map at None regs halted s = refl

stacked_all_rest : (map : MapView) (accesses : List StackAccess) (regs : Regs) (halted : Bool) (s : BoardView)
    → stacked_all map accesses (with_rest regs halted s) ≡ with_rest regs halted (stacked_all map accesses s)
unfolding stacked_all
stacked_all_rest map [] regs halted s = refl
stacked_all_rest map (a ∷ more) regs halted s =
    ap (stacked_all map more) (stacked_one_rest map a.at a.written regs halted s) ∙ stacked_all_rest map more regs halted (stacked_one map a.at a.written s)

pub committed_is : (map : MapView) (draft : DraftView) (s : BoardView) → committed map draft s ≡ with_rest draft.regs draft.halts (brought map draft s)
unfolding committed
committed_is map draft s =
    ap (stacked_all map draft.stack) (stored_all_rest map draft.writes draft.regs draft.halts s) ∙ stacked_all_rest map draft.stack draft.regs draft.halts (stored_all map draft.writes s)

pub reaches : (map : MapView) (draft : DraftView) (s : BoardView) → ReachesBoard map draft s
reaches map draft s =
    let is = committed_is map draft s in
    let b = both_same map draft.writes draft.stack s in
    record {
      regs = ap (λ (t : BoardView). t.regs) is;
      halted = ap (λ (t : BoardView). t.halted) is;
      work = ap (λ (t : BoardView). length t.work) is ∙ b.work;
      phase = ap (λ (t : BoardView). t.phase) is ∙ b.phase;
      line = ap (λ (t : BoardView). t.line) is ∙ b.line;
      latched = ap (λ (t : BoardView). t.latched) is ∙ b.latched;
    }

pub byte_committed : (map : MapView) (draft : DraftView) (s : BoardView) (at : ℕ) → work_byte (committed map draft s) at ≡ work_byte (brought map draft s) at
byte_committed map draft s at = ap (λ (t : BoardView). work_byte t at) (committed_is map draft s)

-- words on the board are words in the bytes that the draft wrote
pub lays-brought : (map : MapView) (draft : DraftView) (s : BoardView) (sp top : ℕ) (words : List ℕ) → Lays (committed map draft s) sp top words → Lays (brought map draft s) sp top words
lays-brought map draft s sp top words l = lays-kept (committed map draft s) (brought map draft s) sp top words (λ x a b. sym (byte_committed map draft s x)) l

pub lays-committed : (map : MapView) (draft : DraftView) (s : BoardView) (sp top : ℕ) (words : List ℕ) → Lays (brought map draft s) sp top words → Lays (committed map draft s) sp top words
lays-committed map draft s sp top words l = lays-kept (brought map draft s) (committed map draft s) sp top words (λ x a b. byte_committed map draft s x) l

-- ---- a draft without stack accesses

pub bytes_missed : (map : MapView) (region : Region) (draft : DraftView) (s : BoardView) → draft.stack ≡ [] → Misses map region draft.writes
    → (at : ℕ) → region.low ≤ at → at < region.top → work_byte (committed map draft s) at ≡ work_byte s at
unfolding stacked_all
bytes_missed map region draft s none misses at low high =
    byte_committed map draft s at
    ∙ ap (λ (as' : List StackAccess). work_byte (stacked_all map as' (stored_all map draft.writes s)) at) none
    ∙ all_missed map region draft.writes s misses at low high

-- ---- one more access

pub stacked_more : (map : MapView) (accesses : List StackAccess) (a : StackAccess) (s : BoardView) → stacked_all map (accesses ++ a ∷ []) s ≡ stacked_one map a.at a.written (stacked_all map accesses s)
unfolding stacked_all
stacked_more map [] a s = refl
stacked_more map (b ∷ more) a s = stacked_more map more a (stacked_one map b.at b.written s)

-- two more accesses
pub stacked_two : (map : MapView) (accesses : List StackAccess) (a b : StackAccess) (s : BoardView)
    → stacked_all map ((accesses ++ a ∷ []) ++ b ∷ []) s ≡ stacked_one map b.at b.written (stacked_one map a.at a.written (stacked_all map accesses s))
stacked_two map accesses a b s = stacked_more map (accesses ++ a ∷ []) b s ∙ ap (stacked_one map b.at b.written) (stacked_more map accesses a s)

-- ---- the NMI enable

stored_in_enable : (c : WriteClass) (at byte : ℕ) (s : BoardView) → c ≢ writes.NmiEnable → (stored_in c at byte s).enable ≡ s.enable
stored_in_enable (writes.Ram Work) at byte s other = refl
stored_in_enable (writes.Ram Video) at byte s other = refl
stored_in_enable (writes.Ram Object) at byte s other = refl
stored_in_enable writes.NmiEnable at byte s other = absurd (other refl)
stored_in_enable _ at byte s other = refl

stored_enable : (map : MapView) (at byte : ℕ) (s : BoardView) → (class_of map at).write ≢ writes.NmiEnable → (stored map at byte s).enable ≡ s.enable
unfolding stored
stored_enable map at byte s other = stored_in_enable (class_of map at).write at byte s other

stored_all_enable : (map : MapView) (ws : List Write) (s : BoardView) → NoneEnables map ws → (stored_all map ws s).enable ≡ s.enable
unfolding stored_all
stored_all_enable map [] s none = refl
stored_all_enable map (w ∷ ws) s none =
    stored_all_enable map ws (stored map w.at w.byte s) (All-tail (λ (v : Write). (class_of map v.at).write ≢ writes.NmiEnable) w ws none)
    ∙ stored_enable map w.at w.byte s (All-head (λ (v : Write). (class_of map v.at).write ≢ writes.NmiEnable) w ws none)

stacked_one_enable : (map : MapView) (at : ℕ) (byte : Option ℕ) (s : BoardView) → (class_of map at).write ≢ writes.NmiEnable → (stacked_one map at byte s).enable ≡ s.enable
stacked_one_enable map at (Some byte) s other = stored_enable map at byte s other
stacked_one_enable map at None s other = refl

work_is_other : (c : WriteClass) → c ≡ writes.Ram Work → c ≢ writes.NmiEnable
work_is_other c e h = let same : writes.Ram Work ≡ writes.NmiEnable = sym e ∙ h in cc

-- accesses in the region do not reach the NMI enable
stacked_all_enable : (map : MapView) (region : Region) → IsStackRegion map region → (accesses : List StackAccess) (s : BoardView) → some_outside region accesses ≡ false
    → (stacked_all map accesses s).enable ≡ s.enable
unfolding stacked_all
stacked_all_enable map region r [] s inside = refl
stacked_all_enable map region r (a ∷ more) s inside =
    let p = or_parts (nat_lt a.at region.low || nat_le region.top a.at) (some_outside region more) inside in
    let q = or_parts (nat_lt a.at region.low) (nat_le region.top a.at) p.0 in
    let c = region_class map region r a.at (ltb-false a.at region.low q.0) (leb-false region.top a.at q.1) in
    stacked_all_enable map region r more (stacked_one map a.at a.written s) p.1
    ∙ stacked_one_enable map a.at a.written s (work_is_other (class_of map a.at).write (ap (λ k. k.write) c))

pub enable_kept : (map : MapView) (region : Region) (draft : DraftView) (s : BoardView) → IsStackRegion map region → some_outside region draft.stack ≡ false → NoneEnables map draft.writes
    → (committed map draft s).enable ≡ s.enable
enable_kept map region draft s r inside none =
    ap (λ (t : BoardView). t.enable) (committed_is map draft s)
    ∙ stacked_all_enable map region r draft.stack (stored_all map draft.writes s) inside
    ∙ stored_all_enable map draft.writes s none
