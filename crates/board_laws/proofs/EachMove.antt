-- What each move with stack accesses leaves on the stack.
use Rattle.std.proofs.Common.{◌≡◌, ◌<◌, ◌≤◌, ◌+◌, ◌-◌, ◌||◌, ℕ, false, List, [], ◌∷◌, ◌++◌, length, Some, None, refl, sym, ap, subst, ◌∙◌, arith, nat_le, nat_lt}
use Rattle.std.proofs.lemmas.Bool.{le-ltb, lt-leb, or_from}
use Rattle.std.proofs.lemmas.List.Folds.{list_any-append}
use Rattle.address_map.specs.AddressMap.{MapView}
use Rattle.address_map.specs.declared.region.Region.{Region}
use Rattle.z80_alu.specs.Word.{high_of, low_of}
use Rattle.z80_alu.specs.declared.regs.Regs.{Regs}
use Rattle.z80_draft.proofs.DraftLemmas.{word_keeps}
use Rattle.z80_draft.specs.Draft.{DraftView, above, below, moved, read_word, stack_read, stack_written, with_word, draft_word, word_read}
use Rattle.z80_draft.specs.Outside.{Outside}
use Rattle.z80_draft.specs.declared.access.Write.{Write}
use Rattle.z80_draft.specs.declared.access.StackAccess.{StackAccess}
use Rattle.z80_moves.specs.declared.registers.WordRegister.{WordRegister}
use Rattle.z80_moves.specs.declared.registers.WordRegister.TheVariants as registers
use Rattle.z80_moves.specs.declared.moves.Move.TheVariants.{Push, Pop, ExchangeStack}
use Rattle.board_step.specs.Context.{ContextView}
use Rattle.board_step.specs.Memory.{stored_all, stacked_all}
use Rattle.board_step.specs.Reads.{outside_of}
use Rattle.board_step.specs.State.{BoardView}
use Rattle.board_step.specs.declared.env.Env.{Env}
use Rattle.board_step.specs.Step.{committed, ticked}
use Rattle.board_step.specs.Trap.{some_outside}
use Rattle.board_laws.specs.Board.{HasWords, LeavesWords}
use Rattle.board_laws.specs.Stackless.{is_sp}
use Rattle.board_laws.specs.Region.{HasRoom, IsStackRegion, Misses, used}
use Rattle.board_laws.specs.Words.{Lays}
use Rattle.board_laws.proofs.Bytes.{both_same}
use Rattle.board_laws.proofs.Brought.{brought, bytes_missed, lays-brought, lays-committed, reaches, stacked_two}
use Rattle.board_laws.proofs.StacklessMoves.{word_sp}
use Rattle.board_laws.proofs.Laid.{at_sp, below_words, exchange_lays, pop_lays, push_lays, word_found}
use Rattle.board_laws.proofs.WordLaws.{halves, lays-kept}

-- ---- drafts that leave the same words

brought_alike : (map : MapView) (old new : DraftView) (s : BoardView) → new.stack ≡ old.stack → new.writes ≡ old.writes → brought map new s ≡ brought map old s
brought_alike map old new s stack writes =
    ap (λ (as' : List StackAccess). stacked_all map as' (stored_all map new.writes s)) stack ∙ ap (λ (ws : List Write). stacked_all map old.stack (stored_all map ws s)) writes

pub leaves_alike : (map : MapView) (region : Region) (old new : DraftView) (s : BoardView) (words : List ℕ) → new.stack ≡ old.stack → new.writes ≡ old.writes → new.regs.sp ≡ old.regs.sp
    → LeavesWords map region old s words → LeavesWords map region new s words
leaves_alike map region old new s words stack writes sp l = record {
  is_region = l.is_region;
  work = l.work;
  room = l.room;
  inside = ap (some_outside region) stack ∙ l.inside;
  laid =
      subst (λ (n : ℕ). Lays (committed map new s) n region.top words) (sym sp)
      (lays-committed map new s old.regs.sp region.top words
      (subst (λ (t : BoardView). Lays t old.regs.sp region.top words) (sym (brought_alike map old new s stack writes))
      (lays-brought map old s old.regs.sp region.top words l.laid)));
}

-- ---- before and after

-- a draft without stack accesses whose data writes miss the words
pub aside_leaves : (map : MapView) (region : Region) (draft : DraftView) (s : BoardView) (words : List ℕ) → draft.stack ≡ [] → draft.regs.sp ≡ s.regs.sp → Misses map (used region s) draft.writes
    → HasWords map region s words → LeavesWords map region draft s words
aside_leaves map region draft s words none sp misses h = record {
  is_region = h.is_region;
  work = h.work;
  room = h.room;
  inside = ap (some_outside region) none;
  laid =
      subst (λ (n : ℕ). Lays (committed map draft s) n region.top words) (sym sp)
      (lays-kept s (committed map draft s) s.regs.sp region.top words (bytes_missed map (used region s) draft s none misses) h.laid);
}

no_writes : (map : MapView) (region : Region) → Misses map region []
no_writes map region i d h = absurd (omega arith)

-- a draft that has done nothing yet
pub begun : (map : MapView) (region : Region) (draft : DraftView) (s : BoardView) (words : List ℕ) → draft.stack ≡ [] → draft.writes ≡ [] → draft.regs.sp ≡ s.regs.sp
    → HasWords map region s words → LeavesWords map region draft s words
begun map region draft s words stack writes sp h =
    aside_leaves map region draft s words stack sp (subst (Misses map (used region s)) (sym writes) (no_writes map (used region s))) h

-- a draft that has reached the board
pub left : (map : MapView) (region : Region) (draft : DraftView) (s : BoardView) (words : List ℕ) → LeavesWords map region draft s words → HasWords map region (committed map draft s) words
left map region draft s words l =
    let r = reaches map draft s in
    record {
      is_region = l.is_region;
      work = r.work ∙ l.work;
      room = l.room;
      laid = subst (λ (regs : Regs). Lays (committed map draft s) regs.sp region.top words) (sym r.regs) l.laid;
    }

-- the T-states pass
pub words_wait : (map : MapView) (region : Region) (before after : BoardView) (t : ℕ) (env : Env) (words : List ℕ) → HasWords map region after words → HasWords map region (ticked before after t env) words
unfolding ticked
words_wait map region before after t env words h = record {
  is_region = h.is_region;
  work = h.work;
  room = h.room;
  laid = lays-kept after (ticked before after t env) after.regs.sp region.top words (λ x a b. refl) h.laid;
}

-- ---- two more accesses

one_inside : (region : Region) (accesses : List StackAccess) (a : StackAccess) → some_outside region accesses ≡ false → region.low ≤ a.at → a.at < region.top
    → some_outside region (accesses ++ a ∷ []) ≡ false
one_inside region accesses a inside low top =
    let each = or_from (nat_lt a.at region.low) (nat_le region.top a.at) (le-ltb a.at region.low low) (lt-leb region.top a.at top) in
    list_any-append (λ (x : StackAccess). nat_lt x.at region.low || nat_le region.top x.at) accesses (a ∷ [])
    ∙ or_from (some_outside region accesses) _ inside (or_from (nat_lt a.at region.low || nat_le region.top a.at) false each refl)

two_inside : (region : Region) (accesses : List StackAccess) (a b : StackAccess) → some_outside region accesses ≡ false → region.low ≤ a.at → a.at < region.top → region.low ≤ b.at → b.at < region.top
    → some_outside region ((accesses ++ a ∷ []) ++ b ∷ []) ≡ false
two_inside region accesses a b inside low top from to = one_inside region (accesses ++ a ∷ []) b (one_inside region accesses a inside low top) from to

sized : (map : MapView) (draft : DraftView) (s : BoardView) → length s.work ≡ 0x400 → length (brought map draft s).work ≡ 0x400
sized map draft s size = (both_same map draft.writes draft.stack s).work ∙ size

-- ---- the moves

pub push_leaves : (map : MapView) (region : Region) (o : Outside) (w : WordRegister) (e : DraftView) (s : BoardView) (words : List ℕ) → HasRoom region (1 + length words)
    → LeavesWords map region e s words → LeavesWords map region (moved o (Push w) e) s (draft_word w e ∷ words)
unfolding moved
push_leaves map region o w e s words room l =
    let old = lays-brought map e s e.regs.sp region.top words l.laid in
    let b = below_words map region (brought map e s) e.regs.sp words l.is_region room old in
    let free : region.low + 2 ≤ e.regs.sp = b.room in
    let top : e.regs.sp ≤ region.top = b.top in
    let b1 : below e.regs.sp 1 ≡ e.regs.sp - 1 = b.high in
    let b2 : below e.regs.sp 2 ≡ e.regs.sp - 2 = b.low in
    let high : StackAccess = record { at = below e.regs.sp 1; written = Some (high_of (draft_word w e)) } in
    let low : StackAccess = record { at = below e.regs.sp 2; written = Some (low_of (draft_word w e)) } in
    record {
      is_region = l.is_region;
      work = l.work;
      room = omega arith;
      inside = two_inside region e.stack high low l.inside (omega arith) (omega arith) (omega arith) (omega arith);
      laid =
          lays-committed map (moved o (Push w) e) s (below e.regs.sp 2) region.top (draft_word w e ∷ words)
          (subst (λ (t : BoardView). Lays t (below e.regs.sp 2) region.top (draft_word w e ∷ words)) (sym (stacked_two map e.stack high low (stored_all map e.writes s)))
          (push_lays map region (brought map e s) e.regs.sp (draft_word w e) words l.is_region (sized map e s l.work) room old));
    }

-- the reads of a pop, and SP after it
pop_start : DraftView → DraftView
pop_start e = with_word registers.Sp (above e.regs.sp 2) (stack_read (above e.regs.sp 1) (stack_read e.regs.sp e))

pop_starts : (map : MapView) (region : Region) (e : DraftView) (s : BoardView) (word : ℕ) (words : List ℕ) → HasRoom region (1 + length words)
    → LeavesWords map region e s (word ∷ words) → LeavesWords map region (pop_start e) s words
unfolding pop_start
pop_starts map region e s word words room l =
    let old = lays-brought map e s e.regs.sp region.top (word ∷ words) l.laid in
    let a = at_sp map region (brought map e s) e.regs.sp word words l.is_region room old in
    let bottom : region.low ≤ e.regs.sp = a.low in
    let top : e.regs.sp + 2 ≤ region.top = a.top in
    let up : above e.regs.sp 1 ≡ e.regs.sp + 1 = a.next in
    let low : StackAccess = record { at = e.regs.sp; written = None } in
    let high : StackAccess = record { at = above e.regs.sp 1; written = None } in
    record {
      is_region = l.is_region;
      work = l.work;
      room = omega arith;
      inside = two_inside region e.stack low high l.inside (omega arith) (omega arith) (omega arith) (omega arith);
      laid =
          lays-committed map (pop_start e) s (above e.regs.sp 2) region.top words
          (subst (λ (t : BoardView). Lays t (above e.regs.sp 2) region.top words) (sym (stacked_two map e.stack low high (stored_all map e.writes s)))
          (pop_lays map region (brought map e s) e.regs.sp word words l.is_region room old));
    }

pub pop_leaves : (map : MapView) (region : Region) (o : Outside) (w : WordRegister) (e : DraftView) (s : BoardView) (word : ℕ) (words : List ℕ) → is_sp w ≡ false
    → LeavesWords map region e s (word ∷ words) → LeavesWords map region (moved o (Pop w) e) s words
unfolding moved pop_start
pop_leaves map region o w e s word words other l =
    let k = word_keeps w (word_read o e.has_read e.regs.sp) (pop_start e) in
    leaves_alike map region (pop_start e) (moved o (Pop w) e) s words k.stack k.writes (word_sp w _ (pop_start e) other) (pop_starts map region e s word words (omega (arith, l.room)) l)

-- the writes of an exchange
exchange_start : ℕ → DraftView → DraftView
exchange_start word e = stack_written (above e.regs.sp 1) (high_of word) (stack_written e.regs.sp (low_of word) e)

exchange_starts : (map : MapView) (region : Region) (e : DraftView) (s : BoardView) (word old : ℕ) (words : List ℕ) → HasRoom region (1 + length words)
    → LeavesWords map region e s (old ∷ words) → LeavesWords map region (exchange_start word e) s (word ∷ words)
unfolding exchange_start
exchange_starts map region e s word old words room l =
    let before = lays-brought map e s e.regs.sp region.top (old ∷ words) l.laid in
    let a = at_sp map region (brought map e s) e.regs.sp old words l.is_region room before in
    let bottom : region.low ≤ e.regs.sp = a.low in
    let top : e.regs.sp + 2 ≤ region.top = a.top in
    let up : above e.regs.sp 1 ≡ e.regs.sp + 1 = a.next in
    let low : StackAccess = record { at = e.regs.sp; written = Some (low_of word) } in
    let high : StackAccess = record { at = above e.regs.sp 1; written = Some (high_of word) } in
    record {
      is_region = l.is_region;
      work = l.work;
      room = omega arith;
      inside = two_inside region e.stack low high l.inside (omega arith) (omega arith) (omega arith) (omega arith);
      laid =
          lays-committed map (exchange_start word e) s e.regs.sp region.top (word ∷ words)
          (subst (λ (t : BoardView). Lays t e.regs.sp region.top (word ∷ words)) (sym (stacked_two map e.stack low high (stored_all map e.writes s)))
          (exchange_lays map region (brought map e s) e.regs.sp old word words l.is_region (sized map e s l.work) room before));
    }

pub exchange_leaves : (map : MapView) (region : Region) (o : Outside) (w : WordRegister) (e : DraftView) (s : BoardView) (old : ℕ) (words : List ℕ) → is_sp w ≡ false
    → LeavesWords map region e s (old ∷ words) → LeavesWords map region (moved o (ExchangeStack w) e) s (draft_word w e ∷ words)
unfolding moved exchange_start
exchange_leaves map region o w e s old words other l =
    let start = exchange_start (draft_word w e) e in
    let k = word_keeps w (word_read o e.has_read e.regs.sp) start in
    leaves_alike map region start (moved o (ExchangeStack w) e) s (draft_word w e ∷ words) k.stack k.writes (word_sp w _ start other)
    (exchange_starts map region e s (draft_word w e) old words (omega (arith, l.room)) l)

-- ---- the word that is read

read_gives : (o : Outside) (w : WordRegister) (at : ℕ) (e : DraftView) → draft_word w (read_word o w at e) ≡ word_read o e.has_read at
read_gives o registers.Af at e = halves (word_read o e.has_read at)
read_gives o registers.Bc at e = halves (word_read o e.has_read at)
read_gives o registers.De at e = halves (word_read o e.has_read at)
read_gives o registers.Hl at e = halves (word_read o e.has_read at)
read_gives o _ at e = refl

-- the word at SP goes into the register
pub pop_gives : (c : ContextView) (region : Region) (w : WordRegister) (e : DraftView) (word : ℕ) (words : List ℕ) → IsStackRegion c.hardware.map region → HasRoom region (1 + length words)
    → Lays c.state e.regs.sp region.top (word ∷ words) → draft_word w (moved (outside_of c) (Pop w) e) ≡ word
unfolding moved pop_start
pop_gives c region w e word words r room l =
    read_gives (outside_of c) w e.regs.sp (pop_start e)
    ∙ word_found c region e.has_read e.regs.sp word words r room l

pub exchange_gives : (c : ContextView) (region : Region) (w : WordRegister) (e : DraftView) (word : ℕ) (words : List ℕ) → IsStackRegion c.hardware.map region → HasRoom region (1 + length words)
    → Lays c.state e.regs.sp region.top (word ∷ words) → draft_word w (moved (outside_of c) (ExchangeStack w) e) ≡ word
unfolding moved exchange_start
exchange_gives c region w e word words r room l =
    read_gives (outside_of c) w e.regs.sp (exchange_start (draft_word w e) e)
    ∙ word_found c region e.has_read e.regs.sp word words r room l
