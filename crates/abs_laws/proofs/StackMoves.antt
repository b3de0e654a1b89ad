-- Soundness of the moves with stack accesses.
use Rattle.std.proofs.Common.{◌≡◌, ◌≢◌, ◌<◌, ◌+◌, ◌-◌, ◌/◌, ◌%◌, ℕ, Bool, true, false, cond, eqb, ltb, refl, sym, ◌∙◌, subst, arith, rules, List, [], ◌∷◌, ◌++◌, length, length-append, take, set, get_or, Option, Some, None}
use Rattle.std.proofs.lemmas.Bool.{eqb-true}
use Rattle.std.proofs.lemmas.List.{get_or_append_left, get_or_push}
use Rattle.std.proofs.lemmas.Slice.Zip.{all_zipped_more}
use Rattle.intervals.specs.Domain.{Entry}
use Rattle.intervals.specs.Pair.{HoldsPair}
use Rattle.intervals.specs.Range.{full}
use Rattle.intervals.specs.declared.pair.Pair.{Pair}
use Rattle.loop_bounds.specs.Effect.{Valuation, change_of, part_change, slot_change}
use Rattle.loop_bounds.specs.declared.effect.Change.{Change}
use Rattle.loop_bounds.specs.declared.effect.Change.TheVariants.{Old, Unknown}
use Rattle.loop_bounds.specs.declared.effect.Effect.{Effect}
use Rattle.loop_bounds.specs.declared.effect.SlotChange.{SlotChange}
use Rattle.loop_bounds.specs.declared.variable.Part.{Part}
use Rattle.loop_bounds.specs.declared.variable.Part.TheVariants.{Word, High, Low}
use Rattle.loop_bounds.specs.declared.variable.Variable.{Variable}
use Rattle.loop_bounds.specs.declared.variable.Variable.TheVariants as variables
use Rattle.stack_shape.specs.Shape.{HoldsShape}
use Rattle.stack_shape.specs.Slot.{HoldsSlot}
use Rattle.stack_shape.specs.declared.slot.Slot.{Slot}
use Rattle.z80_draft.specs.Draft.{DraftView, above, below, moved, word_pushed as pushed_word, read_word, stack_read, stack_written, with_word, draft_word, word_read}
use Rattle.z80_draft.specs.Outside.{Outside}
use Rattle.z80_draft.specs.declared.access.StackAccess.{StackAccess}
use Rattle.z80_moves.specs.declared.moves.Move.TheVariants.{ExchangeStack, Pop, Push}
use Rattle.z80_moves.specs.declared.registers.WordRegister.{WordRegister}
use Rattle.z80_moves.specs.declared.registers.WordRegister.TheVariants as words
use Rattle.abs_state.specs.CutLaws.{slot_held}
use Rattle.abs_state.specs.Variables.{part_of, value_in}
use Rattle.abs_state.specs.declared.state.AbsState.{AbsState}
use Rattle.abs_draft.specs.AfterMove.{after_move, take_slot}
use Rattle.abs_draft.specs.Ground.{GroundView}
use Rattle.abs_draft.specs.AbsDraft.{without_last, known_pair, last_slot, known_parts_of, pop_pair, push_pair, put_last, put_known_pair, slot_parts}
use Rattle.abs_draft.specs.declared.draft.AbsDraft.{AbsDraft}
use Rattle.abs_laws.specs.Fits.{Fits, FollowsChange, IsThere, seen_by_draft}
use Rattle.abs_laws.proofs.Parts.{PartsFollow, pair_holds, parts_follow, rest_changed}
use Rattle.abs_laws.proofs.Puts.{pair_done, word_done}

-- ---- shapes and words

as_long : (slots : List Slot) (entry : Entry) (stack : List ℕ) → HoldsShape slots entry stack → length slots ≡ length stack
as_long [] entry [] h = refl
as_long [] entry (w ∷ ws) h = absurd h
as_long (s ∷ ss) entry [] h = absurd h
as_long (s ∷ ss) entry (w ∷ ws) h = let rest = as_long ss entry ws h.1 in omega arith

shape_popped : (slots : List Slot) (entry : Entry) (rest : List ℕ) (word : ℕ) → HoldsShape slots entry (rest ++ word ∷ []) → HoldsShape (take (length rest) slots) entry rest
shape_popped [] entry [] word h = absurd h
shape_popped [] entry (r ∷ rs) word h = absurd h
shape_popped (s ∷ ss) entry [] word h = tt
shape_popped (s ∷ ss) entry (r ∷ rs) word h = (h.0, shape_popped ss entry rs word h.1)

shape_replaced : (slots : List Slot) (entry : Entry) (rest : List ℕ) (old word : ℕ) (slot : Slot) → HoldsPair slot.pair entry word → HoldsShape slots entry (rest ++ old ∷ []) → HoldsShape (set slots (length rest) slot) entry (rest ++ word ∷ [])
shape_replaced [] entry [] old word slot p h = absurd h
shape_replaced [] entry (r ∷ rs) old word slot p h = absurd h
shape_replaced (s ∷ ss) entry [] old word slot p h = (p, h.1)
shape_replaced (s ∷ ss) entry (r ∷ rs) old word slot p h = (h.0, shape_replaced ss entry rs old word slot p h.1)

-- ---- the variables of the written slot, and of the others

abbrev written_slot : ℕ → Change → Change → Change → Option SlotChange
written_slot number word high low = Some (record { number = number; word = word; high = high; low = low })

-- the top slot is written with the changes; the others keep their values
slot_follows : (word high low : Change) (before : Valuation) (rest : List ℕ) (n number count : ℕ) (part : Part) → count ≡ length rest → number < length (rest ++ n ∷ []) → PartsFollow word high low before n
    → ((m : ℕ) → m < length rest → FollowsChange (Old (variables.Slot m part)) before (part_of part (get_or rest m 0)))
    → FollowsChange (slot_change (written_slot count word high low) number part) before (part_of part (get_or (rest ++ n ∷ []) number 0))
slot_follows word high low before rest n number count part e i p f =
    let longer : length (rest ++ n ∷ []) ≡ length rest + 1 = length-append rest (n ∷ []) in
    let c : SlotChange = record { number = count; word = word; high = high; low = low } in
    let at : (t : Bool) → eqb count number ≡ t → FollowsChange (cond t (part_change c part) (Old (variables.Slot number part))) before (part_of part (get_or (rest ++ n ∷ []) number 0)) =
    elim [
      | true ↦ λ q.
          let same : count ≡ number = eqb-true _ _ q in
          let value : get_or (rest ++ n ∷ []) number 0 ≡ n = get_or_push rest n 0 number (sym e ∙ same) in
          subst (λ (x : ℕ). FollowsChange (part_change c part) before (part_of part x)) (sym value) (of_part part)
      | false ↦ λ q.
          let other : count ≢ number = search rules in
          let inside : number < length rest = omega arith in
          let value : get_or (rest ++ n ∷ []) number 0 ≡ get_or rest number 0 = get_or_append_left rest (n ∷ []) 0 number inside in
          subst (λ (x : ℕ). FollowsChange (Old (variables.Slot number part)) before (part_of part x)) (sym value) (f number inside)
    ] in
    at (eqb count number) refl
  where
    of_part : (part : Part) → FollowsChange (part_change (let c : SlotChange = record { number = count; word = word; high = high; low = low } in c) part) before (part_of part n)
    of_part Word = p.of_word
    of_part High = p.of_high
    of_part Low = p.of_low

-- variables that are not of slots are those of the registers
slots_apart : (effect : Effect) (slot : Option SlotChange) (before : Valuation) (d : DraftView) (stack other : List ℕ)
    → ((v : Variable) → IsThere (length stack) v → FollowsChange (change_of effect v) before (value_in (seen_by_draft d stack) v))
    → ((number : ℕ) (part : Part) → number < length other → FollowsChange (slot_change slot number part) before (part_of part (get_or other number 0)))
    → (v : Variable) → IsThere (length other) v → FollowsChange (change_of (record effect { slot = slot }) v) before (value_in (seen_by_draft d other) v)
slots_apart effect slot before d stack other f g (variables.Slot number part) i = g number part i
slots_apart effect slot before d stack other f g v i = f v tt

-- ---- pushes, pops and replacements of the top

module _ (g : GroundView) (start : AbsState) (k : AbsDraft) (entry : Entry) (before : Valuation) (d : DraftView) where
  untouched : (stack : List ℕ) → Fits g start k entry before d stack → k.effect.slot ≡ None → (m : ℕ) (part : Part) → m < length stack → FollowsChange (Old (variables.Slot m part)) before (part_of part (get_or stack m 0))
  untouched stack f none m part i =
      let h : FollowsChange (slot_change k.effect.slot m part) before (part_of part (get_or stack m 0)) = f.follows (variables.Slot m part) i in
      subst (λ (c : Option SlotChange). FollowsChange (slot_change c m part) before (part_of part (get_or stack m 0))) none h

  push_pair_done : (stack : List ℕ) (pair : Pair) (word high low : Change) (n : ℕ) → HoldsPair pair entry n → PartsFollow word high low before n → k.effect.slot ≡ None → length k.state.shape < 64
      → Fits g start k entry before d stack → Fits g start (push_pair pair (record { word = word; high = high; low = low }) k) entry before d (stack ++ n ∷ [])
  push_pair_done stack pair word high low n h p none room f =
      let is_room : ltb (length k.state.shape) 64 ≡ true = search rules in
      let top : Slot = record { pair = pair } in
      let follow = slots_apart k.effect (written_slot (length k.state.shape) word high low) before d stack (stack ++ n ∷ []) f.follows
      (λ number part i. slot_follows word high low before stack n number (length k.state.shape) part (as_long k.state.shape entry stack f.shape) i p (λ m. untouched stack f none m part)) in
      rw is_room (record {
        regs = f.regs;
        operand_byte = f.operand_byte;
        pointer_word = f.pointer_word;
        pairs = f.pairs;
        flag = f.flag;
        shape = all_zipped_more (λ s w. HoldsSlot s entry w) k.state.shape stack top n f.shape h;
        operand = f.operand;
        pointer = f.pointer;
        pc = f.pc;
        follows = follow;
        writes = f.writes;
        mode = f.mode;
        armed = f.armed;
        readable = f.readable;
      })

  -- the number of a shape's last slot is the number of the words below the top
  last_number : (rest : List ℕ) (word : ℕ) → Fits g start k entry before d (rest ++ word ∷ []) → length k.state.shape - 1 ≡ length rest
  last_number rest word f =
      let longer : length (rest ++ word ∷ []) ≡ length rest + 1 = length-append rest (word ∷ []) in
      let same = as_long k.state.shape entry (rest ++ word ∷ []) f.shape in
      omega arith

  still : (rest : List ℕ) (word : ℕ) → Fits g start k entry before d (rest ++ word ∷ []) → (m : ℕ) (part : Part) → m < length rest → FollowsChange (slot_change k.effect.slot m part) before (part_of part (get_or rest m 0))
  still rest word f m part i =
      let longer : length (rest ++ word ∷ []) ≡ length rest + 1 = length-append rest (word ∷ []) in
      let inside : m < length (rest ++ word ∷ []) = omega arith in
      subst (λ (x : ℕ). FollowsChange (slot_change k.effect.slot m part) before (part_of part x)) (get_or_append_left rest (word ∷ []) 0 m i) (f.follows (variables.Slot m part) inside)

  pop_pair_done : (rest : List ℕ) (word : ℕ) → Fits g start k entry before d (rest ++ word ∷ []) → Fits g start (pop_pair k) entry before d rest
  pop_pair_done rest word f = record {
    regs = f.regs;
    operand_byte = f.operand_byte;
    pointer_word = f.pointer_word;
    pairs = f.pairs;
    flag = f.flag;
    shape = subst (λ (n : ℕ). HoldsShape (take n k.state.shape) entry rest) (sym (last_number rest word f)) (shape_popped k.state.shape entry rest word f.shape);
    operand = f.operand;
    pointer = f.pointer;
    pc = f.pc;
    follows = slots_apart k.effect k.effect.slot before d (rest ++ word ∷ []) rest f.follows (still rest word f);
    writes = f.writes;
    mode = f.mode;
    armed = f.armed;
    readable = f.readable;
  }

  put_last_done : (rest : List ℕ) (old : ℕ) (pair : Pair) (word high low : Change) (n : ℕ) → HoldsPair pair entry n → PartsFollow word high low before n → k.effect.slot ≡ None
      → Fits g start k entry before d (rest ++ old ∷ []) → Fits g start (put_last pair (record { word = word; high = high; low = low }) k) entry before d (rest ++ n ∷ [])
  put_last_done rest old pair word high low n h p none f =
      let top : Slot = record { pair = pair } in
      let place = last_number rest old f in
      let below : (m : ℕ) (part : Part) → m < length rest → FollowsChange (Old (variables.Slot m part)) before (part_of part (get_or rest m 0)) =
      λ m part i. subst (λ (c : Option SlotChange). FollowsChange (slot_change c m part) before (part_of part (get_or rest m 0))) none (still rest old f m part i) in
      record {
        regs = f.regs;
        operand_byte = f.operand_byte;
        pointer_word = f.pointer_word;
        pairs = f.pairs;
        flag = f.flag;
        shape = subst (λ (i : ℕ). HoldsShape (set k.state.shape i top) entry (rest ++ n ∷ [])) (sym place) (shape_replaced k.state.shape entry rest old n top h f.shape);
        operand = f.operand;
        pointer = f.pointer;
        pc = f.pc;
        follows = slots_apart k.effect (written_slot (length k.state.shape - 1) word high low) before d (rest ++ old ∷ []) (rest ++ n ∷ []) f.follows
            (λ number part i. slot_follows word high low before rest n number (length k.state.shape - 1) part place i p (λ m. below m part));
        writes = f.writes;
        mode = f.mode;
        armed = f.armed;
        readable = f.readable;
      }

  -- what is known of the last slot is true of the top word
  last_holds : (rest : List ℕ) (word : ℕ) → Fits g start k entry before d (rest ++ word ∷ []) → HoldsPair (last_slot k.state.shape).pair entry word
  last_holds rest word f =
      let there : get_or (rest ++ word ∷ []) (length k.state.shape - 1) 0 ≡ word = get_or_push rest word 0 _ (sym (last_number rest word f)) in
      subst (λ (n : ℕ). HoldsPair (last_slot k.state.shape).pair entry n) there (slot_held k.state.shape entry (rest ++ word ∷ []) (length k.state.shape - 1) f.shape)

  last_follows : (rest : List ℕ) (word : ℕ) → Fits g start k entry before d (rest ++ word ∷ [])
      → PartsFollow (slot_parts (length k.state.shape - 1) k.effect).word (slot_parts (length k.state.shape - 1) k.effect).high (slot_parts (length k.state.shape - 1) k.effect).low before word
  last_follows rest word f =
      let place = last_number rest word f in
      let longer : length (rest ++ word ∷ []) ≡ length rest + 1 = length-append rest (word ∷ []) in
      let inside : length k.state.shape - 1 < length (rest ++ word ∷ []) = omega arith in
      let there : get_or (rest ++ word ∷ []) (length k.state.shape - 1) 0 ≡ word = get_or_push rest word 0 _ (sym place) in
      let told : (part : Part) → FollowsChange (slot_change k.effect.slot (length k.state.shape - 1) part) before (part_of part word) =
      λ part. subst (λ (x : ℕ). FollowsChange (slot_change k.effect.slot (length k.state.shape - 1) part) before (part_of part x)) there (f.follows (variables.Slot (length k.state.shape - 1) part) inside) in
      record { of_word = told Word; of_high = told High; of_low = told Low }

-- ---- the moves

above_small : (sp n : ℕ) → above sp n < 65536
above_small sp n = omega arith

below_small : (sp n : ℕ) → below sp n < 65536
below_small sp n = omega arith

-- nothing is known of SP and of the accesses
sp_moved : {g : GroundView} {start : AbsState} {k : AbsDraft} {entry : Entry} {before : Valuation} {d : DraftView} {stack : List ℕ} (sp : ℕ) (accesses : List StackAccess) → sp < 65536 → Fits g start k entry before d stack
    → Fits g start k entry before (record (with_word words.Sp sp d) { stack = accesses }) stack
sp_moved {g = g} {start = start} {k = k} {entry = entry} {before = before} {d = d} {stack = stack} sp accesses small f =
    rest_changed (word_done words.Sp (full 65536) Unknown sp small (omega arith) refl f) d.has_read d.taken d.halts accesses

-- the changes of a slot and of a register pair are independent
take_keeps : (w : WordRegister) (pair : Pair) (word high low : Change) (k : AbsDraft) → ((put_known_pair w pair (record { word = word; high = high; low = low }) k).state.shape ≡ k.state.shape) × ((put_known_pair w pair (record { word = word; high = high; low = low }) k).effect.slot ≡ k.effect.slot)
take_keeps words.Af pair word high low k = (refl, refl)
take_keeps _ pair word high low k = (refl, refl)

module _ (g : GroundView) (start : AbsState) (o : Outside) (k : AbsDraft) (entry : Entry) (before : Valuation) (d : DraftView) where
  pushed_done : (stack : List ℕ) (w : WordRegister) → k.effect.slot ≡ None → length k.state.shape < 64 → Fits g start k entry before d stack
      → Fits g start (push_pair (known_pair w k) (known_parts_of w k.effect) k) entry before (pushed_word (draft_word w d) d) (stack ++ draft_word w d ∷ [])
  pushed_done stack w none room f =
      let n = draft_word w d in
      let pair = pair_holds g start k entry before d stack f w in
      let parts = parts_follow g start k entry before d stack f w in
      let moved_sp = sp_moved (below d.regs.sp 2) (stack_written (below d.regs.sp 2) (n % 256) (stack_written (below d.regs.sp 1) (n / 256) d)).stack (below_small d.regs.sp 2) f in
      push_pair_done g start k entry before (pushed_word n d) stack (known_pair w k) (known_parts_of w k.effect).word (known_parts_of w k.effect).high (known_parts_of w k.effect).low n pair parts none room moved_sp

  -- a push, except that of a call that is not inline
  pub push_fits : (inline : Bool) (stack : List ℕ) (w : WordRegister) → (w ≡ words.Pc → inline ≡ true) → k.effect.slot ≡ None → length k.state.shape < 64 → Fits g start k entry before d stack
      → Fits g start (after_move g inline (Push w) k) entry before (moved o (Push w) d) (stack ++ draft_word w d ∷ [])
  unfolding after_move moved
  push_fits inline stack words.Pc only none room f = rw (only refl) (pushed_done stack words.Pc none room f)
  push_fits inline stack w only none room f = pushed_done stack w none room f

  pub call_fits : (stack : List ℕ) → Fits g start k entry before d stack → Fits g start (after_move g false (Push words.Pc) k) entry before (moved o (Push words.Pc) d) stack
  unfolding after_move moved
  call_fits stack f =
      let n = d.regs.pc in
      sp_moved (below d.regs.sp 2) (stack_written (below d.regs.sp 2) (n % 256) (stack_written (below d.regs.sp 1) (n / 256) d)).stack (below_small d.regs.sp 2) f

  -- the top word goes into a register, whatever the accesses
  taken_done : (rest : List ℕ) (word : ℕ) (w : WordRegister) (e : DraftView) → word < 65536 → word_read o e.has_read d.regs.sp ≡ word → Fits g start k entry before e (rest ++ word ∷ [])
      → Fits g start (take_slot w k) entry before (read_word o w d.regs.sp e) (rest ++ word ∷ [])
  taken_done rest word w e small found f =
      let n = word_read o e.has_read d.regs.sp in
      let parts = slot_parts (length k.state.shape - 1) k.effect in
      let pair : HoldsPair (last_slot k.state.shape).pair entry n = rw found (last_holds g start k entry before e rest word f) in
      let follow : PartsFollow parts.word parts.high parts.low before n = rw found (last_follows g start k entry before e rest word f) in
      let brought = pair_done g start k entry before e (rest ++ word ∷ []) (last_slot k.state.shape).pair parts.word parts.high parts.low n (rw found small) pair follow f w in
      let new = with_word w n e in
      rest_changed brought true new.taken new.halts new.stack

  pub pop_fits : (inline : Bool) (rest : List ℕ) (word : ℕ) (w : WordRegister) → word < 65536 → word_read o d.has_read d.regs.sp ≡ word → Fits g start k entry before d (rest ++ word ∷ [])
      → Fits g start (after_move g inline (Pop w) k) entry before (moved o (Pop w) d) rest
  unfolding after_move moved
  pop_fits inline rest word w small found f =
      let e = with_word words.Sp (above d.regs.sp 2) (stack_read (above d.regs.sp 1) (stack_read d.regs.sp d)) in
      let moved_sp : Fits g start k entry before e (rest ++ word ∷ []) = sp_moved (above d.regs.sp 2) e.stack (above_small d.regs.sp 2) f in
      pop_pair_done g start (take_slot w k) entry before (read_word o w d.regs.sp e) rest word (taken_done rest word w e small found moved_sp)

  pub exchange_fits : (inline : Bool) (rest : List ℕ) (word : ℕ) (w : WordRegister) → word < 65536 → word_read o d.has_read d.regs.sp ≡ word → k.effect.slot ≡ None → Fits g start k entry before d (rest ++ word ∷ [])
      → Fits g start (after_move g inline (ExchangeStack w) k) entry before (moved o (ExchangeStack w) d) (rest ++ draft_word w d ∷ [])
  unfolding after_move moved
  exchange_fits inline rest word w small found none f =
      let n = draft_word w d in
      let e = stack_written (above d.regs.sp 1) (n / 256) (stack_written d.regs.sp (n % 256) d) in
      let written : Fits g start k entry before e (rest ++ word ∷ []) = rest_changed f d.has_read d.taken d.halts e.stack in
      let parts = slot_parts (length k.state.shape - 1) k.effect in
      let kept = take_keeps w (last_slot k.state.shape).pair parts.word parts.high parts.low k in
      put_last_done g start (take_slot w k) entry before (read_word o w d.regs.sp e) rest word (known_pair w k) (known_parts_of w k.effect).word (known_parts_of w k.effect).high (known_parts_of w k.effect).low n
      (pair_holds g start k entry before d (rest ++ word ∷ []) f w) (parts_follow g start k entry before d (rest ++ word ∷ []) f w) (kept.1 ∙ none) (taken_done rest word w e small found written)

-- ---- a return without a word of its own on the stack

empty_popped : (slots : List Slot) (entry : Entry) → HoldsShape slots entry [] → HoldsShape (without_last slots) entry []
empty_popped [] entry h = tt
empty_popped (s ∷ ss) entry h = absurd h

nothing_known : (slots : List Slot) (entry : Entry) (n : ℕ) → n < 65536 → HoldsShape slots entry [] → HoldsPair (last_slot slots).pair entry n
nothing_known [] entry n small h = record { word = omega arith; high = omega arith; low = omega arith; origin = tt }
nothing_known (s ∷ ss) entry n small h = absurd h

pub return_fits : (g : GroundView) (start : AbsState) (o : Outside) (inline : Bool) (k : AbsDraft) (entry : Entry) (before : Valuation) (d : DraftView) → word_read o d.has_read d.regs.sp < 65536 → Fits g start k entry before d []
    → Fits g start (after_move g inline (Pop words.Pc) k) entry before (moved o (Pop words.Pc) d) []
unfolding after_move moved
return_fits g start o inline k entry before d small f =
    let n = word_read o d.has_read d.regs.sp in
    let e = with_word words.Sp (above d.regs.sp 2) (stack_read (above d.regs.sp 1) (stack_read d.regs.sp d)) in
    let moved_sp : Fits g start k entry before e [] = sp_moved (above d.regs.sp 2) e.stack (above_small d.regs.sp 2) f in
    let came = pair_done g start k entry before e [] (last_slot k.state.shape).pair Unknown Unknown Unknown n small (nothing_known k.state.shape entry n small f.shape) (record { of_word = refl; of_high = refl; of_low = refl }) moved_sp words.Pc in
    let new = with_word words.Pc n e in
    let done = rest_changed came true new.taken new.halts new.stack in
    record {
      regs = done.regs;
      operand_byte = done.operand_byte;
      pointer_word = done.pointer_word;
      pairs = done.pairs;
      flag = done.flag;
      shape = empty_popped k.state.shape entry f.shape;
      operand = done.operand;
      pointer = done.pointer;
      pc = done.pc;
      follows = done.follows;
      writes = done.writes;
      mode = done.mode;
      armed = done.armed;
      readable = done.readable;
    }
