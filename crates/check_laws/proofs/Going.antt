-- What the rules give a chain before an instruction: the callee of a call, room, and that the instruction is in order.
use Rattle.std.proofs.Common.{◌≡◌, ◌≢◌, ◌≤◌, ◌+◌, ◌*◌, ◌∙◌, ◌⊎◌, inl, inr, ℕ, Bool, true, false, List, [], ◌++◌, length, get_or, slice_get, Contains, Option, Some, None, Ok, refl, sym, ap, subst, arith}
use Rattle.std.specs.List.{All}
use Rattle.std.specs.Prelude.{IfSome, pos}
use Rattle.z80_alu.specs.declared.regs.Regs.{Regs}
use Rattle.z80_draft.specs.Registers.{IsRegs}
use Rattle.board_fetch.specs.Decoded.{StandsAt}
use Rattle.board_step.specs.Env.{IsEnv}
use Rattle.board_step.specs.State.{IsState, BoardView}
use Rattle.board_step.specs.Step.{done}
use Rattle.board_step.specs.declared.env.Env.{Env}
use Rattle.board_step.proofs.StateRangeLemmas.{done_keeps}
use Rattle.board_laws.specs.Region.{HasRoom}
use Rattle.abs_laws.specs.Writes.{MissesRegion}
use Rattle.abs_state.specs.Entries.{callee_entry}
use Rattle.abs_state.specs.Pairs.{HoldsPairs, entry_of}
use Rattle.abs_step.specs.Contained.{After, Before, IsInOrder, IsUnder, Running, SetsTop, seen_of}
use Rattle.abs_step.specs.declared.next.Next.{Next}
use Rattle.abs_step.specs.declared.next.NextKind.TheVariants as kinds
use Rattle.abs_step.specs.declared.reason.Reason.TheVariants as reasons
use Rattle.abs_step.proofs.Keeps.{keeps}
use Rattle.abs_step.specs.Successors.{operand_of}
use Rattle.abs_state.specs.Seen.{Seen}
use Rattle.abs_state.specs.Variables.{range_of, value_in}
use Rattle.check_claims.proofs.RegisterLemmas.{after_named}
use Rattle.flag_conditions.proofs.True.{conditions_true}
use Rattle.flag_conditions.specs.Conditions.{conditions_of}
use Rattle.flag_parts.specs.Carry.{known_carry}
use Rattle.intervals.specs.Range.{RangeView}
use Rattle.linear_effects.proofs.CarriedRanges.{table_ranges_true}
use Rattle.linear_effects.proofs.Each.{effects_true}
use Rattle.linear_effects.specs.Carried.{carried_range}
use Rattle.linear_effects.specs.Effects.{effect_of}
use Rattle.linear_effects.specs.declared.variable_effect.LinearEffect.{LinearEffect}
use Rattle.loop_bounds.specs.declared.effect.Effect.{Effect}
use Rattle.refined_step.proofs.Assembled.{answered_keeps}
use Rattle.refined_step.specs.Conditionals.{NarrowsSoundly}
use Rattle.refined_step.specs.Kept.{AreTrueOfStep}
use Rattle.z80_decode.specs.declared.kinds.Condition.{Condition}
use Rattle.check_cover.specs.Covering.{Covered}
use Rattle.check_cover.specs.Program.{IsRowAt, callee_at, ground_for, is_inline, is_main}
use Rattle.check_cover.specs.declared.program.Callee.{Callee}
use Rattle.cert_lines.specs.declared.row.Row.{Row}
use Rattle.cert_lines.specs.declared.version.Version.{Version}
use Rattle.cert_lines.specs.declared.version.Version.TheVariants.{One, Two, Three}
use Rattle.cert_form.specs.Contents.{CertificateView, map_of_board}
use Rattle.check_rules.specs.Table.{HasNoStack, FitsDepth, RestartsAtTop, entry_bytes}
use Rattle.check_steps.specs.Told.{refinement_by}
use Rattle.check_ways.specs.Ways.{CallsCallee, EntersCallee, GoesOn, SubjectView, arrival_at_entry as entry_arrival, nexts_from, restarts, step_by, told_of, writes_from}
use Rattle.check_laws.proofs.EntryLemmas.{all_own}
use Rattle.check_laws.proofs.InForm.{RowInForm, parts_in_form, row_in_form}
use Rattle.check_laws.proofs.LandingLemmas.{has_row}
use Rattle.check_laws.proofs.Narrowing.{narrows, parts_linear, tells_carry}
use Rattle.check_laws.specs.Comes.{CameBy, CameRefinedIfSome}
use Rattle.check_laws.specs.RowHolds.{value_at}
use Rattle.check_laws.specs.Chain.{AcceptsInForm, waiting_words}
use Rattle.check_laws.specs.Placed.{Activations, ArePlaced, Under, seen_by}
use Rattle.check_laws.specs.Steps.{at_board}
use Rattle.check_laws.proofs.Boards.{are_placed, fits_len, is_region}
use Rattle.check_laws.proofs.Depth.{chain_under, room_by}
use Rattle.check_laws.proofs.Judging.{Judged, judge, listed_at, subject_of}
use Rattle.check_laws.proofs.Procs.{IsFound, found}

-- a call of a row, and its callee
pub record Entering (s : SubjectView) (n : Next) : Type 0 where
  pub callee : Callee
  pub calls : CallsCallee s n callee
  pub found : IsFound s.cert n.address callee
  pub covered : Covered s.cert (entry_arrival s n callee) (callee_entry n.state)

pub entering : (s : SubjectView) → GoesOn s → (n : Next) → Contains (nexts_from s) n → n.kind ≡ kinds.Call → Entering s n
entering s goes n listed kind = by (callee_at s.cert n.address) refl (goes.entries n listed kind)
  where
    by : (o : Option Callee) → callee_at s.cert n.address ≡ o → EntersCallee s n o → Entering s n
    by None e h = absurd h
    by (Some callee) e h = record { callee = callee; calls = record { leads = listed; kind = kind; called = e }; found = found s.cert n.address callee e; covered = h }

-- a procedure with a row has room for its return address
pub callee_deep : (rom : List ℕ) (cert : CertificateView) → AcceptsInForm rom cert → (address : ℕ) (callee : Callee) → IsFound cert address callee → (row : Row) → IsRowAt cert callee.number address row → 2 ≤ callee.proc.depth
callee_deep rom cert acc address callee f row at =
    let j = judge rom cert row callee.proc acc at.listed (ap (slice_get cert.procs) at.of ∙ f.has) in
    let deep : FitsDepth (subject_of rom cert row callee.proc j.instr) = j.consistent reasons.StackDepth in
    let fits : entry_bytes callee.proc.kind + 2 * length row.state.shape ≤ callee.proc.depth = deep.row in
    let two : entry_bytes callee.proc.kind ≡ 2 = ap entry_bytes f.sub in
    omega arith

module _ (rom : List ℕ) (cert : CertificateView) (acc : AcceptsInForm rom cert) (lowest : Callee) (under : List ℕ) (u : Under cert lowest under) (c : Activations) (s : BoardView) (env : Env) (numbers : IsState s) (is_env : IsEnv env) (p : ArePlaced rom cert lowest under c s) (j : Judged rom cert c.row c.of.proc) where
  abbrev pub subject : SubjectView
  subject = subject_of rom cert c.row c.of.proc j.instr

  abbrev pub running : Running
  running = record { main = is_main c.row.proc; entry = c.entry; words = c.words; under = waiting_words c.waiting ++ under }

  pub goes : GoesOn subject
  goes = j.consistent reasons.NotCovered

  pub deep : FitsDepth subject
  deep = j.consistent reasons.StackDepth

  pub stands : StandsAt rom s.regs.pc (Ok j.instr)
  stands = subst (λ (at : ℕ). StandsAt rom at (Ok j.instr)) (sym p.pc) j.stands

  pub numbers_after : IsState (done (at_board rom cert s env) j.instr)
  numbers_after = done_keeps (at_board rom cert s env) j.instr (record { rom = acc.bytes; state = numbers; env = is_env }) stands

  under_here : IsUnder (is_main c.row.proc) (waiting_words c.waiting ++ under)
  under_here = subst (λ (n : ℕ). IsUnder (is_main n) (waiting_words c.waiting ++ under)) (sym p.is_of) (chain_under rom cert lowest c.first c.of c.entry c.waiting under p.chain u.lowest_is)

  room : (k : ℕ) → entry_bytes c.of.proc.kind + 2 * k ≤ c.of.proc.depth → HasRoom cert.region (k + length (waiting_words c.waiting ++ under))
  room k fits = room_by rom cert lowest c.first c.of c.entry c.waiting under p.chain u k fits

  room_call : (n : Next) → Contains (nexts_from subject) n → n.kind ≡ kinds.Call → (regs : Regs) → IsRegs regs → HoldsPairs n.state.pairs c.entry regs → HasRoom cert.region (1 + (length n.state.shape + length (waiting_words c.waiting ++ under)))
  room_call n listed kind regs i h =
      let e = entering subject goes n listed kind in
      let r = has_row cert (entry_arrival subject n e.callee) (callee_entry n.state) (entry_of regs) regs i (all_own n.state.pairs c.entry regs h) e.covered in
      let two = callee_deep rom cert acc n.address e.callee e.found r.0 r.1 in
      let fits : entry_bytes c.of.proc.kind + 2 * length n.state.shape + e.callee.proc.depth ≤ c.of.proc.depth = deep.calls n e.callee e.calls in
      let long : HasRoom cert.region ((1 + length n.state.shape) + length (waiting_words c.waiting ++ under)) = room (1 + length n.state.shape) (omega (arith, two, fits)) in
      omega (arith, long)

  overwrites : HasNoStack subject ⊎ All (MissesRegion (map_of_board cert) cert.region) (writes_from subject) → ((is_main c.row.proc ≡ true) → c.row.state.shape ≢ []) → All (MissesRegion (map_of_board cert) cert.region) (writes_from subject)
  overwrites (inl none) some = absurd (some none.main none.empty)
  overwrites (inr all) some = all

  sets_top : restarts subject ≡ false → SetsTop (is_main c.row.proc) cert.region j.instr ⊎ RestartsAtTop subject j.instr → SetsTop (is_main c.row.proc) cert.region j.instr
  sets_top plain (inl sets) = sets
  sets_top plain (inr restart) = let both : false ≡ true = sym plain ∙ restart.0 in absurd (cc)

  in_order : restarts subject ≡ false → IsInOrder (ground_for rom cert) cert.region running c.row.state j.instr (writes_from subject) (nexts_from subject)
  in_order plain = record {
    overwrites = overwrites (j.consistent reasons.StackOverwrite);
    enables = j.consistent reasons.NmiBeforeStack;
    sets = λ sets. sets_top plain (j.consistent reasons.SpWrite j.instr refl sets);
    keeps = j.consistent reasons.CellRange;
    jumps = λ k d within kind. room (length (get_or (nexts_from subject) k d).state.shape) (deep.nexts (get_or (nexts_from subject) k d) (listed_at (nexts_from subject) k d within));
    calls = λ k d within kind regs i h. room_call (get_or (nexts_from subject) k d) (listed_at (nexts_from subject) k d within) kind regs i h;
  }

  pub is_before : Before cert.cells cert.region running c.row.state (at_board rom cert s env)
  is_before = record {
    numbers = numbers;
    env = is_env;
    rom = acc.bytes;
    rom_len = fits_len rom cert acc;
    is_region = is_region rom cert acc;
    kept = are_placed rom cert acc;
    under = under_here;
    holds = p.holds.state;
    laid = p.laid;
  }

  -- what version 3 tells of the step is true
  abbrev pub IsTrueOfStep : Version → Type 0
  IsTrueOfStep One = Unit {0}
  IsTrueOfStep Two = Unit {0}
  IsTrueOfStep Three = AreTrueOfStep (told_of subject (Ok j.instr)).conditions (told_of subject (Ok j.instr)).linear (seen_by cert c s) (done (at_board rom cert s env) j.instr).regs

  abbrev AfterHere : Type 0
  AfterHere = After cert.cells cert.region running c.row.state j.instr (writes_from subject) (nexts_from subject) (at_board rom cert s env)

  in_form_here : RowInForm cert c.row
  in_form_here = row_in_form cert acc.form c.row p.listed

  narrows_here : (condition : Condition) → NarrowsSoundly condition c.row.parts c.row.state
  narrows_here condition =
      narrows condition c.row.parts (parts_linear (length c.row.state.shape) c.row.parts (parts_in_form cert.version c.row in_form_here.of.form) in_form_here.short.parts.short) c.row.state

  -- the carry that the row's parts tell, and the byte in work
  carry_here : Option Bool
  carry_here = known_carry (range_of c.row.state) c.row.parts

  byte_here : RangeView
  byte_here = operand_of (ground_for rom cert) c.row.address (is_inline cert c.row.address) c.row.state j.instr

  after_by : (version : Version) → step_by version subject j.instr ≡ Ok (nexts_from subject) → restarts subject ≡ false → AfterHere × IsTrueOfStep version
  unfolding carry_here byte_here
  after_by One step plain = (keeps (ground_for rom cert) c.row.address (is_main c.row.proc) (is_inline cert c.row.address) c.row.state j.instr (nexts_from subject) in_form_here.short.shape j.stands step cert.region running (at_board rom cert s env) refl p.pc refl is_before (in_order plain), tt)
  after_by Two step plain = (keeps (ground_for rom cert) c.row.address (is_main c.row.proc) (is_inline cert c.row.address) c.row.state j.instr (nexts_from subject) in_form_here.short.shape j.stands step cert.region running (at_board rom cert s env) refl p.pc refl is_before (in_order plain), tt)
  after_by Three step plain =
      answered_keeps (ground_for rom cert) c.row.address (is_main c.row.proc) (is_inline cert c.row.address) c.row.state j.instr c.row.parts (nexts_from subject)
      byte_here carry_here (conditions_of j.instr byte_here c.row.parts carry_here) (effect_of j.instr c.row.state.pairs byte_here carry_here) (carried_range j.instr c.row.state.pairs byte_here carry_here)
      refl refl refl refl refl in_form_here.short.shape step (tells_carry c.row.parts c.row.state)
      (conditions_true j.instr byte_here c.row.parts carry_here) (effects_true j.instr c.row.state.pairs byte_here carry_here) (table_ranges_true _ j.instr c.row.state.pairs byte_here carry_here refl)
      (λ condition is. narrows_here condition) j.stands cert.region running (at_board rom cert s env) refl p.pc refl is_before p.holds.parts (in_order plain)

  -- what the instruction makes of the board, and what is told of it
  pub after : restarts subject ≡ false → AfterHere × IsTrueOfStep cert.version
  after plain = after_by cert.version j.step plain

  becomes_at : (o : Option LinearEffect) (old now : Seen) (new : Regs) → now.regs ≡ new → IfSome o (λ e. (n : Seen) → n.regs ≡ new → pos (value_in n e.variable) ≡ value_at old e.linear) → IfSome o (λ e. pos (value_in now e.variable) ≡ value_at old e.linear)
  becomes_at None old now new same h = tt
  becomes_at (Some e) old now new same h = h now same

  -- so an arrival after the step has it too
  pub told_came : (version : Version) → IsTrueOfStep version → (moved : Effect) (words : List ℕ) → CameBy moved (seen_by cert c s) (seen_of cert.cells words (done (at_board rom cert s env) j.instr))
      → CameRefinedIfSome (refinement_by version (told_of subject (Ok j.instr)) moved) (seen_by cert c s) (seen_of cert.cells words (done (at_board rom cert s env) j.instr))
  told_came One told moved words came = tt
  told_came Two told moved words came = tt
  told_came Three told moved words came = record {
    moved = came;
    becomes = becomes_at (told_of subject (Ok j.instr)).linear (seen_by cert c s) (seen_of cert.cells words (done (at_board rom cert s env) j.instr)) (done (at_board rom cert s env) j.instr).regs refl told.becomes;
    told_before = told.before;
    told_after = told.after (seen_of cert.cells words (done (at_board rom cert s env) j.instr)) refl;
    registers = after_named j.instr _ _;
  }
