-- A row that holds of the board: what is known before the first move, and what a successor keeps.
use Rattle.std.proofs.Common.{◌≡◌, ◌≤◌, ◌+◌, ℕ, Bool, true, false, cond, List, [], ◌∷◌, length, Ok, refl, sym, ap, subst, arith}
use Rattle.intervals.specs.Range.{Within}
use Rattle.loop_bounds.specs.Effect.{change_of}
use Rattle.loop_bounds.specs.declared.variable.Variable.{Variable}
use Rattle.z80_decode.specs.Spelling.{spelling}
use Rattle.z80_decode.specs.declared.instr.Instr.{Instr}
use Rattle.z80_draft.specs.Draft.{draft_on, past}
use Rattle.z80_moves.specs.Moves.{moves_of}
use Rattle.address_map.specs.declared.region.Region.{Region}
use Rattle.board_step.specs.Context.{ContextView, context_of}
use Rattle.board_fetch.specs.Decoded.{StandsAt}
use Rattle.board_step.specs.Hardware.{hardware_of}
use Rattle.board_step.specs.Reads.{outside_of}
use Rattle.board_step.specs.State.{BoardView}
use Rattle.board_step.specs.Step.{done, instr_draft}
use Rattle.board_step.specs.declared.env.Env.{Env}
use Rattle.board_laws.proofs.Brought.{reaches}
use Rattle.abs_state.specs.Cell.{HoldsCells}
use Rattle.abs_state.specs.Fact.{HoldsFact}
use Rattle.abs_state.specs.Holds.{Holds, HoldsMode}
use Rattle.abs_state.specs.Pairs.{HoldsPairs}
use Rattle.abs_state.specs.Variables.{value_in}
use Rattle.abs_state.specs.declared.mode.Mode.{Mode}
use Rattle.abs_state.specs.declared.state.AbsState.{AbsState}
use Rattle.abs_draft.specs.Ground.{GroundView}
use Rattle.abs_draft.specs.AbsDraft.{written_state}
use Rattle.abs_draft.specs.declared.data_write.DataWrite.{DataWrite}
use Rattle.abs_draft.specs.Outcomes.{known_before, settled}
use Rattle.abs_draft.specs.declared.draft.AbsDraft.{AbsDraft}
use Rattle.abs_laws.specs.Cells.{bytes_of_cells}
use Rattle.abs_laws.specs.Fits.{Fits, FollowsChange, IsThere, ReadsFit, seen_by_draft, state_after_writes}
use Rattle.abs_laws.specs.Lists.{MayRun}
use Rattle.abs_laws.proofs.FirstKnown.{first_fits}
use Rattle.abs_laws.proofs.Ranges.{instruction_in_range}
use Rattle.abs_laws.proofs.Reading.{outside_fits}
use Rattle.abs_laws.proofs.Settled.{settled_follows}
use Rattle.abs_laws.proofs.Short.{short}
use Rattle.abs_step.specs.Contained.{Before, Running, seen_of}
use Rattle.abs_step.proofs.TameMoves.{IsOne}
use Rattle.abs_step.proofs.Uses.{value_same}

-- the board and the environment, on the hardware of the row
abbrev pub here : GroundView → BoardView → Env → ContextView
here g s env = context_of (hardware_of g.rom g.map) s env

-- the state of a finished successor holds of the board if its mode and its armed cells do
pub holds_after : (g : GroundView) (s : BoardView) (env : Env) (a : AbsState) (instr : Instr) (running : Running) (k : AbsDraft) (before : Variable → ℕ) (words : List ℕ)
    → Fits g a k running.entry before (instr_draft (here g s env) instr) words
    → HoldsMode (state_after_writes g k.writes.items a).mode (done (here g s env) instr).enable (done (here g s env) instr).line (done (here g s env) instr).latched
    → HoldsCells (state_after_writes g k.writes.items a).armed g.cells (bytes_of_cells g.cells (done (here g s env) instr))
    → Holds k.state g.cells running.entry (seen_of g.cells words (done (here g s env) instr))
holds_after g s env a instr running k before words f mode cells =
    let r = reaches g.map (instr_draft (here g s env) instr) s in
    record {
      mode = subst (λ (m : Mode). HoldsMode m (done (here g s env) instr).enable (done (here g s env) instr).line (done (here g s env) instr).latched) (sym f.mode) mode;
      cells_hold = subst (λ (n : ℕ). HoldsCells n g.cells (bytes_of_cells g.cells (done (here g s env) instr))) (sym f.armed) cells;
      pairs = subst (λ regs. HoldsPairs k.state.pairs running.entry regs) (sym r.regs) f.pairs;
      flag = subst (λ regs. HoldsFact k.state.flag regs) (sym r.regs) f.flag;
      shape = f.shape;
    }

-- its variables come from those before
pub through_after : (g : GroundView) (s : BoardView) (env : Env) (a : AbsState) (instr : Instr) (running : Running) (k : AbsDraft) (words : List ℕ)
    → Fits g a k running.entry (value_in (seen_of g.cells running.words s)) (instr_draft (here g s env) instr) words
    → (v : Variable) → IsThere (length words) v → FollowsChange (change_of (settled k.state k.effect) v) (value_in (seen_of g.cells running.words s)) (value_in (seen_of g.cells words (done (here g s env) instr)) v)
through_after g s env a instr running k words f v there =
    let r = reaches g.map (instr_draft (here g s env) instr) s in
    let same : value_in (seen_by_draft (instr_draft (here g s env) instr) words) v ≡ value_in (seen_of g.cells words (done (here g s env) instr)) v = value_same (seen_by_draft (instr_draft (here g s env) instr) words) (seen_of g.cells words (done (here g s env) instr)) (sym r.regs) refl v in
    subst (λ (n : ℕ). FollowsChange (change_of (settled k.state k.effect) v) (value_in (seen_of g.cells running.words s)) n) same (settled_follows g a k running.entry _ _ words f v there)

-- and so by the effect without priority for constants
pub moved_after : (g : GroundView) (s : BoardView) (env : Env) (a : AbsState) (instr : Instr) (running : Running) (k : AbsDraft) (words : List ℕ)
    → Fits g a k running.entry (value_in (seen_of g.cells running.words s)) (instr_draft (here g s env) instr) words
    → (v : Variable) → IsThere (length words) v → FollowsChange (change_of k.effect v) (value_in (seen_of g.cells running.words s)) (value_in (seen_of g.cells words (done (here g s env) instr)) v)
moved_after g s env a instr running k words f v there =
    let r = reaches g.map (instr_draft (here g s env) instr) s in
    let same : value_in (seen_by_draft (instr_draft (here g s env) instr) words) v ≡ value_in (seen_of g.cells words (done (here g s env) instr)) v = value_same (seen_by_draft (instr_draft (here g s env) instr) words) (seen_of g.cells words (done (here g s env) instr)) (sym r.regs) refl v in
    subst (λ (n : ℕ). FollowsChange (change_of k.effect v) (value_in (seen_of g.cells running.words s)) n) same (f.follows v there)

-- its address is the program counter
pub address_after : (g : GroundView) (s : BoardView) (env : Env) (a : AbsState) (instr : Instr) (running : Running) (k : AbsDraft) (before : Variable → ℕ) (words : List ℕ)
    → Fits g a k running.entry before (instr_draft (here g s env) instr) words → IsOne k.pc → (done (here g s env) instr).regs.pc ≡ k.pc.low
address_after g s env a instr running k before words f one =
    let r = reaches g.map (instr_draft (here g s env) instr) s in
    let pc : (done (here g s env) instr).regs.pc ≡ (instr_draft (here g s env) instr).regs.pc = ap (λ regs. regs.pc) r.regs in
    let within : Within k.pc (instr_draft (here g s env) instr).regs.pc = f.pc in
    let same : k.pc.low ≡ k.pc.high = one in
    omega arith

-- what is known before the first move holds, and the moves may run
pub record IsBegun (g : GroundView) (address : ℕ) (a : AbsState) (instr : Instr) (running : Running) (s : BoardView) (env : Env) : Type 0 where
  pub start : Fits g a (known_before address instr a) running.entry (value_in (seen_of g.cells running.words s)) (draft_on (past (length (spelling instr)) s.regs)) running.words
  pub run : MayRun g (outside_of (here g s env)) (known_before address instr a) (draft_on (past (length (spelling instr)) s.regs)) (moves_of instr)

pub begun : (g : GroundView) (address : ℕ) (a : AbsState) (instr : Instr) (region : Region) (running : Running) (s : BoardView) (env : Env)
    → s.regs.pc ≡ address → StandsAt g.rom address (Ok instr) → Before g.cells region running a (here g s env) → IsBegun g address a instr running s env
begun g address a instr region running s env at stands b =
    let reads : ReadsFit g (outside_of (here g s env)) a.armed = outside_fits g (here g s env) a.armed refl refl b.is_region.is_map b.rom_len b.rom b.numbers b.env b.holds.cells_hold in
    let few = short instr in
    record {
      start = first_fits g a address instr running.entry (seen_of g.cells running.words s) b.numbers.regs at b.holds.pairs b.holds.flag b.holds.shape;
      run = record { in_range = instruction_in_range g.rom address instr b.rom stands; room = omega (arith, few.writes); once = few.once; reads = reads };
    }

-- armed cells stay armed
one_armed : (b : Bool) (n : ℕ) → n ≤ cond b (n + 1) n
one_armed true n = omega arith
one_armed false n = omega arith

pub armed_stays : (g : GroundView) (ws : List DataWrite) (a : AbsState) → a.armed ≤ (state_after_writes g ws a).armed
armed_stays g [] a = omega arith
armed_stays g (w ∷ ws) a =
    let one : a.armed ≤ (written_state g w a).armed = one_armed _ a.armed in
    let rest = armed_stays g ws (written_state g w a) in
    omega arith

-- and so in a finished successor
pub armed_after_all : (g : GroundView) (a : AbsState) (k : AbsDraft) → k.state.armed ≡ (state_after_writes g k.writes.items a).armed → a.armed ≤ k.state.armed
armed_after_all g a k e = let h = armed_stays g k.writes.items a in omega arith
