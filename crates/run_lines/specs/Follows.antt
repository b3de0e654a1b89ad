-- Helper: how the tracer follows a run event by event.
use Rattle.std.specs.Prelude.{ℕ, ◌-◌, ◌<◌, ◌≤◌, ◌≡◌, ◌≢◌, Bool, true, List, [], length, slice_get, Option, Some, None, Ok}
use Rattle.board_step.specs.Context.{context_of}
use Rattle.board_fetch.specs.Decoded.{StandsAt}
use Rattle.board_step.specs.Hardware.{Hardware}
use Rattle.board_step.specs.Kind.{kind_of}
use Rattle.board_step.specs.Run.{AcceptsAt, ReturnsTo, Run, time_before}
use Rattle.z80_actions.specs.Returns.{is_return}
use Rattle.board_step.specs.State.{BoardView}
use Rattle.board_step.specs.Step.{instr_draft}
use Rattle.board_step.specs.declared.env.Env.{Env}
use Rattle.board_step.specs.declared.event.Kind.{Kind}
use Rattle.board_step.specs.declared.event.Kind.TheVariants as kinds
use Rattle.run_lines.specs.Lines.{acceptance_line, return_line}
use Rattle.run_lines.specs.Told.{TellsUpTo}
use Rattle.run_lines.specs.declared.teller.Moment.{Moment}
use Rattle.run_lines.specs.declared.teller.Note.{Note}
use Rattle.run_lines.specs.declared.teller.Note.TheVariants as notes
use Rattle.run_lines.specs.declared.teller.Teller.{Teller}
use Rattle.z80_decode.specs.declared.instr.Instr.{Instr}

-- an event from one moment to another: its report, and the routine that runs before it and after it
pub data Follows (running : Option Moment) (kind : Kind) (before after : Moment) (returned : Bool) (note : Note) (next : Option Moment) : Type 0 where
  begins : kind ≡ kinds.Accept → note ≡ notes.Begins → next ≡ Some before → Follows running kind before after returned note next
  ends : (began : Moment) → kind ≢ kinds.Accept → running ≡ Some began → returned ≡ true → after.sp ≡ began.sp → note ≡ notes.Ends (after.time - began.time) → next ≡ None → Follows running kind before after returned note next
  goes_on : (began : Moment) → kind ≢ kinds.Accept → running ≡ Some began → (returned ≡ true → after.sp ≢ began.sp) → note ≡ notes.Nothing → next ≡ running → Follows running kind before after returned note next
  stays : kind ≢ kinds.Accept → running ≡ None → note ≡ notes.Nothing → next ≡ running → Follows running kind before after returned note next

-- whether the event from a state is an instruction that returns
pub record SaysReturned (hardware : Hardware) (s : BoardView) (env : Env) (returned : Bool) : Type 0 where
  pub is : kind_of s ≡ kinds.Instr → (instr : Instr) → StandsAt hardware.rom s.regs.pc (Ok instr) → returned ≡ is_return instr (instr_draft (context_of hardware s env) instr).taken
  pub none : returned ≡ true → kind_of s ≡ kinds.Instr

-- the line of a note
abbrev pub line_of_note : ℕ → ℕ → Note → List ℕ
line_of_note number at notes.Nothing = []
line_of_note number at notes.Begins = acceptance_line number at
line_of_note number at (notes.Ends spent) = return_line number spent

-- before event `n` an NMI routine runs that an earlier event began
pub record IsOpen {hardware : Hardware} (run : Run hardware) (n : ℕ) (began : Moment) : Type 0 where
  pub from : ℕ
  pub accepts : AcceptsAt run from
  pub earlier : from < n
  pub unended : (j : ℕ) → j < n → ReturnsTo run from j → ⊥
  pub sp : began.sp ≡ (run.state_at from).regs.sp
  pub time : began.time ≡ time_before run from

-- each acceptance before an event was returned from before it
pub record AllReturned {hardware : Hardware} (run : Run hardware) (n : ℕ) : Type 0 where
  pub each : (from : ℕ) → from < n → AcceptsAt run from → (j : ℕ) × (j < n) × ReturnsTo run from j

-- whether a routine runs before an event, and since when
abbrev pub Knows : {hardware : Hardware} → Run hardware → ℕ → Option Moment → Type 0
Knows run n (Some began) = IsOpen run n began
Knows run n None = AllReturned run n

-- a run begins in this state and with these environments
pub record RunsFrom {hardware : Hardware} (run : Run hardware) (start : BoardView) (envs : List Env) : Type 0 where
  pub starts : run.state_at 0 ≡ start
  pub count : length envs ≤ run.count
  pub envs_are : (i : ℕ) (env : Env) → slice_get envs i ≡ Some env → run.env_at i ≡ env

-- a run after `n` events: its state, the lines so far, and what the tracer has
pub record StandsAfter {hardware : Hardware} (run : Run hardware) (n : ℕ) (text : List ℕ) (s : BoardView) (teller : Teller) : Type 0 where
  pub state : run.state_at n ≡ s
  pub told : TellsUpTo run n text
  pub knows : Knows run n teller.running
  pub time : time_before run n ≡ teller.time
  pub events : n ≡ teller.events

-- this is so on each run that begins so
pub record HasTold (hardware : Hardware) (start : BoardView) (envs : List Env) (text : List ℕ) (s : BoardView) (teller : Teller) : Type 0 where
  pub on : (run : Run hardware) → RunsFrom run start envs → StandsAfter run (length envs) text s teller
