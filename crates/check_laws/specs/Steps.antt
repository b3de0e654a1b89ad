-- How a chain of activations executes an instruction, before its T-states pass (docs/CHECKER.md, "Activations").
use Rattle.std.specs.Prelude.{ℕ, ◌≤◌, ◌≡◌, Bool, true, false, List, [], ◌∷◌, Ok, None, pos, ◌+ℤ◌, ◌≤ℤ◌}
use Rattle.z80_decode.specs.declared.instr.Instr.{Instr}
use Rattle.board_step.specs.Context.{ContextView, context_of}
use Rattle.board_fetch.specs.Decoded.{StandsAt}
use Rattle.z80_actions.specs.Returns.{is_return}
use Rattle.board_step.specs.State.{BoardView}
use Rattle.board_step.specs.Step.{done, instr_draft, t_of}
use Rattle.board_step.specs.Trap.{trap_of_instr}
use Rattle.board_step.specs.declared.env.Env.{Env}
use Rattle.board_laws.specs.Board.{HasWords}
use Rattle.abs_state.specs.Holds.{Holds}
use Rattle.abs_state.specs.declared.mode.Mode.TheVariants.{Nmi}
use Rattle.abs_state.specs.declared.state.AbsState.{AbsState}
use Rattle.abs_step.specs.Contained.{SameRegs, seen_of}
use Rattle.check_cover.specs.Program.{is_main}
use Rattle.check_cover.specs.declared.program.Callee.{Callee}
use Rattle.cert_form.specs.Contents.{CertificateView, map_of_board}
use Rattle.check_rules.specs.Table.{IsTimed}
use Rattle.check_ways.specs.Ways.{IsExit}
use Rattle.check_laws.specs.Placed.{Activations, ArePlaced, owed}
use Rattle.check_laws.specs.Board.{board_of}

-- the context of an instruction on the board of a certificate
abbrev pub at_board : List ℕ → CertificateView → BoardView → Env → ContextView
at_board rom cert s env = context_of (board_of rom cert) s env

-- The chain continues: its running activation goes on, calls, or returns to the one that waits; after a restart main's
-- alone goes on. It pays the instruction's T-states.
pub record Stays (rom : List ℕ) (cert : CertificateView) (lowest : Callee) (under : List ℕ) (c : Activations) (s new : BoardView) (t : ℕ) : Type 0 where
  pub next : Activations
  pub placed : ArePlaced rom cert lowest under next new
  pub first : next.first ≡ c.first
  pub nmi : c.row.state.mode ≡ Nmi → next.row.state.mode ≡ Nmi
  pub pays : IsTimed lowest.proc → (pos t +ℤ owed cert next new) ≤ℤ owed cert c s

-- Its lowest activation leaves by an exit: it returns to the address under the chain, and leaves what lies under that.
pub record Leaves (rom : List ℕ) (cert : CertificateView) (lowest : Callee) (under : List ℕ) (c : Activations) (s new : BoardView) (t : ℕ) (returning : Bool) : Type 0 where
  pub returns : returning ≡ true
  pub exit : AbsState
  pub is : IsExit rom cert lowest.number exit
  pub not_main : is_main lowest.number ≡ false
  pub holds : Holds exit cert.cells c.first (seen_of cert.cells [] new)
  pub nmi : c.row.state.mode ≡ Nmi → exit.mode ≡ Nmi
  pub arms : c.row.state.armed ≤ exit.armed
  pub rest : List ℕ
  pub under_is : under ≡ new.regs.pc ∷ rest
  pub laid : HasWords (map_of_board cert) cert.region new rest
  pub same : SameRegs s.regs new.regs
  pub enable : new.enable ≡ s.enable
  pub pays : IsTimed lowest.proc → pos t ≤ℤ owed cert c s

-- the chain continues or leaves
pub data TakesInstruction (rom : List ℕ) (cert : CertificateView) (lowest : Callee) (under : List ℕ) (c : Activations) (s new : BoardView) (t : ℕ) (returning : Bool) : Type 0 where
  stays : Stays rom cert lowest under c s new t → TakesInstruction rom cert lowest under c s new t returning
  leaves : Leaves rom cert lowest under c s new t returning → TakesInstruction rom cert lowest under c s new t returning

-- An instruction stands at the board's address and meets no trap; the chain executes it and leaves only by a return. If
-- the certificate has no NMI routine, a clear NMI enable stays clear. A procedure with a time neither halts nor changes
-- I.
pub record Executed (rom : List ℕ) (cert : CertificateView) (lowest : Callee) (under : List ℕ) (c : Activations) (s : BoardView) (env : Env) : Type 0 where
  pub instr : Instr
  pub stands : StandsAt rom s.regs.pc (Ok instr)
  pub safe : trap_of_instr cert.region (at_board rom cert s env) instr ≡ None
  pub takes : TakesInstruction rom cert lowest under c s (done (at_board rom cert s env) instr) (t_of (at_board rom cert s env) instr)
      (is_return instr (instr_draft (at_board rom cert s env) instr).taken)
  pub clear : cert.budget ≡ None → s.enable ≡ false → (done (at_board rom cert s env) instr).enable ≡ false
  pub halts : IsTimed c.of.proc → (done (at_board rom cert s env) instr).halted ≡ false
  pub keeps_i : IsTimed c.of.proc → (done (at_board rom cert s env) instr).regs.i ≡ s.regs.i
