-- Activations that wait at calls, and what each may rely on (docs/CHECKER.md, "Activations").
use Rattle.std.specs.Prelude.{ℕ, ◌+◌, ◌*◌, ◌≤◌, ◌≡◌, true, false, List, [], ◌∷◌, length, slice_get, Some, Ok, ℤ, pos, ◌+ℤ◌, ◌≤ℤ◌}
use Rattle.intervals.specs.Domain.{Entry}
use Rattle.intervals.specs.declared.reg_pair.RegPair.{RegPair}
use Rattle.z80_decode.specs.declared.instr.Instr.{Instr}
use Rattle.z80_draft.specs.Registers.{IsRegs}
use Rattle.board_step.specs.State.{AreBytes}
use Rattle.board_laws.specs.Words.{on_top}
use Rattle.abs_state.specs.Holds.{Holds}
use Rattle.abs_state.specs.Mode.{covers_mode}
use Rattle.abs_state.specs.Pairs.{entry_of}
use Rattle.abs_state.specs.Seen.{Seen}
use Rattle.abs_state.specs.declared.mode.Mode.{Mode}
use Rattle.abs_state.specs.declared.state.AbsState.{AbsState}
use Rattle.abs_step.specs.declared.next.Next.{Next}
use Rattle.check_cover.specs.Program.{IsRowAt, is_main}
use Rattle.check_cover.specs.declared.program.Callee.{Callee}
use Rattle.cert_lines.specs.declared.proc.ProcKind.TheVariants.{Sub}
use Rattle.cert_lines.specs.declared.row.Row.{Row}
use Rattle.cert_form.specs.Contents.{CertificateView}
use Rattle.cert_form.specs.Form.{IsInForm}
use Rattle.check_rules.specs.Acceptance.{Accepts}
use Rattle.check_rules.specs.Table.{IsTimed, entry_bytes}
use Rattle.check_ways.specs.Ways.{CallsCallee, IsExit, IsSubject, SubjectView, behind_of}
use Rattle.check_laws.specs.Comes.{resumed}
use Rattle.check_laws.specs.RowHolds.{RowHolds, worth}

-- a certificate in form is accepted for a ROM, whose elements are bytes
pub record AcceptsInForm (rom : List ℕ) (cert : CertificateView) : Type 0 where
  pub accepts : Accepts rom cert
  pub form : IsInForm cert
  pub bytes : AreBytes rom

-- the certificate has this procedure with this number
abbrev pub Has : CertificateView → Callee → Type 0
Has cert p = slice_get cert.procs p.number ≡ Some p.proc

-- an activation that waits at a call
pub record Waiting : Type 0 where
  pub of : Callee
  -- the values of the pairs at its entry
  pub entry : Entry
  -- the row of its call
  pub row : Row
  -- what it saw at its call; its words are still on the stack, first pushed first
  pub saw : Seen
  -- the address to which the callee returns
  pub resume : ℕ
  -- the T-states that it may take after the call; they may be negative
  pub later : ℤ

-- the subject of the row at which an activation waits, with its procedure and its instruction
abbrev pub calling : List ℕ → CertificateView → Waiting → Instr → SubjectView
calling rom cert w instr = record { rom = rom; cert = cert; row = w.row; proc = w.of.proc; decoded = Ok instr }

-- A waiting activation is at the row of its call. The row is one of its procedure and held of what it saw. The call at
-- the row's address is of this callee, which was entered with these pairs and returns to the address after the call.
pub record IsAtCall (rom : List ℕ) (cert : CertificateView) (callee : Callee) (entry : Entry) (w : Waiting) : Type 0 where
  pub instr : Instr
  pub is_subject : IsSubject (calling rom cert w instr)
  pub is_of : w.row.proc ≡ w.of.number
  pub numbers : IsRegs w.saw.regs
  pub holds : RowHolds w.row cert.cells w.entry w.saw
  pub next : Next
  pub calls : CallsCallee (calling rom cert w instr) next callee
  pub enters : (pair : RegPair) → entry pair ≡ entry_of w.saw.regs pair
  pub resumes : w.resume ≡ behind_of (Ok instr) w.row.address

-- back in the caller: one of its rows holds, its mode covers the exit's, and its worth is within what was kept
pub record Returned (cert : CertificateView) (w : Waiting) (mode : Mode) (m : Seen) : Type 0 where
  pub row : Row
  pub at : IsRowAt cert w.of.number w.resume row
  pub holds : RowHolds row cert.cells w.entry (resumed w.saw m)
  pub mode_is : covers_mode row.state.mode mode ≡ true
  pub owes : IsTimed w.of.proc → worth row (resumed w.saw m) ≤ℤ w.later

-- a waiting activation's time after a call is at least minus this many T-states
abbrev pub slack : ℕ
slack = 198605000023

-- An activation waits at its call for a callee that was entered with these pairs. Wherever the callee leaves, some row
-- of the caller holds. The caller's depth has room for its words and the callee. If it has a time, so has the callee.
pub record Awaits (rom : List ℕ) (cert : CertificateView) (callee : Callee) (entry : Entry) (w : Waiting) : Type 0 where
  pub at : IsAtCall rom cert callee entry w
  pub sub : callee.proc.kind ≡ Sub
  pub not_main : is_main callee.number ≡ false
  pub has : Has cert w.of
  pub deep : entry_bytes w.of.proc.kind + 2 * length w.saw.words + callee.proc.depth ≤ w.of.proc.depth
  pub back : (exit : AbsState) (m : Seen) → IsRegs m.regs → IsExit rom cert callee.number exit → Holds exit cert.cells entry m → Returned cert w exit.mode m
  pub timed : IsTimed w.of.proc → IsTimed callee.proc
  pub least : IsTimed w.of.proc → pos 0 ≤ℤ (w.later +ℤ pos slack)

-- each waiting activation, the nearest first, waits for the one above it; the lowest of all is of this procedure and
-- was entered with these pairs
unfoldable pub Chain : List ℕ → CertificateView → Callee → Entry → Callee → Entry → List Waiting → Type 0
Chain rom cert lowest first running entry [] = (running ≡ lowest) × (entry ≡ first)
Chain rom cert lowest first running entry (w ∷ ws) = Awaits rom cert running entry w × Chain rom cert lowest first w.of w.entry ws

-- the words of the waiting activations, from the top of the stack down to the lowest's
unfoldable pub waiting_words : List Waiting → List ℕ
waiting_words [] = []
waiting_words (w ∷ ws) = w.resume ∷ on_top w.saw.words (waiting_words ws)

-- the sum of what they may take after their calls
unfoldable pub later_all : List Waiting → ℤ
later_all [] = pos 0
later_all (w ∷ ws) = w.later +ℤ later_all ws
