-- The answer of `successors`, stated for whatever the ROM's bytes at the address spell.
use Rattle.std.proofs.Common.{Bool, subst, drop, ℕ, List, Result, Ok, Err}
use Rattle.std.specs.Prelude.{IfOk, IfErr}
use Rattle.board_fetch.proofs.DecodedLemmas.{decoded_once}
use Rattle.board_fetch.specs.Decoded.{StandsAt}
use Rattle.z80_decode.specs.declared.instr.Instr.{Instr}
use Rattle.z80_decode.specs.declared.fault.DecodeFault.{DecodeFault}
use Rattle.abs_state.specs.declared.state.AbsState.{AbsState}
use Rattle.abs_draft.specs.Ground.{GroundView}
use Rattle.abs_step.specs.Contained.{Keeps, WritesAsKnown}
use Rattle.abs_step.specs.declared.next.Next.{Next}

pub if_ok : {X Y : Type 0} (r : Result X Y) (P Q : X → Type 0) → IfOk r P → ((x : X) → P x → Q x) → IfOk r Q
if_ok (Ok x) P Q h f = f x h
if_ok (Err y) P Q h f = tt

pub both_ok : {X Y : Type 0} (r : Result X Y) (P Q R : X → Type 0) → IfOk r P → IfOk r Q → ((x : X) → P x → Q x → R x) → IfOk r R
both_ok (Ok x) P Q R g h f = f x g h
both_ok (Err y) P Q R g h f = tt

pub if_err : {X Y : Type 0} (r : Result X Y) (P Q : Y → Type 0) → IfErr r P → ((y : Y) → P y → Q y) → IfErr r Q
if_err (Ok x) P Q h f = tt
if_err (Err y) P Q h f = f y h

-- the bytes at an address spell one thing only, so what holds of it holds of each
pub of_all : (rom : List ℕ) (at : ℕ) (this : Result Instr DecodeFault) (P : Result Instr DecodeFault → Type 0) → StandsAt rom at this → P this → (other : Result Instr DecodeFault) → StandsAt rom at other → P other
of_all rom at this P here h other there = subst P (decoded_once (drop at rom) this other here there) h

-- if the bytes spell an instruction, it keeps what the row says
abbrev pub KeepsIf : GroundView → ℕ → Bool → AbsState → List Next → Result Instr DecodeFault → Type 0
KeepsIf g address main a nexts (Ok instr) = Keeps g address main a instr nexts
KeepsIf g address main a nexts (Err fault) = Unit {0}

-- if the bytes spell an instruction, its data writes lie in the known ones
abbrev pub WritesIf : GroundView → ℕ → AbsState → Result Instr DecodeFault → Type 0
WritesIf g address a (Ok instr) = WritesAsKnown g address a instr
WritesIf g address a (Err fault) = Unit {0}
