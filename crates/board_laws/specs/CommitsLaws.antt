-- What the laws of src/commits.rt say: each is the contract of the function with its name.
use Rattle.std.specs.Prelude.{ℕ, ◌<◌, ◌≤◌, ◌≡◌, List, [], false, None, Ok}
use Rattle.address_map.specs.AddressMap.{MapView}
use Rattle.address_map.specs.declared.region.Region.{Region}
use Rattle.z80_draft.specs.declared.access.Write.{Write}
use Rattle.board_step.specs.Memory.{stored_all}
use Rattle.board_step.specs.State.{BoardView, AreBytes, IsState}
use Rattle.board_laws.specs.Region.{Misses, used, AllTaken, IsStackRegion, NoneEnables}
use Rattle.board_laws.specs.Words.{work_byte}
use Rattle.z80_draft.specs.Draft.{DraftView}
use Rattle.board_step.specs.Step.{committed, ticked, done, accepted}
use Rattle.board_laws.specs.Board.{HasWords, LeavesWords}
use Rattle.board_step.specs.Trap.{some_outside, trap_of_draft}
use Rattle.board_step.specs.declared.env.Env.{Env}
use Rattle.z80_decode.specs.declared.instr.Instr.{Instr}
use Rattle.board_step.specs.Context.{ContextView}
use Rattle.board_fetch.specs.Decoded.{StandsAt}
use Rattle.board_step.specs.Env.{IsEnv}

abbrev pub MissedBytesStayStored : Type 0
MissedBytesStayStored =
    (map : MapView) (region : Region) (writes : List Write) (s : BoardView) → Misses map region writes → (at : ℕ)
    → region.low ≤ at → at < region.top → work_byte (stored_all map writes s) at ≡ work_byte s at

abbrev pub MissedBytesStayCommitted : Type 0
MissedBytesStayCommitted =
    (map : MapView) (region : Region) (draft : DraftView) (s : BoardView) → draft.stack ≡ []
    → Misses map region draft.writes → (at : ℕ) → region.low ≤ at → at < region.top
    → work_byte (committed map draft s) at ≡ work_byte s at

abbrev pub MissedBytesStayUsed : Type 0
MissedBytesStayUsed =
    (map : MapView) (region : Region) (writes : List Write) (s : BoardView) → region.low ≤ s.regs.sp
    → Misses map region writes → Misses map (used region s) writes

abbrev pub MissedBytesStayUnused : Type 0
MissedBytesStayUnused =
    (map : MapView) (region : Region) (writes : List Write) (s : BoardView) → HasWords map region s []
    → Misses map (used region s) writes

abbrev pub DraftsMeetNoTrap : Type 0
DraftsMeetNoTrap =
    (map : MapView) (region : Region) (draft : DraftView) → AllTaken map draft.writes
    → some_outside region draft.stack ≡ false → trap_of_draft map region draft ≡ None

abbrev pub DraftsReachTheBoardEnable : Type 0
DraftsReachTheBoardEnable =
    (map : MapView) (region : Region) (draft : DraftView) (s : BoardView) → IsStackRegion map region
    → some_outside region draft.stack ≡ false → NoneEnables map draft.writes → (committed map draft s).enable ≡ s.enable

abbrev pub DraftsReachTheBoardWords : Type 0
DraftsReachTheBoardWords =
    (map : MapView) (region : Region) (draft : DraftView) (s : BoardView) (words : List ℕ)
    → LeavesWords map region draft s words → HasWords map region (committed map draft s) words

abbrev pub TimeKeepsWords : Type 0
TimeKeepsWords =
    (map : MapView) (region : Region) (before after : BoardView) (t : ℕ) (env : Env) (words : List ℕ)
    → HasWords map region after words → HasWords map region (ticked before after t env) words

abbrev pub CommitsStayInRangeInstruction : Type 0
CommitsStayInRangeInstruction =
    (c : ContextView) (instr : Instr) → AreBytes c.hardware.rom → IsState c.state → IsEnv c.env
    → StandsAt c.hardware.rom c.state.regs.pc (Ok instr) → IsState (done c instr)

abbrev pub CommitsStayInRangeAcceptance : Type 0
CommitsStayInRangeAcceptance =
    (c : ContextView) → AreBytes c.hardware.rom → IsState c.state → IsEnv c.env → IsState (accepted c)
