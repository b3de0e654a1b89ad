-- What a state of the machine stands for: a chain of activations, and under the NMI routine's the chain that it
-- interrupted.
use Rattle.std.proofs.Common.{◌≡◌, ◌≤◌, ◌+◌, ◌*◌, ◌∙◌, ℕ, true, false, List, [], ◌∷◌, ◌++◌, length, length-append, slice_get, Option, Some, None, pos, ◌+ℤ◌, ◌≤ℤ◌, refl, sym, ap, subst, arith}
use Rattle.std.specs.Prelude.{map, slice_index}
use Rattle.address_map.specs.Class.{cell_index}
use Rattle.address_map.specs.declared.cell.RamKind.TheVariants.{Work}
use Rattle.abs_state.specs.Cell.{HoldsCells}
use Rattle.abs_state.specs.declared.cell.KeptCell.{KeptCell}
use Rattle.z80_alu.specs.declared.regs.Regs.{Regs}
use Rattle.board_step.specs.State.{IsState, BoardView}
use Rattle.board_laws.specs.Clock.{OnlyTime}
use Rattle.board_laws.specs.Board.{HasWords}
use Rattle.board_laws.specs.Words.{on_top}
use Rattle.board_laws.proofs.WordLaws.{on_top-length}
use Rattle.abs_state.specs.Holds.{HoldsMode, IsQuiet}
use Rattle.abs_state.specs.Pairs.{word_in}
use Rattle.intervals.specs.declared.reg_pair.RegPair.{RegPair}
use Rattle.abs_state.specs.declared.mode.Mode.TheVariants.{Nmi}
use Rattle.abs_laws.specs.Cells.{bytes_of_cells}
use Rattle.abs_step.specs.declared.reason.Reason.TheVariants as reasons
use Rattle.abs_step.proofs.GoesStack.{as_many}
use Rattle.check_cover.specs.declared.program.Callee.{Callee}
use Rattle.cert_lines.specs.declared.proc.Proc.{Proc}
use Rattle.cert_form.specs.Contents.{CertificateView, map_of_board}
use Rattle.check_rules.specs.Table.{FitsDepth, entry_bytes}
use Rattle.check_laws.specs.Chain.{AcceptsInForm, later_all, waiting_words}
use Rattle.check_laws.specs.Placed.{Activations, ArePlaced, Under, owed, seen_by}
use Rattle.check_laws.proofs.Depth.{chain_depth}
use Rattle.check_laws.proofs.Judging.{judge, subject_of}
use Rattle.check_ways.specs.Pays.{potential_of}
use Rattle.check_laws.proofs.Keeper.{Frame}
use Rattle.check_laws.proofs.Roles.{IsMainOf, IsNmiOf}
use Rattle.check_laws.proofs.Seens.{SameView, same_linear, still_holds}

-- a chain that an NMI interrupted, the state then, and the T-states since
pub record Suspended : Type 0 where
  pub context : Activations
  pub at : BoardView
  pub spent : ℕ

pub record Config : Type 0 where
  pub now : Activations
  pub under : Option Suspended

abbrev pub frame_of : Suspended → Frame
frame_of u = record { at = u.at; spent = u.spent }

-- the words of an interrupted chain, which lie under its address
abbrev pub words_of : Activations → List ℕ
words_of c = on_top c.words (waiting_words c.waiting ++ [])

abbrev pub under_words : Option Suspended → List ℕ
under_words None = []
under_words (Some u) = u.at.regs.pc ∷ words_of u.context

abbrev pub lowest_of : Callee → Callee → Option Suspended → Callee
lowest_of main nmi None = main
lowest_of main nmi (Some u) = nmi

-- inside an NMI routine: the chain that it interrupted, and the time since
pub record IsInside (rom : List ℕ) (cert : CertificateView) (main : Callee) (time : ℕ) (now : Activations) (s : BoardView) (u : Suspended) : Type 0 where
  pub numbers : IsState u.at
  pub context : ArePlaced rom cert main [] u.context u.at
  pub was : u.context.row.state.mode ≡ Nmi
  pub first : (r : RegPair) → now.first r ≡ word_in r u.at.regs
  pub mode : now.row.state.mode ≡ Nmi
  pub i : s.regs.i ≡ u.at.regs.i
  pub awake : s.halted ≡ false
  pub unlatched : s.latched ≡ false
  pub phase : s.phase ≡ u.at.phase + u.spent
  pub began : u.at.phase ≤ 22
  pub pays : (pos u.spent +ℤ owed cert now s) ≤ℤ pos time

abbrev pub Inside : List ℕ → CertificateView → Callee → ℕ → Activations → BoardView → Option Suspended → Type 0
Inside rom cert main time now s None = Unit {0}
Inside rom cert main time now s (Some u) = IsInside rom cert main time now s u

-- a state stands for a configuration
pub record Stands (rom : List ℕ) (cert : CertificateView) (main nmi : Callee) (time : ℕ) (g : Config) (s : BoardView) : Type 0 where
  pub numbers : IsState s
  pub placed : ArePlaced rom cert (lowest_of main nmi g.under) (under_words g.under) g.now s
  pub latch : s.latched ≡ true → s.phase ≤ 22
  pub quiet : cert.budget ≡ None → IsQuiet s.enable s.line s.latched
  pub inside : Inside rom cert main time g.now s g.under

-- ---- time that goes by

-- the same board, with the same words on the stack
pub record SameBoard (cert : CertificateView) (old new : BoardView) : Type 0 where
  pub only : OnlyTime old new
  pub words : (ws : List ℕ) → HasWords (map_of_board cert) cert.region old ws → HasWords (map_of_board cert) cert.region new ws

same_view : (cert : CertificateView) (c : Activations) (old new : BoardView) → SameBoard cert old new → SameView (seen_by cert c old) (seen_by cert c new)
same_view cert c old new k = record {
  main = ap (λ (r : Regs). r.main) k.only.regs;
  alternate = ap (λ (r : Regs). r.alternate) k.only.regs;
  ix = ap (λ (r : Regs). r.ix) k.only.regs;
  iy = ap (λ (r : Regs). r.iy) k.only.regs;
  words = refl;
}

cells_same : (cert : CertificateView) (old new : BoardView) → SameBoard cert old new → bytes_of_cells cert.cells old ≡ bytes_of_cells cert.cells new
cells_same cert old new k = ap (λ (work : List ℕ). map (λ (cell : KeptCell). slice_index work (cell_index Work cell.at)) cert.cells) (sym k.only.work)

pub same_placed : (rom : List ℕ) (cert : CertificateView) (lowest : Callee) (under : List ℕ) (c : Activations) (old new : BoardView) → SameBoard cert old new
    → HoldsMode c.row.state.mode new.enable new.line new.latched → ArePlaced rom cert lowest under c old → ArePlaced rom cert lowest under c new
same_placed rom cert lowest under c old new k mode p = record {
  pc = ap (λ (r : Regs). r.pc) k.only.regs ∙ p.pc;
  listed = p.listed;
  is_of = p.is_of;
  has = p.has;
  holds = still_holds c.row cert.cells c.entry (seen_by cert c old) (seen_by cert c new) (same_view cert c old new k) mode
      (subst (λ (bytes : List ℕ). HoldsCells c.row.state.armed cert.cells bytes) (cells_same cert old new k) p.holds.state.cells_hold) p.holds;
  laid = λ set. k.words _ (p.laid set);
  chain = p.chain;
}

pub same_owed : (cert : CertificateView) (c : Activations) (old new : BoardView) → SameBoard cert old new → owed cert c new ≡ owed cert c old
same_owed cert c old new k = ap (λ z. z +ℤ later_all c.waiting) (same_linear (seen_by cert c old) (seen_by cert c new) (same_view cert c old new k) (potential_of c.row))

-- ---- room

module _ (rom : List ℕ) (cert : CertificateView) (acc : AcceptsInForm rom cert) (main : Proc) (is_main : IsMainOf cert main) where
  abbrev pub main_callee : Callee
  main_callee = record { number = 0; proc = main }

  pub under_main : Under cert main_callee []
  under_main =
      let none : entry_bytes main.kind ≡ 0 = ap entry_bytes is_main.kind in
      let fits = is_main.fits in
      record { lowest_is = tt; room = omega arith }

  -- the words of main code's chain keep within main's depth
  pub main_words : (c : Activations) (s : BoardView) → ArePlaced rom cert main_callee [] c s → 2 * length (words_of c) ≤ main.depth
  main_words c s p =
      let j = judge rom cert c.row c.of.proc acc p.listed (ap (slice_get cert.procs) p.is_of ∙ p.has) in
      let deep : FitsDepth (subject_of rom cert c.row c.of.proc j.instr) = j.consistent reasons.StackDepth in
      let row : entry_bytes c.of.proc.kind + 2 * length c.row.state.shape ≤ c.of.proc.depth = deep.row in
      let chain = chain_depth rom cert main_callee c.first c.of c.entry c.waiting p.chain in
      let none : entry_bytes main.kind ≡ 0 = ap entry_bytes is_main.kind in
      let many : length c.words ≡ length c.row.state.shape = as_many c.row.state.shape c.entry c.words p.holds.state.shape in
      let count : length (words_of c) ≡ length c.words + length (waiting_words c.waiting ++ []) = on_top-length c.words (waiting_words c.waiting ++ []) in
      let more : length (waiting_words c.waiting ++ []) ≡ length (waiting_words c.waiting) + 0 = length-append (waiting_words c.waiting) [] in
      omega arith

  module _ (nmi : Proc) (time : ℕ) (is_nmi : IsNmiOf cert main nmi time) where
    abbrev pub nmi_callee : Callee
    nmi_callee = record { number = 1; proc = nmi }

    pub under_nmi : (u : Suspended) → ArePlaced rom cert main_callee [] u.context u.at → Under cert nmi_callee (under_words (Some u))
    under_nmi u p =
        let words = main_words u.context u.at p in
        let two : entry_bytes nmi.kind ≡ 2 = ap entry_bytes is_nmi.kind in
        let fits = is_nmi.fits in
        record { lowest_is = tt; room = omega arith }
