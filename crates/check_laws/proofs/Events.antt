-- What the time of an event does to the flip-flop and the phase, and the order of SP by the words on the stack.
use Rattle.std.proofs.Common.{◌≡◌, ◌≤◌, ◌<◌, ◌+◌, ◌∙◌, ℕ, Bool, true, false, List, length, refl, sym, subst, arith}
use Rattle.std.specs.Prelude.{◌%◌}
use Rattle.board_laws.specs.Clock.{Clocked, OnlyTime}
use Rattle.board_laws.proofs.Clocks.{only_time}
use Rattle.board_step.specs.State.{BoardView}
use Rattle.board_step.specs.Step.{ticked}
use Rattle.board_step.specs.declared.env.Env.{Env}
use Rattle.board_laws.specs.Board.{HasWords}
use Rattle.board_laws.proofs.EachMove.{words_wait}
use Rattle.board_laws.proofs.WordLaws.{lays-sp}
use Rattle.abs_state.specs.Holds.{HoldsMode, IsQuiet}
use Rattle.abs_state.specs.declared.mode.Mode.{Mode}
use Rattle.abs_state.specs.declared.mode.Mode.TheVariants.{Nmi}
use Rattle.cert_form.specs.Contents.{CertificateView, map_of_board}
use Rattle.check_laws.proofs.Seens.{quiet_of, remode}
use Rattle.check_laws.proofs.Standing.{SameBoard}

-- the T-states of an event go by on a board
pub same_board : (cert : CertificateView) (before mid new : BoardView) (t : ℕ) (env : Env) → new ≡ ticked before mid t env → SameBoard cert mid new
same_board cert before mid new t env is = record {
  only = subst (OnlyTime mid) (sym is) (only_time before mid t env);
  words = λ ws h. subst (λ (s : BoardView). HasWords (map_of_board cert) cert.region s ws) (sym is) (words_wait (map_of_board cert) cert.region before mid t env ws h);
}

-- an event from a state to another
pub record Eventful (s new : BoardView) (t : ℕ) : Type 0 where
  pub clock : Clocked s new t
  pub clear : s.enable ≡ false → new.enable ≡ false → s.latched ≡ false → (new.line ≡ false) × (new.latched ≡ false)
  pub small : t ≤ 23
  pub begins : s.phase < 50688

late : (p t n : ℕ) → n ≡ (p + t) % 50688 → p < 50688 → t ≤ 23 → 50688 ≤ p + t → n ≤ 22
late p t n e h k b = omega (arith, e, h, k, b)

pub latch_early : (s new : BoardView) (t : ℕ) → Eventful s new t → new.latched ≡ true → new.phase ≤ 22
latch_early s new t v on = late s.phase t new.phase v.clock.phase v.begins v.small (v.clock.blank on)

within : (p t n : ℕ) → n ≡ (p + t) % 50688 → p + t < 50688 → n ≡ p + t
within p t n e h = omega (arith, e, h)

pub phase_on : (s new : BoardView) (t : ℕ) → Eventful s new t → s.phase + t < 50688 → new.phase ≡ s.phase + t
phase_on s new t v h = within s.phase t new.phase v.clock.phase h

pub still_unlatched : (s new : BoardView) (t : ℕ) → Eventful s new t → s.phase + t < 50688 → new.latched ≡ false
still_unlatched s new t v h = by new.latched refl
  where
    by : (b : Bool) → new.latched ≡ b → new.latched ≡ false
    by false e = e
    by true e = let past = v.clock.blank e in absurd (omega (arith, past, h))

-- if no NMI may come before and after, none comes
pub quiet_on : (s new : BoardView) (t : ℕ) → Eventful s new t → IsQuiet s.enable s.line s.latched → new.enable ≡ false → IsQuiet new.enable new.line new.latched
quiet_on s new t v q clear = let c = v.clear q.no_enable clear q.no_latch in record { no_enable = clear; no_line = c.0; no_latch = c.1 }

-- the next mode holds after the event
pub mode_on : (s mid new : BoardView) (t : ℕ) (old next : Mode) → Eventful s new t → new.enable ≡ mid.enable → (old ≡ Nmi → next ≡ Nmi) → HoldsMode old s.enable s.line s.latched → HoldsMode next mid.enable mid.line mid.latched
    → HoldsMode next new.enable new.line new.latched
mode_on s mid new t old next v same stays h k =
    remode next new.enable new.line new.latched (λ n.
    let q = quiet_of old s.enable s.line s.latched (λ e. n (stays e)) h in
    let m = quiet_of next mid.enable mid.line mid.latched n k in
    quiet_on s new t v q (same ∙ m.no_enable))

-- more words on the stack mean a lower SP
pub lower : (cert : CertificateView) (a b : BoardView) (xs ys : List ℕ) → HasWords (map_of_board cert) cert.region a xs → HasWords (map_of_board cert) cert.region b ys → length ys < length xs → a.regs.sp < b.regs.sp
lower cert a b xs ys h k less =
    let p = lays-sp a a.regs.sp cert.region.top xs h.laid in
    let q = lays-sp b b.regs.sp cert.region.top ys k.laid in
    omega arith

pub same_sp : (cert : CertificateView) (a b : BoardView) (xs : List ℕ) → HasWords (map_of_board cert) cert.region a xs → HasWords (map_of_board cert) cert.region b xs → a.regs.sp ≡ b.regs.sp
same_sp cert a b xs h k =
    let p = lays-sp a a.regs.sp cert.region.top xs h.laid in
    let q = lays-sp b b.regs.sp cert.region.top xs k.laid in
    omega arith
