use Rattle.std.proofs.Common.{◌≡◌, ◌≢◌, ◌<◌, ◌∙◌, min, inl, inr, ℕ, List, [], ◌++◌, ap, subst, arith, None, Some, Result, Err}
use Rattle.std.proofs.lemmas.Result.{err_from_is_err_and}
use Rattle.board_step.specs.Reset.{IsReset}
use Rattle.board_step.specs.ResetState.{reset_state}
use Rattle.board_step.specs.Run.{Run}
use Rattle.board_step.specs.declared.board.Reset.{Reset}
use Rattle.board_step.specs.declared.env.Env.{Env}
use Rattle.cert_checker.specs.Certified.{AcceptedView, hardware_on}
use Rattle.run_lines.specs.Follows.{HasTold}
use Rattle.run_lines.specs.Told.{NeverNests}
use Rattle.run_lines.proofs.DeviceLemmas.{takes_none}
use Rattle.texts.specs.Device.{DeviceState, FailsAmid, Takes}
use Rattle.texts.specs.Incoming.{FailsAmidLine, unread_of}
use Rattle.texts.proofs.DeviceLemmas.{takes_both}
use Rattle.texts.proofs.IncomingLemmas.{fresh, fresh_ends}
use Rattle.runner.specs.Input.{env_of, reset_of}
use Rattle.runner.specs.Player.{PlaysEvents}
use Rattle.runner.specs.Playing.{HasNoReset, LONGEST, ReadsInputLine, TakesEnv, TakesReset}
use Rattle.runner.specs.declared.fault.PlayFault.{PlayFault}
use Rattle.runner.specs.declared.player.Player.{Player}
use Rattle.runner.specs.declared.fault.PlayFault.TheVariants.{Read}
use Rattle.runner.proofs.PlayLemmas.{sofar_start, sofar_more, sofar_ends}
use Rattle.runner.proofs.StopLemmas.{stops_first, stops_later, stops_writing}
use Rattle.runner.proofs.playing.play_input.Goals as goal

other_fault : {A : Type 0} (fault : PlayFault) → fault ≢ Read → (let r : Result A PlayFault = Err fault in r) ≡ Err Read → ⊥
other_fault fault other e = other (cc)

-- a law of the board of one certified ROM holds for an equal one
never_on : (v w : AcceptedView) → v ≡ w → ((run : Run (hardware_on v)) → IsReset (run.state_at 0) → NeverNests run) → (run : Run (hardware_on w)) → IsReset (run.state_at 0) → NeverNests run
never_on v w e never = subst (λ (x : AcceptedView). (run : Run (hardware_on x)) → IsReset (run.state_at 0) → NeverNests run) e never

-- the events that a player executed, on an equal board and in an equal environment
plays_on : (v w : AcceptedView) (env same : Env) (a b : Player) (done : ℕ) (told : List ℕ) → v ≡ w → env ≡ same → PlaysEvents (hardware_on v) a env done told b → PlaysEvents (hardware_on w) a same done told b
plays_on v w env same a b done told e f plays =
    subst (λ (x : AcceptedView). PlaysEvents (hardware_on x) a same done told b) e (subst (λ (x : Env). PlaysEvents (hardware_on v) a x done told b) f plays)

pub returns-in_err-reset : goal.returns-in_err-reset
returns-in_err-reset g c =
    let p = err_from_is_err_and c.from_residual.result c.from_residual.ensures.1 in
    let old = g.R.Source.state c.args.input.now in
    let fault = c.in_err-reset.field-0.0 in
    let after = unread_of c.first_line.new.incoming (g.R.Source.state c.first_line.new.input) in
    let all : unread_of c.new-incoming.result old ≡ old = fresh c.new-incoming.result old c.new-incoming.ensures.bytes c.new-incoming.ensures.ended in
    rw (p.1, p.2)
    (stops_first (hardware_on c.args.accepted.now) c.args.steps old c.first_line.new.incoming (g.R.Source.state c.first_line.new.input) fault (g.W.Sink.state c.args.out.now)
    (subst (λ (s : DeviceState). ReadsInputLine TakesReset HasNoReset 1 s (Err fault) after) all c.in_err-reset.ensures.line)
    (λ other told. c.in_err-reset.ensures.at_end (other_fault fault other) (fresh_ends c.new-incoming.result old c.new-incoming.ensures.ended told))
    (λ is. subst (λ (s : DeviceState). FailsAmidLine LONGEST s (g.R.Source.state c.first_line.new.input)) all (c.in_err-reset.ensures.amid (ap (λ (f : PlayFault). Err f) is))))

pub returns-in_err-line : goal.returns-in_err-line
returns-in_err-line g c =
    let p = err_from_is_err_and c.from_residual-in_err-line.result c.from_residual-in_err-line.ensures.1 in
    let inv = c.loop-left.invariant in
    let fault = c.in_err-line.field-0.0 in
    rw (p.1, p.2)
    (stops_later (hardware_on c.args.accepted.now) (never_on c.reset-player.result.machine.certified c.args.accepted.now c.reset-player.ensures.accepted c.never_nests.ensures) c.args.steps (g.R.Source.state c.args.input.now) (g.R.Source.state c.loop-left.input)
    c.loop-left.incoming c.next_env.new.incoming (g.R.Source.state c.next_env.new.input) c.loop-left.number c.loop-left.left c.loop-left.player inv.told fault (g.W.Sink.state c.args.out.now) (g.W.Sink.state c.loop-left.out)
    inv.far c.loop-left-test.true inv.quiet inv.wrote c.in_err-line.ensures.line (λ other told. c.in_err-line.ensures.at_end (other_fault fault other) (inv.at_end told))
    (λ is. c.in_err-line.ensures.amid (ap (λ (f : PlayFault). Err f) is)))

pub loop-left-init : goal.loop-left-init
loop-left-init g c =
    let hardware = hardware_on c.args.accepted.now in
    let old = g.R.Source.state c.args.input.now in
    let now = unread_of c.first_line.new.incoming (g.R.Source.state c.first_line.new.input) in
    let all : unread_of c.new-incoming.result old ≡ old = fresh c.new-incoming.result old c.new-incoming.ensures.bytes c.new-incoming.ensures.ended in
    let takes : TakesReset old c.in_ok-reset.reset now = subst (λ (s : DeviceState). TakesReset s c.in_ok-reset.reset now) all c.in_ok-reset.ensures.line in
    let player = c.reset-player.result in
    let reset = reset_of c.in_ok-reset.reset in
    let none = c.reset-player.ensures.none in
    let state : player.machine.state ≡ reset_state reset = c.reset-player.ensures.state ∙ ap reset_state c.reset.ensures in
    let starts : IsReset (reset_state reset) = subst (λ (r : Reset). IsReset (reset_state r)) c.reset.ensures c.reset-player.ensures.reset in
    let has : HasTold hardware (reset_state reset) [] [] (reset_state reset) player.teller = subst (λ (r : Reset). HasTold hardware (reset_state r) [] [] (reset_state r) player.teller) c.reset.ensures c.reset-player.ensures.told in
    record {
      told = [];
      far = sofar_start hardware c.args.steps old now c.in_ok-reset.reset player takes state starts none.0 none.1 has;
      wrote = takes_none (g.W.Sink.state c.args.out.now);
      certified = c.reset-player.ensures.accepted;
      at_end = λ told. c.in_ok-reset.ensures.at_end (λ e. cc) (fresh_ends c.new-incoming.result old c.new-incoming.ensures.ended told);
      quiet = takes.1.quiet;
      numbered = omega arith;
      bounded = omega (arith, none.0, none.1);
    }

pub returns-in_default : goal.returns-in_default
returns-in_default g c =
    let inv = c.loop-left.invariant in
    let now = unread_of c.loop-left.incoming (g.R.Source.state c.loop-left.input) in
    let after = unread_of c.next_env.new.incoming (g.R.Source.state c.next_env.new.input) in
    let empty : TakesEnv now None after = rw c.in_default.is at c.in_ok-line.ensures.line in (
      inv.told,
      record {
        played = sofar_ends (hardware_on c.args.accepted.now) c.args.steps (g.R.Source.state c.args.input.now).bytes now.bytes c.loop-left.number c.loop-left.left c.loop-left.player inv.told c.summary.result inv.far (inl empty.1) c.summary.ensures;
        quiet = empty.0.quiet ∙ inv.quiet;
      },
      inv.wrote,
    )

pub play_events-requires-clause-events : goal.play_events-requires-clause-events
play_events-requires-clause-events g c =
    let inv = c.loop-left.invariant in
    omega (arith, inv.far.counted, inv.far.count, c.min-count.ensures, c.ranges.steps)

pub loop-left-preserved : goal.loop-left-preserved
loop-left-preserved g c =
    let inv = c.loop-left.invariant in
    let line = c.in-Some.line in
    let count = c.min-count.result in
    let hardware = hardware_on c.args.accepted.now in
    let player = c.loop-left.player in
    let new = c.play_events.new.self in
    let mid = unread_of c.loop-left.incoming (g.R.Source.state c.loop-left.input) in
    let now = unread_of c.next_env.new.incoming (g.R.Source.state c.next_env.new.input) in
    let takes : TakesEnv mid (Some line) now = rw c.in-Some.is at c.in_ok-line.ensures.line in
    let least : count ≡ min line.count c.loop-left.left = c.min-count.ensures in
    let some : 0 < c.loop-left.left = c.loop-left-test.true in
    let did = c.play_events.ensures in
    let all : did.done ≡ count = rw c.in-Ok.is at did.all in
    let wrote : Takes (g.W.Sink.state c.loop-left.out) did.told (g.W.Sink.state c.play_events.new.out) = rw c.in-Ok.is at did.puts in
    let plays : PlaysEvents hardware player (env_of line) count did.told new =
    subst (λ (n : ℕ). PlaysEvents hardware player (env_of line) n did.told new) all
    (plays_on player.machine.certified c.args.accepted.now c.env.result (env_of line) player new did.done did.told inv.certified c.env.ensures did.plays) in
    let at_least : 0 < count = omega (arith, least, some, takes.0.least) in
    let spent = plays.bounded in
    let time = plays.time in
    let events = plays.events in
    record {
      told = inv.told ++ did.told;
      far = sofar_more hardware c.args.steps (g.R.Source.state c.args.input.now).bytes mid now c.loop-left.number c.loop-left.left player new inv.told did.told line count inv.far some takes least plays;
      wrote = takes_both (g.W.Sink.state c.args.out.now) (g.W.Sink.state c.loop-left.out) (g.W.Sink.state c.play_events.new.out) inv.told did.told inv.wrote wrote;
      certified = plays.certified ∙ inv.certified;
      at_end = λ told. c.in_ok-line.ensures.at_end (λ e. cc) (inv.at_end told);
      quiet = takes.1.quiet ∙ inv.quiet;
      numbered = omega (arith, inv.numbered, at_least, least);
      bounded = omega (arith, inv.bounded, spent, time, events);
    }

pub returns-in-Err : goal.returns-in-Err
returns-in-Err g c =
    let inv = c.loop-left.invariant in
    let line = c.in-Some.line in
    let count = c.min-count.result in
    let hardware = hardware_on c.args.accepted.now in
    let player = c.loop-left.player in
    let new = c.play_events.new.self in
    let mid = unread_of c.loop-left.incoming (g.R.Source.state c.loop-left.input) in
    let now = unread_of c.next_env.new.incoming (g.R.Source.state c.next_env.new.input) in
    let takes : TakesEnv mid (Some line) now = rw c.in-Some.is at c.in_ok-line.ensures.line in
    let least : count ≡ min line.count c.loop-left.left = c.min-count.ensures in
    let did = c.play_events.ensures in
    let most = did.most in
    let fails : FailsAmid (g.W.Sink.state c.loop-left.out) did.told (g.W.Sink.state c.play_events.new.out) = rw c.in-Err.is at did.puts in
    let plays : PlaysEvents hardware player (env_of line) did.done did.told new =
    plays_on player.machine.certified c.args.accepted.now c.env.result (env_of line) player new did.done did.told inv.certified c.env.ensures did.plays in
    stops_writing hardware (never_on c.reset-player.result.machine.certified c.args.accepted.now c.reset-player.ensures.accepted c.never_nests.ensures) c.args.steps (g.R.Source.state c.args.input.now) mid
    c.next_env.new.incoming (g.R.Source.state c.next_env.new.input) c.loop-left.number c.loop-left.left player new inv.told did.told line did.done (g.W.Sink.state c.args.out.now) (g.W.Sink.state c.loop-left.out) (g.W.Sink.state c.play_events.new.out)
    inv.far c.loop-left-test.true takes (takes.1.quiet ∙ inv.quiet) (λ told. c.in_ok-line.ensures.at_end (λ e. cc) (inv.at_end told)) (omega (arith, most, least)) (omega (arith, most, least)) plays inv.wrote fails

pub returns : goal.returns
returns g c =
    let inv = c.loop-left.invariant in
    let none : c.loop-left.left ≡ 0 = omega (arith, c.loop-left-test.false) in (
      inv.told,
      record {
        played = sofar_ends _ _ _ _ _ _ _ _ _ inv.far (inr none) c.summary-2.ensures;
        quiet = inv.quiet;
      },
      inv.wrote,
    )
