use Rattle.std.proofs.Common.{◌≡◌, ◌≤◌, ◌++◌, ◌∷◌, [], List, ℕ, length, sym, subst, arith}
use Rattle.texts.specs.Device.{Gives}
use Rattle.texts.specs.Incoming.{HasNoFeed, TakesNext, unread_of}
use Rattle.texts.specs.declared.incoming.NextByte.TheVariants.{Ended}
use Rattle.texts.proofs.IncomingLemmas.{goes_on, line_ended, stays_quiet, used}
use Rattle.texts.proofs.incoming.Incoming.next_line.Goals as goal

pub returns-in-Ended-clause-line : goal.returns-in-Ended-clause-line
returns-in-Ended-clause-line g c =
    let inv = c.loop-byte.invariant in
    let next : TakesNext g.row.LONGEST c.len.result (unread_of c.loop-byte.self (g.R.Source.state c.loop-byte.input)) (Ended c.in-Ended.end) (unread_of c.next.new.self (g.R.Source.state c.next.new.input)) = rw c.in-Ended.is at c.in_ok-byte.ensures.next in
    line_ended _ _ _ _ (unread_of c.next.new.self (g.R.Source.state c.next.new.input)) _ c.in-Ended.end inv.given inv.no_feed (omega (arith, c.len.ensures.fits, c.len.ensures.value)) c.len.ensures.value next

pub returns-in_err-byte-clause-quiet : goal.returns-in_err-byte-clause-quiet
returns-in_err-byte-clause-quiet g c enough =
    let inv = c.loop-byte.invariant in
    let short : length c.loop-byte.line.items ≤ g.row.LONGEST = (omega (arith, c.len.ensures.fits, c.len.ensures.value)) in
    let still = stays_quiet g.row.LONGEST c.args.self.now c.loop-byte.self c.next.new.self c.args.input.now c.loop-byte.input c.next.new.input c.loop-byte.line.items inv.quiet inv.no_feed short c.in_err-byte.ensures.quiet enough in
    (still.0, still.1)

pub returns-in-Ended-clause-quiet : goal.returns-in-Ended-clause-quiet
returns-in-Ended-clause-quiet g c enough =
    let inv = c.loop-byte.invariant in
    let short : length c.loop-byte.line.items ≤ g.row.LONGEST = (omega (arith, c.len.ensures.fits, c.len.ensures.value)) in
    let still = stays_quiet g.row.LONGEST c.args.self.now c.loop-byte.self c.next.new.self c.args.input.now c.loop-byte.input c.next.new.input c.loop-byte.line.items inv.quiet inv.no_feed short c.in_ok-byte.ensures.quiet enough in
    (still.0, still.1)

pub loop-byte-preserved : goal.loop-byte-preserved
loop-byte-preserved g c =
    let inv = c.loop-byte.invariant in
    let short : length c.loop-byte.line.items ≤ g.row.LONGEST = (omega (arith, c.len.ensures.fits, c.len.ensures.value)) in
    let more = goes_on g.row.LONGEST c.len.result (unread_of c.args.self.now (g.R.Source.state c.args.input.now)) (unread_of c.loop-byte.self (g.R.Source.state c.loop-byte.input)) (unread_of c.next.new.self (g.R.Source.state c.next.new.input)) c.loop-byte.line.items c.in-Byte.byte c.in_ok-byte.field-0 inv.given inv.no_feed c.len.ensures.value c.in-Byte.is c.in_ok-byte.ensures.next in
    let items : c.push.new.self.items ≡ c.loop-byte.line.items ++ c.in-Byte.byte ∷ [] = c.push.ensures.items in
    record {
      given = subst (λ (t : List ℕ). Gives (unread_of c.args.self.now (g.R.Source.state c.args.input.now)) t (unread_of c.next.new.self (g.R.Source.state c.next.new.input))) (sym items) more.given;
      no_feed = subst HasNoFeed (sym items) more.no_feed;
      quiet = λ enough.
          let still = stays_quiet g.row.LONGEST c.args.self.now c.loop-byte.self c.next.new.self c.args.input.now c.loop-byte.input c.next.new.input c.loop-byte.line.items inv.quiet inv.no_feed short c.in_ok-byte.ensures.quiet enough in
          (still.0, still.1, subst (λ (t : List ℕ). c.args.self.now.bytes ≡ t ++ c.next.new.self.bytes) (sym items) (used _ _ _ _ _ c.in_ok-byte.field-0 still.2 c.in-Byte.is still.3));
      at_end = λ well. c.in_ok-byte.ensures.at_end (inv.at_end well);
    }
