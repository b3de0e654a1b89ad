use Rattle.std.proofs.Common.{◌≡◌, ◌≤◌, ◌∙◌, ◌++◌, ◌∷◌, [], List, ℕ, length, sym, subst, arith, rules, length-append}
use Rattle.texts.specs.Device.{Gives}
use Rattle.texts.specs.Incoming.{HasNoFeed, TakesNext, unread_of}
use Rattle.texts.specs.declared.incoming.NextByte.TheVariants.{Ended}
use Rattle.texts.proofs.IncomingLemmas.{goes_on, line_ended, stays_quiet, used}
use Rattle.texts.proofs.incoming.Incoming.next_long_line.Goals as goal

pub returns-in-Ended-clause-line : goal.returns-in-Ended-clause-line
returns-in-Ended-clause-line g c =
    let inv = c.loop-next.invariant in
    let next : TakesNext c.args.longest c.len.result (unread_of c.loop-next.self (g.R.Source.state c.loop-next.input)) (Ended c.in-Ended.end) (unread_of c.next.new.self (g.R.Source.state c.next.new.input)) = rw c.in-Ended.is at c.in-Ok.ensures.next in
    line_ended _ _ _ _ _ _ c.in-Ended.end inv.given inv.no_feed inv.short (c.len.ensures ∙ c.loop-next.line.ok.0) next

pub returns-in_default-clause-quiet : goal.returns-in_default-clause-quiet
returns-in_default-clause-quiet g c enough =
    let inv = c.loop-next.invariant in
    let short : length c.loop-next.line.items ≤ c.args.longest = inv.short in
    let still = stays_quiet c.args.longest c.args.self.now c.loop-next.self c.next.new.self c.args.input.now c.loop-next.input c.next.new.input c.loop-next.line.items inv.quiet inv.no_feed short c.in_default.ensures.quiet enough in
    (still.0, still.1)

pub returns-in-Ended-clause-quiet : goal.returns-in-Ended-clause-quiet
returns-in-Ended-clause-quiet g c enough =
    let inv = c.loop-next.invariant in
    let short : length c.loop-next.line.items ≤ c.args.longest = inv.short in
    let still = stays_quiet c.args.longest c.args.self.now c.loop-next.self c.next.new.self c.args.input.now c.loop-next.input c.next.new.input c.loop-next.line.items inv.quiet inv.no_feed short c.in-Ok.ensures.quiet enough in
    (still.0, still.1)

pub returns-then-is_err-clause-quiet : goal.returns-then-is_err-clause-quiet
returns-then-is_err-clause-quiet g c enough =
    let inv = c.loop-next.invariant in
    let short : length c.loop-next.line.items ≤ c.args.longest = inv.short in
    let still = stays_quiet c.args.longest c.args.self.now c.loop-next.self c.next.new.self c.args.input.now c.loop-next.input c.next.new.input c.loop-next.line.items inv.quiet inv.no_feed short c.in-Ok.ensures.quiet enough in
    (still.0, still.1)

pub returns-then-is_err-clause-fault : goal.returns-then-is_err-clause-fault
returns-then-is_err-clause-fault g c =
    let inv = c.loop-next.invariant in
    let more = goes_on c.args.longest c.len.result (unread_of c.args.self.now (g.R.Source.state c.args.input.now)) (unread_of c.loop-next.self (g.R.Source.state c.loop-next.input)) (unread_of c.next.new.self (g.R.Source.state c.next.new.input)) c.loop-next.line.items c.in-Byte.byte c.in-Ok.next inv.given inv.no_feed (c.len.ensures ∙ c.loop-next.line.ok.0) c.in-Byte.is c.in-Ok.ensures.next in
    record {
      text = c.loop-next.line.items ++ c.in-Byte.byte ∷ [];
      some = omega (arith, length-append c.loop-next.line.items (c.in-Byte.byte ∷ []));
      short = omega (arith, more.below, length-append c.loop-next.line.items (c.in-Byte.byte ∷ []));
      no_feed = more.no_feed;
      given = more.given;
    }

pub loop-next-preserved : goal.loop-next-preserved
loop-next-preserved g c =
    let inv = c.loop-next.invariant in
    let short : length c.loop-next.line.items ≤ c.args.longest = inv.short in
    let more = goes_on c.args.longest c.len.result (unread_of c.args.self.now (g.R.Source.state c.args.input.now)) (unread_of c.loop-next.self (g.R.Source.state c.loop-next.input)) (unread_of c.next.new.self (g.R.Source.state c.next.new.input)) c.loop-next.line.items c.in-Byte.byte c.in-Ok.next inv.given inv.no_feed (c.len.ensures ∙ c.loop-next.line.ok.0) c.in-Byte.is c.in-Ok.ensures.next in
    let items : c.push.new.self.items ≡ c.loop-next.line.items ++ c.in-Byte.byte ∷ [] = search rules in
    record {
      given = subst (λ (t : List ℕ). Gives (unread_of c.args.self.now (g.R.Source.state c.args.input.now)) t (unread_of c.next.new.self (g.R.Source.state c.next.new.input))) (sym items) more.given;
      short = subst (λ (t : List ℕ). length t ≤ c.args.longest) (sym items) (omega (arith, more.below, length-append c.loop-next.line.items (c.in-Byte.byte ∷ [])));
      no_feed = subst HasNoFeed (sym items) more.no_feed;
      quiet = λ enough.
          let still = stays_quiet c.args.longest c.args.self.now c.loop-next.self c.next.new.self c.args.input.now c.loop-next.input c.next.new.input c.loop-next.line.items inv.quiet inv.no_feed short c.in-Ok.ensures.quiet enough in
          (still.0, still.1, subst (λ (t : List ℕ). c.args.self.now.bytes ≡ t ++ c.next.new.self.bytes) (sym items) (used _ _ _ _ _ c.in-Ok.next still.2 c.in-Byte.is still.3));
      at_end = λ well. c.in-Ok.ensures.at_end (inv.at_end well);
    }
