use Rattle.std.proofs.Common.{◌≡◌, ◌<◌, ◌++◌, [], ◌∷◌, length, arith, rules}
use Rattle.std.proofs.lemmas.Grind.{common_steps}
use Rattle.call_graph.proofs.StateLemmas.{enter_lists}
use Rattle.call_graph.proofs.walk.Walk.enter.Goals as goal

pub returns-clause-holds : goal.returns-clause-holds
returns-clause-holds c =
    let w = c.args.self.now in
    let in_room : c.args.proc < length w.marks.items = search rules in
    let place : c.len-place.result ≡ length w.met.items = search rules in
    let met : c.push.new.self.items ≡ w.met.items ++ c.args.proc ∷ [] = grind (arith, common_steps) in
    let path : c.push-2.new.self.items ≡ w.path.items ++ (record { place = c.len-place.result; next = c.first_call.result; low = c.len-place.result }) ∷ [] = grind (arith, common_steps) in
    record {
      kept = rw (met, path, c.from.ensures, place) (enter_lists c.args.calls.now w.marks.items w.met.items w.path.items w.order.items c.args.proc c.first_call.result
          c.requires.holds.kept in_room c.requires.unseen c.requires.known c.requires.called
          c.first_call.ensures.bound (λ i. c.first_call.ensures.before i (record { caller = 0; callee = 0 })) (λ i. c.first_call.ensures.from i (record { caller = 0; callee = 0 })));
      room = c.requires.holds.room;
    }
