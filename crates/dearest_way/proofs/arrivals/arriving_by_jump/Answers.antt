use Rattle.std.proofs.Common.{◌∙◌, ap, subst, sym}
use Rattle.check_ways.specs.Pays.{Lands}
use Rattle.check_ways.specs.Ways.{WayView}
use Rattle.check_ways.proofs.RestartLemmas.{own_jump}
use Rattle.dearest_way.proofs.arrivals.arriving_by_jump.Goals as goal

pub returns-then-jump_lands : goal.returns-then-jump_lands
returns-then-jump_lands c =
    let s = c.args.subject.now in
    let own = own_jump s c.args.next.now (sym c.restarts.ensures ∙ c.if-restarts.false) in
    record {
      lands = subst (λ (w : WayView). Lands s.cert w c.args.target.now) own (c.jump_lands.ensures c.if-jump_lands.true);
      state_is = c.copied.ensures ∙ ap (λ (w : WayView). w.state) own;
    }
