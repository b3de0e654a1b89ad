use Rattle.std.proofs.Common.{◌≡◌, Some, refl, slice_get, subst, sym}
use Rattle.check_ways.specs.Ways.{SubjectView}
use Rattle.check_walks.proofs.WalkLemmas.{between_numbers, listed_at}
use Rattle.path_time.proofs.links.cost_to.Goals as goal

pub cost_between-requires-clause-listed : goal.cost_between-requires-clause-listed
cost_between-requires-clause-listed c =
    let s = c.args.subject.now in
    let target = c.in_ok-target.target in
    let at : slice_get s.cert.rows c.args.to ≡ Some target =
    subst (λ (x : SubjectView). slice_get x.cert.rows c.args.to ≡ Some target) c.subject.view_is (sym (c.in_ok-target.ensures {u = tt})) in
    listed_at s.cert s.cert c.args.to target refl at

pub returns : goal.returns
returns c =
    λ from is.
    let s = c.args.subject.now in
    let target = c.in_ok-target.target in
    let at : slice_get s.cert.rows c.args.to ≡ Some target =
    subst (λ (x : SubjectView). slice_get x.cert.rows c.args.to ≡ Some target) c.subject.view_is (sym (c.in_ok-target.ensures {u = tt})) in
    between_numbers s.rom s.cert from c.args.to s target c.cost_between.result is at c.cost_between.ensures
