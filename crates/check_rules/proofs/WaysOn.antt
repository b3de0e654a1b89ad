-- What holds of each listed successor holds of each successor and callee of the row.
use Rattle.std.proofs.Common.{◌≡◌, ◌<◌, ◌≤◌, ◌+◌, Option, Some, None, IfSome, Ok, List, Contains, get_or, refl, sym, ap, subst}
use Rattle.std.specs.List.{All}
use Rattle.std.proofs.lemmas.List.Elements.{All-contains, Contains-get_or}
use Rattle.abs_step.specs.declared.next.Next.{Next}
use Rattle.abs_step.specs.declared.next.NextKind.{NextKind}
use Rattle.abs_step.specs.declared.next.NextKind.TheVariants.{Jump, Call, Exit}
use Rattle.check_cover.specs.Program.{callee_at}
use Rattle.check_cover.specs.declared.program.Callee.{Callee}
use Rattle.check_rules.specs.Stack.{NextFitsDepth, RankFalls, called_by, callee_of}
use Rattle.check_rules.specs.Table.{FitsDepth, RanksFall, bytes_in}
use Rattle.check_ways.specs.Ways.{CallsCallee, SubjectView, nexts_from, nexts_in, step_of}

-- the successors of a row are those that the step gave
pub ways_on : (s : SubjectView) (nexts : List Next) → step_of s ≡ Ok nexts → nexts_from s ≡ nexts
ways_on s nexts e = ap nexts_in e

-- a call of a callee has this callee
callee_called : (s : SubjectView) (next : Next) (callee : Callee) → CallsCallee s next callee → callee_of s next ≡ Some callee
callee_called s next callee calls =
    subst (λ (kind : NextKind). called_by kind (callee_at s.cert next.address) ≡ Some callee) (sym calls.kind) calls.called

-- what has a callee is a call of it
calls_callee : (s : SubjectView) (next : Next) (callee : Callee) → Contains (nexts_from s) next → callee_of s next ≡ Some callee → CallsCallee s next callee
calls_callee s next callee leads is = by next.kind refl is
  where
    by : (kind : NextKind) → next.kind ≡ kind → called_by kind (callee_at s.cert next.address) ≡ Some callee → CallsCallee s next callee
    by Jump k e = absurd (cc)
    by Call k e = record { leads = leads; kind = k; called = e }
    by Exit k e = absurd (cc)

-- a property of the callee of each successor
if_called : (P : Callee → Type 0) (found : Option Callee) → ((callee : Callee) → found ≡ Some callee → P callee) → IfSome found P
if_called P None all = tt
if_called P (Some callee) all = all callee refl

when_called : (P : Callee → Type 0) (found : Option Callee) (callee : Callee) → found ≡ Some callee → IfSome found P → P callee
when_called P found callee is all = subst (λ (o : Option Callee). IfSome o P) is all

pub ranks_fall : (s : SubjectView) (nexts : List Next) → step_of s ≡ Ok nexts → All (RankFalls s) nexts → RanksFall s
ranks_fall s nexts e all next callee calls =
    let listed = subst (λ (ns : List Next). Contains ns next) (ways_on s nexts e) calls.leads in
    when_called (λ (c : Callee). c.proc.rank < s.proc.rank) (callee_of s next) callee (callee_called s next callee calls) (All-contains (RankFalls s) nexts next all listed)

pub each_rank_falls : (s : SubjectView) (nexts : List Next) → step_of s ≡ Ok nexts → RanksFall s → All (RankFalls s) nexts
each_rank_falls s nexts e all k d within =
    let next = get_or nexts k d in
    let listed = subst (λ (ns : List Next). Contains ns next) (sym (ways_on s nexts e)) (Contains-get_or nexts k d within) in
    if_called (λ (c : Callee). c.proc.rank < s.proc.rank) (callee_of s next) (λ callee is. all next callee (calls_callee s next callee listed is))

pub fits_depth : (s : SubjectView) (nexts : List Next) → step_of s ≡ Ok nexts → bytes_in s s.row.state ≤ s.proc.depth → All (NextFitsDepth s) nexts → FitsDepth s
fits_depth s nexts e row all = record {
  row = row;
  nexts = λ next leads. (here next leads).way;
  calls = λ next callee calls.
      when_called (λ (c : Callee). bytes_in s next.state + c.proc.depth ≤ s.proc.depth) (callee_of s next) callee (callee_called s next callee calls) (here next calls.leads).call;
}
  where
    here : (next : Next) → Contains (nexts_from s) next → NextFitsDepth s next
    here next leads = All-contains (NextFitsDepth s) nexts next all (subst (λ (ns : List Next). Contains ns next) (ways_on s nexts e) leads)

pub each_fits_depth : (s : SubjectView) (nexts : List Next) → step_of s ≡ Ok nexts → FitsDepth s → All (NextFitsDepth s) nexts
each_fits_depth s nexts e deep k d within =
    let next = get_or nexts k d in
    let listed = subst (λ (ns : List Next). Contains ns next) (sym (ways_on s nexts e)) (Contains-get_or nexts k d within) in
    record {
      way = deep.nexts next listed;
      call = if_called (λ (c : Callee). bytes_in s next.state + c.proc.depth ≤ s.proc.depth) (callee_of s next) (λ callee is. deep.calls next callee (calls_callee s next callee listed is));
    }
