use Rattle.std.proofs.Common.{◌≡◌, ◌∙◌, sym, ap, Ok, Err, None, List}
use Rattle.abs_step.specs.Successors.{answer_by, answer_of, nexts_of, refusal}
use Rattle.abs_step.specs.declared.next.Next.{Next}
use Rattle.refined_step.specs.Refined.{refined_nexts}
use Rattle.refined_step.proofs.Answered.{at_err, at_ok, same_reason, told}
use Rattle.refined_step.proofs.refined.refined_answer.Goals as goal

pub refined_nexts-requires-clause-own : goal.refined_nexts-requires-clause-own
refined_nexts-requires-clause-own c =
    let g = c.args.ground.now in
    let instr = c.args.instr.now in
    let a = c.args.state.now in
    sym (told (refusal c.args.main c.args.inline instr a) (nexts_of g c.args.address c.args.main c.args.inline instr a) c.in-Ok.own.items
    (at_ok c.args.answer (λ nexts. answer_of g c.args.address c.args.main c.args.inline a (Ok instr) ≡ Ok nexts.items) c.in-Ok.own c.in-Ok.is c.requires.ok)).1

pub returns-in-Ok-clause-ok : goal.returns-in-Ok-clause-ok
returns-in-Ok-clause-ok c =
    let g = c.args.ground.now in
    let instr = c.args.instr.now in
    let a = c.args.state.now in
    let t = told (refusal c.args.main c.args.inline instr a) (nexts_of g c.args.address c.args.main c.args.inline instr a) c.in-Ok.own.items
    (at_ok c.args.answer (λ nexts. answer_of g c.args.address c.args.main c.args.inline a (Ok instr) ≡ Ok nexts.items) c.in-Ok.own c.in-Ok.is c.requires.ok) in
    ap (λ o. answer_by o (refined_nexts g c.args.address c.args.main c.args.inline instr c.args.parts.now a)) t.0 ∙ ap (λ (ns : List Next). answer_by None ns) (sym c.refined_nexts.ensures.value)

pub returns-in-Err-clause-err : goal.returns-in-Err-clause-err
returns-in-Err-clause-err c =
    let g = c.args.ground.now in
    let instr = c.args.instr.now in
    let a = c.args.state.now in
    same_reason (refusal c.args.main c.args.inline instr a) (nexts_of g c.args.address c.args.main c.args.inline instr a) (refined_nexts g c.args.address c.args.main c.args.inline instr c.args.parts.now a) c.in-Err.reason
    (at_err c.args.answer (λ reason. answer_of g c.args.address c.args.main c.args.inline a (Ok instr) ≡ Err reason) c.in-Err.reason c.in-Err.is c.requires.err)
