use Rattle.std.proofs.Common.{List, subst, sym}
use Rattle.std.proofs.lemmas.Result.{err_from_is_err_and}
use Rattle.path_time.specs.Links.{AreLinks, HaveRows}
use Rattle.path_time.specs.Table.{IsTableFault}
use Rattle.path_time.specs.declared.links.Link.{Link}
use Rattle.path_time.proofs.LinkLemmas.{have_rows}
use Rattle.path_time.proofs.RoundLemmas.{order_table_fault, round_cycle}
use Rattle.path_time.proofs.walks.table_of.Goals as goal

pub order_of-requires : goal.order_of-requires
order_of-requires c =
    subst (λ (links : List Link). HaveRows c.args.certificate.now links) (sym c.deref.ensures.value)
    (have_rows c.args.rom.now c.args.certificate.now c.args.proc c.in-Ok.links.items (c.in-Ok.ensures {u = tt}).links)

pub returns-in_err-rows-clause-fault : goal.returns-in_err-rows-clause-fault
returns-in_err-rows-clause-fault c =
    let rom = c.args.rom.now in
    let cert = c.args.certificate.now in
    let links = c.deref.result.now in
    let fault = c.in_err-rows.field-0.0 in
    let are = subst (λ (ls : List Link). AreLinks rom cert c.args.proc ls) (sym c.deref.ensures.value) (c.in-Ok.ensures {u = tt}).links in
    let told : IsTableFault rom cert c.args.proc fault =
    order_table_fault rom cert c.args.proc links fault c.is_in_form.ensures are (c.in_err-rows.ensures {u = tt}).fault in
    let p = err_from_is_err_and c.from_residual.result c.from_residual.ensures.1 in
    rw (p.1, p.2) told

pub returns-in-Ok-table_along-clause-endless : goal.returns-in-Ok-table_along-clause-endless
returns-in-Ok-table_along-clause-endless c = λ rows round.
    (c.in_ok-rows.ensures {u = tt}).endless rows
    (round_cycle c.args.rom.now c.args.certificate.now c.args.proc c.deref.result.now rows
    (subst (λ (links : List Link). AreLinks c.args.rom.now c.args.certificate.now c.args.proc links) (sym c.deref.ensures.value) (c.in-Ok.ensures {u = tt}).links)
    round)
