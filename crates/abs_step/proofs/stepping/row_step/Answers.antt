use Rattle.std.proofs.Common.{◌≡◌, ◌∙◌, ap, if◌then◌else◌, List, []}
use Rattle.t_states.specs.Io.{is_io}
use Rattle.abs_draft.specs.Outcomes.{known_at_test}
use Rattle.abs_draft.specs.declared.data_write.DataWrite.{DataWrite}
use Rattle.abs_draft.specs.declared.draft.AbsDraft.{AbsDraft}
use Rattle.abs_step.proofs.WritesAlike.{at_test, writes_alike}
use Rattle.abs_step.proofs.stepping.row_step.Goals as goal

pub returns-clause-writes : goal.returns-clause-writes
returns-clause-writes c =
    let g = c.args.ground.now in
    let instr = c.args.instr.now in
    let a = c.args.state.now in
    let known : c.make_to_test-tested.new.self ≡ known_at_test g c.args.address c.args.inline instr a = at_test g c.args.inline _ _ _ _ _ c.make_to_test-tested.ensures.made (c.as_slice.ensures ∙ c.moves_for-moves.ensures) (c.before-known.ensures instr c.requires.len) in
    c.writes_at_test-writes.ensures
    ∙ ap (λ (ws : List DataWrite). if is_io instr then [] else ws) (ap (λ (k : AbsDraft). k.writes.items) known ∙ ap (λ ws. ws.items) (writes_alike g c.args.address c.args.inline instr a))
