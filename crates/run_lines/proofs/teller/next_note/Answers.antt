use Rattle.run_lines.proofs.teller.next_note.Goals as goal

pub returns-in_default : goal.returns-in_default
returns-in_default c = c.end_note.ensures c.args.kind c.args.before c.in_default.not-Accept
