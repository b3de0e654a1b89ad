use Rattle.std.proofs.Common.{subst, sym}
use Rattle.check_ways.specs.Parts.{IsOnlyExit}
use Rattle.check_ways.specs.Ways.{SubjectView}
use Rattle.check_ways.proofs.ReturnLemmas.{only_in_form}
use Rattle.check_ways.proofs.subject.Subject.exit_at.Goals as goal

pub returns : goal.returns
returns c =
    subst (λ (s : SubjectView). IsOnlyExit s c.args.id c.exit_of.result) c.self.view_is
    (record {
      is =
          only_in_form c.self.inside.rom.now c.self.inside.certificate.now c.args.id c.in_ok-row.row c.exit_of.result c.is_in_form.ensures
          (sym (c.in_ok-row.ensures {u = tt})) c.exit_of.ensures.state c.exit_of.ensures.decodes;
    })
