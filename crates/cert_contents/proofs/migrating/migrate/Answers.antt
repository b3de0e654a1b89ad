use Rattle.std.proofs.Common.{ap, ◌∙◌}
use Rattle.cert_form.specs.Migrated.{migrated}
use Rattle.cert_contents.proofs.MigratingLemmas.{is_migrated, migrated_in_form}
use Rattle.cert_contents.proofs.migrating.migrate.Goals as goal

pub invariant_of-result : goal.invariant_of-result
invariant_of-result c =
    migrated_in_form _ _ _ c.draft.view_is c.migrated_version-version.ensures c.into_draft-draft.ensures.form

pub returns-clause-value : goal.returns-clause-value
returns-clause-value c =
    is_migrated _ _ _ c.draft.view_is c.migrated_version-version.ensures c.into_draft-draft.ensures.form
    ∙ ap migrated c.into_draft-draft.ensures.value

pub returns-clause-form : goal.returns-clause-form
returns-clause-form c =
    migrated_in_form _ _ _ c.draft.view_is c.migrated_version-version.ensures c.into_draft-draft.ensures.form
