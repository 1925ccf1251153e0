use Rattle.master_laws.proofs.RefusedApplications.{refused_application_changes_nothing as law}
use Rattle.master_laws.proofs.refusals.refused_application_changes_nothing.Goals as goal

pub returns : goal.returns
returns c = law
