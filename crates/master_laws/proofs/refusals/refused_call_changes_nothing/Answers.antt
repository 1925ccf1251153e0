use Rattle.master_laws.proofs.RefusedCalls.{refused_call_changes_nothing as law}
use Rattle.master_laws.proofs.refusals.refused_call_changes_nothing.Goals as goal

pub returns : goal.returns
returns c = law
