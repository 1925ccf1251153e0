use Rattle.client_core.proofs.Numbered.{refused_call_changes_nothing as law}
use Rattle.client_core.proofs.laws.refused_call_changes_nothing.Goals as goal

pub returns : goal.returns
returns c = law
