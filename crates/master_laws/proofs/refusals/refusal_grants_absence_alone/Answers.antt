use Rattle.master_laws.proofs.RefusedCalls.{refusal_grants_absence_alone as law}
use Rattle.master_laws.proofs.refusals.refusal_grants_absence_alone.Goals as goal

pub returns : goal.returns
returns c = law
