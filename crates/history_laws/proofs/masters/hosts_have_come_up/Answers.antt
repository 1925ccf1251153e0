use Rattle.history_laws.proofs.HostsUp.{hosts_have}
use Rattle.history_laws.proofs.masters.hosts_have_come_up.Goals as goal

pub returns : goal.returns
returns c = hosts_have
