use Rattle.std.proofs.Common.{rules}
use Rattle.master_state.proofs.DepartedClients.{last_back}
use Rattle.master_state.proofs.departed.Departed.add.Goals as goal

pub returns-clause-back : goal.returns-clause-back
returns-clause-back c = last_back _ _ c.args.client (search rules)
