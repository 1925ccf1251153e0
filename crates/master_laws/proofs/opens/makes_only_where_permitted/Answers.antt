use Rattle.master_laws.proofs.Creates.{makes_only_where_permitted as law}
use Rattle.master_laws.proofs.opens.makes_only_where_permitted.Goals as goal

pub returns : goal.returns
returns c = law
