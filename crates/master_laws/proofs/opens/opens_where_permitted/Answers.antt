use Rattle.master_laws.proofs.PlainOpens.{opens_where_permitted as law}
use Rattle.master_laws.proofs.opens.opens_where_permitted.Goals as goal

pub returns : goal.returns
returns c = law
