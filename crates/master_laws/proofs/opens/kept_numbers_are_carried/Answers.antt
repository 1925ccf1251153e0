use Rattle.master_laws.proofs.KeptNumbers.{kept_numbers_are_carried as law}
use Rattle.master_laws.proofs.opens.kept_numbers_are_carried.Goals as goal

pub returns : goal.returns
returns c = law
