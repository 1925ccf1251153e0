use Rattle.master_laws.proofs.ShownRows.{sequencers_show_the_rows as law}
use Rattle.master_laws.proofs.sequencers.sequencers_show_the_rows.Goals as goal

pub returns : goal.returns
returns c = law
