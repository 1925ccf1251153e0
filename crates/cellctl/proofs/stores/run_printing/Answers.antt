use Rattle.cellctl.proofs.stores.run_printing.Goals as goal

pub returns-clause-ran : goal.returns-clause-ran
returns-clause-ran g c = c.run_over.ensures.ran
