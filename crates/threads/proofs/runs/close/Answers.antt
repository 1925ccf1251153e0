use Rattle.threads.proofs.runs.close.Goals as goal

pub returns-in-Ok : goal.returns-in-Ok
returns-in-Ok g c = record { settled = c.in-Ok.ensures.ok }
