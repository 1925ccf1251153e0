use Rattle.std.proofs.Common.{◌∙◌, ap}
use Rattle.rows_remote.specs.Keeping.{stood}
use Rattle.rows_remote.proofs.Keepings.{stood_last}
use Rattle.rows_remote.proofs.records.noted.Goals as goal

pub returns : goal.returns
returns c = ap stood c.and.ensures ∙ stood_last c.args.past.now.items c.args.note.now c.args.change.now
