use Rattle.std.proofs.Common.{rules}
use Rattle.rows_cell.proofs.records.FaultFromStoreFault.from.Goals as goal

pub returns-in-Refused : goal.returns-in-Refused
returns-in-Refused c = search rules
