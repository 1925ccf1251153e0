use Rattle.std.proofs.Common.{rules}
use Rattle.rows_cell.proofs.settings.Settings.new.Goals as goal

pub returns-then-len-gt-CONTENT_LIMIT : goal.returns-then-len-gt-CONTENT_LIMIT
returns-then-len-gt-CONTENT_LIMIT c = search rules

pub invariant_of-result : goal.invariant_of-result
invariant_of-result c = search rules

pub returns : goal.returns
returns c = search rules
