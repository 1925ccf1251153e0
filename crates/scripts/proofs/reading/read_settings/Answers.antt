use Rattle.std.proofs.Common.{rules}
use Rattle.scripts.proofs.Unread.{unread}
use Rattle.scripts.proofs.reading.read_settings.Goals as goal

pub returns-in-Ok-clause-err : goal.returns-in-Ok-clause-err
returns-in-Ok-clause-err c = unread _ _ c.in-Ok.ensures.ok _ c.settings_of.ensures.err
