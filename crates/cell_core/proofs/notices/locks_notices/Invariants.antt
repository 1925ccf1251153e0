use Rattle.std.proofs.Common.{◌≡◌, ◌++◌, drop}
use Rattle.cell_core.specs.ChangeNotices.{locks_notices}
use Rattle.cell_core.proofs.notices.locks_notices.Given as goal

abbrev pub invariant-loop-put : goal.invariant-loop-put
invariant-loop-put l = l.notices ++ locks_notices l.master.locks (drop l.put-index l.puts) ≡ locks_notices l.master.locks l.puts
