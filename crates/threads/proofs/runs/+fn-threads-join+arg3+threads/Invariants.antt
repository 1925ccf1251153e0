use Rattle.std.proofs.Common.{◌+◌, ◌*◌, length}
use Rattle.threads.proofs.runs.+fn-threads-join+arg3+threads.Given as goal

abbrev pub decreases-threads : goal.decreases-threads
decreases-threads g l = 2 * length l.passes.now

abbrev pub decreases-join+arg3 : goal.decreases-join+arg3
decreases-join+arg3 g l = 2 * length l.rest.now + 1
