use Rattle.master_laws.proofs.FreeLocks.{awaited_locks_are_held as law}
use Rattle.master_laws.proofs.free_locks.awaited_locks_are_held.Goals as goal

pub returns : goal.returns
returns c = law
