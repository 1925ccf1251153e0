use Rattle.std.proofs.Common.{drop}
use Rattle.master_state.proofs.ToldHandles.{Concerns}
use Rattle.master_state.proofs.masters.Master.concerned.Given as goal

abbrev pub invariant-loop-notice : goal.invariant-loop-notice
invariant-loop-notice l = Concerns l.self l.notices (drop l.notice-index l.notices) l.keys
