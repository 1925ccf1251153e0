use Rattle.std.proofs.Common.{◌≡◌}
use Rattle.session_core.proofs.Quiet.{AreLeft}
use Rattle.session_core.proofs.moments.note_all.Given as goal

abbrev pub invariant-loop-client : goal.invariant-loop-client
invariant-loop-client g l = (l.bounds.most_events ≡ l.fn.bounds.most_events) × AreLeft _ l.lease l.bounds.ends l.bounds.answers l.client-iterator l.sessions.entries
