use Rattle.std.proofs.Common.{◌≡◌, drop}
use Rattle.master_state.specs.Notices.{event_for}
use Rattle.master_state.proofs.masters.Master.event_for.Given as goal

abbrev pub invariant-loop-notice : goal.invariant-loop-notice
invariant-loop-notice l = event_for l.self l.handle (drop l.notice-index l.notices) ≡ event_for l.self l.handle l.notices
