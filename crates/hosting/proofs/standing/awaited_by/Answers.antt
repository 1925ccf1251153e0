use Rattle.std.proofs.Common.{sym, ◌∙◌}
use Rattle.hosting.proofs.Standings.{none_awaited_in}
use Rattle.hosting.proofs.standing.awaited_by.Goals as goal

pub returns-then-nobody_holds : goal.returns-then-nobody_holds
returns-then-nobody_holds c = c.new.ensures ∙ sym (none_awaited_in _ _ _ _ _ c.rights-rights.ensures c.nobody_holds.ensures c.if-nobody_holds.true)
