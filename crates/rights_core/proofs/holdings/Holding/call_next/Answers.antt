use Rattle.std.proofs.Common.{Some, ap, ◌∙◌}
use Rattle.rights_core.specs.Indexes.{asked_holding}
use Rattle.rights_core.proofs.holdings.Holding.call_next.Goals as goal

pub returns-in-Some-clause-holding : goal.returns-in-Some-clause-holding
returns-in-Some-clause-holding c = c.call_back.ensures ∙ ap (λ o. asked_holding (Some c.args.number) o c.args.self.now) c.in-Some.ensures

pub returns-in-None-clause-holding : goal.returns-in-None-clause-holding
returns-in-None-clause-holding c = ap (λ o. asked_holding (Some c.args.number) o c.args.self.now) c.in-None.ensures
