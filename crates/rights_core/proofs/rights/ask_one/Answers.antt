use Rattle.std.proofs.Common.{sym, ◌∙◌}
use Rattle.rights_core.proofs.Asks.{issued_one, issued_none}
use Rattle.rights_core.proofs.rights.ask_one.Goals as goal

pub returns-in-Some-clause-issued : goal.returns-in-Some-clause-issued
returns-in-Some-clause-issued g c =
    c.issue_through.ensures ∙ issued_one g.I.Issues.issued c.args.holdings.now c.args.client c.args.number c.in-Some.invalidation c.args.issues.now (sym c.in-Some.ensures.asked)

pub returns-in-None-clause-issued : goal.returns-in-None-clause-issued
returns-in-None-clause-issued g c = issued_none g.I.Issues.issued c.args.holdings.now c.args.client c.args.number c.args.issues.now (sym c.in-None.ensures.asked)
