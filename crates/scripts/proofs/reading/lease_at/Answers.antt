use Rattle.std.proofs.Common.{rules, ap, refl, Some, codes}
use Rattle.toml.proofs.Views.{table_get}
use Rattle.scripts.proofs.reading.lease_at.Goals as goal

pub returns-in-Some-clause-said : goal.returns-in-Some-clause-said
returns-in-Some-clause-said c =
    let found = table_get c.get.result (codes "lease") c.args.table.now.entries c.get.ensures.value in
    rw (← rw c.in-Some.is at found) c.lease_in.ensures.said

pub returns-in-None-clause-said : goal.returns-in-None-clause-said
returns-in-None-clause-said c =
    let found = table_get c.get.result (codes "lease") c.args.table.now.entries c.get.ensures.value in
    rw (← rw c.in-None.is at found) refl
