use Rattle.std.proofs.Common.{rules, ap, refl, Some, codes}
use Rattle.toml.proofs.Views.{table_get}
use Rattle.scripts.proofs.reading.cell_at.Goals as goal

pub returns-in-Some : goal.returns-in-Some
returns-in-Some c =
    let found = table_get c.get.result (codes "cell") c.args.table.now.entries c.get.ensures.value in
    rw (← rw c.in-Some.is at found) c.cell_in.ensures

pub returns-in_ok-component-in-None : goal.returns-in_ok-component-in-None
returns-in_ok-component-in-None c =
    let found = table_get c.get.result (codes "cell") c.args.table.now.entries c.get.ensures.value in
    rw (← rw c.in-None.is at found) (ap (λ x. Some x) c.in_ok-component-in-None.ensures)
