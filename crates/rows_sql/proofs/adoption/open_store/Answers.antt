use Rattle.rows_sql.proofs.Adoptions.{anew, left_quiet}
use Rattle.rows_sql.proofs.adoption.open_store.Goals as goal

pub returns-clause-ok : goal.returns-clause-ok
returns-clause-ok g c =
    anew g.S.Store c.args.store c.over.result (λ s. g.met.S.Store.ordered s) (λ s. g.met.S.Alter.listed s) c.requires c.over.ensures.opens c.over.ensures.clean c.over.ensures.trees c.over.ensures.fresh

pub returns-clause-err : goal.returns-clause-err
returns-clause-err g c = left_quiet g.S.Store c.args.store c.over.result c.over.ensures.unharmed
