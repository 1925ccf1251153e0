use Rattle.std.proofs.Common.{◌∙◌}
use Rattle.collections.proofs.Formers.{put_back}
use Rattle.collections.proofs.tables.Table.put.Goals as goal

pub returns-clause-undone : goal.returns-clause-undone
returns-clause-undone g c =
    let e = c.in_ok-insert.ensures in
    rw (e.entries, e.old) (put_back g.K.Ord.cmp g.met.K.Ord.total c.self.inside.map.entries c.args.key c.args.value e.was_ordered) ∙ c.self.view_is
