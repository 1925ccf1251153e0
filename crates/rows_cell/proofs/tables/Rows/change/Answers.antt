use Rattle.std.proofs.Common.{rules, tests, ◌∙◌, sym}
use Rattle.std.proofs.lemmas.Iterator.{YieldsList-from_slice}
use Rattle.std.proofs.lemmas.Iterator.Search.{any_from_yields_List}
use Rattle.rows_cell.specs.Rows.{takes_memory}
use Rattle.rows_cell.proofs.tables.Rows.change.Goals as goal

pub set_all-requires : goal.set_all-requires
set_all-requires c =
    let found = any_from_yields_List takes_memory _ _ _ c.any.ensures.ran
    (YieldsList-from_slice c.in-Some.others.now c.iter.ensures.rest)
    (λ x b q k. search (rules, tests)) in
    sym found ∙ c.if-any.false
