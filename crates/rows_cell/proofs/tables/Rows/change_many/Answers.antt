use Rattle.std.proofs.Common.{rules, tests, ◌∙◌, sym}
use Rattle.std.proofs.lemmas.Iterator.{YieldsList-from_slice}
use Rattle.std.proofs.lemmas.Iterator.Search.{any_from_yields_List}
use Rattle.rows_cell.specs.Undo.{removes_row}
use Rattle.rows_cell.proofs.tables.Rows.change_many.Goals as goal

pub edit_all-requires : goal.edit_all-requires
edit_all-requires c =
    let found = any_from_yields_List removes_row _ _ _ c.any.ensures.ran
    (YieldsList-from_slice c.args.change.now c.iter.ensures.rest)
    (λ x b q k. search (rules, tests)) in
    sym found ∙ c.if-any.false
