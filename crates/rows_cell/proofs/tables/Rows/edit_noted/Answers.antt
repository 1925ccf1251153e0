use Rattle.std.proofs.Common.{◌++◌, ◌∷◌, [], ap, ◌∙◌}
use Rattle.rows_cell.proofs.Undoing.{one_noted}
use Rattle.rows_cell.proofs.tables.Rows.edit_noted.Goals as goal

pub returns-clause-back : goal.returns-clause-back
returns-clause-back c =
    one_noted _ _ _ _ _ (c.push_reserved.ensures.items ∙ ap (λ fs. fs ++ c.in_ok-former.former ∷ []) c.reserve.ensures.items) c.in_ok-former.ensures.back
