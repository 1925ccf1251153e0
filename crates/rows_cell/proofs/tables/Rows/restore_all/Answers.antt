use Rattle.std.proofs.Common.{◌++◌, ap, ◌∙◌}
use Rattle.std.specs.Prelude.{option_to_list}
use Rattle.rows_cell.proofs.Undoing.{one_back}
use Rattle.rows_cell.proofs.tables.Rows.restore_all.Goals as goal

pub loop-former-preserved : goal.loop-former-preserved
loop-former-preserved c =
    one_back _ _ _ _ _ (c.pop.ensures.last ∙ ap (λ o. c.pop.new.self ++ option_to_list o) c.in-Some.is) c.restore.ensures ∙ c.loop-former.invariant
