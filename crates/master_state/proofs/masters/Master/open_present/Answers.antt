use Rattle.std.proofs.Common.{sym, ◌∙◌}
use Rattle.master_state.proofs.MissingRights.{refused, opens, by_value}
use Rattle.master_state.proofs.masters.Master.open_present.Goals as goal

pub returns-in-Some : goal.returns-in-Some
returns-in-Some c = refused _ _ _ (sym c.in_ok-right.ensures ∙ c.in-Some.is)

pub returns-in-None : goal.returns-in-None
returns-in-None c =
    by_value _ _ c.new_handle.result _ _ c.new_handle.ensures (λ opened is. is ∙ opens _ _ (sym c.in_ok-right.ensures ∙ c.in-None.is))
