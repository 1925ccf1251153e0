use Rattle.std.proofs.Common.{ap, ◌∙◌}
use Rattle.master_parts.specs.Ephemerals.{first_to_go}
use Rattle.master_state.specs.State.{tables_of}
use Rattle.master_state.proofs.MissingRights.{by_value}
use Rattle.cell_core.proofs.ephemerals.first_to_go.Goals as goal

pub returns : goal.returns
returns c = by_value _ _ c.first_to_go.result _ _ c.first_to_go.ensures (λ idle is. is ∙ ap (λ s. first_to_go (tables_of s)) c.master.view_is)
