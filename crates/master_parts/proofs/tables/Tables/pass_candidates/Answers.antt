use Rattle.std.proofs.Common.{sym, ap, ◌∙◌}
use Rattle.master_parts.specs.Ephemerals.{first_to_go}
use Rattle.master_parts.proofs.FirstIdle.{none_goes}
use Rattle.master_parts.proofs.Moved.{by_none}
use Rattle.master_parts.proofs.tables.Tables.pass_candidates.Goals as goal

pub invariant_of-self : goal.invariant_of-self
invariant_of-self c =
    by_none (record { nodes = c.self.inside.nodes; handles = c.self.inside.handles; sessions = c.self.inside.sessions; queue = c.self.inside.queue }) c.self.inside.candidates c.clear.new.self
    (λ q w there moves. none_goes (record { nodes = c.self.inside.nodes; handles = c.self.inside.handles; sessions = c.self.inside.sessions; queue = c.self.inside.queue }) c.self.inside.nodes q w (ap first_to_go c.self.view_is ∙ sym c.in-Ok-None.ensures ∙ c.in-Ok-None.field-0-is) there moves)
    c.clear.ensures.leads c.self.invariant
