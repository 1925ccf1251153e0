use Rattle.std.proofs.Common.{sym, ap, ◌∙◌}
use Rattle.master_parts.specs.Ephemerals.{idle_at}
use Rattle.master_parts.proofs.FirstIdle.{stays_at}
use Rattle.master_parts.proofs.Moved.{by_pass}
use Rattle.master_parts.proofs.tables.Tables.pass.Goals as goal

pub invariant_of-self : goal.invariant_of-self
invariant_of-self c =
    by_pass (record { nodes = c.self.inside.nodes; handles = c.self.inside.handles; sessions = c.self.inside.sessions; queue = c.self.inside.queue }) c.self.inside.candidates c.pass.new.self c.args.name.now
    (λ w there. stays_at (record { nodes = c.self.inside.nodes; handles = c.self.inside.handles; sessions = c.self.inside.sessions; queue = c.self.inside.queue }) c.args.name.now w (sym c.in-Ok-None.field-0-is ∙ c.in-Ok-None.ensures ∙ ap (λ t. idle_at t c.args.name.now) (sym c.self.view_is)) there)
    c.pass.ensures.kept c.pass.ensures.leads c.self.invariant
