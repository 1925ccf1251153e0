use Rattle.std.proofs.Common.{◌≡◌, Some, false, sym, subst}
use Rattle.node_core.specs.declared.nodes.Node.{Node}
use Rattle.node_core.specs.Nodes.{get_node}
use Rattle.master_parts.specs.State.{TableState}
use Rattle.master_parts.specs.Ephemerals.{goes}
use Rattle.master_parts.proofs.Moved.{by_pass}
use Rattle.master_parts.proofs.tables.Tables.pass_first.Goals as goal

pub invariant_of-self : goal.invariant_of-self
invariant_of-self c =
    let P : TableState → Type 0 = λ t. (w : Node) → get_node t.nodes c.in-Some.name ≡ Some w → goes t (c.in-Some.name, w) ≡ false in
    by_pass (record { nodes = c.self.inside.nodes; handles = c.self.inside.handles; sessions = c.self.inside.sessions; queue = c.self.inside.queue }) c.self.inside.candidates c.pass.new.self c.in-Some.name (subst P (sym c.self.view_is) c.in-Some.ensures) c.pass.ensures.kept c.pass.ensures.leads c.self.invariant
