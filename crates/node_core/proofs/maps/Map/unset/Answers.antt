use Rattle.node_core.specs.Room.{content_bytes}
use Rattle.node_core.proofs.Orders.{gone_in_order}
use Rattle.node_core.proofs.Contents.{gone_counted}
use Rattle.node_core.proofs.maps.Map.unset.Goals as goal

pub invariant_of-self : goal.invariant_of-self
invariant_of-self c = (
  rw c.remove-former.ensures.removed (gone_in_order c.self.inside.nodes c.args.name.now c.self.invariant.0),
  c.change.ensures (content_bytes c.self.inside.nodes) (content_bytes c.remove-former.new.self) c.self.invariant.1
      (gone_counted c.self.inside.nodes c.remove-former.new.self c.args.name.now c.remove-former.result c.length_of.result c.remove-former.ensures.removed c.remove-former.ensures.former c.length_of.ensures),
)
