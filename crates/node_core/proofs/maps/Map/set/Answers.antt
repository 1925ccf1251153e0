use Rattle.node_core.specs.Room.{content_bytes}
use Rattle.node_core.proofs.Orders.{set_in_order}
use Rattle.node_core.proofs.Contents.{put_counted}
use Rattle.node_core.proofs.maps.Map.set.Goals as goal

pub invariant_of-self-2 : goal.invariant_of-self-2
invariant_of-self-2 c = (
  set_in_order c.self.inside.nodes c.put.new.self c.args.name c.args.node c.put.result c.put.ensures.ok c.put.ensures.err c.self.invariant.0 c.as_str-text.ensures.name,
  c.change.ensures (content_bytes c.self.inside.nodes) (content_bytes c.put.new.self) c.self.invariant.1
      (put_counted c.self.inside.nodes c.put.new.self c.args.name c.args.node c.in_ok-former.former c.length_of.result c.content_length-came.result c.self.invariant.0 c.in_ok-former.ensures.ok c.in_ok-former.ensures.former c.length_of.ensures c.content_length-came.ensures),
)
