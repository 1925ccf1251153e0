use Rattle.std.proofs.Common.{Some}
use Rattle.std.specs.BTreeMap.{is_at}
use Rattle.std.specs.Cmp.Lexicographic.{slice_cmp}
use Rattle.std.specs.Ordering.{nat_cmp}
use Rattle.collections.proofs.Formers.{set_absent}
use Rattle.node_core.specs.Room.{content_bytes}
use Rattle.node_core.proofs.Orders.{former_in_order}
use Rattle.node_core.proofs.Contents.{replaced_counted}
use Rattle.node_core.proofs.maps.Map.replace.Goals as goal

pub invariant_of-self : goal.invariant_of-self
invariant_of-self c = (
  rw c.in-Ok.ensures.set (former_in_order c.self.inside.nodes c.args.name.now (Some c.args.node) c.self.invariant.0),
  c.change.ensures (content_bytes c.self.inside.nodes) (content_bytes c.replace.new.self) c.self.invariant.1
      (replaced_counted c.self.inside.nodes c.replace.new.self c.args.name.now c.args.node c.in-Ok.former c.content_length.result c.content_length-came.result c.in-Ok.ensures.set c.in-Ok.ensures.found c.content_length.ensures c.content_length-came.ensures),
)

pub returns-in-Err : goal.returns-in-Err
returns-in-Err c = let stays = set_absent (is_at (slice_cmp nat_cmp c.args.name.now)) c.self.inside.nodes c.args.node c.in-Err.ensures.absent.0 in let same = c.in-Err.ensures.absent.2 in let whole = c.self.view_is in cc
