use Rattle.master_parts.proofs.NamedNodes.{collect_more}
use Rattle.master_parts.proofs.nodes.names_of.Goals as goal

pub loop-name-preserved : goal.loop-name-preserved
loop-name-preserved c =
    collect_more c.args.map.now c.loop-name.name-iterator c.next.new.self c.in-Some.name.now c.in-Some.node.now c.loop-name.names c.add_name.new.names c.in-Some.ensures.steps c.in_ok-add_name.ensures.ok c.loop-name.invariant
