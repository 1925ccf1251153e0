use Rattle.master_parts.proofs.IndexedNodes.{index_more, index_last}
use Rattle.master_parts.proofs.nodes.index_of.Goals as goal

pub loop-name-preserved : goal.loop-name-preserved
loop-name-preserved c = λ t.
    index_more c.args.map.now c.loop-name.name-iterator c.next.new.self c.in-Some.name.now c.in-Some.node.now c.loop-name.index.names c.add.new.self.names c.in-Some.ensures.steps c.add.ensures.others (c.in_ok-add.ensures.own t) (c.loop-name.invariant (c.add.ensures.complete t))

pub returns : goal.returns
returns c = λ t. index_last c.args.map.now c.loop-name.name-iterator c.loop-name.index.names c.in-None.ensures.steps.0 (c.loop-name.invariant t)
