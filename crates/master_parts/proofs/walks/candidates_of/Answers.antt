use Rattle.master_parts.proofs.Looked.{look_more, look_last, found_last}
use Rattle.master_parts.proofs.walks.candidates_of.Goals as goal

pub loop-name-preserved : goal.loop-name-preserved
loop-name-preserved c =
    look_more c.args.nodes.now c.loop-name.name-iterator c.next.new.self c.in-Some.name.now c.in-Some.node.now c.loop-name.candidates c.note_node.new.candidates c.in-Some.ensures.steps c.note_node.ensures.has c.note_node.ensures.found c.note_node.ensures.leads c.note_node.ensures.kept c.loop-name.invariant

pub returns-clause-has : goal.returns-clause-has
returns-clause-has c = look_last c.args.nodes.now c.loop-name.name-iterator c.loop-name.candidates c.in-None.ensures.steps.0 c.loop-name.invariant

pub returns-clause-found : goal.returns-clause-found
returns-clause-found c = found_last c.args.nodes.now c.loop-name.name-iterator c.loop-name.candidates c.in-None.ensures.steps.0 c.loop-name.invariant
