use Rattle.std.proofs.Common.{rules, ◌≡◌, false, is_some}
use Rattle.rows_cell.proofs.InstanceTables.{gather_more}
use Rattle.rows_cell.proofs.soundness.generations_of.Goals as goal

pub loop-name-preserved : goal.loop-name-preserved
loop-name-preserved c =
    let free : is_some c.in_ok-former.former ≡ false = search rules in
    gather_more c.args.nodes.now c.loop-name._name-iterator c.next.new.self c.in-Some._name.now c.in-Some.node.now c.loop-name.generations c.put.new.self c.in_ok-former.former c.loop-name.invariant c.in-Some.ensures.steps c.in_ok-former.ensures.former free c.in_ok-former.ensures.ok
