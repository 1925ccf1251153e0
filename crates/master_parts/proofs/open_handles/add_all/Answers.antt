use Rattle.master_parts.specs.Keys.{handle_order}
use Rattle.master_parts.proofs.PlacedHandles.{exact_handle, collect_more}
use Rattle.master_parts.proofs.open_handles.add_all.Goals as goal

pub loop-key-preserved : goal.loop-key-preserved
loop-key-preserved c =
    collect_more handle_order exact_handle (λ e. e.0) c.args.states.now c.loop-key.key-iterator c.next.new.self (c.in-Some.key.now, c.in-Some.field-0-1.now) c.args.keys.now c.loop-key.keys c.put.new.self tt c.in-Some.ensures.steps c.in_ok-put.ensures.ok c.loop-key.invariant
