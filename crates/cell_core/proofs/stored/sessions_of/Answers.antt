use Rattle.std.specs.Ordering.{nat_cmp}
use Rattle.std.specs.Map.{keys_of}
use Rattle.std.specs.List.Sorted.{IsStrictlySortedBy}
use Rattle.cell_core.proofs.TakenOver.{Stored, one_more}
use Rattle.cell_core.proofs.stored.sessions_of.Goals as goal

pub loop-client-preserved : goal.loop-client-preserved
loop-client-preserved c =
    let P : Stored → Type 0 = λ all. IsStrictlySortedBy nat_cmp (keys_of all) in
    let sorted : P c.args.rows.now.sessions = rw (← c.as_map-stored.ensures) c.len-count.ensures.ordered in
    one_more c.args.lease c.args.now c.args.rows.now.sessions c.loop-client.client-iterator c.next.new.self c.loop-client.sessions c.recover.new.self c.in-Some.client.now c.in-Some.session.now c.in_ok-clone.field-0 sorted c.loop-client.invariant c.in-Some.ensures.steps c.in_ok-clone.ensures.cases c.in_ok-recover.ensures.ok
