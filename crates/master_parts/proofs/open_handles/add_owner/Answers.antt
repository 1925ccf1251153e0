use Rattle.master_parts.proofs.OwnedHandles.{owner_kept, owner_found}
use Rattle.master_parts.proofs.open_handles.add_owner.Goals as goal

pub returns-clause-kept : goal.returns-clause-kept
returns-clause-kept c = owner_kept c.args.keys.now c.put.new.self (record { client = c.in-Some.client; number = c.in-Some-new.number }) tt c.in_ok-put.ensures.ok

pub returns-clause-found : goal.returns-clause-found
returns-clause-found c =
    owner_found c.args.owner.now c.args.keys.now c.put.new.self c.in-Some.client c.in-Some-new.number tt c.in_ok-put.ensures.ok c.in-Some.ensures.1 c.in-Some-new.ensures.1
