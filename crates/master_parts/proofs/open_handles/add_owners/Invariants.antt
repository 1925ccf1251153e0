use Rattle.master_parts.proofs.OwnedHandles.{Owned}
use Rattle.master_parts.proofs.open_handles.add_owners.Given as goal

abbrev pub invariant-loop-owner : goal.invariant-loop-owner
invariant-loop-owner l = Owned l.holders l.owner-iterator l.fn.keys l.keys
