-- Who a handle is to a lock.
use Rattle.node_core.specs.declared.kinds.LockMode.{LockMode}
use Rattle.tags_cell.specs.declared.handles.Handle.{Handle}
use Rattle.lock_core.specs.declared.claims.Owner.{Owner}
use Rattle.lock_core.specs.declared.claims.Claim.{Claim}

-- who a handle is to a lock
abbrev pub owner_of : Handle → Owner
owner_of handle = record { client = handle.client; handle = handle.number }

-- how a handle asks for a lock
abbrev pub claim_of : Handle → LockMode → Claim
claim_of handle mode = record { owner = owner_of handle; hold = record { mode = mode; delay = handle.delay } }
