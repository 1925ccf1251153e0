-- The order of the keys of locks.
use Rattle.std.specs.declared.cmp.Ordering.{Ordering}
use Rattle.std.specs.Ordering.{nat_cmp, ordering_then}
use Rattle.rows_cell.specs.declared.keys.LockKey.{LockKey}

-- by instance, then client, then handle
abbrev pub lock_order : LockKey → LockKey → Ordering
lock_order x y = ordering_then (ordering_then (nat_cmp x.instance y.instance) (nat_cmp x.client y.client)) (nat_cmp x.handle y.handle)
