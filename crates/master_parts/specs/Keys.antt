-- Which handle it is.
use Rattle.std.specs.declared.cmp.Ordering.{Ordering}
use Rattle.std.specs.Ordering.{nat_cmp, ordering_then}
use Rattle.master_parts.specs.declared.handles.HandleKey.{HandleKey}
use Rattle.tags_cell.specs.declared.handles.Handle.{Handle}
use Rattle.std.specs.Prelude.{Bool, ◌&&◌, ◌==◌}

-- by client, and then by number
abbrev pub handle_order : HandleKey → HandleKey → Ordering
handle_order a b = ordering_then (nat_cmp a.client b.client) (nat_cmp a.number b.number)

abbrev pub key_of : Handle → HandleKey
key_of handle = record { client = handle.client; number = handle.number }

-- the same handle
abbrev pub is_key : HandleKey → HandleKey → Bool
is_key a b = a.client == b.client && a.number == b.number
