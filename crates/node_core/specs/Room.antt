-- How much there is of what a limit counts, and whether there is room for more.
use Rattle.std.specs.Prelude.{◌≡◌, ℕ, ◌+◌, ◌^◌, ◌≤◌, ◌==◌, nat_le, Bool, ◌||◌, Option, Some, None, IfSome, if◌then◌else◌, length}
use Rattle.std.specs.List.{sum_by}
use Rattle.std.specs.Map.{values_of}
use Rattle.node_core.specs.Nodes.{Nodes}
use Rattle.node_core.specs.declared.nodes.Node.{Node}
use Rattle.node_core.specs.declared.refusals.Fault.{Fault}
use Rattle.node_core.specs.declared.refusals.Fault.TheVariants.{NoRoom}

abbrev pub content_length : Node → ℕ
content_length node = length node.content

-- the bytes of all contents
abbrev pub content_bytes : Nodes → ℕ
content_bytes nodes = sum_by content_length (values_of nodes)

-- so much more is within the limit; what doesn't grow always is
abbrev pub has_room : ℕ → ℕ → ℕ → Bool
has_room limit held growth = growth == 0 || nat_le (held + growth) limit

-- the refusal of so much more, where there is a limit and it leaves no room
abbrev pub room_fault : Option ℕ → ℕ → ℕ → Option Fault
room_fault None held growth = None
room_fault (Some limit) held growth = if has_room limit held growth then None else Some (NoRoom limit)

-- a sum that is kept is this number, where it is known
abbrev pub Says : Option ℕ → ℕ → Type 0
Says sum n = IfSome sum (λ s. s ≡ n)

-- how much there is, or that it is more than a number of the program
abbrev pub Counts : Option ℕ → ℕ → Type 0
Counts None n = 2 ^ 64 ≤ n
Counts (Some held) n = held ≡ n
