-- How a client's session ends, and what is recorded and printed of its rights and its locks.
use Rattle.std.specs.Prelude.{ℕ}
use Rattle.node_core.specs.declared.lines.Line.{Line}
use Rattle.node_core.specs.declared.lines.Line.TheVariants as lines
use Rattle.rights_core.specs.declared.endings.Ending.{Ending}
use Rattle.rights_core.specs.declared.endings.Ending.TheVariants as endings
use Rattle.lock_core.specs.declared.partings.Parting.{Parting}
use Rattle.lock_core.specs.declared.partings.Parting.TheVariants.{Expiry, Leave}

-- what ends its rights: a client that leaves has given all back that it held
abbrev pub ending_by : Parting → Ending
ending_by Expiry = endings.Expiry
ending_by Leave = endings.Leave

-- the end of the right of a number
abbrev pub right_line : Parting → ℕ → Line
right_line Expiry number = lines.Expired number
right_line Leave number = lines.Acked number

-- the client's handles hold the lock of an instance no longer
abbrev pub lock_line : Parting → ℕ → ℕ → Line
lock_line Expiry client instance = lines.Lapsed client instance
lock_line Leave client instance = lines.Freed client instance
