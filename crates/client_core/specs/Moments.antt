-- The moments that a client notes.
use Rattle.std.specs.Prelude.{ℕ, nat_lt, max, Result, Ok, Err, if◌then◌else◌}
use Rattle.lease_core.specs.Lease.{moment_limit}
use Rattle.node_core.specs.declared.refusals.Fault.{Fault}
use Rattle.node_core.specs.declared.refusals.Fault.TheVariants as faults

-- the moment that is noted: an earlier one counts as the last one, and moments have an end
abbrev pub moment : ℕ → ℕ → Result ℕ Fault
moment clock now = if nat_lt now moment_limit then Ok (max clock now) else Err faults.Exhausted
