-- The clients of a world.
use Rattle.std.specs.Prelude.{◌≡◌, ℕ, ◌+◌, ◌*◌, nat_le, Bool, map, List, Result, Ok, Err, if◌then◌else◌}
use Rattle.std.specs.Option.{option_map_or}
use Rattle.std.specs.Map.{lookup, set_value}
use Rattle.std.specs.BTreeMap.{is_at}
use Rattle.std.specs.Ordering.{nat_cmp}
use Rattle.node_core.specs.declared.refusals.Fault.{Fault}
use Rattle.node_core.specs.declared.refusals.Fault.TheVariants as faults
use Rattle.client_core.specs.State.{ClientState, new_client}
use Rattle.world_steps.specs.declared.members.WorldClient.{WorldClient}
use Rattle.world_steps.specs.declared.steps.Ticks.{Ticks}

-- clients by their numbers
abbrev pub Clients : Type 0
Clients = List (ℕ × WorldClient)

-- a member, a client with its clock: one that has just joined, with the master's clock at this moment
abbrev pub new_member : ℕ → List ℕ → ℕ → WorldClient
new_member number principal now = record { client = new_client number principal; clock = 0; least_now = now; least_clock = 0; clock_when_up = 0 }

-- each client with its clock as a step leaves it
abbrev pub each_member : (ℕ → WorldClient → WorldClient) → Clients → Clients
each_member step clients = map (λ entry. (entry.0, step entry.0 entry.1)) clients

-- ---- clocks

-- a master comes up: its life begins at this point
abbrev pub at_up : ℕ → WorldClient → WorldClient
at_up now member = record member { least_now = now; least_clock = member.clock; clock_when_up = member.clock }

-- at these clocks the master's is no further ahead than it once was in this master's life: 16 times its clock less 17 times the client's is the least
abbrev pub is_least : ℕ → ℕ → WorldClient → Bool
is_least now clock member = nat_le (16 * now + 17 * member.least_clock) (16 * member.least_now + 17 * clock)

-- clocks are fair: from any point of a master's life to a later one, 16 times what its clock moves is at most 17 times what the client's moves and a millisecond
-- (Burrows 2006, section 2.8; Gray and Cheriton 1989, section 5). It is enough to compare with the point of the least lead
abbrev pub is_fair : ℕ → ℕ → WorldClient → Bool
is_fair now clock member = nat_le (16 * now + 17 * member.least_clock) (16 * member.least_now + 17 * clock + 17)

-- by how much a client's clock moves: its own step where it has one, else that of all
abbrev pub own_step : Ticks → ℕ → ℕ
own_step ticks number = option_map_or (λ step. step) (lookup (is_at (nat_cmp number)) ticks.own) ticks.clients

-- where a client's clock is then
abbrev pub clock_then : Ticks → ℕ → WorldClient → ℕ
clock_then ticks number member = member.clock + own_step ticks number

-- the client's clock moves, beside a master whose clock is there then
abbrev pub moved_beside : ℕ → ℕ → WorldClient → WorldClient
moved_beside now clock member =
    if is_least now clock member then record member { clock = clock; least_now = now; least_clock = clock } else record member { clock = clock }

-- and while no master is up
abbrev pub moved_alone : ℕ → WorldClient → WorldClient
moved_alone clock member = record member { clock = clock }

-- a client after one of its steps, in the place of what it was
abbrev pub stepped : Clients → ℕ → WorldClient → ClientState → Clients
stepped clients number member client = set_value (is_at (nat_cmp number)) clients (record member { client = client })

-- a client's step: its new state and its answer; want of memory, and a moment or a number at its end, leave all clients
abbrev pub Answers : {X : Type 0} → Clients → Clients → ℕ → WorldClient → Result X Fault → ClientState × Result X Fault → Type 0
Answers old new number member (Ok x) step = (step.1 ≡ Ok x) × (new ≡ stepped old number member step.0)
Answers old new number member (Err faults.NoMemory) step = new ≡ old
Answers old new number member (Err fault) step = (step.1 ≡ Err fault) × (new ≡ old)
