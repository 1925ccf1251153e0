-- What a keeper does beside its client: it publishes before it answers.
use Rattle.std.specs.Prelude.{◌≡◌, ◌≢◌, ◌⊎◌, ◌+◌, nat_lt, List, length, Option, None, Some, Result, Ok, Err, if◌then◌else◌}
use Rattle.node_core.specs.Limits.{number_end}
use Rattle.node_core.specs.declared.refusals.Fault.{Fault}
use Rattle.node_core.specs.declared.refusals.Fault.TheVariants as faults
use Rattle.cache_core.specs.Caches.{CacheState}
use Rattle.client_core.specs.State.{ClientState}
use Rattle.share_cell.specs.Published.{EndsWith, Shows}
use Rattle.share_cell.specs.declared.keeper.LateAnswer.{LateAnswer}

-- its client, the answer that waits for its view to be published, and the views that were published
pub record KeeperState : Type 0 where
  pub client : ClientState
  pub late : Option LateAnswer
  pub views : List CacheState

-- the client's step; after the last number of a view nothing changes
abbrev pub unless_last : {X : Type 0} → ClientState → List CacheState → ClientState × Result X Fault → ClientState × Result X Fault
unless_last client views step = if nat_lt (length views + 1) number_end then step else (client, Err faults.Exhausted)

-- the keeper is late: the client's step stands and its answer is kept, and the views that were published before stand
abbrev pub FallsLate : {X : Type 0} → (X → LateAnswer) → KeeperState → KeeperState → ClientState × Result X Fault → Type 0
FallsLate {X} keep old new step = (answer : X) × (step ≡ (new.client, Ok answer)) × (new.late ≡ Some (keep answer)) × (new.views ≡ old.views)

-- an answer is that of the client's step, and the last published view is then what the client's cache holds; a refusal changes nothing, but that one for
-- want of memory may leave the keeper late
abbrev pub Publishes : {X : Type 0} → (X → LateAnswer) → KeeperState → KeeperState → Result X Fault → ClientState × Result X Fault → Type 0
Publishes keep old new (Ok answer) step = (step ≡ (new.client, Ok answer)) × (new.late ≡ None) × Shows old.views new.client.cache new.views
Publishes keep old new (Err fault) step =
    (fault ≢ faults.NoMemory → (step ≡ (new.client, Err fault)) × (new ≡ old)) × (fault ≡ faults.NoMemory → (new ≡ old) ⊎ FallsLate keep old new step)

-- a keeper that was late shows what its client has, and another one changes nothing
abbrev pub IsShown : Option LateAnswer → List CacheState → CacheState → List CacheState → Type 0
IsShown None views cache new = new ≡ views
IsShown (Some _) views cache new = Shows views cache new

-- what a keeper lends: its client, whose cache is what was published last; nothing while it is late
abbrev pub Lends : KeeperState → Option ClientState → Type 0
Lends k None = k.late ≢ None
Lends k (Some client) = (k.late ≡ None) × (client ≡ k.client) × EndsWith k.views client.cache
