-- Whole runs of a world.
use Rattle.std.specs.Prelude.{◌≡◌, ◌⊎◌, ℕ, ◌+◌, ◌-◌, ◌*◌, ◌<◌, ◌≤◌, ◌==◌, Bool, true, false, List, [], ◌∷◌, ◌++◌, map, Option, Some, None, if◌then◌else◌}
use Rattle.std.specs.Option.{option_map, option_and_then}
use Rattle.node_core.specs.declared.lines.Line.{Line}
use Rattle.node_core.specs.declared.lines.Line.TheVariants as lines
use Rattle.node_core.specs.declared.views.Mod.{Mod}
use Rattle.node_core.specs.declared.views.Mod.TheVariants.{Gone}
use Rattle.node_core.specs.declared.nodes.Node.{Node}
use Rattle.node_core.specs.Nodes.{Nodes, changed, after, get_node}
use Rattle.tags_cell.specs.declared.messages.calls.Call.{Call}
use Rattle.tags_cell.specs.declared.messages.requests.Request.TheVariants as requests
use Rattle.rows_cell.specs.Rows.{map_of}
use Rattle.cell_core.specs.declared.effects.Effect.{Effect}
use Rattle.rights_core.specs.Rights.{totals_of}
use Rattle.rights_core.specs.Grants.{Told, rights_at, told_of, totals_by}
use Rattle.gate_core.specs.declared.pending.Waiting.{Waiting}
use Rattle.master_parts.specs.declared.pending.Task.{Task}
use Rattle.master_parts.specs.declared.pending.Task.TheVariants as tasks
use Rattle.master_parts.specs.declared.pending.Work.TheVariants as works
use Rattle.master_state.specs.NameSpace.{name_space, caller}
use Rattle.master_state.specs.State.{MasterState}
use Rattle.cell_core.specs.Ephemerals.{is_idle_node}
use Rattle.cell_core.specs.Effect.{effect}
use Rattle.cell_core.specs.Outcomes.{put_listing}
use Rattle.world_steps.specs.declared.steps.Step.{Step}
use Rattle.world_steps.specs.declared.steps.Step.TheVariants.{Take, Sweep, CutSweep}
use Rattle.world_steps.specs.declared.steps.Commit.TheVariants.{Kept}
use Rattle.world_steps.specs.Messages.{request_at, call_of}
use Rattle.lease_core.specs.Lease.{IsUnexpired}
use Rattle.coherence.specs.Joint.{IsJoint}
use Rattle.rows_cell.specs.Sound.{is_live_in}
use Rattle.tags_cell.specs.declared.messages.outs.Reply.{Reply}
use Rattle.session_core.specs.declared.records.Session.{Session}
use Rattle.master_state.specs.Lookups.{session_of}
use Rattle.client_core.specs.State.{lease_of}
use Rattle.world_steps.specs.declared.members.WorldClient.{WorldClient}
use Rattle.world_steps.specs.World.{WorldState, WorldView, member_of}
use Rattle.world_steps.specs.Made.{IsMade, Does, AnyStep}
use Rattle.world_cell.specs.Slices.{slice}

-- ---- runs

-- one step after the other, and their lines in order
abbrev pub AnyRun : WorldView → List Step → List Line → WorldView → Type 0
AnyRun old [] printed new = (printed ≡ []) × (new ≡ old)
AnyRun old (step ∷ steps) printed new =
    (mid : WorldView) × (here : List Line) × (rest : List Line) × AnyStep old step mid here × AnyRun mid steps rest new × (printed ≡ here ++ rest)

-- one in which nothing is in doubt: each step is by the world of before
abbrev pub Run : WorldView → List Step → List Line → WorldView → Type 0
Run old [] printed new = (printed ≡ []) × (new ≡ old)
Run old (step ∷ steps) printed new =
    (mid : WorldView) × (here : List Line) × (rest : List Line) × Does old step mid here × Run mid steps rest new × (printed ≡ here ++ rest)

-- ---- what lines tell

abbrev pub map_by : Nodes → Line → Nodes
map_by nodes (lines.Applied client number change names) = changed nodes change
map_by nodes _ = nodes

-- the map that lines make of an opening map: the changes that they show, in order
abbrev pub map_at : Nodes → List Line → Nodes
map_at nodes [] = nodes
map_at nodes (line ∷ rest) = map_at (map_by nodes line) rest

-- a change that a line shows has to fit the map
abbrev pub after_line : Nodes → Line → Option Nodes
after_line nodes (lines.Applied client number change names) = after nodes change
after_line nodes _ = Some nodes

-- the map after the lines, where each change that they show fits the map just before it; and else none
abbrev pub after_lines : Nodes → List Line → Option Nodes
after_lines nodes [] = Some nodes
after_lines nodes (line ∷ rest) = option_and_then (λ next. after_lines next rest) (after_line nodes line)

abbrev pub epoch_by : ℕ → Line → ℕ
epoch_by epoch (lines.Up next) = next
epoch_by epoch _ = epoch

-- the epoch of the last master that came up, by the lines
abbrev pub epoch_at : ℕ → List Line → ℕ
epoch_at epoch [] = epoch
epoch_at epoch (line ∷ rest) = epoch_at (epoch_by epoch line) rest

-- ---- sessions

abbrev pub live_by : ℕ → Bool → Line → Bool
live_by client live (lines.Started whose) = if whose == client then true else live
live_by client live (lines.Ended whose) = if whose == client then false else live
live_by client live _ = live

-- whether a client's session is live, by the lines and by whether it was before
abbrev pub live_at : ℕ → Bool → List Line → Bool
live_at client live [] = live
live_at client live (line ∷ rest) = live_at client (live_by client live line) rest

-- the rows hold the session as live, and where a master is up, that one may not end it yet
pub record HasSession (w : WorldState) (number : ℕ) : Type 0 where
  pub live : is_live_in w.rows number ≡ true
  pub in_time : (master : MasterState) (session : Session Reply) → w.master ≡ Some master → session_of master number ≡ Some session → w.clock < session.timeout

-- a client whose lease runs by its own clock, and which doesn't end its session, has that
abbrev pub LeasesKeepSessions : WorldState → Type 0
LeasesKeepSessions w = (number : ℕ) (member : WorldClient) → member_of w number ≡ Some member → member.client.leaving ≡ false → IsUnexpired (lease_of member.client.cache.lease).sent (lease_of member.client.cache.lease).span member.clock → HasSession w number

-- ---- each client and each name

-- the five parts of the joint invariant: the session outlives the client's lease, what is cached under it is present and held, what was granted is held or was given back, what is
-- acknowledged is processed, and a recovery is empty
abbrev pub AreJoint : WorldState → Type 0
AreJoint w = (client : ℕ) (name : List ℕ) → IsJoint (slice client name w)

-- ---- clocks

-- at two points of one master's life, for a client that had joined by the first
abbrev pub AreFairClocks : WorldState → WorldState → Type 0
AreFairClocks here later =
    (master successor : MasterState) → here.master ≡ Some master → later.master ≡ Some successor → successor.epoch ≡ master.epoch → (number : ℕ) (member moved : WorldClient)
    → member_of here number ≡ Some member → member_of later number ≡ Some moved → 16 * (later.clock - here.clock) ≤ 17 * ((moved.clock - member.clock) + 1)

-- from each point of a run to its end
abbrev pub KeepsClocksFair : WorldView → List Step → WorldView → Type 0
KeepsClocksFair old steps new =
    (front rest : List Step) (here : WorldView) (before after : List Line) → steps ≡ front ++ rest → Run old front before here → Run here rest after new → AreFairClocks here.world new.world

-- ---- rights

-- those that the master has granted
abbrev pub rights_in : Option MasterState → List Told
rights_in None = []
rights_in (Some s) = map told_of s.rights

-- the lines record each right once, and the totals of a master that is up are those of its lines
pub record AreRecordedOnce (old : WorldState) (printed : List Line) (new : WorldState) : Type 0 where
  pub rights : rights_at (rights_in old.master) printed ≡ Some (rights_in new.master)
  pub totals : (s : MasterState) → new.master ≡ Some s → totals_of s.rights ≡ totals_by (rights_in new.master)

-- ---- each call at most once

abbrev pub put_number : ℕ → Line → List ℕ → List ℕ
put_number client (lines.Applied whose number change names) numbers = if whose == client then number ∷ numbers else numbers
put_number client _ numbers = numbers

-- the numbers of a client's applied calls
abbrev pub applied : ℕ → List Line → List ℕ
applied client [] = []
applied client (line ∷ rest) = put_number client line (applied client rest)

abbrev pub IsAbove : Option ℕ → ℕ → Type 0
IsAbove None number = Unit {0}
IsAbove (Some last) number = last < number

abbrev pub RisesFrom : Option ℕ → List ℕ → Type 0
RisesFrom last [] = Unit {0}
RisesFrom last (number ∷ numbers) = IsAbove last number × RisesFrom (Some number) numbers

-- each number is above the one before
abbrev pub Rises : List ℕ → Type 0
Rises numbers = RisesFrom None numbers

-- the change of the map that an effect is, if it is one
abbrev pub change_of : Effect → Option Mod
change_of effected = option_map (λ change. change.change) effected.change

-- the master took a call: after a first part of the steps it was up in that epoch, the next step delivered the call's message and was made, and the others followed
pub record IsTaken (old : WorldView) (steps : List Step) (printed : List Line) (new : WorldView) (epoch client number : ℕ) (call : Call) (sequencer : Option (List ℕ)) : Type 0 where
  pub front : List Step
  pub at : ℕ
  pub back : List Step
  pub is_split : steps ≡ front ++ Take at ∷ back
  pub before : List Line
  pub told : List Line
  pub after : List Line
  pub are_lines : printed ≡ before ++ told ++ after
  pub here : WorldView
  pub next : WorldView
  pub first : Run old front before here
  pub is_made : IsMade here (Take at) next told
  pub last : Run next back after new
  pub sent : request_at here.world.messages at ≡ Some (requests.Call (record { client = client; epoch = epoch; number = number; call = call; sequencer = sequencer }))
  pub master : MasterState
  pub is_up : here.world.master ≡ Some master
  pub of_epoch : master.epoch ≡ epoch

-- the call waited already in the master of this epoch that was up before the run
pub record HasWaited (before : Option MasterState) (epoch client number : ℕ) (call : Call) (sequencer : Option (List ℕ)) : Type 0 where
  pub master : MasterState
  pub is_up : before ≡ Some master
  pub of_epoch : master.epoch ≡ epoch
  pub front : List (Waiting Task)
  pub back : List (Waiting Task)
  pub turn : ℕ
  pub touched : List (List ℕ)
  pub waits : master.gate.waiting ≡ front ++ record { number = turn; change = record { touched = touched; body = tasks.Asked (record { client = client; number = number; work = works.Calls call sequencer }) } } ∷ back

-- a change that a line shows, with what is listed of the node that it puts: after a first part of the steps, with the lines before it, the master was up with the map and the epoch that these lines tell; the next
-- step was a sweep, or one that a crash cut after its commit, and was made
pub record IsApplied (old : WorldView) (steps : List Step) (before : List Line) (client number : ℕ) (change : Mod) (names : List (List ℕ)) (rest : List Line) (new : WorldView) : Type 0 where
  pub front : List Step
  pub at : Step
  pub sweeps : (at ≡ Sweep) ⊎ (at ≡ CutSweep Kept)
  pub back : List Step
  pub is_split : steps ≡ front ++ at ∷ back
  pub told : List Line
  pub after : List Line
  pub are_lines : rest ≡ told ++ after
  pub here : WorldView
  pub next : WorldView
  pub first : Run old front before here
  pub is_made : IsMade here at next (lines.Applied client number change names ∷ told)
  pub last : Run next back after new
  pub master : MasterState
  pub is_up : here.world.master ≡ Some master
  pub nodes : master.nodes ≡ map_at (map_of old.world.rows) before
  pub epoch : master.epoch ≡ epoch_at old.world.rows.epoch before
  pub listed : names ≡ put_listing master.nodes change

-- and the change is what a call does there, which its client had sent in that epoch, and which that master had taken
pub record IsOfCall (old : WorldView) (steps : List Step) (before : List Line) (client number : ℕ) (change : Mod) (names : List (List ℕ)) (rest : List Line) (new : WorldView) : Type 0 where
  pub made : IsApplied old steps before client number change names rest new
  pub call : Call
  pub sequencer : Option (List ℕ)
  pub sent : call_of made.here.world.messages client number ≡ Some (record { client = client; epoch = made.master.epoch; number = number; call = call; sequencer = sequencer })
  pub taken : HasWaited old.world.master made.master.epoch client number call sequencer ⊎ IsTaken old made.front before made.here made.master.epoch client number call sequencer
  pub is_effect : change_of (effect (name_space made.master) (caller made.master client) made.master.clock number call sequencer) ≡ Some change

-- and an ephemeral node goes that nobody held open there
pub record IsOfIdle (old : WorldView) (steps : List Step) (before : List Line) (number : ℕ) (change : Mod) (names : List (List ℕ)) (rest : List Line) (new : WorldView) : Type 0 where
  pub made : IsApplied old steps before 0 number change names rest new
  pub unnumbered : number ≡ 0
  pub name : List ℕ
  pub goes : change ≡ Gone name
  pub view : Node
  pub found : get_node made.master.nodes name ≡ Some view
  pub idle : is_idle_node made.master name view ≡ true
