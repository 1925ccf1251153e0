-- A world: the rows, the master while one is up, the clients, and all messages; and what each step does.
use Rattle.std.specs.Prelude.{◌≡◌, ◌⊎◌, ℕ, ◌+◌, ◌≤◌, Bool, true, false, not, ◌||◌, nat_lt, nat_le, List, [], ◌∷◌, ◌++◌, map, filter, Option, Some, None, Result, Ok, Err, if◌then◌else◌, is_some}
use Rattle.std.specs.Option.{option_map_or}
use Rattle.std.specs.List.{list_all, list_any}
use Rattle.lease_core.specs.Lease.{moment_limit}
use Rattle.std.specs.Map.{lookup}
use Rattle.std.specs.BTreeMap.{is_at, insert_entry}
use Rattle.std.specs.Ordering.{nat_cmp}
use Rattle.node_core.specs.declared.refusals.Fault.{Fault}
use Rattle.node_core.specs.declared.refusals.Fault.TheVariants as faults
use Rattle.node_core.specs.declared.lines.Line.{Line}
use Rattle.node_core.specs.declared.lines.Line.TheVariants as lines
use Rattle.rows_cell.specs.declared.settings.MasterTerms.{MasterTerms}
use Rattle.rows_cell.specs.declared.tables.Rows.{Rows}
use Rattle.rows_cell.specs.declared.tables.Edit.{Edit}
use Rattle.rows_cell.specs.Rows.{changed_rows}
use Rattle.rows_cell.specs.Stores.{Store, IsWant, MayRefuse, IsRead, IsUnread}
use Rattle.tags_cell.specs.declared.messages.requests.Request.{Request}
use Rattle.tags_cell.specs.declared.messages.outs.Out.{Out}
use Rattle.tags_cell.specs.Messages.{out_client}
use Rattle.master_parts.specs.declared.pending.Taken.{Taken}
use Rattle.master_state.specs.State.{MasterState}
use Rattle.cell_core.specs.Step.{take_step, is_past_end}
use Rattle.over_core.specs.declared.swept.Swept.{Swept}
use Rattle.over_core.specs.Kept.{IsKept}
use Rattle.over_core.specs.Sweep.{sweep_step, sweep_edits, sweep_frees, left_after, MayHoldUp, MayLeaveUp, beats_step}
use Rattle.over_core.specs.Up.{up_step, up_edits, up_commit}
use Rattle.client_core.specs.declared.parts.asks.Ask.{Ask}
use Rattle.client_core.specs.declared.parts.asks.AskOutcome.{AskOutcome}
use Rattle.client_core.specs.declared.parts.asks.Outcome.{Outcome as ClientOutcome}
use Rattle.client_core.specs.declared.parts.asks.Outcome.TheVariants.{Sent, Served, Answered, Refused}
use Rattle.client_core.specs.declared.parts.steps.Beaten.{Beaten}
use Rattle.client_core.specs.declared.parts.steps.Given.{Given}
use Rattle.client_core.specs.State.{ClientState}
use Rattle.client_core.specs.Asks.{ask_step}
use Rattle.client_core.specs.Beats.{beat_step}
use Rattle.client_core.specs.Gives.{give_step}
use Rattle.world_steps.specs.declared.mail.Message.{Message}
use Rattle.world_steps.specs.declared.mail.Message.TheVariants.{ToMaster, ToClient}
use Rattle.world_steps.specs.declared.members.WorldClient.{WorldClient}
use Rattle.world_steps.specs.declared.steps.Step.{Step}
use Rattle.world_steps.specs.declared.steps.Step.TheVariants as steps
use Rattle.world_steps.specs.declared.parts.SweepResult.{SweepResult}
use Rattle.world_steps.specs.declared.steps.Ticks.{Ticks}
use Rattle.world_steps.specs.declared.steps.Commit.{Commit}
use Rattle.world_steps.specs.declared.steps.Commit.TheVariants.{Kept, Lost}
use Rattle.world_steps.specs.Members.{Clients, new_member, stepped, each_member, at_up, clock_then, is_fair, moved_beside, moved_alone}
use Rattle.world_steps.specs.Messages.{request_at, out_at}

-- cell: its name, by the settings of its store. rows: those that stand. clock: the master's, in milliseconds. clients: by number, each with its own clock. messages: all that were sent, in
-- order; they only grow. terms: what each master goes by
pub record WorldState : Type 0 where
  pub cell : List ℕ
  pub rows : Rows
  pub master : Option MasterState
  pub clock : ℕ
  pub clients : Clients
  pub messages : List Message
  pub terms : MasterTerms

-- a world, and of its store the rows that a crash may leave, how often it refused, and how often what is read was in doubt
pub record WorldView : Type 0 where
  pub world : WorldState
  pub may_leave : List Rows
  pub refusals : ℕ
  pub doubt : ℕ

-- the store gave back what was written, and nobody else wrote it
abbrev pub IsUndoubted : WorldView → Type 0
IsUndoubted w = w.doubt ≡ 0

-- no master is up, no client has joined, nothing was sent
abbrev pub new_world : List ℕ → Rows → MasterTerms → WorldState
new_world cell rows terms = record { cell = cell; rows = rows; master = None; clock = 0; clients = []; messages = []; terms = terms }

-- a new world over a store
abbrev pub opened : Store → MasterTerms → WorldView
opened store terms = record { world = new_world store.cell store.rows terms; may_leave = store.may_leave; refusals = store.refusals; doubt = store.doubt }

-- the store of a world
abbrev pub store_in : WorldView → Store
store_in w = record { cell = w.world.cell; rows = w.world.rows; may_leave = w.may_leave; refusals = w.refusals; doubt = w.doubt }

abbrev pub no_store : Store
no_store = record { cell = []; rows = record { cell = []; secret = []; epoch = 0; next_instance = 0; nodes = []; sessions = []; ended_below = 0; locks = [] }; may_leave = []; refusals = 0; doubt = 0 }

-- the store is with a master while one is up, and else with the records by themselves
abbrev pub held : Option Store → Option Store → Store
held (Some store) records = store
held None (Some store) = store
held None None = no_store

abbrev pub view_of : Store → Option MasterState → ℕ → Clients → List Message → MasterTerms → WorldView
view_of store master clock clients messages terms = record {
  world = record { cell = store.cell; rows = store.rows; master = master; clock = clock; clients = clients; messages = messages; terms = terms };
  may_leave = store.may_leave;
  refusals = store.refusals;
  doubt = store.doubt;
}

-- a step's new state and lines, or why it is refused
abbrev pub Outcome : Type 0
Outcome = Result (WorldState × List Line) Fault

-- ---- the master comes up

abbrev pub came_up : WorldState → ℕ → Result MasterState Fault → Outcome
came_up w now (Err fault) = Err fault
came_up w now (Ok master) =
    Ok (record w { rows = changed_rows w.rows (up_edits w.rows); master = Some master; clock = now; clients = each_member (λ number. at_up now) w.clients }, lines.Up master.epoch ∷ [])

-- one master at a time
abbrev pub world_up : WorldState → ℕ → Option MasterState → Outcome
world_up w now (Some master) = Err faults.MasterUp
world_up w now None = came_up w now (up_step w.cell w.rows w.terms now)

-- ---- the master goes down

-- what it knew beside the rows is lost
abbrev pub without_master : WorldState → WorldState
without_master w = record w { master = None }

abbrev pub world_down : WorldState → Option MasterState → Outcome
world_down w None = Err faults.MasterDown
world_down w (Some master) = Ok (without_master w, lines.Down ∷ [])

-- ---- clients

abbrev pub member_of : WorldState → ℕ → Option WorldClient
member_of w number = lookup (is_at (nat_cmp number)) w.clients

-- a number is used once
abbrev pub world_join : WorldState → ℕ → List ℕ → Outcome
world_join w number principal =
    if is_some (member_of w number) then Err faults.Exists
    else Ok (record w { clients = insert_entry nat_cmp w.clients number (new_member number principal w.clock) }, [])

abbrev pub with_client : WorldState → ℕ → WorldClient → ClientState → WorldState
with_client w number member client = record w { clients = stepped w.clients number member client }

abbrev pub sends : WorldState → Request → WorldState
sends w request = record w { messages = w.messages ++ ToMaster request ∷ [] }

-- what a client refuses by itself is no refusal of the step, but its last line
abbrev pub with_refusal : List Line → Fault → List Line
with_refusal told fault = told ++ lines.Refused fault ∷ []

abbrev pub ends_ask : WorldState → List Line → ClientOutcome → WorldState × List Line
ends_ask w told (Sent request) = (sends w request, told)
ends_ask w told (Served answer) = (w, told)
ends_ask w told Answered = (w, told)
ends_ask w told (Refused fault) = (w, with_refusal told fault)

-- a moment or a number at its end refuses the step
abbrev pub asked_by : WorldState → Result AskOutcome Fault → Outcome
asked_by w (Ok asked) = Ok (ends_ask w asked.lines asked.outcome)
asked_by w (Err fault) = Err fault

abbrev pub asked : WorldState → ℕ → WorldClient → ClientState × Result AskOutcome Fault → Outcome
asked w number member step = asked_by (with_client w number member step.0) step.1

-- by the client's own clock
abbrev pub world_ask : WorldState → ℕ → Ask → Outcome
world_ask w number ask = option_map_or (λ member. asked w number member (ask_step member.client member.clock ask)) (member_of w number) (Err faults.NoSession)

-- a client without a session sends nothing
abbrev pub ends_beat : WorldState → List Line → Option Request → WorldState × List Line
ends_beat w told (Some request) = (sends w request, told)
ends_beat w told None = (w, told)

abbrev pub beaten_by : WorldState → Result Beaten Fault → Outcome
beaten_by w (Ok beaten) = Ok (ends_beat w beaten.lines beaten.request)
beaten_by w (Err fault) = Err fault

abbrev pub beaten : WorldState → ℕ → WorldClient → ClientState × Result Beaten Fault → Outcome
beaten w number member step = beaten_by (with_client w number member step.0) step.1

abbrev pub world_beat : WorldState → ℕ → Outcome
world_beat w number = option_map_or (λ member. beaten w number member (beat_step member.client member.clock)) (member_of w number) (Err faults.NoSession)

-- ---- clocks move

-- each step of its own is of a client that has joined
abbrev pub are_joined : WorldState → List (ℕ × ℕ) → Bool
are_joined w own = list_all (λ entry. is_some (member_of w entry.0)) own

-- the clocks of a client and of a master that is up stay fair
abbrev pub stays_fair : WorldState → Ticks → ℕ × WorldClient → Bool
stays_fair w ticks entry = is_fair (w.clock + ticks.master) (clock_then ticks entry.0 entry.1) entry.1

-- a clock goes past the end of moments
abbrev pub goes_past_end : WorldState → Ticks → Bool
goes_past_end w ticks =
    nat_le moment_limit (w.clock + ticks.master) || list_any (λ entry. nat_le moment_limit (clock_then ticks entry.0 entry.1)) w.clients

-- the clients' clocks, by whether a master is up
abbrev pub moved : Option MasterState → WorldState → Ticks → ℕ → WorldClient → WorldClient
moved None w ticks number member = moved_alone (clock_then ticks number member) member
moved (Some master) w ticks number member = moved_beside (w.clock + ticks.master) (clock_then ticks number member) member

abbrev pub ticked : WorldState → Ticks → WorldState
ticked w ticks = record w { clock = w.clock + ticks.master; clients = each_member (moved w.master w ticks) w.clients }

-- a clock of no master doesn't move
abbrev pub moves_nobody : Option MasterState → Ticks → Bool
moves_nobody None ticks = nat_lt 0 ticks.master
moves_nobody (Some master) ticks = false

abbrev pub are_fair : Option MasterState → WorldState → Ticks → Bool
are_fair None w ticks = true
are_fair (Some master) w ticks = list_all (stays_fair w ticks) w.clients

abbrev pub world_tick : WorldState → Ticks → Outcome
world_tick w ticks =
    if moves_nobody w.master ticks then Err faults.MasterDown
    else if not (are_joined w ticks.own) then Err faults.NoSession
    else if not (are_fair w.master w ticks) then Err faults.UnfairClock
    else if goes_past_end w ticks then Err faults.Exhausted
    else Ok (ticked w ticks, [])

-- ---- messages are delivered

abbrev pub took : WorldState → Result (MasterState × Taken) Fault → Outcome
took w (Err fault) = Err fault
took w (Ok step) = Ok (record w { master = Some step.0; messages = w.messages ++ map ToClient step.1.outs }, step.1.lines)

abbrev pub world_take : WorldState → ℕ → Option MasterState → Outcome
world_take w number None = Err faults.MasterDown
world_take w number (Some master) = option_map_or (λ request. took w (take_step master w.clock request)) (request_at w.messages number) (Err faults.NoSuchMessage)

abbrev pub given_lines : List Line → Option Fault → List Line
given_lines told None = told
given_lines told (Some fault) = with_refusal told fault

abbrev pub gave_by : WorldState → Result Given Fault → Outcome
gave_by w (Ok given) = Ok (w, given_lines given.lines given.refused)
gave_by w (Err fault) = Err fault

abbrev pub gave : WorldState → ℕ → WorldClient → ClientState × Result Given Fault → Outcome
gave w number member step = gave_by (with_client w number member step.0) step.1

abbrev pub given_to : WorldState → Out → Outcome
given_to w out = option_map_or (λ member. gave w (out_client out) member (give_step member.client member.clock out)) (member_of w (out_client out)) (Err faults.NoSession)

abbrev pub world_give : WorldState → ℕ → Outcome
world_give w number = option_map_or (λ out. given_to w out) (out_at w.messages number) (Err faults.NoSuchMessage)

-- ---- the master sweeps

abbrev pub swept : WorldState → MasterState → Result (MasterState × Swept) Fault → Result (WorldState × SweepResult) Fault
swept w master (Err fault) = Err fault
swept w master (Ok step) = Ok (
  record w {
    rows = changed_rows w.rows (sweep_edits master w.clock);
    master = Some step.0;
    messages = w.messages ++ map ToClient step.1.outs;
  },
  record { lines = step.1.lines; quiet = step.1.quiet },
)

abbrev pub world_sweep : WorldState → Option MasterState → Result (WorldState × SweepResult) Fault
world_sweep w None = Err faults.MasterDown
world_sweep w (Some master) = swept w master (sweep_step master w.clock)

-- ---- the master answers a Beat, and commits nothing

abbrev pub answered : WorldState → Result (MasterState × Swept) Fault → Outcome
answered w (Err fault) = Err fault
answered w (Ok step) = Ok (record w { master = Some step.0; messages = w.messages ++ map ToClient step.1.outs }, step.1.lines)

abbrev pub world_beats : WorldState → Option MasterState → Outcome
world_beats w None = Err faults.MasterDown
world_beats w (Some master) = answered w (beats_step master w.clock)

abbrev pub without_quiet : Result (WorldState × SweepResult) Fault → Outcome
without_quiet (Ok p) = Ok (p.0, p.1.lines)
without_quiet (Err fault) = Err fault

-- ---- a crash cuts a step

-- of a sweep's lines those that tell of its commit: all but the one of a recovery's end
abbrev pub is_of_commit : Line → Bool
is_of_commit lines.Recovered = false
is_of_commit _ = true

abbrev pub cut_sweep : WorldState → Result (WorldState × SweepResult) Fault → Outcome
cut_sweep w (Err fault) = Err fault
cut_sweep w (Ok p) = Ok (record (without_master w) { rows = p.0.rows }, filter is_of_commit p.1.lines ++ lines.Down ∷ [])

-- what the sweep commits stands or is lost, nothing is sent, and the master is gone
abbrev pub world_cut_sweep : WorldState → Commit → Outcome
world_cut_sweep w Kept = cut_sweep w (world_sweep w w.master)
world_cut_sweep w Lost = world_down w w.master

abbrev pub cut_up : WorldState → Commit → Result MasterState Fault → Outcome
cut_up w commit (Err fault) = Err fault
cut_up w Kept (Ok master) = Ok (record w { rows = changed_rows w.rows (up_edits w.rows) }, lines.Up master.epoch ∷ lines.Down ∷ [])
cut_up w Lost (Ok master) = Ok (w, lines.Down ∷ [])

-- the same of a master that comes up
abbrev pub world_cut_up : WorldState → ℕ → Commit → Option MasterState → Outcome
world_cut_up w now commit (Some master) = Err faults.MasterUp
world_cut_up w now commit None = cut_up w commit (up_step w.cell w.rows w.terms now)

-- ---- the table

unfoldable pub world_step : WorldState → Step → Outcome
world_step w (steps.Up now) = world_up w now w.master
world_step w (steps.Join number principal) = world_join w number principal
world_step w (steps.Ask number ask) = world_ask w number ask
world_step w (steps.Beat number) = world_beat w number
world_step w (steps.Tick ticks) = world_tick w ticks
world_step w (steps.Take number) = world_take w number w.master
world_step w (steps.Give number) = world_give w number
world_step w steps.Sweep = without_quiet (world_sweep w w.master)
world_step w steps.Beats = world_beats w w.master
world_step w steps.Down = world_down w w.master
world_step w (steps.CutSweep commit) = world_cut_sweep w commit
world_step w (steps.CutUp now commit) = world_cut_up w now commit w.master

-- ---- the store

-- a world whose store was read
abbrev pub as_read : WorldView → Store → WorldView
as_read w read = view_of read w.world.master w.world.clock w.world.clients w.world.messages w.world.terms

abbrev pub IsAtUp : Option MasterState → WorldView → WorldView → Type 0
IsAtUp None old at = (read : Store) × IsRead (store_in old) read × (at ≡ as_read old read)
IsAtUp (Some master) old at = at ≡ old

-- the world by which a step is made: that of before; where a master comes up, with the store as it was read
abbrev pub IsAt : Step → WorldView → WorldView → Type 0
IsAt (steps.Up now) old at = IsAtUp old.world.master old at
IsAt (steps.CutUp now commit) old at = IsAtUp old.world.master old at
IsAt _ old at = at ≡ old

-- what a master that comes up commits; one at a time
abbrev pub came_up_edits : WorldState → ℕ → Option MasterState → List Edit
came_up_edits w now (Some master) = []
came_up_edits w now None = up_commit (up_step w.cell w.rows w.terms now) w.rows

-- what a step commits: a master that comes up its epoch, and a sweep the change whose turn it is
abbrev pub step_edits : WorldState → Step → List Edit
step_edits w (steps.Up now) = came_up_edits w now w.master
step_edits w steps.Sweep = option_map_or (λ master. sweep_edits master w.clock) w.master []
step_edits w (steps.CutUp now Kept) = came_up_edits w now w.master
step_edits w (steps.CutSweep Kept) = option_map_or (λ master. sweep_edits master w.clock) w.master []
step_edits w _ = []

-- whether a step lets a change leave the gate: a crash then leaves the rows that stand, whatever was refused before
abbrev pub step_frees : WorldState → Step → Bool
step_frees w steps.Sweep = option_map_or (λ master. sweep_frees master w.clock) w.master false
step_frees w (steps.CutSweep Kept) = option_map_or (λ master. sweep_frees master w.clock) w.master false
step_frees w _ = false

-- after a step that was made: what it commits stands, and the store refused nothing
pub record IsStored (freed : Bool) (edits : List Edit) (old new : WorldView) : Type 0 where
  pub leave : new.may_leave ≡ left_after freed edits old.may_leave new.world.rows
  pub counted : new.refusals ≡ old.refusals
  pub doubted : old.doubt ≤ new.doubt

-- after a refused one: nothing changed, but a crash may perhaps leave the rows of the refused commit too
pub record IsLeft (freed : Bool) (edits : List Edit) (old new : WorldView) : Type 0 where
  pub same : new.world ≡ old.world
  pub leave : MayLeaveUp freed edits old.world.rows old.may_leave new.may_leave
  pub doubted : old.doubt ≤ new.doubt

-- what the table doesn't decide where a master comes up: the store isn't read, or refuses the commit; it isn't asked while another is up, nor for a moment past the end
abbrev pub IsOutsideUp : Option MasterState → ℕ → Fault → WorldView → WorldView → Type 0
IsOutsideUp None now fault old new =
    IsWant fault old.refusals new.refusals
    ⊎ ((is_past_end now ≡ false) × (IsUnread fault (store_in old) (store_in new) ⊎ MayRefuse (came_up_edits old.world now None) fault old.refusals new.refusals))
IsOutsideUp (Some master) now fault old new = IsWant fault old.refusals new.refusals

-- nor where the store is read alone
abbrev pub IsOutsideRead : Option MasterState → ℕ → Fault → WorldView → WorldView → Type 0
IsOutsideRead None now fault old new = IsWant fault old.refusals new.refusals ⊎ ((is_past_end now ≡ false) × IsUnread fault (store_in old) (store_in new))
IsOutsideRead (Some master) now fault old new = IsWant fault old.refusals new.refusals

-- what the table doesn't decide: the store may refuse a master that comes up, and the commit of a sweep; a tick and a join under a number that is taken take no memory; any other step
-- is refused for want of memory alone
abbrev pub IsOutside : Step → Fault → WorldView → WorldView → Type 0
IsOutside (steps.Up now) fault old new = IsOutsideUp old.world.master now fault old new
IsOutside steps.Sweep fault old new = MayHoldUp (step_frees old.world steps.Sweep) (step_edits old.world steps.Sweep) fault old.refusals new.refusals
IsOutside (steps.CutUp now Kept) fault old new = IsOutsideUp old.world.master now fault old new
IsOutside (steps.CutUp now Lost) fault old new = IsOutsideRead old.world.master now fault old new
IsOutside (steps.CutSweep commit) fault old new = MayHoldUp (step_frees old.world (steps.CutSweep commit)) (step_edits old.world (steps.CutSweep commit)) fault old.refusals new.refusals
IsOutside (steps.Join number principal) fault old new = (member_of old.world number ≡ None) × IsWant fault old.refusals new.refusals
IsOutside (steps.Tick ticks) fault old new = ⊥
IsOutside _ fault old new = IsWant fault old.refusals new.refusals

-- why a step is refused: the table refuses it, or want of memory or the store does
abbrev pub MayRefuseStep : {X : Type 0} → Result X Fault → Step → Fault → WorldView → WorldView → Type 0
MayRefuseStep outcome step fault old new = ((outcome ≡ Err fault) × (new.refusals ≡ old.refusals)) ⊎ IsOutside step fault old new

-- ---- a master that is up

-- what it knows of the rows is what they hold
abbrev pub Agrees : WorldState → Option MasterState → Type 0
Agrees w None = Unit {0}
Agrees w (Some s) = IsKept w.cell w.rows s
