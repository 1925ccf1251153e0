-- Who holds up a change, and until when.
use Rattle.std.specs.Prelude.{◌≡◌, ◌<◌, ◌≤◌, ◌+◌, ◌==◌, ℕ, Bool, true, false, List, [], ◌∷◌, fold, All, Contains, Option, Some, None, is_some, max, codes, if◌then◌else◌}
use Rattle.std.specs.List.{list_all, list_any}
use Rattle.lease_core.specs.Lease.{longest_lease, recovery_timeout}
use Rattle.rows_cell.specs.declared.settings.Limits.{Limits}
use Rattle.rows_cell.specs.Settings.{standard, terms_of}
use Rattle.rows_cell.specs.Opening.{opening}
use Rattle.rows_cell.specs.Rows.{changed_rows}
use Rattle.rows_cell.specs.declared.tables.Rows.{Rows}
use Rattle.node_core.specs.declared.kinds.Life.TheVariants as lives
use Rattle.tags_cell.specs.Masks.{no_events}
use Rattle.tags_cell.specs.declared.messages.calls.Call.TheVariants as calls
use Rattle.tags_cell.specs.declared.messages.calls.Create.{Create}
use Rattle.tags_cell.specs.declared.messages.calls.Disposition.TheVariants as dispositions
use Rattle.tags_cell.specs.declared.messages.calls.NewNode.TheVariants as nodes
use Rattle.tags_cell.specs.declared.messages.calls.Open.{Open}
use Rattle.tags_cell.specs.Messages.{request_client}
use Rattle.tags_cell.specs.Numbers.{is_client_number}
use Rattle.tags_cell.specs.declared.messages.outs.Reply.{Reply}
use Rattle.tags_cell.specs.declared.messages.requests.Request.{Request}
use Rattle.tags_cell.specs.declared.messages.requests.Request.TheVariants as requests
use Rattle.rights_core.specs.declared.endings.Ending.TheVariants as endings
use Rattle.rights_core.specs.Rights.{holds, ended}
use Rattle.rights_core.specs.Laws.{asked_for}
use Rattle.gate_core.specs.declared.pending.Waiting.{Waiting}
use Rattle.gate_core.specs.Gate.{touches}
use Rattle.session_core.specs.declared.records.Session.{Session}
use Rattle.session_core.specs.Session.{has_heard, patience}
use Rattle.master_parts.specs.declared.pending.Task.{Task}
use Rattle.master_state.specs.State.{MasterState, master_of, next_change}
use Rattle.master_state.specs.Lookups.{session_of, noted}
use Rattle.over_core.specs.Kept.{IsKept}
use Rattle.over_core.specs.Up.{up_edits}
use Rattle.over_core.specs.declared.actions.Action.TheVariants as actions
use Rattle.over_core.specs.Deadlines.{quiet_at}
use Rattle.over_core.specs.Plans.{first_action}
use Rattle.master_laws.specs.Closed.{MasterStep, master_behind}
use Rattle.master_laws.specs.Closed.MasterStep.{Takes, Sweeps, Beats}

-- ---- a master since it came up

-- a message that it takes is of a number that a client can have
abbrev pub is_of_client : MasterStep → Bool
is_of_client (Takes now request) = is_client_number (request_client request)
is_of_client (Sweeps now) = true
is_of_client (Beats now) = true

-- under a lease a master came up at a moment, within some limits, by rows beside which it is kept, and these are its steps since
pub record HasComeUp (lease up : ℕ) (steps : List MasterStep) (s : MasterState) : Type 0 where
  pub cell : List ℕ
  pub rows : Rows
  pub limits : Limits
  pub kept : IsKept cell rows (master_of rows (record { lease = lease; limits = limits }) up)
  pub is_lease : lease ≤ longest_lease
  pub of_clients : list_all is_of_client steps ≡ true
  pub is : s ≡ fold master_behind (master_of rows (record { lease = lease; limits = limits }) up) steps

-- ---- a change that waits

-- a client holds the change up at this moment: it may keep a name in its cache that the change touches, was asked for it by an invalidation that it hasn't acknowledged, and its session is live, and
-- ends later
pub record HoldsUp (s : MasterState) (now client : ℕ) (change : Waiting Task) : Type 0 where
  pub name : List ℕ
  pub number : ℕ
  pub session : Session Reply
  pub touched : touches name change ≡ true
  pub held : holds client name s.rights ≡ true
  pub asked : asked_for client name s.rights ≡ Some number
  pub found : session_of s client ≡ Some session
  pub unacknowledged : session.invalidations.acknowledged < number
  pub live : session.live ≡ true
  pub later : now < session.timeout

-- where there is nothing to do each change that waits is held up by a client
abbrev pub EachIsHeldUp : Type 0
EachIsHeldUp =
    (lease up now : ℕ) (steps : List MasterStep) (s : MasterState) → HasComeUp lease up steps s → quiet_at s now ≡ true
    → All (λ change. (client : ℕ) × HoldsUp s now client change) s.gate.waiting

-- a live session ends at most 60,002 ms after the last moment that the master was told
abbrev pub SessionsEndInTime : Type 0
SessionsEndInTime =
    (lease up client : ℕ) (steps : List MasterStep) (s : MasterState) (session : Session Reply) → HasComeUp lease up steps s → session_of s client ≡ Some session
    → session.timeout ≤ s.clock + recovery_timeout

-- ---- a client of which nothing is heard

-- a step takes a message of this kind
abbrev pub takes_one : (Request → Bool) → MasterStep → Bool
takes_one kind (Takes now request) = kind request
takes_one kind (Sweeps now) = false
takes_one kind (Beats now) = false

-- a message is of the client
abbrev pub is_by : ℕ → Request → Bool
is_by client request = request_client request == client

-- it is a Start of the client
abbrev pub asks_to_start : ℕ → Request → Bool
asks_to_start client (requests.Start start) = start.client == client
asks_to_start client (requests.Beat beat) = false
asks_to_start client (requests.Call message) = false

-- since a moment at which there was nothing to do a master has made these steps, and taken no message of this kind
pub record GoesOnWithout (kind : Request → Bool) (lease up : ℕ) (s : MasterState) (steps : List MasterStep) (new : MasterState) : Type 0 where
  pub before : List MasterStep
  pub from : ℕ
  pub came : HasComeUp lease up before s
  pub quiet : quiet_at s from ≡ true
  pub of_clients : list_all is_of_client steps ≡ true
  pub without : list_any (takes_one kind) steps ≡ false
  pub is : new ≡ fold master_behind s steps

-- until when a session lives at most of which nothing more is heard: a Beat of it that is parked may be answered before its timeout, and then it lives for a lease from the answer on
abbrev pub lives_until : ℕ → Session Reply → ℕ
lives_until lease session = if is_some session.parked then session.timeout + lease else session.timeout

-- it doesn't live longer
abbrev pub SilentSessionsEnd : Type 0
SilentSessionsEnd =
    (lease up client : ℕ) (s new : MasterState) (steps : List MasterStep) (session later : Session Reply) → GoesOnWithout (is_by client) lease up s steps new
    → session_of s client ≡ Some session → session_of new client ≡ Some later
    → later.timeout ≤ lives_until lease session

-- 60,002 ms and a lease later, where there is nothing to do, it holds no right, so that no change waits for it
abbrev pub SilentClientsHoldNothing : Type 0
SilentClientsHoldNothing =
    (lease up client now : ℕ) (s new : MasterState) (steps : List MasterStep) (name : List ℕ) → GoesOnWithout (is_by client) lease up s steps new → quiet_at new now ≡ true
    → s.clock + recovery_timeout + lease ≤ now → holds client name new.rights ≡ false

-- ---- a recovery

-- a client holds the recovery up at this moment: it hasn't acknowledged that a new master is up, and its session is live, and ends later
pub record HoldsUpRecovery (s : MasterState) (now client : ℕ) : Type 0 where
  pub session : Session Reply
  pub found : session_of s client ≡ Some session
  pub unheard : has_heard session ≡ false
  pub live : session.live ≡ true
  pub later : now < session.timeout

-- where there is nothing to do a recovery that goes on is held up by a client
abbrev pub RecoveryIsHeldUp : Type 0
RecoveryIsHeldUp =
    (lease up now : ℕ) (steps : List MasterStep) (s : MasterState) → HasComeUp lease up steps s → quiet_at s now ≡ true → s.recovering ≡ true
    → (client : ℕ) × HoldsUpRecovery s now client

-- how long a recovery lasts at most, in milliseconds: a session's timeout, the patience with a client that doesn't acknowledge, and two leases
abbrev pub longest_recovery : ℕ → ℕ
longest_recovery lease = recovery_timeout + patience lease + lease + lease

-- whatever clients send, where there is nothing to do that long after the master's coming up the recovery is over
abbrev pub RecoveriesEnd : Type 0
RecoveriesEnd =
    (lease up now : ℕ) (steps : List MasterStep) (s : MasterState) → HasComeUp lease up steps s → quiet_at s now ≡ true → up + longest_recovery lease ≤ now
    → s.recovering ≡ false

-- ---- a client that doesn't acknowledge

-- how long a client holds at most what it was asked for, in milliseconds: the patience with it twice, and four leases; but a session's timeout in the place of a lease and the first patience, where that
-- is longer
abbrev pub longest_hold : ℕ → ℕ
longest_hold lease = max recovery_timeout (patience lease + lease) + patience lease + lease + lease + lease

-- whatever it sends, but no Start, that long after a moment at which there was nothing to do a client holds no right any more that it was asked for by then
abbrev pub RightsComeBack : Type 0
RightsComeBack =
    (lease up client now number : ℕ) (s new : MasterState) (steps : List MasterStep) (session : Session Reply) (name : List ℕ) → GoesOnWithout (asks_to_start client) lease up s steps new
    → session_of s client ≡ Some session → number ≤ session.invalidations.issued → asked_for client name new.rights ≡ Some number → quiet_at new now ≡ true → now < s.clock + longest_hold lease

-- so a change that waits at both moments isn't held up by it
abbrev pub ChangesGoOn : Type 0
ChangesGoOn =
    (lease up client now : ℕ) (s new : MasterState) (steps : List MasterStep) (change : Waiting Task) (name : List ℕ) → GoesOnWithout (asks_to_start client) lease up s steps new
    → Contains s.gate.waiting change → Contains new.gate.waiting change → quiet_at new now ≡ true → s.clock + longest_hold lease ≤ now
    → touches name change ≡ true → holds client name new.rights ≡ false

-- ---- an instance: a client keeps in its cache, until 12,000, that there is no file of a name; a change that makes one waits for it

abbrev pub new_rows : Rows
new_rows = changed_rows (opening standard) (up_edits (opening standard))

abbrev pub wanted_name : List ℕ
wanted_name = codes "/ls/c/x"

abbrev pub opening_of : Option Create → Open
opening_of create = record { name = wanted_name; mode = record { read = true; write = true; change = false }; create = create; delay = 0; events = no_events }

abbrev pub making : Create
making = record { disposition = dispositions.May; node = nodes.File []; life = lives.Permanent; acls = None }

abbrev pub starts : ℕ → List ℕ → MasterStep
starts client principal = Takes 0 (requests.Start (record { client = client; number = 1; principal = principal }))

abbrev pub opens : ℕ → Option Create → MasterStep
opens client create = Takes 0 (requests.Call (record { client = client; epoch = 1; number = 1; call = calls.Open (opening_of create); sequencer = None }))

-- at moment 0 two clients begin; the first finds no file, and the second asks for one
abbrev pub waiting_steps : List MasterStep
waiting_steps = starts 1 (codes "ann") ∷ Sweeps 0 ∷ starts 2 (codes "bob") ∷ Sweeps 0 ∷ opens 1 None ∷ opens 2 (Some making) ∷ []

abbrev pub waiting_master : MasterState
waiting_master = fold master_behind (master_of new_rows (terms_of standard) 0) waiting_steps

-- it came up, so that the laws above hold of it. At 11,999 there is nothing to do, and the first client holds the change up; at 12,000 its session is to end, and once its rights have ended the change
-- has its turn
pub record AChangeWaits : Type 0 where
  pub came : HasComeUp 12000 0 waiting_steps waiting_master
  pub change : Waiting Task
  pub alone : waiting_master.gate.waiting ≡ change ∷ []
  pub nothing : quiet_at waiting_master 11999 ≡ true
  pub waits : HoldsUp waiting_master 11999 1 change
  pub ends : first_action (noted waiting_master 12000) ≡ actions.Expire 1
  pub goes_on : next_change (record waiting_master { rights = ended 1 endings.Expiry waiting_master.rights }) ≡ Some change.number
