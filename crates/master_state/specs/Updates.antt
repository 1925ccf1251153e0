-- What a step of a master changes in it: first what may want memory, then, after the one commit, the rest.
use Rattle.std.specs.Prelude.{◌≡◌, ℕ, ◌+◌, Bool, true, false, List, [], ◌∷◌, ◌++◌, ◌==◌, map, fold, drop, max, if◌then◌else◌, Option, Some, None}
use Rattle.std.specs.Map.{remove_entry}
use Rattle.std.specs.BTreeMap.{is_at, insert_entry}
use Rattle.std.specs.Ordering.{nat_cmp}
use Rattle.std.specs.Cmp.Lexicographic.{slice_cmp}
use Rattle.collections.specs.Tables.{with_former}
use Rattle.node_core.specs.declared.nodes.Node.{Node}
use Rattle.node_core.specs.declared.views.Mod.{Mod}
use Rattle.node_core.specs.declared.views.Mod.TheVariants.{Put, Gone}
use Rattle.rows_cell.specs.declared.tables.Edit.{Edit}
use Rattle.rows_cell.specs.declared.tables.Edit.TheVariants.{NextInstance, PutNode, RemoveNode, PutSession, RemoveSession, EndedBelow}
use Rattle.rows_cell.specs.LockRows.{LockChange, locks_edits}
use Rattle.session_core.specs.Session.{session_until, prolonged, ended, answered, keeping}
use Rattle.session_core.specs.Sessions.{SessionTable, with_session, with_new, without}
use Rattle.tags_cell.specs.declared.messages.outs.Reply.{Reply}
use Rattle.lock_core.specs.State.{LockState}
use Rattle.lock_core.specs.Locks.{LockTable, lock_at, with_lock}
use Rattle.master_state.specs.declared.updates.Change.{Change}
use Rattle.master_parts.specs.declared.handles.HandleKey.{HandleKey}
use Rattle.master_parts.specs.declared.handles.HandleState.{HandleState}
use Rattle.master_state.specs.declared.updates.Update.{Update}
use Rattle.master_state.specs.declared.updates.SessionUpdate.{SessionUpdate}
use Rattle.master_state.specs.declared.updates.SessionUpdate.TheVariants.{Begins, Prolongs, Ends, Answers}
use Rattle.master_state.specs.declared.updates.KeptPut.{KeptPut}
use Rattle.master_state.specs.declared.updates.LockPut.{LockPut}
use Rattle.master_state.specs.declared.updates.FormerSession.{FormerSession}
use Rattle.master_state.specs.declared.updates.FormerSession.TheVariants.{Same, Begun, Noted}
use Rattle.master_state.specs.declared.updates.FormerParts.{FormerParts}
use Rattle.master_state.specs.declared.updates.MapRest.{MapRest}
use Rattle.master_state.specs.declared.updates.Rest.{Rest}
use Rattle.master_parts.specs.Keys.{handle_order}
use Rattle.master_parts.specs.OpenHandles.{put_state, to_forget, without_key, with_state, without_client}
use Rattle.master_parts.specs.Locks.{lock_rows}
use Rattle.master_state.specs.Departed.{with_departed, without_last}
use Rattle.master_state.specs.State.{MasterState}
use Rattle.master_state.specs.Lookups.{session_of}
use Rattle.master_parts.specs.declared.handles.HandleNote.{HandleNote}
use Rattle.master_state.specs.Partings.{ending_by}
use Rattle.rights_core.specs.Rights as of_rights
use Rattle.gate_core.specs.Gate as of_gate

-- ---- what may want memory

-- what the master notes of a handle, if anything
abbrev pub with_note : MasterState → Option HandleNote → MasterState
with_note s None = s
with_note s (Some note) = record s { handles = with_state s.handles note.key note.state }

-- of it what may want memory: a handle that is to be forgotten stands until the rest is done
abbrev pub with_standing : MasterState → Option HandleNote → MasterState
with_standing s None = s
with_standing s (Some note) = record s { handles = put_state s.handles note.key note.state }

-- a session that begins is of a client without one
abbrev pub BeginsNew : MasterState → Option SessionUpdate → Type 0
BeginsNew s (Some (Begins client principal)) = session_of s client ≡ None
BeginsNew s _ = Unit {0}

-- it lives for a lease from now on; one that ends is noted
abbrev pub with_begun : MasterState → Option SessionUpdate → MasterState
with_begun s (Some (Begins client principal)) = record s { sessions = with_new s.sessions client (session_until principal true (s.clock + s.sessions.lease)) }
with_begun s (Some (Ends client principal parting)) = record s { departed = with_departed s.departed client }
with_begun s _ = s

-- a node that is put
abbrev pub with_put : MasterState → Mod → MasterState
with_put s (Put name node) = record s { nodes = insert_entry (slice_cmp nat_cmp) s.nodes name node }
with_put s (Gone name) = s

abbrev pub with_node : MasterState → Option Change → MasterState
with_node s None = s
with_node s (Some change) = with_put s change.change

-- a lock that changes
abbrev pub with_lock_put : LockTable → LockPut → LockTable
with_lock_put locks put = with_lock locks put.instance put.lock

abbrev pub with_locks : MasterState → List LockPut → MasterState
with_locks s puts = record s { locks = fold with_lock_put s.locks puts }

abbrev pub grown : MasterState → Update → MasterState
grown s update = with_locks (with_node (with_standing (with_begun s update.session) update.note) update.change) update.locks

-- ---- how it is taken back

abbrev pub without_begun : MasterState → FormerSession → MasterState
without_begun s Same = s
without_begun s (Begun client) = record s { sessions = without s.sessions client }
without_begun s (Noted noted) = record s { departed = without_last noted s.departed }

abbrev pub without_note : MasterState → Option (HandleKey × Option HandleState) → MasterState
without_note s None = s
without_note s (Some former) = record s { handles = with_former handle_order s.handles former.0 former.1 }

abbrev pub without_node : MasterState → Option (List ℕ × Option Node) → MasterState
without_node s None = s
without_node s (Some former) = record s { nodes = with_former (slice_cmp nat_cmp) s.nodes former.0 former.1 }

-- the last that was put is taken back first
abbrev pub with_formers : LockTable → List (ℕ × Option LockState) → LockTable
with_formers locks [] = locks
with_formers locks (former ∷ formers) = with_former nat_cmp (with_formers locks formers) former.0 former.1

abbrev pub without_locks : MasterState → List (ℕ × Option LockState) → MasterState
without_locks s formers = record s { locks = with_formers s.locks formers }

abbrev pub undone : MasterState → FormerParts → MasterState
undone s former = without_begun (without_note (without_node (without_locks s former.locks) former.node) former.note) former.session

-- ---- what is done after the commit

-- what is left to be done to a session; one that ends holds no right any more, and the handles that it has open are forgotten
abbrev pub session_rest : Option SessionUpdate → Option SessionUpdate
session_rest (Some (Begins client principal)) = None
session_rest update = update

abbrev pub gone_of : Mod → Option (List ℕ)
gone_of (Put name node) = None
gone_of (Gone name) = Some name

-- the node that goes, and the next instance
abbrev pub map_rest : Option Change → Option MapRest
map_rest None = None
map_rest (Some change) = Some (record { gone = gone_of change.change; next_instance = change.next_instance })

-- nothing is known any more of a session that has ended, but that its number gets none any more
abbrev pub without_ended : SessionTable Reply → Option ℕ → SessionTable Reply
without_ended sessions None = sessions
without_ended sessions (Some client) = without sessions client

abbrev pub without_first : List ℕ → Option ℕ → List ℕ
without_first departed None = departed
without_first departed (Some client) = drop 1 departed

abbrev pub raised : ℕ → Option ℕ → ℕ
raised ended_below None = ended_below
raised ended_below (Some client) = max ended_below (client + 1)

abbrev pub retired : MasterState → Option ℕ → MasterState
retired s client = record s { sessions = without_ended s.sessions client; departed = without_first s.departed client; ended_below = raised s.ended_below client }

-- the handle that is forgotten
abbrev pub forgets_of : Option HandleNote → Option HandleKey
forgets_of None = None
forgets_of (Some note) = to_forget note.key note.state

abbrev pub rest_of : Update → Rest
rest_of update = record { forgets = forgets_of update.note; retires = update.retires; session = session_rest update.session; kept = update.kept; map = map_rest update.change; ends_lock = update.ends_lock; recovers = update.recovers; leaves = update.leaves }

-- nothing is known of it any more
abbrev pub without_handle : MasterState → Option HandleKey → MasterState
without_handle s key = record s { handles = without_key s.handles key }

abbrev pub with_session_rest : MasterState → Option SessionUpdate → MasterState
with_session_rest s (Some (Prolongs client)) = record s { sessions = with_session s.sessions client (prolonged (s.clock + s.sessions.lease)) }
with_session_rest s (Some (Ends client principal parting)) =
    record s { handles = without_client s.handles client; sessions = with_session s.sessions client ended; rights = of_rights.ended client (ending_by parting) s.rights }
with_session_rest s (Some (Answers client)) = record s { sessions = with_session s.sessions client (answered s.sessions.lease s.clock) }
with_session_rest s _ = s

-- the reply to a call
abbrev pub with_kept_put : SessionTable Reply → KeptPut → SessionTable Reply
with_kept_put table put = with_session table put.client (keeping put.kept)

-- that of the call, and of each that waited for a lock
abbrev pub with_kept : MasterState → List KeptPut → MasterState
with_kept s puts = record s { sessions = fold with_kept_put s.sessions puts }

abbrev pub without_gone : MasterState → Option (List ℕ) → MasterState
without_gone s None = s
without_gone s (Some name) = record s { nodes = remove_entry (is_at (slice_cmp nat_cmp name)) s.nodes }

abbrev pub with_map : MasterState → Option MapRest → MasterState
with_map s None = s
with_map s (Some rest) = record (without_gone s rest.gone) { next_instance = rest.next_instance }

-- the lock of a node that goes
abbrev pub without_lock : MasterState → Option ℕ → MasterState
without_lock s None = s
without_lock s (Some instance) = record s { locks = remove_entry (is_at (nat_cmp instance)) s.locks }

abbrev pub recovered : MasterState → Bool → MasterState
recovered s false = s
recovered s true = record s { recovering = false; serving_from = s.clock }

-- the change of this number leaves the gate
abbrev pub left : MasterState → Option ℕ → MasterState
left s None = s
left s (Some number) = record s { gate = record s.gate { waiting = of_gate.without number s.gate.waiting } }

abbrev pub with_rest : MasterState → Rest → MasterState
with_rest s rest = left (recovered (without_lock (with_map (with_kept (with_session_rest (retired (without_handle s rest.forgets) rest.retires) rest.session) rest.kept) rest.map) rest.ends_lock) rest.recovers) rest.leaves

-- all of it
abbrev pub done : MasterState → Update → MasterState
done s update = with_rest (grown s update) (rest_of update)

-- ---- what of it is committed

-- its generation, where that rises
abbrev pub new_generation : LockState → LockState → Option ℕ
new_generation old new = if old.generation == new.generation then None else Some new.generation

-- what becomes of the rows of a lock
abbrev pub lock_change : LockTable → LockPut → LockChange
lock_change locks put = record {
  name = put.name;
  instance = put.instance;
  generation = new_generation (lock_at locks put.instance) put.lock;
  old = lock_rows put.instance (lock_at locks put.instance);
  new = lock_rows put.instance put.lock;
}

-- a waiter more or less is no row
abbrev pub lock_changes : MasterState → List LockPut → List LockChange
lock_changes s puts = map (lock_change s.locks) puts

-- a session that begins is put as live, and one that ends as ended
abbrev pub session_edits : Option SessionUpdate → List Edit
session_edits (Some (Begins client principal)) = PutSession client (record { principal = principal; live = true }) ∷ []
session_edits (Some (Ends client principal parting)) = PutSession client (record { principal = principal; live = false }) ∷ []
session_edits _ = []

-- one that goes, and below which number clients get no session any more
abbrev pub retire_edits : ℕ → Option ℕ → List Edit
retire_edits ended_below None = []
retire_edits ended_below (Some client) = RemoveSession client ∷ EndedBelow (max ended_below (client + 1)) ∷ []

abbrev pub edit_of : Mod → Edit
edit_of (Put name node) = PutNode name node
edit_of (Gone name) = RemoveNode name

abbrev pub change_edits : Option Change → List Edit
change_edits None = []
change_edits (Some change) = edit_of change.change ∷ NextInstance change.next_instance ∷ []

-- by the master before it
abbrev pub edits_of : MasterState → Update → List Edit
edits_of s update = locks_edits (lock_changes s update.locks) ++ (session_edits update.session ++ retire_edits s.ended_below update.retires) ++ change_edits update.change
