-- Each message and each sweep leaves every lock so.
use Rattle.std.proofs.Common.{◌≡◌, ℕ, ◌≤◌, List, [], ◌∷◌, ◌++◌, Bool, true, false, cond, Option, Some, None, Result, Ok, Err, refl, sym, ap, subst, ◌∙◌, arith}
use Rattle.std.specs.Prelude.{◌||◌, ◌==◌, not, nat_le, map, filter, fold, is_none, is_some}
use Rattle.std.specs.Option.{option_map_or}
use Rattle.std.specs.List.{AllByRecursion}
use Rattle.std.specs.List.Sorted.{IsStrictlySortedBy}
use Rattle.std.specs.Map.{keys_of, remove_entry}
use Rattle.std.specs.BTreeMap.{is_at, insert_entry}
use Rattle.std.specs.Ordering.{nat_cmp}
use Rattle.names_cell.specs.Text.{parent_of}
use Rattle.node_core.specs.Limits.{number_limit}
use Rattle.node_core.specs.Nodes.{get_node, has_children, with_parent}
use Rattle.node_core.specs.declared.kinds.Kind.{Kind}
use Rattle.node_core.specs.declared.kinds.Kind.TheVariants.{File, Directory}
use Rattle.node_core.specs.declared.kinds.LockMode.TheVariants as modes
use Rattle.node_core.specs.declared.kinds.Right.TheVariants as rights
use Rattle.node_core.specs.declared.nodes.Node.{Node}
use Rattle.node_core.specs.declared.refusals.Fault.{Fault}
use Rattle.node_core.specs.declared.refusals.Fault.TheVariants as faults
use Rattle.node_core.specs.declared.views.Mod.TheVariants.{Put}
use Rattle.rows_cell.specs.declared.keys.LockKey.{LockKey}
use Rattle.rows_cell.specs.declared.tables.LockRow.{LockRow}
use Rattle.rows_cell.specs.declared.tables.Rows.{Rows}
use Rattle.rows_cell.specs.declared.tables.StoredNode.{StoredNode}
use Rattle.rows_cell.specs.declared.tables.LockState as stored
use Rattle.rows_cell.specs.declared.tables.LockState.TheVariants as kept
use Rattle.tags_cell.specs.Handles.{read_handle}
use Rattle.tags_cell.specs.declared.handles.Handle.{Handle}
use Rattle.tags_cell.specs.declared.messages.calls.Call.{Call}
use Rattle.tags_cell.specs.declared.messages.calls.Call.TheVariants as calls
use Rattle.tags_cell.specs.declared.messages.calls.Create.{Create}
use Rattle.tags_cell.specs.declared.messages.calls.Disposition.{Disposition}
use Rattle.tags_cell.specs.declared.messages.calls.Disposition.TheVariants.{May, Must}
use Rattle.tags_cell.specs.declared.messages.calls.Open.{Open}
use Rattle.tags_cell.specs.declared.messages.outs.CallResult.{CallResult}
use Rattle.tags_cell.specs.declared.messages.outs.CallResult.TheVariants as results
use Rattle.tags_cell.specs.declared.messages.requests.Request.{Request}
use Rattle.lock_core.specs.declared.claims.Claim.{Claim}
use Rattle.lock_core.specs.declared.claims.Hold.{Hold}
use Rattle.lock_core.specs.declared.partings.Parting.{Parting}
use Rattle.lock_core.specs.declared.partings.Parting.TheVariants as partings
use Rattle.lock_core.specs.declared.turns.Acquired.TheVariants as asked
use Rattle.lock_core.specs.State.{LockState, IsLegal, lock_of, owner_order, mode_of, hold_of, nobody_holds, is_exhausted}
use Rattle.lock_core.specs.Turns.{is_nobody, is_owner, without, held_by, waited_by, may_hold, acquired_by, tried, settled, any_waits, concerns, lapsed, reopened}
use Rattle.lock_core.specs.Locks.{LockTable, lock_at, with_lock, may_stand, with_holder, with_closing}
use Rattle.lock_core.proofs.Generations.{try_succeeds}
use Rattle.master_parts.specs.Claims.{owner_of, claim_of}
use Rattle.master_parts.specs.Calls.{create_fault, bytes_of}
use Rattle.master_parts.specs.Locks.{with_generation, holder_of, locked_as, with_row, generations_of, locks_of}
use Rattle.master_parts.specs.declared.handles.HandleNote.{HandleNote}
use Rattle.master_parts.specs.declared.pending.Task.TheVariants as tasks
use Rattle.master_state.specs.NameSpace.{name_space, caller}
use Rattle.master_state.specs.State.{MasterState}
use Rattle.master_state.specs.Lookups.{missing_right, may, is_of_cell, sequencer_fault, lock_under, node_of_handle, new_handle, answer_on}
use Rattle.master_state.specs.Lapses.{lapses_of, lapses_puts}
use Rattle.master_parts.specs.NameIndex.{name_of}
use Rattle.master_state.specs.Replies.{puts_of}
use Rattle.master_state.specs.Updates.{with_note, with_locks}
use Rattle.master_state.specs.declared.updates.LockPut.{LockPut}
use Rattle.cell_core.specs.Cases.{TakeCase, taken_by}
use Rattle.cell_core.specs.Cases.TakeCase.{StartRefused, StartRecovering, StartFull, StartQueued, OldBeat, BeatRefused, BeatParked, OldEpoch, NoSession, LeftBefore, Repeated, OlderCall, Outstanding, LeavesBeside, Recovering, Answered, Granted, Waits}
use Rattle.cell_core.specs.Effect.{answered, refused, changes_to, is_last, new_node_fault, content_fault, lock_fault, unless, new_node, acls_of, create_put, create_made, create_numbered, create_permitted, create_in, create_under, create_new, create_over, create_effect, create_under_sequencer, open_effect, acquire_by, try_by, release_by, close_by, close_under, generation_fits, with_content, with_acls, put_at, deleted, delete_at, change_at, change_on, effect_on, handle_effect, effect}
use Rattle.cell_core.specs.Outcomes.{left_put}
use Rattle.cell_core.specs.Step.{queued, recorded, names_of, with_call, asking_for}
use Rattle.cell_core.specs.declared.effects.Effect.{Effect}
use Rattle.cell_core.specs.declared.effects.Locking.{Locking}
use Rattle.cell_core.specs.declared.effects.Locking.TheVariants as lockings
use Rattle.cell_core.proofs.AskedFor.{asks_only}
use Rattle.over_core.specs.Kept.{IsKept}
use Rattle.over_core.specs.SweepCase.{SweepCase, rest, mapped, swept_by}
use Rattle.over_core.specs.SweepCase.SweepCase.{Quiet, Recovers, Expires, Departed, AnswersBeat, TurnedAway, StartedAgain, Started, Reopens, Tidies, Spared, Tidied, OfEnded, Ended, Applied, Deleted, Locked, Awaited, Left}
use Rattle.over_core.proofs.KeptByTakes.{unnoted}
use Rattle.over_core.proofs.LockPuts.{lock_at_put}
use Rattle.over_core.proofs.LocksOfNodes.{lock_gone}
use Rattle.over_core.proofs.NamedLocks.{own_locks}
use Rattle.master_laws.proofs.Tended.{is_free, IsTended, SinceBy, AreTended, settled_tended, reopened_tended, held_tended, waited_tended, lapsed_tended, put_tended, puts_tended, none_tended}

-- ---- what a call does to a lock

abbrev Tends : MasterState → Locking → Type 0
Tends s lockings.Nothing = Unit {0}
Tends s (lockings.Takes put claim) = IsTended s.clock put.lock
Tends s (lockings.Waits put) = IsTended s.clock put.lock
Tends s (lockings.Leaves leave) = IsTended s.clock leave.turn.lock
Tends s (lockings.Goes instance waiters) = Unit {0}

either : (P : Effect → Type 0) (b : Bool) (x y : Effect) → P x → P y → P (cond b x y)
either P true x y h k = h
either P false x y h k = k

by_option : {X : Type 0} (P : Effect → Type 0) (o : Option X) (f : X → Effect) (y : Effect) → ((x : X) → P (f x)) → P y → P (option_map_or f o y)
by_option P None f y h k = k
by_option P (Some x) f y h k = h x

module _ (s : MasterState) (legal : (instance : ℕ) → IsLegal (lock_at s.locks instance)) (h : AreTended s.clock s.locks) where
  abbrev Fits : Effect → Type 0
  Fits effected = Tends s effected.locking

  of_made : (opening : Open) (node : Node) (opened : Result Handle Fault) → Fits (create_made (name_space s) opening node opened)
  of_made opening node (Ok handle) = by_option Fits (new_node_fault (name_space s) node) (λ fault. refused fault) (create_put (name_space s) opening node handle) (λ fault. tt) tt
  of_made opening node (Err fault) = tt

  of_permitted : (client number : ℕ) (opening : Open) (node : Node) → Fits (create_permitted (name_space s) (caller s client) number opening node)
  of_permitted client number opening node =
      by_option Fits (missing_right (name_space s) (caller s client) opening.mode node) (λ right. refused (faults.Denied right)) (create_numbered (name_space s) (caller s client) number opening node) (λ right. tt)
      (either Fits (is_last s.next_instance) (refused faults.Exhausted) (create_made (name_space s) opening node (new_handle (name_space s) (caller s client) number opening node)) tt (of_made opening node (new_handle (name_space s) (caller s client) number opening node)))

  of_kind : (client number : ℕ) (opening : Open) (create : Create) (above : Node) (kind : Kind) → Fits (create_in (name_space s) (caller s client) number opening create above kind)
  of_kind client number opening create above File = tt
  of_kind client number opening create above Directory =
      let node : Node = new_node s.next_instance create.node create.life (acls_of above create.acls) in
      either Fits (may (name_space s) (caller s client) above rights.Write) (create_permitted (name_space s) (caller s client) number opening node) (refused (faults.Denied rights.Write)) (of_permitted client number opening node) tt

  of_above : (client number : ℕ) (opening : Open) (create : Create) (o : Option Node) → Fits (create_under (name_space s) (caller s client) number opening create o)
  of_above client number opening create None = tt
  of_above client number opening create (Some above) = of_kind client number opening create above above.kind

  of_present : (client number : ℕ) (opening : Open) (disposition : Disposition) (node : Node) → Fits (create_over (name_space s) (caller s client) number opening disposition node)
  of_present client number opening Must node = tt
  of_present client number opening May node = tt

  of_create : (client number : ℕ) (opening : Open) (create : Create) → Fits (create_effect (name_space s) (caller s client) number opening create)
  of_create client number opening create =
      by_option Fits (get_node s.nodes opening.name) (λ node. create_over (name_space s) (caller s client) number opening create.disposition node) (create_new (name_space s) (caller s client) number opening create)
      (of_present client number opening create.disposition)
      (by_option Fits (parent_of opening.name) (λ parent. create_under (name_space s) (caller s client) number opening create (get_node s.nodes parent)) (refused faults.NotFound) (λ parent. of_above client number opening create (get_node s.nodes parent)) tt)

  of_sequencer : (client number : ℕ) (opening : Open) (create : Create) (o : Option Fault) → Fits (create_under_sequencer (name_space s) (caller s client) number opening create o)
  of_sequencer client number opening create None =
      by_option Fits (create_fault opening create.node) (λ answer. answered answer) (create_effect (name_space s) (caller s client) number opening create) (λ answer. tt) (of_create client number opening create)
  of_sequencer client number opening create (Some fault) = tt

  of_open : (client number : ℕ) (opening : Open) (sequencer : Option (List ℕ)) (o : Option Create) → Fits (open_effect (name_space s) (caller s client) number opening sequencer o)
  of_open client number opening sequencer None = tt
  of_open client number opening sequencer (Some create) =
      either Fits (is_of_cell (name_space s) opening.name) (create_under_sequencer (name_space s) (caller s client) number opening create (sequencer_fault (name_space s) sequencer)) (refused faults.OtherCell) (of_sequencer client number opening create (sequencer_fault (name_space s) sequencer)) tt

  -- ---- locks

  abbrev under : Handle → LockState
  under handle = lock_under (name_space s) handle

  since_under : (handle : Handle) → SinceBy s.clock (under handle)
  since_under handle = let t = h handle.instance in t.since

  of_asked : (handle : Handle) (claim : Claim) (room : Option Fault) (b : Bool) → may_hold (under handle) claim ≡ b → is_exhausted (under handle) ≡ false → Fits (acquire_by handle claim room (cond b (Ok (asked.Held (held_by (under handle) claim))) (Ok (asked.Waits (waited_by (under handle) claim)))))
  of_asked handle claim (Some fault) true may_now spare = tt
  of_asked handle claim (Some fault) false may_now spare = tt
  of_asked handle claim None true may_now spare = held_tended s.clock (under handle) claim (since_under handle)
  of_asked handle claim None false may_now spare = waited_tended s.clock (under handle) claim may_now spare (h handle.instance)

  of_left : (handle : Handle) (claim : Claim) (room : Option Fault) (b : Bool) → is_exhausted (under handle) ≡ b → Fits (acquire_by handle claim room (cond b (Err faults.Exhausted) (cond (may_hold (under handle) claim) (Ok (asked.Held (held_by (under handle) claim))) (Ok (asked.Waits (waited_by (under handle) claim))))))
  of_left handle claim room true spent = tt
  of_left handle claim room false spare = of_asked handle claim room (may_hold (under handle) claim) refl spare

  of_acquired : (handle : Handle) (claim : Claim) (room : Option Fault) (o : Option Hold) → Fits (acquire_by handle claim room (acquired_by (under handle) claim o))
  of_acquired handle claim room (Some hold) = tt
  of_acquired handle claim room None = of_left handle claim room (is_exhausted (under handle)) refl

  of_tried : (handle : Handle) (claim : Claim) (room : Option Fault) (r : Result LockState Fault) → tried (under handle) claim s.clock ≡ r → Fits (try_by handle claim room r)
  of_tried handle claim room (Err fault) is = tt
  of_tried handle claim (Some fault) (Ok new) is = tt
  of_tried handle claim None (Ok new) is =
      let t = (try_succeeds (under handle) new claim s.clock (legal handle.instance)).0 is in
      let P : LockState → Type 0 = λ x. IsTended s.clock x in
      subst P (sym t.1) (held_tended s.clock (under handle) claim (since_under handle))

  without_since : (handle : Handle) → IsTended s.clock (settled (without (is_owner (owner_of handle)) (under handle))).lock
  without_since handle = settled_tended s.clock (without (is_owner (owner_of handle)) (under handle)) (since_under handle)

  of_released : (handle : Handle) (b : Bool) → Fits (release_by handle (cond b (Ok (settled (without (is_owner (owner_of handle)) (under handle)))) (Err faults.NotHolder)))
  of_released handle true = without_since handle
  of_released handle false = tt

  of_gone : (handle : Handle) (b : Bool) → Tends s (close_by (name_space s) handle (cond b (Some (settled (without (is_owner (owner_of handle)) (under handle)))) None))
  of_gone handle true = without_since handle
  of_gone handle false = tt

  of_closed : (handle : Handle) (o : Option Node) → Tends s (close_under (name_space s) handle o)
  of_closed handle None = tt
  of_closed handle (Some node) = of_gone handle (is_some (hold_of (under handle) (owner_of handle)) || any_waits (is_owner (owner_of handle)) (under handle))

  -- ---- any call

  of_put : (handle : Handle) (present : ℕ) (wanted : Option ℕ) (room : Option Fault) (node : Node) → Fits (put_at (name_space s) handle present wanted room node)
  of_put handle present wanted room node =
      let changed : Effect = changes_to (Put handle.name node) s.next_instance results.Done in
      let written : Effect = unless room changed in
      either Fits (generation_fits wanted present) (cond (is_last present) (refused faults.Exhausted) written) (refused (faults.WrongGeneration present))
      (either Fits (is_last present) (refused faults.Exhausted) written tt (by_option Fits room (λ fault. refused fault) changed (λ fault. tt) tt)) tt

  of_delete : (handle : Handle) → Fits (delete_at (name_space s) handle)
  of_delete handle = either Fits (has_children s.nodes handle.name || is_none (parent_of handle.name)) (refused faults.NotEmpty) (deleted (name_space s) handle) tt tt

  of_node : (handle : Handle) (call : Call) (node : Node) → Fits (change_at (name_space s) s.clock handle call node)
  of_node handle (calls.Set bytes content generation) node = of_put handle node.content_generation generation (content_fault (name_space s) node content) (with_content node content)
  of_node handle (calls.SetAcl bytes acls generation) node = of_put handle node.acl_generation generation None (with_acls node acls)
  of_node handle (calls.Delete bytes) node = of_delete handle
  of_node handle (calls.Acquire bytes mode) node = of_acquired handle (claim_of handle mode) (lock_fault (name_space s) handle.client) (hold_of (under handle) (owner_of handle))
  of_node handle (calls.TryAcquire bytes mode) node = of_tried handle (claim_of handle mode) (lock_fault (name_space s) handle.client) (tried (under handle) (claim_of handle mode) s.clock) refl
  of_node handle (calls.Release bytes) node = of_released handle (is_some (hold_of (under handle) (owner_of handle)))
  of_node handle call node = tt

  of_application : (handle : Handle) (call : Call) (o : Option CallResult) → Fits (option_map_or (λ answer. answered answer) o (change_on (name_space s) s.clock handle call))
  of_application handle call o =
      by_option Fits o (λ answer. answered answer) (change_on (name_space s) s.clock handle call) (λ answer. tt)
      (by_option Fits (node_of_handle (name_space s) handle) (λ node. change_at (name_space s) s.clock handle call node) (refused faults.StaleInstance) (of_node handle call) tt)

  of_call : (handle : Handle) (call : Call) (sequencer : Option (List ℕ)) → Fits (effect_on (name_space s) s.clock handle call sequencer)
  of_call handle (calls.Close bytes) sequencer = of_closed handle (node_of_handle (name_space s) handle)
  of_call handle call sequencer = of_application handle call (answer_on (name_space s) handle call sequencer)

  of_handle : (call : Call) (sequencer : Option (List ℕ)) (o : Option Handle) → Fits (handle_effect (name_space s) s.clock call sequencer o)
  of_handle call sequencer None = tt
  of_handle call sequencer (Some handle) = of_call handle call sequencer

  effect_tends : (client number : ℕ) (call : Call) (sequencer : Option (List ℕ)) → Fits (effect (name_space s) (caller s client) s.clock number call sequencer)
  unfolding effect
  effect_tends client number (calls.Open opening) sequencer = of_open client number opening sequencer opening.create
  effect_tends client number call sequencer = of_handle call sequencer (read_handle s.secret (bytes_of call))

  -- ---- the locks of a session that ends

  since_of : (clock : ℕ) (lock other : LockState) → lock ≡ other → SinceBy clock lock → SinceBy clock other
  since_of clock lock other same since = subst (SinceBy clock) same since

  named_tended : (instance : ℕ) (lock : LockState) (o : Option (List ℕ)) → IsTended s.clock lock → AllByRecursion (λ (put : LockPut). IsTended s.clock put.lock) (option_map_or (λ (name : List ℕ). record { name = name; instance = instance; lock = lock } ∷ []) o [])
  named_tended instance lock None t = tt
  named_tended instance lock (Some name) t = (t, tt)

  all_append : (xs ys : List LockPut) → AllByRecursion (λ (put : LockPut). IsTended s.clock put.lock) xs → AllByRecursion (λ (put : LockPut). IsTended s.clock put.lock) ys → AllByRecursion (λ (put : LockPut). IsTended s.clock put.lock) (xs ++ ys)
  all_append [] ys a b = b
  all_append (x ∷ xs) ys a b = (a.0, all_append xs ys a.1 b)

  lapses_tended : (parting : Parting) (client : ℕ) (entries : LockTable) → AllByRecursion (λ (e : ℕ × LockState). lock_at s.locks e.0 ≡ e.1) entries → AllByRecursion (λ (put : LockPut). IsTended s.clock put.lock) (lapses_puts s (map (λ (entry : ℕ × LockState). lapsed parting entry.0 entry.1 client s.clock) (filter (λ (entry : ℕ × LockState). concerns client entry.1) entries)))
  lapses_tended parting client [] own = tt
  lapses_tended parting client (e ∷ es) own =
      elim (concerns client e.1) as (λ b. AllByRecursion (λ (put : LockPut). IsTended s.clock put.lock) (lapses_puts s (map (λ (entry : ℕ × LockState). lapsed parting entry.0 entry.1 client s.clock) (cond b (e ∷ filter (λ (entry : ℕ × LockState). concerns client entry.1) es) (filter (λ (entry : ℕ × LockState). concerns client entry.1) es))))) [
        | true ↦ (let t = h e.0 in all_append (puts_of s e.0 (lapsed parting e.0 e.1 client s.clock).turn.lock) (lapses_puts s (map (λ (entry : ℕ × LockState). lapsed parting entry.0 entry.1 client s.clock) (filter (λ (entry : ℕ × LockState). concerns client entry.1) es))) (named_tended e.0 (lapsed parting e.0 e.1 client s.clock).turn.lock (name_of s.nodes e.0) (lapsed_tended parting e.0 e.1 client s.clock (since_of s.clock (lock_at s.locks e.0) e.1 own.0 t.since))) (lapses_tended parting client es own.1))
        | false ↦ lapses_tended parting client es own.1
      ]

  session_tended : (parting : Parting) (client : ℕ) → IsStrictlySortedBy nat_cmp (keys_of s.locks) → AllByRecursion (λ (put : LockPut). IsTended s.clock put.lock) (lapses_puts s (lapses_of parting s client))
  session_tended parting client sorted = lapses_tended parting client s.locks (own_locks s.locks sorted)

  gone_tended : (instance : ℕ) → IsStrictlySortedBy nat_cmp (keys_of s.locks) → AreTended s.clock (remove_entry (is_at (nat_cmp instance)) s.locks)
  gone_tended instance sorted n =
      subst (IsTended s.clock) (sym (lock_gone s.locks instance n sorted)) (elim (instance == n) as (λ b. IsTended s.clock (cond b (lock_of 0) (lock_at s.locks n))) [ true ↦ none_tended s.clock 0 | false ↦ h n ])

-- ---- every arm

asked_locks : (names : List (List ℕ)) (s : MasterState) → (asking_for s names).locks ≡ s.locks
asked_locks names s = ap (λ (m : MasterState). m.locks) (asks_only names s)

note_locks : (s : MasterState) (note : Option HandleNote) → (with_note s note).locks ≡ s.locks
note_locks s note = unnoted (λ x. x.locks) (λ x n. refl) s note

pub locks_by_case : (s : MasterState) (request : Request) (c : TakeCase s request) → (taken_by s request c).0.locks ≡ s.locks
locks_by_case s request (StartRefused start is may) = refl
locks_by_case s request (StartRecovering start is may recovering) = refl
locks_by_case s request (StartFull start is may serving full) = refl
locks_by_case s request (StartQueued start is may serving room) = refl
locks_by_case s request (OldBeat beat is other) = refl
locks_by_case s request (BeatRefused beat fault is same refused) = refl
locks_by_case s request (BeatParked beat is same taken) = refl
locks_by_case s request (OldEpoch message is other) = refl
locks_by_case s request (NoSession message is same ended) = refl
locks_by_case s request (LeftBefore message kept request_is same_epoch ended is same) = refl
locks_by_case s request (Repeated message kept heard is same) = refl
locks_by_case s request (OlderCall message kept heard is less) = refl
locks_by_case s request (Outstanding message kept heard is more none) = refl
locks_by_case s request (LeavesBeside message heard beside) = refl
locks_by_case s request (Recovering message new recovering) = refl
locks_by_case s request (Answered message note answer new serving answered) = note_locks s note
locks_by_case s request (Granted message note answer name new serving granted) = note_locks s note
locks_by_case s request (Waits message note touched new serving admitted) = asked_locks (names_of touched) (with_call (with_note s note) message touched) ∙ note_locks s note

module _ (cell : List ℕ) (rows : Rows) (s : MasterState) (k : IsKept cell rows s) (h : AreTended s.clock s.locks) where
  legal : (instance : ℕ) → IsLegal (lock_at s.locks instance)
  legal instance = let t = k.locks.each instance in t.legal

  by_effect : (client number : ℕ) (call : Call) (sequencer : Option (List ℕ)) (effected : Effect) → effect (name_space s) (caller s client) s.clock number call sequencer ≡ effected → Tends s effected.locking
  by_effect client number call sequencer effected made = let P : Effect → Type 0 = λ x. Tends s x.locking in subst P made (effect_tends s legal h client number call sequencer)

  note_tended : (t : MasterState) (note : Option HandleNote) → AreTended s.clock t.locks → AreTended s.clock (with_note t note).locks
  note_tended t note tended = subst (AreTended s.clock) (sym (note_locks t note)) tended

  pub tended_by_sweep : (c : SweepCase s) → AreTended s.clock (swept_by s c).0.locks
  tended_by_sweep (Quiet none) = h
  tended_by_sweep (Recovers recovering heard) = h
  tended_by_sweep (Expires client session due) = puts_tended s.clock (lapses_puts s (lapses_of partings.Expiry s client)) s.locks (session_tended s legal h partings.Expiry client k.locks.in_order) h
  tended_by_sweep (Departed front back asked call sequencer session turn work leave found live) = puts_tended s.clock (lapses_puts s (lapses_of partings.Leave s asked.client)) s.locks (session_tended s legal h partings.Leave asked.client k.locks.in_order) h
  tended_by_sweep (AnswersBeat client session beat due) = h
  tended_by_sweep (TurnedAway front back asked principal received turn work may) = h
  tended_by_sweep (StartedAgain front back asked principal received session turn work found live) = h
  tended_by_sweep (Started front back asked principal received turn work none) = h
  tended_by_sweep (Reopens instance due) = puts_tended s.clock (puts_of s instance (reopened (lock_at s.locks instance)).lock) s.locks (named_tended s legal h instance (reopened (lock_at s.locks instance)).lock (name_of s.nodes instance) (reopened_tended s.clock (lock_at s.locks instance))) h
  tended_by_sweep (Tidies idle due) = subst (AreTended s.clock) (sym (asked_locks (with_parent idle.name) (queued s (with_parent idle.name) (tasks.Tidies idle)))) h
  tended_by_sweep (Spared front back idle turn held) = h
  tended_by_sweep (Tidied front back idle turn still) = gone_tended s legal h idle.instance k.locks.in_order
  tended_by_sweep (OfEnded front back asked call sequencer turn work gone) = h
  tended_by_sweep (Ended front back asked call sequencer note answer turn work stays live made) = note_tended (recorded (rest s front back) asked.client _) note h
  tended_by_sweep (Applied front back asked call sequencer note change answer turn work stays live made) = note_tended (recorded (mapped (rest s front back) change) asked.client _) note h
  tended_by_sweep (Deleted front back asked call sequencer change instance waiters answer turn work stays live made) = gone_tended s legal h instance k.locks.in_order
  tended_by_sweep (Locked front back asked call sequencer put claim answer turn work stays live made) = put_tended s.clock s.locks put.instance put.lock (by_effect asked.client asked.number call sequencer _ made) h
  tended_by_sweep (Awaited front back asked call sequencer put turn work stays live made) = put_tended s.clock s.locks put.instance put.lock (by_effect asked.client asked.number call sequencer _ made) h
  tended_by_sweep (Left front back asked call sequencer note leave answer turn work stays live made) =
      let l = with_locks (rest s front back) (left_put leave ∷ []) in
      note_tended (recorded l asked.client _) note (put_tended s.clock s.locks leave.instance leave.turn.lock (by_effect asked.client asked.number call sequencer _ made) h)

-- ---- a master that comes up

record IsNew (now : ℕ) (lock : LockState) : Type 0 where
  none : lock.waiters ≡ []
  since : SinceBy now lock

abbrev AreNew : ℕ → LockTable → Type 0
AreNew now locks = (instance : ℕ) → IsNew now (lock_at locks instance)

new_put : (now : ℕ) (locks : LockTable) (instance : ℕ) (lock : LockState) → IsNew now lock → AreNew now locks → AreNew now (with_lock locks instance lock)
new_put now locks instance lock new h n =
    subst (IsNew now) (sym (lock_at_put locks instance lock n)) (elim (instance == n) as (λ b. IsNew now (cond b lock (lock_at locks n))) [ true ↦ new | false ↦ h n ])

nothing_new : (now generation : ℕ) → IsNew now (lock_of generation)
nothing_new now generation = record { none = refl; since = λ closing is. absurd (cc) }

generations_new : (now : ℕ) (nodes : List (List ℕ × StoredNode)) (locks : LockTable) → AreNew now locks → AreNew now (fold with_generation locks nodes)
generations_new now [] locks h = h
generations_new now (entry ∷ nodes) locks h = generations_new now nodes (with_generation locks entry) (
    elim (nat_le entry.1.lock_generation number_limit) as (λ b. AreNew now (cond b (with_lock locks entry.1.node.instance (lock_of entry.1.lock_generation)) locks)) [
      | true ↦ new_put now locks entry.1.node.instance (lock_of entry.1.lock_generation) (nothing_new now entry.1.lock_generation) h
      | false ↦ h
    ])

closing_new : (now delay : ℕ) (lock : LockState) → IsNew now lock → IsNew now (with_closing lock now delay)
closing_new now delay lock h = elim (nobody_holds lock) as (λ b. IsNew now (cond b (record lock { closed = Some (record { from = now; delay = delay }) }) lock)) [
  | true ↦ record { none = h.none; since = λ closing is. let same : now ≡ closing.from = cc in subst (λ t. t ≤ now) same (itself now) }
  | false ↦ h
]
  where
    itself : (n : ℕ) → n ≤ n
    itself n = omega arith

holder_new : (now : ℕ) (lock : LockState) (claim : Claim) → IsNew now lock → IsNew now (with_holder lock claim)
holder_new now lock claim h = elim (may_stand lock claim (mode_of lock.holders)) as (λ b. IsNew now (cond b (record lock { holders = insert_entry owner_order lock.holders claim.owner claim.hold }) lock)) [
  | true ↦ record { none = h.none; since = h.since }
  | false ↦ h
]

row_new : (now : ℕ) (lock : LockState) (key : LockKey) (delay : ℕ) (state : stored.LockState) → IsNew now lock → IsNew now (locked_as lock now key delay state)
row_new now lock key delay kept.Lapsed h = closing_new now delay lock h
row_new now lock key delay kept.Exclusive h = holder_new now lock (holder_of key modes.Exclusive delay) h
row_new now lock key delay kept.Shared h = holder_new now lock (holder_of key modes.Shared delay) h

rows_new : (now : ℕ) (entries : List (LockKey × LockRow)) (locks : LockTable) → AreNew now locks → AreNew now (fold (with_row now) locks entries)
rows_new now [] locks h = h
rows_new now (entry ∷ entries) locks h = rows_new now entries (with_row now locks entry) (new_put now locks entry.0.instance (locked_as (lock_at locks entry.0.instance) now entry.0 entry.1.delay entry.1.state) (row_new now (lock_at locks entry.0.instance) entry.0 entry.1.delay entry.1.state (h entry.0.instance)) h)

pub up_tended : (rows : Rows) (now : ℕ) → AreTended now (locks_of rows now)
up_tended rows now instance =
    let t = rows_new now rows.locks (generations_of rows) (generations_new now rows.nodes [] (λ n. nothing_new now 0)) instance in
    record { awaited = ap (λ ws. is_nobody ws || not (is_free (lock_at (locks_of rows now) instance))) t.none; since = t.since }
