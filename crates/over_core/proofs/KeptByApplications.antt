-- A change whose turn comes leaves the master beside its rows.
use Rattle.std.proofs.Common.{◌≡◌, ℕ, ◌+◌, ◌≤◌, List, [], ◌∷◌, ◌++◌, Bool, true, false, Option, Some, None, refl, sym, ◌∙◌, ap, subst, arith}
use Rattle.std.specs.Prelude.{◌&&◌, ◌==◌, not, All}
use Rattle.std.specs.Option.{option_map_or}
use Rattle.std.specs.List.{list_all, sum_by}
use Rattle.std.specs.List.Sorted.{IsStrictlySortedBy}
use Rattle.std.specs.Map.{keys_of, values_of, remove_entry}
use Rattle.std.specs.BTreeMap.{is_at, insert_entry}
use Rattle.std.specs.Ordering.{nat_cmp}
use Rattle.std.specs.Cmp.Lexicographic.{slice_cmp, nat_list_cmp_total}
use Rattle.std.proofs.lemmas.Bool.{and_parts, and_from}
use Rattle.std.proofs.lemmas.List.Elements.{All-head, All-tail}
use Rattle.std.proofs.lemmas.List.Sums.{sum_by_push}
use Rattle.node_core.specs.declared.refusals.Fault.TheVariants as faults
use Rattle.node_core.specs.declared.nodes.Node.{Node}
use Rattle.node_core.specs.declared.views.Mod.{Mod}
use Rattle.node_core.specs.declared.views.Mod.TheVariants.{Put, Gone}
use Rattle.node_core.specs.Nodes.{Nodes, changed}
use Rattle.rows_cell.specs.declared.keys.LockKey.{LockKey}
use Rattle.rows_cell.specs.declared.tables.LockRow.{LockRow}
use Rattle.rows_cell.specs.declared.tables.StoredNode.{StoredNode}
use Rattle.rows_cell.specs.declared.tables.Rows.{Rows}
use Rattle.rows_cell.specs.declared.tables.Edit.TheVariants.{NextInstance}
use Rattle.rows_cell.specs.Keys.{lock_order}
use Rattle.rows_cell.specs.Rows.{StoredLocks, stored_node, nodes_of, put_stored, without_locks_of, changed_rows}
use Rattle.rows_cell.proofs.EntriesInOrder.{sorted_put, sorted_gone, sorted_kept}
use Rattle.rows_cell.proofs.RowNodes.{nodes_put, nodes_gone}
use Rattle.rows_cell.proofs.SoundChanges.{PutFits, put_sound}
use Rattle.rows_cell.proofs.SoundRemovals.{GoneFits, gone_sound}
use Rattle.tags_cell.specs.Numbers.{is_client_number}
use Rattle.tags_cell.specs.declared.messages.outs.CallResult.{CallResult}
use Rattle.tags_cell.specs.declared.messages.outs.CallResult.TheVariants as results
use Rattle.tags_cell.specs.declared.messages.outs.Reply.{Reply}
use Rattle.gate_core.specs.declared.pending.Waiting.{Waiting}
use Rattle.session_core.specs.declared.records.LastCall.{LastCall}
use Rattle.session_core.specs.Sessions.{kept_of}
use Rattle.lock_core.specs.declared.claims.Claim.{Claim}
use Rattle.lock_core.specs.Locks.{LockTable, lock_at}
use Rattle.master_state.specs.declared.updates.Change.{Change}
use Rattle.master_state.specs.declared.updates.LockPut.{LockPut}
use Rattle.master_parts.specs.declared.handles.HandleNote.{HandleNote}
use Rattle.master_parts.specs.declared.pending.WaitingRequest.{WaitingRequest}
use Rattle.master_parts.specs.declared.pending.Orphan.{Orphan}
use Rattle.master_parts.specs.declared.pending.Task.{Task}
use Rattle.master_parts.specs.declared.pending.Task.TheVariants as tasks
use Rattle.master_state.specs.State.{MasterState}
use Rattle.master_state.specs.Lookups.{reply_of}
use Rattle.master_parts.specs.Answered.{answered_by}
use Rattle.cell_core.specs.Step.{recorded}
use Rattle.master_state.specs.Updates.{with_note, edit_of, with_locks, without_lock}
use Rattle.cell_core.specs.Ephemerals.{is_still_idle}
use Rattle.cell_core.specs.declared.effects.Leave.{Leave}
use Rattle.cell_core.specs.Names.{names_touched}
use Rattle.master_state.specs.CallsWaiting.{is_call, has_call}
use Rattle.over_core.specs.Kept.{IsKept, AreTouching, AreOwnCalls, IsOwnCall, IsOwnTask, HaveOneCall, AreOne, task_fits, waiting_fits, is_other_call, work_count, claim_count, waits_count, count_in, outstanding, unanswered, is_unanswered}
use Rattle.master_state.specs.Replies.{replies_to, turn_replies}
use Rattle.cell_core.specs.Outcomes.{left_put}
use Rattle.over_core.specs.SweepCase.{IsNextApplied, rest, ended, mapped, told, relocking, gone_change, gone_replies}
use Rattle.over_core.proofs.FitsByEffects.{tidied_fits}
use Rattle.over_core.proofs.KeptByTakes.{stays, recorded_kept, note_kept, unnoted}
use Rattle.over_core.proofs.LockingFits.{PutsFit, GoesFit, TakesFit, WaitsFit, LeavesFit}
use Rattle.over_core.proofs.LocksLapsed.{told_and_waiting}
use Rattle.over_core.proofs.LocksOfNodes.{put_generations, put_each, gone_generations, gone_rows, gone_each, gone_in_order}
use Rattle.over_core.proofs.LocksSwept.{one_relocked, of_quiet, none_put, told_put, turn_one}
use Rattle.over_core.proofs.OneCall.{at_most_one, one_if, asked_waiting, gate_less, none_in_gate, sum_gone, one_less, one_put, one_awaited, none_behind, none_beside}
use Rattle.over_core.proofs.OrderlyChanges.{orderly_less, all_less}
use Rattle.over_core.proofs.RepliesKept.{claims_count, told_of, replies_are_to, turn_replies_are_to, told_kept}

-- ---- the others that wait

all_middle : {X : Type 0} (p : X → Bool) (front : List X) (x : X) (back : List X) → list_all p (front ++ x ∷ back) ≡ true → (p x ≡ true) × (list_all p (front ++ back) ≡ true)
all_middle p [] x back h = and_parts (p x) (list_all p back) h
all_middle p (y ∷ ys) x back h =
    let t = and_parts (p y) (list_all p (ys ++ x ∷ back)) h in
    let m = all_middle p ys x back t.1 in
    (m.0, and_from (p y) (list_all p (ys ++ back)) t.0 m.1)

all_at : {X : Type 0} (P : X → Type 0) (front : List X) (x : X) (back : List X) → All P (front ++ x ∷ back) → P x
all_at P [] x back h = All-head P x back h
all_at P (y ∷ ys) x back h = all_at P ys x back (All-tail P y (ys ++ x ∷ back) h)

some_wait : {X : Type 0} (front : List X) (x : X) (back : List X) → front ++ x ∷ back ≡ [] → ⊥
some_wait [] x back h = cc
some_wait (y ∷ ys) x back h = cc

-- ---- the map

order_left : (locks : StoredLocks) (o : Option StoredNode) → IsStrictlySortedBy lock_order (keys_of locks) → IsStrictlySortedBy lock_order (keys_of (without_locks_of o locks))
order_left locks None h = h
order_left locks (Some node) h = sorted_kept lock_order (λ (e : LockKey × LockRow). not (e.0.instance == node.node.instance)) locks h

module _ (cell : List ℕ) (rows : Rows) (s : MasterState) (k : IsKept cell rows s) where
  put_kept : (name : List ℕ) (view : Node) (next : ℕ) → PutFits rows name view next → IsKept cell (changed_rows rows (edit_of (Put name view) ∷ NextInstance next ∷ [])) (mapped s (record { change = Put name view; next_instance = next }))
  put_kept name view next fits =
      let nodes : changed s.nodes (Put name view) ≡ nodes_of (put_stored rows.nodes name view) = ap (λ (n : Nodes). insert_entry (slice_cmp nat_cmp) n name view) k.nodes ∙ sym (nodes_put rows.nodes name view) in
      record {
        name = k.name;
        secret = k.secret;
        epoch = k.epoch;
        next_instance = refl;
        ended_below = k.ended_below;
        nodes = nodes;
        sessions = k.sessions;
        sound_rows = put_sound cell rows name view next k.sound_rows k.names_in_order fits;
        waiting = k.waiting;
        locks = record {
          generations = put_generations cell rows s k name view next fits;
          rows_of_locks = k.locks.rows_of_locks;
          in_order = k.locks.in_order;
          each = put_each cell rows s k name view next fits (changed s.nodes (Put name view)) nodes;
        };
        one_call = k.one_call;
        names_in_order = sorted_put (slice_cmp nat_cmp) nat_list_cmp_total rows.nodes name (record { node = view; lock_generation = option_map_or (λ (node : StoredNode). node.lock_generation) (stored_node rows.nodes name) 0 }) k.names_in_order;
        sessions_in_order = k.sessions_in_order;
        locks_in_order = k.locks_in_order;
        recovery_is_empty = k.recovery_is_empty;
        by_beats = k.by_beats;
        recorded = k.recorded;
        issued = k.issued;
        owned = k.owned;
        orderly = k.orderly;
        touching = k.touching;
        own = k.own;
      }

  pub mapped_kept : (change : Change) → PutsFit rows change → IsKept cell (changed_rows rows (edit_of change.change ∷ NextInstance change.next_instance ∷ [])) (mapped s change)
  mapped_kept change fits =
      let P : Mod → Type 0 = λ m. IsKept cell (changed_rows rows (edit_of m ∷ NextInstance change.next_instance ∷ [])) (mapped s (record { change = m; next_instance = change.next_instance })) in
      subst P (sym fits.is) (put_kept fits.name fits.view change.next_instance fits.fits)

  -- ---- a node that goes, and its lock with it

  less_gone : (gate new old sum e : ℕ) → new + old ≡ sum → gate + sum ≤ e → gate + new ≤ e
  less_gone gate new old sum e h l = omega (arith, h, l)

  one_gone : (instance : ℕ) → AreOne s.gate.waiting (remove_entry (is_at (nat_cmp instance)) s.locks) s.sessions
  one_gone instance = (
    k.one_call.0,
    λ q.
        less_gone (sum_by (work_count is_other_call q) s.gate.waiting) (sum_by (waits_count q) (values_of (remove_entry (is_at (nat_cmp instance)) s.locks))) (waits_count q (lock_at s.locks instance)) (sum_by (waits_count q) (values_of s.locks)) (unanswered (kept_of s.sessions q))
        (sum_gone q s.locks instance) (k.one_call.1 q),
  )

  goes_kept : (name : List ℕ) (next instance : ℕ) (node : StoredNode) → stored_node rows.nodes name ≡ Some node → node.node.instance ≡ instance → GoneFits rows name next → IsKept cell (changed_rows rows (edit_of (Gone name) ∷ NextInstance next ∷ [])) (without_lock (mapped s (record { change = Gone name; next_instance = next })) (Some instance))
  goes_kept name next instance node found of_node fits =
      let nodes : changed s.nodes (Gone name) ≡ nodes_of (remove_entry (is_at (slice_cmp nat_cmp name)) rows.nodes) = ap (λ (n : Nodes). remove_entry (is_at (slice_cmp nat_cmp name)) n) k.nodes ∙ sym (nodes_gone rows.nodes name) in
      record {
        name = k.name;
        secret = k.secret;
        epoch = k.epoch;
        next_instance = refl;
        ended_below = k.ended_below;
        nodes = nodes;
        sessions = k.sessions;
        sound_rows = gone_sound cell rows name next k.sound_rows fits;
        waiting = k.waiting;
        locks = record {
          generations = gone_generations cell rows s k name node instance found of_node;
          rows_of_locks = gone_rows cell rows s k name node instance found of_node;
          in_order = gone_in_order cell rows s k name node instance found of_node;
          each = gone_each cell rows s k name node instance found of_node (changed s.nodes (Gone name)) nodes;
        };
        one_call = one_gone instance;
        names_in_order = sorted_gone (slice_cmp nat_cmp) (is_at (slice_cmp nat_cmp name)) rows.nodes k.names_in_order;
        sessions_in_order = k.sessions_in_order;
        locks_in_order = order_left rows.locks (stored_node rows.nodes name) k.locks_in_order;
        recovery_is_empty = k.recovery_is_empty;
        by_beats = k.by_beats;
        recorded = k.recorded;
        issued = k.issued;
        owned = k.owned;
        orderly = k.orderly;
        touching = k.touching;
        own = k.own;
      }

  gone_kept : (change : Change) (instance : ℕ) (name : List ℕ) (node : StoredNode) → change.change ≡ Gone name → stored_node rows.nodes name ≡ Some node → node.node.instance ≡ instance → GoneFits rows name change.next_instance
      → IsKept cell (changed_rows rows (edit_of change.change ∷ NextInstance change.next_instance ∷ [])) (without_lock (mapped s change) (Some instance))
  gone_kept change instance name node is found of_node fits =
      let P : Mod → Type 0 = λ m. IsKept cell (changed_rows rows (edit_of m ∷ NextInstance change.next_instance ∷ [])) (without_lock (mapped s (record { change = m; next_instance = change.next_instance })) (Some instance)) in
      subst P (sym is) (goes_kept name change.next_instance instance node found of_node fits)

-- ---- turns

none_gone : (gate new old sum : ℕ) → new + old ≡ sum → gate + sum ≡ 0 → gate + new ≡ 0
none_gone gate new old sum h l = omega (arith, h, l)

told_gone : (gate new old sum e : ℕ) → new + old ≡ sum → gate + sum ≤ e → e ≤ 1 → 1 ≤ old → gate + new ≡ 0
told_gone gate new old sum e h l m n = omega (arith, h, l, m, n)

same_less : (a b : ℕ) → a ≡ b → a ≤ b
same_less a b h = omega (arith, h)

own_count : (work : Bool) (a b q : ℕ) → work ≡ true → a ≡ b → one_if (a == q) ≡ one_if (work && b == q)
own_count work a b q h same = ap (λ x. one_if (x == q)) same ∙ ap (λ c. one_if (c && b == q)) (sym h)

-- how many calls of a client wait for a lock
abbrev waits_in : ℕ → LockTable → ℕ
waits_in q locks = sum_by (waits_count q) (values_of locks)

module _ (cell : List ℕ) (rows : Rows) (s : MasterState) (k : IsKept cell rows s) (front back : List (Waiting Task)) (task : Task) (turn : IsNextApplied s front task back) where
  abbrev here : Waiting Task
  here = record { number = turn.number; change = record { touched = turn.touched; body = task } }

  one_before : AreOne (front ++ here ∷ back) s.locks s.sessions
  one_before = let P : List (Waiting Task) → Type 0 = λ ws. AreOne ws s.locks s.sessions in subst P turn.waited k.one_call

  parts : (task_fits task ≡ true) × (waiting_fits (front ++ back) ≡ true)
  parts =
      let P : List (Waiting Task) → Type 0 = λ ws. waiting_fits ws ≡ true in
      all_middle (λ (x : Waiting Task). task_fits x.change.body) front here back (subst P turn.waited k.waiting)

  own_before : IsOwnTask s.secret task
  own_before =
      let P : List (Waiting Task) → Type 0 = λ ws. AreOwnCalls s.secret ws in
      all_at (λ (x : Waiting Task). IsOwnTask s.secret x.change.body) front here back (subst P turn.waited k.own)

  pub rest_kept : IsKept cell rows (rest s front back)
  rest_kept =
      let Q : List (Waiting Task) → Type 0 = λ ws. AreTouching s.secret ws in
      let R : List (Waiting Task) → Type 0 = λ ws. AreOwnCalls s.secret ws in
      stays cell rows s (rest s front back) k (record {
        name = refl;
        secret = refl;
        epoch = refl;
        next_instance = refl;
        ended_below = refl;
        nodes = refl;
        sessions = refl;
        locks = refl;
        lives = λ q live. live;
        one_call = one_less front here back s.locks s.sessions one_before;
        waiting = parts.1;
        recovery_is_empty = λ recovering. absurd (some_wait front here back (sym turn.waited ∙ k.recovery_is_empty recovering));
        by_beats = k.by_beats;
        recorded = k.recorded;
        issued = k.issued;
        owned = k.owned;
        orderly = orderly_less s.gate.waiting front here back s.gate.pushed turn.waited k.orderly;
        touching = all_less (λ (x : Waiting Task). x.change.touched ≡ names_touched s.secret x.change.body) front here back (subst Q turn.waited k.touching);
        own = all_less (λ (x : Waiting Task). IsOwnTask s.secret x.change.body) front here back (subst R turn.waited k.own);
      })

  -- of a client of which no call waited in the gate none waits there
  pub still_quiet : (q : ℕ) → has_call q s.gate.waiting ≡ false → sum_by (work_count is_call q) (front ++ back) ≡ 0
  still_quiet q quiet =
      let P : List (Waiting Task) → Type 0 = λ ws. has_call q ws ≡ false in
      less_still (sum_by (work_count is_call q) (front ++ here ∷ back)) (sum_by (work_count is_call q) (front ++ back)) (work_count is_call q here) (gate_less is_call q front here back) (none_in_gate q (front ++ here ∷ back) (subst P turn.waited quiet))
    where
      less_still : (all rest one : ℕ) → all ≡ rest + one → all ≡ 0 → rest ≡ 0
      less_still all rest one h none = omega (arith, h, none)

  -- none of those waits any longer who waited for the lock of a node that goes
  none_waits : (instance : ℕ) (waiters : List Claim) → waiters ≡ (lock_at s.locks instance).waiters → (q : ℕ) → 1 ≤ claims_count q waiters → has_call q s.gate.waiting ≡ false → count_in (front ++ back) (remove_entry (is_at (nat_cmp instance)) s.locks) q ≡ 0
  none_waits instance waiters all q some quiet =
      let W : List Claim → Type 0 = λ ws. 1 ≤ claims_count q ws in
      of_quiet q (front ++ back) (remove_entry (is_at (nat_cmp instance)) s.locks) (still_quiet q quiet)
      (told_gone (sum_by (work_count is_other_call q) (front ++ back)) (waits_in q (remove_entry (is_at (nat_cmp instance)) s.locks)) (waits_count q (lock_at s.locks instance)) (waits_in q s.locks) (unanswered (kept_of s.sessions q))
      (sum_gone q s.locks instance) (rest_kept.one_call.1 q) (at_most_one (is_unanswered (kept_of s.sessions q))) (subst W all some))

-- ---- a node that goes by itself

pub tidied_application : (cell : List ℕ) (rows : Rows) (s : MasterState) (k : IsKept cell rows s) (front back : List (Waiting Task)) (idle : Orphan) (turn : IsNextApplied s front (tasks.Tidies idle) back) → is_still_idle s idle ≡ true
    → IsKept cell (changed_rows rows (edit_of (Gone idle.name) ∷ NextInstance s.next_instance ∷ [])) (without_lock (told (mapped (rest s front back) (gone_change s idle)) (gone_replies s idle)) (Some idle.instance))
tidied_application cell rows s k front back idle turn still =
    let after : Rows = changed_rows rows (edit_of (Gone idle.name) ∷ NextInstance s.next_instance ∷ []) in
    let gone : MasterState = without_lock (mapped (rest s front back) (gone_change s idle)) (Some idle.instance) in
    let waiters : List Claim = (lock_at s.locks idle.instance).waiters in
    let kept : IsKept cell rows (rest s front back) = rest_kept cell rows s k front back (tasks.Tidies idle) turn in
    let fits : GoesFit rows s (gone_change s idle) idle.instance waiters = tidied_fits cell rows s k idle still in
    told_kept cell after (gone_replies s idle) gone
    (replies_are_to (λ q. outstanding gone q ≡ 0) s (results.Refused faults.StaleInstance) waiters (none_waits cell rows s k front back (tasks.Tidies idle) turn idle.instance waiters refl))
    (gone_kept cell rows (rest s front back) kept (gone_change s idle) idle.instance fits.name fits.node fits.is fits.found fits.of_node fits.fits)

-- ---- what a client asked for

module _ (cell : List ℕ) (rows : Rows) (s : MasterState) (k : IsKept cell rows s) (front back : List (Waiting Task)) (asked : WaitingRequest) (turn : IsNextApplied s front (tasks.Asked asked) back) where
  abbrev w : Waiting Task
  w = asked_waiting turn.number turn.touched asked

  abbrev t : MasterState
  t = rest s front back

  beside : IsKept cell rows (rest s front back)
  beside = rest_kept cell rows s k front back (tasks.Asked asked) turn

  before : AreOne (front ++ w ∷ back) s.locks s.sessions
  before = one_before cell rows s k front back (tasks.Asked asked) turn

  pub application_client : is_client_number asked.client ≡ true
  application_client = (parts cell rows s k front back (tasks.Asked asked) turn).0

  -- it shows a handle of its client
  pub application_own : IsOwnCall s.secret asked.client asked.work
  application_own = own_before cell rows s k front back (tasks.Asked asked) turn

  -- no other call of its client waits ..
  none_else : is_other_call asked.work ≡ true → count_in (front ++ back) s.locks asked.client ≡ 0
  none_else call = none_beside front turn.number turn.touched asked back s.locks s.sessions call before

  -- .. but where it ends its session, for a lock
  pub none_in_turn : is_call asked.work ≡ true → sum_by (work_count is_call asked.client) (front ++ back) ≡ 0
  none_in_turn call = none_behind front turn.number turn.touched asked back s.locks s.sessions call before

  -- a call that ends
  pub ended_application : (note : Option HandleNote) (answer : CallResult) → is_other_call asked.work ≡ true → IsKept cell rows (ended (rest s front back) asked note answer)
  ended_application note answer call =
      let kept : LastCall Reply = answered_by (reply_of t asked.client asked.number answer) in
      note_kept cell rows (recorded t asked.client kept) note (recorded_kept cell rows t asked.client kept (none_else call) beside)

  pub applied_application : (note : Option HandleNote) (change : Change) (answer : CallResult) → is_other_call asked.work ≡ true → PutsFit rows change → IsKept cell (changed_rows rows (edit_of change.change ∷ NextInstance change.next_instance ∷ [])) (ended (mapped (rest s front back) change) asked note answer)
  applied_application note change answer call fits =
      let after : Rows = changed_rows rows (edit_of change.change ∷ NextInstance change.next_instance ∷ []) in
      let kept : LastCall Reply = answered_by (reply_of t asked.client asked.number answer) in
      note_kept cell after (recorded (mapped t change) asked.client kept) note (recorded_kept cell after (mapped t change) asked.client kept (none_else call) (mapped_kept cell rows t beside change fits))

  pub deleted_application : (change : Change) (instance : ℕ) (waiters : List Claim) (answer : CallResult) → is_other_call asked.work ≡ true → GoesFit rows s change instance waiters
      → IsKept cell (changed_rows rows (edit_of change.change ∷ NextInstance change.next_instance ∷ [])) (without_lock (told (ended (mapped (rest s front back) change) asked None answer) (replies_to s (results.Refused faults.StaleInstance) waiters)) (Some instance))
  deleted_application change instance waiters answer call fits =
      let after : Rows = changed_rows rows (edit_of change.change ∷ NextInstance change.next_instance ∷ []) in
      let kept : LastCall Reply = answered_by (reply_of t asked.client asked.number answer) in
      let gone : MasterState = without_lock (mapped t change) (Some instance) in
      let left : LockTable = remove_entry (is_at (nat_cmp instance)) s.locks in
      let own : outstanding gone asked.client ≡ 0 =
      none_gone (sum_by (work_count is_call asked.client) (front ++ back)) (waits_in asked.client left) (waits_count asked.client (lock_at s.locks instance)) (waits_in asked.client s.locks) (sum_gone asked.client s.locks instance) (none_else call) in
      told_kept cell after (replies_to s (results.Refused faults.StaleInstance) waiters) (recorded gone asked.client kept)
      (replies_are_to (λ q. outstanding (recorded gone asked.client kept) q ≡ 0) s (results.Refused faults.StaleInstance) waiters (none_waits cell rows s k front back (tasks.Asked asked) turn instance waiters fits.all))
      (recorded_kept cell after gone asked.client kept own (gone_kept cell rows t beside change instance fits.name fits.node fits.is fits.found fits.of_node fits.fits))

  -- the lock is held by the caller
  pub locked_application : (put : LockPut) (answer : CallResult) → is_other_call asked.work ≡ true → TakesFit rows s put → IsKept cell (changed_rows rows (relocking s (put ∷ []))) (ended (with_locks (rest s front back) (put ∷ [])) asked None answer)
  locked_application put answer call fits =
      let after : Rows = changed_rows rows (relocking s (put ∷ [])) in
      let kept : LastCall Reply = answered_by (reply_of t asked.client asked.number answer) in
      let less : (q : ℕ) → waits_count q put.lock ≤ waits_count q (lock_at s.locks put.instance) = λ q. same_less (waits_count q put.lock) (waits_count q (lock_at s.locks put.instance)) (ap (claims_count q) fits.same) in
      recorded_kept cell after (with_locks t (put ∷ [])) asked.client kept (none_put (front ++ back) s.locks put.instance put.lock asked.client k.locks.in_order (less asked.client) (none_else call))
      (one_relocked cell rows t put beside fits.is_put (one_put (front ++ back) s.locks s.sessions put.instance put.lock k.locks.in_order less beside.one_call))

  -- the caller waits for it
  pub awaited_application : (put : LockPut) → is_other_call asked.work ≡ true → WaitsFit rows s asked.client put → IsKept cell (changed_rows rows (relocking s (put ∷ []))) (with_locks (rest s front back) (put ∷ []))
  awaited_application put call fits =
      let more : (q : ℕ) → waits_count q put.lock ≡ waits_count q (lock_at s.locks put.instance) + work_count is_other_call q w = λ q.
      ap (claims_count q) fits.more ∙ sum_by_push (claim_count q) (lock_at s.locks put.instance).waiters fits.claim
      ∙ ap (λ n. waits_count q (lock_at s.locks put.instance) + n) (own_count (is_other_call asked.work) fits.claim.owner.client asked.client q call fits.own) in
      one_relocked cell rows t put beside fits.is_put (one_awaited front w back s.locks s.sessions put.instance put.lock k.locks.in_order more before)

  -- the caller leaves it, and others get it
  pub left_by_application : (note : Option HandleNote) (leave : Leave) (answer : CallResult) → is_other_call asked.work ≡ true → LeavesFit rows s leave
      → IsKept cell (changed_rows rows (relocking s (left_put leave ∷ []))) (told (ended (with_locks (rest s front back) (left_put leave ∷ [])) asked note answer) (turn_replies s leave.turn))
  left_by_application note leave answer call fits =
      let after : Rows = changed_rows rows (relocking s (left_put leave ∷ [])) in
      let kept : LastCall Reply = answered_by (reply_of t asked.client asked.number answer) in
      let relocked : MasterState = with_locks t (left_put leave ∷ []) in
      let waited : (q : ℕ) → told_of q leave.turn + waits_count q leave.turn.lock ≤ waits_count q (lock_at s.locks leave.instance) = λ q.
      let P : ℕ → Type 0 = λ n. n ≤ waits_count q (lock_at s.locks leave.instance) in
      subst P (sym (told_and_waiting q leave.turn)) (fits.waited q) in
      let less : (q : ℕ) → waits_count q leave.turn.lock ≤ waits_count q (lock_at s.locks leave.instance) = λ q. second (told_of q leave.turn) (waits_count q leave.turn.lock) (waits_count q (lock_at s.locks leave.instance)) (waited q) in
      let one : HaveOneCall relocked = turn_one (front ++ back) s.locks s.sessions leave.instance leave.turn k.locks.in_order waited beside.one_call in
      let own : outstanding relocked asked.client ≡ 0 = none_put (front ++ back) s.locks leave.instance leave.turn.lock asked.client k.locks.in_order (less asked.client) (none_else call) in
      let others : (q : ℕ) → 1 ≤ told_of q leave.turn → has_call q s.gate.waiting ≡ false → outstanding (with_note (recorded relocked asked.client kept) note) q ≡ 0 = λ q some quiet.
      unnoted (λ x. outstanding x q) (λ x n. refl) (recorded relocked asked.client kept) note
      ∙ told_put (front ++ back) s.locks s.sessions leave.instance leave.turn k.locks.in_order waited beside.one_call q some (still_quiet cell rows s k front back (tasks.Asked asked) turn q quiet) in
      told_kept cell after (turn_replies s leave.turn) (with_note (recorded relocked asked.client kept) note)
      (turn_replies_are_to (λ q. outstanding (with_note (recorded relocked asked.client kept) note) q ≡ 0) s leave.turn others)
      (note_kept cell after (recorded relocked asked.client kept) note
      (recorded_kept cell after relocked asked.client kept own
      (one_relocked cell rows t (left_put leave) beside fits.is_put one)))
    where
      second : (a b c : ℕ) → a + b ≤ c → b ≤ c
      second a b c h = omega (arith, h)
