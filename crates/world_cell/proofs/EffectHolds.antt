-- What an effect does to locks, by the claim that gets one or the handle that leaves one; and the instance that a node gets which is put.
use Rattle.std.proofs.Common.{◌≡◌, ℕ, ◌+◌, List, [], Bool, true, false, cond, Option, Some, None, Result, Ok, Err, refl, sym, ap, subst, ◌∙◌, inl, inr}
use Rattle.std.specs.Prelude.{◌⊎◌, ◌||◌, ◌==◌, is_none, is_some}
use Rattle.std.specs.Option.{option_map, option_map_or}
use Rattle.std.proofs.lemmas.Bool.{and_parts, eqb-true}
use Rattle.names_cell.specs.Text.{parent_of}
use Rattle.node_core.specs.declared.refusals.Fault.{Fault}
use Rattle.node_core.specs.declared.refusals.Fault.TheVariants as faults
use Rattle.node_core.specs.declared.kinds.Kind.{Kind}
use Rattle.node_core.specs.declared.kinds.Kind.TheVariants as kinds
use Rattle.node_core.specs.declared.kinds.Right.{Right}
use Rattle.node_core.specs.declared.kinds.Right.TheVariants as rights
use Rattle.node_core.specs.declared.nodes.Node.{Node}
use Rattle.node_core.specs.declared.views.Mod.{Mod}
use Rattle.node_core.specs.declared.views.Mod.TheVariants.{Put, Gone}
use Rattle.node_core.specs.Nodes.{Nodes, get_node, has_children}
use Rattle.tags_cell.specs.Handles.{read_handle}
use Rattle.tags_cell.specs.declared.handles.Handle.{Handle}
use Rattle.tags_cell.specs.declared.messages.calls.Open.{Open}
use Rattle.tags_cell.specs.declared.messages.calls.Create.{Create}
use Rattle.tags_cell.specs.declared.messages.calls.Disposition.{Disposition}
use Rattle.tags_cell.specs.declared.messages.calls.Disposition.TheVariants.{May, Must}
use Rattle.tags_cell.specs.declared.messages.calls.Call.{Call}
use Rattle.tags_cell.specs.declared.messages.calls.Call.TheVariants as calls
use Rattle.tags_cell.specs.declared.messages.outs.CallResult.{CallResult}
use Rattle.lock_core.specs.declared.claims.Hold.{Hold}
use Rattle.lock_core.specs.declared.claims.Claim.{Claim}
use Rattle.lock_core.specs.declared.turns.Acquired.{Acquired}
use Rattle.lock_core.specs.declared.turns.Acquired.TheVariants as asked
use Rattle.lock_core.specs.declared.turns.Turn.{Turn}
use Rattle.lock_core.specs.State.{LockState, IsLegal, fits, is_exhausted, hold_of}
use Rattle.lock_core.specs.Turns.{tried, acquired, acquired_by, released, closed_by, held_by, waited_by, may_hold, is_nobody, settled, without, is_owner, any_waits}
use Rattle.lock_core.specs.Locks.{lock_at}
use Rattle.lock_core.proofs.Generations.{try_succeeds}
use Rattle.master_state.specs.declared.updates.Change.{Change}
use Rattle.master_state.specs.declared.updates.LockPut.{LockPut}
use Rattle.master_parts.specs.Claims.{owner_of, claim_of}
use Rattle.master_state.specs.NameSpace.{name_space, caller}
use Rattle.master_state.specs.State.{MasterState}
use Rattle.master_state.specs.Lookups.{missing_right, node_of_handle, new_handle, sequencer_fault, lock_under, answer_on, is_of_cell, may}
use Rattle.master_parts.specs.Calls.{create_fault, bytes_of}
use Rattle.over_core.specs.Kept.{is_there}
use Rattle.tags_cell.specs.declared.messages.outs.CallResult.TheVariants as results
use Rattle.cell_core.specs.declared.effects.Effect.{Effect}
use Rattle.cell_core.specs.declared.effects.Leave.{Leave}
use Rattle.cell_core.specs.declared.effects.Locking.{Locking}
use Rattle.cell_core.specs.declared.effects.Locking.TheVariants.{Nothing, Takes, Waits, Leaves, Goes}
use Rattle.cell_core.specs.Effect.{answered, refused, deleted, create_made, create_numbered, create_permitted, create_in, create_under, create_new, create_over, create_effect, create_under_sequencer, open_effect, generation_fits, is_last, put_at, acquire_by, try_by, release_by, close_by, close_under, change_at, change_on, effect_on, handle_effect, effect, new_node, acls_of, with_content, with_acls, new_node_fault, content_fault, lock_fault, create_put, changes_to}
use Rattle.world_cell.specs.HolderSteps.{lets_go}
use Rattle.world_cell.specs.Locks.{instance_in}
use Rattle.world_cell.proofs.EffectInstances.{named_there}

-- ---- what becomes of a lock

-- the claim gets it, because it fits
pub record IsTaken (s : MasterState) (put : LockPut) (claim : Claim) : Type 0 where
  pub is : put.lock ≡ held_by (lock_at s.locks put.instance) claim
  pub fit : fits (lock_at s.locks put.instance) claim ≡ true
  pub there : is_there s.nodes put.instance ≡ true

-- it stays to those who hold it
pub record IsAwaited (s : MasterState) (put : LockPut) : Type 0 where
  pub generation : put.lock.generation ≡ (lock_at s.locks put.instance).generation
  pub holders : put.lock.holders ≡ (lock_at s.locks put.instance).holders
  pub there : is_there s.nodes put.instance ≡ true

-- the handle of the client that the call shows leaves it, and those that wait for it get it
pub record IsGivenBack (s : MasterState) (client : ℕ) (call : Call) (leave : Leave) : Type 0 where
  pub handle : Handle
  pub reads : read_handle s.secret (bytes_of call) ≡ Some handle
  pub lets : lets_go call ≡ true
  pub own : handle.client ≡ client
  pub at : leave.instance ≡ handle.instance
  pub turn : leave.turn ≡ settled (without (is_owner (owner_of handle)) (lock_at s.locks leave.instance))
  pub held : leave.held ≡ is_some (hold_of (lock_at s.locks leave.instance) (owner_of handle))
  pub there : is_there s.nodes leave.instance ≡ true

abbrev pub HoldsBy : MasterState → ℕ → Call → Locking → Type 0
HoldsBy s client call Nothing = Unit {0}
HoldsBy s client call (Takes put claim) = IsTaken s put claim
HoldsBy s client call (Waits put) = IsAwaited s put
HoldsBy s client call (Leaves leave) = IsGivenBack s client call leave
HoldsBy s client call (Goes instance waiters) = Unit {0}

-- ---- the instance of a node that is put: that of the node of its name, or the next, where none is there

abbrev pub IsCounted : MasterState → Mod → ℕ → Type 0
IsCounted s (Put name view) next = ((instance_in s.nodes name ≡ Some view.instance) × (next ≡ s.next_instance)) ⊎ ((get_node s.nodes name ≡ None) × (view.instance ≡ s.next_instance) × (next ≡ s.next_instance + 1))
IsCounted s (Gone name) next = next ≡ s.next_instance

abbrev pub Counted : MasterState → Option Change → Type 0
Counted s None = Unit {0}
Counted s (Some change) = IsCounted s change.change change.next_instance

abbrev pub TellsBy : MasterState → ℕ → Call → Effect → Type 0
TellsBy s client call effected = HoldsBy s client call effected.locking × Counted s effected.change

-- ---- one lock

abbrev TakesBy : LockState → Claim → Result Acquired Fault → Type 0
TakesBy lock claim (Ok (asked.Held new)) = (new ≡ held_by lock claim) × (fits lock claim ≡ true)
TakesBy lock claim (Ok (asked.Waits new)) = (new.generation ≡ lock.generation) × (new.holders ≡ lock.holders)
TakesBy lock claim (Err fault) = Unit {0}

acquired_takes : (lock : LockState) (claim : Claim) → TakesBy lock claim (acquired lock claim)
acquired_takes lock claim = by_hold (hold_of lock claim.owner)
  where
    by_may : (b : Bool) → may_hold lock claim ≡ b → TakesBy lock claim (cond b (Ok (asked.Held (held_by lock claim))) (Ok (asked.Waits (waited_by lock claim))))
    by_may true is = (refl, (and_parts (fits lock claim) (is_nobody lock.waiters) is).0)
    by_may false is = (refl, refl)

    by_end : (b : Bool) → TakesBy lock claim (cond b (Err faults.Exhausted) (cond (may_hold lock claim) (Ok (asked.Held (held_by lock claim))) (Ok (asked.Waits (waited_by lock claim)))))
    by_end true = tt
    by_end false = by_may (may_hold lock claim) refl

    by_hold : (h : Option Hold) → TakesBy lock claim (acquired_by lock claim h)
    by_hold (Some hold) = tt
    by_hold None = by_end (is_exhausted lock)

-- the node of a handle stands at its name
handle_at : (nodes : Nodes) (name : List ℕ) (instance : ℕ) (o : Option Node) (view : Node) → get_node nodes name ≡ o → option_map_or (λ (v : Node). cond (v.instance == instance) (Some v) None) o None ≡ Some view → (instance_in nodes name ≡ Some view.instance) × (view.instance ≡ instance)
handle_at nodes name instance None view found is = absurd cc
handle_at nodes name instance (Some v) view found is =
    (elim (v.instance == instance) as (λ b. (v.instance == instance) ≡ b → ◌≡◌ {A = Option Node} (cond b (Some v) None) (Some view) → (instance_in nodes name ≡ Some view.instance) × (view.instance ≡ instance)) [
      | true ↦ (λ own k.
          let same : v ≡ view = cc in (
            ap (λ (o : Option Node). option_map (λ (n : Node). n.instance) o) found ∙ ap (λ (n : Node). Some n.instance) same,
            ap (λ (n : Node). n.instance) (sym same) ∙ eqb-true v.instance instance own,
          ))
      | false ↦ (λ own k. absurd cc)
    ]) refl is

there_by : (nodes : Nodes) (name : List ℕ) (instance : ℕ) (view : Node) → (instance_in nodes name ≡ Some view.instance) × (view.instance ≡ instance) → is_there nodes instance ≡ true
there_by nodes name instance view h = named_there nodes name instance (get_node nodes name) refl (h.0 ∙ ap (λ (n : ℕ). Some n) h.1)

-- ---- the table

module _ (s : MasterState) (legal : (instance : ℕ) → IsLegal (lock_at s.locks instance)) (client : ℕ) (call : Call) where
  either : (b : Bool) (x y : Effect) → TellsBy s client call x → TellsBy s client call y → TellsBy s client call (cond b x y)
  either true x y h k = h
  either false x y h k = k

  found_or : {X : Type 0} (f : X → Effect) (o : Option X) (y : Effect) → ((x : X) → o ≡ Some x → TellsBy s client call (f x)) → (o ≡ None → TellsBy s client call y) → TellsBy s client call (option_map_or f o y)
  found_or f None y h k = k refl
  found_or f (Some x) y h k = h x refl

  -- ---- a create

  made_tells : (opening : Open) (view : Node) (made : Result Handle Fault) → get_node s.nodes opening.name ≡ None → view.instance ≡ s.next_instance → TellsBy s client call (create_made (name_space s) opening view made)
  made_tells opening view (Ok handle) none new =
      found_or (λ (fault : Fault). refused fault) (new_node_fault (name_space s) view) (create_put (name_space s) opening view handle) (λ fault is. (tt, tt)) (λ is. (tt, inr (none, new, refl)))
  made_tells opening view (Err fault) none new = (tt, tt)

  module _ (number : ℕ) (opening : Open) where
    numbered_tells : (view : Node) → get_node s.nodes opening.name ≡ None → view.instance ≡ s.next_instance → TellsBy s client call (create_numbered (name_space s) (caller s client) number opening view)
    numbered_tells view none new =
        either (is_last s.next_instance) (refused faults.Exhausted) (create_made (name_space s) opening view (new_handle (name_space s) (caller s client) number opening view)) (tt, tt) (made_tells opening view (new_handle (name_space s) (caller s client) number opening view) none new)

    permitted_tells : (view : Node) → get_node s.nodes opening.name ≡ None → view.instance ≡ s.next_instance → TellsBy s client call (create_permitted (name_space s) (caller s client) number opening view)
    permitted_tells view none new =
        found_or (λ (right : Right). refused (faults.Denied right)) (missing_right (name_space s) (caller s client) opening.mode view) (create_numbered (name_space s) (caller s client) number opening view) (λ right is. (tt, tt)) (λ is. numbered_tells view none new)

    in_tells : (create : Create) (above : Node) (kind : Kind) → get_node s.nodes opening.name ≡ None → TellsBy s client call (create_in (name_space s) (caller s client) number opening create above kind)
    in_tells create above kinds.File none = (tt, tt)
    in_tells create above kinds.Directory none =
        either (may (name_space s) (caller s client) above rights.Write) _ (refused (faults.Denied rights.Write)) (permitted_tells (new_node s.next_instance create.node create.life (acls_of above create.acls)) none refl) (tt, tt)

    under_tells : (create : Create) (o : Option Node) → get_node s.nodes opening.name ≡ None → TellsBy s client call (create_under (name_space s) (caller s client) number opening create o)
    under_tells create None none = (tt, tt)
    under_tells create (Some above) none = in_tells create above above.kind none

    over_tells : (disposition : Disposition) (view : Node) → TellsBy s client call (create_over (name_space s) (caller s client) number opening disposition view)
    over_tells Must view = (tt, tt)
    over_tells May view = (tt, tt)

    create_tells : (create : Create) → TellsBy s client call (create_effect (name_space s) (caller s client) number opening create)
    create_tells create =
        found_or (λ view. create_over (name_space s) (caller s client) number opening create.disposition view) (get_node s.nodes opening.name) (create_new (name_space s) (caller s client) number opening create) (λ view is. over_tells create.disposition view)
        (λ none. found_or (λ parent. create_under (name_space s) (caller s client) number opening create (get_node s.nodes parent)) (parent_of opening.name) (refused faults.NotFound) (λ parent is. under_tells create (get_node s.nodes parent) none) (λ is. (tt, tt)))

    sequenced_tells : (create : Create) (o : Option Fault) → TellsBy s client call (create_under_sequencer (name_space s) (caller s client) number opening create o)
    sequenced_tells create (Some fault) = (tt, tt)
    sequenced_tells create None =
        found_or (λ (answer : CallResult). answered answer) (create_fault opening create.node) (create_effect (name_space s) (caller s client) number opening create) (λ answer is. (tt, tt)) (λ is. create_tells create)

    open_tells : (sequencer : Option (List ℕ)) (o : Option Create) → TellsBy s client call (open_effect (name_space s) (caller s client) number opening sequencer o)
    open_tells sequencer None = (tt, tt)
    open_tells sequencer (Some create) = either (is_of_cell (name_space s) opening.name) _ (refused faults.OtherCell) (sequenced_tells create (sequencer_fault (name_space s) sequencer)) (tt, tt)

  -- ---- a node that stands

  put_tells : (handle : Handle) (present : ℕ) (wanted : Option ℕ) (room : Option Fault) (view : Node) → instance_in s.nodes handle.name ≡ Some view.instance → TellsBy s client call (put_at (name_space s) handle present wanted room view)
  put_tells handle present wanted room view at =
      either (generation_fits wanted present) _ (refused (faults.WrongGeneration present))
      (either (is_last present) (refused faults.Exhausted) _ (tt, tt) (found_or (λ (fault : Fault). refused fault) room (changes_to (Put handle.name view) s.next_instance results.Done) (λ fault is. (tt, tt)) (λ is. (tt, inl (at, refl))))) (tt, tt)

  acquired_tells : (handle : Handle) (claim : Claim) (room : Option Fault) (o : Result Acquired Fault) → is_there s.nodes handle.instance ≡ true → TakesBy (lock_under (name_space s) handle) claim o → TellsBy s client call (acquire_by handle claim room o)
  acquired_tells handle claim (Some fault) (Ok given) there h = (tt, tt)
  acquired_tells handle claim None (Ok (asked.Held lock)) there h = (record { is = h.0; fit = h.1; there = there }, tt)
  acquired_tells handle claim None (Ok (asked.Waits lock)) there h = (record { generation = h.0; holders = h.1; there = there }, tt)
  acquired_tells handle claim room (Err fault) there h = (tt, tt)

  tried_tells : (handle : Handle) (claim : Claim) (room : Option Fault) (o : Result LockState Fault) → is_there s.nodes handle.instance ≡ true → tried (lock_under (name_space s) handle) claim s.clock ≡ o → TellsBy s client call (try_by handle claim room o)
  tried_tells handle claim (Some fault) (Ok lock) there h = (tt, tt)
  tried_tells handle claim None (Ok lock) there h =
      let under : LockState = lock_under (name_space s) handle in
      let got = (try_succeeds under lock claim s.clock (legal handle.instance)).0 h in
      (record { is = got.1; fit = (and_parts (fits under claim) (is_nobody under.waiters) got.0).0; there = there }, tt)
  tried_tells handle claim room (Err fault) there h = (tt, tt)

module _ (s : MasterState) (legal : (instance : ℕ) → IsLegal (lock_at s.locks instance)) (client : ℕ) where
  -- the call shows the handle
  abbrev Shows : Call → Handle → Type 0
  Shows call handle = (read_handle s.secret (bytes_of call) ≡ Some handle) × (handle.client ≡ client)

  released_tells : (call : Call) (handle : Handle) → Shows call handle → lets_go call ≡ true → is_there s.nodes handle.instance ≡ true → TellsBy s client call (release_by handle (released (lock_under (name_space s) handle) (owner_of handle)))
  released_tells call handle shows lets there =
      let under : LockState = lock_under (name_space s) handle in
      let turn : Turn = settled (without (is_owner (owner_of handle)) under) in
      (elim (is_some (hold_of under (owner_of handle))) as (λ b. is_some (hold_of under (owner_of handle)) ≡ b → TellsBy s client call (release_by handle (cond b (Ok turn) (Err faults.NotHolder)))) [
        | true ↦ (λ is. (record { handle = handle; reads = shows.0; lets = lets; own = shows.1; at = refl; turn = refl; held = sym is; there = there }, tt))
        | false ↦ (λ is. (tt, tt))
      ]) refl

  closed_tells : (call : Call) (handle : Handle) → Shows call handle → lets_go call ≡ true → is_there s.nodes handle.instance ≡ true → HoldsBy s client call (close_by (name_space s) handle (closed_by (lock_under (name_space s) handle) (owner_of handle)))
  closed_tells call handle shows lets there =
      let under : LockState = lock_under (name_space s) handle in
      elim (is_some (hold_of under (owner_of handle)) || any_waits (is_owner (owner_of handle)) under) as (λ b. HoldsBy s client call (close_by (name_space s) handle (cond b (Some (settled (without (is_owner (owner_of handle)) under))) None))) [
        | true ↦ record { handle = handle; reads = shows.0; lets = lets; own = shows.1; at = refl; turn = refl; held = refl; there = there }
        | false ↦ tt
      ]

  shut_tells : (call : Call) (handle : Handle) (o : Option Node) → Shows call handle → lets_go call ≡ true → node_of_handle (name_space s) handle ≡ o → HoldsBy s client call (close_under (name_space s) handle o)
  shut_tells call handle None shows lets is = tt
  shut_tells call handle (Some view) shows lets is =
      closed_tells call handle shows lets (there_by s.nodes handle.name handle.instance view (handle_at s.nodes handle.name handle.instance (get_node s.nodes handle.name) view refl is))

  change_tells : (handle : Handle) (call : Call) (view : Node) → Shows call handle → instance_in s.nodes handle.name ≡ Some view.instance → is_there s.nodes handle.instance ≡ true → TellsBy s client call (change_at (name_space s) s.clock handle call view)
  change_tells handle (calls.Set bytes content generation) view shows at there =
      put_tells s legal client (calls.Set bytes content generation) handle view.content_generation generation (content_fault (name_space s) view content) (with_content view content) at
  change_tells handle (calls.SetAcl bytes acls generation) view shows at there = put_tells s legal client (calls.SetAcl bytes acls generation) handle view.acl_generation generation None (with_acls view acls) at
  change_tells handle (calls.Delete bytes) view shows at there =
      either s legal client (calls.Delete bytes) (has_children s.nodes handle.name || is_none (parent_of handle.name)) (refused faults.NotEmpty) (deleted (name_space s) handle) (tt, tt) (tt, refl)
  change_tells handle (calls.Acquire bytes mode) view shows at there =
      acquired_tells s legal client (calls.Acquire bytes mode) handle (claim_of handle mode) (lock_fault (name_space s) handle.client) (acquired (lock_under (name_space s) handle) (claim_of handle mode)) there
      (acquired_takes (lock_under (name_space s) handle) (claim_of handle mode))
  change_tells handle (calls.TryAcquire bytes mode) view shows at there =
      tried_tells s legal client (calls.TryAcquire bytes mode) handle (claim_of handle mode) (lock_fault (name_space s) handle.client) (tried (lock_under (name_space s) handle) (claim_of handle mode) s.clock) there refl
  change_tells handle (calls.Release bytes) view shows at there = released_tells (calls.Release bytes) handle shows refl there
  change_tells handle call view shows at there = (tt, tt)

  first_tells : (handle : Handle) (call : Call) (o : Option CallResult) → Shows call handle → TellsBy s client call (option_map_or (λ answer. answered answer) o (change_on (name_space s) s.clock handle call))
  first_tells handle call o shows = found_or s legal client call (λ (answer : CallResult). answered answer) o (change_on (name_space s) s.clock handle call) (λ answer is. (tt, tt))
      (λ none. found_or s legal client call (λ view. change_at (name_space s) s.clock handle call view) (node_of_handle (name_space s) handle) (refused faults.StaleInstance)
      (λ view is.
      let at = handle_at s.nodes handle.name handle.instance (get_node s.nodes handle.name) view refl is in
      change_tells handle call view shows at.0 (there_by s.nodes handle.name handle.instance view at)) (λ is. (tt, tt)))

  on_tells : (handle : Handle) (call : Call) (sequencer : Option (List ℕ)) → Shows call handle → TellsBy s client call (effect_on (name_space s) s.clock handle call sequencer)
  on_tells handle (calls.Close bytes) sequencer shows = (shut_tells (calls.Close bytes) handle (node_of_handle (name_space s) handle) shows refl refl, tt)
  on_tells handle call sequencer shows = first_tells handle call (answer_on (name_space s) handle call sequencer) shows

  shown_tells : (call : Call) (sequencer : Option (List ℕ)) (o : Option Handle) → read_handle s.secret (bytes_of call) ≡ o → ((handle : Handle) → o ≡ Some handle → handle.client ≡ client) → TellsBy s client call (handle_effect (name_space s) s.clock call sequencer o)
  shown_tells call sequencer None reads own = (tt, tt)
  shown_tells call sequencer (Some handle) reads own = on_tells handle call sequencer (reads, own handle refl)

  pub effect_tells : (number : ℕ) (call : Call) (sequencer : Option (List ℕ)) → ((handle : Handle) → read_handle s.secret (bytes_of call) ≡ Some handle → handle.client ≡ client) → TellsBy s client call (effect (name_space s) (caller s client) s.clock number call sequencer)
  unfolding effect
  effect_tells number (calls.Open opening) sequencer own = open_tells s legal client (calls.Open opening) number opening sequencer opening.create
  effect_tells number call sequencer own = shown_tells call sequencer (read_handle s.secret (bytes_of call)) refl own
