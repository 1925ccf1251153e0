-- What a call is answered shows a node of the map, and what it puts is a new node, or a node of the map with no older content.
use Rattle.std.proofs.Common.{◌≡◌, ℕ, ◌+◌, ◌≤◌, List, [], Bool, true, false, cond, Option, Some, None, Result, Ok, Err, refl, ◌∙◌, inl, inr, arith, subst}
use Rattle.std.specs.Prelude.{◌⊎◌, ◌||◌, ◌==◌, is_none, nat_lt, length}
use Rattle.std.specs.Option.{option_map_or}
use Rattle.names_cell.specs.Text.{parent_of}
use Rattle.node_core.specs.declared.refusals.Fault.{Fault}
use Rattle.node_core.specs.declared.refusals.Fault.TheVariants as faults
use Rattle.node_core.specs.declared.kinds.Kind.{Kind}
use Rattle.node_core.specs.declared.kinds.Kind.TheVariants as kinds
use Rattle.node_core.specs.declared.kinds.Right.{Right}
use Rattle.node_core.specs.declared.kinds.Right.TheVariants as rights
use Rattle.node_core.specs.declared.nodes.Node.{Node}
use Rattle.node_core.specs.declared.views.View.{View}
use Rattle.node_core.specs.declared.views.Mod.{Mod}
use Rattle.node_core.specs.declared.views.Mod.TheVariants.{Put, Gone}
use Rattle.node_core.specs.Limits.{content_limit}
use Rattle.node_core.specs.Nodes.{Nodes, get_node, view_of, has_children}
use Rattle.tags_cell.specs.Modes.{has_right}
use Rattle.tags_cell.specs.Handles.{read_handle}
use Rattle.tags_cell.specs.declared.handles.Handle.{Handle}
use Rattle.tags_cell.specs.declared.messages.calls.Open.{Open}
use Rattle.tags_cell.specs.declared.messages.calls.Create.{Create}
use Rattle.tags_cell.specs.declared.messages.calls.Disposition.{Disposition}
use Rattle.tags_cell.specs.declared.messages.calls.Disposition.TheVariants.{May, Must}
use Rattle.tags_cell.specs.declared.messages.calls.NewNode.{NewNode}
use Rattle.tags_cell.specs.declared.messages.calls.NewNode.TheVariants as made
use Rattle.tags_cell.specs.declared.messages.calls.Call.{Call}
use Rattle.tags_cell.specs.declared.messages.calls.Call.TheVariants as calls
use Rattle.tags_cell.specs.declared.sequencers.Sequencer.{Sequencer}
use Rattle.tags_cell.specs.declared.messages.outs.CallResult.{CallResult}
use Rattle.tags_cell.specs.declared.messages.outs.CallResult.TheVariants as results
use Rattle.lock_core.specs.declared.claims.Claim.{Claim}
use Rattle.lock_core.specs.declared.turns.Acquired.{Acquired}
use Rattle.lock_core.specs.declared.turns.Acquired.TheVariants as asked
use Rattle.lock_core.specs.declared.turns.Turn.{Turn}
use Rattle.lock_core.specs.State.{LockState, hold_of}
use Rattle.lock_core.specs.Turns.{tried, acquired, released}
use Rattle.lock_core.specs.Locks.{sequencer_of}
use Rattle.master_state.specs.declared.updates.Change.{Change}
use Rattle.master_parts.specs.Claims.{owner_of, claim_of}
use Rattle.master_state.specs.NameSpace.{name_space, caller}
use Rattle.master_state.specs.State.{MasterState}
use Rattle.master_state.specs.Lookups.{missing_right, node_of_handle, new_handle, open_present, plain_open, opened_answer, list_answer, sequencer_fault, release_fault, lock_under, sequencer_result, answer_on_node, answer_under, answer_on, shown_handle, is_of_cell, may}
use Rattle.master_parts.specs.Calls.{is_too_long, content_fault, node_fault, delay_fault, create_fault, write_fault, needing, bytes_of}
use Rattle.cell_core.specs.Step.{admission_of_open, answering, admission_under, check_admission, handle_admission, admission_of}
use Rattle.cell_core.specs.declared.effects.Effect.{Effect}
use Rattle.cell_core.specs.Effect as effects
use Rattle.cell_core.specs.Effect.{answered, refused, deleted, create_made, create_numbered, create_permitted, create_in, create_under, create_new, create_over, create_effect, create_under_sequencer, open_effect, generation_fits, is_last, put_at, acquire_by, try_by, release_by, change_at, change_on, effect_on, handle_effect, effect, new_node, acls_of, with_content, with_acls, new_node_fault, lock_fault, create_put, changes_to}

-- a view is that of a node of the map, and a stat tells of one
abbrev pub IsShown : Nodes → CallResult → Type 0
IsShown nodes (results.Viewed view) = (name : List ℕ) × (get_node nodes name ≡ Some view.node)
IsShown nodes (results.Stated stat) =
    (name : List ℕ) × (view : Node) × (get_node nodes name ≡ Some view) × (stat.instance ≡ view.instance) × (stat.content_generation ≡ view.content_generation)
IsShown nodes _ = Unit {0}

-- a first answer, if there is one
abbrev pub IsShownIf : Nodes → Option CallResult → Type 0
IsShownIf nodes None = Unit {0}
IsShownIf nodes (Some answer) = IsShown nodes answer

-- a new node, or one of the map with no older content
abbrev pub IsRenewed : MasterState → Node → Type 0
IsRenewed s view =
    (s.next_instance ≤ view.instance)
    ⊎ ((name : List ℕ) × (former : Node) × (get_node s.nodes name ≡ Some former) × (former.instance ≡ view.instance) × (former.content_generation ≤ view.content_generation))

abbrev pub Renews : MasterState → Mod → Type 0
Renews s (Put name view) = IsRenewed s view
Renews s (Gone name) = Unit {0}

abbrev pub RenewsIf : MasterState → Option Change → Type 0
RenewsIf s None = Unit {0}
RenewsIf s (Some change) = Renews s change.change

abbrev pub IsFaithful : MasterState → Effect → Type 0
IsFaithful s effected = RenewsIf s effected.change × IsShownIf s.nodes effected.answer

either : {A : Type 0} (P : A → Type 0) (b : Bool) (x y : A) → P x → P y → P (cond b x y)
either P true x y h k = h
either P false x y h k = k

found_or : {A B : Type 0} (P : B → Type 0) (f : A → B) (o : Option A) (x : B) → ((a : A) → o ≡ Some a → P (f a)) → P x → P (option_map_or f o x)
found_or P f None x h k = k
found_or P f (Some a) x h k = h a refl

least : (n : ℕ) → n ≤ n
least n = omega arith

one_more : (n : ℕ) → n ≤ n + 1
one_more n = omega arith

module _ (s : MasterState) where
  -- the node that a handle shows
  node_shown : (handle : Handle) (o : Option Node) (view : Node) → get_node s.nodes handle.name ≡ o → option_map_or (λ (v : Node). cond (v.instance == handle.instance) (Some v) None) o None ≡ Some view → get_node s.nodes handle.name ≡ Some view
  node_shown handle None view found is = cc
  node_shown handle (Some v) view found is =
      (elim (v.instance == handle.instance) as (λ b. ◌≡◌ {A = Option Node} (cond b (Some v) None) (Some view) → get_node s.nodes handle.name ≡ Some view) [
        | true ↦ (λ k. found ∙ k)
        | false ↦ (λ k. cc)
      ]) is

  -- ---- what is answered at once

  opened_shown : (opened : Result Handle Fault) → IsShown s.nodes (opened_answer (name_space s) opened)
  opened_shown (Ok handle) = tt
  opened_shown (Err fault) = tt

  content_shown : (content : List ℕ) → IsShownIf s.nodes (content_fault content)
  content_shown content = either (IsShownIf s.nodes) (nat_lt content_limit (length content)) (Some (results.Refused faults.TooLarge)) None tt tt

  node_fault_shown : (node : NewNode) → IsShownIf s.nodes (node_fault node)
  node_fault_shown (made.File content) = content_shown content
  node_fault_shown made.Directory = tt

  delay_shown : (delay : ℕ) → IsShownIf s.nodes (delay_fault delay)
  delay_shown delay = either (IsShownIf s.nodes) (is_too_long delay) (Some (results.Refused faults.DelayTooLong)) None tt tt

  fault_shown : (o : Option CallResult) (delay : ℕ) → IsShownIf s.nodes o → IsShownIf s.nodes (option_map_or (λ answer. Some answer) o (delay_fault delay))
  fault_shown None delay h = delay_shown delay
  fault_shown (Some answer) delay h = h

  making_shown : (opening : Open) (node : NewNode) → IsShownIf s.nodes (create_fault opening node)
  making_shown opening node = fault_shown (node_fault node) opening.delay (node_fault_shown node)

  write_shown : (kind : Kind) (content : List ℕ) → IsShownIf s.nodes (write_fault kind content)
  write_shown kinds.Directory content = tt
  write_shown kinds.File content = content_shown content

  list_shown : (view : View) (kind : Kind) → IsShown s.nodes (list_answer view kind)
  list_shown view kinds.Directory = tt
  list_shown view kinds.File = tt

  needing_shown : (handle : Handle) (right : Right) (answer : Option CallResult) → IsShownIf s.nodes answer → IsShownIf s.nodes (needing handle right answer)
  needing_shown handle right answer h = either (IsShownIf s.nodes) (has_right handle.mode right) answer (Some (results.Refused (faults.Denied right))) h tt

  release_shown : (handle : Handle) → IsShownIf s.nodes (release_fault (name_space s) handle)
  release_shown handle = either (IsShownIf s.nodes) (is_none (hold_of (lock_under (name_space s) handle) (owner_of handle))) (Some (results.Refused faults.NotHolder)) None tt tt

  sequencer_shown : (found : Result Sequencer Fault) → IsShown s.nodes (sequencer_result found)
  sequencer_shown (Ok sequencer) = tt
  sequencer_shown (Err fault) = tt

  on_node_shown : (handle : Handle) (call : Call) (view : Node) → get_node s.nodes handle.name ≡ Some view → IsShownIf s.nodes (answer_on_node (name_space s) handle call view)
  on_node_shown handle (calls.Read bytes) view found = needing_shown handle rights.Read (Some (results.Viewed (view_of s.nodes handle.name view))) (handle.name, found)
  on_node_shown handle (calls.Stat bytes) view found = (handle.name, view, found, refl, refl)
  on_node_shown handle (calls.List bytes) view found = needing_shown handle rights.Read (Some (list_answer (view_of s.nodes handle.name view) view.kind)) (list_shown (view_of s.nodes handle.name view) view.kind)
  on_node_shown handle (calls.Set bytes content generation) view found = needing_shown handle rights.Write (write_fault view.kind content) (write_shown view.kind content)
  on_node_shown handle (calls.SetAcl bytes acls generation) view found = needing_shown handle rights.Change None tt
  on_node_shown handle (calls.Delete bytes) view found = needing_shown handle rights.Write None tt
  on_node_shown handle (calls.Acquire bytes mode) view found = needing_shown handle rights.Write None tt
  on_node_shown handle (calls.TryAcquire bytes mode) view found = needing_shown handle rights.Write None tt
  on_node_shown handle (calls.Release bytes) view found = needing_shown handle rights.Write (release_fault (name_space s) handle) (release_shown handle)
  on_node_shown handle (calls.GetSequencer bytes) view found = sequencer_shown (sequencer_of (lock_under (name_space s) handle) handle.instance handle.name (owner_of handle))
  on_node_shown handle call view found = tt

  on_node_under_shown : (handle : Handle) (call : Call) (view : Node) (o : Option Fault) → get_node s.nodes handle.name ≡ Some view → IsShownIf s.nodes (answer_under (name_space s) handle call view o)
  on_node_under_shown handle call view (Some fault) found = tt
  on_node_under_shown handle call view None found = on_node_shown handle call view found

  at_node_shown : (handle : Handle) (call : Call) (sequencer : Option (List ℕ)) → IsShownIf s.nodes (option_map_or (λ view. answer_under (name_space s) handle call view (sequencer_fault (name_space s) sequencer)) (node_of_handle (name_space s) handle) (Some (results.Refused faults.StaleInstance)))
  at_node_shown handle call sequencer =
      found_or (IsShownIf s.nodes) (λ view. answer_under (name_space s) handle call view (sequencer_fault (name_space s) sequencer)) (node_of_handle (name_space s) handle) (Some (results.Refused faults.StaleInstance))
      (λ view is. on_node_under_shown handle call view (sequencer_fault (name_space s) sequencer) (node_shown handle (get_node s.nodes handle.name) view refl is)) tt

  on_shown : (handle : Handle) (call : Call) (sequencer : Option (List ℕ)) → IsShownIf s.nodes (answer_on (name_space s) handle call sequencer)
  on_shown handle (calls.Close bytes) sequencer = tt
  on_shown handle call sequencer = at_node_shown handle call sequencer

  handle_shown : (call : Call) (sequencer : Option (List ℕ)) (o : Option Handle) → IsShownIf s.nodes (handle_admission s call sequencer o).answer
  handle_shown call sequencer None = tt
  handle_shown call sequencer (Some handle) = on_shown handle call sequencer

  open_shown : (client number : ℕ) (opening : Open) (o : Option Create) → IsShownIf s.nodes (admission_of_open s client number opening o).answer
  open_shown client number opening (Some create) = making_shown opening create.node
  open_shown client number opening None = opened_shown (plain_open (name_space s) (caller s client) number opening)

  sequenced_shown : (client number : ℕ) (opening : Open) (o : Option Fault) → IsShownIf s.nodes (admission_under s client number opening o).answer
  sequenced_shown client number opening (Some fault) = tt
  sequenced_shown client number opening None = open_shown client number opening opening.create

  check_shown : (bytes : List ℕ) (o : Option Fault) → IsShownIf s.nodes (check_admission s bytes o).answer
  check_shown bytes (Some fault) = tt
  check_shown bytes None = found_or (IsShown s.nodes) (λ (fault : Fault). results.Refused fault) (sequencer_fault (name_space s) (Some bytes)) results.Done (λ fault is. tt) tt

  -- by the tests of a call
  admission_shown : (client number : ℕ) (call : Call) (sequencer : Option (List ℕ)) → IsShownIf s.nodes (admission_of s client number call sequencer).answer
  admission_shown client number (calls.Open opening) sequencer =
      elim (is_of_cell (name_space s) opening.name) as (λ b. IsShownIf s.nodes (cond b (admission_under s client number opening (sequencer_fault (name_space s) sequencer)) (answering (results.Refused faults.OtherCell))).answer) [
        | true ↦ sequenced_shown client number opening (sequencer_fault (name_space s) sequencer)
        | false ↦ tt
      ]
  admission_shown client number (calls.CheckSequencer bytes) sequencer = check_shown bytes (sequencer_fault (name_space s) sequencer)
  admission_shown client number calls.Leave sequencer = tt
  admission_shown client number call sequencer = handle_shown call sequencer (shown_handle s client (bytes_of call))

  pub answer_shown : (client number : ℕ) (call : Call) (sequencer : Option (List ℕ)) (answer : CallResult) → (admission_of s client number call sequencer).answer ≡ Some answer → IsShown s.nodes answer
  answer_shown client number call sequencer answer is = subst (IsShownIf s.nodes) is (admission_shown client number call sequencer)

  -- ---- when its turn comes

  -- a node is made

  made_faithful : (opening : Open) (view : Node) (made : Result Handle Fault) → s.next_instance ≤ view.instance → IsFaithful s (create_made (name_space s) opening view made)
  made_faithful opening view (Ok handle) new =
      found_or (IsFaithful s) (λ (fault : Fault). refused fault) (new_node_fault (name_space s) view) (create_put (name_space s) opening view handle) (λ fault is. (tt, tt)) (inl new, tt)
  made_faithful opening view (Err fault) new = (tt, tt)

  module _ (client number : ℕ) (opening : Open) where
    numbered_faithful : (view : Node) → s.next_instance ≤ view.instance → IsFaithful s (create_numbered (name_space s) (caller s client) number opening view)
    numbered_faithful view new =
        either (IsFaithful s) (is_last s.next_instance) (refused faults.Exhausted) (create_made (name_space s) opening view (new_handle (name_space s) (caller s client) number opening view)) (tt, tt) (made_faithful opening view (new_handle (name_space s) (caller s client) number opening view) new)

    permitted_faithful : (view : Node) → s.next_instance ≤ view.instance → IsFaithful s (create_permitted (name_space s) (caller s client) number opening view)
    permitted_faithful view new =
        found_or (IsFaithful s) (λ (right : Right). refused (faults.Denied right)) (missing_right (name_space s) (caller s client) opening.mode view) (create_numbered (name_space s) (caller s client) number opening view) (λ right is. (tt, tt)) (numbered_faithful view new)

    in_faithful : (create : Create) (above : Node) (kind : Kind) → IsFaithful s (create_in (name_space s) (caller s client) number opening create above kind)
    in_faithful create above kinds.File = (tt, tt)
    in_faithful create above kinds.Directory =
        either (IsFaithful s) (may (name_space s) (caller s client) above rights.Write) _ (refused (faults.Denied rights.Write)) (permitted_faithful (new_node s.next_instance create.node create.life (acls_of above create.acls)) (least s.next_instance)) (tt, tt)

    under_faithful : (create : Create) (o : Option Node) → IsFaithful s (create_under (name_space s) (caller s client) number opening create o)
    under_faithful create None = (tt, tt)
    under_faithful create (Some above) = in_faithful create above above.kind

    over_faithful : (disposition : Disposition) (view : Node) → IsFaithful s (create_over (name_space s) (caller s client) number opening disposition view)
    over_faithful Must view = (tt, tt)
    over_faithful May view = (tt, opened_shown (open_present (name_space s) (caller s client) number opening view))

    create_faithful : (create : Create) → IsFaithful s (create_effect (name_space s) (caller s client) number opening create)
    create_faithful create =
        found_or (IsFaithful s) (λ view. create_over (name_space s) (caller s client) number opening create.disposition view) (get_node s.nodes opening.name) (create_new (name_space s) (caller s client) number opening create) (λ view is. over_faithful create.disposition view)
        (found_or (IsFaithful s) (λ parent. create_under (name_space s) (caller s client) number opening create (get_node s.nodes parent)) (parent_of opening.name) (refused faults.NotFound) (λ parent is. under_faithful create (get_node s.nodes parent)) (tt, tt))

    tested_faithful : (create : Create) (o : Option CallResult) → IsShownIf s.nodes o → IsFaithful s (option_map_or (λ answer. answered answer) o (create_effect (name_space s) (caller s client) number opening create))
    tested_faithful create None h = create_faithful create
    tested_faithful create (Some answer) h = (tt, h)

    sequenced_faithful : (create : Create) (o : Option Fault) → IsFaithful s (create_under_sequencer (name_space s) (caller s client) number opening create o)
    sequenced_faithful create (Some fault) = (tt, tt)
    sequenced_faithful create None = tested_faithful create (create_fault opening create.node) (making_shown opening create.node)

    open_faithful : (sequencer : Option (List ℕ)) (o : Option Create) → IsFaithful s (open_effect (name_space s) (caller s client) number opening sequencer o)
    open_faithful sequencer None = (tt, opened_shown (plain_open (name_space s) (caller s client) number opening))
    open_faithful sequencer (Some create) = either (IsFaithful s) (is_of_cell (name_space s) opening.name) _ (refused faults.OtherCell) (sequenced_faithful create (sequencer_fault (name_space s) sequencer)) (tt, tt)

  -- a node that stands

  put_faithful : (handle : Handle) (present : ℕ) (wanted : Option ℕ) (room : Option Fault) (view : Node) → IsRenewed s view → IsFaithful s (put_at (name_space s) handle present wanted room view)
  put_faithful handle present wanted room view renewed =
      either (IsFaithful s) (generation_fits wanted present) _ (refused (faults.WrongGeneration present))
      (either (IsFaithful s) (is_last present) (refused faults.Exhausted) _ (tt, tt) (found_or (IsFaithful s) (λ (fault : Fault). refused fault) room (changes_to (Put handle.name view) s.next_instance results.Done) (λ fault is. (tt, tt)) (renewed, tt))) (tt, tt)

  acquired_faithful : (handle : Handle) (claim : Claim) (room : Option Fault) (o : Result Acquired Fault) → IsFaithful s (acquire_by handle claim room o)
  acquired_faithful handle claim (Some fault) (Ok given) = (tt, tt)
  acquired_faithful handle claim None (Ok (asked.Held lock)) = (tt, tt)
  acquired_faithful handle claim None (Ok (asked.Waits lock)) = (tt, tt)
  acquired_faithful handle claim room (Err fault) = (tt, tt)

  tried_faithful : (handle : Handle) (claim : Claim) (room : Option Fault) (o : Result LockState Fault) → IsFaithful s (try_by handle claim room o)
  tried_faithful handle claim (Some fault) (Ok lock) = (tt, tt)
  tried_faithful handle claim None (Ok lock) = (tt, tt)
  tried_faithful handle claim room (Err fault) = (tt, tt)

  released_faithful : (handle : Handle) (o : Result Turn Fault) → IsFaithful s (release_by handle o)
  released_faithful handle (Ok turn) = (tt, tt)
  released_faithful handle (Err fault) = (tt, tt)

  change_faithful : (handle : Handle) (call : Call) (view : Node) → get_node s.nodes handle.name ≡ Some view → IsFaithful s (change_at (name_space s) s.clock handle call view)
  change_faithful handle (calls.Set bytes content generation) view found = put_faithful handle view.content_generation generation (effects.content_fault (name_space s) view content) (with_content view content) (inr (handle.name, view, found, refl, one_more view.content_generation))
  change_faithful handle (calls.SetAcl bytes acls generation) view found = put_faithful handle view.acl_generation generation None (with_acls view acls) (inr (handle.name, view, found, refl, least view.content_generation))
  change_faithful handle (calls.Delete bytes) view found = either (IsFaithful s) (has_children s.nodes handle.name || is_none (parent_of handle.name)) (refused faults.NotEmpty) (deleted (name_space s) handle) (tt, tt) (tt, tt)
  change_faithful handle (calls.Acquire bytes mode) view found = acquired_faithful handle (claim_of handle mode) (lock_fault (name_space s) handle.client) (acquired (lock_under (name_space s) handle) (claim_of handle mode))
  change_faithful handle (calls.TryAcquire bytes mode) view found = tried_faithful handle (claim_of handle mode) (lock_fault (name_space s) handle.client) (tried (lock_under (name_space s) handle) (claim_of handle mode) s.clock)
  change_faithful handle (calls.Release bytes) view found = released_faithful handle (released (lock_under (name_space s) handle) (owner_of handle))
  change_faithful handle call view found = (tt, tt)

  change_on_faithful : (handle : Handle) (call : Call) → IsFaithful s (change_on (name_space s) s.clock handle call)
  change_on_faithful handle call =
      found_or (IsFaithful s) (λ view. change_at (name_space s) s.clock handle call view) (node_of_handle (name_space s) handle) (refused faults.StaleInstance)
      (λ view is. change_faithful handle call view (node_shown handle (get_node s.nodes handle.name) view refl is)) (tt, tt)

  first_faithful : (handle : Handle) (call : Call) (o : Option CallResult) → IsShownIf s.nodes o → IsFaithful s (option_map_or (λ answer. answered answer) o (change_on (name_space s) s.clock handle call))
  first_faithful handle call None h = change_on_faithful handle call
  first_faithful handle call (Some answer) h = (tt, h)

  on_faithful : (handle : Handle) (call : Call) (sequencer : Option (List ℕ)) → IsFaithful s (effect_on (name_space s) s.clock handle call sequencer)
  on_faithful handle (calls.Close bytes) sequencer = (tt, tt)
  on_faithful handle call sequencer = first_faithful handle call (answer_on (name_space s) handle call sequencer) (on_shown handle call sequencer)

  shown_faithful : (call : Call) (sequencer : Option (List ℕ)) (o : Option Handle) → IsFaithful s (handle_effect (name_space s) s.clock call sequencer o)
  shown_faithful call sequencer None = (tt, tt)
  shown_faithful call sequencer (Some handle) = on_faithful handle call sequencer

  pub effect_faithful : (client number : ℕ) (call : Call) (sequencer : Option (List ℕ)) → IsFaithful s (effect (name_space s) (caller s client) s.clock number call sequencer)
  unfolding effect
  effect_faithful client number (calls.Open opening) sequencer = open_faithful client number opening sequencer opening.create
  effect_faithful client number call sequencer = shown_faithful call sequencer (read_handle s.secret (bytes_of call))
