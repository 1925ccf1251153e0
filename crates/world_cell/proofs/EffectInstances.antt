-- The node that a call puts has the instance of the one that stands at its name, or the next that is given out.
use Rattle.std.proofs.Common.{◌≡◌, ℕ, ◌+◌, ◌≤◌, List, [], Bool, true, false, cond, Option, Some, None, Result, Ok, Err, refl, ap, subst, ◌∙◌, inl, inr, arith}
use Rattle.std.specs.Prelude.{◌⊎◌, ◌||◌, ◌==◌, is_none}
use Rattle.std.specs.Option.{option_map, option_map_or}
use Rattle.std.specs.BTreeMap.{is_at}
use Rattle.std.specs.Ordering.{nat_cmp}
use Rattle.std.specs.Cmp.Lexicographic.{slice_cmp}
use Rattle.std.proofs.lemmas.Bool.Decides.{nat_tests}
use Rattle.names_cell.specs.Text.{parent_of}
use Rattle.node_core.specs.declared.refusals.Fault.{Fault}
use Rattle.node_core.specs.declared.refusals.Fault.TheVariants as faults
use Rattle.node_core.specs.declared.kinds.Kind.{Kind}
use Rattle.node_core.specs.declared.kinds.Kind.TheVariants as kinds
use Rattle.node_core.specs.declared.kinds.Right.{Right}
use Rattle.node_core.specs.declared.kinds.Right.TheVariants as rights
use Rattle.node_core.specs.declared.nodes.Node.{Node}
use Rattle.node_core.specs.declared.views.Mod.{Mod}
use Rattle.node_core.specs.declared.views.Mod.TheVariants.{Put, Gone}
use Rattle.node_core.specs.Nodes.{Nodes, get_node, has_children}
use Rattle.rows_cell.proofs.SoundGenerations.{any_found}
use Rattle.tags_cell.specs.Handles.{read_handle}
use Rattle.tags_cell.specs.declared.handles.Handle.{Handle}
use Rattle.tags_cell.specs.declared.messages.calls.Open.{Open}
use Rattle.tags_cell.specs.declared.messages.calls.Create.{Create}
use Rattle.tags_cell.specs.declared.messages.calls.Disposition.{Disposition}
use Rattle.tags_cell.specs.declared.messages.calls.Disposition.TheVariants.{May, Must}
use Rattle.tags_cell.specs.declared.messages.calls.Call.{Call}
use Rattle.tags_cell.specs.declared.messages.calls.Call.TheVariants as calls
use Rattle.tags_cell.specs.declared.messages.outs.CallResult.{CallResult}
use Rattle.lock_core.specs.declared.claims.Claim.{Claim}
use Rattle.lock_core.specs.declared.turns.Acquired.{Acquired}
use Rattle.lock_core.specs.declared.turns.Acquired.TheVariants as asked
use Rattle.lock_core.specs.declared.turns.Turn.{Turn}
use Rattle.lock_core.specs.State.{LockState}
use Rattle.lock_core.specs.Turns.{tried, acquired, released}
use Rattle.master_state.specs.declared.updates.Change.{Change}
use Rattle.master_parts.specs.Claims.{owner_of, claim_of}
use Rattle.master_state.specs.NameSpace.{name_space, caller}
use Rattle.master_state.specs.State.{MasterState}
use Rattle.master_state.specs.Lookups.{missing_right, node_of_handle, new_handle, sequencer_fault, lock_under, answer_on, is_of_cell, may}
use Rattle.master_parts.specs.Calls.{create_fault, bytes_of}
use Rattle.over_core.specs.Kept.{is_there}
use Rattle.world_cell.specs.Locks.{instance_in}
use Rattle.tags_cell.specs.declared.messages.outs.CallResult.TheVariants as results
use Rattle.cell_core.specs.declared.effects.Effect.{Effect}
use Rattle.cell_core.specs.Effect.{answered, refused, deleted, create_made, create_numbered, create_permitted, create_in, create_under, create_new, create_over, create_effect, create_under_sequencer, open_effect, generation_fits, is_last, put_at, acquire_by, try_by, release_by, change_at, change_on, effect_on, handle_effect, effect, new_node, acls_of, with_content, with_acls, new_node_fault, content_fault, lock_fault, create_put, changes_to}

-- the instance of a node that is put
abbrev pub IsGiven : MasterState → Mod → Type 0
IsGiven s (Put name view) = (instance_in s.nodes name ≡ Some view.instance) ⊎ (s.next_instance ≤ view.instance)
IsGiven s (Gone name) = Unit {0}

pub record GivesOut (s : MasterState) (change : Change) : Type 0 where
  pub given : IsGiven s change.change
  pub next : s.next_instance ≤ change.next_instance

abbrev pub Gives : MasterState → Option Change → Type 0
Gives s None = Unit {0}
Gives s (Some change) = GivesOut s change

abbrev pub GivesBy : MasterState → Effect → Type 0
GivesBy s effected = Gives s effected.change

either : (s : MasterState) (b : Bool) (x y : Effect) → GivesBy s x → GivesBy s y → GivesBy s (cond b x y)
either s true x y h k = h
either s false x y h k = k

found_or : {X : Type 0} (s : MasterState) (f : X → Effect) (o : Option X) (y : Effect) → ((x : X) → o ≡ Some x → GivesBy s (f x)) → GivesBy s y → GivesBy s (option_map_or f o y)
found_or s f None y h k = k
found_or s f (Some x) y h k = h x refl

itself : (n : ℕ) → n ≤ n
itself n = omega arith

one_more : (n : ℕ) → n ≤ n + 1
one_more n = omega arith

same_number : (n : ℕ) → (n == n) ≡ true
same_number n = grind (arith, nat_tests)

-- ---- a create

made_gives : (s : MasterState) (opening : Open) (view : Node) (made : Result Handle Fault) → s.next_instance ≤ view.instance → GivesBy s (create_made (name_space s) opening view made)
made_gives s opening view (Ok handle) new = found_or s (λ (fault : Fault). refused fault) (new_node_fault (name_space s) view) (create_put (name_space s) opening view handle) (λ fault is. tt) (record { given = inr new; next = one_more s.next_instance })
made_gives s opening view (Err fault) new = tt

module _ (s : MasterState) (client number : ℕ) (opening : Open) where
  numbered_gives : (view : Node) → s.next_instance ≤ view.instance → GivesBy s (create_numbered (name_space s) (caller s client) number opening view)
  numbered_gives view new = either s (is_last s.next_instance) (refused faults.Exhausted) (create_made (name_space s) opening view (new_handle (name_space s) (caller s client) number opening view)) tt (made_gives s opening view (new_handle (name_space s) (caller s client) number opening view) new)

  permitted_gives : (view : Node) → s.next_instance ≤ view.instance → GivesBy s (create_permitted (name_space s) (caller s client) number opening view)
  permitted_gives view new = found_or s (λ (right : Right). refused (faults.Denied right)) (missing_right (name_space s) (caller s client) opening.mode view) (create_numbered (name_space s) (caller s client) number opening view) (λ right is. tt) (numbered_gives view new)

  in_gives : (create : Create) (above : Node) (kind : Kind) → GivesBy s (create_in (name_space s) (caller s client) number opening create above kind)
  in_gives create above kinds.File = tt
  in_gives create above kinds.Directory = either s (may (name_space s) (caller s client) above rights.Write) _ (refused (faults.Denied rights.Write)) (permitted_gives (new_node s.next_instance create.node create.life (acls_of above create.acls)) (itself s.next_instance)) tt

  under_gives : (create : Create) (o : Option Node) → GivesBy s (create_under (name_space s) (caller s client) number opening create o)
  under_gives create None = tt
  under_gives create (Some above) = in_gives create above above.kind

  over_gives : (disposition : Disposition) (view : Node) → GivesBy s (create_over (name_space s) (caller s client) number opening disposition view)
  over_gives Must view = tt
  over_gives May view = tt

  create_gives : (create : Create) → GivesBy s (create_effect (name_space s) (caller s client) number opening create)
  create_gives create = found_or s (λ view. create_over (name_space s) (caller s client) number opening create.disposition view) (get_node s.nodes opening.name) (create_new (name_space s) (caller s client) number opening create) (λ view is. over_gives create.disposition view)
      (found_or s (λ parent. create_under (name_space s) (caller s client) number opening create (get_node s.nodes parent)) (parent_of opening.name) (refused faults.NotFound) (λ parent is. under_gives create (get_node s.nodes parent)) tt)

  sequenced_gives : (create : Create) (o : Option Fault) → GivesBy s (create_under_sequencer (name_space s) (caller s client) number opening create o)
  sequenced_gives create (Some fault) = tt
  sequenced_gives create None = found_or s (λ (answer : CallResult). answered answer) (create_fault opening create.node) (create_effect (name_space s) (caller s client) number opening create) (λ answer is. tt) (create_gives create)

  open_gives : (sequencer : Option (List ℕ)) (o : Option Create) → GivesBy s (open_effect (name_space s) (caller s client) number opening sequencer o)
  open_gives sequencer None = tt
  open_gives sequencer (Some create) = either s (is_of_cell (name_space s) opening.name) _ (refused faults.OtherCell) (sequenced_gives create (sequencer_fault (name_space s) sequencer)) tt

-- ---- a node that stands

-- the node that stands at a name is there
node_there : (nodes : Nodes) (name : List ℕ) (view : Node) → get_node nodes name ≡ Some view → is_there nodes view.instance ≡ true
node_there nodes name view found = any_found (is_at (slice_cmp nat_cmp name)) (λ (v : Node). v.instance == view.instance) nodes view found (same_number view.instance)

pub named_there : (nodes : Nodes) (name : List ℕ) (n : ℕ) (o : Option Node) → get_node nodes name ≡ o → option_map (λ (view : Node). view.instance) o ≡ Some n → is_there nodes n ≡ true
named_there nodes name n None found is = absurd cc
named_there nodes name n (Some view) found is =
    let same : view.instance ≡ n = cc in
    let P : ℕ → Type 0 = λ i. is_there nodes i ≡ true in
    subst P same (node_there nodes name view found)

-- the node that a handle shows stands at its name
shown_at : (nodes : Nodes) (name : List ℕ) (instance : ℕ) (o : Option Node) (view : Node) → get_node nodes name ≡ o → option_map_or (λ (v : Node). cond (v.instance == instance) (Some v) None) o None ≡ Some view → instance_in nodes name ≡ Some view.instance
shown_at nodes name instance None view found is = absurd cc
shown_at nodes name instance (Some v) view found is =
    (elim (v.instance == instance) as (λ b. ◌≡◌ {A = Option Node} (cond b (Some v) None) (Some view) → instance_in nodes name ≡ Some view.instance) [
      | true ↦ (λ k. let same : v ≡ view = cc in ap (λ (o : Option Node). option_map (λ (n : Node). n.instance) o) found ∙ ap (λ (n : Node). Some n.instance) same)
      | false ↦ (λ k. absurd cc)
    ]) is

put_gives : (s : MasterState) (handle : Handle) (present : ℕ) (wanted : Option ℕ) (room : Option Fault) (view : Node) → instance_in s.nodes handle.name ≡ Some view.instance → GivesBy s (put_at (name_space s) handle present wanted room view)
put_gives s handle present wanted room view there =
    either s (generation_fits wanted present) _ (refused (faults.WrongGeneration present))
    (either s (is_last present) (refused faults.Exhausted) _ tt (found_or s (λ (fault : Fault). refused fault) room (changes_to (Put handle.name view) s.next_instance results.Done) (λ fault is. tt) (record { given = inl there; next = itself s.next_instance }))) tt

acquired_gives : (s : MasterState) (handle : Handle) (claim : Claim) (room : Option Fault) (o : Result Acquired Fault) → GivesBy s (acquire_by handle claim room o)
acquired_gives s handle claim (Some fault) (Ok given) = tt
acquired_gives s handle claim None (Ok (asked.Held lock)) = tt
acquired_gives s handle claim None (Ok (asked.Waits lock)) = tt
acquired_gives s handle claim room (Err fault) = tt

tried_gives : (s : MasterState) (handle : Handle) (claim : Claim) (room : Option Fault) (o : Result LockState Fault) → GivesBy s (try_by handle claim room o)
tried_gives s handle claim (Some fault) (Ok lock) = tt
tried_gives s handle claim None (Ok lock) = tt
tried_gives s handle claim room (Err fault) = tt

released_gives : (s : MasterState) (handle : Handle) (o : Result Turn Fault) → GivesBy s (release_by handle o)
released_gives s handle (Ok turn) = tt
released_gives s handle (Err fault) = tt

change_gives : (s : MasterState) (handle : Handle) (call : Call) (view : Node) → instance_in s.nodes handle.name ≡ Some view.instance → GivesBy s (change_at (name_space s) s.clock handle call view)
change_gives s handle (calls.Set bytes content generation) view there = put_gives s handle view.content_generation generation (content_fault (name_space s) view content) (with_content view content) there
change_gives s handle (calls.SetAcl bytes acls generation) view there = put_gives s handle view.acl_generation generation None (with_acls view acls) there
change_gives s handle (calls.Delete bytes) view there =
    either s (has_children s.nodes handle.name || is_none (parent_of handle.name)) (refused faults.NotEmpty) (deleted (name_space s) handle) tt (record { given = tt; next = itself s.next_instance })
change_gives s handle (calls.Acquire bytes mode) view there = acquired_gives s handle (claim_of handle mode) (lock_fault (name_space s) handle.client) (acquired (lock_under (name_space s) handle) (claim_of handle mode))
change_gives s handle (calls.TryAcquire bytes mode) view there = tried_gives s handle (claim_of handle mode) (lock_fault (name_space s) handle.client) (tried (lock_under (name_space s) handle) (claim_of handle mode) s.clock)
change_gives s handle (calls.Release bytes) view there = released_gives s handle (released (lock_under (name_space s) handle) (owner_of handle))
change_gives s handle call view there = tt

first_gives : (s : MasterState) (handle : Handle) (call : Call) (o : Option CallResult) → GivesBy s (option_map_or (λ answer. answered answer) o (change_on (name_space s) s.clock handle call))
first_gives s handle call o = found_or s (λ (answer : CallResult). answered answer) o (change_on (name_space s) s.clock handle call) (λ answer is. tt)
    (found_or s (λ view. change_at (name_space s) s.clock handle call view) (node_of_handle (name_space s) handle) (refused faults.StaleInstance)
    (λ view is. change_gives s handle call view (shown_at s.nodes handle.name handle.instance (get_node s.nodes handle.name) view refl is)) tt)

on_gives : (s : MasterState) (handle : Handle) (call : Call) (sequencer : Option (List ℕ)) → GivesBy s (effect_on (name_space s) s.clock handle call sequencer)
on_gives s handle (calls.Close bytes) sequencer = tt
on_gives s handle call sequencer = first_gives s handle call (answer_on (name_space s) handle call sequencer)

shown_gives : (s : MasterState) (call : Call) (sequencer : Option (List ℕ)) (o : Option Handle) → GivesBy s (handle_effect (name_space s) s.clock call sequencer o)
shown_gives s call sequencer None = tt
shown_gives s call sequencer (Some handle) = on_gives s handle call sequencer

pub effect_gives : (s : MasterState) (client number : ℕ) (call : Call) (sequencer : Option (List ℕ)) → GivesBy s (effect (name_space s) (caller s client) s.clock number call sequencer)
unfolding effect
effect_gives s client number (calls.Open opening) sequencer = open_gives s client number opening sequencer opening.create
effect_gives s client number call sequencer = shown_gives s call sequencer (read_handle s.secret (bytes_of call))
