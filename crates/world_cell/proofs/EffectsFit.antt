-- The change of the map that a call is, when its turn comes, fits the map, and so does that of an idle node which goes.
use Rattle.std.proofs.Common.{◌≡◌, ℕ, ◌+◌, List, length, Bool, true, false, cond, Option, Some, None, Result, Ok, Err, refl, sym, ◌∙◌, ap, subst, arith}
use Rattle.std.specs.Prelude.{◌&&◌, ◌||◌, ◌==◌, not, nat_lt, nat_le, is_none}
use Rattle.std.specs.Option.{option_map, option_map_or}
use Rattle.std.proofs.lemmas.Bool.{and_parts, not-true}
use Rattle.std.proofs.lemmas.Bool.Decides.{nat_tests}
use Rattle.std.specs.Str.{bytes_eq}
use Rattle.names_cell.specs.Text.{parent_of, cell_of}
use Rattle.node_core.specs.declared.refusals.Fault.{Fault}
use Rattle.node_core.specs.declared.refusals.Fault.TheVariants as faults
use Rattle.node_core.specs.declared.faults.NodeFault.{NodeFault}
use Rattle.node_core.specs.declared.faults.NodeFault.TheVariants.{NotFound, NotEmpty, TooLarge, Exhausted, StaleInstance}
use Rattle.node_core.specs.declared.kinds.Kind.{Kind}
use Rattle.node_core.specs.declared.kinds.Kind.TheVariants.{File, Directory}
use Rattle.node_core.specs.declared.kinds.Life.{Life}
use Rattle.node_core.specs.declared.kinds.Right.{Right}
use Rattle.node_core.specs.declared.kinds.Right.TheVariants as rights
use Rattle.node_core.specs.declared.nodes.Node.{Node}
use Rattle.node_core.specs.declared.views.Mod.{Mod}
use Rattle.node_core.specs.declared.views.Mod.TheVariants.{Put, Gone}
use Rattle.node_core.specs.Limits.{content_limit, number_limit}
use Rattle.node_core.specs.Nodes.{Nodes, get_node, has_children, or_else, parent_kind_misfit, directory_misfit, parent_misfit, limit_misfit, kind_misfit, present_misfit, misfit}
use Rattle.rows_cell.specs.declared.tables.StoredNode.{StoredNode}
use Rattle.rows_cell.specs.declared.tables.Rows.{Rows}
use Rattle.rows_cell.specs.Rows.{stored_node, map_of}
use Rattle.rows_cell.specs.Sound.{is_number, is_directory, is_directory_at, numbers_fit, content_fits, parent_fits}
use Rattle.rows_cell.proofs.RowNodes.{nodes_get}
use Rattle.rows_cell.proofs.SoundChanges.{found_fits, sound_numbers}
use Rattle.rows_cell.proofs.SoundParts.{five_parts}
use Rattle.tags_cell.specs.Modes.{has_right}
use Rattle.tags_cell.specs.Handles.{read_handle}
use Rattle.tags_cell.specs.declared.handles.Handle.{Handle}
use Rattle.tags_cell.specs.declared.messages.calls.AclNames.{AclNames}
use Rattle.tags_cell.specs.declared.messages.calls.NewNode.{NewNode}
use Rattle.tags_cell.specs.declared.messages.calls.NewNode.TheVariants as made
use Rattle.tags_cell.specs.declared.messages.calls.Open.{Open}
use Rattle.tags_cell.specs.declared.messages.calls.Create.{Create}
use Rattle.tags_cell.specs.declared.messages.calls.Disposition.{Disposition}
use Rattle.tags_cell.specs.declared.messages.calls.Disposition.TheVariants.{May, Must}
use Rattle.tags_cell.specs.declared.messages.calls.Call.{Call}
use Rattle.tags_cell.specs.declared.messages.calls.Call.TheVariants as calls
use Rattle.tags_cell.specs.declared.messages.outs.CallResult.{CallResult}
use Rattle.tags_cell.specs.declared.messages.outs.CallResult.TheVariants as results
use Rattle.lock_core.specs.declared.claims.Claim.{Claim}
use Rattle.lock_core.specs.declared.turns.Acquired.{Acquired}
use Rattle.lock_core.specs.declared.turns.Acquired.TheVariants as asked
use Rattle.lock_core.specs.declared.turns.Turn.{Turn}
use Rattle.lock_core.specs.State.{LockState}
use Rattle.lock_core.specs.Turns.{tried, acquired, released}
use Rattle.master_state.specs.declared.updates.Change.{Change}
use Rattle.master_parts.specs.EphemeralNames.{is_ephemeral}
use Rattle.master_state.specs.NameSpace.{name_space, caller}
use Rattle.master_state.specs.Lookups.{has_open, has_to_stay}
use Rattle.cell_core.specs.Ephemerals.{is_idle_node}
use Rattle.master_parts.specs.Claims.{owner_of, claim_of}
use Rattle.master_state.specs.State.{MasterState}
use Rattle.master_state.specs.Lookups.{missing_right, node_of_handle, new_handle, sequencer_fault, lock_under, answer_on_node, answer_under, is_of_cell, may}
use Rattle.master_parts.specs.Calls.{node_fault, delay_fault, create_fault, write_fault, needing, bytes_of}
use Rattle.cell_core.specs.declared.effects.Effect.{Effect}
use Rattle.cell_core.specs.Effect.{answered, refused, changes_to, deleted, create_made, create_numbered, create_permitted, create_in, create_under, create_new, create_over, create_effect, create_under_sequencer, open_effect, generation_fits, is_last, put_at, acquire_by, try_by, release_by, delete_at, change_at, change_on, effect_on, handle_effect, effect, new_node, acls_of, with_content, with_acls, new_node_fault, content_fault, lock_fault, create_put, unless}
use Rattle.over_core.specs.Kept.{IsKept}
use Rattle.world_cell.specs.Runs.{change_of}

-- ---- by what is tested

by_test : (P : Effect → Type 0) (b : Bool) (x y : Effect) → (b ≡ true → P x) → (b ≡ false → P y) → P (cond b x y)
by_test P true x y h k = h refl
by_test P false x y h k = k refl

by_option : {X : Type 0} (P : Effect → Type 0) (f : X → Effect) (o : Option X) (y : Effect) → ((x : X) → o ≡ Some x → P (f x)) → (o ≡ None → P y) → P (option_map_or f o y)
by_option P f None y h k = k refl
by_option P f (Some x) y h k = h x refl

-- what is found is asked, and refuses nothing
none_of : {X Y : Type 0} (f : X → Option Y) (o : Option X) (refusal : Option Y) (x : X) → o ≡ Some x → option_map_or f o refusal ≡ None → f x ≡ None
none_of f None refusal x is none = absurd cc
none_of {X} f (Some found) refusal x is none = let same : found ≡ x = cc in subst (λ (z : X). f z ≡ None) same none

no_first : (o p : Option CallResult) → option_map_or (λ answer. Some answer) o p ≡ None → o ≡ None
no_first None p h = refl
no_first (Some answer) p h = cc

no_refusal : (b : Bool) (refusal : CallResult) → cond b (Some refusal) None ≡ None → b ≡ false
no_refusal true refusal h = cc
no_refusal false refusal h = refl

-- ---- limits

within_limits : (a b c d : Bool) → a ≡ false → b ≡ false → c ≡ false → d ≡ false → cond a (Some TooLarge) (cond (b || c || d) (Some Exhausted) None) ≡ None
within_limits false false false false h i j k = refl
within_limits _ _ _ _ h i j k = cc

not_above : (n limit : ℕ) → nat_le n limit ≡ true → nat_lt limit n ≡ false
not_above n limit h = grind (arith, nat_tests)

next_not_above : (n limit : ℕ) → nat_le limit n ≡ false → nat_lt limit (n + 1) ≡ false
next_not_above n limit h = grind (arith, nat_tests)

itself_not_above : (n limit : ℕ) → nat_le limit n ≡ false → nat_lt limit n ≡ false
itself_not_above n limit h = grind (arith, nat_tests)

given_not_above : (n next limit : ℕ) → nat_lt n next ≡ true → nat_le next limit ≡ true → nat_lt limit n ≡ false
given_not_above n next limit given most = grind (arith, nat_tests)

none_not_above : (n limit : ℕ) → (n == 0) ≡ true → nat_lt limit n ≡ false
none_not_above n limit h = grind (arith, nat_tests)

limits_fit : (view : Node) → nat_lt content_limit (length view.content) ≡ false → nat_lt number_limit view.instance ≡ false → nat_lt number_limit view.content_generation ≡ false → nat_lt number_limit view.acl_generation ≡ false → limit_misfit view ≡ None
limits_fit view content instance written acl =
    within_limits (nat_lt content_limit (length view.content)) (nat_lt number_limit view.instance) (nat_lt number_limit view.content_generation) (nat_lt number_limit view.acl_generation) content instance written acl

-- a content that fits its kind
content_within : (kind : Kind) (view : Node) → content_fits kind view ≡ true → nat_lt content_limit (length view.content) ≡ false
content_within File view h = not_above (length view.content) content_limit h
content_within Directory view h = none_not_above (length view.content) content_limit (and_parts (view.content_generation == 0) (length view.content == 0) h).1

-- one that may be written
written_within : (kind : Kind) (content : List ℕ) → write_fault kind content ≡ None → nat_lt content_limit (length content) ≡ false
written_within File content h = no_refusal (nat_lt content_limit (length content)) (results.Refused faults.TooLarge) h
written_within Directory content h = cc

-- and that of a new node
new_content_within : (node : NewNode) (instance : ℕ) (life : Life) (acls : AclNames) → node_fault node ≡ None → nat_lt content_limit (length (new_node instance node life acls).content) ≡ false
new_content_within (made.File content) instance life acls h = no_refusal (nat_lt content_limit (length content)) (results.Refused faults.TooLarge) h
new_content_within made.Directory instance life acls h = refl

new_number_within : (node : NewNode) (instance : ℕ) (life : Life) (acls : AclNames) → nat_lt number_limit (new_node instance node life acls).content_generation ≡ false
new_number_within (made.File content) instance life acls = refl
new_number_within made.Directory instance life acls = refl

-- ---- a change that fits

all_fit : (parent limit present : Option NodeFault) → parent ≡ None → limit ≡ None → present ≡ None → or_else parent (or_else limit present) ≡ None
all_fit None None present h i j = j
all_fit _ _ present h i j = cc

put_fits : (nodes : Nodes) (name : List ℕ) (view : Node) → parent_misfit nodes name ≡ None → limit_misfit view ≡ None → present_misfit (get_node nodes name) view ≡ None → misfit nodes (Put name view) ≡ None
put_fits nodes name view parent limit present = all_fit (parent_misfit nodes name) (limit_misfit view) (present_misfit (get_node nodes name) view) parent limit present

neither : (absent stays : Bool) → absent ≡ false → stays ≡ false → cond absent (Some NotFound) (cond stays (Some NotEmpty) None) ≡ None
neither false false h k = refl
neither _ _ h k = cc

gone_fits : (nodes : Nodes) (name : List ℕ) (view : Node) → get_node nodes name ≡ Some view → (has_children nodes name || is_none (parent_of name)) ≡ false → misfit nodes (Gone name) ≡ None
gone_fits nodes name view found free = neither (is_none (get_node nodes name)) (has_children nodes name || is_none (parent_of name)) (ap (λ (o : Option Node). is_none o) found) free

-- an ephemeral node goes that nobody holds open
pub idle_fits : (s : MasterState) (name : List ℕ) (view : Node) → get_node s.nodes name ≡ Some view → is_idle_node s name view ≡ true → misfit s.nodes (Gone name) ≡ None
idle_fits s name view found idle =
    let stays : Bool = has_to_stay s name in
    gone_fits s.nodes name view found (not-true stays (and_parts (is_ephemeral view.life && not (has_open s view.instance)) (not stays) idle).1)

-- a node keeps its instance and its kind
same_number : (n : ℕ) → (n == n) ≡ true
same_number n = grind (arith, nat_tests)

same_kind : (kind : Kind) → kind_misfit kind kind ≡ None
same_kind File = refl
same_kind Directory = refl

stays_itself : (instance : ℕ) (kind : Kind) → cond (instance == instance) (kind_misfit kind kind) (Some StaleInstance) ≡ None
stays_itself instance kind = rw (same_number instance) (same_kind kind)

-- ---- what the rows tell of a node that stands

is_directory_kind : (kind : Kind) → is_directory kind ≡ true → parent_kind_misfit kind ≡ None
is_directory_kind File h = cc
is_directory_kind Directory h = refl

is_directory_node : (o : Option StoredNode) → option_map_or (λ (node : StoredNode). is_directory node.node.kind) o false ≡ true → directory_misfit (option_map (λ (node : StoredNode). node.node) o) ≡ None
is_directory_node None h = cc
is_directory_node (Some node) h = is_directory_kind node.node.kind h

stored_parent_fits : (rows : Rows) (o : Option (List ℕ)) → option_map_or (λ parent. is_directory_at rows.nodes parent) o true ≡ true → option_map_or (λ parent. directory_misfit (get_node (map_of rows) parent)) o None ≡ None
stored_parent_fits rows None h = refl
stored_parent_fits rows (Some parent) h = ap (λ (o : Option Node). directory_misfit o) (nodes_get rows.nodes parent) ∙ is_directory_node (stored_node rows.nodes parent) h

some_node : (o : Option StoredNode) (view : Node) → option_map (λ (node : StoredNode). node.node) o ≡ Some view → (node : StoredNode) × (o ≡ Some node) × (node.node ≡ view)
some_node None view h = cc
some_node (Some node) view h = let same : node.node ≡ view = cc in (node, refl, same)

four_parts : (a b c d : Bool) → (a && b && c && d) ≡ true → (a ≡ true) × (b ≡ true) × (c ≡ true) × (d ≡ true)
four_parts true true true true h = (refl, refl, refl, refl)
four_parts _ _ _ _ h = cc

-- its parent is a directory, its content and its numbers are within their limits
record Standing (nodes : Nodes) (name : List ℕ) (view : Node) : Type 0 where
  parent : parent_misfit nodes name ≡ None
  instance : nat_lt number_limit view.instance ≡ false
  written : nat_lt number_limit view.content_generation ≡ false
  acl : nat_lt number_limit view.acl_generation ≡ false
  content : nat_lt content_limit (length view.content) ≡ false

module _ (cell : List ℕ) (rows : Rows) (s : MasterState) (k : IsKept cell rows s) where
  stored_stands : (name : List ℕ) (node : StoredNode) → stored_node rows.nodes name ≡ Some node → Standing s.nodes name node.node
  stored_stands name node found =
      let next = rows.next_instance in
      let t = four_parts (bytes_eq (cell_of name) cell) (parent_fits rows.nodes name) (numbers_fit next node) (content_fits node.node.kind node.node) (found_fits cell rows name node k.sound_rows found) in
      let n = five_parts (nat_le 1 node.node.instance) (nat_lt node.node.instance next) (is_number node.node.content_generation) (is_number node.node.acl_generation) (is_number node.lock_generation) t.2 in
      record {
        parent = subst (λ (nodes : Nodes). parent_misfit nodes name ≡ None) (sym k.nodes) (stored_parent_fits rows (parent_of name) t.1);
        instance = given_not_above node.node.instance next number_limit n.1 (sound_numbers cell rows k.sound_rows).2;
        written = not_above node.node.content_generation number_limit n.2;
        acl = not_above node.node.acl_generation number_limit n.3;
        content = content_within node.node.kind node.node t.3;
      }

  stands : (name : List ℕ) (view : Node) → get_node s.nodes name ≡ Some view → Standing s.nodes name view
  stands name view found =
      let t = some_node (stored_node rows.nodes name) view (sym (nodes_get rows.nodes name) ∙ (sym (ap (λ (nodes : Nodes). get_node nodes name) k.nodes) ∙ found)) in
      subst (λ (v : Node). Standing s.nodes name v) t.2 (stored_stands name t.0 t.1)

  -- ---- what an effect changes

  abbrev FitsIf : Option Change → Type 0
  FitsIf None = Unit {0}
  FitsIf (Some change) = misfit s.nodes change.change ≡ None

  abbrev Fits : Effect → Type 0
  Fits effected = FitsIf effected.change

  -- a node is made

  made_fits : (opening : Open) (view : Node) (r : Result Handle Fault) → misfit s.nodes (Put opening.name view) ≡ None → Fits (create_made (name_space s) opening view r)
  made_fits opening view (Ok handle) h =
      by_option Fits (λ (fault : Fault). refused fault) (new_node_fault (name_space s) view) (create_put (name_space s) opening view handle) (λ fault is. tt) (λ none. h)
  made_fits opening view (Err fault) h = tt

  node_fits : (name parent : List ℕ) (above : Node) (node : NewNode) (life : Life) (acls : AclNames) → node_fault node ≡ None → get_node s.nodes name ≡ None → parent_of name ≡ Some parent → get_node s.nodes parent ≡ Some above → above.kind ≡ Directory → is_last s.next_instance ≡ false → misfit s.nodes (Put name (new_node s.next_instance node life acls)) ≡ None
  node_fits name parent above node life acls short absent p found kind room =
      let view : Node = new_node s.next_instance node life acls in
      put_fits s.nodes name view
      (ap (λ (o : Option (List ℕ)). option_map_or (λ x. directory_misfit (get_node s.nodes x)) o None) p ∙ (ap (λ (o : Option Node). directory_misfit o) found ∙ ap parent_kind_misfit kind))
      (limits_fit view (new_content_within node s.next_instance life acls short) (itself_not_above s.next_instance number_limit room) (new_number_within node s.next_instance life acls) refl)
      (ap (λ (o : Option Node). present_misfit o view) absent)

  module _ (client number : ℕ) (opening : Open) where
    permitted_fits : (view : Node) → (is_last s.next_instance ≡ false → misfit s.nodes (Put opening.name view) ≡ None) → Fits (create_permitted (name_space s) (caller s client) number opening view)
    permitted_fits view h =
        by_option Fits (λ (right : Right). refused (faults.Denied right)) (missing_right (name_space s) (caller s client) opening.mode view) (create_numbered (name_space s) (caller s client) number opening view) (λ right is. tt)
        (λ none. by_test Fits (is_last s.next_instance) (refused faults.Exhausted) (create_made (name_space s) opening view (new_handle (name_space s) (caller s client) number opening view)) (λ last. tt)
        (λ room. made_fits opening view (new_handle (name_space s) (caller s client) number opening view) (h room)))

    in_fits : (create : Create) (parent : List ℕ) (above : Node) (kind : Kind) → node_fault create.node ≡ None → get_node s.nodes opening.name ≡ None → parent_of opening.name ≡ Some parent → get_node s.nodes parent ≡ Some above → above.kind ≡ kind → Fits (create_in (name_space s) (caller s client) number opening create above kind)
    in_fits create parent above File short absent p found kind = tt
    in_fits create parent above Directory short absent p found kind =
        let acls = acls_of above create.acls in
        let view : Node = new_node s.next_instance create.node create.life acls in
        by_test Fits (may (name_space s) (caller s client) above rights.Write) (create_permitted (name_space s) (caller s client) number opening view) (refused (faults.Denied rights.Write))
        (λ allowed. permitted_fits view (node_fits opening.name parent above create.node create.life acls short absent p found kind)) (λ denied. tt)

    under_fits : (create : Create) (parent : List ℕ) (o : Option Node) → node_fault create.node ≡ None → get_node s.nodes opening.name ≡ None → parent_of opening.name ≡ Some parent → get_node s.nodes parent ≡ o → Fits (create_under (name_space s) (caller s client) number opening create o)
    under_fits create parent None short absent p found = tt
    under_fits create parent (Some above) short absent p found = in_fits create parent above above.kind short absent p found refl

    over_fits : (disposition : Disposition) (view : Node) → Fits (create_over (name_space s) (caller s client) number opening disposition view)
    over_fits Must view = tt
    over_fits May view = tt

    create_fits : (create : Create) → node_fault create.node ≡ None → Fits (create_effect (name_space s) (caller s client) number opening create)
    create_fits create short =
        by_option Fits (λ view. create_over (name_space s) (caller s client) number opening create.disposition view) (get_node s.nodes opening.name) (create_new (name_space s) (caller s client) number opening create) (λ view is. over_fits create.disposition view)
        (λ absent. by_option Fits (λ parent. create_under (name_space s) (caller s client) number opening create (get_node s.nodes parent)) (parent_of opening.name) (refused faults.NotFound)
        (λ parent p. under_fits create parent (get_node s.nodes parent) short absent p refl) (λ none. tt))

    sequenced_fits : (create : Create) (o : Option Fault) → Fits (create_under_sequencer (name_space s) (caller s client) number opening create o)
    sequenced_fits create (Some fault) = tt
    sequenced_fits create None =
        by_option Fits (λ (answer : CallResult). answered answer) (create_fault opening create.node) (create_effect (name_space s) (caller s client) number opening create) (λ answer is. tt)
        (λ none. create_fits create (no_first (node_fault create.node) (delay_fault opening.delay) none))

    open_fits : (sequencer : Option (List ℕ)) (o : Option Create) → Fits (open_effect (name_space s) (caller s client) number opening sequencer o)
    open_fits sequencer None = tt
    open_fits sequencer (Some create) =
        by_test Fits (is_of_cell (name_space s) opening.name) (create_under_sequencer (name_space s) (caller s client) number opening create (sequencer_fault (name_space s) sequencer)) (refused faults.OtherCell)
        (λ own. sequenced_fits create (sequencer_fault (name_space s) sequencer)) (λ other. tt)

  -- a node that stands

  again_fits : (name : List ℕ) (former view : Node) → get_node s.nodes name ≡ Some former → limit_misfit view ≡ None → present_misfit (Some former) view ≡ None → misfit s.nodes (Put name view) ≡ None
  again_fits name former view found limit present =
      put_fits s.nodes name view (stands name former found).parent limit (ap (λ (o : Option Node). present_misfit o view) found ∙ present)

  put_at_fits : (handle : Handle) (present : ℕ) (wanted : Option ℕ) (room : Option Fault) (view : Node) → (is_last present ≡ false → misfit s.nodes (Put handle.name view) ≡ None) → Fits (put_at (name_space s) handle present wanted room view)
  put_at_fits handle present wanted room view h =
      let changed : Effect = changes_to (Put handle.name view) s.next_instance results.Done in
      let put : Effect = unless room changed in
      by_test Fits (generation_fits wanted present) (cond (is_last present) (refused faults.Exhausted) put) (refused (faults.WrongGeneration present))
      (λ fits. by_test Fits (is_last present) (refused faults.Exhausted) put (λ last. tt) (λ more. by_option Fits (λ (fault : Fault). refused fault) room changed (λ fault is. tt) (λ none. h more))) (λ other. tt)

  set_fits : (handle : Handle) (content : List ℕ) (generation : Option ℕ) (view : Node) → get_node s.nodes handle.name ≡ Some view → write_fault view.kind content ≡ None → Fits (put_at (name_space s) handle view.content_generation generation (content_fault (name_space s) view content) (with_content view content))
  set_fits handle content generation view found short =
      let t = stands handle.name view found in
      put_at_fits handle view.content_generation generation (content_fault (name_space s) view content) (with_content view content)
      (λ room. again_fits handle.name view (with_content view content) found
      (limits_fit (with_content view content) (written_within view.kind content short) t.instance (next_not_above view.content_generation number_limit room) t.acl)
      (stays_itself view.instance view.kind))

  set_acl_fits : (handle : Handle) (acls : AclNames) (generation : Option ℕ) (view : Node) → get_node s.nodes handle.name ≡ Some view → Fits (put_at (name_space s) handle view.acl_generation generation None (with_acls view acls))
  set_acl_fits handle acls generation view found =
      let t = stands handle.name view found in
      put_at_fits handle view.acl_generation generation None (with_acls view acls)
      (λ room. again_fits handle.name view (with_acls view acls) found
      (limits_fit (with_acls view acls) t.content t.instance t.written (next_not_above view.acl_generation number_limit room))
      (stays_itself view.instance view.kind))

  delete_fits : (handle : Handle) (view : Node) → get_node s.nodes handle.name ≡ Some view → Fits (delete_at (name_space s) handle)
  delete_fits handle view found =
      by_test Fits (has_children s.nodes handle.name || is_none (parent_of handle.name)) (refused faults.NotEmpty) (deleted (name_space s) handle) (λ stays. tt) (gone_fits s.nodes handle.name view found)

  -- a lock changes nothing in the map

  acquire_fits : (handle : Handle) (claim : Claim) (room : Option Fault) (r : Result Acquired Fault) → Fits (acquire_by handle claim room r)
  acquire_fits handle claim (Some fault) (Ok given) = tt
  acquire_fits handle claim None (Ok (asked.Held lock)) = tt
  acquire_fits handle claim None (Ok (asked.Waits lock)) = tt
  acquire_fits handle claim room (Err fault) = tt

  try_fits : (handle : Handle) (claim : Claim) (room : Option Fault) (r : Result LockState Fault) → Fits (try_by handle claim room r)
  try_fits handle claim (Some fault) (Ok lock) = tt
  try_fits handle claim None (Ok lock) = tt
  try_fits handle claim room (Err fault) = tt

  release_fits : (handle : Handle) (r : Result Turn Fault) → Fits (release_by handle r)
  release_fits handle (Ok turn) = tt
  release_fits handle (Err fault) = tt

  -- by the call

  permitted : (handle : Handle) (right : Right) (answer : Option CallResult) → needing handle right answer ≡ None → answer ≡ None
  permitted handle right answer h =
      (elim (has_right handle.mode right) as (λ b. cond b answer (Some (results.Refused (faults.Denied right))) ≡ None → answer ≡ None) [ true ↦ (λ e. e) | false ↦ (λ e. cc) ]) h

  change_fits : (handle : Handle) (call : Call) (view : Node) → get_node s.nodes handle.name ≡ Some view → answer_on_node (name_space s) handle call view ≡ None → Fits (change_at (name_space s) s.clock handle call view)
  change_fits handle (calls.Set bytes content generation) view found none = set_fits handle content generation view found (permitted handle rights.Write (write_fault view.kind content) none)
  change_fits handle (calls.SetAcl bytes acls generation) view found none = set_acl_fits handle acls generation view found
  change_fits handle (calls.Delete bytes) view found none = delete_fits handle view found
  change_fits handle (calls.Acquire bytes mode) view found none = acquire_fits handle (claim_of handle mode) (lock_fault (name_space s) handle.client) (acquired (lock_under (name_space s) handle) (claim_of handle mode))
  change_fits handle (calls.TryAcquire bytes mode) view found none = try_fits handle (claim_of handle mode) (lock_fault (name_space s) handle.client) (tried (lock_under (name_space s) handle) (claim_of handle mode) s.clock)
  change_fits handle (calls.Release bytes) view found none = release_fits handle (released (lock_under (name_space s) handle) (owner_of handle))
  change_fits handle _ view found none = tt

  -- the node that a handle shows
  node_shown : (handle : Handle) (o : Option Node) (view : Node) → get_node s.nodes handle.name ≡ o → option_map_or (λ (v : Node). cond (v.instance == handle.instance) (Some v) None) o None ≡ Some view → get_node s.nodes handle.name ≡ Some view
  node_shown handle None view found is = cc
  node_shown handle (Some v) view found is =
      (elim (v.instance == handle.instance) as (λ b. ◌≡◌ {A = Option Node} (cond b (Some v) None) (Some view) → get_node s.nodes handle.name ≡ Some view) [
        | true ↦ (λ k. found ∙ k)
        | false ↦ (λ k. cc)
      ]) is

  unanswered : (handle : Handle) (call : Call) (view : Node) (o : Option Fault) → answer_under (name_space s) handle call view o ≡ None → answer_on_node (name_space s) handle call view ≡ None
  unanswered handle call view None none = none
  unanswered handle call view (Some fault) none = cc

  -- what would be answered at once is answered, and else the change is made
  application_fits : (handle : Handle) (call : Call) (o : Option Fault) → Fits (option_map_or (λ answer. answered answer) (option_map_or (λ view. answer_under (name_space s) handle call view o) (node_of_handle (name_space s) handle) (Some (results.Refused faults.StaleInstance))) (change_on (name_space s) s.clock handle call))
  application_fits handle call o =
      let stale : Option CallResult = Some (results.Refused faults.StaleInstance) in
      by_option Fits (λ (answer : CallResult). answered answer) (option_map_or (λ view. answer_under (name_space s) handle call view o) (node_of_handle (name_space s) handle) stale) (change_on (name_space s) s.clock handle call) (λ answer is. tt)
      (λ none. by_option Fits (λ view. change_at (name_space s) s.clock handle call view) (node_of_handle (name_space s) handle) (refused faults.StaleInstance)
      (λ view is. change_fits handle call view (node_shown handle (get_node s.nodes handle.name) view refl is)
      (unanswered handle call view o (none_of (λ v. answer_under (name_space s) handle call v o) (node_of_handle (name_space s) handle) stale view is none)))
      (λ gone. tt))

  on_fits : (handle : Handle) (call : Call) (sequencer : Option (List ℕ)) → Fits (effect_on (name_space s) s.clock handle call sequencer)
  on_fits handle (calls.Close bytes) sequencer = tt
  on_fits handle call sequencer = application_fits handle call (sequencer_fault (name_space s) sequencer)

  handle_fits : (call : Call) (sequencer : Option (List ℕ)) (o : Option Handle) → Fits (handle_effect (name_space s) s.clock call sequencer o)
  handle_fits call sequencer None = tt
  handle_fits call sequencer (Some handle) = on_fits handle call sequencer

  effect_fits : (client number : ℕ) (call : Call) (sequencer : Option (List ℕ)) → Fits (effect (name_space s) (caller s client) s.clock number call sequencer)
  unfolding effect
  effect_fits client number (calls.Open opening) sequencer = open_fits client number opening sequencer opening.create
  effect_fits client number call sequencer = handle_fits call sequencer (read_handle s.secret (bytes_of call))

  change_is : (o : Option Change) (change : Mod) → FitsIf o → option_map (λ (c : Change). c.change) o ≡ Some change → misfit s.nodes change ≡ None
  change_is None change h is = cc
  change_is (Some c) change h is = let same : c.change ≡ change = cc in subst (λ (m : Mod). misfit s.nodes m ≡ None) same h

  -- the change that a call is
  pub call_fits : (client number : ℕ) (call : Call) (sequencer : Option (List ℕ)) (change : Mod) → change_of (effect (name_space s) (caller s client) s.clock number call sequencer) ≡ Some change → misfit s.nodes change ≡ None
  call_fits client number call sequencer change is = change_is (effect (name_space s) (caller s client) s.clock number call sequencer).change change (effect_fits client number call sequencer) is
