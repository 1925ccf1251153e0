-- What is within the limits stays so, and what is above them doesn't grow.
use Rattle.std.proofs.Common.{◌≡◌, ℕ, ◌+◌, ◌-◌, ◌≤◌, ◌⊎◌, inl, inr, List, [], ◌∷◌, length, Bool, true, false, cond, Option, Some, None, Result, Ok, Err, refl, sym, ap, subst, ◌∙◌, arith}
use Rattle.std.specs.Prelude.{◌||◌, ◌==◌, nat_le, is_none, unwrap_or}
use Rattle.std.specs.Option.{option_map, option_map_or, option_or}
use Rattle.std.specs.List.{sum_by}
use Rattle.std.specs.List.Sorted.{IsStrictlySortedBy}
use Rattle.std.specs.Map.{keys_of, lookup, remove_entry, values_of}
use Rattle.std.specs.BTreeMap.{is_at, insert_entry}
use Rattle.std.specs.Ordering.{nat_cmp}
use Rattle.std.specs.Cmp.Lexicographic.{slice_cmp, nat_list_cmp_total}
use Rattle.std.proofs.lemmas.Bool.Decides.{nat_tests}
use Rattle.std.proofs.lemmas.List.Sums.{sum_by-cons}
use Rattle.std.proofs.lemmas.Map.Entries.{length-values_of, sum_by-insert_entry, sum_by-remove_entry}
use Rattle.names_cell.specs.Text.{parent_of}
use Rattle.node_core.specs.declared.refusals.Fault.{Fault}
use Rattle.node_core.specs.declared.refusals.Fault.TheVariants as faults
use Rattle.node_core.specs.declared.nodes.Node.{Node}
use Rattle.node_core.specs.declared.views.Mod.TheVariants.{Put}
use Rattle.node_core.specs.declared.kinds.Kind.{Kind}
use Rattle.node_core.specs.declared.kinds.Kind.TheVariants.{File, Directory}
use Rattle.node_core.specs.declared.kinds.Right.TheVariants as rights
use Rattle.node_core.specs.Nodes.{Nodes, get_node, has_children}
use Rattle.node_core.specs.Room.{content_length, content_bytes, has_room, room_fault}
use Rattle.tags_cell.specs.Handles.{read_handle}
use Rattle.tags_cell.specs.declared.handles.Handle.{Handle}
use Rattle.tags_cell.specs.declared.messages.calls.Open.{Open}
use Rattle.tags_cell.specs.declared.messages.calls.Create.{Create}
use Rattle.tags_cell.specs.declared.messages.calls.Disposition.{Disposition}
use Rattle.tags_cell.specs.declared.messages.calls.Disposition.TheVariants.{May, Must}
use Rattle.tags_cell.specs.declared.messages.calls.Call.{Call}
use Rattle.tags_cell.specs.declared.messages.calls.Call.TheVariants as calls
use Rattle.tags_cell.specs.declared.messages.outs.CallResult.{CallResult}
use Rattle.tags_cell.specs.declared.messages.outs.CallResult.TheVariants as results
use Rattle.lock_core.specs.declared.claims.Claim.{Claim}
use Rattle.lock_core.specs.declared.turns.Turn.{Turn}
use Rattle.lock_core.specs.declared.turns.Acquired.{Acquired}
use Rattle.lock_core.specs.declared.turns.Acquired.TheVariants as asked
use Rattle.lock_core.specs.State.{LockState}
use Rattle.lock_core.specs.Turns.{is_of_client, tried, acquired, released, closed_by}
use Rattle.lock_core.specs.Locks.{lock_at, with_lock}
use Rattle.lock_core.specs.Counted.{claims_in, claim_count}
use Rattle.lock_core.proofs.ClaimTurns.{one_where, one_at_most, counted_lock, counted_gone, GrowsTo, GrowsAt, GrowsBy, GrowsIn, acquired_grows, tried_grows, Shrinks, ShrinksBy, ShrinksIn, released_shrinks, closed_shrinks}
use Rattle.master_parts.specs.declared.handles.HandleNote.{HandleNote}
use Rattle.master_parts.specs.Keys.{key_of}
use Rattle.master_parts.specs.Claims.{owner_of, claim_of}
use Rattle.master_parts.specs.Calls.{create_fault, bytes_of}
use Rattle.master_state.specs.NameSpace.{Caller, name_space, caller}
use Rattle.master_state.specs.State.{MasterState}
use Rattle.master_state.specs.Lookups.{may, missing_right, is_of_cell, sequencer_fault, lock_under, node_of_handle, new_handle, open_present, plain_open, opened_answer, opened_note, answer_on}
use Rattle.cell_core.specs.declared.effects.Effect.{Effect}
use Rattle.cell_core.specs.declared.effects.Locking.TheVariants as lockings
use Rattle.cell_core.specs.Effect.{answered, closed_state, refused, changes_to, is_last, new_node_fault, content_fault, lock_fault, new_node, acls_of, unless, opened_effect, create_put, create_made, create_numbered, create_permitted, create_in, create_under, create_new, create_over, create_effect, create_under_sequencer, open_effect, lock_taken, acquired_by, acquire_by, try_by, release_by, close_by, close_under, generation_fits, with_content, with_acls, put_at, deleted, change_at, change_on, effect_on, handle_effect, effect}
use Rattle.cell_core.specs.Room.{IsWithin, KeepsWithin}

-- ---- numbers

-- there is room for so much more, and no more than that comes
room_kept : (limit held growth after : ℕ) → has_room limit held growth ≡ true → after ≤ held + growth → (after ≤ limit) ⊎ (after ≤ held)
room_kept limit held growth after h le =
    (elim (growth == 0) as (λ b. (growth == 0) ≡ b → (b || nat_le (held + growth) limit) ≡ true → (after ≤ limit) ⊎ (after ≤ held)) [
      | true ↦ (λ none k. let zero_growth : growth ≡ 0 = grind (arith, nat_tests) in inr (omega arith))
      | false ↦ (λ some k. let fits : held + growth ≤ limit = grind (arith, nat_tests) in inl (omega arith))
    ]) refl h

within : (limit : Option ℕ) (held growth after : ℕ) → room_fault limit held growth ≡ None → after ≤ held + growth → IsWithin limit held after
within None held growth after h le = tt
within (Some limit) held growth after h le =
    (elim (has_room limit held growth) as (λ b. has_room limit held growth ≡ b → cond b None (Some (faults.NoRoom limit)) ≡ None → (after ≤ limit) ⊎ (after ≤ held)) [
      | true ↦ (λ room k. room_kept limit held growth after room le)
      | false ↦ (λ full k. cc)
    ]) refl h

pub not_more : (limit : Option ℕ) (held after : ℕ) → after ≤ held → IsWithin limit held after
not_more None held after le = tt
not_more (Some limit) held after le = inr le

-- ---- maps

ones : {X : Type 0} (xs : List X) → sum_by (λ x. 1) xs ≡ length xs
ones [] = refl
ones {X} (x ∷ xs) = let rest = ones xs in let whole = sum_by-cons (λ (y : X). 1) x xs in omega (arith, rest, whole)

abbrev as_one : Node → ℕ
as_one node = 1

count_is : (nodes : Nodes) → sum_by as_one (values_of nodes) ≡ length nodes
count_is nodes = ones (values_of nodes) ∙ length-values_of nodes

abbrev here : List ℕ → Nodes → Option Node
here name nodes = lookup (is_at (slice_cmp nat_cmp name)) nodes

put_count : (nodes : Nodes) (name : List ℕ) (node : Node) → IsStrictlySortedBy (slice_cmp nat_cmp) (keys_of nodes) → length (insert_entry (slice_cmp nat_cmp) nodes name node) + unwrap_or (option_map as_one (here name nodes)) 0 ≡ length nodes + 1
put_count nodes name node ordered =
    let all = sum_by-insert_entry as_one nat_list_cmp_total nodes name node ordered in
    omega (arith, all, count_is nodes, count_is (insert_entry (slice_cmp nat_cmp) nodes name node))

put_bytes : (nodes : Nodes) (name : List ℕ) (node : Node) → IsStrictlySortedBy (slice_cmp nat_cmp) (keys_of nodes)
    → content_bytes (insert_entry (slice_cmp nat_cmp) nodes name node) + unwrap_or (option_map content_length (here name nodes)) 0 ≡ content_bytes nodes + content_length node
put_bytes nodes name node ordered = sum_by-insert_entry content_length nat_list_cmp_total nodes name node ordered

pub gone_count : (nodes : Nodes) (name : List ℕ) → length (remove_entry (is_at (slice_cmp nat_cmp name)) nodes) ≤ length nodes
gone_count nodes name =
    let all = sum_by-remove_entry as_one (is_at (slice_cmp nat_cmp name)) nodes in
    omega (arith, all, count_is nodes, count_is (remove_entry (is_at (slice_cmp nat_cmp name)) nodes))

pub gone_bytes : (nodes : Nodes) (name : List ℕ) → content_bytes (remove_entry (is_at (slice_cmp nat_cmp name)) nodes) ≤ content_bytes nodes
gone_bytes nodes name = let all = sum_by-remove_entry content_length (is_at (slice_cmp nat_cmp name)) nodes in omega (arith, all)

-- a node that is put where one stands, with so many bytes more at most
over_bytes : (nodes : Nodes) (name : List ℕ) (node former : Node) → IsStrictlySortedBy (slice_cmp nat_cmp) (keys_of nodes) → get_node nodes name ≡ Some former → content_bytes (insert_entry (slice_cmp nat_cmp) nodes name node) ≤ content_bytes nodes + (content_length node - content_length former)
over_bytes nodes name node former ordered there =
    let all = put_bytes nodes name node ordered in
    let was : unwrap_or (option_map content_length (here name nodes)) 0 ≡ content_length former = ap (λ o. unwrap_or (option_map content_length o) 0) there in
    omega (arith, all, was)

over_count : (nodes : Nodes) (name : List ℕ) (node former : Node) → IsStrictlySortedBy (slice_cmp nat_cmp) (keys_of nodes) → get_node nodes name ≡ Some former → length (insert_entry (slice_cmp nat_cmp) nodes name node) ≤ length nodes
over_count nodes name node former ordered there =
    let all = put_count nodes name node ordered in
    let was : unwrap_or (option_map as_one (here name nodes)) 0 ≡ 1 = ap (λ o. unwrap_or (option_map as_one o) 0) there in
    omega (arith, all, was)

-- ---- by what is tested

module _ (s : MasterState) (ordered : IsStrictlySortedBy (slice_cmp nat_cmp) (keys_of s.nodes)) (sorted : IsStrictlySortedBy nat_cmp (keys_of s.locks)) where
  abbrev pub Keeps : Effect → Type 0
  Keeps done = KeepsWithin (name_space s) done

  same_nodes : IsWithin s.limits.max_nodes (length s.nodes) (length s.nodes)
  same_nodes = not_more s.limits.max_nodes (length s.nodes) (length s.nodes) (omega arith)

  same_bytes : IsWithin s.limits.max_bytes (content_bytes s.nodes) (content_bytes s.nodes)
  same_bytes = not_more s.limits.max_bytes (content_bytes s.nodes) (content_bytes s.nodes) (omega arith)

  same_locks : (client : ℕ) → IsWithin s.limits.max_locks (claim_count client s.locks) (claim_count client s.locks)
  same_locks client = not_more s.limits.max_locks (claim_count client s.locks) (claim_count client s.locks) (omega arith)

  -- an answer that changes neither the map nor a lock
  kept_by : (note : Option HandleNote) (answer : Option CallResult) → Keeps (record { note = note; change = None; locking = lockings.Nothing; answer = answer })
  kept_by mark answer = record { nodes = same_nodes; bytes = same_bytes; locks = same_locks }

  either : (b : Bool) (x y : Effect) → Keeps x → Keeps y → Keeps (cond b x y)
  either true x y h k = h
  either false x y h k = k

  by_option : {X : Type 0} (o : Option X) (f : X → Effect) (y : Effect) → ((x : X) → o ≡ Some x → Keeps (f x)) → (o ≡ None → Keeps y) → Keeps (option_map_or f o y)
  by_option None f y h k = k refl
  by_option (Some x) f y h k = h x refl

  answers : (answer : CallResult) → Keeps (answered answer)
  answers answer = kept_by None (Some answer)

  refuses : (fault : Fault) → Keeps (refused fault)
  refuses fault = answers (results.Refused fault)

  opens : (opened : Result Handle Fault) → Keeps (opened_effect (name_space s) opened)
  opens opened = kept_by (opened_note (name_space s) opened) (Some (opened_answer (name_space s) opened))

  unless_full : (room : Option Fault) (x : Effect) → (room ≡ None → Keeps x) → Keeps (unless room x)
  unless_full room x h = by_option room (λ fault. refused fault) x (λ fault found. refuses fault) h

  or_both : (a b : Option Fault) → option_or a b ≡ None → (a ≡ None) × (b ≡ None)
  or_both None b h = (refl, h)
  or_both (Some fault) b h = cc

  -- ---- creates

  put_new : (opening : Open) (node : Node) (handle : Handle) → new_node_fault (name_space s) node ≡ None → Keeps (create_put (name_space s) opening node handle)
  put_new opening node handle room =
      let both = or_both (room_fault s.limits.max_nodes (length s.nodes) 1) (room_fault s.limits.max_bytes (content_bytes s.nodes) (content_length node)) room in
      let count = put_count s.nodes opening.name node ordered in
      let bytes = put_bytes s.nodes opening.name node ordered in
      record {
        nodes = within s.limits.max_nodes (length s.nodes) 1 (length (insert_entry (slice_cmp nat_cmp) s.nodes opening.name node)) both.0 (omega (arith, count));
        bytes = within s.limits.max_bytes (content_bytes s.nodes) (content_length node) (content_bytes (insert_entry (slice_cmp nat_cmp) s.nodes opening.name node)) both.1 (omega (arith, bytes));
        locks = same_locks;
      }

  made : (opening : Open) (node : Node) (opened : Result Handle Fault) → Keeps (create_made (name_space s) opening node opened)
  made opening node (Err fault) = refuses fault
  made opening node (Ok handle) = unless_full (new_node_fault (name_space s) node) (create_put (name_space s) opening node handle) (put_new opening node handle)

  by_kind : (who : Caller) (number : ℕ) (opening : Open) (create : Create) (above : Node) (kind : Kind) → Keeps (create_in (name_space s) who number opening create above kind)
  by_kind who number opening create above File = refuses (faults.WrongKind File)
  by_kind who number opening create above Directory =
      let node : Node = new_node s.next_instance create.node create.life (acls_of above create.acls) in
      let opened = new_handle (name_space s) who number opening node in
      either (may (name_space s) who above rights.Write) (create_permitted (name_space s) who number opening node) (refused (faults.Denied rights.Write))
      (by_option (missing_right (name_space s) who opening.mode node) (λ right. refused (faults.Denied right)) (create_numbered (name_space s) who number opening node) (λ right found. refuses (faults.Denied right))
      (λ none. either (is_last s.next_instance) (refused faults.Exhausted) (create_made (name_space s) opening node opened) (refuses faults.Exhausted) (made opening node opened)))
      (refuses (faults.Denied rights.Write))

  under : (who : Caller) (number : ℕ) (opening : Open) (create : Create) (o : Option Node) → Keeps (create_under (name_space s) who number opening create o)
  under who number opening create None = refuses faults.NotFound
  under who number opening create (Some above) = by_kind who number opening create above above.kind

  over : (who : Caller) (number : ℕ) (opening : Open) (disposition : Disposition) (node : Node) → Keeps (create_over (name_space s) who number opening disposition node)
  over who number opening Must node = refuses faults.Exists
  over who number opening May node = opens (open_present (name_space s) who number opening node)

  created : (who : Caller) (number : ℕ) (opening : Open) (create : Create) → Keeps (create_effect (name_space s) who number opening create)
  created who number opening create =
      by_option (get_node s.nodes opening.name) (λ node. create_over (name_space s) who number opening create.disposition node) (create_new (name_space s) who number opening create) (λ node found. over who number opening create.disposition node)
      (λ none. by_option (parent_of opening.name) (λ parent. create_under (name_space s) who number opening create (get_node s.nodes parent)) (refused faults.NotFound) (λ parent found. under who number opening create (get_node s.nodes parent)) (λ absent. refuses faults.NotFound))

  sequenced : (who : Caller) (number : ℕ) (opening : Open) (create : Create) (o : Option Fault) → Keeps (create_under_sequencer (name_space s) who number opening create o)
  sequenced who number opening create (Some fault) = refuses fault
  sequenced who number opening create None =
      by_option (create_fault opening create.node) (λ answer. answered answer) (create_effect (name_space s) who number opening create) (λ answer found. answers answer) (λ none. created who number opening create)

  opened : (who : Caller) (number : ℕ) (opening : Open) (sequencer : Option (List ℕ)) (o : Option Create) → Keeps (open_effect (name_space s) who number opening sequencer o)
  opened who number opening sequencer None = opens (plain_open (name_space s) who number opening)
  opened who number opening sequencer (Some create) =
      let fault = sequencer_fault (name_space s) sequencer in
      either (is_of_cell (name_space s) opening.name) (create_under_sequencer (name_space s) who number opening create fault) (refused faults.OtherCell) (sequenced who number opening create fault) (refuses faults.OtherCell)

  -- ---- calls on a handle

  put_over : (handle : Handle) (present : ℕ) (wanted : Option ℕ) (room : Option Fault) (node : Node) → (room ≡ None → Keeps (changes_to (Put handle.name node) s.next_instance results.Done)) → Keeps (put_at (name_space s) handle present wanted room node)
  put_over handle present wanted room node h =
      let done : Effect = changes_to (Put handle.name node) s.next_instance results.Done in
      either (generation_fits wanted present) (cond (is_last present) (refused faults.Exhausted) (unless room done)) (refused (faults.WrongGeneration present))
      (either (is_last present) (refused faults.Exhausted) (unless room done) (refuses faults.Exhausted) (unless_full room done h)) (refuses (faults.WrongGeneration present))

  written : (handle : Handle) (content : List ℕ) (node : Node) → get_node s.nodes handle.name ≡ Some node → content_fault (name_space s) node content ≡ None → Keeps (changes_to (Put handle.name (with_content node content)) s.next_instance results.Done)
  written handle content node there room =
      let new : Node = with_content node content in
      record {
        nodes = not_more s.limits.max_nodes (length s.nodes) (length (insert_entry (slice_cmp nat_cmp) s.nodes handle.name new)) (over_count s.nodes handle.name new node ordered there);
        bytes = within s.limits.max_bytes (content_bytes s.nodes) (length content - content_length node) (content_bytes (insert_entry (slice_cmp nat_cmp) s.nodes handle.name new)) room (over_bytes s.nodes handle.name new node ordered there);
        locks = same_locks;
      }

  -- the content stays
  listed : (handle : Handle) (node new : Node) → get_node s.nodes handle.name ≡ Some node → content_length new ≡ content_length node → Keeps (changes_to (Put handle.name new) s.next_instance results.Done)
  listed handle node new there same =
      let bytes = over_bytes s.nodes handle.name new node ordered there in
      record {
        nodes = not_more s.limits.max_nodes (length s.nodes) (length (insert_entry (slice_cmp nat_cmp) s.nodes handle.name new)) (over_count s.nodes handle.name new node ordered there);
        bytes = not_more s.limits.max_bytes (content_bytes s.nodes) (content_bytes (insert_entry (slice_cmp nat_cmp) s.nodes handle.name new)) (omega (arith, bytes, same));
        locks = same_locks;
      }

  taken_away : (handle : Handle) → Keeps (deleted (name_space s) handle)
  taken_away handle = record {
    nodes = not_more s.limits.max_nodes (length s.nodes) (length (remove_entry (is_at (slice_cmp nat_cmp handle.name)) s.nodes)) (gone_count s.nodes handle.name);
    bytes = not_more s.limits.max_bytes (content_bytes s.nodes) (content_bytes (remove_entry (is_at (slice_cmp nat_cmp handle.name)) s.nodes)) (gone_bytes s.nodes handle.name);
    locks = λ client. not_more s.limits.max_locks (claim_count client s.locks) (claim_count client (remove_entry (is_at (nat_cmp handle.instance)) s.locks)) (counted_gone client s.locks handle.instance);
  }

  -- a lock of which nobody has more
  left : (instance : ℕ) (new : LockState) → Shrinks (lock_at s.locks instance) new → (client : ℕ) → IsWithin s.limits.max_locks (claim_count client s.locks) (claim_count client (with_lock s.locks instance new))
  left instance new less client =
      let all = counted_lock client s.locks instance new sorted in
      let fewer = less client in
      not_more s.limits.max_locks (claim_count client s.locks) (claim_count client (with_lock s.locks instance new)) (omega (arith, all, fewer))

  -- a lock that the handle's client asked for
  asked_for : (handle : Handle) (claim : Claim) (new : LockState) → claim.owner.client ≡ handle.client → lock_fault (name_space s) handle.client ≡ None → GrowsTo (lock_at s.locks handle.instance) claim new
      → (client : ℕ) → IsWithin s.limits.max_locks (claim_count client s.locks) (claim_count client (with_lock s.locks handle.instance new))
  asked_for handle claim new own room grows client =
      (elim (is_of_client client claim.owner) as (λ b. is_of_client client claim.owner ≡ b → IsWithin s.limits.max_locks (claim_count client s.locks) (claim_count client (with_lock s.locks handle.instance new))) [
        | true ↦ (λ is.
            let same : claim.owner.client ≡ client = grind (arith, nat_tests) in
            let P : ℕ → Type 0 = λ c. IsWithin s.limits.max_locks (claim_count c s.locks) (claim_count c (with_lock s.locks handle.instance new)) in
            let all = counted_lock handle.client s.locks handle.instance new sorted in
            let more = grows handle.client in
            let one = one_at_most (is_of_client handle.client claim.owner) in
            subst P (sym own ∙ same) (within s.limits.max_locks (claim_count handle.client s.locks) 1 (claim_count handle.client (with_lock s.locks handle.instance new)) room (omega (arith, all, more, one))))
        | false ↦ (λ is.
            let none : one_where (is_of_client client claim.owner) ≡ 0 = ap one_where is in
            let all = counted_lock client s.locks handle.instance new sorted in
            let more = grows client in
            not_more s.limits.max_locks (claim_count client s.locks) (claim_count client (with_lock s.locks handle.instance new)) (omega (arith, all, more, none)))
      ]) refl

  got : (handle : Handle) (claim : Claim) (given : Acquired) → claim.owner.client ≡ handle.client → lock_fault (name_space s) handle.client ≡ None → GrowsAt (lock_under (name_space s) handle) claim given → Keeps (acquired_by handle claim given)
  got handle claim (asked.Held lock) own room grows = record { nodes = same_nodes; bytes = same_bytes; locks = asked_for handle claim lock own room grows }
  got handle claim (asked.Waits lock) own room grows = record { nodes = same_nodes; bytes = same_bytes; locks = asked_for handle claim lock own room grows }

  acquires : (handle : Handle) (claim : Claim) (r : Result Acquired Fault) → claim.owner.client ≡ handle.client → GrowsBy (lock_under (name_space s) handle) claim r → Keeps (acquire_by handle claim (lock_fault (name_space s) handle.client) r)
  acquires handle claim (Ok given) own grows = unless_full (lock_fault (name_space s) handle.client) (acquired_by handle claim given) (λ none. got handle claim given own none grows)
  acquires handle claim (Err fault) own grows = refuses fault

  tries : (handle : Handle) (claim : Claim) (r : Result LockState Fault) → claim.owner.client ≡ handle.client → GrowsIn (lock_under (name_space s) handle) claim r → Keeps (try_by handle claim (lock_fault (name_space s) handle.client) r)
  tries handle claim (Ok lock) own grows =
      unless_full (lock_fault (name_space s) handle.client) (lock_taken handle claim lock) (λ none. record { nodes = same_nodes; bytes = same_bytes; locks = asked_for handle claim lock own none grows })
  tries handle claim (Err fault) own grows = refuses fault

  releases : (handle : Handle) (r : Result Turn Fault) → ShrinksBy (lock_under (name_space s) handle) r → Keeps (release_by handle r)
  releases handle (Ok turn) less = record { nodes = same_nodes; bytes = same_bytes; locks = left handle.instance turn.lock less }
  releases handle (Err fault) less = refuses fault

  closes_lock : (handle : Handle) (note : Option HandleNote) (o : Option Turn) → ShrinksIn (lock_under (name_space s) handle) o → Keeps (record { note = note; change = None; locking = close_by (name_space s) handle o; answer = Some results.Closed })
  closes_lock handle mark None less = kept_by mark (Some results.Closed)
  closes_lock handle mark (Some turn) less = record { nodes = same_nodes; bytes = same_bytes; locks = left handle.instance turn.lock less }

  closes : (handle : Handle) (note : Option HandleNote) (o : Option Node) → Keeps (record { note = note; change = None; locking = close_under (name_space s) handle o; answer = Some results.Closed })
  closes handle mark None = kept_by mark (Some results.Closed)
  closes handle mark (Some node) = closes_lock handle mark (closed_by (lock_under (name_space s) handle) (owner_of handle)) (closed_shrinks (lock_under (name_space s) handle) (owner_of handle))

  on_node : (handle : Handle) (call : Call) (node : Node) → get_node s.nodes handle.name ≡ Some node → Keeps (change_at (name_space s) s.clock handle call node)
  on_node handle (calls.Set bytes content generation) node there =
      put_over handle node.content_generation generation (content_fault (name_space s) node content) (with_content node content) (written handle content node there)
  on_node handle (calls.SetAcl bytes acls generation) node there = put_over handle node.acl_generation generation None (with_acls node acls) (λ none. listed handle node (with_acls node acls) there refl)
  on_node handle (calls.Delete bytes) node there =
      either (has_children s.nodes handle.name || is_none (parent_of handle.name)) (refused faults.NotEmpty) (deleted (name_space s) handle) (refuses faults.NotEmpty) (taken_away handle)
  on_node handle (calls.Acquire bytes mode) node there = acquires handle (claim_of handle mode) (acquired (lock_under (name_space s) handle) (claim_of handle mode)) refl (acquired_grows (lock_under (name_space s) handle) (claim_of handle mode))
  on_node handle (calls.TryAcquire bytes mode) node there = tries handle (claim_of handle mode) (tried (lock_under (name_space s) handle) (claim_of handle mode) s.clock) refl (tried_grows (lock_under (name_space s) handle) (claim_of handle mode) s.clock)
  on_node handle (calls.Release bytes) node there = releases handle (released (lock_under (name_space s) handle) (owner_of handle)) (released_shrinks (lock_under (name_space s) handle) (owner_of handle))
  on_node handle (calls.Open opening) node there = refuses faults.BadHandle
  on_node handle (calls.Close bytes) node there = refuses faults.BadHandle
  on_node handle (calls.Read bytes) node there = refuses faults.BadHandle
  on_node handle (calls.Stat bytes) node there = refuses faults.BadHandle
  on_node handle (calls.List bytes) node there = refuses faults.BadHandle
  on_node handle (calls.GetSequencer bytes) node there = refuses faults.BadHandle
  on_node handle (calls.SetSequencer bytes) node there = refuses faults.BadHandle
  on_node handle (calls.CheckSequencer bytes) node there = refuses faults.BadHandle
  on_node handle calls.Leave node there = refuses faults.BadHandle

  -- the node of the handle's instance is that of its name
  at_name : (handle : Handle) (node : Node) (o : Option Node) → option_map_or (λ n. cond (n.instance == handle.instance) (Some n) None) o None ≡ Some node → o ≡ Some node
  at_name handle node None h = cc
  at_name handle node (Some found) h =
      (elim (found.instance == handle.instance) as (λ b. cond b (Some found) None ≡ Some node → Some found ≡ Some node) [
        | true ↦ (λ k. k)
        | false ↦ (λ k. cc)
      ]) h

  on_handle : (handle : Handle) (call : Call) (o : Option CallResult) → Keeps (option_map_or (λ answer. answered answer) o (change_on (name_space s) s.clock handle call))
  on_handle handle call o =
      by_option o (λ answer. answered answer) (change_on (name_space s) s.clock handle call) (λ answer found. answers answer)
      (λ none. by_option (node_of_handle (name_space s) handle) (λ node. change_at (name_space s) s.clock handle call node) (refused faults.StaleInstance)
      (λ node there. on_node handle call node (at_name handle node (get_node s.nodes handle.name) there)) (λ gone. refuses faults.StaleInstance))

  by_call : (handle : Handle) (call : Call) (sequencer : Option (List ℕ)) → Keeps (effect_on (name_space s) s.clock handle call sequencer)
  by_call handle (calls.Close bytes) sequencer = closes handle (Some (record { key = key_of handle; state = closed_state (name_space s) handle })) (node_of_handle (name_space s) handle)
  by_call handle call sequencer = on_handle handle call (answer_on (name_space s) handle call sequencer)

  by_handle : (call : Call) (sequencer : Option (List ℕ)) (o : Option Handle) → Keeps (handle_effect (name_space s) s.clock call sequencer o)
  by_handle call sequencer None = refuses faults.BadHandle
  by_handle call sequencer (Some handle) = by_call handle call sequencer

  pub limits_hold : (client number : ℕ) (call : Call) (sequencer : Option (List ℕ)) → Keeps (effect (name_space s) (caller s client) s.clock number call sequencer)
  unfolding effect
  limits_hold client number (calls.Open opening) sequencer = opened (caller s client) number opening sequencer opening.create
  limits_hold client number call sequencer = by_handle call sequencer (read_handle s.secret (bytes_of call))
