-- A limit refuses what it leaves no room for, and changes nothing else.
use Rattle.std.proofs.Common.{◌≡◌, ℕ, ◌-◌, List, length, Bool, true, false, cond, Option, Some, None, Result, Ok, Err, refl, sym, ap, ◌∙◌}
use Rattle.std.specs.Prelude.{is_none}
use Rattle.std.specs.Option.{option_map_or, option_or}
use Rattle.names_cell.specs.Text.{parent_of}
use Rattle.node_core.specs.declared.refusals.Fault.{Fault}
use Rattle.node_core.specs.declared.refusals.Fault.TheVariants as faults
use Rattle.node_core.specs.declared.nodes.Node.{Node}
use Rattle.node_core.specs.declared.views.Mod.TheVariants.{Put}
use Rattle.node_core.specs.declared.kinds.Kind.{Kind}
use Rattle.node_core.specs.declared.kinds.Kind.TheVariants.{File, Directory}
use Rattle.node_core.specs.declared.kinds.Right.TheVariants as rights
use Rattle.node_core.specs.Nodes.{get_node}
use Rattle.node_core.specs.Room.{content_length, content_bytes, has_room, room_fault}
use Rattle.tags_cell.specs.Handles.{read_handle}
use Rattle.tags_cell.specs.declared.handles.Handle.{Handle}
use Rattle.tags_cell.specs.declared.messages.calls.Open.{Open}
use Rattle.tags_cell.specs.declared.messages.calls.Create.{Create}
use Rattle.tags_cell.specs.declared.messages.calls.Disposition.{Disposition}
use Rattle.tags_cell.specs.declared.messages.calls.Disposition.TheVariants.{May, Must}
use Rattle.tags_cell.specs.declared.messages.calls.Call.{Call}
use Rattle.tags_cell.specs.declared.messages.calls.Call.TheVariants as calls
use Rattle.tags_cell.specs.declared.messages.outs.CallResult.{CallResult}
use Rattle.tags_cell.specs.declared.messages.outs.CallResult.TheVariants as results
use Rattle.lock_core.specs.declared.claims.Claim.{Claim}
use Rattle.lock_core.specs.declared.turns.Acquired.{Acquired}
use Rattle.lock_core.specs.State.{LockState}
use Rattle.lock_core.specs.Turns.{tried, acquired}
use Rattle.lock_core.specs.Counted.{claim_count}
use Rattle.master_parts.specs.Claims.{claim_of}
use Rattle.master_parts.specs.Calls.{create_fault, bytes_of}
use Rattle.master_state.specs.NameSpace.{NameSpace, Caller, name_space, caller}
use Rattle.master_state.specs.State.{MasterState}
use Rattle.master_state.specs.Lookups.{may, missing_right, is_of_cell, sequencer_fault, lock_under, node_of_handle, new_handle, answer_on}
use Rattle.cell_core.specs.declared.effects.Effect.{Effect}
use Rattle.cell_core.specs.Effect.{answered, refused, changes_to, is_last, new_node, acls_of, content_of, unless, create_put, create_made, create_numbered, create_permitted, create_in, create_under, create_new, create_over, create_effect, create_tested, create_under_sequencer, create_here, open_effect, lock_taken, acquired_by, acquire_by, try_by, generation_fits, with_content, change_at, change_on, effect_on, handle_effect, effect}
use Rattle.cell_core.specs.Room.{nodes_added, growth_on, bytes_added, locks_added, unlimited, IsLimited, Free, NodesFull, BytesFull, LocksFull}

module _ (space : NameSpace) (call : Call) where
  -- ---- by what is tested

  either : (b : Bool) (x y v w : Effect) → IsLimited space call x v → IsLimited space call y w → IsLimited space call (cond b x y) (cond b v w)
  either true x y v w h k = h
  either false x y v w h k = k

  by_option : {X : Type 0} (o : Option X) (f g : X → Effect) (y w : Effect) → ((x : X) → o ≡ Some x → IsLimited space call (f x) (g x)) → (o ≡ None → IsLimited space call y w) → IsLimited space call (option_map_or f o y) (option_map_or g o w)
  by_option None f g y w h k = k refl
  by_option (Some x) f g y w h k = h x refl

  -- ---- by a limit

  bytes_by : (limit : Option ℕ) (growth : ℕ) (x : Effect) → space.limits.max_bytes ≡ limit → growth ≡ bytes_added space call → IsLimited space call (unless (room_fault limit (content_bytes space.nodes) growth) x) x
  bytes_by None growth x is same = Free refl
  bytes_by (Some limit) growth x is same =
      (elim (has_room limit (content_bytes space.nodes) growth) as (λ b. has_room limit (content_bytes space.nodes) growth ≡ b → IsLimited space call (unless (cond b None (Some (faults.NoRoom limit))) x) x) [
        | true ↦ (λ h. Free refl)
        | false ↦ (λ h. BytesFull limit is (ap (λ n. has_room limit (content_bytes space.nodes) n) (sym same) ∙ h) refl)
      ]) refl

  node_by : (nodes bytes : Option ℕ) (growth : ℕ) (x : Effect) → space.limits.max_nodes ≡ nodes → space.limits.max_bytes ≡ bytes → nodes_added space call ≡ 1 → growth ≡ bytes_added space call
      → IsLimited space call (unless (option_or (room_fault nodes (length space.nodes) 1) (room_fault bytes (content_bytes space.nodes) growth)) x) x
  node_by None bytes growth x is also one same = bytes_by bytes growth x also same
  node_by (Some limit) bytes growth x is also one same =
      (elim (has_room limit (length space.nodes) 1) as (λ b. has_room limit (length space.nodes) 1 ≡ b → IsLimited space call (unless (option_or (cond b None (Some (faults.NoRoom limit))) (room_fault bytes (content_bytes space.nodes) growth)) x) x) [
        | true ↦ (λ h. bytes_by bytes growth x also same)
        | false ↦ (λ h. NodesFull limit is (ap (λ n. has_room limit (length space.nodes) n) one ∙ h) refl)
      ]) refl

  lock_by : (limit : Option ℕ) (handle : Handle) (x : Effect) → space.limits.max_locks ≡ limit → read_handle space.secret (bytes_of call) ≡ Some handle → locks_added call ≡ 1
      → IsLimited space call (unless (room_fault limit (claim_count handle.client space.locks) 1) x) x
  lock_by None handle x is shown one = Free refl
  lock_by (Some limit) handle x is shown one =
      (elim (has_room limit (claim_count handle.client space.locks) 1) as (λ b. has_room limit (claim_count handle.client space.locks) 1 ≡ b → IsLimited space call (unless (cond b None (Some (faults.NoRoom limit))) x) x) [
        | true ↦ (λ h. Free refl)
        | false ↦ (λ h. LocksFull limit handle is shown (ap (λ n. has_room limit (claim_count handle.client space.locks) n) one ∙ h) refl)
      ]) refl

-- ---- creates

module _ (space : NameSpace) (who : Caller) (number : ℕ) (opening : Open) (create : Create) (is : opening.create ≡ Some create) where
  abbrev Limited : Effect → Effect → Type 0
  Limited done free = IsLimited space (calls.Open opening) done free

  abbrev one_where : Option Node → ℕ
  one_where o = cond (is_none o) 1 0

  one_added : get_node space.nodes opening.name ≡ None → nodes_added space (calls.Open opening) ≡ 1
  one_added absent = ap (λ (o : Option Create). option_map_or (λ c. one_where (get_node space.nodes opening.name)) o 0) is ∙ ap one_where absent

  content_added : length (content_of create.node) ≡ bytes_added space (calls.Open opening)
  content_added = sym (ap (λ (o : Option Create). option_map_or (λ c. length (content_of c.node)) o 0) is)

  made : get_node space.nodes opening.name ≡ None → (node : Node) → content_length node ≡ length (content_of create.node) → (opened : Result Handle Fault)
      → Limited (create_made space opening node opened) (create_made (unlimited space) opening node opened)
  made absent node same (Err fault) = Free refl
  made absent node same (Ok handle) =
      node_by space (calls.Open opening) space.limits.max_nodes space.limits.max_bytes (content_length node) (create_put space opening node handle) refl refl (one_added absent) (same ∙ content_added)

  numbered : get_node space.nodes opening.name ≡ None → (node : Node) → content_length node ≡ length (content_of create.node) → Limited (create_numbered space who number opening node) (create_numbered (unlimited space) who number opening node)
  numbered absent node same =
      let opened = new_handle space who number opening node in
      either space (calls.Open opening) (is_last space.next_instance) (refused faults.Exhausted) (create_made space opening node opened) (refused faults.Exhausted) (create_made (unlimited space) opening node opened) (Free refl)
      (made absent node same opened)

  permitted : get_node space.nodes opening.name ≡ None → (node : Node) → content_length node ≡ length (content_of create.node) → Limited (create_permitted space who number opening node) (create_permitted (unlimited space) who number opening node)
  permitted absent node same =
      by_option space (calls.Open opening) (missing_right space who opening.mode node) (λ right. refused (faults.Denied right)) (λ right. refused (faults.Denied right)) (create_numbered space who number opening node)
      (create_numbered (unlimited space) who number opening node)
      (λ right found. Free refl) (λ none. numbered absent node same)

  by_kind : get_node space.nodes opening.name ≡ None → (above : Node) (kind : Kind) → Limited (create_in space who number opening create above kind) (create_in (unlimited space) who number opening create above kind)
  by_kind absent above File = Free refl
  by_kind absent above Directory =
      let node : Node = new_node space.next_instance create.node create.life (acls_of above create.acls) in
      either space (calls.Open opening) (may space who above rights.Write) (create_permitted space who number opening node) (refused (faults.Denied rights.Write)) (create_permitted (unlimited space) who number opening node)
      (refused (faults.Denied rights.Write)) (permitted absent node refl) (Free refl)

  under : get_node space.nodes opening.name ≡ None → (o : Option Node) → Limited (create_under space who number opening create o) (create_under (unlimited space) who number opening create o)
  under absent None = Free refl
  under absent (Some above) = by_kind absent above above.kind

  anew : get_node space.nodes opening.name ≡ None → Limited (create_new space who number opening create) (create_new (unlimited space) who number opening create)
  anew absent =
      by_option space (calls.Open opening) (parent_of opening.name) (λ parent. create_under space who number opening create (get_node space.nodes parent)) (λ parent. create_under (unlimited space) who number opening create (get_node space.nodes parent))
      (refused faults.NotFound) (refused faults.NotFound) (λ parent found. under absent (get_node space.nodes parent)) (λ none. Free refl)

  over : (disposition : Disposition) (node : Node) → Limited (create_over space who number opening disposition node) (create_over (unlimited space) who number opening disposition node)
  over Must node = Free refl
  over May node = Free refl

  created : Limited (create_effect space who number opening create) (create_effect (unlimited space) who number opening create)
  created =
      by_option space (calls.Open opening) (get_node space.nodes opening.name) (λ node. create_over space who number opening create.disposition node) (λ node. create_over (unlimited space) who number opening create.disposition node)
      (create_new space who number opening create) (create_new (unlimited space) who number opening create) (λ node found. over create.disposition node) anew

  tested : Limited (create_tested space who number opening create) (create_tested (unlimited space) who number opening create)
  tested =
      by_option space (calls.Open opening) (create_fault opening create.node) (λ answer. answered answer) (λ answer. answered answer) (create_effect space who number opening create) (create_effect (unlimited space) who number opening create)
      (λ answer found. Free refl) (λ none. created)

  sequenced : (o : Option Fault) → Limited (create_under_sequencer space who number opening create o) (create_under_sequencer (unlimited space) who number opening create o)
  sequenced None = tested
  sequenced (Some fault) = Free refl

  here : (sequencer : Option (List ℕ)) → Limited (create_here space who number opening create sequencer) (create_here (unlimited space) who number opening create sequencer)
  here sequencer =
      let fault = sequencer_fault space sequencer in
      either space (calls.Open opening) (is_of_cell space opening.name) (create_under_sequencer space who number opening create fault) (refused faults.OtherCell) (create_under_sequencer (unlimited space) who number opening create fault)
      (refused faults.OtherCell) (sequenced fault) (Free refl)

opened : (space : NameSpace) (who : Caller) (number : ℕ) (opening : Open) (sequencer : Option (List ℕ)) (o : Option Create) → opening.create ≡ o
    → IsLimited space (calls.Open opening) (open_effect space who number opening sequencer o) (open_effect (unlimited space) who number opening sequencer o)
opened space who number opening sequencer None is = Free refl
opened space who number opening sequencer (Some create) is = here space who number opening create is sequencer

-- ---- calls on a handle

module _ (space : NameSpace) (now : ℕ) (handle : Handle) where
  abbrev Shows : Call → Type 0
  Shows call = read_handle space.secret (bytes_of call) ≡ Some handle

  written : (bytes content : List ℕ) (generation : Option ℕ) (node : Node) → Shows (calls.Set bytes content generation) → node_of_handle space handle ≡ Some node
      → IsLimited space (calls.Set bytes content generation) (change_at space now handle (calls.Set bytes content generation) node) (change_at (unlimited space) now handle (calls.Set bytes content generation) node)
  written bytes content generation node shown there =
      let call : Call = calls.Set bytes content generation in
      let done : Effect = changes_to (Put handle.name (with_content node content)) space.next_instance results.Done in
      let growth : ℕ = length content - content_length node in
      let added : growth ≡ bytes_added space call = sym (ap (growth_on space content) shown ∙ ap (λ (o : Option Node). option_map_or (λ n. length content - content_length n) o 0) there) in
      let within : IsLimited space call (unless (room_fault space.limits.max_bytes (content_bytes space.nodes) growth) done) done = bytes_by space call space.limits.max_bytes growth done refl added in
      either space call (generation_fits generation node.content_generation) (cond (is_last node.content_generation) (refused faults.Exhausted) (unless (room_fault space.limits.max_bytes (content_bytes space.nodes) growth) done))
      (refused (faults.WrongGeneration node.content_generation)) (cond (is_last node.content_generation) (refused faults.Exhausted) done) (refused (faults.WrongGeneration node.content_generation))
      (either space call (is_last node.content_generation) (refused faults.Exhausted) (unless (room_fault space.limits.max_bytes (content_bytes space.nodes) growth) done) (refused faults.Exhausted) done (Free refl) within)
      (Free refl)

  asked : (call : Call) → Shows call → locks_added call ≡ 1 → (claim : Claim) (r : Result Acquired Fault)
      → IsLimited space call (acquire_by handle claim (room_fault space.limits.max_locks (claim_count handle.client space.locks) 1) r) (acquire_by handle claim None r)
  asked call shown one claim (Ok got) = lock_by space call space.limits.max_locks handle (acquired_by handle claim got) refl shown one
  asked call shown one claim (Err fault) = Free refl

  tried_for : (call : Call) → Shows call → locks_added call ≡ 1 → (claim : Claim) (r : Result LockState Fault)
      → IsLimited space call (try_by handle claim (room_fault space.limits.max_locks (claim_count handle.client space.locks) 1) r) (try_by handle claim None r)
  tried_for call shown one claim (Ok lock) = lock_by space call space.limits.max_locks handle (lock_taken handle claim lock) refl shown one
  tried_for call shown one claim (Err fault) = Free refl

  on_node : (call : Call) (node : Node) → Shows call → node_of_handle space handle ≡ Some node → IsLimited space call (change_at space now handle call node) (change_at (unlimited space) now handle call node)
  on_node (calls.Set bytes content generation) node shown there = written bytes content generation node shown there
  on_node (calls.SetAcl bytes acls generation) node shown there = Free refl
  on_node (calls.Delete bytes) node shown there = Free refl
  on_node (calls.Acquire bytes mode) node shown there = asked (calls.Acquire bytes mode) shown refl (claim_of handle mode) (acquired (lock_under space handle) (claim_of handle mode))
  on_node (calls.TryAcquire bytes mode) node shown there = tried_for (calls.TryAcquire bytes mode) shown refl (claim_of handle mode) (tried (lock_under space handle) (claim_of handle mode) now)
  on_node (calls.Release bytes) node shown there = Free refl
  on_node (calls.Open opening) node shown there = Free refl
  on_node (calls.Close bytes) node shown there = Free refl
  on_node (calls.Read bytes) node shown there = Free refl
  on_node (calls.Stat bytes) node shown there = Free refl
  on_node (calls.List bytes) node shown there = Free refl
  on_node (calls.GetSequencer bytes) node shown there = Free refl
  on_node (calls.SetSequencer bytes) node shown there = Free refl
  on_node (calls.CheckSequencer bytes) node shown there = Free refl
  on_node calls.Leave node shown there = Free refl

  applied : (call : Call) (o : Option CallResult) → Shows call → IsLimited space call (option_map_or (λ answer. answered answer) o (change_on space now handle call)) (option_map_or (λ answer. answered answer) o (change_on (unlimited space) now handle call))
  applied call o shown =
      by_option space call o (λ answer. answered answer) (λ answer. answered answer) (change_on space now handle call) (change_on (unlimited space) now handle call) (λ answer found. Free refl)
      (λ none. by_option space call (node_of_handle space handle) (λ node. change_at space now handle call node) (λ node. change_at (unlimited space) now handle call node) (refused faults.StaleInstance) (refused faults.StaleInstance)
      (λ node there. on_node call node shown there) (λ gone. Free refl))

  on_handle : (call : Call) (sequencer : Option (List ℕ)) → Shows call → IsLimited space call (effect_on space now handle call sequencer) (effect_on (unlimited space) now handle call sequencer)
  on_handle (calls.Close bytes) sequencer shown = Free refl
  on_handle call sequencer shown = applied call (answer_on space handle call sequencer) shown

by_handle : (space : NameSpace) (now : ℕ) (call : Call) (sequencer : Option (List ℕ)) (o : Option Handle) → read_handle space.secret (bytes_of call) ≡ o
    → IsLimited space call (handle_effect space now call sequencer o) (handle_effect (unlimited space) now call sequencer o)
by_handle space now call sequencer None shown = Free refl
by_handle space now call sequencer (Some handle) shown = on_handle space now handle call sequencer shown

pub limits_only_refuse : (s : MasterState) (client number : ℕ) (call : Call) (sequencer : Option (List ℕ))
    → IsLimited (name_space s) call (effect (name_space s) (caller s client) s.clock number call sequencer) (effect (unlimited (name_space s)) (caller s client) s.clock number call sequencer)
unfolding effect
limits_only_refuse s client number (calls.Open opening) sequencer = opened (name_space s) (caller s client) number opening sequencer opening.create refl
limits_only_refuse s client number call sequencer = by_handle (name_space s) s.clock call sequencer (read_handle s.secret (bytes_of call)) refl
