-- A handle that a call is answered is of an Open of the name that stands in its bytes.
use Rattle.std.proofs.Common.{◌≡◌, ℕ, List, [], Bool, true, false, cond, Option, Some, None, Result, Ok, Err, refl, ◌∙◌, subst}
use Rattle.std.specs.Prelude.{◌&&◌, ◌||◌, is_none, nat_lt, length}
use Rattle.std.specs.Option.{option_map_or}
use Rattle.names_cell.specs.Text.{parent_of}
use Rattle.node_core.specs.declared.refusals.Fault.{Fault}
use Rattle.node_core.specs.declared.refusals.Fault.TheVariants as faults
use Rattle.node_core.specs.declared.kinds.Kind.{Kind}
use Rattle.node_core.specs.declared.kinds.Kind.TheVariants as kinds
use Rattle.node_core.specs.declared.kinds.Right.{Right}
use Rattle.node_core.specs.declared.kinds.Right.TheVariants as rights
use Rattle.node_core.specs.declared.nodes.Node.{Node}
use Rattle.node_core.specs.declared.views.View.{View}
use Rattle.node_core.specs.Limits.{content_limit}
use Rattle.node_core.specs.Nodes.{get_node, view_of, has_children}
use Rattle.tags_cell.specs.Modes.{has_right}
use Rattle.tags_cell.specs.Handles.{is_ordinal, read_handle}
use Rattle.tags_cell.specs.declared.handles.Handle.{Handle}
use Rattle.tags_cell.specs.declared.messages.calls.Open.{Open}
use Rattle.tags_cell.specs.declared.messages.calls.Create.{Create}
use Rattle.tags_cell.specs.declared.messages.calls.Disposition.{Disposition}
use Rattle.tags_cell.specs.declared.messages.calls.Disposition.TheVariants.{May, Must}
use Rattle.tags_cell.specs.declared.messages.calls.NewNode.{NewNode}
use Rattle.tags_cell.specs.declared.messages.calls.NewNode.TheVariants as made
use Rattle.tags_cell.specs.declared.messages.calls.Call.{Call}
use Rattle.tags_cell.specs.declared.messages.calls.Call.TheVariants as calls
use Rattle.tags_cell.specs.declared.sequencers.Sequencer.{Sequencer}
use Rattle.tags_cell.specs.declared.messages.outs.CallResult.{CallResult}
use Rattle.tags_cell.specs.declared.messages.outs.CallResult.TheVariants as results
use Rattle.tags_cell.proofs.Fields.{name_of_bytes}
use Rattle.master_state.specs.NameSpace.{name_space, caller}
use Rattle.master_state.specs.State.{MasterState}
use Rattle.lock_core.specs.declared.claims.Claim.{Claim}
use Rattle.lock_core.specs.declared.turns.Acquired.{Acquired}
use Rattle.lock_core.specs.declared.turns.Acquired.TheVariants as asked
use Rattle.lock_core.specs.declared.turns.Turn.{Turn}
use Rattle.lock_core.specs.State.{LockState, hold_of}
use Rattle.lock_core.specs.Turns.{tried, acquired, released}
use Rattle.lock_core.specs.Locks.{sequencer_of}
use Rattle.master_parts.specs.Claims.{owner_of, claim_of}
use Rattle.master_state.specs.Lookups.{missing_right, node_of_handle, numbered_handle, new_handle, open_present, plain_open, opened_answer, list_answer, sequencer_fault, release_fault, lock_under, sequencer_result, answer_on_node, answer_under, answer_on, shown_handle, is_of_cell, may}
use Rattle.master_parts.specs.Calls.{is_too_long, content_fault, node_fault, delay_fault, create_fault, write_fault, needing, bytes_of}
use Rattle.node_core.specs.declared.views.Mod.TheVariants.{Put}
use Rattle.cell_core.specs.Step.{admission_of_open, answering, admission_under, check_admission, handle_admission, admission_of}
use Rattle.cell_core.specs.declared.effects.Effect.{Effect}
use Rattle.cell_core.specs.Effect as effects
use Rattle.cell_core.specs.Effect.{answered, refused, create_made, create_numbered, create_permitted, create_in, create_under, create_new, create_over, create_effect, create_under_sequencer, open_effect, acquire_by, try_by, release_by, generation_fits, is_last, put_at, change_at, change_on, effect_on, handle_effect, effect, new_node, acls_of, with_content, with_acls, new_node_fault, lock_fault, create_put, changes_to}
use Rattle.world_cell.specs.Consistent.{OpensAs}

-- a first answer, if there is one
abbrev OpensIf : Call → Option CallResult → Type 0
OpensIf call None = Unit {0}
OpensIf call (Some result) = OpensAs call result

either : {A : Type 0} (P : A → Type 0) (b : Bool) (x y : A) → P x → P y → P (cond b x y)
either P true x y h k = h
either P false x y h k = k

found_or : {A B : Type 0} (P : B → Type 0) (f : A → B) (o : Option A) (x : B) → ((a : A) → P (f a)) → P x → P (option_map_or f o x)
found_or P f None x h k = k
found_or P f (Some a) x h k = h a

-- ---- a new handle

-- the handle that is made is of the Open's name
abbrev IsOfOpen : Open → Result Handle Fault → Type 0
IsOfOpen opening (Ok handle) = handle.name ≡ opening.name
IsOfOpen opening (Err fault) = Unit {0}

new_is_of : (s : MasterState) (client number : ℕ) (opening : Open) (view : Node) → IsOfOpen opening (new_handle (name_space s) (caller s client) number opening view)
new_is_of s client number opening view =
    either (IsOfOpen opening) (is_too_long opening.delay) (Err faults.DelayTooLong) (numbered_handle (name_space s) (caller s client) number opening view) tt
    (either (IsOfOpen opening) (is_ordinal s.epoch && is_ordinal view.instance) _ (Err faults.Exhausted) refl tt)

present_is_of : (s : MasterState) (client number : ℕ) (opening : Open) (view : Node) → IsOfOpen opening (open_present (name_space s) (caller s client) number opening view)
present_is_of s client number opening view =
    found_or (IsOfOpen opening) (λ (right : Right). Err (faults.Denied right)) (missing_right (name_space s) (caller s client) opening.mode view) (new_handle (name_space s) (caller s client) number opening view) (λ right. tt) (new_is_of s client number opening view)

plain_is_of : (s : MasterState) (client number : ℕ) (opening : Open) → IsOfOpen opening (plain_open (name_space s) (caller s client) number opening)
plain_is_of s client number opening =
    found_or (IsOfOpen opening) (λ view. open_present (name_space s) (caller s client) number opening view) (get_node s.nodes opening.name) (Err faults.NotFound) (λ view. present_is_of s client number opening view) tt

opened_opens : (s : MasterState) (opening : Open) (opened : Result Handle Fault) → IsOfOpen opening opened → OpensAs (calls.Open opening) (opened_answer (name_space s) opened)
opened_opens s opening (Ok handle) h = (opening, refl, name_of_bytes s.secret handle ∙ h)
opened_opens s opening (Err fault) h = tt

-- ---- what is answered at once

content_opens : (call : Call) (content : List ℕ) → OpensIf call (content_fault content)
content_opens call content = either (OpensIf call) (nat_lt content_limit (length content)) (Some (results.Refused faults.TooLarge)) None tt tt

node_opens : (call : Call) (node : NewNode) → OpensIf call (node_fault node)
node_opens call (made.File content) = content_opens call content
node_opens call made.Directory = tt

delay_opens : (call : Call) (delay : ℕ) → OpensIf call (delay_fault delay)
delay_opens call delay = either (OpensIf call) (is_too_long delay) (Some (results.Refused faults.DelayTooLong)) None tt tt

fault_opens : (call : Call) (o : Option CallResult) (delay : ℕ) → OpensIf call o → OpensIf call (option_map_or (λ answer. Some answer) o (delay_fault delay))
fault_opens call None delay h = delay_opens call delay
fault_opens call (Some answer) delay h = h

making_opens : (call : Call) (opening : Open) (node : NewNode) → OpensIf call (create_fault opening node)
making_opens call opening node = fault_opens call (node_fault node) opening.delay (node_opens call node)

write_opens : (call : Call) (kind : Kind) (content : List ℕ) → OpensIf call (write_fault kind content)
write_opens call kinds.Directory content = tt
write_opens call kinds.File content = content_opens call content

list_opens : (call : Call) (view : View) (kind : Kind) → OpensAs call (list_answer view kind)
list_opens call view kinds.Directory = tt
list_opens call view kinds.File = tt

needing_opens : (call : Call) (handle : Handle) (right : Right) (answer : Option CallResult) → OpensIf call answer → OpensIf call (needing handle right answer)
needing_opens call handle right answer h = either (OpensIf call) (has_right handle.mode right) answer (Some (results.Refused (faults.Denied right))) h tt

release_opens : (call : Call) (s : MasterState) (handle : Handle) → OpensIf call (release_fault (name_space s) handle)
release_opens call s handle = either (OpensIf call) (is_none (hold_of (lock_under (name_space s) handle) (owner_of handle))) (Some (results.Refused faults.NotHolder)) None tt tt

sequencer_opens : (call : Call) (found : Result Sequencer Fault) → OpensAs call (sequencer_result found)
sequencer_opens call (Ok sequencer) = tt
sequencer_opens call (Err fault) = tt

on_node_opens : (s : MasterState) (handle : Handle) (call : Call) (view : Node) → OpensIf call (answer_on_node (name_space s) handle call view)
on_node_opens s handle (calls.Read bytes) view = needing_opens (calls.Read bytes) handle rights.Read (Some (results.Viewed (view_of s.nodes handle.name view))) tt
on_node_opens s handle (calls.List bytes) view = needing_opens (calls.List bytes) handle rights.Read (Some (list_answer (view_of s.nodes handle.name view) view.kind)) (list_opens (calls.List bytes) (view_of s.nodes handle.name view) view.kind)
on_node_opens s handle (calls.Set bytes content generation) view = needing_opens (calls.Set bytes content generation) handle rights.Write (write_fault view.kind content) (write_opens (calls.Set bytes content generation) view.kind content)
on_node_opens s handle (calls.SetAcl bytes acls generation) view = needing_opens (calls.SetAcl bytes acls generation) handle rights.Change None tt
on_node_opens s handle (calls.Delete bytes) view = needing_opens (calls.Delete bytes) handle rights.Write None tt
on_node_opens s handle (calls.Acquire bytes mode) view = needing_opens (calls.Acquire bytes mode) handle rights.Write None tt
on_node_opens s handle (calls.TryAcquire bytes mode) view = needing_opens (calls.TryAcquire bytes mode) handle rights.Write None tt
on_node_opens s handle (calls.Release bytes) view = needing_opens (calls.Release bytes) handle rights.Write (release_fault (name_space s) handle) (release_opens (calls.Release bytes) s handle)
on_node_opens s handle (calls.GetSequencer bytes) view = sequencer_opens (calls.GetSequencer bytes) (sequencer_of (lock_under (name_space s) handle) handle.instance handle.name (owner_of handle))
on_node_opens s handle call view = tt

on_node_under_opens : (s : MasterState) (handle : Handle) (call : Call) (view : Node) (o : Option Fault) → OpensIf call (answer_under (name_space s) handle call view o)
on_node_under_opens s handle call view (Some fault) = tt
on_node_under_opens s handle call view None = on_node_opens s handle call view

at_node_opens : (s : MasterState) (handle : Handle) (call : Call) (sequencer : Option (List ℕ)) → OpensIf call (option_map_or (λ view. answer_under (name_space s) handle call view (sequencer_fault (name_space s) sequencer)) (node_of_handle (name_space s) handle) (Some (results.Refused faults.StaleInstance)))
at_node_opens s handle call sequencer = found_or (OpensIf call) (λ view. answer_under (name_space s) handle call view (sequencer_fault (name_space s) sequencer)) (node_of_handle (name_space s) handle) (Some (results.Refused faults.StaleInstance)) (λ view. on_node_under_opens s handle call view (sequencer_fault (name_space s) sequencer)) tt

on_opens : (s : MasterState) (handle : Handle) (call : Call) (sequencer : Option (List ℕ)) → OpensIf call (answer_on (name_space s) handle call sequencer)
on_opens s handle (calls.Close bytes) sequencer = tt
on_opens s handle call sequencer = at_node_opens s handle call sequencer

handle_opens : (s : MasterState) (call : Call) (sequencer : Option (List ℕ)) (o : Option Handle) → OpensIf call (handle_admission s call sequencer o).answer
handle_opens s call sequencer None = tt
handle_opens s call sequencer (Some handle) = on_opens s handle call sequencer

open_opens : (s : MasterState) (client number : ℕ) (opening : Open) (o : Option Create) → OpensIf (calls.Open opening) (admission_of_open s client number opening o).answer
open_opens s client number opening (Some create) = making_opens (calls.Open opening) opening create.node
open_opens s client number opening None = opened_opens s opening (plain_open (name_space s) (caller s client) number opening) (plain_is_of s client number opening)

sequenced_opens : (s : MasterState) (client number : ℕ) (opening : Open) (o : Option Fault) → OpensIf (calls.Open opening) (admission_under s client number opening o).answer
sequenced_opens s client number opening (Some fault) = tt
sequenced_opens s client number opening None = open_opens s client number opening opening.create

check_opens : (s : MasterState) (call : Call) (bytes : List ℕ) (o : Option Fault) → OpensIf call (check_admission s bytes o).answer
check_opens s call bytes (Some fault) = tt
check_opens s call bytes None = found_or (OpensAs call) (λ (fault : Fault). results.Refused fault) (sequencer_fault (name_space s) (Some bytes)) results.Done (λ fault. tt) tt

-- by the tests of a call
pub admission_opens : (s : MasterState) (client number : ℕ) (call : Call) (sequencer : Option (List ℕ)) → OpensIf call (admission_of s client number call sequencer).answer
admission_opens s client number (calls.Open opening) sequencer =
    elim (is_of_cell (name_space s) opening.name) as (λ b. OpensIf (calls.Open opening) (cond b (admission_under s client number opening (sequencer_fault (name_space s) sequencer)) (answering (results.Refused faults.OtherCell))).answer) [
      | true ↦ sequenced_opens s client number opening (sequencer_fault (name_space s) sequencer)
      | false ↦ tt
    ]
admission_opens s client number (calls.CheckSequencer bytes) sequencer = check_opens s (calls.CheckSequencer bytes) bytes (sequencer_fault (name_space s) sequencer)
admission_opens s client number calls.Leave sequencer = tt
admission_opens s client number call sequencer = handle_opens s call sequencer (shown_handle s client (bytes_of call))

pub answer_opens : (s : MasterState) (client number : ℕ) (call : Call) (sequencer : Option (List ℕ)) (answer : CallResult) → (admission_of s client number call sequencer).answer ≡ Some answer → OpensAs call answer
answer_opens s client number call sequencer answer is = subst (OpensIf call) is (admission_opens s client number call sequencer)

-- ---- when its turn comes

abbrev EffectOpens : Call → Effect → Type 0
EffectOpens call effected = OpensIf call effected.answer

made_opens : (s : MasterState) (opening : Open) (view : Node) (made : Result Handle Fault) → IsOfOpen opening made → EffectOpens (calls.Open opening) (create_made (name_space s) opening view made)
made_opens s opening view (Ok handle) h =
    found_or (EffectOpens (calls.Open opening)) (λ (fault : Fault). refused fault) (new_node_fault (name_space s) view) (create_put (name_space s) opening view handle) (λ fault. tt) (opened_opens s opening (Ok handle) h)
made_opens s opening view (Err fault) h = tt

module _ (s : MasterState) (client number : ℕ) (opening : Open) where
  numbered_opens : (view : Node) → EffectOpens (calls.Open opening) (create_numbered (name_space s) (caller s client) number opening view)
  numbered_opens view = either (EffectOpens (calls.Open opening)) (is_last s.next_instance) (refused faults.Exhausted) (create_made (name_space s) opening view (new_handle (name_space s) (caller s client) number opening view)) tt
      (made_opens s opening view (new_handle (name_space s) (caller s client) number opening view) (new_is_of s client number opening view))

  permitted_opens : (view : Node) → EffectOpens (calls.Open opening) (create_permitted (name_space s) (caller s client) number opening view)
  permitted_opens view = found_or (EffectOpens (calls.Open opening)) (λ (right : Right). refused (faults.Denied right)) (missing_right (name_space s) (caller s client) opening.mode view) (create_numbered (name_space s) (caller s client) number opening view) (λ right. tt) (numbered_opens view)

  in_opens : (create : Create) (above : Node) (kind : Kind) → EffectOpens (calls.Open opening) (create_in (name_space s) (caller s client) number opening create above kind)
  in_opens create above kinds.File = tt
  in_opens create above kinds.Directory = either (EffectOpens (calls.Open opening)) (may (name_space s) (caller s client) above rights.Write) _ (refused (faults.Denied rights.Write)) (permitted_opens (new_node s.next_instance create.node create.life (acls_of above create.acls))) tt

  under_opens : (create : Create) (o : Option Node) → EffectOpens (calls.Open opening) (create_under (name_space s) (caller s client) number opening create o)
  under_opens create None = tt
  under_opens create (Some above) = in_opens create above above.kind

  over_opens : (disposition : Disposition) (view : Node) → EffectOpens (calls.Open opening) (create_over (name_space s) (caller s client) number opening disposition view)
  over_opens Must view = tt
  over_opens May view = opened_opens s opening (open_present (name_space s) (caller s client) number opening view) (present_is_of s client number opening view)

  create_opens : (create : Create) → EffectOpens (calls.Open opening) (create_effect (name_space s) (caller s client) number opening create)
  create_opens create = found_or (EffectOpens (calls.Open opening)) (λ view. create_over (name_space s) (caller s client) number opening create.disposition view) (get_node s.nodes opening.name) (create_new (name_space s) (caller s client) number opening create) (λ view. over_opens create.disposition view)
      (found_or (EffectOpens (calls.Open opening)) (λ parent. create_under (name_space s) (caller s client) number opening create (get_node s.nodes parent)) (parent_of opening.name) (refused faults.NotFound) (λ parent. under_opens create (get_node s.nodes parent)) tt)

  fault_or_opens : (create : Create) (o : Option CallResult) → OpensIf (calls.Open opening) o → EffectOpens (calls.Open opening) (option_map_or (λ answer. answered answer) o (create_effect (name_space s) (caller s client) number opening create))
  fault_or_opens create None h = create_opens create
  fault_or_opens create (Some answer) h = h

  create_under_opens : (create : Create) (o : Option Fault) → EffectOpens (calls.Open opening) (create_under_sequencer (name_space s) (caller s client) number opening create o)
  create_under_opens create (Some fault) = tt
  create_under_opens create None = fault_or_opens create (create_fault opening create.node) (making_opens (calls.Open opening) opening create.node)

  open_effect_opens : (sequencer : Option (List ℕ)) (o : Option Create) → EffectOpens (calls.Open opening) (open_effect (name_space s) (caller s client) number opening sequencer o)
  open_effect_opens sequencer None = opened_opens s opening (plain_open (name_space s) (caller s client) number opening) (plain_is_of s client number opening)
  open_effect_opens sequencer (Some create) =
      either (EffectOpens (calls.Open opening)) (is_of_cell (name_space s) opening.name) _ (refused faults.OtherCell) (create_under_opens create (sequencer_fault (name_space s) sequencer)) tt

put_opens : (s : MasterState) (call : Call) (handle : Handle) (present : ℕ) (wanted : Option ℕ) (room : Option Fault) (view : Node) → EffectOpens call (put_at (name_space s) handle present wanted room view)
put_opens s call handle present wanted room view =
    either (EffectOpens call) (generation_fits wanted present) _ (refused (faults.WrongGeneration present))
    (either (EffectOpens call) (is_last present) (refused faults.Exhausted) _ tt (found_or (EffectOpens call) (λ (fault : Fault). refused fault) room (changes_to (Put handle.name view) s.next_instance results.Done) (λ fault. tt) tt)) tt

acquired_opens : (call : Call) (handle : Handle) (claim : Claim) (room : Option Fault) (asked_so : Result Acquired Fault) → EffectOpens call (acquire_by handle claim room asked_so)
acquired_opens call handle claim (Some fault) (Ok given) = tt
acquired_opens call handle claim None (Ok (asked.Held lock)) = tt
acquired_opens call handle claim None (Ok (asked.Waits lock)) = tt
acquired_opens call handle claim room (Err fault) = tt

tried_opens : (call : Call) (handle : Handle) (claim : Claim) (room : Option Fault) (tried_so : Result LockState Fault) → EffectOpens call (try_by handle claim room tried_so)
tried_opens call handle claim (Some fault) (Ok lock) = tt
tried_opens call handle claim None (Ok lock) = tt
tried_opens call handle claim room (Err fault) = tt

released_opens : (call : Call) (handle : Handle) (left : Result Turn Fault) → EffectOpens call (release_by handle left)
released_opens call handle (Ok turn) = tt
released_opens call handle (Err fault) = tt

change_opens : (s : MasterState) (handle : Handle) (call : Call) (view : Node) → EffectOpens call (change_at (name_space s) s.clock handle call view)
change_opens s handle (calls.Set bytes content generation) view = put_opens s (calls.Set bytes content generation) handle view.content_generation generation (effects.content_fault (name_space s) view content) (with_content view content)
change_opens s handle (calls.SetAcl bytes acls generation) view = put_opens s (calls.SetAcl bytes acls generation) handle view.acl_generation generation None (with_acls view acls)
change_opens s handle (calls.Delete bytes) view = either (EffectOpens (calls.Delete bytes)) (has_children s.nodes handle.name || is_none (parent_of handle.name)) (refused faults.NotEmpty) _ tt tt
change_opens s handle (calls.Acquire bytes mode) view = acquired_opens (calls.Acquire bytes mode) handle (claim_of handle mode) (lock_fault (name_space s) handle.client) (acquired (lock_under (name_space s) handle) (claim_of handle mode))
change_opens s handle (calls.TryAcquire bytes mode) view = tried_opens (calls.TryAcquire bytes mode) handle (claim_of handle mode) (lock_fault (name_space s) handle.client) (tried (lock_under (name_space s) handle) (claim_of handle mode) s.clock)
change_opens s handle (calls.Release bytes) view = released_opens (calls.Release bytes) handle (released (lock_under (name_space s) handle) (owner_of handle))
change_opens s handle call view = tt

change_on_opens : (s : MasterState) (handle : Handle) (call : Call) → EffectOpens call (change_on (name_space s) s.clock handle call)
change_on_opens s handle call = found_or (EffectOpens call) (λ view. change_at (name_space s) s.clock handle call view) (node_of_handle (name_space s) handle) (refused faults.StaleInstance) (λ view. change_opens s handle call view) tt

first_opens : (s : MasterState) (handle : Handle) (call : Call) (o : Option CallResult) → OpensIf call o → EffectOpens call (option_map_or (λ answer. answered answer) o (change_on (name_space s) s.clock handle call))
first_opens s handle call None h = change_on_opens s handle call
first_opens s handle call (Some answer) h = h

on_effect_opens : (s : MasterState) (handle : Handle) (call : Call) (sequencer : Option (List ℕ)) → EffectOpens call (effect_on (name_space s) s.clock handle call sequencer)
on_effect_opens s handle (calls.Close bytes) sequencer = tt
on_effect_opens s handle call sequencer = first_opens s handle call (answer_on (name_space s) handle call sequencer) (on_opens s handle call sequencer)

shown_opens : (s : MasterState) (call : Call) (sequencer : Option (List ℕ)) (o : Option Handle) → EffectOpens call (handle_effect (name_space s) s.clock call sequencer o)
shown_opens s call sequencer None = tt
shown_opens s call sequencer (Some handle) = on_effect_opens s handle call sequencer

effect_opens_if : (s : MasterState) (client number : ℕ) (call : Call) (sequencer : Option (List ℕ)) → OpensIf call (effect (name_space s) (caller s client) s.clock number call sequencer).answer
unfolding effect
effect_opens_if s client number (calls.Open opening) sequencer = open_effect_opens s client number opening sequencer opening.create
effect_opens_if s client number call sequencer = shown_opens s call sequencer (read_handle s.secret (bytes_of call))

pub effect_opens : (s : MasterState) (client number : ℕ) (call : Call) (sequencer : Option (List ℕ)) (answer : CallResult) → (effect (name_space s) (caller s client) s.clock number call sequencer).answer ≡ Some answer → OpensAs call answer
effect_opens s client number call sequencer answer is = subst (OpensIf call) is (effect_opens_if s client number call sequencer)
