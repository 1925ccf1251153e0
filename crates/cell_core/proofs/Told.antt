-- What the tests of a call tell of names.
use Rattle.std.proofs.Common.{[], ◌≡◌, ℕ, List, Bool, true, false, cond, Option, Some, None, Result, Ok, Err, refl, sym, ap, ◌∙◌}
use Rattle.std.specs.Prelude.{◌==◌, ◌&&◌, is_none, nat_lt, length}
use Rattle.std.specs.Option.{option_map, option_map_or, option_and_then}
use Rattle.node_core.specs.declared.refusals.Fault.{Fault}
use Rattle.node_core.specs.declared.refusals.Fault.TheVariants as faults
use Rattle.node_core.specs.declared.kinds.Kind.{Kind}
use Rattle.node_core.specs.declared.kinds.Kind.TheVariants as kinds
use Rattle.node_core.specs.declared.kinds.Right.{Right}
use Rattle.node_core.specs.declared.kinds.Right.TheVariants as rights
use Rattle.node_core.specs.declared.nodes.Node.{Node}
use Rattle.node_core.specs.Limits.{content_limit}
use Rattle.node_core.specs.Nodes.{get_node, view_of, view_at}
use Rattle.tags_cell.specs.Modes.{has_right}
use Rattle.tags_cell.specs.Handles.{read_handle, is_ordinal}
use Rattle.tags_cell.specs.declared.handles.Handle.{Handle}
use Rattle.tags_cell.specs.declared.messages.requests.CallMessage.{CallMessage}
use Rattle.master_parts.specs.declared.pending.Task.TheVariants as tasks
use Rattle.tags_cell.specs.declared.messages.calls.Open.{Open}
use Rattle.tags_cell.specs.declared.messages.calls.Create.{Create}
use Rattle.tags_cell.specs.declared.messages.calls.Call.{Call}
use Rattle.tags_cell.specs.declared.messages.calls.Call.TheVariants as calls
use Rattle.tags_cell.specs.declared.messages.outs.CallResult.{CallResult}
use Rattle.tags_cell.specs.declared.messages.outs.CallResult.TheVariants as results
use Rattle.cell_core.specs.declared.admissions.Admission.{Admission}
use Rattle.master_state.specs.NameSpace.{name_space, caller}
use Rattle.master_state.specs.State.{MasterState}
use Rattle.master_state.specs.Lookups.{own_handle, shown_handle, node_of_handle, is_usable, handle_state_of, list_answer, answer_on, answer_on_node, answer_under, missing_right, open_present, plain_open, opened_answer, is_of_cell, sequencer_fault, sequencer_result, release_fault, lock_under}
use Rattle.master_parts.specs.Calls.{needing, write_fault, is_too_long}
use Rattle.master_parts.specs.Keys.{key_of}
use Rattle.cell_core.specs.declared.asking.TouchedNames.{TouchedNames}
use Rattle.cell_core.specs.declared.asking.TouchedNames.TheVariants.{WithParent}
use Rattle.cell_core.specs.Step.{names_of, task_of, admission_for, touched_by, viewed_name, told_by_open, handle_admission, admission_of_open, admission_of, admission_under, check_admission, answering}
use Rattle.tags_cell.specs.declared.sequencers.Sequencer.{Sequencer}
use Rattle.lock_core.specs.State.{hold_of}
use Rattle.lock_core.specs.Locks.{sequencer_of}
use Rattle.master_parts.specs.Claims.{owner_of}
use Rattle.cell_core.specs.Names.{call_touched, names_touched, name_asked, shown_by}

-- a handle that is shown is the one whose bytes are shown
shown_read : (s : MasterState) (client : ℕ) (o : Option Handle) (handle : Handle) → option_map_or (λ h. own_handle s client h) o None ≡ Some handle → o ≡ Some handle
shown_read s client None handle h = cc
shown_read s client (Some own) handle h =
    elim (own.client == client && is_usable s own (handle_state_of s (key_of own))) as (λ b. cond {A = Option Handle} b (Some own) None ≡ Some handle → Some own ≡ Some handle) [ true ↦ (λ k. k) | false ↦ (λ k. cc) ] h

handle_touched : (s : MasterState) (call : Call) (sequencer : Option (List ℕ)) (o : Option Handle) → (handle_admission s call sequencer o).answer ≡ None → (handle_admission s call sequencer o).touched ≡ option_and_then (λ handle. touched_by handle call) o
handle_touched s call sequencer None h = cc
handle_touched s call sequencer (Some handle) h = refl

read_touched : (s : MasterState) (client : ℕ) (call : Call) (sequencer : Option (List ℕ)) (bytes : List ℕ) (o : Option Handle) → shown_handle s client bytes ≡ o → (handle_admission s call sequencer o).answer ≡ None → (handle_admission s call sequencer o).touched ≡ option_and_then (λ handle. touched_by handle call) (read_handle s.secret bytes)
read_touched s client call sequencer bytes None is h = cc
read_touched s client call sequencer bytes (Some handle) is h = ap (option_and_then (λ handle. touched_by handle call)) (sym (shown_read s client (read_handle s.secret bytes) handle is))

open_touched : (s : MasterState) (client number : ℕ) (opening : Open) (o : Option Create) → (admission_of_open s client number opening o).answer ≡ None → (admission_of_open s client number opening o).touched ≡ option_map (λ create. WithParent opening.name) o
open_touched s client number opening None h = cc
open_touched s client number opening (Some create) h = refl

-- an Open whose sequencer was tested
under_touched : (s : MasterState) (client number : ℕ) (opening : Open) (o : Option Fault) → (admission_under s client number opening o).answer ≡ None → (admission_under s client number opening o).touched ≡ option_map (λ create. WithParent opening.name) opening.create
under_touched s client number opening (Some fault) h = cc
under_touched s client number opening None h = open_touched s client number opening opening.create h

named_touched : (name : Option TouchedNames) (b : Bool) (x : Admission) (other : CallResult) → (cond b x (answering other)).answer ≡ None → (x.answer ≡ None → x.touched ≡ name) → (cond b x (answering other)).touched ≡ name
named_touched name true x other h k = k h
named_touched name false x other h k = cc

check_waits_never : (s : MasterState) (bytes : List ℕ) (o : Option Fault) → (check_admission s bytes o).answer ≡ None → ⊥
check_waits_never s bytes None h = cc
check_waits_never s bytes (Some fault) h = cc

no_touch : (o : Option Handle) → ◌≡◌ {A = Option TouchedNames} None (option_and_then (λ handle. touched_by handle calls.Leave) o)
no_touch None = refl
no_touch (Some handle) = refl

-- a call that waits touches the name that it may change
pub touched_is_changed : (s : MasterState) (client number : ℕ) (call : Call) (sequencer : Option (List ℕ)) → (admission_of s client number call sequencer).answer ≡ None → (admission_of s client number call sequencer).touched ≡ call_touched s.secret call
touched_is_changed s client number (calls.Open opening) sequencer h =
    let under : Admission = admission_under s client number opening (sequencer_fault (name_space s) sequencer) in
    named_touched (option_map (λ create. WithParent opening.name) opening.create) (is_of_cell (name_space s) opening.name) under (results.Refused faults.OtherCell) h (under_touched s client number opening (sequencer_fault (name_space s) sequencer))
touched_is_changed s client number (calls.CheckSequencer bytes) sequencer h = absurd (check_waits_never s bytes (sequencer_fault (name_space s) sequencer) h)
touched_is_changed s client number calls.Leave sequencer h = no_touch (read_handle s.secret [])
touched_is_changed s client number (calls.Close bytes) sequencer h = read_touched s client (calls.Close bytes) sequencer bytes (shown_handle s client bytes) refl h
touched_is_changed s client number (calls.Read bytes) sequencer h = read_touched s client (calls.Read bytes) sequencer bytes (shown_handle s client bytes) refl h
touched_is_changed s client number (calls.Stat bytes) sequencer h = read_touched s client (calls.Stat bytes) sequencer bytes (shown_handle s client bytes) refl h
touched_is_changed s client number (calls.List bytes) sequencer h = read_touched s client (calls.List bytes) sequencer bytes (shown_handle s client bytes) refl h
touched_is_changed s client number (calls.Set bytes content generation) sequencer h = read_touched s client (calls.Set bytes content generation) sequencer bytes (shown_handle s client bytes) refl h
touched_is_changed s client number (calls.SetAcl bytes acls generation) sequencer h = read_touched s client (calls.SetAcl bytes acls generation) sequencer bytes (shown_handle s client bytes) refl h
touched_is_changed s client number (calls.Delete bytes) sequencer h = read_touched s client (calls.Delete bytes) sequencer bytes (shown_handle s client bytes) refl h
touched_is_changed s client number (calls.Acquire bytes mode) sequencer h = read_touched s client (calls.Acquire bytes mode) sequencer bytes (shown_handle s client bytes) refl h
touched_is_changed s client number (calls.TryAcquire bytes mode) sequencer h = read_touched s client (calls.TryAcquire bytes mode) sequencer bytes (shown_handle s client bytes) refl h
touched_is_changed s client number (calls.Release bytes) sequencer h = read_touched s client (calls.Release bytes) sequencer bytes (shown_handle s client bytes) refl h
touched_is_changed s client number (calls.GetSequencer bytes) sequencer h = read_touched s client (calls.GetSequencer bytes) sequencer bytes (shown_handle s client bytes) refl h
touched_is_changed s client number (calls.SetSequencer bytes) sequencer h = read_touched s client (calls.SetSequencer bytes) sequencer bytes (shown_handle s client bytes) refl h

-- so it is queued with the names that it touches
pub call_touches : (s : MasterState) (message : CallMessage) → (admission_for s message).answer ≡ None → names_of (admission_for s message).touched ≡ names_touched s.secret (tasks.Asked (task_of message))
call_touches s message h = ap names_of (touched_is_changed s message.client message.number message.call message.sequencer h)

-- ---- what an answer tells of a name

-- by the node of a handle, where its instance is there
at_node : (f : Node → Option CallResult) (x : Option CallResult) (o : Option Node) (instance : ℕ) (P : Option CallResult → Type 0) → ((view : Node) → o ≡ Some view → P (f view)) → P x → P (option_map_or f (option_map_or (λ view. cond (view.instance == instance) (Some view) None) o None) x)
at_node f x None instance P h k = k
at_node f x (Some view) instance P h k = elim (view.instance == instance) as (λ b. P (option_map_or f (cond b (Some view) None) x)) [ true ↦ h view refl | false ↦ k ]

either_result : (b : Bool) (P : Option CallResult → Type 0) (x y : Option CallResult) → P x → P y → P (cond b x y)
either_result true P x y h k = h
either_result false P x y h k = k

-- an answer on a handle of this name tells what the name shows, or nothing
abbrev Tells : MasterState → List ℕ → List ℕ → CallResult → Option CallResult → Type 0
Tells s own name answer given = option_and_then (viewed_name own) given ≡ Some name → given ≡ Some answer → (own ≡ name) × (shown_by answer ≡ view_at s.nodes name)

shown_tells : (s : MasterState) (own name : List ℕ) (answer given : CallResult) (node : Node) → get_node s.nodes own ≡ Some node → viewed_name own given ≡ Some own → shown_by given ≡ Some (view_of s.nodes own node) → Tells s own name answer (Some given)
shown_tells s own name answer given node here tells shows told is =
    let same : own ≡ name = cc in
    let one : given ≡ answer = cc in
    let seen : view_at s.nodes own ≡ Some (view_of s.nodes own node) = ap (option_map (view_of s.nodes own)) here in
    (same, sym (ap shown_by one) ∙ shows ∙ sym seen ∙ ap (view_at s.nodes) same)

list_tells : (s : MasterState) (own name : List ℕ) (answer : CallResult) (node : Node) → get_node s.nodes own ≡ Some node → (kind : Kind) → Tells s own name answer (Some (list_answer (view_of s.nodes own node) kind))
list_tells s own name answer node here kinds.Directory = shown_tells s own name answer (results.Listed (view_of s.nodes own node)) node here refl refl
list_tells s own name answer node here kinds.File = λ told is. cc

-- a read, or a ReadDir, by what it gives where its handle may read
under_tells : (s : MasterState) (handle : Handle) (call : Call) (given : CallResult) (name : List ℕ) (answer : CallResult) (node : Node) → answer_on_node (name_space s) handle call node ≡ needing handle rights.Read (Some given) → Tells s handle.name name answer (Some given) → (o : Option Fault)
    → Tells s handle.name name answer (answer_under (name_space s) handle call node o)
under_tells s handle call given name answer node is tells (Some fault) = λ told same. cc
under_tells s handle call given name answer node is tells None =
    rw is (either_result (has_right handle.mode rights.Read) (λ o. Tells s handle.name name answer o) (Some given) (Some (results.Refused (faults.Denied rights.Read))) tells (λ told same. cc))

on_tells : (s : MasterState) (handle : Handle) (call : Call) (name : List ℕ) (answer : CallResult) (sequencer : Option (List ℕ)) → ((node : Node) → get_node s.nodes handle.name ≡ Some node → (o : Option Fault) → Tells s handle.name name answer (answer_under (name_space s) handle call node o))
    → Tells s handle.name name answer (option_map_or (λ node. answer_under (name_space s) handle call node (sequencer_fault (name_space s) sequencer)) (node_of_handle (name_space s) handle) (Some (results.Refused faults.StaleInstance)))
on_tells s handle call name answer sequencer tells =
    at_node (λ node. answer_under (name_space s) handle call node (sequencer_fault (name_space s) sequencer)) (Some (results.Refused faults.StaleInstance)) (get_node s.nodes handle.name) handle.instance (λ given. Tells s handle.name name answer given)
    (λ node here. tells node here (sequencer_fault (name_space s) sequencer))
    (λ told is. cc)

read_tells : (s : MasterState) (handle : Handle) (bytes name : List ℕ) (answer : CallResult) (sequencer : Option (List ℕ)) → Tells s handle.name name answer (answer_on (name_space s) handle (calls.Read bytes) sequencer)
read_tells s handle bytes name answer sequencer =
    on_tells s handle (calls.Read bytes) name answer sequencer
    (λ node here. under_tells s handle (calls.Read bytes) (results.Viewed (view_of s.nodes handle.name node)) name answer node refl (shown_tells s handle.name name answer (results.Viewed (view_of s.nodes handle.name node)) node here refl refl))

names_tell : (s : MasterState) (handle : Handle) (bytes name : List ℕ) (answer : CallResult) (sequencer : Option (List ℕ)) → Tells s handle.name name answer (answer_on (name_space s) handle (calls.List bytes) sequencer)
names_tell s handle bytes name answer sequencer =
    on_tells s handle (calls.List bytes) name answer sequencer
    (λ node here. under_tells s handle (calls.List bytes) (list_answer (view_of s.nodes handle.name node) node.kind) name answer node refl (list_tells s handle.name name answer node here node.kind))

-- an answer that tells nothing of a handle's name
abbrev IsSilent : List ℕ → Option CallResult → Type 0
IsSilent own given = option_and_then (viewed_name own) given ≡ None

silent_write : (own content : List ℕ) (kind : Kind) → IsSilent own (write_fault kind content)
silent_write own content kinds.Directory = refl
silent_write own content kinds.File = either_result (nat_lt content_limit (length content)) (λ given. IsSilent own given) (Some (results.Refused faults.TooLarge)) None refl refl

-- where the handle isn't opened for the right
silent_without : (own : List ℕ) (handle : Handle) (right : Right) (given : Option CallResult) → IsSilent own given → IsSilent own (needing handle right given)
silent_without own handle right given h = either_result (has_right handle.mode right) (λ o. IsSilent own o) given (Some (results.Refused (faults.Denied right))) h refl

silent_under : (s : MasterState) (handle : Handle) (call : Call) (view : Node) (o : Option Fault) → IsSilent handle.name (answer_on_node (name_space s) handle call view) → IsSilent handle.name (answer_under (name_space s) handle call view o)
silent_under s handle call view None h = h
silent_under s handle call view (Some fault) h = refl

silent_release : (s : MasterState) (own : List ℕ) (handle : Handle) → IsSilent own (release_fault (name_space s) handle)
silent_release s own handle = either_result (is_none (hold_of (lock_under (name_space s) handle) (owner_of handle))) (λ o. IsSilent own o) (Some (results.Refused faults.NotHolder)) None refl refl

silent_result : (own : List ℕ) (given : Result Sequencer Fault) → IsSilent own (Some (sequencer_result given))
silent_result own (Ok sequencer) = refl
silent_result own (Err fault) = refl

silent_on : (s : MasterState) (handle : Handle) (call : Call) (sequencer : Option (List ℕ)) → ((view : Node) → IsSilent handle.name (answer_on_node (name_space s) handle call view)) → IsSilent handle.name (option_map_or (λ view. answer_under (name_space s) handle call view (sequencer_fault (name_space s) sequencer)) (node_of_handle (name_space s) handle) (Some (results.Refused faults.StaleInstance)))
silent_on s handle call sequencer h =
    at_node (λ view. answer_under (name_space s) handle call view (sequencer_fault (name_space s) sequencer)) (Some (results.Refused faults.StaleInstance)) (get_node s.nodes handle.name) handle.instance (λ given. IsSilent handle.name given)
    (λ view here. silent_under s handle call view (sequencer_fault (name_space s) sequencer) (h view)) refl

-- the goal, by what a call asks
abbrev IsShown : MasterState → Call → List ℕ → CallResult → Type 0
IsShown s call name answer = (name_asked s.secret call ≡ Some name) × (shown_by answer ≡ view_at s.nodes name)

silent_shown : (s : MasterState) (call : Call) (sequencer : Option (List ℕ)) (name : List ℕ) (answer : CallResult) (o : Option Handle) → ((handle : Handle) → IsSilent handle.name (answer_on (name_space s) handle call sequencer)) → (handle_admission s call sequencer o).told ≡ Some name → IsShown s call name answer
silent_shown s call sequencer name answer None h told = cc
silent_shown s call sequencer name answer (Some handle) h told = let none = h handle in cc

read_shown : (s : MasterState) (client : ℕ) (sequencer : Option (List ℕ)) (bytes name : List ℕ) (answer : CallResult) (o : Option Handle) → shown_handle s client bytes ≡ o → (handle_admission s (calls.Read bytes) sequencer o).told ≡ Some name → (handle_admission s (calls.Read bytes) sequencer o).answer ≡ Some answer → IsShown s (calls.Read bytes) name answer
read_shown s client sequencer bytes name answer None is told answers = cc
read_shown s client sequencer bytes name answer (Some handle) is told answers =
    let tells = read_tells s handle bytes name answer sequencer told answers in
    (ap (option_map (λ h. h.name)) (shown_read s client (read_handle s.secret bytes) handle is) ∙ ap Some tells.0, tells.1)

names_shown : (s : MasterState) (client : ℕ) (sequencer : Option (List ℕ)) (bytes name : List ℕ) (answer : CallResult) (o : Option Handle) → shown_handle s client bytes ≡ o → (handle_admission s (calls.List bytes) sequencer o).told ≡ Some name → (handle_admission s (calls.List bytes) sequencer o).answer ≡ Some answer → IsShown s (calls.List bytes) name answer
names_shown s client sequencer bytes name answer None is told answers = cc
names_shown s client sequencer bytes name answer (Some handle) is told answers =
    let tells = names_tell s handle bytes name answer sequencer told answers in
    (ap (option_map (λ h. h.name)) (shown_read s client (read_handle s.secret bytes) handle is) ∙ ap Some tells.0, tells.1)

-- ---- an Open that makes nothing

-- only of a node that is absent does it tell
abbrev TellsAbsence : MasterState → Open → List ℕ → CallResult → Result Handle Fault → Type 0
TellsAbsence s opening name answer opened = told_by_open opening.name opened ≡ Some name → opened_answer (name_space s) opened ≡ answer → (opening.name ≡ name) × (shown_by answer ≡ view_at s.nodes name)

present_tells : (s : MasterState) (opening : Open) (name : List ℕ) (answer : CallResult) (missing : Option Right) (long numbered : Bool) (handle : Handle) → TellsAbsence s opening name answer (option_map_or (λ right. Err (faults.Denied right)) missing (cond long (Err faults.DelayTooLong) (cond numbered (Ok handle) (Err faults.Exhausted))))
present_tells s opening name answer (Some right) long numbered handle told is = cc
present_tells s opening name answer None true numbered handle told is = cc
present_tells s opening name answer None false true handle told is = cc
present_tells s opening name answer None false false handle told is = cc

inner : {A : Type 0} (x y : A) → Some x ≡ Some y → x ≡ y
inner x y h = cc

open_tells : (s : MasterState) (client number : ℕ) (opening : Open) (name : List ℕ) (answer : CallResult) (o : Option Node) → get_node s.nodes opening.name ≡ o → TellsAbsence s opening name answer (option_map_or (λ view. open_present (name_space s) (caller s client) number opening view) o (Err faults.NotFound))
open_tells s client number opening name answer None here told is =
    let same : opening.name ≡ name = cc in
    (same, ap shown_by (sym is) ∙ sym (ap (option_map (view_of s.nodes opening.name)) here) ∙ ap (view_at s.nodes) same)
open_tells s client number opening name answer (Some view) here told is =
    present_tells s opening name answer (missing_right (name_space s) (caller s client) opening.mode view) (is_too_long opening.delay) (is_ordinal s.epoch && is_ordinal view.instance) _ told is

absence_shown : (s : MasterState) (client number : ℕ) (opening : Open) (name : List ℕ) (answer : CallResult) (o : Option Create) → opening.create ≡ o → (admission_of_open s client number opening o).told ≡ Some name → (admission_of_open s client number opening o).answer ≡ Some answer → IsShown s (calls.Open opening) name answer
absence_shown s client number opening name answer (Some create) is told answers = cc
absence_shown s client number opening name answer None is told answers =
    let tells = open_tells s client number opening name answer (get_node s.nodes opening.name) refl told (inner (opened_answer (name_space s) (plain_open (name_space s) (caller s client) number opening)) answer answers) in
    (ap (λ (create : Option Create). cond (is_none create) (Some opening.name) None) is ∙ ap Some tells.0, tells.1)

under_shown : (s : MasterState) (client number : ℕ) (opening : Open) (name : List ℕ) (answer : CallResult) (o : Option Fault) → (admission_under s client number opening o).told ≡ Some name → (admission_under s client number opening o).answer ≡ Some answer → IsShown s (calls.Open opening) name answer
under_shown s client number opening name answer (Some fault) told answers = cc
under_shown s client number opening name answer None told answers = absence_shown s client number opening name answer opening.create refl told answers

open_shown : (P : Type 0) (b : Bool) (x : Admission) (name : List ℕ) (answer other : CallResult) → (x.told ≡ Some name → x.answer ≡ Some answer → P) → (cond b x (answering other)).told ≡ Some name → (cond b x (answering other)).answer ≡ Some answer → P
open_shown P true x name answer other h told answers = h told answers
open_shown P false x name answer other h told answers = absurd cc

check_tells_nothing : (s : MasterState) (bytes name : List ℕ) (o : Option Fault) → (check_admission s bytes o).told ≡ Some name → ⊥
check_tells_nothing s bytes name None told = cc
check_tells_nothing s bytes name (Some fault) told = cc

-- ---- the lemma

-- an answer that tells of a name answers a call that asks for it, and tells what it shows
pub told_is_shown : (s : MasterState) (client number : ℕ) (call : Call) (sequencer : Option (List ℕ)) (name : List ℕ) (answer : CallResult) → (admission_of s client number call sequencer).told ≡ Some name → (admission_of s client number call sequencer).answer ≡ Some answer → (name_asked s.secret call ≡ Some name) × (shown_by answer ≡ view_at s.nodes name)
told_is_shown s client number (calls.Open opening) sequencer name answer told answers =
    let under : Admission = admission_under s client number opening (sequencer_fault (name_space s) sequencer) in
    open_shown (IsShown s (calls.Open opening) name answer) (is_of_cell (name_space s) opening.name) under name answer (results.Refused faults.OtherCell) (under_shown s client number opening name answer (sequencer_fault (name_space s) sequencer)) told answers
told_is_shown s client number (calls.Read bytes) sequencer name answer told answers = read_shown s client sequencer bytes name answer (shown_handle s client bytes) refl told answers
told_is_shown s client number (calls.CheckSequencer bytes) sequencer name answer told answers = absurd (check_tells_nothing s bytes name (sequencer_fault (name_space s) sequencer) told)
told_is_shown s client number calls.Leave sequencer name answer told answers = absurd cc
told_is_shown s client number (calls.Close bytes) sequencer name answer told answers =
    silent_shown s (calls.Close bytes) sequencer name answer (shown_handle s client bytes) (λ handle. refl) told
told_is_shown s client number (calls.Stat bytes) sequencer name answer told answers =
    silent_shown s (calls.Stat bytes) sequencer name answer (shown_handle s client bytes) (λ handle. silent_on s handle (calls.Stat bytes) sequencer (λ view. refl)) told
told_is_shown s client number (calls.List bytes) sequencer name answer told answers = names_shown s client sequencer bytes name answer (shown_handle s client bytes) refl told answers
told_is_shown s client number (calls.Set bytes content generation) sequencer name answer told answers =
    silent_shown s (calls.Set bytes content generation) sequencer name answer (shown_handle s client bytes) (λ handle. silent_on s handle (calls.Set bytes content generation) sequencer (λ view. silent_without handle.name handle rights.Write (write_fault view.kind content) (silent_write handle.name content view.kind))) told
told_is_shown s client number (calls.SetAcl bytes acls generation) sequencer name answer told answers =
    silent_shown s (calls.SetAcl bytes acls generation) sequencer name answer (shown_handle s client bytes) (λ handle. silent_on s handle (calls.SetAcl bytes acls generation) sequencer (λ view. silent_without handle.name handle rights.Change None refl)) told
told_is_shown s client number (calls.Delete bytes) sequencer name answer told answers =
    silent_shown s (calls.Delete bytes) sequencer name answer (shown_handle s client bytes) (λ handle. silent_on s handle (calls.Delete bytes) sequencer (λ view. silent_without handle.name handle rights.Write None refl)) told
told_is_shown s client number (calls.Acquire bytes mode) sequencer name answer told answers =
    silent_shown s (calls.Acquire bytes mode) sequencer name answer (shown_handle s client bytes) (λ handle. silent_on s handle (calls.Acquire bytes mode) sequencer (λ view. silent_without handle.name handle rights.Write None refl)) told
told_is_shown s client number (calls.TryAcquire bytes mode) sequencer name answer told answers =
    silent_shown s (calls.TryAcquire bytes mode) sequencer name answer (shown_handle s client bytes) (λ handle. silent_on s handle (calls.TryAcquire bytes mode) sequencer (λ view. silent_without handle.name handle rights.Write None refl)) told
told_is_shown s client number (calls.Release bytes) sequencer name answer told answers =
    silent_shown s (calls.Release bytes) sequencer name answer (shown_handle s client bytes) (λ handle. silent_on s handle (calls.Release bytes) sequencer (λ view. silent_without handle.name handle rights.Write (release_fault (name_space s) handle) (silent_release s handle.name handle))) told
told_is_shown s client number (calls.GetSequencer bytes) sequencer name answer told answers =
    silent_shown s (calls.GetSequencer bytes) sequencer name answer (shown_handle s client bytes) (λ handle. silent_on s handle (calls.GetSequencer bytes) sequencer (λ view. silent_result handle.name (sequencer_of (lock_under (name_space s) handle) handle.instance handle.name (owner_of handle)))) told
told_is_shown s client number (calls.SetSequencer bytes) sequencer name answer told answers =
    silent_shown s (calls.SetSequencer bytes) sequencer name answer (shown_handle s client bytes) (λ handle. silent_on s handle (calls.SetSequencer bytes) sequencer (λ view. refl)) told
