-- Calls are read as they were written.
use Rattle.std.proofs.Common.{◌≡◌, ℕ, zero, suc, ◌+◌, ◌<◌, ◌≤◌, Bool, true, false, List, [], ◌∷◌, ◌++◌, length, Option, Some, None, Result, Ok, Err, refl, sym, ap, ◌∙◌, arith}
use Rattle.node_core.specs.declared.kinds.Kind.{Kind}
use Rattle.node_core.specs.declared.kinds.Kind.TheVariants as kinds
use Rattle.node_core.specs.declared.kinds.LockMode.{LockMode}
use Rattle.tags_cell.specs.declared.messages.calls.AclNames.{AclNames}
use Rattle.tags_cell.specs.declared.messages.calls.NewNode.{NewNode}
use Rattle.tags_cell.specs.declared.messages.calls.NewNode.TheVariants as nodes
use Rattle.tags_cell.specs.declared.messages.calls.Create.{Create}
use Rattle.tags_cell.specs.declared.messages.calls.Open.{Open}
use Rattle.tags_cell.specs.declared.messages.calls.Call.{Call}
use Rattle.tags_cell.specs.declared.messages.calls.Call.TheVariants as calls
use Rattle.codec.specs.declared.faults.WireFault.{WireFault}
use Rattle.codec.specs.declared.kinds.CallKind.{CallKind}
use Rattle.codec.specs.declared.kinds.CallKind.TheVariants as of
use Rattle.codec.specs.Forms.{Form, nothing, ◌⊗◌, made, choice, of_kind, behind, optional}
use Rattle.codec.specs.Fields.{word, optional_word, block, name, component, kind, life, lock_mode, disposition, mode, events}
use Rattle.codec.specs.Calls.{acl_names, optional_acl_names, node_kind, node_is, node_bytes, node_behind, new_node, create, optional_create, open_call, set_fields, set_acl_fields, lock_fields, all_calls, call_place, call_kind, call_is, call_bytes, call_behind, call}
use Rattle.codec.proofs.FormLaws.{IsBytes, IsShort, IsForm, Takes, TakesKind, TakesRoom, ok_is, number_form_4, number_form_8, byte_form, counted_form, nothing_form, pair_form, made_form, tested_form, choice_form, of_kind_form, behind_takes, behind_again, optional_form, listed_form}
use Rattle.codec.proofs.FieldLaws.{word_form, optional_word_form, client_form, ordinal_form, block_form, optional_block_form, name_form, component_form, kind_form, life_form, lock_mode_form, disposition_form, mode_form, events_form}

pub acl_names_form : IsForm acl_names
unfolding acl_names
acl_names_form = made_form (λ x. record { read = x.0; write = x.1.0; change = x.1.1 }) (λ acls. (acls.read, (acls.write, acls.change))) (λ a h. refl) (λ b. refl) (pair_form component_form (pair_form component_form component_form))

pub optional_acl_names_form : IsForm optional_acl_names
unfolding optional_acl_names
optional_acl_names_form = optional_form acl_names_form

node_any : (x : NewNode) → kind.is (node_kind x)
unfolding kind
node_any (nodes.File content) = refl
node_any nodes.Directory = refl

node_takes : (k : Kind) (bytes : List ℕ) (x : NewNode) (rest : List ℕ) → kind.is k → IsBytes bytes → node_behind k bytes ≡ Ok (x, rest) → TakesKind node_kind node_is node_bytes k bytes x rest
node_takes kinds.File bytes x rest placed fits e = behind_takes nodes.File kinds.File block_form (λ a. refl) (λ a h. h) (λ a. refl) bytes x rest fits e
node_takes kinds.Directory bytes x rest placed fits e = behind_takes (λ _. nodes.Directory) kinds.Directory nothing_form (λ a. refl) (λ a h. h) (λ a. refl) bytes x rest fits e

node_again : (x : NewNode) (rest : List ℕ) → node_is x → IsShort (node_bytes x) → node_behind (node_kind x) (node_bytes x ++ rest) ≡ Ok (x, rest)
node_again (nodes.File content) rest holds short = behind_again nodes.File block_form content rest holds short
node_again nodes.Directory rest holds short = behind_again (λ _. nodes.Directory) nothing_form tt rest holds short

pub new_node_form : IsForm new_node
unfolding new_node
new_node_form = of_kind_form node_kind node_is node_bytes node_behind kind_form node_any node_takes node_again

pub create_form : IsForm create
unfolding create
create_form = made_form (λ x. record { disposition = x.0; node = x.1.0; life = x.1.1.0; acls = x.1.1.1 }) (λ c. (c.disposition, (c.node, (c.life, c.acls)))) (λ a h. refl) (λ b. refl) (pair_form disposition_form (pair_form new_node_form (pair_form life_form optional_acl_names_form)))

pub optional_create_form : IsForm optional_create
unfolding optional_create
optional_create_form = optional_form create_form

pub open_call_form : IsForm open_call
unfolding open_call
open_call_form = made_form (λ x. record { name = x.0; mode = x.1.0; create = x.1.1.0; delay = x.1.1.1.0; events = x.1.1.1.1 }) (λ o. (o.name, (o.mode, (o.create, (o.delay, o.events))))) (λ a h. refl) (λ b. refl) (pair_form name_form (pair_form mode_form (pair_form optional_create_form (pair_form word_form events_form))))

pub set_fields_form : IsForm set_fields
set_fields_form = pair_form block_form (pair_form block_form optional_word_form)

pub set_acl_fields_form : IsForm set_acl_fields
set_acl_fields_form = pair_form block_form (pair_form acl_names_form optional_word_form)

pub lock_fields_form : IsForm lock_fields
lock_fields_form = pair_form block_form lock_mode_form

call_any : (x : Call) → (choice all_calls call_place).is (call_kind x)
call_any (calls.Open o) = refl
call_any (calls.Close handle) = refl
call_any (calls.Read handle) = refl
call_any (calls.Stat handle) = refl
call_any (calls.List handle) = refl
call_any (calls.Set handle content generation) = refl
call_any (calls.SetAcl handle acls generation) = refl
call_any (calls.Delete handle) = refl
call_any (calls.Acquire handle held) = refl
call_any (calls.TryAcquire handle held) = refl
call_any (calls.Release handle) = refl
call_any (calls.GetSequencer handle) = refl
call_any (calls.SetSequencer handle) = refl
call_any (calls.CheckSequencer bytes) = refl
call_any calls.Leave = refl

call_takes : (k : CallKind) (bytes : List ℕ) (x : Call) (rest : List ℕ) → (choice all_calls call_place).is k → IsBytes bytes → call_behind k bytes ≡ Ok (x, rest)
    → TakesKind call_kind call_is call_bytes k bytes x rest
call_takes of.Open bytes x rest placed fits e = behind_takes calls.Open of.Open open_call_form (λ a. refl) (λ a h. h) (λ a. refl) bytes x rest fits e
call_takes of.Close bytes x rest placed fits e = behind_takes calls.Close of.Close block_form (λ a. refl) (λ a h. h) (λ a. refl) bytes x rest fits e
call_takes of.Read bytes x rest placed fits e = behind_takes calls.Read of.Read block_form (λ a. refl) (λ a h. h) (λ a. refl) bytes x rest fits e
call_takes of.Stat bytes x rest placed fits e = behind_takes calls.Stat of.Stat block_form (λ a. refl) (λ a h. h) (λ a. refl) bytes x rest fits e
call_takes of.List bytes x rest placed fits e = behind_takes calls.List of.List block_form (λ a. refl) (λ a h. h) (λ a. refl) bytes x rest fits e
call_takes of.Set bytes x rest placed fits e = behind_takes (λ x. calls.Set x.0 x.1.0 x.1.1) of.Set set_fields_form (λ a. refl) (λ a h. h) (λ a. refl) bytes x rest fits e
call_takes of.SetAcl bytes x rest placed fits e = behind_takes (λ x. calls.SetAcl x.0 x.1.0 x.1.1) of.SetAcl set_acl_fields_form (λ a. refl) (λ a h. h) (λ a. refl) bytes x rest fits e
call_takes of.Delete bytes x rest placed fits e = behind_takes calls.Delete of.Delete block_form (λ a. refl) (λ a h. h) (λ a. refl) bytes x rest fits e
call_takes of.Acquire bytes x rest placed fits e = behind_takes (λ x. calls.Acquire x.0 x.1) of.Acquire lock_fields_form (λ a. refl) (λ a h. h) (λ a. refl) bytes x rest fits e
call_takes of.TryAcquire bytes x rest placed fits e = behind_takes (λ x. calls.TryAcquire x.0 x.1) of.TryAcquire lock_fields_form (λ a. refl) (λ a h. h) (λ a. refl) bytes x rest fits e
call_takes of.Release bytes x rest placed fits e = behind_takes calls.Release of.Release block_form (λ a. refl) (λ a h. h) (λ a. refl) bytes x rest fits e
call_takes of.GetSequencer bytes x rest placed fits e = behind_takes calls.GetSequencer of.GetSequencer block_form (λ a. refl) (λ a h. h) (λ a. refl) bytes x rest fits e
call_takes of.SetSequencer bytes x rest placed fits e = behind_takes calls.SetSequencer of.SetSequencer block_form (λ a. refl) (λ a h. h) (λ a. refl) bytes x rest fits e
call_takes of.CheckSequencer bytes x rest placed fits e = behind_takes calls.CheckSequencer of.CheckSequencer block_form (λ a. refl) (λ a h. h) (λ a. refl) bytes x rest fits e
call_takes of.Leave bytes x rest placed fits e = behind_takes (λ _. calls.Leave) of.Leave nothing_form (λ a. refl) (λ a h. h) (λ a. refl) bytes x rest fits e

call_again : (x : Call) (rest : List ℕ) → call_is x → IsShort (call_bytes x) → call_behind (call_kind x) (call_bytes x ++ rest) ≡ Ok (x, rest)
call_again (calls.Open o) rest holds short = behind_again calls.Open open_call_form o rest holds short
call_again (calls.Close handle) rest holds short = behind_again calls.Close block_form handle rest holds short
call_again (calls.Read handle) rest holds short = behind_again calls.Read block_form handle rest holds short
call_again (calls.Stat handle) rest holds short = behind_again calls.Stat block_form handle rest holds short
call_again (calls.List handle) rest holds short = behind_again calls.List block_form handle rest holds short
call_again (calls.Set handle content generation) rest holds short = behind_again (λ x. calls.Set x.0 x.1.0 x.1.1) set_fields_form (handle, (content, generation)) rest holds short
call_again (calls.SetAcl handle acls generation) rest holds short = behind_again (λ x. calls.SetAcl x.0 x.1.0 x.1.1) set_acl_fields_form (handle, (acls, generation)) rest holds short
call_again (calls.Delete handle) rest holds short = behind_again calls.Delete block_form handle rest holds short
call_again (calls.Acquire handle held) rest holds short = behind_again (λ x. calls.Acquire x.0 x.1) lock_fields_form (handle, held) rest holds short
call_again (calls.TryAcquire handle held) rest holds short = behind_again (λ x. calls.TryAcquire x.0 x.1) lock_fields_form (handle, held) rest holds short
call_again (calls.Release handle) rest holds short = behind_again calls.Release block_form handle rest holds short
call_again (calls.GetSequencer handle) rest holds short = behind_again calls.GetSequencer block_form handle rest holds short
call_again (calls.SetSequencer handle) rest holds short = behind_again calls.SetSequencer block_form handle rest holds short
call_again (calls.CheckSequencer bytes) rest holds short = behind_again calls.CheckSequencer block_form bytes rest holds short
call_again calls.Leave rest holds short = behind_again (λ _. calls.Leave) nothing_form tt rest holds short

pub call_form : IsForm call
unfolding call
call_form = of_kind_form call_kind call_is call_bytes call_behind (choice_form all_calls call_place refl) call_any call_takes call_again
