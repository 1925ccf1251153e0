-- The forms of calls.
use Rattle.std.specs.Prelude.{ℕ, ◌≡◌, List, [], ◌∷◌, ◌++◌, Option, Result}
use Rattle.node_core.specs.declared.kinds.Kind.{Kind}
use Rattle.node_core.specs.declared.kinds.Kind.TheVariants as kinds
use Rattle.node_core.specs.declared.kinds.LockMode.{LockMode}
use Rattle.tags_cell.specs.declared.messages.calls.AclNames.{AclNames}
use Rattle.tags_cell.specs.declared.messages.calls.NewNode.{NewNode}
use Rattle.tags_cell.specs.declared.messages.calls.NewNode.TheVariants as nodes
use Rattle.tags_cell.specs.declared.messages.calls.Create.{Create}
use Rattle.tags_cell.specs.declared.messages.calls.Open.{Open}
use Rattle.tags_cell.specs.declared.messages.calls.Call.{Call}
use Rattle.tags_cell.specs.declared.messages.calls.Call.TheVariants as calls
use Rattle.codec.specs.declared.faults.WireFault.{WireFault}
use Rattle.codec.specs.declared.kinds.CallKind.{CallKind}
use Rattle.codec.specs.declared.kinds.CallKind.TheVariants as of
use Rattle.codec.specs.Forms.{Form, nothing, ◌⊗◌, made, choice, of_kind, behind, optional}
use Rattle.codec.specs.Fields.{word, optional_word, block, name, component, kind, life, lock_mode, disposition, mode, events}

unfoldable pub acl_names : Form AclNames
acl_names =
    made (λ x. record { read = x.0; write = x.1.0; change = x.1.1 }) (λ acls. (acls.read, (acls.write, acls.change)))
    (component ⊗ component ⊗ component)

unfoldable pub optional_acl_names : Form (Option AclNames)
optional_acl_names = optional acl_names

-- ---- what an Open makes

abbrev pub node_kind : NewNode → Kind
node_kind (nodes.File content) = kinds.File
node_kind nodes.Directory = kinds.Directory

abbrev pub node_is : NewNode → Type 0
node_is (nodes.File content) = block.is content
node_is nodes.Directory = Unit {0}

abbrev pub node_bytes : NewNode → List ℕ
node_bytes (nodes.File content) = block.write content
node_bytes nodes.Directory = []

abbrev pub node_behind : Kind → List ℕ → Result (NewNode × List ℕ) WireFault
node_behind kinds.File bytes = behind nodes.File block bytes
node_behind kinds.Directory bytes = behind (λ _. nodes.Directory) nothing bytes

-- a file with its content, or a directory
unfoldable pub new_node : Form NewNode
new_node = of_kind kind node_kind node_is node_bytes node_behind

unfoldable pub create : Form Create
create =
    made (λ x. record { disposition = x.0; node = x.1.0; life = x.1.1.0; acls = x.1.1.1 }) (λ c. (c.disposition, (c.node, (c.life, c.acls))))
    (disposition ⊗ new_node ⊗ life ⊗ optional_acl_names)

unfoldable pub optional_create : Form (Option Create)
optional_create = optional create

unfoldable pub open_call : Form Open
open_call =
    made (λ x. record { name = x.0; mode = x.1.0; create = x.1.1.0; delay = x.1.1.1.0; events = x.1.1.1.1 })
    (λ o. (o.name, (o.mode, (o.create, (o.delay, o.events)))))
    (name ⊗ mode ⊗ optional_create ⊗ word ⊗ events)

-- ---- calls

-- handle, content and generation
abbrev pub set_fields : Form (List ℕ × (List ℕ × Option ℕ))
set_fields = block ⊗ block ⊗ optional_word

-- handle, names and generation
abbrev pub set_acl_fields : Form (List ℕ × (AclNames × Option ℕ))
set_acl_fields = block ⊗ acl_names ⊗ optional_word

-- handle and mode
abbrev pub lock_fields : Form (List ℕ × LockMode)
lock_fields = block ⊗ lock_mode

abbrev pub all_calls : List CallKind
all_calls =
    of.Open ∷ of.Close ∷ of.Read ∷ of.Stat ∷ of.List ∷ of.Set ∷ of.SetAcl
    ∷ of.Delete ∷ of.Acquire ∷ of.TryAcquire ∷ of.Release ∷ of.GetSequencer ∷ of.SetSequencer ∷ of.CheckSequencer ∷ of.Leave ∷ []

abbrev pub call_place : CallKind → ℕ
call_place of.Open = 0
call_place of.Close = 1
call_place of.Read = 2
call_place of.Stat = 3
call_place of.List = 4
call_place of.Set = 5
call_place of.SetAcl = 6
call_place of.Delete = 7
call_place of.Acquire = 8
call_place of.TryAcquire = 9
call_place of.Release = 10
call_place of.GetSequencer = 11
call_place of.SetSequencer = 12
call_place of.CheckSequencer = 13
call_place of.Leave = 14

abbrev pub call_kind : Call → CallKind
call_kind (calls.Open o) = of.Open
call_kind (calls.Close handle) = of.Close
call_kind (calls.Read handle) = of.Read
call_kind (calls.Stat handle) = of.Stat
call_kind (calls.List handle) = of.List
call_kind (calls.Set handle content generation) = of.Set
call_kind (calls.SetAcl handle acls generation) = of.SetAcl
call_kind (calls.Delete handle) = of.Delete
call_kind (calls.Acquire handle mode) = of.Acquire
call_kind (calls.TryAcquire handle mode) = of.TryAcquire
call_kind (calls.Release handle) = of.Release
call_kind (calls.GetSequencer handle) = of.GetSequencer
call_kind (calls.SetSequencer handle) = of.SetSequencer
call_kind (calls.CheckSequencer bytes) = of.CheckSequencer
call_kind calls.Leave = of.Leave

abbrev pub call_is : Call → Type 0
call_is (calls.Open o) = open_call.is o
call_is (calls.Close handle) = block.is handle
call_is (calls.Read handle) = block.is handle
call_is (calls.Stat handle) = block.is handle
call_is (calls.List handle) = block.is handle
call_is (calls.Set handle content generation) = set_fields.is (handle, (content, generation))
call_is (calls.SetAcl handle acls generation) = set_acl_fields.is (handle, (acls, generation))
call_is (calls.Delete handle) = block.is handle
call_is (calls.Acquire handle mode) = lock_fields.is (handle, mode)
call_is (calls.TryAcquire handle mode) = lock_fields.is (handle, mode)
call_is (calls.Release handle) = block.is handle
call_is (calls.GetSequencer handle) = block.is handle
call_is (calls.SetSequencer handle) = block.is handle
call_is (calls.CheckSequencer bytes) = block.is bytes
call_is calls.Leave = Unit {0}

abbrev pub call_bytes : Call → List ℕ
call_bytes (calls.Open o) = open_call.write o
call_bytes (calls.Close handle) = block.write handle
call_bytes (calls.Read handle) = block.write handle
call_bytes (calls.Stat handle) = block.write handle
call_bytes (calls.List handle) = block.write handle
call_bytes (calls.Set handle content generation) = set_fields.write (handle, (content, generation))
call_bytes (calls.SetAcl handle acls generation) = set_acl_fields.write (handle, (acls, generation))
call_bytes (calls.Delete handle) = block.write handle
call_bytes (calls.Acquire handle mode) = lock_fields.write (handle, mode)
call_bytes (calls.TryAcquire handle mode) = lock_fields.write (handle, mode)
call_bytes (calls.Release handle) = block.write handle
call_bytes (calls.GetSequencer handle) = block.write handle
call_bytes (calls.SetSequencer handle) = block.write handle
call_bytes (calls.CheckSequencer bytes) = block.write bytes
call_bytes calls.Leave = []

abbrev pub call_behind : CallKind → List ℕ → Result (Call × List ℕ) WireFault
call_behind of.Open rest = behind calls.Open open_call rest
call_behind of.Close rest = behind calls.Close block rest
call_behind of.Read rest = behind calls.Read block rest
call_behind of.Stat rest = behind calls.Stat block rest
call_behind of.List rest = behind calls.List block rest
call_behind of.Set rest = behind (λ x. calls.Set x.0 x.1.0 x.1.1) set_fields rest
call_behind of.SetAcl rest = behind (λ x. calls.SetAcl x.0 x.1.0 x.1.1) set_acl_fields rest
call_behind of.Delete rest = behind calls.Delete block rest
call_behind of.Acquire rest = behind (λ x. calls.Acquire x.0 x.1) lock_fields rest
call_behind of.TryAcquire rest = behind (λ x. calls.TryAcquire x.0 x.1) lock_fields rest
call_behind of.Release rest = behind calls.Release block rest
call_behind of.GetSequencer rest = behind calls.GetSequencer block rest
call_behind of.SetSequencer rest = behind calls.SetSequencer block rest
call_behind of.CheckSequencer rest = behind calls.CheckSequencer block rest
call_behind of.Leave rest = behind (λ _. calls.Leave) nothing rest

-- the kind of a call, and its fields
unfoldable pub call : Form Call
call = of_kind (choice all_calls call_place) call_kind call_is call_bytes call_behind
