-- The forms of a call's end, and of all that a master sends.
use Rattle.std.specs.Prelude.{ℕ, ◌==◌, Bool, true, List, [], ◌∷◌, length, Result, Err, if◌then◌else◌}
use Rattle.node_core.specs.declared.kinds.Kind.{Kind}
use Rattle.node_core.specs.declared.kinds.Kind.TheVariants as kinds
use Rattle.node_core.specs.declared.nodes.Node.{Node}
use Rattle.node_core.specs.declared.views.View.{View}
use Rattle.node_core.specs.declared.stats.Stat.{Stat}
use Rattle.tags_cell.specs.declared.messages.outs.Started.{Started}
use Rattle.tags_cell.specs.declared.messages.outs.NewHandle.{NewHandle}
use Rattle.tags_cell.specs.declared.messages.outs.CallResult.{CallResult}
use Rattle.tags_cell.specs.declared.messages.outs.CallResult.TheVariants as results
use Rattle.tags_cell.specs.declared.messages.outs.Reply.{Reply}
use Rattle.tags_cell.specs.declared.messages.outs.Refused.{Refused}
use Rattle.tags_cell.specs.declared.messages.outs.Out.{Out}
use Rattle.tags_cell.specs.declared.messages.outs.Out.TheVariants as outs
use Rattle.codec.specs.declared.faults.WireFault.{WireFault}
use Rattle.codec.specs.declared.faults.WireFault.TheVariants.{BadNumber}
use Rattle.codec.specs.declared.kinds.ResultKind.{ResultKind}
use Rattle.codec.specs.declared.kinds.ResultKind.TheVariants as ends
use Rattle.codec.specs.declared.kinds.OutKind.{OutKind}
use Rattle.codec.specs.declared.kinds.OutKind.TheVariants as of
use Rattle.codec.specs.Forms.{Form, nothing, ◌⊗◌, made, tested, choice, of_kind, behind, listed, written}
use Rattle.codec.specs.Fields.{word, optional_word, client, ordinal, block, component, kind, life}
use Rattle.codec.specs.Faults.{fault}
use Rattle.codec.specs.Beats.{alive}

unfoldable pub started : Form Started
started =
    made (λ x. record { client = x.0; epoch = x.1.0; number = x.1.1.0; span = x.1.1.1 }) (λ s. (s.client, (s.epoch, (s.number, s.span))))
    (client ⊗ word ⊗ ordinal ⊗ word)

-- ---- what a call gives

unfoldable pub new_handle : Form NewHandle
new_handle = made (λ x. record { bytes = x.0; instance = x.1.0; life = x.1.1 }) (λ h. (h.bytes, (h.instance, h.life))) (block ⊗ ordinal ⊗ life)

unfoldable pub node : Form Node
node =
    made (λ x. record {
      kind = x.0;
      instance = x.1.0;
      content_generation = x.1.1.0;
      acl_generation = x.1.1.1.0;
      read = x.1.1.1.1.0;
      write = x.1.1.1.1.1.0;
      change = x.1.1.1.1.1.1.0;
      life = x.1.1.1.1.1.1.1.0;
      content = x.1.1.1.1.1.1.1.1;
    })
    (λ v. (v.kind, (v.instance, (v.content_generation, (v.acl_generation, (v.read, (v.write, (v.change, (v.life, v.content)))))))))
    (kind ⊗ word ⊗ word ⊗ word ⊗ component ⊗ component ⊗ component ⊗ life ⊗ block)

unfoldable pub components : Form (List (List ℕ))
components = listed component

-- a file has no children
abbrev pub may_have : Kind → List (List ℕ) → Bool
may_have kinds.File children = length children == 0
may_have kinds.Directory children = true

abbrev pub is_view : View → Bool
is_view seen = may_have seen.node.kind seen.children

unfoldable pub view : Form View
view = tested BadNumber is_view (made (λ x. record { node = x.0; children = x.1 }) (λ v. (v.node, v.children)) (node ⊗ components))

unfoldable pub stat : Form Stat
stat =
    made (λ x. record {
      kind = x.0;
      instance = x.1.0;
      content_generation = x.1.1.0;
      acl_generation = x.1.1.1.0;
      lock_generation = x.1.1.1.1.0;
      read = x.1.1.1.1.1.0;
      write = x.1.1.1.1.1.1.0;
      change = x.1.1.1.1.1.1.1.0;
      life = x.1.1.1.1.1.1.1.1.0;
      length = x.1.1.1.1.1.1.1.1.1;
    })
    (λ s. (s.kind, (s.instance, (s.content_generation, (s.acl_generation, (s.lock_generation, (s.read, (s.write, (s.change, (s.life, s.length))))))))))
    (kind ⊗ word ⊗ word ⊗ word ⊗ word ⊗ component ⊗ component ⊗ component ⊗ life ⊗ word)

abbrev pub all_results : List ResultKind
all_results = ends.Opened ∷ ends.Closed ∷ ends.Viewed ∷ ends.Stated ∷ ends.Listed ∷ ends.Sequencer ∷ ends.Done ∷ ends.Refused ∷ []

abbrev pub result_place : ResultKind → ℕ
result_place ends.Opened = 0
result_place ends.Closed = 1
result_place ends.Viewed = 2
result_place ends.Stated = 3
result_place ends.Listed = 4
result_place ends.Sequencer = 5
result_place ends.Done = 6
result_place ends.Refused = 7

abbrev pub result_kind : CallResult → ResultKind
result_kind (results.Opened handle) = ends.Opened
result_kind results.Closed = ends.Closed
result_kind (results.Viewed seen) = ends.Viewed
result_kind (results.Stated told) = ends.Stated
result_kind (results.Listed seen) = ends.Listed
result_kind (results.Sequencer bytes) = ends.Sequencer
result_kind results.Done = ends.Done
result_kind (results.Refused why) = ends.Refused

abbrev pub result_is : CallResult → Type 0
result_is (results.Opened handle) = new_handle.is handle
result_is results.Closed = nothing.is tt
result_is (results.Viewed seen) = view.is seen
result_is (results.Stated told) = stat.is told
result_is (results.Listed seen) = view.is seen
result_is (results.Sequencer bytes) = block.is bytes
result_is results.Done = nothing.is tt
result_is (results.Refused why) = fault.is why

abbrev pub result_bytes : CallResult → List ℕ
result_bytes (results.Opened handle) = new_handle.write handle
result_bytes results.Closed = nothing.write tt
result_bytes (results.Viewed seen) = view.write seen
result_bytes (results.Stated told) = stat.write told
result_bytes (results.Listed seen) = view.write seen
result_bytes (results.Sequencer bytes) = block.write bytes
result_bytes results.Done = nothing.write tt
result_bytes (results.Refused why) = fault.write why

abbrev pub result_behind : ResultKind → List ℕ → Result (CallResult × List ℕ) WireFault
result_behind ends.Opened rest = behind results.Opened new_handle rest
result_behind ends.Closed rest = behind (λ _. results.Closed) nothing rest
result_behind ends.Viewed rest = behind results.Viewed view rest
result_behind ends.Stated rest = behind results.Stated stat rest
result_behind ends.Listed rest = behind results.Listed view rest
result_behind ends.Sequencer rest = behind results.Sequencer block rest
result_behind ends.Done rest = behind (λ _. results.Done) nothing rest
result_behind ends.Refused rest = behind results.Refused fault rest

-- the kind of a call's end, and what it gives
unfoldable pub call_result : Form CallResult
call_result = of_kind (choice all_results result_place) result_kind result_is result_bytes result_behind

unfoldable pub reply : Form Reply
reply =
    made (λ x. record { client = x.0; epoch = x.1.0; number = x.1.1.0; stamp = x.1.1.1.0; result = x.1.1.1.1 })
    (λ r. (r.client, (r.epoch, (r.number, (r.stamp, r.result)))))
    (client ⊗ word ⊗ ordinal ⊗ optional_word ⊗ call_result)

unfoldable pub refused : Form Refused
refused =
    made (λ x. record { client = x.0; epoch = x.1.0; number = x.1.1.0; fault = x.1.1.1 }) (λ r. (r.client, (r.epoch, (r.number, r.fault))))
    (client ⊗ word ⊗ ordinal ⊗ fault)

-- ---- what a master sends

abbrev pub all_outs : List OutKind
all_outs = of.Started ∷ of.Alive ∷ of.Reply ∷ of.Refused ∷ []

abbrev pub out_place : OutKind → ℕ
out_place of.Started = 0
out_place of.Alive = 1
out_place of.Reply = 2
out_place of.Refused = 3

abbrev pub out_kind : Out → OutKind
out_kind (outs.Started message) = of.Started
out_kind (outs.Alive message) = of.Alive
out_kind (outs.Reply message) = of.Reply
out_kind (outs.Refused message) = of.Refused

abbrev pub out_is : Out → Type 0
out_is (outs.Started message) = started.is message
out_is (outs.Alive message) = alive.is message
out_is (outs.Reply message) = reply.is message
out_is (outs.Refused message) = refused.is message

abbrev pub out_bytes : Out → List ℕ
out_bytes (outs.Started message) = started.write message
out_bytes (outs.Alive message) = alive.write message
out_bytes (outs.Reply message) = reply.write message
out_bytes (outs.Refused message) = refused.write message

abbrev pub out_behind : OutKind → List ℕ → Result (Out × List ℕ) WireFault
out_behind of.Started rest = behind outs.Started started rest
out_behind of.Alive rest = behind outs.Alive alive rest
out_behind of.Reply rest = behind outs.Reply reply rest
out_behind of.Refused rest = behind outs.Refused refused rest

-- the kind of the message, and its fields
unfoldable pub out_message : Form Out
out_message = of_kind (choice all_outs out_place) out_kind out_is out_bytes out_behind

-- ---- what has no bytes

abbrev pub has_view : CallResult → Bool
has_view (results.Viewed seen) = is_view seen
has_view (results.Listed seen) = is_view seen
has_view _ = true

abbrev pub has_bytes : Out → Bool
has_bytes (outs.Reply message) = has_view message.result
has_bytes _ = true

-- the bytes of what a master sends, after the version; none where a file has children
abbrev pub out_written : Out → Result (List ℕ) WireFault
out_written message = if has_bytes message then written out_message message else Err BadNumber
