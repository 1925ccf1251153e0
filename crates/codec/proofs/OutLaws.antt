-- What a master sends is read as it was written.
use Rattle.std.proofs.Common.{◌≡◌, ℕ, zero, suc, ◌+◌, ◌<◌, ◌≤◌, Bool, true, false, cond, List, [], ◌∷◌, ◌++◌, length, Option, Some, None, Result, Ok, Err, refl, sym, ap, ◌∙◌, arith}
use Rattle.node_core.specs.declared.nodes.Node.{Node}
use Rattle.node_core.specs.declared.views.View.{View}
use Rattle.node_core.specs.declared.stats.Stat.{Stat}
use Rattle.tags_cell.specs.declared.messages.outs.Started.{Started}
use Rattle.tags_cell.specs.declared.messages.outs.NewHandle.{NewHandle}
use Rattle.tags_cell.specs.declared.messages.outs.CallResult.{CallResult}
use Rattle.tags_cell.specs.declared.messages.outs.CallResult.TheVariants as results
use Rattle.tags_cell.specs.declared.messages.outs.Reply.{Reply}
use Rattle.tags_cell.specs.declared.messages.outs.Refused.{Refused}
use Rattle.tags_cell.specs.declared.messages.outs.Out.{Out}
use Rattle.tags_cell.specs.declared.messages.outs.Out.TheVariants as outs
use Rattle.codec.specs.declared.faults.WireFault.{WireFault}
use Rattle.codec.specs.declared.faults.WireFault.TheVariants.{BadNumber}
use Rattle.codec.specs.declared.kinds.ResultKind.{ResultKind}
use Rattle.codec.specs.declared.kinds.ResultKind.TheVariants as ends
use Rattle.codec.specs.declared.kinds.OutKind.{OutKind}
use Rattle.codec.specs.declared.kinds.OutKind.TheVariants as of
use Rattle.codec.specs.Forms.{Form, nothing, ◌⊗◌, made, tested, choice, of_kind, behind, listed, version, written, read_whole}
use Rattle.codec.specs.Fields.{word, optional_word, client, ordinal, block, component, kind, life}
use Rattle.codec.specs.Faults.{fault}
use Rattle.codec.specs.Beats.{alive}
use Rattle.codec.specs.Outs.{started, new_handle, node, is_view, view, stat, components, has_view, has_bytes, all_results, result_place, result_kind, result_is, result_bytes, result_behind, call_result, reply, refused, all_outs, out_place, out_kind, out_is, out_bytes, out_behind, out_message, out_written}
use Rattle.codec.proofs.FormLaws.{IsBytes, IsShort, IsForm, Takes, TakesKind, TakesRoom, ok_is, number_form_4, number_form_8, byte_form, counted_form, nothing_form, pair_form, made_form, tested_form, choice_form, of_kind_form, behind_takes, behind_again, optional_form, listed_form, written_is_read, read_was_written, written_begins}
use Rattle.codec.proofs.FieldLaws.{word_form, optional_word_form, client_form, ordinal_form, block_form, optional_block_form, name_form, component_form, kind_form, life_form, lock_mode_form, disposition_form, mode_form, events_form}
use Rattle.codec.proofs.FaultLaws.{fault_form}
use Rattle.codec.proofs.BeatLaws.{alive_form}

pub started_form : IsForm started
unfolding started
started_form = made_form (λ x. record { client = x.0; epoch = x.1.0; number = x.1.1.0; span = x.1.1.1 }) (λ s. (s.client, (s.epoch, (s.number, s.span)))) (λ a h. refl) (λ b. refl) (pair_form client_form (pair_form word_form (pair_form ordinal_form word_form)))

pub new_handle_form : IsForm new_handle
unfolding new_handle
new_handle_form = made_form (λ x. record { bytes = x.0; instance = x.1.0; life = x.1.1 }) (λ h. (h.bytes, (h.instance, h.life))) (λ a h. refl) (λ b. refl) (pair_form block_form (pair_form ordinal_form life_form))

pub node_form : IsForm node
unfolding node
node_form = made_form (λ x. record { kind = x.0; instance = x.1.0; content_generation = x.1.1.0; acl_generation = x.1.1.1.0; read = x.1.1.1.1.0; write = x.1.1.1.1.1.0; change = x.1.1.1.1.1.1.0; life = x.1.1.1.1.1.1.1.0; content = x.1.1.1.1.1.1.1.1 }) (λ v. (v.kind, (v.instance, (v.content_generation, (v.acl_generation, (v.read, (v.write, (v.change, (v.life, v.content))))))))) (λ a h. refl) (λ b. refl) (pair_form kind_form (pair_form word_form (pair_form word_form (pair_form word_form (pair_form component_form (pair_form component_form (pair_form component_form (pair_form life_form block_form))))))))

pub stat_form : IsForm stat
unfolding stat
stat_form = made_form (λ x. record { kind = x.0; instance = x.1.0; content_generation = x.1.1.0; acl_generation = x.1.1.1.0; lock_generation = x.1.1.1.1.0; read = x.1.1.1.1.1.0; write = x.1.1.1.1.1.1.0; change = x.1.1.1.1.1.1.1.0; life = x.1.1.1.1.1.1.1.1.0; length = x.1.1.1.1.1.1.1.1.1 }) (λ s. (s.kind, (s.instance, (s.content_generation, (s.acl_generation, (s.lock_generation, (s.read, (s.write, (s.change, (s.life, s.length)))))))))) (λ a h. refl) (λ b. refl) (pair_form kind_form (pair_form word_form (pair_form word_form (pair_form word_form (pair_form word_form (pair_form component_form (pair_form component_form (pair_form component_form (pair_form life_form word_form)))))))))

component_room : TakesRoom component
unfolding component block
component_room x = omega arith

pub components_form : IsForm components
unfolding components
components_form = listed_form component_room component_form

pub view_form : IsForm view
unfolding view
view_form = tested_form BadNumber is_view (made_form (λ x. record { node = x.0; children = x.1 }) (λ v. (v.node, v.children)) (λ a h. refl) (λ b. refl) (pair_form node_form components_form))

result_any : (x : CallResult) → (choice all_results result_place).is (result_kind x)
result_any (results.Opened handle) = refl
result_any results.Closed = refl
result_any (results.Viewed seen) = refl
result_any (results.Stated told) = refl
result_any (results.Listed seen) = refl
result_any (results.Sequencer bytes) = refl
result_any results.Done = refl
result_any (results.Refused why) = refl

result_takes : (k : ResultKind) (bytes : List ℕ) (x : CallResult) (rest : List ℕ) → (choice all_results result_place).is k → IsBytes bytes → result_behind k bytes ≡ Ok (x, rest)
    → TakesKind result_kind result_is result_bytes k bytes x rest
result_takes ends.Opened bytes x rest placed fits e = behind_takes results.Opened ends.Opened new_handle_form (λ a. refl) (λ a h. h) (λ a. refl) bytes x rest fits e
result_takes ends.Closed bytes x rest placed fits e = behind_takes (λ _. results.Closed) ends.Closed nothing_form (λ a. refl) (λ a h. h) (λ a. refl) bytes x rest fits e
result_takes ends.Viewed bytes x rest placed fits e = behind_takes results.Viewed ends.Viewed view_form (λ a. refl) (λ a h. h) (λ a. refl) bytes x rest fits e
result_takes ends.Stated bytes x rest placed fits e = behind_takes results.Stated ends.Stated stat_form (λ a. refl) (λ a h. h) (λ a. refl) bytes x rest fits e
result_takes ends.Listed bytes x rest placed fits e = behind_takes results.Listed ends.Listed view_form (λ a. refl) (λ a h. h) (λ a. refl) bytes x rest fits e
result_takes ends.Sequencer bytes x rest placed fits e = behind_takes results.Sequencer ends.Sequencer block_form (λ a. refl) (λ a h. h) (λ a. refl) bytes x rest fits e
result_takes ends.Done bytes x rest placed fits e = behind_takes (λ _. results.Done) ends.Done nothing_form (λ a. refl) (λ a h. h) (λ a. refl) bytes x rest fits e
result_takes ends.Refused bytes x rest placed fits e = behind_takes results.Refused ends.Refused fault_form (λ a. refl) (λ a h. h) (λ a. refl) bytes x rest fits e

result_again : (x : CallResult) (rest : List ℕ) → result_is x → IsShort (result_bytes x) → result_behind (result_kind x) (result_bytes x ++ rest) ≡ Ok (x, rest)
result_again (results.Opened handle) rest holds short = behind_again results.Opened new_handle_form handle rest holds short
result_again results.Closed rest holds short = behind_again (λ _. results.Closed) nothing_form tt rest holds short
result_again (results.Viewed seen) rest holds short = behind_again results.Viewed view_form seen rest holds short
result_again (results.Stated told) rest holds short = behind_again results.Stated stat_form told rest holds short
result_again (results.Listed seen) rest holds short = behind_again results.Listed view_form seen rest holds short
result_again (results.Sequencer bytes) rest holds short = behind_again results.Sequencer block_form bytes rest holds short
result_again results.Done rest holds short = behind_again (λ _. results.Done) nothing_form tt rest holds short
result_again (results.Refused why) rest holds short = behind_again results.Refused fault_form why rest holds short

pub call_result_form : IsForm call_result
unfolding call_result
call_result_form = of_kind_form result_kind result_is result_bytes result_behind (choice_form all_results result_place refl) result_any result_takes result_again

pub reply_form : IsForm reply
unfolding reply
reply_form = made_form (λ x. record { client = x.0; epoch = x.1.0; number = x.1.1.0; stamp = x.1.1.1.0; result = x.1.1.1.1 }) (λ r. (r.client, (r.epoch, (r.number, (r.stamp, r.result))))) (λ a h. refl) (λ b. refl) (pair_form client_form (pair_form word_form (pair_form ordinal_form (pair_form optional_word_form call_result_form))))

pub refused_form : IsForm refused
unfolding refused
refused_form = made_form (λ x. record { client = x.0; epoch = x.1.0; number = x.1.1.0; fault = x.1.1.1 }) (λ r. (r.client, (r.epoch, (r.number, r.fault)))) (λ a h. refl) (λ b. refl) (pair_form client_form (pair_form word_form (pair_form ordinal_form fault_form)))

out_any : (x : Out) → (choice all_outs out_place).is (out_kind x)
out_any (outs.Started message) = refl
out_any (outs.Alive message) = refl
out_any (outs.Reply message) = refl
out_any (outs.Refused message) = refl

out_takes : (k : OutKind) (bytes : List ℕ) (x : Out) (rest : List ℕ) → (choice all_outs out_place).is k → IsBytes bytes → out_behind k bytes ≡ Ok (x, rest)
    → TakesKind out_kind out_is out_bytes k bytes x rest
out_takes of.Started bytes x rest placed fits e = behind_takes outs.Started of.Started started_form (λ a. refl) (λ a h. h) (λ a. refl) bytes x rest fits e
out_takes of.Alive bytes x rest placed fits e = behind_takes outs.Alive of.Alive alive_form (λ a. refl) (λ a h. h) (λ a. refl) bytes x rest fits e
out_takes of.Reply bytes x rest placed fits e = behind_takes outs.Reply of.Reply reply_form (λ a. refl) (λ a h. h) (λ a. refl) bytes x rest fits e
out_takes of.Refused bytes x rest placed fits e = behind_takes outs.Refused of.Refused refused_form (λ a. refl) (λ a h. h) (λ a. refl) bytes x rest fits e

out_again : (x : Out) (rest : List ℕ) → out_is x → IsShort (out_bytes x) → out_behind (out_kind x) (out_bytes x ++ rest) ≡ Ok (x, rest)
out_again (outs.Started message) rest holds short = behind_again outs.Started started_form message rest holds short
out_again (outs.Alive message) rest holds short = behind_again outs.Alive alive_form message rest holds short
out_again (outs.Reply message) rest holds short = behind_again outs.Reply reply_form message rest holds short
out_again (outs.Refused message) rest holds short = behind_again outs.Refused refused_form message rest holds short

pub out_message_form : IsForm out_message
unfolding out_message
out_message_form = of_kind_form out_kind out_is out_bytes out_behind (choice_form all_outs out_place refl) out_any out_takes out_again

-- what has a form has bytes
has_view_form : (x : CallResult) → result_is x → has_view x ≡ true
unfolding view
has_view_form (results.Viewed seen) h = h.1
has_view_form (results.Listed seen) h = h.1
has_view_form (results.Opened handle) h = refl
has_view_form results.Closed h = refl
has_view_form (results.Stated told) h = refl
has_view_form (results.Sequencer bytes) h = refl
has_view_form results.Done h = refl
has_view_form (results.Refused why) h = refl

pub has_bytes_form : (x : Out) → out_message.is x → has_bytes x ≡ true
unfolding out_message reply call_result
has_bytes_form (outs.Started message) h = refl
has_bytes_form (outs.Alive message) h = refl
has_bytes_form (outs.Reply message) h = has_view_form message.result h.1.1.1.1
has_bytes_form (outs.Refused message) h = refl

-- where a message has bytes they are those of its form
pub form_written : (x : Out) → has_bytes x ≡ true → out_written x ≡ written out_message x
form_written x h = ap (λ (b : Bool). cond b (written out_message x) (Err BadNumber)) h

if_written : (b : Bool) (given : Result (List ℕ) WireFault) (bytes : List ℕ) → cond b given (Err BadNumber) ≡ Ok bytes → given ≡ Ok bytes
if_written true given bytes e = e
if_written false given bytes e = absurd cc

pub written_out_is_read : (x : Out) (bytes : List ℕ) → out_message.is x → out_written x ≡ Ok bytes → read_whole out_message bytes ≡ Ok x
written_out_is_read x bytes holds e = written_is_read out_message_form x bytes holds (if_written (has_bytes x) (written out_message x) bytes e)

pub read_out_was_written : (bytes : List ℕ) (x : Out) → IsBytes bytes → read_whole out_message bytes ≡ Ok x → out_message.is x × (out_written x ≡ Ok bytes)
read_out_was_written bytes x fits e =
    let w = read_was_written out_message_form bytes x fits e in
    (w.0, form_written x (has_bytes_form x w.0) ∙ w.1)

pub written_out_begins : (x : Out) (bytes : List ℕ) → out_written x ≡ Ok bytes → bytes ≡ version ∷ out_message.write x
written_out_begins x bytes e = written_begins out_message x bytes (if_written (has_bytes x) (written out_message x) bytes e)
