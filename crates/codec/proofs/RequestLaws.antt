-- What a client sends is read as it was written.
use Rattle.std.proofs.Common.{◌≡◌, ℕ, zero, suc, ◌+◌, ◌<◌, ◌≤◌, Bool, true, false, List, [], ◌∷◌, ◌++◌, length, Option, Some, None, Result, Ok, Err, refl, sym, ap, ◌∙◌, arith}
use Rattle.tags_cell.specs.declared.messages.requests.Start.{Start}
use Rattle.tags_cell.specs.declared.messages.requests.CallMessage.{CallMessage}
use Rattle.tags_cell.specs.declared.messages.requests.Request.{Request}
use Rattle.tags_cell.specs.declared.messages.requests.Request.TheVariants as requests
use Rattle.codec.specs.declared.faults.WireFault.{WireFault}
use Rattle.codec.specs.declared.kinds.RequestKind.{RequestKind}
use Rattle.codec.specs.declared.kinds.RequestKind.TheVariants as of
use Rattle.codec.specs.Forms.{Form, ◌⊗◌, made, choice, of_kind, behind}
use Rattle.codec.specs.Fields.{word, optional_block, client, ordinal, component}
use Rattle.codec.specs.Beats.{beat}
use Rattle.codec.specs.Calls.{call}
use Rattle.codec.specs.Requests.{start, call_message, all_requests, request_place, request_kind, request_is, request_bytes, request_behind, request}
use Rattle.codec.proofs.FormLaws.{IsBytes, IsShort, IsForm, Takes, TakesKind, TakesRoom, ok_is, number_form_4, number_form_8, byte_form, counted_form, nothing_form, pair_form, made_form, tested_form, choice_form, of_kind_form, behind_takes, behind_again, optional_form, listed_form}
use Rattle.codec.proofs.FieldLaws.{word_form, optional_word_form, client_form, ordinal_form, block_form, optional_block_form, name_form, component_form, kind_form, life_form, lock_mode_form, disposition_form, mode_form, events_form}
use Rattle.codec.proofs.CallLaws.{call_form}
use Rattle.codec.proofs.BeatLaws.{beat_form}

pub start_form : IsForm start
unfolding start
start_form = made_form (λ x. record { client = x.0; number = x.1.0; principal = x.1.1 }) (λ s. (s.client, (s.number, s.principal))) (λ a h. refl) (λ b. refl) (pair_form client_form (pair_form ordinal_form component_form))

pub call_message_form : IsForm call_message
unfolding call_message
call_message_form = made_form (λ x. record { client = x.0; epoch = x.1.0; number = x.1.1.0; call = x.1.1.1.0; sequencer = x.1.1.1.1 }) (λ m. (m.client, (m.epoch, (m.number, (m.call, m.sequencer))))) (λ a h. refl) (λ b. refl) (pair_form client_form (pair_form word_form (pair_form ordinal_form (pair_form call_form optional_block_form))))

request_any : (x : Request) → (choice all_requests request_place).is (request_kind x)
request_any (requests.Start message) = refl
request_any (requests.Beat message) = refl
request_any (requests.Call message) = refl

request_takes : (k : RequestKind) (bytes : List ℕ) (x : Request) (rest : List ℕ) → (choice all_requests request_place).is k → IsBytes bytes → request_behind k bytes ≡ Ok (x, rest)
    → TakesKind request_kind request_is request_bytes k bytes x rest
request_takes of.Start bytes x rest placed fits e = behind_takes requests.Start of.Start start_form (λ a. refl) (λ a h. h) (λ a. refl) bytes x rest fits e
request_takes of.Beat bytes x rest placed fits e = behind_takes requests.Beat of.Beat beat_form (λ a. refl) (λ a h. h) (λ a. refl) bytes x rest fits e
request_takes of.Call bytes x rest placed fits e = behind_takes requests.Call of.Call call_message_form (λ a. refl) (λ a h. h) (λ a. refl) bytes x rest fits e

request_again : (x : Request) (rest : List ℕ) → request_is x → IsShort (request_bytes x) → request_behind (request_kind x) (request_bytes x ++ rest) ≡ Ok (x, rest)
request_again (requests.Start message) rest holds short = behind_again requests.Start start_form message rest holds short
request_again (requests.Beat message) rest holds short = behind_again requests.Beat beat_form message rest holds short
request_again (requests.Call message) rest holds short = behind_again requests.Call call_message_form message rest holds short

pub request_form : IsForm request
unfolding request
request_form = of_kind_form request_kind request_is request_bytes request_behind (choice_form all_requests request_place refl) request_any request_takes request_again
