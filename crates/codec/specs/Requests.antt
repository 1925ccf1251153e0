-- The forms of all that a client sends.
use Rattle.std.specs.Prelude.{ℕ, List, [], ◌∷◌, Result}
use Rattle.tags_cell.specs.declared.messages.requests.Start.{Start}
use Rattle.tags_cell.specs.declared.messages.requests.CallMessage.{CallMessage}
use Rattle.tags_cell.specs.declared.messages.requests.Request.{Request}
use Rattle.tags_cell.specs.declared.messages.requests.Request.TheVariants as requests
use Rattle.codec.specs.declared.faults.WireFault.{WireFault}
use Rattle.codec.specs.declared.kinds.RequestKind.{RequestKind}
use Rattle.codec.specs.declared.kinds.RequestKind.TheVariants as of
use Rattle.codec.specs.Forms.{Form, ◌⊗◌, made, choice, of_kind, behind}
use Rattle.codec.specs.Fields.{word, optional_block, client, ordinal, component}
use Rattle.codec.specs.Beats.{beat}
use Rattle.codec.specs.Calls.{call}

unfoldable pub start : Form Start
start = made (λ x. record { client = x.0; number = x.1.0; principal = x.1.1 }) (λ s. (s.client, (s.number, s.principal))) (client ⊗ ordinal ⊗ component)

unfoldable pub call_message : Form CallMessage
call_message =
    made (λ x. record { client = x.0; epoch = x.1.0; number = x.1.1.0; call = x.1.1.1.0; sequencer = x.1.1.1.1 })
    (λ m. (m.client, (m.epoch, (m.number, (m.call, m.sequencer)))))
    (client ⊗ word ⊗ ordinal ⊗ call ⊗ optional_block)

abbrev pub all_requests : List RequestKind
all_requests = of.Start ∷ of.Beat ∷ of.Call ∷ []

abbrev pub request_place : RequestKind → ℕ
request_place of.Start = 0
request_place of.Beat = 1
request_place of.Call = 2

abbrev pub request_kind : Request → RequestKind
request_kind (requests.Start message) = of.Start
request_kind (requests.Beat message) = of.Beat
request_kind (requests.Call message) = of.Call

abbrev pub request_is : Request → Type 0
request_is (requests.Start message) = start.is message
request_is (requests.Beat message) = beat.is message
request_is (requests.Call message) = call_message.is message

abbrev pub request_bytes : Request → List ℕ
request_bytes (requests.Start message) = start.write message
request_bytes (requests.Beat message) = beat.write message
request_bytes (requests.Call message) = call_message.write message

abbrev pub request_behind : RequestKind → List ℕ → Result (Request × List ℕ) WireFault
request_behind of.Start rest = behind requests.Start start rest
request_behind of.Beat rest = behind requests.Beat beat rest
request_behind of.Call rest = behind requests.Call call_message rest

-- the kind of the request, and its fields
unfoldable pub request : Form Request
request = of_kind (choice all_requests request_place) request_kind request_is request_bytes request_behind
