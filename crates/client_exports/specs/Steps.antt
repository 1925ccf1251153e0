-- The steps of a client that is held: the client's own, whose message and lines are kept; and how each ends.
use Rattle.std.specs.Prelude.{◌≡◌, ◌≢◌, ℕ, List, Option, Some, None, Result, Ok, Err}
use Rattle.node_core.specs.declared.refusals.Fault.{Fault}
use Rattle.node_core.specs.declared.refusals.Fault.TheVariants as faults
use Rattle.node_core.specs.declared.answers.Answer.{Answer}
use Rattle.node_core.specs.declared.answers.Answer.TheVariants as answers
use Rattle.tags_cell.specs.declared.messages.requests.Request.{Request}
use Rattle.tags_cell.specs.declared.messages.outs.Out.{Out}
use Rattle.client_core.specs.declared.parts.asks.Ask.{Ask}
use Rattle.client_core.specs.declared.parts.asks.AskOutcome.{AskOutcome}
use Rattle.client_core.specs.declared.parts.asks.Outcome.{Outcome}
use Rattle.client_core.specs.declared.parts.asks.Outcome.TheVariants as outcomes
use Rattle.client_core.specs.declared.parts.steps.Beaten.{Beaten}
use Rattle.client_core.specs.declared.parts.steps.Given.{Given}
use Rattle.client_core.specs.State.{ClientState}
use Rattle.client_core.specs.Asks.{ask_step}
use Rattle.client_core.specs.Beats.{beat_step}
use Rattle.client_core.specs.Gives.{give_step}
use Rattle.codec.specs.declared.faults.WireFault.{WireFault}
use Rattle.codec.specs.declared.faults.WireFault.TheVariants as wire
use Rattle.codec.specs.Forms.{read_whole}
use Rattle.codec.specs.Requests.{request}
use Rattle.codec.specs.Outs.{out_message}
use Rattle.client_exports.specs.declared.statuses.Status.{Status}
use Rattle.client_exports.specs.declared.statuses.Status.TheVariants as statuses
use Rattle.client_exports.specs.States.{HeldState}
use Rattle.client_exports.specs.Wanted.{request_ask}

-- ---- how a step ends

abbrev pub sent_by : Outcome → Option Request
sent_by (outcomes.Sent message) = Some message
sent_by (outcomes.Served answer) = None
sent_by outcomes.Answered = None
sent_by (outcomes.Refused fault) = None

-- out of the cache a call may be refused too
abbrev pub served_status : Answer → Status
served_status (answers.Refused fault) = statuses.Refused fault
served_status answer = statuses.Served

abbrev pub ask_status : Outcome → Status
ask_status (outcomes.Sent message) = statuses.Send
ask_status (outcomes.Served answer) = served_status answer
ask_status outcomes.Answered = statuses.Done
ask_status (outcomes.Refused fault) = statuses.Refused fault

abbrev pub beat_status : Option Request → Status
beat_status (Some message) = statuses.Send
beat_status None = statuses.Done

abbrev pub give_status : Option Fault → Status
give_status None = statuses.Done
give_status (Some fault) = statuses.Refused fault

-- ---- the steps. Where the client makes none, all stays

abbrev pub asked : HeldState → ClientState × Result AskOutcome Fault → HeldState × Status
asked old (client, Ok did) = (record { client = client; request = sent_by did.outcome; lines = did.lines }, ask_status did.outcome)
asked old (client, Err fault) = (old, statuses.Failed fault)

abbrev pub beaten : HeldState → ClientState × Result Beaten Fault → HeldState × Status
beaten old (client, Ok did) = (record { client = client; request = did.request; lines = did.lines }, beat_status did.request)
beaten old (client, Err fault) = (old, statuses.Failed fault)

abbrev pub given : HeldState → ClientState × Result Given Fault → HeldState × Status
given old (client, Ok did) = (record { client = client; request = None; lines = did.lines }, give_status did.refused)
given old (client, Err fault) = (old, statuses.Failed fault)

abbrev pub ask_held : HeldState → ℕ → Ask → HeldState × Status
ask_held old now ask = asked old (ask_step old.client now ask)

abbrev pub beat_held : HeldState → ℕ → HeldState × Status
beat_held old now = beaten old (beat_step old.client now)

abbrev pub give_held : HeldState → ℕ → Out → HeldState × Status
give_held old now out = given old (give_step old.client now out)

-- ---- by bytes

abbrev pub ask_wanted : HeldState → ℕ → Option Ask → HeldState × Status
ask_wanted old now None = (old, statuses.NoCall)
ask_wanted old now (Some ask) = ask_held old now ask

abbrev pub ask_read : HeldState → ℕ → Result Request WireFault → HeldState × Status
ask_read old now (Ok message) = ask_wanted old now (request_ask message)
ask_read old now (Err fault) = (old, statuses.Bad fault)

-- asked by the bytes of a call's message
abbrev pub ask_bytes : HeldState → ℕ → List ℕ → HeldState × Status
ask_bytes old now bytes = ask_read old now (read_whole request bytes)

abbrev pub give_read : HeldState → ℕ → Result Out WireFault → HeldState × Status
give_read old now (Ok out) = give_held old now out
give_read old now (Err fault) = (old, statuses.Bad fault)

-- given the bytes of a master's message
abbrev pub give_bytes : HeldState → ℕ → List ℕ → HeldState × Status
give_bytes old now bytes = give_read old now (read_whole out_message bytes)

-- ---- methods

-- the step is made and ends so; or memory ran out, and nothing changed
abbrev pub Makes : HeldState → HeldState → Status → HeldState × Status → Type 0
Makes old new statuses.Done step = step ≡ (new, statuses.Done)
Makes old new statuses.Send step = step ≡ (new, statuses.Send)
Makes old new statuses.Served step = step ≡ (new, statuses.Served)
Makes old new (statuses.Refused fault) step = step ≡ (new, statuses.Refused fault)
Makes old new (statuses.Failed fault) step = (fault ≢ faults.NoMemory → step ≡ (new, statuses.Failed fault)) × (fault ≡ faults.NoMemory → new ≡ old)
Makes old new (statuses.Bad fault) step = (fault ≢ wire.NoMemory → step ≡ (new, statuses.Bad fault)) × (fault ≡ wire.NoMemory → new ≡ old)
Makes old new statuses.NoCall step = step ≡ (new, statuses.NoCall)

-- a refusal of a client by itself: never want of memory, nor a number or a moment at its end
pub record IsOwn (fault : Fault) : Type 0 where
  pub no_want : fault ≢ faults.NoMemory
  pub no_end : fault ≢ faults.Exhausted

-- what a holder counts on: after Failed, Bad and NoCall it all stands as it was, and the refusals of a step are others
abbrev pub Stays : HeldState → HeldState → Status → Type 0
Stays old new statuses.Done = Unit {0}
Stays old new statuses.Send = Unit {0}
Stays old new statuses.Served = Unit {0}
Stays old new (statuses.Refused fault) = IsOwn fault
Stays old new (statuses.Failed fault) = new ≡ old
Stays old new (statuses.Bad fault) = new ≡ old
Stays old new statuses.NoCall = new ≡ old
