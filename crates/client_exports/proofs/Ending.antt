-- How a held client's step ends.
use Rattle.std.proofs.Common.{◌≡◌, ◌≢◌, ℕ, List, Option, Some, None, Result, Ok, Err, refl, sym, ap, ◌∙◌, subst}
use Rattle.node_core.specs.declared.refusals.Fault.{Fault}
use Rattle.node_core.specs.declared.refusals.Fault.TheVariants as faults
use Rattle.node_core.specs.declared.answers.Answer.{Answer}
use Rattle.node_core.specs.declared.lines.Line.{Line}
use Rattle.node_core.specs.declared.answers.Answer.TheVariants as answers
use Rattle.tags_cell.specs.declared.messages.requests.Request.{Request}
use Rattle.tags_cell.specs.declared.messages.outs.Out.{Out}
use Rattle.client_core.specs.declared.parts.asks.Ask.{Ask}
use Rattle.client_core.specs.declared.parts.asks.AskOutcome.{AskOutcome}
use Rattle.client_core.specs.declared.parts.asks.Outcome.{Outcome}
use Rattle.client_core.specs.declared.parts.asks.Outcome.TheVariants as outcomes
use Rattle.client_core.specs.declared.parts.steps.Beaten.{Beaten}
use Rattle.client_core.specs.declared.parts.steps.Given.{Given}
use Rattle.client_core.specs.State.{ClientState}
use Rattle.client_core.specs.Asks.{ask_step}
use Rattle.client_core.specs.Beats.{beat_step}
use Rattle.client_core.specs.Gives.{give_step}
use Rattle.client_exports.specs.declared.statuses.Status.{Status}
use Rattle.client_exports.specs.declared.statuses.Status.TheVariants as statuses
use Rattle.client_exports.specs.States.{HeldState}
use Rattle.client_exports.specs.Steps.{sent_by, served_status, ask_status, beat_status, give_status, asked, beaten, given, ask_held, beat_held, give_held, Makes, Stays}
use Rattle.client_exports.proofs.Refusals.{OwnSome, OwnAnswer, OwnOutcome, ask_own, give_own}
use Rattle.client_exports.proofs.Staying.{ask_stays, beat_stays, give_stays, same_client}

-- both clauses of a step
abbrev pub Ends : HeldState → HeldState → Status → HeldState × Status → Type 0
Ends old new status step = Makes old new status step × Stays old new status

-- ---- the client made its step

served : (old new : HeldState) (answer : Answer) (step : HeldState × Status) → OwnAnswer answer → step ≡ (new, served_status answer) → Ends old new (served_status answer) step
served old new (answers.Opened handle) step own e = (e, tt)
served old new answers.Closed step own e = (e, tt)
served old new answers.Poisoned step own e = (e, tt)
served old new (answers.Viewed view) step own e = (e, tt)
served old new (answers.Stated stat) step own e = (e, tt)
served old new (answers.Names names) step own e = (e, tt)
served old new (answers.Sequencer bytes) step own e = (e, tt)
served old new answers.Okay step own e = (e, tt)
served old new (answers.Refused fault) step own e = (e, own)

by_outcome : (old new : HeldState) (outcome : Outcome) (step : HeldState × Status) → OwnOutcome outcome → step ≡ (new, ask_status outcome) → Ends old new (ask_status outcome) step
by_outcome old new (outcomes.Sent message) step own e = (e, tt)
by_outcome old new (outcomes.Served answer) step own e = served old new answer step own e
by_outcome old new outcomes.Answered step own e = (e, tt)
by_outcome old new (outcomes.Refused fault) step own e = (e, own)

by_request : (old new : HeldState) (request : Option Request) (step : HeldState × Status) → step ≡ (new, beat_status request) → Ends old new (beat_status request) step
by_request old new (Some message) step e = (e, tt)
by_request old new None step e = (e, tt)

by_refusal : (old new : HeldState) (refused : Option Fault) (step : HeldState × Status) → OwnSome refused → step ≡ (new, give_status refused) → Ends old new (give_status refused) step
by_refusal old new None step own e = (e, tt)
by_refusal old new (Some fault) step own e = (e, own)

-- it ends as another status does that is the same
as_told : (old new : HeldState) (told status : Status) (step : HeldState × Status) → status ≡ told → Ends old new told step → Ends old new status step
as_told old new told status step e h = subst (λ s. Ends old new s step) (sym e) h

-- the state before is that of the client and of what is kept beside it
abbrev state : ClientState → Option Request → List Line → HeldState
state client request lines = record { client = client; request = request; lines = lines }

ask_ends : (old new : HeldState) (client : ClientState) (now : ℕ) (ask : Ask) (did : AskOutcome) (request : Option Request) (status : Status)
    → ask_step old.client now ask ≡ (client, Ok did) → request ≡ sent_by did.outcome → new ≡ state client request did.lines → status ≡ ask_status did.outcome → Ends old new status (ask_held old now ask)
ask_ends old new client now ask did request status made sends keeps ends =
    let keeps_so : new ≡ state client (sent_by did.outcome) did.lines = keeps ∙ ap (λ r. state client r did.lines) sends in
    as_told old new (ask_status did.outcome) status (ask_held old now ask) ends
    (by_outcome old new did.outcome (ask_held old now ask) (ask_own old.client client now ask did made) (ap (asked old) made ∙ ap (λ n. (n, ask_status did.outcome)) (sym keeps_so)))

pub asks : (told old new : HeldState) (client : ClientState) (now : ℕ) (ask : Ask) (did : AskOutcome) (request : Option Request) (status : Status) → told ≡ old
    → ask_step told.client now ask ≡ (client, Ok did) → request ≡ sent_by did.outcome → new ≡ state client request did.lines → status ≡ ask_status did.outcome → Ends old new status (ask_held old now ask)
asks told old new client now ask did request status same made sends keeps ends =
    subst (λ h. Ends h new status (ask_held h now ask)) same (ask_ends told new client now ask did request status made sends keeps ends)

beat_ends : (old new : HeldState) (client : ClientState) (now : ℕ) (did : Beaten) (status : Status)
    → beat_step old.client now ≡ (client, Ok did) → new ≡ state client did.request did.lines → status ≡ beat_status did.request → Ends old new status (beat_held old now)
beat_ends old new client now did status made keeps ends =
    as_told old new (beat_status did.request) status (beat_held old now) ends
    (by_request old new did.request (beat_held old now) (ap (beaten old) made ∙ ap (λ n. (n, beat_status did.request)) (sym keeps)))

pub beats : (told old new : HeldState) (client : ClientState) (now : ℕ) (did : Beaten) (status : Status) → told ≡ old
    → beat_step told.client now ≡ (client, Ok did) → new ≡ state client did.request did.lines → status ≡ beat_status did.request → Ends old new status (beat_held old now)
beats told old new client now did status same made keeps ends = subst (λ h. Ends h new status (beat_held h now)) same (beat_ends told new client now did status made keeps ends)

give_ends : (old new : HeldState) (client : ClientState) (now : ℕ) (out : Out) (did : Given) (status : Status)
    → give_step old.client now out ≡ (client, Ok did) → new ≡ state client None did.lines → status ≡ give_status did.refused → Ends old new status (give_held old now out)
give_ends old new client now out did status made keeps ends =
    as_told old new (give_status did.refused) status (give_held old now out) ends
    (by_refusal old new did.refused (give_held old now out) (give_own old.client client now out did made) (ap (given old) made ∙ ap (λ n. (n, give_status did.refused)) (sym keeps)))

pub gives : (told old new : HeldState) (client : ClientState) (now : ℕ) (out : Out) (did : Given) (status : Status) → told ≡ old
    → give_step told.client now out ≡ (client, Ok did) → new ≡ state client None did.lines → status ≡ give_status did.refused → Ends old new status (give_held old now out)
gives told old new client now out did status same made keeps ends =
    subst (λ h. Ends h new status (give_held h now out)) same (give_ends told new client now out did status made keeps ends)

-- ---- it made none

-- want of memory, or another refusal of the client
abbrev IsRefused : {X : Type 0} → ClientState → ClientState → Fault → ClientState × Result X Fault → Type 0
IsRefused old new fault step = (fault ≢ faults.NoMemory → step ≡ (new, Err fault)) × (fault ≡ faults.NoMemory → new ≡ old)

fails : {X : Type 0} (old new : HeldState) (client : ClientState) (fault : Fault) (step : ClientState × Result X Fault) (held : ClientState × Result X Fault → HeldState × Status)
    → ((c : ClientState) → held (c, Err fault) ≡ (old, statuses.Failed fault)) → IsRefused old.client client fault step → (step ≡ (client, Err fault) → client ≡ old.client)
    → new ≡ state client old.request old.lines → Ends old new (statuses.Failed fault) (held step)
fails old new client fault step held is does stays keeps =
    let back : new ≡ old = keeps ∙ ap (λ c. state c old.request old.lines) (same_client old.client client fault step does stays) in
    ((λ other. ap held (does.0 other) ∙ is client ∙ ap (λ n. (n, statuses.Failed fault)) (sym back), λ want. back), back)

pub ask_fails : (told old new : HeldState) (client : ClientState) (now : ℕ) (ask : Ask) (fault : Fault) → told ≡ old → IsRefused told.client client fault (ask_step told.client now ask)
    → new ≡ state client told.request told.lines → Ends old new (statuses.Failed fault) (ask_held old now ask)
ask_fails told old new client now ask fault same does keeps =
    subst (λ h. Ends h new (statuses.Failed fault) (ask_held h now ask)) same
    (fails told new client fault (ask_step told.client now ask) (asked told) (λ c. refl) does (ask_stays told.client now ask client fault) keeps)

pub beat_fails : (told old new : HeldState) (client : ClientState) (now : ℕ) (fault : Fault) → told ≡ old → IsRefused told.client client fault (beat_step told.client now)
    → new ≡ state client told.request told.lines → Ends old new (statuses.Failed fault) (beat_held old now)
beat_fails told old new client now fault same does keeps =
    subst (λ h. Ends h new (statuses.Failed fault) (beat_held h now)) same
    (fails told new client fault (beat_step told.client now) (beaten told) (λ c. refl) does (beat_stays told.client now client fault) keeps)

pub give_fails : (told old new : HeldState) (client : ClientState) (now : ℕ) (out : Out) (fault : Fault) → told ≡ old → IsRefused told.client client fault (give_step told.client now out)
    → new ≡ state client told.request told.lines → Ends old new (statuses.Failed fault) (give_held old now out)
give_fails told old new client now out fault same does keeps =
    subst (λ h. Ends h new (statuses.Failed fault) (give_held h now out)) same
    (fails told new client fault (give_step told.client now out) (given told) (λ c. refl) does (give_stays told.client now out client fault) keeps)
