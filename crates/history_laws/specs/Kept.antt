-- A client that a keeper keeps, among the parts: what viewers are shown of its cache, and what it tells only once that is published.
use Rattle.std.specs.Prelude.{◌≡◌, ℕ, ◌==◌, ◌≤◌, false, List, [], ◌∷◌, ◌++◌, map, Option, Some, None, Result, Ok, Err}
use Rattle.std.specs.Option.{option_map}
use Rattle.lease_core.specs.Lease.{longest_lease}
use Rattle.node_core.specs.declared.lines.Line.{Line}
use Rattle.node_core.specs.declared.refusals.Fault.{Fault}
use Rattle.node_core.specs.declared.views.View.{View}
use Rattle.node_core.specs.Nodes.{view_at}
use Rattle.rows_cell.specs.declared.settings.MasterTerms.{MasterTerms}
use Rattle.rows_cell.specs.declared.tables.Rows.{Rows}
use Rattle.rows_cell.specs.Rows.{map_of}
use Rattle.tags_cell.specs.declared.messages.requests.Request.{Request}
use Rattle.tags_cell.specs.declared.messages.outs.Out.{Out}
use Rattle.tags_cell.specs.Messages.{out_client}
use Rattle.cache_core.specs.Caches.{CacheState, new_cache, answer}
use Rattle.client_core.specs.declared.parts.asks.Ask.{Ask}
use Rattle.client_core.specs.declared.parts.asks.AskOutcome.{AskOutcome}
use Rattle.client_core.specs.declared.parts.steps.Beaten.{Beaten}
use Rattle.client_core.specs.declared.parts.steps.Given.{Given}
use Rattle.client_core.specs.State.{ClientState}
use Rattle.client_core.specs.Asks.{ask_step}
use Rattle.client_core.specs.Beats.{beat_step}
use Rattle.client_core.specs.Gives.{give_step}
use Rattle.world_steps.specs.declared.mail.Message.{Message}
use Rattle.world_steps.specs.declared.mail.Message.TheVariants.{ToMaster}
use Rattle.world_steps.specs.Messages.{out_at}
use Rattle.share_cell.specs.declared.keeper.LateAnswer.{LateAnswer}
use Rattle.share_cell.specs.declared.keeper.LateAnswer.TheVariants as kepts
use Rattle.share_cell.specs.Keeping.{KeeperState, Publishes, unless_last, IsShown, Lends}
use Rattle.share_cell.specs.Published.{opening, EndsWith}
use Rattle.history_laws.specs.Parts.{Parts, nothing_yet, Deed, ComesUp, FallsComingUp, Takes, Sweeps, FallsSweeping, AnswersBeat, Goes, Begins, Asks, Beats, Hears, with_client, sent_by, sent_as}
use Rattle.history_laws.specs.Histories.{Clocks, Entry, Does, History, GoOnTo}

-- parts, one of whose clients is kept by a keeper. Of what that client has to tell, told holds what the keeper handed out
pub record KeptParts : Type 0 where
  pub parts : Parts
  pub keeper : KeeperState

-- ---- what is handed out

abbrev pub handed : {X : Type 0} → (X → List Message) → Result X Fault → List Message
handed tells (Ok answer) = tells answer
handed tells (Err fault) = []

abbrev pub asked_tells : AskOutcome → List Message
asked_tells asked = sent_by asked.outcome

abbrev pub beaten_tells : Beaten → List Message
beaten_tells beaten = sent_as beaten.request

abbrev pub given_tells : Given → List Message
given_tells given = []

-- the message of an answer that is kept
abbrev pub late_tells : Option LateAnswer → List Message
late_tells None = []
late_tells (Some (kepts.Asked asked)) = asked_tells asked
late_tells (Some (kepts.Given given)) = given_tells given
late_tells (Some (kepts.Beaten beaten)) = beaten_tells beaten

-- the keeper is now this one, and its client among the parts; these messages were handed out
abbrev pub after_keeper : KeptParts → ℕ → KeeperState → List Message → KeptParts
after_keeper k number keeper messages =
    record { parts = record k.parts { clients = with_client k.parts.clients number keeper.client; told = k.parts.told ++ messages }; keeper = keeper }

-- ---- what happens

pub data KeptDeed : Type 0 where
  -- a part does something, and the client that is kept does nothing
  Others : Deed → KeptDeed
  -- the keeper is asked for a call, or for what keeps the session, or given a message that was told
  KeeperAsks : Ask → KeptDeed
  KeeperBeats : KeptDeed
  KeeperHears : ℕ → KeptDeed
  -- it publishes what is late, and hands out the answer that it kept
  Resumes : KeptDeed
  -- whoever is lent its client sends the message of the outstanding call again
  SendsAgain : KeptDeed

-- a deed is none of this client's
abbrev pub IsOfOthers : ℕ → List Message → Deed → Type 0
IsOfOthers number told ComesUp = Unit {0}
IsOfOthers number told FallsComingUp = Unit {0}
IsOfOthers number told (Takes at) = Unit {0}
IsOfOthers number told Sweeps = Unit {0}
IsOfOthers number told FallsSweeping = Unit {0}
IsOfOthers number told AnswersBeat = Unit {0}
IsOfOthers number told Goes = Unit {0}
IsOfOthers number told (Begins q principal) = (q == number) ≡ false
IsOfOthers number told (Asks q ask) = (q == number) ≡ false
IsOfOthers number told (Beats q) = (q == number) ≡ false
IsOfOthers number told (Hears at) = (out : Out) → out_at told at ≡ Some out → (out_client out == number) ≡ false

pub record OthersBy (number : ℕ) (k : KeptParts) (clocks : Clocks) (deed : Deed) (new : KeptParts) : Type 0 where
  pub printed : List Line
  pub parts : Parts
  pub others : IsOfOthers number k.parts.told deed
  pub does : Does k.parts clocks deed parts printed
  pub left : new ≡ record { parts = parts; keeper = k.keeper }

-- each as the contract of the keeper's call says it
pub record KeeperAsksBy (number : ℕ) (k : KeptParts) (now : ℕ) (ask : Ask) (new : KeptParts) : Type 0 where
  pub result : Result AskOutcome Fault
  pub keeper : KeeperState
  pub on_time : k.keeper.late ≡ None
  pub publishes : Publishes kepts.Asked k.keeper keeper result (unless_last k.keeper.client k.keeper.views (ask_step k.keeper.client now ask))
  pub left : new ≡ after_keeper k number keeper (handed asked_tells result)

pub record KeeperBeatsBy (number : ℕ) (k : KeptParts) (now : ℕ) (new : KeptParts) : Type 0 where
  pub result : Result Beaten Fault
  pub keeper : KeeperState
  pub on_time : k.keeper.late ≡ None
  pub publishes : Publishes kepts.Beaten k.keeper keeper result (unless_last k.keeper.client k.keeper.views (beat_step k.keeper.client now))
  pub left : new ≡ after_keeper k number keeper (handed beaten_tells result)

pub record KeeperHearsBy (number : ℕ) (k : KeptParts) (now at : ℕ) (new : KeptParts) : Type 0 where
  pub out : Out
  pub result : Result Given Fault
  pub keeper : KeeperState
  pub was_told : out_at k.parts.told at ≡ Some out
  pub own : out_client out ≡ number
  pub on_time : k.keeper.late ≡ None
  pub publishes : Publishes kepts.Given k.keeper keeper result (unless_last k.keeper.client k.keeper.views (give_step k.keeper.client now out))
  pub left : new ≡ after_keeper k number keeper (handed given_tells result)

-- where it is refused nothing changes
pub record ResumesBy (number : ℕ) (k : KeptParts) (new : KeptParts) : Type 0 where
  pub keeper : KeeperState
  pub client : keeper.client ≡ k.keeper.client
  pub on_time : keeper.late ≡ None
  pub shown : IsShown k.keeper.late k.keeper.views k.keeper.client.cache keeper.views
  pub left : new ≡ after_keeper k number keeper (late_tells k.keeper.late)

pub record SendsAgainBy (k : KeptParts) (new : KeptParts) : Type 0 where
  pub client : ClientState
  pub request : Request
  pub lends : Lends k.keeper (Some client)
  pub again : option_map (λ call. call.request) client.outstanding ≡ Some request
  pub left : new ≡ record { parts = record k.parts { told = k.parts.told ++ ToMaster request ∷ [] }; keeper = k.keeper }

pub record KeptEntry : Type 0 where
  pub clocks : Clocks
  pub deed : KeptDeed

abbrev pub DoesKept : ℕ → KeptParts → Clocks → KeptDeed → KeptParts → Type 0
DoesKept number k clocks (Others deed) new = OthersBy number k clocks deed new
DoesKept number k clocks (KeeperAsks ask) new = KeeperAsksBy number k (clocks.client number) ask new
DoesKept number k clocks KeeperBeats new = KeeperBeatsBy number k (clocks.client number) new
DoesKept number k clocks (KeeperHears at) new = KeeperHearsBy number k (clocks.client number) at new
DoesKept number k clocks Resumes new = ResumesBy number k new
DoesKept number k clocks SendsAgain new = SendsAgainBy k new

-- in the order of true time
abbrev pub KeptHistory : ℕ → KeptParts → List KeptEntry → KeptParts → Type 0
KeptHistory number old [] new = new ≡ old
KeptHistory number old (entry ∷ entries) new = (mid : KeptParts) × DoesKept number old entry.clocks entry.deed mid × KeptHistory number mid entries new

-- clocks go on by what happens as by deeds, of which those of the keeper begin no master's life
abbrev pub life_of : KeptDeed → Deed
life_of (Others deed) = deed
life_of (KeeperAsks ask) = Goes
life_of KeeperBeats = Goes
life_of (KeeperHears at) = Goes
life_of Resumes = Goes
life_of SendsAgain = Goes

abbrev pub as_entry : KeptEntry → Entry
as_entry entry = record { clocks = entry.clocks; deed = life_of entry.deed }

-- a keeper of a client whose cache is new
abbrev pub new_keeper : ClientState → KeeperState
new_keeper client = record { client = client; late = None; views = opening }

-- Whatever the view that was published last would answer, at any moment by the client's clock, is what the rows hold of that name then: also while the keeper is late
abbrev pub ViewsAnswerTheRows : Type 0
ViewsAnswerTheRows =
    (cell : List ℕ) (rows : Rows) (terms : MasterTerms) (entries : List Entry) (printed : List Line) (begun : Parts) (number : ℕ) (client : ClientState)
    (kept : List KeptEntry) (here : KeptParts) (now : Clocks) (shown : CacheState) (name : List ℕ) (entry : Option View)
    → terms.lease ≤ longest_lease → History (nothing_yet cell rows terms) entries printed begun → begun.clients number ≡ Some client → client.cache ≡ new_cache
    → KeptHistory number (record { parts = begun; keeper = new_keeper client }) kept here → GoOnTo (entries ++ map as_entry kept) now
    → EndsWith here.keeper.views shown → answer shown (now.client number) name ≡ Some entry → entry ≡ view_at (map_of here.parts.rows) name
