-- A call that the client refuses by Err leaves the client.
use Rattle.std.proofs.Common.{◌≡◌, ◌≢◌, ℕ, ◌+◌, ◌<◌, Bool, true, false, cond, List, length, Option, Result, Ok, Err, inl, refl, sym, ap, ◌∙◌, subst, arith}
use Rattle.std.specs.Prelude.{nat_lt}
use Rattle.std.proofs.lemmas.Bool.Decides.{nat_tests}
use Rattle.cache_core.specs.Caches.{CacheState}
use Rattle.node_core.specs.Limits.{number_end}
use Rattle.node_core.specs.declared.refusals.Fault.TheVariants as faults
use Rattle.share_cell.specs.Keeping.{KeeperState, Publishes, unless_last}
use Rattle.share_cell.specs.declared.keeper.LateAnswer.{LateAnswer}
use Rattle.node_core.specs.declared.refusals.Fault.{Fault}
use Rattle.tags_cell.specs.declared.messages.outs.Out.{Out}
use Rattle.client_core.specs.declared.parts.asks.Ask.{Ask}
use Rattle.client_core.specs.State.{ClientState}
use Rattle.client_core.specs.Asks.{ask_step}
use Rattle.client_core.specs.Beats.{beat_step}
use Rattle.client_core.specs.Gives.{give_step}
use Rattle.client_core.specs.Cases.{AskCase, asked_in, BeatCase, beaten_in, GiveCase, given_in}
use Rattle.client_core.specs.Cases.AskCase.{AskedTooLate, Unsafe, Refused, ReadServed, AbsenceServed, Shared, OutOfHandles, Released, OutOfCalls, Sent, Poisoned}
use Rattle.client_core.specs.Cases.BeatCase.{BeatTooLate, OutOfBeats, Starts, Beats, Quiet}
use Rattle.client_core.specs.Cases.GiveCase.{GivenTooLate, OfAnother, Started, StartedUnfit, StartedDropped, LeaseTaken, LeaseStays, AliveUnfit, AliveDropped, OutOfNumbers, Replied, Installed, Departed, ReplyDropped, NotAwaited, Learns, Lost, TurnedAway, RefusalDropped}
use Rattle.client_core.proofs.AskCases.{ask_case, beat_case}
use Rattle.client_core.proofs.GiveCases.{give_case}

-- an answer may change it
abbrev StaysWhereRefused : {X : Type 0} → ClientState → ClientState × Result X Fault → Type 0
StaysWhereRefused s (new, Ok answer) = Unit {0}
StaysWhereRefused s (new, Err fault) = new ≡ s

asked_stays : (s : ClientState) (now : ℕ) (ask : Ask) (c : AskCase s now ask) → StaysWhereRefused s (asked_in s now ask c)
asked_stays s now ask (AskedTooLate late) = refl
asked_stays s now ask (Unsafe fault early is) = tt
asked_stays s now ask (Refused fault safe is) = tt
asked_stays s now ask (ReadServed number handle call entry given safe is readable) = tt
asked_stays s now ask (AbsenceServed opening safe stays is plain cached) = tt
asked_stays s now ask (Shared opening view handle safe is shared room) = tt
asked_stays s now ask (OutOfHandles opening view handle safe is shared last) = refl
asked_stays s now ask (Released number handle safe is found shared) = tt
asked_stays s now ask (OutOfCalls call sequencer target sendable last) = refl
asked_stays s now ask (Sent call sequencer target sendable room) = tt
asked_stays s now ask (Poisoned number handle safe is usable) = tt

beaten_stays : (s : ClientState) (now : ℕ) (c : BeatCase s now) → StaysWhereRefused s (beaten_in s now c)
beaten_stays s now (BeatTooLate late) = refl
beaten_stays s now (OutOfBeats early last) = refl
beaten_stays s now (Starts early unstarted room) = tt
beaten_stays s now (Beats early live then room) = tt
beaten_stays s now (Quiet early started live) = tt

given_stays : (s : ClientState) (now : ℕ) (out : Out) (c : GiveCase s now out) → StaysWhereRefused s (given_in s now out c)
given_stays s now out (GivenTooLate late) = refl
given_stays s now out (OfAnother early strange) = tt
given_stays s now out (Started message heard is standing fits) = tt
given_stays s now out (StartedUnfit message heard is standing long) = tt
given_stays s now out (StartedDropped message heard is old) = tt
given_stays s now out (LeaseTaken message heard is fit taken) = tt
given_stays s now out (LeaseStays message heard is fit worse) = tt
given_stays s now out (AliveUnfit message heard is alive unfit) = tt
given_stays s now out (AliveDropped message heard is strange) = tt
given_stays s now out (OutOfNumbers message call heard is for last) = refl
given_stays s now out (Replied message call heard is for room kept plain) = tt
given_stays s now out (Installed message call taught stamp heard is for learned) = tt
given_stays s now out (Departed message call heard is for leaving done) = tt
given_stays s now out (ReplyDropped message call heard is for dropped) = tt
given_stays s now out (NotAwaited message heard is none) = tt
given_stays s now out (Learns message present heard is later) = tt
given_stays s now out (Lost message heard is loss) = tt
given_stays s now out (TurnedAway message heard is fault unstarted) = tt
given_stays s now out (RefusalDropped message heard is earlier stays_so) = tt

pub ask_stays : (s : ClientState) (now : ℕ) (ask : Ask) (new : ClientState) (fault : Fault) → ask_step s now ask ≡ (new, Err fault) → new ≡ s
ask_stays s now ask new fault e = let c = ask_case s now ask in subst (StaysWhereRefused s) (sym c.1 ∙ e) (asked_stays s now ask c.0)

pub beat_stays : (s : ClientState) (now : ℕ) (new : ClientState) (fault : Fault) → beat_step s now ≡ (new, Err fault) → new ≡ s
beat_stays s now new fault e = let c = beat_case s now in subst (StaysWhereRefused s) (sym c.1 ∙ e) (beaten_stays s now c.0)

pub give_stays : (s : ClientState) (now : ℕ) (out : Out) (new : ClientState) (fault : Fault) → give_step s now out ≡ (new, Err fault) → new ≡ s
give_stays s now out new fault e = let c = give_case s now out in subst (StaysWhereRefused s) (sym c.1 ∙ e) (given_stays s now out c.0)

-- want of memory, or another refusal
by_fault : (fault : Fault) (A : Type 0) → (fault ≢ faults.NoMemory → A) → (fault ≡ faults.NoMemory → A) → A
by_fault faults.NoMemory A other memory = memory refl
by_fault fault A other memory = other (λ e. cc)

-- whatever a call is refused for, the client is as it was
pub same_client : {X : Type 0} (old new : ClientState) (fault : Fault) (step : ClientState × Result X Fault) → ((fault ≢ faults.NoMemory → step ≡ (new, Err fault)) × (fault ≡ faults.NoMemory → new ≡ old)) → (step ≡ (new, Err fault) → new ≡ old) → new ≡ old
same_client old new fault step does stays = by_fault fault (new ≡ old) (λ other. stays (does.0 other)) does.1

room_by : {X : Type 0} (b : Bool) (step last : ClientState × Result X Fault) → b ≡ true → cond b step last ≡ step
room_by true step last h = refl
room_by false step last h = cc

less : (n m : ℕ) → n < m → nat_lt n m ≡ true
less n m h = grind (arith, nat_tests)

-- while there is a number for another view, the step is the client's
pub has_room : {X : Type 0} (client : ClientState) (views : List CacheState) (published : ℕ) (step : ClientState × Result X Fault) → published ≡ length views → published + 1 < number_end → unless_last client views step ≡ step
has_room client views published step is room = room_by (nat_lt (length views + 1) number_end) step (client, Err faults.Exhausted) (less (length views + 1) number_end (omega (arith, is, room)))

abbrev keeper_of : ClientState → Option LateAnswer → List CacheState → KeeperState
keeper_of client late views = record { client = client; late = late; views = views }

-- what the client refuses is refused, and nothing has changed
pub refused : {X : Type 0} (keep : X → LateAnswer) (client new : ClientState) (late : Option LateAnswer) (views : List CacheState) (fault : Fault) (step : ClientState × Result X Fault) → unless_last client views step ≡ step
    → ((fault ≢ faults.NoMemory → step ≡ (new, Err fault)) × (fault ≡ faults.NoMemory → new ≡ client)) → new ≡ client
    → Publishes keep (keeper_of client late views) (keeper_of new late views) (Err fault) (unless_last client views step)
refused keep client new late views fault step room does same =
    let states : keeper_of new late views ≡ keeper_of client late views = ap (λ c. keeper_of c late views) same in
    (λ other. (room ∙ does.0 other, states), λ memory. inl states)
