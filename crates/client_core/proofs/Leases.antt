-- What the steps make of a client's clock, of its Starts and Beats, of its lease, and of the invalidations that it has processed: each by the cases of the step.
use Rattle.std.proofs.Common.{◌≡◌, ◌≢◌, ◌⊎◌, inl, inr, ℕ, ◌<◌, ◌≤◌, max, Bool, true, false, cond, [], Option, Some, None, Result, Ok, Err, refl, sym, ap, ◌∙◌, subst, arith}
use Rattle.lease_core.specs.Lease.{LeaseTerms, moment_limit}
use Rattle.cache_core.specs.Caches.{CacheState}
use Rattle.cache_core.specs.declared.standings.SessionTrust.{SessionTrust}
use Rattle.cache_core.specs.declared.standings.SessionTrust.TheVariants as standings
use Rattle.node_core.specs.declared.refusals.Fault.{Fault}
use Rattle.node_core.specs.declared.refusals.Fault.TheVariants as faults
use Rattle.tags_cell.specs.declared.messages.requests.Request.{Request}
use Rattle.tags_cell.specs.declared.messages.requests.Request.TheVariants as requests
use Rattle.tags_cell.specs.declared.messages.beats.Beat.{Beat as BeatMessage}
use Rattle.tags_cell.specs.declared.messages.outs.Out.{Out}
use Rattle.tags_cell.specs.declared.messages.outs.Out.TheVariants as outs
use Rattle.tags_cell.specs.declared.messages.outs.Started.{Started as StartedMessage}
use Rattle.tags_cell.specs.declared.messages.beats.Alive.{Alive as AliveMessage}
use Rattle.tags_cell.specs.declared.messages.outs.Refused.{Refused as RefusedMessage}
use Rattle.tags_cell.specs.declared.messages.outs.CallResult.{CallResult}
use Rattle.tags_cell.specs.declared.messages.outs.CallResult.TheVariants as results
use Rattle.client_core.specs.declared.parts.asks.Ask.{Ask}
use Rattle.client_core.specs.declared.parts.sessions.ClientStanding.{ClientStanding}
use Rattle.client_core.specs.declared.parts.sessions.ClientStanding.TheVariants as sessions
use Rattle.client_core.specs.declared.parts.steps.Beaten.{Beaten}
use Rattle.client_core.specs.declared.parts.targets.Target.{Target}
use Rattle.client_core.specs.State.{ClientState, standing_then, session_behind, session_in, note_in, note, note_live, note_lines}
use Rattle.client_core.specs.Asks.{ask_step}
use Rattle.client_core.specs.Beats.{start_message, beat_message, with_beat, beaten, beat_step}
use Rattle.client_core.specs.Gives.{offered, with_processed, ended_plainly, give_step}
use Rattle.client_core.specs.Invalidations.{last_number}
use Rattle.client_core.specs.Cases.{noted_moment, IsLive, IsStarted, IsFit, IsTaken, IsLater, AskCase, asked_in, BeatCase, beaten_in, GiveCase, given_in, noted}
use Rattle.client_core.specs.Cases.AskCase.{AskedTooLate, Unsafe, Refused, ReadServed, AbsenceServed, Shared, OutOfHandles, Released, OutOfCalls, Sent, Poisoned}
use Rattle.client_core.specs.Cases.BeatCase.{BeatTooLate, OutOfBeats, Starts, Beats, Quiet}
use Rattle.client_core.specs.Cases.GiveCase.{GivenTooLate, OfAnother, Started, StartedUnfit, StartedDropped, LeaseTaken, LeaseStays, AliveUnfit, AliveDropped, OutOfNumbers, Replied, Installed, Departed, ReplyDropped, NotAwaited, Learns, Lost, TurnedAway, RefusalDropped}
use Rattle.client_core.proofs.Noting.{noted_lease, note_clock, note_beats, note_sent, note_epoch, note_processed, note_lease}
use Rattle.client_core.proofs.AskCases.{ask_case, beat_case}
use Rattle.client_core.proofs.GiveCases.{give_case}
use Rattle.client_core.specs.Leased.{under, shut_if}
use Rattle.client_core.specs.Targets.{is_leaving}

-- ---- the clock

-- it stays, or the moment is noted
abbrev pub IsNoted : ClientState → ℕ → ClientState → Type 0
IsNoted s now new = (new.clock ≡ s.clock) ⊎ (new.clock ≡ max s.clock now)

-- what neither the clock nor the moment is behind, the clock isn't behind then either
pub noted_within : (s new : ClientState) (now limit : ℕ) → IsNoted s now new → s.clock ≤ limit → now ≤ limit → new.clock ≤ limit
noted_within s new now limit (inl same) h k = omega (arith, same, h)
noted_within s new now limit (inr is) h k = omega (arith, is, h, k)

-- it never goes back
pub noted_onward : (s new : ClientState) (now : ℕ) → IsNoted s now new → s.clock ≤ new.clock
noted_onward s new now (inl same) = omega (arith, same)
noted_onward s new now (inr is) = omega (arith, is)

is_noted : (s : ClientState) (now : ℕ) → IsNoted s now (noted s now)
is_noted s now = inr (note_clock s s.session (noted_moment s now))

asked_noted : (s : ClientState) (now : ℕ) (ask : Ask) (c : AskCase s now ask) → IsNoted s now (asked_in s now ask c).0
asked_noted s now ask (AskedTooLate late) = inl refl
asked_noted s now ask (Unsafe fault early is) = is_noted s now
asked_noted s now ask (Refused fault safe is) = inr refl
asked_noted s now ask (ReadServed number mine call entry given safe is readable) = inr refl
asked_noted s now ask (AbsenceServed opening safe stays is plain cached) = inr refl
asked_noted s now ask (Shared opening view mine safe is shared room) = inr refl
asked_noted s now ask (OutOfHandles opening view mine safe is shared last) = inl refl
asked_noted s now ask (Released number mine safe is found shared) = inr refl
asked_noted s now ask (OutOfCalls call sequencer target sendable last) = inl refl
asked_noted s now ask (Sent call sequencer target sendable room) = inr refl
asked_noted s now ask (Poisoned number mine safe is usable) = inr refl

pub ask_noted : (s : ClientState) (now : ℕ) (ask : Ask) → IsNoted s now (ask_step s now ask).0
ask_noted s now ask = let c = ask_case s now ask in subst (λ p. IsNoted s now p.0) (sym c.1) (asked_noted s now ask c.0)

beaten_noted : (s : ClientState) (now : ℕ) (c : BeatCase s now) → IsNoted s now (beaten_in s now c).0
beaten_noted s now (BeatTooLate late) = inl refl
beaten_noted s now (OutOfBeats early last) = inl refl
beaten_noted s now (Starts early unstarted room) = inr refl
beaten_noted s now (Beats early live then room) = inr refl
beaten_noted s now (Quiet early started live) = is_noted s now

pub beat_noted : (s : ClientState) (now : ℕ) → IsNoted s now (beat_step s now).0
beat_noted s now = let c = beat_case s now in subst (λ p. IsNoted s now p.0) (sym c.1) (beaten_noted s now c.0)

ended_noted : (s : ClientState) (target : Target) (result : CallResult) → (ended_plainly s target result).clock ≡ s.clock
ended_noted s target (results.Opened handle) = refl
ended_noted s target results.Closed = refl
ended_noted s target results.Done = refl
ended_noted s target _ = refl

given_noted : (s : ClientState) (now : ℕ) (out : Out) (c : GiveCase s now out) → IsNoted s now (given_in s now out c).0
given_noted s now out (GivenTooLate late) = inl refl
given_noted s now out (OfAnother early other) = is_noted s now
given_noted s now out (Started message heard is standing fits) = inr refl
given_noted s now out (StartedUnfit message heard is standing long) = is_noted s now
given_noted s now out (StartedDropped message heard is old) = is_noted s now
given_noted s now out (LeaseTaken message heard is fit taken) = inr refl
given_noted s now out (LeaseStays message heard is fit worse) = inr refl
given_noted s now out (AliveUnfit message heard is alive unfit) = is_noted s now
given_noted s now out (AliveDropped message heard is strange) = is_noted s now
given_noted s now out (OutOfNumbers message call heard is for last) = inl refl
given_noted s now out (Replied message call heard is for room kept plain) = inr (ended_noted (note_live s (noted_moment s now)) call.target message.result)
given_noted s now out (Installed message call taught stamp heard is for learned) = inr refl
given_noted s now out (Departed message call heard is for leaving done) = inr refl
given_noted s now out (ReplyDropped message call heard is for dropped) = inr refl
given_noted s now out (NotAwaited message heard is none) = is_noted s now
given_noted s now out (Learns message present heard is later) = inr refl
given_noted s now out (Lost message heard is loss) = inr refl
given_noted s now out (TurnedAway message heard is fault unstarted) = inr refl
given_noted s now out (RefusalDropped message heard is earlier stays) = is_noted s now

pub give_noted : (s : ClientState) (now : ℕ) (out : Out) → IsNoted s now (give_step s now out).0
give_noted s now out = let c = give_case s now out in subst (λ p. IsNoted s now p.0) (sym c.1) (given_noted s now out c.0)

-- ---- Starts and Beats, and the session

-- no Start and no Beat is sent
pub record KeepsBeats (s new : ClientState) : Type 0 where
  pub beats : new.beats ≡ s.beats
  pub sent : new.sent ≡ s.sent

-- it is the same session, or it is given up
abbrev pub SessionStays : ClientState → ClientState → Type 0
SessionStays s new = (new.session ≡ s.session) ⊎ ((s.session ≡ sessions.Live) × (new.session ≡ sessions.Lost))

-- with the same lease on it, and no more was processed in it
pub record KeepsSession (s new : ClientState) : Type 0 where
  pub session : SessionStays s new
  pub epoch : new.epoch ≡ s.epoch
  pub processed : new.processed ≡ s.processed
  pub lease : new.cache.lease ≡ s.cache.lease

-- both
pub record Keeps (s new : ClientState) : Type 0 where
  pub of_beats : KeepsBeats s new
  pub of_session : KeepsSession s new

keeps : (s : ClientState) → Keeps s s
keeps s = record { of_beats = record { beats = refl; sent = refl }; of_session = record { session = inl refl; epoch = refl; processed = refl; lease = refl } }

-- where the session is, by the standing
given_up : (standing : SessionTrust) → (session_behind standing ≡ sessions.Live) ⊎ (session_behind standing ≡ sessions.Lost)
given_up standings.Safe = inl refl
given_up (standings.Jeopardy since) = inl refl
given_up standings.Lost = inr refl

live_stays : (s new : ClientState) (session : ClientStanding) → s.session ≡ sessions.Live → new.session ≡ session → (session ≡ sessions.Live) ⊎ (session ≡ sessions.Lost) → SessionStays s new
live_stays s new session live is (inl e) = inl (is ∙ (e ∙ sym live))
live_stays s new session live is (inr e) = inr (live, is ∙ e)

session_stays : (s : ClientState) (session : ClientStanding) (moment : ℕ) → s.session ≡ session → SessionStays s (note_in session s moment)
session_stays s sessions.Unstarted moment is = inl refl
session_stays s sessions.Live moment is = live_stays s (note_live s moment) (session_behind (standing_then s moment)) is refl (given_up (standing_then s moment))
session_stays s sessions.Lost moment is = inl refl
session_stays s sessions.TurnedAway moment is = inl refl

pub note_keeps : (s : ClientState) (moment : ℕ) → Keeps s (note s moment)
note_keeps s moment = record {
  of_beats = record { beats = note_beats s s.session moment; sent = note_sent s s.session moment };
  of_session = record { session = session_stays s s.session moment refl; epoch = note_epoch s s.session moment; processed = note_processed s s.session moment; lease = note_lease s s.session moment };
}

-- what turns a cache off leaves its lease
pub shut_lease : (b : Bool) (cache : CacheState) → (shut_if b cache).lease ≡ cache.lease
shut_lease true cache = refl
shut_lease false cache = refl

pub asked_keeps : (s : ClientState) (now : ℕ) (ask : Ask) (c : AskCase s now ask) → Keeps s (asked_in s now ask c).0
asked_keeps s now ask (AskedTooLate late) = keeps s
asked_keeps s now ask (Unsafe fault early is) = note_keeps s (noted_moment s now)
asked_keeps s now ask (Refused fault safe is) = record { of_beats = record { beats = refl; sent = refl }; of_session = record { session = inl refl; epoch = refl; processed = refl; lease = refl } }
asked_keeps s now ask (ReadServed number mine call entry given safe is readable) = record { of_beats = record { beats = refl; sent = refl }; of_session = record { session = inl refl; epoch = refl; processed = refl; lease = refl } }
asked_keeps s now ask (AbsenceServed opening safe stays is plain cached) = record { of_beats = record { beats = refl; sent = refl }; of_session = record { session = inl refl; epoch = refl; processed = refl; lease = refl } }
asked_keeps s now ask (Shared opening view mine safe is shared room) = record { of_beats = record { beats = refl; sent = refl }; of_session = record { session = inl refl; epoch = refl; processed = refl; lease = refl } }
asked_keeps s now ask (OutOfHandles opening view mine safe is shared last) = keeps s
asked_keeps s now ask (Released number mine safe is found shared) = record { of_beats = record { beats = refl; sent = refl }; of_session = record { session = inl refl; epoch = refl; processed = refl; lease = refl } }
asked_keeps s now ask (OutOfCalls call sequencer target sendable last) = keeps s
asked_keeps s now ask (Sent call sequencer target sendable room) = record { of_beats = record { beats = refl; sent = refl }; of_session = record { session = inl refl; epoch = refl; processed = refl; lease = shut_lease (is_leaving target) s.cache } }
asked_keeps s now ask (Poisoned number mine safe is usable) = record { of_beats = record { beats = refl; sent = refl }; of_session = record { session = inl refl; epoch = refl; processed = refl; lease = refl } }

-- to be asked for a call changes none of these, but that a session may be given up
pub ask_keeps : (s : ClientState) (now : ℕ) (ask : Ask) → Keeps s (ask_step s now ask).0
ask_keeps s now ask = let c = ask_case s now ask in subst (λ p. Keeps s p.0) (sym c.1) (asked_keeps s now ask c.0)

-- what a client does that is asked for a Start or a Beat
pub data BeatDoes (s : ClientState) (now : ℕ) (step : ClientState × Result Beaten Fault) : Type 0 where
  SendsStart : s.session ≡ sessions.Unstarted → step ≡ (with_beat s (max s.clock now), Ok (beaten [] (Some (start_message s)))) → BeatDoes s now step
  SendsBeat : IsLive s now → step ≡ (with_beat (note_live s (max s.clock now)) (max s.clock now), Ok (beaten (note_lines s (max s.clock now)) (Some (beat_message s)))) → BeatDoes s now step
  SendsNone : step ≡ (note s (max s.clock now), Ok (beaten (note_lines s (max s.clock now)) None)) → BeatDoes s now step
  SendsLate : step ≡ (s, Err faults.Exhausted) → BeatDoes s now step

beaten_does : (s : ClientState) (now : ℕ) (c : BeatCase s now) → BeatDoes s now (beaten_in s now c)
beaten_does s now (BeatTooLate late) = SendsLate refl
beaten_does s now (OutOfBeats early last) = SendsLate refl
beaten_does s now (Starts early unstarted room) = SendsStart unstarted refl
beaten_does s now (Beats early live then room) = SendsBeat (record { live = live; then = then }) refl
beaten_does s now (Quiet early started live) = SendsNone refl

pub beat_does : (s : ClientState) (now : ℕ) → BeatDoes s now (beat_step s now)
beat_does s now = let c = beat_case s now in subst (BeatDoes s now) (sym c.1) (beaten_does s now c.0)

-- a session that isn't given up stays
pub behind_live : (s : ClientState) (now : ℕ) → IsLive s now → session_behind (standing_then s (noted_moment s now)) ≡ s.session
behind_live s now live = sym (ap (λ x. session_in x s (noted_moment s now)) live.live) ∙ (live.then ∙ sym live.live)

pub beaten_keeps_session : (s : ClientState) (now : ℕ) (c : BeatCase s now) → KeepsSession s (beaten_in s now c).0
beaten_keeps_session s now (BeatTooLate late) = (keeps s).of_session
beaten_keeps_session s now (OutOfBeats early last) = (keeps s).of_session
beaten_keeps_session s now (Starts early unstarted room) = record { session = inl refl; epoch = refl; processed = refl; lease = refl }
beaten_keeps_session s now (Beats early live then room) = record { session = inl (behind_live s now (record { live = live; then = then })); epoch = refl; processed = refl; lease = noted_lease s.cache (noted_moment s now) }
beaten_keeps_session s now (Quiet early started live) = (note_keeps s (noted_moment s now)).of_session

-- to be asked for a Start or a Beat changes no session, but that it may be given up
pub beat_keeps_session : (s : ClientState) (now : ℕ) → KeepsSession s (beat_step s now).0
beat_keeps_session s now = let c = beat_case s now in subst (λ p. KeepsSession s p.0) (sym c.1) (beaten_keeps_session s now c.0)

-- what the end of a call changes none of
pub record SameBut (s new : ClientState) : Type 0 where
  pub beats : new.beats ≡ s.beats
  pub sent : new.sent ≡ s.sent
  pub session : new.session ≡ s.session
  pub epoch : new.epoch ≡ s.epoch
  pub processed : new.processed ≡ s.processed
  pub cache : new.cache ≡ s.cache

pub ended_same : (s : ClientState) (target : Target) (result : CallResult) → SameBut s (ended_plainly s target result)
ended_same s target (results.Opened handle) = record { beats = refl; sent = refl; session = refl; epoch = refl; processed = refl; cache = refl }
ended_same s target results.Closed = record { beats = refl; sent = refl; session = refl; epoch = refl; processed = refl; cache = refl }
ended_same s target results.Done = record { beats = refl; sent = refl; session = refl; epoch = refl; processed = refl; cache = refl }
ended_same s target _ = record { beats = refl; sent = refl; session = refl; epoch = refl; processed = refl; cache = refl }

replied_keeps_beats : (s new : ClientState) (now : ℕ) → SameBut (note_live s (noted_moment s now)) new → KeepsBeats s new
replied_keeps_beats s new now h = record { beats = h.beats; sent = h.sent }

replied_keeps : (s new : ClientState) (now : ℕ) → IsLive s now → SameBut (note_live s (noted_moment s now)) new → KeepsSession s new
replied_keeps s new now live h = record { session = inl (h.session ∙ behind_live s now live); epoch = h.epoch; processed = h.processed; lease = ap (λ x. x.lease) h.cache ∙ noted_lease s.cache (noted_moment s now) }

-- ---- what a client is given

pub given_keeps_beats : (s : ClientState) (now : ℕ) (out : Out) (c : GiveCase s now out) → KeepsBeats s (given_in s now out c).0
given_keeps_beats s now out (GivenTooLate late) = record { beats = refl; sent = refl }
given_keeps_beats s now out (OfAnother early other) = (note_keeps s (noted_moment s now)).of_beats
given_keeps_beats s now out (Started message heard is standing fits) = record { beats = refl; sent = refl }
given_keeps_beats s now out (StartedUnfit message heard is standing long) = (note_keeps s (noted_moment s now)).of_beats
given_keeps_beats s now out (StartedDropped message heard is old) = (note_keeps s (noted_moment s now)).of_beats
given_keeps_beats s now out (LeaseTaken message heard is fit taken) = record { beats = refl; sent = refl }
given_keeps_beats s now out (LeaseStays message heard is fit worse) = record { beats = refl; sent = refl }
given_keeps_beats s now out (AliveUnfit message heard is alive unfit) = (note_keeps s (noted_moment s now)).of_beats
given_keeps_beats s now out (AliveDropped message heard is strange) = (note_keeps s (noted_moment s now)).of_beats
given_keeps_beats s now out (OutOfNumbers message call heard is for last) = record { beats = refl; sent = refl }
given_keeps_beats s now out (Replied message call heard is for room kept plain) = replied_keeps_beats s (ended_plainly (note_live s (noted_moment s now)) call.target message.result) now (ended_same (note_live s (noted_moment s now)) call.target message.result)
given_keeps_beats s now out (Installed message call taught stamp heard is for learned) = record { beats = refl; sent = refl }
given_keeps_beats s now out (Departed message call heard is for leaving done) = record { beats = refl; sent = refl }
given_keeps_beats s now out (ReplyDropped message call heard is for dropped) = record { beats = refl; sent = refl }
given_keeps_beats s now out (NotAwaited message heard is none) = (note_keeps s (noted_moment s now)).of_beats
given_keeps_beats s now out (Learns message present heard is later) = record { beats = refl; sent = refl }
given_keeps_beats s now out (Lost message heard is loss) = record { beats = refl; sent = refl }
given_keeps_beats s now out (TurnedAway message heard is fault unstarted) = record { beats = refl; sent = refl }
given_keeps_beats s now out (RefusalDropped message heard is earlier stays) = (note_keeps s (noted_moment s now)).of_beats

-- no message changes what was sent
pub give_keeps_beats : (s : ClientState) (now : ℕ) (out : Out) → KeepsBeats s (give_step s now out).0
give_keeps_beats s now out = let c = give_case s now out in subst (λ p. KeepsBeats s p.0) (sym c.1) (given_keeps_beats s now out c.0)

-- it has processed what it had, and what the Alive carries
abbrev pub ProcessesMore : ClientState → AliveMessage → ClientState → Type 0
ProcessesMore s message new = new.processed ≡ max s.processed (last_number 0 message.invalidations)

-- what a message does to the session, to the lease on it, and to what was processed in it
pub data LeaseDoes (s : ClientState) (now : ℕ) (out : Out) (new : ClientState) : Type 0 where
  -- nothing
  LeaseKept : KeepsSession s new → LeaseDoes s now out new
  -- the client has none from here on: it lost it, or is told that it gets none
  LeaseLeft : new.session ≢ sessions.Unstarted → new.session ≢ sessions.Live → new.epoch ≡ s.epoch → new.processed ≡ s.processed → new.cache.lease ≡ s.cache.lease → LeaseDoes s now out new
  -- a refusal tells of a later epoch: it has the same lease in that, and has processed nothing of it
  LeaseCarried : (message : RefusedMessage) (present : ℕ) → out ≡ outs.Refused message → IsLater s now message present → new.session ≡ s.session → new.epoch ≡ present → new.processed ≡ 0 → new.cache.lease ≡ s.cache.lease → LeaseDoes s now out new
  -- its newest Start is answered
  LeaseBegun : (message : StartedMessage) → out ≡ outs.Started message → IsStarted s message → message.span < moment_limit → new.session ≡ sessions.Live → new.epoch ≡ message.epoch → new.processed ≡ s.processed → new.cache.lease ≡ Some (offered s message.span) → LeaseDoes s now out new
  -- invalidations are processed, and its newest Beat is answered with a better lease
  LeaseBettered : (message : AliveMessage) → out ≡ outs.Alive message → IsFit s now message → IsTaken s message → new.session ≡ s.session → new.epoch ≡ s.epoch → ProcessesMore s message new → new.cache.lease ≡ Some (offered s message.span) → LeaseDoes s now out new
  -- invalidations are processed, and no more
  LeasePassed : (message : AliveMessage) → out ≡ outs.Alive message → IsFit s now message → new.session ≡ s.session → new.epoch ≡ s.epoch → ProcessesMore s message new → new.cache.lease ≡ s.cache.lease → LeaseDoes s now out new

under_lease : (b : Bool) (x y : CacheState) (lease : Option LeaseTerms) → x.lease ≡ lease → y.lease ≡ lease → (cond b x y).lease ≡ lease
under_lease true x y lease h k = h
under_lease false x y lease h k = k

pub given_lease : (s : ClientState) (now : ℕ) (out : Out) (c : GiveCase s now out) → LeaseDoes s now out (given_in s now out c).0
given_lease s now out (GivenTooLate late) = LeaseKept (keeps s).of_session
given_lease s now out (OfAnother early other) = LeaseKept (note_keeps s (noted_moment s now)).of_session
given_lease s now out (Started message heard is standing fits) = LeaseBegun message is standing fits refl refl refl (under_lease _ _ _ _ refl refl)
given_lease s now out (StartedUnfit message heard is standing long) = LeaseKept (note_keeps s (noted_moment s now)).of_session
given_lease s now out (StartedDropped message heard is old) = LeaseKept (note_keeps s (noted_moment s now)).of_session
given_lease s now out (LeaseTaken message heard is fit taken) = LeaseBettered message is fit taken (behind_live s now fit.alive.live) refl refl (shut_lease s.leaving (under (with_processed (note_live s (noted_moment s now)) message).cache (offered s message.span) (noted_moment s now)) ∙ under_lease _ _ _ _ refl refl)
given_lease s now out (LeaseStays message heard is fit worse) = LeasePassed message is fit (behind_live s now fit.alive.live) refl refl (noted_lease s.cache (noted_moment s now))
given_lease s now out (AliveUnfit message heard is alive unfit) = LeaseKept (note_keeps s (noted_moment s now)).of_session
given_lease s now out (AliveDropped message heard is strange) = LeaseKept (note_keeps s (noted_moment s now)).of_session
given_lease s now out (OutOfNumbers message call heard is for last) = LeaseKept (keeps s).of_session
given_lease s now out (Replied message call heard is for room kept plain) = LeaseKept (replied_keeps s (ended_plainly (note_live s (noted_moment s now)) call.target message.result) now for.live (ended_same (note_live s (noted_moment s now)) call.target message.result))
given_lease s now out (Installed message call taught stamp heard is for learned) = LeaseKept (record { session = inl refl; epoch = refl; processed = refl; lease = refl })
given_lease s now out (Departed message call heard is for leaving done) = LeaseLeft (λ e. cc) (λ e. cc) refl refl (noted_lease s.cache (noted_moment s now))
given_lease s now out (ReplyDropped message call heard is for dropped) = LeaseKept (record { session = inl (behind_live s now for.live); epoch = refl; processed = refl; lease = noted_lease s.cache (noted_moment s now) })
given_lease s now out (NotAwaited message heard is none) = LeaseKept (note_keeps s (noted_moment s now)).of_session
given_lease s now out (Learns message present heard is later) = LeaseCarried message present is later (behind_live s now later.live) refl refl (noted_lease s.cache (noted_moment s now))
given_lease s now out (Lost message heard is loss) = LeaseLeft (λ e. cc) (λ e. cc) refl refl (noted_lease s.cache (noted_moment s now))
given_lease s now out (TurnedAway message heard is fault unstarted) = LeaseLeft (λ e. cc) (λ e. cc) refl refl refl
given_lease s now out (RefusalDropped message heard is earlier stays) = LeaseKept (note_keeps s (noted_moment s now)).of_session

pub give_lease : (s : ClientState) (now : ℕ) (out : Out) → LeaseDoes s now out (give_step s now out).0
give_lease s now out = let c = give_case s now out in subst (λ p. LeaseDoes s now out p.0) (sym c.1) (given_lease s now out c.0)

-- ---- what was processed

-- what a message does to what was processed, whatever becomes of the lease
pub data ProcessedDoes (s : ClientState) (now : ℕ) (out : Out) (new : ClientState) : Type 0 where
  ProcessedKept : new.processed ≡ s.processed → ProcessedDoes s now out new
  -- a refusal tells of a later epoch
  ProcessedAnew : (message : RefusedMessage) (present : ℕ) → out ≡ outs.Refused message → IsLater s now message present → new.epoch ≡ present → new.processed ≡ 0 → ProcessedDoes s now out new
  -- an Alive of the client's epoch, in its session, carries no number twice and leaves none out
  ProcessedMore : (message : AliveMessage) → out ≡ outs.Alive message → IsFit s now message → new.epoch ≡ s.epoch → ProcessesMore s message new → ProcessedDoes s now out new

pub processed_by : (s new : ClientState) (now : ℕ) (out : Out) → LeaseDoes s now out new → ProcessedDoes s now out new
processed_by s new now out (LeaseKept kept) = ProcessedKept kept.processed
processed_by s new now out (LeaseLeft standing live epoch processed lease) = ProcessedKept processed
processed_by s new now out (LeaseCarried message present is later session epoch processed lease) = ProcessedAnew message present is later epoch processed
processed_by s new now out (LeaseBegun message is standing fits live epoch processed lease) = ProcessedKept processed
processed_by s new now out (LeaseBettered message is fit taken session epoch processed lease) = ProcessedMore message is fit epoch processed
processed_by s new now out (LeasePassed message is fit session epoch processed lease) = ProcessedMore message is fit epoch processed

pub give_processed : (s : ClientState) (now : ℕ) (out : Out) → ProcessedDoes s now out (give_step s now out).0
give_processed s now out = processed_by s (give_step s now out).0 now out (give_lease s now out)

-- what is sent
abbrev request_of : Result Beaten Fault → Option Request
request_of (Ok beaten) = beaten.request
request_of (Err fault) = None

-- what was processed
pub record Acknowledges (s : ClientState) (beat : BeatMessage) : Type 0 where
  pub invalidations : beat.invalidations ≡ s.processed
  pub events : beat.events ≡ s.heard

acknowledges : (s : ClientState) (now : ℕ) (beat : BeatMessage) (c : BeatCase s now) → request_of (beaten_in s now c).1 ≡ Some (requests.Beat beat) → Acknowledges s beat
acknowledges s now beat (BeatTooLate late) h = cc
acknowledges s now beat (OutOfBeats early last) h = cc
acknowledges s now beat (Starts early unstarted room) h = cc
acknowledges s now beat (Beats early live then room) h = record { invalidations = cc; events = cc }
acknowledges s now beat (Quiet early started live) h = cc

-- a Beat acknowledges what was processed
pub beat_acknowledges : (s : ClientState) (now : ℕ) (beat : BeatMessage) → request_of (beat_step s now).1 ≡ Some (requests.Beat beat) → Acknowledges s beat
beat_acknowledges s now beat h = let c = beat_case s now in acknowledges s now beat c.0 (ap (λ p. request_of p.1) (sym c.1) ∙ h)

-- ---- the epoch before the first session

-- a client without a session knows no epoch yet
abbrev pub HasNoEpoch : ClientState → Type 0
HasNoEpoch s = s.session ≡ sessions.Unstarted → s.epoch ≡ 0

pub unstarted_stays : (s new : ClientState) → SessionStays s new → new.session ≡ sessions.Unstarted → s.session ≡ sessions.Unstarted
unstarted_stays s new (inl same) e = sym same ∙ e
unstarted_stays s new (inr left) e = let two : sessions.Lost ≡ sessions.Unstarted = sym left.1 ∙ e in cc

no_epoch_kept : (s new : ClientState) → KeepsSession s new → HasNoEpoch s → HasNoEpoch new
no_epoch_kept s new kept h e = kept.epoch ∙ h (unstarted_stays s new kept.session e)

pub ask_keeps_no_epoch : (s : ClientState) (now : ℕ) (ask : Ask) → HasNoEpoch s → HasNoEpoch (ask_step s now ask).0
ask_keeps_no_epoch s now ask h = no_epoch_kept s (ask_step s now ask).0 (ask_keeps s now ask).of_session h

pub beat_keeps_no_epoch : (s : ClientState) (now : ℕ) → HasNoEpoch s → HasNoEpoch (beat_step s now).0
beat_keeps_no_epoch s now h = no_epoch_kept s (beat_step s now).0 (beat_keeps_session s now) h

no_epoch_behind : (s new : ClientState) (now : ℕ) (out : Out) → LeaseDoes s now out new → HasNoEpoch s → HasNoEpoch new
no_epoch_behind s new now out (LeaseKept kept) h = no_epoch_kept s new kept h
no_epoch_behind s new now out (LeaseLeft standing live epoch processed lease) h = λ e. absurd (standing e)
no_epoch_behind s new now out (LeaseCarried message present is later session epoch processed lease) h = λ e. let two : sessions.Live ≡ sessions.Unstarted = sym later.live.live ∙ (sym session ∙ e) in cc
no_epoch_behind s new now out (LeaseBegun message is standing fits live epoch processed lease) h = λ e. let two : sessions.Live ≡ sessions.Unstarted = sym live ∙ e in cc
no_epoch_behind s new now out (LeaseBettered message is fit taken session epoch processed lease) h = λ e. epoch ∙ h (sym session ∙ e)
no_epoch_behind s new now out (LeasePassed message is fit session epoch processed lease) h = λ e. epoch ∙ h (sym session ∙ e)

pub give_keeps_no_epoch : (s : ClientState) (now : ℕ) (out : Out) → HasNoEpoch s → HasNoEpoch (give_step s now out).0
give_keeps_no_epoch s now out h = no_epoch_behind s (give_step s now out).0 now out (give_lease s now out) h

-- ---- the epoch rises

rises_by : (s new : ClientState) (now : ℕ) (out : Out) → LeaseDoes s now out new → HasNoEpoch s → s.epoch ≤ new.epoch
rises_by s new now out (LeaseKept kept) h = omega (arith, kept.epoch)
rises_by s new now out (LeaseLeft standing live epoch processed lease) h = omega (arith, epoch)
rises_by s new now out (LeaseCarried message present is later session epoch processed lease) h = omega (arith, epoch, later.later)
rises_by s new now out (LeaseBegun message is standing fits live epoch processed lease) h = omega (arith, h standing.unstarted)
rises_by s new now out (LeaseBettered message is fit taken session epoch processed lease) h = omega (arith, epoch)
rises_by s new now out (LeasePassed message is fit session epoch processed lease) h = omega (arith, epoch)

-- no message takes a client back into an earlier epoch
pub give_epoch_rises : (s : ClientState) (now : ℕ) (out : Out) → HasNoEpoch s → s.epoch ≤ (give_step s now out).0.epoch
give_epoch_rises s now out h = rises_by s (give_step s now out).0 now out (give_lease s now out) h
