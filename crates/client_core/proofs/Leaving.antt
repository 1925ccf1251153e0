-- A client that ends its session serves nothing any more, whatever it is asked for and given.
use Rattle.std.proofs.Common.{◌≡◌, ◌≢◌, ℕ, Bool, true, false, cond, [], Option, Some, None, refl, sym, ap, ◌∙◌}
use Rattle.std.specs.Prelude.{◌||◌}
use Rattle.lease_core.specs.Lease.{LeaseTerms, is_unexpired}
use Rattle.cache_core.specs.Caches.{CacheState, is_leased, noted as noted_cache}
use Rattle.cache_core.specs.declared.standings.SessionTrust.{SessionTrust}
use Rattle.cache_core.specs.declared.standings.SessionTrust.TheVariants as standings
use Rattle.tags_cell.specs.declared.messages.outs.Out.{Out}
use Rattle.tags_cell.specs.declared.messages.outs.CallResult.{CallResult}
use Rattle.tags_cell.specs.declared.messages.outs.CallResult.TheVariants as results
use Rattle.client_core.specs.declared.parts.asks.Ask.{Ask}
use Rattle.client_core.specs.declared.parts.sessions.ClientStanding.{ClientStanding}
use Rattle.client_core.specs.declared.parts.sessions.ClientStanding.TheVariants as sessions
use Rattle.client_core.specs.declared.parts.targets.Target.{Target}
use Rattle.client_core.specs.Leased.{under, shut, shut_if}
use Rattle.client_core.specs.State.{ClientState, IsOff, at_moment, note_live, note_in, note, session_behind, standing_then}
use Rattle.client_core.specs.Gives.{ended_plainly}
use Rattle.client_core.specs.Targets.{is_leaving}
use Rattle.client_core.specs.Cases.{noted_moment, AskCase, asked_in, BeatCase, beaten_in, GiveCase, given_in}
use Rattle.client_core.specs.Cases.AskCase.{AskedTooLate, Unsafe, Refused, ReadServed, AbsenceServed, Shared, OutOfHandles, Released, OutOfCalls, Sent, Poisoned}
use Rattle.client_core.specs.Cases.BeatCase.{BeatTooLate, OutOfBeats, Starts, Beats, Quiet}
use Rattle.client_core.specs.Cases.GiveCase.{GivenTooLate, OfAnother, Started, StartedUnfit, StartedDropped, LeaseTaken, LeaseStays, AliveUnfit, AliveDropped, OutOfNumbers, Replied, Installed, Departed, ReplyDropped, NotAwaited, Learns, Lost, TurnedAway, RefusalDropped}

-- ---- the time is noted

noted_shut : (cache : CacheState) (now : ℕ) → cache.enabled ≡ false → (noted_cache cache now).enabled ≡ false
noted_shut cache now h = elim (is_leased cache.lease now) as (λ b. (cond b cache (record cache { entries = []; enabled = false })).enabled ≡ false) [ true ↦ h | false ↦ refl ]

still_begun : (standing : SessionTrust) → session_behind standing ≢ sessions.Unstarted
still_begun standings.Safe = λ e. cc
still_begun (standings.Jeopardy since) = λ e. cc
still_begun standings.Lost = λ e. cc

live_off : (s : ClientState) (m : ℕ) → IsOff s → IsOff (note_live s m)
live_off s m h = record { shuts = λ leave. noted_shut s.cache m (h.shuts leave); begun = λ leave. still_begun (standing_then s m) }

note_off_in : (s : ClientState) (session : ClientStanding) (m : ℕ) → IsOff s → IsOff (note_in session s m)
note_off_in s sessions.Unstarted m h = record { shuts = h.shuts; begun = h.begun }
note_off_in s sessions.Live m h = live_off s m h
note_off_in s sessions.Lost m h = record { shuts = h.shuts; begun = h.begun }
note_off_in s sessions.TurnedAway m h = record { shuts = h.shuts; begun = h.begun }

note_off : (s : ClientState) (m : ℕ) → IsOff s → IsOff (note s m)
note_off s m h = note_off_in s s.session m h

-- ---- asked

shut_where : (b : Bool) (cache : CacheState) (own : Bool) → (own || b) ≡ true → (own ≡ true → cache.enabled ≡ false) → (shut_if b cache).enabled ≡ false
shut_where true cache own h k = refl
shut_where false cache true h k = k refl
shut_where false cache false h k = cc

live_not : (s : ClientState) → s.session ≡ sessions.Live → s.session ≢ sessions.Unstarted
live_not s live = λ e. let two : sessions.Live ≡ sessions.Unstarted = sym live ∙ e in cc

pub asked_off : (s : ClientState) (now : ℕ) (ask : Ask) (c : AskCase s now ask) → IsOff s → IsOff (asked_in s now ask c).0
asked_off s now ask (AskedTooLate late) h = h
asked_off s now ask (Unsafe fault early is) h = note_off s (noted_moment s now) h
asked_off s now ask (Refused fault safe is) h = record { shuts = h.shuts; begun = h.begun }
asked_off s now ask (ReadServed number handle call entry given safe is readable) h = record { shuts = h.shuts; begun = h.begun }
asked_off s now ask (AbsenceServed opening safe stays is plain cached) h = record { shuts = h.shuts; begun = h.begun }
asked_off s now ask (Shared opening view handle safe is shared room) h = record { shuts = h.shuts; begun = h.begun }
asked_off s now ask (OutOfHandles opening view handle safe is shared last) h = h
asked_off s now ask (Released number handle safe is found shared) h = record { shuts = h.shuts; begun = h.begun }
asked_off s now ask (OutOfCalls call sequencer target sendable last) h = h
asked_off s now ask (Sent call sequencer target sendable room) h = record { shuts = λ leave. shut_where (is_leaving target) s.cache s.leaving leave h.shuts; begun = λ leave. live_not s sendable.safe.live }
asked_off s now ask (Poisoned number handle safe is usable) h = record { shuts = h.shuts; begun = h.begun }

-- ---- a Start or a Beat

pub beaten_off : (s : ClientState) (now : ℕ) (c : BeatCase s now) → IsOff s → IsOff (beaten_in s now c).0
beaten_off s now (BeatTooLate late) h = h
beaten_off s now (OutOfBeats early last) h = h
beaten_off s now (Starts early unstarted room) h = record { shuts = h.shuts; begun = h.begun }
beaten_off s now (Beats early live then room) h = let n = live_off s (noted_moment s now) h in record { shuts = n.shuts; begun = n.begun }
beaten_off s now (Quiet early started live) h = note_off s (noted_moment s now) h

-- ---- given

kept_shut : (b : Bool) (cache : CacheState) → b ≡ true → (shut_if b cache).enabled ≡ false
kept_shut true cache h = refl
kept_shut false cache h = cc

ended_off : (s : ClientState) (target : Target) (result : CallResult) → IsOff s → IsOff (ended_plainly s target result)
ended_off s target (results.Opened handle) h = record { shuts = h.shuts; begun = h.begun }
ended_off s target results.Closed h = record { shuts = h.shuts; begun = h.begun }
ended_off s target (results.Viewed view) h = record { shuts = h.shuts; begun = h.begun }
ended_off s target (results.Stated stat) h = record { shuts = h.shuts; begun = h.begun }
ended_off s target (results.Listed view) h = record { shuts = h.shuts; begun = h.begun }
ended_off s target (results.Sequencer bytes) h = record { shuts = h.shuts; begun = h.begun }
ended_off s target results.Done h = record { shuts = h.shuts; begun = h.begun }
ended_off s target (results.Refused fault) h = record { shuts = h.shuts; begun = h.begun }

pub given_off : (s : ClientState) (now : ℕ) (out : Out) (c : GiveCase s now out) → IsOff s → IsOff (given_in s now out c).0
given_off s now out (GivenTooLate late) h = h
given_off s now out (OfAnother early other) h = note_off s (noted_moment s now) h
given_off s now out (Started message heard is standing fits) h = record { shuts = λ leave. absurd (h.begun leave standing.unstarted); begun = λ leave. absurd (h.begun leave standing.unstarted) }
given_off s now out (StartedUnfit message heard is standing long) h = note_off s (noted_moment s now) h
given_off s now out (StartedDropped message heard is old) h = note_off s (noted_moment s now) h
given_off s now out (LeaseTaken message heard is fit taken) h =
    let n = live_off s (noted_moment s now) h in
    record { shuts = λ leave. kept_shut s.leaving _ leave; begun = n.begun }
given_off s now out (LeaseStays message heard is fit worse) h = let n = live_off s (noted_moment s now) h in record { shuts = n.shuts; begun = n.begun }
given_off s now out (AliveUnfit message heard is alive unfit) h = note_off s (noted_moment s now) h
given_off s now out (AliveDropped message heard is other) h = note_off s (noted_moment s now) h
given_off s now out (OutOfNumbers message call heard is for last) h = h
given_off s now out (Replied message call heard is for room kept plain) h = ended_off (note_live s (noted_moment s now)) call.target message.result (live_off s (noted_moment s now) h)
given_off s now out (Installed message call taught stamp heard is for learned) h = record { shuts = h.shuts; begun = h.begun }
given_off s now out (Departed message call heard is for leaving done) h = record { shuts = λ leave. refl; begun = λ leave e. cc }
given_off s now out (ReplyDropped message call heard is for dropped) h = let n = live_off s (noted_moment s now) h in record { shuts = n.shuts; begun = n.begun }
given_off s now out (NotAwaited message heard is none) h = note_off s (noted_moment s now) h
given_off s now out (Learns message present heard is later) h = let n = live_off s (noted_moment s now) h in record { shuts = n.shuts; begun = n.begun }
given_off s now out (Lost message heard is loss) h = record { shuts = λ leave. refl; begun = λ leave e. cc }
given_off s now out (TurnedAway message heard is fault unstarted) h = record { shuts = λ leave. refl; begun = λ leave e. cc }
given_off s now out (RefusalDropped message heard is earlier stays) h = note_off s (noted_moment s now) h
