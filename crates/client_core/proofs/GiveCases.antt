-- The arm of the table by which a client is given a message.
use Rattle.std.proofs.Common.{◌≡◌, ◌≢◌, inl, inr, ℕ, ◌<◌, ◌≤◌, max, Bool, true, false, cond, [], ◌∷◌, ◌++◌, append-nil, Option, Some, None, Result, Ok, Err, refl, sym, ap, ◌∙◌, subst, arith, eqb}
use Rattle.std.specs.Prelude.{◌==◌, ◌&&◌, nat_lt, nat_le}
use Rattle.std.proofs.lemmas.Bool.Decides.{nat_tests}
use Rattle.lease_core.specs.Lease.{moment_limit}
use Rattle.cache_core.specs.Caches.{takes_lease}
use Rattle.cache_core.specs.declared.standings.SessionTrust.{SessionTrust}
use Rattle.cache_core.specs.declared.standings.SessionTrust.TheVariants as standings
use Rattle.node_core.specs.declared.refusals.Fault.{Fault}
use Rattle.node_core.specs.declared.refusals.Fault.TheVariants as faults
use Rattle.node_core.specs.declared.lines.Line.TheVariants as lines
use Rattle.tags_cell.specs.declared.messages.outs.Out.{Out}
use Rattle.tags_cell.specs.declared.messages.outs.Out.TheVariants as outs
use Rattle.tags_cell.specs.declared.messages.outs.Started.{Started as StartedMessage}
use Rattle.tags_cell.specs.declared.messages.beats.Alive.{Alive as AliveMessage}
use Rattle.tags_cell.specs.declared.messages.outs.Reply.{Reply}
use Rattle.tags_cell.specs.declared.messages.outs.Refused.{Refused as RefusedMessage}
use Rattle.tags_cell.specs.Messages.{request_number, out_client}
use Rattle.client_core.specs.declared.parts.sessions.ClientStanding.{ClientStanding}
use Rattle.client_core.specs.declared.parts.sessions.ClientStanding.TheVariants as sessions
use Rattle.client_core.specs.declared.parts.steps.Given.{Given}
use Rattle.client_core.specs.declared.parts.targets.Target.{Target}
use Rattle.client_core.specs.declared.parts.targets.Target.TheVariants as targets
use Rattle.client_core.specs.declared.parts.targets.Outstanding.{Outstanding}
use Rattle.client_core.specs.State.{ClientState, standing_then, session_then, note_in, note, note_live}
use Rattle.client_core.specs.Opens.{Lesson}
use Rattle.client_core.specs.Lessons.{is_safe, is_fresh, may_install, taught, lesson}
use Rattle.client_core.specs.Targets.{unknown_lines}
use Rattle.client_core.specs.Handles.{has_number}
use Rattle.client_core.specs.Gives.{is_live, is_unstarted, is_span, told, passed_over, rejected, offered, begun, with_processed, takes_offer, bettered, with_lease, safe_lines, kept_alive, is_numbered, target_for, awaited, answer_of, ended_plainly, ended, finish_step, reply_for, lost, lose_step, later_epoch, learned, learn_step, taken, taken_own, give_at, give_step, leave_step, departed}
use Rattle.client_core.specs.Invalidations.{is_in_order}
use Rattle.client_core.specs.Events.{are_events_in_order, event_lines}
use Rattle.client_core.specs.Sessions.{session_without, session_after}
use Rattle.client_core.specs.Cases.{noted_moment, IsHeard, IsLive, IsStarted, IsAlive, IsFit, IsAwaited, GiveCase, given_in}
use Rattle.client_core.specs.Cases.GiveCase.{GivenTooLate, OfAnother, Started, StartedUnfit, StartedDropped, LeaseTaken, LeaseStays, AliveUnfit, AliveDropped, OutOfNumbers, Replied, Installed, Departed, ReplyDropped, NotAwaited, Learns, Lost, TurnedAway, RefusalDropped}
use Rattle.client_core.proofs.Noting.{either, less, not_less, same, other, up_to, both, safely, live_before, unstarted_before, noted_lease}
use Rattle.tags_cell.specs.declared.messages.outs.CallResult.{CallResult}
use Rattle.tags_cell.specs.declared.messages.outs.CallResult.TheVariants as results
use Rattle.node_core.specs.declared.answers.Answer.TheVariants as answers

-- one of the cases is what is done
abbrev pub IsGiven : (s : ClientState) (now : ℕ) (out : Out) → ClientState × Result Given Fault → Type 0
IsGiven s now out p = (c : GiveCase s now out) × (p ≡ given_in s now out c)

-- in a session then: in one before
lives : (s : ClientState) (now : ℕ) → session_then s (noted_moment s now) ≡ sessions.Live → IsLive s now
lives s now then = record { live = live_before s s.session (noted_moment s now) then; then = then }

-- what is done with a client in a session
in_session : (s : ClientState) (now : ℕ) (f : ClientState → ClientState × Result Given Fault) → s.session ≡ sessions.Live → f (note s (noted_moment s now)) ≡ f (note_live s (noted_moment s now))
in_session s now f live = ap (λ x. f (note_in x s (noted_moment s now))) live

-- ---- a Started

-- what the newest Start's answer does
abbrev begin : ClientState → ℕ → StartedMessage → ClientState × Result Given Fault
begin s m message = cond (is_span message.span) (begun s m message, Ok (told s m [] None)) (rejected s m)

begun_case : (s : ClientState) (now : ℕ) (out : Out) (message : StartedMessage) (b : Bool) → IsHeard s now out → out ≡ outs.Started message → IsStarted s message → is_span message.span ≡ b → IsGiven s now out (cond b (begun s (noted_moment s now) message, Ok (told s (noted_moment s now) [] None)) (rejected s (noted_moment s now)))
begun_case s now out message true heard is standing h = (Started message heard is standing (less message.span moment_limit h), refl)
begun_case s now out message false heard is standing h = (StartedUnfit message heard is standing (not_less message.span moment_limit h), refl)

newest_case : (s : ClientState) (now : ℕ) (out : Out) (message : StartedMessage) (b : Bool) → IsHeard s now out → out ≡ outs.Started message → s.session ≡ sessions.Unstarted → (message.number == s.beats) ≡ b → IsGiven s now out (cond b (begin s (noted_moment s now) message) (passed_over s (noted_moment s now)))
newest_case s now out message true heard is unstarted h =
    begun_case s now out message (is_span message.span) heard is (record { unstarted = unstarted; newest = same message.number s.beats h }) refl
newest_case s now out message false heard is unstarted h = (StartedDropped message heard is (λ e. other message.number s.beats h), refl)

started_case : (s : ClientState) (now : ℕ) (out : Out) (message : StartedMessage) (session : ClientStanding) → IsHeard s now out → out ≡ outs.Started message → s.session ≡ session → IsGiven s now out (cond (is_unstarted session && message.number == s.beats) (begin s (noted_moment s now) message) (passed_over s (noted_moment s now)))
started_case s now out message sessions.Unstarted heard is at = newest_case s now out message (message.number == s.beats) heard is at refl
started_case s now out message sessions.Live heard is at = (StartedDropped message heard is (λ e. cc), refl)
started_case s now out message sessions.Lost heard is at = (StartedDropped message heard is (λ e. cc), refl)
started_case s now out message sessions.TurnedAway heard is at = (StartedDropped message heard is (λ e. cc), refl)

-- ---- an Alive

-- what an Alive does with the client once it noted the time
abbrev kept_with : ClientState → ℕ → AliveMessage → ClientState → ClientState × Result Given Fault
kept_with s m message n = (with_lease (with_processed n message) m message, Ok (told s m (event_lines s.number s.heard message.events ++ safe_lines (with_processed n message) m message) None))

-- the client that the lease is offered to
abbrev processed_live : ClientState → ℕ → AliveMessage → ClientState
processed_live s m message = with_processed (note_live s m) message

offer_same : (s : ClientState) (m : ℕ) (message : AliveMessage) → takes_offer (processed_live s m message) message ≡ takes_offer s message
offer_same s m message = ap (λ held. message.number == s.beats && takes_lease held (offered s message.span)) (noted_lease s.cache m)

-- whether the offer is taken
taken_lines : (b : Bool) (c : Bool) (X : Type 0) (x y : X) → b ≡ false → cond (b && c) x y ≡ y
taken_lines true c X x y h = cc
taken_lines false c X x y h = refl

worse : (a b : Bool) → (a && b) ≡ false → a ≡ true → b ≡ false
worse true b h k = h
worse false b h k = cc

not_same : (n m : ℕ) → n ≡ m → eqb n m ≡ true
not_same n m h = grind (arith, nat_tests)

offer_case : (s : ClientState) (now : ℕ) (out : Out) (message : AliveMessage) (b : Bool) → IsHeard s now out → out ≡ outs.Alive message → IsFit s now message → takes_offer s message ≡ b → IsGiven s now out (kept_with s (noted_moment s now) message (note_live s (noted_moment s now)))
offer_case s now out message true heard is fit h =
    let e = both (message.number == s.beats) (takes_lease s.cache.lease (offered s message.span)) h in
    let m = noted_moment s now in
    let n = processed_live s (noted_moment s now) message in
    let l = event_lines s.number s.heard message.events in (
      LeaseTaken message heard is fit (record { newest = same message.number s.beats e.0; better = e.1 }),
      ap {B = ClientState × Result Given Fault} (λ b. (cond b (bettered n m (offered s message.span)) n, Ok (told s m (l ++ safe_lines n m message) None))) (offer_same s m message ∙ h),
    )
offer_case s now out message false heard is fit h =
    let m = noted_moment s now in
    let n = processed_live s (noted_moment s now) message in
    let l = event_lines s.number s.heard message.events in
    let e = offer_same s m message ∙ h in (
      LeaseStays message heard is fit (λ newest. worse (message.number == s.beats) (takes_lease s.cache.lease (offered s message.span)) h (not_same message.number s.beats newest)),
      ap {B = ClientState × Result Given Fault} (λ b. (cond b (bettered n m (offered s message.span)) n, Ok (told s m (l ++ safe_lines n m message) None))) e
          ∙ ap {B = ClientState × Result Given Fault} (λ more. (n, Ok (told s m more None))) (ap (λ more. l ++ more) (taken_lines (takes_offer n message) _ _ _ _ e) ∙ append-nil l),
    )

fit_case : (s : ClientState) (now : ℕ) (out : Out) (message : AliveMessage) → IsHeard s now out → out ≡ outs.Alive message → IsFit s now message → IsGiven s now out (kept_alive s (noted_moment s now) message)
fit_case s now out message heard is fit =
    let c = offer_case s now out message (takes_offer s message) heard is fit refl in
    (c.0, in_session s now (kept_with s (noted_moment s now) message) fit.alive.live.live ∙ c.1)

order_case : (s : ClientState) (now : ℕ) (out : Out) (message : AliveMessage) (b : Bool) → IsHeard s now out → out ≡ outs.Alive message → IsAlive s now message → message.span < moment_limit → is_numbered s message ≡ b → IsGiven s now out (cond b (kept_alive s (noted_moment s now) message) (rejected s (noted_moment s now)))
order_case s now out message true heard is alive fits h =
    let e = both (is_in_order s.processed message.invalidations) (are_events_in_order s.heard message.events) h in
    fit_case s now out message heard is (record { alive = alive; fits = fits; in_order = e.0; events_in_order = e.1 })
order_case s now out message false heard is alive fits h = (AliveUnfit message heard is alive (inr h), refl)

-- what an Alive of the client's epoch does
abbrev prolong : ClientState → ℕ → AliveMessage → ClientState × Result Given Fault
prolong s m message = cond (is_span message.span && is_numbered s message) (kept_alive s m message) (rejected s m)

span_case : (s : ClientState) (now : ℕ) (out : Out) (message : AliveMessage) (b : Bool) → IsHeard s now out → out ≡ outs.Alive message → IsAlive s now message → is_span message.span ≡ b → IsGiven s now out (cond (b && is_numbered s message) (kept_alive s (noted_moment s now) message) (rejected s (noted_moment s now)))
span_case s now out message true heard is alive h = order_case s now out message (is_numbered s message) heard is alive (less message.span moment_limit h) refl
span_case s now out message false heard is alive h = (AliveUnfit message heard is alive (inl (not_less message.span moment_limit h)), refl)

own_epoch_case : (s : ClientState) (now : ℕ) (out : Out) (message : AliveMessage) (b : Bool) → IsHeard s now out → out ≡ outs.Alive message → IsLive s now → (message.epoch == s.epoch) ≡ b → IsGiven s now out (cond b (prolong s (noted_moment s now) message) (passed_over s (noted_moment s now)))
own_epoch_case s now out message true heard is live h = span_case s now out message (is_span message.span) heard is (record { live = live; epoch = same message.epoch s.epoch h }) refl
own_epoch_case s now out message false heard is live h = (AliveDropped message heard is (λ e. other message.epoch s.epoch h), refl)

alive_case : (s : ClientState) (now : ℕ) (out : Out) (message : AliveMessage) (session : ClientStanding) → IsHeard s now out → out ≡ outs.Alive message → session_then s (noted_moment s now) ≡ session → IsGiven s now out (cond (is_live session && message.epoch == s.epoch) (prolong s (noted_moment s now) message) (passed_over s (noted_moment s now)))
alive_case s now out message sessions.Unstarted heard is at = (AliveDropped message heard is (λ e. cc), refl)
alive_case s now out message sessions.Live heard is at = own_epoch_case s now out message (message.epoch == s.epoch) heard is (lives s now at) refl
alive_case s now out message sessions.Lost heard is at = (AliveDropped message heard is (λ e. cc), refl)
alive_case s now out message sessions.TurnedAway heard is at = (AliveDropped message heard is (λ e. cc), refl)

-- ---- a Reply

-- ---- what it teaches

pub taught_if : (b : Bool) (o : Option Lesson) (t : Lesson) → cond b o None ≡ Some t → (b ≡ true) × (o ≡ Some t)
taught_if true o t h = (refl, h)
taught_if false o t h = cc

safe_standing : (standing : SessionTrust) → is_safe standing ≡ true → standing ≡ standings.Safe
safe_standing standings.Safe h = refl
safe_standing (standings.Jeopardy since) h = cc
safe_standing standings.Lost h = cc

fresh_stamp : (processed : ℕ) (stamp : Option ℕ) → is_fresh processed stamp ≡ true → (number : ℕ) × (stamp ≡ Some number) × (processed ≤ number)
fresh_stamp processed None h = cc
fresh_stamp processed (Some number) h = (number, refl, up_to processed number h)

installed_case : (s : ClientState) (now : ℕ) (out : Out) (message : Reply) (call : Outstanding) (t : Lesson) → IsHeard s now out → out ≡ outs.Reply message → IsAwaited s now message call → has_number s.opened message.result ≡ true → lesson s (noted_moment s now) message call.target ≡ Some t → IsGiven s now out (ended s (noted_moment s now) call.target message.result (Some t), Ok (told s (noted_moment s now) (lines.Done s.number message.number (answer_of s message.result) ∷ []) None))
installed_case s now out message call t heard is for room h =
    let m = noted_moment s now in
    let e = taught_if (may_install s m message.stamp) (taught s call.target message.result) t h in
    let f = both s.cache.enabled (is_safe (standing_then s m) && is_fresh s.processed message.stamp) e.0 in
    let g = both (is_safe (standing_then s m)) (is_fresh s.processed message.stamp) f.1 in
    let r = safely s m for.live.live (safe_standing (standing_then s m) g.0) in
    let k = fresh_stamp s.processed message.stamp g.1 in
    (Installed message call t k.0 heard is for (record { teaches = h; safe = record { early = heard.early; live = r.live; safe = r.safe; leased = r.leased }; enabled = f.0; stamped = k.1; fresh = k.2 }), refl)

lesson_case : (s : ClientState) (now : ℕ) (out : Out) (message : Reply) (call : Outstanding) (o : Option Lesson) → IsHeard s now out → out ≡ outs.Reply message → IsAwaited s now message call → call.target ≢ targets.Dropped → has_number s.opened message.result ≡ true → lesson s (noted_moment s now) message call.target ≡ o → IsGiven s now out (ended s (noted_moment s now) call.target message.result o, Ok (told s (noted_moment s now) (lines.Done s.number message.number (answer_of s message.result) ∷ []) None))
lesson_case s now out message call None heard is for kept room h = (
  Replied message call heard is for room kept h,
  in_session s now (λ n. (ended_plainly n call.target message.result, Ok (told s (noted_moment s now) (lines.Done s.number message.number (answer_of s message.result) ∷ []) None))) for.live.live,
)
lesson_case s now out message call (Some t) heard is for kept room h = installed_case s now out message call t heard is for room h

room_case : (s : ClientState) (now : ℕ) (out : Out) (message : Reply) (call : Outstanding) (b : Bool) → IsHeard s now out → out ≡ outs.Reply message → IsAwaited s now message call → call.target ≢ targets.Dropped → has_number s.opened message.result ≡ b → IsGiven s now out (cond b (ended s (noted_moment s now) call.target message.result (lesson s (noted_moment s now) message call.target), Ok (told s (noted_moment s now) (lines.Done s.number message.number (answer_of s message.result) ∷ []) None)) (s, Err faults.Exhausted))
room_case s now out message call true heard is for kept h = lesson_case s now out message call (lesson s (noted_moment s now) message call.target) heard is for kept h refl
room_case s now out message call false heard is for kept h = (OutOfNumbers message call heard is for h, refl)

finish_case : (s : ClientState) (now : ℕ) (out : Out) (message : Reply) (call : Outstanding) (target : Target) → IsHeard s now out → out ≡ outs.Reply message → IsAwaited s now message call → call.target ≡ target → target ≢ targets.Dropped → IsGiven s now out (finish_step s (noted_moment s now) message target)
finish_case s now out message call target heard is for at kept =
    subst (λ t. IsGiven s now out (finish_step s (noted_moment s now) message t)) at (room_case s now out message call (has_number s.opened message.result) heard is for (λ e. kept (sym at ∙ e)) refl)

-- ---- the reply to the call that ends the session

refused_leave : (s : ClientState) (now : ℕ) (out : Out) (message : Reply) (call : Outstanding) → IsHeard s now out → out ≡ outs.Reply message → IsAwaited s now message call → call.target ≡ targets.Leaving → IsGiven s now out (finish_step s (noted_moment s now) message targets.Leaving)
refused_leave s now out message call heard is for at = finish_case s now out message call targets.Leaving heard is for at (λ e. cc)

leaving_case : (s : ClientState) (now : ℕ) (out : Out) (message : Reply) (call : Outstanding) (result : CallResult) → IsHeard s now out → out ≡ outs.Reply message → IsAwaited s now message call → call.target ≡ targets.Leaving → message.result ≡ result → IsGiven s now out (leave_step s (noted_moment s now) message result)
leaving_case s now out message call results.Done heard is for at done =
    (Departed message call heard is for at done, in_session s now (λ n. (departed n, Ok (told s (noted_moment s now) (lines.Done s.number message.number answers.Okay ∷ []) None))) for.live.live)
leaving_case s now out message call (results.Opened handle) heard is for at other = refused_leave s now out message call heard is for at
leaving_case s now out message call results.Closed heard is for at other = refused_leave s now out message call heard is for at
leaving_case s now out message call (results.Viewed view) heard is for at other = refused_leave s now out message call heard is for at
leaving_case s now out message call (results.Stated stat) heard is for at other = refused_leave s now out message call heard is for at
leaving_case s now out message call (results.Listed view) heard is for at other = refused_leave s now out message call heard is for at
leaving_case s now out message call (results.Sequencer bytes) heard is for at other = refused_leave s now out message call heard is for at
leaving_case s now out message call (results.Refused fault) heard is for at other = refused_leave s now out message call heard is for at

-- ---- its tests, one after the other

target_case : (s : ClientState) (now : ℕ) (out : Out) (message : Reply) (call : Outstanding) (target : Target) → IsHeard s now out → out ≡ outs.Reply message → IsAwaited s now message call → call.target ≡ target → IsGiven s now out (reply_for s (noted_moment s now) message (Some target))
target_case s now out message call targets.NewHandle heard is for at = finish_case s now out message call targets.NewHandle heard is for at (λ e. cc)
target_case s now out message call (targets.Closing number) heard is for at = finish_case s now out message call (targets.Closing number) heard is for at (λ e. cc)
target_case s now out message call (targets.Handle number) heard is for at = finish_case s now out message call (targets.Handle number) heard is for at (λ e. cc)
target_case s now out message call (targets.Sequencing number) heard is for at = finish_case s now out message call (targets.Sequencing number) heard is for at (λ e. cc)
target_case s now out message call targets.Checking heard is for at = finish_case s now out message call targets.Checking heard is for at (λ e. cc)
target_case s now out message call targets.Leaving heard is for at = leaving_case s now out message call message.result heard is for at refl
target_case s now out message call targets.Dropped heard is for at =
    (ReplyDropped message call heard is for at, in_session s now (λ n. (record n { outstanding = None }, Ok (told s (noted_moment s now) [] None))) for.live.live)

not_awaited_case : (s : ClientState) (now : ℕ) (out : Out) (message : Reply) → IsHeard s now out → out ≡ outs.Reply message → awaited s (noted_moment s now) message ≡ None → IsGiven s now out (passed_over s (noted_moment s now))
not_awaited_case s now out message heard is none = (NotAwaited message heard is none, refl)

number_case : (s : ClientState) (now : ℕ) (out : Out) (message : Reply) (call : Outstanding) (b : Bool) → IsHeard s now out → out ≡ outs.Reply message → IsLive s now → message.epoch ≡ s.epoch → s.outstanding ≡ Some call → (message.number == request_number call.request) ≡ b → awaited s (noted_moment s now) message ≡ cond b (Some call.target) None → IsGiven s now out (reply_for s (noted_moment s now) message (cond b (Some call.target) None))
number_case s now out message call true heard is live epoch outstanding h for =
    target_case s now out message call call.target heard is (record { live = live; epoch = epoch; outstanding = outstanding; number = same message.number (request_number call.request) h }) refl
number_case s now out message call false heard is live epoch outstanding h none = not_awaited_case s now out message heard is none

outstanding_case : (s : ClientState) (now : ℕ) (out : Out) (message : Reply) (o : Option Outstanding) → IsHeard s now out → out ≡ outs.Reply message → IsLive s now → message.epoch ≡ s.epoch → s.outstanding ≡ o → awaited s (noted_moment s now) message ≡ target_for message.number o → IsGiven s now out (reply_for s (noted_moment s now) message (target_for message.number o))
outstanding_case s now out message None heard is live epoch at none = not_awaited_case s now out message heard is none
outstanding_case s now out message (Some call) heard is live epoch at for =
    number_case s now out message call (message.number == request_number call.request) heard is live epoch at refl for

epoch_case : (s : ClientState) (now : ℕ) (out : Out) (message : Reply) (b : Bool) → IsHeard s now out → out ≡ outs.Reply message → IsLive s now → (message.epoch == s.epoch) ≡ b → awaited s (noted_moment s now) message ≡ cond b (target_for message.number s.outstanding) None → IsGiven s now out (reply_for s (noted_moment s now) message (cond b (target_for message.number s.outstanding) None))
epoch_case s now out message true heard is live h for = outstanding_case s now out message s.outstanding heard is live (same message.epoch s.epoch h) refl for
epoch_case s now out message false heard is live h none = not_awaited_case s now out message heard is none

reply_case : (s : ClientState) (now : ℕ) (out : Out) (message : Reply) (session : ClientStanding) → IsHeard s now out → out ≡ outs.Reply message → session_then s (noted_moment s now) ≡ session → awaited s (noted_moment s now) message ≡ cond (is_live session && message.epoch == s.epoch) (target_for message.number s.outstanding) None → IsGiven s now out (reply_for s (noted_moment s now) message (cond (is_live session && message.epoch == s.epoch) (target_for message.number s.outstanding) None))
reply_case s now out message sessions.Unstarted heard is at none = not_awaited_case s now out message heard is none
reply_case s now out message sessions.Live heard is at for = epoch_case s now out message (message.epoch == s.epoch) heard is (lives s now at) refl for
reply_case s now out message sessions.Lost heard is at none = not_awaited_case s now out message heard is none
reply_case s now out message sessions.TurnedAway heard is at none = not_awaited_case s now out message heard is none

-- ---- a refusal

-- the session that a refusal leaves
abbrev left : ClientState → ℕ → RefusedMessage → Option ClientStanding
left s now message = session_after (session_then s (noted_moment s now)) s.epoch message.epoch message.fault

-- the later epoch that it tells of
abbrev tells : ClientState → ℕ → RefusedMessage → Option ℕ
tells s now message = later_epoch s (noted_moment s now) message.epoch message.fault

stays_case : (s : ClientState) (now : ℕ) (out : Out) (message : RefusedMessage) → IsHeard s now out → out ≡ outs.Refused message → tells s now message ≡ None → left s now message ≡ None → IsGiven s now out (passed_over s (noted_moment s now))
stays_case s now out message heard is earlier stays = (RefusalDropped message heard is earlier stays, refl)

loss_case : (s : ClientState) (now : ℕ) (out : Out) (message : RefusedMessage) (b : Bool) → IsHeard s now out → out ≡ outs.Refused message → message.fault ≡ faults.NoSession → IsLive s now → nat_le s.epoch message.epoch ≡ b → tells s now message ≡ None → left s now message ≡ cond b (Some sessions.Lost) None → IsGiven s now out (lose_step s (noted_moment s now) (cond b (Some sessions.Lost) None))
loss_case s now out message true heard is fault live h earlier after = (
  Lost message heard is (record { fault = fault; live = live; epoch = up_to s.epoch message.epoch h }),
  in_session s now (λ n. (lost n sessions.Lost, Ok (told s (noted_moment s now) (lines.Lost s.number ∷ []) None))) live.live,
)
loss_case s now out message false heard is fault live h earlier after = stays_case s now out message heard is earlier after

away_case : (s : ClientState) (now : ℕ) (out : Out) (message : RefusedMessage) → IsHeard s now out → out ≡ outs.Refused message → message.fault ≡ faults.NoSession → s.session ≡ sessions.Unstarted → IsGiven s now out (lose_step s (noted_moment s now) (Some sessions.TurnedAway))
away_case s now out message heard is fault unstarted = (
  TurnedAway message heard is fault unstarted,
  ap (λ x. (lost (note_in x s (noted_moment s now)) sessions.TurnedAway, Ok (told s (noted_moment s now) (lines.Lost s.number ∷ []) None))) unstarted,
)

without_case : (s : ClientState) (now : ℕ) (out : Out) (message : RefusedMessage) (session : ClientStanding) → IsHeard s now out → out ≡ outs.Refused message → message.fault ≡ faults.NoSession → session_then s (noted_moment s now) ≡ session → tells s now message ≡ None → left s now message ≡ session_without session s.epoch message.epoch → IsGiven s now out (lose_step s (noted_moment s now) (session_without session s.epoch message.epoch))
without_case s now out message sessions.Unstarted heard is fault at earlier after = away_case s now out message heard is fault (unstarted_before s s.session (noted_moment s now) at)
without_case s now out message sessions.Live heard is fault at earlier after = loss_case s now out message (nat_le s.epoch message.epoch) heard is fault (lives s now at) refl earlier after
without_case s now out message sessions.Lost heard is fault at earlier after = stays_case s now out message heard is earlier after
without_case s now out message sessions.TurnedAway heard is fault at earlier after = stays_case s now out message heard is earlier after

later_case : (s : ClientState) (now : ℕ) (out : Out) (message : RefusedMessage) (present : ℕ) (b c : Bool) → IsHeard s now out → out ≡ outs.Refused message → message.fault ≡ faults.OldEpoch present → IsLive s now → nat_le s.epoch message.epoch ≡ b → nat_lt s.epoch present ≡ c → tells s now message ≡ cond (b && c) (Some present) None → left s now message ≡ None → IsGiven s now out (learn_step s (noted_moment s now) None (cond (b && c) (Some present) None))
later_case s now out message present true true heard is fault live e h told_of after = (
  Learns message present heard is (record { fault = fault; live = live; epoch = up_to s.epoch message.epoch e; later = less s.epoch present h }),
  in_session s now (λ n. (learned n present, Ok (told s (noted_moment s now) (unknown_lines s.number s.outstanding) None))) live.live,
)
later_case s now out message present true false heard is fault live e h earlier after = stays_case s now out message heard is earlier after
later_case s now out message present false c heard is fault live e h earlier after = stays_case s now out message heard is earlier after

old_case : (s : ClientState) (now : ℕ) (out : Out) (message : RefusedMessage) (present : ℕ) (session : ClientStanding) → IsHeard s now out → out ≡ outs.Refused message → message.fault ≡ faults.OldEpoch present → session_then s (noted_moment s now) ≡ session → tells s now message ≡ cond (is_live session && (nat_le s.epoch message.epoch && nat_lt s.epoch present)) (Some present) None → left s now message ≡ None → IsGiven s now out (learn_step s (noted_moment s now) None (cond (is_live session && (nat_le s.epoch message.epoch && nat_lt s.epoch present)) (Some present) None))
old_case s now out message present sessions.Unstarted heard is fault at earlier after = stays_case s now out message heard is earlier after
old_case s now out message present sessions.Live heard is fault at told_of after = later_case s now out message present (nat_le s.epoch message.epoch) (nat_lt s.epoch present) heard is fault (lives s now at) refl refl told_of after
old_case s now out message present sessions.Lost heard is fault at earlier after = stays_case s now out message heard is earlier after
old_case s now out message present sessions.TurnedAway heard is fault at earlier after = stays_case s now out message heard is earlier after

refused_case : (s : ClientState) (now : ℕ) (out : Out) (message : RefusedMessage) (fault : Fault) → IsHeard s now out → out ≡ outs.Refused message → message.fault ≡ fault → tells s now message ≡ later_epoch s (noted_moment s now) message.epoch fault → left s now message ≡ session_after (session_then s (noted_moment s now)) s.epoch message.epoch fault → IsGiven s now out (learn_step s (noted_moment s now) (session_after (session_then s (noted_moment s now)) s.epoch message.epoch fault) (later_epoch s (noted_moment s now) message.epoch fault))
refused_case s now out message faults.NoSession heard is at earlier after = without_case s now out message (session_then s (noted_moment s now)) heard is at refl earlier after
refused_case s now out message (faults.OldEpoch present) heard is at told_of after = old_case s now out message present (session_then s (noted_moment s now)) heard is at refl told_of after
refused_case s now out message fault heard is at earlier after = stays_case s now out message heard is earlier after

-- ---- the lemma

taken_case : (s : ClientState) (now : ℕ) (out message : Out) → IsHeard s now out → out ≡ message → IsGiven s now out (taken s (noted_moment s now) message)
taken_case s now out (outs.Started message) heard is = started_case s now out message s.session heard is refl
taken_case s now out (outs.Alive message) heard is = alive_case s now out message (session_then s (noted_moment s now)) heard is refl
taken_case s now out (outs.Reply message) heard is = reply_case s now out message (session_then s (noted_moment s now)) heard is refl refl
taken_case s now out (outs.Refused message) heard is = refused_case s now out message message.fault heard is refl refl refl

own_case : (s : ClientState) (now : ℕ) (out : Out) → nat_lt now moment_limit ≡ true → IsGiven s now out (taken_own s (noted_moment s now) out)
own_case s now out h =
    let early = less now moment_limit h in
    either (IsGiven s now out) (out_client out == s.number) (taken s (noted_moment s now) out) (passed_over s (noted_moment s now))
    (λ e. taken_case s now out out (record { early = early; own = same (out_client out) s.number e }) refl)
    (λ e. (OfAnother early (other (out_client out) s.number e), refl))

pub give_case : (s : ClientState) (now : ℕ) (out : Out) → IsGiven s now out (give_step s now out)
unfolding give_step
give_case s now out =
    either {A = Result ℕ Fault} (λ m. IsGiven s now out (give_at s out m)) (nat_lt now moment_limit) (Ok (max s.clock now)) (Err faults.Exhausted)
    (λ h. own_case s now out h) (λ h. (GivenTooLate (not_less now moment_limit h), refl))
