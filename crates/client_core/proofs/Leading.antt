-- The changes of the cache that are asked for before a step lead to the cache after it.
use Rattle.std.proofs.Common.{◌≡◌, ◌≢◌, ℕ, ◌+◌, ◌<◌, Bool, true, false, cond, List, [], ◌∷◌, ◌++◌, Option, Some, None, Result, Ok, Err, refl, sym, ap, ◌∙◌, subst, arith, ◌⊎◌, inl, inr}
use Rattle.std.specs.Prelude.{◌==◌, ◌&&◌, nat_lt, IfOk, is_none, not}
use Rattle.std.proofs.lemmas.Bool.Decides.{nat_tests}
use Rattle.std.proofs.lemmas.List.Sums.{fold-append}
use Rattle.lease_core.specs.Lease.{LeaseTerms, moment_limit, is_unexpired}
use Rattle.cache_core.specs.Caches.{CacheState, takes_lease, flushed, is_leased}
use Rattle.cache_core.specs.Changes.{applied, applied_all}
use Rattle.cache_core.specs.declared.changes.CacheOp.{CacheOp}
use Rattle.cache_core.specs.declared.changes.CacheOp.TheVariants.{Flush, Clear}
use Rattle.node_core.specs.declared.refusals.Fault.{Fault}
use Rattle.node_core.specs.declared.refusals.Fault.TheVariants as faults
use Rattle.tags_cell.specs.declared.messages.beats.Alive.{Alive}
use Rattle.tags_cell.specs.declared.messages.beats.Invalidation.{Invalidation}
use Rattle.tags_cell.specs.declared.messages.outs.CallResult.{CallResult}
use Rattle.tags_cell.specs.declared.messages.outs.Reply.{Reply}
use Rattle.tags_cell.specs.declared.messages.outs.CallResult.TheVariants as results
use Rattle.client_core.specs.declared.parts.asks.Ask.{Ask}
use Rattle.client_core.specs.declared.parts.targets.Target.{Target}
use Rattle.client_core.specs.Invalidations.{all_flushed}
use Rattle.client_core.specs.Leased.{under, shut, shut_if}
use Rattle.client_core.specs.Moments.{moment}
use Rattle.client_core.specs.PartOps.{losses, with_flushes, lease_ops}
use Rattle.client_core.specs.State.{ClientState, note_in, note, standing_then, session_then, session_in, session_behind}
use Rattle.client_core.specs.Asks.{ask_step, ask_at, asks_to_leave, fault_then, fault_for, may_leave, leaves, plan_of}
use Rattle.client_core.specs.Beats.{beat_step}
use Rattle.client_core.specs.Gives.{offered, takes_offer, with_processed, with_lease, ended_plainly, is_live, leave_step, finish_step}
use Rattle.client_core.specs.Ops.{LeadTo}
use Rattle.client_core.specs.Cases.{noted_moment, is_free, IsSafe, AskCase, asked_in, BeatCase, beaten_in, IsSendable}
use Rattle.client_core.specs.Cases.AskCase.{AskedTooLate, Unsafe, Refused, ReadServed, AbsenceServed, Shared, OutOfHandles, Released, OutOfCalls, Sent, Poisoned}
use Rattle.client_core.specs.Cases.BeatCase.{BeatTooLate, OutOfBeats, Starts, Beats, Quiet}
use Rattle.client_core.proofs.Noting.{relied_note, note_leaving}
use Rattle.client_core.proofs.AskCases.{ask_case, beat_case}
use Rattle.client_core.proofs.Leases.{note_keeps}
use Rattle.client_core.specs.Targets.{is_leaving}
use Rattle.client_core.specs.Sessions.{session_fault}
use Rattle.client_core.specs.declared.plans.AskPlan.{AskPlan}
use Rattle.client_core.specs.declared.plans.AskPlan.TheVariants as plans
use Rattle.client_core.specs.declared.parts.targets.Target.TheVariants as targets
use Rattle.client_core.specs.declared.parts.asks.Ask.TheVariants as asks
use Rattle.client_core.specs.declared.parts.sessions.ClientStanding.{ClientStanding}
use Rattle.client_core.specs.declared.parts.sessions.ClientStanding.TheVariants as sessions
use Rattle.tags_cell.specs.declared.messages.calls.Call.TheVariants as calls
use Rattle.cache_core.specs.Standings.{standing_at}
use Rattle.cache_core.specs.declared.standings.SessionTrust.TheVariants as standings

-- ---- lists of changes

-- one more change, done after the others
pub and_then : (cache : CacheState) (ops : List CacheOp) (more : List CacheOp) (behind : CacheState) → applied_all cache ops ≡ behind → applied_all cache (ops ++ more) ≡ applied_all behind more
and_then cache ops more behind h = fold-append applied cache ops more ∙ ap (λ c. applied_all c more) h

-- what is emptied and disabled
pub loses : (cache : CacheState) (ops : List CacheOp) (behind : CacheState) → applied_all cache ops ≡ behind → applied_all cache (ops ++ losses) ≡ record behind { entries = []; enabled = false }
loses cache ops behind h = and_then cache ops losses behind h

pub clears : (cache : CacheState) (ops : List CacheOp) (behind : CacheState) → applied_all cache ops ≡ behind → applied_all cache (ops ++ Clear ∷ []) ≡ record behind { entries = [] }
clears cache ops behind h = and_then cache ops (Clear ∷ []) behind h

flushes_if : (b : Bool) (cache : CacheState) (ops : List CacheOp) (behind : CacheState) (name : List ℕ) → applied_all cache ops ≡ behind → applied_all cache (cond b (ops ++ Flush name ∷ []) ops) ≡ record behind { entries = cond b (flushed behind.entries name) behind.entries }
flushes_if true cache ops behind name h = and_then cache ops (Flush name ∷ []) behind h
flushes_if false cache ops behind name h = h

-- what invalidations take away
pub flushes : (processed : ℕ) (cache : CacheState) (ops : List CacheOp) (behind : CacheState) (all : List Invalidation) → applied_all cache ops ≡ behind → applied_all cache (with_flushes processed ops all) ≡ record behind { entries = all_flushed processed behind.entries all }
flushes processed cache ops behind [] h = h
flushes processed cache ops behind (next ∷ others) h =
    let b = nat_lt processed next.number in
    flushes processed cache (cond b (ops ++ Flush next.name ∷ []) ops) (record behind { entries = cond b (flushed behind.entries next.name) behind.entries }) others (flushes_if b cache ops behind next.name h)

leases_by : (b : Bool) (behind : CacheState) (lease : LeaseTerms) (moment : ℕ) → is_unexpired lease.sent lease.span moment ≡ b → applied_all behind (lease_ops lease moment) ≡ under behind lease moment
leases_by true behind lease moment h = rw h refl
leases_by false behind lease moment h = rw h refl

-- what a lease makes of a cache
pub leases : (cache : CacheState) (ops : List CacheOp) (behind : CacheState) (lease : LeaseTerms) (moment : ℕ) → applied_all cache ops ≡ behind → applied_all cache (ops ++ lease_ops lease moment) ≡ under behind lease moment
leases cache ops behind lease moment h = and_then cache ops (lease_ops lease moment) behind h ∙ leases_by (is_unexpired lease.sent lease.span moment) behind lease moment refl

-- ---- an Alive

-- a client that differs from another one in neither its Beats nor its lease takes the same offers
offer_same : (s n : ClientState) (message : Alive) → n.beats ≡ s.beats → n.sent ≡ s.sent → n.cache.lease ≡ s.cache.lease → takes_offer (with_processed n message) message ≡ takes_offer s message
offer_same s n message beats sent lease =
    ap (λ x. message.number == x && takes_lease n.cache.lease (offered n message.span)) beats
    ∙ (ap (λ x. message.number == s.beats && takes_lease x (offered n message.span)) lease ∙ ap (λ x. message.number == s.beats && takes_lease s.cache.lease (record { sent = x; span = message.span })) sent)

processed_cache : (s n : ClientState) (message : Alive) (ops : List CacheOp) → applied_all s.cache ops ≡ n.cache → n.processed ≡ s.processed → applied_all s.cache (with_flushes s.processed ops message.invalidations) ≡ (with_processed n message).cache
processed_cache s n message ops h processed = flushes s.processed s.cache ops n.cache message.invalidations h ∙ ap (λ x. record n.cache { entries = all_flushed x n.cache.entries message.invalidations }) (sym processed)

taken_cache : (p : ClientState) (moment : ℕ) (message : Alive) (b : Bool) → b ≡ true → takes_offer p message ≡ b → shut_if p.leaving (under p.cache (offered p message.span) moment) ≡ (with_lease p moment message).cache
taken_cache p moment message true h is = rw is refl
taken_cache p moment message false h is = cc

left_cache : (p : ClientState) (moment : ℕ) (message : Alive) (b : Bool) → b ≡ false → takes_offer p message ≡ b → p.cache ≡ (with_lease p moment message).cache
left_cache p moment message true h is = cc
left_cache p moment message false h is = rw is refl

-- the offer isn't taken
pub stays_under : (s : ClientState) (moment : ℕ) (message : Alive) (ops : List CacheOp) → applied_all s.cache ops ≡ (note s moment).cache → takes_offer s message ≡ false → applied_all s.cache (with_flushes s.processed ops message.invalidations) ≡ (with_lease (with_processed (note s moment) message) moment message).cache
stays_under s moment message ops h worse =
    let k = note_keeps s moment in
    let n = note s moment in
    let p = with_processed n message in
    let same = offer_same s n message k.of_beats.beats k.of_beats.sent k.of_session.lease ∙ worse in
    processed_cache s n message ops h k.of_session.processed ∙ left_cache p moment message (takes_offer p message) same refl

-- what empties a cache and turns it off
pub shuts : (cache : CacheState) (ops : List CacheOp) (behind : CacheState) → applied_all cache ops ≡ behind → applied_all cache (ops ++ losses) ≡ shut behind
shuts cache ops behind h = loses cache ops behind h

-- the changes after which a client that ends its session has nothing
abbrev pub shut_ops : Bool → List CacheOp → List CacheOp
shut_ops leaving ops = cond leaving (ops ++ losses) ops

shuts_if : (b : Bool) (cache : CacheState) (ops : List CacheOp) (behind : CacheState) → applied_all cache ops ≡ behind → applied_all cache (shut_ops b ops) ≡ shut_if b behind
shuts_if true cache ops behind h = shuts cache ops behind h
shuts_if false cache ops behind h = h

-- it is
pub goes_under : (s : ClientState) (moment : ℕ) (message : Alive) (ops : List CacheOp) → applied_all s.cache ops ≡ (note s moment).cache → takes_offer s message ≡ true → applied_all s.cache (shut_ops s.leaving (with_flushes s.processed ops message.invalidations ++ lease_ops (offered s message.span) moment)) ≡ (with_lease (with_processed (note s moment) message) moment message).cache
goes_under s moment message ops h better =
    let k = note_keeps s moment in
    let n = note s moment in
    let p = with_processed n message in
    let same = offer_same s n message k.of_beats.beats k.of_beats.sent k.of_session.lease ∙ better in
    let given = with_flushes s.processed ops message.invalidations ++ lease_ops (offered s message.span) moment in
    shuts_if s.leaving s.cache given (under p.cache (offered s message.span) moment)
    (leases s.cache (with_flushes s.processed ops message.invalidations) p.cache (offered s message.span) moment (processed_cache s n message ops h k.of_session.processed))
    ∙ (ap (λ x. shut_if s.leaving (under p.cache (record { sent = x; span = message.span }) moment)) (sym k.of_beats.sent)
    ∙ (ap (λ b. shut_if b (under p.cache (offered p message.span) moment)) (sym (note_leaving s s.session moment)) ∙ taken_cache p moment message (takes_offer p message) same refl))

-- by a client that ends its session, and by one that doesn't
pub goes_shut : (s : ClientState) (moment : ℕ) (message : Alive) (ops : List CacheOp) → applied_all s.cache ops ≡ (note s moment).cache → takes_offer s message ≡ true → s.leaving ≡ true → applied_all s.cache ((with_flushes s.processed ops message.invalidations ++ lease_ops (offered s message.span) moment) ++ losses) ≡ (with_lease (with_processed (note s moment) message) moment message).cache
goes_shut s moment message ops h better leaves =
    ap (λ b. applied_all s.cache (shut_ops b (with_flushes s.processed ops message.invalidations ++ lease_ops (offered s message.span) moment))) (sym leaves)
    ∙ goes_under s moment message ops h better

pub goes_on : (s : ClientState) (moment : ℕ) (message : Alive) (ops : List CacheOp) → applied_all s.cache ops ≡ (note s moment).cache → takes_offer s message ≡ true → s.leaving ≡ false → applied_all s.cache (with_flushes s.processed ops message.invalidations ++ lease_ops (offered s message.span) moment) ≡ (with_lease (with_processed (note s moment) message) moment message).cache
goes_on s moment message ops h better stays =
    ap (λ b. applied_all s.cache (shut_ops b (with_flushes s.processed ops message.invalidations ++ lease_ops (offered s message.span) moment))) (sym stays)
    ∙ goes_under s moment message ops h better

-- ---- a Reply

-- its end leaves the cache
pub plainly : (n : ClientState) (target : Target) (result : CallResult) → (ended_plainly n target result).cache ≡ n.cache
plainly n target (results.Opened handle) = refl
plainly n target results.Closed = refl
plainly n target (results.Viewed view) = refl
plainly n target (results.Stated stat) = refl
plainly n target (results.Listed view) = refl
plainly n target (results.Sequencer bytes) = refl
plainly n target results.Done = refl
plainly n target (results.Refused fault) = refl

-- the session is over that the client has ended
pub left : (s : ClientState) (moment : ℕ) (message : Reply) (result : CallResult) → result ≡ results.Done → (ops more : List CacheOp) → applied_all s.cache ops ≡ (note s moment).cache → more ≡ ops ++ losses → LeadTo s.cache more (leave_step s moment message result)
left s moment message results.Done is ops more h j = ap (applied_all s.cache) j ∙ shuts s.cache ops (note s moment).cache h
left s moment message (results.Opened handle) is ops more h j = cc
left s moment message results.Closed is ops more h j = cc
left s moment message (results.Viewed view) is ops more h j = cc
left s moment message (results.Stated stat) is ops more h j = cc
left s moment message (results.Listed view) is ops more h j = cc
left s moment message (results.Sequencer bytes) is ops more h j = cc
left s moment message (results.Refused fault) is ops more h j = cc

-- its end was refused
pub left_refused : (s : ClientState) (moment : ℕ) (message : Reply) (result : CallResult) → result ≢ results.Done → leave_step s moment message result ≡ finish_step s moment message targets.Leaving
left_refused s moment message results.Done other = absurd (other refl)
left_refused s moment message (results.Opened handle) other = refl
left_refused s moment message results.Closed other = refl
left_refused s moment message (results.Viewed view) other = refl
left_refused s moment message (results.Stated stat) other = refl
left_refused s moment message (results.Listed view) other = refl
left_refused s moment message (results.Sequencer bytes) other = refl
left_refused s moment message (results.Refused fault) other = refl

-- a step that may be refused
pub leads_if : {X : Type 0} (b : Bool) (cache : CacheState) (ops : List CacheOp) (new old : ClientState) (answer : X) (fault : Fault) → applied_all cache ops ≡ new.cache → LeadTo cache ops (cond b (new, Ok answer) (old, Err fault))
leads_if true cache ops new old answer fault h = h
leads_if false cache ops new old answer fault h = tt

-- what follows of each success follows of this one
pub if_ok : {A E : Type 0} (r : Result A E) (P Q : A → Type 0) → ((x : A) → P x → Q x) → IfOk r P → IfOk r Q
if_ok (Ok x) P Q f h = f x h
if_ok (Err e) P Q f h = tt

-- ---- ask and beat

safe_cache : (s : ClientState) (now : ℕ) → IsSafe s now → (note s (noted_moment s now)).cache ≡ s.cache
safe_cache s now safe = ap (λ (n : ClientState). n.cache) (relied_note s (noted_moment s now) (record { live = safe.live; safe = safe.safe; leased = safe.leased }))

-- the changes of the noting of the time, where that is noted
abbrev pub IsNoting : ClientState → ℕ → List CacheOp → Type 0
IsNoting s now ops = now < moment_limit → applied_all s.cache ops ≡ (note s (noted_moment s now)).cache

safely_leads : (s : ClientState) (now : ℕ) (ops : List CacheOp) → IsNoting s now ops → IsSafe s now → applied_all s.cache ops ≡ s.cache
safely_leads s now ops h safe = h safe.early ∙ safe_cache s now safe

-- what a client that is asked does to its cache: it notes the time, or it ends its session
abbrev pub AsksSo : ClientState → ℕ → Ask → List CacheOp → Type 0
AsksSo s now ask ops =
    ((leaves s (noted_moment s now) ask ≡ true) × (applied_all s.cache ops ≡ shut s.cache)) ⊎ ((leaves s (noted_moment s now) ask ≡ false) × IsNoting s now ops)

-- it notes the time, wherever this test fails
noted_so : (s : ClientState) (now : ℕ) (ask : Ask) (ops : List CacheOp) → (leaves s (noted_moment s now) ask ≡ true → ⊥) → AsksSo s now ask ops → IsNoting s now ops
noted_so s now ask ops none (inl h) = absurd (none h.0)
noted_so s now ask ops none (inr h) = h.1

some_fault : (a b : Bool) (o : Option Fault) (fault : Fault) → o ≡ Some fault → ((a && is_none o) && b) ≡ true → ⊥
some_fault true b o fault is h = let x : is_none o ≡ false = ap is_none is in cc
some_fault false b o fault is h = cc

not_first : (a b c : Bool) → a ≡ false → ((a && b) && c) ≡ true → ⊥
not_first true b c is h = cc
not_first false b c is h = cc

shut_so : (b : Bool) (cache : CacheState) → b ≡ true → shut cache ≡ shut_if b cache
shut_so true cache h = refl
shut_so false cache h = cc

same_so : (b : Bool) (cache : CacheState) → b ≡ false → cache ≡ shut_if b cache
same_so true cache h = cc
same_so false cache h = refl

kept_on : (b : Bool) (session : ClientStanding) (o : Option Fault) → session ≡ sessions.Live → o ≡ None → is_none (cond (b && not (true && is_live session)) (Some faults.NoSession) o) ≡ true
kept_on true session o live none = rw (live, none) refl
kept_on false session o live none = rw none refl

-- who may rely on its session may end it
leave_faultless : (s : ClientState) (now : ℕ) → IsSafe s now → is_none (fault_for s (noted_moment s now) asks.Leave) ≡ true
leave_faultless s now safe =
    let m = noted_moment s now in
    let stands : standing_then s m ≡ standings.Safe = ap (λ x. standing_at x (is_leased s.cache.lease m) m) safe.safe ∙ ap (λ b. standing_at standings.Safe b m) safe.leased in
    let lives : session_then s m ≡ sessions.Live = ap (λ x. session_in x s m) safe.live ∙ ap session_behind stands in
    let none : fault_then s m ≡ None = ap (λ x. session_fault x (standing_then s m)) safe.live ∙ ap (session_fault sessions.Live) stands in
    kept_on s.leaving (session_then s m) (fault_then s m) lives none

-- where the end of its session isn't sent by a client that may rely on it, and no call is in its way, something else is asked for
asks_none : (s : ClientState) (now : ℕ) (ask : Ask) → IsSafe s now → is_free s ask ≡ true → leaves s (noted_moment s now) ask ≡ false → asks_to_leave ask ≡ false
asks_none s now (asks.Open opening) safe free h = refl
asks_none s now (asks.Close number) safe free h = refl
asks_none s now (asks.Poison number) safe free h = refl
asks_none s now (asks.Node number call) safe free h = refl
asks_none s now (asks.SetSequencer number sequencer) safe free h = refl
asks_none s now (asks.CheckSequencer bytes) safe free h = refl
asks_none s now asks.Leave safe free h =
    let goes : is_none (fault_for s (noted_moment s now) asks.Leave) ≡ true = leave_faultless s now safe in
    let may : may_leave s ≡ true = free in
    let x : (is_none (fault_for s (noted_moment s now) asks.Leave) && may_leave s) ≡ true = rw (goes, may) refl in
    cc

asks_it : (s : ClientState) (moment : ℕ) (ask : Ask) → leaves s moment ask ≡ true → asks_to_leave ask ≡ true
asks_it s moment (asks.Open opening) h = cc
asks_it s moment (asks.Close number) h = cc
asks_it s moment (asks.Poison number) h = cc
asks_it s moment (asks.Node number call) h = cc
asks_it s moment (asks.SetSequencer number sequencer) h = cc
asks_it s moment (asks.CheckSequencer bytes) h = cc
asks_it s moment asks.Leave h = refl

sends_it : (b may : Bool) (plan : AskPlan) (fault : Fault) → (b && may) ≡ true → cond may (Ok plan) (Err faults.CallOutstanding) ≡ Err fault → ⊥
sends_it true true plan fault h is = cc
sends_it true false plan fault h is = cc
sends_it false may plan fault h is = cc

-- and what is sent isn't refused
never_refused : (s : ClientState) (moment : ℕ) (ask : Ask) (fault : Fault) → leaves s moment ask ≡ true → plan_of s moment ask ≡ Err fault → ⊥
never_refused s moment (asks.Open opening) fault h is = cc
never_refused s moment (asks.Close number) fault h is = cc
never_refused s moment (asks.Poison number) fault h is = cc
never_refused s moment (asks.Node number call) fault h is = cc
never_refused s moment (asks.SetSequencer number sequencer) fault h is = cc
never_refused s moment (asks.CheckSequencer bytes) fault h is = cc
never_refused s moment asks.Leave fault h is = sends_it (is_none (fault_for s moment asks.Leave)) (may_leave s) (plans.Send calls.Leave None targets.Leaving) fault h is

module _ (s : ClientState) (now : ℕ) (ask : Ask) (ops : List CacheOp) (so : AsksSo s now ask ops) where
  -- something else is asked for, by who may rely on its session
  other_leads : IsSafe s now → asks_to_leave ask ≡ false → applied_all s.cache ops ≡ s.cache
  other_leads safe is =
      safely_leads s now ops (noted_so s now ask ops (not_first (asks_to_leave ask) (is_none (fault_for s (noted_moment s now) ask)) (may_leave s) is) so) safe

  asked_leads : (c : AskCase s now ask) → LeadTo s.cache ops (asked_in s now ask c)
  asked_leads (AskedTooLate late) = tt
  asked_leads (Unsafe fault early is) = noted_so s now ask ops (some_fault (asks_to_leave ask) (may_leave s) (fault_for s (noted_moment s now) ask) fault is) so early
  asked_leads (Refused fault safe is) = safely_leads s now ops (noted_so s now ask ops (λ h. never_refused s (noted_moment s now) ask fault h is) so) safe
  asked_leads (ReadServed number handle call entry given safe is readable) = other_leads safe (ap asks_to_leave is)
  asked_leads (AbsenceServed opening safe stays is plain cached) = other_leads safe (ap asks_to_leave is)
  asked_leads (Shared opening view handle safe is shared room) = other_leads safe (ap asks_to_leave is)
  asked_leads (OutOfHandles opening view handle safe is shared last) = tt
  asked_leads (Released number handle safe is found shared) = other_leads safe (ap asks_to_leave is)
  asked_leads (OutOfCalls call sequencer target sendable last) = tt
  asked_leads (Sent call sequencer target sendable room) = elim so [
    | inl h ↦ h.1 ∙ shut_so (is_leaving target) s.cache (sendable.leaves ∙ asks_it s (noted_moment s now) ask h.0)
    | inr h ↦ safely_leads s now ops h.1 sendable.safe ∙ same_so (is_leaving target) s.cache (sendable.leaves ∙ asks_none s now ask sendable.safe sendable.free h.0)
  ]
  asked_leads (Poisoned number handle safe is usable) = other_leads safe (ap asks_to_leave is)

moment_in : (b : Bool) (m n : ℕ) (fault : Fault) → b ≡ true → Ok m ≡ cond b (Ok n) (Err fault) → m ≡ n
moment_in true m n fault h e = cc
moment_in false m n fault h e = cc

no_moment_in : (b : Bool) (n : ℕ) (fault other : Fault) → b ≡ true → Err other ≡ cond {A = Result ℕ Fault} b (Ok n) (Err fault) → ⊥
no_moment_in true n fault other h e = cc
no_moment_in false n fault other h e = cc

in_time : (now : ℕ) → now < moment_limit → nat_lt now moment_limit ≡ true
in_time now early = grind (arith, nat_tests)

-- the moment that is noted is the one of the cases
pub noting : (s : ClientState) (now m : ℕ) (ops : List CacheOp) → Ok m ≡ moment s.clock now → applied_all s.cache ops ≡ (note s m).cache → IsNoting s now ops
noting s now m ops is h early = h ∙ ap (λ x. (note s x).cache) (moment_in (nat_lt now moment_limit) m (noted_moment s now) faults.Exhausted (in_time now early) is)

-- none is noted
pub no_noting : (s : ClientState) (now : ℕ) (fault : Fault) (ops : List CacheOp) → Err fault ≡ moment s.clock now → IsNoting s now ops
no_noting s now fault ops is early = absurd (no_moment_in (nat_lt now moment_limit) (noted_moment s now) faults.Exhausted fault (in_time now early) is)

pub ask_leads : (s : ClientState) (now : ℕ) (ask : Ask) (ops : List CacheOp) → AsksSo s now ask ops → LeadTo s.cache ops (ask_step s now ask)
ask_leads s now ask ops h = let c = ask_case s now ask in subst (LeadTo s.cache ops) (sym c.1) (asked_leads s now ask ops h c.0)

ok_moment : (b : Bool) (m n : ℕ) (fault : Fault) → Ok m ≡ cond b (Ok n) (Err fault) → m ≡ n
ok_moment true m n fault e = cc
ok_moment false m n fault e = cc

-- what is asked for at a moment that is noted
abbrev pub AsksAt : ClientState → ℕ → Ask → List CacheOp → Type 0
AsksAt s m ask ops = ((leaves s m ask ≡ true) × (applied_all s.cache ops ≡ shut s.cache)) ⊎ ((leaves s m ask ≡ false) × (applied_all s.cache ops ≡ (note s m).cache))

asks_so : (s : ClientState) (now : ℕ) (ask : Ask) (ops : List CacheOp) → AsksAt s (noted_moment s now) ask ops → AsksSo s now ask ops
asks_so s now ask ops (inl h) = inl h
asks_so s now ask ops (inr h) = inr (h.0, λ early. h.1)

pub asked_at : (s : ClientState) (now m : ℕ) (ask : Ask) (ops : List CacheOp) → Ok m ≡ moment s.clock now → AsksAt s m ask ops → LeadTo s.cache ops (ask_step s now ask)
asked_at s now m ask ops is h =
    let P : ℕ → Type 0 = λ n. AsksAt s n ask ops in
    ask_leads s now ask ops (asks_so s now ask ops (subst P (ok_moment (nat_lt now moment_limit) m (noted_moment s now) faults.Exhausted is) h))

-- none is
pub asked_late : (s : ClientState) (now : ℕ) (ask : Ask) (ops : List CacheOp) (fault : Fault) → Err fault ≡ moment s.clock now → LeadTo s.cache ops (ask_step s now ask)
unfolding ask_step
asked_late s now ask ops fault is = let P : Result ℕ Fault → Type 0 = λ r. LeadTo s.cache ops (ask_at s ask r) in subst P is tt

beaten_leads : (s : ClientState) (now : ℕ) (ops : List CacheOp) (c : BeatCase s now) → IsNoting s now ops → LeadTo s.cache ops (beaten_in s now c)
beaten_leads s now ops (BeatTooLate late) h = tt
beaten_leads s now ops (OutOfBeats early last) h = tt
beaten_leads s now ops (Starts early unstarted room) h = h early ∙ ap (λ x. (note_in x s (noted_moment s now)).cache) unstarted
beaten_leads s now ops (Beats early live then room) h = h early ∙ ap (λ x. (note_in x s (noted_moment s now)).cache) live
beaten_leads s now ops (Quiet early started live) h = h early

pub beat_leads : (s : ClientState) (now : ℕ) (ops : List CacheOp) → IsNoting s now ops → LeadTo s.cache ops (beat_step s now)
beat_leads s now ops h = let c = beat_case s now in subst (LeadTo s.cache ops) (sym c.1) (beaten_leads s now ops c.0 h)
