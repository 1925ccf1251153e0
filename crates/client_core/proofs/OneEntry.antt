-- What the steps make of a client's cache, for one name: its entry stays or goes, and is installed by a reply alone. Each by the cases of the step.
use Rattle.std.proofs.Common.{◌≡◌, ◌≢◌, ◌⊎◌, inl, inr, ℕ, ◌<◌, Bool, true, false, cond, List, [], ◌∷◌, ◌++◌, Option, Some, None, refl, sym, ap, ◌∙◌, subst, arith}
use Rattle.std.specs.Prelude.{nat_lt}
use Rattle.std.specs.Cmp.Lexicographic.{bytes_decides, nat_list_eq_equiv}
use Rattle.std.proofs.lemmas.Bool.Decides.{nat_tests}
use Rattle.lease_core.specs.Lease.{LeaseTerms, is_unexpired}
use Rattle.cache_core.specs.Caches.{Entries, CacheState, AreCacheEntries, same_name, entry_of, is_leased, installed, flushed, noted as noted_cache}
use Rattle.cache_core.proofs.OneName.{flushed_entry_goes, flush_keeps_others, installed_entry_stands, other_entry_stays_or_goes, limit_is_kept}
use Rattle.node_core.specs.declared.views.View.{View}
use Rattle.tags_cell.specs.declared.messages.beats.Invalidation.{Invalidation}
use Rattle.tags_cell.specs.declared.messages.outs.Out.{Out}
use Rattle.tags_cell.specs.declared.messages.outs.Out.TheVariants as outs
use Rattle.tags_cell.specs.declared.messages.outs.Reply.{Reply}
use Rattle.client_core.specs.declared.parts.asks.Ask.{Ask}
use Rattle.client_core.specs.declared.parts.sessions.ClientStanding.{ClientStanding}
use Rattle.client_core.specs.declared.parts.sessions.ClientStanding.TheVariants as sessions
use Rattle.client_core.specs.declared.parts.targets.Outstanding.{Outstanding}
use Rattle.client_core.specs.State.{ClientState, note_in, note, note_live}
use Rattle.client_core.specs.Asks.{ask_step}
use Rattle.client_core.specs.Beats.{beat_step}
use Rattle.client_core.specs.Leased.{under, shut_if}
use Rattle.client_core.specs.Gives.{offered, give_step}
use Rattle.client_core.specs.Invalidations.{all_flushed}
use Rattle.client_core.specs.Cases.{noted_moment, IsAwaited, IsLearned, AskCase, asked_in, BeatCase, beaten_in, GiveCase, given_in}
use Rattle.client_core.specs.Cases.AskCase.{AskedTooLate, Unsafe, Refused, ReadServed, AbsenceServed, Shared, OutOfHandles, Released, OutOfCalls, Sent, Poisoned}
use Rattle.client_core.specs.Cases.BeatCase.{BeatTooLate, OutOfBeats, Starts, Beats, Quiet}
use Rattle.client_core.specs.Cases.GiveCase.{GivenTooLate, OfAnother, Started, StartedUnfit, StartedDropped, LeaseTaken, LeaseStays, AliveUnfit, AliveDropped, OutOfNumbers, Replied, Installed, Departed, ReplyDropped, NotAwaited, Learns, Lost, TurnedAway, RefusalDropped}
use Rattle.client_core.proofs.AskCases.{ask_case, beat_case}
use Rattle.client_core.proofs.GiveCases.{give_case}
use Rattle.client_core.proofs.Leases.{ended_same}
use Rattle.client_core.specs.Targets.{is_leaving}

same_by : (x y : List ℕ) → same_name x y ≡ true → x ≡ y
same_by x y h = (bytes_decides x y).0 h

apart_by : (x y : List ℕ) → same_name x y ≡ false → x ≢ y
apart_by x y h e = let t : same_name x y ≡ true = subst (λ z. same_name x z ≡ true) e (nat_list_eq_equiv.refl x) in let two : true ≡ false = sym t ∙ h in cc

-- ---- entries

-- the entry of a name stays, or goes
abbrev pub StaysOrGoes : Entries → Entries → List ℕ → Type 0
StaysOrGoes old new name = (entry_of new name ≡ entry_of old name) ⊎ (entry_of new name ≡ None)

pub stays_or_goes_then : (a b c : Entries) (name : List ℕ) → StaysOrGoes a b name → StaysOrGoes b c name → StaysOrGoes a c name
stays_or_goes_then a b c name h (inr gone) = inr gone
stays_or_goes_then a b c name (inl same) (inl later) = inl (later ∙ same)
stays_or_goes_then a b c name (inr gone) (inl later) = inr (later ∙ gone)

flush_by : (entries : Entries) (of name : List ℕ) (b : Bool) → AreCacheEntries entries → same_name name of ≡ b → StaysOrGoes entries (flushed entries of) name
flush_by entries of name true h e = inr (subst (λ x. entry_of (flushed entries of) x ≡ None) (sym (same_by name of e)) (flushed_entry_goes entries of h))
flush_by entries of name false h e = inl (flush_keeps_others entries of name h (apart_by name of e))

flush_if : (b : Bool) (entries : Entries) (of name : List ℕ) → AreCacheEntries entries → StaysOrGoes entries (cond b (flushed entries of) entries) name
flush_if true entries of name h = flush_by entries of name (same_name name of) h refl
flush_if false entries of name h = inl refl

pub fits_if : (b : Bool) (entries : Entries) (of : List ℕ) → AreCacheEntries entries → AreCacheEntries (cond b (flushed entries of) entries)
fits_if true entries of h = (limit_is_kept entries of None h).2
fits_if false entries of h = h

-- what invalidations leave is a cache
pub all_fit : (processed : ℕ) (entries : Entries) (all : List Invalidation) → AreCacheEntries entries → AreCacheEntries (all_flushed processed entries all)
all_fit processed entries [] h = h
all_fit processed entries (next ∷ others) h = all_fit processed (cond (nat_lt processed next.number) (flushed entries next.name) entries) others (fits_if (nat_lt processed next.number) entries next.name h)

pub all_stay_or_go : (processed : ℕ) (entries : Entries) (all : List Invalidation) (name : List ℕ) → AreCacheEntries entries → StaysOrGoes entries (all_flushed processed entries all) name
all_stay_or_go processed entries [] name h = inl refl
all_stay_or_go processed entries (next ∷ others) name h =
    let b = nat_lt processed next.number in
    stays_or_goes_then entries (cond (nat_lt processed next.number) (flushed entries next.name) entries) (all_flushed processed (cond (nat_lt processed next.number) (flushed entries next.name) entries) others) name
    (flush_if b entries next.name name h) (all_stay_or_go processed (cond (nat_lt processed next.number) (flushed entries next.name) entries) others name (fits_if b entries next.name h))

pub none_stays : (old new : Entries) (name : List ℕ) → StaysOrGoes old new name → entry_of old name ≡ None → entry_of new name ≡ None
none_stays old new name (inl same) h = same ∙ h
none_stays old new name (inr gone) h = gone

flush_above : (b : Bool) (entries : Entries) (of name : List ℕ) → AreCacheEntries entries → b ≡ true → of ≡ name → entry_of (cond b (flushed entries of) entries) name ≡ None
flush_above true entries of name h above is = subst (λ x. entry_of (flushed entries of) x ≡ None) is (flushed_entry_goes entries of h)
flush_above false entries of name h above is = cc

above_by : (n m : ℕ) → n < m → nat_lt n m ≡ true
above_by n m h = grind (arith, nat_tests)

-- what is invalidated by a number above what was processed is gone
pub invalidated_goes : (processed : ℕ) (entries : Entries) (before : List Invalidation) (next : Invalidation) (after : List Invalidation) (name : List ℕ) → AreCacheEntries entries → processed < next.number → next.name ≡ name → entry_of (all_flushed processed entries (before ++ next ∷ after)) name ≡ None
invalidated_goes processed entries [] next after name h above is =
    let rest = cond (nat_lt processed next.number) (flushed entries next.name) entries in
    none_stays rest (all_flushed processed rest after) name
    (all_stay_or_go processed rest after name (fits_if (nat_lt processed next.number) entries next.name h))
    (flush_above (nat_lt processed next.number) entries next.name name h (above_by processed next.number above) is)
invalidated_goes processed entries (first ∷ before) next after name h above is =
    invalidated_goes processed (cond (nat_lt processed first.number) (flushed entries first.name) entries) before next after name (fits_if (nat_lt processed first.number) entries first.name h) above is

-- ---- a cache

-- the entry stays or goes, and the cache stays one
pub record CacheStays (old new : Entries) (name : List ℕ) : Type 0 where
  pub entry : StaysOrGoes old new name
  pub fits : AreCacheEntries new

same_cache : (old new : Entries) (name : List ℕ) → AreCacheEntries old → new ≡ old → CacheStays old new name
same_cache old new name h e = record { entry = inl (ap (λ x. entry_of x name) e); fits = subst AreCacheEntries (sym e) h }

no_cache : (old new : Entries) (name : List ℕ) → AreCacheEntries old → new ≡ [] → CacheStays old new name
no_cache old new name h e = record { entry = inr (ap (λ x. entry_of x name) e); fits = subst AreCacheEntries (sym e) (limit_is_kept old name None h).0 }

then_cache : (a b c : Entries) (name : List ℕ) → CacheStays a b name → (AreCacheEntries b → CacheStays b c name) → CacheStays a c name
then_cache a b c name h k = let l = k h.fits in record { entry = stays_or_goes_then a b c name h.entry l.entry; fits = l.fits }

noted_by : (cache : CacheState) (b : Bool) (name : List ℕ) → AreCacheEntries cache.entries → CacheStays cache.entries (cond b cache (record cache { entries = []; enabled = false })).entries name
noted_by cache true name h = same_cache cache.entries cache.entries name h refl
noted_by cache false name h = no_cache cache.entries [] name h refl

pub shut_stays : (b : Bool) (cache : CacheState) (name : List ℕ) → AreCacheEntries cache.entries → CacheStays cache.entries (shut_if b cache).entries name
shut_stays true cache name h = no_cache cache.entries [] name h refl
shut_stays false cache name h = same_cache cache.entries cache.entries name h refl

pub noted_stays : (cache : CacheState) (moment : ℕ) (name : List ℕ) → AreCacheEntries cache.entries → CacheStays cache.entries (noted_cache cache moment).entries name
noted_stays cache moment name h = noted_by cache (is_leased cache.lease moment) name h

under_by : (b : Bool) (cache : CacheState) (lease : Option LeaseTerms) (name : List ℕ) → AreCacheEntries cache.entries → CacheStays cache.entries (cond b (record cache { lease = lease; enabled = true }) (record cache { entries = []; lease = lease; enabled = false })).entries name
under_by true cache lease name h = same_cache cache.entries cache.entries name h refl
under_by false cache lease name h = no_cache cache.entries [] name h refl

pub under_stays : (cache : CacheState) (lease : LeaseTerms) (moment : ℕ) (name : List ℕ) → AreCacheEntries cache.entries → CacheStays cache.entries (under cache lease moment).entries name
under_stays cache lease moment name h = under_by (is_unexpired lease.sent lease.span moment) cache (Some lease) name h

pub flushed_stays : (processed : ℕ) (entries : Entries) (all : List Invalidation) (name : List ℕ) → AreCacheEntries entries → CacheStays entries (all_flushed processed entries all) name
flushed_stays processed entries all name h = record { entry = all_stay_or_go processed entries all name h; fits = all_fit processed entries all h }

-- ---- the noting of the time

note_in_stays : (s : ClientState) (session : ClientStanding) (moment : ℕ) (name : List ℕ) → AreCacheEntries s.cache.entries → CacheStays s.cache.entries (note_in session s moment).cache.entries name
note_in_stays s sessions.Unstarted moment name h = same_cache s.cache.entries s.cache.entries name h refl
note_in_stays s sessions.Live moment name h = noted_stays s.cache moment name h
note_in_stays s sessions.Lost moment name h = same_cache s.cache.entries s.cache.entries name h refl
note_in_stays s sessions.TurnedAway moment name h = same_cache s.cache.entries s.cache.entries name h refl

pub note_stays : (s : ClientState) (moment : ℕ) (name : List ℕ) → AreCacheEntries s.cache.entries → CacheStays s.cache.entries (note s moment).cache.entries name
note_stays s moment name h = note_in_stays s s.session moment name h

enabled_by : (cache : CacheState) (b : Bool) → (cond b cache (record cache { entries = []; enabled = false })).enabled ≡ true → b ≡ true
enabled_by cache true h = refl
enabled_by cache false h = cc

-- in a session, a cache that is enabled once the time is noted is under a lease that runs at that moment
pub note_enabled : (s : ClientState) (moment : ℕ) → s.session ≡ sessions.Live → (note s moment).cache.enabled ≡ true → is_leased s.cache.lease moment ≡ true
note_enabled s moment live h = enabled_by s.cache (is_leased s.cache.lease moment) (sym (ap (λ x. (note_in x s moment).cache.enabled) live) ∙ h)

-- ---- ask

abbrev pub Stays : ClientState → ClientState → List ℕ → Type 0
Stays s new name = CacheStays s.cache.entries new.cache.entries name

pub asked_stays : (s : ClientState) (now : ℕ) (ask : Ask) (name : List ℕ) (c : AskCase s now ask) → AreCacheEntries s.cache.entries → Stays s (asked_in s now ask c).0 name
asked_stays s now ask name (AskedTooLate late) h = same_cache s.cache.entries s.cache.entries name h refl
asked_stays s now ask name (Unsafe fault early is) h = note_stays s (noted_moment s now) name h
asked_stays s now ask name (Refused fault safe is) h = same_cache s.cache.entries s.cache.entries name h refl
asked_stays s now ask name (ReadServed number mine call entry given safe is readable) h = same_cache s.cache.entries s.cache.entries name h refl
asked_stays s now ask name (AbsenceServed opening safe stays is plain cached) h = same_cache s.cache.entries s.cache.entries name h refl
asked_stays s now ask name (Shared opening view mine safe is shared room) h = same_cache s.cache.entries s.cache.entries name h refl
asked_stays s now ask name (OutOfHandles opening view mine safe is shared last) h = same_cache s.cache.entries s.cache.entries name h refl
asked_stays s now ask name (Released number mine safe is found shared) h = same_cache s.cache.entries s.cache.entries name h refl
asked_stays s now ask name (OutOfCalls call sequencer target sendable last) h = same_cache s.cache.entries s.cache.entries name h refl
asked_stays s now ask name (Sent call sequencer target sendable room) h = shut_stays (is_leaving target) s.cache name h
asked_stays s now ask name (Poisoned number mine safe is usable) h = same_cache s.cache.entries s.cache.entries name h refl

pub ask_stays : (s : ClientState) (now : ℕ) (ask : Ask) (name : List ℕ) → AreCacheEntries s.cache.entries → Stays s (ask_step s now ask).0 name
ask_stays s now ask name h = let c = ask_case s now ask in subst (λ p. Stays s p.0 name) (sym c.1) (asked_stays s now ask name c.0 h)

-- ---- beat

pub beaten_stays : (s : ClientState) (now : ℕ) (name : List ℕ) (c : BeatCase s now) → AreCacheEntries s.cache.entries → Stays s (beaten_in s now c).0 name
beaten_stays s now name (BeatTooLate late) h = same_cache s.cache.entries s.cache.entries name h refl
beaten_stays s now name (OutOfBeats early last) h = same_cache s.cache.entries s.cache.entries name h refl
beaten_stays s now name (Starts early unstarted room) h = same_cache s.cache.entries s.cache.entries name h refl
beaten_stays s now name (Beats early live then room) h = noted_stays s.cache (noted_moment s now) name h
beaten_stays s now name (Quiet early started live) h = note_stays s (noted_moment s now) name h

pub beat_stays : (s : ClientState) (now : ℕ) (name : List ℕ) → AreCacheEntries s.cache.entries → Stays s (beat_step s now).0 name
beat_stays s now name h = let c = beat_case s now in subst (λ p. Stays s p.0 name) (sym c.1) (beaten_stays s now name c.0 h)

-- ---- give

pub data EntryDoes (s : ClientState) (now : ℕ) (out : Out) (name : List ℕ) (new : ClientState) : Type 0 where
  -- it stays, or goes
  EntryStays : Stays s new name → EntryDoes s now out name new
  -- a reply to the outstanding call tells of it, under a lease that runs, and no invalidation was processed since it was stamped
  EntryInstalled : (message : Reply) (call : Outstanding) (entry : Option View) (stamp : ℕ) → out ≡ outs.Reply message → IsAwaited s now message call → IsLearned s now message call (name, entry) stamp → entry_of new.cache.entries name ≡ Some entry → AreCacheEntries new.cache.entries → EntryDoes s now out name new

installed_by : (s : ClientState) (now : ℕ) (out : Out) (name of : List ℕ) (entry : Option View) (message : Reply) (call : Outstanding) (stamp : ℕ) (new : ClientState) (b : Bool) → AreCacheEntries s.cache.entries → out ≡ outs.Reply message → IsAwaited s now message call → IsLearned s now message call (of, entry) stamp → new.cache.entries ≡ installed s.cache.entries of entry → same_name name of ≡ b → EntryDoes s now out name new
installed_by s now out name of entry message call stamp new true h is for learned e at =
    let same : of ≡ name = sym (same_by name of at) in
    EntryInstalled message call entry stamp is for (subst (λ x. IsLearned s now message call (x, entry) stamp) same learned)
    (ap (λ x. entry_of x name) e ∙ subst (λ x. entry_of (installed s.cache.entries of entry) x ≡ Some entry) same (installed_entry_stands s.cache.entries of entry h))
    (subst AreCacheEntries (sym e) (limit_is_kept s.cache.entries of entry h).1)
installed_by s now out name of entry message call stamp new false h is for learned e at =
    EntryStays (record {
      entry = subst (λ x. StaysOrGoes s.cache.entries x name) (sym e) (other_entry_stays_or_goes s.cache.entries of name entry h (apart_by name of at));
      fits = subst AreCacheEntries (sym e) (limit_is_kept s.cache.entries of entry h).1;
    })

pub given_entry : (s : ClientState) (now : ℕ) (out : Out) (name : List ℕ) (c : GiveCase s now out) → AreCacheEntries s.cache.entries → EntryDoes s now out name (given_in s now out c).0
given_entry s now out name (GivenTooLate late) h = EntryStays (same_cache s.cache.entries s.cache.entries name h refl)
given_entry s now out name (OfAnother early other) h = EntryStays (note_stays s (noted_moment s now) name h)
given_entry s now out name (Started message heard is standing fits) h = EntryStays (under_stays s.cache (offered s message.span) (noted_moment s now) name h)
given_entry s now out name (StartedUnfit message heard is standing long) h = EntryStays (note_stays s (noted_moment s now) name h)
given_entry s now out name (StartedDropped message heard is old) h = EntryStays (note_stays s (noted_moment s now) name h)
given_entry s now out name (LeaseTaken message heard is fit taken) h =
    let all = all_flushed s.processed (noted_cache s.cache (noted_moment s now)).entries message.invalidations in
    let there = under (record (noted_cache s.cache (noted_moment s now)) { entries = all }) (offered s message.span) (noted_moment s now) in
    EntryStays (then_cache s.cache.entries there.entries _ name
    (then_cache s.cache.entries all _ name
    (then_cache s.cache.entries (noted_cache s.cache (noted_moment s now)).entries all name (noted_stays s.cache (noted_moment s now) name h) (flushed_stays s.processed (noted_cache s.cache (noted_moment s now)).entries message.invalidations name))
    (under_stays (record (noted_cache s.cache (noted_moment s now)) { entries = all }) (offered s message.span) (noted_moment s now) name))
    (shut_stays s.leaving there name))
given_entry s now out name (LeaseStays message heard is fit worse) h =
    EntryStays (then_cache s.cache.entries (noted_cache s.cache (noted_moment s now)).entries _ name (noted_stays s.cache (noted_moment s now) name h) (flushed_stays s.processed (noted_cache s.cache (noted_moment s now)).entries message.invalidations name))
given_entry s now out name (AliveUnfit message heard is alive unfit) h = EntryStays (note_stays s (noted_moment s now) name h)
given_entry s now out name (AliveDropped message heard is strange) h = EntryStays (note_stays s (noted_moment s now) name h)
given_entry s now out name (OutOfNumbers message call heard is for last) h = EntryStays (same_cache s.cache.entries s.cache.entries name h refl)
given_entry s now out name (Replied message call heard is for room kept plain) h =
    let e = ended_same (note_live s (noted_moment s now)) call.target message.result in
    EntryStays (then_cache s.cache.entries (noted_cache s.cache (noted_moment s now)).entries _ name (noted_stays s.cache (noted_moment s now) name h) (λ k. same_cache (noted_cache s.cache (noted_moment s now)).entries _ name k (ap (λ x. x.entries) e.cache)))
given_entry s now out name (Installed message call taught stamp heard is for learned) h =
    installed_by s now out name taught.0 taught.1 message call stamp _ (same_name name taught.0) h is for learned refl refl
given_entry s now out name (Departed message call heard is for leaving done) h = EntryStays (no_cache s.cache.entries [] name h refl)
given_entry s now out name (ReplyDropped message call heard is for dropped) h = EntryStays (noted_stays s.cache (noted_moment s now) name h)
given_entry s now out name (NotAwaited message heard is none) h = EntryStays (note_stays s (noted_moment s now) name h)
given_entry s now out name (Learns message present heard is later) h = EntryStays (no_cache s.cache.entries [] name h refl)
given_entry s now out name (Lost message heard is loss) h = EntryStays (no_cache s.cache.entries [] name h refl)
given_entry s now out name (TurnedAway message heard is fault unstarted) h = EntryStays (no_cache s.cache.entries [] name h refl)
given_entry s now out name (RefusalDropped message heard is earlier stays) h = EntryStays (note_stays s (noted_moment s now) name h)

pub give_entry : (s : ClientState) (now : ℕ) (out : Out) (name : List ℕ) → AreCacheEntries s.cache.entries → EntryDoes s now out name (give_step s now out).0
give_entry s now out name h = let c = give_case s now out in subst (λ p. EntryDoes s now out name p.0) (sym c.1) (given_entry s now out name c.0 h)
