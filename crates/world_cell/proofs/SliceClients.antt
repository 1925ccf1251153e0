-- To each client, and of each name, what a client's own steps are: a call that it is asked for, a Start or a Beat, and a message that it is given.
use Rattle.std.proofs.Common.{◌≡◌, ◌≢◌, ℕ, ◌+◌, ◌<◌, ◌≤◌, Bool, true, false, cond, max, List, [], ◌∷◌, Ok, Option, Some, None, inl, inr, arith, refl, sym, ap, ◌∙◌, subst}
use Rattle.std.specs.Prelude.{◌==◌, ◌||◌}
use Rattle.std.specs.Option.{option_map}
use Rattle.std.proofs.lemmas.Bool.Decides.{nat_tests}
use Rattle.lease_core.specs.Lease.{LeaseTerms, IsUnexpired, is_unexpired}
use Rattle.coherence.specs.Slice as one
use Rattle.coherence.specs.Slice.{IsIn, Slice, Event, SendBeat, StartAnew, Prolong, Process, Invalidate, LearnEpoch, Install, Forget, Reached, Leads, TurnOff}
use Rattle.coherence.proofs.Runs.{always}
use Rattle.node_core.specs.declared.lines.Line.{Line}
use Rattle.tags_cell.specs.declared.messages.requests.Request.{Request}
use Rattle.tags_cell.specs.declared.messages.outs.Out.{Out}
use Rattle.tags_cell.specs.declared.messages.outs.Out.TheVariants as outs
use Rattle.tags_cell.specs.declared.messages.beats.Alive.{Alive}
use Rattle.tags_cell.specs.declared.messages.outs.Reply.{Reply}
use Rattle.tags_cell.specs.Messages.{out_client}
use Rattle.session_core.proofs.OneClient.{lookup_set, lookup_set_apart}
use Rattle.cache_core.specs.Caches.{CacheState, entry_of, is_leased, noted as noted_cache}
use Rattle.client_core.specs.declared.parts.asks.Ask.{Ask}
use Rattle.client_core.specs.declared.parts.sessions.ClientStanding.TheVariants as sessions
use Rattle.client_core.specs.declared.parts.targets.Outstanding.{Outstanding}
use Rattle.client_core.specs.Invalidations.{last_number, all_flushed}
use Rattle.client_core.specs.State.{ClientState, lease_of, note, note_live}
use Rattle.client_core.specs.Asks.{message_of}
use Rattle.client_core.specs.Beats.{start_message, beat_message}
use Rattle.client_core.specs.Gives.{offered, ended_plainly}
use Rattle.client_core.specs.Cases.{noted_moment, IsHeard, IsFit, IsTaken, AskCase, asked_in, BeatCase, beaten_in, GiveCase, given_in, IsSendable}
use Rattle.client_core.specs.Cases.AskCase.{AskedTooLate, Unsafe, Refused, ReadServed, AbsenceServed, Shared, OutOfHandles, Released, OutOfCalls, Sent, Poisoned}
use Rattle.client_core.specs.Cases.BeatCase.{BeatTooLate, OutOfBeats, Starts, Beats, Quiet}
use Rattle.client_core.specs.Cases.GiveCase.{GivenTooLate, OfAnother, Started, StartedUnfit, StartedDropped, LeaseTaken, LeaseStays, AliveUnfit, AliveDropped, OutOfNumbers, Replied, Installed, Departed, ReplyDropped, NotAwaited, Learns, Lost, TurnedAway, RefusalDropped}
use Rattle.client_core.proofs.Leases.{asked_keeps, note_keeps, ended_same}
use Rattle.client_core.proofs.Noting.{noted_lease, note_leaving}
use Rattle.client_core.proofs.GiveCases.{taught_if}
use Rattle.client_core.proofs.OneEntry.{StaysOrGoes, EntryDoes, none_stays, asked_stays, beaten_stays, given_entry}
use Rattle.client_core.proofs.OneEntry.EntryDoes.{EntryStays, EntryInstalled}
use Rattle.client_core.specs.Lessons.{may_install, taught}
use Rattle.world_steps.specs.declared.members.WorldClient.{WorldClient}
use Rattle.world_steps.specs.Messages.{out_at}
use Rattle.world_steps.specs.World.{WorldState, member_of, with_client, sends, asked, beaten, gave}
use Rattle.world_cell.specs.Consistent.{IsMember, Holds, IsConsistent}
use Rattle.world_cell.specs.Slices.{Shown, slice, beat_of, beats_of, name_number, offers_of, grants_of, client_of, lease_shown}
use Rattle.world_cell.proofs.GrantsSent.{grants_request}
use Rattle.world_cell.proofs.SliceRights.{four_same}
use Rattle.world_cell.proofs.EntryFacts.{passed_entry, taken_entry, is_leased_so}
use Rattle.world_cell.proofs.InstalledGrants.{was_granted}
use Rattle.world_cell.proofs.HoldsOn.{the_reply}
use Rattle.world_cell.proofs.OwnSteps.{Comes, it_comes}
use Rattle.world_cell.proofs.Slices.{LeadsTo, reached_stays, unseen, by_test, is_same, is_other, same_test, three_same, beats_more, offers_stay, offer_sent, stepped_as, latest, first_of, none_more, first_in}
use Rattle.client_core.specs.Targets.{is_leaving}
use Rattle.client_core.specs.Leased.{shut_if, under}
use Rattle.client_core.specs.declared.parts.targets.Target.{Target}
use Rattle.tags_cell.specs.declared.messages.calls.Call.{Call}
use Rattle.tags_cell.specs.declared.messages.outs.CallResult.{CallResult}
use Rattle.tags_cell.specs.declared.messages.outs.CallResult.TheVariants as results

-- ---- what a step of a client leaves of what its slice shows

-- all but the entry
pub record Keeps (old new : ClientState) : Type 0 where
  pub beats : new.beats ≡ old.beats
  pub sent : new.sent ≡ old.sent
  pub epoch : new.epoch ≡ old.epoch
  pub processed : new.processed ≡ old.processed
  pub lease : new.cache.lease ≡ old.cache.lease
  pub off : new.leaving ≡ old.leaving

seven_same : {A B C D E F G X : Type 0} (f : A → B → C → D → E → F → G → X) (a g : A) (b h : B) (c i : C) (d j : D) (e k : E) (l m : F) (n o : G) → a ≡ g → b ≡ h → c ≡ i → d ≡ j → e ≡ k → l ≡ m → n ≡ o → f a b c d e l n ≡ f g h i j k m o
seven_same f a g b h c i d j e k l m n o p q r s t u v = cc

-- the lease that is shown stays with what it is shown of
same_shown : (a b : Bool) (o p : Option LeaseTerms) → a ≡ b → o ≡ p → lease_shown a o ≡ lease_shown b p
same_shown a b o p h k = ap (λ (x : Bool). lease_shown x o) h ∙ ap (lease_shown b) k

module _ (x : List ℕ) (w : WorldState) (number : ℕ) (member : WorldClient) (client : ClientState) where
  abbrev member_then : WorldClient
  member_then = record member { client = client }

  found_then : member_of w number ≡ Some member → member_of (with_client w number member client) number ≡ Some member_then
  found_then found = lookup_set number w.clients member_then ∙ ap (option_map (λ (old : WorldClient). member_then)) found

  -- by a client's member
  abbrev stepped_here : ℕ → Option WorldClient → Slice Shown
  stepped_here c o = stepped_as c x w o (beats_of c w.messages) (offers_of c x w.messages) (grants_of c x w.rows.secret w.messages)

  -- another client's slice
  pub other_client : (c : ℕ) → c ≢ number → slice c x (with_client w number member client) ≡ slice c x w
  other_client c other = ap (stepped_here c) (lookup_set_apart number c other w.clients member_then)

  -- the client's part
  abbrev half : ℕ → ℕ → ℕ → ℕ → LeaseTerms → Option Shown → Bool → one.Client Shown
  half beats sent epoch processed lease entry off = record {
    now = member.clock;
    newest = beats;
    newest_sent = sent;
    epoch = epoch;
    processed = processed;
    lease_sent = lease.sent;
    lease_span = lease.span;
    entry = entry;
    off = off;
  }

  abbrev half_then : one.Client Shown
  half_then = half client.beats client.sent client.epoch client.processed (lease_shown client.leaving client.cache.lease) (entry_of client.cache.entries x) client.leaving

  half_is : (beats sent epoch processed : ℕ) (lease : LeaseTerms) (entry : Option Shown) (off : Bool) → client.beats ≡ beats → client.sent ≡ sent → client.epoch ≡ epoch → client.processed ≡ processed → lease_shown client.leaving client.cache.lease ≡ lease → entry_of client.cache.entries x ≡ entry → client.leaving ≡ off → half_then ≡ half beats sent epoch processed lease entry off
  half_is beats sent epoch processed lease entry off beats_are sent_is epoch_is processed_is lease_is entry_is off_is =
      seven_same half client.beats beats client.sent sent client.epoch epoch client.processed processed (lease_shown client.leaving client.cache.lease) lease (entry_of client.cache.entries x) entry client.leaving off beats_are sent_is epoch_is processed_is lease_is entry_is off_is

  -- the lease that the client showed
  abbrev shown_before : LeaseTerms
  shown_before = lease_shown member.client.leaving member.client.cache.lease

  -- the slice by it
  abbrev with_half : one.Client Shown → List one.Beat → Slice Shown
  with_half part beats = record (stepped_here number (Some member)) { client = part; beats = beats }

  -- the client's own slice is led to where its part is this
  own_led : (events : List (Event Shown)) (part : one.Client Shown) → member_of w number ≡ Some member → half_then ≡ part → Leads (stepped_here number (Some member)) events (with_half part (beats_of number w.messages)) → Leads (slice number x w) events (slice number x (with_client w number member client))
  own_led events part found is led =
      subst (λ (o : Option WorldClient). Leads (stepped_here number o) events (slice number x (with_client w number member client))) (sym found)
      (subst (Leads (stepped_here number (Some member)) events) (ap (λ (k : one.Client Shown). with_half k (beats_of number w.messages)) (sym is) ∙ ap (stepped_here number) (sym (found_then found))) led)

  -- nothing but its entry may go
  own_keeps : member_of w number ≡ Some member → Keeps member.client client → StaysOrGoes member.client.cache.entries client.cache.entries x → LeadsTo number x w (with_client w number member client)
  own_keeps found keeps (inl same) = (
    [],
    own_led [] (half member.client.beats member.client.sent member.client.epoch member.client.processed shown_before (entry_of member.client.cache.entries x) member.client.leaving) found
        (half_is member.client.beats member.client.sent member.client.epoch member.client.processed shown_before (entry_of member.client.cache.entries x) member.client.leaving keeps.beats keeps.sent keeps.epoch keeps.processed (same_shown client.leaving member.client.leaving client.cache.lease member.client.cache.lease keeps.off keeps.lease) same keeps.off)
        (record { allowed = tt; leads_there = refl }),
  )
  own_keeps found keeps (inr gone) = (
    Forget ∷ [],
    own_led (Forget ∷ []) (half member.client.beats member.client.sent member.client.epoch member.client.processed shown_before None member.client.leaving) found
        (half_is member.client.beats member.client.sent member.client.epoch member.client.processed shown_before None member.client.leaving keeps.beats keeps.sent keeps.epoch keeps.processed (same_shown client.leaving member.client.leaving client.cache.lease member.client.cache.lease keeps.off keeps.lease) gone keeps.off)
        (record { allowed = record { first = tt; rest = tt }; leads_there = refl }),
  )

  -- it turns its cache off for good
  turns_off : member_of w number ≡ Some member → client.beats ≡ member.client.beats → client.sent ≡ member.client.sent → client.epoch ≡ member.client.epoch → client.processed ≡ member.client.processed → client.leaving ≡ true → entry_of client.cache.entries x ≡ None → LeadsTo number x w (with_client w number member client)
  turns_off found beats_are sent_is epoch_is processed_is off none = (
    TurnOff ∷ [],
    own_led (TurnOff ∷ []) (half member.client.beats member.client.sent member.client.epoch member.client.processed (record { sent = 0; span = 0 }) None true) found
        (half_is member.client.beats member.client.sent member.client.epoch member.client.processed (record { sent = 0; span = 0 }) None true beats_are sent_is epoch_is processed_is (ap (λ b. lease_shown b client.cache.lease) off) none off)
        (record { allowed = record { first = tt; rest = tt }; leads_there = refl }),
  )

  -- what the client alone sees
  own_or_unseen : (c : ℕ) → LeadsTo number x w (with_client w number member client) → LeadsTo c x w (with_client w number member client)
  own_or_unseen c led = by_test (c == number)
      (λ own. subst (λ (z : ℕ). LeadsTo z x w (with_client w number member client)) (sym (is_same c number own)) led)
      (λ other. unseen c x w (with_client w number member client) (sym (other_client c (is_other c number other))))

  pub client_leads : (c : ℕ) → member_of w number ≡ Some member → Keeps member.client client → StaysOrGoes member.client.cache.entries client.cache.entries x → LeadsTo c x w (with_client w number member client)
  client_leads c found keeps entry = own_or_unseen c (own_keeps found keeps entry)

-- what is sent to the master and is no Start or Beat of the client
pub sending_stays : (c : ℕ) (x : List ℕ) (w : WorldState) (request : Request) → beat_of c request (beats_of c w.messages) ≡ beats_of c w.messages → slice c x (sends w request) ≡ slice c x w
sending_stays c x w request none =
    three_same (stepped_as c x w (member_of w c)) (beats_of c (sends w request).messages) (beats_of c w.messages) (offers_of c x (sends w request).messages) (offers_of c x w.messages) (grants_of c x w.rows.secret (sends w request).messages) (grants_of c x w.rows.secret w.messages)
    (beats_more c w.messages request ∙ none) (offers_stay c x w.messages request) (grants_request c x w.rows.secret w.messages request)

-- the same, after other steps
then_sends : (c : ℕ) (x : List ℕ) (w middle : WorldState) (request : Request) → beat_of c request (beats_of c middle.messages) ≡ beats_of c middle.messages → LeadsTo c x w middle → LeadsTo c x w (sends middle request)
then_sends c x w middle request none led = (led.0, subst (Leads (slice c x w) led.0) (sym (sending_stays c x middle request none)) led.1)

or_nothing : (b : Bool) → (b || false) ≡ b
or_nothing true = refl
or_nothing false = refl

or_anything : (b : Bool) → (b || true) ≡ true
or_anything true = refl
or_anything false = refl

-- ---- a client is asked for a call

module _ (c : ℕ) (x : List ℕ) (w : WorldState) (number : ℕ) (member : WorldClient) (found : member_of w number ≡ Some member) (holds : Holds w.messages member.client) where
  asked_leads : (ask : Ask) (case : AskCase member.client member.clock ask) → (asked_in member.client member.clock ask case).0.leaving ≡ member.client.leaving → LeadsTo c x w (with_client w number member (asked_in member.client member.clock ask case).0)
  asked_leads ask case off =
      let k = asked_keeps member.client member.clock ask case in
      client_leads x w number member (asked_in member.client member.clock ask case).0 c found
      (record { beats = k.of_beats.beats; sent = k.of_beats.sent; epoch = k.of_session.epoch; processed = k.of_session.processed; lease = k.of_session.lease; off = off })
      (asked_stays member.client member.clock ask x case holds.entries).entry

  -- one that asks for the end of its session turns its cache off first
  sent_leads : (ask : Ask) (call : Call) (sequencer : Option (List ℕ)) (target : Target) (sendable : IsSendable member.client member.clock ask call sequencer target) (room : _) → (b : Bool) → is_leaving target ≡ b → LeadsTo c x w (with_client w number member (asked_in member.client member.clock ask (Sent call sequencer target sendable room)).0)
  sent_leads ask call sequencer target sendable room false is = asked_leads ask (Sent call sequencer target sendable room) (ap (λ b. member.client.leaving || b) is ∙ or_nothing member.client.leaving)
  sent_leads ask call sequencer target sendable room true is =
      let client = (asked_in member.client member.clock ask (Sent call sequencer target sendable room)).0 in
      own_or_unseen x w number member client c
      (turns_off x w number member client found refl refl refl refl (ap (λ b. member.client.leaving || b) is ∙ or_anything member.client.leaving) (ap (λ b. entry_of (shut_if b member.client.cache).entries x) is))

  ask_leads : (ask : Ask) (case : AskCase member.client member.clock ask) → Comes (λ new printed. LeadsTo c x w new) (asked w number member (asked_in member.client member.clock ask case))
  ask_leads ask (AskedTooLate late) = tt
  ask_leads ask (Unsafe fault early is) = asked_leads ask (Unsafe fault early is) (note_leaving member.client member.client.session (noted_moment member.client member.clock))
  ask_leads ask (Refused fault safe is) = asked_leads ask (Refused fault safe is) refl
  ask_leads ask (ReadServed handle mine call entry given safe is readable) = asked_leads ask (ReadServed handle mine call entry given safe is readable) refl
  ask_leads ask (AbsenceServed opening safe on is plain cached) = asked_leads ask (AbsenceServed opening safe on is plain cached) refl
  ask_leads ask (Shared opening view handle safe is shared room) = asked_leads ask (Shared opening view handle safe is shared room) refl
  ask_leads ask (OutOfHandles opening view handle safe is shared last) = tt
  ask_leads ask (Released handle mine safe is there shared) = asked_leads ask (Released handle mine safe is there shared) refl
  ask_leads ask (OutOfCalls call sequencer target sendable last) = tt
  ask_leads ask (Sent call sequencer target sendable room) =
      then_sends c x w (with_client w number member (asked_in member.client member.clock ask (Sent call sequencer target sendable room)).0) (message_of member.client call sequencer) refl (sent_leads ask call sequencer target sendable room (is_leaving target) refl)
  ask_leads ask (Poisoned handle mine safe is usable) = asked_leads ask (Poisoned handle mine safe is usable) refl

-- ---- a client sends a Start or a Beat

no_test : (a b : ℕ) → a ≢ b → (a == b) ≡ false
no_test a b h = grind (arith, nat_tests, h)

-- who was never started has processed nothing
unstarted_processed : (slice : Slice Shown) → Reached slice → slice.client.epoch ≡ 0 → slice.client.processed ≡ 0
unstarted_processed slice reached = subst (λ (z : Slice Shown). z.client.epoch ≡ 0 → z.client.processed ≡ 0) reached.leads_here
    (λ none. ((always reached.present reached.session reached.epoch reached.events reached.allowed).epochs.unstarted none).0)

none_processed : (x : List ℕ) (w : WorldState) (number : ℕ) (member : WorldClient) → Reached (slice number x w) → member_of w number ≡ Some member → member.client.epoch ≡ 0 → member.client.processed ≡ 0
none_processed x w number member reached found = subst (λ (o : Option WorldClient). (client_of x o).epoch ≡ 0 → (client_of x o).processed ≡ 0) found (unstarted_processed (slice number x w) reached)

-- the client sent one more
record SendsOne (member : WorldClient) (client : ClientState) : Type 0 where
  beats : client.beats ≡ member.client.beats + 1
  sent : client.sent ≡ member.clock
  epoch : client.epoch ≡ member.client.epoch
  processed : client.processed ≡ member.client.processed
  lease : client.cache.lease ≡ member.client.cache.lease
  off : client.leaving ≡ member.client.leaving

module _ (x : List ℕ) (w : WorldState) (number : ℕ) (member : WorldClient) (client : ClientState) (request : Request) where
  abbrev pub has_sent : WorldState
  has_sent = sends (with_client w number member client) request

  -- what goes out
  abbrev beat_then : ℕ → ℕ → one.Beat
  beat_then epoch processed = record { epoch = epoch; number = member.client.beats + 1; processed = processed }

  abbrev the_beat : one.Beat
  the_beat = beat_then member.client.epoch member.client.processed

  sent_led : (events : List (Event Shown)) (part : one.Client Shown) → member_of w number ≡ Some member → half_then x w number member client ≡ part → beat_of number request (beats_of number w.messages) ≡ the_beat ∷ beats_of number w.messages
      → Leads (stepped_here x w number member client number (Some member)) events (with_half x w number member client part (the_beat ∷ beats_of number w.messages)) → LeadsTo number x w has_sent
  sent_led events part found is goes_out led =
      let beats_are : beats_of number has_sent.messages ≡ the_beat ∷ beats_of number w.messages = beats_more number w.messages request ∙ goes_out in (
        events,
        subst (λ (o : Option WorldClient). Leads (stepped_here x w number member client number o) events (slice number x has_sent)) (sym found)
            (subst (Leads (stepped_here x w number member client number (Some member)) events)
            (ap (λ (k : one.Client Shown). with_half x w number member client k (the_beat ∷ beats_of number w.messages)) (sym is)
            ∙ four_same (stepped_as number x w) (Some (member_then x w number member client)) (member_of has_sent number) (the_beat ∷ beats_of number w.messages) (beats_of number has_sent.messages) (offers_of number x w.messages) (offers_of number x has_sent.messages) (grants_of number x w.rows.secret w.messages) (grants_of number x w.rows.secret has_sent.messages)
            (sym (found_then x w number member client found)) (sym beats_are) (sym (offers_stay number x w.messages request)) (sym (grants_request number x w.rows.secret w.messages request))) led),
      )

  own_beat : member_of w number ≡ Some member → SendsOne member client → StaysOrGoes member.client.cache.entries client.cache.entries x → beat_of number request (beats_of number w.messages) ≡ the_beat ∷ beats_of number w.messages → LeadsTo number x w has_sent
  own_beat found one (inl same) goes_out =
      sent_led (SendBeat ∷ []) (half x w number member client (member.client.beats + 1) member.clock member.client.epoch member.client.processed (shown_before x w number member client) (entry_of member.client.cache.entries x) member.client.leaving) found
      (half_is x w number member client (member.client.beats + 1) member.clock member.client.epoch member.client.processed (shown_before x w number member client) (entry_of member.client.cache.entries x) member.client.leaving one.beats one.sent one.epoch one.processed (same_shown client.leaving member.client.leaving client.cache.lease member.client.cache.lease one.off one.lease) same one.off)
      goes_out (record { allowed = record { first = tt; rest = tt }; leads_there = refl })
  own_beat found one (inr gone) goes_out =
      sent_led (Forget ∷ SendBeat ∷ []) (half x w number member client (member.client.beats + 1) member.clock member.client.epoch member.client.processed (shown_before x w number member client) None member.client.leaving) found
      (half_is x w number member client (member.client.beats + 1) member.clock member.client.epoch member.client.processed (shown_before x w number member client) None member.client.leaving one.beats one.sent one.epoch one.processed (same_shown client.leaving member.client.leaving client.cache.lease member.client.cache.lease one.off one.lease) gone one.off)
      goes_out (record { allowed = record { first = tt; rest = record { first = tt; rest = tt } }; leads_there = refl })

  other_beat : (c : ℕ) → c ≢ number → beat_of c request (beats_of c w.messages) ≡ beats_of c w.messages → slice c x w ≡ slice c x has_sent
  other_beat c other none = sym (sending_stays c x (with_client w number member client) request none ∙ other_client x w number member client c other)

  beat_by : (c : ℕ) → member_of w number ≡ Some member → SendsOne member client → StaysOrGoes member.client.cache.entries client.cache.entries x
      → (c ≡ number → beat_of number request (beats_of number w.messages) ≡ the_beat ∷ beats_of number w.messages) → ((k : ℕ) → k ≢ number → beat_of k request (beats_of k w.messages) ≡ beats_of k w.messages) → LeadsTo c x w has_sent
  beat_by c found one entry goes_out none = by_test (c == number)
      (λ own. subst (λ (z : ℕ). LeadsTo z x w has_sent) (sym (is_same c number own)) (own_beat found one entry (goes_out (is_same c number own))))
      (λ other. unseen c x w has_sent (other_beat c (is_other c number other) (none c (is_other c number other))))

module _ (c : ℕ) (x : List ℕ) (w : WorldState) (number : ℕ) (member : WorldClient) (found : member_of w number ≡ Some member) (holds : Holds w.messages member.client) (fits : IsMember w.rows.epoch number member) (reached : Reached (slice c x w)) where
  now_is : noted_moment member.client member.clock ≡ member.clock
  now_is = latest member.client.clock member.clock fits.noted

  beaten_stays_here : (case : BeatCase member.client member.clock) → StaysOrGoes member.client.cache.entries (beaten_in member.client member.clock case).0.cache.entries x
  beaten_stays_here case = (beaten_stays member.client member.clock x case holds.entries).entry

  -- of a Start the epoch and the count are 0
  start_beat : c ≡ number → member.client.session ≡ sessions.Unstarted → beat_of number (start_message member.client) (beats_of number w.messages) ≡ the_beat x w number member member.client (start_message member.client) ∷ beats_of number w.messages
  start_beat own unstarted =
      let none = fits.unstarted unstarted in
      let processed = none_processed x w number member (subst (λ (z : ℕ). Reached (slice z x w)) own reached) found none in
      first_of (number == member.client.number) (record { epoch = 0; number = member.client.beats + 1; processed = 0 }) (beats_of number w.messages) (same_test number member.client.number (sym fits.own))
      ∙ three_same (λ epoch count (rest : List one.Beat). record { epoch = epoch; number = member.client.beats + 1; processed = count } ∷ rest) 0 member.client.epoch 0 member.client.processed (beats_of number w.messages) (beats_of number w.messages) (sym none) (sym processed) refl

  beat_leads : (case : BeatCase member.client member.clock) → Comes (λ new printed. LeadsTo c x w new) (beaten w number member (beaten_in member.client member.clock case))
  beat_leads (BeatTooLate late) = tt
  beat_leads (OutOfBeats early last) = tt
  beat_leads (Starts early unstarted room) =
      beat_by x w number member (beaten_in member.client member.clock (Starts early unstarted room)).0 (start_message member.client) c found
      (record { beats = refl; sent = now_is; epoch = refl; processed = refl; lease = refl; off = refl }) (beaten_stays_here (Starts early unstarted room))
      (λ own. start_beat own unstarted)
      (λ k other. none_more (k == member.client.number) (record { epoch = 0; number = member.client.beats + 1; processed = 0 }) (beats_of k w.messages) (no_test k member.client.number (λ e. other (e ∙ fits.own))))
  beat_leads (Beats early live then room) =
      beat_by x w number member (beaten_in member.client member.clock (Beats early live then room)).0 (beat_message member.client) c found
      (record { beats = refl; sent = now_is; epoch = refl; processed = refl; lease = noted_lease member.client.cache (noted_moment member.client member.clock); off = refl }) (beaten_stays_here (Beats early live then room))
      (λ own. first_of (number == member.client.number) (the_beat x w number member member.client (beat_message member.client)) (beats_of number w.messages) (same_test number member.client.number (sym fits.own)))
      (λ k other. none_more (k == member.client.number) (the_beat x w number member member.client (beat_message member.client)) (beats_of k w.messages) (no_test k member.client.number (λ e. other (e ∙ fits.own))))
  beat_leads (Quiet early started live) =
      let k = note_keeps member.client (noted_moment member.client member.clock) in
      client_leads x w number member (beaten_in member.client member.clock (Quiet early started live)).0 c found
      (record { beats = k.of_beats.beats; sent = k.of_beats.sent; epoch = k.of_session.epoch; processed = k.of_session.processed; lease = k.of_session.lease; off = note_leaving member.client member.client.session (noted_moment member.client member.clock) }) (beaten_stays_here (Quiet early started live))

-- ---- a client is given a message

-- the lease that is taken
under_lease_is : (cache : CacheState) (lease : LeaseTerms) (b : Bool) → (cond b (record cache { lease = Some lease; enabled = true }) (record cache { entries = []; lease = Some lease; enabled = false })).lease ≡ Some lease
under_lease_is cache lease true = refl
under_lease_is cache lease false = refl

shut_lease : (b : Bool) (cache : CacheState) → (shut_if b cache).lease ≡ cache.lease
shut_lease true cache = refl
shut_lease false cache = refl

none_shown : (a b : Bool) (o p : Option LeaseTerms) → a ≡ true → b ≡ true → lease_shown a o ≡ lease_shown b p
none_shown a b o p h k = rw (h, k) refl

ended_leaving : (s : ClientState) (target : Target) (result : CallResult) → (ended_plainly s target result).leaving ≡ s.leaving
ended_leaving s target (results.Opened handle) = refl
ended_leaving s target results.Closed = refl
ended_leaving s target (results.Viewed view) = refl
ended_leaving s target (results.Stated stat) = refl
ended_leaving s target (results.Listed view) = refl
ended_leaving s target (results.Sequencer bytes) = refl
ended_leaving s target results.Done = refl
ended_leaving s target (results.Refused fault) = refl

abbrev offer_by : (epoch number span : ℕ) → one.Offer
offer_by epoch number span = record { epoch = epoch; number = number; span = span; last_invalidation = 0; name_invalidation = 0 }

abbrev alive_offer : List ℕ → Alive → one.Offer
alive_offer x message = record {
  epoch = message.epoch;
  number = message.number;
  span = message.span;
  last_invalidation = last_number 0 message.invalidations;
  name_invalidation = name_number x message.invalidations;
}

-- the lease that a client takes is shown, where it serves
taken_shown : (a b : Bool) (o : Option LeaseTerms) (lease : LeaseTerms) → a ≡ b → b ≡ false → o ≡ Some lease → lease_shown a o ≡ lease
taken_shown a b o lease h k l = rw (h, k, l) refl

module _ (x : List ℕ) (w : WorldState) (number : ℕ) (member : WorldClient) (client : ClientState) (found : member_of w number ≡ Some member) where
  abbrev s : ClientState
  s = member.client

  abbrev shown : LeaseTerms
  shown = shown_before x w number member client

  -- it takes the lease of a Started that was sent
  takes_started : (offer : one.Offer) → IsIn offer (offers_of number x w.messages) → offer.number ≡ s.beats → s.epoch ≡ 0
      → client.beats ≡ s.beats → client.sent ≡ s.sent → client.epoch ≡ offer.epoch → client.processed ≡ s.processed → client.cache.lease ≡ Some (offered s offer.span) → s.leaving ≡ false → client.leaving ≡ s.leaving → entry_of client.cache.entries x ≡ None → LeadsTo number x w (with_client w number member client)
  takes_started offer was_offered newest epoch beats_are sent_is epoch_is processed_is lease_is on off_is none = (
    StartAnew offer ∷ [],
    own_led x w number member client (StartAnew offer ∷ []) (half x w number member client s.beats s.sent offer.epoch s.processed (offered s offer.span) None s.leaving) found
        (half_is x w number member client s.beats s.sent offer.epoch s.processed (offered s offer.span) None s.leaving beats_are sent_is epoch_is processed_is (taken_shown client.leaving s.leaving client.cache.lease (offered s offer.span) off_is on lease_is) none off_is)
        (record { allowed = record { first = record { offered = was_offered; newest = newest; epoch = inl epoch; on = on }; rest = tt }; leads_there = refl }),
  )

  -- what an Alive leaves of the client
  module _ (offer : one.Offer) (was_offered : IsIn offer (offers_of number x w.messages)) (epoch : s.epoch ≡ offer.epoch) (beats_are : client.beats ≡ s.beats) (sent_is : client.sent ≡ s.sent) (epoch_is : client.epoch ≡ s.epoch) (processed_is : client.processed ≡ max s.processed offer.last_invalidation) where
    -- it processes what is to be acknowledged, and the entry is gone
    passes_gone : lease_shown client.leaving client.cache.lease ≡ shown → client.leaving ≡ s.leaving → entry_of client.cache.entries x ≡ None → LeadsTo number x w (with_client w number member client)
    passes_gone lease_is off_is none = (
      Invalidate offer ∷ [],
      own_led x w number member client (Invalidate offer ∷ []) (half x w number member client s.beats s.sent s.epoch (max s.processed offer.last_invalidation) shown None s.leaving) found
          (half_is x w number member client s.beats s.sent s.epoch (max s.processed offer.last_invalidation) shown None s.leaving beats_are sent_is epoch_is processed_is lease_is none off_is)
          (record { allowed = record { first = record { offered = was_offered; epoch = epoch }; rest = tt }; leads_there = refl }),
    )

    -- or it stands
    passes_kept : client.cache.lease ≡ s.cache.lease → client.leaving ≡ s.leaving → entry_of client.cache.entries x ≡ entry_of s.cache.entries x → offer.name_invalidation ≤ s.processed → LeadsTo number x w (with_client w number member client)
    passes_kept lease_is off_is same known = (
      Process offer ∷ [],
      own_led x w number member client (Process offer ∷ []) (half x w number member client s.beats s.sent s.epoch (max s.processed offer.last_invalidation) shown (entry_of s.cache.entries x) s.leaving) found
          (half_is x w number member client s.beats s.sent s.epoch (max s.processed offer.last_invalidation) shown (entry_of s.cache.entries x) s.leaving beats_are sent_is epoch_is processed_is (same_shown client.leaving s.leaving client.cache.lease s.cache.lease off_is lease_is) same off_is)
          (record { allowed = record { first = record { offered = was_offered; epoch = epoch; known = known }; rest = tt }; leads_there = refl }),
    )

    -- and then it takes the lease
    takes_gone : offer.number ≡ s.beats → client.cache.lease ≡ Some (offered s offer.span) → s.leaving ≡ false → client.leaving ≡ s.leaving → entry_of client.cache.entries x ≡ None → LeadsTo number x w (with_client w number member client)
    takes_gone newest lease_is on off_is none = (
      Invalidate offer ∷ StartAnew offer ∷ [],
      own_led x w number member client (Invalidate offer ∷ StartAnew offer ∷ []) (half x w number member client s.beats s.sent offer.epoch (max s.processed offer.last_invalidation) (offered s offer.span) None s.leaving) found
          (half_is x w number member client s.beats s.sent offer.epoch (max s.processed offer.last_invalidation) (offered s offer.span) None s.leaving beats_are sent_is (epoch_is ∙ epoch) processed_is (taken_shown client.leaving s.leaving client.cache.lease (offered s offer.span) off_is on lease_is) none off_is)
          (record {
            allowed = record {
              first = record { offered = was_offered; epoch = epoch };
              rest = record { first = record { offered = was_offered; newest = newest; epoch = inr epoch; on = on }; rest = tt };
            };
            leads_there = refl;
          }),
    )

    takes_kept : offer.number ≡ s.beats → client.cache.lease ≡ Some (offered s offer.span) → s.leaving ≡ false → client.leaving ≡ s.leaving → entry_of client.cache.entries x ≡ entry_of s.cache.entries x → offer.name_invalidation ≤ s.processed → IsUnexpired shown.sent shown.span member.clock → LeadsTo number x w (with_client w number member client)
    takes_kept newest lease_is on off_is same known unexpired = (
      Process offer ∷ Prolong offer ∷ [],
      own_led x w number member client (Process offer ∷ Prolong offer ∷ []) (half x w number member client s.beats s.sent s.epoch (max s.processed offer.last_invalidation) (offered s offer.span) (entry_of s.cache.entries x) s.leaving) found
          (half_is x w number member client s.beats s.sent s.epoch (max s.processed offer.last_invalidation) (offered s offer.span) (entry_of s.cache.entries x) s.leaving beats_are sent_is epoch_is processed_is (taken_shown client.leaving s.leaving client.cache.lease (offered s offer.span) off_is on lease_is) same off_is)
          (record {
            allowed = record {
              first = record { offered = was_offered; epoch = epoch; known = known };
              rest = record { first = record { offered = was_offered; newest = newest; epoch = epoch; unexpired = unexpired; on = on }; rest = tt };
            };
            leads_there = refl;
          }),
    )

  -- it is told of a later epoch
  learns : (present : ℕ) → 0 < s.epoch → s.epoch < present → present ≤ w.rows.epoch
      → client.beats ≡ s.beats → client.sent ≡ s.sent → client.epoch ≡ present → client.processed ≡ 0 → client.cache.lease ≡ s.cache.lease → client.leaving ≡ s.leaving → entry_of client.cache.entries x ≡ None → LeadsTo number x w (with_client w number member client)
  learns present started later committed beats_are sent_is epoch_is processed_is lease_is off_is none = (
    LearnEpoch present ∷ [],
    own_led x w number member client (LearnEpoch present ∷ []) (half x w number member client s.beats s.sent present 0 shown None s.leaving) found
        (half_is x w number member client s.beats s.sent present 0 shown None s.leaving beats_are sent_is epoch_is processed_is (same_shown client.leaving s.leaving client.cache.lease s.cache.lease off_is lease_is) none off_is)
        (record { allowed = record { first = record { started = started; later = later; committed = committed }; rest = tt }; leads_there = refl }),
  )

  -- it puts a granted view into its cache
  installs : (grant : one.Grant Shown) → IsIn grant (grants_of number x w.rows.secret w.messages) → grant.epoch ≡ s.epoch → s.processed ≤ grant.stamp → IsUnexpired shown.sent shown.span member.clock
      → Keeps s client → entry_of client.cache.entries x ≡ Some grant.view → LeadsTo number x w (with_client w number member client)
  installs grant granted epoch stamp unexpired keeps there = (
    Install grant ∷ [],
    own_led x w number member client (Install grant ∷ []) (half x w number member client s.beats s.sent s.epoch s.processed shown (Some grant.view) s.leaving) found
        (half_is x w number member client s.beats s.sent s.epoch s.processed shown (Some grant.view) s.leaving keeps.beats keeps.sent keeps.epoch keeps.processed (same_shown client.leaving s.leaving client.cache.lease s.cache.lease keeps.off keeps.lease) there keeps.off)
        (record { allowed = record { first = record { granted = granted; epoch = epoch; stamp = stamp; unexpired = unexpired }; rest = tt }; leads_there = refl }),
  )

-- there is an entry, or none
by_entry : {P : Type 0} (o : Option Shown) → (o ≡ None → P) → ((v : Shown) → o ≡ Some v → P) → P
by_entry None none some = none refl
by_entry (Some v) none some = some v refl

no_session : {P : Type 0} (s : ClientState) → s.session ≡ sessions.Live → s.session ≡ sessions.Unstarted → P
no_session s h k = let two : sessions.Live ≡ sessions.Unstarted = sym h ∙ k in cc

module _ (c : ℕ) (x : List ℕ) (w : WorldState) (h : IsConsistent w) (member : WorldClient) (at : ℕ) (out : Out) (sent : out_at w.messages at ≡ Some out) (found : member_of w (out_client out) ≡ Some member) where
  abbrev to : ℕ
  to = out_client out

  abbrev own : ClientState
  own = member.client

  abbrev then : ℕ
  then = noted_moment own member.clock

  holds : Holds w.messages own
  holds = h.holds to member found

  then_is : then ≡ member.clock
  then_is = latest own.clock member.clock (h.clients to member found).noted

  runs : is_leased own.cache.lease then ≡ true → IsUnexpired (lease_of own.cache.lease).sent (lease_of own.cache.lease).span member.clock
  runs leased = is_leased_so own.cache.lease member.clock (subst (λ (n : ℕ). is_leased own.cache.lease n ≡ true) then_is leased)

  abbrev own_shown : LeaseTerms
  own_shown = lease_shown own.leaving own.cache.lease

  -- that of a client that doesn't end its session is shown
  runs_on : own.leaving ≡ false → is_leased own.cache.lease then ≡ true → IsUnexpired own_shown.sent own_shown.span member.clock
  runs_on on leased = subst (λ (b : Bool). IsUnexpired (lease_shown b own.cache.lease).sent (lease_shown b own.cache.lease).span member.clock) (sym on) (runs leased)

  -- who serves doesn't
  serves_on : own.cache.enabled ≡ true → own.leaving ≡ false
  serves_on enabled = by_off own.leaving refl
    where
      by_off : (b : Bool) → own.leaving ≡ b → b ≡ false
      by_off true leave = let off : own.cache.enabled ≡ false = holds.off.shuts leave in cc
      by_off false on = refl

  starts_on : own.session ≡ sessions.Unstarted → own.leaving ≡ false
  starts_on unstarted = by_off own.leaving refl
    where
      by_off : (b : Bool) → own.leaving ≡ b → b ≡ false
      by_off true leave = absurd (holds.off.begun leave unstarted)
      by_off false on = refl

  abbrev client_by : GiveCase own member.clock out → ClientState
  client_by case = (given_in own member.clock out case).0

  abbrev LeadsBy : GiveCase own member.clock out → Type 0
  LeadsBy case = LeadsTo c x w (with_client w to member (client_by case))

  -- what its reply teaches was granted
  installs_by : (case : GiveCase own member.clock out) → Keeps own (client_by case) → EntryDoes own member.clock out x (client_by case) → LeadsBy case
  installs_by case keeps (EntryStays stays) = client_leads x w to member (client_by case) c found keeps stays.entry
  installs_by case keeps (EntryInstalled message call entry stamp is for learned there fits) =
      let reply = the_reply w h to member found at out sent message call (sym (h.clients to member found).own) is for in
      let granted = was_granted w.messages w.rows.secret own message call holds.handles reply x entry stamp (taught_if (may_install own then message.stamp) (taught own call.target message.result) (x, entry) learned.teaches).1 learned.stamped in
      let grant : one.Grant Shown = record { epoch = message.epoch; stamp = stamp; view = entry } in
      own_or_unseen x w to member (client_by case) c
      (installs x w to member (client_by case) found grant (subst (λ (n : ℕ). IsIn grant (grants_of n x w.rows.secret w.messages)) (sym (ap out_client is)) granted) for.epoch learned.fresh (runs_on (serves_on learned.enabled) learned.safe.leased) keeps there)

  keeps_by : (case : GiveCase own member.clock out) → Keeps own (client_by case) → LeadsBy case
  keeps_by case keeps = installs_by case keeps (given_entry own member.clock out x case holds.entries)

  note_keeps_here : Keeps own (note own then)
  note_keeps_here = let k = note_keeps own then in record { beats = k.of_beats.beats; sent = k.of_beats.sent; epoch = k.of_session.epoch; processed = k.of_session.processed; lease = k.of_session.lease; off = note_leaving own own.session then }

  -- nothing is there before a session
  none_begun : (new : ClientState) → own.session ≡ sessions.Unstarted → EntryDoes own member.clock out x new → entry_of new.cache.entries x ≡ None
  none_begun new unstarted (EntryStays stays) = none_stays own.cache.entries new.cache.entries x stays.entry (holds.none_before unstarted x)
  none_begun new unstarted (EntryInstalled message call entry stamp is for learned there fits) = no_session own for.live.live unstarted

  module _ (message : Alive) (is : out ≡ outs.Alive message) where
    was_offered : IsIn (alive_offer x message) (offers_of to x w.messages)
    was_offered = offer_sent to x w.messages at (outs.Alive message) (alive_offer x message) (sent ∙ ap (λ o. Some o) is) (λ offers. first_in (to == message.client) (alive_offer x message) offers (same_test to message.client (ap out_client is)))

  ended_keeps : (message : Reply) (call : Outstanding) → Keeps own (ended_plainly (note_live own then) call.target message.result)
  ended_keeps message call =
      let k = ended_same (note_live own then) call.target message.result in
      record { beats = k.beats; sent = k.sent; epoch = k.epoch; processed = k.processed; lease = ap (λ (cache : CacheState). cache.lease) k.cache ∙ noted_lease own.cache then; off = ended_leaving (note_live own then) call.target message.result }

  stays_leads : (message : Alive) (is : out ≡ outs.Alive message) (heard : IsHeard own member.clock out) (fit : IsFit own member.clock message) (worse : _) → LeadsBy (LeaseStays message heard is fit worse)
  stays_leads message is heard fit worse =
      let client = client_by (LeaseStays message heard is fit worse) in
      let leased = noted_lease own.cache then in
      own_or_unseen x w to member client c (by_entry (entry_of client.cache.entries x)
      (λ none. passes_gone x w to member client found (alive_offer x message) (was_offered message is) (sym fit.alive.epoch) refl refl refl refl (same_shown client.leaving own.leaving client.cache.lease own.cache.lease refl leased) refl none)
      (λ v there.
      let still = passed_entry own.cache then own.processed message.invalidations x v holds.entries there in
      passes_kept x w to member client found (alive_offer x message) (was_offered message is) (sym fit.alive.epoch) refl refl refl refl leased refl (there ∙ sym still.same) still.known))

  taken_leads : (message : Alive) (is : out ≡ outs.Alive message) (heard : IsHeard own member.clock out) (fit : IsFit own member.clock message) (taken : IsTaken own message) → (b : Bool) → own.leaving ≡ b → LeadsBy (LeaseTaken message heard is fit taken)
  -- it shows no lease, and holds nothing
  taken_leads message is heard fit taken true leave =
      let client = client_by (LeaseTaken message heard is fit taken) in
      own_or_unseen x w to member client c
      (passes_gone x w to member client found (alive_offer x message) (was_offered message is) (sym fit.alive.epoch) refl refl refl refl (none_shown client.leaving own.leaving client.cache.lease own.cache.lease leave leave) refl
      (ap (λ z. entry_of (shut_if z (under (record (noted_cache own.cache then) { entries = all_flushed own.processed (noted_cache own.cache then).entries message.invalidations }) (offered own message.span) then)).entries x) leave))
  taken_leads message is heard fit taken false on =
      let client = client_by (LeaseTaken message heard is fit taken) in
      let flushed : CacheState = record (noted_cache own.cache then) { entries = all_flushed own.processed (noted_cache own.cache then).entries message.invalidations } in
      let leased : client.cache.lease ≡ Some (offered own message.span) = shut_lease own.leaving (under flushed (offered own message.span) then) ∙ under_lease_is flushed (offered own message.span) (is_unexpired own.sent message.span then) in
      own_or_unseen x w to member client c (by_entry (entry_of client.cache.entries x)
      (λ none. takes_gone x w to member client found (alive_offer x message) (was_offered message is) (sym fit.alive.epoch) refl refl refl refl taken.newest leased on refl none)
      (λ v there.
      let here : entry_of (under flushed (offered own message.span) then).entries x ≡ Some v = ap (λ z. entry_of (shut_if z (under flushed (offered own message.span) then)).entries x) (sym on) ∙ there in
      let still = taken_entry own.cache (offered own message.span) then own.processed message.invalidations x v holds.entries here in
      takes_kept x w to member client found (alive_offer x message) (was_offered message is) (sym fit.alive.epoch) refl refl refl refl taken.newest leased on refl (there ∙ sym still.same) still.known (runs_on on still.leased)))

  give_leads : (case : GiveCase own member.clock out) → Comes (λ new printed. LeadsTo c x w new) (gave w to member (given_in own member.clock out case))
  give_leads (GivenTooLate late) = tt
  give_leads (OfAnother early other) = keeps_by (OfAnother early other) note_keeps_here
  give_leads (Started message heard is standing fits) =
      let client = client_by (Started message heard is standing fits) in
      let offer = offer_by message.epoch message.number message.span in
      own_or_unseen x w to member client c
      (takes_started x w to member client found offer
      (offer_sent to x w.messages at (outs.Started message) offer (sent ∙ ap (λ o. Some o) is) (λ offers. first_in (to == message.client) offer offers (same_test to message.client (ap out_client is))))
      standing.newest ((h.clients to member found).unstarted standing.unstarted)
      refl refl refl refl (under_lease_is own.cache (offered own message.span) (is_unexpired own.sent message.span then)) (starts_on standing.unstarted) refl
      (none_begun client standing.unstarted (given_entry own member.clock out x (Started message heard is standing fits) holds.entries)))
  give_leads (StartedUnfit message heard is standing long) = keeps_by (StartedUnfit message heard is standing long) note_keeps_here
  give_leads (StartedDropped message heard is old) = keeps_by (StartedDropped message heard is old) note_keeps_here
  give_leads (LeaseTaken message heard is fit taken) = taken_leads message is heard fit taken own.leaving refl
  give_leads (LeaseStays message heard is fit worse) = stays_leads message is heard fit worse
  give_leads (AliveUnfit message heard is alive unfit) = keeps_by (AliveUnfit message heard is alive unfit) note_keeps_here
  give_leads (AliveDropped message heard is strange) = keeps_by (AliveDropped message heard is strange) note_keeps_here
  give_leads (OutOfNumbers message call heard is for last) = tt
  give_leads (Replied message call heard is for room kept plain) = keeps_by (Replied message call heard is for room kept plain) (ended_keeps message call)
  give_leads (Installed message call taught_it stamp heard is for learned) = keeps_by (Installed message call taught_it stamp heard is for learned) (record { beats = refl; sent = refl; epoch = refl; processed = refl; lease = refl; off = refl })
  give_leads (Departed message call heard is for leaving done) = keeps_by (Departed message call heard is for leaving done) (record { beats = refl; sent = refl; epoch = refl; processed = refl; lease = noted_lease own.cache then; off = refl })
  give_leads (ReplyDropped message call heard is for dropped) = keeps_by (ReplyDropped message call heard is for dropped) (record { beats = refl; sent = refl; epoch = refl; processed = refl; lease = noted_lease own.cache then; off = refl })
  give_leads (NotAwaited message heard is none) = keeps_by (NotAwaited message heard is none) note_keeps_here
  give_leads (Learns message present heard is later) =
      let committed = h.told at present message (sent ∙ ap (λ o. Some o) is) later.fault in
      let client = client_by (Learns message present heard is later) in
      own_or_unseen x w to member client c
      (learns x w to member client found present ((h.clients to member found).live later.live.live) later.later committed refl refl refl refl (noted_lease own.cache then) refl refl)
  give_leads (Lost message heard is loss) = keeps_by (Lost message heard is loss) (record { beats = refl; sent = refl; epoch = refl; processed = refl; lease = noted_lease own.cache then; off = refl })
  give_leads (TurnedAway message heard is fault unstarted) = keeps_by (TurnedAway message heard is fault unstarted) (record { beats = refl; sent = refl; epoch = refl; processed = refl; lease = refl; off = refl })
  give_leads (RefusalDropped message heard is earlier stays_so) = keeps_by (RefusalDropped message heard is earlier stays_so) note_keeps_here

-- ---- each step leaves the slice reached

module _ (c : ℕ) (x : List ℕ) (w new : WorldState) (h : IsConsistent w) (member : WorldClient) (printed : List Line) where
  led_on : LeadsTo c x w new → Reached (slice c x new)
  led_on led = reached_stays c x w new led (h.reached c x)

  pub reached_stays_at_ask : (number : ℕ) (ask : Ask) (case : AskCase member.client member.clock ask) → member_of w number ≡ Some member → asked w number member (asked_in member.client member.clock ask case) ≡ Ok (new, printed) → Reached (slice c x new)
  reached_stays_at_ask number ask case found is =
      led_on (it_comes (λ z lines. LeadsTo c x w z) (asked w number member (asked_in member.client member.clock ask case)) new printed is (ask_leads c x w number member found (h.holds number member found) ask case))

  pub reached_stays_at_beat : (number : ℕ) (case : BeatCase member.client member.clock) → member_of w number ≡ Some member → beaten w number member (beaten_in member.client member.clock case) ≡ Ok (new, printed) → Reached (slice c x new)
  reached_stays_at_beat number case found is =
      led_on (it_comes (λ z lines. LeadsTo c x w z) (beaten w number member (beaten_in member.client member.clock case)) new printed is (beat_leads c x w number member found (h.holds number member found) (h.clients number member found) (h.reached c x) case))

  pub reached_stays_at_give : (at : ℕ) (out : Out) (case : GiveCase member.client member.clock out) → out_at w.messages at ≡ Some out → member_of w (out_client out) ≡ Some member → gave w (out_client out) member (given_in member.client member.clock out case) ≡ Ok (new, printed) → Reached (slice c x new)
  reached_stays_at_give at out case sent found is =
      led_on (it_comes (λ z lines. LeadsTo c x w z) (gave w (out_client out) member (given_in member.client member.clock out case)) new printed is (give_leads c x w h member at out sent found case))
