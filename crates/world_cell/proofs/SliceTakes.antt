-- To each client, and of each name, what a message that the master takes is.
use Rattle.std.proofs.Common.{◌≡◌, ℕ, ◌+◌, Bool, true, false, cond, List, [], ◌∷◌, ◌++◌, map, Option, Some, None, inl, inr, arith, refl, sym, ap, ◌∙◌, subst}
use Rattle.std.specs.Prelude.{◌⊎◌, ◌==◌, ◌&&◌, ◌||◌, not, nat_le, ◌≤◌}
use Rattle.std.proofs.lemmas.Bool.Decides.{nat_tests}
use Rattle.coherence.specs.Slice as one
use Rattle.coherence.specs.Slice.{IsIn, Event, Receive, KeepReceipts, Acknowledge, GiveBack, Reached, Leads}
use Rattle.node_core.specs.declared.refusals.Fault.{Fault}
use Rattle.node_core.specs.declared.refusals.Fault.TheVariants as faults
use Rattle.node_core.specs.Nodes.{view_at}
use Rattle.tags_cell.specs.declared.messages.beats.Beat.{Beat}
use Rattle.tags_cell.specs.declared.messages.requests.Start.{Start}
use Rattle.tags_cell.specs.declared.messages.requests.CallMessage.{CallMessage}
use Rattle.tags_cell.specs.declared.messages.requests.Request.{Request}
use Rattle.tags_cell.specs.declared.messages.requests.Request.TheVariants as requests
use Rattle.tags_cell.specs.declared.messages.outs.CallResult.{CallResult}
use Rattle.tags_cell.specs.declared.messages.outs.CallResult.TheVariants as results
use Rattle.tags_cell.specs.declared.messages.outs.Reply.{Reply}
use Rattle.session_core.specs.declared.records.LastCall.{LastCall}
use Rattle.session_core.specs.declared.records.Session.{Session}
use Rattle.session_core.specs.Session.{beat_fault, live_beat_fault, beaten}
use Rattle.session_core.proofs.OneClient.{other_session}
use Rattle.gate_core.specs.declared.pending.Waiting.{Waiting}
use Rattle.gate_core.specs.Laws.{touching}
use Rattle.gate_core.proofs.OneChange.{push_touches}
use Rattle.master_parts.specs.declared.handles.HandleNote.{HandleNote}
use Rattle.master_parts.specs.declared.pending.Task.{Task}
use Rattle.master_parts.specs.declared.pending.Task.TheVariants as tasks
use Rattle.master_parts.specs.declared.pending.Work.TheVariants as works
use Rattle.master_parts.specs.OpenHandles.{with_state}
use Rattle.master_state.specs.State.{MasterState}
use Rattle.master_state.specs.Lookups.{session_of, kept_of, noted, acknowledgement, repeated_reply, is_spent}
use Rattle.master_state.specs.Updates.{with_note}
use Rattle.cell_core.specs.declared.asking.TouchedNames.{TouchedNames}
use Rattle.cell_core.specs.Step.{replied, granting, queued, waits, parked, is_cachable}
use Rattle.cell_core.specs.Names.{name_asked, shown_by}
use Rattle.cell_core.specs.Cases.{IsHeard, IsGranted, TakeCase, taken_by}
use Rattle.cell_core.specs.Cases.TakeCase.{StartQueued, BeatParked, LeftBefore, Repeated, LeavesBeside, Recovering, Answered, Granted, Waits}
use Rattle.cell_core.proofs.Told.{told_is_shown}
use Rattle.over_core.specs.Kept.{IsKept}
use Rattle.world_steps.specs.Messages.{request_at, call_of}
use Rattle.world_steps.specs.World.{WorldState}
use Rattle.world_steps.specs.declared.mail.Message.TheVariants.{ToClient}
use Rattle.world_cell.specs.Slices.{Shown, SeenRight, slice, standing_so, parked_list, seen_of, right_of, start_of, starts_of, beats_of}
use Rattle.world_cell.specs.Consistent.{FitsMessages, HasGranted}
use Rattle.world_cell.proofs.SliceRights.{right_of_another, given_back_right, acknowledges, beat_gives_back, beat_leaves, is_asked, is_processed}
use Rattle.world_cell.proofs.Slices.{LeadsTo, reached_stays, by_test, is_same, is_other, same_test, in_front, in_back, in_either, beat_sent, beats_stay, offers_more, grants_more, UpParts, alike, here, shown, goes, with_found, is_found, with_master, lease_stays, own_found, IsKnown, known, first_in, none_more, no_start}
use Rattle.world_cell.proofs.SliceCalls.{Comes, comes_unseen, call_replied, reply_again, call_waits, IsGranting, call_granted}

-- ---- lists

-- what waits after all others is the only new one
new_start : (c : ℕ) (ws : List (Waiting Task)) (x : Waiting Task) (r : one.Receipt) → IsIn r (starts_of c (ws ++ x ∷ [])) → IsIn r (start_of c x.change.body) ⊎ IsIn r (starts_of c ws)
new_start c [] x r i = elim (in_either r (start_of c x.change.body) [] i) [
  | inl k ↦ inl k
  | inr k ↦ inr k
]
new_start c (y ∷ ws) x r i = elim (in_either r (start_of c y.change.body) (starts_of c (ws ++ x ∷ [])) i) [
  | inl k ↦ inr (in_front r (start_of c y.change.body) (starts_of c ws) k)
  | inr k ↦ elim (new_start c ws x r k) [
    | inl m ↦ inl m
    | inr m ↦ inr (in_back r (start_of c y.change.body) (starts_of c ws) m)
  ]
]

at_most_one : {A : Type 0} (b : Bool) (r x : A) → IsIn r (cond b (x ∷ []) []) → r ≡ x
at_most_one true r x (inl e) = e
at_most_one true r x (inr i) = absurd i
at_most_one false r x i = absurd i

-- ---- a Beat that is taken

not_repeat : (b : Bool) (o : Option Fault) → cond b (Some faults.Repeat) o ≡ None → b ≡ false
not_repeat true o h = cc
not_repeat false o h = refl

was_live : (b : Bool) (o : Option Fault) → cond b o (Some faults.NoSession) ≡ None → (b ≡ true) × (o ≡ None)
was_live true o h = (refl, h)
was_live false o h = cc

newer_number : (new old : ℕ) → nat_le new old ≡ false → nat_le 1 new ≡ true
newer_number new old h = grind (arith, nat_tests, h)

heard_now : (live recovering beaten_once : Bool) → live ≡ true → beaten_once ≡ true → (live && (not recovering || beaten_once)) ≡ true
heard_now true true true l b = refl
heard_now true false true l b = refl
heard_now false recovering beaten_once l b = cc
heard_now live recovering false l b = cc

record IsTaken (session : Session Reply) (beat : Beat) : Type 0 where
  live : session.live ≡ true
  newer : nat_le 1 beat.number ≡ true

is_taken : (session : Session Reply) (beat : Beat) → beat_fault (Some session) beat ≡ None → IsTaken session beat
is_taken session beat h =
    let p : (session.live ≡ true) × (live_beat_fault session beat ≡ None) = was_live session.live (live_beat_fault session beat) h in
    record { live = p.0; newer = newer_number beat.number session.newest_beat (not_repeat (nat_le beat.number session.newest_beat) _ p.1) }

turned : (a b : ℕ) → (a == b) ≡ false → (b == a) ≡ false
turned a b h = grind (arith, nat_tests, h)

-- ---- a Start

module _ (x : List ℕ) (w : WorldState) (s : MasterState) (knows : IsKnown w s) (start : Start) where
  abbrev start_task : Waiting Task
  start_task = record { number = s.gate.pushed + 1; change = record { touched = []; body = tasks.Asked (record { client = start.client; number = start.number; work = works.Starts start.principal s.clock }) } }

  abbrev pub start_queued : MasterState
  start_queued = queued s [] start_task.change.body

  abbrev pub start_beat : one.Beat
  start_beat = record { epoch = 0; number = start.number; processed = 0 }

  abbrev starts_then : List one.Receipt
  starts_then = starts_of start.client (s.gate.waiting ++ start_task ∷ [])

  -- its receipt waits after those that could be answered
  starts_kept : (r : one.Receipt) → IsIn r ((seen_of (session_of s start.client)).parked ++ starts_then) → IsIn r (record { number = start.number; moment = w.clock } ∷ (seen_of (session_of s start.client)).parked ++ starts_of start.client s.gate.waiting)
  starts_kept r i = elim (in_either r (seen_of (session_of s start.client)).parked starts_then i) [
    | inl k ↦ inr (in_front r (seen_of (session_of s start.client)).parked (starts_of start.client s.gate.waiting) k)
    | inr k ↦ elim (new_start start.client s.gate.waiting start_task r k) [
      | inl m ↦ inl (at_most_one (start.client == start.client) r (record { number = start.number; moment = s.clock }) m ∙ ap (λ z. record { number = start.number; moment = z }) knows.clock)
      | inr m ↦ inr (in_back r (seen_of (session_of s start.client)).parked (starts_of start.client s.gate.waiting) m)
    ]
  ]

  -- a Start touches no name
  untouched : touching x (s.gate.waiting ++ start_task ∷ []) ≡ touching x s.gate.waiting
  untouched = omega (arith, (push_touches x start_task.change s.gate).1)

  own_start : IsIn start_beat (beats_of start.client w.messages) → Comes start.client x w s start_queued []
  own_start sent = goes start.client x w s w.rows start_queued [] (Receive start_beat ∷ KeepReceipts ((seen_of (session_of s start.client)).parked ++ starts_then) ∷ []) (here start.client x w s) (record (here start.client x w s) { starts = starts_then }) (alike (here start.client x w s))
      (record {
        present = refl;
        session = refl;
        epoch = refl;
        lease = refl;
        recovering = refl;
        seen = refl;
        starts = refl;
        heard = refl;
        right = refl;
        pending = untouched;
        beats = beats_stay start.client w.messages [];
        offers = offers_more start.client x w.messages [];
        grants = grants_more start.client x w.rows.secret w.messages [];
      })
      (record { allowed = record { first = record { up = refl; sent = sent }; rest = record { first = starts_kept; rest = tt } }; leads_there = refl })

  other_start : (c : ℕ) → (c == start.client) ≡ false → Comes c x w s start_queued []
  other_start c other = comes_unseen c x w s start_queued [] refl refl refl (no_start c s.gate.waiting start_task (none_more (c == start.client) (record { number = start.number; moment = s.clock }) [] other)) refl untouched refl refl

  pub start_comes : (c : ℕ) → IsIn start_beat (beats_of start.client w.messages) → Comes c x w s start_queued []
  start_comes c sent = by_test (c == start.client)
      (λ own. subst (λ (z : ℕ). Comes z x w s start_queued []) (sym (is_same c start.client own)) (own_start sent))
      (λ other. other_start c other)

-- ---- a Beat

module _ (x : List ℕ) (w : WorldState) (s : MasterState) (knows : IsKnown w s) (beat : Beat) where
  abbrev pub as_beat : one.Beat
  as_beat = record { epoch = beat.epoch; number = beat.number; processed = beat.invalidations }

  abbrev receipt_then : one.Receipt
  receipt_then = record { number = beat.number; moment = w.clock }

  abbrev receipts_then : List one.Receipt
  receipts_then = receipt_then ∷ starts_of beat.client s.gate.waiting

  module _ (session : Session Reply) (sent : IsIn as_beat (beats_of beat.client w.messages)) (epoch : beat.epoch ≡ s.epoch) (found : session_of s beat.client ≡ Some session) (taken : IsTaken session beat) where
    beat_kept : (r : one.Receipt) → IsIn r receipts_then → IsIn r (receipt_then ∷ parked_list session.parked ++ starts_of beat.client s.gate.waiting)
    beat_kept r (inl e) = inl e
    beat_kept r (inr i) = inr (in_back r (parked_list session.parked) (starts_of beat.client s.gate.waiting) i)

    abbrev before_beat : UpParts
    before_beat = with_found beat.client x w s (Some session)

    abbrev behind_beat : SeenRight → UpParts
    behind_beat right = record before_beat { seen = seen_of (Some (beaten beat w.clock session)); heard = true; right = right }

    seen_beaten : seen_of (session_of (parked s beat) beat.client) ≡ seen_of (Some (beaten beat w.clock session))
    seen_beaten = ap seen_of (own_found (beaten beat s.clock) s.sessions beat.client session found) ∙ ap (λ z. seen_of (Some (beaten beat z session))) knows.clock

    beat_leads : (last : Event Shown) (right : SeenRight) → right_of beat.client x (parked s beat).rights ≡ right → Leads (shown beat.client x w before_beat) (Receive as_beat ∷ KeepReceipts receipts_then ∷ last ∷ []) (shown beat.client x w (behind_beat right)) → Comes beat.client x w s (parked s beat) []
    beat_leads last right is_right led =
        let is = is_found beat.client x w s (Some session) knows.sessions knows.epoch found in
        goes beat.client x w s w.rows (parked s beat) [] (Receive as_beat ∷ KeepReceipts receipts_then ∷ last ∷ []) before_beat (behind_beat right) is
        (record {
          present = refl;
          session = is.session;
          epoch = is.epoch;
          lease = lease_stays s.sessions beat.client (beaten beat s.clock);
          recovering = refl;
          seen = seen_beaten;
          starts = refl;
          heard = ap (λ seen. seen.live && (not s.recovering || seen.beaten)) seen_beaten ∙ heard_now session.live s.recovering (nat_le 1 beat.number) taken.live taken.newer;
          right = is_right;
          pending = refl;
          beats = beats_stay beat.client w.messages [];
          offers = offers_more beat.client x w.messages [];
          grants = grants_more beat.client x w.rows.secret w.messages [];
        })
        led

    own_beat : Comes beat.client x w s (parked s beat) []
    own_beat = by_test (acknowledges beat.client x beat.invalidations s.rights)
        (λ t. beat_leads (GiveBack as_beat) (given_back_right (right_of beat.client x s.rights)) (beat_gives_back beat.client x s.rights knows.recorded beat.invalidations t) (record {
          allowed = record {
            first = record { up = refl; sent = sent };
            rest = record {
              first = beat_kept;
              rest = record {
                first = record {
                  up = refl;
                  live = ap standing_so taken.live;
                  sent = sent;
                  epoch = epoch;
                  asked = is_asked beat.client x s.rights knows.recorded beat.invalidations t;
                  processed = is_processed beat.client x s.rights knows.recorded beat.invalidations t;
                };
                rest = tt;
              };
            };
          };
          leads_there = refl;
        }))
        (λ t. beat_leads (Acknowledge as_beat) (right_of beat.client x s.rights) (beat_leaves beat.client x s.rights knows.recorded beat.invalidations t) (record {
          allowed = record {
            first = record { up = refl; sent = sent };
            rest = record { first = beat_kept; rest = record { first = record { up = refl; live = ap standing_so taken.live; sent = sent; epoch = epoch }; rest = tt } };
          };
          leads_there = refl;
        }))

  any_beat : (found : Option (Session Reply)) → IsIn as_beat (beats_of beat.client w.messages) → beat.epoch ≡ s.epoch → session_of s beat.client ≡ found → beat_fault found beat ≡ None → Comes beat.client x w s (parked s beat) []
  any_beat None sent epoch found taken = cc
  any_beat (Some session) sent epoch found taken = own_beat session sent epoch found (is_taken session beat taken)

  other_beat : (c : ℕ) → (c == beat.client) ≡ false → (beat.client == c) ≡ false → Comes c x w s (parked s beat) []
  other_beat c other back = comes_unseen c x w s (parked s beat) []
      (lease_stays s.sessions beat.client (beaten beat s.clock))
      refl
      (ap seen_of (other_session s.sessions beat.client (beaten beat s.clock) c (is_other c beat.client other)))
      refl
      (right_of_another beat.client c x s.rights knows.recorded (acknowledgement beat) back)
      refl refl refl

  pub beat_comes : (c : ℕ) → IsIn as_beat (beats_of beat.client w.messages) → beat.epoch ≡ s.epoch → beat_fault (session_of s beat.client) beat ≡ None → Comes c x w s (parked s beat) []
  beat_comes c sent epoch taken = by_test (c == beat.client)
      (λ own. subst (λ (z : ℕ). Comes z x w s (parked s beat) []) (sym (is_same c beat.client own)) (any_beat (session_of s beat.client) sent epoch refl taken))
      (λ other. other_beat c other (turned c beat.client other))

-- ---- every message

-- what the messages have to show of a master
pub record IsHeardOf (w : WorldState) (s : MasterState) : Type 0 where
  pub fits : FitsMessages w.messages s
  pub named : (at : ℕ) (call : CallMessage) → request_at w.messages at ≡ Some (requests.Call call) → call_of w.messages call.client call.number ≡ Some call
  pub room : is_spent s ≡ false

module _ (c : ℕ) (x : List ℕ) (w : WorldState) (s : MasterState) (knows : IsKnown w s) (heard_of : IsHeardOf w s) where
  replies : (note : Option HandleNote) (client number : ℕ) (result : CallResult) → Comes c x w s (replied (with_note s note) client number result).0 (replied (with_note s note) client number result).1.outs
  replies None client number result = call_replied c x w s s.handles client number result
  replies (Some note) client number result = call_replied c x w s (with_state s.handles note.key note.state) client number result

  queues : (note : Option HandleNote) (message : CallMessage) (touched : Option TouchedNames) → s.recovering ≡ false → Comes c x w s (waits (with_note s note) message touched).0 []
  queues None message touched serving = call_waits c x w s knows s.handles message touched serving
  queues (Some note) message touched serving = call_waits c x w s knows (with_state s.handles note.key note.state) message touched serving

  cachable_here : (note : Option HandleNote) (client : ℕ) (name : List ℕ) → is_cachable (with_note s note) client name ≡ is_cachable s client name
  cachable_here None client name = refl
  cachable_here (Some note) client name = refl

  grants : (at : ℕ) (request : Request) (note : Option HandleNote) (message : CallMessage) (answer : CallResult) (name : List ℕ) → request_at w.messages at ≡ Some request → IsHeard s request message → s.recovering ≡ false → IsGranted s message note answer name
      → Comes c x w s (granting (with_note s note) message.client message.number answer name).0 (granting (with_note s note) message.client message.number answer name).1.outs
  grants at request note message answer name sent heard serving granted = by_note note is_granting
    where
      tells : (name_asked s.secret message.call ≡ Some name) × (shown_by answer ≡ view_at s.nodes name)
      tells = told_is_shown s message.client message.number message.call message.sequencer name answer granted.is_told granted.is_answer

      is_granting : IsGranting w s message.client message.number message answer name
      is_granting = record {
        live = heard.live;
        serving = serving;
        cachable = sym (cachable_here note message.client name) ∙ granted.cachable;
        room = heard_of.room;
        found = heard_of.named at message (sent ∙ ap (λ r. Some r) heard.is_call);
        asks = tells.0;
        shows = tells.1;
      }

      by_note : (o : Option HandleNote) → IsGranting w s message.client message.number message answer name → Comes c x w s (granting (with_note s o) message.client message.number answer name).0 (granting (with_note s o) message.client message.number answer name).1.outs
      by_note None g = call_granted w s knows s.handles message.client message.number message answer name g c x
      by_note (Some put) g = call_granted w s knows (with_state s.handles put.key put.state) message.client message.number message answer name g c x

  repeats : (client : ℕ) (kept : LastCall Reply) (o : Option Reply) → kept_of s client ≡ Some kept → kept.reply ≡ o → Comes c x w s s (repeated_reply o).outs
  repeats client kept None is replied_so = comes_unseen c x w s s [] refl refl refl refl refl refl refl refl
  repeats client kept (Some reply) is replied_so =
      reply_again c x w s client kept.number reply (heard_of.fits.replies client kept reply is replied_so) (subst (λ (z : List ℕ). HasGranted w.messages z client reply) knows.secret (subst (λ (q : ℕ). HasGranted w.messages s.secret q reply) (heard_of.fits.replies client kept reply is replied_so).to (heard_of.fits.answers client kept reply is replied_so).granted))

  take_by : (at : ℕ) (request : Request) (case : TakeCase s request) → request_at w.messages at ≡ Some request → Comes c x w s (taken_by s request case).0 (taken_by s request case).1.outs
  take_by at request (StartQueued start is may serving room) sent =
      start_comes x w s knows start c (beat_sent start.client w.messages at (requests.Start start) (start_beat x w s knows start) (sent ∙ ap (λ r. Some r) is) (λ beats. first_in (start.client == start.client) (start_beat x w s knows start) beats (same_test start.client start.client refl)))
  take_by at request (BeatParked beat is same taken) sent =
      beat_comes x w s knows beat c (beat_sent beat.client w.messages at (requests.Beat beat) (as_beat x w s knows beat) (sent ∙ ap (λ r. Some r) is) (λ beats. first_in (beat.client == beat.client) (as_beat x w s knows beat) beats (same_test beat.client beat.client refl))) same taken
  take_by at request (LeftBefore message kept request_is same_epoch ended is same) sent = repeats message.client kept kept.reply is refl
  take_by at request (Repeated message kept heard is same) sent = repeats message.client kept kept.reply is refl
  take_by at request (LeavesBeside message heard beside) sent = queues None message None beside.serving
  take_by at request (Recovering message new recovering) sent = replies None message.client message.number (results.Refused faults.Recovering)
  take_by at request (Answered message note answer new serving answered) sent = replies note message.client message.number answer
  take_by at request (Granted message note answer name new serving granted) sent = grants at request note message answer name sent new.heard serving granted
  take_by at request (Waits message note touched new serving admitted) sent = queues note message touched serving
  take_by at request case sent = comes_unseen c x w s s (taken_by s request case).1.outs refl refl refl refl refl refl refl refl

-- the world after the step
abbrev pub behind_take : (w : WorldState) (s : MasterState) (request : Request) → TakeCase (noted s w.clock) request → WorldState
behind_take w s request case = record w { master = Some (taken_by (noted s w.clock) request case).0; messages = w.messages ++ map ToClient (taken_by (noted s w.clock) request case).1.outs }

heard_then : (w : WorldState) (s : MasterState) → IsHeardOf w s → IsHeardOf w (noted s w.clock)
heard_then w s heard_of = record {
  fits = record { queue = heard_of.fits.queue; kept = heard_of.fits.kept; replies = heard_of.fits.replies; answers = heard_of.fits.answers; turns = heard_of.fits.turns };
  named = heard_of.named;
  room = heard_of.room;
}

module _ (c : ℕ) (x : List ℕ) (w : WorldState) (s : MasterState) (at : ℕ) (request : Request) (case : TakeCase (noted s w.clock) request) where
  pub take_leads : w.master ≡ Some s → s.clock ≤ w.clock → IsKept w.cell w.rows s → IsHeardOf w s → request_at w.messages at ≡ Some request → LeadsTo c x w (behind_take w s request case)
  take_leads up early kept heard_of sent =
      let led = take_by c x w (noted s w.clock) (known w s kept early) (heard_then w s heard_of) at request case sent in
      (led.0, with_master c x w s led.0 (slice c x (behind_take w s request case)) up led.1)

  pub reached_stays_at_take : w.master ≡ Some s → s.clock ≤ w.clock → IsKept w.cell w.rows s → IsHeardOf w s → request_at w.messages at ≡ Some request → Reached (slice c x w) → Reached (slice c x (behind_take w s request case))
  reached_stays_at_take up early kept heard_of sent reached = reached_stays c x w (behind_take w s request case) (take_leads up early kept heard_of sent) reached
