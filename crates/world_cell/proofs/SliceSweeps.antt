-- To each client, and of each name, what a sweep of the master is.
use Rattle.std.proofs.Common.{◌≡◌, ◌≢◌, ℕ, ◌+◌, ◌-◌, ◌<◌, ◌≤◌, Bool, true, false, cond, max, List, [], ◌∷◌, ◌++◌, map, Option, Some, None, inl, inr, arith, refl, sym, ap, ◌∙◌, subst}
use Rattle.std.specs.Prelude.{◌⊎◌, ◌==◌, ◌&&◌, ◌||◌, not, nat_lt, nat_le, fold, All}
use Rattle.std.specs.Option.{option_map, option_and_then}
use Rattle.std.specs.List.{list_any}
use Rattle.std.specs.Map.{lookup}
use Rattle.std.specs.BTreeMap.{is_at, insert_entry}
use Rattle.std.specs.Ordering.{nat_cmp}
use Rattle.std.specs.Cmp.{nat_cmp_total}
use Rattle.std.specs.Str.{bytes_eq}
use Rattle.std.proofs.lemmas.Bool.Decides.{nat_tests}
use Rattle.coherence.specs.Slice as one
use Rattle.coherence.specs.Slice.{IsIn, Event, KeepReceipts, Admit, SendOffer, Apply, Expire, EndRecovery, Live, Reached}
use Rattle.node_core.specs.declared.refusals.Fault.TheVariants as faults
use Rattle.node_core.specs.declared.views.Mod.{Mod}
use Rattle.node_core.specs.declared.views.Mod.TheVariants.{Put, Gone}
use Rattle.node_core.specs.Nodes.{view_at, changed, touched}
use Rattle.rows_cell.specs.declared.tables.SessionRow as of_rows
use Rattle.rows_cell.specs.declared.tables.Rows.{Rows}
use Rattle.rows_cell.specs.declared.tables.Edit.TheVariants.{NextInstance, PutSession}
use Rattle.rows_cell.specs.Rows.{changed_rows, map_of}
use Rattle.rows_cell.specs.LockRows.{LockChange, locks_edits}
use Rattle.collections.proofs.OneKey.{lookup_removed, lookup_removed_apart}
use Rattle.rows_cell.proofs.RowNodes.{nodes_put, nodes_gone}
use Rattle.rows_cell.proofs.EntriesInOrder.{sorted_put}
use Rattle.tags_cell.specs.declared.messages.outs.Out.{Out}
use Rattle.tags_cell.specs.declared.messages.outs.CallResult.{CallResult}
use Rattle.tags_cell.specs.declared.messages.outs.CallResult.TheVariants as results
use Rattle.tags_cell.specs.declared.messages.outs.Reply.{Reply}
use Rattle.tags_cell.specs.declared.messages.calls.Call.{Call}
use Rattle.rights_core.specs.declared.endings.Ending.TheVariants as endings
use Rattle.rights_core.specs.Rights.{holds, invalidations_of}
use Rattle.rights_core.specs.Laws.{asked_for, number_or_0}
use Rattle.session_core.specs.declared.records.Parked.{Parked}
use Rattle.session_core.specs.declared.records.Session.{Session}
use Rattle.session_core.specs.Session as of_session
use Rattle.session_core.specs.Session.{events_of, session_until, prolonged, answered, keeping, has_heard, offer_to}
use Rattle.session_core.specs.Sessions.{SessionTable, with_session, with_new, all_heard, session_of as session_in}
use Rattle.session_core.proofs.OneClient.{lookup_put, lookup_put_apart, other_session}
use Rattle.gate_core.specs.declared.pending.Waiting.{Waiting}
use Rattle.gate_core.specs.Gate.{touches, push_answer}
use Rattle.gate_core.specs.Laws.{touching}
use Rattle.master_state.specs.declared.updates.Change.{Change}
use Rattle.master_parts.specs.declared.handles.HandleNote.{HandleNote}
use Rattle.master_parts.specs.declared.pending.WaitingRequest.{WaitingRequest}
use Rattle.master_parts.specs.declared.pending.Orphan.{Orphan}
use Rattle.master_parts.specs.declared.pending.Task.{Task}
use Rattle.master_parts.specs.declared.pending.Task.TheVariants as tasks
use Rattle.master_parts.specs.declared.pending.Work.TheVariants as works
use Rattle.lock_core.specs.declared.turns.Turn.{Turn}
use Rattle.lock_core.specs.Turns.{reopened}
use Rattle.lock_core.specs.Locks.{lock_at}
use Rattle.master_state.specs.declared.updates.LockPut.{LockPut}
use Rattle.master_state.specs.NameSpace.{name_space, caller}
use Rattle.master_state.specs.State.{MasterState}
use Rattle.master_parts.specs.StoredSessions.{row_of}
use Rattle.master_state.specs.Lookups.{session_of, noted, reply_of, turned_away, IsUnused, retiring}
use Rattle.master_parts.specs.Answered.{answered_by}
use Rattle.cell_core.specs.Step.{names_of, touched_by}
use Rattle.cell_core.specs.Names.{call_touched, names_touched}
use Rattle.cell_core.specs.Ephemerals.{is_ok, spared_for}
use Rattle.master_state.specs.Updates.{edit_of, retired, retire_edits, with_kept_put, with_locks, without_lock, lock_changes}
use Rattle.client_core.specs.Invalidations.{last_number}
use Rattle.cell_core.specs.Effect.{effect}
use Rattle.over_core.specs.Plans.{started_out, alive_out, invalidations_for}
use Rattle.master_state.specs.Replies.{sent, kept_puts, replies_to, turn_replies, puts_of}
use Rattle.cell_core.specs.Outcomes.{left_put}
use Rattle.master_state.specs.Lapses.{lapses_of, lapses_puts, lapses_replies}
use Rattle.over_core.specs.SweepCase.{IsNextApplied, IsDueToEnd, IsDue, SweepCase, rest, ended, mapped, told, parted, relocking, gone_change, gone_replies, swept_by, swept_edits, left_reply}
use Rattle.over_core.specs.SweepCase.SweepCase.{Quiet, Recovers, Expires, Reopens, Tidies, Spared, Tidied, AnswersBeat, TurnedAway, StartedAgain, Started, OfEnded, Ended, Applied, Deleted, Locked, Awaited, Left, Departed}
use Rattle.over_core.specs.Kept.{IsKept}
use Rattle.over_core.proofs.SweepCases.{action_tellings}
use Rattle.over_core.proofs.Retired.{IsGone, by_retiring, other_begins, not_below, at_least, above_least}
use Rattle.over_core.proofs.Touching.{change_is_touched}
use Rattle.over_core.proofs.Unacknowledged.{IsAskedFor, each_is_asked, asked_is_named}
use Rattle.world_steps.specs.declared.mail.Message.TheVariants.{ToClient}
use Rattle.world_steps.specs.World.{WorldState, member_of}
use Rattle.world_cell.specs.Slices.{Shown, slice, standing_so, standing_late, standing_of, is_late, standing_in, parked_list, seen_of, heard_from, right_of, put_start, start_of, starts_of, beats_of, name_number, put_offer, offers_of, grants_of, client_of}
use Rattle.world_cell.proofs.RelockedRows.{IsBeside, HasRow, let_go, relocked_rows}
use Rattle.world_cell.proofs.LockReplies.{AreUnstamped, waiters_unstamped, application_unstamped, lapses_unstamped, replies_offer_none, replies_grant_none, told_lease, told_seen}
use Rattle.world_cell.proofs.SliceCalls.{tidy_asks}
use Rattle.world_cell.proofs.SliceTicks.{late_not_live}
use Rattle.world_cell.proofs.SliceRights.{no_right, unowned_right, right_of_another, freed_right, expiry_frees, leave_frees, given_back_right}
use Rattle.world_cell.proofs.WorldCases.{swept_master}
use Rattle.world_cell.proofs.ToldSweeps.{told_goes}
use Rattle.world_cell.proofs.ViewsStay.{view_stays}
use Rattle.world_cell.proofs.SweptNames.{touching_less, free_of_holders, all_at, last_is_issued, named_number}
use Rattle.world_cell.proofs.Slices.{LeadsTo, reached_stays, by_test, is_same, is_other, same_test, in_front, in_back, in_either, all_found, beats_stay, grants_then, grants_more, offers_more, UpParts, AreSame, here, there, Goes, goes, goes_unseen, standing_kept, lookup_rows, with_found, is_found, with_master, lease_stays, seen_stays, own_found, IsKnown, known, first_of, none_more}
use Rattle.tags_cell.specs.Messages.{is_leave}
use Rattle.tags_cell.specs.declared.messages.calls.Call.TheVariants as calls
use Rattle.lock_core.specs.declared.partings.Parting.TheVariants as partings
use Rattle.lock_core.specs.declared.turns.Lapse.{Lapse}
use Rattle.tags_cell.specs.Handles.{read_handle}
use Rattle.tags_cell.specs.declared.handles.Handle.{Handle}
use Rattle.over_core.specs.declared.actions.Action.{Action}

-- ---- what leaves the gate

drop_in : (c : ℕ) (front back : List (Waiting Task)) (x : Waiting Task) (r : one.Receipt) → IsIn r (starts_of c (front ++ back)) → IsIn r (starts_of c (front ++ x ∷ back))
drop_in c [] back x r i = in_back r (start_of c x.change.body) (starts_of c back) i
drop_in c (y ∷ front) back x r i = elim (in_either r (start_of c y.change.body) (starts_of c (front ++ back)) i) [
  | inl k ↦ in_front r (start_of c y.change.body) (starts_of c (front ++ x ∷ back)) k
  | inr k ↦ in_back r (start_of c y.change.body) (starts_of c (front ++ x ∷ back)) (drop_in c front back x r k)
]

application_in : (c : ℕ) (front back : List (Waiting Task)) (x : Waiting Task) (r : one.Receipt) → IsIn r (start_of c x.change.body) → IsIn r (starts_of c (front ++ x ∷ back))
application_in c [] back x r i = in_front r (start_of c x.change.body) (starts_of c back) i
application_in c (y ∷ front) back x r i = in_back r (start_of c y.change.body) (starts_of c (front ++ x ∷ back)) (application_in c front back x r i)

not_empty : (front back : List (Waiting Task)) (x : Waiting Task) → front ++ x ∷ back ≡ [] → ⊥
not_empty [] back x h = cc
not_empty (y ∷ front) back x h = cc

-- ---- what becomes of the rows

-- with a change of the map
record IsMapped (rows new : Rows) (change : Mod) : Type 0 where
  sessions : new.sessions ≡ rows.sessions
  secret : new.secret ≡ rows.secret
  epoch : new.epoch ≡ rows.epoch
  ended_below : new.ended_below ≡ rows.ended_below
  map : map_of new ≡ changed (map_of rows) change

mapped_rows : (rows : Rows) (change : Mod) (next : ℕ) → IsMapped rows (changed_rows rows (edit_of change ∷ NextInstance next ∷ [])) change
mapped_rows rows (Put name view) next = record { sessions = refl; secret = refl; epoch = refl; ended_below = refl; map = nodes_put rows.nodes name view }
mapped_rows rows (Gone name) next = record { sessions = refl; secret = refl; epoch = refl; ended_below = refl; map = nodes_gone rows.nodes name }

pub standing_by : (c : ℕ) (old rows : Rows) (sessions : List (ℕ × of_rows.SessionRow)) → rows.ended_below ≡ old.ended_below → rows.sessions ≡ sessions → standing_in rows c ≡ standing_of (is_late old c) (lookup (is_at (nat_cmp c)) sessions)
standing_by c old rows sessions ended is =
    ap (λ es. standing_of (is_late rows c) (lookup (is_at (nat_cmp c)) es)) is ∙ ap (λ n. standing_of (nat_lt c n) (lookup (is_at (nat_cmp c)) sessions)) ended

-- ---- who was heard from

beaten_if_heard : (live : Bool) (acknowledged newest : ℕ) → (not live || nat_le 1 acknowledged) ≡ true → (1 ≤ acknowledged → 1 ≤ newest) → live ≡ true → nat_le 1 newest ≡ true
beaten_if_heard true acknowledged newest heard by_beat live = grind (arith, nat_tests, heard, by_beat)
beaten_if_heard false acknowledged newest heard by_beat live = cc

heard_both : (live beaten_once recovering : Bool) → (live ≡ true → beaten_once ≡ true) → (live && (not false || beaten_once)) ≡ (live && (not recovering || beaten_once))
heard_both false beaten_once recovering h = refl
heard_both true true true h = refl
heard_both true true false h = refl
heard_both true false recovering h = let e : false ≡ true = h refl in cc

live_heard : (live beaten_once recovering : Bool) → (live ≡ true → beaten_once ≡ true) → standing_so live ≡ Live → (live && (not recovering || beaten_once)) ≡ true
live_heard true true true h k = refl
live_heard true true false h k = refl
live_heard true false recovering h k = let e : false ≡ true = h refl in cc
live_heard false beaten_once recovering h k = cc

any_number : (n : ℕ) → 0 ≤ n
any_number n = omega arith

twice : (n : ℕ) → n ≡ max n n
twice n = omega arith

turned : (a b : ℕ) → (a == b) ≡ false → (b == a) ≡ false
turned a b e = grind (arith, nat_tests, e)

-- where a node is to go the master serves
is_serving : (recovering long_ago room : Bool) (o : Option Orphan) (idle : Orphan) → cond (not recovering && long_ago && room) o None ≡ Some idle → recovering ≡ false
is_serving true long_ago room o idle h = cc
is_serving false long_ago room o idle h = refl

-- ---- who goes

ended_not_live : (live : Bool) → live ≡ false → standing_so live ≡ Live → ⊥
ended_not_live true h k = cc
ended_not_live false h k = cc

not_alive : (late : Bool) (found : Option (Session Reply)) → (seen_of found).live ≡ false → standing_of late (option_map row_of found) ≡ Live → ⊥
not_alive late None ended live = late_not_live late live
not_alive late (Some session) ended live = ended_not_live session.live ended live

pub one_goes : (client q : ℕ) → Some client ≡ Some q → client ≡ q
one_goes client q is = cc

pub is_below : (a b : ℕ) → a < b → nat_lt a b ≡ true
is_below a b h = grind (arith, nat_tests, h)

pub below_next : (a n : ℕ) → n < max a (n + 1)
below_next a n = omega arith

-- ---- every sweep

any_positive : (n : ℕ) → 0 < n + 1
any_positive n = omega arith

one_less : (n : ℕ) → n ≡ n + 1 - 1
one_less n = omega arith

no_more : (n : ℕ) → n + 0 ≡ n
no_more n = omega arith

not_touched : (touched : List (List ℕ)) (x : List ℕ) → touched ≡ [] → list_any (bytes_eq x) touched ≡ false
not_touched touched x none = ap (list_any (bytes_eq x)) none

-- a call that ends a session touches no name
no_name_in : (secret : List ℕ) (o : Option Handle) → names_of (option_and_then (λ handle. touched_by handle calls.Leave) o) ≡ []
no_name_in secret None = refl
no_name_in secret (Some handle) = refl

leave_names : (secret : List ℕ) (call : Call) → is_leave call ≡ true → names_of (call_touched secret call) ≡ []
leave_names secret calls.Leave h = no_name_in secret (read_handle secret [])
leave_names secret call h = cc

-- the client whose call to end its session has its turn serves nothing any more
abbrev pub LeavesOff : List ℕ → WorldState → MasterState → Type 0
LeavesOff x w s = (front back : List (Waiting Task)) (asked : WaitingRequest) (call : Call) (sequencer : Option (List ℕ)) → IsNextApplied s front (tasks.Asked asked) back → asked.work ≡ works.Calls call sequencer → is_leave call ≡ true → (client_of x (member_of w asked.client)).off ≡ true

module _ (x : List ℕ) (w : WorldState) (s : MasterState) (knows : IsKnown w s) where
  -- of the messages that are sent, none offers a lease, and none grants the name
  record IsSilent (c : ℕ) (sent : List Out) : Type 0 where
    offers : fold (put_offer c x) (offers_of c x w.messages) (map ToClient sent) ≡ offers_of c x w.messages
    grants : grants_then c x w.rows.secret w.messages sent ≡ grants_of c x w.rows.secret w.messages

  nothing_sent : (c : ℕ) → IsSilent c []
  nothing_sent c = record { offers = refl; grants = refl }

  replies_silent : (c : ℕ) (replies : List Reply) → AreUnstamped replies → IsSilent c (sent replies)
  replies_silent c replies unstamped = record {
    offers = replies_offer_none c x (offers_of c x w.messages) replies;
    grants = replies_grant_none c x w.rows.secret (record { before = w.messages; grants = grants_of c x w.rows.secret w.messages }) replies unstamped;
  }

  -- the master after a sweep, by what is seen of each part
  behind : (c : ℕ) (rows : Rows) (t : MasterState) (sent : List Out) (q : UpParts)
      → view_at (map_of rows) x ≡ q.present → standing_in rows c ≡ q.session → rows.epoch ≡ q.epoch → rows.secret ≡ w.rows.secret → t.sessions.lease ≡ q.lease → t.recovering ≡ q.recovering → seen_of (session_of t c) ≡ q.seen → starts_of c t.gate.waiting ≡ q.starts → heard_from q.recovering q.seen ≡ q.heard → right_of c x t.rights ≡ q.right → touching x t.gate.waiting ≡ q.pending
      → beats_of c w.messages ≡ q.beats → fold (put_offer c x) (offers_of c x w.messages) (map ToClient sent) ≡ q.offers → grants_then c x w.rows.secret w.messages sent ≡ q.grants → AreSame (there c x w rows t sent) q
  behind c rows t sent q is_present is_session is_epoch is_secret is_lease is_recovering is_seen is_starts is_heard is_right is_pending is_beats is_offers is_grants = record {
    present = is_present;
    session = is_session;
    epoch = is_epoch;
    lease = is_lease;
    recovering = is_recovering;
    seen = is_seen;
    starts = is_starts;
    heard = ap (λ b. heard_from b (seen_of (session_of t c))) is_recovering ∙ ap (heard_from q.recovering) is_seen ∙ is_heard;
    right = is_right;
    pending = is_pending;
    beats = beats_stay c w.messages sent ∙ is_beats;
    offers = offers_more c x w.messages sent ∙ is_offers;
    grants = ap (λ z. grants_of c x z (w.messages ++ map ToClient sent)) is_secret ∙ grants_more c x w.rows.secret w.messages sent ∙ is_grants;
  }

  -- ---- nothing but its rows changes

  unseen_behind : (c : ℕ) (rows : Rows) (t : MasterState) (sent : List Out) → IsBeside w.rows rows → standing_in rows c ≡ standing_in w.rows c → t.sessions.lease ≡ s.sessions.lease → t.recovering ≡ s.recovering → seen_of (session_of t c) ≡ seen_of (session_of s c) → t.gate.waiting ≡ s.gate.waiting → right_of c x t.rights ≡ right_of c x s.rights
      → fold (put_offer c x) (offers_of c x w.messages) (map ToClient sent) ≡ offers_of c x w.messages → grants_then c x w.rows.secret w.messages sent ≡ grants_of c x w.rows.secret w.messages → Goes c x w s rows t sent
  unseen_behind c rows t sent beside is_session is_lease is_recovering is_seen is_waiting is_right is_offers is_grants = goes_unseen c x w s rows t sent
      (behind c rows t sent (here c x w s) (ap (λ m. view_at m x) beside.map) is_session beside.epoch beside.secret is_lease is_recovering is_seen (ap (starts_of c) is_waiting) refl is_right (ap (touching x) is_waiting) refl is_offers is_grants)

  same_rows : IsBeside w.rows w.rows
  same_rows = record { map = refl; secret = refl; epoch = refl; ended_below = refl }

  -- ---- a recovery ends

  heard_of : (c : ℕ) (session : Session Reply) → all_heard s.sessions ≡ true → session_of s c ≡ Some session → session.live ≡ true → nat_le 1 session.newest_beat ≡ true
  heard_of c session heard found = beaten_if_heard session.live (events_of session).acknowledged session.newest_beat (all_found c (λ entry. has_heard entry.1) s.sessions.sessions session heard found) (knows.by_beats c session found)

  recovers_by : (c : ℕ) (found : Option (Session Reply)) → session_of s c ≡ found → (standing_of (is_late w.rows c) (option_map row_of found) ≡ Live → heard_from s.recovering (seen_of found) ≡ true) → heard_from false (seen_of found) ≡ heard_from s.recovering (seen_of found) → Goes c x w s w.rows (record s { recovering = false; serving_from = s.clock }) []
  recovers_by c found is heard same =
      let p : UpParts = with_found c x w s found in
      let q : UpParts = record p { recovering = false } in
      goes c x w s w.rows (record s { recovering = false; serving_from = s.clock }) [] (EndRecovery ∷ []) p q (is_found c x w s found knows.sessions knows.epoch is)
      (behind c w.rows (record s { recovering = false; serving_from = s.clock }) [] q refl (standing_kept c x w s knows.sessions ∙ ap (λ o. standing_of (is_late w.rows c) (option_map row_of o)) is) (sym knows.epoch) refl refl refl (ap seen_of is) refl same refl refl refl refl refl)
      (record { allowed = record { first = record { up = refl; heard_from = heard }; rest = tt }; leads_there = refl })

  recovers : (c : ℕ) (found : Option (Session Reply)) → session_of s c ≡ found → all_heard s.sessions ≡ true → Goes c x w s w.rows (record s { recovering = false; serving_from = s.clock }) []
  recovers c None found heard = recovers_by c None found (λ live. absurd (late_not_live (is_late w.rows c) live)) refl
  recovers c (Some session) found heard = recovers_by c (Some session) found
      (live_heard session.live (nat_le 1 session.newest_beat) s.recovering (heard_of c session heard found))
      (heard_both session.live (nat_le 1 session.newest_beat) s.recovering (heard_of c session heard found))

  -- ---- a session expires

  module _ (client : ℕ) (session : Session Reply) (due : IsDueToEnd s client session) where
    abbrev ended_row : of_rows.SessionRow
    ended_row = record { principal = session.principal; live = false }

    abbrev changes : List LockChange
    changes = lock_changes s (lapses_puts s (lapses_of partings.Expiry s client))

    abbrev ended_rows : Rows
    ended_rows = changed_rows w.rows (locks_edits changes ++ PutSession client ended_row ∷ [])

    -- to those that waited for its locks
    abbrev answers : List Reply
    answers = lapses_replies s (lapses_of partings.Expiry s client)

    abbrev without_session : MasterState
    without_session = told (with_locks (parted partings.Expiry s client) (lapses_puts s (lapses_of partings.Expiry s client))) answers

    has_row : HasRow w.rows ended_rows client ended_row
    has_row = let_go w.rows changes client ended_row

    silent_expiry : (c : ℕ) → IsSilent c (sent answers)
    silent_expiry c = replies_silent c answers (lapses_unstamped s (lapses_of partings.Expiry s client))

    own_expiry : Goes client x w s ended_rows without_session (sent answers)
    own_expiry =
        let p : UpParts = with_found client x w s (Some session) in
        let q : UpParts = record p { session = one.Ended; seen = seen_of (Some (of_session.ended session)); heard = false; right = freed_right (right_of client x s.rights) } in
        goes client x w s ended_rows without_session (sent answers) (Expire ∷ []) p q (is_found client x w s (Some session) knows.sessions knows.epoch due.found)
        (behind client ended_rows without_session (sent answers) q
        (ap (λ m. view_at m x) has_row.beside.map)
        (standing_by client w.rows ended_rows (insert_entry nat_cmp w.rows.sessions client ended_row) has_row.beside.ended_below has_row.sessions ∙ ap (standing_of (is_late w.rows client)) (lookup_put client w.rows.sessions ended_row))
        (has_row.beside.epoch ∙ sym knows.epoch)
        has_row.beside.secret
        (told_lease (with_session s.sessions client of_session.ended) (kept_puts answers) ∙ lease_stays s.sessions client of_session.ended)
        refl
        (told_seen (with_session s.sessions client of_session.ended) (kept_puts answers) client ∙ ap seen_of (own_found of_session.ended s.sessions client session due.found))
        refl refl
        (expiry_frees client x s.rights knows.recorded)
        refl refl (silent_expiry client).offers (silent_expiry client).grants)
        (record { allowed = record { first = record { up = refl; live = ap standing_so due.live; over = subst (λ (z : ℕ). session.timeout ≤ z) knows.clock due.over }; rest = tt }; leads_there = refl })

    other_expiry : (c : ℕ) → (c == client) ≡ false → Goes c x w s ended_rows without_session (sent answers)
    other_expiry c other = unseen_behind c ended_rows without_session (sent answers) has_row.beside
        (standing_by c w.rows ended_rows (insert_entry nat_cmp w.rows.sessions client ended_row) has_row.beside.ended_below has_row.sessions ∙ ap (standing_of (is_late w.rows c)) (lookup_put_apart client c (is_other c client other) w.rows.sessions ended_row))
        (told_lease (with_session s.sessions client of_session.ended) (kept_puts answers) ∙ lease_stays s.sessions client of_session.ended)
        refl
        (told_seen (with_session s.sessions client of_session.ended) (kept_puts answers) c ∙ ap seen_of (other_session s.sessions client of_session.ended c (is_other c client other)))
        refl
        (right_of_another client c x s.rights knows.recorded endings.Expiry (turned c client other))
        (silent_expiry c).offers (silent_expiry c).grants

  -- ---- a lock is open again

  reopens : (c instance : ℕ) → Goes c x w s (changed_rows w.rows (relocking s (puts_of s instance (reopened (lock_at s.locks instance)).lock)))
      (told (with_locks s (puts_of s instance (reopened (lock_at s.locks instance)).lock)) (turn_replies s (reopened (lock_at s.locks instance)))) (sent (turn_replies s (reopened (lock_at s.locks instance))))
  reopens c instance =
      let turn : Turn = reopened (lock_at s.locks instance) in
      let answers : List Reply = turn_replies s turn in
      let changes : List LockChange = lock_changes s (puts_of s instance turn.lock) in
      let relocked = relocked_rows w.rows changes in
      let silent = replies_silent c answers (application_unstamped s turn) in
      unseen_behind c (changed_rows w.rows (locks_edits changes)) (told (with_locks s (puts_of s instance turn.lock)) answers) (sent answers) relocked.beside
      (standing_by c w.rows (changed_rows w.rows (locks_edits changes)) w.rows.sessions relocked.beside.ended_below relocked.sessions)
      (told_lease s.sessions (kept_puts answers))
      refl
      (told_seen s.sessions (kept_puts answers) c)
      refl refl silent.offers silent.grants

  -- ---- a Beat is answered

  module _ (client : ℕ) (session : Session Reply) (beat : Parked) (due : IsDue s client session beat) where
    abbrev lease : ℕ
    lease = s.sessions.lease

    abbrev with_beat : Session Reply
    with_beat = record session { parked = Some beat }

    abbrev without_beat : Session Reply
    without_beat = of_session.unparked s.clock with_beat

    abbrev answers_beat : MasterState
    answers_beat = record s { sessions = with_session s.sessions client (answered lease s.clock) }

    abbrev alive : List Out
    alive = alive_out s client (offer_to lease s.clock beat) ∷ []

    abbrev beat_receipt : one.Receipt
    beat_receipt = record { number = beat.number; moment = beat.received }

    abbrev last : ℕ
    last = last_number 0 (invalidations_for s client)

    abbrev of_name : ℕ
    of_name = name_number x (invalidations_for s client)

    abbrev beat_offer : ℕ → one.Offer
    beat_offer now = record { epoch = s.epoch; number = beat.number; span = of_session.offered_span lease beat.received now; last_invalidation = last; name_invalidation = of_name }

    found_with_beat : session_of s client ≡ Some with_beat
    found_with_beat = due.found ∙ ap (λ p. Some (record session { parked = p })) due.is_parked

    found_answered : session_of answers_beat client ≡ Some (prolonged (w.clock + lease) without_beat)
    found_answered =
        own_found (answered lease s.clock) s.sessions client session due.found
        ∙ ap (λ p. Some (answered lease s.clock (record session { parked = p }))) due.is_parked
        ∙ ap (λ now. Some (prolonged (now + lease) without_beat)) knows.clock

    -- an answer that goes as far as the name's invalidation carries it
    carried : (asked : Option ℕ) → asked_for client x s.rights ≡ asked → (number_or_0 asked ≡ 0) ⊎ ((last < number_or_0 asked) ⊎ (of_name ≡ number_or_0 asked))
    carried None is = inl refl
    carried (Some number) is =
        let named = asked_is_named s client number x knows.recorded is in
        let all = each_is_asked s client knows.recorded in
        let here = named_number client number x s.rights named.0 named.1 (subst (All (IsAskedFor client s.rights)) named.2 all) is in
        inr (inr (ap (name_number x) named.2 ∙ here))

    abbrev answer_events : List (Event Shown)
    answer_events = SendOffer beat_receipt last of_name ∷ KeepReceipts (starts_of client s.gate.waiting) ∷ []

    own_answer : Goes client x w s w.rows answers_beat alive
    own_answer =
        let p : UpParts = with_found client x w s (Some with_beat) in
        let q : UpParts = record p { seen = seen_of (Some (prolonged (w.clock + lease) without_beat)); offers = beat_offer w.clock ∷ offers_of client x w.messages } in
        goes client x w s w.rows answers_beat alive answer_events p q (is_found client x w s (Some with_beat) knows.sessions knows.epoch found_with_beat)
        (behind client w.rows answers_beat alive q
        refl
        (standing_kept client x w s knows.sessions ∙ ap (λ o. standing_of (is_late w.rows client) (option_map row_of o)) due.found)
        (sym knows.epoch)
        refl
        (lease_stays s.sessions client (answered lease s.clock))
        refl
        (ap seen_of found_answered)
        refl refl refl refl refl
        (first_of (client == client) (beat_offer s.clock) (offers_of client x w.messages) (same_test client client refl) ∙ ap (λ now. beat_offer now ∷ offers_of client x w.messages) knows.clock)
        refl)
        (record {
          allowed = record {
            first = record { up = refl; live = ap standing_so due.live; received = inl refl; issued = last_is_issued client s.rights (invalidations_for s client) (each_is_asked s client knows.recorded); carried = carried (asked_for client x s.rights) refl };
            rest = record { first = λ r i. inr i; rest = tt };
          };
          leads_there = refl;
        })

    other_answer : (c : ℕ) → (c == client) ≡ false → Goes c x w s w.rows answers_beat alive
    other_answer c other = unseen_behind c w.rows answers_beat alive same_rows refl
        (lease_stays s.sessions client (answered lease s.clock))
        refl
        (ap seen_of (other_session s.sessions client (answered lease s.clock) c (is_other c client other)))
        refl refl
        (none_more (c == client) (record { epoch = s.epoch; number = beat.number; span = of_session.offered_span lease beat.received s.clock; last_invalidation = last; name_invalidation = of_name }) (offers_of c x w.messages) other)
        refl

  -- ---- a change has its turn

  module _ (front back : List (Waiting Task)) (task : Task) (turn : IsNextApplied s front task back) where
    abbrev pub at_application : Waiting Task
    at_application = record { number = turn.number; change = record { touched = turn.touched; body = task } }

    -- it touches the names that it may change
    pub touched_is : turn.touched ≡ names_touched s.secret task
    touched_is = all_at (λ (w : Waiting Task). w.change.touched ≡ names_touched s.secret w.change.body) front at_application back (subst (All (λ (w : Waiting Task). w.change.touched ≡ names_touched s.secret w.change.body)) turn.waited knows.touching)

    -- it touches all that a change touches which it names
    pub untouched : (change : Mod) → turn.touched ≡ touched (map_of w.rows) change → touches x at_application ≡ false → list_any (bytes_eq x) (touched (map_of w.rows) change) ≡ false
    untouched change named apart = ap (list_any (bytes_eq x)) (sym named) ∙ apart

    pub pending_by : (b : Bool) → touches x at_application ≡ b → touching x s.gate.waiting ≡ touching x (front ++ back) + cond b 1 0
    pending_by b t = ap (touching x) turn.waited ∙ touching_less x front at_application back ∙ ap (λ (z : Bool). touching x (front ++ back) + cond z 1 0) t

    pending_stays : touches x at_application ≡ false → touching x s.gate.waiting ≡ touching x (front ++ back)
    pending_stays t = pending_by false t ∙ no_more (touching x (front ++ back))

    -- of the receipts, that of a Start whose turn it was goes at most
    rest_kept : (c : ℕ) (receipts : List one.Receipt) (r : one.Receipt) → IsIn r (receipts ++ starts_of c (front ++ back)) → IsIn r (receipts ++ starts_of c s.gate.waiting)
    rest_kept c receipts r i = elim (in_either r receipts (starts_of c (front ++ back)) i) [
      | inl k ↦ in_front r receipts (starts_of c s.gate.waiting) k
      | inr k ↦ in_back r receipts (starts_of c s.gate.waiting) (subst (λ (ws : List (Waiting Task)). IsIn r (starts_of c ws)) (sym turn.waited) (drop_in c front back at_application r k))
    ]

    -- what is after a turn that begins no session
    record IsRest (c : ℕ) (rows : Rows) (t : MasterState) (sent : List Out) : Type 0 where
      present : touches x at_application ≡ false → view_at (map_of rows) x ≡ view_at (map_of w.rows) x
      session : standing_in rows c ≡ standing_in w.rows c
      secret : rows.secret ≡ w.rows.secret
      epoch : rows.epoch ≡ w.rows.epoch
      lease : t.sessions.lease ≡ s.sessions.lease
      recovering : t.recovering ≡ s.recovering
      seen : seen_of (session_of t c) ≡ seen_of (session_of s c)
      right : t.rights ≡ s.rights
      waiting : t.gate.waiting ≡ front ++ back
      silent : IsSilent c sent

    abbrev own_parked : ℕ → List one.Receipt
    own_parked c = (seen_of (session_of s c)).parked

    -- it is in nobody's way of the name
    passes_by : (c : ℕ) (rows : Rows) (t : MasterState) (sent : List Out) → IsRest c rows t sent → touches x at_application ≡ false → Goes c x w s rows t sent
    passes_by c rows t sent r apart =
        let p : UpParts = record (here c x w s) { pending = touching x (front ++ back) } in
        let q : UpParts = record p { starts = starts_of c (front ++ back) } in
        goes c x w s rows t sent (KeepReceipts (own_parked c ++ starts_of c (front ++ back)) ∷ []) p q
        (record { present = refl; session = refl; epoch = refl; lease = refl; recovering = refl; seen = refl; starts = refl; heard = refl; right = refl; pending = pending_stays apart; beats = refl; offers = refl; grants = refl })
        (behind c rows t sent q (r.present apart) r.session r.epoch r.secret r.lease r.recovering r.seen (ap (starts_of c) r.waiting) refl (ap (right_of c x) r.right) (ap (touching x) r.waiting) refl r.silent.offers r.silent.grants)
        (record { allowed = record { first = rest_kept c (own_parked c); rest = tt }; leads_there = refl })

    -- what the name shows then
    applies : (c : ℕ) (rows : Rows) (t : MasterState) (sent : List Out) → IsRest c rows t sent → touches x at_application ≡ true → Goes c x w s rows t sent
    applies c rows t sent r touched =
        let none : holds c x s.rights ≡ false = free_of_holders s.rights at_application c x turn.free touched in
        let p : UpParts = record (here c x w s) { right = record (right_of c x s.rights) { held = false }; pending = touching x (front ++ back) + 1 } in
        let q : UpParts = record p { present = view_at (map_of rows) x; starts = starts_of c (front ++ back); pending = touching x (front ++ back) + 1 - 1 } in
        let right : right_of c x s.rights ≡ record (right_of c x s.rights) { held = false } = ap (λ (held : Bool). record (right_of c x s.rights) { held = held }) none in
        goes c x w s rows t sent (KeepReceipts (own_parked c ++ starts_of c (front ++ back)) ∷ Apply (view_at (map_of rows) x) ∷ []) p q
        (record { present = refl; session = refl; epoch = refl; lease = refl; recovering = refl; seen = refl; starts = refl; heard = refl; right = right; pending = pending_by true touched; beats = refl; offers = refl; grants = refl })
        (behind c rows t sent q refl r.session r.epoch r.secret r.lease r.recovering r.seen (ap (starts_of c) r.waiting) refl (ap (right_of c x) r.right ∙ right) (ap (touching x) r.waiting ∙ one_less (touching x (front ++ back))) refl r.silent.offers r.silent.grants)
        (record { allowed = record { first = rest_kept c (own_parked c); rest = record { first = record { up = refl; pending = any_positive (touching x (front ++ back)); free = refl }; rest = tt } }; leads_there = refl })

    leaves : (c : ℕ) (rows : Rows) (t : MasterState) (sent : List Out) → IsRest c rows t sent → Goes c x w s rows t sent
    leaves c rows t sent r = by_test (touches x at_application) (applies c rows t sent r) (passes_by c rows t sent r)

    -- the rows of a turn
    pub record HasRows (c : ℕ) (rows : Rows) : Type 0 where
      pub present : touches x at_application ≡ false → view_at (map_of rows) x ≡ view_at (map_of w.rows) x
      pub session : standing_in rows c ≡ standing_in w.rows c
      pub secret : rows.secret ≡ w.rows.secret
      pub epoch : rows.epoch ≡ w.rows.epoch

    -- turns that end in nothing but what is sent

    plain_rest : (c : ℕ) (sent : List Out) → IsSilent c sent → IsRest c w.rows (rest s front back) sent
    plain_rest c sent silent = record { present = λ apart. refl; session = refl; secret = refl; epoch = refl; lease = refl; recovering = refl; seen = refl; right = refl; waiting = refl; silent = silent }

    plain_rows : (c : ℕ) → HasRows c w.rows
    plain_rows c = record { present = λ apart. refl; session = refl; secret = refl; epoch = refl }

    pub mapped_rows_of : (c : ℕ) (change : Change) → (touches x at_application ≡ false → list_any (bytes_eq x) (touched (map_of w.rows) change.change) ≡ false) → HasRows c (changed_rows w.rows (edit_of change.change ∷ NextInstance change.next_instance ∷ []))
    mapped_rows_of c change other =
        let rows = changed_rows w.rows (edit_of change.change ∷ NextInstance change.next_instance ∷ []) in
        let m = mapped_rows w.rows change.change change.next_instance in
        record {
          present = λ apart. ap (λ nodes. view_at nodes x) m.map ∙ view_stays (map_of w.rows) change.change x knows.in_order (other apart);
          session = standing_by c w.rows rows w.rows.sessions m.ended_below m.sessions;
          secret = m.secret;
          epoch = m.epoch;
        }

    relocked_rows_of : (c : ℕ) (puts : List LockPut) → HasRows c (changed_rows w.rows (relocking s puts))
    relocked_rows_of c puts =
        let rows = changed_rows w.rows (relocking s puts) in
        let r = relocked_rows w.rows (lock_changes s puts) in
        record {
          present = λ apart. ap (λ nodes. view_at nodes x) r.beside.map;
          session = standing_by c w.rows rows w.rows.sessions r.beside.ended_below r.sessions;
          secret = r.beside.secret;
          epoch = r.beside.epoch;
        }

    -- a call that waits for a lock leaves the gate
    awaits : (c : ℕ) (puts : List LockPut) → Goes c x w s (changed_rows w.rows (relocking s puts)) (with_locks (rest s front back) puts) []
    awaits c puts =
        let r = relocked_rows_of c puts in
        leaves c (changed_rows w.rows (relocking s puts)) (with_locks (rest s front back) puts) []
        (record { present = r.present; session = r.session; secret = r.secret; epoch = r.epoch; lease = refl; recovering = refl; seen = refl; right = refl; waiting = refl; silent = nothing_sent c })

  -- ---- a client ends its session

  module _ (front back : List (Waiting Task)) (asked : WaitingRequest) (turn : IsNextApplied s front (tasks.Asked asked) back) (call : Call) (sequencer : Option (List ℕ)) (session : Session Reply) (work : asked.work ≡ works.Calls call sequencer) (leave : is_leave call ≡ true) (found : session_of s asked.client ≡ Some session) (live : session.live ≡ true) where
    abbrev left_row : of_rows.SessionRow
    left_row = record { principal = session.principal; live = false }

    abbrev left_lapses : List Lapse
    left_lapses = lapses_of partings.Leave s asked.client

    abbrev left_changes : List LockChange
    left_changes = lock_changes s (lapses_puts s left_lapses)

    abbrev left_rows : Rows
    left_rows = changed_rows w.rows (locks_edits left_changes ++ PutSession asked.client left_row ∷ [])

    -- to itself, and to those that waited for its locks
    abbrev left_answers : List Reply
    left_answers = left_reply s asked ∷ lapses_replies s left_lapses

    abbrev left_master : MasterState
    left_master = told (with_locks (parted partings.Leave (rest s front back) asked.client) (lapses_puts s left_lapses)) left_answers

    left_is : HasRow w.rows left_rows asked.client left_row
    left_is = let_go w.rows left_changes asked.client left_row

    silent_leave : (c : ℕ) → IsSilent c (sent left_answers)
    silent_leave c = replies_silent c left_answers (refl, lapses_unstamped s left_lapses)

    -- it touches no name
    leave_touches : touches x (at_application front back (tasks.Asked asked) turn) ≡ false
    leave_touches = not_touched turn.touched x (touched_is front back (tasks.Asked asked) turn ∙ ap (λ z. names_touched s.secret (tasks.Asked (record asked { work = z }))) work ∙ leave_names s.secret call leave)

    left_lease : left_master.sessions.lease ≡ s.sessions.lease
    left_lease = told_lease (with_session s.sessions asked.client of_session.ended) (kept_puts left_answers) ∙ lease_stays s.sessions asked.client of_session.ended

    own_leave : (client_of x (member_of w asked.client)).off ≡ true → Goes asked.client x w s left_rows left_master (sent left_answers)
    own_leave off =
        let c = asked.client in
        let f : UpParts = with_found c x w s (Some session) in
        let p : UpParts = record f { pending = touching x (front ++ back) } in
        let q : UpParts = record p { session = one.Ended; seen = seen_of (Some (of_session.ended session)); starts = starts_of c (front ++ back); heard = false; right = given_back_right (right_of c x s.rights) } in
        let h = is_found c x w s (Some session) knows.sessions knows.epoch found in
        goes c x w s left_rows left_master (sent left_answers) (KeepReceipts (parked_list session.parked ++ starts_of c (front ++ back)) ∷ one.Leave ∷ []) p q
        (record { present = h.present; session = h.session; epoch = h.epoch; lease = h.lease; recovering = h.recovering; seen = h.seen; starts = h.starts; heard = h.heard; right = h.right; pending = pending_stays front back (tasks.Asked asked) turn leave_touches; beats = h.beats; offers = h.offers; grants = h.grants })
        (behind c left_rows left_master (sent left_answers) q
        (ap (λ m. view_at m x) left_is.beside.map)
        (standing_by c w.rows left_rows (insert_entry nat_cmp w.rows.sessions c left_row) left_is.beside.ended_below left_is.sessions ∙ ap (standing_of (is_late w.rows c)) (lookup_put c w.rows.sessions left_row))
        (left_is.beside.epoch ∙ sym knows.epoch)
        left_is.beside.secret
        left_lease
        refl
        (told_seen (with_session s.sessions c of_session.ended) (kept_puts left_answers) c ∙ ap seen_of (own_found of_session.ended s.sessions c session found))
        refl refl
        (leave_frees c x s.rights knows.recorded)
        refl refl (silent_leave c).offers (silent_leave c).grants)
        (record {
          allowed = record { first = rest_kept front back (tasks.Asked asked) turn c (parked_list session.parked); rest = record { first = record { up = refl; live = ap standing_so live; off = off }; rest = tt } };
          leads_there = refl;
        })

    other_leave : (c : ℕ) → (c == asked.client) ≡ false → Goes c x w s left_rows left_master (sent left_answers)
    other_leave c other =
        let p : UpParts = record (here c x w s) { pending = touching x (front ++ back) } in
        let q : UpParts = record p { starts = starts_of c (front ++ back) } in
        goes c x w s left_rows left_master (sent left_answers) (KeepReceipts (own_parked front back (tasks.Asked asked) turn c ++ starts_of c (front ++ back)) ∷ []) p q
        (record { present = refl; session = refl; epoch = refl; lease = refl; recovering = refl; seen = refl; starts = refl; heard = refl; right = refl; pending = pending_stays front back (tasks.Asked asked) turn leave_touches; beats = refl; offers = refl; grants = refl })
        (behind c left_rows left_master (sent left_answers) q
        (ap (λ m. view_at m x) left_is.beside.map)
        (standing_by c w.rows left_rows (insert_entry nat_cmp w.rows.sessions asked.client left_row) left_is.beside.ended_below left_is.sessions ∙ ap (standing_of (is_late w.rows c)) (lookup_put_apart asked.client c (is_other c asked.client other) w.rows.sessions left_row))
        left_is.beside.epoch
        left_is.beside.secret
        left_lease
        refl
        (told_seen (with_session s.sessions asked.client of_session.ended) (kept_puts left_answers) c ∙ ap seen_of (other_session s.sessions asked.client of_session.ended c (is_other c asked.client other)))
        refl refl
        (right_of_another asked.client c x s.rights knows.recorded endings.Leave (turned c asked.client other))
        refl refl (silent_leave c).offers (silent_leave c).grants)
        (record { allowed = record { first = rest_kept front back (tasks.Asked asked) turn c (own_parked front back (tasks.Asked asked) turn c); rest = tt }; leads_there = refl })

  -- ---- a node goes by itself

  module _ (front back : List (Waiting Task)) (idle : Orphan) (turn : IsNextApplied s front (tasks.Tidies idle) back) where
    spared : (c : ℕ) → Goes c x w s w.rows (rest s front back) []
    spared c = leaves front back (tasks.Tidies idle) turn c w.rows (rest s front back) [] (plain_rest front back (tasks.Tidies idle) turn c [] (nothing_sent c))

    abbrev gone_rows : Rows
    gone_rows = changed_rows w.rows (edit_of (Gone idle.name) ∷ NextInstance s.next_instance ∷ [])

    abbrev without_node : MasterState
    without_node = without_lock (told (mapped (rest s front back) (gone_change s idle)) (gone_replies s idle)) (Some idle.instance)

    tidied_so : (c : ℕ) → Goes c x w s gone_rows without_node (sent (gone_replies s idle))
    tidied_so c =
        let r = mapped_rows_of front back (tasks.Tidies idle) turn c (gone_change s idle) (untouched front back (tasks.Tidies idle) turn (Gone idle.name) (touched_is front back (tasks.Tidies idle) turn)) in
        leaves front back (tasks.Tidies idle) turn c gone_rows without_node (sent (gone_replies s idle)) (record {
          present = r.present;
          session = r.session;
          secret = r.secret;
          epoch = r.epoch;
          lease = told_lease s.sessions (kept_puts (gone_replies s idle));
          recovering = refl;
          seen = told_seen s.sessions (kept_puts (gone_replies s idle)) c;
          right = refl;
          waiting = refl;
          silent = replies_silent c (gone_replies s idle) (waiters_unstamped s (results.Refused faults.StaleInstance) (lock_at s.locks idle.instance).waiters);
        })

  -- ---- what a client asked for has its turn

  module _ (front back : List (Waiting Task)) (asked : WaitingRequest) (turn : IsNextApplied s front (tasks.Asked asked) back) where
    -- ---- a call's turn, with its reply

    abbrev reply_at : ℕ → CallResult → Reply
    reply_at epoch answer = record { client = asked.client; epoch = epoch; number = asked.number; stamp = None; result = answer }

    abbrev replied_sessions : MasterState → CallResult → List Reply → SessionTable Reply
    replied_sessions t answer others = fold with_kept_put (with_session t.sessions asked.client (keeping (answered_by (reply_of t asked.client asked.number answer)))) (kept_puts others)

    replied_lease : (t : MasterState) (answer : CallResult) (others : List Reply) → t.sessions ≡ s.sessions → (replied_sessions t answer others).lease ≡ s.sessions.lease
    replied_lease t answer others same =
        told_lease (with_session t.sessions asked.client (keeping (answered_by (reply_of t asked.client asked.number answer)))) (kept_puts others)
        ∙ lease_stays t.sessions asked.client (keeping (answered_by (reply_of t asked.client asked.number answer))) ∙ ap (λ x. x.lease) same

    replied_seen : (c : ℕ) (t : MasterState) (answer : CallResult) (others : List Reply) → t.sessions ≡ s.sessions → seen_of (session_in (replied_sessions t answer others) c) ≡ seen_of (session_of s c)
    replied_seen c t answer others same =
        told_seen (with_session t.sessions asked.client (keeping (answered_by (reply_of t asked.client asked.number answer)))) (kept_puts others) c
        ∙ seen_stays (keeping (answered_by (reply_of t asked.client asked.number answer))) (λ session. refl) t.sessions asked.client c ∙ ap (λ x. seen_of (session_in x c)) same

    replies : (c : ℕ) (rows : Rows) (t : MasterState) (note : Option HandleNote) (answer : CallResult) (others : List Reply) → HasRows front back (tasks.Asked asked) turn c rows → AreUnstamped others → t.sessions ≡ s.sessions → t.recovering ≡ s.recovering → t.rights ≡ s.rights → t.gate.waiting ≡ front ++ back → (epoch : ℕ)
        → Goes c x w s rows (told (ended t asked note answer) others) (sent (reply_at epoch answer ∷ others))
    replies c rows t None answer others r unstamped same is_recovering is_right is_rest epoch = leaves front back (tasks.Asked asked) turn c rows (told (ended t asked None answer) others) (sent (reply_at epoch answer ∷ others)) (record {
      present = r.present;
      session = r.session;
      secret = r.secret;
      epoch = r.epoch;
      lease = replied_lease t answer others same;
      recovering = is_recovering;
      seen = replied_seen c t answer others same;
      right = is_right;
      waiting = is_rest;
      silent = replies_silent c (reply_at epoch answer ∷ others) (refl, unstamped);
    })
    replies c rows t (Some note) answer others r unstamped same is_recovering is_right is_rest epoch = leaves front back (tasks.Asked asked) turn c rows (told (ended t asked (Some note) answer) others) (sent (reply_at epoch answer ∷ others)) (record {
      present = r.present;
      session = r.session;
      secret = r.secret;
      epoch = r.epoch;
      lease = replied_lease t answer others same;
      recovering = is_recovering;
      seen = replied_seen c t answer others same;
      right = is_right;
      waiting = is_rest;
      silent = replies_silent c (reply_at epoch answer ∷ others) (refl, unstamped);
    })

    -- ---- a Start's turn

    module _ (principal : List ℕ) (received : ℕ) (work : asked.work ≡ works.Starts principal received) where
      abbrev span_from : ℕ → ℕ
      span_from now = of_session.offered_span s.sessions.lease received now

      abbrev start_receipt : one.Receipt
      start_receipt = record { number = asked.number; moment = received }

      abbrev start_offer : ℕ → one.Offer
      start_offer now = record { epoch = s.epoch; number = asked.number; span = span_from now; last_invalidation = 0; name_invalidation = 0 }

      abbrev granted : List Out
      granted = started_out s asked.client asked.number received ∷ []

      -- it touches no name
      no_name : touches x (at_application front back (tasks.Asked asked) turn) ≡ false
      no_name = not_touched turn.touched x (touched_is front back (tasks.Asked asked) turn ∙ ap (λ z. names_touched s.secret (tasks.Asked (record asked { work = z }))) work)

      abbrev start_parts : UpParts → UpParts
      start_parts parts = record parts { pending = touching x (front ++ back) }

      start_same : (p : UpParts) → AreSame (here asked.client x w s) p → touching x s.gate.waiting ≡ p.pending → AreSame (here asked.client x w s) (start_parts p)
      start_same p h same = record {
        present = h.present;
        session = h.session;
        epoch = h.epoch;
        lease = h.lease;
        recovering = h.recovering;
        seen = h.seen;
        starts = h.starts;
        heard = h.heard;
        right = h.right;
        pending = pending_stays front back (tasks.Asked asked) turn no_name;
        beats = h.beats;
        offers = h.offers;
        grants = h.grants;
      }

      is_start : start_of asked.client (tasks.Asked asked) ≡ start_receipt ∷ []
      is_start = ap (put_start asked.client asked.client asked.number) work ∙ first_of (asked.client == asked.client) start_receipt [] (same_test asked.client asked.client refl)

      was_received : (receipts : List one.Receipt) → IsIn start_receipt (receipts ++ starts_of asked.client s.gate.waiting)
      was_received receipts = in_back start_receipt receipts (starts_of asked.client s.gate.waiting)
          (subst (λ (ws : List (Waiting Task)). IsIn start_receipt (starts_of asked.client ws)) (sym turn.waited)
          (application_in asked.client front back (at_application front back (tasks.Asked asked) turn) start_receipt (subst (IsIn start_receipt) (sym is_start) (inl refl))))

      own_offer : fold (put_offer asked.client x) (offers_of asked.client x w.messages) (map ToClient granted) ≡ start_offer w.clock ∷ offers_of asked.client x w.messages
      own_offer = first_of (asked.client == asked.client) (start_offer s.clock) (offers_of asked.client x w.messages) (same_test asked.client asked.client refl) ∙ ap (λ now. start_offer now ∷ offers_of asked.client x w.messages) knows.clock

      other_offer : (c : ℕ) → (c == asked.client) ≡ false → IsSilent c granted
      other_offer c other = record { offers = none_more (c == asked.client) (start_offer s.clock) (offers_of c x w.messages) other; grants = refl }

      abbrev again : MasterState
      again = rest (record s { sessions = with_session s.sessions asked.client (prolonged (s.clock + s.sessions.lease)) }) front back

      abbrev again_events : Session Reply → List (Event Shown)
      again_events session = SendOffer start_receipt 0 0 ∷ KeepReceipts (parked_list session.parked ++ starts_of asked.client (front ++ back)) ∷ []

      -- an answer to a Start carries no invalidation
      carries_none : (wanted : Option ℕ) → asked_for asked.client x s.rights ≡ wanted → (number_or_0 wanted ≡ 0) ⊎ ((0 < number_or_0 wanted) ⊎ (0 ≡ number_or_0 wanted))
      carries_none wanted is = by_number (number_or_0 wanted)
        where
          by_number : (n : ℕ) → (n ≡ 0) ⊎ ((0 < n) ⊎ (0 ≡ n))
          by_number n = by_test (nat_le n 0) (λ e. inl (grind (arith, nat_tests, e))) (λ e. inr (inl (grind (arith, nat_tests, e))))

      own_again : (session : Session Reply) → session_of s asked.client ≡ Some session → session.live ≡ true → Goes asked.client x w s w.rows again granted
      own_again session found live =
          let p : UpParts = start_parts (with_found asked.client x w s (Some session)) in
          let q : UpParts = record p { seen = seen_of (Some (prolonged (w.clock + s.sessions.lease) session)); starts = starts_of asked.client (front ++ back); offers = start_offer w.clock ∷ offers_of asked.client x w.messages } in
          goes asked.client x w s w.rows again granted (again_events session) p q (start_same (with_found asked.client x w s (Some session)) (is_found asked.client x w s (Some session) knows.sessions knows.epoch found) refl)
          (behind asked.client w.rows again granted q
          refl
          (standing_kept asked.client x w s knows.sessions ∙ ap (λ o. standing_of (is_late w.rows asked.client) (option_map row_of o)) found)
          (sym knows.epoch)
          refl
          (lease_stays s.sessions asked.client (prolonged (s.clock + s.sessions.lease)))
          refl
          (ap seen_of (own_found (prolonged (s.clock + s.sessions.lease)) s.sessions asked.client session found) ∙ ap (λ now. seen_of (Some (prolonged (now + s.sessions.lease) session))) knows.clock)
          refl refl refl refl refl own_offer refl)
          (record {
            allowed = record {
              first = record { up = refl; live = ap standing_so live; received = was_received (parked_list session.parked); issued = any_number (invalidations_of asked.client s.rights); carried = carries_none (asked_for asked.client x s.rights) refl };
              rest = record { first = rest_kept front back (tasks.Asked asked) turn asked.client (parked_list session.parked); rest = tt };
            };
            leads_there = refl;
          })

      other_again : (c : ℕ) → (c == asked.client) ≡ false → Goes c x w s w.rows again granted
      other_again c other = leaves front back (tasks.Asked asked) turn c w.rows again granted (record {
        present = λ apart. refl;
        session = refl;
        secret = refl;
        epoch = refl;
        lease = lease_stays s.sessions asked.client (prolonged (s.clock + s.sessions.lease));
        recovering = refl;
        seen = ap seen_of (other_session s.sessions asked.client (prolonged (s.clock + s.sessions.lease)) c (is_other c asked.client other));
        right = refl;
        waiting = refl;
        silent = other_offer c other;
      })

      -- a new session
      abbrev live_row : of_rows.SessionRow
      live_row = record { principal = principal; live = true }

      -- and one may go
      abbrev begun_rows : Option ℕ → Rows
      begun_rows gone = changed_rows w.rows (PutSession asked.client live_row ∷ retire_edits s.ended_below gone)

      abbrev new_session : Session Reply
      new_session = session_until principal true (s.clock + s.sessions.lease)

      abbrev begun : Option ℕ → MasterState
      begun gone = rest (retired (record s { sessions = with_new s.sessions asked.client new_session }) gone) front back

      abbrev begun_events : List (Event Shown)
      begun_events = Admit ∷ SendOffer start_receipt 0 0 ∷ KeepReceipts (starts_of asked.client (front ++ back)) ∷ []

      abbrev Begins : ℕ → Option ℕ → Type 0
      Begins c gone = Goes c x w s (begun_rows gone) (begun gone) granted

      serves : (recovering : Bool) → s.recovering ≡ recovering → recovering ≡ false
      serves true is = absurd (not_empty front back (at_application front back (tasks.Asked asked) turn) (sym turn.waited ∙ knows.recovery_is_empty is))
      serves false is = refl

      -- a client that may begin one was granted nothing
      unowned : IsUnused s asked.client → right_of asked.client x s.rights ≡ no_right
      unowned none = unowned_right asked.client x s.rights (knows.owned asked.client none.0 none.1)

      record IsSameCell (gone : Option ℕ) : Type 0 where
        map : map_of (begun_rows gone) ≡ map_of w.rows
        secret : (begun_rows gone).secret ≡ w.rows.secret
        epoch : (begun_rows gone).epoch ≡ w.rows.epoch
        lease : (begun gone).sessions.lease ≡ s.sessions.lease

      same_cell : (gone : Option ℕ) → IsSameCell gone
      same_cell None = record { map = refl; secret = refl; epoch = refl; lease = refl }
      same_cell (Some client) = record { map = refl; secret = refl; epoch = refl; lease = refl }

      -- of another one
      abbrev Another : ℕ → Option ℕ → Type 0
      Another c gone = (client : ℕ) → gone ≡ Some client → c ≢ client

      nobody_else : (c : ℕ) → Another c None
      nobody_else c client is = absurd (cc)

      own_row : (gone : Option ℕ) → Another asked.client gone → lookup (is_at (nat_cmp asked.client)) (begun_rows gone).sessions ≡ Some live_row
      own_row None another = lookup_put asked.client w.rows.sessions live_row
      own_row (Some client) another = lookup_removed_apart client asked.client (another client refl) (insert_entry nat_cmp w.rows.sessions asked.client live_row) ∙ lookup_put asked.client w.rows.sessions live_row

      own_new : (gone : Option ℕ) → Another asked.client gone → session_of (begun gone) asked.client ≡ Some new_session
      own_new None another = lookup_put asked.client s.sessions.sessions new_session
      own_new (Some client) another = lookup_removed_apart client asked.client (another client refl) (insert_entry nat_cmp s.sessions.sessions asked.client new_session) ∙ lookup_put asked.client s.sessions.sessions new_session

      other_row : (c : ℕ) → (c == asked.client) ≡ false → (gone : Option ℕ) → Another c gone → lookup (is_at (nat_cmp c)) (begun_rows gone).sessions ≡ lookup (is_at (nat_cmp c)) w.rows.sessions
      other_row c other None another = lookup_put_apart asked.client c (is_other c asked.client other) w.rows.sessions live_row
      other_row c other (Some client) another =
          lookup_removed_apart client c (another client refl) (insert_entry nat_cmp w.rows.sessions asked.client live_row) ∙ lookup_put_apart asked.client c (is_other c asked.client other) w.rows.sessions live_row

      other_found : (c : ℕ) → (c == asked.client) ≡ false → (gone : Option ℕ) → Another c gone → session_of (begun gone) c ≡ session_of s c
      other_found c other None another = lookup_put_apart asked.client c (is_other c asked.client other) s.sessions.sessions new_session
      other_found c other (Some client) another =
          lookup_removed_apart client c (another client refl) (insert_entry nat_cmp s.sessions.sessions asked.client new_session) ∙ lookup_put_apart asked.client c (is_other c asked.client other) s.sessions.sessions new_session

      own_begin : IsUnused s asked.client → (gone : Option ℕ) → Another asked.client gone → Begins asked.client gone
      own_begin none gone another =
          let b = same_cell gone in
          let p : UpParts = record (start_parts (with_found asked.client x w s None)) { session = one.Never; right = no_right } in
          let q : UpParts = record p { session = Live; seen = seen_of (Some (session_until principal true (max (w.clock + s.sessions.lease) (w.clock + s.sessions.lease)))); starts = starts_of asked.client (front ++ back); heard = true; offers = start_offer w.clock ∷ offers_of asked.client x w.messages } in
          let h = start_same (with_found asked.client x w s None) (is_found asked.client x w s None knows.sessions knows.epoch none.0) refl in
          let never : standing_late (is_late w.rows asked.client) ≡ one.Never = ap (λ n. standing_late (nat_lt asked.client n)) (sym knows.ended_below) ∙ ap standing_late none.1 in
          goes asked.client x w s (begun_rows gone) (begun gone) granted begun_events p q
          (record { present = h.present; session = h.session ∙ never; epoch = h.epoch; lease = h.lease; recovering = h.recovering; seen = h.seen; starts = h.starts; heard = h.heard; right = unowned none; pending = h.pending; beats = h.beats; offers = h.offers; grants = h.grants })
          (behind asked.client (begun_rows gone) (begun gone) granted q
          (ap (λ m. view_at m x) b.map)
          (ap (standing_of (is_late (begun_rows gone) asked.client)) (own_row gone another))
          (b.epoch ∙ sym knows.epoch)
          b.secret b.lease refl
          (ap seen_of (own_new gone another)
          ∙ ap (λ now. seen_of (Some (session_until principal true (now + s.sessions.lease)))) knows.clock
          ∙ ap (λ timeout. seen_of (Some (session_until principal true timeout))) (twice (w.clock + s.sessions.lease)))
          refl
          (ap (λ b. not b || false) (serves s.recovering refl))
          (unowned none)
          refl refl own_offer refl)
          (record {
            allowed = record {
              first = record { up = refl; new = refl };
              rest = record {
                first = record { up = refl; live = refl; received = was_received []; issued = any_number 0; carried = inl refl };
                rest = record { first = rest_kept front back (tasks.Asked asked) turn asked.client []; rest = tt };
              };
            };
            leads_there = refl;
          })

      -- of any other client it is as it was
      stays_so : (c : ℕ) → (c == asked.client) ≡ false → (gone : Option ℕ) → standing_in (begun_rows gone) c ≡ standing_in w.rows c → Another c gone → Begins c gone
      stays_so c other gone session another =
          let b = same_cell gone in
          leaves front back (tasks.Asked asked) turn c (begun_rows gone) (begun gone) granted (record {
            present = λ apart. ap (λ m. view_at m x) b.map;
            session = session;
            secret = b.secret;
            epoch = b.epoch;
            lease = b.lease;
            recovering = refl;
            seen = ap seen_of (other_found c other gone another);
            right = refl;
            waiting = refl;
            silent = other_offer c other;
          })

      -- or its session isn't known any more, or never begins
      goes_so : (c : ℕ) → (c == asked.client) ≡ false → (gone : Option ℕ) (found : Option (Session Reply)) → session_of s c ≡ found → (seen_of found).live ≡ false → standing_in (begun_rows gone) c ≡ one.Ended → session_of (begun gone) c ≡ None → Begins c gone
      goes_so c other gone found is ended session none =
          let b = same_cell gone in
          let f : UpParts = with_found c x w s found in
          let p : UpParts = record f { heard = false; pending = touching x (front ++ back) } in
          let q : UpParts = record p { session = one.Ended; seen = seen_of None; starts = starts_of c (front ++ back) } in
          let h = is_found c x w s found knows.sessions knows.epoch is in
          let silent = other_offer c other in
          goes c x w s (begun_rows gone) (begun gone) granted (one.Retire ∷ KeepReceipts (starts_of c (front ++ back)) ∷ []) p q
          (record { present = h.present; session = h.session; epoch = h.epoch; lease = h.lease; recovering = h.recovering; seen = h.seen; starts = h.starts; heard = h.heard ∙ ap (λ live. live && (not s.recovering || (seen_of found).beaten)) ended; right = h.right; pending = pending_stays front back (tasks.Asked asked) turn no_name; beats = h.beats; offers = h.offers; grants = h.grants })
          (behind c (begun_rows gone) (begun gone) granted q (ap (λ m. view_at m x) b.map) session (b.epoch ∙ sym knows.epoch) b.secret b.lease refl (ap seen_of none) refl refl refl refl refl silent.offers silent.grants)
          (record {
            allowed = record {
              first = record { up = refl; over = not_alive (is_late w.rows c) found ended };
              rest = record { first = λ r i. rest_kept front back (tasks.Asked asked) turn c (seen_of found).parked r (in_back r (seen_of found).parked (starts_of c (front ++ back)) i); rest = tt };
            };
            leads_there = refl;
          })

      -- the row of any other client
      row_is : (c : ℕ) → lookup (is_at (nat_cmp c)) w.rows.sessions ≡ option_map row_of (session_of s c)
      row_is c = ap (λ es. lookup (is_at (nat_cmp c)) es) (sym knows.sessions) ∙ lookup_rows row_of (is_at (nat_cmp c)) s.sessions.sessions

      standing_then : (c : ℕ) → (c == asked.client) ≡ false → (gone : Option ℕ) → Another c gone → (found : Option (Session Reply)) → session_of s c ≡ found → standing_in (begun_rows gone) c ≡ standing_of (is_late (begun_rows gone) c) (option_map row_of found)
      standing_then c other gone another found is =
          ap (standing_of (is_late (begun_rows gone) c)) (other_row c other gone another ∙ row_is c ∙ ap (option_map row_of) is)

      standing_now : (c : ℕ) (found : Option (Session Reply)) → session_of s c ≡ found → standing_in w.rows c ≡ standing_of (is_late w.rows c) (option_map row_of found)
      standing_now c found is = ap (standing_of (is_late w.rows c)) (row_is c ∙ ap (option_map row_of) is)

      -- another client, where one goes
      other_retired : (c : ℕ) → (c == asked.client) ≡ false → (client : ℕ) → Another c (Some client) → (found : Option (Session Reply)) → session_of s c ≡ found → Begins c (Some client)
      other_retired c other client another (Some session) is =
          stays_so c other (Some client) (standing_then c other (Some client) another (Some session) is ∙ sym (standing_now c (Some session) is)) another
      other_retired c other client another None is =
          let now = standing_then c other (Some client) another None is in
          by_test (is_late (begun_rows (Some client)) c)
          (λ late. goes_so c other (Some client) None is refl (now ∙ ap standing_late late) (other_found c other (Some client) another ∙ is))
          (λ early.
          let soon : is_late w.rows c ≡ false = ap (λ n. nat_lt c n) (sym knows.ended_below) ∙ at_least c s.ended_below (above_least c s.ended_below client (not_below c (max s.ended_below (client + 1)) early)) in
          stays_so c other (Some client) (now ∙ ap standing_late early ∙ sym (standing_now c None is ∙ ap standing_late soon)) another)

      -- and the one that goes
      own_retired : (client : ℕ) → (client == asked.client) ≡ false → IsGone s client → Begins client (Some client)
      own_retired client other gone =
          let entries = insert_entry nat_cmp w.rows.sessions asked.client live_row in
          let sessions = insert_entry nat_cmp s.sessions.sessions asked.client new_session in
          goes_so client other (Some client) (Some gone.session) gone.found gone.ended
          (ap (standing_of (is_late (begun_rows (Some client)) client)) (lookup_removed client entries (sorted_put nat_cmp nat_cmp_total w.rows.sessions asked.client live_row knows.rows_ordered)) ∙ ap standing_late (is_below client (max s.ended_below (client + 1)) (below_next s.ended_below client)))
          (lookup_removed client sessions (sorted_put nat_cmp nat_cmp_total s.sessions.sessions asked.client new_session knows.ordered))

      other_begin : (c : ℕ) → (c == asked.client) ≡ false → Begins c (retiring s)
      other_begin c other = by_retiring s (Begins c)
          (stays_so c other None (ap (standing_of (is_late w.rows c)) (other_row c other None (nobody_else c))) (nobody_else c))
          (λ client gone. by_test (c == client)
          (λ own. subst (λ (z : ℕ). Begins z (Some client)) (sym (is_same c client own)) (own_retired client (subst (λ (z : ℕ). (z == asked.client) ≡ false) (is_same c client own) other) gone))
          (λ apart. other_retired c other client (λ q is. subst (λ (z : ℕ). c ≢ z) (one_goes client q is) (is_other c client apart)) (session_of s c) refl))

      begins : IsUnused s asked.client → Begins asked.client (retiring s)
      begins none = by_retiring s (Begins asked.client)
          (own_begin none None (nobody_else asked.client))
          (λ client gone. own_begin none (Some client) (λ q is same. other_begins s client asked.client gone none.0 (one_goes client q is ∙ sym same)))

    -- the rows of a call that changes the map
    pub changed_rows_of : (c : ℕ) (call : Call) (sequencer : Option (List ℕ)) (change : Change) → asked.work ≡ works.Calls call sequencer → (effect (name_space s) (caller s asked.client) s.clock asked.number call sequencer).change ≡ Some change → HasRows front back (tasks.Asked asked) turn c (changed_rows w.rows (edit_of change.change ∷ NextInstance change.next_instance ∷ []))
    changed_rows_of c call sequencer change work made =
        let named : names_of (call_touched s.secret call) ≡ touched s.nodes change.change = change_is_touched s asked.client asked.number call sequencer change made in
        let touches_it : turn.touched ≡ touched (map_of w.rows) change.change =
        touched_is front back (tasks.Asked asked) turn ∙ ap (λ z. names_touched s.secret (tasks.Asked (record asked { work = z }))) work ∙ named ∙ ap (λ nodes. touched nodes change.change) knows.nodes in
        mapped_rows_of front back (tasks.Asked asked) turn c change (untouched front back (tasks.Asked asked) turn change.change touches_it)

  sweep_by : LeavesOff x w s → (c : ℕ) (case : SweepCase s) → Goes c x w s (changed_rows w.rows (swept_edits s case)) (swept_by s case).0 (swept_by s case).1.outs
  sweep_by off c (Quiet none) = unseen_behind c w.rows s [] same_rows refl refl refl refl refl refl refl refl
  sweep_by off c (Recovers recovering heard) = recovers c (session_of s c) refl heard
  sweep_by off c (Expires client session due) = by_test (c == client)
      (λ own. subst (λ (z : ℕ). Goes z x w s (ended_rows client session due) (without_session client session due) (sent (answers client session due))) (sym (is_same c client own)) (own_expiry client session due))
      (λ other. other_expiry client session due c other)
  sweep_by off c (Reopens instance due) = reopens c instance
  sweep_by off c (Tidies idle due) = tidy_asks c x w s knows idle (is_serving s.recovering (nat_le (s.serving_from + spared_for) s.clock) (is_ok (push_answer s.gate)) _ idle due.first_idle)
  sweep_by off c (Spared front back idle turn held) = spared front back idle turn c
  sweep_by off c (Tidied front back idle turn still) = tidied_so front back idle turn c
  sweep_by off c (AnswersBeat client session beat due) = by_test (c == client)
      (λ own. subst (λ (z : ℕ). Goes z x w s w.rows (answers_beat client session beat due) (alive client session beat due)) (sym (is_same c client own)) (own_answer client session beat due))
      (λ other. other_answer client session beat due c other)
  sweep_by off c (TurnedAway front back asked principal received turn work may) =
      leaves front back (tasks.Asked asked) turn c w.rows (rest s front back) (turned_away s asked.client asked.number faults.NoSession).outs (plain_rest front back (tasks.Asked asked) turn c (turned_away s asked.client asked.number faults.NoSession).outs (record { offers = refl; grants = refl }))
  sweep_by off c (StartedAgain front back asked principal received session turn work found live) = by_test (c == asked.client)
      (λ own. subst (λ (z : ℕ). Goes z x w s w.rows (again front back asked turn principal received work) (granted front back asked turn principal received work)) (sym (is_same c asked.client own)) (own_again front back asked turn principal received work session found live))
      (λ other. other_again front back asked turn principal received work c other)
  sweep_by off c (Started front back asked principal received turn work none) = by_test (c == asked.client)
      (λ own. subst (λ (z : ℕ). Begins front back asked turn principal received work z (retiring s)) (sym (is_same c asked.client own)) (begins front back asked turn principal received work none))
      (λ other. other_begin front back asked turn principal received work c other)
  sweep_by off c (OfEnded front back asked call sequencer turn work gone) = leaves front back (tasks.Asked asked) turn c w.rows (rest s front back) [] (plain_rest front back (tasks.Asked asked) turn c [] (nothing_sent c))
  sweep_by off c (Departed front back asked call sequencer session turn work leave found live) = by_test (c == asked.client)
      (λ own. subst (λ (z : ℕ). Goes z x w s (left_rows front back asked turn call sequencer session work leave found live) (left_master front back asked turn call sequencer session work leave found live) (sent (left_answers front back asked turn call sequencer session work leave found live))) (sym (is_same c asked.client own))
      (own_leave front back asked turn call sequencer session work leave found live (off front back asked call sequencer turn work leave)))
      (λ other. other_leave front back asked turn call sequencer session work leave found live c other)
  sweep_by off c (Ended front back asked call sequencer note answer turn work stays live made) = replies front back asked turn c w.rows (rest s front back) note answer [] (plain_rows front back (tasks.Asked asked) turn c) tt refl refl refl refl s.epoch
  sweep_by off c (Applied front back asked call sequencer note change answer turn work stays live made) =
      replies front back asked turn c (changed_rows w.rows (edit_of change.change ∷ NextInstance change.next_instance ∷ [])) (mapped (rest s front back) change) note answer []
      (changed_rows_of front back asked turn c call sequencer change work (ap (λ e. e.change) made)) tt refl refl refl refl s.epoch
  sweep_by off c (Deleted front back asked call sequencer change instance waiters answer turn work stays live made) =
      replies front back asked turn c (changed_rows w.rows (edit_of change.change ∷ NextInstance change.next_instance ∷ [])) (mapped (rest s front back) change) None answer (replies_to s (results.Refused faults.StaleInstance) waiters)
      (changed_rows_of front back asked turn c call sequencer change work (ap (λ e. e.change) made)) (waiters_unstamped s (results.Refused faults.StaleInstance) waiters) refl refl refl refl s.epoch
  sweep_by off c (Locked front back asked call sequencer put claim answer turn work stays live made) =
      replies front back asked turn c (changed_rows w.rows (relocking s (put ∷ []))) (with_locks (rest s front back) (put ∷ [])) None answer [] (relocked_rows_of front back (tasks.Asked asked) turn c (put ∷ [])) tt refl refl refl refl s.epoch
  sweep_by off c (Awaited front back asked call sequencer put turn work stays live made) = awaits front back (tasks.Asked asked) turn c (put ∷ [])
  sweep_by off c (Left front back asked call sequencer note leave answer turn work stays live made) =
      replies front back asked turn c (changed_rows w.rows (relocking s (left_put leave ∷ []))) (with_locks (rest s front back) (left_put leave ∷ [])) note answer (turn_replies s leave.turn)
      (relocked_rows_of front back (tasks.Asked asked) turn c (left_put leave ∷ [])) (application_unstamped s leave.turn) refl refl refl refl s.epoch

-- the world after the sweep
abbrev pub behind_sweep : (w : WorldState) (s : MasterState) → SweepCase (noted s w.clock) → Action → WorldState
behind_sweep w s case action = record w {
  rows = changed_rows w.rows (swept_edits (noted s w.clock) case);
  master = Some (swept_master (noted s w.clock) case action);
  messages = w.messages ++ map ToClient (swept_by (noted s w.clock) case).1.outs;
}

module _ (c : ℕ) (x : List ℕ) (w : WorldState) (s : MasterState) (case : SweepCase (noted s w.clock)) (action : Action) where
  pub sweep_leads : w.master ≡ Some s → s.clock ≤ w.clock → IsKept w.cell w.rows s → LeavesOff x w (noted s w.clock) → LeadsTo c x w (behind_sweep w s case action)
  sweep_leads up early kept off =
      let led = told_goes c x w (noted s w.clock) (changed_rows w.rows (swept_edits (noted s w.clock) case)) (swept_by (noted s w.clock) case).0 (swept_by (noted s w.clock) case).1.outs (action_tellings (noted s w.clock) action) (sweep_by x w (noted s w.clock) (known w s kept early) off c case) in
      (led.0, with_master c x w s led.0 (slice c x (behind_sweep w s case action)) up led.1)

  pub reached_stays_at_sweep : w.master ≡ Some s → s.clock ≤ w.clock → IsKept w.cell w.rows s → LeavesOff x w (noted s w.clock) → Reached (slice c x w) → Reached (slice c x (behind_sweep w s case action))
  reached_stays_at_sweep up early kept off reached = reached_stays c x w (behind_sweep w s case action) (sweep_leads up early kept off) reached
