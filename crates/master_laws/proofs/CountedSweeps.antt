-- How many sweeps at one moment aren't quiet at most.
use Rattle.std.proofs.Common.{◌≡◌, ℕ, suc, ◌+◌, ◌<◌, ◌≤◌, List, [], ◌∷◌, ◌++◌, Bool, true, false, cond, Ordering, Less, Equal, Greater, Option, Some, None, length, refl, sym, ap, subst, ◌∙◌, inl, inr, arith}
use Rattle.std.specs.Prelude.{◌*◌, max, not, count_by}
use Rattle.std.specs.Map.{keys_of, values_of, remove_entry}
use Rattle.std.specs.BTreeMap.{is_at, insert_entry}
use Rattle.std.specs.Ordering.{nat_cmp, match_ordering}
use Rattle.std.specs.Cmp.Lexicographic.{slice_cmp}
use Rattle.std.proofs.Math.Nat.{mul-add}
use Rattle.std.proofs.lemmas.List.{length-map}
use Rattle.std.proofs.lemmas.List.Sums.{count_by-le-length}
use Rattle.std.proofs.lemmas.Map.Entries.{length-values_of}
use Rattle.std.proofs.lemmas.Nat.{mul-le}
use Rattle.node_core.specs.Nodes.{Nodes, changed, with_parent}
use Rattle.node_core.specs.declared.views.Mod.{Mod}
use Rattle.node_core.specs.declared.views.Mod.TheVariants.{Put, Gone}
use Rattle.node_core.specs.declared.refusals.Fault.TheVariants as faults
use Rattle.tags_cell.specs.declared.messages.outs.CallResult.{CallResult}
use Rattle.tags_cell.specs.declared.messages.outs.CallResult.TheVariants as results
use Rattle.tags_cell.specs.declared.messages.outs.Reply.{Reply}
use Rattle.gate_core.specs.declared.pending.Waiting.{Waiting}
use Rattle.session_core.specs.declared.records.Session.{Session}
use Rattle.session_core.specs.Session.{prolonged, answered, session_until}
use Rattle.session_core.specs.Session as of_session
use Rattle.session_core.specs.Sessions.{SessionTable, with_session, with_new, without}
use Rattle.session_core.proofs.RowsOfSessions.{rows_of, rows_stay}
use Rattle.session_core.proofs.IssuedBy.{clients_stay_issued}
use Rattle.lock_core.specs.declared.partings.Parting.TheVariants as partings
use Rattle.lock_core.specs.Locks.{lock_at}
use Rattle.lock_core.specs.Turns.{reopened}
use Rattle.rights_core.specs.Rights.{clients_to_ask}
use Rattle.master_parts.specs.declared.handles.HandleNote.{HandleNote}
use Rattle.master_parts.specs.declared.notices.SessionEvent.{SessionEvent}
use Rattle.master_parts.specs.declared.pending.WaitingRequest.{WaitingRequest}
use Rattle.master_parts.specs.declared.pending.Orphan.{Orphan}
use Rattle.master_parts.specs.declared.pending.Task.{Task}
use Rattle.master_parts.specs.declared.pending.Task.TheVariants as tasks
use Rattle.master_state.specs.State.{MasterState}
use Rattle.master_state.specs.Lookups.{noted, reply_of}
use Rattle.master_parts.specs.Answered.{answered_by}
use Rattle.master_state.specs.Lapses.{lapses_of, lapses_puts, lapses_replies}
use Rattle.master_state.specs.Notices.{with_tellings}
use Rattle.master_state.specs.Replies.{kept_puts, puts_of, replies_to, turn_replies}
use Rattle.master_state.specs.Updates.{with_note, with_kept, with_locks, retired}
use Rattle.master_state.specs.declared.updates.KeptPut.{KeptPut}
use Rattle.cell_core.specs.Outcomes.{left_put}
use Rattle.cell_core.specs.Step.{queued, recorded, asking, asking_for}
use Rattle.cell_core.proofs.AskedFor.{asks_only}
use Rattle.over_core.specs.declared.swept.Swept.{Swept}
use Rattle.over_core.specs.SweepCase.{IsNextApplied, SweepCase, rest, ended, mapped, told, parted, left_reply, gone_change, gone_replies, swept_by}
use Rattle.over_core.specs.SweepCase.SweepCase.{Quiet, Recovers, Expires, Departed, AnswersBeat, TurnedAway, StartedAgain, Started, Reopens, Tidies, Spared, Tidied, OfEnded, Ended, Applied, Deleted, Locked, Awaited, Left}
use Rattle.over_core.proofs.KeptBySweeps.{sessions_ordered}
use Rattle.over_core.proofs.Retired.{by_retiring}
use Rattle.over_core.proofs.KeptByTakes.{unnoted}
use Rattle.over_core.proofs.SweepCases.{first_tellings, swept_case}
use Rattle.over_core.proofs.ToldSessions.{clients_told}
use Rattle.master_laws.specs.Settling.{is_asked, asked_left, is_going, own_left, own_limit, SweepsAreCounted}
use Rattle.master_laws.proofs.Counting.{one, count_middle, count_last}
use Rattle.master_laws.proofs.Settled.{stands_behind, sweeps_leave_less}
use Rattle.master_laws.proofs.WorkLeft.{parks, is_over}

-- ---- how long lists are

match_length : {K V : Type 0} (o : Ordering) (k : K) (v : V) (e : K × V) (es put : List (K × V)) → length put ≤ length es + 1 → length (match_ordering o ((k, v) ∷ e ∷ es) ((e.0, v) ∷ es) (e ∷ put)) ≤ length (e ∷ es) + 1
match_length Less k v e es put h = omega arith
match_length Equal k v e es put h = omega arith
match_length Greater k v e es put h = omega (arith, h)

insert_length : {K V : Type 0} (cmp : K → K → Ordering) (es : List (K × V)) (k : K) (v : V) → length (insert_entry cmp es k v) ≤ length es + 1
insert_length cmp [] k v = omega arith
insert_length cmp (e ∷ es) k v = match_length (cmp k e.0) k v e es (insert_entry cmp es k v) (insert_length cmp es k v)

remove_length : {K V : Type 0} (test : K → Bool) (es : List (K × V)) → length (remove_entry test es) ≤ length es
remove_length test [] = omega arith
remove_length test (e ∷ es) = elim (test e.0) as (λ b. length (cond b es (e ∷ remove_entry test es)) ≤ length (e ∷ es)) [
  | true ↦ omega arith
  | false ↦ more (length (remove_entry test es)) (length es) (remove_length test es)
]
  where
    more : (a b : ℕ) → a ≤ b → suc a ≤ suc b
    more a b h = omega (arith, h)

changed_length : (nodes : Nodes) (change : Mod) → length (changed nodes change) ≤ length nodes + 1
changed_length nodes (Put name node) = insert_length (slice_cmp nat_cmp) nodes name node
changed_length nodes (Gone name) = less (length (remove_entry (is_at (slice_cmp nat_cmp name)) nodes)) (length nodes) (remove_length (is_at (slice_cmp nat_cmp name)) nodes)
  where
    less : (a b : ℕ) → a ≤ b → a ≤ b + 1
    less a b h = omega (arith, h)

at_most : (a b c : ℕ) → a ≤ b → b ≤ c → a ≤ c
at_most a b c h k = omega (arith, h, k)

-- as many sessions
abbrev count_of : SessionTable Reply → ℕ
count_of table = length table.sessions

same_rows : (new old : SessionTable Reply) → rows_of (λ (x : Session Reply). true) new.sessions ≡ rows_of (λ (x : Session Reply). true) old.sessions → count_of new ≡ count_of old
same_rows new old same = sym (length-map new.sessions (λ (e : ℕ × Session Reply). (e.0, true))) ∙ ap (λ (es : List (ℕ × Bool)). length es) same ∙ length-map old.sessions (λ (e : ℕ × Session Reply). (e.0, true))

step_count : (s : SessionTable Reply) (client : ℕ) (step : Session Reply → Session Reply) → count_of (with_session s client step) ≡ count_of s
step_count s client step = same_rows (with_session s client step) s (rows_stay (λ (x : Session Reply). true) s client step (λ before. refl))

kept_count : (puts : List KeptPut) (s : MasterState) → count_of (with_kept s puts).sessions ≡ count_of s.sessions
kept_count [] s = refl
kept_count (put ∷ puts) s = kept_count puts (recorded s put.client put.kept) ∙ step_count s.sessions put.client (of_session.keeping put.kept)

of_keys : (new old : SessionTable Reply) → keys_of new.sessions ≡ keys_of old.sessions → count_of new ≡ count_of old
of_keys new old same = sym (length-map new.sessions (λ (e : ℕ × Session Reply). e.0)) ∙ ap (λ (ks : List ℕ). length ks) same ∙ length-map old.sessions (λ (e : ℕ × Session Reply). e.0)

asked_count : (names : List (List ℕ)) (s : MasterState) → count_of (asking_for s names).sessions ≡ count_of s.sessions
asked_count [] s = refl
asked_count (name ∷ names) s = asked_count names (asking s name) ∙ of_keys (asking s name).sessions s.sessions (clients_stay_issued s.sessions (clients_to_ask name s.rights))

told_count : (tellings : List SessionEvent) (s : MasterState) → count_of (with_tellings s tellings).sessions ≡ count_of s.sessions
told_count tellings s = of_keys (with_tellings s tellings).sessions s.sessions (clients_told tellings s.sessions)

note_count : (s : MasterState) (note : Option HandleNote) → count_of (with_note s note).sessions ≡ count_of s.sessions
note_count s note = unnoted (λ x. count_of x.sessions) (λ x n. refl) s note

-- ---- nodes and sessions, each with what may make one more

abbrev asked_now : List (Waiting Task) → ℕ
asked_now waiting = count_by (λ w. is_asked w.change.body) waiting

record IsSized (new s : MasterState) : Type 0 where
  nodes : length new.nodes + asked_now new.gate.waiting ≤ length s.nodes + asked_now s.gate.waiting
  sessions : count_of new.sessions + asked_now new.gate.waiting ≤ count_of s.sessions + asked_now s.gate.waiting

sum_same : (a b c : ℕ) → a ≤ b → a + c ≤ b + c
sum_same a b c h = omega (arith, h)

no_more : (a b : ℕ) → a ≡ b → a ≤ b
no_more a b h = omega (arith, h)

as_sized : (new s : MasterState) → length new.nodes ≤ length s.nodes → count_of new.sessions ≡ count_of s.sessions → asked_now new.gate.waiting ≡ asked_now s.gate.waiting → IsSized new s
as_sized new s nodes sessions waiting = record {
  nodes = sums (length new.nodes) (length s.nodes) (asked_now new.gate.waiting) (asked_now s.gate.waiting) nodes waiting;
  sessions = sums (count_of new.sessions) (count_of s.sessions) (asked_now new.gate.waiting) (asked_now s.gate.waiting) (no_more (count_of new.sessions) (count_of s.sessions) sessions) waiting;
}
  where
    sums : (a b c d : ℕ) → a ≤ b → c ≡ d → a + c ≤ b + d
    sums a b c d h k = omega (arith, h, k)

-- where a change that a client asked for has its turn
turn_sized : (new s : MasterState) (front back : List (Waiting Task)) (asked : WaitingRequest) → IsNextApplied s front (tasks.Asked asked) back → new.gate.waiting ≡ front ++ back → length new.nodes ≤ length s.nodes + 1 → count_of new.sessions ≤ count_of s.sessions + 1 → IsSized new s
turn_sized new s front back asked turn waiting nodes sessions =
    let test : Waiting Task → Bool = λ (w : Waiting Task). is_asked w.change.body in
    let w : Waiting Task = record { number = turn.number; change = record { touched = turn.touched; body = tasks.Asked asked } } in
    let before : asked_now s.gate.waiting ≡ asked_now (front ++ back) + 1 = ap (count_by test) turn.waited ∙ count_middle test front w back in
    let after : asked_now new.gate.waiting ≡ asked_now (front ++ back) = ap (count_by test) waiting in
    record {
      nodes = sums (length new.nodes) (length s.nodes) (asked_now new.gate.waiting) (asked_now (front ++ back)) (asked_now s.gate.waiting) nodes after before;
      sessions = sums (count_of new.sessions) (count_of s.sessions) (asked_now new.gate.waiting) (asked_now (front ++ back)) (asked_now s.gate.waiting) sessions after before;
    }
  where
    sums : (a b c m d : ℕ) → a ≤ b + 1 → c ≡ m → d ≡ m + 1 → a + c ≤ b + d
    sums a b c m d h k l = omega (arith, h, k, l)

one_more : (a b : ℕ) → a ≡ b → a ≤ b + 1
one_more a b h = omega (arith, h)

-- the cell's own deletion has its turn
own_turn : (s : MasterState) (front back : List (Waiting Task)) (idle : Orphan) → IsNextApplied s front (tasks.Tidies idle) back → asked_now (front ++ back) ≡ asked_now s.gate.waiting
own_turn s front back idle turn =
    let test : Waiting Task → Bool = λ (w : Waiting Task). is_asked w.change.body in
    let w : Waiting Task = record { number = turn.number; change = record { touched = turn.touched; body = tasks.Tidies idle } } in
    sym (ap (count_by test) turn.waited ∙ count_middle test front w back ∙ plus_none (count_by test (front ++ back)))
  where
    plus_none : (n : ℕ) → n + 0 ≡ n
    plus_none n = omega arith

module _ (s : MasterState) where
  by_turn : (new : MasterState) (front back : List (Waiting Task)) (asked : WaitingRequest) → IsNextApplied s front (tasks.Asked asked) back → new.gate.waiting ≡ front ++ back → new.nodes ≡ s.nodes → count_of new.sessions ≡ count_of s.sessions → IsSized new s
  by_turn new front back asked turn waiting nodes sessions =
      turn_sized new s front back asked turn waiting (one_more (length new.nodes) (length s.nodes) (ap (λ (ns : Nodes). length ns) nodes)) (one_more (count_of new.sessions) (count_of s.sessions) sessions)

  note_waits : (t : MasterState) (note : Option HandleNote) → (with_note t note).gate.waiting ≡ t.gate.waiting
  note_waits t note = unnoted (λ x. x.gate.waiting) (λ x n. refl) t note

  note_nodes : (t : MasterState) (note : Option HandleNote) → (with_note t note).nodes ≡ t.nodes
  note_nodes t note = unnoted (λ x. x.nodes) (λ x n. refl) t note

  noted_count : (t : MasterState) (note : Option HandleNote) (client : ℕ) (step : Session Reply → Session Reply) → count_of (with_note (record t { sessions = with_session t.sessions client step }) note).sessions ≡ count_of t.sessions
  noted_count t note client step = note_count (record t { sessions = with_session t.sessions client step }) note ∙ step_count t.sessions client step

  ended_count : (r : MasterState) (asked : WaitingRequest) (note : Option HandleNote) (answer : CallResult) → count_of (ended r asked note answer).sessions ≡ count_of r.sessions
  ended_count r asked note answer = noted_count r note asked.client (of_session.keeping (answered_by (reply_of r asked.client asked.number answer)))

  sized_by_case : (c : SweepCase s) → IsSized (swept_by s c).0 s
  sized_by_case (Quiet none) = as_sized s s (no_more (length s.nodes) (length s.nodes) refl) refl refl
  sized_by_case (Recovers recovering heard) = as_sized (record s { recovering = false; serving_from = s.clock }) s (no_more (length s.nodes) (length s.nodes) refl) refl refl
  sized_by_case (Expires client session due) =
      let l = with_locks (parted partings.Expiry s client) (lapses_puts s (lapses_of partings.Expiry s client)) in
      let replies = [] ++ lapses_replies s (lapses_of partings.Expiry s client) in
      as_sized (told l replies) s (no_more (length s.nodes) (length s.nodes) refl) (kept_count (kept_puts replies) l ∙ step_count s.sessions client of_session.ended) refl
  sized_by_case (AnswersBeat client session beat due) = as_sized (record s { sessions = with_session s.sessions client (answered s.sessions.lease s.clock) }) s (no_more (length s.nodes) (length s.nodes) refl) (step_count s.sessions client (answered s.sessions.lease s.clock)) refl
  sized_by_case (TurnedAway front back asked principal received turn work may) = by_turn (rest s front back) front back asked turn refl refl refl
  sized_by_case (StartedAgain front back asked principal received session turn work found live) =
      by_turn (rest (record s { sessions = with_session s.sessions asked.client (prolonged (s.clock + s.sessions.lease)) }) front back) front back asked turn refl refl (step_count s.sessions asked.client (prolonged (s.clock + s.sessions.lease)))
  sized_by_case (Started front back asked principal received turn work none) =
      let new : Session Reply = session_until principal true (s.clock + s.sessions.lease) in
      let begun : SessionTable Reply = with_new s.sessions asked.client new in
      let most : count_of begun ≤ count_of s.sessions + 1 = insert_length nat_cmp s.sessions.sessions asked.client new in
      by_retiring s (λ o. IsSized (rest (retired (record s { sessions = begun }) o) front back) s)
      (turn_sized (rest (record s { sessions = begun }) front back) s front back asked turn refl (one_more (length s.nodes) (length s.nodes) refl) most)
      (λ client gone. turn_sized (rest (retired (record s { sessions = begun }) (Some client)) front back) s front back asked turn refl (one_more (length s.nodes) (length s.nodes) refl)
      (at_most (count_of (without begun client)) (count_of begun) (count_of s.sessions + 1) (remove_length (is_at (nat_cmp client)) begun.sessions) most))
  sized_by_case (Reopens instance due) =
      let l = with_locks s (puts_of s instance (reopened (lock_at s.locks instance)).lock) in
      let replies = turn_replies s (reopened (lock_at s.locks instance)) in
      as_sized (told l replies) s (no_more (length s.nodes) (length s.nodes) refl) (kept_count (kept_puts replies) l) refl
  sized_by_case (Tidies idle due) =
      let names = with_parent idle.name in
      let q = queued s names (tasks.Tidies idle) in
      let w : Waiting Task = record { number = s.gate.pushed + 1; change = record { touched = names; body = tasks.Tidies idle } } in
      let only = asks_only names q in
      as_sized (asking_for q names) s (no_more (length (asking_for q names).nodes) (length s.nodes) (ap (λ (m : MasterState). length m.nodes) only)) (asked_count names q)
      (ap (λ (m : MasterState). asked_now m.gate.waiting) only ∙ count_last (λ w. is_asked w.change.body) s.gate.waiting w ∙ plus_none (asked_now s.gate.waiting))
    where
      plus_none : (n : ℕ) → n + 0 ≡ n
      plus_none n = omega arith
  sized_by_case (Spared front back idle turn held) = as_sized (rest s front back) s (no_more (length s.nodes) (length s.nodes) refl) refl (own_turn s front back idle turn)
  sized_by_case (Tidied front back idle turn still) =
      let m = mapped (rest s front back) (gone_change s idle) in
      as_sized (swept_by s (Tidied front back idle turn still)).0 s (remove_length (is_at (slice_cmp nat_cmp idle.name)) s.nodes) (kept_count (kept_puts (gone_replies s idle)) m) (own_turn s front back idle turn)
  sized_by_case (OfEnded front back asked call sequencer turn work gone) = by_turn (rest s front back) front back asked turn refl refl refl
  sized_by_case (Departed front back asked call sequencer session turn work leave found live) =
      let l = with_locks (parted partings.Leave (rest s front back) asked.client) (lapses_puts s (lapses_of partings.Leave s asked.client)) in
      let replies = left_reply s asked ∷ lapses_replies s (lapses_of partings.Leave s asked.client) in
      by_turn (told l replies) front back asked turn refl refl (kept_count (kept_puts replies) l ∙ step_count s.sessions asked.client of_session.ended)
  sized_by_case (Ended front back asked call sequencer note answer turn work stays live made) =
      let r = rest s front back in
      by_turn (ended r asked note answer) front back asked turn (note_waits (recorded r asked.client _) note) (note_nodes (recorded r asked.client _) note) (ended_count r asked note answer)
  sized_by_case (Applied front back asked call sequencer note change answer turn work stays live made) =
      let r = mapped (rest s front back) change in
      let new = ended r asked note answer in
      turn_sized new s front back asked turn (note_waits (recorded r asked.client _) note)
      (less_then (length new.nodes) (length r.nodes) (length s.nodes) (ap (λ (ns : Nodes). length ns) (note_nodes (recorded r asked.client _) note)) (changed_length s.nodes change.change))
      (one_more (count_of new.sessions) (count_of s.sessions) (ended_count r asked note answer))
    where
      less_then : (a b c : ℕ) → a ≡ b → b ≤ c + 1 → a ≤ c + 1
      less_then a b c h k = omega (arith, h, k)
  sized_by_case (Deleted front back asked call sequencer change instance waiters answer turn work stays live made) =
      let m = mapped (rest s front back) change in
      let e = ended m asked None answer in
      let replies = replies_to s (results.Refused faults.StaleInstance) waiters in
      let new = (swept_by s (Deleted front back asked call sequencer change instance waiters answer turn work stays live made)).0 in
      turn_sized new s front back asked turn refl (changed_length s.nodes change.change) (one_more (count_of new.sessions) (count_of s.sessions) (kept_count (kept_puts replies) e ∙ ended_count m asked None answer))
  sized_by_case (Locked front back asked call sequencer put claim answer turn work stays live made) =
      by_turn (ended (with_locks (rest s front back) (put ∷ [])) asked None answer) front back asked turn refl refl (ended_count (with_locks (rest s front back) (put ∷ [])) asked None answer)
  sized_by_case (Awaited front back asked call sequencer put turn work stays live made) = by_turn (with_locks (rest s front back) (put ∷ [])) front back asked turn refl refl refl
  sized_by_case (Left front back asked call sequencer note leave answer turn work stays live made) =
      let r = with_locks (rest s front back) (left_put leave ∷ []) in
      let e = ended r asked note answer in
      let replies = turn_replies s leave.turn in
      by_turn (told e replies) front back asked turn (note_waits (recorded r asked.client _) note) (note_nodes (recorded r asked.client _) note) (kept_count (kept_puts replies) e ∙ ended_count r asked note answer)

-- ---- the number

most_one : (b : Bool) → one b ≤ 1
most_one true = omega arith
most_one false = omega arith

own_below : (now : ℕ) (s : MasterState) → length s.gate.waiting ≤ 4096 → own_left now s < own_limit s
own_below now s few =
    below (one s.recovering) (count_by (λ w. not (is_asked w.change.body)) s.gate.waiting) (count_by (λ entry. not (is_going s entry)) s.nodes) (count_by (is_over now s) s.nodes) (count_by parks (values_of s.sessions.sessions)) (length s.gate.waiting) (length s.nodes) (length (values_of s.sessions.sessions)) (length s.sessions.sessions) (asked_now s.gate.waiting)
    (most_one s.recovering) (count_by-le-length (λ (w : Waiting Task). not (is_asked w.change.body)) s.gate.waiting) few (count_by-le-length (λ entry. not (is_going s entry)) s.nodes) (count_by-le-length (is_over now s) s.nodes) (count_by-le-length parks (values_of s.sessions.sessions)) (length-values_of s.sessions.sessions)
  where
    below : (r o g d p w n v m a : ℕ) → r ≤ 1 → o ≤ w → w ≤ 4096 → g ≤ n → d ≤ n → p ≤ v → v ≡ m → r + o + 2 * g + d + p < 4098 + 3 * (n + a) + (m + a)
    below r o g d p w n v m a h i j k l t u = omega (arith, h, i, j, k, l, t, u)

limit_less : (n a m b s t : ℕ) → n + a ≤ m + b → s + a ≤ t + b → 4098 + 3 * (n + a) + (s + a) ≤ 4098 + 3 * (m + b) + (t + b)
limit_less n a m b s t h k = omega (arith, h, k)

times_one : (n : ℕ) → n * 1 ≡ n
times_one n = omega arith

sum_less : (p q r c o i : ℕ) → p ≡ q + c → p ≤ r → o < c → q + o < r + i
sum_less p q r c o i h k l = omega (arith, h, k, l)

fewer_asked : (limit left old before own was : ℕ) → left < before → limit ≤ old → own < limit → limit * left + own < old * before + was
fewer_asked limit left old before own was h k l =
    sum_less (limit * (left + 1)) (limit * left) (old * before) limit own was (mul-add limit left 1 ∙ ap (λ n. limit * left + n) (times_one limit)) (mul-le limit (left + 1) old before k (next left before h)) l
  where
    next : (a b : ℕ) → a < b → a + 1 ≤ b
    next a b h = omega (arith, h)

sum_of : (q r o i : ℕ) → q ≤ r → o < i → q + o < r + i
sum_of q r o i h k = omega (arith, h, k)

pub sweeps_are_counted : SweepsAreCounted
sweeps_are_counted cell rows s new now done k h busy =
    let there = noted s now in
    let clock = max s.clock now in
    let c = swept_case s new now done (sessions_ordered cell rows s k) k.orderly h in
    let tellings = first_tellings there in
    let after = (swept_by there c.0).0 in
    let is : new ≡ with_tellings after tellings = ap (λ (p : MasterState × Swept). p.0) c.1 in
    let sized = sized_by_case there c.0 in
    let S : MasterState → Type 0 = λ m. count_of m.sessions + asked_now m.gate.waiting ≤ count_of s.sessions + asked_now s.gate.waiting in
    let N : MasterState → Type 0 = λ m. length m.nodes + asked_now m.gate.waiting ≤ length s.nodes + asked_now s.gate.waiting in
    let T : ℕ → Type 0 = λ n. n + asked_now after.gate.waiting ≤ count_of s.sessions + asked_now s.gate.waiting in
    let nodes : N new = subst N (sym is) sized.nodes in
    let sessions : S new = subst S (sym is) (subst T (sym (told_count tellings after)) sized.sessions) in
    let limit : own_limit new ≤ own_limit s = limit_less (length new.nodes) (asked_now new.gate.waiting) (length s.nodes) (asked_now s.gate.waiting) (count_of new.sessions) (count_of s.sessions) nodes sessions in
    let stands = stands_behind clock now s new done (record { cell = cell; rows = rows; kept = k; moment = refl }) h in
    let few = stands.kept.orderly.few in
    elim (sweeps_leave_less cell rows s new now done k h busy) [
      | inl fewer ↦ fewer_asked (own_limit new) (asked_left new) (own_limit s) (asked_left s) (own_left clock new) (own_left clock s) fewer limit (own_below clock new few)
      | inr parts ↦ sum_of (own_limit new * asked_left new) (own_limit s * asked_left s) (own_left clock new) (own_left clock s) (mul-le (own_limit new) (asked_left new) (own_limit s) (asked_left s) limit parts.0) parts.1
    ]
