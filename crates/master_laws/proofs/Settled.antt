-- A settling ends.
use Rattle.std.proofs.Common.{◌≡◌, ℕ, zero, suc, ◌+◌, ◌<◌, ◌≤◌, List, [], ◌∷◌, ◌++◌, Bool, true, false, cond, Option, Some, None, Ok, Err, refl, sym, ap, subst, ◌∙◌, inl, inr, arith}
use Rattle.std.specs.Prelude.{◌&&◌, ◌||◌, ◌==◌, ◌*◌, not, max, find, count_by, is_some, is_none}
use Rattle.std.specs.Option.{option_map, option_map_or}
use Rattle.std.specs.List.{AllByRecursion, list_all, list_any}
use Rattle.std.specs.List.Sorted.{IsStrictlySortedBy}
use Rattle.std.specs.Map.{keys_of, values_of, lookup, remove_entry}
use Rattle.std.specs.BTreeMap.{is_at}
use Rattle.std.specs.Ordering.{nat_cmp}
use Rattle.std.specs.Cmp.Lexicographic.{slice_cmp, nat_list_cmp_total}
use Rattle.std.specs.Str.{bytes_eq}
use Rattle.std.proofs.lemmas.Bool.{and_parts, not-true}
use Rattle.std.proofs.lemmas.Bool.Decides.{nat_tests}
use Rattle.std.proofs.lemmas.Cmp.{tied_itself}
use Rattle.std.proofs.lemmas.List.Folds.{list_any-append}
use Rattle.collections.proofs.Keys.{bytes_self, bytes_same}
use Rattle.names_cell.specs.Text.{is_child, parent_of}
use Rattle.node_core.specs.declared.nodes.Node.{Node}
use Rattle.node_core.specs.declared.refusals.Fault.TheVariants as faults
use Rattle.node_core.specs.Nodes.{Nodes, get_node, has_children, with_parent}
use Rattle.rows_cell.specs.declared.tables.Rows.{Rows}
use Rattle.rows_cell.specs.Rows.{changed_rows}
use Rattle.rows_cell.proofs.EntriesInOrder.{gone_for_good}
use Rattle.rows_cell.proofs.RowNodes.{keys_of_nodes}
use Rattle.rights_core.specs.Rights.{clients_to_ask}
use Rattle.rights_core.proofs.OneName.{clients_to_ask_hold}
use Rattle.tags_cell.specs.declared.messages.outs.CallResult.{CallResult}
use Rattle.tags_cell.specs.declared.messages.outs.CallResult.TheVariants as results
use Rattle.tags_cell.specs.declared.messages.outs.Reply.{Reply}
use Rattle.gate_core.specs.declared.pending.Waiting.{Waiting}
use Rattle.session_core.specs.declared.records.Parked.{Parked}
use Rattle.session_core.specs.declared.records.Session.{Session}
use Rattle.session_core.specs.Session.{answered, prolonged, unparked, session_until}
use Rattle.session_core.specs.Session as of_session
use Rattle.session_core.specs.Sessions.{SessionTable, session_of, is_live, with_session, with_new}
use Rattle.session_core.specs.Laws.{issued_at}
use Rattle.session_core.proofs.IssuedBy.{rows_stay_issued}
use Rattle.session_core.proofs.RowsOfSessions.{rows_stay}
use Rattle.lock_core.specs.declared.claims.Claim.{Claim}
use Rattle.lock_core.specs.declared.claims.Closing.{Closing}
use Rattle.lock_core.specs.declared.partings.Parting.TheVariants as partings
use Rattle.lock_core.specs.State.{LockState, nobody_holds, fits, is_exhausted}
use Rattle.lock_core.specs.Turns.{is_nobody, served_from, served, turned_away, settled, held_by, reopened, time_left}
use Rattle.lock_core.specs.Locks.{LockTable, lock_at, is_due, due}
use Rattle.master_parts.specs.Ephemerals.{tidies, has_its_turn, is_held_open, is_left, idle_of}
use Rattle.master_parts.specs.EphemeralNames.{is_ephemeral}
use Rattle.master_parts.specs.declared.handles.HandleNote.{HandleNote}
use Rattle.master_parts.specs.declared.notices.SessionEvent.{SessionEvent}
use Rattle.master_parts.specs.declared.pending.WaitingRequest.{WaitingRequest}
use Rattle.master_parts.specs.declared.pending.Orphan.{Orphan}
use Rattle.master_parts.specs.declared.pending.Task.{Task}
use Rattle.master_parts.specs.declared.pending.Task.TheVariants as tasks
use Rattle.master_state.specs.State.{MasterState, tables_of}
use Rattle.master_state.specs.Lookups.{noted}
use Rattle.master_state.specs.Lapses.{lapses_of, lapses_puts, lapses_replies}
use Rattle.master_state.specs.Notices.{with_tellings}
use Rattle.master_state.specs.Replies.{kept_puts, puts_of, replies_to, turn_replies}
use Rattle.master_state.specs.Updates.{with_note, with_locks, without_lock, retired}
use Rattle.master_state.specs.declared.updates.LockPut.{LockPut}
use Rattle.cell_core.specs.Ephemerals.{may_tidy, next_idle, tidied, is_to_go, is_still_idle}
use Rattle.cell_core.specs.Outcomes.{left_put}
use Rattle.cell_core.specs.Step.{queued, recorded, asking, asking_for}
use Rattle.cell_core.proofs.AskedFor.{asks_only}
use Rattle.over_core.specs.declared.swept.Swept.{Swept}
use Rattle.over_core.specs.Kept.{IsKept}
use Rattle.over_core.specs.Sweep.{sweep_step}
use Rattle.over_core.specs.SweepCase.{IsNextApplied, SweepCase, rest, ended, mapped, told, parted, left_reply, gone_change, gone_replies, swept_by, swept_edits}
use Rattle.over_core.specs.SweepCase.SweepCase.{Quiet, Recovers, Expires, Departed, AnswersBeat, TurnedAway, StartedAgain, Started, Reopens, Tidies, Spared, Tidied, OfEnded, Ended, Applied, Deleted, Locked, Awaited, Left}
use Rattle.over_core.proofs.KeptBySweeps.{sessions_ordered, tellings_kept, case_kept}
use Rattle.over_core.proofs.Retired.{by_retiring}
use Rattle.over_core.proofs.KeptByTakes.{unnoted, asked_kept, clock_kept}
use Rattle.master_parts.proofs.FirstEntries.{own_entries, all_of_found}
use Rattle.over_core.proofs.NamedLocks.{own_locks, not_idle, puts_are}
use Rattle.over_core.proofs.SessionReads.{lives_in, reads_step, reads_issued}
use Rattle.over_core.proofs.SweepCases.{first_tellings, swept_case}
use Rattle.master_laws.specs.Settling.{is_asked, asked_left, deletes, is_going, own_left, HasLessToDo, SweepsLeaveLess, ComesToRest, SettlingEnds}
use Rattle.master_laws.specs.Settling.ComesToRest.{Rests, IsRefused, GoesOn}
use Rattle.master_laws.proofs.AnswerableSteps.{idle_kept}
use Rattle.master_laws.proofs.Counting.{one, count_middle, count_last, count_less, count_fewer, count_without, count_alike, all_of}
use Rattle.master_laws.proofs.Timely.{answered_is, clock_by_sweep}
use Rattle.master_laws.proofs.WorkLeft.{lives, parks, AreAlike, IsLike, alike_itself, alike_then, stepped_alike, kept_alike, told_alike, left_alike, less_alike, turn_leaves_less, same_live, count_step, ended_live, begun_live, gone_live, equal_counts, is_over, relocked_due, gone_due}

-- ---- what a note leaves

note_alike : (s : MasterState) (note : Option HandleNote) → AreAlike (with_note s note).sessions s.sessions
note_alike s None = alike_itself s.sessions
note_alike s (Some note) = alike_itself s.sessions

note_waits : (s : MasterState) (note : Option HandleNote) → (with_note s note).gate.waiting ≡ s.gate.waiting
note_waits s note = unnoted (λ x. x.gate.waiting) (λ x n. refl) s note

-- ---- the cell's own

less_by : (r c e g i : ℕ) → r ≡ 1 → 0 + c + 2 * e + g + i < r + c + 2 * e + g + i
less_by r c e g i h = omega (arith, h)

nothing_more : (a : ℕ) → a ≤ a
nothing_more a = omega arith

same_asked : (a l m : ℕ) → m ≡ l → 2 * a + m ≤ 2 * a + l
same_asked a l m h = omega (arith, h)

fewer_live : (a l m : ℕ) → m + 1 ≡ l → 2 * a + m < 2 * a + l
fewer_live a l m h = omega (arith, h)

-- a Beat that is answered
answer_less : (r c e f g i j : ℕ) → e ≡ f → i + 1 ≡ j → r + c + 2 * e + g + i < r + c + 2 * f + g + j
answer_less r c e f g i j h k = omega (arith, h, k)

unpark : (a b o n : ℕ) → a + o ≡ b + n → o ≡ 1 → n ≡ 0 → a + 1 ≡ b
unpark a b o n h k l = omega (arith, h, k, l)

same_going : (new old : MasterState) → new.handles ≡ old.handles → new.nodes ≡ old.nodes → new.gate.waiting ≡ old.gate.waiting → ((q : ℕ) → is_live new.sessions q ≡ is_live old.sessions q) → (entry : List ℕ × Node) → is_going new entry ≡ is_going old entry
same_going new old handles nodes waiting live entry =
    ap (λ x. x && list_any (λ w. deletes entry w.change.body) new.gate.waiting) (left_alike new old entry handles nodes live)
    ∙ ap (λ ws. is_left (tables_of old) entry.0 entry.1 && list_any (λ w. deletes entry w.change.body) ws) waiting

stays_less : (new old : MasterState) (nodes : Nodes) → ((entry : List ℕ × Node) → is_going new entry ≡ is_going old entry) → count_by (λ entry. not (is_going new entry)) nodes ≡ count_by (λ entry. not (is_going old entry)) nodes
stays_less new old nodes same =
    both (count_by (λ entry. not (is_going new entry)) nodes) (count_by (λ entry. not (is_going old entry)) nodes)
    (count_less (λ entry. not (is_going new entry)) (λ entry. not (is_going old entry)) nodes (all_of (λ entry. not (is_going new entry) ≡ true → not (is_going old entry) ≡ true) (λ entry h. ap not (sym (same entry)) ∙ h) nodes))
    (count_less (λ entry. not (is_going old entry)) (λ entry. not (is_going new entry)) nodes (all_of (λ entry. not (is_going old entry) ≡ true → not (is_going new entry) ≡ true) (λ entry h. ap not (same entry) ∙ h) nodes))
  where
    both : (a b : ℕ) → a ≤ b → b ≤ a → a ≡ b
    both a b h k = omega (arith, h, k)

-- ---- a lock that is open again

served_closed : (lock : LockState) (granted waiters : List Claim) → (served_from lock granted waiters).lock.closed ≡ lock.closed
served_closed lock granted [] = refl
served_closed lock granted (first ∷ rest) =
    elim (fits lock first) as (λ b. (cond b (served_from (held_by lock first) (granted ++ first ∷ []) rest) (record { lock = record lock { waiters = first ∷ rest }; granted = granted; exhausted = [] })).lock.closed ≡ lock.closed) [
      | true ↦ served_closed (held_by lock first) (granted ++ first ∷ []) rest
      | false ↦ refl
    ]

settled_closed : (lock : LockState) → (settled lock).lock.closed ≡ lock.closed
settled_closed lock = elim (is_exhausted lock) as (λ b. (cond b (turned_away lock) (served lock)).lock.closed ≡ lock.closed) [
  | true ↦ refl
  | false ↦ served_closed (record lock { waiters = [] }) [] lock.waiters
]

reopened_undue : (now : ℕ) (lock : LockState) → is_due now (reopened lock).lock ≡ false
reopened_undue now lock = ap (λ closed. is_due now (record lock { closed = closed })) (settled_closed (record lock { closed = None }))

found_entry : (o : Option (ℕ × LockState)) (instance : ℕ) → option_map (λ (e : ℕ × LockState). e.0) o ≡ Some instance → (e : ℕ × LockState) × (o ≡ Some e) × (e.0 ≡ instance)
found_entry None instance h = absurd (cc)
found_entry (Some e) instance h = let same : e.0 ≡ instance = cc in (e, refl, same)

due_is : (locks : LockTable) (now instance : ℕ) → IsStrictlySortedBy nat_cmp (keys_of locks) → due locks now ≡ Some instance → is_due now (lock_at locks instance) ≡ true
due_is locks now instance sorted h =
    let t = found_entry (find (λ (e : ℕ × LockState). is_due now e.1) locks) instance h in
    let u = all_of_found (λ (e : ℕ × LockState). lock_at locks e.0 ≡ e.1) (λ e. is_due now e.1) locks t.0 (own_locks locks sorted) t.1 in
    ap (λ n. is_due now (lock_at locks n)) (sym t.2) ∙ ap (is_due now) u.0 ∙ u.1

and_false : (a : Bool) → (a && false) ≡ false
and_false true = refl
and_false false = refl

busy_by_closing : (a b c : Bool) (closed : Option Closing) (now : ℕ) → option_map_or (λ closing. time_left closing now == 0) closed false ≡ true → (a && is_none closed && b && c) ≡ false
busy_by_closing a b c None now h = absurd (cc)
busy_by_closing a b c (Some closing) now h = ap (λ x. x && b && c) (and_false a)

found_passes : {X : Type 0} (test : X → Bool) (xs : List X) (x : X) → find test xs ≡ Some x → test x ≡ true
found_passes test [] x h = absurd (cc)
found_passes {X} test (y ∷ ys) x h =
    (elim (test y) as (λ b. test y ≡ b → cond b (Some y) (find test ys) ≡ Some x → test x ≡ true) [
      | true ↦ (λ is k. let same : y ≡ x = cc in ap test (sym same) ∙ is)
      | false ↦ (λ is k. found_passes test ys x k)
    ]) refl h

found_named : (o : Option (List ℕ × Node)) (name : List ℕ) → option_map (λ (e : List ℕ × Node). e.0) o ≡ Some name → (entry : List ℕ × Node) × (o ≡ Some entry)
found_named None name h = absurd (cc)
found_named (Some entry) name h = (entry, refl)

reopen_less : (r c e f g h i j : ℕ) → e ≡ f → g + 1 ≤ h → i ≡ j → r + c + 2 * e + g + i < r + c + 2 * f + h + j
reopen_less r c e f g h i j k l m = omega (arith, k, l, m)

reopens_less : (cell : List ℕ) (rows : Rows) (s : MasterState) (instance : ℕ) → IsKept cell rows s → due s.locks s.clock ≡ Some instance → HasLessToDo s.clock (told (with_locks s (puts_of s instance (reopened (lock_at s.locks instance)).lock)) (turn_replies s (reopened (lock_at s.locks instance)))) s
reopens_less cell rows s instance k lowest =
    let old : LockState = lock_at s.locks instance in
    let lock : LockState = (reopened old).lock in
    let is : is_due s.clock old ≡ true = due_is s.locks s.clock instance k.locks.in_order lowest in
    let named = not_idle cell rows s instance k (busy_by_closing (old.generation == 0) (nobody_holds old) (is_nobody old.waiters) old.closed s.clock is) in
    let entry = found_named (find (λ (e : List ℕ × Node). e.1.instance == instance) s.nodes) named.name named.is in
    let put : LockPut = record { name = named.name; instance = instance; lock = lock } in
    let replies = turn_replies s (reopened old) in
    let P : List LockPut → Type 0 = λ puts. HasLessToDo s.clock (told (with_locks s puts) replies) s in
    let here : MasterState = with_locks s (put ∷ []) in
    let new : MasterState = told here replies in
    let alike : AreAlike new.sessions s.sessions = kept_alike (kept_puts replies) here in
    subst P (sym (puts_are s instance lock named.name named.is)) (inr (
      same_asked (count_by (λ w. is_asked w.change.body) s.gate.waiting) (count_by lives (values_of s.sessions.sessions)) (count_by lives (values_of new.sessions.sessions)) (count_alike lives new.sessions.sessions s.sessions.sessions alike.lives),
      reopen_less (one s.recovering) (count_by (λ w. not (is_asked w.change.body)) s.gate.waiting) (count_by (λ entry. not (is_going new entry)) s.nodes) (count_by (λ entry. not (is_going s entry)) s.nodes) (count_by (is_over s.clock new) s.nodes) (count_by (is_over s.clock s) s.nodes) (count_by parks (values_of new.sessions.sessions)) (count_by parks (values_of s.sessions.sessions))
          (stays_less new s s.nodes (same_going new s refl refl refl alike.live))
          (relocked_due s.clock s.locks instance lock s.nodes entry.0 entry.1 (found_passes (λ (e : List ℕ × Node). e.1.instance == instance) s.nodes entry.0 entry.1) is (reopened_undue s.clock old))
          (count_alike parks new.sessions.sessions s.sessions.sessions alike.parks),
    ))

-- ---- a node that is to go

-- sessions of which some are asked for names
issued_lives : (o : Option ℕ) (before : Session Reply) → (issued_at o before).live ≡ before.live
issued_lives None before = refl
issued_lives (Some number) before = refl

asking_alike : (cell : List ℕ) (rows : Rows) (s : MasterState) (name : List ℕ) → IsKept cell rows s → AreAlike (asking s name).sessions s.sessions
asking_alike cell rows s name k =
    let asked = clients_to_ask name s.rights in
    let order = (clients_to_ask_hold 0 name s.rights k.recorded.once).1 in
    record {
      live = reads_issued lives_in asked s.sessions order issued_lives;
      lives = rows_stay_issued lives (λ number before. refl) s.sessions asked;
      parks = rows_stay_issued parks (λ number before. refl) s.sessions asked;
    }

all_asked_alike : (cell : List ℕ) (rows : Rows) (s : MasterState) (names : List (List ℕ)) → IsKept cell rows s → AreAlike (asking_for s names).sessions s.sessions
all_asked_alike cell rows s [] k = alike_itself s.sessions
all_asked_alike cell rows s (name ∷ names) k = alike_then s.sessions (asking s name).sessions (asking_for s (name ∷ names)).sessions (all_asked_alike cell rows (asking s name) names (asked_kept cell rows s name k)) (asking_alike cell rows s name k)

where_found : (b : Bool) (o : Option (List ℕ × Node)) (idle : Orphan) → cond b (option_map idle_of o) None ≡ Some idle → (entry : List ℕ × Node) × (o ≡ Some entry) × (idle_of entry ≡ idle)
where_found true None idle h = absurd (cc)
where_found true (Some entry) idle h = let same : idle_of entry ≡ idle = cc in (entry, refl, same)
where_found false o idle h = absurd (cc)

-- what deletes a node tidies its instance
second_false : (a b : Bool) → b ≡ false → (a && b) ≡ false
second_false true b h = h
second_false false b h = refl

or_none : (a b : Bool) → (a || b) ≡ false → (a ≡ false) × (b ≡ false)
or_none true b h = absurd (cc)
or_none false b h = (refl, h)

undeleted : (entry : List ℕ × Node) (task : Task) → tidies entry.1.instance task ≡ false → deletes entry task ≡ false
undeleted entry (tasks.Asked asked) h = refl
undeleted entry (tasks.Tidies idle) h = second_false (bytes_eq idle.name entry.0) (idle.instance == entry.1.instance) h

none_deletes : (entry : List ℕ × Node) (ws : List (Waiting Task)) → list_any (λ w. tidies entry.1.instance w.change.body) ws ≡ false → list_any (λ w. deletes entry w.change.body) ws ≡ false
none_deletes entry [] h = refl
none_deletes entry (w ∷ ws) h =
    let t = or_none (tidies entry.1.instance w.change.body) (list_any (λ w. tidies entry.1.instance w.change.body) ws) h in
    rw (undeleted entry w.change.body t.0, none_deletes entry ws t.1) refl

same_number : (n : ℕ) → (n == n) ≡ true
same_number n = grind (arith, nat_tests)

tidy_less : (r c d e f g i j : ℕ) → d ≡ c + 1 → e + 1 ≤ f → i ≡ j → r + d + 2 * e + g + i < r + c + 2 * f + g + j
tidy_less r c d e f g i j h k l = omega (arith, h, k, l)

still_going : (left before more : Bool) → (left && before) ≡ true → (left && (before || more)) ≡ true
still_going true true more h = refl
still_going true false more h = absurd (cc)
still_going false before more h = absurd (cc)

going_not : (a b : Bool) → (a ≡ true → b ≡ true) → not b ≡ true → not a ≡ true
going_not true b h k = let t = h refl in absurd (cc)
going_not false b h k = refl

tidies_less : (cell : List ℕ) (rows : Rows) (s : MasterState) (idle : Orphan) → IsKept cell rows s → next_idle s ≡ Some idle → HasLessToDo s.clock (tidied s idle) s
tidies_less cell rows s idle k first =
    let t = where_found (may_tidy s) (find (is_to_go s) s.nodes) idle first in
    let entry = t.0 in
    let goes_now = and_parts (is_left (tables_of s) entry.0 entry.1) (not (has_its_turn (tables_of s) entry.1.instance)) (found_passes (is_to_go s) s.nodes entry t.1) in
    let names = with_parent idle.name in
    let task : Task = tasks.Tidies idle in
    let w : Waiting Task = record { number = s.gate.pushed + 1; change = record { touched = names; body = task } } in
    let q = queued s names task in
    let new = tidied s idle in
    let alike : AreAlike new.sessions s.sessions = all_asked_alike cell rows q names (idle_kept cell rows s idle first k) in
    let only = asks_only names q in
    let waiting : new.gate.waiting ≡ s.gate.waiting ++ w ∷ [] = ap (λ (m : MasterState). m.gate.waiting) only in
    let nodes : new.nodes ≡ s.nodes = ap (λ (m : MasterState). m.nodes) only in
    let handles : new.handles ≡ s.handles = ap (λ (m : MasterState). m.handles) only in
    let locks : new.locks ≡ s.locks = ap (λ (m : MasterState). m.locks) only in
    let recovering : new.recovering ≡ s.recovering = ap (λ (m : MasterState). m.recovering) only in
    let later : (e : List ℕ × Node) → is_going new e ≡ (is_left (tables_of s) e.0 e.1 && (list_any (λ w. deletes e w.change.body) s.gate.waiting || (deletes e task || false))) = λ e.
    ap (λ x. x && list_any (λ w. deletes e w.change.body) new.gate.waiting) (left_alike new s e handles nodes alike.live)
    ∙ ap (λ ws. is_left (tables_of s) e.0 e.1 && list_any (λ w. deletes e w.change.body) ws) waiting
    ∙ ap (λ x. is_left (tables_of s) e.0 e.1 && x) (list_any-append (λ w. deletes e w.change.body) s.gate.waiting (w ∷ [])) in
    let before : is_going s entry ≡ false = second_false (is_left (tables_of s) entry.0 entry.1) (list_any (λ w. deletes entry w.change.body) s.gate.waiting) (none_deletes entry s.gate.waiting (not-true (has_its_turn (tables_of s) entry.1.instance) goes_now.1)) in
    let own : deletes entry task ≡ true = own_task entry idle t.2 in
    let after : is_going new entry ≡ true = later entry ∙ now_going (is_left (tables_of s) entry.0 entry.1) (list_any (λ w. deletes entry w.change.body) s.gate.waiting) (deletes entry task) goes_now.0 own in
    let fewer : count_by (λ e. not (is_going new e)) s.nodes + 1 ≤ count_by (λ e. not (is_going s e)) s.nodes =
    count_fewer (λ e. not (is_going new e)) (λ e. not (is_going s e)) (is_to_go s) s.nodes entry t.1 (ap not after) (ap not before)
    (all_of (λ e. not (is_going new e) ≡ true → not (is_going s e) ≡ true) (λ e. going_not (is_going s e) (is_going new e) (λ is. later e ∙ still_going (is_left (tables_of s) e.0 e.1) (list_any (λ w. deletes e w.change.body) s.gate.waiting) (deletes e task || false) is)) s.nodes) in
    let nodes_now : count_by (λ e. not (is_going new e)) new.nodes ≡ count_by (λ e. not (is_going new e)) s.nodes = ap (λ ns. count_by (λ e. not (is_going new e)) ns) nodes in
    let asked : count_by (λ w. is_asked w.change.body) new.gate.waiting ≡ count_by (λ w. is_asked w.change.body) s.gate.waiting + 0 = ap (count_by (λ w. is_asked w.change.body)) waiting ∙ count_last (λ w. is_asked w.change.body) s.gate.waiting w in
    let more : count_by (λ w. not (is_asked w.change.body)) new.gate.waiting ≡ count_by (λ w. not (is_asked w.change.body)) s.gate.waiting + 1 = ap (count_by (λ w. not (is_asked w.change.body))) waiting ∙ count_last (λ w. not (is_asked w.change.body)) s.gate.waiting w in
    let due_now : count_by (is_over s.clock new) new.nodes ≡ count_by (is_over s.clock s) s.nodes =
    equal_counts (is_over s.clock new) (is_over s.clock s) new.nodes (λ e. ap (λ (ls : LockTable). is_due s.clock (lock_at ls e.1.instance)) locks) ∙ ap (λ ns. count_by (is_over s.clock s) ns) nodes in
    inr (
      asked_less (count_by (λ w. is_asked w.change.body) s.gate.waiting) (count_by (λ w. is_asked w.change.body) new.gate.waiting) (count_by lives (values_of s.sessions.sessions)) (count_by lives (values_of new.sessions.sessions)) asked (count_alike lives new.sessions.sessions s.sessions.sessions alike.lives),
      own_less (one s.recovering) (one new.recovering) (count_by (λ w. not (is_asked w.change.body)) s.gate.waiting) (count_by (λ w. not (is_asked w.change.body)) new.gate.waiting) (count_by (λ e. not (is_going new e)) new.nodes) (count_by (λ e. not (is_going new e)) s.nodes) (count_by (λ e. not (is_going s e)) s.nodes) (count_by (is_over s.clock new) new.nodes) (count_by (is_over s.clock s) s.nodes) (count_by parks (values_of new.sessions.sessions)) (count_by parks (values_of s.sessions.sessions))
          (ap one recovering) more nodes_now fewer due_now (count_alike parks new.sessions.sessions s.sessions.sessions alike.parks),
    )
  where
    own_task : (entry : List ℕ × Node) (idle : Orphan) → idle_of entry ≡ idle → deletes entry (tasks.Tidies idle) ≡ true
    own_task entry idle same = ap (λ (x : Orphan). deletes entry (tasks.Tidies x)) (sym same) ∙ rw (bytes_self entry.0, same_number entry.1.instance) refl

    now_going : (left before own : Bool) → left ≡ true → own ≡ true → (left && (before || (own || false))) ≡ true
    now_going left true own h k = rw h refl
    now_going left false own h k = rw (h, k) refl

    asked_less : (a b l m : ℕ) → b ≡ a + 0 → m ≡ l → 2 * b + m ≤ 2 * a + l
    asked_less a b l m h k = omega (arith, h, k)

    own_less : (r v c d n e f g h i j : ℕ) → v ≡ r → d ≡ c + 1 → n ≡ e → e + 1 ≤ f → g ≡ h → i ≡ j → v + d + 2 * n + g + i < r + c + 2 * f + h + j
    own_less r v c d n e f g h i j k l m o p q = omega (arith, k, l, m, o, p, q)

-- ---- the turn of its deletion

names_sorted : (cell : List ℕ) (rows : Rows) (s : MasterState) → IsKept cell rows s → IsStrictlySortedBy (slice_cmp nat_cmp) (keys_of s.nodes)
names_sorted cell rows s k =
    let P : List (List ℕ) → Type 0 = IsStrictlySortedBy (slice_cmp nat_cmp) in
    subst P (sym (ap (λ (ns : Nodes). keys_of ns) k.nodes ∙ keys_of_nodes rows.nodes)) k.names_in_order

-- a node that another task deletes
by_another : (left front own back : Bool) → (left && (front || (own || back))) ≡ true → own ≡ false → (left && (front || back)) ≡ true
by_another true true own back h k = refl
by_another true false true back h k = absurd (cc)
by_another true false false back h k = h
by_another false front own back h k = absurd (cc)

false_of : (b : Bool) → (b ≡ true → ⊥) → b ≡ false
false_of true h = absurd (h refl)
false_of false h = refl

each_of : {X : Type 0} (P Q : X → Type 0) (xs : List X) → ((x : X) → P x → Q x) → AllByRecursion P xs → AllByRecursion Q xs
each_of P Q [] f h = tt
each_of P Q (x ∷ xs) f h = (f x h.0, each_of P Q xs f h.1)

each_passes : {X : Type 0} (test : X → Bool) (Q : X → Type 0) (xs : List X) → ((x : X) → test x ≡ true → Q x) → list_all test xs ≡ true → AllByRecursion Q xs
each_passes test Q [] f h = tt
each_passes test Q (x ∷ xs) f h = let t = and_parts (test x) (list_all test xs) h in (f x t.0, each_passes test Q xs f t.1)

deletes_parts : (entry : List ℕ × Node) (idle : Orphan) → deletes entry (tasks.Tidies idle) ≡ true → (idle.name ≡ entry.0) × ((entry.1.instance == idle.instance) ≡ true)
deletes_parts entry idle h =
    let t = and_parts (bytes_eq idle.name entry.0) (idle.instance == entry.1.instance) h in
    (bytes_same idle.name entry.0 t.0, swap idle.instance entry.1.instance t.1)
  where
    swap : (a b : ℕ) → (a == b) ≡ true → (b == a) ≡ true
    swap a b h = grind (arith, nat_tests)

turn_less : (r c d e f g i : ℕ) → d ≡ c + 1 → e ≤ f → r + c + 2 * e + g + i < r + d + 2 * f + g + i
turn_less r c d e f g i h k = omega (arith, h, k)

no_more : (a b l m : ℕ) → b ≡ a + 0 → m ≡ l → 2 * a + m ≤ 2 * b + l
no_more a b l m h k = omega (arith, h, k)

module _ (cell : List ℕ) (rows : Rows) (s : MasterState) (k : IsKept cell rows s) (front back : List (Waiting Task)) (idle : Orphan) (turn : IsNextApplied s front (tasks.Tidies idle) back) where
  abbrev task : Task
  task = tasks.Tidies idle

  abbrev here : Waiting Task
  here = record { number = turn.number; change = record { touched = turn.touched; body = task } }

  abbrev deleting : List ℕ × Node → Waiting Task → Bool
  deleting e w = deletes e w.change.body

  going_now : (e : List ℕ × Node) → is_going s e ≡ (is_left (tables_of s) e.0 e.1 && (list_any (deleting e) front || (deletes e task || list_any (deleting e) back)))
  going_now e = ap (λ ws. is_left (tables_of s) e.0 e.1 && list_any (deleting e) ws) turn.waited ∙ ap (λ x. is_left (tables_of s) e.0 e.1 && x) (list_any-append (deleting e) front (here ∷ back))

  asked_same : count_by (λ w. is_asked w.change.body) s.gate.waiting ≡ count_by (λ w. is_asked w.change.body) (front ++ back) + 0
  asked_same = ap (count_by (λ w. is_asked w.change.body)) turn.waited ∙ count_middle (λ w. is_asked w.change.body) front here back

  own_more : count_by (λ w. not (is_asked w.change.body)) s.gate.waiting ≡ count_by (λ w. not (is_asked w.change.body)) (front ++ back) + 1
  own_more = ap (count_by (λ w. not (is_asked w.change.body))) turn.waited ∙ count_middle (λ w. not (is_asked w.change.body)) front here back

  -- where it is spared
  spared_going : is_still_idle s idle ≡ false → (e : List ℕ × Node) → lookup (is_at (slice_cmp nat_cmp e.0)) s.nodes ≡ Some e.1 → is_going s e ≡ true → is_going (rest s front back) e ≡ true
  spared_going spared e found going =
      let parts : (is_left (tables_of s) e.0 e.1 && (list_any (deleting e) front || (deletes e task || list_any (deleting e) back))) ≡ true = sym (going_now e) ∙ going in
      let left : is_left (tables_of s) e.0 e.1 ≡ true = (and_parts (is_left (tables_of s) e.0 e.1) (list_any (deleting e) front || (deletes e task || list_any (deleting e) back)) parts).0 in
      let other : deletes e task ≡ false = false_of (deletes e task) (λ own.
      let d = deletes_parts e idle own in
      let at : get_node s.nodes idle.name ≡ Some e.1 = ap (get_node s.nodes) d.0 ∙ found in
      let named : is_left (tables_of s) idle.name e.1 ≡ true = ap (λ n. is_left (tables_of s) n e.1) d.0 ∙ left in
      let still : is_still_idle s idle ≡ true = ap (λ (o : Option Node). option_map_or (λ (node : Node). node.instance == idle.instance && is_left (tables_of s) idle.name node) o false) at ∙ rw (d.1, named) refl in
      cc) in
      ap (λ x. is_left (tables_of s) e.0 e.1 && x) (list_any-append (deleting e) front back) ∙ by_another (is_left (tables_of s) e.0 e.1) (list_any (deleting e) front) (deletes e task) (list_any (deleting e) back) parts other

  spared_less : is_still_idle s idle ≡ false → HasLessToDo s.clock (rest s front back) s
  spared_less spared =
      let new = rest s front back in
      let P : List ℕ × Node → Type 0 = λ e. lookup (is_at (slice_cmp nat_cmp e.0)) s.nodes ≡ Some e.1 in
      let Q : List ℕ × Node → Type 0 = λ e. not (is_going new e) ≡ true → not (is_going s e) ≡ true in
      let stay : count_by (λ e. not (is_going new e)) s.nodes ≤ count_by (λ e. not (is_going s e)) s.nodes =
      count_less (λ e. not (is_going new e)) (λ e. not (is_going s e)) s.nodes
      (each_of P Q s.nodes (λ e found. going_not (is_going s e) (is_going new e) (spared_going spared e found)) (own_entries (slice_cmp nat_cmp) nat_list_cmp_total s.nodes (names_sorted cell rows s k))) in
      inr (
        no_more (count_by (λ w. is_asked w.change.body) (front ++ back)) (count_by (λ w. is_asked w.change.body) s.gate.waiting) (count_by lives (values_of s.sessions.sessions)) (count_by lives (values_of s.sessions.sessions)) asked_same refl,
        turn_less (one s.recovering) (count_by (λ w. not (is_asked w.change.body)) (front ++ back)) (count_by (λ w. not (is_asked w.change.body)) s.gate.waiting) (count_by (λ e. not (is_going new e)) s.nodes) (count_by (λ e. not (is_going s e)) s.nodes) (count_by (is_over s.clock s) s.nodes) (count_by parks (values_of s.sessions.sessions)) own_more stay,
      )

  -- where the node goes
  abbrev replies : List Reply
  replies = gone_replies s idle

  abbrev after : MasterState
  after = without_lock (told (mapped (rest s front back) (gone_change s idle)) replies) (Some idle.instance)

  abbrev left_nodes : Nodes
  left_nodes = remove_entry (is_at (slice_cmp nat_cmp idle.name)) s.nodes

  after_alike : AreAlike after.sessions s.sessions
  after_alike = kept_alike (kept_puts replies) (mapped (rest s front back) (gone_change s idle))

  any_left : (test : List ℕ → Bool) (es : Nodes) → list_any test (keys_of es) ≡ false → list_any test (keys_of (remove_entry (is_at (slice_cmp nat_cmp idle.name)) es)) ≡ false
  any_left test [] h = refl
  any_left test (e ∷ es) h =
      let t = or_none (test e.0) (list_any test (keys_of es)) h in
      elim (is_at (slice_cmp nat_cmp idle.name) e.0) as (λ b. list_any test (keys_of (cond b es (e ∷ remove_entry (is_at (slice_cmp nat_cmp idle.name)) es))) ≡ false) [ true ↦ t.1 | false ↦ rw (t.0, any_left test es t.1) refl ]

  left_parts : (a b c d : Bool) → (a && b && not (c || d)) ≡ true → (a ≡ true) × (b ≡ true) × (c ≡ false) × (d ≡ false)
  left_parts true true true d h = absurd (cc)
  left_parts true true false true h = absurd (cc)
  left_parts true true false false h = (refl, refl, refl, refl)
  left_parts true false c d h = absurd (cc)
  left_parts false b c d h = absurd (cc)

  left_later : (e : List ℕ × Node) → is_left (tables_of s) e.0 e.1 ≡ true → is_left (tables_of after) e.0 e.1 ≡ true
  left_later e h =
      let stays : MasterState = record s { sessions = after.sessions } in
      let held : is_left (tables_of stays) e.0 e.1 ≡ true = left_alike stays s e refl refl after_alike.live ∙ h in
      let t = left_parts (is_ephemeral e.1.life) (not (is_held_open (tables_of stays) e.1.instance)) (has_children s.nodes e.0) (is_none (parent_of e.0)) held in
      let none : has_children left_nodes e.0 ≡ false = any_left (λ child. is_child child e.0) s.nodes t.2 in
      rw (t.0, t.1, none, t.3) refl

  gone_going : (e : List ℕ × Node) → not (is_at (slice_cmp nat_cmp e.0) idle.name) ≡ true → is_going s e ≡ true → is_going after e ≡ true
  gone_going e apart going =
      let parts : (is_left (tables_of s) e.0 e.1 && (list_any (deleting e) front || (deletes e task || list_any (deleting e) back))) ≡ true = sym (going_now e) ∙ going in
      let left : is_left (tables_of s) e.0 e.1 ≡ true = (and_parts (is_left (tables_of s) e.0 e.1) (list_any (deleting e) front || (deletes e task || list_any (deleting e) back)) parts).0 in
      let other : deletes e task ≡ false = false_of (deletes e task) (λ own.
      let d = deletes_parts e idle own in
      let at : is_at (slice_cmp nat_cmp e.0) idle.name ≡ true = ap (is_at (slice_cmp nat_cmp e.0)) d.0 ∙ rw (tied_itself nat_list_cmp_total e.0) refl in
      let no : is_at (slice_cmp nat_cmp e.0) idle.name ≡ false = not-true (is_at (slice_cmp nat_cmp e.0) idle.name) apart in
      cc) in
      let waits : (is_left (tables_of s) e.0 e.1 && (list_any (deleting e) front || list_any (deleting e) back)) ≡ true = by_another (is_left (tables_of s) e.0 e.1) (list_any (deleting e) front) (deletes e task) (list_any (deleting e) back) parts other in
      let some = (and_parts (is_left (tables_of s) e.0 e.1) (list_any (deleting e) front || list_any (deleting e) back) waits).1 in
      both_true (is_left (tables_of after) e.0 e.1) (list_any (deleting e) (front ++ back)) (left_later e left) (list_any-append (deleting e) front back ∙ some)
    where
      both_true : (a b : Bool) → a ≡ true → b ≡ true → (a && b) ≡ true
      both_true a b h k = rw (h, k) refl

  tidied_less : HasLessToDo s.clock after s
  tidied_less =
      let Q : List ℕ × Node → Type 0 = λ e. not (is_going after e) ≡ true → not (is_going s e) ≡ true in
      let stay : count_by (λ e. not (is_going after e)) left_nodes ≤ count_by (λ e. not (is_going s e)) s.nodes =
      count_without (λ e. not (is_going after e)) (λ e. not (is_going s e)) (is_at (slice_cmp nat_cmp idle.name)) s.nodes
      (each_passes (λ (e : List ℕ × Node). not (is_at (slice_cmp nat_cmp e.0) idle.name)) Q left_nodes (λ e apart. going_not (is_going s e) (is_going after e) (gone_going e apart)) (gone_for_good (slice_cmp nat_cmp) nat_list_cmp_total idle.name s.nodes (names_sorted cell rows s k))) in
      inr (
        no_more (count_by (λ w. is_asked w.change.body) (front ++ back)) (count_by (λ w. is_asked w.change.body) s.gate.waiting) (count_by lives (values_of s.sessions.sessions)) (count_by lives (values_of after.sessions.sessions)) asked_same (count_alike lives after.sessions.sessions s.sessions.sessions after_alike.lives),
        sums (one s.recovering) (count_by (λ w. not (is_asked w.change.body)) (front ++ back)) (count_by (λ w. not (is_asked w.change.body)) s.gate.waiting) (count_by (λ e. not (is_going after e)) left_nodes) (count_by (λ e. not (is_going s e)) s.nodes) (count_by (is_over s.clock after) left_nodes) (count_by (is_over s.clock s) s.nodes) (count_by parks (values_of after.sessions.sessions)) (count_by parks (values_of s.sessions.sessions))
            own_more stay (gone_due s.clock s.locks idle.instance (is_at (slice_cmp nat_cmp idle.name)) s.nodes k.locks.in_order) (count_alike parks after.sessions.sessions s.sessions.sessions after_alike.parks),
      )
    where
      sums : (r c d e f g h i j : ℕ) → d ≡ c + 1 → e ≤ f → g ≤ h → i ≡ j → r + c + 2 * e + g + i < r + d + 2 * f + h + j
      sums r c d e f g h i j k l m n = omega (arith, k, l, m, n)

-- ---- every arm

answer_unparks : (lease now : ℕ) (session : Session Reply) (beat : Parked) → session.parked ≡ Some beat → (answered lease now session).parked ≡ None
answer_unparks lease now session beat is = ap (λ (x : Session Reply). x.parked) (answered_is lease now session beat is)

answered_lives : (lease now : ℕ) (session : Session Reply) → (answered lease now session).live ≡ session.live
answered_lives lease now session =
    elim session.parked as (λ o. (option_map_or (λ (beat : Parked). prolonged (now + lease) (unparked now session)) o session).live ≡ session.live) [ None ↦ refl | Some beat ↦ refl ]

module _ (cell : List ℕ) (rows : Rows) (s : MasterState) (k : IsKept cell rows s) where
  answers_less : (client : ℕ) (session : Session Reply) (beat : Parked) → session_of s.sessions client ≡ Some session → session.parked ≡ Some beat → HasLessToDo s.clock (record s { sessions = with_session s.sessions client (answered s.sessions.lease s.clock) }) s
  answers_less client session beat found is_parked =
      let step = answered s.sessions.lease s.clock in
      let new : MasterState = record s { sessions = with_session s.sessions client step } in
      let live : (q : ℕ) → is_live new.sessions q ≡ is_live s.sessions q = reads_step lives_in s.sessions client step (answered_lives s.sessions.lease s.clock) in
      let same : count_by lives (values_of new.sessions.sessions) ≡ count_by lives (values_of s.sessions.sessions) = count_alike lives new.sessions.sessions s.sessions.sessions (rows_stay lives s.sessions client step (answered_lives s.sessions.lease s.clock)) in
      let fewer : count_by parks (values_of new.sessions.sessions) + 1 ≡ count_by parks (values_of s.sessions.sessions) =
      unpark (count_by parks (values_of new.sessions.sessions)) (count_by parks (values_of s.sessions.sessions)) (one (parks session)) (one (parks (step session))) (count_step parks s.sessions client step session found)
      (ap (λ (o : Option Parked). one (is_some o)) is_parked) (ap (λ (o : Option Parked). one (is_some o)) (answer_unparks s.sessions.lease s.clock session beat is_parked)) in
      inr (
        same_asked (count_by (λ w. is_asked w.change.body) s.gate.waiting) (count_by lives (values_of s.sessions.sessions)) (count_by lives (values_of new.sessions.sessions)) same,
        answer_less (one s.recovering) (count_by (λ w. not (is_asked w.change.body)) s.gate.waiting) (count_by (λ e. not (is_going new e)) s.nodes) (count_by (λ e. not (is_going s e)) s.nodes) (count_by (is_over s.clock s) s.nodes) (count_by parks (values_of new.sessions.sessions)) (count_by parks (values_of s.sessions.sessions))
            (stays_less new s s.nodes (same_going new s refl refl refl live)) fewer,
      )

  expires_less : (client : ℕ) (session : Session Reply) (puts : List LockPut) (replies : List Reply) → session_of s.sessions client ≡ Some session → session.live ≡ true → HasLessToDo s.clock (told (with_locks (parted partings.Expiry s client) puts) replies) s
  expires_less client session puts replies found live =
      let l = with_locks (parted partings.Expiry s client) puts in
      let new = told l replies in
      let same : count_by lives (values_of new.sessions.sessions) ≡ count_by lives (values_of l.sessions.sessions) = (let alike : AreAlike new.sessions l.sessions = kept_alike (kept_puts replies) l in count_alike lives new.sessions.sessions l.sessions.sessions alike.lives) in
      inl (fewer_live (count_by (λ w. is_asked w.change.body) s.gate.waiting) (count_by lives (values_of s.sessions.sessions)) (count_by lives (values_of new.sessions.sessions)) (ap (λ n. n + 1) same ∙ ended_live s.sessions client session found live))

  by_turn : (new : MasterState) (front back : List (Waiting Task)) (asked : WaitingRequest) → IsNextApplied s front (tasks.Asked asked) back → new.gate.waiting ≡ front ++ back → AreAlike new.sessions s.sessions → HasLessToDo s.clock new s
  by_turn new front back asked turn waiting alike = turn_leaves_less s.clock s new front back asked turn waiting (same_live new.sessions s.sessions alike)

  parting_live : (t : MasterState) (client : ℕ) (session : Session Reply) (puts : List LockPut) (replies : List Reply) → t.sessions ≡ s.sessions → session_of s.sessions client ≡ Some session → count_by lives (values_of (told (with_locks (parted partings.Leave t client) puts) replies).sessions.sessions) ≤ count_by lives (values_of s.sessions.sessions) + 1
  parting_live t client session puts replies same found =
      let l = with_locks (parted partings.Leave t client) puts in
      let new = told l replies in
      let alike : AreAlike new.sessions l.sessions = kept_alike (kept_puts replies) l in
      let kept : count_by lives (values_of new.sessions.sessions) ≡ count_by lives (values_of l.sessions.sessions) = count_alike lives new.sessions.sessions l.sessions.sessions alike.lives in
      let table : l.sessions ≡ with_session s.sessions client of_session.ended = ap (λ (x : SessionTable Reply). with_session x client of_session.ended) same in
      let here : count_by lives (values_of l.sessions.sessions) ≡ count_by lives (values_of (with_session s.sessions client of_session.ended).sessions) = ap (λ (x : SessionTable Reply). count_by lives (values_of x.sessions)) table in
      most (count_by lives (values_of new.sessions.sessions)) (count_by lives (values_of (with_session s.sessions client of_session.ended).sessions)) (count_by lives (values_of s.sessions.sessions)) (one session.live) (kept ∙ here) (count_step lives s.sessions client of_session.ended session found)
    where
      most : (a b c o : ℕ) → a ≡ b → b + o ≡ c + 0 → a ≤ c + 1
      most a b c o h k = omega (arith, h, k)

  ended_alike : (r : MasterState) (asked : WaitingRequest) (note : Option HandleNote) (answer : CallResult) → AreAlike (ended r asked note answer).sessions r.sessions
  ended_alike r asked note answer = alike_then r.sessions (recorded r asked.client _).sessions (ended r asked note answer).sessions (note_alike (recorded r asked.client _) note) (stepped_alike r.sessions asked.client (of_session.keeping _) (λ before. refl) (λ before. refl))

  less_by_case : (c : SweepCase s) → (swept_by s c).1.quiet ≡ false → HasLessToDo s.clock (swept_by s c).0 s
  less_by_case (Quiet none) h = absurd (cc)
  less_by_case (Recovers recovering heard) h = inr (
    nothing_more (asked_left s),
    less_by (one s.recovering) (count_by (λ w. not (is_asked w.change.body)) s.gate.waiting) (count_by (λ e. not (is_going s e)) s.nodes) (count_by (is_over s.clock s) s.nodes) (count_by parks (values_of s.sessions.sessions)) (ap one recovering),
  )
  less_by_case (Expires client session due) h = expires_less client session (lapses_puts s (lapses_of partings.Expiry s client)) ([] ++ lapses_replies s (lapses_of partings.Expiry s client)) due.found due.live
  less_by_case (AnswersBeat client session beat due) h = answers_less client session beat due.found due.is_parked
  less_by_case (TurnedAway front back asked principal received turn work may) h = by_turn (rest s front back) front back asked turn refl (alike_itself s.sessions)
  less_by_case (StartedAgain front back asked principal received session turn work found live) h =
      by_turn (rest (record s { sessions = with_session s.sessions asked.client (prolonged (s.clock + s.sessions.lease)) }) front back) front back asked turn refl (stepped_alike s.sessions asked.client (prolonged (s.clock + s.sessions.lease)) (λ before. refl) (λ before. refl))
  less_by_case (Started front back asked principal received turn work none) h =
      let new : Session Reply = session_until principal true (s.clock + s.sessions.lease) in
      let begun : SessionTable Reply = with_new s.sessions asked.client new in
      let most = begun_live s.sessions asked.client new (sessions_ordered cell rows s k) in
      by_retiring s (λ o. HasLessToDo s.clock (rest (retired (record s { sessions = begun }) o) front back) s)
      (turn_leaves_less s.clock s (rest (record s { sessions = begun }) front back) front back asked turn refl most)
      (λ client gone. turn_leaves_less s.clock s (rest (retired (record s { sessions = begun }) (Some client)) front back) front back asked turn refl (gone_live begun client _ most))
  less_by_case (Reopens instance due) h = reopens_less cell rows s instance k due.lowest_due
  less_by_case (Tidies idle due) h = tidies_less cell rows s idle k due.first_idle
  less_by_case (Spared front back idle turn held) h = spared_less cell rows s k front back idle turn held
  less_by_case (Tidied front back idle turn still) h = tidied_less cell rows s k front back idle turn
  less_by_case (OfEnded front back asked call sequencer turn work gone) h = by_turn (rest s front back) front back asked turn refl (alike_itself s.sessions)
  less_by_case (Departed front back asked call sequencer session turn work leave found live) h =
      let puts = lapses_puts s (lapses_of partings.Leave s asked.client) in
      let replies = left_reply s asked ∷ lapses_replies s (lapses_of partings.Leave s asked.client) in
      turn_leaves_less s.clock s (told (with_locks (parted partings.Leave (rest s front back) asked.client) puts) replies) front back asked turn refl (parting_live (rest s front back) asked.client session puts replies refl found)
  less_by_case (Ended front back asked call sequencer note answer turn work stays live made) h =
      let r = rest s front back in
      by_turn (ended r asked note answer) front back asked turn (note_waits (recorded r asked.client _) note) (ended_alike r asked note answer)
  less_by_case (Applied front back asked call sequencer note change answer turn work stays live made) h =
      let r = mapped (rest s front back) change in
      by_turn (ended r asked note answer) front back asked turn (note_waits (recorded r asked.client _) note) (ended_alike r asked note answer)
  less_by_case (Deleted front back asked call sequencer change instance waiters answer turn work stays live made) h =
      let e = ended (mapped (rest s front back) change) asked None answer in
      let replies = replies_to s (results.Refused faults.StaleInstance) waiters in
      by_turn (without_lock (told e replies) (Some instance)) front back asked turn refl (alike_then s.sessions e.sessions (told e replies).sessions (kept_alike (kept_puts replies) e) (ended_alike (mapped (rest s front back) change) asked None answer))
  less_by_case (Locked front back asked call sequencer put claim answer turn work stays live made) h =
      let r = with_locks (rest s front back) (put ∷ []) in
      by_turn (ended r asked None answer) front back asked turn refl (ended_alike r asked None answer)
  less_by_case (Awaited front back asked call sequencer put turn work stays live made) h = by_turn (with_locks (rest s front back) (put ∷ [])) front back asked turn refl (alike_itself s.sessions)
  less_by_case (Left front back asked call sequencer note leave answer turn work stays live made) h =
      let r = with_locks (rest s front back) (left_put leave ∷ []) in
      let e = ended r asked note answer in
      let replies = turn_replies s leave.turn in
      by_turn (told e replies) front back asked turn (note_waits (recorded r asked.client _) note) (alike_then s.sessions e.sessions (told e replies).sessions (kept_alike (kept_puts replies) e) (ended_alike r asked note answer))

-- ---- a sweep

told_like : (tellings : List SessionEvent) (s : MasterState) → IsLike (with_tellings s tellings) s
told_like tellings s = record { recovering = refl; waiting = refl; nodes = refl; handles = refl; locks = refl; sessions = told_alike tellings s }

pub sweeps_leave_less : SweepsLeaveLess
sweeps_leave_less cell rows s new now done k h busy =
    let there = noted s now in
    let n = clock_kept cell rows s (max s.clock now) k in
    let c = swept_case s new now done (sessions_ordered cell rows s k) k.orderly h in
    let tellings = first_tellings there in
    let is : new ≡ with_tellings (swept_by there c.0).0 tellings = ap (λ (p : MasterState × Swept). p.0) c.1 in
    let quiet : (swept_by there c.0).1.quiet ≡ false = ap (λ (p : MasterState × Swept). p.1.quiet) (sym c.1) ∙ busy in
    let less : HasLessToDo there.clock (swept_by there c.0).0 there = less_by_case cell rows there n c.0 quiet in
    let P : MasterState → Type 0 = λ m. HasLessToDo (max s.clock now) m s in
    subst P (sym is) (less_alike (max s.clock now) (with_tellings (swept_by there c.0).0 tellings) (swept_by there c.0).0 s (told_like tellings (swept_by there c.0).0) less)

-- ---- many

pub record Stands (clock now : ℕ) (s : MasterState) : Type 0 where
  pub cell : List ℕ
  pub rows : Rows
  pub kept : IsKept cell rows s
  pub moment : max s.clock now ≡ clock

pub stands_behind : (clock now : ℕ) (s new : MasterState) (done : Swept) → Stands clock now s → sweep_step s now ≡ Ok (new, done) → Stands clock now new
stands_behind clock now s new done t h =
    let there = noted s now in
    let c = swept_case s new now done (sessions_ordered t.cell t.rows s t.kept) t.kept.orderly h in
    let tellings = first_tellings there in
    let after = (swept_by there c.0).0 in
    let is : new ≡ with_tellings after tellings = ap (λ (p : MasterState × Swept). p.0) c.1 in
    let rows = changed_rows t.rows (swept_edits there c.0) in
    let kept : IsKept t.cell rows after = case_kept t.cell t.rows there c.0 (clock_kept t.cell t.rows s (max s.clock now) t.kept) in
    let same : after.clock ≡ max s.clock now = clock_by_sweep there c.0 in
    subst (Stands clock now) (sym is) (record { cell = t.cell; rows = rows; kept = tellings_kept t.cell rows after tellings kept; moment = once after.clock s.clock now clock same t.moment })
  where
    once : (a b n c : ℕ) → a ≡ max b n → max b n ≡ c → max a n ≡ c
    once a b n c h k = omega (arith, h, k)

at_most : (a b n : ℕ) → a < b → b ≤ n → a < n
at_most a b n h k = omega (arith, h, k)

no_higher : (a b n : ℕ) → a ≤ b → b ≤ n → a ≤ n
no_higher a b n h k = omega (arith, h, k)

one_lower : (a n : ℕ) → a < suc n → a ≤ n
one_lower a n h = omega (arith, h)

none_below : {P : Type 0} (a : ℕ) → a < 0 → P
none_below a h = absurd (omega (arith, h))

module _ (clock now : ℕ) where
  -- a sweep, and then what is left
  one_sweep : (asked own : ℕ) → ((s : MasterState) → Stands clock now s → asked_left s < asked → ComesToRest now s) → ((s : MasterState) → Stands clock now s → asked_left s ≤ asked → own_left clock s < own → ComesToRest now s) → (s : MasterState) → Stands clock now s → asked_left s ≤ asked → own_left clock s ≤ own → ComesToRest now s
  one_sweep asked own lower rest s t first second =
      (elim (sweep_step s now) as (λ r. sweep_step s now ≡ r → ComesToRest now s) [
        | Ok done ↦ (λ h. by_flag done.0 done.1 done.1.quiet refl h)
        | Err fault ↦ (λ h. IsRefused s fault h)
      ]) refl
    where
      goes_on : (new : MasterState) → Stands clock now new → HasLessToDo clock new s → ComesToRest now new
      goes_on new there less = elim less [
        | inl fewer ↦ lower new there (at_most (asked_left new) (asked_left s) asked fewer first)
        | inr parts ↦ rest new there (no_higher (asked_left new) (asked_left s) asked parts.0 first) (at_most (own_left clock new) (own_left clock s) own parts.1 second)
      ]

      by_flag : (new : MasterState) (done : Swept) (quiet : Bool) → done.quiet ≡ quiet → sweep_step s now ≡ Ok (new, done) → ComesToRest now s
      by_flag new done true is h = Rests s new done h is
      by_flag new done false is h =
          let L : ℕ → Type 0 = λ m. HasLessToDo m new s in
          GoesOn s new done h is (goes_on new (stands_behind clock now s new done t h) (subst L t.moment (sweeps_leave_less t.cell t.rows s new now done t.kept h is)))

  by_own : (asked own : ℕ) → ((s : MasterState) → Stands clock now s → asked_left s < asked → ComesToRest now s) → (s : MasterState) → Stands clock now s → asked_left s ≤ asked → own_left clock s ≤ own → ComesToRest now s
  by_own asked zero lower s t first second = one_sweep asked zero lower (λ new there no less. none_below (own_left clock new) less) s t first second
  by_own asked (suc own) lower s t first second = one_sweep asked (suc own) lower (λ new there no less. by_own asked own lower new there no (one_lower (own_left clock new) own less)) s t first second

  by_asked : (asked : ℕ) → (s : MasterState) → Stands clock now s → asked_left s ≤ asked → ComesToRest now s
  by_asked zero s t first = by_own zero (own_left clock s) (λ new there less. none_below (asked_left new) less) s t first (nothing_more (own_left clock s))
  by_asked (suc asked) s t first = by_own (suc asked) (own_left clock s) (λ new there less. by_asked asked new there (one_lower (asked_left new) asked less)) s t first (nothing_more (own_left clock s))

pub settling_ends : SettlingEnds
settling_ends cell rows s now k = by_asked (max s.clock now) now (asked_left s) s (record { cell = cell; rows = rows; kept = k; moment = refl }) (nothing_more (asked_left s))
