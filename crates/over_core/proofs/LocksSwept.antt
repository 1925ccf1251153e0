-- Locks that change in a sweep leave the master beside its rows.
use Rattle.std.proofs.Common.{◌≡◌, ◌≢◌, ℕ, ◌+◌, ◌≤◌, List, [], ◌∷◌, ◌++◌, Bool, true, false, cond, Option, Some, None, refl, sym, ap, subst, ◌∙◌, arith}
use Rattle.std.specs.Prelude.{◌&&◌, ◌||◌, ◌==◌, not, nat_le, is_none, filter, find}
use Rattle.std.specs.Option.{option_map, option_map_or}
use Rattle.std.specs.List.{AllByRecursion, list_all, list_any, sum_by}
use Rattle.std.specs.List.Sorted.{IsStrictlySortedBy}
use Rattle.std.specs.Map.{keys_of, lookup, values_of, set_value}
use Rattle.std.specs.BTreeMap.{is_at, insert_entry}
use Rattle.std.specs.Ordering.{nat_cmp}
use Rattle.std.specs.Cmp.{nat_cmp_total}
use Rattle.std.specs.Cmp.Lexicographic.{slice_cmp}
use Rattle.std.proofs.lemmas.Bool.{and_parts, not-true}
use Rattle.std.proofs.lemmas.Bool.Decides.{nat_tests}
use Rattle.std.proofs.lemmas.List.Sums.{sum_by-cons}
use Rattle.collections.proofs.Keys.{number_same}
use Rattle.std.proofs.lemmas.Map.Lookups.{exact_unsigned}
use Rattle.node_core.specs.Limits.{lock_delay_limit}
use Rattle.node_core.specs.Nodes.{Nodes}
use Rattle.rows_cell.specs.declared.tables.SessionRow as stored
use Rattle.rows_cell.specs.declared.tables.Rows.{Rows}
use Rattle.rows_cell.specs.declared.tables.Edit.TheVariants.{PutSession}
use Rattle.rows_cell.specs.Rows.{changed_rows, map_of}
use Rattle.rows_cell.specs.Sound.{sound, is_number, are_distinct}
use Rattle.rows_cell.proofs.EntriesInOrder.{sorted_put, sorted_kept, put_is_set}
use Rattle.rows_cell.proofs.PutEntries.{all_found}
use Rattle.rows_cell.proofs.RowNodes.{keys_of_nodes}
use Rattle.rows_cell.proofs.SoundParts.{parts_of}
use Rattle.rows_cell.proofs.LockChanges.{ChangesFit, nodes_behind, locks_behind, expiry_sound, expiry_done}
use Rattle.tags_cell.specs.Numbers.{is_client_number}
use Rattle.tags_cell.specs.declared.messages.outs.Reply.{Reply}
use Rattle.rights_core.specs.declared.endings.Ending.TheVariants as endings
use Rattle.gate_core.specs.declared.pending.Waiting.{Waiting}
use Rattle.session_core.specs.declared.records.Session.{Session}
use Rattle.session_core.specs.Session as of_session
use Rattle.session_core.specs.Sessions.{SessionTable, kept_of, is_live, with_session}
use Rattle.session_core.proofs.OneClient.{own_session, other_session}
use Rattle.session_core.proofs.RowsOfSessions.{rows_of, rows_of-set_value, lookup-rows_of}
use Rattle.lock_core.specs.declared.claims.Owner.{Owner}
use Rattle.lock_core.specs.declared.claims.Hold.{Hold}
use Rattle.lock_core.specs.declared.claims.Claim.{Claim}
use Rattle.lock_core.specs.declared.claims.Closing.{Closing}
use Rattle.lock_core.specs.declared.turns.Turn.{Turn}
use Rattle.lock_core.specs.State.{LockState, nobody_holds}
use Rattle.lock_core.specs.Turns.{is_nobody, is_of_client, reopened, concerns, time_left}
use Rattle.lock_core.specs.Locks.{LockTable, lock_at, with_lock, is_due, due}
use Rattle.master_parts.specs.OpenHandles.{without_client}
use Rattle.master_state.specs.Departed.{with_departed}
use Rattle.master_state.specs.declared.updates.LockPut.{LockPut}
use Rattle.master_parts.specs.declared.pending.Task.{Task}
use Rattle.master_state.specs.State.{MasterState}
use Rattle.master_parts.specs.StoredSessions.{row_of, session_rows}
use Rattle.master_state.specs.Lookups.{session_of}
use Rattle.master_state.specs.Updates.{with_locks, lock_changes}
use Rattle.master_state.specs.CallsWaiting.{is_call}
use Rattle.over_core.specs.Kept.{IsKept, AreLocksKept, IsLockKept, HaveOneCall, is_idle, is_there, claim_fits, waiter_fits, claim_count, is_other_call, work_count, waits_count, count_of, count_in, outstanding, unanswered, is_unanswered, AreOne}
use Rattle.master_state.specs.Replies.{puts_of, turn_replies}
use Rattle.master_state.specs.Lapses.{lapses_of, lapses_puts, lapses_replies}
use Rattle.over_core.specs.SweepCase.{told, relocking, parted, without_session, parting_edits}
use Rattle.over_core.proofs.EachSession.{step_each, step_without}
use Rattle.over_core.proofs.KeptByTakes.{IsByBeats, IsIssued, HasNoRight, ended_kept}
use Rattle.over_core.proofs.LockClaims.{IsFit, reopened_fit, settled_higher, settled_waiters}
use Rattle.over_core.proofs.LockPuts.{IsPut, instances_of, fit_of, kept_of_fit, puts_fit}
use Rattle.over_core.proofs.LocksKept.{rows_behind, puts_sound, puts_sorted, puts_map, puts_done, puts_kept, puts_kept_with, put_there}
use Rattle.over_core.proofs.LocksLapsed.{told_and_waiting, sorted_distinct, unconcerned, locks_among, puts_free, IsLapsing, lapsed_instances, lapsed_fit, lapsed_put, lapsed_waits, waits_in, other_kept}
use Rattle.master_parts.proofs.FirstEntries.{all_of_found}
use Rattle.over_core.proofs.NamedLocks.{all_kept, own_locks, named_put, puts_are, named_is_put, not_idle}
use Rattle.over_core.proofs.OneCall.{at_most_one, one_if, none_in_gate, sum_put, one_put, one_same}
use Rattle.over_core.proofs.RepliesKept.{told_of, told_of_all, turn_replies_are_to, lapses_replies_are_to, told_kept, AreTo, all_append}
use Rattle.over_core.proofs.SessionReads.{lives_in, keeps_in, reads_step}
use Rattle.lock_core.specs.declared.partings.Parting.{Parting}
use Rattle.master_state.specs.Partings.{ending_by}

-- ---- locks that are put

module _ (cell : List ℕ) (rows : Rows) (s : MasterState) (puts : List LockPut) (k : IsKept cell rows s) (all : AllByRecursion (IsPut rows s.locks s.sessions) puts) (distinct : are_distinct (instances_of puts) ≡ true) where
  names_stay : IsStrictlySortedBy (slice_cmp nat_cmp) (keys_of (rows_behind rows s.locks puts).nodes)
  names_stay =
      let P : List (List ℕ) → Type 0 = IsStrictlySortedBy (slice_cmp nat_cmp) in
      let views : map_of (rows_behind rows s.locks puts) ≡ map_of rows = puts_map cell rows s puts k.sound_rows k.sessions k.locks_in_order k.locks all distinct in
      subst P (sym (sym (keys_of_nodes (rows_behind rows s.locks puts).nodes) ∙ ap (λ (ns : Nodes). keys_of ns) views ∙ keys_of_nodes rows.nodes)) k.names_in_order

  behind_kept : HaveOneCall (with_locks s puts) → IsKept cell (rows_behind rows s.locks puts) (with_locks s puts)
  behind_kept one =
      let P : Rows → Type 0 = λ r. sound cell r ≡ true in
      record {
        name = k.name;
        secret = k.secret;
        epoch = k.epoch;
        next_instance = k.next_instance;
        ended_below = k.ended_below;
        nodes = k.nodes ∙ sym (puts_map cell rows s puts k.sound_rows k.sessions k.locks_in_order k.locks all distinct);
        sessions = k.sessions;
        sound_rows = subst P (puts_done cell rows s puts k.sound_rows k.sessions k.locks_in_order k.locks all distinct) (puts_sound cell rows s puts k.sound_rows k.sessions k.locks_in_order k.locks all distinct);
        waiting = k.waiting;
        locks = puts_kept cell rows s puts k.sound_rows k.sessions k.locks_in_order k.locks all distinct k.nodes;
        one_call = one;
        names_in_order = names_stay;
        sessions_in_order = k.sessions_in_order;
        locks_in_order = puts_sorted cell rows s puts k.sound_rows k.sessions k.locks_in_order k.locks all distinct;
        recovery_is_empty = k.recovery_is_empty;
        by_beats = k.by_beats;
        recorded = k.recorded;
        issued = k.issued;
        owned = k.owned;
        orderly = k.orderly;
        touching = k.touching;
        own = k.own;
      }

  pub relocked_kept : HaveOneCall (with_locks s puts) → IsKept cell (changed_rows rows (relocking s puts)) (with_locks s puts)
  relocked_kept one =
      let P : Rows → Type 0 = λ r. IsKept cell r (with_locks s puts) in
      subst P (sym (puts_done cell rows s puts k.sound_rows k.sessions k.locks_in_order k.locks all distinct)) (behind_kept one)

-- one lock
pub one_relocked : (cell : List ℕ) (rows : Rows) (s : MasterState) (put : LockPut) → IsKept cell rows s → IsPut rows s.locks s.sessions put → HaveOneCall (with_locks s (put ∷ [])) → IsKept cell (changed_rows rows (relocking s (put ∷ []))) (with_locks s (put ∷ []))
one_relocked cell rows s put k is one = relocked_kept cell rows s (put ∷ []) k (is, tt) refl one

-- ---- who waits then

none_then : (gate new old sum more e : ℕ) → new + old ≡ sum + more → more ≤ old → gate + sum ≡ 0 → gate + new ≡ 0
none_then gate new old sum more e h k l = omega (arith, h, k, l)

-- of a client that doesn't wait none waits after it
pub none_put : (waiting : List (Waiting Task)) (locks : LockTable) (instance : ℕ) (lock : LockState) (q : ℕ) → IsStrictlySortedBy nat_cmp (keys_of locks) → waits_count q lock ≤ waits_count q (lock_at locks instance) → count_in waiting locks q ≡ 0 → count_in waiting (with_lock locks instance lock) q ≡ 0
none_put waiting locks instance lock q sorted less none =
    none_then (sum_by (work_count is_call q) waiting) (sum_by (waits_count q) (values_of (with_lock locks instance lock))) (waits_count q (lock_at locks instance)) (sum_by (waits_count q) (values_of locks)) (waits_count q lock) 0
    (sum_put q locks instance lock sorted) less none

-- where no call of a client waits in the gate
pub of_quiet : (q : ℕ) (waiting : List (Waiting Task)) (locks : LockTable) → sum_by (work_count is_call q) waiting ≡ 0 → count_of is_other_call waiting locks q ≡ 0 → count_in waiting locks q ≡ 0
of_quiet q waiting locks quiet none = rest_none (sum_by (work_count is_call q) waiting) (sum_by (work_count is_other_call q) waiting) (sum_by (waits_count q) (values_of locks)) quiet none
  where
    rest_none : (calls others waits : ℕ) → calls ≡ 0 → others + waits ≡ 0 → calls + waits ≡ 0
    rest_none calls others waits h k = omega (arith, h, k)

told_then : (gate new old sum more told e : ℕ) → new + old ≡ sum + more → told + more ≤ old → gate + sum ≤ e → e ≤ 1 → 1 ≤ told → gate + new ≡ 0
told_then gate new old sum more told e h k l m n = omega (arith, h, k, l, m, n)

-- who is told that it got the lock, or can't get it, and of which no call waits in the gate, waits no longer
pub told_put : (waiting : List (Waiting Task)) (locks : LockTable) (sessions : SessionTable Reply) (instance : ℕ) (turn : Turn) → IsStrictlySortedBy nat_cmp (keys_of locks) → ((q : ℕ) → told_of q turn + waits_count q turn.lock ≤ waits_count q (lock_at locks instance)) → AreOne waiting locks sessions → (q : ℕ) → 1 ≤ told_of q turn → sum_by (work_count is_call q) waiting ≡ 0 → count_in waiting (with_lock locks instance turn.lock) q ≡ 0
told_put waiting locks sessions instance turn sorted waited one q some quiet =
    of_quiet q waiting (with_lock locks instance turn.lock) quiet
    (told_then (sum_by (work_count is_other_call q) waiting) (sum_by (waits_count q) (values_of (with_lock locks instance turn.lock))) (waits_count q (lock_at locks instance)) (sum_by (waits_count q) (values_of locks)) (waits_count q turn.lock) (told_of q turn) (unanswered (kept_of sessions q))
    (sum_put q locks instance turn.lock sorted) (waited q) (one.1 q) (at_most_one (is_unanswered (kept_of sessions q))) some)

second_less : (a b c : ℕ) → a + b ≤ c → b ≤ c
second_less a b c h = omega (arith, h)

-- no more wait for it than did
pub turn_one : (waiting : List (Waiting Task)) (locks : LockTable) (sessions : SessionTable Reply) (instance : ℕ) (turn : Turn) → IsStrictlySortedBy nat_cmp (keys_of locks) → ((q : ℕ) → told_of q turn + waits_count q turn.lock ≤ waits_count q (lock_at locks instance)) → AreOne waiting locks sessions → AreOne waiting (with_lock locks instance turn.lock) sessions
turn_one waiting locks sessions instance turn sorted waited one =
    one_put waiting locks sessions instance turn.lock sorted (λ q. second_less (told_of q turn) (waits_count q turn.lock) (waits_count q (lock_at locks instance)) (waited q)) one

-- ---- a lock that is open again

due_entry : (o : Option (ℕ × LockState)) (instance : ℕ) → option_map (λ (e : ℕ × LockState). e.0) o ≡ Some instance → (e : ℕ × LockState) × (o ≡ Some e) × (e.0 ≡ instance)
due_entry None instance h = absurd cc
due_entry (Some e) instance h = let same : e.0 ≡ instance = cc in (e, refl, same)

and_false : (a : Bool) → (a && false) ≡ false
and_false true = refl
and_false false = refl

busy_by_closing : (a b c : Bool) (closed : Option Closing) (now : ℕ) → option_map_or (λ closing. time_left closing now == 0) closed false ≡ true → (a && is_none closed && b && c) ≡ false
busy_by_closing a b c None now h = absurd cc
busy_by_closing a b c (Some closing) now h = ap (λ x. x && b && c) (and_false a)

due_is : (locks : LockTable) (now instance : ℕ) → IsStrictlySortedBy nat_cmp (keys_of locks) → due locks now ≡ Some instance → is_due now (lock_at locks instance) ≡ true
due_is locks now instance sorted h =
    let t = due_entry (find (λ (e : ℕ × LockState). is_due now e.1) locks) instance h in
    let u = all_of_found (λ (e : ℕ × LockState). lock_at locks e.0 ≡ e.1) (λ e. is_due now e.1) locks t.0 (own_locks locks sorted) t.1 in
    ap (λ n. is_due now (lock_at locks n)) (sym t.2) ∙ ap (is_due now) u.0 ∙ u.1

module _ (cell : List ℕ) (rows : Rows) (s : MasterState) (k : IsKept cell rows s) (instance : ℕ) (lowest : due s.locks s.clock ≡ Some instance) where
  abbrev old : LockState
  old = lock_at s.locks instance

  abbrev turn : Turn
  turn = reopened old

  due_busy : is_idle old ≡ false
  due_busy = busy_by_closing (old.generation == 0) (nobody_holds old) (is_nobody old.waiters) old.closed s.clock (due_is s.locks s.clock instance k.locks.in_order lowest)

  reopened_waits : (q : ℕ) → told_of q turn + waits_count q turn.lock ≤ waits_count q old
  reopened_waits q = same (told_of q turn + waits_count q turn.lock) (waits_count q old) (told_and_waiting q turn ∙ ap (λ (ws : List Claim). waits_count q (record old { waiters = ws })) (settled_waiters (record old { closed = None })))
    where
      same : (a b : ℕ) → a ≡ b → a ≤ b
      same a b h = omega (arith, h)

  put_kept : (puts : List LockPut) (put : LockPut) → puts ≡ put ∷ [] → IsPut rows s.locks s.sessions put → put.instance ≡ instance → put.lock ≡ turn.lock → IsKept cell (changed_rows rows (relocking s puts)) (told (with_locks s puts) (turn_replies s turn))
  put_kept puts put are is at lock =
      let P : List LockPut → Type 0 = λ ps. IsKept cell (changed_rows rows (relocking s ps)) (told (with_locks s ps) (turn_replies s turn)) in
      let new : LockTable = with_lock s.locks instance turn.lock in
      let same : with_lock s.locks put.instance put.lock ≡ new = ap (λ n. with_lock s.locks n put.lock) at ∙ ap (λ l. with_lock s.locks instance l) lock in
      let One : LockTable → Type 0 = λ ls. AreOne s.gate.waiting ls s.sessions in
      let Told : LockTable → Type 0 = λ ls. (q : ℕ) → 1 ≤ told_of q turn → sum_by (work_count is_call q) s.gate.waiting ≡ 0 → count_in s.gate.waiting ls q ≡ 0 in
      let one : One (with_lock s.locks put.instance put.lock) = subst One (sym same) (turn_one s.gate.waiting s.locks s.sessions instance turn k.locks.in_order reopened_waits k.one_call) in
      let none : Told (with_lock s.locks put.instance put.lock) = subst Told (sym same) (told_put s.gate.waiting s.locks s.sessions instance turn k.locks.in_order reopened_waits k.one_call) in
      subst P (sym are)
      (told_kept cell (changed_rows rows (relocking s (put ∷ []))) (turn_replies s turn) (with_locks s (put ∷ []))
      (turn_replies_are_to (λ q. outstanding (with_locks s (put ∷ [])) q ≡ 0) s turn (λ q some quiet. none q some (none_in_gate q s.gate.waiting quiet))) (one_relocked cell rows s put k is one))

  pub reopened_kept : IsKept cell (changed_rows rows (relocking s (puts_of s instance turn.lock))) (told (with_locks s (puts_of s instance turn.lock)) (turn_replies s turn))
  reopened_kept =
      let named = not_idle cell rows s instance k due_busy in
      let fit = reopened_fit (claim_fits s.sessions) (waiter_fits s.sessions) (λ claim is. (waiter_parts s.sessions claim is)) old (fit_of s.nodes s.sessions instance old (k.locks.each instance)) in
      put_kept (puts_of s instance turn.lock) (named_put named.name instance turn.lock) (puts_are s instance turn.lock named.name named.is)
      (named_is_put rows s instance turn.lock named fit (settled_higher (record old { closed = None }))) refl refl
    where
      waiter_parts : (sessions : SessionTable Reply) (claim : Claim) → waiter_fits sessions claim ≡ true → claim_fits sessions claim.owner claim.hold ≡ true
      waiter_parts sessions claim is = (and_parts (is_client_number claim.owner.client) (claim_fits sessions claim.owner claim.hold) is).1

-- ---- a session that ends

not_equal : (a b : ℕ) → (a == b) ≡ false → a ≢ b
not_equal a b h same = absurd (grind (arith, nat_tests))

dead_then : (o : Option (Session Reply)) → lives_in (option_map of_session.ended o) ≡ false
dead_then None = refl
dead_then (Some session) = refl

both_none : (a b : ℕ) → a ≡ 0 → b ≡ 0 → a + b ≡ 0
both_none a b h k = omega (arith, h, k)

first_true : (a b c : Bool) → (a && b && c) ≡ true → a ≡ true
first_true true b c h = refl
first_true false b c h = cc

-- who waits for a lock has a live session
dead_claims : (sessions : SessionTable Reply) (client : ℕ) → is_live sessions client ≡ false → (claims : List Claim) → list_all (waiter_fits sessions) claims ≡ true → sum_by (claim_count client) claims ≡ 0
dead_claims sessions client dead [] h = refl
dead_claims sessions client dead (claim ∷ claims) h =
    let t = and_parts (waiter_fits sessions claim) (list_all (waiter_fits sessions) claims) h in
    let fits : claim_fits sessions claim.owner claim.hold ≡ true = (and_parts (is_client_number claim.owner.client) (claim_fits sessions claim.owner claim.hold) t.0).1 in
    let lives : is_live sessions claim.owner.client ≡ true = first_true (is_live sessions claim.owner.client) (is_number claim.owner.handle) (nat_le claim.hold.delay lock_delay_limit) fits in
    sum_by-cons (claim_count client) claim claims ∙ both_none (claim_count client claim) (sum_by (claim_count client) claims) (apart claim.owner.client lives) (dead_claims sessions client dead claims t.1)
  where
    apart : (q : ℕ) → is_live sessions q ≡ true → one_if (q == client) ≡ 0
    apart q lives = (elim (q == client) as (λ b. (q == client) ≡ b → one_if b ≡ 0) [
      | true ↦ (λ e.
          let same : q ≡ client = number_same q client e in
          let both : true ≡ false = sym lives ∙ ap (is_live sessions) same ∙ dead in
          cc)
      | false ↦ (λ e. refl)
    ]) refl

pub dead_waits : (sessions : SessionTable Reply) (client : ℕ) → is_live sessions client ≡ false → (locks : LockTable) → AllByRecursion (λ (e : ℕ × LockState). lock_at locks e.0 ≡ e.1) locks → ((n : ℕ) → list_all (waiter_fits sessions) (lock_at locks n).waiters ≡ true) → sum_by (waits_count client) (values_of locks) ≡ 0
dead_waits sessions client dead locks own fits = by_entries locks own
  where
    by_entries : (es : LockTable) → AllByRecursion (λ (e : ℕ × LockState). lock_at locks e.0 ≡ e.1) es → sum_by (waits_count client) (values_of es) ≡ 0
    by_entries [] h = refl
    by_entries (e ∷ es) h =
        let here : list_all (waiter_fits sessions) e.1.waiters ≡ true = ap (λ (l : LockState). list_all (waiter_fits sessions) l.waiters) (sym h.0) ∙ fits e.0 in
        sum_by-cons (waits_count client) e.1 (values_of es) ∙ both_none (waits_count client e.1) (sum_by (waits_count client) (values_of es)) (dead_claims sessions client dead e.1.waiters here) (by_entries es h.1)

module _ (parting : Parting) (cell : List ℕ) (rows : Rows) (s : MasterState) (k : IsKept cell rows s) (client : ℕ) (session : Session Reply) (found : session_of s client ≡ Some session) where
  abbrev put : stored.SessionRow
  put = record { principal = session.principal; live = false }

  abbrev new_sessions : SessionTable Reply
  new_sessions = with_session s.sessions client of_session.ended

  abbrev changed : LockTable
  changed = filter (λ (e : ℕ × LockState). concerns client e.1) s.locks

  abbrev puts : List LockPut
  puts = lapses_puts s (lapses_of parting s client)

  lapsing : AllByRecursion (IsLapsing parting cell rows s client k) changed
  lapsing = all_kept (λ (e : ℕ × LockState). lock_at s.locks e.0 ≡ e.1) (λ e. concerns client e.1) s.locks (own_locks s.locks k.locks.in_order)

  changed_in_order : IsStrictlySortedBy nat_cmp (keys_of changed)
  changed_in_order = sorted_kept nat_cmp (λ (e : ℕ × LockState). concerns client e.1) s.locks k.locks.in_order

  are_puts : AllByRecursion (IsPut rows s.locks s.sessions) puts
  are_puts = lapsed_put parting cell rows s client k changed lapsing

  instances : instances_of puts ≡ keys_of changed
  instances = lapsed_instances parting cell rows s client k changed lapsing

  apart : are_distinct (instances_of puts) ≡ true
  apart = ap are_distinct instances ∙ sorted_distinct (keys_of changed) changed_in_order

  -- all other sessions are as they were
  lives_on : (q : ℕ) → (q == client) ≡ false → is_live new_sessions q ≡ is_live s.sessions q
  lives_on q other = ap lives_in (other_session s.sessions client of_session.ended q (not_equal q client other))

  ended_is_dead : is_live new_sessions client ≡ false
  ended_is_dead = ap lives_in (own_session s.sessions client of_session.ended) ∙ dead_then (session_of s client)

  keeps : (owner : Owner) (hold : Hold) → not (is_of_client client owner) ≡ true → claim_fits s.sessions owner hold ≡ true → claim_fits new_sessions owner hold ≡ true
  keeps owner hold away h = ap (λ b. b && is_number owner.handle && nat_le hold.delay lock_delay_limit) (lives_on owner.client (not-true (owner.client == client) away)) ∙ h

  are_fit : AllByRecursion (λ put. IsFit (claim_fits new_sessions) (waiter_fits new_sessions) put.lock) puts
  are_fit = lapsed_fit parting cell rows s client k new_sessions keeps changed lapsing

  each_kept : (ps : List LockPut) → AllByRecursion (IsPut rows s.locks s.sessions) ps → AllByRecursion (λ put. IsFit (claim_fits new_sessions) (waiter_fits new_sessions) put.lock) ps → AllByRecursion (λ put. IsLockKept s.nodes new_sessions put.instance put.lock) ps
  each_kept [] are fits = tt
  each_kept (p ∷ ps) are fits = (
    kept_of_fit s.nodes new_sessions p.instance p.lock (or_there (is_idle p.lock) (is_there s.nodes p.instance) (put_there rows s.locks s.sessions s.nodes p k.nodes are.0)) fits.0,
    each_kept ps are.1 fits.1,
  )
    where
      or_there : (a b : Bool) → b ≡ true → (a || b) ≡ true
      or_there true b h = refl
      or_there false b h = h

  -- ---- the rows

  -- the row of the session
  row_found : lookup (is_at (nat_cmp client)) rows.sessions ≡ Some (row_of session)
  row_found =
      let P : List (ℕ × stored.SessionRow) → Type 0 = λ es. lookup (is_at (nat_cmp client)) es ≡ Some (row_of session) in
      subst P k.sessions (lookup-rows_of row_of (is_at (nat_cmp client)) s.sessions.sessions session found)

  ended_sessions : session_rows new_sessions ≡ insert_entry nat_cmp rows.sessions client put
  ended_sessions =
      let P : Option (Session Reply) → Type 0 = λ o.
      rows_of row_of (option_map_or (λ (before : Session Reply). record (s.sessions) { sessions = set_value (is_at (nat_cmp client)) s.sessions.sessions (of_session.ended before) }) o s.sessions).sessions ≡ insert_entry nat_cmp rows.sessions client put in
      subst P (sym found)
      (rows_of-set_value row_of (is_at (nat_cmp client)) s.sessions.sessions (of_session.ended session)
      ∙ ap (λ (es : List (ℕ × stored.SessionRow)). set_value (is_at (nat_cmp client)) es put) k.sessions
      ∙ sym (put_is_set nat_cmp nat_cmp_total rows.sessions client put (row_of session) k.sessions_in_order row_found))

  fits_rows : ChangesFit rows (lock_changes s puts)
  fits_rows = puts_fit cell rows s.locks s.sessions k.sound_rows k.sessions k.locks.generations k.locks.rows_of_locks (λ n. (k.locks.each n).legal) puts are_puts apart

  abbrev ended_rows : Rows
  ended_rows = record rows { nodes = nodes_behind rows.nodes (lock_changes s puts); locks = locks_behind rows.locks (lock_changes s puts); sessions = insert_entry nat_cmp rows.sessions client put }

  ended_is : changed_rows rows (relocking s puts ++ PutSession client put ∷ []) ≡ ended_rows
  ended_is = expiry_done rows (lock_changes s puts) client put

  rows_sound : sound cell ended_rows ≡ true
  rows_sound =
      let P : Rows → Type 0 = λ r. sound cell r ≡ true in
      let number : is_number client ≡ true =
      all_found nat_cmp exact_unsigned (λ e. is_number e.0) rows.sessions client (row_of session) (parts_of cell rows k.sound_rows).sessions row_found in
      subst P ended_is
      (expiry_sound cell rows (lock_changes s puts) client put k.sound_rows k.locks_in_order fits_rows number
      (puts_free new_sessions client s.locks puts ended_is_dead are_fit) (locks_among client s.locks rows.locks puts k.locks.rows_of_locks instances))

  -- ---- the locks

  locks_kept : AreLocksKept ended_rows (record (with_locks s puts) { handles = without_client s.handles client; sessions = new_sessions; departed = with_departed s.departed client })
  locks_kept =
      let before = puts_kept cell rows s puts k.sound_rows k.sessions k.locks_in_order k.locks are_puts apart k.nodes in
      record {
        generations = before.generations;
        rows_of_locks = before.rows_of_locks;
        in_order = before.in_order;
        each = puts_kept_with cell rows s puts k.sound_rows k.sessions k.locks_in_order k.locks are_puts apart new_sessions (each_kept puts are_puts are_fit)
            (λ n none. other_kept parting cell rows s client k new_sessions keeps n (unconcerned client s.locks n (sym (ap (list_any (λ m. m == n)) instances) ∙ none)));
      }

  -- ---- who waits

  waits_less : (q : ℕ) → waits_in parting cell rows s client k q (with_locks s puts).locks + told_of_all q (lapses_of parting s client) ≤ waits_in parting cell rows s client k q s.locks
  waits_less q = lapsed_waits parting cell rows s client k q (λ locks instance lock sorted. sum_put q locks instance lock sorted) changed s.locks lapsing (own_changed s.locks (own_locks s.locks k.locks.in_order)) changed_in_order k.locks.in_order
    where
      own_changed : (es : LockTable) → AllByRecursion (λ (e : ℕ × LockState). lock_at s.locks e.0 ≡ e.1) es → AllByRecursion (λ (e : ℕ × LockState). lock_at s.locks e.0 ≡ e.1) (filter (λ (e : ℕ × LockState). concerns client e.1) es)
      own_changed [] h = tt
      own_changed (e ∷ es) h = elim (concerns client e.1) as (λ b. AllByRecursion (λ (f : ℕ × LockState). lock_at s.locks f.0 ≡ f.1) (cond b (e ∷ filter (λ (f : ℕ × LockState). concerns client f.1) es) (filter (λ (f : ℕ × LockState). concerns client f.1) es))) [ true ↦ (h.0, own_changed es h.1) | false ↦ own_changed es h.1 ]

  still_one : (gate new told old e : ℕ) → new + told ≤ old → gate + old ≤ e → gate + new ≤ e
  still_one gate new told old e h l = omega (arith, h, l)

  one_then : AreOne s.gate.waiting (with_locks s puts).locks new_sessions
  one_then =
      one_same s.gate.waiting (with_locks s puts).locks s.sessions new_sessions (λ q. reads_step keeps_in s.sessions client of_session.ended (λ before. refl) q)
      (k.one_call.0, λ q. still_one (sum_by (work_count is_other_call q) s.gate.waiting) (waits_in parting cell rows s client k q (with_locks s puts).locks) (told_of_all q (lapses_of parting s client)) (waits_in parting cell rows s client k q s.locks) (unanswered (kept_of s.sessions q)) (waits_less q) (k.one_call.1 q))

  none_left : (gate new told old e : ℕ) → new + told ≤ old → gate + old ≤ e → e ≤ 1 → 1 ≤ told → gate + new ≡ 0
  none_left gate new told old e h l m n = omega (arith, h, l, m, n)

  pub told_then_none : (q : ℕ) → 1 ≤ told_of_all q (lapses_of parting s client) → sum_by (work_count is_call q) s.gate.waiting ≡ 0 → count_in s.gate.waiting (with_locks s puts).locks q ≡ 0
  told_then_none q some quiet =
      of_quiet q s.gate.waiting (with_locks s puts).locks quiet
      (none_left (sum_by (work_count is_other_call q) s.gate.waiting) (waits_in parting cell rows s client k q (with_locks s puts).locks) (told_of_all q (lapses_of parting s client)) (waits_in parting cell rows s client k q s.locks) (unanswered (kept_of s.sessions q)) (waits_less q) (k.one_call.1 q) (at_most_one (is_unanswered (kept_of s.sessions q))) some)

  names_then : IsStrictlySortedBy (slice_cmp nat_cmp) (keys_of ended_rows.nodes)
  names_then = names_stay cell rows s puts k are_puts apart

  ended_kept_beside : IsKept cell ended_rows (record (with_locks s puts) { handles = without_client s.handles client; sessions = new_sessions; departed = with_departed s.departed client })
  ended_kept_beside = record {
    name = k.name;
    secret = k.secret;
    epoch = k.epoch;
    next_instance = k.next_instance;
    ended_below = k.ended_below;
    nodes = k.nodes ∙ sym (puts_map cell rows s puts k.sound_rows k.sessions k.locks_in_order k.locks are_puts apart);
    sessions = ended_sessions;
    sound_rows = rows_sound;
    waiting = k.waiting;
    locks = locks_kept;
    one_call = one_then;
    names_in_order = names_then;
    sessions_in_order = sorted_put nat_cmp nat_cmp_total rows.sessions client put k.sessions_in_order;
    locks_in_order = puts_sorted cell rows s puts k.sound_rows k.sessions k.locks_in_order k.locks are_puts apart;
    recovery_is_empty = k.recovery_is_empty;
    by_beats = step_each IsByBeats s.sessions client of_session.ended (λ before there h some. absurd (omega (arith, some))) k.by_beats;
    recorded = k.recorded;
    issued = step_each (IsIssued s.rights) s.sessions client of_session.ended (λ before there h. h) k.issued;
    owned = step_without (HasNoRight s.rights s.ended_below) s.sessions client of_session.ended k.owned;
    orderly = k.orderly;
    touching = k.touching;
    own = k.own;
  }

  -- its client waits for no lock then, and so for nothing, if none of its calls waits in the gate
  pub waits_for_none : sum_by (work_count is_call client) s.gate.waiting ≡ 0 → outstanding (with_locks (parted parting s client) puts) client ≡ 0
  waits_for_none quiet =
      both_none (sum_by (work_count is_call client) s.gate.waiting) (sum_by (waits_count client) (values_of (with_locks s puts).locks)) quiet
      (dead_waits new_sessions client ended_is_dead (with_locks s puts).locks (own_locks (with_locks s puts).locks locks_kept.in_order) (λ n. (locks_kept.each n).waiters))

  pub parted_kept : (replies : List Reply) → AreTo (λ q. outstanding (with_locks (parted parting s client) puts) q ≡ 0) replies → IsKept cell (changed_rows rows (parting_edits parting s client session.principal)) (told (with_locks (parted parting s client) puts) replies)
  parted_kept replies none =
      let P : Rows → Type 0 = λ r. IsKept cell r (told (with_locks (parted parting s client) puts) replies) in
      subst P (sym ended_is)
      (told_kept cell ended_rows replies (with_locks (parted parting s client) puts) none
      (ended_kept cell ended_rows (record (with_locks s puts) { handles = without_client s.handles client; sessions = new_sessions; departed = with_departed s.departed client }) client (ending_by parting) ended_kept_beside))

  pub without_session_kept : (own : List Reply) → AreTo (λ q. outstanding (with_locks (parted parting s client) puts) q ≡ 0) own → IsKept cell (changed_rows rows (parting_edits parting s client session.principal)) (without_session parting s client own)
  without_session_kept own waits =
      let Q : ℕ → Type 0 = λ q. outstanding (with_locks (parted parting s client) puts) q ≡ 0 in
      let others : List Reply = lapses_replies s (lapses_of parting s client) in
      parted_kept (own ++ others)
      (all_append (λ (reply : Reply). Q reply.client) own others waits (lapses_replies_are_to Q s (lapses_of parting s client) (λ q some quiet. told_then_none q some (none_in_gate q s.gate.waiting quiet))))
