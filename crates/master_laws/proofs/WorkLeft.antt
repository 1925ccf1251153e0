-- Each sweep that isn't quiet leaves a master less to do.
use Rattle.std.proofs.Common.{◌≡◌, ℕ, ◌+◌, ◌<◌, ◌≤◌, List, [], ◌∷◌, ◌++◌, Bool, true, false, cond, Option, Some, refl, sym, ap, ◌∙◌, inl, inr, arith}
use Rattle.std.specs.Prelude.{◌&&◌, ◌==◌, ◌*◌, not, find, count_by, is_some}
use Rattle.std.specs.Option.{option_map_or}
use Rattle.std.specs.List.{list_any}
use Rattle.std.specs.List.Sorted.{IsStrictlySortedBy}
use Rattle.std.specs.Map.{keys_of, values_of, remove_entry, set_value}
use Rattle.std.specs.BTreeMap.{is_at}
use Rattle.std.specs.Ordering.{nat_cmp}
use Rattle.std.specs.Cmp.{nat_cmp_total}
use Rattle.std.proofs.lemmas.Bool.{eqb-true}
use Rattle.std.proofs.lemmas.Bool.Decides.{nat_tests}
use Rattle.std.proofs.lemmas.Map.Entries.{sum_by-insert_entry, sum_by-remove_entry, sum_by-set_value}
use Rattle.node_core.specs.declared.nodes.Node.{Node}
use Rattle.node_core.specs.Nodes.{Nodes}
use Rattle.tags_cell.specs.declared.messages.outs.Reply.{Reply}
use Rattle.gate_core.specs.declared.pending.Waiting.{Waiting}
use Rattle.session_core.specs.declared.records.Session.{Session}
use Rattle.session_core.specs.Session.{answered, prolonged, unparked, keeping, session_until}
use Rattle.session_core.specs.Session as of_session
use Rattle.session_core.specs.Sessions.{SessionTable, session_of, is_live, with_session, with_new, without}
use Rattle.session_core.proofs.RowsOfSessions.{rows_of, rows_stay}
use Rattle.master_parts.specs.Ephemerals.{is_held_open, must_stay, is_left}
use Rattle.master_parts.specs.EphemeralNames.{is_ephemeral}
use Rattle.master_parts.specs.OpenHandles.{is_open_in}
use Rattle.master_parts.specs.declared.handles.HandleKey.{HandleKey}
use Rattle.master_parts.specs.declared.handles.HandleState.{HandleState}
use Rattle.master_parts.specs.declared.handles.HandleState.TheVariants as states
use Rattle.master_parts.specs.declared.notices.SessionEvent.{SessionEvent}
use Rattle.master_parts.specs.declared.pending.WaitingRequest.{WaitingRequest}
use Rattle.master_parts.specs.declared.pending.Task.{Task}
use Rattle.master_parts.specs.declared.pending.Task.TheVariants as tasks
use Rattle.lock_core.specs.State.{LockState, lock_of}
use Rattle.lock_core.specs.Locks.{LockTable, lock_at, with_lock, is_due}
use Rattle.master_state.specs.State.{MasterState, tables_of}
use Rattle.master_state.specs.Notices.{with_tellings}
use Rattle.master_state.specs.Updates.{with_kept}
use Rattle.master_state.specs.declared.updates.KeptPut.{KeptPut}
use Rattle.cell_core.specs.Step.{recorded}
use Rattle.over_core.specs.SweepCase.{IsNextApplied}
use Rattle.over_core.proofs.LockPuts.{lock_at_put}
use Rattle.over_core.proofs.LocksOfNodes.{lock_gone}
use Rattle.over_core.proofs.SessionReads.{lives_in, reads_step}
use Rattle.over_core.proofs.ToldSessions.{reads_told, rows_told}
use Rattle.master_laws.specs.Settling.{is_asked, asked_left, deletes, is_going, own_left, HasLessToDo}
use Rattle.master_laws.proofs.Counting.{one, count_cons, count_middle, count_fewer, count_without, count_alike, all_of}

-- ---- sessions that are alike: as many live, and as many have a parked Beat

abbrev pub lives : Session Reply → Bool
lives session = session.live

abbrev pub parks : Session Reply → Bool
parks session = is_some session.parked

pub record AreAlike (new old : SessionTable Reply) : Type 0 where
  pub live : (q : ℕ) → is_live new q ≡ is_live old q
  pub lives : rows_of lives new.sessions ≡ rows_of lives old.sessions
  pub parks : rows_of parks new.sessions ≡ rows_of parks old.sessions

pub alike_itself : (s : SessionTable Reply) → AreAlike s s
alike_itself s = record { live = λ q. refl; lives = refl; parks = refl }

pub alike_then : (a b c : SessionTable Reply) → AreAlike c b → AreAlike b a → AreAlike c a
alike_then a b c h k = record { live = λ q. h.live q ∙ k.live q; lives = h.lives ∙ k.lives; parks = h.parks ∙ k.parks }

pub stepped_alike : (s : SessionTable Reply) (client : ℕ) (step : Session Reply → Session Reply) → ((before : Session Reply) → (step before).live ≡ before.live) → ((before : Session Reply) → is_some (step before).parked ≡ is_some before.parked) → AreAlike (with_session s client step) s
stepped_alike s client step live parked = record {
  live = reads_step lives_in s client step live;
  lives = rows_stay lives s client step live;
  parks = rows_stay parks s client step parked;
}

pub kept_alike : (puts : List KeptPut) (s : MasterState) → AreAlike (with_kept s puts).sessions s.sessions
kept_alike [] s = alike_itself s.sessions
kept_alike (put ∷ puts) s =
    let r = recorded s put.client put.kept in
    alike_then s.sessions r.sessions (with_kept s (put ∷ puts)).sessions (kept_alike puts r) (stepped_alike s.sessions put.client (keeping put.kept) (λ before. refl) (λ before. refl))

pub told_alike : (tellings : List SessionEvent) (s : MasterState) → AreAlike (with_tellings s tellings).sessions s.sessions
told_alike tellings s = record {
  live = reads_told lives_in (λ event before. refl) tellings s.sessions;
  lives = rows_told lives (λ event before. refl) tellings s.sessions;
  parks = rows_told parks (λ event before. refl) tellings s.sessions;
}

-- ---- masters that are alike

open_alike : (a b : SessionTable Reply) (instance : ℕ) (key : HandleKey) (state : HandleState) → ((q : ℕ) → is_live a q ≡ is_live b q) → is_open_in a instance key state ≡ is_open_in b instance key state
open_alike a b instance key (states.Open noted) same = ap (λ x. noted.handle.instance == instance && x) (same key.client)
open_alike a b instance key states.Closed same = refl

held_alike : (a b : SessionTable Reply) (instance : ℕ) (entries : List (HandleKey × HandleState)) → ((q : ℕ) → is_live a q ≡ is_live b q) → list_any (λ entry. is_open_in a instance entry.0 entry.1) entries ≡ list_any (λ entry. is_open_in b instance entry.0 entry.1) entries
held_alike a b instance [] same = refl
held_alike a b instance (e ∷ es) same = rw (open_alike a b instance e.0 e.1 same, held_alike a b instance es same) refl

-- whether a node is left
pub left_alike : (new old : MasterState) (entry : List ℕ × Node) → new.handles ≡ old.handles → new.nodes ≡ old.nodes → ((q : ℕ) → is_live new.sessions q ≡ is_live old.sessions q) → is_left (tables_of new) entry.0 entry.1 ≡ is_left (tables_of old) entry.0 entry.1
left_alike new old entry handles nodes live =
    let held : is_held_open (tables_of new) entry.1.instance ≡ is_held_open (tables_of old) entry.1.instance =
    ap (λ es. list_any (λ e. is_open_in new.sessions entry.1.instance e.0 e.1) es) handles ∙ held_alike new.sessions old.sessions entry.1.instance old.handles live in
    ap (λ x. is_ephemeral entry.1.life && not x && not (must_stay new.nodes entry.0)) held
    ∙ ap (λ ns. is_ephemeral entry.1.life && not (is_held_open (tables_of old) entry.1.instance) && not (must_stay ns entry.0)) nodes

pub record IsLike (new old : MasterState) : Type 0 where
  pub recovering : new.recovering ≡ old.recovering
  pub waiting : new.gate.waiting ≡ old.gate.waiting
  pub nodes : new.nodes ≡ old.nodes
  pub handles : new.handles ≡ old.handles
  pub locks : new.locks ≡ old.locks
  pub sessions : AreAlike new.sessions old.sessions

going_alike : (new old : MasterState) → IsLike new old → (entry : List ℕ × Node) → is_going new entry ≡ is_going old entry
going_alike new old h entry =
    ap (λ x. x && list_any (λ w. deletes entry w.change.body) new.gate.waiting) (left_alike new old entry h.handles h.nodes h.sessions.live)
    ∙ ap (λ ws. is_left (tables_of old) entry.0 entry.1 && list_any (λ w. deletes entry w.change.body) ws) h.waiting

pub equal_counts : {X : Type 0} (p q : X → Bool) (xs : List X) → ((x : X) → p x ≡ q x) → count_by p xs ≡ count_by q xs
equal_counts p q [] same = refl
equal_counts p q (x ∷ xs) same = count_cons p x xs ∙ ap (λ n. one (p x) + n) (equal_counts p q xs same) ∙ ap (λ b. one b + count_by q xs) (same x) ∙ sym (count_cons q x xs)

pub asked_alike : (new old : MasterState) → IsLike new old → asked_left new ≡ asked_left old
asked_alike new old h =
    ap (λ ws. 2 * count_by (λ w. is_asked w.change.body) ws + count_by lives (values_of new.sessions.sessions)) h.waiting
    ∙ ap (λ n. 2 * count_by (λ w. is_asked w.change.body) old.gate.waiting + n) (count_alike lives new.sessions.sessions old.sessions.sessions h.sessions.lives)

pub own_alike : (now : ℕ) (new old : MasterState) → IsLike new old → own_left now new ≡ own_left now old
own_alike now new old h =
    let going : count_by (λ entry. not (is_going new entry)) new.nodes ≡ count_by (λ entry. not (is_going old entry)) old.nodes =
    equal_counts (λ entry. not (is_going new entry)) (λ entry. not (is_going old entry)) new.nodes (λ entry. ap not (going_alike new old h entry)) ∙ ap (λ ns. count_by (λ entry. not (is_going old entry)) ns) h.nodes in
    let parked = count_alike parks new.sessions.sessions old.sessions.sessions h.sessions.parks in
    let closed : count_by (λ entry. is_due now (lock_at new.locks entry.1.instance)) new.nodes ≡ count_by (λ entry. is_due now (lock_at old.locks entry.1.instance)) old.nodes =
    equal_counts (λ entry. is_due now (lock_at new.locks entry.1.instance)) (λ entry. is_due now (lock_at old.locks entry.1.instance)) new.nodes (λ entry. ap (λ (ls : LockTable). is_due now (lock_at ls entry.1.instance)) h.locks) ∙ ap (λ ns. count_by (λ entry. is_due now (lock_at old.locks entry.1.instance)) ns) h.nodes in
    let own : count_by (λ w. not (is_asked w.change.body)) new.gate.waiting ≡ count_by (λ w. not (is_asked w.change.body)) old.gate.waiting = ap (λ ws. count_by (λ w. not (is_asked w.change.body)) ws) h.waiting in
    let over : one new.recovering ≡ one old.recovering = ap one h.recovering in
    sums (one new.recovering) (one old.recovering) _ _ _ _ _ _ _ _ over own going closed parked
  where
    sums : (a b c d e f g h i j : ℕ) → a ≡ b → c ≡ d → e ≡ f → g ≡ h → i ≡ j → a + c + 2 * e + g + i ≡ b + d + 2 * f + h + j
    sums a b c d e f g h i j p q r s t = omega (arith, p, q, r, s, t)

-- what is alike after a step is left less
pub less_alike : (now : ℕ) (new after old : MasterState) → IsLike new after → HasLessToDo now after old → HasLessToDo now new old
less_alike now new after old h less = elim less [
  | inl fewer ↦ inl (below (asked_left new) (asked_left after) (asked_left old) (asked_alike new after h) fewer)
  | inr own ↦ inr (at_most (asked_left new) (asked_left after) (asked_left old) (asked_alike new after h) own.0, below (own_left now new) (own_left now after) (own_left now old) (own_alike now new after h) own.1)
]
  where
    below : (a b c : ℕ) → a ≡ b → b < c → a < c
    below a b c h k = omega (arith, h, k)

    at_most : (a b c : ℕ) → a ≡ b → b ≤ c → a ≤ c
    at_most a b c h k = omega (arith, h, k)

-- ---- what clients asked for

less_asked : (a b l m : ℕ) → b ≡ a + 1 → m ≤ l + 1 → 2 * a + m < 2 * b + l
less_asked a b l m h k = omega (arith, h, k)

-- one of these has its turn, and at most one session more lives
pub turn_leaves_less : (now : ℕ) (s new : MasterState) (front back : List (Waiting Task)) (asked : WaitingRequest) → IsNextApplied s front (tasks.Asked asked) back → new.gate.waiting ≡ front ++ back → count_by lives (values_of new.sessions.sessions) ≤ count_by lives (values_of s.sessions.sessions) + 1 → HasLessToDo now new s
turn_leaves_less now s new front back asked turn waiting more =
    let test : Waiting Task → Bool = λ (w : Waiting Task). is_asked w.change.body in
    let w : Waiting Task = record { number = turn.number; change = record { touched = turn.touched; body = tasks.Asked asked } } in
    let before : count_by test s.gate.waiting ≡ count_by test (front ++ back) + 1 = ap (count_by test) turn.waited ∙ count_middle test front w back in
    let after : count_by test new.gate.waiting ≡ count_by test (front ++ back) = ap (count_by test) waiting in
    inl (less_asked (count_by test new.gate.waiting) (count_by test s.gate.waiting) (count_by lives (values_of s.sessions.sessions)) (count_by lives (values_of new.sessions.sessions)) (before ∙ ap (λ n. n + 1) (sym after)) more)

pub same_live : (new old : SessionTable Reply) → AreAlike new old → count_by lives (values_of new.sessions) ≤ count_by lives (values_of old.sessions) + 1
same_live new old h = most (count_by lives (values_of new.sessions)) (count_by lives (values_of old.sessions)) (count_alike lives new.sessions old.sessions h.lives)
  where
    most : (a b : ℕ) → a ≡ b → a ≤ b + 1
    most a b h = omega (arith, h)

-- a session that ends
stepped_table : (s : SessionTable Reply) (client : ℕ) (step : Session Reply → Session Reply) (session : Session Reply) → session_of s client ≡ Some session → (with_session s client step).sessions ≡ set_value (is_at (nat_cmp client)) s.sessions (step session)
stepped_table s client step session found = ap (λ (o : Option (Session Reply)). (option_map_or (λ x. record s { sessions = set_value (is_at (nat_cmp client)) s.sessions (step x) }) o s).sessions) found

-- the count of a test after a step of one session
pub count_step : (f : Session Reply → Bool) (s : SessionTable Reply) (client : ℕ) (step : Session Reply → Session Reply) (session : Session Reply) → session_of s client ≡ Some session → count_by f (values_of (with_session s client step).sessions) + one (f session) ≡ count_by f (values_of s.sessions) + one (f (step session))
count_step f s client step session found =
    ap (λ (es : List (ℕ × Session Reply)). count_by f (values_of es) + one (f session)) (stepped_table s client step session found)
    ∙ sum_by-set_value (λ (x : Session Reply). one (f x)) (is_at (nat_cmp client)) s.sessions session (step session) found

pub ended_live : (s : SessionTable Reply) (client : ℕ) (session : Session Reply) → session_of s client ≡ Some session → session.live ≡ true → count_by lives (values_of (with_session s client of_session.ended).sessions) + 1 ≡ count_by lives (values_of s.sessions)
ended_live s client session found live =
    fewer (count_by lives (values_of (with_session s client of_session.ended).sessions)) (count_by lives (values_of s.sessions)) (one session.live) (count_step lives s client of_session.ended session found) (ap one live)
  where
    fewer : (a b o : ℕ) → a + o ≡ b + 0 → o ≡ 1 → a + 1 ≡ b
    fewer a b o h k = omega (arith, h, k)

pub begun_live : (s : SessionTable Reply) (client : ℕ) (new : Session Reply) → IsStrictlySortedBy nat_cmp (keys_of s.sessions) → count_by lives (values_of (with_new s client new).sessions) ≤ count_by lives (values_of s.sessions) + 1
begun_live s client new sorted =
    most (count_by lives (values_of (with_new s client new).sessions)) (count_by lives (values_of s.sessions)) (one new.live) _ (at_most new.live) (sum_by-insert_entry (λ (x : Session Reply). one (lives x)) nat_cmp_total s.sessions client new sorted)
  where
    at_most : (b : Bool) → one b ≤ 1
    at_most true = omega arith
    at_most false = omega arith

    most : (a b o n : ℕ) → o ≤ 1 → a + n ≡ b + o → a ≤ b + 1
    most a b o n h k = omega (arith, h, k)

-- one that goes leaves no more
pub gone_live : (s : SessionTable Reply) (client most : ℕ) → count_by lives (values_of s.sessions) ≤ most → count_by lives (values_of (without s client).sessions) ≤ most
gone_live s client most h =
    fewer_still (count_by lives (values_of (without s client).sessions)) _ (count_by lives (values_of s.sessions)) most (sum_by-remove_entry (λ (x : Session Reply). one (lives x)) (is_at (nat_cmp client)) s.sessions) h
  where
    fewer_still : (a b c m : ℕ) → a + b ≡ c → c ≤ m → a ≤ m
    fewer_still a b c m e k = omega (arith, e, k)

-- ---- the cell's own

-- whether a node's lock is closed for a delay that is over
abbrev pub is_over : ℕ → MasterState → List ℕ × Node → Bool
is_over now s entry = is_due now (lock_at s.locks entry.1.instance)

due_behind : (now : ℕ) (b : Bool) (lock other : LockState) → is_due now lock ≡ false → is_due now (cond b lock other) ≡ true → is_due now other ≡ true
due_behind now true lock other undue h = absurd (cc)
due_behind now false lock other undue h = h

-- a lock that is open again
pub relocked_due : (now : ℕ) (locks : LockTable) (instance : ℕ) (lock : LockState) (nodes : Nodes) (entry : List ℕ × Node) → find (λ (e : List ℕ × Node). e.1.instance == instance) nodes ≡ Some entry → (entry.1.instance == instance) ≡ true → is_due now (lock_at locks instance) ≡ true → is_due now lock ≡ false
    → count_by (λ (e : List ℕ × Node). is_due now (lock_at (with_lock locks instance lock) e.1.instance)) nodes + 1 ≤ count_by (λ (e : List ℕ × Node). is_due now (lock_at locks e.1.instance)) nodes
relocked_due now locks instance lock nodes entry found here old new =
    let at : entry.1.instance ≡ instance = eqb-true entry.1.instance instance here in
    let put : is_due now (lock_at (with_lock locks instance lock) entry.1.instance) ≡ false =
    ap (is_due now) (lock_at_put locks instance lock entry.1.instance) ∙ ap (λ n. is_due now (cond (instance == n) lock (lock_at locks n))) at ∙ ap (λ b. is_due now (cond b lock (lock_at locks instance))) (itself instance) ∙ new in
    count_fewer (λ (e : List ℕ × Node). is_due now (lock_at (with_lock locks instance lock) e.1.instance)) (λ (e : List ℕ × Node). is_due now (lock_at locks e.1.instance)) (λ (e : List ℕ × Node). e.1.instance == instance) nodes entry found put
    (ap (λ n. is_due now (lock_at locks n)) at ∙ old)
    (all_of (λ (e : List ℕ × Node). is_due now (lock_at (with_lock locks instance lock) e.1.instance) ≡ true → is_due now (lock_at locks e.1.instance) ≡ true) (λ e h. due_behind now (instance == e.1.instance) lock (lock_at locks e.1.instance) new (sym (ap (is_due now) (lock_at_put locks instance lock e.1.instance)) ∙ h)) nodes)
  where
    itself : (n : ℕ) → (n == n) ≡ true
    itself n = grind (arith, nat_tests)

-- the lock of a node that goes
pub gone_due : (now : ℕ) (locks : LockTable) (instance : ℕ) (test : List ℕ → Bool) (nodes : Nodes) → IsStrictlySortedBy nat_cmp (keys_of locks) → count_by (λ (e : List ℕ × Node). is_due now (lock_at (remove_entry (is_at (nat_cmp instance)) locks) e.1.instance)) (remove_entry test nodes) ≤ count_by (λ (e : List ℕ × Node). is_due now (lock_at locks e.1.instance)) nodes
gone_due now locks instance test nodes sorted =
    count_without (λ (e : List ℕ × Node). is_due now (lock_at (remove_entry (is_at (nat_cmp instance)) locks) e.1.instance)) (λ (e : List ℕ × Node). is_due now (lock_at locks e.1.instance)) test nodes
    (all_of (λ (e : List ℕ × Node). is_due now (lock_at (remove_entry (is_at (nat_cmp instance)) locks) e.1.instance) ≡ true → is_due now (lock_at locks e.1.instance) ≡ true) (λ e h. due_behind now (instance == e.1.instance) (lock_of 0) (lock_at locks e.1.instance) refl (sym (ap (is_due now) (lock_gone locks instance e.1.instance sorted)) ∙ h)) (remove_entry test nodes))
