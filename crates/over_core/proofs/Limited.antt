-- A master that is within the limits of its cell stays so.
use Rattle.std.proofs.Common.{◌≡◌, ℕ, ◌+◌, ◌≤◌, ◌⊎◌, inl, inr, List, [], ◌∷◌, ◌++◌, length, Bool, true, false, cond, Less, Option, Some, None, Ok, ⊎_elim, refl, sym, ap, subst, ◌∙◌, arith}
use Rattle.std.specs.Prelude.{◌==◌, not, map, filter, fold, max, unwrap_or}
use Rattle.std.specs.Option.{option_map_or}
use Rattle.std.specs.List.{AllByRecursion, count_by}
use Rattle.std.specs.List.Sorted.{IsStrictlySortedBy}
use Rattle.std.specs.Map.{keys_of, values_of, lookup, remove_entry}
use Rattle.std.specs.BTreeMap.{is_at}
use Rattle.std.specs.Ordering.{nat_cmp, is_eq}
use Rattle.std.specs.Cmp.{nat_cmp_total}
use Rattle.std.specs.Cmp.Lexicographic.{slice_cmp}
use Rattle.std.proofs.lemmas.Bool.{eqb-true}
use Rattle.std.proofs.lemmas.Bool.Decides.{nat_tests}
use Rattle.std.proofs.lemmas.Map.Keys.{sorted_head, sorted_tail}
use Rattle.std.proofs.lemmas.List.Sums.{sum_by-cons}
use Rattle.node_core.specs.Nodes.{Nodes, with_parent}
use Rattle.node_core.specs.Room.{content_bytes}
use Rattle.rows_cell.specs.declared.settings.Limits.{Limits}
use Rattle.rows_cell.specs.declared.tables.Rows.{Rows}
use Rattle.rows_cell.proofs.EntriesInOrder.{sorted_put}
use Rattle.tags_cell.specs.declared.messages.calls.Call.{Call}
use Rattle.tags_cell.specs.declared.messages.requests.Request.{Request}
use Rattle.lock_core.specs.declared.claims.Owner.{Owner}
use Rattle.lock_core.specs.declared.claims.Hold.{Hold}
use Rattle.lock_core.specs.declared.claims.Claim.{Claim}
use Rattle.lock_core.specs.declared.turns.Lapse.{Lapse}
use Rattle.lock_core.specs.declared.partings.Parting.{Parting}
use Rattle.lock_core.specs.declared.partings.Parting.TheVariants as partings
use Rattle.lock_core.specs.State.{LockState, lock_of}
use Rattle.lock_core.specs.Turns.{is_of_client, claims_of, concerns, lapsed, reopened, settled, without, is_abandoned, delay_of, closed_for}
use Rattle.lock_core.specs.Locks.{LockTable, lock_at, with_lock}
use Rattle.lock_core.specs.Counted.{claims_in, claim_count}
use Rattle.lock_core.proofs.ClaimTurns.{counted_lock, counted_gone, counted_settled, counted_left}
use Rattle.master_parts.specs.NameIndex.{name_of}
use Rattle.master_parts.specs.declared.handles.HandleNote.{HandleNote}
use Rattle.master_parts.specs.declared.pending.Taken.{Taken}
use Rattle.master_parts.specs.declared.pending.Task.TheVariants as tasks
use Rattle.master_state.specs.declared.updates.LockPut.{LockPut}
use Rattle.master_state.specs.NameSpace.{name_space, caller}
use Rattle.master_state.specs.State.{MasterState}
use Rattle.master_state.specs.Lookups.{noted}
use Rattle.master_state.specs.Lapses.{lapses_of, lapses_puts}
use Rattle.master_state.specs.Replies.{puts_of}
use Rattle.master_state.specs.Notices.{with_tellings}
use Rattle.master_state.specs.Updates.{with_note, with_lock_put}
use Rattle.cell_core.specs.declared.effects.Effect.{Effect}
use Rattle.cell_core.specs.Cases.{TakeCase, taken_by}
use Rattle.cell_core.specs.Cases.TakeCase.{StartRefused, StartRecovering, StartFull, StartQueued, OldBeat, BeatRefused, BeatParked, OldEpoch, NoSession, LeftBefore, Repeated, OlderCall, Outstanding, LeavesBeside, Recovering, Answered, Granted, Waits}
use Rattle.cell_core.specs.Effect.{effect}
use Rattle.cell_core.specs.Room.{nodes_after, locks_after, IsWithin, KeepsWithin}
use Rattle.cell_core.specs.Step.{take_step, queued, names_of, with_call, asking_for}
use Rattle.cell_core.proofs.AskedFor.{asks_only}
use Rattle.cell_core.proofs.TakeCases.{taken_case}
use Rattle.cell_core.proofs.Within.{not_more, gone_count, gone_bytes, limits_hold}
use Rattle.over_core.specs.declared.swept.Swept.{Swept}
use Rattle.over_core.specs.Kept.{IsKept}
use Rattle.over_core.specs.Sweep.{sweep_step, beats_action, beats_step}
use Rattle.over_core.specs.SweepCase.{SweepCase, swept_by}
use Rattle.over_core.specs.SweepCase.SweepCase.{Quiet, Recovers, Expires, Departed, AnswersBeat, TurnedAway, StartedAgain, Started, Reopens, Tidies, Spared, Tidied, OfEnded, Ended, Applied, Deleted, Locked, Awaited, Left}
use Rattle.over_core.specs.Within.{StaysWithin, MastersStayWithin}
use Rattle.over_core.proofs.KeptBySweeps.{sessions_ordered}
use Rattle.over_core.proofs.KeptByTakes.{unnoted, clock_kept}
use Rattle.over_core.proofs.LockPuts.{at_number, lock_at_put, locks_put_in_order}
use Rattle.over_core.proofs.NamedLocks.{own_locks, nodes_in_order}
use Rattle.over_core.proofs.SweepCases.{action_tellings, first_tellings, swept_case, answered_case}

-- ---- tables of locks, of which one has at no instance more than the other

-- no client has more claims on it
abbrev pub IsBelow : LockState → LockState → Type 0
IsBelow lock other = (client : ℕ) → claims_in client lock ≤ claims_in client other

abbrev pub AreBelow : LockTable → LockTable → Type 0
AreBelow locks others = (instance : ℕ) → IsBelow (lock_at locks instance) (lock_at others instance)

itself : (n : ℕ) → (n == n) ≡ true
itself n = grind (arith, nat_tests)

pub at_head : (entry : ℕ × LockState) (rest : LockTable) → lock_at (entry ∷ rest) entry.0 ≡ entry.1
at_head entry rest = ap (λ b. unwrap_or (cond b (Some entry.1) (lookup (is_at (nat_cmp entry.0)) rest)) (lock_of 0)) (at_number entry.0 entry.0 ∙ itself entry.0)

pub at_tail : (entry : ℕ × LockState) (rest : LockTable) (n : ℕ) → (entry.0 == n) ≡ false → lock_at (entry ∷ rest) n ≡ lock_at rest n
at_tail entry rest n other = ap (λ b. unwrap_or (cond b (Some entry.1) (lookup (is_at (nat_cmp n)) rest)) (lock_of 0)) (at_number n entry.0 ∙ other)

-- none of the keys that come later is this one
none_later : (n : ℕ) (entries : LockTable) → AllByRecursion (λ key. nat_cmp n key ≡ Less) (keys_of entries) → lookup (is_at (nat_cmp n)) entries ≡ None
none_later n [] h = refl
none_later n (entry ∷ rest) h = ap (λ b. cond b (Some entry.1) (lookup (is_at (nat_cmp n)) rest)) (ap is_eq h.0) ∙ none_later n rest h.1

-- so no client has more claims on all
below_all : (client : ℕ) (locks others : LockTable) → IsStrictlySortedBy nat_cmp (keys_of locks) → IsStrictlySortedBy nat_cmp (keys_of others)
    → ((instance : ℕ) → claims_in client (lock_at locks instance) ≤ claims_in client (lock_at others instance)) → claim_count client locks ≤ claim_count client others
below_all client [] others sorted ordered h = omega arith
below_all client (entry ∷ rest) others sorted ordered h =
    let left : LockTable = with_lock others entry.0 (lock_of 0) in
    let whole = sum_by-cons (claims_in client) entry.1 (values_of rest) in
    let parts = counted_lock client others entry.0 (lock_of 0) ordered in
    let P : LockState → Type 0 = λ lock. claims_in client lock ≤ claims_in client (lock_at others entry.0) in
    let first : claims_in client entry.1 ≤ claims_in client (lock_at others entry.0) = subst P (at_head entry rest) (h entry.0) in
    let each : (n : ℕ) → claims_in client (lock_at rest n) ≤ claims_in client (lock_at left n) = λ n.
    (elim (entry.0 == n) as (λ b. (entry.0 == n) ≡ b → claims_in client (lock_at rest n) ≤ claims_in client (lock_at left n)) [
      | true ↦ (λ c.
          let Q : ℕ → Type 0 = λ i. claims_in client (lock_at rest i) ≡ 0 in
          let none : claims_in client (lock_at rest n) ≡ 0 =
          subst Q (eqb-true entry.0 n c) (ap (λ (o : Option LockState). claims_in client (unwrap_or o (lock_of 0))) (none_later entry.0 rest (sorted_head nat_cmp entry.0 (keys_of rest) sorted))) in
          omega (arith, none))
      | false ↦ (λ c.
          let here = ap (claims_in client) (at_tail entry rest n c) in
          let there = ap (claims_in client) (lock_at_put others entry.0 (lock_of 0) n ∙ ap (λ b. cond b (lock_of 0) (lock_at others n)) c) in
          let le = h n in
          omega (arith, here, there, le))
    ]) refl
    in
    let all = below_all client rest left (sorted_tail nat_cmp entry.0 (keys_of rest) sorted) (sorted_put nat_cmp nat_cmp_total others entry.0 (lock_of 0) ordered) each in
    omega (arith, whole, parts, first, all)

-- ---- the locks of a session that ends

fewer : {X : Type 0} (p q : X → Bool) (xs : List X) → count_by p (filter q xs) ≤ count_by p xs
fewer p q [] = omega arith
fewer {X} p q (x ∷ xs) =
    let rest = fewer p q xs in
    let whole = sum_by-cons (λ (y : X). cond (p y) 1 0) x xs in
    let more = sum_by-cons (λ (y : X). cond (p y) 1 0) x (filter q xs) in
    elim (q x) as (λ b. count_by p (cond b (x ∷ filter q xs) (filter q xs)) ≤ count_by p (x ∷ xs)) [
      | true ↦ omega (arith, rest, whole, more)
      | false ↦ omega (arith, rest, whole)
    ]

without_below : (leaves : Owner → Bool) (lock : LockState) → IsBelow (without leaves lock) lock
without_below leaves lock client =
    let held = fewer (λ (entry : Owner × Hold). is_of_client client entry.0) (λ entry. not (leaves entry.0)) lock.holders in
    let awaited = fewer (λ (claim : Claim). is_of_client client claim.owner) (λ claim. not (leaves claim.owner)) lock.waiters in
    omega (arith, held, awaited)

closed_below : (left lock : LockState) (now delay : ℕ) → IsBelow left lock → IsBelow (settled left).lock lock → IsBelow (closed_for left now delay).lock lock
closed_below left lock now delay less served =
    elim (delay == 0) as (λ b. IsBelow (cond b (settled left) (record { lock = record left { closed = Some (record { from = now; delay = delay }) }; granted = []; exhausted = [] })).lock lock) [ true ↦ served | false ↦ less ]

lapsed_below : (parting : Parting) (instance : ℕ) (lock : LockState) (client now : ℕ) → IsBelow (lapsed parting instance lock client now).turn.lock lock
lapsed_below parting instance lock client now =
    let left : LockState = without (is_of_client client) lock in
    let held = claims_of client lock.holders in
    let served : IsBelow (settled left).lock lock = λ q. counted_left q (is_of_client client) lock in
    elim (is_abandoned held left) as (λ b. IsBelow (cond b (closed_for left now (delay_of parting held)) (settled left)).lock lock) [
      | true ↦ closed_below left lock now (delay_of parting held) (without_below (is_of_client client) lock) served
      | false ↦ served
    ]

-- ---- locks that are put

module _ (s : MasterState) where
  put_below : (locks : LockTable) (instance : ℕ) (lock : LockState) → IsBelow lock (lock_at s.locks instance) → AreBelow locks s.locks → AreBelow (with_lock locks instance lock) s.locks
  put_below locks instance lock less h n =
      let P : LockState → Type 0 = λ l. IsBelow l (lock_at s.locks n) in
      let Q : ℕ → Type 0 = λ i. IsBelow lock (lock_at s.locks i) in
      subst P (sym (lock_at_put locks instance lock n))
      ((elim (instance == n) as (λ b. (instance == n) ≡ b → P (cond b lock (lock_at locks n))) [
        | true ↦ (λ c. subst Q (eqb-true instance n c) less)
        | false ↦ (λ c. h n)
      ]) refl)

  abbrev IsPutBelow : LockPut → Type 0
  IsPutBelow put = IsBelow put.lock (lock_at s.locks put.instance)

  puts_below : (puts : List LockPut) (locks : LockTable) → AllByRecursion IsPutBelow puts → AreBelow locks s.locks → AreBelow (fold with_lock_put locks puts) s.locks
  puts_below [] locks all h = h
  puts_below (put ∷ puts) locks all h = puts_below puts (with_lock locks put.instance put.lock) all.1 (put_below locks put.instance put.lock all.0 h)

  named_below : (instance : ℕ) (lock : LockState) (o : Option (List ℕ)) → IsBelow lock (lock_at s.locks instance) → AllByRecursion IsPutBelow (option_map_or (λ (name : List ℕ). record { name = name; instance = instance; lock = lock } ∷ []) o [])
  named_below instance lock None less = tt
  named_below instance lock (Some name) less = (less, tt)

  both_below : (xs ys : List LockPut) → AllByRecursion IsPutBelow xs → AllByRecursion IsPutBelow ys → AllByRecursion IsPutBelow (xs ++ ys)
  both_below [] ys a b = b
  both_below (x ∷ xs) ys a b = (a.0, both_below xs ys a.1 b)

  lapses_below : (parting : Parting) (client : ℕ) (entries : LockTable) → AllByRecursion (λ (e : ℕ × LockState). lock_at s.locks e.0 ≡ e.1) entries
      → AllByRecursion IsPutBelow (lapses_puts s (map (λ (entry : ℕ × LockState). lapsed parting entry.0 entry.1 client s.clock) (filter (λ (entry : ℕ × LockState). concerns client entry.1) entries)))
  lapses_below parting client [] own = tt
  lapses_below parting client (e ∷ es) own =
      let later : LockTable = filter (λ (entry : ℕ × LockState). concerns client entry.1) es in
      let lapse : ℕ × LockState → Lapse = λ entry. lapsed parting entry.0 entry.1 client s.clock in
      let P : LockState → Type 0 = λ lock. IsBelow (lapse e).turn.lock lock in
      elim (concerns client e.1) as (λ b. AllByRecursion IsPutBelow (lapses_puts s (map lapse (cond b (e ∷ later) later)))) [
        | true ↦ both_below (puts_of s e.0 (lapse e).turn.lock) (lapses_puts s (map lapse later))
            (named_below e.0 (lapse e).turn.lock (name_of s.nodes e.0) (subst P (sym own.0) (lapsed_below parting e.0 e.1 client s.clock)))
            (lapses_below parting client es own.1)
        | false ↦ lapses_below parting client es own.1
      ]

  same_below : AreBelow s.locks s.locks
  same_below n client = omega arith

  -- so of any puts of which none adds a claim
  puts_within : (puts : List LockPut) → IsStrictlySortedBy nat_cmp (keys_of s.locks) → AllByRecursion IsPutBelow puts
      → (client : ℕ) → IsWithin s.limits.max_locks (claim_count client s.locks) (claim_count client (fold with_lock_put s.locks puts))
  puts_within puts sorted all client =
      not_more s.limits.max_locks (claim_count client s.locks) (claim_count client (fold with_lock_put s.locks puts))
      (below_all client (fold with_lock_put s.locks puts) s.locks (locks_put_in_order puts s.locks sorted) sorted (λ n. puts_below puts s.locks all same_below n client))

-- ---- what a step leaves

-- what the limits count is the same
abbrev pub AreSame : MasterState → MasterState → Type 0
AreSame s new = (new.limits ≡ s.limits) × (new.nodes ≡ s.nodes) × (new.locks ≡ s.locks)

pub not_less : (limit : Option ℕ) (held : ℕ) → IsWithin limit held held
not_less limit held = not_more limit held held (omega arith)

-- by the map and the locks after it
by_parts : (s new : MasterState) (nodes : Nodes) (locks : LockTable) → new.limits ≡ s.limits → new.nodes ≡ nodes → new.locks ≡ locks
    → IsWithin s.limits.max_nodes (length s.nodes) (length nodes) → IsWithin s.limits.max_bytes (content_bytes s.nodes) (content_bytes nodes)
    → ((client : ℕ) → IsWithin s.limits.max_locks (claim_count client s.locks) (claim_count client locks)) → StaysWithin s new
by_parts s new nodes locks limits map_is locks_are count bytes claims =
    let N : Nodes → Type 0 = λ ns. IsWithin s.limits.max_nodes (length s.nodes) (length ns) in
    let B : Nodes → Type 0 = λ ns. IsWithin s.limits.max_bytes (content_bytes s.nodes) (content_bytes ns) in
    let L : LockTable → Type 0 = λ ls. (client : ℕ) → IsWithin s.limits.max_locks (claim_count client s.locks) (claim_count client ls) in
    record { limits = limits; nodes = subst N (sym map_is) count; bytes = subst B (sym map_is) bytes; locks = subst L (sym locks_are) claims }

pub same_stays : (s new : MasterState) → AreSame s new → StaysWithin s new
same_stays s new h =
    by_parts s new s.nodes s.locks h.0 h.1 h.2 (not_less s.limits.max_nodes (length s.nodes)) (not_less s.limits.max_bytes (content_bytes s.nodes)) (λ client. not_less s.limits.max_locks (claim_count client s.locks))

-- locks alone
locks_stay : (s new : MasterState) (locks : LockTable) → new.limits ≡ s.limits → new.nodes ≡ s.nodes → new.locks ≡ locks → ((client : ℕ) → IsWithin s.limits.max_locks (claim_count client s.locks) (claim_count client locks)) → StaysWithin s new
locks_stay s new locks limits map_is locks_are claims =
    by_parts s new s.nodes locks limits map_is locks_are (not_less s.limits.max_nodes (length s.nodes)) (not_less s.limits.max_bytes (content_bytes s.nodes)) claims

-- as an effect leaves them
by_effect : (s new : MasterState) (done : Effect) → KeepsWithin (name_space s) done → new.limits ≡ s.limits → new.nodes ≡ nodes_after s.nodes done.change → new.locks ≡ locks_after s.locks done.locking → StaysWithin s new
by_effect s new done h limits map_is locks_are = by_parts s new (nodes_after s.nodes done.change) (locks_after s.locks done.locking) limits map_is locks_are h.nodes h.bytes h.locks

pub within_once : (limit : Option ℕ) (a b c : ℕ) → IsWithin limit a b → IsWithin limit b c → IsWithin limit a c
within_once None a b c h k = tt
within_once (Some limit) a b c h k = ⊎_elim (λ fits. inl fits) (λ less. ⊎_elim (λ fit. inl (at_most c b limit less fit)) (λ fewer_still. inr (at_most c b a less fewer_still)) h) k
  where
    at_most : (x y z : ℕ) → x ≤ y → y ≤ z → x ≤ z
    at_most x y z h k = omega (arith, h, k)

-- one step after the other
pub stays_on : (s mid new : MasterState) → StaysWithin s mid → StaysWithin mid new → StaysWithin s new
stays_on s mid new h k =
    let same = h.limits in
    let N : Limits → Type 0 = λ l. IsWithin l.max_nodes (length mid.nodes) (length new.nodes) in
    let B : Limits → Type 0 = λ l. IsWithin l.max_bytes (content_bytes mid.nodes) (content_bytes new.nodes) in
    let L : Limits → Type 0 = λ l. (client : ℕ) → IsWithin l.max_locks (claim_count client mid.locks) (claim_count client new.locks) in
    record {
      limits = k.limits ∙ same;
      nodes = within_once s.limits.max_nodes (length s.nodes) (length mid.nodes) (length new.nodes) h.nodes (subst N same k.nodes);
      bytes = within_once s.limits.max_bytes (content_bytes s.nodes) (content_bytes mid.nodes) (content_bytes new.nodes) h.bytes (subst B same k.bytes);
      locks = λ client. within_once s.limits.max_locks (claim_count client s.locks) (claim_count client mid.locks) (claim_count client new.locks) (h.locks client) ((subst L same k.locks) client);
    }

-- ---- a message

asked_same : (names : List (List ℕ)) (s : MasterState) → AreSame s (asking_for s names)
asked_same names s =
    let only = asks_only names s in
    (ap (λ (m : MasterState). m.limits) only, ap (λ (m : MasterState). m.nodes) only, ap (λ (m : MasterState). m.locks) only)

noted_same : (s : MasterState) (note : Option HandleNote) → AreSame s (with_note s note)
noted_same s note = (unnoted (λ x. x.limits) (λ x n. refl) s note, unnoted (λ x. x.nodes) (λ x n. refl) s note, unnoted (λ x. x.locks) (λ x n. refl) s note)

same_on : (s mid new : MasterState) → AreSame s mid → AreSame mid new → AreSame s new
same_on s mid new h k = (k.0 ∙ h.0, k.1 ∙ h.1, k.2 ∙ h.2)

pub nothing_else : (s : MasterState) → AreSame s s
nothing_else s = (refl, refl, refl)

pub taken_same : (s : MasterState) (request : Request) (c : TakeCase s request) → AreSame s (taken_by s request c).0
taken_same s request (StartRefused start is may) = nothing_else s
taken_same s request (StartRecovering start is may recovering) = nothing_else s
taken_same s request (StartFull start is may serving full) = nothing_else s
taken_same s request (StartQueued start is may serving room) = (refl, refl, refl)
taken_same s request (OldBeat beat is other) = nothing_else s
taken_same s request (BeatRefused beat fault is same refused) = nothing_else s
taken_same s request (BeatParked beat is same taken) = (refl, refl, refl)
taken_same s request (OldEpoch message is other) = nothing_else s
taken_same s request (NoSession message is same ended) = nothing_else s
taken_same s request (LeftBefore message kept is same_epoch ended found number) = nothing_else s
taken_same s request (Repeated message kept heard is same) = nothing_else s
taken_same s request (OlderCall message kept heard is less) = nothing_else s
taken_same s request (Outstanding message kept heard is more none) = nothing_else s
taken_same s request (LeavesBeside message heard beside) = (refl, refl, refl)
taken_same s request (Recovering message new recovering) = (refl, refl, refl)
taken_same s request (Answered message note answer new serving answered) = noted_same s note
taken_same s request (Granted message note answer name new serving granted) = noted_same s note
taken_same s request (Waits message note touched new serving admitted) =
    let call = with_call (with_note s note) message touched in
    same_on s (with_note s note) (asking_for call (names_of touched)) (noted_same s note) (asked_same (names_of touched) call)

-- ---- a sweep

module _ (cell : List ℕ) (rows : Rows) (s : MasterState) (k : IsKept cell rows s) where
  sorted : IsStrictlySortedBy nat_cmp (keys_of s.locks)
  sorted = k.locks.in_order

  made_within : (client number : ℕ) (call : Call) (sequencer : Option (List ℕ)) (done : Effect) → effect (name_space s) (caller s client) s.clock number call sequencer ≡ done → KeepsWithin (name_space s) done
  made_within client number call sequencer done made =
      let P : Effect → Type 0 = KeepsWithin (name_space s) in
      subst P made (limits_hold s (nodes_in_order rows s.nodes k.nodes k.names_in_order) sorted client number call sequencer)

  parted_stays : (parting : Parting) (client : ℕ) (new : MasterState) → new.limits ≡ s.limits → new.nodes ≡ s.nodes → new.locks ≡ fold with_lock_put s.locks (lapses_puts s (lapses_of parting s client)) → StaysWithin s new
  parted_stays parting client new limits map_is locks_are =
      locks_stay s new (fold with_lock_put s.locks (lapses_puts s (lapses_of parting s client))) limits map_is locks_are
      (puts_within s (lapses_puts s (lapses_of parting s client)) sorted (lapses_below s parting client s.locks (own_locks s.locks sorted)))

  -- with what is noted of a handle
  noted_stays : (t : MasterState) (note : Option HandleNote) → StaysWithin s t → StaysWithin s (with_note t note)
  noted_stays t note h = stays_on s t (with_note t note) h (same_stays t (with_note t note) (noted_same t note))

  pub case_within : (c : SweepCase s) → StaysWithin s (swept_by s c).0
  case_within (Quiet none) = same_stays s s (nothing_else s)
  case_within (Recovers recovering heard) = same_stays s _ (refl, refl, refl)
  case_within (Expires client session due) = parted_stays partings.Expiry client _ refl refl refl
  case_within (Departed front back asked call sequencer session turn work leave found live) = parted_stays partings.Leave asked.client _ refl refl refl
  case_within (AnswersBeat client session beat due) = same_stays s _ (refl, refl, refl)
  case_within (TurnedAway front back asked principal received turn work may) = same_stays s _ (refl, refl, refl)
  case_within (StartedAgain front back asked principal received session turn work found live) = same_stays s _ (refl, refl, refl)
  case_within (Started front back asked principal received turn work none) = same_stays s _ (refl, refl, refl)
  case_within (Reopens instance due) =
      let lock : LockState = lock_at s.locks instance in
      let less : IsBelow (reopened lock).lock lock = λ client. counted_settled client (record lock { closed = None }) in
      let puts = puts_of s instance (reopened lock).lock in
      locks_stay s _ (fold with_lock_put s.locks puts) refl refl refl (puts_within s puts sorted (named_below s instance (reopened lock).lock (name_of s.nodes instance) less))
  case_within (Tidies idle due) =
      let waits = queued s (with_parent idle.name) (tasks.Tidies idle) in
      same_stays s _ (same_on s waits (asking_for waits (with_parent idle.name)) (refl, refl, refl) (asked_same (with_parent idle.name) waits))
  case_within (Spared front back idle turn held) = same_stays s _ (refl, refl, refl)
  case_within (Tidied front back idle turn still) =
      by_parts s _ (remove_entry (is_at (slice_cmp nat_cmp idle.name)) s.nodes) (remove_entry (is_at (nat_cmp idle.instance)) s.locks) refl refl refl
      (not_more s.limits.max_nodes (length s.nodes) (length (remove_entry (is_at (slice_cmp nat_cmp idle.name)) s.nodes)) (gone_count s.nodes idle.name))
      (not_more s.limits.max_bytes (content_bytes s.nodes) (content_bytes (remove_entry (is_at (slice_cmp nat_cmp idle.name)) s.nodes)) (gone_bytes s.nodes idle.name))
      (λ client. not_more s.limits.max_locks (claim_count client s.locks) (claim_count client (remove_entry (is_at (nat_cmp idle.instance)) s.locks)) (counted_gone client s.locks idle.instance))
  case_within (OfEnded front back asked call sequencer turn work gone) = same_stays s _ (refl, refl, refl)
  case_within (Ended front back asked call sequencer note answer turn work stays live made) = noted_stays _ note (same_stays s _ (refl, refl, refl))
  case_within (Applied front back asked call sequencer note change answer turn work stays live made) =
      noted_stays _ note (by_effect s _ _ (made_within asked.client asked.number call sequencer _ made) refl refl refl)
  case_within (Deleted front back asked call sequencer change instance waiters answer turn work stays live made) = by_effect s _ _ (made_within asked.client asked.number call sequencer _ made) refl refl refl
  case_within (Locked front back asked call sequencer put claim answer turn work stays live made) = by_effect s _ _ (made_within asked.client asked.number call sequencer _ made) refl refl refl
  case_within (Awaited front back asked call sequencer put turn work stays live made) = by_effect s _ _ (made_within asked.client asked.number call sequencer _ made) refl refl refl
  case_within (Left front back asked call sequencer note leave answer turn work stays live made) =
      let t = noted_stays _ note (by_effect s _ _ (made_within asked.client asked.number call sequencer _ made) refl refl refl) in
      record { limits = t.limits; nodes = t.nodes; bytes = t.bytes; locks = t.locks }

-- ---- every step

pub takes_within : (s new : MasterState) (now : ℕ) (request : Request) (taken : Taken) → take_step s now request ≡ Ok (new, taken) → AreSame s new
takes_within s new now request taken h =
    let c = taken_case s new now request taken h in
    let is : new ≡ (taken_by (noted s now) request c.0).0 = ap (λ (p : MasterState × Taken). p.0) c.1 in
    let P : MasterState → Type 0 = AreSame s in
    subst P (sym is) (taken_same (noted s now) request c.0)

pub sweeps_within : (cell : List ℕ) (rows : Rows) (s new : MasterState) (now : ℕ) (told : Swept) → IsKept cell rows s → sweep_step s now ≡ Ok (new, told) → StaysWithin s new
sweeps_within cell rows s new now told k h =
    let c = swept_case s new now told (sessions_ordered cell rows s k) k.orderly h in
    let is : new ≡ with_tellings (swept_by (noted s now) c.0).0 (first_tellings (noted s now)) = ap (λ (p : MasterState × Swept). p.0) c.1 in
    let P : MasterState → Type 0 = StaysWithin s in
    let t = case_within cell rows (noted s now) (clock_kept cell rows s (max s.clock now) k) c.0 in
    subst P (sym is) (record { limits = t.limits; nodes = t.nodes; bytes = t.bytes; locks = t.locks })

pub beats_within : (cell : List ℕ) (rows : Rows) (s new : MasterState) (now : ℕ) (told : Swept) → IsKept cell rows s → beats_step s now ≡ Ok (new, told) → StaysWithin s new
beats_within cell rows s new now told k h =
    let there = noted s now in
    let c = answered_case s new now told (sessions_ordered cell rows s k) k.orderly h in
    let is : new ≡ with_tellings (swept_by there c.0).0 (action_tellings there (beats_action there)) = ap (λ (p : MasterState × Swept). p.0) c.1 in
    let P : MasterState → Type 0 = StaysWithin s in
    let t = case_within cell rows there (clock_kept cell rows s (max s.clock now) k) c.0 in
    subst P (sym is) (record { limits = t.limits; nodes = t.nodes; bytes = t.bytes; locks = t.locks })

pub masters_stay_within : MastersStayWithin
masters_stay_within cell rows s k = record {
  takes = λ new now request taken h. same_stays s new (takes_within s new now request taken h);
  sweeps = λ new now told h. sweeps_within cell rows s new now told k h;
  beats = λ new now told h. beats_within cell rows s new now told k h;
}
