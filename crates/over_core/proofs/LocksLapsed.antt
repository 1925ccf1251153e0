-- The locks that the end of a session changes.
use Rattle.std.proofs.Common.{◌≡◌, ℕ, ◌+◌, ◌≤◌, List, [], ◌∷◌, ◌++◌, Bool, true, false, cond, Less, Option, Some, None, refl, sym, ap, subst, ◌∙◌, arith}
use Rattle.std.specs.Prelude.{◌&&◌, ◌||◌, ◌==◌, not, nat_le, map, filter, fold, is_none, unwrap_or}
use Rattle.std.specs.List.{AllByRecursion, list_all, list_any, sum_by}
use Rattle.std.specs.List.Sorted.{IsStrictlySortedBy}
use Rattle.std.specs.Map.{keys_of, lookup, values_of}
use Rattle.std.specs.BTreeMap.{is_at}
use Rattle.std.specs.Ordering.{nat_cmp, is_eq}
use Rattle.std.specs.Cmp.{nat_cmp_total}
use Rattle.std.proofs.lemmas.Bool.{and_parts, and_from, or_parts, or_left, or_right, not_from_false, eqb-true}
use Rattle.std.proofs.lemmas.Bool.Decides.{nat_tests}
use Rattle.std.proofs.lemmas.List.Sums.{sum_by-append}
use Rattle.std.proofs.lemmas.List.Filters.{sum_by-filter_both}
use Rattle.node_core.specs.declared.kinds.LockMode.{LockMode}
use Rattle.node_core.specs.declared.kinds.LockMode.TheVariants as modes
use Rattle.node_core.specs.Limits.{lock_delay_limit}
use Rattle.rows_cell.specs.declared.keys.LockKey.{LockKey}
use Rattle.rows_cell.specs.declared.tables.LockRow.{LockRow}
use Rattle.rows_cell.specs.declared.tables.Rows.{Rows}
use Rattle.rows_cell.specs.Rows.{StoredLocks}
use Rattle.rows_cell.specs.LockRows.{LockChange, is_holding}
use Rattle.rows_cell.specs.Sound.{is_number, are_distinct}
use Rattle.rows_cell.proofs.EntriesInOrder.{sorted_put}
use Rattle.rows_cell.proofs.PutEntries.{all_more}
use Rattle.rows_cell.proofs.SoundEnds.{holds}
use Rattle.rows_cell.proofs.LockChanges.{are_among, are_free}
use Rattle.tags_cell.specs.Numbers.{is_client_number}
use Rattle.tags_cell.specs.declared.messages.outs.Reply.{Reply}
use Rattle.session_core.specs.Sessions.{SessionTable, is_live}
use Rattle.lock_core.specs.declared.claims.Owner.{Owner}
use Rattle.lock_core.specs.declared.claims.Hold.{Hold}
use Rattle.lock_core.specs.declared.claims.Claim.{Claim}
use Rattle.lock_core.specs.declared.claims.Closing.{Closing}
use Rattle.lock_core.specs.declared.turns.Turn.{Turn}
use Rattle.lock_core.specs.declared.turns.Lapse.{Lapse}
use Rattle.lock_core.specs.State.{LockState, Holders, lock_of, mode_of}
use Rattle.lock_core.specs.declared.partings.Parting.{Parting}
use Rattle.lock_core.specs.Turns.{is_nobody, without, settled, closed_for, delay_of, is_abandoned, is_of_client, claims_of, lapsed, concerns, any_holds, any_waits}
use Rattle.lock_core.specs.Locks.{LockTable, lock_at, with_lock}
use Rattle.master_state.specs.declared.updates.LockPut.{LockPut}
use Rattle.master_parts.specs.Locks.{stored_mode, holder_rows, closing_rows, lock_rows}
use Rattle.master_state.specs.State.{MasterState}
use Rattle.master_state.specs.Updates.{with_lock_put, lock_change}
use Rattle.over_core.specs.Kept.{IsKept, AreLockRows, IsLockKept, is_idle, claim_fits, waiter_fits, claim_count, waits_count}
use Rattle.master_state.specs.Replies.{puts_of}
use Rattle.master_state.specs.Lapses.{lapses_puts}
use Rattle.over_core.proofs.LockClaims.{IsFit, turn_waiters, settled_waiters, without_fit, lapse_fit, delay_fits, lapse_higher}
use Rattle.over_core.proofs.LockPuts.{IsPut, at_number, lock_at_put, instances_of, fit_of, kept_of_fit}
use Rattle.over_core.proofs.NamedLocks.{IsNamed, named_put, puts_are, named_is_put, not_idle}
use Rattle.over_core.proofs.RepliesKept.{all_append, claims_count, told_of, told_of_all}

-- ---- who waited

fewer : {X : Type 0} (f : X → ℕ) (p : X → Bool) (xs : List X) → sum_by f (filter p xs) ≤ sum_by f xs
fewer f p xs = less (sum_by f (filter p xs)) (sum_by f (filter (λ x. not (p x)) xs)) (sum_by f xs) (sum_by-filter_both p (λ x. not (p x)) (λ x. refl) f xs)
  where
    less : (a b c : ℕ) → a + b ≡ c → a ≤ c
    less a b c h = omega (arith, h)

-- whoever got the lock, was turned away, or waits still
pub told_and_waiting : (q : ℕ) (turn : Turn) → told_of q turn + waits_count q turn.lock ≡ claims_count q (turn_waiters turn)
told_and_waiting q turn =
    sum (claims_count q turn.granted) (claims_count q turn.exhausted) (waits_count q turn.lock) (claims_count q (turn.exhausted ++ turn.lock.waiters)) (claims_count q (turn_waiters turn))
    (sum_by-append (claim_count q) turn.granted (turn.exhausted ++ turn.lock.waiters)) (sum_by-append (claim_count q) turn.exhausted turn.lock.waiters)
  where
    sum : (a b c d e : ℕ) → e ≡ a + d → d ≡ b + c → a + b + c ≡ e
    sum a b c d e h k = omega (arith, h, k)

closed_waiters : (lock : LockState) (now delay : ℕ) → turn_waiters (closed_for lock now delay) ≡ lock.waiters
closed_waiters lock now delay =
    elim (delay == 0) as (λ b. turn_waiters (cond b (settled lock) (record { lock = record lock { closed = Some (record { from = now; delay = delay }) }; granted = []; exhausted = [] })) ≡ lock.waiters) [
      | true ↦ settled_waiters lock
      | false ↦ refl
    ]

lapse_waiters : (parting : Parting) (instance : ℕ) (lock : LockState) (client now : ℕ) → turn_waiters (lapsed parting instance lock client now).turn ≡ (without (is_of_client client) lock).waiters
lapse_waiters parting instance lock client now =
    let left : LockState = without (is_of_client client) lock in
    let ended : List Claim = claims_of client lock.holders in
    elim (is_abandoned ended left) as (λ b. turn_waiters (cond b (closed_for left now (delay_of parting ended)) (settled left)) ≡ left.waiters) [
      | true ↦ closed_waiters left now (delay_of parting ended)
      | false ↦ settled_waiters left
    ]

pub lapse_waits : (parting : Parting) (q instance : ℕ) (lock : LockState) (client now : ℕ) → told_of q (lapsed parting instance lock client now).turn + waits_count q (lapsed parting instance lock client now).turn.lock ≤ waits_count q lock
lapse_waits parting q instance lock client now =
    let turn : Turn = (lapsed parting instance lock client now).turn in
    at_most (told_of q turn + waits_count q turn.lock) (claims_count q (turn_waiters turn)) (claims_count q (without (is_of_client client) lock).waiters) (waits_count q lock)
    (told_and_waiting q turn) (ap (claims_count q) (lapse_waiters parting instance lock client now)) (fewer (claim_count q) (λ claim. not (is_of_client client claim.owner)) lock.waiters)
  where
    at_most : (a b c d : ℕ) → a ≡ b → b ≡ c → c ≤ d → a ≤ d
    at_most a b c d h k l = omega (arith, h, k, l)

-- ---- the locks that a session held or awaited

differs : (b c : Bool) → c ≡ false → (b && c) ≡ false
differs true c h = h
differs false c h = refl

busy_by : (a : Bool) (holders : Holders) (waiters : List Claim) (client : ℕ) → (list_any (λ entry. is_of_client client entry.0) holders || list_any (λ claim. is_of_client client claim.owner) waiters) ≡ true → (a && is_none (mode_of holders) && is_nobody waiters) ≡ false
busy_by a [] [] client h = absurd cc
busy_by a [] (w ∷ ws) client h = differs (a && true) false refl
busy_by a (e ∷ es) ws client h = ap (λ b. b && is_nobody ws) (differs a false refl)

concerned_busy : (client : ℕ) (lock : LockState) → concerns client lock ≡ true → is_idle lock ≡ false
concerned_busy client lock h = busy_by (lock.generation == 0 && is_none lock.closed) lock.holders lock.waiters client h

apart : (a b : ℕ) → (a == b) ≡ false → (b == a) ≡ false
apart a b h = grind (arith, nat_tests)

behind_apart : (a b : ℕ) → nat_cmp a b ≡ Less → (b == a) ≡ false
behind_apart a b h = sym (at_number a b) ∙ ap is_eq h

none_same : (a : ℕ) (keys : List ℕ) → AllByRecursion (λ b. nat_cmp a b ≡ Less) keys → list_any (λ m. m == a) keys ≡ false
none_same a [] h = refl
none_same a (k ∷ ks) h = rw (behind_apart a k h.0, none_same a ks h.1) refl

pub sorted_distinct : (keys : List ℕ) → IsStrictlySortedBy nat_cmp keys → are_distinct keys ≡ true
unfolding IsStrictlySortedBy
sorted_distinct [] h = refl
sorted_distinct (k ∷ ks) h = and_from (not (list_any (λ m. m == k) ks)) (are_distinct ks) (not_from_false (list_any (λ m. m == k) ks) (none_same k ks h.0)) (sorted_distinct ks h.1)

-- each of them is among those that its end changes
pub concerned_key : (client : ℕ) (locks : LockTable) (n : ℕ) → concerns client (lock_at locks n) ≡ true → list_any (λ m. m == n) (keys_of (filter (λ e. concerns client e.1) locks)) ≡ true
concerned_key client [] n h = absurd cc
concerned_key client (e ∷ es) n h =
    let kept : LockTable = filter (λ (f : ℕ × LockState). concerns client f.1) es in
    let any : LockTable → Bool = λ fs. list_any (λ m. m == n) (keys_of fs) in
    (elim (is_at (nat_cmp n) e.0) as (λ b. is_at (nat_cmp n) e.0 ≡ b → concerns client (unwrap_or (cond b (Some e.1) (lookup (is_at (nat_cmp n)) es)) (lock_of 0)) ≡ true → any (cond (concerns client e.1) (e ∷ kept) kept) ≡ true) [
      | true ↦ (λ c k.
          (elim (concerns client e.1) as (λ b. b ≡ true → any (cond b (e ∷ kept) kept) ≡ true) [
            | true ↦ (λ f. or_left (e.0 == n) (any kept) (sym (at_number n e.0) ∙ c))
            | false ↦ (λ f. absurd cc)
          ]) k)
      | false ↦ (λ c k.
          let rest = concerned_key client es n k in
          elim (concerns client e.1) as (λ b. any (cond b (e ∷ kept) kept) ≡ true) [ true ↦ or_right (e.0 == n) (any kept) rest | false ↦ rest ])
    ]) refl h

pub unconcerned : (client : ℕ) (locks : LockTable) (n : ℕ) → list_any (λ m. m == n) (keys_of (filter (λ e. concerns client e.1) locks)) ≡ false → concerns client (lock_at locks n) ≡ false
unconcerned client locks n h =
    (elim (concerns client (lock_at locks n)) as (λ b. concerns client (lock_at locks n) ≡ b → b ≡ false) [
      | true ↦ (λ c. let among = concerned_key client locks n c in absurd cc)
      | false ↦ (λ c. refl)
    ]) refl

-- ---- a lock that it neither held nor awaited stays

all_let : {X : Type 0} (p : X → Bool) (xs : List X) → list_any p xs ≡ false → filter (λ x. not (p x)) xs ≡ xs
all_let p [] h = refl
all_let {X} p (x ∷ xs) h =
    let t = or_parts (p x) (list_any p xs) h in
    let rest : filter (λ y. not (p y)) xs ≡ xs = all_let p xs t.1 in
    rw t.0 (ap (λ (ys : List X). x ∷ ys) rest)

without_none : (client : ℕ) (lock : LockState) → concerns client lock ≡ false → without (is_of_client client) lock ≡ lock
without_none client lock h =
    let t = or_parts (any_holds (is_of_client client) lock) (any_waits (is_of_client client) lock) h in
    ap (λ (hs : Holders). record lock { holders = hs; waiters = filter (λ claim. not (is_of_client client claim.owner)) lock.waiters }) (all_let (λ (entry : Owner × Hold). is_of_client client entry.0) lock.holders t.0)
    ∙ ap (λ (ws : List Claim). record lock { waiters = ws }) (all_let (λ (claim : Claim). is_of_client client claim.owner) lock.waiters t.1)

-- ---- the rows of its locks

same_holding : (mode : LockMode) (b : Bool) → (is_holding (stored_mode mode) && b) ≡ b
same_holding modes.Exclusive b = refl
same_holding modes.Shared b = refl

held_rows : (client instance : ℕ) (holders : Holders) → list_any (holds is_holding client) (holder_rows instance holders) ≡ list_any (λ entry. is_of_client client entry.0) holders
held_rows client instance [] = refl
held_rows client instance (e ∷ es) =
    ap (λ b. b || list_any (holds is_holding client) (holder_rows instance es)) (same_holding e.1.mode (e.0.client == client))
    ∙ ap (λ b. (e.0.client == client) || b) (held_rows client instance es)

held_beside : (client instance : ℕ) (closed : Option Closing) (holders : Holders) → list_any (holds is_holding client) (closing_rows instance closed ++ holder_rows instance holders) ≡ list_any (λ entry. is_of_client client entry.0) holders
held_beside client instance None holders = held_rows client instance holders
held_beside client instance (Some closing) holders = held_rows client instance holders

near_more : (a b c : Bool) → (b ≡ true → c ≡ true) → (not a || b) ≡ true → (not a || c) ≡ true
near_more true b c h k = h k
near_more false b c h k = refl

either_way : (a b : Bool) → (not a || (a || b)) ≡ true
either_way true b = refl
either_way false b = refl

any_more : {X : Type 0} (p : X → Bool) (b : Bool) (x : X) (xs : List X) → list_any p xs ≡ true → list_any p (cond b (x ∷ xs) xs) ≡ true
any_more p true x xs h = or_right (p x) (list_any p xs) h
any_more p false x xs h = h

-- who passes is among those near it that pass
each_near : {X : Type 0} (p : X → Bool) (near : X → X → Bool) → ((x : X) → near x x ≡ true) → (xs : List X) → list_all (λ x. not (p x) || list_any p (filter (near x) xs)) xs ≡ true
each_near p near itself [] = refl
each_near {X} p near itself (y ∷ ys) =
    let any : X → List X → Bool = λ x zs. list_any p (filter (near x) zs) in
    let head : (not (p y) || list_any p (cond (near y y) (y ∷ filter (near y) ys) (filter (near y) ys))) ≡ true = rw (itself y) (either_way (p y) (any y ys)) in
    and_from (not (p y) || any y (y ∷ ys)) (list_all (λ x. not (p x) || any x (y ∷ ys)) ys) head
    (all_more (λ x. not (p x) || any x ys) (λ x. not (p x) || any x (y ∷ ys)) ys (λ x h. near_more (p x) (any x ys) (any x (y ∷ ys)) (any_more p (near x y) y (filter (near x) ys)) h) (each_near p near itself ys))

itself_at : (n : ℕ) → (n == n) ≡ true
itself_at n = grind (arith, nat_tests)

any_instance : (locks : LockTable) (puts : List LockPut) (n : ℕ) → list_any (λ (change : LockChange). change.instance == n) (map (lock_change locks) puts) ≡ list_any (λ m. m == n) (instances_of puts)
any_instance locks [] n = refl
any_instance locks (put ∷ puts) n = ap (λ b. put.instance == n || b) (any_instance locks puts n)

pub locks_among : (client : ℕ) (locks : LockTable) (rows : StoredLocks) (puts : List LockPut) → AreLockRows locks rows → instances_of puts ≡ keys_of (filter (λ e. concerns client e.1) locks) → are_among client (map (lock_change locks) puts) rows ≡ true
locks_among client locks rows puts are same =
    let held : LockKey × LockRow → Bool = holds is_holding client in
    let changed : LockKey × LockRow → Bool = λ e. list_any (λ (change : LockChange). change.instance == e.0.instance) (map (lock_change locks) puts) in
    let near : LockKey × LockRow → LockKey × LockRow → Bool = λ e f. f.0.instance == e.0.instance in
    all_more (λ e. not (held e) || list_any held (filter (near e) rows)) (λ e. not (held e) || changed e) rows
    (λ e h. near_more (held e) (list_any held (filter (near e) rows)) (changed e)
    (λ k.
    let n : ℕ = e.0.instance in
    let lock : LockState = lock_at locks n in
    let by_lock : any_holds (is_of_client client) lock ≡ true = sym (ap (list_any held) (are n) ∙ held_beside client n lock.closed lock.holders) ∙ k in
    any_instance locks puts n ∙ ap (list_any (λ m. m == n)) same ∙ concerned_key client locks n (or_left (any_holds (is_of_client client) lock) (any_waits (is_of_client client) lock) by_lock)) h)
    (each_near held near (λ e. itself_at e.0.instance) rows)

-- a lock whose holders live isn't held by one that doesn't
not_both : (sessions : SessionTable Reply) (client q : ℕ) → is_live sessions client ≡ false → is_live sessions q ≡ true → (q == client) ≡ false
not_both sessions client q dead live =
    (elim (q == client) as (λ b. (q == client) ≡ b → b ≡ false) [
      | true ↦ (λ c.
          let P : ℕ → Type 0 = λ n. is_live sessions n ≡ true in
          let lives : is_live sessions client ≡ true = subst P (eqb-true q client c) live in
          absurd cc)
      | false ↦ (λ c. refl)
    ]) refl

holders_free : (sessions : SessionTable Reply) (client instance : ℕ) (holders : Holders) → is_live sessions client ≡ false → list_all (λ entry. claim_fits sessions entry.0 entry.1) holders ≡ true → list_all (λ e. not (holds is_holding client e)) (holder_rows instance holders) ≡ true
holders_free sessions client instance [] dead h = refl
holders_free sessions client instance (e ∷ es) dead h =
    let t = and_parts (claim_fits sessions e.0 e.1) (list_all (λ (entry : Owner × Hold). claim_fits sessions entry.0 entry.1) es) h in
    let u = and_parts (is_live sessions e.0.client && is_number e.0.handle) (nat_le e.1.delay lock_delay_limit) t.0 in
    let live = (and_parts (is_live sessions e.0.client) (is_number e.0.handle) u.0).0 in
    let free : (is_holding (stored_mode e.1.mode) && e.0.client == client) ≡ false = differs (is_holding (stored_mode e.1.mode)) (e.0.client == client) (not_both sessions client e.0.client dead live) in
    and_from (not (is_holding (stored_mode e.1.mode) && e.0.client == client)) (list_all (λ f. not (holds is_holding client f)) (holder_rows instance es))
    (not_from_false (is_holding (stored_mode e.1.mode) && e.0.client == client) free) (holders_free sessions client instance es dead t.1)

rows_free : (sessions : SessionTable Reply) (client instance : ℕ) (closed : Option Closing) (holders : Holders) → is_live sessions client ≡ false → list_all (λ entry. claim_fits sessions entry.0 entry.1) holders ≡ true → list_all (λ e. not (holds is_holding client e)) (closing_rows instance closed ++ holder_rows instance holders) ≡ true
rows_free sessions client instance None holders dead h = holders_free sessions client instance holders dead h
rows_free sessions client instance (Some closing) holders dead h = holders_free sessions client instance holders dead h

pub puts_free : (sessions : SessionTable Reply) (client : ℕ) (locks : LockTable) (puts : List LockPut) → is_live sessions client ≡ false → AllByRecursion (λ put. IsFit (claim_fits sessions) (waiter_fits sessions) put.lock) puts → are_free client (map (lock_change locks) puts) ≡ true
puts_free sessions client locks [] dead all = refl
puts_free sessions client locks (put ∷ puts) dead all =
    and_from (list_all (λ e. not (holds is_holding client e)) (lock_rows put.instance put.lock)) (are_free client (map (lock_change locks) puts))
    (rows_free sessions client put.instance put.lock.closed put.lock.holders dead all.0.holders) (puts_free sessions client locks puts dead all.1)

-- ---- all that are put

module _ (parting : Parting) (cell : List ℕ) (rows : Rows) (s : MasterState) (client : ℕ) (k : IsKept cell rows s) where
  abbrev pub IsLapsing : ℕ × LockState → Type 0
  IsLapsing e = (lock_at s.locks e.0 ≡ e.1) × (concerns client e.1 ≡ true)

  abbrev pub lapse_at : ℕ × LockState → Lapse
  lapse_at e = lapsed parting e.0 e.1 client s.clock

  abbrev pub puts_in : LockTable → List LockPut
  puts_in es = lapses_puts s (map lapse_at es)

  named : (e : ℕ × LockState) → IsLapsing e → IsNamed rows s.nodes e.0
  named e h = not_idle cell rows s e.0 k (ap is_idle h.0 ∙ concerned_busy client e.1 h.1)

  puts_each : (P : LockPut → Type 0) → ((e : ℕ × LockState) (h : IsLapsing e) → P (named_put (named e h).name e.0 (lapse_at e).turn.lock)) → (es : LockTable) → AllByRecursion IsLapsing es → AllByRecursion P (puts_in es)
  puts_each P f [] all = tt
  puts_each P f (e ∷ es) all =
      let lock : LockState = (lapse_at e).turn.lock in
      let name = named e all.0 in
      let Q : List LockPut → Type 0 = AllByRecursion P in
      all_append P (puts_of s e.0 lock) (puts_in es) (subst Q (sym (puts_are s e.0 lock name.name name.is)) (f e all.0, tt)) (puts_each P f es all.1)

  pub lapsed_instances : (es : LockTable) → AllByRecursion IsLapsing es → instances_of (puts_in es) ≡ keys_of es
  lapsed_instances [] all = refl
  lapsed_instances (e ∷ es) all =
      let lock : LockState = (lapse_at e).turn.lock in
      let name = named e all.0 in
      let Q : List LockPut → Type 0 = λ puts. instances_of (puts ++ puts_in es) ≡ e.0 ∷ keys_of es in
      subst Q (sym (puts_are s e.0 lock name.name name.is)) (ap (λ (ns : List ℕ). e.0 ∷ ns) (lapsed_instances es all.1))

  -- ---- they fit, by the sessions before and by those after it

  module _ (sessions : SessionTable Reply) (keeps : (owner : Owner) (hold : Hold) → not (is_of_client client owner) ≡ true → claim_fits s.sessions owner hold ≡ true → claim_fits sessions owner hold ≡ true) where
    waiter_keeps : (claim : Claim) → not (is_of_client client claim.owner) ≡ true → waiter_fits s.sessions claim ≡ true → waiter_fits sessions claim ≡ true
    waiter_keeps claim away h =
        let t = and_parts (is_client_number claim.owner.client) (claim_fits s.sessions claim.owner claim.hold) h in
        and_from (is_client_number claim.owner.client) (claim_fits sessions claim.owner claim.hold) t.0 (keeps claim.owner claim.hold away t.1)

    left_fit : (lock : LockState) → IsFit (claim_fits s.sessions) (waiter_fits s.sessions) lock → IsFit (claim_fits sessions) (waiter_fits sessions) (without (is_of_client client) lock)
    left_fit lock fit = without_fit (claim_fits s.sessions) (claim_fits sessions) (waiter_fits s.sessions) (waiter_fits sessions) (is_of_client client) lock (λ entry away is. keeps entry.0 entry.1 away is) waiter_keeps fit

    short : (lock : LockState) → IsFit (claim_fits s.sessions) (waiter_fits s.sessions) lock → nat_le (delay_of parting (claims_of client lock.holders)) lock_delay_limit ≡ true
    short lock fit = delay_fits parting (claim_fits s.sessions) client lock.holders (λ owner hold is. (and_parts (is_live s.sessions owner.client && is_number owner.handle) (nat_le hold.delay lock_delay_limit) is).1) fit.holders

    entry_fit : (e : ℕ × LockState) → IsLapsing e → IsFit (claim_fits s.sessions) (waiter_fits s.sessions) e.1
    entry_fit e h =
        let P : LockState → Type 0 = IsFit (claim_fits s.sessions) (waiter_fits s.sessions) in
        subst P h.0 (fit_of s.nodes s.sessions e.0 (lock_at s.locks e.0) (k.locks.each e.0))

    lapse_fits : (e : ℕ × LockState) → IsLapsing e → IsFit (claim_fits sessions) (waiter_fits sessions) (lapse_at e).turn.lock
    lapse_fits e h =
        lapse_fit (claim_fits sessions) (waiter_fits sessions) (λ claim is. (and_parts (is_client_number claim.owner.client) (claim_fits sessions claim.owner claim.hold) is).1) parting e.0 (claims_of client e.1.holders) (without (is_of_client client) e.1) s.clock (short e.1 (entry_fit e h)) (left_fit e.1 (entry_fit e h))

    pub lapsed_fit : (es : LockTable) → AllByRecursion IsLapsing es → AllByRecursion (λ put. IsFit (claim_fits sessions) (waiter_fits sessions) put.lock) (puts_in es)
    lapsed_fit es all = puts_each (λ put. IsFit (claim_fits sessions) (waiter_fits sessions) put.lock) (λ e h. lapse_fits e h) es all

    pub other_kept : (n : ℕ) → concerns client (lock_at s.locks n) ≡ false → IsLockKept s.nodes sessions n (lock_at s.locks n)
    other_kept n away =
        let lock : LockState = lock_at s.locks n in
        let kept = k.locks.each n in
        let P : LockState → Type 0 = IsFit (claim_fits sessions) (waiter_fits sessions) in
        kept_of_fit s.nodes sessions n lock kept.there (subst P (without_none client lock away) (left_fit lock (fit_of s.nodes s.sessions n lock kept)))

  pub lapsed_put : (es : LockTable) → AllByRecursion IsLapsing es → AllByRecursion (IsPut rows s.locks s.sessions) (puts_in es)
  lapsed_put es all =
      puts_each (IsPut rows s.locks s.sessions)
      (λ e h.
      let lock : LockState = (lapse_at e).turn.lock in
      let P : LockState → Type 0 = λ l. l.generation ≤ lock.generation in
      named_is_put rows s e.0 lock (named e h) (lapse_fits s.sessions (λ owner hold away is. is) e h) (subst P (sym h.0) (lapse_higher parting e.0 e.1 client s.clock))) es all

  -- ---- who waits then

  abbrev pub waits_in : ℕ → LockTable → ℕ
  waits_in q locks = sum_by (waits_count q) (values_of locks)

  others_stay : (locks : LockTable) (instance : ℕ) (lock : LockState) (es : LockTable) → AllByRecursion (λ y. nat_cmp instance y ≡ Less) (keys_of es) → AllByRecursion (λ (e : ℕ × LockState). lock_at locks e.0 ≡ e.1) es → AllByRecursion (λ (e : ℕ × LockState). lock_at (with_lock locks instance lock) e.0 ≡ e.1) es
  others_stay locks instance lock [] behind h = tt
  others_stay locks instance lock (e ∷ es) behind h = (
    lock_at_put locks instance lock e.0 ∙ ap (λ b. cond b lock (lock_at locks e.0)) (apart e.0 instance (behind_apart instance e.0 behind.0)) ∙ h.0,
    others_stay locks instance lock es behind.1 h.1,
  )

  fewer_wait : (sum new old more told rest last : ℕ) → new + old ≡ sum + more → told + more ≤ old → last + rest ≤ new → last + (told + rest) ≤ sum
  fewer_wait sum new old more told rest last h k l = omega (arith, h, k, l)

  pub lapsed_waits : (q : ℕ) (sum_put : (locks : LockTable) (instance : ℕ) (lock : LockState) → IsStrictlySortedBy nat_cmp (keys_of locks) → waits_in q (with_lock locks instance lock) + waits_count q (lock_at locks instance) ≡ waits_in q locks + waits_count q lock)
      → (es locks : LockTable) → AllByRecursion IsLapsing es → AllByRecursion (λ (e : ℕ × LockState). lock_at locks e.0 ≡ e.1) es → IsStrictlySortedBy nat_cmp (keys_of es) → IsStrictlySortedBy nat_cmp (keys_of locks) → waits_in q (fold with_lock_put locks (puts_in es)) + told_of_all q (map lapse_at es) ≤ waits_in q locks
  unfolding IsStrictlySortedBy
  lapsed_waits q sum_put [] locks all at sorted table = omega arith
  lapsed_waits q sum_put (e ∷ es) locks all at sorted table =
      let lock : LockState = (lapse_at e).turn.lock in
      let name = named e all.0 in
      let new : LockTable = with_lock locks e.0 lock in
      let rest = lapsed_waits q sum_put es new all.1 (others_stay locks e.0 lock es sorted.0 at.1) sorted.1 (sorted_put nat_cmp nat_cmp_total locks e.0 lock table) in
      let Q : List LockPut → Type 0 = λ puts. waits_in q (fold with_lock_put locks (puts ++ puts_in es)) + (told_of q (lapse_at e).turn + told_of_all q (map lapse_at es)) ≤ waits_in q locks in
      let P : LockState → Type 0 = λ l. told_of q (lapse_at e).turn + waits_count q lock ≤ waits_count q l in
      subst Q (sym (puts_are s e.0 lock name.name name.is))
      (fewer_wait (waits_in q locks) (waits_in q new) (waits_count q (lock_at locks e.0)) (waits_count q lock) (told_of q (lapse_at e).turn) (told_of_all q (map lapse_at es)) (waits_in q (fold with_lock_put new (puts_in es)))
      (sum_put locks e.0 lock table) (subst P (sym at.0) (lapse_waits parting q e.0 e.1 client s.clock)) rest)
