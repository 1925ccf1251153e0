-- The locks of a master that comes up stand beside its rows.
use Rattle.std.proofs.Common.{◌≡◌, ℕ, ◌+◌, ◌<◌, List, [], ◌∷◌, ◌++◌, Bool, true, false, cond, Ordering, Less, Equal, Greater, Option, Some, None, refl, sym, ap, subst, ◌∙◌, append_assoc, append-nil, arith}
use Rattle.std.specs.Prelude.{◌||◌, ◌==◌, not, nat_le, is_none, is_some, map, fold, unwrap_or}
use Rattle.std.specs.Option.{option_map_or}
use Rattle.std.specs.List.{AllByRecursion, list_all, list_any, sum_by}
use Rattle.std.specs.List.Sorted.{IsStrictlySortedBy}
use Rattle.std.specs.Map.{keys_of, lookup, values_of}
use Rattle.std.specs.BTreeMap.{is_at, insert_entry}
use Rattle.std.specs.Ordering.{nat_cmp, ordering_reverse}
use Rattle.std.specs.Cmp.{IsTotalOrder, nat_cmp_total, tied_itself}
use Rattle.std.proofs.lemmas.Bool.{and_parts, and_from, or_right, eqb-true, not-true}
use Rattle.std.proofs.lemmas.Bool.Decides.{nat_tests}
use Rattle.std.proofs.lemmas.List.Sums.{sum_by-cons}
use Rattle.std.proofs.lemmas.Map.Lookups.{exact_unsigned}
use Rattle.node_core.specs.Limits.{number_end, number_limit, lock_delay_limit}
use Rattle.node_core.specs.declared.kinds.LockMode.{LockMode}
use Rattle.node_core.specs.declared.kinds.LockMode.TheVariants as modes
use Rattle.rows_cell.specs.declared.settings.MasterTerms.{MasterTerms}
use Rattle.rows_cell.specs.declared.keys.LockKey.{LockKey}
use Rattle.rows_cell.specs.declared.tables.StoredNode.{StoredNode}
use Rattle.rows_cell.specs.declared.tables.LockRow.{LockRow}
use Rattle.rows_cell.specs.declared.tables.LockState as stored
use Rattle.rows_cell.specs.declared.tables.LockState.TheVariants.{Lapsed, Exclusive, Shared}
use Rattle.rows_cell.specs.declared.tables.SessionRow as of_rows
use Rattle.rows_cell.specs.declared.tables.Rows.{Rows}
use Rattle.rows_cell.specs.Keys.{lock_order}
use Rattle.rows_cell.specs.Rows.{StoredNodes, StoredLocks, map_of}
use Rattle.rows_cell.specs.Sound.{sound, is_number, is_live_in, is_shared, node_fits, lock_fits, state_fits, are_distinct}
use Rattle.rows_cell.specs.Indexes.{locks_at, lock_generation_in}
use Rattle.rows_cell.specs.LockRows.{is_holding, has_holder, row_fits, client_fits, are_together, are_legal_rows}
use Rattle.rows_cell.proofs.EntriesInOrder.{sorted_put, sorted_kept}
use Rattle.rows_cell.proofs.InstanceTables.{there_is, held_is}
use Rattle.rows_cell.proofs.PutEntries.{all_more, all_put, all_found}
use Rattle.rows_cell.proofs.SoundParts.{five_parts, has_instance, instances, numbers_of, parts_of}
use Rattle.rows_cell.proofs.SoundLocks.{sound_legal, sound_generation}
use Rattle.rows_cell.proofs.SoundRemovals.{all_let_through}
use Rattle.tags_cell.specs.declared.messages.outs.Reply.{Reply}
use Rattle.session_core.specs.declared.records.Session.{Session}
use Rattle.session_core.specs.Sessions.{SessionTable, is_live}
use Rattle.lock_core.specs.declared.claims.Owner.{Owner}
use Rattle.lock_core.specs.declared.claims.Hold.{Hold}
use Rattle.lock_core.specs.declared.claims.Claim.{Claim}
use Rattle.lock_core.specs.State as lock_state
use Rattle.lock_core.specs.State.{LockState, Holders, lock_of, owner_order, mode_of, hold_of, nobody_holds, stand_together}
use Rattle.lock_core.specs.Turns.{is_nobody}
use Rattle.lock_core.specs.Locks.{LockTable, lock_at, with_lock, with_holder, may_stand}
use Rattle.master_parts.specs.Locks.{holder_key, holder_row, holder_rows, lapsed_key, lock_rows, with_generation, holder_of, locked_as, with_row, generations_of, locks_of}
use Rattle.master_parts.specs.StoredSessions.{taken_over, sessions_of}
use Rattle.master_state.specs.State.{master_of}
use Rattle.over_core.specs.Kept.{claim_count, AreLocksKept, is_idle, is_there, claim_fits, waiter_fits, waits_count}
use Rattle.over_core.proofs.LockClaims.{IsFit, owner_total}
use Rattle.over_core.proofs.LockPuts.{lock_at_put, kept_of_fit}
use Rattle.over_core.proofs.LocksKept.{there_by_rows}

-- ---- entries that are put after all others

module _ {K V : Type 0} (cmp : K → K → Ordering) (total : IsTotalOrder cmp) where
  before_it : (x : K) (front : List (K × V)) (k : K) (v : V) (rest : List (K × V)) → AllByRecursion (λ z. cmp x z ≡ Less) (keys_of (front ++ (k, v) ∷ rest)) → cmp k x ≡ Greater
  before_it x [] k v rest h = total.antisymm k x ∙ ap ordering_reverse h.0
  before_it x (e ∷ front) k v rest h = before_it x front k v rest h.1

  put_behind : (front : List (K × V)) (k : K) (v : V) (rest : List (K × V)) → IsStrictlySortedBy cmp (keys_of (front ++ (k, v) ∷ rest)) → insert_entry cmp front k v ≡ front ++ (k, v) ∷ []
  unfolding IsStrictlySortedBy
  put_behind [] k v rest h = refl
  put_behind (e ∷ front) k v rest h = rw (before_it e.0 front k v rest h.0) (ap (λ (es : List (K × V)). e ∷ es) (put_behind front k v rest h.1))

  none_before : (front : List (K × V)) (k : K) (v : V) (rest : List (K × V)) → IsStrictlySortedBy cmp (keys_of (front ++ (k, v) ∷ rest)) → is_none (lookup (is_at (cmp k)) front) ≡ true
  unfolding IsStrictlySortedBy
  none_before [] k v rest h = refl
  none_before (e ∷ front) k v rest h = rw (before_it e.0 front k v rest h.0) (none_before front k v rest h.1)

-- ---- the generations

-- the generation that the rows tell of a lock
abbrev pub told_generation : StoredNodes → ℕ → ℕ
told_generation nodes n = unwrap_or (lock_generation_in nodes n) 0

none_at : (nodes : StoredNodes) (n : ℕ) → has_instance nodes n ≡ false → lock_generation_in nodes n ≡ None
none_at nodes n h = none_of (lock_generation_in nodes n) (there_is nodes n ∙ h)
  where
    none_of : (o : Option ℕ) → is_some o ≡ false → o ≡ None
    none_of None k = refl
    none_of (Some g) k = absurd cc

by_instances : (nodes : StoredNodes) (n : ℕ) → has_instance nodes n ≡ list_any (λ m. m == n) (instances nodes)
by_instances [] n = refl
by_instances (e ∷ es) n = ap (λ b. e.1.node.instance == n || b) (by_instances es n)

with_number : (locks : LockTable) (entry : List ℕ × StoredNode) → is_number entry.1.lock_generation ≡ true → with_generation locks entry ≡ with_lock locks entry.1.node.instance (lock_of entry.1.lock_generation)
with_number locks entry h = rw h refl

one_told : (a : Bool) (g : ℕ) (o : Option ℕ) (lock : LockState) → (a ≡ true → o ≡ None) → option_map_or lock_of o (cond a (lock_of g) lock) ≡ option_map_or lock_of (cond a (Some g) o) lock
one_told true g o lock h = ap (λ (p : Option ℕ). option_map_or lock_of p (lock_of g)) (h refl)
one_told false g o lock h = refl

told : (locks : LockTable) (nodes : StoredNodes) (n : ℕ) → list_all (λ e. is_number e.1.lock_generation) nodes ≡ true → are_distinct (instances nodes) ≡ true
    → lock_at (fold with_generation locks nodes) n ≡ option_map_or lock_of (lock_generation_in nodes n) (lock_at locks n)
told locks [] n h distinct = refl
told locks (e ∷ es) n h distinct =
    let i : ℕ = e.1.node.instance in
    let g : ℕ = e.1.lock_generation in
    let among : ℕ → Bool = λ x. list_any (λ m. m == x) (instances es) in
    let t = and_parts (is_number g) (list_all (λ (x : List ℕ × StoredNode). is_number x.1.lock_generation) es) h in
    let u = and_parts (not (among i)) (are_distinct (instances es)) distinct in
    let P : ℕ → Type 0 = λ x. among x ≡ false in
    ap (λ ls. lock_at (fold with_generation ls es) n) (with_number locks e t.0)
    ∙ told (with_lock locks i (lock_of g)) es n t.1 u.1
    ∙ ap (λ lock. option_map_or lock_of (lock_generation_in es n) lock) (lock_at_put locks i (lock_of g) n)
    ∙ one_told (i == n) g (lock_generation_in es n) (lock_at locks n)
    (λ c. none_at es n (by_instances es n ∙ subst P (eqb-true i n c) (not-true (among i) u.0)))

of_told : (o : Option ℕ) → option_map_or lock_of o (lock_of 0) ≡ lock_of (unwrap_or o 0)
of_told None = refl
of_told (Some g) = refl

numbers_within : (nodes : StoredNodes) (n : ℕ) → list_all (λ e. is_number e.1.lock_generation) nodes ≡ true → is_number (told_generation nodes n) ≡ true
numbers_within [] n h = refl
numbers_within (e ∷ es) n h =
    let t = and_parts (is_number e.1.lock_generation) (list_all (λ (x : List ℕ × StoredNode). is_number x.1.lock_generation) es) h in
    (elim (e.1.node.instance == n) as (λ b. is_number (unwrap_or (cond b (Some e.1.lock_generation) (lock_generation_in es n)) 0) ≡ true) [
      | true ↦ t.0
      | false ↦ numbers_within es n t.1
    ])

below_end : (n : ℕ) → is_number n ≡ true → n < number_end
below_end n h = grind (arith, nat_tests)

first_told : (o : Option ℕ) → option_map_or (λ generation. nat_le 1 generation) o false ≡ true → nat_le 1 (unwrap_or o 0) ≡ true
first_told None h = absurd cc
first_told (Some g) h = h

-- ---- the rows of one lock, one after the other

abbrev with_one : ℕ → LockState → LockKey × LockRow → LockState
with_one now lock entry = locked_as lock now entry.0 entry.1.delay entry.1.state

abbrev rebuilt : ℕ → LockState → StoredLocks → LockState
rebuilt now lock rows = fold (with_one now) lock rows

by_rows : (now : ℕ) (locks : LockTable) (rows : StoredLocks) (n : ℕ) → lock_at (fold (with_row now) locks rows) n ≡ rebuilt now (lock_at locks n) (locks_at rows n)
by_rows now locks [] n = refl
by_rows now locks (e ∷ es) n =
    let i : ℕ = e.0.instance in
    by_rows now (with_row now locks e) es n
    ∙ ap (λ lock. rebuilt now lock (locks_at es n)) (lock_at_put locks i (with_one now (lock_at locks i) e) n)
    ∙ (elim (i == n) as (λ b. (i == n) ≡ b → rebuilt now (cond b (with_one now (lock_at locks i) e) (lock_at locks n)) (locks_at es n) ≡ rebuilt now (lock_at locks n) (cond b (e ∷ locks_at es n) (locks_at es n))) [
      | true ↦ (λ c. ap (λ x. rebuilt now (with_one now (lock_at locks x) e) (locks_at es n)) (eqb-true i n c))
      | false ↦ (λ c. refl)
    ]) refl

-- ---- shared holders

abbrev owner_in : LockKey → Owner
owner_in key = record { client = key.client; handle = key.handle }

abbrev hold_in : LockMode → LockRow → Hold
hold_in mode row = record { mode = mode; delay = row.delay }

abbrev holders_in : LockMode → StoredLocks → Holders
holders_in mode rows = map (λ e. (owner_in e.0, hold_in mode e.1)) rows

abbrev are_shared : Holders → Bool
are_shared holders = list_all (λ entry. lock_state.is_shared entry.1.mode) holders

abbrev held_of : ℕ → Holders → LockState
held_of generation holders = record { generation = generation; holders = holders; waiters = []; closed = None }

may_stand_as : (generation : ℕ) (front : Holders) (claim : Claim) (mode : LockMode) → lock_state.is_shared mode ≡ true → lock_state.is_shared claim.hold.mode ≡ true → is_none (hold_of (held_of generation front) claim.owner) ≡ true → may_stand (held_of generation front) claim (Some mode) ≡ true
may_stand_as generation front claim modes.Exclusive h own none = absurd cc
may_stand_as generation front claim modes.Shared h own none = rw (own, none) refl

may_join : (generation : ℕ) (front : Holders) (claim : Claim) → nat_le 1 generation ≡ true → are_shared front ≡ true → lock_state.is_shared claim.hold.mode ≡ true → is_none (hold_of (held_of generation front) claim.owner) ≡ true → may_stand (held_of generation front) claim (mode_of front) ≡ true
may_join generation [] claim first all own none = first
may_join generation (e ∷ es) claim first all own none = may_stand_as generation (e ∷ es) claim e.1.mode (and_parts (lock_state.is_shared e.1.mode) (are_shared es) all).0 own none

shared_state : (state : stored.LockState) → is_shared state ≡ true → state ≡ Shared
shared_state Lapsed h = absurd cc
shared_state Exclusive h = absurd cc
shared_state Shared h = refl

all_push : (front : Holders) (e : Owner × Hold) → are_shared front ≡ true → lock_state.is_shared e.1.mode ≡ true → are_shared (front ++ e ∷ []) ≡ true
all_push [] e h new = and_from (lock_state.is_shared e.1.mode) true new refl
all_push (x ∷ xs) e h new =
    let t = and_parts (lock_state.is_shared x.1.mode) (are_shared xs) h in
    and_from (lock_state.is_shared x.1.mode) (are_shared (xs ++ e ∷ [])) t.0 (all_push xs e t.1 new)

joined_one : (generation : ℕ) (front : Holders) (owner : Owner) (hold : Hold) (rest : Holders) → nat_le 1 generation ≡ true → are_shared front ≡ true → lock_state.is_shared hold.mode ≡ true → IsStrictlySortedBy owner_order (keys_of (front ++ (owner, hold) ∷ rest))
    → with_holder (held_of generation front) (record { owner = owner; hold = hold }) ≡ held_of generation (front ++ (owner, hold) ∷ [])
joined_one generation front owner hold rest first all own sorted =
    rw (may_join generation front (record { owner = owner; hold = hold }) first all own (none_before owner_order owner_total front owner hold rest sorted))
    (ap (λ (holders : Holders). held_of generation holders) (put_behind owner_order owner_total front owner hold rest sorted))

joined : (now generation : ℕ) (front : Holders) (rows : StoredLocks) → nat_le 1 generation ≡ true → are_shared front ≡ true → list_all (λ e. is_shared e.1.state) rows ≡ true → IsStrictlySortedBy owner_order (keys_of (front ++ holders_in modes.Shared rows))
    → rebuilt now (held_of generation front) rows ≡ held_of generation (front ++ holders_in modes.Shared rows)
joined now generation front [] first all shared sorted = ap (λ (holders : Holders). held_of generation holders) (sym (append-nil front))
joined now generation front (e ∷ es) first all shared sorted =
    let t = and_parts (is_shared e.1.state) (list_all (λ (x : LockKey × LockRow). is_shared x.1.state) es) shared in
    let new : Owner × Hold = (owner_in e.0, hold_in modes.Shared e.1) in
    let rest : Holders = holders_in modes.Shared es in
    let one = append_assoc front (new ∷ []) rest in
    let P : Holders → Type 0 = λ holders. IsStrictlySortedBy owner_order (keys_of holders) in
    ap (λ state. rebuilt now (locked_as (held_of generation front) now e.0 e.1.delay state) es) (shared_state e.1.state t.0)
    ∙ ap (λ lock. rebuilt now lock es) (joined_one generation front (owner_in e.0) (hold_in modes.Shared e.1) rest first all refl sorted)
    ∙ joined now generation (front ++ new ∷ []) es first (all_push front new all refl) t.1 (subst P (sym one) sorted)
    ∙ ap (λ (holders : Holders). held_of generation holders) one

-- ---- holders in order

same_instance : (a b : LockKey) → a.instance ≡ b.instance → lock_order a b ≡ owner_order (owner_in a) (owner_in b)
same_instance a b h =
    let tied : nat_cmp a.instance b.instance ≡ Equal = ap (λ n. nat_cmp a.instance n) (sym h) ∙ tied_itself nat_cmp_total a.instance in
    rw tied refl

behind_owner : (n : ℕ) (key : LockKey) (mode : LockMode) (rows : StoredLocks) → key.instance ≡ n → list_all (λ e. e.0.instance == n) rows ≡ true → AllByRecursion (λ y. lock_order key y ≡ Less) (keys_of rows) → AllByRecursion (λ y. owner_order (owner_in key) y ≡ Less) (keys_of (holders_in mode rows))
behind_owner n key mode [] own all h = tt
behind_owner n key mode (e ∷ es) own all h =
    let t = and_parts (e.0.instance == n) (list_all (λ (x : LockKey × LockRow). x.0.instance == n) es) all in
    (sym (same_instance key e.0 (own ∙ sym (eqb-true e.0.instance n t.0))) ∙ h.0, behind_owner n key mode es own t.1 h.1)

owners_in_order : (n : ℕ) (mode : LockMode) (rows : StoredLocks) → list_all (λ e. e.0.instance == n) rows ≡ true → IsStrictlySortedBy lock_order (keys_of rows) → IsStrictlySortedBy owner_order (keys_of (holders_in mode rows))
unfolding IsStrictlySortedBy
owners_in_order n mode [] all h = tt
owners_in_order n mode (e ∷ es) all h =
    let t = and_parts (e.0.instance == n) (list_all (λ (x : LockKey × LockRow). x.0.instance == n) es) all in
    (behind_owner n e.0 mode es (eqb-true e.0.instance n t.0) t.1 h.0, owners_in_order n mode es t.1 h.1)

-- ---- the rows that holders have

pairs : {K V : Type 0} (p q : K × V) → p.0 ≡ q.0 → p.1 ≡ q.1 → p ≡ q
pairs {K} {V} p q e f = let t : ◌≡◌ {A = K × V} (p.0, p.1) (q.0, q.1) = rw (e, f) refl in t

row_is : (row : LockRow) (state : stored.LockState) (delay : ℕ) → row.state ≡ state → row.delay ≡ delay → row ≡ record { state = state; delay = delay }
row_is row state delay s d = λ j. record { state = s j; delay = d j }

key_is : (key : LockKey) (n client handle : ℕ) → key.instance ≡ n → key.client ≡ client → key.handle ≡ handle → key ≡ record { instance = n; client = client; handle = handle }
key_is key n client handle i c h = λ j. record { instance = i j; client = c j; handle = h j }

shared_rows : (n : ℕ) (rows : StoredLocks) → list_all (λ e. e.0.instance == n) rows ≡ true → list_all (λ e. is_shared e.1.state) rows ≡ true → rows ≡ holder_rows n (holders_in modes.Shared rows)
shared_rows n [] own shared = refl
shared_rows n (e ∷ es) own shared =
    let t = and_parts (e.0.instance == n) (list_all (λ (x : LockKey × LockRow). x.0.instance == n) es) own in
    let u = and_parts (is_shared e.1.state) (list_all (λ (x : LockKey × LockRow). is_shared x.1.state) es) shared in
    let new : LockKey × LockRow = (holder_key n (owner_in e.0), holder_row (hold_in modes.Shared e.1)) in
    let head : e ≡ new = pairs e new (key_is e.0 n e.0.client e.0.handle (eqb-true e.0.instance n t.0) refl refl) (row_is e.1 Shared e.1.delay (shared_state e.1.state u.0) refl) in
    let rest : es ≡ holder_rows n (holders_in modes.Shared es) = shared_rows n es t.1 u.1 in
    λ j. head j ∷ rest j

-- ---- claims of live sessions

live_taken : (now client : ℕ) (es : List (ℕ × of_rows.SessionRow)) → option_map_or (λ (session : Session Reply). session.live) (lookup (is_at (nat_cmp client)) (map (taken_over now) es)) false ≡ option_map_or (λ (session : of_rows.SessionRow). session.live) (lookup (is_at (nat_cmp client)) es) false
live_taken now client [] = refl
live_taken now client (e ∷ es) =
    (elim (is_at (nat_cmp client) e.0) as (λ b. option_map_or (λ (session : Session Reply). session.live) (cond b (Some (taken_over now e).1) (lookup (is_at (nat_cmp client)) (map (taken_over now) es))) false ≡ option_map_or (λ (session : of_rows.SessionRow). session.live) (cond b (Some e.1) (lookup (is_at (nat_cmp client)) es)) false) [
      | true ↦ refl
      | false ↦ live_taken now client es
    ])

holding_client : (rows : Rows) (key : LockKey) (state : stored.LockState) → client_fits rows key state ≡ true → is_holding state ≡ true → is_live_in rows key.client ≡ true
holding_client rows key Lapsed h held = absurd cc
holding_client rows key Exclusive h held = h
holding_client rows key Shared h held = h

-- ---- one lock

-- what the rows of one lock are rebuilt as
record IsRebuilt (sessions : SessionTable Reply) (n generation : ℕ) (rows : StoredLocks) (lock : LockState) : Type 0 where
  number : lock.generation ≡ generation
  rows_are : rows ≡ lock_rows n lock
  fit : IsFit (claim_fits sessions) (waiter_fits sessions) lock

same_number : (n : ℕ) → (n == n) ≡ true
same_number n = grind (arith, nat_tests)

all_modes_shared : (rows : StoredLocks) → are_shared (holders_in modes.Shared rows) ≡ true
all_modes_shared [] = refl
all_modes_shared (e ∷ es) = all_modes_shared es

together_shared : (holders : Holders) → are_shared holders ≡ true → stand_together holders ≡ true
together_shared [] h = refl
together_shared (only ∷ []) h = refl
together_shared (first ∷ second ∷ rest) h = h

module _ (rows : Rows) (sessions : SessionTable Reply) (n now generation : ℕ) (lives : (client : ℕ) → is_live_in rows client ≡ true → is_live sessions client ≡ true) (within : is_number generation ≡ true) where
  claim_of_row : (e : LockKey × LockRow) (mode : LockMode) → is_holding e.1.state ≡ true → row_fits rows n e ≡ true → claim_fits sessions (owner_in e.0) (hold_in mode e.1) ≡ true
  claim_of_row e mode held h =
      let t = five_parts (e.0.instance == n) (is_number e.0.client) (is_number e.0.handle) (nat_le e.1.delay lock_delay_limit) (client_fits rows e.0 e.1.state) h in
      rw (lives e.0.client (holding_client rows e.0 e.1.state t.4 held), t.2, t.3) refl

  shared_holds : (state : stored.LockState) → is_shared state ≡ true → is_holding state ≡ true
  shared_holds Lapsed h = absurd cc
  shared_holds Exclusive h = absurd cc
  shared_holds Shared h = refl

  claims_of_rows : (es : StoredLocks) → list_all (row_fits rows n) es ≡ true → list_all (λ e. is_shared e.1.state) es ≡ true → list_all (λ entry. claim_fits sessions entry.0 entry.1) (holders_in modes.Shared es) ≡ true
  claims_of_rows [] all shared = refl
  claims_of_rows (e ∷ es) all shared =
      let t = and_parts (row_fits rows n e) (list_all (row_fits rows n) es) all in
      let u = and_parts (is_shared e.1.state) (list_all (λ (x : LockKey × LockRow). is_shared x.1.state) es) shared in
      and_from (claim_fits sessions (owner_in e.0) (hold_in modes.Shared e.1)) (list_all (λ (entry : Owner × Hold). claim_fits sessions entry.0 entry.1) (holders_in modes.Shared es))
      (claim_of_row e modes.Shared (shared_holds e.1.state u.0) t.0) (claims_of_rows es t.1 u.1)

  own_keys : (es : StoredLocks) → list_all (row_fits rows n) es ≡ true → list_all (λ e. e.0.instance == n) es ≡ true
  own_keys es all =
      all_more (row_fits rows n) (λ e. e.0.instance == n) es
      (λ e k. (five_parts (e.0.instance == n) (is_number e.0.client) (is_number e.0.handle) (nat_le e.1.delay lock_delay_limit) (client_fits rows e.0 e.1.state) k).0) all

  -- nobody holds it
  free_rebuilt : IsRebuilt sessions n generation [] (lock_of generation)
  unfolding IsStrictlySortedBy
  free_rebuilt = record {
    number = refl;
    rows_are = refl;
    fit = record { legal = record { holders = refl; closed = refl; held = refl; generation = below_end generation within }; holders = refl; in_order = tt; waiters = refl; closing = refl };
  }

  -- shared holders
  shared_rebuilt : (es : StoredLocks) → nat_le 1 generation ≡ true → list_all (row_fits rows n) es ≡ true → list_all (λ e. is_shared e.1.state) es ≡ true → IsStrictlySortedBy lock_order (keys_of es) → IsRebuilt sessions n generation es (rebuilt now (lock_of generation) es)
  shared_rebuilt es first all shared sorted =
      let own = own_keys es all in
      let holders : Holders = holders_in modes.Shared es in
      let in_order = owners_in_order n modes.Shared es own sorted in
      let P : LockState → Type 0 = IsRebuilt sessions n generation es in
      subst P (sym (joined now generation [] es first refl shared in_order)) (record {
        number = refl;
        rows_are = shared_rows n es own shared;
        fit = record {
          legal = record {
            holders = together_shared holders (all_modes_shared es);
            closed = refl;
            held = or_right (is_none (mode_of holders)) (nat_le 1 generation) first;
            generation = below_end generation within;
          };
          holders = claims_of_rows es all shared;
          in_order = in_order;
          waiters = refl;
          closing = refl;
        };
      })

  -- one exclusive holder
  exclusive_rebuilt : (e : LockKey × LockRow) → nat_le 1 generation ≡ true → row_fits rows n e ≡ true → e.1.state ≡ Exclusive → IsRebuilt sessions n generation (e ∷ []) (locked_as (lock_of generation) now e.0 e.1.delay Exclusive)
  unfolding IsStrictlySortedBy
  exclusive_rebuilt e first fits state =
      let holders : Holders = (owner_in e.0, hold_in modes.Exclusive e.1) ∷ [] in
      let t = five_parts (e.0.instance == n) (is_number e.0.client) (is_number e.0.handle) (nat_le e.1.delay lock_delay_limit) (client_fits rows e.0 e.1.state) fits in
      let new : LockKey × LockRow = (holder_key n (owner_in e.0), holder_row (hold_in modes.Exclusive e.1)) in
      let head : e ≡ new = pairs e new (key_is e.0 n e.0.client e.0.handle (eqb-true e.0.instance n t.0) refl refl) (row_is e.1 Exclusive e.1.delay state refl) in
      let P : LockState → Type 0 = IsRebuilt sessions n generation (e ∷ []) in
      let is : locked_as (lock_of generation) now e.0 e.1.delay Exclusive ≡ held_of generation holders = rw first refl in
      let held : is_holding e.1.state ≡ true = ap is_holding state in
      subst P (sym is) (record {
        number = refl;
        rows_are = ap (λ (x : LockKey × LockRow). x ∷ []) head;
        fit = record {
          legal = record { holders = refl; closed = refl; held = first; generation = below_end generation within };
          holders = and_from (claim_fits sessions (owner_in e.0) (hold_in modes.Exclusive e.1)) true (claim_of_row e modes.Exclusive held fits) refl;
          in_order = (tt, tt);
          waiters = refl;
          closing = refl;
        };
      })

  -- closed anew
  lapsed_rebuilt : (e : LockKey × LockRow) → row_fits rows n e ≡ true → e.1.state ≡ Lapsed → IsRebuilt sessions n generation (e ∷ []) (locked_as (lock_of generation) now e.0 e.1.delay Lapsed)
  unfolding IsStrictlySortedBy
  lapsed_rebuilt e fits state =
      let t = five_parts (e.0.instance == n) (is_number e.0.client) (is_number e.0.handle) (nat_le e.1.delay lock_delay_limit) (client_fits rows e.0 e.1.state) fits in
      let P : stored.LockState → Type 0 = λ x. client_fits rows e.0 x ≡ true in
      let zero = and_parts (e.0.client == 0) (e.0.handle == 0) (subst P state t.4) in
      let new : LockKey × LockRow = (lapsed_key n, record { state = Lapsed; delay = e.1.delay }) in
      let head : e ≡ new = pairs e new (key_is e.0 n 0 0 (eqb-true e.0.instance n t.0) (eqb-true e.0.client 0 zero.0) (eqb-true e.0.handle 0 zero.1)) (row_is e.1 Lapsed e.1.delay state refl) in
      record {
        number = refl;
        rows_are = ap (λ (x : LockKey × LockRow). x ∷ []) head;
        fit = record {
          legal = record { holders = refl; closed = refl; held = refl; generation = below_end generation within };
          holders = refl;
          in_order = tt;
          waiters = refl;
          closing = t.3;
        };
      }

  first_by : (e : LockKey × LockRow) (es : StoredLocks) → (has_holder (e ∷ es) ≡ true → nat_le 1 generation ≡ true) → is_holding e.1.state ≡ true → nat_le 1 generation ≡ true
  first_by e es first held = first (rw held refl)

  single : (e : LockKey × LockRow) (state : stored.LockState) → e.1.state ≡ state → (is_holding state ≡ true → nat_le 1 generation ≡ true) → row_fits rows n e ≡ true → IsStrictlySortedBy lock_order (keys_of (e ∷ [])) → IsRebuilt sessions n generation (e ∷ []) (locked_as (lock_of generation) now e.0 e.1.delay e.1.state)
  single e Lapsed is first fits sorted =
      let P : stored.LockState → Type 0 = λ x. IsRebuilt sessions n generation (e ∷ []) (locked_as (lock_of generation) now e.0 e.1.delay x) in
      subst P (sym is) (lapsed_rebuilt e fits is)
  single e Exclusive is first fits sorted =
      let P : stored.LockState → Type 0 = λ x. IsRebuilt sessions n generation (e ∷ []) (locked_as (lock_of generation) now e.0 e.1.delay x) in
      subst P (sym is) (exclusive_rebuilt e (first refl) fits is)
  single e Shared is first fits sorted =
      shared_rebuilt (e ∷ []) (first refl) (and_from (row_fits rows n e) true fits refl) (and_from (is_shared e.1.state) true (ap is_shared is) refl) sorted

  all_rebuilt : (es : StoredLocks) → are_legal_rows rows n es ≡ true → (has_holder es ≡ true → nat_le 1 generation ≡ true) → IsStrictlySortedBy lock_order (keys_of es) → IsRebuilt sessions n generation es (rebuilt now (lock_of generation) es)
  all_rebuilt [] legal first sorted = free_rebuilt
  all_rebuilt (e ∷ []) legal first sorted =
      let t = and_parts (list_all (row_fits rows n) (e ∷ [])) (are_together (e ∷ [])) legal in
      let u = and_parts (row_fits rows n e) true t.0 in
      single e e.1.state refl (first_by e [] first) u.0 sorted
  all_rebuilt (x ∷ y ∷ rest) legal first sorted =
      let t = and_parts (list_all (row_fits rows n) (x ∷ y ∷ rest)) (are_together (x ∷ y ∷ rest)) legal in
      let u = and_parts (is_shared x.1.state) (list_all (λ (e : LockKey × LockRow). is_shared e.1.state) (y ∷ rest)) t.1 in
      shared_rebuilt (x ∷ y ∷ rest) (first_by x (y ∷ rest) first (shared_holds x.1.state u.0)) t.0 t.1 sorted

-- ---- all locks

-- entries whose locks nobody waits for
abbrev nobody_waits : LockTable → Bool
nobody_waits locks = list_all (λ entry. is_nobody entry.1.waiters) locks

lock_nobody : (locks : LockTable) (n : ℕ) → nobody_waits locks ≡ true → is_nobody (lock_at locks n).waiters ≡ true
lock_nobody locks n h =
    (elim (lookup (is_at (nat_cmp n)) locks) as (λ o. lookup (is_at (nat_cmp n)) locks ≡ o → is_nobody (unwrap_or o (lock_of 0)).waiters ≡ true) [
      | None ↦ (λ found. refl)
      | Some lock ↦ (λ found. all_found nat_cmp exact_unsigned (λ entry. is_nobody entry.1.waiters) locks n lock h found)
    ]) refl

stands_nobody : (lock : LockState) (claim : Claim) → is_nobody lock.waiters ≡ true → is_nobody (with_holder lock claim).waiters ≡ true
stands_nobody lock claim h =
    (elim (may_stand lock claim (mode_of lock.holders)) as (λ b. is_nobody (cond b (record lock { holders = insert_entry owner_order lock.holders claim.owner claim.hold }) lock).waiters ≡ true) [ true ↦ h | false ↦ h ])

still_nobody : (now : ℕ) (lock : LockState) (key : LockKey) (delay : ℕ) (state : stored.LockState) → is_nobody lock.waiters ≡ true → is_nobody (locked_as lock now key delay state).waiters ≡ true
still_nobody now lock key delay Lapsed h =
    (elim (nobody_holds lock) as (λ b. is_nobody (cond b (record lock { closed = Some (record { from = now; delay = delay }) }) lock).waiters ≡ true) [ true ↦ h | false ↦ h ])
still_nobody now lock key delay Exclusive h = stands_nobody lock (holder_of key modes.Exclusive delay) h
still_nobody now lock key delay Shared h = stands_nobody lock (holder_of key modes.Shared delay) h

-- in order, and nobody waits for any
record IsQuiet (locks : LockTable) : Type 0 where
  in_order : IsStrictlySortedBy nat_cmp (keys_of locks)
  nobody : nobody_waits locks ≡ true

quiet_put : (locks : LockTable) (n : ℕ) (lock : LockState) → is_nobody lock.waiters ≡ true → IsQuiet locks → IsQuiet (with_lock locks n lock)
quiet_put locks n lock none h = record {
  in_order = sorted_put nat_cmp nat_cmp_total locks n lock h.in_order;
  nobody = all_put nat_cmp exact_unsigned (λ entry. is_nobody entry.1.waiters) locks n lock h.nobody none;
}

quiet_generations : (nodes : StoredNodes) (locks : LockTable) → IsQuiet locks → IsQuiet (fold with_generation locks nodes)
quiet_generations [] locks h = h
quiet_generations (e ∷ es) locks h =
    quiet_generations es (with_generation locks e)
    (elim (nat_le e.1.lock_generation number_limit) as (λ b. IsQuiet (cond b (with_lock locks e.1.node.instance (lock_of e.1.lock_generation)) locks)) [
      | true ↦ quiet_put locks e.1.node.instance (lock_of e.1.lock_generation) refl h
      | false ↦ h
    ])

quiet_rows : (now : ℕ) (rows : StoredLocks) (locks : LockTable) → IsQuiet locks → IsQuiet (fold (with_row now) locks rows)
quiet_rows now [] locks h = h
quiet_rows now (e ∷ es) locks h =
    quiet_rows now es (with_row now locks e)
    (quiet_put locks e.0.instance (with_one now (lock_at locks e.0.instance) e) (still_nobody now (lock_at locks e.0.instance) e.0 e.1.delay e.1.state (lock_nobody locks e.0.instance h.nobody)) h)

quiet_start : IsQuiet []
unfolding IsStrictlySortedBy
quiet_start = record { in_order = tt; nobody = refl }

quiet : (rows : Rows) (now : ℕ) → IsQuiet (locks_of rows now)
quiet rows now = quiet_rows now rows.locks (generations_of rows) (quiet_generations rows.nodes [] quiet_start)

none_waits : (client : ℕ) (lock : LockState) → is_nobody lock.waiters ≡ true → waits_count client lock ≡ 0
none_waits client lock h =
    let none : lock.waiters ≡ [] = nobody_is lock.waiters h in
    ap (λ ws. sum_by (claim_count client) ws) none
  where
    nobody_is : (claims : List Claim) → is_nobody claims ≡ true → claims ≡ []
    nobody_is [] h = refl
    nobody_is (claim ∷ claims) h = absurd cc

none_sum : (client : ℕ) (locks : LockTable) → nobody_waits locks ≡ true → sum_by (waits_count client) (values_of locks) ≡ 0
none_sum client [] h = refl
none_sum client (e ∷ es) h =
    let t = and_parts (is_nobody e.1.waiters) (nobody_waits es) h in
    sum_by-cons (waits_count client) e.1 (values_of es)
    ∙ both_none (waits_count client e.1) (sum_by (waits_count client) (values_of es)) (none_waits client e.1 t.0) (none_sum client es t.1)
  where
    both_none : (a b : ℕ) → a ≡ 0 → b ≡ 0 → a + b ≡ 0
    both_none a b h k = omega (arith, h, k)

-- nobody waits for a lock of a master that comes up
pub nobody_outstanding : (rows : Rows) (now client : ℕ) → sum_by (waits_count client) (values_of (locks_of rows now)) ≡ 0
nobody_outstanding rows now client = none_sum client (locks_of rows now) (quiet rows now).nobody

-- ---- the locks of sound rows

module _ (cell : List ℕ) (rows : Rows) (terms : MasterTerms) (now : ℕ) (h : sound cell rows ≡ true) (sorted : IsStrictlySortedBy lock_order (keys_of rows.locks)) where
  numbered : list_all (λ e. is_number e.1.lock_generation) rows.nodes ≡ true
  numbered =
      all_more (node_fits cell rows.next_instance rows.nodes) (λ e. is_number e.1.lock_generation) rows.nodes (λ e k. (numbers_of cell rows.next_instance rows.nodes e k).1) (parts_of cell rows h).nodes

  generation_of : (n : ℕ) → lock_at (generations_of rows) n ≡ lock_of (told_generation rows.nodes n)
  generation_of n = told [] rows.nodes n numbered (parts_of cell rows h).distinct ∙ of_told (lock_generation_in rows.nodes n)

  lock_is : (n : ℕ) → lock_at (locks_of rows now) n ≡ rebuilt now (lock_of (told_generation rows.nodes n)) (locks_at rows.locks n)
  lock_is n = by_rows now (generations_of rows) rows.locks n ∙ ap (λ lock. rebuilt now lock (locks_at rows.locks n)) (generation_of n)

  live_on : (client : ℕ) → is_live_in rows client ≡ true → is_live (sessions_of rows terms.lease now) client ≡ true
  live_on client live = live_taken now client rows.sessions ∙ live

  first_here : (n : ℕ) → has_holder (locks_at rows.locks n) ≡ true → nat_le 1 (told_generation rows.nodes n) ≡ true
  first_here n held = first_told (lock_generation_in rows.nodes n) (held_is rows.nodes n (parts_of cell rows h).distinct ∙ sound_generation cell rows n h held)

  is_rebuilt : (n : ℕ) → IsRebuilt (sessions_of rows terms.lease now) n (told_generation rows.nodes n) (locks_at rows.locks n) (lock_at (locks_of rows now) n)
  is_rebuilt n =
      let P : LockState → Type 0 = IsRebuilt (sessions_of rows terms.lease now) n (told_generation rows.nodes n) (locks_at rows.locks n) in
      subst P (sym (lock_is n))
      (all_rebuilt rows (sessions_of rows terms.lease now) n now (told_generation rows.nodes n) live_on (numbers_within rows.nodes n numbered) (locks_at rows.locks n) (sound_legal cell rows n h) (first_here n)
      (sorted_kept lock_order (λ e. e.0.instance == n) rows.locks sorted))

  -- where the node isn't there, nothing is told of its lock
  no_rows : (n : ℕ) → has_instance rows.nodes n ≡ false → locks_at rows.locks n ≡ []
  no_rows n none =
      none_left (has_instance rows.nodes n) (locks_at rows.locks n) none
      (all_let_through (λ (e : LockKey × LockRow). e.0.instance == n) (lock_fits rows) (λ e. has_instance rows.nodes n) rows.locks (λ e own k.
      let t = five_parts (has_instance rows.nodes e.0.instance) (is_number e.0.client) (is_number e.0.handle) (nat_le e.1.delay lock_delay_limit) (state_fits rows e.0 e.1.state) k in
      let P : ℕ → Type 0 = λ m. has_instance rows.nodes m ≡ true in
      subst P (eqb-true e.0.instance n own) t.0) (parts_of cell rows h).locks)
    where
      none_left : (b : Bool) (es : StoredLocks) → b ≡ false → list_all (λ (e : LockKey × LockRow). b) es ≡ true → es ≡ []
      none_left b [] is all = refl
      none_left b (e ∷ es) is all = let t = and_parts b (list_all (λ (x : LockKey × LockRow). b) es) all in absurd (cc)

  idle_or_there : (n : ℕ) → (is_idle (lock_at (locks_of rows now) n) || is_there (map_of rows) n) ≡ true
  idle_or_there n =
      (elim (has_instance rows.nodes n) as (λ b. has_instance rows.nodes n ≡ b → (is_idle (lock_at (locks_of rows now) n) || is_there (map_of rows) n) ≡ true) [
        | true ↦ (λ c. or_right (is_idle (lock_at (locks_of rows now) n)) (is_there (map_of rows) n) (there_by_rows rows.nodes n ∙ c))
        | false ↦ (λ c.
            let idle : lock_at (locks_of rows now) n ≡ lock_of 0 =
            lock_is n ∙ ap (λ es. rebuilt now (lock_of (told_generation rows.nodes n)) es) (no_rows n c) ∙ ap (λ o. lock_of (unwrap_or o 0)) (none_at rows.nodes n c) in
            ap (λ lock. is_idle lock || is_there (map_of rows) n) idle)
      ]) refl

  pub locks_rebuilt : AreLocksKept rows (master_of rows terms now)
  locks_rebuilt = record {
    generations = λ n generation told. ap (λ (o : Option ℕ). unwrap_or o 0) (sym told) ∙ sym (is_rebuilt n).number;
    rows_of_locks = λ n. (is_rebuilt n).rows_are;
    in_order = (quiet rows now).in_order;
    each = λ n. kept_of_fit (map_of rows) (sessions_of rows terms.lease now) n (lock_at (locks_of rows now) n) (idle_or_there n) (is_rebuilt n).fit;
  }
