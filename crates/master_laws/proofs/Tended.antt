-- Nobody waits for a lock that is free, and none is closed from a later moment on.
use Rattle.std.proofs.Common.{◌≡◌, ℕ, ◌≤◌, List, [], ◌∷◌, ◌++◌, Bool, true, false, cond, Ordering, Less, Equal, Greater, Option, Some, None, refl, sym, ap, subst, ◌∙◌, arith}
use Rattle.std.specs.Prelude.{◌&&◌, ◌||◌, ◌==◌, not, nat_lt, fold, is_none}
use Rattle.std.specs.List.{AllByRecursion}
use Rattle.std.specs.BTreeMap.{insert_entry}
use Rattle.std.specs.Ordering.{match_ordering}
use Rattle.node_core.specs.Limits.{number_limit}
use Rattle.node_core.specs.declared.kinds.LockMode.{LockMode}
use Rattle.lock_core.specs.declared.claims.Owner.{Owner}
use Rattle.lock_core.specs.declared.claims.Hold.{Hold}
use Rattle.lock_core.specs.declared.claims.Claim.{Claim}
use Rattle.lock_core.specs.declared.claims.Closing.{Closing}
use Rattle.lock_core.specs.declared.partings.Parting.{Parting}
use Rattle.lock_core.specs.State.{LockState, Holders, lock_of, owner_order, mode_of, nobody_holds, fits_mode, fits, is_exhausted}
use Rattle.lock_core.specs.Turns.{is_nobody, held_by, served_from, served, turned_away, settled, may_hold, waited_by, without, is_of_client, claims_of, delay_of, closed_for, is_abandoned, lapsed, reopened}
use Rattle.lock_core.specs.Locks.{LockTable, lock_at, with_lock}
use Rattle.master_state.specs.declared.updates.LockPut.{LockPut}
use Rattle.master_state.specs.Updates.{with_lock_put}
use Rattle.over_core.proofs.LockPuts.{lock_at_put}

abbrev pub is_free : LockState → Bool
is_free lock = nobody_holds lock && is_none lock.closed

abbrev pub SinceBy : ℕ → LockState → Type 0
SinceBy clock lock = (closing : Closing) → lock.closed ≡ Some closing → closing.from ≤ clock

pub record IsTended (clock : ℕ) (lock : LockState) : Type 0 where
  pub awaited : (is_nobody lock.waiters || not (is_free lock)) ≡ true
  pub since : SinceBy clock lock

-- ---- who gets it

held_entry : (o : Ordering) (owner : Owner) (hold : Hold) (first : Owner × Hold) (rest put : Holders) → is_none (mode_of (match_ordering o ((owner, hold) ∷ first ∷ rest) ((first.0, hold) ∷ rest) (first ∷ put))) ≡ false
held_entry Less owner hold first rest put = refl
held_entry Equal owner hold first rest put = refl
held_entry Greater owner hold first rest put = refl

somebody_holds : (owner : Owner) (hold : Hold) (holders : Holders) → is_none (mode_of (insert_entry owner_order holders owner hold)) ≡ false
somebody_holds owner hold [] = refl
somebody_holds owner hold (first ∷ rest) = held_entry (owner_order owner first.0) owner hold first rest (insert_entry owner_order rest owner hold)

held_busy : (lock : LockState) (claim : Claim) → nobody_holds (held_by lock claim) ≡ false
held_busy lock claim = somebody_holds claim.owner claim.hold lock.holders

or_busy : (waits nobody unclosed : Bool) → nobody ≡ false → (waits || not (nobody && unclosed)) ≡ true
or_busy true nobody unclosed h = refl
or_busy false nobody unclosed h = rw h refl

or_nobody : (waits free : Bool) → waits ≡ true → (waits || not free) ≡ true
or_nobody waits free h = rw h refl

or_not : (waits free : Bool) → free ≡ false → (waits || not free) ≡ true
or_not true free h = refl
or_not false free h = rw h refl

-- a lock that is free and has a generation left fits whoever comes
free_fits : (lock : LockState) (claim : Claim) (o : Option LockMode) → fits_mode lock claim o ≡ false → (is_none o && is_none lock.closed && not (nat_lt lock.generation number_limit)) ≡ false → (is_none o && is_none lock.closed) ≡ false
free_fits lock claim (Some mode) h k = refl
free_fits lock claim None h k = by_parts (is_none lock.closed) (nat_lt lock.generation number_limit) h k
  where
    by_parts : (unclosed spare : Bool) → (unclosed && spare) ≡ false → (unclosed && not spare) ≡ false → unclosed ≡ false
    by_parts true true h k = absurd (cc)
    by_parts true false h k = absurd (cc)
    by_parts false spare h k = refl

not_free : (lock : LockState) (claim : Claim) → fits lock claim ≡ false → is_exhausted lock ≡ false → is_free lock ≡ false
not_free lock claim h k = free_fits lock claim (mode_of lock.holders) h k

-- once somebody holds it it isn't exhausted
held_spare : (nobody unclosed none_left : Bool) → nobody ≡ false → (nobody && unclosed && none_left) ≡ false
held_spare nobody unclosed none_left h = rw h refl

served_tended : (lock : LockState) (granted waiters : List Claim) → lock.waiters ≡ [] → is_exhausted lock ≡ false → (is_nobody (served_from lock granted waiters).lock.waiters || not (is_free (served_from lock granted waiters).lock)) ≡ true
served_tended lock granted [] none spare = or_nobody (is_nobody lock.waiters) (is_free lock) (ap is_nobody none)
served_tended lock granted (first ∷ rest) none spare =
    (elim (fits lock first) as (λ b. fits lock first ≡ b → (is_nobody (cond b (served_from (held_by lock first) (granted ++ first ∷ []) rest) (record { lock = record lock { waiters = first ∷ rest }; granted = granted; exhausted = [] })).lock.waiters || not (is_free (cond b (served_from (held_by lock first) (granted ++ first ∷ []) rest) (record { lock = record lock { waiters = first ∷ rest }; granted = granted; exhausted = [] })).lock)) ≡ true) [
      | true ↦ (λ fit. served_tended (held_by lock first) (granted ++ first ∷ []) rest none (held_spare (nobody_holds (held_by lock first)) (is_none lock.closed) (not (nat_lt (held_by lock first).generation number_limit)) (held_busy lock first)))
      | false ↦ (λ unfit. or_not false (is_free lock) (not_free lock first unfit spare))
    ]) refl

settled_awaited : (lock : LockState) → (is_nobody (settled lock).lock.waiters || not (is_free (settled lock).lock)) ≡ true
settled_awaited lock =
    (elim (is_exhausted lock) as (λ b. is_exhausted lock ≡ b → (is_nobody (cond b (turned_away lock) (served lock)).lock.waiters || not (is_free (cond b (turned_away lock) (served lock)).lock)) ≡ true) [
      | true ↦ (λ none. refl)
      | false ↦ (λ spare. served_tended (record lock { waiters = [] }) [] lock.waiters refl spare)
    ]) refl

served_closed : (lock : LockState) (granted waiters : List Claim) → (served_from lock granted waiters).lock.closed ≡ lock.closed
served_closed lock granted [] = refl
served_closed lock granted (first ∷ rest) =
    elim (fits lock first) as (λ b. (cond b (served_from (held_by lock first) (granted ++ first ∷ []) rest) (record { lock = record lock { waiters = first ∷ rest }; granted = granted; exhausted = [] })).lock.closed ≡ lock.closed) [
      | true ↦ served_closed (held_by lock first) (granted ++ first ∷ []) rest
      | false ↦ refl
    ]

settled_closed : (lock : LockState) → (settled lock).lock.closed ≡ lock.closed
settled_closed lock = elim (is_exhausted lock) as (λ b. (cond b (turned_away lock) (served lock)).lock.closed ≡ lock.closed) [
  | true ↦ refl
  | false ↦ served_closed (record lock { waiters = [] }) [] lock.waiters
]

pub settled_tended : (clock : ℕ) (lock : LockState) → SinceBy clock lock → IsTended clock (settled lock).lock
settled_tended clock lock h = record { awaited = settled_awaited lock; since = λ closing is. h closing (sym (settled_closed lock) ∙ is) }

pub reopened_tended : (clock : ℕ) (lock : LockState) → IsTended clock (reopened lock).lock
reopened_tended clock lock = settled_tended clock (record lock { closed = None }) (λ closing is. absurd (cc))

-- ---- who comes

pub held_tended : (clock : ℕ) (lock : LockState) (claim : Claim) → SinceBy clock lock → IsTended clock (held_by lock claim)
held_tended clock lock claim h = record { awaited = or_busy (is_nobody lock.waiters) (nobody_holds (held_by lock claim)) (is_none lock.closed) (held_busy lock claim); since = h }

not_both : (fit nobody awaited_free : Bool) → (fit && nobody) ≡ false → (nobody ≡ true → fit ≡ false)
not_both true nobody a h k = absurd (let same : (true && nobody) ≡ true = k in cc)
not_both false nobody a h k = refl

kept_busy : (nobody free : Bool) → (nobody || not free) ≡ true → nobody ≡ false → free ≡ false
kept_busy true free h k = absurd (cc)
kept_busy false true h k = absurd (cc)
kept_busy false false h k = refl

pub waited_tended : (clock : ℕ) (lock : LockState) (claim : Claim) → may_hold lock claim ≡ false → is_exhausted lock ≡ false → IsTended clock lock → IsTended clock (waited_by lock claim)
waited_tended clock lock claim may spare h = record {
  awaited = or_not (is_nobody (lock.waiters ++ claim ∷ [])) (is_free lock) ((elim (is_nobody lock.waiters) as (λ b. is_nobody lock.waiters ≡ b → is_free lock ≡ false) [
    | true ↦ (λ none. not_free lock claim (not_both (fits lock claim) (is_nobody lock.waiters) true may none) spare)
    | false ↦ (λ some. kept_busy (is_nobody lock.waiters) (is_free lock) h.awaited some)
  ]) refl);
  since = h.since;
}

-- ---- who leaves

same_clock : (clock : ℕ) → clock ≤ clock
same_clock clock = omega arith

pub lapsed_tended : (parting : Parting) (instance : ℕ) (lock : LockState) (client clock : ℕ) → SinceBy clock lock → IsTended clock (lapsed parting instance lock client clock).turn.lock
lapsed_tended parting instance lock client clock h =
    let left : LockState = without (is_of_client client) lock in
    let ended = claims_of client lock.holders in
    let delay = delay_of parting ended in
    elim (is_abandoned ended left) as (λ b. IsTended clock (cond b (closed_for left clock delay) (settled left)).lock) [
      | true ↦ (elim (delay == 0) as (λ d. IsTended clock (cond d (settled left) (record { lock = record left { closed = Some (record { from = clock; delay = delay }) }; granted = []; exhausted = [] })).lock) [
        | true ↦ settled_tended clock left h
        | false ↦ record {
          awaited = or_not (is_nobody left.waiters) (nobody_holds left && false) (and_none (nobody_holds left));
          since = λ closing is. let now : clock ≡ closing.from = cc in subst (λ t. t ≤ clock) now (same_clock clock);
        }
      ])
      | false ↦ settled_tended clock left h
    ]
  where
    and_none : (b : Bool) → (b && false) ≡ false
    and_none true = refl
    and_none false = refl

-- ---- all locks

abbrev pub AreTended : ℕ → LockTable → Type 0
AreTended clock locks = (instance : ℕ) → IsTended clock (lock_at locks instance)

pub put_tended : (clock : ℕ) (locks : LockTable) (instance : ℕ) (lock : LockState) → IsTended clock lock → AreTended clock locks → AreTended clock (with_lock locks instance lock)
put_tended clock locks instance lock new h n =
    subst (IsTended clock) (sym (lock_at_put locks instance lock n)) (elim (instance == n) as (λ b. IsTended clock (cond b lock (lock_at locks n))) [ true ↦ new | false ↦ h n ])

pub puts_tended : (clock : ℕ) (puts : List LockPut) (locks : LockTable) → AllByRecursion (λ put. IsTended clock put.lock) puts → AreTended clock locks → AreTended clock (fold with_lock_put locks puts)
puts_tended clock [] locks new h = h
puts_tended clock (put ∷ puts) locks new h = puts_tended clock puts (with_lock locks put.instance put.lock) new.1 (put_tended clock locks put.instance put.lock new.0 h)

later_by : (a b c : ℕ) → a ≤ b → b ≤ c → a ≤ c
later_by a b c h k = omega (arith, h, k)

pub later_tended : (from to : ℕ) (locks : LockTable) → from ≤ to → AreTended from locks → AreTended to locks
later_tended from to locks le h n = let t = h n in record { awaited = t.awaited; since = λ closing is. later_by closing.from from to (t.since closing is) le }

pub none_tended : (clock : ℕ) (generation : ℕ) → IsTended clock (lock_of generation)
none_tended clock generation = record { awaited = refl; since = λ closing is. absurd (cc) }
