-- Whatever happens to a lock, its generation is one more where somebody holds it and nobody does who held it before, and else the same.
use Rattle.std.proofs.Common.{◌≡◌, ℕ, ◌+◌, List, [], ◌∷◌, ◌++◌, Bool, true, false, cond, Ordering, Less, Equal, Greater, Option, Some, None, Result, Ok, Err, refl, sym, ap, subst, ◌∙◌, arith}
use Rattle.std.specs.Prelude.{◌&&◌, ◌||◌, ◌==◌, not, is_none, is_some, filter, if◌then◌else◌}
use Rattle.std.specs.List.{list_all, list_any}
use Rattle.std.specs.Ordering.{match_ordering, ordering_then, nat_cmp}
use Rattle.std.specs.BTreeMap.{is_at, insert_entry}
use Rattle.std.specs.Cmp.{nat_cmp_total, tied_itself}
use Rattle.std.proofs.lemmas.Bool.{and_parts, and_from, or_left, or_right, or_parts, or_from, not-true}
use Rattle.std.proofs.lemmas.Map.Lookups.{CmpEqualImpliesEq, exact_unsigned}
use Rattle.collections.proofs.Entries.{eq_at}
use Rattle.rows_cell.proofs.PutEntries.{all_more}
use Rattle.node_core.specs.declared.refusals.Fault.{Fault}
use Rattle.node_core.specs.declared.refusals.Fault.TheVariants as faults
use Rattle.lock_core.specs.declared.claims.Owner.{Owner}
use Rattle.lock_core.specs.declared.claims.Hold.{Hold}
use Rattle.lock_core.specs.declared.claims.Claim.{Claim}
use Rattle.lock_core.specs.declared.turns.Turn.{Turn}
use Rattle.lock_core.specs.declared.turns.Acquired.{Acquired}
use Rattle.lock_core.specs.declared.turns.Acquired.TheVariants.{Held, Waits}
use Rattle.lock_core.specs.State.{LockState, Holders, owner_order, mode_of, nobody_holds, fits, is_exhausted, hold_of}
use Rattle.lock_core.specs.Turns.{generation_after, held_by, waited_by, served_from, served, settled, is_nobody, may_hold, tried, acquired, acquired_by, released, closed_by, reopened, lapsed, closed_for, is_abandoned, delay_of, claims_of, without, is_owner, is_of_client, any_waits}
use Rattle.lock_core.proofs.Legal.{some_insert}
use Rattle.lock_core.proofs.Generations.{rise_of, settled_rises, tried_is}
use Rattle.lock_core.specs.declared.partings.Parting.{Parting}

-- ---- who holds it

abbrev pub holds_in : Holders → Owner → Bool
holds_in holders owner = list_any (λ entry. is_at (owner_order owner) entry.0) holders

-- somebody who held it before holds it still
abbrev pub stays_held : LockState → LockState → Bool
stays_held old new = list_any (λ entry. holds_in old.holders entry.0) new.holders

-- it came from free: somebody holds it, and nobody does who held it before
abbrev pub begins : LockState → LockState → Bool
begins old new = not (nobody_holds new) && not (stays_held old new)

abbrev pub RisesTo : LockState → LockState → Type 0
RisesTo old new = new.generation ≡ old.generation + (if begins old new then 1 else 0)

-- ---- a test of holders

module _ (p : Owner → Bool) where
  abbrev any_of : Holders → Bool
  any_of holders = list_any (λ entry. p entry.0) holders

  any_put : (holders : Holders) (owner : Owner) (hold : Hold) → any_of holders ≡ true → any_of (insert_entry owner_order holders owner hold) ≡ true
  any_put [] owner hold h = absurd cc
  any_put (e ∷ es) owner hold h =
      (elim (owner_order owner e.0) as (λ o. any_of (match_ordering o ((owner, hold) ∷ e ∷ es) ((e.0, hold) ∷ es) (e ∷ insert_entry owner_order es owner hold)) ≡ true) [
        | Less ↦ or_right (p owner) (any_of (e ∷ es)) h
        | Equal ↦ h
        | Greater ↦ (elim (p e.0) as (λ b. (b || any_of es) ≡ true → (b || any_of (insert_entry owner_order es owner hold)) ≡ true) [ true ↦ (λ k. refl) | false ↦ (λ k. any_put es owner hold k) ]) h
      ])

  pub none_put : (holders : Holders) (owner : Owner) (hold : Hold) → any_of holders ≡ false → p owner ≡ false → any_of (insert_entry owner_order holders owner hold) ≡ false
  none_put [] owner hold h new = or_from (p owner) false new refl
  none_put (e ∷ es) owner hold h new =
      let t = or_parts (p e.0) (any_of es) h in
      (elim (owner_order owner e.0) as (λ o. any_of (match_ordering o ((owner, hold) ∷ e ∷ es) ((e.0, hold) ∷ es) (e ∷ insert_entry owner_order es owner hold)) ≡ false) [
        | Less ↦ or_from (p owner) (any_of (e ∷ es)) new h
        | Equal ↦ h
        | Greater ↦ or_from (p e.0) (any_of (insert_entry owner_order es owner hold)) t.0 (none_put es owner hold t.1 new)
      ])

  -- who gets it next to others, or where none of them was meant
  any_served : (lock : LockState) (granted waiters : List Claim) → any_of lock.holders ≡ true → any_of (served_from lock granted waiters).lock.holders ≡ true
  any_served lock granted [] h = h
  any_served lock granted (first ∷ rest) h =
      (elim (fits lock first) as (λ b. any_of (cond b (served_from (held_by lock first) (granted ++ first ∷ []) rest) (record { lock = record lock { waiters = first ∷ rest }; granted = granted; exhausted = [] })).lock.holders ≡ true) [
        | true ↦ any_served (held_by lock first) (granted ++ first ∷ []) rest (any_put lock.holders first.owner first.hold h)
        | false ↦ h
      ])

  none_served : (lock : LockState) (granted waiters : List Claim) → any_of lock.holders ≡ false → list_all (λ (claim : Claim). not (p claim.owner)) waiters ≡ true → any_of (served_from lock granted waiters).lock.holders ≡ false
  none_served lock granted [] h all = h
  none_served lock granted (first ∷ rest) h all =
      let t = and_parts (not (p first.owner)) (list_all (λ (claim : Claim). not (p claim.owner)) rest) all in
      (elim (fits lock first) as (λ b. any_of (cond b (served_from (held_by lock first) (granted ++ first ∷ []) rest) (record { lock = record lock { waiters = first ∷ rest }; granted = granted; exhausted = [] })).lock.holders ≡ false) [
        | true ↦ none_served (held_by lock first) (granted ++ first ∷ []) rest (none_put lock.holders first.owner first.hold h (not-true (p first.owner) t.0)) t.1
        | false ↦ h
      ])

  pub any_settled : (lock : LockState) → any_of lock.holders ≡ true → any_of (settled lock).lock.holders ≡ true
  any_settled lock h =
      (elim (is_exhausted lock) as (λ b. any_of (cond b (record { lock = record lock { waiters = [] }; granted = []; exhausted = lock.waiters }) (served lock)).lock.holders ≡ true) [
        | true ↦ h
        | false ↦ any_served (record lock { waiters = [] }) [] lock.waiters h
      ])

  none_settled : (lock : LockState) → any_of lock.holders ≡ false → list_all (λ (claim : Claim). not (p claim.owner)) lock.waiters ≡ true → any_of (settled lock).lock.holders ≡ false
  none_settled lock h all =
      (elim (is_exhausted lock) as (λ b. any_of (cond b (record { lock = record lock { waiters = [] }; granted = []; exhausted = lock.waiters }) (served lock)).lock.holders ≡ false) [
        | true ↦ h
        | false ↦ none_served (record lock { waiters = [] }) [] lock.waiters h all
      ])

-- ---- each holder holds it

own_key : (owner : Owner) → is_at (owner_order owner) owner ≡ true
own_key owner = rw (tied_itself nat_cmp_total owner.client, tied_itself nat_cmp_total owner.handle) refl

each_holds : (holders : Holders) → list_all (λ entry. holds_in holders entry.0) holders ≡ true
each_holds [] = refl
each_holds (e ∷ es) =
    and_from (holds_in (e ∷ es) e.0) (list_all (λ entry. holds_in (e ∷ es) entry.0) es) (or_left (is_at (owner_order e.0) e.0) (holds_in es e.0) (own_key e.0))
    (all_more (λ (entry : Owner × Hold). holds_in es entry.0) (λ entry. holds_in (e ∷ es) entry.0) es (λ entry h. or_right (is_at (owner_order entry.0) e.0) (holds_in es entry.0) h) (each_holds es))

-- where somebody is left, he passes what each passes
some_left : (p : Owner → Bool) (keep : Owner × Hold → Bool) (holders : Holders) → list_all (λ entry. p entry.0) holders ≡ true → is_none (mode_of (filter keep holders)) ≡ false → list_any (λ entry. p entry.0) (filter keep holders) ≡ true
some_left p keep [] all h = absurd cc
some_left p keep (e ∷ es) all h =
    let t = and_parts (p e.0) (list_all (λ (entry : Owner × Hold). p entry.0) es) all in
    (elim (keep e) as (λ b. is_none (mode_of (cond b (e ∷ filter keep es) (filter keep es))) ≡ false → list_any (λ entry. p entry.0) (cond b (e ∷ filter keep es) (filter keep es)) ≡ true) [
      | true ↦ (λ k. or_left (p e.0) (list_any (λ (entry : Owner × Hold). p entry.0) (filter keep es)) t.0)
      | false ↦ (λ k. some_left p keep es t.1 k)
    ]) h

-- two handles of one client and one number are the same
both_equal : (a b : Ordering) → ordering_then a b ≡ Equal → (a ≡ Equal) × (b ≡ Equal)
both_equal Less b e = absurd cc
both_equal Equal b e = (refl, e)
both_equal Greater b e = absurd cc

exact_owner : CmpEqualImpliesEq owner_order
exact_owner x y h =
    let t = both_equal (nat_cmp x.client y.client) (nat_cmp x.handle y.handle) h in
    let c = exact_unsigned x.client y.client t.0 in
    let n = exact_unsigned x.handle y.handle t.1 in
    λ j. record { client = c j; handle = n j }

-- where nobody is left, whoever held it left
all_leave : (leaves : Owner → Bool) (holders : Holders) (owner : Owner) → is_none (mode_of (filter (λ entry. not (leaves entry.0)) holders)) ≡ true → holds_in holders owner ≡ true → leaves owner ≡ true
all_leave leaves [] owner none h = absurd cc
all_leave leaves (e ∷ es) owner none h =
    let rest : Holders = filter (λ entry. not (leaves entry.0)) es in
    (elim (leaves e.0) as (λ b. leaves e.0 ≡ b → is_none (mode_of (cond (not b) (e ∷ rest) rest)) ≡ true → leaves owner ≡ true) [
      | true ↦ (λ c k.
          (elim (is_at (owner_order owner) e.0) as (λ b. is_at (owner_order owner) e.0 ≡ b → (b || holds_in es owner) ≡ true → leaves owner ≡ true) [
            | true ↦ (λ d l. ap leaves (exact_owner owner e.0 (eq_at (owner_order owner e.0) d)) ∙ c)
            | false ↦ (λ d l. all_leave leaves es owner k l)
          ]) refl h)
      | false ↦ (λ c k. absurd cc)
    ]) refl none

opposite : (a b : Bool) → not a ≡ true → (b ≡ true → a ≡ true) → not b ≡ true
opposite true b h k = absurd cc
opposite false true h k = let e = k refl in absurd cc
opposite false false h k = refl

-- and nobody who waits still held it
none_wait : (leaves p : Owner → Bool) → ((owner : Owner) → p owner ≡ true → leaves owner ≡ true) → (waiters : List Claim) → list_all (λ (claim : Claim). not (p claim.owner)) (filter (λ claim. not (leaves claim.owner)) waiters) ≡ true
none_wait leaves p left [] = refl
none_wait leaves p left (first ∷ rest) =
    let others : List Claim = filter (λ (claim : Claim). not (leaves claim.owner)) rest in
    let none : List Claim → Bool = list_all (λ (claim : Claim). not (p claim.owner)) in
    (elim (not (leaves first.owner)) as (λ b. not (leaves first.owner) ≡ b → none (cond b (first ∷ others) others) ≡ true) [
      | true ↦ (λ c. and_from (not (p first.owner)) (none others) (opposite (leaves first.owner) (p first.owner) c (left first.owner)) (none_wait leaves p left rest))
      | false ↦ (λ c. none_wait leaves p left rest)
    ]) refl

-- where nobody holds it nobody passes
nobody_any : (p : Owner → Bool) (holders : Holders) → is_none (mode_of holders) ≡ true → list_any (λ entry. p entry.0) holders ≡ false
nobody_any p [] h = refl
nobody_any p (e ∷ es) h = absurd cc

-- ---- who gets it where nobody held it

somebody : (granted : List Claim) (claim : Claim) → is_nobody (granted ++ claim ∷ []) ≡ false
somebody [] claim = refl
somebody (x ∷ xs) claim = refl

some_stay : (lock : LockState) (granted waiters : List Claim) → is_nobody granted ≡ false → is_nobody (served_from lock granted waiters).granted ≡ false
some_stay lock granted [] h = h
some_stay lock granted (first ∷ rest) h =
    elim (fits lock first) as (λ b. is_nobody (cond b (served_from (held_by lock first) (granted ++ first ∷ []) rest) (record { lock = record lock { waiters = first ∷ rest }; granted = granted; exhausted = [] })).granted ≡ false) [
      | true ↦ some_stay (held_by lock first) (granted ++ first ∷ []) rest (somebody granted first)
      | false ↦ h
    ]

some_hold : (lock : LockState) (granted waiters : List Claim) → nobody_holds lock ≡ false → nobody_holds (served_from lock granted waiters).lock ≡ false
some_hold lock granted [] h = h
some_hold lock granted (first ∷ rest) h =
    elim (fits lock first) as (λ b. nobody_holds (cond b (served_from (held_by lock first) (granted ++ first ∷ []) rest) (record { lock = record lock { waiters = first ∷ rest }; granted = granted; exhausted = [] })).lock ≡ false) [
      | true ↦ some_hold (held_by lock first) (granted ++ first ∷ []) rest (some_insert lock.holders first.owner first.hold)
      | false ↦ h
    ]

-- then nobody holds it just where nobody got it
same_as_got : (lock : LockState) (waiters : List Claim) → nobody_holds lock ≡ true → nobody_holds (served_from lock [] waiters).lock ≡ is_nobody (served_from lock [] waiters).granted
same_as_got lock [] h = h
same_as_got lock (first ∷ rest) h =
    elim (fits lock first) as (λ b. nobody_holds (cond b (served_from (held_by lock first) (first ∷ []) rest) (record { lock = record lock { waiters = first ∷ rest }; granted = []; exhausted = [] })).lock
    ≡ is_nobody (cond b (served_from (held_by lock first) (first ∷ []) rest) (record { lock = record lock { waiters = first ∷ rest }; granted = []; exhausted = [] })).granted) [
      | true ↦ some_hold (held_by lock first) (first ∷ []) rest (some_insert lock.holders first.owner first.hold) ∙ sym (some_stay (held_by lock first) (first ∷ []) rest refl)
      | false ↦ h
    ]

free_settled : (lock : LockState) → nobody_holds lock ≡ true → nobody_holds (settled lock).lock ≡ is_nobody (settled lock).granted
free_settled lock h =
    (elim (is_exhausted lock) as (λ b. nobody_holds (cond b (record { lock = record lock { waiters = [] }; granted = []; exhausted = lock.waiters }) (served lock)).lock
    ≡ is_nobody (cond b (record { lock = record lock { waiters = [] }; granted = []; exhausted = lock.waiters }) (served lock)).granted) [
      | true ↦ h
      | false ↦ same_as_got (record lock { waiters = [] }) lock.waiters h
    ])

-- ---- those who wait get a lock that somebody left

begins_where : (free none some stays : Bool) → (free ≡ true → (some ≡ none) × (stays ≡ false)) → (free ≡ false → stays ≡ true) → (free && not none) ≡ (not some && not stays)
begins_where true none some stays h k = let t = h refl in rw (t.0, t.1) (and_true (not none))
  where
    and_true : (a : Bool) → a ≡ (a && true)
    and_true true = refl
    and_true false = refl
begins_where false none some stays h k = let t = k refl in rw t (and_false (not some))
  where
    and_false : (a : Bool) → false ≡ (a && false)
    and_false true = refl
    and_false false = refl

pub rises_settled : (old left : LockState) → left.generation ≡ old.generation
    → (nobody_holds left ≡ true → list_all (λ (claim : Claim). not (holds_in old.holders claim.owner)) left.waiters ≡ true)
    → (nobody_holds left ≡ false → list_any (λ entry. holds_in old.holders entry.0) left.holders ≡ true) → RisesTo old (settled left).lock
rises_settled old left same none some =
    let new : LockState = (settled left).lock in
    let is : (nobody_holds left && not (is_nobody (settled left).granted)) ≡ begins old new =
    begins_where (nobody_holds left) (is_nobody (settled left).granted) (nobody_holds new) (stays_held old new)
    (λ free. (free_settled left free, none_settled (holds_in old.holders) left (nobody_any (holds_in old.holders) left.holders free) (none free)))
    (λ held. any_settled (holds_in old.holders) left (some held)) in
    settled_rises left ∙ ap (λ n. n + rise_of (nobody_holds left) (settled left).granted) same ∙ ap (λ (b : Bool). old.generation + (if b then 1 else 0)) is

rises_left : (lock : LockState) (leaves : Owner → Bool) → RisesTo lock (settled (without leaves lock)).lock
rises_left lock leaves =
    rises_settled lock (without leaves lock) refl
    (λ free. none_wait leaves (holds_in lock.holders) (λ owner. all_leave leaves lock.holders owner free) lock.waiters)
    (λ held. some_left (holds_in lock.holders) (λ entry. not (leaves entry.0)) lock.holders (each_holds lock.holders) held)

none_held : (holders : Holders) (waiters : List Claim) → is_none (mode_of holders) ≡ true → list_all (λ (claim : Claim). not (holds_in holders claim.owner)) waiters ≡ true
none_held [] [] h = refl
none_held [] (first ∷ rest) h = none_held [] rest h
none_held (e ∷ es) waiters h = absurd cc

some_held : (p : Owner → Bool) (holders : Holders) → list_all (λ entry. p entry.0) holders ≡ true → is_none (mode_of holders) ≡ false → list_any (λ entry. p entry.0) holders ≡ true
some_held p [] all h = absurd cc
some_held p (e ∷ es) all h = or_left (p e.0) (list_any (λ (entry : Owner × Hold). p entry.0) es) (and_parts (p e.0) (list_all (λ (entry : Owner × Hold). p entry.0) es) all).0

pub rises_reopened : (lock : LockState) → RisesTo lock (reopened lock).lock
rises_reopened lock =
    rises_settled lock (record lock { closed = None }) refl (λ free. none_held lock.holders lock.waiters free) (λ held. some_held (holds_in lock.holders) lock.holders (each_holds lock.holders) held)

-- ---- one that stays as it is to those who hold it

plus_none : (n : ℕ) (b : Bool) → b ≡ false → n ≡ n + (if b then 1 else 0)
plus_none n true h = absurd cc
plus_none n false h = omega arith

and_not : (a b : Bool) → (a ≡ false → b ≡ true) → (not a && not b) ≡ false
and_not true b h = refl
and_not false b h = rw (h refl) refl

pub rises_same : (old new : LockState) → new.generation ≡ old.generation → new.holders ≡ old.holders → RisesTo old new
rises_same old new generation holders =
    let P : Holders → Type 0 = λ hs. (not (is_none (mode_of hs)) && not (list_any (λ entry. holds_in old.holders entry.0) hs)) ≡ false in
    let is : P old.holders = and_not (nobody_holds old) (list_any (λ entry. holds_in old.holders entry.0) old.holders) (λ held. some_held (holds_in old.holders) old.holders (each_holds old.holders) held) in
    generation ∙ plus_none old.generation (begins old new) (subst P (sym holders) is)

rises_waited : (lock : LockState) (claim : Claim) → RisesTo lock (waited_by lock claim)
rises_waited lock claim = rises_same lock (waited_by lock claim) refl refl

-- one that nobody holds then
rises_none : (old new : LockState) → new.generation ≡ old.generation → nobody_holds new ≡ true → RisesTo old new
rises_none old new generation none = generation ∙ plus_none old.generation (begins old new) (rw none refl)

-- ---- who asks for it

rises_for : (generation : ℕ) (holders : Holders) (owner : Owner) (hold : Hold)
    → generation_after generation (mode_of holders) ≡ generation + (if not (is_none (mode_of (insert_entry owner_order holders owner hold))) && not (list_any (λ entry. holds_in holders entry.0) (insert_entry owner_order holders owner hold)) then 1 else 0)
rises_for generation [] owner hold = refl
rises_for generation (e ∷ es) owner hold =
    let kept : list_any (λ entry. holds_in (e ∷ es) entry.0) (insert_entry owner_order (e ∷ es) owner hold) ≡ true = any_put (holds_in (e ∷ es)) (e ∷ es) owner hold (some_held (holds_in (e ∷ es)) (e ∷ es) (each_holds (e ∷ es)) refl) in
    plus_none generation (not (is_none (mode_of (insert_entry owner_order (e ∷ es) owner hold))) && not (list_any (λ entry. holds_in (e ∷ es) entry.0) (insert_entry owner_order (e ∷ es) owner hold)))
    (and_not (is_none (mode_of (insert_entry owner_order (e ∷ es) owner hold))) (list_any (λ entry. holds_in (e ∷ es) entry.0) (insert_entry owner_order (e ∷ es) owner hold)) (λ held. kept))

rises_held : (lock : LockState) (claim : Claim) → RisesTo lock (held_by lock claim)
rises_held lock claim = rises_for lock.generation lock.holders claim.owner claim.hold

pub rises_tried : (lock new : LockState) (claim : Claim) (now : ℕ) → tried lock claim now ≡ Ok new → RisesTo lock new
rises_tried lock new claim now h = subst (RisesTo lock) (sym (tried_is lock new claim now h)) (rises_held lock claim)

-- what an Acquire answers
abbrev pub RisesBy : LockState → Result Acquired Fault → Type 0
RisesBy lock (Ok (Held new)) = RisesTo lock new
RisesBy lock (Ok (Waits new)) = RisesTo lock new
RisesBy lock (Err fault) = Unit {0}

pub rises_acquired : (lock : LockState) (claim : Claim) → RisesBy lock (acquired lock claim)
rises_acquired lock claim = by_hold (hold_of lock claim.owner)
  where
    by_may : (b : Bool) → RisesBy lock (cond b (Ok (Held (held_by lock claim))) (Ok (Waits (waited_by lock claim))))
    by_may true = rises_held lock claim
    by_may false = rises_waited lock claim

    by_end : (b : Bool) → RisesBy lock (cond b (Err faults.Exhausted) (cond (may_hold lock claim) (Ok (Held (held_by lock claim))) (Ok (Waits (waited_by lock claim)))))
    by_end true = tt
    by_end false = by_may (may_hold lock claim)

    by_hold : (h : Option Hold) → RisesBy lock (acquired_by lock claim h)
    by_hold (Some hold) = tt
    by_hold None = by_end (is_exhausted lock)

-- ---- who leaves it

abbrev pub RisesIf : LockState → Result Turn Fault → Type 0
RisesIf lock (Ok turn) = RisesTo lock turn.lock
RisesIf lock (Err fault) = Unit {0}

pub rises_released : (lock : LockState) (owner : Owner) → RisesIf lock (released lock owner)
rises_released lock owner = elim (is_some (hold_of lock owner)) as (λ b. RisesIf lock (cond b (Ok (settled (without (is_owner owner) lock))) (Err faults.NotHolder))) [
  | true ↦ rises_left lock (is_owner owner)
  | false ↦ tt
]

abbrev pub RisesWhere : LockState → Option Turn → Type 0
RisesWhere lock (Some turn) = RisesTo lock turn.lock
RisesWhere lock None = Unit {0}

pub rises_closed : (lock : LockState) (owner : Owner) → RisesWhere lock (closed_by lock owner)
rises_closed lock owner = elim (is_some (hold_of lock owner) || any_waits (is_owner owner) lock) as (λ b. RisesWhere lock (cond b (Some (settled (without (is_owner owner) lock))) None)) [
  | true ↦ rises_left lock (is_owner owner)
  | false ↦ tt
]

module _ (parting : Parting) (lock : LockState) (client now : ℕ) where
  abbrev left : LockState
  left = without (is_of_client client) lock

  delayed_rises : (b : Bool) (d : ℕ) → nobody_holds left ≡ true → RisesTo lock (cond b (settled left) (record { lock = record left { closed = Some (record { from = now; delay = d }) }; granted = []; exhausted = [] })).lock
  delayed_rises true d none = rises_left lock (is_of_client client)
  delayed_rises false d none = rises_none lock (record left { closed = Some (record { from = now; delay = d }) }) refl none

  abandoned_rises : (b : Bool) → is_abandoned (claims_of client lock.holders) left ≡ b → RisesTo lock (cond b (closed_for left now (delay_of parting (claims_of client lock.holders))) (settled left)).lock
  abandoned_rises true is = delayed_rises (delay_of parting (claims_of client lock.holders) == 0) (delay_of parting (claims_of client lock.holders)) (and_parts (not (is_nobody (claims_of client lock.holders))) (nobody_holds left) is).1
  abandoned_rises false is = rises_left lock (is_of_client client)

pub rises_lapsed : (parting : Parting) (instance : ℕ) (lock : LockState) (client now : ℕ) → RisesTo lock (lapsed parting instance lock client now).turn.lock
rises_lapsed parting instance lock client now = abandoned_rises parting lock client now (is_abandoned (claims_of client lock.holders) (left parting lock client now)) refl
