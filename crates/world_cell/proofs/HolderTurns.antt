-- Who gets one lock, and who loses it, as it changes.
use Rattle.std.proofs.Common.{◌≡◌, ℕ, List, [], ◌∷◌, ◌++◌, Bool, true, false, cond, Equal, Option, Some, None, refl, sym, ap, subst, ◌∙◌, inl, inr, arith, map}
use Rattle.std.specs.Prelude.{◌⊎◌, ◌||◌, ◌==◌, not, filter, Contains}
use Rattle.std.specs.List.{list_any}
use Rattle.std.specs.Map.{lookup}
use Rattle.std.specs.BTreeMap.{is_at, insert_entry}
use Rattle.std.specs.Ordering.{nat_cmp}
use Rattle.std.specs.Cmp.{nat_cmp_total, tied_itself}
use Rattle.std.proofs.lemmas.Bool.{or_right}
use Rattle.std.proofs.lemmas.List.Elements.{Contains-append_right}
use Rattle.collections.proofs.Entries.{eq_at, lookup_put}
use Rattle.node_core.specs.declared.lines.Line.{Line}
use Rattle.node_core.specs.declared.lines.Line.TheVariants as lines
use Rattle.lock_core.specs.declared.claims.Claim.{Claim}
use Rattle.lock_core.specs.declared.claims.Closing.{Closing}
use Rattle.lock_core.specs.declared.claims.Hold.{Hold}
use Rattle.lock_core.specs.declared.claims.Owner.{Owner}
use Rattle.lock_core.specs.declared.partings.Parting.{Parting}
use Rattle.lock_core.specs.declared.turns.Lapse.{Lapse}
use Rattle.lock_core.specs.declared.turns.Turn.{Turn}
use Rattle.lock_core.specs.State.{LockState, Holders, owner_order, hold_of, fits, is_exhausted}
use Rattle.lock_core.specs.Turns.{held_by, served_from, served, turned_away, settled, without, is_owner, is_of_client, claims_of, closed_for, delay_of, is_abandoned, lapsed}
use Rattle.master_state.specs.Replies.{locked_line}
use Rattle.world_cell.proofs.HeldTurns.{own_key, exact_owner, new_owner}
use Rattle.world_cell.proofs.LocksRise.{holds_in, none_put, any_settled}

-- ---- what stands in a list

abbrev pub IsAmong : {X : Type 0} → X → List X → Type 0
IsAmong x [] = ⊥
IsAmong x (y ∷ ys) = (x ≡ y) ⊎ IsAmong x ys

pub among_left : {X : Type 0} (x : X) (xs ys : List X) → IsAmong x xs → IsAmong x (xs ++ ys)
among_left x [] ys h = absurd h
among_left x (y ∷ rest) ys (inl is) = inl is
among_left x (y ∷ rest) ys (inr h) = inr (among_left x rest ys h)

pub among_right : {X : Type 0} (x : X) (xs ys : List X) → IsAmong x ys → IsAmong x (xs ++ ys)
among_right x [] ys h = h
among_right x (y ∷ rest) ys h = inr (among_right x rest ys h)

pub among_map : {X Y : Type 0} (f : X → Y) (x : X) (xs : List X) → IsAmong x xs → IsAmong (f x) (map f xs)
among_map f x [] h = absurd h
among_map f x (y ∷ ys) (inl is) = inl (ap f is)
among_map f x (y ∷ ys) (inr h) = inr (among_map f x ys h)

among_kept : {X : Type 0} (keep : X → Bool) (x y : X) (ys : List X) → keep x ≡ true → (IsAmong x ys → IsAmong x (filter keep ys)) → (x ≡ y) ⊎ IsAmong x ys → (b : Bool) → keep y ≡ b → IsAmong x (cond b (y ∷ filter keep ys) (filter keep ys))
among_kept keep x y ys k rest (inl same) true is = inl same
among_kept keep x y ys k rest (inl same) false is = let other : keep x ≡ false = ap keep same ∙ is in absurd cc
among_kept keep x y ys k rest (inr among) true is = inr (rest among)
among_kept keep x y ys k rest (inr among) false is = rest among

pub among_filter : {X : Type 0} (keep : X → Bool) (x : X) (xs : List X) → keep x ≡ true → IsAmong x xs → IsAmong x (filter keep xs)
among_filter keep x [] k h = absurd h
among_filter keep x (y ∷ ys) k h = among_kept keep x y ys k (among_filter keep x ys k) h (keep y) refl

pub among_contains : {X : Type 0} (x : X) (xs : List X) → IsAmong x xs → Contains xs x
among_contains x [] h = absurd h
among_contains {X} x (y ∷ ys) (inl same) = let P : X → Type 0 = λ z. Contains (y ∷ ys) z in subst P (sym same) (0, omega arith, refl)
among_contains x (y ∷ ys) (inr h) = Contains-append_right (y ∷ []) ys x (among_contains x ys h)

-- ---- a handle that holds it

pub both_ways : (b : Bool) → b ≡ false → b ≡ true → ⊥
both_ways b h k = absurd cc

own_owner : (owner : Owner) → is_at (owner_order owner) owner ≡ true
own_owner owner = rw (tied_itself nat_cmp_total owner.client, tied_itself nat_cmp_total owner.handle) refl

pub same_owner : (owner other : Owner) → is_at (owner_order owner) other ≡ true → owner ≡ other
same_owner owner other h = exact_owner owner other (eq_at (owner_order owner other) h)

pub held_found : (holders : Holders) (owner : Owner) → holds_in holders owner ≡ true → (hold : Hold) × (lookup (is_at (owner_order owner)) holders ≡ Some hold)
held_found [] owner h = absurd cc
held_found (e ∷ es) owner h =
    (elim (is_at (owner_order owner) e.0) as (λ b. (b || holds_in es owner) ≡ true → (hold : Hold) × (cond b (Some e.1) (lookup (is_at (owner_order owner)) es) ≡ Some hold)) [
      | true ↦ (λ k. (e.1, refl))
      | false ↦ (λ k. held_found es owner k)
    ]) h

-- ---- those that wait get it

order_itself : (owner : Owner) → owner_order owner owner ≡ Equal
order_itself owner = rw (tied_itself nat_cmp_total owner.client, tied_itself nat_cmp_total owner.handle) refl

put_found : (holders : Holders) (owner : Owner) (hold : Hold) (other : Owner) → lookup (is_at (owner_order other)) (insert_entry owner_order holders owner hold) ≡ cond (is_at (owner_order other) owner) (Some hold) (lookup (is_at (owner_order other)) holders)
put_found holders owner hold other = lookup_put owner_order exact_owner order_itself holders owner hold other

-- who holds it keeps it
held_stays : (lock : LockState) (claim : Claim) (owner : Owner) (hold : Hold) → fits lock claim ≡ true → hold_of lock owner ≡ Some hold → hold_of (held_by lock claim) owner ≡ Some hold
held_stays lock claim owner hold fit found =
    put_found lock.holders claim.owner claim.hold owner
    ∙ (elim (is_at (owner_order owner) claim.owner) as (λ b. is_at (owner_order owner) claim.owner ≡ b → cond b (Some claim.hold) (hold_of lock owner) ≡ Some hold) [
      | true ↦ (λ is.
          let none : hold_of lock owner ≡ None = ap (hold_of lock) (same_owner owner claim.owner is) ∙ new_owner lock claim fit in
          absurd cc)
      | false ↦ (λ is. found)
    ]) refl

served_stays : (lock : LockState) (granted waiters : List Claim) (owner : Owner) (hold : Hold) → hold_of lock owner ≡ Some hold → hold_of (served_from lock granted waiters).lock owner ≡ Some hold
served_stays lock granted [] owner hold found = found
served_stays lock granted (first ∷ rest) owner hold found =
    (elim (fits lock first) as (λ b. fits lock first ≡ b → hold_of (cond b (served_from (held_by lock first) (granted ++ first ∷ []) rest) (record { lock = record lock { waiters = first ∷ rest }; granted = granted; exhausted = [] })).lock owner ≡ Some hold) [
      | true ↦ (λ is. served_stays (held_by lock first) (granted ++ first ∷ []) rest owner hold (held_stays lock first owner hold is found))
      | false ↦ (λ is. found)
    ]) refl

granted_stay : (lock : LockState) (granted waiters : List Claim) (claim : Claim) → IsAmong claim granted → IsAmong claim (served_from lock granted waiters).granted
granted_stay lock granted [] claim h = h
granted_stay lock granted (first ∷ rest) claim h =
    elim (fits lock first) as (λ b. IsAmong claim (cond b (served_from (held_by lock first) (granted ++ first ∷ []) rest) (record { lock = record lock { waiters = first ∷ rest }; granted = granted; exhausted = [] })).granted) [
      | true ↦ granted_stay (held_by lock first) (granted ++ first ∷ []) rest claim (among_left claim granted (first ∷ []) h)
      | false ↦ h
    ]

-- a handle that got it, and how it holds it
abbrev pub Granted : Owner → LockState → List Claim → Type 0
Granted owner lock granted = (hold : Hold) × (hold_of lock owner ≡ Some hold) × IsAmong (let c : Claim = record { owner = owner; hold = hold } in c) granted

served_gives : (lock : LockState) (granted waiters : List Claim) (owner : Owner) → holds_in lock.holders owner ≡ false → holds_in (served_from lock granted waiters).lock.holders owner ≡ true → Granted owner (served_from lock granted waiters).lock (served_from lock granted waiters).granted
served_gives lock granted [] owner none some = absurd (both_ways (holds_in lock.holders owner) none some)
served_gives lock granted (first ∷ rest) owner none some =
    (elim (fits lock first) as (λ b. fits lock first ≡ b → holds_in (cond b (served_from (held_by lock first) (granted ++ first ∷ []) rest) (record { lock = record lock { waiters = first ∷ rest }; granted = granted; exhausted = [] })).lock.holders owner ≡ true
    → Granted owner (cond b (served_from (held_by lock first) (granted ++ first ∷ []) rest) (record { lock = record lock { waiters = first ∷ rest }; granted = granted; exhausted = [] })).lock (cond b (served_from (held_by lock first) (granted ++ first ∷ []) rest) (record { lock = record lock { waiters = first ∷ rest }; granted = granted; exhausted = [] })).granted) [
      | true ↦ (λ is k.
          let turn : Turn = served_from (held_by lock first) (granted ++ first ∷ []) rest in
          (elim (is_at (owner_order owner) first.owner) as (λ b. is_at (owner_order owner) first.owner ≡ b → Granted owner turn.lock turn.granted) [
            | true ↦ (λ own.
                let found : hold_of (held_by lock first) owner ≡ Some first.hold = put_found lock.holders first.owner first.hold owner ∙ ap (λ b. cond b (Some first.hold) (hold_of lock owner)) own in
                let stays = served_stays (held_by lock first) (granted ++ first ∷ []) rest owner first.hold found in
                let among : IsAmong first turn.granted = granted_stay (held_by lock first) (granted ++ first ∷ []) rest first (among_right first granted (first ∷ []) (inl refl)) in
                let P : Owner → Type 0 = λ o. IsAmong (let c : Claim = record { owner = o; hold = first.hold } in c) turn.granted in
                (first.hold, stays, subst P (sym (same_owner owner first.owner own)) among))
            | false ↦ (λ apart. served_gives (held_by lock first) (granted ++ first ∷ []) rest owner (none_put (is_at (owner_order owner)) lock.holders first.owner first.hold none apart) k)
          ]) refl)
      | false ↦ (λ is k. absurd (both_ways (holds_in lock.holders owner) none k))
    ]) refl some

pub settled_gives : (lock : LockState) (owner : Owner) → holds_in lock.holders owner ≡ false → holds_in (settled lock).lock.holders owner ≡ true → Granted owner (settled lock).lock (settled lock).granted
settled_gives lock owner none some =
    (elim (is_exhausted lock) as (λ b. holds_in (cond b (turned_away lock) (served lock)).lock.holders owner ≡ true → Granted owner (cond b (turned_away lock) (served lock)).lock (cond b (turned_away lock) (served lock)).granted) [
      | true ↦ (λ k. absurd (both_ways (holds_in lock.holders owner) none k))
      | false ↦ (λ k. served_gives (record lock { waiters = [] }) [] lock.waiters owner none k)
    ]) some

pub settled_keeps : (lock : LockState) (owner : Owner) → holds_in lock.holders owner ≡ true → holds_in (settled lock).lock.holders owner ≡ true
settled_keeps lock owner h = any_settled (is_at (owner_order owner)) lock h

-- ---- those that leave it

none_filtered : (keep : Owner × Hold → Bool) (holders : Holders) (owner : Owner) → holds_in holders owner ≡ false → holds_in (filter keep holders) owner ≡ false
none_filtered keep [] owner h = refl
none_filtered keep (e ∷ es) owner h =
    (elim (is_at (owner_order owner) e.0) as (λ b. is_at (owner_order owner) e.0 ≡ b → (b || holds_in es owner) ≡ false → holds_in (cond (keep e) (e ∷ filter keep es) (filter keep es)) owner ≡ false) [
      | true ↦ (λ is k. absurd cc)
      | false ↦ (λ is k.
          let rest = none_filtered keep es owner k in
          elim (keep e) as (λ b. holds_in (cond b (e ∷ filter keep es) (filter keep es)) owner ≡ false) [
            | true ↦ ap (λ b. b || holds_in (filter keep es) owner) is ∙ rest
            | false ↦ rest
          ])
    ]) refl h

some_filtered : (leaves : Owner → Bool) (holders : Holders) (owner : Owner) → leaves owner ≡ false → holds_in holders owner ≡ true → holds_in (filter (λ (e : Owner × Hold). not (leaves e.0)) holders) owner ≡ true
some_filtered leaves [] owner stays h = absurd cc
some_filtered leaves (e ∷ es) owner stays h =
    let left : Holders = filter (λ (x : Owner × Hold). not (leaves x.0)) es in
    (elim (is_at (owner_order owner) e.0) as (λ b. is_at (owner_order owner) e.0 ≡ b → (b || holds_in es owner) ≡ true → holds_in (cond (not (leaves e.0)) (e ∷ left) left) owner ≡ true) [
      | true ↦ (λ is k.
          let kept : leaves e.0 ≡ false = ap leaves (sym (same_owner owner e.0 is)) ∙ stays in
          ap (λ b. holds_in (cond (not b) (e ∷ left) left) owner) kept ∙ ap (λ b. b || holds_in left owner) is)
      | false ↦ (λ is k.
          let rest = some_filtered leaves es owner stays k in
          elim (not (leaves e.0)) as (λ b. holds_in (cond b (e ∷ left) left) owner ≡ true) [
            | true ↦ or_right (is_at (owner_order owner) e.0) (holds_in left owner) rest
            | false ↦ rest
          ])
    ]) refl h

pub without_none : (leaves : Owner → Bool) (lock : LockState) (owner : Owner) → holds_in lock.holders owner ≡ false → holds_in (without leaves lock).holders owner ≡ false
without_none leaves lock owner h = none_filtered (λ (e : Owner × Hold). not (leaves e.0)) lock.holders owner h

pub without_some : (leaves : Owner → Bool) (lock : LockState) (owner : Owner) → leaves owner ≡ false → holds_in lock.holders owner ≡ true → holds_in (without leaves lock).holders owner ≡ true
without_some leaves lock owner stays h = some_filtered leaves lock.holders owner stays h

-- ---- what becomes of one lock, and what is told of it

-- a handle that got it, with its line
abbrev pub GotIt : LockState → ℕ → Owner → List Line → Type 0
GotIt lock at owner printed = (hold : Hold) × (hold_of lock owner ≡ Some hold) × IsAmong (lines.Locked owner.client at hold.mode lock.generation) printed

-- who gets it is told, and who loses it did so
pub record IsTold (Loses : Owner → Type 0) (at : ℕ) (old new : LockState) (printed : List Line) : Type 0 where
  pub gets : (owner : Owner) → holds_in old.holders owner ≡ false → holds_in new.holders owner ≡ true → GotIt new at owner printed
  pub loses : (owner : Owner) → holds_in old.holders owner ≡ true → holds_in new.holders owner ≡ false → Loses owner

pub granted_told : (at : ℕ) (turn : Turn) (owner : Owner) → Granted owner turn.lock turn.granted → GotIt turn.lock at owner (map (locked_line at turn.lock.generation) turn.granted)
granted_told at turn owner h = (h.0, h.1, among_map (locked_line at turn.lock.generation) (record { owner = owner; hold = h.0 }) turn.granted h.2)

pub same_told : (Loses : Owner → Type 0) (at : ℕ) (old new : LockState) (printed : List Line) → new.holders ≡ old.holders → IsTold Loses at old new printed
same_told Loses at old new printed same = record {
  gets = λ owner none some. absurd (both_ways (holds_in new.holders owner) (ap (λ (hs : Holders). holds_in hs owner) same ∙ none) some);
  loses = λ owner some none. absurd (both_ways (holds_in new.holders owner) none (ap (λ (hs : Holders). holds_in hs owner) same ∙ some));
}

-- a claim gets it
pub held_told : (Loses : Owner → Type 0) (at : ℕ) (lock : LockState) (claim : Claim) → fits lock claim ≡ true → IsTold Loses at lock (held_by lock claim) (locked_line at (held_by lock claim).generation claim ∷ [])
held_told Loses at lock claim fit = record {
  gets = λ owner none some.
      (elim (is_at (owner_order owner) claim.owner) as (λ b. is_at (owner_order owner) claim.owner ≡ b → GotIt (held_by lock claim) at owner (locked_line at (held_by lock claim).generation claim ∷ [])) [
        | true ↦ (λ own.
            let found : hold_of (held_by lock claim) owner ≡ Some claim.hold = put_found lock.holders claim.owner claim.hold owner ∙ ap (λ b. cond b (Some claim.hold) (hold_of lock owner)) own in
            (claim.hold, found, inl (ap (λ (o : Owner). lines.Locked o.client at claim.hold.mode (held_by lock claim).generation) (same_owner owner claim.owner own))))
        | false ↦ (λ apart. absurd (both_ways (holds_in (held_by lock claim).holders owner) (none_put (is_at (owner_order owner)) lock.holders claim.owner claim.hold none apart) some))
      ]) refl;
  loses = λ owner some none.
      let t = held_found lock.holders owner some in
      let stays = held_stays lock claim owner t.0 fit t.1 in
      let gone = absent_of (held_by lock claim).holders owner none in
      let never : ◌≡◌ {A = Option Hold} None (Some t.0) = sym gone ∙ stays in
      absurd cc;
}
  where
    absent_of : (holders : Holders) (owner : Owner) → holds_in holders owner ≡ false → lookup (is_at (owner_order owner)) holders ≡ None
    absent_of [] owner h = refl
    absent_of (e ∷ es) owner h =
        (elim (is_at (owner_order owner) e.0) as (λ b. (b || holds_in es owner) ≡ false → cond {A = Option Hold} b (Some e.1) (lookup (is_at (owner_order owner)) es) ≡ None) [
          | true ↦ (λ k. absurd cc)
          | false ↦ (λ k. absent_of es owner k)
        ]) h

-- it is open again
pub settled_told : (Loses : Owner → Type 0) (at : ℕ) (old left : LockState) → left.holders ≡ old.holders → IsTold Loses at old (settled left).lock (map (locked_line at (settled left).lock.generation) (settled left).granted)
settled_told Loses at old left same = record {
  gets = λ owner none some. granted_told at (settled left) owner (settled_gives left owner (ap (λ (hs : Holders). holds_in hs owner) same ∙ none) some);
  loses = λ owner some none. absurd (both_ways (holds_in (settled left).lock.holders owner) none (settled_keeps left owner (ap (λ (hs : Holders). holds_in hs owner) same ∙ some)));
}

-- what is told besides
pub more_told : (Loses : Owner → Type 0) (at : ℕ) (old new : LockState) (xs ys : List Line) → IsTold Loses at old new ys → IsTold Loses at old new (xs ++ ys)
more_told Loses at old new xs ys h = record {
  gets = λ owner none some. let t = h.gets owner none some in (t.0, t.1, among_right (lines.Locked owner.client at t.0.mode new.generation) xs ys t.2);
  loses = h.loses;
}

-- some leave it, and those that wait get it
pub left_told : (leaves : Owner → Bool) (at : ℕ) (lock : LockState) (turn : Turn) → (turn.lock.holders ≡ (without leaves lock).holders) ⊎ (turn ≡ settled (without leaves lock)) → IsTold (λ owner. leaves owner ≡ true) at lock turn.lock (map (locked_line at turn.lock.generation) turn.granted)
left_told leaves at lock turn (inl same) = record {
  gets = λ owner none some. absurd (both_ways (holds_in turn.lock.holders owner) (ap (λ (hs : Holders). holds_in hs owner) same ∙ without_none leaves lock owner none) some);
  loses = λ owner some none.
      (elim (leaves owner) as (λ b. leaves owner ≡ b → b ≡ true) [
        | true ↦ (λ is. refl)
        | false ↦ (λ is. absurd (both_ways (holds_in turn.lock.holders owner) none (ap (λ (hs : Holders). holds_in hs owner) same ∙ without_some leaves lock owner is some)))
      ]) refl;
}
left_told leaves at lock turn (inr is_turn) =
    let left : LockState = without leaves lock in
    let P : Turn → Type 0 = λ t. IsTold (λ owner. leaves owner ≡ true) at lock t.lock (map (locked_line at t.lock.generation) t.granted) in
    subst P (sym is_turn) (record {
      gets = λ owner none some. granted_told at (settled left) owner (settled_gives left owner (without_none leaves lock owner none) some);
      loses = λ owner some none.
          (elim (leaves owner) as (λ b. leaves owner ≡ b → b ≡ true) [
            | true ↦ (λ is. refl)
            | false ↦ (λ is. absurd (both_ways (holds_in (settled left).lock.holders owner) none (settled_keeps left owner (without_some leaves lock owner is some))))
          ]) refl;
    })

-- ---- a session that ends

lapse_is : (parting : Parting) (at : ℕ) (lock : LockState) (whose now : ℕ) → ((lapsed parting at lock whose now).turn.lock.holders ≡ (without (is_of_client whose) lock).holders) ⊎ ((lapsed parting at lock whose now).turn ≡ settled (without (is_of_client whose) lock))
lapse_is parting at lock whose now =
    let left : LockState = without (is_of_client whose) lock in
    let ended : List Claim = claims_of whose lock.holders in
    elim (is_abandoned ended left) as (λ b. ((cond b (closed_for left now (delay_of parting ended)) (settled left)).lock.holders ≡ left.holders) ⊎ (cond b (closed_for left now (delay_of parting ended)) (settled left) ≡ settled left)) [
      | true ↦ delayed (delay_of parting ended == 0) (record { from = now; delay = delay_of parting ended })
      | false ↦ inr refl
    ]
  where
    delayed : (b : Bool) (closing : Closing) → ((cond b (settled (without (is_of_client whose) lock)) (record { lock = record (without (is_of_client whose) lock) { closed = Some closing }; granted = []; exhausted = [] })).lock.holders ≡ (without (is_of_client whose) lock).holders)
        ⊎ (cond b (settled (without (is_of_client whose) lock)) (record { lock = record (without (is_of_client whose) lock) { closed = Some closing }; granted = []; exhausted = [] }) ≡ settled (without (is_of_client whose) lock))
    delayed true closing = inr refl
    delayed false closing = inl refl

pub lapse_told : (parting : Parting) (at : ℕ) (lock : LockState) (whose now : ℕ) → IsTold (λ owner. is_of_client whose owner ≡ true) at lock (lapsed parting at lock whose now).turn.lock (map (locked_line at (lapsed parting at lock whose now).turn.lock.generation) (lapsed parting at lock whose now).turn.granted)
lapse_told parting at lock whose now = left_told (is_of_client whose) at lock (lapsed parting at lock whose now).turn (lapse_is parting at lock whose now)
