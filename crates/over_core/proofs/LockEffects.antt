-- What a change that waits does to a lock, when its turn comes, fits the locks.
use Rattle.std.proofs.Common.{◌≡◌, ℕ, ◌+◌, ◌≤◌, List, Bool, true, false, cond, Option, Some, None, Result, Ok, Err, refl, sym, ap, subst, arith}
use Rattle.std.specs.Prelude.{◌&&◌, ◌||◌, not, nat_le, filter, is_some}
use Rattle.std.specs.List.{sum_by}
use Rattle.std.specs.Str.{bytes_eq}
use Rattle.std.proofs.lemmas.Bool.{and_parts, and_from}
use Rattle.std.proofs.lemmas.Bool.Decides.{nat_tests}
use Rattle.std.proofs.lemmas.List.Filters.{sum_by-filter_both}
use Rattle.names_cell.specs.Text.{is_name}
use Rattle.node_core.specs.Limits.{lock_delay_limit}
use Rattle.node_core.specs.declared.refusals.Fault.{Fault}
use Rattle.node_core.specs.declared.refusals.Fault.TheVariants as faults
use Rattle.node_core.specs.declared.kinds.LockMode.{LockMode}
use Rattle.rows_cell.specs.declared.tables.StoredNode.{StoredNode}
use Rattle.rows_cell.specs.declared.tables.Rows.{Rows}
use Rattle.rows_cell.specs.Rows.{stored_node}
use Rattle.rows_cell.specs.Sound.{is_number}
use Rattle.tags_cell.specs.Modes.{has_any_right}
use Rattle.tags_cell.specs.Numbers.{is_client_number}
use Rattle.tags_cell.specs.Handles.{is_ordinal, is_handle, fields_of, handle_bytes, read_handle}
use Rattle.tags_cell.specs.declared.handles.Handle.{Handle}
use Rattle.lock_core.specs.declared.claims.Owner.{Owner}
use Rattle.lock_core.specs.declared.claims.Hold.{Hold}
use Rattle.lock_core.specs.declared.claims.Claim.{Claim}
use Rattle.lock_core.specs.declared.turns.Acquired.TheVariants as asked
use Rattle.lock_core.specs.State.{LockState, hold_of, fits, is_exhausted}
use Rattle.lock_core.specs.Turns.{is_nobody, held_by, waited_by, may_hold, acquired_by, tried, settled, without, is_owner, any_waits, closed_by}
use Rattle.lock_core.proofs.Generations.{try_succeeds}
use Rattle.master_parts.specs.Claims.{owner_of, claim_of}
use Rattle.master_state.specs.NameSpace.{name_space}
use Rattle.master_state.specs.State.{MasterState}
use Rattle.master_state.specs.Lookups.{is_live, lock_under, holds_lock}
use Rattle.cell_core.specs.Effect.{lock_fault, lock_put, leaving_by, acquire_by, acquire_at, try_by, try_at, release_by, release_at, close_by}
use Rattle.over_core.specs.Kept.{IsKept, claim_fits, waiter_fits, claim_count, waits_count}
use Rattle.over_core.proofs.LockClaims.{IsFit, held_fit, waited_fit, without_fit, settled_fit, held_higher, settled_higher, turn_waiters, settled_waiters}
use Rattle.over_core.proofs.LockPuts.{IsPut, fit_of}
use Rattle.over_core.proofs.LockingFits.{ApplicationFits, EffectFits}

-- ---- a handle that was read

-- the client's own, its number and its lock-delay within their limits
pub record IsOwnHandle (client : ℕ) (handle : Handle) : Type 0 where
  pub own : handle.client ≡ client
  pub number : is_number handle.number ≡ true
  pub delay : nat_le handle.delay lock_delay_limit ≡ true

two_of_seven : (a b c d e f g : Bool) → (a && b && c && d && e && f && g) ≡ true → (c ≡ true) × (f ≡ true)
two_of_seven true true true true true true true h = (refl, refl)
two_of_seven _ _ _ _ _ _ _ h = cc

ordinal_number : (n : ℕ) → is_ordinal n ≡ true → is_number n ≡ true
ordinal_number n h = grind (arith, nat_tests)

handle_numbers : (client : ℕ) (handle : Handle) → is_handle handle ≡ true → handle.client ≡ client → IsOwnHandle client handle
unfolding is_handle
handle_numbers client handle h own =
    let t = two_of_seven (is_ordinal handle.epoch) (is_ordinal handle.client) (is_ordinal handle.number) (is_ordinal handle.instance) (has_any_right handle.mode) (nat_le handle.delay lock_delay_limit) (is_name handle.name) h in
    record { own = own; number = ordinal_number handle.number t.0; delay = t.1 }

read_is : (a b : Bool) (x handle : Handle) → cond (a && b) (Some x) None ≡ Some handle → (a ≡ true) × (x ≡ handle)
read_is true true x handle h = let same : x ≡ handle = cc in (refl, same)
read_is true false x handle h = absurd cc
read_is false b x handle h = absurd cc

pub own_handle_read : (secret bytes : List ℕ) (client : ℕ) (handle : Handle) → read_handle secret bytes ≡ Some handle → handle.client ≡ client → IsOwnHandle client handle
unfolding read_handle
own_handle_read secret bytes client handle h own =
    let t = read_is (is_handle (fields_of bytes)) (bytes_eq (handle_bytes secret (fields_of bytes)) bytes) (fields_of bytes) handle h in
    let P : Handle → Type 0 = λ x. is_handle x ≡ true in
    handle_numbers client handle (subst P t.1 t.0) own

-- ---- numbers

part_of : (a b c : ℕ) → a + b ≡ c → a ≤ c
part_of a b c h = omega (arith, h)

at_most_all : (n m : ℕ) → n ≡ m → n ≤ m
at_most_all n m h = omega (arith, h)

same_or_less : (a b c : ℕ) → a ≡ b → b ≤ c → a ≤ c
same_or_less a b c h k = omega (arith, h, k)

stay_fewer : (q : ℕ) (leaves : Owner → Bool) (claims : List Claim) → sum_by (claim_count q) (filter (λ claim. not (leaves claim.owner)) claims) ≤ sum_by (claim_count q) claims
stay_fewer q leaves claims =
    let stays : Claim → Bool = λ claim. not (leaves claim.owner) in
    let goes : Claim → Bool = λ claim. not (stays claim) in
    part_of (sum_by (claim_count q) (filter stays claims)) (sum_by (claim_count q) (filter goes claims)) (sum_by (claim_count q) claims) (sum_by-filter_both stays goes (λ claim. refl) (claim_count q) claims)

-- whoever is left of a turn after those who leave has waited
left_waited : (q : ℕ) (leaves : Owner → Bool) (lock : LockState) → sum_by (claim_count q) (turn_waiters (settled (without leaves lock))) ≤ waits_count q lock
left_waited q leaves lock =
    same_or_less (sum_by (claim_count q) (turn_waiters (settled (without leaves lock)))) (sum_by (claim_count q) (without leaves lock).waiters) (waits_count q lock)
    (ap (λ claims. sum_by (claim_count q) claims) (settled_waiters (without leaves lock))) (stay_fewer q leaves lock.waiters)

-- ---- the lock of a handle

module _ (cell : List ℕ) (rows : Rows) (s : MasterState) (k : IsKept cell rows s) (client : ℕ) (live : is_live s client ≡ true) (numbered : is_client_number client ≡ true) (handle : Handle) (shown : IsOwnHandle client handle) where
  own_fits : (mode : LockMode) → claim_fits s.sessions (owner_of handle) (claim_of handle mode).hold ≡ true
  own_fits mode =
      let P : ℕ → Type 0 = λ c. is_live s c ≡ true in
      and_from (is_live s handle.client && is_number handle.number) (nat_le handle.delay lock_delay_limit)
      (and_from (is_live s handle.client) (is_number handle.number) (subst P (sym shown.own) live) shown.number) shown.delay

  own_waits : (mode : LockMode) → waiter_fits s.sessions (claim_of handle mode) ≡ true
  own_waits mode =
      let P : ℕ → Type 0 = λ c. is_client_number c ≡ true in
      and_from (is_client_number handle.client) (claim_fits s.sessions (owner_of handle) (claim_of handle mode).hold) (subst P (sym shown.own) numbered) (own_fits mode)

  fit_under : IsFit (claim_fits s.sessions) (waiter_fits s.sessions) (lock_under (name_space s) handle)
  fit_under = fit_of s.nodes s.sessions handle.instance (lock_under (name_space s) handle) (k.locks.each handle.instance)

  waiter_holds : (claim : Claim) → waiter_fits s.sessions claim ≡ true → claim_fits s.sessions claim.owner claim.hold ≡ true
  waiter_holds claim h = (and_parts (is_client_number claim.owner.client) (claim_fits s.sessions claim.owner claim.hold) h).1

  module _ (w : StoredNode) (found : stored_node rows.nodes handle.name ≡ Some w) (present : w.node.instance ≡ handle.instance) where
    is_put : (lock : LockState) → IsFit (claim_fits s.sessions) (waiter_fits s.sessions) lock → (lock_under (name_space s) handle).generation ≤ lock.generation → IsPut rows s.locks s.sessions (lock_put handle lock)
    is_put lock fit higher = record { node = w; found = found; instance = present; fit = fit; higher = higher }

    -- ---- who asks for it

    held_put : (mode : LockMode) → may_hold (lock_under (name_space s) handle) (claim_of handle mode) ≡ true → IsPut rows s.locks s.sessions (lock_put handle (held_by (lock_under (name_space s) handle) (claim_of handle mode)))
    held_put mode may =
        let lock : LockState = lock_under (name_space s) handle in
        let claim : Claim = claim_of handle mode in
        let fit = and_parts (fits lock claim) (is_nobody lock.waiters) may in
        is_put (held_by lock claim) (held_fit (claim_fits s.sessions) (waiter_fits s.sessions) lock claim fit.0 (own_fits mode) fit_under) (held_higher lock claim)

    waited_put : (mode : LockMode) → IsPut rows s.locks s.sessions (lock_put handle (waited_by (lock_under (name_space s) handle) (claim_of handle mode)))
    waited_put mode =
        let lock : LockState = lock_under (name_space s) handle in
        let claim : Claim = claim_of handle mode in
        is_put (waited_by lock claim) (waited_fit (claim_fits s.sessions) (waiter_fits s.sessions) lock claim (own_waits mode) fit_under) (at_most_all lock.generation lock.generation refl)

    asked_fits : (mode : LockMode) (room : Option Fault) (b : Bool) → may_hold (lock_under (name_space s) handle) (claim_of handle mode) ≡ b
        → EffectFits rows s client (acquire_by handle (claim_of handle mode) room (cond b (Ok (asked.Held (held_by (lock_under (name_space s) handle) (claim_of handle mode)))) (Ok (asked.Waits (waited_by (lock_under (name_space s) handle) (claim_of handle mode))))))
    asked_fits mode (Some fault) true may = tt
    asked_fits mode (Some fault) false may = tt
    asked_fits mode None true may = record { is_put = held_put mode may; same = refl }
    asked_fits mode None false may = record { is_put = waited_put mode; claim = claim_of handle mode; own = shown.own; more = refl }

    left_asked_fits : (mode : LockMode) (room : Option Fault) (b : Bool)
        → EffectFits rows s client
        (acquire_by handle (claim_of handle mode) room (cond b (Err faults.Exhausted) (cond (may_hold (lock_under (name_space s) handle) (claim_of handle mode)) (Ok (asked.Held (held_by (lock_under (name_space s) handle) (claim_of handle mode)))) (Ok (asked.Waits (waited_by (lock_under (name_space s) handle) (claim_of handle mode)))))))
    left_asked_fits mode room true = tt
    left_asked_fits mode room false = asked_fits mode room (may_hold (lock_under (name_space s) handle) (claim_of handle mode)) refl

    acquired_fits : (mode : LockMode) (room : Option Fault) (o : Option Hold) → EffectFits rows s client (acquire_by handle (claim_of handle mode) room (acquired_by (lock_under (name_space s) handle) (claim_of handle mode) o))
    acquired_fits mode room (Some hold) = tt
    acquired_fits mode room None = left_asked_fits mode room (is_exhausted (lock_under (name_space s) handle))

    pub acquire_fits : (mode : LockMode) → EffectFits rows s client (acquire_at (name_space s) handle mode)
    acquire_fits mode = acquired_fits mode (lock_fault (name_space s) handle.client) (hold_of (lock_under (name_space s) handle) (owner_of handle))

    tried_fits : (mode : LockMode) (room : Option Fault) (r : Result LockState Fault) → tried (lock_under (name_space s) handle) (claim_of handle mode) s.clock ≡ r → EffectFits rows s client (try_by handle (claim_of handle mode) room r)
    tried_fits mode room (Err fault) is = tt
    tried_fits mode (Some fault) (Ok new) is = tt
    tried_fits mode None (Ok new) is =
        let lock : LockState = lock_under (name_space s) handle in
        let claim : Claim = claim_of handle mode in
        let t = (try_succeeds lock new claim s.clock fit_under.legal).0 is in
        let P : LockState → Type 0 = λ x. EffectFits rows s client (try_by handle claim None (Ok x)) in
        subst P (sym t.1) (record { is_put = held_put mode t.0; same = refl })

    pub try_fits : (mode : LockMode) → EffectFits rows s client (try_at (name_space s) s.clock handle mode)
    try_fits mode = tried_fits mode (lock_fault (name_space s) handle.client) (tried (lock_under (name_space s) handle) (claim_of handle mode) s.clock) refl

    -- ---- who leaves it

    left_fits : (held : Bool) → ApplicationFits rows s client None (leaving_by handle held (settled (without (is_owner (owner_of handle)) (lock_under (name_space s) handle))))
    left_fits held =
        let lock : LockState = lock_under (name_space s) handle in
        let leaves : Owner → Bool = is_owner (owner_of handle) in
        let left : LockState = without leaves lock in
        let holds : Owner → Hold → Bool = claim_fits s.sessions in
        let waits : Claim → Bool = waiter_fits s.sessions in
        record {
          is_put = is_put (settled left).lock (settled_fit holds waits waiter_holds left (without_fit holds holds waits waits leaves lock (λ entry stays h. h) (λ claim stays h. h) fit_under)) (settled_higher left);
          waited = λ q. left_waited q leaves lock;
        }

    released_fits : (b : Bool) → EffectFits rows s client (release_by handle (cond b (Ok (settled (without (is_owner (owner_of handle)) (lock_under (name_space s) handle)))) (Err faults.NotHolder)))
    released_fits true = left_fits true
    released_fits false = tt

    pub release_fits : EffectFits rows s client (release_at (name_space s) handle)
    release_fits = released_fits (is_some (hold_of (lock_under (name_space s) handle) (owner_of handle)))

    closed_fits : (b : Bool) → ApplicationFits rows s client None (close_by (name_space s) handle (cond b (Some (settled (without (is_owner (owner_of handle)) (lock_under (name_space s) handle)))) None))
    closed_fits true = left_fits (holds_lock (name_space s) handle)
    closed_fits false = tt

    pub close_fits : ApplicationFits rows s client None (close_by (name_space s) handle (closed_by (lock_under (name_space s) handle) (owner_of handle)))
    close_fits = closed_fits (is_some (hold_of (lock_under (name_space s) handle) (owner_of handle)) || any_waits (is_owner (owner_of handle)) (lock_under (name_space s) handle))
