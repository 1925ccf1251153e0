-- What the rows of a lock tell of those who hold it.
use Rattle.std.proofs.Common.{◌≡◌, ℕ, [], ◌∷◌, ◌++◌, Bool, true, Option, Some, None, refl, ap, ◌∙◌}
use Rattle.std.specs.Prelude.{◌&&◌, ◌||◌, not, is_none}
use Rattle.std.specs.List.{list_all, list_any}
use Rattle.std.specs.BTreeMap.{is_at}
use Rattle.std.specs.Cmp.{nat_cmp_total, tied_itself}
use Rattle.std.proofs.lemmas.Bool.{and_parts, and_from}
use Rattle.node_core.specs.declared.kinds.LockMode.{LockMode}
use Rattle.node_core.specs.declared.kinds.LockMode.TheVariants as modes
use Rattle.rows_cell.specs.Keys.{lock_order}
use Rattle.rows_cell.specs.Rows.{StoredLocks}
use Rattle.rows_cell.specs.Sound as of_rows
use Rattle.rows_cell.specs.LockRows.{is_holding, has_holder, are_together}
use Rattle.lock_core.specs.declared.claims.Owner.{Owner}
use Rattle.lock_core.specs.declared.claims.Hold.{Hold}
use Rattle.lock_core.specs.declared.claims.Closing.{Closing}
use Rattle.lock_core.specs.State.{LockState, Holders, IsLegal, owner_order, is_shared, mode_of, nobody_holds, stand_together}
use Rattle.master_parts.specs.Locks.{stored_mode, holder_key, holder_rows, closing_rows, lock_rows}
use Rattle.world_cell.specs.Locks.{holds_by}
use Rattle.world_cell.proofs.LocksRise.{holds_in, stays_held, begins}

holding_mode : (mode : LockMode) → is_holding (stored_mode mode) ≡ true
holding_mode modes.Exclusive = refl
holding_mode modes.Shared = refl

-- ---- who holds it

held_rows : (instance : ℕ) (closed : Option Closing) (holders : Holders) → has_holder (closing_rows instance closed ++ holder_rows instance holders) ≡ not (is_none (mode_of holders))
held_rows instance None [] = refl
held_rows instance None (e ∷ es) = rw (holding_mode e.1.mode) refl
held_rows instance (Some closing) [] = refl
held_rows instance (Some closing) (e ∷ es) = rw (holding_mode e.1.mode) refl

held_by_rows : (instance : ℕ) (lock : LockState) → has_holder (lock_rows instance lock) ≡ not (nobody_holds lock)
held_by_rows instance lock = held_rows instance lock.closed lock.holders

same_key : (instance : ℕ) (owner other : Owner) → is_at (lock_order (holder_key instance owner)) (holder_key instance other) ≡ is_at (owner_order owner) other
same_key instance owner other = rw (tied_itself nat_cmp_total instance) refl

holders_hold : (instance : ℕ) (holders : Holders) (owner : Owner) → holds_by (holder_rows instance holders) (holder_key instance owner) ≡ holds_in holders owner
holders_hold instance [] owner = refl
holders_hold instance (e ∷ es) owner = rw (holding_mode e.1.mode, same_key instance owner e.0, holders_hold instance es owner) refl

pub rows_hold : (instance : ℕ) (closed : Option Closing) (holders : Holders) (owner : Owner) → holds_by (closing_rows instance closed ++ holder_rows instance holders) (holder_key instance owner) ≡ holds_in holders owner
rows_hold instance None holders owner = holders_hold instance holders owner
rows_hold instance (Some closing) holders owner = holders_hold instance holders owner

-- the rows that tell so of a lock
abbrev stay_rows : StoredLocks → StoredLocks → Bool
stay_rows old new = list_any (λ e. is_holding e.1.state && holds_by old e.0) new

holders_stay : (instance : ℕ) (old : LockState) (holders : Holders) → stay_rows (lock_rows instance old) (holder_rows instance holders) ≡ list_any (λ entry. holds_in old.holders entry.0) holders
holders_stay instance old [] = refl
holders_stay instance old (e ∷ es) = rw (holding_mode e.1.mode, rows_hold instance old.closed old.holders e.0, holders_stay instance old es) refl

rows_stay : (instance : ℕ) (old : LockState) (closed : Option Closing) (holders : Holders) → stay_rows (lock_rows instance old) (closing_rows instance closed ++ holder_rows instance holders) ≡ list_any (λ entry. holds_in old.holders entry.0) holders
rows_stay instance old None holders = holders_stay instance old holders
rows_stay instance old (Some closing) holders = holders_stay instance old holders

stays_by_rows : (instance : ℕ) (old new : LockState) → list_any (λ e. is_holding e.1.state && holds_by (lock_rows instance old) e.0) (lock_rows instance new) ≡ stays_held old new
stays_by_rows instance old new = rows_stay instance old new.closed new.holders

pub begins_by_rows : (instance : ℕ) (old new : LockState) → (has_holder (lock_rows instance new) && not (list_any (λ e. is_holding e.1.state && holds_by (lock_rows instance old) e.0) (lock_rows instance new))) ≡ begins old new
begins_by_rows instance old new =
    ap (λ b. b && not (list_any (λ e. is_holding e.1.state && holds_by (lock_rows instance old) e.0) (lock_rows instance new))) (held_by_rows instance new)
    ∙ ap (λ b. not (nobody_holds new) && not b) (stays_by_rows instance old new)

-- ---- those who hold it may do so together

same_shared : (mode : LockMode) → of_rows.is_shared (stored_mode mode) ≡ is_shared mode
same_shared modes.Exclusive = refl
same_shared modes.Shared = refl

all_shared : (instance : ℕ) (holders : Holders) → list_all (λ entry. is_shared entry.1.mode) holders ≡ true → list_all (λ e. of_rows.is_shared e.1.state) (holder_rows instance holders) ≡ true
all_shared instance [] h = refl
all_shared instance (e ∷ es) h =
    let t = and_parts (is_shared e.1.mode) (list_all (λ (entry : Owner × Hold). is_shared entry.1.mode) es) h in
    and_from (of_rows.is_shared (stored_mode e.1.mode)) (list_all (λ x. of_rows.is_shared x.1.state) (holder_rows instance es)) (same_shared e.1.mode ∙ t.0) (all_shared instance es t.1)

together : (instance : ℕ) (closed : Option Closing) (holders : Holders) → (is_none closed || is_none (mode_of holders)) ≡ true → stand_together holders ≡ true → are_together (closing_rows instance closed ++ holder_rows instance holders) ≡ true
together instance None [] one h = refl
together instance None (only ∷ []) one h = refl
together instance None (first ∷ second ∷ rest) one h = all_shared instance (first ∷ second ∷ rest) h
together instance (Some closing) [] one h = refl
together instance (Some closing) (e ∷ es) one h = absurd cc

pub legal_rows : (instance : ℕ) (lock : LockState) → IsLegal lock → are_together (lock_rows instance lock) ≡ true
legal_rows instance lock legal = together instance lock.closed lock.holders legal.closed legal.holders
