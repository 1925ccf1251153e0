-- The rows of a lock stand in order, and may stand together.
use Rattle.std.proofs.Common.{◌≡◌, ℕ, List, [], ◌∷◌, ◌++◌, Bool, true, false, Option, Some, None, refl, ◌∙◌, arith}
use Rattle.std.specs.Prelude.{◌||◌, ◌==◌, nat_le, is_none}
use Rattle.std.specs.List.{list_all}
use Rattle.std.specs.List.Sorted.{IsStrictlySortedBy}
use Rattle.std.specs.Map.{keys_of}
use Rattle.std.proofs.lemmas.Bool.{and_parts, and_from}
use Rattle.std.proofs.lemmas.Bool.Decides.{nat_tests}
use Rattle.node_core.specs.declared.kinds.LockMode.{LockMode}
use Rattle.node_core.specs.declared.kinds.LockMode.TheVariants as modes
use Rattle.node_core.specs.Limits.{lock_delay_limit}
use Rattle.rows_cell.specs.declared.tables.Rows.{Rows}
use Rattle.rows_cell.specs.Keys.{lock_order}
use Rattle.rows_cell.specs.Sound as of_rows
use Rattle.rows_cell.specs.Sound.{is_number, is_live_in}
use Rattle.rows_cell.specs.LockRows.{has_holder, row_fits, client_fits, are_together, are_legal_rows}
use Rattle.rows_cell.proofs.RowEdits.{made_in_order}
use Rattle.lock_core.specs.declared.claims.Owner.{Owner}
use Rattle.lock_core.specs.declared.claims.Hold.{Hold}
use Rattle.lock_core.specs.declared.claims.Closing.{Closing}
use Rattle.lock_core.specs.State.{LockState, Holders, IsLegal, owner_order, is_shared, mode_of, stand_together}
use Rattle.master_parts.specs.Locks.{stored_mode, holder_key, holder_row, holder_rows, closing_rows, lock_rows}
use Rattle.over_core.specs.Kept.{closing_fits}

-- ---- in order

parts_in_order : (instance : ℕ) (closed : Option Closing) (holders : Holders) → (is_none closed || is_none (mode_of holders)) ≡ true → IsStrictlySortedBy owner_order (keys_of holders) → IsStrictlySortedBy lock_order (keys_of (closing_rows instance closed ++ holder_rows instance holders))
unfolding IsStrictlySortedBy
parts_in_order instance None holders one h = made_in_order instance (λ (o : Owner). o.client) (λ (o : Owner). o.handle) holder_row holders h
parts_in_order instance (Some closing) [] one h = (tt, tt)
parts_in_order instance (Some closing) (e ∷ es) one h = absurd cc

pub rows_in_order : (instance : ℕ) (lock : LockState) → IsLegal lock → IsStrictlySortedBy owner_order (keys_of lock.holders) → IsStrictlySortedBy lock_order (keys_of (lock_rows instance lock))
rows_in_order instance lock legal h = parts_in_order instance lock.closed lock.holders legal.closed h

-- ---- who holds it

pub none_holds : (instance : ℕ) (closed : Option Closing) (holders : Holders) → has_holder (closing_rows instance closed ++ holder_rows instance holders) ≡ true → is_none (mode_of holders) ≡ false
none_holds instance closed (e ∷ es) h = refl
none_holds instance None [] h = absurd cc
none_holds instance (Some closing) [] h = absurd cc

-- ---- together

same_shared : (mode : LockMode) → of_rows.is_shared (stored_mode mode) ≡ is_shared mode
same_shared modes.Exclusive = refl
same_shared modes.Shared = refl

all_shared : (instance : ℕ) (holders : Holders) → list_all (λ entry. is_shared entry.1.mode) holders ≡ true → list_all (λ e. of_rows.is_shared e.1.state) (holder_rows instance holders) ≡ true
all_shared instance [] h = refl
all_shared instance (e ∷ es) h =
    let t = and_parts (is_shared e.1.mode) (list_all (λ (entry : Owner × Hold). is_shared entry.1.mode) es) h in
    and_from (of_rows.is_shared (stored_mode e.1.mode)) (list_all (λ x. of_rows.is_shared x.1.state) (holder_rows instance es)) (same_shared e.1.mode ∙ t.0) (all_shared instance es t.1)

together : (instance : ℕ) (closed : Option Closing) (holders : Holders) → (is_none closed || is_none (mode_of holders)) ≡ true → stand_together holders ≡ true → are_together (closing_rows instance closed ++ holder_rows instance holders) ≡ true
together instance None [] one h = refl
together instance None (only ∷ []) one h = refl
together instance None (first ∷ second ∷ rest) one h = all_shared instance (first ∷ second ∷ rest) h
together instance (Some closing) [] one h = refl
together instance (Some closing) (e ∷ es) one h = absurd cc

-- ---- each

same_number : (n : ℕ) → (n == n) ≡ true
same_number n = grind (arith, nat_tests)

-- what a row needs of a holder
pub record HolderFits (rows : Rows) (owner : Owner) (hold : Hold) : Type 0 where
  pub live : is_live_in rows owner.client ≡ true
  pub client : is_number owner.client ≡ true
  pub handle : is_number owner.handle ≡ true
  pub delay : nat_le hold.delay lock_delay_limit ≡ true

client_of_mode : (rows : Rows) (instance : ℕ) (owner : Owner) (mode : LockMode) → is_live_in rows owner.client ≡ true → client_fits rows (holder_key instance owner) (stored_mode mode) ≡ true
client_of_mode rows instance owner modes.Exclusive live = live
client_of_mode rows instance owner modes.Shared live = live

holder_row_fits : (rows : Rows) (instance : ℕ) (owner : Owner) (hold : Hold) → HolderFits rows owner hold → row_fits rows instance (holder_key instance owner, holder_row hold) ≡ true
holder_row_fits rows instance owner hold h = rw (same_number instance, h.client, h.handle, h.delay) (client_of_mode rows instance owner hold.mode h.live)

holders_fit : (rows : Rows) (instance : ℕ) (holds : Owner → Hold → Bool) (holders : Holders) → ((owner : Owner) (hold : Hold) → holds owner hold ≡ true → HolderFits rows owner hold) → list_all (λ entry. holds entry.0 entry.1) holders ≡ true → list_all (row_fits rows instance) (holder_rows instance holders) ≡ true
holders_fit rows instance holds [] fits h = refl
holders_fit rows instance holds (e ∷ es) fits h =
    let t = and_parts (holds e.0 e.1) (list_all (λ (entry : Owner × Hold). holds entry.0 entry.1) es) h in
    and_from (row_fits rows instance (holder_key instance e.0, holder_row e.1)) (list_all (row_fits rows instance) (holder_rows instance es)) (holder_row_fits rows instance e.0 e.1 (fits e.0 e.1 t.0)) (holders_fit rows instance holds es fits t.1)

closing_row_fits : (rows : Rows) (instance : ℕ) (closed : Option Closing) (others : List _) → closing_fits closed ≡ true → list_all (row_fits rows instance) others ≡ true → list_all (row_fits rows instance) (closing_rows instance closed ++ others) ≡ true
closing_row_fits rows instance None others h all = all
closing_row_fits rows instance (Some closing) others h all = rw (same_number instance, h) all

pub rows_legal : (rows : Rows) (instance : ℕ) (holds : Owner → Hold → Bool) (lock : LockState) → ((owner : Owner) (hold : Hold) → holds owner hold ≡ true → HolderFits rows owner hold) → IsLegal lock → list_all (λ entry. holds entry.0 entry.1) lock.holders ≡ true → closing_fits lock.closed ≡ true
    → are_legal_rows rows instance (lock_rows instance lock) ≡ true
rows_legal rows instance holds lock fits legal all closing =
    and_from (list_all (row_fits rows instance) (lock_rows instance lock)) (are_together (lock_rows instance lock))
    (closing_row_fits rows instance lock.closed (holder_rows instance lock.holders) closing (holders_fit rows instance holds lock.holders fits all))
    (together instance lock.closed lock.holders legal.closed legal.holders)
