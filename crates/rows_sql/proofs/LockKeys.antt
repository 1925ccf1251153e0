-- The keys of locks in SQL, and the locks that rows say.
use Rattle.std.proofs.Common.{◌≡◌, ℕ, ℤ, Bool, true, false, ◌&&◌, Option, Some, Ordering, Less, Equal, Greater, refl, sym, ap, ◌∙◌}
use Rattle.std.specs.BTreeMap.{is_at}
use Rattle.std.specs.Ordering.{nat_cmp, is_eq, ordering_then}
use Rattle.std.proofs.lemmas.Map.Lookups.{CmpEqualImpliesEq, exact_unsigned}
use Rattle.sqlite_value.specs.declared.value.Value.TheVariants.{Int}
use Rattle.sqlite_value.specs.declared.keys.Collation.TheVariants.{Binary}
use Rattle.sqlite_value.specs.Order.{Row, column}
use Rattle.sqlite_schema.specs.Rules.{equal}
use Rattle.sqlite.specs.Edit.{id_in}
use Rattle.rows_cell.specs.declared.keys.LockKey.{LockKey}
use Rattle.rows_cell.specs.declared.tables.LockRow.{LockRow}
use Rattle.rows_cell.specs.declared.tables.LockState.{LockState}
use Rattle.rows_cell.specs.Keys.{lock_order}
use Rattle.rows_sql.specs.Decode.{count_of, count_in, lock_state_of, lock_from, lock_in}
use Rattle.rows_sql.specs.Ready.{lock_shown}
use Rattle.rows_sql.proofs.Truths.{same_some}
use Rattle.rows_sql.proofs.Counts.{equal_counts}
use Rattle.rows_sql.proofs.Columns.{IsLockRow}

-- ---- keys

eq_then : (a b : Ordering) → is_eq (ordering_then a b) ≡ (is_eq a && is_eq b)
eq_then Less b = refl
eq_then Equal b = refl
eq_then Greater b = refl

both_equal : (a b : Ordering) → ordering_then a b ≡ Equal → (a ≡ Equal) × (b ≡ Equal)
both_equal Less b e = absurd cc
both_equal Equal b e = (refl, e)
both_equal Greater b e = absurd cc

three : (a b c : Bool) → (a && (b && (c && true))) ≡ ((a && b) && c)
three true true true = refl
three true true false = refl
three true false c = refl
three false b c = refl

pub exact_lock : CmpEqualImpliesEq lock_order
exact_lock x y h =
    let outer = both_equal (ordering_then (nat_cmp x.instance y.instance) (nat_cmp x.client y.client)) (nat_cmp x.handle y.handle) h in
    let inner = both_equal (nat_cmp x.instance y.instance) (nat_cmp x.client y.client) outer.0 in
    let i = exact_unsigned x.instance y.instance inner.0 in
    let c = exact_unsigned x.client y.client inner.1 in
    let n = exact_unsigned x.handle y.handle outer.1 in
    λ j. record { instance = i j; client = c j; handle = n j }

-- ---- what a row says

pub record LockParts (i c h : Option ℕ) (s : Option LockState) (d : Option ℕ) (e : LockKey × LockRow) : Type 0 where
  pub instance : i ≡ Some e.0.instance
  pub client : c ≡ Some e.0.client
  pub handle : h ≡ Some e.0.handle
  pub state : s ≡ Some e.1.state
  pub delay : d ≡ Some e.1.delay

pub lock_parts : (i c h : Option ℕ) (s : Option LockState) (d : Option ℕ) (e : LockKey × LockRow) → lock_from i c h s d ≡ Some e → LockParts i c h s d e
lock_parts (Some i) (Some c) (Some h) (Some s) (Some d) e is =
    let same : (record { instance = i; client = c; handle = h }, record { state = s; delay = d }) ≡ e = same_some is in
    record {
      instance = ap (λ (x : LockKey × LockRow). Some x.0.instance) same;
      client = ap (λ (x : LockKey × LockRow). Some x.0.client) same;
      handle = ap (λ (x : LockKey × LockRow). Some x.0.handle) same;
      state = ap (λ (x : LockKey × LockRow). Some x.1.state) same;
      delay = ap (λ (x : LockKey × LockRow). Some x.1.delay) same;
    }
lock_parts _ _ _ _ _ e is = absurd cc

pub lock_said : (r : Row) (e : LockKey × LockRow) → lock_in (lock_shown r) ≡ Some e → LockParts (count_in (column r 1)) (count_in (column r 2)) (count_in (column r 3)) (lock_state_of (id_in (column r 4))) (count_in (column r 5)) e
lock_said r e says = lock_parts (count_in (column r 1)) (count_in (column r 2)) (count_in (column r 3)) (lock_state_of (id_in (column r 4))) (count_in (column r 5)) e says

-- the row has these values in the columns of the key
abbrev pub has_key : ℤ → ℤ → ℤ → Row → Bool
has_key i c h r = equal Binary (column r 1) (Int i) && (equal Binary (column r 2) (Int c) && (equal Binary (column r 3) (Int h) && true))

-- the row is that of the key
pub key_test : (key : LockKey) (i c h : ℤ) → count_of i ≡ Some key.instance → count_of c ≡ Some key.client → count_of h ≡ Some key.handle → (r : Row) → IsLockRow r → (e : LockKey × LockRow) → lock_in (lock_shown r) ≡ Some e
    → has_key i c h r ≡ is_at (lock_order key) e.0
key_test key i c h ni nc nh r typed e says =
    let parts = lock_said r e says in
    let first : equal Binary (column r 1) (Int i) ≡ is_eq (nat_cmp key.instance e.0.instance) = ap (λ v. equal Binary v (Int i)) typed.instance ∙ equal_counts _ i e.0.instance key.instance parts.instance ni in
    let second : equal Binary (column r 2) (Int c) ≡ is_eq (nat_cmp key.client e.0.client) = ap (λ v. equal Binary v (Int c)) typed.client ∙ equal_counts _ c e.0.client key.client parts.client nc in
    let third : equal Binary (column r 3) (Int h) ≡ is_eq (nat_cmp key.handle e.0.handle) = ap (λ v. equal Binary v (Int h)) typed.handle ∙ equal_counts _ h e.0.handle key.handle parts.handle nh in
    let all : has_key i c h r ≡ (is_eq (nat_cmp key.instance e.0.instance) && (is_eq (nat_cmp key.client e.0.client) && (is_eq (nat_cmp key.handle e.0.handle) && true))) = λ j. first j && (second j && (third j && true)) in
    all ∙ three (is_eq (nat_cmp key.instance e.0.instance)) (is_eq (nat_cmp key.client e.0.client)) (is_eq (nat_cmp key.handle e.0.handle))
    ∙ ap (λ b. b && is_eq (nat_cmp key.handle e.0.handle)) (sym (eq_then (nat_cmp key.instance e.0.instance) (nat_cmp key.client e.0.client)))
    ∙ sym (eq_then (ordering_then (nat_cmp key.instance e.0.instance) (nat_cmp key.client e.0.client)) (nat_cmp key.handle e.0.handle))
