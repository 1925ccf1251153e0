-- One row more, in a loop over rows.
use Rattle.std.proofs.Common.{◌≡◌, ℕ, ◌+◌, suc, ◌<◌, true, false, List, [], ◌∷◌, ◌++◌, length, take, drop, drop-cons, add-one, Option, Some, None, sym, ap, ◌∙◌, subst, true≢false, Ordering}
use Rattle.std.specs.Prelude.{is_some, slice_index_or}
use Rattle.std.specs.Map.{lookup}
use Rattle.std.specs.BTreeMap.{is_at, insert_entry}
use Rattle.std.specs.Cmp.{IsTotalOrder}
use Rattle.std.proofs.Math.Seq.{take-suc}
use Rattle.std.proofs.lemmas.List.{take-append-drop}
use Rattle.std.proofs.lemmas.Cmp.{then_total, on_total, nat_cmp_total}
use Rattle.sqlite_value.specs.Order.{Row}
use Rattle.rows_cell.specs.Keys.{lock_order}
use Rattle.rows_cell.specs.declared.keys.LockKey.{LockKey}
use Rattle.rows_sql.specs.Held.{Holds}
use Rattle.rows_sql.proofs.Held.{holds_more, unread, twice}

pub locks_total : IsTotalOrder lock_order
locks_total = then_total (then_total (on_total (λ (k : LockKey). k.instance) nat_cmp_total) (on_total (λ (k : LockKey). k.client) nat_cmp_total)) (on_total (λ (k : LockKey). k.handle) nat_cmp_total)

at_place : (all : List Row) (i : ℕ) (r : Row) → i < length all → r ≡ slice_index_or all i r → take i all ++ r ∷ drop (suc i) all ≡ all
at_place all i r low is = ap (λ xs. take i all ++ xs) (ap (λ x. x ∷ drop (suc i) all) is ∙ sym (drop-cons all i r low)) ∙ take-append-drop i all

one_more : (all : List Row) (i : ℕ) (r : Row) → i < length all → r ≡ slice_index_or all i r → take i all ++ r ∷ [] ≡ take (i + 1) all
one_more all i r low is = ap (λ x. take i all ++ x ∷ []) is ∙ sym (take-suc all i r low) ∙ ap (λ n. take n all) (sym (add-one i))

module _ {K V : Type 0} (cmp : K → K → Ordering) (total : IsTotalOrder cmp) (read : Row → Option (K × V)) (all : List Row) (i : ℕ) (r : Row) (low : i < length all) (is : r ≡ slice_index_or all i r) where
  pub none_at : read r ≡ None → (es : List (K × V)) → ¬ Holds cmp read all es
  none_at none es h = unread cmp total read (take i all) r (drop (suc i) all) none es (subst (λ xs. Holds cmp read xs es) (sym (at_place all i r low is)) h)

  pub twice_at : (es : List (K × V)) (k : K) (v : V) (former : Option V) → Holds cmp read (take i all) es → read r ≡ Some (k, v) → former ≡ lookup (is_at (cmp k)) es → is_some former ≡ true → (whole : List (K × V)) → ¬ Holds cmp read all whole
  twice_at es k v None held said found there whole h = absurd (true≢false (sym there))
  twice_at es k v (Some w) held said found there whole h = twice cmp total read (take i all) r (drop (suc i) all) es k v w held said (sym found) whole (subst (λ xs. Holds cmp read xs whole) (sym (at_place all i r low is)) h)

  pub more_at : (es next : List (K × V)) (k : K) (v : V) (former : Option V) → Holds cmp read (take i all) es → read r ≡ Some (k, v) → former ≡ lookup (is_at (cmp k)) es → is_some former ≡ false → next ≡ insert_entry cmp es k v → Holds cmp read (take (i + 1) all) next
  more_at es next k v None held said found there is_next =
      subst (λ xs. Holds cmp read xs next) (one_more all i r low is) (subst (Holds cmp read (take i all ++ r ∷ [])) (sym is_next) (holds_more cmp total read (take i all) es r k v held said (sym found)))
  more_at es next k v (Some w) held said found there is_next = absurd (true≢false there)
