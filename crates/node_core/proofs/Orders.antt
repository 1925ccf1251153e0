-- The keys of a map stay names, in order, through a change.
use Rattle.std.proofs.Common.{◌≡◌, ℕ, List, [], ◌∷◌, Bool, true, false, cond, Ordering, Less, Equal, Greater, refl, ap, ◌∙◌, Result, Ok, Err, Option, Some, None}
use Rattle.std.specs.Prelude.{OnOk, OnErr}
use Rattle.std.specs.Ordering.{match_ordering, ordering_reverse, nat_cmp}
use Rattle.std.specs.Cmp.{IsTotalOrder}
use Rattle.std.specs.Cmp.Lexicographic.{slice_cmp, nat_list_cmp_total}
use Rattle.std.specs.List.{AllByRecursion}
use Rattle.std.specs.List.Sorted.{IsStrictlySortedBy}
use Rattle.std.specs.Map.{keys_of, remove_entry}
use Rattle.std.proofs.lemmas.Map.{keys-set_value}
use Rattle.collections.specs.Tables.{with_former}
use Rattle.std.specs.BTreeMap.{is_at, insert_entry}
use Rattle.names_cell.specs.Text.{is_name}
use Rattle.node_core.specs.Nodes.{Nodes, HasNamesInOrder}
use Rattle.node_core.specs.declared.nodes.Node.{Node}

pub above : {K : Type 0} {cmp : K → K → Ordering} (total : IsTotalOrder cmp) (x y : K) (ks : List K) → cmp x y ≡ Less → AllByRecursion (λ z. cmp y z ≡ Less) ks → AllByRecursion (λ z. cmp x z ≡ Less) ks
above total x y [] h all = tt
above total x y (k ∷ ks) h all = (total.trans x y k h all.0, above total x y ks h all.1)

module _ {K X : Type 0} {cmp : K → K → Ordering} (total : IsTotalOrder cmp) where
  -- what holds of each key and of one more holds after that one is put
  pub all_insert : (P : K → Type 0) (es : List (K × X)) (k : K) (v : X) → P k → AllByRecursion P (keys_of es) → AllByRecursion P (keys_of (insert_entry cmp es k v))
  all_insert P [] k v here all = (here, tt)
  all_insert P (e ∷ es) k v here all =
      elim (cmp k e.0) as (λ o. AllByRecursion P (keys_of (match_ordering o ((k, v) ∷ e ∷ es) ((e.0, v) ∷ es) (e ∷ insert_entry cmp es k v)))) [
        | Less ↦ (here, all)
        | Equal ↦ all
        | Greater ↦ (all.0, all_insert P es k v here all.1)
      ]

  pub sorted_insert : (es : List (K × X)) (k : K) (v : X) → IsStrictlySortedBy cmp (keys_of es) → IsStrictlySortedBy cmp (keys_of (insert_entry cmp es k v))
  unfolding IsStrictlySortedBy
  sorted_insert [] k v s = (tt, tt)
  sorted_insert (e ∷ es) k v s =
      (elim (cmp k e.0) as (λ o. cmp k e.0 ≡ o → IsStrictlySortedBy cmp (keys_of (match_ordering o ((k, v) ∷ e ∷ es) ((e.0, v) ∷ es) (e ∷ insert_entry cmp es k v)))) [
        | Less ↦ (λ h. ((h, above total k e.0 (keys_of es) h s.0), s))
        | Equal ↦ (λ h. s)
        | Greater ↦ (λ h.
            let below : cmp e.0 k ≡ Less = total.antisymm e.0 k ∙ ap ordering_reverse h in
            (all_insert (λ z. cmp e.0 z ≡ Less) es k v below s.0, sorted_insert es k v s.1))
      ]) refl

  -- what holds of each key holds after one is taken away
  pub all_remove : (P : K → Type 0) (test : K → Bool) (es : List (K × X)) → AllByRecursion P (keys_of es) → AllByRecursion P (keys_of (remove_entry test es))
  all_remove P test [] all = tt
  all_remove P test (e ∷ es) all =
      elim (test e.0) as (λ b. AllByRecursion P (keys_of (cond b es (e ∷ remove_entry test es)))) [ true ↦ all.1 | false ↦ (all.0, all_remove P test es all.1) ]

  pub sorted_remove : (test : K → Bool) (es : List (K × X)) → IsStrictlySortedBy cmp (keys_of es) → IsStrictlySortedBy cmp (keys_of (remove_entry test es))
  unfolding IsStrictlySortedBy
  sorted_remove test [] s = tt
  sorted_remove test (e ∷ es) s =
      elim (test e.0) as (λ b. IsStrictlySortedBy cmp (keys_of (cond b es (e ∷ remove_entry test es)))) [
        | true ↦ s.1
        | false ↦ (all_remove (λ z. cmp e.0 z ≡ Less) test es s.0, sorted_remove test es s.1)
      ]

pub empty_in_order : HasNamesInOrder []
unfolding IsStrictlySortedBy
empty_in_order = record { in_order = tt; names = tt }

pub put_in_order : (nodes : Nodes) (name : List ℕ) (view : Node) → HasNamesInOrder nodes → is_name name ≡ true → HasNamesInOrder (insert_entry (slice_cmp nat_cmp) nodes name view)
put_in_order nodes name view h named = record {
  in_order = sorted_insert nat_list_cmp_total nodes name view h.in_order;
  names = all_insert nat_list_cmp_total (λ key. is_name key ≡ true) nodes name view named h.names;
}

pub gone_in_order : (nodes : Nodes) (name : List ℕ) → HasNamesInOrder nodes → HasNamesInOrder (remove_entry (is_at (slice_cmp nat_cmp name)) nodes)
gone_in_order nodes name h = record {
  in_order = sorted_remove nat_list_cmp_total (is_at (slice_cmp nat_cmp name)) nodes h.in_order;
  names = all_remove nat_list_cmp_total (λ key. is_name key ≡ true) (is_at (slice_cmp nat_cmp name)) nodes h.names;
}

-- a put that may have been refused
pub set_in_order : {E : Type 0} (old new : Nodes) (name : List ℕ) (view : Node) (r : Result (Option Node) E) → OnOk r (new ≡ insert_entry (slice_cmp nat_cmp) old name view) → OnErr r (new ≡ old) → HasNamesInOrder old → is_name name ≡ true → HasNamesInOrder new
set_in_order old new name view (Ok x) ok err h named = rw ok (put_in_order old name view h named)
set_in_order old new name view (Err e) ok err h named = rw err h

-- a put that is taken back
pub former_in_order : (nodes : Nodes) (name : List ℕ) (former : Option Node) → HasNamesInOrder nodes → HasNamesInOrder (with_former (slice_cmp nat_cmp) nodes name former)
former_in_order nodes name None h = gone_in_order nodes name h
former_in_order nodes name (Some view) h =
    let e = keys-set_value (is_at (slice_cmp nat_cmp name)) nodes view in
    record { in_order = rw e h.in_order; names = rw e h.names }
