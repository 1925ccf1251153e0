-- The handles that are open, each noted under its own key, and the keys of owners.
use Rattle.std.proofs.Common.{◌≡◌, ℕ, Result, Ok, Err, List, [], ◌∷◌, ◌⊎◌, inl, inr, ⊎_elim, true, false, cond, Option, Some, None, refl, sym, ap, subst, ◌∙◌}
use Rattle.std.specs.Prelude.{OnOk, OnErr}
use Rattle.std.specs.List.Sorted.{IsStrictlySortedBy}
use Rattle.std.specs.Ordering.{nat_cmp}
use Rattle.std.specs.Map.{keys_of, lookup}
use Rattle.std.specs.BTreeMap.{is_at, insert_entry}
use Rattle.std.proofs.lemmas.Map.Lookups.{CmpEqualImpliesEq, exact_unsigned}
use Rattle.collections.specs.Tables.{with_former}
use Rattle.collections.proofs.Entries.{eq_at, lookup_put}
use Rattle.rows_cell.proofs.SortedLookups.{lookup_gone}
use Rattle.lock_core.specs.declared.claims.Owner.{Owner}
use Rattle.lock_core.specs.declared.claims.Hold.{Hold}
use Rattle.lock_core.specs.State.{Holders, owner_order}
use Rattle.master_parts.specs.declared.handles.HandleKey.{HandleKey}
use Rattle.master_parts.specs.declared.handles.HandleState.{HandleState}
use Rattle.master_parts.specs.declared.handles.HandleState.TheVariants.{Open}
use Rattle.master_parts.specs.Keys.{handle_order}
use Rattle.master_parts.specs.OpenHandles.{state_at, is_among, AreAmong, IsOwnKey, IsOwn, AreOwn, key_owned, HasOwner, HasOwners}
use Rattle.master_parts.proofs.PlacedHandles.{both_equal, exact_handle, handle_total, same_handle, found_set, among_more, among_put, At}

-- ---- a state is noted

own_at : (entries : List (HandleKey × HandleState)) (key q : HandleKey) (state : HandleState) → IsOwn key (Some state) → IsOwn q (state_at entries q) → IsOwn q (state_at (insert_entry handle_order entries key state) q)
own_at entries key q state own is =
    let P : Option HandleState → Type 0 = λ o. IsOwn q o in
    subst P (sym (lookup_put handle_order exact_handle same_handle entries key state q))
    ((elim (At q key) as (λ b. At q key ≡ b → IsOwn q (cond b (Some state) (state_at entries q))) [
      | true ↦ (λ c. let Q : HandleKey → Type 0 = λ k. IsOwn k (Some state) in subst Q (sym (exact_handle q key (eq_at (handle_order q key) c))) own)
      | false ↦ (λ c. is)
    ]) refl)

pub own_after : {X E : Type 0} (result : Result X E) (entries after : List (HandleKey × HandleState)) (key : HandleKey) (state : HandleState) → OnOk result (after ≡ insert_entry handle_order entries key state) → OnErr result (after ≡ entries) → IsOwn key (Some state) → AreOwn entries → AreOwn after
own_after (Ok x) entries after key state ok err own is =
    let P : List (HandleKey × HandleState) → Type 0 = λ es. AreOwn es in
    let put : AreOwn (insert_entry handle_order entries key state) = λ q. own_at entries key q state own (is q) in
    subst P (sym ok) put
own_after (Err e) entries after key state ok err own is = let P : List (HandleKey × HandleState) → Type 0 = λ es. AreOwn es in subst P (sym err) is

-- ---- a state is noted again

own_restored : (entries : List (HandleKey × HandleState)) (key : HandleKey) (former : Option HandleState) → IsStrictlySortedBy handle_order (keys_of entries) → IsOwn key former → AreOwn entries → AreOwn (with_former handle_order entries key former)
own_restored entries key None sorted own is = λ q noted h.
    (elim (At q key) as (λ b. cond b None (state_at entries q) ≡ Some (Open noted) → IsOwnKey q noted.handle) [
      | true ↦ (λ k. absurd (cc))
      | false ↦ (λ k. is q noted k)
    ]) (sym (lookup_gone handle_order handle_total exact_handle entries key q sorted) ∙ h)
own_restored entries key (Some state) sorted own is = λ q noted h.
    ⊎_elim (λ l. is q noted l)
    (λ r. let P : HandleKey → Type 0 = λ x. IsOwnKey x noted.handle in subst P (sym r.0) (own noted (ap (λ x. Some x) r.1)))
    (found_set entries key state (Open noted) q h)

pub own_again : (entries same after : List (HandleKey × HandleState)) (key : HandleKey) (former : Option HandleState) → same ≡ entries → after ≡ with_former handle_order same key former → IsStrictlySortedBy handle_order (keys_of entries) → IsOwn key former → AreOwn entries → AreOwn after
own_again entries same after key former e g sorted own is =
    let P : List (HandleKey × HandleState) → Type 0 = λ es. AreOwn es in
    subst P (sym (g ∙ ap (λ l. with_former handle_order l key former) e)) (own_restored entries key former sorted own is)

-- ---- the keys of owners are collected

exact_owner : CmpEqualImpliesEq owner_order
exact_owner x y h =
    let t = both_equal (nat_cmp x.client y.client) (nat_cmp x.handle y.handle) h in
    let c = exact_unsigned x.client y.client t.0 in
    let n = exact_unsigned x.handle y.handle t.1 in
    λ j. record { client = c j; handle = n j }

pub owner_kept : (keys more : List (HandleKey × Unit {0})) (key : HandleKey) (u : Unit {0}) → more ≡ insert_entry handle_order keys key u → AreAmong keys more
owner_kept keys more key u put = λ q h. ap (λ l. is_among l q) put ∙ among_more keys key u q h

pub owner_found : (owner : Owner) (keys more : List (HandleKey × Unit {0})) (client number : ℕ) (u : Unit {0}) → more ≡ insert_entry handle_order keys (record { client = client; number = number }) u → client ≡ owner.client → number ≡ owner.handle → HasOwner owner more
owner_found owner keys more client number u put e f = λ c n.
    let key : HandleKey = record { client = client; number = number } in
    let same : key_owned owner ≡ key = λ i. record { client = sym e i; number = sym f i } in
    ap (is_among more) same ∙ ap (λ l. is_among l key) put ∙ among_put keys key u

-- `left` of the owners are still to be looked at
pub record Owned (all left : Holders) (old new : List (HandleKey × Unit {0})) : Type 0 where
  pub kept : AreAmong old new
  pub found : (owner : Owner) (hold : Hold) → lookup (is_at (owner_order owner)) all ≡ Some hold → HasOwner owner new ⊎ (lookup (is_at (owner_order owner)) left ≡ Some hold)

pub owned_first : (all left : Holders) (old : List (HandleKey × Unit {0})) → left ≡ all → Owned all left old old
owned_first all left old e = record { kept = λ q h. h; found = λ owner hold h. inr (ap (lookup (is_at (owner_order owner))) e ∙ h) }

pub owned_more : (all left rest : Holders) (e : Owner × Hold) (old new more : List (HandleKey × Unit {0})) → left ≡ e ∷ rest → AreAmong new more → HasOwner e.0 more → Owned all left old new → Owned all rest old more
owned_more all left rest e old new more step among has o = record {
  kept = λ q h. among q (o.kept q h);
  found = λ owner hold h.
      ⊎_elim (λ l. inl (λ c n. among (key_owned owner) (l c n)))
      (λ r.
      (elim (is_at (owner_order owner) e.0) as (λ b. is_at (owner_order owner) e.0 ≡ b → cond b (Some e.1) (lookup (is_at (owner_order owner)) rest) ≡ Some hold → HasOwner owner more ⊎ (lookup (is_at (owner_order owner)) rest ≡ Some hold)) [
        | true ↦ (λ d k. let P : Owner → Type 0 = λ x. HasOwner x more in inl (subst P (sym (exact_owner owner e.0 (eq_at (owner_order owner e.0) d))) has))
        | false ↦ (λ d k. inr k)
      ]) refl (ap (lookup (is_at (owner_order owner))) (sym step) ∙ r))
      (o.found owner hold h);
}

pub owned_last : (all left : Holders) (old new : List (HandleKey × Unit {0})) → left ≡ [] → Owned all left old new → HasOwners all new
owned_last all left old new none o = λ owner hold h.
    ⊎_elim (λ l. l)
    (λ r. let n : lookup (is_at (owner_order owner)) left ≡ None = ap (lookup (is_at (owner_order owner))) none in absurd (cc))
    (o.found owner hold h)
