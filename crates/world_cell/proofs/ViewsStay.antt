-- A change leaves what the names show that it doesn't touch.
use Rattle.std.proofs.Common.{◌≡◌, ℕ, List, [], ◌∷◌, Bool, true, false, cond, Less, Equal, Greater, Option, Some, None, refl, sym, ap, ◌∙◌}
use Rattle.std.specs.Prelude.{◌||◌, map, filter, is_none}
use Rattle.std.specs.Option.{option_map_or, option_to_list}
use Rattle.std.specs.Ordering.{match_ordering, nat_cmp}
use Rattle.std.specs.Cmp.Lexicographic.{slice_cmp, nat_list_cmp_total}
use Rattle.std.specs.List.{AllByRecursion, list_any}
use Rattle.std.specs.List.Sorted.{IsStrictlySortedBy}
use Rattle.std.specs.Map.{keys_of, lookup, remove_entry}
use Rattle.std.specs.BTreeMap.{is_at, insert_entry}
use Rattle.std.specs.Str.{bytes_eq}
use Rattle.std.proofs.lemmas.Map.Lookups.{exact_bytes}
use Rattle.collections.proofs.Entries.{eq_at}
use Rattle.collections.proofs.Keys.{bytes_swap}
use Rattle.names_cell.specs.Text.{parent_of, is_child, last_of}
use Rattle.node_core.specs.declared.nodes.Node.{Node}
use Rattle.node_core.specs.declared.views.Mod.{Mod}
use Rattle.node_core.specs.declared.views.Mod.TheVariants.{Put, Gone}
use Rattle.node_core.specs.Nodes.{Nodes, get_node, children, view_at, changed, touched, with_parent}
use Rattle.node_core.proofs.Seen.{same_view}
use Rattle.world_cell.proofs.SweptNames.{other_node}

first_none : (a b : Bool) → (a || b) ≡ false → a ≡ false
first_none true b h = h
first_none false b h = refl

rest_none : (a b : Bool) → (a || b) ≡ false → b ≡ false
rest_none true b h = absurd (cc)
rest_none false b h = h

parent_none : (o : Option (List ℕ)) (x : List ℕ) → list_any (bytes_eq x) (option_to_list o) ≡ false → option_map_or (λ front. bytes_eq front x) o false ≡ false
parent_none None x h = refl
parent_none (Some front) x h = bytes_swap front x ∙ first_none (bytes_eq x front) false h

-- under a name that isn't touched nothing comes or goes
no_child : (name x : List ℕ) → list_any (bytes_eq x) (with_parent name) ≡ false → is_child name x ≡ false
no_child name x h = parent_none (parent_of name) x (rest_none (bytes_eq x name) (list_any (bytes_eq x) (option_to_list (parent_of name))) h)

not_itself : (o : Option Node) (name x : List ℕ) → list_any (bytes_eq x) (cond (is_none o) (with_parent name) (name ∷ [])) ≡ false → bytes_eq x name ≡ false
not_itself None name x h = first_none (bytes_eq x name) (list_any (bytes_eq x) (option_to_list (parent_of name))) h
not_itself (Some node) name x h = first_none (bytes_eq x name) false h

one : (p : List ℕ → Bool) (k : List ℕ) (ks : List (List ℕ)) → p k ≡ false → cond (p k) (k ∷ ks) ks ≡ ks
one p k ks h = rw h refl

-- a key that fails the test goes
kept_remove : (p : List ℕ → Bool) (es : Nodes) (k : List ℕ) → p k ≡ false → filter p (keys_of (remove_entry (is_at (slice_cmp nat_cmp k)) es)) ≡ filter p (keys_of es)
kept_remove p [] k h = refl
kept_remove p (e ∷ es) k h =
    (elim (is_at (slice_cmp nat_cmp k) e.0) as (λ b. is_at (slice_cmp nat_cmp k) e.0 ≡ b → filter p (keys_of (cond b es (e ∷ remove_entry (is_at (slice_cmp nat_cmp k)) es))) ≡ filter p (keys_of (e ∷ es))) [
      | true ↦ (λ t. let same : k ≡ e.0 = exact_bytes k e.0 (eq_at (slice_cmp nat_cmp k e.0) t) in sym (one p e.0 (filter p (keys_of es)) (ap p (sym same) ∙ h)))
      | false ↦ (λ t. ap (λ ks. cond (p e.0) (e.0 ∷ ks) ks) (kept_remove p es k h))
    ]) refl

-- a key that fails the test comes
kept_insert : (p : List ℕ → Bool) (es : Nodes) (k : List ℕ) (v : Node) → p k ≡ false → filter p (keys_of (insert_entry (slice_cmp nat_cmp) es k v)) ≡ filter p (keys_of es)
kept_insert p [] k v h = one p k [] h
kept_insert p (e ∷ es) k v h =
    elim (slice_cmp nat_cmp k e.0) as (λ o. filter p (keys_of (match_ordering o ((k, v) ∷ e ∷ es) ((e.0, v) ∷ es) (e ∷ insert_entry (slice_cmp nat_cmp) es k v))) ≡ filter p (keys_of (e ∷ es))) [
      | Less ↦ one p k (filter p (keys_of (e ∷ es))) h
      | Equal ↦ refl
      | Greater ↦ ap (λ ks. cond (p e.0) (e.0 ∷ ks) ks) (kept_insert p es k v h)
    ]

above : (x y : List ℕ) (ks : List (List ℕ)) → slice_cmp nat_cmp x y ≡ Less → AllByRecursion (λ z. slice_cmp nat_cmp y z ≡ Less) ks → AllByRecursion (λ z. slice_cmp nat_cmp x z ≡ Less) ks
above x y [] h all = tt
above x y (k ∷ ks) h all = (nat_list_cmp_total.trans x y k h all.0, above x y ks h all.1)

none_below : (k : List ℕ) (es : Nodes) → AllByRecursion (λ z. slice_cmp nat_cmp k z ≡ Less) (keys_of es) → lookup (is_at (slice_cmp nat_cmp k)) es ≡ None
none_below k [] all = refl
none_below k (e ∷ es) all = rw all.0 (none_below k es all.1)

not_found : {X : Type 0} (o : Option X) (x : X) → o ≡ None → o ≡ Some x → ⊥
not_found o x n s = absurd (cc)

-- a key that is there gets another node
same_keys : (es : Nodes) (k : List ℕ) (v w : Node) → IsStrictlySortedBy (slice_cmp nat_cmp) (keys_of es) → lookup (is_at (slice_cmp nat_cmp k)) es ≡ Some w → keys_of (insert_entry (slice_cmp nat_cmp) es k v) ≡ keys_of es
unfolding IsStrictlySortedBy
same_keys [] k v w s h = absurd (cc)
same_keys (e ∷ es) k v w s h =
    (elim (slice_cmp nat_cmp k e.0) as (λ o. slice_cmp nat_cmp k e.0 ≡ o → keys_of (match_ordering o ((k, v) ∷ e ∷ es) ((e.0, v) ∷ es) (e ∷ insert_entry (slice_cmp nat_cmp) es k v)) ≡ keys_of (e ∷ es)) [
      | Less ↦ (λ l. absurd (not_found (lookup (is_at (slice_cmp nat_cmp k)) es) w (none_below k es (above k e.0 (keys_of es) l s.0)) (rw l at h)))
      | Equal ↦ (λ l. refl)
      | Greater ↦ (λ l. ap (λ ks. e.0 ∷ ks) (same_keys es k v w s.1 (rw l at h)))
    ]) refl

-- a node that comes, or changes, leaves the children of a name that isn't touched
put_leaves : (nodes : Nodes) (name x : List ℕ) (node : Node) (o : Option Node) → IsStrictlySortedBy (slice_cmp nat_cmp) (keys_of nodes) → get_node nodes name ≡ o → list_any (bytes_eq x) (cond (is_none o) (with_parent name) (name ∷ [])) ≡ false
    → children (changed nodes (Put name node)) x ≡ children nodes x
put_leaves nodes name x node None sorted here h = ap (map last_of) (kept_insert (λ child. is_child child x) nodes name node (no_child name x h))
put_leaves nodes name x node (Some old) sorted here h = ap (λ ks. map last_of (filter (λ child. is_child child x) ks)) (same_keys nodes name node old sorted here)

pub view_stays : (nodes : Nodes) (change : Mod) (x : List ℕ) → IsStrictlySortedBy (slice_cmp nat_cmp) (keys_of nodes) → list_any (bytes_eq x) (touched nodes change) ≡ false → view_at (changed nodes change) x ≡ view_at nodes x
view_stays nodes (Put name node) x sorted h =
    same_view nodes (changed nodes (Put name node)) x (other_node nodes (Put name node) x (not_itself (get_node nodes name) name x h)) (put_leaves nodes name x node (get_node nodes name) sorted refl h)
view_stays nodes (Gone name) x sorted h =
    same_view nodes (changed nodes (Gone name)) x (other_node nodes (Gone name) x (first_none (bytes_eq x name) (list_any (bytes_eq x) (option_to_list (parent_of name))) h))
    (ap (map last_of) (kept_remove (λ child. is_child child x) nodes name (no_child name x h)))
