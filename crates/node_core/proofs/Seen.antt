-- What a change does to what clients see.
use Rattle.std.proofs.Common.{◌≡◌, ◌≢◌, ℕ, List, [], ◌∷◌, Bool, true, false, cond, Ordering, Less, Equal, Greater, Option, Some, None, refl, sym, ap, ◌∙◌, ◌++◌, length, arith, length-append}
use Rattle.std.specs.Prelude.{◌||◌, map, filter, is_none}
use Rattle.std.specs.Option.{option_map, option_map_or, option_to_list}
use Rattle.std.specs.Ordering.{match_ordering, nat_cmp}
use Rattle.std.specs.Cmp.Lexicographic.{slice_cmp, nat_list_cmp_total}
use Rattle.std.specs.List.{AllByRecursion, list_any}
use Rattle.std.specs.List.Sorted.{IsStrictlySortedBy}
use Rattle.std.specs.Map.{keys_of, lookup, remove_entry}
use Rattle.std.specs.BTreeMap.{is_at, insert_entry}
use Rattle.std.specs.Str.{bytes_eq}
use Rattle.std.proofs.lemmas.Map.Lookups.{exact_bytes}
use Rattle.collections.proofs.Entries.{eq_at}
use Rattle.collections.proofs.Keys.{bytes_self, bytes_same}
use Rattle.names_cell.specs.Text.{is_name, parent_of, is_child, last_of}
use Rattle.node_core.specs.Nodes.{Nodes, HasNamesInOrder, get_node, children, listing, view_of, view_at, changed, touched, with_parent}
use Rattle.node_core.specs.Laws.{PutShowsItsView, UntouchedViewsStay}
use Rattle.node_core.proofs.Orders.{above}
use Rattle.node_core.proofs.Walks.{child_form}
use Rattle.node_core.proofs.Changes.{after_is, put_view, gone_view, itself, apart}
use Rattle.node_core.specs.declared.kinds.Kind.{Kind}
use Rattle.node_core.specs.declared.kinds.Kind.TheVariants.{File, Directory}
use Rattle.node_core.specs.declared.nodes.Node.{Node}
use Rattle.node_core.specs.declared.views.View.{View}
use Rattle.node_core.specs.declared.views.Mod.{Mod}
use Rattle.node_core.specs.declared.views.Mod.TheVariants.{Put, Gone}

-- ---- keys that pass a test

one : (p : List ℕ → Bool) (k : List ℕ) (ks : List (List ℕ)) → p k ≡ false → cond (p k) (k ∷ ks) ks ≡ ks
one p k ks h = rw h refl

-- a key that fails the test comes
kept_insert : (p : List ℕ → Bool) (es : Nodes) (k : List ℕ) (v : Node) → p k ≡ false → filter p (keys_of (insert_entry (slice_cmp nat_cmp) es k v)) ≡ filter p (keys_of es)
kept_insert p [] k v h = one p k [] h
kept_insert p (e ∷ es) k v h =
    elim (slice_cmp nat_cmp k e.0) as (λ o. filter p (keys_of (match_ordering o ((k, v) ∷ e ∷ es) ((e.0, v) ∷ es) (e ∷ insert_entry (slice_cmp nat_cmp) es k v))) ≡ filter p (keys_of (e ∷ es))) [
      | Less ↦ one p k (filter p (keys_of (e ∷ es))) h
      | Equal ↦ refl
      | Greater ↦ ap (λ ks. cond (p e.0) (e.0 ∷ ks) ks) (kept_insert p es k v h)
    ]

-- a key that fails the test goes
kept_remove : (p : List ℕ → Bool) (es : Nodes) (k : List ℕ) → p k ≡ false → filter p (keys_of (remove_entry (is_at (slice_cmp nat_cmp k)) es)) ≡ filter p (keys_of es)
kept_remove p [] k h = refl
kept_remove p (e ∷ es) k h =
    (elim (is_at (slice_cmp nat_cmp k) e.0) as (λ b. is_at (slice_cmp nat_cmp k) e.0 ≡ b → filter p (keys_of (cond b es (e ∷ remove_entry (is_at (slice_cmp nat_cmp k)) es))) ≡ filter p (keys_of (e ∷ es))) [
      | true ↦ (λ t. let same : k ≡ e.0 = exact_bytes k e.0 (eq_at (slice_cmp nat_cmp k e.0) t) in sym (one p e.0 (filter p (keys_of es)) (ap p (sym same) ∙ h)))
      | false ↦ (λ t. ap (λ ks. cond (p e.0) (e.0 ∷ ks) ks) (kept_remove p es k h))
    ]) refl

none_below : (k : List ℕ) (es : Nodes) → AllByRecursion (λ z. slice_cmp nat_cmp k z ≡ Less) (keys_of es) → lookup (is_at (slice_cmp nat_cmp k)) es ≡ None
none_below k [] all = refl
none_below k (e ∷ es) all = rw all.0 (none_below k es all.1)

not_found : {X : Type 0} (o : Option X) (x : X) → o ≡ None → o ≡ Some x → ⊥
not_found o x n s = absurd (cc)

-- a key that is there gets another value
same_keys : (es : Nodes) (k : List ℕ) (v w : Node) → IsStrictlySortedBy (slice_cmp nat_cmp) (keys_of es) → lookup (is_at (slice_cmp nat_cmp k)) es ≡ Some w → keys_of (insert_entry (slice_cmp nat_cmp) es k v) ≡ keys_of es
unfolding IsStrictlySortedBy
same_keys [] k v w s h = absurd (cc)
same_keys (e ∷ es) k v w s h =
    (elim (slice_cmp nat_cmp k e.0) as (λ o. slice_cmp nat_cmp k e.0 ≡ o → keys_of (match_ordering o ((k, v) ∷ e ∷ es) ((e.0, v) ∷ es) (e ∷ insert_entry (slice_cmp nat_cmp) es k v)) ≡ keys_of (e ∷ es)) [
      | Less ↦ (λ l. absurd (not_found (lookup (is_at (slice_cmp nat_cmp k)) es) w (none_below k es (above nat_list_cmp_total k e.0 (keys_of es) l s.0)) (rw l at h)))
      | Equal ↦ (λ l. refl)
      | Greater ↦ (λ l. ap (λ ks. e.0 ∷ ks) (same_keys es k v w s.1 (rw l at h)))
    ]) refl

-- ---- children

under : (o : Option (List ℕ)) (other : List ℕ) → list_any (bytes_eq other) (option_to_list o) ≡ false → option_map_or (λ front. bytes_eq front other) o false ≡ false
under None other h = refl
under (Some front) other h =
    (elim (bytes_eq front other) as (λ b. bytes_eq front other ≡ b → b ≡ false) [
      | true ↦ (λ e. let same : front ≡ other = bytes_same front other e in let t : bytes_eq other front ≡ true = rw same (bytes_self other) in let f : bytes_eq other front ≡ false = other_half (bytes_eq other front) h in absurd (cc))
      | false ↦ (λ e. refl)
    ]) refl
  where
    other_half : (b : Bool) → (b || false) ≡ false → b ≡ false
    other_half true h = h
    other_half false h = refl

first_half : (a b : Bool) → (a || b) ≡ false → a ≡ false
first_half true b h = h
first_half false b h = refl

rest_half : (a b : Bool) → (a || b) ≡ false → b ≡ false
rest_half true b h = absurd (cc)
rest_half false b h = h

-- a name that isn't touched with its parent has no child there
no_child : (name other : List ℕ) → list_any (bytes_eq other) (with_parent name) ≡ false → is_child name other ≡ false
no_child name other h = under (parent_of name) other (rest_half (bytes_eq other name) (list_any (bytes_eq other) (option_to_list (parent_of name))) h)

names_apart : (name other : List ℕ) → bytes_eq other name ≡ false → other ≢ name
names_apart name other h e = let t : bytes_eq other name ≡ true = rw e (bytes_self name) in absurd (cc)

-- ---- views

same_listing : (old new : Nodes) (name : List ℕ) (kind : Kind) → children new name ≡ children old name → listing new name kind ≡ listing old name kind
same_listing old new name File h = refl
same_listing old new name Directory h = h

shown : (old new : Nodes) (name : List ℕ) (o : Option Node) → children new name ≡ children old name → option_map (view_of new name) o ≡ option_map (view_of old name) o
shown old new name None h = refl
shown old new name (Some node) h = ap (λ names. Some (record { node = node; children = names })) (same_listing old new name node.kind h)

-- the same node and the same children are the same view
pub same_view : (old new : Nodes) (name : List ℕ) → get_node new name ≡ get_node old name → children new name ≡ children old name → view_at new name ≡ view_at old name
same_view old new name node h = ap (option_map (view_of new name)) node ∙ shown old new name (get_node old name) h

abbrev by_presence : List ℕ → Option Node → List (List ℕ)
by_presence name o = cond (is_none o) (with_parent name) (name ∷ [])

-- whether it comes or is there, the name itself is touched
touches_itself : (name other : List ℕ) (o : Option Node) → list_any (bytes_eq other) (by_presence name o) ≡ false → bytes_eq other name ≡ false
touches_itself name other None h = first_half (bytes_eq other name) (list_any (bytes_eq other) (option_to_list (parent_of name))) h
touches_itself name other (Some node) h = first_half (bytes_eq other name) false h

put_children : (nodes : Nodes) (name other : List ℕ) (node : Node) (o : Option Node) → IsStrictlySortedBy (slice_cmp nat_cmp) (keys_of nodes) → get_node nodes name ≡ o → list_any (bytes_eq other) (by_presence name o) ≡ false
    → children (changed nodes (Put name node)) other ≡ children nodes other
put_children nodes name other node None s here h = ap (map last_of) (kept_insert (λ child. is_child child other) nodes name node (no_child name other h))
put_children nodes name other node (Some old) s here h = ap (λ ks. map last_of (filter (λ child. is_child child other) ks)) (same_keys nodes name node old s here)

pub put_stays : (nodes : Nodes) (name other : List ℕ) (node : Node) → HasNamesInOrder nodes → list_any (bytes_eq other) (touched nodes (Put name node)) ≡ false → view_at (changed nodes (Put name node)) other ≡ view_at nodes other
put_stays nodes name other node order h =
    let away = names_apart name other (touches_itself name other (get_node nodes name) h) in
    let here : get_node (changed nodes (Put name node)) other ≡ get_node nodes other = rw (put_view nodes name other node, apart other name away) refl in
    same_view nodes (changed nodes (Put name node)) other here (put_children nodes name other node (get_node nodes name) order.in_order refl h)

pub gone_stays : (nodes : Nodes) (name other : List ℕ) → HasNamesInOrder nodes → list_any (bytes_eq other) (touched nodes (Gone name)) ≡ false → view_at (changed nodes (Gone name)) other ≡ view_at nodes other
gone_stays nodes name other order h =
    let away = names_apart name other (first_half (bytes_eq other name) (list_any (bytes_eq other) (option_to_list (parent_of name))) h) in
    let here : get_node (changed nodes (Gone name)) other ≡ get_node nodes other = rw (gone_view nodes name other order, apart name other (λ e. away (sym e))) refl in
    same_view nodes (changed nodes (Gone name)) other here (ap (map last_of) (kept_remove (λ child. is_child child other) nodes name (no_child name other h)))

pub untouched_stays : (nodes : Nodes) (change : Mod) (other : List ℕ) → HasNamesInOrder nodes → list_any (bytes_eq other) (touched nodes change) ≡ false → view_at (changed nodes change) other ≡ view_at nodes other
untouched_stays nodes (Put name node) other order h = put_stays nodes name other node order h
untouched_stays nodes (Gone name) other order h = gone_stays nodes name other order h

pub untouched_views_stay : UntouchedViewsStay
untouched_views_stay nodes new change other order h untouched = rw (after_is nodes new change h) (untouched_stays nodes change other order untouched)

-- a name is no child of its own
own_child : (name : List ℕ) → is_name name ≡ true → is_child name name ≡ false
own_child name named =
    (elim (is_child name name) as (λ b. is_child name name ≡ b → b ≡ false) [
      | true ↦ (λ e. let c = child_form name name named e in absurd (longer name (c.byte ∷ c.more) c.joined))
      | false ↦ (λ e. refl)
    ]) refl
  where
    longer : (name rest : List ℕ) → name ≡ name ++ 47 ∷ rest → ⊥
    longer name rest e = let l = ap length e ∙ length-append name (47 ∷ rest) in omega arith

pub put_shows_its_view : PutShowsItsView
put_shows_its_view nodes new name node order named h =
    let there : get_node (changed nodes (Put name node)) name ≡ Some node = rw (put_view nodes name name node, itself name) refl in
    let below : children (changed nodes (Put name node)) name ≡ children nodes name = ap (map last_of) (kept_insert (λ child. is_child child name) nodes name node (own_child name named)) in
    rw (after_is nodes new (Put name node) h) (ap (option_map (view_of (changed nodes (Put name node)) name)) there ∙ shown nodes (changed nodes (Put name node)) name (Some node) below)
