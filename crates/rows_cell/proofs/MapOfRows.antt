-- Entries that are put in their order stand as they came.
use Rattle.std.proofs.Common.{◌≡◌, ℕ, List, [], ◌∷◌, ◌++◌, Less, Greater, refl, sym, ap, subst, append_assoc, ◌∙◌}
use Rattle.std.specs.List.{AllByRecursion}
use Rattle.std.specs.List.Sorted.{IsStrictlySortedBy}
use Rattle.std.specs.Map.{keys_of}
use Rattle.std.specs.Ordering.{ordering_reverse, nat_cmp}
use Rattle.std.specs.BTreeMap.{insert_entry}
use Rattle.std.specs.Cmp.Lexicographic.{slice_cmp, nat_list_cmp_total}
use Rattle.node_core.specs.declared.nodes.Node.{Node}
use Rattle.node_core.specs.Nodes.{Nodes}
use Rattle.rows_cell.specs.declared.tables.StoredNode.{StoredNode}
use Rattle.rows_cell.specs.Rows.{StoredNodes, nodes_of}

behind : (x y : List ℕ) → slice_cmp nat_cmp x y ≡ Less → slice_cmp nat_cmp y x ≡ Greater
behind x y h = nat_list_cmp_total.antisymm y x ∙ ap ordering_reverse h

before_all : (x : List ℕ) (front : StoredNodes) (k : List ℕ) (v : StoredNode) (rest : StoredNodes) → AllByRecursion (λ z. slice_cmp nat_cmp x z ≡ Less) (keys_of (front ++ (k, v) ∷ rest)) → slice_cmp nat_cmp x k ≡ Less
before_all x [] k v rest h = h.0
before_all x (e ∷ front) k v rest h = before_all x front k v rest h.1

-- the next entry in order goes to the end
pub put_last : (front : StoredNodes) (k : List ℕ) (v : StoredNode) (rest : StoredNodes) → IsStrictlySortedBy (slice_cmp nat_cmp) (keys_of (front ++ (k, v) ∷ rest)) → insert_entry (slice_cmp nat_cmp) (nodes_of front) k v.node ≡ nodes_of front ++ (k, v.node) ∷ []
unfolding IsStrictlySortedBy
put_last [] k v rest h = refl
put_last (e ∷ front) k v rest h =
    rw (behind e.0 k (before_all e.0 front k v rest h.0)) (ap (λ es. (e.0, e.1.node) ∷ es) (put_last front k v rest h.1))

nodes_push : (front : StoredNodes) (k : List ℕ) (v : StoredNode) → nodes_of (front ++ (k, v) ∷ []) ≡ nodes_of front ++ (k, v.node) ∷ []
nodes_push [] k v = refl
nodes_push (e ∷ front) k v = ap (λ es. (e.0, e.1.node) ∷ es) (nodes_push front k v)

-- what was put, and what is left
abbrev pub IsPut : StoredNodes → StoredNodes → Nodes → Type 0
IsPut nodes left put = (front : StoredNodes) × (front ++ left ≡ nodes) × (put ≡ nodes_of front)

-- one more
pub one_more : (nodes left next : StoredNodes) (old new : Nodes) (k : List ℕ) (v : StoredNode) (name : List ℕ) (node : Node) → IsStrictlySortedBy (slice_cmp nat_cmp) (keys_of nodes) → IsPut nodes left old → left ≡ (k, v) ∷ next → name ≡ k → node ≡ v.node → new ≡ insert_entry (slice_cmp nat_cmp) old name node → IsPut nodes next new
one_more nodes left next old new k v name node sorted put l n w e =
    let whole : put.0 ++ (k, v) ∷ next ≡ nodes = ap (λ r. put.0 ++ r) (sym l) ∙ put.1 in
    let P : StoredNodes → Type 0 = λ all. IsStrictlySortedBy (slice_cmp nat_cmp) (keys_of all) in
    let last = put_last put.0 k v next (subst P (sym whole) sorted) in
    (put.0 ++ (k, v) ∷ [], append_assoc put.0 ((k, v) ∷ []) next ∙ whole, e ∙ rw (n, w, put.2) (last ∙ sym (nodes_push put.0 k v)))
