-- The children of directories, gathered from the nodes.
use Rattle.std.proofs.Common.{◌≡◌, ◌↔◌, ℕ, Bool, true, false, List, [], ◌∷◌, ◌++◌, Option, Some, None, Less, Greater, refl, sym, ap, ap₂, ◌∙◌, subst, append_assoc, IsTrue, true≢false}
use Rattle.std.specs.Prelude.{◌&&◌, nat_eq}
use Rattle.std.specs.List.{AllByRecursion}
use Rattle.std.specs.List.Sorted.{IsStrictlySortedBy}
use Rattle.std.specs.Map.{keys_of}
use Rattle.std.specs.Ordering.{ordering_reverse, nat_cmp}
use Rattle.std.specs.BTreeMap.{insert_entry}
use Rattle.std.specs.Cmp.Lexicographic.{slice_cmp, nat_list_cmp_total, pointwise, pointwise_decides, bytes_decides}
use Rattle.std.specs.Prelude.{Decides}
use Rattle.std.proofs.lemmas.Bool.{and_parts, and_from}
use Rattle.names_cell.specs.Text.{parent_of}
use Rattle.rows_cell.specs.declared.tables.StoredNode.{StoredNode}
use Rattle.rows_cell.specs.Rows.{StoredNodes}
use Rattle.rows_sql.specs.Children.{Parents, children_of, with_child, put_under}

behind : (x y : List ℕ) → slice_cmp nat_cmp x y ≡ Less → slice_cmp nat_cmp y x ≡ Greater
behind x y h = nat_list_cmp_total.antisymm y x ∙ ap ordering_reverse h

before_all : (x : List ℕ) (front : StoredNodes) (k : List ℕ) (v : StoredNode) (rest : StoredNodes) → AllByRecursion (λ z. slice_cmp nat_cmp x z ≡ Less) (keys_of (front ++ (k, v) ∷ rest)) → slice_cmp nat_cmp x k ≡ Less
before_all x [] k v rest h = h.0
before_all x (e ∷ front) k v rest h = before_all x front k v rest h.1

-- the names of the front lie below one that comes behind it
front_below : (front : StoredNodes) (k : List ℕ) (v : StoredNode) (rest : StoredNodes) → IsStrictlySortedBy (slice_cmp nat_cmp) (keys_of (front ++ (k, v) ∷ rest)) → AllByRecursion (λ z. slice_cmp nat_cmp z k ≡ Less) (keys_of front)
unfolding IsStrictlySortedBy
front_below [] k v rest h = tt
front_below (e ∷ front) k v rest h = (before_all e.0 front k v rest h.0, front_below front k v rest h.1)

with_below : (P : List ℕ → Type 0) (name : List ℕ) (parent : Option (List ℕ)) (rest : Parents) → P name → AllByRecursion P (keys_of rest) → AllByRecursion P (keys_of (with_child name parent rest))
with_below P name None rest one all = all
with_below P name (Some parent) rest one all = (one, all)

-- so do those of its children
pub children_all : (P : List ℕ → Type 0) (nodes : StoredNodes) → AllByRecursion P (keys_of nodes) → AllByRecursion P (keys_of (children_of nodes))
children_all P [] all = tt
children_all P (e ∷ es) all = with_below P e.0 (parent_of e.0) (children_of es) all.0 (children_all P es all.1)

pub put_behind : (es : Parents) (k v : List ℕ) → AllByRecursion (λ z. slice_cmp nat_cmp z k ≡ Less) (keys_of es) → insert_entry (slice_cmp nat_cmp) es k v ≡ es ++ (k, v) ∷ []
put_behind [] k v all = refl
put_behind (e ∷ es) k v all = rw (behind e.0 k all.0) (ap (λ xs. e ∷ xs) (put_behind es k v all.1))

with_push : (name : List ℕ) (parent : Option (List ℕ)) (rest last : Parents) → with_child name parent (rest ++ last) ≡ with_child name parent rest ++ last
with_push name None rest last = refl
with_push name (Some parent) rest last = refl

children_push : (front : StoredNodes) (k : List ℕ) (v : StoredNode) → children_of (front ++ (k, v) ∷ []) ≡ children_of front ++ with_child k (parent_of k) []
children_push [] k v = refl
children_push (e ∷ front) k v = ap (with_child e.0 (parent_of e.0)) (children_push front k v) ∙ with_push e.0 (parent_of e.0) (children_of front) (with_child k (parent_of k) [])

no_more : (es : Parents) → es ++ [] ≡ es
no_more [] = refl
no_more (e ∷ es) = ap (λ xs. e ∷ xs) (no_more es)

put_last : (es : Parents) (k : List ℕ) (parent : Option (List ℕ)) → AllByRecursion (λ z. slice_cmp nat_cmp z k ≡ Less) (keys_of es) → put_under k parent es ≡ es ++ with_child k parent []
put_last es k None all = sym (no_more es)
put_last es k (Some parent) all = put_behind es k parent all

-- what was gathered, and what is left
abbrev pub IsGathered : StoredNodes → StoredNodes → Parents → Type 0
IsGathered nodes left children = (front : StoredNodes) × (front ++ left ≡ nodes) × (children ≡ children_of front)

-- one more
pub gathered_more : (nodes left next : StoredNodes) (old new : Parents) (k : List ℕ) (v : StoredNode) → IsStrictlySortedBy (slice_cmp nat_cmp) (keys_of nodes) → IsGathered nodes left old → left ≡ (k, v) ∷ next → new ≡ put_under k (parent_of k) old → IsGathered nodes next new
gathered_more nodes left next old new k v sorted put l e =
    let whole : put.0 ++ (k, v) ∷ next ≡ nodes = ap (λ r. put.0 ++ r) (sym l) ∙ put.1 in
    let P : StoredNodes → Type 0 = λ all. IsStrictlySortedBy (slice_cmp nat_cmp) (keys_of all) in
    let below = children_all (λ z. slice_cmp nat_cmp z k ≡ Less) put.0 (front_below put.0 k v next (subst P (sym whole) sorted)) in
    let last = put_last (children_of put.0) k (parent_of k) below in
    (put.0 ++ (k, v) ∷ [], append_assoc put.0 ((k, v) ∷ []) next ∙ whole, e ∙ ap (put_under k (parent_of k)) put.2 ∙ last ∙ sym (children_push put.0 k v))

-- ---- two tables of names are the same

pair_decides : (p q : List ℕ × List ℕ) → Decides (pointwise nat_eq p.0 q.0 && pointwise nat_eq p.1 q.1) (p ≡ q)
pair_decides p q = (
  λ h. let t = and_parts _ _ h in let a = (bytes_decides p.0 q.0).0 t.0 in let b = (bytes_decides p.1 q.1).0 t.1 in λ i. (a i, b i),
  λ e. and_from _ _ ((bytes_decides p.0 q.0).1 (ap (λ (x : List ℕ × List ℕ). x.0) e)) ((bytes_decides p.1 q.1).1 (ap (λ (x : List ℕ × List ℕ). x.1) e)),
)

pub same_parents : (b : Bool) (xs ys : Parents) → b ≡ pointwise (λ p q. pointwise nat_eq p.0 q.0 && pointwise nat_eq p.1 q.1) xs ys → IsTrue b ↔ (xs ≡ ys)
same_parents b xs ys is =
    let d = pointwise_decides pair_decides xs ys in
    (λ t. d.0 (sym is ∙ t), λ e. is ∙ d.1 e)
