-- The ephemeral nodes, by their names.
use Rattle.std.proofs.Common.{◌≡◌, ℕ, Result, Ok, Err, List, [], ◌∷◌, Bool, ◌⊎◌, inl, inr, ⊎_elim, true, false, cond, Option, Some, None, refl, sym, ap, subst, ◌∙◌}
use Rattle.std.specs.Prelude.{is_some, OnOk, OnErr}
use Rattle.std.specs.Ordering.{is_eq, nat_cmp}
use Rattle.std.specs.Cmp.{tied_itself}
use Rattle.std.specs.Cmp.Lexicographic.{slice_cmp, nat_list_cmp_total}
use Rattle.std.specs.List.Sorted.{IsStrictlySortedBy}
use Rattle.std.specs.Map.{keys_of, lookup, remove_entry, set_value}
use Rattle.std.specs.BTreeMap.{is_at, insert_entry}
use Rattle.std.proofs.lemmas.Map.Lookups.{exact_bytes}
use Rattle.collections.specs.Tables.{with_former}
use Rattle.collections.proofs.Entries.{eq_at, lookup_put}
use Rattle.rows_cell.proofs.SortedLookups.{lookup_gone}
use Rattle.node_core.specs.declared.nodes.Node.{Node}
use Rattle.node_core.specs.Nodes.{Nodes, get_node}
use Rattle.master_parts.specs.EphemeralNames.{is_ephemeral, NameTable, is_named, AreNamed, IsNamed, with_name, with_former_name}

abbrev pub At : List ℕ → List ℕ → Bool
At q = is_at (slice_cmp nat_cmp q)

abbrev IsEphemeral : Node → Type 0
IsEphemeral node = is_ephemeral node.life ≡ true

pub same_name : (q k : List ℕ) → At q k ≡ true → q ≡ k
same_name q k h = exact_bytes q k (eq_at (slice_cmp nat_cmp q k) h)

-- ---- a name more

put_name : (names : NameTable) (name q : List ℕ) → is_named (insert_entry (slice_cmp nat_cmp) names name tt) q ≡ is_some (cond (At q name) (Some tt) (lookup (At q) names))
put_name names name q = ap is_some (lookup_put (slice_cmp nat_cmp) exact_bytes (tied_itself nat_list_cmp_total) names name tt q)

name_put : (names : NameTable) (name : List ℕ) → is_named (insert_entry (slice_cmp nat_cmp) names name tt) name ≡ true
name_put names name = put_name names name name ∙ rw (tied_itself nat_list_cmp_total name) refl

pub named_more : (names : NameTable) (name : List ℕ) (node : Node) (q : List ℕ) → is_named names q ≡ true → is_named (with_name names name node) q ≡ true
named_more names name node q h =
    elim (is_ephemeral node.life) as (λ b. is_named (cond b (insert_entry (slice_cmp nat_cmp) names name tt) names) q ≡ true) [
      | true ↦ put_name names name q ∙ elim (At q name) as (λ b. is_some (cond b (Some tt) (lookup (At q) names)) ≡ true) [ true ↦ refl | false ↦ h ]
      | false ↦ h
    ]

pub named_own : (names : NameTable) (name : List ℕ) (node : Node) → IsEphemeral node → is_named (with_name names name node) name ≡ true
named_own names name node h = rw h (name_put names name)

-- ---- a node is set

named_put : (nodes : Nodes) (names : NameTable) (name : List ℕ) (node : Node) → AreNamed nodes names → AreNamed (insert_entry (slice_cmp nat_cmp) nodes name node) (with_name names name node)
named_put nodes names name node named = λ q w h is.
    (elim (At q name) as (λ b. At q name ≡ b → cond b (Some node) (lookup (At q) nodes) ≡ Some w → is_named (with_name names name node) q ≡ true) [
      | true ↦ (λ c k.
          let value : node ≡ w = cc in
          let P : List ℕ → Type 0 = λ x. is_named (with_name names name node) x ≡ true in
          subst P (sym (same_name q name c)) (named_own names name node (ap (λ v. is_ephemeral v.life) value ∙ is)))
      | false ↦ (λ c k. named_more names name node q (named q w k is))
    ]) refl (sym (lookup_put (slice_cmp nat_cmp) exact_bytes (tied_itself nat_list_cmp_total) nodes name node q) ∙ h)

pub named_after : {X E : Type 0} (result : Result X E) (nodes after : Nodes) (names more : NameTable) (name : List ℕ) (node : Node) → more ≡ with_name names name node → OnOk result (after ≡ insert_entry (slice_cmp nat_cmp) nodes name node) → OnErr result (after ≡ nodes) → AreNamed nodes names → AreNamed after more
named_after (Ok x) nodes after names more name node m ok err named =
    let P : Nodes → Type 0 = λ l. AreNamed l more in
    let Q : NameTable → Type 0 = λ l. AreNamed (insert_entry (slice_cmp nat_cmp) nodes name node) l in
    subst P (sym ok) (subst Q (sym m) (named_put nodes names name node named))
named_after (Err e) nodes after names more name node m ok err named =
    let P : Nodes → Type 0 = λ l. AreNamed l more in
    let Q : NameTable → Type 0 = λ l. AreNamed nodes l in
    let more_names : AreNamed nodes (with_name names name node) = λ q w h is. named_more names name node q (named q w h is) in
    subst P (sym err) (subst Q (sym m) more_names)

-- also where it isn't set
pub named_still : (nodes : Nodes) (names more : NameTable) (name : List ℕ) (node : Node) → more ≡ with_name names name node → AreNamed nodes names → AreNamed nodes more
named_still nodes names more name node m named = λ q w h is. ap (λ ns. is_named ns q) m ∙ named_more names name node q (named q w h is)

-- ---- a node goes

named_gone : (nodes : Nodes) (names : NameTable) (name : List ℕ) → IsStrictlySortedBy (slice_cmp nat_cmp) (keys_of nodes) → IsStrictlySortedBy (slice_cmp nat_cmp) (keys_of names) → AreNamed nodes names → AreNamed (remove_entry (At name) nodes) (remove_entry (At name) names)
named_gone nodes names name sorted in_order named = λ q w h is.
    ap is_some (lookup_gone (slice_cmp nat_cmp) nat_list_cmp_total exact_bytes names name q in_order) ∙
    (elim (At q name) as (λ b. cond b None (lookup (At q) nodes) ≡ Some w → is_some (cond b None (lookup (At q) names)) ≡ true) [
      | true ↦ (λ k. absurd (cc))
      | false ↦ (λ k. named q w k is)
    ]) (sym (lookup_gone (slice_cmp nat_cmp) nat_list_cmp_total exact_bytes nodes name q sorted) ∙ h)

pub named_without : (nodes after : Nodes) (names left : NameTable) (name : List ℕ) → after ≡ remove_entry (At name) nodes → left ≡ remove_entry (At name) names → IsStrictlySortedBy (slice_cmp nat_cmp) (keys_of nodes) → IsStrictlySortedBy (slice_cmp nat_cmp) (keys_of names) → AreNamed nodes names → AreNamed after left
named_without nodes after names left name a b sorted in_order named =
    let P : Nodes → Type 0 = λ l. AreNamed l left in
    let Q : NameTable → Type 0 = λ l. AreNamed (remove_entry (At name) nodes) l in
    subst P (sym a) (subst Q (sym b) (named_gone nodes names name sorted in_order named))

-- ---- a node is set again

-- what is found once the value of a key was set
pub found_set : (nodes : Nodes) (name : List ℕ) (node w : Node) (q : List ℕ) → lookup (At q) (set_value (At name) nodes node) ≡ Some w → (lookup (At q) nodes ≡ Some w) ⊎ ((q ≡ name) × (node ≡ w))
found_set [] name node w q h = inl h
found_set (e ∷ es) name node w q h =
    (elim (At name e.0) as (λ b. At name e.0 ≡ b → lookup (At q) (cond b ((e.0, node) ∷ es) (e ∷ set_value (At name) es node)) ≡ Some w → (lookup (At q) (e ∷ es) ≡ Some w) ⊎ ((q ≡ name) × (node ≡ w))) [
      | true ↦ (λ c k.
          (elim (At q e.0) as (λ b. At q e.0 ≡ b → cond b (Some node) (lookup (At q) es) ≡ Some w → (cond b (Some e.1) (lookup (At q) es) ≡ Some w) ⊎ ((q ≡ name) × (node ≡ w))) [
            | true ↦ (λ d l. let is : node ≡ w = cc in inr (same_name q e.0 d ∙ sym (same_name name e.0 c), is))
            | false ↦ (λ d l. inl l)
          ]) refl k)
      | false ↦ (λ c k.
          (elim (At q e.0) as (λ b. At q e.0 ≡ b → cond b (Some e.1) (lookup (At q) (set_value (At name) es node)) ≡ Some w → (cond b (Some e.1) (lookup (At q) es) ≡ Some w) ⊎ ((q ≡ name) × (node ≡ w))) [
            | true ↦ (λ d l. inl l)
            | false ↦ (λ d l. found_set es name node w q l)
          ]) refl k)
    ]) refl h

-- and at that key its value is the one that was set
set_there : (nodes : Nodes) (name : List ℕ) (node w : Node) (q : List ℕ) → At q name ≡ true → lookup (At q) (set_value (At name) nodes node) ≡ Some w → node ≡ w
set_there [] name node w q same h = absurd (cc)
set_there (e ∷ es) name node w q same h =
    let is : q ≡ name = same_name q name same in
    (elim (At name e.0) as (λ b. At name e.0 ≡ b → lookup (At q) (cond b ((e.0, node) ∷ es) (e ∷ set_value (At name) es node)) ≡ Some w → node ≡ w) [
      | true ↦ (λ c k.
          let P : List ℕ → Type 0 = λ x. At x e.0 ≡ true in
          let here : At q e.0 ≡ true = subst P (sym is) c in
          let t : lookup (At q) ((e.0, node) ∷ es) ≡ Some node = rw here refl in
          cc)
      | false ↦ (λ c k.
          let P : List ℕ → Type 0 = λ x. At x e.0 ≡ false in
          let apart : At q e.0 ≡ false = subst P (sym is) c in
          let t : lookup (At q) (e ∷ set_value (At name) es node) ≡ lookup (At q) (set_value (At name) es node) = rw apart refl in
          set_there es name node w q same (sym t ∙ k))
    ]) refl h

-- a node that was ephemeral stands again
named_set : (nodes : Nodes) (names : NameTable) (name : List ℕ) (node : Node) → IsNamed names name (Some node) → AreNamed nodes names → AreNamed (set_value (At name) nodes node) names
named_set nodes names name node own named = λ q w h is.
    ⊎_elim (λ l. named q w l is)
    (λ r.
    let P : List ℕ → Type 0 = λ x. is_named names x ≡ true in
    subst P (sym r.0) (own w (ap (λ x. Some x) r.1) is))
    (found_set nodes name node w q h)

-- a permanent one
named_unneeded : (nodes : Nodes) (names : NameTable) (name : List ℕ) (node : Node) → IsStrictlySortedBy (slice_cmp nat_cmp) (keys_of names) → is_ephemeral node.life ≡ false → AreNamed nodes names → AreNamed (set_value (At name) nodes node) (remove_entry (At name) names)
named_unneeded nodes names name node in_order permanent named = λ q w h is.
    ap is_some (lookup_gone (slice_cmp nat_cmp) nat_list_cmp_total exact_bytes names name q in_order) ∙
    ((elim (At q name) as (λ b. At q name ≡ b → is_some (cond b None (lookup (At q) names)) ≡ true) [
      | true ↦ (λ c.
          let e : is_ephemeral node.life ≡ is_ephemeral w.life = ap (λ v. is_ephemeral v.life) (set_there nodes name node w q c h) in
          absurd (cc))
      | false ↦ (λ c.
          ⊎_elim (λ l. named q w l is)
          (λ r.
          let P : List ℕ → Type 0 = λ x. At x name ≡ false in
          let t : At name name ≡ false = subst P r.0 c in
          let u : At name name ≡ true = ap is_eq (tied_itself nat_list_cmp_total name) in
          absurd (cc))
          (found_set nodes name node w q h))
    ]) refl)

named_restored : (nodes : Nodes) (names : NameTable) (name : List ℕ) (former : Option Node) → IsStrictlySortedBy (slice_cmp nat_cmp) (keys_of nodes) → IsStrictlySortedBy (slice_cmp nat_cmp) (keys_of names) → IsNamed (with_former_name names name former) name former → AreNamed nodes names → AreNamed (with_former (slice_cmp nat_cmp) nodes name former) (with_former_name names name former)
named_restored nodes names name None sorted in_order own named = named_gone nodes names name sorted in_order named
named_restored nodes names name (Some node) sorted in_order own named =
    (elim (is_ephemeral node.life) as (λ b. is_ephemeral node.life ≡ b → IsNamed (cond b names (remove_entry (At name) names)) name (Some node) → AreNamed (set_value (At name) nodes node) (cond b names (remove_entry (At name) names))) [
      | true ↦ (λ c k. named_set nodes names name node k named)
      | false ↦ (λ c k. named_unneeded nodes names name node in_order c named)
    ]) refl own

pub named_again : (nodes same after : Nodes) (names left there : NameTable) (name : List ℕ) (former : Option Node) → same ≡ nodes → left ≡ with_former_name names name former → there ≡ left → after ≡ with_former (slice_cmp nat_cmp) same name former → IsStrictlySortedBy (slice_cmp nat_cmp) (keys_of nodes) → IsStrictlySortedBy (slice_cmp nat_cmp) (keys_of names) → IsNamed left name former → AreNamed nodes names → AreNamed after there
named_again nodes same after names left there name former e l f g sorted in_order own named =
    let P : Nodes → Type 0 = λ ns. AreNamed ns there in
    let Q : NameTable → Type 0 = λ ns. AreNamed (with_former (slice_cmp nat_cmp) nodes name former) ns in
    let R : NameTable → Type 0 = λ ns. IsNamed ns name former in
    subst P (sym (g ∙ ap (λ ns. with_former (slice_cmp nat_cmp) ns name former) e)) (subst Q (sym (f ∙ l)) (named_restored nodes names name former sorted in_order (subst R l own) named))

-- ---- names are collected

-- `left` of `all` are still to be looked at
abbrev pub AreCollected : Nodes → Nodes → NameTable → Type 0
AreCollected all left names = (name : List ℕ) (node : Node) → get_node all name ≡ Some node → IsEphemeral node → (is_named names name ≡ true) ⊎ (get_node left name ≡ Some node)

pub collect_first : (all left : Nodes) (names : NameTable) → left ≡ all → AreCollected all left names
collect_first all left names e = λ q w h is. inr (ap (lookup (At q)) e ∙ h)

pub collect_more : (all left rest : Nodes) (name : List ℕ) (node : Node) (names more : NameTable) → left ≡ (name, node) ∷ rest → more ≡ with_name names name node → AreCollected all left names → AreCollected all rest more
collect_more all left rest name node names more step put c = λ q w h is.
    ⊎_elim (λ l. inl (ap (λ ns. is_named ns q) put ∙ named_more names name node q l))
    (λ r.
    (elim (At q name) as (λ b. At q name ≡ b → cond b (Some node) (lookup (At q) rest) ≡ Some w → (is_named more q ≡ true) ⊎ (lookup (At q) rest ≡ Some w)) [
      | true ↦ (λ d k.
          let value : node ≡ w = cc in
          let P : List ℕ → Type 0 = λ x. is_named (with_name names name node) x ≡ true in
          inl (ap (λ ns. is_named ns q) put ∙ subst P (sym (same_name q name d)) (named_own names name node (ap (λ v. is_ephemeral v.life) value ∙ is))))
      | false ↦ (λ d k. inr k)
    ]) refl (ap (lookup (At q)) (sym step) ∙ r))
    (c q w h is)

pub collect_last : (all left : Nodes) (names : NameTable) → left ≡ [] → AreCollected all left names → AreNamed all names
collect_last all left names none c = λ q w h is.
    ⊎_elim (λ l. l) (λ r. let n : lookup (At q) left ≡ None = ap (lookup (At q)) none in absurd (cc)) (c q w h is)
