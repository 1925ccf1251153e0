-- The names of the nodes, by their instances.
use Rattle.std.proofs.Common.{◌≡◌, ◌≢◌, ℕ, Result, Ok, Err, List, [], ◌∷◌, Bool, ◌⊎◌, inl, inr, ⊎_elim, true, false, cond, Option, Some, None, refl, sym, ap, subst, ◌∙◌, arith}
use Rattle.std.specs.Prelude.{◌==◌, OnOk, OnErr, find}
use Rattle.std.specs.Option.{option_map, option_map_or}
use Rattle.std.specs.List.{list_any}
use Rattle.std.specs.Ordering.{is_eq, nat_cmp}
use Rattle.std.specs.Cmp.{tied_itself, nat_cmp_total}
use Rattle.std.specs.Cmp.Lexicographic.{slice_cmp, nat_list_cmp_total}
use Rattle.std.specs.List.Sorted.{IsStrictlySortedBy}
use Rattle.std.specs.Map.{keys_of, lookup, remove_entry, set_value}
use Rattle.std.specs.BTreeMap.{is_at, insert_entry}
use Rattle.std.proofs.lemmas.Bool.{eqb-true}
use Rattle.std.proofs.lemmas.Map.Lookups.{exact_bytes, exact_unsigned}
use Rattle.collections.specs.Tables.{with_former}
use Rattle.collections.proofs.Entries.{lookup_put}
use Rattle.collections.proofs.Keys.{at_itself, same_key}
use Rattle.collections.proofs.OneKey.{lookup_put_apart, lookup_removed_apart}
use Rattle.rows_cell.proofs.SortedLookups.{lookup_gone}
use Rattle.rows_cell.proofs.SoundGenerations.{any_found}
use Rattle.node_core.specs.declared.nodes.Node.{Node}
use Rattle.node_core.specs.Nodes.{Nodes, get_node}
use Rattle.master_parts.specs.NameIndex.{name_of, stands_at, IndexEntries, indexed_name, AreIndexed, StayIndexed, IsIndexed, unindexed, with_former_index}
use Rattle.master_parts.proofs.FirstEntries.{own_entries, all_of_found, found_of_any}
use Rattle.master_parts.proofs.NamedNodes.{At, same_name, found_set}

-- ---- a node stands at its name

stands_own : (o : Option Node) (w : Node) → o ≡ Some w → option_map_or (λ (node : Node). node.instance == w.instance) o false ≡ true
stands_own None w h = absurd cc
stands_own (Some v) w h = let same : v ≡ w = cc in rw same (grind arith)

stands_there : (nodes : Nodes) (name : List ℕ) (w : Node) → get_node nodes name ≡ Some w → stands_at nodes name w.instance ≡ true
stands_there nodes name w h = stands_own (get_node nodes name) w h

pub indexed_same : (nodes : Nodes) (entries more : IndexEntries) → StayIndexed nodes entries more → AreIndexed nodes entries → AreIndexed nodes more
indexed_same nodes entries more stay indexed = λ q w h. stay q w.instance (stands_there nodes q w h) (indexed q w h)

-- ---- a node is set

indexed_put : (nodes : Nodes) (entries more : IndexEntries) (name : List ℕ) (node : Node) → StayIndexed nodes entries more → indexed_name more node.instance ≡ Some name → AreIndexed nodes entries → AreIndexed (insert_entry (slice_cmp nat_cmp) nodes name node) more
indexed_put nodes entries more name node stay own indexed = λ q w h.
    (elim (At q name) as (λ b. At q name ≡ b → cond b (Some node) (lookup (At q) nodes) ≡ Some w → indexed_name more w.instance ≡ Some q) [
      | true ↦ (λ c k.
          let value : node ≡ w = cc in
          ap (λ (v : Node). indexed_name more v.instance) (sym value) ∙ own ∙ ap (λ x. Some x) (sym (same_name q name c)))
      | false ↦ (λ c k. indexed_same nodes entries more stay indexed q w k)
    ]) refl (sym (lookup_put (slice_cmp nat_cmp) exact_bytes (tied_itself nat_list_cmp_total) nodes name node q) ∙ h)

pub indexed_after : {X E : Type 0} (result : Result X E) (nodes after : Nodes) (entries more : IndexEntries) (name : List ℕ) (node : Node) → StayIndexed nodes entries more → indexed_name more node.instance ≡ Some name → OnOk result (after ≡ insert_entry (slice_cmp nat_cmp) nodes name node) → OnErr result (after ≡ nodes) → AreIndexed nodes entries → AreIndexed after more
indexed_after (Ok x) nodes after entries more name node stay own ok err indexed =
    let P : Nodes → Type 0 = λ l. AreIndexed l more in
    subst P (sym ok) (indexed_put nodes entries more name node stay own indexed)
indexed_after (Err e) nodes after entries more name node stay own ok err indexed =
    let P : Nodes → Type 0 = λ l. AreIndexed l more in
    subst P (sym err) (indexed_same nodes entries more stay indexed)

-- ---- a node goes

indexed_apart : (entries : IndexEntries) (name q : List ℕ) (there : Option Node) (w : Node) → IsIndexed entries name there → (q ≡ name → ⊥) → indexed_name entries w.instance ≡ Some q → indexed_name (unindexed entries there) w.instance ≡ Some q
indexed_apart entries name q None w own apart h = h
indexed_apart entries name q (Some node) w own apart h =
    let other : w.instance ≢ node.instance = λ e.
    let k : Some q ≡ Some name = sym h ∙ ap (indexed_name entries) e ∙ own node refl in
    apart cc in
    lookup_removed_apart node.instance w.instance other entries ∙ h

name_apart : (q name : List ℕ) → At q name ≡ false → q ≡ name → ⊥
name_apart q name c e =
    let P : List ℕ → Type 0 = λ x. At x name ≡ false in
    let t : At name name ≡ false = subst P e c in
    let u : At name name ≡ true = ap is_eq (tied_itself nat_list_cmp_total name) in
    absurd (cc)

indexed_gone : (nodes : Nodes) (entries : IndexEntries) (name : List ℕ) → IsStrictlySortedBy (slice_cmp nat_cmp) (keys_of nodes) → AreIndexed nodes entries → AreIndexed (remove_entry (At name) nodes) (unindexed entries (get_node nodes name))
indexed_gone nodes entries name sorted indexed = λ q w h.
    (elim (At q name) as (λ b. At q name ≡ b → cond b None (lookup (At q) nodes) ≡ Some w → indexed_name (unindexed entries (get_node nodes name)) w.instance ≡ Some q) [
      | true ↦ (λ c k. absurd (cc))
      | false ↦ (λ c k. indexed_apart entries name q (get_node nodes name) w (λ node e. indexed name node e) (name_apart q name c) (indexed q w k))
    ]) refl (sym (lookup_gone (slice_cmp nat_cmp) nat_list_cmp_total exact_bytes nodes name q sorted) ∙ h)

pub indexed_without : (nodes after : Nodes) (entries left : IndexEntries) (name : List ℕ) (former : Option Node) → after ≡ remove_entry (At name) nodes → former ≡ get_node nodes name → left ≡ unindexed entries former → IsStrictlySortedBy (slice_cmp nat_cmp) (keys_of nodes) → AreIndexed nodes entries → AreIndexed after left
indexed_without nodes after entries left name former a f l sorted indexed =
    let P : Nodes → Type 0 = λ ns. AreIndexed ns left in
    let Q : IndexEntries → Type 0 = λ ps. AreIndexed (remove_entry (At name) nodes) ps in
    subst P (sym a) (subst Q (sym (l ∙ ap (unindexed entries) f)) (indexed_gone nodes entries name sorted indexed))

-- ---- a node is set again

indexed_restored : (nodes : Nodes) (entries : IndexEntries) (name : List ℕ) (former : Option Node) → IsStrictlySortedBy (slice_cmp nat_cmp) (keys_of nodes) → IsIndexed (with_former_index entries (get_node nodes name) former) name former → AreIndexed nodes entries → AreIndexed (with_former (slice_cmp nat_cmp) nodes name former) (with_former_index entries (get_node nodes name) former)
indexed_restored nodes entries name None sorted own indexed = indexed_gone nodes entries name sorted indexed
indexed_restored nodes entries name (Some node) sorted own indexed = λ q w h.
    ⊎_elim (λ l. indexed q w l)
    (λ r. own w (ap (λ x. Some x) r.1) ∙ ap (λ x. Some x) (sym r.0))
    (found_set nodes name node w q h)

pub indexed_again : (nodes same after : Nodes) (entries kept there : IndexEntries) (name : List ℕ) (former : Option Node) → same ≡ nodes → kept ≡ entries → there ≡ with_former_index kept (get_node same name) former → after ≡ with_former (slice_cmp nat_cmp) same name former → IsStrictlySortedBy (slice_cmp nat_cmp) (keys_of nodes) → IsIndexed there name former → AreIndexed nodes entries → AreIndexed after there
indexed_again nodes same after entries kept there name former e k l g sorted own indexed =
    let here : there ≡ with_former_index entries (get_node nodes name) former =
    l ∙ ap (λ (ns : Nodes). with_former_index kept (get_node ns name) former) e ∙ ap (λ (ps : IndexEntries). with_former_index ps (get_node nodes name) former) k in
    let P : Nodes → Type 0 = λ ns. AreIndexed ns there in
    let Q : IndexEntries → Type 0 = λ ps. AreIndexed (with_former (slice_cmp nat_cmp) nodes name former) ps in
    let R : IndexEntries → Type 0 = λ ps. IsIndexed ps name former in
    subst P (sym (g ∙ ap (λ (ns : Nodes). with_former (slice_cmp nat_cmp) ns name former) e)) (subst Q (sym here) (indexed_restored nodes entries name former sorted (subst R here own) indexed))

-- ---- the nodes are gone through

-- `left` of `all` are still to be looked at
abbrev pub AreIndexedBefore : Nodes → Nodes → IndexEntries → Type 0
AreIndexedBefore all left entries = (name : List ℕ) (node : Node) → get_node all name ≡ Some node → (indexed_name entries node.instance ≡ Some name) ⊎ (get_node left name ≡ Some node)

pub index_first : (all left : Nodes) (entries : IndexEntries) → left ≡ all → AreIndexedBefore all left entries
index_first all left entries e = λ q w h. inr (ap (lookup (At q)) e ∙ h)

index_next : (rest : Nodes) (name : List ℕ) (node : Node) (more : IndexEntries) → indexed_name more node.instance ≡ Some name → (q : List ℕ) (w : Node) → lookup (At q) ((name, node) ∷ rest) ≡ Some w → (indexed_name more w.instance ≡ Some q) ⊎ (lookup (At q) rest ≡ Some w)
index_next rest name node more own q w h =
    (elim (At q name) as (λ b. At q name ≡ b → cond b (Some node) (lookup (At q) rest) ≡ Some w → (indexed_name more w.instance ≡ Some q) ⊎ (lookup (At q) rest ≡ Some w)) [
      | true ↦ (λ c k.
          let value : node ≡ w = cc in
          inl (ap (λ (v : Node). indexed_name more v.instance) (sym value) ∙ own ∙ ap (λ x. Some x) (sym (same_name q name c))))
      | false ↦ (λ c k. inr k)
    ]) refl h

pub index_more : (all left rest : Nodes) (name : List ℕ) (node : Node) (entries more : IndexEntries) → left ≡ (name, node) ∷ rest → StayIndexed all entries more → indexed_name more node.instance ≡ Some name → AreIndexedBefore all left entries → AreIndexedBefore all rest more
index_more all left rest name node entries more step stay own before = λ q w h.
    ⊎_elim (λ l. inl (stay q w.instance (stands_there all q w h) l)) (λ r. index_next rest name node more own q w (ap (lookup (At q)) (sym step) ∙ r)) (before q w h)

pub index_last : (all left : Nodes) (entries : IndexEntries) → left ≡ [] → AreIndexedBefore all left entries → AreIndexed all entries
index_last all left entries none before = λ q w h.
    ⊎_elim (λ l. l) (λ r. let n : lookup (At q) left ≡ None = ap (lookup (At q)) none in absurd (cc)) (before q w h)

-- ---- the node of an instance

-- what the walk finds first is noted
module _ (nodes : Nodes) (entries : IndexEntries) (instance : ℕ) (sorted : IsStrictlySortedBy (slice_cmp nat_cmp) (keys_of nodes)) (indexed : AreIndexed nodes entries) where
  abbrev of_instance : List ℕ × Node → Bool
  of_instance e = e.1.instance == instance

  first_is : (e : List ℕ × Node) → find of_instance nodes ≡ Some e → (get_node nodes e.0 ≡ Some e.1) × (e.1.instance ≡ instance) × (indexed_name entries instance ≡ Some e.0)
  first_is e h =
      let own = all_of_found (λ (d : List ℕ × Node). lookup (is_at (slice_cmp nat_cmp d.0)) nodes ≡ Some d.1) of_instance nodes e (own_entries (slice_cmp nat_cmp) nat_list_cmp_total nodes sorted) h in
      let is : e.1.instance ≡ instance = eqb-true e.1.instance instance own.1 in
      (own.0, is, ap (indexed_name entries) (sym is) ∙ indexed e.0 e.1 own.0)

  -- nothing is noted: there is none
  unindexed_none : (o : Option (List ℕ × Node)) → find of_instance nodes ≡ o → indexed_name entries instance ≡ None → option_map (λ (e : List ℕ × Node). e.0) o ≡ None
  unindexed_none None h none = refl
  unindexed_none (Some e) h none = let k = (first_is e h).2 in absurd (cc)

  pub none_indexed : indexed_name entries instance ≡ None → None ≡ name_of nodes instance
  none_indexed none = sym (unindexed_none (find of_instance nodes) refl none)

  pub indexed_stands : (name : List ℕ) → indexed_name entries instance ≡ Some name → stands_at nodes name instance ≡ true → Some name ≡ name_of nodes instance
  indexed_stands name noted stands = with_node (get_node nodes name) refl stands
    where
      with_node : (o : Option Node) → get_node nodes name ≡ o → option_map_or (λ (node : Node). node.instance == instance) o false ≡ true → Some name ≡ name_of nodes instance
      with_node None h s = absurd cc
      with_node (Some w) h s =
          let any : list_any of_instance nodes ≡ true = any_found (is_at (slice_cmp nat_cmp name)) (λ (v : Node). v.instance == instance) nodes w h s in
          let t = found_of_any of_instance nodes any in
          sym noted ∙ (first_is t.0 t.1).2 ∙ sym (ap (λ o. option_map (λ (e : List ℕ × Node). e.0) o) t.1)

  gone_none : (name : List ℕ) (o : Option (List ℕ × Node)) → find of_instance nodes ≡ o → indexed_name entries instance ≡ Some name → stands_at nodes name instance ≡ false → option_map (λ (e : List ℕ × Node). e.0) o ≡ None
  gone_none name None h noted stands = refl
  gone_none name (Some e) h noted stands =
      let t = first_is e h in
      let same : e.0 ≡ name = let k : Some e.0 ≡ Some name = sym t.2 ∙ noted in cc in
      let P : List ℕ → Type 0 = λ x. stands_at nodes x e.1.instance ≡ true in
      let s : stands_at nodes name e.1.instance ≡ true = subst P same (stands_there nodes e.0 e.1 t.0) in
      let u : stands_at nodes name instance ≡ true = ap (stands_at nodes name) (sym t.1) ∙ s in
      absurd (cc)

  pub indexed_gone_none : (name : List ℕ) → indexed_name entries instance ≡ Some name → stands_at nodes name instance ≡ false → None ≡ name_of nodes instance
  indexed_gone_none name noted stands = sym (gone_none name (find of_instance nodes) refl noted stands)

-- ---- a name is noted

pub noted_own : (entries more : IndexEntries) (instance : ℕ) (name : List ℕ) → more ≡ insert_entry nat_cmp entries instance name → indexed_name more instance ≡ Some name
noted_own entries more instance name put = ap (λ (ps : IndexEntries). indexed_name ps instance) put ∙ lookup_put nat_cmp exact_unsigned (tied_itself nat_cmp_total) entries instance name instance ∙ rw (at_itself instance) refl

pub noted_others : (entries more : IndexEntries) (instance : ℕ) (name : List ℕ) → more ≡ insert_entry nat_cmp entries instance name → (q : ℕ) → q ≢ instance → indexed_name more q ≡ indexed_name entries q
noted_others entries more instance name put q apart = ap (λ (ps : IndexEntries). indexed_name ps q) put ∙ lookup_put_apart instance q apart entries name

-- an instance is noted anew only where nothing that stands there was noted of it
pub stay_noted : (nodes : Nodes) (entries more : IndexEntries) (instance : ℕ) → ((n : List ℕ) → indexed_name entries instance ≡ Some n → stands_at nodes n instance ≡ false) → ((q : ℕ) → q ≢ instance → indexed_name more q ≡ indexed_name entries q) → StayIndexed nodes entries more
stay_noted nodes entries more instance free others = λ n q s h.
    (elim (is_at (nat_cmp q) instance) as (λ b. is_at (nat_cmp q) instance ≡ b → indexed_name more q ≡ Some n) [
      | true ↦ (λ c.
          let same : q ≡ instance = same_key q instance c in
          let P : ℕ → Type 0 = λ x. indexed_name entries x ≡ Some n in
          let Q : ℕ → Type 0 = λ x. stands_at nodes n x ≡ true in
          let t : stands_at nodes n instance ≡ false = free n (subst P same h) in
          let u : stands_at nodes n instance ≡ true = subst Q same s in
          absurd (cc))
      | false ↦ (λ c.
          let apart : q ≢ instance = λ e.
          let P : ℕ → Type 0 = λ x. is_at (nat_cmp x) instance ≡ false in
          let t : is_at (nat_cmp instance) instance ≡ false = subst P e c in
          let u : is_at (nat_cmp instance) instance ≡ true = at_itself instance in
          absurd (cc) in
          others q apart ∙ h)
    ]) refl
