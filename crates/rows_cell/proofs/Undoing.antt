-- Edits that are undone, the last first.
use Rattle.std.proofs.Common.{◌≡◌, ℕ, List, [], ◌∷◌, ◌++◌, Bool, true, false, cond, Some, None, refl, sym, ap, ◌∙◌}
use Rattle.std.specs.Option.{option_map_or}
use Rattle.std.specs.Map.{set_value}
use Rattle.std.specs.BTreeMap.{is_at}
use Rattle.std.specs.Cmp.Lexicographic.{slice_cmp}
use Rattle.std.specs.Ordering.{nat_cmp}
use Rattle.std.proofs.lemmas.Map.Steps.{set_value_same}
use Rattle.rows_cell.specs.declared.tables.Rows.{Rows}
use Rattle.rows_cell.specs.declared.tables.StoredNode.{StoredNode}
use Rattle.rows_cell.specs.declared.undo.FormerRow.{FormerRow}
use Rattle.rows_cell.specs.declared.undo.FormerRow.TheVariants.{OldGeneration}
use Rattle.rows_cell.specs.Rows.{StoredNodes, stored_node, at_generation}
use Rattle.rows_cell.specs.Undo.{restored, all_restored}
use Rattle.rows_cell.proofs.SoundGenerations.{found_set}

-- ---- one behind the other

last_first : (rows : Rows) (formers : List FormerRow) (former : FormerRow) → all_restored rows (formers ++ former ∷ []) ≡ all_restored (restored rows former) formers
last_first rows [] former = refl
last_first rows (first ∷ formers) former = ap (λ r. restored r first) (last_first rows formers former)

-- the last is undone
pub one_back : (rows new : Rows) (all left : List FormerRow) (former : FormerRow) → all ≡ left ++ former ∷ [] → new ≡ restored rows former → all_restored new left ≡ all_restored rows all
one_back rows new all left former are is =
    ap (λ r. all_restored r left) is ∙ sym (last_first rows left former) ∙ ap (λ fs. all_restored rows fs) (sym are)

-- one more is noted behind the others
pub one_noted : (rows new : Rows) (formers all : List FormerRow) (former : FormerRow) → all ≡ formers ++ former ∷ [] → restored new former ≡ rows → all_restored new all ≡ all_restored rows formers
one_noted rows new formers all former are back =
    ap (λ fs. all_restored new fs) are ∙ last_first new formers former ∙ ap (λ r. all_restored r formers) back

-- ---- the generation of a lock

set_twice : {K V : Type 0} (test : K → Bool) (es : List (K × V)) (v w : V) → set_value test (set_value test es v) w ≡ set_value test es w
set_twice test [] v w = refl
set_twice {K} {V} test (e ∷ es) v w =
    (elim (test e.0) as (λ b. test e.0 ≡ b → set_value test (cond b ((e.0, v) ∷ es) (e ∷ set_value test es v)) w ≡ cond b ((e.0, w) ∷ es) (e ∷ set_value test es w)) [
      | true ↦ (λ h. rw h refl)
      | false ↦ (λ h. rw h (ap (λ xs. e ∷ xs) (set_twice test es v w)))
    ]) refl

abbrev regenerated : StoredNodes → List ℕ → ℕ → StoredNodes
regenerated nodes name generation = at_generation nodes name (stored_node nodes name) generation

set_back : (nodes : StoredNodes) (name : List ℕ) (generation : ℕ) → regenerated (regenerated nodes name generation) name (option_map_or (λ node. node.lock_generation) (stored_node nodes name) 0) ≡ nodes
set_back nodes name generation =
    let test : List ℕ → Bool = is_at (slice_cmp nat_cmp name) in
    (elim (stored_node nodes name) as (λ o. stored_node nodes name ≡ o → regenerated (at_generation nodes name o generation) name (option_map_or (λ node. node.lock_generation) o 0) ≡ nodes) [
      | None ↦ (λ h. ap (λ o. at_generation nodes name o 0) h)
      | Some node ↦ (λ h.
          let other : StoredNode = record node { lock_generation = generation } in
          ap (λ o. at_generation (set_value test nodes other) name o node.lock_generation) (found_set test nodes node other h)
          ∙ set_twice test nodes other node
          ∙ set_value_same test nodes node h)
    ]) refl

pub generation_back : (rows new : Rows) (name key : List ℕ) (generation former : ℕ) → key ≡ name → new ≡ record rows { nodes = at_generation rows.nodes name (stored_node rows.nodes name) generation }
    → former ≡ option_map_or (λ node. node.lock_generation) (stored_node rows.nodes name) 0 → restored new (OldGeneration key former) ≡ rows
generation_back rows new name key generation former same is was =
    ap (λ r. restored r (OldGeneration key former)) is
    ∙ ap (λ k. record rows { nodes = regenerated (regenerated rows.nodes name generation) k former }) same
    ∙ ap (λ n. record rows { nodes = regenerated (regenerated rows.nodes name generation) name n }) was
    ∙ ap (λ nodes. record rows { nodes = nodes }) (set_back rows.nodes name generation)
