-- A handle can carry the numbers of a master that is kept beside its rows.
use Rattle.std.proofs.Common.{◌≡◌, ◌≤◌, ◌<◌, ℕ, List, [], ◌∷◌, true, false, cond, Option, Some, None, refl, sym, ap, subst, ◌∙◌, arith}
use Rattle.std.specs.Prelude.{◌&&◌, nat_le, nat_lt}
use Rattle.std.specs.List.{list_all}
use Rattle.std.specs.Option.{option_map, option_map_or}
use Rattle.std.specs.BTreeMap.{is_at}
use Rattle.std.specs.Cmp.Lexicographic.{slice_cmp}
use Rattle.std.specs.Ordering.{nat_cmp}
use Rattle.std.specs.Str.{bytes_eq}
use Rattle.std.proofs.lemmas.Bool.{and_parts}
use Rattle.std.proofs.lemmas.Bool.Decides.{nat_tests}
use Rattle.names_cell.specs.Text.{cell_of, root_of}
use Rattle.node_core.specs.Limits.{number_limit, number_end}
use Rattle.node_core.specs.Nodes.{get_node}
use Rattle.node_core.specs.declared.nodes.Node.{Node}
use Rattle.rows_cell.specs.Rows.{StoredNodes, stored_node}
use Rattle.rows_cell.specs.Sound.{is_number, is_directory, numbers_fit, content_fits, parent_fits, node_fits}
use Rattle.rows_cell.specs.declared.tables.StoredNode.{StoredNode}
use Rattle.rows_cell.proofs.RowNodes.{nodes_get}
use Rattle.rows_cell.proofs.SoundParts.{five_parts, SoundParts, parts_of}
use Rattle.tags_cell.specs.Handles.{is_ordinal}
use Rattle.master_laws.specs.Makes.{KeptNumbersAreCarried}

at_most : (limit n : ℕ) → nat_le n limit ≡ true → n ≤ limit
at_most limit n h = grind (arith, nat_tests)

at_least : (least n : ℕ) → nat_le least n ≡ true → least ≤ n
at_least least n h = grind (arith, nat_tests)

is_below : (next n : ℕ) → nat_lt n next ≡ true → n < next
is_below next n h = grind (arith, nat_tests)

le_test : (a b : ℕ) → a ≤ b → nat_le a b ≡ true
le_test a b h = grind (arith, nat_tests)

lt_test : (a b : ℕ) → a < b → nat_lt a b ≡ true
lt_test a b h = grind (arith, nat_tests)

below_end : (n : ℕ) → n ≤ number_limit → n < number_end
below_end n h = omega (arith, h)

-- a handle carries the numbers from 1 to the greatest
is_carried : (n : ℕ) → 1 ≤ n → n ≤ number_limit → is_ordinal n ≡ true
is_carried n low high = rw (le_test 1 n low, lt_test n number_end (below_end n high)) refl

under : (n next : ℕ) → n < next → next ≤ number_limit → n ≤ number_limit
under n next h k = omega (arith, h, k)

above_one : (n next : ℕ) → 1 ≤ n → n < next → 1 ≤ next
above_one n next h k = omega (arith, h, k)

-- ---- instances

given_out : (cell : List ℕ) (next : ℕ) (all : StoredNodes) (entry : List ℕ × StoredNode) → node_fits cell next all entry ≡ true → (1 ≤ entry.1.node.instance) × (entry.1.node.instance < next)
given_out cell next all entry h =
    let front = and_parts (bytes_eq (cell_of entry.0) cell && parent_fits all entry.0 && numbers_fit next entry.1) (content_fits entry.1.node.kind entry.1.node) h in
    let fits = and_parts (bytes_eq (cell_of entry.0) cell && parent_fits all entry.0) (numbers_fit next entry.1) front.0 in
    let n = five_parts (nat_le 1 entry.1.node.instance) (nat_lt entry.1.node.instance next) (is_number entry.1.node.content_generation) (is_number entry.1.node.acl_generation) (is_number entry.1.lock_generation) fits.1 in
    (at_least 1 entry.1.node.instance n.0, is_below next entry.1.node.instance n.1)

found_given_out : (cell : List ℕ) (next : ℕ) (all nodes : StoredNodes) (name : List ℕ) (node : StoredNode) → list_all (node_fits cell next all) nodes ≡ true → stored_node nodes name ≡ Some node → (1 ≤ node.node.instance) × (node.node.instance < next)
found_given_out cell next all [] name node h = λ is. absurd cc
found_given_out cell next all (e ∷ es) name node h =
    let t = and_parts (node_fits cell next all e) (list_all (node_fits cell next all) es) h in
    elim (is_at (slice_cmp nat_cmp name) e.0) as (λ b. cond b (Some e.1) (stored_node es name) ≡ Some node → (1 ≤ node.node.instance) × (node.node.instance < next)) [
      | true ↦ (λ is.
          let same : e.1 ≡ node = cc in
          let P : StoredNode → Type 0 = λ n. (1 ≤ n.node.instance) × (n.node.instance < next) in
          subst P same (given_out cell next all e t.0))
      | false ↦ (λ is. found_given_out cell next all es name node t.1 is)
    ]

stored : (o : Option StoredNode) (view : Node) → option_map (λ (node : StoredNode). node.node) o ≡ Some view → (node : StoredNode) × (o ≡ Some node) × (node.node ≡ view)
stored None view h = absurd cc
stored (Some node) view h = (node, refl, cc)

directory : (o : Option StoredNode) → option_map_or (λ (node : StoredNode). is_directory node.node.kind) o false ≡ true → (node : StoredNode) × (o ≡ Some node)
directory None h = absurd cc
directory (Some node) h = (node, refl)

-- ---- the law

pub kept_numbers_are_carried : KeptNumbersAreCarried
kept_numbers_are_carried cell name rows s kept first =
    let parts : SoundParts cell rows = parts_of cell rows kept.sound_rows in
    let epoch : s.epoch ≤ number_limit = subst (λ n. n ≤ number_limit) (sym kept.epoch) (at_most number_limit rows.epoch parts.epoch) in
    let next : rows.next_instance ≤ number_limit = at_most number_limit rows.next_instance parts.next in
    let root = directory (stored_node rows.nodes (root_of cell)) parts.root in
    let root_fits = found_given_out cell rows.next_instance rows.nodes rows.nodes (root_of cell) root.0 parts.nodes root.1 in
    let next_carried : is_ordinal rows.next_instance ≡ true = is_carried rows.next_instance (above_one root.0.node.instance rows.next_instance root_fits.0 root_fits.1) next in (
      record {
        epoch = is_carried s.epoch first epoch;
        instance = λ view there.
            let n = stored (stored_node rows.nodes name) view (sym (nodes_get rows.nodes name) ∙ sym (ap (λ nodes. get_node nodes name) kept.nodes) ∙ there) in
            let fits = found_given_out cell rows.next_instance rows.nodes rows.nodes name n.0 parts.nodes n.1 in
            subst (λ v. is_ordinal v.instance ≡ true) n.2 (is_carried n.0.node.instance fits.0 (under n.0.node.instance rows.next_instance fits.1 next));
      },
      subst (λ n. is_ordinal n ≡ true) (sym kept.next_instance) next_carried,
    )
