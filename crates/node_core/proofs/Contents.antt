-- The bytes of all contents, as a map changes.
use Rattle.std.proofs.Common.{◌≡◌, ℕ, ◌+◌, ◌^◌, ◌≤◌, List, ◌∷◌, Option, Some, ap, ◌∙◌, arith}
use Rattle.std.specs.Prelude.{unwrap_or}
use Rattle.std.specs.Option.{option_map}
use Rattle.std.specs.Map.{lookup, set_value, remove_entry, values_of}
use Rattle.std.specs.BTreeMap.{is_at, insert_entry}
use Rattle.std.specs.Ordering.{nat_cmp}
use Rattle.std.specs.Cmp.Lexicographic.{slice_cmp, nat_list_cmp_total}
use Rattle.std.proofs.lemmas.Map.Entries.{sum_by-insert_entry, sum_by-set_value, sum_by-remove_entry}
use Rattle.std.proofs.lemmas.List.Sums.{sum_by-cons}
use Rattle.node_core.specs.Nodes.{Nodes, HasNamesInOrder}
use Rattle.node_core.specs.Room.{content_length, content_bytes}
use Rattle.node_core.specs.declared.nodes.Node.{Node}

abbrev at : List ℕ → Nodes → Option Node
at name nodes = lookup (is_at (slice_cmp nat_cmp name)) nodes

-- a node is put: what stood there before went
pub put_counted : (old new : Nodes) (name : List ℕ) (node : Node) (former : Option Node) (went came : ℕ) → HasNamesInOrder old → new ≡ insert_entry (slice_cmp nat_cmp) old name node → former ≡ at name old
    → went ≡ unwrap_or (option_map content_length former) 0 → came ≡ content_length node → content_bytes new + went ≡ content_bytes old + came
put_counted old new name node former went came ordered is found went_is came_is =
    let whole = sum_by-insert_entry content_length nat_list_cmp_total old name node ordered.in_order in
    let a : content_bytes new ≡ content_bytes (insert_entry (slice_cmp nat_cmp) old name node) = ap content_bytes is in
    let b : went ≡ unwrap_or (option_map content_length (at name old)) 0 = went_is ∙ ap (λ o. unwrap_or (option_map content_length o) 0) found in
    omega (arith, whole, a, b, came_is)

-- one is put in the place of another
pub replaced_counted : (old new : Nodes) (name : List ℕ) (node former : Node) (went came : ℕ) → new ≡ set_value (is_at (slice_cmp nat_cmp name)) old node → at name old ≡ Some former
    → went ≡ content_length former → came ≡ content_length node → content_bytes new + went ≡ content_bytes old + came
replaced_counted old new name node former went came is found went_is came_is =
    let whole = sum_by-set_value content_length (is_at (slice_cmp nat_cmp name)) old former node found in
    let a : content_bytes new ≡ content_bytes (set_value (is_at (slice_cmp nat_cmp name)) old node) = ap content_bytes is in
    omega (arith, whole, a, went_is, came_is)

-- one is taken away
pub gone_counted : (old new : Nodes) (name : List ℕ) (former : Option Node) (went : ℕ) → new ≡ remove_entry (is_at (slice_cmp nat_cmp name)) old → former ≡ at name old
    → went ≡ unwrap_or (option_map content_length former) 0 → content_bytes new + went ≡ content_bytes old + 0
gone_counted old new name former went is found went_is =
    let whole = sum_by-remove_entry content_length (is_at (slice_cmp nat_cmp name)) old in
    let a : content_bytes new ≡ content_bytes (remove_entry (is_at (slice_cmp nat_cmp name)) old) = ap content_bytes is in
    let b : went ≡ unwrap_or (option_map content_length (at name old)) 0 = went_is ∙ ap (λ o. unwrap_or (option_map content_length o) 0) found in
    omega (arith, whole, a, b)

-- one content more of those that are left to count
pub count_more : (sum next length all : ℕ) (e : List ℕ × Node) (es : Nodes) → sum + content_bytes (e ∷ es) ≡ all → length ≡ content_length e.1 → next ≡ sum + length → next + content_bytes es ≡ all
count_more sum next length all e es is length_is next_is = omega (arith, is, length_is, next_is, sum_by-cons content_length e.1 (values_of es))

pub count_past : (sum length all : ℕ) (e : List ℕ × Node) (es : Nodes) → sum + content_bytes (e ∷ es) ≡ all → length ≡ content_length e.1 → 2 ^ 64 ≤ sum + length → 2 ^ 64 ≤ all
count_past sum length all e es is length_is past = omega (arith, is, length_is, past, sum_by-cons content_length e.1 (values_of es))
