-- The names of nodes in SQL, and the nodes that rows say.
use Rattle.std.proofs.Common.{◌≡◌, ℕ, Bool, true, false, ◌&&◌, List, Option, Some, None, Ordering, Less, Equal, Greater, cond, refl, sym, ap, ◌∙◌}
use Rattle.std.specs.BTreeMap.{is_at}
use Rattle.std.specs.Ordering.{nat_cmp, is_eq, ordering_reverse}
use Rattle.std.specs.Cmp.Lexicographic.{slice_cmp}
use Rattle.std.proofs.lemmas.Cmp.{nat_list_cmp_total}
use Rattle.sqlite_value.specs.declared.value.Value.TheVariants.{Text}
use Rattle.sqlite_value.specs.declared.keys.Collation.TheVariants.{Binary}
use Rattle.sqlite_value.specs.Order.{Row, column, bytes}
use Rattle.sqlite_schema.specs.Rules.{equal}
use Rattle.sqlite.specs.Edit.{id_in}
use Rattle.names_cell.specs.Text.{is_name}
use Rattle.node_core.specs.declared.kinds.Kind.{Kind}
use Rattle.node_core.specs.declared.kinds.Life.{Life}
use Rattle.rows_cell.specs.declared.tables.StoredNode.{StoredNode}
use Rattle.rows_sql.specs.declared.reading.stored.Acls.{Acls}
use Rattle.rows_sql.specs.Decode.{count_in, kind_of, life_of, name_in, acls_in, numbers_from, node_from, node_in}
use Rattle.rows_sql.specs.Ready.{node_shown}
use Rattle.rows_sql.proofs.Columns.{IsNodeRow, equal-Text, same_bytes}
use Rattle.rows_sql.proofs.Truths.{alone_and, same_some}

-- ---- what a row says

-- the name and the generation of the lock are those of their columns
node_parts : (k : Option Kind) (l : Option Life) (i c a g : Option ℕ) (acls : Option Acls) (name : Option (List ℕ)) (content : List ℕ) (e : List ℕ × StoredNode) → node_from (numbers_from k l i c a g) acls name content ≡ Some e
    → (name ≡ Some e.0) × (g ≡ Some e.1.lock_generation) × (i ≡ Some e.1.node.instance)
node_parts (Some k) (Some l) (Some i) (Some c) (Some a) (Some g) (Some acls) (Some name) content e is =
    let same = same_some is in
    (ap (λ (x : List ℕ × StoredNode). Some x.0) same, ap (λ (x : List ℕ × StoredNode). Some x.1.lock_generation) same, ap (λ (x : List ℕ × StoredNode). Some x.1.node.instance) same)
node_parts _ _ _ _ _ _ _ _ content e is = absurd cc

-- with another generation of the lock it says the same node but for that
pub generation_from : (k : Option Kind) (l : Option Life) (i c a g : Option ℕ) (acls : Option Acls) (name : Option (List ℕ)) (content : List ℕ) (e : List ℕ × StoredNode) (n : ℕ) → node_from (numbers_from k l i c a g) acls name content ≡ Some e
    → node_from (numbers_from k l i c a (Some n)) acls name content ≡ Some (e.0, record e.1 { lock_generation = n })
generation_from (Some k) (Some l) (Some i) (Some c) (Some a) (Some g) (Some acls) (Some name) content e n is =
    ap (λ (x : List ℕ × StoredNode). Some (x.0, record x.1 { lock_generation = n })) (same_some is)
generation_from _ _ _ _ _ _ _ _ content e n is = absurd cc

pub named_in : (b : Bool) (t s : List ℕ) → cond b (Some t) None ≡ Some s → t ≡ s
named_in true t s e = same_some e
named_in false t s e = absurd cc

pub node_said : (r : Row) (e : List ℕ × StoredNode) → node_in (node_shown r) ≡ Some e → (name_in (column r 1) ≡ Some e.0) × (count_in (column r 7) ≡ Some e.1.lock_generation) × (count_in (column r 2) ≡ Some e.1.node.instance)
node_said r e says =
    node_parts (kind_of (id_in (column r 3))) (life_of (id_in (column r 4))) (count_in (column r 2)) (count_in (column r 5)) (count_in (column r 6)) (count_in (column r 7)) (acls_in (node_shown r)) (name_in (column r 1)) (bytes (column r 11)) e says

pub name_said : (r : Row) (e : List ℕ × StoredNode) → node_in (node_shown r) ≡ Some e → bytes (column r 1) ≡ e.0
name_said r e says = named_in (is_name (bytes (column r 1))) (bytes (column r 1)) e.0 (node_said r e says).0

-- ---- which row is that of a name

-- the row has this text in the column of the name
abbrev pub has_name : List ℕ → Row → Bool
has_name t r = equal Binary (column r 1) (Text t) && true

pub eq_reversed : (o : Ordering) → is_eq (ordering_reverse o) ≡ is_eq o
eq_reversed Less = refl
eq_reversed Equal = refl
eq_reversed Greater = refl

pub name_test : (t : List ℕ) (r : Row) → IsNodeRow r → (e : List ℕ × StoredNode) → node_in (node_shown r) ≡ Some e → has_name t r ≡ is_at (slice_cmp nat_cmp t) e.0
name_test t r typed e says =
    alone_and _ ∙ ap (λ v. equal Binary v (Text t)) typed.name ∙ equal-Text (bytes (column r 1)) t ∙ sym (same_bytes (bytes (column r 1)) t)
    ∙ sym (eq_reversed (slice_cmp nat_cmp (bytes (column r 1)) t)) ∙ ap is_eq (sym (nat_list_cmp_total.antisymm t (bytes (column r 1)))) ∙ ap (λ s. is_eq (slice_cmp nat_cmp t s)) (name_said r e says)
