-- Whether a schema is that of a store, field by field.
use Rattle.std.specs.Prelude.{ℕ, Bool, true, false, not, ◌&&◌, ◌==◌, List, [], ◌∷◌, length, Option, Some, None, is_some, bytes_eq, codes, slice_get}
use Rattle.std.specs.Option.{option_map_or}
use Rattle.sqlite_value.specs.declared.value.Value.{Value}
use Rattle.sqlite_value.specs.declared.value.Value.TheVariants as value
use Rattle.sqlite_value.specs.declared.keys.Collation.{Collation}
use Rattle.sqlite_value.specs.declared.keys.Collation.TheVariants as collation
use Rattle.sqlite_value.specs.declared.keys.Order.{Order}
use Rattle.sqlite_schema.specs.declared.schema.Kind.{Kind}
use Rattle.sqlite_schema.specs.declared.schema.Kind.TheVariants as kind
use Rattle.sqlite_schema.specs.declared.schema.Action.{Action}
use Rattle.sqlite_schema.specs.declared.schema.Action.TheVariants as action
use Rattle.sqlite_schema.specs.declared.schema.Column.{Column}
use Rattle.sqlite_schema.specs.declared.schema.Reference.{Reference}
use Rattle.sqlite_schema.specs.declared.schema.Index.{Index}
use Rattle.sqlite_schema.specs.declared.schema.Table.{Table}
use Rattle.sqlite_schema.specs.declared.schema.View.{View}
use Rattle.sqlite_schema.specs.declared.schema.Schema.{Schema}
use Rattle.rows_sql.specs.OurSchema.{children_text}

abbrev pub same_kind : Kind → Kind → Bool
same_kind kind.Integer kind.Integer = true
same_kind kind.Text kind.Text = true
same_kind kind.Blob kind.Blob = true
same_kind _ _ = false

abbrev pub is_nothing : Value → Bool
is_nothing value.Null = true
is_nothing _ = false

abbrev pub is_binary : Collation → Bool
is_binary collation.Binary = true
is_binary _ = false

-- a column of a strict table, not null, with no default
abbrev pub is_needed : List ℕ → Kind → Column → Bool
is_needed name kind c =
    bytes_eq c.name name && (same_kind c.kind kind && (c.is_strict && (c.not_null && (is_nothing c.default && (is_binary c.collation)))))

abbrev pub needed_at : List Column → ℕ → List ℕ → Kind → Bool
needed_at columns at name kind = option_map_or (is_needed name kind) (slice_get columns at) false

abbrev pub has_meta_columns : List Column → Bool
has_meta_columns cs =
    length cs == 6 && (needed_at cs 0 (codes "id") kind.Integer && (needed_at cs 1 (codes "version") kind.Integer && (needed_at cs 2 (codes "cell") kind.Text && (needed_at cs 3 (codes "secret") kind.Blob && (needed_at cs 4 (codes "epoch") kind.Integer && (needed_at cs 5 (codes "next_instance") kind.Integer))))))

abbrev pub has_node_numbers : List Column → Bool
has_node_numbers cs =
    needed_at cs 1 (codes "instance") kind.Integer && (needed_at cs 2 (codes "kind") kind.Integer && (needed_at cs 3 (codes "life") kind.Integer && (needed_at cs 4 (codes "content_gen") kind.Integer && (needed_at cs 5 (codes "acl_gen") kind.Integer && (needed_at cs 6 (codes "lock_gen") kind.Integer)))))

abbrev pub has_node_texts : List Column → Bool
has_node_texts cs =
    needed_at cs 0 (codes "name") kind.Text && (needed_at cs 7 (codes "acl_read") kind.Text && (needed_at cs 8 (codes "acl_write") kind.Text && (needed_at cs 9 (codes "acl_change") kind.Text && (needed_at cs 10 (codes "content") kind.Blob))))

abbrev pub has_node_columns : List Column → Bool
has_node_columns cs =
    length cs == 11 && (has_node_numbers cs && (has_node_texts cs))

abbrev pub has_session_columns : List Column → Bool
has_session_columns cs =
    length cs == 3 && (needed_at cs 0 (codes "client") kind.Integer && (needed_at cs 1 (codes "principal") kind.Text && (needed_at cs 2 (codes "live") kind.Integer)))

abbrev pub has_lock_columns : List Column → Bool
has_lock_columns cs =
    length cs == 5 && (needed_at cs 0 (codes "instance") kind.Integer && (needed_at cs 1 (codes "client") kind.Integer && (needed_at cs 2 (codes "handle") kind.Integer && (needed_at cs 3 (codes "mode") kind.Integer && (needed_at cs 4 (codes "delay") kind.Integer)))))

abbrev pub has_child_columns : List Column → Bool
has_child_columns cs =
    length cs == 2 && (needed_at cs 0 (codes "parent") kind.Text && (needed_at cs 1 (codes "child") kind.Text))

abbrev pub is_key_of : ℕ → Option ℕ → Bool
is_key_of n None = false
is_key_of n (Some m) = m == n

-- a UNIQUE over these places
abbrev pub has_key : List (List ℕ) → ℕ → List ℕ → Bool
has_key keys at places = option_map_or (λ key. bytes_eq key places) (slice_get keys at) false

abbrev pub is_plain : List Order → ℕ → Bool
is_plain orders at = option_map_or (λ order. order.digits == 0) (slice_get orders at) false

abbrev pub has_orders_of : Bool → List Order → Bool
has_orders_of true orders = true
has_orders_of false orders = is_plain orders 1

-- so many orders, one or two, each rising by bytes
abbrev pub has_orders : List Order → ℕ → Bool
has_orders orders count = (length orders == count) && (is_plain orders 0 && has_orders_of (count == 1) orders)

abbrev pub is_only_name : List ℕ → List (List ℕ) → Bool
is_only_name name names = (length names == 1) && option_map_or (λ only. bytes_eq only name) (slice_get names 0) false

abbrev pub is_cascade : Action → Bool
is_cascade action.Cascade = true
is_cascade _ = false

abbrev pub is_no_action : Action → Bool
is_no_action action.NoAction = true
is_no_action _ = false

-- by this column a row goes with the node whose column of this name has the same value
abbrev pub is_to_node : ℕ → List ℕ → Reference → Bool
is_to_node column name r =
    bytes_eq r.columns (column ∷ []) && (bytes_eq r.parent (codes "nodes") && (is_only_name name r.parent_columns && (is_cascade r.on_delete && (is_no_action r.on_update && (not r.is_deferred)))))

abbrev pub is_bound : ℕ → List ℕ → Table → Bool
is_bound column name t = (length t.references == 1) && option_map_or (is_to_node column name) (slice_get t.references 0) false

-- no check, no computed default, no moment, and no number that only rises
abbrev pub is_bare : Table → Bool
is_bare t =
    length t.checks == 0 && (length t.computed == 0 && (length t.stamps.places == 0 && (length t.stamps.terms == 0 && (length t.stamps.formats == 0 && (not t.is_counted)))))

abbrev pub is_meta : Table → Bool
is_meta t =
    bytes_eq t.name (codes "meta") && (t.tree == 0 && (has_meta_columns t.columns && (is_key_of 0 t.key && (bytes_eq t.primary (0 ∷ []) && (length t.uniques == 0 && (length t.orders == 0 && (length t.references == 0 && (is_bare t))))))))

abbrev pub is_nodes : Table → Bool
is_nodes t =
    bytes_eq t.name (codes "nodes") && (t.tree == 1 && (has_node_columns t.columns && (not (is_some t.key) && (bytes_eq t.primary (1 ∷ []) && (length t.uniques == 2 && (has_key t.uniques 0 (1 ∷ []) && (has_key t.uniques 1 (2 ∷ []) && (has_orders t.orders 2 && (length t.references == 0 && (is_bare t))))))))))

abbrev pub is_sessions : Table → Bool
is_sessions t =
    bytes_eq t.name (codes "sessions") && (t.tree == 4 && (has_session_columns t.columns && (is_key_of 0 t.key && (bytes_eq t.primary (0 ∷ []) && (length t.uniques == 0 && (length t.orders == 0 && (length t.references == 0 && (is_bare t))))))))

abbrev pub is_locks : Table → Bool
is_locks t =
    bytes_eq t.name (codes "locks") && (t.tree == 5 && (has_lock_columns t.columns && (not (is_some t.key) && (bytes_eq t.primary (1 ∷ 2 ∷ 3 ∷ []) && (length t.uniques == 1 && (has_key t.uniques 0 (1 ∷ 2 ∷ 3 ∷ []) && (has_orders t.orders 1 && (is_bound 1 (codes "instance") t && (is_bare t)))))))))

abbrev pub is_children : Table → Bool
is_children t =
    bytes_eq t.name (codes "children") && (t.tree == 7 && (has_child_columns t.columns && (not (is_some t.key) && (bytes_eq t.primary (1 ∷ 2 ∷ []) && (length t.uniques == 1 && (has_key t.uniques 0 (1 ∷ 2 ∷ []) && (has_orders t.orders 1 && (is_bound 2 (codes "name") t && (is_bare t)))))))))

-- it is over these places, rising by bytes
abbrev pub is_over : List ℕ → ℕ → ℕ → List ℕ → Index → Bool
is_over name tree table places x =
    bytes_eq x.name name && (x.tree == tree && (x.table == table && (bytes_eq x.columns places && (x.order.digits == 0))))

-- the same, of a UNIQUE
abbrev pub is_index : List ℕ → ℕ → ℕ → List ℕ → Index → Bool
is_index name tree table places x = is_over name tree table places x && x.is_unique

abbrev pub index_at : List Index → ℕ → List ℕ → ℕ → ℕ → List ℕ → Bool
index_at indexes at name tree table places = option_map_or (is_index name tree table places) (slice_get indexes at) false

-- that of the children by their own names
abbrev pub is_by_child : Index → Bool
is_by_child x = is_over (codes "children_by_child") 9 7 (2 ∷ []) x && not x.is_unique

abbrev pub has_by_child : List Index → Bool
has_by_child indexes = option_map_or is_by_child (slice_get indexes 4) false

abbrev pub has_key_indexes : List Index → Bool
has_key_indexes xs =
    index_at xs 0 (codes "sqlite_autoindex_nodes_1") 2 1 (1 ∷ []) && (index_at xs 1 (codes "sqlite_autoindex_nodes_2") 3 1 (2 ∷ []) && (index_at xs 2 (codes "sqlite_autoindex_locks_1") 6 5 (1 ∷ 2 ∷ 3 ∷ [])))

abbrev pub has_four_indexes : List Index → Bool
has_four_indexes xs = has_key_indexes xs && (index_at xs 3 (codes "sqlite_autoindex_children_1") 8 7 (1 ∷ 2 ∷ []))

abbrev pub has_indexes : List Index → Bool
has_indexes xs =
    length xs == 5 && (has_four_indexes xs && (has_by_child xs))

abbrev pub table_at : (Table → Bool) → List Table → ℕ → Bool
table_at test tables at = option_map_or test (slice_get tables at) false

abbrev pub has_four : List Table → Bool
has_four ts = table_at is_meta ts 0 && (table_at is_nodes ts 1 && (table_at is_sessions ts 2 && (table_at is_locks ts 3)))

abbrev pub has_fifth : List Table → Bool
has_fifth ts = table_at is_children ts 4

-- that of the children
abbrev pub is_the_children : View → Bool
is_the_children v =
    bytes_eq v.name (codes "children") && (v.tree == 7 && (bytes_eq v.sql children_text && (not (is_some v.foreign) && (not v.binds && (not v.is_bound)))))

abbrev pub has_the_children : List View → Bool
has_the_children vs = (length vs == 1) && option_map_or is_the_children (slice_get vs 0) false

abbrev pub is_ours : Schema → Bool
is_ours s =
    has_the_children s.views && (length s.indexes == 3 && (has_key_indexes s.indexes && (length s.tables == 4 && (has_four s.tables))))

abbrev pub is_second : Schema → Bool
is_second s =
    length s.views == 0 && (has_indexes s.indexes && (length s.tables == 5 && (has_four s.tables && (has_fifth s.tables))))

abbrev pub is_unindexed : Schema → Bool
is_unindexed s =
    length s.views == 0 && (length s.indexes == 4 && (has_four_indexes s.indexes && (length s.tables == 5 && (has_four s.tables && (has_fifth s.tables)))))

abbrev pub is_first : Schema → Bool
is_first s =
    length s.views == 0 && (length s.indexes == 3 && (has_key_indexes s.indexes && (length s.tables == 4 && (has_four s.tables))))
