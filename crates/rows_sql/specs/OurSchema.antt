-- The tables of a cell's store, and their indexes, in each version.
use Rattle.std.specs.Prelude.{Bool, true, false, [], ◌∷◌, Some, None, codes, List, ℕ}
use Rattle.sqlite.specs.Collation.TheVariants.{Binary}
use Rattle.sqlite.specs.declared.types.Value.TheVariants.{Null}
use Rattle.sqlite.specs.Table.{Table}
use Rattle.sqlite.specs.Schema.{Schema}
use Rattle.sqlite.specs.Kind.{Kind}
use Rattle.sqlite.specs.Kind.TheVariants.{Integer, Text, Blob}
use Rattle.sqlite_schema.specs.declared.schema.Column.{Column}
use Rattle.sqlite_schema.specs.declared.schema.Index.{Index}
use Rattle.sqlite_schema.specs.declared.schema.Reference.{Reference}
use Rattle.sqlite_schema.specs.declared.schema.Stamps.{Stamps}
use Rattle.sqlite_schema.specs.declared.schema.View.{View}
use Rattle.sqlite_schema.specs.declared.schema.Action.TheVariants.{Cascade, NoAction}
use Rattle.sqlite_value.specs.Keys.{plain}

abbrev pub column_of : List ℕ → Kind → Bool → Column
column_of name kind not_null = record { name = name; kind = kind; is_strict = true; not_null = not_null; default = Null; collation = Binary }

abbrev pub needed : List ℕ → Kind → Column
needed name kind = column_of name kind true

abbrev pub no_stamps : Stamps
no_stamps = record { places = []; terms = []; formats = [] }

abbrev pub meta : Table
meta = record {
  name = codes "meta";
  tree = 0;
  columns = needed (codes "id") Integer ∷ needed (codes "version") Integer ∷ needed (codes "cell") Text ∷ needed (codes "secret") Blob ∷ needed (codes "epoch") Integer ∷ needed (codes "next_instance") Integer ∷ [];
  key = Some 0;
  primary = 0 ∷ [];
  uniques = [];
  orders = [];
  checks = [];
  references = [];
  computed = [];
  stamps = no_stamps;
  is_counted = false;
}

abbrev pub nodes : Table
nodes = record {
  name = codes "nodes";
  tree = 1;
  columns = needed (codes "name") Text ∷ needed (codes "instance") Integer ∷ needed (codes "kind") Integer ∷ needed (codes "life") Integer ∷ needed (codes "content_gen") Integer
      ∷ needed (codes "acl_gen") Integer ∷ needed (codes "lock_gen") Integer ∷ needed (codes "acl_read") Text ∷ needed (codes "acl_write") Text ∷ needed (codes "acl_change") Text ∷ needed (codes "content") Blob ∷ [];
  key = None;
  primary = 1 ∷ [];
  uniques = (1 ∷ []) ∷ (2 ∷ []) ∷ [];
  orders = plain ∷ plain ∷ [];
  checks = [];
  references = [];
  computed = [];
  stamps = no_stamps;
  is_counted = false;
}

abbrev pub sessions : Table
sessions = record {
  name = codes "sessions";
  tree = 4;
  columns = needed (codes "client") Integer ∷ needed (codes "principal") Text ∷ needed (codes "live") Integer ∷ [];
  key = Some 0;
  primary = 0 ∷ [];
  uniques = [];
  orders = [];
  checks = [];
  references = [];
  computed = [];
  stamps = no_stamps;
  is_counted = false;
}

-- a lock goes with its node
abbrev pub of_node : Reference
of_node = record { columns = 1 ∷ []; parent = codes "nodes"; parent_columns = codes "instance" ∷ []; on_delete = Cascade; on_update = NoAction; is_deferred = false }

abbrev pub locks : Table
locks = record {
  name = codes "locks";
  tree = 5;
  columns = needed (codes "instance") Integer ∷ needed (codes "client") Integer ∷ needed (codes "handle") Integer ∷ needed (codes "mode") Integer ∷ needed (codes "delay") Integer ∷ [];
  key = None;
  primary = 1 ∷ 2 ∷ 3 ∷ [];
  uniques = (1 ∷ 2 ∷ 3 ∷ []) ∷ [];
  orders = plain ∷ [];
  checks = [];
  references = of_node ∷ [];
  computed = [];
  stamps = no_stamps;
  is_counted = false;
}

-- ---- what earlier versions have beside them: a table of the children of directories

-- a child goes with its node
abbrev pub of_name : Reference
of_name = record { columns = 2 ∷ []; parent = codes "nodes"; parent_columns = codes "name" ∷ []; on_delete = Cascade; on_update = NoAction; is_deferred = false }

abbrev pub children : Table
children = record {
  name = codes "children";
  tree = 7;
  columns = needed (codes "parent") Text ∷ needed (codes "child") Text ∷ [];
  key = None;
  primary = 1 ∷ 2 ∷ [];
  uniques = (1 ∷ 2 ∷ []) ∷ [];
  orders = plain ∷ [];
  checks = [];
  references = of_name ∷ [];
  computed = [];
  stamps = no_stamps;
  is_counted = false;
}

-- the index of a key
abbrev pub key_index : List ℕ → ℕ → ℕ → List ℕ → Index
key_index name tree table places = record { name = name; tree = tree; table = table; columns = places; order = plain; is_unique = true }

-- the index of the children by their own names, by which the row of a child is found when its node goes
abbrev pub by_child : Index
by_child = record { name = codes "children_by_child"; tree = 9; table = 7; columns = 2 ∷ []; order = plain; is_unique = false }

-- the first version: four tables in this order, the indexes of their keys, and nothing beside them
abbrev pub first_schema : Schema
first_schema = record {
  tables = meta ∷ nodes ∷ sessions ∷ locks ∷ [];
  indexes = key_index (codes "sqlite_autoindex_nodes_1") 2 1 (1 ∷ [])
      ∷ key_index (codes "sqlite_autoindex_nodes_2") 3 1 (2 ∷ [])
      ∷ key_index (codes "sqlite_autoindex_locks_1") 6 5 (1 ∷ 2 ∷ 3 ∷ []) ∷ [];
  views = [];
}

-- the second version without its last index: the same, and behind them the table of children
abbrev pub unindexed_schema : Schema
unindexed_schema = record {
  tables = meta ∷ nodes ∷ sessions ∷ locks ∷ children ∷ [];
  indexes = key_index (codes "sqlite_autoindex_nodes_1") 2 1 (1 ∷ [])
      ∷ key_index (codes "sqlite_autoindex_nodes_2") 3 1 (2 ∷ [])
      ∷ key_index (codes "sqlite_autoindex_locks_1") 6 5 (1 ∷ 2 ∷ 3 ∷ [])
      ∷ key_index (codes "sqlite_autoindex_children_1") 8 7 (1 ∷ 2 ∷ []) ∷ [];
  views = [];
}

-- the second version: the same tables, and an index of the children by their own names
abbrev pub second_schema : Schema
second_schema = record {
  tables = meta ∷ nodes ∷ sessions ∷ locks ∷ children ∷ [];
  indexes = key_index (codes "sqlite_autoindex_nodes_1") 2 1 (1 ∷ [])
      ∷ key_index (codes "sqlite_autoindex_nodes_2") 3 1 (2 ∷ [])
      ∷ key_index (codes "sqlite_autoindex_locks_1") 6 5 (1 ∷ 2 ∷ 3 ∷ [])
      ∷ key_index (codes "sqlite_autoindex_children_1") 8 7 (1 ∷ 2 ∷ [])
      ∷ by_child ∷ [];
  views = [];
}

-- the children of directories, as the nodes make them: a view, which has no rows of its own
abbrev pub children_text : List ℕ
children_text = codes "CREATE VIEW children (parent, child) AS SELECT p.name, c.name FROM nodes AS p, nodes AS c WHERE c.name > p.name || '/' AND c.name < p.name || '0' AND length(c.name) - length(replace(c.name, '/', '')) = length(p.name) - length(replace(p.name, '/', '')) + 1"

abbrev pub the_children : View
the_children = record { name = codes "children"; tree = 7; sql = children_text; foreign = None; binds = false; is_bound = false }

-- the version of now: the four tables of the first version, the indexes of their keys, and the view
abbrev pub the_schema : Schema
the_schema = record first_schema { views = the_children ∷ [] }
