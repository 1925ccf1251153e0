-- What the reads mean: all rows of a table, in the order of its key, and of each row these columns.
use Rattle.std.specs.Prelude.{false, [], ◌∷◌, None, codes, List, ℕ, pos, negsuc}
use Rattle.sqlite.specs.Collation.TheVariants.{Binary}
use Rattle.sqlite.specs.declared.types.Value.TheVariants.{Int}
use Rattle.sqlite.specs.Term.{Term, lit, col}
use Rattle.sqlite.specs.Query.{Query, inner, end}
use Rattle.sqlite_value.specs.Keys.{ascending}
use Rattle.sqlite.specs.Command.{Command}
use Rattle.sqlite.specs.Command.TheVariants.{Select}

abbrev pub over : ℕ → List Term → List Term → Query
over table filter project = record {
  from = inner table end;
  filter = filter;
  group = None;
  project = project;
  distinct = false;
  collations = [];
  order = [];
  limit = lit (Int (negsuc 0));
  offset = lit (Int (pos 0));
}

abbrev pub meta_terms : List Term
meta_terms = col 1 0 ∷ col 1 2 ∷ col 1 3 ∷ col 1 4 ∷ col 1 5 ∷ col 1 6 ∷ []

abbrev pub nodes_terms : List Term
nodes_terms = col 1 1 ∷ col 1 2 ∷ col 1 3 ∷ col 1 4 ∷ col 1 5 ∷ col 1 6 ∷ col 1 7 ∷ col 1 8 ∷ col 1 9 ∷ col 1 10 ∷ col 1 11 ∷ []

abbrev pub sessions_terms : List Term
sessions_terms = col 1 0 ∷ col 1 2 ∷ col 1 3 ∷ []

abbrev pub locks_terms : List Term
locks_terms = col 1 1 ∷ col 1 2 ∷ col 1 3 ∷ col 1 4 ∷ col 1 5 ∷ []

abbrev pub read_meta_command : Command
read_meta_command = Select (record { lets = []; body = record (over 0 [] meta_terms) { order = (col 1 0, ascending Binary) ∷ [] } }) (codes "id" ∷ codes "version" ∷ codes "cell" ∷ codes "secret" ∷ codes "epoch" ∷ codes "next_instance" ∷ [])

abbrev pub read_nodes_command : Command
read_nodes_command = Select (record { lets = []; body = record (over 1 [] nodes_terms) { order = (col 1 1, ascending Binary) ∷ [] } })
    (codes "name" ∷ codes "instance" ∷ codes "kind" ∷ codes "life" ∷ codes "content_gen" ∷ codes "acl_gen" ∷ codes "lock_gen" ∷ codes "acl_read" ∷ codes "acl_write" ∷ codes "acl_change" ∷ codes "content" ∷ [])

abbrev pub read_sessions_command : Command
read_sessions_command = Select (record { lets = []; body = record (over 4 [] sessions_terms) { order = (col 1 0, ascending Binary) ∷ [] } }) (codes "client" ∷ codes "principal" ∷ codes "live" ∷ [])

abbrev pub read_locks_command : Command
read_locks_command = Select (record { lets = []; body = record (over 5 [] locks_terms) { order = (col 1 1, ascending Binary) ∷ (col 1 2, ascending Binary) ∷ (col 1 3, ascending Binary) ∷ [] } })
    (codes "instance" ∷ codes "client" ∷ codes "handle" ∷ codes "mode" ∷ codes "delay" ∷ [])

abbrev pub children_terms : List Term
children_terms = col 1 1 ∷ col 1 2 ∷ []

abbrev pub read_children_command : Command
read_children_command = Select (record { lets = []; body = record (over 7 [] children_terms) { order = (col 1 1, ascending Binary) ∷ (col 1 2, ascending Binary) ∷ [] } }) (codes "parent" ∷ codes "child" ∷ [])
