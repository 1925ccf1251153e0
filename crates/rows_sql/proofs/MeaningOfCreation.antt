-- What the statements mean that make a store.
use Rattle.std.proofs.Common.{◌≡◌, refl, Ok, false, codes}
use Rattle.sqlite_tied.specs.Compute.{everything}
use Rattle.sqlite.specs.Listing.{understood}
use Rattle.sqlite.specs.Given.{IsPlain}
use Rattle.sqlite.specs.Compile.{table_defined_by, view_defined_by}
use Rattle.sqlite.specs.Command.TheVariants.{CreateTable, CreateView, DropTable}
use Rattle.sqlite.proofs.Callers.{command_of, statement_of}
use Rattle.sqlite.specs.Does.{is_acted_on}
use Rattle.sqlite_schema.specs.declared.schema.Keys.TheVariants.{Enforced}
use Rattle.sqlite_schema.specs.Names.{same_name}
use Rattle.rows_sql.specs.OurSchema.{meta, nodes, sessions, locks, children, children_text, first_schema, unindexed_schema, second_schema, the_schema}
use Rattle.rows_sql.specs.Carrying.{drop_children_text}
use Rattle.rows_sql.specs.Creation.{make_meta_text, make_nodes_text, make_sessions_text, make_locks_text, put_cell_text, put_cell_command, no_schema, with_meta, with_nodes, with_sessions}

pub put_cell_is : command_of (understood the_schema put_cell_text) ≡ put_cell_command
unfolding understood everything
put_cell_is = refl

pub put_cell_plain : IsPlain (understood the_schema put_cell_text)
unfolding understood everything
put_cell_plain = (refl, refl)

pub meta_made : (command_of (understood no_schema make_meta_text) ≡ CreateTable) × (statement_of make_meta_text (understood no_schema make_meta_text) ≡ make_meta_text)
unfolding understood everything
meta_made = (refl, refl)

pub meta_made_plain : IsPlain (understood no_schema make_meta_text)
unfolding understood everything
meta_made_plain = (refl, refl)

pub meta_defined : table_defined_by make_meta_text ≡ Ok (record meta { tree = 0 })
unfolding understood everything
meta_defined = refl

pub nodes_made : (command_of (understood with_meta make_nodes_text) ≡ CreateTable) × (statement_of make_nodes_text (understood with_meta make_nodes_text) ≡ make_nodes_text)
unfolding understood everything
nodes_made = (refl, refl)

pub nodes_made_plain : IsPlain (understood with_meta make_nodes_text)
unfolding understood everything
nodes_made_plain = (refl, refl)

pub nodes_defined : table_defined_by make_nodes_text ≡ Ok (record nodes { tree = 0 })
unfolding understood everything
nodes_defined = refl

pub sessions_made : (command_of (understood with_nodes make_sessions_text) ≡ CreateTable) × (statement_of make_sessions_text (understood with_nodes make_sessions_text) ≡ make_sessions_text)
unfolding understood everything
sessions_made = (refl, refl)

pub sessions_made_plain : IsPlain (understood with_nodes make_sessions_text)
unfolding understood everything
sessions_made_plain = (refl, refl)

pub sessions_defined : table_defined_by make_sessions_text ≡ Ok (record sessions { tree = 0 })
unfolding understood everything
sessions_defined = refl

pub locks_made : (command_of (understood with_sessions make_locks_text) ≡ CreateTable) × (statement_of make_locks_text (understood with_sessions make_locks_text) ≡ make_locks_text)
unfolding understood everything
locks_made = (refl, refl)

pub locks_made_plain : IsPlain (understood with_sessions make_locks_text)
unfolding understood everything
locks_made_plain = (refl, refl)

pub locks_defined : table_defined_by make_locks_text ≡ Ok (record locks { tree = 0 })
unfolding understood everything
locks_defined = refl

pub view_made : (command_of (understood first_schema children_text) ≡ CreateView) × (statement_of children_text (understood first_schema children_text) ≡ children_text)
unfolding understood everything
view_made = (refl, refl)

pub view_made_plain : IsPlain (understood first_schema children_text)
unfolding understood everything
view_made_plain = (refl, refl)

pub view_defined : view_defined_by children_text ≡ Ok (codes "children")
unfolding understood everything
view_defined = refl

-- the table of children goes, of a store of the second version with its last index or without it
pub drop_second : command_of (understood second_schema drop_children_text) ≡ DropTable 4
unfolding understood everything
drop_second = refl

pub drop_second_plain : IsPlain (understood second_schema drop_children_text)
unfolding understood everything
drop_second_plain = (refl, refl)

pub drop_unindexed : command_of (understood unindexed_schema drop_children_text) ≡ DropTable 4
unfolding understood everything
drop_unindexed = refl

pub drop_unindexed_plain : IsPlain (understood unindexed_schema drop_children_text)
unfolding understood everything
drop_unindexed_plain = (refl, refl)

-- no row of another table goes with a child
pub second_idle : is_acted_on second_schema Enforced children ≡ false
unfolding same_name
second_idle = refl

pub unindexed_idle : is_acted_on unindexed_schema Enforced children ≡ false
unfolding same_name
unindexed_idle = refl
