-- What the statements of the edits mean.
use Rattle.std.specs.Prelude.{[], ◌∷◌, Some, pos}
use Rattle.sqlite.specs.Collation.TheVariants.{Binary}
use Rattle.sqlite.specs.declared.types.Value.TheVariants.{Null, Int}
use Rattle.sqlite.specs.Term.{Term, lit, col, op2}
use Rattle.sqlite_sql.specs.declared.ops.BinaryOp.TheVariants.{Compare}
use Rattle.sqlite_sql.specs.declared.ops.CompareOp.TheVariants.{Eq, Ne}
use Rattle.sqlite.specs.Command.{Command}
use Rattle.sqlite.specs.Command.TheVariants.{Insert, InsertOr, Update, Delete}
use Rattle.sqlite.specs.Source.TheVariants.{Values}
use Rattle.sqlite_schema.specs.declared.command.Conflict.TheVariants.{Abort}
use Rattle.rows_sql.specs.Commands.{over}

abbrev pub is : Term → Term → Term
is a b = op2 (Compare Eq Binary) a b

abbrev pub isnt : Term → Term → Term
isnt a b = op2 (Compare Ne Binary) a b

abbrev pub set_epoch_command : Command
set_epoch_command = Update 0 (record { lets = []; body = over 0 (is (col 1 0) (lit (Int (pos 1))) ∷ []) (col 1 0 ∷ col 1 0 ∷ lit Null ∷ col 1 2 ∷ col 1 3 ∷ col 1 4 ∷ col 0 0 ∷ col 1 6 ∷ []) })

abbrev pub set_next_instance_command : Command
set_next_instance_command = Update 0 (record { lets = []; body = over 0 (is (col 1 0) (lit (Int (pos 1))) ∷ isnt (col 1 6) (col 0 0) ∷ []) (col 1 0 ∷ col 1 0 ∷ lit Null ∷ col 1 2 ∷ col 1 3 ∷ col 1 4 ∷ col 1 5 ∷ col 0 0 ∷ []) })

abbrev pub set_ended_below_command : Command
set_ended_below_command = Update 0 (record { lets = []; body = over 0 (is (col 1 0) (lit (Int (pos 1))) ∷ []) (col 1 0 ∷ col 1 0 ∷ lit Null ∷ col 0 0 ∷ col 1 3 ∷ col 1 4 ∷ col 1 5 ∷ col 1 6 ∷ []) })

abbrev pub renew_node_command : Command
renew_node_command = Update 1 (record { lets = []; body = over 1 (is (col 1 1) (col 0 0) ∷ []) (col 1 0 ∷ col 1 0 ∷ col 1 1 ∷ col 0 1 ∷ col 0 2 ∷ col 0 3 ∷ col 0 4 ∷ col 0 5 ∷ col 1 7 ∷ col 0 6 ∷ col 0 7 ∷ col 0 8 ∷ col 0 9 ∷ []) })

abbrev pub add_node_command : Command
add_node_command = Insert 1 (Values (lit Null ∷ col 0 0 ∷ col 0 1 ∷ col 0 2 ∷ col 0 3 ∷ col 0 4 ∷ col 0 5 ∷ lit (Int (pos 0)) ∷ col 0 6 ∷ col 0 7 ∷ col 0 8 ∷ col 0 9 ∷ []) 12)

abbrev pub set_lock_generation_command : Command
set_lock_generation_command = Update 1 (record { lets = []; body = over 1 (is (col 1 1) (col 0 0) ∷ []) (col 1 0 ∷ col 1 0 ∷ col 1 1 ∷ col 1 2 ∷ col 1 3 ∷ col 1 4 ∷ col 1 5 ∷ col 1 6 ∷ col 0 1 ∷ col 1 8 ∷ col 1 9 ∷ col 1 10 ∷ col 1 11 ∷ []) })

abbrev pub remove_node_command : Command
remove_node_command = Delete 1 (record { lets = []; body = over 1 (is (col 1 1) (col 0 0) ∷ []) (col 1 0 ∷ []) })

abbrev pub put_session_command : Command
put_session_command = InsertOr 2 Abort (Values (col 0 0 ∷ lit Null ∷ col 0 1 ∷ col 0 2 ∷ []) 4) (record {
  target = Some (0 ∷ []);
  update = Some (record { lets = []; body = over 4 (is (col 1 0) (col 0 3) ∷ []) (col 1 0 ∷ col 1 0 ∷ lit Null ∷ col 0 6 ∷ col 0 7 ∷ []) });
} ∷ [])

abbrev pub remove_session_command : Command
remove_session_command = Delete 2 (record { lets = []; body = over 4 (is (col 1 0) (col 0 0) ∷ []) (col 1 0 ∷ []) })

abbrev pub put_lock_command : Command
put_lock_command = InsertOr 3 Abort (Values (lit Null ∷ col 0 0 ∷ col 0 1 ∷ col 0 2 ∷ col 0 3 ∷ col 0 4 ∷ []) 6) (record {
  target = Some (1 ∷ 2 ∷ 3 ∷ []);
  update = Some (record { lets = []; body = over 5 (is (col 1 0) (col 0 5) ∷ []) (col 1 0 ∷ col 1 0 ∷ col 1 1 ∷ col 1 2 ∷ col 1 3 ∷ col 0 10 ∷ col 0 11 ∷ []) });
} ∷ [])

abbrev pub remove_lock_command : Command
remove_lock_command = Delete 3 (record { lets = []; body = over 5 (is (col 1 1) (col 0 0) ∷ is (col 1 2) (col 0 1) ∷ is (col 1 3) (col 0 2) ∷ []) (col 1 0 ∷ []) })
