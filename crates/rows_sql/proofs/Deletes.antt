-- What a DELETE makes of the rows.
use Rattle.std.proofs.Common.{◌≡◌, ◌⊎◌, inl, inr, ℕ, Bool, not, List, [], ◌∷◌, filter, map, slice_get, Option, Some, None, Ok, Err, Result, sym, ap, ◌∙◌, subst}
use Rattle.std.specs.Prelude.{length, unwrap_or}
use Rattle.std.specs.List.Sorted.{IsPermutation}
use Rattle.sqlite_value.specs.Order.{Row}
use Rattle.sqlite.specs.Term.{Term, col}
use Rattle.sqlite.specs.Program.{overlay}
use Rattle.sqlite.specs.Table.{Table}
use Rattle.sqlite.specs.Tree.{rowid}
use Rattle.sqlite.specs.View.{IsShaped}
use Rattle.sqlite_trees.specs.declared.store.Shape.TheVariants as shape
use Rattle.sqlite.specs.Command.{Command}
use Rattle.sqlite.specs.Command.TheVariants.{Delete}
use Rattle.sqlite_schema.specs.declared.program.Program.{Program}
use Rattle.sqlite_rules.specs.Action as action
use Rattle.sqlite.specs.Edit.{left_by}
use Rattle.sqlite.specs.Edit.{edit_of, Applies}
use Rattle.sqlite.specs.Rowids.TheVariants.{Given}
use Rattle.sqlite_rules.specs.Calls.{ids_of}
use Rattle.sqlite_rules.specs.Action.{works}
use Rattle.sqlite_schema.specs.declared.schema.Keys.TheVariants.{Enforced}
use Rattle.sqlite.specs.Effect.{Database}
use Rattle.sqlite.specs.Does.{Tally, Does, AtPlace, OnRows, WritesRows}
use Rattle.sqlite.specs.Rows.{Written, Task}
use Rattle.sqlite.specs.State.{State, mode_of, Writes}
use Rattle.sqlite.proofs.Callers.{one_step}
use Rattle.rows_sql.specs.OurSchema.{the_schema}
use Rattle.rows_sql.specs.Commands.{over}
use Rattle.rows_sql.proofs.Trees.{removed}
use Rattle.rows_sql.proofs.Query.{passes, answered}

-- a part that gave a value did not stop on the way
pub went : {B E R : Type 0} {b : B} {Stops : E → Type 0} → ((stop : E) × Stops stop × (Ok b ≡ Err stop)) ⊎ R → R
went (inl stopped) = absurd (let e = stopped.2 in cc)
went (inr on) = on

pub same_value : {B E : Type 0} {a b : B} → ◌≡◌ {A = Result B E} (Ok a) (Ok b) → a ≡ b
same_value e = cc

-- A write to the rows of one table: what its rows are given, and that the schema stays.
module _ (at : ℕ) (table : Table) (placed : slice_get the_schema.tables at ≡ Some table) (text : List ℕ) (params : Row) (old new : State) (has : old.now.schema ≡ the_schema) where
  abbrev pub task : Task
  task = record { limit = old.step_limit; keys = Enforced; schema = the_schema; table = table; params = params }

  pub record Wrote (command : Command) (count : ℕ) : Type 0 where
    pub schema : new.now.schema ≡ the_schema
    pub written : Written
    pub did : WritesRows task old.now.trees command (Ok written)
    pub trees : new.now.trees ≡ written.trees
    pub counted : count ≡ length written.rows

  pub wrote : (command : Command) (count : ℕ) (w : Writes old new None command text params count)
      → ((limit : Option ℕ) (db : Database) (out : Result (Tally × Database) (Option _)) → Does limit (mode_of old) params db text None command out ≡ AtPlace (λ t. OnRows (record { limit = limit; keys = Enforced; schema = db.schema; table = t; params = params }) (mode_of old) None command db.trees) (slice_get db.schema.tables at) out)
      → Wrote command count
  wrote command count w on =
      let at_place = subst (λ (P : Type 0). P) (on old.step_limit old.now (Ok (w.tally, new.now))) w.changed in
      let at_schema = subst (λ s. AtPlace (λ t. OnRows (record { limit = old.step_limit; keys = Enforced; schema = s; table = t; params = params }) (mode_of old) None command old.now.trees) (slice_get s.tables at) (Ok (w.tally, new.now))) has at_place in
      let at_table = subst (λ o. AtPlace (λ t. OnRows (record { limit = old.step_limit; keys = Enforced; schema = the_schema; table = t; params = params }) (mode_of old) None command old.now.trees) o (Ok (w.tally, new.now))) placed at_schema in
      let ran = went at_table in
      let tested = went ran.2 in
      let ended = went tested.2 in
      let now = ap (λ (p : Tally × Database). p.1) (same_value ended.2) in
      record { schema = ap (λ (d : Database). d.schema) now; written = ran.0; did = ran.1; trees = ap (λ (d : Database). d.trees) now; counted = w.counted ∙ ap (λ (p : Tally × Database). unwrap_or p.0.rows 0) (same_value ended.2) }

  module _ (terms : List Term) (plainly : overlay old.now.trees [] table.tree ≡ old.now.trees table.tree) where
    abbrev pub q : Program
    q = record { lets = []; body = over table.tree terms (col 1 0 ∷ []) }

    abbrev pub goes : Row → Bool
    goes r = passes table.tree terms (col 1 0 ∷ []) params r

    pub record Deleted : Type 0 where
      pub rows : List Row
      pub shown : IsPermutation (map (λ r. rowid r ∷ []) (filter goes (old.now.trees table.tree))) rows
      pub wrote : action.Writes the_schema Enforced old.now.trees (edit_of old.now.trees table (ids_of rows) Given 0 []) (Ok new.now.trees)
      pub left : left_by old.now.trees (edit_of old.now.trees table (ids_of rows) Given 0 []) ≡ filter (λ r. not (goes r)) (old.now.trees table.tree)

    pub deleted : {count : ℕ} → IsShaped shape.Table (old.now.trees table.tree) → Wrote (Delete at q) count → Deleted
    deleted {count} shaped w =
        let queried = went w.did in
        let edited = went queried.2 in
        let trees = w.trees ∙ ap (λ (it : Written). it.trees) (same_value edited.2) in
        let perm = answered table.tree terms (col 1 0 ∷ []) params (record { schema = the_schema; trees = old.now.trees }) queried.0 plainly queried.1 in
        record {
          rows = queried.0;
          shown = perm;
          wrote = subst (λ t. action.Writes the_schema Enforced old.now.trees (edit_of old.now.trees table (ids_of queried.0) Given 0 []) (Ok t)) (sym trees) edited.1;
          left = removed goes (old.now.trees table.tree) queried.0 shaped perm;
        }

    -- with no action of a foreign key, that is all
    pub only_deleted : ((olds : List Row) → works the_schema Enforced 0 table.tree olds [] ≡ []) → (d : Deleted) → Applies the_schema Enforced old.now.trees (edit_of old.now.trees table (ids_of d.rows) Given 0 []) new.now.trees
    only_deleted none d = one_step the_schema Enforced old.now.trees new.now.trees (edit_of old.now.trees table (ids_of d.rows) Given 0 []) (none _) d.wrote
